-- Tests, depth, and the nodes that a marking finds. Assumes nothing.
use mathlib.Core.Path.{◌≡◌, refl, sym, ap, ◌∙◌, subst, fun_ext}
use mathlib.Core.Logic.{◌⊎◌, inl, inr, ◌↔◌}
use mathlib.Core.Bool.{Bool, true, false, cond}
use Prim.Native.Nat.{ℕ, zero, suc, ◌+◌, ◌-◌, max, ◌≤◌, ◌<◌}
use native.Mathlib.Nat.{zero-add, add-suc, add-zero}
use native.Mathlib.Decide.{ℕ_discrete, dec_le}
use native.Mathlib.Omega.{arith}
use lib.Dec.{eqb}
use borrow.Author.Tests.{eqb-true, eqb-false}
use Rattle.model.specs.Rows.{Bits, put}
use Rattle.model.specs.Sets.{Tally, none, hit, miss}
use Rattle.model.specs.Parts.{fixed, Matters}
use Rattle.model.specs.declared.node.Ref.{Ref}
use Rattle.model.specs.declared.node.Ref.TheVariants.{Code as leaf, Node as node}
use Rattle.model.specs.Diagram.{Table, top, step, walk, value, Known, Reduced, Reached, tests_from, deep_from}
use Rattle.model.proofs.Rows.{put_here, put_else}
use Rattle.model.proofs.Diagram.{step_at, step_off, walk_stay, walk_agree, walk_known, walk_top, value_fixed}
use Rattle.model.proofs.Nodes.{no_part, node_matters}

-- a tally of no numbers is 0
tally_zero : (P : ℕ → Type 0) (n : ℕ) → Tally P zero n → n ≡ 0
tally_zero P n none = refl

-- a tally of one number more: it counts, or it does not
tally_suc : (P : ℕ → Type 0) (m n : ℕ) → Tally P (suc m) n → ((k : ℕ) × P m × (n ≡ suc k) × Tally P m k) ⊎ (¬ P m × Tally P m n)
tally_suc P m n (hit {n = k} h s) = inl (k, h, refl, s)
tally_suc P m n (miss h s) = inr (h, s)

-- a tally is one number
pub tally_unique : (P : ℕ → Type 0) (m a b : ℕ) → Tally P m a → Tally P m b → a ≡ b
tally_unique P zero a b s z = tally_zero P a s ∙ sym (tally_zero P b z)
tally_unique P (suc m) a b s z = go (tally_suc P m a s) (tally_suc P m b z) (tally_unique P m)
  where
    go : ((k : ℕ) × P m × (a ≡ suc k) × Tally P m k) ⊎ (¬ P m × Tally P m a) → ((k : ℕ) × P m × (b ≡ suc k) × Tally P m k) ⊎ (¬ P m × Tally P m b)
        → ((x y : ℕ) → Tally P m x → Tally P m y → x ≡ y) → a ≡ b
    go (inl (k, h, e, x)) (inl (l, g, d, y)) ih = e ∙ ap suc (ih k l x y) ∙ sym d
    go (inl (k, h, e, x)) (inr (n, y)) ih = absurd (n h)
    go (inr (n, x)) (inl (l, g, d, y)) ih = absurd (n g)
    go (inr (n, x)) (inr (m, y)) ih = ih a b x y

module _ {w : ℕ} {In : ℕ → Type 0} {t : Table} (red : Reduced w In t) where
  -- after the bits before p, the bit at p matters exactly when they lead to a node at p
  pub test_top : (p : ℕ) → p < w → (row : Bits) (r : Ref) → Known In r → Matters p (fixed p row (value w t r)) ↔ (top w t (walk t p row r) ≡ p)
  test_top p l row r k = (there, back)
    where
      a : Ref
      a = walk t p row r

      known : Known In a
      known = walk_known red p row r k

      left_is : fixed p row (value w t r) ≡ value w t a
      left_is = fun_ext (λ v. value_fixed red (w - p) p (omega arith) row v r k)

      there : Matters p (fixed p row (value w t r)) → top w t a ≡ p
      there m = go (ℕ_discrete (top w t a) p)
        where
          go : Dec (top w t a ≡ p) → top w t a ≡ p
          go (yes e) = e
          go (no n) = absurd (no_part red p a l known (omega (arith, walk_top red p row r (omega arith) k)) (subst (Matters p) left_is m))

      at : (b : Ref) → Known In b → top w t b ≡ p → Matters p (value w t b)
      at (leaf c) k e = absurd (omega arith)
      at (node i) k e = subst (λ n. Matters n (value w t (node i))) e (node_matters red i k)

      back : top w t a ≡ p → Matters p (fixed p row (value w t r))
      back e = subst (Matters p) (sym left_is) (at a known e)

  -- the tally of the places before p, and then the tests from there
  pub tests_tally : (d p n : ℕ) → p + d ≤ w → (row : Bits) (r : Ref) → Known In r
      → Tally (λ p. Matters p (fixed p row (value w t r))) p n
      → Tally (λ p. Matters p (fixed p row (value w t r))) (p + d) (n + tests_from w t d p row (walk t p row r))
  unfolding tests_from walk
  tests_tally zero p n l row r k s =
      subst (λ m. Tally (λ p. Matters p (fixed p row (value w t r))) m (n + 0)) (sym (add-zero p))
      (subst (Tally (λ p. Matters p (fixed p row (value w t r))) p) (sym (add-zero n)) s)
  tests_tally (suc d) p n l row r k s =
      go (eqb (top w t (walk t p row r)) p) refl (λ m z. tests_tally d (suc p) m (omega arith) row r k z)
    where
      P : ℕ → Type 0
      P p = Matters p (fixed p row (value w t r))

      rest : ℕ
      rest = tests_from w t d (suc p) row (step t p (row p) (walk t p row r))

      go : (b : Bool) → eqb (top w t (walk t p row r)) p ≡ b
          → ((m : ℕ) → Tally P (suc p) m → Tally P (suc p + d) (m + rest))
          → Tally P (p + suc d) (n + (cond b 1 0 + rest))
      go true e f =
          let h : P p = (test_top p (omega arith) row r k).1 (eqb-true (top w t (walk t p row r)) p e) in
          let x : Tally P (suc p + d) (suc n + rest) = f (suc n) (hit h s) in
          subst (λ a. Tally P a (n + (1 + rest))) (omega arith) (subst (Tally P (suc p + d)) (omega arith) x)
      go false e f =
          let h : ¬ P p = λ m. eqb-false (top w t (walk t p row r)) p e ((test_top p (omega arith) row r k).0 m) in
          let x : Tally P (suc p + d) (n + rest) = f n (miss h s) in
          subst (λ a. Tally P a (n + (0 + rest))) (omega arith) (subst (Tally P (suc p + d)) (omega arith) x)

  -- the tests from r are the places whose bit matters after the bits before it
  pub tests_are : (row : Bits) (r : Ref) → Known In r → Tally (λ p. Matters p (fixed p row (value w t r))) w (tests_from w t w 0 row r)
  unfolding walk
  tests_are row r k =
      subst (Tally P w) (zero-add (tests_from w t w 0 row r))
      (subst (λ n. Tally P n (0 + tests_from w t w 0 row r)) (zero-add w) (tests_tally w 0 0 (omega arith) row r k none))
    where
      P : ℕ → Type 0
      P p = Matters p (fixed p row (value w t r))

module _ (w : ℕ) (t : Table) where
  -- the tests from p on go by the bits from p on
  tests_agree : (d p : ℕ) (v row : Bits) (r : Ref) → ((q : ℕ) → p ≤ q → v q ≡ row q) → tests_from w t d p v r ≡ tests_from w t d p row r
  unfolding tests_from
  tests_agree zero p v row r h = refl
  tests_agree (suc d) p v row r h =
      ap (λ b. cond (eqb (top w t r) p) 1 0 + tests_from w t d (suc p) v (step t p b r)) (h p (omega arith))
      ∙ ap (λ n. cond (eqb (top w t r) p) 1 0 + n) (tests_agree d (suc p) v row (step t p (row p) r) (λ q l. h q (omega arith)))

  -- no row makes more tests than the depth
  pub deep_most : (d p : ℕ) (row : Bits) (r : Ref) → tests_from w t d p row r ≤ deep_from w t d p r
  unfolding tests_from deep_from
  deep_most zero p row r = omega arith
  deep_most (suc d) p row r = go (row p) (deep_most d (suc p) row (step t p (row p) r))
    where
      one : ℕ
      one = cond (eqb (top w t r) p) 1 0

      low : ℕ
      low = deep_from w t d (suc p) (step t p false r)

      high : ℕ
      high = deep_from w t d (suc p) (step t p true r)

      go : (b : Bool) → tests_from w t d (suc p) row (step t p b r) ≤ deep_from w t d (suc p) (step t p b r)
          → one + tests_from w t d (suc p) row (step t p b r) ≤ one + max low high
      go true h = omega arith
      go false h = omega arith

  -- and some row makes as many
  pub deep_some : (d p : ℕ) (r : Ref) → (row : Bits) × (tests_from w t d p row r ≡ deep_from w t d p r)
  unfolding tests_from deep_from
  deep_some zero p r = (λ q. false, refl)
  deep_some (suc d) p r = pick (dec_le low high) (deep_some d (suc p) (step t p false r)) (deep_some d (suc p) (step t p true r))
    where
      one : ℕ
      one = cond (eqb (top w t r) p) 1 0

      low : ℕ
      low = deep_from w t d (suc p) (step t p false r)

      high : ℕ
      high = deep_from w t d (suc p) (step t p true r)

      on : (b : Bool) (row : Bits) → tests_from w t d (suc p) (put p b row) (step t p (put p b row p) r) ≡ tests_from w t d (suc p) row (step t p b r)
      on b row =
          ap (λ c. tests_from w t d (suc p) (put p b row) (step t p c r)) (put_here p b row)
          ∙ tests_agree d (suc p) (put p b row) row (step t p b r) (λ q l. put_else p b row q (omega arith))

      pick : Dec (low ≤ high) → ((row : Bits) × (tests_from w t d (suc p) row (step t p false r) ≡ low))
          → ((row : Bits) × (tests_from w t d (suc p) row (step t p true r) ≡ high))
          → (row : Bits) × (one + tests_from w t d (suc p) row (step t p (row p) r) ≡ one + max low high)
      pick (yes h) x y = (put p true y.0, ap (λ n. one + n) (on true y.0 ∙ y.1 ∙ omega arith))
      pick (no h) x y = (put p false x.0, ap (λ n. one + n) (on false x.0 ∙ x.1 ∙ omega arith))

module _ (w : ℕ) (t : Table) where
  -- a walk that has come to a later place stays there
  walk_on : (d p : ℕ) (row : Bits) (r a : Ref) → walk t p row r ≡ a → p + d ≤ top w t a → walk t (p + d) row r ≡ a
  unfolding walk
  walk_on zero p row r a e l = ap (λ n. walk t n row r) (add-zero p) ∙ e
  walk_on (suc d) p row r a e l =
      ap (λ n. walk t n row r) (add-suc p d) ∙ ap (step t (p + d) (row (p + d))) (walk_on d p row r a e (omega arith))
      ∙ step_off w t (p + d) (row (p + d)) a (omega arith)

module _ (t : Table) where
  -- a set that holds the root and, with a node, its two ways holds all that is reached
  pub marked : (M : ℕ → Type 0) → ((i : ℕ) → M i → Known M (t i).low) → ((i : ℕ) → M i → Known M (t i).high)
      → (r : Ref) → Known M r → (i : ℕ) → Reached t r i → M i
  unfolding walk
  marked M low high r k i h = subst (Known M) h.meets (go (t i).place)
    where
      next : (p : ℕ) (b : Bool) (a : Ref) → Known M a → Known M (step t p b a)
      next p b (leaf c) k = tt
      next p b (node j) k = pick (eqb (t j).place p) b
        where
          pick : (c d : Bool) → Known M (cond c (cond d (t j).high (t j).low) (node j))
          pick true true = high j k
          pick true false = low j k
          pick false d = k

      go : (p : ℕ) → Known M (walk t p h.way r)
      go zero = k
      go (suc p) = next p (h.way p) (walk t p h.way r) (go p)

  -- a node is reached from itself (here and below, the width plays no part)
  pub reached_root : (i : ℕ) → Reached t (node i) i
  reached_root i = record { way = λ q. false; meets = walk_stay 0 t (t i).place (λ q. false) (node i) (omega arith) }

  -- the ways of a node that is reached are reached
  pub reached_on : (r : Ref) (i : ℕ) (b : Bool) (j : ℕ) → Reached t r i → cond b (t i).high (t i).low ≡ node j → (t i).place < (t j).place → Reached t r j
  unfolding walk
  reached_on r i b j h e l = record {
    way = row;
    meets =
        let far : suc p + ((t j).place - suc p) ≡ (t j).place = omega arith in
        subst (λ n. walk t n row r ≡ node j) far
        (walk_on 0 t ((t j).place - suc p) (suc p) row r (node j) here (omega arith));
  }
    where
      p : ℕ
      p = (t i).place

      row : Bits
      row = put p b h.way

      here : step t p (row p) (walk t p row r) ≡ node j
      here =
          ap (λ c. step t p c (walk t p row r)) (put_here p b h.way)
          ∙ ap (step t p b) (walk_agree t p row h.way r (λ q m. put_else p b h.way q (omega arith)) ∙ h.meets)
          ∙ step_at t p b i refl ∙ e
