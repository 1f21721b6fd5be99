-- What a reduced table means: walks, values, that equal values make equal references, and the first row of bits at
-- which two references differ. Assumes nothing.
use mathlib.Core.Path.{◌≡◌, refl, sym, ap, ◌∙◌, subst, fun_ext}
use mathlib.Core.Logic.{◌≢◌}
use mathlib.Core.Bool.{Bool, true, false, cond, false≢true}
use Prim.Native.Nat.{ℕ, zero, suc, ◌+◌, ◌≤◌, ◌<◌}
use native.Mathlib.Nat.{add-zero, add-suc}
use native.Mathlib.Decide.{ℕ_discrete}
use native.Mathlib.Omega.{arith}
use lib.Dec.{eqb, ltb}
use borrow.Author.Tests.{eq-eqb, ne_eqb, ltb-false, eqb-true}
use Rattle.model.specs.Rows.{Bits, AgreeBelow, splice}
use Rattle.model.specs.Stages.{Reads}
use Rattle.model.specs.Parts.{fixed}
use Rattle.model.specs.declared.node.Ref.{Ref}
use Rattle.model.specs.declared.node.Ref.TheVariants.{Code as leaf, Node as node}
use Rattle.model.specs.declared.node.Node.{Node}
use Rattle.model.specs.Diagram.{Table, top, step, walk, code_at, value, Known, Reduced, same_ref, first_from}
use Rattle.model.specs.Stands.{ToldApart, ReferencesStand}
use Rattle.model.proofs.Rows.{splice_low, splice_high, put_here, put_else}

-- two nodes with the same fields are the same
pub same_node : (m n : Node) → m.place ≡ n.place → m.low ≡ n.low → m.high ≡ n.high → m ≡ n
same_node m n p l h = λ i. record { place = p i; low = l i; high = h i }

-- the test of two references tells whether they are the same: if it says so, they are
pub same_ref_lem : (a b : Ref) → same_ref a b ≡ true → a ≡ b
same_ref_lem (leaf a) (leaf b) e = ap leaf (eqb-true a b e)
same_ref_lem (leaf a) (node j) e = absurd (false≢true e)
same_ref_lem (node i) (leaf b) e = absurd (false≢true e)
same_ref_lem (node i) (node j) e = ap node (eqb-true i j e)

-- a reference passes the test with itself
pub same_ref_refl : (a : Ref) → same_ref a a ≡ true
same_ref_refl (leaf a) = eq-eqb a a refl
same_ref_refl (node i) = eq-eqb i i refl

-- if it does not say so, they differ
pub apart_ref : (a b : Ref) → same_ref a b ≡ false → a ≢ b
apart_ref a b e s = false≢true (sym e ∙ ap (same_ref a) (sym s) ∙ same_ref_refl a)

module _ (t : Table) where
  -- at its own place a node goes low or high
  pub step_at : (p : ℕ) (b : Bool) (i : ℕ) → (t i).place ≡ p → step t p b (node i) ≡ cond b (t i).high (t i).low
  step_at p b i e = ap (λ c. cond c (cond b (t i).high (t i).low) (node i)) (eq-eqb (t i).place p e)

  -- a walk up to p goes by the bits below p alone
  pub walk_agree : (p : ℕ) (v row : Bits) (r : Ref) → AgreeBelow p v row → walk t p v r ≡ walk t p row r
  unfolding walk
  walk_agree zero v row r h = refl
  walk_agree (suc p) v row r h =
      ap (step t p (v p)) (walk_agree p v row r (λ q l. h q (omega arith)))
      ∙ ap (λ b. step t p b (walk t p row r)) (h p (omega arith))

module _ (w : ℕ) (t : Table) where
  -- at a place that the reference does not test, it stays
  pub step_off : (p : ℕ) (b : Bool) (r : Ref) → top w t r ≢ p → step t p b r ≡ r
  step_off p b (leaf c) e = refl
  step_off p b (node i) e = ap (λ c. cond c (cond b (t i).high (t i).low) (node i)) (ne_eqb (t i).place p e)

  -- a walk through places that the reference does not test stays where it is
  pub walk_stay : (p : ℕ) (row : Bits) (r : Ref) → p ≤ top w t r → walk t p row r ≡ r
  unfolding walk
  walk_stay zero row r h = refl
  walk_stay (suc p) row r h = ap (step t p (row p)) (walk_stay p row r (omega arith)) ∙ step_off p (row p) r (omega arith)

  -- a value goes by the bits below w alone
  pub value_reads : (r : Ref) → Reads w (value w t r)
  unfolding value
  value_reads r u v h = ap code_at (walk_agree t w u v r h)

module _ {w : ℕ} {In : ℕ → Type 0} {t : Table} (red : Reduced w In t) where
  -- the way on from a known reference is known
  pub step_known : (p : ℕ) (b : Bool) (r : Ref) → Known In r → Known In (step t p b r)
  step_known p b (leaf c) k = tt
  step_known p b (node i) k = go (eqb (t i).place p) b
    where
      go : (c d : Bool) → Known In (cond c (cond d (t i).high (t i).low) (node i))
      go true true = red.high_known i k
      go true false = red.low_known i k
      go false d = k

  -- and tests a later place
  pub step_later : (p : ℕ) (b : Bool) (r : Ref) → p < w → Known In r → p ≤ top w t r → p < top w t (step t p b r)
  step_later p b (leaf c) l k h = l
  step_later p b (node i) l k h = go (ℕ_discrete (t i).place p)
    where
      child : (d : Bool) → (t i).place < top w t (cond d (t i).high (t i).low)
      child true = red.high_later i k
      child false = red.low_later i k

      go : Dec ((t i).place ≡ p) → p < top w t (step t p b (node i))
      go (yes e) = subst (λ r. p < top w t r) (sym (step_at t p b i e)) (subst (λ n. n < top w t (cond b (t i).high (t i).low)) e (child b))
      go (no n) = subst (λ r. p < top w t r) (sym (step_off w t p b (node i) n)) (omega arith)

  -- a walk from a known reference leads to a known one
  pub walk_known : (p : ℕ) (row : Bits) (r : Ref) → Known In r → Known In (walk t p row r)
  unfolding walk
  walk_known zero row r k = k
  walk_known (suc p) row r k = step_known p (row p) (walk t p row r) (walk_known p row r k)

  -- after the places before p, a place from p on is tested
  pub walk_top : (p : ℕ) (row : Bits) (r : Ref) → p ≤ w → Known In r → p ≤ top w t (walk t p row r)
  unfolding walk
  walk_top zero row r l k = omega arith
  walk_top (suc p) row r l k = step_later p (row p) (walk t p row r) l (walk_known p row r k) (walk_top p row r (omega arith) k)

  -- fixing the bits before p leads to the reference that they lead to
  pub walk_splice : (d p : ℕ) (u row : Bits) (r : Ref) → p + d ≤ w → Known In r
      → walk t (p + d) (splice p u row) r ≡ walk t (p + d) row (walk t p u r)
  unfolding walk
  walk_splice zero p u row r l k =
      ap (λ n. walk t n (splice p u row) r) (add-zero p)
      ∙ walk_agree t p (splice p u row) u r (splice_low p u row)
      ∙ sym (walk_stay w t p row (walk t p u r) (walk_top p u r (omega arith) k))
      ∙ sym (ap (λ n. walk t n row (walk t p u r)) (add-zero p))
  walk_splice (suc d) p u row r l k =
      ap (λ n. walk t n (splice p u row) r) (add-suc p d)
      ∙ ap (step t (p + d) (splice p u row (p + d))) (walk_splice d p u row r (omega arith) k)
      ∙ ap (λ b. step t (p + d) b (walk t (p + d) row (walk t p u r))) (splice_high p u row (p + d) (omega arith))
      ∙ sym (ap (λ n. walk t n row (walk t p u r)) (add-suc p d))

  -- and its value is the value with these bits fixed
  pub value_fixed : (d p : ℕ) → p + d ≡ w → (u row : Bits) (r : Ref) → Known In r
      → fixed p u (value w t r) row ≡ value w t (walk t p u r) row
  unfolding value
  value_fixed d p e u row r k =
      ap code_at
      (subst (λ n. walk t n (splice p u row) r ≡ walk t n row (walk t p u r)) e (walk_splice d p u row r (omega arith) k))

  -- a value does not depend on the bits before the reference's place
  pub value_later : (d p : ℕ) → p + d ≡ w → (u row : Bits) (r : Ref) → Known In r → p ≤ top w t r
      → fixed p u (value w t r) row ≡ value w t r row
  value_later d p e u row r k h = value_fixed d p e u row r k ∙ ap (λ v. value w t v row) (walk_stay w t p u r h)

  -- one place on: low for 0, high for 1
  pub value_step : (d p : ℕ) → p + suc d ≡ w → (u row : Bits) (r : Ref) → Known In r → p ≤ top w t r
      → fixed (suc p) u (value w t r) row ≡ value w t (step t p (u p) r) row
  unfolding walk
  value_step d p e u row r k h =
      value_fixed d (suc p) (omega arith) u row r k
      ∙ ap (λ v. value w t (step t p (u p) v) row) (walk_stay w t p u r h)

  -- a reference that tests no place is a code
  pub leaf_last : (r : Ref) → Known In r → w ≤ top w t r → (c : ℕ) × (r ≡ leaf c)
  leaf_last (leaf c) k h = (c, refl)
  leaf_last (node i) k h = absurd (omega (arith, red.place_low i k))

  -- and its value is that code
  pub value_leaf : (c : ℕ) (row : Bits) → value w t (leaf c) row ≡ c
  unfolding value
  value_leaf c row = ap code_at (walk_stay w t w row (leaf c) (omega arith))

  -- a value goes by the bits from the reference's place on
  pub value_from : (d p : ℕ) → p + d ≡ w → (v row : Bits) (r : Ref) → Known In r → p ≤ top w t r
      → ((q : ℕ) → p ≤ q → v q ≡ row q) → value w t r v ≡ value w t r row
  value_from d p e v row r k h same = ap (value w t r) (fun_ext joined) ∙ value_later d p e v row r k h
    where
      joined : (q : ℕ) → v q ≡ splice p v row q
      joined q = go (ltb q p) refl
        where
          go : (b : Bool) → ltb q p ≡ b → v q ≡ cond b (v q) (row q)
          go true e = refl
          go false e = same q (ltb-false q p e)

  -- a value is the value of the way on
  pub value_on : (d p : ℕ) → p + suc d ≡ w → (row : Bits) (r : Ref) → Known In r → p ≤ top w t r
      → value w t r row ≡ value w t (step t p (row p) r) row
  value_on d p e row r k h = ap (value w t r) (fun_ext joined) ∙ value_step d p e row row r k h
    where
      joined : (q : ℕ) → row q ≡ splice (suc p) row row q
      joined q = go (ltb q (suc p))
        where
          go : (b : Bool) → row q ≡ cond b (row q) (row q)
          go true = refl
          go false = refl

  -- a node at p has two ways
  pub two : (p : ℕ) (r : Ref) → p < w → Known In r → top w t r ≡ p → step t p false r ≢ step t p true r
  two p (leaf c) l k e s = omega arith
  two p (node i) l k e s = red.two_ways i k (sym (step_at t p false i e) ∙ s ∙ step_at t p true i e)

  -- two nodes at p with the same two ways are the same
  both_at : (p : ℕ) (a b : Ref) → p < w → Known In a → Known In b → top w t a ≡ p → top w t b ≡ p
      → step t p false a ≡ step t p false b → step t p true a ≡ step t p true b → a ≡ b
  both_at p (leaf c) b l ka kb ea eb s z = absurd (omega arith)
  both_at p (node i) (leaf c) l ka kb ea eb s z = absurd (omega arith)
  both_at p (node i) (node j) l ka kb ea eb s z =
      ap node
      (red.once i j ka kb
      (same_node (t i) (t j) (ea ∙ sym eb)
      (sym (step_at t p false i ea) ∙ s ∙ step_at t p false j eb)
      (sym (step_at t p true i ea) ∙ z ∙ step_at t p true j eb)))

  -- two references with the same two ways are the same
  pub rebuilt : (p : ℕ) (a b : Ref) → p < w → Known In a → Known In b
      → step t p false a ≡ step t p false b → step t p true a ≡ step t p true b → a ≡ b
  rebuilt p a b l ka kb s z = go (ℕ_discrete (top w t a) p) (ℕ_discrete (top w t b) p)
    where
      go : Dec (top w t a ≡ p) → Dec (top w t b ≡ p) → a ≡ b
      go (yes ea) (yes eb) = both_at p a b l ka kb ea eb s z
      go (yes ea) (no nb) = absurd (two p a l ka ea (s ∙ step_off w t p false b nb ∙ sym (step_off w t p true b nb) ∙ sym z))
      go (no na) (yes eb) = absurd (two p b l kb eb (sym s ∙ step_off w t p false a na ∙ sym (step_off w t p true a na) ∙ z))
      go (no na) (no nb) = sym (step_off w t p false a na) ∙ s ∙ step_off w t p false b nb

  -- two references to places from p on, with the same value for all bits, are the same
  pub canon_from : (d p : ℕ) → p + d ≡ w → (a b : Ref) → Known In a → Known In b → p ≤ top w t a → p ≤ top w t b
      → ((row : Bits) → value w t a row ≡ value w t b row) → a ≡ b
  canon_from zero p e a b ka kb ha hb same = go (leaf_last a ka (omega arith)) (leaf_last b kb (omega arith))
    where
      go : ((c : ℕ) × (a ≡ leaf c)) → ((c : ℕ) × (b ≡ leaf c)) → a ≡ b
      go (c, x) (d, y) =
          let row : Bits = λ q. false in
          x ∙ ap leaf (sym (value_leaf c row) ∙ ap (λ r. value w t r row) (sym x) ∙ same row ∙ ap (λ r. value w t r row) y ∙ value_leaf d row) ∙ sym y
  canon_from (suc d) p e a b ka kb ha hb same =
      let way : (c : Bool) → step t p c a ≡ step t p c b = λ c.
      canon_from d (suc p) (omega arith) (step t p c a) (step t p c b) (step_known p c a ka) (step_known p c b kb)
      (step_later p c a (omega arith) ka ha) (step_later p c b (omega arith) kb hb) (on c) in
      rebuilt p a b (omega arith) ka kb (way false) (way true)
    where
      on : (c : Bool) (row : Bits) → value w t (step t p c a) row ≡ value w t (step t p c b) row
      on c row =
          sym (value_step d p e (λ q. c) row a ka ha) ∙ same (splice (suc p) (λ q. c) row) ∙ value_step d p e (λ q. c) row b kb hb

  -- so any two known references with the same value for all bits are the same
  pub canon : (a b : Ref) → Known In a → Known In b → ((row : Bits) → value w t a row ≡ value w t b row) → a ≡ b
  canon a b ka kb same = canon_from w 0 (omega arith) a b ka kb (omega arith) (omega arith) same

  -- the turn of the first difference at p
  turn : ℕ → Ref → Ref → Bool
  turn p a b = same_ref (step t p false a) (step t p false b)

  -- different references are still different after that turn
  turn_apart : (p : ℕ) (a b : Ref) → p < w → Known In a → Known In b → a ≢ b → step t p (turn p a b) a ≢ step t p (turn p a b) b
  unfolding turn
  turn_apart p a b l ka kb n = go (same_ref (step t p false a) (step t p false b)) refl
    where
      go : (c : Bool) → same_ref (step t p false a) (step t p false b) ≡ c → step t p c a ≢ step t p c b
      go true e s = n (rebuilt p a b l ka kb (same_ref_lem (step t p false a) (step t p false b) e) s)
      go false e s = apart_ref (step t p false a) (step t p false b) e s

  -- where it goes high, low does not tell them apart
  turned : (p : ℕ) (a b : Ref) → turn p a b ≡ true → step t p false a ≡ step t p false b
  unfolding turn
  turned p a b e = same_ref_lem (step t p false a) (step t p false b) e

  -- the first difference has that turn at p
  first_here : (d p : ℕ) (a b : Ref) → first_from t (suc d) p a b p ≡ turn p a b
  unfolding first_from turn
  first_here d p a b =
      put_here p (turn p a b) (first_from t d (suc p) (step t p (turn p a b) a) (step t p (turn p a b) b))

  -- and after p it is the first difference of the two ways on
  first_on : (d p : ℕ) (a b : Ref) (q : ℕ) → suc p ≤ q
      → first_from t (suc d) p a b q ≡ first_from t d (suc p) (step t p (turn p a b) a) (step t p (turn p a b) b) q
  unfolding first_from turn
  first_on d p a b q h =
      put_else p (turn p a b) (first_from t d (suc p) (step t p (turn p a b) a) (step t p (turn p a b) b)) q (omega arith)

  -- different references differ at that row
  pub first_differs : (d p : ℕ) → p + d ≡ w → (a b : Ref) → Known In a → Known In b → p ≤ top w t a → p ≤ top w t b
      → a ≢ b → value w t a (first_from t d p a b) ≢ value w t b (first_from t d p a b)
  first_differs zero p e a b ka kb ha hb n s =
      n (canon_from zero p e a b ka kb ha hb (λ row. ends row a ka (omega arith) ∙ s ∙ sym (ends row b kb (omega arith))))
    where
      f : Bits
      f = first_from t zero p a b

      ends : (row : Bits) (r : Ref) → Known In r → w ≤ top w t r → value w t r row ≡ value w t r f
      ends row r k h = go (leaf_last r k h)
        where
          go : ((c : ℕ) × (r ≡ leaf c)) → value w t r row ≡ value w t r f
          go (c, x) = ap (λ r. value w t r row) x ∙ value_leaf c row ∙ sym (value_leaf c f) ∙ sym (ap (λ r. value w t r f) x)
  first_differs (suc d) p e a b ka kb ha hb n s =
      first_differs d (suc p) (omega arith) (step t p c a) (step t p c b) (step_known p c a ka) (step_known p c b kb)
      (step_later p c a (omega arith) ka ha) (step_later p c b (omega arith) kb hb)
      (turn_apart p a b (omega arith) ka kb n)
      (sym (on a ka ha) ∙ s ∙ on b kb hb)
    where
      c : Bool
      c = turn p a b

      f : Bits
      f = first_from t (suc d) p a b

      g : Bits
      g = first_from t d (suc p) (step t p c a) (step t p c b)

      on : (r : Ref) → Known In r → p ≤ top w t r → value w t r f ≡ value w t (step t p c r) g
      on r k h =
          value_on d p e f r k h ∙ ap (λ v. value w t (step t p v r) f) (first_here d p a b)
          ∙ value_from d (suc p) (omega arith) f g (step t p c r) (step_known p c r k) (step_later p c r (omega arith) k h) (first_on d p a b)

  -- and every row before it has equal values
  pub first_least : (d p : ℕ) → p + d ≡ w → (a b : Ref) → Known In a → Known In b → p ≤ top w t a → p ≤ top w t b
      → (row : Bits) (q : ℕ) → p ≤ q → ((z : ℕ) → p ≤ z → z < q → row z ≡ first_from t d p a b z)
      → row q ≡ false → first_from t d p a b q ≡ true → value w t a row ≡ value w t b row
  unfolding first_from
  first_least zero p e a b ka kb ha hb row q l same here there = absurd (false≢true there)
  first_least (suc d) p e a b ka kb ha hb row q l same here there =
      go (ℕ_discrete q p)
      (λ n x.
      on c x a ka ha
      ∙ first_least d (suc p) (omega arith) (step t p c a) (step t p c b) (step_known p c a ka) (step_known p c b kb)
      (step_later p c a (omega arith) ka ha) (step_later p c b (omega arith) kb hb) row q (omega arith)
      (λ z y m. same z (omega arith) m ∙ first_on d p a b z y) here (sym (first_on d p a b q (omega arith)) ∙ there)
      ∙ sym (on c x b kb hb))
    where
      c : Bool
      c = turn p a b

      on : (v : Bool) → row p ≡ v → (r : Ref) → Known In r → p ≤ top w t r → value w t r row ≡ value w t (step t p v r) row
      on v x r k h = value_on d p e row r k h ∙ ap (λ v. value w t (step t p v r) row) x

      go : Dec (q ≡ p) → (q ≢ p → row p ≡ c → value w t a row ≡ value w t b row) → value w t a row ≡ value w t b row
      go (yes x) ih =
          let low : row p ≡ false = ap row (sym x) ∙ here in
          let up : turn p a b ≡ true = sym (first_here d p a b) ∙ ap (first_from t (suc d) p a b) (sym x) ∙ there in
          on false low a ka ha
          ∙ ap (λ r. value w t r row) (turned p a b up)
          ∙ sym (on false low b kb hb)
      go (no n) ih = ih n (same p (omega arith) (omega arith) ∙ first_here d p a b)

  -- two references are told apart by their values, at the first row of bits where they differ
  pub told_apart : (a b : Ref) → Known In a → Known In b → ToldApart w t a b
  told_apart a b ka kb = record {
    same = canon a b ka kb;
    differ = λ n. first_differs w 0 (omega arith) a b ka kb (omega arith) (omega arith) n;
    least = λ v f.
        first_least w 0 (omega arith) a b ka kb (omega arith) (omega arith) v f.place (omega arith)
        (λ z _ m. f.same z m) f.zero_here f.one_there;
  }

-- so it is over every reduced table
pub references_stand : ReferencesStand
references_stand w n t red a b ka kb = told_apart red a b ka kb
