-- What walks over a store give: branches, notes of depth, first differences, and what tests, depth and differences say of
-- the functions that references stand for. Assumes nothing.
use Rattle.std.proofs.Common.{◌≡◌, ℕ, suc, ◌+◌, ◌-◌, ◌<◌, ◌≤◌, Bool, true, false, cond, List, Option, Some, None, length, get_or, set, sym, refl, ap, ◌∙◌, subst, add-one, arith, get_or-set_other, get_or-set_same}
use native.Mathlib.Decide.{ℕ_discrete}
use Rattle.acl.specs.Headers.{width}
use Rattle.model.specs.Rows.{Bits}
use Rattle.model.specs.Sets.{Tally}
use Rattle.model.specs.Parts.{fixed, Matters}
use Rattle.model.specs.Stands.{ToldApart}
use Rattle.model.specs.declared.node.Ref.{Ref}
use Rattle.model.specs.declared.node.Ref.TheVariants.{Node as At}
use Rattle.model.specs.Diagram.{Table, step, same_ref, first_from, tests_from}
use Rattle.model.proofs.Rows.{put_here, put_else}
use Rattle.model.proofs.Diagram.{same_ref_lem, same_ref_refl, step_at, told_apart}
use Rattle.model.proofs.Tests.{tests_are, tally_unique, deep_most, deep_some}
use Rattle.diagram.specs.declared.store.Store.{Store}
use Rattle.diagram.specs.Nodes.{Under}
use Rattle.diagram.specs.Stores.{nodes_of, value_in, Branches}
use Rattle.diagram.specs.Walks.{deepest, DeepNoted}
use Rattle.diagram.proofs.Reduces.{reduced}
use Rattle.diagram.proofs.Walking.{value_way}

-- a node branches at its own place
pub branches_node : (s : Store) (i p : ℕ) (f : Ref) → f ≡ At i → Under s.linked f → (nodes_of s i).place ≡ p
    → Branches s p f (nodes_of s i).low (nodes_of s i).high
branches_node s i p f a u e =
    let red = reduced s in
    let k : i < s.linked = subst (Under s.linked) a u in
    subst (λ (r : Ref). Branches s p r (nodes_of s i).low (nodes_of s i).high) (sym a)
    (record {
      low_fits = record { under = red.low_known i k; later = omega (arith, red.low_later i k) };
      high_fits = record { under = red.high_known i k; later = omega (arith, red.high_later i k) };
      low_is = sym (step_at (nodes_of s) p false i e);
      high_is = sym (step_at (nodes_of s) p true i e);
      is = λ v. value_way red i k v ∙ ap (λ q. value_in s (cond (v q) (nodes_of s i).high (nodes_of s i).low) v) e ∙ split v (v p);
    })
  where
    split : (v : Bits) (b : Bool) → value_in s (cond b (nodes_of s i).high (nodes_of s i).low) v
        ≡ cond b (value_in s (nodes_of s i).high v) (value_in s (nodes_of s i).low v)
    split v true = refl
    split v false = refl

-- one more note of depth
pub deep_noted : (s : Store) (deep : List (Option ℕ)) (i m : ℕ) → length deep ≡ 2048 → i < 2048 → i < s.linked → m ≡ deepest s (At i)
    → DeepNoted s deep → DeepNoted s (set deep i (Some m))
deep_noted s deep i m n l k e old j d = go (ℕ_discrete j i)
  where
    go : Dec (j ≡ i) → get_or (set deep i (Some m)) j None ≡ Some d → (j < s.linked) × (d ≡ deepest s (At j))
    go (yes x) h =
        let here : get_or (set deep i (Some m)) j None ≡ Some m =
        ap (λ z. get_or (set deep i (Some m)) z None) x ∙ get_or-set_same deep i (Some m) None (omega arith) in
        let same : d ≡ m = cc in
        (omega arith, same ∙ e ∙ ap (λ z. deepest s (At z)) (sym x))
    go (no x) h = old j d (sym (get_or-set_other deep i j (Some m) None (omega arith)) ∙ h)

-- the same reference passes the test
pub same_ref_true : (a b : Ref) → a ≡ b → same_ref a b ≡ true
same_ref_true a b e = ap (same_ref a) (sym e) ∙ same_ref_refl a

-- and another does not
pub same_ref_false : (a b : Ref) → (a ≡ b → ⊥) → same_ref a b ≡ false
same_ref_false a b n = go (same_ref a b) refl
  where
    go : (c : Bool) → same_ref a b ≡ c → same_ref a b ≡ false
    go true e = absurd (n (same_ref_lem a b e))
    go false e = e

module _ (t : Table) where
  -- the first difference goes high at p where low does not tell the two apart
  first_now : (d p : ℕ) (a b : Ref) → first_from t (suc d) p a b p ≡ same_ref (step t p false a) (step t p false b)
  unfolding first_from
  first_now d p a b =
      let up : Bool = same_ref (step t p false a) (step t p false b) in
      put_here p up (first_from t d (suc p) (step t p up a) (step t p up b))

  -- and after p it is that of the two ways on
  first_on : (d p : ℕ) (a b : Ref) (c : Bool) (q : ℕ) → same_ref (step t p false a) (step t p false b) ≡ c → suc p ≤ q
      → first_from t (suc d) p a b q ≡ first_from t d (suc p) (step t p c a) (step t p c b) q
  unfolding first_from
  first_on d p a b c q e h =
      let up : Bool = same_ref (step t p false a) (step t p false b) in
      put_else p up (first_from t d (suc p) (step t p up a) (step t p up b)) q (omega arith)
      ∙ ap (λ x. first_from t d (suc p) (step t p x a) (step t p x b) q) e

  -- bits that are the turn at p, and from p + 1 on the first difference of the ways on, are the first difference from p on
  pub first_set : (p : ℕ) (a b x y : Ref) (c : Bool) (new : List Bool) → p < width
      → same_ref (step t p false a) (step t p false b) ≡ c → x ≡ step t p c a → y ≡ step t p c b → get_or new p false ≡ c
      → ((k : ℕ) → p + 1 ≤ k → k < width → get_or new k false ≡ first_from t (width - (p + 1)) (p + 1) x y k)
      → (k : ℕ) → p ≤ k → k < width → get_or new k false ≡ first_from t (width - p) p a b k
  first_set p a b x y c new l e ex ey here rest k h m = go (ℕ_discrete k p)
    where
      d : ℕ
      d = width - (p + 1)

      more : suc d ≡ width - p
      more = omega arith

      turn : ℕ → Bool
      turn n = first_from t n p a b k

      go : Dec (k ≡ p) → get_or new k false ≡ first_from t (width - p) p a b k
      go (yes z) =
          ap (λ n. get_or new n false) z ∙ here ∙ sym e ∙ sym (first_now d p a b)
          ∙ ap (λ n. first_from t (suc d) p a b n) (sym z) ∙ ap turn more
      go (no z) =
          rest k (omega arith) m
          ∙ ap (λ n. first_from t d n x y k) (add-one p)
          ∙ ap (λ r. first_from t d (suc p) r y k) ex
          ∙ ap (λ r. first_from t d (suc p) (step t p c a) r k) ey
          ∙ sym (first_on d p a b c k e (omega arith)) ∙ ap turn more

module _ (s : Store) (p : ℕ) (a b la ha lb hb : Ref) (old new : List Bool) (l : p < width) (len : length old ≡ 104)
    (sa : Branches s p a la ha) (sb : Branches s p b lb hb) where
  -- what a step of the first difference leaves in the bits, where it takes the turn c
  pub record Turned (c : Bool) (x y : Ref) : Type 0 where
    pub same : same_ref la lb ≡ c
    pub before : (k : ℕ) → k < p + 1 → get_or new k false ≡ get_or (set old p c) k false
    pub row : (k : ℕ) → p + 1 ≤ k → k < width → get_or new k false ≡ first_from (nodes_of s) (width - (p + 1)) (p + 1) x y k

  -- bits from p on are the first difference, where the turn is c and the ways on are x and y
  turned : (c : Bool) (x y : Ref) → x ≡ step (nodes_of s) p c a → y ≡ step (nodes_of s) p c b → Turned c x y
      → (k : ℕ) → p ≤ k → k < width → get_or new k false ≡ first_from (nodes_of s) (width - p) p a b k
  turned c x y ex ey h =
      first_set (nodes_of s) p a b x y c new l
      (ap (λ r. same_ref r (step (nodes_of s) p false b)) (sym sa.low_is) ∙ ap (same_ref la) (sym sb.low_is) ∙ h.same)
      ex ey (h.before p (omega arith) ∙ get_or-set_same old p c false (omega arith)) h.row

  -- the turn is high
  pub turned_high : Turned true ha hb → (k : ℕ) → p ≤ k → k < width → get_or new k false ≡ first_from (nodes_of s) (width - p) p a b k
  turned_high = turned true ha hb sa.high_is sb.high_is

  -- the turn is low
  pub turned_low : Turned false la lb → (k : ℕ) → p ≤ k → k < width → get_or new k false ≡ first_from (nodes_of s) (width - p) p a b k
  turned_low = turned false la lb sa.low_is sb.low_is

-- the tests from a reference are the places whose bit matters after the bits before it
pub tests_so : (s : Store) → (r : Ref) → Under s.linked r → (row : Bits)
    → Tally (λ p. Matters p (fixed p row (value_in s r))) width (tests_from width (nodes_of s) width 0 row r)
tests_so s r u row = tests_are (reduced s) row r u

-- the depth is the most tests that any row makes
pub depth_so : (s : Store) → (r : Ref) → Under s.linked r
    → ((row : Bits) (n : ℕ) → Tally (λ p. Matters p (fixed p row (value_in s r))) width n → n ≤ deepest s r)
    × ((row : Bits) × Tally (λ p. Matters p (fixed p row (value_in s r))) width (deepest s r))
depth_so s r u = (most, some)
  where
    P : Bits → ℕ → Type 0
    P row p = Matters p (fixed p row (value_in s r))

    most : (row : Bits) (n : ℕ) → Tally (P row) width n → n ≤ deepest s r
    most row n x =
        let m : ℕ = tests_from width (nodes_of s) width 0 row r in
        let e : n ≡ m = tally_unique (P row) width n m x (tests_so s r u row) in
        omega (arith, e, deep_most width (nodes_of s) width 0 row r)

    some : (row : Bits) × Tally (P row) width (deepest s r)
    some =
        let (row, e) = deep_some width (nodes_of s) width 0 r in
        (row, subst (Tally (P row) width) e (tests_so s r u row))

-- two references are told apart by their values, at the first row of bits where they differ
pub differ_so : (s : Store) → (a b : Ref) → Under s.linked a → Under s.linked b → ToldApart width (nodes_of s) a b
differ_so s a b ua ub = told_apart (reduced s) a b ua ub
