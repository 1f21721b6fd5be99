-- Diagrams: a table of nodes over w places, and what a reference into it means. Assumes nothing.
use Rattle.std.specs.Prelude.{◌≡◌, ◌≢◌, Bool, true, false, cond, List, ℕ, zero, suc, ◌+◌, max, ◌<◌, eqb}
use Rattle.model.specs.declared.node.Ref.{Ref}
use Rattle.model.specs.declared.node.Ref.TheVariants.{Code as leaf, Node as node}
use Rattle.model.specs.declared.node.Node.{Node}
use Rattle.model.specs.Rows.{Bits}
use Rattle.model.specs.Sets.{◌∈◌}
use Rattle.model.specs.Stages.{Stage}
use Rattle.model.specs.Parts.{Part}

-- nodes by number
abbrev pub Table : Type 0
Table = ℕ → Node

-- the way on at place p: a reference that does not test p stays
abbrev pub step : Table → ℕ → Bool → Ref → Ref
step t p b (leaf c) = leaf c
step t p b (node i) = cond (eqb (t i).place p) (cond b (t i).high (t i).low) (node i)

-- where the bits at the places before p lead from r
unfoldable pub walk : Table → ℕ → Bits → Ref → Ref
walk t zero v r = r
walk t (suc p) v r = step t p (v p) (walk t p v r)

-- the code at the end of a walk
abbrev pub code_at : Ref → ℕ
code_at (leaf c) = c
code_at (node i) = 0

-- the place that a reference tests: a code tests none, and stands past the last place
abbrev pub top : ℕ → Table → Ref → ℕ
top w t (leaf c) = w
top w t (node i) = (t i).place

-- the stage that a reference stands for
unfoldable pub value : ℕ → Table → Ref → Stage
value w t r v = code_at (walk t w v r)

-- the reference is a code, or one of the nodes `In`
abbrev pub Known : (ℕ → Type 0) → Ref → Type 0
Known In (leaf c) = Unit {0}
Known In (node i) = In i

-- A reduced and ordered table without twins, with the nodes `In`.
pub record Reduced (w : ℕ) (In : ℕ → Type 0) (t : Table) : Type 0 where
  pub place_low : (i : ℕ) → In i → (t i).place < w
  pub low_known : (i : ℕ) → In i → Known In (t i).low
  pub high_known : (i : ℕ) → In i → Known In (t i).high
  pub low_later : (i : ℕ) → In i → (t i).place < top w t (t i).low
  pub high_later : (i : ℕ) → In i → (t i).place < top w t (t i).high
  pub two_ways : (i : ℕ) → In i → (t i).low ≢ (t i).high
  pub once : (i j : ℕ) → In i → In j → t i ≡ t j → i ≡ j

-- the node is met on some way from r
pub record Reached (t : Table) (r : Ref) (i : ℕ) : Type 0 where
  pub way : Bits
  pub meets : walk t (t i).place way r ≡ node i

-- the node is met on some way from one of these references
pub record ReachedFrom (t : Table) (roots : List Ref) (i : ℕ) : Type 0 where
  pub root : Ref
  pub one : root ∈ roots
  pub reached : Reached t root i

-- the part that a node stands for: its place, and its value
abbrev pub part_at : ℕ → Table → ℕ → Part
part_at w t i = record { place = (t i).place; left = value w t (node i) }

-- whether two references are the same
abbrev pub same_ref : Ref → Ref → Bool
same_ref (leaf a) (leaf b) = eqb a b
same_ref (leaf a) (node j) = false
same_ref (node i) (leaf b) = false
same_ref (node i) (node j) = eqb i j

-- the first row of bits at which two references differ, at the d places from p on: low while that tells them
-- apart, else high
unfoldable pub first_from : Table → ℕ → ℕ → Ref → Ref → Bits
first_from t zero p a b = λ q. false
first_from t (suc d) p a b =
    let up : Bool = same_ref (step t p false a) (step t p false b) in
    λ q. cond (eqb q p) up (first_from t d (suc p) (step t p up a) (step t p up b) q)

-- the tests made from r on, at the d places from p on
unfoldable pub tests_from : ℕ → Table → ℕ → ℕ → Bits → Ref → ℕ
tests_from w t zero p v r = 0
tests_from w t (suc d) p v r = cond (eqb (top w t r) p) 1 0 + tests_from w t d (suc p) v (step t p (v p) r)

-- the most tests that any bits make from r on
unfoldable pub deep_from : ℕ → Table → ℕ → ℕ → Ref → ℕ
deep_from w t zero p r = 0
deep_from w t (suc d) p r =
    cond (eqb (top w t r) p) 1 0 + max (deep_from w t d (suc p) (step t p false r)) (deep_from w t d (suc p) (step t p true r))
