-- What stands in a store stands in one that has grown. Assumes nothing.
use Rattle.std.proofs.Common.{◌≡◌, ℕ, ◌<◌, ◌≤◌, refl, ap, ◌∙◌, arith}
use mathlib.Core.Path.{fun_ext}
use Rattle.acl.specs.Headers.{width}
use Rattle.model.specs.declared.node.Ref.{Ref}
use Rattle.model.specs.declared.node.Ref.TheVariants.{Code, Node as At}
use Rattle.model.specs.declared.node.Node.{Node}
use Rattle.model.specs.Rows.{Bits}
use Rattle.model.specs.Stages.{Stage}
use Rattle.model.specs.Diagram.{part_at}
use Rattle.model.proofs.Rows.{same_part}
use Rattle.model.proofs.Laying.{value_grown}
use Rattle.diagram.specs.declared.store.Store.{Store}
use Rattle.diagram.specs.Nodes.{Under}
use Rattle.diagram.specs.Stores.{nodes_of, value_in, Grows, Fits, New}
use Rattle.diagram.proofs.Reduces.{reduced, grown}

-- a reference that tests no place before q tests none before an earlier one
pub fits_less : (s : Store) (p q : ℕ) (r : Ref) → p ≤ q → Fits s q r → Fits s p r
fits_less s p q r l f = record { under = f.under; later = omega (arith, f.later) }

-- a reference of a store is one of the grown store
pub fits_grows : (s t : Store) (p : ℕ) (r : Ref) → Grows s t → Fits s p r → Fits t p r
fits_grows s t p (Code c) g f = record { under = tt; later = f.later }
fits_grows s t p (At k) g f = record {
  under = let l : k < s.linked = f.under in omega (arith, g.more);
  later = omega (arith, f.later, ap (λ (n : Node). n.place) (g.same k f.under));
}

-- and has the same value
pub value_grows : (s t : Store) → Grows s t → (r : Ref) → Under s.linked r → (v : Bits) → value_in t r v ≡ value_in s r v
value_grows s t g r u v = value_grown (reduced s) (grown s t g) r u v

-- a node of a store is the same part of the grown store
pub part_grows : (s t : Store) → Grows s t → (j : ℕ) → j < s.linked → part_at width (nodes_of t) j ≡ part_at width (nodes_of s) j
part_grows s t g j l =
    same_part (part_at width (nodes_of t) j) (part_at width (nodes_of s) j)
    (ap (λ (n : Node). n.place) (g.same j l)) (fun_ext (λ v. value_grows s t g (At j) l v))

-- a store is grown out of itself
pub grows_refl : (s : Store) → Grows s s
grows_refl s = record { more = omega arith; same = λ k l. refl; cap = refl }

-- growing twice is growing
pub grows_trans : (s t u : Store) → Grows s t → Grows t u → Grows s u
grows_trans s t u g h = record {
  more = omega (arith, g.more, h.more);
  same = λ k l. (let m : k < t.linked = omega (arith, g.more) in h.same k m ∙ g.same k l);
  cap = h.cap ∙ g.cap;
}

-- where no node is new, each new one is what you like
pub new_none : (s : Store) (g : Stage) → New s s g
new_none s g i l h = absurd (omega arith)
