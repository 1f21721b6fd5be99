-- What is marked, and where what is kept goes. Assumes nothing.
use Rattle.std.specs.Prelude.{◌≡◌, ℕ, ◌<◌, ◌≤◌, Bool, true, false, ◌⊎◌, List, length, slice_index_or}
use Rattle.acl.specs.Headers.{width}
use Rattle.model.specs.declared.node.Ref.{Ref}
use Rattle.model.specs.declared.node.Ref.TheVariants.{Code, Node as At}
use Rattle.model.specs.Rows.{Bits}
use Rattle.model.specs.Parts.{PartOf}
use Rattle.model.specs.Diagram.{top, part_at, Reached}
use Rattle.diagram.specs.declared.store.Store.{Store}
use Rattle.diagram.specs.Stores.{nodes_of, value_in, Fits}

-- the node is marked
abbrev pub IsMarked : List Bool → ℕ → Type 0
IsMarked marks k = slice_index_or marks k false ≡ true

-- marks after the node that r refers to is marked
pub record Marks (r : Ref) (old new : List Bool) : Type 0 where
  pub still : (k : ℕ) → IsMarked old k → IsMarked new k
  pub here : (k : ℕ) → r ≡ At k → IsMarked new k
  pub only : (k : ℕ) → IsMarked new k → IsMarked old k ⊎ (r ≡ At k)

-- marks of all nodes that these references refer to, and of no others
pub record MarksAll (roots : List Ref) (new : List Bool) : Type 0 where
  pub here : (j k : ℕ) → j < length roots → slice_index_or roots j (Code 0) ≡ At k → IsMarked new k
  pub only : (k : ℕ) → IsMarked new k → (j : ℕ) × (j < length roots) × (slice_index_or roots j (Code 0) ≡ At k)

-- of the nodes from i on, what is marked has what it refers to marked
abbrev pub ClosedFrom : Store → List Bool → ℕ → Type 0
ClosedFrom s marks i =
    (k j : ℕ) → i ≤ k → k < s.linked → IsMarked marks k → ((nodes_of s k).low ≡ At j) ⊎ ((nodes_of s k).high ≡ At j) → IsMarked marks j

-- what is marked was marked before, or is reached from what was
abbrev pub MarksReached : Store → List Bool → List Bool → Type 0
MarksReached s old new = (k : ℕ) → IsMarked new k → (m : ℕ) × IsMarked old m × Reached (nodes_of s) (At m) k

-- where a reference went
abbrev pub moved_to : List Ref → Ref → Ref
moved_to to (Code c) = Code c
moved_to to (At i) = slice_index_or to i (Code 0)

-- x stands in s for r of the old store
pub record Copied (old s : Store) (r x : Ref) : Type 0 where
  pub fits : Fits s (top width (nodes_of old) r) x
  pub is : (v : Bits) → value_in s x v ≡ value_in old r v

-- each marked node below i has its copy
abbrev pub CopiedTo : Store → Store → List Bool → List Ref → ℕ → Type 0
CopiedTo old s marks to i = (k : ℕ) → k < i → IsMarked marks k → Copied old s (At k) (slice_index_or to k (Code 0))

-- every node of s is a part of a marked node below i
abbrev pub FromMarked : Store → Store → List Bool → ℕ → Type 0
FromMarked old s marks i =
    (j : ℕ) → j < s.linked → (k : ℕ) × (k < i) × IsMarked marks k × PartOf (value_in old (At k)) (part_at width (nodes_of s) j)
