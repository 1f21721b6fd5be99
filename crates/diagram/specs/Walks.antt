-- Walks over a store. Assumes nothing.
use Rattle.std.specs.Prelude.{◌≡◌, ℕ, ◌<◌, Bool, false, List, Option, Some, None, slice_index_or}
use Rattle.acl.specs.Headers.{width}
use Rattle.model.specs.declared.node.Ref.{Ref}
use Rattle.model.specs.declared.node.Ref.TheVariants.{Node as At}
use Rattle.model.specs.Rows.{Bits}
use Rattle.model.specs.Diagram.{deep_from}
use Rattle.diagram.specs.declared.store.Store.{Store}
use Rattle.diagram.specs.Stores.{nodes_of}

-- bits by place, as a row
abbrev pub row_of : List Bool → Bits
row_of bits p = slice_index_or bits p false

-- the most tests that any bits make from a reference on
abbrev pub deepest : Store → Ref → ℕ
deepest s r = deep_from width (nodes_of s) width 0 r

-- what is noted of a node, if anything is, is the most tests from it on
abbrev pub DeepNoted : Store → List (Option ℕ) → Type 0
DeepNoted s deep = (k m : ℕ) → slice_index_or deep k None ≡ Some m → (k < s.linked) × (m ≡ deepest s (At k))
