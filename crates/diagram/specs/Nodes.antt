-- Nodes in a row, and the index by which they are found again. This file names no struct with a ghost field.
-- Assumes nothing.
use Rattle.std.specs.Prelude.{◌≡◌, ℕ, ◌+◌, ◌-◌, ◌*◌, ◌%◌, ◌<◌, ◌≤◌, cond, ◌≢◌, List, Option, Some, None, nat_eq, slice_index_or}
use Rattle.acl.specs.Headers.{width}
use Rattle.model.specs.declared.node.Ref.{Ref}
use Rattle.model.specs.declared.node.Ref.TheVariants.{Code, Node as At}
use Rattle.model.specs.declared.node.Node.{Node}
use Rattle.model.specs.Diagram.{Table, top, Known}
use Rattle.diagram.specs.declared.store.link.Link.{Link}

-- what stands past the end of a row of nodes
abbrev pub blank : Node
blank = record { place = 0; low = Code 0; high = Code 0 }

-- a row of nodes as a table
abbrev pub table_of : List Node → Table
table_of ns i = slice_index_or ns i blank

-- a reference to one of the first e nodes, or a code
abbrev pub Under : ℕ → Ref → Type 0
Under e r = Known (λ i. i < e) r

-- n may stand at k: it refers to earlier nodes of later places, and its two references differ
pub record Good (ns : List Node) (k : ℕ) (n : Node) : Type 0 where
  pub placed : n.place < width
  pub low_under : Under k n.low
  pub high_under : Under k n.high
  pub low_later : n.place < top width (table_of ns) n.low
  pub high_later : n.place < top width (table_of ns) n.high
  pub apart : n.low ≢ n.high

-- the bucket in which a node is looked for
abbrev pub number : Ref → ℕ
number (At i) = 2 * i
number (Code c) = 2 * c + 1

unfoldable pub bucket : Node → ℕ
bucket n = (n.place + 31 * number n.low + 1021 * number n.high) % 4096

-- i is the last of the first e nodes that lie in bucket b
pub record LastIn (ns : List Node) (b e i : ℕ) : Type 0 where
  pub within : i < e
  pub owner : bucket (table_of ns i) ≡ b
  pub all : (k : ℕ) → k < e → bucket (table_of ns k) ≡ b → k ≤ i

-- none, where none of the first e nodes lies in bucket b, or the last of those that do
abbrev pub Chained : List Node → ℕ → ℕ → Option ℕ → Type 0
Chained ns b e None = (k : ℕ) → k < e → bucket (table_of ns k) ≢ b
Chained ns b e (Some i) = LastIn ns b e i

-- a link to no node
abbrev pub unlinked : Link
unlinked = record { after = 0 }

-- the node that a link leads to: a link holds the number after the node's own, or 0 where there is none
unfoldable pub linked : Link → Option ℕ
linked l = cond (nat_eq l.after 0) None (Some (l.after - 1))

-- e nodes, each of them good and no two alike, and an index of them by buckets: the last node of each bucket, and of each
-- node the one before it in its bucket
pub record Sound (ns : List Node) (head next : List Link) (e : ℕ) : Type 0 where
  pub fits : e ≤ 2048
  pub good : (k : ℕ) → k < e → Good ns k (table_of ns k)
  pub unique : (j k : ℕ) → j < e → k < e → table_of ns j ≡ table_of ns k → j ≡ k
  pub heads : (b : ℕ) → b < 4096 → Chained ns b e (linked (slice_index_or head b unlinked))
  pub nexts : (i : ℕ) → i < e → Chained ns (bucket (table_of ns i)) i (linked (slice_index_or next i unlinked))
