-- What a store of nodes means, and what changes of it keep. Assumes nothing.
use Rattle.std.specs.Prelude.{◌≡◌, ℕ, ◌+◌, ◌-◌, ◌<◌, ◌≤◌, true, false, cond, ◌≢◌, Option, Some, None, nat_eq, slice_index_or}
use Rattle.acl.specs.Headers.{width}
use Rattle.model.specs.declared.node.Ref.{Ref}
use Rattle.model.specs.declared.node.Ref.TheVariants.{Code, Node as At}
use Rattle.model.specs.Rows.{Bits}
use Rattle.model.specs.Stages.{Stage}
use Rattle.model.specs.Parts.{Part, PartOf}
use Rattle.model.specs.Diagram.{Table, top, step, value, part_at}
use Rattle.model.specs.Laying.{in_from}
use Rattle.diagram.specs.declared.cube.Cube.{Cube}
use Rattle.diagram.specs.declared.store.Store.{Store}
use Rattle.diagram.specs.declared.store.Past.{Past}
use Rattle.diagram.specs.declared.store.Made.{Made}
use Rattle.diagram.specs.declared.store.Notes.{Notes}
use Rattle.diagram.specs.Cubes.{asked}
use Rattle.diagram.specs.Nodes.{table_of, Under}

-- the nodes of a store as a table, and the stage that a reference stands for
abbrev pub nodes_of : Store → Table
nodes_of s = table_of s.nodes

abbrev pub value_in : Store → Ref → Stage
value_in s r = value width (nodes_of s) r

-- after some laying all nodes stand as before, and there may be more
pub record Grows (s s' : Store) : Type 0 where
  pub more : s.linked ≤ s'.linked
  pub same : (k : ℕ) → k < s.linked → nodes_of s' k ≡ nodes_of s k
  pub cap : s'.cap ≡ s.cap

-- r is a reference of the store that tests no place before p
pub record Fits (s : Store) (p : ℕ) (r : Ref) : Type 0 where
  pub under : Under s.linked r
  pub later : p ≤ top width (nodes_of s) r

-- every node that s' has more than s is a part of g
abbrev pub New : Store → Store → Stage → Type 0
New s s' g = (i : ℕ) → s.linked ≤ i → i < s'.linked → PartOf g (part_at width (nodes_of s') i)

-- x stands for g from place p on
pub record Stands (s : Store) (p : ℕ) (g : Stage) (x : Ref) : Type 0 where
  pub fits : Fits s p x
  pub is : (v : Bits) → value_in s x v ≡ g v

-- no room is left, and g has a part that is no node
pub record Lacks (s : Store) (g : Stage) : Type 0 where
  pub full : s.linked ≡ s.cap
  pub part : Part
  pub of : PartOf g part
  pub new : (i : ℕ) → i < s.linked → part_at width (nodes_of s) i ≢ part

-- high where the bit at p is 1, and low where it is 0
abbrev pub joined : Store → ℕ → Ref → Ref → Stage
joined s p low high v = cond (v p) (value_in s high v) (value_in s low v)

-- the piece laid over f from place p on: the code where the bits from p on are as they are asked for, and else f
abbrev pub laid_from : Cube → Store → ℕ → Ref → Stage
laid_from c s p f v = cond (in_from (asked c.asks) (width - p) p v) c.code (value_in s f v)

-- f branches at p to low and high: it tests p and goes on to them, or does not and stays
pub record Branches (s : Store) (p : ℕ) (f low high : Ref) : Type 0 where
  pub low_fits : Fits s (p + 1) low
  pub high_fits : Fits s (p + 1) high
  pub low_is : low ≡ step (nodes_of s) p false f
  pub high_is : high ≡ step (nodes_of s) p true f
  pub is : (v : Bits) → value_in s f v ≡ joined s p low high v

-- what stands at a node over which nothing was made
abbrev pub unmade : Made
unmade = record { round = 0; made = Code 0 }

-- what was made over a node, where that was in round r
abbrev pub made_in : ℕ → Made → Option Ref
made_in r m = cond (nat_eq m.round r) (Some m.made) None

-- what the notes hold of node k: what was made over it in their own round
abbrev pub told : Notes → ℕ → Option Ref
told n k = made_in n.round (slice_index_or n.made k unmade)

-- each note is the piece laid over its node, or over its reference from its place on
pub record Noted (s : Store) (c : Cube) (n : Notes) : Type 0 where
  pub made : (k : ℕ) (x : Ref) → told n k ≡ Some x
      → (k < s.linked) × Stands s (nodes_of s k).place (laid_from c s (nodes_of s k).place (At k)) x
  pub past : (p : ℕ) (e : Past) → slice_index_or n.past p None ≡ Some e → Under s.linked e.over × Stands s p (laid_from c s p e.over) e.made

-- x is a note for f at place p
abbrev pub Note : Store → Cube → ℕ → Ref → Ref → Type 0
Note s c p f x = Stands s p (laid_from c s p f) x
