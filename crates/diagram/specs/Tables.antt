-- What a node table means, and what its calls answer. Assumes nothing.
use Rattle.std.specs.Prelude.{◌≡◌, ℕ, ◌<◌, ◌≤◌, Bool, cond, ◌≢◌, List, map, length, Some, None, Ok, Err, Option, Result, nat_le, slice_index_or}
use Rattle.acl.specs.Headers.{width}
use Rattle.model.specs.declared.node.Ref.{Ref}
use Rattle.model.specs.declared.node.Ref.TheVariants.{Code}
use Rattle.model.specs.Rows.{Bits, First}
use Rattle.model.specs.Sets.{AtMost, MoreThan, CountIs, Either, Tally}
use Rattle.model.specs.Stages.{Stage}
use Rattle.model.specs.Parts.{Part, PartOf, PartOfSome, Matters, fixed}
use Rattle.model.specs.Diagram.{Table, value, Known, part_at}
use Rattle.model.specs.Laying.{over}
use Rattle.diagram.specs.declared.cube.Cube.{Cube}
use Rattle.diagram.specs.declared.table.Table.{Table as NodeTable}
use Rattle.diagram.specs.declared.table.Denied.{Denied}
use Rattle.diagram.specs.declared.table.Denied.TheVariants.{NoNode, Full}
use Rattle.diagram.specs.Cubes.{asked}
use Rattle.diagram.specs.Stores.{nodes_of}
use Rattle.diagram.specs.Walks.{row_of}

-- the nodes of a table, and which of them count: those before its end mark
abbrev pub nodes : NodeTable → Table
nodes t = nodes_of t.store

abbrev pub Has : NodeTable → ℕ → Type 0
Has t i = i < t.end.at

-- the reference is a code or one of its nodes
abbrev pub Refers : NodeTable → Ref → Type 0
Refers t r = Known (Has t) r

-- how many nodes it can have
abbrev pub room : NodeTable → ℕ
room t = t.store.cap

-- a table is made for at most 2,048 nodes, and for none where more are asked for
abbrev pub room_for : ℕ → ℕ
room_for n = cond (nat_le n 2048) n 0

-- the stage that a reference stands for
abbrev pub stage_of : NodeTable → Ref → Stage
stage_of t r = value width (nodes t) r

-- the parts that are nodes of the table
abbrev pub NodeParts : NodeTable → Part → Type 0
NodeParts t x = (i : ℕ) × Has t i × (x ≡ part_at width (nodes t) i)

-- the stage after a piece is laid over a reference
abbrev pub stage_after : NodeTable → Cube → Ref → Stage
stage_after t c r = over width (asked c.asks) c.code (stage_of t r)

-- nothing that counts is changed
pub record Unchanged (t t' : NodeTable) : Type 0 where
  pub end : t'.end.at ≡ t.end.at
  pub same : (i : ℕ) → Has t i → nodes t' i ≡ nodes t i
  pub room_same : room t' ≡ room t

-- A piece was laid: x stands for the stage after, the old nodes stand as before, every new one is a part of the stage
-- after, and the nodes before and the parts of the stage after are together at most as many as there is room for.
pub record LaidOver (t t' : NodeTable) (c : Cube) (r x : Ref) : Type 0 where
  pub refers : Refers t' x
  pub is : (v : Bits) → stage_of t' x v ≡ stage_after t c r v
  pub more : t.end.at ≤ t'.end.at
  pub same : (i : ℕ) → Has t i → nodes t' i ≡ nodes t i
  pub new : (i : ℕ) → Has t' i → t.end.at ≤ i → PartOf (stage_after t c r) (part_at width (nodes t') i)
  pub few : AtMost (room t) (Either (NodeParts t) (PartOf (stage_after t c r)))
  pub room_same : room t' ≡ room t

-- No room: the table is as before, and the nodes in it and the parts of the stage after are together more than there is
-- room for.
pub record NoRoom (t t' : NodeTable) (c : Cube) (r : Ref) : Type 0 where
  pub unchanged : Unchanged t t'
  pub many : MoreThan (room t) (Either (NodeParts t) (PartOf (stage_after t c r)))

-- what laying answers
abbrev pub Lays : NodeTable → NodeTable → Cube → Ref → Result Ref Denied → Type 0
Lays t t' c r (Ok x) = Refers t r × LaidOver t t' c r x
Lays t t' c r (Err NoNode) = ¬ Refers t r × Unchanged t t'
Lays t t' c r (Err Full) = Refers t r × NoRoom t t' c r

-- Collected to the roots: each stands for what it stood for, and the nodes left are, one to one, the parts of the roots'
-- functions; n is their count.
pub record Collected (t t' : NodeTable) (roots roots' : List Ref) (n : ℕ) : Type 0 where
  pub refer : (j : ℕ) → j < length roots → Refers t' (slice_index_or roots' j (Code 0))
  pub are : (j : ℕ) → j < length roots → (v : Bits) → stage_of t' (slice_index_or roots' j (Code 0)) v ≡ stage_of t (slice_index_or roots j (Code 0)) v
  pub all : n ≡ t'.end.at
  pub count : CountIs (PartOfSome (map (stage_of t) roots)) n
  pub only : (i : ℕ) → Has t' i → PartOfSome (map (stage_of t) roots) (part_at width (nodes t') i)
  pub room_same : room t' ≡ room t

-- what collecting answers
abbrev pub Collects : NodeTable → NodeTable → List Ref → List Ref → Result ℕ Denied → Type 0
Collects t t' roots roots' (Ok n) = ((j : ℕ) → j < length roots → Refers t (slice_index_or roots j (Code 0))) × Collected t t' roots roots' n
Collects t t' roots roots' (Err NoNode) = ¬ ((j : ℕ) → j < length roots → Refers t (slice_index_or roots j (Code 0))) × Unchanged t t' × (roots' ≡ roots)
Collects t t' roots roots' (Err Full) = ⊥

-- the places at which what the earlier bits leave is a part
abbrev pub Tests : NodeTable → Ref → Bits → ℕ → Type 0
Tests t r v n = Tally (λ p. Matters p (fixed p v (stage_of t r))) width n

-- what deciding answers: the code for these bits, and the number of tests
abbrev pub Decides : NodeTable → List Bool → Ref → Result (ℕ × ℕ) Denied → Type 0
Decides t bits r (Ok x) = Refers t r × (x.0 ≡ stage_of t r (row_of bits)) × Tests t r (row_of bits) x.1
Decides t bits r (Err NoNode) = ¬ Refers t r
Decides t bits r (Err Full) = ⊥

-- n is the largest number of tests of any bits, and some bits make so many
pub record Deepest (t : NodeTable) (r : Ref) (n : ℕ) : Type 0 where
  pub most : (v : Bits) (m : ℕ) → Tests t r v m → m ≤ n
  pub some : Bits
  pub reached : Tests t r some n

-- what the depth answers
abbrev pub Deep : NodeTable → Ref → Result ℕ Denied → Type 0
Deep t r (Ok n) = Refers t r × Deepest t r n
Deep t r (Err NoNode) = ¬ Refers t r
Deep t r (Err Full) = ⊥

-- two references are equal exactly when they have the same value for all bits; else they differ first at these bits
abbrev pub FirstDifference : NodeTable → Ref → Ref → Option (List Bool) → Type 0
FirstDifference t a b None = (a ≡ b) × ((v : Bits) → stage_of t a v ≡ stage_of t b v)
FirstDifference t a b (Some bits) =
    (a ≢ b) × (stage_of t a (row_of bits) ≢ stage_of t b (row_of bits))
    × ((v : Bits) → First width v (row_of bits) → stage_of t a v ≡ stage_of t b v)

-- what the comparison answers
abbrev pub Differs : NodeTable → Ref → Ref → Result (Option (List Bool)) Denied → Type 0
Differs t a b (Ok d) = Refers t a × Refers t b × FirstDifference t a b d
Differs t a b (Err NoNode) = ¬ (Refers t a × Refers t b)
Differs t a b (Err Full) = ⊥
