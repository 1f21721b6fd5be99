-- The book of a shelf: what is loaded where. Assumes nothing.
use Rattle.std.specs.Prelude.{◌≡◌, ℕ, ◌≤◌, cond, List, ◌==◌}
use Rattle.acl.specs.declared.line.Line.{Line}
use Rattle.model.specs.Sets.{Either}
use Rattle.model.specs.Parts.{Part}
use Rattle.orders.specs.Meanings.{OrderMeaning}
use Rattle.kinds.specs.Kinds.{KindMeaning}
use Rattle.stages.specs.Lists.{PartsOf}

-- a slot is empty, or has a list, which is then loaded there
pub data Slot : Type 0 where
  empty : Slot
  holds : List Line → Slot

-- A book: the order and the kind of a shelf, the number of its nodes, and its slots.
pub record Book (V : Type 0) : Type 0 where
  pub order : OrderMeaning
  pub kind : KindMeaning V
  pub size : ℕ
  pub slot : ℕ → Slot

-- a book at first has no lists
abbrev pub opened : {V : Type 0} → OrderMeaning → KindMeaning V → ℕ → Book V
opened o k n = record { order = o; kind = k; size = n; slot = λ s. empty }

-- the book with this in the slot s
abbrev pub with_slot : {V : Type 0} → Book V → ℕ → Slot → Book V
with_slot b s c = record { order = b.order; kind = b.kind; size = b.size; slot = λ t. cond (t == s) c (b.slot t) }

-- the held parts: those of all loaded lists
pub record Held {V : Type 0} (b : Book V) (x : Part) : Type 0 where
  pub slot : ℕ
  pub within : slot ≤ 15
  pub list : List Line
  pub loaded : b.slot slot ≡ holds list
  pub part : PartsOf b.order b.kind list x

-- the held parts and those of a list
abbrev pub HeldWith : {V : Type 0} → Book V → List Line → Part → Type 0
HeldWith b xs = Either (Held b) (PartsOf b.order b.kind xs)
