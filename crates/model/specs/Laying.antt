-- Laying a piece over a reference, place by place. Assumes nothing.
use Rattle.std.specs.Prelude.{◌≡◌, Bool, true, cond, ◌&&◌, ℕ, zero, suc, Some, None, Option}
use Rattle.std.specs.Bool.{beq}
use Rattle.model.specs.Rows.{Bits}
use Rattle.model.specs.Stages.{Stage}
use Rattle.model.specs.declared.node.Ref.{Ref}
use Rattle.model.specs.declared.node.Ref.TheVariants.{Node as node}
use Rattle.model.specs.Diagram.{Table}

-- what a piece asks of the bit at a place: that it is this one, or nothing
abbrev pub Ask : Type 0
Ask = Option Bool

-- the bit is one that is asked for
abbrev pub meets : Ask → Bool → Bool
meets None b = true
meets (Some c) b = beq c b

-- the row has what the piece asks at the d places from p on
abbrev pub in_from : (ℕ → Ask) → ℕ → ℕ → Bits → Bool
in_from q zero p v = true
in_from q (suc d) p v = meets (q p) (v p) && in_from q d (suc p) v

-- of w places, the stage with the code c in the piece
unfoldable pub over : ℕ → (ℕ → Ask) → ℕ → Stage → Stage
over w q c s v = cond (in_from q w 0 v) c (s v)

-- m stands for the node (p, l, h), left out where both ways are one
pub data Made (t : Table) (In : ℕ → Type 0) (p : ℕ) (l h : Ref) : Ref → Type 0 where
  skipped : l ≡ h → Made t In p l h l
  found : (i : ℕ) → In i → t i ≡ record { place = p; low = l; high = h } → Made t In p l h (node i)

-- the second table has the nodes of the first, and maybe more
pub record Grown (In In' : ℕ → Type 0) (t t' : Table) : Type 0 where
  pub still : (i : ℕ) → In i → In' i
  pub same : (i : ℕ) → In i → t' i ≡ t i
