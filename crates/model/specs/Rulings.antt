-- Lists of lines, the verdict of the first line that fits, idle lines and pruning: for every sort of header, line
-- and verdict. Assumes nothing.
use Rattle.std.specs.Prelude.{◌≡◌, ◌⊎◌, Bool, true, cond, ℕ, zero, suc}
use mathlib.Core.List.{List, [], ◌∷◌, reverse, reverse_aux}

-- What lists decide by: which values of H are headers, whether a line fits one, a line's verdict, and the verdict at
-- the end of a list.
pub record Ruling (H L V : Type 0) : Type 0 where
  pub real : H → Bool
  pub fits : L → H → Bool
  pub says : L → V
  pub at_end : V

-- the list without its line i, counted from 0
abbrev pub without : {L : Type 0} → List L → ℕ → List L
without [] i = []
without (x ∷ xs) zero = xs
without (x ∷ xs) (suc i) = x ∷ without xs i

module _ {H L V : Type 0} (r : Ruling H L V) where
  -- the verdict of the first line that fits, or else the end verdict
  abbrev pub verdict : List L → H → V
  verdict [] h = r.at_end
  verdict (x ∷ xs) h = cond (r.fits x h) (r.says x) (verdict xs h)

  -- every header gets the same verdict from both lists
  abbrev pub Alike : List L → List L → Type 0
  Alike xs ys = (h : H) → r.real h ≡ true → verdict xs h ≡ verdict ys h

  -- a line is idle if the list without it gives every header the same verdict
  abbrev pub Idle : List L → ℕ → Type 0
  Idle xs i = Alike (without xs i) xs

  -- Pruning from last line to first: a line is dropped if the current list without it gives every header the same
  -- verdict. `front` has the lines not yet tried, last first, and `kept` those kept so far; `reverse_aux front kept`
  -- is the current list without the line that is tried.
  abbrev pub PrunedFrom : List L → List L → List L → Type 0
  PrunedFrom [] kept out = out ≡ kept
  PrunedFrom (x ∷ front) kept out =
      (Alike (reverse_aux front kept) (reverse_aux front (x ∷ kept)) × PrunedFrom front kept out)
      ⊎ (¬ Alike (reverse_aux front kept) (reverse_aux front (x ∷ kept)) × PrunedFrom front (x ∷ kept) out)

  -- pruning the list xs leaves the list out
  abbrev pub Pruned : List L → List L → Type 0
  Pruned xs out = PrunedFrom (reverse xs) [] out
