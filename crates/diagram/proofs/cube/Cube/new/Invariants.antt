-- The row is filled from the place on. Assumes nothing.
use Rattle.std.proofs.Common.{◌≡◌, ℕ, ◌<◌, ◌≤◌, IsNone, List, length, get_or}
use Rattle.model.specs.Laying.{Ask}
use Rattle.diagram.specs.Cubes.{asked}
use Rattle.diagram.proofs.cube.Cube.new.Given as goal

-- nothing is asked from p up to n
abbrev pub Still : List Ask → ℕ → ℕ → Type 0
Still asks p n = (z : ℕ) → p ≤ z → z < n → IsNone (asked asks z)

-- `coming` is the next place from here on, and the row has the next places from here on
abbrev pub invariant-loop-place : goal.invariant-loop-place
invariant-loop-place l = record {
  long : length l.next ≡ 104;
  onward : l.place ≤ l.coming;
  inside : l.coming ≤ 104;
  still : Still l.asks l.place l.coming;
  all_onward : (p : ℕ) → l.place ≤ p → p < 104 → p ≤ get_or l.next p 0;
  all_inside : (p : ℕ) → l.place ≤ p → p < 104 → get_or l.next p 0 ≤ 104;
  all_still : (p : ℕ) → l.place ≤ p → p < 104 → Still l.asks p (get_or l.next p 0);
}
