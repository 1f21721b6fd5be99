-- Which of two rows of bits comes first. Assumes nothing.
use Rattle.std.proofs.Common.{◌≡◌, ℕ, ◌<◌, Bool, true, false, cond, not, sym, ap, ◌∙◌, arith}
use mathlib.Core.Bool.{false≢true}
use native.Mathlib.Decide.{dec_lt}
use Rattle.model.specs.Rows.{Bits, AgreeBelow, First}

-- where two rows agree below p and differ at p, the bits there decide
pub differ_here : (w : ℕ) (u v : Bits) (p : ℕ) → p < w → AgreeBelow p u v → (b : Bool) → u p ≡ b → v p ≡ not b
    → cond (not b) (First w u v) (First w u v → ⊥)
differ_here w u v p l same false e f = record { place = p; within = l; same = same; zero_here = e; one_there = f }
differ_here w u v p l same true e f = λ first. go first (dec_lt first.place p) (dec_lt p first.place)
  where
    go : (first : First w u v) → Dec (first.place < p) → Dec (p < first.place) → ⊥
    go first (yes h) m = false≢true (sym first.zero_here ∙ same first.place h ∙ first.one_there)
    go first (no n) (yes m) = false≢true (sym (sym e ∙ first.same p m ∙ f))
    go first (no n) (no m) = let at : first.place ≡ p = omega arith in false≢true (sym (sym e ∙ ap u (sym at) ∙ first.zero_here))
