-- Rows of bits that are spliced or changed at a place, and parts by their fields. Assumes nothing.
use mathlib.Core.Path.{◌≡◌, refl, ap}
use mathlib.Core.Logic.{◌≢◌}
use mathlib.Core.Bool.{Bool, cond}
use Prim.Native.Nat.{ℕ, ◌≤◌, ◌<◌}
use borrow.Author.Tests.{lt-ltb, le-ltb, eq-eqb, ne_eqb}
use Rattle.model.specs.Rows.{Bits, splice, put}
use Rattle.model.specs.Parts.{Part}

-- before p a splice has the bits of the first row
pub splice_low : (p : ℕ) (u v : Bits) (q : ℕ) → q < p → splice p u v q ≡ u q
splice_low p u v q h = ap (λ b. cond b (u q) (v q)) (lt-ltb q p h)

-- from p on it has those of the second
pub splice_high : (p : ℕ) (u v : Bits) (q : ℕ) → p ≤ q → splice p u v q ≡ v q
splice_high p u v q h = ap (λ b. cond b (u q) (v q)) (le-ltb q p h)

-- the bit that is put is there
pub put_here : (p : ℕ) (b : Bool) (v : Bits) → put p b v p ≡ b
put_here p b v = ap (λ c. cond c b (v p)) (eq-eqb p p refl)

-- and no other changes
pub put_else : (p : ℕ) (b : Bool) (v : Bits) (q : ℕ) → q ≢ p → put p b v q ≡ v q
put_else p b v q h = ap (λ c. cond c b (v q)) (ne_eqb q p h)

-- two parts with the same place and the same function are the same
pub same_part : (x y : Part) → x.place ≡ y.place → x.left ≡ y.left → x ≡ y
same_part x y p l = λ i. record { place = p i; left = l i }
