-- Rows of bits: a header's bits by number, or by the places at which an order tests them. Assumes nothing.
use Rattle.std.specs.Prelude.{◌≡◌, Bool, true, false, cond, ℕ, ◌<◌, eqb, ltb}

-- A row of bits. Where a row has w bits, only those below w count.
abbrev pub Bits : Type 0
Bits = ℕ → Bool

-- the two rows are the same below p
abbrev pub AgreeBelow : ℕ → Bits → Bits → Type 0
AgreeBelow p u v = (q : ℕ) → q < p → u q ≡ v q

-- of w bits, u has 0 at the first one at which the two rows differ
pub record First (w : ℕ) (u v : Bits) : Type 0 where
  pub place : ℕ
  pub within : place < w
  pub same : AgreeBelow place u v
  pub zero_here : u place ≡ false
  pub one_there : v place ≡ true

-- the bits of u before p, and those of v at p and after
abbrev pub splice : ℕ → Bits → Bits → Bits
splice p u v q = cond (ltb q p) (u q) (v q)

-- the row v with the bit b at p
abbrev pub put : ℕ → Bool → Bits → Bits
put p b v q = cond (eqb q p) b (v q)
