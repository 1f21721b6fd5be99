-- What an order means, and its laws. This file names no order of the code, since the trait's own file imports it.
-- Assumes nothing.
use Rattle.std.specs.Prelude.{◌≡◌, ℕ, ◌<◌, ◌≤◌}

-- an order's meaning: the bit at a place, and the place of a bit
pub record OrderMeaning : Type 0 where
  pub bit_at : ℕ → ℕ
  pub place_of : ℕ → ℕ

-- its laws over w places: below w both answer below w and each undoes the other, and from w on both answer w
pub record LawfulOrder (w : ℕ) (o : OrderMeaning) : Type 0 where
  pub bit_within : (p : ℕ) → p < w → o.bit_at p < w
  pub place_within : (b : ℕ) → b < w → o.place_of b < w
  pub place_of_bit : (p : ℕ) → p < w → o.place_of (o.bit_at p) ≡ p
  pub bit_of_place : (b : ℕ) → b < w → o.bit_at (o.place_of b) ≡ b
  pub bit_past : (p : ℕ) → w ≤ p → o.bit_at p ≡ w
  pub place_past : (b : ℕ) → w ≤ b → o.place_of b ≡ w
