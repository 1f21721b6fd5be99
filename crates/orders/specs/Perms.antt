-- Lists that hold each of 0 to 103 once, and the profiles made of them. This file names no profile, since the
-- profile's own file imports it. Assumes nothing.
use Rattle.std.specs.Prelude.{◌≡◌, ℕ, ◌<◌, cond, List, length, Ok, Err, Result, nat_lt, slice_index}
use Rattle.acl.specs.Headers.{width}
use Rattle.acl.specs.declared.refusal.Refusal.{Refusal}
use Rattle.acl.specs.declared.refusal.Refusal.TheVariants.{BadProfile}

-- 104 numbers, and each of 0 to 103 stands at one place and at no other
pub record HoldsOnce (xs : List ℕ) : Type 0 where
  pub long : length xs ≡ width
  pub once : (b : ℕ) → b < width → (p : ℕ) × ((p < width) × (slice_index xs p ≡ b) × ((q : ℕ) → q < width → slice_index xs q ≡ b → q ≡ p))

-- the same, as the code finds it: all numbers are below 104, each stands somewhere, and none at two places
pub record EachOnce (xs : List ℕ) : Type 0 where
  pub long : length xs ≡ width
  pub below : (p : ℕ) → p < width → slice_index xs p < width
  pub stands : (b : ℕ) → b < width → (p : ℕ) × ((p < width) × (slice_index xs p ≡ b))
  pub single : (p q : ℕ) → p < width → q < width → slice_index xs p ≡ slice_index xs q → p ≡ q

-- places undoes bits, and bits places
abbrev pub Undoes : List ℕ → List ℕ → Type 0
Undoes bits places = (p : ℕ) → p < width → (slice_index bits p < width) × (slice_index places p < width) × (slice_index places (slice_index bits p) ≡ p) × (slice_index bits (slice_index places p) ≡ p)

-- what a stored list answers: 104 past its end
abbrev pub read_at : List ℕ → ℕ → ℕ
read_at xs p = cond (nat_lt p width) (slice_index xs p) width

-- the answer of the check
abbrev pub Checked : List ℕ → Result (Unit {0}) Refusal → Type 0
Checked xs (Ok u) = HoldsOnce xs
Checked xs (Err e) = (e ≡ BadProfile) × (HoldsOnce xs → ⊥)

-- the profile made of a list: its numbers by place, or the plain order where the check refuses it
pub record Made (xs : List ℕ) (bit_at : ℕ → ℕ) : Type 0 where
  pub good : HoldsOnce xs → (p : ℕ) → p < width → bit_at p ≡ slice_index xs p
  pub bad : (HoldsOnce xs → ⊥) → (p : ℕ) → p < width → bit_at p ≡ p
