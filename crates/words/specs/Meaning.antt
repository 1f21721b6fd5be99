-- What an address word is, in the subject's words: four numbers joined by dots. Assumes nothing.
use Rattle.std.specs.Prelude.{◌≡◌, ℕ, ◌+◌, ◌*◌, ◌≤◌, List, ◌∷◌, ◌++◌, decimal}

-- bs are the decimals of four numbers 0–255 joined by dots, and v is their value, the first one on top
pub record AddressText (bs : List ℕ) (v : ℕ) : Type 0 where
  pub a : ℕ
  pub b : ℕ
  pub c : ℕ
  pub d : ℕ
  pub small : (a ≤ 255) × (b ≤ 255) × (c ≤ 255) × (d ≤ 255)
  pub bytes : bs ≡ decimal a ++ (46 ∷ (decimal b ++ (46 ∷ (decimal c ++ (46 ∷ decimal d)))))
  pub value : v ≡ ((a * 256 + b) * 256 + c) * 256 + d
