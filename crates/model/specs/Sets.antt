-- Families of things, counted with repeated ones taken once. Assumes nothing.
use Rattle.std.specs.Prelude.{◌≡◌, ◌⊎◌, ◌↔◌, List, [], ◌∷◌, ℕ, zero, suc, ◌≤◌, ◌<◌, length}

module _ {A : Type 0} where
  infix 40 ◌∈◌
  -- x stands in the list
  abbrev pub ◌∈◌ : A → List A → Type 0
  x ∈ [] = ⊥
  x ∈ (y ∷ ys) = (x ≡ y) ⊎ (x ∈ ys)

  -- no thing stands twice in the list
  abbrev pub Distinct : List A → Type 0
  Distinct [] = Unit {0}
  Distinct (x ∷ xs) = ¬ (x ∈ xs) × Distinct xs

  -- the family S has exactly n members
  pub record CountIs (S : A → Type 0) (n : ℕ) : Type 0 where
    pub members : List A
    pub distinct : Distinct members
    pub exact : (x : A) → S x ↔ (x ∈ members)
    pub number : length members ≡ n

  -- it has at most n: some n things are all that it can have
  pub record AtMost (n : ℕ) (S : A → Type 0) : Type 0 where
    pub members : List A
    pub all : (x : A) → S x → x ∈ members
    pub few : length members ≤ n

  -- it has more than n: there are so many pairwise different ones
  pub record MoreThan (n : ℕ) (S : A → Type 0) : Type 0 where
    pub members : List A
    pub distinct : Distinct members
    pub only : (x : A) → x ∈ members → S x
    pub many : n < length members

  -- members of either family
  abbrev pub Either : (A → Type 0) → (A → Type 0) → A → Type 0
  Either S R x = S x ⊎ R x

-- n of the numbers below m have P
pub data Tally (P : ℕ → Type 0) : ℕ → ℕ → Type 0 where
  none : Tally P zero zero
  hit : {m n : ℕ} → P m → Tally P m n → Tally P (suc m) (suc n)
  miss : {m n : ℕ} → ¬ P m → Tally P m n → Tally P (suc m) n
