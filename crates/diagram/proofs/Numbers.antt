-- The numbers below n. Assumes nothing.
use Rattle.std.proofs.Common.{◌≡◌, ℕ, zero, suc, ◌<◌, ◌⊎◌, List, [], ◌∷◌, length, refl, ap, inl, inr, arith}
use native.Mathlib.Decide.{ℕ_discrete}
use Rattle.model.specs.Sets.{◌∈◌, Distinct}

pub below : ℕ → List ℕ
below zero = []
below (suc n) = n ∷ below n

-- each of them is in the list
pub in_below : (n i : ℕ) → i < n → i ∈ below n
unfolding below
in_below zero i h = omega arith
in_below (suc n) i h = go (ℕ_discrete i n) (in_below n i)
  where
    go : Dec (i ≡ n) → (i < n → i ∈ below n) → (i ≡ n) ⊎ (i ∈ below n)
    go (yes e) ih = inl e
    go (no d) ih = inr (ih (omega arith))

-- and no other
pub below_in : (n i : ℕ) → i ∈ below n → i < n
unfolding below
below_in zero i h = absurd h
below_in (suc n) i (inl e) = omega arith
below_in (suc n) i (inr h) = let l = below_in n i h in omega arith

pub distinct_below : (n : ℕ) → Distinct (below n)
unfolding below
distinct_below zero = tt
distinct_below (suc n) = (λ h. let l = below_in n n h in omega arith, distinct_below n)

pub length_below : (n : ℕ) → length (below n) ≡ n
unfolding below
length_below zero = refl
length_below (suc n) = ap suc (length_below n)
