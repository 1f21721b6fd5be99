-- Bits of numbers. Assumes nothing.
use Rattle.std.specs.Prelude.{ℕ, zero, suc, ◌/◌, ◌%◌, ◌^◌, Bool, true, false, cond, ◌==◌}

-- bit k of n, counted from the low end: 0 or 1
abbrev pub bit : ℕ → ℕ → ℕ
bit k n = n / 2 ^ k % 2

-- p holds of each number below n
abbrev pub all_below : ℕ → (ℕ → Bool) → Bool
all_below zero p = true
all_below (suc n) p = cond (p n) (all_below n p) false

-- of w bits, each bit of a is ignored, where the wildcard has a 1, or is that of b
abbrev pub alike : ℕ → ℕ → ℕ → ℕ → Bool
alike w wildcard a b = all_below w (λ k. cond (bit k wildcard == 1) true (bit k a == bit k b))
