-- The number and the address that a word writes. Assumes nothing.
use Rattle.std.specs.Prelude.{ℕ, zero, suc, ◌+◌, ◌-◌, ◌*◌, Bool, true, false, cond, List, [], ◌∷◌, Some, None, Option, ◌==◌, nat_le}

-- a byte from 0 to 9
abbrev pub digit : ℕ → Bool
digit b = cond (nat_le 48 b) (nat_le b 57) false

-- all bytes are digits
abbrev pub digits : List ℕ → Bool
digits [] = true
digits (b ∷ bs) = cond (digit b) (digits bs) false

-- the value of digits, after those that made n
abbrev pub read_on : ℕ → List ℕ → ℕ
read_on n [] = n
read_on n (b ∷ bs) = read_on (10 * n + (b - 48)) bs

-- n where it lies from low to high
abbrev pub within : ℕ → ℕ → ℕ → Option ℕ
within low high n = cond (nat_le low n) (cond (nat_le n high) (Some n) None) None

-- digits, with no leading zero but in 0 itself
abbrev pub numeral : List ℕ → Bool
numeral [] = false
numeral (b ∷ []) = digit b
numeral (b ∷ c ∷ cs) = cond (b == 48) false (digits (b ∷ c ∷ cs))

-- the number from low to high that the bytes write
abbrev pub number_in : ℕ → ℕ → List ℕ → Option ℕ
number_in low high bs = cond (numeral bs) (within low high (read_on 0 bs)) None

-- the bytes before the first dot
abbrev pub before_dot : List ℕ → List ℕ
before_dot [] = []
before_dot (b ∷ bs) = cond (b == 46) [] (b ∷ before_dot bs)

-- the bytes after the first dot, if there is one
abbrev pub after_dot : List ℕ → Option (List ℕ)
after_dot [] = None
after_dot (b ∷ bs) = cond (b == 46) (Some bs) (after_dot bs)

-- what follows of a value, if there is one
abbrev pub and_then : {A B : Type 0} → Option A → (A → Option B) → Option B
and_then None f = None
and_then (Some a) f = f a

-- k + 1 numbers 0–255 joined by dots, after those that made v
abbrev pub octets_in : ℕ → ℕ → List ℕ → Option ℕ
octets_in zero v bs = and_then (number_in 0 255 bs) (λ n. Some (v * 256 + n))
octets_in (suc k) v bs = and_then (number_in 0 255 (before_dot bs)) (λ n. and_then (after_dot bs) (λ more. octets_in k (v * 256 + n) more))

-- an address is four numbers 0–255 joined by dots, the first one on top
abbrev pub address_in : List ℕ → Option ℕ
address_in bs = octets_in 3 0 bs
