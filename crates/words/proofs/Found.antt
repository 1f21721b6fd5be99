-- Where a byte first stands. Assumes nothing.
use Rattle.std.proofs.Common.{◌≡◌, ℕ, ◌<◌, ◌≤◌, ◌==◌, Bool, true, false, List, Option, length, get_or, Some, None, sym, refl, ap, ◌∙◌, arith, unwrap_or}
use Rattle.std.specs.List.{position, position_or_len}
use Rattle.std.proofs.lemmas.Bool.Decides.{nat_tests}
use Rattle.std.proofs.lemmas.List.Sums.{fails_before_first}
use Rattle.std.proofs.lemmas.List.Quantifiers.{position-Some}

-- nothing passes
past : (p : ℕ → Bool) (xs : List ℕ) → None ≡ position p xs → length xs ≤ position_or_len p xs
past p xs e = grind (arith, nat_tests)

unlike : (b c : ℕ) → (b == c) ≡ false → b ≡ c → ⊥
unlike b c e h = grind (arith, nat_tests)

alike : (b c : ℕ) → (b == c) ≡ true → b ≡ c
alike b c e = grind (arith, nat_tests)

pub none_passes : (p : ℕ → Bool) (xs : List ℕ) → None ≡ position p xs → (k : ℕ) → k < length xs → p (get_or xs k 0) ≡ false
none_passes p xs e k lt =
    let far : length xs ≤ position_or_len p xs = past p xs e in
    fails_before_first p xs k 0 (omega arith)

-- n elements stand before the first that passes, or all where none does
pub record Before (p : ℕ → Bool) (xs : List ℕ) (n : ℕ) : Type 0 where
  pub within : n ≤ length xs
  pub fail : (k : ℕ) → k < n → p (get_or xs k 0) ≡ false
  pub stops : n < length xs → p (get_or xs n 0) ≡ true

before_by : (p : ℕ → Bool) (xs : List ℕ) (n : ℕ) (o : Option ℕ) → position p xs ≡ o → n ≡ unwrap_or o (length xs) → Before p xs n
before_by p xs n (Some i) e h =
    let q = position-Some p xs i 0 e in
    record { within = omega (arith, q.0); fail = λ k lt. q.2 k (omega arith); stops = λ lt. ap (λ j. p (get_or xs j 0)) h ∙ q.1 }
before_by p xs n None e h =
    record { within = omega arith; fail = λ k lt. none_passes p xs (sym e) k (omega arith); stops = λ lt. absurd (omega arith) }

pub before : (p : ℕ → Bool) (xs : List ℕ) (n : ℕ) → n ≡ unwrap_or (position p xs) (length xs) → Before p xs n
before p xs n h = before_by p xs n (position p xs) refl h

pub none_found : (c : ℕ) (xs : List ℕ) → None ≡ position (λ b. b == c) xs → (k : ℕ) → k < length xs → get_or xs k 0 ≡ c → ⊥
none_found c xs e k lt = unlike (get_or xs k 0) c (none_passes (λ b. b == c) xs e k lt)

pub record FoundAt (c : ℕ) (xs : List ℕ) (i : ℕ) : Type 0 where
  pub inside : i < length xs
  pub here : get_or xs i 0 ≡ c
  pub first : (k : ℕ) → k < i → get_or xs k 0 ≡ c → ⊥

pub found : (c : ℕ) (xs : List ℕ) (i : ℕ) → Some i ≡ position (λ b. b == c) xs → FoundAt c xs i
found c xs i e =
    let p = position-Some (λ b. b == c) xs i 0 (sym e) in
    record { inside = p.0; here = alike (get_or xs i 0) c p.1; first = λ k h. unlike (get_or xs k 0) c (p.2 k h) }
