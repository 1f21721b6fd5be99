-- Wildcards, bit by bit. Assumes nothing.
use Rattle.std.proofs.Common.{◌≡◌, ℕ, zero, suc, ◌+◌, ◌-◌, ◌*◌, ◌/◌, ◌%◌, ◌^◌, ◌<◌, ◌≤◌, min, Bool, true, false, cond, eqb, sym, refl, ap, ◌∙◌, ⊎_elim, mul_comm, pow-suc, div-one, arith}
use native.Mathlib.Nat.{div-div-eq-div-mul, min-le_left, min-le_right}
use lib.Bits.{bit_and, bit_xor, and_step, and_shr, and_mod, and_le_r, and_zero_r, differ, xor_step, xor_shr}
use Rattle.std.proofs.lemmas.Bool.{cases_lt, false≢true}
use Rattle.std.proofs.lemmas.Bool.Decides.{same_from_decides, Decides-eqb, Decides-like, nat_tests}
use Rattle.acl.specs.Bits.{bit, all_below, alike}

-- the complement of w among the numbers below p * 2: its upper bits, and its lowest
pub half_not : (p w : ℕ) → w < p * 2 → (p * 2 - 1 - w) / 2 ≡ p - 1 - w / 2
half_not p w h = omega arith

pub odd_not : (p w : ℕ) → w < p * 2 → (p * 2 - 1 - w) % 2 ≡ 1 - w % 2
odd_not p w h = omega arith

-- what is cleared under the wildcard has no bit in common with it
pub clear : (k a w : ℕ) → w < 2 ^ k → bit_and (bit_and a (2 ^ k - 1 - w)) w ≡ 0
clear zero a w h = let e : w ≡ 0 = omega arith in ap (bit_and (bit_and a (2 ^ 0 - 1 - w))) e ∙ and_zero_r _
clear (suc k) a w h =
    let double = pow-suc 2 k in
    let n = 2 ^ suc k - 1 - w in
    let half : n / 2 ≡ 2 ^ k - 1 - w / 2 = ap (λ p. (p - 1 - w) / 2) double ∙ half_not (2 ^ k) w (omega arith) in
    let odd : n % 2 ≡ 1 - w % 2 = ap (λ p. (p - 1 - w) % 2) double ∙ odd_not (2 ^ k) w (omega arith) in
    let upper : bit_and (bit_and a n / 2) (w / 2) ≡ 0 = ap (λ x. bit_and x (w / 2)) (and_shr a n 1 ∙ ap (bit_and (a / 2)) half) ∙ clear k (a / 2) (w / 2) (omega arith) in
    let low : bit_and a n % 2 ≤ n % 2 = omega (arith, and_mod a n 1, and_le_r (a % 2) (n % 2)) in
    and_step (bit_and a n) w ∙ omega (arith, upper, low, odd, min-le_left (bit_and a n % 2) (w % 2), min-le_right (bit_and a n % 2) (w % 2))

-- a bit of n but the lowest is a bit of its half
pub bit_half : (j n : ℕ) → bit (suc j) n ≡ bit j (n / 2)
bit_half j n = ap (λ d. d % 2) (ap (λ p. n / p) (pow-suc 2 j ∙ mul_comm (2 ^ j) 2) ∙ sym (div-div-eq-div-mul n 2 (2 ^ j)))

pub bit_low : (n : ℕ) → bit 0 n ≡ n % 2
bit_low n = ap (λ d. d % 2) (div-one n)

-- on numbers of one bit, `differ` is 0 exactly where they are the same
differ_none : (x y : ℕ) → x < 2 → y < 2 → differ x y ≡ 0 → x ≡ y
differ_none zero zero h k e = refl
differ_none zero (suc y) h k e = sym e
differ_none (suc x) zero h k e = e
differ_none (suc x) (suc y) h k e = omega arith

differ_lt : (x y : ℕ) → x < 2 → y < 2 → differ x y < 2
differ_lt zero y h k = k
differ_lt (suc x) zero h k = h
differ_lt (suc zero) (suc zero) h k = omega arith
differ_lt (suc zero) (suc (suc y)) h k = absurd (omega arith)
differ_lt (suc (suc x)) (suc y) h k = absurd (omega arith)

-- where the lowest bit of the xor is 0, the lowest bits are the same
differs_low : (a b : ℕ) → bit_xor a b % 2 ≡ 0 → differ (a % 2) (b % 2) ≡ 0
differs_low a b low = omega (arith, xor_step a b, differ_lt (a % 2) (b % 2) (omega arith) (omega arith))

differ_same : (x : ℕ) → x < 2 → differ x x ≡ 0
differ_same zero h = refl
differ_same (suc zero) h = refl
differ_same (suc (suc x)) h = absurd (omega arith)

-- where a and b differ only under the wildcard, each bit outside it agrees
pub agrees : (k a b w : ℕ) → w < 2 ^ k → bit_and (bit_xor a b) (2 ^ k - 1 - w) ≡ 0 → (j : ℕ) → j < k → bit j w ≡ 0 → bit j a ≡ bit j b
agrees zero a b w h e j lt z = absurd (omega arith)
agrees (suc k) a b w h e j lt z =
    let double = pow-suc 2 k in
    let n = 2 ^ suc k - 1 - w in
    let x = bit_xor a b in
    let half : n / 2 ≡ 2 ^ k - 1 - w / 2 = ap (λ p. (p - 1 - w) / 2) double ∙ half_not (2 ^ k) w (omega arith) in
    let odd : n % 2 ≡ 1 - w % 2 = ap (λ p. (p - 1 - w) % 2) double ∙ odd_not (2 ^ k) w (omega arith) in
    let parts : bit_and (x / 2) (n / 2) * 2 + min (x % 2) (n % 2) ≡ 0 = sym (and_step x n) ∙ e in
    let upper : bit_and (bit_xor (a / 2) (b / 2)) (2 ^ k - 1 - w / 2) ≡ 0 = ap (λ y. bit_and y (2 ^ k - 1 - w / 2)) (sym (xor_shr a b 1)) ∙ ap (bit_and (x / 2)) (sym half) ∙ omega arith in
    elim j as (λ j. j < suc k → bit j w ≡ 0 → bit j a ≡ bit j b) [
      | zero ↦ λ _ z.
          let even : w % 2 ≡ 0 = sym (bit_low w) ∙ z in
          let one : n % 2 ≡ 1 = omega arith in
          let none : min (x % 2) 1 ≡ 0 = ap (min (x % 2)) (sym one) ∙ omega arith in
          let low : x % 2 ≡ 0 = omega arith in
          bit_low a ∙ differ_none (a % 2) (b % 2) (omega arith) (omega arith) (differs_low a b low) ∙ sym (bit_low b)
      | suc i ↦ λ lt z. bit_half i a ∙ agrees k (a / 2) (b / 2) (w / 2) (omega arith) upper i (omega arith) (sym (bit_half i w) ∙ z) ∙ sym (bit_half i b)
    ] lt z

-- and back
pub agree : (k a b w : ℕ) → w < 2 ^ k → ((j : ℕ) → j < k → bit j w ≡ 0 → bit j a ≡ bit j b) → bit_and (bit_xor a b) (2 ^ k - 1 - w) ≡ 0
agree zero a b w h all = let e : 2 ^ 0 - 1 - w ≡ 0 = omega arith in ap (bit_and (bit_xor a b)) e ∙ and_zero_r _
agree (suc k) a b w h all =
    let double = pow-suc 2 k in
    let n = 2 ^ suc k - 1 - w in
    let x = bit_xor a b in
    let half : n / 2 ≡ 2 ^ k - 1 - w / 2 = ap (λ p. (p - 1 - w) / 2) double ∙ half_not (2 ^ k) w (omega arith) in
    let odd : n % 2 ≡ 1 - w % 2 = ap (λ p. (p - 1 - w) % 2) double ∙ odd_not (2 ^ k) w (omega arith) in
    let rest = agree k (a / 2) (b / 2) (w / 2) (omega arith) (λ j lt z. sym (bit_half j a) ∙ all (suc j) (omega arith) (bit_half j w ∙ z) ∙ bit_half j b) in
    let upper : bit_and (x / 2) (n / 2) ≡ 0 = ap (λ y. bit_and y (n / 2)) (xor_shr a b 1) ∙ ap (bit_and (bit_xor (a / 2) (b / 2))) half ∙ rest in
    let low : min (x % 2) (n % 2) ≡ 0 = ⊎_elim
    (λ (zero_bit : w % 2 < 1).
    let same : a % 2 ≡ b % 2 = sym (bit_low a) ∙ all 0 (omega arith) (bit_low w ∙ omega arith) ∙ bit_low b in
    let d : differ (a % 2) (b % 2) ≡ 0 = ap (differ (a % 2)) (sym same) ∙ differ_same (a % 2) (omega arith) in
    omega (arith, xor_step a b, d))
    (λ (one_bit : 1 ≤ w % 2). omega arith)
    (cases_lt (w % 2) 1) in
    and_step x n ∙ omega (arith, upper, low)

-- both parts of a test that passes
both : (x y : Bool) → cond x y false ≡ true → (x ≡ true) × (y ≡ true)
both true y h = (refl, h)
both false y h = absurd (false≢true h)

-- what holds of all numbers below n holds of each
pub below_each : (n : ℕ) (p : ℕ → Bool) → all_below n p ≡ true → (k : ℕ) → k < n → p k ≡ true
below_each zero p h k lt = absurd (omega arith)
below_each (suc n) p h k lt =
    let parts = both (p n) (all_below n p) h in
    ⊎_elim (λ (under : k < n). below_each n p parts.1 k under) (λ (last : n ≤ k). let e : k ≡ n = omega arith in rw e parts.0) (cases_lt k n)

-- and back
pub each_below : (n : ℕ) (p : ℕ → Bool) → ((k : ℕ) → k < n → p k ≡ true) → all_below n p ≡ true
each_below zero p all = refl
each_below (suc n) p all = rw (all n (omega arith)) (each_below n p (λ k lt. all k (omega arith)))

-- the test of one bit: ignored, or the same
bit_passes : (x y z : ℕ) → cond (eqb x 1) true (eqb y z) ≡ true → x ≡ 0 → y ≡ z
bit_passes x y z h e = grind (arith, nat_tests)

pass_bit : (x y z : ℕ) → x < 2 → (x ≡ 0 → y ≡ z) → cond (eqb x 1) true (eqb y z) ≡ true
pass_bit x y z h same = grind (arith, nat_tests)

-- a and b are alike exactly where each bit outside the wildcard agrees
pub alike_bits : (k a b w : ℕ) → alike k w a b ≡ true → (j : ℕ) → j < k → bit j w ≡ 0 → bit j a ≡ bit j b
alike_bits k a b w h j lt z = bit_passes (bit j w) (bit j a) (bit j b) (below_each k _ h j lt) z

pub bits_alike : (k a b w : ℕ) → ((j : ℕ) → j < k → bit j w ≡ 0 → bit j a ≡ bit j b) → alike k w a b ≡ true
bits_alike k a b w all = each_below k _ (λ j lt. pass_bit (bit j w) (bit j a) (bit j b) (omega arith) (all j lt))

-- the test by a mask is the test bit by bit
pub masked : (k a b w : ℕ) → w < 2 ^ k → eqb (bit_and (bit_xor a b) (2 ^ k - 1 - w)) 0 ≡ alike k w a b
masked k a b w h =
    same_from_decides
    (eqb (bit_and (bit_xor a b) (2 ^ k - 1 - w)) 0)
    (alike k w a b)
    (Decides-like _ (agrees k a b w h) (agree k a b w h) (Decides-eqb (bit_and (bit_xor a b) (2 ^ k - 1 - w)) 0))
    (alike_bits k a b w, bits_alike k a b w)
