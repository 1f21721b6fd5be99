-- Headers and settings of their bits. Assumes nothing.
use Rattle.std.proofs.Common.{◌≡◌, ℕ, zero, suc, ◌+◌, ◌-◌, ◌*◌, ◌/◌, ◌%◌, ◌^◌, ◌<◌, ◌≤◌, Bool, true, false, ◌&&◌, eqb, ltb, refl, ap, ◌∙◌, pow-suc, arith}
use native.Mathlib.Decide.{dec_lt}
use Rattle.std.proofs.lemmas.Bool.{lt-ltb, le-ltb, ltb-true, false≢true}
use Rattle.acl.specs.Bits.{bit}
use Rattle.acl.specs.Headers.{low_bit, header_bit, width, wide, worth, number_at, header_of, BitsStand}
use Rattle.acl.specs.declared.header.Header.{Header}
use Rattle.acl.proofs.Masks.{bit_half, bit_low}

worth_one : (b : Bool) → eqb (worth b) 1 ≡ b
worth_one true = refl
worth_one false = refl

worth_low : (b : Bool) → worth b < 2
worth_low true = omega arith
worth_low false = omega arith

-- k bits make a number below 2 ^ k
pub number_low : (u : ℕ → Bool) (s k : ℕ) → number_at u s k < 2 ^ k
unfolding number_at
number_low u s zero = omega arith
number_low u s (suc k) = omega (arith, number_low u s k, worth_low (u (s + k)), pow-suc 2 k)

-- bit j of the number, counted from the low end, is the j-th bit from the end
pub number_bit : (u : ℕ → Bool) (s k j : ℕ) → j < k → bit j (number_at u s k) ≡ worth (u (s + (k - 1 - j)))
unfolding number_at
number_bit u s zero j l = absurd (omega arith)
number_bit u s (suc k) zero l =
    bit_low (2 * number_at u s k + worth (u (s + k)))
    ∙ odd (number_at u s k) (worth (u (s + k))) (worth_low (u (s + k)))
    ∙ ap (λ i. worth (u (s + i))) (omega arith)
  where
    odd : (n b : ℕ) → b < 2 → (2 * n + b) % 2 ≡ b
    odd n b h = omega arith
number_bit u s (suc k) (suc j) l =
    bit_half j (2 * number_at u s k + worth (u (s + k)))
    ∙ ap (bit j) (half (number_at u s k) (worth (u (s + k))) (worth_low (u (s + k))))
    ∙ number_bit u s k j (omega arith)
    ∙ ap (λ i. worth (u (s + i))) (omega arith)
  where
    half : (n b : ℕ) → b < 2 → (2 * n + b) / 2 ≡ n
    half n b h = omega arith

-- a number of k bits is the one that its bits make
pub bits_number : (u : ℕ → Bool) (s k n : ℕ) → n < 2 ^ k → ((j : ℕ) → j < k → worth (u (s + (k - 1 - j))) ≡ bit j n) → number_at u s k ≡ n
unfolding number_at
bits_number u s zero n l e = omega arith
bits_number u s (suc k) n l e =
    let rest : number_at u s k ≡ n / 2 =
    bits_number u s k (n / 2) (omega (arith, pow-suc 2 k))
    (λ j h. ap (λ i. worth (u (s + i))) (omega arith) ∙ e (suc j) (omega arith) ∙ bit_half j n) in
    let low : worth (u (s + k)) ≡ n % 2 = ap (λ i. worth (u (s + i))) (omega arith) ∙ e 0 (omega arith) ∙ bit_low n in
    omega arith

-- where each field of a header stands
module _ (h : Header) (i : ℕ) where
  pub at_source : i < 32 → header_bit h i ≡ low_bit (31 - i) h.source
  at_source l = rw (lt-ltb i 32 l)

  pub at_destination : 32 ≤ i → i < 64 → header_bit h i ≡ low_bit (63 - i) h.destination
  at_destination a l = rw (le-ltb i 32 a, lt-ltb i 64 l)

  pub at_protocol : 64 ≤ i → i < 72 → header_bit h i ≡ low_bit (71 - i) h.protocol
  at_protocol a l = let b : 32 ≤ i = omega arith in rw (le-ltb i 32 b, le-ltb i 64 a, lt-ltb i 72 l)

  pub at_source_port : 72 ≤ i → i < 88 → header_bit h i ≡ low_bit (87 - i) h.source_port
  at_source_port a l =
      let b : 32 ≤ i = omega arith in
      let c : 64 ≤ i = omega arith in
      rw (le-ltb i 32 b, le-ltb i 64 c, le-ltb i 72 a, lt-ltb i 88 l)

  pub at_destination_port : 88 ≤ i → i < 104 → header_bit h i ≡ low_bit (103 - i) h.destination_port
  at_destination_port a l =
      let b : 32 ≤ i = omega arith in
      let c : 64 ≤ i = omega arith in
      let d : 72 ≤ i = omega arith in
      rw (le-ltb i 32 b, le-ltb i 64 c, le-ltb i 72 d, le-ltb i 88 a, lt-ltb i 104 l)

-- a bit of the number that a row's bits make is the row's
from_row : (u : ℕ → Bool) (s k j b : ℕ) → j < k → s + (k - 1 - j) ≡ b → low_bit j (number_at u s k) ≡ u b
from_row u s k j b l e = ap (λ n. eqb n 1) (number_bit u s k j l) ∙ worth_one (u (s + (k - 1 - j))) ∙ ap u e

-- each setting is that of the header that it makes
pub settled : (u : ℕ → Bool) (b : ℕ) → b < width → header_bit (header_of u) b ≡ u b
settled u b l = go (dec_lt b 32) (dec_lt b 64) (dec_lt b 72) (dec_lt b 88)
  where
    go : Dec (b < 32) → Dec (b < 64) → Dec (b < 72) → Dec (b < 88) → header_bit (header_of u) b ≡ u b
    go (yes a) y z v = at_source (header_of u) b a ∙ from_row u 0 32 (31 - b) b (omega arith) (omega arith)
    go (no n) (yes a) z v = at_destination (header_of u) b (omega arith) a ∙ from_row u 32 32 (63 - b) b (omega arith) (omega arith)
    go (no n) (no m) (yes a) v = at_protocol (header_of u) b (omega arith) a ∙ from_row u 64 8 (71 - b) b (omega arith) (omega arith)
    go (no n) (no m) (no o) (yes a) = at_source_port (header_of u) b (omega arith) a ∙ from_row u 72 16 (87 - b) b (omega arith) (omega arith)
    go (no n) (no m) (no o) (no p) = at_destination_port (header_of u) b (omega arith) l ∙ from_row u 88 16 (103 - b) b (omega arith) (omega arith)

-- the five tests of widths, together
pub all_wide : (h : Header) → h.source < 2 ^ 32 → h.destination < 2 ^ 32 → h.protocol < 2 ^ 8 → h.source_port < 2 ^ 16 → h.destination_port < 2 ^ 16 → wide h ≡ true
all_wide h a b c d e =
    rw (lt-ltb h.source (2 ^ 32) a, lt-ltb h.destination (2 ^ 32) b, lt-ltb h.protocol (2 ^ 8) c, lt-ltb h.source_port (2 ^ 16) d, lt-ltb h.destination_port (2 ^ 16) e)

-- and apart
pub record Widths (h : Header) : Type 0 where
  pub source : h.source < 2 ^ 32
  pub destination : h.destination < 2 ^ 32
  pub protocol : h.protocol < 2 ^ 8
  pub from : h.source_port < 2 ^ 16
  pub to : h.destination_port < 2 ^ 16

and_left : (x y : Bool) → (x && y) ≡ true → x ≡ true
and_left true y e = refl
and_left false y e = e

and_right : (x y : Bool) → (x && y) ≡ true → y ≡ true
and_right true y e = e
and_right false y e = absurd (false≢true e)

pub widths : (h : Header) → wide h ≡ true → Widths h
widths h e =
    let a : Bool = ltb h.source (2 ^ 32) in
    let b : Bool = ltb h.destination (2 ^ 32) in
    let c : Bool = ltb h.protocol (2 ^ 8) in
    let d : Bool = ltb h.source_port (2 ^ 16) in
    let f : Bool = ltb h.destination_port (2 ^ 16) in
    let e1 = and_right a (b && (c && (d && f))) e in
    let e2 = and_right b (c && (d && f)) e1 in
    let e3 = and_right c (d && f) e2 in
    record {
      source = ltb-true h.source (2 ^ 32) (and_left a (b && (c && (d && f))) e);
      destination = ltb-true h.destination (2 ^ 32) (and_left b (c && (d && f)) e1);
      protocol = ltb-true h.protocol (2 ^ 8) (and_left c (d && f) e2);
      from = ltb-true h.source_port (2 ^ 16) (and_left d f e3);
      to = ltb-true h.destination_port (2 ^ 16) (and_right d f e3);
    }

-- a row makes a header
pub made_wide : (u : ℕ → Bool) → wide (header_of u) ≡ true
made_wide u = all_wide (header_of u) (number_low u 0 32) (number_low u 32 32) (number_low u 64 8) (number_low u 72 16) (number_low u 88 16)

-- the worth of a test for 1
worth_bit : (x : ℕ) → x < 2 → worth (eqb x 1) ≡ x
worth_bit zero l = refl
worth_bit (suc zero) l = refl
worth_bit (suc (suc x)) l = absurd (omega arith)

to_row : (u : ℕ → Bool) (i j n : ℕ) → u i ≡ low_bit j n → worth (u i) ≡ bit j n
to_row u i j n e = ap worth e ∙ worth_bit (bit j n) (omega arith)

-- each header has its own setting
pub own : (h : Header) → wide h ≡ true → header_of (header_bit h) ≡ h
own h w = λ i. record { source = e0 i; destination = e1 i; protocol = e2 i; source_port = e3 i; destination_port = e4 i }
  where
    ws : Widths h
    ws = widths h w

    e0 : number_at (header_bit h) 0 32 ≡ h.source
    e0 = bits_number (header_bit h) 0 32 h.source ws.source (λ j l. to_row (header_bit h) (0 + (32 - 1 - j)) j h.source (at_source h (0 + (32 - 1 - j)) (omega arith) ∙ ap (λ k. low_bit k h.source) (omega arith)))

    e1 : number_at (header_bit h) 32 32 ≡ h.destination
    e1 = bits_number (header_bit h) 32 32 h.destination ws.destination (λ j l. to_row (header_bit h) (32 + (32 - 1 - j)) j h.destination (at_destination h (32 + (32 - 1 - j)) (omega arith) (omega arith) ∙ ap (λ k. low_bit k h.destination) (omega arith)))

    e2 : number_at (header_bit h) 64 8 ≡ h.protocol
    e2 = bits_number (header_bit h) 64 8 h.protocol ws.protocol (λ j l. to_row (header_bit h) (64 + (8 - 1 - j)) j h.protocol (at_protocol h (64 + (8 - 1 - j)) (omega arith) (omega arith) ∙ ap (λ k. low_bit k h.protocol) (omega arith)))

    e3 : number_at (header_bit h) 72 16 ≡ h.source_port
    e3 = bits_number (header_bit h) 72 16 h.source_port ws.from (λ j l. to_row (header_bit h) (72 + (16 - 1 - j)) j h.source_port (at_source_port h (72 + (16 - 1 - j)) (omega arith) (omega arith) ∙ ap (λ k. low_bit k h.source_port) (omega arith)))

    e4 : number_at (header_bit h) 88 16 ≡ h.destination_port
    e4 = bits_number (header_bit h) 88 16 h.destination_port ws.to (λ j l. to_row (header_bit h) (88 + (16 - 1 - j)) j h.destination_port (at_destination_port h (88 + (16 - 1 - j)) (omega arith) (omega arith) ∙ ap (λ k. low_bit k h.destination_port) (omega arith)))

pub bits_stand : BitsStand
bits_stand = record { settled = settled; header = made_wide; own = own }
