-- The fields of a header, bit by bit. Assumes nothing.
use Rattle.std.proofs.Common.{◌≡◌, ℕ, ◌+◌, ◌-◌, ◌*◌, ◌/◌, ◌%◌, ◌^◌, ◌<◌, ◌≤◌, Bool, true, false, cond, ◌&&◌, eqb, ltb, leb, sym, refl, ap, ◌∙◌, mod-lt, arith, pow_pos, shr-shr, shr_lt}
use mathlib.Core.Bool.{beq}
use native.Mathlib.Decide.{dec_lt}
use lib.Pow.{split, high}
use Rattle.std.proofs.lemmas.Bool.{lt-ltb, le-leb, eq-eqb, ltb-true, leb-true, eqb-true, and_parts, and_from}
use Rattle.std.proofs.lemmas.Bool.Decides.{same_from_decides, nat_tests}
use Rattle.std.proofs.lemmas.Nat.Bits.{same_from_bits_below, bit_at-zero, bit_at_ones, bit_at_ones_above}
use Rattle.acl.specs.Bits.{bit, alike}
use Rattle.acl.specs.Headers.{low_bit, header_bit}
use Rattle.acl.specs.Terms.{protocol_fits, protocol_narrow}
use Rattle.acl.specs.declared.header.Header.{Header}
use Rattle.acl.specs.declared.terms.Protocol.{Protocol}
use Rattle.acl.specs.declared.terms.Protocol.TheVariants.{Any, Number}
use Rattle.acl.proofs.Masks.{below_each, each_below, alike_bits, bits_alike}
use Rattle.model.specs.Laying.{meets}
use Rattle.pieces.specs.Asks.{wanted_protocol, ignored_protocol, ask_for}

-- two tests that pass together are one
pub same_bool : (a b : Bool) → (a ≡ true → b ≡ true) → (b ≡ true → a ≡ true) → a ≡ b
same_bool a b f g = same_from_decides a b (f, g) (λ e. e, λ e. e)

-- two bits, each 0 or 1, are the same exactly when both or neither is 1
beq_eqb : (n x : ℕ) → n < 2 → x < 2 → beq (eqb n 1) (eqb x 1) ≡ eqb x n
beq_eqb n x a b = grind (arith, nat_tests)

-- a bit is as it is asked for exactly when it is ignored or the same
meets_bit : (j g n x : ℕ) → meets (ask_for (low_bit j g) (low_bit j n)) (low_bit j x) ≡ cond (eqb (bit j g) 1) true (eqb (bit j x) (bit j n))
meets_bit j g n x = go (eqb (bit j g) 1)
  where
    go : (c : Bool) → meets (ask_for c (low_bit j n)) (low_bit j x) ≡ cond c true (eqb (bit j x) (bit j n))
    go true = refl
    go false = beq_eqb (bit j n) (bit j x) (omega arith) (omega arith)

-- a field of k bits from s on, at the same place in every header; g is ignored and n is wanted
module _ (f : Header → ℕ) (s k : ℕ) (at : (h : Header) (b : ℕ) → s ≤ b → b < s + k → header_bit h b ≡ low_bit (s + k - 1 - b) (f h)) (g n h : Header) where
  -- what is asked of a bit of the field, by its number in the field
  at_bit : (b : ℕ) → s ≤ b → b < s + k
      → meets (ask_for (header_bit g b) (header_bit n b)) (header_bit h b)
      ≡ cond (eqb (bit (s + k - 1 - b) (f g)) 1) true (eqb (bit (s + k - 1 - b) (f h)) (bit (s + k - 1 - b) (f n)))
  at_bit b a l = rw (at g b a l, at n b a l, at h b a l) (meets_bit (s + k - 1 - b) (f g) (f n) (f h))

  -- numbers that are alike have each bit as it is asked for
  pub field_there : alike k (f g) (f h) (f n) ≡ true → (b : ℕ) → s ≤ b → b < s + k → meets (ask_for (header_bit g b) (header_bit n b)) (header_bit h b) ≡ true
  field_there e b a l = at_bit b a l ∙ below_each k _ e (s + k - 1 - b) (omega arith)

  -- and back
  pub field_back : ((b : ℕ) → s ≤ b → b < s + k → meets (ask_for (header_bit g b) (header_bit n b)) (header_bit h b) ≡ true) → alike k (f g) (f h) (f n) ≡ true
  field_back all = each_below k _ one
    where
      one : (j : ℕ) → j < k → cond (eqb (bit j (f g)) 1) true (eqb (bit j (f h)) (bit j (f n))) ≡ true
      one j l =
          let b : ℕ = s + (k - 1 - j) in
          let e : s + k - 1 - b ≡ j = omega arith in
          ap (λ i. cond (eqb (bit i (f g)) 1) true (eqb (bit i (f h)) (bit i (f n)))) (sym e)
          ∙ sym (at_bit b (omega arith) (omega arith)) ∙ all b (omega arith) (omega arith)

-- a protocol fits exactly when its bits are as they are asked for
pub protocol_alike : (t : Protocol) → protocol_narrow t ≡ true → (x : ℕ) → x < 2 ^ 8 → protocol_fits t x ≡ alike 8 (ignored_protocol t) x (wanted_protocol t)
protocol_alike Any low x l = refl
protocol_alike (Number n) low x l = same_bool (eqb x n) (alike 8 0 x n) there back
  where
    there : eqb x n ≡ true → alike 8 0 x n ≡ true
    there e = bits_alike 8 x n 0 (λ j k z. ap (bit j) (eqb-true x n e))

    back : alike 8 0 x n ≡ true → eqb x n ≡ true
    back e = eq-eqb x n (same_from_bits_below 8 x n l (ltb-true n 256 low) (λ j k. alike_bits 8 x n 0 e j k (bit_at-zero j)))

-- a bit from e on is one of what is left after e bits
bit_above : (e j n : ℕ) → bit j (n / 2 ^ e) ≡ bit (e + j) n
bit_above e j n = ap (λ q. q % 2) (shr-shr n e j)

-- where numbers of k bits are alike but for the last e bits, the others make the same number
but_last : (k e x y : ℕ) → e ≤ k → x < 2 ^ k → y < 2 ^ k → alike k (2 ^ e - 1) x y ≡ true → x / 2 ^ e ≡ y / 2 ^ e
but_last k e x y le a b h =
    same_from_bits_below (k - e) (x / 2 ^ e) (y / 2 ^ e) (shr_lt (k - e) e (rw whole a)) (shr_lt (k - e) e (rw whole b))
    (λ j l. bit_above e j x ∙ alike_bits k x y (2 ^ e - 1) h (e + j) (omega arith) (bit_at_ones_above e (e + j) (omega arith)) ∙ sym (bit_above e j y))
  where
    whole : k - e + e ≡ k
    whole = omega arith

-- and back
last_but : (k e x y : ℕ) → x / 2 ^ e ≡ y / 2 ^ e → alike k (2 ^ e - 1) x y ≡ true
last_but k e x y h = bits_alike k x y (2 ^ e - 1) (λ j l z. go j z (dec_lt j e))
  where
    go : (j : ℕ) → bit j (2 ^ e - 1) ≡ 0 → Dec (j < e) → bit j x ≡ bit j y
    go j z (yes l) = absurd (omega (arith, bit_at_ones e j l))
    go j z (no n) =
        let apart : j ≡ e + (j - e) = omega arith in
        ap (λ i. bit i x) apart ∙ sym (bit_above e (j - e) x) ∙ ap (bit (j - e)) h ∙ bit_above e (j - e) y ∙ ap (λ i. bit i y) (sym apart)

-- a port is in an aligned block exactly when its bits but the last are those of the start
pub block_alike : (k e start x : ℕ) → e ≤ k → start % 2 ^ e ≡ 0 → start < 2 ^ k → x < 2 ^ k
    → (leb start x && ltb x (start + 2 ^ e)) ≡ alike k (2 ^ e - 1) x start
block_alike k e start x le multiple low l = same_bool (leb start x && ltb x (start + 2 ^ e)) (alike k (2 ^ e - 1) x start) there back
  where
    begin : start ≡ start / 2 ^ e * 2 ^ e
    begin = omega (arith, split start e)

    there : (leb start x && ltb x (start + 2 ^ e)) ≡ true → alike k (2 ^ e - 1) x start ≡ true
    there t =
        let parts = and_parts (leb start x) (ltb x (start + 2 ^ e)) t in
        let from : start ≤ x = leb-true start x parts.0 in
        let to : x < start + 2 ^ e = ltb-true x (start + 2 ^ e) parts.1 in
        let rest : x - start < 2 ^ e = omega arith in
        let whole : x ≡ start / 2 ^ e * 2 ^ e + (x - start) = omega (arith, begin) in
        last_but k e x start (ap (λ n. n / 2 ^ e) whole ∙ high (start / 2 ^ e) e rest)

    back : alike k (2 ^ e - 1) x start ≡ true → (leb start x && ltb x (start + 2 ^ e)) ≡ true
    back t =
        let same : x / 2 ^ e * 2 ^ e ≡ start / 2 ^ e * 2 ^ e = ap (λ n. n * 2 ^ e) (but_last k e x start le l low t) in
        let rest : x % 2 ^ e < 2 ^ e = mod-lt x (pow_pos e) in
        and_from (leb start x) (ltb x (start + 2 ^ e))
        (le-leb start x (omega (arith, begin, split x e)))
        (lt-ltb x (start + 2 ^ e) (omega (arith, begin, split x e)))
