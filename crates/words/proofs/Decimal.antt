-- The numbers that are read are just the decimals of the range. Assumes nothing.
use Rattle.std.proofs.Common.{◌≡◌, ℕ, ◌^◌, ◌<◌, ◌≤◌, Bool, true, false, cond, eqb, List, [], ◌∷◌, length, get_or, Some, None, decimal, sym, refl, ap, ◌∙◌, ⊎_elim, arith, rules, eq-eqb}
use Rattle.std.proofs.str.Laws.{order}
use Rattle.std.proofs.lemmas.Str.Parse.{IsNumeralModel, numerals_by_fold}
use Rattle.std.proofs.lemmas.Fmt.{decimal-digits_value, digits_decimal, digits_value-decimal, decimal_nonempty, first_decimal, decimal_digit}
use Rattle.words.specs.Numbers.{digits, read_on, within, numeral, number_in}
use Rattle.words.proofs.Digits.{numeral_digits, inside, chosen}

own : IsNumeralModel (λ ds. digits ds ≡ true) (read_on 0)
own = numerals_by_fold _ (search rules) read_on (search rules)

record Plain (bs : List ℕ) : Type 0 where
  some : 0 < length bs
  all : digits bs ≡ true
  first : get_or bs 0 0 ≡ 48 → length bs ≡ 1

second : (t x : Bool) → cond t false x ≡ true → (t ≡ false) × (x ≡ true)
second true x e = let k : ◌≡◌ {A = ℕ} 0 1 = cc in absurd (omega arith)
second false x e = (refl, e)

plain : (bs : List ℕ) → numeral bs ≡ true → Plain bs
plain [] e = let z : ◌≡◌ {A = ℕ} 0 1 = cc in absurd (omega arith)
plain (b ∷ []) e = record { some = omega arith; all = search rules; first = λ _. refl }
plain (b ∷ d ∷ ds) e =
    let p = second (eqb b 48) (digits (b ∷ d ∷ ds)) e in
    let off = p.0 in
    record {
      some = omega arith;
      all = p.1;
      first = λ z. let on : eqb b 48 ≡ true = eq-eqb b 48 z in let k : ◌≡◌ {A = ℕ} 0 1 = cc in absurd (omega arith);
    }

pub only : (low high : ℕ) (bs : List ℕ) (n : ℕ) → high < 2 ^ 64 → number_in low high bs ≡ Some n → (bs ≡ decimal n) × (low ≤ n) × (n ≤ high)
only low high bs n h e =
    let p = chosen (numeral bs) low high (read_on 0 bs) n e in
    let q = plain bs p.0 in
    (sym (decimal-digits_value own bs q.all q.some q.first (omega arith)) ∙ ap decimal p.1, p.2, p.3)

pub decimal_digits : (n : ℕ) → n < 2 ^ 64 → digits (decimal n) ≡ true
decimal_digits n h = digits_decimal own n h

numeral_decimal : (n : ℕ) → n < 2 ^ 64 → numeral (decimal n) ≡ true
numeral_decimal n h = numeral_digits (decimal n) (decimal_nonempty n h)
    (λ z. ⊎_elim (λ more. absurd (omega (arith, first_decimal n more h, z))) (λ zero. let e : n ≡ 0 = omega arith in omega (arith, ap (λ k. length (decimal k)) e, ap length (decimal_digit 0 (omega arith)))) (order 0 n)) ∙ decimal_digits n h

pub every : (low high n : ℕ) → high < 2 ^ 64 → low ≤ n → n ≤ high → number_in low high (decimal n) ≡ Some n
every low high n h l u =
    let small : n < 2 ^ 64 = omega arith in
    ap (λ b. cond b (within low high (read_on 0 (decimal n))) None) (numeral_decimal n small)
    ∙ ap (within low high) (digits_value-decimal own n small) ∙ sym (inside low high n l u)
