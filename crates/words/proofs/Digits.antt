-- One step of reading digits. Assumes nothing.
use Rattle.std.proofs.Common.{◌≡◌, ℕ, ◌+◌, ◌-◌, ◌*◌, ◌<◌, ◌≤◌, Bool, true, false, cond, leb, nat_le, ◌&&◌, ◌==◌, List, [], ◌∷◌, length, get_or, drop, Some, None, sym, refl, ap, ◌∙◌, add-one, arith, drop-cons, rules, leb-true}
use Rattle.std.specs.Char.{is_ascii_digit}
use Rattle.std.proofs.lemmas.Bool.Decides.{nat_tests}
use lib.Seq.{drop-length}
use Rattle.words.specs.Numbers.{digit, digits, read_on, within, numeral, number_in}

some_left : (n : ℕ) → false ≡ (n == 0) → 0 < n
some_left n e = grind (arith, nat_tests)

pub numeral_digits : (bs : List ℕ) → 0 < length bs → (get_or bs 0 0 ≡ 48 → length bs ≤ 1) → numeral bs ≡ digits bs
numeral_digits [] h z = absurd (omega arith)
numeral_digits (b ∷ []) h z = search rules
numeral_digits (b ∷ c ∷ cs) h z = search rules

pub numeral_some : (bs : List ℕ) → false ≡ (length bs == 0) → (get_or bs 0 0 ≡ 48 → length bs ≤ 1) → numeral bs ≡ digits bs
numeral_some bs h z = numeral_digits bs (some_left (length bs) h) z

read_on_ge : (n : ℕ) (bs : List ℕ) → n ≤ read_on n bs
read_on_ge n [] = omega arith
read_on_ge n (b ∷ bs) = omega (arith, read_on_ge (10 * n + (b - 48)) bs)

digits_at : (bs : List ℕ) (i : ℕ) → i < length bs → digits (drop i bs) ≡ cond (digit (get_or bs i 0)) (digits (drop (i + 1) bs)) false
digits_at bs i lt = rw (add-one, drop-cons bs i 0)

pub read_on_at : (n : ℕ) (bs : List ℕ) (i : ℕ) → i < length bs → read_on n (drop i bs) ≡ read_on (10 * n + (get_or bs i 0 - 48)) (drop (i + 1) bs)
read_on_at n bs i lt = rw (add-one, drop-cons bs i 0)

pub bad : (low high : ℕ) (w : List ℕ) (i : ℕ) → i < length w → numeral w ≡ digits w → digits w ≡ digits (drop i w) → digit (get_or w i 0) ≡ false → None ≡ number_in low high w
bad low high w i lt nd dd e =
    let f : numeral w ≡ false = nd ∙ dd ∙ digits_at w i lt ∙ ap (λ b. cond b (digits (drop (i + 1) w)) false) e in
    sym (ap (λ b. cond b (within low high (read_on 0 w)) None) f)

over : (low high v : ℕ) → high < v → within low high v ≡ None
over low high v h = search rules

pub big : (low high : ℕ) (w : List ℕ) (i n : ℕ) → read_on 0 w ≡ read_on n (drop i w) → high < n → None ≡ number_in low high w
big low high w i n rr h =
    let o = over low high (read_on 0 w) (omega (arith, read_on_ge n (drop i w))) in
    elim (numeral w) as (λ b. None ≡ cond b (within low high (read_on 0 w)) None) [ true ↦ sym o | false ↦ refl ]

pub all_read : (low high : ℕ) (w : List ℕ) (i n : ℕ) → i ≡ length w → numeral w ≡ digits w → digits w ≡ digits (drop i w) → read_on 0 w ≡ read_on n (drop i w) → number_in low high w ≡ within low high n
all_read low high w i n e nd dd rr =
    let z : drop i w ≡ [] = ap (λ k. drop k w) e ∙ drop-length w in
    let t : numeral w ≡ true = nd ∙ dd ∙ ap digits z in
    let v : read_on 0 w ≡ n = rr ∙ ap (read_on n) z in
    ap (λ b. cond b (within low high (read_on 0 w)) None) t ∙ ap (within low high) v

pub below : (low high n : ℕ) → n < low → None ≡ within low high n
below low high n h = search rules

pub inside : (low high n : ℕ) → low ≤ n → n ≤ high → Some n ≡ within low high n
inside low high n h k = search rules

both_tests : (p q : Bool) → (p && q) ≡ cond p q false
both_tests true q = refl
both_tests false q = refl

-- the library's digits are these
pub same_digit : (b : ℕ) → is_ascii_digit b ≡ digit b
same_digit b = both_tests (nat_le 48 b) (nat_le b 57)

pub digits_more : (w : List ℕ) (i : ℕ) → i < length w → digit (get_or w i 0) ≡ true → digits w ≡ digits (drop i w) → digits w ≡ digits (drop (i + 1) w)
digits_more w i lt at dd = dd ∙ digits_at w i lt ∙ ap (λ b. cond b (digits (drop (i + 1) w)) false) at

both : (p q : Bool) (v n : ℕ) → cond p (cond q (Some v) None) None ≡ Some n → (p ≡ true) × (q ≡ true) × (v ≡ n)
both true true v n e = (refl, refl, cc)
both true false v n e = let k : ◌≡◌ {A = ℕ} 0 1 = cc in absurd (omega arith)
both false q v n e = let k : ◌≡◌ {A = ℕ} 0 1 = cc in absurd (omega arith)

-- what is read is in the range
pub chosen : (b : Bool) (low high v n : ℕ) → cond b (within low high v) None ≡ Some n → (b ≡ true) × (v ≡ n) × (low ≤ n) × (n ≤ high)
chosen false low high v n e = let k : ◌≡◌ {A = ℕ} 0 1 = cc in absurd (omega arith)
chosen true low high v n e =
    let p = both (leb low v) (leb v high) v n e in
    (refl, p.2, omega (arith, leb-true low v p.0, p.2), omega (arith, leb-true v high p.1, p.2))
