-- The sorts of words: a dot among the bytes, and what it rules out. Assumes nothing.
use Rattle.std.proofs.Common.{◌≡◌, ℕ, ◌+◌, ◌*◌, Bool, true, false, cond, eqb, ◌==◌, ◌||◌, List, [], ◌∷◌, Some, None, Option, sym, refl, ap, ◌∙◌, ⊎_elim}
use Rattle.std.specs.List.{list_any}
use Rattle.std.proofs.lemmas.Bool.{eq-eqb, ne_eqb, not-true, true≢false, cond-true, cond-false, cases_eq}
use Rattle.words.specs.declared.part.Part.{Part}
use Rattle.words.specs.declared.part.Word.TheVariants.{Number, Address}
use Rattle.words.specs.Numbers.{digit, digits, numeral, number_in, before_dot, after_dot, and_then, address_in, octets_in}
use Rattle.words.specs.Cursor.{begins_with_digit, has_dot, well_sorted}

either : (t x : Bool) → (t || x) ≡ cond t true x
either true x = refl
either false x = refl

pub any_dot : (bs : List ℕ) → list_any (λ b. b == 46) bs ≡ has_dot bs
any_dot [] = refl
any_dot (b ∷ bs) = either (b == 46) _ ∙ ap (λ x. cond (b == 46) true x) (any_dot bs)

unless : (t x : Bool) → x ≡ false → cond t false x ≡ false
unless true x e = refl
unless false x e = e

never : (t x : Bool) → x ≡ false → cond t x false ≡ false
never true x e = e
never false x e = refl

second : (t x : Bool) → cond t x false ≡ true → x ≡ true
second true x e = e
second false x e = absurd (true≢false (sym e))

-- what has a dot is no numeral
dotted_digits : (bs : List ℕ) → has_dot bs ≡ true → digits bs ≡ false
dotted_digits [] e = sym e
dotted_digits (b ∷ bs) e =
    ⊎_elim (λ here. cond-false _ _ _ (ap digit here))
    (λ ne. never (digit b) _ (dotted_digits bs (sym (cond-false _ _ _ (ne_eqb b 46 ne)) ∙ e)))
    (cases_eq b 46)

dotted : (bs : List ℕ) → has_dot bs ≡ true → numeral bs ≡ false
dotted [] e = refl
dotted (b ∷ []) e = same (digit b) ∙ dotted_digits (b ∷ []) e where
  same : (t : Bool) → t ≡ cond t true false
  same true = refl
  same false = refl
dotted (b ∷ c ∷ cs) e = unless (eqb b 48) _ (dotted_digits (b ∷ c ∷ cs) e)

none_after : (bs : List ℕ) → has_dot bs ≡ false → after_dot bs ≡ None
none_after [] e = refl
none_after (b ∷ bs) e =
    ⊎_elim (λ here. absurd (true≢false (sym (cond-true _ _ _ (eq-eqb b 46 here)) ∙ e)))
    (λ ne. let off = ne_eqb b 46 ne in cond-false _ _ _ off ∙ none_after bs (sym (cond-false _ _ _ off) ∙ e))
    (cases_eq b 46)

pub nothing : {A B : Type 0} (o : Option A) → and_then {B = B} o (λ (a : A). None) ≡ None
nothing None = refl
nothing (Some a) = refl

pub address_number : (low high : ℕ) (p : Part) → well_sorted (Address p) ≡ true → None ≡ number_in low high p.bytes.now
address_number low high p e = sym (cond-false _ _ _ (dotted p.bytes.now (second (begins_with_digit p.bytes.now) _ e)))

pub number_address : (p : Part) → well_sorted (Number p) ≡ true → None ≡ address_in p.bytes.now
number_address p e =
    let bs = p.bytes.now in
    sym (ap (λ a. and_then (number_in 0 255 (before_dot bs)) (λ n. and_then a (λ more. octets_in 2 (0 * 256 + n) more))) (none_after bs (not-true _ (second (begins_with_digit bs) _ e)))
    ∙ nothing (number_in 0 255 (before_dot bs)))
