-- An address, number by number: what stands before and after the first dot. Assumes nothing.
use Rattle.std.proofs.Common.{◌≡◌, ℕ, zero, suc, ◌+◌, ◌-◌, ◌*◌, ◌^◌, ◌<◌, ◌≤◌, List, [], ◌∷◌, length, get_or, take, drop, Some, None, sym, refl, ap, ◌∙◌, arith}
use Rattle.std.proofs.lemmas.Bool.{eq-eqb, ne_eqb, cond-true, cond-false}
use Rattle.words.proofs.Digits.{chosen}
use Rattle.words.proofs.Found.{FoundAt}
use Rattle.words.proofs.Sorts.{nothing}
use Rattle.words.specs.Numbers.{read_on, numeral, number_in, before_dot, after_dot, and_then, octets_in}

before_is : (bs : List ℕ) (n : ℕ) → n ≤ length bs → ((k : ℕ) → k < n → get_or bs k 0 ≡ 46 → ⊥) → (n < length bs → get_or bs n 0 ≡ 46) → before_dot bs ≡ take n bs
before_is [] zero le all found = refl
before_is [] (suc n) le all found = refl
before_is (b ∷ bs) zero le all found = cond-true _ _ _ (eq-eqb b 46 (found (omega arith)))
before_is (b ∷ bs) (suc n) le all found =
    cond-false _ _ _ (ne_eqb b 46 (all 0 (omega arith))) ∙ ap (λ xs. b ∷ xs) (before_is bs n (omega arith) (λ k h. all (suc k) (omega arith)) (λ h. found (omega arith)))

after_none : (bs : List ℕ) → ((k : ℕ) → k < length bs → get_or bs k 0 ≡ 46 → ⊥) → after_dot bs ≡ None
after_none [] all = refl
after_none (b ∷ bs) all = cond-false _ _ _ (ne_eqb b 46 (all 0 (omega arith))) ∙ after_none bs (λ k h. all (suc k) (omega arith))

after_some : (bs : List ℕ) (n : ℕ) → n < length bs → ((k : ℕ) → k < n → get_or bs k 0 ≡ 46 → ⊥) → get_or bs n 0 ≡ 46 → after_dot bs ≡ Some (drop (suc n) bs)
after_some [] n lt all found = absurd (omega arith)
after_some (b ∷ bs) zero lt all found = cond-true _ _ _ (eq-eqb b 46 found)
after_some (b ∷ bs) (suc n) lt all found = cond-false _ _ _ (ne_eqb b 46 (all 0 (omega arith))) ∙ after_some bs n (omega arith) (λ k h. all (suc k) (omega arith)) found

octets_more : (k v : ℕ) (bs : List ℕ) → 0 < k → octets_in k v bs ≡ and_then (number_in 0 255 (before_dot bs)) (λ n. and_then (after_dot bs) (λ more. octets_in (k - 1) (v * 256 + n) more))
octets_more zero v bs h = absurd (omega arith)
octets_more (suc k) v bs h =
    let e : suc k - 1 ≡ k = omega arith in
    ap (λ m. and_then (number_in 0 255 (before_dot bs)) (λ n. and_then (after_dot bs) (λ more. octets_in m (v * 256 + n) more))) (sym e)

-- no number stands alone where others are to follow
pub octet_alone : (k v : ℕ) (bs : List ℕ) → 0 < k → ((j : ℕ) → j < length bs → get_or bs j 0 ≡ 46 → ⊥) → None ≡ octets_in k v bs
octet_alone k v bs some all =
    sym (octets_more k v bs some
    ∙ ap (λ o. and_then (number_in 0 255 (before_dot bs)) (λ n. and_then o (λ more. octets_in (k - 1) (v * 256 + n) more))) (after_none bs all)
    ∙ nothing (number_in 0 255 (before_dot bs)))

-- a number that others follow, before the first dot, which stands at n
module _ (k v : ℕ) (bs : List ℕ) (n : ℕ) (some : 0 < k) (at : FoundAt 46 bs n) where
  octet : octets_in k v bs ≡ and_then (number_in 0 255 (take n bs)) (λ m. and_then (after_dot bs) (λ more. octets_in (k - 1) (v * 256 + m) more))
  octet = octets_more k v bs some ∙ ap (λ xs. and_then (number_in 0 255 xs) (λ m. and_then (after_dot bs) (λ more. octets_in (k - 1) (v * 256 + m) more))) (before_is bs n (omega (arith, at.inside)) at.first (λ h. at.here))

  pub octet_refused : None ≡ number_in 0 255 (take n bs) → None ≡ octets_in k v bs
  octet_refused e = sym (octet ∙ ap (λ o. and_then o (λ m. and_then (after_dot bs) (λ more. octets_in (k - 1) (v * 256 + m) more))) (sym e))

  read : (m : ℕ) → Some m ≡ number_in 0 255 (take n bs) → octets_in k v bs ≡ and_then (after_dot bs) (λ more. octets_in (k - 1) (v * 256 + m) more)
  read m e = octet ∙ ap (λ o. and_then o (λ i. and_then (after_dot bs) (λ more. octets_in (k - 1) (v * 256 + i) more))) (sym e)

  pub octet_followed : (m : ℕ) → Some m ≡ number_in 0 255 (take n bs) → octets_in (k - 1) (v * 256 + m) (drop (n + 1) bs) ≡ octets_in k v bs
  octet_followed m e =
      let next : suc n ≡ n + 1 = omega arith in
      sym (read m e ∙ ap (λ o. and_then o (λ more. octets_in (k - 1) (v * 256 + m) more)) (after_some bs n at.inside at.first at.here) ∙ ap (λ j. octets_in (k - 1) (v * 256 + m) (drop j bs)) next)

pub octet_small : (bs : List ℕ) (m : ℕ) → Some m ≡ number_in 0 255 bs → m ≤ 255
octet_small bs m e = (chosen (numeral bs) 0 255 (read_on 0 bs) m (sym e)).3

-- the value so far leaves room for one number more
pub fits_more : (k v n : ℕ) → 0 < k → k ≤ 3 → v < 256 ^ (3 - k) → n ≤ 255 → (v * 256 < 2 ^ 32) × (v * 256 + n < 2 ^ 32) × (v * 256 + n < 256 ^ (3 - (k - 1)))
fits_more zero v n h le small byte = absurd (omega arith)
fits_more (suc zero) v n h le small byte = (omega arith, omega arith, omega arith)
fits_more (suc (suc zero)) v n h le small byte = (omega arith, omega arith, omega arith)
fits_more (suc (suc (suc zero))) v n h le small byte = (omega arith, omega arith, omega arith)
fits_more (suc (suc (suc (suc k)))) v n h le small byte = absurd (omega arith)
