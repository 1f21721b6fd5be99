-- Blanks and runs of a text line. Assumes nothing.
use Rattle.std.proofs.Common.{◌≡◌, ℕ, zero, suc, ◌+◌, ◌-◌, ◌<◌, ◌≤◌, Bool, true, false, not, cond, List, [], ◌∷◌, length, get_or, take, drop, Some, None, unwrap_or, sym, refl, ap, ◌∙◌, arith, length-drop, length-take-le, get_or-drop, drop-drop}
use Rattle.std.specs.List.{position}
use Rattle.std.proofs.lemmas.Bool.{cond-true}
use Rattle.std.proofs.lemmas.List.Quantifiers.{position-Some}
use Rattle.words.specs.declared.part.Part.{Part}
use Rattle.words.specs.Words.{spanned, blank, grown, words_from, words_at, shown, NextPart}
use Rattle.words.proofs.Found.{none_passes, before}

is_blank : (b : Bool) → not b ≡ false → b ≡ true
is_blank true e = refl
is_blank false e = sym e

no_blank : (b : Bool) → not b ≡ true → b ≡ false
no_blank true e = sym e
no_blank false e = refl

-- blanks alone make no word
all_blanks : (c : ℕ) (xs : List ℕ) → ((k : ℕ) → k < length xs → blank (get_or xs k 0) ≡ true) → words_from c xs ≡ []
all_blanks c [] all = refl
all_blanks c (b ∷ bs) all = cond-true _ _ _ (all 0 (omega arith)) ∙ all_blanks (c + 1) bs (λ k h. all (suc k) (omega arith))

-- nor do they before others
past_blanks : (c : ℕ) (xs : List ℕ) (n : ℕ) → n ≤ length xs → ((k : ℕ) → k < n → blank (get_or xs k 0) ≡ true) → words_from c xs ≡ words_from (c + n) (drop n xs)
past_blanks c xs zero le all = let e : c ≡ c + 0 = omega arith in ap (λ k. words_from k xs) e
past_blanks c [] (suc n) le all = absurd (omega arith)
past_blanks c (b ∷ bs) (suc n) le all =
    let e : c + 1 + n ≡ c + suc n = omega arith in
    cond-true _ _ _ (all 0 (omega arith)) ∙ past_blanks (c + 1) bs n (omega arith) (λ k h. all (suc k) (omega arith)) ∙ ap (λ k. words_from k (drop n bs)) e

-- the first n bytes are a run, and what follows is blank or the end
run : (c : ℕ) (xs : List ℕ) (n : ℕ) → suc n ≤ length xs → ((k : ℕ) → k < suc n → blank (get_or xs k 0) ≡ false) → (suc n < length xs → blank (get_or xs (suc n) 0) ≡ true)
    → words_from c xs ≡ spanned c (take (suc n) xs) ∷ words_from (c + suc n) (drop (suc n) xs)
run c [] n le all stops = absurd (omega arith)
run c (b ∷ []) zero le all stops = let e : blank b ≡ false = all 0 (omega arith) in rw e
run c (b ∷ []) (suc n) le all stops = absurd (omega arith)
run c (b ∷ d ∷ xs) zero le all stops = let e : blank b ≡ false = all 0 (omega arith) in let f : blank d ≡ true = stops (omega arith) in rw (e, f)
run c (b ∷ d ∷ xs) (suc n) le all stops =
    let e : blank b ≡ false = all 0 (omega arith) in
    let f : blank d ≡ false = all 1 (omega arith) in
    let ih = run (c + 1) (d ∷ xs) n (omega arith) (λ k h. all (suc k) (omega arith)) (λ h. stops (omega arith)) in
    let m : c + 1 + suc n ≡ c + suc (suc n) = omega arith in
    ap (λ t. cond t (words_from (c + 1) (d ∷ xs)) (grown c b (blank d) (words_from (c + 1) (d ∷ xs)))) e
    ∙ ap (λ t. grown c b t (words_from (c + 1) (d ∷ xs))) f
    ∙ ap (λ ws. grown c b false ws) ih
    ∙ ap (λ k. spanned c (b ∷ d ∷ take n xs) ∷ words_from k (drop n xs)) m

-- a word that starts with a byte that is no blank has some bytes
moves : (w : List ℕ) (n : ℕ) → 0 < length w → blank (get_or w 0 0) ≡ false → (n < length w → blank (get_or w n 0) ≡ true) → 0 < n
moves w zero some at stops = let z : ◌≡◌ {A = Bool} true false = sym (stops some) ∙ at in let y : ◌≡◌ {A = ℕ} 0 1 = cc in absurd (omega arith)
moves w (suc n) some at stops = omega arith

-- what stands from a place of a line on
module _ (line : List ℕ) (from : ℕ) (rest : List ℕ) (is : rest ≡ drop from line) where
  pub none_next : None ≡ position (λ b. not (blank b)) rest → words_at line from ≡ []
  none_next e = ap (words_from from) (sym is) ∙ all_blanks from rest (λ k h. is_blank _ (none_passes (λ b. not (blank b)) rest e k h))

  -- a word starts after `start` blanks, and n bytes on it ends
  module _ (start n : ℕ) (first : Some start ≡ position (λ b. not (blank b)) rest) (word : List ℕ) (word_is : word ≡ drop start rest) (end : n ≡ unwrap_or (position blank word) (length word)) where
    run_there : (m : ℕ) → suc m ≡ n → words_at line from ≡ spanned (from + start) (take n word) ∷ words_at line (from + start + n)
    run_there m e =
        let f = position-Some (λ b. not (blank b)) rest start 0 (sym first) in
        let b = before blank word n end in
        let there : drop n word ≡ drop (from + start + n) line =
        ap (drop n) (word_is ∙ ap (drop start) is ∙ drop-drop start from line) ∙ drop-drop n (from + start) line in
        ap (words_from from) (sym is)
        ∙ past_blanks from rest start (omega (arith, f.0)) (λ k h. is_blank _ (f.2 k h))
        ∙ ap (words_from (from + start)) (sym word_is)
        ∙ run (from + start) word m (omega (arith, b.within)) (λ k h. b.fail k (omega arith)) (λ h. ap (λ i. blank (get_or word i 0)) e ∙ b.stops (omega arith))
        ∙ ap (λ i. spanned (from + start) (take i word) ∷ words_from (from + start + i) (drop i word)) e
        ∙ ap (λ xs. spanned (from + start) (take n word) ∷ words_from (from + start + n) xs) there

    pub next_word : (p : Part) → p.column ≡ from + start → p.bytes.now ≡ take n word → NextPart line from p
    next_word p column bytes =
        let f = position-Some (λ b. not (blank b)) rest start 0 (sym first) in
        let b = before blank word n end in
        let long : length word ≡ length rest - start = ap length word_is ∙ length-drop start rest in
        let whole : length rest ≡ length line - from = ap length is ∙ length-drop from line in
        let opens : blank (get_or word 0 0) ≡ false =
        ap (λ w. blank (get_or w 0 0)) word_is ∙ ap blank (get_or-drop start rest 0 0) ∙ ap (λ i. blank (get_or rest i 0)) (omega arith) ∙ no_blank _ f.1 in
        let some : 0 < n = moves word n (omega (arith, f.0)) opens b.stops in
        let size : length p.bytes.now ≡ n = ap length bytes ∙ length-take-le n word b.within in
        let last : from + start + n ≡ p.column + length p.bytes.now = omega arith in
        let m = n - 1 in
        record {
          is = run_there m (omega arith)
              ∙ ap (λ c. spanned c (take n word) ∷ words_at line (from + start + n)) (sym column)
              ∙ ap (λ bs. spanned p.column bs ∷ words_at line (from + start + n)) (sym bytes)
              ∙ ap (λ i. shown p ∷ words_at line i) last;
          some = omega arith;
          inside = omega (arith, b.within, f.0);
        }
