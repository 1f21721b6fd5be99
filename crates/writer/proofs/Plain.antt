-- Words of bytes above 32, joined by spaces to text lines of at most 256 bytes. Assumes nothing.
use Rattle.std.proofs.Common.{◌≡◌, ℕ, ◌*◌, ◌^◌, ◌<◌, ◌≤◌, Bool, true, false, cond, ltb, leb, List, [], ◌∷◌, ◌++◌, length, decimal, sym, refl, ap, ◌∙◌, append_assoc, arith, length-append}
use Rattle.std.proofs.lemmas.Fmt.{decimal_nonempty, length-decimal-le}
use Rattle.std.proofs.lemmas.Bool.{ltb-true, lt-ltb, leb-true, ne_eqb}
use Rattle.words.specs.Words.{fresh}
use Rattle.words.specs.Numbers.{digit, digits}
use Rattle.words.proofs.Decimal.{decimal_digits}
use Rattle.ios.specs.Grammar.{Lacks, ends_in, Solid, WordsText}
use Rattle.ios.specs.Grammar.WordsText.{no_words, past_blank, word}
use Rattle.writer.specs.Canon.{dotted, spaced}
use Rattle.writer.specs.Pens.{words}

-- every byte is above 32, the space
abbrev pub dark : List ℕ → Bool
dark [] = true
dark (b ∷ bs) = cond (ltb 32 b) (dark bs) false

-- the two parts of a test and another
pub parts : (x y : Bool) → cond x y false ≡ true → (x ≡ true) × (y ≡ true)
parts true y e = (refl, e)
parts false y e = cc

dark_append : (v w : List ℕ) → dark v ≡ true → dark w ≡ true → dark (v ++ w) ≡ true
dark_append [] w h k = k
dark_append (b ∷ v) w h k = let p = parts (ltb 32 b) (dark v) h in rw p.0 (dark_append v w p.1 k)

dark_digits : (ds : List ℕ) → digits ds ≡ true → dark ds ≡ true
dark_digits [] h = refl
dark_digits (d ∷ ds) h =
    let p = parts (digit d) (digits ds) h in
    let q = parts (leb 48 d) (leb d 57) p.0 in
    let low : 32 < d = omega (arith, leb-true 48 d q.0) in
    rw (lt-ltb 32 d low) (dark_digits ds p.1)

-- a word of 1 to 15 bytes
pub record Plain (w : List ℕ) : Type 0 where
  pub some : 0 < length w
  pub short : length w ≤ 15
  pub solid : dark w ≡ true

-- a keyword, by its test
pub key : (w : List ℕ) → cond (ltb 0 (length w)) (cond (leb (length w) 15) (dark w) false) false ≡ true → Plain w
key w h =
    let p = parts (ltb 0 (length w)) (cond (leb (length w) 15) (dark w) false) h in
    let q = parts (leb (length w) 15) (dark w) p.1 in
    record { some = ltb-true 0 (length w) p.0; short = leb-true (length w) 15 q.0; solid = q.1 }

abbrev pub Plains : List (List ℕ) → Type 0
Plains [] = Unit {0}
Plains (w ∷ ws) = Plain w × Plains ws

pub plains_append : (vs ws : List (List ℕ)) → Plains vs → Plains ws → Plains (vs ++ ws)
plains_append [] ws h k = k
plains_append (v ∷ vs) ws h k = (h.0, plains_append vs ws h.1 k)

dark_decimal : (n : ℕ) → n < 2 ^ 64 → dark (decimal n) ≡ true
dark_decimal n h = dark_digits (decimal n) (decimal_digits n h)

pub plain_decimal : (n : ℕ) → n < 100000 → Plain (decimal n)
plain_decimal n h = record {
  some = decimal_nonempty n (omega arith);
  short = omega (arith, length-decimal-le 5 n (omega arith) (omega arith) (omega arith));
  solid = dark_decimal n (omega arith);
}

-- four bytes in decimal, joined by dots
plain_dots : (a b c d : ℕ) → a < 256 → b < 256 → c < 256 → d < 256
    → Plain (decimal a ++ (46 ∷ (decimal b ++ (46 ∷ (decimal c ++ (46 ∷ decimal d))))))
plain_dots a b c d ha hb hc hd = record {
  some = simp length-append (omega (arith, decimal_nonempty a (omega arith)));
  short = simp length-append (omega (arith, small a ha, small b hb, small c hc, small d hd));
  solid = dark_append (decimal a) _ (dark_decimal a (omega arith)) (dark_append (decimal b) _ (dark_decimal b (omega arith))
      (dark_append (decimal c) _ (dark_decimal c (omega arith)) (dark_decimal d (omega arith))));
} where
  small : (n : ℕ) → n < 256 → length (decimal n) ≤ 3
  small n h = length-decimal-le 3 n (omega arith) (omega arith) (omega arith)

pub plain_dotted : (a : ℕ) → a < 2 ^ 32 → Plain (dotted a)
plain_dotted a h = plain_dots _ _ _ _ (omega arith) (omega arith) (omega arith) (omega arith)

-- no byte of a word is a blank
solid_dark : (w : List ℕ) → dark w ≡ true → Solid w
solid_dark [] h = tt
solid_dark (b ∷ w) h =
    let p = parts (ltb 32 b) (dark w) h in
    let low = ltb-true 32 b p.0 in
    (rw (ne_eqb b 9 (λ e. absurd (omega arith)), ne_eqb b 32 (λ e. absurd (omega arith))), solid_dark w p.1)

fresh_words : (ws : List (List ℕ)) → fresh (words ws) ≡ true
fresh_words [] = refl
fresh_words (w ∷ ws) = refl

-- words with a space before each are those words
words_text : (ws : List (List ℕ)) → Plains ws → WordsText (words ws) ws
words_text [] h = no_words
words_text (w ∷ ws) h = past_blank refl (word h.0.some (solid_dark w h.0.solid) (fresh_words ws) (words_text ws h.1))

-- so with a first word before them
pub line_text : (w : List ℕ) (ws : List (List ℕ)) → Plain w → Plains ws → WordsText (w ++ words ws) (w ∷ ws)
line_text w ws p h = word p.some (solid_dark w p.solid) (fresh_words ws) (words_text ws h)

lacks_append : (b : ℕ) (v w : List ℕ) → Lacks b v → Lacks b w → Lacks b (v ++ w)
lacks_append b [] w h k = k
lacks_append b (c ∷ v) w h k = (h.0, lacks_append b v w h.1 k)

lacks_dark : (b : ℕ) (w : List ℕ) → b < 32 → dark w ≡ true → Lacks b w
lacks_dark b [] l h = tt
lacks_dark b (c ∷ w) l h =
    let p = parts (ltb 32 c) (dark w) h in
    let low = ltb-true 32 c p.0 in
    ((λ e. absurd (omega arith)), lacks_dark b w l p.1)

lacks_words : (b : ℕ) (ws : List (List ℕ)) → b < 32 → Plains ws → Lacks b (words ws)
lacks_words b [] l h = tt
lacks_words b (w ∷ ws) l h = ((λ e. absurd (omega arith)), lacks_append b w (words ws) (lacks_dark b w l h.0.solid) (lacks_words b ws l h.1))

-- a text line has no byte below the space
pub lacks_line : (b : ℕ) (w : List ℕ) (ws : List (List ℕ)) → b < 32 → Plain w → Plains ws → Lacks b (w ++ words ws)
lacks_line b w ws l p h = lacks_append b w (words ws) (lacks_dark b w l p.solid) (lacks_words b ws l h)

pub lacks_end : (b : ℕ) (l : List ℕ) → Lacks b l → ends_in b l ≡ false
lacks_end b [] h = refl
lacks_end b (c ∷ []) h = ne_eqb c b h.0
lacks_end b (c ∷ d ∷ l) h = lacks_end b (d ∷ l) h.1

length_words : (ws : List (List ℕ)) → Plains ws → length (words ws) ≤ 16 * length ws
length_words [] h = omega arith
length_words (w ∷ ws) h = simp length-append (omega (arith, h.0.short, length_words ws h.1))

-- a text line of at most 15 words is short enough
pub length_line : (w : List ℕ) (ws : List (List ℕ)) → Plain w → Plains ws → length ws ≤ 14 → length (w ++ words ws) ≤ 256
length_line w ws p h few = simp length-append (omega (arith, p.short, length_words ws h))

-- what is written of words: the text line, and byte 10
pub spaced_words : (ws : List (List ℕ)) (t : List ℕ) → spaced ws ++ t ≡ words ws ++ (10 ∷ t)
spaced_words [] t = refl
spaced_words (w ∷ ws) t =
    ap (λ x. 32 ∷ x) (append_assoc w (spaced ws) t ∙ ap (λ x. w ++ x) (spaced_words ws t) ∙ sym (append_assoc w (words ws) (10 ∷ t)))

pub ended : (w : List ℕ) (ws : List (List ℕ)) (t : List ℕ) → (w ++ spaced ws) ++ t ≡ (w ++ words ws) ++ (10 ∷ t)
ended w ws t = append_assoc w (spaced ws) t ∙ ap (λ x. w ++ x) (spaced_words ws t) ∙ sym (append_assoc w (words ws) (10 ∷ t))
