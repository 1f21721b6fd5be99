-- The text lines of a text and the words of a text line are just those of the grammar. Assumes nothing.
use Rattle.std.proofs.Common.{◌≡◌, ℕ, ◌+◌, ◌<◌, Bool, true, false, cond, eqb, List, [], ◌∷◌, ◌++◌, map, length, sym, refl, ap, ◌∙◌, arith}
use Rattle.std.proofs.lemmas.Bool.{true≢false, false≢true, eqb-true, eqb-false, ne_eqb}
use Rattle.words.specs.Lines.{returning, glued, text_lines}
use Rattle.words.specs.Words.{Spanned, spanned, bytes_of, blank, fresh, grown, words_from}
use Rattle.ios.specs.Grammar.{Lacks, ends_in, TextText, Solid, WordsText}
use Rattle.ios.specs.Grammar.TextText.{no_text, unended, by_feed, by_return}
use Rattle.ios.specs.Grammar.WordsText.{no_words, past_blank, word}

-- b is in the text line that goes on at c
inner : (b c : ℕ) (cs : List ℕ) → (b ≡ 10 → ⊥) → (c ≡ 10 → ⊥) → text_lines (b ∷ c ∷ cs) ≡ glued b (text_lines (c ∷ cs))
inner b c cs h k = go (eqb b 13) (eqb c 10) (ne_eqb b 10 h) (ne_eqb c 10 k) where
  go : (x y : Bool) → eqb b 10 ≡ false → y ≡ false
      → cond (eqb b 10) ([] ∷ text_lines (c ∷ cs)) (cond (cond x y false) (text_lines (c ∷ cs)) (glued b (text_lines (c ∷ cs)))) ≡ glued b (text_lines (c ∷ cs))
  go true y e f = rw (e, f)
  go false y e f = rw e

-- no end
last_line : (l : List ℕ) → 0 < length l → Lacks 10 l → text_lines l ≡ l ∷ []
last_line [] h k = absurd (omega arith)
last_line (b ∷ []) h k = rw (ne_eqb b 10 k.0)
last_line (b ∷ c ∷ cs) h k = inner b c cs k.0 k.1.0 ∙ ap (glued b) (last_line (c ∷ cs) (omega arith) k.1)

-- an end of one byte
feed_line : (l t : List ℕ) → Lacks 10 l → ends_in 13 l ≡ false → text_lines (l ++ (10 ∷ t)) ≡ l ∷ text_lines t
feed_line [] t k e = refl
feed_line (b ∷ []) t k e = rw (ne_eqb b 10 k.0, e)
feed_line (b ∷ c ∷ cs) t k e = inner b c (cs ++ (10 ∷ t)) k.0 k.1.0 ∙ ap (glued b) (feed_line (c ∷ cs) t k.1 e)

-- an end of two bytes
return_line : (l t : List ℕ) → Lacks 10 l → text_lines (l ++ (13 ∷ (10 ∷ t))) ≡ l ∷ text_lines t
return_line [] t k = refl
return_line (b ∷ []) t k = inner b 13 (10 ∷ t) k.0 (λ e. absurd (omega arith))
return_line (b ∷ c ∷ cs) t k = inner b c (cs ++ (13 ∷ (10 ∷ t))) k.0 k.1.0 ∙ ap (glued b) (return_line (c ∷ cs) t k.1)

-- only the text lines of a text stand to it as the grammar says
pub text_only : (bs : List ℕ) (ls : List (List ℕ)) → TextText bs ls → ls ≡ text_lines bs
text_only bs ls no_text = refl
text_only bs ls (unended {l} h k) = sym (last_line l h k)
text_only bs ls (by_feed {l} {t} {ls = ms} k e r) = ap (λ x. l ∷ x) (text_only t ms r) ∙ sym (feed_line l t k e)
text_only bs ls (by_return {l} {t} {ls = ms} k r) = ap (λ x. l ∷ x) (text_only t ms r) ∙ sym (return_line l t k)

-- a byte that ends no text line stands before the first one
put_byte : (b : ℕ) (bs : List ℕ) (ls : List (List ℕ)) → (b ≡ 10 → ⊥) → returning b bs ≡ false → TextText bs ls → TextText (b ∷ bs) (glued b ls)
put_byte b bs ls h e no_text = unended {l = b ∷ []} (omega arith) (h, tt)
put_byte b bs ls h e (unended {l} p k) = unended {l = b ∷ l} (omega arith) (h, k)
put_byte b bs ls h e (by_feed {l} {t} k f r) = by_feed {l = b ∷ l} (h, k) (ends l e f) r where
  ends : (l : List ℕ) → returning b (l ++ (10 ∷ t)) ≡ false → ends_in 13 l ≡ false → ends_in 13 (b ∷ l) ≡ false
  ends [] e f = go (eqb b 13) e where
    go : (x : Bool) → cond x true false ≡ false → x ≡ false
    go true e = e
    go false e = e
  ends (c ∷ cs) e f = f
put_byte b bs ls h e (by_return {l} k r) = by_return {l = b ∷ l} (h, k) r

-- the bytes 13 and 10 before a text
put_end : (b c : ℕ) (cs : List ℕ) (ls other : List (List ℕ)) (x y : Bool) → eqb b 13 ≡ x → eqb c 10 ≡ y → cond x y false ≡ true → TextText cs ls
    → TextText (b ∷ c ∷ cs) (cond y ([] ∷ ls) other)
put_end b c cs ls other true true e f g r = rw (eqb-true b 13 e, eqb-true c 10 f) (by_return {l = []} tt r)
put_end b c cs ls other true false e f g r = absurd (false≢true g)
put_end b c cs ls other false y e f g r = absurd (false≢true g)

-- a byte before a text, by what it ends
put : (b : ℕ) (bs : List ℕ) (ls : List (List ℕ)) (x y : Bool) → eqb b 10 ≡ x → returning b bs ≡ y → (y ≡ true → TextText (b ∷ bs) ls) → TextText bs ls
    → TextText (b ∷ bs) (cond x ([] ∷ ls) (cond y ls (glued b ls)))
put b bs ls true y e f both r = rw (eqb-true b 10 e) (by_feed {l = []} tt refl r)
put b bs ls false true e f both r = both refl
put b bs ls false false e f both r = put_byte b bs ls (eqb-false b 10 e) f r

-- and they do
pub text_every : (bs : List ℕ) → TextText bs (text_lines bs)
text_every [] = no_text
text_every (b ∷ []) = put b [] [] (eqb b 10) false refl refl (λ e. absurd (false≢true e)) no_text
text_every (b ∷ c ∷ cs) =
    put b (c ∷ cs) (text_lines (c ∷ cs)) (eqb b 10) (returning b (c ∷ cs)) refl refl
    (λ e. put_end b c cs (text_lines cs) _ (eqb b 13) (eqb c 10) refl refl e (text_every cs)) (text_every (c ∷ cs))

-- a word before a blank or the end
run : (c : ℕ) (w bs : List ℕ) → 0 < length w → Solid w → fresh bs ≡ true → words_from c (w ++ bs) ≡ spanned c w ∷ words_from (c + length w) bs
run c [] bs h s f = absurd (omega arith)
run c (b ∷ []) bs h s f = rw (s.0, f)
run c (b ∷ d ∷ w) bs h s f =
    let more = run (c + 1) (d ∷ w) bs (omega arith) s.1 f in
    let place : c + 1 + length (d ∷ w) ≡ c + length (b ∷ d ∷ w) = omega arith in
    ap (λ x. cond x (words_from (c + 1) (d ∷ w ++ bs)) (grown c b (blank d) (words_from (c + 1) (d ∷ w ++ bs)))) s.0
    ∙ ap (λ x. grown c b x (words_from (c + 1) (d ∷ w ++ bs))) s.1.0 ∙ ap (grown c b false) more ∙ ap (λ n. spanned c (b ∷ d ∷ w) ∷ words_from n bs) place

-- only the words of a text line stand to it as the grammar says, whatever the columns
pub words_only : (c : ℕ) (bs : List ℕ) (ws : List (List ℕ)) → WordsText bs ws → ws ≡ map bytes_of (words_from c bs)
words_only c bs ws no_words = refl
words_only c bs ws (past_blank {b} {bs = cs} e r) = rw e (words_only (c + 1) cs ws r)
words_only c bs ws (word {w} {bs = cs} {ws = vs} h s f r) = ap (λ x. w ∷ x) (words_only (c + length w) cs vs r) ∙ sym (ap (map bytes_of) (run c w cs h s f))

-- a byte that is no blank stands before the first word
put_word : (b : ℕ) (bs : List ℕ) (ws : List (List ℕ)) → blank b ≡ false → fresh bs ≡ false → WordsText bs ws → WordsText (b ∷ bs) (glued b ws)
put_word b bs ws e f no_words = absurd (true≢false f)
put_word b bs ws e f (past_blank g r) = absurd (true≢false (sym g ∙ f))
put_word b bs ws e f (word {w} h s g r) = word {w = b ∷ w} (omega arith) (e, s) g r

-- a byte before the words of the rest, by whether it is a blank and the rest begins fresh
put_blank : (c b : ℕ) (bs : List ℕ) (ws : List Spanned) (x y : Bool) → blank b ≡ x → fresh bs ≡ y → WordsText bs (map bytes_of ws)
    → WordsText (b ∷ bs) (map bytes_of (cond x ws (grown c b y ws)))
put_blank c b bs ws true y e f r = past_blank e r
put_blank c b bs ws false true e f r = word {w = b ∷ []} (omega arith) (e, tt) f r
put_blank c b bs [] false false e f r = put_word b bs [] e f r
put_blank c b bs (w ∷ ws) false false e f r = put_word b bs (map bytes_of (w ∷ ws)) e f r

-- and they do
pub words_every : (c : ℕ) (bs : List ℕ) → WordsText bs (map bytes_of (words_from c bs))
words_every c [] = no_words
words_every c (b ∷ bs) = put_blank c b bs (words_from (c + 1) bs) (blank b) (fresh bs) refl refl (words_every (c + 1) bs)
