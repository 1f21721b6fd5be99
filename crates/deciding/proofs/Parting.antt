-- The list and the headers stand around the first text line `=` of the input, and nowhere else. Assumes nothing.
use Rattle.std.proofs.Common.{◌≡◌, ℕ, ◌+◌, Bool, true, false, cond, eqb, ◌⊎◌, List, [], ◌∷◌, ◌++◌, length, sym, refl, ap, ◌∙◌, subst, inl, inr, ⊎_elim, arith}
use Rattle.std.proofs.lemmas.List.{take_at, drop_at, take_all, drop_all}
use Rattle.std.proofs.lemmas.Bool.{true≢false, false≢true, eqb-true, eq-eqb, cond-true, cond-false}
use Rattle.words.specs.Lines.{returning, glued, text_lines, after_line}
use Rattle.ios.specs.Grammar.{ends_in}
use Rattle.ios.proofs.Steps.{either}
use Rattle.deciding.specs.Halves.{feeds, line_ends, is_mark, mark_at, list_part, header_part}
use Rattle.deciding.specs.Stands.{NoMark, EndText, WholeText, Parted}
use Rattle.deciding.specs.Stands.EndText.{feed, return, at_end}
use Rattle.deciding.specs.Stands.WholeText.{no_lines, ended}
use Rattle.deciding.specs.Stands.Parted.{unmarked, marked}

-- the first text line, and the others
abbrev line : List ℕ → List ℕ
line [] = []
line (b ∷ bs) = cond (eqb b 10) [] (cond (returning b bs) [] (b ∷ line bs))

abbrev others : List (List ℕ) → List (List ℕ)
others [] = []
others (l ∷ ls) = ls

-- the text lines that start in a text; the flag says that one starts with it
abbrev started : Bool → List ℕ → List (List ℕ)
started true bs = text_lines bs
started false bs = others (text_lines bs)

lines_are : (b : ℕ) (bs : List ℕ) → text_lines (b ∷ bs) ≡ line (b ∷ bs) ∷ started (eqb b 10) bs
lines_are b [] = go (eqb b 10) where
  go : (x : Bool) → cond x ([] ∷ []) ((b ∷ []) ∷ []) ≡ cond x [] (b ∷ []) ∷ started x []
  go true = refl
  go false = refl
lines_are b (c ∷ cs) = go (eqb b 10) (eqb b 13) (eqb c 10) refl (lines_are c cs) where
  glue : (ls ms : List (List ℕ)) (l : List ℕ) → ls ≡ l ∷ ms → glued b ls ≡ (b ∷ l) ∷ others ls
  glue ls ms l e = rw e

  go : (x y z : Bool) → eqb c 10 ≡ z → text_lines (c ∷ cs) ≡ line (c ∷ cs) ∷ started (eqb c 10) cs
      → cond x ([] ∷ text_lines (c ∷ cs)) (cond (cond y z false) (text_lines (c ∷ cs)) (glued b (text_lines (c ∷ cs))))
      ≡ cond x [] (cond (cond y z false) [] (b ∷ line (c ∷ cs))) ∷ started x (c ∷ cs)
  go true y z e h = refl
  go false true true e h = rw e
  go false true false e h = glue (text_lines (c ∷ cs)) _ _ h
  go false false z e h = glue (text_lines (c ∷ cs)) _ _ h

-- a text line's end here, and what follows it
record Cut (bs : List ℕ) : Type 0 where
  end : List ℕ
  headers : List ℕ
  form : EndText end headers
  split : bs ≡ end ++ headers

end_text : (bs : List ℕ) → line_ends bs ≡ true → Cut bs
end_text [] e = record { end = []; headers = []; form = at_end; split = refl }
end_text (b ∷ bs) e =
    either (eqb b 10) _ _ _ e
    (λ is _. record { end = 10 ∷ []; headers = bs; form = feed; split = ap (λ x. x ∷ bs) (eqb-true b 10 is) })
    (λ _ e. either (eqb b 13) _ _ _ e (λ is e. returned bs (eqb-true b 13 is) e) (λ _ e. absurd (false≢true e))) where
      returned : (bs : List ℕ) → b ≡ 13 → feeds bs ≡ true → Cut (b ∷ bs)
      returned [] is e = absurd (false≢true e)
      returned (c ∷ cs) is e = record { end = 13 ∷ (10 ∷ []); headers = cs; form = return; split = rw (is, eqb-true c 10 e) }

-- a mark is `=` and the end of its text line
mark_text : (t : List ℕ) → is_mark t ≡ true → (bs : List ℕ) × (t ≡ 61 ∷ bs) × Cut bs
mark_text [] e = absurd (false≢true e)
mark_text (b ∷ bs) e =
    either (eqb b 61) _ _ _ e (λ is e. (bs, ap (λ x. x ∷ bs) (eqb-true b 61 is), end_text bs e)) (λ _ e. absurd (false≢true e))

-- and the other way; what follows it are the headers
text_mark : {end headers : List ℕ} → EndText end headers → (is_mark (61 ∷ (end ++ headers)) ≡ true) × (after_line (61 ∷ (end ++ headers)) ≡ headers)
text_mark feed = (refl, refl)
text_mark return = (refl, refl)
text_mark at_end = (refl, refl)

-- the text line of a mark is `=`
mark_line : (t : List ℕ) → is_mark t ≡ true → line t ≡ 61 ∷ []
mark_line t e =
    let m = mark_text t e in
    ap line (m.1 ∙ ap (λ x. 61 ∷ x) m.2.split) ∙ alone m.2.form where
      alone : {end headers : List ℕ} → EndText end headers → line (61 ∷ (end ++ headers)) ≡ 61 ∷ []
      alone feed = refl
      alone return = refl
      alone at_end = refl

-- where nothing is left of a text line, it ends
line_ends_lem : (bs : List ℕ) → line bs ≡ [] → line_ends bs ≡ true
line_ends_lem [] e = refl
line_ends_lem (b ∷ bs) e =
    either (eqb b 10) _ _ _ e (λ is _. cond-true (eqb b 10) _ _ is)
    (λ off e. either (returning b bs) _ _ _ e (λ is _. cond-false (eqb b 10) _ _ off ∙ same bs ∙ is)
    (λ _ e. cc)) where
      same : (bs : List ℕ) → cond (eqb b 13) (feeds bs) false ≡ returning b bs
      same [] = go (eqb b 13) where
        go : (x : Bool) → cond x false false ≡ false
        go true = refl
        go false = refl
      same (c ∷ cs) = refl

-- a text line `=` is a mark
line_mark : (b : ℕ) (bs : List ℕ) → line (b ∷ bs) ≡ 61 ∷ [] → is_mark (b ∷ bs) ≡ true
line_mark b bs e =
    either (eqb b 10) _ _ _ e (λ _ e. cc)
    (λ _ e. either (returning b bs) _ _ _ e (λ _ e. cc)
    (λ _ e. let first : b ≡ 61 = cc in let nothing : line bs ≡ [] = cc in cond-true (eqb b 61) _ _ (eq-eqb b 61 first) ∙ line_ends_lem bs nothing))

-- no text line that starts in a text is `=`
abbrev Clean : Bool → List ℕ → Type 0
Clean starts bs = NoMark (started starts bs)

clean_none : (starts : Bool) → Clean starts []
clean_none true = tt
clean_none false = tt

-- a mark at the first byte
abbrev here : Bool → ℕ → List ℕ → Bool
here starts b bs = cond starts (is_mark (b ∷ bs)) false

-- byte by byte, both ways
clean_on : (starts : Bool) (b : ℕ) (bs : List ℕ) → here starts b bs ≡ false → Clean (eqb b 10) bs → Clean starts (b ∷ bs)
clean_on true b bs off c = subst NoMark (sym (lines_are b bs)) ((λ e. true≢false (sym (line_mark b bs e) ∙ off)), c)
clean_on false b bs off c = subst NoMark (sym (ap others (lines_are b bs))) c

clean_back : (starts : Bool) (b : ℕ) (bs : List ℕ) → Clean starts (b ∷ bs) → (here starts b bs ≡ false) × Clean (eqb b 10) bs
clean_back true b bs c = (off (is_mark (b ∷ bs)) (λ e. both.0 (mark_line (b ∷ bs) e)), both.1) where
  both : (line (b ∷ bs) ≡ 61 ∷ [] → ⊥) × NoMark (started (eqb b 10) bs)
  both = subst NoMark (lines_are b bs) c

  off : (x : Bool) → (x ≡ true → ⊥) → x ≡ false
  off true never = absurd (never refl)
  off false never = refl
clean_back false b bs c = (refl, subst NoMark (ap others (lines_are b bs)) c)

-- after a text a text line starts; the flag says that one starts with it
abbrev ends : Bool → List ℕ → Bool
ends starts [] = starts
ends starts (b ∷ bs) = ends (eqb b 10) bs

ends_in_lem : (b : ℕ) (bs : List ℕ) → ends (eqb b 10) bs ≡ ends_in 10 (b ∷ bs)
ends_in_lem b [] = refl
ends_in_lem b (c ∷ cs) = ends_in_lem c cs

ends_whole : (l : List ℕ) → ends true l ≡ true → WholeText l
ends_whole [] e = no_lines
ends_whole (b ∷ bs) e = ended (sym (ends_in_lem b bs) ∙ e)

whole_ends : {l : List ℕ} → WholeText l → ends true l ≡ true
whole_ends no_lines = refl
whole_ends (ended {bs} e) = go bs e where
  go : (l : List ℕ) → ends_in 10 l ≡ true → ends true l ≡ true
  go [] e = absurd (false≢true e)
  go (b ∷ bs) e = ends_in_lem b bs ∙ e

-- what follows whole text lines makes none of them a mark
here_same : (starts : Bool) (b : ℕ) (bs t : List ℕ) → ends (eqb b 10) bs ≡ true → here starts b (bs ++ t) ≡ here starts b bs
here_same false b bs t e = refl
here_same true b bs t e = go (eqb b 61) refl where
  fed : (l : List ℕ) → ends false l ≡ true → feeds (l ++ t) ≡ feeds l
  fed [] e = absurd (false≢true e)
  fed (c ∷ cs) e = refl

  ending : (l : List ℕ) → ends false l ≡ true → line_ends (l ++ t) ≡ line_ends l
  ending [] e = absurd (false≢true e)
  ending (c ∷ cs) e = by (eqb c 10) e where
    by : (x : Bool) → ends x cs ≡ true → cond x true (cond (eqb c 13) (feeds (cs ++ t)) false) ≡ cond x true (cond (eqb c 13) (feeds cs) false)
    by true e = refl
    by false e = ap (λ f. cond (eqb c 13) f false) (fed cs e)

  go : (x : Bool) → eqb b 61 ≡ x → cond x (line_ends (bs ++ t)) false ≡ cond x (line_ends bs) false
  go true is = ending bs (subst (λ k. ends (eqb k 10) bs ≡ true) (eqb-true b 61 is) e)
  go false is = refl

-- one byte on
mark_on : (starts : Bool) (b : ℕ) (bs : List ℕ) (n : ℕ) → here starts b bs ≡ false → mark_at (eqb b 10) bs ≡ n → mark_at starts (b ∷ bs) ≡ n + 1
mark_on starts b bs n off e = cond-false (here starts b bs) _ _ off ∙ ap (λ k. k + 1) e

-- where no text line is `=`, none is found
unmarked_at : (starts : Bool) (bs : List ℕ) → Clean starts bs → mark_at starts bs ≡ length bs
unmarked_at starts [] c = refl
unmarked_at starts (b ∷ bs) c =
    let k = clean_back starts b bs c in
    let at = mark_on starts b bs (length bs) k.0 (unmarked_at (eqb b 10) bs k.1) in
    omega (arith, at)

-- the first one is found
marked_at : (starts : Bool) (l t : List ℕ) → ends starts l ≡ true → Clean starts l → is_mark t ≡ true → mark_at starts (l ++ t) ≡ length l
marked_at starts [] [] e c m = absurd (false≢true m)
marked_at starts [] (b ∷ bs) e c m = cond-true (here starts b bs) _ _ (cond-true starts _ _ e ∙ m)
marked_at starts (b ∷ bs) t e c m =
    let k = clean_back starts b bs c in
    let at = mark_on starts b (bs ++ t) (length bs) (here_same starts b bs t e ∙ k.0) (marked_at (eqb b 10) bs t e k.1 m) in
    omega (arith, at)

-- whole text lines without a mark, and then a mark
record Found (starts : Bool) (bs : List ℕ) : Type 0 where
  list : List ℕ
  tail : List ℕ
  split : bs ≡ list ++ tail
  whole : ends starts list ≡ true
  clean : Clean starts list
  mark : is_mark tail ≡ true

find : (starts : Bool) (bs : List ℕ) → Clean starts bs ⊎ Found starts bs
find starts [] = inl (clean_none starts)
find starts (b ∷ bs) = go (here starts b bs) refl (find (eqb b 10) bs) where
  at_once : (s : Bool) → here s b bs ≡ true → Found s (b ∷ bs)
  at_once true on = record { list = []; tail = b ∷ bs; split = refl; whole = refl; clean = tt; mark = on }
  at_once false on = absurd (false≢true on)

  later : here starts b bs ≡ false → Found (eqb b 10) bs → Found starts (b ∷ bs)
  later off f =
      let same : here starts b bs ≡ here starts b f.list = ap (here starts b) f.split ∙ here_same starts b f.list f.tail f.whole in
      record {
        list = b ∷ f.list;
        tail = f.tail;
        split = ap (λ l. b ∷ l) f.split;
        whole = f.whole;
        clean = clean_on starts b f.list (sym same ∙ off) f.clean;
        mark = f.mark;
      }

  go : (x : Bool) → here starts b bs ≡ x → Clean (eqb b 10) bs ⊎ Found (eqb b 10) bs → Clean starts (b ∷ bs) ⊎ Found starts (b ∷ bs)
  go true e more = inr (at_once starts e)
  go false e (inl c) = inl (clean_on starts b bs e c)
  go false e (inr f) = inr (later e f)

-- an input is parted in one way
pub parted_only : (input list headers : List ℕ) → Parted input list headers → (list ≡ list_part input) × (headers ≡ header_part input)
parted_only input list headers (unmarked c) =
    let e = unmarked_at true input c in
    (sym (take_all (mark_at true input) input (omega (arith, e))), ap after_line (sym (drop_all (mark_at true input) input (omega (arith, e)))))
parted_only input list headers (marked {end} w c t) =
    let tail = 61 ∷ (end ++ headers) in
    let e = sym (marked_at true list tail (whole_ends w) c (text_mark t).0) in
    (sym (take_at list tail _ e), sym (text_mark t).1 ∙ ap after_line (sym (drop_at list tail _ e)))

-- and it is parted so
pub parted_every : (input : List ℕ) → Parted input (list_part input) (header_part input)
parted_every input = ⊎_elim (λ c. so input [] (unmarked c)) found (find true input) where
  so : (list headers : List ℕ) → Parted input list headers → Parted input (list_part input) (header_part input)
  so list headers p = let e = parted_only input list headers p in subst (λ l. Parted input l (header_part input)) e.0 (subst (Parted input list) e.1 p)

  found : Found true input → Parted input (list_part input) (header_part input)
  found f =
      let m = mark_text f.tail f.mark in
      let whole : input ≡ f.list ++ (61 ∷ (m.2.end ++ m.2.headers)) = f.split ∙ ap (λ t. f.list ++ t) (m.1 ∙ ap (λ x. 61 ∷ x) m.2.split) in
      so f.list m.2.headers
      (subst (λ i. Parted i f.list m.2.headers) (sym whole) (marked (ends_whole f.list f.whole) f.clean m.2.form))
