-- One write after another. Assumes nothing.
use Rattle.std.proofs.Common.{◌≡◌, ℕ, ◌≤◌, List, [], ◌∷◌, ◌++◌, length, drop, sym, refl, ap, ◌∙◌, subst, append_assoc, append-nil, add-zero, zero-add, take_all, arith, length-append}
use lib.Seq.{paste}
use Rattle.std.proofs.lemmas.List.Edits.{paste_none, paste-paste, length-paste}
use Rattle.acl.specs.Shapes.{Shape}
use Rattle.ios.specs.declared.family.Family.{Family}
use Rattle.ios.specs.declared.family.Family.TheVariants.{Standard, Extended}
use Rattle.ios.specs.Reading.{over}
use Rattle.writer.specs.declared.pen.Pen.{Pen}
use Rattle.writer.specs.Canon.{action_word, log_words, entry_words, spaced}
use Rattle.writer.proofs.Plain.{spaced_words}
use Rattle.writer.specs.Pens.{term_words, counted, Wrote, words, WroteWords}

-- nothing is written
nothing : (p : Pen) → Wrote p [] p
nothing p = record { same = refl; count = ap counted (sym (add-zero p.at)); written = λ h. (sym (add-zero p.at), paste_none p.memory.now p.at []) }

-- the same bytes in another form
pub same : {p q : Pen} {xs ys : List ℕ} → xs ≡ ys → Wrote p xs q → Wrote p ys q
same {p} {q} {xs} {ys} e w = subst (λ bs. Wrote p bs q) e w

-- a write, and then one where it ended
pub two : {p q r : Pen} {xs ys zs : List ℕ} → Wrote p xs q → Wrote q ys r → xs ++ ys ≡ zs → Wrote p zs r
two {p} {q} {r} {xs} {ys} {zs} a b e = same e (record {
  same = b.same ∙ a.same;
  count = omega (arith, a.count, b.count, length-append xs ys);
  written = λ h.
      let w = a.written (omega (arith, h, length-append xs ys)) in
      let v = b.written (omega (arith, h, w.0, ap length w.1, length-append xs ys, length-paste p.memory.now p.at xs (length xs))) in (
        omega (arith, v.0, w.0, length-append xs ys),
        v.1 ∙ ap (λ m. paste m q.at ys (length ys)) w.1 ∙ ap (λ k. paste (paste p.memory.now p.at xs (length xs)) k ys (length ys)) w.0
            ∙ paste-paste p.memory.now p.at xs ys (length xs) (length ys) refl refl (omega arith) ∙ ap (λ k. paste p.memory.now p.at (xs ++ ys) k) (sym (length-append xs ys)),
      );
})

front_over : (bs old : List ℕ) → length bs ≤ length old → bs ++ drop (length bs) old ≡ over bs old
front_over [] old h = refl
front_over (b ∷ bs) [] h = absurd (omega arith)
front_over (b ∷ bs) (o ∷ old) h = ap (λ l. b ∷ l) (front_over bs old (omega arith))

-- what was written from the front of memory on
pub over_front : (bs old : List ℕ) → length bs ≤ length old → paste old 0 bs (length bs) ≡ over bs old
over_front bs old h = rw (zero-add (length bs), take_all (length bs) bs (omega arith)) (front_over bs old h)

-- a space and a word
pub word : {p q r : Pen} {w : List ℕ} → Wrote p (32 ∷ []) q → Wrote q w r → WroteWords p (w ∷ []) r
word {p} {q} {r} {w} a b = record { wrote = two a b (ap (λ l. 32 ∷ l) (sym (append-nil w))) }

words_append : (vs ws : List (List ℕ)) → words vs ++ words ws ≡ words (vs ++ ws)
words_append [] ws = refl
words_append (v ∷ vs) ws = append_assoc (32 ∷ v) (words vs) (words ws) ∙ ap (λ l. (32 ∷ v) ++ l) (words_append vs ws)

-- no words
pub none : (p : Pen) → WroteWords p [] p
none p = record { wrote = nothing p }

-- words, and then more of them
pub more : {p q r : Pen} {vs ws us : List (List ℕ)} → WroteWords p vs q → WroteWords q ws r → vs ++ ws ≡ us → WroteWords p us r
more {p} {q} {r} {vs} {ws} {us} a b e = record { wrote = two a.wrote b.wrote (words_append vs ws ∙ ap words e) }

-- words, and then the end of a line
pub line_end : {p q r : Pen} {ws : List (List ℕ)} → WroteWords p ws q → Wrote q (10 ∷ []) r → Wrote p (spaced ws) r
line_end {p} {q} {r} {ws} a b = two a.wrote b (sym (spaced_words ws []) ∙ append-nil (spaced ws))

pub entry_words_lem : (f : Family) (l : Shape) → action_word l.action ∷ (term_words f l ++ log_words l.log) ≡ entry_words f l
entry_words_lem Standard l = refl
entry_words_lem Extended l = simp append_assoc
