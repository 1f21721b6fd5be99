-- The parts of the input and the header lines are what Stands says. Assumes nothing.
use Rattle.std.proofs.Common.{◌≡◌, ℕ, ◌<◌, ◌≤◌, Bool, true, false, cond, ltb, List, [], ◌∷◌, ◌++◌, map, length, Some, None, Ok, Err, Option, Result, sym, refl, ap, ◌∙◌, arith}
use mathlib.Core.List.{map-append}
use Rattle.std.proofs.lemmas.Bool.{false≢true, ltb-true, ltb-false, lt-ltb, le-ltb, eqb-true, cond-true, cond-false}
use Rattle.acl.specs.declared.header.Header.{Header}
use Rattle.words.specs.declared.part.Stop.{Stop}
use Rattle.words.specs.Numbers.{number_in, before_dot, and_then, address_in}
use Rattle.words.specs.Words.{Spanned, spanned, words_at, bytes_of}
use Rattle.words.specs.Meaning.{AddressText}
use Rattle.words.specs.Cursor.{Rest, rest_of, Step}
use Rattle.words.proofs.Addresses.{address_every}
use Rattle.words.specs.Keywords.{comment}
use Rattle.ios.specs.Grammar.{WordsText, PassedText}
use Rattle.ios.specs.Grammar.PassedText.{blank_line, comment_line}
use Rattle.ios.specs.Stands.{up_to}
use Rattle.ios.proofs.Texts.{words_only}
use Rattle.ios.proofs.Forms.{headed}
use Rattle.ios.proofs.Steps.{either}
use Rattle.ios.proofs.Complete.{cons_case, nil_case}
use Rattle.ios.proofs.Saying.{comment_text}
use Rattle.ios.proofs.Began.{up_to_lem}
use Rattle.deciding.specs.HeaderLines.{header_of, passes, found_header, header_line}
use Rattle.deciding.specs.Stands.{HeaderText, BadAt, ReportStands}
use Rattle.deciding.proofs.Parting.{parted_only, parted_every}
use Rattle.deciding.proofs.HeaderForms.{header, form_text, text_form}

-- the words of a text line
abbrev words : List ℕ → List (List ℕ)
words line = map bytes_of (words_at line 0)

-- a text line is too long, says nothing, or is read as a header
ways : {P : Type 0} (line : List ℕ) (x : Result (Option Header) ℕ) → header_line line ≡ x
    → (256 < length line → Err 256 ≡ x → P)
    → (length line ≤ 256 → passes (words_at line 0) ≡ true → Ok None ≡ x → P)
    → (length line ≤ 256 → found_header (header_of (rest_of line)) ≡ x → P)
    → P
ways line x e long silent found =
    either (ltb 256 (length line)) _ _ _ e (λ on. long (ltb-true 256 (length line) on))
    (λ off e. let small = ltb-false 256 (length line) off in
    either (passes (words_at line 0)) _ _ _ e (silent small) (λ _. found small))

-- what a text line of at most 256 bytes says
short : (line : List ℕ) → length line ≤ 256 → header_line line ≡ cond (passes (words_at line 0)) (Ok None) (found_header (header_of (rest_of line)))
short line small = cond-false (ltb 256 (length line)) _ _ (le-ltb 256 (length line) small)

-- what a header that was read came from
found_silent : (s : Step Header) → found_header s ≡ Ok None → ⊥
found_silent (Ok p) e = cc
found_silent (Err t) e = cc

found_good : (s : Step Header) (h : Header) → found_header s ≡ Ok (Some h) → (r : Rest) × (s ≡ Ok (h, r))
found_good (Ok p) h e = (p.1, let same : p.0 ≡ h = cc in ap (λ x. Ok (x, p.1)) same)
found_good (Err t) h e = cc

found_bad : (s : Step Header) (c : ℕ) → found_header s ≡ Err c → (t : Stop) × (s ≡ Err t) × (c ≡ t.column)
found_bad (Ok p) c e = cc
found_bad (Err t) c e = (t, refl, cc)

-- the text lines that say nothing, both ways
passes_text : (ws : List Spanned) → passes ws ≡ true → PassedText (map bytes_of ws)
passes_text [] e = blank_line
passes_text (w ∷ ws) e = comment_text w.bytes (map bytes_of ws) e

text_passes : {vs : List (List ℕ)} → PassedText vs → (us : List Spanned) → map bytes_of us ≡ vs → passes us ≡ true
text_passes blank_line = nil_case (λ us. passes us ≡ true) refl
text_passes (comment_line {bs} {ws}) = cons_case (λ us. passes us ≡ true) (33 ∷ bs) ws (λ c us _. refl)

-- an address does not begin with !
comment_none : (w : List ℕ) → comment w ≡ true → address_in w ≡ None
comment_none [] e = absurd (false≢true e)
comment_none (b ∷ bs) e =
    ap (λ x. address_in (x ∷ bs)) (eqb-true b 33 e) ∙ none (number_in 0 255 (33 ∷ before_dot bs)) _ (no_number (before_dot bs)) where
      none : (o : Option ℕ) (f : ℕ → Option ℕ) → o ≡ None → and_then o f ≡ None
      none o f e = rw e

      no_number : (bs : List ℕ) → number_in 0 255 (33 ∷ bs) ≡ None
      no_number [] = refl
      no_number (c ∷ cs) = refl

address_says : (w : List ℕ) (a : ℕ) → AddressText w a → comment w ≡ false
address_says w a t = go (comment w) refl where
  go : (x : Bool) → comment w ≡ x → x ≡ false
  go false e = refl
  go true e =
      let none = comment_none w e in
      let some = address_every w a t in
      cc

-- a header's words say something
header_says : (ws : List (List ℕ)) (h : Header) → HeaderText ws h → (us : List Spanned) → map bytes_of us ≡ ws → passes us ≡ false
header_says ws h t us e = cons_case (λ us. passes us ≡ false) t.source _ (λ c us _. address_says t.source h.source t.from) us (e ∙ t.words)

silent : (line : List ℕ) → header_line line ≡ Ok None → (length line ≤ 256) × PassedText (words line)
silent line e = ways line (Ok None) e
    (λ _ e. cc)
    (λ small on _. (small, passes_text (words_at line 0) on))
    (λ _ e. absurd (found_silent (header_of (rest_of line)) e))

passed : (line : List ℕ) (ws : List (List ℕ)) → length line ≤ 256 → WordsText line ws → PassedText ws → header_line line ≡ Ok None
passed line ws small w p = short line small ∙ cond-true (passes (words_at line 0)) _ _ (text_passes p (words_at line 0) (sym (words_only 0 line ws w)))

sound : (line : List ℕ) (h : Header) → header_line line ≡ Ok (Some h) → (length line ≤ 256) × HeaderText (words line) h
sound line h e = ways line (Ok (Some h)) e
    (λ _ e. cc)
    (λ _ _ e. cc)
    (λ small e. let f = found_good (header_of (rest_of line)) h e in
    (small, form_text (words line) h (header.whole (length line) (words_at line 0) h f.0 f.1)))

complete : (line : List ℕ) (ws : List (List ℕ)) (h : Header) → length line ≤ 256 → WordsText line ws → HeaderText ws h → header_line line ≡ Ok (Some h)
complete line ws h small w t =
    let e = sym (words_only 0 line ws w) in
    short line small ∙ cond-false (passes (words_at line 0)) _ _ (header_says ws h t (words_at line 0) e)
    ∙ ap found_header (header.takes ws h (text_form ws h t) (length line) (words_at line 0) e)

bad : (line : List ℕ) (c : ℕ) → length line ≤ 256 → header_line line ≡ Err c → BadAt line c
bad line c small e = ways line (Err c) e
    (λ long _. absurd (omega arith))
    (λ _ _ e. cc)
    (λ _ e.
    let f = found_bad (header_of (rest_of line)) c e in
    let b = header.begins (length line) (words_at line 0) f.0 f.1 in
    record {
      before = b.before;
      after = b.after;
      words = b.split;
      column = f.2 ∙ b.column;
      more = b.more;
      header = b.value;
      good = form_text _ b.value b.text;
      worst = λ rest h t.
          let others = map (spanned 0) rest in
          let is : map bytes_of (b.before ++ headed b.after others) ≡ map bytes_of b.before ++ up_to b.after rest =
          map-append bytes_of b.before _ ∙ ap (λ l. map bytes_of b.before ++ l) (up_to_lem b.after rest) in
          b.worst others _ (header.takes _ h (text_form _ h t) (length line) _ is);
    })

pub report_stands : ReportStands
report_stands = record {
  parted = parted_every;
  only = parted_only;
  silent = silent;
  passed = passed;
  sound = sound;
  complete = complete;
  bad = bad;
  long = λ line h. cond-true (ltb 256 (length line)) _ _ (lt-ltb 256 (length line) h);
}
