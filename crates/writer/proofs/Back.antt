-- What is written reads back as the same list. Assumes nothing.
use Rattle.std.proofs.Common.{◌≡◌, ℕ, suc, ◌+◌, ◌≤◌, Bool, true, false, cond, ltb, List, [], ◌∷◌, ◌++◌, map, length, Some, None, Ok, Err, codes, decimal, Option, refl, ap, ◌∙◌, arith}
use lib.ListN.{length-map}
use Rattle.std.proofs.lemmas.Bool.{ltb-false}
use Rattle.acl.specs.declared.refusal.Refusal.TheVariants.{TooManyLines, ShortMemory, TooLong, NotStandard}
use Rattle.acl.specs.declared.line.Line.{Line}
use Rattle.acl.specs.Shapes.{Shape, shape}
use Rattle.ios.specs.declared.family.Family.{Family}
use Rattle.ios.specs.declared.family.Family.TheVariants.{Standard, Extended}
use Rattle.ios.specs.Entries.{EntryShape, numbered}
use Rattle.ios.specs.Parsing.{family_of}
use Rattle.ios.specs.Reading.{read_of, text_of, reading, number_or_none}
use Rattle.ios.specs.Grammar.{TextText, Follows, Lines, numbered_from, ListText}
use Rattle.ios.specs.Grammar.TextText.{no_text, by_feed}
use Rattle.ios.specs.Grammar.LineText.{numbered_line}
use Rattle.ios.specs.Grammar.Lines.{no_lines, good_line}
use Rattle.ios.proofs.Saying.{family_range}
use Rattle.ios.proofs.Whole.{reading_stands}
use Rattle.writer.specs.Canon.{entry_words, list_bytes}
use Rattle.writer.specs.Pens.{words}
use Rattle.writer.specs.Writing.{allowed, write_by, write_of, text_by, text_for}
use Rattle.writer.specs.Back.{renumbered, number_back, RoundTrip}
use Rattle.writer.proofs.Plain.{Plain, Plains, parts, key, plain_decimal, line_text, lacks_line, lacks_end, length_line, ended}
use Rattle.writer.proofs.Forms.{entry_back, entry_formed}

-- the first word, the words after it, and the text line that they make
abbrev first : List ℕ
first = codes "access-list"

plain_first : Plain first
plain_first = key first refl

abbrev after : ℕ → Family → Shape → List (List ℕ)
after n f l = decimal n ∷ entry_words f l

abbrev text_line : ℕ → Family → Shape → List ℕ
text_line n f l = first ++ words (after n f l)

-- what is allowed of lines is allowed of the first and of the rest
allowed_first : (f : Family) (l : Shape) (ls : List Shape) → allowed f (l ∷ ls) ≡ true → (allowed f (l ∷ []) ≡ true) × (allowed f ls ≡ true)
allowed_first Standard l ls h = let p = parts _ (allowed Standard ls) h in (rw p.0, p.1)
allowed_first Extended l ls h = (refl, refl)

module _ (n : ℕ) (f : Family) (family : family_of n ≡ Some f) where
  -- the words after the first
  plain_after : (l : Line) → allowed f (shape l ∷ []) ≡ true → Plains (after n f (shape l))
  plain_after l h = (plain_decimal n (omega (arith, (family_range n f family).1)), (entry_formed f l h).plain)

  -- the text written of lines, and its text lines
  text_lines : (ls : List Line) → allowed f (map shape ls) ≡ true → TextText (list_bytes n f (map shape ls)) (map (text_line n f) (map shape ls))
  text_lines [] h = no_text
  text_lines (l ∷ ls) h =
      let p = allowed_first f (shape l) (map shape ls) h in
      let plain = plain_after l p.0 in
      let lacks = lacks_line 13 first (after n f (shape l)) (omega arith) plain_first plain in
      rw (ended first (after n f (shape l)) (list_bytes n f (map shape ls)))
      (by_feed (lacks_line 10 first (after n f (shape l)) (omega arith) plain_first plain) (lacks_end 13 (text_line n f (shape l)) lacks) (text_lines ls p.1))

  -- one line before others
  put_line : (known : Option ℕ) (l : Line) (ls : List (List ℕ)) (es : List EntryShape) → allowed f (shape l ∷ []) ≡ true → Follows known n
      → Lines (Some n) ls es (Some n) → Lines known (text_line n f (shape l) ∷ ls) (entry_back (shape l) ∷ es) (Some n)
  put_line known l ls es h follows more =
      let plain = plain_after l h in
      let e = entry_formed f l h in
      good_line (length_line first (after n f (shape l)) plain_first plain (omega (arith, e.few))) (line_text first (after n f (shape l)) plain_first plain)
      (numbered_line refl refl family e.form) follows more

  more_lines : (ls : List Line) → allowed f (map shape ls) ≡ true
      → Lines (Some n) (map (text_line n f) (map shape ls)) (map entry_back (map shape ls)) (Some n)
  more_lines [] h = no_lines
  more_lines (l ∷ ls) h =
      let p = allowed_first f (shape l) (map shape ls) h in
      put_line (Some n) l _ _ p.0 refl (more_lines ls p.1)

-- the number that is known after lines
abbrev known_after : ℕ → List Shape → Option ℕ
known_after n [] = None
known_after n (l ∷ ls) = Some n

all_lines : (n : ℕ) (f : Family) → family_of n ≡ Some f → (ls : List Line) → allowed f (map shape ls) ≡ true
    → Lines None (map (text_line n f) (map shape ls)) (map entry_back (map shape ls)) (known_after n (map shape ls))
all_lines n f family [] h = no_lines
all_lines n f family (l ∷ ls) h =
    let p = allowed_first f (shape l) (map shape ls) h in
    put_line n f family None l _ _ p.0 tt (more_lines n f family ls p.1)

known_back : (n : ℕ) (ls : List Shape) → number_back ls n ≡ number_or_none (known_after n ls)
known_back n [] = refl
known_back n (l ∷ ls) = refl

renumbered_back : (k : ℕ) (ls : List Shape) → renumbered k ls ≡ numbered_from k (map entry_back ls)
renumbered_back k [] = refl
renumbered_back k (l ∷ ls) = ap (λ x. numbered (k + 1) (entry_back l) ∷ x) (renumbered_back (k + 1) ls)

length_renumbered : (k : ℕ) (ls : List Shape) → length (renumbered k ls) ≡ length ls
length_renumbered k [] = refl
length_renumbered k (l ∷ ls) = ap suc (length_renumbered (k + 1) ls)

-- what was written keeps the limits
record Written (ls : List Shape) (n : ℕ) (f : Family) : Type 0 where
  few : length ls ≤ 1024
  family : family_of n ≡ Some f
  good : allowed f ls ≡ true
  small : length (list_bytes n f ls) ≤ 65536

written : (ls : List Shape) (n space k : ℕ) → write_of ls n space ≡ Ok k → (f : Family) × Written ls n f
written ls n space k e = go (ltb 1024 (length ls)) (family_of n) refl refl e where
  by : (f : Family) (x y : Bool) → family_of n ≡ Some f → length ls ≤ 1024 → allowed f ls ≡ x → ltb 65536 (length (list_bytes n f ls)) ≡ y
      → cond x (cond y (Err TooLong) (cond (ltb space (length (list_bytes n f ls))) (Err ShortMemory) (Ok (length (list_bytes n f ls))))) (Err NotStandard) ≡ Ok k
      → (f : Family) × Written ls n f
  by f false y family few a b e = cc
  by f true true family few a b e = cc
  by f true false family few a b e = (f, record { few = few; family = family; good = a; small = ltb-false 65536 (length (list_bytes n f ls)) b })

  go : (x : Bool) (o : Option Family) → ltb 1024 (length ls) ≡ x → family_of n ≡ o → cond x (Err TooManyLines) (write_by ls n space o) ≡ Ok k
      → (f : Family) × Written ls n f
  go true o a b e = cc
  go false None a b e = cc
  go false (Some f) a b e = by f (allowed f ls) (ltb 65536 (length (list_bytes n f ls))) b (ltb-false 1024 (length ls) a) refl refl e

-- the text of a list has the form
list_text : (lines : List Line) (n : ℕ) (f : Family) → Written (map shape lines) n f
    → ListText (list_bytes n f (map shape lines)) (number_back (map shape lines) n) (renumbered 0 (map shape lines))
list_text lines n f w = record {
  lines = map (text_line n f) (map shape lines);
  entries = map entry_back (map shape lines);
  known = known_after n (map shape lines);
  cut = text_lines n f w.family lines w.good;
  small = w.small;
  form = all_lines n f w.family lines w.good;
  few = simp length-map (omega (arith, simp length-map at w.few));
  number = known_back n (map shape lines);
  shapes = renumbered_back 0 (map shape lines);
}

pub round_trip : RoundTrip
round_trip lines n space k room e fits =
    let p = written (map shape lines) n space k e in
    let f = p.0 in
    let w = p.1 in
    let text : text_for (map shape lines) n ≡ list_bytes n f (map shape lines) = ap (text_by (map shape lines) n) w.family in
    let size : length (renumbered 0 (map shape lines)) ≡ length lines = length_renumbered 0 (map shape lines) ∙ length-map lines shape in
    let back = reading_stands.complete (list_bytes n f (map shape lines)) _ _ room (list_text lines n f w) (omega arith) in
    (ap (λ t. read_of t room) text ∙ back.0 ∙ ap (λ m. Ok (reading (number_back (map shape lines) n) m)) size, ap (λ t. (text_of t).lines) text ∙ back.1)
