-- Reading a text stands to the grammar as Stands says. Assumes nothing.
use Rattle.std.proofs.Common.{◌≡◌, ℕ, ◌+◌, ◌≤◌, Bool, true, false, cond, ltb, leb, ◌⊎◌, List, [], ◌∷◌, ◌++◌, map, length, Some, None, Ok, Err, Option, Result, sym, refl, ap, ◌∙◌, subst, inl, inr, arith}
use Rattle.std.proofs.lemmas.Bool.{ltb-true, ltb-false, leb-true, lt-ltb, le-ltb, le-leb, false≢true}
use Rattle.acl.specs.declared.refusal.Refusal.TheVariants.{TooManyLines, ShortMemory, TooLong}
use Rattle.acl.specs.Shapes.{Shape}
use Rattle.words.specs.declared.part.Stop.{Stop}
use Rattle.words.specs.Lines.{text_lines}
use Rattle.words.specs.Words.{words_at, bytes_of}
use Rattle.words.specs.Cursor.{rest_of, stop}
use Rattle.ios.specs.declared.outcome.Fault.{Fault}
use Rattle.ios.specs.declared.outcome.Reading.{Reading}
use Rattle.ios.specs.Entries.{EntryShape, numbered}
use Rattle.ios.specs.Parsing.{Said, said, says, line_says}
use Rattle.ios.specs.Reading.{Text, text_by, refused, added, fault_at, fault_in, scan_by, scan, text_of}
use Rattle.ios.specs.Reading.{reading, number_or_none, counted_by, counted, room_for, read_of}
use Rattle.ios.specs.Grammar.{TextText, LineText, RemarkText, PassedText, Lines, numbered_from, ListText}
use Rattle.ios.specs.Grammar.Lines.{no_lines, passed_line, remark_line, good_line}
use Rattle.ios.specs.Grammar.LineText.{numbered_line}
use Rattle.ios.specs.Grammar.RemarkText.{numbered_remark}
use Rattle.ios.specs.Stands.{at_word, Beginning, RefusedAt, ReadingStands}
use Rattle.ios.proofs.Texts.{text_only, text_every, words_only, words_every}
use Rattle.ios.proofs.Known.{Known}
use Rattle.ios.proofs.Saying.{SaidRemark, says_line, says_nothing, passed_says, remark_says, line_says_lem}
use Rattle.ios.proofs.Began.{says_began}

-- a text line that says something keeps its limit
short : (known : Option ℕ) (l : List ℕ) (s : Said) → line_says known l ≡ Ok s → (length l ≤ 256) × (says known (rest_of l) ≡ Ok s)
short known l s = go (ltb 256 (length l)) refl where
  go : (x : Bool) → ltb 256 (length l) ≡ x → cond x (Err (stop TooLong 256)) (says known (rest_of l)) ≡ Ok s → (length l ≤ 256) × (says known (rest_of l) ≡ Ok s)
  go true h e = absurd cc
  go false h e = (ltb-false 256 (length l) h, e)

-- and back
spoken : (known : Option ℕ) (l : List ℕ) (s : Said) → length l ≤ 256 → says known (rest_of l) ≡ Ok s → line_says known l ≡ Ok s
spoken known l s h e = ap (λ x. cond x (Err (stop TooLong 256)) (says known (rest_of l))) (le-ltb 256 (length l) h) ∙ e

-- an entry, if a text line says one, before those of the text lines after it
abbrev before : Option EntryShape → List EntryShape → List EntryShape
before None es = es
before (Some e) es = e ∷ es

-- a good text line goes before good ones, and the list number that is known stays one that lists have
record Good (known : Option ℕ) (l : List ℕ) (after : Option ℕ) (e : Option EntryShape) : Type 0 where
  lines : {ls : List (List ℕ)} {es : List EntryShape} {last : Option ℕ} → Lines after ls es last → Lines known (l ∷ ls) (before e es) last
  stays : Known known → Known after

-- the number of a line, and of a remark, is one that lists have
line_known : {n : ℕ} {ws : List (List ℕ)} {e : EntryShape} → LineText n ws e → Known (Some n)
line_known (numbered_line {f} a b c d) = (f, c)

remark_known : {n : ℕ} {ws : List (List ℕ)} → RemarkText n ws → Known (Some n)
remark_known (numbered_remark {f} a b c d) = (f, c)

-- each text line that says something is good
good : (known : Option ℕ) (l : List ℕ) (after : Option ℕ) (e : Option EntryShape) → line_says known l ≡ Ok (said after e) → Good known l after e
good known l after None h = go (says_nothing known after (length l) (words_at l 0) p.1) where
  p : (length l ≤ 256) × (says known (rest_of l) ≡ Ok (said after None))
  p = short known l (said after None) h

  go : (PassedText (map bytes_of (words_at l 0)) × (after ≡ known)) ⊎ SaidRemark known (map bytes_of (words_at l 0)) after → Good known l after None
  go (inl q) = record {
    lines = λ r. passed_line p.0 (words_every 0 l) q.0 (rw q.1 at r);
    stays = λ k. rw q.1 k;
  }
  go (inr q) = record {
    lines = λ r. remark_line p.0 (words_every 0 l) q.text q.follows (rw q.is at r);
    stays = λ k. rw q.is (remark_known q.text);
  }
good known l after (Some e) h =
    let p = short known l (said after (Some e)) h in
    let q = says_line known after e (length l) (words_at l 0) p.1 in
    record {
      lines = λ r. good_line p.0 (words_every 0 l) q.text q.follows (rw q.is at r);
      stays = λ k. rw q.is (line_known q.text);
    }

-- the scan after text line t, by the list number and the count
abbrev rest : ℕ → List (List ℕ) → Option ℕ → ℕ → Text
rest t ls n m = scan (t + 1) m n ls

-- line k + 1 before the rest, if there is a place for it
abbrev placed : ℕ → ℕ → EntryShape → Text → Bool → Text
placed t k e text x = cond x (added (numbered (k + 1) e) text) (refused (fault_at TooManyLines t 0))

-- what was scanned without a fault has the form
record Scanned (k : ℕ) (known : Option ℕ) (ls : List (List ℕ)) (t : Text) : Type 0 where
  entries : List EntryShape
  form : Lines known ls entries t.known
  shapes : t.lines ≡ numbered_from k entries
  few : k + length entries ≤ 1024

-- an entry that has a place
sound_entry : (t k : ℕ) (known : Option ℕ) (l : List ℕ) (ls : List (List ℕ)) (after : Option ℕ) (e : EntryShape) (text : Text) (x : Bool)
    → ltb k 1024 ≡ x → line_says known l ≡ Ok (said after (Some e)) → (k + 1 ≤ 1024 → text.fault ≡ None → Scanned (k + 1) after ls text)
    → (placed t k e text x).fault ≡ None → Scanned k known (l ∷ ls) (placed t k e text x)
sound_entry t k known l ls after e text true h g more n =
    let s = more (omega (arith, ltb-true k 1024 h)) n in
    record {
      entries = e ∷ s.entries;
      form = (good known l after (Some e) g).lines s.form;
      shapes = ap (λ ss. numbered (k + 1) e ∷ ss) s.shapes;
      few = omega (arith, s.few);
    }
sound_entry t k known l ls after e text false h g more n = absurd cc

-- one text line, by what it says
sound_line : (t k : ℕ) (known : Option ℕ) (l : List ℕ) (ls : List (List ℕ)) (x : Result Said Stop) → line_says known l ≡ x → k ≤ 1024
    → ((n : Option ℕ) (m : ℕ) → m ≤ 1024 → (rest t ls n m).fault ≡ None → Scanned m n ls (rest t ls n m))
    → (scan_by t k x (rest t ls)).fault ≡ None → Scanned k known (l ∷ ls) (scan_by t k x (rest t ls))
sound_line t k known l ls (Err s) h few more n = absurd cc
sound_line t k known l ls (Ok s) h few more n = go s.known s.entry h n where
  go : (after : Option ℕ) (e : Option EntryShape) → line_says known l ≡ Ok (said after e)
      → (scan_by t k (Ok (said after e)) (rest t ls)).fault ≡ None → Scanned k known (l ∷ ls) (scan_by t k (Ok (said after e)) (rest t ls))
  go after None h n =
      let s = more after k few n in
      record { entries = s.entries; form = (good known l after None h).lines s.form; shapes = s.shapes; few = s.few }
  go after (Some e) h n = sound_entry t k known l ls after e (rest t ls after (k + 1)) (ltb k 1024) refl h (more after (k + 1)) n

scan_sound : (t k : ℕ) (known : Option ℕ) (ls : List (List ℕ)) → k ≤ 1024 → (scan t k known ls).fault ≡ None → Scanned k known ls (scan t k known ls)
scan_sound t k known [] few n = record { entries = []; form = no_lines; shapes = refl; few = omega arith }
scan_sound t k known (l ∷ ls) few n = sound_line t k known l ls (line_says known l) refl few (λ o m. scan_sound (t + 1) m o ls) n

-- text lines of the form are scanned to their entries
scan_complete : (t k : ℕ) (known : Option ℕ) (ls : List (List ℕ)) (es : List EntryShape) (after : Option ℕ) → Lines known ls es after → k + length es ≤ 1024
    → scan t k known ls ≡ text_by after (numbered_from k es) None
scan_complete t k known ls es after no_lines few = refl
scan_complete t k known ls es after (passed_line {l} {ws} {ls = ms} small w p r) few =
    let e = spoken known l (said known None) small (passed_says known (length l) (words_at l 0) (subst PassedText (words_only 0 l ws w) p)) in
    ap (λ x. scan_by t k x (rest t ms)) e ∙ scan_complete (t + 1) k known ms es after r few
scan_complete t k known ls es after (remark_line {n} {l} {ws} {ls = ms} small w p f r) few =
    let e = spoken known l (said (Some n) None) small (remark_says known n (length l) (words_at l 0) (subst (RemarkText n) (words_only 0 l ws w) p) f) in
    ap (λ x. scan_by t k x (rest t ms)) e ∙ scan_complete (t + 1) k (Some n) ms es after r few
scan_complete t k known ls es after (good_line {n} {l} {ws} {ls = ms} {e = i} {es = is} small w p f r) few =
    let q = subst (λ x. LineText n x i) (words_only 0 l ws w) p in
    let e = spoken known l (said (Some n) (Some i)) small (line_says_lem known n i (length l) (words_at l 0) q f) in
    ap (λ x. scan_by t k x (rest t ms)) e
    ∙ ap (placed t k i (rest t ms (Some n) (k + 1))) (lt-ltb k 1024 (omega arith))
    ∙ ap (added (numbered (k + 1) i)) (scan_complete (t + 1) (k + 1) (Some n) ms is after r (omega arith))

-- text lines refused at a word
record Stopped (t : ℕ) (known : Option ℕ) (ls : List (List ℕ)) (f : Fault) : Type 0 where
  front : List (List ℕ)
  line : List ℕ
  back : List (List ℕ)
  entries : List EntryShape
  last : Option ℕ
  cut : ls ≡ front ++ (line ∷ back)
  place : f.line ≡ t + length front
  form : Lines known front entries last
  beginning : Beginning last line f.column

-- a good text line before them
stopped_later : (t : ℕ) (known : Option ℕ) (l : List ℕ) (ls : List (List ℕ)) (after : Option ℕ) (e : Option EntryShape) (f : Fault)
    → line_says known l ≡ Ok (said after e) → Stopped (t + 1) after ls f → Stopped t known (l ∷ ls) f
stopped_later t known l ls after e f h s = record {
  front = l ∷ s.front;
  line = s.line;
  back = s.back;
  entries = before e s.entries;
  last = s.last;
  cut = ap (λ x. l ∷ x) s.cut;
  place = omega (arith, s.place);
  form = (good known l after e h).lines s.form;
  beginning = s.beginning;
}

-- a text line refused at a word
stopped_here : (t : ℕ) (known : Option ℕ) (l : List ℕ) (ls : List (List ℕ)) (s : Stop) → Known known → line_says known l ≡ Err s → at_word s.refusal ≡ true
    → Stopped t known (l ∷ ls) (fault_in t s)
stopped_here t known l ls s k h w = go (ltb 256 (length l)) h where
  go : (x : Bool) → cond x (Err (stop TooLong 256)) (says known (rest_of l)) ≡ Err s → Stopped t known (l ∷ ls) (fault_in t s)
  go true e = let r : TooLong ≡ s.refusal = cc in absurd (false≢true (ap at_word r ∙ w))
  go false e =
      let b = says_began known (length l) (words_at l 0) s k e in
      record {
        front = [];
        line = l;
        back = ls;
        entries = [];
        last = known;
        cut = refl;
        place = omega arith;
        form = no_lines;
        beginning = record {
          before = b.before;
          after = b.after;
          words = b.split;
          column = b.column;
          more = b.more;
          number = b.number;
          entry = b.entry;
          follows = b.follows;
          good = b.good;
          worst = b.worst;
        };
      }

-- one text line, by what it says
stopped_line : (t k : ℕ) (known : Option ℕ) (l : List ℕ) (ls : List (List ℕ)) (f : Fault) (x : Result Said Stop) → line_says known l ≡ x
    → Known known → at_word f.refusal ≡ true → ((n : Option ℕ) (m : ℕ) → Known n → (rest t ls n m).fault ≡ Some f → Stopped (t + 1) n ls f)
    → (scan_by t k x (rest t ls)).fault ≡ Some f → Stopped t known (l ∷ ls) f
stopped_line t k known l ls f (Err s) h o w more e =
    let i : fault_in t s ≡ f = cc in
    rw (← i) (stopped_here t known l ls s o h (ap (λ g. at_word g.refusal) i ∙ w))
stopped_line t k known l ls f (Ok s) h o w more e = go s.known s.entry h e where
  go : (after : Option ℕ) (e : Option EntryShape) → line_says known l ≡ Ok (said after e) → (scan_by t k (Ok (said after e)) (rest t ls)).fault ≡ Some f
      → Stopped t known (l ∷ ls) f
  go after None h e = stopped_later t known l ls after None f h (more after k ((good known l after None h).stays o) e)
  go after (Some i) h e = pick (ltb k 1024) e where
    pick : (x : Bool) → (placed t k i (rest t ls after (k + 1)) x).fault ≡ Some f → Stopped t known (l ∷ ls) f
    pick true e = stopped_later t known l ls after (Some i) f h (more after (k + 1) ((good known l after (Some i) h).stays o) e)
    pick false e = let r : TooManyLines ≡ f.refusal = cc in absurd (false≢true (ap at_word r ∙ w))

scan_stopped : (t k : ℕ) (known : Option ℕ) (ls : List (List ℕ)) (f : Fault) → Known known → at_word f.refusal ≡ true → (scan t k known ls).fault ≡ Some f
    → Stopped t known ls f
scan_stopped t k known [] f o w e = absurd cc
scan_stopped t k known (l ∷ ls) f o w e = stopped_line t k known l ls f (line_says known l) refl o w (λ n m p. scan_stopped (t + 1) m n ls f p w) e

-- a text that is read keeps the limits and has no fault
record Read (bs : List ℕ) (room : ℕ) (r : Reading) : Type 0 where
  small : length bs ≤ 65536
  whole : (text_of bs).fault ≡ None
  is : r ≡ reading (number_or_none (text_of bs).known) (length (text_of bs).lines)
  fits : length (text_of bs).lines ≤ room

read_is : (bs : List ℕ) (room : ℕ) (r : Reading) → read_of bs room ≡ Ok r → Read bs room r
read_is bs room r = go (leb (length bs) 65536) (text_of bs).fault (leb (length (text_of bs).lines) room) refl refl refl where
  go : (x : Bool) (o : Option Fault) (y : Bool) → leb (length bs) 65536 ≡ x → (text_of bs).fault ≡ o → leb (length (text_of bs).lines) room ≡ y
      → cond x (room_for room (counted_by (text_of bs).known (length (text_of bs).lines) o)) (Err (fault_at TooLong 0 0)) ≡ Ok r → Read bs room r
  go false o y h f g e = absurd cc
  go true (Some i) y h f g e = absurd cc
  go true None false h f g e = absurd cc
  go true None true h f g e = record { small = leb-true (length bs) 65536 h; whole = f; is = cc; fits = leb-true (length (text_of bs).lines) room g }

-- a text that is refused at a word has that fault
fault_is : (bs : List ℕ) (room : ℕ) (f : Fault) → read_of bs room ≡ Err f → at_word f.refusal ≡ true → (text_of bs).fault ≡ Some f
fault_is bs room f e w = go (leb (length bs) 65536) (text_of bs).fault (leb (length (text_of bs).lines) room) refl e where
  go : (x : Bool) (o : Option Fault) (y : Bool) → leb (length (text_of bs).lines) room ≡ y
      → cond x (room_for room (counted_by (text_of bs).known (length (text_of bs).lines) o)) (Err (fault_at TooLong 0 0)) ≡ Err f → o ≡ Some f
  go false o y g e = let r : TooLong ≡ f.refusal = cc in absurd (false≢true (ap at_word r ∙ w))
  go true (Some i) y g e = cc
  go true None true g e = absurd cc
  go true None false g e = let r : ShortMemory ≡ f.refusal = cc in absurd (false≢true (ap at_word r ∙ w))

-- a text without a fault, within the limits, is read
read_from : (bs : List ℕ) (room : ℕ) (n : Option ℕ) (ss : List Shape) → length bs ≤ 65536 → text_of bs ≡ text_by n ss None → length ss ≤ room
    → read_of bs room ≡ Ok (reading (number_or_none n) (length ss))
read_from bs room n ss small e fits =
    ap (λ x. cond x (room_for room (counted (text_of bs))) (Err (fault_at TooLong 0 0))) (le-leb (length bs) 65536 small)
    ∙ ap (λ t. room_for room (counted t)) e
    ∙ ap (λ x. cond x (Ok (reading (number_or_none n) (length ss))) (Err (fault_at ShortMemory 0 0))) (le-leb (length ss) room fits)

pub reading_stands : ReadingStands
reading_stands = record { sound = sound; complete = complete; beginning = beginning } where
  sound : (bs : List ℕ) (room : ℕ) (r : Reading) → read_of bs room ≡ Ok r
      → ListText bs r.number (text_of bs).lines × (r.count ≡ length (text_of bs).lines) × (r.count ≤ room)
  sound bs room r e =
      let p = read_is bs room r e in
      let s = scan_sound 1 0 None (text_lines bs) (omega arith) p.whole in
      let text : ListText bs r.number (text_of bs).lines = record {
        lines = text_lines bs;
        entries = s.entries;
        known = (text_of bs).known;
        cut = text_every bs;
        small = p.small;
        form = s.form;
        few = omega (arith, s.few);
        number = ap (λ x. x.number) p.is;
        shapes = s.shapes;
      } in
      (text, ap (λ x. x.count) p.is, omega (arith, ap (λ x. x.count) p.is, p.fits))

  complete : (bs : List ℕ) (n : ℕ) (ss : List Shape) (room : ℕ) → ListText bs n ss → length ss ≤ room
      → (read_of bs room ≡ Ok (reading n (length ss))) × ((text_of bs).lines ≡ ss)
  complete bs n ss room l fits =
      let form = subst (λ x. Lines None x l.entries l.known) (text_only bs l.lines l.cut) l.form in
      let is : text_of bs ≡ text_by l.known ss None =
      scan_complete 1 0 None (text_lines bs) l.entries l.known form (omega (arith, l.few)) ∙ ap (λ x. text_by l.known x None) (sym l.shapes) in
      (read_from bs room l.known ss l.small is fits ∙ ap (λ x. Ok (reading x (length ss))) (sym l.number), ap (λ t. t.lines) is)

  beginning : (bs : List ℕ) (room : ℕ) (f : Fault) → read_of bs room ≡ Err f → at_word f.refusal ≡ true → RefusedAt bs f
  beginning bs room f e w =
      let s = scan_stopped 1 0 None (text_lines bs) f tt w (fault_is bs room f e w) in
      record {
        front = s.front;
        line = s.line;
        back = s.back;
        entries = s.entries;
        known = s.last;
        cut = subst (TextText bs) s.cut (text_every bs);
        place = omega (arith, s.place);
        good = s.form;
        beginning = s.beginning;
      }
