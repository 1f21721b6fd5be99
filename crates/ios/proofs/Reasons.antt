-- Memory for 1,024 lines is never too short for a text: reading with it has other reasons to refuse. Assumes nothing.
use Rattle.std.proofs.Common.{◌≡◌, ℕ, ◌+◌, ◌≤◌, Bool, true, false, cond, eqb, ltb, leb, List, [], ◌∷◌, length, Some, None, Ok, Err, codes, Option, Result, sym, refl, ap, ◌∙◌, arith}
use Rattle.std.proofs.lemmas.Bool.{ltb-true, le-leb, false≢true}
use Rattle.acl.specs.declared.refusal.Refusal.{Refusal}
use Rattle.acl.specs.declared.refusal.Refusal.TheVariants.{TooManyLines, TooLong}
use Rattle.acl.specs.declared.terms.Action.{Action}
use Rattle.acl.specs.declared.terms.Protocol.{Protocol}
use Rattle.acl.specs.declared.terms.PortTest.{PortTest}
use Rattle.acl.specs.declared.terms.PortTest.TheVariants.{Eq, Neq, Lt, Gt}
use Rattle.acl.specs.Refusals.{refusal_number}
use Rattle.acl.specs.Shapes.{Shape}
use Rattle.acl.specs.Terms.{takes_ports}
use Rattle.words.specs.declared.part.Stop.{Stop}
use Rattle.words.specs.Keywords.{named, comment}
use Rattle.words.specs.Lines.{text_lines}
use Rattle.words.specs.Words.{Spanned, words_at}
use Rattle.words.specs.Cursor.{Rest, rest_of, passed, Step, onward, expect_by, expect_of, valued, address_of, number_of}
use Rattle.ios.specs.declared.family.Family.{Family}
use Rattle.ios.specs.declared.family.Family.TheVariants.{Standard, Extended}
use Rattle.ios.specs.declared.family.ListNumber.{ListNumber}
use Rattle.ios.specs.declared.family.Network.{Network}
use Rattle.ios.specs.declared.outcome.Fault.{Fault}
use Rattle.ios.specs.Entries.{EntryShape, everywhere, numbered}
use Rattle.ios.specs.Parsing.{next_is, agreed, list_number_of, action_of, protocol_of, host_of, wildcard_of, network_of, closed_by, source_of, port_of, range_of, test_of}
use Rattle.ios.specs.Parsing.{ports_of, log_of, closed, close_of, form_of, entry_of, Said, line_said, body_says, says_by, line_says}
use Rattle.ios.specs.Reading.{fault_at, Text, refused, added, taken, scan_entry, scan_by, scan, text_of, counted_by, room_for, read_of}

-- a refusal by another reason than short memory, whose number is 9
abbrev Other : Refusal → Type 0
Other why = eqb (refusal_number why) 9 ≡ false

-- a result that is no stop, or a stop by another reason
data Spares {A : Type 0} : Result A Stop → Type 0 where
  goes : {a : A} → Spares (Ok a)
  stops : {s : Stop} → Other s.refusal → Spares (Err s)

-- one step after another
spares_onward : {A B : Type 0} {s : Step A} {f : A → Rest → Step B} → Spares s → ((a : A) (r : Rest) → Spares (f a r)) → Spares (onward s f)
spares_onward goes h = h _ _
spares_onward (stops o) h = stops o

spares_cond : {A : Type 0} {s t : Result A Stop} (b : Bool) → Spares s → Spares t → Spares (cond b s t)
spares_cond true p q = p
spares_cond false p q = q

spares_valued : {A : Type 0} (o : Option A) (why : Refusal) (c : ℕ) (r : Rest) → Other why → Spares (valued o why c r)
spares_valued None why c r h = stops h
spares_valued (Some a) why c r h = goes

spares_expect : (r : Rest) → Spares (expect_of r)
spares_expect r = go r.words where
  go : (ws : List Spanned) → Spares (expect_by r.size ws)
  go [] = stops refl
  go (w ∷ ws) = goes

-- a step that reads one word
spares_word : {A : Type 0} (g : List ℕ → Option A) (why : Refusal) (r : Rest) → Other why
    → Spares (onward (expect_of r) (λ w more. valued (g w.bytes) why w.column more))
spares_word g why r h = spares_onward (spares_expect r) (λ w more. spares_valued (g w.bytes) why w.column more h)

-- the words of a line, and its parts
spares_number : (low high : ℕ) (r : Rest) → Spares (number_of low high r)
spares_number low high r = spares_word _ _ r refl

spares_address : (r : Rest) → Spares (address_of r)
spares_address r = spares_word _ _ r refl

spares_agreed : (known : Option ℕ) (c : ℕ) (l : ListNumber) (r : Rest) → Spares (agreed known c l r)
spares_agreed None c l r = goes
spares_agreed (Some n) c l r = spares_cond _ goes (stops refl)

spares_list_number : (known : Option ℕ) (r : Rest) → Spares (list_number_of known r)
spares_list_number known r =
    spares_onward (spares_number 1 2699 r) (λ n more. spares_onward (spares_valued _ _ _ more refl) (λ f more. spares_agreed known _ _ more))

spares_action : (r : Rest) → Spares (action_of r)
spares_action r = spares_word _ _ r refl

spares_protocol : (r : Rest) → Spares (protocol_of r)
spares_protocol r = spares_cond _ (spares_onward (spares_number 0 255 r) (λ n more. goes)) (spares_word _ _ r refl)

spares_host : (r : Rest) → Spares (host_of r)
spares_host r = spares_onward (spares_address r) (λ a more. goes)

spares_wildcard : (a : ℕ) (r : Rest) → Spares (wildcard_of a r)
spares_wildcard a r = spares_onward (spares_address r) (λ w more. goes)

-- `any`, `host A`, or A and then what is asked after it
spares_side : {tail : ℕ → Rest → Step Network} (r : Rest) → ((a : ℕ) (more : Rest) → Spares (tail a more))
    → Spares (cond (next_is r (codes "any")) (Ok (everywhere, passed r)) (cond (next_is r (codes "host")) (host_of (passed r)) (onward (address_of r) tail)))
spares_side r h =
    spares_cond (next_is r (codes "any")) goes (spares_cond (next_is r (codes "host")) (spares_host (passed r)) (spares_onward (spares_address r) h))

spares_network : (r : Rest) → Spares (network_of r)
spares_network r = spares_side r spares_wildcard

spares_source : (r : Rest) → Spares (source_of r)
spares_source r = spares_side r (λ a more. spares_cond (closed_by more.words) goes (spares_wildcard a more))

spares_port : (r : Rest) → Spares (port_of r)
spares_port r = spares_number 0 65535 r

-- a keyword and a port after it, or else another test
spares_one : {s : Step PortTest} (k : List ℕ) (f : ℕ → PortTest) (r : Rest) → Spares s
    → Spares (cond (next_is r k) (onward (port_of (passed r)) (λ n more. Ok (f n, more))) s)
spares_one k f r h = spares_cond (next_is r k) (spares_onward (spares_port (passed r)) (λ n more. goes)) h

spares_range : (r : Rest) → Spares (range_of r)
spares_range r = spares_onward (spares_port r) (λ a more. spares_onward (spares_port more) (λ b after. spares_cond (leb a b) goes (stops refl)))

spares_test : (r : Rest) → Spares (test_of r)
spares_test r =
    spares_one (codes "eq") Eq r (spares_one (codes "neq") Neq r (spares_one (codes "lt") Lt r (spares_one (codes "gt") Gt r
    (spares_cond (next_is r (codes "range")) (spares_range (passed r)) goes))))

spares_ports : (p : Protocol) (r : Rest) → Spares (ports_of p r)
spares_ports p r = spares_cond (takes_ports p) (spares_test r) goes

spares_log : (r : Rest) → Spares (log_of r)
spares_log r = spares_cond (next_is r (codes "log")) goes goes

spares_close : (e : EntryShape) (r : Rest) → Spares (close_of e r)
spares_close e r = go r.words where
  go : (ws : List Spanned) → Spares (closed e r ws)
  go [] = goes
  go (w ∷ ws) = stops refl

spares_form : (f : Family) (a : Action) (r : Rest) → Spares (form_of f a r)
spares_form Standard a r = spares_onward (spares_source r) (λ n more. spares_onward (spares_log more) (λ g more. spares_close _ more))
spares_form Extended a r =
    spares_onward (spares_protocol r) (λ p more.
    spares_onward (spares_network more) (λ s more.
    spares_onward (spares_ports p more) (λ st more.
    spares_onward (spares_network more) (λ d more.
    spares_onward (spares_ports p more) (λ dt more.
    spares_onward (spares_log more) (λ g more.
    spares_close _ more))))))

spares_entry : (f : Family) (r : Rest) → Spares (entry_of f r)
spares_entry f r = spares_onward (spares_action r) (spares_form f)

spares_said : {s : Step EntryShape} (n : ℕ) → Spares s → Spares (line_said n s)
spares_said n goes = goes
spares_said n (stops o) = stops o

spares_body : {s : Step ListNumber} → Spares s → Spares (body_says s)
spares_body (stops o) = stops o
spares_body (goes {a}) = spares_cond (next_is a.1 (codes "remark")) goes (spares_said a.0.number (spares_entry a.0.family a.1))

spares_says : (known : Option ℕ) (r : Rest) (ws : List Spanned) → Spares (says_by known r ws)
spares_says known r [] = goes
spares_says known r (w ∷ ws) =
    spares_cond (comment w.bytes) goes
    (spares_cond (named w.bytes (codes "access-list")) (spares_body (spares_list_number known (passed r))) (stops refl))

-- a text line has other reasons
spares_line : (known : Option ℕ) (l : List ℕ) → Spares (line_says known l)
spares_line known l = spares_cond (ltb 256 (length l)) (stops refl) (spares_says known (rest_of l) (words_at l 0))

-- after k lines more lines, at most 1,024 in all, or a fault by another reason
abbrev EndsBy : ℕ → List Shape → Option Fault → Type 0
EndsBy k ss None = k + length ss ≤ 1024
EndsBy k ss (Some f) = Other f.refusal

abbrev Ends : ℕ → Text → Type 0
Ends k t = EndsBy k t.lines t.fault

-- one line more
added_ends : (k : ℕ) (s : Shape) (ss : List Shape) (o : Option Fault) → EndsBy (k + 1) ss o → EndsBy k (s ∷ ss) o
added_ends k s ss None h = omega arith
added_ends k s ss (Some f) h = h

-- an entry, for which there is a place or not
taken_ends : (t k : ℕ) (e : EntryShape) (text : Text) → (k + 1 ≤ 1024 → Ends (k + 1) text) → Ends k (taken t k e text)
taken_ends t k e text more = go (ltb k 1024) refl where
  go : (x : Bool) → ltb k 1024 ≡ x → Ends k (cond x (added (numbered (k + 1) e) text) (refused (fault_at TooManyLines t 0)))
  go true h = added_ends k (numbered (k + 1) e) text.lines text.fault (more (omega (arith, ltb-true k 1024 h)))
  go false h = refl

-- one text line, by what it says
line_ends_lem : {x : Result Said Stop} (t k : ℕ) (rest : Option ℕ → ℕ → Text) → k ≤ 1024 → Spares x
    → ((n : Option ℕ) (m : ℕ) → m ≤ 1024 → Ends m (rest n m)) → Ends k (scan_by t k x rest)
line_ends_lem t k rest few (stops o) more = o
line_ends_lem t k rest few (goes {a}) more = go a.entry where
  go : (e : Option EntryShape) → Ends k (scan_entry t k e (rest a.known))
  go None = more a.known k few
  go (Some e) = taken_ends t k e (rest a.known (k + 1)) (more a.known (k + 1))

scan_ends : (t k : ℕ) (known : Option ℕ) (ls : List (List ℕ)) → k ≤ 1024 → Ends k (scan t k known ls)
scan_ends t k known [] few = omega arith
scan_ends t k known (l ∷ ls) few = line_ends_lem t k (λ n m. scan (t + 1) m n ls) few (spares_line known l) (λ n m. scan_ends (t + 1) m n ls)

-- reading with memory for 1,024 lines never refuses by short memory
pub other_reasons : (bs : List ℕ) (f : Fault) → read_of bs 1024 ≡ Err f → refusal_number f.refusal ≡ 9 → ⊥
other_reasons bs f e nine = false≢true (sym why ∙ ap (λ n. eqb n 9) nine) where
  go : (x : Bool) (n : Option ℕ) (ss : List Shape) (o : Option Fault) → EndsBy 0 ss o
      → cond x (room_for 1024 (counted_by n (length ss) o)) (Err (fault_at TooLong 0 0)) ≡ Err f → Other f.refusal
  go false n ss o h e = let i : fault_at TooLong 0 0 ≡ f = cc in rw (← i)
  go true n ss (Some i) h e = let j : i ≡ f = cc in rw (← j) h
  go true n ss None h e = let never = rw (le-leb (length ss) 1024 (omega arith)) at e in absurd cc

  why : Other f.refusal
  why = go (leb (length bs) 65536) (text_of bs).known (text_of bs).lines (text_of bs).fault (scan_ends 1 0 None (text_lines bs) (omega arith)) e
