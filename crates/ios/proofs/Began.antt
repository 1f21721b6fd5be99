-- Where a step of reading stops, the words before begin something good, and with the next word nothing. Assumes nothing.
use Rattle.std.proofs.Common.{◌≡◌, ℕ, ◌≤◌, Bool, true, false, cond, eqb, leb, List, [], ◌∷◌, ◌++◌, map, Some, None, Ok, Err, codes, decimal, Option, Result, sym, refl, ap, ◌∙◌, append-nil, arith}
use Rattle.std.proofs.lemmas.Bool.{cond-true, cond-false}
use Rattle.std.proofs.lemmas.List.{map-append}
use Rattle.std.proofs.lemmas.Bool.Decides.{nat_tests}
use Rattle.acl.specs.declared.refusal.Refusal.{Refusal}
use Rattle.acl.specs.declared.refusal.Refusal.TheVariants.{BadWord, BadAddress, BadNumber, BackwardRange, OtherList}
use Rattle.acl.specs.declared.terms.Action.{Action}
use Rattle.acl.specs.declared.terms.Action.TheVariants.{Permit}
use Rattle.acl.specs.declared.terms.Protocol.{Protocol}
use Rattle.acl.specs.declared.terms.Protocol.TheVariants.{Any as AnyProtocol, Number}
use Rattle.acl.specs.declared.terms.PortTest.{PortTest}
use Rattle.acl.specs.declared.terms.PortTest.TheVariants.{Any as AnyPort, Eq, Neq, Lt, Gt, Range}
use Rattle.acl.specs.Terms.{takes_ports, ports_allowed, port_case}
use Rattle.words.specs.declared.part.Stop.{Stop}
use Rattle.words.specs.Numbers.{number_in, address_in}
use Rattle.words.specs.Words.{Spanned, spanned, bytes_of}
use Rattle.words.specs.Meaning.{AddressText}
use Rattle.words.specs.Cursor.{Rest, rest_by, passed, place_by, place, stop, Step, onward, expect_of, valued, address_of}
use Rattle.ios.specs.declared.family.Family.{Family}
use Rattle.ios.specs.declared.family.Family.TheVariants.{Standard, Extended}
use Rattle.ios.specs.declared.family.ListNumber.{ListNumber}
use Rattle.ios.specs.declared.family.Network.{Network}
use Rattle.ios.specs.Entries.{EntryShape, network, everywhere, standard_entry, extended_entry}
use Rattle.words.specs.Keywords.{comment}
use Rattle.ios.specs.Parsing.{next_by, digit_by, family_of, list_number, agreed, list_number_of, action_named, action_of, protocol_named, protocol_of, host_of}
use Rattle.ios.specs.Parsing.{wildcard_of, network_of, closed_by, source_of, port_of, forward_range, range_of, test_of, ports_of, log_of, close_of}
use Rattle.ios.specs.Parsing.{standard_of, extended_of, entry_of, line_said, body_says, says}
use Rattle.ios.specs.Grammar.{ActionText, ProtocolText, NetworkText, SourceText, PortText, PortsText, LogText, EntryText, LineText, Follows}
use Rattle.ios.specs.Grammar.LineText.{numbered_line}
use Rattle.ios.specs.Stands.{up_to}
use Rattle.ios.proofs.Forms.{One, NumberText, headed}
use Rattle.ios.proofs.Steps.{either, then_on, digit_looks, closed_looks, next_looks}
use Rattle.ios.proofs.Sound.{AllowedText, ListNumberText, number_sound, address_sound, action_sound, protocol_sound, network_sound, source_sound, ports_sound}
use Rattle.ios.proofs.Sound.{log_sound, list_number_sound}
use Rattle.ios.proofs.Complete.{cons_case, entry_takes}
use Rattle.ios.proofs.Saying.{list_number_takes}
use Rattle.ios.proofs.Known.{Known}
use Rattle.ios.proofs.Chains.{Good, Then, both, End, end, good_then, never, Begins, gives, AtFirst, first_begins, widened, by_test, made, chain, keyed}

-- an example of a form of one word
pub one : {A : Type 0} {R : List ℕ → A → Type 0} (w : List ℕ) (a : A) → R w a → Good (One R)
one w a t = record { words = w ∷ []; value = a; text = record { word = w; only = refl; text = t } }

-- the column of a stop
pub stop_column : {A : Type 0} (why : Refusal) (c : ℕ) (t : Stop) → ◌≡◌ {A = Result A Stop} (Err (stop why c)) (Err t) → t.column ≡ c
stop_column why c t e = let k : stop why c ≡ t = cc in ap (λ s. s.column) (sym k)

-- a step that stops at column c, if it does, whatever is left
abbrev Settled : {D : Type 0} → ℕ → (Rest → Step D) → Type 0
Settled {D} c f = (r : Rest) (t : Stop) → f r ≡ Err t → (t.column ≡ c) × ((q : Rest) (p : D × Rest) → f q ≡ Ok p → ⊥)

stop_settled : {D : Type 0} (why : Refusal) (c : ℕ) → Settled {D = D} c (λ _. Err (stop why c))
stop_settled why c r t e = (stop_column why c t e, λ q p x. never p _ (sym x))

test_settled : {D : Type 0} (b : Bool) (why : Refusal) (c : ℕ) (d : D) → Settled c (λ r. cond b (Ok (d, r)) (Err (stop why c)))
test_settled true why c d r t e = never _ t e
test_settled false why c d r t e = stop_settled why c r t e

valued_settled : {A : Type 0} (o : Option A) (why : Refusal) (c : ℕ) → Settled c (valued o why c)
valued_settled None why c r t e = stop_settled why c r t e
valued_settled (Some a) why c r t e = never _ t e

onward_settled : {A D : Type 0} (o : Option A) (why : Refusal) (c : ℕ) (f : A → Rest → Step D) → ((a : A) → Settled c (f a))
    → Settled c (λ r. onward (valued o why c r) f)
onward_settled None why c f h = stop_settled why c
onward_settled (Some a) why c f h = h a

agreed_settled : (known : Option ℕ) (c : ℕ) (l : ListNumber) → Settled c (agreed known c l)
agreed_settled None c l r t e = never _ t e
agreed_settled (Some n) c l r t e = test_settled (eqb n l.number) OtherList c l r t e

-- a step that reads one word stops at it, or where it is missing
pub word_first : {A : Type 0} (g : List ℕ → Option A) (why : Refusal)
    → AtFirst (λ r. onward (expect_of r) (λ w more. valued (g w.bytes) why w.column more))
word_first g why z [] t e = (stop_column BadWord z t e, λ more p x. never p _ (sym x))
word_first g why z (w ∷ ws) t e =
    let p = valued_settled (g w.bytes) why w.column (rest_by z ws) t e in
    (p.0, λ more. p.1 (rest_by z more))

-- ... and so where more is asked of that word
word_then : {A D : Type 0} (g : List ℕ → Option A) (why : Refusal) (f : ℕ → A → Rest → Step D) → ((c : ℕ) (a : A) → Settled c (f c a))
    → AtFirst (λ r. onward (onward (expect_of r) (λ w more. valued (g w.bytes) why w.column more)) (f (place r)))
word_then g why f settled z [] t e = (stop_column BadWord z t e, λ more p x. never p _ (sym x))
word_then g why f settled z (w ∷ ws) t e =
    let p = onward_settled (g w.bytes) why w.column (f w.column) (settled w.column) (rest_by z ws) t e in
    (p.0, λ more. p.1 (rest_by z more))

-- the least number of a range
pub least : (low high : ℕ) → low ≤ high → NumberText low high (decimal low) low
least low high h = record { bytes = refl; least = omega arith; most = h }

-- 0.0.0.0
pub good_address : Good (One AddressText)
good_address =
    one (decimal 0 ++ (46 ∷ (decimal 0 ++ (46 ∷ (decimal 0 ++ (46 ∷ decimal 0)))))) 0
    (record { a = 0; b = 0; c = 0; d = 0; small = (omega arith, omega arith, omega arith, omega arith); bytes = refl; value = refl })

pub address_begins : Begins address_of (One AddressText)
address_begins = first_begins good_address (word_first address_in BadAddress)

good_action : Good (One ActionText)
good_action = one (codes "permit") Permit (ActionText.permit refl)

action_begins : Begins action_of (One ActionText)
action_begins = first_begins good_action (word_first action_named BadWord)

good_protocol : Good (One ProtocolText)
good_protocol = one (codes "ip") AnyProtocol (ProtocolText.ip refl)

protocol_begins : Begins protocol_of (One ProtocolText)
protocol_begins =
    by_test digit_by digit_looks
    (λ z ws t _. made Number (first_begins good_protocol (word_first (number_in 0 255) BadNumber)) z ws t)
    (first_begins good_protocol (word_first protocol_named BadWord))

good_network : Good NetworkText
good_network = record { words = codes "any" ∷ []; value = everywhere; text = NetworkText.any refl }

host_text : (us : List (List ℕ)) (a : ℕ) → One AddressText us a → (n : Network) × NetworkText (codes "host" ∷ us) n
host_text us a t = (network a 0, rw t.only (NetworkText.host refl t.text))

pair_text : (us : List (List ℕ)) (m : ℕ) → Then (One AddressText) (λ _. One AddressText) us m → (n : Network) × NetworkText us n
pair_text us m (both {a} s t) = (network a m, rw (s.only, t.only) (NetworkText.pair s.text t.text))

-- `any`, `host A`, or A and then a wildcard
side_begins : {tail : ℕ → Rest → Step Network} → ((a : ℕ) → Begins (tail a) (One AddressText))
    → Begins (λ r. cond (next_by r.words (codes "any")) (Ok (everywhere, passed r))
    (cond (next_by r.words (codes "host")) (host_of (passed r)) (onward (address_of r) tail))) NetworkText
side_begins tail =
    by_test (λ ws. next_by ws (codes "any")) (next_looks (codes "any")) (λ z ws t _. gives (λ r. (everywhere, passed r)) z ws t)
    (keyed (codes "host") (made (λ a. network a 0) address_begins) host_text
    (widened pair_text (chain address_begins address_sound (λ _ _ _. good_address) (λ _ a _. tail a))))

wildcard_begins : (a : ℕ) → Begins (wildcard_of a) (One AddressText)
wildcard_begins a = made (network a) address_begins

network_begins : Begins network_of NetworkText
network_begins = side_begins wildcard_begins

source_begins : Begins source_of SourceText
source_begins =
    widened (λ us n t. (n, SourceText.side t))
    (side_begins (λ a. by_test closed_by closed_looks (λ z ws t _. gives (λ r. (network a 0, r)) z ws t) (wildcard_begins a)))

-- a port, not below the given one
abbrev PortFrom : ℕ → List (List ℕ) → ℕ → Type 0
PortFrom a = One (NumberText a 65535)

port_text : {w : List ℕ} {a n : ℕ} → NumberText a 65535 w n → PortText w n
port_text t = record { bytes = t.bytes; small = t.most }

port_begins : Begins port_of (PortFrom 0)
port_begins = first_begins (one _ 0 (least 0 65535 (omega arith))) (word_first (number_in 0 65535) BadNumber)

-- a keyword and a port, or another step
port_keyed : {g : Rest → Step PortTest} (k : List ℕ) (make : ℕ → PortTest)
    → ((v : List ℕ) (n : ℕ) → PortText v n → PortsText (k ∷ (v ∷ [])) (make n)) → Begins g PortsText
    → Begins (λ r. cond (next_by r.words k) (onward (port_of (passed r)) (λ n more. Ok (make n, more))) (g r)) PortsText
port_keyed k make text other =
    keyed {f = λ r. onward (port_of r) (λ n more. Ok (make n, more))} k (made make port_begins)
    (λ us n t. (make n, rw t.only (text _ n (port_text t.text)))) other

range_text : (us : List (List ℕ)) (b : ℕ) → Then (PortFrom 0) PortFrom us b → (t : PortTest) × PortsText (codes "range" ∷ us) t
range_text us b (both {a} s t) =
    (Range a b, rw (s.only, t.only) (PortsText.range refl (port_text s.text) (port_text t.text) t.text.least))

-- the second port of a range: no port, or one below the first
upper_first : (a : ℕ) → AtFirst (λ more. onward (port_of more) (λ b after. forward_range a b (place more) after))
upper_first a =
    word_then (number_in 0 65535) BadNumber (λ c b. forward_range a b c) (λ c b. test_settled (leb a b) BackwardRange c (Range a b))

-- the two ports of a range
range_begins : Begins range_of (Then (PortFrom 0) PortFrom)
range_begins =
    chain port_begins (number_sound 0 65535 (omega arith)) (λ _ a t. again a t.text) (λ _ a t. first_begins (again a t.text) (upper_first a))
  where
    again : {w : List ℕ} (a : ℕ) → NumberText 0 65535 w a → Good (PortFrom a)
    again a t = one _ a (least a 65535 t.most)

-- one of the tests, or none, which never stops
test_begins : Begins test_of PortsText
test_begins =
    port_keyed (codes "eq") Eq (λ _ _ t. PortsText.eq refl t)
    (port_keyed (codes "neq") Neq (λ _ _ t. PortsText.neq refl t)
    (port_keyed (codes "lt") Lt (λ _ _ t. PortsText.lt refl t)
    (port_keyed (codes "gt") Gt (λ _ _ t. PortsText.gt refl t)
    (keyed (codes "range") range_begins range_text (gives (λ r. (AnyPort, r)))))))

-- beside a protocol that has ports any test is allowed
all_allowed : (p : Protocol) (t : PortTest) → takes_ports p ≡ true → ports_allowed p t ≡ true
all_allowed p t h = or_true (eqb (port_case t).number 0) (takes_ports p) h
  where
    or_true : (x y : Bool) → y ≡ true → cond x true y ≡ true
    or_true true y h = refl
    or_true false y h = h

good_ports : (p : Protocol) → Good (AllowedText p)
good_ports p = record { words = []; value = AnyPort; text = record { test = PortsText.no_test; allowed = refl } }

ports_begins : (p : Protocol) → Begins (ports_of p) (AllowedText p)
ports_begins p =
    by_test (λ _. takes_ports p) (λ _ _. refl)
    (λ z ws s h. widened (λ us t u. (t, record { test = u; allowed = all_allowed p t h })) test_begins z ws s)
    (gives (λ r. (AnyPort, r)))

-- lists have numbers from 1 to 2699
family_bounds : (n : ℕ) (f : Family) → family_of n ≡ Some f → (1 ≤ n) × (n ≤ 2699)
family_bounds n f e = grind (arith, nat_tests)

-- a list number that may stand where `known` does
good_list_number : (known : Option ℕ) → Known known → Good (One (ListNumberText known))
good_list_number None k =
    one (decimal 1) (list_number 1 Standard) (record { number = least 1 2699 (omega arith); family = refl; follows = tt })
good_list_number (Some n) k =
    let b = family_bounds n k.0 k.1 in
    one (decimal n) (list_number n k.0) (record { number = record { bytes = refl; least = b.0; most = b.1 }; family = k.1; follows = refl })

list_number_first : (known : Option ℕ) → AtFirst (list_number_of known)
list_number_first known =
    word_then (number_in 1 2699) BadNumber
    (λ c n more. onward (valued (family_of n) BadNumber c more) (λ f more. agreed known c (list_number n f) more))
    (λ c n. onward_settled (family_of n) BadNumber c _ (λ f. agreed_settled known c (list_number n f)))

good_log : Good LogText
good_log = record { words = []; value = false; text = LogText.no_log }

-- `log` or its absence never stops
log_begins : Begins log_of LogText
log_begins =
    by_test (λ ws. next_by ws (codes "log")) (next_looks (codes "log")) (λ z ws t _. gives (λ r. (true, passed r)) z ws t) (gives (λ r. (false, r)))

pub good_end : {A : Type 0} (a : A) → Good (End a)
good_end a = record { words = []; value = a; text = end }

-- a word that is left over stands after a whole line
close_first : (a : EntryShape) → AtFirst (close_of a)
close_first a z [] t e = never _ t e
close_first a z (w ∷ ws) t e = (stop_column BadWord w.column t e, λ more p x. never p _ (sym x))

-- `log` or nothing, and the end
abbrev LogForm : (Bool → EntryShape) → List (List ℕ) → EntryShape → Type 0
LogForm make = Then LogText (λ g. End (make g))

good_tail : (make : Bool → EntryShape) → Good (LogForm make)
good_tail make = good_then good_log (λ g. good_end (make g))

tail_begins : (make : Bool → EntryShape) → Begins (λ r. onward (log_of r) (λ g. close_of (make g))) (LogForm make)
tail_begins make = chain log_begins log_sound (λ _ g _. good_end (make g)) (λ _ g _. first_begins (good_end (make g)) (close_first (make g)))

-- the words of a standard line after its action
abbrev StandardForm : Action → List (List ℕ) → EntryShape → Type 0
StandardForm a = Then SourceText (λ n. LogForm (standard_entry a n))

good_standard : (a : Action) → Good (StandardForm a)
good_standard a = good_then (record { words = _; value = _; text = SourceText.side good_network.text }) (λ n. good_tail (standard_entry a n))

standard_begins : (a : Action) → Begins (standard_of a) (StandardForm a)
standard_begins a = chain source_begins source_sound (λ _ n _. good_tail (standard_entry a n)) (λ _ n _. tail_begins (standard_entry a n))

-- a network and its port test, and then words of the form S
abbrev SideForm : Protocol → (Network → PortTest → List (List ℕ) → EntryShape → Type 0) → List (List ℕ) → EntryShape → Type 0
SideForm p S = Then NetworkText (λ n. Then (AllowedText p) (S n))

good_side : (p : Protocol) (S : Network → PortTest → List (List ℕ) → EntryShape → Type 0) → ((n : Network) (t : PortTest) → Good (S n t)) → Good (SideForm p S)
good_side p S g = good_then good_network (λ n. good_then (good_ports p) (g n))

-- ... and how they begin
sides_begin : (p : Protocol) (S : Network → PortTest → List (List ℕ) → EntryShape → Type 0) (f : Network → PortTest → Rest → Step EntryShape)
    → ((n : Network) (t : PortTest) → Good (S n t)) → ((n : Network) (t : PortTest) → Begins (f n t) (S n t))
    → Begins (λ r. onward (network_of r) (λ n more. onward (ports_of p more) (f n))) (SideForm p S)
sides_begin p S f g later =
    chain network_begins network_sound (λ _ n _. good_then (good_ports p) (g n))
    (λ _ n _. chain (ports_begins p) (ports_sound p) (λ _ t _. g n t) (λ _ t _. later n t))

-- the words of an extended line after its protocol
abbrev SidesForm : Action → Protocol → List (List ℕ) → EntryShape → Type 0
SidesForm a p = SideForm p (λ s t. SideForm p (λ d u. LogForm (extended_entry a p s t d u)))

good_sides : (a : Action) (p : Protocol) → Good (SidesForm a p)
good_sides a p = good_side p _ (λ s t. good_side p _ (λ d u. good_tail (extended_entry a p s t d u)))

extended_begins : (a : Action) → Begins (extended_of a) (Then (One ProtocolText) (SidesForm a))
extended_begins a =
    chain protocol_begins protocol_sound (λ _ p _. good_sides a p)
    (λ _ p _. sides_begin p _ _ (λ n t. good_side p _ (λ d u. good_tail (extended_entry a p n t d u)))
    (λ n t. sides_begin p _ _ (λ d u. good_tail (extended_entry a p n t d u)) (λ d u. tail_begins (extended_entry a p n t d u))))

-- the steps of an entry one after another have the form of the grammar
standard_text : (us : List (List ℕ)) (e : EntryShape) → Then (One ActionText) StandardForm us e → (o : EntryShape) × EntryText Standard us o
standard_text us e (both a (both s (both g end))) = (e, rw (a.only, append-nil) (EntryText.standard a.text s g))

extended_text : (us : List (List ℕ)) (e : EntryShape) → Then (One ActionText) (λ a. Then (One ProtocolText) (SidesForm a)) us e
    → (o : EntryShape) × EntryText Extended us o
extended_text us e (both a (both p (both s (both t (both d (both u (both g end))))))) = (
  e,
  rw (a.only, p.only, append-nil)
      (EntryText.extended a.text p.text s t.test t.allowed d u.test u.allowed g),
)

entry_begins : (f : Family) → Begins (entry_of f) (EntryText f)
entry_begins Standard =
    widened standard_text (chain action_begins action_sound (λ _ a _. good_standard a) (λ _ a _. standard_begins a))
entry_begins Extended =
    widened extended_text (chain action_begins action_sound (λ _ a _. good_then good_protocol (good_sides a)) (λ _ a _. extended_begins a))

-- `permit any` and `permit ip any any`
good_entry : (f : Family) → Good (EntryText f)
good_entry Standard =
    record { words = _; value = _; text = EntryText.standard (ActionText.permit refl) (SourceText.side (NetworkText.any refl)) LogText.no_log }
good_entry Extended =
    record {
      words = _;
      value = _;
      text = EntryText.extended (ActionText.permit refl) (ProtocolText.ip refl) (NetworkText.any refl) PortsText.no_test refl
          (NetworkText.any refl) PortsText.no_test refl LogText.no_log;
    }

-- the words of a line after `access-list`, under the list number that is known
abbrev NumberedForm : Option ℕ → List (List ℕ) → EntryShape → Type 0
NumberedForm known = Then (One (ListNumberText known)) (λ l. EntryText l.family)

-- the words of a line
abbrev LineForm : Option ℕ → List (List ℕ) → EntryShape → Type 0
LineForm known us e = (n : ℕ) × Follows known n × LineText n us e

line_text : (known : Option ℕ) (us : List (List ℕ)) (e : EntryShape) → NumberedForm known us e → (o : EntryShape) × LineForm known (codes "access-list" ∷ us) o
line_text known us e (both {a} m t) =
    (e, (a.number, m.text.follows, rw m.only (numbered_line refl m.text.number.bytes m.text.family t)))

-- a line, where no comment and no remark may stand
abbrev line_of : Option ℕ → Rest → Step EntryShape
line_of known r =
    cond (next_by r.words (codes "access-list")) (onward (list_number_of known (passed r)) (λ l. entry_of l.family)) (Err (stop BadWord (place r)))

line_begins : (known : Option ℕ) → Known known → Begins (line_of known) (LineForm known)
line_begins known k =
    keyed {f = λ r. onward (list_number_of known r) (λ l. entry_of l.family)} (codes "access-list")
    (chain (first_begins number (list_number_first known)) (list_number_sound known) (λ _ l _. good_entry l.family) (λ _ l _. entry_begins l.family))
    (line_text known)
    (first_begins (record { words = _; value = _; text = (line_text known _ _ (both number.text (good_entry number.value.family).text)).1 })
    (λ z ws t e. (stop_column BadWord (place_by z ws) t e, λ more p x. never p _ (sym x))))
  where
    number : Good (One (ListNumberText known))
    number = good_list_number known k

-- after `access-list` a stop is in the list number or in the entry
body_stop : (q : Step ListNumber) (s : Stop) → body_says q ≡ Err s → onward q (λ l. entry_of l.family) ≡ Err s
body_stop (Err t) s e = let k : t ≡ s = cc in ap Err k
body_stop (Ok q) s e = either (next_by q.1.words (codes "remark")) _ _ _ e (λ _ x. never _ s x) (λ _ x. line_stop (entry_of q.0.family q.1) x)
  where
    line_stop : (p : Step EntryShape) → line_said q.0.number p ≡ Err s → p ≡ Err s
    line_stop (Err t) x = let k : t ≡ s = cc in ap Err k
    line_stop (Ok p) x = never _ s x

-- where a text line stops, its line does
says_stop : (known : Option ℕ) (z : ℕ) (ws : List Spanned) (s : Stop) → says known (rest_by z ws) ≡ Err s → line_of known (rest_by z ws) ≡ Err s
says_stop known z [] s e = never _ s e
says_stop known z (w ∷ ws) s e = either (comment w.bytes) _ _ _ e (λ _ x. never _ s x) (λ _ x.
    either (next_by (w ∷ ws) (codes "access-list")) _ _ _ x
    (λ is y. cond-true (next_by (w ∷ ws) (codes "access-list")) _ _ is ∙ body_stop (list_number_of known (rest_by z ws)) s y)
    (λ is y. let k : stop BadWord w.column ≡ s = cc in cond-false (next_by (w ∷ ws) (codes "access-list")) _ _ is ∙ ap Err k))

-- a good line is taken
line_takes : {n : ℕ} {vs : List (List ℕ)} {e : EntryShape} (known : Option ℕ) (z : ℕ) → LineText n vs e → Follows known n
    → (us : List Spanned) → map bytes_of us ≡ vs → line_of known (rest_by z us) ≡ Ok (e, rest_by z [])
line_takes {n} {vs} {e} known z (numbered_line {f} {k} {w} {ws} key is family entry) follows =
    let P : List Spanned → Type 0 = λ us. line_of known (rest_by z us) ≡ Ok (e, rest_by z []) in
    cons_case P k (w ∷ ws) (λ c. cons_case (λ us. P (spanned c k ∷ us)) w ws (λ d us rest.
    ap (λ b. line_of known (rest_by z (spanned c b ∷ (spanned d w ∷ us)))) key
    ∙ then_on (λ l. entry_of l.family) (list_number_takes known n f w z d us is family follows)
    ∙ entry_takes entry z us rest))

-- a text line stopped at column c: the words before it begin some good line under the list number that is known, and
-- with the word there none
pub record LineBegan (known : Option ℕ) (z : ℕ) (ws : List Spanned) (c : ℕ) : Type 0 where
  pub before : List Spanned
  pub after : List Spanned
  pub split : ws ≡ before ++ after
  pub column : c ≡ place_by z after
  pub more : List (List ℕ)
  pub number : ℕ
  pub entry : EntryShape
  pub follows : Follows known number
  pub good : LineText number (map bytes_of before ++ more) entry
  pub worst : (rest : List (List ℕ)) (n : ℕ) (e : EntryShape) → Follows known n → LineText n (map bytes_of before ++ up_to after rest) e → ⊥

-- words with given bytes after the first
pub up_to_lem : (ws : List Spanned) (rest : List (List ℕ)) → map bytes_of (headed ws (map (spanned 0) rest)) ≡ up_to ws rest
up_to_lem [] rest = refl
up_to_lem (w ∷ ws) rest = ap (λ l. w.bytes ∷ l) (bytes rest) where
  bytes : (vs : List (List ℕ)) → map bytes_of (map (spanned 0) vs) ≡ vs
  bytes [] = refl
  bytes (v ∷ vs) = ap (λ l. v ∷ l) (bytes vs)

pub says_began : (known : Option ℕ) (z : ℕ) (ws : List Spanned) (s : Stop) → Known known → says known (rest_by z ws) ≡ Err s → LineBegan known z ws s.column
says_began known z ws s k e =
    let b = line_begins known k z ws s (says_stop known z ws s e) in
    record {
      before = b.before;
      after = b.after;
      split = b.split;
      column = b.column;
      more = b.more;
      number = b.text.0;
      entry = b.value;
      follows = b.text.1;
      good = b.text.2;
      worst = λ rest n e follows t.
          let others = map (spanned 0) rest in
          let is : map bytes_of (b.before ++ headed b.after others) ≡ map bytes_of b.before ++ up_to b.after rest =
          map-append bytes_of b.before _ ∙ ap (λ l. map bytes_of b.before ++ l) (up_to_lem b.after rest) in
          b.worst others _ (line_takes known z t follows _ is);
    }
