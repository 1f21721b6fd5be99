-- Words of a form that the grammar has are taken by its step of reading, whatever follows them. Assumes nothing.
use Rattle.std.proofs.Common.{◌≡◌, ℕ, ◌^◌, ◌<◌, ◌≤◌, Bool, true, false, cond, eqb, leb, List, [], ◌∷◌, ◌++◌, map, Some, None, Ok, codes, decimal, Option, sym, refl, ap, ◌∙◌, subst, arith, le-leb}
use Rattle.std.proofs.lemmas.Bool.{cond-true, cond-false}
use Rattle.acl.specs.declared.refusal.Refusal.TheVariants.{BadWord, BadAddress, BadNumber}
use Rattle.acl.specs.declared.terms.Action.{Action}
use Rattle.acl.specs.declared.terms.Protocol.{Protocol}
use Rattle.acl.specs.declared.terms.Protocol.TheVariants.{Number}
use Rattle.acl.specs.declared.terms.PortTest.{PortTest}
use Rattle.acl.specs.declared.terms.PortTest.TheVariants.{Any as AnyPort, Eq, Neq, Lt, Gt, Range}
use Rattle.acl.specs.Terms.{takes_ports, ports_allowed}
use Rattle.words.specs.Keywords.{named}
use Rattle.words.specs.Numbers.{digit, digits, within, read_on, number_in, address_in}
use Rattle.words.specs.Words.{Spanned, spanned, bytes_of}
use Rattle.words.specs.Meaning.{AddressText}
use Rattle.words.specs.Cursor.{Rest, rest_by, begins_with_digit, place, Step, onward, valued, address_of, number_of}
use Rattle.words.proofs.Decimal.{every}
use Rattle.ios.specs.declared.family.Family.{Family}
use Rattle.ios.specs.declared.family.Family.TheVariants.{Standard, Extended}
use Rattle.ios.specs.declared.family.Network.{Network}
use Rattle.ios.specs.Entries.{EntryShape, network, standard_entry, extended_entry}
use Rattle.ios.specs.Parsing.{next_by, action_named, action_of, protocol_of, network_of, host_of, wildcard_of, closed_by, lone_of, source_of}
use Rattle.ios.specs.Parsing.{port_of, forward_range, test_of, ports_of, log_of, form_of, close_of, entry_of}
use Rattle.ios.specs.Grammar.{ActionText, ProtocolText, NetworkText, SourceText, PortText, PortsText, LogText, EntryText}
use Rattle.ios.specs.Grammar.ActionText.{permit, deny}
use Rattle.ios.specs.Grammar.ProtocolText.{ip, icmp, igmp, tcp, udp, number}
use Rattle.ios.specs.Grammar.NetworkText.{any, host, pair}
use Rattle.ios.specs.Grammar.SourceText.{side, lone}
use Rattle.ios.specs.Grammar.PortsText.{no_test, eq, neq, lt, gt, range}
use Rattle.ios.specs.Grammar.LogText.{no_log, logged}
use Rattle.ios.specs.Grammar.EntryText.{standard, extended}
use Rattle.words.proofs.Addresses.{address_every}
use Rattle.ios.proofs.Steps.{named_is, either, then_on}
use Rattle.ios.proofs.Stages.{standard_log, extended_log, destination_ports, destination, source_ports, source}

-- words whose bytes are k and then vs
pub cons_case : (P : List Spanned → Type 0) (k : List ℕ) (vs : List (List ℕ)) → ((c : ℕ) (us : List Spanned) → map bytes_of us ≡ vs → P (spanned c k ∷ us))
    → (us : List Spanned) → map bytes_of us ≡ k ∷ vs → P us
cons_case P k vs h [] e = absurd cc
cons_case P k vs h (u ∷ us) e =
    let first : u.bytes ≡ k = cc in
    let others : map bytes_of us ≡ vs = cc in
    subst (λ b. P (spanned u.column b ∷ us)) (sym first) (h u.column us others)

pub nil_case : (P : List Spanned → Type 0) → P [] → (us : List Spanned) → map bytes_of us ≡ [] → P us
nil_case P h [] e = h
nil_case P h (u ∷ us) e = absurd cc

-- words whose bytes are those of two forms
pub append_case : (P : List Spanned → Type 0) (ss gs : List (List ℕ))
    → ((xs : List Spanned) → map bytes_of xs ≡ ss → (ys : List Spanned) → map bytes_of ys ≡ gs → P (xs ++ ys)) → (us : List Spanned)
    → map bytes_of us ≡ ss ++ gs → P us
append_case P [] gs h us e = h [] refl us e
append_case P (s ∷ ss) gs h us e = cons_case P s (ss ++ gs)
    (λ c. append_case (λ us. P (spanned c s ∷ us)) ss gs (λ xs p. h (spanned c s ∷ xs) (ap (λ l. s ∷ l) p))) us e

-- words with the bytes vs are taken before more
abbrev pub Takes : {A : Type 0} → (Rest → Step A) → List (List ℕ) → A → List Spanned → Type 0
Takes step vs a more = (z : ℕ) (us : List Spanned) → map bytes_of us ≡ vs → step (rest_by z (us ++ more)) ≡ Ok (a, rest_by z more)

pub one_word : {A : Type 0} (step : Rest → Step A) (k : List ℕ) (a : A) (more : List Spanned)
    → ((z c : ℕ) → step (rest_by z (spanned c k ∷ more)) ≡ Ok (a, rest_by z more)) → Takes step (k ∷ []) a more
one_word step k a more h z =
    let P : List Spanned → Type 0 = λ us. step (rest_by z (us ++ more)) ≡ Ok (a, rest_by z more) in
    cons_case P k [] (λ c. nil_case (λ us. P (spanned c k ∷ us)) (h z c))

two_words : {A : Type 0} (step : Rest → Step A) (k l : List ℕ) (a : A) (more : List Spanned)
    → ((z c d : ℕ) → step (rest_by z (spanned c k ∷ (spanned d l ∷ more))) ≡ Ok (a, rest_by z more)) → Takes step (k ∷ (l ∷ [])) a more
two_words step k l a more h z =
    let P : List Spanned → Type 0 = λ us. step (rest_by z (us ++ more)) ≡ Ok (a, rest_by z more) in
    cons_case P k (l ∷ []) (λ c. one_word (λ r. step (rest_by r.size (spanned c k ∷ r.words))) l a more (λ z d. h z c d) z)

pub number_takes : (low high n z c : ℕ) (w : List ℕ) (more : List Spanned) → high < 2 ^ 64 → w ≡ decimal n → low ≤ n → n ≤ high
    → number_of low high (rest_by z (spanned c w ∷ more)) ≡ Ok (n, rest_by z more)
number_takes low high n z c w more h e l u = ap (λ o. valued o BadNumber c (rest_by z more)) (ap (number_in low high) e ∙ every low high n h l u)

pub address_takes : (w : List ℕ) (a z c : ℕ) (more : List Spanned) → AddressText w a → address_of (rest_by z (spanned c w ∷ more)) ≡ Ok (a, rest_by z more)
address_takes w a z c more t = ap (λ o. valued o BadAddress c (rest_by z more)) (address_every w a t)

apart : (a : ℕ) (x y : Option ℕ) → x ≡ y → x ≡ Some a → y ≡ None → ⊥
apart a x y e s n = cc

-- an address is no keyword
address_apart : (w : List ℕ) (a : ℕ) (k : List ℕ) → AddressText w a → address_in k ≡ None → named w k ≡ false
address_apart w a k t no_address = go (named w k) refl where
  go : (b : Bool) → named w k ≡ b → named w k ≡ false
  go false is = is
  go true is = absurd (apart a (address_in w) (address_in k) (ap address_in (named_is w k is)) (address_every w a t) no_address)

action_is : {w : List ℕ} {a : Action} → ActionText w a → action_named w ≡ Some a
action_is (permit e) = ap action_named e
action_is (deny e) = ap action_named e

action_takes : {w : List ℕ} {a : Action} (z c : ℕ) (more : List Spanned) → ActionText w a → action_of (rest_by z (spanned c w ∷ more)) ≡ Ok (a, rest_by z more)
action_takes z c more t = ap (λ o. valued o BadWord c (rest_by z more)) (action_is t)

-- a number begins with a digit
digit_first : (x d q : Bool) (n : ℕ) (o : Option ℕ) → cond (cond x false (cond d q false)) o None ≡ Some n → d ≡ true
digit_first true d q n o e = absurd cc
digit_first false true q n o e = refl
digit_first false false q n o e = absurd cc

number_digit : (low high n : ℕ) (w : List ℕ) → number_in low high w ≡ Some n → begins_with_digit w ≡ true
number_digit low high n [] e = absurd cc
number_digit low high n (b ∷ []) e = either (digit b) _ _ _ e (λ is _. is) (λ _ e. absurd cc)
number_digit low high n (b ∷ c ∷ cs) e = digit_first (eqb b 48) (digit b) (digits (c ∷ cs)) n (within low high (read_on 0 (b ∷ c ∷ cs))) e

protocol_takes : {w : List ℕ} {p : Protocol} (z c : ℕ) (more : List Spanned) → ProtocolText w p
    → protocol_of (rest_by z (spanned c w ∷ more)) ≡ Ok (p, rest_by z more)
protocol_takes z c more (ip e) = ap (λ b. protocol_of (rest_by z (spanned c b ∷ more))) e
protocol_takes z c more (icmp e) = ap (λ b. protocol_of (rest_by z (spanned c b ∷ more))) e
protocol_takes z c more (igmp e) = ap (λ b. protocol_of (rest_by z (spanned c b ∷ more))) e
protocol_takes z c more (tcp e) = ap (λ b. protocol_of (rest_by z (spanned c b ∷ more))) e
protocol_takes z c more (udp e) = ap (λ b. protocol_of (rest_by z (spanned c b ∷ more))) e
protocol_takes {w} z c more (number {n} e small) =
    cond-true (begins_with_digit w) _ _ (number_digit 0 255 n w (ap (number_in 0 255) e ∙ every 0 255 n (omega arith) (omega arith) small))
    ∙ then_on (λ n more. Ok (Number n, more)) (number_takes 0 255 n z c w more (omega arith) e (omega arith) small)

host_takes : (w : List ℕ) (a z c : ℕ) (more : List Spanned) → AddressText w a → host_of (rest_by z (spanned c w ∷ more)) ≡ Ok (network a 0, rest_by z more)
host_takes w a z c more t = then_on (λ a more. Ok (network a 0, more)) (address_takes w a z c more t)

wildcard_takes : (w : List ℕ) (a m z c : ℕ) (more : List Spanned) → AddressText w m
    → wildcard_of a (rest_by z (spanned c w ∷ more)) ≡ Ok (network a m, rest_by z more)
wildcard_takes w a m z c more t = then_on (λ m more. Ok (network a m, more)) (address_takes w m z c more t)

network_takes : {vs : List (List ℕ)} {n : Network} (more : List Spanned) → NetworkText vs n → Takes network_of vs n more
network_takes more (any {k} e) = one_word network_of k _ more (λ z c. ap (λ b. network_of (rest_by z (spanned c b ∷ more))) e)
network_takes more (host {k} {w} {a} e t) = two_words network_of k w _ more
    (λ z c d. ap (λ b. network_of (rest_by z (spanned c b ∷ (spanned d w ∷ more)))) e ∙ host_takes w a z d more t)
network_takes more (pair {w} {v} {a} {m} t u) = two_words network_of w v _ more
    (λ z c d. cond-false (named w (codes "any")) _ _ (address_apart w a (codes "any") t refl)
    ∙ cond-false (named w (codes "host")) _ _ (address_apart w a (codes "host") t refl)
    ∙ then_on wildcard_of (address_takes w a z c (spanned d v ∷ more) t)
    ∙ wildcard_takes v a m z d more u)

source_takes : {vs : List (List ℕ)} {n : Network} (more : List Spanned) → closed_by more ≡ true → SourceText vs n → Takes source_of vs n more
source_takes more end (side (any {k} e)) = one_word source_of k _ more (λ z c. ap (λ b. source_of (rest_by z (spanned c b ∷ more))) e)
source_takes more end (side (host {k} {w} {a} e t)) = two_words source_of k w _ more
    (λ z c d. ap (λ b. source_of (rest_by z (spanned c b ∷ (spanned d w ∷ more)))) e ∙ host_takes w a z d more t)
source_takes more end (side (pair {w} {v} {a} {m} t u)) = two_words source_of w v _ more
    (λ z c d. cond-false (named w (codes "any")) _ _ (address_apart w a (codes "any") t refl)
    ∙ cond-false (named w (codes "host")) _ _ (address_apart w a (codes "host") t refl)
    ∙ then_on lone_of (address_takes w a z c (spanned d v ∷ more) t)
    ∙ cond-false (named v (codes "log")) _ _ (address_apart v m (codes "log") u refl)
    ∙ wildcard_takes v a m z d more u)
source_takes more end (lone {w} {a} t) = one_word source_of w _ more
    (λ z c. cond-false (named w (codes "any")) _ _ (address_apart w a (codes "any") t refl)
    ∙ cond-false (named w (codes "host")) _ _ (address_apart w a (codes "host") t refl)
    ∙ then_on lone_of (address_takes w a z c more t)
    ∙ cond-true (closed_by more) _ _ end)

port_takes : {w : List ℕ} {n : ℕ} (z c : ℕ) (more : List Spanned) → PortText w n → port_of (rest_by z (spanned c w ∷ more)) ≡ Ok (n, rest_by z more)
port_takes {w} {n} z c more t = number_takes 0 65535 n z c w more (omega arith) t.bytes (omega arith) t.small

-- no port test begins with the next word
abbrev NoTest : List Spanned → Type 0
NoTest ws = (next_by ws (codes "eq") ≡ false) × (next_by ws (codes "neq") ≡ false) × (next_by ws (codes "lt") ≡ false)
    × (next_by ws (codes "gt") ≡ false) × (next_by ws (codes "range") ≡ false)

absent_test : (z : ℕ) (more : List Spanned) → NoTest more → test_of (rest_by z more) ≡ Ok (AnyPort, rest_by z more)
absent_test z more h =
    cond-false (next_by more (codes "eq")) _ _ h.0 ∙ cond-false (next_by more (codes "neq")) _ _ h.1 ∙ cond-false (next_by more (codes "lt")) _ _ h.2
    ∙ cond-false (next_by more (codes "gt")) _ _ h.3 ∙ cond-false (next_by more (codes "range")) _ _ h.4

absent_ports : (p : Protocol) (z : ℕ) (more : List Spanned) → NoTest more → ports_of p (rest_by z more) ≡ Ok (AnyPort, rest_by z more)
absent_ports p z more h = elim (takes_ports p) as (λ b. cond b (test_of (rest_by z more)) (Ok (AnyPort, rest_by z more)) ≡ Ok (AnyPort, rest_by z more))
    [ true ↦ absent_test z more h | false ↦ refl ]

-- a test of one port
test_takes : (p : Protocol) (k w : List ℕ) (n : ℕ) (test : ℕ → PortTest) (more : List Spanned) → takes_ports p ≡ true → PortText w n
    → ((z c : ℕ) (ws : List Spanned) → test_of (rest_by z (spanned c k ∷ ws)) ≡ onward (port_of (rest_by z ws)) (λ n after. Ok (test n, after)))
    → Takes (ports_of p) (k ∷ (w ∷ [])) (test n) more
test_takes p k w n test more takes t is = two_words (ports_of p) k w (test n) more
    (λ z c d. cond-true (takes_ports p) _ _ takes ∙ is z c (spanned d w ∷ more) ∙ then_on (λ n after. Ok (test n, after)) (port_takes z d more t))

ports_takes : (p : Protocol) {vs : List (List ℕ)} {t : PortTest} (more : List Spanned) → NoTest more → ports_allowed p t ≡ true → PortsText vs t
    → Takes (ports_of p) vs t more
ports_takes p more h allowed no_test = λ z. nil_case (λ us. ports_of p (rest_by z (us ++ more)) ≡ Ok (AnyPort, rest_by z more)) (absent_ports p z more h)
ports_takes p more h allowed (eq {k} {w} {n} e t) = test_takes p k w n Eq more allowed t (λ z c ws. ap (λ b. test_of (rest_by z (spanned c b ∷ ws))) e)
ports_takes p more h allowed (neq {k} {w} {n} e t) = test_takes p k w n Neq more allowed t (λ z c ws. ap (λ b. test_of (rest_by z (spanned c b ∷ ws))) e)
ports_takes p more h allowed (lt {k} {w} {n} e t) = test_takes p k w n Lt more allowed t (λ z c ws. ap (λ b. test_of (rest_by z (spanned c b ∷ ws))) e)
ports_takes p more h allowed (gt {k} {w} {n} e t) = test_takes p k w n Gt more allowed t (λ z c ws. ap (λ b. test_of (rest_by z (spanned c b ∷ ws))) e)
ports_takes p more h allowed (range {k} {w} {v} {a} {b} e t u le) = λ z.
    cons_case (λ us. ports_of p (rest_by z (us ++ more)) ≡ Ok (Range a b, rest_by z more)) k (w ∷ (v ∷ []))
    (λ c. two_words (λ r. ports_of p (rest_by r.size (spanned c k ∷ r.words))) w v (Range a b) more
    (λ z d g. cond-true (takes_ports p) _ _ allowed
    ∙ ap (λ b. test_of (rest_by z (spanned c b ∷ (spanned d w ∷ (spanned g v ∷ more))))) e
    ∙ then_on (λ a more. onward (port_of more) (λ b after. forward_range a b (place more) after)) (port_takes z d (spanned g v ∷ more) t)
    ∙ then_on (λ b after. forward_range a b g after) (port_takes z g more u)
    ∙ cond-true (leb a b) _ _ (le-leb a b le))
    z)

log_takes : {gs : List (List ℕ)} {g : Bool} → LogText gs g → (z : ℕ) (us : List Spanned) → map bytes_of us ≡ gs → log_of (rest_by z us) ≡ Ok (g, rest_by z [])
log_takes no_log z = nil_case (λ us. log_of (rest_by z us) ≡ Ok (false, rest_by z [])) refl
log_takes (logged {k} e) z = cons_case (λ us. log_of (rest_by z us) ≡ Ok (true, rest_by z [])) k []
    (λ c. nil_case (λ us. log_of (rest_by z (spanned c k ∷ us)) ≡ Ok (true, rest_by z [])) (ap (λ b. log_of (rest_by z (spanned c b ∷ []))) e))

-- what follows a source of a standard line
log_closes : {gs : List (List ℕ)} {g : Bool} → LogText gs g → (us : List Spanned) → map bytes_of us ≡ gs → closed_by us ≡ true
log_closes no_log = nil_case (λ us. closed_by us ≡ true) refl
log_closes (logged {k} e) = cons_case (λ us. closed_by us ≡ true) k [] (λ c us _. ap (λ b. named b (codes "log")) e)

-- what follows the ports of a side: the addresses of the other, or the log
log_no_test : {gs : List (List ℕ)} {g : Bool} → LogText gs g → (us : List Spanned) → map bytes_of us ≡ gs → NoTest us
log_no_test no_log = nil_case NoTest (refl, refl, refl, refl, refl)
log_no_test (logged {k} e) = cons_case NoTest k [] (λ c us _. subst (λ b. NoTest (spanned c b ∷ us)) (sym e) (refl, refl, refl, refl, refl))

address_no_test : {w : List ℕ} {a : ℕ} (c : ℕ) (us : List Spanned) → AddressText w a → NoTest (spanned c w ∷ us)
address_no_test {w} {a} c us t = (
  address_apart w a (codes "eq") t refl,
  address_apart w a (codes "neq") t refl,
  address_apart w a (codes "lt") t refl,
  address_apart w a (codes "gt") t refl,
  address_apart w a (codes "range") t refl,
)

network_no_test : {vs : List (List ℕ)} {n : Network} (more : List Spanned) → NetworkText vs n → (us : List Spanned) → map bytes_of us ≡ vs → NoTest (us ++ more)
network_no_test more (any {k} e) = cons_case (λ us. NoTest (us ++ more)) k []
    (λ c us _. subst (λ b. NoTest (spanned c b ∷ (us ++ more))) (sym e) (refl, refl, refl, refl, refl))
network_no_test more (host {k} {w} e t) = cons_case (λ us. NoTest (us ++ more)) k (w ∷ [])
    (λ c us _. subst (λ b. NoTest (spanned c b ∷ (us ++ more))) (sym e) (refl, refl, refl, refl, refl))
network_no_test more (pair {w} {v} t u) = cons_case (λ us. NoTest (us ++ more)) w (v ∷ []) (λ c us _. address_no_test c (us ++ more) t)

-- the words of an entry are taken up to the end
pub entry_takes : {f : Family} {vs : List (List ℕ)} {e : EntryShape} → EntryText f vs e
    → (z : ℕ) (us : List Spanned) → map bytes_of us ≡ vs → entry_of f (rest_by z us) ≡ Ok (e, rest_by z [])
entry_takes (standard {w} {ss} {gs} {a} {n} {g} t s l) z =
    let P : List Spanned → Type 0 = λ us. entry_of Standard (rest_by z us) ≡ Ok (standard_entry a n g, rest_by z []) in
    cons_case P w (ss ++ gs) (λ c. append_case (λ us. P (spanned c w ∷ us)) ss gs (λ xs p ys q.
    then_on (form_of Standard) (action_takes z c (xs ++ ys) t)
    ∙ then_on (standard_log a) (source_takes ys (log_closes l ys q) s z xs p)
    ∙ then_on (λ g. close_of (standard_entry a n g)) (log_takes l z ys q)))
entry_takes (extended {w} {v} {ss} {ts} {ds} {us} {gs} {a} {p} {s} {d} {t} {u} {g} at pt sn st sa dn dt da l) z =
    let P : List Spanned → Type 0 = λ us. entry_of Extended (rest_by z us) ≡ Ok (extended_entry a p s t d u g, rest_by z []) in
    cons_case P w (v ∷ (ss ++ (ts ++ (ds ++ (us ++ gs))))) (λ c.
    cons_case (λ xs. P (spanned c w ∷ xs)) v (ss ++ (ts ++ (ds ++ (us ++ gs)))) (λ b.
    append_case (λ xs. P (spanned c w ∷ (spanned b v ∷ xs))) ss (ts ++ (ds ++ (us ++ gs))) (λ x1 p1.
    append_case (λ xs. P (spanned c w ∷ (spanned b v ∷ (x1 ++ xs)))) ts (ds ++ (us ++ gs)) (λ x2 p2.
    append_case (λ xs. P (spanned c w ∷ (spanned b v ∷ (x1 ++ (x2 ++ xs))))) ds (us ++ gs) (λ x3 p3.
    append_case (λ xs. P (spanned c w ∷ (spanned b v ∷ (x1 ++ (x2 ++ (x3 ++ xs)))))) us gs (λ x4 p4 y4 q.
    then_on (form_of Extended) (action_takes z c (spanned b v ∷ (x1 ++ (x2 ++ (x3 ++ (x4 ++ y4))))) at)
    ∙ then_on (source a) (protocol_takes z b (x1 ++ (x2 ++ (x3 ++ (x4 ++ y4)))) pt)
    ∙ then_on (source_ports a p) (network_takes (x2 ++ (x3 ++ (x4 ++ y4))) sn z x1 p1)
    ∙ then_on (destination a p s) (ports_takes p (x3 ++ (x4 ++ y4)) (network_no_test (x4 ++ y4) dn x3 p3) sa st z x2 p2)
    ∙ then_on (destination_ports a p s t) (network_takes (x4 ++ y4) dn z x3 p3)
    ∙ then_on (extended_log a p s t d) (ports_takes p y4 (log_no_test l y4 q) da dt z x4 p4)
    ∙ then_on (λ g. close_of (extended_entry a p s t d u g)) (log_takes l z y4 q)))))))
