-- What a step of reading takes has the form that the grammar says. Assumes nothing.
use Rattle.std.proofs.Common.{◌≡◌, ℕ, ◌^◌, ◌<◌, Bool, true, false, cond, eqb, leb, List, [], ◌∷◌, ◌++◌, map, Some, None, Ok, codes, Option, sym, refl, ap, ◌∙◌, subst, append-nil, arith, leb-true}
use Rattle.std.proofs.lemmas.Bool.{cond-true}
use Rattle.std.proofs.lemmas.Bool.Decides.{Decides-eqb}
use Rattle.acl.specs.declared.refusal.Refusal.TheVariants.{BadWord, BadAddress, BadNumber}
use Rattle.acl.specs.declared.terms.Action.{Action}
use Rattle.acl.specs.declared.terms.Action.TheVariants.{Deny, Permit}
use Rattle.acl.specs.declared.terms.Protocol.{Protocol}
use Rattle.acl.specs.declared.terms.Protocol.TheVariants.{Any as AnyProtocol, Number}
use Rattle.acl.specs.declared.terms.PortTest.{PortTest}
use Rattle.acl.specs.declared.terms.PortTest.TheVariants.{Any as AnyPort, Eq, Neq, Lt, Gt, Range}
use Rattle.acl.specs.Terms.{takes_ports, ports_allowed, port_case}
use Rattle.words.specs.Keywords.{named}
use Rattle.words.specs.Numbers.{number_in, address_in}
use Rattle.words.specs.Words.{Spanned, bytes_of}
use Rattle.words.specs.Meaning.{AddressText}
use Rattle.words.specs.Cursor.{Rest, rest_by, place_by, place, Step, onward, valued, address_of, number_of}
use Rattle.words.proofs.Decimal.{only}
use Rattle.ios.specs.declared.family.Family.{Family}
use Rattle.ios.specs.declared.family.Family.TheVariants.{Standard, Extended}
use Rattle.ios.specs.declared.family.ListNumber.{ListNumber}
use Rattle.ios.specs.declared.family.Network.{Network}
use Rattle.ios.specs.Entries.{EntryShape, network, everywhere, standard_entry, extended_entry}
use Rattle.ios.specs.Parsing.{action_named, action_of, protocol_named, protocol_of, digit_by, network_of, host_of, wildcard_of, closed_by, lone_of, source_of}
use Rattle.ios.specs.Parsing.{port_of, forward_range, range_of, test_of, ports_of, log_of, family_of}
use Rattle.ios.specs.Parsing.{list_number, agreed, list_number_of, close_of, form_of, standard_of, extended_of, entry_of}
use Rattle.ios.specs.Grammar.{ActionText, ProtocolText, NetworkText, SourceText, PortText, PortsText, LogText, EntryText, Follows}
use Rattle.ios.specs.Grammar.ActionText.{permit, deny}
use Rattle.ios.specs.Grammar.ProtocolText.{ip, icmp, igmp, tcp, udp, number}
use Rattle.ios.specs.Grammar.NetworkText.{any, host, pair}
use Rattle.ios.specs.Grammar.SourceText.{side, lone}
use Rattle.ios.specs.Grammar.PortsText.{no_test, eq, neq, lt, gt, range}
use Rattle.ios.specs.Grammar.LogText.{no_log, logged}
use Rattle.ios.specs.Grammar.EntryText.{standard, extended}
use Rattle.ios.proofs.Forms.{One, NumberText, headed}
use Rattle.words.proofs.Addresses.{address_only}
use Rattle.ios.proofs.Steps.{ok_parts, onward_ok, valued_ok, named_is, Sound, digit_looks, closed_looks, place_looks, took_as, done, bind, worded}
use Rattle.ios.proofs.Steps.{of_one, either, choose, keyed, Whole, bind_whole, close_whole}
use Rattle.ios.proofs.Stages.{standard_log, extended_log, destination_ports, destination, source_ports, source}

pub number_sound : (low high : ℕ) → high < 2 ^ 64 → Sound (number_of low high) (One (NumberText low high))
number_sound low high h =
    worded (NumberText low high) (number_in low high) BadNumber
    (λ w m is. let p = only low high w m h is in record { bytes = p.0; least = p.1; most = p.2 })

pub address_sound : Sound address_of (One AddressText)
address_sound = worded AddressText address_in BadAddress address_only

-- a word that has the value v if it is k, or else the value o
by_name : {A : Type 0} (R : List ℕ → A → Type 0) (w k : List ℕ) (v a : A) (o : Option A)
    → cond (named w k) (Some v) o ≡ Some a → (w ≡ k → R w v) → (o ≡ Some a → R w a) → R w a
by_name R w k v a o e this other =
    either (named w k) (Some v) o (Some a) e (λ is e. let same : v ≡ a = cc in subst (R w) same (this (named_is w k is))) (λ _ e. other e)

no_value : {A : Type 0} (a : A) (P : Type 0) → None ≡ Some a → P
no_value a P e = absurd cc

pub action_sound : Sound action_of (One ActionText)
action_sound = worded ActionText action_named BadWord named_action where
  named_action : (w : List ℕ) (a : Action) → action_named w ≡ Some a → ActionText w a
  named_action w a e =
      by_name ActionText w (codes "permit") Permit a _ e permit (λ e.
      by_name ActionText w (codes "deny") Deny a _ e deny (no_value a _))

named_protocol : (w : List ℕ) (p : Protocol) → protocol_named w ≡ Some p → ProtocolText w p
named_protocol w p e =
    by_name ProtocolText w (codes "ip") AnyProtocol p _ e ip (λ e.
    by_name ProtocolText w (codes "icmp") (Number 1) p _ e icmp (λ e.
    by_name ProtocolText w (codes "igmp") (Number 2) p _ e igmp (λ e.
    by_name ProtocolText w (codes "tcp") (Number 6) p _ e tcp (λ e.
    by_name ProtocolText w (codes "udp") (Number 17) p _ e udp (no_value p _)))))

-- a number is a protocol
one_number : (n : ℕ) (us : List (List ℕ)) → One (NumberText 0 255) us n → One ProtocolText (us ++ []) (Number n)
one_number n us o = of_one (λ us. One ProtocolText (us ++ []) (Number n)) us o (λ w t. record { word = w; only = refl; text = number t.bytes t.most })

pub protocol_sound : Sound protocol_of (One ProtocolText)
protocol_sound = choose digit_by digit_looks
    (λ z ws p r _. bind (number_of 0 255) (λ n more. Ok (Number n, more)) (number_sound 0 255 (omega arith))
    (λ n us o. done (Number n) (one_number n us o)) z ws p r)
    (worded ProtocolText protocol_named BadWord named_protocol)

host_sound : Sound host_of (λ us n. NetworkText (codes "host" ∷ us) n)
host_sound = bind address_of (λ a more. Ok (network a 0, more)) address_sound
    (λ a us o. done (network a 0) (of_one (λ us. NetworkText (codes "host" ∷ (us ++ [])) (network a 0)) us o (λ w t. host refl t)))

-- the wildcard after an address
wildcard_sound : (a : ℕ) (us : List (List ℕ)) → One AddressText us a → Sound (wildcard_of a) (λ vs n. NetworkText (us ++ vs) n)
wildcard_sound a us o = bind address_of (λ m more. Ok (network a m, more)) address_sound
    (λ m vs p. done (network a m)
    (of_one (λ us. NetworkText (us ++ (vs ++ [])) (network a m)) us o
    (λ w t. of_one (λ vs. NetworkText (w ∷ (vs ++ [])) (network a m)) vs p
    (λ v u. pair t u))))

pub network_sound : Sound network_of NetworkText
network_sound = keyed (codes "any") (done everywhere (any refl)) (keyed (codes "host") host_sound (bind address_of wildcard_of address_sound wildcard_sound))

-- a source that has a network's form
as_side : {step : Rest → Step Network} (us : List (List ℕ)) → Sound step (λ vs n. NetworkText (us ++ vs) n) → Sound step (λ vs n. SourceText (us ++ vs) n)
as_side us sound z ws n r e =
    let t = sound z ws n r e in
    record { used = t.used; left = t.left; split = t.split; rest = t.rest; text = side t.text; same = t.same }

lone_sound : (a : ℕ) (us : List (List ℕ)) → One AddressText us a → Sound (lone_of a) (λ vs n. SourceText (us ++ vs) n)
lone_sound a us o = choose closed_by closed_looks
    (λ z ws n r _. done (network a 0) (of_one (λ us. SourceText (us ++ []) (network a 0)) us o (λ w t. lone t)) z ws n r)
    (as_side us (wildcard_sound a us o))

pub source_sound : Sound source_of SourceText
source_sound =
    keyed (codes "any") (done everywhere (side (any refl)))
    (keyed (codes "host") (as_side (codes "host" ∷ []) host_sound) (bind address_of lone_of address_sound lone_sound))

port_sound : Sound port_of (One PortText)
port_sound = worded PortText (number_in 0 65535) BadNumber
    (λ w n is. let p = only 0 65535 w n (omega arith) is in record { bytes = p.0; small = p.2 })

-- the port after the keyword of a test
tested : (k : List ℕ) (test : ℕ → PortTest) → ((w : List ℕ) (n : ℕ) → PortText w n → PortsText (k ∷ (w ∷ [])) (test n))
    → Sound (λ r. onward (port_of r) (λ n more. Ok (test n, more))) (λ us t. PortsText (k ∷ us) t)
tested k test make = bind port_of (λ n more. Ok (test n, more)) port_sound
    (λ n us o. done (test n) (of_one (λ us. PortsText (k ∷ (us ++ [])) (test n)) us o (λ w t. make w n t)))

-- the second port of a range, not below the first
upper_sound : (a : ℕ) (us : List (List ℕ)) → One PortText us a
    → Sound (λ more. onward (port_of more) (λ b after. forward_range a b (place more) after)) (λ vs t. PortsText (codes "range" ∷ (us ++ vs)) t)
upper_sound a us o z ws t r e =
    took_as (from (place_by z ws)) (λ more. onward (port_of more) (λ b after. forward_range a b (place more) after)) z ws t r
    (sound (place_by z ws) z ws t r e) (λ more. ap (λ c. from c (rest_by z (headed ws more))) (place_looks z ws more)) where
      from : ℕ → Rest → Step PortTest
      from c more = onward (port_of more) (λ b after. forward_range a b c after)

      sound : (c : ℕ) → Sound (from c) (λ vs t. PortsText (codes "range" ∷ (us ++ vs)) t)
      sound c = bind port_of (λ b after. forward_range a b c after) port_sound
          (λ b vs p. choose (λ _. leb a b) (λ _ _. refl)
          (λ z ws t r le. done (Range a b)
          (of_one (λ us. PortsText (codes "range" ∷ (us ++ (vs ++ []))) (Range a b)) us o
          (λ w t. of_one (λ vs. PortsText (codes "range" ∷ (w ∷ (vs ++ []))) (Range a b)) vs p
          (λ v u. range refl t u (leb-true a b le)))) z ws t r)
          (λ _ _ _ _ e. absurd cc))

range_sound : Sound range_of (λ us t. PortsText (codes "range" ∷ us) t)
range_sound = bind port_of (λ a more. onward (port_of more) (λ b after. forward_range a b (place more) after)) port_sound upper_sound

test_sound : Sound test_of PortsText
test_sound =
    keyed (codes "eq") (tested (codes "eq") Eq (λ w n p. eq refl p))
    (keyed (codes "neq") (tested (codes "neq") Neq (λ w n p. neq refl p))
    (keyed (codes "lt") (tested (codes "lt") Lt (λ w n p. lt refl p))
    (keyed (codes "gt") (tested (codes "gt") Gt (λ w n p. gt refl p))
    (keyed (codes "range") range_sound (done AnyPort no_test)))))

-- a port test that stands beside the protocol
pub record AllowedText (p : Protocol) (us : List (List ℕ)) (t : PortTest) : Type 0 where
  pub test : PortsText us t
  pub allowed : ports_allowed p t ≡ true

always : (b : Bool) → cond b true true ≡ true
always true = refl
always false = refl

pub ports_sound : (p : Protocol) → Sound (ports_of p) (AllowedText p)
ports_sound p = choose (λ _. takes_ports p) (λ _ _. refl)
    (λ z ws t r takes e. let u = test_sound z ws t r e in
    record {
      used = u.used;
      left = u.left;
      split = u.split;
      rest = u.rest;
      text = record { test = u.text; allowed = ap (λ b. cond (eqb (port_case t).number 0) true b) takes ∙ always _ };
      same = u.same;
    })
    (done AnyPort (record { test = no_test; allowed = refl }))

pub log_sound : Sound log_of LogText
log_sound = keyed (codes "log") (done true (logged refl)) (done false no_log)

-- the words of a list number, in the list that is known
pub record ListNumberText (known : Option ℕ) (w : List ℕ) (l : ListNumber) : Type 0 where
  pub number : NumberText 1 2699 w l.number
  pub family : family_of l.number ≡ Some l.family
  pub follows : Follows known l.number

-- a list number that agrees does so whatever is left
agreed_ok : (known : Option ℕ) (c : ℕ) (l m : ListNumber) (r s : Rest) → agreed known c l r ≡ Ok (m, s)
    → Follows known l.number × (l ≡ m) × (r ≡ s) × ((q : Rest) → agreed known c l q ≡ Ok (m, q))
agreed_ok None c l m r s e = let p = ok_parts l m r s e in (tt, p.0, p.1, λ q. ap (λ x. Ok (x, q)) p.0)
agreed_ok (Some n) c l m r s e = either (eqb n l.number) _ _ _ e
    (λ is e. let p = ok_parts l m r s e in
    ((Decides-eqb n l.number).0 is, p.0, p.1, λ q. cond-true (eqb n l.number) _ _ is ∙ ap (λ x. Ok (x, q)) p.0))
    (λ _ e. absurd cc)

pub list_number_sound : (known : Option ℕ) → Sound (list_number_of known) (One (ListNumberText known))
list_number_sound known z ws l r e =
    took_as (from (place_by z ws)) (list_number_of known) z ws l r
    (bind (number_of 1 2699) (family (place_by z ws)) (number_sound 1 2699 (omega arith)) (rest (place_by z ws)) z ws l r e)
    (λ more. ap (λ c. from c (rest_by z (headed ws more))) (place_looks z ws more)) where
      family : ℕ → ℕ → Rest → Step ListNumber
      family c n more = onward (valued (family_of n) BadNumber c more) (λ f more. agreed known c (list_number n f) more)

      from : ℕ → Rest → Step ListNumber
      from c r = onward (number_of 1 2699 r) (family c)

      rest : (c n : ℕ) (us : List (List ℕ)) → One (NumberText 1 2699) us n → Sound (family c n) (λ vs l. One (ListNumberText known) (us ++ vs) l)
      rest c n us o z ws l r e =
          let p = onward_ok (valued (family_of n) BadNumber c (rest_by z ws)) (λ f more. agreed known c (list_number n f) more) (l, r) e in
          let f = p.0.0 in
          let v = valued_ok (family_of n) BadNumber c (rest_by z ws) f p.0.1 p.1 in
          let a = agreed_ok known c (list_number n f) l p.0.1 r p.2 in
          record {
            used = [];
            left = ws;
            split = refl;
            rest = sym a.2 ∙ v.1;
            text = subst (One (ListNumberText known) (us ++ [])) a.1
                (of_one (λ us. One (ListNumberText known) (us ++ []) (list_number n f)) us o
                (λ w t. record { word = w; only = refl; text = record { number = t; family = v.0; follows = a.0 } }));
            same = λ more. ap (λ o. onward (valued o BadNumber c (rest_by z (headed ws more))) (λ f more. agreed known c (list_number n f) more)) v.0
                ∙ a.3 (rest_by z (headed ws more));
          }

-- the end of a line, after its last part but the log
log_whole : (P : List (List ℕ) → EntryShape → Type 0) (make : Bool → EntryShape) → ((g : Bool) (gs : List (List ℕ)) → LogText gs g → P gs (make g))
    → Whole (λ r. onward (log_of r) (λ g. close_of (make g))) P
log_whole P make h = bind_whole P log_of (λ g. close_of (make g)) log_sound
    (λ g gs l. close_whole (λ vs e. P (gs ++ vs) e) (make g) (rw (append-nil gs) (h g gs l)))

standard_whole : (a : Action) (w : List ℕ) → ActionText w a → Whole (standard_of a) (λ vs e. EntryText Standard (w ∷ vs) e)
standard_whole a w t = bind_whole (λ vs e. EntryText Standard (w ∷ vs) e) source_of (standard_log a) source_sound
    (λ n ss s. log_whole (λ vs e. EntryText Standard (w ∷ (ss ++ vs)) e) (standard_entry a n) (λ g gs l. standard t s l))

extended_whole : (a : Action) (w : List ℕ) → ActionText w a → Whole (extended_of a) (λ vs e. EntryText Extended (w ∷ vs) e)
extended_whole a w t = bind_whole (λ vs e. EntryText Extended (w ∷ vs) e) protocol_of (source a) protocol_sound
    (λ p os o. of_one (λ os. Whole (source a p) (λ vs e. EntryText Extended (w ∷ (os ++ vs)) e)) os o (λ v q.
    bind_whole (λ vs e. EntryText Extended (w ∷ (v ∷ vs)) e) network_of (source_ports a p) network_sound
    (λ n ss s. bind_whole (λ vs e. EntryText Extended (w ∷ (v ∷ (ss ++ vs))) e) (ports_of p) (destination a p n) (ports_sound p)
    (λ st ts u. bind_whole (λ vs e. EntryText Extended (w ∷ (v ∷ (ss ++ (ts ++ vs)))) e) network_of (destination_ports a p n st) network_sound
    (λ m ds d. bind_whole (λ vs e. EntryText Extended (w ∷ (v ∷ (ss ++ (ts ++ (ds ++ vs))))) e) (ports_of p) (extended_log a p n st m) (ports_sound p)
    (λ dt us x. log_whole (λ vs e. EntryText Extended (w ∷ (v ∷ (ss ++ (ts ++ (ds ++ (us ++ vs)))))) e) (extended_entry a p n st m dt)
    (λ g gs l. extended t q s u.test u.allowed d x.test x.allowed l)))))))

form_whole : (f : Family) (a : Action) (w : List ℕ) → ActionText w a → Whole (form_of f a) (λ vs e. EntryText f (w ∷ vs) e)
form_whole Standard a w t = standard_whole a w t
form_whole Extended a w t = extended_whole a w t

-- an entry takes every word of its line
pub entry_sound : (f : Family) (z : ℕ) (ws : List Spanned) (e : EntryShape) (r : Rest) → entry_of f (rest_by z ws) ≡ Ok (e, r) → EntryText f (map bytes_of ws) e
entry_sound f = bind_whole (EntryText f) action_of (form_of f) action_sound
    (λ a us o. of_one (λ us. Whole (form_of f a) (λ vs e. EntryText f (us ++ vs) e)) us o (form_whole f a))
