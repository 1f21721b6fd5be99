-- The words written of a line have the forms of the grammar. Assumes nothing.
use Rattle.std.proofs.Common.{◌≡◌, ℕ, ◌-◌, ◌/◌, ◌%◌, ◌^◌, ◌<◌, ◌≤◌, Bool, true, false, cond, eqb, ltb, List, [], ◌∷◌, length, codes, decimal, sym, refl, ap, ◌∙◌, subst, arith, length-append}
use lib.Bits.{bit_and, and_mask}
use Rattle.std.proofs.lemmas.Nat.{and-not, and_comm}
use Rattle.std.proofs.lemmas.Bool.{eqb-true, ltb-true, leb-true}
use Rattle.acl.specs.declared.terms.Action.{Action}
use Rattle.acl.specs.declared.terms.Action.TheVariants.{Deny, Permit}
use Rattle.acl.specs.declared.terms.Protocol.{Protocol}
use Rattle.acl.specs.declared.terms.Protocol.TheVariants.{Any as AnyProtocol, Number}
use Rattle.acl.specs.declared.terms.PortTest.{PortTest}
use Rattle.acl.specs.declared.terms.PortTest.TheVariants.{Any as AnyPort, Eq, Neq, Lt, Gt, Range}
use Rattle.acl.specs.declared.side.Side.{Side}
use Rattle.acl.specs.declared.line.Line.{Line}
use Rattle.acl.specs.Shapes.{SideShape, Shape, side_shape, any_side, shape}
use Rattle.acl.specs.Terms.{port_case, protocol_case, ordered, protocol_narrow, ports_narrow, ports_allowed}
use Rattle.words.specs.Meaning.{AddressText}
use Rattle.ios.specs.declared.family.Family.{Family}
use Rattle.ios.specs.declared.family.Family.TheVariants.{Standard, Extended}
use Rattle.ios.specs.Entries.{EntryShape, network, everywhere, side_of}
use Rattle.ios.specs.Grammar.{ActionText, ProtocolText, NetworkText, PortText, PortsText, LogText, EntryText}
use Rattle.ios.specs.Grammar.NetworkText.{any, host, pair}
use Rattle.ios.specs.Grammar.SourceText.{side}
use Rattle.ios.specs.Grammar.EntryText.{standard, extended}
use Rattle.writer.specs.Canon.{dotted, network_words, port_words, protocol_word, action_word, log_words, entry_words}
use Rattle.writer.specs.Writing.{standard_line, allowed}
use Rattle.writer.proofs.Plain.{Plain, Plains, parts, key, plain_decimal, plain_dotted, plains_append}

-- a number that is cleared under a wildcard is kept under its complement
kept : (k a w : ℕ) → a < 2 ^ k → w < 2 ^ k → bit_and a w ≡ 0 → bit_and a (2 ^ k - 1 - w) ≡ a
kept k a w h l e = and_comm a (2 ^ k - 1 - w) ∙ omega (arith, and-not k w a l h, and_comm w a, e)

-- a side is read back as it was
side_back : (s : Side) → side_of (network s.address s.wildcard) s.ports ≡ side_shape s
side_back s =
    let e : bit_and s.address (4294967295 - s.wildcard) ≡ s.address =
    kept 32 s.address s.wildcard s.address_width s.wildcard_width s.cleared in
    ap (λ a. record { address = a; wildcard = s.wildcard; ports = s.ports }) e

-- where all bits are ignored the address is 0
none_left : (a w : ℕ) → a < 2 ^ 32 → w ≡ 4294967295 → bit_and a w ≡ 0 → a ≡ 0
none_left a w h e c = omega (arith, and_mask a 32, ap (bit_and a) (sym e) ∙ c)

address_text : (a : ℕ) → a < 2 ^ 32 → AddressText (dotted a) a
address_text a h = record {
  a = a / 16777216;
  b = a / 65536 % 256;
  c = a / 256 % 256;
  d = a % 256;
  small = (omega arith, omega arith, omega arith, omega arith);
  bytes = refl;
  value = omega arith;
}

-- words that have a form, and are plain and few
pub record Formed {A : Type 0} (R : List (List ℕ) → A → Type 0) (most : ℕ) (ws : List (List ℕ)) (a : A) : Type 0 where
  pub form : R ws a
  pub plain : Plains ws
  pub few : length ws ≤ most

-- a word that has a form, and is plain
record FormedWord {A : Type 0} (R : List ℕ → A → Type 0) (w : List ℕ) (a : A) : Type 0 where
  form : R w a
  plain : Plain w

network_formed : (s : Side) → Formed NetworkText 2 (network_words (side_shape s)) (network s.address s.wildcard)
network_formed s = go (eqb s.wildcard 4294967295) (eqb s.wildcard 0) refl refl where
  a : ℕ
  a = s.address

  w : ℕ
  w = s.wildcard

  go : (x y : Bool) → eqb w 4294967295 ≡ x → eqb w 0 ≡ y
      → Formed NetworkText 2 (cond x (codes "any" ∷ []) (cond y (codes "host" ∷ (dotted a ∷ [])) (dotted a ∷ (dotted w ∷ [])))) (network a w)
  go true y e f =
      let all = eqb-true w 4294967295 e in
      let none = none_left a w s.address_width all s.cleared in
      let is : everywhere ≡ network a w = ap (network 0) (sym all) ∙ ap (λ x. network x w) (sym none) in
      record { form = subst (NetworkText (codes "any" ∷ [])) is (any refl); plain = (key (codes "any") refl, tt); few = omega arith }
  go false true e f =
      let is : network a 0 ≡ network a w = ap (network a) (sym (eqb-true w 0 f)) in
      record {
        form = subst (NetworkText (codes "host" ∷ (dotted a ∷ []))) is (host refl (address_text a s.address_width));
        plain = (key (codes "host") refl, (plain_dotted a s.address_width, tt));
        few = omega arith;
      }
  go false false e f = record {
    form = pair (address_text a s.address_width) (address_text w s.wildcard_width);
    plain = (plain_dotted a s.address_width, (plain_dotted w s.wildcard_width, tt));
    few = omega arith;
  }

port_formed : (n : ℕ) → ltb n 65536 ≡ true → FormedWord PortText (decimal n) n
port_formed n h =
    let small = ltb-true n 65536 h in
    record { form = record { bytes = refl; small = omega arith }; plain = plain_decimal n (omega arith) }

ports_formed : (t : PortTest) → ordered t ≡ true → ports_narrow t ≡ true → Formed PortsText 3 (port_words t) t
ports_formed AnyPort o h = record { form = PortsText.no_test; plain = tt; few = omega arith }
ports_formed (Eq n) o h =
    let p = port_formed n h in
    record { form = PortsText.eq refl p.form; plain = (key (codes "eq") refl, (p.plain, tt)); few = omega arith }
ports_formed (Neq n) o h =
    let p = port_formed n h in
    record { form = PortsText.neq refl p.form; plain = (key (codes "neq") refl, (p.plain, tt)); few = omega arith }
ports_formed (Lt n) o h =
    let p = port_formed n h in
    record { form = PortsText.lt refl p.form; plain = (key (codes "lt") refl, (p.plain, tt)); few = omega arith }
ports_formed (Gt n) o h =
    let p = port_formed n h in
    record { form = PortsText.gt refl p.form; plain = (key (codes "gt") refl, (p.plain, tt)); few = omega arith }
ports_formed (Range a b) o h =
    let n = parts (ltb a 65536) (ltb b 65536) h in
    let p = port_formed a n.0 in
    let q = port_formed b n.1 in
    record {
      form = PortsText.range refl p.form q.form (leb-true a b o);
      plain = (key (codes "range") refl, (p.plain, (q.plain, tt)));
      few = omega arith;
    }

side_ports : (s : Side) → Formed PortsText 3 (port_words s.ports) s.ports
side_ports s = ports_formed s.ports s.forward s.ports_width

protocol_formed : (p : Protocol) → protocol_narrow p ≡ true → FormedWord ProtocolText (protocol_word p) p
protocol_formed AnyProtocol h = record { form = ProtocolText.ip refl; plain = key (codes "ip") refl }
protocol_formed (Number n) h = go (eqb n 1) (eqb n 6) (eqb n 17) refl refl refl where
  go : (x y z : Bool) → eqb n 1 ≡ x → eqb n 6 ≡ y → eqb n 17 ≡ z
      → FormedWord ProtocolText (cond x (codes "icmp") (cond y (codes "tcp") (cond z (codes "udp") (decimal n)))) (Number n)
  go true y z e f g = rw (eqb-true n 1 e) (record { form = ProtocolText.icmp refl; plain = key (codes "icmp") refl })
  go false true z e f g = rw (eqb-true n 6 f) (record { form = ProtocolText.tcp refl; plain = key (codes "tcp") refl })
  go false false true e f g = rw (eqb-true n 17 g) (record { form = ProtocolText.udp refl; plain = key (codes "udp") refl })
  go false false false e f g =
      let small = ltb-true n 256 h in
      record { form = ProtocolText.number refl (omega arith); plain = plain_decimal n (omega arith) }

action_formed : (a : Action) → FormedWord ActionText (action_word a) a
action_formed Deny = record { form = ActionText.deny refl; plain = key (codes "deny") refl }
action_formed Permit = record { form = ActionText.permit refl; plain = key (codes "permit") refl }

log_formed : (g : Bool) → Formed LogText 1 (log_words g) g
log_formed false = record { form = LogText.no_log; plain = tt; few = omega arith }
log_formed true = record { form = LogText.logged refl; plain = (key (codes "log") refl, tt); few = omega arith }

-- a line without its number
abbrev pub entry_back : Shape → EntryShape
entry_back l = record { action = l.action; protocol = l.protocol; log = l.log; source = l.source; destination = l.destination }

extended_formed : (l : Line) → Formed (EntryText Extended) 13 (entry_words Extended (shape l)) (entry_back (shape l))
extended_formed l =
    let a = action_formed l.action in
    let p = protocol_formed l.protocol l.protocol_width in
    let s = network_formed l.source in
    let t = side_ports l.source in
    let d = network_formed l.destination in
    let u = side_ports l.destination in
    let g = log_formed l.log in
    let entry : SideShape → SideShape → EntryShape = λ x y. record { action = l.action; protocol = l.protocol; log = l.log; source = x; destination = y } in
    let is = ap (λ x. entry x (side_of (network l.destination.address l.destination.wildcard) l.destination.ports)) (side_back l.source)
    ∙ ap (entry (side_shape l.source)) (side_back l.destination) in
    record {
      form = subst (EntryText Extended (entry_words Extended (shape l))) is
          (extended a.form p.form s.form t.form l.source_ports d.form u.form l.destination_ports g.form);
      plain = (
        a.plain,
        (
          p.plain,
          plains_append _ _ s.plain (plains_append _ _ t.plain
              (plains_append _ _ d.plain (plains_append _ _ u.plain g.plain))),
        ),
      );
      few = simp length-append (omega (arith, s.few, t.few, d.few, u.few, g.few));
    }

-- the terms of number 0
any_protocol : (p : Protocol) → eqb (protocol_case p).number 0 ≡ true → p ≡ AnyProtocol
any_protocol AnyProtocol e = refl
any_protocol (Number n) e = cc

any_ports : (t : PortTest) → eqb (port_case t).number 0 ≡ true → t ≡ AnyPort
any_ports AnyPort e = refl
any_ports (Eq n) e = cc
any_ports (Neq n) e = cc
any_ports (Lt n) e = cc
any_ports (Gt n) e = cc
any_ports (Range a b) e = cc

-- any protocol allows no port test
no_ports : (p : Protocol) (t : PortTest) → p ≡ AnyProtocol → ports_allowed p t ≡ true → t ≡ AnyPort
no_ports p t e h = any_ports t (go (eqb (port_case t).number 0) (subst (λ q. ports_allowed q t ≡ true) e h)) where
  go : (x : Bool) → cond x true false ≡ true → x ≡ true
  go true e = e
  go false e = e

any_side_lem : (s : Side) → eqb s.wildcard 4294967295 ≡ true → eqb (port_case s.ports).number 0 ≡ true → side_shape s ≡ any_side
any_side_lem s e h =
    let all = eqb-true s.wildcard 4294967295 e in
    let none = none_left s.address s.wildcard s.address_width all s.cleared in
    let ports = any_ports s.ports h in
    let made : ℕ → ℕ → PortTest → SideShape = λ a w t. record { address = a; wildcard = w; ports = t } in
    ap (λ a. made a s.wildcard s.ports) none ∙ ap (λ w. made 0 w s.ports) all ∙ ap (made 0 4294967295) ports

standard_formed : (l : Line) → standard_line (shape l) ≡ true → Formed (EntryText Standard) 13 (entry_words Standard (shape l)) (entry_back (shape l))
standard_formed l h =
    let p = parts (eqb (protocol_case l.protocol).number 0) _ h in
    let q = parts (eqb l.destination.wildcard 4294967295) _ p.1 in
    let protocol = any_protocol l.protocol p.0 in
    let ports = no_ports l.protocol l.source.ports protocol l.source_ports in
    let destination = any_side_lem l.destination q.0 q.1 in
    let a = action_formed l.action in
    let s = network_formed l.source in
    let g = log_formed l.log in
    let entry : Protocol → SideShape → SideShape → EntryShape =
    λ r x y. record { action = l.action; protocol = r; log = l.log; source = x; destination = y } in
    let source : side_of (network l.source.address l.source.wildcard) AnyPort ≡ side_shape l.source
    = ap (side_of (network l.source.address l.source.wildcard)) (sym ports) ∙ side_back l.source in
    let is = ap (λ r. entry r (side_of (network l.source.address l.source.wildcard) AnyPort) any_side) (sym protocol)
    ∙ ap (λ x. entry l.protocol x any_side) source ∙ ap (entry l.protocol (side_shape l.source)) (sym destination) in
    record {
      form = subst (EntryText Standard (entry_words Standard (shape l))) is (standard a.form (side s.form) g.form);
      plain = (a.plain, plains_append _ _ s.plain g.plain);
      few = simp length-append (omega (arith, s.few, g.few));
    }

-- the words after the list number
pub entry_formed : (f : Family) (l : Line) → allowed f (shape l ∷ []) ≡ true → Formed (EntryText f) 13 (entry_words f (shape l)) (entry_back (shape l))
entry_formed Standard l h = standard_formed l (parts (standard_line (shape l)) true h).0
entry_formed Extended l h = extended_formed l
