-- What is read are the contents of lines: each entry of the form has the facts that every line keeps. Assumes nothing.
use Rattle.std.proofs.Common.{◌≡◌, ℕ, ◌+◌, ◌-◌, ◌^◌, ◌<◌, ◌≤◌, true, List, [], ◌∷◌, map, length, Ok, Option, sym, refl, ap, ◌∙◌, arith}
use lib.Bits.{bit_and, and_le_l}
use Rattle.std.proofs.lemmas.Bool.{lt-ltb, le-leb}
use Rattle.acl.specs.declared.terms.Protocol.{Protocol}
use Rattle.acl.specs.declared.terms.Protocol.TheVariants.{Any as AnyProtocol}
use Rattle.acl.specs.declared.terms.PortTest.{PortTest}
use Rattle.acl.specs.declared.terms.PortTest.TheVariants.{Any as AnyPort}
use Rattle.acl.specs.declared.side.Side.{Side}
use Rattle.acl.specs.declared.line.Line.{Line}
use Rattle.acl.specs.Shapes.{shape}
use Rattle.acl.specs.Terms.{ordered, protocol_narrow, ports_narrow}
use Rattle.acl.proofs.Masks.{clear}
use Rattle.words.specs.Meaning.{AddressText}
use Rattle.ios.specs.declared.family.Family.{Family}
use Rattle.ios.specs.declared.family.Network.{Network}
use Rattle.ios.specs.declared.outcome.Reading.{Reading}
use Rattle.ios.specs.Entries.{EntryShape, numbered, everywhere}
use Rattle.ios.specs.Reading.{read_of, text_of}
use Rattle.ios.specs.Grammar.{ProtocolText, NetworkText, SourceText, PortsText, EntryText, LineText, Lines, numbered_from}
use Rattle.ios.specs.Grammar.ProtocolText.{ip, icmp, igmp, tcp, udp, number}
use Rattle.ios.specs.Grammar.NetworkText.{any, host, pair}
use Rattle.ios.specs.Grammar.SourceText.{side, lone}
use Rattle.ios.specs.Grammar.PortsText.{no_test, eq, neq, lt, gt, range}
use Rattle.ios.specs.Grammar.EntryText.{standard, extended}
use Rattle.ios.specs.Grammar.LineText.{numbered_line}
use Rattle.ios.specs.Grammar.Lines.{no_lines, passed_line, remark_line, good_line}
use Rattle.ios.proofs.Whole.{reading_stands}

address_width : {w : List ℕ} {a : ℕ} → AddressText w a → a < 2 ^ 32
address_width t = let s = t.small in omega (arith, t.value, s.0, s.1, s.2, s.3)

-- addresses and wildcards have 32 bits
abbrev Wide : Network → Type 0
Wide n = (n.address < 2 ^ 32) × (n.wildcard < 2 ^ 32)

network_wide : {ws : List (List ℕ)} {n : Network} → NetworkText ws n → Wide n
network_wide (any k) = (omega arith, omega arith)
network_wide (host k a) = (address_width a, omega arith)
network_wide (pair a m) = (address_width a, address_width m)

source_wide : {ws : List (List ℕ)} {n : Network} → SourceText ws n → Wide n
source_wide (side t) = network_wide t
source_wide (lone a) = (address_width a, omega arith)

protocol_narrow_lem : {w : List ℕ} {p : Protocol} → ProtocolText w p → protocol_narrow p ≡ true
protocol_narrow_lem (ip k) = refl
protocol_narrow_lem (icmp k) = refl
protocol_narrow_lem (igmp k) = refl
protocol_narrow_lem (tcp k) = refl
protocol_narrow_lem (udp k) = refl
protocol_narrow_lem (number {n} e h) = lt-ltb n 256 (omega arith)

ports_narrow_lem : {ws : List (List ℕ)} {t : PortTest} → PortsText ws t → ports_narrow t ≡ true
ports_narrow_lem no_test = refl
ports_narrow_lem (eq {n} k p) = lt-ltb n 65536 (omega (arith, p.small))
ports_narrow_lem (neq {n} k p) = lt-ltb n 65536 (omega (arith, p.small))
ports_narrow_lem (lt {n} k p) = lt-ltb n 65536 (omega (arith, p.small))
ports_narrow_lem (gt {n} k p) = lt-ltb n 65536 (omega (arith, p.small))
ports_narrow_lem (range {a} {b} k p q h) = rw (lt-ltb a 65536 (omega (arith, p.small))) (lt-ltb b 65536 (omega (arith, q.small)))

ports_ordered : {ws : List (List ℕ)} {t : PortTest} → PortsText ws t → ordered t ≡ true
ports_ordered no_test = refl
ports_ordered (eq k p) = refl
ports_ordered (neq k p) = refl
ports_ordered (lt k p) = refl
ports_ordered (gt k p) = refl
ports_ordered (range {a} {b} k p q h) = le-leb a b h

-- the side that a network and a port test make
abbrev sided : (n : Network) (t : PortTest) → Wide n → ordered t ≡ true → ports_narrow t ≡ true → Side
sided n t w o p = record {
  address = bit_and n.address (4294967295 - n.wildcard);
  wildcard = n.wildcard;
  ports = t;
  cleared = clear 32 n.address n.wildcard w.1;
  forward = o;
  address_width = omega (arith, w.0, and_le_l n.address (4294967295 - n.wildcard));
  wildcard_width = w.1;
  ports_width = p;
}

-- the line of an entry under a number
entry_line : {f : Family} {ws : List (List ℕ)} {e : EntryShape} → EntryText f ws e → (k : ℕ) → 1 ≤ k → k ≤ 1024 → (l : Line) × (shape l ≡ numbered k e)
entry_line (standard {a} {n} {g} _ s _) k one few = (
  record {
    action = a;
    number = k;
    protocol = AnyProtocol;
    log = g;
    source = sided n AnyPort (source_wide s) refl refl;
    destination = sided everywhere AnyPort (omega arith, omega arith) refl refl;
    numbered = one;
    few = few;
    protocol_width = refl;
    source_ports = refl;
    destination_ports = refl;
  },
  refl,
)
entry_line (extended {a} {p} {s} {d} {t} {u} {g} _ name from ports allowed to ports' allowed' _) k one few = (
  record {
    action = a;
    number = k;
    protocol = p;
    log = g;
    source = sided s t (network_wide from) (ports_ordered ports) (ports_narrow_lem ports);
    destination = sided d u (network_wide to) (ports_ordered ports') (ports_narrow_lem ports');
    numbered = one;
    few = few;
    protocol_width = protocol_narrow_lem name;
    source_ports = allowed;
    destination_ports = allowed';
  },
  refl,
)

line_line : {n : ℕ} {ws : List (List ℕ)} {e : EntryShape} → LineText n ws e → (k : ℕ) → 1 ≤ k → k ≤ 1024 → (l : Line) × (shape l ≡ numbered k e)
line_line (numbered_line a b c t) = entry_line t

-- the lines of entries, numbered from k + 1 on
lined : (k : ℕ) {known after : Option ℕ} {ls : List (List ℕ)} {es : List EntryShape} → Lines known ls es after → k + length es ≤ 1024
    → (lines : List Line) × (map shape lines ≡ numbered_from k es)
lined k no_lines few = ([], refl)
lined k (passed_line a b c more) few = lined k more few
lined k (remark_line a b c d more) few = lined k more few
lined k (good_line {e} {es} a b t d more) few =
    let first = line_line t (k + 1) (omega arith) (omega arith) in
    let rest = lined (k + 1) more (omega arith) in
    (first.0 ∷ rest.0, ap (λ l. l ∷ map shape rest.0) first.1 ∙ ap (λ ss. numbered (k + 1) e ∷ ss) rest.1)

-- what is read of a text
pub read_lined : (bs : List ℕ) (room : ℕ) (r : Reading) → read_of bs room ≡ Ok r → (lines : List Line) × (map shape lines ≡ (text_of bs).lines)
read_lined bs room r e =
    let text = (reading_stands.sound bs room r e).0 in
    let ls = lined 0 text.form (omega (arith, text.few)) in
    (ls.0, ls.1 ∙ sym text.shapes)
