-- What a text line says, word by word: an entry, nothing, or a stop at its first fault. Assumes nothing.
use Rattle.std.specs.Prelude.{ℕ, Bool, true, false, cond, ◌&&◌, ◌||◌, List, [], ◌∷◌, length, Some, None, Ok, Err, codes, Option, Result, ◌==◌, nat_le, nat_lt}
use Rattle.acl.specs.declared.refusal.Refusal.TheVariants.{TooLong, BadWord, BadNumber, BackwardRange, OtherList}
use Rattle.acl.specs.declared.terms.Action.{Action}
use Rattle.acl.specs.declared.terms.Action.TheVariants.{Deny, Permit}
use Rattle.acl.specs.declared.terms.Protocol.{Protocol}
use Rattle.acl.specs.declared.terms.Protocol.TheVariants.{Any as AnyProtocol, Number}
use Rattle.acl.specs.declared.terms.PortTest.{PortTest}
use Rattle.acl.specs.declared.terms.PortTest.TheVariants.{Any as AnyPort, Eq, Neq, Lt, Gt, Range}
use Rattle.acl.specs.Terms.{takes_ports}
use Rattle.words.specs.declared.part.Stop.{Stop}
use Rattle.words.specs.Keywords.{named, comment}
use Rattle.words.specs.Words.{Spanned}
use Rattle.words.specs.Cursor.{Rest, rest_of, begins_with_digit, passed, place, stop, Step, onward, expect_of, valued, address_of, number_of}
use Rattle.ios.specs.declared.family.Family.{Family}
use Rattle.ios.specs.declared.family.Family.TheVariants.{Standard, Extended}
use Rattle.ios.specs.declared.family.Network.{Network}
use Rattle.ios.specs.declared.family.ListNumber.{ListNumber}
use Rattle.ios.specs.Entries.{EntryShape, network, everywhere, standard_entry, extended_entry}

-- the next word is the keyword k
abbrev pub next_by : List Spanned → List ℕ → Bool
next_by [] k = false
next_by (w ∷ ws) k = named w.bytes k

-- the same of what is left
abbrev pub next_is : Rest → List ℕ → Bool
next_is r k = next_by r.words k

-- the next word begins with a digit
abbrev pub digit_by : List Spanned → Bool
digit_by [] = false
digit_by (w ∷ ws) = begins_with_digit w.bytes

-- the same of what is left
abbrev pub next_digit : Rest → Bool
next_digit r = digit_by r.words

-- n lies from low to high
abbrev pub between : ℕ → ℕ → ℕ → Bool
between low high n = nat_le low n && nat_le n high

-- standard lists have the numbers 1–99 and 1300–1999, extended ones 100–199 and 2000–2699
abbrev pub family_of : ℕ → Option Family
family_of n =
    cond (between 1 99 n || between 1300 1999 n) (Some Standard)
    (cond (between 100 199 n || between 2000 2699 n) (Some Extended) None)

-- a list number with the form of its lines
abbrev pub list_number : ℕ → Family → ListNumber
list_number n f = record { number = n; family = f }

-- a list number is the one that stood before, if one did
abbrev pub agreed : Option ℕ → ℕ → ListNumber → Rest → Step ListNumber
agreed None c l r = Ok (l, r)
agreed (Some known) c l r = cond (known == l.number) (Ok (l, r)) (Err (stop OtherList c))

-- the list number, after the one that is known
abbrev pub list_number_of : Option ℕ → Rest → Step ListNumber
list_number_of known r =
    onward (number_of 1 2699 r) (λ n more.
    onward (valued (family_of n) BadNumber (place r) more) (λ f more.
    agreed known (place r) (list_number n f) more))

-- the action that a word names
abbrev pub action_named : List ℕ → Option Action
action_named w = cond (named w (codes "permit")) (Some Permit) (cond (named w (codes "deny")) (Some Deny) None)

-- the next word as an action
abbrev pub action_of : Rest → Step Action
action_of r = onward (expect_of r) (λ w more. valued (action_named w.bytes) BadWord w.column more)

-- the protocol that a word names
abbrev pub protocol_named : List ℕ → Option Protocol
protocol_named w =
    cond (named w (codes "ip")) (Some AnyProtocol)
    (cond (named w (codes "icmp")) (Some (Number 1))
    (cond (named w (codes "igmp")) (Some (Number 2))
    (cond (named w (codes "tcp")) (Some (Number 6))
    (cond (named w (codes "udp")) (Some (Number 17)) None))))

-- a protocol word that begins with a digit is a number
abbrev pub protocol_of : Rest → Step Protocol
protocol_of r =
    cond (next_digit r)
    (onward (number_of 0 255 r) (λ n more. Ok (Number n, more)))
    (onward (expect_of r) (λ w more. valued (protocol_named w.bytes) BadWord w.column more))

-- the address after `host`
abbrev pub host_of : Rest → Step Network
host_of r = onward (address_of r) (λ a more. Ok (network a 0, more))

-- the wildcard after the address a
abbrev pub wildcard_of : ℕ → Rest → Step Network
wildcard_of a r = onward (address_of r) (λ w more. Ok (network a w, more))

-- the addresses of a side: `any`, `host A` or `A W`
abbrev pub network_of : Rest → Step Network
network_of r =
    cond (next_is r (codes "any")) (Ok (everywhere, passed r))
    (cond (next_is r (codes "host")) (host_of (passed r))
    (onward (address_of r) wildcard_of))

-- the end of a standard line's source: nothing, or `log`
abbrev pub closed_by : List Spanned → Bool
closed_by [] = true
closed_by (w ∷ ws) = named w.bytes (codes "log")

-- what may follow the address a in a standard line
abbrev pub lone_of : ℕ → Rest → Step Network
lone_of a r = cond (closed_by r.words) (Ok (network a 0, r)) (wildcard_of a r)

-- the source of a standard line: as above, and A before `log` or the end means host A
abbrev pub source_of : Rest → Step Network
source_of r =
    cond (next_is r (codes "any")) (Ok (everywhere, passed r))
    (cond (next_is r (codes "host")) (host_of (passed r))
    (onward (address_of r) lone_of))

-- the addresses of a side, by the form of the list
abbrev pub addresses_of : Family → Rest → Step Network
addresses_of Standard r = source_of r
addresses_of Extended r = network_of r

-- the next word as a port
abbrev pub port_of : Rest → Step ℕ
port_of r = number_of 0 65535 r

-- the range from a to b, or a stop at column c where it runs backward
abbrev pub forward_range : ℕ → ℕ → ℕ → Rest → Step PortTest
forward_range a b c r = cond (nat_le a b) (Ok (Range a b, r)) (Err (stop BackwardRange c))

-- a range stops at its second port where it runs backward
abbrev pub range_of : Rest → Step PortTest
range_of r = onward (port_of r) (λ a more. onward (port_of more) (λ b after. forward_range a b (place more) after))

-- a port test, or none
abbrev pub test_of : Rest → Step PortTest
test_of r =
    cond (next_is r (codes "eq")) (onward (port_of (passed r)) (λ n more. Ok (Eq n, more)))
    (cond (next_is r (codes "neq")) (onward (port_of (passed r)) (λ n more. Ok (Neq n, more)))
    (cond (next_is r (codes "lt")) (onward (port_of (passed r)) (λ n more. Ok (Lt n, more)))
    (cond (next_is r (codes "gt")) (onward (port_of (passed r)) (λ n more. Ok (Gt n, more)))
    (cond (next_is r (codes "range")) (range_of (passed r)) (Ok (AnyPort, r))))))

-- the port test of a side, which only some protocols take
abbrev pub ports_of : Protocol → Rest → Step PortTest
ports_of p r = cond (takes_ports p) (test_of r) (Ok (AnyPort, r))

-- the log mark, or none
abbrev pub log_of : Rest → Step Bool
log_of r = cond (next_is r (codes "log")) (Ok (true, passed r)) (Ok (false, r))

-- a line ends with its last word
abbrev pub closed : EntryShape → Rest → List Spanned → Step EntryShape
closed e r [] = Ok (e, r)
closed e r (w ∷ ws) = Err (stop BadWord w.column)

-- the same of what is left
abbrev pub close_of : EntryShape → Rest → Step EntryShape
close_of e r = closed e r r.words

-- `source [log]`
abbrev pub standard_of : Action → Rest → Step EntryShape
standard_of a r =
    onward (source_of r) (λ n more.
    onward (log_of more) (λ g more.
    close_of (standard_entry a n g) more))

-- `protocol source [ports] destination [ports] [log]`
abbrev pub extended_of : Action → Rest → Step EntryShape
extended_of a r =
    onward (protocol_of r) (λ p more.
    onward (network_of more) (λ s more.
    onward (ports_of p more) (λ st more.
    onward (network_of more) (λ d more.
    onward (ports_of p more) (λ dt more.
    onward (log_of more) (λ g more.
    close_of (extended_entry a p s st d dt g) more))))))

-- a line by the form of its list
abbrev pub form_of : Family → Action → Rest → Step EntryShape
form_of Standard a r = standard_of a r
form_of Extended a r = extended_of a r

-- the action, and then the line by its form
abbrev pub entry_of : Family → Rest → Step EntryShape
entry_of f r = onward (action_of r) (λ a more. form_of f a more)

-- what a text line says: the list number that is known after it, and an entry or nothing
pub record Said : Type 0 where
  pub known : Option ℕ
  pub entry : Option EntryShape

-- what a text line says
abbrev pub said : Option ℕ → Option EntryShape → Said
said n e = record { known = n; entry = e }

-- an entry of the list n, or its stop
abbrev pub line_said : ℕ → Step EntryShape → Result Said Stop
line_said n (Err s) = Err s
line_said n (Ok p) = Ok (said (Some n) (Some p.0))

-- after the list number: a remark, which says nothing, or an entry
abbrev pub body_says : Step ListNumber → Result Said Stop
body_says (Err s) = Err s
body_says (Ok p) = cond (next_is p.1 (codes "remark")) (Ok (said (Some p.0.number) None)) (line_said p.0.number (entry_of p.0.family p.1))

-- by the first word: nothing, a comment, a line of a list, or a stop
abbrev pub says_by : Option ℕ → Rest → List Spanned → Result Said Stop
says_by known r [] = Ok (said known None)
says_by known r (w ∷ ws) =
    cond (comment w.bytes) (Ok (said known None))
    (cond (named w.bytes (codes "access-list")) (body_says (list_number_of known (passed r))) (Err (stop BadWord w.column)))

-- what a text line's words say, after the list number that is known
abbrev pub says : Option ℕ → Rest → Result Said Stop
says known r = says_by known r r.words

-- a text line is at most 256 bytes long
abbrev pub line_says : Option ℕ → List ℕ → Result Said Stop
line_says known line = cond (nat_lt 256 (length line)) (Err (stop TooLong 256)) (says known (rest_of line))
