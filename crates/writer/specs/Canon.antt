-- The canonical text of a list: which words stand for a line, and how they are put together. Assumes nothing.
use Rattle.std.specs.Prelude.{ℕ, ◌/◌, ◌%◌, Bool, true, false, cond, List, [], ◌∷◌, ◌++◌, codes, decimal, ◌==◌}
use Rattle.acl.specs.declared.terms.Action.{Action}
use Rattle.acl.specs.declared.terms.Action.TheVariants.{Deny, Permit}
use Rattle.acl.specs.declared.terms.Protocol.{Protocol}
use Rattle.acl.specs.declared.terms.Protocol.TheVariants.{Any as AnyProtocol, Number}
use Rattle.acl.specs.declared.terms.PortTest.{PortTest}
use Rattle.acl.specs.declared.terms.PortTest.TheVariants.{Any as AnyPort, Eq, Neq, Lt, Gt, Range}
use Rattle.acl.specs.Shapes.{SideShape, Shape}
use Rattle.ios.specs.declared.family.Family.{Family}
use Rattle.ios.specs.declared.family.Family.TheVariants.{Standard, Extended}

-- an address: its four bytes in decimal, from the top, joined by dots
abbrev pub dotted : ℕ → List ℕ
dotted a = decimal (a / 16777216) ++ (46 ∷ (decimal (a / 65536 % 256) ++ (46 ∷ (decimal (a / 256 % 256) ++ (46 ∷ decimal (a % 256))))))

-- `any` where all bits are ignored, `host A` where none is, else `A W`
abbrev pub network_words : SideShape → List (List ℕ)
network_words s =
    cond (s.wildcard == 4294967295) (codes "any" ∷ [])
    (cond (s.wildcard == 0) (codes "host" ∷ (dotted s.address ∷ [])) (dotted s.address ∷ (dotted s.wildcard ∷ [])))

-- a port test, or no words for any
abbrev pub port_words : PortTest → List (List ℕ)
port_words AnyPort = []
port_words (Eq n) = codes "eq" ∷ (decimal n ∷ [])
port_words (Neq n) = codes "neq" ∷ (decimal n ∷ [])
port_words (Lt n) = codes "lt" ∷ (decimal n ∷ [])
port_words (Gt n) = codes "gt" ∷ (decimal n ∷ [])
port_words (Range a b) = codes "range" ∷ (decimal a ∷ (decimal b ∷ []))

-- three protocols have a name, and so has any; the others are numbers
abbrev pub protocol_word : Protocol → List ℕ
protocol_word AnyProtocol = codes "ip"
protocol_word (Number n) = cond (n == 1) (codes "icmp") (cond (n == 6) (codes "tcp") (cond (n == 17) (codes "udp") (decimal n)))

-- an action
abbrev pub action_word : Action → List ℕ
action_word Deny = codes "deny"
action_word Permit = codes "permit"

-- the log mark, or no words
abbrev pub log_words : Bool → List (List ℕ)
log_words false = []
log_words true = codes "log" ∷ []

-- the words after the list number
abbrev pub entry_words : Family → Shape → List (List ℕ)
entry_words Standard l = action_word l.action ∷ (network_words l.source ++ log_words l.log)
entry_words Extended l =
    action_word l.action ∷ (protocol_word l.protocol
    ∷ (network_words l.source ++ (port_words l.source.ports
    ++ (network_words l.destination ++ (port_words l.destination.ports ++ log_words l.log)))))

-- all words of a line
abbrev pub line_words : ℕ → Family → Shape → List (List ℕ)
line_words n f l = codes "access-list" ∷ (decimal n ∷ entry_words f l)

-- words after the first: a space before each, and byte 10 at the end
abbrev pub spaced : List (List ℕ) → List ℕ
spaced [] = 10 ∷ []
spaced (w ∷ ws) = (32 ∷ w) ++ spaced ws

-- a text line, with its end
abbrev pub line_bytes : ℕ → Family → Shape → List ℕ
line_bytes n f l = codes "access-list" ++ spaced (decimal n ∷ entry_words f l)

-- the canonical text of the list n
abbrev pub list_bytes : ℕ → Family → List Shape → List ℕ
list_bytes n f [] = []
list_bytes n f (l ∷ ls) = line_bytes n f l ++ list_bytes n f ls
