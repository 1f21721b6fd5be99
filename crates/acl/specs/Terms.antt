-- What an action, a protocol and a port test stand for. Each case gets its number, and where it
-- stands for a set of values, the test of that set. Assumes nothing.
use Rattle.std.specs.Prelude.{ℕ, Bool, true, false, cond, not, List, codes, ◌==◌, nat_le, nat_lt}
use Rattle.acl.specs.declared.terms.Action.{Action}
use Rattle.acl.specs.declared.terms.Action.TheVariants.{Deny, Permit}
use Rattle.acl.specs.declared.terms.Protocol.{Protocol}
use Rattle.acl.specs.declared.terms.Protocol.TheVariants.{Any as AnyProtocol, Number}
use Rattle.acl.specs.declared.terms.PortTest.{PortTest}
use Rattle.acl.specs.declared.terms.PortTest.TheVariants.{Any, Eq, Neq, Lt, Gt, Range}

-- deny is 0, permit is 1
abbrev pub action_number : Action → ℕ
action_number Deny = 0
action_number Permit = 1

-- an action as it is printed
abbrev pub action_text : Action → List ℕ
action_text Deny = codes "deny"
action_text Permit = codes "permit"

-- a case of an enum: its number, and which values it stands for
pub record Case : Type 0 where
  pub number : ℕ
  pub holds : ℕ → Bool

-- any stands for every protocol, a number for itself
abbrev pub protocol_case : Protocol → Case
protocol_case AnyProtocol = record { number = 0; holds = λ p. true }
protocol_case (Number n) = record { number = 1; holds = λ p. (p == n) }

-- the ports that each test stands for
abbrev pub port_case : PortTest → Case
port_case Any = record { number = 0; holds = λ p. true }
port_case (Eq n) = record { number = 1; holds = λ p. (p == n) }
port_case (Neq n) = record { number = 2; holds = λ p. not (p == n) }
port_case (Lt n) = record { number = 3; holds = λ p. nat_lt p n }
port_case (Gt n) = record { number = 4; holds = λ p. nat_lt n p }
port_case (Range a b) = record { number = 5; holds = λ p. cond (nat_le a p) (nat_le p b) false }

-- whether a protocol is one that the term stands for
abbrev pub protocol_fits : Protocol → ℕ → Bool
protocol_fits t p = (protocol_case t).holds p

-- whether a port is one that the test stands for
abbrev pub port_fits : PortTest → ℕ → Bool
port_fits t p = (port_case t).holds p

-- a range does not run backward
abbrev pub ordered : PortTest → Bool
ordered Any = true
ordered (Eq n) = true
ordered (Neq n) = true
ordered (Lt n) = true
ordered (Gt n) = true
ordered (Range a b) = nat_le a b

-- a protocol has 8 bits
abbrev pub protocol_narrow : Protocol → Bool
protocol_narrow AnyProtocol = true
protocol_narrow (Number n) = nat_lt n 256

-- the ports of a test have 16 bits
abbrev pub ports_narrow : PortTest → Bool
ports_narrow Any = true
ports_narrow (Eq n) = nat_lt n 65536
ports_narrow (Neq n) = nat_lt n 65536
ports_narrow (Lt n) = nat_lt n 65536
ports_narrow (Gt n) = nat_lt n 65536
ports_narrow (Range a b) = cond (nat_lt a 65536) (nat_lt b 65536) false

-- only protocols 6 and 17 have ports
abbrev pub takes_ports : Protocol → Bool
takes_ports AnyProtocol = false
takes_ports (Number n) = cond (n == 6) true (n == 17)

-- a port test other than any stands only beside a protocol that has ports
abbrev pub ports_allowed : Protocol → PortTest → Bool
ports_allowed p t = cond ((port_case t).number == 0) true (takes_ports p)
