-- The contents of a line as a plain record: a definition can make one without owing what every line keeps.
-- Assumes nothing.
use Rattle.std.specs.Prelude.{ℕ, Bool, false}
use Rattle.acl.specs.declared.terms.Action.{Action}
use Rattle.acl.specs.declared.terms.Action.TheVariants.{Permit}
use Rattle.acl.specs.declared.terms.Protocol.{Protocol}
use Rattle.acl.specs.declared.terms.Protocol.TheVariants.{Any as AnyProtocol}
use Rattle.acl.specs.declared.terms.PortTest.{PortTest}
use Rattle.acl.specs.declared.terms.PortTest.TheVariants.{Any as AnyPort}
use Rattle.acl.specs.declared.side.Side.{Side}
use Rattle.acl.specs.declared.line.Line.{Line}

-- one side of a line
pub record SideShape : Type 0 where
  pub address : ℕ
  pub wildcard : ℕ
  pub ports : PortTest

-- a line
pub record Shape : Type 0 where
  pub action : Action
  pub number : ℕ
  pub protocol : Protocol
  pub log : Bool
  pub source : SideShape
  pub destination : SideShape

-- the contents of a side
abbrev pub side_shape : Side → SideShape
side_shape s = record { address = s.address; wildcard = s.wildcard; ports = s.ports }

-- the contents of a line
abbrev pub shape : Line → Shape
shape l = record { action = l.action; number = l.number; protocol = l.protocol; log = l.log; source = side_shape l.source; destination = side_shape l.destination }

-- every address and every port
abbrev pub any_side : SideShape
any_side = record { address = 0; wildcard = 4294967295; ports = AnyPort }

-- the blank line permits everything and has number 1
abbrev pub blank_shape : Shape
blank_shape = record { action = Permit; number = 1; protocol = AnyProtocol; log = false; source = any_side; destination = any_side }
