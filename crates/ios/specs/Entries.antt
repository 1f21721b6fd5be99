-- What a text line says, before its line gets a number. Assumes nothing.
use Rattle.std.specs.Prelude.{ℕ, ◌-◌, Bool, bit_and}
use Rattle.acl.specs.declared.terms.Action.{Action}
use Rattle.acl.specs.declared.terms.Protocol.{Protocol}
use Rattle.acl.specs.declared.terms.Protocol.TheVariants.{Any as AnyProtocol}
use Rattle.acl.specs.declared.terms.PortTest.{PortTest}
use Rattle.acl.specs.declared.terms.PortTest.TheVariants.{Any as AnyPort}
use Rattle.acl.specs.Shapes.{SideShape, Shape, side_shape, any_side}
use Rattle.ios.specs.declared.entry.Entry.{Entry}
use Rattle.ios.specs.declared.family.Network.{Network}

-- the contents of an entry as a plain record: a line without its number
pub record EntryShape : Type 0 where
  pub action : Action
  pub protocol : Protocol
  pub log : Bool
  pub source : SideShape
  pub destination : SideShape

-- the contents of an entry
abbrev pub entry_shape : Entry → EntryShape
entry_shape e = record { action = e.action; protocol = e.protocol; log = e.log; source = side_shape e.source; destination = side_shape e.destination }

-- the line that an entry makes under a number
abbrev pub numbered : ℕ → EntryShape → Shape
numbered n e = record { action = e.action; number = n; protocol = e.protocol; log = e.log; source = e.source; destination = e.destination }

-- the addresses that an address and a wildcard stand for
abbrev pub network : ℕ → ℕ → Network
network a w = record { address = a; wildcard = w }

-- every address
abbrev pub everywhere : Network
everywhere = network 0 4294967295

-- a side of a line: the address bits under the wildcard are cleared
abbrev pub side_of : Network → PortTest → SideShape
side_of n t = record { address = bit_and n.address (4294967295 - n.wildcard); wildcard = n.wildcard; ports = t }

-- a standard line has any protocol and any destination
abbrev pub standard_entry : Action → Network → Bool → EntryShape
standard_entry a n g = record { action = a; protocol = AnyProtocol; log = g; source = side_of n AnyPort; destination = any_side }

-- an extended line has all of its terms written
abbrev pub extended_entry : Action → Protocol → Network → PortTest → Network → PortTest → Bool → EntryShape
extended_entry a p s st d dt g = record { action = a; protocol = p; log = g; source = side_of s st; destination = side_of d dt }
