-- Which headers a line fits, and the first line of a list that fits. Assumes nothing.
use Rattle.std.specs.Prelude.{ℕ, Bool, false, cond, List, [], ◌∷◌, Some, None, Option}
use Rattle.acl.specs.Bits.{alike}
use Rattle.acl.specs.Terms.{port_fits, protocol_fits}
use Rattle.acl.specs.Shapes.{SideShape, Shape, shape}
use Rattle.acl.specs.declared.header.Header.{Header}
use Rattle.acl.specs.declared.line.Line.{Line}

-- an address and a port fit a side: each of the address's 32 bits is ignored or is the side's, and the port test holds
abbrev pub side_fits : SideShape → ℕ → ℕ → Bool
side_fits s a p = cond (alike 32 s.wildcard a s.address) (port_fits s.ports p) false

-- a header fits a line in its protocol and on both sides
abbrev pub line_fits : Shape → Header → Bool
line_fits l h =
    cond (protocol_fits l.protocol h.protocol)
    (cond (side_fits l.source h.source h.source_port) (side_fits l.destination h.destination h.destination_port) false)
    false

-- the first line of a list that fits
abbrev pub first_match : List Shape → Header → Option Shape
first_match [] h = None
first_match (l ∷ ls) h = cond (line_fits l h) (Some l) (first_match ls h)

-- the contents of a line that was found, if one was
abbrev pub found_shape : Option Line → Option Shape
found_shape None = None
found_shape (Some l) = Some (shape l)
