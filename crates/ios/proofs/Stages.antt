-- What is left to read of a line after each of its parts. Assumes nothing.
use Rattle.acl.specs.declared.terms.Action.{Action}
use Rattle.acl.specs.declared.terms.Protocol.{Protocol}
use Rattle.acl.specs.declared.terms.PortTest.{PortTest}
use Rattle.words.specs.Cursor.{Rest, Step, onward}
use Rattle.ios.specs.declared.family.Network.{Network}
use Rattle.ios.specs.Entries.{EntryShape, standard_entry, extended_entry}
use Rattle.ios.specs.Parsing.{network_of, ports_of, log_of, close_of}

-- after the source of a standard line
abbrev pub standard_log : Action → Network → Rest → Step EntryShape
standard_log a n r = onward (log_of r) (λ g. close_of (standard_entry a n g))

-- after the parts of an extended line, from the last one on
abbrev pub extended_log : Action → Protocol → Network → PortTest → Network → PortTest → Rest → Step EntryShape
extended_log a p s st d dt r = onward (log_of r) (λ g. close_of (extended_entry a p s st d dt g))

abbrev pub destination_ports : Action → Protocol → Network → PortTest → Network → Rest → Step EntryShape
destination_ports a p s st d r = onward (ports_of p r) (extended_log a p s st d)

abbrev pub destination : Action → Protocol → Network → PortTest → Rest → Step EntryShape
destination a p s st r = onward (network_of r) (destination_ports a p s st)

abbrev pub source_ports : Action → Protocol → Network → Rest → Step EntryShape
source_ports a p s r = onward (ports_of p r) (destination a p s)

abbrev pub source : Action → Protocol → Rest → Step EntryShape
source a p r = onward (network_of r) (source_ports a p)
