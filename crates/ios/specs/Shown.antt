-- What the answers of the reader's functions show of entries. Assumes nothing.
use Rattle.std.specs.Prelude.{Some, None, Ok, Err, Option, Result}
use Rattle.acl.specs.declared.terms.PortTest.{PortTest}
use Rattle.words.specs.declared.part.Stop.{Stop}
use Rattle.words.specs.declared.part.Word.{Word}
use Rattle.words.specs.Words.{Spanned}
use Rattle.words.specs.Cursor.{word_shown}
use Rattle.ios.specs.declared.entry.Entry.{Entry}
use Rattle.ios.specs.declared.ports.SidePorts.{SidePorts}
use Rattle.ios.specs.declared.said.Said.{Said as CodeSaid}
use Rattle.ios.specs.Entries.{EntryShape, entry_shape}
use Rattle.ios.specs.Parsing.{Said, said}

-- a word that a function gave, or its stop
abbrev pub shown_ok : Result Word Stop → Result Spanned Stop
shown_ok (Ok w) = Ok (word_shown w)
shown_ok (Err s) = Err s

-- a port test that a function gave, or its stop
abbrev pub ports_ok : Result SidePorts Stop → Result PortTest Stop
ports_ok (Ok p) = Ok p.test
ports_ok (Err s) = Err s

-- an entry that a function gave, or its stop
abbrev pub entry_ok : Result Entry Stop → Result EntryShape Stop
entry_ok (Ok e) = Ok (entry_shape e)
entry_ok (Err s) = Err s

-- an entry, if there is one
abbrev pub entry_some : Option Entry → Option EntryShape
entry_some None = None
entry_some (Some e) = Some (entry_shape e)

-- what a text line says, as a function gave it
abbrev pub said_ok : Result CodeSaid Stop → Result Said Stop
said_ok (Ok s) = Ok (said s.known (entry_some s.entry))
said_ok (Err s) = Err s
