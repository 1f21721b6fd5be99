-- One text line more: what the reader's step says of the text from there on. Assumes nothing.
use Rattle.std.specs.Prelude.{◌≡◌, ℕ, ◌+◌, ◌≤◌, List, Some, None, Ok, Err, Option, Result}
use Rattle.ios.specs.declared.entry.Entry.{Entry}
use Rattle.ios.specs.declared.outcome.Fault.{Fault}
use Rattle.ios.specs.declared.state.State.{State}
use Rattle.ios.specs.Entries.{entry_shape, numbered}
use Rattle.ios.specs.Parsing.{line_says}
use Rattle.ios.specs.Reading.{Text, refused, added, scan_by}

-- what a text line says, before the rest of the text; k lines stand after it
abbrev pub stepped : Result (Option Entry) Fault → ℕ → Text → Text
stepped (Err f) k rest = refused f
stepped (Ok None) k rest = rest
stepped (Ok (Some e)) k rest = added (numbered k (entry_shape e)) rest

-- how many lines it adds
abbrev pub adds : Result (Option Entry) Fault → ℕ
adds (Err f) = 0
adds (Ok None) = 0
adds (Ok (Some e)) = 1

-- the step from one state to the next: what it says of the text, and how the counts move
pub record Steps (before after : State) (bytes : List ℕ) (r : Result (Option Entry) Fault) : Type 0 where
  pub text : (go : Option ℕ → ℕ → Text) → scan_by (before.line + 1) before.count (line_says before.known bytes) go ≡ stepped r after.count (go after.known after.count)
  pub line : after.line ≡ before.line + 1
  pub count : after.count ≡ before.count + adds r
  pub few : after.count ≤ 1024
