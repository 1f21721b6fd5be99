-- What a kind of verdict means, and what it hears of a line. Assumes nothing.
use Rattle.std.specs.Prelude.{ℕ, ◌+◌, ◌*◌, Some, None, Option}
use Rattle.acl.specs.Terms.{action_number}
use Rattle.acl.specs.declared.line.Line.{Line}
use Rattle.kinds.specs.declared.heard.Heard.{Heard}
pub use Rattle.kinds.specs.Laws.{KindMeaning, LawfulKind}
use Rattle.kinds.specs.declared.kind.Kind as kind

-- what a kind hears of a line: its action and its number
abbrev pub heard_of : Line → Heard
heard_of x = record { action = x.action; number = record { value = x.number; from_one = x.numbered; to_limit = x.few } }

-- the meaning of a kind of the code
abbrev pub kind_of : {K V : Type 0} → kind.Ghosts K V → K → KindMeaning V
kind_of g k = record { of_line = g.line k; at_end = g.last k; code = g.coded k }

-- the numbered kind's codes: 2 × the line's number, plus 1 for permit, and 0 at the end
abbrev pub numbered_code : Option Heard → ℕ
numbered_code None = 0
numbered_code (Some x) = 2 * x.number.value + action_number x.action
