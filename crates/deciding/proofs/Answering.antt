-- What is printed and counted so far, before the text lines that are left. Assumes nothing.
use Rattle.std.proofs.Common.{◌≡◌, ℕ, ◌+◌, ◌≤◌, List, ◌++◌, length}
use Rattle.acl.specs.Shapes.{Shape}
use Rattle.words.specs.Lines.{text_lines}
use Rattle.deciding.specs.declared.answer.Tally.{Tally}
use Rattle.deciding.specs.Output.{answers_from, tally, tally_of}

abbrev plus : Tally → Tally → Tally
plus n m = tally (n.permit + m.permit) (n.deny + m.deny) (n.bad + m.bad)

-- after t text lines: what is printed and counted so far, before what is left
pub record Answering (ss : List Shape) (headers start left : List ℕ) (t : ℕ) (n : Tally) (out : List ℕ) : Type 0 where
  pub bound : t + length left ≤ length headers
  pub few : n.permit + n.deny + n.bad ≤ t
  pub text : start ++ answers_from ss 1 (text_lines headers) ≡ out ++ answers_from ss (t + 1) (text_lines left)
  pub count : tally_of ss (text_lines headers) ≡ plus n (tally_of ss (text_lines left))
