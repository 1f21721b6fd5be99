-- The text of an answer and of the last line. Assumes nothing.
use Rattle.std.specs.Prelude.{ℕ, ◌+◌, List, [], ◌∷◌, ◌++◌, Some, None, codes, decimal, Option}
use Rattle.acl.specs.Fits.{found_shape}
use Rattle.acl.specs.Shapes.{Shape}
use Rattle.acl.specs.Terms.{action_text}
use Rattle.deciding.specs.declared.answer.Answer.{Answer}
use Rattle.deciding.specs.declared.answer.Answer.TheVariants.{Decided, Bad}
use Rattle.deciding.specs.declared.answer.Tally.{Tally}

-- a line of the output
abbrev pub line_text : List ℕ → List ℕ
line_text bs = bs ++ (10 ∷ [])

-- the verdict of the line that decides: `permit 3` or `deny 7`; where none does, `deny end`
abbrev pub verdict_text : Option Shape → List ℕ
verdict_text None = codes "deny end"
verdict_text (Some s) = action_text s.action ++ (32 ∷ decimal s.number)

-- a malformed header: `bad header 2 14`
abbrev pub bad_text : ℕ → ℕ → List ℕ
bad_text t c = codes "bad header " ++ (decimal t ++ (32 ∷ decimal c))

-- an answer of the code, as it is printed
abbrev pub answer_text : Answer → List ℕ
answer_text (Decided found) = verdict_text (found_shape found)
answer_text (Bad t c) = bad_text t c

-- the last line: `4 lines, 5 headers: 2 permit, 2 deny, 1 bad`
abbrev pub summary_text : ℕ → Tally → List ℕ
summary_text k t =
    decimal k ++ (codes " lines, " ++ (decimal (t.permit + t.deny + t.bad) ++ (codes " headers: "
    ++ (decimal t.permit ++ (codes " permit, " ++ (decimal t.deny ++ (codes " deny, " ++ (decimal t.bad ++ codes " bad"))))))))
