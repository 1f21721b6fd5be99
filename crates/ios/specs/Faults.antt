-- How a refusal is printed. Assumes nothing.
use Rattle.std.specs.Prelude.{ℕ, List, ◌∷◌, ◌++◌, codes, decimal}
use Rattle.acl.specs.Refusals.{refusal_number}
use Rattle.ios.specs.declared.outcome.Fault.{Fault}

-- `refused 12 3 18`: the refusal's number, the text line and the column
abbrev pub fault_text : Fault → List ℕ
fault_text f = codes "refused " ++ (decimal (refusal_number f.refusal) ++ (32 ∷ (decimal f.line ++ (32 ∷ decimal f.column))))
