-- Line numbers are the same where their values are, and verdicts where their codes are. Assumes nothing.
use Rattle.std.specs.Prelude.{◌≡◌, refl, ℕ, ◌+◌, ◌*◌, ◌≤◌, Some, None, Option}
use Rattle.std.proofs.Common.{ap, arith}
use mathlib.Core.HLevel.{is_prop→PathP}
use Rattle.std.proofs.Math.Bridge.{le_prop}
use Rattle.acl.specs.declared.terms.Action.{Action}
use Rattle.acl.specs.declared.terms.Action.TheVariants.{Deny, Permit}
use Rattle.acl.specs.Terms.{action_number}
use Rattle.kinds.specs.Kinds.{numbered_code}
use Rattle.kinds.specs.declared.heard.LineNumber.{LineNumber}
use Rattle.kinds.specs.declared.heard.Heard.{Heard}

-- a line number is its value: its bounds are facts
pub number_same : (m n : LineNumber) → m.value ≡ n.value → m ≡ n
number_same m n e = λ i. record {
  value = e i;
  from_one = is_prop→PathP (λ j. 1 ≤ e j) (λ j. le_prop) m.from_one n.from_one i;
  to_limit = is_prop→PathP (λ j. e j ≤ 1024) (λ j. le_prop) m.to_limit n.to_limit i;
}

-- what is heard of a line is its action and its number's value
pub heard_same : (x y : Heard) → x.action ≡ y.action → x.number.value ≡ y.number.value → x ≡ y
heard_same x y a e = let n : x.number ≡ y.number = number_same x.number y.number e in λ i. record { action = a i; number = n i }

-- twice a number and an action tell both
both_same : (a b : Action) (m n : ℕ) → 2 * m + action_number a ≡ 2 * n + action_number b → (a ≡ b) × (m ≡ n)
both_same Deny Deny m n e = (refl, omega arith)
both_same Deny Permit m n e = absurd (omega arith)
both_same Permit Deny m n e = absurd (omega arith)
both_same Permit Permit m n e = (refl, omega arith)

-- so the numbered kind's codes tell its verdicts
pub decided_same : (v w : Option Heard) → numbered_code v ≡ numbered_code w → v ≡ w
decided_same None None e = refl
decided_same None (Some x) e = absurd (omega (arith, x.number.from_one))
decided_same (Some x) None e = absurd (omega (arith, x.number.from_one))
decided_same (Some x) (Some y) e =
    let s = both_same x.action y.action x.number.value y.number.value e in
    ap Some (heard_same x y s.0 s.1)
