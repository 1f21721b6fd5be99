-- A profile is what the list says, or the plain order. Assumes nothing.
use Rattle.std.proofs.Common.{get_or, ◌∙◌, rules}
use Rattle.orders.proofs.Calls.{filled_by}
use Rattle.orders.proofs.Inverse.{turned, read_low}
use Rattle.orders.proofs.Once.{shortly, at_length}
use Rattle.orders.proofs.profile.Profile.make.Goals as goal

pub returns-in_default : goal.returns-in_default
returns-in_default c = record {
  good = λ h. absurd (c.in_default.ensures (at_length c.args.list.now h));
  bad = λ n p lt. read_low c.plain.result.bits p lt ∙ c.plain.ensures p lt;
}

pub invariant_of-result : goal.invariant_of-result
invariant_of-result c =
    let xs = c.args.list.now in
    let bits = c.from_fn-bits.result in
    let copied = filled_by (λ i. get_or xs i 0) (λ i y q k. search rules) bits c.from_fn-bits.ensures.items in
    record { sound = turned xs bits c.in-Some.places c.in-Some.ensures.0 c.in-Some.ensures.1 (λ p l. copied p 0 l) }

pub returns : goal.returns
returns c =
    let xs = c.args.list.now in
    let bits = c.from_fn-bits.result in
    record {
      good = λ h p l. read_low bits p l ∙ filled_by (λ i. get_or xs i 0) (λ i y q k. search rules) bits c.from_fn-bits.ensures.items p 0 l;
      bad = λ n. absurd (n (shortly xs c.in-Some.ensures.0));
    }
