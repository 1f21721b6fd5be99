-- The first exponent from above at which a block can start is the largest. Assumes nothing.
use Rattle.std.proofs.Common.{◌≡◌, ℕ, ◌+◌, ◌-◌, ◌<◌, ◌≤◌, true, false, Some, IfSome, MatchOption, ◌∙◌, rules}
use Rattle.std.specs.Option.{option_map}
use Rattle.std.proofs.iter.runs.Sources.{ranges}
use Rattle.pieces.specs.Blocks.{goes}
use Rattle.pieces.proofs.Trying.{first_found}
use Rattle.pieces.proofs.block.Ports.largest_exponent.Goals as goal

pub returns : goal.returns
returns c =
    let s = c.args.self in
    let run = c.find.ensures.runs.0 in
    let down : (k : ℕ) → k < run.len → option_map (λ y. y) (run.at k) ≡ Some (16 - k) = search (rules, ranges) in
    let few : run.len ≤ 16 = search (rules, ranges) in
    let all : run.whole ≡ true → run.len ≡ 16 = search (rules, ranges) in
    let tried : MatchOption c.find.result ((run.whole ≡ true) × ((k : ℕ) → IfSome (run.at k) (λ x. goes x s.at s.end ≡ false)))
    (λ e. (i : ℕ) × (run.len ≡ i + 1) × (run.at i ≡ Some e) × (goes e s.at s.end ≡ true) × ((k : ℕ) → k < i → IfSome (run.at k) (λ x. goes x s.at s.end ≡ false))) = search (rules, ranges) in
    c.unwrap_or.ensures ∙ first_found 16 s.at s.end run.at run.len down c.find.result run.whole few all tried
