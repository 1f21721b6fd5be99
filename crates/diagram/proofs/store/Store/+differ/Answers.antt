-- The bit at `from`, and then those of the ways on. Assumes nothing.
use Rattle.std.proofs.Common.{◌≡◌, ℕ, Bool, true, false, get_or, set, ap, ◌∙◌, arith, rules}
use Rattle.diagram.proofs.Walked.{same_ref_true, same_ref_false, turned_high, turned_low}
use Rattle.diagram.proofs.store.Store.+differ.Goals as goal

pub returns-then-same-clause-row : goal.returns-then-same-clause-row
returns-then-same-clause-row t c =
    let s = c.args.self.now in
    let p : ℕ = c.args.from in
    let old = c.args.bits.now in
    let la = c.branches-low_a.result.0 in
    let lb = c.branches-low_b.result.0 in
    let e : c.eq-same.result ≡ true = c.if-same.true in
    turned_high s p c.args.a c.args.b la c.branches-low_a.result.1 lb c.branches-low_b.result.1 old c.differ.new.bits
    c.if-from.false (omega arith) c.branches-low_a.ensures c.branches-low_b.ensures
    (record {
      same = same_ref_true la lb (search rules);
      before = λ k m. c.differ.ensures.before k m ∙ ap (λ (x : Bool). get_or (set old p x) k false) e;
      row = c.differ.ensures.row;
    })

pub returns-else-same-clause-row : goal.returns-else-same-clause-row
returns-else-same-clause-row t c =
    let s = c.args.self.now in
    let p : ℕ = c.args.from in
    let old = c.args.bits.now in
    let la = c.branches-low_a.result.0 in
    let lb = c.branches-low_b.result.0 in
    let e : c.eq-same.result ≡ false = c.if-same.false in
    turned_low s p c.args.a c.args.b la c.branches-low_a.result.1 lb c.branches-low_b.result.1 old c.differ-else-same.new.bits
    c.if-from.false (omega arith) c.branches-low_a.ensures c.branches-low_b.ensures
    (record {
      same = same_ref_false la lb (search rules);
      before = λ k m. c.differ-else-same.ensures.before k m ∙ ap (λ (x : Bool). get_or (set old p x) k false) e;
      row = c.differ-else-same.ensures.row;
    })
