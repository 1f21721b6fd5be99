-- A code has no depth, and a node is one deeper than the deeper of its two ways. Assumes nothing.
use Rattle.std.proofs.Common.{◌≡◌, ℕ, ◌+◌, ◌<◌, length, sym, ap, ◌∙◌, subst, arith}
use Rattle.acl.specs.Headers.{width}
use Rattle.model.specs.declared.node.Ref.TheVariants.{Node as At}
use Rattle.diagram.specs.Nodes.{Under}
use Rattle.diagram.specs.Stores.{nodes_of}
use Rattle.diagram.specs.Walks.{deepest}
use Rattle.diagram.proofs.Reduces.{reduced}
use Rattle.diagram.proofs.Walking.{deep_code, deep_way, deep_small, top_most}
use Rattle.diagram.proofs.Walked.{deep_noted}
use Rattle.diagram.proofs.store.Store.+depth.Goals as goal

pub returns-in-Some-clause-small : goal.returns-in-Some-clause-small
returns-in-Some-clause-small t c =
    let s = c.args.self.now in
    let x : c.in-Some.known ≡ deepest s c.args.r =
    (c.requires.noted c.in-Node.i c.in-Some.known c.in-Some.is).1 ∙ ap (deepest s) (sym c.in-Node.is) in
    omega (arith, x, deep_small width (nodes_of s) c.args.r (top_most (reduced s) c.args.r c.requires.under))

pub returns-in-Code-clause-value : goal.returns-in-Code-clause-value
returns-in-Code-clause-value t c =
    let s = c.args.self.now in
    sym (ap (deepest s) c.in-Code.is ∙ deep_code width (nodes_of s) _)

pub returns-in_default : goal.returns-in_default
returns-in_default t c =
    let s = c.args.self.now in
    let i : ℕ = c.in-Node.i in
    let q = c.in-Node.is in
    let red = reduced s in
    let l : i < s.linked = subst (Under s.linked) q c.requires.under in
    let few : i < 2048 = omega arith in
    let low : c.depth-low.result ≡ deepest s (nodes_of s i).low = c.depth-low.ensures.value in
    let high : c.depth-high.result ≡ deepest s (nodes_of s i).high = c.depth-high.ensures.value in
    let x : c.max-most.result + 1 ≡ deepest s (At i) = omega (arith, low, high, c.max-most.ensures, deep_way red i l) in
    let y : c.max-most.result + 1 ≡ deepest s c.args.r = x ∙ ap (deepest s) (sym q) in
    let long : length c.depth-high.new.deep ≡ 2048 = omega (arith, c.depth-high.array_long) in
    record {
      noted = deep_noted s c.depth-high.new.deep i (c.max-most.result + 1) long few l x c.depth-high.ensures.noted;
      value = y;
      small = omega (arith, y, deep_small width (nodes_of s) c.args.r (top_most red c.args.r c.requires.under));
    }
