-- The node is found, or made, or has no room. Assumes nothing.
use Rattle.std.proofs.Common.{◌≢◌, refl, ap, ◌∙◌, arith, rules}
use Rattle.model.specs.declared.node.Node.{Node}
use Rattle.diagram.specs.Nodes.{table_of}
use Rattle.diagram.specs.Stores.{Grows}
use Rattle.diagram.proofs.Chains.{set_agree}
use Rattle.diagram.proofs.Joins.{found_stands, node_lacks, made_stands, made_new}
use Rattle.diagram.proofs.store.Store.join.Goals as goal

pub returns-in-Some-clause-value : goal.returns-in-Some-clause-value
returns-in-Some-clause-value c =
    found_stands c.args.self.now c.args.place c.args.low c.args.high c.requires.placed
    c.in-Some.i c.in-Some.ensures.0 c.in-Some.ensures.1

pub returns-then-self-clause-value : goal.returns-then-self-clause-value
returns-then-self-clause-value c =
    let apart : c.args.low ≢ c.args.high = search rules in
    node_lacks c.args.self.now c.args.place c.args.low c.args.high c.requires.placed
    c.requires.low c.requires.high apart (omega arith) c.in_default.ensures

pub returns : goal.returns
returns c =
    let s = c.args.self.now in
    let u = c.push-at.new.self in
    let e = c.push-at.ensures in
    let n : Node = record { place = c.args.place; low = c.args.low; high = c.args.high } in
    let apart : c.args.low ≢ c.args.high = search rules in
    let g : Grows s u = record {
      more = omega (arith, e.linked);
      same = λ k l. ap (λ ns. table_of ns k) e.nodes ∙ set_agree s.nodes s.linked n k l;
      cap = e.cap;
    } in
    record {
      level = refl;
      grows = g;
      one = omega (arith, e.linked);
      new =
          made_new s c.args.place c.args.low c.args.high c.requires.placed c.requires.low c.requires.high apart u g e.linked
          e.stands;
      none = tt;
      value =
          made_stands s c.args.place c.args.low c.args.high c.requires.placed c.requires.low c.requires.high apart u g e.linked
          e.stands c.push-at.result e.at;
    }
