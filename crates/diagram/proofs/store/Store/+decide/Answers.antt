-- A code makes no test more, and a node one more than its way on. Assumes nothing.
use Rattle.std.proofs.Common.{◌≡◌, ℕ, ◌+◌, ◌<◌, cond, sym, ap, ◌∙◌, subst, arith}
use Rattle.acl.specs.Headers.{width}
use Rattle.model.specs.declared.node.Ref.{Ref}
use Rattle.model.specs.Rows.{Bits}
use Rattle.model.specs.Diagram.{tests_from}
use Rattle.model.proofs.Diagram.{value_leaf}
use Rattle.diagram.specs.Nodes.{Under}
use Rattle.diagram.specs.Stores.{nodes_of, value_in}
use Rattle.diagram.specs.Walks.{row_of}
use Rattle.diagram.proofs.Reduces.{reduced}
use Rattle.diagram.proofs.Walking.{tests_code, tests_way, value_way}
use Rattle.diagram.proofs.store.Store.+decide.Goals as goal
use Rattle.diagram.proofs.store.Store.+decide.Goals.{then-bit, else-bit}

pub returns-in-Code-clause-code : goal.returns-in-Code-clause-code
returns-in-Code-clause-code t c =
    let s = c.args.self.now in
    let row : Bits = row_of c.args.bits.now in
    sym (ap (λ (r : Ref). value_in s r row) c.in-Code.is ∙ value_leaf (reduced s) c.in-Code.c row)

pub returns-in-Code-clause-tests : goal.returns-in-Code-clause-tests
returns-in-Code-clause-tests t c =
    let s = c.args.self.now in
    let row : Bits = row_of c.args.bits.now in
    let z : tests_from width (nodes_of s) width 0 row c.args.r ≡ 0 =
    ap (λ (r : Ref). tests_from width (nodes_of s) width 0 row r) c.in-Code.is ∙ tests_code width (nodes_of s) row c.in-Code.c in
    omega (arith, z)

pub returns-after-bit : goal.returns-after-bit
returns-after-bit t c =
    let s = c.args.self.now in
    let row : Bits = row_of c.args.bits.now in
    let i : ℕ = c.in-Node.i in
    let q = c.in-Node.is in
    let l : i < s.linked = subst (Under s.linked) q c.requires.under in
    let red = reduced s in
    let p : c.if-bit.on ≡ cond (row (nodes_of s i).place) (nodes_of s i).high (nodes_of s i).low =
    elim c.if-bit.branch [ then-bit w ↦ rw w.if-bit.true w.on-is | else-bit w ↦ rw w.if-bit.false w.on-is ] in
    let e = c.decide.ensures in
    let z : tests_from width (nodes_of s) width 0 row c.args.r ≡ 1 + tests_from width (nodes_of s) width 0 row c.if-bit.on =
    ap (λ (r : Ref). tests_from width (nodes_of s) width 0 row r) q ∙ tests_way red i l row
    ∙ ap (λ (r : Ref). 1 + tests_from width (nodes_of s) width 0 row r) (sym p) in
    record {
      code =
          e.code ∙ ap (λ (r : Ref). value_in s r row) p ∙ sym (value_way red i l row)
          ∙ ap (λ (r : Ref). value_in s r row) (sym q);
      tests = omega (arith, z, e.tests);
    }
