-- The earlier of the piece's next place and the reference's. Assumes nothing.
use Rattle.std.proofs.Common.{◌≡◌, ℕ, ◌<◌, ◌≤◌, Bool, true, false, slice_index_or, min, refl, subst, MatchOption, arith}
use Rattle.std.specs.Bool.{then_some}
use Rattle.std.proofs.Math.Dec.{ltb}
use Rattle.std.proofs.lemmas.Bool.{ltb-true, ltb-false}
use Rattle.acl.specs.Headers.{width}
use Rattle.model.specs.Diagram.{top}
use Rattle.diagram.specs.Stores.{nodes_of}
use Rattle.diagram.specs.Layings.{Next}
use Rattle.diagram.proofs.Skips.{next_is}
use Rattle.diagram.proofs.store.Store.next_place.Goals as goal

-- a number is answered where it is below a bound
some_below : (P : Type 0) (Q : ℕ → Type 0) (p b : ℕ) → (p < b → Q p) → (b ≤ p → P) → MatchOption (then_some (ltb p b) p) P Q
some_below P Q p b q none = go (ltb p b) refl
  where
    go : (t : Bool) → ltb p b ≡ t → MatchOption (then_some t p) P Q
    go true e = q (ltb-true p b e)
    go false e = none (ltb-false p b e)

pub returns : goal.returns
returns c =
    let s = c.args.self.now in
    let cube = c.args.cube.now in
    let at = c.in_ok-asked.ensures.lookup.3 in
    let l : c.args.from < width = omega (arith, at.0) in
    let p = c.min-place.result in
    let e : p ≡ min (slice_index_or cube.next c.args.from 0) (top width (nodes_of s) c.args.f) = cc (at.1 0) in
    let n = next_is s cube c.args.from c.args.f p l c.requires.fits e in
    rw c.then_some.ensures
    (some_below (Next s cube c.args.from c.args.f width) (λ x. (x < width) × Next s cube c.args.from c.args.f x) p 104 (λ l. (l, n))
    (λ l. let z : p ≡ width = omega (arith, n.inside) in subst (Next s cube c.args.from c.args.f) z n))
