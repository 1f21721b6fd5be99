-- What is joined is what is laid at the place, and older notes stay right. Assumes nothing.
use Rattle.std.proofs.Common.{◌≡◌, sym, ◌∙◌, subst}
use mathlib.Core.Path.{fun_ext}
use Rattle.model.specs.Stages.{Stage}
use Rattle.diagram.specs.Stores.{Stands, joined, laid_from}
use Rattle.diagram.proofs.Skips.{laid_grows}
use Rattle.diagram.proofs.store.Store.close.Goals as goal

pub note-requires-clause-made : goal.note-requires-clause-made
note-requires-clause-made c =
    let s = c.args.self.now in
    let u = c.join.new.self in
    let e = c.in_ok-made.ensures in
    let g : Stage = laid_from c.args.cube.now s c.args.place c.args.f in
    let j : joined s c.args.place c.args.low c.args.high ≡ g = fun_ext c.requires.laid in
    let l = laid_grows c.args.cube.now s u c.args.place c.args.f e.grows c.requires.under in
    subst (λ h. Stands u c.args.place h c.in_ok-made.made) (j ∙ sym l) e.value
