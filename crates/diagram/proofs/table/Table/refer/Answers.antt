-- All refer, or the one that ended the search does not. Assumes nothing.
use Rattle.std.proofs.Common.{ℕ, ◌<◌, Bool, true, false, List, length, get_or, MatchBool, rules, arith}
use borrow.Author.Tests.{tests}
use Rattle.std.specs.List.{AllWithin, HoldsAt}
use Rattle.std.proofs.lemmas.Iterator.{cases_from_all, YieldsList-from_slice}
use Rattle.model.specs.declared.node.Ref.{Ref}
use Rattle.model.specs.declared.node.Ref.TheVariants.{Code}
use Rattle.diagram.specs.Tables.{Refers}
use Rattle.diagram.proofs.table.Table.refer.Goals as goal

by_place : (P : Ref → Type 0) (xs : List Ref) (b : Bool)
    → MatchBool b (AllWithin P xs 0 (length xs)) ((k : ℕ) × (k < length xs) × HoldsAt (λ r. P r → ⊥) xs k)
    → MatchBool b ((j : ℕ) → j < length xs → P (get_or xs j (Code 0))) (((j : ℕ) → j < length xs → P (get_or xs j (Code 0))) → ⊥)
by_place P xs true h = λ j l. h j (Code 0) (omega arith) l
by_place P xs false h = λ all. h.2 (Code 0) (all h.0 h.1)

pub returns : goal.returns
returns c =
    let t = c.args.self.now in
    by_place (Refers t) c.args.roots.now c.all.result
    (cases_from_all _ _ _ (Refers t) (λ r. Refers t r → ⊥) c.all.ensures.ran (YieldsList-from_slice c.args.roots.now cc)
    (λ x q k. search (rules, tests)) (λ x q k. search (rules, tests)))
