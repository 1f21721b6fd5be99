use Rattle.std.proofs.Common.{map, IfOk, ◌≡◌, ◌∙◌, subst}
use Rattle.acl.specs.Shapes.{shape}
use Rattle.tidying.proofs.Fronts.{text_cut, text_refused}
use Rattle.tidying.proofs.tidied.canonical.Goals as goal

pub returns-in-Err : goal.returns-in-Err
returns-in-Err c =
    subst (λ text. IfOk c.refused.result (λ v. v.items ≡ text))
    (text_refused (map shape c.args.lines.now) c.args.number c.in_ok-memory.memory.len c.in-Err.refusal c.from.result c.deref_mut.result.now
    c.from.ensures c.in-Err.ensures.answer c.deref_mut.ensures.len c.in_ok-memory.ensures.len)
    c.refused.ensures

pub returns-in-Ok : goal.returns-in-Ok
returns-in-Ok c =
    c.shrink_to_fit.ensures.items ∙ c.truncate.ensures.items ∙ text_cut (map shape c.args.lines.now) c.args.number c.in-Ok.length c.in_ok-memory.memory.len c.deref_mut.result.now _ _
    c.in-Ok.ensures.answer c.in-Ok.ensures.written c.deref_mut.ensures.len c.in_ok-memory.ensures.len
