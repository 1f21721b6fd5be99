use Rattle.std.proofs.Common.{◌≡◌, sym, ap, ◌∙◌, true, false, codes, Err, rules}
use Rattle.words.specs.declared.part.Stop.{Stop}
use Rattle.words.specs.Cursor.{Rest, passed, rest, address_of}
use Rattle.ios.specs.declared.family.Family.{Family}
use Rattle.ios.specs.declared.family.Family.TheVariants.{Standard, Extended}
use Rattle.ios.specs.Parsing.{host_of, addresses_of, next_is}
use Rattle.ios.proofs.sides.addresses.Goals as goal

after_host : (f : Family) (r : Rest) → next_is r (codes "any") ≡ false → next_is r (codes "host") ≡ true → addresses_of f r ≡ host_of (passed r)
after_host Standard r a h = rw (a, h)
after_host Extended r a h = rw (a, h)

no_address : (f : Family) (r : Rest) (s : Stop) → next_is r (codes "any") ≡ false → next_is r (codes "host") ≡ false → address_of r ≡ Err s
    → addresses_of f r ≡ Err s
no_address Standard r s a h e = rw (a, h, e)
no_address Extended r s a h e = rw (a, h, e)

pub returns-then-takes-2 : goal.returns-then-takes-2
returns-then-takes-2 c =
    let same = c.if-takes.ensures.left in
    c.host.ensures ∙ ap host_of c.if-takes-2.ensures.left ∙ ap (λ r. host_of (passed r)) same
    ∙ sym (after_host c.args.family (rest c.args.words.now) (sym c.if-takes.ensures.found)
    (ap (λ r. next_is r (codes "host")) (sym same) ∙ sym c.if-takes-2.ensures.found))

pub returns-in_err-address : goal.returns-in_err-address
returns-in_err-address c =
    let same = c.if-takes.ensures.left in
    let stop = no_address c.args.family (rest c.args.words.now) c.in_err-address.field-0.0 (sym c.if-takes.ensures.found)
    (ap (λ r. next_is r (codes "host")) (sym same) ∙ sym c.if-takes-2.ensures.found)
    (ap address_of (sym (c.if-takes-2.ensures.left ∙ same)) ∙ sym c.in_err-address.ensures.value) in
    rw stop (search rules)
