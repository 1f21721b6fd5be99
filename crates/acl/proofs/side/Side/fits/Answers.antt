-- The mask of a side tests its address bit by bit. Assumes nothing.
use Rattle.std.proofs.Common.{◌≡◌, ◌^◌, ◌<◌, true, false, cond, sym, ap, ◌∙◌, arith}
use Rattle.std.proofs.lemmas.Bool.{eq-eqb, ne_eqb}
use Rattle.acl.specs.Bits.{alike}
use Rattle.acl.specs.Terms.{port_fits}
use Rattle.acl.proofs.Masks.{masked}
use Rattle.acl.proofs.side.Side.fits.Goals as goal

-- the address fits, and the port decides
pub returns-then-address-self-eq0 : goal.returns-then-address-self-eq0
returns-then-address-self-eq0 c =
    let s = c.args.self in
    let narrow : s.wildcard < 2 ^ 32 = omega arith in
    let fits : true ≡ alike 32 s.wildcard c.args.address s.address = sym (eq-eqb _ _ c.if-address-self-eq0.true) ∙ masked 32 c.args.address s.address s.wildcard narrow in
    c.fits.ensures ∙ ap (λ b. cond b (port_fits s.ports c.args.port) false) fits

-- the address does not fit
pub returns-else-address-self-eq0 : goal.returns-else-address-self-eq0
returns-else-address-self-eq0 c =
    let s = c.args.self in
    let narrow : s.wildcard < 2 ^ 32 = omega arith in
    let unlike = ne_eqb _ _ c.if-address-self-eq0.false in
    let misses : false ≡ alike 32 s.wildcard c.args.address s.address = sym unlike ∙ masked 32 c.args.address s.address s.wildcard narrow in
    unlike ∙ ap (λ b. cond b (port_fits s.ports c.args.port) false) misses
