use Rattle.std.proofs.Common.{◌≡◌, Ok, refl, ap, ◌∙◌, rules}
use Rattle.acl.specs.Fits.{found_shape}
use Rattle.firmware.specs.Entry.{verdict_of}
use Rattle.firmware.proofs.Rooms.{decided_read}
use Rattle.firmware.proofs.decide.Goals as goal

pub returns : goal.returns
returns c =
    let read = c.read.ensures in
    let action : c.map_or.result ≡ verdict_of (found_shape c.first_match-found.result) = search rules in
    ap Ok action ∙ ap (λ o. Ok (verdict_of o)) c.first_match-found.ensures
    ∙ decided_read c.args.text.now c.args.header c.read.result c.in_ok-count.field-0 _ c.read.new.memory (search rules) read.answer read.stands refl read.written
