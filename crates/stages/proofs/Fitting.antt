-- The parts of lists are counted, and a list fits over them or not. Assumes nothing.
use Rattle.std.proofs.Common.{List, map, sym, subst}
use Rattle.acl.specs.declared.line.Line.{Line}
use Rattle.acl.specs.Headers.{width}
use Rattle.model.specs.Sets.{◌∈◌}
use Rattle.model.specs.Stages.{Stage, Reads}
use Rattle.model.specs.Stands.{CountsStand}
use Rattle.model.proofs.Images.{map_in}
use Rattle.model.proofs.Families.{counts_stand}
use Rattle.orders.specs.Meanings.{OrderMeaning, LawfulOrder}
use Rattle.kinds.specs.Kinds.{KindMeaning}
use Rattle.stages.specs.Lists.{end_code, layers_of, last_stage}
use Rattle.stages.specs.Stands.{Counted, FitsStand}
use Rattle.stages.proofs.LastStage.{stage_reads, lines_read}

module _ {V : Type 0} (k : KindMeaning V) (o : OrderMeaning) (laws : LawfulOrder width o) (held : List (List Line)) where
  -- the last stages of lists look at the header's bits alone
  held_read : (s : Stage) → s ∈ map (last_stage o k) held → Reads width s
  held_read s m = let (xs, h, e) = map_in (last_stage o k) s held m in subst (Reads width) (sym e) (stage_reads o k laws xs)

  counts : CountsStand width (map (last_stage o k) held)
  counts = counts_stand width (map (last_stage o k) held) held_read

  pub counted : Counted o k held
  counted = record {
    count = counts.counted.0;
    is = counts.counted.1;
    either = λ n xs. (counts.fits n (end_code k) (map (layers_of o k) xs) (lines_read o k laws xs)).either;
    not_both = λ n xs. (counts.fits n (end_code k) (map (layers_of o k) xs) (lines_read o k laws xs)).not_both;
  }

pub fits_stand : {V : Type 0} (k : KindMeaning V) → FitsStand k
fits_stand k o laws held = counted k o laws held
