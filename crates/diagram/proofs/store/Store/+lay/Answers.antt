-- A piece is laid over the branches whose bits it asks for, and what is made of them is joined. Assumes nothing.
use Rattle.std.proofs.Common.{◌≡◌, true, false, sym, ◌∙◌}
use Rattle.model.specs.Laying.{meets}
use Rattle.diagram.specs.Cubes.{asked}
use Rattle.diagram.specs.Stores.{laid_from}
use Rattle.diagram.proofs.Growing.{grows_refl, grows_trans}
use Rattle.diagram.proofs.Subparts.{new_trans}
use Rattle.diagram.proofs.Lays.{skip_end, skip_stands, skip_new, skip_lacks, branch_new, branch_lacks, Way, way_laid, way_kept, both, closed_new, closed_value}
use Rattle.diagram.proofs.store.Store.+lay.Goals as goal
use Rattle.diagram.proofs.store.Store.+lay.Goals.{then-is_met+in_ok-x, else-is_met, then-is_met-2+in_ok-y, else-is_met-2}

pub returns-in_default-clause-value : goal.returns-in_default-clause-value
returns-in_default-clause-value t c =
    skip_end c.args.cube.now c.args.self.now c.args.from c.args.f c.in_default.ensures

pub returns-in-Some-noted-clause-value : goal.returns-in-Some-noted-clause-value
returns-in-Some-noted-clause-value t c =
    let s = c.args.self.now in
    skip_stands c.args.cube.now s s c.args.from c.args.f c.in-Some.place c.in-Some-noted.x c.in-Some.ensures.1
    c.in-Some-noted.ensures

pub returns-in_err-x : goal.returns-in_err-x
returns-in_err-x t c =
    let s = c.args.self.now in
    let k = c.args.cube.now in
    let f = c.args.f in
    let p = c.in-Some.place in
    let n = c.in-Some.ensures in
    let b = c.branches-low.ensures in
    let e = c.in_err-x.ensures in
    let u = c.lay.new.self in
    let m : meets (asked k.asks p) false ≡ true = sym c.is_met.ensures ∙ c.if-is_met.true in
    record {
      level = e.level;
      grows = e.grows;
      noted = e.noted;
      new = skip_new k s u c.args.from f p n.1 (branch_new k s n.0 b s u false (grows_refl s) m e.new);
      value = rw c.from_residual.ensures (skip_lacks k s u c.args.from f p n.1 (branch_lacks k s n.0 b s u false (grows_refl s) m e.value));
    }

pub returns-in_err-y : goal.returns-in_err-y
returns-in_err-y t c =
    let s = c.args.self.now in
    let k = c.args.cube.now in
    let f = c.args.f in
    let p = c.in-Some.place in
    let n = c.in-Some.ensures in
    let b = c.branches-low.ensures in
    let low = c.branches-low.result.0 in
    let v = c.if-is_met.self in
    let u = c.lay-then-is_met-2.new.self in
    let d : Way k s p f false low s v c.if-is_met.end c.if-is_met.notes c.if-is_met.x = elim c.if-is_met.branch [
      | then-is_met+in_ok-x a ↦
          rw (a.self-is, a.end-is, a.notes-is, a.x-is)
          (way_laid k s n.0 b false (grows_refl s) (sym c.is_met.ensures ∙ a.if-is_met.true) a.in_ok-x.ensures)
      | else-is_met a ↦
          rw (a.self-is, a.end-is, a.notes-is, a.x-is)
          (way_kept k s n.0 b false (grows_refl s) (sym c.is_met.ensures ∙ a.if-is_met.false) c.requires.level c.requires.noted)
    ] in
    let e = c.in_err-y.ensures in
    let m : meets (asked k.asks p) true ≡ true = sym c.is_met-2.ensures ∙ c.if-is_met-2.true in
    record {
      level = e.level;
      grows = grows_trans s v u d.grows e.grows;
      noted = e.noted;
      new =
          skip_new k s u c.args.from f p n.1
          (new_trans s v u (laid_from k s p f) e.grows d.new (branch_new k s n.0 b v u true d.grows m e.new));
      value =
          rw c.from_residual-in_err-y.ensures
          (skip_lacks k s u c.args.from f p n.1 (branch_lacks k s n.0 b v u true d.grows m e.value));
    }

pub close-requires : goal.close-requires
close-requires t c =
    let s = c.args.self.now in
    let k = c.args.cube.now in
    let f = c.args.f in
    let p = c.in-Some.place in
    let n = c.in-Some.ensures in
    let b = c.branches-low.ensures in
    let low = c.branches-low.result.0 in
    let high = c.branches-low.result.1 in
    let v = c.if-is_met.self in
    let u = c.if-is_met-2.self in
    let d : Way k s p f false low s v c.if-is_met.end c.if-is_met.notes c.if-is_met.x = elim c.if-is_met.branch [
      | then-is_met+in_ok-x a ↦
          rw (a.self-is, a.end-is, a.notes-is, a.x-is)
          (way_laid k s n.0 b false (grows_refl s) (sym c.is_met.ensures ∙ a.if-is_met.true) a.in_ok-x.ensures)
      | else-is_met a ↦
          rw (a.self-is, a.end-is, a.notes-is, a.x-is)
          (way_kept k s n.0 b false (grows_refl s) (sym c.is_met.ensures ∙ a.if-is_met.false) c.requires.level c.requires.noted)
    ] in
    let e : Way k s p f true high v u c.if-is_met-2.end c.if-is_met-2.notes c.if-is_met-2.y = elim c.if-is_met-2.branch [
      | then-is_met-2+in_ok-y a ↦
          rw (a.self-is, a.end-is, a.notes-is, a.y-is)
          (way_laid k s n.0 b true d.grows (sym c.is_met-2.ensures ∙ a.if-is_met-2.true) a.in_ok-y.ensures)
      | else-is_met-2 a ↦
          rw (a.self-is, a.end-is, a.notes-is, a.y-is)
          (way_kept k s n.0 b true d.grows (sym c.is_met-2.ensures ∙ a.if-is_met-2.false) d.level d.noted)
    ] in
    let h = both k s n.0 b c.requires.fits.under d e in
    record {
      level = h.level;
      noted = h.noted;
      placed = n.0;
      under = h.under;
      low = h.low;
      high = h.high;
      laid = h.laid;
    }

pub returns : goal.returns
returns t c =
    let s = c.args.self.now in
    let k = c.args.cube.now in
    let f = c.args.f in
    let p = c.in-Some.place in
    let n = c.in-Some.ensures in
    let b = c.branches-low.ensures in
    let low = c.branches-low.result.0 in
    let high = c.branches-low.result.1 in
    let v = c.if-is_met.self in
    let u = c.if-is_met-2.self in
    let d : Way k s p f false low s v c.if-is_met.end c.if-is_met.notes c.if-is_met.x = elim c.if-is_met.branch [
      | then-is_met+in_ok-x a ↦
          rw (a.self-is, a.end-is, a.notes-is, a.x-is)
          (way_laid k s n.0 b false (grows_refl s) (sym c.is_met.ensures ∙ a.if-is_met.true) a.in_ok-x.ensures)
      | else-is_met a ↦
          rw (a.self-is, a.end-is, a.notes-is, a.x-is)
          (way_kept k s n.0 b false (grows_refl s) (sym c.is_met.ensures ∙ a.if-is_met.false) c.requires.level c.requires.noted)
    ] in
    let e : Way k s p f true high v u c.if-is_met-2.end c.if-is_met-2.notes c.if-is_met-2.y = elim c.if-is_met-2.branch [
      | then-is_met-2+in_ok-y a ↦
          rw (a.self-is, a.end-is, a.notes-is, a.y-is)
          (way_laid k s n.0 b true d.grows (sym c.is_met-2.ensures ∙ a.if-is_met-2.true) a.in_ok-y.ensures)
      | else-is_met-2 a ↦
          rw (a.self-is, a.end-is, a.notes-is, a.y-is)
          (way_kept k s n.0 b true d.grows (sym c.is_met-2.ensures ∙ a.if-is_met-2.false) d.level d.noted)
    ] in
    let h = both k s n.0 b c.requires.fits.under d e in
    let z = c.close.new.self in
    let m = c.close.ensures in
    record {
      level = m.level;
      grows = grows_trans s u z h.grows m.grows;
      noted = m.noted;
      new = closed_new k s u z c.args.from f p h.grows m.grows c.requires.fits.under n.1 h.new m.new;
      value = closed_value k s c.close.result u z c.args.from f p h.grows c.requires.fits.under n.1 m.value;
    }
