-- Parts of what is laid over a branch are parts of the whole, and parts in stores that grow. Assumes nothing.
use Rattle.std.proofs.Common.{◌≡◌, ℕ, ◌<◌, ◌≤◌, Bool, true, false, sym, ap, ◌∙◌, subst, arith}
use mathlib.Core.Path.{fun_ext}
use native.Mathlib.Decide.{dec_lt}
use Rattle.acl.specs.Headers.{width}
use Rattle.model.specs.Rows.{Bits, splice, put}
use Rattle.model.specs.Stages.{Stage}
use Rattle.model.specs.Parts.{Part, PartOf, fixed}
use Rattle.model.specs.Diagram.{part_at}
use Rattle.model.proofs.Rows.{splice_low, splice_high, put_here, put_else}
use Rattle.diagram.specs.declared.store.Store.{Store}
use Rattle.diagram.specs.Stores.{nodes_of, Grows, New, Lacks}
use Rattle.diagram.proofs.Growing.{part_grows}

-- h does not go by the bits up to p
abbrev pub Later : ℕ → Stage → Type 0
Later p h = (u v : Bits) → ((z : ℕ) → p < z → u z ≡ v z) → h u ≡ h v

-- a part of what does not go by the bits up to p has a later place
later_place : (h : Stage) (p : ℕ) → Later p h → (x : Part) → PartOf h x → p < x.place
later_place h p later x o = go (dec_lt p x.place)
  where
    n : ℕ
    n = x.place

    row : Bool → Bits
    row b = put n b o.matters.at

    same : n ≤ p → fixed n o.fixing h (row false) ≡ fixed n o.fixing h (row true)
    same l =
        later (splice n o.fixing (row false)) (splice n o.fixing (row true)) (λ z m.
        splice_high n o.fixing (row false) z (omega arith) ∙ put_else n false o.matters.at z (omega arith)
        ∙ sym (put_else n true o.matters.at z (omega arith)) ∙ sym (splice_high n o.fixing (row true) z (omega arith)))

    go : Dec (p < x.place) → p < x.place
    go (yes l) = l
    go (no m) =
        absurd (o.matters.changes
        (ap (λ s. s (row false)) o.is ∙ same (omega arith) ∙ sym (ap (λ s. s (row true)) o.is)))

-- where g is h at the bit b of p, and h goes by later bits alone, every part of h is a part of g
pub sub_part : (g h : Stage) (p : ℕ) (b : Bool) → Later p h → ((v : Bits) → v p ≡ b → g v ≡ h v) → (x : Part) → PartOf h x → PartOf g x
sub_part g h p b later agree x o = record { fixing = put p b o.fixing; is = o.is ∙ fun_ext (λ v. sym (back v)); matters = o.matters }
  where
    n : ℕ
    n = x.place

    l : p < n
    l = later_place h p later x o

    same : (v : Bits) (z : ℕ) → p < z → Dec (z < n) → splice n (put p b o.fixing) v z ≡ splice n o.fixing v z
    same v z m (yes e) = splice_low n (put p b o.fixing) v z e ∙ put_else p b o.fixing z (omega arith) ∙ sym (splice_low n o.fixing v z e)
    same v z m (no e) = splice_high n (put p b o.fixing) v z (omega arith) ∙ sym (splice_high n o.fixing v z (omega arith))

    back : (v : Bits) → fixed n (put p b o.fixing) g v ≡ fixed n o.fixing h v
    back v =
        agree (splice n (put p b o.fixing) v) (splice_low n (put p b o.fixing) v p l ∙ put_here p b o.fixing)
        ∙ later (splice n (put p b o.fixing) v) (splice n o.fixing v) (λ z m. same v z m (dec_lt z n))

-- so new nodes for h are new nodes for g
pub new_sub : (s t : Store) (g h : Stage) → ((x : Part) → PartOf h x → PartOf g x) → New s t h → New s t g
new_sub s t g h sub new i l m = sub (part_at width (nodes_of t) i) (new i l m)

-- and what lacks a node for h lacks one for g
pub lacks_sub : (t : Store) (g h : Stage) → ((x : Part) → PartOf h x → PartOf g x) → Lacks t h → Lacks t g
lacks_sub t g h sub k = record { full = k.full; part = k.part; of = sub k.part k.of; new = k.new }

-- what is new at two times is new
pub new_trans : (s t u : Store) (g : Stage) → Grows t u → New s t g → New t u g → New s u g
new_trans s t u g h a b i l m = go (dec_lt i t.linked)
  where
    go : Dec (i < t.linked) → PartOf g (part_at width (nodes_of u) i)
    go (yes e) = subst (PartOf g) (sym (part_grows t u h i e)) (a i l e)
    go (no e) = b i (omega arith) m
