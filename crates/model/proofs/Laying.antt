-- What laying a piece makes, and that what it makes is a part of the next stage. Assumes nothing.
use mathlib.Core.Path.{◌≡◌, refl, sym, ap, ◌∙◌, subst, fun_ext}
use mathlib.Core.Logic.{inl, inr, ◌≢◌}
use mathlib.Core.Bool.{Bool, true, false, cond, ◌&&◌}
use mathlib.Core.List.{List, ◌∷◌, map}
use Prim.Native.Nat.{ℕ, zero, suc, ◌+◌, ◌-◌, ◌≤◌, ◌<◌}
use native.Mathlib.Nat.{zero-add, suc-add, add-zero}
use native.Mathlib.Omega.{arith}
use lib.ListN.{length, length-map}
use lib.Dec.{eqb}
use Rattle.model.specs.Rows.{Bits, splice, put}
use Rattle.model.specs.Sets.{◌∈◌, Distinct, MoreThan}
use Rattle.model.specs.Parts.{fixed, Matters, Part, PartOf}
use Rattle.model.specs.declared.node.Ref.{Ref}
use Rattle.model.specs.declared.node.Ref.TheVariants.{Code as leaf, Node as node}
use Rattle.model.specs.Diagram.{Table, top, step, walk, code_at, value, Known, Reduced, part_at, first_from}
use Rattle.model.specs.Laying.{Ask, meets, in_from, over, Made, skipped, found, Grown}
use Rattle.model.proofs.Images.{map_in, distinct_map}
use Rattle.model.proofs.Rows.{splice_low, splice_high, put_here, put_else}
use Rattle.model.proofs.Diagram.{step_at, walk_known, walk_top, value_fixed, value_from, value_on, canon, first_differs}
use Rattle.model.proofs.Nodes.{part_once}

module _ {w : ℕ} {In In' : ℕ → Type 0} {t t' : Table} (red : Reduced w In t) (grown : Grown In In' t t') where
  -- a grown table goes on in the same way from what it had
  step_grown : (p : ℕ) (b : Bool) (r : Ref) → Known In r → step t' p b r ≡ step t p b r
  step_grown p b (leaf c) k = refl
  step_grown p b (node i) k = ap (λ n. cond (eqb n.place p) (cond b n.high n.low) (node i)) (grown.same i k)

  -- and leads to the same
  walk_grown : (p : ℕ) (row : Bits) (r : Ref) → Known In r → walk t' p row r ≡ walk t p row r
  unfolding walk
  walk_grown zero row r k = refl
  walk_grown (suc p) row r k = ap (step t' p (row p)) (walk_grown p row r k) ∙ step_grown p (row p) (walk t p row r) (walk_known red p row r k)

  -- and gives it the same value
  pub value_grown : (r : Ref) → Known In r → (row : Bits) → value w t' r row ≡ value w t r row
  unfolding value
  value_grown r k row = ap code_at (walk_grown w row r k)

module _ {w : ℕ} {In : ℕ → Type 0} {t : Table} (red : Reduced w In t) where
  -- what stands for (p, l, h) goes high or low by the bit at p
  pub made_value : (p : ℕ) (l h m : Ref) → p < w → Made t In p l h m → (row : Bits) → value w t m row ≡ cond (row p) (value w t h row) (value w t l row)
  made_value p l h _ lt (skipped e) row = go (row p)
    where
      go : (b : Bool) → value w t l row ≡ cond b (value w t h row) (value w t l row)
      go true = ap (λ r. value w t r row) e
      go false = refl
  made_value p l h _ lt (found i k e) row =
      value_on red (w - suc p) p (omega arith) row (node i) k (omega (arith, ap (λ n. n.place) e))
      ∙ ap (λ r. value w t r row) (step_at t p (row p) i (ap (λ n. n.place) e))
      ∙ ap (λ n. value w t (cond (row p) n.high n.low) row) e ∙ go (row p)
    where
      go : (b : Bool) → value w t (cond b h l) row ≡ cond b (value w t h row) (value w t l row)
      go true = refl
      go false = refl

  -- the node that is to be made, as a part
  abbrev pub pending : ℕ → Ref → Ref → Part
  pending p l h = record { place = p; left = λ row. cond (row p) (value w t h row) (value w t l row) }

  -- that part with a bit put at p is the way for that bit
  way_of : (p : ℕ) (l h : Ref) → p < w → Known In l → Known In h → p < top w t l → p < top w t h → (b : Bool) (row : Bits)
      → (pending p l h).left (put p b row) ≡ value w t (cond b h l) row
  way_of p l h lt kl kh tl th b row = ap (λ c. cond c (value w t h (put p b row)) (value w t l (put p b row))) (put_here p b row) ∙ go b
    where
      from : (r : Ref) → Known In r → p < top w t r → (b : Bool) → value w t r (put p b row) ≡ value w t r row
      from r k h b = value_from red (w - suc p) (suc p) (omega arith) (put p b row) row r k h (λ q z. put_else p b row q (omega arith))

      go : (b : Bool) → cond b (value w t h (put p b row)) (value w t l (put p b row)) ≡ value w t (cond b h l) row
      go true = from h kh th true
      go false = from l kl tl false

  -- if its two ways differ, the bit at p matters
  pub pending_matters : (p : ℕ) (l h : Ref) → p < w → Known In l → Known In h → p < top w t l → p < top w t h → l ≢ h
      → Matters p (pending p l h).left
  pending_matters p l h lt kl kh tl th n = record {
    at = row;
    changes = λ e.
        first_differs red (w - suc p) (suc p) (omega arith) l h kl kh tl th n
        (sym (way_of p l h lt kl kh tl th false row) ∙ e ∙ way_of p l h lt kl kh tl th true row);
  }
    where
      row : Bits
      row = first_from t (w - suc p) (suc p) l h

  -- a node that the table does not have is a part that none of its nodes is
  pub pending_new : (p : ℕ) (l h : Ref) → p < w → Known In l → Known In h → p < top w t l → p < top w t h
      → ((i : ℕ) → In i → t i ≢ record { place = p; low = l; high = h })
      → (i : ℕ) → In i → part_at w t i ≢ pending p l h
  pending_new p l h lt kl kh tl th new i k e =
      new i k (λ j. record { place = here j; low = same false j; high = same true j })
    where
      here : (t i).place ≡ p
      here = ap (λ x. x.place) e

      child : Bool → Ref
      child b = cond b (t i).high (t i).low

      known : (b : Bool) → Known In (child b)
      known true = red.high_known i k
      known false = red.low_known i k

      later : (b : Bool) → p < top w t (child b)
      later true = omega (arith, red.high_later i k, here)
      later false = omega (arith, red.low_later i k, here)

      other : (b : Bool) → Known In (cond b h l)
      other true = kh
      other false = kl

      mine : (b : Bool) (row : Bits) → value w t (node i) (put p b row) ≡ value w t (child b) row
      mine b row =
          value_on red (w - suc p) p (omega arith) (put p b row) (node i) k (omega (arith, here))
          ∙ ap (λ c. value w t (step t p c (node i)) (put p b row)) (put_here p b row)
          ∙ ap (λ r. value w t r (put p b row)) (step_at t p b i here)
          ∙ value_from red (w - suc p) (suc p) (omega arith) (put p b row) row (child b) (known b) (later b) (λ q z. put_else p b row q (omega arith))

      same : (b : Bool) → child b ≡ cond b h l
      same b =
          canon red (child b) (cond b h l) (known b) (other b)
          (λ row. sym (mine b row) ∙ ap (λ x. x.left (put p b row)) e ∙ way_of p l h lt kl kh tl th b row)

  -- a full table: n nodes, each a part of the family, and one more to make: there are more than n parts
  pub too_many : (F : Part → Type 0) (n : ℕ) (ns : List ℕ) → Distinct ns → length ns ≡ n
      → ((i : ℕ) → i ∈ ns → In i) → ((i : ℕ) → i ∈ ns → F (part_at w t i))
      → (x : Part) → F x → ((i : ℕ) → In i → part_at w t i ≢ x) → MoreThan n F
  too_many F n ns d len known parts x fx new = record {
    members = x ∷ map (part_at w t) ns;
    distinct = (
      λ h. let (i, m, e) = map_in (part_at w t) x ns h in new i (known i m) (sym e),
      distinct_map (part_at w t) ns (λ i j hi hj e. part_once red i j (known i hi) (known j hj) e) d,
    );
    only = only;
    many = omega (arith, length-map ns (part_at w t));
  }
    where
      only : (y : Part) → y ∈ (x ∷ map (part_at w t) ns) → F y
      only y (inl e) = subst F (sym e) fx
      only y (inr h) = let (i, m, e) = map_in (part_at w t) y ns h in subst F (sym e) (parts i m)

module _ (q : ℕ → Ask) where
  -- what a piece asks of d places goes by the bits there
  in_agree : (d p : ℕ) (v row : Bits) → ((z : ℕ) → p ≤ z → z < p + d → v z ≡ row z) → in_from q d p v ≡ in_from q d p row
  in_agree zero p v row h = refl
  in_agree (suc d) p v row h =
      ap (λ b. meets (q p) b && in_from q d (suc p) v) (h p (omega arith) (omega arith))
      ∙ ap (λ b. meets (q p) (row p) && b) (in_agree d (suc p) v row (λ z a b. h z (omega arith) (omega arith)))

  -- it asks of m places and then of d more
  in_split : (m d p : ℕ) (row : Bits) → in_from q (m + d) p row ≡ (in_from q m p row && in_from q d (p + m) row)
  in_split zero d p row = ap (λ n. in_from q n p row) (zero-add d) ∙ ap (λ n. in_from q d n row) (sym (add-zero p))
  in_split (suc m) d p row =
      ap (λ n. in_from q n p row) (suc-add m d)
      ∙ ap (λ b. meets (q p) (row p) && b) (in_split m d (suc p) row ∙ ap (λ n. in_from q m (suc p) row && in_from q d n row) (omega arith))
      ∙ assoc (meets (q p) (row p)) (in_from q m (suc p) row) (in_from q d (p + suc m) row)
    where
      assoc : (a b c : Bool) → (a && (b && c)) ≡ ((a && b) && c)
      assoc true b c = refl
      assoc false b c = refl

  -- the next stage, with the bits before p fixed as the piece asks: the rest of the piece over what they lead to
  pub over_fixed : {w : ℕ} {In : ℕ → Type 0} {t : Table} (red : Reduced w In t) (c : ℕ) (r : Ref) → Known In r → (d p : ℕ) → p + d ≡ w
      → (u : Bits) → in_from q p 0 u ≡ true
      → (row : Bits) → fixed p u (over w q c (value w t r)) row ≡ cond (in_from q d p row) c (value w t (walk t p u r) row)
  unfolding over
  over_fixed {w = w} {t = t} red c r k d p e u asked row =
      ap (λ b. cond b c (value w t r v)) split ∙ ap (cond (in_from q d p row) c) (value_fixed red d p e u row r k)
    where
      v : Bits
      v = splice p u row

      split : in_from q w 0 v ≡ in_from q d p row
      split =
          ap (λ n. in_from q n 0 v) (sym e) ∙ in_split p d 0 v
          ∙ ap (λ b. b && in_from q d (0 + p) v) (in_agree p 0 v u (λ z a b. splice_low p u row z (omega arith)) ∙ asked)
          ∙ ap (λ n. in_from q d n v) (zero-add p)
          ∙ in_agree d p v row (λ z a b. splice_high p u row z a)

  -- the results of laying from the next place on make the result of laying from p
  pub lay_step : {w : ℕ} {In : ℕ → Type 0} {t : Table} (red : Reduced w In t) (c : ℕ) (r : Ref) → Known In r → (d p : ℕ) → p + suc d ≡ w → p ≤ top w t r
      → (l h : Ref)
      → ((row : Bits) → value w t l row ≡ cond (meets (q p) false && in_from q d (suc p) row) c (value w t (step t p false r) row))
      → ((row : Bits) → value w t h row ≡ cond (meets (q p) true && in_from q d (suc p) row) c (value w t (step t p true r) row))
      → (m : Ref) → Made t In p l h m
      → (row : Bits) → value w t m row ≡ cond (in_from q (suc d) p row) c (value w t r row)
  lay_step {w = w} {t = t} red c r k d p e top-r l h low high m made row =
      made_value red p l h m (omega arith) made row ∙ go (row p) ∙ ap (cond (in_from q (suc d) p row) c) (sym (value_on red d p e row r k top-r))
    where
      go : (b : Bool) → cond b (value w t h row) (value w t l row) ≡ cond (meets (q p) b && in_from q d (suc p) row) c (value w t (step t p b r) row)
      go true = high row
      go false = low row

  -- a node to be made while laying is a part of the next stage
  pub laid_part : {w : ℕ} {In : ℕ → Type 0} {t : Table} (red : Reduced w In t) (c : ℕ) (r : Ref) → Known In r → (d p : ℕ) → p + suc d ≡ w
      → (u : Bits) → in_from q p 0 u ≡ true → (l h : Ref) → Known In l → Known In h → p < top w t l → p < top w t h → l ≢ h
      → ((row : Bits) → value w t l row ≡ cond (meets (q p) false && in_from q d (suc p) row) c (value w t (step t p false (walk t p u r)) row))
      → ((row : Bits) → value w t h row ≡ cond (meets (q p) true && in_from q d (suc p) row) c (value w t (step t p true (walk t p u r)) row))
      → PartOf (over w q c (value w t r)) (pending red p l h)
  laid_part {w = w} {In = In} {t = t} red c r k d p e u asked l h kl kh tl th n low high = record {
    fixing = u;
    is = fun_ext (λ row. go row (row p) ∙ sym (rest row));
    matters = pending_matters red p l h (omega arith) kl kh tl th n;
  }
    where
      a : Ref
      a = walk t p u r

      known : Known In a
      known = walk_known red p u r k

      go : (row : Bits) (b : Bool) → cond b (value w t h row) (value w t l row) ≡ cond (meets (q p) b && in_from q d (suc p) row) c (value w t (step t p b a) row)
      go row true = high row
      go row false = low row

      rest : (row : Bits) → fixed p u (over w q c (value w t r)) row ≡ cond (meets (q p) (row p) && in_from q d (suc p) row) c (value w t (step t p (row p) a) row)
      rest row =
          over_fixed red c r k (suc d) p e u asked row
          ∙ ap (cond (in_from q (suc d) p row) c) (value_on red d p e row a known (walk_top red p u r (omega arith) k))
