-- Every family of parts that a fit speaks of has a count, so a list fits or is overfull. Assumes nothing.
use mathlib.Core.Path.{◌≡◌, refl, sym, ap, ◌∙◌, subst}
use mathlib.Core.Logic.{◌⊎◌, inl, inr, ◌↔◌}
use mathlib.Core.Bool.{cond}
use mathlib.Core.List.{List, [], ◌∷◌, ◌++◌}
use Prim.Native.Nat.{ℕ, zero, suc, ◌≤◌, ◌<◌}
use native.Mathlib.Decide.{ℕ_discrete, dec_le}
use native.Mathlib.Omega.{arith}
use Rattle.model.specs.Rows.{Bits}
use Rattle.model.specs.Sets.{◌∈◌, CountIs, Either}
use Rattle.model.specs.Stages.{Stage, Layer, lay, lay_all, last_of, Reads, AllRead, LinesRead}
use Rattle.model.specs.Parts.{Part, PartOf, PartOfSome, Matters, fixed, AtPiece, FitPieces, OverPieces, FitOver, Overfull}
use Rattle.model.specs.Stands.{AllCountsStand}
use Rattle.model.proofs.Counting.{pigeonhole, count_few, count_many, count_moves, counting}
use Rattle.model.proofs.Rows.{same_part}
use Rattle.model.proofs.Settings.{in_left, in_right, in_either, rows, row_of, fixed_agree, fixed_reads, same_or_not, matters_or_not, matters_low}

-- a list of all members of a family, repeated ones too
pub record Listed {A : Type 0} (S : A → Type 0) : Type 0 where
  pub members : List A
  pub exact : (x : A) → S x ↔ (x ∈ members)

module _ {A : Type 0} where
  -- a family with the same members is listed too
  listed_moves : {S R : A → Type 0} → ((x : A) → R x ↔ S x) → Listed S → Listed R
  listed_moves e c = record {
    members = c.members;
    exact = λ x. (λ h. (c.exact x).0 ((e x).0 h), λ h. (e x).1 ((c.exact x).1 h));
  }

  -- a family with no member is listed
  listed_none : {S : A → Type 0} → ((x : A) → ¬ S x) → Listed S
  listed_none n = record { members = []; exact = λ x. (n x, λ h. absurd h) }

  -- the members of either of two listed families
  listed_either : {S R : A → Type 0} → Listed S → Listed R → Listed (Either S R)
  listed_either {S} {R} a b = record { members = a.members ++ b.members; exact = λ x. (there x, λ h. back x (in_either x a.members b.members h)) }
    where
      there : (x : A) → S x ⊎ R x → x ∈ (a.members ++ b.members)
      there x (inl s) = in_left x a.members b.members ((a.exact x).0 s)
      there x (inr r) = in_right x a.members b.members ((b.exact x).0 r)

      back : (x : A) → (x ∈ a.members) ⊎ (x ∈ b.members) → S x ⊎ R x
      back x (inl m) = inl ((a.exact x).1 m)
      back x (inr m) = inr ((b.exact x).1 m)

  -- one thing, if a decided condition holds
  listed_if : {P : Type 0} (a : A) → Dec P → Listed (λ x. P × (x ≡ a))
  listed_if {P} a (yes p) = record { members = a ∷ []; exact = λ x. (λ h. inl h.1, back x) }
    where
      back : (x : A) → x ∈ (a ∷ []) → P × (x ≡ a)
      back x (inl e) = (p, e)
      back x (inr h) = absurd h
  listed_if a (no n) = listed_none (λ x h. n h.0)

  -- the members of a family for each thing of a list
  listed_over : {B : Type 0} {S : B → A → Type 0} (us : List B) → ((u : B) → u ∈ us → Listed (S u))
      → Listed (λ x. (u : B) × (u ∈ us) × S u x)
  listed_over [] f = listed_none (λ x h. h.1)
  listed_over {B} {S} (v ∷ us) f = listed_moves (λ x. (there x, back x)) (listed_either (f v (inl refl)) (listed_over us (λ u m. f u (inr m))))
    where
      there : (x : A) → ((u : B) × (u ∈ (v ∷ us)) × S u x) → S v x ⊎ ((u : B) × (u ∈ us) × S u x)
      there x (u, inl e, h) = inl (subst (λ z. S z x) e h)
      there x (u, inr m, h) = inr (u, m, h)

      back : (x : A) → S v x ⊎ ((u : B) × (u ∈ us) × S u x) → (u : B) × (u ∈ (v ∷ us)) × S u x
      back x (inl h) = (v, inl refl, h)
      back x (inr (u, m, h)) = (u, inr m, h)

  -- the members of a family for each number below w
  listed_below : {S : ℕ → A → Type 0} (w : ℕ) → ((p : ℕ) → Listed (S p)) → Listed (λ x. (p : ℕ) × (p < w) × S p x)
  listed_below zero f = listed_none (λ x h. let l = h.1 in omega arith)
  listed_below {S} (suc w) f = listed_moves (λ x. (there x, back x)) (listed_either (f w) (listed_below w f))
    where
      go : (x : A) (p : ℕ) → p < suc w → S p x → Dec (p ≡ w) → S w x ⊎ ((p : ℕ) × (p < w) × S p x)
      go x p l h (yes e) = inl (subst (λ q. S q x) e h)
      go x p l h (no n) = inr (p, omega arith, h)

      there : (x : A) → ((p : ℕ) × (p < suc w) × S p x) → S w x ⊎ ((p : ℕ) × (p < w) × S p x)
      there x (p, l, h) = go x p l h (ℕ_discrete p w)

      back : (x : A) → S w x ⊎ ((p : ℕ) × (p < w) × S p x) → (p : ℕ) × (p < suc w) × S p x
      back x (inl h) = (w, omega arith, h)
      back x (inr (p, l, h)) = (p, omega arith, h)

  -- a thing that is told from each of a list stands in it or not
  in_or_not : (x : A) (ys : List A) → ((y : A) → y ∈ ys → Dec (x ≡ y)) → Dec (x ∈ ys)
  in_or_not x [] d = no (λ h. h)
  in_or_not x (y ∷ ys) d = go (d y (inl refl)) (in_or_not x ys (λ z m. d z (inr m)))
    where
      neither : ¬ (x ≡ y) → ¬ (x ∈ ys) → ¬ (x ∈ (y ∷ ys))
      neither n m (inl e) = n e
      neither n m (inr h) = m h

      go : Dec (x ≡ y) → Dec (x ∈ ys) → Dec (x ∈ (y ∷ ys))
      go (yes e) t = yes (inl e)
      go (no n) (yes m) = yes (inr m)
      go (no n) (no m) = no (neither n m)

  -- a list has a count of the things in it, if they are told from each other
  count_list : (xs : List A) → ((x y : A) → x ∈ xs → y ∈ xs → Dec (x ≡ y)) → (c : ℕ) × CountIs (λ x. x ∈ xs) c
  count_list [] d = (0, record { members = []; distinct = tt; exact = λ x. (λ h. h, λ h. h); number = refl })
  count_list (y ∷ ys) d = rest (count_list ys (λ a b ha hb. d a b (inr ha) (inr hb)))
    where
      rest : ((c : ℕ) × CountIs (λ x. x ∈ ys) c) → (c : ℕ) × CountIs (λ x. x ∈ (y ∷ ys)) c
      rest (c, k) = go (in_or_not y k.members (λ z m. d y z (inl refl) (inr ((k.exact z).1 m))))
        where
          same : y ∈ k.members → (x : A) → x ∈ (y ∷ ys) → x ∈ ys
          same m x (inl e) = (k.exact x).1 (subst (λ z. z ∈ k.members) (sym e) m)
          same m x (inr h) = h

          there : (x : A) → x ∈ (y ∷ ys) → x ∈ (y ∷ k.members)
          there x (inl e) = inl e
          there x (inr h) = inr ((k.exact x).0 h)

          back : (x : A) → x ∈ (y ∷ k.members) → x ∈ (y ∷ ys)
          back x (inl e) = inl e
          back x (inr h) = inr ((k.exact x).1 h)

          go : Dec (y ∈ k.members) → (c : ℕ) × CountIs (λ x. x ∈ (y ∷ ys)) c
          go (yes m) = (c, count_moves (λ x. (same m x, λ h. inr h)) k)
          go (no n) =
              (suc c, record { members = y ∷ k.members; distinct = (n, k.distinct); exact = λ x. (there x, back x); number = ap suc k.number })

  -- a listed family, whose members are told from each other, has a count
  pub listed_count : {S : A → Type 0} → Listed S → ((x y : A) → S x → S y → Dec (x ≡ y)) → (c : ℕ) × CountIs S c
  listed_count l d =
      let (c, k) = count_list l.members (λ x y hx hy. d x y ((l.exact x).1 hx) ((l.exact y).1 hy)) in
      (c, count_moves l.exact k)

-- the part at p that fixing the bits before p as in u leaves
abbrev leaves : ℕ → Bits → Stage → Part
leaves p u s = record { place = p; left = fixed p u s }

-- the parts of s by place and setting
abbrev ByPlace : ℕ → Stage → Part → Type 0
ByPlace w s x = (p : ℕ) × (p < w) × ((u : Bits) × (u ∈ rows p) × (Matters p (fixed p u s) × (x ≡ leaves p u s)))

module _ (w : ℕ) where
  -- a part of a stage reads no more bits than the stage
  part_reads : (s : Stage) (x : Part) → Reads w s → PartOf s x → Reads w x.left
  part_reads s x r h = subst (λ f. Reads w f) (sym h.is) (fixed_reads w x.place h.fixing s r)

  -- a part has its place among the bits that the stage reads, and one of finitely many settings leaves it
  part_by_place : (s : Stage) (x : Part) → Reads w s → PartOf s x → ByPlace w s x
  part_by_place s x r h =
      let c = row_of x.place h.fixing in
      let same : x.left ≡ fixed x.place c.row s =
      h.is ∙ fixed_agree x.place h.fixing c.row s c.agrees in (
        x.place,
        matters_low w x.place x.left (part_reads s x r h) h.matters,
        (c.row, c.one, (subst (Matters x.place) same h.matters, same_part x (leaves x.place c.row s) refl same)),
      )

  -- and what such a setting leaves is a part if its bit matters
  by_place_part : (s : Stage) (x : Part) → ByPlace w s x → PartOf s x
  by_place_part s x (p, l, (u, o, (m, e))) =
      subst (PartOf s) (sym e) (record { fixing = u; is = refl; matters = m })

  -- the parts of a stage are listed
  parts_listed : (s : Stage) → Reads w s → Listed (PartOf s)
  parts_listed s r =
      listed_moves (λ x. (part_by_place s x r, by_place_part s x))
      (listed_below w (λ p. listed_over (rows p) (λ u o. listed_if (leaves p u s) (matters_or_not w p (fixed p u s) (fixed_reads w p u s r)))))

  -- parts that read w bits are the same or not
  same_part_or_not : (x y : Part) → Reads w x.left → Reads w y.left → Dec (x ≡ y)
  same_part_or_not x y rx ry = go (ℕ_discrete x.place y.place) (same_or_not w x.left y.left rx ry)
    where
      go : Dec (x.place ≡ y.place) → Dec (x.left ≡ y.left) → Dec (x ≡ y)
      go (yes p) (yes l) = yes (same_part x y p l)
      go (yes p) (no n) = no (λ e. n (ap (λ z. z.left) e))
      go (no n) l = no (λ e. n (ap (λ z. z.place) e))

  -- the parts of finitely many stages are listed
  some_listed : (stages : List Stage) → ((s : Stage) → s ∈ stages → Reads w s) → Listed (PartOfSome stages)
  some_listed stages r =
      listed_moves (λ x. (λ h. (h.stage, h.one, h.part), λ h. record { stage = h.0; one = h.1; part = h.2 }))
      (listed_over stages (λ s m. parts_listed s (r s m)))

  -- the parts of finitely many stages have a count
  pub some_counted : (stages : List Stage) → ((s : Stage) → s ∈ stages → Reads w s) → (c : ℕ) × CountIs (PartOfSome stages) c
  some_counted stages r =
      listed_count (some_listed stages r)
      (λ x y hx hy.
      same_part_or_not x y (part_reads hx.stage x (r hx.stage hx.one) hx.part)
      (part_reads hy.stage y (r hy.stage hy.one) hy.part))

  -- the stage after a piece reads no more bits than the one before and the piece
  pub lay_reads : (l : Layer) (s : Stage) → Reads w l.holds → Reads w s → Reads w (lay l s)
  lay_reads l s h r u v a = ap (λ b. cond b l.code (s u)) (h u v a) ∙ ap (λ c. cond (l.holds v) l.code c) (r u v a)

  -- and so after all pieces of a line
  pub lay_all_reads : (ls : List Layer) (s : Stage) → AllRead w ls → Reads w s → Reads w (lay_all ls s)
  lay_all_reads [] s a r = r
  lay_all_reads (l ∷ ls) s a r = lay_all_reads ls (lay l s) a.1 (lay_reads l s a.0 r)

  -- and at the end of a list
  pub last_of_reads : (end : ℕ) (xs : List (List Layer)) → LinesRead w xs → Reads w (last_of end xs)
  last_of_reads end [] a = λ u v h. refl
  last_of_reads end (x ∷ xs) a = lay_all_reads x (last_of end xs) a.0 (last_of_reads end xs a.1)

-- the parts at a piece are those of two stages more
piece_stages : (stages : List Stage) (s : Stage) (l : Layer) (x : Part)
    → AtPiece (PartOfSome stages) s l x ↔ PartOfSome (s ∷ lay l s ∷ stages) x
piece_stages stages s l x = (there, λ h. back h.stage h.one h.part)
  where
    there : AtPiece (PartOfSome stages) s l x → PartOfSome (s ∷ lay l s ∷ stages) x
    there (inl h) = record { stage = h.stage; one = inr (inr h.one); part = h.part }
    there (inr (inl h)) = record { stage = s; one = inl refl; part = h }
    there (inr (inr h)) = record { stage = lay l s; one = inr (inl refl); part = h }

    back : (t : Stage) → t ∈ (s ∷ lay l s ∷ stages) → PartOf t x → AtPiece (PartOfSome stages) s l x
    back t (inl e) h = inr (inl (subst (λ z. PartOf z x) e h))
    back t (inr (inl e)) h = inr (inr (subst (λ z. PartOf z x) e h))
    back t (inr (inr m)) h = inl (record { stage = t; one = m; part = h })

module _ (n : ℕ) (S : Part → Type 0) where
  -- pieces that fit are not over
  pieces_not_both : (s : Stage) (ls : List Layer) → FitPieces n S s ls → ¬ OverPieces n S s ls
  pieces_not_both s [] f o = o
  pieces_not_both s (l ∷ ls) f (inl (c, k, m)) = pigeonhole (count_many k m) f.0
  pieces_not_both s (l ∷ ls) f (inr o) = pieces_not_both (lay l s) ls f.1 o

  -- a list that fits is not overfull
  pub lines_not_both : (end : ℕ) (xs : List (List Layer)) → FitOver n S end xs → ¬ Overfull n S end xs
  lines_not_both end [] f o = o
  lines_not_both end (x ∷ xs) f (inl o) = lines_not_both end xs f.0 o
  lines_not_both end (x ∷ xs) f (inr o) = pieces_not_both (last_of end xs) x f.1 o

module _ (w : ℕ) (stages : List Stage) (reads : (s : Stage) → s ∈ stages → Reads w s) where
  -- the parts at a piece have a count
  pub piece_counted : (s : Stage) (l : Layer) → Reads w s → Reads w l.holds → (c : ℕ) × CountIs (AtPiece (PartOfSome stages) s l) c
  piece_counted s l r h =
      let (c, k) = some_counted w (s ∷ lay l s ∷ stages) all in
      (c, count_moves (piece_stages stages s l) k)
    where
      all : (t : Stage) → t ∈ (s ∷ lay l s ∷ stages) → Reads w t
      all t (inl e) = subst (λ z. Reads w z) (sym e) r
      all t (inr (inl e)) = subst (λ z. Reads w z) (sym e) (lay_reads w l s h r)
      all t (inr (inr m)) = reads t m

  -- the pieces of a line fit, or one is over by a count
  pieces_either : (n : ℕ) (s : Stage) (ls : List Layer) → Reads w s → AllRead w ls
      → FitPieces n (PartOfSome stages) s ls ⊎ OverPieces n (PartOfSome stages) s ls
  pieces_either n s [] r a = inl tt
  pieces_either n s (l ∷ ls) r a =
      let (c, k) = piece_counted s l r a.0 in
      go c k (dec_le c n) (pieces_either n (lay l s) ls (lay_reads w l s a.0 r) a.1)
    where
      go : (c : ℕ) → CountIs (AtPiece (PartOfSome stages) s l) c → Dec (c ≤ n)
          → FitPieces n (PartOfSome stages) (lay l s) ls ⊎ OverPieces n (PartOfSome stages) (lay l s) ls
          → FitPieces n (PartOfSome stages) s (l ∷ ls) ⊎ OverPieces n (PartOfSome stages) s (l ∷ ls)
      go c k (no m) t = inr (inl (c, k, omega arith))
      go c k (yes m) (inr o) = inr (inr o)
      go c k (yes m) (inl f) = inl (count_few k m, f)

  -- a list fits, or is overfull by a count
  pub lines_either : (n end : ℕ) (xs : List (List Layer)) → LinesRead w xs
      → FitOver n (PartOfSome stages) end xs ⊎ Overfull n (PartOfSome stages) end xs
  lines_either n end [] a = inl tt
  lines_either n end (x ∷ xs) a =
      go (lines_either n end xs a.1) (pieces_either n (last_of end xs) x (last_of_reads w end xs a.1) a.0)
    where
      go : FitOver n (PartOfSome stages) end xs ⊎ Overfull n (PartOfSome stages) end xs
          → FitPieces n (PartOfSome stages) (last_of end xs) x ⊎ OverPieces n (PartOfSome stages) (last_of end xs) x
          → FitOver n (PartOfSome stages) end (x ∷ xs) ⊎ Overfull n (PartOfSome stages) end (x ∷ xs)
      go (inr o) t = inr (inl o)
      go (inl f) (inr o) = inr (inr o)
      go (inl f) (inl g) = inl (f, g)

-- every family of parts that a fit speaks of has a count, and one only
pub counts_stand : AllCountsStand
counts_stand w stages reads = record {
  counted = some_counted w stages reads;
  counting = counting (PartOfSome stages);
  at_piece = λ s l r h.
      let (c, k) = piece_counted w stages reads s l r h in
      record { count = c; is = k; counting = counting (AtPiece (PartOfSome stages) s l) };
  fits = λ n end xs a. record {
    either = lines_either w stages reads n end xs a;
    not_both = lines_not_both n (PartOfSome stages) end xs;
  };
}
