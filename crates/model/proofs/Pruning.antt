-- Pruning from the last line to the first keeps every verdict, leaves no idle line, and has one outcome. Assumes nothing.
use mathlib.Core.Path.{◌≡◌, refl, sym, ap, ◌∙◌, subst}
use mathlib.Core.Logic.{◌⊎◌, inl, inr}
use mathlib.Core.Bool.{Bool, true, false, cond}
use mathlib.Core.List.{List, [], ◌∷◌, reverse, reverse_aux, reverse-reverse}
use Prim.Native.Nat.{ℕ, suc, ◌+◌, ◌<◌}
use native.Mathlib.Nat.{add-zero}
use native.Mathlib.Decide.{ℕ_discrete}
use native.Mathlib.Omega.{arith}
use lib.ListN.{length, length-reverse_aux}
use Rattle.model.specs.Rulings.{Ruling, without, verdict, Alike, Idle, PrunedFrom}
use Rattle.model.specs.Stands.{PruningStands}

-- a flag is true or false
either_way : (b : Bool) → (b ≡ true) ⊎ (b ≡ false)
either_way true = inl refl
either_way false = inr refl

-- a choice by a true flag is the first way
cond_true : {A : Type 0} {b : Bool} (x y : A) → b ≡ true → cond b x y ≡ x
cond_true x y e = rw e

-- a choice by a false flag is the second way
cond_false : {A : Type 0} {b : Bool} (x y : A) → b ≡ false → cond b x y ≡ y
cond_false x y e = rw e

-- if neither of two flags is true, the first is false
none_head : (b c : Bool) → cond b true c ≡ false → b ≡ false
none_head true c e = e
none_head false c e = refl

-- and so is the second
none_tail : (b c : Bool) → cond b true c ≡ false → c ≡ false
none_tail true c e = let z : ◌≡◌ {A = ℕ} 0 1 = cc in absurd (omega arith)
none_tail false c e = e

-- if one of two flags is true and the second is false, it is the first
some_head : (b c : Bool) → cond b true c ≡ true → c ≡ false → b ≡ true
some_head true c e d = refl
some_head false c e d = sym d ∙ e

-- the list without a line behind a front, and the front with the back without it
without_past : {L : Type 0} (f ys : List L) (i : ℕ) → without (reverse_aux f ys) (length f + i) ≡ reverse_aux f (without ys i)
without_past [] ys i = ap (without ys) (omega arith)
without_past (x ∷ f) ys i =
    ap (without (reverse_aux f (x ∷ ys))) (omega arith) ∙ without_past f (x ∷ ys) (suc i)

module _ {H L V : Type 0} (r : Ruling H L V) where
  -- some line of the list fits the header
  abbrev some_fits : List L → H → Bool
  some_fits [] h = false
  some_fits (x ∷ xs) h = cond (r.fits x h) true (some_fits xs h)

  -- a header that no line of xs fits is fitted by none of ys
  abbrev Covers : List L → List L → Type 0
  Covers ys xs = (h : H) → some_fits xs h ≡ false → some_fits ys h ≡ false

  -- where no line of the front fits, the back decides
  passed : (f ys : List L) (h : H) → some_fits f h ≡ false → verdict r (reverse_aux f ys) h ≡ verdict r ys h
  passed [] ys h e = refl
  passed (x ∷ f) ys h e =
      passed f (x ∷ ys) h (none_tail (r.fits x h) (some_fits f h) e)
      ∙ cond_false (r.says x) (verdict r ys h) (none_head (r.fits x h) (some_fits f h) e)

  -- where one fits, the back is not asked
  decided_before : (f ys zs : List L) (h : H) → some_fits f h ≡ true → verdict r (reverse_aux f ys) h ≡ verdict r (reverse_aux f zs) h
  decided_before [] ys zs h e = let z : ◌≡◌ {A = ℕ} 0 1 = cc in absurd (omega arith)
  decided_before (x ∷ f) ys zs h e = go (either_way (some_fits f h)) (decided_before f (x ∷ ys) (x ∷ zs) h)
    where
      go : (some_fits f h ≡ true) ⊎ (some_fits f h ≡ false)
          → (some_fits f h ≡ true → verdict r (reverse_aux f (x ∷ ys)) h ≡ verdict r (reverse_aux f (x ∷ zs)) h)
          → verdict r (reverse_aux f (x ∷ ys)) h ≡ verdict r (reverse_aux f (x ∷ zs)) h
      go (inl t) ih = ih t
      go (inr n) ih =
          let hit : r.fits x h ≡ true = some_head (r.fits x h) (some_fits f h) e n in
          passed f (x ∷ ys) h n ∙ cond_true (r.says x) (verdict r ys h) hit
          ∙ sym (cond_true (r.says x) (verdict r zs h) hit) ∙ sym (passed f (x ∷ zs) h n)

  -- the key: a line that is idle behind fewer lines is idle behind more
  idle_behind_more : (few more : List L) → Covers few more → (x : L) (ys : List L)
      → Alike r (reverse_aux few ys) (reverse_aux few (x ∷ ys)) → Alike r (reverse_aux more ys) (reverse_aux more (x ∷ ys))
  idle_behind_more few more c x ys idle h real = go (either_way (some_fits more h))
    where
      go : (some_fits more h ≡ true) ⊎ (some_fits more h ≡ false) → verdict r (reverse_aux more ys) h ≡ verdict r (reverse_aux more (x ∷ ys)) h
      go (inl t) = decided_before more ys (x ∷ ys) h t
      go (inr n) =
          passed more ys h n ∙ sym (passed few ys h (c h n)) ∙ idle h real
          ∙ passed few (x ∷ ys) h (c h n) ∙ sym (passed more (x ∷ ys) h n)

  -- no line of the front, last first, is idle
  abbrev NoneIdle : List L → List L → Type 0
  NoneIdle [] ys = Unit {0}
  NoneIdle (x ∷ f) ys = ¬ Alike r (reverse_aux f ys) (reverse_aux f (x ∷ ys)) × NoneIdle f (x ∷ ys)

  -- a longer list still covers
  covers_more : (x : L) (f g : List L) → Covers f g → Covers f (x ∷ g)
  covers_more x f g c h e = c h (none_tail (r.fits x h) (some_fits g h) e)

  -- and so do both lists with one more line
  covers_both : (x : L) (f g : List L) → Covers f g → Covers (x ∷ f) (x ∷ g)
  covers_both x f g c h e =
      cond_false true (some_fits f h) (none_head (r.fits x h) (some_fits g h) e)
      ∙ c h (none_tail (r.fits x h) (some_fits g h) e)

  -- what pruning a front leaves: the lines kept of it
  record Left (f ys out : List L) : Type 0 where
    front : List L
    is : out ≡ reverse_aux front ys
    covers : Covers front f
    alike : Alike r out (reverse_aux f ys)
    none_idle : NoneIdle front ys

  -- pruning leaves such lines
  left : (f ys out : List L) → PrunedFrom r f ys out → Left f ys out
  left [] ys out e = record {
    front = [];
    is = e;
    covers = λ h d. refl;
    alike = λ h real. ap (λ l. verdict r l h) e;
    none_idle = tt;
  }
  left (x ∷ f) ys out (inl d) =
      let l = left f ys out d.1 in
      record {
        front = l.front;
        is = l.is;
        covers = covers_more x l.front f l.covers;
        alike = λ h real. l.alike h real ∙ d.0 h real;
        none_idle = l.none_idle;
      }
  left (x ∷ f) ys out (inr d) =
      let l = left f (x ∷ ys) out d.1 in
      record {
        front = x ∷ l.front;
        is = l.is;
        covers = covers_both x l.front f l.covers;
        alike = l.alike;
        none_idle = (λ i. d.0 (idle_behind_more l.front f l.covers x ys i), l.none_idle);
      }

  -- no line of such a front is idle by its number
  none_idle_at : (f ys : List L) → NoneIdle f ys → (i : ℕ) → i < length f → ¬ Idle r (reverse_aux f ys) i
  none_idle_at [] ys m i h idle = omega arith
  none_idle_at (x ∷ f) ys m i h idle = go (ℕ_discrete i (length f)) (none_idle_at f (x ∷ ys) m.1 i)
    where
      go : Dec (i ≡ length f) → (i < length f → ¬ Idle r (reverse_aux f (x ∷ ys)) i) → ⊥
      go (yes e) ih =
          m.0 (λ g real.
          ap (λ l. verdict r l g) (sym (ap (without (reverse_aux f (x ∷ ys))) (e ∙ sym (add-zero (length f))) ∙ without_past f (x ∷ ys) 0))
          ∙ idle g real)
      go (no ne) ih = ih (omega arith) idle

  -- two prunings of one list leave the same list
  pub one_outcome : (f ys out other : List L) → PrunedFrom r f ys out → PrunedFrom r f ys other → other ≡ out
  one_outcome [] ys out other a b = b ∙ sym a
  one_outcome (x ∷ f) ys out other (inl a) (inl b) = one_outcome f ys out other a.1 b.1
  one_outcome (x ∷ f) ys out other (inl a) (inr b) = absurd (b.0 a.0)
  one_outcome (x ∷ f) ys out other (inr a) (inl b) = absurd (a.0 b.0)
  one_outcome (x ∷ f) ys out other (inr a) (inr b) = one_outcome f (x ∷ ys) out other a.1 b.1

  -- the pruned list gives every header the old verdict, none of its lines is idle, and it is the only one
  pub pruning_stands : PruningStands r
  pruning_stands xs out p =
      let l = left (reverse xs) [] out p in
      let size : length out ≡ length l.front = ap length l.is ∙ length-reverse_aux l.front [] ∙ add-zero (length l.front) in
      record {
        alike = λ h real. l.alike h real ∙ ap (λ v. verdict r v h) (reverse-reverse xs);
        none_idle = λ i h. subst (λ v. ¬ Idle r v i) (sym l.is) (none_idle_at l.front [] l.none_idle i (omega arith));
        only = λ other q. one_outcome (reverse xs) [] out other p q;
      }
