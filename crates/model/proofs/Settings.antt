-- The settings of finitely many bits, and what they decide: whether two stages that read w bits are the same, and
-- whether a bit matters. Assumes nothing.
use mathlib.Core.Path.{◌≡◌, refl, sym, ap, ◌∙◌, subst, fun_ext}
use mathlib.Core.Logic.{◌⊎◌, inl, inr}
use mathlib.Core.Bool.{Bool, true, false, cond}
use mathlib.Core.List.{List, [], ◌∷◌, ◌++◌, map}
use Prim.Native.Nat.{ℕ, zero, suc, ◌<◌}
use native.Mathlib.Decide.{ℕ_discrete, dec_lt}
use native.Mathlib.Omega.{arith}
use lib.Dec.{eqb, ltb}
use Rattle.model.specs.Rows.{Bits, AgreeBelow, splice, put}
use Rattle.model.specs.Sets.{◌∈◌}
use Rattle.model.specs.Stages.{Stage, Reads}
use Rattle.model.specs.Parts.{fixed, Matters}
use Rattle.model.proofs.Rows.{splice_low, splice_high, put_here, put_else}
use Rattle.model.proofs.Images.{in_map}

module _ {A : Type 0} where
  -- what stands in a list stands in a longer one
  pub in_left : (x : A) (xs ys : List A) → x ∈ xs → x ∈ (xs ++ ys)
  in_left x [] ys h = absurd h
  in_left x (z ∷ xs) ys (inl e) = inl e
  in_left x (z ∷ xs) ys (inr h) = inr (in_left x xs ys h)

  -- and so behind another list
  pub in_right : (x : A) (xs ys : List A) → x ∈ ys → x ∈ (xs ++ ys)
  in_right x [] ys h = h
  in_right x (z ∷ xs) ys h = inr (in_right x xs ys h)

  -- what stands in two lists, one behind the other, stands in one of them
  pub in_either : (x : A) (xs ys : List A) → x ∈ (xs ++ ys) → (x ∈ xs) ⊎ (x ∈ ys)
  in_either x [] ys h = inr h
  in_either x (z ∷ xs) ys (inl e) = inl (inl e)
  in_either x (z ∷ xs) ys (inr h) = go (in_either x xs ys h)
    where
      go : (x ∈ xs) ⊎ (x ∈ ys) → (x ∈ (z ∷ xs)) ⊎ (x ∈ ys)
      go (inl m) = inl (inr m)
      go (inr m) = inr m

  -- what is decided of each thing holds of all in a list, or fails of some thing
  pub everywhere : {P : A → Type 0} → ((x : A) → Dec (P x)) → (xs : List A)
      → ((x : A) → x ∈ xs → P x) ⊎ ((x : A) × ¬ P x)
  everywhere d [] = inl (λ x h. absurd h)
  everywhere {P} d (y ∷ ys) = go (d y) (everywhere d ys)
    where
      go : Dec (P y) → ((x : A) → x ∈ ys → P x) ⊎ ((x : A) × ¬ P x)
          → ((x : A) → x ∈ (y ∷ ys) → P x) ⊎ ((x : A) × ¬ P x)
      go (no n) r = inr (y, n)
      go (yes p) (inr r) = inr r
      go (yes p) (inl all) = inl both
        where
          both : (x : A) → x ∈ (y ∷ ys) → P x
          both x (inl e) = subst P (sym e) p
          both x (inr h) = all x h

-- all settings of the bits below n
pub rows : ℕ → List Bits
rows zero = (λ q. false) ∷ []
rows (suc n) = map (put n false) (rows n) ++ map (put n true) (rows n)

-- a setting of the bits below n with any bit at n is one of the bits up to n
rows_more : (n : ℕ) (b : Bool) (v : Bits) → v ∈ rows n → put n b v ∈ rows (suc n)
unfolding rows
rows_more n false v h =
    in_left (put n false v) (map (put n false) (rows n)) (map (put n true) (rows n)) (in_map (put n false) v (rows n) h)
rows_more n true v h =
    in_right (put n true v) (map (put n false) (rows n)) (map (put n true) (rows n)) (in_map (put n true) v (rows n) h)

-- the first of the settings
rows_none : (λ q. false) ∈ rows 0
unfolding rows
rows_none = inl refl

-- one of the settings of the bits below n that has the bits of u
pub record Row (n : ℕ) (u : Bits) : Type 0 where
  pub row : Bits
  pub one : row ∈ rows n
  pub agrees : AgreeBelow n u row

-- every row of bits has such a setting
pub row_of : (n : ℕ) (u : Bits) → Row n u
row_of zero u = record { row = λ q. false; one = rows_none; agrees = λ q h. absurd (omega arith) }
row_of (suc n) u =
    let r = row_of n u in
    record { row = put n (u n) r.row; one = rows_more n (u n) r.row r.one; agrees = λ q h. same r q h (ℕ_discrete q n) }
  where
    same : (r : Row n u) (q : ℕ) → q < suc n → Dec (q ≡ n) → u q ≡ put n (u n) r.row q
    same r q h (yes e) =
        ap u e ∙ sym (put_here n (u n) r.row) ∙ ap (put n (u n) r.row) (sym e)
    same r q h (no d) = r.agrees q (omega arith) ∙ sym (put_else n (u n) r.row q d)

-- rows that agree below w do so with a bit put into both
pub put_agree : (w p : ℕ) (b : Bool) (u v : Bits) → AgreeBelow w u v → AgreeBelow w (put p b u) (put p b v)
put_agree w p b u v h q l = ap (λ x. cond (eqb q p) b x) (h q l)

-- a splice of rows that agree below w agrees there
pub splice_agree : (w p : ℕ) (f u v : Bits) → AgreeBelow w u v → AgreeBelow w (splice p f u) (splice p f v)
splice_agree w p f u v h q l = ap (λ x. cond (ltb q p) (f q) x) (h q l)

-- of the fixing only the bits before p count
pub fixed_agree : (p : ℕ) (u v : Bits) (s : Stage) → AgreeBelow p u v → fixed p u s ≡ fixed p v s
fixed_agree p u v s h = fun_ext (λ x. ap s (fun_ext (λ q. same x q (dec_lt q p))))
  where
    same : (x : Bits) (q : ℕ) → Dec (q < p) → splice p u x q ≡ splice p v x q
    same x q (yes l) = splice_low p u x q l ∙ h q l ∙ sym (splice_low p v x q l)
    same x q (no n) = splice_high p u x q (omega arith) ∙ sym (splice_high p v x q (omega arith))

-- what remains of a stage reads no more bits than the stage
pub fixed_reads : (w p : ℕ) (u : Bits) (s : Stage) → Reads w s → Reads w (fixed p u s)
fixed_reads w p f s r u v h = r (splice p f u) (splice p f v) (splice_agree w p f u v h)

-- two stages that read w bits are the same or not
pub same_or_not : (w : ℕ) (s t : Stage) → Reads w s → Reads w t → Dec (s ≡ t)
same_or_not w s t rs rt = go (everywhere (λ v. ℕ_discrete (s v) (t v)) (rows w))
  where
    go : ((v : Bits) → v ∈ rows w → s v ≡ t v) ⊎ ((v : Bits) × ¬ (s v ≡ t v)) → Dec (s ≡ t)
    go (inl all) =
        yes (fun_ext (λ v.
        let r = row_of w v in
        rs v r.row r.agrees ∙ all r.row r.one ∙ sym (rt v r.row r.agrees)))
    go (inr (v, n)) = no (λ e. n (ap (λ f. f v) e))

-- a bit matters to a stage that reads w bits or not
pub matters_or_not : (w p : ℕ) (s : Stage) → Reads w s → Dec (Matters p s)
matters_or_not w p s rs = go (everywhere (λ v. ℕ_discrete (s (put p false v)) (s (put p true v))) (rows w))
  where
    go : ((v : Bits) → v ∈ rows w → s (put p false v) ≡ s (put p true v)) ⊎ ((v : Bits) × ¬ (s (put p false v) ≡ s (put p true v)))
        → Dec (Matters p s)
    go (inl all) =
        no (λ m.
        let r = row_of w m.at in
        m.changes
        (rs (put p false m.at) (put p false r.row) (put_agree w p false m.at r.row r.agrees)
        ∙ all r.row r.one
        ∙ sym (rs (put p true m.at) (put p true r.row) (put_agree w p true m.at r.row r.agrees))))
    go (inr (v, n)) = yes (record { at = v; changes = n })

-- a bit that a stage does not read does not matter
pub matters_low : (w p : ℕ) (s : Stage) → Reads w s → Matters p s → p < w
matters_low w p s rs m = go (dec_lt p w)
  where
    go : Dec (p < w) → p < w
    go (yes l) = l
    go (no n) =
        absurd
        (m.changes
        (rs (put p false m.at) (put p true m.at)
        (λ q l. put_else p false m.at q (omega arith) ∙ sym (put_else p true m.at q (omega arith)))))
