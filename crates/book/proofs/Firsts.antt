-- The first header with different verdicts is unique. Assumes nothing.
use Rattle.std.proofs.Common.{◌≡◌, ℕ, zero, suc, ◌<◌, ◌≤◌, Bool, true, false, ◌⊎◌, List, sym, refl, ap, ◌∙◌, inl, inr, arith}
use native.Mathlib.Decide.{ℕ_discrete}
use Rattle.acl.specs.declared.header.Header.{Header}
use Rattle.acl.specs.declared.line.Line.{Line}
use Rattle.acl.specs.Headers.{header_bit, width}
use Rattle.model.specs.Rows.{Bits, AgreeBelow, First}
use Rattle.orders.specs.Meanings.{OrderMeaning, LawfulOrder, by_place, Before}
use Rattle.kinds.specs.Kinds.{KindMeaning}
use Rattle.stages.proofs.Rounds.{row_agree, header_back}
use Rattle.book.specs.Answers.{FirstDiffers}

-- two bits are equal, or one is 0 and the other 1
bool_cases : (a b : Bool) → (a ≡ b) ⊎ ((a ≡ false) × (b ≡ true)) ⊎ ((a ≡ true) × (b ≡ false))
bool_cases true true = inl refl
bool_cases false false = inl refl
bool_cases false true = inr (inl (refl, refl))
bool_cases true false = inr (inr (refl, refl))

-- two rows agree below n, or one of them is first
pub compare_rows : (w : ℕ) (u v : Bits) (n : ℕ) → n ≤ w → AgreeBelow n u v ⊎ (First w u v ⊎ First w v u)
compare_rows w u v zero l = inl (λ q h. absurd (omega arith))
compare_rows w u v (suc n) l = go (compare_rows w u v n (omega arith)) (bool_cases (u n) (v n))
  where
    go : AgreeBelow n u v ⊎ (First w u v ⊎ First w v u) → (u n ≡ v n) ⊎ ((u n ≡ false) × (v n ≡ true)) ⊎ ((u n ≡ true) × (v n ≡ false))
        → AgreeBelow (suc n) u v ⊎ (First w u v ⊎ First w v u)
    go (inr d) c = inr d
    go (inl a) (inl e) = inl (λ q h. next q h (ℕ_discrete q n))
      where
        next : (q : ℕ) → q < suc n → Dec (q ≡ n) → u q ≡ v q
        next q h (yes x) = ap u x ∙ e ∙ ap v (sym x)
        next q h (no x) = a q (omega arith)
    go (inl a) (inr (inl d)) = inr (inl (record { place = n; within = l; same = a; zero_here = d.0; one_there = d.1 }))
    go (inl a) (inr (inr d)) = inr (inr (record { place = n; within = l; same = λ q h. sym (a q h); zero_here = d.1; one_there = d.0 }))

-- two first headers with different verdicts, for the same two lists, are the same
pub first_unique : (o : OrderMeaning) → LawfulOrder width o → {V : Type 0} (k : KindMeaning V) (xs ys : List Line) (h g : Header)
    → FirstDiffers o k xs ys h → FirstDiffers o k xs ys g → h ≡ g
first_unique o laws k xs ys h g dh dg = go (compare_rows width (by_place o (header_bit h)) (by_place o (header_bit g)) width (omega arith))
  where
    go : AgreeBelow width (by_place o (header_bit h)) (by_place o (header_bit g)) ⊎ (Before o h g ⊎ Before o g h) → h ≡ g
    go (inl a) =
        sym (header_back o laws h dh.real) ∙ row_agree o laws (by_place o (header_bit h)) (by_place o (header_bit g)) a
        ∙ header_back o laws g dg.real
    go (inr (inl f)) = absurd (dh.here (dg.before h dh.real f))
    go (inr (inr f)) = absurd (dg.here (dh.before g dg.real f))
