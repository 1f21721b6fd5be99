-- Where a text line ends. Assumes nothing.
use Rattle.std.proofs.Common.{◌≡◌, ℕ, zero, suc, ◌+◌, ◌-◌, ◌<◌, Bool, true, false, cond, eqb, eqb-true, List, [], ◌∷◌, length, get_or, take, drop, Some, sym, refl, ap, ◌∙◌, arith, length-drop, length-take-le}
use Rattle.std.specs.List.{slice_get}
use Rattle.std.proofs.lemmas.Bool.{eq-eqb, ne_eqb, false≢true, cond-true, cond-false}
use Rattle.std.proofs.lemmas.List.{get_or-take, take-take}
use Rattle.std.proofs.lemmas.Option.{slice_get-get_or, slice_get_within}
use Rattle.words.specs.Lines.{returning, glued, text_lines, after_line}
use Rattle.words.proofs.Found.{FoundAt}

both : (b : Bool) → cond b false false ≡ false
both true = refl
both false = refl

-- b is in the line that goes on at c
inner : (b c : ℕ) (cs : List ℕ) → (b ≡ 10 → ⊥) → (c ≡ 10 → ⊥) → text_lines (b ∷ c ∷ cs) ≡ glued b (text_lines (c ∷ cs))
inner b c cs h k =
    let e : eqb b 10 ≡ false = ne_eqb b 10 h in
    let f : returning b (c ∷ cs) ≡ false = ap (λ x. cond (eqb b 13) x false) (ne_eqb c 10 k) ∙ both (eqb b 13) in
    ap (λ x. cond x ([] ∷ text_lines (c ∷ cs)) (cond (returning b (c ∷ cs)) (text_lines (c ∷ cs)) (glued b (text_lines (c ∷ cs))))) e
    ∙ ap (λ x. cond x (text_lines (c ∷ cs)) (glued b (text_lines (c ∷ cs)))) f

-- no end
last_line : (xs : List ℕ) → 0 < length xs → ((k : ℕ) → k < length xs → get_or xs k 0 ≡ 10 → ⊥) → text_lines xs ≡ xs ∷ []
last_line [] h all = absurd (omega arith)
last_line (b ∷ []) h all = ap (λ x. cond x ([] ∷ []) ((b ∷ []) ∷ [])) (ne_eqb b 10 (all 0 (omega arith)))
last_line (b ∷ c ∷ cs) h all =
    inner b c cs (all 0 (omega arith)) (all 1 (omega arith)) ∙ ap (glued b) (last_line (c ∷ cs) (omega arith) (λ k lt. all (suc k) (omega arith)))

-- an end of one byte
by_ten : (xs : List ℕ) (n : ℕ) → n < length xs → ((k : ℕ) → k < n → get_or xs k 0 ≡ 10 → ⊥) → get_or xs n 0 ≡ 10 → ((m : ℕ) → suc m ≡ n → get_or xs m 0 ≡ 13 → ⊥) → text_lines xs ≡ take n xs ∷ text_lines (drop (suc n) xs)
by_ten [] n lt all at plain = absurd (omega arith)
by_ten (b ∷ bs) zero lt all at plain = rw (eq-eqb b 10 at)
by_ten (b ∷ []) (suc n) lt all at plain = absurd (omega arith)
by_ten (b ∷ c ∷ cs) (suc zero) lt all at plain =
    let e : eqb b 10 ≡ false = ne_eqb b 10 (all 0 (omega arith)) in
    let f : eqb b 13 ≡ false = ne_eqb b 13 (plain 0 refl) in
    let g : eqb c 10 ≡ true = eq-eqb c 10 at in
    rw (e, f, g)
by_ten (b ∷ c ∷ cs) (suc (suc n)) lt all at plain =
    inner b c cs (all 0 (omega arith)) (all 1 (omega arith))
    ∙ ap (glued b) (by_ten (c ∷ cs) (suc n) (omega arith) (λ k h. all (suc k) (omega arith)) at (λ m e. plain (suc m) (ap suc e)))

-- an end of two bytes
by_both : (xs : List ℕ) (n : ℕ) → suc n < length xs → ((k : ℕ) → k < suc n → get_or xs k 0 ≡ 10 → ⊥) → get_or xs (suc n) 0 ≡ 10 → get_or xs n 0 ≡ 13 → text_lines xs ≡ take n xs ∷ text_lines (drop (suc (suc n)) xs)
by_both [] n lt all at cr = absurd (omega arith)
by_both (b ∷ []) n lt all at cr = absurd (omega arith)
by_both (b ∷ c ∷ cs) zero lt all at cr =
    let e : eqb b 10 ≡ false = ne_eqb b 10 (all 0 (omega arith)) in
    let f : eqb b 13 ≡ true = eq-eqb b 13 cr in
    let g : eqb c 10 ≡ true = eq-eqb c 10 at in
    rw (e, f, g)
by_both (b ∷ c ∷ cs) (suc n) lt all at cr =
    inner b c cs (all 0 (omega arith)) (all 1 (omega arith))
    ∙ ap (glued b) (by_both (c ∷ cs) n (omega arith) (λ k h. all (suc k) (omega arith)) at cr)

-- what follows the line, with no end and with one
none_after : (xs : List ℕ) → ((k : ℕ) → k < length xs → get_or xs k 0 ≡ 10 → ⊥) → after_line xs ≡ []
none_after [] all = refl
none_after (b ∷ bs) all = cond-false _ _ _ (ne_eqb b 10 (all 0 (omega arith))) ∙ none_after bs (λ k h. all (suc k) (omega arith))

some_after : (xs : List ℕ) (n : ℕ) → n < length xs → ((k : ℕ) → k < n → get_or xs k 0 ≡ 10 → ⊥) → get_or xs n 0 ≡ 10 → after_line xs ≡ drop (suc n) xs
some_after [] n lt all at = absurd (omega arith)
some_after (b ∷ bs) zero lt all at = cond-true _ _ _ (eq-eqb b 10 at)
some_after (b ∷ bs) (suc n) lt all at = cond-false _ _ _ (ne_eqb b 10 (all 0 (omega arith))) ∙ some_after bs n (omega arith) (λ k h. all (suc k) (omega arith)) at

held : (a b : ℕ) → Some a ≡ Some b → a ≡ b
held a b e = cc

-- a text without a line feed is one line
pub whole_line : (text : List ℕ) → 0 < length text → ((k : ℕ) → k < length text → get_or text k 0 ≡ 10 → ⊥) → (text_lines text ≡ text ∷ []) × ([] ≡ after_line text) × 0 < length text
whole_line text some all = (last_line text some all, sym (none_after text all), some)

-- the line before the first line feed, which may have a carriage return at its end
module _ (text : List ℕ) (end : ℕ) (at : FoundAt 10 text end) (line : List ℕ)
    (cut : slice_get (take end text) (length (take end text) - 1) ≡ Some 13 → line ≡ take (length (take end text) - 1) (take end text))
    (whole : (slice_get (take end text) (length (take end text) - 1) ≡ Some 13 → ⊥) → line ≡ take end text) where
  long : length (take end text) ≡ end
  long = length-take-le end text (omega (arith, at.inside))

  last : (m : ℕ) → suc m ≡ end → slice_get (take end text) (length (take end text) - 1) ≡ Some (get_or text m 0)
  last m e =
      let l = long in
      let i : length (take end text) - 1 ≡ m = omega arith in
      ap (slice_get (take end text)) i ∙ slice_get-get_or (take end text) m 0 (omega arith) ∙ ap Some (get_or-take end text m 0 (omega arith))

  ends : (m : ℕ) → suc m ≡ end → (b : Bool) → eqb (get_or text m 0) 13 ≡ b → text_lines text ≡ line ∷ text_lines (drop (suc end) text)
  ends m e true q =
      let l = long in
      let r : get_or text m 0 ≡ 13 = eqb-true (get_or text m 0) 13 q in
      let i : length (take end text) - 1 ≡ m = omega arith in
      let is : line ≡ take m text = cut (last m e ∙ ap Some r) ∙ ap (λ n. take n (take end text)) i ∙ take-take m end text (omega arith) in
      by_both text m (omega (arith, at.inside)) (λ k h. at.first k (omega arith)) (ap (λ n. get_or text n 0) e ∙ at.here) r
      ∙ ap (λ x. x ∷ text_lines (drop (suc (suc m)) text)) (sym is) ∙ ap (λ n. line ∷ text_lines (drop (suc n) text)) e
  ends m e false q =
      let other : get_or text m 0 ≡ 13 → ⊥ = λ r. false≢true (sym q ∙ eq-eqb (get_or text m 0) 13 r) in
      let same : (n : ℕ) → suc n ≡ end → n ≡ m = λ n f. omega arith in
      by_ten text end at.inside at.first at.here (λ n f r. other (sym (ap (λ x. get_or text x 0) (same n f)) ∙ r))
      ∙ ap (λ x. x ∷ text_lines (drop (suc end) text)) (sym (whole (λ s. other (held _ _ (sym (last m e) ∙ s)))))

  starts : end ≡ 0 → text_lines text ≡ line ∷ text_lines (drop (suc end) text)
  starts z =
      let l = long in
      by_ten text end at.inside at.first at.here (λ n f. absurd (omega arith))
      ∙ ap (λ x. x ∷ text_lines (drop (suc end) text)) (sym (whole (λ s. absurd (omega (arith, slice_get_within (take end text) _ 13 s)))))

  first : (m : ℕ) → m ≡ end → text_lines text ≡ line ∷ text_lines (drop (suc end) text)
  first zero z = starts (sym z)
  first (suc m) e = ends m e (eqb (get_or text m 0) 13) refl

  pub cut_line : (text_lines text ≡ line ∷ text_lines (drop (end + 1) text)) × (drop (end + 1) text ≡ after_line text) × (length (drop (end + 1) text) < length text)
  cut_line =
      let n : suc end ≡ end + 1 = omega arith in (
        first end refl ∙ ap (λ k. line ∷ text_lines (drop k text)) n,
        ap (λ k. drop k text) (sym n) ∙ sym (some_after text end at.inside at.first at.here),
        simp length-drop (omega (arith, at.inside)),
      )
