-- Steps of reading one after another: where they stop, what the words before begin, and that the next word ends it. Assumes nothing.
use Rattle.std.proofs.Common.{◌≡◌, ℕ, Bool, true, cond, ◌⊎◌, List, [], ◌∷◌, ◌++◌, map, Ok, Err, Result, sym, refl, ap, ◌∙◌, subst, inl, inr, ⊎_elim, append_assoc}
use Rattle.std.proofs.lemmas.Bool.{cond-true, cond-false}
use Rattle.std.proofs.lemmas.List.{map-append}
use Rattle.words.specs.declared.part.Stop.{Stop}
use Rattle.words.specs.Words.{Spanned, bytes_of}
use Rattle.words.specs.Cursor.{Rest, rest_by, passed, place_by, Step, onward}
use Rattle.ios.specs.Parsing.{next_by}
use Rattle.ios.proofs.Forms.{headed, Took, Began}
use Rattle.ios.proofs.Steps.{Sound, onward_ok, named_is, then_on, either, headed_in, next_looks, same_on}

-- something of the form R
pub record Good {A : Type 0} (R : List (List ℕ) → A → Type 0) : Type 0 where
  pub words : List (List ℕ)
  pub value : A
  pub text : R words value

-- words of the form R of some a, and after them words of the form S a
pub data Then {A B : Type 0} (R : List (List ℕ) → A → Type 0) (S : A → List (List ℕ) → B → Type 0) : List (List ℕ) → B → Type 0 where
  both : {a : A} {b : B} {us vs : List (List ℕ)} → R us a → S a vs b → Then R S (us ++ vs) b

-- no words, with the value b
pub data End {B : Type 0} (b : B) : List (List ℕ) → B → Type 0 where
  end : End b [] b

pub good_then : {A B : Type 0} {R : List (List ℕ) → A → Type 0} {S : A → List (List ℕ) → B → Type 0} → Good R → ((a : A) → Good (S a)) → Good (Then R S)
good_then g h = record { words = _; value = _; text = both g.text (h g.value).text }

-- a value is no stop
pub never : {A : Type 0} {X : Type 0} (a : A) (t : Stop) → ◌≡◌ {A = Result A Stop} (Ok a) (Err t) → X
never a t e = absurd cc

-- a stop is in the first step, or in what follows it
stopped : {A B : Type 0} (s : Step A) (f : A → Rest → Step B) (t : Stop) → onward s f ≡ Err t
    → (s ≡ Err t) ⊎ ((a : A) × (r : Rest) × (s ≡ Ok (a, r)) × (f a r ≡ Err t))
stopped (Err s) f t e = let k : s ≡ t = cc in inl (ap Err k)
stopped (Ok p) f t e = inr (p.0, p.1, refl, e)

-- where a step stops, the words before begin something of the form R, and with the next word nothing that it takes
abbrev pub Begins : {A D : Type 0} → (Rest → Step D) → (List (List ℕ) → A → Type 0) → Type 0
Begins step R = (z : ℕ) (ws : List Spanned) (t : Stop) → step (rest_by z ws) ≡ Err t → Began R step z ws t.column

-- a step that never stops
pub gives : {A D : Type 0} {R : List (List ℕ) → A → Type 0} (g : Rest → D × Rest) → Begins (λ r. Ok (g r)) R
gives g z ws t e = never _ t e

-- a step stops at the first word, whatever follows it, or where there is none
abbrev pub AtFirst : {D : Type 0} → (Rest → Step D) → Type 0
AtFirst {D} step = (z : ℕ) (ws : List Spanned) (t : Stop) → step (rest_by z ws) ≡ Err t
    → (t.column ≡ place_by z ws) × ((more : List Spanned) (p : D × Rest) → step (rest_by z (headed ws more)) ≡ Ok p → ⊥)

pub first_begins : {A D : Type 0} {R : List (List ℕ) → A → Type 0} {step : Rest → Step D} → Good R → AtFirst step → Begins step R
first_begins g first z ws t e =
    let p = first z ws t e in
    record { before = []; after = ws; split = refl; column = p.0; more = g.words; value = g.value; text = g.text; worst = p.1 }

-- what begins something of the form R begins something of a wider form
pub widened : {A B D : Type 0} {R : List (List ℕ) → A → Type 0} {Q : List (List ℕ) → B → Type 0} {step : Rest → Step D}
    → ((us : List (List ℕ)) (a : A) → R us a → (b : B) × Q us b) → Begins step R → Begins step Q
widened f begins z ws t e =
    let b = begins z ws t e in
    let p = f (map bytes_of b.before ++ b.more) b.value b.text in
    record {
      before = b.before;
      after = b.after;
      split = b.split;
      column = b.column;
      more = b.more;
      value = p.0;
      text = p.1;
      worst = b.worst;
    }

-- a step that is another one by the first word
began_as : {A D : Type 0} {R : List (List ℕ) → A → Type 0} (f g : Rest → Step D) (z : ℕ) (ws : List Spanned) (c : ℕ) → Began R f z ws c
    → ((more : List Spanned) → g (rest_by z (headed ws more)) ≡ f (rest_by z (headed ws more))) → Began R g z ws c
began_as f g z ws c b is = record {
  before = b.before;
  after = b.after;
  split = b.split;
  column = b.column;
  more = b.more;
  value = b.value;
  text = b.text;
  worst = λ others p e. let h = headed_in ws b.before b.after others b.split in
      b.worst others p (subst (λ l. f (rest_by z l) ≡ g (rest_by z l)) (sym h.1) (sym (is h.0)) ∙ e);
}

-- one step or another, by a test that looks at the first word alone
pub by_test : {A D : Type 0} {R : List (List ℕ) → A → Type 0} {f g : Rest → Step D} (P : List Spanned → Bool)
    → ((ws more : List Spanned) → P (headed ws more) ≡ P ws)
    → ((z : ℕ) (ws : List Spanned) (t : Stop) → P ws ≡ true → f (rest_by z ws) ≡ Err t → Began R f z ws t.column)
    → Begins g R → Begins (λ r. cond (P r.words) (f r) (g r)) R
by_test {f} {g} P looks on off z ws t e =
    let step : Rest → Step _ = λ r. cond (P r.words) (f r) (g r) in
    either (P ws) _ _ _ e
    (λ is x. began_as f step z ws _ (on z ws t is x) (λ more. cond-true (P (headed ws more)) _ _ (looks ws more ∙ is)))
    (λ is x. began_as g step z ws _ (off z ws t x) (λ more. cond-false (P (headed ws more)) _ _ (looks ws more ∙ is)))

-- where only a value is made of what a step read, the stop is in that step
pub made : {A B D : Type 0} {R : List (List ℕ) → A → Type 0} {step : Rest → Step D} (g : D → B)
    → Begins step R → Begins (λ r. onward (step r) (λ a more. Ok (g a, more))) R
made {step} g begins z ws t e =
    let b = begins z ws t (⊎_elim (λ h. h) (λ p. never _ t p.3) (stopped (step (rest_by z ws)) (λ a more. Ok (g a, more)) t e)) in
    record {
      before = b.before;
      after = b.after;
      split = b.split;
      column = b.column;
      more = b.more;
      value = b.value;
      text = b.text;
      worst = λ others p e. let q = onward_ok (step _) (λ a more. Ok (g a, more)) p e in b.worst others q.0 q.1;
    }

-- what stops in the first of two steps begins something longer
longer : {A B D E : Type 0} {R : List (List ℕ) → A → Type 0} {S : A → List (List ℕ) → B → Type 0} (step : Rest → Step D) (f : D → Rest → Step E)
    (z : ℕ) (ws : List Spanned) (c : ℕ) → Began R step z ws c → ((us : List (List ℕ)) (a : A) → R us a → Good (S a))
    → Began (Then R S) (λ r. onward (step r) f) z ws c
longer step f z ws c b g =
    let h = g (map bytes_of b.before ++ b.more) b.value b.text in
    record {
      before = b.before;
      after = b.after;
      split = b.split;
      column = b.column;
      more = b.more ++ h.words;
      value = h.value;
      text = rw (← append_assoc) (both b.text h.text);
      worst = λ others p e. let q = onward_ok (step _) f p e in b.worst others q.0 q.1;
    }

-- what a step took goes before the words of the next one
after : {A B D : Type 0} {R : List (List ℕ) → A → Type 0} {S : A → List (List ℕ) → B → Type 0} (step : Rest → Step A) (f : A → Rest → Step D)
    (z : ℕ) (ws : List Spanned) (a : A) (r : Rest) (c : ℕ) (k : Took R step z ws a r) → Began (S a) (f a) z k.left c
    → Began (Then R S) (λ r. onward (step r) f) z ws c
after step f z ws a r c k b = record {
  before = k.used ++ b.before;
  after = b.after;
  split = k.split ∙ ap (λ us. k.used ++ us) b.split ∙ sym (append_assoc k.used b.before b.after);
  column = b.column;
  more = b.more;
  value = b.value;
  text = rw (map-append, append_assoc) (both k.text b.text);
  worst = λ others p e. b.worst others p
      (sym (then_on f (same_on k b.before b.after others b.split))
      ∙ ap (λ l. onward (step (rest_by z l)) f) (sym (append_assoc k.used b.before (headed b.after others))) ∙ e);
}

-- two steps: the stop is in the first, and good words of the second complete it, or it is in the second
pub chain : {A B D : Type 0} {R : List (List ℕ) → A → Type 0} {S : A → List (List ℕ) → B → Type 0} {step : Rest → Step A} {f : A → Rest → Step D}
    → Begins step R → Sound step R
    → ((us : List (List ℕ)) (a : A) → R us a → Good (S a)) → ((us : List (List ℕ)) (a : A) → R us a → Begins (f a) (S a))
    → Begins (λ r. onward (step r) f) (Then R S)
chain {step} {f} begins sound good later z ws t e =
    ⊎_elim
    (λ h. longer step f z ws _ (begins z ws t h) good)
    (λ p. let k = sound z ws p.0 p.1 p.2 in
    after step f z ws p.0 p.1 _ k
    (later (map bytes_of k.used) p.0 k.text z k.left t (subst (λ r. f p.0 r ≡ Err t) k.rest p.3)))
    (stopped (step (rest_by z ws)) f t e)

-- a step after a keyword, or another without it
pub keyed : {A B D : Type 0} {R : List (List ℕ) → A → Type 0} {Q : List (List ℕ) → B → Type 0} {f g : Rest → Step D} (k : List ℕ)
    → Begins f R → ((us : List (List ℕ)) (a : A) → R us a → (b : B) × Q (k ∷ us) b) → Begins g Q
    → Begins (λ r. cond (next_by r.words k) (f (passed r)) (g r)) Q
keyed {Q} {f} k begins wide other = by_test (λ ws. next_by ws k) (next_looks k) found other where
  found : (z : ℕ) (ws : List Spanned) (t : Stop) → next_by ws k ≡ true → f (passed (rest_by z ws)) ≡ Err t → Began Q (λ r. f (passed r)) z ws t.column
  found z [] t is e = absurd cc
  found z (w ∷ ws) t is e =
      let b = begins z ws t e in
      let p = wide (map bytes_of b.before ++ b.more) b.value b.text in
      record {
        before = w ∷ b.before;
        after = b.after;
        split = ap (λ l. w ∷ l) b.split;
        column = b.column;
        more = b.more;
        value = p.0;
        text = subst (λ v. Q (v ∷ (map bytes_of b.before ++ b.more)) p.0) (sym (named_is w.bytes k is)) p.1;
        worst = b.worst;
      }
