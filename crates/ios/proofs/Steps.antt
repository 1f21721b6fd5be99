-- How steps of reading follow one another, and what that says of the words that they take. Assumes nothing.
use Rattle.std.proofs.Common.{◌≡◌, ℕ, Bool, true, false, cond, List, [], ◌∷◌, ◌++◌, map, Some, None, Ok, Err, Option, sym, refl, ap, ◌∙◌, subst, append_assoc}
use Rattle.std.proofs.lemmas.Bool.{cond-true, cond-false}
use mathlib.Core.List.{map-append}
use Rattle.std.proofs.lemmas.Slice.Eq.{bytes_eq-Decides}
use Rattle.acl.specs.declared.refusal.Refusal.{Refusal}
use Rattle.words.specs.Keywords.{named}
use Rattle.words.specs.Words.{Spanned, bytes_of}
use Rattle.words.specs.Cursor.{Rest, rest_by, passed, place_by, Step, onward, expect_of, valued}
use Rattle.ios.specs.Entries.{EntryShape}
use Rattle.ios.specs.Parsing.{next_by, digit_by, closed_by, close_of}
use Rattle.ios.proofs.Forms.{One, headed, Took}

-- the value and the rest of a step that succeeded
pub ok_parts : {A : Type 0} (a b : A) (r s : Rest) → ◌≡◌ {A = Step A} (Ok (a, r)) (Ok (b, s)) → (a ≡ b) × (r ≡ s)
ok_parts {A} a b r s e =
    let p : ◌≡◌ {A = A × Rest} (a, r) (b, s) = cc in
    (ap (λ (x : A × Rest). x.0) p, ap (λ (x : A × Rest). x.1) p)

-- what follows a step that succeeded
pub onward_ok : {A B : Type 0} (s : Step A) (f : A → Rest → Step B) (q : B × Rest) → onward s f ≡ Ok q → (p : A × Rest) × (s ≡ Ok p) × (f p.0 p.1 ≡ Ok q)
onward_ok (Ok p) f q e = (p, refl, e)
onward_ok (Err s) f q e = absurd cc

pub valued_ok : {A : Type 0} (o : Option A) (why : Refusal) (c : ℕ) (r : Rest) (a : A) (s : Rest) → valued o why c r ≡ Ok (a, s) → (o ≡ Some a) × (s ≡ r)
valued_ok None why c r a s e = absurd cc
valued_ok (Some b) why c r a s e = let p = ok_parts b a r s e in (ap (λ x. Some x) p.0, sym p.1)

pub named_is : (w k : List ℕ) → named w k ≡ true → w ≡ k
named_is w k e = (bytes_eq-Decides w k).0 e

-- where a step goes on
pub then_on : {A B : Type 0} {s : Step A} {a : A} {r : Rest} (f : A → Rest → Step B) → s ≡ Ok (a, r) → onward s f ≡ f a r
then_on f e = ap (λ s. onward s f) e

-- a step takes words of the form R
abbrev pub Sound : {A : Type 0} → (Rest → Step A) → (List (List ℕ) → A → Type 0) → Type 0
Sound {A} step R = (z : ℕ) (ws : List Spanned) (a : A) (r : Rest) → step (rest_by z ws) ≡ Ok (a, r) → Took R step z ws a r

-- words are headed by their own first one, wherever others come in after it
pub headed_in : (ws us vs more : List Spanned) → ws ≡ us ++ vs → (others : List Spanned) × (us ++ headed vs more ≡ headed ws others)
headed_in ws [] vs more e = (more, ap (λ l. headed l more) (sym e))
headed_in ws (u ∷ us) vs more e = (us ++ headed vs more, ap (λ l. headed l (us ++ headed vs more)) (sym e))

-- what looks at the first word alone
pub next_looks : (k : List ℕ) (ws more : List Spanned) → next_by (headed ws more) k ≡ next_by ws k
next_looks k [] more = refl
next_looks k (w ∷ ws) more = refl

pub digit_looks : (ws more : List Spanned) → digit_by (headed ws more) ≡ digit_by ws
digit_looks [] more = refl
digit_looks (w ∷ ws) more = refl

pub closed_looks : (ws more : List Spanned) → closed_by (headed ws more) ≡ closed_by ws
closed_looks [] more = refl
closed_looks (w ∷ ws) more = refl

pub place_looks : (z : ℕ) (ws more : List Spanned) → place_by z (headed ws more) ≡ place_by z ws
place_looks z [] more = refl
place_looks z (w ∷ ws) more = refl

-- a step that took words takes them before any that the next one heads
pub same_on : {A : Type 0} {R : List (List ℕ) → A → Type 0} {step : Rest → Step A} {z : ℕ} {ws : List Spanned} {a : A} {r : Rest} (t : Took R step z ws a r)
    (us vs more : List Spanned) → t.left ≡ us ++ vs → step (rest_by z (t.used ++ (us ++ headed vs more))) ≡ Ok (a, rest_by z (us ++ headed vs more))
same_on {step} {z} {a} t us vs more e =
    let p = headed_in t.left us vs more e in
    subst (λ l. step (rest_by z (t.used ++ l)) ≡ Ok (a, rest_by z l)) (sym p.1) (t.same p.0)

-- a step that is another one by the first word
pub took_as : {A : Type 0} {R : List (List ℕ) → A → Type 0} (f g : Rest → Step A) (z : ℕ) (ws : List Spanned) (a : A) (r : Rest) → Took R f z ws a r
    → ((more : List Spanned) → g (rest_by z (headed ws more)) ≡ f (rest_by z (headed ws more))) → Took R g z ws a r
took_as f g z ws a r t is = record {
  used = t.used;
  left = t.left;
  split = t.split;
  rest = t.rest;
  text = t.text;
  same = λ more. let p = headed_in ws t.used t.left more t.split in
      subst (λ l. g (rest_by z l) ≡ f (rest_by z l)) (sym p.1) (is p.0) ∙ t.same more;
}

-- nothing is taken
pub done : {A : Type 0} {T : List (List ℕ) → A → Type 0} (a : A) → T [] a → Sound (λ r. Ok (a, r)) T
done {T} a t z ws b r e =
    let p = ok_parts a b (rest_by z ws) r e in
    record {
      used = [];
      left = ws;
      split = refl;
      rest = sym p.1;
      text = subst (T []) p.0 t;
      same = λ more. ap (λ x. Ok (x, rest_by z (headed ws more))) p.0;
    }

further : {A : Type 0} (ws us vs left more : List A) → ws ≡ us ++ left → left ≡ vs ++ more → ws ≡ (us ++ vs) ++ more
further ws us vs left more e d = rw (append_assoc us vs more, ← d) e

-- two steps one after the other take their words whatever follows the next one
same_both : {A B : Type 0} {R : List (List ℕ) → A → Type 0} {T : List (List ℕ) → B → Type 0} {z : ℕ} {ws : List Spanned} {a : A} {b : B} {r q : Rest}
    (step : Rest → Step A) (f : A → Rest → Step B) (t : Took R step z ws a r) (u : Took T (f a) z t.left b q) (more : List Spanned)
    → onward (step (rest_by z ((t.used ++ u.used) ++ headed u.left more))) f ≡ Ok (b, rest_by z (headed u.left more))
same_both {z} step f t u more =
    ap (λ l. onward (step (rest_by z l)) f) (append_assoc t.used u.used (headed u.left more))
    ∙ then_on f (same_on t u.used u.left more u.split) ∙ u.same more

-- one step, and then another
pub bind : {A B : Type 0} {R : List (List ℕ) → A → Type 0} {T : List (List ℕ) → B → Type 0} (step : Rest → Step A) (f : A → Rest → Step B)
    → Sound step R → ((a : A) (us : List (List ℕ)) → R us a → Sound (f a) (λ vs b. T (us ++ vs) b))
    → Sound (λ r. onward (step r) f) T
bind {T} step f sound then z ws b r e =
    let p = onward_ok (step (rest_by z ws)) f (b, r) e in
    let t = sound z ws p.0.0 p.0.1 p.1 in
    let u = then p.0.0 (map bytes_of t.used) t.text z t.left b r (subst (λ s. f p.0.0 s ≡ Ok (b, r)) t.rest p.2) in
    record {
      used = t.used ++ u.used;
      left = u.left;
      split = further ws t.used u.used t.left u.left t.split u.split;
      rest = u.rest;
      text = subst (λ l. T l b) (sym (map-append bytes_of t.used u.used)) u.text;
      same = same_both step f t u;
    }

-- a step that reads one word
pub worded : {A : Type 0} (R : List ℕ → A → Type 0) (g : List ℕ → Option A) (why : Refusal) → ((w : List ℕ) (a : A) → g w ≡ Some a → R w a)
    → Sound (λ r. onward (expect_of r) (λ w more. valued (g w.bytes) why w.column more)) (One R)
worded R g why sound z [] a r e = absurd cc
worded R g why sound z (w ∷ ws) a r e =
    let p = valued_ok (g w.bytes) why w.column (rest_by z ws) a r e in
    record {
      used = w ∷ [];
      left = ws;
      split = refl;
      rest = p.1;
      text = record { word = w.bytes; only = refl; text = sound w.bytes a p.0 };
      same = λ more. ap (λ o. valued o why w.column (rest_by z (headed ws more))) p.0;
    }

-- the words that it had, by what it left
pub one_split : {A : Type 0} {R : List ℕ → A → Type 0} {step : Rest → Step A} {z : ℕ} {ws : List Spanned} {a : A} {r : Rest} (t : Took (One R) step z ws a r)
    → map bytes_of ws ≡ t.text.word ∷ map bytes_of t.left
one_split t = ap (map bytes_of) t.split ∙ map-append bytes_of t.used t.left ∙ ap (λ l. l ++ map bytes_of t.left) t.text.only

-- what holds of every word of a form holds of a form of one word
pub of_one : {A : Type 0} {R : List ℕ → A → Type 0} {a : A} (P : List (List ℕ) → Type 0) (us : List (List ℕ)) → One R us a
    → ((w : List ℕ) → R w a → P (w ∷ [])) → P us
of_one P us o h = subst P (sym o.only) (h o.word o.text)

-- one step or another
pub either : {A P : Type 0} (b : Bool) (s t a : A) → cond b s t ≡ a → (b ≡ true → s ≡ a → P) → (b ≡ false → t ≡ a → P) → P
either true s t a e on off = on refl e
either false s t a e on off = off refl e

-- one step or another, by a test that looks at the first word alone
pub choose : {A : Type 0} {R : List (List ℕ) → A → Type 0} {f g : Rest → Step A} (P : List Spanned → Bool)
    → ((ws more : List Spanned) → P (headed ws more) ≡ P ws)
    → ((z : ℕ) (ws : List Spanned) (a : A) (r : Rest) → P ws ≡ true → f (rest_by z ws) ≡ Ok (a, r) → Took R f z ws a r)
    → Sound g R → Sound (λ r. cond (P r.words) (f r) (g r)) R
choose {f} {g} P looks on off z ws a r e =
    let step : Rest → Step _ = λ r. cond (P r.words) (f r) (g r) in
    either (P ws) _ _ _ e
    (λ is x. took_as f step z ws a r (on z ws a r is x) (λ more. cond-true (P (headed ws more)) _ _ (looks ws more ∙ is)))
    (λ is x. took_as g step z ws a r (off z ws a r x) (λ more. cond-false (P (headed ws more)) _ _ (looks ws more ∙ is)))

-- a step after a keyword, or another without it
pub keyed : {A : Type 0} {T : List (List ℕ) → A → Type 0} {f g : Rest → Step A} (k : List ℕ)
    → Sound f (λ us a. T (k ∷ us) a) → Sound g T → Sound (λ r. cond (next_by r.words k) (f (passed r)) (g r)) T
keyed {A} {T} {f} k hf hg = choose (λ ws. next_by ws k) (next_looks k) found hg where
  found : (z : ℕ) (ws : List Spanned) (a : A) (r : Rest) → next_by ws k ≡ true → f (passed (rest_by z ws)) ≡ Ok (a, r) → Took T (λ r. f (passed r)) z ws a r
  found z [] a r is e = absurd cc
  found z (w ∷ ws) a r is e =
      let u = hf z ws a r e in
      record {
        used = w ∷ u.used;
        left = u.left;
        split = ap (λ l. w ∷ l) u.split;
        rest = u.rest;
        text = subst (λ b. T (b ∷ map bytes_of u.used) a) (sym (named_is w.bytes k is)) u.text;
        same = u.same;
      }

-- a step that takes every word, of the form P
abbrev pub Whole : {A : Type 0} → (Rest → Step A) → (List (List ℕ) → A → Type 0) → Type 0
Whole {A} step P = (z : ℕ) (ws : List Spanned) (a : A) (r : Rest) → step (rest_by z ws) ≡ Ok (a, r) → P (map bytes_of ws) a

-- one step, and then one that takes the other words
pub bind_whole : {A B : Type 0} {R : List (List ℕ) → A → Type 0} (P : List (List ℕ) → B → Type 0) (step : Rest → Step A) (f : A → Rest → Step B)
    → Sound step R → ((a : A) (us : List (List ℕ)) → R us a → Whole (f a) (λ vs b. P (us ++ vs) b)) → Whole (λ r. onward (step r) f) P
bind_whole P step f sound then z ws b r e =
    let p = onward_ok (step (rest_by z ws)) f (b, r) e in
    let t = sound z ws p.0.0 p.0.1 p.1 in
    let u = then p.0.0 (map bytes_of t.used) t.text z t.left b r (subst (λ s. f p.0.0 s ≡ Ok (b, r)) t.rest p.2) in
    subst (λ l. P l b) (sym (ap (map bytes_of) t.split ∙ map-append bytes_of t.used t.left)) u

pub close_whole : (P : List (List ℕ) → EntryShape → Type 0) (e : EntryShape) → P [] e → Whole (close_of e) P
close_whole P e h z [] d r is = subst (P []) (ok_parts e d (rest_by z []) r is).0 h
close_whole P e h z (w ∷ ws) d r is = absurd cc
