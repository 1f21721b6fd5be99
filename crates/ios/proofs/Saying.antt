-- What a text line says is what the grammar says of its words, both ways. Assumes nothing.
use Rattle.std.proofs.Common.{◌≡◌, ℕ, ◌≤◌, true, false, cond, eqb, ◌⊎◌, List, [], ◌∷◌, ◌++◌, map, Some, None, Ok, Err, codes, decimal, Option, Result, sym, refl, ap, ◌∙◌, subst, inl, inr, ⊎_elim, arith, eq-eqb}
use Rattle.std.proofs.lemmas.Bool.{cond-true, cond-false}
use Rattle.std.proofs.lemmas.Bool.Decides.{Decides-eqb, nat_tests}
use Rattle.acl.specs.declared.refusal.Refusal.TheVariants.{BadNumber}
use Rattle.acl.specs.declared.terms.Action.{Action}
use Rattle.words.specs.declared.part.Stop.{Stop}
use Rattle.words.specs.Keywords.{named, comment}
use Rattle.words.specs.Words.{Spanned, spanned, bytes_of}
use Rattle.words.specs.Cursor.{Rest, rest_by, Step, onward, valued}
use Rattle.ios.specs.declared.family.Family.{Family}
use Rattle.ios.specs.declared.family.ListNumber.{ListNumber}
use Rattle.ios.specs.Entries.{EntryShape}
use Rattle.ios.specs.Parsing.{next_by, family_of, list_number, agreed, list_number_of, entry_of, Said, said, line_said, body_says, says}
use Rattle.ios.specs.Grammar.{ActionText, EntryText, LineText, RemarkText, PassedText, Follows}
use Rattle.ios.specs.Grammar.ActionText.{permit, deny}
use Rattle.ios.specs.Grammar.EntryText.{standard, extended}
use Rattle.ios.specs.Grammar.LineText.{numbered_line}
use Rattle.ios.specs.Grammar.RemarkText.{numbered_remark}
use Rattle.ios.specs.Grammar.PassedText.{blank_line, comment_line}
use Rattle.ios.proofs.Steps.{named_is, one_split, either, then_on}
use Rattle.ios.proofs.Sound.{ListNumberText, list_number_sound, entry_sound}
use Rattle.ios.proofs.Complete.{cons_case, nil_case, number_takes, entry_takes}

-- words that say an entry
pub record SaidLine (known : Option ℕ) (ws : List (List ℕ)) (after : Option ℕ) (e : EntryShape) : Type 0 where
  pub number : ℕ
  pub is : after ≡ Some number
  pub text : LineText number ws e
  pub follows : Follows known number

-- words that say nothing, as a remark
pub record SaidRemark (known : Option ℕ) (ws : List (List ℕ)) (after : Option ℕ) : Type 0 where
  pub number : ℕ
  pub is : after ≡ Some number
  pub text : RemarkText number ws
  pub follows : Follows known number

said_parts : (s t : Said) → ◌≡◌ {A = Result Said Stop} (Ok s) (Ok t) → (s.known ≡ t.known) × (s.entry ≡ t.entry)
said_parts s t e = let p : s ≡ t = cc in (ap (λ (x : Said). x.known) p, ap (λ (x : Said). x.entry) p)

-- a text line that opens with `access-list` and a list number, and what its other words say
record Body (known : Option ℕ) (z : ℕ) (ws : List Spanned) (s : Said) : Type 0 where
  first : List ℕ
  word : List ℕ
  left : List Spanned
  list : ListNumber
  split : map bytes_of ws ≡ first ∷ (word ∷ map bytes_of left)
  opens : first ≡ codes "access-list"
  text : ListNumberText known word list
  on : cond (next_by left (codes "remark")) (Ok (said (Some list.number) None)) (line_said list.number (entry_of list.family (rest_by z left))) ≡ Ok s

body_ok : (s : Step ListNumber) (t : Said) → body_says s ≡ Ok t → (p : ListNumber × Rest) × (s ≡ Ok p) × (body_says (Ok p) ≡ Ok t)
body_ok (Ok p) t e = (p, refl, e)
body_ok (Err s) t e = absurd cc

body : (known : Option ℕ) (z : ℕ) (w : Spanned) (ws : List Spanned) (s : Said) → named w.bytes (codes "access-list") ≡ true
    → body_says (list_number_of known (rest_by z ws)) ≡ Ok s → Body known z (w ∷ ws) s
body known z w ws s is e =
    let p = body_ok (list_number_of known (rest_by z ws)) s e in
    let t = list_number_sound known z ws p.0.0 p.0.1 p.1 in
    record {
      first = w.bytes;
      word = t.text.word;
      left = t.left;
      list = p.0.0;
      split = ap (λ l. w.bytes ∷ l) (one_split t);
      opens = named_is w.bytes (codes "access-list") is;
      text = t.text.text;
      on = subst (λ r. body_says (Ok (p.0.0, r)) ≡ Ok s) t.rest p.2;
    }

pub comment_text : (w : List ℕ) (ws : List (List ℕ)) → comment w ≡ true → PassedText (w ∷ ws)
comment_text [] ws e = absurd cc
comment_text (b ∷ bs) ws e = subst (λ c. PassedText ((c ∷ bs) ∷ ws)) (sym ((Decides-eqb b 33).0 e)) comment_line

-- words that say something pass, or open a line of the list
cases : (known : Option ℕ) (z : ℕ) (ws : List Spanned) (s : Said) → says known (rest_by z ws) ≡ Ok s
    → (PassedText (map bytes_of ws) × (known ≡ s.known) × (None ≡ s.entry)) ⊎ Body known z ws s
cases known z [] s e = let p = said_parts (said known None) s e in inl (blank_line, p.0, p.1)
cases known z (w ∷ ws) s e =
    either (comment w.bytes) _ _ _ e
    (λ is e. let p = said_parts (said known None) s e in inl (comment_text w.bytes (map bytes_of ws) is, p.0, p.1))
    (λ _ e. either (named w.bytes (codes "access-list")) _ _ _ e
    (λ is e. inr (body known z w ws s is e))
    (λ _ e. absurd cc))

line_ok : (n : ℕ) (s : Step EntryShape) (t : Said) → line_said n s ≡ Ok t → (p : EntryShape × Rest) × (s ≡ Ok p) × (t.known ≡ Some n) × (t.entry ≡ Some p.0)
line_ok n (Ok p) t e = let q = said_parts (said (Some n) (Some p.0)) t e in (p, refl, sym q.0, sym q.1)
line_ok n (Err s) t e = absurd cc

pub says_line : (known after : Option ℕ) (e : EntryShape) (z : ℕ) (ws : List Spanned) → says known (rest_by z ws) ≡ Ok (said after (Some e))
    → SaidLine known (map bytes_of ws) after e
says_line known after e z ws is = ⊎_elim
    (λ p. absurd (cc p.2))
    line (cases known z ws (said after (Some e)) is) where
      line : Body known z ws (said after (Some e)) → SaidLine known (map bytes_of ws) after e
      line b = either (next_by b.left (codes "remark")) _ _ _ b.on
          (λ _ on. let none : None ≡ Some e = (said_parts _ _ on).1 in absurd cc)
          (λ _ on. let q = line_ok b.list.number (entry_of b.list.family (rest_by z b.left)) (said after (Some e)) on in
          let same : q.0.0 ≡ e = let x : Some e ≡ Some q.0.0 = q.3 in cc in
          let entry : EntryText b.list.family (map bytes_of b.left) e =
          subst (EntryText b.list.family (map bytes_of b.left)) same (entry_sound b.list.family z b.left q.0.0 q.0.1 q.1) in
          record {
            number = b.list.number;
            is = q.2;
            text = subst (λ l. LineText b.list.number l e) (sym b.split) (numbered_line b.opens b.text.number.bytes b.text.family entry);
            follows = b.text.follows;
          })

-- the next word is k
next_word : (k : List ℕ) (ws : List Spanned) → next_by ws k ≡ true → (w : List ℕ) × (vs : List (List ℕ)) × (w ≡ k) × (map bytes_of ws ≡ w ∷ vs)
next_word k [] e = absurd cc
next_word k (w ∷ ws) e = (w.bytes, map bytes_of ws, named_is w.bytes k e, refl)

pub says_nothing : (known after : Option ℕ) (z : ℕ) (ws : List Spanned) → says known (rest_by z ws) ≡ Ok (said after None)
    → (PassedText (map bytes_of ws) × (after ≡ known)) ⊎ SaidRemark known (map bytes_of ws) after
says_nothing known after z ws is = ⊎_elim (λ p. inl (p.0, sym p.1)) (λ b. inr (remark b)) (cases known z ws (said after None) is) where
  remark : Body known z ws (said after None) → SaidRemark known (map bytes_of ws) after
  remark b = either (next_by b.left (codes "remark")) _ _ _ b.on
      (λ next on. let q = next_word (codes "remark") b.left next in
      let whole : map bytes_of ws ≡ b.first ∷ (b.word ∷ (q.0 ∷ q.1)) = b.split ∙ ap (λ l. b.first ∷ (b.word ∷ l)) q.3 in
      record {
        number = b.list.number;
        is = sym (said_parts (said (Some b.list.number) None) (said after None) on).0;
        text = subst (RemarkText b.list.number) (sym whole) (numbered_remark b.opens b.text.number.bytes b.text.family q.2);
        follows = b.text.follows;
      })
      (λ _ on. let q = line_ok b.list.number (entry_of b.list.family (rest_by z b.left)) (said after None) on in
      let none : None ≡ Some q.0.0 = q.3 in
      absurd cc)

passed_by : {vs : List (List ℕ)} (known : Option ℕ) (z : ℕ) → PassedText vs → (us : List Spanned) → map bytes_of us ≡ vs
    → says known (rest_by z us) ≡ Ok (said known None)
passed_by known z blank_line = nil_case (λ us. says known (rest_by z us) ≡ Ok (said known None)) refl
passed_by known z (comment_line {bs} {ws}) = cons_case (λ us. says known (rest_by z us) ≡ Ok (said known None)) (33 ∷ bs) ws (λ c us _. refl)

pub passed_says : (known : Option ℕ) (z : ℕ) (ws : List Spanned) → PassedText (map bytes_of ws) → says known (rest_by z ws) ≡ Ok (said known None)
passed_says known z ws t = passed_by known z t ws refl

follows_agreed : (known : Option ℕ) (n c : ℕ) (f : Family) (r : Rest) → Follows known n → agreed known c (list_number n f) r ≡ Ok (list_number n f, r)
follows_agreed None n c f r h = refl
follows_agreed (Some k) n c f r h = cond-true (eqb k n) _ _ (eq-eqb k n h)

-- lists have the numbers 1–2699
pub family_range : (n : ℕ) (f : Family) → family_of n ≡ Some f → (1 ≤ n) × (n ≤ 2699)
family_range n f e = (grind (arith, nat_tests), grind (arith, nat_tests))

pub list_number_takes : (known : Option ℕ) (n : ℕ) (f : Family) (w : List ℕ) (z c : ℕ) (us : List Spanned)
    → w ≡ decimal n → family_of n ≡ Some f → Follows known n
    → list_number_of known (rest_by z (spanned c w ∷ us)) ≡ Ok (list_number n f, rest_by z us)
list_number_takes known n f w z c us is family follows =
    let p = family_range n f family in
    then_on (λ n more. onward (valued (family_of n) BadNumber c more) (λ f more. agreed known c (list_number n f) more))
    (number_takes 1 2699 n z c w us (omega arith) is p.0 p.1)
    ∙ ap (λ o. onward (valued o BadNumber c (rest_by z us)) (λ f more. agreed known c (list_number n f) more)) family
    ∙ follows_agreed known n c f (rest_by z us) follows

-- a text line that opens a line of the list goes on with its other words
opened : (known : Option ℕ) (n : ℕ) (f : Family) (k w : List ℕ) (z c d : ℕ) (us : List Spanned) → k ≡ codes "access-list" → w ≡ decimal n
    → family_of n ≡ Some f → Follows known n
    → says known (rest_by z (spanned c k ∷ (spanned d w ∷ us))) ≡ body_says (Ok (list_number n f, rest_by z us))
opened known n f k w z c d us key is family follows =
    ap (λ b. says known (rest_by z (spanned c b ∷ (spanned d w ∷ us)))) key ∙ ap body_says (list_number_takes known n f w z d us is family follows)

remark_by : {n : ℕ} {vs : List (List ℕ)} (known : Option ℕ) (z : ℕ) → RemarkText n vs → Follows known n
    → (us : List Spanned) → map bytes_of us ≡ vs → says known (rest_by z us) ≡ Ok (said (Some n) None)
remark_by {n} known z (numbered_remark {f} {k} {w} {r} {ws} key is family remark) follows =
    let P : List Spanned → Type 0 = λ us. says known (rest_by z us) ≡ Ok (said (Some n) None) in
    cons_case P k (w ∷ (r ∷ ws)) (λ c. cons_case (λ us. P (spanned c k ∷ us)) w (r ∷ ws) (λ d.
    cons_case (λ us. P (spanned c k ∷ (spanned d w ∷ us))) r ws (λ b us _.
    opened known n f k w z c d (spanned b r ∷ us) key is family follows
    ∙ ap (λ x. body_says (Ok (list_number n f, rest_by z (spanned b x ∷ us)))) remark)))

pub remark_says : (known : Option ℕ) (n z : ℕ) (ws : List Spanned) → RemarkText n (map bytes_of ws) → Follows known n
    → says known (rest_by z ws) ≡ Ok (said (Some n) None)
remark_says known n z ws t follows = remark_by known z t follows ws refl

action_no_remark : {w : List ℕ} {a : Action} → ActionText w a → named w (codes "remark") ≡ false
action_no_remark (permit e) = ap (λ b. named b (codes "remark")) e
action_no_remark (deny e) = ap (λ b. named b (codes "remark")) e

entry_no_remark : {f : Family} {vs : List (List ℕ)} {e : EntryShape} → EntryText f vs e → (us : List Spanned) → map bytes_of us ≡ vs
    → next_by us (codes "remark") ≡ false
entry_no_remark (standard {w} {ss} {gs} t s l) = cons_case (λ us. next_by us (codes "remark") ≡ false) w (ss ++ gs) (λ c us _. action_no_remark t)
entry_no_remark (extended {w} {v} {ss} {ts} {ds} {us} {gs} t _ _ _ _ _ _ _ _) =
    cons_case (λ us. next_by us (codes "remark") ≡ false) w (v ∷ (ss ++ (ts ++ (ds ++ (us ++ gs))))) (λ c us _. action_no_remark t)

line_by : {n : ℕ} {vs : List (List ℕ)} {e : EntryShape} (known : Option ℕ) (z : ℕ) → LineText n vs e → Follows known n
    → (us : List Spanned) → map bytes_of us ≡ vs → says known (rest_by z us) ≡ Ok (said (Some n) (Some e))
line_by {n} {vs} {e} known z (numbered_line {f} {k} {w} {ws} key is family entry) follows =
    let P : List Spanned → Type 0 = λ us. says known (rest_by z us) ≡ Ok (said (Some n) (Some e)) in
    cons_case P k (w ∷ ws) (λ c. cons_case (λ us. P (spanned c k ∷ us)) w ws (λ d us rest.
    opened known n f k w z c d us key is family follows
    ∙ cond-false (next_by us (codes "remark")) _ _ (entry_no_remark entry us rest)
    ∙ ap (line_said n) (entry_takes entry z us rest)))

pub line_says_lem : (known : Option ℕ) (n : ℕ) (e : EntryShape) (z : ℕ) (ws : List Spanned) → LineText n (map bytes_of ws) e → Follows known n
    → says known (rest_by z ws) ≡ Ok (said (Some n) (Some e))
line_says_lem known n e z ws t follows = line_by known z t follows ws refl
