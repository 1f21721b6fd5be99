-- What a header's steps of reading take, and where they stop, by the form of a header's words. Assumes nothing.
use Rattle.std.proofs.Common.{◌≡◌, ℕ, ◌^◌, ◌<◌, ◌≤◌, List, [], ◌∷◌, map, Ok, decimal, sym, refl, ◌∙◌, subst, arith}
use Rattle.acl.specs.declared.header.Header.{Header}
use Rattle.acl.specs.declared.refusal.Refusal.TheVariants.{BadWord, BadNumber}
use Rattle.words.specs.Numbers.{number_in}
use Rattle.words.specs.Words.{Spanned, bytes_of}
use Rattle.words.specs.Meaning.{AddressText}
use Rattle.words.specs.Cursor.{Rest, rest_by, Step, onward, address_of, number_of}
use Rattle.ios.proofs.Forms.{One, NumberText}
use Rattle.ios.proofs.Steps.{ok_parts, then_on, Sound, Whole, bind_whole}
use Rattle.ios.proofs.Sound.{number_sound, address_sound}
use Rattle.ios.proofs.Complete.{nil_case, append_case, Takes, one_word, number_takes, address_takes}
use Rattle.ios.proofs.Chains.{Good, Then, both, End, end, good_then, never, Begins, AtFirst, first_begins, chain}
use Rattle.ios.proofs.Began.{one, stop_column, word_first, least, good_address, address_begins, good_end}
use Rattle.deciding.specs.HeaderLines.{header_by, closed, header_of}
use Rattle.deciding.specs.Stands.{HeaderText}

-- a step that takes just the words of the form R, whatever follows them
record Part {A : Type 0} (step : Rest → Step A) (R : List (List ℕ) → A → Type 0) : Type 0 where
  sound : Sound step R
  begins : Begins step R
  good : Good R
  takes : (vs : List (List ℕ)) (a : A) (more : List Spanned) → R vs a → Takes step vs a more

-- a step that takes all words, which have the form R
pub record Every {A : Type 0} (step : Rest → Step A) (R : List (List ℕ) → A → Type 0) : Type 0 where
  pub whole : Whole step R
  pub begins : Begins step R
  pub good : Good R
  pub takes : (vs : List (List ℕ)) (a : A) → R vs a → (z : ℕ) (us : List Spanned) → map bytes_of us ≡ vs → step (rest_by z us) ≡ Ok (a, rest_by z [])

address : Part address_of (One AddressText)
address = record {
  sound = address_sound;
  begins = address_begins;
  good = good_address;
  takes = λ vs a more o z us e. one_word address_of o.word a more (λ z c. address_takes o.word a z c more o.text) z us (e ∙ o.only);
}

number : (high : ℕ) → high < 2 ^ 64 → Part (number_of 0 high) (One (NumberText 0 high))
number high small = record {
  sound = number_sound 0 high small;
  begins = first_begins zero (word_first (number_in 0 high) BadNumber);
  good = zero;
  takes = λ vs n more o z us e. one_word (number_of 0 high) o.word n more
      (λ z c. number_takes 0 high n z c o.word more small o.text.bytes o.text.least o.text.most) z us (e ∙ o.only);
} where
  zero : Good (One (NumberText 0 high))
  zero = one _ 0 (least 0 high (omega arith))

-- one step, and then one that takes the other words
joined : {A B : Type 0} {R : List (List ℕ) → A → Type 0} {S : A → List (List ℕ) → B → Type 0} (step : Rest → Step A) (f : A → Rest → Step B)
    → Part step R → ((a : A) → Every (f a) (S a)) → Every (λ r. onward (step r) f) (Then R S)
joined {A} {B} {R} {S} step f p q = record {
  whole = bind_whole (Then R S) step f p.sound (λ a us o z ws b r e. both o ((q a).whole z ws b r e));
  begins = chain p.begins p.sound (λ _ a _. (q a).good) (λ _ a _. (q a).begins);
  good = good_then p.good (λ a. (q a).good);
  takes = takes;
} where
  takes : (vs : List (List ℕ)) (b : B) → Then R S vs b → (z : ℕ) (us : List Spanned) → map bytes_of us ≡ vs
      → onward (step (rest_by z us)) f ≡ Ok (b, rest_by z [])
  takes vs b (both {a} {us = xs} {vs = ys} x y) z =
      append_case (λ us. onward (step (rest_by z us)) f ≡ Ok (b, rest_by z [])) xs ys
      (λ us e more d. then_on f (p.takes xs a more x z us e) ∙ (q a).takes ys b y z more d)

-- the end of a header
ending : (h : Header) → Every (λ r. closed h r r.words) (End h)
ending h = record { whole = whole; begins = first_begins (good_end h) first; good = good_end h; takes = takes } where
  whole : Whole (λ r. closed h r r.words) (End h)
  whole z [] d r e = subst (End h []) (ok_parts h d (rest_by z []) r e).0 end
  whole z (w ∷ ws) d r e = cc

  first : AtFirst (λ r. closed h r r.words)
  first z [] t e = never _ t e
  first z (w ∷ ws) t e = (stop_column BadWord w.column t e, λ more p x. never p _ (sym x))

  takes : (vs : List (List ℕ)) (d : Header) → End h vs d → (z : ℕ) (us : List Spanned) → map bytes_of us ≡ vs
      → closed h (rest_by z us) us ≡ Ok (d, rest_by z [])
  takes vs d end z = nil_case (λ us. closed h (rest_by z us) us ≡ Ok (h, rest_by z [])) refl

-- a header's words, part by part
abbrev pub HeaderForm : List (List ℕ) → Header → Type 0
HeaderForm =
    Then (One AddressText) (λ s. Then (One AddressText) (λ d. Then (One (NumberText 0 255)) (λ p.
    Then (One (NumberText 0 65535)) (λ sp. Then (One (NumberText 0 65535)) (λ dp. End (header_by s d p sp dp))))))

pub header : Every header_of HeaderForm
header =
    joined address_of _ address (λ s. joined address_of _ address (λ d. joined (number_of 0 255) _ (number 255 (omega arith)) (λ p.
    joined (number_of 0 65535) _ (number 65535 (omega arith)) (λ sp. joined (number_of 0 65535) _ (number 65535 (omega arith)) (λ dp.
    ending (header_by s d p sp dp))))))

-- it is the form that a header has
pub form_text : (ws : List (List ℕ)) (h : Header) → HeaderForm ws h → HeaderText ws h
form_text ws h (both s (both d (both p (both sp (both dp end))))) = record {
  source = s.word;
  destination = d.word;
  from = s.text;
  to = d.text;
  protocol = p.text.most;
  from_port = sp.text.most;
  to_port = dp.text.most;
  words = rw (s.only, d.only, p.only, sp.only, dp.only, p.text.bytes, sp.text.bytes, dp.text.bytes);
}

pub text_form : (ws : List (List ℕ)) (h : Header) → HeaderText ws h → HeaderForm ws h
text_form ws h t = subst (λ l. HeaderForm l h) (sym t.words)
    (both (word t.from) (both (word t.to) (both (numeral 255 h.protocol t.protocol)
    (both (numeral 65535 h.source_port t.from_port) (both (numeral 65535 h.destination_port t.to_port) end))))) where
      word : {A : Type 0} {R : List ℕ → A → Type 0} {w : List ℕ} {a : A} → R w a → One R (w ∷ []) a
      word {w} r = record { word = w; only = refl; text = r }

      numeral : (high n : ℕ) → n ≤ high → One (NumberText 0 high) (decimal n ∷ []) n
      numeral high n le = word {R = NumberText 0 high} (record { bytes = refl; least = omega arith; most = le })
