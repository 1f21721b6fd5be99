-- The addresses that are read are just four decimals 0–255 joined by dots. Assumes nothing.
use Rattle.std.proofs.Common.{◌≡◌, ℕ, suc, ◌+◌, ◌*◌, ◌≤◌, Bool, true, false, cond, List, [], ◌∷◌, ◌++◌, Some, None, decimal, Option, sym, refl, ap, ◌∙◌, ⊎_elim, arith}
use Rattle.std.proofs.lemmas.Bool.{eq-eqb, ne_eqb, true≢false, cond-true, cond-false, cases_eq}
use Rattle.words.specs.Meaning.{AddressText}
use Rattle.words.specs.Numbers.{digit, digits, number_in, before_dot, after_dot, and_then, octets_in, address_in}
use Rattle.words.proofs.Decimal.{only, every, decimal_digits}

-- the first dot parts the bytes
parted : (bs more : List ℕ) → after_dot bs ≡ Some more → bs ≡ before_dot bs ++ (46 ∷ more)
parted [] more e = let z : ◌≡◌ {A = ℕ} 0 1 = cc in absurd (omega arith)
parted (b ∷ bs) more e =
    ⊎_elim (λ here.
    let on = eq-eqb b 46 here in
    let rest : Some bs ≡ Some more = sym (cond-true _ _ _ on) ∙ e in
    let same : bs ≡ more = cc in
    ap (λ x. x ∷ bs) here ∙ ap (λ xs. 46 ∷ xs) same ∙ ap (λ xs. xs ++ (46 ∷ more)) (sym (cond-true _ _ (b ∷ before_dot bs) on)))
    (λ ne.
    let off = ne_eqb b 46 ne in
    ap (λ xs. b ∷ xs) (parted bs more (sym (cond-false _ _ _ off) ∙ e)) ∙ ap (λ xs. xs ++ (46 ∷ more)) (sym (cond-false _ [] (b ∷ before_dot bs) off)))
    (cases_eq b 46)

-- a number with a dot after it is read, and r comes of what follows
record First (k v r : ℕ) (bs : List ℕ) : Type 0 where
  n : ℕ
  more : List ℕ
  small : n ≤ 255
  bytes : bs ≡ decimal n ++ (46 ∷ more)
  rest : octets_in k (v * 256 + n) more ≡ Some r

first : (k v r : ℕ) (bs : List ℕ) → octets_in (suc k) v bs ≡ Some r → First k v r bs
first k v r bs e = go (number_in 0 255 (before_dot bs)) (after_dot bs) refl refl e where
  go : (o : Option ℕ) (a : Option (List ℕ)) → number_in 0 255 (before_dot bs) ≡ o → after_dot bs ≡ a → and_then o (λ n. and_then a (λ more. octets_in k (v * 256 + n) more)) ≡ Some r → First k v r bs
  go None a p q e = let z : ◌≡◌ {A = ℕ} 0 1 = cc in absurd (omega arith)
  go (Some n) None p q e = let z : ◌≡◌ {A = ℕ} 0 1 = cc in absurd (omega arith)
  go (Some n) (Some more) p q e =
      let d = only 0 255 (before_dot bs) n (omega arith) p in
      record { n = n; more = more; small = d.2; bytes = parted bs more q ∙ ap (λ xs. xs ++ (46 ∷ more)) d.0; rest = e }

-- the last number is read
record Last (v r : ℕ) (bs : List ℕ) : Type 0 where
  n : ℕ
  small : n ≤ 255
  bytes : bs ≡ decimal n
  value : r ≡ v * 256 + n

last : (v r : ℕ) (bs : List ℕ) → octets_in 0 v bs ≡ Some r → Last v r bs
last v r bs e = go (number_in 0 255 bs) refl e where
  go : (o : Option ℕ) → number_in 0 255 bs ≡ o → and_then o (λ n. Some (v * 256 + n)) ≡ Some r → Last v r bs
  go None p e = let z : ◌≡◌ {A = ℕ} 0 1 = cc in absurd (omega arith)
  go (Some n) p e = let d = only 0 255 bs n (omega arith) p in record { n = n; small = d.2; bytes = d.0; value = cc }

four : (bs : List ℕ) (v : ℕ) (a : First 2 0 v bs) (b : First 1 (0 * 256 + a.n) v a.more) (c : First 0 ((0 * 256 + a.n) * 256 + b.n) v b.more)
    → Last (((0 * 256 + a.n) * 256 + b.n) * 256 + c.n) v c.more → AddressText bs v
four bs v a b c d = record {
  a = a.n;
  b = b.n;
  c = c.n;
  d = d.n;
  small = (a.small, b.small, c.small, d.small);
  bytes = a.bytes ∙ ap (λ xs. decimal a.n ++ (46 ∷ xs)) (b.bytes ∙ ap (λ xs. decimal b.n ++ (46 ∷ xs)) (c.bytes ∙ ap (λ xs. decimal c.n ++ (46 ∷ xs)) d.bytes));
  value = omega (arith, d.value);
}

pub address_only : (bs : List ℕ) (v : ℕ) → address_in bs ≡ Some v → AddressText bs v
address_only bs v e =
    let a = first 2 0 v bs e in
    let b = first 1 _ v a.more a.rest in
    let c = first 0 _ v b.more b.rest in
    four bs v a b c (last _ v c.more c.rest)

-- digits have no dot among them
both : (t x : Bool) → cond t x false ≡ true → (t ≡ true) × (x ≡ true)
both true x e = (refl, e)
both false x e = absurd (true≢false (sym e))

no_dot : (b : ℕ) → digit b ≡ true → b ≡ 46 → ⊥
no_dot b e h = true≢false (sym e ∙ ap digit h)

before : (ds more : List ℕ) → digits ds ≡ true → before_dot (ds ++ (46 ∷ more)) ≡ ds
before [] more e = refl
before (b ∷ ds) more e =
    let p = both (digit b) (digits ds) e in
    cond-false _ _ _ (ne_eqb b 46 (no_dot b p.0)) ∙ ap (λ xs. b ∷ xs) (before ds more p.1)

after : (ds more : List ℕ) → digits ds ≡ true → after_dot (ds ++ (46 ∷ more)) ≡ Some more
after [] more e = refl
after (b ∷ ds) more e =
    let p = both (digit b) (digits ds) e in
    cond-false _ _ _ (ne_eqb b 46 (no_dot b p.0)) ∙ after ds more p.1

onward : (k v n : ℕ) (more : List ℕ) → n ≤ 255 → octets_in (suc k) v (decimal n ++ (46 ∷ more)) ≡ octets_in k (v * 256 + n) more
onward k v n more small =
    let plain = decimal_digits n (omega arith) in
    let bs = decimal n ++ (46 ∷ more) in
    ap (λ xs. and_then (number_in 0 255 xs) (λ m. and_then (after_dot bs) (λ rest. octets_in k (v * 256 + m) rest))) (before (decimal n) more plain)
    ∙ ap (λ a. and_then (number_in 0 255 (decimal n)) (λ m. and_then a (λ rest. octets_in k (v * 256 + m) rest))) (after (decimal n) more plain)
    ∙ ap (λ o. and_then o (λ m. octets_in k (v * 256 + m) more)) (every 0 255 n (omega arith) (omega arith) small)

pub address_every : (bs : List ℕ) (v : ℕ) → AddressText bs v → address_in bs ≡ Some v
address_every bs v t =
    let is : ((((0 * 256 + t.a) * 256 + t.b) * 256 + t.c) * 256) + t.d ≡ v = omega (arith, t.value) in
    ap address_in t.bytes
    ∙ onward 2 0 t.a _ t.small.0
    ∙ onward 1 (0 * 256 + t.a) t.b _ t.small.1
    ∙ onward 0 ((0 * 256 + t.a) * 256 + t.b) t.c (decimal t.d) t.small.2
    ∙ ap (λ o. and_then o (λ m. Some ((((0 * 256 + t.a) * 256 + t.b) * 256 + t.c) * 256 + m))) (every 0 255 t.d (omega arith) (omega arith) t.small.3)
    ∙ ap Some is
