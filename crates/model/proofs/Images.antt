-- Lists of images, and families counted by their images. Assumes nothing.
use mathlib.Core.Path.{◌≡◌, refl, sym, ap, ◌∙◌, subst}
use mathlib.Core.Logic.{inl, inr}
use mathlib.Core.List.{List, [], ◌∷◌, map}
use Prim.Native.Nat.{ℕ}
use lib.ListN.{length, length-map}
use Rattle.model.specs.Sets.{◌∈◌, Distinct, CountIs}

module _ {A B : Type 0} (f : A → B) where
  -- the image of a thing in the list stands in the list of images
  pub in_map : (x : A) (xs : List A) → x ∈ xs → f x ∈ map f xs
  in_map x [] h = h
  in_map x (y ∷ ys) (inl e) = inl (ap f e)
  in_map x (y ∷ ys) (inr h) = inr (in_map x ys h)

  -- what stands in the list of images is the image of a thing in the list
  pub map_in : (z : B) (xs : List A) → z ∈ map f xs → (x : A) × (x ∈ xs) × (z ≡ f x)
  map_in z [] h = absurd h
  map_in z (y ∷ ys) (inl e) = (y, inl refl, e)
  map_in z (y ∷ ys) (inr h) = let (x, m, e) = map_in z ys h in (x, inr m, e)

  -- different things with different images: no image stands twice
  pub distinct_map : (xs : List A) → ((x y : A) → x ∈ xs → y ∈ xs → f x ≡ f y → x ≡ y) → Distinct xs → Distinct (map f xs)
  distinct_map [] inj d = tt
  distinct_map (x ∷ xs) inj d = (
    λ h. let (y, m, e) = map_in (f x) xs h in d.0 (subst (λ z. z ∈ xs) (sym (inj x y (inl refl) (inr m) e)) m),
    distinct_map xs (λ a b ha hb e. inj a b (inr ha) (inr hb) e) d.1,
  )

  -- where no image stands twice, no thing does
  pub distinct_unmap : (xs : List A) → Distinct (map f xs) → Distinct xs
  distinct_unmap [] d = tt
  distinct_unmap (x ∷ xs) d = (λ h. d.0 (in_map x xs h), distinct_unmap xs d.1)

  -- things of the family S with these images
  pub record Sources (S : A → Type 0) (ys : List B) : Type 0 where
    pub things : List A
    pub all : (x : A) → x ∈ things → S x
    pub images : map f things ≡ ys

  -- a list of images of the family has its sources
  pub sources : (S : A → Type 0) (ys : List B) → ((y : B) → y ∈ ys → (x : A) × S x × (y ≡ f x)) → Sources S ys
  sources S [] from = record { things = []; all = λ x h. absurd h; images = refl }
  sources S (y ∷ ys) from = join (from y (inl refl)) (sources S ys (λ z h. from z (inr h)))
    where
      join : ((x : A) × S x × (y ≡ f x)) → Sources S ys → Sources S (y ∷ ys)
      join (x, s, e) rest = record {
        things = x ∷ rest.things;
        all = all;
        images = λ i. sym e i ∷ rest.images i;
      }
        where
          all : (z : A) → z ∈ (x ∷ rest.things) → S z
          all z (inl d) = subst S (sym d) s
          all z (inr h) = rest.all z h

  module _ (S : A → Type 0) (R : B → Type 0) (there : (x : A) → S x → R (f x)) (back : (y : B) → R y → (x : A) × S x × (y ≡ f x))
      (once : (x y : A) → S x → S y → f x ≡ f y → x ≡ y) where
    -- a family that goes one to one onto another: a count of it is a count of the other
    pub count_images : (c : ℕ) → CountIs S c → CountIs R c
    count_images c k = record {
      members = map f k.members;
      distinct = distinct_map k.members (λ x y hx hy e. once x y ((k.exact x).1 hx) ((k.exact y).1 hy) e) k.distinct;
      exact = λ y. (in_images y, images_only y);
      number = length-map k.members f ∙ k.number;
    }
      where
        in_images : (y : B) → R y → y ∈ map f k.members
        in_images y h =
            let (x, s, e) = back y h in
            subst (λ z. z ∈ map f k.members) (sym e) (in_map x k.members ((k.exact x).0 s))

        images_only : (y : B) → y ∈ map f k.members → R y
        images_only y h = let (x, m, e) = map_in y k.members h in subst R (sym e) (there x ((k.exact x).1 m))

    -- and a count of the other is a count of it
    pub count_sources : (c : ℕ) → CountIs R c → CountIs S c
    count_sources c k = record {
      members = from.things;
      distinct = distinct_unmap from.things (subst Distinct (sym from.images) k.distinct);
      exact = λ x. (in_sources x, from.all x);
      number = sym (length-map from.things f) ∙ ap length from.images ∙ k.number;
    }
      where
        from : Sources S k.members
        from = sources S k.members (λ y h. back y ((k.exact y).1 h))

        in_sources : (x : A) → S x → x ∈ from.things
        in_sources x s =
            let (y, m, e) = map_in (f x) from.things (subst (λ ys. f x ∈ ys) (sym from.images) ((k.exact (f x)).0 (there x s))) in
            subst (λ z. z ∈ from.things) (sym (once x y s (from.all y m) e)) m
