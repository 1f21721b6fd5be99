-- A store's index stays sound when a node is put at the end. Assumes nothing.
use Rattle.std.proofs.Common.{◌≡◌, ℕ, ◌+◌, ◌<◌, ◌≤◌, ◌⊎◌, List, Option, Some, None, length, get_or, set, replicate, sym, refl, ap, ◌∙◌, subst, inl, inr, not-suc-le-zero, arith, get_or-set_other, get_or-set_same}
use native.Mathlib.Decide.{ℕ_discrete}
use lib.ListN.{get_or-replicate}
use Rattle.acl.specs.Headers.{width}
use Rattle.model.specs.declared.node.Ref.{Ref}
use Rattle.model.specs.declared.node.Ref.TheVariants.{Code, Node as At}
use Rattle.model.specs.declared.node.Node.{Node}
use Rattle.model.specs.Diagram.{top}
use Rattle.diagram.specs.declared.store.link.Link.{Link}
use Rattle.diagram.specs.Nodes.{blank, table_of, Under, Good, bucket, unlinked, linked, Chained, Sound}

-- the first e nodes of two rows are the same
abbrev pub Agree : List Node → List Node → ℕ → Type 0
Agree ns ns' e = (k : ℕ) → k < e → table_of ns' k ≡ table_of ns k

-- a node put at e leaves those before it
pub set_agree : (ns : List Node) (e : ℕ) (n : Node) → Agree ns (set ns e n) e
set_agree ns e n k h = get_or-set_other ns e k n blank (omega arith)

-- a reference to one of these nodes tests the same place
pub top_same : (ns ns' : List Node) (k : ℕ) (r : Ref) → Agree ns ns' k → Under k r → top width (table_of ns') r ≡ top width (table_of ns) r
top_same ns ns' k (Code c) a u = refl
top_same ns ns' k (At i) a u = ap (λ (n : Node). n.place) (a i u)

-- what may stand at k in the one row may stand there in the other
pub good_same : (ns ns' : List Node) (k : ℕ) (n : Node) → Agree ns ns' k → Good ns k n → Good ns' k n
good_same ns ns' k n a g = record {
  placed = g.placed;
  low_under = g.low_under;
  high_under = g.high_under;
  low_later = omega (arith, g.low_later, top_same ns ns' k n.low a g.low_under);
  high_later = omega (arith, g.high_later, top_same ns ns' k n.high a g.high_under);
  apart = g.apart;
}

-- a chain of the one row is one of the other
pub chained_same : (ns ns' : List Node) (b e : ℕ) (h : Option ℕ) → Agree ns ns' e → Chained ns b e h → Chained ns' b e h
chained_same ns ns' b e None a c = λ k l q. c k l (ap bucket (sym (a k l)) ∙ q)
chained_same ns ns' b e (Some i) a c = record {
  within = c.within;
  owner = ap bucket (a i c.within) ∙ c.owner;
  all = λ k l q. c.all k l (ap bucket (sym (a k l)) ∙ q);
}

-- below e + 1: below e, or e
pub below_suc : (e k : ℕ) → k < e + 1 → (k < e) ⊎ (k ≡ e)
below_suc e k h = go (ℕ_discrete k e)
  where
    go : Dec (k ≡ e) → (k < e) ⊎ (k ≡ e)
    go (yes p) = inr p
    go (no p) = inl (omega arith)

-- the index of no nodes
pub sound_none : (ns : List Node) (next : List Link) → Sound ns (replicate 4096 unlinked) next 0
unfolding linked
sound_none ns next = record {
  fits = omega arith;
  good = λ k l. absurd (not-suc-le-zero l);
  unique = λ j k l. absurd (not-suc-le-zero l);
  heads = λ b l. subst (λ (x : Link). Chained ns b 0 (linked x)) (sym (get_or-replicate 4096 b unlinked unlinked l)) (λ k m. absurd (not-suc-le-zero m));
  nexts = λ i l. absurd (not-suc-le-zero l);
}

module _ (ns : List Node) (head next : List Link) (e b : ℕ) (n : Node) (link : Link) (s : Sound ns head next e) (room : e < 2048)
    (ln : length ns ≡ 2048) (lh : length head ≡ 4096) (lx : length next ≡ 2048) (eb : b ≡ bucket n) (lb : b < 4096)
    (g : Good ns e n) (fresh : (k : ℕ) → k < e → table_of ns k ≡ n → ⊥) (to : linked link ≡ Some e) where
  -- the node that was put stands at e
  here : table_of (set ns e n) e ≡ n
  here = get_or-set_same ns e n blank (omega arith)

  -- all nodes are still good
  push_good : (k : ℕ) → k < e + 1 → Good (set ns e n) k (table_of (set ns e n) k)
  push_good k l = go (below_suc e k l)
    where
      go : (k < e) ⊎ (k ≡ e) → Good (set ns e n) k (table_of (set ns e n) k)
      go (inl h) =
          subst (λ (m : Node). Good (set ns e n) k m) (sym (set_agree ns e n k h))
          (good_same ns (set ns e n) k (table_of ns k) (λ j lj. set_agree ns e n j (omega arith)) (s.good k h))
      go (inr p) =
          subst (λ (j : ℕ). Good (set ns e n) j (table_of (set ns e n) j)) (sym p)
          (subst (λ (m : Node). Good (set ns e n) e m) (sym here) (good_same ns (set ns e n) e n (set_agree ns e n) g))

  -- and no two are alike
  push_unique : (j k : ℕ) → j < e + 1 → k < e + 1 → table_of (set ns e n) j ≡ table_of (set ns e n) k → j ≡ k
  push_unique j k lj lk q = go (below_suc e j lj) (below_suc e k lk)
    where
      go : (j < e) ⊎ (j ≡ e) → (k < e) ⊎ (k ≡ e) → j ≡ k
      go (inl h) (inl i) = s.unique j k h i (sym (set_agree ns e n j h) ∙ q ∙ set_agree ns e n k i)
      go (inl h) (inr p) = absurd (fresh j h (sym (set_agree ns e n j h) ∙ q ∙ ap (table_of (set ns e n)) p ∙ here))
      go (inr p) (inl i) = absurd (fresh k i (sym (set_agree ns e n k i) ∙ sym q ∙ ap (table_of (set ns e n)) p ∙ here))
      go (inr p) (inr r) = p ∙ sym r

  -- a chain of another bucket does not end at e
  longer : (d : ℕ) (h : Option ℕ) → (d ≡ b → ⊥) → Chained (set ns e n) d e h → Chained (set ns e n) d (e + 1) h
  longer d h p = go h
    where
      other : bucket (table_of (set ns e n) e) ≡ d → ⊥
      other q = p (sym q ∙ ap bucket here ∙ sym eb)

      go : (h : Option ℕ) → Chained (set ns e n) d e h → Chained (set ns e n) d (e + 1) h
      go None c = λ k m q. last k q (below_suc e k m)
        where
          last : (k : ℕ) → bucket (table_of (set ns e n) k) ≡ d → (k < e) ⊎ (k ≡ e) → ⊥
          last k q (inl l) = c k l q
          last k q (inr z) = other (ap (λ j. bucket (table_of (set ns e n) j)) (sym z) ∙ q)
      go (Some i) c = record { within = omega (arith, c.within); owner = c.owner; all = λ k m q. last k q (below_suc e k m) }
        where
          last : (k : ℕ) → bucket (table_of (set ns e n) k) ≡ d → (k < e) ⊎ (k ≡ e) → k ≤ i
          last k q (inl l) = c.all k l q
          last k q (inr z) = absurd (other (ap (λ j. bucket (table_of (set ns e n) j)) (sym z) ∙ q))

  -- the last node of each bucket
  push_heads : (d : ℕ) → d < 4096 → Chained (set ns e n) d (e + 1) (linked (get_or (set head b link) d unlinked))
  push_heads d l = go (ℕ_discrete d b)
    where
      first : Chained (set ns e n) b (e + 1) (linked link)
      first = rw to (record { within = omega arith; owner = ap bucket here ∙ sym eb; all = λ k m q. omega arith })

      go : Dec (d ≡ b) → Chained (set ns e n) d (e + 1) (linked (get_or (set head b link) d unlinked))
      go (yes p) =
          subst (λ (c : ℕ). Chained (set ns e n) c (e + 1) (linked (get_or (set head b link) c unlinked))) (sym p)
          (subst (λ (y : Link). Chained (set ns e n) b (e + 1) (linked y)) (sym (get_or-set_same head b link unlinked (omega arith))) first)
      go (no p) =
          subst (λ (y : Link). Chained (set ns e n) d (e + 1) (linked y)) (sym (get_or-set_other head b d link unlinked p))
          (longer d (linked (get_or head d unlinked)) p
          (chained_same ns (set ns e n) d e (linked (get_or head d unlinked)) (set_agree ns e n) (s.heads d l)))

  -- and of each node the one before it in its bucket
  push_nexts : (i : ℕ) → i < e + 1
      → Chained (set ns e n) (bucket (table_of (set ns e n) i)) i (linked (get_or (set next e (get_or head b unlinked)) i unlinked))
  push_nexts i l = go (below_suc e i l)
    where
      m : List Node
      m = set ns e n

      before : Link
      before = get_or head b unlinked

      rest : List Link
      rest = set next e before

      go : (i < e) ⊎ (i ≡ e) → Chained m (bucket (table_of m i)) i (linked (get_or rest i unlinked))
      go (inl h) =
          subst (λ (y : Link). Chained m (bucket (table_of m i)) i (linked y)) (sym (get_or-set_other next e i before unlinked (omega arith)))
          (subst (λ (y : Node). Chained m (bucket y) i (linked (get_or next i unlinked))) (sym (set_agree ns e n i h))
          (chained_same ns m (bucket (table_of ns i)) i (linked (get_or next i unlinked)) (λ j lj. set_agree ns e n j (omega arith)) (s.nexts i h)))
      go (inr p) =
          subst (λ (y : ℕ). Chained m (bucket (table_of m y)) y (linked (get_or rest y unlinked))) (sym p)
          (subst (λ (y : Link). Chained m (bucket (table_of m e)) e (linked y)) (sym (get_or-set_same next e before unlinked (omega arith)))
          (subst (λ (y : ℕ). Chained m y e (linked before)) (eb ∙ sym (ap bucket here))
          (chained_same ns m b e (linked before) (set_agree ns e n) (s.heads b lb))))

  -- so the index with one node more is sound
  pub push_sound : Sound (set ns e n) (set head b link) (set next e (get_or head b unlinked)) (e + 1)
  push_sound = record { fits = omega arith; good = push_good; unique = push_unique; heads = push_heads; nexts = push_nexts }

-- What is left to look at in the chain of n's bucket: no node after i is n, and no node at all where nothing is left.
abbrev pub Left : List Node → ℕ → Node → Option ℕ → Type 0
Left ns e n None = (k : ℕ) → k < e → table_of ns k ≡ n → ⊥
Left ns e n (Some i) = record {
  within : i < e;
  owner : bucket (table_of ns i) ≡ bucket n;
  after : (k : ℕ) → k < e → i < k → table_of ns k ≡ n → ⊥;
}

-- how many nodes can be left
abbrev pub left : Option ℕ → ℕ
left None = 0
left (Some i) = i + 1

-- where i is not n, it is the one before i in the bucket
pub left_next : (ns : List Node) (e : ℕ) (n : Node) (i : ℕ) (h : Option ℕ) → Left ns e n (Some i) → (table_of ns i ≡ n → ⊥)
    → Chained ns (bucket (table_of ns i)) i h → Left ns e n h
left_next ns e n i h w other c = go h c
  where
    later : (k : ℕ) → k < e → (k < i → ⊥) → table_of ns k ≡ n → ⊥
    later k l m q = split (ℕ_discrete k i)
      where
        split : Dec (k ≡ i) → ⊥
        split (yes z) = other (ap (table_of ns) (sym z) ∙ q)
        split (no z) = w.after k l (omega arith) q

    same : (k : ℕ) → table_of ns k ≡ n → bucket (table_of ns k) ≡ bucket (table_of ns i)
    same k q = ap bucket q ∙ sym w.owner

    go : (h : Option ℕ) → Chained ns (bucket (table_of ns i)) i h → Left ns e n h
    go None c = λ k l q. later k l (λ m. c k m (same k q)) q
    go (Some j) c = record {
      within = omega (arith, c.within, w.within);
      owner = c.owner ∙ w.owner;
      after = λ k l m q. later k l (λ x. omega (arith, c.all k x (same k q))) q;
    }
