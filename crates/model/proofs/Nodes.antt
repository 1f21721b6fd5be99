-- The nodes that a reference reaches are the parts of its function, one to one, and are counted as parts. Assumes nothing.
use mathlib.Core.Path.{◌≡◌, refl, sym, ap, ◌∙◌, subst, fun_ext}
use mathlib.Core.Logic.{◌≢◌}
use mathlib.Core.Bool.{Bool, true, false, cond}
use mathlib.Core.List.{List, map}
use Prim.Native.Nat.{ℕ, suc, ◌-◌, ◌≤◌, ◌<◌}
use native.Mathlib.Decide.{ℕ_discrete, dec_lt}
use native.Mathlib.Omega.{arith}
use Rattle.model.specs.Rows.{Bits, splice, put}
use Rattle.model.specs.Sets.{◌∈◌}
use Rattle.model.specs.Parts.{Matters, Part, PartOf, PartOfSome}
use Rattle.model.specs.declared.node.Ref.{Ref}
use Rattle.model.specs.declared.node.Ref.TheVariants.{Code as leaf, Node as node}
use Rattle.model.specs.Diagram.{Table, top, step, walk, value, Known, Reduced, Reached, ReachedFrom, part_at, first_from}
use Rattle.model.specs.Stands.{NodesAreParts, NodesCount, AllNodesStand}
use Rattle.model.proofs.Images.{in_map, map_in, count_images, count_sources}
use Rattle.model.proofs.Rows.{splice_low, put_here, put_else, same_part}
use Rattle.model.proofs.Diagram.{step_at, value_reads, walk_known, walk_top, value_fixed, value_from, value_on, canon, first_differs}

module _ {w : ℕ} {In : ℕ → Type 0} {t : Table} (red : Reduced w In t) where
  -- the place of a part is below w
  pub part_place : (r : Ref) (x : Part) → PartOf (value w t r) x → x.place < w
  part_place r x h = go (dec_lt x.place w)
    where
      p : ℕ
      p = x.place

      v : Bits
      v = splice p h.fixing (put p false h.matters.at)

      row : Bits
      row = splice p h.fixing (put p true h.matters.at)

      same : w ≤ p → value w t r v ≡ value w t r row
      same l =
          value_reads w t r v row (λ q m.
          splice_low p h.fixing (put p false h.matters.at) q (omega arith)
          ∙ sym (splice_low p h.fixing (put p true h.matters.at) q (omega arith)))

      go : Dec (x.place < w) → x.place < w
      go (yes l) = l
      go (no n) =
          absurd
          (h.matters.changes
          (ap (λ s. s (put p false h.matters.at)) h.is ∙ same (omega arith)
          ∙ sym (ap (λ s. s (put p true h.matters.at)) h.is)))

  -- the bit at p does not matter to a reference that tests a later place
  pub no_part : (p : ℕ) (r : Ref) → p < w → Known In r → p < top w t r → Matters p (value w t r) → ⊥
  no_part p r l k h m =
      m.changes
      (value_from red (w - suc p) (suc p) (omega arith) (put p false m.at) (put p true m.at) r k h
      (λ q z. put_else p false m.at q (omega arith) ∙ sym (put_else p true m.at q (omega arith))))

  -- and it matters to a node at p
  pub node_matters : (i : ℕ) → In i → Matters (t i).place (value w t (node i))
  node_matters i k = record { at = row; changes = λ e. differ (sym (way false) ∙ e ∙ way true) }
    where
      p : ℕ
      p = (t i).place

      l : p < w
      l = red.place_low i k

      row : Bits
      row = first_from t (w - suc p) (suc p) (t i).low (t i).high

      child : Bool → Ref
      child b = cond b (t i).high (t i).low

      known : (b : Bool) → Known In (child b)
      known true = red.high_known i k
      known false = red.low_known i k

      later : (b : Bool) → p < top w t (child b)
      later true = red.high_later i k
      later false = red.low_later i k

      differ : value w t (t i).low row ≢ value w t (t i).high row
      differ =
          first_differs red (w - suc p) (suc p) (omega arith) (t i).low (t i).high (red.low_known i k) (red.high_known i k)
          (red.low_later i k) (red.high_later i k) (red.two_ways i k)

      way : (b : Bool) → value w t (node i) (put p b row) ≡ value w t (child b) row
      way b =
          value_on red (w - suc p) p (omega arith) (put p b row) (node i) k (omega arith)
          ∙ ap (λ c. value w t (step t p c (node i)) (put p b row)) (put_here p b row)
          ∙ ap (λ r. value w t r (put p b row)) (step_at t p b i refl)
          ∙ value_from red (w - suc p) (suc p) (omega arith) (put p b row) row (child b) (known b) (later b)
          (λ q z. put_else p b row q (omega arith))

  -- a node that is reached is one of the table's
  pub reached_known : (r : Ref) → Known In r → (i : ℕ) → Reached t r i → In i
  reached_known r k i h = subst (Known In) h.meets (walk_known red (t i).place h.way r k)

  -- a node that is reached is a part
  pub node_part : (r : Ref) → Known In r → (i : ℕ) → Reached t r i → PartOf (value w t r) (part_at w t i)
  node_part r k i h =
      let here : In i = reached_known r k i h in
      let l : (t i).place < w = red.place_low i here in
      record {
        fixing = h.way;
        is =
            fun_ext (λ row.
            ap (λ v. value w t v row) (sym h.meets)
            ∙ sym (value_fixed red (w - (t i).place) (t i).place (omega arith) h.way row r k));
        matters = node_matters i here;
      }

  -- a node that is reached and is this part
  pub record NodeOf (r : Ref) (x : Part) : Type 0 where
    pub number : ℕ
    pub reached : Reached t r number
    pub is : x ≡ part_at w t number

  -- a reference that tests a place below w is a node
  pub at_node : (r : Ref) (p : ℕ) → p < w → top w t r ≡ p → (i : ℕ) × (r ≡ node i)
  at_node (leaf c) p l e = absurd (omega arith)
  at_node (node i) p l e = (i, refl)

  -- and every part is a node that is reached
  pub part_node : (r : Ref) → Known In r → (x : Part) → PartOf (value w t r) x → NodeOf r x
  part_node r k x h = go (ℕ_discrete (top w t a) p)
    where
      p : ℕ
      p = x.place

      l : p < w
      l = part_place r x h

      a : Ref
      a = walk t p h.fixing r

      known : Known In a
      known = walk_known red p h.fixing r k

      left_is : x.left ≡ value w t a
      left_is = h.is ∙ fun_ext (λ row. value_fixed red (w - p) p (omega (arith, l)) h.fixing row r k)

      from : p ≤ top w t a
      from = walk_top red p h.fixing r (omega (arith, l)) k

      found : top w t a ≡ p → ((i : ℕ) × (a ≡ node i)) → NodeOf r x
      found e (i, b) =
          let here : (t i).place ≡ p = ap (top w t) (sym b) ∙ e in
          record {
            number = i;
            reached = record { way = h.fixing; meets = ap (λ n. walk t n h.fixing r) here ∙ b };
            is = same_part x (part_at w t i) (sym here) (left_is ∙ ap (value w t) b);
          }

      go : Dec (top w t a ≡ p) → NodeOf r x
      go (yes e) = found e (at_node a p l e)
      go (no n) = absurd (no_part p a l known (omega (arith, from)) (subst (Matters p) left_is h.matters))

  -- two nodes are the same part only if they are one node
  pub part_once : (i j : ℕ) → In i → In j → part_at w t i ≡ part_at w t j → i ≡ j
  part_once i j ki kj e = number_of (canon red (node i) (node j) ki kj (λ row. ap (λ x. x.left row) e))
    where
      number_of : node i ≡ node j → i ≡ j
      number_of d = cc

  -- so the nodes reached from a reference are, one to one, the parts of its function
  pub nodes_parts : (r : Ref) → Known In r → NodesAreParts w t r
  nodes_parts r k = record {
    a_part = node_part r k;
    a_node = λ x h. let m = part_node r k x h in (m.number, m.reached, m.is);
    one_node = λ i j hi hj e. part_once i j (reached_known r k i hi) (reached_known r k j hj) e;
  }

  module _ (roots : List Ref) (known : (r : Ref) → r ∈ roots → Known In r) where
    -- a node that one of the roots reaches is one of the table's
    from_known : (i : ℕ) → ReachedFrom t roots i → In i
    from_known i s = reached_known s.root (known s.root s.one) i s.reached

    -- it is a part of that root's function
    from_part : (i : ℕ) → ReachedFrom t roots i → PartOfSome (map (value w t) roots) (part_at w t i)
    from_part i s = record {
      stage = value w t s.root;
      one = in_map (value w t) s.root roots s.one;
      part = node_part s.root (known s.root s.one) i s.reached;
    }

    -- and a part of a root's function is a node that the root reaches
    part_from : (x : Part) → PartOfSome (map (value w t) roots) x → (i : ℕ) × ReachedFrom t roots i × (x ≡ part_at w t i)
    part_from x s =
        let (r, m, e) = map_in (value w t) s.stage roots s.one in
        let n = part_node r (known r m) x (subst (λ f. PartOf f x) e s.part) in
        (n.number, record { root = r; one = m; reached = n.reached }, n.is)

    -- so counts of the one are counts of the other
    pub nodes_count : (c : ℕ) → NodesCount w t roots c
    nodes_count c = record {
      there = count_images (part_at w t) (ReachedFrom t roots) (PartOfSome (map (value w t) roots)) from_part part_from once c;
      back = count_sources (part_at w t) (ReachedFrom t roots) (PartOfSome (map (value w t) roots)) from_part part_from once c;
    }
      where
        once : (i j : ℕ) → ReachedFrom t roots i → ReachedFrom t roots j → part_at w t i ≡ part_at w t j → i ≡ j
        once i j hi hj e = part_once i j (from_known i hi) (from_known j hj) e

-- so it is over every reduced table
pub nodes_stand : AllNodesStand
nodes_stand w n t red = record { parts = nodes_parts red; counts = nodes_count red }
