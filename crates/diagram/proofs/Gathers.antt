-- What collecting leaves: the roots as they were, and just the parts of their functions. Assumes nothing.
use Rattle.std.proofs.Common.{◌≡◌, ℕ, zero, suc, ◌+◌, ◌-◌, ◌<◌, ◌≤◌, Bool, List, [], ◌∷◌, map, length, get_or, sym, refl, ap, ◌∙◌, subst, inl, inr, arith}
use mathlib.Core.Path.{fun_ext}
use native.Mathlib.Decide.{dec_lt}
use lib.ListN.{length-map}
use Rattle.acl.specs.Headers.{width}
use Rattle.model.specs.declared.node.Ref.{Ref}
use Rattle.model.specs.declared.node.Ref.TheVariants.{Code, Node as At}
use Rattle.model.specs.declared.node.Node.{Node}
use Rattle.model.specs.Rows.{Bits, splice}
use Rattle.model.specs.Sets.{◌∈◌}
use Rattle.model.specs.Stages.{Stage}
use Rattle.model.specs.Parts.{Part, PartOf, PartOfSome}
use Rattle.model.specs.Diagram.{Table, walk, value, part_at, Known, Reduced, Reached}
use Rattle.model.proofs.Images.{in_map, map_in, distinct_map}
use Rattle.model.proofs.Diagram.{walk_stay, walk_splice, value_leaf}
use Rattle.model.proofs.Nodes.{node_part, part_node, part_once, reached_known}
use Rattle.diagram.specs.declared.store.Store.{Store}
use Rattle.diagram.specs.declared.table.Table.{Table as NodeTable}
use Rattle.diagram.specs.Nodes.{table_of, Under}
use Rattle.diagram.specs.Stores.{value_in}
use Rattle.diagram.specs.Collecting.{IsMarked, MarksAll, MarksReached, moved_to, CopiedTo, FromMarked}
use Rattle.diagram.specs.Tables.{nodes, Has, stage_of, Collected}
use Rattle.diagram.proofs.Reduces.{reduced}
use Rattle.diagram.proofs.Numbers.{below, in_below, below_in, distinct_below, length_below}

-- what stands at a place of a list is in it
in_at : {A : Type 0} (xs : List A) (j : ℕ) (d : A) → j < length xs → get_or xs j d ∈ xs
in_at [] j d h = omega arith
in_at (x ∷ xs) zero d h = inl refl
in_at (x ∷ xs) (suc j) d h = inr (in_at xs j d (omega arith))

-- and what is in it stands at some place
at_in : {A : Type 0} (xs : List A) (x d : A) → x ∈ xs → (j : ℕ) × (j < length xs) × (get_or xs j d ≡ x)
at_in [] x d h = absurd h
at_in (y ∷ ys) x d (inl e) = (0, omega arith, sym e)
at_in (y ∷ ys) x d (inr h) = let (j, l, e) = at_in ys x d h in (suc j, omega arith, e)

module _ {w : ℕ} {In : ℕ → Type 0} {t : Table} (red : Reduced w In t) where
  -- a node that is reached tests no earlier place
  reached_later : (i k : ℕ) → Reached t (At i) k → (t i).place ≤ (t k).place
  reached_later i k h = go (dec_lt (t k).place (t i).place)
    where
      number_of : At k ≡ At i → k ≡ i
      number_of e = cc

      go : Dec ((t k).place < (t i).place) → (t i).place ≤ (t k).place
      go (no n) = omega arith
      go (yes l) =
          let same : k ≡ i = number_of (sym h.meets ∙ walk_stay w t (t k).place h.way (At i) (omega arith)) in
          absurd (omega (arith, ap (λ (n : ℕ). (t n).place) same))

  -- what is reached from what is reached is reached
  pub reached_on_reached : (r : Ref) → Known In r → (i k : ℕ) → In i → In k → Reached t r i → Reached t (At i) k → Reached t r k
  reached_on_reached r kr i k ki kk a b = record {
    way = splice (t i).place a.way b.way;
    meets =
        ap (λ (n : ℕ). walk t n (splice (t i).place a.way b.way) r) (sym whole)
        ∙ walk_splice red ((t k).place - (t i).place) (t i).place a.way b.way r (omega (arith, red.place_low k kk, whole)) kr
        ∙ ap (walk t ((t i).place + ((t k).place - (t i).place)) b.way) a.meets
        ∙ ap (λ (n : ℕ). walk t n b.way (At i)) whole ∙ b.meets;
  }
    where
      whole : (t i).place + ((t k).place - (t i).place) ≡ (t k).place
      whole = omega (arith, reached_later i k b)

  -- a part of what a reached node stands for is one of what reaches it
  pub part_on : (r : Ref) → Known In r → (i : ℕ) → Reached t r i → (x : Part) → PartOf (value w t (At i)) x → PartOf (value w t r) x
  part_on r kr i a x p =
      let ki = reached_known red r kr i a in
      let m = part_node red (At i) ki x p in
      let kk = reached_known red (At i) ki m.number m.reached in
      subst (PartOf (value w t r)) (sym m.is) (node_part red r kr m.number (reached_on_reached r kr i m.number ki kk a m.reached))

module _ (t t' : NodeTable) (s : Store) (first marks : List Bool) (to roots roots' : List Ref)
    (rows : s.nodes ≡ t.store.nodes) (level : s.linked ≡ t.end.at) (capped : s.cap ≡ t.store.cap)
    (flush : t'.end.at ≡ t'.store.linked) (capped' : t'.store.cap ≡ s.cap)
    (refer : (j : ℕ) → j < length roots → Under s.linked (get_or roots j (Code 0)))
    (marked : MarksAll roots first) (more : (k : ℕ) → IsMarked first k → IsMarked marks k)
    (reach : MarksReached s first marks)
    (copied : CopiedTo s t'.store marks to s.linked) (from : FromMarked s t'.store marks s.linked)
    (moved : (j : ℕ) → j < length roots → get_or roots' j (Code 0) ≡ moved_to to (get_or roots j (Code 0))) where
  -- a reference stands for the same in the store and in the table
  in_table : (r : Ref) → value_in s r ≡ stage_of t r
  in_table r = ap (λ (ns : List Node). value width (table_of ns) r) rows

  -- where a root went
  root_went : (j : ℕ) → j < length roots → Under t'.store.linked (get_or roots' j (Code 0)) × ((v : Bits) → stage_of t' (get_or roots' j (Code 0)) v ≡ stage_of t (get_or roots j (Code 0)) v)
  root_went j l = subst (λ (x : Ref). Under t'.store.linked x × ((v : Bits) → stage_of t' x v ≡ stage_of t (get_or roots j (Code 0)) v)) (sym (moved j l)) (go (get_or roots j (Code 0)) refl (refer j l))
    where
      go : (r : Ref) → get_or roots j (Code 0) ≡ r → Under s.linked (get_or roots j (Code 0))
          → Under t'.store.linked (moved_to to (get_or roots j (Code 0))) × ((v : Bits) → stage_of t' (moved_to to (get_or roots j (Code 0))) v ≡ stage_of t (get_or roots j (Code 0)) v)
      go (Code c) e u =
          subst (λ (x : Ref). Under t'.store.linked (moved_to to x) × ((v : Bits) → stage_of t' (moved_to to x) v ≡ stage_of t x v)) (sym e)
          (tt, λ v. value_leaf (reduced t'.store) c v ∙ sym (value_leaf (reduced s) c v) ∙ ap (λ (f : Stage). f v) (in_table (Code c)))
      go (At k) e u =
          let h : k < s.linked = subst (Under s.linked) e u in
          let c = copied k h (more k (marked.here j k l e)) in
          subst (λ (x : Ref). Under t'.store.linked (moved_to to x) × ((v : Bits) → stage_of t' (moved_to to x) v ≡ stage_of t x v)) (sym e)
          (c.fits.under, λ v. c.is v ∙ ap (λ (f : Stage). f v) (in_table (At k)))

  -- a node that is left is a part of some root's function
  pub left_part : (i : ℕ) → Has t' i → PartOfSome (map (stage_of t) roots) (part_at width (nodes t') i)
  left_part i h =
      let (k, lk, mk, p) = from i (omega arith) in
      let (m, fm, a) = reach k mk in
      let (j, lj, e) = marked.only m fm in
      let km : m < s.linked = subst (Under s.linked) e (refer j lj) in
      record {
        stage = stage_of t (get_or roots j (Code 0));
        one = in_map (stage_of t) (get_or roots j (Code 0)) roots (in_at roots j (Code 0) lj);
        part =
            subst (λ (f : Stage). PartOf f (part_at width (nodes t') i)) (in_table (At m) ∙ ap (stage_of t) (sym e))
            (part_on (reduced s) (At m) km k a (part_at width (nodes t') i) p);
      }

  -- and every such part is a node that is left
  part_left : (x : Part) → PartOfSome (map (stage_of t) roots) x → x ∈ map (part_at width (nodes t')) (below t'.store.linked)
  part_left x p =
      let (r, m, e) = map_in (stage_of t) p.stage roots p.one in
      let (j, l, d) = at_in roots r (Code 0) m in
      let went = root_went j l in
      let same : p.stage ≡ stage_of t' (get_or roots' j (Code 0)) = e ∙ ap (stage_of t) (sym d) ∙ sym (fun_ext went.1) in
      let n = part_node (reduced t'.store) (get_or roots' j (Code 0)) went.0 x (subst (λ (f : Stage). PartOf f x) same p.part) in
      subst (λ (z : Part). z ∈ map (part_at width (nodes t')) (below t'.store.linked)) (sym n.is)
      (in_map (part_at width (nodes t')) n.number (below t'.store.linked)
      (in_below t'.store.linked n.number (reached_known (reduced t'.store) (get_or roots' j (Code 0)) went.0 n.number n.reached)))

  pub collected : Collected t t' roots roots' t'.end.at
  collected = record {
    refer = λ j l. subst (λ (n : ℕ). Under n (get_or roots' j (Code 0))) (sym flush) (root_went j l).0;
    are = λ j l. (root_went j l).1;
    all = refl;
    count = record {
      members = map (part_at width (nodes t')) (below t'.store.linked);
      distinct =
          distinct_map (part_at width (nodes t')) (below t'.store.linked)
          (λ i k a b e. part_once (reduced t'.store) i k (below_in t'.store.linked i a) (below_in t'.store.linked k b) e)
          (distinct_below t'.store.linked);
      exact = λ x. (part_left x, λ m. back x m);
      number = length-map (below t'.store.linked) (part_at width (nodes t')) ∙ length_below t'.store.linked ∙ sym flush;
    };
    only = left_part;
    room_same = capped' ∙ capped;
  }
    where
      back : (x : Part) → x ∈ map (part_at width (nodes t')) (below t'.store.linked) → PartOfSome (map (stage_of t) roots) x
      back x m =
          let (i, b, e) = map_in (part_at width (nodes t')) x (below t'.store.linked) m in
          subst (PartOfSome (map (stage_of t) roots)) (sym e) (left_part i (omega (arith, below_in t'.store.linked i b)))
