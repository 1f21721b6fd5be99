-- What a laying has made, told of the table: room just suffices, or just does not. Assumes nothing.
use Rattle.std.proofs.Common.{◌≡◌, ℕ, ◌<◌, List, map, Option, Some, None, MatchOption, sym, ap, ◌∙◌, subst, inl, inr, arith}
use mathlib.Core.Path.{fun_ext}
use native.Mathlib.Decide.{dec_lt}
use lib.ListN.{length-map}
use Rattle.std.specs.Option.{ok_or}
use Rattle.acl.specs.Headers.{width}
use Rattle.model.specs.declared.node.Ref.{Ref}
use Rattle.model.specs.declared.node.Node.{Node}
use Rattle.model.specs.Sets.{◌∈◌, AtMost, MoreThan, Either}
use Rattle.model.specs.Stages.{Stage}
use Rattle.model.specs.Parts.{Part, PartOf}
use Rattle.model.specs.Diagram.{value, part_at}
use Rattle.model.specs.Laying.{over}
use Rattle.model.proofs.Images.{in_map}
use Rattle.model.proofs.Nodes.{part_node, reached_known}
use Rattle.model.proofs.Laying.{too_many}
use Rattle.diagram.specs.declared.cube.Cube.{Cube}
use Rattle.diagram.specs.declared.store.Store.{Store}
use Rattle.diagram.specs.declared.table.Table.{Table as NodeTable}
use Rattle.diagram.specs.declared.table.Denied.TheVariants.{Full}
use Rattle.diagram.specs.Cubes.{asked}
use Rattle.diagram.specs.Nodes.{table_of, Under}
use Rattle.diagram.specs.Stores.{nodes_of, value_in, Grows, New, Stands, Lacks, laid_from}
use Rattle.diagram.specs.Tables.{nodes, room, NodeParts, stage_after, Refers, LaidOver, NoRoom, Lays}
use Rattle.diagram.proofs.Reduces.{reduced}
use Rattle.diagram.proofs.Growing.{part_grows}
use Rattle.diagram.proofs.Numbers.{below, in_below, below_in, distinct_below, length_below}

module _ (t : NodeTable) (s s' : Store) (c : Cube) (r : Ref)
    (rows : s.nodes ≡ t.store.nodes) (level : s.linked ≡ t.end.at) (capped : s.cap ≡ t.store.cap)
    (g : Grows s s')
    (new : New s s' (laid_from c s 0 r)) where
  -- the stage after, over the store and over the table
  after_same : laid_from c s 0 r ≡ stage_after t c r
  unfolding over
  after_same = ap (λ (ns : List Node). over width (asked c.asks) c.code (value width (table_of ns) r)) rows

  -- a node of the table is one of the store, and the same part
  node_part : (i : ℕ) → i < s.linked → part_at width (nodes_of s') i ≡ part_at width (nodes t) i
  node_part i h = part_grows s s' g i h ∙ ap (λ (ns : List Node). part_at width (table_of ns) i) rows

  -- each node of the store is a node of the table or a part of the stage after
  each : (i : ℕ) → i < s'.linked → Either (NodeParts t) (PartOf (stage_after t c r)) (part_at width (nodes_of s') i)
  each i h = go (dec_lt i s.linked)
    where
      go : Dec (i < s.linked) → Either (NodeParts t) (PartOf (stage_after t c r)) (part_at width (nodes_of s') i)
      go (yes l) = inl (i, omega arith, node_part i l)
      go (no n) = inr (subst (λ (f : Stage). PartOf f (part_at width (nodes_of s') i)) after_same (new i (omega arith) h))

  -- where the laying lacks room there are too many parts
  pub over_full : Lacks s' (laid_from c s 0 r) → MoreThan (room t) (Either (NodeParts t) (PartOf (stage_after t c r)))
  over_full lack =
      too_many (reduced s') (Either (NodeParts t) (PartOf (stage_after t c r))) (room t) (below s'.linked) (distinct_below s'.linked)
      (length_below s'.linked ∙ lack.full ∙ g.cap ∙ capped) (λ i m. below_in s'.linked i m) (λ i m. each i (below_in s'.linked i m))
      lack.part (inr (subst (λ (f : Stage). PartOf f lack.part) after_same lack.of)) lack.new

  -- where it has made a reference, all parts are nodes
  pub in_room : (x : Ref) → Stands s' 0 (laid_from c s 0 r) x → AtMost (room t) (Either (NodeParts t) (PartOf (stage_after t c r)))
  in_room x st = record {
    members = map (part_at width (nodes_of s')) (below s'.linked);
    all = λ y m. all y m;
    few = omega (arith, length-map (below s'.linked) (part_at width (nodes_of s')), length_below s'.linked, s'.fits, g.cap, capped);
  }
    where
      is : value_in s' x ≡ stage_after t c r
      is = fun_ext st.is ∙ after_same

      all : (y : Part) → Either (NodeParts t) (PartOf (stage_after t c r)) y → y ∈ map (part_at width (nodes_of s')) (below s'.linked)
      all y (inl (i, h, e)) =
          let l : i < s.linked = omega arith in
          subst (λ (z : Part). z ∈ map (part_at width (nodes_of s')) (below s'.linked)) (node_part i l ∙ sym e)
          (in_map (part_at width (nodes_of s')) i (below s'.linked) (in_below s'.linked i (omega (arith, g.more))))
      all y (inr p) =
          let m = part_node (reduced s') x st.fits.under y (subst (λ (f : Stage). PartOf f y) (sym is) p) in
          subst (λ (z : Part). z ∈ map (part_at width (nodes_of s')) (below s'.linked)) (sym m.is)
          (in_map (part_at width (nodes_of s')) m.number (below s'.linked)
          (in_below s'.linked m.number (reached_known (reduced s') x st.fits.under m.number m.reached)))

  -- the nodes of the table stand as before
  pub stand : (i : ℕ) → i < t.end.at → nodes_of s' i ≡ nodes t i
  stand i h = g.same i (omega arith) ∙ ap (λ (ns : List Node). table_of ns i) rows

-- the table after a laying that found room
laid_over : (t t' : NodeTable) (s : Store) (c : Cube) (r x : Ref)
    → s.nodes ≡ t.store.nodes → s.linked ≡ t.end.at → s.cap ≡ t.store.cap → Grows s t'.store
    → New s t'.store (laid_from c s 0 r) → t'.end.at ≡ t'.store.linked
    → Stands t'.store 0 (laid_from c s 0 r) x → LaidOver t t' c r x
laid_over t t' s c r x rows level capped g new flush st = record {
  refers = subst (λ (n : ℕ). Under n x) (sym flush) st.fits.under;
  is = λ v. st.is v ∙ ap (λ (f : Stage). f v) (after_same t s t'.store c r rows level capped g new);
  more = omega (arith, g.more);
  same = stand t s t'.store c r rows level capped g new;
  new = λ i h k.
      subst (λ (f : Stage). PartOf f (part_at width (nodes t') i)) (after_same t s t'.store c r rows level capped g new)
      (new i (omega arith) (omega arith));
  few = in_room t s t'.store c r rows level capped g new x st;
  room_same = g.cap ∙ capped;
}

-- and after one that did not
no_room : (t t' : NodeTable) (s : Store) (c : Cube) (r : Ref)
    → s.nodes ≡ t.store.nodes → s.linked ≡ t.end.at → s.cap ≡ t.store.cap → Grows s t'.store
    → New s t'.store (laid_from c s 0 r) → t'.end.at ≡ t.end.at
    → Lacks t'.store (laid_from c s 0 r) → NoRoom t t' c r
no_room t t' s c r rows level capped g new back lack = record {
  unchanged = record { end = back; same = stand t s t'.store c r rows level capped g new; room_same = g.cap ∙ capped };
  many = over_full t s t'.store c r rows level capped g new lack;
}

-- so the call answers by what the laying has made
pub laid_so : (t t' : NodeTable) (s : Store) (c : Cube) (r : Ref)
    → s.nodes ≡ t.store.nodes → s.linked ≡ t.end.at → s.cap ≡ t.store.cap → Grows s t'.store
    → New s t'.store (laid_from c s 0 r) → Refers t r
    → (made : Option Ref)
    → MatchOption made ((t'.end.at ≡ t.end.at) × Lacks t'.store (laid_from c s 0 r))
    (λ x. (t'.end.at ≡ t'.store.linked) × Stands t'.store 0 (laid_from c s 0 r) x)
    → Lays t t' c r (ok_or made Full)
laid_so t t' s c r rows level capped g new u None (back, lack) = (u, no_room t t' s c r rows level capped g new back lack)
laid_so t t' s c r rows level capped g new u (Some x) (flush, st) = (u, laid_over t t' s c r x rows level capped g new flush st)
