-- What stands for a node with two references, where the node is found, is made, or has no room. Assumes nothing.
use Rattle.std.proofs.Common.{◌≡◌, ℕ, ◌+◌, ◌-◌, ◌<◌, ◌≤◌, Bool, false, cond, ◌≢◌, sym, ap, ◌∙◌, subst, arith}
use mathlib.Core.Path.{fun_ext}
use Rattle.acl.specs.Headers.{width}
use Rattle.model.specs.declared.node.Ref.{Ref}
use Rattle.model.specs.declared.node.Ref.TheVariants.{Node as At}
use Rattle.model.specs.declared.node.Node.{Node}
use Rattle.model.specs.Rows.{Bits, splice}
use Rattle.model.specs.Parts.{Part, PartOf}
use Rattle.model.specs.Diagram.{top, part_at}
use Rattle.model.specs.Laying.{found}
use Rattle.model.proofs.Rows.{splice_high, same_part}
use Rattle.model.proofs.Diagram.{value_from}
use Rattle.model.proofs.Laying.{value_grown, made_value, pending, pending_matters, pending_new}
use Rattle.diagram.specs.declared.store.Store.{Store}
use Rattle.diagram.specs.Nodes.{Under}
use Rattle.diagram.specs.Stores.{nodes_of, value_in, Grows, Fits, New, Stands, Lacks, joined}
use Rattle.diagram.proofs.Reduces.{reduced, grown}

module _ (s : Store) (p : ℕ) (low high : Ref) (lt : p < width) where
  -- a node with the two references stands for them
  pub found_stands : (i : ℕ) → i < s.linked → nodes_of s i ≡ record { place = p; low = low; high = high }
      → Stands s p (joined s p low high) (At i)
  found_stands i h e = record {
    fits = record { under = h; later = omega (arith, ap (λ (n : Node). n.place) e) };
    is = made_value (reduced s) p low high (At i) lt (found i h e);
  }

  module _ (fl : Fits s (p + 1) low) (fh : Fits s (p + 1) high) (apart : low ≢ high) where
    -- the node as a part, before it is made
    abbrev part : Part
    part = pending (reduced s) p low high

    -- the two references do not depend on the bits before their place
    joined_fixed : (u row : Bits) → joined s p low high (splice p u row) ≡ joined s p low high row
    joined_fixed u row =
        ap (λ (b : Bool). cond b (value_in s high (splice p u row)) (value_in s low (splice p u row))) (splice_high p u row p (omega arith))
        ∙ ap (λ (x : ℕ). cond (row p) x (value_in s low (splice p u row))) (from high fh.under fh.later)
        ∙ ap (λ (x : ℕ). cond (row p) (value_in s high row) x) (from low fl.under fl.later)
      where
        from : (r : Ref) → Under s.linked r → p + 1 ≤ top width (nodes_of s) r → value_in s r (splice p u row) ≡ value_in s r row
        from r k h =
            value_from (reduced s) (width - p) p (omega arith) (splice p u row) row r k (omega arith) (λ q z. splice_high p u row q z)

    -- it is a part of what the two references make
    pub pending_part : PartOf (joined s p low high) part
    pending_part = record {
      fixing = λ q. false;
      is = fun_ext (λ row. sym (joined_fixed (λ q. false) row));
      matters = pending_matters (reduced s) p low high lt fl.under fh.under (omega (arith, fl.later)) (omega (arith, fh.later)) apart;
    }

    -- in a full store without this node a part is lacking
    pub node_lacks : s.linked ≡ s.cap → ((k : ℕ) → k < s.linked → nodes_of s k ≡ record { place = p; low = low; high = high } → ⊥)
        → Lacks s (joined s p low high)
    node_lacks full fresh = record {
      full = full;
      part = part;
      of = pending_part;
      new = pending_new (reduced s) p low high lt fl.under fh.under (omega (arith, fl.later)) (omega (arith, fh.later)) fresh;
    }

    module _ (s' : Store) (g : Grows s s') (one : s'.linked ≡ s.linked + 1)
        (at : nodes_of s' s.linked ≡ record { place = p; low = low; high = high }) where
      -- the node that was made has the value of the two references in the store before
      made_is : (row : Bits) → value_in s' (At s.linked) row ≡ joined s p low high row
      made_is row =
          made_value (reduced s') p low high (At s.linked) lt (found s.linked (omega arith) at) row
          ∙ ap (λ (x : ℕ). cond (row p) x (value_in s' low row)) (value_grown (reduced s) (grown s s' g) high fh.under row)
          ∙ ap (λ (x : ℕ). cond (row p) (value_in s high row) x) (value_grown (reduced s) (grown s s' g) low fl.under row)

      -- so it stands for them
      pub made_stands : (r : ℕ) → r ≡ s.linked → Stands s' p (joined s p low high) (At r)
      made_stands r e = subst (λ (k : ℕ). Stands s' p (joined s p low high) (At k)) (sym e) (record {
        fits = record { under = omega arith; later = omega (arith, ap (λ (n : Node). n.place) at) };
        is = made_is;
      })

      -- and is the part that was pending, so each new node is a part of what the two references make
      pub made_new : New s s' (joined s p low high)
      made_new i l h =
          let e : s.linked ≡ i = omega arith in
          subst (λ (k : ℕ). PartOf (joined s p low high) (part_at width (nodes_of s') k)) e
          (subst (PartOf (joined s p low high)) made_part pending_part)
        where
          made_part : part ≡ part_at width (nodes_of s') s.linked
          made_part =
              same_part part (part_at width (nodes_of s') s.linked) (sym (ap (λ (n : Node). n.place) at))
              (fun_ext (λ row. sym (made_is row)))
