-- What the walks find, told of the bits that they write. Assumes nothing.
use Rattle.std.proofs.Common.{◌≡◌, ℕ, ◌-◌, ◌<◌, ◌≤◌, Bool, false, ◌≢◌, List, get_or, sym, ◌∙◌, arith}
use Rattle.acl.specs.Headers.{width}
use Rattle.model.specs.declared.node.Ref.{Ref}
use Rattle.model.specs.Rows.{Bits, AgreeBelow, First}
use Rattle.model.specs.Diagram.{first_from}
use Rattle.model.proofs.Diagram.{value_reads}
use Rattle.diagram.specs.declared.store.Store.{Store}
use Rattle.diagram.specs.Nodes.{Under}
use Rattle.diagram.specs.Stores.{nodes_of, value_in}
use Rattle.diagram.specs.Walks.{row_of}
use Rattle.diagram.proofs.Walked.{differ_so}

module _ (s : Store) (a b : Ref) (ka : Under s.linked a) (kb : Under s.linked b) (bits : List Bool)
    (row : (k : ℕ) → 0 ≤ k → k < width → get_or bits k false ≡ first_from (nodes_of s) (width - 0) 0 a b k) where
  same_row : AgreeBelow width (row_of bits) (first_from (nodes_of s) width 0 a b)
  same_row k l = row k (omega arith) l

  same_value : (r : Ref) → value_in s r (row_of bits) ≡ value_in s r (first_from (nodes_of s) width 0 a b)
  same_value r = value_reads width (nodes_of s) r (row_of bits) (first_from (nodes_of s) width 0 a b) same_row

  -- different references differ at the bits that were written
  pub told_apart_at : a ≢ b → value_in s a (row_of bits) ≢ value_in s b (row_of bits)
  told_apart_at n e = (differ_so s a b ka kb).differ n (sym (same_value a) ∙ e ∙ same_value b)

  -- and at no bits before them
  pub told_least : (v : Bits) → First width v (row_of bits) → value_in s a v ≡ value_in s b v
  told_least v f =
      (differ_so s a b ka kb).least v
      (record {
        place = f.place;
        within = f.within;
        same = λ q l. f.same q l ∙ same_row q (omega (arith, f.within));
        zero_here = f.zero_here;
        one_there = sym (same_row f.place f.within) ∙ f.one_there;
      })
