-- That the nodes of a store are sound is a fact with one proof at most, so that its type can hold it. This file names no
-- struct with a ghost field. Assumes nothing.
use Rattle.std.specs.Prelude.{ℕ, List, Option, Some, None}
use Rattle.std.specs.Coded.{Coded-set, coded_ℕ, le_prop}
use mathlib.Core.HLevel.{¬_prop}
use Rattle.model.specs.declared.node.Ref.{Ref}
use Rattle.model.specs.declared.node.Ref.TheVariants.{Code, Node as At}
use Rattle.model.specs.declared.node.Node.{Node}
use Rattle.diagram.specs.declared.store.link.Link.{Link}
use Rattle.diagram.specs.Nodes.{Under, Good, Chained, Sound}

-- a reference is under a number in one way at most
Under-prop : (e : ℕ) (r : Ref) → IsProp (Under e r)
Under-prop e (Code c) x y = λ i. tt
Under-prop e (At k) x y = le_prop x y

-- a node is good in one way at most
Good-prop : (ns : List Node) (k : ℕ) (n : Node) → IsProp (Good ns k n)
Good-prop ns k n x y = λ i. record {
  placed = le_prop x.placed y.placed i;
  low_under = Under-prop k n.low x.low_under y.low_under i;
  high_under = Under-prop k n.high x.high_under y.high_under i;
  low_later = le_prop x.low_later y.low_later i;
  high_later = le_prop x.high_later y.high_later i;
  apart = ¬_prop x.apart y.apart i;
}

-- a bucket has its last node, or none, in one way at most
Chained-prop : (ns : List Node) (b e : ℕ) (h : Option ℕ) → IsProp (Chained ns b e h)
Chained-prop ns b e None x y = λ i k l. ¬_prop (x k l) (y k l) i
Chained-prop ns b e (Some j) x y = λ i. record {
  within = le_prop x.within y.within i;
  owner = Coded-set coded_ℕ _ _ x.owner y.owner i;
  all = (λ k l q. le_prop (x.all k l q) (y.all k l q) i);
}

-- nodes are sound in one way at most
pub Sound-prop : (ns : List Node) (head next : List Link) (e : ℕ) → IsProp (Sound ns head next e)
Sound-prop ns head next e x y = λ i. record {
  fits = le_prop x.fits y.fits i;
  good = (λ k l. Good-prop ns k _ (x.good k l) (y.good k l) i);
  unique = (λ j k l m q. Coded-set coded_ℕ j k (x.unique j k l m q) (y.unique j k l m q) i);
  heads = (λ b l. Chained-prop ns b e _ (x.heads b l) (y.heads b l) i);
  nexts = (λ k l. Chained-prop ns _ k _ (x.nexts k l) (y.nexts k l) i);
}
