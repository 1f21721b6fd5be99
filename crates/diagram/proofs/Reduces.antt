-- A store is a reduced, ordered table without twins. Assumes nothing.
use Rattle.std.proofs.Common.{ℕ, ◌<◌, ◌≤◌, arith}
use Rattle.acl.specs.Headers.{width}
use Rattle.model.specs.declared.node.Ref.{Ref}
use Rattle.model.specs.declared.node.Ref.TheVariants.{Code, Node as At}
use Rattle.model.specs.Diagram.{Reduced}
use Rattle.model.specs.Laying.{Grown}
use Rattle.diagram.specs.declared.store.Store.{Store}
use Rattle.diagram.specs.Nodes.{Under}
use Rattle.diagram.specs.Stores.{nodes_of, Grows}

-- a reference to an early node is one to a node
pub under_more : (k e : ℕ) (r : Ref) → k ≤ e → Under k r → Under e r
under_more k e (Code c) l u = tt
under_more k e (At i) l u = omega arith

pub reduced : (s : Store) → Reduced width (λ i. i < s.linked) (nodes_of s)
reduced s = record {
  place_low = λ i h. (s.sound.good i h).placed;
  low_known = λ i h. under_more i s.linked (nodes_of s i).low (omega arith) (s.sound.good i h).low_under;
  high_known = λ i h. under_more i s.linked (nodes_of s i).high (omega arith) (s.sound.good i h).high_under;
  low_later = λ i h. (s.sound.good i h).low_later;
  high_later = λ i h. (s.sound.good i h).high_later;
  two_ways = λ i h. (s.sound.good i h).apart;
  once = s.sound.unique;
}

-- a store that has grown is a grown table
pub grown : (s s' : Store) → Grows s s' → Grown (λ i. i < s.linked) (λ i. i < s'.linked) (nodes_of s) (nodes_of s')
grown s s' g = record { still = λ i h. omega (arith, g.more); same = g.same }
