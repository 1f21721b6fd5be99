-- A number that falls from a node to the ones that it refers to. Assumes nothing.
use Rattle.std.proofs.Common.{ℕ, suc}
use Rattle.model.specs.declared.node.Ref.{Ref}
use Rattle.model.specs.declared.node.Ref.TheVariants.{Code, Node as At}

-- a node refers to earlier nodes and to codes
abbrev pub rank : Ref → ℕ
rank (Code c) = 0
rank (At i) = suc i
