-- Operands that are short enough, and results that are as long as their context.
use Rattle.std.proofs.Common.{◌≤◌, ℕ}
use Rattle.b4_core.specs.declared.operators.UnOp.{UnOp}
use Rattle.b4_core.specs.declared.operators.UnOp.TheVariants as U
use Rattle.b4_core.specs.declared.operators.BinOp.{BinOp}
use Rattle.b4_core.specs.declared.operators.BinOp.TheVariants as B
use Rattle.b4_core.specs.Unary.{UnaryFitsWord}
use Rattle.b4_core.specs.Binary.{BinaryFitsWord}
use Rattle.v_eval.specs.Operators.{unary_most, binary_most}

pub unary-narrow : (op : UnOp) (n : ℕ) → unary_most op n ≤ 128 → UnaryFitsWord op n
unary-narrow U.Not n h = tt
unary-narrow U.Neg n h = h

pub binary-narrow : (op : BinOp) (n : ℕ) → binary_most op n ≤ 128 → BinaryFitsWord op n
binary-narrow B.And n h = tt
binary-narrow B.Or n h = tt
binary-narrow B.Xor n h = tt
binary-narrow B.Xnor n h = tt
binary-narrow B.Add n h = h
binary-narrow B.Sub n h = h
binary-narrow B.Mul n h = h
binary-narrow B.Div n h = h
binary-narrow B.Rem n h = h

pub ruleset narrow = (unary-narrow, binary-narrow)
