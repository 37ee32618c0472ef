-- What statements take of expressions and types.
use Rattle.std.proofs.Common.{ℕ, ◌≤◌, List, map}
use Rattle.std.specs.Prelude.{Ok, Err}
use Rattle.sv_tree.specs.declared.expressions.Dimension.{Dimension}
use Rattle.sv_tree.specs.declared.expressions.Select.{Select}
use Rattle.expr_type.specs.Expressions.{dimension_meaning, select_meaning, slice_meaning}
use Rattle.expr_type.specs.KeywordTypes.{Dim}
use Rattle.expr_type.specs.Names.{Context}
use Rattle.expr_type.specs.Placed.{Ascend, RoutinesInOrder}
use Rattle.expr_type.specs.Targets.{simple_name}
use Rattle.expr_type.specs.Types.{dims, typed_text}
use Rattle.expr_type.specs.Typings.{Checked}
use Rattle.order_laws.specs.Meanings.{DimsIf, DimsStand, DimsTyping}
use Rattle.order_laws.specs.Ordered.{dims_tokens, dimension_tokens, select_tokens, selects_tokens}
use Rattle.order_laws.proofs.Expressions.{dimension-in-order, expr-in-order, select-in-order, slice-in-order}
use Rattle.order_laws.proofs.Meant.{Anything, DimensionInOrder, SelectStands}
use Rattle.order_laws.proofs.Operands.{placed-from}
use Rattle.order_laws.proofs.Parts.{PartsInOrder, each-in-row, each-of}
use Rattle.order_laws.proofs.Selects.{dims-typing, selects-in-order, type-named}
use Rattle.order_laws.proofs.TypeTexts.{text-in-order}
use Rattle.order_laws.proofs.Typings.{Each, PlacedAs}

selects-stand : (ss : List Select) (low high : ℕ) → low ≤ high → Ascend low high (selects_tokens ss) → Each SelectStands low high (map select_meaning ss)
selects-stand ss low high h a =
    each-of select_meaning (λ l u s. SelectStands l u (select_meaning s)) SelectStands (λ l u s p. p) ss low high
    (each-in-row select_tokens (λ l u s. SelectStands l u (select_meaning s)) select-in-order ss low high h a)

dims-if : (i low high : ℕ) (x : Checked (List Dim)) → PlacedAs (DimsStand low high) i low high x → DimsIf i low high x
dims-if i low high (Ok d) s = s
dims-if i low high (Err b) s = s

dims-in-order : (ds : List Dimension) (low high : ℕ) → low ≤ high → Ascend low high (dims_tokens ds) → (k : Context) → RoutinesInOrder k → DimsTyping k.source.instance low high (dims k ds)
dims-in-order ds low high h a k rs fs =
    dims-if k.source.instance low high (dims k ds fs).result
    (dims-typing k dimension_meaning ds low high rs (each-in-row dimension_tokens (λ l u d. DimensionInOrder l u (dimension_meaning d)) dimension-in-order ds low high h a) fs)

pub parts : PartsInOrder
parts = record {
  expr = expr-in-order;
  selects = λ ss low high h a. selects-in-order (map select_meaning ss) low high (selects-stand ss low high h a);
  slice = λ z low high h a k rs. placed-from k.source.instance low high Anything (slice_meaning z k) (slice-in-order z low high h a k rs);
  dims = dims-in-order;
  text = λ t low high h a k rs. placed-from k.source.instance low high Anything (typed_text t k) (text-in-order expr-in-order dims-in-order t low high h a k rs);
  named = λ at ss low high h a k rs. type-named k (simple_name at) (map select_meaning ss) low high rs (selects-stand ss low high h a);
}
