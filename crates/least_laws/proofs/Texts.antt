-- The tokens of the tree of a text ascend.
use Rattle.std.proofs.Common.{◌≡◌, ℕ, ◌++◌, List, map, Option, Some, None, sym, ap, ◌∙◌, subst, arith}
use Rattle.std.specs.Prelude.{slice_get}
use Rattle.ll_engine.specs.declared.table.Row.{Row}
use Rattle.ll_engine.specs.declared.tree.Tree.{Tree}
use Rattle.ll_engine.specs.Texts.{IsReading}
use Rattle.sv_source.specs.declared.token.Token.{Token}
use Rattle.sv_tree.specs.Heads as head
use Rattle.sv_tree.specs.Table.{table}
use Rattle.sv_tree.specs.declared.units.SourceTree.{SourceTree}
use Rattle.sv_tree.specs.declared.units.Unit.{Unit as Description}
use Rattle.expr_build.specs.Expressions.{nesting_limit}
use Rattle.sv_build.specs.Reading.{Reads}
use Rattle.expr_type.specs.Names.{RoutineText}
use Rattle.expr_type.specs.Placed.{Ascend}
use Rattle.expr_type.specs.Routines.{named_at, routines}
use Rattle.order_laws.specs.Ordered.{Tokens, in_row, routine_tokens}
use Rattle.order_laws.proofs.Tokens.{split}
use Rattle.least_laws.specs.Trees.{IsPart, Somewhere, unit_tokens, tree_tokens}
use Rattle.least_laws.proofs.Spans.{Spans, conforms, whole-span}
use Rattle.least_laws.proofs.Items.{units-ordered}
use Rattle.least_laws.proofs.Routines.{routines-ascend, named-ascend}

-- the derivation of a text spans it whole
abbrev head_in : Option Row → ℕ
head_in None = 0
head_in (Some row) = row.head

first-head : (h : ℕ) (row : Row) → slice_get table 0 ≡ Some row → row.head ≡ h → head.source_text ≡ h
unfolding table
first-head h row e f = ap head_in e ∙ f

module _ (symbols : List ℕ) (t : Tree) (r : IsReading table symbols nesting_limit t) where
  derivation-spans : Spans head.source_text 0 0 t r.is_text.to
  derivation-spans =
      let c = conforms 0 (omega arith) (omega arith) r.is_text.reads r.within in
      subst (λ (h : ℕ). Spans h 0 0 t r.is_text.to) (sym (first-head r.is_text.head r.is_text.row r.is_text.is_first.is_there r.is_text.is_first.is_of)) (whole-span c.0)

-- the whole tree
pub tree-ascends : (tokens : List Token) (tree : SourceTree) → Reads tokens tree → Somewhere (tree_tokens tree)
tree-ascends tokens tree r =
    let s = derivation-spans _ r.derivation r.is_reading in (
      0,
      r.is_reading.is_text.to,
      omega arith,
      subst (λ (us : List Description). Ascend 0 r.is_reading.is_text.to (in_row (map unit_tokens us))) (sym r.means)
          (units-ordered 0 r.derivation 0 r.is_reading.is_text.to 0 r.is_reading.is_text.to s (omega arith) (omega arith)),
    )

-- what stands in the tree in one piece
pub part-ascends : (tokens : List Token) (tree : SourceTree) (ts : Tokens) → Reads tokens tree → IsPart ts tree → Somewhere ts
part-ascends tokens tree ts r p =
    let w = tree-ascends tokens tree r in
    let a = split p.0 (ts ++ p.1) w.0 w.1 w.2 (subst (λ (us : Tokens). Ascend w.0 w.1 us) p.2 w.3) in
    let b = split ts p.1 a.between w.1 a.to a.behind in
    (a.between, b.between, b.from, b.before)

-- each function and task
pub routine-ascends : (tokens : List Token) (tree : SourceTree) (at : ℕ) (t : RoutineText) → Reads tokens tree → named_at at (routines tree) ≡ Some t → Somewhere (routine_tokens t)
routine-ascends tokens tree at t r e =
    let w = tree-ascends tokens tree r in
    named-ascend at (routines tree) t (routines-ascend tree w.0 w.1 w.2 w.3) e
