-- The tokens of trees, level by level.
use Rattle.std.proofs.Common.{◌≡◌, ℕ, List, ◌++◌, rules, sym, ap, ◌∙◌, subst}
use Rattle.sv_tree.specs.declared.expressions.Cast.{Cast, Cast-F, roll-Cast, map-Cast, fold-roll-Cast}
use Rattle.sv_tree.specs.declared.expressions.Dimension.{Dimension, Dimension-F, roll-Dimension, map-Dimension, fold-roll-Dimension}
use Rattle.sv_tree.specs.declared.expressions.Expr.{Expr, Expr-F, roll-Expr, map-Expr, fold-roll-Expr}
use Rattle.sv_tree.specs.declared.expressions.Pattern.{Pattern, Pattern-F, roll-Pattern, map-Pattern, fold-roll-Pattern}
use Rattle.sv_tree.specs.declared.expressions.PatternItem.{PatternItem, PatternItem-F, roll-PatternItem, map-PatternItem, fold-roll-PatternItem}
use Rattle.sv_tree.specs.declared.expressions.Select.{Select, Select-F, roll-Select, map-Select, fold-roll-Select}
use Rattle.sv_tree.specs.declared.expressions.SliceSize.{SliceSize, SliceSize-F, roll-SliceSize, map-SliceSize, fold-roll-SliceSize}
use Rattle.sv_tree.specs.declared.expressions.ValueRange.{ValueRange, ValueRange-F, roll-ValueRange, map-ValueRange, fold-roll-ValueRange}
use Rattle.sv_tree.specs.declared.statements.BlockItem.{BlockItem, BlockItem-F, roll-BlockItem, map-BlockItem, fold-roll-BlockItem}
use Rattle.sv_tree.specs.declared.statements.CaseItem.{CaseItem, CaseItem-F, roll-CaseItem, map-CaseItem, fold-roll-CaseItem}
use Rattle.sv_tree.specs.declared.statements.Else.{Else}
use Rattle.sv_tree.specs.declared.statements.Lvalue.{Lvalue, Lvalue-F, roll-Lvalue, map-Lvalue, fold-roll-Lvalue}
use Rattle.sv_tree.specs.declared.statements.Stmt.{Stmt, Stmt-F, roll-Stmt, map-Stmt, fold-roll-Stmt}
use Rattle.sv_tree.specs.declared.statements.Stmt as A
use Rattle.sv_tree.specs.declared.types.Member.{Member}
use Rattle.sv_tree.specs.declared.types.TypeText.{TypeText, TypeText-F, roll-TypeText, map-TypeText, fold-roll-TypeText, the_lemmas}
use Rattle.expr_type.specs.Placed.{Ascend}
use Rattle.order_laws.specs.Ordered as O
use Rattle.order_laws.specs.Ordered.{Tokens, cast_tokens, dimension_tokens, expr_tokens, pattern_tokens, pattern_item_tokens, select_tokens, slice_tokens, range_tokens, fields_tokens, type_tokens, member_tokens, lvalue_tokens, block_item_tokens, case_item_tokens, stmt_tokens, else_tokens}

pub as-tokens : (lo hi : ℕ) {ts us : List ℕ} → ts ≡ us → Ascend lo hi us → Ascend lo hi ts
as-tokens lo hi e a = subst (λ vs. Ascend lo hi vs) (sym e) a

-- expressions and their parts
pub cast-is : {e : Cast} (lo hi : ℕ) (z : Cast-F Cast Dimension Expr Pattern PatternItem Select SliceSize ValueRange) → roll-Cast z ≡ e
    → Ascend lo hi (O.cast_step (map-Cast Cast Dimension Expr Pattern PatternItem Select SliceSize ValueRange Tokens Tokens Tokens Tokens Tokens Tokens Tokens Tokens cast_tokens dimension_tokens expr_tokens pattern_tokens pattern_item_tokens select_tokens slice_tokens range_tokens z)) → Ascend lo hi (cast_tokens e)
cast-is lo hi z r a = as-tokens lo hi (ap cast_tokens (sym r) ∙ fold-roll-Cast Tokens Tokens Tokens Tokens Tokens Tokens Tokens Tokens O.cast_step O.dimension_step O.expr_step O.pattern_step O.pattern_item_step O.select_step O.slice_step O.range_step z) a

pub dimension-is : {e : Dimension} (lo hi : ℕ) (z : Dimension-F Cast Dimension Expr Pattern PatternItem Select SliceSize ValueRange) → roll-Dimension z ≡ e
    → Ascend lo hi (O.dimension_step (map-Dimension Cast Dimension Expr Pattern PatternItem Select SliceSize ValueRange Tokens Tokens Tokens Tokens Tokens Tokens Tokens Tokens cast_tokens dimension_tokens expr_tokens pattern_tokens pattern_item_tokens select_tokens slice_tokens range_tokens z)) → Ascend lo hi (dimension_tokens e)
dimension-is lo hi z r a = as-tokens lo hi (ap dimension_tokens (sym r) ∙ fold-roll-Dimension Tokens Tokens Tokens Tokens Tokens Tokens Tokens Tokens O.cast_step O.dimension_step O.expr_step O.pattern_step O.pattern_item_step O.select_step O.slice_step O.range_step z) a

pub expr-is : {e : Expr} (lo hi : ℕ) (z : Expr-F Cast Dimension Expr Pattern PatternItem Select SliceSize ValueRange) → roll-Expr z ≡ e
    → Ascend lo hi (O.expr_step (map-Expr Cast Dimension Expr Pattern PatternItem Select SliceSize ValueRange Tokens Tokens Tokens Tokens Tokens Tokens Tokens Tokens cast_tokens dimension_tokens expr_tokens pattern_tokens pattern_item_tokens select_tokens slice_tokens range_tokens z)) → Ascend lo hi (expr_tokens e)
expr-is lo hi z r a = as-tokens lo hi (ap expr_tokens (sym r) ∙ fold-roll-Expr Tokens Tokens Tokens Tokens Tokens Tokens Tokens Tokens O.cast_step O.dimension_step O.expr_step O.pattern_step O.pattern_item_step O.select_step O.slice_step O.range_step z) a

pub pattern-is : {e : Pattern} (lo hi : ℕ) (z : Pattern-F Cast Dimension Expr Pattern PatternItem Select SliceSize ValueRange) → roll-Pattern z ≡ e
    → Ascend lo hi (O.pattern_step (map-Pattern Cast Dimension Expr Pattern PatternItem Select SliceSize ValueRange Tokens Tokens Tokens Tokens Tokens Tokens Tokens Tokens cast_tokens dimension_tokens expr_tokens pattern_tokens pattern_item_tokens select_tokens slice_tokens range_tokens z)) → Ascend lo hi (pattern_tokens e)
pattern-is lo hi z r a = as-tokens lo hi (ap pattern_tokens (sym r) ∙ fold-roll-Pattern Tokens Tokens Tokens Tokens Tokens Tokens Tokens Tokens O.cast_step O.dimension_step O.expr_step O.pattern_step O.pattern_item_step O.select_step O.slice_step O.range_step z) a

pub pattern-item-is : {e : PatternItem} (lo hi : ℕ) (z : PatternItem-F Cast Dimension Expr Pattern PatternItem Select SliceSize ValueRange) → roll-PatternItem z ≡ e
    → Ascend lo hi (O.pattern_item_step (map-PatternItem Cast Dimension Expr Pattern PatternItem Select SliceSize ValueRange Tokens Tokens Tokens Tokens Tokens Tokens Tokens Tokens cast_tokens dimension_tokens expr_tokens pattern_tokens pattern_item_tokens select_tokens slice_tokens range_tokens z)) → Ascend lo hi (pattern_item_tokens e)
pattern-item-is lo hi z r a = as-tokens lo hi (ap pattern_item_tokens (sym r) ∙ fold-roll-PatternItem Tokens Tokens Tokens Tokens Tokens Tokens Tokens Tokens O.cast_step O.dimension_step O.expr_step O.pattern_step O.pattern_item_step O.select_step O.slice_step O.range_step z) a

pub select-is : {e : Select} (lo hi : ℕ) (z : Select-F Cast Dimension Expr Pattern PatternItem Select SliceSize ValueRange) → roll-Select z ≡ e
    → Ascend lo hi (O.select_step (map-Select Cast Dimension Expr Pattern PatternItem Select SliceSize ValueRange Tokens Tokens Tokens Tokens Tokens Tokens Tokens Tokens cast_tokens dimension_tokens expr_tokens pattern_tokens pattern_item_tokens select_tokens slice_tokens range_tokens z)) → Ascend lo hi (select_tokens e)
select-is lo hi z r a = as-tokens lo hi (ap select_tokens (sym r) ∙ fold-roll-Select Tokens Tokens Tokens Tokens Tokens Tokens Tokens Tokens O.cast_step O.dimension_step O.expr_step O.pattern_step O.pattern_item_step O.select_step O.slice_step O.range_step z) a

pub slice-is : {e : SliceSize} (lo hi : ℕ) (z : SliceSize-F Cast Dimension Expr Pattern PatternItem Select SliceSize ValueRange) → roll-SliceSize z ≡ e
    → Ascend lo hi (O.slice_step (map-SliceSize Cast Dimension Expr Pattern PatternItem Select SliceSize ValueRange Tokens Tokens Tokens Tokens Tokens Tokens Tokens Tokens cast_tokens dimension_tokens expr_tokens pattern_tokens pattern_item_tokens select_tokens slice_tokens range_tokens z)) → Ascend lo hi (slice_tokens e)
slice-is lo hi z r a = as-tokens lo hi (ap slice_tokens (sym r) ∙ fold-roll-SliceSize Tokens Tokens Tokens Tokens Tokens Tokens Tokens Tokens O.cast_step O.dimension_step O.expr_step O.pattern_step O.pattern_item_step O.select_step O.slice_step O.range_step z) a

pub range-is : {e : ValueRange} (lo hi : ℕ) (z : ValueRange-F Cast Dimension Expr Pattern PatternItem Select SliceSize ValueRange) → roll-ValueRange z ≡ e
    → Ascend lo hi (O.range_step (map-ValueRange Cast Dimension Expr Pattern PatternItem Select SliceSize ValueRange Tokens Tokens Tokens Tokens Tokens Tokens Tokens Tokens cast_tokens dimension_tokens expr_tokens pattern_tokens pattern_item_tokens select_tokens slice_tokens range_tokens z)) → Ascend lo hi (range_tokens e)
range-is lo hi z r a = as-tokens lo hi (ap range_tokens (sym r) ∙ fold-roll-ValueRange Tokens Tokens Tokens Tokens Tokens Tokens Tokens Tokens O.cast_step O.dimension_step O.expr_step O.pattern_step O.pattern_item_step O.select_step O.slice_step O.range_step z) a

-- types
pub type-is : {e : TypeText} (lo hi : ℕ) (z : TypeText-F TypeText Member) → roll-TypeText z ≡ e → Ascend lo hi (O.type_step (map-TypeText TypeText Member Tokens Tokens type_tokens member_tokens z))
    → Ascend lo hi (type_tokens e)
type-is lo hi z r a = as-tokens lo hi (ap type_tokens (sym r) ∙ fold-roll-TypeText Tokens Tokens O.type_step O.member_step z) a

pub member-level : (m : Member) → member_tokens m ≡ type_tokens m.of ++ fields_tokens m.names
member-level m = search (rules, the_lemmas)

-- targets
pub lvalue-is : {e : Lvalue} (lo hi : ℕ) (z : Lvalue-F Lvalue) → roll-Lvalue z ≡ e → Ascend lo hi (O.lvalue_step (map-Lvalue Lvalue Tokens lvalue_tokens z)) → Ascend lo hi (lvalue_tokens e)
lvalue-is lo hi z r a = as-tokens lo hi (ap lvalue_tokens (sym r) ∙ fold-roll-Lvalue Tokens O.lvalue_step z) a

-- statements, and items of blocks and of `case`
pub item-is : {e : BlockItem} (lo hi : ℕ) (z : BlockItem-F BlockItem CaseItem Stmt Else) → roll-BlockItem z ≡ e
    → Ascend lo hi (O.item_step (map-BlockItem BlockItem CaseItem Stmt Else Tokens Tokens Tokens Tokens block_item_tokens case_item_tokens stmt_tokens else_tokens z)) → Ascend lo hi (block_item_tokens e)
item-is lo hi z r a = as-tokens lo hi (ap block_item_tokens (sym r) ∙ fold-roll-BlockItem Tokens Tokens Tokens Tokens O.item_step O.case_step O.stmt_step O.else_step z) a

pub case-is : {e : CaseItem} (lo hi : ℕ) (z : CaseItem-F BlockItem CaseItem Stmt Else) → roll-CaseItem z ≡ e
    → Ascend lo hi (O.case_step (map-CaseItem BlockItem CaseItem Stmt Else Tokens Tokens Tokens Tokens block_item_tokens case_item_tokens stmt_tokens else_tokens z)) → Ascend lo hi (case_item_tokens e)
case-is lo hi z r a = as-tokens lo hi (ap case_item_tokens (sym r) ∙ fold-roll-CaseItem Tokens Tokens Tokens Tokens O.item_step O.case_step O.stmt_step O.else_step z) a

pub stmt-is : {e : Stmt} (lo hi : ℕ) (z : Stmt-F BlockItem CaseItem Stmt Else) → roll-Stmt z ≡ e
    → Ascend lo hi (O.stmt_step (map-Stmt BlockItem CaseItem Stmt Else Tokens Tokens Tokens Tokens block_item_tokens case_item_tokens stmt_tokens else_tokens z)) → Ascend lo hi (stmt_tokens e)
stmt-is lo hi z r a = as-tokens lo hi (ap stmt_tokens (sym r) ∙ fold-roll-Stmt Tokens Tokens Tokens Tokens O.item_step O.case_step O.stmt_step O.else_step z) a

pub else-level : (e : Else) → else_tokens e ≡ stmt_tokens e.body
else-level e = search (rules, A.the_lemmas)
