-- Parts of expressions as they are typed: the arms of `expr_type` over whole texts.
use Rattle.std.specs.Prelude.{ℕ, List, map, Option}
use Rattle.std.specs.Option.{option_map}
use Rattle.sv_tree.specs.Extents.{signing_token}
use Rattle.sv_tree.specs.declared.expressions.Cast.{Cast, fold-Cast}
use Rattle.sv_tree.specs.declared.expressions.Dimension.{Dimension}
use Rattle.sv_tree.specs.declared.expressions.Expr.{Expr}
use Rattle.sv_tree.specs.declared.expressions.Pattern.{Pattern, fold-Pattern}
use Rattle.sv_tree.specs.declared.expressions.Select.{Select}
use Rattle.sv_tree.specs.declared.expressions.SliceSize.{SliceSize}
use Rattle.sv_tree.specs.declared.expressions.ValueRange.{ValueRange, fold-ValueRange}
use Rattle.sv_tree.specs.declared.names.QualifiedName.{QualifiedName}
use Rattle.sv_tree.specs.declared.names.Signing.{Signing}
use Rattle.sv_tree.specs.declared.operators.StreamOperator.{StreamOperator}
use Rattle.sv_tree.specs.declared.types.KeywordType.{KeywordType}
use Rattle.sv_types.specs.declared.types.SvType.{SvType}
use Rattle.expr_type.specs.declared.operand.Valued.{Valued}
use Rattle.expr_type.specs.Expressions as E
use Rattle.expr_type.specs.Expressions.{Meaning, CastMeaning, DimensionMeaning, PatternMeaning, ItemMeaning, SliceMeaning, RangeMeaning, actuals, dimension_meaning, meaning, select_meaning, slice_meaning, slice_or_one}
use Rattle.expr_type.specs.Forms as F
use Rattle.expr_type.specs.Forms.{Inside, SelectMeaning}
use Rattle.expr_type.specs.KeywordTypes.{Dim, keyword_type}
use Rattle.expr_type.specs.Names.{Context}
use Rattle.expr_type.specs.Operands.{Operand}
use Rattle.expr_type.specs.Operators.{exprs, inside_of}
use Rattle.expr_type.specs.Typings.{Typing, all, both, checked, rule, whole}
use Rattle.typing_values.specs.Values.{value_of}

abbrev pub range_meaning : ValueRange → RangeMeaning
range_meaning = fold-ValueRange CastMeaning DimensionMeaning Meaning PatternMeaning ItemMeaning SelectMeaning SliceMeaning RangeMeaning E.cast_step E.dimension_step E.expr_step E.pattern_step E.pattern_item_step E.select_step E.slice_size_step E.value_range_step

abbrev pub cast_meaning : Cast → CastMeaning
cast_meaning = fold-Cast CastMeaning DimensionMeaning Meaning PatternMeaning ItemMeaning SelectMeaning SliceMeaning RangeMeaning E.cast_step E.dimension_step E.expr_step E.pattern_step E.pattern_item_step E.select_step E.slice_size_step E.value_range_step

abbrev pub pattern_meaning : Pattern → PatternMeaning
pattern_meaning = fold-Pattern CastMeaning DimensionMeaning Meaning PatternMeaning ItemMeaning SelectMeaning SliceMeaning RangeMeaning E.cast_step E.dimension_step E.expr_step E.pattern_step E.pattern_item_step E.select_step E.slice_size_step E.value_range_step

abbrev pub inside : Context → ℕ → Expr → List ValueRange → Typing Valued
inside k at v rs = both (value_of k v) (all (map (λ r. range_meaning r k) rs)) (λ u as'. rule (inside_of k.source at u as'))

abbrev pub dimensions_of : Context → List Dimension → Typing (List Dim)
dimensions_of k ds = all (map (λ d. dimension_meaning d k) ds)

abbrev pub type_of_word : Context → KeywordType → List Dimension → Typing SvType
type_of_word k of ds = checked (dimensions_of k ds) (λ d. whole (keyword_type of d))

abbrev pub dimensioned : Context → SvType → List Select → Typing SvType
dimensioned k t ss = F.dimensioned k.source t (F.dimensions k (map select_meaning ss))

abbrev pub named_path : Context → QualifiedName → List Select → Typing Valued
named_path k of ss = F.named k of (map select_meaning ss)

abbrev pub by_size : Context → ℕ → Typing Operand → Cast → Typing Valued
by_size k first x c = F.by_size k.source first x (cast_meaning c k)

abbrev pub by_written_size : Context → ℕ → Cast → Typing Valued
by_written_size k at c = F.by_written_size k.source at (cast_meaning c k)

abbrev pub by_sign : Context → Signing → Cast → Typing Valued
by_sign k s c = F.by_sign k.source (signing_token s) (F.is_signed_by s) (cast_meaning c k)

abbrev pub to_word : Context → KeywordType → List Dimension → Cast → Typing Valued
to_word k of ds c = F.by_type k.source of.at (type_of_word k of ds) (cast_meaning c k)

abbrev pub to_name : Context → QualifiedName → List Select → Cast → Typing Valued
to_name k of ss c = E.cast_to_name k of (map select_meaning ss) (cast_meaning c)

abbrev pub call : Context → QualifiedName → List Expr → Typing Valued
call k of es = F.call k of (actuals k (map meaning es))

abbrev pub system_call : Context → ℕ → Expr → Typing Valued
system_call k name e = F.system_call k.source name ((meaning e).as_type k) ((meaning e).typed k)

abbrev pub stream : Context → ℕ → StreamOperator → Option SliceSize → List Expr → Typing Valued
stream k opening operator size es =
    both (slice_or_one k (option_map slice_meaning size)) (all (map (λ (e : Meaning). F.streamed_part k.source (e.typed k)) (map meaning es)))
    (λ n vs. rule (F.stream_of k.source opening (F.reverses operator) n (exprs vs)))
