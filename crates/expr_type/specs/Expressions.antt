-- Expressions as they are typed, form by form: a rule is applied where the parts are whole.
use Rattle.std.specs.Prelude.{ℕ, true, false, ◌==◌, ◌^◌, ℤ, pos, ◌-ℤ◌, unsigned_abs, List, [], ◌∷◌, map, Option, Some, None, is_none, Ok, cond}
use Rattle.std.specs.Option.{option_map}
use Rattle.sv_tree.specs.Extents.{qualified_first, signing_token}
use Rattle.sv_tree.specs.declared.expressions.Cast.{Cast-F}
use Rattle.sv_tree.specs.declared.expressions.Dimension.{Dimension, Dimension-F, fold-Dimension}
use Rattle.sv_tree.specs.declared.expressions.Expr.{Expr, Expr-F, fold-Expr}
use Rattle.sv_tree.specs.declared.expressions.Pattern.{Pattern-F}
use Rattle.sv_tree.specs.declared.expressions.PatternItem.{PatternItem-F}
use Rattle.sv_tree.specs.declared.expressions.Select.{Select, Select-F, fold-Select}
use Rattle.sv_tree.specs.declared.expressions.SliceSize.{SliceSize, SliceSize-F, fold-SliceSize}
use Rattle.sv_tree.specs.declared.expressions.ValueRange.{ValueRange-F}
use Rattle.sv_tree.specs.declared.names.QualifiedName.{QualifiedName}
use Rattle.sv_tree.specs.declared.operators.PartOperator.{PartOperator}
use Rattle.sv_tree.specs.declared.operators.PartOperator.TheVariants as W
use Rattle.sv_types.specs.declared.expression.Expr as T
use Rattle.sv_types.specs.declared.statement.Function.{Function}
use Rattle.sv_types.specs.declared.types.SvType.{SvType}
use Rattle.sv_types.specs.Layouts.{width_of}
use Rattle.expr_type.specs.Breaks.{Quiet}
use Rattle.expr_type.specs.Typings.{Checked, Typing, whole, broken, rule, by_functions, checked, both, all, where_whole, refused}
use Rattle.expr_type.specs.Names.{Context, Source, position, thing, word}
use Rattle.expr_type.specs.declared.operand.Number.{Number}
use Rattle.expr_type.specs.declared.operand.Valued.{Valued}
use Rattle.expr_type.specs.Operands.{Operand, Plain, Stream, constant_in, given, has_bits, is_constant, is_value, number_of, number_within, parenthesized, unstreamed, value}
use Rattle.expr_type.specs.Operands as V
use Rattle.expr_type.specs.Operators.{Alternative, Only, From, binary_of, unary_of, choice_of, inside_of, concat_of, exprs, repeat_of, is_part}
use Rattle.expr_type.specs.declared.step.Step.{Step}
use Rattle.expr_type.specs.declared.step.Step.TheVariants as S
use Rattle.expr_type.specs.Selects.{bound_in, width_in, index_in, is_index}
use Rattle.expr_type.specs.KeywordTypes.{Dim, keyword_type}
use Rattle.expr_type.specs.Literals as L
use Rattle.expr_type.specs.Forms as F
use Rattle.expr_type.specs.Forms.{Inside, SelectMeaning}
use Rattle.expr_type.specs.Patterns.{Item, ItemKey, InPlace, ByDefault, Named, Numbered, Parts, fitted}
use Rattle.expr_type.specs.TargetNames.{actual_target, packed_target}

-- An expression: as a value; as a type, if it is one; the name that it is, if it is one alone; and as a target.
pub record Meaning : Type 0 where
  pub typed : Context → Typing Operand
  pub as_type : Context → Option (Typing SvType)
  pub alone : Option QualifiedName
  pub as_target : Context → Option (Typing Valued)

abbrev pub no_type : Context → Option (Typing SvType)
no_type k = None

abbrev pub no_target : Context → Option (Typing Valued)
no_target k = None

abbrev pub of_operand : (Context → Typing Operand) → Meaning
of_operand f = record { typed = f; as_type = no_type; alone = None; as_target = no_target }

abbrev pub of_value : (Context → Typing Valued) → Meaning
of_value f = of_operand (λ k. F.plain (f k))

-- the parts of a concatenation
abbrev pub part : Context → Meaning → Typing Valued
part k e = checked (value k.source (e.typed k)) (λ v. rule (is_part k.source v))

abbrev pub parts : Context → List Meaning → Typing (List Valued)
parts k es = all (map (part k) es)

-- how often something is repeated: not zero times (E510)
abbrev pub is_count : Source → Number → Checked ℕ
is_count k n = let c = unsigned_abs n.number in refused (c == 0) (position k n.first) 510 (Ok c)

abbrev pub count : Context → Meaning → Typing ℕ
count k e = checked (number_within k.source (pos 0) F.most_of_size (e.typed k)) (λ n. rule (is_count k.source n))

-- what each part of an expression means
abbrev pub CastMeaning : Type 0
CastMeaning = Context → Typing Inside

abbrev pub DimensionMeaning : Type 0
DimensionMeaning = Context → Typing Dim

abbrev pub PatternMeaning : Type 0
PatternMeaning = Context → Typing Parts

abbrev pub ItemMeaning : Type 0
ItemMeaning = Context → Typing Item

abbrev pub SliceMeaning : Type 0
SliceMeaning = Context → Typing ℕ

abbrev pub RangeMeaning : Type 0
RangeMeaning = Context → Typing Alternative

-- `'(value)` and `'{items}` behind what is cast to
abbrev pub pattern_operand : Context → ℕ → Parts → Operand
pattern_operand k tick p = V.Pattern tick (fitted k tick p)

abbrev pub cast_step : Cast-F CastMeaning DimensionMeaning Meaning PatternMeaning ItemMeaning SelectMeaning SliceMeaning RangeMeaning → CastMeaning
cast_step (Cast-F.«Cast::Value» tick opening value closing) k =
    checked (value.typed k) (λ o. whole (record { tick = tick; is_pattern = false; of = o }))
cast_step (Cast-F.«Cast::Pattern» tick opening pattern closing) k =
    checked (pattern k) (λ p. whole (record { tick = tick; is_pattern = true; of = pattern_operand k tick p }))

-- `[size]` is `[0:size-1]`
abbrev pub most_of_unpacked : ℤ
most_of_unpacked = pos (2 ^ 63) -ℤ pos 1

abbrev pub between : ℕ → Number → Number → Dim
between opening left right = record { opening = opening; left = left.number; right = right.number }

abbrev pub bounds : Context → ℕ → Meaning → Meaning → Typing Dim
bounds k opening left right = both (bound_in k.source (left.typed k)) (bound_in k.source (right.typed k)) (λ l r. whole (between opening l r))

abbrev pub dimension_step : Dimension-F CastMeaning DimensionMeaning Meaning PatternMeaning ItemMeaning SelectMeaning SliceMeaning RangeMeaning → DimensionMeaning
dimension_step (Dimension-F.Size opening size closing) k =
    checked (number_within k.source (pos 1) most_of_unpacked (size.typed k))
    (λ n. whole (record { opening = opening; left = pos 0; right = n.number -ℤ pos 1 }))
dimension_step (Dimension-F.«Dimension::Range» opening left colon right closing) k = bounds k opening left right

-- a cast to what a name stands for: a type or a size
abbrev pub type_of_name : Context → QualifiedName → List SelectMeaning → Option (Typing SvType)
type_of_name k of ss = option_map (λ t. F.dimensioned k.source t (F.dimensions k ss)) (F.type_of_thing (thing k of))

abbrev pub cast_to_name : Context → QualifiedName → List SelectMeaning → CastMeaning → Typing Valued
cast_to_name k of ss c = elim (type_of_name k of ss) [
  | Some t ↦ F.by_type k.source (qualified_first of) t (c k)
  | None ↦ F.by_size k.source (qualified_first of) (F.plain (F.named k of ss)) (c k)
]

abbrev pub name_alone : QualifiedName → List SelectMeaning → Option QualifiedName
name_alone of [] = cond (is_none of.scope) (Some of) None
name_alone of (s ∷ ss) = None

abbrev pub keyword_dimensions : Context → List DimensionMeaning → Typing (List Dim)
keyword_dimensions k ds = all (map (λ (d : DimensionMeaning). d k) ds)

-- a concatenation of targets
abbrev pub if_all : {A : Type 0} → List (Option A) → Option (List A)
if_all [] = Some []
if_all (None ∷ xs) = None
if_all (Some x ∷ xs) = option_map (λ ys. x ∷ ys) (if_all xs)

abbrev pub joined_targets : Context → ℕ → List Meaning → Option (Typing Valued)
joined_targets k opening es =
    option_map (λ xs. checked (all (map (packed_target k.source) xs)) (λ vs. rule (concat_of k.source opening (exprs vs))))
    (if_all (map (λ (e : Meaning). e.as_target k) es))

abbrev pub slice_or_one : Context → Option SliceMeaning → Typing ℕ
slice_or_one k None = whole 1
slice_or_one k (Some z) = z k

-- the arms of `?:`
pub record Arms : Type 0 where
  pub first : Valued
  pub second : Valued

abbrev pub arms : Valued → Valued → Typing Arms
arms first second = whole (record { first = first; second = second })

-- what is passed in a call
abbrev pub actuals : Context → List Meaning → List (Typing Operand)
actuals k es = map (λ (e : Meaning). unstreamed k.source (e.typed k)) es

abbrev pub stream : Context → Valued → Typing Operand
stream k v = whole (Stream v)

abbrev pub expr_step : Expr-F CastMeaning DimensionMeaning Meaning PatternMeaning ItemMeaning SelectMeaning SliceMeaning RangeMeaning → Meaning
expr_step (Expr-F.Conditional test question first colon second) =
    of_value (λ k.
    both (value k.source (test.typed k)) (both (value k.source (first.typed k)) (value k.source (second.typed k)) arms)
    (λ on a. rule (choice_of k.source question on a.first a.second)))
expr_step (Expr-F.Binary left operator at right) =
    of_value (λ k. both (value k.source (left.typed k)) (value k.source (right.typed k)) (λ l r. rule (binary_of operator k.source at l r)))
expr_step (Expr-F.Inside sought keyword opening ranges closing) =
    of_value (λ k. both (value k.source (sought.typed k)) (all (map (λ (r : RangeMeaning). r k) ranges)) (λ v as'. rule (inside_of k.source keyword v as')))
expr_step (Expr-F.Unary operator at operand) = of_value (λ k. checked (value k.source (operand.typed k)) (λ v. rule (unary_of operator k.source at v)))
expr_step (Expr-F.«Expr::Decimal» digits) = of_value (λ k. rule (F.decimal k.source digits))
expr_step (Expr-F.Sized size digits) = of_value (λ k. rule (F.sized_number k.source size digits))
expr_step (Expr-F.SizeCast size cast) = of_value (λ k. F.by_written_size k.source size (cast k))
expr_step (Expr-F.Based digits) = of_value (λ k. rule (F.based k.source digits))
expr_step (Expr-F.Fill digit) = of_value (λ k. rule (F.fill k.source digit))
expr_step (Expr-F.«Expr::Parenthesized» opening inner closing None) =
    of_operand (λ k. checked (inner.typed k) (λ o. whole (parenthesized opening o)))
expr_step (Expr-F.«Expr::Parenthesized» opening inner closing (Some cast)) = of_value (λ k. F.by_size k.source opening (inner.typed k) (cast k))
expr_step (Expr-F.«Expr::Replication» opening times inner_opening items inner_closing closing) =
    of_value (λ k. both (count k times) (parts k items) (λ n vs. rule (repeat_of k.source opening n (exprs vs))))
expr_step (Expr-F.Concatenation opening items closing) =
    record (of_value (λ k. checked (parts k items) (λ vs. rule (concat_of k.source opening (exprs vs))))) { as_target = λ k. joined_targets k opening items }
expr_step (Expr-F.Stream opening operator at size inner_opening items inner_closing closing) =
    of_operand (λ k.
    checked
    (both (slice_or_one k size) (all (map (λ (e : Meaning). F.streamed_part k.source (e.typed k)) items))
    (λ n vs. rule (F.stream_of k.source opening (F.reverses operator) n (exprs vs))))
    (stream k))
expr_step (Expr-F.«Expr::Pattern» tick opening pattern closing) = of_operand (λ k. checked (pattern k) (λ p. whole (pattern_operand k tick p)))
expr_step (Expr-F.Type of packed None) =
    record (of_operand (λ k. broken Quiet)) { as_type = λ k. Some (checked (keyword_dimensions k packed) (λ ds. whole (keyword_type of ds))) }
expr_step (Expr-F.Type of packed (Some cast)) =
    of_value (λ k. F.by_type k.source of.at (checked (keyword_dimensions k packed) (λ ds. whole (keyword_type of ds))) (cast k))
expr_step (Expr-F.SigningCast signing cast) = of_value (λ k. F.by_sign k.source (signing_token signing) (F.is_signed_by signing) (cast k))
expr_step (Expr-F.SystemCall name opening argument closing) =
    of_value (λ k. F.system_call k.source name (argument.as_type k) (argument.typed k))
expr_step (Expr-F.Call of opening arguments closing None) = of_value (λ k. F.call k of (actuals k arguments))
expr_step (Expr-F.Call of opening arguments closing (Some cast)) =
    of_value (λ k. F.by_size k.source (qualified_first of) (F.plain (F.call k of (actuals k arguments))) (cast k))
expr_step (Expr-F.«Expr::Name» of selects None) =
    record {
      typed = λ k. F.plain (F.named k of selects);
      as_type = λ k. type_of_name k of selects;
      alone = name_alone of selects;
      as_target = λ k. Some (actual_target k of selects);
    }
expr_step (Expr-F.«Expr::Name» of selects (Some cast)) = of_value (λ k. cast_to_name k of selects cast)

abbrev pub pattern_step : Pattern-F CastMeaning DimensionMeaning Meaning PatternMeaning ItemMeaning SelectMeaning SliceMeaning RangeMeaning → PatternMeaning
pattern_step (Pattern-F.Items items) k = checked (all (map (λ (i : ItemMeaning). i k) items)) (λ is. whole (record { times = 1; items = is }))
pattern_step (Pattern-F.«Pattern::Replication» times opening items closing) k =
    both (count k times) (all (map (λ (e : Meaning). unstreamed k.source (e.typed k)) items))
    (λ n os. whole (record { times = n; items = map (λ o. record { key = InPlace; value = o }) os }))

-- a key that is no name alone is a constant index
abbrev pub is_key : Source → Valued → List Function → Checked (Option ℤ)
is_key k v fs =
    where_whole (is_constant k v.first fs v.expr (where_whole (has_bits k v) (is_index k))) (λ u. Ok (number_of fs u.expr))

abbrev pub key_number : Context → Meaning → Typing (Option ℤ)
key_number k e = checked (constant_in k.source (e.typed k)) (λ v. by_functions (is_key k.source v))

abbrev pub keyed_item : ItemKey → Operand → Item
keyed_item key o = record { key = key; value = o }

abbrev pub pattern_item_step : PatternItem-F CastMeaning DimensionMeaning Meaning PatternMeaning ItemMeaning SelectMeaning SliceMeaning RangeMeaning → ItemMeaning
pattern_item_step (PatternItem-F.Default keyword colon item) k = checked (unstreamed k.source (item.typed k)) (λ o. whole (keyed_item ByDefault o))
pattern_item_step (PatternItem-F.Keyed key colon item) k = elim key.alone [
  | Some of ↦ checked (unstreamed k.source (item.typed k)) (λ o. whole (keyed_item (Named of) o))
  | None ↦ both (key_number k key) (unstreamed k.source (item.typed k)) (λ n o. whole (keyed_item (Numbered n) o))
]
pattern_item_step (PatternItem-F.«PatternItem::Value» item) k = checked (unstreamed k.source (item.typed k)) (λ o. whole (keyed_item InPlace o))

-- selects, and what they are as dimensions of a type
abbrev pub part_step : PartOperator → Context → ℕ → Meaning → Meaning → Typing Step
part_step W.Range k opening left right = both (bound_in k.source (left.typed k)) (bound_in k.source (right.typed k)) (λ l r. whole (S.Part opening l r))
part_step W.Up k opening left right = both (index_in k.source (left.typed k)) (width_in k.source (right.typed k)) (λ i n. whole (S.Slide opening true i n))
part_step W.Down k opening left right = both (index_in k.source (left.typed k)) (width_in k.source (right.typed k)) (λ i n. whole (S.Slide opening false i n))

abbrev pub part_dimension : PartOperator → Context → ℕ → Meaning → Meaning → Typing Dim
part_dimension W.Range k opening left right = bounds k opening left right
part_dimension W.Up k opening left right = broken Quiet
part_dimension W.Down k opening left right = broken Quiet

abbrev pub select_step : Select-F CastMeaning DimensionMeaning Meaning PatternMeaning ItemMeaning SelectMeaning SliceMeaning RangeMeaning → SelectMeaning
select_step (Select-F.Member dot name) =
    record { member = Some name; step = λ k. whole (S.Member name); dimension = λ k. broken Quiet }
select_step (Select-F.Index opening index closing) = record {
  member = None;
  step = λ k. checked (index_in k.source (index.typed k)) (λ v. whole (S.Index opening v));
  dimension = λ k. broken Quiet;
}
select_step (Select-F.Part opening left operator at right closing) = record {
  member = None;
  step = λ k. part_step operator k opening left right;
  dimension = λ k. part_dimension operator k opening left right;
}

abbrev pub slice_size_step : SliceSize-F CastMeaning DimensionMeaning Meaning PatternMeaning ItemMeaning SelectMeaning SliceMeaning RangeMeaning → SliceMeaning
slice_size_step (SliceSize-F.«SliceSize::Decimal» digits) k = rule (F.slice_of k.source digits (L.decimal (word k.source digits)))
slice_size_step (SliceSize-F.Keyword of) k = rule (F.slice_of k.source of.at (width_of (keyword_type of [])))
slice_size_step (SliceSize-F.«SliceSize::Name» of) k = F.slice_by_name k of
slice_size_step (SliceSize-F.«SliceSize::Parenthesized» opening size closing) k = F.slice_within k.source (size.typed k)

abbrev pub value_range_step : ValueRange-F CastMeaning DimensionMeaning Meaning PatternMeaning ItemMeaning SelectMeaning SliceMeaning RangeMeaning → RangeMeaning
value_range_step (ValueRange-F.«ValueRange::Value» v) k = checked (value k.source (v.typed k)) (λ u. whole (Only u))
value_range_step (ValueRange-F.«ValueRange::Range» opening low colon high closing) k =
    both (value k.source (low.typed k)) (value k.source (high.typed k)) (λ l h. whole (From l h))

abbrev pub meaning : Expr → Meaning
meaning = fold-Expr CastMeaning DimensionMeaning Meaning PatternMeaning ItemMeaning SelectMeaning SliceMeaning RangeMeaning cast_step dimension_step expr_step pattern_step pattern_item_step select_step slice_size_step value_range_step

abbrev pub dimension_meaning : Dimension → DimensionMeaning
dimension_meaning = fold-Dimension CastMeaning DimensionMeaning Meaning PatternMeaning ItemMeaning SelectMeaning SliceMeaning RangeMeaning cast_step dimension_step expr_step pattern_step pattern_item_step select_step slice_size_step value_range_step

abbrev pub select_meaning : Select → SelectMeaning
select_meaning = fold-Select CastMeaning DimensionMeaning Meaning PatternMeaning ItemMeaning SelectMeaning SliceMeaning RangeMeaning cast_step dimension_step expr_step pattern_step pattern_item_step select_step slice_size_step value_range_step

abbrev pub slice_meaning : SliceSize → SliceMeaning
slice_meaning = fold-SliceSize CastMeaning DimensionMeaning Meaning PatternMeaning ItemMeaning SelectMeaning SliceMeaning RangeMeaning cast_step dimension_step expr_step pattern_step pattern_item_step select_step slice_size_step value_range_step

-- An expression as an operand; by itself, or given to a target of a type.
abbrev pub operand : Context → Expr → Typing Operand
operand k e = (meaning e).typed k

abbrev pub given_if : Source → Option SvType → Operand → Checked T.Expr
given_if k None o = where_whole (is_value k o) (λ v. Ok v.expr)
given_if k (Some t) o = given k t o

abbrev pub typed_expr : Context → Expr → Option SvType → Typing T.Expr
typed_expr k e want = checked (operand k e) (λ o. rule (given_if k.source want o))
