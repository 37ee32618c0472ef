-- What happens to names in expressions.
use Rattle.std.specs.Prelude.{ℕ, Bool, true, false, ◌&&◌, List, [], ◌∷◌, map, Option, Some, None, is_none, is_some}
use Rattle.std.specs.Option.{option_map}
use Rattle.sv_tree.specs.declared.expressions.Cast.{Cast, Cast-F, fold-Cast}
use Rattle.sv_tree.specs.declared.expressions.Dimension.{Dimension, Dimension-F, fold-Dimension}
use Rattle.sv_tree.specs.declared.expressions.Expr.{Expr, Expr-F, fold-Expr}
use Rattle.sv_tree.specs.declared.expressions.Pattern.{Pattern, Pattern-F, fold-Pattern}
use Rattle.sv_tree.specs.declared.expressions.PatternItem.{PatternItem, PatternItem-F, fold-PatternItem}
use Rattle.sv_tree.specs.declared.expressions.Select.{Select, Select-F, fold-Select}
use Rattle.sv_tree.specs.declared.expressions.SliceSize.{SliceSize, SliceSize-F, fold-SliceSize}
use Rattle.sv_tree.specs.declared.expressions.ValueRange.{ValueRange, ValueRange-F, fold-ValueRange}
use Rattle.sv_tree.specs.declared.names.PackageScope.{PackageScope}
use Rattle.sv_tree.specs.declared.names.QualifiedName.{QualifiedName}
use Rattle.sv_tree.specs.declared.operators.PartOperator.{PartOperator}
use Rattle.sv_tree.specs.declared.operators.PartOperator.TheVariants.{Range, Up, Down}
use Rattle.name_events.specs.declared.events.Event.TheVariants as E
use Rattle.name_events.specs.declared.events.Role.{Role}
use Rattle.name_events.specs.declared.events.Role.TheVariants as R
use Rattle.name_events.specs.declared.events.SelectKind.{SelectKind}
use Rattle.name_events.specs.declared.events.SelectKind.TheVariants as K
use Rattle.name_events.specs.declared.events.SelectPath.{SelectPath}
use Rattle.name_events.specs.declared.events.SelectPath.TheVariants as P
use Rattle.name_events.specs.declared.expressions.Position.{Position}
use Rattle.name_events.specs.declared.expressions.Position.TheVariants as Q
use Rattle.name_events.specs.declared.dimensions.Dimensioned.{Dimensioned}
use Rattle.name_events.specs.declared.dimensions.Dimensioned.TheVariants as D
use Rattle.name_events.specs.Steps.{Part, put, nothing, in_turn, maybe, wrong}

-- a dimension without a second bound is wrong where a packed one stands
abbrev pub one_bound : ℕ → Dimensioned → Part
one_bound opening D.Unpacked = nothing
one_bound opening D.Packed = wrong opening
one_bound opening (D.PackedName name) = wrong name

-- a select: its first token, its kind, and what happens in it
pub record SelectMeaning : Type 0 where
  pub first : ℕ
  pub kind : SelectKind
  pub part : Part

abbrev pub part_kind : PartOperator → SelectKind
part_kind Range = K.Range
part_kind Up = K.Other
part_kind Down = K.Other

-- the package before a name
abbrev pub package_in : Option PackageScope → Option ℕ
package_in None = None
package_in (Some scope) = Some scope.package

abbrev pub all_ranges : List SelectKind → Bool
all_ranges [] = true
all_ranges (K.Range ∷ ks) = all_ranges ks
all_ranges (K.Member ∷ ks) = false
all_ranges (K.Other ∷ ks) = false

abbrev pub ranges_or_other : Bool → SelectPath
ranges_or_other true = P.Ranges
ranges_or_other false = P.Other

abbrev pub path_of : List SelectKind → SelectPath
path_of [] = P.Alone
path_of (K.Member ∷ ks) = P.Member
path_of (K.Range ∷ ks) = ranges_or_other (all_ranges ks)
path_of (K.Other ∷ ks) = P.Other

abbrev pub is_alone : SelectPath → Bool
is_alone P.Alone = true
is_alone _ = false

abbrev pub uses_path : QualifiedName → Role → SelectPath → Part
uses_path of role path = put (E.Uses (package_in of.scope) of.name role path)

-- A name alone as a pattern's key is the name of a member or a constant, by the pattern's type.
abbrev pub key_role : Bool → Role
key_role true = R.Key
key_role false = R.Value

abbrev pub name_in : Position → QualifiedName → SelectPath → Part
name_in Q.Value of path = uses_path of R.Value path
name_in Q.ValueOrType of path = uses_path of R.ValueOrType path
name_in (Q.Argument function) of path = uses_path of (R.Argument function) path
name_in Q.Key of path = uses_path of (key_role (is_none of.scope && is_alone path)) path
name_in Q.Connection of path = uses_path of R.Connection path

-- what stands before a cast is a type or a size
abbrev pub named : Bool → Position → QualifiedName → SelectPath → Part
named true position of path = uses_path of R.ValueOrType path
named false position of path = name_in position of path

-- a type by a word stands where a value may or may not stand
abbrev pub type_alone : ℕ → Position → Part
type_alone at Q.Value = wrong at
type_alone at Q.ValueOrType = nothing
type_alone at (Q.Argument function) = put (E.TypeArgument function at)
type_alone at Q.Key = wrong at
type_alone at Q.Connection = wrong at

abbrev pub type_word : Bool → ℕ → Position → Part
type_word true at position = nothing
type_word false at position = type_alone at position

-- behind a type's name ranges are packed dimensions, so that the type has to be packed
abbrev pub packs_under : SelectPath → ℕ → ℕ → Part
packs_under P.Ranges of at = put (E.Packs of at)
packs_under P.Alone of at = nothing
packs_under P.Member of at = nothing
packs_under P.Other of at = nothing

abbrev pub first_of_selects : List ℕ → ℕ
first_of_selects [] = 0
first_of_selects (x ∷ xs) = x

-- parts of a list
abbrev pub values : List (Position → Part) → Part
values [] to = to
values (e ∷ es) to = values es (e Q.Value to)

abbrev pub dimensions_in : Dimensioned → List (Dimensioned → Part) → Part
dimensions_in of [] to = to
dimensions_in of (d ∷ ds) to = dimensions_in of ds (d of to)

abbrev pub selects_in : List SelectMeaning → Part
selects_in [] to = to
selects_in (s ∷ ss) to = selects_in ss (s.part to)

abbrev pub kinds : List SelectMeaning → List SelectKind
kinds ss = map (λ (s : SelectMeaning). s.kind) ss

abbrev pub firsts : List SelectMeaning → List ℕ
firsts ss = map (λ (s : SelectMeaning). s.first) ss

abbrev pub with_selects : ℕ → List SelectMeaning → Part
with_selects name ss to = selects_in ss (packs_under (path_of (kinds ss)) name (first_of_selects (firsts ss)) to)

abbrev pub cast_step : Cast-F Part (Dimensioned → Part) (Position → Part) Part Part SelectMeaning Part Part → Part
cast_step (Cast-F.«Cast::Value» tick opening value closing) = value Q.Value
cast_step (Cast-F.«Cast::Pattern» tick opening pattern closing) = pattern

abbrev pub dimension_step : Dimension-F Part (Dimensioned → Part) (Position → Part) Part Part SelectMeaning Part Part → Dimensioned → Part
dimension_step (Dimension-F.Size opening size closing) of to = size Q.Value (one_bound opening of to)
dimension_step (Dimension-F.«Dimension::Range» opening left colon right closing) of to = right Q.Value (left Q.Value to)

abbrev pub expr_step : Expr-F Part (Dimensioned → Part) (Position → Part) Part Part SelectMeaning Part Part → Position → Part
expr_step (Expr-F.Conditional test question first colon second) p to = second Q.Value (first Q.Value (test Q.Value to))
expr_step (Expr-F.Binary left operator at right) p to = right Q.Value (left Q.Value to)
expr_step (Expr-F.Inside value keyword opening ranges closing) p to = value Q.Value (in_turn ranges to)
expr_step (Expr-F.Unary operator at operand) p to = operand Q.Value to
expr_step (Expr-F.«Expr::Decimal» digits) p to = to
expr_step (Expr-F.Sized size digits) p to = to
expr_step (Expr-F.SizeCast size cast) p to = cast to
expr_step (Expr-F.Based digits) p to = to
expr_step (Expr-F.Fill digit) p to = to
expr_step (Expr-F.«Expr::Parenthesized» opening value closing cast) p to = maybe cast (value Q.Value to)
expr_step (Expr-F.«Expr::Replication» opening count inner_opening items inner_closing closing) p to = count Q.Value (values items to)
expr_step (Expr-F.Concatenation opening items closing) p to = values items to
expr_step (Expr-F.Stream opening operator at size inner_opening items inner_closing closing) p to = values items (maybe size to)
expr_step (Expr-F.«Expr::Pattern» tick opening pattern closing) p to = pattern to
expr_step (Expr-F.Type of packed cast) p to = maybe cast (dimensions_in D.Packed packed (type_word (is_some cast) of.at p to))
expr_step (Expr-F.SigningCast signing cast) p to = cast to
expr_step (Expr-F.SystemCall name opening argument closing) p to = argument (Q.Argument name) to
expr_step (Expr-F.Call of opening arguments closing cast) p to = maybe cast (values arguments (uses_path of R.Call P.Alone to))
expr_step (Expr-F.«Expr::Name» of selects cast) p to = maybe cast (with_selects of.name selects (named (is_some cast) p of (path_of (kinds selects)) to))

abbrev pub pattern_step : Pattern-F Part (Dimensioned → Part) (Position → Part) Part Part SelectMeaning Part Part → Part
pattern_step (Pattern-F.Items items) to = in_turn items to
pattern_step (Pattern-F.«Pattern::Replication» count opening items closing) to = count Q.Value (values items to)

abbrev pub pattern_item_step : PatternItem-F Part (Dimensioned → Part) (Position → Part) Part Part SelectMeaning Part Part → Part
pattern_item_step (PatternItem-F.Default keyword colon value) to = value Q.Value to
pattern_item_step (PatternItem-F.Keyed key colon value) to = value Q.Value (key Q.Key to)
pattern_item_step (PatternItem-F.«PatternItem::Value» value) to = value Q.Value to

abbrev pub means : ℕ → SelectKind → Part → SelectMeaning
means first kind part = record { first = first; kind = kind; part = part }

abbrev pub select_step : Select-F Part (Dimensioned → Part) (Position → Part) Part Part SelectMeaning Part Part → SelectMeaning
select_step (Select-F.Member dot name) = means dot K.Member nothing
select_step (Select-F.Index opening index closing) = means opening K.Other (index Q.Value)
select_step (Select-F.Part opening left operator at right closing) = means opening (part_kind operator) (λ to. right Q.Value (left Q.Value to))

abbrev pub slice_size_step : SliceSize-F Part (Dimensioned → Part) (Position → Part) Part Part SelectMeaning Part Part → Part
slice_size_step (SliceSize-F.«SliceSize::Decimal» digits) to = to
slice_size_step (SliceSize-F.Keyword of) to = to
slice_size_step (SliceSize-F.«SliceSize::Name» of) to = uses_path of R.ValueOrType P.Alone to
slice_size_step (SliceSize-F.«SliceSize::Parenthesized» opening value closing) to = value Q.Value to

abbrev pub value_range_step : ValueRange-F Part (Dimensioned → Part) (Position → Part) Part Part SelectMeaning Part Part → Part
value_range_step (ValueRange-F.«ValueRange::Value» value) to = value Q.Value to
value_range_step (ValueRange-F.«ValueRange::Range» opening low colon high closing) to = high Q.Value (low Q.Value to)

abbrev pub expr_events : Expr → Position → Part
expr_events = fold-Expr Part (Dimensioned → Part) (Position → Part) Part Part SelectMeaning Part Part cast_step dimension_step expr_step pattern_step pattern_item_step select_step slice_size_step value_range_step

abbrev pub cast_events : Cast → Part
cast_events = fold-Cast Part (Dimensioned → Part) (Position → Part) Part Part SelectMeaning Part Part cast_step dimension_step expr_step pattern_step pattern_item_step select_step slice_size_step value_range_step

abbrev pub dimension_events : Dimension → Dimensioned → Part
dimension_events = fold-Dimension Part (Dimensioned → Part) (Position → Part) Part Part SelectMeaning Part Part cast_step dimension_step expr_step pattern_step pattern_item_step select_step slice_size_step value_range_step

abbrev pub pattern_events : Pattern → Part
pattern_events = fold-Pattern Part (Dimensioned → Part) (Position → Part) Part Part SelectMeaning Part Part cast_step dimension_step expr_step pattern_step pattern_item_step select_step slice_size_step value_range_step

abbrev pub pattern_item_events : PatternItem → Part
pattern_item_events = fold-PatternItem Part (Dimensioned → Part) (Position → Part) Part Part SelectMeaning Part Part cast_step dimension_step expr_step pattern_step pattern_item_step select_step slice_size_step value_range_step

abbrev pub select_meaning : Select → SelectMeaning
select_meaning = fold-Select Part (Dimensioned → Part) (Position → Part) Part Part SelectMeaning Part Part cast_step dimension_step expr_step pattern_step pattern_item_step select_step slice_size_step value_range_step

abbrev pub slice_size_events : SliceSize → Part
slice_size_events = fold-SliceSize Part (Dimensioned → Part) (Position → Part) Part Part SelectMeaning Part Part cast_step dimension_step expr_step pattern_step pattern_item_step select_step slice_size_step value_range_step

abbrev pub value_range_events : ValueRange → Part
value_range_events = fold-ValueRange Part (Dimensioned → Part) (Position → Part) Part Part SelectMeaning Part Part cast_step dimension_step expr_step pattern_step pattern_item_step select_step slice_size_step value_range_step

abbrev pub expressions : List Expr → Part
expressions es = values (map expr_events es)

abbrev pub dimensions : Dimensioned → List Dimension → Part
dimensions of ds = dimensions_in of (map dimension_events ds)

abbrev pub selects : List Select → Part
selects ss = selects_in (map select_meaning ss)

abbrev pub select_kind : Select → SelectKind
select_kind s = (select_meaning s).kind

abbrev pub select_first : Select → ℕ
select_first s = (select_meaning s).first

abbrev pub first_select : List Select → ℕ
first_select ss = first_of_selects (firsts (map select_meaning ss))

abbrev pub select_path : List Select → SelectPath
select_path ss = path_of (kinds (map select_meaning ss))

-- the selects behind a name
abbrev pub selects_behind : ℕ → List Select → Part
selects_behind name ss to = selects ss (packs_under (select_path ss) name (first_select ss) to)

abbrev pub select_events : Select → Part
select_events s = (select_meaning s).part

abbrev pub maybe_cast : Option Cast → Part
maybe_cast c = maybe (option_map cast_events c)

abbrev pub maybe_slice_size : Option SliceSize → Part
maybe_slice_size s = maybe (option_map slice_size_events s)
