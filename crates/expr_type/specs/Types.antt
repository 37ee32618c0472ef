-- Types as they are written, and the names of enums that they declare (IEEE 1800-2017 clauses 6.18, 6.19, 7.2, 7.3 and 7.4).
use Rattle.std.specs.Prelude.{ℕ, ◌-◌, ◌^◌, Bool, true, false, ◌&&◌, ◌==◌, not, cond, ℤ, pos, neg_ℤ, ◌+ℤ◌, ◌-ℤ◌, int_le, List, [], ◌∷◌, ◌++◌, map, Option, Some, None, is_some, Ok}
use Rattle.std.specs.List.{list_any}
use Rattle.std.specs.Ordering.{int_eq}
use Rattle.b4_core.specs.Vectors.{vec}
use Rattle.sv_tree.specs.Extents.{qualified_first}
use Rattle.sv_tree.specs.declared.declarations.Initializer.{Initializer}
use Rattle.sv_tree.specs.declared.expressions.Dimension.{Dimension}
use Rattle.sv_tree.specs.declared.names.QualifiedName.{QualifiedName}
use Rattle.sv_tree.specs.declared.names.Signing.TheVariants.{Signed, Unsigned}
use Rattle.sv_tree.specs.declared.types.Aggregate.{Aggregate}
use Rattle.sv_tree.specs.declared.types.Aggregate.TheVariants as A
use Rattle.sv_tree.specs.declared.types.DimensionedName.{DimensionedName}
use Rattle.sv_tree.specs.declared.types.EnumBase.{EnumBase}
use Rattle.sv_tree.specs.declared.types.EnumBase.TheVariants as B
use Rattle.sv_tree.specs.declared.types.EnumName as W
use Rattle.sv_tree.specs.declared.types.Member.{Member-F}
use Rattle.sv_tree.specs.declared.types.Packing.{Packing}
use Rattle.sv_tree.specs.declared.types.TypeText.{TypeText, TypeText-F, fold-TypeText}
use Rattle.sv_types.specs.declared.frame.ParamValue.{ParamValue}
use Rattle.sv_types.specs.declared.types.EnumName.{EnumName}
use Rattle.sv_types.specs.declared.types.Member.{Member}
use Rattle.sv_types.specs.declared.types.SvType.{SvType}
use Rattle.sv_types.specs.declared.types.SvType.TheVariants.{Scalar, PackedArray, Struct, Union, Enum}
use Rattle.sv_types.specs.Layouts.{width_of}
use Rattle.sv_types.specs.Values.{value_of_bits}
use Rattle.sv_types.specs.declared.statement.Function.{Function}
use Rattle.expr_type.specs.declared.operand.Number.{Number}
use Rattle.expr_type.specs.declared.operand.Valued.{Valued}
use Rattle.expr_type.specs.Breaks.{Quiet}
use Rattle.expr_type.specs.Uses.{names_any}
use Rattle.expr_type.specs.Typings.{Checked, Typing, whole, broken, rule, by_functions, checked, both, both_by, all, refused, where_whole}
use Rattle.expr_type.specs.Shapes.{sign_of, is_unpacked}
use Rattle.expr_type.specs.Names.{Context, Source, position, thing, word, with_values}
use Rattle.expr_type.specs.Operands.{constant_in, is_number_in}
use Rattle.expr_type.specs.Operators.{not_too_long}
use Rattle.expr_type.specs.KeywordTypes.{Dim, keyword_type, implicit_type, unpacked}
use Rattle.expr_type.specs.Forms.{dimensioned, type_of_thing}
use Rattle.expr_type.specs.Expressions.{dimension_meaning, operand}

-- what stands behind things that are met one after another
abbrev pub latest_first : {A : Type 0} → List A → List A
latest_first [] = []
latest_first (x ∷ xs) = latest_first xs ++ x ∷ []

-- a type, and the values of the enum names that its text declares, the latest first
pub record TypeFound : Type 0 where
  pub of : SvType
  pub names : List ParamValue

abbrev pub only : SvType → TypeFound
only t = record { of = t; names = [] }

abbrev pub dims : Context → List Dimension → Typing (List Dim)
dims k ds = all (map (λ d. dimension_meaning d k) ds)

-- a named type with dimensions
abbrev pub found_type : Option SvType → Typing SvType
found_type None = broken Quiet
found_type (Some t) = whole t

abbrev pub named_with : Context → QualifiedName → List Dimension → Typing SvType
named_with k of ds = both (found_type (type_of_thing (thing k of))) (dims k ds) (λ t d. dimensioned k.source t (whole d))

-- Enums. Names are constants (E701). Values are distinct and fit the base; one that isn't written is one more than that before it, the first 0.
abbrev pub int_type : SvType
int_type = PackedArray (pos 31) (pos 0) true (Scalar false false)

abbrev pub least_value : SvType → ℤ
least_value t = cond (sign_of t) (neg_ℤ (pos (2 ^ (width_of t - 1)))) (pos 0)

abbrev pub most_value : SvType → ℤ
most_value t = cond (sign_of t) (pos (2 ^ (width_of t - 1))) (pos (2 ^ width_of t)) -ℤ pos 1

abbrev pub base_type : Context → Option EnumBase → Typing SvType
base_type k None = whole int_type
base_type k (Some (B.Keyword of ds)) = checked (dims k ds) (λ d. whole (keyword_type of d))
base_type k (Some (B.Named of ds)) =
    checked (named_with k of ds) (λ t. rule (refused (is_unpacked t) (position k.source (qualified_first of)) 404 (Ok t)))

pub record NameValue : Type 0 where
  pub at : ℕ
  pub number : ℤ

abbrev pub next_value : Option ℤ → ℤ
next_value None = pos 0
next_value (Some n) = n +ℤ pos 1

-- The value that is written for a name is given to the base, which takes no unpacked one (E501). Other rules on constants count first.
abbrev pub is_packed_value : Source → Valued → Checked Valued
is_packed_value k v = refused (is_unpacked v.expr.of && not (names_any v.expr)) (position k v.first) 501 (Ok v)

abbrev pub is_name_number : Source → ℤ → ℤ → Valued → List Function → Checked Number
is_name_number k low high v fs = where_whole (is_packed_value k v) (λ u. is_number_in k low high u fs)

abbrev pub written_value : Context → SvType → ℕ → Option ℤ → Option Initializer → Typing ℤ
written_value k base at before None =
    let n = next_value before in
    rule (refused (not (int_le (least_value base) n && int_le n (most_value base))) (position k.source at) 411 (Ok n))
written_value k base at before (Some i) =
    checked (constant_in k.source (operand k i.value))
    (λ v. checked (by_functions (is_name_number k.source (least_value base) (most_value base) v)) (λ n. whole n.number))

abbrev pub is_taken : List NameValue → ℤ → Bool
is_taken vs n = list_any (λ (v : NameValue). int_eq v.number n) vs

abbrev pub name_value : Context → SvType → List NameValue → Option ℤ → W.EnumName → Typing NameValue
name_value k base before last n =
    checked (written_value k base n.name last n.value)
    (λ m. rule (refused (is_taken before m) (position k.source n.name) 509 (not_too_long k.source n.name (width_of base) (Ok (record { at = n.name; number = m })))))

-- inside the enum a name has the base's type; one that isn't written hangs on the one before it
abbrev pub value_in : Context → SvType → NameValue → ParamValue
value_in k t v = record { decl = k.declared v.at; of = t; value = value_of_bits t (vec (width_of t) v.number) }

abbrev pub goes_on_from : Option NameValue → List NameValue → List NameValue
goes_on_from None vs = vs
goes_on_from (Some v) vs = vs ++ v ∷ []

abbrev pub name_behind : Context → SvType → Option NameValue → Context
name_behind k base None = k
name_behind k base (Some v) = with_values (value_in k base v ∷ []) k

abbrev pub unwritten : Option Initializer → Bool
unwritten None = true
unwritten (Some i) = false

abbrev pub last_number : Option NameValue → Option ℤ
last_number None = None
last_number (Some v) = Some v.number

-- `lost` says that the name before has no value
abbrev pub name_values : Context → SvType → Bool → List NameValue → Option ℤ → List W.EnumName → Typing (List NameValue)
name_values k base lost before last [] = whole []
name_values k base lost before last (n ∷ ns) =
    both_by (cond (lost && unwritten n.value) (broken Quiet) (name_value k base before last n))
    (λ o. name_values (name_behind k base o) base (not (is_some o)) (goes_on_from o before) (last_number o) ns)
    (λ v vs. whole (v ∷ vs))

abbrev pub enum_name : Source → SvType → NameValue → EnumName
enum_name k base v = record { name = word k v.at; value = vec (width_of base) v.number }

abbrev pub enum_found : Context → ℕ → SvType → List NameValue → TypeFound
enum_found k at base vs =
    let t = Enum at base (map (enum_name k.source base) vs) in
    record { of = t; names = latest_first (map (value_in k t) vs) }

-- Structs and unions. A member of a packed one is packed (E404), and those of a union have one width (E506).
pub record Field : Type 0 where
  pub at : ℕ
  pub of : SvType

pub record Fields : Type 0 where
  pub fields : List Field
  pub names : List ParamValue

abbrev pub field : Context → Bool → SvType → DimensionedName → Typing Field
field k inside t n =
    checked (dims k n.unpacked)
    (λ ds. let u = unpacked ds t in rule (refused (inside && is_unpacked u) (position k.source n.name) 404 (Ok (record { at = n.name; of = u }))))

abbrev pub FieldsMeaning : Type 0
FieldsMeaning = Context → Bool → Typing Fields

abbrev pub TypeMeaning : Type 0
TypeMeaning = Context → Typing TypeFound

abbrev pub names_behind : Context → Option Fields → Context
names_behind k None = k
names_behind k (Some f) = with_values f.names k

abbrev pub all_fields : Context → Bool → List FieldsMeaning → Typing Fields
all_fields k inside [] = whole (record { fields = []; names = [] })
all_fields k inside (m ∷ ms) =
    both_by (m k inside) (λ o. all_fields (names_behind k o) inside ms)
    (λ f g. whole (record { fields = f.fields ++ g.fields; names = g.names ++ f.names }))

abbrev pub member : Source → Field → Member
member k f = record { name = word k f.at; of = f.of }

abbrev pub first_width : List Field → ℕ
first_width [] = 0
first_width (f ∷ fs) = width_of f.of

abbrev pub same_widths : Source → ℕ → List Field → Checked SvType → Checked SvType
same_widths k w [] other = other
same_widths k w (f ∷ fs) other = refused (not (width_of f.of == w)) (position k f.at) 506 (same_widths k w fs other)

abbrev pub sign_by : Option Packing → Bool
sign_by None = false
sign_by (Some p) = elim p.signing [ None ↦ false | Some s ↦ elim s [ Signed at ↦ true | Unsigned at ↦ false ] ]

abbrev pub aggregate : Source → Aggregate → Option Packing → List Field → Checked SvType
aggregate k (A.Struct at) p fs = Ok (Struct at (is_some p) (sign_by p) (map (member k) fs))
aggregate k (A.Union at) p fs = same_widths k (first_width fs) fs (Ok (Union at (sign_by p) (map (member k) fs)))

abbrev pub with_dims : Context → List Dimension → TypeFound → Typing TypeFound
with_dims k ds f = checked (dimensioned k.source f.of (dims k ds)) (λ t. whole (record f { of = t }))

abbrev pub member_step : Member-F TypeMeaning FieldsMeaning → FieldsMeaning
member_step m k inside =
    both_by (m.of k) (λ o. all (map (field_of o) m.names)) (λ f fs. whole (record { fields = fs; names = f.names }))
  where
    field_of : Option TypeFound → DimensionedName → Typing Field
    field_of None n = checked (dims k n.unpacked) (λ ds. broken Quiet)
    field_of (Some f) n = field (with_values f.names k) inside f.of n

abbrev pub type_step : TypeText-F TypeMeaning FieldsMeaning → TypeMeaning
type_step (TypeText-F.Keyword of ds) k = checked (dims k ds) (λ d. whole (only (keyword_type of d)))
type_step (TypeText-F.Structure of packing opening members closing ds) k =
    both_by
    (checked (all_fields k (is_some packing) members)
    (λ f. checked (rule (aggregate k.source of packing f.fields)) (λ t. whole (record { of = t; names = f.names }))))
    (λ o. dims (behind o) ds)
    (λ f d. checked (dimensioned k.source f.of (whole d)) (λ t. whole (record f { of = t })))
  where
    behind : Option TypeFound → Context
    behind None = k
    behind (Some f) = with_values f.names k
type_step (TypeText-F.Enumeration keyword base opening names closing ds) k =
    both_by
    (both_by (base_type k base) (λ o. values_by o names) (λ b vs. whole (enum_found k keyword b vs)))
    (λ o. dims (behind o) ds)
    (λ f d. checked (dimensioned k.source f.of (whole d)) (λ t. whole (record f { of = t })))
  where
    values_by : Option SvType → List W.EnumName → Typing (List NameValue)
    values_by None ns = broken Quiet
    values_by (Some b) ns = name_values k b false [] None ns

    behind : Option TypeFound → Context
    behind None = k
    behind (Some f) = with_values f.names k
type_step (TypeText-F.Named of ds) k = checked (named_with k of ds) (λ t. whole (only t))
type_step (TypeText-F.Implicit signing ds) k = checked (dims k ds) (λ d. whole (only (implicit_type signing d)))

-- the type that a text stands for
abbrev pub typed_text : TypeText → TypeMeaning
typed_text = fold-TypeText TypeMeaning FieldsMeaning type_step member_step

-- dimensions behind a declared name
abbrev pub declared_type : Context → Option SvType → List Dimension → Typing SvType
declared_type k None ds = checked (dims k ds) (λ d. broken Quiet)
declared_type k (Some t) ds = checked (dims k ds) (λ d. whole (unpacked d t))
