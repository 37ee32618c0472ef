-- Types as they are written, part by part: the arms of `expr_type` over whole texts.
use Rattle.std.specs.Prelude.{◌≡◌, Bool, List, [], ◌∷◌, ◌++◌, map, Option, Some, None, Result, Ok, Err}
use Rattle.sv_tree.specs.declared.expressions.Dimension.{Dimension}
use Rattle.sv_tree.specs.declared.types.Aggregate.{Aggregate}
use Rattle.sv_tree.specs.declared.types.DimensionedName.{DimensionedName}
use Rattle.sv_tree.specs.declared.types.Member.{Member, fold-Member}
use Rattle.sv_tree.specs.declared.types.Packing.{Packing}
use Rattle.sv_types.specs.declared.frame.ParamValue.{ParamValue}
use Rattle.sv_types.specs.declared.statement.Function.{Function}
use Rattle.sv_types.specs.declared.types.SvType.{SvType}
use Rattle.expr_type.specs.declared.halt.Halt.{Halt}
use Rattle.expr_type.specs.Answers.{Gives}
use Rattle.expr_type.specs.Breaks.{Quiet}
use Rattle.expr_type.specs.Forms.{dimensioned}
use Rattle.expr_type.specs.Names.{Context, Source, with_values}
use Rattle.expr_type.specs.Types.{Field, Fields, FieldsMeaning, TypeFound, TypeMeaning, aggregate, all_fields, dims, field, member_step, type_step}
use Rattle.expr_type.specs.Typings.{Typed, Typing, all, both_by, broken, checked, rule, whole}
use Rattle.typing_walks.specs.Written as W
use Rattle.typing_walks.specs.WrittenTypes as R
use Rattle.typing_walks.specs.WrittenTypes.{name_written}
use Rattle.typing_scopes.specs.Ahead.{Ahead}
use Rattle.typing_declarations.specs.Naming.{so_far}
use Rattle.typing_declarations.specs.declared.members.Made.{Made}

-- a member, and members, of a type that may not be whole
abbrev pub field_by : Context → Bool → Option SvType → DimensionedName → Typing Field
field_by k inside None n = checked (dims k n.unpacked) (λ ds. broken Quiet)
field_by k inside (Some t) n = field k inside t n

abbrev pub fields_by : Context → Bool → Option SvType → List DimensionedName → Typing (List Field)
fields_by k inside t ns = all (map (field_by k inside t) ns)

abbrev pub fields_written : List DimensionedName → Bool
fields_written ns = W.all (map name_written ns)

-- one more behind others
abbrev pub AddsTo : List Field → Result Field Halt → Result (List Field) Halt → Type 0
AddsTo fs (Ok f) r = Gives r (Ok (fs ++ f ∷ []))
AddsTo fs (Err h) r = r ≡ Err h

-- members of one type
abbrev pub field_found : Context → Bool → Option TypeFound → DimensionedName → Typing Field
field_found k inside None n = checked (dims k n.unpacked) (λ ds. broken Quiet)
field_found k inside (Some f) n = field (with_values f.names k) inside f.of n

abbrev pub member_by : Context → Bool → Typing TypeFound → List DimensionedName → Typing Fields
member_by k inside x ns = both_by x (λ o. all (map (field_found k inside o) ns)) (λ f fs. whole (record { fields = fs; names = f.names }))

abbrev pub member_meaning : Member → FieldsMeaning
member_meaning = fold-Member TypeMeaning FieldsMeaning type_step member_step

abbrev pub member_written : Member → Bool
member_written = fold-Member Bool Bool R.type_step R.member_step

abbrev pub members_written : List Member → Bool
members_written ms = W.all (map member_written ms)

-- how far a loop over members has come, by the members that were met and the values that their types declare
abbrev pub put_fields : List Field → List ParamValue → Fields → Fields
put_fields fs vs g = record { fields = fs ++ g.fields; names = g.names ++ vs }

abbrev pub FieldsAhead : Context → Bool → Made → List ParamValue → List FieldsMeaning → Typed Fields → List Function → Type 0
FieldsAhead k inside made vs ms row fs = Ahead (so_far made.quiet) (put_fields made.fields vs) (all_fields k inside ms) row fs

-- a struct or a union of members
abbrev pub struct_by : Source → Aggregate → Option Packing → Typing Fields → Typing TypeFound
struct_by k of packing x = checked x (λ f. checked (rule (aggregate k of packing f.fields)) (λ t. whole (record { of = t; names = f.names })))

-- dimensions behind a type, in which the names that it declares stand for their values
abbrev pub behind_found : Context → Option TypeFound → Context
behind_found k None = k
behind_found k (Some f) = with_values f.names k

abbrev pub under_by : Context → TypeFound → List Dimension → Typing TypeFound
under_by k f ds = checked (dims (with_values f.names k) ds) (λ d. checked (dimensioned k.source f.of (whole d)) (λ t. whole (record f { of = t })))

abbrev pub packed_by : Context → Typing TypeFound → List Dimension → Typing TypeFound
packed_by k x ds = both_by x (λ o. dims (behind_found k o) ds) (λ f d. checked (dimensioned k.source f.of (whole d)) (λ t. whole (record f { of = t })))
