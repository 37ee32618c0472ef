-- The types and declared names of a source text, by the rows that they were read by.
use Rattle.std.specs.Prelude.{ℕ, zero, suc, ◌==◌, List, [], ◌∷◌, map, Option, Some, None, if◌then◌else◌}
use Rattle.ll_engine.specs.declared.tree.Tree.{Tree}
use Rattle.sv_tree.specs.declared.declarations.Declarator.{Declarator}
use Rattle.sv_tree.specs.declared.declarations.Initializer.{Initializer}
use Rattle.sv_tree.specs.declared.expressions.Dimension.{Dimension}
use Rattle.sv_tree.specs.declared.names.QualifiedName.{QualifiedName}
use Rattle.sv_tree.specs.declared.types.DimensionedName.{DimensionedName}
use Rattle.sv_tree.specs.declared.types.EnumBase.{EnumBase}
use Rattle.sv_tree.specs.declared.types.EnumBase.TheVariants as B
use Rattle.sv_tree.specs.declared.types.EnumName.{EnumName}
use Rattle.sv_tree.specs.declared.types.Member.{Member}
use Rattle.sv_tree.specs.declared.types.Packing.{Packing}
use Rattle.sv_tree.specs.declared.types.TypeText.{TypeText}
use Rattle.sv_tree.specs.declared.types.TypeText.TheVariants as T
use Rattle.expr_build.specs.declared.rows.TheConstants as R
use Rattle.expr_build.specs.Nodes.{kids_of, kid, token, row_of, optional, separated, behind_marks}
use Rattle.expr_build.specs.Words.{signing_of, optional_signing_of, keyword_type_of, aggregate_of, qualified_of}
use Rattle.expr_build.specs.Expressions.{expr_of, dimension_of, dimensions_of, nesting_limit}

-- dimensions, and a first one with those behind it
abbrev pub dims_of : Tree → List Dimension
dims_of t = dimensions_of expr_of t

abbrev pub dims_behind : Tree → Tree → List Dimension
dims_behind first rest = dimension_of expr_of first ∷ dims_of rest

-- `= VALUE`, or nothing
abbrev pub initializer_of : Tree → Initializer
initializer_of t = record { equals = token 0 t; value = expr_of (kid 1 t) }

abbrev pub optional_initializer_of : Tree → Option Initializer
optional_initializer_of t = optional initializer_of t

abbrev pub declarator_of : Tree → Declarator
declarator_of t = record { name = token 0 t; unpacked = dims_of (kid 1 t); initial = optional_initializer_of (kid 2 t) }

abbrev pub declarators_behind : List Tree → List Declarator
declarators_behind trees = behind_marks declarator_of trees

abbrev pub declarators_of : Tree → List Declarator
declarators_of t = separated declarator_of (kids_of t)

-- parts of structures and enumerations
abbrev pub packing_from : Tree → Packing
packing_from t = record { keyword = token 0 t; signing = optional_signing_of (kid 1 t) }

abbrev pub packing_of : Tree → Option Packing
packing_of t = optional packing_from t

abbrev pub base_from : Tree → EnumBase
base_from t =
    if row_of t == R.KEYWORD_BASE then B.Keyword (keyword_type_of (kid 0 t)) (dims_of (kid 1 t))
    else B.Named (qualified_of (token 0 t) (kid 1 t)) (dims_of (kid 2 t))

abbrev pub base_of : Tree → Option EnumBase
base_of t = optional base_from t

abbrev pub enum_name_of : Tree → EnumName
enum_name_of t = record { name = token 0 t; value = optional_initializer_of (kid 1 t) }

abbrev pub enum_names_of : Tree → List EnumName
enum_names_of t = separated enum_name_of (kids_of t)

abbrev pub dimensioned_name_of : Tree → DimensionedName
dimensioned_name_of t = record { name = token 0 t; unpacked = dims_of (kid 1 t) }

abbrev pub dimensioned_names_of : Tree → List DimensionedName
dimensioned_names_of t = separated dimensioned_name_of (kids_of t)

-- members of one type; `inner` gives the types inside a type
abbrev pub member_of : (Tree → TypeText) → Tree → Member
member_of inner t = record { of = inner (kid 0 t); names = dimensioned_names_of (kid 1 t); semicolon = token 2 t }

abbrev pub members_of : (Tree → TypeText) → Tree → List Member
members_of inner t = map (member_of inner) (kids_of t)

-- a structure, a union or an enumeration, and the dimensions behind it
abbrev pub structure_of : (Tree → TypeText) → Tree → Tree → TypeText
structure_of inner t dims = T.Structure (aggregate_of (kid 0 t)) (packing_of (kid 1 t)) (token 2 t) (members_of inner (kid 3 t)) (token 4 t) (dims_of dims)

abbrev pub enumeration_of : Tree → Tree → TypeText
enumeration_of t dims = T.Enumeration (token 0 t) (base_of (kid 1 t)) (token 2 t) (enum_names_of (kid 3 t)) (token 4 t) (dims_of dims)

abbrev pub aggregated_of : (Tree → TypeText) → Tree → Tree → TypeText
aggregated_of inner t dims = if row_of t == R.STRUCTURE then structure_of inner t dims else enumeration_of t dims

-- a word with dimensions, a name with dimensions, a sign with dimensions, dimensions, nothing
abbrev pub keyword_text : Tree → Tree → TypeText
keyword_text word dims = T.Keyword (keyword_type_of word) (dims_of dims)

abbrev pub named_text : QualifiedName → Tree → TypeText
named_text name dims = T.Named name (dims_of dims)

abbrev pub signed_text : Tree → Tree → TypeText
signed_text sign dims = T.Implicit (Some (signing_of sign)) (dims_of dims)

abbrev pub dimensioned_text : Tree → Tree → TypeText
dimensioned_text first rest = T.Implicit None (dims_behind first rest)

abbrev pub named_dims_text : QualifiedName → Tree → Tree → TypeText
named_dims_text name first rest = T.Named name (dims_behind first rest)

abbrev pub no_type : TypeText
no_type = T.Implicit None []

-- a name without a package, and one behind `PACKAGE ::`
abbrev pub alone : ℕ → QualifiedName
alone name = record { scope = None; name = name }

abbrev pub scoped : ℕ → ℕ → ℕ → QualifiedName
scoped outer colons name = record { scope = Some (record { «package» = outer; colons = colons }); name = name }

abbrev pub bare_text : ℕ → TypeText
bare_text name = T.Named (alone name) []

-- a type around these
abbrev pub type_around : (Tree → TypeText) → Tree → TypeText
type_around inner t =
    if row_of t == R.KEYWORD_TYPE then keyword_text (kid 0 t) (kid 1 t)
    else (if row_of t == R.AGGREGATE_TYPE then aggregated_of inner (kid 0 t) (kid 1 t)
    else named_text (qualified_of (token 0 t) (kid 1 t)) (kid 2 t))

-- a type in which types nest at most so deep; none nests deeper in a text
unfoldable pub type_within : ℕ → Tree → TypeText
type_within zero t = no_type
type_within (suc depth) t = type_around (type_within depth) t

abbrev pub type_of : Tree → TypeText
type_of t = type_within nesting_limit t

-- a structure, a union or an enumeration that stands by itself
abbrev pub aggregate_text : Tree → Tree → TypeText
aggregate_text t dims = aggregated_of type_of t dims
