-- The parts that the nodes of types and of declared names have in any text.
use Rattle.std.proofs.Common.{◌≡◌, ℕ, suc, ◌≤◌, true, false, ◌==◌, [], ◌∷◌, refl}
use Rattle.std.proofs.lemmas.Bool.{eqb-true}
use Rattle.ll_engine.specs.declared.tree.Tree.{Tree}
use Rattle.sv_tree.specs.Heads as head
use Rattle.sv_tree.specs.Table.{table}
use Rattle.expr_build.specs.declared.rows.TheConstants as R
use Rattle.expr_build.specs.Nodes.{row_of, is_blank}
use Rattle.expr_build.specs.Expressions.{nesting_limit}
use Rattle.least_laws.proofs.Spans.{Spans, Facts}
use Rattle.least_laws.proofs.Spans.Shape.{Token, One, Each}
use Rattle.least_laws.proofs.Rows.{NotIn, of-row, of-others, of-all, of-filled, of-deep-row, of-deep-others, deep-limit}

-- first values and declared names
pub initializer : {n at to : ℕ} {t : Tree} → Spans head.optional_initializer n at t to → is_blank t ≡ false → NotIn (row_of t) [] → Facts (Token ∷ One head.expression ∷ []) 0 n t at to
unfolding table
initializer s b e = of-filled [] (Token ∷ One head.expression ∷ []) refl s e b

pub declarators : {n at to : ℕ} {t : Tree} → Spans head.declarators n at t to → Facts (One head.declarator ∷ Each head.next_declarator ∷ []) 0 n t at to
unfolding table
declarators s = of-all (One head.declarator ∷ Each head.next_declarator ∷ []) refl s

pub next-declarator : {n at to : ℕ} {t : Tree} → Spans head.next_declarator n at t to → Facts (Token ∷ One head.declarator ∷ []) 0 n t at to
unfolding table
next-declarator s = of-all (Token ∷ One head.declarator ∷ []) refl s

pub declarator : {n at to : ℕ} {t : Tree} → Spans head.declarator n at t to → Facts (Token ∷ One head.dimensions ∷ One head.optional_initializer ∷ []) 0 n t at to
unfolding table
declarator s = of-all (Token ∷ One head.dimensions ∷ One head.optional_initializer ∷ []) refl s

-- structures and enumerations
pub structure : {n at to : ℕ} {t : Tree} → Spans head.aggregate_type n at t to → (row_of t == R.STRUCTURE) ≡ true → Facts (One head.struct_union ∷ One head.optional_packing ∷ Token ∷ One head.struct_union_members ∷ Token ∷ []) 0 n t at to
unfolding table
structure {t = t} s e = of-row R.STRUCTURE (One head.struct_union ∷ One head.optional_packing ∷ Token ∷ One head.struct_union_members ∷ Token ∷ []) refl s (eqb-true (row_of t) R.STRUCTURE e)

pub enumeration : {n at to : ℕ} {t : Tree} → Spans head.aggregate_type n at t to → NotIn (row_of t) (R.STRUCTURE ∷ []) → Facts (Token ∷ One head.optional_enum_base_type ∷ Token ∷ One head.enum_names ∷ Token ∷ []) 0 n t at to
unfolding table
enumeration s e = of-others (R.STRUCTURE ∷ []) (Token ∷ One head.optional_enum_base_type ∷ Token ∷ One head.enum_names ∷ Token ∷ []) refl s e

pub members : {n at to : ℕ} {t : Tree} → Spans head.struct_union_members n at t to → Facts (One head.struct_union_member ∷ Each head.struct_union_member ∷ []) 0 n t at to
unfolding table
members s = of-all (One head.struct_union_member ∷ Each head.struct_union_member ∷ []) refl s

pub member : {n at to : ℕ} {t : Tree} → Spans head.struct_union_member n at t to → Facts (One head.data_type ∷ One head.dimensioned_names ∷ Token ∷ []) 0 n t at to
unfolding table
member s = of-all (One head.data_type ∷ One head.dimensioned_names ∷ Token ∷ []) refl s

pub dimensioned-names : {n at to : ℕ} {t : Tree} → Spans head.dimensioned_names n at t to → Facts (One head.dimensioned_name ∷ Each head.next_dimensioned_name ∷ []) 0 n t at to
unfolding table
dimensioned-names s = of-all (One head.dimensioned_name ∷ Each head.next_dimensioned_name ∷ []) refl s

pub next-dimensioned-name : {n at to : ℕ} {t : Tree} → Spans head.next_dimensioned_name n at t to → Facts (Token ∷ One head.dimensioned_name ∷ []) 0 n t at to
unfolding table
next-dimensioned-name s = of-all (Token ∷ One head.dimensioned_name ∷ []) refl s

pub dimensioned-name : {n at to : ℕ} {t : Tree} → Spans head.dimensioned_name n at t to → Facts (Token ∷ One head.dimensions ∷ []) 0 n t at to
unfolding table
dimensioned-name s = of-all (Token ∷ One head.dimensions ∷ []) refl s

pub keyword-base : {n at to : ℕ} {t : Tree} → Spans head.optional_enum_base_type n at t to → (row_of t == R.KEYWORD_BASE) ≡ true → Facts (One head.keyword_type ∷ One head.dimensions ∷ []) 0 n t at to
unfolding table
keyword-base {t = t} s e = of-row R.KEYWORD_BASE (One head.keyword_type ∷ One head.dimensions ∷ []) refl s (eqb-true (row_of t) R.KEYWORD_BASE e)

pub named-base : {n at to : ℕ} {t : Tree} → Spans head.optional_enum_base_type n at t to → is_blank t ≡ false → NotIn (row_of t) (R.KEYWORD_BASE ∷ []) → Facts (Token ∷ One head.optional_scoped_name ∷ One head.dimensions ∷ []) 0 n t at to
unfolding table
named-base s b e = of-filled (R.KEYWORD_BASE ∷ []) (Token ∷ One head.optional_scoped_name ∷ One head.dimensions ∷ []) refl s e b

pub enum-names : {n at to : ℕ} {t : Tree} → Spans head.enum_names n at t to → Facts (One head.enum_name_declaration ∷ Each head.next_enum_name ∷ []) 0 n t at to
unfolding table
enum-names s = of-all (One head.enum_name_declaration ∷ Each head.next_enum_name ∷ []) refl s

pub next-enum-name : {n at to : ℕ} {t : Tree} → Spans head.next_enum_name n at t to → Facts (Token ∷ One head.enum_name_declaration ∷ []) 0 n t at to
unfolding table
next-enum-name s = of-all (Token ∷ One head.enum_name_declaration ∷ []) refl s

pub enum-name : {n at to : ℕ} {t : Tree} → Spans head.enum_name_declaration n at t to → Facts (Token ∷ One head.optional_initializer ∷ []) 0 n t at to
unfolding table
enum-name s = of-all (Token ∷ One head.optional_initializer ∷ []) refl s

-- types, one deeper
pub type-limit : {n at to : ℕ} {t : Tree} → Spans head.data_type n at t to → suc n ≤ nesting_limit
unfolding table
type-limit s = deep-limit refl refl s

pub keyword-type : {n at to : ℕ} {t : Tree} → Spans head.data_type n at t to → (row_of t == R.KEYWORD_TYPE) ≡ true → Facts (One head.keyword_type ∷ One head.dimensions ∷ []) 0 (suc n) t at to
unfolding table
keyword-type {t = t} s e = of-deep-row R.KEYWORD_TYPE (One head.keyword_type ∷ One head.dimensions ∷ []) refl s (eqb-true (row_of t) R.KEYWORD_TYPE e) refl

pub aggregate-type : {n at to : ℕ} {t : Tree} → Spans head.data_type n at t to → (row_of t == R.AGGREGATE_TYPE) ≡ true → Facts (One head.aggregate_type ∷ One head.dimensions ∷ []) 0 (suc n) t at to
unfolding table
aggregate-type {t = t} s e = of-deep-row R.AGGREGATE_TYPE (One head.aggregate_type ∷ One head.dimensions ∷ []) refl s (eqb-true (row_of t) R.AGGREGATE_TYPE e) refl

pub named-type : {n at to : ℕ} {t : Tree} → Spans head.data_type n at t to → NotIn (row_of t) (R.KEYWORD_TYPE ∷ R.AGGREGATE_TYPE ∷ []) → Facts (Token ∷ One head.optional_scoped_name ∷ One head.dimensions ∷ []) 0 (suc n) t at to
unfolding table
named-type s e = of-deep-others (R.KEYWORD_TYPE ∷ R.AGGREGATE_TYPE ∷ []) (Token ∷ One head.optional_scoped_name ∷ One head.dimensions ∷ []) refl refl s e
