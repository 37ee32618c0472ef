-- The types and declared names that are read from a text are written.
use Rattle.std.proofs.Common.{◌≡◌, ℕ, zero, suc, Bool, true, ◌==◌, List, [], ◌∷◌, map, Some, None, refl, sym, ◌∙◌, subst}
use Rattle.std.proofs.lemmas.Bool.{eqb-true}
use Rattle.ll_engine.specs.declared.tree.Tree.{Tree}
use Rattle.sv_tree.specs.Heads as head
use Rattle.sv_tree.specs.declared.names.QualifiedName.{QualifiedName}
use Rattle.sv_tree.specs.declared.types.EnumBase.{EnumBase}
use Rattle.sv_tree.specs.declared.types.EnumName.{EnumName}
use Rattle.sv_tree.specs.declared.types.TypeText.{TypeText}
use Rattle.sv_tree.specs.declared.types.TypeText.TheVariants as T
use Rattle.typing_walks.specs.Written.{all, some_and_all}
use Rattle.typing_walks.specs.WrittenTypes.{dims_written, initial_written, base_written, name_written, names_written, type_written}
use Rattle.stmt_laws.specs.Written.{declarator_written, declarators_written}
use Rattle.expr_build.specs.declared.rows.TheConstants as R
use Rattle.expr_build.specs.Nodes.{kid, row_of, is_blank}
use Rattle.expr_build.specs.Expressions.{expr_of, nesting_limit}
use Rattle.expr_build.specs.Types as Y
use Rattle.expr_build.specs.Types.{dims_of, type_within, type_of, declarator_of, declarators_of, declarators_behind, optional_initializer_of, initializer_of}
use Rattle.written_laws.proofs.Tests.{both, by-test, by-either}
use Rattle.written_laws.proofs.Nodes.{OfHead, Good, AllGood, AllOf, good, kid-good}
use Rattle.written_laws.proofs.Rows.{members, member-names}
use Rattle.written_laws.proofs.Lists as L
use Rattle.written_laws.proofs.Lists.{Written}
use Rattle.written_laws.proofs.Levels.{member_written, member-level, type-is}
use Rattle.written_laws.proofs.Expressions.{dimension-written, dims-written, expr-written}

-- dimensions and first values
pub dims-read : (t : Tree) → Good t → dims_written (dims_of t) ≡ true
dims-read t g = dims-written t g

pub dims-behind : (first rest : Tree) → Good first → Good rest → dims_written (Y.dims_behind first rest) ≡ true
dims-behind first rest g h = both (dimension-written expr_of expr-written first g) (dims-read rest h)

pub initial-written : (t : Tree) → Good t → initial_written (optional_initializer_of t) ≡ true
initial-written t g = by-either initial_written (is_blank t) None (Some (initializer_of t)) refl (expr-written (kid 1 t) (kid-good 1 t g))

-- declared names
pub declarator-written : Written declarator_written declarator_of
declarator-written t g = both (dims-read (kid 1 t) (kid-good 1 t g)) (initial-written (kid 2 t) (kid-good 2 t g))

pub declarators-written : (t : Tree) → Good t → declarators_written (declarators_of t) ≡ true
declarators-written t g = L.all-items declarator_written declarator_of declarator-written t g

pub behind-written : (ts : List Tree) → AllGood ts → declarators_written (declarators_behind ts) ≡ true
behind-written ts g = L.all-behind declarator_written declarator_of declarator-written ts g

-- words, names, signs and dimensions
pub keyword-written : (word dims : Tree) → Good dims → type_written (Y.keyword_text word dims) ≡ true
keyword-written word dims g = type-is _ (T.rolls-Keyword _ _) (dims-read dims g)

pub named-written : (name : QualifiedName) (dims : Tree) → Good dims → type_written (Y.named_text name dims) ≡ true
named-written name dims g = type-is _ (T.rolls-Named _ _) (dims-read dims g)

pub signed-written : (sign dims : Tree) → Good dims → type_written (Y.signed_text sign dims) ≡ true
signed-written sign dims g = type-is _ (T.rolls-Implicit _ _) (dims-read dims g)

pub dimensioned-written : (first rest : Tree) → Good first → Good rest → type_written (Y.dimensioned_text first rest) ≡ true
dimensioned-written first rest g h = type-is _ (T.rolls-Implicit _ _) (dims-behind first rest g h)

pub named-dims-written : (name : QualifiedName) (first rest : Tree) → Good first → Good rest → type_written (Y.named_dims_text name first rest) ≡ true
named-dims-written name first rest g h = type-is _ (T.rolls-Named _ _) (dims-behind first rest g h)

pub no-type-written : type_written Y.no_type ≡ true
no-type-written = type-is _ (T.rolls-Implicit _ _) refl

pub bare-written : (name : ℕ) → type_written (Y.bare_text name) ≡ true
bare-written name = type-is _ (T.rolls-Named _ _) refl

-- parts of structures and enumerations
base-from-written : (t : Tree) → Good t → base_written (Some (Y.base_from t)) ≡ true
base-from-written t g =
    by-either (λ (b : EnumBase). base_written (Some b)) (row_of t == R.KEYWORD_BASE) _ _ (dims-read (kid 1 t) (kid-good 1 t g)) (dims-read (kid 2 t) (kid-good 2 t g))

base-of-written : (t : Tree) → Good t → base_written (Y.base_of t) ≡ true
base-of-written t g = by-either base_written (is_blank t) None (Some (Y.base_from t)) refl (base-from-written t g)

abbrev enum_name_written : EnumName → Bool
enum_name_written n = initial_written n.value

enum-name-written : Written enum_name_written Y.enum_name_of
enum-name-written t g = initial-written (kid 1 t) (kid-good 1 t g)

enum-names-written : (t : Tree) → Good t → names_written (Y.enum_names_of t) ≡ true
enum-names-written t g = L.all-items enum_name_written Y.enum_name_of enum-name-written t g

member-name-written : Written name_written Y.dimensioned_name_of
member-name-written t g = dims-read (kid 1 t) (kid-good 1 t g)

module _ (inner : Tree → TypeText) (ok : Written type_written inner) where
  member-written : (t : Tree) → OfHead head.struct_union_member t → member_written (Y.member_of inner t) ≡ true
  member-written t o =
      member-level (Y.member_of inner t)
      ∙ both (ok (kid 0 t) (kid-good 0 t (good o))) (L.some-items name_written Y.dimensioned_name_of member-name-written (kid 1 t) (member-names t o) (kid-good 1 t (good o)))

  each-member : (ts : List Tree) → AllOf head.struct_union_member ts → all (map member_written (map (Y.member_of inner) ts)) ≡ true
  each-member [] a = refl
  each-member (t ∷ ts) a = both (member-written t a.0) (each-member ts a.1)

  members-written : (t : Tree) → Good t → (row_of t == R.STRUCTURE) ≡ true → some_and_all (map member_written (Y.members_of inner (kid 3 t))) ≡ true
  members-written t g e =
      let list = members t g (eqb-true (row_of t) R.STRUCTURE e) in
      subst (λ (ts : List Tree). some_and_all (map member_written (map (Y.member_of inner) ts)) ≡ true) (sym list.is)
      (both (member-written list.first list.of) (each-member list.others list.rest))

  pub aggregated-written : (t dims : Tree) → Good t → Good dims → type_written (Y.aggregated_of inner t dims) ≡ true
  aggregated-written t dims g h =
      by-test type_written (row_of t == R.STRUCTURE) _ _
      (λ e. type-is _ (T.rolls-Structure _ _ _ _ _ _) (both (members-written t g e) (dims-read dims h)))
      (λ n. type-is _ (T.rolls-Enumeration _ _ _ _ _ _) (both (base-of-written (kid 1 t) (kid-good 1 t g)) (both (enum-names-written (kid 3 t) (kid-good 3 t g)) (dims-read dims h))))

  around-written : Written type_written (Y.type_around inner)
  around-written t g =
      by-either type_written (row_of t == R.KEYWORD_TYPE) _ _ (keyword-written (kid 0 t) (kid 1 t) (kid-good 1 t g))
      (by-either type_written (row_of t == R.AGGREGATE_TYPE) _ _ (aggregated-written (kid 0 t) (kid 1 t) (kid-good 0 t g) (kid-good 1 t g))
      (named-written _ (kid 2 t) (kid-good 2 t g)))

-- types, however deep
within-written : (depth : ℕ) → Written type_written (type_within depth)
unfolding type_within
within-written zero t g = no-type-written
within-written (suc depth) t g = around-written (type_within depth) (within-written depth) t g

pub type-written : Written type_written type_of
type-written t g = within-written nesting_limit t g

pub aggregate-written : (t dims : Tree) → Good t → Good dims → type_written (Y.aggregate_text t dims) ≡ true
aggregate-written t dims g h = aggregated-written type_of type-written t dims g h
