-- The tokens of the types and declared names that are read from a text ascend.
use Rattle.std.proofs.Common.{◌≡◌, ℕ, zero, suc, ◌+◌, ◌<◌, ◌≤◌, false, ◌==◌, List, Option, Some, None, arith}
use Rattle.ll_engine.specs.declared.tree.Tree.{Tree}
use Rattle.sv_tree.specs.Heads as head
use Rattle.sv_tree.specs.declared.names.QualifiedName.{QualifiedName}
use Rattle.sv_tree.specs.declared.types.EnumBase.{EnumBase}
use Rattle.sv_tree.specs.declared.types.TypeText.{TypeText}
use Rattle.sv_tree.specs.declared.types.TypeText.TheVariants as T
use Rattle.sv_tree.specs.declared.declarations.Initializer.{Initializer}
use Rattle.expr_build.specs.declared.rows.TheConstants as R
use Rattle.expr_build.specs.Nodes.{kid, token, row_of, is_blank}
use Rattle.expr_build.specs.Expressions.{expr_of, nesting_limit}
use Rattle.expr_build.specs.Words.{qualified_of}
use Rattle.expr_build.specs.Types as Y
use Rattle.expr_build.specs.Types.{dims_of, type_within, type_of, declarator_of, declarators_of, declarators_behind, optional_initializer_of, initializer_of, alone, scoped}
use Rattle.expr_type.specs.Placed.{Ascend}
use Rattle.order_laws.specs.Ordered.{name_tokens, dims_tokens, initial_tokens, base_tokens, enum_name_tokens, enum_names_tokens, field_tokens, fields_tokens, type_tokens, member_tokens, declarator_tokens, declarators_tokens}
use Rattle.least_laws.proofs.Tests.{by-test}
use Rattle.least_laws.proofs.Spans.{Spans, AllSpan}
use Rattle.least_laws.proofs.TypeRows as G
use Rattle.least_laws.proofs.Levels.{as-tokens, type-is, member-level}
use Rattle.least_laws.proofs.Lists as L
use Rattle.least_laws.proofs.Lists.{Ordered, append}
use Rattle.least_laws.proofs.Expressions.{name-ordered, dimension-ordered, dimensions-ordered, expr-ordered}

module _ (n : ℕ) where
  -- dimensions and first values
  pub dims-ordered : Ordered head.dimensions n dims_tokens dims_of
  dims-ordered t at to lo hi s a b = dimensions-ordered n expr_of (expr-ordered n) t at to lo hi s a b

  pub dims-behind-ordered : (first rest : Tree) (at mid to lo hi : ℕ) → Spans head.dimension n at first mid → Spans head.dimensions n mid rest to → lo ≤ at → to ≤ hi
      → Ascend lo hi (dims_tokens (Y.dims_behind first rest))
  dims-behind-ordered first rest at mid to lo hi s r a b =
      let c = s.rise in
      let d = r.rise in
      append _ _ mid (omega arith) (omega arith) (dimension-ordered n expr_of (expr-ordered n) first at mid lo mid s a (omega arith)) (dims-ordered rest mid to mid hi r (omega arith) b)

  pub initial-ordered : Ordered head.optional_initializer n initial_tokens optional_initializer_of
  initial-ordered t at to lo hi s a b =
      by-test (λ (o : Option Initializer). Ascend lo hi (initial_tokens o)) (is_blank t) None (Some (initializer_of t)) (λ e. tt)
      (λ e. let f = G.initializer s e tt in expr-ordered n (kid 1 t) (suc at) f.2.0 lo hi f.2.2 (omega arith) (omega arith))

  -- declared names
  pub declarator-ordered : Ordered head.declarator n declarator_tokens declarator_of
  declarator-ordered t at to lo hi s a b =
      let f = G.declarator s in
      let d = f.2 in
      let v = d.3 in (
        omega arith,
        omega arith,
        append _ _ d.0 (omega arith) (omega arith) (dims-ordered (kid 1 t) (suc at) d.0 (suc (token 0 t)) d.0 d.2 (omega arith) (omega arith))
            (initial-ordered (kid 2 t) d.0 v.0 d.0 hi v.2 (omega arith) (omega arith)),
      )

  pub declarators-ordered : Ordered head.declarators n declarators_tokens declarators_of
  declarators-ordered t at to lo hi s a b =
      L.items-if head.declarator n declarator_tokens declarator_of declarator-ordered head.next_declarator (λ x y u r. G.next-declarator r) t at to lo hi (λ e. G.declarators s) a b

  pub behind-ordered : (ts : List Tree) (at to lo hi : ℕ) → AllSpan head.next_declarator n at ts to → lo ≤ at → to ≤ hi → Ascend lo hi (declarators_tokens (declarators_behind ts))
  behind-ordered ts at to lo hi s a b = L.behind head.declarator n declarator_tokens declarator_of declarator-ordered head.next_declarator (λ x y u r. G.next-declarator r) ts at to lo hi s a b

  -- words, names, signs and dimensions
  pub keyword-ordered : (word dims : Tree) (at to lo hi : ℕ) → Spans head.dimensions n at dims to → lo ≤ at → to ≤ hi → Ascend lo hi (type_tokens (Y.keyword_text word dims))
  keyword-ordered word dims at to lo hi s a b = type-is _ _ _ (T.rolls-Keyword _ _) (dims-ordered dims at to lo hi s a b)

  pub named-ordered : (name : QualifiedName) (dims : Tree) (at to lo hi : ℕ) → Ascend lo at (name_tokens name) → Spans head.dimensions n at dims to → lo ≤ at → to ≤ hi
      → Ascend lo hi (type_tokens (Y.named_text name dims))
  named-ordered name dims at to lo hi q s a b =
      let c = s.rise in
      type-is _ _ _ (T.rolls-Named _ _) (append _ _ at a (omega arith) q (dims-ordered dims at to at hi s (omega arith) b))

  pub signed-ordered : (sign dims : Tree) (at to lo hi : ℕ) → Spans head.dimensions n at dims to → lo ≤ at → to ≤ hi → Ascend lo hi (type_tokens (Y.signed_text sign dims))
  signed-ordered sign dims at to lo hi s a b = type-is _ _ _ (T.rolls-Implicit _ _) (dims-ordered dims at to lo hi s a b)

  pub dimensioned-ordered : (first rest : Tree) (at mid to lo hi : ℕ) → Spans head.dimension n at first mid → Spans head.dimensions n mid rest to → lo ≤ at → to ≤ hi
      → Ascend lo hi (type_tokens (Y.dimensioned_text first rest))
  dimensioned-ordered first rest at mid to lo hi s r a b = type-is _ _ _ (T.rolls-Implicit _ _) (dims-behind-ordered first rest at mid to lo hi s r a b)

  pub named-dims-ordered : (name : QualifiedName) (first rest : Tree) (at mid to lo hi : ℕ) → Ascend lo at (name_tokens name) → Spans head.dimension n at first mid
      → Spans head.dimensions n mid rest to → lo ≤ at → to ≤ hi → Ascend lo hi (type_tokens (Y.named_dims_text name first rest))
  named-dims-ordered name first rest at mid to lo hi q s r a b =
      let c = s.rise in
      let d = r.rise in
      type-is _ _ _ (T.rolls-Named _ _) (append _ _ at a (omega arith) q (dims-behind-ordered first rest at mid to at hi s r (omega arith) b))

  pub no-type-ordered : (lo hi : ℕ) → Ascend lo hi (type_tokens Y.no_type)
  no-type-ordered lo hi = type-is lo hi _ (T.rolls-Implicit _ _) tt

  pub bare-ordered : (name lo hi : ℕ) → lo ≤ name → name < hi → Ascend lo hi (type_tokens (Y.bare_text name))
  bare-ordered name lo hi a b = type-is lo hi _ (T.rolls-Named _ _) (a, b, tt)

  -- parts of enumerations and structures
  base-from-ordered : (t : Tree) (at to lo hi : ℕ) → Spans head.optional_enum_base_type n at t to → is_blank t ≡ false → lo ≤ at → to ≤ hi → Ascend lo hi (base_tokens (Some (Y.base_from t)))
  base-from-ordered t at to lo hi s q a b =
      by-test (λ (x : EnumBase). Ascend lo hi (base_tokens (Some x))) (row_of t == R.KEYWORD_BASE) _ _
      (λ e. let f = G.keyword-base s e in dims-ordered (kid 1 t) f.0 f.3.0 lo hi f.3.2 (omega arith) (omega arith))
      (λ e.
      let f = G.named-base s q (e, tt) in
      let d = f.2.3 in
      append _ _ f.2.0 (omega arith) (omega arith) (name-ordered n (token 0 t) (kid 1 t) (suc at) f.2.0 lo f.2.0 f.2.2 (omega arith) (omega arith) (omega arith))
      (dims-ordered (kid 2 t) f.2.0 d.0 f.2.0 hi d.2 (omega arith) (omega arith)))

  base-ordered : Ordered head.optional_enum_base_type n base_tokens Y.base_of
  base-ordered t at to lo hi s a b =
      by-test (λ (o : Option EnumBase). Ascend lo hi (base_tokens o)) (is_blank t) None (Some (Y.base_from t)) (λ e. tt) (λ e. base-from-ordered t at to lo hi s e a b)

  enum-name-ordered : Ordered head.enum_name_declaration n enum_name_tokens Y.enum_name_of
  enum-name-ordered t at to lo hi s a b =
      let f = G.enum-name s in
      (omega arith, omega arith, initial-ordered (kid 1 t) (suc at) f.2.0 (suc (token 0 t)) hi f.2.2 (omega arith) (omega arith))

  enum-names-ordered : Ordered head.enum_names n enum_names_tokens Y.enum_names_of
  enum-names-ordered t at to lo hi s a b =
      L.items-if head.enum_name_declaration n enum_name_tokens Y.enum_name_of enum-name-ordered head.next_enum_name (λ x y u r. G.next-enum-name r) t at to lo hi (λ e. G.enum-names s) a b

  field-ordered : Ordered head.dimensioned_name n field_tokens Y.dimensioned_name_of
  field-ordered t at to lo hi s a b =
      let f = G.dimensioned-name s in
      (omega arith, omega arith, dims-ordered (kid 1 t) (suc at) f.2.0 (suc (token 0 t)) hi f.2.2 (omega arith) (omega arith))

  fields-ordered : Ordered head.dimensioned_names n fields_tokens Y.dimensioned_names_of
  fields-ordered t at to lo hi s a b =
      L.items-if head.dimensioned_name n field_tokens Y.dimensioned_name_of field-ordered head.next_dimensioned_name (λ x y u r. G.next-dimensioned-name r) t at to lo hi (λ e. G.dimensioned-names s)
      a b

  module _ (inner : Tree → TypeText) (ok : Ordered head.data_type n type_tokens inner) where
    member-ordered : Ordered head.struct_union_member n member_tokens (Y.member_of inner)
    member-ordered t at to lo hi s a b =
        let f = G.member s in
        let d = f.3 in
        as-tokens lo hi (member-level (Y.member_of inner t))
        (append _ _ f.0 (omega arith) (omega arith) (ok (kid 0 t) at f.0 lo f.0 f.2 a (omega arith)) (fields-ordered (kid 1 t) f.0 d.0 f.0 hi d.2 (omega arith) (omega arith)))

    -- a structure, a union or an enumeration
    pub aggregated-ordered : (t dims : Tree) (at mid to lo hi : ℕ) → Spans head.aggregate_type n at t mid → Spans head.dimensions n mid dims to → lo ≤ at → to ≤ hi
        → Ascend lo hi (type_tokens (Y.aggregated_of inner t dims))
    aggregated-ordered t dims at mid to lo hi s r a b =
        let c = s.rise in
        let d = r.rise in
        by-test (λ (x : TypeText). Ascend lo hi (type_tokens x)) (row_of t == R.STRUCTURE) _ _
        (λ e.
        let f = G.structure s e in
        let m = f.3.3.2 in
        type-is _ _ _ (T.rolls-Structure _ _ _ _ _ _)
        (append _ _ mid (omega arith) (omega arith)
        (L.items-whole head.struct_union_member n member_tokens (Y.member_of inner) member-ordered (kid 3 t) (suc f.3.0) m.0 lo mid (G.members m.2) (omega arith) (omega arith))
        (dims-ordered dims mid to mid hi r (omega arith) b)))
        (λ e.
        let f = G.enumeration s (e, tt) in
        let x = f.2 in
        let y = x.3.2 in
        type-is _ _ _ (T.rolls-Enumeration _ _ _ _ _ _)
        (append _ _ x.0 (omega arith) (omega arith) (base-ordered (kid 1 t) (suc at) x.0 lo x.0 x.2 (omega arith) (omega arith))
        (append _ _ mid (omega arith) (omega arith) (enum-names-ordered (kid 3 t) (suc x.0) y.0 x.0 mid y.2 (omega arith) (omega arith)) (dims-ordered dims mid to mid hi r (omega arith) b))))

-- types, however deep
within-ordered : (depth n : ℕ) → nesting_limit ≤ n + depth → Ordered head.data_type n type_tokens (type_within depth)
unfolding type_within
within-ordered zero n d t at to lo hi s a b = let l = G.type-limit s in absurd (omega arith)
within-ordered (suc depth) n d t at to lo hi s a b =
    by-test (λ (x : TypeText). Ascend lo hi (type_tokens x)) (row_of t == R.KEYWORD_TYPE) _ _
    (λ e. let f = G.keyword-type s e in keyword-ordered (suc n) (kid 0 t) (kid 1 t) f.0 f.3.0 lo hi f.3.2 (omega arith) (omega arith))
    (λ k.
    by-test (λ (x : TypeText). Ascend lo hi (type_tokens x)) (row_of t == R.AGGREGATE_TYPE) _ _
    (λ e.
    let f = G.aggregate-type s e in
    aggregated-ordered (suc n) (type_within depth) (within-ordered depth (suc n) (omega arith)) (kid 0 t) (kid 1 t) at f.0 f.3.0 lo hi f.2 f.3.2 a (omega arith))
    (λ e.
    let f = G.named-type s (k, (e, tt)) in
    let d = f.2.3 in
    named-ordered (suc n) (qualified_of (token 0 t) (kid 1 t)) (kid 2 t) f.2.0 d.0 lo hi
    (name-ordered (suc n) (token 0 t) (kid 1 t) (suc at) f.2.0 lo f.2.0 f.2.2 (omega arith) (omega arith) (omega arith)) d.2 (omega arith) (omega arith)))

pub type-ordered : (n : ℕ) → Ordered head.data_type n type_tokens type_of
type-ordered n = within-ordered nesting_limit n (omega arith)

pub aggregate-ordered : (n : ℕ) (t dims : Tree) (at mid to lo hi : ℕ) → Spans head.aggregate_type n at t mid → Spans head.dimensions n mid dims to → lo ≤ at → to ≤ hi
    → Ascend lo hi (type_tokens (Y.aggregate_text t dims))
aggregate-ordered n t dims at mid to lo hi s r a b = aggregated-ordered n type_of (type-ordered n) t dims at mid to lo hi s r a b
