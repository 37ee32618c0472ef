-- The parameters, type names, ports and variables that are read from a text are written.
use Rattle.std.proofs.Common.{◌≡◌, ℕ, Bool, true, ◌&&◌, ◌==◌, drop, refl}
use Rattle.ll_engine.specs.declared.tree.Tree.{Tree}
use Rattle.sv_tree.specs.declared.types.TypeText.{TypeText}
use Rattle.typing_walks.specs.WrittenTypes.{type_written}
use Rattle.stmt_laws.specs.Written.{declarator_written, declarators_written, body_written}
use Rattle.routine_laws.specs.Texts.{port_written}
use Rattle.sv_build.specs.declared.rows.TheConstants as R
use Rattle.sv_build.specs.declared.variables.VariableText.{VariableText}
use Rattle.sv_build.specs.Declarations as D
use Rattle.expr_build.specs.Nodes.{kids_of, kid, token, row_of, is_blank}
use Rattle.written_laws.specs.Trees.{parameters_written, typedef_written, data_written, parameter_port_written, parameter_list_written, header_port_written, port_list_written, header_written}
use Rattle.written_laws.proofs.Tests.{both, by-either}
use Rattle.written_laws.proofs.Nodes.{Good, kid-good, kids-good, drop-good}
use Rattle.written_laws.proofs.Lists as L
use Rattle.written_laws.proofs.Lists.{Written}
use Rattle.written_laws.proofs.Types as Y
use Rattle.written_laws.proofs.Types.{dims-read, initial-written, declarator-written, declarators-written, behind-written, type-written}

-- parameters
value-parameter : (of : TypeText) (t : Tree) → type_written of ≡ true → Good t → body_written (D.value_parameter of t) ≡ true
value-parameter of t w g = both w (declarator-written t g)

named-parameter : (first : ℕ) (t : Tree) → Good t → body_written (D.named_parameter_of first t) ≡ true
named-parameter first t g =
    by-either body_written (row_of t == R.SCOPED_PARAMETER_TYPE) _ _ (value-parameter _ (kid 3 t) (Y.named-written _ (kid 2 t) (kid-good 2 t g)) (kid-good 3 t g))
    (by-either body_written (row_of t == R.PARAMETER_TYPE_DIMENSIONS) _ _
    (value-parameter _ (kid 2 t) (Y.named-dims-written _ (kid 0 t) (kid 1 t) (kid-good 0 t g) (kid-good 1 t g)) (kid-good 2 t g))
    (by-either body_written (row_of t == R.PARAMETER_DECLARATOR) _ _ (value-parameter _ (kid 0 t) (Y.bare-written first) (kid-good 0 t g))
    (both Y.no-type-written (initial-written (kid 0 t) (kid-good 0 t g)))))

parameter-body : Written body_written D.parameter_body_of
parameter-body t g =
    by-either body_written (row_of t == R.TYPE_PARAMETER) _ _ (initial-written (kid 2 t) (kid-good 2 t g))
    (by-either body_written (row_of t == R.KEYWORD_PARAMETER) _ _ (value-parameter _ (kid 2 t) (Y.keyword-written (kid 0 t) (kid 1 t) (kid-good 1 t g)) (kid-good 2 t g))
    (by-either body_written (row_of t == R.SIGNED_PARAMETER) _ _ (value-parameter _ (kid 2 t) (Y.signed-written (kid 0 t) (kid 1 t) (kid-good 1 t g)) (kid-good 2 t g))
    (by-either body_written (row_of t == R.DIMENSIONED_PARAMETER) _ _
    (value-parameter _ (kid 2 t) (Y.dimensioned-written (kid 0 t) (kid 1 t) (kid-good 0 t g) (kid-good 1 t g)) (kid-good 2 t g))
    (named-parameter (token 0 t) (kid 1 t) (kid-good 1 t g)))))

pub parameters-written : (t : Tree) (semicolon : ℕ) → Good t → parameters_written (D.parameters_of t semicolon) ≡ true
parameters-written t semicolon g = L.all-items body_written D.parameter_body_of parameter-body (kid 1 t) (kid-good 1 t g)

-- type names
pub typedef-written : Written typedef_written D.typedef_of
typedef-written t g = both (type-written (kid 1 t) (kid-good 1 t g)) (dims-read (kid 3 t) (kid-good 3 t g))

-- ports and formals
typed-port : (of : TypeText) (name : ℕ) (dims : Tree) → type_written of ≡ true → Good dims → port_written (D.typed_port of name dims) ≡ true
typed-port of name dims w g = both w (dims-read dims g)

port-from : (first : ℕ) (t : Tree) → Good t → port_written (D.port_from first t) ≡ true
port-from first t g =
    by-either port_written (is_blank (kid 1 t)) _ _ (dims-read (kid 0 t) (kid-good 0 t g))
    (typed-port _ (token 0 (kid 1 t)) (kid 1 (kid 1 t)) (Y.named-written _ (kid 0 t) (kid-good 0 t g)) (kid-good 1 (kid 1 t) (kid-good 1 t g)))

named-port : (first : ℕ) (t : Tree) → Good t → port_written (D.named_port_of first t) ≡ true
named-port first t g =
    by-either port_written (row_of t == R.MODPORT_PORT) _ _ refl
    (by-either port_written (row_of t == R.SCOPED_PORT_TYPE) _ _ (typed-port _ (token 3 t) (kid 4 t) (Y.named-written _ (kid 2 t) (kid-good 2 t g)) (kid-good 4 t g)) (port-from first t g))

pub port-text : Written port_written D.port_text_of
port-text t g =
    by-either port_written (row_of t == R.KEYWORD_PORT) _ _ (typed-port _ (token 2 t) (kid 3 t) (Y.keyword-written (kid 0 t) (kid 1 t) (kid-good 1 t g)) (kid-good 3 t g))
    (by-either port_written (row_of t == R.SIGNED_PORT) _ _ (typed-port _ (token 2 t) (kid 3 t) (Y.signed-written (kid 0 t) (kid 1 t) (kid-good 1 t g)) (kid-good 3 t g))
    (by-either port_written (row_of t == R.DIMENSIONED_PORT) _ _
    (typed-port _ (token 2 t) (kid 3 t) (Y.dimensioned-written (kid 0 t) (kid 1 t) (kid-good 0 t g) (kid-good 1 t g)) (kid-good 3 t g)) (named-port (token 0 t) (kid 1 t) (kid-good 1 t g))))

header-port : Written header_port_written D.port_of
unfolding D.port_of
header-port t g =
    by-either header_port_written (row_of t == R.DIRECTED_PORT) _ _ (port-text (kid 2 t) (kid-good 2 t g)) (port-text (kid 0 t) (kid-good 0 t g))

port-list : Written port_list_written D.port_list_from
port-list t g = L.all-items header_port_written D.port_of header-port (kid 1 t) (kid-good 1 t g)

-- headers
parameter-port : Written parameter_port_written D.parameter_port_of
unfolding D.parameter_port_of
parameter-port t g = parameter-body (kid 1 t) (kid-good 1 t g)

parameter-list : Written parameter_list_written D.parameter_list_from
parameter-list t g = L.all-items parameter_port_written D.parameter_port_of parameter-port (kid 2 t) (kid-good 2 t g)

pub header-written : Written header_written D.header_of
header-written t g =
    both (L.if-read parameter_list_written D.parameter_list_from parameter-list (kid 3 t) (kid-good 3 t g)) (L.if-read port_list_written D.port_list_from port-list (kid 4 t) (kid-good 4 t g))

-- variables
abbrev pub variables_written : VariableText → Bool
variables_written v = type_written v.of && declarators_written v.declarators

pub variables-of : (of : TypeText) (names : Tree) → type_written of ≡ true → Good names → variables_written (D.variables_of of names) ≡ true
variables-of of names w g = both w (declarators-written names g)

pub declared-written : (name : ℕ) (dims initial : Tree) → Good dims → Good initial → declarator_written (D.declared name dims initial) ≡ true
declared-written name dims initial g h = both (dims-read dims g) (initial-written initial h)

variables-from : (first : ℕ) (t : Tree) → Good t → variables_written (D.variables_from first t) ≡ true
variables-from first t g =
    let behind = behind-written (drop 3 (kids_of t)) (drop-good 3 (kids_of t) (kids-good t g)) in
    by-either variables_written (is_blank (kid 1 t)) _ _
    (both Y.no-type-written (both (declared-written first (kid 0 t) (kid 2 t) (kid-good 0 t g) (kid-good 2 t g)) behind))
    (both (Y.named-written _ (kid 0 t) (kid-good 0 t g))
    (both (declared-written (token 0 (kid 1 t)) (kid 1 (kid 1 t)) (kid 2 t) (kid-good 1 (kid 1 t) (kid-good 1 t g)) (kid-good 2 t g)) behind))

named-variables : (first : ℕ) (t : Tree) → Good t → variables_written (D.named_variables_of first t) ≡ true
named-variables first t g =
    by-either variables_written (row_of t == R.SCOPED_VARIABLE_TYPE) _ _ (variables-of _ (kid 3 t) (Y.named-written _ (kid 2 t) (kid-good 2 t g)) (kid-good 3 t g)) (variables-from first t g)

pub variable-text : Written variables_written D.variable_text_of
variable-text t g =
    by-either variables_written (row_of t == R.KEYWORD_VARIABLE) _ _ (variables-of _ (kid 2 t) (Y.keyword-written (kid 0 t) (kid 1 t) (kid-good 1 t g)) (kid-good 2 t g))
    (by-either variables_written (row_of t == R.AGGREGATE_VARIABLE) _ _
    (variables-of _ (kid 2 t) (Y.aggregate-written (kid 0 t) (kid 1 t) (kid-good 0 t g) (kid-good 1 t g)) (kid-good 2 t g))
    (by-either variables_written (row_of t == R.SIGNED_VARIABLE) _ _ (variables-of _ (kid 2 t) (Y.signed-written (kid 0 t) (kid 1 t) (kid-good 1 t g)) (kid-good 2 t g))
    (by-either variables_written (row_of t == R.DIMENSIONED_VARIABLE) _ _
    (variables-of _ (kid 2 t) (Y.dimensioned-written (kid 0 t) (kid 1 t) (kid-good 0 t g) (kid-good 1 t g)) (kid-good 2 t g)) (named-variables (token 0 t) (kid 1 t) (kid-good 1 t g)))))

pub data-written : (t : Tree) (semicolon : ℕ) → Good t → data_written (D.data_of t semicolon) ≡ true
data-written t semicolon g =
    by-either data_written (row_of t == R.KEYWORD_DATA) _ _ (variables-of _ (kid 2 t) (Y.keyword-written (kid 0 t) (kid 1 t) (kid-good 1 t g)) (kid-good 2 t g))
    (by-either data_written (row_of t == R.AGGREGATE_DATA) _ _
    (variables-of _ (kid 2 t) (Y.aggregate-written (kid 0 t) (kid 1 t) (kid-good 0 t g) (kid-good 1 t g)) (kid-good 2 t g)) (variable-text (kid 1 t) (kid-good 1 t g)))
