-- Parameters, imports, type names, ports and variables, by the rows that they were read by.
use Rattle.std.specs.Prelude.{ℕ, ◌==◌, List, [], ◌∷◌, map, drop, Option, Some, None, if◌then◌else◌}
use Rattle.ll_engine.specs.declared.tree.Tree.{Tree}
use Rattle.sv_tree.specs.declared.declarations.Declarator.{Declarator}
use Rattle.sv_tree.specs.declared.declarations.Import.{Import}
use Rattle.sv_tree.specs.declared.declarations.ImportItem.{ImportItem}
use Rattle.sv_tree.specs.declared.declarations.ImportItem.TheVariants as I
use Rattle.sv_tree.specs.declared.declarations.ParameterBody.{ParameterBody}
use Rattle.sv_tree.specs.declared.declarations.ParameterBody.TheVariants as P
use Rattle.sv_tree.specs.declared.declarations.ParameterDeclaration.{ParameterDeclaration}
use Rattle.sv_tree.specs.declared.items.DataDeclaration.{DataDeclaration}
use Rattle.sv_tree.specs.declared.names.NetOrVariable.{NetOrVariable}
use Rattle.sv_tree.specs.declared.ports.Header.{Header}
use Rattle.sv_tree.specs.declared.ports.ParameterPort.{ParameterPort}
use Rattle.sv_tree.specs.declared.ports.ParameterPortList.{ParameterPortList}
use Rattle.sv_tree.specs.declared.ports.Port.{Port}
use Rattle.sv_tree.specs.declared.ports.PortList.{PortList}
use Rattle.sv_tree.specs.declared.ports.PortText.{PortText}
use Rattle.sv_tree.specs.declared.ports.PortText.TheVariants as T
use Rattle.sv_tree.specs.declared.types.TypeDeclaration.{TypeDeclaration}
use Rattle.sv_tree.specs.declared.types.TypeText.{TypeText}
use Rattle.sv_build.specs.declared.variables.VariableText.{VariableText}
use Rattle.sv_build.specs.declared.rows.TheConstants as R
use Rattle.sv_build.specs.Words.{lifetime_of, parameter_keyword_of, optional_parameter_keyword_of, direction_of, net_of, optional_net_of}
use Rattle.expr_build.specs.Nodes.{kids_of, kid, token, row_of, optional, is_blank, separated}
use Rattle.expr_build.specs.Types.{dims_of, optional_initializer_of, declarator_of, declarators_of, declarators_behind, keyword_text, named_text, named_dims_text, bare_text, signed_text, dimensioned_text, no_type, alone, scoped, type_of, aggregate_text}

-- a name with a value, without a type
abbrev pub untyped : ℕ → Tree → Declarator
untyped name initial = record { name = name; unpacked = []; initial = optional_initializer_of initial }

abbrev pub declared : ℕ → Tree → Tree → Declarator
declared name dims initial = record { name = name; unpacked = dims_of dims; initial = optional_initializer_of initial }

abbrev pub value_parameter : TypeText → Tree → ParameterBody
value_parameter of t = P.Value of (declarator_of t)

abbrev pub untyped_parameter : ℕ → Tree → ParameterBody
untyped_parameter name t = P.Value no_type (untyped name t)

-- parameters: what stands behind a first name, and the whole
abbrev pub named_parameter_of : ℕ → Tree → ParameterBody
named_parameter_of first t =
    if row_of t == R.SCOPED_PARAMETER_TYPE then value_parameter (named_text (scoped first (token 0 t) (token 1 t)) (kid 2 t)) (kid 3 t)
    else (if row_of t == R.PARAMETER_TYPE_DIMENSIONS then value_parameter (named_dims_text (alone first) (kid 0 t) (kid 1 t)) (kid 2 t)
    else (if row_of t == R.PARAMETER_DECLARATOR then value_parameter (bare_text first) (kid 0 t)
    else untyped_parameter first (kid 0 t)))

abbrev pub type_parameter_of : Tree → ParameterBody
type_parameter_of t = P.Type (token 0 t) (token 1 t) (optional_initializer_of (kid 2 t))

abbrev pub parameter_body_of : Tree → ParameterBody
parameter_body_of t =
    if row_of t == R.TYPE_PARAMETER then type_parameter_of t
    else (if row_of t == R.KEYWORD_PARAMETER then value_parameter (keyword_text (kid 0 t) (kid 1 t)) (kid 2 t)
    else (if row_of t == R.SIGNED_PARAMETER then value_parameter (signed_text (kid 0 t) (kid 1 t)) (kid 2 t)
    else (if row_of t == R.DIMENSIONED_PARAMETER then value_parameter (dimensioned_text (kid 0 t) (kid 1 t)) (kid 2 t)
    else named_parameter_of (token 0 t) (kid 1 t))))

-- the `;` stands behind the parameters
abbrev pub parameters_of : Tree → ℕ → ParameterDeclaration
parameters_of t semicolon = record {
  keyword = parameter_keyword_of (kid 0 t);
  bodies = separated parameter_body_of (kids_of (kid 1 t));
  semicolon = semicolon;
}

-- imports
abbrev pub import_item_of : Tree → ImportItem
import_item_of t =
    if row_of (kid 2 t) == R.IMPORTED_NAME then I.Name (token 0 t) (token 1 t) (token 0 (kid 2 t))
    else I.All (token 0 t) (token 1 t) (token 0 (kid 2 t))

abbrev pub import_of : Tree → Import
import_of t = record { keyword = token 0 t; items = separated import_item_of (kids_of (kid 1 t)); semicolon = token 2 t }

-- type names
abbrev pub typedef_of : Tree → TypeDeclaration
typedef_of t = record { keyword = token 0 t; of = type_of (kid 1 t); name = token 2 t; unpacked = dims_of (kid 3 t); semicolon = token 4 t }

abbrev pub typed_port : TypeText → ℕ → Tree → PortText
typed_port of name dims = T.Typed of name (dims_of dims)

-- type and name of a port or a formal argument: what stands behind a first name, and the whole
abbrev pub port_from : ℕ → Tree → PortText
port_from first t =
    if is_blank (kid 1 t) then T.Bare first (dims_of (kid 0 t))
    else typed_port (named_text (alone first) (kid 0 t)) (token 0 (kid 1 t)) (kid 1 (kid 1 t))

abbrev pub named_port_of : ℕ → Tree → PortText
named_port_of first t =
    if row_of t == R.MODPORT_PORT then T.Modport first (token 0 t) (token 1 t) (token 2 t)
    else (if row_of t == R.SCOPED_PORT_TYPE then typed_port (named_text (scoped first (token 0 t) (token 1 t)) (kid 2 t)) (token 3 t) (kid 4 t)
    else port_from first t)

abbrev pub port_text_of : Tree → PortText
port_text_of t =
    if row_of t == R.KEYWORD_PORT then typed_port (keyword_text (kid 0 t) (kid 1 t)) (token 2 t) (kid 3 t)
    else (if row_of t == R.SIGNED_PORT then typed_port (signed_text (kid 0 t) (kid 1 t)) (token 2 t) (kid 3 t)
    else (if row_of t == R.DIMENSIONED_PORT then typed_port (dimensioned_text (kid 0 t) (kid 1 t)) (token 2 t) (kid 3 t)
    else named_port_of (token 0 t) (kid 1 t)))

unfoldable pub port_of : Tree → Port
port_of t =
    if row_of t == R.DIRECTED_PORT then record { direction = Some (direction_of (kid 0 t)); net = optional_net_of (kid 1 t); text = port_text_of (kid 2 t) }
    else record { direction = None; net = None; text = port_text_of (kid 0 t) }

abbrev pub port_list_from : Tree → PortList
port_list_from t = record { opening = token 0 t; ports = separated port_of (kids_of (kid 1 t)); closing = token 2 t }

abbrev pub port_list_of : Tree → Option PortList
port_list_of t = optional port_list_from t

-- headers
unfoldable pub parameter_port_of : Tree → ParameterPort
parameter_port_of t = record { keyword = optional_parameter_keyword_of (kid 0 t); body = parameter_body_of (kid 1 t) }

abbrev pub parameter_list_from : Tree → ParameterPortList
parameter_list_from t = record {
  hash = token 0 t;
  opening = token 1 t;
  parameters = separated parameter_port_of (kids_of (kid 2 t));
  closing = token 3 t;
}

abbrev pub parameter_list_of : Tree → Option ParameterPortList
parameter_list_of t = optional parameter_list_from t

abbrev pub header_of : Tree → Header
header_of t = record {
  lifetime = lifetime_of (kid 0 t);
  name = token 1 t;
  imports = map import_of (kids_of (kid 2 t));
  parameters = parameter_list_of (kid 3 t);
  ports = port_list_of (kid 4 t);
  semicolon = token 5 t;
}

-- a type and the names that have it
abbrev pub variables : TypeText → List Declarator → VariableText
variables of names = record { of = of; declarators = names }

abbrev pub variables_of : TypeText → Tree → VariableText
variables_of of names = variables of (declarators_of names)

-- what stands behind a first name: that of the first variable, or of the type
abbrev pub untyped_variables : ℕ → Tree → VariableText
untyped_variables first t = variables no_type (declared first (kid 0 t) (kid 2 t) ∷ declarators_behind (drop 3 (kids_of t)))

abbrev pub typed_variables : ℕ → Tree → VariableText
typed_variables first t =
    variables (named_text (alone first) (kid 0 t)) (declared (token 0 (kid 1 t)) (kid 1 (kid 1 t)) (kid 2 t) ∷ declarators_behind (drop 3 (kids_of t)))

abbrev pub variables_from : ℕ → Tree → VariableText
variables_from first t = if is_blank (kid 1 t) then untyped_variables first t else typed_variables first t

abbrev pub named_variables_of : ℕ → Tree → VariableText
named_variables_of first t =
    if row_of t == R.SCOPED_VARIABLE_TYPE then variables_of (named_text (scoped first (token 0 t) (token 1 t)) (kid 2 t)) (kid 3 t)
    else variables_from first t

abbrev pub variable_text_of : Tree → VariableText
variable_text_of t =
    if row_of t == R.KEYWORD_VARIABLE then variables_of (keyword_text (kid 0 t) (kid 1 t)) (kid 2 t)
    else (if row_of t == R.AGGREGATE_VARIABLE then variables_of (aggregate_text (kid 0 t) (kid 1 t)) (kid 2 t)
    else (if row_of t == R.SIGNED_VARIABLE then variables_of (signed_text (kid 0 t) (kid 1 t)) (kid 2 t)
    else (if row_of t == R.DIMENSIONED_VARIABLE then variables_of (dimensioned_text (kid 0 t) (kid 1 t)) (kid 2 t)
    else named_variables_of (token 0 t) (kid 1 t))))

-- variables and nets of a module
abbrev pub data_with : Option NetOrVariable → VariableText → ℕ → DataDeclaration
data_with net text semicolon = record { net = net; of = text.of; declarators = text.declarators; semicolon = semicolon }

abbrev pub data_of : Tree → ℕ → DataDeclaration
data_of t semicolon =
    if row_of t == R.KEYWORD_DATA then data_with None (variables_of (keyword_text (kid 0 t) (kid 1 t)) (kid 2 t)) semicolon
    else (if row_of t == R.AGGREGATE_DATA then data_with None (variables_of (aggregate_text (kid 0 t) (kid 1 t)) (kid 2 t)) semicolon
    else data_with (Some (net_of (kid 0 t))) (variable_text_of (kid 1 t)) semicolon)
