-- The grammar of the source texts that are read, as a table of rows: one row for each alternative of a head. A group that may be
-- left out, that is repeated or that is a choice is a head of its own. So a row has as many parts in a text as in the table, but for
-- a repeated part or an `else` at its end. Operators with their precedence (clause 11.3.2) are chains, the weakest first. The
-- annexes in brackets are those of IEEE 1800-2017.
use Rattle.std.specs.Prelude.{ℕ, List, [], ◌∷◌, ◌++◌, true, false, codes}
use Prim.Native.String.{String}
use Rattle.ll_engine.specs.declared.table.Part.{Part}
use Rattle.ll_engine.specs.declared.table.Part.TheVariants.{Term, Non, Maybe, Many, Chain}
use Rattle.ll_engine.specs.declared.table.Row.{Row}
use Rattle.sv_tree.specs.Heads as head
use Rattle.sv_tree.specs.Symbols.{mark_symbol, word_symbol}
use Rattle.sv_tree.specs.declared.symbols.TheConstants.{IDENTIFIER, SYSTEM, DECIMAL, BASED, FILL}

abbrev pub plain : ℕ → List Part → Row
plain head parts = record { head = head; parts = parts; deep = false }

-- a row at whose tokens nesting is one deeper
abbrev pub nested : ℕ → List Part → Row
nested head parts = record { head = head; parts = parts; deep = true }

abbrev pub word : String → Part
word text = Term (word_symbol (codes text))

abbrev pub mark : String → Part
mark text = Term (mark_symbol (codes text))

abbrev pub identifier : Part
identifier = Term IDENTIFIER

-- source texts, packages and imports (A.1.2, A.1.11, A.2.1.3)
abbrev pub description_rows : List Row
description_rows =
    plain head.source_text (Many head.description ∷ [])
    ∷ plain head.description (Non head.package_declaration ∷ [])
    ∷ plain head.description (Non head.module_declaration ∷ [])
    ∷ plain head.description (Non head.interface_declaration ∷ [])
    ∷ plain head.description (Non head.package_import_declaration ∷ [])
    ∷ plain head.description (Non head.type_declaration ∷ [])
    ∷ plain head.description (Non head.parameter_declaration ∷ mark ";" ∷ [])
    ∷ plain head.description (Non head.function_declaration ∷ [])
    ∷ plain head.description (Non head.task_declaration ∷ [])
    ∷ plain head.description (mark ";" ∷ [])
    ∷ plain head.package_declaration (word "package" ∷ Non head.optional_lifetime ∷ identifier ∷ mark ";" ∷ Non head.package_items ∷ word "endpackage" ∷ Non head.optional_label ∷ [])
    ∷ plain head.package_items (Many head.package_item ∷ [])
    ∷ plain head.package_item (Non head.package_import_declaration ∷ [])
    ∷ plain head.package_item (Non head.type_declaration ∷ [])
    ∷ plain head.package_item (Non head.parameter_declaration ∷ mark ";" ∷ [])
    ∷ plain head.package_item (Non head.function_declaration ∷ [])
    ∷ plain head.package_item (Non head.task_declaration ∷ [])
    ∷ plain head.package_item (mark ";" ∷ [])
    ∷ plain head.optional_label []
    ∷ plain head.optional_label (mark ":" ∷ identifier ∷ [])
    ∷ plain head.optional_lifetime []
    ∷ plain head.optional_lifetime (word "automatic" ∷ [])
    ∷ plain head.optional_lifetime (word "static" ∷ [])
    ∷ plain head.package_import_declaration (word "import" ∷ Non head.package_import_items ∷ mark ";" ∷ [])
    ∷ plain head.package_import_items (Non head.package_import_item ∷ Many head.next_package_import_item ∷ [])
    ∷ plain head.next_package_import_item (mark "," ∷ Non head.package_import_item ∷ [])
    ∷ plain head.package_import_item (identifier ∷ mark "::" ∷ Non head.imported_name ∷ [])
    ∷ plain head.imported_name (identifier ∷ [])
    ∷ plain head.imported_name (mark "*" ∷ [])
    ∷ plain head.module_declaration (word "module" ∷ Non head.header ∷ Non head.module_items ∷ word "endmodule" ∷ Non head.optional_label ∷ [])
    ∷ plain head.interface_declaration (word "interface" ∷ Non head.header ∷ Non head.module_items ∷ word "endinterface" ∷ Non head.optional_label ∷ [])
    ∷ []

-- headers of modules and interfaces (A.1.2, A.1.3)
abbrev pub header_rows : List Row
header_rows =
    plain head.header (Non head.optional_lifetime ∷ identifier ∷ Non head.header_imports ∷ Non head.optional_parameter_port_list ∷ Non head.optional_port_list ∷ mark ";" ∷ [])
    ∷ plain head.header_imports (Many head.package_import_declaration ∷ [])
    ∷ plain head.optional_parameter_port_list []
    ∷ plain head.optional_parameter_port_list (mark "#" ∷ mark "(" ∷ Non head.optional_parameter_ports ∷ mark ")" ∷ [])
    ∷ plain head.optional_parameter_ports []
    ∷ plain head.optional_parameter_ports (Non head.parameter_port_declaration ∷ Many head.next_parameter_port ∷ [])
    ∷ plain head.next_parameter_port (mark "," ∷ Non head.parameter_port_declaration ∷ [])
    ∷ plain head.parameter_port_declaration (Non head.optional_parameter_keyword ∷ Non head.parameter_body ∷ [])
    ∷ plain head.optional_port_list []
    ∷ plain head.optional_port_list (mark "(" ∷ Non head.optional_ports ∷ mark ")" ∷ [])
    ∷ plain head.optional_ports []
    ∷ plain head.optional_ports (Non head.port_declaration ∷ Many head.next_port ∷ [])
    ∷ plain head.next_port (mark "," ∷ Non head.port_declaration ∷ [])
    ∷ []

-- parameters and declared names (A.2.1.1, A.2.3, A.2.4, A.2.5)
abbrev pub parameter_rows : List Row
parameter_rows =
    plain head.parameter_declaration (Non head.parameter_keyword ∷ Non head.parameter_bodies ∷ [])
    ∷ plain head.parameter_keyword (word "parameter" ∷ [])
    ∷ plain head.parameter_keyword (word "localparam" ∷ [])
    ∷ plain head.optional_parameter_keyword []
    ∷ plain head.optional_parameter_keyword (Non head.parameter_keyword ∷ [])
    ∷ plain head.parameter_bodies (Non head.parameter_body ∷ Many head.next_parameter_body ∷ [])
    ∷ plain head.next_parameter_body (mark "," ∷ Non head.parameter_body ∷ [])
    ∷ plain head.parameter_body (word "type" ∷ identifier ∷ Non head.optional_initializer ∷ [])
    ∷ plain head.parameter_body (Non head.keyword_type ∷ Non head.dimensions ∷ Non head.declarator ∷ [])
    ∷ plain head.parameter_body (Non head.signing ∷ Non head.dimensions ∷ Non head.declarator ∷ [])
    ∷ plain head.parameter_body (Non head.dimension ∷ Non head.dimensions ∷ Non head.declarator ∷ [])
    ∷ plain head.parameter_body (identifier ∷ Non head.parameter_name_rest ∷ [])
    ∷ plain head.parameter_name_rest (mark "::" ∷ identifier ∷ Non head.dimensions ∷ Non head.declarator ∷ [])
    ∷ plain head.parameter_name_rest (Non head.dimension ∷ Non head.dimensions ∷ Non head.declarator ∷ [])
    ∷ plain head.parameter_name_rest (Non head.declarator ∷ [])
    ∷ plain head.parameter_name_rest (Non head.optional_initializer ∷ [])
    ∷ plain head.optional_initializer []
    ∷ plain head.optional_initializer (mark "=" ∷ Non head.expression ∷ [])
    ∷ plain head.declarators (Non head.declarator ∷ Many head.next_declarator ∷ [])
    ∷ plain head.next_declarator (mark "," ∷ Non head.declarator ∷ [])
    ∷ plain head.declarator (identifier ∷ Non head.dimensions ∷ Non head.optional_initializer ∷ [])
    ∷ plain head.dimensions (Many head.dimension ∷ [])
    ∷ plain head.dimension (mark "[" ∷ Non head.expression ∷ Non head.optional_right_bound ∷ mark "]" ∷ [])
    ∷ plain head.optional_right_bound []
    ∷ plain head.optional_right_bound (mark ":" ∷ Non head.expression ∷ [])
    ∷ []

-- ports (A.1.3)
abbrev pub port_rows : List Row
port_rows =
    plain head.port_declaration (Non head.port_direction ∷ Non head.optional_net_or_variable ∷ Non head.port_type ∷ [])
    ∷ plain head.port_declaration (Non head.port_type ∷ [])
    ∷ plain head.port_direction (word "input" ∷ [])
    ∷ plain head.port_direction (word "output" ∷ [])
    ∷ plain head.optional_port_direction []
    ∷ plain head.optional_port_direction (Non head.port_direction ∷ [])
    ∷ plain head.net_or_variable (word "wire" ∷ [])
    ∷ plain head.net_or_variable (word "var" ∷ [])
    ∷ plain head.optional_net_or_variable []
    ∷ plain head.optional_net_or_variable (Non head.net_or_variable ∷ [])
    ∷ plain head.port_type (Non head.keyword_type ∷ Non head.dimensions ∷ identifier ∷ Non head.dimensions ∷ [])
    ∷ plain head.port_type (Non head.signing ∷ Non head.dimensions ∷ identifier ∷ Non head.dimensions ∷ [])
    ∷ plain head.port_type (Non head.dimension ∷ Non head.dimensions ∷ identifier ∷ Non head.dimensions ∷ [])
    ∷ plain head.port_type (identifier ∷ Non head.port_name_rest ∷ [])
    ∷ plain head.port_name_rest (mark "." ∷ identifier ∷ identifier ∷ [])
    ∷ plain head.port_name_rest (mark "::" ∷ identifier ∷ Non head.dimensions ∷ identifier ∷ Non head.dimensions ∷ [])
    ∷ plain head.port_name_rest (Non head.dimensions ∷ Non head.optional_dimensioned_name ∷ [])
    ∷ plain head.optional_dimensioned_name []
    ∷ plain head.optional_dimensioned_name (identifier ∷ Non head.dimensions ∷ [])
    ∷ []

-- types (A.2.1.3, A.2.2.1)
abbrev pub type_rows : List Row
type_rows =
    plain head.keyword_type (Non head.type_keyword ∷ Non head.optional_signing ∷ [])
    ∷ plain head.type_keyword (word "bit" ∷ [])
    ∷ plain head.type_keyword (word "logic" ∷ [])
    ∷ plain head.type_keyword (word "reg" ∷ [])
    ∷ plain head.type_keyword (word "byte" ∷ [])
    ∷ plain head.type_keyword (word "shortint" ∷ [])
    ∷ plain head.type_keyword (word "int" ∷ [])
    ∷ plain head.type_keyword (word "longint" ∷ [])
    ∷ plain head.type_keyword (word "integer" ∷ [])
    ∷ plain head.signing (word "signed" ∷ [])
    ∷ plain head.signing (word "unsigned" ∷ [])
    ∷ plain head.optional_signing []
    ∷ plain head.optional_signing (Non head.signing ∷ [])
    ∷ nested head.data_type (Non head.keyword_type ∷ Non head.dimensions ∷ [])
    ∷ nested head.data_type (Non head.aggregate_type ∷ Non head.dimensions ∷ [])
    ∷ nested head.data_type (identifier ∷ Non head.optional_scoped_name ∷ Non head.dimensions ∷ [])
    ∷ plain head.optional_scoped_name []
    ∷ plain head.optional_scoped_name (mark "::" ∷ identifier ∷ [])
    ∷ plain head.aggregate_type (Non head.struct_union ∷ Non head.optional_packing ∷ mark "{" ∷ Non head.struct_union_members ∷ mark "}" ∷ [])
    ∷ plain head.aggregate_type (word "enum" ∷ Non head.optional_enum_base_type ∷ mark "{" ∷ Non head.enum_names ∷ mark "}" ∷ [])
    ∷ plain head.struct_union (word "struct" ∷ [])
    ∷ plain head.struct_union (word "union" ∷ [])
    ∷ plain head.optional_packing []
    ∷ plain head.optional_packing (word "packed" ∷ Non head.optional_signing ∷ [])
    ∷ plain head.struct_union_members (Non head.struct_union_member ∷ Many head.struct_union_member ∷ [])
    ∷ plain head.struct_union_member (Non head.data_type ∷ Non head.dimensioned_names ∷ mark ";" ∷ [])
    ∷ plain head.dimensioned_names (Non head.dimensioned_name ∷ Many head.next_dimensioned_name ∷ [])
    ∷ plain head.next_dimensioned_name (mark "," ∷ Non head.dimensioned_name ∷ [])
    ∷ plain head.dimensioned_name (identifier ∷ Non head.dimensions ∷ [])
    ∷ plain head.optional_enum_base_type []
    ∷ plain head.optional_enum_base_type (Non head.keyword_type ∷ Non head.dimensions ∷ [])
    ∷ plain head.optional_enum_base_type (identifier ∷ Non head.optional_scoped_name ∷ Non head.dimensions ∷ [])
    ∷ plain head.enum_names (Non head.enum_name_declaration ∷ Many head.next_enum_name ∷ [])
    ∷ plain head.next_enum_name (mark "," ∷ Non head.enum_name_declaration ∷ [])
    ∷ plain head.enum_name_declaration (identifier ∷ Non head.optional_initializer ∷ [])
    ∷ plain head.type_declaration (word "typedef" ∷ Non head.data_type ∷ identifier ∷ Non head.dimensions ∷ mark ";" ∷ [])
    ∷ []

-- items of modules, interfaces and generate blocks (A.1.4, A.2.1.3, A.6.1)
abbrev pub item_rows : List Row
item_rows =
    plain head.module_items (Many head.module_item ∷ [])
    ∷ plain head.module_item (Non head.parameter_declaration ∷ mark ";" ∷ [])
    ∷ plain head.module_item (Non head.type_declaration ∷ [])
    ∷ plain head.module_item (Non head.package_import_declaration ∷ [])
    ∷ plain head.module_item (Non head.function_declaration ∷ [])
    ∷ plain head.module_item (Non head.task_declaration ∷ [])
    ∷ plain head.module_item (Non head.data_declaration ∷ mark ";" ∷ [])
    ∷ plain head.module_item (word "genvar" ∷ Non head.names ∷ mark ";" ∷ [])
    ∷ plain head.module_item (word "assign" ∷ Non head.net_assignments ∷ mark ";" ∷ [])
    ∷ plain head.module_item (Non head.always_construct ∷ [])
    ∷ nested head.module_item (word "generate" ∷ Non head.module_items ∷ word "endgenerate" ∷ [])
    ∷ plain head.module_item (Non head.loop_generate_construct ∷ [])
    ∷ plain head.module_item (Non head.if_generate_construct ∷ [])
    ∷ plain head.module_item (Non head.case_generate_construct ∷ [])
    ∷ plain head.module_item (Non head.modport_declaration ∷ [])
    ∷ plain head.module_item (identifier ∷ Non head.item_name_rest ∷ [])
    ∷ plain head.module_item (mark ";" ∷ [])
    ∷ plain head.names (identifier ∷ Many head.next_name ∷ [])
    ∷ plain head.next_name (mark "," ∷ identifier ∷ [])
    ∷ plain head.net_assignments (Non head.net_assignment ∷ Many head.next_net_assignment ∷ [])
    ∷ plain head.next_net_assignment (mark "," ∷ Non head.net_assignment ∷ [])
    ∷ plain head.net_assignment (Non head.variable_lvalue ∷ mark "=" ∷ Non head.expression ∷ [])
    ∷ plain head.data_declaration (Non head.keyword_type ∷ Non head.dimensions ∷ Non head.declarators ∷ [])
    ∷ plain head.data_declaration (Non head.aggregate_type ∷ Non head.dimensions ∷ Non head.declarators ∷ [])
    ∷ plain head.data_declaration (Non head.net_or_variable ∷ Non head.variable_type ∷ [])
    ∷ plain head.variable_type (Non head.keyword_type ∷ Non head.dimensions ∷ Non head.declarators ∷ [])
    ∷ plain head.variable_type (Non head.aggregate_type ∷ Non head.dimensions ∷ Non head.declarators ∷ [])
    ∷ plain head.variable_type (Non head.signing ∷ Non head.dimensions ∷ Non head.declarators ∷ [])
    ∷ plain head.variable_type (Non head.dimension ∷ Non head.dimensions ∷ Non head.declarators ∷ [])
    ∷ plain head.variable_type (identifier ∷ Non head.variable_name_rest ∷ [])
    ∷ plain head.variable_name_rest (mark "::" ∷ identifier ∷ Non head.dimensions ∷ Non head.declarators ∷ [])
    ∷ plain head.variable_name_rest (Non head.dimensions ∷ Non head.optional_dimensioned_name ∷ Non head.optional_initializer ∷ Many head.next_declarator ∷ [])
    ∷ plain head.item_name_rest (mark "::" ∷ identifier ∷ Non head.dimensions ∷ Non head.declarators ∷ mark ";" ∷ [])
    ∷ plain head.item_name_rest (Non head.dimension ∷ Non head.dimensions ∷ Non head.declarators ∷ mark ";" ∷ [])
    ∷ plain head.item_name_rest (identifier ∷ Non head.declared_name_rest ∷ [])
    ∷ plain head.item_name_rest (mark "#" ∷ mark "(" ∷ Non head.optional_parameter_assignments ∷ mark ")" ∷ Non head.hierarchical_instances ∷ mark ";" ∷ [])
    ∷ plain head.declared_name_rest (mark "(" ∷ Non head.optional_port_connections ∷ mark ")" ∷ Non head.next_instances ∷ mark ";" ∷ [])
    ∷ plain head.declared_name_rest (Non head.dimensions ∷ Non head.optional_initializer ∷ Non head.next_declarators ∷ mark ";" ∷ [])
    ∷ plain head.next_declarators (Many head.next_declarator ∷ [])
    ∷ []

-- instances (A.4.1.1)
abbrev pub instance_rows : List Row
instance_rows =
    plain head.optional_parameter_assignments []
    ∷ plain head.optional_parameter_assignments (Non head.parameter_assignment ∷ Many head.next_parameter_assignment ∷ [])
    ∷ plain head.next_parameter_assignment (mark "," ∷ Non head.parameter_assignment ∷ [])
    ∷ plain head.parameter_assignment (mark "." ∷ identifier ∷ mark "(" ∷ Non head.optional_expression ∷ mark ")" ∷ [])
    ∷ plain head.parameter_assignment (Non head.expression ∷ [])
    ∷ plain head.hierarchical_instances (Non head.hierarchical_instance ∷ Many head.next_instance ∷ [])
    ∷ plain head.next_instances (Many head.next_instance ∷ [])
    ∷ plain head.next_instance (mark "," ∷ Non head.hierarchical_instance ∷ [])
    ∷ plain head.hierarchical_instance (identifier ∷ mark "(" ∷ Non head.optional_port_connections ∷ mark ")" ∷ [])
    ∷ plain head.optional_port_connections []
    ∷ plain head.optional_port_connections (Non head.port_connection ∷ Many head.next_port_connection ∷ [])
    ∷ plain head.next_port_connection (mark "," ∷ Non head.port_connection ∷ [])
    ∷ plain head.port_connection (mark "." ∷ identifier ∷ Non head.optional_connected_expression ∷ [])
    ∷ plain head.port_connection (mark ".*" ∷ [])
    ∷ plain head.port_connection (Non head.expression ∷ [])
    ∷ plain head.optional_connected_expression []
    ∷ plain head.optional_connected_expression (mark "(" ∷ Non head.optional_expression ∷ mark ")" ∷ [])
    ∷ []

-- generate constructs (A.4.2)
abbrev pub generate_rows : List Row
generate_rows =
    plain head.loop_generate_construct (word "for" ∷ mark "(" ∷ Non head.optional_genvar_keyword ∷ identifier ∷ mark "=" ∷ Non head.expression ∷ mark ";" ∷ Non head.expression ∷ mark ";" ∷ Non head.for_step ∷ mark ")" ∷ Non head.generate_block ∷ [])
    ∷ plain head.optional_genvar_keyword []
    ∷ plain head.optional_genvar_keyword (word "genvar" ∷ [])
    ∷ plain head.if_generate_construct (word "if" ∷ mark "(" ∷ Non head.expression ∷ mark ")" ∷ Non head.generate_block ∷ Maybe head.generate_else ∷ [])
    ∷ plain head.generate_else (word "else" ∷ Non head.generate_block ∷ [])
    ∷ plain head.case_generate_construct (word "case" ∷ mark "(" ∷ Non head.expression ∷ mark ")" ∷ Non head.case_generate_body ∷ word "endcase" ∷ [])
    ∷ plain head.case_generate_body (Non head.case_generate_item ∷ Non head.case_generate_items ∷ Non head.optional_case_generate_default ∷ [])
    ∷ plain head.case_generate_body (Non head.case_generate_default ∷ Many head.case_generate_item ∷ [])
    ∷ plain head.case_generate_items (Many head.case_generate_item ∷ [])
    ∷ plain head.optional_case_generate_default []
    ∷ plain head.optional_case_generate_default (Non head.case_generate_default ∷ Many head.case_generate_item ∷ [])
    ∷ plain head.case_generate_default (word "default" ∷ Non head.optional_colon ∷ Non head.generate_block ∷ [])
    ∷ plain head.optional_colon []
    ∷ plain head.optional_colon (mark ":" ∷ [])
    ∷ plain head.case_generate_item (Non head.expressions ∷ mark ":" ∷ Non head.generate_block ∷ [])
    ∷ plain head.expressions (Non head.expression ∷ Many head.next_expression ∷ [])
    ∷ plain head.next_expression (mark "," ∷ Non head.expression ∷ [])
    ∷ plain head.optional_expression []
    ∷ plain head.optional_expression (Non head.expression ∷ [])
    ∷ nested head.generate_block (word "begin" ∷ Non head.optional_label ∷ Non head.module_items ∷ word "end" ∷ Non head.optional_label ∷ [])
    ∷ nested head.generate_block (Non head.module_item ∷ [])
    ∷ []

-- modports (A.2.9)
abbrev pub modport_rows : List Row
modport_rows =
    plain head.modport_declaration (word "modport" ∷ Non head.modport_items ∷ mark ";" ∷ [])
    ∷ plain head.modport_items (Non head.modport_item ∷ Many head.next_modport_item ∷ [])
    ∷ plain head.next_modport_item (mark "," ∷ Non head.modport_item ∷ [])
    ∷ plain head.modport_item (identifier ∷ mark "(" ∷ Non head.modport_ports ∷ mark ")" ∷ [])
    ∷ plain head.modport_ports (Non head.modport_port ∷ Many head.next_modport_port ∷ [])
    ∷ plain head.next_modport_port (mark "," ∷ Non head.modport_port ∷ [])
    ∷ plain head.modport_port (Non head.optional_port_direction ∷ identifier ∷ [])
    ∷ []

-- functions (A.2.6, A.2.7)
abbrev pub function_rows : List Row
function_rows =
    plain head.function_declaration (word "function" ∷ Non head.optional_lifetime ∷ Non head.function_type ∷ Non head.optional_tf_port_list ∷ mark ";" ∷ Non head.block_items ∷ word "endfunction" ∷ Non head.optional_label ∷ [])
    ∷ plain head.function_type (Non head.keyword_type ∷ Non head.dimensions ∷ identifier ∷ [])
    ∷ plain head.function_type (Non head.signing ∷ Non head.dimensions ∷ identifier ∷ [])
    ∷ plain head.function_type (Non head.dimension ∷ Non head.dimensions ∷ identifier ∷ [])
    ∷ plain head.function_type (identifier ∷ Non head.function_name_rest ∷ [])
    ∷ plain head.function_type (word "void" ∷ identifier ∷ [])
    ∷ plain head.function_name_rest (mark "::" ∷ identifier ∷ Non head.dimensions ∷ identifier ∷ [])
    ∷ plain head.function_name_rest (Non head.dimensions ∷ Non head.optional_name ∷ [])
    ∷ plain head.optional_name []
    ∷ plain head.optional_name (identifier ∷ [])
    ∷ plain head.optional_tf_port_list []
    ∷ plain head.optional_tf_port_list (mark "(" ∷ Non head.optional_tf_ports ∷ mark ")" ∷ [])
    ∷ plain head.optional_tf_ports []
    ∷ plain head.optional_tf_ports (Non head.tf_port_item ∷ Many head.next_tf_port ∷ [])
    ∷ plain head.next_tf_port (mark "," ∷ Non head.tf_port_item ∷ [])
    ∷ plain head.tf_port_item (Non head.optional_tf_port_direction ∷ Non head.port_type ∷ [])
    ∷ plain head.optional_tf_port_direction []
    ∷ plain head.optional_tf_port_direction (word "input" ∷ [])
    ∷ plain head.optional_tf_port_direction (word "output" ∷ [])
    ∷ plain head.optional_tf_port_direction (word "inout" ∷ [])
    ∷ plain head.task_declaration (word "task" ∷ Non head.optional_lifetime ∷ identifier ∷ Non head.optional_tf_port_list ∷ mark ";" ∷ Non head.block_items ∷ word "endtask" ∷ Non head.optional_label ∷ [])
    ∷ []

-- processes and what they wait for (A.6.2, A.6.5)
abbrev pub always_rows : List Row
always_rows =
    plain head.always_construct (word "always_comb" ∷ Non head.statement ∷ [])
    ∷ plain head.always_construct (word "always_latch" ∷ Non head.statement ∷ [])
    ∷ plain head.always_construct (word "always_ff" ∷ mark "@" ∷ mark "(" ∷ Non head.event_expression ∷ mark ")" ∷ Non head.statement ∷ [])
    ∷ plain head.always_construct (word "always" ∷ mark "@" ∷ Non head.event_control ∷ Non head.statement ∷ [])
    ∷ plain head.event_control (mark "*" ∷ [])
    ∷ plain head.event_control (mark "(*)" ∷ [])
    ∷ plain head.event_control (mark "(*" ∷ mark ")" ∷ [])
    ∷ plain head.event_control (mark "(" ∷ Non head.event_control_rest ∷ [])
    ∷ plain head.event_control_rest (mark "*" ∷ mark ")" ∷ [])
    ∷ plain head.event_control_rest (mark "*)" ∷ [])
    ∷ plain head.event_control_rest (Non head.event_expression ∷ mark ")" ∷ [])
    ∷ plain head.event_expression (Non head.event_edge ∷ Many head.next_event_edge ∷ [])
    ∷ plain head.next_event_edge (Non head.event_separator ∷ Non head.event_edge ∷ [])
    ∷ plain head.event_separator (word "or" ∷ [])
    ∷ plain head.event_separator (mark "," ∷ [])
    ∷ plain head.event_edge (Non head.edge_identifier ∷ identifier ∷ Non head.optional_event_member ∷ [])
    ∷ plain head.edge_identifier (word "posedge" ∷ [])
    ∷ plain head.edge_identifier (word "negedge" ∷ [])
    ∷ plain head.optional_event_member []
    ∷ plain head.optional_event_member (mark "." ∷ identifier ∷ [])
    ∷ []

-- statements and declarations in blocks (A.2.8, A.6.3, A.6.4)
abbrev pub block_rows : List Row
block_rows =
    nested head.statement (Non head.statement_item ∷ [])
    ∷ nested head.statement (identifier ∷ Non head.statement_name_rest ∷ [])
    ∷ plain head.statement_name_rest (Non head.call ∷ mark ";" ∷ [])
    ∷ plain head.statement_name_rest (mark "::" ∷ identifier ∷ Non head.call ∷ mark ";" ∷ [])
    ∷ plain head.statement_name_rest (Non head.selects ∷ Non head.assignment_rest ∷ mark ";" ∷ [])
    ∷ plain head.call (mark "(" ∷ Non head.optional_arguments ∷ mark ")" ∷ [])
    ∷ plain head.block_items (Many head.block_item ∷ [])
    ∷ nested head.block_item (Non head.statement_item ∷ [])
    ∷ nested head.block_item (Non head.parameter_declaration ∷ mark ";" ∷ [])
    ∷ nested head.block_item (word "automatic" ∷ Non head.automatic_declaration ∷ mark ";" ∷ [])
    ∷ nested head.block_item (Non head.keyword_type ∷ Non head.dimensions ∷ Non head.declarators ∷ mark ";" ∷ [])
    ∷ nested head.block_item (Non head.aggregate_type ∷ Non head.dimensions ∷ Non head.declarators ∷ mark ";" ∷ [])
    ∷ nested head.block_item (word "var" ∷ Non head.variable_type ∷ mark ";" ∷ [])
    ∷ nested head.block_item (identifier ∷ Non head.block_name_rest ∷ [])
    ∷ plain head.automatic_declaration (Non head.variable_type ∷ [])
    ∷ plain head.automatic_declaration (word "var" ∷ Non head.variable_type ∷ [])
    ∷ plain head.block_name_rest (Non head.call ∷ mark ";" ∷ [])
    ∷ plain head.block_name_rest (mark "::" ∷ identifier ∷ Non head.block_scoped_name_rest ∷ [])
    ∷ plain head.block_name_rest (Non head.selects ∷ Non head.block_select_rest ∷ [])
    ∷ plain head.block_scoped_name_rest (Non head.call ∷ mark ";" ∷ [])
    ∷ plain head.block_scoped_name_rest (Non head.dimensions ∷ Non head.declarators ∷ mark ";" ∷ [])
    ∷ plain head.block_select_rest (Non head.assignment_rest ∷ mark ";" ∷ [])
    ∷ plain head.block_select_rest (Non head.declarators ∷ mark ";" ∷ [])
    ∷ plain head.statement_item (word "begin" ∷ Non head.optional_label ∷ Non head.block_items ∷ word "end" ∷ Non head.optional_label ∷ [])
    ∷ plain head.statement_item (Non head.conditional_statement ∷ [])
    ∷ plain head.statement_item (Non head.unique_priority ∷ Non head.conditional_statement ∷ [])
    ∷ plain head.statement_item (word "for" ∷ mark "(" ∷ Non head.for_initialization ∷ mark ";" ∷ Non head.expression ∷ mark ";" ∷ Non head.for_step ∷ mark ")" ∷ Non head.statement ∷ [])
    ∷ plain head.statement_item (word "break" ∷ mark ";" ∷ [])
    ∷ plain head.statement_item (word "continue" ∷ mark ";" ∷ [])
    ∷ plain head.statement_item (word "return" ∷ Non head.optional_expression ∷ mark ";" ∷ [])
    ∷ plain head.statement_item (Non head.lvalue_concatenation ∷ Non head.assignment_operator ∷ Non head.expression ∷ mark ";" ∷ [])
    ∷ plain head.statement_item (Non head.inc_or_dec_operator ∷ identifier ∷ Non head.selects ∷ mark ";" ∷ [])
    ∷ plain head.statement_item (mark ";" ∷ [])
    ∷ []

-- conditional statements (A.6.6, A.6.7)
abbrev pub conditional_rows : List Row
conditional_rows =
    plain head.conditional_statement (word "if" ∷ mark "(" ∷ Non head.expression ∷ mark ")" ∷ Non head.statement ∷ Maybe head.else_statement ∷ [])
    ∷ plain head.conditional_statement (Non head.case_keyword ∷ mark "(" ∷ Non head.expression ∷ mark ")" ∷ Non head.case_body ∷ word "endcase" ∷ [])
    ∷ plain head.unique_priority (word "unique" ∷ [])
    ∷ plain head.unique_priority (word "unique0" ∷ [])
    ∷ plain head.unique_priority (word "priority" ∷ [])
    ∷ plain head.else_statement (word "else" ∷ Non head.statement ∷ [])
    ∷ plain head.case_keyword (word "case" ∷ [])
    ∷ plain head.case_keyword (word "casez" ∷ [])
    ∷ plain head.case_keyword (word "casex" ∷ [])
    ∷ plain head.case_body (Non head.case_item ∷ Non head.case_items ∷ Non head.optional_case_default ∷ [])
    ∷ plain head.case_body (Non head.case_default ∷ Many head.case_item ∷ [])
    ∷ plain head.case_items (Many head.case_item ∷ [])
    ∷ plain head.optional_case_default []
    ∷ plain head.optional_case_default (Non head.case_default ∷ Many head.case_item ∷ [])
    ∷ plain head.case_default (word "default" ∷ Non head.optional_colon ∷ Non head.statement ∷ [])
    ∷ plain head.case_item (Non head.expressions ∷ mark ":" ∷ Non head.statement ∷ [])
    ∷ []

-- loops, assignments and what is assigned (A.6.2, A.6.8, A.8.4, A.8.5)
abbrev pub assignment_rows : List Row
assignment_rows =
    plain head.for_initialization (Non head.keyword_type ∷ Non head.dimensions ∷ identifier ∷ mark "=" ∷ Non head.expression ∷ [])
    ∷ plain head.for_initialization (identifier ∷ Non head.optional_scoped_name ∷ Non head.dimensions ∷ identifier ∷ mark "=" ∷ Non head.expression ∷ [])
    ∷ plain head.for_step (identifier ∷ Non head.assignment_rest ∷ [])
    ∷ plain head.for_step (Non head.inc_or_dec_operator ∷ identifier ∷ [])
    ∷ plain head.assignment_rest (Non head.assignment_operator ∷ Non head.expression ∷ [])
    ∷ plain head.assignment_rest (Non head.inc_or_dec_operator ∷ [])
    ∷ plain head.inc_or_dec_operator (mark "++" ∷ [])
    ∷ plain head.inc_or_dec_operator (mark "--" ∷ [])
    ∷ plain head.assignment_operator (mark "=" ∷ [])
    ∷ plain head.assignment_operator (mark "<=" ∷ [])
    ∷ plain head.assignment_operator (mark "+=" ∷ [])
    ∷ plain head.assignment_operator (mark "-=" ∷ [])
    ∷ plain head.assignment_operator (mark "*=" ∷ [])
    ∷ plain head.assignment_operator (mark "/=" ∷ [])
    ∷ plain head.assignment_operator (mark "%=" ∷ [])
    ∷ plain head.assignment_operator (mark "&=" ∷ [])
    ∷ plain head.assignment_operator (mark "|=" ∷ [])
    ∷ plain head.assignment_operator (mark "^=" ∷ [])
    ∷ plain head.assignment_operator (mark "<<=" ∷ [])
    ∷ plain head.assignment_operator (mark ">>=" ∷ [])
    ∷ plain head.assignment_operator (mark "<<<=" ∷ [])
    ∷ plain head.assignment_operator (mark ">>>=" ∷ [])
    ∷ plain head.variable_lvalue (identifier ∷ Non head.selects ∷ [])
    ∷ plain head.variable_lvalue (Non head.lvalue_concatenation ∷ [])
    ∷ nested head.lvalue_concatenation (mark "{" ∷ Non head.lvalue_concatenation_rest ∷ [])
    ∷ plain head.lvalue_concatenation_rest (Non head.variable_lvalues ∷ mark "}" ∷ [])
    ∷ plain head.lvalue_concatenation_rest (Non head.stream_operator ∷ Non head.optional_slice_size ∷ mark "{" ∷ Non head.variable_lvalues ∷ mark "}" ∷ mark "}" ∷ [])
    ∷ plain head.stream_operator (mark "<<" ∷ [])
    ∷ plain head.stream_operator (mark ">>" ∷ [])
    ∷ plain head.optional_slice_size []
    ∷ plain head.optional_slice_size (Term DECIMAL ∷ [])
    ∷ plain head.optional_slice_size (Non head.keyword_type ∷ [])
    ∷ plain head.optional_slice_size (identifier ∷ Non head.optional_scoped_name ∷ [])
    ∷ plain head.optional_slice_size (mark "(" ∷ Non head.expression ∷ mark ")" ∷ [])
    ∷ plain head.variable_lvalues (Non head.variable_lvalue ∷ Many head.next_lvalue ∷ [])
    ∷ plain head.next_lvalue (mark "," ∷ Non head.variable_lvalue ∷ [])
    ∷ plain head.selects (Many head.select ∷ [])
    ∷ plain head.select (mark "." ∷ identifier ∷ [])
    ∷ plain head.select (mark "[" ∷ Non head.expression ∷ Non head.optional_part_select_rest ∷ mark "]" ∷ [])
    ∷ plain head.optional_part_select_rest []
    ∷ plain head.optional_part_select_rest (Non head.part_select_operator ∷ Non head.expression ∷ [])
    ∷ plain head.part_select_operator (mark ":" ∷ [])
    ∷ plain head.part_select_operator (mark "+:" ∷ [])
    ∷ plain head.part_select_operator (mark "-:" ∷ [])
    ∷ []

-- operators in expressions, the weakest first (A.8.3, A.8.6)
abbrev pub operation_rows : List Row
operation_rows =
    nested head.expression (Non head.logical_or ∷ Non head.optional_conditional_rest ∷ [])
    ∷ plain head.optional_conditional_rest []
    ∷ plain head.optional_conditional_rest (mark "?" ∷ Non head.expression ∷ mark ":" ∷ Non head.expression ∷ [])
    ∷ plain head.logical_or (Non head.logical_and ∷ Chain head.logical_or_rest ∷ [])
    ∷ plain head.logical_or_rest (mark "||" ∷ Non head.logical_and ∷ [])
    ∷ plain head.logical_and (Non head.bitwise_or ∷ Chain head.logical_and_rest ∷ [])
    ∷ plain head.logical_and_rest (mark "&&" ∷ Non head.bitwise_or ∷ [])
    ∷ plain head.bitwise_or (Non head.bitwise_xor ∷ Chain head.bitwise_or_rest ∷ [])
    ∷ plain head.bitwise_or_rest (mark "|" ∷ Non head.bitwise_xor ∷ [])
    ∷ plain head.bitwise_xor (Non head.bitwise_and ∷ Chain head.bitwise_xor_rest ∷ [])
    ∷ plain head.bitwise_xor_rest (Non head.xor_operator ∷ Non head.bitwise_and ∷ [])
    ∷ plain head.xor_operator (mark "^" ∷ [])
    ∷ plain head.xor_operator (mark "~^" ∷ [])
    ∷ plain head.xor_operator (mark "^~" ∷ [])
    ∷ plain head.bitwise_and (Non head.equality ∷ Chain head.bitwise_and_rest ∷ [])
    ∷ plain head.bitwise_and_rest (mark "&" ∷ Non head.equality ∷ [])
    ∷ plain head.equality (Non head.relation ∷ Chain head.equality_rest ∷ [])
    ∷ plain head.equality_rest (Non head.equality_operator ∷ Non head.relation ∷ [])
    ∷ plain head.equality_operator (mark "==" ∷ [])
    ∷ plain head.equality_operator (mark "!=" ∷ [])
    ∷ plain head.equality_operator (mark "===" ∷ [])
    ∷ plain head.equality_operator (mark "!==" ∷ [])
    ∷ plain head.equality_operator (mark "==?" ∷ [])
    ∷ plain head.equality_operator (mark "!=?" ∷ [])
    ∷ plain head.relation (Non head.shift ∷ Chain head.relation_rest ∷ [])
    ∷ plain head.relation_rest (Non head.relation_operator ∷ Non head.shift ∷ [])
    ∷ plain head.relation_rest (word "inside" ∷ mark "{" ∷ Non head.value_ranges ∷ mark "}" ∷ [])
    ∷ plain head.relation_operator (mark "<" ∷ [])
    ∷ plain head.relation_operator (mark "<=" ∷ [])
    ∷ plain head.relation_operator (mark ">" ∷ [])
    ∷ plain head.relation_operator (mark ">=" ∷ [])
    ∷ plain head.value_ranges (Non head.value_range ∷ Many head.next_value_range ∷ [])
    ∷ plain head.next_value_range (mark "," ∷ Non head.value_range ∷ [])
    ∷ plain head.value_range (Non head.expression ∷ [])
    ∷ plain head.value_range (mark "[" ∷ Non head.expression ∷ mark ":" ∷ Non head.expression ∷ mark "]" ∷ [])
    ∷ plain head.shift (Non head.sum ∷ Chain head.shift_rest ∷ [])
    ∷ plain head.shift_rest (Non head.shift_operator ∷ Non head.sum ∷ [])
    ∷ plain head.shift_operator (mark "<<" ∷ [])
    ∷ plain head.shift_operator (mark ">>" ∷ [])
    ∷ plain head.shift_operator (mark "<<<" ∷ [])
    ∷ plain head.shift_operator (mark ">>>" ∷ [])
    ∷ plain head.sum (Non head.product ∷ Chain head.sum_rest ∷ [])
    ∷ plain head.sum_rest (Non head.sum_operator ∷ Non head.product ∷ [])
    ∷ plain head.sum_operator (mark "+" ∷ [])
    ∷ plain head.sum_operator (mark "-" ∷ [])
    ∷ plain head.product (Non head.power ∷ Chain head.product_rest ∷ [])
    ∷ plain head.product_rest (Non head.product_operator ∷ Non head.power ∷ [])
    ∷ plain head.product_operator (mark "*" ∷ [])
    ∷ plain head.product_operator (mark "/" ∷ [])
    ∷ plain head.product_operator (mark "%" ∷ [])
    ∷ plain head.power (Non head.unary ∷ Chain head.power_rest ∷ [])
    ∷ plain head.power_rest (mark "**" ∷ Non head.unary ∷ [])
    ∷ nested head.unary (Non head.unary_operator ∷ Non head.unary ∷ [])
    ∷ plain head.unary (Non head.primary ∷ [])
    ∷ plain head.unary_operator (mark "+" ∷ [])
    ∷ plain head.unary_operator (mark "-" ∷ [])
    ∷ plain head.unary_operator (mark "!" ∷ [])
    ∷ plain head.unary_operator (mark "~" ∷ [])
    ∷ plain head.unary_operator (mark "&" ∷ [])
    ∷ plain head.unary_operator (mark "~&" ∷ [])
    ∷ plain head.unary_operator (mark "|" ∷ [])
    ∷ plain head.unary_operator (mark "~|" ∷ [])
    ∷ plain head.unary_operator (mark "^" ∷ [])
    ∷ plain head.unary_operator (mark "~^" ∷ [])
    ∷ plain head.unary_operator (mark "^~" ∷ [])
    ∷ []

-- primaries, casts and assignment patterns (A.6.7.1, A.8.1, A.8.2, A.8.4)
abbrev pub primary_rows : List Row
primary_rows =
    plain head.primary (Term DECIMAL ∷ Non head.optional_size_rest ∷ [])
    ∷ plain head.primary (Term BASED ∷ [])
    ∷ plain head.primary (Term FILL ∷ [])
    ∷ plain head.primary (mark "(" ∷ Non head.expression ∷ mark ")" ∷ Non head.optional_cast ∷ [])
    ∷ plain head.primary (mark "{" ∷ Non head.primary_brace_rest ∷ [])
    ∷ plain head.primary (mark "'" ∷ mark "{" ∷ Non head.pattern_items ∷ mark "}" ∷ [])
    ∷ plain head.primary (Non head.keyword_type ∷ Non head.dimensions ∷ Non head.optional_cast ∷ [])
    ∷ plain head.primary (Non head.signing ∷ Non head.cast ∷ [])
    ∷ plain head.primary (Term SYSTEM ∷ mark "(" ∷ Non head.expression ∷ mark ")" ∷ [])
    ∷ plain head.primary (identifier ∷ Non head.primary_name_rest ∷ [])
    ∷ plain head.optional_size_rest []
    ∷ plain head.optional_size_rest (Term BASED ∷ [])
    ∷ plain head.optional_size_rest (Non head.cast ∷ [])
    ∷ plain head.primary_brace_rest (Non head.stream_operator ∷ Non head.optional_slice_size ∷ mark "{" ∷ Non head.expressions ∷ mark "}" ∷ mark "}" ∷ [])
    ∷ plain head.primary_brace_rest (Non head.expression ∷ Non head.concatenation_rest ∷ [])
    ∷ plain head.concatenation_rest (mark "{" ∷ Non head.expressions ∷ mark "}" ∷ mark "}" ∷ [])
    ∷ plain head.concatenation_rest (Non head.next_expressions ∷ mark "}" ∷ [])
    ∷ plain head.next_expressions (Many head.next_expression ∷ [])
    ∷ plain head.primary_name_rest (Non head.optional_scoped_name ∷ Non head.arguments_or_selects ∷ Non head.optional_cast ∷ [])
    ∷ plain head.arguments_or_selects (mark "(" ∷ Non head.optional_arguments ∷ mark ")" ∷ [])
    ∷ plain head.arguments_or_selects (Many head.select ∷ [])
    ∷ plain head.optional_arguments []
    ∷ plain head.optional_arguments (Non head.expression ∷ Many head.next_expression ∷ [])
    ∷ plain head.optional_cast []
    ∷ plain head.optional_cast (Non head.cast ∷ [])
    ∷ plain head.cast (mark "'" ∷ Non head.cast_operand ∷ [])
    ∷ plain head.cast_operand (mark "(" ∷ Non head.expression ∷ mark ")" ∷ [])
    ∷ plain head.cast_operand (mark "{" ∷ Non head.pattern_items ∷ mark "}" ∷ [])
    ∷ plain head.pattern_items (word "default" ∷ mark ":" ∷ Non head.expression ∷ Many head.next_pattern_item ∷ [])
    ∷ plain head.pattern_items (Non head.expression ∷ Non head.pattern_rest ∷ [])
    ∷ plain head.pattern_rest (mark ":" ∷ Non head.expression ∷ Many head.next_pattern_item ∷ [])
    ∷ plain head.pattern_rest (mark "{" ∷ Non head.expressions ∷ mark "}" ∷ [])
    ∷ plain head.pattern_rest (Many head.next_pattern_item ∷ [])
    ∷ plain head.next_pattern_item (mark "," ∷ Non head.pattern_item ∷ [])
    ∷ plain head.pattern_item (word "default" ∷ mark ":" ∷ Non head.expression ∷ [])
    ∷ plain head.pattern_item (Non head.expression ∷ Non head.optional_pattern_value ∷ [])
    ∷ plain head.optional_pattern_value []
    ∷ plain head.optional_pattern_value (mark ":" ∷ Non head.expression ∷ [])
    ∷ []

-- the table of the source grammar
unfoldable pub table : List Row
table =
    description_rows ++ header_rows ++ parameter_rows ++ port_rows ++ type_rows ++ item_rows ++ instance_rows ++ generate_rows
    ++ modport_rows ++ function_rows ++ always_rows ++ block_rows ++ conditional_rows ++ assignment_rows ++ operation_rows ++ primary_rows
