-- The numbers of rows are those of the table.
use Rattle.std.proofs.Common.{◌≡◌, ℕ, Bool, true, false, nat_lt, not, ◌&&◌, List, [], ◌∷◌, map, Option, Some, refl}
use Rattle.std.specs.List.{slice_get, list_all}
use Rattle.std.specs.Prelude.{◌==◌}
use Rattle.ll_engine.specs.declared.table.Part.{Part}
use Rattle.ll_engine.specs.declared.table.Part.TheVariants.{Term, Non, Maybe, Many, Chain}
use Rattle.ll_engine.specs.declared.table.Row.{Row}
use Rattle.sv_tree.specs.Heads as head
use Rattle.sv_tree.specs.Symbols.{mark_symbol, word_symbol}
use Rattle.sv_tree.specs.Table.{table, plain, nested, word, mark, identifier}
use Rattle.sv_tree.specs.declared.symbols.TheConstants.{OTHER, END, SYSTEM, DECIMAL, BASED, FILL}
use Rattle.sv_build.specs.declared.rows.TheConstants as R

pub numbers : List ℕ
numbers =
    R.AUTOMATIC
    ∷ R.PARAMETER
    ∷ R.INPUT
    ∷ R.FORMAL_INPUT
    ∷ R.FORMAL_OUTPUT
    ∷ R.WIRE
    ∷ R.TYPE_PARAMETER
    ∷ R.KEYWORD_PARAMETER
    ∷ R.SIGNED_PARAMETER
    ∷ R.DIMENSIONED_PARAMETER
    ∷ R.SCOPED_PARAMETER_TYPE
    ∷ R.PARAMETER_TYPE_DIMENSIONS
    ∷ R.PARAMETER_DECLARATOR
    ∷ R.IMPORTED_NAME
    ∷ R.DIRECTED_PORT
    ∷ R.KEYWORD_PORT
    ∷ R.SIGNED_PORT
    ∷ R.DIMENSIONED_PORT
    ∷ R.MODPORT_PORT
    ∷ R.SCOPED_PORT_TYPE
    ∷ R.KEYWORD_FUNCTION
    ∷ R.SIGNED_FUNCTION
    ∷ R.DIMENSIONED_FUNCTION
    ∷ R.NAMED_FUNCTION
    ∷ R.SCOPED_FUNCTION_TYPE
    ∷ R.KEYWORD_DATA
    ∷ R.AGGREGATE_DATA
    ∷ R.KEYWORD_VARIABLE
    ∷ R.AGGREGATE_VARIABLE
    ∷ R.SIGNED_VARIABLE
    ∷ R.DIMENSIONED_VARIABLE
    ∷ R.SCOPED_VARIABLE_TYPE
    ∷ R.PLAIN_STATEMENT
    ∷ R.CALL_STATEMENT
    ∷ R.SCOPED_CALL_STATEMENT
    ∷ R.STATEMENT_ITEM
    ∷ R.PARAMETERS_ITEM
    ∷ R.AUTOMATIC_ITEM
    ∷ R.KEYWORD_ITEM
    ∷ R.AGGREGATE_ITEM
    ∷ R.VAR_ITEM
    ∷ R.PLAIN_AUTOMATIC
    ∷ R.CALL_ITEM
    ∷ R.SCOPED_ITEM
    ∷ R.SCOPED_CALL_ITEM
    ∷ R.ASSIGNMENT_ITEM
    ∷ R.BLOCK
    ∷ R.CONDITIONAL
    ∷ R.PROMISED_CONDITIONAL
    ∷ R.FOR
    ∷ R.BREAK
    ∷ R.CONTINUE
    ∷ R.RETURN
    ∷ R.CONCATENATION_ASSIGNMENT
    ∷ R.PREFIX
    ∷ R.IF
    ∷ R.UNIQUE
    ∷ R.UNIQUE0
    ∷ R.CASE
    ∷ R.CASEZ
    ∷ R.ITEMS_FIRST
    ∷ R.KEYWORD_LOOP
    ∷ R.ASSIGNMENT_STEP
    ∷ R.ASSIGNMENT
    ∷ R.INCREMENT
    ∷ R.ASSIGN
    ∷ R.ASSIGN_NONBLOCKING
    ∷ R.ASSIGN_ADD
    ∷ R.ASSIGN_SUBTRACT
    ∷ R.ASSIGN_MULTIPLY
    ∷ R.ASSIGN_DIVIDE
    ∷ R.ASSIGN_REMAINDER
    ∷ R.ASSIGN_AND
    ∷ R.ASSIGN_OR
    ∷ R.ASSIGN_XOR
    ∷ R.ASSIGN_SHIFT_LEFT
    ∷ R.ASSIGN_SHIFT_RIGHT
    ∷ R.ASSIGN_ARITHMETIC_SHIFT_LEFT
    ∷ R.NAME_LVALUE
    ∷ R.PLAIN_LVALUES
    ∷ R.ALWAYS_COMB
    ∷ R.ALWAYS_LATCH
    ∷ R.ALWAYS_FF
    ∷ R.STAR
    ∷ R.PARENTHESIZED_STAR
    ∷ R.OPENING_STAR
    ∷ R.SPACED_STAR
    ∷ R.CLOSING_STAR
    ∷ R.POSEDGE
    ∷ R.NAMED_BIND
    ∷ R.NAMED_CONNECTION
    ∷ R.ALL_CONNECTION
    ∷ R.PARAMETERS_MODULE_ITEM
    ∷ R.TYPEDEF_MODULE_ITEM
    ∷ R.IMPORT_MODULE_ITEM
    ∷ R.FUNCTION_MODULE_ITEM
    ∷ R.TASK_MODULE_ITEM
    ∷ R.DATA_MODULE_ITEM
    ∷ R.GENVAR_MODULE_ITEM
    ∷ R.ASSIGN_MODULE_ITEM
    ∷ R.ALWAYS_MODULE_ITEM
    ∷ R.GENERATE_MODULE_ITEM
    ∷ R.LOOP_MODULE_ITEM
    ∷ R.IF_MODULE_ITEM
    ∷ R.CASE_MODULE_ITEM
    ∷ R.MODPORT_MODULE_ITEM
    ∷ R.NAME_MODULE_ITEM
    ∷ R.SCOPED_DATA
    ∷ R.DIMENSIONED_DATA
    ∷ R.NAMED_DATA
    ∷ R.INSTANCE
    ∷ R.GENERATE_ITEMS_FIRST
    ∷ R.GENERATE_BLOCK
    ∷ R.IMPORT_PACKAGE_ITEM
    ∷ R.TYPEDEF_PACKAGE_ITEM
    ∷ R.PARAMETERS_PACKAGE_ITEM
    ∷ R.FUNCTION_PACKAGE_ITEM
    ∷ R.TASK_PACKAGE_ITEM
    ∷ R.PACKAGE_UNIT
    ∷ R.MODULE_UNIT
    ∷ R.INTERFACE_UNIT
    ∷ R.IMPORT_UNIT
    ∷ R.TYPEDEF_UNIT
    ∷ R.PARAMETERS_UNIT
    ∷ R.FUNCTION_UNIT
    ∷ R.TASK_UNIT
    ∷ []

pub rows : List Row
rows =
    plain head.optional_lifetime (word "automatic" ∷ [])
    ∷ plain head.parameter_keyword (word "parameter" ∷ [])
    ∷ plain head.port_direction (word "input" ∷ [])
    ∷ plain head.optional_tf_port_direction (word "input" ∷ [])
    ∷ plain head.optional_tf_port_direction (word "output" ∷ [])
    ∷ plain head.net_or_variable (word "wire" ∷ [])
    ∷ plain head.parameter_body (word "type" ∷ identifier ∷ Non head.optional_initializer ∷ [])
    ∷ plain head.parameter_body (Non head.keyword_type ∷ Non head.dimensions ∷ Non head.declarator ∷ [])
    ∷ plain head.parameter_body (Non head.signing ∷ Non head.dimensions ∷ Non head.declarator ∷ [])
    ∷ plain head.parameter_body (Non head.dimension ∷ Non head.dimensions ∷ Non head.declarator ∷ [])
    ∷ plain head.parameter_name_rest (mark "::" ∷ identifier ∷ Non head.dimensions ∷ Non head.declarator ∷ [])
    ∷ plain head.parameter_name_rest (Non head.dimension ∷ Non head.dimensions ∷ Non head.declarator ∷ [])
    ∷ plain head.parameter_name_rest (Non head.declarator ∷ [])
    ∷ plain head.imported_name (identifier ∷ [])
    ∷ plain head.port_declaration (Non head.port_direction ∷ Non head.optional_net_or_variable ∷ Non head.port_type ∷ [])
    ∷ plain head.port_type (Non head.keyword_type ∷ Non head.dimensions ∷ identifier ∷ Non head.dimensions ∷ [])
    ∷ plain head.port_type (Non head.signing ∷ Non head.dimensions ∷ identifier ∷ Non head.dimensions ∷ [])
    ∷ plain head.port_type (Non head.dimension ∷ Non head.dimensions ∷ identifier ∷ Non head.dimensions ∷ [])
    ∷ plain head.port_name_rest (mark "." ∷ identifier ∷ identifier ∷ [])
    ∷ plain head.port_name_rest (mark "::" ∷ identifier ∷ Non head.dimensions ∷ identifier ∷ Non head.dimensions ∷ [])
    ∷ plain head.function_type (Non head.keyword_type ∷ Non head.dimensions ∷ identifier ∷ [])
    ∷ plain head.function_type (Non head.signing ∷ Non head.dimensions ∷ identifier ∷ [])
    ∷ plain head.function_type (Non head.dimension ∷ Non head.dimensions ∷ identifier ∷ [])
    ∷ plain head.function_type (identifier ∷ Non head.function_name_rest ∷ [])
    ∷ plain head.function_name_rest (mark "::" ∷ identifier ∷ Non head.dimensions ∷ identifier ∷ [])
    ∷ plain head.data_declaration (Non head.keyword_type ∷ Non head.dimensions ∷ Non head.declarators ∷ [])
    ∷ plain head.data_declaration (Non head.aggregate_type ∷ Non head.dimensions ∷ Non head.declarators ∷ [])
    ∷ plain head.variable_type (Non head.keyword_type ∷ Non head.dimensions ∷ Non head.declarators ∷ [])
    ∷ plain head.variable_type (Non head.aggregate_type ∷ Non head.dimensions ∷ Non head.declarators ∷ [])
    ∷ plain head.variable_type (Non head.signing ∷ Non head.dimensions ∷ Non head.declarators ∷ [])
    ∷ plain head.variable_type (Non head.dimension ∷ Non head.dimensions ∷ Non head.declarators ∷ [])
    ∷ plain head.variable_name_rest (mark "::" ∷ identifier ∷ Non head.dimensions ∷ Non head.declarators ∷ [])
    ∷ nested head.statement (Non head.statement_item ∷ [])
    ∷ plain head.statement_name_rest (Non head.call ∷ mark ";" ∷ [])
    ∷ plain head.statement_name_rest (mark "::" ∷ identifier ∷ Non head.call ∷ mark ";" ∷ [])
    ∷ nested head.block_item (Non head.statement_item ∷ [])
    ∷ nested head.block_item (Non head.parameter_declaration ∷ mark ";" ∷ [])
    ∷ nested head.block_item (word "automatic" ∷ Non head.automatic_declaration ∷ mark ";" ∷ [])
    ∷ nested head.block_item (Non head.keyword_type ∷ Non head.dimensions ∷ Non head.declarators ∷ mark ";" ∷ [])
    ∷ nested head.block_item (Non head.aggregate_type ∷ Non head.dimensions ∷ Non head.declarators ∷ mark ";" ∷ [])
    ∷ nested head.block_item (word "var" ∷ Non head.variable_type ∷ mark ";" ∷ [])
    ∷ plain head.automatic_declaration (Non head.variable_type ∷ [])
    ∷ plain head.block_name_rest (Non head.call ∷ mark ";" ∷ [])
    ∷ plain head.block_name_rest (mark "::" ∷ identifier ∷ Non head.block_scoped_name_rest ∷ [])
    ∷ plain head.block_scoped_name_rest (Non head.call ∷ mark ";" ∷ [])
    ∷ plain head.block_select_rest (Non head.assignment_rest ∷ mark ";" ∷ [])
    ∷ plain head.statement_item (word "begin" ∷ Non head.optional_label ∷ Non head.block_items ∷ word "end" ∷ Non head.optional_label ∷ [])
    ∷ plain head.statement_item (Non head.conditional_statement ∷ [])
    ∷ plain head.statement_item (Non head.unique_priority ∷ Non head.conditional_statement ∷ [])
    ∷ plain head.statement_item (word "for" ∷ mark "(" ∷ Non head.for_initialization ∷ mark ";" ∷ Non head.expression ∷ mark ";" ∷ Non head.for_step ∷ mark ")" ∷ Non head.statement ∷ [])
    ∷ plain head.statement_item (word "break" ∷ mark ";" ∷ [])
    ∷ plain head.statement_item (word "continue" ∷ mark ";" ∷ [])
    ∷ plain head.statement_item (word "return" ∷ Non head.optional_expression ∷ mark ";" ∷ [])
    ∷ plain head.statement_item (Non head.lvalue_concatenation ∷ Non head.assignment_operator ∷ Non head.expression ∷ mark ";" ∷ [])
    ∷ plain head.statement_item (Non head.inc_or_dec_operator ∷ identifier ∷ Non head.selects ∷ mark ";" ∷ [])
    ∷ plain head.conditional_statement (word "if" ∷ mark "(" ∷ Non head.expression ∷ mark ")" ∷ Non head.statement ∷ Maybe head.else_statement ∷ [])
    ∷ plain head.unique_priority (word "unique" ∷ [])
    ∷ plain head.unique_priority (word "unique0" ∷ [])
    ∷ plain head.case_keyword (word "case" ∷ [])
    ∷ plain head.case_keyword (word "casez" ∷ [])
    ∷ plain head.case_body (Non head.case_item ∷ Non head.case_items ∷ Non head.optional_case_default ∷ [])
    ∷ plain head.for_initialization (Non head.keyword_type ∷ Non head.dimensions ∷ identifier ∷ mark "=" ∷ Non head.expression ∷ [])
    ∷ plain head.for_step (identifier ∷ Non head.assignment_rest ∷ [])
    ∷ plain head.assignment_rest (Non head.assignment_operator ∷ Non head.expression ∷ [])
    ∷ plain head.inc_or_dec_operator (mark "++" ∷ [])
    ∷ plain head.assignment_operator (mark "=" ∷ [])
    ∷ plain head.assignment_operator (mark "<=" ∷ [])
    ∷ plain head.assignment_operator (mark "+=" ∷ [])
    ∷ plain head.assignment_operator (mark "-=" ∷ [])
    ∷ plain head.assignment_operator (mark "*=" ∷ [])
    ∷ plain head.assignment_operator (mark "/=" ∷ [])
    ∷ plain head.assignment_operator (mark "%=" ∷ [])
    ∷ plain head.assignment_operator (mark "&=" ∷ [])
    ∷ plain head.assignment_operator (mark "|=" ∷ [])
    ∷ plain head.assignment_operator (mark "^=" ∷ [])
    ∷ plain head.assignment_operator (mark "<<=" ∷ [])
    ∷ plain head.assignment_operator (mark ">>=" ∷ [])
    ∷ plain head.assignment_operator (mark "<<<=" ∷ [])
    ∷ plain head.variable_lvalue (identifier ∷ Non head.selects ∷ [])
    ∷ plain head.lvalue_concatenation_rest (Non head.variable_lvalues ∷ mark "}" ∷ [])
    ∷ plain head.always_construct (word "always_comb" ∷ Non head.statement ∷ [])
    ∷ plain head.always_construct (word "always_latch" ∷ Non head.statement ∷ [])
    ∷ plain head.always_construct (word "always_ff" ∷ mark "@" ∷ mark "(" ∷ Non head.event_expression ∷ mark ")" ∷ Non head.statement ∷ [])
    ∷ plain head.event_control (mark "*" ∷ [])
    ∷ plain head.event_control (mark "(*)" ∷ [])
    ∷ plain head.event_control (mark "(*" ∷ mark ")" ∷ [])
    ∷ plain head.event_control_rest (mark "*" ∷ mark ")" ∷ [])
    ∷ plain head.event_control_rest (mark "*)" ∷ [])
    ∷ plain head.edge_identifier (word "posedge" ∷ [])
    ∷ plain head.parameter_assignment (mark "." ∷ identifier ∷ mark "(" ∷ Non head.optional_expression ∷ mark ")" ∷ [])
    ∷ plain head.port_connection (mark "." ∷ identifier ∷ Non head.optional_connected_expression ∷ [])
    ∷ plain head.port_connection (mark ".*" ∷ [])
    ∷ plain head.module_item (Non head.parameter_declaration ∷ mark ";" ∷ [])
    ∷ plain head.module_item (Non head.type_declaration ∷ [])
    ∷ plain head.module_item (Non head.package_import_declaration ∷ [])
    ∷ plain head.module_item (Non head.function_declaration ∷ [])
    ∷ plain head.module_item (Non head.task_declaration ∷ [])
    ∷ plain head.module_item (Non head.data_declaration ∷ mark ";" ∷ [])
    ∷ plain head.module_item (word "genvar" ∷ Non head.names ∷ mark ";" ∷ [])
    ∷ plain head.module_item (word "assign" ∷ Non head.net_assignments ∷ mark ";" ∷ [])
    ∷ plain head.module_item (Non head.always_construct ∷ [])
    ∷ nested head.module_item (word "generate" ∷ Non head.module_items ∷ word "endgenerate" ∷ [])
    ∷ plain head.module_item (Non head.loop_generate_construct ∷ [])
    ∷ plain head.module_item (Non head.if_generate_construct ∷ [])
    ∷ plain head.module_item (Non head.case_generate_construct ∷ [])
    ∷ plain head.module_item (Non head.modport_declaration ∷ [])
    ∷ plain head.module_item (identifier ∷ Non head.item_name_rest ∷ [])
    ∷ plain head.item_name_rest (mark "::" ∷ identifier ∷ Non head.dimensions ∷ Non head.declarators ∷ mark ";" ∷ [])
    ∷ plain head.item_name_rest (Non head.dimension ∷ Non head.dimensions ∷ Non head.declarators ∷ mark ";" ∷ [])
    ∷ plain head.item_name_rest (identifier ∷ Non head.declared_name_rest ∷ [])
    ∷ plain head.declared_name_rest (mark "(" ∷ Non head.optional_port_connections ∷ mark ")" ∷ Non head.next_instances ∷ mark ";" ∷ [])
    ∷ plain head.case_generate_body (Non head.case_generate_item ∷ Non head.case_generate_items ∷ Non head.optional_case_generate_default ∷ [])
    ∷ nested head.generate_block (word "begin" ∷ Non head.optional_label ∷ Non head.module_items ∷ word "end" ∷ Non head.optional_label ∷ [])
    ∷ plain head.package_item (Non head.package_import_declaration ∷ [])
    ∷ plain head.package_item (Non head.type_declaration ∷ [])
    ∷ plain head.package_item (Non head.parameter_declaration ∷ mark ";" ∷ [])
    ∷ plain head.package_item (Non head.function_declaration ∷ [])
    ∷ plain head.package_item (Non head.task_declaration ∷ [])
    ∷ plain head.description (Non head.package_declaration ∷ [])
    ∷ plain head.description (Non head.module_declaration ∷ [])
    ∷ plain head.description (Non head.interface_declaration ∷ [])
    ∷ plain head.description (Non head.package_import_declaration ∷ [])
    ∷ plain head.description (Non head.type_declaration ∷ [])
    ∷ plain head.description (Non head.parameter_declaration ∷ mark ";" ∷ [])
    ∷ plain head.description (Non head.function_declaration ∷ [])
    ∷ plain head.description (Non head.task_declaration ∷ [])
    ∷ []

pub rows-are : map (slice_get table) numbers ≡ map Some rows
unfolding numbers rows table mark_symbol word_symbol
rows-are = refl

-- no row has a symbol of tokens that stand nowhere, or that of the end
pub is-proper : Part → Bool
is-proper (Term a) = not (a == OTHER) && not (a == END)
is-proper (Non h) = true
is-proper (Maybe h) = true
is-proper (Many h) = true
is-proper (Chain h) = true

pub all-proper : list_all (λ (r : Row). list_all is-proper r.parts) table ≡ true
unfolding is-proper table mark_symbol word_symbol
all-proper = refl
