-- The rows of the target table, by their numbers.
use Rattle.std.proofs.Common.{[], ◌∷◌, refl}
use Rattle.ll_engine.specs.declared.table.Part.TheVariants.{Term, Non, Maybe, Many}
use Rattle.ll_engine.specs.Grammar.{IsRowOf}
use Rattle.v_tree.specs.Heads as head
use Rattle.v_tree.specs.Symbols as symbol
use Rattle.v_tree.specs.Table.{table, plain, nested}

pub row_text : IsRowOf table head.source_text 0 (plain head.source_text (Many head.module_declaration ∷ []))
row_text = record { is_there = refl; is_of = refl }

pub row_module : IsRowOf table head.module_declaration 1 (plain head.module_declaration (Term symbol.module_word ∷ Term symbol.name ∷ Maybe head.list_of_ports ∷ Term symbol.semicolon ∷ Many head.module_item ∷ Term symbol.endmodule_word ∷ []))
row_module = record { is_there = refl; is_of = refl }

pub row_ports : IsRowOf table head.list_of_ports 2 (plain head.list_of_ports (Term symbol.left_paren ∷ Term symbol.name ∷ Many head.next_name ∷ Term symbol.right_paren ∷ []))
row_ports = record { is_there = refl; is_of = refl }

pub row_next_name : IsRowOf table head.next_name 3 (plain head.next_name (Term symbol.comma ∷ Term symbol.name ∷ []))
row_next_name = record { is_there = refl; is_of = refl }

pub row_input : IsRowOf table head.module_item 4 (plain head.module_item (Term symbol.input_word ∷ Maybe head.range ∷ Term symbol.name ∷ Term symbol.semicolon ∷ []))
row_input = record { is_there = refl; is_of = refl }

pub row_output : IsRowOf table head.module_item 5 (plain head.module_item (Term symbol.output_word ∷ Non head.output_rest ∷ []))
row_output = record { is_there = refl; is_of = refl }

pub row_wire : IsRowOf table head.module_item 6 (plain head.module_item (Term symbol.wire_word ∷ Maybe head.range ∷ Term symbol.name ∷ Term symbol.semicolon ∷ []))
row_wire = record { is_there = refl; is_of = refl }

pub row_reg : IsRowOf table head.module_item 7 (plain head.module_item (Term symbol.reg_word ∷ Maybe head.range ∷ Term symbol.name ∷ Maybe head.reg_rest ∷ Term symbol.semicolon ∷ []))
row_reg = record { is_there = refl; is_of = refl }

pub row_initial : IsRowOf table head.module_item 8 (plain head.module_item (Term symbol.initial_word ∷ Term symbol.name ∷ Term symbol.less_equal ∷ Term symbol.number ∷ Term symbol.semicolon ∷ []))
row_initial = record { is_there = refl; is_of = refl }

pub row_assign : IsRowOf table head.module_item 9 (plain head.module_item (Term symbol.assign_word ∷ Non head.lvalue ∷ Term symbol.equals ∷ Non head.expression ∷ Term symbol.semicolon ∷ []))
row_assign = record { is_there = refl; is_of = refl }

pub row_always : IsRowOf table head.module_item 10 (plain head.module_item (Term symbol.always_word ∷ Term symbol.at_mark ∷ Non head.event_control ∷ Non head.statement_or_null ∷ []))
row_always = record { is_there = refl; is_of = refl }

pub row_function : IsRowOf table head.module_item 11 (plain head.module_item (Term symbol.function_word ∷ Maybe head.range ∷ Term symbol.name ∷ Term symbol.semicolon ∷ Non head.function_input ∷ Many head.function_input ∷ Many head.local_declaration ∷ Non head.statement ∷ Term symbol.endfunction_word ∷ []))
row_function = record { is_there = refl; is_of = refl }

pub row_instance : IsRowOf table head.module_item 12 (plain head.module_item (Term symbol.name ∷ Term symbol.name ∷ Term symbol.left_paren ∷ Maybe head.connections ∷ Term symbol.right_paren ∷ Term symbol.semicolon ∷ []))
row_instance = record { is_there = refl; is_of = refl }

pub row_output_net : IsRowOf table head.output_rest 13 (plain head.output_rest (Maybe head.range ∷ Term symbol.name ∷ Term symbol.semicolon ∷ []))
row_output_net = record { is_there = refl; is_of = refl }

pub row_output_reg : IsRowOf table head.output_rest 14 (plain head.output_rest (Term symbol.reg_word ∷ Maybe head.range ∷ Term symbol.name ∷ Maybe head.initial_value ∷ Term symbol.semicolon ∷ []))
row_output_reg = record { is_there = refl; is_of = refl }

pub row_memory : IsRowOf table head.reg_rest 15 (plain head.reg_rest (Non head.memory_range ∷ []))
row_memory = record { is_there = refl; is_of = refl }

pub row_reg_value : IsRowOf table head.reg_rest 16 (plain head.reg_rest (Non head.initial_value ∷ []))
row_reg_value = record { is_there = refl; is_of = refl }

pub row_memory_range : IsRowOf table head.memory_range 17 (plain head.memory_range (Non head.range ∷ []))
row_memory_range = record { is_there = refl; is_of = refl }

pub row_initial_value : IsRowOf table head.initial_value 18 (plain head.initial_value (Term symbol.equals ∷ Non head.value ∷ []))
row_initial_value = record { is_there = refl; is_of = refl }

pub row_value_number : IsRowOf table head.value 19 (plain head.value (Term symbol.number ∷ []))
row_value_number = record { is_there = refl; is_of = refl }

pub row_value_pieces : IsRowOf table head.value 20 (plain head.value (Term symbol.left_brace ∷ Term symbol.number ∷ Many head.next_number ∷ Term symbol.right_brace ∷ []))
row_value_pieces = record { is_there = refl; is_of = refl }

pub row_next_number : IsRowOf table head.next_number 21 (plain head.next_number (Term symbol.comma ∷ Term symbol.number ∷ []))
row_next_number = record { is_there = refl; is_of = refl }

pub row_function_input : IsRowOf table head.function_input 22 (plain head.function_input (Term symbol.input_word ∷ Maybe head.range ∷ Term symbol.name ∷ Term symbol.semicolon ∷ []))
row_function_input = record { is_there = refl; is_of = refl }

pub row_local : IsRowOf table head.local_declaration 23 (plain head.local_declaration (Term symbol.reg_word ∷ Maybe head.range ∷ Term symbol.name ∷ Term symbol.semicolon ∷ []))
row_local = record { is_there = refl; is_of = refl }

pub row_range : IsRowOf table head.range 24 (plain head.range (Term symbol.left_bracket ∷ Non head.bound ∷ Term symbol.colon ∷ Term symbol.nought ∷ Term symbol.right_bracket ∷ []))
row_range = record { is_there = refl; is_of = refl }

pub row_bound_decimal : IsRowOf table head.bound 25 (plain head.bound (Term symbol.decimal ∷ []))
row_bound_decimal = record { is_there = refl; is_of = refl }

pub row_bound_nought : IsRowOf table head.bound 26 (plain head.bound (Term symbol.nought ∷ []))
row_bound_nought = record { is_there = refl; is_of = refl }

pub row_star : IsRowOf table head.event_control 27 (plain head.event_control (Term symbol.star ∷ []))
row_star = record { is_there = refl; is_of = refl }

pub row_edges : IsRowOf table head.event_control 28 (plain head.event_control (Term symbol.left_paren ∷ Non head.edge ∷ Many head.next_edge ∷ Term symbol.right_paren ∷ []))
row_edges = record { is_there = refl; is_of = refl }

pub row_next_edge : IsRowOf table head.next_edge 29 (plain head.next_edge (Term symbol.or_word ∷ Non head.edge ∷ []))
row_next_edge = record { is_there = refl; is_of = refl }

pub row_posedge : IsRowOf table head.edge 30 (plain head.edge (Term symbol.posedge_word ∷ Term symbol.name ∷ []))
row_posedge = record { is_there = refl; is_of = refl }

pub row_negedge : IsRowOf table head.edge 31 (plain head.edge (Term symbol.negedge_word ∷ Term symbol.name ∷ []))
row_negedge = record { is_there = refl; is_of = refl }

pub row_connections : IsRowOf table head.connections 32 (plain head.connections (Non head.connection ∷ Many head.next_connection ∷ []))
row_connections = record { is_there = refl; is_of = refl }

pub row_next_connection : IsRowOf table head.next_connection 33 (plain head.next_connection (Term symbol.comma ∷ Non head.connection ∷ []))
row_next_connection = record { is_there = refl; is_of = refl }

pub row_connection : IsRowOf table head.connection 34 (plain head.connection (Term symbol.dot ∷ Term symbol.name ∷ Term symbol.left_paren ∷ Maybe head.expression ∷ Term symbol.right_paren ∷ []))
row_connection = record { is_there = refl; is_of = refl }

pub row_statement : IsRowOf table head.statement_or_null 35 (plain head.statement_or_null (Non head.statement ∷ []))
row_statement = record { is_there = refl; is_of = refl }

pub row_empty : IsRowOf table head.statement_or_null 36 (plain head.statement_or_null (Term symbol.semicolon ∷ []))
row_empty = record { is_there = refl; is_of = refl }

pub row_block : IsRowOf table head.statement 37 (nested head.statement (Term symbol.begin_word ∷ Maybe head.block_label ∷ Many head.statement ∷ Term symbol.end_word ∷ []))
row_block = record { is_there = refl; is_of = refl }

pub row_if : IsRowOf table head.statement 38 (nested head.statement (Term symbol.if_word ∷ Term symbol.left_paren ∷ Non head.expression ∷ Term symbol.right_paren ∷ Non head.statement_or_null ∷ Maybe head.else_branch ∷ []))
row_if = record { is_there = refl; is_of = refl }

pub row_case : IsRowOf table head.statement 39 (nested head.statement (Non head.case_keyword ∷ Term symbol.left_paren ∷ Non head.expression ∷ Term symbol.right_paren ∷ Non head.case_body ∷ Term symbol.endcase_word ∷ []))
row_case = record { is_there = refl; is_of = refl }

pub row_store : IsRowOf table head.statement 40 (nested head.statement (Non head.lvalue ∷ Non head.assignment_mark ∷ Non head.expression ∷ Term symbol.semicolon ∷ []))
row_store = record { is_there = refl; is_of = refl }

pub row_label : IsRowOf table head.block_label 41 (plain head.block_label (Term symbol.colon ∷ Term symbol.name ∷ Many head.local_declaration ∷ []))
row_label = record { is_there = refl; is_of = refl }

pub row_else : IsRowOf table head.else_branch 42 (plain head.else_branch (Term symbol.else_word ∷ Non head.statement_or_null ∷ []))
row_else = record { is_there = refl; is_of = refl }

pub row_case_word : IsRowOf table head.case_keyword 43 (plain head.case_keyword (Term symbol.case_word ∷ []))
row_case_word = record { is_there = refl; is_of = refl }

pub row_casez_word : IsRowOf table head.case_keyword 44 (plain head.case_keyword (Term symbol.casez_word ∷ []))
row_casez_word = record { is_there = refl; is_of = refl }

pub row_casex_word : IsRowOf table head.case_keyword 45 (plain head.case_keyword (Term symbol.casex_word ∷ []))
row_casex_word = record { is_there = refl; is_of = refl }

pub row_case_items : IsRowOf table head.case_body 46 (plain head.case_body (Non head.case_item ∷ Many head.case_item ∷ Maybe head.case_default_rest ∷ []))
row_case_items = record { is_there = refl; is_of = refl }

pub row_case_default_first : IsRowOf table head.case_body 47 (plain head.case_body (Non head.case_default_rest ∷ []))
row_case_default_first = record { is_there = refl; is_of = refl }

pub row_case_default_rest : IsRowOf table head.case_default_rest 48 (plain head.case_default_rest (Non head.case_default ∷ Many head.case_item ∷ []))
row_case_default_rest = record { is_there = refl; is_of = refl }

pub row_case_item : IsRowOf table head.case_item 49 (plain head.case_item (Non head.expression ∷ Many head.next_expression ∷ Term symbol.colon ∷ Non head.statement_or_null ∷ []))
row_case_item = record { is_there = refl; is_of = refl }

pub row_case_default : IsRowOf table head.case_default 50 (plain head.case_default (Term symbol.default_word ∷ Term symbol.colon ∷ Non head.statement_or_null ∷ []))
row_case_default = record { is_there = refl; is_of = refl }

pub row_next_expression : IsRowOf table head.next_expression 51 (plain head.next_expression (Term symbol.comma ∷ Non head.expression ∷ []))
row_next_expression = record { is_there = refl; is_of = refl }

pub row_equals : IsRowOf table head.assignment_mark 52 (plain head.assignment_mark (Term symbol.equals ∷ []))
row_equals = record { is_there = refl; is_of = refl }

pub row_less_equal : IsRowOf table head.assignment_mark 53 (plain head.assignment_mark (Term symbol.less_equal ∷ []))
row_less_equal = record { is_there = refl; is_of = refl }

pub row_lvalue_name : IsRowOf table head.lvalue 54 (plain head.lvalue (Term symbol.name ∷ Maybe head.selects ∷ []))
row_lvalue_name = record { is_there = refl; is_of = refl }

pub row_lvalue_concat : IsRowOf table head.lvalue 55 (nested head.lvalue (Term symbol.left_brace ∷ Non head.lvalue ∷ Many head.next_lvalue ∷ Term symbol.right_brace ∷ []))
row_lvalue_concat = record { is_there = refl; is_of = refl }

pub row_next_lvalue : IsRowOf table head.next_lvalue 56 (plain head.next_lvalue (Term symbol.comma ∷ Non head.lvalue ∷ []))
row_next_lvalue = record { is_there = refl; is_of = refl }

pub row_selects : IsRowOf table head.selects 57 (plain head.selects (Non head.select ∷ Maybe head.select ∷ []))
row_selects = record { is_there = refl; is_of = refl }

pub row_select : IsRowOf table head.select 58 (plain head.select (Term symbol.left_bracket ∷ Non head.select_base ∷ Maybe head.select_extent ∷ Term symbol.right_bracket ∷ []))
row_select = record { is_there = refl; is_of = refl }

pub row_base_bound : IsRowOf table head.select_base 59 (plain head.select_base (Non head.bound ∷ []))
row_base_bound = record { is_there = refl; is_of = refl }

pub row_base_expression : IsRowOf table head.select_base 60 (plain head.select_base (Non head.expression ∷ []))
row_base_expression = record { is_there = refl; is_of = refl }

pub row_extent_down : IsRowOf table head.select_extent 61 (plain head.select_extent (Term symbol.colon ∷ Non head.bound ∷ []))
row_extent_down = record { is_there = refl; is_of = refl }

pub row_extent_up : IsRowOf table head.select_extent 62 (plain head.select_extent (Term symbol.plus_colon ∷ Non head.bound ∷ []))
row_extent_up = record { is_there = refl; is_of = refl }

pub row_expression : IsRowOf table head.expression 63 (nested head.expression (Non head.primary ∷ Maybe head.expression_rest ∷ []))
row_expression = record { is_there = refl; is_of = refl }

pub row_unary : IsRowOf table head.expression 64 (nested head.expression (Non head.unary_operator ∷ Non head.primary ∷ []))
row_unary = record { is_there = refl; is_of = refl }

pub row_right : IsRowOf table head.expression_rest 65 (plain head.expression_rest (Non head.binary_operator ∷ Non head.primary ∷ []))
row_right = record { is_there = refl; is_of = refl }

pub row_arms : IsRowOf table head.expression_rest 66 (plain head.expression_rest (Term symbol.question ∷ Non head.primary ∷ Term symbol.colon ∷ Non head.primary ∷ []))
row_arms = record { is_there = refl; is_of = refl }

pub row_number : IsRowOf table head.primary 67 (plain head.primary (Term symbol.number ∷ []))
row_number = record { is_there = refl; is_of = refl }

pub row_paren : IsRowOf table head.primary 68 (plain head.primary (Term symbol.left_paren ∷ Non head.expression ∷ Term symbol.right_paren ∷ []))
row_paren = record { is_there = refl; is_of = refl }

pub row_named : IsRowOf table head.primary 69 (plain head.primary (Term symbol.name ∷ Maybe head.name_rest ∷ []))
row_named = record { is_there = refl; is_of = refl }

pub row_braces : IsRowOf table head.primary 70 (plain head.primary (Term symbol.left_brace ∷ Non head.brace_rest ∷ Term symbol.right_brace ∷ []))
row_braces = record { is_there = refl; is_of = refl }

pub row_sign : IsRowOf table head.primary 71 (plain head.primary (Non head.sign_function ∷ Term symbol.left_paren ∷ Non head.expression ∷ Term symbol.right_paren ∷ []))
row_sign = record { is_there = refl; is_of = refl }

pub row_arguments : IsRowOf table head.name_rest 72 (plain head.name_rest (Term symbol.left_paren ∷ Non head.expression ∷ Many head.next_expression ∷ Term symbol.right_paren ∷ []))
row_arguments = record { is_there = refl; is_of = refl }

pub row_name_selects : IsRowOf table head.name_rest 73 (plain head.name_rest (Non head.selects ∷ []))
row_name_selects = record { is_there = refl; is_of = refl }

pub row_repeat : IsRowOf table head.brace_rest 74 (plain head.brace_rest (Non head.bound ∷ Term symbol.left_brace ∷ Non head.expression ∷ Many head.next_expression ∷ Term symbol.right_brace ∷ []))
row_repeat = record { is_there = refl; is_of = refl }

pub row_concat : IsRowOf table head.brace_rest 75 (plain head.brace_rest (Non head.expression ∷ Many head.next_expression ∷ []))
row_concat = record { is_there = refl; is_of = refl }

pub row_signed : IsRowOf table head.sign_function 76 (plain head.sign_function (Term symbol.signed_word ∷ []))
row_signed = record { is_there = refl; is_of = refl }

pub row_unsigned : IsRowOf table head.sign_function 77 (plain head.sign_function (Term symbol.unsigned_word ∷ []))
row_unsigned = record { is_there = refl; is_of = refl }

pub row_unary_not : IsRowOf table head.unary_operator 78 (plain head.unary_operator (Term symbol.tilde ∷ []))
row_unary_not = record { is_there = refl; is_of = refl }

pub row_unary_logical_not : IsRowOf table head.unary_operator 79 (plain head.unary_operator (Term symbol.exclamation ∷ []))
row_unary_logical_not = record { is_there = refl; is_of = refl }

pub row_unary_neg : IsRowOf table head.unary_operator 80 (plain head.unary_operator (Term symbol.minus ∷ []))
row_unary_neg = record { is_there = refl; is_of = refl }

pub row_unary_and : IsRowOf table head.unary_operator 81 (plain head.unary_operator (Term symbol.and_mark ∷ []))
row_unary_and = record { is_there = refl; is_of = refl }

pub row_unary_nand : IsRowOf table head.unary_operator 82 (plain head.unary_operator (Term symbol.nand_mark ∷ []))
row_unary_nand = record { is_there = refl; is_of = refl }

pub row_unary_or : IsRowOf table head.unary_operator 83 (plain head.unary_operator (Term symbol.or_mark ∷ []))
row_unary_or = record { is_there = refl; is_of = refl }

pub row_unary_nor : IsRowOf table head.unary_operator 84 (plain head.unary_operator (Term symbol.nor_mark ∷ []))
row_unary_nor = record { is_there = refl; is_of = refl }

pub row_unary_xor : IsRowOf table head.unary_operator 85 (plain head.unary_operator (Term symbol.xor_mark ∷ []))
row_unary_xor = record { is_there = refl; is_of = refl }

pub row_unary_xnor : IsRowOf table head.unary_operator 86 (plain head.unary_operator (Term symbol.xnor_mark ∷ []))
row_unary_xnor = record { is_there = refl; is_of = refl }

pub row_binary_add : IsRowOf table head.binary_operator 87 (plain head.binary_operator (Term symbol.plus ∷ []))
row_binary_add = record { is_there = refl; is_of = refl }

pub row_binary_sub : IsRowOf table head.binary_operator 88 (plain head.binary_operator (Term symbol.minus ∷ []))
row_binary_sub = record { is_there = refl; is_of = refl }

pub row_binary_mul : IsRowOf table head.binary_operator 89 (plain head.binary_operator (Term symbol.star ∷ []))
row_binary_mul = record { is_there = refl; is_of = refl }

pub row_binary_div : IsRowOf table head.binary_operator 90 (plain head.binary_operator (Term symbol.slash ∷ []))
row_binary_div = record { is_there = refl; is_of = refl }

pub row_binary_rem : IsRowOf table head.binary_operator 91 (plain head.binary_operator (Term symbol.percent ∷ []))
row_binary_rem = record { is_there = refl; is_of = refl }

pub row_binary_power : IsRowOf table head.binary_operator 92 (plain head.binary_operator (Term symbol.power ∷ []))
row_binary_power = record { is_there = refl; is_of = refl }

pub row_binary_shift_left : IsRowOf table head.binary_operator 93 (plain head.binary_operator (Term symbol.shift_left ∷ []))
row_binary_shift_left = record { is_there = refl; is_of = refl }

pub row_binary_shift_right : IsRowOf table head.binary_operator 94 (plain head.binary_operator (Term symbol.shift_right ∷ []))
row_binary_shift_right = record { is_there = refl; is_of = refl }

pub row_binary_arithmetic_left : IsRowOf table head.binary_operator 95 (plain head.binary_operator (Term symbol.arithmetic_left ∷ []))
row_binary_arithmetic_left = record { is_there = refl; is_of = refl }

pub row_binary_arithmetic_right : IsRowOf table head.binary_operator 96 (plain head.binary_operator (Term symbol.arithmetic_right ∷ []))
row_binary_arithmetic_right = record { is_there = refl; is_of = refl }

pub row_binary_less : IsRowOf table head.binary_operator 97 (plain head.binary_operator (Term symbol.less ∷ []))
row_binary_less = record { is_there = refl; is_of = refl }

pub row_binary_less_equal : IsRowOf table head.binary_operator 98 (plain head.binary_operator (Term symbol.less_equal ∷ []))
row_binary_less_equal = record { is_there = refl; is_of = refl }

pub row_binary_greater : IsRowOf table head.binary_operator 99 (plain head.binary_operator (Term symbol.greater ∷ []))
row_binary_greater = record { is_there = refl; is_of = refl }

pub row_binary_greater_equal : IsRowOf table head.binary_operator 100 (plain head.binary_operator (Term symbol.greater_equal ∷ []))
row_binary_greater_equal = record { is_there = refl; is_of = refl }

pub row_binary_equal : IsRowOf table head.binary_operator 101 (plain head.binary_operator (Term symbol.equal ∷ []))
row_binary_equal = record { is_there = refl; is_of = refl }

pub row_binary_not_equal : IsRowOf table head.binary_operator 102 (plain head.binary_operator (Term symbol.not_equal ∷ []))
row_binary_not_equal = record { is_there = refl; is_of = refl }

pub row_binary_case_equal : IsRowOf table head.binary_operator 103 (plain head.binary_operator (Term symbol.case_equal ∷ []))
row_binary_case_equal = record { is_there = refl; is_of = refl }

pub row_binary_case_not_equal : IsRowOf table head.binary_operator 104 (plain head.binary_operator (Term symbol.case_not_equal ∷ []))
row_binary_case_not_equal = record { is_there = refl; is_of = refl }

pub row_binary_and : IsRowOf table head.binary_operator 105 (plain head.binary_operator (Term symbol.and_mark ∷ []))
row_binary_and = record { is_there = refl; is_of = refl }

pub row_binary_or : IsRowOf table head.binary_operator 106 (plain head.binary_operator (Term symbol.or_mark ∷ []))
row_binary_or = record { is_there = refl; is_of = refl }

pub row_binary_xor : IsRowOf table head.binary_operator 107 (plain head.binary_operator (Term symbol.xor_mark ∷ []))
row_binary_xor = record { is_there = refl; is_of = refl }

pub row_binary_xnor : IsRowOf table head.binary_operator 108 (plain head.binary_operator (Term symbol.xnor_mark ∷ []))
row_binary_xnor = record { is_there = refl; is_of = refl }

pub row_binary_logical_and : IsRowOf table head.binary_operator 109 (plain head.binary_operator (Term symbol.logical_and ∷ []))
row_binary_logical_and = record { is_there = refl; is_of = refl }

pub row_binary_logical_or : IsRowOf table head.binary_operator 110 (plain head.binary_operator (Term symbol.logical_or ∷ []))
row_binary_logical_or = record { is_there = refl; is_of = refl }
