-- The target grammar, as a table of rows: the subset of IEEE 1364-2005 annex A in which texts are written. There is one row for
-- each alternative of a head; a group that may be left out, that is repeated or that is a choice is a head of its own. An
-- optional part is read wherever it can be, so an `else` belongs to the nearest `if` (clause 9.4). Annexes stand in brackets.
use Rattle.std.specs.Prelude.{ℕ, List, [], ◌∷◌, ◌++◌, true, false}
use Rattle.ll_engine.specs.declared.table.Part.{Part}
use Rattle.ll_engine.specs.declared.table.Part.TheVariants.{Term, Non, Maybe, Many}
use Rattle.ll_engine.specs.declared.table.Row.{Row}
use Rattle.v_tree.specs.Heads as head
use Rattle.v_tree.specs.Symbols as symbol

abbrev pub plain : ℕ → List Part → Row
plain head parts = record { head = head; parts = parts; deep = false }

-- a row at whose tokens nesting is one deeper: expressions, statements, and the braces of targets
abbrev pub nested : ℕ → List Part → Row
nested head parts = record { head = head; parts = parts; deep = true }

-- texts and modules (A.1.2)
abbrev pub text_rows : List Row
text_rows =
    plain head.source_text (Many head.module_declaration ∷ [])
    ∷ plain head.module_declaration (Term symbol.module_word ∷ Term symbol.name ∷ Maybe head.list_of_ports ∷ Term symbol.semicolon ∷ Many head.module_item ∷ Term symbol.endmodule_word ∷ [])
    ∷ plain head.list_of_ports (Term symbol.left_paren ∷ Term symbol.name ∷ Many head.next_name ∷ Term symbol.right_paren ∷ [])
    ∷ plain head.next_name (Term symbol.comma ∷ Term symbol.name ∷ [])
    ∷ []

-- items of modules (A.1.4, A.2.1, A.2.6, A.4.1)
abbrev pub item_rows : List Row
item_rows =
    plain head.module_item (Term symbol.input_word ∷ Maybe head.range ∷ Term symbol.name ∷ Term symbol.semicolon ∷ [])
    ∷ plain head.module_item (Term symbol.output_word ∷ Non head.output_rest ∷ [])
    ∷ plain head.module_item (Term symbol.wire_word ∷ Maybe head.range ∷ Term symbol.name ∷ Term symbol.semicolon ∷ [])
    ∷ plain head.module_item (Term symbol.reg_word ∷ Maybe head.range ∷ Term symbol.name ∷ Maybe head.reg_rest ∷ Term symbol.semicolon ∷ [])
    ∷ plain head.module_item (Term symbol.initial_word ∷ Term symbol.name ∷ Term symbol.less_equal ∷ Term symbol.number ∷ Term symbol.semicolon ∷ [])
    ∷ plain head.module_item (Term symbol.assign_word ∷ Non head.lvalue ∷ Term symbol.equals ∷ Non head.expression ∷ Term symbol.semicolon ∷ [])
    ∷ plain head.module_item (Term symbol.always_word ∷ Term symbol.at_mark ∷ Non head.event_control ∷ Non head.statement_or_null ∷ [])
    ∷ plain head.module_item (Term symbol.function_word ∷ Maybe head.range ∷ Term symbol.name ∷ Term symbol.semicolon ∷ Non head.function_input ∷ Many head.function_input ∷ Many head.local_declaration ∷ Non head.statement ∷ Term symbol.endfunction_word ∷ [])
    ∷ plain head.module_item (Term symbol.name ∷ Term symbol.name ∷ Term symbol.left_paren ∷ Maybe head.connections ∷ Term symbol.right_paren ∷ Term symbol.semicolon ∷ [])
    ∷ plain head.output_rest (Maybe head.range ∷ Term symbol.name ∷ Term symbol.semicolon ∷ [])
    ∷ plain head.output_rest (Term symbol.reg_word ∷ Maybe head.range ∷ Term symbol.name ∷ Maybe head.initial_value ∷ Term symbol.semicolon ∷ [])
    ∷ plain head.reg_rest (Non head.memory_range ∷ [])
    ∷ plain head.reg_rest (Non head.initial_value ∷ [])
    ∷ plain head.memory_range (Non head.range ∷ [])
    ∷ plain head.initial_value (Term symbol.equals ∷ Non head.value ∷ [])
    ∷ plain head.value (Term symbol.number ∷ [])
    ∷ plain head.value (Term symbol.left_brace ∷ Term symbol.number ∷ Many head.next_number ∷ Term symbol.right_brace ∷ [])
    ∷ plain head.next_number (Term symbol.comma ∷ Term symbol.number ∷ [])
    ∷ plain head.function_input (Term symbol.input_word ∷ Maybe head.range ∷ Term symbol.name ∷ Term symbol.semicolon ∷ [])
    ∷ plain head.local_declaration (Term symbol.reg_word ∷ Maybe head.range ∷ Term symbol.name ∷ Term symbol.semicolon ∷ [])
    ∷ plain head.range (Term symbol.left_bracket ∷ Non head.bound ∷ Term symbol.colon ∷ Term symbol.nought ∷ Term symbol.right_bracket ∷ [])
    ∷ plain head.bound (Term symbol.decimal ∷ [])
    ∷ plain head.bound (Term symbol.nought ∷ [])
    ∷ []

-- events, connections and statements (A.6)
abbrev pub statement_rows : List Row
statement_rows =
    plain head.event_control (Term symbol.star ∷ [])
    ∷ plain head.event_control (Term symbol.left_paren ∷ Non head.edge ∷ Many head.next_edge ∷ Term symbol.right_paren ∷ [])
    ∷ plain head.next_edge (Term symbol.or_word ∷ Non head.edge ∷ [])
    ∷ plain head.edge (Term symbol.posedge_word ∷ Term symbol.name ∷ [])
    ∷ plain head.edge (Term symbol.negedge_word ∷ Term symbol.name ∷ [])
    ∷ plain head.connections (Non head.connection ∷ Many head.next_connection ∷ [])
    ∷ plain head.next_connection (Term symbol.comma ∷ Non head.connection ∷ [])
    ∷ plain head.connection (Term symbol.dot ∷ Term symbol.name ∷ Term symbol.left_paren ∷ Maybe head.expression ∷ Term symbol.right_paren ∷ [])
    ∷ plain head.statement_or_null (Non head.statement ∷ [])
    ∷ plain head.statement_or_null (Term symbol.semicolon ∷ [])
    ∷ nested head.statement (Term symbol.begin_word ∷ Maybe head.block_label ∷ Many head.statement ∷ Term symbol.end_word ∷ [])
    ∷ nested head.statement (Term symbol.if_word ∷ Term symbol.left_paren ∷ Non head.expression ∷ Term symbol.right_paren ∷ Non head.statement_or_null ∷ Maybe head.else_branch ∷ [])
    ∷ nested head.statement (Non head.case_keyword ∷ Term symbol.left_paren ∷ Non head.expression ∷ Term symbol.right_paren ∷ Non head.case_body ∷ Term symbol.endcase_word ∷ [])
    ∷ nested head.statement (Non head.lvalue ∷ Non head.assignment_mark ∷ Non head.expression ∷ Term symbol.semicolon ∷ [])
    ∷ plain head.block_label (Term symbol.colon ∷ Term symbol.name ∷ Many head.local_declaration ∷ [])
    ∷ plain head.else_branch (Term symbol.else_word ∷ Non head.statement_or_null ∷ [])
    ∷ plain head.case_keyword (Term symbol.case_word ∷ [])
    ∷ plain head.case_keyword (Term symbol.casez_word ∷ [])
    ∷ plain head.case_keyword (Term symbol.casex_word ∷ [])
    ∷ plain head.case_body (Non head.case_item ∷ Many head.case_item ∷ Maybe head.case_default_rest ∷ [])
    ∷ plain head.case_body (Non head.case_default_rest ∷ [])
    ∷ plain head.case_default_rest (Non head.case_default ∷ Many head.case_item ∷ [])
    ∷ plain head.case_item (Non head.expression ∷ Many head.next_expression ∷ Term symbol.colon ∷ Non head.statement_or_null ∷ [])
    ∷ plain head.case_default (Term symbol.default_word ∷ Term symbol.colon ∷ Non head.statement_or_null ∷ [])
    ∷ plain head.next_expression (Term symbol.comma ∷ Non head.expression ∷ [])
    ∷ plain head.assignment_mark (Term symbol.equals ∷ [])
    ∷ plain head.assignment_mark (Term symbol.less_equal ∷ [])
    ∷ []

-- targets and selects (A.8.5)
abbrev pub target_rows : List Row
target_rows =
    plain head.lvalue (Term symbol.name ∷ Maybe head.selects ∷ [])
    ∷ nested head.lvalue (Term symbol.left_brace ∷ Non head.lvalue ∷ Many head.next_lvalue ∷ Term symbol.right_brace ∷ [])
    ∷ plain head.next_lvalue (Term symbol.comma ∷ Non head.lvalue ∷ [])
    ∷ plain head.selects (Non head.select ∷ Maybe head.select ∷ [])
    ∷ plain head.select (Term symbol.left_bracket ∷ Non head.select_base ∷ Maybe head.select_extent ∷ Term symbol.right_bracket ∷ [])
    ∷ plain head.select_base (Non head.bound ∷ [])
    ∷ plain head.select_base (Non head.expression ∷ [])
    ∷ plain head.select_extent (Term symbol.colon ∷ Non head.bound ∷ [])
    ∷ plain head.select_extent (Term symbol.plus_colon ∷ Non head.bound ∷ [])
    ∷ []

-- expressions (A.8.3, A.8.4)
abbrev pub expression_rows : List Row
expression_rows =
    nested head.expression (Non head.primary ∷ Maybe head.expression_rest ∷ [])
    ∷ nested head.expression (Non head.unary_operator ∷ Non head.primary ∷ [])
    ∷ plain head.expression_rest (Non head.binary_operator ∷ Non head.primary ∷ [])
    ∷ plain head.expression_rest (Term symbol.question ∷ Non head.primary ∷ Term symbol.colon ∷ Non head.primary ∷ [])
    ∷ plain head.primary (Term symbol.number ∷ [])
    ∷ plain head.primary (Term symbol.left_paren ∷ Non head.expression ∷ Term symbol.right_paren ∷ [])
    ∷ plain head.primary (Term symbol.name ∷ Maybe head.name_rest ∷ [])
    ∷ plain head.primary (Term symbol.left_brace ∷ Non head.brace_rest ∷ Term symbol.right_brace ∷ [])
    ∷ plain head.primary (Non head.sign_function ∷ Term symbol.left_paren ∷ Non head.expression ∷ Term symbol.right_paren ∷ [])
    ∷ plain head.name_rest (Term symbol.left_paren ∷ Non head.expression ∷ Many head.next_expression ∷ Term symbol.right_paren ∷ [])
    ∷ plain head.name_rest (Non head.selects ∷ [])
    ∷ plain head.brace_rest (Non head.bound ∷ Term symbol.left_brace ∷ Non head.expression ∷ Many head.next_expression ∷ Term symbol.right_brace ∷ [])
    ∷ plain head.brace_rest (Non head.expression ∷ Many head.next_expression ∷ [])
    ∷ plain head.sign_function (Term symbol.signed_word ∷ [])
    ∷ plain head.sign_function (Term symbol.unsigned_word ∷ [])
    ∷ []

-- operators (A.8.6)
abbrev pub operator_rows : List Row
operator_rows =
    plain head.unary_operator (Term symbol.tilde ∷ [])
    ∷ plain head.unary_operator (Term symbol.exclamation ∷ [])
    ∷ plain head.unary_operator (Term symbol.minus ∷ [])
    ∷ plain head.unary_operator (Term symbol.and_mark ∷ [])
    ∷ plain head.unary_operator (Term symbol.nand_mark ∷ [])
    ∷ plain head.unary_operator (Term symbol.or_mark ∷ [])
    ∷ plain head.unary_operator (Term symbol.nor_mark ∷ [])
    ∷ plain head.unary_operator (Term symbol.xor_mark ∷ [])
    ∷ plain head.unary_operator (Term symbol.xnor_mark ∷ [])
    ∷ plain head.binary_operator (Term symbol.plus ∷ [])
    ∷ plain head.binary_operator (Term symbol.minus ∷ [])
    ∷ plain head.binary_operator (Term symbol.star ∷ [])
    ∷ plain head.binary_operator (Term symbol.slash ∷ [])
    ∷ plain head.binary_operator (Term symbol.percent ∷ [])
    ∷ plain head.binary_operator (Term symbol.power ∷ [])
    ∷ plain head.binary_operator (Term symbol.shift_left ∷ [])
    ∷ plain head.binary_operator (Term symbol.shift_right ∷ [])
    ∷ plain head.binary_operator (Term symbol.arithmetic_left ∷ [])
    ∷ plain head.binary_operator (Term symbol.arithmetic_right ∷ [])
    ∷ plain head.binary_operator (Term symbol.less ∷ [])
    ∷ plain head.binary_operator (Term symbol.less_equal ∷ [])
    ∷ plain head.binary_operator (Term symbol.greater ∷ [])
    ∷ plain head.binary_operator (Term symbol.greater_equal ∷ [])
    ∷ plain head.binary_operator (Term symbol.equal ∷ [])
    ∷ plain head.binary_operator (Term symbol.not_equal ∷ [])
    ∷ plain head.binary_operator (Term symbol.case_equal ∷ [])
    ∷ plain head.binary_operator (Term symbol.case_not_equal ∷ [])
    ∷ plain head.binary_operator (Term symbol.and_mark ∷ [])
    ∷ plain head.binary_operator (Term symbol.or_mark ∷ [])
    ∷ plain head.binary_operator (Term symbol.xor_mark ∷ [])
    ∷ plain head.binary_operator (Term symbol.xnor_mark ∷ [])
    ∷ plain head.binary_operator (Term symbol.logical_and ∷ [])
    ∷ plain head.binary_operator (Term symbol.logical_or ∷ [])
    ∷ []

abbrev pub table : List Row
table = text_rows ++ (item_rows ++ (statement_rows ++ (target_rows ++ (expression_rows ++ (operator_rows)))))
