-- The numbers of rows are those of the table.
use Rattle.std.proofs.Common.{◌≡◌, ℕ, List, [], ◌∷◌, map, Some, refl}
use Rattle.std.specs.List.{slice_get}
use Rattle.ll_engine.specs.declared.table.Part.TheVariants.{Term, Non, Many}
use Rattle.ll_engine.specs.declared.table.Row.{Row}
use Rattle.sv_tree.specs.Heads as head
use Rattle.sv_tree.specs.Symbols.{mark_symbol, word_symbol}
use Rattle.sv_tree.specs.Table.{table, plain, nested, word, mark, identifier}
use Rattle.sv_tree.specs.declared.symbols.TheConstants.{SYSTEM, DECIMAL, BASED, FILL}
use Rattle.expr_build.specs.declared.rows.TheConstants as R

pub numbers : List ℕ
numbers =
    R.SIGNED
    ∷ R.BIT
    ∷ R.LOGIC
    ∷ R.REG
    ∷ R.BYTE
    ∷ R.SHORTINT
    ∷ R.INT
    ∷ R.LONGINT
    ∷ R.STRUCT
    ∷ R.UNARY_OPERATION
    ∷ R.UNARY_PLUS
    ∷ R.UNARY_MINUS
    ∷ R.UNARY_NOT
    ∷ R.UNARY_INVERT
    ∷ R.UNARY_AND
    ∷ R.UNARY_NAND
    ∷ R.UNARY_OR
    ∷ R.UNARY_NOR
    ∷ R.UNARY_XOR
    ∷ R.LOGICAL_OR
    ∷ R.LOGICAL_AND
    ∷ R.BITWISE_OR
    ∷ R.BITWISE_XOR
    ∷ R.BITWISE_XNOR
    ∷ R.OTHER_BITWISE_XNOR
    ∷ R.BITWISE_AND
    ∷ R.EQUAL
    ∷ R.NOT_EQUAL
    ∷ R.CASE_EQUAL
    ∷ R.CASE_NOT_EQUAL
    ∷ R.WILDCARD_EQUAL
    ∷ R.WILDCARD_NOT_EQUAL
    ∷ R.INSIDE
    ∷ R.LESS
    ∷ R.LESS_OR_EQUAL
    ∷ R.GREATER
    ∷ R.GREATER_OR_EQUAL
    ∷ R.SHIFT_LEFT
    ∷ R.SHIFT_RIGHT
    ∷ R.ARITHMETIC_SHIFT_LEFT
    ∷ R.ARITHMETIC_SHIFT_RIGHT
    ∷ R.ADD
    ∷ R.SUBTRACT
    ∷ R.MULTIPLY
    ∷ R.DIVIDE
    ∷ R.REMAINDER
    ∷ R.PART_RANGE
    ∷ R.PART_UP
    ∷ R.STREAM_LEFT
    ∷ R.DECIMAL_SLICE
    ∷ R.KEYWORD_SLICE
    ∷ R.NAME_SLICE
    ∷ R.MEMBER_SELECT
    ∷ R.VALUE_ITEM
    ∷ R.DECIMAL_PRIMARY
    ∷ R.BASED_PRIMARY
    ∷ R.FILL_PRIMARY
    ∷ R.PARENTHESIZED_PRIMARY
    ∷ R.BRACED_PRIMARY
    ∷ R.PATTERN_PRIMARY
    ∷ R.TYPE_PRIMARY
    ∷ R.SIGNING_PRIMARY
    ∷ R.SYSTEM_PRIMARY
    ∷ R.SIZED
    ∷ R.STREAM
    ∷ R.REPLICATION
    ∷ R.ARGUMENTS
    ∷ R.VALUE_CAST
    ∷ R.DEFAULT_FIRST
    ∷ R.KEYED_FIRST
    ∷ R.PATTERN_REPLICATION
    ∷ R.DEFAULT_ITEM
    ∷ R.KEYWORD_TYPE
    ∷ R.AGGREGATE_TYPE
    ∷ R.STRUCTURE
    ∷ R.KEYWORD_BASE
    ∷ []

pub rows : List Row
rows =
    plain head.signing (word "signed" ∷ [])
    ∷ plain head.type_keyword (word "bit" ∷ [])
    ∷ plain head.type_keyword (word "logic" ∷ [])
    ∷ plain head.type_keyword (word "reg" ∷ [])
    ∷ plain head.type_keyword (word "byte" ∷ [])
    ∷ plain head.type_keyword (word "shortint" ∷ [])
    ∷ plain head.type_keyword (word "int" ∷ [])
    ∷ plain head.type_keyword (word "longint" ∷ [])
    ∷ plain head.struct_union (word "struct" ∷ [])
    ∷ nested head.unary (Non head.unary_operator ∷ Non head.unary ∷ [])
    ∷ plain head.unary_operator (mark "+" ∷ [])
    ∷ plain head.unary_operator (mark "-" ∷ [])
    ∷ plain head.unary_operator (mark "!" ∷ [])
    ∷ plain head.unary_operator (mark "~" ∷ [])
    ∷ plain head.unary_operator (mark "&" ∷ [])
    ∷ plain head.unary_operator (mark "~&" ∷ [])
    ∷ plain head.unary_operator (mark "|" ∷ [])
    ∷ plain head.unary_operator (mark "~|" ∷ [])
    ∷ plain head.unary_operator (mark "^" ∷ [])
    ∷ plain head.logical_or_rest (mark "||" ∷ Non head.logical_and ∷ [])
    ∷ plain head.logical_and_rest (mark "&&" ∷ Non head.bitwise_or ∷ [])
    ∷ plain head.bitwise_or_rest (mark "|" ∷ Non head.bitwise_xor ∷ [])
    ∷ plain head.xor_operator (mark "^" ∷ [])
    ∷ plain head.xor_operator (mark "~^" ∷ [])
    ∷ plain head.xor_operator (mark "^~" ∷ [])
    ∷ plain head.bitwise_and_rest (mark "&" ∷ Non head.equality ∷ [])
    ∷ plain head.equality_operator (mark "==" ∷ [])
    ∷ plain head.equality_operator (mark "!=" ∷ [])
    ∷ plain head.equality_operator (mark "===" ∷ [])
    ∷ plain head.equality_operator (mark "!==" ∷ [])
    ∷ plain head.equality_operator (mark "==?" ∷ [])
    ∷ plain head.equality_operator (mark "!=?" ∷ [])
    ∷ plain head.relation_rest (word "inside" ∷ mark "{" ∷ Non head.value_ranges ∷ mark "}" ∷ [])
    ∷ plain head.relation_operator (mark "<" ∷ [])
    ∷ plain head.relation_operator (mark "<=" ∷ [])
    ∷ plain head.relation_operator (mark ">" ∷ [])
    ∷ plain head.relation_operator (mark ">=" ∷ [])
    ∷ plain head.shift_operator (mark "<<" ∷ [])
    ∷ plain head.shift_operator (mark ">>" ∷ [])
    ∷ plain head.shift_operator (mark "<<<" ∷ [])
    ∷ plain head.shift_operator (mark ">>>" ∷ [])
    ∷ plain head.sum_operator (mark "+" ∷ [])
    ∷ plain head.sum_operator (mark "-" ∷ [])
    ∷ plain head.product_operator (mark "*" ∷ [])
    ∷ plain head.product_operator (mark "/" ∷ [])
    ∷ plain head.product_operator (mark "%" ∷ [])
    ∷ plain head.part_select_operator (mark ":" ∷ [])
    ∷ plain head.part_select_operator (mark "+:" ∷ [])
    ∷ plain head.stream_operator (mark "<<" ∷ [])
    ∷ plain head.optional_slice_size (Term DECIMAL ∷ [])
    ∷ plain head.optional_slice_size (Non head.keyword_type ∷ [])
    ∷ plain head.optional_slice_size (identifier ∷ Non head.optional_scoped_name ∷ [])
    ∷ plain head.select (mark "." ∷ identifier ∷ [])
    ∷ plain head.value_range (Non head.expression ∷ [])
    ∷ plain head.primary (Term DECIMAL ∷ Non head.optional_size_rest ∷ [])
    ∷ plain head.primary (Term BASED ∷ [])
    ∷ plain head.primary (Term FILL ∷ [])
    ∷ plain head.primary (mark "(" ∷ Non head.expression ∷ mark ")" ∷ Non head.optional_cast ∷ [])
    ∷ plain head.primary (mark "{" ∷ Non head.primary_brace_rest ∷ [])
    ∷ plain head.primary (mark "'" ∷ mark "{" ∷ Non head.pattern_items ∷ mark "}" ∷ [])
    ∷ plain head.primary (Non head.keyword_type ∷ Non head.dimensions ∷ Non head.optional_cast ∷ [])
    ∷ plain head.primary (Non head.signing ∷ Non head.cast ∷ [])
    ∷ plain head.primary (Term SYSTEM ∷ mark "(" ∷ Non head.expression ∷ mark ")" ∷ [])
    ∷ plain head.optional_size_rest (Term BASED ∷ [])
    ∷ plain head.primary_brace_rest (Non head.stream_operator ∷ Non head.optional_slice_size ∷ mark "{" ∷ Non head.expressions ∷ mark "}" ∷ mark "}" ∷ [])
    ∷ plain head.concatenation_rest (mark "{" ∷ Non head.expressions ∷ mark "}" ∷ mark "}" ∷ [])
    ∷ plain head.arguments_or_selects (mark "(" ∷ Non head.optional_arguments ∷ mark ")" ∷ [])
    ∷ plain head.cast_operand (mark "(" ∷ Non head.expression ∷ mark ")" ∷ [])
    ∷ plain head.pattern_items (word "default" ∷ mark ":" ∷ Non head.expression ∷ Many head.next_pattern_item ∷ [])
    ∷ plain head.pattern_rest (mark ":" ∷ Non head.expression ∷ Many head.next_pattern_item ∷ [])
    ∷ plain head.pattern_rest (mark "{" ∷ Non head.expressions ∷ mark "}" ∷ [])
    ∷ plain head.pattern_item (word "default" ∷ mark ":" ∷ Non head.expression ∷ [])
    ∷ nested head.data_type (Non head.keyword_type ∷ Non head.dimensions ∷ [])
    ∷ nested head.data_type (Non head.aggregate_type ∷ Non head.dimensions ∷ [])
    ∷ plain head.aggregate_type (Non head.struct_union ∷ Non head.optional_packing ∷ mark "{" ∷ Non head.struct_union_members ∷ mark "}" ∷ [])
    ∷ plain head.optional_enum_base_type (Non head.keyword_type ∷ Non head.dimensions ∷ [])
    ∷ []

pub rows-are : map (slice_get table) numbers ≡ map Some rows
unfolding numbers rows table mark_symbol word_symbol
rows-are = refl
