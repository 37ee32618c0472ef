-- The heads of the target grammar, by the names of IEEE 1364-2005 annex A where it has one.
use Rattle.std.specs.Prelude.{ℕ}

abbrev pub source_text : ℕ
source_text = 0

abbrev pub module_declaration : ℕ
module_declaration = 1

abbrev pub list_of_ports : ℕ
list_of_ports = 2

abbrev pub next_name : ℕ
next_name = 3

abbrev pub module_item : ℕ
module_item = 4

abbrev pub output_rest : ℕ
output_rest = 5

abbrev pub reg_rest : ℕ
reg_rest = 6

abbrev pub memory_range : ℕ
memory_range = 7

abbrev pub initial_value : ℕ
initial_value = 8

abbrev pub value : ℕ
value = 9

abbrev pub next_number : ℕ
next_number = 10

abbrev pub function_input : ℕ
function_input = 11

abbrev pub local_declaration : ℕ
local_declaration = 12

abbrev pub range : ℕ
range = 13

abbrev pub bound : ℕ
bound = 14

abbrev pub event_control : ℕ
event_control = 15

abbrev pub next_edge : ℕ
next_edge = 16

abbrev pub edge : ℕ
edge = 17

abbrev pub connections : ℕ
connections = 18

abbrev pub next_connection : ℕ
next_connection = 19

abbrev pub connection : ℕ
connection = 20

abbrev pub statement_or_null : ℕ
statement_or_null = 21

abbrev pub statement : ℕ
statement = 22

abbrev pub block_label : ℕ
block_label = 23

abbrev pub else_branch : ℕ
else_branch = 24

abbrev pub case_keyword : ℕ
case_keyword = 25

abbrev pub case_body : ℕ
case_body = 26

abbrev pub case_default_rest : ℕ
case_default_rest = 27

abbrev pub case_item : ℕ
case_item = 28

abbrev pub case_default : ℕ
case_default = 29

abbrev pub next_expression : ℕ
next_expression = 30

abbrev pub assignment_mark : ℕ
assignment_mark = 31

abbrev pub lvalue : ℕ
lvalue = 32

abbrev pub next_lvalue : ℕ
next_lvalue = 33

abbrev pub selects : ℕ
selects = 34

abbrev pub select : ℕ
select = 35

abbrev pub select_base : ℕ
select_base = 36

abbrev pub select_extent : ℕ
select_extent = 37

abbrev pub expression : ℕ
expression = 38

abbrev pub expression_rest : ℕ
expression_rest = 39

abbrev pub primary : ℕ
primary = 40

abbrev pub name_rest : ℕ
name_rest = 41

abbrev pub brace_rest : ℕ
brace_rest = 42

abbrev pub sign_function : ℕ
sign_function = 43

abbrev pub unary_operator : ℕ
unary_operator = 44

abbrev pub binary_operator : ℕ
binary_operator = 45
