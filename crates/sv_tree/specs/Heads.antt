-- The heads of the grammar, by the names of IEEE 1800-2017 annex A where it has one.
use Rattle.std.specs.Prelude.{ℕ}

abbrev pub source_text : ℕ
source_text = 0

abbrev pub description : ℕ
description = 1

abbrev pub package_declaration : ℕ
package_declaration = 2

abbrev pub package_items : ℕ
package_items = 3

abbrev pub package_item : ℕ
package_item = 4

abbrev pub optional_label : ℕ
optional_label = 5

abbrev pub optional_lifetime : ℕ
optional_lifetime = 6

abbrev pub package_import_declaration : ℕ
package_import_declaration = 7

abbrev pub package_import_items : ℕ
package_import_items = 8

abbrev pub next_package_import_item : ℕ
next_package_import_item = 9

abbrev pub package_import_item : ℕ
package_import_item = 10

abbrev pub imported_name : ℕ
imported_name = 11

abbrev pub module_declaration : ℕ
module_declaration = 12

abbrev pub interface_declaration : ℕ
interface_declaration = 13

abbrev pub header : ℕ
header = 14

abbrev pub header_imports : ℕ
header_imports = 15

abbrev pub optional_parameter_port_list : ℕ
optional_parameter_port_list = 16

abbrev pub optional_parameter_ports : ℕ
optional_parameter_ports = 17

abbrev pub next_parameter_port : ℕ
next_parameter_port = 18

abbrev pub parameter_port_declaration : ℕ
parameter_port_declaration = 19

abbrev pub optional_port_list : ℕ
optional_port_list = 20

abbrev pub optional_ports : ℕ
optional_ports = 21

abbrev pub next_port : ℕ
next_port = 22

abbrev pub parameter_declaration : ℕ
parameter_declaration = 23

abbrev pub parameter_keyword : ℕ
parameter_keyword = 24

abbrev pub optional_parameter_keyword : ℕ
optional_parameter_keyword = 25

abbrev pub parameter_bodies : ℕ
parameter_bodies = 26

abbrev pub next_parameter_body : ℕ
next_parameter_body = 27

abbrev pub parameter_body : ℕ
parameter_body = 28

abbrev pub parameter_name_rest : ℕ
parameter_name_rest = 29

abbrev pub optional_initializer : ℕ
optional_initializer = 30

abbrev pub declarators : ℕ
declarators = 31

abbrev pub next_declarator : ℕ
next_declarator = 32

abbrev pub declarator : ℕ
declarator = 33

abbrev pub dimensions : ℕ
dimensions = 34

abbrev pub dimension : ℕ
dimension = 35

abbrev pub optional_right_bound : ℕ
optional_right_bound = 36

abbrev pub port_declaration : ℕ
port_declaration = 37

abbrev pub port_direction : ℕ
port_direction = 38

abbrev pub optional_port_direction : ℕ
optional_port_direction = 39

abbrev pub net_or_variable : ℕ
net_or_variable = 40

abbrev pub optional_net_or_variable : ℕ
optional_net_or_variable = 41

abbrev pub port_type : ℕ
port_type = 42

abbrev pub port_name_rest : ℕ
port_name_rest = 43

abbrev pub optional_dimensioned_name : ℕ
optional_dimensioned_name = 44

abbrev pub keyword_type : ℕ
keyword_type = 45

abbrev pub type_keyword : ℕ
type_keyword = 46

abbrev pub signing : ℕ
signing = 47

abbrev pub optional_signing : ℕ
optional_signing = 48

abbrev pub data_type : ℕ
data_type = 49

abbrev pub optional_scoped_name : ℕ
optional_scoped_name = 50

abbrev pub aggregate_type : ℕ
aggregate_type = 51

abbrev pub struct_union : ℕ
struct_union = 52

abbrev pub optional_packing : ℕ
optional_packing = 53

abbrev pub struct_union_members : ℕ
struct_union_members = 54

abbrev pub struct_union_member : ℕ
struct_union_member = 55

abbrev pub dimensioned_names : ℕ
dimensioned_names = 56

abbrev pub next_dimensioned_name : ℕ
next_dimensioned_name = 57

abbrev pub dimensioned_name : ℕ
dimensioned_name = 58

abbrev pub optional_enum_base_type : ℕ
optional_enum_base_type = 59

abbrev pub enum_names : ℕ
enum_names = 60

abbrev pub next_enum_name : ℕ
next_enum_name = 61

abbrev pub enum_name_declaration : ℕ
enum_name_declaration = 62

abbrev pub type_declaration : ℕ
type_declaration = 63

abbrev pub module_items : ℕ
module_items = 64

abbrev pub module_item : ℕ
module_item = 65

abbrev pub names : ℕ
names = 66

abbrev pub next_name : ℕ
next_name = 67

abbrev pub net_assignments : ℕ
net_assignments = 68

abbrev pub next_net_assignment : ℕ
next_net_assignment = 69

abbrev pub net_assignment : ℕ
net_assignment = 70

abbrev pub data_declaration : ℕ
data_declaration = 71

abbrev pub variable_type : ℕ
variable_type = 72

abbrev pub variable_name_rest : ℕ
variable_name_rest = 73

abbrev pub item_name_rest : ℕ
item_name_rest = 74

abbrev pub declared_name_rest : ℕ
declared_name_rest = 75

abbrev pub next_declarators : ℕ
next_declarators = 76

abbrev pub optional_parameter_assignments : ℕ
optional_parameter_assignments = 77

abbrev pub next_parameter_assignment : ℕ
next_parameter_assignment = 78

abbrev pub parameter_assignment : ℕ
parameter_assignment = 79

abbrev pub hierarchical_instances : ℕ
hierarchical_instances = 80

abbrev pub next_instances : ℕ
next_instances = 81

abbrev pub next_instance : ℕ
next_instance = 82

abbrev pub hierarchical_instance : ℕ
hierarchical_instance = 83

abbrev pub optional_port_connections : ℕ
optional_port_connections = 84

abbrev pub next_port_connection : ℕ
next_port_connection = 85

abbrev pub port_connection : ℕ
port_connection = 86

abbrev pub optional_connected_expression : ℕ
optional_connected_expression = 87

abbrev pub loop_generate_construct : ℕ
loop_generate_construct = 88

abbrev pub optional_genvar_keyword : ℕ
optional_genvar_keyword = 89

abbrev pub if_generate_construct : ℕ
if_generate_construct = 90

abbrev pub generate_else : ℕ
generate_else = 91

abbrev pub case_generate_construct : ℕ
case_generate_construct = 92

abbrev pub case_generate_body : ℕ
case_generate_body = 93

abbrev pub case_generate_items : ℕ
case_generate_items = 94

abbrev pub optional_case_generate_default : ℕ
optional_case_generate_default = 95

abbrev pub case_generate_default : ℕ
case_generate_default = 96

abbrev pub optional_colon : ℕ
optional_colon = 97

abbrev pub case_generate_item : ℕ
case_generate_item = 98

abbrev pub expressions : ℕ
expressions = 99

abbrev pub next_expression : ℕ
next_expression = 100

abbrev pub optional_expression : ℕ
optional_expression = 101

abbrev pub generate_block : ℕ
generate_block = 102

abbrev pub modport_declaration : ℕ
modport_declaration = 103

abbrev pub modport_items : ℕ
modport_items = 104

abbrev pub next_modport_item : ℕ
next_modport_item = 105

abbrev pub modport_item : ℕ
modport_item = 106

abbrev pub modport_ports : ℕ
modport_ports = 107

abbrev pub next_modport_port : ℕ
next_modport_port = 108

abbrev pub modport_port : ℕ
modport_port = 109

abbrev pub function_declaration : ℕ
function_declaration = 110

abbrev pub function_type : ℕ
function_type = 111

abbrev pub function_name_rest : ℕ
function_name_rest = 112

abbrev pub optional_name : ℕ
optional_name = 113

abbrev pub optional_tf_port_list : ℕ
optional_tf_port_list = 114

abbrev pub optional_tf_ports : ℕ
optional_tf_ports = 115

abbrev pub next_tf_port : ℕ
next_tf_port = 116

abbrev pub tf_port_item : ℕ
tf_port_item = 117

abbrev pub optional_tf_port_direction : ℕ
optional_tf_port_direction = 118

abbrev pub task_declaration : ℕ
task_declaration = 119

abbrev pub always_construct : ℕ
always_construct = 120

abbrev pub event_control : ℕ
event_control = 121

abbrev pub event_control_rest : ℕ
event_control_rest = 122

abbrev pub event_expression : ℕ
event_expression = 123

abbrev pub next_event_edge : ℕ
next_event_edge = 124

abbrev pub event_separator : ℕ
event_separator = 125

abbrev pub event_edge : ℕ
event_edge = 126

abbrev pub edge_identifier : ℕ
edge_identifier = 127

abbrev pub optional_event_member : ℕ
optional_event_member = 128

abbrev pub statement : ℕ
statement = 129

abbrev pub statement_name_rest : ℕ
statement_name_rest = 130

abbrev pub call : ℕ
call = 131

abbrev pub block_items : ℕ
block_items = 132

abbrev pub block_item : ℕ
block_item = 133

abbrev pub automatic_declaration : ℕ
automatic_declaration = 134

abbrev pub block_name_rest : ℕ
block_name_rest = 135

abbrev pub block_scoped_name_rest : ℕ
block_scoped_name_rest = 136

abbrev pub block_select_rest : ℕ
block_select_rest = 137

abbrev pub statement_item : ℕ
statement_item = 138

abbrev pub conditional_statement : ℕ
conditional_statement = 139

abbrev pub unique_priority : ℕ
unique_priority = 140

abbrev pub else_statement : ℕ
else_statement = 141

abbrev pub case_keyword : ℕ
case_keyword = 142

abbrev pub case_body : ℕ
case_body = 143

abbrev pub case_items : ℕ
case_items = 144

abbrev pub optional_case_default : ℕ
optional_case_default = 145

abbrev pub case_default : ℕ
case_default = 146

abbrev pub case_item : ℕ
case_item = 147

abbrev pub for_initialization : ℕ
for_initialization = 148

abbrev pub for_step : ℕ
for_step = 149

abbrev pub assignment_rest : ℕ
assignment_rest = 150

abbrev pub inc_or_dec_operator : ℕ
inc_or_dec_operator = 151

abbrev pub assignment_operator : ℕ
assignment_operator = 152

abbrev pub variable_lvalue : ℕ
variable_lvalue = 153

abbrev pub lvalue_concatenation : ℕ
lvalue_concatenation = 154

abbrev pub lvalue_concatenation_rest : ℕ
lvalue_concatenation_rest = 155

abbrev pub stream_operator : ℕ
stream_operator = 156

abbrev pub optional_slice_size : ℕ
optional_slice_size = 157

abbrev pub variable_lvalues : ℕ
variable_lvalues = 158

abbrev pub next_lvalue : ℕ
next_lvalue = 159

abbrev pub selects : ℕ
selects = 160

abbrev pub select : ℕ
select = 161

abbrev pub optional_part_select_rest : ℕ
optional_part_select_rest = 162

abbrev pub part_select_operator : ℕ
part_select_operator = 163

abbrev pub expression : ℕ
expression = 164

abbrev pub optional_conditional_rest : ℕ
optional_conditional_rest = 165

abbrev pub logical_or : ℕ
logical_or = 166

abbrev pub logical_or_rest : ℕ
logical_or_rest = 167

abbrev pub logical_and : ℕ
logical_and = 168

abbrev pub logical_and_rest : ℕ
logical_and_rest = 169

abbrev pub bitwise_or : ℕ
bitwise_or = 170

abbrev pub bitwise_or_rest : ℕ
bitwise_or_rest = 171

abbrev pub bitwise_xor : ℕ
bitwise_xor = 172

abbrev pub bitwise_xor_rest : ℕ
bitwise_xor_rest = 173

abbrev pub xor_operator : ℕ
xor_operator = 174

abbrev pub bitwise_and : ℕ
bitwise_and = 175

abbrev pub bitwise_and_rest : ℕ
bitwise_and_rest = 176

abbrev pub equality : ℕ
equality = 177

abbrev pub equality_rest : ℕ
equality_rest = 178

abbrev pub equality_operator : ℕ
equality_operator = 179

abbrev pub relation : ℕ
relation = 180

abbrev pub relation_rest : ℕ
relation_rest = 181

abbrev pub relation_operator : ℕ
relation_operator = 182

abbrev pub value_ranges : ℕ
value_ranges = 183

abbrev pub next_value_range : ℕ
next_value_range = 184

abbrev pub value_range : ℕ
value_range = 185

abbrev pub shift : ℕ
shift = 186

abbrev pub shift_rest : ℕ
shift_rest = 187

abbrev pub shift_operator : ℕ
shift_operator = 188

abbrev pub sum : ℕ
sum = 189

abbrev pub sum_rest : ℕ
sum_rest = 190

abbrev pub sum_operator : ℕ
sum_operator = 191

abbrev pub product : ℕ
product = 192

abbrev pub product_rest : ℕ
product_rest = 193

abbrev pub product_operator : ℕ
product_operator = 194

abbrev pub power : ℕ
power = 195

abbrev pub power_rest : ℕ
power_rest = 196

abbrev pub unary : ℕ
unary = 197

abbrev pub unary_operator : ℕ
unary_operator = 198

abbrev pub primary : ℕ
primary = 199

abbrev pub optional_size_rest : ℕ
optional_size_rest = 200

abbrev pub primary_brace_rest : ℕ
primary_brace_rest = 201

abbrev pub concatenation_rest : ℕ
concatenation_rest = 202

abbrev pub next_expressions : ℕ
next_expressions = 203

abbrev pub primary_name_rest : ℕ
primary_name_rest = 204

abbrev pub arguments_or_selects : ℕ
arguments_or_selects = 205

abbrev pub optional_arguments : ℕ
optional_arguments = 206

abbrev pub optional_cast : ℕ
optional_cast = 207

abbrev pub cast : ℕ
cast = 208

abbrev pub cast_operand : ℕ
cast_operand = 209

abbrev pub pattern_items : ℕ
pattern_items = 210

abbrev pub pattern_rest : ℕ
pattern_rest = 211

abbrev pub next_pattern_item : ℕ
next_pattern_item = 212

abbrev pub pattern_item : ℕ
pattern_item = 213

abbrev pub optional_pattern_value : ℕ
optional_pattern_value = 214
