-- The parts that the nodes of items, generate constructs, headers, packages and modules have in any text.
use Rattle.std.proofs.Common.{◌≡◌, ℕ, true, false, ◌==◌, [], ◌∷◌, refl}
use Rattle.std.proofs.lemmas.Bool.{eqb-true}
use Rattle.ll_engine.specs.declared.tree.Tree.{Tree}
use Rattle.sv_tree.specs.Heads as head
use Rattle.sv_tree.specs.Table.{table}
use Rattle.sv_build.specs.declared.rows.TheConstants as R
use Rattle.expr_build.specs.Nodes.{row_of, is_blank}
use Rattle.least_laws.proofs.Spans.{Spans, Facts}
use Rattle.least_laws.proofs.Spans.Shape.{Token, One, Each}
use Rattle.least_laws.proofs.Rows.{NotIn, of-row, of-others, of-all, of-filled}

-- items of modules and interfaces
pub module-items : {n at to : ℕ} {t : Tree} → Spans head.module_items n at t to → Facts (Each head.module_item ∷ []) 0 n t at to
unfolding table
module-items s = of-all (Each head.module_item ∷ []) refl s

pub parameters-item : {n at to : ℕ} {t : Tree} → Spans head.module_item n at t to → (row_of t == R.PARAMETERS_MODULE_ITEM) ≡ true → Facts (One head.parameter_declaration ∷ Token ∷ []) 0 n t at to
unfolding table
parameters-item {t = t} s e = of-row R.PARAMETERS_MODULE_ITEM (One head.parameter_declaration ∷ Token ∷ []) refl s (eqb-true (row_of t) R.PARAMETERS_MODULE_ITEM e)

pub typedef-item : {n at to : ℕ} {t : Tree} → Spans head.module_item n at t to → (row_of t == R.TYPEDEF_MODULE_ITEM) ≡ true → Facts (One head.type_declaration ∷ []) 0 n t at to
unfolding table
typedef-item {t = t} s e = of-row R.TYPEDEF_MODULE_ITEM (One head.type_declaration ∷ []) refl s (eqb-true (row_of t) R.TYPEDEF_MODULE_ITEM e)

pub function-item : {n at to : ℕ} {t : Tree} → Spans head.module_item n at t to → (row_of t == R.FUNCTION_MODULE_ITEM) ≡ true → Facts (One head.function_declaration ∷ []) 0 n t at to
unfolding table
function-item {t = t} s e = of-row R.FUNCTION_MODULE_ITEM (One head.function_declaration ∷ []) refl s (eqb-true (row_of t) R.FUNCTION_MODULE_ITEM e)

pub task-item : {n at to : ℕ} {t : Tree} → Spans head.module_item n at t to → (row_of t == R.TASK_MODULE_ITEM) ≡ true → Facts (One head.task_declaration ∷ []) 0 n t at to
unfolding table
task-item {t = t} s e = of-row R.TASK_MODULE_ITEM (One head.task_declaration ∷ []) refl s (eqb-true (row_of t) R.TASK_MODULE_ITEM e)

pub data-item : {n at to : ℕ} {t : Tree} → Spans head.module_item n at t to → (row_of t == R.DATA_MODULE_ITEM) ≡ true → Facts (One head.data_declaration ∷ Token ∷ []) 0 n t at to
unfolding table
data-item {t = t} s e = of-row R.DATA_MODULE_ITEM (One head.data_declaration ∷ Token ∷ []) refl s (eqb-true (row_of t) R.DATA_MODULE_ITEM e)

pub assign-item : {n at to : ℕ} {t : Tree} → Spans head.module_item n at t to → (row_of t == R.ASSIGN_MODULE_ITEM) ≡ true → Facts (Token ∷ One head.net_assignments ∷ Token ∷ []) 0 n t at to
unfolding table
assign-item {t = t} s e = of-row R.ASSIGN_MODULE_ITEM (Token ∷ One head.net_assignments ∷ Token ∷ []) refl s (eqb-true (row_of t) R.ASSIGN_MODULE_ITEM e)

pub always-item : {n at to : ℕ} {t : Tree} → Spans head.module_item n at t to → (row_of t == R.ALWAYS_MODULE_ITEM) ≡ true → Facts (One head.always_construct ∷ []) 0 n t at to
unfolding table
always-item {t = t} s e = of-row R.ALWAYS_MODULE_ITEM (One head.always_construct ∷ []) refl s (eqb-true (row_of t) R.ALWAYS_MODULE_ITEM e)

pub generate-item : {n at to : ℕ} {t : Tree} → Spans head.module_item n at t to → (row_of t == R.GENERATE_MODULE_ITEM) ≡ true → Facts (Token ∷ One head.module_items ∷ Token ∷ []) 0 n t at to
unfolding table
generate-item {t = t} s e = of-row R.GENERATE_MODULE_ITEM (Token ∷ One head.module_items ∷ Token ∷ []) refl s (eqb-true (row_of t) R.GENERATE_MODULE_ITEM e)

pub loop-item : {n at to : ℕ} {t : Tree} → Spans head.module_item n at t to → (row_of t == R.LOOP_MODULE_ITEM) ≡ true → Facts (One head.loop_generate_construct ∷ []) 0 n t at to
unfolding table
loop-item {t = t} s e = of-row R.LOOP_MODULE_ITEM (One head.loop_generate_construct ∷ []) refl s (eqb-true (row_of t) R.LOOP_MODULE_ITEM e)

pub if-item : {n at to : ℕ} {t : Tree} → Spans head.module_item n at t to → (row_of t == R.IF_MODULE_ITEM) ≡ true → Facts (One head.if_generate_construct ∷ []) 0 n t at to
unfolding table
if-item {t = t} s e = of-row R.IF_MODULE_ITEM (One head.if_generate_construct ∷ []) refl s (eqb-true (row_of t) R.IF_MODULE_ITEM e)

pub case-item : {n at to : ℕ} {t : Tree} → Spans head.module_item n at t to → (row_of t == R.CASE_MODULE_ITEM) ≡ true → Facts (One head.case_generate_construct ∷ []) 0 n t at to
unfolding table
case-item {t = t} s e = of-row R.CASE_MODULE_ITEM (One head.case_generate_construct ∷ []) refl s (eqb-true (row_of t) R.CASE_MODULE_ITEM e)

pub name-item : {n at to : ℕ} {t : Tree} → Spans head.module_item n at t to → (row_of t == R.NAME_MODULE_ITEM) ≡ true → Facts (Token ∷ One head.item_name_rest ∷ []) 0 n t at to
unfolding table
name-item {t = t} s e = of-row R.NAME_MODULE_ITEM (Token ∷ One head.item_name_rest ∷ []) refl s (eqb-true (row_of t) R.NAME_MODULE_ITEM e)

-- type names, continuous assignments, processes and variables
pub typedef : {n at to : ℕ} {t : Tree} → Spans head.type_declaration n at t to → Facts (Token ∷ One head.data_type ∷ Token ∷ One head.dimensions ∷ Token ∷ []) 0 n t at to
unfolding table
typedef s = of-all (Token ∷ One head.data_type ∷ Token ∷ One head.dimensions ∷ Token ∷ []) refl s

pub assignments : {n at to : ℕ} {t : Tree} → Spans head.net_assignments n at t to → Facts (One head.net_assignment ∷ Each head.next_net_assignment ∷ []) 0 n t at to
unfolding table
assignments s = of-all (One head.net_assignment ∷ Each head.next_net_assignment ∷ []) refl s

pub next-assignment : {n at to : ℕ} {t : Tree} → Spans head.next_net_assignment n at t to → Facts (Token ∷ One head.net_assignment ∷ []) 0 n t at to
unfolding table
next-assignment s = of-all (Token ∷ One head.net_assignment ∷ []) refl s

pub assignment : {n at to : ℕ} {t : Tree} → Spans head.net_assignment n at t to → Facts (One head.variable_lvalue ∷ Token ∷ One head.expression ∷ []) 0 n t at to
unfolding table
assignment s = of-all (One head.variable_lvalue ∷ Token ∷ One head.expression ∷ []) refl s

pub always-comb : {n at to : ℕ} {t : Tree} → Spans head.always_construct n at t to → (row_of t == R.ALWAYS_COMB) ≡ true → Facts (Token ∷ One head.statement ∷ []) 0 n t at to
unfolding table
always-comb {t = t} s e = of-row R.ALWAYS_COMB (Token ∷ One head.statement ∷ []) refl s (eqb-true (row_of t) R.ALWAYS_COMB e)

pub always-latch : {n at to : ℕ} {t : Tree} → Spans head.always_construct n at t to → (row_of t == R.ALWAYS_LATCH) ≡ true → Facts (Token ∷ One head.statement ∷ []) 0 n t at to
unfolding table
always-latch {t = t} s e = of-row R.ALWAYS_LATCH (Token ∷ One head.statement ∷ []) refl s (eqb-true (row_of t) R.ALWAYS_LATCH e)

pub always-ff : {n at to : ℕ} {t : Tree} → Spans head.always_construct n at t to → (row_of t == R.ALWAYS_FF) ≡ true → Facts (Token ∷ Token ∷ Token ∷ One head.event_expression ∷ Token ∷ One head.statement ∷ []) 0 n t at to
unfolding table
always-ff {t = t} s e = of-row R.ALWAYS_FF (Token ∷ Token ∷ Token ∷ One head.event_expression ∷ Token ∷ One head.statement ∷ []) refl s (eqb-true (row_of t) R.ALWAYS_FF e)

pub always : {n at to : ℕ} {t : Tree} → Spans head.always_construct n at t to → NotIn (row_of t) (R.ALWAYS_COMB ∷ R.ALWAYS_LATCH ∷ R.ALWAYS_FF ∷ []) → Facts (Token ∷ Token ∷ One head.event_control ∷ One head.statement ∷ []) 0 n t at to
unfolding table
always s e = of-others (R.ALWAYS_COMB ∷ R.ALWAYS_LATCH ∷ R.ALWAYS_FF ∷ []) (Token ∷ Token ∷ One head.event_control ∷ One head.statement ∷ []) refl s e

pub keyword-data : {n at to : ℕ} {t : Tree} → Spans head.data_declaration n at t to → (row_of t == R.KEYWORD_DATA) ≡ true → Facts (One head.keyword_type ∷ One head.dimensions ∷ One head.declarators ∷ []) 0 n t at to
unfolding table
keyword-data {t = t} s e = of-row R.KEYWORD_DATA (One head.keyword_type ∷ One head.dimensions ∷ One head.declarators ∷ []) refl s (eqb-true (row_of t) R.KEYWORD_DATA e)

pub aggregate-data : {n at to : ℕ} {t : Tree} → Spans head.data_declaration n at t to → (row_of t == R.AGGREGATE_DATA) ≡ true → Facts (One head.aggregate_type ∷ One head.dimensions ∷ One head.declarators ∷ []) 0 n t at to
unfolding table
aggregate-data {t = t} s e = of-row R.AGGREGATE_DATA (One head.aggregate_type ∷ One head.dimensions ∷ One head.declarators ∷ []) refl s (eqb-true (row_of t) R.AGGREGATE_DATA e)

pub net-data : {n at to : ℕ} {t : Tree} → Spans head.data_declaration n at t to → NotIn (row_of t) (R.KEYWORD_DATA ∷ R.AGGREGATE_DATA ∷ []) → Facts (One head.net_or_variable ∷ One head.variable_type ∷ []) 0 n t at to
unfolding table
net-data s e = of-others (R.KEYWORD_DATA ∷ R.AGGREGATE_DATA ∷ []) (One head.net_or_variable ∷ One head.variable_type ∷ []) refl s e

-- items that a name begins
pub scoped-data : {n at to : ℕ} {t : Tree} → Spans head.item_name_rest n at t to → (row_of t == R.SCOPED_DATA) ≡ true → Facts (Token ∷ Token ∷ One head.dimensions ∷ One head.declarators ∷ Token ∷ []) 0 n t at to
unfolding table
scoped-data {t = t} s e = of-row R.SCOPED_DATA (Token ∷ Token ∷ One head.dimensions ∷ One head.declarators ∷ Token ∷ []) refl s (eqb-true (row_of t) R.SCOPED_DATA e)

pub dimensioned-data : {n at to : ℕ} {t : Tree} → Spans head.item_name_rest n at t to → (row_of t == R.DIMENSIONED_DATA) ≡ true → Facts (One head.dimension ∷ One head.dimensions ∷ One head.declarators ∷ Token ∷ []) 0 n t at to
unfolding table
dimensioned-data {t = t} s e = of-row R.DIMENSIONED_DATA (One head.dimension ∷ One head.dimensions ∷ One head.declarators ∷ Token ∷ []) refl s (eqb-true (row_of t) R.DIMENSIONED_DATA e)

pub named-data : {n at to : ℕ} {t : Tree} → Spans head.item_name_rest n at t to → (row_of t == R.NAMED_DATA) ≡ true → Facts (Token ∷ One head.declared_name_rest ∷ []) 0 n t at to
unfolding table
named-data {t = t} s e = of-row R.NAMED_DATA (Token ∷ One head.declared_name_rest ∷ []) refl s (eqb-true (row_of t) R.NAMED_DATA e)

pub bound-instances : {n at to : ℕ} {t : Tree} → Spans head.item_name_rest n at t to → NotIn (row_of t) (R.SCOPED_DATA ∷ R.DIMENSIONED_DATA ∷ R.NAMED_DATA ∷ []) → Facts (Token ∷ Token ∷ One head.optional_parameter_assignments ∷ Token ∷ One head.hierarchical_instances ∷ Token ∷ []) 0 n t at to
unfolding table
bound-instances s e = of-others (R.SCOPED_DATA ∷ R.DIMENSIONED_DATA ∷ R.NAMED_DATA ∷ []) (Token ∷ Token ∷ One head.optional_parameter_assignments ∷ Token ∷ One head.hierarchical_instances ∷ Token ∷ []) refl s e

pub instance-rest : {n at to : ℕ} {t : Tree} → Spans head.declared_name_rest n at t to → (row_of t == R.INSTANCE) ≡ true → Facts (Token ∷ One head.optional_port_connections ∷ Token ∷ One head.next_instances ∷ Token ∷ []) 0 n t at to
unfolding table
instance-rest {t = t} s e = of-row R.INSTANCE (Token ∷ One head.optional_port_connections ∷ Token ∷ One head.next_instances ∷ Token ∷ []) refl s (eqb-true (row_of t) R.INSTANCE e)

pub data-rest : {n at to : ℕ} {t : Tree} → Spans head.declared_name_rest n at t to → NotIn (row_of t) (R.INSTANCE ∷ []) → Facts (One head.dimensions ∷ One head.optional_initializer ∷ One head.next_declarators ∷ Token ∷ []) 0 n t at to
unfolding table
data-rest s e = of-others (R.INSTANCE ∷ []) (One head.dimensions ∷ One head.optional_initializer ∷ One head.next_declarators ∷ Token ∷ []) refl s e

pub next-declarators : {n at to : ℕ} {t : Tree} → Spans head.next_declarators n at t to → Facts (Each head.next_declarator ∷ []) 0 n t at to
unfolding table
next-declarators s = of-all (Each head.next_declarator ∷ []) refl s

pub next-instances : {n at to : ℕ} {t : Tree} → Spans head.next_instances n at t to → Facts (Each head.next_instance ∷ []) 0 n t at to
unfolding table
next-instances s = of-all (Each head.next_instance ∷ []) refl s

pub next-instance : {n at to : ℕ} {t : Tree} → Spans head.next_instance n at t to → Facts (Token ∷ One head.hierarchical_instance ∷ []) 0 n t at to
unfolding table
next-instance s = of-all (Token ∷ One head.hierarchical_instance ∷ []) refl s

pub instance : {n at to : ℕ} {t : Tree} → Spans head.hierarchical_instance n at t to → Facts (Token ∷ Token ∷ One head.optional_port_connections ∷ Token ∷ []) 0 n t at to
unfolding table
instance s = of-all (Token ∷ Token ∷ One head.optional_port_connections ∷ Token ∷ []) refl s

pub instances : {n at to : ℕ} {t : Tree} → Spans head.hierarchical_instances n at t to → Facts (One head.hierarchical_instance ∷ Each head.next_instance ∷ []) 0 n t at to
unfolding table
instances s = of-all (One head.hierarchical_instance ∷ Each head.next_instance ∷ []) refl s

pub connections : {n at to : ℕ} {t : Tree} → Spans head.optional_port_connections n at t to → is_blank t ≡ false → NotIn (row_of t) [] → Facts (One head.port_connection ∷ Each head.next_port_connection ∷ []) 0 n t at to
unfolding table
connections s b e = of-filled [] (One head.port_connection ∷ Each head.next_port_connection ∷ []) refl s e b

pub next-connection : {n at to : ℕ} {t : Tree} → Spans head.next_port_connection n at t to → Facts (Token ∷ One head.port_connection ∷ []) 0 n t at to
unfolding table
next-connection s = of-all (Token ∷ One head.port_connection ∷ []) refl s

pub named-connection : {n at to : ℕ} {t : Tree} → Spans head.port_connection n at t to → (row_of t == R.NAMED_CONNECTION) ≡ true → Facts (Token ∷ Token ∷ One head.optional_connected_expression ∷ []) 0 n t at to
unfolding table
named-connection {t = t} s e = of-row R.NAMED_CONNECTION (Token ∷ Token ∷ One head.optional_connected_expression ∷ []) refl s (eqb-true (row_of t) R.NAMED_CONNECTION e)

pub all-connection : {n at to : ℕ} {t : Tree} → Spans head.port_connection n at t to → (row_of t == R.ALL_CONNECTION) ≡ true → Facts (Token ∷ []) 0 n t at to
unfolding table
all-connection {t = t} s e = of-row R.ALL_CONNECTION (Token ∷ []) refl s (eqb-true (row_of t) R.ALL_CONNECTION e)

pub ordered-connection : {n at to : ℕ} {t : Tree} → Spans head.port_connection n at t to → NotIn (row_of t) (R.NAMED_CONNECTION ∷ R.ALL_CONNECTION ∷ []) → Facts (One head.expression ∷ []) 0 n t at to
unfolding table
ordered-connection s e = of-others (R.NAMED_CONNECTION ∷ R.ALL_CONNECTION ∷ []) (One head.expression ∷ []) refl s e

pub connected : {n at to : ℕ} {t : Tree} → Spans head.optional_connected_expression n at t to → is_blank t ≡ false → NotIn (row_of t) [] → Facts (Token ∷ One head.optional_expression ∷ Token ∷ []) 0 n t at to
unfolding table
connected s b e = of-filled [] (Token ∷ One head.optional_expression ∷ Token ∷ []) refl s e b

pub binds : {n at to : ℕ} {t : Tree} → Spans head.optional_parameter_assignments n at t to → is_blank t ≡ false → NotIn (row_of t) [] → Facts (One head.parameter_assignment ∷ Each head.next_parameter_assignment ∷ []) 0 n t at to
unfolding table
binds s b e = of-filled [] (One head.parameter_assignment ∷ Each head.next_parameter_assignment ∷ []) refl s e b

pub next-bind : {n at to : ℕ} {t : Tree} → Spans head.next_parameter_assignment n at t to → Facts (Token ∷ One head.parameter_assignment ∷ []) 0 n t at to
unfolding table
next-bind s = of-all (Token ∷ One head.parameter_assignment ∷ []) refl s

pub named-bind : {n at to : ℕ} {t : Tree} → Spans head.parameter_assignment n at t to → (row_of t == R.NAMED_BIND) ≡ true → Facts (Token ∷ Token ∷ Token ∷ One head.optional_expression ∷ Token ∷ []) 0 n t at to
unfolding table
named-bind {t = t} s e = of-row R.NAMED_BIND (Token ∷ Token ∷ Token ∷ One head.optional_expression ∷ Token ∷ []) refl s (eqb-true (row_of t) R.NAMED_BIND e)

pub ordered-bind : {n at to : ℕ} {t : Tree} → Spans head.parameter_assignment n at t to → NotIn (row_of t) (R.NAMED_BIND ∷ []) → Facts (One head.expression ∷ []) 0 n t at to
unfolding table
ordered-bind s e = of-others (R.NAMED_BIND ∷ []) (One head.expression ∷ []) refl s e

-- generate constructs
pub loop-generate : {n at to : ℕ} {t : Tree} → Spans head.loop_generate_construct n at t to → Facts (Token ∷ Token ∷ One head.optional_genvar_keyword ∷ Token ∷ Token ∷ One head.expression ∷ Token ∷ One head.expression ∷ Token ∷ One head.for_step ∷ Token ∷ One head.generate_block ∷ []) 0 n t at to
unfolding table
loop-generate s = of-all (Token ∷ Token ∷ One head.optional_genvar_keyword ∷ Token ∷ Token ∷ One head.expression ∷ Token ∷ One head.expression ∷ Token ∷ One head.for_step ∷ Token ∷ One head.generate_block ∷ []) refl s

pub if-generate : {n at to : ℕ} {t : Tree} → Spans head.if_generate_construct n at t to → Facts (Token ∷ Token ∷ One head.expression ∷ Token ∷ One head.generate_block ∷ Each head.generate_else ∷ []) 0 n t at to
unfolding table
if-generate s = of-all (Token ∷ Token ∷ One head.expression ∷ Token ∷ One head.generate_block ∷ Each head.generate_else ∷ []) refl s

pub generate-else : {n at to : ℕ} {t : Tree} → Spans head.generate_else n at t to → Facts (Token ∷ One head.generate_block ∷ []) 0 n t at to
unfolding table
generate-else s = of-all (Token ∷ One head.generate_block ∷ []) refl s

pub case-generate : {n at to : ℕ} {t : Tree} → Spans head.case_generate_construct n at t to → Facts (Token ∷ Token ∷ One head.expression ∷ Token ∷ One head.case_generate_body ∷ Token ∷ []) 0 n t at to
unfolding table
case-generate s = of-all (Token ∷ Token ∷ One head.expression ∷ Token ∷ One head.case_generate_body ∷ Token ∷ []) refl s

pub items-first : {n at to : ℕ} {t : Tree} → Spans head.case_generate_body n at t to → (row_of t == R.GENERATE_ITEMS_FIRST) ≡ true → Facts (One head.case_generate_item ∷ One head.case_generate_items ∷ One head.optional_case_generate_default ∷ []) 0 n t at to
unfolding table
items-first {t = t} s e = of-row R.GENERATE_ITEMS_FIRST (One head.case_generate_item ∷ One head.case_generate_items ∷ One head.optional_case_generate_default ∷ []) refl s (eqb-true (row_of t) R.GENERATE_ITEMS_FIRST e)

pub default-first : {n at to : ℕ} {t : Tree} → Spans head.case_generate_body n at t to → NotIn (row_of t) (R.GENERATE_ITEMS_FIRST ∷ []) → Facts (One head.case_generate_default ∷ Each head.case_generate_item ∷ []) 0 n t at to
unfolding table
default-first s e = of-others (R.GENERATE_ITEMS_FIRST ∷ []) (One head.case_generate_default ∷ Each head.case_generate_item ∷ []) refl s e

pub case-items : {n at to : ℕ} {t : Tree} → Spans head.case_generate_items n at t to → Facts (Each head.case_generate_item ∷ []) 0 n t at to
unfolding table
case-items s = of-all (Each head.case_generate_item ∷ []) refl s

pub case-default : {n at to : ℕ} {t : Tree} → Spans head.optional_case_generate_default n at t to → is_blank t ≡ false → NotIn (row_of t) [] → Facts (One head.case_generate_default ∷ Each head.case_generate_item ∷ []) 0 n t at to
unfolding table
case-default s b e = of-filled [] (One head.case_generate_default ∷ Each head.case_generate_item ∷ []) refl s e b

pub default-item : {n at to : ℕ} {t : Tree} → Spans head.case_generate_default n at t to → Facts (Token ∷ One head.optional_colon ∷ One head.generate_block ∷ []) 0 n t at to
unfolding table
default-item s = of-all (Token ∷ One head.optional_colon ∷ One head.generate_block ∷ []) refl s

pub values-item : {n at to : ℕ} {t : Tree} → Spans head.case_generate_item n at t to → Facts (One head.expressions ∷ Token ∷ One head.generate_block ∷ []) 0 n t at to
unfolding table
values-item s = of-all (One head.expressions ∷ Token ∷ One head.generate_block ∷ []) refl s

pub generate-block : {n at to : ℕ} {t : Tree} → Spans head.generate_block n at t to → (row_of t == R.GENERATE_BLOCK) ≡ true → Facts (Token ∷ One head.optional_label ∷ One head.module_items ∷ Token ∷ One head.optional_label ∷ []) 0 n t at to
unfolding table
generate-block {t = t} s e = of-row R.GENERATE_BLOCK (Token ∷ One head.optional_label ∷ One head.module_items ∷ Token ∷ One head.optional_label ∷ []) refl s (eqb-true (row_of t) R.GENERATE_BLOCK e)

pub single-block : {n at to : ℕ} {t : Tree} → Spans head.generate_block n at t to → NotIn (row_of t) (R.GENERATE_BLOCK ∷ []) → Facts (One head.module_item ∷ []) 0 n t at to
unfolding table
single-block s e = of-others (R.GENERATE_BLOCK ∷ []) (One head.module_item ∷ []) refl s e

-- headers
pub header : {n at to : ℕ} {t : Tree} → Spans head.header n at t to → Facts (One head.optional_lifetime ∷ Token ∷ One head.header_imports ∷ One head.optional_parameter_port_list ∷ One head.optional_port_list ∷ Token ∷ []) 0 n t at to
unfolding table
header s = of-all (One head.optional_lifetime ∷ Token ∷ One head.header_imports ∷ One head.optional_parameter_port_list ∷ One head.optional_port_list ∷ Token ∷ []) refl s

pub parameter-list : {n at to : ℕ} {t : Tree} → Spans head.optional_parameter_port_list n at t to → is_blank t ≡ false → NotIn (row_of t) [] → Facts (Token ∷ Token ∷ One head.optional_parameter_ports ∷ Token ∷ []) 0 n t at to
unfolding table
parameter-list s b e = of-filled [] (Token ∷ Token ∷ One head.optional_parameter_ports ∷ Token ∷ []) refl s e b

pub parameter-ports : {n at to : ℕ} {t : Tree} → Spans head.optional_parameter_ports n at t to → is_blank t ≡ false → NotIn (row_of t) [] → Facts (One head.parameter_port_declaration ∷ Each head.next_parameter_port ∷ []) 0 n t at to
unfolding table
parameter-ports s b e = of-filled [] (One head.parameter_port_declaration ∷ Each head.next_parameter_port ∷ []) refl s e b

pub next-parameter-port : {n at to : ℕ} {t : Tree} → Spans head.next_parameter_port n at t to → Facts (Token ∷ One head.parameter_port_declaration ∷ []) 0 n t at to
unfolding table
next-parameter-port s = of-all (Token ∷ One head.parameter_port_declaration ∷ []) refl s

pub parameter-port : {n at to : ℕ} {t : Tree} → Spans head.parameter_port_declaration n at t to → Facts (One head.optional_parameter_keyword ∷ One head.parameter_body ∷ []) 0 n t at to
unfolding table
parameter-port s = of-all (One head.optional_parameter_keyword ∷ One head.parameter_body ∷ []) refl s

pub port-list : {n at to : ℕ} {t : Tree} → Spans head.optional_port_list n at t to → is_blank t ≡ false → NotIn (row_of t) [] → Facts (Token ∷ One head.optional_ports ∷ Token ∷ []) 0 n t at to
unfolding table
port-list s b e = of-filled [] (Token ∷ One head.optional_ports ∷ Token ∷ []) refl s e b

pub ports : {n at to : ℕ} {t : Tree} → Spans head.optional_ports n at t to → is_blank t ≡ false → NotIn (row_of t) [] → Facts (One head.port_declaration ∷ Each head.next_port ∷ []) 0 n t at to
unfolding table
ports s b e = of-filled [] (One head.port_declaration ∷ Each head.next_port ∷ []) refl s e b

pub next-port : {n at to : ℕ} {t : Tree} → Spans head.next_port n at t to → Facts (Token ∷ One head.port_declaration ∷ []) 0 n t at to
unfolding table
next-port s = of-all (Token ∷ One head.port_declaration ∷ []) refl s

pub directed-port : {n at to : ℕ} {t : Tree} → Spans head.port_declaration n at t to → (row_of t == R.DIRECTED_PORT) ≡ true → Facts (One head.port_direction ∷ One head.optional_net_or_variable ∷ One head.port_type ∷ []) 0 n t at to
unfolding table
directed-port {t = t} s e = of-row R.DIRECTED_PORT (One head.port_direction ∷ One head.optional_net_or_variable ∷ One head.port_type ∷ []) refl s (eqb-true (row_of t) R.DIRECTED_PORT e)

pub port : {n at to : ℕ} {t : Tree} → Spans head.port_declaration n at t to → NotIn (row_of t) (R.DIRECTED_PORT ∷ []) → Facts (One head.port_type ∷ []) 0 n t at to
unfolding table
port s e = of-others (R.DIRECTED_PORT ∷ []) (One head.port_type ∷ []) refl s e

-- packages, modules and interfaces
pub package-declaration : {n at to : ℕ} {t : Tree} → Spans head.package_declaration n at t to → Facts (Token ∷ One head.optional_lifetime ∷ Token ∷ Token ∷ One head.package_items ∷ Token ∷ One head.optional_label ∷ []) 0 n t at to
unfolding table
package-declaration s = of-all (Token ∷ One head.optional_lifetime ∷ Token ∷ Token ∷ One head.package_items ∷ Token ∷ One head.optional_label ∷ []) refl s

pub module-declaration : {n at to : ℕ} {t : Tree} → Spans head.module_declaration n at t to → Facts (Token ∷ One head.header ∷ One head.module_items ∷ Token ∷ One head.optional_label ∷ []) 0 n t at to
unfolding table
module-declaration s = of-all (Token ∷ One head.header ∷ One head.module_items ∷ Token ∷ One head.optional_label ∷ []) refl s

pub interface-declaration : {n at to : ℕ} {t : Tree} → Spans head.interface_declaration n at t to → Facts (Token ∷ One head.header ∷ One head.module_items ∷ Token ∷ One head.optional_label ∷ []) 0 n t at to
unfolding table
interface-declaration s = of-all (Token ∷ One head.header ∷ One head.module_items ∷ Token ∷ One head.optional_label ∷ []) refl s

pub package-items : {n at to : ℕ} {t : Tree} → Spans head.package_items n at t to → Facts (Each head.package_item ∷ []) 0 n t at to
unfolding table
package-items s = of-all (Each head.package_item ∷ []) refl s

pub package-typedef : {n at to : ℕ} {t : Tree} → Spans head.package_item n at t to → (row_of t == R.TYPEDEF_PACKAGE_ITEM) ≡ true → Facts (One head.type_declaration ∷ []) 0 n t at to
unfolding table
package-typedef {t = t} s e = of-row R.TYPEDEF_PACKAGE_ITEM (One head.type_declaration ∷ []) refl s (eqb-true (row_of t) R.TYPEDEF_PACKAGE_ITEM e)

pub package-parameters : {n at to : ℕ} {t : Tree} → Spans head.package_item n at t to → (row_of t == R.PARAMETERS_PACKAGE_ITEM) ≡ true → Facts (One head.parameter_declaration ∷ Token ∷ []) 0 n t at to
unfolding table
package-parameters {t = t} s e = of-row R.PARAMETERS_PACKAGE_ITEM (One head.parameter_declaration ∷ Token ∷ []) refl s (eqb-true (row_of t) R.PARAMETERS_PACKAGE_ITEM e)

pub package-function : {n at to : ℕ} {t : Tree} → Spans head.package_item n at t to → (row_of t == R.FUNCTION_PACKAGE_ITEM) ≡ true → Facts (One head.function_declaration ∷ []) 0 n t at to
unfolding table
package-function {t = t} s e = of-row R.FUNCTION_PACKAGE_ITEM (One head.function_declaration ∷ []) refl s (eqb-true (row_of t) R.FUNCTION_PACKAGE_ITEM e)

pub package-task : {n at to : ℕ} {t : Tree} → Spans head.package_item n at t to → (row_of t == R.TASK_PACKAGE_ITEM) ≡ true → Facts (One head.task_declaration ∷ []) 0 n t at to
unfolding table
package-task {t = t} s e = of-row R.TASK_PACKAGE_ITEM (One head.task_declaration ∷ []) refl s (eqb-true (row_of t) R.TASK_PACKAGE_ITEM e)

pub package-unit : {n at to : ℕ} {t : Tree} → Spans head.description n at t to → (row_of t == R.PACKAGE_UNIT) ≡ true → Facts (One head.package_declaration ∷ []) 0 n t at to
unfolding table
package-unit {t = t} s e = of-row R.PACKAGE_UNIT (One head.package_declaration ∷ []) refl s (eqb-true (row_of t) R.PACKAGE_UNIT e)

pub module-unit : {n at to : ℕ} {t : Tree} → Spans head.description n at t to → (row_of t == R.MODULE_UNIT) ≡ true → Facts (One head.module_declaration ∷ []) 0 n t at to
unfolding table
module-unit {t = t} s e = of-row R.MODULE_UNIT (One head.module_declaration ∷ []) refl s (eqb-true (row_of t) R.MODULE_UNIT e)

pub interface-unit : {n at to : ℕ} {t : Tree} → Spans head.description n at t to → (row_of t == R.INTERFACE_UNIT) ≡ true → Facts (One head.interface_declaration ∷ []) 0 n t at to
unfolding table
interface-unit {t = t} s e = of-row R.INTERFACE_UNIT (One head.interface_declaration ∷ []) refl s (eqb-true (row_of t) R.INTERFACE_UNIT e)

pub typedef-unit : {n at to : ℕ} {t : Tree} → Spans head.description n at t to → (row_of t == R.TYPEDEF_UNIT) ≡ true → Facts (One head.type_declaration ∷ []) 0 n t at to
unfolding table
typedef-unit {t = t} s e = of-row R.TYPEDEF_UNIT (One head.type_declaration ∷ []) refl s (eqb-true (row_of t) R.TYPEDEF_UNIT e)

pub parameters-unit : {n at to : ℕ} {t : Tree} → Spans head.description n at t to → (row_of t == R.PARAMETERS_UNIT) ≡ true → Facts (One head.parameter_declaration ∷ Token ∷ []) 0 n t at to
unfolding table
parameters-unit {t = t} s e = of-row R.PARAMETERS_UNIT (One head.parameter_declaration ∷ Token ∷ []) refl s (eqb-true (row_of t) R.PARAMETERS_UNIT e)

pub function-unit : {n at to : ℕ} {t : Tree} → Spans head.description n at t to → (row_of t == R.FUNCTION_UNIT) ≡ true → Facts (One head.function_declaration ∷ []) 0 n t at to
unfolding table
function-unit {t = t} s e = of-row R.FUNCTION_UNIT (One head.function_declaration ∷ []) refl s (eqb-true (row_of t) R.FUNCTION_UNIT e)

pub task-unit : {n at to : ℕ} {t : Tree} → Spans head.description n at t to → (row_of t == R.TASK_UNIT) ≡ true → Facts (One head.task_declaration ∷ []) 0 n t at to
unfolding table
task-unit {t = t} s e = of-row R.TASK_UNIT (One head.task_declaration ∷ []) refl s (eqb-true (row_of t) R.TASK_UNIT e)

pub source-text : {n at to : ℕ} {t : Tree} → Spans head.source_text n at t to → Facts (Each head.description ∷ []) 0 n t at to
unfolding table
source-text s = of-all (Each head.description ∷ []) refl s
