-- The parts that the nodes of parameters, variables, formals, functions and tasks have in any text.
use Rattle.std.proofs.Common.{◌≡◌, ℕ, true, false, ◌==◌, [], ◌∷◌, refl}
use Rattle.std.proofs.lemmas.Bool.{eqb-true}
use Rattle.ll_engine.specs.declared.tree.Tree.{Tree}
use Rattle.sv_tree.specs.Heads as head
use Rattle.sv_tree.specs.Table.{table}
use Rattle.sv_build.specs.declared.rows.TheConstants as R
use Rattle.expr_build.specs.Nodes.{row_of, is_blank}
use Rattle.least_laws.proofs.Spans.{Spans, Facts}
use Rattle.least_laws.proofs.Spans.Shape.{Token, One, Each}
use Rattle.least_laws.proofs.Rows.{NotIn, of-row, of-others, of-all, of-filled}

-- parameters
pub parameters : {n at to : ℕ} {t : Tree} → Spans head.parameter_declaration n at t to → Facts (One head.parameter_keyword ∷ One head.parameter_bodies ∷ []) 0 n t at to
unfolding table
parameters s = of-all (One head.parameter_keyword ∷ One head.parameter_bodies ∷ []) refl s

pub bodies : {n at to : ℕ} {t : Tree} → Spans head.parameter_bodies n at t to → Facts (One head.parameter_body ∷ Each head.next_parameter_body ∷ []) 0 n t at to
unfolding table
bodies s = of-all (One head.parameter_body ∷ Each head.next_parameter_body ∷ []) refl s

pub next-body : {n at to : ℕ} {t : Tree} → Spans head.next_parameter_body n at t to → Facts (Token ∷ One head.parameter_body ∷ []) 0 n t at to
unfolding table
next-body s = of-all (Token ∷ One head.parameter_body ∷ []) refl s

pub type-parameter : {n at to : ℕ} {t : Tree} → Spans head.parameter_body n at t to → (row_of t == R.TYPE_PARAMETER) ≡ true → Facts (Token ∷ Token ∷ One head.optional_initializer ∷ []) 0 n t at to
unfolding table
type-parameter {t = t} s e = of-row R.TYPE_PARAMETER (Token ∷ Token ∷ One head.optional_initializer ∷ []) refl s (eqb-true (row_of t) R.TYPE_PARAMETER e)

pub keyword-parameter : {n at to : ℕ} {t : Tree} → Spans head.parameter_body n at t to → (row_of t == R.KEYWORD_PARAMETER) ≡ true → Facts (One head.keyword_type ∷ One head.dimensions ∷ One head.declarator ∷ []) 0 n t at to
unfolding table
keyword-parameter {t = t} s e = of-row R.KEYWORD_PARAMETER (One head.keyword_type ∷ One head.dimensions ∷ One head.declarator ∷ []) refl s (eqb-true (row_of t) R.KEYWORD_PARAMETER e)

pub signed-parameter : {n at to : ℕ} {t : Tree} → Spans head.parameter_body n at t to → (row_of t == R.SIGNED_PARAMETER) ≡ true → Facts (One head.signing ∷ One head.dimensions ∷ One head.declarator ∷ []) 0 n t at to
unfolding table
signed-parameter {t = t} s e = of-row R.SIGNED_PARAMETER (One head.signing ∷ One head.dimensions ∷ One head.declarator ∷ []) refl s (eqb-true (row_of t) R.SIGNED_PARAMETER e)

pub dimensioned-parameter : {n at to : ℕ} {t : Tree} → Spans head.parameter_body n at t to → (row_of t == R.DIMENSIONED_PARAMETER) ≡ true → Facts (One head.dimension ∷ One head.dimensions ∷ One head.declarator ∷ []) 0 n t at to
unfolding table
dimensioned-parameter {t = t} s e = of-row R.DIMENSIONED_PARAMETER (One head.dimension ∷ One head.dimensions ∷ One head.declarator ∷ []) refl s (eqb-true (row_of t) R.DIMENSIONED_PARAMETER e)

pub named-parameter : {n at to : ℕ} {t : Tree} → Spans head.parameter_body n at t to → NotIn (row_of t) (R.TYPE_PARAMETER ∷ R.KEYWORD_PARAMETER ∷ R.SIGNED_PARAMETER ∷ R.DIMENSIONED_PARAMETER ∷ []) → Facts (Token ∷ One head.parameter_name_rest ∷ []) 0 n t at to
unfolding table
named-parameter s e = of-others (R.TYPE_PARAMETER ∷ R.KEYWORD_PARAMETER ∷ R.SIGNED_PARAMETER ∷ R.DIMENSIONED_PARAMETER ∷ []) (Token ∷ One head.parameter_name_rest ∷ []) refl s e

pub scoped-parameter : {n at to : ℕ} {t : Tree} → Spans head.parameter_name_rest n at t to → (row_of t == R.SCOPED_PARAMETER_TYPE) ≡ true → Facts (Token ∷ Token ∷ One head.dimensions ∷ One head.declarator ∷ []) 0 n t at to
unfolding table
scoped-parameter {t = t} s e = of-row R.SCOPED_PARAMETER_TYPE (Token ∷ Token ∷ One head.dimensions ∷ One head.declarator ∷ []) refl s (eqb-true (row_of t) R.SCOPED_PARAMETER_TYPE e)

pub parameter-dimensions : {n at to : ℕ} {t : Tree} → Spans head.parameter_name_rest n at t to → (row_of t == R.PARAMETER_TYPE_DIMENSIONS) ≡ true → Facts (One head.dimension ∷ One head.dimensions ∷ One head.declarator ∷ []) 0 n t at to
unfolding table
parameter-dimensions {t = t} s e = of-row R.PARAMETER_TYPE_DIMENSIONS (One head.dimension ∷ One head.dimensions ∷ One head.declarator ∷ []) refl s (eqb-true (row_of t) R.PARAMETER_TYPE_DIMENSIONS e)

pub parameter-declarator : {n at to : ℕ} {t : Tree} → Spans head.parameter_name_rest n at t to → (row_of t == R.PARAMETER_DECLARATOR) ≡ true → Facts (One head.declarator ∷ []) 0 n t at to
unfolding table
parameter-declarator {t = t} s e = of-row R.PARAMETER_DECLARATOR (One head.declarator ∷ []) refl s (eqb-true (row_of t) R.PARAMETER_DECLARATOR e)

pub untyped-parameter : {n at to : ℕ} {t : Tree} → Spans head.parameter_name_rest n at t to → NotIn (row_of t) (R.SCOPED_PARAMETER_TYPE ∷ R.PARAMETER_TYPE_DIMENSIONS ∷ R.PARAMETER_DECLARATOR ∷ []) → Facts (One head.optional_initializer ∷ []) 0 n t at to
unfolding table
untyped-parameter s e = of-others (R.SCOPED_PARAMETER_TYPE ∷ R.PARAMETER_TYPE_DIMENSIONS ∷ R.PARAMETER_DECLARATOR ∷ []) (One head.optional_initializer ∷ []) refl s e

-- variables
pub keyword-variable : {n at to : ℕ} {t : Tree} → Spans head.variable_type n at t to → (row_of t == R.KEYWORD_VARIABLE) ≡ true → Facts (One head.keyword_type ∷ One head.dimensions ∷ One head.declarators ∷ []) 0 n t at to
unfolding table
keyword-variable {t = t} s e = of-row R.KEYWORD_VARIABLE (One head.keyword_type ∷ One head.dimensions ∷ One head.declarators ∷ []) refl s (eqb-true (row_of t) R.KEYWORD_VARIABLE e)

pub aggregate-variable : {n at to : ℕ} {t : Tree} → Spans head.variable_type n at t to → (row_of t == R.AGGREGATE_VARIABLE) ≡ true → Facts (One head.aggregate_type ∷ One head.dimensions ∷ One head.declarators ∷ []) 0 n t at to
unfolding table
aggregate-variable {t = t} s e = of-row R.AGGREGATE_VARIABLE (One head.aggregate_type ∷ One head.dimensions ∷ One head.declarators ∷ []) refl s (eqb-true (row_of t) R.AGGREGATE_VARIABLE e)

pub signed-variable : {n at to : ℕ} {t : Tree} → Spans head.variable_type n at t to → (row_of t == R.SIGNED_VARIABLE) ≡ true → Facts (One head.signing ∷ One head.dimensions ∷ One head.declarators ∷ []) 0 n t at to
unfolding table
signed-variable {t = t} s e = of-row R.SIGNED_VARIABLE (One head.signing ∷ One head.dimensions ∷ One head.declarators ∷ []) refl s (eqb-true (row_of t) R.SIGNED_VARIABLE e)

pub dimensioned-variable : {n at to : ℕ} {t : Tree} → Spans head.variable_type n at t to → (row_of t == R.DIMENSIONED_VARIABLE) ≡ true → Facts (One head.dimension ∷ One head.dimensions ∷ One head.declarators ∷ []) 0 n t at to
unfolding table
dimensioned-variable {t = t} s e = of-row R.DIMENSIONED_VARIABLE (One head.dimension ∷ One head.dimensions ∷ One head.declarators ∷ []) refl s (eqb-true (row_of t) R.DIMENSIONED_VARIABLE e)

pub named-variable : {n at to : ℕ} {t : Tree} → Spans head.variable_type n at t to → NotIn (row_of t) (R.KEYWORD_VARIABLE ∷ R.AGGREGATE_VARIABLE ∷ R.SIGNED_VARIABLE ∷ R.DIMENSIONED_VARIABLE ∷ []) → Facts (Token ∷ One head.variable_name_rest ∷ []) 0 n t at to
unfolding table
named-variable s e = of-others (R.KEYWORD_VARIABLE ∷ R.AGGREGATE_VARIABLE ∷ R.SIGNED_VARIABLE ∷ R.DIMENSIONED_VARIABLE ∷ []) (Token ∷ One head.variable_name_rest ∷ []) refl s e

pub scoped-variable : {n at to : ℕ} {t : Tree} → Spans head.variable_name_rest n at t to → (row_of t == R.SCOPED_VARIABLE_TYPE) ≡ true → Facts (Token ∷ Token ∷ One head.dimensions ∷ One head.declarators ∷ []) 0 n t at to
unfolding table
scoped-variable {t = t} s e = of-row R.SCOPED_VARIABLE_TYPE (Token ∷ Token ∷ One head.dimensions ∷ One head.declarators ∷ []) refl s (eqb-true (row_of t) R.SCOPED_VARIABLE_TYPE e)

pub variable-rest : {n at to : ℕ} {t : Tree} → Spans head.variable_name_rest n at t to → NotIn (row_of t) (R.SCOPED_VARIABLE_TYPE ∷ []) → Facts (One head.dimensions ∷ One head.optional_dimensioned_name ∷ One head.optional_initializer ∷ Each head.next_declarator ∷ []) 0 n t at to
unfolding table
variable-rest s e = of-others (R.SCOPED_VARIABLE_TYPE ∷ []) (One head.dimensions ∷ One head.optional_dimensioned_name ∷ One head.optional_initializer ∷ Each head.next_declarator ∷ []) refl s e

pub some-name : {n at to : ℕ} {t : Tree} → Spans head.optional_dimensioned_name n at t to → is_blank t ≡ false → NotIn (row_of t) [] → Facts (Token ∷ One head.dimensions ∷ []) 0 n t at to
unfolding table
some-name s b e = of-filled [] (Token ∷ One head.dimensions ∷ []) refl s e b

-- formals
pub keyword-port : {n at to : ℕ} {t : Tree} → Spans head.port_type n at t to → (row_of t == R.KEYWORD_PORT) ≡ true → Facts (One head.keyword_type ∷ One head.dimensions ∷ Token ∷ One head.dimensions ∷ []) 0 n t at to
unfolding table
keyword-port {t = t} s e = of-row R.KEYWORD_PORT (One head.keyword_type ∷ One head.dimensions ∷ Token ∷ One head.dimensions ∷ []) refl s (eqb-true (row_of t) R.KEYWORD_PORT e)

pub signed-port : {n at to : ℕ} {t : Tree} → Spans head.port_type n at t to → (row_of t == R.SIGNED_PORT) ≡ true → Facts (One head.signing ∷ One head.dimensions ∷ Token ∷ One head.dimensions ∷ []) 0 n t at to
unfolding table
signed-port {t = t} s e = of-row R.SIGNED_PORT (One head.signing ∷ One head.dimensions ∷ Token ∷ One head.dimensions ∷ []) refl s (eqb-true (row_of t) R.SIGNED_PORT e)

pub dimensioned-port : {n at to : ℕ} {t : Tree} → Spans head.port_type n at t to → (row_of t == R.DIMENSIONED_PORT) ≡ true → Facts (One head.dimension ∷ One head.dimensions ∷ Token ∷ One head.dimensions ∷ []) 0 n t at to
unfolding table
dimensioned-port {t = t} s e = of-row R.DIMENSIONED_PORT (One head.dimension ∷ One head.dimensions ∷ Token ∷ One head.dimensions ∷ []) refl s (eqb-true (row_of t) R.DIMENSIONED_PORT e)

pub named-port : {n at to : ℕ} {t : Tree} → Spans head.port_type n at t to → NotIn (row_of t) (R.KEYWORD_PORT ∷ R.SIGNED_PORT ∷ R.DIMENSIONED_PORT ∷ []) → Facts (Token ∷ One head.port_name_rest ∷ []) 0 n t at to
unfolding table
named-port s e = of-others (R.KEYWORD_PORT ∷ R.SIGNED_PORT ∷ R.DIMENSIONED_PORT ∷ []) (Token ∷ One head.port_name_rest ∷ []) refl s e

pub modport-port : {n at to : ℕ} {t : Tree} → Spans head.port_name_rest n at t to → (row_of t == R.MODPORT_PORT) ≡ true → Facts (Token ∷ Token ∷ Token ∷ []) 0 n t at to
unfolding table
modport-port {t = t} s e = of-row R.MODPORT_PORT (Token ∷ Token ∷ Token ∷ []) refl s (eqb-true (row_of t) R.MODPORT_PORT e)

pub scoped-port : {n at to : ℕ} {t : Tree} → Spans head.port_name_rest n at t to → (row_of t == R.SCOPED_PORT_TYPE) ≡ true → Facts (Token ∷ Token ∷ One head.dimensions ∷ Token ∷ One head.dimensions ∷ []) 0 n t at to
unfolding table
scoped-port {t = t} s e = of-row R.SCOPED_PORT_TYPE (Token ∷ Token ∷ One head.dimensions ∷ Token ∷ One head.dimensions ∷ []) refl s (eqb-true (row_of t) R.SCOPED_PORT_TYPE e)

pub port-rest : {n at to : ℕ} {t : Tree} → Spans head.port_name_rest n at t to → NotIn (row_of t) (R.MODPORT_PORT ∷ R.SCOPED_PORT_TYPE ∷ []) → Facts (One head.dimensions ∷ One head.optional_dimensioned_name ∷ []) 0 n t at to
unfolding table
port-rest s e = of-others (R.MODPORT_PORT ∷ R.SCOPED_PORT_TYPE ∷ []) (One head.dimensions ∷ One head.optional_dimensioned_name ∷ []) refl s e

pub formal-list : {n at to : ℕ} {t : Tree} → Spans head.optional_tf_port_list n at t to → is_blank t ≡ false → NotIn (row_of t) [] → Facts (Token ∷ One head.optional_tf_ports ∷ Token ∷ []) 0 n t at to
unfolding table
formal-list s b e = of-filled [] (Token ∷ One head.optional_tf_ports ∷ Token ∷ []) refl s e b

pub formals : {n at to : ℕ} {t : Tree} → Spans head.optional_tf_ports n at t to → is_blank t ≡ false → NotIn (row_of t) [] → Facts (One head.tf_port_item ∷ Each head.next_tf_port ∷ []) 0 n t at to
unfolding table
formals s b e = of-filled [] (One head.tf_port_item ∷ Each head.next_tf_port ∷ []) refl s e b

pub next-formal : {n at to : ℕ} {t : Tree} → Spans head.next_tf_port n at t to → Facts (Token ∷ One head.tf_port_item ∷ []) 0 n t at to
unfolding table
next-formal s = of-all (Token ∷ One head.tf_port_item ∷ []) refl s

pub formal : {n at to : ℕ} {t : Tree} → Spans head.tf_port_item n at t to → Facts (One head.optional_tf_port_direction ∷ One head.port_type ∷ []) 0 n t at to
unfolding table
formal s = of-all (One head.optional_tf_port_direction ∷ One head.port_type ∷ []) refl s

-- functions and tasks
pub function : {n at to : ℕ} {t : Tree} → Spans head.function_declaration n at t to → Facts (Token ∷ One head.optional_lifetime ∷ One head.function_type ∷ One head.optional_tf_port_list ∷ Token ∷ One head.block_items ∷ Token ∷ One head.optional_label ∷ []) 0 n t at to
unfolding table
function s = of-all (Token ∷ One head.optional_lifetime ∷ One head.function_type ∷ One head.optional_tf_port_list ∷ Token ∷ One head.block_items ∷ Token ∷ One head.optional_label ∷ []) refl s

pub task : {n at to : ℕ} {t : Tree} → Spans head.task_declaration n at t to → Facts (Token ∷ One head.optional_lifetime ∷ Token ∷ One head.optional_tf_port_list ∷ Token ∷ One head.block_items ∷ Token ∷ One head.optional_label ∷ []) 0 n t at to
unfolding table
task s = of-all (Token ∷ One head.optional_lifetime ∷ Token ∷ One head.optional_tf_port_list ∷ Token ∷ One head.block_items ∷ Token ∷ One head.optional_label ∷ []) refl s

pub keyword-function : {n at to : ℕ} {t : Tree} → Spans head.function_type n at t to → (row_of t == R.KEYWORD_FUNCTION) ≡ true → Facts (One head.keyword_type ∷ One head.dimensions ∷ Token ∷ []) 0 n t at to
unfolding table
keyword-function {t = t} s e = of-row R.KEYWORD_FUNCTION (One head.keyword_type ∷ One head.dimensions ∷ Token ∷ []) refl s (eqb-true (row_of t) R.KEYWORD_FUNCTION e)

pub signed-function : {n at to : ℕ} {t : Tree} → Spans head.function_type n at t to → (row_of t == R.SIGNED_FUNCTION) ≡ true → Facts (One head.signing ∷ One head.dimensions ∷ Token ∷ []) 0 n t at to
unfolding table
signed-function {t = t} s e = of-row R.SIGNED_FUNCTION (One head.signing ∷ One head.dimensions ∷ Token ∷ []) refl s (eqb-true (row_of t) R.SIGNED_FUNCTION e)

pub dimensioned-function : {n at to : ℕ} {t : Tree} → Spans head.function_type n at t to → (row_of t == R.DIMENSIONED_FUNCTION) ≡ true → Facts (One head.dimension ∷ One head.dimensions ∷ Token ∷ []) 0 n t at to
unfolding table
dimensioned-function {t = t} s e = of-row R.DIMENSIONED_FUNCTION (One head.dimension ∷ One head.dimensions ∷ Token ∷ []) refl s (eqb-true (row_of t) R.DIMENSIONED_FUNCTION e)

pub named-function : {n at to : ℕ} {t : Tree} → Spans head.function_type n at t to → (row_of t == R.NAMED_FUNCTION) ≡ true → Facts (Token ∷ One head.function_name_rest ∷ []) 0 n t at to
unfolding table
named-function {t = t} s e = of-row R.NAMED_FUNCTION (Token ∷ One head.function_name_rest ∷ []) refl s (eqb-true (row_of t) R.NAMED_FUNCTION e)

pub void-function : {n at to : ℕ} {t : Tree} → Spans head.function_type n at t to → NotIn (row_of t) (R.KEYWORD_FUNCTION ∷ R.SIGNED_FUNCTION ∷ R.DIMENSIONED_FUNCTION ∷ R.NAMED_FUNCTION ∷ []) → Facts (Token ∷ Token ∷ []) 0 n t at to
unfolding table
void-function s e = of-others (R.KEYWORD_FUNCTION ∷ R.SIGNED_FUNCTION ∷ R.DIMENSIONED_FUNCTION ∷ R.NAMED_FUNCTION ∷ []) (Token ∷ Token ∷ []) refl s e

pub scoped-function : {n at to : ℕ} {t : Tree} → Spans head.function_name_rest n at t to → (row_of t == R.SCOPED_FUNCTION_TYPE) ≡ true → Facts (Token ∷ Token ∷ One head.dimensions ∷ Token ∷ []) 0 n t at to
unfolding table
scoped-function {t = t} s e = of-row R.SCOPED_FUNCTION_TYPE (Token ∷ Token ∷ One head.dimensions ∷ Token ∷ []) refl s (eqb-true (row_of t) R.SCOPED_FUNCTION_TYPE e)

pub function-rest : {n at to : ℕ} {t : Tree} → Spans head.function_name_rest n at t to → NotIn (row_of t) (R.SCOPED_FUNCTION_TYPE ∷ []) → Facts (One head.dimensions ∷ One head.optional_name ∷ []) 0 n t at to
unfolding table
function-rest s e = of-others (R.SCOPED_FUNCTION_TYPE ∷ []) (One head.dimensions ∷ One head.optional_name ∷ []) refl s e

pub function-name : {n at to : ℕ} {t : Tree} → Spans head.optional_name n at t to → is_blank t ≡ false → NotIn (row_of t) [] → Facts (Token ∷ []) 0 n t at to
unfolding table
function-name s b e = of-filled [] (Token ∷ []) refl s e b
