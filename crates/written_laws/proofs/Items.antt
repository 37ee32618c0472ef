-- The functions, tasks, processes, instances, items and units that are read from a text are written.
use Rattle.std.proofs.Common.{◌≡◌, ℕ, zero, suc, Bool, true, ◌&&◌, ◌==◌, List, [], ◌∷◌, map, drop, Option, Some, None, refl, rules, sym, ap, ◌∙◌, subst}
use Rattle.std.specs.Option.{option_map}
use Rattle.std.proofs.lemmas.Bool.{eqb-true}
use Rattle.ll_engine.specs.declared.tree.Tree.{Tree}
use Rattle.sv_tree.specs.Heads as head
use Rattle.sv_tree.specs.declared.expressions.Expr.{Expr}
use Rattle.sv_tree.specs.declared.functions.Formal.{Formal}
use Rattle.sv_tree.specs.declared.functions.FormalList.{FormalList}
use Rattle.sv_tree.specs.declared.instances.Instance.{Instance}
use Rattle.sv_tree.specs.declared.instances.ParameterBinds.{ParameterBinds}
use Rattle.sv_tree.specs.declared.items.CaseGenerateItem.{CaseGenerateItem, CaseGenerateItem-F, roll-CaseGenerateItem, map-CaseGenerateItem, fold-roll-CaseGenerateItem}
use Rattle.sv_tree.specs.declared.items.CaseGenerateItem.TheVariants as C
use Rattle.sv_tree.specs.declared.items.GenerateBlock.{GenerateBlock, GenerateBlock-F, roll-GenerateBlock, map-GenerateBlock, fold-roll-GenerateBlock}
use Rattle.sv_tree.specs.declared.items.GenerateBlock.TheVariants as K
use Rattle.sv_tree.specs.declared.items.GenerateElse.{GenerateElse}
use Rattle.sv_tree.specs.declared.items.Item.{Item, Item-F, roll-Item, map-Item, fold-roll-Item, the_lemmas}
use Rattle.sv_tree.specs.declared.items.Item.TheVariants as I
use Rattle.sv_tree.specs.declared.types.TypeText.{TypeText}
use Rattle.expr_type.specs.Names.{OfFunction, OfTask}
use Rattle.expr_type.specs.Functions as F
use Rattle.typing_walks.specs.Written.{all, if_there, is_written}
use Rattle.typing_walks.specs.WrittenTypes.{dims_written, type_written}
use Rattle.routine_laws.specs.Texts.{port_written, formals_written, result_written}
use Rattle.sv_build.specs.declared.functions.FunctionName.{FunctionName}
use Rattle.sv_build.specs.declared.rows.TheConstants as R
use Rattle.sv_build.specs.Items as X
use Rattle.expr_build.specs.Nodes.{kids_of, kid, token, row_of, is_blank, separated, behind_marks}
use Rattle.expr_build.specs.Expressions.{nesting_limit}
use Rattle.written_laws.specs.Trees as W
use Rattle.written_laws.specs.Trees.{routine_written, assignment_written, assign_written, always_written, bind_written, binds_written, connection_written, instance_written, generate_loop_written, choice_written, block_written, item_written, else_written, module_written, package_item_written, unit_written}
use Rattle.written_laws.proofs.Tests.{both, by-test, by-either}
use Rattle.written_laws.proofs.Nodes.{OfHead, Good, AllGood, AllOf, good, kid-good, kids-good, drop-good}
use Rattle.written_laws.proofs.Rows as N
use Rattle.written_laws.proofs.Lists as L
use Rattle.written_laws.proofs.Lists.{Written}
use Rattle.written_laws.proofs.Expressions.{expr-written, all-exprs}
use Rattle.written_laws.proofs.Types as Y
use Rattle.written_laws.proofs.Types.{dims-read, initial-written, behind-written}
use Rattle.written_laws.proofs.Declarations.{port-text, parameters-written, typedef-written, data-written, header-written, variables-of, declared-written}
use Rattle.written_laws.proofs.Statements.{lvalue-written, step-written, optional-written, stmt-written, block-items-written}

-- formals, and what a function gives
formals-written : (t : Tree) → Good t → formals_written (F.formals_of (X.formals_of t)) ≡ true
formals-written t g =
    by-either (λ (l : Option FormalList). formals_written (F.formals_of l)) (is_blank t) None (Some (X.formals_from t)) refl
    (L.all-items (λ (f : Formal). port_written f.text) X.formal_of (λ x h. port-text (kid 1 x) (kid-good 1 x h)) (kid 1 t) (kid-good 1 t g))

abbrev name_written : FunctionName → Bool
name_written n = result_written n.of && dims_written n.unpacked

typed-name : (of : TypeText) (name : ℕ) → type_written of ≡ true → name_written (X.typed_name of name) ≡ true
typed-name of name w = both w refl

function-from : (first : ℕ) (t : Tree) → Good t → name_written (X.function_from first t) ≡ true
function-from first t g =
    by-either name_written (is_blank (kid 1 t)) _ _ (both Y.no-type-written (dims-read (kid 0 t) (kid-good 0 t g)))
    (typed-name _ (token 0 (kid 1 t)) (Y.named-written _ (kid 0 t) (kid-good 0 t g)))

named-function : (first : ℕ) (t : Tree) → Good t → name_written (X.named_function_of first t) ≡ true
named-function first t g =
    by-either name_written (row_of t == R.SCOPED_FUNCTION_TYPE) _ _ (typed-name _ (token 3 t) (Y.named-written _ (kid 2 t) (kid-good 2 t g))) (function-from first t g)

function-name : Written name_written X.function_name_of
function-name t g =
    by-either name_written (row_of t == R.KEYWORD_FUNCTION) _ _ (typed-name _ (token 2 t) (Y.keyword-written (kid 0 t) (kid 1 t) (kid-good 1 t g)))
    (by-either name_written (row_of t == R.SIGNED_FUNCTION) _ _ (typed-name _ (token 2 t) (Y.signed-written (kid 0 t) (kid 1 t) (kid-good 1 t g)))
    (by-either name_written (row_of t == R.DIMENSIONED_FUNCTION) _ _ (typed-name _ (token 2 t) (Y.dimensioned-written (kid 0 t) (kid 1 t) (kid-good 0 t g) (kid-good 1 t g)))
    (by-either name_written (row_of t == R.NAMED_FUNCTION) _ _ (named-function (token 0 t) (kid 1 t) (kid-good 1 t g)) refl)))

function-with : (n : FunctionName) (t : Tree) → name_written n ≡ true → Good t → routine_written (OfFunction (X.function_with n t)) ≡ true
function-with n t w g = both (both w (formals-written (kid 3 t) (kid-good 3 t g))) (block-items-written (kid 5 t) (kid-good 5 t g))

function-written : (t : Tree) → Good t → routine_written (OfFunction (X.function_of t)) ≡ true
function-written t g = function-with (X.function_name_of (kid 2 t)) t (function-name (kid 2 t) (kid-good 2 t g)) g

task-written : (t : Tree) → Good t → routine_written (OfTask (X.task_of t)) ≡ true
task-written t g = both (formals-written (kid 3 t) (kid-good 3 t g)) (block-items-written (kid 5 t) (kid-good 5 t g))

-- continuous assignments and processes
assignment-read : (t : Tree) → OfHead head.net_assignment t → assignment_written (X.net_assignment_of t) ≡ true
assignment-read t o = both (lvalue-written (kid 0 t) (N.assigned-lvalue t o)) (expr-written (kid 2 t) (kid-good 2 t (good o)))

behind-assignments : (ts : List Tree) → AllOf head.next_net_assignment ts → all (map assignment_written (behind_marks X.net_assignment_of ts)) ≡ true
behind-assignments [] a = refl
behind-assignments (t ∷ ts) a = both (assignment-read (kid 1 t) (N.next-assignment t a.0)) (behind-assignments ts a.1)

assign-read : (t : Tree) → Good t → (row_of t == R.ASSIGN_MODULE_ITEM) ≡ true → assign_written (X.assign_of t) ≡ true
assign-read t g e =
    let list = N.assignments t g (eqb-true (row_of t) R.ASSIGN_MODULE_ITEM e) in
    subst (λ (ts : List Tree). all (map assignment_written (separated X.net_assignment_of ts)) ≡ true) (sym list.is)
    (both (assignment-read list.first list.of) (behind-assignments list.others list.rest))

always-read : Written always_written X.always_of
always-read t g =
    by-either always_written (row_of t == R.ALWAYS_COMB) _ _ (stmt-written (kid 1 t) (kid-good 1 t g))
    (by-either always_written (row_of t == R.ALWAYS_LATCH) _ _ (stmt-written (kid 1 t) (kid-good 1 t g))
    (by-either always_written (row_of t == R.ALWAYS_FF) _ _ (stmt-written (kid 5 t) (kid-good 5 t g)) (stmt-written (kid 3 t) (kid-good 3 t g))))

-- instances
bind-read : Written bind_written X.bind_of
bind-read t g = by-either bind_written (row_of t == R.NAMED_BIND) _ _ (optional-written (kid 3 t) (kid-good 3 t g)) (expr-written (kid 0 t) (kid-good 0 t g))

named-connection : (dot name : ℕ) (t : Tree) → Good t → connection_written (X.named_connection dot name t) ≡ true
named-connection dot name t g = by-either connection_written (is_blank t) _ _ refl (optional-written (kid 1 t) (kid-good 1 t g))

connection-read : Written connection_written X.connection_of
connection-read t g =
    by-either connection_written (row_of t == R.NAMED_CONNECTION) _ _ (named-connection (token 0 t) (token 1 t) (kid 2 t) (kid-good 2 t g))
    (by-either connection_written (row_of t == R.ALL_CONNECTION) _ _ refl (expr-written (kid 0 t) (kid-good 0 t g)))

connections-read : (t : Tree) → Good t → all (map connection_written (X.connections_of t)) ≡ true
connections-read t g = L.all-items connection_written X.connection_of connection-read t g

instance-read : Written instance_written X.instance_of
instance-read t g = connections-read (kid 2 t) (kid-good 2 t g)

binds-read : Written binds_written X.binds_of
binds-read t g = L.all-items bind_written X.bind_of bind-read (kid 2 t) (kid-good 2 t g)

-- items, level by level
item-is : {x : Item} (z : Item-F CaseGenerateItem GenerateBlock Item GenerateElse) → roll-Item z ≡ x
    → W.item_step (map-Item CaseGenerateItem GenerateBlock Item GenerateElse Bool Bool Bool Bool choice_written block_written item_written else_written z) ≡ true → item_written x ≡ true
item-is z r w = ap item_written (sym r) ∙ fold-roll-Item Bool Bool Bool Bool W.choice_step W.block_step W.item_step W.else_step z ∙ w

block-is : {x : GenerateBlock} (z : GenerateBlock-F CaseGenerateItem GenerateBlock Item GenerateElse) → roll-GenerateBlock z ≡ x
    → W.block_step (map-GenerateBlock CaseGenerateItem GenerateBlock Item GenerateElse Bool Bool Bool Bool choice_written block_written item_written else_written z) ≡ true → block_written x ≡ true
block-is z r w = ap block_written (sym r) ∙ fold-roll-GenerateBlock Bool Bool Bool Bool W.choice_step W.block_step W.item_step W.else_step z ∙ w

choice-is : {x : CaseGenerateItem} (z : CaseGenerateItem-F CaseGenerateItem GenerateBlock Item GenerateElse) → roll-CaseGenerateItem z ≡ x
    → W.choice_step (map-CaseGenerateItem CaseGenerateItem GenerateBlock Item GenerateElse Bool Bool Bool Bool choice_written block_written item_written else_written z) ≡ true → choice_written x ≡ true
choice-is z r w = ap choice_written (sym r) ∙ fold-roll-CaseGenerateItem Bool Bool Bool Bool W.choice_step W.block_step W.item_step W.else_step z ∙ w

else-level : (x : GenerateElse) → else_written x ≡ block_written x.body
else-level x = search (rules, the_lemmas)

if-form : (keyword opening : ℕ) (test : Expr) (closing : ℕ) (body : GenerateBlock) (o : Option GenerateElse) → is_written test ≡ true → block_written body ≡ true
    → if_there (option_map else_written o) ≡ true → item_written (I.IfGenerate keyword opening test closing body o) ≡ true
if-form keyword opening test closing body None u v w = item-is _ (I.rolls-IfGenerate keyword opening test closing body None) (both u (both v refl))
if-form keyword opening test closing body (Some e) u v w = item-is _ (I.rolls-IfGenerate keyword opening test closing body (Some e)) (both u (both v w))

-- items that a name begins
instances-with : (of : ℕ) (parameters : Option ParameterBinds) (instances : List Instance) (semicolon : ℕ)
    → if_there (option_map binds_written parameters) ≡ true → all (map instance_written instances) ≡ true → item_written (X.instances_with of parameters instances semicolon) ≡ true
instances-with of parameters instances semicolon v w = item-is _ (I.rolls-Instances _) (both v w)

two-names-item : (of name : ℕ) → Written item_written (X.two_names_item of name)
two-names-item of name t g =
    by-either item_written (row_of t == R.INSTANCE) _ _
    (instances-with of None _ (token 4 t) refl
    (both (connections-read (kid 1 t) (kid-good 1 t g)) (L.all-behind instance_written X.instance_of instance-read (kids_of (kid 3 t)) (kids-good (kid 3 t) (kid-good 3 t g)))))
    (item-is _ (I.rolls-Data _)
    (both (Y.bare-written of)
    (both (declared-written name (kid 0 t) (kid 1 t) (kid-good 0 t g) (kid-good 1 t g)) (behind-written (kids_of (kid 2 t)) (kids-good (kid 2 t) (kid-good 2 t g))))))

typed-data : (of : TypeText) (names : Tree) (semicolon : ℕ) → type_written of ≡ true → Good names → item_written (X.typed_data of names semicolon) ≡ true
typed-data of names semicolon w g = item-is _ (I.rolls-Data _) (variables-of of names w g)

bound-instances : (of : ℕ) → Written item_written (X.bound_instances of)
bound-instances of t g =
    instances-with of (Some (X.binds_of t)) _ (token 5 t) (binds-read t g) (L.all-items instance_written X.instance_of instance-read (kid 4 t) (kid-good 4 t g))

name-item : (first : ℕ) → Written item_written (X.name_item first)
name-item first t g =
    by-either item_written (row_of t == R.SCOPED_DATA) _ _ (typed-data _ (kid 3 t) (token 4 t) (Y.named-written _ (kid 2 t) (kid-good 2 t g)) (kid-good 3 t g))
    (by-either item_written (row_of t == R.DIMENSIONED_DATA) _ _ (typed-data _ (kid 2 t) (token 3 t) (Y.named-dims-written _ (kid 0 t) (kid 1 t) (kid-good 0 t g) (kid-good 1 t g)) (kid-good 2 t g))
    (by-either item_written (row_of t == R.NAMED_DATA) _ _ (two-names-item first (token 0 t) (kid 1 t) (kid-good 1 t g)) (bound-instances first t g)))

-- generate constructs
module _ (inner : Tree → Item) (ok : Written item_written inner) where
  block-read : Written block_written (X.generate_block_of inner)
  block-read t g =
      by-either block_written (row_of t == R.GENERATE_BLOCK) _ _ (block-is _ (K.rolls-Block _ _ _ _ _) (L.all-kids item_written inner ok (kid 2 t) (kid-good 2 t g)))
      (block-is _ (K.rolls-Single _) (ok (kid 0 t) (kid-good 0 t g)))

  else-read : (ts : List Tree) → AllGood ts → if_there (option_map else_written (X.generate_else_of inner ts)) ≡ true
  else-read [] g = refl
  else-read (t ∷ ts) g = else-level (X.generate_else_from inner t) ∙ block-read (kid 1 t) (kid-good 1 t g.0)

  loop-read : (t : Tree) → Good t → generate_loop_written (X.generate_loop_of t) ≡ true
  loop-read t g = both (expr-written (kid 5 t) (kid-good 5 t g)) (both (expr-written (kid 7 t) (kid-good 7 t g)) (step-written (kid 9 t) (kid-good 9 t g)))

  loop-generate : Written item_written (X.loop_generate inner)
  loop-generate t g = item-is _ (I.rolls-LoopGenerate _ _ _ _ _) (both (loop-read t g) (block-read (kid 11 t) (kid-good 11 t g)))

  if-generate : Written item_written (X.if_generate inner)
  if-generate t g =
      if-form _ _ _ _ _ _ (expr-written (kid 2 t) (kid-good 2 t g)) (block-read (kid 4 t) (kid-good 4 t g)) (else-read (drop 5 (kids_of t)) (drop-good 5 (kids_of t) (kids-good t g)))

  values-generate : Written choice_written (X.values_generate inner)
  values-generate t g = choice-is _ (C.rolls-Values _ _ _) (both (all-exprs (kid 0 t) (kid-good 0 t g)) (block-read (kid 2 t) (kid-good 2 t g)))

  default-generate : Written choice_written (X.default_generate inner)
  default-generate t g = choice-is _ (C.rolls-Default _ _ _) (block-read (kid 2 t) (kid-good 2 t g))

  all-values : (ts : List Tree) → AllGood ts → all (map choice_written (map (X.values_generate inner) ts)) ≡ true
  all-values ts g = L.all-map choice_written (X.values_generate inner) values-generate ts g

  from-default : (ts : List Tree) → AllGood ts → all (map choice_written (X.from_default_generate inner ts)) ≡ true
  from-default [] g = refl
  from-default (t ∷ ts) g = both (default-generate t g.0) (all-values ts g.1)

  choices-read : (t : Tree) → Good t → all (map choice_written (X.case_generate_items_of inner t)) ≡ true
  choices-read t g =
      by-either (λ (xs : List CaseGenerateItem). all (map choice_written xs)) (row_of t == R.GENERATE_ITEMS_FIRST) _ _
      (both (values-generate (kid 0 t) (kid-good 0 t g))
      (L.all-joined choice_written (map (X.values_generate inner) (kids_of (kid 1 t))) (X.from_default_generate inner (kids_of (kid 2 t)))
      (all-values (kids_of (kid 1 t)) (kids-good (kid 1 t) (kid-good 1 t g))) (from-default (kids_of (kid 2 t)) (kids-good (kid 2 t) (kid-good 2 t g)))))
      (from-default (kids_of t) (kids-good t g))

  case-generate : Written item_written (X.case_generate inner)
  case-generate t g = item-is _ (I.rolls-CaseGenerate _ _ _ _ _ _) (both (expr-written (kid 2 t) (kid-good 2 t g)) (choices-read (kid 4 t) (kid-good 4 t g)))

  -- items around these
  construct-read : Written item_written (X.construct_of inner)
  construct-read t g =
      by-either item_written (row_of t == R.GENERATE_MODULE_ITEM) _ _ (item-is _ (I.rolls-Generate _ _ _) (L.all-kids item_written inner ok (kid 1 t) (kid-good 1 t g)))
      (by-either item_written (row_of t == R.LOOP_MODULE_ITEM) _ _ (loop-generate (kid 0 t) (kid-good 0 t g))
      (by-either item_written (row_of t == R.IF_MODULE_ITEM) _ _ (if-generate (kid 0 t) (kid-good 0 t g))
      (by-either item_written (row_of t == R.CASE_MODULE_ITEM) _ _ (case-generate (kid 0 t) (kid-good 0 t g))
      (by-either item_written (row_of t == R.MODPORT_MODULE_ITEM) _ _ (item-is _ (I.rolls-Modports _) refl)
      (by-either item_written (row_of t == R.NAME_MODULE_ITEM) _ _ (name-item (token 0 t) (kid 1 t) (kid-good 1 t g)) (item-is _ (I.rolls-Empty _) refl))))))

  around-read : Written item_written (X.item_around inner)
  around-read t g =
      by-either item_written (row_of t == R.PARAMETERS_MODULE_ITEM) _ _ (item-is _ (I.rolls-Parameters _) (parameters-written (kid 0 t) (token 1 t) (kid-good 0 t g)))
      (by-either item_written (row_of t == R.TYPEDEF_MODULE_ITEM) _ _ (item-is _ (I.rolls-Typedef _) (typedef-written (kid 0 t) (kid-good 0 t g)))
      (by-either item_written (row_of t == R.IMPORT_MODULE_ITEM) _ _ (item-is _ (I.rolls-Import _) refl)
      (by-either item_written (row_of t == R.FUNCTION_MODULE_ITEM) _ _ (item-is _ (I.rolls-Function _) (function-written (kid 0 t) (kid-good 0 t g)))
      (by-either item_written (row_of t == R.TASK_MODULE_ITEM) _ _ (item-is _ (I.rolls-Task _) (task-written (kid 0 t) (kid-good 0 t g)))
      (by-either item_written (row_of t == R.DATA_MODULE_ITEM) _ _ (item-is _ (I.rolls-Data _) (data-written (kid 0 t) (token 1 t) (kid-good 0 t g)))
      (by-either item_written (row_of t == R.GENVAR_MODULE_ITEM) _ _ (item-is _ (I.rolls-Genvars _) refl)
      (by-test item_written (row_of t == R.ASSIGN_MODULE_ITEM) _ _ (λ e. item-is _ (I.rolls-Assign _) (assign-read t g e))
      (λ n. by-either item_written (row_of t == R.ALWAYS_MODULE_ITEM) _ _ (item-is _ (I.rolls-Always _) (always-read (kid 0 t) (kid-good 0 t g))) (construct-read t g)))))))))

item-within : (depth : ℕ) → Written item_written (X.item_within depth)
unfolding X.item_within
item-within zero t g = item-is _ (I.rolls-Empty _) refl
item-within (suc depth) t g = around-read (X.item_within depth) (item-within depth) t g

-- packages, modules and interfaces
items-read : (t : Tree) → Good t → all (map item_written (X.items_of t)) ≡ true
items-read t g = L.all-kids item_written (X.item_within (suc nesting_limit)) (item-within (suc nesting_limit)) t g

package-item : Written package_item_written X.package_item_of
package-item t g =
    by-either package_item_written (row_of t == R.IMPORT_PACKAGE_ITEM) _ _ refl
    (by-either package_item_written (row_of t == R.TYPEDEF_PACKAGE_ITEM) _ _ (typedef-written (kid 0 t) (kid-good 0 t g))
    (by-either package_item_written (row_of t == R.PARAMETERS_PACKAGE_ITEM) _ _ (parameters-written (kid 0 t) (token 1 t) (kid-good 0 t g))
    (by-either package_item_written (row_of t == R.FUNCTION_PACKAGE_ITEM) _ _ (function-written (kid 0 t) (kid-good 0 t g))
    (by-either package_item_written (row_of t == R.TASK_PACKAGE_ITEM) _ _ (task-written (kid 0 t) (kid-good 0 t g)) refl))))

module-read : Written module_written X.module_of
module-read t g = both (header-written (kid 1 t) (kid-good 1 t g)) (items-read (kid 2 t) (kid-good 2 t g))

unit-read : Written unit_written X.unit_of
unit-read t g =
    by-either unit_written (row_of t == R.PACKAGE_UNIT) _ _ (L.all-kids package_item_written X.package_item_of package-item (kid 4 (kid 0 t)) (kid-good 4 (kid 0 t) (kid-good 0 t g)))
    (by-either unit_written (row_of t == R.MODULE_UNIT) _ _ (module-read (kid 0 t) (kid-good 0 t g))
    (by-either unit_written (row_of t == R.INTERFACE_UNIT) _ _ (module-read (kid 0 t) (kid-good 0 t g))
    (by-either unit_written (row_of t == R.IMPORT_UNIT) _ _ refl
    (by-either unit_written (row_of t == R.TYPEDEF_UNIT) _ _ (typedef-written (kid 0 t) (kid-good 0 t g))
    (by-either unit_written (row_of t == R.PARAMETERS_UNIT) _ _ (parameters-written (kid 0 t) (token 1 t) (kid-good 0 t g))
    (by-either unit_written (row_of t == R.FUNCTION_UNIT) _ _ (function-written (kid 0 t) (kid-good 0 t g))
    (by-either unit_written (row_of t == R.TASK_UNIT) _ _ (task-written (kid 0 t) (kid-good 0 t g)) refl)))))))

-- the units of a text
pub units-read : (t : Tree) → Good t → all (map unit_written (X.units_of t)) ≡ true
units-read t g = L.all-kids unit_written X.unit_of unit-read t g
