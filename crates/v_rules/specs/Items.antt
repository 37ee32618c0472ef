-- What is found in the port list and in the items of a module, and in a design.
use Rattle.std.specs.Prelude.{ℕ, suc, ◌+◌, Bool, true, false, not, ◌&&◌, List, [], ◌∷◌, length, Option, Some, None, is_some, if◌then◌else◌}
use Rattle.v_tree.specs.Names.{Name}
use Rattle.v_tree.specs.declared.items.VDesign.{VDesign}
use Rattle.v_tree.specs.declared.items.VFunction.{VFunction}
use Rattle.v_tree.specs.declared.items.VInitial.{VInitial}
use Rattle.v_tree.specs.declared.items.VInstance.{VInstance}
use Rattle.v_tree.specs.declared.items.VItem.{VItem}
use Rattle.v_tree.specs.declared.items.VItem.TheVariants as I
use Rattle.v_tree.specs.declared.items.VModule.{VModule}
use Rattle.v_tree.specs.declared.items.VSignal.{VSignal}
use Rattle.v_tree.specs.declared.items.VSignal.TheVariants.{Input, Output, OutputReg, Wire, Reg}
use Rattle.v_scopes.specs.Env.{Env, found}
use Rattle.v_scopes.specs.declared.scope.Scope.{Scope}
use Rattle.v_expr_rules.specs.Seen.{plus, earlier, mark}
use Rattle.v_stmt_rules.specs.declared.statements.StmtSeen.{StmtSeen}
use Rattle.v_stmt_rules.specs.Stmts.{Told, nothing, meets, begun}
use Rattle.v_item_rules.specs.Signals.{range_tokens, listed, signal_tokens, signal_first}
use Rattle.v_item_rules.specs.Processes.{initial_first, process_told}
use Rattle.v_item_rules.specs.Functions.{function_seen}
use Rattle.v_item_rules.specs.Instances.{instance_seen}
use Rattle.v_rules.specs.ModuleNames.{items_given, ports_given}
use Rattle.v_rules.specs.Tables.{Numbers, at_number}
use Rattle.v_rules.specs.Tables as T

abbrev pub found_ports : Option Scope → Option Env
found_ports = T.found_ports

abbrev pub port_added : StmtSeen → Bool → Bool → ℕ → StmtSeen
port_added l again is_port at = record { size = plus l.size 2; first = earlier l.first (earlier (mark again at) (mark (not is_port) at)) }

abbrev pub list_from : List Name → Env → ℕ → Told → Told
list_from [] ports start t = t
list_from (n ∷ ns) ports start t =
    list_from ns ports start (record { seen = port_added t.seen (is_some (t.met n)) (is_some (ports n)) (plus start t.seen.size); met = meets t.met n })

abbrev pub signal_token : VSignal → ℕ → ℕ
signal_token (Input range name) at = plus at (1 + range_tokens range)
signal_token (Output range name) at = plus at (1 + range_tokens range)
signal_token (OutputReg range name initial) at = plus at (2 + range_tokens range)
signal_token (Wire range name) at = plus at (1 + range_tokens range)
signal_token (Reg range name rest) at = plus at (1 + range_tokens range)

abbrev pub signal_name : VSignal → Name
signal_name (Input range name) = name
signal_name (Output range name) = name
signal_name (OutputReg range name initial) = name
signal_name (Wire range name) = name
signal_name (Reg range name rest) = name

abbrev pub is_port : VSignal → Bool
is_port (Input range name) = true
is_port (Output range name) = true
is_port (OutputReg range name initial) = true
is_port (Wire range name) = false
is_port (Reg range name rest) = false

abbrev pub signal_told : VSignal → Env → ℕ → Env → Told
signal_told s list at met =
    let name = signal_name s in
    let token = signal_token s at in
    record {
      seen = record {
        size = signal_tokens s;
        first = earlier (mark (is_some (met name)) token) (earlier (mark (is_port s && not (is_some (list name))) token) (signal_first s at));
      };
      met = meets met name;
    }

abbrev pub initial_seen : VInitial → Env → ℕ → StmtSeen
initial_seen i env at = record { size = 5; first = initial_first (env i.name) (length i.value) at }

abbrev pub function_told : VFunction → ℕ → Env → List VItem → ℕ → Env → Told
function_told f number env items at met =
    let seen = function_seen f number env items at in
    record {
      seen = record { size = seen.size; first = earlier (mark (is_some (met f.name)) (plus at (1 + range_tokens f.range))) seen.first };
      met = meets met f.name;
    }

abbrev pub child_seen : Option Env → VInstance → Env → List VItem → ℕ → StmtSeen
child_seen None i env items at = record { size = (instance_seen i nothing env items at).size; first = Some at }
child_seen (Some ports) i env items at = instance_seen i ports env items at

abbrev pub instance_told : Numbers → List Env → VInstance → Env → List VItem → ℕ → Env → Told
instance_told ns es i env items at met =
    let seen = child_seen (at_number es (ns i.of)) i env items at in
    record { seen = record { size = seen.size; first = earlier (mark (is_some (met i.name)) (plus at 1)) seen.first }; met = meets met i.name }

abbrev pub item_told : Numbers → List Env → Env → VItem → ℕ → Env → List VItem → ℕ → Env → Told
item_told ns es list (I.Signal s) number env items at met = signal_told s list at met
item_told ns es list (I.Initial i) number env items at met = record { seen = initial_seen i env at; met = met }
item_told ns es list (I.Process p) number env items at met = process_told p env items at met
item_told ns es list (I.Function f) number env items at met = function_told f number env items at met
item_told ns es list (I.Instance i) number env items at met = instance_told ns es i env items at met

abbrev pub item_added : StmtSeen → StmtSeen → StmtSeen
item_added l s = record { size = plus l.size s.size; first = earlier l.first s.first }

abbrev pub items_from : List VItem → ℕ → Numbers → List Env → Env → Env → List VItem → ℕ → Told → Told
items_from [] number ns es list env items start t = t
items_from (i ∷ is) number ns es list env items start t =
    let one = item_told ns es list i number env items (plus start t.seen.size) t.met in
    items_from is (suc number) ns es list env items start (record { seen = item_added t.seen one.seen; met = one.met })

-- a module that begins at a token
abbrev pub list_tokens : List Name → ℕ
list_tokens [] = 0
list_tokens (n ∷ ns) = plus 2 (listed (length (n ∷ ns)))

abbrev pub module_seen : Numbers → List Env → VModule → ℕ → StmtSeen
module_seen ns es m at =
    let list = list_from m.ports (ports_given m.items nothing) (plus at 3) (begun nothing) in
    let tokens = list_tokens m.ports in
    let body = (items_from m.items 0 ns es list.met (items_given 0 m.items nothing) m.items (plus at (plus 3 tokens)) (begun nothing)).seen in
    record { size = plus 4 (plus tokens body.size); first = earlier list.seen.first body.first }

abbrev pub module_added : StmtSeen → Option ℕ → StmtSeen → StmtSeen
module_added l again one = record { size = plus l.size one.size; first = earlier l.first (earlier again one.first) }

abbrev pub modules_from : List VModule → Numbers → List Env → Told → Told
modules_from [] ns es t = t
modules_from (m ∷ ms) ns es t =
    modules_from ms ns es (record {
      seen = module_added t.seen (mark (is_some (t.met m.name)) (plus t.seen.size 1)) (module_seen ns es m t.seen.size);
      met = meets t.met m.name;
    })

abbrev pub design_first : VDesign → Option ℕ
design_first e = (modules_from e.modules (T.numbers_from 0 e.modules T.no_numbers) (T.ports_added e.modules []) (begun nothing)).seen.first
