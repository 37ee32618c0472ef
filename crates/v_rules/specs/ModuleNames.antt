-- What names stand for in a module, and its ports; of two with one name the first one counts.
use Rattle.std.specs.Prelude.{ℕ, suc, List, [], ◌∷◌, Option, Some, None}
use Rattle.v_tree.specs.declared.items.VItem.{VItem}
use Rattle.v_tree.specs.declared.items.VItem.TheVariants as I
use Rattle.v_tree.specs.declared.items.VProcess.{VProcess}
use Rattle.v_tree.specs.declared.items.VProcess.TheVariants.{Assign, Always}
use Rattle.v_tree.specs.declared.items.VRegRest.{VRegRest}
use Rattle.v_tree.specs.declared.items.VRegRest.TheVariants as R
use Rattle.v_tree.specs.declared.items.VSignal.{VSignal}
use Rattle.v_tree.specs.declared.items.VSignal.TheVariants.{Input, Output, OutputReg, Wire, Reg}
use Rattle.v_scopes.specs.Env.{Env, given}
use Rattle.v_scopes.specs.declared.entry.Entry.{Entry}
use Rattle.v_scopes.specs.declared.entry.Entry.TheVariants as N
use Rattle.v_scopes.specs.declared.entry.Kind.{Kind}
use Rattle.v_scopes.specs.declared.entry.Kind.TheVariants as K
use Rattle.v_block_names.specs.Blocks.{parts_given}
use Rattle.v_stmt_rules.specs.Stmts.{branch_told}

abbrev pub value_of : Kind → Option ℕ → Entry
value_of kind left = N.Value kind left

abbrev pub reg_entry : Option ℕ → Option VRegRest → Entry
reg_entry range None = N.Value K.Variable range
reg_entry range (Some (R.Memory left)) = N.Memory range
reg_entry range (Some (R.Initial v)) = N.Value K.Variable range

abbrev pub signal_given : VSignal → Env → Env
signal_given (Input range name) env = given env name (Some (N.Value K.Input range))
signal_given (Output range name) env = given env name (Some (N.Value K.Net range))
signal_given (OutputReg range name initial) env = given env name (Some (N.Value K.Variable range))
signal_given (Wire range name) env = given env name (Some (N.Value K.Net range))
signal_given (Reg range name rest) env = given env name (Some (reg_entry range rest))

abbrev pub process_given : VProcess → Env → Env
process_given (Assign target value) env = env
process_given (Always on body) env = parts_given ((branch_told body).labels []) env

abbrev pub item_given : ℕ → VItem → Env → Env
item_given number (I.Signal s) env = signal_given s env
item_given number (I.Initial i) env = env
item_given number (I.Process p) env = process_given p env
item_given number (I.Function f) env = given env f.name (Some (N.Function f.range number))
item_given number (I.Instance i) env = given env i.name (Some N.Part)

abbrev pub items_given : ℕ → List VItem → Env → Env
items_given number [] env = env
items_given number (i ∷ is) env = item_given number i (items_given (suc number) is env)

abbrev pub port_given : VItem → Env → Env
port_given (I.Signal (Input range name)) env = given env name (Some (N.Value K.Input range))
port_given (I.Signal (Output range name)) env = given env name (Some (N.Value K.Net range))
port_given (I.Signal (OutputReg range name initial)) env = given env name (Some (N.Value K.Net range))
port_given (I.Signal (Wire range name)) env = env
port_given (I.Signal (Reg range name rest)) env = env
port_given (I.Initial i) env = env
port_given (I.Process p) env = env
port_given (I.Function f) env = env
port_given (I.Instance i) env = env

abbrev pub ports_given : List VItem → Env → Env
ports_given [] env = env
ports_given (i ∷ is) env = port_given i (ports_given is env)
