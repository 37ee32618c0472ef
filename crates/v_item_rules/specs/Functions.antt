-- What is found in a function.
use Rattle.std.specs.Prelude.{◌≡◌, ℕ, List, [], ◌∷◌, Option, Some, None, Result, Ok, Err}
use Rattle.v_tree.specs.declared.items.VFunction.{VFunction}
use Rattle.v_tree.specs.declared.items.VItem.{VItem}
use Rattle.v_scopes.specs.Env.{Env, given}
use Rattle.v_scopes.specs.declared.entry.Entry.{Entry}
use Rattle.v_scopes.specs.declared.entry.Entry.TheVariants as N
use Rattle.v_block_names.specs.Blocks.{parts_given, locals_given}
use Rattle.v_expr_rules.specs.Seen.{plus, earlier}
use Rattle.v_stmt_rules.specs.declared.statements.StmtSeen.{StmtSeen}
use Rattle.v_stmt_rules.specs.declared.targets.Procedure.TheVariants.{InFunction}
use Rattle.v_stmt_rules.specs.Stmts.{Told, nothing, meets, begun, locals_from, stmt_told, Tells}
use Rattle.v_item_rules.specs.Signals.{range_tokens}

-- what names stand for in a function: of two with one name the first one counts
abbrev pub function_given : VFunction → ℕ → Env → Env
function_given f item env =
    given (locals_given f.inputs (locals_given f.locals (parts_given ((stmt_told f.body).labels []) env))) f.name (Some (N.Result f.range item))

abbrev pub whole : ℕ → StmtSeen → StmtSeen → StmtSeen
whole range locals body = record { size = plus 4 (plus range (plus locals.size body.size)); first = earlier locals.first body.first }

-- its own names but for its blocks, met in order
abbrev pub own_told : VFunction → ℕ → Env → Told
own_told f start met = locals_from f.locals start (locals_from f.inputs start (begun (meets met f.name)))

abbrev pub Owns : {E : Type 0} → Result StmtSeen E → Env → VFunction → ℕ → Env → Type 0
Owns r new f start old = Tells r new (own_told f start old)

abbrev pub function_seen : VFunction → ℕ → Env → List VItem → ℕ → StmtSeen
function_seen f item env items at =
    let start = plus at (plus 3 (range_tokens f.range)) in
    let own = own_told f start nothing in
    let body = (stmt_told f.body).walk InFunction (function_given f item env) items (plus start own.seen.size) own.met in
    whole (range_tokens f.range) own.seen body.seen

abbrev pub Gives : {E : Type 0} → Result StmtSeen E → StmtSeen → Type 0
Gives (Ok s) t = s ≡ t
Gives (Err e) t = Unit {0}
