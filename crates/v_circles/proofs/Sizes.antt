-- How many tokens items have, whatever names stand for.
use Rattle.std.proofs.Common.{◌≡◌, ℕ, ◌+◌, List, [], ◌∷◌, Option, Some, None, refl, sym, ap, ◌∙◌, subst, is_some, arith}
use Rattle.v_tree.specs.Scopes.{Declared, part}
use Rattle.v_tree.specs.StmtRules as R
use Rattle.v_tree.specs.StmtRules.{rules_of_stmt, range_size, locals_size}
use Rattle.v_tree.specs.Rules.{process_size, function_size, item_size}
use Rattle.v_tree.specs.declared.items.VFunction.{VFunction}
use Rattle.v_tree.specs.declared.items.VInstance.{VInstance}
use Rattle.v_tree.specs.declared.items.VItem.{VItem}
use Rattle.v_tree.specs.declared.items.VItem.TheVariants as I
use Rattle.v_tree.specs.declared.items.VProcess.{VProcess}
use Rattle.v_tree.specs.declared.items.VSignal.{VSignal}
use Rattle.v_scopes.specs.Env.{Env}
use Rattle.v_expr_rules.specs.Seen.{plus}
use Rattle.v_expr_rules.specs.Least.{cap}
use Rattle.v_expr_rules.proofs.Operands.{sum-of}
use Rattle.v_stmt_rules.specs.declared.targets.Procedure.TheVariants as P
use Rattle.v_stmt_rules.specs.Stmts.{nothing, meets, begun, locals_from, stmt_told}
use Rattle.v_stmt_rules.proofs.Declared.{Meets, meets-more, afters, locals-fit}
use Rattle.v_stmt_rules.proofs.StmtsExact.{stmt-at}
use Rattle.v_stmt_rules.proofs.CasesExact.{stmt-exact}
use Rattle.v_item_rules.specs.Processes.{process_told}
use Rattle.v_item_rules.specs.Functions.{function_given, own_told, function_seen}
use Rattle.v_item_rules.specs.Instances.{instance_seen}
use Rattle.v_item_rules.specs.Signals.{range_tokens, signal_tokens}
use Rattle.v_item_rules.proofs.SignalsExact.{signal-size}
use Rattle.v_item_rules.proofs.ProcessesExact.{process-fits}
use Rattle.v_item_rules.proofs.InstancesExact.{instance-fits}

pub signal_size_is : (s : VSignal) → signal_tokens s ≡ cap (item_size (I.Signal s))
signal_size_is s = signal-size s

pub process_size_is : (p : VProcess) (env met : Env) (items : List VItem) → met ≡ nothing → (process_told p env items 0 met).seen.size ≡ cap (process_size p)
process_size_is p env met items e = (process-fits p env items 0 met [] (λ n. ap (λ (m : Env). is_some (m n)) e)).size_is

pub instance_size_is : (i : VInstance) (ports env : Env) (items : List VItem) → ports ≡ nothing → (instance_seen i ports env items 0).size ≡ cap (item_size (I.Instance i))
instance_size_is i ports env items e = ap (λ (p : Env). (instance_seen i p env items 0).size) e ∙ (instance-fits i nothing [] env items 0 (λ n. tt)).size_is

range-cap : (r : Option ℕ) → range_tokens r ≡ cap (range_size r)
range-cap None = refl
range-cap (Some left) = refl

own-size : (f : VFunction) (n s : ℕ) → n ≡ cap s
    → ((own_told f n nothing).seen.size ≡ cap (locals_size f.inputs + locals_size f.locals)) × ((ds : List Declared) × Meets (own_told f n nothing).met ds)
own-size f n s is =
    let d : Declared = record { name = f.name; token = 0; thing = part } in
    let k = locals-fit f.inputs s 0 (begun (meets nothing f.name)) (d ∷ []) refl (meets-more nothing [] d (λ m. refl)) in
    let t = locals_from f.inputs (cap s) (begun (meets nothing f.name)) in
    let l = locals-fit f.locals s (0 + locals_size f.inputs) t (afters (R.locals_from f.inputs (s + 0)) (d ∷ [])) k.size_is k.met_is in
    subst (λ m. ((own_told f m nothing).seen.size ≡ cap (locals_size f.inputs + locals_size f.locals)) × ((ds : List Declared) × Meets (own_told f m nothing).met ds)) (sym is)
    (l.size_is ∙ ap cap (omega arith), (afters (R.locals_from f.locals (s + (0 + locals_size f.inputs))) (afters (R.locals_from f.inputs (s + 0)) (d ∷ [])), l.met_is))

pub function_size_is : (f : VFunction) (item : ℕ) (env : Env) (items : List VItem) → (function_seen f item env items 0).size ≡ cap (function_size f)
function_size_is f item env items =
    let s = 3 + range_size f.range in
    let start = plus 0 (plus 3 (range_tokens f.range)) in
    let start_is : start ≡ cap s = sum-of 0 (plus 3 (range_tokens f.range)) 0 s refl (sum-of 3 (range_tokens f.range) 3 (range_size f.range) refl (range-cap f.range)) ∙ ap cap (omega arith) in
    let k = own-size f start s start_is in
    let own = own_told f start nothing in
    let size = locals_size f.inputs + locals_size f.locals in
    let from = plus start own.seen.size in
    let r = rules_of_stmt f.body in
    let inner = function_given f item env in
    let g = stmt-at (stmt_told f.body) r (stmt-exact f.body) P.InFunction inner items from (s + size) own.met k.1.0 (sum-of start own.seen.size s size start_is k.0) k.1.1 in
    let body = (stmt_told f.body).walk P.InFunction inner items from own.met in
    sum-of 4 (plus (range_tokens f.range) (plus own.seen.size body.seen.size)) 4 (range_size f.range + (size + r.size)) refl
    (sum-of (range_tokens f.range) (plus own.seen.size body.seen.size) (range_size f.range) (size + r.size) (range-cap f.range)
    (sum-of own.seen.size body.seen.size size r.size k.0 g.size))
    ∙ ap cap (omega arith)
