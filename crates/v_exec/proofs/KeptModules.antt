-- The functions and processes of a module that breaks no rule of the grammar do no arithmetic on over 128 bits.
use Rattle.std.proofs.Common.{◌≡◌, ℕ, zero, suc, ◌+◌, ◌≤◌, max, Bool, true, false, cond, List, [], ◌∷◌, ◌++◌, append_assoc, length, map, Option, Some, None, refl, arith, ap, sym, ◌∙◌, subst}
use Rattle.std.specs.Prelude.{if◌then◌else◌}
use Rattle.std.specs.List.{list_all}
use Rattle.std.specs.Str.{bytes_eq}
use Rattle.std.proofs.lemmas.Slice.Eq.{bytes_eq-Decides}
use Rattle.v_tree.specs.Names.{Name}
use Rattle.v_tree.specs.Scopes as D
use Rattle.v_tree.specs.Scopes.{input, net, variable, Thing, value, memory, function, result, part, Declared, bits_of, has_range, repeated, is_declared}
use Rattle.v_tree.specs.ExprRules.{Around, only_if, rules_of}
use Rattle.v_tree.specs.StmtRules.{target_of, in_function, at_star, at_edges, range_size, locals_size, locals_from, rules_of_stmt, rules_of_branch}
use Rattle.v_tree.specs.Rules as R
use Rattle.v_tree.specs.Rules.{declared_signal, reg_thing, declared_by, declared_in, item_size, event_size, input_bits, function_token, function_names, function_broken, function_links, links_of, leads, item_broken, items_broken, process_broken, edges_broken, ports_size, ports_of, listed_ports, unlisted, undeclared, module_broken, module_size, module_names, modules_broken, module_named, module_links, child_broken, Keeps}
use Rattle.v_tree.specs.declared.expressions.VExpr.{VExpr}
use Rattle.v_tree.specs.declared.items.VFunction.{VFunction}
use Rattle.v_tree.specs.declared.items.VInit.{VInit}
use Rattle.v_tree.specs.declared.items.VInstance.{VInstance}
use Rattle.v_tree.specs.declared.items.VItem.{VItem}
use Rattle.v_tree.specs.declared.items.VItem.TheVariants as I
use Rattle.v_tree.specs.declared.items.VLocal.{VLocal}
use Rattle.v_tree.specs.declared.items.VModule.{VModule}
use Rattle.v_tree.specs.declared.items.VProcess.TheVariants.{Assign, Always}
use Rattle.v_tree.specs.declared.items.VRegRest.{VRegRest}
use Rattle.v_tree.specs.declared.items.VRegRest.TheVariants as G
use Rattle.v_tree.specs.declared.items.VSensitivity.{VSensitivity}
use Rattle.v_tree.specs.declared.items.VSensitivity.TheVariants.{Star, Edges}
use Rattle.v_tree.specs.declared.items.VSignal.{VSignal}
use Rattle.v_tree.specs.declared.items.VSignal.TheVariants.{Input, Output, OutputReg, Wire, Reg}
use Rattle.v_tree.specs.declared.statements.VBranch.{VBranch}
use Rattle.v_tree.specs.declared.statements.VLval.{VLval}
use Rattle.v_meaning.specs.Scopes as M
use Rattle.v_meaning.specs.Functions.{result_of, locals_of, scope_in, find, callees_within, callee_or_absent}
use Rattle.v_meaning.specs.Modules as P
use Rattle.v_meaning.specs.Modules.{Signal, signal, signals, functions, numbered}
use Rattle.v_meaning.specs.Statements.{target, declared}
use Rattle.v_eval.specs.Limits.{limits, most_given}
use Rattle.v_eval.specs.Scopes.{callee_within}
use Rattle.v_run.specs.Limits.{target_most}
use Rattle.v_exec.specs.Agreeing.{ThingAgrees, Agrees, IsFunction}
use Rattle.v_exec.specs.Limits.{stmt_most, branch_most, functions_most}
use Rattle.v_exec.specs.Keeping.{scope_at, LinksNarrow, ItemNarrow, ItemsNarrow, ModuleNarrow}
use Rattle.v_exec.specs.Modules as N
use Rattle.v_exec.specs.Modules.{signals_in, FunctionsNarrow}
use Rattle.v_eval.specs.declared.modules.Module.{Module}
use Rattle.v_tree.specs.declared.items.VDesign.{VDesign}
use Rattle.v_selects.specs.Few.{few_of_expr, few_of_lval, few_of_stmt, few_of_branch, few_of_connection, few_of_item, few_of_module, few_of_design}
use Rattle.v_tree.specs.Reading.{VReads}
use Rattle.v_selects.proofs.Derivations.{spelled-few}
use Rattle.v_exec.proofs.KeptExprs.{left-none, right-none, both-yes}
use Rattle.v_exec.proofs.KeptLinks.{links-narrow}
use Rattle.v_exec.proofs.KeptStmts.{expr-kept, target-kept}
use Rattle.v_exec.proofs.KeptRuns.{AllParts, agrees-if, part-agrees, parts-agree, range-bits, locals-agree, branch-good, stmt-good}

-- functions as they are called
callee-is : (d : ℕ) (names : List M.Named) (fs : List VFunction) (name : Name) → callees_within d names fs name ≡ callee_or_absent (callee_within d names fs) (find fs name)
unfolding callees_within
callee-is zero names fs name = refl
callee-is (suc d) names fs name = refl

input-widths : (n : ℕ) (ls : List VLocal) → map (λ (x : M.Named). x.width) (declared n ls) ≡ map (λ (l : VLocal). bits_of l.range) ls
input-widths n [] = refl
input-widths n (l ∷ ls) = ap (λ w. w ∷ map (λ (x : M.Named). x.width) (declared (suc n) ls)) (range-bits l.range) ∙ ap (λ ws. bits_of l.range ∷ ws) (input-widths (suc n) ls)

callee-function : (d : ℕ) (names : List M.Named) (fs : List VFunction) (f : VFunction) → IsFunction (bits_of f.range) (input_bits f) (callee_within d names fs f)
callee-function zero names fs f = (range-bits f.range, input-widths 1 f.inputs)
callee-function (suc d) names fs f = (range-bits f.range, input-widths 1 f.inputs)

found-function : (d : ℕ) (names : List M.Named) (fs : List VFunction) (name : Name) (f : VFunction) → find fs name ≡ Some f → IsFunction (bits_of f.range) (input_bits f) (callees_within d names fs name)
found-function d names fs name f is =
    subst (IsFunction (bits_of f.range) (input_bits f)) (sym (callee-is d names fs name ∙ ap (callee_or_absent (callee_within d names fs)) is)) (callee-function d names fs f)

abbrev pub CalleeFits : Option VFunction → M.Callee → Type 0
CalleeFits None c = Unit {0}
CalleeFits (Some f) c = IsFunction (bits_of f.range) (input_bits f) c

callee-fits : (d : ℕ) (names : List M.Named) (fs : List VFunction) (name : Name) (o : Option VFunction) → find fs name ≡ o → CalleeFits o (callees_within d names fs name)
callee-fits d names fs name None is = tt
callee-fits d names fs name (Some f) is = found-function d names fs name f is

-- what names stand for in a module
parts-before : (ds rest : List Declared) (outer : D.Scope) (name : Name) (n : M.Named) (c : M.Callee) → AllParts ds → ThingAgrees (D.inside rest outer name) n c → ThingAgrees (D.inside (ds ++ rest) outer name) n c
parts-before [] rest outer name n c h g = g
parts-before (d ∷ ds) rest outer name n c h g = by (bytes_eq d.name name) (parts-before ds rest outer name n c h.1 g)
  where
    by : (b : Bool) → ThingAgrees (D.inside (ds ++ rest) outer name) n c → ThingAgrees (if b then Some d.thing else D.inside (ds ++ rest) outer name) n c
    by true more = part-agrees d.thing n c h.0
    by false more = more

-- a signal as it is declared
abbrev pub SignalAgrees : Declared → Signal → Type 0
SignalAgrees d s = (d.name ≡ s.name) × ((n : ℕ) (c : M.Callee) → ThingAgrees (Some d.thing) (record { name = s.name; number = n; width = s.width; words = s.words }) c)

output-reg : (r : Option ℕ) (name : Name) (at : ℕ) (v : Option VInit) → SignalAgrees (declared_signal (OutputReg r name v) at) (signal (OutputReg r name v))
output-reg r name at None = (refl, λ n c. (range-bits r, refl))
output-reg r name at (Some v) = (refl, λ n c. (range-bits r, refl))

reg : (r : Option ℕ) (name : Name) (at : ℕ) (rest : Option VRegRest) → SignalAgrees (declared_signal (Reg r name rest) at) (signal (Reg r name rest))
reg r name at None = (refl, λ n c. (range-bits r, refl))
reg r name at (Some (G.Memory left)) = (refl, λ n c. (range-bits r, refl))
reg r name at (Some (G.Initial v)) = (refl, λ n c. (range-bits r, refl))

signal-agrees : (s : VSignal) (at : ℕ) → SignalAgrees (declared_signal s at) (signal s)
signal-agrees (Input r name) at = (refl, λ n c. (range-bits r, refl))
signal-agrees (Output r name) at = (refl, λ n c. (range-bits r, refl))
signal-agrees (OutputReg r name v) at = output-reg r name at v
signal-agrees (Wire r name) at = (refl, λ n c. (range-bits r, refl))
signal-agrees (Reg r name rest) at = reg r name at rest

signal-first : (d : Declared) (s : Signal) (t : Option Thing) (m : M.Named) (n : ℕ) (name : Name) (c : M.Callee) → SignalAgrees d s → ThingAgrees t m c
    → ThingAgrees (if bytes_eq d.name name then Some d.thing else t) (cond (bytes_eq s.name name) (record { name = s.name; number = n; width = s.width; words = s.words }) m) c
signal-first d s t m n name c h g =
    subst (λ (k : Name). ThingAgrees (if bytes_eq k name then Some d.thing else t) (cond (bytes_eq s.name name) (record { name = s.name; number = n; width = s.width; words = s.words }) m) c) (sym h.0)
    (agrees-if (bytes_eq s.name name) (Some d.thing) t (record { name = s.name; number = n; width = s.width; words = s.words }) m c (h.1 n c) g)

function-first : (b : Bool) (f : VFunction) (t : Option Thing) (o : Option VFunction) (m : M.Named) (c : M.Callee) → CalleeFits (cond b (Some f) o) c → (CalleeFits o c → ThingAgrees t m c)
    → ThingAgrees (if b then Some (function (bits_of f.range) (input_bits f)) else t) m c
function-first true f t o m c h g = h
function-first false f t o m c h g = g h

items-agree : (is : List VItem) (at n : ℕ) (name : Name) (c : M.Callee) → CalleeFits (find (functions is) name) c → ThingAgrees (D.inside (declared_in is at) D.nowhere name) (M.named (numbered n (signals is)) name) c
items-agree [] at n name c h = tt
items-agree (I.Signal s ∷ is) at n name c h =
    signal-first (declared_signal s at) (signal s) (D.inside (declared_in is (at + item_size (I.Signal s))) D.nowhere name) (M.named (numbered (suc n) (signals is)) name) n name c (signal-agrees s at)
    (items-agree is (at + item_size (I.Signal s)) (suc n) name c h)
items-agree (I.Initial i ∷ is) at n name c h = items-agree is (at + item_size (I.Initial i)) n name c h
items-agree (I.Process (Assign to e) ∷ is) at n name c h = items-agree is (at + item_size (I.Process (Assign to e))) n name c h
items-agree (I.Process (Always on body) ∷ is) at n name c h =
    parts-before ((rules_of_branch body).blocks (at + (2 + event_size on))) (declared_in is (at + item_size (I.Process (Always on body)))) D.nowhere name (M.named (numbered n (signals is)) name) c
    ((branch-good body).0 (at + (2 + event_size on))) (items-agree is (at + item_size (I.Process (Always on body))) n name c h)
items-agree (I.Function f ∷ is) at n name c h =
    function-first (bytes_eq f.name name) f (D.inside (declared_in is (at + item_size (I.Function f))) D.nowhere name) (find (functions is) name) (M.named (numbered n (signals is)) name) c h
    (items-agree is (at + item_size (I.Function f)) n name c)
items-agree (I.Instance i ∷ is) at n name c h =
    parts-before (record { name = i.name; token = suc at; thing = part } ∷ []) (declared_in is (at + item_size (I.Instance i))) D.nowhere name (M.named (numbered n (signals is)) name) c (refl, tt)
    (items-agree is (at + item_size (I.Instance i)) n name c h)

pub module-agrees : (items : List VItem) (at n d : ℕ) (leads_back : Name → Bool) → Agrees (record { scope = D.inside (declared_in items at) D.nowhere; leads_back = leads_back }) (scope_at n d items)
module-agrees items at n d leads_back name =
    items-agree items at n name (callees_within d (numbered n (signals items)) (functions items) name) (callee-fits d (numbered n (signals items)) (functions items) name (find (functions items) name) refl)

-- what names stand for in a function
function-agrees : (f : VFunction) (at : ℕ) (around : Around) (leads_back : Name → Bool) (sc : M.Scope) → Agrees around sc → ((name : Name) → bytes_eq f.name name ≡ true → IsFunction (bits_of f.range) (input_bits f) (sc.callee name))
    → Agrees (record { scope = D.inside (function_names f at) around.scope; leads_back = leads_back }) (scope_in f sc)
function-agrees f at around leads_back sc agree own name =
    let first = at + (3 + range_size f.range) in
    let blocks = (rules_of_stmt f.body).blocks (first + (locals_size f.inputs + locals_size f.locals)) in
    let variables = locals_from f.locals (first + locals_size f.inputs) ++ blocks in
    let behind = declared (suc (length f.inputs)) f.locals ++ sc.names in
    let c = sc.callee name in
    let inner = locals-agree f.locals (first + locals_size f.inputs) (suc (length f.inputs)) blocks around.scope sc.names name c
    (parts-agree blocks around.scope name (M.named sc.names name) c ((stmt-good f.body).0 (first + (locals_size f.inputs + locals_size f.locals))) (agree name)) in
    let outer = locals-agree f.inputs first 1 variables around.scope behind name c inner in
    let names = append_assoc (declared 1 f.inputs) (declared (suc (length f.inputs)) f.locals) sc.names in
    by (bytes_eq f.name name) refl (subst (λ ns. ThingAgrees (D.inside (locals_from f.inputs first ++ variables) around.scope name) (M.named ns name) c) (sym names) outer)
  where
    by : (b : Bool) → bytes_eq f.name name ≡ b
        → ThingAgrees (D.inside (locals_from f.inputs (at + (3 + range_size f.range)) ++ (locals_from f.locals (at + (3 + range_size f.range) + locals_size f.inputs) ++ (rules_of_stmt f.body).blocks (at + (3 + range_size f.range) + (locals_size f.inputs + locals_size f.locals)))) around.scope name)
        (M.named ((declared 1 f.inputs ++ declared (suc (length f.inputs)) f.locals) ++ sc.names) name) (sc.callee name)
        → ThingAgrees (D.inside (function_names f at) around.scope name) (M.named (locals_of f ++ sc.names) name) (sc.callee name)
    by true is rest =
        let t = D.inside (locals_from f.inputs (at + (3 + range_size f.range)) ++ (locals_from f.locals (at + (3 + range_size f.range) + locals_size f.inputs) ++ (rules_of_stmt f.body).blocks (at + (3 + range_size f.range) + (locals_size f.inputs + locals_size f.locals)))) around.scope name in
        let m = M.named ((declared 1 f.inputs ++ declared (suc (length f.inputs)) f.locals) ++ sc.names) name in
        subst (λ b. ThingAgrees (if b then Some (result (bits_of f.range) (has_range f.range) (input_bits f)) else t) (cond b (result_of f) m) (sc.callee name)) (sym is) ((range-bits f.range, refl), own name is)
    by false is rest =
        let t = D.inside (locals_from f.inputs (at + (3 + range_size f.range)) ++ (locals_from f.locals (at + (3 + range_size f.range) + locals_size f.inputs) ++ (rules_of_stmt f.body).blocks (at + (3 + range_size f.range) + (locals_size f.inputs + locals_size f.locals)))) around.scope name in
        let m = M.named ((declared 1 f.inputs ++ declared (suc (length f.inputs)) f.locals) ++ sc.names) name in
        subst (λ b. ThingAgrees (if b then Some (result (bits_of f.range) (has_range f.range) (input_bits f)) else t) (cond b (result_of f) m) (sc.callee name)) (sym is) rest

-- names that are declared once
if-none : (b : Bool) (t : ℕ) (xs ys : List ℕ) → (if b then t ∷ xs else ys) ≡ [] → (b ≡ false) × (ys ≡ [])
if-none true t xs ys h = absurd (cc)
if-none false t xs ys h = (refl, h)

added : List Declared → List Declared → List Declared
added [] before = before
added (d ∷ ds) before = added ds (d ∷ before)

repeated-behind : (ds es before : List Declared) → repeated before (ds ++ es) ≡ [] → repeated (added ds before) es ≡ []
unfolding added
repeated-behind [] es before h = h
repeated-behind (d ∷ ds) es before h =
    repeated-behind ds es (d ∷ before) (if-none (is_declared before d.name) d.token (repeated (d ∷ before) (ds ++ es)) (repeated (d ∷ before) (ds ++ es)) h).1

if-false : (b c : Bool) → (if b then true else c) ≡ false → (b ≡ false) × (c ≡ false)
if-false true c h = absurd (cc)
if-false false c h = (refl, h)

declared-before : (ds before : List Declared) (name : Name) → is_declared (added ds before) name ≡ false → is_declared before name ≡ false
unfolding added
declared-before [] before name h = h
declared-before (d ∷ ds) before name h = (if-false (bytes_eq d.name name) (is_declared before name) (declared-before ds (d ∷ before) name h)).1

abbrev pub Finds : List VFunction → List Declared → List VItem → Type 0
Finds all before is = (name : Name) → is_declared before name ≡ false → find all name ≡ find (functions is) name

found-here : (all : List VFunction) (f : VFunction) (before : List Declared) (is : List VItem) (name : Name) → Finds all before (I.Function f ∷ is) → is_declared before f.name ≡ false → bytes_eq f.name name ≡ true → find all name ≡ Some f
found-here all f before is name finds fresh same =
    let e : f.name ≡ name = (bytes_eq-Decides f.name name).0 same in
    finds name (ap (is_declared before) (sym e) ∙ fresh) ∙ ap (λ b. cond b (Some f) (find (functions is) name)) same

finds-behind : (all : List VFunction) (f : VFunction) (d : Declared) (before : List Declared) (is : List VItem) → d.name ≡ f.name → Finds all before (I.Function f ∷ is) → Finds all (d ∷ before) is
finds-behind all f d before is named finds name fresh =
    let h = if-false (bytes_eq d.name name) (is_declared before name) fresh in
    finds name h.1 ∙ ap (λ b. cond b (Some f) (find (functions is) name)) (ap (λ (k : Name). bytes_eq k name) (sym named) ∙ h.0)

-- the functions
function-kept : (around : Around) (sc : M.Scope) (links : List R.Link) (f : VFunction) (at : ℕ) → Agrees around sc → ((name : Name) → bytes_eq f.name name ≡ true → IsFunction (bits_of f.range) (input_bits f) (sc.callee name)) → few_of_stmt f.body ≡ true
    → function_broken around.scope links f at ≡ [] → stmt_most f.body (scope_in f sc) ≤ 128
function-kept around sc links f at agree own fits none =
    let leads_back : Name → Bool = λ g. leads (length links) links g f.name in
    let names = function_names f at in
    let inner : Around = record { scope = D.inside names around.scope; leads_back = leads_back } in
    let from = at + (3 + (range_size f.range + (locals_size f.inputs + locals_size f.locals))) in
    (stmt-good f.body).1 fits inner (scope_in f sc) in_function from (function-agrees f at around leads_back sc agree own) (right-none (repeated [] names) ((rules_of_stmt f.body).broken in_function inner from) none)

functions-kept : (ms : List VModule) (m : VModule) (around : Around) (sc : M.Scope) (all : List VFunction) (is : List VItem) (at : ℕ) (before : List Declared) → Agrees around sc
    → ((name : Name) (f : VFunction) → find all name ≡ Some f → IsFunction (bits_of f.range) (input_bits f) (sc.callee name)) → Finds all before is → repeated before (declared_in is at) ≡ [] → list_all few_of_item is ≡ true
    → items_broken ms m around is at ≡ [] → functions_most is sc ≤ 128
functions-kept ms m around sc all [] at before agree calls finds once fits none = omega arith
functions-kept ms m around sc all (I.Signal s ∷ is) at before agree calls finds once fits none =
    functions-kept ms m around sc all is (at + item_size (I.Signal s)) (added (declared_by (I.Signal s) at) before) agree calls (λ name fresh. finds name (declared-before (declared_by (I.Signal s) at) before name fresh))
    (repeated-behind (declared_by (I.Signal s) at) (declared_in is (at + item_size (I.Signal s))) before once) (both-yes (few_of_item (I.Signal s)) (list_all few_of_item is) fits).1
    (right-none (item_broken ms m around (I.Signal s) at) (items_broken ms m around is (at + item_size (I.Signal s))) none)
functions-kept ms m around sc all (I.Initial s ∷ is) at before agree calls finds once fits none =
    functions-kept ms m around sc all is (at + item_size (I.Initial s)) before agree calls finds once (both-yes (few_of_item (I.Initial s)) (list_all few_of_item is) fits).1
    (right-none (item_broken ms m around (I.Initial s) at) (items_broken ms m around is (at + item_size (I.Initial s))) none)
functions-kept ms m around sc all (I.Process p ∷ is) at before agree calls finds once fits none =
    functions-kept ms m around sc all is (at + item_size (I.Process p)) (added (declared_by (I.Process p) at) before) agree calls (λ name fresh. finds name (declared-before (declared_by (I.Process p) at) before name fresh))
    (repeated-behind (declared_by (I.Process p) at) (declared_in is (at + item_size (I.Process p))) before once) (both-yes (few_of_item (I.Process p)) (list_all few_of_item is) fits).1
    (right-none (item_broken ms m around (I.Process p) at) (items_broken ms m around is (at + item_size (I.Process p))) none)
functions-kept ms m around sc all (I.Function f ∷ is) at before agree calls finds once fits none =
    let d : Declared = record { name = f.name; token = function_token f at; thing = function (bits_of f.range) (input_bits f) } in
    let rest = declared_in is (at + item_size (I.Function f)) in
    let fresh = if-none (is_declared before f.name) d.token (repeated (d ∷ before) rest) (repeated (d ∷ before) rest) once in
    let item = both-yes (few_of_item (I.Function f)) (list_all few_of_item is) fits in
    let own = function-kept around sc (function_links around.scope m.items) f at agree (λ name same. calls name f (found-here all f before is name finds fresh.0 same)) item.0
    (left-none (item_broken ms m around (I.Function f) at) (items_broken ms m around is (at + item_size (I.Function f))) none) in
    let others = functions-kept ms m around sc all is (at + item_size (I.Function f)) (d ∷ before) agree calls (finds-behind all f d before is refl finds) fresh.1 item.1
    (right-none (item_broken ms m around (I.Function f) at) (items_broken ms m around is (at + item_size (I.Function f))) none) in
    omega (arith, own, others)
functions-kept ms m around sc all (I.Instance s ∷ is) at before agree calls finds once fits none =
    functions-kept ms m around sc all is (at + item_size (I.Instance s)) (added (declared_by (I.Instance s) at) before) agree calls (λ name fresh. finds name (declared-before (declared_by (I.Instance s) at) before name fresh))
    (repeated-behind (declared_by (I.Instance s) at) (declared_in is (at + item_size (I.Instance s))) before once) (both-yes (few_of_item (I.Instance s)) (list_all few_of_item is) fits).1
    (right-none (item_broken ms m around (I.Instance s) at) (items_broken ms m around is (at + item_size (I.Instance s))) none)

-- the processes
assign-narrow : (around : Around) (sc : M.Scope) (to : VLval) (x : VExpr) (at : ℕ) → Agrees around sc → few_of_lval to ≡ true → few_of_expr x ≡ true → process_broken around (Assign to x) at ≡ []
    → (target_most to sc ≤ 128) × (most_given ((target to).width sc) (limits x) sc ≤ 128)
assign-narrow around sc to x at agree fits good none =
    let t = target_of to in
    let r = rules_of x in
    let first = t.broken around (suc at) in
    let second = t.by_assign around (suc at) in
    let third = r.broken around (max (t.width around) (r.width around)) (at + (2 + t.size)) in
    let a = target-kept around sc agree to fits (suc at) (left-none first (second ++ third) none) in
    let b = expr-kept around sc agree x good (max (t.width around) (r.width around)) (at + (2 + t.size)) (right-none second third (right-none first (second ++ third) none)) in
    let same : max ((target to).width sc) ((limits x).wide sc) ≡ max (t.width around) (r.width around) = ap (λ n. max n ((limits x).wide sc)) a.0 ∙ ap (max (t.width around)) b.0 in
    (a.1, subst (λ n. (limits x).most n sc ≤ 128) (sym same) b.1)

always-narrow : (around : Around) (sc : M.Scope) (on : VSensitivity) (body : VBranch) (at : ℕ) → Agrees around sc → few_of_branch body ≡ true → process_broken around (Always on body) at ≡ [] → branch_most body sc ≤ 128
always-narrow around sc Star body at agree fits none =
    (branch-good body).1 fits around sc at_star (at + 3) agree none
always-narrow around sc (Edges es) body at agree fits none =
    let from = at + (2 + event_size (Edges es)) in
    (branch-good body).1 fits around sc at_edges from agree
    (right-none (edges_broken around.scope es (at + 4)) ((rules_of_branch body).broken at_edges around from) none)

named-here : (b : Bool) (m k : VModule) (o : Option VModule) (is : List VItem) → (if b then Some m else o) ≡ Some k → (o ≡ Some k → is ≡ k.items) → cond b m.items is ≡ k.items
named-here true m k o is e h = let same : m ≡ k = cc in ap (λ (x : VModule). x.items) same
named-here false m k o is e h = h e

items-named : (ms : List VModule) (name : Name) (k : VModule) → module_named ms name ≡ Some k → P.items_of ms name ≡ k.items
items-named [] name k e = absurd (cc)
items-named (m ∷ ms) name k e = named-here (bytes_eq m.name name) m k (module_named ms name) (P.items_of ms name) e (items-named ms name k)

child-narrow : (ms : List VModule) (around : Around) (sc : M.Scope) (i : VInstance) (o : Option VModule) (at : ℕ) → Agrees around sc → list_all few_of_connection i.connections ≡ true → module_named ms i.of ≡ o → child_broken around o i at ≡ []
    → LinksNarrow sc (P.items_of ms i.of) i.connections
child-narrow ms around sc i None at agree fits is none = absurd (cc)
child-narrow ms around sc i (Some k) at agree fits is none =
    subst (λ js. LinksNarrow sc js i.connections) (sym (items-named ms i.of k is)) (links-narrow around sc k.items [] i.connections (at + 3) agree fits none)

item-narrow : (ms : List VModule) (m : VModule) (around : Around) (sc : M.Scope) (i : VItem) (at : ℕ) → Agrees around sc → few_of_item i ≡ true → item_broken ms m around i at ≡ [] → ItemNarrow ms sc i
item-narrow ms m around sc (I.Signal s) at agree fits none = tt
item-narrow ms m around sc (I.Initial s) at agree fits none = tt
item-narrow ms m around sc (I.Process (Assign to x)) at agree fits none =
    let b = both-yes (few_of_lval to) (few_of_expr x) fits in assign-narrow around sc to x at agree b.0 b.1 none
item-narrow ms m around sc (I.Process (Always on body)) at agree fits none = always-narrow around sc on body at agree fits none
item-narrow ms m around sc (I.Function f) at agree fits none = tt
item-narrow ms m around sc (I.Instance s) at agree fits none =
    child-narrow ms around sc s (module_named ms s.of) at agree fits refl (right-none (only_if (leads (length ms) (module_links ms) s.of m.name) at) (child_broken around (module_named ms s.of) s at) none)

items-narrow : (ms : List VModule) (m : VModule) (around : Around) (sc : M.Scope) (is : List VItem) (at : ℕ) → Agrees around sc → list_all few_of_item is ≡ true → items_broken ms m around is at ≡ [] → ItemsNarrow ms sc is
items-narrow ms m around sc [] at agree fits none = tt
items-narrow ms m around sc (i ∷ is) at agree fits none =
    let b = both-yes (few_of_item i) (list_all few_of_item is) fits in (
      item-narrow ms m around sc i at agree b.0 (left-none (item_broken ms m around i at) (items_broken ms m around is (at + item_size i)) none),
      items-narrow ms m around sc is (at + item_size i) agree b.1 (right-none (item_broken ms m around i at) (items_broken ms m around is (at + item_size i)) none),
    )

-- a module
module-parts : (ms : List VModule) (m : VModule) (at : ℕ) → module_broken ms m at ≡ []
    → (repeated [] (declared_in m.items (at + (3 + ports_size m.ports))) ≡ [])
    × (items_broken ms m (record { scope = D.inside (declared_in m.items (at + (3 + ports_size m.ports))) D.nowhere; leads_back = λ f. false }) m.items (at + (3 + ports_size m.ports)) ≡ [])
module-parts ms m at none =
    let first = at + (3 + ports_size m.ports) in
    let own = declared_in m.items first in
    let ports = ports_of m.items first in
    let list = listed_ports m.ports (at + 3) in
    let around : Around = record { scope = D.inside own D.nowhere; leads_back = λ f. false } in
    let last = repeated [] own ++ items_broken ms m around m.items first in
    let third = unlisted m.ports ports in
    let second = undeclared ports list in
    let rest = right-none third last (right-none second (third ++ last) (right-none (repeated [] list) (second ++ (third ++ last)) none)) in
    (left-none (repeated [] own) (items_broken ms m around m.items first) rest, right-none (repeated [] own) (items_broken ms m around m.items first) rest)

-- The functions and processes of a module that breaks no rule, with at most two selects behind each name.
pub module-narrow : (ms : List VModule) (m : VModule) (at n d : ℕ) → list_all few_of_item m.items ≡ true → module_broken ms m at ≡ [] → ModuleNarrow ms n d m.items
module-narrow ms m at n d fits none =
    let first = at + (3 + ports_size m.ports) in
    let around : Around = record { scope = D.inside (declared_in m.items first) D.nowhere; leads_back = λ f. false } in
    let sc = scope_at n d m.items in
    let kept = module-parts ms m at none in
    let agree = module-agrees m.items first n d (λ f. false) in
    record {
      functions = functions-kept ms m around sc (functions m.items) m.items first [] agree (λ name f is. found-function d (numbered n (signals m.items)) (functions m.items) name f is) (λ name fresh. refl) kept.0 fits kept.1;
      processes = items-narrow ms m around sc m.items first agree fits kept.1;
    }

none-narrow : (ms : List VModule) (n d : ℕ) → ModuleNarrow ms n d []
none-narrow ms n d = record { functions = omega arith; processes = tt }

narrow-if : (ms : List VModule) (b : Bool) (n d : ℕ) (is js : List VItem) → ModuleNarrow ms n d is → ModuleNarrow ms n d js → ModuleNarrow ms n d (cond b is js)
narrow-if ms true n d is js h g = h
narrow-if ms false n d is js h g = g

modules-narrow : (all ms : List VModule) (at n d : ℕ) (name : Name) → list_all few_of_module ms ≡ true → modules_broken all ms at ≡ [] → ModuleNarrow all n d (P.items_of ms name)
modules-narrow all [] at n d name fits none = none-narrow all n d
modules-narrow all (m ∷ ms) at n d name fits none =
    let b = both-yes (few_of_module m) (list_all few_of_module ms) fits in
    narrow-if all (bytes_eq m.name name) n d m.items (P.items_of ms name) (module-narrow all m at n d b.0 (left-none (module_broken all m at) (modules_broken all ms (at + module_size m)) none))
    (modules-narrow all ms (at + module_size m) n d name b.1 (right-none (module_broken all m at) (modules_broken all ms (at + module_size m)) none))

-- The modules of a design that keeps the rules, with at most two selects behind each name, in any instance and however deep calls go.
pub design-narrow : (e : VDesign) (n d : ℕ) (name : Name) → few_of_design e ≡ true → Keeps e → ModuleNarrow e.modules n d (P.items_of e.modules name)
design-narrow e n d name fits keeps = modules-narrow e.modules e.modules 0 n d name fits (right-none (repeated [] (module_names e.modules 0)) (modules_broken e.modules e.modules 0) keeps)

-- The modules of a design that a text reads as.
pub read-narrow : (bytes : List ℕ) (e : VDesign) (n d : ℕ) (name : Name) → VReads bytes e → ModuleNarrow e.modules n d (P.items_of e.modules name)
read-narrow bytes e n d name h = design-narrow e n d name (spelled-few bytes e h.spells) h.keeps

-- functions where signals are looked up in a table
pub scope-is : (first d : ℕ) (m : Module) → signals_in first m ≡ numbered first (signals m.items.now) → N.scope_in first d m ≡ scope_at first d m.items.now
scope-is first d m is =
    ap (λ (ns : List M.Named). record { names = ns; next = 0; callee = callees_within d ns (functions m.items.now) }) is

pub functions-narrow : (ms : List VModule) (first : ℕ) (m : Module) → signals_in first m ≡ numbered first (signals m.items.now) → ((d : ℕ) → ModuleNarrow ms first d m.items.now) → FunctionsNarrow first m
functions-narrow ms first m is narrow d = subst (λ (sc : M.Scope). functions_most m.items.now sc ≤ 128) (sym (scope-is first d m is)) (narrow d).functions
