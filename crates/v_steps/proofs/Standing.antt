-- The names in an instance of a design stand for no more bits than its signals have.
use Rattle.std.proofs.Common.{◌≡◌, ℕ, zero, suc, ◌+◌, ◌≤◌, List, [], ◌∷◌, ◌++◌, append_assoc, length, drop, map, get_or, Option, Some, None, refl, arith, ap, sym, ◌∙◌, subst}
use Rattle.v_tree.specs.Names.{Name}
use Rattle.v_tree.specs.declared.expressions.VExpr.{VExpr}
use Rattle.v_tree.specs.declared.items.VConnection.{VConnection}
use Rattle.v_tree.specs.declared.items.VItem.{VItem}
use Rattle.v_tree.specs.declared.items.VItem.TheVariants as I
use Rattle.v_tree.specs.declared.items.VModule.{VModule}
use Rattle.v_tree.specs.declared.items.VProcess.{VProcess}
use Rattle.v_tree.specs.declared.items.VProcess.TheVariants.{Assign, Always}
use Rattle.v_tree.specs.declared.items.VSensitivity.TheVariants.{Star, Edges}
use Rattle.v_tree.proofs.Induction.{Each}
use Rattle.v_meaning.specs.Scopes.{Named, Scope, named}
use Rattle.v_meaning.specs.Statements.{Target}
use Rattle.v_meaning.specs.Machine.{size}
use Rattle.v_meaning.specs.Modules.{Signal, Kind, input_net, net, variable, Process, Parts, Child, signals, items_of, numbered, scope_of, children, signal_count, kind_of, connect, connections, from_output, as_target, process_of, processes, joined_parts, parts_from, parts}
use Rattle.v_instances.proofs.Counting.{signals-are, count-is}
use Rattle.v_exec.specs.Inside.{NamesFit}
use Rattle.v_processes.specs.declared.process.Does.{Does}
use Rattle.v_processes.specs.declared.process.Does.TheVariants as D
use Rattle.v_processes.specs.declared.process.Proc.{Proc}
use Rattle.v_processes.specs.Processes.{does_in, items_at, processes_at}

-- signals that stand from a number on
size-at : (all : List Signal) (n : ℕ) (s : Signal) (rest : List Signal) → drop n all ≡ s ∷ rest → size s ≤ get_or (map size all) n 0
size-at [] zero s rest is = absurd (cc)
size-at [] (suc n) s rest is = absurd (cc)
size-at (a ∷ all) zero s rest is =
    let same : a ≡ s = cc in
    let e : size a ≡ size s = ap size same in
    omega (arith, e)
size-at (a ∷ all) (suc n) s rest is = size-at all n s rest is

drop-more : (all : List Signal) (n : ℕ) (s : Signal) (rest : List Signal) → drop n all ≡ s ∷ rest → drop (suc n) all ≡ rest
drop-more [] zero s rest is = absurd (cc)
drop-more [] (suc n) s rest is = absurd (cc)
drop-more (a ∷ all) zero s rest is = cc
drop-more (a ∷ all) (suc n) s rest is = drop-more all n s rest is

pub drop-behind : (all : List Signal) (n : ℕ) (xs ys : List Signal) → drop n all ≡ xs ++ ys → drop (n + length xs) all ≡ ys
drop-behind all n [] ys is = ap (λ k. drop k all) (let e : n + 0 ≡ n = omega arith in e) ∙ is
drop-behind all n (x ∷ xs) ys is =
    ap (λ k. drop k all) (let e : n + suc (length xs) ≡ suc n + length xs = omega arith in e) ∙ drop-behind all (suc n) xs ys (drop-more all n x (xs ++ ys) is)

pub fit-at : (all : List Signal) (n : ℕ) (ss rest : List Signal) → drop n all ≡ ss ++ rest → NamesFit (map size all) (numbered n ss)
fit-at all n [] rest is = tt
fit-at all n (s ∷ ss) rest is = ((λ there. size-at all n s (ss ++ rest) is), fit-at all (suc n) ss rest (drop-more all n s (ss ++ rest) is))

-- the processes of an instance
abbrev pub Fits : List ℕ → Process → Type 0
Fits ws p = NamesFit ws p.scope.names

pub each-both : {A : Type 0} (P : A → Type 0) (xs ys : List A) → Each P xs → Each P ys → Each P (xs ++ ys)
each-both P [] ys h g = g
each-both P (x ∷ xs) ys h g = (h.0, each-both P xs ys h.1 g)

process-fits : (ws : List ℕ) (sc : Scope) (p : VProcess) → NamesFit ws sc.names → Fits ws (process_of sc p)
process-fits ws sc (Assign to value) fit = fit
process-fits ws sc (Always Star body) fit = fit
process-fits ws sc (Always (Edges es) body) fit = fit

output-fits : (ws : List ℕ) (sc : Scope) (port : Named) (to : Option Target) → NamesFit ws sc.names → Each (Fits ws) (from_output sc port to)
output-fits ws sc port None fit = tt
output-fits ws sc port (Some to) fit = (fit, tt)

connect-fits : (ws : List ℕ) (sc : Scope) (kind : Kind) (port : Named) (e : VExpr) → NamesFit ws sc.names → Each (Fits ws) (connect sc kind port e)
connect-fits ws sc input_net port e fit = (fit, tt)
connect-fits ws sc net port e fit = output-fits ws sc port (as_target e) fit
connect-fits ws sc variable port e fit = output-fits ws sc port (as_target e) fit

value-fits : (ws : List ℕ) (sc : Scope) (kind : Kind) (port : Named) (o : Option VExpr) → NamesFit ws sc.names → Each (Fits ws) (elim o [ None ↦ [] | Some e ↦ connect sc kind port e ])
value-fits ws sc kind port None fit = tt
value-fits ws sc kind port (Some e) fit = connect-fits ws sc kind port e fit

connections-fit : (ws : List ℕ) (sc : Scope) (n : ℕ) (ports : List Signal) (cs : List VConnection) → NamesFit ws sc.names → Each (Fits ws) (connections sc n ports cs)
connections-fit ws sc n ports [] fit = tt
connections-fit ws sc n ports (c ∷ cs) fit =
    each-both (Fits ws) _ (connections sc n ports cs) (value-fits ws sc (kind_of ports c.port) (named (numbered n ports) c.port) c.value fit) (connections-fit ws sc n ports cs fit)

own-fit : (ws : List ℕ) (ms : List VModule) (count : Name → ℕ) (sc : Scope) (n : ℕ) (is : List VItem) → NamesFit ws sc.names → Each (Fits ws) (processes ms count sc n is)
own-fit ws ms count sc n [] fit = tt
own-fit ws ms count sc n (I.Signal s ∷ is) fit = own-fit ws ms count sc n is fit
own-fit ws ms count sc n (I.Initial i ∷ is) fit = own-fit ws ms count sc n is fit
own-fit ws ms count sc n (I.Process p ∷ is) fit = (process-fits ws sc p fit, own-fit ws ms count sc n is fit)
own-fit ws ms count sc n (I.Function f ∷ is) fit = own-fit ws ms count sc n is fit
own-fit ws ms count sc n (I.Instance i ∷ is) fit =
    each-both (Fits ws) (connections sc n (signals (items_of ms i.of)) i.connections) (processes ms count sc (n + count i.of) is) (connections-fit ws sc n (signals (items_of ms i.of)) i.connections fit)
    (own-fit ws ms count sc (n + count i.of) is fit)

-- those of the children
children-fit : (f : ℕ → Name → Parts) (count : Name → ℕ) (all : List Signal) → ((n : ℕ) (name : Name) → length (f n name).signals ≡ count name)
    → ((n : ℕ) (name : Name) (rest : List Signal) → drop n all ≡ (f n name).signals ++ rest → Each (Fits (map size all)) (f n name).processes) → (n : ℕ) (is : List VItem) (rest : List Signal)
    → drop n all ≡ (joined_parts (map (λ (c : Child). f c.first c.of) (children count n is))).signals ++ rest → Each (Fits (map size all)) (joined_parts (map (λ (c : Child). f c.first c.of) (children count n is))).processes
children-fit f count all long fits n [] rest is = tt
children-fit f count all long fits n (I.Signal s ∷ xs) rest is = children-fit f count all long fits n xs rest is
children-fit f count all long fits n (I.Initial i ∷ xs) rest is = children-fit f count all long fits n xs rest is
children-fit f count all long fits n (I.Process p ∷ xs) rest is = children-fit f count all long fits n xs rest is
children-fit f count all long fits n (I.Function x ∷ xs) rest is = children-fit f count all long fits n xs rest is
children-fit f count all long fits n (I.Instance i ∷ xs) rest is =
    let p = f n i.of in
    let q = joined_parts (map (λ (c : Child). f c.first c.of) (children count (n + count i.of) xs)) in
    let here : drop n all ≡ p.signals ++ (q.signals ++ rest) = is ∙ append_assoc p.signals q.signals rest in
    let next = ap (λ k. drop (n + k) all) (sym (long n i.of)) ∙ drop-behind all n p.signals (q.signals ++ rest) here in
    each-both (Fits (map size all)) p.processes q.processes (fits n i.of (q.signals ++ rest) here) (children-fit f count all long fits (n + count i.of) xs rest next)

parts-fit : (depth : ℕ) (ms : List VModule) (all : List Signal) (n : ℕ) (name : Name) (rest : List Signal) → drop n all ≡ (parts_from depth ms n name).signals ++ rest
    → Each (Fits (map size all)) (parts_from depth ms n name).processes
unfolding parts_from
parts-fit zero ms all n name rest is = tt
parts-fit (suc depth) ms all n name rest is =
    let items = items_of ms name in
    let own = signals items in
    let count = signal_count depth ms in
    let q = joined_parts (map (λ (c : Child). parts_from depth ms c.first c.of) (children count (n + length own) items)) in
    let here : drop n all ≡ own ++ (q.signals ++ rest) = is ∙ append_assoc own q.signals rest in
    each-both (Fits (map size all)) (processes ms count (scope_of n items) (n + length own) items) q.processes
    (own-fit (map size all) ms count (scope_of n items) (n + length own) items (fit-at all n own (q.signals ++ rest) here))
    (children-fit (parts_from depth ms) count all (λ m x. ap (λ (ss : List Signal). length ss) (signals-are depth ms m x) ∙ count-is depth ms x) (λ m x r. parts-fit depth ms all m x r) (n + length own) items rest
    (drop-behind all n own (q.signals ++ rest) here))

pub append-none : (xs : List Signal) → xs ≡ xs ++ []
append-none [] = refl
append-none (x ∷ xs) = ap (λ ys. x ∷ ys) (append-none xs)

does-scope : (d : Does) (sc : Scope) → (does_in d sc).scope ≡ sc
does-scope (D.Assign to value) sc = refl
does-scope (D.Star body) sc = refl
does-scope (D.Edges edges body) sc = refl
does-scope (D.Into port value) sc = refl
does-scope (D.From to port) sc = refl

-- The names where a process of a design stands fit the design's signals.
abbrev pub ProcsFit : List VModule → List ℕ → List Proc → Type 0
ProcsFit ms ws ps = Each (λ (p : Proc). NamesFit ws (scope_of p.first (items_at ms p.of)).names) ps

procs-fit : (ms : List VModule) (ws : List ℕ) (ps : List Proc) → Each (Fits ws) (processes_at ms ps) → ProcsFit ms ws ps
procs-fit ms ws [] h = tt
procs-fit ms ws (p ∷ ps) h = (subst (λ (sc : Scope). NamesFit ws sc.names) (does-scope p.does (scope_of p.first (items_at ms p.of))) h.0, procs-fit ms ws ps h.1)

pub names-fit : (ms : List VModule) (top : Name) (ps : List Proc) → processes_at ms ps ≡ (parts ms top).processes → ProcsFit ms (map size (parts ms top).signals) ps
names-fit ms top ps is =
    procs-fit ms (map size (parts ms top).signals) ps
    (subst (Each (Fits (map size (parts ms top).signals))) (sym is) (parts-fit (length ms) ms (parts ms top).signals 0 top [] (append-none (parts ms top).signals)))
