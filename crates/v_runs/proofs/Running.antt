-- The processes of a design that keeps the rules can be run.
use Rattle.std.proofs.Common.{◌≡◌, ℕ, zero, suc, ◌≤◌, List, [], ◌∷◌, length, map, slice_get, Option, Some, None, refl, sym, subst, arith}
use Rattle.v_tree.specs.declared.items.VItem.{VItem}
use Rattle.v_tree.specs.declared.items.VModule.{VModule}
use Rattle.v_tree.proofs.Induction.{Each}
use Rattle.v_meaning.specs.Machine.{size}
use Rattle.v_meaning.specs.Modules.{parts, scope_of}
use Rattle.v_run.specs.Limits.{target_most}
use Rattle.v_exec.specs.Inside.{NamesFit}
use Rattle.v_exec.specs.Keeping.{ModuleNarrow}
use Rattle.v_exec.proofs.KeptModules.{design-narrow, functions-narrow}
use Rattle.v_modules.specs.declared.table.Table.{Table}
use Rattle.v_modules.specs.Tables.{items_of, items_in}
use Rattle.v_processes.specs.declared.process.Does.{Does}
use Rattle.v_processes.specs.declared.process.Does.TheVariants as D
use Rattle.v_processes.specs.declared.process.Proc.{Proc}
use Rattle.v_processes.specs.Processes.{items_at}
use Rattle.v_processes.specs.Stems.{stem_of, source_at}
use Rattle.v_processes.proofs.Entering.{table-items, no-table}
use Rattle.v_steps.specs.Steps.{DoesNarrow, DoesFit}
use Rattle.v_steps.proofs.Standing.{names-fit, append-none}
use Rattle.v_runs.specs.Runnable.{Runnable, Tabled, ProcessesRun}
use Rattle.v_runs.proofs.Decimal.{target-none}
use Rattle.v_runs.proofs.Depth.{never-deeper}
use Rattle.v_runs.proofs.Rooted.{StemCan, Can, sources-can}

-- lists
each-get : {A : Type 0} (P : A → Type 0) (xs : List A) (k : ℕ) (x : A) → Each P xs → slice_get xs k ≡ Some x → P x
each-get P [] k x h there = absurd (cc)
each-get P (y ∷ xs) zero x h there = subst P (let e : y ≡ x = cc in e) h.0
each-get P (y ∷ xs) (suc k) x h there = each-get P xs k x h.1 there

each-map-get : {A B : Type 0} (P : B → Type 0) (f : A → B) (xs : List A) (k : ℕ) (x : A) → Each P (map f xs) → slice_get xs k ≡ Some x → P (f x)
each-map-get P f [] k x h there = absurd (cc)
each-map-get P f (y ∷ xs) zero x h there = subst (λ z. P (f z)) (let e : y ≡ x = cc in e) h.0
each-map-get P f (y ∷ xs) (suc k) x h there = each-map-get P f xs k x h.1 there

-- a process by the text that it stems from
few-bits : (n : ℕ) → n ≡ 0 → n ≤ 128
few-bits n e = omega (arith, e)

does-narrow : (d : Does) (is : List VItem) (ws : List ℕ) (n : ℕ) → StemCan is ws (stem_of d) → DoesNarrow d (scope_of n is)
does-narrow (D.Assign to value) is ws n h = h n
does-narrow (D.Star body) is ws n h = h n
does-narrow (D.Edges edges body) is ws n h = h n
does-narrow (D.Into port value) is ws n h = h.0 n
does-narrow (D.From to port) is ws n h = few-bits (target_most to (scope_of n is)) (target-none to h (scope_of n is))

does-fit : (d : Does) (is : List VItem) (ws : List ℕ) (n : ℕ) → StemCan is ws (stem_of d) → NamesFit ws (scope_of n is).names → DoesFit d (scope_of n is).names ws
does-fit (D.Assign to value) is ws n h fit = fit
does-fit (D.Star body) is ws n h fit = fit
does-fit (D.Edges edges body) is ws n h fit = fit
does-fit (D.Into port value) is ws n h fit = h.1
does-fit (D.From to port) is ws n h fit = fit

runs : (ms : List VModule) (ws : List ℕ) (t : Table) (p : Proc) → items_of t ≡ items_at ms p.of → Can ms ws (source_at ms p) → NamesFit ws (scope_of p.first (items_at ms p.of)).names → Runnable ws t p
runs ms ws t p same can fit = record {
  functions = functions-narrow ms p.first t.names (t.named p.first) (λ d. subst (ModuleNarrow ms p.first d) (sym same) (can.modules p.first d));
  narrow = subst (λ is. DoesNarrow p.does (scope_of p.first is)) (sym same) (does-narrow p.does (items_at ms p.of) ws p.first can.stem);
  fits = subst (λ is. DoesFit p.does (scope_of p.first is).names ws) (sym same) (does-fit p.does (items_at ms p.of) ws p.first can.stem fit);
}

tabled : (ms : List VModule) (ws : List ℕ) (ts : List Table) (p : Proc) (o : Option Table) → map items_of ts ≡ map items_in ms → slice_get ts p.of ≡ o → Can ms ws (source_at ms p) → NamesFit ws (scope_of p.first (items_at ms p.of)).names
    → Tabled ws ts p
tabled ms ws ts p None all is can fit = absurd (can.there (no-table ts ms p.of all is))
tabled ms ws ts p (Some t) all is can fit = record { table = t; there = is; runs = runs ms ws t p (table-items ts ms p.of t all is) can fit }

pub processes-run : ProcessesRun
processes-run e top f ts keeps fits few has all k p there =
    let ms = e.modules in
    let signals = (parts ms top).signals in
    let ws = map size signals in
    let can = sources-can (length ms) ms signals (λ name n d. design-narrow e n d name few keeps) 0 top [] (never-deeper e top keeps fits.present) (append-none signals) in
    tabled ms ws ts p (slice_get ts p.of) all refl (each-map-get (Can ms ws) (source_at ms) f.procs k p (subst (Each (Can ms ws)) (sym has.sources) can) there)
    (each-get (λ (q : Proc). NamesFit ws (scope_of q.first (items_at ms q.of)).names) f.procs k p (names-fit ms top f.procs has.processes) there)

pub ruleset running = (processes-run)
