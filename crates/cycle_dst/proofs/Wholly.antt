-- A design that can be run has what is asked of its ground.
use Rattle.std.proofs.Common.{◌≡◌, ℕ, zero, suc, Bool, Bor, List, [], ◌∷◌, ◌++◌, take, map, length, refl, sym, ap, ◌∙◌, subst, arith}
use Rattle.std.proofs.lemmas.List.{length-map}
use Rattle.std.proofs.lemmas.Option.{slice_get_within}
use Rattle.b4_core.specs.declared.bit.Bit4.{Bit4}
use Rattle.round_runner.specs.Stores.{Holds, holding, widths}
use Rattle.v_tree.specs.declared.items.VModule.{VModule}
use Rattle.v_rules.specs.Tables.{Tables}
use Rattle.v_meaning.specs.Machine as V
use Rattle.v_meaning.specs.Machine.{machine, size}
use Rattle.v_meaning.specs.Modules.{signals, items_of, parts}
use Rattle.v_instances.specs.Slots.{signal_of}
use Rattle.v_modules.specs.Tables as T
use Rattle.v_modules.specs.declared.table.Table.{Table}
use Rattle.v_processes.specs.declared.process.Proc.{Proc}
use Rattle.v_processes.specs.Walks.{initials_of, IsTabled}
use Rattle.v_processes.specs.Processes.{processes_at}
use Rattle.v_runs.specs.Runnable as R
use Rattle.v_runs.proofs.Running.{processes-run}
use Rattle.v_stores.specs.Stores.{rooms, initially}
use Rattle.v_zero.specs.Zero.{InitialsFit, given_over, marked, started}
use Rattle.v_zero.proofs.Few.{few}
use Rattle.v_zero.proofs.Giving.{given-held}
use Rattle.v_zero.proofs.Ruled.{initial-held, initials-of-rules}
use Rattle.v_zero.proofs.Starting.{start-held}
use Rattle.cycle_dst.specs.declared.ground.Ground.{Ground}
use Rattle.cycle_dst.specs.declared.whole.Whole.{Whole}
use Rattle.cycle_dst.specs.Circuits.{Runnable, RunsIn}
use Rattle.cycle_dst.specs.Designs.{widths_of}
use Rattle.cycle_dst.specs.Grounds.{IsGround, own_of, widths_in, machine_in}
use Rattle.cycle_dst.specs.Wholes.{IsWhole, InitialIs}
use Rattle.cycle_dst.specs.Written.{MarksOf}

in-circuit : (ws : List ℕ) (t : Table) (p : Proc) → R.Runnable ws t p → RunsIn ws p t
in-circuit ws t p runs = record { functions = runs.functions; narrow = runs.narrow; fits = runs.fits }

runnable-by : (ws : List ℕ) (ts : List Table) (ps : List Proc) → R.AllRunnable ws ts ps → Runnable ws ts ps
runnable-by ws ts ps all = record {
  each = λ k p at.
      let one = all k p at in record {
        there = slice_get_within ts p.of one.table one.there;
        runs = λ t table.
            let same : one.table ≡ t = let known = one.there in cc in
            in-circuit ws t p (subst (λ (x : Table). R.Runnable ws x p) same one.runs);
      };
}

pub initial-is : (w : Whole) (vs : List (List Bit4)) → IsWhole w → Holds (rooms (map signal_of w.slots.now)) (initially (map signal_of w.slots.now)) vs → InitialIs w vs
initial-is w vs whole held = record {
  held = initial-held w.design.now w.top.now (length (signals (items_of w.design.now.modules w.top.now))) (map signal_of w.slots.now) vs whole.runs.keeps whole.slots held;
}

pub ruleset at_first = (initial-is)

pub initials-fit : (w : Whole) (vs : List (List Bit4)) → IsWhole w → InitialIs w vs → InitialsFit (widths vs) (initials_of w.found.now.initials)
initials-fit w vs whole initial =
    subst (λ ws. InitialsFit ws (initials_of w.found.now.initials)) (sym initial.held.shape)
    (subst (InitialsFit (widths_of w.design.now w.top.now)) (sym whole.walked.initials) (initials-of-rules w.design.now w.top.now whole.runs.keeps))

-- the ground of a design
pub ground-is : (w : Whole) (ps : Bor (List Proc)) (initial given : Bor (List (List Bit4))) (held : List (List Bit4)) → IsWhole w → InitialIs w initial.now → ps.now ≡ w.found.now.procs → given.now ≡ held
    → Holds (widths initial.now) (given_over (initials_of w.found.now.initials) (holding initial.now)) held
    → IsGround (record { design = w.design; top = w.top; numbers = w.modules.numbers; tables = w.modules.tables; procs = ps; slots = w.slots; initial = initial; given = given })
ground-is w ps initial given held whole is_initial procs is_given is_held =
    let e = w.design.now in
    let top = w.top.now in
    let d = parts e.modules top in
    let own = length (signals (items_of e.modules top)) in
    let tabled = whole.tabled.tables ∙ ap (map T.items_in) whole.modules in
    let all = processes-run e top w.found.now w.modules.tables.now whole.runs.keeps whole.runs.fits whole.runs.few whole.walked tabled in
    let many = few e top whole.runs.fits in
    let long = length-map d.signals size in
    record {
      keeps = whole.runs.keeps;
      numbers = subst (Tables w.modules.numbers.now) whole.modules whole.tabled.numbers;
      tables = tabled;
      processes = ap (processes_at e.modules) procs ∙ whole.walked.processes;
      runnable = subst (Runnable (widths_of e top) w.modules.tables.now) (sym procs) (runnable-by (widths_of e top) w.modules.tables.now w.found.now.procs all);
      slots = whole.slots;
      few = omega (arith, many, long);
      initial = is_initial.held;
      given = subst (Holds (widths_of e top) (V.given own d)) (sym is_given)
          (given-held own d initial.now held is_initial.held
          (subst (λ is. Holds (widths initial.now) (given_over is (holding initial.now)) held) whole.walked.initials is_held));
    }

-- stores of the same shape are as long
pub as-long : (vs us : List (List Bit4)) → widths vs ≡ widths us → length vs ≡ length us
as-long vs us same = sym (length-map vs (λ (v : List Bit4). length v)) ∙ ap length same ∙ length-map us (λ (v : List Bit4). length v)

-- the front of a list
pub front-kept : {A : Type 0} (n : ℕ) (xs ys : List A) → length xs ≡ n → take n (xs ++ ys) ≡ xs
front-kept zero [] ys e = refl
front-kept zero (x ∷ xs) ys e = absurd (omega (arith, e))
front-kept (suc n) [] ys e = absurd (omega (arith, e))
front-kept (suc n) (x ∷ xs) ys e = ap (λ l. x ∷ l) (front-kept n xs ys (omega (arith, e)))

-- what signals hold until a run assigns them
pub start-fits : (g : Ground) (vs : List (List Bit4)) → IsGround g → vs ≡ g.given.now → widths vs ≡ map size (map signal_of g.slots.now)
start-fits g vs ground is = ap widths is ∙ ground.given.shape ∙ ap (map size) (sym ground.slots)

pub start-is : (g : Ground) (marks : List (List Bool)) (before after : List (List Bit4)) → IsGround g → MarksOf g marks → before ≡ g.given.now
    → Holds (widths before) (started (map signal_of g.slots.now) (marked marks) (holding before)) after → Holds (widths_in g) (machine_in g).start after
start-is g marks before after ground are is held =
    let d = parts g.design.now.modules g.top.now in
    start-held (own_of g) d marks g.given.now after are.value ground.given
    (subst (λ ss. Holds (widths g.given.now) (started ss (marked marks) (holding g.given.now)) after) ground.slots
    (subst (λ vs. Holds (widths vs) (started (map signal_of g.slots.now) (marked marks) (holding vs)) after) is held))

pub ruleset starting = (start-fits, start-is)

-- the modules by their numbers
pub tabled-by : (g : Ground) (ms : Bor (List VModule)) → IsGround g → ms.now ≡ g.design.now.modules → IsTabled (record { modules = ms; numbers = g.numbers; tables = g.tables })
tabled-by g ms ground is = record { numbers = subst (Tables g.numbers.now) (sym is) ground.numbers; tables = ground.tables ∙ ap (map T.items_in) (sym is) }

pub ruleset numbering = (tabled-by)
