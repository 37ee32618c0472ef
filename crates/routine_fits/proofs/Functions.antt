-- Functions whose bodies are sound can be run.
use Rattle.std.proofs.Common.{ℕ, List, [], ◌∷◌, ◌++◌, arith}
use Rattle.sv_types.specs.declared.statement.Formal.{Formal}
use Rattle.sv_types.specs.declared.statement.Function.{Function}
use Rattle.sv_types.specs.declared.statement.Stmt.{Stmt}
use Rattle.sv_types.specs.Surroundings.{Parameter}
use Rattle.eval_parts.specs.Targets.{AllNarrow}
use Rattle.run_fits.specs.EvalForms.{formals_in}
use Rattle.run_fits.specs.EvalRuns.{EachCanRun, AllCanRun}
use Rattle.typing_fits.specs.Sound.{Knows, Extends, IsNarrowType}
use Rattle.typing_fits.specs.Operands.{AllFormalsFull}
use Rattle.typing_fits.proofs.Given.{knows-itself, knows-fewer, extends-more}
use Rattle.routine_fits.specs.Sound.{SoundStmt, SoundFunction, EachSound, AllSoundFunctions, WritesNoSignal, AllFormalsNarrow}

formals : (fs : List Formal) → AllFormalsNarrow fs → AllNarrow fs
formals [] n = tt
formals (f ∷ fs) n = (omega (arith, n.0), formals fs n.1)

pub function-sound : (f : Function) (gs : List Function) → AllFormalsNarrow f.formals → AllFormalsFull f.formals → IsNarrowType f.of → SoundStmt f.body gs → WritesNoSignal f gs → SoundFunction f gs
function-sound f gs narrow full of s w = record {
  result = of;
  formals = full;
  runs = λ fs k. record {
    types = record { formals = formals f.formals narrow; result = omega (arith, of.narrow) };
    body = let b = s.fits fs k in record { keeps = b.keeps; places = b.places; held = w.locals fs k };
  };
}

-- where more functions are known
pub statement-later : (s : Stmt) (gs hs : List Function) → Extends gs hs → SoundStmt s gs → SoundStmt s hs
statement-later s gs hs e x = record { fits = λ fs k. x.fits fs (knows-fewer gs hs fs e k) }

pub function-later : (f : Function) (gs hs : List Function) → Extends gs hs → SoundFunction f gs → SoundFunction f hs
function-later f gs hs e x = record { result = x.result; formals = x.formals; runs = λ fs k. x.runs fs (knows-fewer gs hs fs e k) }

each-later : (fs gs hs : List Function) → Extends gs hs → EachSound fs gs → EachSound fs hs
each-later [] gs hs e s = tt
each-later (f ∷ fs) gs hs e s = (function-later f gs hs e s.0, each-later fs gs hs e s.1)

each-append : (fs es gs : List Function) → EachSound fs gs → EachSound es gs → EachSound (fs ++ es) gs
each-append [] es gs s t = t
each-append (f ∷ fs) es gs s t = (s.0, each-append fs es gs s.1 t)

-- one function more, behind those that it needs
pub one-more : (gs : List Function) (f : Function) → AllSoundFunctions gs → SoundFunction f gs → AllSoundFunctions (gs ++ f ∷ [])
one-more gs f s x =
    let hs = gs ++ f ∷ [] in
    let e = extends-more gs (f ∷ []) in
    each-append gs (f ∷ []) hs (each-later gs gs hs e s) (function-later f gs hs e x, tt)

-- so they can be run
each-runs : (fs gs : List Function) (ps : ℕ → List Parameter) → Knows gs ps → EachSound fs gs → EachCanRun fs ps
each-runs [] gs ps k s = tt
each-runs (f ∷ fs) gs ps k s = (s.0.runs ps k, each-runs fs gs ps k s.1)

pub all-run : (gs : List Function) → AllSoundFunctions gs → AllCanRun gs
all-run gs s = each-runs gs gs (formals_in gs) (knows-itself gs) s
