-- Statements of what is sound.
use Rattle.std.proofs.Common.{◌≡◌, ℕ, ◌<◌, ◌≤◌, max, Bool, true, false, cond, List, [], ◌∷◌, length, map, Option, Some, None, refl, arith, sym, subst}
use Rattle.std.specs.Prelude.{slice_get}
use Rattle.sv_source.specs.declared.token.Spot.{Spot}
use Rattle.sv_types.specs.declared.expression.Expr.{Expr}
use Rattle.sv_types.specs.declared.statement.CaseItem.{CaseItem}
use Rattle.sv_types.specs.declared.statement.CaseKind.{CaseKind}
use Rattle.sv_types.specs.declared.statement.Formal.{Formal}
use Rattle.sv_types.specs.declared.statement.Function.{Function}
use Rattle.sv_types.specs.declared.statement.Local.{Local}
use Rattle.sv_types.specs.declared.statement.Stmt.{Stmt}
use Rattle.sv_types.specs.declared.statement.Stmt.TheVariants as V
use Rattle.sv_types.specs.Layouts.{width_of}
use Rattle.sv_types.specs.Surroundings.{Parameter, is_signal}
use Rattle.sv_types.specs.Meanings.{Meaning}
use Rattle.sv_types.specs.Operators.{width_of_all}
use Rattle.sv_types.specs.Runs.{widest_of}
use Rattle.sv_types.specs.Statements.{initial_of, marks_of, roots_by_way}
use Rattle.sv_types.specs.Expressions.{meaning}
use Rattle.sv_types.specs.Functions.{parameter, parameters}
use Rattle.eval_parts.specs.Limits.{Fits, AllFit}
use Rattle.eval_parts.proofs.TypeKinds.{wide-is}
use Rattle.run_fits.specs.EvalStmts.{AllHeld}
use Rattle.run_fits.specs.EvalStmts.{AllStmtsFit, PerhapsFits, AllItemsFit, AllLocalsFit, StartFits}
use Rattle.run_fits.specs.EvalStmts.{AllFitWide, ItemsFitWide, values_of, roots_of_all}
use Rattle.run_fits.specs.Statements.{AllPassed}
use Rattle.run_fits.proofs.Shapes as S
use Rattle.expr_type.specs.Names.{Called}
use Rattle.typing_fits.specs.Sound.{Knows, LimitedAt, SoundAlone, AllSoundAlone}
use Rattle.typing_fits.specs.Operands.{AllSoundFor}
use Rattle.typing_fits.proofs.Full.{full-bits}
use Rattle.typing_fits.proofs.Given.{alone-fits, for-fits}
use Rattle.typing_fits.proofs.Calls.{formal_types}
use Rattle.routine_fits.specs.Sound.{SoundStmt, AllSoundStmts, PerhapsSound, SoundStart, AllSoundLocals, SoundAssign, SoundBounds, AllLimitedAt, ItemsLimitedAt, SoundSelector, AllSoundBodies}

-- where each signal is held, all are
held-one : (b : Bool) → cond b true true ≡ true
held-one true = refl
held-one false = refl

pub all-held : (ns : List ℕ) → AllHeld ns (λ n. true)
all-held [] = tt
all-held (n ∷ ns) = (held-one (is_signal n), all-held ns)

-- what stands in statements
all-alone : (es : List Expr) (gs : List Function) (fs : ℕ → List Parameter) → Knows gs fs → AllSoundAlone es gs → AllFit es fs
all-alone [] gs fs k s = tt
all-alone (e ∷ es) gs fs k s = (alone-fits e gs fs s.0 k, all-alone es gs fs k s.1)

fits-at : (e : Expr) (w : ℕ) (gs : List Function) (fs : ℕ → List Parameter) → 0 < w → LimitedAt (meaning e) w gs → Knows gs fs → Fits (meaning e) fs w
fits-at e w gs fs some l k = record { some = some; typed = l.typed; narrow = omega (arith, l.narrow); arithmetic = l.arithmetic fs k; indexing = l.indexing }

stmts : (ss : List Stmt) (gs : List Function) (fs : ℕ → List Parameter) → Knows gs fs → AllSoundStmts ss gs → AllStmtsFit ss fs (λ n. true)
stmts [] gs fs k s = tt
stmts (x ∷ ss) gs fs k s = (s.0.fits fs k, stmts ss gs fs k s.1)

perhaps : (o : Option Stmt) (gs : List Function) (fs : ℕ → List Parameter) → Knows gs fs → PerhapsSound o gs → PerhapsFits o fs (λ n. true)
perhaps None gs fs k s = tt
perhaps (Some x) gs fs k s = s.fits fs k

-- blocks
start-as : (o : Option Expr) (marks : List Bool) (fs : ℕ → List Parameter) (l : Local) → l.initial ≡ o → StartFits (elim o as (λ x. Option Meaning) [ None ↦ None | Some e ↦ Some (meaning e) ]) marks fs → StartFits (initial_of l) marks fs
start-as o marks fs l is f = subst (λ x. StartFits (elim x as (λ y. Option Meaning) [ None ↦ None | Some e ↦ Some (meaning e) ]) marks fs) (sym is) f

start-fits : (o : Option Expr) (l : Local) (gs : List Function) (fs : ℕ → List Parameter) → Knows gs fs → SoundStart o l gs → StartFits (elim o as (λ x. Option Meaning) [ None ↦ None | Some e ↦ Some (meaning e) ]) (marks_of l) fs
start-fits None l gs fs k s = tt
start-fits (Some e) l gs fs k s = for-fits e l.of gs fs s k

locals : (ls : List Local) (gs : List Function) (fs : ℕ → List Parameter) → Knows gs fs → AllSoundLocals ls gs → AllLocalsFit ls fs
locals [] gs fs k s = tt
locals (l ∷ ls) gs fs k s =
    (record { narrow = omega (arith, s.0.of.narrow); start = start-as l.initial (marks_of l) fs l refl (start-fits l.initial l gs fs k s.0.start) }, locals ls gs fs k s.1)

pub block-sound : (ls : List Local) (ss : List Stmt) (gs : List Function) → AllSoundLocals ls gs → AllSoundStmts ss gs → SoundStmt (V.Block ls ss) gs
block-sound ls ss gs l s = record { fits = λ fs k. S.block-fits true (V.Block ls ss) ls ss fs (λ n. true) refl (locals ls gs fs k l) (stmts ss gs fs k s) }

-- choices
pub if-sound : (on : Expr) (body : Stmt) (other : Option Stmt) (gs : List Function) → SoundAlone on gs → SoundStmt body gs → PerhapsSound other gs → SoundStmt (V.If on body other) gs
if-sound on body other gs x s o = record {
  fits = λ fs k. S.if-fits true (V.If on body other) on body other fs (λ n. true) refl (alone-fits on gs fs x k) (s.fits fs k) (perhaps other gs fs k o);
}

all-wide : (es : List Expr) (w : ℕ) (gs : List Function) (fs : ℕ → List Parameter) → 0 < w → Knows gs fs → AllLimitedAt es w gs → AllFitWide es fs w
all-wide [] w gs fs some k s = tt
all-wide (e ∷ es) w gs fs some k s = (fits-at e w gs fs some s.0 k, all-wide es w gs fs some k s.1)

items-wide : (is : List CaseItem) (w : ℕ) (gs : List Function) (fs : ℕ → List Parameter) → 0 < w → Knows gs fs → ItemsLimitedAt is w gs → ItemsFitWide is fs w
items-wide [] w gs fs some k s = tt
items-wide (i ∷ is) w gs fs some k s = (all-wide i.values w gs fs some k s.0, items-wide is w gs fs some k s.1)

bodies : (is : List CaseItem) (gs : List Function) (fs : ℕ → List Parameter) → Knows gs fs → AllSoundBodies is gs → AllItemsFit is fs (λ n. true)
bodies [] gs fs k s = tt
bodies (i ∷ is) gs fs k s = (s.0.fits fs k, bodies is gs fs k s.1)

pub select-sound : (kind : CaseKind) (on : Expr) (is : List CaseItem) (other : Option Stmt) (gs : List Function) → SoundSelector on is gs → AllSoundBodies is gs → PerhapsSound other gs → SoundStmt (V.Case kind on is other) gs
select-sound kind on is other gs x b o =
    let w = widest_of (meaning on ∷ values_of is) in
    let some : 0 < w = omega (arith, full-bits on.of x.of.full, wide-is on) in
    record {
      fits = λ fs k.
          S.case-fits true (V.Case kind on is other) kind on is other fs (λ n. true) refl
          (record { selector = fits-at on w gs fs some x.selector k; values = items-wide is w gs fs some k x.values }) (bodies is gs fs k b) (perhaps other gs fs k o);
    }

-- loops
pub loop-sound : (n : ℕ) (first test step : Expr) (body : Stmt) (spot : Spot) (gs : List Function) → SoundBounds first test step gs → SoundStmt body gs → SoundStmt (V.Loop n first test step body spot) gs
loop-sound n first test step body spot gs b s = record {
  fits = λ fs k.
      S.loop-fits true (V.Loop n first test step body spot) n first test step body spot fs (λ n. true) refl
      (record { first = for-fits first first.of gs fs b.start k; test = alone-fits test gs fs b.until k; step = for-fits step first.of gs fs b.onward k }) (s.fits fs k);
}

-- assignments
pub assign-sound : (to : List Expr) (value : Expr) (later : Bool) (spot : Spot) (gs : List Function) → SoundAssign to value gs → SoundStmt (V.Assign to value later spot) gs
assign-sound to value later spot gs a =
    let n = width_of_all (map meaning to) in
    record {
      fits = λ fs k.
          S.assign-fits true (V.Assign to value later spot) to value later spot fs (λ n. true) refl
          (record {
            targets = all-alone to gs fs k a.targets;
            value = subst (λ w. Fits (meaning value) fs (max n w)) (sym (wide-is value))
                (fits-at value (max n (width_of value.of)) gs fs (omega (arith, full-bits value.of a.of.full)) a.value k);
            width = omega (arith, a.width);
            held = all-held (roots_of_all (map meaning to));
          });
    }

-- calls
passed : (ps : List Formal) (es : List Expr) (gs : List Function) (fs : ℕ → List Parameter) → Knows gs fs → length es ≤ length ps → AllSoundFor es (formal_types ps) gs → AllPassed (map parameter ps) es fs (λ n. true)
passed [] [] gs fs k few s = tt
passed (p ∷ ps) [] gs fs k few s = tt
passed [] (e ∷ es) gs fs k few s = absurd (omega arith)
passed (p ∷ ps) (e ∷ es) gs fs k few s =
    (record { passed = for-fits e p.local.of gs fs s.0 k; held = all-held (roots_by_way p.way (meaning e)) }, passed ps es gs fs k (omega arith) s.1)

pub call-sound : (c : Called) (es : List Expr) (spot : Spot) (gs : List Function) → slice_get gs c.place ≡ Some c.of → length es ≤ length c.of.formals → AllSoundFor es (formal_types c.of.formals) gs → SoundStmt (V.Call c.place es spot) gs
call-sound c es spot gs known few s = record {
  fits = λ fs k.
      S.call-fits true (V.Call c.place es spot) c.place es spot (parameters c.of) fs (λ n. true) refl (sym (k.formals c.place c.of known)) (passed c.of.formals es gs fs k few s);
}

-- jumps
pub break-sound : (gs : List Function) → SoundStmt V.Break gs
break-sound gs = record { fits = λ fs k. S.break-fits V.Break fs (λ n. true) refl }

pub continue-sound : (gs : List Function) → SoundStmt V.Continue gs
continue-sound gs = record { fits = λ fs k. S.continue-fits V.Continue fs (λ n. true) refl }

pub return-sound : (gs : List Function) → SoundStmt V.Return gs
return-sound gs = record { fits = λ fs k. S.return-fits V.Return fs (λ n. true) refl }
