-- What is found of all parts of a design holds of each.
use Rattle.std.proofs.Common.{◌≡◌, ◌≤◌, ◌<◌, ◌^◌, ℕ, zero, suc, Bool, true, false, ◌||◌, not, cond, List, [], ◌∷◌, length, Some, None, inl, inr, refl, sym, ◌∙◌, subst}
use Rattle.std.specs.Prelude.{is_some, slice_get}
use Rattle.row_machine.specs.Valuation.{Member}
use Rattle.sv_types.specs.declared.design.Design.{Design}
use Rattle.sv_types.specs.declared.design.Process.{Process}
use Rattle.sv_types.specs.declared.design.EdgeOn.{EdgeOn}
use Rattle.sv_types.specs.declared.design.ProcessKind.{ProcessKind}
use Rattle.sv_types.specs.declared.design.ProcessKind.TheVariants as K
use Rattle.sv_types.specs.declared.design.Signal.{Signal}
use Rattle.sv_types.specs.declared.statement.Function.{Function}
use Rattle.sv_types.specs.declared.statement.Stmt.{Stmt}
use Rattle.sv_types.specs.Layouts.{width_of}
use Rattle.sv_types.specs.Statements.{doing}
use Rattle.sv_types.specs.Surroundings.{Parameter, is_signal}
use Rattle.eval_forms.specs.Callees.{formals_in}
use Rattle.eval_runs.specs.Functions.{AllCanRun}
use Rattle.eval_stmts.specs.Environments.{AllHeld}
use Rattle.eval_stmts.specs.Limits.{StmtFits}
use Rattle.stmt_flows.specs.Full.{stmt_full}
use Rattle.full_calls.specs.Full.{FullIf}
use Rattle.unroll_laws.specs.Passing.{passes_few}
use Rattle.unroll_laws.specs.Bodies.{BodyFits, DesignFits}
use Rattle.comb_order.specs.Bits.{KeepsLimits, AreNarrow}
use Rattle.edge_breaks.specs.Joins.{LinksStand}
use Rattle.proc_rules.specs.declared.bodies.Loops.{Loops}
use Rattle.proc_rules.specs.Processes.{IsLoops}
use Rattle.loop_rules.proofs.Finding.{sound}
use Rattle.process_cases.specs.Fits.{IfSo, EachNarrow, EachFits, EachBodyFits, Limited, Stands, IsFit}

some-same : {A : Type 0} (a b : A) → Some a ≡ Some b → a ≡ b
some-same a b is = cc

none-some : {A B : Type 0} (a : A) → None ≡ Some a → B
none-some a is = absurd (cc)

-- signals
each-narrow : (ss : List Signal) → EachNarrow ss → AreNarrow ss
each-narrow [] h k s is = none-some s is
each-narrow (x ∷ ss) h zero s is = subst (λ (y : Signal). width_of y.of ≤ 4194304) (some-same x s is) h.0
each-narrow (x ∷ ss) h (suc k) s is = each-narrow ss h.1 k s is

pub by-limits : (b : Bool) (d : Design) → length d.signals ≤ 2 ^ 32 → length d.processes ≤ 2 ^ 32 → IfSo b (EachNarrow d.signals) → IfSo b (Limited d)
by-limits true d few small h = record { keeps = record { narrow = each-narrow d.signals h; processes = small }; few = few }
by-limits false d few small h = tt

-- bodies: where all signals are held, any statement writes what is held
either-way : (b : Bool) → cond b true true ≡ true
either-way true = refl
either-way false = refl

all-held : (ns : List ℕ) → AllHeld ns (λ n. true)
all-held [] = tt
all-held (n ∷ ns) = (either-way (is_signal n), all-held ns)

pub by-body : (b : Bool) (s : Stmt) (fs : List Function) (holds : ℕ → Bool) → StmtFits s (formals_in fs) holds → stmt_full (formals_in fs) s ≡ true → FullIf b (passes_few (formals_in fs) s) → IfSo b (BodyFits s fs)
by-body true s fs holds f full few = record { fits = record { keeps = f.keeps; places = f.places; held = all-held ((doing s).targets (formals_in fs)) }; full = full; few = few }
by-body false s fs holds f full few = tt

each-process : (ps : List Process) (fs : List Function) → EachFits ps fs → (n : ℕ) (p : Process) → slice_get ps n ≡ Some p → BodyFits p.body fs
each-process [] fs h n p is = none-some p is
each-process (x ∷ ps) fs h zero p is = subst (λ (y : Process). BodyFits y.body fs) (some-same x p is) h.0
each-process (x ∷ ps) fs h (suc n) p is = each-process ps fs h.1 n p is

each-function : (gs fs : List Function) → EachBodyFits gs fs → (n : ℕ) (f : Function) → slice_get gs n ≡ Some f → BodyFits f.body fs
each-function [] fs h n f is = none-some f is
each-function (x ∷ gs) fs h zero f is = subst (λ (y : Function). BodyFits y.body fs) (some-same x f is) h.0
each-function (x ∷ gs) fs h (suc n) f is = each-function gs fs h.1 n f is

pub by-bodies : (b : Bool) (d : Design) → AllCanRun d.functions → EachBodyFits d.functions d.functions → IfSo b (EachFits d.processes d.functions) → IfSo b (DesignFits d)
by-bodies true d run own h = record { functions = run; processes = each-process d.processes d.functions h; bodies = each-function d.functions d.functions own }
by-bodies false d run own h = tt

-- connections
same-port : (n m : ℕ) (k : ProcessKind) → k ≡ K.Link n → k ≡ K.Link m → n ≡ m
same-port n m k is has = cc

pub by-Link : (broken : Bool) (d : Design) (p : Process) (l : Loops) (port : ℕ) → p.kind ≡ K.Link port → port < length d.signals → IsLoops d p.body l → broken ≡ (is_some l.endless || l.too_long) → IfSo (not broken) (Stands d p)
by-Link true d p l port is low h same = tt
by-Link false d p l port is low h same =
    record {
      within = λ n has. subst (λ k. k < length d.signals) (same-port port n p.kind is has) low;
      unrolls = λ n has. sound d p.body l h (sym same);
    }

no-port : (d : Design) (p : Process) → ((n : ℕ) → p.kind ≡ K.Link n → ⊥) → Stands d p
no-port d p none = record { within = λ n has. absurd (none n has); unrolls = λ n has. absurd (none n has) }

pub by-Continuous : (d : Design) (p : Process) → p.kind ≡ K.Continuous → Stands d p
by-Continuous d p is = no-port d p (λ n has. cc)

pub by-Comb : (d : Design) (p : Process) → p.kind ≡ K.Comb → Stands d p
by-Comb d p is = no-port d p (λ n has. cc)

pub by-Latch : (d : Design) (p : Process) → p.kind ≡ K.Latch → Stands d p
by-Latch d p is = no-port d p (λ n has. cc)

pub by-Star : (d : Design) (p : Process) → p.kind ≡ K.Star → Stands d p
by-Star d p is = no-port d p (λ n has. cc)

pub by-Edges : (d : Design) (p : Process) (es : List EdgeOn) → p.kind ≡ K.Edges es → Stands d p
by-Edges d p es is = no-port d p (λ n has. cc)

abbrev pub EachStands : Design → List Process → Type 0
EachStands d [] = Unit {0}
EachStands d (p ∷ ps) = Stands d p × EachStands d ps

one-of : (d : Design) (ps : List Process) (p : Process) → EachStands d ps → Member ps p → Stands d p
one-of d [] p h m = elim m [ ]
one-of d (x ∷ ps) p h (inl is) = subst (Stands d) (sym is) h.0
one-of d (x ∷ ps) p h (inr m) = one-of d ps p h.1 m

pub links-stand : (d : Design) → EachStands d d.processes → LinksStand d
links-stand d h =
    record {
      within = λ p n m is. (one-of d d.processes p h m).within n is;
      unrolls = λ p n k m is to plain. (one-of d d.processes p h m).unrolls n is;
    }

pub by-parts : (b : Bool) (d : Design) → Limited d → DesignFits d → IfSo b (LinksStand d) → IfSo b (IsFit d)
by-parts true d l f h = record { limits = l.keeps; few = l.few; links = h; fits = f }
by-parts false d l f h = tt

pub ruleset limits = (by-limits)

pub ruleset bodies = (by-body)

pub ruleset designs = (by-bodies)

pub ruleset kinds = (by-Link, by-Continuous, by-Comb, by-Latch, by-Star, by-Edges)

pub ruleset whole = (by-parts)
