-- What expressions are as targets, and what is collected of them.
use Rattle.std.specs.Prelude.{◌≡◌, ◌≤◌, false, ℕ, Bool, List, map, Option, Result, Ok, Err}
use Rattle.b4_core.specs.declared.bit.Bit4.{Bit4}
use Rattle.row_machine.specs.Valuation.{Changes}
use Rattle.row_machine.specs.Steps.{unchanged, then_changes}
use Rattle.sv_types.specs.declared.expression.Expr.{Expr}
use Rattle.sv_types.specs.declared.expression.Form.TheVariants as V
use Rattle.sv_types.specs.Surroundings.{Around, Tally, Parameter}
use Rattle.sv_types.specs.Meanings.{Meaning}
use Rattle.sv_types.specs.Operators.{puts_all, places_all, width_of_all}
use Rattle.sv_types.specs.Expressions.{meaning}
use Rattle.eval_parts.specs.declared.halt.Halt.{Halt}
use Rattle.eval_parts.specs.Answers.{Halts}
use Rattle.eval_parts.specs.Limits.{AllFit}
use Rattle.eval_parts.specs.Steps.{IsStep}
use Rattle.eval_parts.specs.Surroundings.{running}
use Rattle.eval_stmts.specs.declared.env.Update.{Update}
use Rattle.eval_stmts.specs.declared.parts.Target.{Target}
use Rattle.eval_stmts.specs.declared.parts.Target.TheVariants as T
use Rattle.eval_stmts.specs.Environments.{updates, AllHeld, AllReady}
use Rattle.eval_stmts.specs.Targets.{roots_of_all}

-- an expression that writes nothing as a target
pub record IsUnwritten (m : Meaning) : Type 0 where
  pub puts : (a : Around) (v : List Bit4) → m.puts a v ≡ unchanged
  pub places : (a : Around) (t : Tally) → m.places a t ≡ m.values a t
  pub streams : m.streams ≡ false

abbrev pub IsTarget : Target → Expr → Type 0
IsTarget (T.Path s) e = IsStep s e
IsTarget (T.Concat es) e = e.form ≡ V.Concat es.now
IsTarget (T.Stream s) e = e.form ≡ V.Stream s.reversed s.slice s.parts.now
IsTarget T.Value e = IsUnwritten (meaning e)

-- updates behind others that make these changes, at the cost of this effort
abbrev pub Collects : {T : Type 0} → Result T Halt → (List Update → List Update → Type 0) → (Tally → Tally) → Option ℕ → Option ℕ → List Update → List Update → Type 0
Collects (Ok x) made effort old new us vs = made us vs × (effort (running old) ≡ running new)
Collects (Err h) made effort old new us vs = Halts h (effort (running old))

pub record Adds (c : Changes) (holds : ℕ → Bool) (us vs : List Update) : Type 0 where
  pub changes : updates vs ≡ then_changes (updates us) c
  pub ready : AllReady us holds → AllReady vs holds

abbrev pub TargetGives : {T : Type 0} → Result T Halt → Meaning → List Bit4 → Around → List Update → List Update → Option ℕ → Option ℕ → Type 0
TargetGives r m v a us vs old new = Collects r (Adds (m.puts a v) a.holds) (m.places a) old new us vs

abbrev pub TargetsGive : {T : Type 0} → Result T Halt → List Meaning → List Bit4 → Around → List Update → List Update → Option ℕ → Option ℕ → Type 0
TargetsGive r ms v a us vs old new = Collects r (Adds (puts_all ms a v) a.holds) (places_all ms a) old new us vs

-- parts of a target
pub record PartsFit (es : List Expr) (fs : ℕ → List Parameter) (holds : ℕ → Bool) : Type 0 where
  pub fit : AllFit es fs
  pub narrow : width_of_all (map meaning es) ≤ 4194304
  pub held : AllHeld (roots_of_all (map meaning es)) holds
