-- Functions that can be run.
use Rattle.std.specs.Prelude.{⊤, false, ℕ, Bool, List, [], ◌∷◌, length, map}
use Rattle.b4_core.specs.declared.bit.Bit4.{Bit4}
use Rattle.row_machine.specs.Places.{vector_at}
use Rattle.sv_types.specs.declared.statement.Function.{Function}
use Rattle.sv_types.specs.Layouts.{stored}
use Rattle.sv_types.specs.Surroundings.{Parameter, local_number}
use Rattle.eval_exprs.specs.EvalForms.{FunctionFits, formals_in}
use Rattle.eval_parts.specs.Surroundings.{now_of}
use Rattle.eval_stmts.specs.declared.env.Env.{Env}
use Rattle.eval_stmts.specs.Limits.{StmtFits}

-- A function, for the formals of functions: its types have at most 2^22 bits, and its body keeps the limits of statements and
-- writes no signal.
pub record CanRun (f : Function) (fs : ℕ → List Parameter) : Type 0 where
  pub types : FunctionFits f
  pub body : StmtFits f.body fs (λ n. false)

abbrev pub EachCanRun : List Function → (ℕ → List Parameter) → Type 0
EachCanRun [] fs = ⊤
EachCanRun (f ∷ rest) fs = CanRun f fs × EachCanRun rest fs

-- functions that call one another
abbrev pub AllCanRun : List Function → Type 0
AllCanRun fs = EachCanRun fs (formals_in fs)

-- what locals hold at the end
abbrev pub final_in : Env → ℕ → List Bool → List Bit4
final_in env n two_state = stored two_state (vector_at (now_of env.signals.items env.locals.items) (local_number n) (length two_state))

abbrev pub finals_in : Env → List Parameter → List (List Bit4)
finals_in env ps = map (λ (p : Parameter). final_in env p.number p.two_state) ps
