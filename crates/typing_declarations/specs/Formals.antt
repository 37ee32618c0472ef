-- Formals as the code has them.
use Rattle.std.specs.Prelude.{◌≡◌, ⊤, ℕ, Bool, true, false, cond, List, [], ◌∷◌, ◌++◌, Option, Some, None, Result, Ok, Err}
use Rattle.sv_types.specs.declared.statement.Formal.{Formal}
use Rattle.sv_types.specs.declared.statement.Function.{Function}
use Rattle.sv_types.specs.declared.statement.Way.{Way}
use Rattle.sv_types.specs.declared.types.SvType.{SvType}
use Rattle.expr_type.specs.declared.halt.Halt.{Halt}
use Rattle.expr_type.specs.declared.halt.Halt.TheVariants as H
use Rattle.expr_type.specs.Functions as F
use Rattle.expr_type.specs.Functions.{behind_formal}
use Rattle.expr_type.specs.Names.{Context, local_id, spot}
use Rattle.expr_type.specs.Typings.{Typed}
use Rattle.typing_steps.specs.Steps.{StopsBy}
use Rattle.typing_declarations.specs.declared.formal_rows.Met.{Met}
use Rattle.typing_declarations.specs.declared.formal_rows.Turn.{Turn}
use Rattle.typing_declarations.specs.declared.formal_types.Before.{Before}
use Rattle.typing_declarations.specs.declared.formal_types.FormalFound.{FormalFound}
use Rattle.typing_declarations.specs.FormalRows.{PerhapsFormal, formal_in}

abbrev pub before_of : Before → F.Before
before_of b = record { way = b.way; of = b.of }

-- a formal whose name stands at a token
abbrev pub formal_at : Context → Way → ℕ → SvType → Formal
formal_at k way at t = record { local = record { number = (local_id k at t).number; of = t; initial = None }; way = way; spot = spot k.source at }

abbrev pub formal_of : Context → FormalFound → F.FormalFound
formal_of k f = record {
  before = record { way = f.way; of = Some f.found };
  id = local_id k f.at f.of;
  formal = formal_at k f.way f.at f.of;
  names = cond f.declares f.found.names [];
}

-- a formal that is put into a scope
pub record IsPut (f : Formal) (b : Before) (j k : Context) (x : FormalFound) : Type 0 where
  pub formal : formal_in (formal_of k x) ≡ f
  pub before : F.FormalFound.before (formal_of k x) ≡ before_of b
  pub behind : j ≡ behind_formal k (Some (formal_of k x))

-- a formal behind the one before, put into a scope
abbrev pub TurnsTo : Result Turn Halt → Way → Context → Context → Typed F.FormalFound → List Function → Type 0
TurnsTo (Ok r) way j k t fs = PerhapsFormal r.formal (before_of r.before) way j k t fs
TurnsTo (Err H.Memory) way j k t fs = ⊤
TurnsTo (Err (H.Breaks at rule)) way j k t fs = StopsBy (H.Breaks at rule) t fs
TurnsTo (Err H.Quiet) way j k t fs = ⊥

-- one more formal that was met
abbrev pub Takes : Option Formal → Met → Met → Type 0
Takes None old new = new ≡ record { made = old.made; whole = false }
Takes (Some f) old new = new ≡ record { made = old.made ++ f ∷ []; whole = old.whole }

-- the formals, if all are whole
abbrev pub ended_by : Bool → List Formal → Result (List Formal) Halt
ended_by true made = Ok made
ended_by false made = Err H.Quiet
