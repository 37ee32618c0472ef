-- What targets read and write.
use Rattle.std.specs.Prelude.{◌≡◌, ⊤, ◌⊎◌, ℕ, Bool, false, List, [], ◌++◌, map, Option, Some, None, Result, Ok, Err}
use Rattle.std.specs.Borrow.{Bor}
use Rattle.bit_sets.specs.declared.span.Use.{Use}
use Rattle.sv_types.specs.declared.expression.Expr.{Expr}
use Rattle.sv_types.specs.declared.expression.Form.{out-Form}
use Rattle.sv_types.specs.declared.expression.Form.TheVariants as V
use Rattle.sv_types.specs.Surroundings as S
use Rattle.sv_types.specs.Surroundings.{Sight}
use Rattle.sv_types.specs.Meanings as M
use Rattle.sv_types.specs.Meanings.{Meaning, writes_of}
use Rattle.sv_types.specs.Flows.{uses_of, all_indices, all_writes}
use Rattle.sv_types.specs.Expressions.{meaning}
use Rattle.eval_parts.specs.Steps.{is_path}
use Rattle.flow_sets.specs.declared.uses.Write.{Write}
use Rattle.flow_sets.specs.Bits.{write_of, AllShort}
use Rattle.row_machine.specs.Valuation.{Member}
use Rattle.expr_flows.specs.declared.fails.FlowFail.{FlowFail}
use Rattle.expr_flows.specs.declared.fails.FlowFail.TheVariants as F
use Rattle.expr_flows.specs.declared.known.Known.{Known}
use Rattle.expr_flows.specs.declared.traced.Traced.{Traced}
use Rattle.expr_flows.specs.Known.{sight}
use Rattle.expr_flows.specs.Traces.{Adds, prefix_of}
use Rattle.expr_flows.specs.Reads.{LongIndex, ReadFails}

-- a concatenation or a stream of these
abbrev pub IsJoined : List Expr → Expr → Type 0
IsJoined es e = (e.form ≡ V.Concat es) ⊎ ((reversed : Bool) × (n : ℕ) × (e.form ≡ V.Stream reversed n es))

-- what isn't written, and reads as a target what it reads as a value
pub record IsWhole (m : Meaning) : Type 0 where
  pub indices : (k : Sight) → m.indices k ≡ m.reads k
  pub writes : (k : Sight) → m.writes k ≡ []

abbrev pub IsParts : Option (Bor (List Expr)) → Expr → Type 0
IsParts None e = is_path (out-Form e.form) ≡ false → IsWhole (meaning e)
IsParts (Some es) e = IsJoined es.now e

pub record Writes (old new : List Write) (ws : List S.Write) : Type 0 where
  pub adds : new ≡ old ++ map write_of ws
  pub short : AllShort (uses_of ws)

abbrev pub AddsWrite : {E : Type 0} → Result (Unit {0}) E → Traced → ℕ → List Write → List Write → Type 0
AddsWrite (Ok u) t at old new = Writes old new (writes_of t.exact (M.use_of t.root at (prefix_of t)))
AddsWrite (Err e) t at old new = ⊤

-- the reads of indices, and the writes
pub record TargetIs (us : List S.Use) (ws : List S.Write) (read more : List Use) (old written : List Write) : Type 0 where
  pub reads : Adds read more us
  pub writes : Writes old written ws

abbrev pub TargetGives : Result (Unit {0}) FlowFail → Known → Expr → List Use → List Use → List Write → List Write → Type 0
TargetGives (Ok u) k e reads more writes written = TargetIs ((meaning e).indices (sight k)) ((meaning e).writes (sight k)) reads more writes written
TargetGives (Err f) k e reads more writes written = ReadFails f k e

-- some target of them holds a constant index whose value takes too long
pub record LongInSome (k : Known) (es : List Expr) (at : ℕ) : Type 0 where
  pub expr : Expr
  pub stands : Member es expr
  pub long : LongIndex k expr at

abbrev pub TargetsFail : FlowFail → Known → List Expr → Type 0
TargetsFail F.Memory k es = ⊤
TargetsFail (F.TooLong at) k es = LongInSome k es at

abbrev pub TargetsGive : Result (Unit {0}) FlowFail → Known → List Expr → List Use → List Use → List Write → List Write → Type 0
TargetsGive (Ok u) k es reads more writes written = TargetIs (all_indices (map meaning es) (sight k)) (all_writes (map meaning es) (sight k)) reads more writes written
TargetsGive (Err f) k es reads more writes written = TargetsFail f k es
