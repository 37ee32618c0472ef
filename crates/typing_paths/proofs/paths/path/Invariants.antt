use Rattle.std.proofs.Common.{List, take}
use Rattle.std.specs.Prelude.{IfOk}
use Rattle.sv_types.specs.declared.statement.Function.{Function}
use Rattle.expr_type.specs.declared.operand.Valued.{Valued}
use Rattle.expr_type.specs.Typings.{Typing}
use Rattle.operand_types.specs.Allowed.{IsNarrow}
use Rattle.typing_fits.specs.Sound.{Extends}
use Rattle.typing_steps.specs.Steps.{TypesTo}
use Rattle.typing_parts.specs.Typists.{IsReady}
use Rattle.typing_paths.specs.Paths.{path_of}
use Rattle.typing_paths.proofs.paths.path.Given as goal

abbrev pub invariant-loop-select : goal.invariant-loop-select
invariant-loop-select g l = record {
  value : (x : Typing Valued) (fs : List Function) → TypesTo l.fn.first (x fs) l.initial.known.functions
      → TypesTo l.made (path_of (g.S.Names.context l.names) x (take l.select-index l.selects) fs) l.known.functions;
  narrow : IfOk l.made IsNarrow;
  ready : IsReady l.known;
  keeps : Extends l.initial.known.functions l.known.functions;
}
