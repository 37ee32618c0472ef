use Rattle.std.proofs.Common.{◌≡◌, true, drop}
use Rattle.std.specs.Option.{option_copied}
use Rattle.routine_fits.specs.Sound.{AllSoundFunctions}
use Rattle.expr_type.specs.Statements.{Declared}
use Rattle.expr_type.specs.Typings.{Typed}
use Rattle.typing_fits.specs.Sound.{Extends}
use Rattle.typing_parts.specs.Typists.{IsReady}
use Rattle.typing_scopes.specs.Scopes.{context_of}
use Rattle.typing_walks.specs.Keeps.{Surrounded}
use Rattle.stmt_laws.specs.Written.{declarators_written}
use Rattle.typing_declarations.specs.Blocks.{declared}
use Rattle.typing_declarations.specs.Rows.{AheadBy, each_variable}
use Rattle.typing_declarations.proofs.declarators.all_variables.Given as goal

abbrev pub invariant-loop-d : goal.invariant-loop-d
invariant-loop-d g l = record {
  row : (row : Typed Declared) → AheadBy l.initial.whole (declared l.initial.block) (each_variable (context_of g.B.Names.context l.initial.block.scope) (option_copied l.of) l.ds) row l.initial.known.functions → AheadBy l.whole (declared l.block) (each_variable (context_of g.B.Names.context l.block.scope) (option_copied l.of) (drop l.d-index l.ds)) row l.known.functions;
  around : Surrounded AllSoundFunctions (context_of g.B.Names.context l.block.scope);
  routine : (context_of g.B.Names.context l.block.scope).routine ≡ (context_of g.B.Names.context l.initial.block.scope).routine;
  written : declarators_written (drop l.d-index l.ds) ≡ true;
  ready : IsReady l.known;
  keeps : Extends l.initial.known.functions l.known.functions;
}
