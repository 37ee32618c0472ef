use Rattle.std.proofs.Common.{◌≡◌, true, None, drop}
use Rattle.routine_fits.specs.Sound.{AllSoundFunctions}
use Rattle.expr_type.specs.Statements.{Declared, IsValue, OfValue, parameters}
use Rattle.expr_type.specs.Typings.{Typed}
use Rattle.typing_fits.specs.Sound.{Extends}
use Rattle.typing_parts.specs.Typists.{IsReady}
use Rattle.typing_scopes.specs.Scopes.{context_of}
use Rattle.typing_walks.specs.Keeps.{Surrounded}
use Rattle.stmt_laws.specs.Sound.{KindFull}
use Rattle.stmt_laws.specs.Written.{bodies_written}
use Rattle.typing_declarations.specs.Blocks.{declared}
use Rattle.typing_declarations.specs.Kinds.{kind_of}
use Rattle.typing_declarations.specs.Rows.{AheadBy}
use Rattle.typing_declarations.proofs.bodies.all_parameters.Given as goal

abbrev pub invariant-loop-body : goal.invariant-loop-body
invariant-loop-body g l = record {
  row : (row : Typed Declared) → AheadBy true (declared l.initial.block) (parameters (context_of g.B.Names.context l.initial.block.scope) (IsValue (OfValue None)) l.bodies) row l.initial.known.functions → AheadBy l.whole (declared l.block) (parameters (context_of g.B.Names.context l.block.scope) (kind_of l.before) (drop l.body-index l.bodies)) row l.known.functions;
  around : Surrounded AllSoundFunctions (context_of g.B.Names.context l.block.scope);
  routine : (context_of g.B.Names.context l.block.scope).routine ≡ (context_of g.B.Names.context l.initial.block.scope).routine;
  full : KindFull (kind_of l.before);
  written : bodies_written (drop l.body-index l.bodies) ≡ true;
  ready : IsReady l.known;
  keeps : Extends l.initial.known.functions l.known.functions;
}
