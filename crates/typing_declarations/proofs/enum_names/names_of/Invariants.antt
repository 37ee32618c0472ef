use Rattle.std.proofs.Common.{◌≡◌, false, [], drop}
use Rattle.std.specs.Prelude.{None}
use Rattle.expr_type.specs.Types.{name_values}
use Rattle.routine_fits.specs.Sound.{AllSoundFunctions}
use Rattle.typing_fits.specs.Sound.{Extends}
use Rattle.typing_walks.specs.Keeps.{Surrounded}
use Rattle.typing_parts.specs.Typists.{IsReady}
use Rattle.typing_scopes.specs.Scopes.{context_of}
use Rattle.typing_declarations.specs.Naming.{IsMet, NamesAhead}
use Rattle.typing_declarations.proofs.enum_names.names_of.Given as goal

abbrev pub invariant-loop-name : goal.invariant-loop-name
invariant-loop-name g l = record {
  ahead : NamesAhead (context_of g.B.Names.context l.inner) l.base l.met (drop l.name-index l.list) (name_values (context_of g.B.Names.context l.initial.inner) l.base false [] None l.list l.initial.known.functions) l.known.functions;
  met : IsMet l.base l.met;
  around : Surrounded AllSoundFunctions (context_of g.B.Names.context l.inner);
  routine : (context_of g.B.Names.context l.inner).routine ≡ (context_of g.B.Names.context l.initial.inner).routine;
  ready : IsReady l.known;
  keeps : Extends l.initial.known.functions l.known.functions;
}
