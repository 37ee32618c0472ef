use Rattle.std.proofs.Common.{◌≡◌, map, drop}
use Rattle.expr_type.specs.Types.{all_fields}
use Rattle.routine_fits.specs.Sound.{AllSoundFunctions}
use Rattle.typing_fits.specs.Operands.{AllValuesSound}
use Rattle.typing_fits.specs.Sound.{Extends}
use Rattle.typing_walks.specs.Keeps.{Surrounded}
use Rattle.typing_parts.specs.Typists.{IsReady}
use Rattle.typing_scopes.specs.Scopes.{context_of, own_values}
use Rattle.typing_declarations.specs.Texts.{FieldsAhead, member_meaning}
use Rattle.typing_declarations.proofs.walk.+types.Given as goal

abbrev pub invariant-members-loop-m : goal.invariant-members-loop-m
invariant-members-loop-m g l = record {
  ahead : FieldsAhead (context_of g.B.Names.context l.inner) l.inside_packed l.made (own_values l.inner) (map member_meaning (drop l.m-index l.list)) (all_fields (context_of g.B.Names.context l.names) l.inside_packed (map member_meaning l.list) l.initial.known.functions) l.known.functions;
  around : Surrounded AllSoundFunctions (context_of g.B.Names.context l.inner);
  routine : (context_of g.B.Names.context l.inner).routine ≡ (context_of g.B.Names.context l.names).routine;
  own : AllValuesSound (own_values l.inner);
  ready : IsReady l.known;
  keeps : Extends l.initial.known.functions l.known.functions;
}
