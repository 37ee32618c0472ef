use Rattle.std.proofs.Common.{◌≡◌, List, true, drop}
use Rattle.sv_types.specs.declared.statement.Function.{Function}
use Rattle.expr_type.specs.Functions.{at_first, formals}
use Rattle.routine_fits.specs.Sound.{AllSoundFunctions}
use Rattle.routine_laws.specs.Sound.{PerhapsType}
use Rattle.routine_laws.specs.Texts.{formals_written}
use Rattle.typing_fits.specs.Sound.{Extends}
use Rattle.typing_parts.specs.Typists.{IsReady}
use Rattle.typing_scopes.specs.Scopes.{context_of}
use Rattle.typing_walks.specs.Keeps.{Surrounded}
use Rattle.typing_declarations.specs.Formals.{before_of}
use Rattle.typing_declarations.specs.FormalRows.{SoFar}
use Rattle.typing_declarations.proofs.formal_rows.formals.Given as goal

abbrev pub invariant-loop-one : goal.invariant-loop-one
invariant-loop-one g l =
    let k = context_of g.B.Names.context l.initial.inner in
    record {
      so_far : SoFar l.met.whole k (context_of g.B.Names.context l.inner) (before_of l.before) l.met.made (drop l.one-index l.list) (formals k at_first l.list l.initial.known.functions) l.known.functions;
      around : Surrounded AllSoundFunctions (context_of g.B.Names.context l.inner);
      routine : (context_of g.B.Names.context l.inner).routine ≡ k.routine;
      before : (fs : List Function) → PerhapsType l.before.of fs;
      written : formals_written (drop l.one-index l.list) ≡ true;
      ready : IsReady l.known;
      keeps : Extends l.initial.known.functions l.known.functions;
    }
