use Rattle.std.proofs.Common.{◌≡◌, drop, take}
use Rattle.routine_fits.specs.Sound.{AllSoundFunctions}
use Rattle.typing_fits.specs.Sound.{Extends}
use Rattle.typing_parts.specs.Typists.{IsReady}
use Rattle.typing_scopes.specs.Scopes.{context_of}
use Rattle.typing_walks.specs.Keeps.{Surrounded}
use Rattle.typing_stmt_parts.specs.Blocks.{MadeOf, made_row}
use Rattle.typing_stmt_parts.proofs.Rows.{FoundSoFar}
use Rattle.typing_stmts.proofs.walk.+stmt.Given as goal

abbrev pub invariant-case_items-loop-item : goal.invariant-case_items-loop-item
invariant-case_items-loop-item g l =
    let k = context_of g.B.Names.context l.names in
    record {
      made : FoundSoFar k (take l.item-index l.items) l.made.items l.fn.known.functions l.known.functions;
      ready : IsReady l.known;
      keeps : Extends l.fn.known.functions l.known.functions;
    }

abbrev pub invariant-block-loop-item : goal.invariant-block-loop-item
invariant-block-loop-item g l =
    let k = context_of g.B.Names.context l.names in
    let j = context_of g.B.Names.context l.inner in
    record {
      made : MadeOf l.made j (drop l.item-index l.items) (made_row k l.items l.fn.known.functions) l.known.functions;
      names : Surrounded AllSoundFunctions j;
      routine : j.routine ≡ k.routine;
      ready : IsReady l.known;
      keeps : Extends l.fn.known.functions l.known.functions;
    }
