use Rattle.std.proofs.Common.{◌≡◌, true, ◌&&◌, List, sym, subst}
use Rattle.sv_tree.specs.declared.functions.Formal as G
use Rattle.sv_tree.specs.declared.statements.BlockItem.{BlockItem}
use Rattle.expr_type.specs.Functions.{formals_of, function_result}
use Rattle.routine_laws.specs.Texts.{formals_written, result_written}
use Rattle.stmt_laws.specs.Written.{items_written}
use Rattle.typing_fits.proofs.Full.{and-left, and-right}
use Rattle.typing_parts.proofs.Keeping.{extends-then}
use Rattle.typing_scopes.specs.Scopes.{context_of}
use Rattle.typing_walks.specs.WrittenTypes.{dims_written}
use Rattle.typing_stmts.proofs.Made.{function-there}
use Rattle.typing_stmts.proofs.routines.by_function.Goals as goal

pub function_result-found-requires-clause-written : goal.function_result-found-requires-clause-written
function_result-found-requires-clause-written g c =
    let f = c.args.function.now in
    and-left (result_written f.of && dims_written f.unpacked) (formals_written (formals_of f.formals)) c.requires.written

pub typed_routine-requires-clause-written : goal.typed_routine-requires-clause-written
typed_routine-requires-clause-written g c =
    let f = c.args.function.now in
    subst (λ (gs : List G.Formal). formals_written gs ≡ true) (sym c.formals_of-list.ensures) (and-right (result_written f.of && dims_written f.unpacked) (formals_written (formals_of f.formals)) c.requires.written)

pub typed_routine-requires-clause-items : goal.typed_routine-requires-clause-items
typed_routine-requires-clause-items g c = subst (λ (xs : List BlockItem). items_written xs ≡ true) (sym c.as_slice-items.ensures) c.requires.items

pub returns-clause-value : goal.returns-clause-value
returns-clause-value g c h known =
    let k = context_of g.B.Names.context c.args.outer.now in
    let f = c.args.function.now in
    let x = function_result k f.name f.unpacked f.of in
    let fs = c.args.known.now.functions in
    function-there k h f.name x c.formals_of-list.result.now c.as_slice-items.result.now (formals_of f.formals) f.items c.typed_routine.result fs c.typed_routine.new.known.functions c.formals_of-list.ensures c.as_slice-items.ensures
    (c.typed_routine.ensures.value h x fs known c.function_result-found.ensures.value)

pub returns-clause-keeps : goal.returns-clause-keeps
returns-clause-keeps g c =
    extends-then c.args.known.now.functions c.function_result-found.new.known.functions c.typed_routine.new.known.functions c.function_result-found.ensures.keeps c.typed_routine.ensures.keeps
