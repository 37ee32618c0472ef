use Rattle.std.proofs.Common.{◌≡◌, true, List, sym, subst}
use Rattle.sv_tree.specs.declared.functions.Formal as G
use Rattle.sv_tree.specs.declared.statements.BlockItem.{BlockItem}
use Rattle.expr_type.specs.Functions.{formals_of}
use Rattle.expr_type.specs.Typings.{whole}
use Rattle.routine_laws.specs.Texts.{formals_written}
use Rattle.stmt_laws.specs.Written.{items_written}
use Rattle.typing_scopes.specs.Scopes.{context_of}
use Rattle.typing_declarations.specs.Giving.{no_result, result_of}
use Rattle.typing_declarations.proofs.Heading.{void-sound}
use Rattle.typing_stmts.proofs.Made.{function-there, nothing-found}
use Rattle.typing_stmts.proofs.routines.by_task.Goals as goal

pub typed_routine-requires-clause-result : goal.typed_routine-requires-clause-result
typed_routine-requires-clause-result g c = void-sound (result_of c.no_result-nothing.result) c.args.known.now.functions c.no_result-nothing.ensures

pub typed_routine-requires-clause-written : goal.typed_routine-requires-clause-written
typed_routine-requires-clause-written g c = subst (λ (gs : List G.Formal). formals_written gs ≡ true) (sym c.formals_of-list.ensures) c.requires.written

pub typed_routine-requires-clause-items : goal.typed_routine-requires-clause-items
typed_routine-requires-clause-items g c = subst (λ (xs : List BlockItem). items_written xs ≡ true) (sym c.as_slice-items.ensures) c.requires.items

pub returns-clause-value : goal.returns-clause-value
returns-clause-value g c h known =
    let k = context_of g.B.Names.context c.args.outer.now in
    let t = c.args.task.now in
    let fs = c.args.known.now.functions in
    function-there k h t.name (whole no_result) c.formals_of-list.result.now c.as_slice-items.result.now (formals_of t.formals) t.items c.typed_routine.result fs c.typed_routine.new.known.functions c.formals_of-list.ensures c.as_slice-items.ensures
    (c.typed_routine.ensures.value h (whole no_result) fs known (nothing-found c.no_result-nothing.result fs c.no_result-nothing.ensures))
