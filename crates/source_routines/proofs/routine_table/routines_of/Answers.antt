use Rattle.std.proofs.Common.{◌≡◌, ℕ, List, ◌++◌, ap, subst, ◌∙◌}
use Rattle.std.specs.Prelude.{IfOk}
use Rattle.expr_type.specs.Names.{RoutineText}
use Rattle.expr_type.specs.Routines.{named_at, routines}
use Rattle.source_routines.specs.Texts.{texts, units_routines, routine_in}
use Rattle.source_routines.proofs.routine_table.routines_of.Goals as goal

pub returns : goal.returns
unfolding routines
returns c =
    let same : texts c.as_slice-2.result.now ≡ units_routines c.args.tree.now.units =
    ap texts c.as_slice-2.ensures
    ∙ c.in_ok-units.ensures
    ∙ ap (λ rs. texts rs ++ units_routines c.as_slice.result.now) c.new-list.ensures
    ∙ ap units_routines c.as_slice.ensures in
    subst (λ (rs : List RoutineText). IfOk c.table_of.result (λ x. (at : ℕ) → routine_in x at ≡ named_at at rs)) same c.table_of.ensures
