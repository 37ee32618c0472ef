use Rattle.std.proofs.Common.{◌≡◌, List, ℕ, length, Ok, Err, ap, subst, ◌∙◌, arith}
use Rattle.ll_engine.specs.declared.table.Row.{Row}
use Rattle.ll_engine.specs.Class.{BreaksAt}
use Rattle.ll_engine.specs.Answers.{NewGives}
use Rattle.ll_engine.proofs.class.Sets.{never_unfit}
use Rattle.v_tree.specs.Table.{table}
use Rattle.v_tree.proofs.Fitness.{table-fits, table_length}
use Rattle.v_tree.proofs.reader.grammar.Goals as goal

pub new-requires : goal.new-requires
new-requires c =
    let rows : c.in_ok-grammar_rows.field-0 ≡ table = c.in_ok-grammar_rows.ensures in
    let long : length c.in_ok-grammar_rows.field-0 ≡ 111 = ap length rows ∙ table_length in
    omega (arith, long)

pub unreachable-requires : goal.unreachable-requires
unreachable-requires c =
    let rows : c.in_ok-grammar_rows.field-0 ≡ table = c.in_ok-grammar_rows.ensures in
    let at : ℕ = c.in-Err-Unfit.field-0-0 in
    let given : BreaksAt c.in_ok-grammar_rows.field-0 at =
    subst (λ f. NewGives c.in_ok-grammar_rows.field-0 (Err f)) c.in-Err-Unfit.field-0-is c.in-Err-Unfit.ensures in
    never_unfit table table-fits at (subst (λ (t : List Row). BreaksAt t at) rows given)

pub returns-in-Ok : goal.returns-in-Ok
returns-in-Ok c =
    let given : NewGives c.in_ok-grammar_rows.field-0 (Ok c.in-Ok.reader) = c.in-Ok.ensures in
    given.0 ∙ c.in_ok-grammar_rows.ensures
