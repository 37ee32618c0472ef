use Rattle.std.proofs.Common.{◌≡◌, ◌+◌, ℕ, true, List, [], ◌∷◌, drop, map, Some, None, rules, refl, sym, ap, ◌∙◌, subst}
use Rattle.std.specs.Prelude.{Result, Err}
use Rattle.std.proofs.lemmas.List.{drop_all}
use Rattle.std.proofs.lemmas.Result.{err_from_is_err_and}
use Rattle.sv_tree.specs.declared.statements.BlockItem.{BlockItem}
use Rattle.sv_tree.specs.declared.statements.Else.{out-Else}
use Rattle.sv_tree.specs.declared.statements.Stmt.{the_lemmas}
use Rattle.sv_tree.specs.declared.statements.Stmt.TheVariants as V
use Rattle.sv_types.specs.declared.statement.Stmt as R
use Rattle.expr_type.specs.declared.halt.Halt.{Halt}
use Rattle.expr_type.specs.Names.{Context}
use Rattle.expr_type.specs.Statements as D
use Rattle.expr_type.specs.Types.{typed_text}
use Rattle.routine_fits.specs.Sound.{AllSoundFunctions}
use Rattle.stmt_laws.specs.Written.{case_written, item_written, items_written, stmt_written}
use Rattle.stmt_laws.proofs.Declared.{parameters-keep, selected-keeps, text-keeps, variables-keep}
use Rattle.function_cuts.proofs.Before.{sound-before, within-longer}
use Rattle.typing_calls.specs.Lists.{as_meant}
use Rattle.typing_declarations.specs.Loops.{control_of, variable_of}
use Rattle.typing_parts.proofs.Keeping.{extends-same, extends-then}
use Rattle.typing_scopes.specs.Scopes.{context_of}
use Rattle.typing_scopes.proofs.Behind.{needs-alike}
use Rattle.typing_sides.specs.Sides.{known_of}
use Rattle.typing_steps.specs.Steps.{TypesTo}
use Rattle.typing_walks.specs.Keeps.{Surrounded}
use Rattle.typing_stmt_parts.specs.Blocks.{MadeOf, made_row}
use Rattle.typing_stmt_parts.specs.Items.{Kept}
use Rattle.typing_stmt_parts.specs.Parts.{part_meant}
use Rattle.typing_stmt_parts.proofs.Blocks.{block-begins, block-ends, joined-goes, joined-stops, left-at, row-stops}
use Rattle.typing_stmt_parts.proofs.Finding.{default-found, kept-extends, listed-loud, values-end, values-found}
use Rattle.typing_stmt_parts.proofs.Making.{declared-types, statement-sound, statement-types}
use Rattle.typing_stmt_parts.proofs.Rows.{all-found, found-loud, item-more, none-yet}
use Rattle.typing_stmts.specs.Controls.{controlled}
use Rattle.typing_stmts.specs.Written.{cases_written, else_if_written, else_of}
use Rattle.typing_stmts.proofs.Forms.{assign-meant, assign-target, assign-value, block-at, block-meant, block-written, break-meant, call-meant, call-written, case-at, case-items, case-meant, case-sought, cases-at, continue-meant, default-body, default-is, else-none, else-types, else-written, empty-meant, for-at, for-body, for-meant, for-start, for-step, for-test, if-at, if-body, if-meant, if-other, if-test, items-at, named-meant, named-selects, named-written, parameters-meant, parameters-written, postfix-meant, postfix-written, prefix-meant, prefix-written, return-meant, return-written, statement-meant, statement-written, values-are, values-body, values-written, variables-meant, variables-type, variables-written}
use Rattle.typing_stmts.proofs.Scopes.{entered-names, entered-routine, joined-names, joined-routine, part-sound, variable-narrow}
use Rattle.typing_stmts.proofs.walk.+stmt.Goals as goal

-- blocks
pub statement-block-requires : goal.statement-block-requires
statement-block-requires g t c =
    let i = c.in-Block in
    let xs = c.as_slice-inside.result.now in
    let same : c.args.s.now ≡ V.Block i.begin i.label xs i.end i.end_label = block-at i.begin i.label i.items i.end i.end_label c.args.s.now i.is xs c.as_slice-inside.ensures in
    let w : items_written xs ≡ true = block-written i.begin i.label i.items i.end i.end_label c.args.s.now i.is xs c.as_slice-inside.ensures c.requires.written in
    search (rules, the_lemmas)

pub statement-returns-in-Block-clause-value : goal.statement-returns-in-Block-clause-value
statement-returns-in-Block-clause-value g t c =
    let i = c.in-Block in
    block-meant i.begin i.label i.items i.end i.end_label c.args.s.now i.is c.as_slice-inside.result.now c.as_slice-inside.ensures (context_of g.B.Names.context c.args.names.now) c.args.known.now.functions c.block.new.known.functions c.block.result c.block.ensures.value

-- choices
pub statement-condition-on-requires-clause-written : goal.statement-condition-on-requires-clause-written
statement-condition-on-requires-clause-written g t c =
    let i = c.in-If in
    if-test i.promise i.keyword i.opening i.test i.closing i.body i.other c.args.s.now i.is i.body refl c.requires.written

pub statement-statement-first-requires : goal.statement-statement-first-requires
statement-statement-first-requires g t c =
    let i = c.in-If in
    let b = c.get-branch.result.now in
    let same : c.args.s.now ≡ V.If i.promise i.keyword i.opening i.test i.closing b i.other = if-at i.promise i.keyword i.opening i.test i.closing i.body i.other c.args.s.now i.is b c.get-branch.ensures in
    let w : stmt_written b ≡ true = if-body i.promise i.keyword i.opening i.test i.closing i.body i.other c.args.s.now i.is b c.get-branch.ensures c.requires.written in
    search (rules, the_lemmas)

pub statement-else_branch-second-requires : goal.statement-else_branch-second-requires
statement-else_branch-second-requires g t c =
    let i = c.in-If in
    let w : else_if_written i.other ≡ true = if-other i.promise i.keyword i.opening i.test i.closing i.body i.other c.args.s.now i.is i.body refl c.requires.written in
    search (rules, the_lemmas)

pub statement-returns-in-If-clause-value : goal.statement-returns-in-If-clause-value
statement-returns-in-If-clause-value g t c =
    let i = c.in-If in
    let k = context_of g.B.Names.context c.args.names.now in
    let b = c.get-branch.result.now in
    let fs = c.args.known.now.functions in
    let gs = c.condition-on.new.known.functions in
    let hs = c.statement-first.new.known.functions in
    let js = c.else_branch-second.new.known.functions in
    if-meant i.promise i.keyword i.opening i.test i.closing i.body i.other c.args.s.now i.is b c.get-branch.ensures k fs js c.choice.result
    (c.choice.ensures (D.condition k i.test) (D.stmt_meaning b k) (else_of k i.other) fs gs hs js c.condition-on.ensures.value c.statement-first.ensures.value c.else_branch-second.ensures.value)

pub statement-returns-in-If-clause-keeps : goal.statement-returns-in-If-clause-keeps
statement-returns-in-If-clause-keeps g t c =
    extends-then _ _ _ (extends-then _ _ _ c.condition-on.ensures.keeps c.statement-first.ensures.keeps) c.else_branch-second.ensures.keeps

pub else_branch-statement-made-requires : goal.else_branch-statement-made-requires
else_branch-statement-made-requires g t c =
    let e = c.get-behind.result.now in
    let is : c.args.other.now ≡ Some e = cc (c.in-Some.is, c.get-behind.ensures) in
    let w : stmt_written (out-Else e).body ≡ true = else-written c.args.other.now e is c.requires.written in
    search (rules, the_lemmas)

pub else_branch-returns-in-None-clause-value : goal.else_branch-returns-in-None-clause-value
else_branch-returns-in-None-clause-value g t c =
    else-none (context_of g.B.Names.context c.args.names.now) c.args.other.now c.args.known.now.functions c.in-None.is

pub else_branch-returns-in-Some-clause-value : goal.else_branch-returns-in-Some-clause-value
else_branch-returns-in-Some-clause-value g t c =
    let e = c.get-behind.result.now in
    let is : c.args.other.now ≡ Some e = cc (c.in-Some.is, c.get-behind.ensures) in
    else-types c.args.other.now e is (context_of g.B.Names.context c.args.names.now) c.args.known.now.functions c.statement-made.new.known.functions c.statement-made.result c.some_of.result c.some_of.ensures c.statement-made.ensures.value

-- `case` statements
pub statement-condition-sought-requires-clause-written : goal.statement-condition-sought-requires-clause-written
statement-condition-sought-requires-clause-written g t c =
    let i = c.in-Case in
    case-sought i.promise i.keyword i.opening i.value i.closing i.items i.end c.args.s.now i.is i.items refl c.requires.written

pub statement-case_items-found-requires : goal.statement-case_items-found-requires
statement-case_items-found-requires g t c =
    let i = c.in-Case in
    let xs = c.as_slice-cases.result.now in
    let same : c.args.s.now ≡ V.Case i.promise i.keyword i.opening i.value i.closing xs i.end = case-at i.promise i.keyword i.opening i.value i.closing i.items i.end c.args.s.now i.is xs c.as_slice-cases.ensures in
    let w : cases_written xs ≡ true = case-items i.promise i.keyword i.opening i.value i.closing i.items i.end c.args.s.now i.is xs c.as_slice-cases.ensures c.requires.written in
    search (rules, the_lemmas)

pub statement-returns-in-Case-clause-value : goal.statement-returns-in-Case-clause-value
statement-returns-in-Case-clause-value g t c =
    let i = c.in-Case in
    let k = context_of g.B.Names.context c.args.names.now in
    let xs = c.as_slice-cases.result.now in
    let fs = c.args.known.now.functions in
    let gs = c.condition-sought.new.known.functions in
    let hs = c.case_items-found.new.known.functions in
    case-meant i.promise i.keyword i.opening i.value i.closing i.items i.end c.args.s.now i.is xs c.as_slice-cases.ensures k fs hs c.case_of.result (c.case_of.ensures k i.value xs fs gs hs c.condition-sought.ensures.value c.case_items-found.ensures.value)

pub statement-returns-in-Case-clause-keeps : goal.statement-returns-in-Case-clause-keeps
statement-returns-in-Case-clause-keeps g t c =
    extends-then _ _ _ c.condition-sought.ensures.keeps c.case_items-found.ensures.keeps

-- loops
pub statement-loop_variable-variable-requires-clause-written : goal.statement-loop_variable-variable-requires-clause-written
statement-loop_variable-variable-requires-clause-written g t c =
    let i = c.in-For in
    for-start i.keyword i.opening i.first i.first_semicolon i.test i.test_semicolon i.step i.closing i.body c.args.s.now i.is i.body refl c.requires.written

pub statement-test_and_step-controlled-requires-clause-needs : goal.statement-test_and_step-controlled-requires-clause-needs
statement-test_and_step-controlled-requires-clause-needs g t c =
    let k = context_of g.B.Names.context c.args.names.now in
    let j = context_of g.B.Names.context c.in_ok-inner-in-For.inner in
    needs-alike _ _ _ _ j k (entered-routine k j c.loop_variable-variable.result c.in_ok-inner-in-For.ensures) c.requires.needs

pub statement-test_and_step-controlled-requires-clause-names : goal.statement-test_and_step-controlled-requires-clause-names
statement-test_and_step-controlled-requires-clause-names g t c =
    let i = c.in-For in
    let k = context_of g.B.Names.context c.args.names.now in
    let j = context_of g.B.Names.context c.in_ok-inner-in-For.inner in
    entered-names k j c.loop_variable-variable.result c.in_ok-inner-in-For.ensures i.first c.args.known.now.functions c.loop_variable-variable.new.known.functions c.requires.names (for-start i.keyword i.opening i.first i.first_semicolon i.test i.test_semicolon i.step i.closing i.body c.args.s.now i.is i.body refl c.requires.written) c.requires.ready.sound
    c.loop_variable-variable.ensures.value

pub statement-test_and_step-controlled-requires-clause-narrow : goal.statement-test_and_step-controlled-requires-clause-narrow
statement-test_and_step-controlled-requires-clause-narrow g t c =
    let i = c.in-For in
    let k = context_of g.B.Names.context c.args.names.now in
    variable-narrow k i.first c.loop_variable-variable.result c.args.known.now.functions c.loop_variable-variable.new.known.functions c.requires.names (for-start i.keyword i.opening i.first i.first_semicolon i.test i.test_semicolon i.step i.closing i.body c.args.s.now i.is i.body refl c.requires.written) c.requires.ready.sound
    c.loop_variable-variable.ensures.value

pub statement-test_and_step-controlled-requires-clause-test : goal.statement-test_and_step-controlled-requires-clause-test
statement-test_and_step-controlled-requires-clause-test g t c =
    let i = c.in-For in
    for-test i.keyword i.opening i.first i.first_semicolon i.test i.test_semicolon i.step i.closing i.body c.args.s.now i.is i.body refl c.requires.written

pub statement-test_and_step-controlled-requires-clause-step : goal.statement-test_and_step-controlled-requires-clause-step
statement-test_and_step-controlled-requires-clause-step g t c =
    let i = c.in-For in
    for-step i.keyword i.opening i.first i.first_semicolon i.test i.test_semicolon i.step i.closing i.body c.args.s.now i.is i.body refl c.requires.written

pub statement-statement-turn-requires : goal.statement-statement-turn-requires
statement-statement-turn-requires g t c =
    let i = c.in-For in
    let b = c.get-repeated.result.now in
    let k = context_of g.B.Names.context c.args.names.now in
    let j = context_of g.B.Names.context c.in_ok-inner-in-For.inner in
    let same : c.args.s.now ≡ V.For i.keyword i.opening i.first i.first_semicolon i.test i.test_semicolon i.step i.closing b = for-at i.keyword i.opening i.first i.first_semicolon i.test i.test_semicolon i.step i.closing i.body c.args.s.now i.is b c.get-repeated.ensures in
    let w : stmt_written b ≡ true = for-body i.keyword i.opening i.first i.first_semicolon i.test i.test_semicolon i.step i.closing i.body c.args.s.now i.is b c.get-repeated.ensures c.requires.written in
    let needs = needs-alike _ _ _ _ j k (entered-routine k j c.loop_variable-variable.result c.in_ok-inner-in-For.ensures) c.requires.needs in
    let names = entered-names k j c.loop_variable-variable.result c.in_ok-inner-in-For.ensures i.first c.args.known.now.functions c.loop_variable-variable.new.known.functions c.requires.names (for-start i.keyword i.opening i.first i.first_semicolon i.test i.test_semicolon i.step i.closing i.body c.args.s.now i.is i.body refl c.requires.written) c.requires.ready.sound
    c.loop_variable-variable.ensures.value in
    search (rules, the_lemmas)

pub statement-returns-in_ok-inner-in-For-clause-value : goal.statement-returns-in_ok-inner-in-For-clause-value
statement-returns-in_ok-inner-in-For-clause-value g t c =
    let i = c.in-For in
    let b = c.get-repeated.result.now in
    let k = context_of g.B.Names.context c.args.names.now in
    let j = context_of g.B.Names.context c.in_ok-inner-in-For.inner in
    let fs = c.args.known.now.functions in
    let gs = c.loop_variable-variable.new.known.functions in
    let hs = c.test_and_step-controlled.new.known.functions in
    let js = c.statement-turn.new.known.functions in
    let v = c.loop_variable-variable.result in
    let o = known_of (as_meant variable_of v) in
    let text = c.in_ok-inner-in-For.ensures in
    let control = subst (λ (l : Context). TypesTo (as_meant control_of c.test_and_step-controlled.result) (controlled l o i.test i.step gs) hs) text c.test_and_step-controlled.ensures.value in
    let turn = subst (λ (l : Context). TypesTo c.statement-turn.result (D.stmt_meaning b l hs) js) text c.statement-turn.ensures.value in
    for-meant i.keyword i.opening i.first i.first_semicolon i.test i.test_semicolon i.step i.closing i.body c.args.s.now i.is b c.get-repeated.ensures k fs js c.loop_of.result
    (c.loop_of.ensures k (D.loop_variable k i.first) (λ q. controlled (D.in_loop k q) q i.test i.step) (λ q. D.stmt_meaning b (D.in_loop k q)) fs gs hs js c.text.ensures c.loop_variable-variable.ensures.value control turn)

pub statement-returns-in_ok-inner-in-For-clause-keeps : goal.statement-returns-in_ok-inner-in-For-clause-keeps
statement-returns-in_ok-inner-in-For-clause-keeps g t c =
    extends-then _ _ _ (extends-then _ _ _ c.loop_variable-variable.ensures.keeps c.test_and_step-controlled.ensures.keeps) c.statement-turn.ensures.keeps

-- statements without statements in them
pub statement-returns-in-Break-clause-value : goal.statement-returns-in-Break-clause-value
statement-returns-in-Break-clause-value g t c =
    break-meant c.in-Break.keyword c.in-Break.semicolon c.args.s.now c.in-Break.is (context_of g.B.Names.context c.args.names.now) c.args.known.now.functions

pub statement-returns-in-Continue-clause-value : goal.statement-returns-in-Continue-clause-value
statement-returns-in-Continue-clause-value g t c =
    continue-meant c.in-Continue.keyword c.in-Continue.semicolon c.args.s.now c.in-Continue.is (context_of g.B.Names.context c.args.names.now) c.args.known.now.functions

pub statement-returns-in-Empty-clause-value : goal.statement-returns-in-Empty-clause-value
statement-returns-in-Empty-clause-value g t c =
    empty-meant c.in-Empty.semicolon c.args.s.now c.in-Empty.is (context_of g.B.Names.context c.args.names.now) c.args.known.now.functions c.empty.result c.empty.ensures

pub statement-returned-requires-clause-of : goal.statement-returned-requires-clause-of
statement-returned-requires-clause-of g t c = c.given-given.ensures

pub statement-returned-requires-clause-written : goal.statement-returned-requires-clause-written
statement-returned-requires-clause-written g t c =
    return-written c.in-Return.keyword c.in-Return.value c.in-Return.semicolon c.args.s.now c.in-Return.is _ c.as_ref.ensures.value c.requires.written

pub statement-returns-in-Return-clause-value : goal.statement-returns-in-Return-clause-value
statement-returns-in-Return-clause-value g t c =
    return-meant c.in-Return.keyword c.in-Return.value c.in-Return.semicolon c.args.s.now c.in-Return.is _ c.as_ref.ensures.value (context_of g.B.Names.context c.args.names.now) c.args.known.now.functions c.returned.new.known.functions c.returned.result c.returned.ensures.value

pub statement-task_called-requires-clause-written : goal.statement-task_called-requires-clause-written
statement-task_called-requires-clause-written g t c =
    let i = c.in-Call in
    call-written i.of i.opening i.arguments i.closing i.semicolon c.args.s.now i.is c.as_slice-passed.result.now c.as_slice-passed.ensures c.requires.written

pub statement-returns-in-Call-clause-value : goal.statement-returns-in-Call-clause-value
statement-returns-in-Call-clause-value g t c =
    let i = c.in-Call in
    call-meant i.of i.opening i.arguments i.closing i.semicolon c.args.s.now i.is c.as_slice-passed.result.now c.as_slice-passed.ensures (context_of g.B.Names.context c.args.names.now) c.args.known.now.functions c.task_called.new.known.functions c.task_called.result c.task_called.ensures.value

pub statement-assign-requires-clause-target : goal.statement-assign-requires-clause-target
statement-assign-requires-clause-target g t c =
    let i = c.in-Assign in
    assign-target i.target i.operator i.at i.value i.semicolon c.args.s.now i.is c.requires.written

pub statement-assign-requires-clause-written : goal.statement-assign-requires-clause-written
statement-assign-requires-clause-written g t c =
    let i = c.in-Assign in
    assign-value i.target i.operator i.at i.value i.semicolon c.args.s.now i.is c.requires.written

pub statement-returns-in-Assign-clause-value : goal.statement-returns-in-Assign-clause-value
statement-returns-in-Assign-clause-value g t c =
    let i = c.in-Assign in
    assign-meant i.target i.operator i.at i.value i.semicolon c.args.s.now i.is (context_of g.B.Names.context c.args.names.now) c.args.known.now.functions c.assign.new.known.functions c.assign.result c.assign.ensures.value

pub statement-counted-requires-clause-written : goal.statement-counted-requires-clause-written
statement-counted-requires-clause-written g t c =
    let i = c.in-Postfix in
    postfix-written i.name i.selects i.operator i.at i.semicolon c.args.s.now i.is c.as_slice-behind.result.now c.as_slice-behind.ensures c.requires.written

pub statement-returns-in-Postfix-clause-value : goal.statement-returns-in-Postfix-clause-value
statement-returns-in-Postfix-clause-value g t c =
    let i = c.in-Postfix in
    postfix-meant i.name i.selects i.operator i.at i.semicolon c.args.s.now i.is c.as_slice-behind.result.now c.as_slice-behind.ensures (context_of g.B.Names.context c.args.names.now) c.args.known.now.functions c.counted.new.known.functions c.counted.result c.counted.ensures.value

pub statement-counted-requires-in-Prefix-clause-written : goal.statement-counted-requires-in-Prefix-clause-written
statement-counted-requires-in-Prefix-clause-written g t c =
    let i = c.in-Prefix in
    prefix-written i.operator i.at i.name i.selects i.semicolon c.args.s.now i.is c.as_slice-chosen.result.now c.as_slice-chosen.ensures c.requires.written

pub statement-returns-in-Prefix-clause-value : goal.statement-returns-in-Prefix-clause-value
statement-returns-in-Prefix-clause-value g t c =
    let i = c.in-Prefix in
    prefix-meant i.operator i.at i.name i.selects i.semicolon c.args.s.now i.is c.as_slice-chosen.result.now c.as_slice-chosen.ensures (context_of g.B.Names.context c.args.names.now) c.args.known.now.functions c.counted-in-Prefix.new.known.functions c.counted-in-Prefix.result c.counted-in-Prefix.ensures.value

-- items of `case` statements
pub found_item-item_values-found-requires-clause-written : goal.found_item-item_values-found-requires-clause-written
found_item-item_values-found-requires-clause-written g t c =
    let i = c.in-Values in
    let es = c.as_slice-written.result.now in
    values-written i.values i.colon i.body c.args.item.now i.is es c.as_slice-written.ensures c.requires.written

pub found_item-statement-made-requires : goal.found_item-statement-made-requires
found_item-statement-made-requires g t c =
    let i = c.in-Values in
    let w : stmt_written i.body ≡ true = values-body i.values i.colon i.body c.args.item.now i.is i.values refl c.requires.written in
    search (rules, the_lemmas)

pub found_item-statement-other-requires : goal.found_item-statement-other-requires
found_item-statement-other-requires g t c =
    let i = c.in-Default in
    let w : stmt_written i.body ≡ true = default-body i.keyword i.colon i.body c.args.item.now i.is c.requires.written in
    search (rules, the_lemmas)

pub found_item-item_by-requires-clause-within : goal.found_item-item_by-requires-clause-within
found_item-item_by-requires-clause-within g t c =
    within-longer c.item_values-found.new.known.functions c.statement-made.new.known.functions c.len-before.result c.len-before.ensures c.statement-made.ensures.keeps

pub found_item-item_by-requires-clause-sound : goal.found_item-item_by-requires-clause-sound
found_item-item_by-requires-clause-sound g t c =
    sound-before c.item_values-found.new.known.functions c.statement-made.new.known.functions c.len-before.result c.len-before.ensures c.statement-made.ensures.keeps c.item_values-found.ensures.ready.sound

pub found_item-item_by-requires-in-Default-clause-within : goal.found_item-item_by-requires-in-Default-clause-within
found_item-item_by-requires-in-Default-clause-within g t c =
    within-longer c.args.known.now.functions c.statement-other.new.known.functions c.len-count.result c.len-count.ensures c.statement-other.ensures.keeps

pub found_item-item_by-requires-in-Default-clause-sound : goal.found_item-item_by-requires-in-Default-clause-sound
found_item-item_by-requires-in-Default-clause-sound g t c =
    sound-before c.args.known.now.functions c.statement-other.new.known.functions c.len-count.result c.len-count.ensures c.statement-other.ensures.keeps c.requires.ready.sound

pub found_item-returns-then-ends-clause-value : goal.found_item-returns-then-ends-clause-value
found_item-returns-then-ends-clause-value g t c =
    let i = c.in-Values in
    let es = c.as_slice-written.result.now in
    let gs = c.item_values-found.new.known.functions in
    values-end (context_of g.B.Names.context c.args.names.now) c.args.item.now es i.colon i.body c.args.known.now.functions gs c.item_values-found.result (values-are i.values i.colon i.body c.args.item.now i.is es c.as_slice-written.ensures) c.item_values-found.ensures.value c.ended.result gs (sym c.ends.ensures ∙ c.if-ends.true) c.ended.ensures

pub found_item-returns-else-ends-clause-value : goal.found_item-returns-else-ends-clause-value
found_item-returns-else-ends-clause-value g t c =
    let i = c.in-Values in
    let es = c.as_slice-written.result.now in
    let gs = c.item_values-found.new.known.functions in
    let hs = c.statement-made.new.known.functions in
    let js = c.item_by.new.known.functions in
    let made = c.statement-made.result in
    values-found (context_of g.B.Names.context c.args.names.now) c.args.item.now es i.colon i.body c.args.known.now.functions gs c.item_values-found.result (values-are i.values i.colon i.body c.args.item.now i.is es c.as_slice-written.ensures) c.item_values-found.ensures.value c.item_by.result made hs js (sym c.ends.ensures ∙ c.if-ends.false)
    c.statement-made.ensures.value c.statement-made.ensures.keeps (subst (λ (n : ℕ). Kept made hs js n) c.len-before.ensures c.item_by.ensures.functions) c.item_by.ensures.item

pub found_item-returns-else-ends-clause-keeps : goal.found_item-returns-else-ends-clause-keeps
found_item-returns-else-ends-clause-keeps g t c =
    extends-then _ _ _ c.item_values-found.ensures.keeps
    (kept-extends c.statement-made.result c.item_values-found.new.known.functions c.statement-made.new.known.functions c.item_by.new.known.functions c.len-before.result c.len-before.ensures c.statement-made.ensures.keeps c.item_by.ensures.functions)

pub found_item-returns-in-Default-clause-value : goal.found_item-returns-in-Default-clause-value
found_item-returns-in-Default-clause-value g t c =
    let i = c.in-Default in
    let fs = c.args.known.now.functions in
    let hs = c.statement-other.new.known.functions in
    let js = c.item_by-in-Default.new.known.functions in
    let made = c.statement-other.result in
    default-found (context_of g.B.Names.context c.args.names.now) c.args.item.now i.keyword i.colon i.body fs c.no_values-none.result (default-is i.keyword i.colon i.body c.args.item.now i.is) c.no_values-none.ensures c.item_by-in-Default.result made hs js c.statement-other.ensures.value
    c.statement-other.ensures.keeps (subst (λ (n : ℕ). Kept made hs js n) c.len-count.ensures c.item_by-in-Default.ensures.functions) c.item_by-in-Default.ensures.item

pub found_item-returns-in-Default-clause-keeps : goal.found_item-returns-in-Default-clause-keeps
found_item-returns-in-Default-clause-keeps g t c =
    kept-extends c.statement-other.result c.args.known.now.functions c.statement-other.new.known.functions c.item_by-in-Default.new.known.functions c.len-count.result c.len-count.ensures c.statement-other.ensures.keeps c.item_by-in-Default.ensures.functions

pub case_items-found_item-requires : goal.case_items-found_item-requires
case_items-found_item-requires g t c =
    let w : case_written c.item-item.result ≡ true = cases-at c.args.items.now c.loop-item.item-index c.item-item.result c.requires.written c.loop-item-test.true c.item-item.is in
    search (rules, the_lemmas)

pub case_items-loop-item-init : goal.case_items-loop-item-init
case_items-loop-item-init g t c = record {
  made = none-yet (context_of g.B.Names.context c.args.names.now) c.new-made.result.items c.args.known.now.functions c.new-made.ensures.items;
  ready = c.requires.ready;
  keeps = extends-same c.args.known.now.functions;
}

pub case_items-loop-item-preserved : goal.case_items-loop-item-preserved
case_items-loop-item-preserved g t c =
    let found = c.in_ok-found.found in
    record {
      made =
          item-more (context_of g.B.Names.context c.args.names.now) c.args.items.now c.loop-item.item-index c.item-item.result c.loop-item.made.items c.push.new.self.items found c.args.known.now.functions c.loop-item.known.functions c.found_item.new.known.functions c.loop-item-test.true c.item-item.is c.in_ok-push.ensures.items
          (listed-loud found.values ∙ sym c.ends-last.ensures ∙ c.if-last.false) c.loop-item.invariant.made c.in_ok-found.ensures.value;
      ready = c.found_item.ensures.ready;
      keeps = extends-then _ _ _ c.loop-item.invariant.keeps c.found_item.ensures.keeps;
    }

pub case_items-returns-then-last-clause-value : goal.case_items-returns-then-last-clause-value
case_items-returns-then-last-clause-value g t c =
    let found = c.in_ok-found.found in
    found-loud (context_of g.B.Names.context c.args.names.now) c.args.items.now c.loop-item.item-index c.item-item.result c.loop-item.made.items c.push.new.self.items found c.args.known.now.functions c.loop-item.known.functions c.found_item.new.known.functions c.loop-item-test.true c.item-item.is c.in_ok-push.ensures.items
    (listed-loud found.values ∙ sym c.ends-last.ensures ∙ c.if-last.true) c.loop-item.invariant.made c.in_ok-found.ensures.value

pub case_items-returns-clause-value : goal.case_items-returns-clause-value
case_items-returns-clause-value g t c =
    all-found (context_of g.B.Names.context c.args.names.now) c.args.items.now c.loop-item.item-index c.loop-item.made.items c.args.known.now.functions c.loop-item.known.functions c.loop-item-test.false c.loop-item.invariant.made

-- items of blocks
pub part-statement-made-requires : goal.part-statement-made-requires
part-statement-made-requires g t c =
    let w : stmt_written c.in-Statement.s ≡ true = statement-written c.in-Statement.s c.args.item.now c.in-Statement.is c.requires.written in
    search (rules, the_lemmas)

pub part-returns-in-Statement-clause-value : goal.part-returns-in-Statement-clause-value
part-returns-in-Statement-clause-value g t c =
    let i = c.in-Statement in
    let k = context_of g.B.Names.context c.args.names.now in
    let fs = c.args.known.now.functions in
    let gs = c.statement-made.new.known.functions in
    statement-meant i.s c.args.item.now i.is k fs gs (as_meant part_meant c.of_statement.result) (statement-types c.statement-made.result c.of_statement.result (D.stmt_meaning i.s k) fs gs c.of_statement.ensures c.statement-made.ensures.value)

pub part-returns-in-Statement-clause-sound : goal.part-returns-in-Statement-clause-sound
part-returns-in-Statement-clause-sound g t c =
    statement-sound c.statement-made.result c.of_statement.result c.statement-made.new.known.functions c.of_statement.ensures

pub part-parameters-declared-requires-clause-written : goal.part-parameters-declared-requires-clause-written
part-parameters-declared-requires-clause-written g t c =
    let i = c.in-Parameters in
    let bs = c.as_slice-bodies.result.now in
    parameters-written i.p c.args.item.now i.is bs c.as_slice-bodies.ensures c.requires.written

pub part-returns-in-Parameters-clause-value : goal.part-returns-in-Parameters-clause-value
part-returns-in-Parameters-clause-value g t c =
    let i = c.in-Parameters in
    let k = context_of g.B.Names.context c.args.names.now in
    let fs = c.args.known.now.functions in
    let gs = c.parameters-declared.new.known.functions in
    let bs = c.as_slice-bodies.result.now in
    parameters-meant i.p c.args.item.now i.is bs c.as_slice-bodies.ensures k fs gs (as_meant part_meant c.of_declared.result)
    (declared-types c.parameters-declared.result c.of_declared.result (D.parameters k (D.IsValue (D.OfValue None)) bs) fs gs c.of_declared.ensures c.parameters-declared.ensures.value)

pub part-returns-in-Parameters-clause-sound : goal.part-returns-in-Parameters-clause-sound
part-returns-in-Parameters-clause-sound g t c =
    let i = c.in-Parameters in
    let k = context_of g.B.Names.context c.args.names.now in
    let bs = c.as_slice-bodies.result.now in
    part-sound c.parameters-declared.result c.of_declared.result (D.parameters k (D.IsValue (D.OfValue None)) bs) c.args.known.now.functions c.parameters-declared.new.known.functions c.of_declared.ensures c.parameters-declared.ensures.value
    (parameters-keep AllSoundFunctions k (D.IsValue (D.OfValue None)) bs c.requires.names (parameters-written i.p c.args.item.now i.is bs c.as_slice-bodies.ensures c.requires.written) tt) c.requires.ready.sound

pub part-variables-declared-requires-clause-type_written : goal.part-variables-declared-requires-clause-type_written
part-variables-declared-requires-clause-type_written g t c =
    let i = c.in-Variables in
    variables-type i.automatic i.«var» i.of i.declarators i.semicolon c.args.item.now i.is i.declarators refl c.requires.written

pub part-variables-declared-requires-clause-written : goal.part-variables-declared-requires-clause-written
part-variables-declared-requires-clause-written g t c =
    let i = c.in-Variables in
    let ds = c.as_slice-declarators.result.now in
    variables-written i.automatic i.«var» i.of i.declarators i.semicolon c.args.item.now i.is ds c.as_slice-declarators.ensures c.requires.written

pub part-returns-in-Variables-clause-value : goal.part-returns-in-Variables-clause-value
part-returns-in-Variables-clause-value g t c =
    let i = c.in-Variables in
    let k = context_of g.B.Names.context c.args.names.now in
    let fs = c.args.known.now.functions in
    let gs = c.variables-declared.new.known.functions in
    let ds = c.as_slice-declarators.result.now in
    variables-meant i.automatic i.«var» i.of i.declarators i.semicolon c.args.item.now i.is ds c.as_slice-declarators.ensures k fs gs (as_meant part_meant c.of_declared-in-Variables.result)
    (declared-types c.variables-declared.result c.of_declared-in-Variables.result (D.variables_of k (typed_text i.of k) ds) fs gs c.of_declared-in-Variables.ensures c.variables-declared.ensures.value)

pub part-returns-in-Variables-clause-sound : goal.part-returns-in-Variables-clause-sound
part-returns-in-Variables-clause-sound g t c =
    let i = c.in-Variables in
    let k = context_of g.B.Names.context c.args.names.now in
    let ds = c.as_slice-declarators.result.now in
    part-sound c.variables-declared.result c.of_declared-in-Variables.result (D.variables_of k (typed_text i.of k) ds) c.args.known.now.functions c.variables-declared.new.known.functions c.of_declared-in-Variables.ensures c.variables-declared.ensures.value
    (variables-keep AllSoundFunctions k (typed_text i.of k) ds c.requires.names (variables-written i.automatic i.«var» i.of i.declarators i.semicolon c.args.item.now i.is ds c.as_slice-declarators.ensures c.requires.written) (text-keeps AllSoundFunctions k i.of c.requires.names (variables-type i.automatic i.«var» i.of i.declarators i.semicolon c.args.item.now i.is ds c.as_slice-declarators.ensures c.requires.written))) c.requires.ready.sound

pub part-named_variables-declared-requires-clause-type_written : goal.part-named_variables-declared-requires-clause-type_written
part-named_variables-declared-requires-clause-type_written g t c =
    let i = c.in-NamedVariables in
    named-selects i.of i.selects i.declarators i.semicolon c.args.item.now i.is c.as_slice-selects.result.now c.as_slice-selects.ensures i.declarators refl c.requires.written

pub part-named_variables-declared-requires-clause-written : goal.part-named_variables-declared-requires-clause-written
part-named_variables-declared-requires-clause-written g t c =
    let i = c.in-NamedVariables in
    let ss = c.as_slice-selects.result.now in
    let ds = c.as_slice-declared_here.result.now in
    named-written i.of i.selects i.declarators i.semicolon c.args.item.now i.is ss c.as_slice-selects.ensures ds c.as_slice-declared_here.ensures c.requires.written

pub part-returns-in-NamedVariables-clause-value : goal.part-returns-in-NamedVariables-clause-value
part-returns-in-NamedVariables-clause-value g t c =
    let i = c.in-NamedVariables in
    let ss = c.as_slice-selects.result.now in
    let ds = c.as_slice-declared_here.result.now in
    let k = context_of g.B.Names.context c.args.names.now in
    let fs = c.args.known.now.functions in
    let gs = c.named_variables-declared.new.known.functions in
    named-meant i.of i.selects i.declarators i.semicolon c.args.item.now i.is ss c.as_slice-selects.ensures ds c.as_slice-declared_here.ensures k fs gs (as_meant part_meant c.of_declared-in-NamedVariables.result)
    (declared-types c.named_variables-declared.result c.of_declared-in-NamedVariables.result (D.variables_of k (D.selected_type k i.of ss) ds) fs gs c.of_declared-in-NamedVariables.ensures c.named_variables-declared.ensures.value)

pub part-returns-in-NamedVariables-clause-sound : goal.part-returns-in-NamedVariables-clause-sound
part-returns-in-NamedVariables-clause-sound g t c =
    let i = c.in-NamedVariables in
    let ss = c.as_slice-selects.result.now in
    let ds = c.as_slice-declared_here.result.now in
    let k = context_of g.B.Names.context c.args.names.now in
    part-sound c.named_variables-declared.result c.of_declared-in-NamedVariables.result (D.variables_of k (D.selected_type k i.of ss) ds) c.args.known.now.functions c.named_variables-declared.new.known.functions c.of_declared-in-NamedVariables.ensures
    c.named_variables-declared.ensures.value
    (variables-keep AllSoundFunctions k (D.selected_type k i.of ss) ds c.requires.names (named-written i.of i.selects i.declarators i.semicolon c.args.item.now i.is ss c.as_slice-selects.ensures ds c.as_slice-declared_here.ensures c.requires.written) (selected-keeps AllSoundFunctions k i.of ss c.requires.names (named-selects i.of i.selects i.declarators i.semicolon c.args.item.now i.is ss c.as_slice-selects.ensures ds c.as_slice-declared_here.ensures c.requires.written))) c.requires.ready.sound

-- blocks: a loop over their items
pub block-part-next-requires : goal.block-part-next-requires
block-part-next-requires g t c =
    let k = context_of g.B.Names.context c.args.names.now in
    let j = context_of g.B.Names.context c.loop-item.inner in
    let w : item_written c.item-item.result ≡ true = items-at c.args.items.now c.loop-item.item-index c.item-item.result c.requires.written c.loop-item-test.true c.item-item.is in
    let needs = needs-alike _ _ _ _ j k c.loop-item.invariant.routine c.requires.needs in
    let names = c.loop-item.invariant.names in
    search (rules, the_lemmas)

pub block-returns-clause-value : goal.block-returns-clause-value
block-returns-clause-value g t c =
    let k = context_of g.B.Names.context c.args.names.now in
    let j = context_of g.B.Names.context c.loop-item.inner in
    let fs = c.args.known.now.functions in
    let gs = c.loop-item.known.functions in
    let xs = c.args.items.now in
    let left : drop c.loop-item.item-index xs ≡ [] = drop_all c.loop-item.item-index xs c.loop-item-test.false in
    block-ends k j xs fs gs c.loop-item.made c.block_by.result c.block_by.ensures (subst (λ (ys : List BlockItem). MadeOf c.loop-item.made j ys (made_row k xs fs) gs) left c.loop-item.invariant.made)

pub block-loop-item-init : goal.block-loop-item-init
block-loop-item-init g t c =
    let k = context_of g.B.Names.context c.args.names.now in
    let j = context_of g.B.Names.context c.inside-inner.result in
    record {
      made = block-begins c.new.result k j c.args.items.now c.args.known.now.functions c.inside-inner.ensures.context c.new.ensures.items;
      names = subst (λ (l : Context). Surrounded AllSoundFunctions l) (sym c.inside-inner.ensures.context) c.requires.names;
      routine = ap (λ (l : Context). l.routine) c.inside-inner.ensures.context;
      ready = c.requires.ready;
      keeps = extends-same c.args.known.now.functions;
    }

pub block-loop-item-preserved : goal.block-loop-item-preserved
block-loop-item-preserved g t c =
    let xs = c.args.items.now in
    let x = c.item-item.result in
    let n = c.loop-item.item-index in
    let k = context_of g.B.Names.context c.args.names.now in
    let old = context_of g.B.Names.context c.loop-item.inner in
    let new = context_of g.B.Names.context c.joined.new.scope in
    let fs = c.args.known.now.functions in
    let hs = c.loop-item.known.functions in
    let gs = c.part-next.new.known.functions in
    let row = made_row k xs fs in
    let left : MadeOf c.loop-item.made old (x ∷ drop (n + 1) xs) row hs = subst (λ (ys : List BlockItem). MadeOf c.loop-item.made old ys row hs) (left-at xs n x c.loop-item-test.true c.item-item.is) c.loop-item.invariant.made in
    record {
      made = joined-goes old new x (drop (n + 1) xs) row hs gs c.loop-item.made c.in_ok-made.made c.part-next.result c.in_ok-made.ensures left c.part-next.ensures.value;
      names = joined-names c.loop-item.made c.in_ok-made.made old new c.part-next.result gs c.in_ok-made.ensures c.loop-item.invariant.names c.part-next.ensures.sound;
      routine = joined-routine c.loop-item.made c.in_ok-made.made old new c.part-next.result k.routine c.in_ok-made.ensures c.loop-item.invariant.routine;
      ready = c.part-next.ensures.ready;
      keeps = extends-then _ _ _ c.loop-item.invariant.keeps c.part-next.ensures.keeps;
    }

pub block-returns-in_err-made-clause-keeps : goal.block-returns-in_err-made-clause-keeps
block-returns-in_err-made-clause-keeps g t c = extends-then _ _ _ c.loop-item.invariant.keeps c.part-next.ensures.keeps

pub block-returns-in_err-made-clause-value : goal.block-returns-in_err-made-clause-value
block-returns-in_err-made-clause-value g t c =
    let xs = c.args.items.now in
    let x = c.item-item.result in
    let n = c.loop-item.item-index in
    let k = context_of g.B.Names.context c.args.names.now in
    let old = context_of g.B.Names.context c.loop-item.inner in
    let new = context_of g.B.Names.context c.joined.new.scope in
    let fs = c.args.known.now.functions in
    let hs = c.loop-item.known.functions in
    let gs = c.part-next.new.known.functions in
    let row = made_row k xs fs in
    let left : MadeOf c.loop-item.made old (x ∷ drop (n + 1) xs) row hs = subst (λ (ys : List BlockItem). MadeOf c.loop-item.made old ys row hs) (left-at xs n x c.loop-item-test.true c.item-item.is) c.loop-item.invariant.made in
    let e = err_from_is_err_and c.from_residual.result c.from_residual.ensures.1 in
    let h = c.in_err-made.field-0.0 in
    subst (λ (r : Result R.Stmt Halt). TypesTo r (D.block k (map D.item_meaning xs) fs) gs) (sym (e.1 ∙ ap Err e.2))
    (row-stops k xs fs gs h (joined-stops old new x (drop (n + 1) xs) row hs gs gs c.loop-item.made c.part-next.result h c.in_err-made.ensures left c.part-next.ensures.value))
