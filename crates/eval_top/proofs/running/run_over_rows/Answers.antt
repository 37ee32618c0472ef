use Rattle.std.proofs.Common.{◌≡◌, ℕ, List, Err, sym, ap, subst, ◌∙◌, arith}
use Rattle.std.proofs.lemmas.Result.{err_from_is_err_and}
use Rattle.sv_source.specs.Faults.{NotRaised}
use Rattle.stim_rows.specs.declared.shape.Shape.{Shape}
use Rattle.stim_rows.specs.RowFiles.{RowsText}
use Rattle.v_selects.proofs.Derivations.{spelled-few}
use Rattle.eval_top.specs.Parts.{RowFileGives}
use Rattle.eval_top.specs.Answers.{TextGives}
use Rattle.eval_top.proofs.Answering.{by-row-file, by-rows}
use Rattle.eval_top.proofs.Fitting.{rows-fit}
use Rattle.eval_top.proofs.running.run_over_rows.Goals as goal

pub returns-in_err-bytes-clause-gives : goal.returns-in_err-bytes-clause-gives
returns-in_err-bytes-clause-gives g c =
    let p = err_from_is_err_and c.from_residual.result c.from_residual.ensures.1 in
    let same : p.0 ≡ c.in_err-bytes.field-0.0 = p.2 in
    let run = c.args.run.now in
    let told = g.F.Files.contents c.args.files.now in
    let before = g.F.Files.faults c.args.files.now in
    let now = g.F.Files.faults c.load_file.new.files in
    subst (TextGives run told before now) (sym (p.1 ∙ ap Err same))
    (by-row-file run told before now c.args.design.now c.in_err-bytes.field-0.0 c.requires c.in_err-bytes.ensures.gives)

pub returns-in_err-rows-clause-gives : goal.returns-in_err-rows-clause-gives
returns-in_err-rows-clause-gives g c =
    let p = err_from_is_err_and c.from_residual-in_err-rows.result c.from_residual-in_err-rows.ensures.1 in
    let same : p.0 ≡ c.in_err-rows.field-0.0 = p.2 in
    let run = c.args.run.now in
    let told = g.F.Files.contents c.args.files.now in
    let before = g.F.Files.faults c.args.files.now in
    let now = g.F.Files.faults c.load_file.new.files in
    let level : now ≡ before = c.in_ok-bytes.ensures.level in
    let calm : NotRaised before now = omega (arith, level) in
    let gives : RowFileGives run.rows c.in_ok-shape.shape c.in_ok-bytes.bytes (Err c.in_err-rows.field-0.0) =
    subst (λ (bytes : List ℕ). RowFileGives run.rows c.in_ok-shape.shape bytes (Err c.in_err-rows.field-0.0)) c.as_bytes.ensures c.in_err-rows.ensures in
    subst (TextGives run told before now) (sym (p.1 ∙ ap Err same))
    (by-rows run told before now c.args.design.now c.in_ok-shape.shape c.in_ok-bytes.bytes c.in_err-rows.field-0.0 c.requires c.in_ok-shape.ensures c.in_ok-bytes.ensures.gives calm gives)

pub lines_of-requires-clause-selects : goal.lines_of-requires-clause-selects
lines_of-requires-clause-selects g c = spelled-few c.requires.text.bytes c.args.design.now c.requires.text.reads.spells

pub lines_of-requires-clause-rows : goal.lines_of-requires-clause-rows
lines_of-requires-clause-rows g c =
    let text : RowsText c.in_ok-shape.shape.inputs c.as_bytes.result.now c.in_ok-rows.rows = c.in_ok-rows.ensures.0 in
    rows-fit c.args.design.now c.args.run.now.top c.as_bytes.result.now c.in_ok-rows.rows
    (subst (λ (s : Shape). RowsText s.inputs c.as_bytes.result.now c.in_ok-rows.rows) c.in_ok-shape.ensures text)
