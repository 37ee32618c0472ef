use Rattle.std.proofs.Common.{◌≡◌, Err, sym, ap, subst, ◌∙◌, arith}
use Rattle.std.proofs.lemmas.Result.{err_from_is_err_and}
use Rattle.sv_source.specs.Faults.{NotRaised}
use Rattle.eval_top.specs.Answers.{TextGives}
use Rattle.eval_top.proofs.Answering.{by-fit}
use Rattle.eval_top.proofs.running.run_design.Goals as goal

pub returns-in_err-check_fit-clause-gives : goal.returns-in_err-check_fit-clause-gives
returns-in_err-check_fit-clause-gives g c =
    let p = err_from_is_err_and c.from_residual.result c.from_residual.ensures.1 in
    let same : p.0 ≡ c.in_err-check_fit.field-0.0 = p.2 in
    let run = c.args.run.now in
    let told = g.F.Files.contents c.args.files.now in
    let before = g.F.Files.faults c.args.files.now in
    let calm : NotRaised before before = omega arith in
    subst (TextGives run told before before) (sym (p.1 ∙ ap Err same))
    (by-fit run told before before c.args.path.now c.args.design.now c.in_err-check_fit.field-0.0 c.requires.path c.requires.text calm c.in_err-check_fit.ensures)
