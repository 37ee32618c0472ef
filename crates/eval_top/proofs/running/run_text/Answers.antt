use Rattle.std.proofs.Common.{◌≡◌, ℕ, List, Err, sym, ap, subst, ◌∙◌, arith}
use Rattle.std.proofs.lemmas.Result.{err_from_is_err_and}
use Rattle.sv_source.specs.Faults.{NotRaised}
use Rattle.eval_top.specs.Parts.{DesignGives}
use Rattle.eval_top.specs.Answers.{TextGives}
use Rattle.eval_top.proofs.Answering.{by-reading}
use Rattle.eval_top.proofs.running.run_text.Goals as goal

pub returns-in_err-design-clause-gives : goal.returns-in_err-design-clause-gives
returns-in_err-design-clause-gives g c =
    let p = err_from_is_err_and c.from_residual-in_err-design.result c.from_residual-in_err-design.ensures.1 in
    let same : p.0 ≡ c.in_err-design.field-0.0 = p.2 in
    let run = c.args.run.now in
    let told = g.F.Files.contents c.args.files.now in
    let before = g.F.Files.faults c.args.files.now in
    let now = g.F.Files.faults c.load_file.new.files in
    let level : now ≡ before = c.in_ok-bytes.ensures.level in
    let calm : NotRaised before now = omega (arith, level) in
    let gives : DesignGives c.in_ok-path.path c.in_ok-bytes.bytes (Err c.in_err-design.field-0.0) =
    subst (λ (bytes : List ℕ). DesignGives c.in_ok-path.path bytes (Err c.in_err-design.field-0.0)) c.as_bytes.ensures c.in_err-design.ensures in
    subst (TextGives run told before now) (sym (p.1 ∙ ap Err same))
    (by-reading run told before now c.in_ok-path.path c.in_ok-bytes.bytes c.in_err-design.field-0.0 c.in_ok-path.ensures c.in_ok-bytes.ensures.gives calm gives)
