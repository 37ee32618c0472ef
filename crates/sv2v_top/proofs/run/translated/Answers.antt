use Rattle.std.proofs.Common.{Err, subst}
use Rattle.sv_source.specs.declared.refusal.Fail.{Fail}
use Rattle.sv2v_top.specs.Translation.{TranslationGives}
use Rattle.sv2v_top.proofs.Runs.{refused-gives}
use Rattle.sv2v_top.proofs.run.translated.Goals as goal

pub returns : goal.returns
returns c =
    refused-gives c.args.top.now c.args.expanded.tokens c.args.expanded.files c.in-Err-Refused.refusal c.in_ok-refused-in-Err-Refused.field-0
    (subst (λ (f : Fail). TranslationGives c.args.top.now c.args.expanded.tokens (Err f)) c.in-Err-Refused.field-0-is c.in-Err-Refused.ensures)
    c.in_ok-refused-in-Err-Refused.ensures
