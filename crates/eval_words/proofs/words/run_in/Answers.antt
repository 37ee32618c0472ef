use Rattle.std.proofs.Common.{◌≡◌, ap, codes, ◌∙◌, option_and_then}
use Rattle.std.proofs.lemmas.Result.{IfOk-weaker}
use Rattle.clap.specs.Words.{found_of}
use Rattle.clap.proofs.WalkLemmas.{first_value-rows, raw_values-rows}
use Rattle.eval_words.specs.Words as spec
use Rattle.eval_words.proofs.Rules.{of-equals}
use Rattle.eval_words.proofs.words.run_in.Goals as goal

pub returns : goal.returns
returns c =
    let f = found_of c.args.matches.now in
    IfOk-weaker c.run_of.result _ _
    (λ r e. e ∙ of-equals _ _ _ _ _ _ _ _
    (c.language_in.ensures ∙ ap (option_and_then spec.language_of) (first_value-rows f (codes "lang")))
    (c.get_str.ensures ∙ first_value-rows f (codes "top"))
    (c.get_str-2.ensures ∙ first_value-rows f (codes "ROWS"))
    (c.get_strs.ensures ∙ raw_values-rows f (codes "FILE")))
    c.run_of.ensures
