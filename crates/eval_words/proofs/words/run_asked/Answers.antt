use Rattle.std.proofs.Common.{◌≡◌, ap, ◌∙◌, sym, map, string_bytes}
use Rattle.std.proofs.lemmas.Result.{IfOk-weaker}
use Rattle.clap.specs.Words.{matches_of, fault_of, is_simple, is_simple_and_free}
use Rattle.eval_words.proofs.Rules.{simple, simple-and-free, taken}
use Rattle.eval_words.proofs.words.run_asked.Goals as goal

pub returns-in-Ok : goal.returns-in-Ok
returns-in-Ok c =
    let words = map string_bytes c.args.words.now in
    let app_is = c.in_ok-command.ensures in
    IfOk-weaker c.run_in.result _ _
    (λ r e. e ∙ taken words _
    ((c.in-Ok.ensures.matches (ap is_simple app_is ∙ simple)).0 ∙ ap (λ a. matches_of a words) app_is)
    (sym (ap (λ a. fault_of a words) app_is) ∙ c.in-Ok.ensures.kinds (ap is_simple_and_free app_is ∙ simple-and-free)))
    c.run_in.ensures
