use Rattle.std.proofs.Common.{rules, ap, ap₂, refl, codes, true, Some, ◌≡◌, ◌∙◌, Result}
use Rattle.std.proofs.lemmas.Result.{IfOk-weaker}
use Rattle.clap.specs.Lexer.{usize_max}
use Rattle.clap.specs.Words.{App, Rule, app_of, new_app, new_rule, rule_of, with_rule}
use Rattle.clap.specs.Simple.{app_of_fields, on_top}
use Rattle.eval_words.specs.Command.{lang_rule, top_rule, rows_rule, files_rule, eval_app}
use Rattle.eval_words.proofs.Rules.{several}
use Rattle.eval_words.proofs.command.command.Goals as goal

pub returns : goal.returns
returns c =
    let lang_is : rule_of c.required-lang.result ≡ lang_rule = search rules in
    let top_is : rule_of c.required-top.result ≡ top_rule = search rules in
    let rows_is : rule_of c.required-rows.result ≡ rows_rule = search rules in
    let files_is : rule_of c.required-files.result ≡ files_rule = several c.new-4.result c.num_args.result c.required-files.result (new_rule (codes "FILE")) (record { start_inclusive = 1; end_inclusive = usize_max }) c.new-4.ensures.rule c.num_args.ensures.0 c.num_args.ensures.1 c.required-files.ensures in
    let first : app_of c.no_binary_name.result ≡ on_top (λ s. record s { no_binary_name = true }) (new_app (codes "sv2v_eval")) =
    ap app_of_fields c.no_binary_name.ensures ∙ ap (on_top (λ s. record s { no_binary_name = true })) c.new-5.ensures.app in
    let second : app_of c.disable_help_flag.result ≡ on_top (λ s. record s { disable_help_flag = true }) (on_top (λ s. record s { no_binary_name = true }) (new_app (codes "sv2v_eval"))) =
    ap app_of_fields c.disable_help_flag.ensures ∙ ap (on_top (λ s. record s { disable_help_flag = true })) first in
    let third : app_of c.disable_version_flag.result ≡ on_top (λ s. record s { disable_version_flag = true }) (on_top (λ s. record s { disable_help_flag = true }) (on_top (λ s. record s { no_binary_name = true }) (new_app (codes "sv2v_eval")))) =
    ap app_of_fields c.disable_version_flag.ensures ∙ ap (on_top (λ s. record s { disable_version_flag = true })) second in
    let all : app_of c.in_ok-arg-3.field-0 ≡ with_rule (with_rule (with_rule (on_top (λ s. record s { disable_version_flag = true }) (on_top (λ s. record s { disable_help_flag = true }) (on_top (λ s. record s { no_binary_name = true }) (new_app (codes "sv2v_eval"))))) lang_rule) top_rule) rows_rule =
    c.in_ok-arg-3.ensures.shape (search rules) ∙ ap₂ with_rule (c.in_ok-arg-2.ensures.shape (search rules) ∙ ap₂ with_rule (c.in_ok-arg.ensures.shape (search rules) ∙ ap₂ with_rule third lang_is) top_is) rows_is in
    IfOk-weaker c.arg-4.result _ _ (λ it h. h.shape (search rules) ∙ ap₂ with_rule all files_is) c.arg-4.ensures
