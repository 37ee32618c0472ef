use Rattle.std.proofs.Common.{map, sym, ap, ◌∙◌}
use Rattle.std.specs.Prelude.{slice_get}
use Rattle.std.specs.Option.{option_copied}
use Rattle.typing_actions.specs.Calls.{actual_of}
use Rattle.typing_actions.proofs.Calling.{calls-none, calls-some}
use Rattle.typing_actions.proofs.passing.called_stmt.Goals as goal

pub returns-in-None : goal.returns-in-None
returns-in-None c =
    λ k s. calls-none k c.args.at c.args.place (slice_get c.args.functions.now c.args.place) (map (actual_of k.source) c.args.actuals.items) (sym c.at.ensures ∙ ap option_copied c.in-None.is)

pub returns-in-Some : goal.returns-in-Some
returns-in-Some c =
    λ k s. calls-some k c.args.at c.args.place (slice_get c.args.functions.now c.args.place) c.in-Some.function.now (map (actual_of k.source) c.args.actuals.items) c.call_of.result
    (sym c.at.ensures ∙ ap option_copied c.in-Some.is) (c.call_of.ensures k s)
