use Rattle.std.proofs.Common.{◌≡◌, pos, arith, rules, ◌∙◌}
use Rattle.std.proofs.lemmas.Int.{ints, to_z-of_z}
use mir.Val.{SFits}
use mir.Syntax.{w128}
use Rattle.picks.specs.Windows.{whole, part}
use Rattle.eval_parts.specs.Places.{window_of}
use Rattle.path_reads.proofs.Running.{high-by}
use Rattle.path_reads.proofs.stored.part_reading.Goals as goal

pub returns-clause-window : goal.returns-clause-window
returns-clause-window c =
    let fits : SFits w128 c.from.result = first_of (omega (arith, ints), search rules) in
    c.part_of.ensures.window ∙ (λ i. part ((to_z-of_z w128 c.from.result fits ∙ c.from.ensures) i) (c.from-2.ensures i) (c.entire.ensures.window i))

pub returns-clause-inside : goal.returns-clause-inside
returns-clause-inside c =
    let fits : SFits w128 c.from.result = first_of (omega (arith, ints), search rules) in
    let window : window_of c.part_of.result ≡ part (pos c.args.run.low) c.args.run.bits (whole c.args.run.all) =
    c.part_of.ensures.window ∙ (λ i. part ((to_z-of_z w128 c.from.result fits ∙ c.from.ensures) i) (c.from-2.ensures i) (c.entire.ensures.window i)) in
    high-by c.part_of.result (pos c.args.run.low) c.args.run.bits c.args.run.all window
