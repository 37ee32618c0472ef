-- A distance between the bounds is less than the number of elements.
use Rattle.std.proofs.Common.{◌<◌, ◌-ℤ◌, rules}
use Rattle.std.specs.Prelude.{unsigned_abs}
use Rattle.sv_types.specs.Layouts.{count_of}
use Rattle.pattern_fit.proofs.Tables.{distance-within}
use Rattle.pattern_fit.proofs.fitting.distance.Goals as goal

pub returns-clause-within : goal.returns-clause-within
returns-clause-within c =
    let h : unsigned_abs (c.args.left -ℤ c.args.i) < count_of c.args.left c.args.right = distance-within c.args.left c.args.right c.args.i c.requires in
    search (rules, h)
