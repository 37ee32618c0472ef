use Rattle.std.proofs.Common.{◌≡◌, true, false, rules}
use Rattle.bound_values.proofs.Looking as K
use Rattle.bound_values.proofs.looks.index_long.Goals as goal

pub returns-then-not-seen : goal.returns-then-not-seen
returns-then-not-seen c = let is : c.args.seen.constant ≡ false = search rules in K.not-constant c.args.seen c.args.known c.args.i.now is

pub returns-in-None : goal.returns-in-None
returns-in-None c = let is : c.args.seen.constant ≡ true = search rules in K.own-index c.own_long.result c.args.seen c.args.known c.args.i.now is c.in-None.is c.own_long.ensures
