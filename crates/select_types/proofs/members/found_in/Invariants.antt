use Rattle.std.proofs.Common.{◌≡◌, drop}
use Rattle.expr_type.specs.Answers.{source}
use Rattle.expr_type.specs.Names.{word}
use Rattle.expr_type.specs.Selects.{named}
use Rattle.select_types.proofs.members.found_in.Given as goal

abbrev pub invariant-loop-n : goal.invariant-loop-n
invariant-loop-n l = named l.n (drop l.n l.members) (word (source l.text) l.at) ≡ named 0 l.members (word (source l.text) l.at)
