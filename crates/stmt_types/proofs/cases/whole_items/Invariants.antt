use Rattle.std.proofs.Common.{◌≡◌, ℕ, map}
use Rattle.std.specs.Prelude.{nat_lt}
use Rattle.expr_type.specs.Answers.{Gives}
use Rattle.expr_type.specs.Names.{Context}
use Rattle.expr_type.specs.Typings.{all_of}
use Rattle.stmt_types.specs.Cases.{item_of, item_whole}
use Rattle.stmt_types.specs.Lists.{all_meant}
use Rattle.stmt_types.proofs.cases.whole_items.Given as goal

abbrev pub invariant-loop-item : goal.invariant-loop-item
invariant-loop-item l = (k : Context) (w : ℕ) → l.wide ≡ nat_lt 128 w → Gives (all_meant item_of l.made) (all_of (map (item_whole k w) l.yielded))
