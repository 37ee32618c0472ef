use Rattle.std.proofs.Common.{◌≡◌, ◌++◌, ◌-◌, map}
use Rattle.expr_type.specs.Answers.{source}
use Rattle.expr_type.specs.Patterns.{times_over}
use Rattle.pattern_types.specs.Keys.{plain_key}
use Rattle.pattern_types.specs.Meaning.{item_keys, keyed_keys}
use Rattle.pattern_types.proofs.keys.repeated_keys.Given as goal

abbrev pub invariant-loop-i : goal.invariant-loop-i
invariant-loop-i l =
    let ks = map (plain_key (source l.text) l.members) (keyed_keys (item_keys l.items)) in
    l.keys ++ times_over (l.times - l._i) ks ≡ times_over l.times ks
