use Rattle.std.proofs.Common.{◌≡◌, drop}
use Rattle.built_forms.specs.Built.{gathered, item_of}
use Rattle.built_forms.proofs.Gathering.{behind}
use Rattle.built_forms.proofs.items.items.Given as goal

abbrev pub invariant-loop-one : goal.invariant-loop-one
invariant-loop-one l = behind l.items (gathered (item_of l.tokens) (drop l.one-index l.list)) ≡ gathered (item_of l.tokens) l.list
