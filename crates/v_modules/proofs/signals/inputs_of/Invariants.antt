use Rattle.std.proofs.Common.{◌≡◌, ◌++◌, map, drop}
use Rattle.v_meaning.specs.Machine.{is_input}
use Rattle.v_meaning.specs.Modules.{Signal, signals}
use Rattle.v_modules.proofs.signals.inputs_of.Given as goal

abbrev pub invariant-loop-item : goal.invariant-loop-item
invariant-loop-item l =
    l.inputs ++ map (λ (s : Signal). is_input s.kind) (signals (drop l.item-index l.items)) ≡ map (λ (s : Signal). is_input s.kind) (signals l.fn.items)
