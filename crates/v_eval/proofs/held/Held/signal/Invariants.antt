use Rattle.std.proofs.Common.{◌≡◌, drop}
use Rattle.v_eval.specs.Holding.{signal_bits}
use Rattle.v_eval.proofs.held.Held.signal.Given as goal

abbrev pub invariant-loop-slot : goal.invariant-loop-slot
invariant-loop-slot l = signal_bits l.self.signals.now (drop l.slot-index l.self.over.now) l.number ≡ signal_bits l.self.signals.now l.self.over.now l.number
