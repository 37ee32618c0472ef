use Rattle.std.proofs.Common.{◌≡◌, ◌+◌, ◌≤◌, ◌^◌, map, drop, sum}
use Rattle.sv_core.specs.declared.design.Signal.{Signal}
use Rattle.sv2v_top.proofs.elab_build.signals.fits_in_bits.Given as goal

abbrev pub invariant-loop-signal : goal.invariant-loop-signal
invariant-loop-signal l = record {
  so_far : l.total + sum (map (λ (s : Signal). s.width) (drop l.signal-index l.signals)) ≡ sum (map (λ (s : Signal). s.width) l.signals);
  within : l.total ≤ 2 ^ 22;
}
