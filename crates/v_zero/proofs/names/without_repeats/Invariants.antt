use Rattle.std.proofs.Common.{◌≡◌, length, take}
use Rattle.v_zero.specs.Zero.{Listed}
use Rattle.v_zero.proofs.names.without_repeats.Given as goal

abbrev pub invariant-loop-n : goal.invariant-loop-n
invariant-loop-n l = record {
  long : length l.marks ≡ length l.fn.marks;
  listed : Listed l.mark (take l.n-index l.numbers) l.marks l.listed;
}
