use Rattle.std.proofs.Common.{◌≡◌, ◌++◌, ◌&&◌, map, take, Bool}
use Rattle.sv_types.proofs.convert.push_if.Given as goal

abbrev pub invariant-loop-two : goal.invariant-loop-two
invariant-loop-two l = l.to.items ≡ l.initial.to.items ++ map (λ (b : Bool). b && l.all) (take l.two-index l.fn.marks.items)
