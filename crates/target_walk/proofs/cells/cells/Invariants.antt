use Rattle.std.proofs.Common.{◌≡◌, ◌*◌, ◌-◌, ◌^◌, min, length}
use Rattle.sv_types.specs.Layouts.{layout}
use Rattle.target_flatten.specs.Owning.{AllOwn}
use Rattle.target_walk.specs.Owning.{PlainOf}
use Rattle.target_walk.specs.Cells.{WritesLowest}
use Rattle.target_walk.proofs.cells.cells.Given as goal

abbrev pub invariant-loop-t : goal.invariant-loop-t
invariant-loop-t l = record {
  first : l.low ≡ min (l.t * length (layout l.e.of).element.two_state) (2 ^ 32 - 1);
  writes : WritesLowest l.image l.e l.indices l.t l.writes;
  own : AllOwn l.image.name l.image.bits l.writes;
  plain : PlainOf l.image l.indices l.writes;
}
