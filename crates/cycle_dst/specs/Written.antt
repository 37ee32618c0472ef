-- The bits that the processes of a design may write.
use Rattle.std.specs.Prelude.{◌≡◌, ℕ, ◌<◌, Bool, List, slice_index_or}
use Rattle.row_machine.specs.Valuation.{Place}
use Rattle.v_meaning.specs.Scopes.{Use}
use Rattle.v_meaning.specs.Statements.{covered}
use Rattle.v_meaning.specs.Machine.{is_written}
use Rattle.v_meaning.specs.Modules.{parts}
use Rattle.v_zero.specs.Zero.{marked}
use Rattle.cycle_dst.specs.declared.ground.Ground.{Ground}
use Rattle.cycle_dst.specs.Grounds.{own_of, widths_in}

-- of each bit of signals that have so many, whether uses cover it
pub record MarksAre (ws : List ℕ) (us : List Use) (ms : List (List Bool)) : Type 0 where
  pub value : (q : Place) → q.bit < slice_index_or ws q.signal 0 → marked ms q ≡ covered us q

-- whether a process may write it
pub record MarksOf (g : Ground) (ms : List (List Bool)) : Type 0 where
  pub value : (q : Place) → q.bit < slice_index_or (widths_in g) q.signal 0 → marked ms q ≡ is_written (own_of g) (parts g.design.now.modules g.top.now) q
