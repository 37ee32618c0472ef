-- A local that holds bits, as a sight knows of it.
use Rattle.std.specs.Prelude.{◌≡◌, List, Option}
use Rattle.b4_core.specs.declared.bit.Bit4.{Bit4}
use Rattle.row_machine.specs.Valuation.{put}
use Rattle.sv_types.specs.Surroundings.{local_number}
use Rattle.sv_types.specs.Windows.{whole, written}
use Rattle.eval_parts.specs.Surroundings.{now_of}
use Rattle.expr_flows.specs.declared.known.Variable.{Variable}

-- whatever signals hold, all bits of the local are written
abbrev pub LocalHolds : Variable → List Bit4 → List (Option (List Bit4)) → List (Option (List Bit4)) → Type 0
LocalHolds v bits old new =
    (signals : List (Option (List Bit4))) → now_of signals new ≡ put (written (local_number v.local) (whole v.width) bits) (now_of signals old)
