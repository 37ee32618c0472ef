-- Signals that plain names join to an input of the top.
use Rattle.std.specs.Prelude.{◌≡◌, ℕ, ◌<◌, Bool, true, false, List, length, Some, slice_index_or}
use Rattle.row_machine.specs.Valuation.{Member}
use Rattle.sv_types.specs.declared.design.Design.{Design}
use Rattle.sv_types.specs.declared.design.Process.{Process}
use Rattle.sv_types.specs.declared.design.ProcessKind.TheVariants.{Link}
use Rattle.design_breaks.specs.Breaks as B

module _ (d : Design) where
  -- Ports of connections are signals of the design; and the connection of a plain name that writes its port, which is one assignment to
  -- the whole port, can be unrolled.
  pub record LinksStand : Type 0 where
    pub within : (p : Process) (n : ℕ) → Member d.processes p → p.kind ≡ Link n → n < length d.signals
    pub unrolls : (p : Process) (n m : ℕ) → Member d.processes p → p.kind ≡ Link n → B.is_link_to d n p ≡ true → B.plain_name d p.body ≡ Some m → B.unrolls d p.body ≡ true

  -- of each signal whether it is joined
  pub record AreJoined (marks : List Bool) : Type 0 where
    pub count : length marks ≡ length d.signals
    pub each : (n : ℕ) → n < length d.signals → slice_index_or marks n false ≡ B.is_joined d (length d.signals) n
