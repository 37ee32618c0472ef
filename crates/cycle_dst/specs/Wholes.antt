-- A design that can be run, and what walks over it find.
use Rattle.std.specs.Prelude.{◌≡◌, true, List, map}
use Rattle.b4_core.specs.declared.bit.Bit4.{Bit4}
use Rattle.v_tree.specs.Names.{Name}
use Rattle.v_tree.specs.Rules.{Keeps, FitsTop}
use Rattle.v_tree.specs.declared.items.VDesign.{VDesign}
use Rattle.v_selects.specs.Few.{few_of_design}
use Rattle.round_runner.specs.Stores.{Holds}
use Rattle.v_meaning.specs.Machine.{machine}
use Rattle.v_meaning.specs.Modules as M
use Rattle.v_instances.specs.Slots.{signal_of}
use Rattle.v_processes.specs.Walks.{IsTabled, HasParts}
use Rattle.cycle_dst.specs.declared.whole.Whole.{Whole}
use Rattle.cycle_dst.specs.Designs.{widths_of}

-- a design that keeps the rules, with a top with which it can be run, with at most two selects behind each name
pub record CanRun (e : VDesign) (top : Name) : Type 0 where
  pub keeps : Keeps e
  pub fits : FitsTop e top
  pub few : few_of_design e ≡ true

pub record IsWhole (w : Whole) : Type 0 where
  pub runs : CanRun w.design.now w.top.now
  pub modules : w.modules.modules.now ≡ w.design.now.modules
  pub tabled : IsTabled w.modules
  pub walked : HasParts w.design.now.modules w.top.now w.found.now
  pub slots : map signal_of w.slots.now ≡ (M.parts w.design.now.modules w.top.now).signals

-- what the signals hold before the first row
pub record InitialIs (w : Whole) (initial : List (List Bit4)) : Type 0 where
  pub held : Holds (widths_of w.design.now w.top.now) (machine w.design.now w.top.now).initial initial
