-- The inputs of the top of a design.
use Rattle.v_tree.specs.Names.{Name}
use Rattle.v_tree.specs.Rules.{Keeps}
use Rattle.v_tree.specs.declared.items.VDesign.{VDesign}
use Rattle.round_runner.specs.Parts.{InputsAre}
use Rattle.v_meaning.specs.Machine.{machine}
use Rattle.cycle_dst.specs.Designs.{widths_of, top_inputs}

-- In a design that keeps the rules the inputs of the machine are the bits of the inputs in the top's port list.
abbrev pub InputsOfTops : Type 0
InputsOfTops = (e : VDesign) (top : Name) → Keeps e → InputsAre (machine e top) (widths_of e top) (top_inputs e top)
