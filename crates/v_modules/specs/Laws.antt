-- What the rules on a design say of names.
use Rattle.v_tree.specs.Rules.{Keeps}
use Rattle.v_tree.specs.declared.items.VDesign.{VDesign}
use Rattle.v_modules.specs.Tables.{NamesStandOnce}

abbrev pub NamesOfRules : Type 0
NamesOfRules = (e : VDesign) → Keeps e → NamesStandOnce e.modules
