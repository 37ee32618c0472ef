-- What the check of a top answers.
use Rattle.std.specs.Prelude.{Result, Ok, Err}
use Rattle.v_tree.specs.Names.{Name}
use Rattle.v_tree.specs.Rules.{FitsTop}
use Rattle.v_tree.specs.declared.items.VDesign.{VDesign}
use Rattle.v_top_rules.specs.declared.check.TopFail.{TopFail}
use Rattle.v_top_rules.specs.declared.check.TopFail.TheVariants.{Memory, Unfit}

-- that the design can be run with this module as its top, or that it can't
abbrev pub TopGives : {A : Type 0} → VDesign → Name → Result A TopFail → Type 0
TopGives e top (Ok done) = FitsTop e top
TopGives e top (Err Memory) = Unit {0}
TopGives e top (Err Unfit) = FitsTop e top → ⊥
