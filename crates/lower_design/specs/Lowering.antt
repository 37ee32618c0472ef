-- What a target design is for its source.
use Rattle.std.specs.Prelude.{◌≡◌, true, List}
use Rattle.row_machine.specs.Valuation.{Valuation}
use Rattle.row_machine.specs.Machine.{Started}
use Rattle.row_machine.specs.Settle.{Settled}
use Rattle.row_machine.specs.Trace.{HasTrace, OneTrace}
use Rattle.row_machine.specs.Rounds.{Reaches}
use Rattle.sv_core.specs.declared.design.Design.{Design}
use Rattle.sv_core.specs.Machine as Source
use Rattle.v_tree.specs.declared.items.VDesign.{VDesign}
use Rattle.v_tree.specs.Grammatical.{is_of_grammar}
use Rattle.v_tree.specs.Rules.{Keeps, FitsTop}
use Rattle.v_meaning.specs.Machine as Target
use Rattle.lower_design.specs.Agreement.{TracesAgree}
use Rattle.lower_design.specs.Shape.{Shape}

-- The target design is right for the source design.
pub record Lowers (d : Design) (e : VDesign) : Type 0 where
  -- it is a tree of the target grammar, keeps the rules that need no top, and fits the top
  pub of_grammar : is_of_grammar e ≡ true
  pub keeps : Keeps e
  pub fits_top : FitsTop e d.top
  -- it has the source's shape
  pub shape : Shape d e
  -- any rows have exactly one trace on each side
  pub source_trace : (rows : List Valuation) → OneTrace (Source.machine d) rows
  pub target_trace : (rows : List Valuation) → OneTrace (Target.machine e d.top) rows
  -- and these agree after each row, in every signal
  pub forward : (rows vs : List Valuation) → HasTrace (Source.machine d) rows vs → (us : List Valuation) × HasTrace (Target.machine e d.top) rows us × TracesAgree d e vs us
  pub back : (rows us : List Valuation) → HasTrace (Target.machine e d.top) rows us → (vs : List Valuation) × HasTrace (Source.machine d) rows vs × TracesAgree d e vs us
  -- in each settling of the target the rounds reach the settled valuation
  pub rounds : (s : Started) (base v : Valuation) → Settled (Target.machine e d.top) s base v → Reaches (Target.machine e d.top) s base v
