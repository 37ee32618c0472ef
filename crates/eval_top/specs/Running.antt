-- What a run of a text over rows comes to.
use Rattle.std.specs.Prelude.{◌≡◌, ℕ, ◌+◌, List, [], ◌∷◌, map, Option, if◌then◌else◌}
use Rattle.sv_source.specs.Loading.{Contents}
use Rattle.sv_source.specs.Faults.{Rose}
use Rattle.sv_source.specs.declared.refusal.Refusal.{Refusal}
use Rattle.b4_core.specs.declared.bit.Bit4.{Bit4}
use Rattle.eval_words.specs.declared.words.EvalRun.{EvalRun}
use Rattle.v_tree.specs.Names.{Name}
use Rattle.v_tree.specs.Tokens.{is_simple}
use Rattle.v_tree.specs.declared.items.VDesign.{VDesign}
use Rattle.text_shape.specs.Shapes.{shape_of}
use Rattle.stim_rows.specs.declared.shape.Port.{Port}
use Rattle.stim_rows.specs.Lines.{lines_of}
use Rattle.round_runner.specs.declared.rounds.Change.{Change}
use Rattle.round_runner.specs.Rows.{IsTrace, IsUnsettled}
use Rattle.v_meaning.specs.Modules.{Signal, parts}
use Rattle.v_meaning.specs.Machine.{machine, of_signal}
use Rattle.cycle_dst.specs.Designs.{widths_of}
use Rattle.eval_top.specs.Asking.{first_path}
use Rattle.eval_top.specs.Loading.{HasText, TextBreak, HasRows, RowFileBreak}

-- the signals that the vectors of a row stand for: the top's inputs in port order
abbrev pub inputs_of : VDesign → Name → List ℕ
inputs_of e top = map (λ (p : Port). p.signal) (shape_of e top).inputs

-- what each signal holds after each row: the trace of the rows by rounds of the design's machine
abbrev pub HasTrace : VDesign → Name → List (List (List Bit4)) → List (List (List Bit4)) → Type 0
HasTrace e top rows trace = IsTrace (machine e top) (widths_of e top) (inputs_of e top) rows trace

-- the lines of the trace: for each row the bits of each output of the top
pub record LinesOf (e : VDesign) (top : Name) (outputs : List Port) (rows : List (List (List Bit4))) (lines : List ℕ) : Type 0 where
  pub trace : List (List (List Bit4))
  pub is_trace : HasTrace e top rows trace
  pub are : lines ≡ lines_of outputs trace

-- a name as it is shown: one that isn't simple has the backslash of an escaped identifier in front
abbrev pub shown : Name → List ℕ
shown name = if is_simple name then name else 92 ∷ name

-- There is none: in the row with this number, from 1 on, a settling of the machine doesn't come to rest, and the first signal that
-- the last of its rounds changed has this name.
pub record Unsettles (e : VDesign) (top : Name) (rows : List (List (List Bit4))) (row : ℕ) (name : List ℕ) : Type 0 where
  pub before : ℕ
  pub behind : row ≡ before + 1
  pub change : Change
  pub unsettled : IsUnsettled (machine e top) (widths_of e top) (inputs_of e top) rows before change
  pub is_name : name ≡ shown (of_signal (parts e.modules top).signals [] (λ (s : Signal). s.name) change.signal)

-- the text and the rows are there, and these are the lines
pub record HasLines (run : EvalRun) (told : Option Contents) (lines : List ℕ) : Type 0 where
  pub design : VDesign
  pub text : HasText run told design
  pub rows : List (List (List Bit4))
  pub row_file : HasRows run told design rows
  pub are : LinesOf design run.top (shape_of design run.top).outputs rows lines

-- they are there, and don't settle
pub record HasNoTrace (run : EvalRun) (told : Option Contents) (row : ℕ) (name : List ℕ) : Type 0 where
  pub design : VDesign
  pub text : HasText run told design
  pub rows : List (List (List Bit4))
  pub row_file : HasRows run told design rows
  pub unsettles : Unsettles design run.top rows row name

-- why the file at this path is refused
pub data Cause (run : EvalRun) (told : Option Contents) (path : List ℕ) (r : Refusal) : Type 0 where
  in_text : TextBreak run told r → path ≡ first_path run → Cause run told path r
  in_rows : (e : VDesign) → HasText run told e → RowFileBreak run told e r → path ≡ run.rows → Cause run told path r

-- the file that is loaded: the text, and where that can be run the row file
pub data Loads (run : EvalRun) (told : Option Contents) (path : List ℕ) : Type 0 where
  text : path ≡ first_path run → Loads run told path
  row_file : (e : VDesign) → HasText run told e → path ≡ run.rows → Loads run told path

-- a load failed, and the count of faults rose
pub record IsFaulty (run : EvalRun) (told : Option Contents) (before now : ℕ) (path : List ℕ) : Type 0 where
  pub rose : Rose before now
  pub loads : Loads run told path
