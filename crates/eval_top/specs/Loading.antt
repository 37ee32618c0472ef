-- What the two files of a run hold: its text, which has the number 0, and its row file, which has the number 1.
use Rattle.std.specs.Prelude.{◌≡◌, ℕ, ◌*◌, ◌^◌, ◌≤◌, List, length, Option}
use Rattle.sv_source.specs.Loading.{Contents, LoadsTold, LoadsWithin}
use Rattle.sv_source.specs.declared.files.Loaded.{Loaded}
use Rattle.sv_source.specs.declared.files.Loaded.TheVariants.{Bytes, Absent, TooLong}
use Rattle.sv_source.specs.declared.refusal.Refusal.{Refusal}
use Rattle.b4_core.specs.declared.bit.Bit4.{Bit4}
use Rattle.eval_words.specs.declared.words.EvalRun.{EvalRun}
use Rattle.v_tree.specs.declared.items.VDesign.{VDesign}
use Rattle.v_tree.specs.Reading.{VReads}
use Rattle.v_tree.specs.Rules.{FitsTop}
use Rattle.v_reader.specs.Refusing.{Refused}
use Rattle.text_shape.specs.Shapes.{shape_of}
use Rattle.stim_rows.specs.RowFiles.{RowsText}
use Rattle.stim_rows.specs.Departures.{RowsBreak, row_limit}
use Rattle.eval_top.specs.Asking.{first_path, refusal_at}

-- the most bytes of a text, and of a row file
abbrev pub text_limit : ℕ
text_limit = 2 ^ 28

abbrev pub rows_limit : ℕ
rows_limit = 2 ^ 26

-- what the load of a path may answer, by what the files tell
pub record MayLoad (told : Option Contents) (path : List ℕ) (limit : ℕ) (answer : Loaded) : Type 0 where
  pub by_contents : LoadsTold told path limit answer
  pub within : LoadsWithin limit answer

-- why a file can't be loaded
pub data Unloaded (told : Option Contents) (path : List ℕ) (limit file : ℕ) (r : Refusal) : Type 0 where
  absent : MayLoad told path limit Absent → r ≡ refusal_at 101 file path → Unloaded told path limit file r
  long : MayLoad told path limit TooLong → r ≡ refusal_at 102 file path → Unloaded told path limit file r

-- the text is there, and reads as this design
pub record IsText (run : EvalRun) (told : Option Contents) (e : VDesign) : Type 0 where
  pub bytes : List ℕ
  pub loaded : MayLoad told (first_path run) text_limit (Bytes bytes)
  pub reads : VReads bytes e

-- and that can be run with the top
pub record HasText (run : EvalRun) (told : Option Contents) (e : VDesign) : Type 0 where
  pub text : IsText run told e
  pub fits : FitsTop e run.top

-- the bytes are none of the language
pub record Unread (bytes : List ℕ) (r : Refusal) : Type 0 where
  pub rule : ℕ
  pub line : ℕ
  pub col : ℕ
  pub word : List ℕ
  pub refused : Refused bytes rule line col word
  pub is : r ≡ record { rule = rule; place = record { file = 0; line = line; col = col }; word = word }

-- why there is no such text: it isn't loaded, it is none of the language, or it can't be run with the top
pub data TextBreak (run : EvalRun) (told : Option Contents) (r : Refusal) : Type 0 where
  unloaded : Unloaded told (first_path run) text_limit 0 r → TextBreak run told r
  unread : (bytes : List ℕ) → MayLoad told (first_path run) text_limit (Bytes bytes) → Unread bytes r → TextBreak run told r
  unfit : (e : VDesign) → IsText run told e → (FitsTop e run.top → ⊥) → r ≡ refusal_at 902 0 run.top → TextBreak run told r

-- the row file is there, and has rows for the top of the design, which aren't too many
pub record HasRows (run : EvalRun) (told : Option Contents) (e : VDesign) (rows : List (List (List Bit4))) : Type 0 where
  pub bytes : List ℕ
  pub loaded : MayLoad told run.rows rows_limit (Bytes bytes)
  pub are : RowsText (shape_of e run.top).inputs bytes rows
  pub few : length rows * (shape_of e run.top).bits ≤ row_limit

-- why there are no such rows
pub data RowFileBreak (run : EvalRun) (told : Option Contents) (e : VDesign) (r : Refusal) : Type 0 where
  unloaded : Unloaded told run.rows rows_limit 1 r → RowFileBreak run told e r
  departs : (bytes : List ℕ) → MayLoad told run.rows rows_limit (Bytes bytes) → RowsBreak (shape_of e run.top) 1 bytes r → RowFileBreak run told e r
