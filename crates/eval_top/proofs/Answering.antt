-- What a part of a run answers is what the run answers.
use Rattle.std.proofs.Common.{◌≡◌, ℕ, List, Option, Err, subst, ◌∙◌}
use Rattle.sv_source.specs.Loading.{Contents}
use Rattle.sv_source.specs.Faults.{NotRaised}
use Rattle.sv_source.specs.declared.files.Loaded.TheVariants.{Bytes}
use Rattle.eval_words.specs.declared.words.EvalRun.{EvalRun}
use Rattle.v_tree.specs.declared.items.VDesign.{VDesign}
use Rattle.stim_rows.specs.declared.shape.Shape.{Shape}
use Rattle.stim_rows.specs.Departures.{RowsBreak}
use Rattle.text_shape.specs.Shapes.{shape_of}
use Rattle.eval_top.specs.declared.run.Stop.{Stop}
use Rattle.eval_top.specs.declared.run.Stop.TheVariants as S
use Rattle.eval_top.specs.Asking.{first_path}
use Rattle.eval_top.specs.Loading.{text_limit, rows_limit, MayLoad, Unloaded, IsText, HasText}
use Rattle.eval_top.specs.Loading.TextBreak.{unloaded as no_text, unread, unfit}
use Rattle.eval_top.specs.Loading.RowFileBreak.{unloaded as no_rows, departs}
use Rattle.eval_top.specs.Running.{in_text, in_rows, text, row_file}
use Rattle.eval_top.specs.Parts.{FileGives, DesignGives, FitGives, RowFileGives}
use Rattle.eval_top.specs.Answers.{TextGives}

module _ (run : EvalRun) (told : Option Contents) (before now : ℕ) where
  -- the text isn't loaded
  pub by-text-file : (path : List ℕ) (stop : Stop) → path ≡ first_path run → FileGives path text_limit 0 told before now (Err stop) → TextGives run told before now (Err stop)
  by-text-file path S.Usage is g = g
  by-text-file path S.Memory is g = g
  by-text-file path (S.FileFault p) is g = record { rose = g.1; loads = text (g.0 ∙ is) }
  by-text-file path (S.Refused p r) is g =
      (in_text (no_text (subst (λ (p : List ℕ). Unloaded told p text_limit 0 r) is g.1)) (g.0 ∙ is), g.2)
  by-text-file path (S.Unsettled row name) is g = absurd g

  -- it is none of the language
  pub by-reading : (path bytes : List ℕ) (stop : Stop) → path ≡ first_path run → MayLoad told path text_limit (Bytes bytes) → NotRaised before now
      → DesignGives path bytes (Err stop) → TextGives run told before now (Err stop)
  by-reading path bytes S.Usage is load calm g = g
  by-reading path bytes S.Memory is load calm g = g
  by-reading path bytes (S.FileFault p) is load calm g = absurd g
  by-reading path bytes (S.Refused p r) is load calm g =
      (in_text (unread bytes (subst (λ (p : List ℕ). MayLoad told p text_limit (Bytes bytes)) is load) g.1) (g.0 ∙ is), calm)
  by-reading path bytes (S.Unsettled row name) is load calm g = absurd g

  -- it can't be run with the top
  pub by-fit : (path : List ℕ) (e : VDesign) (stop : Stop) → path ≡ first_path run → IsText run told e → NotRaised before now
      → FitGives {A = Unit {0}} path e run.top (Err stop) → TextGives run told before now (Err stop)
  by-fit path e S.Usage is t calm g = g
  by-fit path e S.Memory is t calm g = g
  by-fit path e (S.FileFault p) is t calm g = absurd g
  by-fit path e (S.Refused p r) is t calm g = (in_text (unfit e t g.1 g.2) (g.0 ∙ is), calm)
  by-fit path e (S.Unsettled row name) is t calm g = absurd g

  -- the row file isn't loaded
  pub by-row-file : (e : VDesign) (stop : Stop) → HasText run told e → FileGives run.rows rows_limit 1 told before now (Err stop) → TextGives run told before now (Err stop)
  by-row-file e S.Usage t g = g
  by-row-file e S.Memory t g = g
  by-row-file e (S.FileFault p) t g = record { rose = g.1; loads = row_file e t g.0 }
  by-row-file e (S.Refused p r) t g = (in_rows e t (no_rows g.1) g.0, g.2)
  by-row-file e (S.Unsettled row name) t g = absurd g

  -- it has no rows
  pub by-rows : (e : VDesign) (shape : Shape) (bytes : List ℕ) (stop : Stop) → HasText run told e → shape ≡ shape_of e run.top → MayLoad told run.rows rows_limit (Bytes bytes)
      → NotRaised before now → RowFileGives run.rows shape bytes (Err stop) → TextGives run told before now (Err stop)
  by-rows e shape bytes S.Usage t is load calm g = g
  by-rows e shape bytes S.Memory t is load calm g = g
  by-rows e shape bytes (S.FileFault p) t is load calm g = absurd g
  by-rows e shape bytes (S.Refused p r) t is load calm g =
      (in_rows e t (departs bytes load (subst (λ (s : Shape). RowsBreak s 1 bytes r) is g.1)) g.0, calm)
  by-rows e shape bytes (S.Unsettled row name) t is load calm g = absurd g
