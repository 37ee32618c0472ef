-- What parts of a run of a text answer.
use Rattle.std.specs.Prelude.{◌≡◌, ℕ, ◌+◌, ◌*◌, ◌≤◌, List, length, Option, Result, Ok, Err}
use Rattle.sv_source.specs.Loading.{Contents}
use Rattle.sv_source.specs.Faults.{Rose, NotRaised}
use Rattle.sv_source.specs.declared.files.Loaded.TheVariants.{Bytes}
use Rattle.sv_source.specs.declared.text.Text.{Text}
use Rattle.b4_core.specs.declared.bit.Bit4.{Bit4}
use Rattle.v_tree.specs.declared.items.VDesign.{VDesign}
use Rattle.v_tree.specs.Names.{Name}
use Rattle.v_tree.specs.Reading.{VReads}
use Rattle.v_tree.specs.Rules.{FitsTop}
use Rattle.stim_rows.specs.declared.shape.Shape.{Shape}
use Rattle.stim_rows.specs.RowFiles.{RowsText}
use Rattle.stim_rows.specs.Departures.{RowsBreak, row_limit}
use Rattle.cycle_dst.specs.declared.fails.RunFail.{RunFail}
use Rattle.cycle_dst.specs.declared.fails.RunFail.TheVariants.{Memory, Unsettled}
use Rattle.eval_top.specs.declared.run.Stop.{Stop}
use Rattle.eval_top.specs.declared.run.Stop.TheVariants as S
use Rattle.eval_top.specs.Asking.{refusal_at}
use Rattle.eval_top.specs.Loading.{MayLoad, Unloaded, Unread}
use Rattle.eval_top.specs.Running.{HasTrace, LinesOf, Unsettles, shown}

-- the bytes of a file
abbrev pub FileGives : List ℕ → ℕ → ℕ → Option Contents → ℕ → ℕ → Result Text Stop → Type 0
FileGives path limit file told before now (Ok bytes) = MayLoad told path limit (Bytes bytes)
FileGives path limit file told before now (Err S.Usage) = ⊥
FileGives path limit file told before now (Err S.Memory) = Unit {0}
FileGives path limit file told before now (Err (S.FileFault p)) = (p ≡ path) × Rose before now
FileGives path limit file told before now (Err (S.Refused p r)) = (p ≡ path) × Unloaded told path limit file r × NotRaised before now
FileGives path limit file told before now (Err (S.Unsettled row name)) = ⊥

-- the design of a text
abbrev pub DesignGives : List ℕ → List ℕ → Result VDesign Stop → Type 0
DesignGives path bytes (Ok e) = VReads bytes e
DesignGives path bytes (Err S.Usage) = ⊥
DesignGives path bytes (Err S.Memory) = Unit {0}
DesignGives path bytes (Err (S.FileFault p)) = ⊥
DesignGives path bytes (Err (S.Refused p r)) = (p ≡ path) × Unread bytes r
DesignGives path bytes (Err (S.Unsettled row name)) = ⊥

-- that it can be run with the top
abbrev pub FitGives : {A : Type 0} → List ℕ → VDesign → Name → Result A Stop → Type 0
FitGives path e top (Ok done) = FitsTop e top
FitGives path e top (Err S.Usage) = ⊥
FitGives path e top (Err S.Memory) = Unit {0}
FitGives path e top (Err (S.FileFault p)) = ⊥
FitGives path e top (Err (S.Refused p r)) = (p ≡ path) × (FitsTop e top → ⊥) × (r ≡ refusal_at 902 0 top)
FitGives path e top (Err (S.Unsettled row name)) = ⊥

-- the rows of a row file
abbrev pub RowFileGives : List ℕ → Shape → List ℕ → Result (List (List (List Bit4))) Stop → Type 0
RowFileGives path shape bytes (Ok rows) = RowsText shape.inputs bytes rows × (length rows * shape.bits ≤ row_limit)
RowFileGives path shape bytes (Err S.Usage) = ⊥
RowFileGives path shape bytes (Err S.Memory) = Unit {0}
RowFileGives path shape bytes (Err (S.FileFault p)) = ⊥
RowFileGives path shape bytes (Err (S.Refused p r)) = (p ≡ path) × RowsBreak shape 1 bytes r
RowFileGives path shape bytes (Err (S.Unsettled row name)) = ⊥

-- the trace of rows, and why there is none
abbrev pub stop_of : RunFail → Stop
stop_of Memory = S.Memory
stop_of (Unsettled row name old new) = S.Unsettled (row + 1) (shown name)

abbrev pub TraceGives : VDesign → Name → List (List (List Bit4)) → Result (List (List (List Bit4))) Stop → Type 0
TraceGives e top rows (Ok trace) = HasTrace e top rows trace
TraceGives e top rows (Err S.Usage) = ⊥
TraceGives e top rows (Err S.Memory) = Unit {0}
TraceGives e top rows (Err (S.FileFault p)) = ⊥
TraceGives e top rows (Err (S.Refused p r)) = ⊥
TraceGives e top rows (Err (S.Unsettled row name)) = Unsettles e top rows row name

-- the lines of rows
abbrev pub LinesGive : VDesign → Name → Shape → List (List (List Bit4)) → Result Text Stop → Type 0
LinesGive e top shape rows (Ok lines) = LinesOf e top shape.outputs rows lines
LinesGive e top shape rows (Err S.Usage) = ⊥
LinesGive e top shape rows (Err S.Memory) = Unit {0}
LinesGive e top shape rows (Err (S.FileFault p)) = ⊥
LinesGive e top shape rows (Err (S.Refused p r)) = ⊥
LinesGive e top shape rows (Err (S.Unsettled row name)) = Unsettles e top rows row name
