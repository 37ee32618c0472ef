-- What a run of a design over rows comes to.
use Rattle.std.specs.Prelude.{◌≡◌, ℕ, List, [], map, filter, Option, Some, None, Result, Ok, Err}
use Rattle.b4_core.specs.declared.bit.Bit4.{Bit4}
use Rattle.round_runner.specs.Rows.{FitRows, IsTrace, IsUnsettled}
use Rattle.round_runner.specs.declared.rounds.Change.{Change}
use Rattle.v_tree.specs.Names.{Name}
use Rattle.v_tree.specs.Rules.{module_named}
use Rattle.v_tree.specs.declared.items.VDesign.{VDesign}
use Rattle.v_tree.specs.declared.items.VModule.{VModule}
use Rattle.v_meaning.specs.Scopes.{named}
use Rattle.v_meaning.specs.Modules.{signals, numbered, kind_of, parts, items_of}
use Rattle.v_meaning.specs.Machine.{machine, size, is_input, of_signal}
use Rattle.cycle_dst.specs.declared.fails.RunFail.{RunFail}
use Rattle.cycle_dst.specs.declared.fails.RunFail.TheVariants.{Memory, Unsettled}

-- the ports of the top, in order
abbrev pub top_ports : Option VModule → List Name
top_ports None = []
top_ports (Some m) = m.ports

-- how many bits each signal of a design has, those of memories with all their words
abbrev pub widths_of : VDesign → Name → List ℕ
widths_of e top = map size (parts e.modules top).signals

-- the signals that are the top's inputs in port order, by what the module's items say of them
abbrev pub top_inputs : VDesign → Name → List ℕ
top_inputs e top =
    let ss = signals (items_of e.modules top) in
    map (λ n. (named (numbered 0 ss) n).number) (filter (λ n. is_input (kind_of ss n)) (top_ports (module_named e.modules top)))

-- the rows have a vector for each input, of its width
abbrev pub RowsFit : VDesign → Name → List (List (List Bit4)) → Type 0
RowsFit e top rows = FitRows (widths_of e top) (top_inputs e top) rows

-- the trace of the rows by rounds of the design's machine
abbrev pub TraceOf : VDesign → Name → List (List (List Bit4)) → List (List (List Bit4)) → Type 0
TraceOf e top rows trace = IsTrace (machine e top) (widths_of e top) (top_inputs e top) rows trace

-- There is none: in this row, from 0 on, a settling of the machine doesn't come to rest, and the first signal that the last of its
-- rounds changed has this name, and held these bits before that round and behind it.
pub record UnsettledAt (e : VDesign) (top : Name) (rows : List (List (List Bit4))) (row : ℕ) (name : List ℕ) (before after : List Bit4) : Type 0 where
  pub change : Change
  pub unsettled : IsUnsettled (machine e top) (widths_of e top) (top_inputs e top) rows row change
  pub is_name : name ≡ of_signal (parts e.modules top).signals [] (λ s. s.name) change.signal
  pub is_before : before ≡ change.before
  pub is_after : after ≡ change.after

-- what a run answers; of want of memory nothing is said
abbrev pub RunGives : VDesign → Name → List (List (List Bit4)) → Result (List (List (List Bit4))) RunFail → Type 0
RunGives e top rows (Ok trace) = TraceOf e top rows trace
RunGives e top rows (Err Memory) = Unit {0}
RunGives e top rows (Err (Unsettled row name before after)) = UnsettledAt e top rows row name before after
