-- Processes that can be run.
use Rattle.std.specs.Prelude.{◌≡◌, ℕ, true, List, map, Some, slice_get}
use Rattle.v_tree.specs.Names.{Name}
use Rattle.v_tree.specs.Rules.{Keeps, FitsTop}
use Rattle.v_tree.specs.declared.items.VDesign.{VDesign}
use Rattle.v_meaning.specs.Machine.{size}
use Rattle.v_meaning.specs.Modules.{parts, scope_of}
use Rattle.v_selects.specs.Few.{few_of_design}
use Rattle.v_modules.specs.declared.table.Table.{Table}
use Rattle.v_modules.specs.Tables.{items_of, items_in}
use Rattle.v_exec.specs.Modules.{FunctionsNarrow}
use Rattle.v_processes.specs.declared.found.Found.{Found}
use Rattle.v_processes.specs.declared.process.Proc.{Proc}
use Rattle.v_processes.specs.Walks.{HasParts}
use Rattle.v_steps.specs.Steps.{DoesNarrow, DoesFit}

-- A process of an instance of the module of this table can be run on signals that have so many bits.
pub record Runnable (ws : List ℕ) (t : Table) (p : Proc) : Type 0 where
  pub functions : FunctionsNarrow p.first t.names
  pub narrow : DoesNarrow p.does (scope_of p.first (items_of t))
  pub fits : DoesFit p.does (scope_of p.first (items_of t)).names ws

-- its module has a table, and it can be run by that
pub record Tabled (ws : List ℕ) (ts : List Table) (p : Proc) : Type 0 where
  pub table : Table
  pub there : slice_get ts p.of ≡ Some table
  pub runs : Runnable ws table p

abbrev pub AllRunnable : List ℕ → List Table → List Proc → Type 0
AllRunnable ws ts ps = (k : ℕ) (p : Proc) → slice_get ps k ≡ Some p → Tabled ws ts p

-- Each process of a design that keeps the rules can be run on the design's signals.
abbrev pub ProcessesRun : Type 0
ProcessesRun = (e : VDesign) (top : Name) (f : Found) (ts : List Table) → Keeps e → FitsTop e top → few_of_design e ≡ true → HasParts e.modules top f → map items_of ts ≡ map items_in e.modules
    → AllRunnable (map size (parts e.modules top).signals) ts f.procs
