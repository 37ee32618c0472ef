-- What the processes of a design may write.
use Rattle.std.specs.Prelude.{◌≡◌, ℕ, Bool, true, false, List, map, flat_map, Some, slice_get, Result, IfOk}
use Rattle.v_tree.specs.declared.items.VModule.{VModule}
use Rattle.v_meaning.specs.Scopes.{Use}
use Rattle.row_machine.specs.Rounds.{written_bits}
use Rattle.v_meaning.specs.Machine.{comb_of}
use Rattle.v_meaning.specs.Modules.{Parts, Process, Starts, always_on, on_change, on_edges, scope_of}
use Rattle.v_exec.specs.Modules.{FunctionsNarrow}
use Rattle.v_modules.specs.declared.table.Table.{Table}
use Rattle.v_modules.specs.Tables.{items_of, items_in}
use Rattle.v_processes.specs.declared.process.Proc.{Proc}
use Rattle.v_steps.specs.Steps.{DoesNarrow}
use Rattle.v_writes.specs.Writes.{made}
use Rattle.v_drives.specs.Quiet.{AreQuietIn}

-- what processes may write by their nonblocking assignments, or by the others
abbrev pub process_made : Bool → Process → List Use
process_made later p = made later p.does p.scope

abbrev pub all_made : Bool → List Process → List Use
all_made later ps = flat_map (process_made later) ps

-- the module of a process has a table, by which it does no arithmetic on over 128 bits
pub record ByTable (ts : List Table) (p : Proc) : Type 0 where
  pub table : Table
  pub there : slice_get ts p.of ≡ Some table
  pub functions : FunctionsNarrow p.first table.names
  pub narrow : DoesNarrow p.does (scope_of p.first (items_of table))

abbrev pub AllByTable : List Table → List Proc → Type 0
AllByTable ts ps = (k : ℕ) (p : Proc) → slice_get ps k ≡ Some p → ByTable ts p

-- of the functions of an instance, by the number of its module and that of its first signal, which ones read no signal
abbrev pub AreQuietBy : List Table → ℕ → ℕ → List Bool → Type 0
AreQuietBy ts of first quiet = (t : Table) → slice_get ts of ≡ Some t → AreQuietIn first t quiet

-- each possible answer says that
abbrev pub TellsQuiet : {E : Type 0} → List Table → (ℕ → ℕ → Result (List Bool) E → Type 0) → Type 0
TellsQuiet {E} ts post = (of first : ℕ) (r : Result (List Bool) E) → post of first r → IfOk r (AreQuietBy ts of first)

-- what is so for the modules of these tables
abbrev pub ForModules : List Table → (List VModule → Type 0) → Type 0
ForModules ts P = (ms : List VModule) → map items_of ts ≡ map items_in ms → P ms

-- whether a process runs at edges alone
abbrev pub at_edges : Starts → Bool
at_edges always_on = false
at_edges on_change = false
at_edges (on_edges es) = true

-- how many bits the combinational ones of some processes may write
abbrev pub bits_written : ℕ → Parts → List Process → ℕ
bits_written own d ps = written_bits (flat_map (λ (p : Process). comb_of own d p.starts p) ps)
