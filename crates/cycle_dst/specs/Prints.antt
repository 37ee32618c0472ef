-- Which signals combinational processes read, and which they may write.
use Rattle.std.specs.Prelude.{◌≡◌, ℕ, ◌==◌, true, false, List, Some, None, slice_get}
use Rattle.std.specs.List.{list_any}
use Rattle.row_machine.specs.Machine as M
use Rattle.row_machine.specs.Valuation.{Place, Valuation}
use Rattle.v_drives.specs.Quiet.{AreQuietIn}
use Rattle.v_hangs.specs.Hangs.{FunctionsReadIn, HangsOn, WritesIn}
use Rattle.v_modules.specs.declared.table.Table.{Table}
use Rattle.v_processes.specs.declared.process.Proc.{Proc}
use Rattle.cycle_dst.specs.declared.prints.Known.{Known}
use Rattle.cycle_dst.specs.declared.prints.Prints.{Prints}
use Rattle.cycle_dst.specs.Circuits.{process_in}
use Rattle.cycle_dst.specs.Pairs.{Pairs}

-- what the functions of an instance read, and which ones read nothing
pub record IsKnown (ts : List Table) (k : Known) : Type 0 where
  pub reads : (t : Table) → slice_get ts k.of ≡ Some t → FunctionsReadIn k.first t k.reads
  pub quiet : (t : Table) → slice_get ts k.of ≡ Some t → AreQuietIn k.first t k.quiet

-- and that is the instance of a process
pub record KnownFor (ts : List Table) (q : Proc) (k : Known) : Type 0 where
  pub known : IsKnown ts k
  pub of : k.of ≡ q.of
  pub first : k.first ≡ q.first

-- Where signals are told, what a process does by the table of its module hangs on the ones alone, and it assigns the others alone.
pub record PrintsBy (q : Proc) (t : Table) (p : Prints) : Type 0 where
  pub reads : (ns : List ℕ) → p.reads ≡ Some ns → HangsOn (process_in q t) ns
  pub writes : (ns : List ℕ) → p.writes ≡ Some ns → WritesIn (process_in q t) ns

pub record PrintsIn (ts : List Table) (q : Proc) (p : Prints) : Type 0 where
  pub by : (t : Table) → slice_get ts q.of ≡ Some t → PrintsBy q t p

-- The same of a combinational process of a machine.
pub record PrintsOf (p : Prints) (m : M.Process) : Type 0 where
  pub reads : (ns : List ℕ) → p.reads ≡ Some ns → (v u : Valuation) → ((q : Place) → list_any (λ n. n == q.signal) ns ≡ true → v q ≡ u q) → (q : Place) → m.assigns v q ≡ m.assigns u q
  pub writes : (ns : List ℕ) → p.writes ≡ Some ns → (v : Valuation) (q : Place) → list_any (λ n. n == q.signal) ns ≡ false → m.assigns v q ≡ None

abbrev pub AllPrints : List Prints → List M.Process → Type 0
AllPrints ps ms = Pairs PrintsOf ps ms
