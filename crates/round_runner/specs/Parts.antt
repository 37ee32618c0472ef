-- Parts of a machine by their numbers.
use Rattle.std.specs.Prelude.{◌≡◌, ℕ, ◌<◌, ◌&&◌, ◌==◌, nat_lt, Bool, List, length, map, true, false, Some, None, slice_get, slice_index_or}
use Rattle.std.specs.List.{list_any}
use Rattle.b4_core.specs.declared.bit.Bit4.{Bit4}
use Rattle.row_machine.specs.Valuation.{Place, Valuation, Member, has}
use Rattle.row_machine.specs.Machine.{Process, EdgeProcess, Machine, Started, at_zero}
use Rattle.row_machine.specs.Settle.{differs}
use Rattle.round_runner.specs.Stores.{holding, Changed}

-- the flags of the combinational processes, in order, are those of a started set
pub record Marks (ps : List Process) (s : Started) (flags : List Bool) : Type 0 where
  pub all : flags ≡ map s ps

-- whether the combinational process with a number is started at time zero
pub record StartsAtZero (ps : List Process) (i : ℕ) (answer : Bool) : Type 0 where
  pub told : (p : Process) → slice_get ps i ≡ Some p → answer ≡ p.from_zero

-- whether a store differs from the initial valuation in a bit that the process waits for
pub record Wakes (d : Machine) (i : ℕ) (now : List (List Bit4)) (answer : Bool) : Type 0 where
  pub told : (p : Process) → slice_get d.combs i ≡ Some p → answer ≡ differs p.waits_for (holding now) d.initial

-- what the process assigns, when it is run on what one store holds, is put over another one
pub record Runs (ps : List Process) (i : ℕ) (held before after : List (List Bit4)) : Type 0 where
  pub done : (p : Process) → slice_get ps i ≡ Some p → Changed (p.assigns (holding held)) before after

-- what the process assigns hangs on these signals alone
pub record ReadsAlone (ps : List Process) (i : ℕ) (ns : List ℕ) : Type 0 where
  pub alone : (p : Process) → slice_get ps i ≡ Some p → (v u : Valuation) → ((q : Place) → list_any (λ n. n == q.signal) ns ≡ true → v q ≡ u q)
      → (q : Place) → p.assigns v q ≡ p.assigns u q

-- it assigns these signals alone
pub record WritesAlone (ps : List Process) (i : ℕ) (ns : List ℕ) : Type 0 where
  pub none : (p : Process) → slice_get ps i ≡ Some p → (v : Valuation) (q : Place) → list_any (λ n. n == q.signal) ns ≡ false → p.assigns v q ≡ None

-- whether the edge process with a number has its edge
pub record HasEdge (es : List EdgeProcess) (i : ℕ) (last now : List (List Bit4)) (answer : Bool) : Type 0 where
  pub told : (e : EdgeProcess) → slice_get es i ≡ Some e → answer ≡ e.runs (holding last) (holding now)

-- its updates, when it is run on what one store holds, are put over another one
pub record Updates (es : List EdgeProcess) (i : ℕ) (held before after : List (List Bit4)) : Type 0 where
  pub done : (e : EdgeProcess) → slice_get es i ≡ Some e → Changed (e.updates (holding held)) before after

-- the machine's inputs are the bits of these signals
pub record InputsAre (d : Machine) (ws ns : List ℕ) : Type 0 where
  pub whole : (q : Place) → has d.inputs q ≡ (list_any (λ n. n == q.signal) ns && nat_lt q.bit (slice_index_or ws q.signal 0))
  pub there : (n : ℕ) → Member ns n → n < length ws

-- the flags of the processes that are started at time zero
pub record StartsWith (d : Machine) (flags : List Bool) : Type 0 where
  pub marks : Marks d.combs at_zero flags
