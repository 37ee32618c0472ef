-- Rows, and what running a machine over them comes to.
use Rattle.std.specs.Prelude.{◌≡◌, ℕ, zero, ◌==◌, Bool, cond, List, [], ◌∷◌, length, map, slice_index_or, slice_set, Result, Ok, Err, All}
use Rattle.std.specs.List.{AllZip}
use Rattle.b4_core.specs.declared.bit.Bit4.{Bit4}
use Rattle.b4_core.specs.declared.bit.Bit4.TheVariants.{X}
use Rattle.row_machine.specs.Valuation.{Valuation}
use Rattle.row_machine.specs.Machine.{Machine, Started, base_of, after_edges}
use Rattle.row_machine.specs.Trace.{RowStepBy}
use Rattle.row_machine.specs.Rounds.{Reaches, HasRoundTrace}
use Rattle.row_machine.specs.Unsettled as U
use Rattle.round_runner.specs.declared.rounds.Change.{Change}
use Rattle.round_runner.specs.declared.rounds.Ended.{Ended}
use Rattle.round_runner.specs.declared.rounds.Ended.TheVariants.{Rests, Changes}
use Rattle.round_runner.specs.declared.rows.RunFail.{RunFail}
use Rattle.round_runner.specs.declared.rows.RunFail.TheVariants.{Memory, Unsettled}
use Rattle.round_runner.specs.Stores.{holding, widths}
use Rattle.round_runner.specs.Parts.{Marks}
use Rattle.round_runner.specs.Rounds.{LastChange}

-- what a row gives: its vectors stand at these signals
abbrev pub row_of : List ℕ → List (List Bit4) → Valuation
row_of [] vs q = X
row_of (n ∷ ns) [] q = X
row_of (n ∷ ns) (v ∷ vs) q = cond (n == q.signal) (slice_index_or v q.bit X) (row_of ns vs q)

-- a row has one vector for each of these signals, as wide as the signal
abbrev pub FitsRow : List ℕ → List ℕ → List (List Bit4) → Type 0
FitsRow ws ns vs = AllZip (λ n (v : List Bit4). length v ≡ slice_index_or ws n 0) ns vs

abbrev pub FitRows : List ℕ → List ℕ → List (List (List Bit4)) → Type 0
FitRows ws ns rows = All (FitsRow ws ns) rows

-- the store, with these vectors at these signals
abbrev pub with_vectors : List ℕ → List (List Bit4) → List (List Bit4) → List (List Bit4)
with_vectors [] vs store = store
with_vectors (n ∷ ns) [] store = store
with_vectors (n ∷ ns) (v ∷ vs) store = slice_set (with_vectors ns vs store) n v

-- a store with the row in the inputs
pub record WithRow (d : Machine) (ns : List ℕ) (row before after : List (List Bit4)) : Type 0 where
  pub values : holding after ≡ base_of d (row_of ns row) (holding before)
  pub shape : widths after ≡ widths before

-- a store with the updates of the edge processes that have their edge
pub record AfterEdges (d : Machine) (last held after : List (List Bit4)) : Type 0 where
  pub values : holding after ≡ after_edges d (holding last) (holding held)
  pub shape : widths after ≡ widths held

-- and with the row in the inputs
pub record WithUpdates (d : Machine) (ns : List ℕ) (row last held after : List (List Bit4)) : Type 0 where
  pub values : holding after ≡ base_of d (row_of ns row) (after_edges d (holding last) (holding held))
  pub shape : widths after ≡ widths held

-- a row ends with a store
pub record Steps (d : Machine) (ns : List ℕ) (row last held : List (List Bit4)) (before after : List Bool) (now : List (List Bit4)) : Type 0 where
  pub steps : (s : Started) → Marks d.combs s before
      → (t : Started) × Marks d.combs t after × RowStepBy (Reaches d) d (row_of ns row) (holding last) (holding held) s t (holding now)
  pub shape : widths now ≡ widths held

-- a settling of a row fails
pub record StepFails (d : Machine) (ns : List ℕ) (row last held : List (List Bit4)) (before : List Bool) (c : Change) : Type 0 where
  pub fails : (s : Started) → Marks d.combs s before → (rows : List Valuation)
      → (t : Started) × (base : Valuation) × U.UnsettledFrom d (holding last) (holding held) s (row_of ns row ∷ rows) zero t base × LastChange d t base (widths held) c

abbrev pub StepEnds : Machine → List ℕ → List (List Bit4) → List (List Bit4) → List (List Bit4) → List Bool → List Bool → Ended → Type 0
StepEnds d ns row last held before after (Rests now) = Steps d ns row last held before after now
StepEnds d ns row last held before after (Changes c) = StepFails d ns row last held before c

-- the trace by rounds of the rows, as stores
pub record IsTrace (d : Machine) (ws ns : List ℕ) (rows trace : List (List (List Bit4))) : Type 0 where
  pub values : HasRoundTrace d (map (row_of ns) rows) (map holding trace)
  pub shape : All (λ vs. widths vs ≡ ws) trace

-- the row in which a settling fails, with the first signal that the last round of that settling changed
pub record IsUnsettled (d : Machine) (ws ns : List ℕ) (rows : List (List (List Bit4))) (row : ℕ) (c : Change) : Type 0 where
  pub started : Started
  pub base : Valuation
  pub unsettled : U.Unsettled d (map (row_of ns) rows) row started base
  pub last : LastChange d started base ws c

-- what a run answers
abbrev pub RunGives : Machine → List ℕ → List ℕ → List (List (List Bit4)) → Result (List (List (List Bit4))) RunFail → Type 0
RunGives d ws ns rows (Ok trace) = IsTrace d ws ns rows trace
RunGives d ws ns rows (Err Memory) = Unit {0}
RunGives d ws ns rows (Err (Unsettled row c)) = IsUnsettled d ws ns rows row c
