-- Groups of processes that share the signals that they write, and which groups read a signal.
use Rattle.std.specs.Prelude.{◌≡◌, ◌≢◌, ℕ, ◌<◌, ◌≤◌, ◌==◌, Option, Bool, true, false, List, [], length, take, All, Some, None, slice_get, slice_index_or}
use Rattle.std.specs.List.{list_any, filter_map}
use Rattle.b4_core.specs.declared.bit.Bit4.{Bit4}
use Rattle.b4_core.specs.declared.bit.Bit4.TheVariants.{X}
use Rattle.row_machine.specs.Valuation.{Place, Valuation, put_each}
use Rattle.row_machine.specs.Machine.{Process, Machine, Started, told}
use Rattle.row_machine.specs.Rounds as R
use Rattle.round_runner.specs.declared.plan.Plan.{Plan}
use Rattle.round_runner.specs.declared.rounds.Change.{Change}
use Rattle.round_runner.specs.declared.rounds.Ended.{Ended}
use Rattle.round_runner.specs.declared.rounds.Ended.TheVariants.{Rests, Changes}
use Rattle.round_runner.specs.Stores.{holding, widths, vector_of, FirstChange}
use Rattle.round_runner.specs.Parts.{Marks}

-- whether a number stands in the list
abbrev pub is_in : List ℕ → ℕ → Bool
is_in ns k = list_any (λ n. n == k) ns

-- the numbers that a list of lists has under a number
abbrev pub under : List (List ℕ) → ℕ → List ℕ
under lists k = slice_index_or lists k []

-- the group of a signal, by the groups of all; one past all groups where there is no such signal
abbrev pub group_at : List ℕ → ℕ → ℕ
group_at places n = slice_index_or places n (length places)

abbrev pub group_of : Plan → ℕ → ℕ
group_of plan n = group_at plan.places n

-- the processes with these numbers
abbrev pub picked : List Process → List ℕ → List Process
picked ps is = filter_map (slice_get ps) is

-- each signal stands in the list of its group alone
pub record Grouped (plan : Plan) : Type 0 where
  pub signals : (g n : ℕ) → g < length plan.places → is_in (under plan.signals g) n ≡ (group_of plan n == g)
  pub signals_there : (g : ℕ) → All (λ n. n < length plan.places) (under plan.signals g)
  pub places_there : All (λ g. g < length plan.places) plan.places

-- signals are read by groups that there are
pub record ReadersThere (plan : Plan) : Type 0 where
  pub there : (n : ℕ) → All (λ g. g < length plan.places) (under plan.readers n)

-- A plan of a machine: each group's signals are made by its processes alone, from what it is told of.
pub record IsPlan (d : Machine) (plan : Plan) : Type 0 where
  pub grouped : Grouped plan
  pub processes_there : (g : ℕ) → All (λ i. i < length d.combs) (under plan.processes g)
  pub readers : ReadersThere plan
  -- its processes make its signals
  pub whole : (g : ℕ) (s : Started) (v base : Valuation) (q : Place) → (group_of plan q.signal == g) ≡ true
      → put_each (told s v) (picked d.combs (under plan.processes g)) base q ≡ put_each (told s v) d.combs base q
  -- and nothing else
  pub own : (g : ℕ) (s : Started) (v base : Valuation) (q : Place) → (group_of plan q.signal == g) ≡ false
      → put_each (told s v) (picked d.combs (under plan.processes g)) base q ≡ base q
  -- a group's signals are made alike where the signals hold the same that it is told of
  pub told_of : (g : ℕ) (s : Started) (v u base : Valuation) → ((r : Place) → is_in (under plan.readers r.signal) g ≡ true → v r ≡ u r)
      → (q : Place) → (group_of plan q.signal == g) ≡ true → put_each (told s v) d.combs base q ≡ put_each (told s u) d.combs base q
  -- what isn't a signal nobody writes
  pub outside : (s : Started) (v base : Valuation) (q : Place) → (group_of plan q.signal == length plan.places) ≡ true → put_each (told s v) d.combs base q ≡ base q

-- the store, with the vectors of another one at these signals
pub record Taken (ns : List ℕ) (from before after : List (List Bit4)) : Type 0 where
  pub taken : (k : ℕ) → is_in ns k ≡ true → vector_of after k ≡ vector_of from k
  pub kept : (k : ℕ) → is_in ns k ≡ false → vector_of after k ≡ vector_of before k
  pub shape : widths after ≡ widths before

-- what the processes with these numbers assign is put over a store
pub record Picked (d : Machine) (flags : List Bool) (is : List ℕ) (held before after : List (List Bit4)) : Type 0 where
  pub values : (s : Started) → Marks d.combs s flags → holding after ≡ put_each (told s (holding held)) (picked d.combs is) (holding before)
  pub shape : widths after ≡ widths before

-- the signals of these groups are made anew by a round, and the others are kept
pub record Remade (d : Machine) (plan : Plan) (flags : List Bool) (base held : List (List Bit4)) (gs : List ℕ) (before after : List (List Bit4)) : Type 0 where
  pub anew : (s : Started) → Marks d.combs s flags → (q : Place) → is_in gs (group_of plan q.signal) ≡ true → holding after q ≡ R.round d s (holding base) (holding held) q
  pub kept : (s : Started) → Marks d.combs s flags → (q : Place) → is_in gs (group_of plan q.signal) ≡ false → holding after q ≡ holding before q
  pub shape : widths after ≡ widths before

-- the vectors of a signal differ in a bit
pub record DiffersAt (old new : List (List Bit4)) (n : ℕ) : Type 0 where
  pub bit : ℕ
  pub differs : slice_index_or (vector_of old n) bit X ≢ slice_index_or (vector_of new n) bit X

-- of these signals those that differ between two stores are added
pub record AddsChanges (signals : List ℕ) (old new : List (List Bit4)) (before after : List ℕ) : Type 0 where
  pub others : (k : ℕ) → is_in signals k ≡ true → is_in after k ≡ false → vector_of new k ≡ vector_of old k
  pub kept : (k : ℕ) → is_in after k ≡ false → is_in before k ≡ false
  pub there : (size : ℕ) → All (λ n. n < size) signals → All (λ n. n < size) before → All (λ n. n < size) after
  pub differ : ((n : ℕ) → is_in before n ≡ true → DiffersAt old new n) → (n : ℕ) → is_in after n ≡ true → DiffersAt old new n

-- all signals of these groups that differ between two stores
pub record AreChanges (plan : Plan) (gs : List ℕ) (old new : List (List Bit4)) (ns : List ℕ) : Type 0 where
  pub others : (k : ℕ) → is_in gs (group_of plan k) ≡ true → is_in ns k ≡ false → vector_of new k ≡ vector_of old k
  pub there : All (λ n. n < length plan.places) ns
  pub differ : (n : ℕ) → is_in ns n ≡ true → DiffersAt old new n

-- the same numbers
pub record SameNumbers (ns ms : List ℕ) : Type 0 where
  pub same : (k : ℕ) → is_in ms k ≡ is_in ns k
  pub there : (size : ℕ) → All (λ n. n < size) ns → All (λ n. n < size) ms

-- all groups that are told of one of these signals
pub record AreTold (plan : Plan) (ns gs : List ℕ) : Type 0 where
  pub all : (n g : ℕ) → is_in ns n ≡ true → is_in (under plan.readers n) g ≡ true → is_in gs g ≡ true
  pub there : All (λ g. g < length plan.places) gs

-- all numbers below the count
pub record AllNumbers (count : ℕ) (ns : List ℕ) : Type 0 where
  pub all : (k : ℕ) → k < count → is_in ns k ≡ true
  pub there : All (λ n. n < count) ns

-- a first signal that differs between two stores, with its vectors in both; else both are the same
pub record IsChange (old new : List (List Bit4)) (c : Change) : Type 0 where
  pub first : FirstChange old new c.signal
  pub before : c.before ≡ vector_of old c.signal
  pub after : c.after ≡ vector_of new c.signal

abbrev pub LastOf : List (List Bit4) → List (List Bit4) → Ended → Type 0
LastOf old new (Rests made) = (made ≡ old) × (old ≡ new)
LastOf old new (Changes c) = IsChange old new c

-- signals have groups that there are
pub record ArePlaces (size : ℕ) (places : List ℕ) : Type 0 where
  pub long : length places ≡ size
  pub there : All (λ g. g < size) places

-- a process writes signals of this group alone
pub record Labelled (d : Machine) (places : List ℕ) (i g : ℕ) : Type 0 where
  pub none : (p : Process) → slice_get d.combs i ≡ Some p → (v : Valuation) (q : Place) → (group_at places q.signal == g) ≡ false → p.assigns v q ≡ None
  pub there : g < length places

-- numbers are put under numbers
pub record AllEmpty (size : ℕ) (lists : List (List ℕ)) : Type 0 where
  pub long : length lists ≡ size
  pub none : (k : ℕ) → under lists k ≡ []

-- a group is put under these signals
pub record Tells (ns : List ℕ) (g : ℕ) (before after : List (List ℕ)) : Type 0 where
  pub told : (n : ℕ) → is_in ns n ≡ true → is_in (under after n) g ≡ true
  pub kept : (n h : ℕ) → is_in (under before n) h ≡ true → is_in (under after n) h ≡ true
  pub there : (size : ℕ) → g < size → ((n : ℕ) → All (λ h. h < size) (under before n)) → (n : ℕ) → All (λ h. h < size) (under after n)

-- the first k processes stand under their groups, and each group under the signals that its processes read
pub record Built (d : Machine) (places : List ℕ) (processes readers : List (List ℕ)) (k : ℕ) : Type 0 where
  pub whole : (g : ℕ) (s : Started) (v base : Valuation) (q : Place) → (group_at places q.signal == g) ≡ true
      → put_each (told s v) (picked d.combs (under processes g)) base q ≡ put_each (told s v) (take k d.combs) base q
  pub own : (g : ℕ) (s : Started) (v base : Valuation) (q : Place) → (group_at places q.signal == g) ≡ false
      → put_each (told s v) (picked d.combs (under processes g)) base q ≡ base q
  pub told_of : (g : ℕ) (s : Started) (v u base : Valuation) → ((r : Place) → is_in (under readers r.signal) g ≡ true → v r ≡ u r)
      → (q : Place) → (group_at places q.signal == g) ≡ true → put_each (told s v) (take k d.combs) base q ≡ put_each (told s u) (take k d.combs) base q
  pub outside : (s : Started) (v base : Valuation) (q : Place) → (group_at places q.signal == length places) ≡ true → put_each (told s v) (take k d.combs) base q ≡ base q
  pub processes_there : (g : ℕ) → All (λ i. i < length d.combs) (under processes g)
  pub readers_there : (n : ℕ) → All (λ g. g < length places) (under readers n)

-- the first k signals stand under their groups
pub record Listed (places : List ℕ) (lists : List (List ℕ)) (k : ℕ) : Type 0 where
  pub below : (g n : ℕ) → n < k → g < length places → is_in (under lists g) n ≡ (group_at places n == g)
  pub above : (g n : ℕ) → k ≤ n → is_in (under lists g) n ≡ false
  pub there : (g : ℕ) → All (λ n. n < length places) (under lists g)

-- a plan of a machine of so many signals, if there is one
abbrev pub FitsPlan : Machine → ℕ → Option Plan → Type 0
FitsPlan d size None = Unit {0}
FitsPlan d size (Some plan) = IsPlan d plan × (length plan.places ≡ size)
