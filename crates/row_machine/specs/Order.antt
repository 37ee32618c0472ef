-- What makes a machine deterministic: each process depends on its reads alone, no bit has two writers, no process is stuck.
use Rattle.std.specs.Prelude.{◌≡◌, Bool, true, false, ⊤, List, [], ◌∷◌, None}
use Rattle.std.specs.List.{list_any}
use Rattle.row_machine.specs.Valuation.{Place, Valuation, Member, has, put, OneWriter}
use Rattle.row_machine.specs.Machine.{Process, EdgeProcess, Machine, Started, told}

-- the process assigns only bits that it may write
abbrev pub WritesOwn : Process → Type 0
WritesOwn p = (v : Valuation) (q : Place) → has p.writes q ≡ false → p.assigns v q ≡ None

-- and it hangs on the bits that it reads alone
pub record Honest (p : Process) : Type 0 where
  pub by_reads : (v u : Valuation) → ((q : Place) → has p.reads q ≡ true → v q ≡ u q) → (q : Place) → p.assigns v q ≡ p.assigns u q
  pub within : WritesOwn p

-- whether the first process reads a bit that the second one writes
abbrev pub follows : Process → Process → Bool
follows p q = list_any (has q.writes) p.reads

-- a process is free if each process that it follows is: it isn't on a circle and doesn't follow one that is
pub data Free (ps : List Process) : Process → Type 0 where
  free : {p : Process} → ((q : Process) → Member ps q → follows p q ≡ true → Free ps q) → Free ps p

-- each process writes only its own bits, each combinational process hangs on its reads alone, and no two combinational
-- processes and no two edge processes write one bit
pub record WellWritten (d : Machine) : Type 0 where
  pub honest : (p : Process) → Member d.combs p → Honest p
  pub one_writer : OneWriter (λ (p : Process). p.writes) d.combs
  pub edges_within : (p : EdgeProcess) → Member d.edges p → (v : Valuation) (q : Place) → has p.writes q ≡ false → p.updates v q ≡ None
  pub edges_one_writer : OneWriter (λ (p : EdgeProcess). p.writes) d.edges

-- well written, and no combinational process is stuck
pub record Sound (d : Machine) : Type 0 where
  pub well_written : WellWritten d
  pub open well_written use *
  pub all_free : (p : Process) → Member d.combs p → Free d.combs p

-- no process follows itself or a later one
abbrev pub Ordered : List Process → Type 0
Ordered [] = ⊤
Ordered (p ∷ ps) = ((q : Process) → Member (p ∷ ps) q → follows p q ≡ false) × Ordered ps

-- the second list has the processes of the first in an order in which they can be run
pub record IsOrder (ps qs : List Process) : Type 0 where
  pub every : (p : Process) → Member ps p → Member qs p
  pub only : (p : Process) → Member qs p → Member ps p
  pub one_writer : OneWriter (λ (p : Process). p.writes) qs
  pub ordered : Ordered qs

-- the valuation after each process ran once on what the earlier ones left
abbrev pub run : Started → List Process → Valuation → Valuation
run s [] v = v
run s (p ∷ ps) v = run s ps (put (told s v p) v)
