-- On which signals processes hang, and which they may write.
use Rattle.std.specs.Prelude.{◌≡◌, ◌<◌, ℕ, ⊤, true, false, ◌&&◌, List, None, slice_get}
use Rattle.row_machine.specs.Valuation.{Place, Valuation}
use Rattle.v_meaning.specs.Scopes.{Use, is_signal}
use Rattle.v_meaning.specs.Machine.{to_signals}
use Rattle.v_meaning.specs.Modules.{Process}
use Rattle.v_exec.specs.Modules.{callee_in}
use Rattle.v_footprints.specs.Footprints.{uses}
use Rattle.v_modules.specs.declared.table.Table.{Table}
use Rattle.v_processes.specs.declared.process.Does.{Does}
use Rattle.v_processes.specs.declared.process.Does.TheVariants as D
use Rattle.v_reads.specs.Reads.{is_among, or_none}
use Rattle.v_steps.specs.Steps.{ran}
use Rattle.v_stores.specs.Waits.{is_named}

-- valuations that hold the same in all signals
pub record SameSignals (v w : Valuation) : Type 0 where
  pub same : (q : Place) → is_signal q.signal ≡ true → v q ≡ w q

-- what a process does hangs on these signals alone
pub record HangsOn (p : Process) (ns : List ℕ) : Type 0 where
  pub same : (v w : Valuation) → ((q : Place) → is_named ns q.signal ≡ true → v q ≡ w q) → ran p v ≡ ran p w

-- it assigns these signals alone
pub record WritesIn (p : Process) (ns : List ℕ) : Type 0 where
  pub none : (v : Valuation) (q : Place) → is_named ns q.signal ≡ false → to_signals (ran p v).written q ≡ None

-- the signals of these uses, without the locals
pub record ListsSignals (us : List Use) (ns : List ℕ) : Type 0 where
  pub same : (n : ℕ) → is_named ns n ≡ (is_signal n && uses us n)

-- the number of a port that a process reads is a signal's
abbrev pub PortIsSignal : Does → Type 0
PortIsSignal (D.Assign to value) = ⊤
PortIsSignal (D.Star body) = ⊤
PortIsSignal (D.Edges edges body) = ⊤
PortIsSignal (D.Into port value) = ⊤
PortIsSignal (D.From to port) = is_signal port.number ≡ true

-- for each item of a module the signals that the function there reads, in an instance whose signals are numbered from a number on
pub record FunctionsReadIn (first : ℕ) (t : Table) (lists : List (List ℕ)) : Type 0 where
  pub right : (i n : ℕ) → is_among (or_none (slice_get lists i)) n ≡ uses (callee_in first t.functions t.names i).reads n

-- the signals among these numbers, all of which are below a count
pub record AreSignals (count : ℕ) (numbers signals : List ℕ) : Type 0 where
  pub same : (n : ℕ) → is_among signals n ≡ (is_signal n && is_among numbers n)
  pub there : (n : ℕ) → is_among signals n ≡ true → n < count
