-- An elaborated design as a machine over rows (IEEE 1800-2017 clauses 4, 6.5, 6.8, 9.2, 9.4 and 10.3): what its processes
-- read, write and do, and what its bits hold before the first row and where no process assigns them.
use Rattle.std.specs.Prelude.{ℕ, suc, Bool, true, false, ◌&&◌, ◌||◌, ◌==◌, not, cond, List, [], ◌∷◌, ◌++◌, length, map, flat_map, filter, Some, None, slice_get, slice_index_or}
use Rattle.std.specs.List.{list_any}
use Rattle.b4_core.specs.declared.bit.Bit4.{Bit4}
use Rattle.b4_core.specs.declared.bit.Bit4.TheVariants.{Zero, X, Z}
use Rattle.b4_core.specs.Bitwise.{edge_of}
use Rattle.picks.specs.RowMachine.{Place, Valuation, Changes}
use Rattle.picks.specs.RowMachineMachine as M
use Rattle.picks.specs.RowMachine.{places_of}
use Rattle.picks.specs.RowMachine.{unchanged, is_edge}
use Rattle.sv_types.specs.declared.design.SignalKind.{SignalKind}
use Rattle.sv_types.specs.declared.design.SignalKind.TheVariants.{InputNet, InputVar, OutputNet, OutputVar, Net, Variable}
use Rattle.sv_types.specs.declared.design.Signal.{Signal}
use Rattle.sv_types.specs.declared.design.EdgeOn.{EdgeOn}
use Rattle.sv_types.specs.declared.design.ProcessKind.{ProcessKind}
use Rattle.sv_types.specs.declared.design.ProcessKind.TheVariants.{Continuous, Link, Comb, Latch, Star, Edges}
use Rattle.sv_types.specs.declared.design.Process.{Process}
use Rattle.sv_types.specs.declared.design.Design.{Design}
use Rattle.sv_types.specs.declared.statement.Outcome.TheVariants.{Normal}
use Rattle.sv_types.specs.Layouts.{Layout, layout, default_bits}
use Rattle.sv_types.specs.Values.{bits}
use Rattle.sv_types.specs.Surroundings.{Callee, Parameter, Sight, is_signal}
use Rattle.sv_types.specs.Meanings.{Named}
use Rattle.sv_types.specs.Runs.{State}
use Rattle.sv_types.specs.Flows.{covered, uses_of}
use Rattle.sv_types.specs.Statements.{Doing, doing}
use Rattle.sv_types.specs.Functions.{callees}

-- a signal: its type, what kind it is, whether it is an input of the top, and what it holds before the first row
pub record SignalMeaning : Type 0 where
  pub of : Layout
  pub kind : SignalKind
  pub is_top_input : Bool
  pub initial : List Bit4

-- a process: what starts it, and what it runs
pub record ProcessMeaning : Type 0 where
  pub kind : ProcessKind
  pub does : Doing

-- what a design is made of
pub record Parts : Type 0 where
  pub signals : List SignalMeaning
  pub processes : List ProcessMeaning
  pub callee : ℕ → Callee

-- the bits of signals that are numbered from n on
abbrev pub places_from : ℕ → List SignalMeaning → List Place
places_from n [] = []
places_from n (s ∷ rest) = places_of n (length s.of.two_state) ++ places_from (suc n) rest

-- what is said of a signal, or what is said where there is no such signal
abbrev pub of_signal : {A : Type 0} → List SignalMeaning → A → (SignalMeaning → A) → ℕ → A
of_signal signals otherwise f n = elim (slice_get signals n) [ None ↦ otherwise | Some s ↦ f s ]

-- whether a signal is a variable, which holds its value where nothing assigns it; other signals are nets
abbrev pub holds_value : SignalKind → Bool
holds_value InputNet = false
holds_value InputVar = true
holds_value OutputNet = false
holds_value OutputVar = true
holds_value Net = false
holds_value Variable = true

abbrev pub is_input : SignalKind → Bool
is_input InputNet = true
is_input InputVar = true
is_input OutputNet = false
is_input OutputVar = false
is_input Net = false
is_input Variable = false

-- a bit of a net that nobody drives: z, or 0 where it is two-state
abbrev pub undriven : Bool → Bit4
undriven true = Zero
undriven false = Z

-- of a run only what it wrote to signals is seen
abbrev pub to_signals : Changes → Changes
to_signals c q = cond (is_signal q.signal) (c q) None

-- what a run starts on: nothing has been written to a local
abbrev pub unwritten : Valuation → Valuation
unwritten v q = cond (is_signal q.signal) (v q) X

abbrev pub has_edge : Valuation → Valuation → EdgeOn → Bool
has_edge v w e =
    let q : Place = record { signal = e.signal; bit = 0 } in
    is_edge e.rising (edge_of (v q) (w q))

module _ (d : Parts) where
  abbrev pub places : List Place
  places = places_from 0 d.signals

  abbrev pub initial : Valuation
  initial q = of_signal d.signals X (λ s. slice_index_or s.initial q.bit X) q.signal

  -- what is known of a process before it runs: nothing of what signals hold
  abbrev pub unseen : Sight
  unseen = record { around = record { now = λ q. X; holds = λ n. true; callee = d.callee }; sure = λ q. false }

  abbrev pub formals : ℕ → List Parameter
  formals n = (d.callee n).formals

  -- the bits that a process writes, by blocking or by nonblocking assignments, and those that it reads without writing them
  abbrev pub writes_of : Doing → List Place
  writes_of p = filter (covered (uses_of (p.flow unseen).writes)) places

  abbrev pub later_writes_of : Doing → List Place
  later_writes_of p = filter (covered (uses_of (p.flow unseen).later)) places

  abbrev pub reads_of : Doing → List Place
  reads_of p = let f = p.flow unseen in filter (λ q. covered f.reads q && not (covered (uses_of f.writes) q)) places

  -- the bits of all signals that its statements name, but for targets: what a plain `always @*` waits for (clause 9.4.2.2)
  abbrev pub names_of : Doing → List Place
  names_of p = filter (λ q. list_any (λ (n : Named). n.number == q.signal) (p.names formals)) places

  -- a run on a valuation, from the start
  abbrev pub ran : Doing → Valuation → State
  ran p v =
      p.run (record { now = unwritten v; holds = λ n. true; callee = d.callee })
      (record { written = unchanged; pending = unchanged; outcome = Normal })

  abbrev pub comb : Bool → List Place → Doing → M.Process
  comb from_zero waits_for p = record {
    from_zero = from_zero;
    waits_for = waits_for;
    reads = reads_of p;
    writes = writes_of p;
    assigns = λ v. to_signals (ran p v).written;
  }

  -- a process that isn't an edge process; all but a plain `always @*` are started at time zero
  abbrev pub comb_of : Doing → ProcessKind → List M.Process
  comb_of p Continuous = comb true [] p ∷ []
  comb_of p (Link port) = comb true [] p ∷ []
  comb_of p Comb = comb true [] p ∷ []
  comb_of p Latch = comb true [] p ∷ []
  comb_of p Star = comb false (names_of p) p ∷ []
  comb_of p (Edges es) = []

  abbrev pub edge : List EdgeOn → Doing → M.EdgeProcess
  edge es p = record {
    writes = later_writes_of p;
    runs = λ v w. list_any (has_edge v w) es;
    updates = λ v. to_signals (ran p v).pending;
  }

  abbrev pub edge_of_kind : Doing → ProcessKind → List M.EdgeProcess
  edge_of_kind p Continuous = []
  edge_of_kind p (Link port) = []
  edge_of_kind p Comb = []
  edge_of_kind p Latch = []
  edge_of_kind p Star = []
  edge_of_kind p (Edges es) = edge es p ∷ []

  -- whether a process writes a bit
  abbrev pub is_written : Place → Bool
  is_written q =
      list_any (λ (p : ProcessMeaning). let f = p.does.flow unseen in covered (uses_of f.writes) q || covered (uses_of f.later) q) d.processes

  -- a bit that some process writes, or that a variable holds, keeps its initial value until something assigns it
  abbrev pub start : Valuation
  start q =
      of_signal d.signals X (λ s. cond (holds_value s.kind || is_written q) (slice_index_or s.initial q.bit X) (undriven (slice_index_or s.of.two_state q.bit false))) q.signal

  abbrev pub machine_of : M.Machine
  machine_of = record {
    combs = flat_map (λ (p : ProcessMeaning). comb_of p.does p.kind) d.processes;
    edges = flat_map (λ (p : ProcessMeaning). edge_of_kind p.does p.kind) d.processes;
    inputs = filter (λ q. of_signal d.signals false (λ s. s.is_top_input) q.signal) places;
    initial = initial;
    start = start;
  }

-- Before the first row a variable holds its declared value, and any other signal x, or 0 in a two-state bit. The top is
-- instance 1.
abbrev pub signal_meaning : Signal → SignalMeaning
signal_meaning s = record {
  of = layout s.of;
  kind = s.kind;
  is_top_input = (s.instance == 1) && is_input s.kind;
  initial = cond s.declared (bits s.initial) (default_bits (layout s.of).two_state);
}

abbrev pub process_meaning : Process → ProcessMeaning
process_meaning p = record { kind = p.kind; does = doing p.body }

abbrev pub parts : Design → Parts
parts d = record { signals = map signal_meaning d.signals; processes = map process_meaning d.processes; callee = callees d.functions }

abbrev pub machine : Design → M.Machine
machine d = machine_of (parts d)
