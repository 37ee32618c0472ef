-- A design of the target language as a machine over rows (IEEE 1364-2005 clauses 4.6, 6.1, 9.7 and 11).
use Rattle.std.specs.Prelude.{ℕ, suc, Bool, true, false, ◌&&◌, ◌||◌, ◌==◌, ◌*◌, nat_lt, not, cond, List, [], ◌∷◌, ◌++◌, length, flat_map, filter, Option, Some, None, slice_get, slice_index_or}
use Rattle.std.specs.List.{list_any}
use Rattle.b4_core.specs.declared.bit.Bit4.{Bit4}
use Rattle.b4_core.specs.declared.bit.Bit4.TheVariants.{X, Z}
use Rattle.b4_core.specs.Bits.{same4}
use Rattle.b4_core.specs.Bitwise.{edge_of}
use Rattle.row_machine.specs.Valuation.{Place, Valuation, Changes}
use Rattle.row_machine.specs.Machine as M
use Rattle.row_machine.specs.Places.{places_of}
use Rattle.row_machine.specs.Steps.{is_edge}
use Rattle.v_tree.specs.Names.{Name}
use Rattle.v_tree.specs.declared.items.VDesign.{VDesign}
use Rattle.v_meaning.specs.Scopes.{is_signal}
use Rattle.v_meaning.specs.Runs.{State, begun}
use Rattle.v_meaning.specs.Statements.{covered}
use Rattle.v_meaning.specs.Modules.{Kind, input_net, net, variable, Signal, EdgeOn, Starts, always_on, on_change, on_edges, Process, InitialValue, Parts, signals, items_of, parts}

-- all bits of a signal, those of all words of a memory
abbrev pub size : Signal → ℕ
size s = elim s.words [ None ↦ s.width | Some count ↦ count * s.width ]

-- the bits of signals that are numbered from n on
abbrev pub places_from : ℕ → List Signal → List Place
places_from n [] = []
places_from n (s ∷ ss) = places_of n (size s) ++ places_from (suc n) ss

-- what is said of a signal, or what is said where there is no such signal
abbrev pub of_signal : {A : Type 0} → List Signal → A → (Signal → A) → ℕ → A
of_signal ss otherwise f n = elim (slice_get ss n) [ None ↦ otherwise | Some s ↦ f s ]

abbrev pub is_input : Kind → Bool
is_input input_net = true
is_input net = false
is_input variable = false

-- a variable holds its value where nothing assigns it
abbrev pub holds_value : Kind → Bool
holds_value input_net = false
holds_value net = false
holds_value variable = true

-- of a run only what it wrote to signals is seen
abbrev pub to_signals : Changes → Changes
to_signals c q = cond (is_signal q.signal) (c q) None

-- an edge on a signal, which has one bit
abbrev pub has_edge : Valuation → Valuation → EdgeOn → Bool
has_edge v w e =
    let q : Place = record { signal = e.signal; bit = 0 } in
    is_edge e.rising (edge_of (v q) (w q))

-- the last `initial` of a signal counts
abbrev pub last_initial : List InitialValue → ℕ → Option (List Bit4)
last_initial [] n = None
last_initial (i ∷ is) n = elim (last_initial is n) [ None ↦ cond (i.number == n) (Some i.value) None | Some v ↦ Some v ]

module _ (own : ℕ) (d : Parts) where
  abbrev pub places : List Place
  places = places_from 0 d.signals

  -- before the first row
  abbrev pub initial : Valuation
  initial q = of_signal d.signals X (λ s. slice_index_or s.initial q.bit X) q.signal

  -- at time zero, once every `initial` has been made
  abbrev pub given : Valuation
  given q = elim (last_initial d.initials q.signal) [ None ↦ initial q | Some v ↦ slice_index_or v q.bit X ]

  abbrev pub writes_of : Process → List Place
  writes_of p = filter (covered (p.does.writes p.scope)) places

  abbrev pub later_writes_of : Process → List Place
  later_writes_of p = filter (covered (p.does.later p.scope)) places

  abbrev pub reads_of : Process → List Place
  reads_of p = filter (λ q. covered (p.does.reads p.scope) q && not (covered (p.does.writes p.scope) q)) places

  -- the bits of all signals that the statements name, but for targets
  abbrev pub names_of : Process → List Place
  names_of p = filter (λ q. list_any (λ n. n == q.signal) (p.does.names p.scope)) places

  abbrev pub ran : Process → Valuation → State
  ran p v = p.does.run p.scope v begun

  abbrev pub comb : Bool → List Place → Process → M.Process
  comb from_zero waits_for p = record {
    from_zero = from_zero;
    waits_for = waits_for;
    reads = reads_of p;
    writes = writes_of p;
    assigns = λ v. to_signals (ran p v).written;
  }

  -- An `always @*` runs once a signal that it reads changes (clause 9.7.5). An `initial` that gives such a signal another value
  -- than it held before starts it at time zero, and from then on it waits for nothing.
  abbrev pub is_triggered : Process → Bool
  is_triggered p = list_any (λ q. not (same4 (given q) (initial q))) (names_of p)

  abbrev pub star : Process → M.Process
  star p = comb (is_triggered p) (cond (is_triggered p) [] (names_of p)) p

  abbrev pub comb_of : Starts → Process → List M.Process
  comb_of always_on p = comb true [] p ∷ []
  comb_of on_change p = star p ∷ []
  comb_of (on_edges es) p = []

  abbrev pub edge : List EdgeOn → Process → M.EdgeProcess
  edge es p = record {
    writes = later_writes_of p;
    runs = λ v w. list_any (has_edge v w) es;
    updates = λ v. to_signals (ran p v).pending;
  }

  abbrev pub edge_of_process : Starts → Process → List M.EdgeProcess
  edge_of_process always_on p = []
  edge_of_process on_change p = []
  edge_of_process (on_edges es) p = edge es p ∷ []

  abbrev pub is_written : Place → Bool
  is_written q =
      list_any (λ (p : Process). covered (p.does.writes p.scope) q || covered (p.does.later p.scope) q) d.processes

  -- A bit of a net that nothing writes is z (clause 4.6). Any other bit keeps what it holds at time zero until a run
  -- assigns it. What lies past a signal's bits is x.
  abbrev pub start : Valuation
  start q = of_signal d.signals X (λ s. cond (nat_lt q.bit (size s)) (cond (holds_value s.kind || is_written q) (given q) Z) X) q.signal

  -- the top's inputs: its own signals stand in front
  abbrev pub is_top_input : Place → Bool
  is_top_input q = nat_lt q.signal own && of_signal d.signals false (λ s. is_input s.kind) q.signal

  abbrev pub machine_of : M.Machine
  machine_of = record {
    combs = flat_map (λ (p : Process). comb_of p.starts p) d.processes;
    edges = flat_map (λ (p : Process). edge_of_process p.starts p) d.processes;
    inputs = filter is_top_input places;
    initial = initial;
    start = start;
  }

-- the machine of the instance of the top and of all instances in it
abbrev pub machine : VDesign → Name → M.Machine
machine e top = machine_of (length (signals (items_of e.modules top))) (parts e.modules top)
