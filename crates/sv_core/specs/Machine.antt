-- An elaborated design as a machine over rows.
use Rattle.std.specs.Prelude.{ℕ, suc, Bool, true, List, [], ◌∷◌, ◌++◌, flat_map, slice_get, Option, Some, None}
use Rattle.std.specs.List.{list_any}
use Rattle.b4_core.specs.declared.bit.Bit4.{Bit4}
use Rattle.b4_core.specs.declared.bit.Bit4.TheVariants.{X, Z}
use Rattle.b4_core.specs.Bitwise.{edge_of}
use Rattle.row_machine.specs.Valuation.{Place, Valuation}
use Rattle.row_machine.specs.Machine as M
use Rattle.row_machine.specs.Places.{places_of, without}
use Rattle.row_machine.specs.Steps.{begun, is_edge}
use Rattle.sv_core.specs.declared.design.SignalKind.{SignalKind}
use Rattle.sv_core.specs.declared.design.SignalKind.TheVariants.{InputNet, OutputVar, Variable}
use Rattle.sv_core.specs.declared.design.Signal.{Signal}
use Rattle.sv_core.specs.declared.design.EdgeOn.{EdgeOn}
use Rattle.sv_core.specs.declared.design.ProcessKind.{ProcessKind}
use Rattle.sv_core.specs.declared.design.ProcessKind.TheVariants.{Continuous, Comb, Edges}
use Rattle.sv_core.specs.declared.design.Process.{Process}
use Rattle.sv_core.specs.declared.design.Stmt.{Stmt}
use Rattle.sv_core.specs.declared.design.Design.{Design}
use Rattle.sv_core.specs.Numbers.{each_once}
use Rattle.sv_core.specs.Statements.{width_of, doing}

-- the places of signals
abbrev pub places_of_signals : List Signal → List ℕ → List Place
places_of_signals signals ns = flat_map (λ n. places_of n (width_of signals n)) ns

-- A continuous assignment or an `always_comb` runs from time zero (IEEE 1800-2017 clauses 10.3 and 9.2.2.2.2), and again
-- whenever what it reads changes.
abbrev pub comb_process : List Signal → Stmt → M.Process
comb_process signals body =
    let d = doing body in
    let own = places_of_signals signals (each_once d.targets) in
    record {
      from_zero = true;
      waits_for = [];
      reads = without own (places_of_signals signals d.reads);
      writes = own;
      assigns = λ v. (d.run signals (begun v)).written;
    }

abbrev pub comb_of : List Signal → ProcessKind → Stmt → List M.Process → List M.Process
comb_of signals Continuous body rest = comb_process signals body ∷ rest
comb_of signals Comb body rest = comb_process signals body ∷ rest
comb_of signals (Edges edges) body rest = rest

-- the combinational processes in order
abbrev pub combs_of : List Signal → List Process → List M.Process
combs_of signals [] = []
combs_of signals (p ∷ rest) = comb_of signals p.kind p.body (combs_of signals rest)

-- whether the signal has the edge from the first valuation to the second
abbrev pub has_edge : Valuation → Valuation → EdgeOn → Bool
has_edge v w e =
    let q : Place = record { signal = e.signal; bit = 0 } in
    is_edge e.rising (edge_of (v q) (w q))

-- an edge process: it runs where one of its edges is there, and its updates are the nonblocking ones (clause 10.4.2)
abbrev pub edge_process : List Signal → List EdgeOn → Stmt → M.EdgeProcess
edge_process signals edges body =
    let d = doing body in
    record {
      writes = places_of_signals signals (each_once d.later_targets);
      runs = λ v w. list_any (has_edge v w) edges;
      updates = λ v. (d.run signals (begun v)).pending;
    }

abbrev pub edge_process_of : List Signal → ProcessKind → Stmt → List M.EdgeProcess → List M.EdgeProcess
edge_process_of signals Continuous body rest = rest
edge_process_of signals Comb body rest = rest
edge_process_of signals (Edges edges) body rest = edge_process signals edges body ∷ rest

-- the edge processes in order
abbrev pub edges_of : List Signal → List Process → List M.EdgeProcess
edges_of signals [] = []
edges_of signals (p ∷ rest) = edge_process_of signals p.kind p.body (edges_of signals rest)

-- the places of a signal, if it is an input
abbrev pub input_places : ℕ → Signal → List Place
input_places n s = elim s.kind [ InputNet ↦ places_of n s.width | OutputVar ↦ [] | Variable ↦ [] ]

-- the places of the inputs, the signals being numbered from n on
abbrev pub inputs_from : ℕ → List Signal → List Place
inputs_from n [] = []
inputs_from n (s ∷ rest) = input_places n s ++ inputs_from (suc n) rest

-- what a bit holds where no process assigns it: z in a net (clause 6.6), and the default x in a four-state variable (clause 6.8)
abbrev pub rest_of : SignalKind → Bit4
rest_of InputNet = Z
rest_of OutputVar = X
rest_of Variable = X

abbrev pub rest_or_x : Option Signal → Bit4
rest_or_x (Some s) = rest_of s.kind
rest_or_x None = X

-- Before the first row each bit is x: nets hold x then, and x is the default of a four-state variable.
abbrev pub machine : Design → M.Machine
machine d = record {
  combs = combs_of d.signals d.processes;
  edges = edges_of d.signals d.processes;
  inputs = inputs_from 0 d.signals;
  initial = λ q. X;
  start = λ q. rest_or_x (slice_get d.signals q.signal);
}
