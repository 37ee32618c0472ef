-- The shape of a target design: that of its source, signal by signal and process by process.
use Rattle.std.specs.Prelude.{◌≡◌, ◌⊎◌, ℕ, Bool, true, false, List, [], ◌∷◌, ◌++◌, map, filter, replicate, codes, slice_get, Option, Some, None}
use Rattle.std.specs.List.{AllZip}
use Rattle.b4_core.specs.declared.bit.Bit4.TheVariants.{X}
use Rattle.row_machine.specs.Valuation.{Member}
use Rattle.sv_core.specs.declared.design.SignalKind.{SignalKind}
use Rattle.sv_core.specs.declared.design.SignalKind.TheVariants.{InputNet, OutputVar, Variable}
use Rattle.sv_core.specs.declared.design.Signal.{Signal}
use Rattle.sv_core.specs.declared.design.EdgeOn.{EdgeOn}
use Rattle.sv_core.specs.declared.design.ProcessKind.{ProcessKind}
use Rattle.sv_core.specs.declared.design.ProcessKind.TheVariants.{Continuous, Comb, Edges}
use Rattle.sv_core.specs.declared.design.Process.{Process as SourceProcess}
use Rattle.sv_core.specs.declared.design.Stmt.{Stmt}
use Rattle.sv_core.specs.declared.design.Design.{Design}
use Rattle.sv_core.specs.Statements.{doing}
use Rattle.v_tree.specs.Names.{Name}
use Rattle.v_tree.specs.Rules.{Port, ports_of, instantiated}
use Rattle.v_tree.specs.declared.items.VModule.{VModule}
use Rattle.v_tree.specs.declared.items.VDesign.{VDesign}
use Rattle.v_meaning.specs.Scopes.{Scope, Use, named, all_bits}
use Rattle.v_meaning.specs.Modules.{Kind, input_net, net, variable, Starts, always_on, on_change, on_edges, Process, InitialValue, signals, functions, parts}
use Rattle.v_meaning.specs.Modules as Target
use Rattle.lower_design.specs.Translatable.{is_helper_name, path_of}

-- the printed name of a signal: its path inside its module
abbrev pub path_or_nothing : Option Signal → Name
path_or_nothing (Some s) = s.path
path_or_nothing None = []

abbrev pub name_of : List Signal → ℕ → Name
name_of all n = path_or_nothing (slice_get all n)

-- the trigger of the processes that run from time zero
abbrev pub trigger : Name
trigger = codes "sv2v_t"

abbrev pub is_port : SignalKind → Bool
is_port InputNet = true
is_port OutputVar = true
is_port Variable = false

-- the image of a signal has its name and its width, declares no value, and is no memory
abbrev pub kind_fits : SignalKind → Kind → Type 0
kind_fits InputNet kind = kind ≡ input_net
kind_fits OutputVar kind = (kind ≡ net) ⊎ (kind ≡ variable)
kind_fits Variable kind = (kind ≡ net) ⊎ (kind ≡ variable)

pub record IsImage (s : Signal) (t : Target.Signal) : Type 0 where
  pub name : t.name ≡ s.path
  pub width : t.width ≡ s.width
  pub words : t.words ≡ None
  pub initial : t.initial ≡ replicate s.width X
  pub kind : kind_fits s.kind t.kind

-- all bits of the signal that a name stands for
abbrev pub whole_of : Scope → Name → Use
whole_of sc name = let n = named sc.names name in record { number = n.number; low = 0; high = all_bits n }

-- those of the images of some signals
abbrev pub images_of : List Signal → Scope → List ℕ → List Use
images_of all sc ns = map (λ n. whole_of sc (name_of all n)) ns

-- a target process reads the images of what its source process reads, and perhaps the trigger
abbrev pub Reads : List Signal → List ℕ → Process → Type 0
Reads all ns t = t.does.reads t.scope ≡ images_of all t.scope ns

abbrev pub ReadsTrigger : List Signal → List ℕ → Process → Type 0
ReadsTrigger all ns t = t.does.reads t.scope ≡ whole_of t.scope trigger ∷ images_of all t.scope ns

-- and it writes, at once or later, the images of what that one writes
abbrev pub Writes : List Signal → List ℕ → Process → Type 0
Writes all ns t = t.does.writes t.scope ≡ images_of all t.scope ns

abbrev pub WritesLater : List Signal → List ℕ → Process → Type 0
WritesLater all ns t = t.does.later t.scope ≡ images_of all t.scope ns

pub record IsEdge (all : List Signal) (sc : Scope) (e : EdgeOn) (f : Target.EdgeOn) : Type 0 where
  pub signal : f.signal ≡ (named sc.names (name_of all e.signal)).number
  pub rising : f.rising ≡ e.rising

-- A target process has its source process's kind and edges, and reads and writes the images of what that one reads and
-- writes. A continuous assignment may be an `always @*`, and an `always_comb` is one; both may read the trigger.
abbrev pub IsProcess : List Signal → ProcessKind → Stmt → Starts → Process → Type 0
IsProcess all Continuous body always_on t = Writes all (doing body).targets t × Reads all (doing body).reads t
IsProcess all Continuous body on_change t =
    Writes all (doing body).targets t × (Reads all (doing body).reads t ⊎ ReadsTrigger all (doing body).reads t)
IsProcess all Continuous body (on_edges edges) t = ⊥
IsProcess all Comb body always_on t = ⊥
IsProcess all Comb body on_change t =
    Writes all (doing body).targets t × (Reads all (doing body).reads t ⊎ ReadsTrigger all (doing body).reads t)
IsProcess all Comb body (on_edges edges) t = ⊥
IsProcess all (Edges es) body always_on t = ⊥
IsProcess all (Edges es) body on_change t = ⊥
IsProcess all (Edges es) body (on_edges edges) t =
    AllZip (IsEdge all t.scope) es edges × WritesLater all (doing body).later_targets t × Reads all (doing body).reads t

abbrev pub HasProcess : List Signal → SourceProcess → Process → Type 0
HasProcess all p t = IsProcess all p.kind p.body t.starts t

-- The target has the source's shape: one module with the top's name, the source's ports in order, the images of its
-- signals in order and behind them helper signals alone, and one process for each of the source's, in order. There is no
-- function and no instance, and all else are `initial`s of helper signals.
pub record Shape (d : Design) (e : VDesign) : Type 0 where
  pub top : VModule
  pub one_module : e.modules ≡ top ∷ []
  pub name : top.name ≡ d.top
  pub ports : top.ports ≡ map path_of (filter (λ (s : Signal). is_port s.kind) d.signals)
  pub declared_ports : map (λ (p : Port). p.name) (ports_of top.items 0) ≡ top.ports
  pub images : List Target.Signal
  pub helpers : List Target.Signal
  pub all_signals : signals top.items ≡ images ++ helpers
  pub are_images : AllZip IsImage d.signals images
  pub are_helpers : (h : Target.Signal) → Member helpers h → is_helper_name h.name ≡ true
  pub no_functions : functions top.items ≡ []
  pub no_instances : instantiated top.items ≡ []
  pub are_processes : AllZip (HasProcess d.signals) d.processes (parts e.modules d.top).processes
  pub of_helpers : (i : InitialValue) → Member (parts e.modules d.top).initials i
      → (h : Target.Signal) × (slice_get (signals top.items) i.number ≡ Some h) × Member helpers h
