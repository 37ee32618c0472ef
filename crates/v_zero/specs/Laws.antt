-- Laws of what signals hold at time zero.
use Rattle.std.specs.Prelude.{◌≡◌, ℕ, ◌<◌, ◌≤◌, ◌^◌, Bool, List, length, map, slice_index_or}
use Rattle.b4_core.specs.declared.bit.Bit4.{Bit4}
use Rattle.row_machine.specs.Settle.{differs}
use Rattle.row_machine.specs.Valuation.{Place}
use Rattle.round_runner.specs.Stores.{Holds, holding, widths}
use Rattle.v_tree.specs.Names.{Name}
use Rattle.v_tree.specs.Rules.{Keeps, FitsTop}
use Rattle.v_tree.specs.declared.items.VDesign.{VDesign}
use Rattle.v_meaning.specs.Machine.{size, initial, given, names_of, is_triggered, is_written, start}
use Rattle.v_meaning.specs.Modules.{Signal, Process, Parts, parts}
use Rattle.v_stores.specs.Stores.{rooms, initially}
use Rattle.v_stores.specs.Waits.{is_named, named_places}
use Rattle.v_zero.specs.Zero.{InitialsFit, given_over, marked, started}

-- In a design that keeps the rules no declared value is longer than its signal (clause 6.2.1),
abbrev pub RoomsOfRules : Type 0
RoomsOfRules = (e : VDesign) (top : Name) → Keeps e → rooms (parts e.modules top).signals ≡ map size (parts e.modules top).signals

-- so that a store of its declared values holds what the machine holds before the first row.
abbrev pub InitialHeld : Type 0
InitialHeld = (e : VDesign) (top : Name) (own : ℕ) (ss : List Signal) (vs : List (List Bit4)) → Keeps e → ss ≡ (parts e.modules top).signals → Holds (rooms ss) (initially ss) vs
    → Holds (map size (parts e.modules top).signals) (initial own (parts e.modules top)) vs

-- In it an `initial` gives a signal a value of its width.
abbrev pub InitialsOfRules : Type 0
InitialsOfRules = (e : VDesign) (top : Name) → Keeps e → InitialsFit (map size (parts e.modules top).signals) (parts e.modules top).initials

-- A design that can be run with this top has few signals.
abbrev pub FewSignals : Type 0
FewSignals = (e : VDesign) (top : Name) → FitsTop e top → length (parts e.modules top).signals ≤ 2 ^ 32

-- A store with all values of `initial` in it holds what the machine holds at time zero.
abbrev pub GivenHeld : Type 0
GivenHeld = (own : ℕ) (d : Parts) (was vs : List (List Bit4)) → Holds (map size d.signals) (initial own d) was → Holds (widths was) (given_over d.initials (holding was)) vs
    → Holds (map size d.signals) (given own d) vs

-- A list of signals is what a process names, as far as there are signals.
abbrev pub ListsNames : Parts → Process → List ℕ → Type 0
ListsNames d p listed = (m : ℕ) → m < length d.signals → is_named listed m ≡ is_named (p.does.names p.scope) m

-- The bits of these are what it names,
abbrev pub NamesAreListed : Type 0
NamesAreListed = (own : ℕ) (d : Parts) (p : Process) (listed : List ℕ) → ListsNames d p listed → names_of own d p ≡ named_places listed (map size d.signals)

-- and an `always @*` that names them is started at time zero where one of them has been given another value.
abbrev pub TriggeredByListed : Type 0
TriggeredByListed = (own : ℕ) (d : Parts) (p : Process) (listed : List ℕ) (now was : List (List Bit4)) → ListsNames d p listed → Holds (map size d.signals) (given own d) now → Holds (map size d.signals) (initial own d) was
    → is_triggered own d p ≡ differs (named_places listed (widths was)) (holding now) (holding was)

-- A store with z in all bits of nets that no process writes holds what the machine starts from. The marks say which bits are
-- written, of those that are there.
abbrev pub StartHeld : Type 0
StartHeld = (own : ℕ) (d : Parts) (marks : List (List Bool)) (held vs : List (List Bit4)) → ((q : Place) → q.bit < slice_index_or (map size d.signals) q.signal 0 → marked marks q ≡ is_written own d q) → Holds (map size d.signals) (given own d) held
    → Holds (widths held) (started d.signals (marked marks) (holding held)) vs → Holds (map size d.signals) (start own d) vs
