-- Laws of the definitions.
use Rattle.std.specs.Prelude.{◌≡◌, ◌+◌, ◌≤◌, ◌^◌, ℕ, false, List, length}
use Rattle.row_machine.specs.Valuation.{Valuation}
use Rattle.v_tree.specs.declared.items.VItem.{VItem}
use Rattle.v_meaning.specs.Scopes.{Scope, Use}
use Rattle.v_meaning.specs.Modules.{signals, scope_of}
use Rattle.v_processes.specs.declared.process.Does.{Does}
use Rattle.v_processes.specs.Processes.{does_in}
use Rattle.v_steps.specs.Steps.{ran}
use Rattle.v_writes.specs.Writes.{made}
use Rattle.v_hangs.specs.Hangs.{SameSignals, HangsOn, WritesIn, ListsSignals, PortIsSignal}

-- What a process does hangs on nothing that a valuation holds in locals: they are made x where their block or function begins.
abbrev pub LocalsDontCount : Type 0
LocalsDontCount = (d : Does) (first : ℕ) (items : List VItem) → first + length (signals items) ≤ 2 ^ 32 → PortIsSignal d → (v w : Valuation) → SameSignals v w
    → ran (does_in d (scope_of first items)) v ≡ ran (does_in d (scope_of first items)) w

-- It hangs on the signals alone that it reads.
abbrev pub HangsOnReads : Type 0
HangsOnReads = (d : Does) (first : ℕ) (items : List VItem) → first + length (signals items) ≤ 2 ^ 32 → PortIsSignal d → (ns : List ℕ)
    → ListsSignals ((does_in d (scope_of first items)).does.reads (scope_of first items)) ns → HangsOn (does_in d (scope_of first items)) ns

-- And it assigns those signals alone that it may write other than by nonblocking assignments.
abbrev pub WritesOnlyUses : Type 0
WritesOnlyUses = (d : Does) (sc : Scope) (us : List Use) (ns : List ℕ) → us ≡ made false (does_in d sc).does sc → ListsSignals us ns → WritesIn (does_in d sc) ns
