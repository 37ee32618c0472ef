-- What select paths stand on in the text (IEEE 1364-2005 clauses 4.9 and 5.2).
use Rattle.std.specs.Prelude.{◌≡◌, ℕ, ⊤, Bool, true, false, List, [], ◌∷◌, Option, Some, None, IsSome}
use Rattle.row_machine.specs.Valuation.{Valuation}
use Rattle.sv_types.specs.declared.expression.Expr.{Expr}
use Rattle.sv_types.specs.Surroundings.{Around}
use Rattle.sv_types.specs.Meanings as S
use Rattle.v_tree.specs.Names.{Name}
use Rattle.v_tree.specs.declared.names.NameMap.{NameMap}
use Rattle.v_tree.specs.declared.names.SignalName.{SignalName}
use Rattle.v_tree.specs.declared.expressions.VExpr.{VExpr}
use Rattle.name_maps.specs.Named.{signal_name, local_name, is_memory, OneSignal, OneLocal}
use Rattle.v_meaning.specs.Scopes.{Scope, named}
use Rattle.v_meaning.specs.Values as T
use Rattle.lowering_laws.specs.Same.{SameAlone}
use Rattle.lowering_laws.specs.Words.{IsMemory}
use Rattle.path_flatten.specs.Reading.{IsVector}
use Rattle.path_walk.specs.Selects.{Select, PathForm, Signal, Local, Other, Selected, path_form, BeginsAtElement}

-- The map says one thing of a signal or local; of what has another form an expression is given.
abbrev pub HasStand : NameMap → Option T.Meaning → PathForm → Type 0
HasStand names m (Signal n) = OneSignal names.signals n
HasStand names m (Local n) = OneLocal names.locals n
HasStand names m Other = IsSome m
HasStand names m (Selected s x) = ⊤

-- an expression is all of the signal with this number, which is a memory; or of no signal that is a memory
abbrev pub IsMemoryAt : List SignalName → Expr → Option ℕ → Type 0
IsMemoryAt names e (Some n) = (path_form e ≡ Signal n) × (OneSignal names n → is_memory names n ≡ true)
IsMemoryAt names e None = (n : ℕ) → path_form e ≡ Signal n → OneSignal names n → is_memory names n ≡ false

-- what stands for an expression in the text: a vector or a memory under a name, an expression that it is lowered to alone, or nothing
pub data Stand : Type 0 where
  Vector : Name → Stand
  Memory : Name → Stand
  Value : T.Meaning → Stand
  Nothing : Stand

-- a lowered expression, if one is given
abbrev pub value_of : Option VExpr → Option T.Meaning
value_of None = None
value_of (Some x) = Some (T.meaning x)

abbrev pub value_stand : Option T.Meaning → Stand
value_stand None = Nothing
value_stand (Some m) = Value m

abbrev pub signal_stand : Bool → Name → Stand
signal_stand true name = Memory name
signal_stand false name = Vector name

abbrev pub stand_in : NameMap → Option T.Meaning → PathForm → Stand
stand_in names m (Signal n) = signal_stand (is_memory names.signals n) (signal_name names.signals n)
stand_in names m (Local n) = Vector (local_name names.locals n)
stand_in names m Other = value_stand m
stand_in names m (Selected s x) = value_stand m

abbrev pub stand_of : NameMap → Option T.Meaning → Expr → Stand
stand_of names m e = stand_in names m (path_form e)

-- It holds all bits of the expression that it stands for. A memory holds its elements in its words, and is read by element.
abbrev pub HoldsBits : Stand → S.Meaning → List Select → Around → Scope → Valuation → Type 0
HoldsBits (Vector name) e ss a sc v = IsVector (named sc.names name) (S.wide e) (e.base a) v
HoldsBits (Memory name) e ss a sc v = IsMemory e a (named sc.names name) v × BeginsAtElement ss
HoldsBits (Value m) e ss a sc v = SameAlone e a m sc v
HoldsBits Nothing e ss a sc v = ⊥

-- what it names
abbrev pub stand_numbers : Stand → Scope → List ℕ
stand_numbers (Vector name) sc = (named sc.names name).number ∷ []
stand_numbers (Memory name) sc = (named sc.names name).number ∷ []
stand_numbers (Value m) sc = m.names sc
stand_numbers Nothing sc = []
