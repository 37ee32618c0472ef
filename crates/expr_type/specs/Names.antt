-- What names stand for where something is typed.
use Rattle.std.specs.Prelude.{ℕ, ◌-◌, Bool, true, false, ◌&&◌, ◌==◌, cond, List, [], ◌∷◌, ◌++◌, length, Option, Some, None, slice_get}
use Rattle.std.specs.Str.{bytes_eq}
use Rattle.sv_types.specs.SvSource.{Place}
use Rattle.sv_types.specs.SvSource.{Spot}
use Rattle.sv_types.specs.SvSource.{Token}
use Rattle.sv_tree.specs.declared.functions.Function as T
use Rattle.sv_tree.specs.declared.functions.FormalList.{FormalList}
use Rattle.sv_tree.specs.declared.functions.Task.{Task}
use Rattle.sv_tree.specs.declared.names.QualifiedName.{QualifiedName}
use Rattle.sv_types.specs.declared.types.SvType.{SvType}
use Rattle.sv_types.specs.declared.types.Value.{Value}
use Rattle.sv_types.specs.declared.frame.ParamType.{ParamType}
use Rattle.sv_types.specs.declared.frame.ParamValue.{ParamValue}
use Rattle.sv_types.specs.declared.frame.SignalId.{SignalId}
use Rattle.sv_types.specs.declared.statement.Function.{Function}
use Rattle.expr_type.specs.Breaks.{Position}
use Rattle.expr_type.specs.Typings.{Typing}

-- a function or task as it is called: its place in the list of functions
pub record Called : Type 0 where
  pub place : ℕ
  pub of : Function

-- a local, a formal, a loop variable, or a function's result in its own body
pub record LocalId : Type 0 where
  pub decl : ℕ
  pub number : ℕ
  pub of : SvType

-- the instance and the path of the block in whose text something is declared
pub record Home : Type 0 where
  pub instance : ℕ
  pub path : List ℕ

-- a function or task as it is written
pub data RoutineText : Type 0 where
  OfFunction : T.Function → RoutineText
  OfTask : Task → RoutineText

-- the tokens of a source, and the instance in whose text they are read
pub record Source : Type 0 where
  pub tokens : List Token
  pub instance : ℕ

-- how many formals it has
abbrev pub formals_in : Option FormalList → ℕ
formals_in None = 0
formals_in (Some l) = length l.formals

abbrev pub formal_count : RoutineText → ℕ
formal_count (OfFunction f) = formals_in f.formals
formal_count (OfTask t) = formals_in t.formals

-- Where a text stands: the tokens and the instance; by number of declaration what the names of the text stand for so far; the
-- declaration that a name finds at its token; the declaration that stands at a token; which declarations are instances and
-- ports of interfaces; and the type of what `return` gives.
pub record Context : Type 0 where
  pub source : Source
  pub values : List ParamValue
  pub types : List ParamType
  pub signals : List SignalId
  pub locals : List LocalId
  pub finds : QualifiedName → Option ℕ
  pub declared : ℕ → ℕ
  pub is_interface : ℕ → Bool
  -- the rule that a name breaks as a pattern's key where it stands for nothing; none where its declaration is broken
  pub key_rule : ℕ → Option ℕ
  -- nets, which statements don't assign to; also those that are members of an interface
  pub is_net : ℕ → Bool
  pub is_net_member : ℕ → List ℕ → Bool
  pub result : Option SvType
  -- the local with the number 0 is this declaration
  pub base : ℕ
  -- functions and tasks by their declarations: what is written, where, and what they are where they are needed
  pub text : ℕ → Option RoutineText
  pub home : ℕ → Home
  pub routine : ℕ → Typing Called

abbrev pub position : Source → ℕ → Position
position k at = record { instance = k.instance; at = at }

-- places and words of tokens
abbrev pub word_in : Option Token → List ℕ
word_in None = []
word_in (Some t) = t.text

abbrev pub place_in : Option Token → Place
place_in None = record { file = 0; line = 1; col = 1 }
place_in (Some t) = t.place

abbrev pub word : Source → ℕ → List ℕ
word k at = word_in (slice_get k.tokens at)

abbrev pub spot : Source → ℕ → Spot
spot k at = record { at = at; place = place_in (slice_get k.tokens at); word = word k at }

-- A name stands for a signal, a local, a value, a type, or an instance or port of an interface, of which members are named.
-- One that stands for none of these is a function's, or has a broken declaration.
pub data Thing : Type 0 where
  Signal : ℕ → SvType → Thing
  Local : ℕ → SvType → Thing
  Constant : SvType → Value → Thing
  TypeName : SvType → Thing
  Interface : ℕ → Thing
  Other : ℕ → Thing
  Nothing : Thing

abbrev pub or_thing : Option Thing → Thing → Thing
or_thing None t = t
or_thing (Some t) u = t

abbrev pub local_in : ℕ → List LocalId → Option Thing
local_in n [] = None
local_in n (l ∷ ls) = cond (l.decl == n) (Some (Local l.number l.of)) (local_in n ls)

abbrev pub value_in : ℕ → List ParamValue → Option Thing
value_in n [] = None
value_in n (v ∷ vs) = cond (v.decl == n) (Some (Constant v.of v.value)) (value_in n vs)

abbrev pub type_in : ℕ → List ParamType → Option Thing
type_in n [] = None
type_in n (t ∷ ts) = cond (t.decl == n) (Some (TypeName t.of)) (type_in n ts)

-- a signal that is declared here, or a member of an interface
abbrev pub is_whole : List ℕ → Bool
is_whole [] = true
is_whole (c ∷ cs) = false

abbrev pub signal_in : ℕ → List SignalId → Option Thing
signal_in n [] = None
signal_in n (s ∷ ss) = cond ((s.decl == n) && is_whole s.member) (Some (Signal s.signal s.of)) (signal_in n ss)

abbrev pub member_in : ℕ → List ℕ → List SignalId → Option SignalId
member_in n name [] = None
member_in n name (s ∷ ss) = cond ((s.decl == n) && bytes_eq s.member name) (Some s) (member_in n name ss)

abbrev pub thing_of : Context → ℕ → Thing
thing_of k n =
    or_thing (local_in n k.locals)
    (or_thing (value_in n k.values)
    (or_thing (type_in n k.types)
    (or_thing (signal_in n k.signals) (cond (k.is_interface n) (Interface n) (Other n)))))

abbrev pub found : Context → Option ℕ → Thing
found k None = Nothing
found k (Some n) = thing_of k n

abbrev pub thing : Context → QualifiedName → Thing
thing k of = found k (k.finds of)

-- what else names stand for behind a declaration
abbrev pub with_values : List ParamValue → Context → Context
with_values vs k = record k { values = vs ++ k.values }

abbrev pub with_types : List ParamType → Context → Context
with_types ts k = record k { types = ts ++ k.types }

abbrev pub with_locals : List LocalId → Context → Context
with_locals ls k = record k { locals = ls ++ k.locals }

-- A local's number is how far its declaration stands behind that of its function, or behind the last one before its process.
abbrev pub local_id : Context → ℕ → SvType → LocalId
local_id k at t = record { decl = k.declared at; number = k.declared at - k.base; of = t }
