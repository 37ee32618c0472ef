-- The scopes, declarations and imports of a text, from what happens to names in it.
use Rattle.std.specs.Prelude.{ℕ, ◌-◌, Bool, true, false, List, [], ◌∷◌, ◌++◌, length, Option, Some, None, slice_get}
use Rattle.sv_source.specs.declared.token.Token.{Token}
use Rattle.sv_tree.specs.declared.units.SourceTree.{SourceTree}
use Rattle.name_events.specs.declared.events.Declared.{Declared}
use Rattle.name_events.specs.declared.events.Declared.TheVariants as W
use Rattle.name_events.specs.declared.events.Event.{Event}
use Rattle.name_events.specs.declared.events.Event.TheVariants as E
use Rattle.name_events.specs.declared.events.Role.{Role}
use Rattle.name_events.specs.declared.events.ScopeKind.{ScopeKind}
use Rattle.name_events.specs.declared.events.ScopeKind.TheVariants as S
use Rattle.name_events.specs.declared.events.SelectPath.{SelectPath}
use Rattle.name_events.specs.Items.{events_of}
use Rattle.package_scope.specs.declared.table.DeclKind.{DeclKind}
use Rattle.package_scope.specs.declared.table.DeclKind.TheVariants as K
use Rattle.package_scope.specs.declared.table.Declaration.{Declaration}
use Rattle.package_scope.specs.declared.table.Scope.{Scope}
use Rattle.package_scope.specs.declared.table.Table.{Table}

-- the text of a token
abbrev pub text_in : Option Token → List ℕ
text_in None = []
text_in (Some t) = t.text

abbrev pub word : List Token → ℕ → List ℕ
word ts i = text_in (slice_get ts i)

abbrev pub kind_of : Declared → DeclKind
kind_of W.Package = K.Package
kind_of W.Module = K.Module
kind_of W.Interface = K.Interface
kind_of W.Parameter = K.Constant
kind_of W.TypeParameter = K.TypeName
kind_of (W.TypeName packedness) = K.TypeName
kind_of W.EnumName = K.EnumName
kind_of W.Net = K.Signal
kind_of W.Variable = K.Signal
kind_of W.InterfacePort = K.Signal
kind_of (W.NamedPort of net) = K.Signal
kind_of W.Genvar = K.Genvar
kind_of W.Function = K.Function
kind_of W.VoidFunction = K.Function
kind_of W.Task = K.Function
kind_of (W.Instance of) = K.Instance
kind_of W.Block = K.Block
kind_of (W.Alternative construct) = K.Block
kind_of W.Modport = K.Modport
kind_of W.Formal = K.Formal
kind_of W.Local = K.Local
kind_of W.LoopVariable = K.Local

-- the scope around one
abbrev pub outer_in : Option Scope → ℕ
outer_in None = 0
outer_in (Some s) = s.outer

abbrev pub outer : List Scope → ℕ → ℕ
outer ss s = outer_in (slice_get ss s)

-- what one event does
abbrev pub opened : ScopeKind → ℕ → ℕ → Table → Table
opened kind first last t = record t {
  current = length t.scopes;
  scopes = t.scopes ++ record { kind = kind; first = first; last = last; outer = t.current } ∷ [];
}

abbrev pub closed : Table → Table
closed t = record t { current = outer t.scopes t.current }

abbrev pub holder : Bool → Table → ℕ
holder true t = outer t.scopes t.current
holder false t = t.current

abbrev pub declaration : List Token → Declared → ℕ → ℕ → Bool → Table → Declaration
declaration ts what at last outside t = record {
  name = word ts at;
  at = at;
  scope = holder outside t;
  what = kind_of what;
  how = what;
  last = last;
  inner = t.current;
}

abbrev pub declared : List Token → Declared → ℕ → ℕ → Bool → Table → Table
declared ts what at last outside t = record t { declared = t.declared ++ declaration ts what at last outside t ∷ [] }

abbrev pub imported : List Token → ℕ → ℕ → Table → Table
imported ts holder name t = record t {
  named = t.named ++ record { scope = t.current; source = word ts holder; source_at = holder; name = word ts name; at = name } ∷ [];
}

abbrev pub all_imported : List Token → ℕ → ℕ → Table → Table
all_imported ts holder star t = record t {
  wildcards = t.wildcards ++ record { scope = t.current; source = word ts holder; source_at = holder; at = star } ∷ [];
}

abbrev pub used : Option ℕ → ℕ → Role → SelectPath → Table → Table
used holder name role path t = record t {
  uses = t.uses ++ record { scope = t.current; source = holder; at = name; role = role; path = path } ∷ [];
}

abbrev pub run_over : ℕ → ℕ → Table → Table
run_over name last t = record t { loops = t.loops ++ record { scope = t.current; name = name; last = last } ∷ [] }

-- Ports of an instance are connected behind its own declaration, and no other one stands between.
abbrev pub headed : Table → Table
headed t = record t { heads = t.heads ++ record { scope = t.current; declared = length t.declared } ∷ [] }

abbrev pub last_declared : Table → ℕ
last_declared t = length t.declared - 1

abbrev pub linked : List Token → ℕ → Table → Table
linked ts port t = record t { links = t.links ++ record { instance = last_declared t; name = word ts port } ∷ [] }

abbrev pub rest_linked : ℕ → Table → Table
rest_linked mark t = record t { rests = t.rests ++ record { instance = last_declared t; at = mark } ∷ [] }

abbrev pub step : List Token → Event → Table → Table
step ts (E.Opens kind first last) t = opened kind first last t
step ts E.Heads t = headed t
step ts E.Closes t = closed t
step ts (E.Declares what name last outside) t = declared ts what name last outside t
step ts (E.ImportsName holder name) t = imported ts holder name t
step ts (E.ImportsAll holder star) t = all_imported ts holder star t
step ts (E.Uses holder name role path) t = used holder name role path t
step ts (E.Runs name last) t = run_over name last t
step ts (E.Repeats of name) t = t
step ts (E.Packs of at) t = t
step ts (E.Undirected name of before) t = t
step ts (E.TypeArgument function at) t = t
step ts (E.Connects port) t = linked ts port t
step ts (E.ConnectsRest mark) t = rest_linked mark t
step ts (E.Wrong at) t = t

abbrev pub steps : List Token → List Event → Table → Table
steps ts [] t = t
steps ts (e ∷ es) t = steps ts es (step ts e t)

-- the compilation unit, whose last token is the end
abbrev pub unit_scope : ℕ → Scope
unit_scope last = record { kind = S.Unit; first = 0; last = last; outer = 0 }

abbrev pub start : ℕ → Table
start last = record {
  current = 0;
  scopes = unit_scope last ∷ [];
  declared = [];
  named = [];
  wildcards = [];
  uses = [];
  loops = [];
  heads = [];
  links = [];
  rests = [];
}

-- The table of a text. Scopes are numbered from 0 in the order of their first tokens, the compilation unit first, and
-- declarations in the order of their tokens.
unfoldable pub table_of : SourceTree → Table
table_of tree = steps tree.tokens (events_of tree) (start (length tree.tokens - 1))
