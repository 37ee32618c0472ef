-- The rules on names: E401 to E404 as far as the tokens and the declarations show them, E609 and E610.
use Rattle.std.specs.Prelude.{ℕ, zero, suc, Bool, true, false, ◌&&◌, ◌||◌, ◌==◌, nat_eq, nat_lt, not, cond, codes, List, [], ◌∷◌, ◌++◌, length, take, drop, flat_map, Option, Some, None, is_some, slice_get}
use Rattle.std.specs.List.{list_any}
use Rattle.std.specs.Str.{bytes_eq}
use Rattle.call_circles.specs.Calls.{is_broken}
use Rattle.call_circles.specs.declared.calls.Call.{Call}
use Rattle.call_circles.specs.declared.calls.Need.{Need}
use Rattle.sv_source.specs.declared.token.Kind.{Kind}
use Rattle.sv_source.specs.declared.token.Kind.TheVariants.{Name}
use Rattle.sv_source.specs.declared.token.Token.{Token}
use Rattle.sv_tree.specs.declared.units.SourceTree.{SourceTree}
use Rattle.name_events.specs.declared.events.Before.{Before}
use Rattle.name_events.specs.declared.events.Before.TheVariants as F
use Rattle.name_events.specs.declared.events.Declared.{Declared}
use Rattle.name_events.specs.declared.events.Declared.TheVariants as W
use Rattle.name_events.specs.declared.events.Event.{Event}
use Rattle.name_events.specs.declared.events.Event.TheVariants as E
use Rattle.name_events.specs.declared.events.Packedness.{Packedness}
use Rattle.name_events.specs.declared.events.Packedness.TheVariants as P
use Rattle.name_events.specs.declared.events.Role.{Role}
use Rattle.name_events.specs.declared.events.Role.TheVariants as R
use Rattle.name_events.specs.declared.events.ScopeKind.{ScopeKind}
use Rattle.name_events.specs.declared.events.ScopeKind.TheVariants as S
use Rattle.name_events.specs.declared.events.SelectPath.{SelectPath}
use Rattle.name_events.specs.declared.events.SelectPath.TheVariants as T
use Rattle.name_events.specs.Items.{events_of}
use Rattle.package_scope.specs.declared.breaks.Break.{Break}
use Rattle.package_scope.specs.declared.table.DeclKind.{DeclKind}
use Rattle.package_scope.specs.declared.table.DeclKind.TheVariants as K
use Rattle.package_scope.specs.declared.table.Declaration.{Declaration}
use Rattle.package_scope.specs.declared.table.Found.{Found}
use Rattle.package_scope.specs.declared.table.Found.TheVariants.{Decl, Absent, Twice}
use Rattle.package_scope.specs.declared.table.Head.{Head}
use Rattle.package_scope.specs.declared.table.Link.{Link}
use Rattle.package_scope.specs.declared.table.LoopRun.{LoopRun}
use Rattle.package_scope.specs.declared.table.NamedImport.{NamedImport}
use Rattle.package_scope.specs.declared.table.Rest.{Rest}
use Rattle.package_scope.specs.declared.table.Table.{Table}
use Rattle.package_scope.specs.declared.table.Use.{Use}
use Rattle.package_scope.specs.declared.table.WildcardImport.{WildcardImport}
use Rattle.package_scope.specs.Tables.{word, outer, table_of}
use Rattle.package_scope.specs.Lookup.{own, in_scope_of, found, is_named, package_found, package_scope, means}

-- Of two breaks the one with the lesser token counts, at one token the one with the lesser rule.
abbrev pub breaks_at : ℕ → ℕ → List Break
breaks_at rule at = record { at = at; rule = rule } ∷ []

abbrev pub breaks_if : Bool → ℕ → ℕ → List Break
breaks_if false rule at = []
breaks_if true rule at = breaks_at rule at

abbrev pub is_less : Break → Break → Bool
is_less a b = nat_lt a.at b.at || ((a.at == b.at) && nat_lt a.rule b.rule)

abbrev pub lesser : Break → Option Break → Option Break
lesser a None = Some a
lesser a (Some b) = Some (cond (is_less b a) b a)

abbrev pub least : List Break → Option Break
least [] = None
least (b ∷ bs) = lesser b (least bs)

-- What a use finds, with a package before the name or without.
abbrev pub finds_in : List Token → Table → Use → Option ℕ → Found
finds_in ts t u None = means t u.scope (word ts u.at) u.at
finds_in ts t u (Some holder) = found (in_scope_of t (package_scope t (word ts holder) holder) (word ts u.at) u.at)

abbrev pub finds : List Token → Table → Use → Found
finds ts t u = finds_in ts t u u.source

-- the use that stands at a token
abbrev pub use_or : Bool → Use → Option Use → Option Use
use_or true u later = Some u
use_or false u later = later

abbrev pub use_at : ℕ → List Use → Option Use
use_at at [] = None
use_at at (u ∷ us) = use_or (u.at == at) u (use_at at us)

abbrev pub declared_by : Table → Found → Option Declaration
declared_by t (Decl n) = slice_get t.declared n
declared_by t Absent = None
declared_by t Twice = None

abbrev pub declaration_of : List Token → Table → Option Use → Option Declaration
declaration_of ts t None = None
declaration_of ts t (Some u) = declared_by t (finds ts t u)

-- the declaration that the use at a token finds
abbrev pub declaration_at : List Token → Table → ℕ → Option Declaration
declaration_at ts t at = declaration_of ts t (use_at at t.uses)

abbrev pub is_interface_kind : DeclKind → Bool
is_interface_kind K.Interface = true
is_interface_kind _ = false

abbrev pub is_interface : Option Declaration → Bool
is_interface None = false
is_interface (Some d) = is_interface_kind d.what

abbrev pub names_interface : List Token → Table → ℕ → Bool
names_interface ts t at = is_interface (declaration_at ts t at)

-- The function or task around a scope, by its scope.
abbrev pub is_routine_scope : ScopeKind → Bool
is_routine_scope S.Function = true
is_routine_scope S.VoidFunction = true
is_routine_scope S.Task = true
is_routine_scope _ = false

abbrev pub is_function_scope : ScopeKind → Bool
is_function_scope S.Function = true
is_function_scope S.VoidFunction = true
is_function_scope _ = false

abbrev pub holds_at : (ScopeKind → Bool) → Table → ℕ → Bool
holds_at p t s = elim (slice_get t.scopes s) [ None ↦ false | Some x ↦ p x.kind ]

abbrev pub around : (ScopeKind → Bool) → Table → ℕ → ℕ → Option ℕ
around p t zero s = None
around p t (suc more) s = cond (holds_at p t s) (Some s) (cond (s == 0) None (around p t more (outer t.scopes s)))

abbrev pub routine_around : Table → ℕ → Option ℕ
routine_around t s = around is_routine_scope t (length t.scopes) s

abbrev pub in_function : Table → ℕ → Bool
in_function t s = is_some (around is_function_scope t (length t.scopes) s)

abbrev pub is_scope : Option ℕ → ℕ → Bool
is_scope None s = false
is_scope (Some r) s = r == s

-- A function's name stands for its result in its own body, formals included, but not in the result's type and dimensions (clause
-- 13.4.1).
abbrev pub in_own_body : Table → Use → Declaration → Bool
in_own_body t u d = nat_lt d.last u.at && is_scope (routine_around t u.scope) d.inner

-- A genvar has a value in the loops that run over it, behind its first value there.
abbrev pub encloses : Table → ℕ → ℕ → ℕ → Bool
encloses t zero s r = false
encloses t (suc more) s r = (s == r) || cond (s == 0) false (encloses t more (outer t.scopes s) r)

abbrev pub is_same_declaration : Declaration → Option Declaration → Bool
is_same_declaration d None = false
is_same_declaration d (Some e) = d.at == e.at

abbrev pub runs_over : List Token → Table → Use → Declaration → LoopRun → Bool
runs_over ts t u d l =
    encloses t (length t.scopes) u.scope l.scope && (nat_lt l.last u.at && ((d.at == l.name) || is_same_declaration d (declaration_at ts t l.name)))

abbrev pub has_value : List Token → Table → Use → Declaration → Bool
has_value ts t u d = list_any (runs_over ts t u d) t.loops

-- Which declarations fit a use.
abbrev pub is_member_path : SelectPath → Bool
is_member_path T.Member = true
is_member_path _ = false

abbrev pub is_type_path : SelectPath → Bool
is_type_path T.Alone = true
is_type_path T.Ranges = true
is_type_path _ = false

abbrev pub is_type : SelectPath → Declared → Bool
is_type path W.TypeParameter = is_type_path path
is_type path (W.TypeName packedness) = is_type_path path
is_type path _ = false

-- an interface's instance or port, of which members are read and written
abbrev pub is_interface_holder : List Token → Table → Declared → Bool
is_interface_holder ts t W.InterfacePort = true
is_interface_holder ts t (W.NamedPort of net) = names_interface ts t of
is_interface_holder ts t (W.Instance of) = names_interface ts t of
is_interface_holder ts t _ = false

abbrev pub is_member_of : List Token → Table → Use → Declaration → Bool
is_member_of ts t u d = is_interface_holder ts t d.how && is_member_path u.path

-- a port with a type
abbrev pub is_data_port : List Token → Table → Declared → Bool
is_data_port ts t (W.NamedPort of net) = not (names_interface ts t of)
is_data_port ts t _ = false

abbrev pub is_signal : List Token → Table → Declared → Bool
is_signal ts t W.Net = true
is_signal ts t W.Variable = true
is_signal ts t how = is_data_port ts t how

abbrev pub is_constant : Declared → Bool
is_constant W.Parameter = true
is_constant W.EnumName = true
is_constant _ = false

abbrev pub is_local : Declared → Bool
is_local W.Formal = true
is_local W.Local = true
is_local W.LoopVariable = true
is_local _ = false

abbrev pub is_genvar : Declared → Bool
is_genvar W.Genvar = true
is_genvar _ = false

abbrev pub is_function : Declared → Bool
is_function W.Function = true
is_function _ = false

abbrev pub is_variable : List Token → Table → Declared → Bool
is_variable ts t W.Variable = true
is_variable ts t (W.NamedPort of net) = not net && not (names_interface ts t of)
is_variable ts t _ = false

abbrev pub is_value : List Token → Table → Use → Declaration → Bool
is_value ts t u d =
    (is_constant d.how || is_local d.how)
    || ((is_signal ts t d.how || is_member_of ts t u d)
    || ((is_genvar d.how && has_value ts t u d) || (is_function d.how && in_own_body t u d)))

abbrev pub is_procedural_target : List Token → Table → Use → Declaration → Bool
is_procedural_target ts t u d =
    (is_local d.how || is_variable ts t d.how) || (is_member_of ts t u d || (is_function d.how && in_own_body t u d))

abbrev pub is_called : Table → Use → Declared → Bool
is_called t u W.VoidFunction = true
is_called t u W.Task = not (in_function t u.scope)
is_called t u _ = false

abbrev pub is_instantiated : DeclKind → Bool
is_instantiated K.Module = true
is_instantiated K.Interface = true
is_instantiated _ = false

abbrev pub fits_role : Role → List Token → Table → Use → Declaration → Bool
fits_role R.Value ts t u d = is_value ts t u d
fits_role R.Type ts t u d = is_type u.path d.how
fits_role R.ValueOrType ts t u d = is_value ts t u d || is_type u.path d.how
fits_role (R.Argument function) ts t u d = is_value ts t u d || (bytes_eq (word ts function) (codes "$bits") && is_type u.path d.how)
fits_role R.Connection ts t u d = is_value ts t u d || is_interface_holder ts t d.how
fits_role R.Call ts t u d = is_function d.how
fits_role R.CallStatement ts t u d = is_called t u d.how
fits_role R.ProceduralTarget ts t u d = is_procedural_target ts t u d
fits_role R.ContinuousTarget ts t u d = is_signal ts t d.how || is_member_of ts t u d
fits_role R.TypeOrInterface ts t u d = is_interface_kind d.what || is_type u.path d.how
fits_role R.Interface ts t u d = is_interface_kind d.what
fits_role R.Instantiated ts t u d = is_instantiated d.what
fits_role R.Edge ts t u d = is_signal ts t d.how || is_member_of ts t u d
fits_role R.LoopGenvar ts t u d = is_genvar d.how && not (has_value ts t u d)
fits_role R.Step ts t u d = true
fits_role R.ModportPort ts t u d = is_signal ts t d.how
fits_role R.Key ts t u d = true

-- a function or task names a signal, or a member of an interface, outside itself
abbrev pub names_signal : List Token → Table → Use → Declaration → Bool
names_signal ts t u d = is_some (routine_around t u.scope) && (is_signal ts t d.how || is_interface_holder ts t d.how)

-- the breaks of a use by what it finds
abbrev pub fit_breaks : List Token → Table → Use → Declaration → List Break
fit_breaks ts t u d = breaks_if (not (fits_role u.role ts t u d)) 404 u.at ++ breaks_if (names_signal ts t u d) 610 u.at

abbrev pub found_breaks : List Token → Table → Use → Found → List Break
found_breaks ts t u Absent = breaks_at 401 u.at
found_breaks ts t u Twice = breaks_at 403 u.at
found_breaks ts t u (Decl n) = elim (slice_get t.declared n) [
  | None ↦ []
  | Some d ↦ fit_breaks ts t u d
]

-- the breaks of a package's name, and of what stands behind it where there are none
abbrev pub package_breaks : List Token → Table → ℕ → List Break → List Break
package_breaks ts t holder behind = elim (own t 0 (word ts holder) holder) [
  | None ↦ breaks_at 401 holder
  | Some n ↦ cond (is_some (package_found t (Some n))) behind (breaks_at 404 holder)
]

abbrev pub use_breaks_in : List Token → Table → Use → Option ℕ → List Break
use_breaks_in ts t u None = found_breaks ts t u (finds ts t u)
use_breaks_in ts t u (Some holder) = package_breaks ts t holder (found_breaks ts t u (finds ts t u))

-- A pattern's key that is a name alone breaks nothing here: whether it is a member's name shows by the pattern's type.
abbrev pub is_key : Role → Bool
is_key R.Key = true
is_key _ = false

abbrev pub use_breaks : List Token → Table → Use → List Break
use_breaks ts t u = cond (is_key u.role) [] (use_breaks_in ts t u u.source)

abbrev pub import_breaks : List Token → Table → NamedImport → List Break
import_breaks ts t i =
    package_breaks ts t i.source_at (breaks_if (not (is_some (in_scope_of t (package_scope t i.source i.source_at) i.name i.at))) 401 i.at)

abbrev pub wildcard_breaks : List Token → Table → WildcardImport → List Break
wildcard_breaks ts t i = package_breaks ts t i.source_at []

-- E402: a name that a scope has already, by a declaration or an import of the name. The blocks of one conditional generate
-- may share a name, and an import may be repeated.
abbrev pub share_construct : Declared → Declared → Bool
share_construct (W.Alternative a) (W.Alternative b) = a == b
share_construct _ _ = false

abbrev pub clashes : Declaration → Declaration → Bool
clashes d e = is_named d.scope d.name e && (nat_lt e.at d.at && not (share_construct d.how e.how))

abbrev pub import_clashes : ℕ → List ℕ → ℕ → NamedImport → Bool
import_clashes s name at i = (i.scope == s) && (bytes_eq i.name name && nat_lt i.at at)

abbrev pub declaration_breaks : Table → Declaration → List Break
declaration_breaks t d = breaks_if (list_any (clashes d) t.declared || list_any (import_clashes d.scope d.name d.at) t.named) 402 d.at

abbrev pub other_import : NamedImport → NamedImport → Bool
other_import i j = import_clashes i.scope i.name i.at j && not (bytes_eq i.source j.source)

abbrev pub declared_before : NamedImport → Declaration → Bool
declared_before i d = is_named i.scope i.name d && nat_lt d.at i.at

abbrev pub repeated_import_breaks : Table → NamedImport → List Break
repeated_import_breaks t i = breaks_if (list_any (other_import i) t.named || list_any (declared_before i) t.declared) 402 i.at

-- Whether a declaration is that of an unpacked type, through at most so many names of types.
abbrev pub unpacked_by : (ℕ → Bool) → Packedness → Bool
unpacked_by of_name P.Packed = false
unpacked_by of_name P.Unpacked = true
unpacked_by of_name (P.AsNamed of) = of_name of

abbrev pub unpacked_how : (ℕ → Bool) → Declared → Bool
unpacked_how of_name (W.TypeName p) = unpacked_by of_name p
unpacked_how of_name _ = false

abbrev pub unpacked : List Token → Table → ℕ → Option Declaration → Bool
unpacked ts t zero d = false
unpacked ts t (suc more) None = false
unpacked ts t (suc more) (Some d) = unpacked_how (λ of. unpacked ts t more (declaration_at ts t of)) d.how

abbrev pub is_unpacked : List Token → Table → ℕ → Bool
is_unpacked ts t of = unpacked ts t (length t.declared) (declaration_at ts t of)

-- a port without direction
abbrev pub names_interface_if : List Token → Table → Option ℕ → Bool
names_interface_if ts t None = false
names_interface_if ts t (Some of) = names_interface ts t of

abbrev pub has_no_direction : List Token → Table → Before → Bool
has_no_direction ts t F.Nothing = true
has_no_direction ts t F.Data = false
has_no_direction ts t F.Interface = true
has_no_direction ts t (F.Named of) = names_interface ts t of

-- the breaks of an event that is neither a declaration nor an import nor a use
abbrev pub event_breaks : List Token → Table → Event → List Break
event_breaks ts t (E.Repeats of name) = breaks_if (not (bytes_eq (word ts of) (word ts name))) 404 name
event_breaks ts t (E.Packs of at) = breaks_if (is_unpacked ts t of) 404 at
event_breaks ts t (E.Undirected name of before) =
    breaks_if (not (names_interface_if ts t of) && has_no_direction ts t before) 404 name
event_breaks ts t (E.TypeArgument function at) = breaks_if (not (bytes_eq (word ts function) (codes "$bits"))) 404 at
event_breaks ts t (E.Wrong at) = breaks_at 404 at
event_breaks ts t _ = []

-- names that are kept for the translator
abbrev pub is_name : Kind → Bool
is_name Name = true
is_name _ = false

abbrev pub is_kept : Token → Bool
is_kept k = is_name k.kind && bytes_eq (take 5 k.text) (codes "sv2v_")

abbrev pub kept_breaks : ℕ → List Token → List Break
kept_breaks at [] = []
kept_breaks at (k ∷ ks) = breaks_if (is_kept k) 404 at ++ kept_breaks (suc at) ks

-- Calls, by the scopes of the functions and tasks that call and are called.
abbrev pub is_call_role : Role → Bool
is_call_role R.Call = true
is_call_role R.CallStatement = true
is_call_role _ = false

abbrev pub is_routine : DeclKind → Bool
is_routine K.Function = true
is_routine _ = false

abbrev pub call_to : Table → Use → Option Declaration → List Call
call_to t u None = []
call_to t u (Some d) = cond (is_call_role u.role && is_routine d.what) (record { from = routine_around t u.scope; to = d.inner; at = u.at } ∷ []) []

abbrev pub call_by : List Token → Table → Use → List Call
call_by ts t u = call_to t u (declared_by t (finds ts t u))

abbrev pub calls : List Token → Table → List Call
calls ts t = flat_map (call_by ts t) t.uses

-- A constant, type or enum name that a routine names and that is declared outside functions. A pattern's key that is a name alone is
-- such a use, whether it turns out to be a member's name or not.
abbrev pub is_constant_kind : DeclKind → Bool
is_constant_kind K.Constant = true
is_constant_kind K.TypeName = true
is_constant_kind K.EnumName = true
is_constant_kind _ = false

abbrev pub is_signal_kind : DeclKind → Bool
is_signal_kind K.Signal = true
is_signal_kind _ = false

abbrev pub is_needed : Table → Declaration → Bool
is_needed t d = is_constant_kind d.what && not (is_some (routine_around t d.scope))

abbrev pub need_in : Table → ℕ → Option Declaration → List Need
need_in t r None = []
need_in t r (Some d) = cond (is_needed t d) (record { routine = r; last = d.last } ∷ []) []

abbrev pub need_of : Table → Option ℕ → Option Declaration → List Need
need_of t None d = []
need_of t (Some r) d = need_in t r d

abbrev pub need_by : List Token → Table → Use → List Need
need_by ts t u = need_of t (routine_around t u.scope) (declared_by t (finds ts t u))

abbrev pub needs : List Token → Table → List Need
needs ts t = flat_map (need_by ts t) t.uses

-- E609: a call in a routine that leads back to it, or an early call
abbrev pub call_breaks : List Call → List Need → Call → List Break
call_breaks cs ns c = breaks_if (is_broken cs ns c) 609 c.at

abbrev pub calls_breaks : List Token → Table → List Break
calls_breaks ts t = flat_map (call_breaks (calls ts t) (needs ts t)) (calls ts t)

-- `.*` connects each port of a module or an interface that isn't named to the declaration of its name. The ports are
-- declared behind the module's own name, before the end of its header.
abbrev pub head_of : ℕ → List Head → ℕ
head_of s [] = 0
head_of s (h ∷ hs) = cond (nat_eq h.scope s) h.declared (head_of s hs)

abbrev pub in_header : Table → ℕ → ℕ → List Declaration
in_header t n s = drop (suc n) (take (head_of s t.heads) t.declared)

abbrev pub is_port : ℕ → Declaration → Bool
is_port s d = nat_eq d.scope s && is_signal_kind d.what

abbrev pub is_link_to : ℕ → List ℕ → Link → Bool
is_link_to n name l = nat_eq l.instance n && bytes_eq l.name name

abbrev pub is_left : Table → ℕ → ℕ → Declaration → Bool
is_left t n s d = is_port s d && not (list_any (is_link_to n d.name) t.links)

abbrev pub rest_use : ℕ → ℕ → Use
rest_use s at = record { scope = s; source = None; at = at; role = R.Connection; path = T.Alone }

abbrev pub port_breaks : List Token → Table → Rest → ℕ → ℕ → Declaration → List Break
port_breaks ts t r around s d = cond (is_left t r.instance s d) (found_breaks ts t (rest_use around r.at) (means t around d.name r.at)) []

abbrev pub ports_breaks : List Token → Table → Rest → ℕ → ℕ → Option Declaration → List Break
ports_breaks ts t r around n None = []
ports_breaks ts t r around n (Some m) = cond (is_instantiated m.what) (flat_map (port_breaks ts t r around m.inner) (in_header t n m.inner)) []

abbrev pub number_of : Found → Option ℕ
number_of (Decl n) = Some n
number_of Absent = None
number_of Twice = None

abbrev pub number_at : List Token → Table → Option Use → Option ℕ
number_at ts t None = None
number_at ts t (Some u) = number_of (finds ts t u)

abbrev pub found_ports : List Token → Table → Rest → ℕ → Option ℕ → List Break
found_ports ts t r around None = []
found_ports ts t r around (Some n) = ports_breaks ts t r around n (slice_get t.declared n)

abbrev pub instance_breaks : List Token → Table → Rest → ℕ → Declared → List Break
instance_breaks ts t r around (W.Instance of) = found_ports ts t r around (number_at ts t (use_at of t.uses))
instance_breaks ts t r around _ = []

abbrev pub rest_breaks_of : List Token → Table → Rest → Option Declaration → List Break
rest_breaks_of ts t r None = []
rest_breaks_of ts t r (Some i) = instance_breaks ts t r i.scope i.how

abbrev pub rest_breaks : List Token → Table → Rest → List Break
rest_breaks ts t r = rest_breaks_of ts t r (slice_get t.declared r.instance)

-- All breaks of a text, and the one that is answered.
abbrev pub further_breaks : List Token → Table → List Break
further_breaks ts t = calls_breaks ts t ++ flat_map (rest_breaks ts t) t.rests

unfoldable pub all_breaks : List Token → Table → List Event → List Break
all_breaks ts t es =
    flat_map (use_breaks ts t) t.uses
    ++ (flat_map (import_breaks ts t) t.named
    ++ (flat_map (wildcard_breaks ts t) t.wildcards
    ++ (flat_map (declaration_breaks t) t.declared
    ++ (flat_map (repeated_import_breaks t) t.named
    ++ (flat_map (event_breaks ts t) es
    ++ (kept_breaks 0 ts
    ++ further_breaks ts t))))))

unfoldable pub names_break : SourceTree → Option Break
names_break tree = least (all_breaks tree.tokens (table_of tree) (events_of tree))
