-- Where a text of a frame stands: what its names stand for, by the scopes of the source and by the frame (IEEE 1800-2017 clauses 23.9,
-- 25 and 27).
use Rattle.std.specs.Prelude.{ℕ, zero, suc, ◌-◌, Bool, true, false, ◌==◌, nat_lt, cond, List, [], ◌∷◌, length, reverse, filter, Option, Some, None, slice_get}
use Rattle.sv_tree.specs.declared.expressions.Expr.{Expr}
use Rattle.sv_tree.specs.declared.names.QualifiedName.{QualifiedName}
use Rattle.sv_tree.specs.declared.statements.Stmt.{Stmt}
use Rattle.sv_tree.specs.declared.units.SourceTree.{SourceTree}
use Rattle.sv_types.specs.declared.expression.Expr as T
use Rattle.sv_types.specs.declared.frame.Frame.{Frame}
use Rattle.sv_types.specs.declared.statement.Stmt as R
use Rattle.sv_types.specs.declared.types.SvType.{SvType}
use Rattle.name_events.specs.declared.events.Declared.{Declared}
use Rattle.name_events.specs.declared.events.Declared.TheVariants as W
use Rattle.name_events.specs.declared.events.ScopeKind.{ScopeKind}
use Rattle.name_events.specs.declared.events.ScopeKind.TheVariants as S
use Rattle.package_scope.specs.declared.table.DeclKind.{DeclKind}
use Rattle.package_scope.specs.declared.table.DeclKind.TheVariants as K
use Rattle.package_scope.specs.declared.table.Declaration.{Declaration}
use Rattle.package_scope.specs.declared.table.Table.{Table}
use Rattle.package_scope.specs.Innermost.{scope_at}
use Rattle.package_scope.specs.Lookup.{means, own, in_scope_of, package_scope}
use Rattle.package_scope.specs.Rules.{number_of, is_interface_holder, is_signal_kind, declaration_at}
use Rattle.package_scope.specs.Tables.{word, outer}
use Rattle.expr_type.specs.Breaks.{Quiet}
use Rattle.expr_type.specs.Typings.{Typed, broken, checked, whole}
use Rattle.expr_type.specs.Names.{Called, Context, Home}
use Rattle.expr_type.specs.Expressions.{typed_expr}
use Rattle.expr_type.specs.Statements.{typed_stmt}
use Rattle.expr_type.specs.Functions.{routine}
use Rattle.expr_type.specs.Routines.{routines, named_at}

module _ (tree : SourceTree) (t : Table) where
  -- the declaration that a name finds at its token
  abbrev pub finds : QualifiedName → Option ℕ
  finds q = elim q.scope [
    | None ↦ number_of (means t (scope_at t q.name) (word tree.tokens q.name) q.name)
    | Some p ↦ in_scope_of t (package_scope t (word tree.tokens p.package) p.package) (word tree.tokens q.name) q.name
  ]

  -- the number of the declaration whose name stands at a token
  abbrev pub number_from : ℕ → ℕ → List Declaration → ℕ
  number_from n at [] = n
  number_from n at (d ∷ ds) = cond (d.at == at) n (number_from (suc n) at ds)

  abbrev pub how : (Declared → Bool) → ℕ → Bool
  how p n = elim (slice_get t.declared n) [ None ↦ false | Some d ↦ p d.how ]

  -- what stands for something unless its declaration is broken
  abbrev pub names_thing : DeclKind → Bool
  names_thing K.Package = false
  names_thing K.Module = false
  names_thing K.Interface = false
  names_thing K.Constant = true
  names_thing K.TypeName = true
  names_thing K.EnumName = true
  names_thing K.Signal = true
  names_thing K.Genvar = false
  names_thing K.Function = false
  names_thing K.Instance = false
  names_thing K.Block = false
  names_thing K.Modport = false
  names_thing K.Formal = true
  names_thing K.Local = true

  abbrev pub is_kind : (DeclKind → Bool) → ℕ → Bool
  is_kind p n = elim (slice_get t.declared n) [ None ↦ false | Some d ↦ p d.what ]

  -- What a name breaks as a pattern's key where it stands for nothing: nothing where its declaration is broken, else that it is no
  -- constant's (E404).
  abbrev pub key_rule : ℕ → Option ℕ
  key_rule n = cond (is_kind names_thing n) None (Some 404)

  -- Functions and tasks name nothing of a module or an interface (E610): no signal and no member stands for anything in their texts. A
  -- key that finds one breaks what it breaks elsewhere: a signal is read (E406), an interface's port no constant (E404).
  abbrev pub hidden_rule : ℕ → Option ℕ
  hidden_rule n = cond (how (is_interface_holder tree.tokens t) n) (Some 404) (cond (is_kind is_signal_kind n) (Some 406) (key_rule n))

  abbrev pub without_signals : Context → Context
  without_signals k = record k { signals = []; is_interface = λ n. false; key_rule = hidden_rule }

  abbrev pub is_net_kind : Declared → Bool
  is_net_kind W.Net = true
  is_net_kind (W.NamedPort of net) = net
  is_net_kind _ = false

  -- The interface of an instance or a port, by its scope. A port with a modport in the header is `bus.side port` there (clause 25.5), so
  -- the name of its interface stands three tokens before its own.
  abbrev pub scope_of : Option Declaration → Option ℕ
  scope_of None = None
  scope_of (Some d) = Some d.inner

  abbrev pub interface_of : ℕ → Declared → Option ℕ
  interface_of at W.InterfacePort = scope_of (declaration_at tree.tokens t (at - 3))
  interface_of at (W.NamedPort of net) = scope_of (declaration_at tree.tokens t of)
  interface_of at (W.Instance of) = scope_of (declaration_at tree.tokens t of)
  interface_of at _ = None

  abbrev pub is_net_in : Option ℕ → List ℕ → Bool
  is_net_in None name = false
  is_net_in (Some s) name = elim (own t s name (length tree.tokens)) [ None ↦ false | Some m ↦ how is_net_kind m ]

  abbrev pub net_member : ℕ → List ℕ → Bool
  net_member n name = elim (slice_get t.declared n) [ None ↦ false | Some d ↦ is_net_in (interface_of d.at d.how) name ]

  -- The block in whose text something is declared. Each generate scope has one more word in its path, behind a full stop.
  abbrev pub is_generate : ScopeKind → Bool
  is_generate S.GenerateLoop = true
  is_generate S.GenerateBlock = true
  is_generate _ = false

  abbrev pub is_generate_scope : ℕ → Bool
  is_generate_scope s = elim (slice_get t.scopes s) [ None ↦ false | Some x ↦ is_generate x.kind ]

  abbrev pub before_stop : List ℕ → List ℕ
  before_stop [] = []
  before_stop (c ∷ cs) = cond (c == 46) cs (before_stop cs)

  abbrev pub shorter : List ℕ → List ℕ
  shorter path = reverse (before_stop (reverse path))

  -- outwards from a scope to another one, through so many generate scopes; what isn't in them is of instance 0
  abbrev pub home_from : ℕ → Home → ℕ → ℕ → Home
  home_from zero h s to = record { instance = 0; path = [] }
  home_from (suc more) h s to =
      cond (s == to) h
      (cond (is_generate_scope s) (home_from more (record h { path = shorter h.path }) (outer t.scopes s) to) (record { instance = 0; path = [] }))

  abbrev pub home_in : Frame → ℕ → Home
  home_in f n = elim (slice_get t.declared n) [
    | None ↦ record { instance = 0; path = [] }
    | Some d ↦ home_from (length t.scopes) (record { instance = f.instance; path = f.path }) f.scope d.scope
  ]

  -- a text of a frame, which begins at a token
  abbrev pub declared_before : ℕ → ℕ
  declared_before at = length (filter (λ (d : Declaration). nat_lt d.at at) t.declared)

  abbrev pub without_routines : Frame → ℕ → Context
  without_routines f at = record {
    source = record { tokens = tree.tokens; instance = f.instance };
    values = f.values;
    types = f.types;
    signals = f.signals;
    locals = [];
    finds = finds;
    declared = λ token. number_from 0 token t.declared;
    is_interface = how (is_interface_holder tree.tokens t);
    key_rule = key_rule;
    is_net = how is_net_kind;
    is_net_member = net_member;
    result = None;
    base = declared_before at - 1;
    text = λ n. elim (slice_get t.declared n) [ None ↦ None | Some d ↦ named_at d.at (routines tree) ];
    home = home_in f;
    routine = λ n. broken Quiet;
  }

  abbrev pub context : Frame → ℕ → Context
  context f at = let k = without_routines f at in record k { routine = routine (length t.declared) (without_signals k) }

  -- The three calls: what is typed, and the functions of the frame behind it.
  abbrev pub type_expr : Frame → ℕ → Expr → Option SvType → Typed T.Expr
  type_expr f at e want = typed_expr (context f at) e want f.functions

  abbrev pub type_stmt : Frame → ℕ → Stmt → Typed R.Stmt
  type_stmt f at s = typed_stmt (context f at) s f.functions

  abbrev pub type_function : Frame → ℕ → Typed ℕ
  type_function f n = checked ((context f 0).routine n) (λ (c : Called). whole c.place) f.functions
