-- What stands behind declarations of a block has types without unpacked bases, if what stands before them has.
use Rattle.std.proofs.Common.{◌≡◌, ℕ, Bool, true, false, cond, List, [], ◌∷◌, ◌++◌, map, Option, Some, None, subst}
use Rattle.std.specs.Prelude.{Ok}
use Rattle.std.specs.Option.{option_map}
use Rattle.sv_tree.specs.declared.declarations.Declarator.{Declarator}
use Rattle.sv_tree.specs.declared.declarations.Initializer.{Initializer}
use Rattle.sv_tree.specs.declared.declarations.ParameterBody.{ParameterBody}
use Rattle.sv_tree.specs.declared.declarations.ParameterBody.TheVariants as P
use Rattle.sv_tree.specs.declared.expressions.Select.{Select}
use Rattle.sv_tree.specs.declared.types.TypeText.{TypeText}
use Rattle.sv_types.specs.declared.expression.Expr.{Expr}
use Rattle.sv_types.specs.declared.frame.ParamType.{ParamType}
use Rattle.sv_types.specs.declared.types.SvType.{SvType}
use Rattle.sv_types.specs.Layouts.{width_of}
use Rattle.expr_type.specs.Breaks.{At, Quiet}
use Rattle.expr_type.specs.Typings.{Checked, Typing, whole, broken, rule, by_functions, checked}
use Rattle.expr_type.specs.Names.{Context, LocalId, position}
use Rattle.expr_type.specs.Operators.{not_too_long}
use Rattle.expr_type.specs.Expressions as E
use Rattle.expr_type.specs.Expressions.{meaning, operand, select_meaning}
use Rattle.expr_type.specs.Targets.{simple_name}
use Rattle.expr_type.specs.Types.{TypeFound, dims, declared_type}
use Rattle.expr_type.specs.Statements.{Declared, nothing, behind, behind_if, and_then, in_turn, local_of, local_type, with_type, variable, type_names, names_if, variables_of, selected_type, constant, is_unwritten, written_type, with_dimensions, Kind, IsType, IsValue, Parameter, type_parameter, by_dimensions, value_parameter, parameter, kind_if, declared_if, parameters, written_value, WrittenType, OfValue}
use Rattle.typing_fits.proofs.Selects.{long-then}
use Rattle.path_laws.specs.Names.{AllLocalsPlain, AllTypesPlain, PlainText}
use Rattle.path_laws.proofs.Typings.{Gives, IfKnown, Anything, anything, whole-gives, broken-gives, rule-gives, checked-gives, by-gives}
use Rattle.path_laws.proofs.Types.{Plain, PlainFound, a_type, as-type, declared-plain}
use Rattle.path_laws.proofs.Exprs.{TypingIf, name-type, expr-typed}

-- what is declared
pub record PlainDeclared (d : Declared) : Type 0 where
  pub types : AllTypesPlain d.types
  pub ids : AllLocalsPlain d.ids

more-locals : (ls ms : List LocalId) → AllLocalsPlain ls → AllLocalsPlain ms → AllLocalsPlain (ls ++ ms)
more-locals [] ms p q = q
more-locals (l ∷ ls) ms p q = (p.0, more-locals ls ms p.1 q)

more-types : (ts us : List ParamType) → AllTypesPlain ts → AllTypesPlain us → AllTypesPlain (ts ++ us)
more-types [] us p q = q
more-types (t ∷ ts) us p q = (p.0, more-types ts us p.1 q)

pub behind-plain : (k : Context) (d : Declared) → PlainText k → PlainDeclared d → PlainText (behind k d)
behind-plain k d p q = record {
  names = record { signals = p.names.signals; locals = more-locals d.ids k.locals q.ids p.names.locals };
  types = more-types d.types k.types q.types p.types;
}

pub behind-known : (k : Context) (o : Option Declared) → PlainText k → IfKnown PlainDeclared o → PlainText (behind_if k o)
behind-known k None p q = p
behind-known k (Some d) p q = behind-plain k d p q

both-declared : (d e : Declared) → PlainDeclared d → PlainDeclared e → PlainDeclared (and_then d e)
both-declared d e p q = record { types = more-types e.types d.types q.types p.types; ids = more-locals e.ids d.ids q.ids p.ids }

none-declared : PlainDeclared nothing
none-declared = record { types = tt; ids = tt }

abbrev OfDeclared : (Context → Typing Declared) → Type 0
OfDeclared f = (k : Context) → PlainText k → Gives PlainDeclared (f k)

abbrev AllDeclared : List (Context → Typing Declared) → Type 0
AllDeclared [] = Unit {0}
AllDeclared (f ∷ fs) = OfDeclared f × AllDeclared fs

turn-gives : (k : Context) (fs : List (Context → Typing Declared)) → PlainText k → AllDeclared fs → Gives PlainDeclared (in_turn k fs)
turn-gives k [] p h = whole-gives PlainDeclared nothing none-declared
turn-gives k (f ∷ fs) p h =
    by-gives PlainDeclared PlainDeclared PlainDeclared (f k) (λ o. in_turn (behind_if k o) fs) (λ a b. whole (and_then a b)) (h.0 k p) (λ o q. turn-gives (behind_if k o) fs (behind-known k o p q) h.1)
    (λ a b q r. whole-gives PlainDeclared (and_then a b) (both-declared a b q r))

-- variables
abbrev TypeThere : Option SvType → Type 0
TypeThere None = Unit {0}
TypeThere (Some t) = Plain t

declared-there : (k : Context) (o : Option SvType) (d : Declarator) → TypeThere o → Gives Plain (declared_type k o d.unpacked)
declared-there k None d p = checked-gives Anything Plain (dims k d.unpacked) (λ e. broken Quiet) (anything (dims k d.unpacked)) (λ e q. broken-gives Plain Quiet)
declared-there k (Some t) d p = declared-plain k t d.unpacked p

local-gives : (k : Context) (at : ℕ) (x : Typing SvType) → Gives Plain x → Gives Plain (local_type k at x)
local-gives k at x p =
    checked-gives Plain Plain x (λ u. rule (not_too_long k.source at (width_of u) (a_type u))) p
    (λ u q. rule-gives Plain (not_too_long k.source at (width_of u) (a_type u)) (λ v h. as-type Plain u v (long-then k.source at (width_of u) (a_type u) v h) q))

local-declared : (k : Context) (at : ℕ) (t : SvType) (e : Option Expr) → Plain t → PlainDeclared (local_of k at t e)
local-declared k at t e p = record { types = tt; ids = (p, tt) }

variable-gives : (o : Option SvType) (d : Declarator) → TypeThere o → OfDeclared (variable o d)
variable-gives o d t k p =
    by-gives Plain Anything PlainDeclared (local_type k d.name (declared_type k o d.unpacked)) (λ u. with_type k u d.initial) (λ u e. whole (local_of k d.name u e)) (local-gives k d.name (declared_type k o d.unpacked) (declared-there k o d t))
    (λ u q. anything (with_type k u d.initial)) (λ u e q r. whole-gives PlainDeclared (local_of k d.name u e) (local-declared k d.name u e q))

each-variable : (o : Option SvType) (ds : List Declarator) → TypeThere o → AllDeclared (map (variable o) ds)
each-variable o [] t = tt
each-variable o (d ∷ ds) t = (variable-gives o d t, each-variable o ds t)

abbrev type_in_found : TypeFound → SvType
type_in_found f = f.of

type-there : (o : Option TypeFound) → IfKnown PlainFound o → TypeThere (option_map (λ (f : TypeFound). f.of) o)
type-there None p = tt
type-there (Some f) p = p

names-plain : (k : Context) (o : Option TypeFound) → PlainText k → PlainText (names_if k o)
names-plain k None p = p
names-plain k (Some f) p = record { names = record { signals = p.names.signals; locals = p.names.locals }; types = p.types }

pub variables-give : (k : Context) (x : Typing TypeFound) (ds : List Declarator) → PlainText k → Gives PlainFound x → Gives PlainDeclared (variables_of k x ds)
variables-give k x ds p h =
    by-gives PlainFound PlainDeclared PlainDeclared x (λ o. in_turn (names_if k o) (map (variable (option_map (λ (f : TypeFound). f.of) o)) ds)) (λ f d. whole (and_then (type_names f) d)) h
    (λ o q. turn-gives (names_if k o) (map (variable (option_map (λ (f : TypeFound). f.of) o)) ds) (names-plain k o p) (each-variable (option_map (λ (f : TypeFound). f.of) o) ds (type-there o q)))
    (λ f d q r. whole-gives PlainDeclared (and_then (type_names f) d) (both-declared (type_names f) d (record { types = tt; ids = tt }) r))

abbrev found_by : Option (Typing SvType) → Typing TypeFound
found_by o = elim o as (λ x. Typing TypeFound) [ None ↦ broken Quiet | Some t ↦ checked t (λ u. whole (record { of = u; names = [] })) ]

found-gives : (o : Option (Typing SvType)) → TypingIf o → Gives PlainFound (found_by o)
found-gives None p = broken-gives PlainFound Quiet
found-gives (Some x) p = checked-gives Plain PlainFound x (λ u. whole (record { of = u; names = [] })) p (λ u q. whole-gives PlainFound (record { of = u; names = [] }) q)

pub selected-gives : (k : Context) (of : ℕ) (ss : List Select) → PlainText k → Gives PlainFound (selected_type k of ss)
selected-gives k of ss p = found-gives (E.type_of_name k (simple_name of) (map select_meaning ss)) (name-type k (simple_name of) (map select_meaning ss) p.types)

-- parameters
abbrev PlainParameter : Parameter → Type 0
PlainParameter q = PlainDeclared q.declared

abbrev a_declared : Declared → Checked Declared
a_declared d = Ok d

as-declared : (d e : Declared) → a_declared d ≡ Ok e → PlainDeclared d → PlainDeclared e
as-declared d e h p = let is : d ≡ e = cc in subst PlainDeclared is p

type-by : (k : Context) (at : ℕ) (o : Option (Typing SvType)) → TypingIf o
    → Gives PlainParameter (elim o as (λ x. Typing Parameter) [ None ↦ broken Quiet | Some t ↦ checked t (λ u. whole (record { kind = IsType; declared = record nothing { types = record { decl = k.declared at; of = u } ∷ [] } })) ])
type-by k at None p = broken-gives PlainParameter Quiet
type-by k at (Some x) p =
    checked-gives Plain PlainParameter x (λ u. whole (record { kind = IsType; declared = record nothing { types = record { decl = k.declared at; of = u } ∷ [] } })) p
    (λ u q. whole-gives PlainParameter (record { kind = IsType; declared = record nothing { types = record { decl = k.declared at; of = u } ∷ [] } }) (record { types = (q, tt); ids = tt }))

type-parameter : (k : Context) (at : ℕ) (i : Option Initializer) → PlainText k → Gives PlainParameter (type_parameter k at i)
type-parameter k at None p = broken-gives PlainParameter (At (position k.source at) 405)
type-parameter k at (Some i) p = type-by k at ((meaning i.value).as_type k) ((expr-typed i.value).type k p.types)

-- a constant declares no type and no local
constant-gives : (k : Context) (at : ℕ) (t : WrittenType) (i : Option Initializer) → Gives PlainDeclared (constant k at t i)
constant-gives k at t None = broken-gives PlainDeclared (At (position k.source at) 405)
constant-gives k at t (Some i) =
    checked-gives Anything PlainDeclared (operand k i.value) (λ o. checked (by_functions (written_value k at t o)) (λ v. rule (not_too_long k.source at (width_of v.of) (a_declared (record nothing { values = v ∷ [] })))))
    (anything (operand k i.value))
    (λ o q.
    checked-gives Anything PlainDeclared (by_functions (written_value k at t o)) (λ v. rule (not_too_long k.source at (width_of v.of) (a_declared (record nothing { values = v ∷ [] })))) (anything (by_functions (written_value k at t o)))
    (λ v r.
    rule-gives PlainDeclared (not_too_long k.source at (width_of v.of) (a_declared (record nothing { values = v ∷ [] })))
    (λ e h. as-declared (record nothing { values = v ∷ [] }) e (long-then k.source at (width_of v.of) (a_declared (record nothing { values = v ∷ [] })) e h) (record { types = tt; ids = tt }))))

-- what follows a type: a constant, or what is looked at by itself
abbrev no_type_value : Context → Option Initializer → Typing Declared
no_type_value k None = broken Quiet
no_type_value k (Some i) = checked (operand k i.value) (λ o. broken Quiet)

no-type-gives : (k : Context) (i : Option Initializer) → Gives PlainDeclared (no_type_value k i)
no-type-gives k None = broken-gives PlainDeclared Quiet
no-type-gives k (Some i) = checked-gives Anything PlainDeclared (operand k i.value) (λ o. broken Quiet) (anything (operand k i.value)) (λ o q. broken-gives PlainDeclared Quiet)

abbrev value_by : Context → Declarator → Option WrittenType → Typing Declared
value_by k d None = no_type_value k d.initial
value_by k d (Some u) = constant k d.name u d.initial

value-gives : (k : Context) (d : Declarator) (o : Option WrittenType) → Gives PlainDeclared (value_by k d o)
value-gives k d None = no-type-gives k d.initial
value-gives k d (Some u) = constant-gives k d.name u d.initial

dimensions-give : (k : Context) (d : Declarator) (t : WrittenType) → Gives PlainDeclared (by_dimensions k d t)
dimensions-give k d t =
    by-gives Anything PlainDeclared PlainDeclared (with_dimensions k t d.unpacked) (λ o. value_by k d o) (λ u v. whole v) (anything (with_dimensions k t d.unpacked)) (λ o q. value-gives k d o)
    (λ u v q r. whole-gives PlainDeclared v r)

abbrev written_by : Context → Declarator → Option WrittenType → Typing Declared
written_by k d None = broken Quiet
written_by k d (Some t) = by_dimensions k d t

written-gives : (k : Context) (d : Declarator) (o : Option WrittenType) → Gives PlainDeclared (written_by k d o)
written-gives k d None = broken-gives PlainDeclared Quiet
written-gives k d (Some t) = dimensions-give k d t

value-parameter : (k : Context) (before : WrittenType) (of : TypeText) (d : Declarator) → Gives PlainParameter (value_parameter k before of d)
value-parameter k before of d =
    by-gives Anything PlainDeclared PlainParameter (written_type k before of) (λ o. written_by k d o) (λ t v. whole (record { kind = IsValue t; declared = v })) (anything (written_type k before of)) (λ o q. written-gives k d o)
    (λ t v q r. whole-gives PlainParameter (record { kind = IsValue t; declared = v }) r)

either-parameter : (k : Context) (b : Bool) (of : TypeText) (d : Declarator) → PlainText k → Gives PlainParameter (cond b (type_parameter k d.name d.initial) (value_parameter k (OfValue None) of d))
either-parameter k true of d p = type-parameter k d.name d.initial p
either-parameter k false of d p = value-parameter k (OfValue None) of d

parameter-gives : (k : Context) (before : Kind) (b : ParameterBody) → PlainText k → Gives PlainParameter (parameter k before b)
parameter-gives k before (P.Type keyword name initial) p = type-parameter k name initial p
parameter-gives k IsType (P.Value of d) p = either-parameter k (is_unwritten of) of d p
parameter-gives k (IsValue t) (P.Value of d) p = value-parameter k t of d

behind-parameter : (k : Context) (o : Option Parameter) → PlainText k → IfKnown PlainParameter o → PlainText (declared_if k o)
behind-parameter k None p q = p
behind-parameter k (Some r) p q = behind-plain k r.declared p q

pub parameters-give : (k : Context) (before : Kind) (bs : List ParameterBody) → PlainText k → Gives PlainDeclared (parameters k before bs)
parameters-give k before [] p = whole-gives PlainDeclared nothing none-declared
parameters-give k before (b ∷ bs) p =
    by-gives PlainParameter PlainDeclared PlainDeclared (parameter k before b) (λ o. parameters (declared_if k o) (kind_if o) bs) (λ q d. whole (and_then q.declared d)) (parameter-gives k before b p)
    (λ o q. parameters-give (declared_if k o) (kind_if o) bs (behind-parameter k o p q)) (λ q d r s. whole-gives PlainDeclared (and_then q.declared d) (both-declared q.declared d r s))
