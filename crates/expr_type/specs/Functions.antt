-- Functions and tasks as they are typed (IEEE 1800-2017 clauses 13.3 to 13.5), where they are first needed.
use Rattle.std.specs.Prelude.{ℕ, zero, suc, Bool, true, false, ◌&&◌, ◌==◌, cond, codes, List, [], ◌∷◌, ◌++◌, length, map, filter, Option, Some, None, Ok}
use Rattle.std.specs.Str.{bytes_eq}
use Rattle.sv_tree.specs.declared.expressions.Dimension.{Dimension}
use Rattle.sv_tree.specs.declared.functions.Formal as G
use Rattle.sv_tree.specs.declared.functions.FormalDirection.{FormalDirection}
use Rattle.sv_tree.specs.declared.functions.FormalDirection.TheVariants as D
use Rattle.sv_tree.specs.declared.functions.FormalList.{FormalList}
use Rattle.sv_tree.specs.declared.functions.FunctionResult.{FunctionResult}
use Rattle.sv_tree.specs.declared.functions.FunctionResult.TheVariants as R
use Rattle.sv_tree.specs.declared.ports.PortText.{PortText}
use Rattle.sv_tree.specs.declared.ports.PortText.TheVariants as P
use Rattle.sv_tree.specs.declared.statements.BlockItem.{BlockItem}
use Rattle.sv_types.specs.declared.frame.ParamValue.{ParamValue}
use Rattle.sv_types.specs.declared.statement.Formal.{Formal}
use Rattle.sv_types.specs.declared.statement.Function.{Function}
use Rattle.sv_types.specs.declared.statement.FunctionKind.{FunctionKind}
use Rattle.sv_types.specs.declared.statement.FunctionKind.TheVariants as K
use Rattle.sv_types.specs.declared.statement.Stmt.{Stmt}
use Rattle.sv_types.specs.declared.statement.Way.{Way}
use Rattle.sv_types.specs.declared.statement.Way.TheVariants as W
use Rattle.sv_types.specs.declared.types.SvType.{SvType}
use Rattle.sv_types.specs.Layouts.{width_of}
use Rattle.sv_types.specs.Meanings.{total}
use Rattle.expr_type.specs.Breaks.{Quiet}
use Rattle.expr_type.specs.Typings.{Checked, Typing, whole, broken, rule, checked, both_by}
use Rattle.expr_type.specs.Shapes.{one_bit}
use Rattle.expr_type.specs.Names.{Called, Context, Home, LocalId, RoutineText, OfFunction, OfTask, spot, word, with_values, with_locals, local_id}
use Rattle.expr_type.specs.Operators.{not_too_long}
use Rattle.expr_type.specs.Types.{TypeFound, typed_text, declared_type, only}
use Rattle.expr_type.specs.Statements.{block, item_meaning}

-- Formals. One without a direction has that of the one before, the first is an input; a name alone has also the type of the one
-- before, if it has no direction of its own, and else is one `logic` bit.
abbrev pub way_by : Way → Option FormalDirection → Way
way_by before None = before
way_by before (Some (D.Input at)) = W.Input
way_by before (Some (D.Output at)) = W.Output
way_by before (Some (D.Inout at)) = W.Inout

-- the way and the type of the formal before, dimensions behind its name left out
pub record Before : Type 0 where
  pub way : Way
  pub of : Option TypeFound

abbrev pub at_first : Before
at_first = record { way = W.Input; of = Some (only one_bit) }

pub record FormalFound : Type 0 where
  pub before : Before
  pub id : LocalId
  pub formal : Formal
  pub names : List ParamValue

abbrev pub formal_found : Context → Way → TypeFound → ℕ → SvType → List ParamValue → Checked FormalFound
formal_found k way f at t names =
    let id = local_id k at t in
    not_too_long k.source at (width_of t) (Ok (record {
      before = record { way = way; of = Some f };
      id = id;
      formal = record { local = record { number = id.number; of = t; initial = None }; way = way; spot = spot k.source at };
      names = names;
    }))

abbrev pub type_if : Option TypeFound → Option SvType
type_if None = None
type_if (Some f) = Some f.of

abbrev pub names_if : Context → Option TypeFound → Context
names_if k None = k
names_if k (Some f) = with_values f.names k

abbrev pub typed_formal : Context → Way → Typing TypeFound → ℕ → List Dimension → Bool → Typing FormalFound
typed_formal k way x at ds declares =
    both_by x (λ o. declared_type (names_if k o) (type_if o) ds)
    (λ f t. rule (formal_found k way f at t (cond declares f.names [])))

abbrev pub type_before : Before → Option FormalDirection → Typing TypeFound
type_before b (Some d) = whole (only one_bit)
type_before b None = elim b.of [ None ↦ broken Quiet | Some f ↦ whole f ]

abbrev pub formal_text : Context → Before → Option FormalDirection → PortText → Typing FormalFound
formal_text k b d (P.Typed of name ds) = typed_formal k (way_by b.way d) (typed_text of k) name ds true
formal_text k b d (P.Bare name ds) = typed_formal k (way_by b.way d) (type_before b d) name ds false
formal_text k b d (P.Modport of dot modport name) = broken Quiet

abbrev pub before_if : Way → Option FormalDirection → Option FormalFound → Before
before_if way d None = record { way = way_by way d; of = None }
before_if way d (Some f) = f.before

abbrev pub behind_formal : Context → Option FormalFound → Context
behind_formal k None = k
behind_formal k (Some f) = with_locals (f.id ∷ []) (with_values f.names k)

abbrev pub formals : Context → Before → List G.Formal → Typing (List FormalFound)
formals k b [] = whole []
formals k b (f ∷ fs) =
    both_by (formal_text k b f.direction f.text)
    (λ o. formals (behind_formal k o) (before_if b.way f.direction o) fs)
    (λ x xs. whole (x ∷ xs))

abbrev pub formals_of : Option FormalList → List G.Formal
formals_of None = []
formals_of (Some l) = l.formals

abbrev pub behind_formals : Context → List FormalFound → Context
behind_formals k [] = k
behind_formals k (f ∷ fs) = behind_formals (behind_formal k (Some f)) fs

abbrev pub formals_if : Context → Option (List FormalFound) → Context
formals_if k None = k
formals_if k (Some fs) = behind_formals k fs

-- What a function gives: a value, whose name in the body is the local with the number 0; a routine gives none.
pub record ResultFound : Type 0 where
  pub kind : FunctionKind
  pub of : SvType
  pub names : List ParamValue

abbrev pub function_result : Context → ℕ → List Dimension → FunctionResult → Typing ResultFound
function_result k name ds (R.Void keyword) = whole (record { kind = K.Routine; of = one_bit; names = [] })
function_result k name ds (R.Value of) =
    both_by (typed_text of k) (λ o. declared_type (names_if k o) (type_if o) ds)
    (λ f t. rule (not_too_long k.source name (width_of t) (Ok (record { kind = K.Plain; of = t; names = f.names }))))

abbrev pub is_plain : FunctionKind → Bool
is_plain K.Plain = true
is_plain K.Routine = false
is_plain (K.Made spots) = false

abbrev pub result_type : ResultFound → Option SvType
result_type r = cond (is_plain r.kind) (Some r.of) None

-- the body sees the result and the formals, and no other locals
abbrev pub own_result : Context → ℕ → ResultFound → List LocalId
own_result k name r = cond (is_plain r.kind) (record { decl = k.declared name; number = 0; of = r.of } ∷ []) []

abbrev pub in_body : Context → ℕ → Option ResultFound → Context
in_body k name None = k
in_body k name (Some r) = record (with_locals (own_result k name r) (with_values r.names k)) { result = result_type r }

-- the outputs of a routine have at most 65,536 bits together (E701)
abbrev pub is_output : FormalFound → Bool
is_output f = elim f.formal.way [ W.Input ↦ false | W.Output ↦ true | W.Inout ↦ true ]

abbrev pub output_bits : List FormalFound → ℕ
output_bits fs = total (map (λ (f : FormalFound). width_of f.formal.local.of) (filter is_output fs))

pub record Head : Type 0 where
  pub result : ResultFound
  pub formals : List FormalFound

abbrev pub head_of : Context → ℕ → ResultFound → List FormalFound → Checked Head
head_of k name r fs = not_too_long k.source name (output_bits fs) (Ok (record { result = r; formals = fs }))

abbrev pub head : Context → ℕ → Typing ResultFound → List G.Formal → Typing Head
head k name x gs = both_by x (λ o. formals (in_body k name o) at_first gs) (λ r fs. rule (head_of k name r fs))

abbrev pub behind_head : Context → ℕ → Option Head → Context
behind_head k name None = k
behind_head k name (Some h) = behind_formals (in_body k name (Some h.result)) h.formals

abbrev pub function_path : Home → List ℕ → List ℕ
function_path h name = elim h.path [ [] ↦ name | c ∷ cs ↦ h.path ++ (codes "." ++ name) ]

abbrev pub function_of : Context → Home → ℕ → Head → Stmt → Function
function_of k h name x body = record {
  instance = h.instance;
  path = function_path h (word k.source name);
  spot = spot k.source name;
  kind = x.result.kind;
  of = x.result.of;
  formals = map (λ (f : FormalFound). f.formal) x.formals;
  body = body;
}

abbrev pub typed_routine : Context → Home → ℕ → Typing ResultFound → List G.Formal → List BlockItem → Typing Function
typed_routine k h name result gs items =
    both_by (head k name result gs) (λ o. block (behind_head k name o) (map item_meaning items))
    (λ x body. whole (function_of k h name x body))

-- a function's text stands outside the locals of who calls it
abbrev pub outside : Context → ℕ → Context
outside k n = record k { locals = []; result = None; base = n }

abbrev pub by_text : Context → ℕ → RoutineText → Typing Function
by_text k n (OfFunction f) =
    let j = outside k n in
    typed_routine j (k.home n) f.name (function_result j f.name f.unpacked f.of) (formals_of f.formals) f.items
by_text k n (OfTask t) =
    let j = outside k n in
    typed_routine j (k.home n) t.name (whole (record { kind = K.Routine; of = one_bit; names = [] })) (formals_of t.formals) t.items

-- a function is known by where it is declared: the instance, the token of its name, and its path
abbrev pub is_it : ℕ → ℕ → List ℕ → Function → Bool
is_it instance at path f = (f.instance == instance) && ((f.spot.at == at) && bytes_eq f.path path)

abbrev pub known_from : ℕ → ℕ → ℕ → List ℕ → List Function → Option Called
known_from n instance at path [] = None
known_from n instance at path (f ∷ fs) = cond (is_it instance at path f) (Some (record { place = n; of = f })) (known_from (suc n) instance at path fs)

abbrev pub name_of : RoutineText → ℕ
name_of (OfFunction f) = f.name
name_of (OfTask t) = t.name

-- behind those that it needs itself
abbrev pub appended : Function → Typing Called
appended f fs = record { result = Ok (record { place = length fs; of = f }); functions = fs ++ f ∷ [] }

abbrev pub known_or : Option Called → Typing Called → Typing Called
known_or (Some c) x = whole c
known_or None x = x

abbrev pub routine_text : Option RoutineText → Context → ℕ → Typing Called
routine_text None k n = broken Quiet
routine_text (Some t) k n =
    let h = k.home n in
    λ fs. known_or (known_from 0 h.instance (name_of t) (function_path h (word k.source (name_of t))) fs) (checked (by_text k n t) appended) fs

-- Functions whose calls go so deep. Calls make no circle, so they go no deeper than there are declarations.
unfoldable pub routine : ℕ → Context → ℕ → Typing Called
routine zero k n = broken Quiet
routine (suc depth) k n = routine_text (k.text n) (record k { routine = routine depth k }) n
