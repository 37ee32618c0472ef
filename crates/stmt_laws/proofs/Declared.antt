-- What the declarations of a block declare is sound, and so is the text behind them.
use Rattle.std.proofs.Common.{◌≡◌, ℕ, ◌-◌, max, Bool, true, false, cond, not, List, [], ◌∷◌, ◌++◌, length, map, Option, Some, None, refl, subst}
use Rattle.std.specs.Prelude.{Ok}
use Rattle.std.specs.Option.{option_map}
use Rattle.sv_tree.specs.declared.declarations.Declarator.{Declarator}
use Rattle.sv_tree.specs.declared.declarations.Initializer.{Initializer}
use Rattle.sv_tree.specs.declared.declarations.ParameterBody.{ParameterBody}
use Rattle.sv_tree.specs.declared.declarations.ParameterBody.TheVariants as P
use Rattle.sv_tree.specs.declared.expressions.Dimension.{Dimension}
use Rattle.sv_tree.specs.declared.expressions.Select.{Select}
use Rattle.sv_tree.specs.declared.types.TypeText.{TypeText}
use Rattle.sv_types.specs.declared.expression.Expr.{Expr}
use Rattle.sv_types.specs.declared.frame.ParamValue.{ParamValue}
use Rattle.sv_types.specs.declared.frame.ParamType.{ParamType}
use Rattle.sv_types.specs.declared.statement.Function.{Function}
use Rattle.sv_types.specs.declared.statement.Local.{Local}
use Rattle.sv_types.specs.declared.types.SvType.{SvType}
use Rattle.sv_types.specs.Layouts.{width_of}
use Rattle.sv_types.specs.Values.{bits}
use Rattle.expr_type.specs.declared.operand.Valued.{Valued}
use Rattle.sv_tree.specs.declared.names.Signing.{Signing}
use Rattle.expr_type.specs.Breaks.{At, Quiet}
use Rattle.expr_type.specs.Typings.{Checked, Typing, whole, broken, rule, by_functions, checked, where_whole, lesser}
use Rattle.expr_type.specs.Shapes.{is_assignable, is_plain_to_enum, vector}
use Rattle.expr_type.specs.Names.{Context, LocalId, Source, position, with_values, with_types}
use Rattle.expr_type.specs.Operands as X
use Rattle.expr_type.specs.Operands.{Operand, Plain, is_given, is_plain, sized, width, given, is_constant_value, is_constant, constant_alone, constant_of, value_by}
use Rattle.expr_type.specs.Uses.{names_any}
use Rattle.expr_type.specs.Operators.{not_too_long}
use Rattle.expr_type.specs.KeywordTypes.{unpacked}
use Rattle.expr_type.specs.Expressions as E
use Rattle.expr_type.specs.Expressions.{meaning, operand, select_meaning}
use Rattle.expr_type.specs.Targets.{simple_name}
use Rattle.expr_type.specs.Forms.{is_signed_by}
use Rattle.expr_type.specs.Types.{TypeFound, dims, typed_text, declared_type}
use Rattle.expr_type.specs.Statements.{Declared, nothing, behind, behind_if, and_then, in_turn, initial_value, local_of, local_type, with_type, variable, type_names, names_if, variables_of, selected_type, param_value, constant_value, constant, is_unwritten, written_type, with_dimensions, Kind, IsType, IsValue, Parameter, type_parameter, by_dimensions, value_parameter, parameter, kind_if, declared_if, parameters, ranged_value, written_value, sign_alone, sign_or_type, type_or_bit, WrittenType, OfValue, OfType}
use Rattle.typing_fits.specs.Types.{is_full}
use Rattle.typing_fits.specs.Sound.{Extends, IsNarrowType, Sound, SoundFor}
use Rattle.typing_fits.specs.Operands.{SoundOperand, AllTypesFull, AllLocalsNarrow}
use Rattle.typing_fits.proofs.Contexts.{refused-then, whole-part, lesser-both}
use Rattle.typing_fits.proofs.Full.{and-left, and-right, full-bits}
use Rattle.typing_fits.proofs.Vectors.{narrow-vector}
use Rattle.typing_fits.proofs.Given.{for-later, given-sound, constant-value-sound, constant-is}
use Rattle.typing_fits.proofs.Names.{values-behind, types-behind, locals-behind}
use Rattle.typing_fits.proofs.Selects.{long-no, long-then}
use Rattle.typing_walks.specs.Keeps.{Kept, Keeps, Lasts, Anything, FullType, Surrounded}
use Rattle.typing_walks.specs.Written.{is_written}
use Rattle.typing_walks.specs.WrittenTypes.{dims_written, initial_written, type_written}
use Rattle.typing_walks.proofs.Keeping as K
use Rattle.typing_walks.proofs.Knowing as N
use Rattle.typing_walks.proofs.Knowing.{IfKnown}
use Rattle.typing_walks.proofs.Types as Y
use Rattle.typing_walks.proofs.Types.{SoundFound, full-unpacked, full-implicit, more-values}
use Rattle.typing_walks.proofs.TypeForms.{type-sound}
use Rattle.typing_walks.proofs.Uses as Z
use Rattle.typing_walks.proofs.Walk.{expr-sound}
use Rattle.stmt_walks.proofs.Targets.{all-selects}
use Rattle.routine_fits.specs.Sound.{SoundStart, AllSoundLocals}
use Rattle.stmt_laws.specs.Written.{declarator_written, declarators_written, body_written, bodies_written, selects_written}
use Rattle.stmt_laws.specs.Sound.{SoundType, SoundDeclared, PerhapsFull, WrittenFull, KindFull, SoundParameter}
use Rattle.stmt_laws.proofs.Values.{NoStream, no-stream, value-has}

-- what is declared
more-types : (ts us : List ParamType) → AllTypesFull ts → AllTypesFull us → AllTypesFull (ts ++ us)
more-types [] us s r = r
more-types (t ∷ ts) us s r = (s.0, more-types ts us s.1 r)

more-ids : (ls ms : List LocalId) → AllLocalsNarrow ls → AllLocalsNarrow ms → AllLocalsNarrow (ls ++ ms)
more-ids [] ms s r = r
more-ids (l ∷ ls) ms s r = (s.0, more-ids ls ms s.1 r)

more-locals : (ls ms : List Local) (gs : List Function) → AllSoundLocals ls gs → AllSoundLocals ms gs → AllSoundLocals (ls ++ ms) gs
more-locals [] ms gs s r = r
more-locals (l ∷ ls) ms gs s r = (s.0, more-locals ls ms gs s.1 r)

none-declared : (gs : List Function) → SoundDeclared nothing gs
none-declared gs = record { values = tt; types = tt; ids = tt; locals = tt }

both-declared : (d e : Declared) (gs : List Function) → SoundDeclared d gs → SoundDeclared e gs → SoundDeclared (and_then d e) gs
both-declared d e gs s r = record {
  values = more-values e.values d.values r.values s.values;
  types = more-types e.types d.types r.types s.types;
  ids = more-ids e.ids d.ids r.ids s.ids;
  locals = more-locals d.locals e.locals gs s.locals r.locals;
}

-- where more functions are known
start-later : (o : Option Expr) (l : Local) (gs hs : List Function) → Extends gs hs → SoundStart o l gs → SoundStart o l hs
start-later None l gs hs e s = tt
start-later (Some x) l gs hs e s = for-later x l.of gs hs e s

locals-later : (ls : List Local) (gs hs : List Function) → Extends gs hs → AllSoundLocals ls gs → AllSoundLocals ls hs
locals-later [] gs hs e s = tt
locals-later (l ∷ ls) gs hs e s = (record { of = s.0.of; start = start-later l.initial l gs hs e s.0.start }, locals-later ls gs hs e s.1)

pub declared-lasts : Lasts SoundDeclared
declared-lasts d gs hs e s = record { values = s.values; types = s.types; ids = s.ids; locals = locals-later d.locals gs hs e s.locals }

pub type-lasts : Lasts SoundType
type-lasts f gs hs e s = record { full = s.full; names = s.names }

parameter-lasts : Lasts SoundParameter
parameter-lasts p gs hs e s = record { kind = s.kind; declared = declared-lasts p.declared gs hs e s.declared }

-- a narrow type
abbrev pub NarrowType : SvType → List Function → Type 0
NarrowType t gs = IsNarrowType t

pub narrow-lasts : Lasts NarrowType
narrow-lasts t gs hs e s = s

abbrev type_ok : SvType → Checked SvType
type_ok t = Ok t

short-type : (k : Source) (at : ℕ) (t u : SvType) → not_too_long k at (width_of t) (type_ok t) ≡ Ok u → is_full t ≡ true → IsNarrowType u
short-type k at t u h full =
    let same : type_ok t ≡ Ok u = long-then k at (width_of t) (type_ok t) u h in
    let is : t ≡ u = cc in
    subst IsNarrowType is (record { full = full; narrow = long-no k at (width_of t) (type_ok t) u h })

-- what is given to a type without a break is the value itself
abbrev expr_ok : Expr → Checked Expr
expr_ok e = Ok e

given-itself : (k : Source) (t : SvType) (v : Valued) (e : Expr) → is_given k t v ≡ Ok e → v.expr ≡ e
given-itself k t v e h =
    let inner = where_whole (lesser (is_plain k t v) (sized k (max (width_of t) (width v)) v v)) (λ p. Ok p.0) in
    let p = whole-part (lesser (is_plain k t v) (sized k (max (width_of t) (width v)) v v)) (λ p. Ok p.0) e (refused-then (not (is_assignable t v.expr.of)) (position k v.first) 501 inner e h) in
    let b = lesser-both (is_plain k t v) (sized k (max (width_of t) (width v)) v v) p.part p.is in
    let one : expr_ok v.expr ≡ Ok p.part.0 = refused-then (is_plain_to_enum t v.expr.of) (position k v.first) 503 (Ok v.expr) p.part.0 b.left in
    let two : expr_ok p.part.0 ≡ Ok e = p.made in
    cc

-- no stream is a constant
constant-plain : (k : Source) (t : SvType) (o : Operand) (e : Expr) (gs : List Function) → constant_of k t o gs ≡ Ok e → NoStream e
constant-plain k t (X.Plain v) e gs h =
    subst NoStream (given-itself k t v e (constant-is k v.first gs v.expr (is_given k t v) e h)) (no-stream k v.first gs v.expr (is_given k t v) e h)
constant-plain k t (X.Pattern tick of) e gs h =
    let p = whole-part (of tick t) (λ x. is_constant k tick gs x (Ok x)) e h in
    let one : expr_ok p.part ≡ Ok e = constant-is k tick gs p.part (Ok p.part) e p.made in
    let is : p.part ≡ e = cc in
    subst NoStream is (no-stream k tick gs p.part (Ok p.part) e p.made)
constant-plain k t (X.Stream v) e gs h = absurd (let r = refused-then (names_any v.expr) (position k v.first) 406 _ e h in cc)

alone-plain : (k : Source) (v : Valued) (e : Expr) (gs : List Function) → constant_alone k v gs ≡ Ok e → NoStream e
alone-plain k v e gs h =
    let one : expr_ok v.expr ≡ Ok e = constant-is k v.first gs v.expr (Ok v.expr) e h in
    let is : v.expr ≡ e = cc in
    subst NoStream is (no-stream k v.first gs v.expr (Ok v.expr) e h)

-- a value that has the bits of a full type
record LongValue (v : ParamValue) (gs : List Function) : Type 0 where
  pub full : is_full v.of ≡ true
  pub long : length (bits v.value) ≡ width_of v.of

abbrev value_ok : ParamValue → Checked ParamValue
value_ok v = Ok v

as-value : (a v : ParamValue) (gs : List Function) → value_ok a ≡ Ok v → LongValue a gs → LongValue v gs
as-value a v gs h s = let is : a ≡ v = cc in subst (λ x. LongValue x gs) is s

value-long : (k : Context) (at : ℕ) (t : SvType) (e : Expr) (v : ParamValue) (gs : List Function) → param_value k at t gs e ≡ Ok v → is_full t ≡ true → NoStream e → LongValue v gs
value-long k at t e v gs h full free = as-value (record { decl = k.declared at; of = t; value = value_by gs t e }) v gs h (record { full = full; long = value-has gs t e free })

constant-long : (k : Context) (at : ℕ) (t : Option SvType) (o : Operand) (v : ParamValue) (gs : List Function) → constant_value k at t o gs ≡ Ok v → PerhapsFull t → SoundOperand o gs → LongValue v gs
constant-long k at None o v gs h full s =
    let a = whole-part (is_constant_value k.source o) (λ u. where_whole (constant_alone k.source u gs) (param_value k at u.expr.of gs)) v h in
    let b = whole-part (constant_alone k.source a.part gs) (param_value k at a.part.expr.of gs) v a.made in
    value-long k at a.part.expr.of b.part v gs b.made (constant-value-sound k.source o a.part gs a.is s).of.full (alone-plain k.source a.part b.part gs b.is)
constant-long k at (Some t) o v gs h full s =
    let a = whole-part (constant_of k.source t o gs) (param_value k at t gs) v h in
    value-long k at t a.part v gs a.made full (constant-plain k.source t o a.part gs a.is)

ranged-long : (k : Context) (at : ℕ) (g : Signing) (o : Operand) (v : ParamValue) (gs : List Function) → ranged_value k at g o gs ≡ Ok v → SoundOperand o gs → LongValue v gs
ranged-long k at g o v gs h s =
    let a = whole-part (is_constant_value k.source o) (λ u. constant_value k at (Some (vector (width u) (is_signed_by g))) (Plain u) gs) v h in
    let sound : Sound a.part gs = constant-value-sound k.source o a.part gs a.is s in
    let full = (narrow-vector (width a.part) (is_signed_by g) (full-bits a.part.expr.of sound.of.full) sound.of.narrow).full in
    constant-long k at (Some (vector (width a.part) (is_signed_by g))) (Plain a.part) v gs a.made full sound

written-long : (k : Context) (at : ℕ) (t : WrittenType) (o : Operand) (v : ParamValue) (gs : List Function) → written_value k at t o gs ≡ Ok v → WrittenFull t → SoundOperand o gs → LongValue v gs
written-long k at (OfValue None) o v gs h full s = constant-long k at None o v gs h tt s
written-long k at (OfValue (Some g)) o v gs h full s = ranged-long k at g o v gs h s
written-long k at (OfType t) o v gs h full s = constant-long k at (Some t) o v gs h full s

abbrev declared_ok : Declared → Checked Declared
declared_ok d = Ok d

as-declared : (d e : Declared) (gs : List Function) → declared_ok d ≡ Ok e → SoundDeclared d gs → SoundDeclared e gs
as-declared d e gs h s = let is : d ≡ e = cc in subst (λ x. SoundDeclared x gs) is s

one-value : (k : Source) (at : ℕ) (v : ParamValue) (d : Declared) (gs : List Function) → not_too_long k at (width_of v.of) (declared_ok (record nothing { values = v ∷ [] })) ≡ Ok d → LongValue v gs → SoundDeclared d gs
one-value k at v d gs h s =
    let made = declared_ok (record nothing { values = v ∷ [] }) in
    let of : IsNarrowType v.of = record { full = s.full; narrow = long-no k at (width_of v.of) made d h } in
    as-declared (record nothing { values = v ∷ [] }) d gs (long-then k at (width_of v.of) made d h) (record { values = (record { of = of; long = s.long }, tt); types = tt; ids = tt; locals = tt })

-- a local of a narrow type
abbrev StartFor : SvType → Option Expr → List Function → Type 0
StartFor t None gs = Unit {0}
StartFor t (Some e) gs = SoundFor e t gs

start-of : (o : Option Expr) (l : Local) (gs : List Function) → StartFor l.of o gs → SoundStart o l gs
start-of None l gs s = tt
start-of (Some e) l gs s = s

local-declared : (k : Context) (at : ℕ) (t : SvType) (e : Option Expr) (gs : List Function) → IsNarrowType t → StartFor t e gs → SoundDeclared (local_of k at t e) gs
local-declared k at t e gs of s =
    let l : Local = record { number = k.declared at - k.base; of = t; initial = e } in
    record { values = tt; types = tt; ids = (of, tt); locals = (record { of = of; start = start-of e l gs s }, tt) }

module _ (Q : List Function → Type 0) where
  -- the text behind a type or declarations
  pub behind-sound : (k : Context) (d : Declared) (gs : List Function) → Surrounded Q k → SoundDeclared d gs → Surrounded Q (behind k d)
  behind-sound k d gs r s = record {
    context = locals-behind d.ids (with_types d.types (with_values d.values k)) s.ids (types-behind d.types (with_values d.values k) s.types (values-behind d.values k s.values r.context));
    routines = r.routines;
  }

  pub behind-known : (k : Context) (o : Option Declared) (gs : List Function) → Surrounded Q k → IfKnown SoundDeclared o gs → Surrounded Q (behind_if k o)
  behind-known k None gs r s = r
  behind-known k (Some d) gs r s = behind-sound k d gs r s

  pub names-sound : (k : Context) (f : TypeFound) (gs : List Function) → Surrounded Q k → SoundType f gs → Surrounded Q (with_values f.names k)
  names-sound k f gs r s = Y.names-known Q k f.names r s.names

  pub names-known : (k : Context) (o : Option TypeFound) (gs : List Function) → Surrounded Q k → IfKnown SoundType o gs → Surrounded Q (names_if k o)
  names-known k None gs r s = r
  names-known k (Some f) gs r s = names-sound k f gs r s

  -- types
  as-type : (x : Typing TypeFound) → Keeps Q SoundFound x → Keeps Q SoundType x
  as-type x h gs q = let c = h gs q in record { extends = c.extends; kept = c.kept; sound = λ f e. let s = c.sound f e in record { full = s.full; names = s.names } }

  pub text-keeps : (k : Context) (of : TypeText) → Surrounded Q k → type_written of ≡ true → Keeps Q SoundType (typed_text of k)
  text-keeps k of r w = as-type (typed_text of k) (type-sound Q of w k r)

  pub declared-keeps : (k : Context) (t : SvType) (ds : List Dimension) → Surrounded Q k → dims_written ds ≡ true → is_full t ≡ true → Keeps Q FullType (declared_type k (Some t) ds)
  declared-keeps k t ds r w full =
      K.checked-keeps Q Anything FullType (dims k ds) (λ d. whole (unpacked d t)) (Y.dims-keep Q k ds r w) (λ d js q a. K.whole-kept Q FullType (unpacked d t) js q (full-unpacked d t full))

  pub perhaps-declared : (k : Context) (o : Option SvType) (ds : List Dimension) → Surrounded Q k → dims_written ds ≡ true → PerhapsFull o → Keeps Q FullType (declared_type k o ds)
  perhaps-declared k None ds r w full = K.checked-keeps Q Anything FullType (dims k ds) (λ d. broken Quiet) (Y.dims-keep Q k ds r w) (λ d js q a. K.broken-keeps Q FullType Quiet js q)
  perhaps-declared k (Some t) ds r w full = declared-keeps k t ds r w full

  abbrev found_by : Option (Typing SvType) → Typing TypeFound
  found_by o = elim o as (λ x. Typing TypeFound) [ None ↦ broken Quiet | Some t ↦ checked t (λ u. whole (record { of = u; names = [] })) ]

  found-keeps : (o : Option (Typing SvType)) → ((x : Typing SvType) → o ≡ Some x → Keeps Q FullType x) → Keeps Q SoundType (found_by o)
  found-keeps None h = K.broken-keeps Q SoundType Quiet
  found-keeps (Some x) h =
      K.checked-keeps Q FullType SoundType x (λ u. whole (record { of = u; names = [] })) (h x refl) (λ u js q full. K.whole-kept Q SoundType (record { of = u; names = [] }) js q (record { full = full; names = tt }))

  pub selected-keeps : (k : Context) (of : ℕ) (ss : List Select) → Surrounded Q k → selects_written ss ≡ true → Keeps Q SoundType (selected_type k of ss)
  selected-keeps k of ss r w =
      found-keeps (E.type_of_name k (simple_name of) (map select_meaning ss)) ((Z.name-form Q (simple_name of) (map select_meaning ss) (all-selects Q ss w)).as_type k r)

  -- variables
  pub operand-keeps : (k : Context) (i : Initializer) → Surrounded Q k → is_written i.value ≡ true → Keeps Q SoundOperand (operand k i.value)
  operand-keeps k i r w = (expr-sound Q i.value w).typed k r

  given-start : (k : Context) (t : SvType) (o : Operand) (s : Option Expr) (gs : List Function) → where_whole (given k.source t o) (λ e. Ok (Some e)) ≡ Ok s → is_full t ≡ true → SoundOperand o gs → StartFor t s gs
  given-start k t o s gs h full x =
      let a = whole-part (given k.source t o) (λ e. start_ok (Some e)) s h in
      let made : start_ok (Some a.part) ≡ Ok s = a.made in
      let is : Some a.part ≡ s = cc in
      subst (λ y. StartFor t y gs) is (given-sound k.source t o a.part gs a.is full x)
    where
      start_ok : Option Expr → Checked (Option Expr)
      start_ok y = Ok y

  initial-keeps : (k : Context) (t : SvType) (i : Option Initializer) → Surrounded Q k → initial_written i ≡ true → is_full t ≡ true → Keeps Q (StartFor t) (initial_value k t i)
  initial-keeps k t None r w full = K.whole-keeps Q (StartFor t) None (λ gs. tt)
  initial-keeps k t (Some i) r w full =
      K.checked-keeps Q SoundOperand (StartFor t) (operand k i.value) (λ o. rule (where_whole (given k.source t o) (λ e. Ok (Some e)))) (operand-keeps k i r w)
      (λ o js q s. K.rule-kept Q (StartFor t) (where_whole (given k.source t o) (λ e. Ok (Some e))) js q (λ x h. given-start k t o x js h full s))

  start-keeps : (k : Context) (o : Option SvType) (i : Option Initializer) (gs : List Function) → Surrounded Q k → initial_written i ≡ true → Q gs → IfKnown NarrowType o gs
      → Kept (Option Expr) Q (N.KnownWith Q StartFor o) gs (with_type k o i gs)
  start-keeps k None None gs r w q s = K.broken-keeps Q (N.KnownWith Q StartFor None) Quiet gs q
  start-keeps k None (Some i) gs r w q s =
      K.checked-keeps Q SoundOperand (N.KnownWith Q StartFor None) (operand k i.value) (λ o. broken Quiet) (operand-keeps k i r w) (λ o js p x. K.broken-keeps Q (N.KnownWith Q StartFor None) Quiet js p) gs q
  start-keeps k (Some t) i gs r w q s = initial-keeps k t i r w s.full gs q

  local-keeps : (k : Context) (at : ℕ) (x : Typing SvType) → Keeps Q FullType x → Keeps Q NarrowType (local_type k at x)
  local-keeps k at x h =
      K.checked-keeps Q FullType NarrowType x (λ u. rule (not_too_long k.source at (width_of u) (type_ok u))) h
      (λ u js q full. K.rule-kept Q NarrowType (not_too_long k.source at (width_of u) (type_ok u)) js q (λ t e. short-type k.source at u t e full))

  abbrev pub Declares : (Context → Typing Declared) → Type 0
  Declares m = (k : Context) → Surrounded Q k → Keeps Q SoundDeclared (m k)

  abbrev AllDeclare : List (Context → Typing Declared) → Type 0
  AllDeclare [] = Unit {0}
  AllDeclare (m ∷ ms) = Declares m × AllDeclare ms

  pub variable-keeps : (o : Option SvType) (d : Declarator) → declarator_written d ≡ true → PerhapsFull o → Declares (variable o d)
  variable-keeps o d w full k r =
      let dw = and-left (dims_written d.unpacked) (initial_written d.initial) w in
      let iw = and-right (dims_written d.unpacked) (initial_written d.initial) w in
      N.with-keeps Q NarrowType StartFor SoundDeclared (local_type k d.name (declared_type k o d.unpacked)) (λ t. with_type k t d.initial) (λ t e. whole (local_of k d.name t e)) narrow-lasts
      (local-keeps k d.name (declared_type k o d.unpacked) (perhaps-declared k o d.unpacked r dw full)) (λ t gs q s. start-keeps k t d.initial gs r iw q s)
      (λ t e js q of s. K.whole-kept Q SoundDeclared (local_of k d.name t e) js q (local-declared k d.name t e js of s))

  turn-keeps : (k : Context) (ms : List (Context → Typing Declared)) → Surrounded Q k → AllDeclare ms → Keeps Q SoundDeclared (in_turn k ms)
  turn-keeps k [] r h = K.whole-keeps Q SoundDeclared nothing (λ gs. none-declared gs)
  turn-keeps k (m ∷ ms) r h =
      N.by-keeps Q SoundDeclared SoundDeclared SoundDeclared (m k) (λ o. in_turn (behind_if k o) ms) (λ a b. whole (and_then a b)) declared-lasts (h.0 k r)
      (λ o gs q s. turn-keeps (behind_if k o) ms (behind-known k o gs r s) h.1 gs q) (λ a b js q s t. K.whole-kept Q SoundDeclared (and_then a b) js q (both-declared a b js s t))

  each-variable : (o : Option SvType) (ds : List Declarator) → declarators_written ds ≡ true → PerhapsFull o → AllDeclare (map (variable o) ds)
  each-variable o [] w full = tt
  each-variable o (d ∷ ds) w full =
      (variable-keeps o d (and-left (declarator_written d) (declarators_written ds) w) full, each-variable o ds (and-right (declarator_written d) (declarators_written ds) w) full)

  type-known : (o : Option TypeFound) (gs : List Function) → IfKnown SoundType o gs → PerhapsFull (option_map (λ (f : TypeFound). f.of) o)
  type-known None gs s = tt
  type-known (Some f) gs s = s.full

  pub variables-keep : (k : Context) (x : Typing TypeFound) (ds : List Declarator) → Surrounded Q k → declarators_written ds ≡ true → Keeps Q SoundType x → Keeps Q SoundDeclared (variables_of k x ds)
  variables-keep k x ds r w h =
      N.by-keeps Q SoundType SoundDeclared SoundDeclared x (λ o. in_turn (names_if k o) (map (variable (option_map (λ (f : TypeFound). f.of) o)) ds)) (λ f d. whole (and_then (type_names f) d)) type-lasts h
      (λ o gs q s.
      turn-keeps (names_if k o) (map (variable (option_map (λ (f : TypeFound). f.of) o)) ds) (names-known k o gs r s) (each-variable (option_map (λ (f : TypeFound). f.of) o) ds w (type-known o gs s)) gs q)
      (λ f d js q s t. K.whole-kept Q SoundDeclared (and_then (type_names f) d) js q (both-declared (type_names f) d js (record { values = s.names; types = tt; ids = tt; locals = tt }) t))

  -- parameters
  type-by : (k : Context) (at : ℕ) (o : Option (Typing SvType)) → ((x : Typing SvType) → o ≡ Some x → Keeps Q FullType x)
      → Keeps Q SoundParameter (elim o as (λ x. Typing Parameter) [ None ↦ broken Quiet | Some t ↦ checked t (λ u. whole (record { kind = IsType; declared = record nothing { types = record { decl = k.declared at; of = u } ∷ [] } })) ])
  type-by k at None h = K.broken-keeps Q SoundParameter Quiet
  type-by k at (Some x) h =
      K.checked-keeps Q FullType SoundParameter x (λ u. whole (record { kind = IsType; declared = record nothing { types = record { decl = k.declared at; of = u } ∷ [] } })) (h x refl)
      (λ u js q full.
      K.whole-kept Q SoundParameter (record { kind = IsType; declared = record nothing { types = record { decl = k.declared at; of = u } ∷ [] } }) js q
      (record { kind = tt; declared = record { values = tt; types = (full, tt); ids = tt; locals = tt } }))

  pub type-parameter : (k : Context) (at : ℕ) (i : Option Initializer) → Surrounded Q k → initial_written i ≡ true → Keeps Q SoundParameter (type_parameter k at i)
  type-parameter k at None r w = K.broken-keeps Q SoundParameter (At (position k.source at) 405)
  type-parameter k at (Some i) r w = type-by k at ((meaning i.value).as_type k) ((expr-sound Q i.value w).as_type k r)

  pub constant-keeps : (k : Context) (at : ℕ) (t : WrittenType) (i : Option Initializer) → Surrounded Q k → initial_written i ≡ true → WrittenFull t → Keeps Q SoundDeclared (constant k at t i)
  constant-keeps k at t None r w full = K.broken-keeps Q SoundDeclared (At (position k.source at) 405)
  constant-keeps k at t (Some i) r w full =
      K.checked-keeps Q SoundOperand SoundDeclared (operand k i.value)
      (λ o. checked (by_functions (written_value k at t o)) (λ v. rule (not_too_long k.source at (width_of v.of) (declared_ok (record nothing { values = v ∷ [] }))))) (operand-keeps k i r w)
      (λ o js q s.
      K.checked-kept Q LongValue SoundDeclared (by_functions (written_value k at t o)) (λ v. rule (not_too_long k.source at (width_of v.of) (declared_ok (record nothing { values = v ∷ [] })))) js
      (K.rule-kept Q LongValue (written_value k at t o js) js q (λ v h. written-long k at t o v js h full s))
      (λ v hs p l. K.rule-kept Q SoundDeclared (not_too_long k.source at (width_of v.of) (declared_ok (record nothing { values = v ∷ [] }))) hs p (λ d h. one-value k.source at v d hs h l)))

  -- the type that is written
  abbrev Perhaps : WrittenType → List Function → Type 0
  Perhaps t gs = WrittenFull t

  perhaps-lasts : Lasts Perhaps
  perhaps-lasts t gs hs e s = s

  sign-or-type : (k : Context) (of : TypeText) (o : Option Signing) → Surrounded Q k → type_written of ≡ true → Keeps Q Perhaps (sign_or_type k of o)
  sign-or-type k of (Some g) r w = K.whole-keeps Q Perhaps (OfValue (Some g)) (λ gs. tt)
  sign-or-type k of None r w =
      K.checked-keeps Q SoundType Perhaps (typed_text of k) (λ f. whole (OfType f.of)) (text-keeps k of r w) (λ f js q s. K.whole-kept Q Perhaps (OfType f.of) js q s.full)

  written-by : (k : Context) (before : WrittenType) (of : TypeText) (b : Bool) → Surrounded Q k → type_written of ≡ true → WrittenFull before
      → Keeps Q Perhaps (cond b (whole before) (sign_or_type k of (sign_alone of)))
  written-by k before of true r w full = K.whole-keeps Q Perhaps before (λ gs. full)
  written-by k before of false r w full = sign-or-type k of (sign_alone of) r w

  pub written-keeps : (k : Context) (before : WrittenType) (of : TypeText) → Surrounded Q k → type_written of ≡ true → WrittenFull before → Keeps Q Perhaps (written_type k before of)
  written-keeps k before of r w full = written-by k before of (is_unwritten of) r w full

  full-or-bit : (t : WrittenType) → WrittenFull t → is_full (type_or_bit t) ≡ true
  full-or-bit (OfValue s) full = full-implicit s []
  full-or-bit (OfType t) full = full

  pub dimensions-keep : (k : Context) (t : WrittenType) (ds : List Dimension) → Surrounded Q k → dims_written ds ≡ true → WrittenFull t → Keeps Q Perhaps (with_dimensions k t ds)
  dimensions-keep k t [] r w full = K.whole-keeps Q Perhaps t (λ gs. full)
  dimensions-keep k t (d ∷ ds) r w full =
      K.checked-keeps Q Anything Perhaps (dims k (d ∷ ds)) (λ e. whole (OfType (unpacked e (type_or_bit t)))) (Y.dims-keep Q k (d ∷ ds) r w)
      (λ e js q a. K.whole-kept Q Perhaps (OfType (unpacked e (type_or_bit t))) js q (full-unpacked e (type_or_bit t) (full-or-bit t full)))

  -- what follows a type: a constant, or what is looked at by itself
  abbrev no_type_value : Context → Option Initializer → Typing Declared
  no_type_value k None = broken Quiet
  no_type_value k (Some i) = checked (operand k i.value) (λ o. broken Quiet)

  no-type-keeps : (k : Context) (i : Option Initializer) → Surrounded Q k → initial_written i ≡ true → Keeps Q SoundDeclared (no_type_value k i)
  no-type-keeps k None r w = K.broken-keeps Q SoundDeclared Quiet
  no-type-keeps k (Some i) r w = K.checked-keeps Q SoundOperand SoundDeclared (operand k i.value) (λ o. broken Quiet) (operand-keeps k i r w) (λ o js q s. K.broken-keeps Q SoundDeclared Quiet js q)

  abbrev value_by_type : Context → Declarator → Option WrittenType → Typing Declared
  value_by_type k d None = no_type_value k d.initial
  value_by_type k d (Some u) = constant k d.name u d.initial

  value-keeps : (k : Context) (d : Declarator) (o : Option WrittenType) (gs : List Function) → Surrounded Q k → initial_written d.initial ≡ true → Q gs → IfKnown Perhaps o gs
      → Kept Declared Q SoundDeclared gs (value_by_type k d o gs)
  value-keeps k d None gs r w q s = no-type-keeps k d.initial r w gs q
  value-keeps k d (Some u) gs r w q s = constant-keeps k d.name u d.initial r w s gs q

  pub by-dimensions : (k : Context) (d : Declarator) (t : WrittenType) → Surrounded Q k → declarator_written d ≡ true → WrittenFull t → Keeps Q SoundDeclared (by_dimensions k d t)
  by-dimensions k d t r w full =
      let dw = and-left (dims_written d.unpacked) (initial_written d.initial) w in
      let iw = and-right (dims_written d.unpacked) (initial_written d.initial) w in
      N.by-keeps Q Perhaps SoundDeclared SoundDeclared (with_dimensions k t d.unpacked) (λ o. value_by_type k d o) (λ u v. whole v) perhaps-lasts (dimensions-keep k t d.unpacked r dw full)
      (λ o gs q s. value-keeps k d o gs r iw q s) (λ u v js q s x. K.whole-kept Q SoundDeclared v js q x)

  abbrev by_written : Context → Declarator → Option WrittenType → Typing Declared
  by_written k d None = broken Quiet
  by_written k d (Some t) = by_dimensions k d t

  by-written : (k : Context) (d : Declarator) (o : Option WrittenType) (gs : List Function) → Surrounded Q k → declarator_written d ≡ true → Q gs → IfKnown Perhaps o gs → Kept Declared Q SoundDeclared gs (by_written k d o gs)
  by-written k d None gs r w q s = K.broken-keeps Q SoundDeclared Quiet gs q
  by-written k d (Some t) gs r w q s = by-dimensions k d t r w s gs q

  pub value-parameter : (k : Context) (before : WrittenType) (of : TypeText) (d : Declarator) → Surrounded Q k → type_written of ≡ true → declarator_written d ≡ true → WrittenFull before
      → Keeps Q SoundParameter (value_parameter k before of d)
  value-parameter k before of d r w v full =
      N.by-keeps Q Perhaps SoundDeclared SoundParameter (written_type k before of) (λ o. by_written k d o) (λ t e. whole (record { kind = IsValue t; declared = e })) perhaps-lasts (written-keeps k before of r w full)
      (λ o gs q s. by-written k d o gs r v q s) (λ t e js q s x. K.whole-kept Q SoundParameter (record { kind = IsValue t; declared = e }) js q (record { kind = s; declared = x }))

  either-parameter : (k : Context) (b : Bool) (of : TypeText) (d : Declarator) → Surrounded Q k → type_written of ≡ true → declarator_written d ≡ true
      → Keeps Q SoundParameter (cond b (type_parameter k d.name d.initial) (value_parameter k (OfValue None) of d))
  either-parameter k true of d r w v = type-parameter k d.name d.initial r (and-right (dims_written d.unpacked) (initial_written d.initial) v)
  either-parameter k false of d r w v = value-parameter k (OfValue None) of d r w v tt

  pub parameter-keeps : (k : Context) (before : Kind) (b : ParameterBody) → Surrounded Q k → body_written b ≡ true → KindFull before → Keeps Q SoundParameter (parameter k before b)
  parameter-keeps k before (P.Type keyword name initial) r w full = type-parameter k name initial r w
  parameter-keeps k IsType (P.Value of d) r w full = either-parameter k (is_unwritten of) of d r (and-left (type_written of) (declarator_written d) w) (and-right (type_written of) (declarator_written d) w)
  parameter-keeps k (IsValue t) (P.Value of d) r w full = value-parameter k t of d r (and-left (type_written of) (declarator_written d) w) (and-right (type_written of) (declarator_written d) w) full

  pub behind-parameter : (k : Context) (o : Option Parameter) (gs : List Function) → Surrounded Q k → IfKnown SoundParameter o gs → Surrounded Q (declared_if k o)
  behind-parameter k None gs r s = r
  behind-parameter k (Some p) gs r s = behind-sound k p.declared gs r s.declared

  pub kind-known : (o : Option Parameter) (gs : List Function) → IfKnown SoundParameter o gs → KindFull (kind_if o)
  kind-known None gs s = tt
  kind-known (Some p) gs s = s.kind

  pub parameters-keep : (k : Context) (before : Kind) (bs : List ParameterBody) → Surrounded Q k → bodies_written bs ≡ true → KindFull before → Keeps Q SoundDeclared (parameters k before bs)
  parameters-keep k before [] r w full = K.whole-keeps Q SoundDeclared nothing (λ gs. none-declared gs)
  parameters-keep k before (b ∷ bs) r w full =
      N.by-keeps Q SoundParameter SoundDeclared SoundDeclared (parameter k before b) (λ o. parameters (declared_if k o) (kind_if o) bs) (λ p d. whole (and_then p.declared d)) parameter-lasts
      (parameter-keeps k before b r (and-left (body_written b) (bodies_written bs) w) full)
      (λ o gs q s. parameters-keep (declared_if k o) (kind_if o) bs (behind-parameter k o gs r s) (and-right (body_written b) (bodies_written bs) w) (kind-known o gs s) gs q)
      (λ p d js q s t. K.whole-kept Q SoundDeclared (and_then p.declared d) js q (both-declared p.declared d js s.declared t))
