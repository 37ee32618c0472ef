-- Variables, constants and types, from what their parts are.
use Rattle.std.proofs.Common.{◌≡◌, ℕ, Bool, true, false, cond, List, [], ◌∷◌, map, Option, Some, None, refl, sym, ap, ◌∙◌, subst}
use Rattle.std.specs.Prelude.{Result, Ok, Err, nat_lt, ◌==◌, length}
use Rattle.std.specs.Option.{option_map}
use Rattle.sv_tree.specs.declared.declarations.Declarator.{Declarator}
use Rattle.sv_tree.specs.declared.declarations.Initializer.{Initializer}
use Rattle.sv_tree.specs.declared.expressions.Dimension.{Dimension}
use Rattle.sv_tree.specs.declared.expressions.Select.{Select}
use Rattle.sv_tree.specs.declared.types.TypeText.{TypeText}
use Rattle.sv_tree.specs.declared.names.Signing.{Signing}
use Rattle.sv_types.specs.declared.expression.Expr.{Expr}
use Rattle.sv_types.specs.declared.frame.ParamType.{ParamType}
use Rattle.sv_types.specs.declared.frame.ParamValue.{ParamValue}
use Rattle.sv_types.specs.declared.statement.Function.{Function}
use Rattle.sv_types.specs.declared.types.SvType.{SvType}
use Rattle.sv_types.specs.Layouts.{width_of}
use Rattle.expr_type.specs.declared.halt.Halt.{Halt}
use Rattle.expr_type.specs.declared.halt.Halt.TheVariants as H
use Rattle.expr_type.specs.Answers.{Gives, reason}
use Rattle.expr_type.specs.Breaks.{Position, Quiet}
use Rattle.expr_type.specs.Expressions as E
use Rattle.expr_type.specs.Expressions.{given_if, meaning, operand, typed_expr}
use Rattle.expr_type.specs.Forms.{type_of_thing}
use Rattle.expr_type.specs.Names.{Context, Source, position, thing}
use Rattle.expr_type.specs.Operands.{Operand, given}
use Rattle.expr_type.specs.Statements as S
use Rattle.expr_type.specs.Statements.{Declared, IsType, IsValue, Parameter, by_dimensions, constant, initial_value, is_unwritten, local_of, local_type, selected_type, type_parameter, value_parameter, variable, with_dimensions, with_type, written_type, OfType, OfValue, WrittenType, sign_alone, sign_or_type, type_or_bit, written_value}
use Rattle.expr_type.specs.Targets.{simple_name}
use Rattle.expr_type.specs.KeywordTypes.{Dim, unpacked}
use Rattle.expr_type.specs.Types.{TypeFound, declared_type, dims, only, typed_text}
use Rattle.expr_type.specs.Typings.{Checked, Typed, Typing, applied, broken, by_functions, checked, maybe, refused, rule, where_whole, whole}
use Rattle.pattern_laws.proofs.Reasons.{where-fine}
use Rattle.pattern_types.specs.Meaning.{operand_of}
use Rattle.pattern_types.specs.declared.operand.Operand as O
use Rattle.typing_steps.specs.Steps.{IsQuiet, StopsBy, TypesTo}
use Rattle.typing_steps.proofs.Combining.{checked-fine, checked-is, checked-stops, rule-types}
use Rattle.typing_calls.specs.Lists.{as_meant}
use Rattle.typing_parts.specs.Operands.{as_operand}
use Rattle.typing_scopes.specs.Ahead.{halted, mapped}
use Rattle.typing_scopes.proofs.Turning.{broken-turn, quiet-turn, whole-turn}
use Rattle.typing_paths.specs.System.{as_type_of}
use Rattle.typing_values.specs.Parts as part
use Rattle.constant_values.specs.declared.parameters.Place.{Place}
use Rattle.constant_values.proofs.Giving.{range-is, short-is}
use Rattle.typing_declarations.specs.Declaring.{as_value, looked, looked_by, typed_param, written_param}

-- a value that is looked at by itself
pub quiet-here : {A : Type 0} (gs : List Function) → IsQuiet (broken {A = A} Quiet gs) gs
quiet-here gs = record { quiet = refl; functions = refl }

pub looks : (A : Type 0) (k : Source) (x : Typing Operand) (r : Result O.Operand Halt) (fs gs : List Function) → TypesTo (as_operand k r) (x fs) gs → StopsBy (looked_by r) (checked {B = A} x (λ o. broken Quiet) fs) gs
looks A k x (Ok o) fs gs h = checked-fine {B = A} x (λ v. broken Quiet) fs gs gs (operand_of k o) (Err H.Quiet) h (quiet-here gs)
looks A k x (Err g) fs gs h = checked-stops {B = A} x (λ v. broken Quiet) fs gs g h

alike-by : (A B : Type 0) {C : Type 0} (h : Halt) (r : Checked C) (fs gs : List Function) → StopsBy h (applied {B = A} r (λ o. broken Quiet) fs) gs → StopsBy h (applied {B = B} r (λ o. broken Quiet) fs) gs
alike-by A B H.Memory r fs gs s = tt
alike-by A B (H.Breaks at n) (Ok c) fs gs s = s
alike-by A B (H.Breaks at n) (Err b) fs gs s = s
alike-by A B H.Quiet (Ok c) fs gs s = record { quiet = s.quiet; functions = s.functions }
alike-by A B H.Quiet (Err b) fs gs s = record { quiet = s.quiet; functions = s.functions }

none-alike : (A B : Type 0) (h : Halt) (fs gs : List Function) → StopsBy h (broken {A = A} Quiet fs) gs → StopsBy h (broken {A = B} Quiet fs) gs
none-alike A B H.Memory fs gs s = tt
none-alike A B (H.Breaks at n) fs gs s = s
none-alike A B H.Quiet fs gs s = record { quiet = s.quiet; functions = s.functions }

looked-alike : (A B : Type 0) (h : Halt) (k : Context) (i : Option Initializer) (fs gs : List Function) → StopsBy h (looked {A = A} k i fs) gs → StopsBy h (looked {A = B} k i fs) gs
looked-alike A B h k None fs gs s = none-alike A B h fs gs s
looked-alike A B h k (Some i) fs gs s = alike-by A B h (operand k i.value fs).result (operand k i.value fs).functions gs s

-- what is made of something that is whole
abbrev with_some : {B : Type 0} → Typed B → Typed (Option B)
with_some t = record { result = where_whole t.result (λ e. Ok (Some e)); functions = t.functions }

some-rule : {A B : Type 0} (r : Checked A) (c : A → Checked B) (fs : List Function) → applied r (λ a. rule (where_whole (c a) (λ e. Ok (Some e)))) fs ≡ with_some (applied r (λ a. rule (c a)) fs)
some-rule (Ok a) c fs = refl
some-rule (Err b) c fs = refl

some-types : {B : Type 0} (r : Result B Halt) (t : Typed B) (gs : List Function) → TypesTo r t gs → TypesTo (mapped (λ (e : B). Some e) r) (with_some t) gs
some-types {B = B} (Ok e) t gs h = ap (λ (u : Typed B). with_some u) h
some-types (Err H.Memory) t gs h = tt
some-types (Err (H.Breaks at n)) t gs h = where-fine t.result (λ e. Some e) ∙ h
some-types (Err H.Quiet) t gs h = record { quiet = where-fine t.result (λ e. Some e) ∙ h.quiet; functions = h.functions }

-- the value with which a local starts
pub starts : (k : Context) (t : SvType) (i : Initializer) (r : Result Expr Halt) (fs gs : List Function) → TypesTo r (typed_expr k i.value (Some t) fs) gs → TypesTo (mapped (λ (e : Expr). Some e) r) (initial_value k t (Some i) fs) gs
starts k t i r fs gs h =
    let x = operand k i.value fs in
    subst (λ (u : Typed (Option Expr)). TypesTo (mapped (λ (e : Expr). Some e) r) u gs) (sym (some-rule x.result (λ o. given k.source t o) x.functions))
    (some-types r (checked (operand k i.value) (λ o. rule (given k.source t o)) fs) gs h)

-- a variable
module _ (k : Context) (of : Option SvType) (d : Declarator) (fs gs hs : List Function) where
  abbrev the_type : Typing SvType
  the_type = local_type k d.name (declared_type k of d.unpacked)

  pub variable-whole : (t : SvType) (r : Result (Option Expr) Halt) → TypesTo (Ok t) (the_type fs) gs → TypesTo r (initial_value k t d.initial gs) hs → TypesTo (mapped (local_of k d.name t) r) (variable of d k fs) hs
  variable-whole t r p q = whole-turn the_type (λ o. with_type k o d.initial) (λ u e. local_of k d.name u e) t r fs gs hs p q

  with-none : (h : Halt) (i : Option Initializer) → StopsBy h (looked {A = Unit {0}} k i gs) hs → StopsBy h (with_type k None i gs) hs
  with-none h None s = looked-alike (Unit {0}) (Option Expr) h k None gs hs s
  with-none h (Some i) s = looked-alike (Unit {0}) (Option Expr) h k (Some i) gs hs s

  pub variable-quiet : (h : Halt) → TypesTo {A = SvType} (Err H.Quiet) (the_type fs) gs → StopsBy h (looked {A = Unit {0}} k d.initial gs) hs → StopsBy h (variable of d k fs) hs
  variable-quiet h p s = quiet-turn the_type (λ o. with_type k o d.initial) (λ u e. local_of k d.name u e) (Err h) fs gs hs p (with-none h d.initial s)

  pub variable-breaks : (at n : ℕ) → TypesTo {A = SvType} (Err (H.Breaks at n)) (the_type fs) gs → StopsBy (H.Breaks at n) (variable of d k fs) hs
  variable-breaks at n p = broken-turn the_type (λ o. with_type k o d.initial) (λ u e. local_of k d.name u e) at n fs gs hs p

-- types
abbrev found_by : Option (Typing SvType) → Typing TypeFound
found_by o = elim o as (λ x. Typing TypeFound) [ None ↦ broken Quiet | Some t ↦ checked t (λ u. whole (record { of = u; names = [] })) ]

pub selected-whole : (k : Context) (of : ℕ) (ss : List Select) (t : SvType) (r : Result SvType Halt) (fs gs : List Function) → Some t ≡ type_of_thing (thing k (simple_name of)) → TypesTo r (part.dimensioned k t ss fs) gs
    → TypesTo (mapped only r) (selected_type k of ss fs) gs
selected-whole k of ss t r fs gs e h =
    subst (λ (o : Option SvType). TypesTo (mapped only r) (found_by (option_map (λ u. part.dimensioned k u ss) o) fs) gs) e (by r h)
  where
    by : (q : Result SvType Halt) → TypesTo q (part.dimensioned k t ss fs) gs → TypesTo (mapped only q) (checked (part.dimensioned k t ss) (λ u. whole (only u)) fs) gs
    by (Ok u) p = checked-fine (part.dimensioned k t ss) (λ u. whole (only u)) fs gs gs u (Ok (only u)) p refl
    by (Err g) p = checked-stops (part.dimensioned k t ss) (λ u. whole (only u)) fs gs g p

pub selected-none : (k : Context) (of : ℕ) (ss : List Select) (fs : List Function) → None ≡ type_of_thing (thing k (simple_name of)) → StopsBy H.Quiet (selected_type k of ss fs) fs
selected-none k of ss fs e = subst (λ (o : Option SvType). StopsBy H.Quiet (found_by (option_map (λ u. part.dimensioned k u ss) o) fs) fs) e (quiet-here fs)

pub before-types : (k : Context) (before : WrittenType) (of : TypeText) (fs : List Function) → is_unwritten of ≡ true → TypesTo (Ok before) (written_type k before of fs) fs
before-types k before of fs u = subst (λ (b : Bool). TypesTo (Ok before) (cond b (whole before) (sign_or_type k of (sign_alone of)) fs) fs) (sym u) refl

pub other-types : (k : Context) (before : WrittenType) (of : TypeText) (signing : Option Signing) (r : Result WrittenType Halt) (fs gs : List Function) → is_unwritten of ≡ false → signing ≡ sign_alone of
    → TypesTo r (sign_or_type k of signing fs) gs → TypesTo r (written_type k before of fs) gs
other-types k before of signing r fs gs u is h =
    subst (λ (b : Bool). TypesTo r (cond b (whole before) (sign_or_type k of (sign_alone of)) fs) gs) (sym u) (subst (λ (o : Option Signing). TypesTo r (sign_or_type k of o fs) gs) is h)

pub text-types : (k : Context) (of : TypeText) (r : Result TypeFound Halt) (fs gs : List Function) → TypesTo r (typed_text of k fs) gs
    → TypesTo (mapped (λ (f : TypeFound). OfType f.of) r) (sign_or_type k of None fs) gs
text-types k of (Ok f) fs gs p = checked-fine (typed_text of k) (λ f. whole (OfType f.of)) fs gs gs f (Ok (OfType f.of)) p refl
text-types k of (Err g) fs gs p = checked-stops (typed_text of k) (λ f. whole (OfType f.of)) fs gs g p

-- parameters that are types
abbrev of_option : Checked (Option SvType) → Checked (Option SvType)
of_option c = c

abbrev type_made : Context → ℕ → SvType → Parameter
type_made k at u = typed_param (record { decl = k.declared at; of = u })

some-applied : (r : Checked SvType) (fs gs : List Function) (t : SvType) → applied r (λ b. whole (Some b)) fs ≡ record { result = Ok (Some t); functions = gs } → TypesTo (Ok t) (record { result = r; functions = fs }) gs
some-applied (Ok b) fs gs t e =
    let r : of_option (Ok (Some b)) ≡ of_option (Ok (Some t)) = ap (λ (u : Typed (Option SvType)). of_option u.result) e in
    let k : fs ≡ gs = ap (λ (u : Typed (Option SvType)). u.functions) e in
    let h : b ≡ t = cc in
    ap (λ (x : SvType). record { result = Ok x; functions = fs }) h ∙ ap (λ (zs : List Function). record { result = Ok t; functions = zs }) k
some-applied (Err b) fs gs t e = let r : of_option (Err b) ≡ of_option (Ok (Some t)) = ap (λ (u : Typed (Option SvType)). of_option u.result) e in absurd (cc)

not-none : (r : Checked SvType) (fs gs : List Function) → applied r (λ b. whole (Some b)) fs ≡ record { result = Ok None; functions = gs } → ⊥
not-none (Ok b) fs gs e = let r : of_option (Ok (Some b)) ≡ of_option (Ok None) = ap (λ (t : Typed (Option SvType)). of_option t.result) e in absurd (cc)
not-none (Err b) fs gs e = let r : of_option (Err b) ≡ of_option (Ok None) = ap (λ (t : Typed (Option SvType)). of_option t.result) e in absurd (cc)

stops-applied : (h : Halt) (r : Checked SvType) (f : SvType → Parameter) (fs gs : List Function) → StopsBy h (applied r (λ b. whole (Some b)) fs) gs → StopsBy h (applied r (λ b. whole (f b)) fs) gs
stops-applied H.Memory r f fs gs s = tt
stops-applied (H.Breaks at n) (Ok b) f fs gs s = absurd (cc)
stops-applied (H.Breaks at n) (Err x) f fs gs s = s
stops-applied H.Quiet (Ok b) f fs gs s = let q = s.quiet in absurd (cc)
stops-applied H.Quiet (Err x) f fs gs s = record { quiet = s.quiet; functions = s.functions }

abbrev param_by : Context → ℕ → Option (Typing SvType) → Typing Parameter
param_by k at o = elim o as (λ x. Typing Parameter) [ None ↦ broken Quiet | Some t ↦ checked t (λ u. whole (type_made k at u)) ]

type-by : (k : Context) (at : ℕ) (o : Option (Typing SvType)) (t : SvType) (fs gs : List Function) → TypesTo (Ok (Some t)) (maybe o fs) gs → TypesTo (Ok (type_made k at t)) (param_by k at o fs) gs
type-by k at None t fs gs h = let r : of_option (Ok None) ≡ of_option (Ok (Some t)) = ap (λ (u : Typed (Option SvType)). of_option u.result) h in absurd (cc)
type-by k at (Some x) t fs gs h = checked-fine x (λ u. whole (type_made k at u)) fs gs gs t (Ok (type_made k at t)) (some-applied (x fs).result (x fs).functions gs t h) refl

none-by : (k : Context) (at : ℕ) (o : Option (Typing SvType)) (fs gs : List Function) → TypesTo {A = Option SvType} (Ok None) (maybe o fs) gs → StopsBy H.Quiet (param_by k at o fs) gs
none-by k at None fs gs h = record { quiet = refl; functions = ap (λ (u : Typed (Option SvType)). u.functions) h }
none-by k at (Some x) fs gs h = absurd (not-none (x fs).result (x fs).functions gs h)

halt-by : (k : Context) (at : ℕ) (o : Option (Typing SvType)) (g : Halt) (fs gs : List Function) → TypesTo {A = Option SvType} (Err g) (maybe o fs) gs → StopsBy g (param_by k at o fs) gs
halt-by k at None H.Memory fs gs h = tt
halt-by k at None (H.Breaks n rule) fs gs h = absurd (cc)
halt-by k at None H.Quiet fs gs h = let q = h.quiet in absurd (cc)
halt-by k at (Some x) g fs gs h = stops-applied g (x fs).result (type_made k at) (x fs).functions gs h

pub type-whole : (k : Context) (at : ℕ) (i : Initializer) (t : SvType) (fs gs : List Function) → TypesTo (Ok (Some t)) (as_type_of k i.value fs) gs → TypesTo (Ok (type_made k at t)) (type_parameter k at (Some i) fs) gs
type-whole k at i t fs gs h = type-by k at ((meaning i.value).as_type k) t fs gs h

pub type-none : (k : Context) (at : ℕ) (i : Initializer) (fs gs : List Function) → TypesTo {A = Option SvType} (Ok None) (as_type_of k i.value fs) gs → StopsBy H.Quiet (type_parameter k at (Some i) fs) gs
type-none k at i fs gs h = none-by k at ((meaning i.value).as_type k) fs gs h

pub type-halts : (k : Context) (at : ℕ) (i : Initializer) (g : Halt) (fs gs : List Function) → TypesTo {A = Option SvType} (Err g) (as_type_of k i.value fs) gs → StopsBy g (type_parameter k at (Some i) fs) gs
type-halts k at i g fs gs h = halt-by k at ((meaning i.value).as_type k) g fs gs h

-- constants
gives-value : (r : Result ParamValue Halt) (b : Bool) (p : Position) (n : ℕ) (v : ParamValue) → Gives r (refused b p n (Ok v)) → Gives (as_meant as_value r) (refused b p n (Ok (as_value v)))
gives-value (Ok w) true p n v g = absurd (cc)
gives-value (Ok w) false p n v g = let same : v ≡ w = cc in ap (λ (x : ParamValue). value_ok x) same
  where
    value_ok : ParamValue → Checked Declared
    value_ok x = Ok (as_value x)
gives-value (Err H.Memory) b p n v g = tt
gives-value (Err (H.Breaks at m)) true p n v g = g
gives-value (Err (H.Breaks at m)) false p n v g = absurd (cc)
gives-value (Err H.Quiet) true p n v g = g
gives-value (Err H.Quiet) false p n v g = absurd (cc)

gives-none : (r : Result ParamValue Halt) (b : _) → Gives r (Err b) → Gives (as_meant as_value r) (Err b)
gives-none (Ok w) b g = absurd (cc)
gives-none (Err h) b g = g

abbrev short_declared : Context → ℕ → ParamValue → Checked Declared
short_declared k at v = refused (nat_lt 65536 (width_of v.of)) (position k.source at) 701 (Ok (as_value v))

by-constant : (k : Context) (at : ℕ) (c : Checked ParamValue) (r : Result ParamValue Halt) (gs : List Function) → Gives r (where_whole c (λ v. refused (nat_lt 65536 (width_of v.of)) (position k.source at) 701 (Ok v)))
    → TypesTo (as_meant as_value r) (applied c (λ v. rule (short_declared k at v)) gs) gs
by-constant k at (Ok v) r gs g = rule-types (as_meant as_value r) (short_declared k at v) gs (gives-value r (nat_lt 65536 (width_of v.of)) (position k.source at) 701 v g)
by-constant k at (Err b) r gs g = rule-types (as_meant as_value r) (Err b) gs (gives-none r b g)

written-short : (k : Context) (at : ℕ) (t : WrittenType) (o : Operand) (fs : List Function)
    → where_whole (written_value k at t o fs) (λ (v : ParamValue). refused (nat_lt 65536 (width_of v.of)) (position k.source at) 701 (Ok v)) ≡ written_param k.source (record { name = at; declaration = k.declared at }) t o fs
written-short k at (OfValue None) o fs = short-is k at None o fs
written-short k at (OfValue (Some s)) o fs = range-is k at s o fs
written-short k at (OfType t) o fs = short-is k at (Some t) o fs

pub constant-types : (k : Context) (at : ℕ) (t : WrittenType) (i : Initializer) (o : Operand) (p : Place) (r : Result ParamValue Halt) (fs gs : List Function) → p ≡ record { name = at; declaration = k.declared at }
    → TypesTo (Ok o) (operand k i.value fs) gs → Gives r (written_param k.source p t o gs) → TypesTo (as_meant as_value r) (constant k at t (Some i) fs) gs
constant-types k at t i o p r fs gs is h g =
    let made = subst (λ (q : Place). Gives r (written_param k.source q t o gs)) is g in
    let short = subst (λ (c : Checked ParamValue). Gives r c) (sym (written-short k at t o gs)) made in
    checked-fine (operand k i.value) (λ x. checked (by_functions (written_value k at t x)) (λ v. rule (short_declared k at v))) fs gs gs o (as_meant as_value r) h (by-constant k at (written_value k at t o gs) r gs short)

pub constant-stops : (k : Context) (at : ℕ) (t : WrittenType) (i : Initializer) (g : Halt) (fs gs : List Function) → TypesTo {A = Operand} (Err g) (operand k i.value fs) gs → StopsBy g (constant k at t (Some i) fs) gs
constant-stops k at t i g fs gs h = checked-stops (operand k i.value) (λ x. checked (by_functions (written_value k at t x)) (λ v. rule (short_declared k at v))) fs gs g h

-- under dimensions
abbrev value_by_type : Context → Declarator → Option WrittenType → Typing Declared
value_by_type k d None = looked k d.initial
value_by_type k d (Some u) = constant k d.name u d.initial

module _ (k : Context) (d : Declarator) (t : WrittenType) (fs gs hs : List Function) where
  pub under-whole : (u : WrittenType) (r : Result Declared Halt) → TypesTo (Ok u) (with_dimensions k t d.unpacked fs) gs → TypesTo r (constant k d.name u d.initial gs) hs → TypesTo (mapped (λ (v : Declared). v) r) (by_dimensions k d t fs) hs
  under-whole u r p q = whole-turn (with_dimensions k t d.unpacked) (λ o. value_by_type k d o) (λ w v. v) u r fs gs hs p q

  pub under-quiet : (h : Halt) → TypesTo {A = WrittenType} (Err H.Quiet) (with_dimensions k t d.unpacked fs) gs → StopsBy h (looked {A = Unit {0}} k d.initial gs) hs → StopsBy h (by_dimensions k d t fs) hs
  under-quiet h p s =
      quiet-turn (with_dimensions k t d.unpacked) (λ o. value_by_type k d o) (λ w v. v) (Err h) fs gs hs p (looked-alike (Unit {0}) Declared h k d.initial gs hs s)

  pub under-breaks : (at n : ℕ) → TypesTo {A = WrittenType} (Err (H.Breaks at n)) (with_dimensions k t d.unpacked fs) gs → StopsBy (H.Breaks at n) (by_dimensions k d t fs) hs
  under-breaks at n p = broken-turn (with_dimensions k t d.unpacked) (λ o. value_by_type k d o) (λ w v. v) at n fs gs hs p

pub mapped-same : {A : Type 0} (r : Result A Halt) (t : Typed A) (gs : List Function) → TypesTo (mapped (λ (a : A). a) r) t gs → TypesTo r t gs
mapped-same (Ok a) t gs h = h
mapped-same (Err g) t gs h = h

-- parameters that are values
abbrev by_written : Context → Declarator → Option WrittenType → Typing Declared
by_written k d None = broken Quiet
by_written k d (Some t) = by_dimensions k d t

abbrev value_made : WrittenType → Declared → Parameter
value_made t v = record { kind = IsValue t; declared = v }

module _ (k : Context) (before : WrittenType) (of : TypeText) (d : Declarator) (fs gs hs : List Function) where
  pub value-whole : (t : WrittenType) (r : Result Declared Halt) → TypesTo (Ok t) (written_type k before of fs) gs → TypesTo r (by_dimensions k d t gs) hs → TypesTo (mapped (value_made t) r) (value_parameter k before of d fs) hs
  value-whole t r p q = whole-turn (written_type k before of) (λ o. by_written k d o) (λ u v. value_made u v) t r fs gs hs p q

pub value-stops : (k : Context) (before : WrittenType) (of : TypeText) (d : Declarator) (g : Halt) (fs gs : List Function) → TypesTo {A = WrittenType} (Err g) (written_type k before of fs) gs → StopsBy g (value_parameter k before of d fs) gs
value-stops k before of d H.Memory fs gs h = tt
value-stops k before of d (H.Breaks at n) fs gs h = broken-turn (written_type k before of) (λ o. by_written k d o) (λ u v. value_made u v) at n fs gs gs h
value-stops k before of d H.Quiet fs gs h = quiet-turn (written_type k before of) (λ o. by_written k d o) (λ u v. value_made u v) (Err H.Quiet) fs gs gs h (quiet-here gs)

-- a type with the dimensions behind a name
pub dims-types : (k : Context) (t : WrittenType) (ds : List Dimension) (r : Result (List Dim) Halt) (fs gs : List Function) → (length ds == 0) ≡ false → TypesTo r (dims k ds fs) gs
    → TypesTo (mapped (λ (e : List Dim). OfType (unpacked e (type_or_bit t))) r) (with_dimensions k t ds fs) gs
dims-types k t [] r fs gs e h = absurd (cc)
dims-types k t (d ∷ ds) (Ok e) fs gs n h =
    checked-fine (dims k (d ∷ ds)) (λ x. whole (OfType (unpacked x (type_or_bit t)))) fs gs gs e (Ok (OfType (unpacked e (type_or_bit t)))) h refl
dims-types k t (d ∷ ds) (Err g) fs gs n h = checked-stops (dims k (d ∷ ds)) (λ x. whole (OfType (unpacked x (type_or_bit t)))) fs gs g h
