-- Declarations of blocks keep the order of the text: variables, types that are names with selects, and parameters.
use Rattle.std.proofs.Common.{ℕ, suc, ◌≤◌, ◌<◌, Bool, true, false, List, [], ◌∷◌, map, Option, Some, None, cond, arith}
use Rattle.std.specs.Prelude.{nat_lt, Ok, Err}
use Rattle.std.specs.Option.{option_map}
use Rattle.sv_tree.specs.declared.declarations.Declarator.{Declarator}
use Rattle.sv_tree.specs.declared.declarations.Initializer.{Initializer}
use Rattle.sv_tree.specs.declared.declarations.ParameterBody.{ParameterBody}
use Rattle.sv_tree.specs.declared.declarations.ParameterBody.TheVariants as P
use Rattle.sv_tree.specs.declared.expressions.Dimension.{Dimension}
use Rattle.sv_tree.specs.declared.expressions.Expr as X
use Rattle.sv_tree.specs.declared.expressions.Select.{Select}
use Rattle.sv_tree.specs.declared.names.Signing.{Signing}
use Rattle.sv_tree.specs.declared.types.TypeText.{TypeText}
use Rattle.sv_types.specs.declared.statement.Function.{Function}
use Rattle.sv_types.specs.declared.types.SvType.{SvType}
use Rattle.sv_types.specs.Layouts.{width_of}
use Rattle.expr_type.specs.Breaks.{Quiet}
use Rattle.expr_type.specs.Typings.{Checked, Typing, whole, broken, rule, by_functions, checked, where_whole}
use Rattle.expr_type.specs.Shapes.{most_bits, vector}
use Rattle.expr_type.specs.Names.{Context, position}
use Rattle.expr_type.specs.Operands.{Operand, Plain, constant_alone, constant_of, given, is_constant_value, width}
use Rattle.expr_type.specs.Operators.{not_too_long}
use Rattle.expr_type.specs.Forms.{is_signed_by}
use Rattle.expr_type.specs.Expressions.{meaning, operand, select_meaning, type_of_name}
use Rattle.expr_type.specs.KeywordTypes.{Dim, unpacked}
use Rattle.expr_type.specs.Types.{TypeFound, dims, typed_text, declared_type}
use Rattle.expr_type.specs.Targets.{simple_name}
use Rattle.expr_type.specs.Statements.{Declared, nothing, behind, behind_if, and_then, in_turn, local_of, local_type, with_type, variable, type_names, names_if, variables_of, selected_type, param_value, constant_value, WrittenType, OfValue, OfType, written_value, constant, is_unwritten, sign_alone, sign_or_type, written_type, type_or_bit, with_dimensions, Kind, IsType, IsValue, Parameter, type_parameter, by_dimensions, value_parameter, parameter, kind_if, declared_if, parameters}
use Rattle.expr_type.specs.Placed.{Ascend, OperandStands, RoutinesInOrder, Stands}
use Rattle.expr_type.proofs.Ordering.{place}
use Rattle.order_laws.specs.Meanings.{DimsIf, TypeIf}
use Rattle.order_laws.specs.Ordered.{expr_tokens, selects_tokens, dims_tokens, initial_tokens, type_tokens, declarator_tokens, declarators_tokens, parameter_tokens, parameters_tokens}
use Rattle.order_laws.proofs.Tokens.{split}
use Rattle.order_laws.proofs.Typings.{PlacedAs, TypedAs, Each, any-from, any-typing, as-both-any, as-both-by, as-checked, as-refused, as-then, as-wider}
use Rattle.order_laws.proofs.Parts.{Ordered, PartsInOrder, each-in-row, each-of}
use Rattle.order_laws.proofs.Given.{alone-stands, constant-stands, constant-value, given-stands, operand-typing, operand-wider}

-- breaks stand in a part of a context's text, in its order
abbrev pub InText : {A : Type 0} → Context → ℕ → ℕ → Typing A → Type 0
InText k low high x = TypedAs (λ a. Unit {0}) k.source.instance low high x

abbrev pub KeepsOrder : {A : Type 0} → ℕ → ℕ → (Context → Typing A) → Type 0
KeepsOrder low high f = (k : Context) → RoutinesInOrder k → InText k low high (f k)

-- at most so many bits
pub long-in : {A : Type 0} (k : Context) (at w low high : ℕ) (a : A) → low ≤ at → at < high → PlacedAs (λ a. Unit {0}) k.source.instance low high (not_too_long k.source at w (Ok a))
long-in k at w low high a h m =
    as-refused k.source.instance (λ a. Unit {0}) (nat_lt most_bits w) (position k.source at) 701 (Ok a) low high (place k.source at low high h m) tt

-- declarations behind one another
turn-behind : (k : Context) (ds : List (Context → Typing Declared)) (low high : ℕ) → RoutinesInOrder k → ((j : Context) → RoutinesInOrder j → InText j low high (in_turn j ds))
    → (o : Option Declared) → InText k low high (in_turn (behind_if k o) ds)
turn-behind k ds low high rs rest None = rest k rs
turn-behind k ds low high rs rest (Some d) = rest (behind k d) rs

pub in-turn : (k : Context) (ds : List (Context → Typing Declared)) (low high : ℕ) → RoutinesInOrder k → Each KeepsOrder low high ds → InText k low high (in_turn k ds)
in-turn k [] low high rs p = λ fs. tt
in-turn k (d ∷ ds) low high rs p =
    as-both-any k.source.instance (λ d. Unit {0}) (λ d. Unit {0}) (λ d. Unit {0}) (d k) (λ o. in_turn (behind_if k o) ds) (λ a b. whole (and_then a b)) low p.0 high p.1 p.2
    (p.3 k rs) (λ o u. turn-behind k ds p.0 high rs (λ j js. in-turn j ds p.0 high js p.4) o) (λ a b u v fs. tt)

module _ (parts : PartsInOrder) where
  pub dims-in : (k : Context) (ds : List Dimension) (low high : ℕ) → RoutinesInOrder k → low ≤ high → Ascend low high (dims_tokens ds) → InText k low high (dims k ds)
  dims-in k ds low high rs h a fs = by (dims k ds fs).result (parts.dims ds low high h a k rs fs)
    where
      by : (x : Checked (List Dim)) → DimsIf k.source.instance low high x → PlacedAs (λ d. Unit {0}) k.source.instance low high x
      by (Ok d) s = tt
      by (Err b) s = s

  pub declared-in : (k : Context) (of : Option SvType) (ds : List Dimension) (low high : ℕ) → RoutinesInOrder k → low ≤ high → Ascend low high (dims_tokens ds)
      → InText k low high (declared_type k of ds)
  declared-in k None ds low high rs h a =
      as-checked k.source.instance (λ d. Unit {0}) (λ t. Unit {0}) (dims k ds) (λ d. broken Quiet) low high (dims-in k ds low high rs h a) (λ d u fs. tt)
  declared-in k (Some t) ds low high rs h a =
      as-checked k.source.instance (λ d. Unit {0}) (λ t. Unit {0}) (dims k ds) (λ d. whole (unpacked d t)) low high (dims-in k ds low high rs h a) (λ d u fs. tt)

  pub text-in : (k : Context) (t : TypeText) (low high : ℕ) → RoutinesInOrder k → low ≤ high → Ascend low high (type_tokens t) → InText k low high (typed_text t k)
  text-in k t low high rs h a = any-typing k.source.instance (typed_text t k) low high (parts.text t low high h a k rs)

  pub operand-in : (k : Context) (e : X.Expr) (low high : ℕ) → RoutinesInOrder k → low ≤ high → Ascend low high (expr_tokens e)
      → TypedAs (OperandStands k.source.instance low high) k.source.instance low high (operand k e)
  operand-in k e low high rs h a = operand-typing k.source low high (operand k e) ((parts.expr e low high h a).typed k rs)

  pub operand-from : (k : Context) (e : X.Expr) (low between high : ℕ) → RoutinesInOrder k → low ≤ between → between ≤ high → Ascend between high (expr_tokens e)
      → TypedAs (OperandStands k.source.instance low high) k.source.instance low high (operand k e)
  operand-from k e low between high rs h m a fs =
      as-wider k.source.instance (OperandStands k.source.instance between high) (OperandStands k.source.instance low high) (operand k e fs).result between high low high h (omega arith)
      (λ o s. operand-wider k.source.instance o between high low high h (omega arith) s) (operand-in k e between high rs m a fs)

  -- variables
  with-type-in : (k : Context) (t : Option SvType) (o : Option Initializer) (low high : ℕ) → RoutinesInOrder k → low ≤ high → Ascend low high (initial_tokens o)
      → InText k low high (with_type k t o)
  with-type-in k None None low high rs h a = λ fs. tt
  with-type-in k None (Some i) low high rs h a =
      as-checked k.source.instance (OperandStands k.source.instance low high) (λ e. Unit {0}) (operand k i.value) (λ o. broken Quiet) low high (operand-in k i.value low high rs h a) (λ o s fs. tt)
  with-type-in k (Some t) None low high rs h a = λ fs. tt
  with-type-in k (Some t) (Some i) low high rs h a =
      as-checked k.source.instance (OperandStands k.source.instance low high) (λ e. Unit {0}) (operand k i.value) (λ o. rule (where_whole (given k.source t o) (λ e. Ok (Some e)))) low high
      (operand-in k i.value low high rs h a)
      (λ o s fs. as-then k.source.instance (λ e. Unit {0}) (λ e. Unit {0}) (given k.source t o) (λ e. Ok (Some e)) low high (given-stands k.source low high t o s) (λ e u. tt))

  variable-in : (of : Option SvType) (d : Declarator) → Ordered declarator_tokens (λ low high d. KeepsOrder low high (variable of d)) d
  variable-in of d low high h a k rs =
      let before = a.0 in
      let s = split (dims_tokens d.unpacked) (initial_tokens d.initial) (suc d.name) high (let b = a.1 in omega arith) a.2 in
      let from = s.from in
      as-both-any k.source.instance (λ t. Unit {0}) (λ e. Unit {0}) (λ d. Unit {0}) (local_type k d.name (declared_type k of d.unpacked)) (λ t. with_type k t d.initial)
      (λ t e. whole (local_of k d.name t e)) low s.between high (omega arith) s.to
      (as-checked k.source.instance (λ t. Unit {0}) (λ t. Unit {0}) (declared_type k of d.unpacked) (λ u. rule (not_too_long k.source d.name (width_of u) (Ok u))) low s.between
      (any-from k.source.instance (λ t. Unit {0}) (declared_type k of d.unpacked) (suc d.name) s.between low s.between (omega arith) (omega arith)
      (declared-in k of d.unpacked (suc d.name) s.between rs from s.before))
      (λ u v fs. long-in k d.name (width_of u) low s.between u before (omega arith)))
      (λ o u. with-type-in k o d.initial s.between high rs s.to s.behind) (λ t e u v fs. tt)

  each-variable : (of : Option SvType) (ds : List Declarator) (low high : ℕ) → low ≤ high → Ascend low high (declarators_tokens ds) → Each KeepsOrder low high (map (variable of) ds)
  each-variable of ds low high h a =
      each-of (variable of) (λ l h d. KeepsOrder l h (variable of d)) KeepsOrder (λ l h d p. p) ds low high
      (each-in-row declarator_tokens (λ l h d. KeepsOrder l h (variable of d)) (variable-in of) ds low high h a)

  pub variables-in : (k : Context) (t : Typing TypeFound) (ds : List Declarator) (low between high : ℕ) → RoutinesInOrder k → low ≤ between → between ≤ high → InText k low between t
      → Ascend between high (declarators_tokens ds) → InText k low high (variables_of k t ds)
  variables-in k t ds low between high rs h m p a =
      as-both-any k.source.instance (λ f. Unit {0}) (λ d. Unit {0}) (λ d. Unit {0}) t (λ o. in_turn (names_if k o) (map (variable (option_map (λ (f : TypeFound). f.of) o)) ds))
      (λ f d. whole (and_then (type_names f) d)) low between high h m p (λ o u. next o) (λ f d u v fs. tt)
    where
      next : (o : Option TypeFound) → InText k between high (in_turn (names_if k o) (map (variable (option_map (λ (f : TypeFound). f.of) o)) ds))
      next None = in-turn k (map (variable None) ds) between high rs (each-variable None ds between high m a)
      next (Some f) = in-turn (names_if k (Some f)) (map (variable (Some f.of)) ds) between high rs (each-variable (Some f.of) ds between high m a)

  -- types that are names with selects
  pub selected-in : (k : Context) (of : ℕ) (ss : List Select) (low high : ℕ) → RoutinesInOrder k → low ≤ high → Ascend low high (selects_tokens ss) → InText k low high (selected_type k of ss)
  selected-in k of ss low high rs h a = by (type_of_name k (simple_name of) (map select_meaning ss)) (parts.named of ss low high h a k rs)
    where
      by : (o : Option (Typing SvType)) → TypeIf k.source.instance low high o
          → InText k low high (elim o as (λ x. Typing TypeFound) [ None ↦ broken Quiet | Some t ↦ checked t (λ u. whole (record { of = u; names = [] })) ])
      by None p = λ fs. tt
      by (Some t) p =
          as-checked k.source.instance (λ t. Unit {0}) (λ f. Unit {0}) t (λ u. whole (record { of = u; names = [] })) low high (any-typing k.source.instance t low high p) (λ u v fs. tt)

  -- constants
  value-in : (k : Context) (at : ℕ) (t : Option SvType) (o : Operand) (fs : List Function) (low high : ℕ) → OperandStands k.source.instance low high o
      → PlacedAs (λ v. Unit {0}) k.source.instance low high (constant_value k at t o fs)
  value-in k at None o fs low high s =
      as-then k.source.instance (Stands low high) (λ v. Unit {0}) (is_constant_value k.source o) (λ v. where_whole (constant_alone k.source v fs) (param_value k at v.expr.of fs)) low high
      (constant-value k.source low high o s)
      (λ v x. as-then k.source.instance (λ e. Unit {0}) (λ v. Unit {0}) (constant_alone k.source v fs) (param_value k at v.expr.of fs) low high (alone-stands k.source low high v fs x) (λ e u. tt))
  value-in k at (Some t) o fs low high s =
      as-then k.source.instance (λ e. Unit {0}) (λ v. Unit {0}) (constant_of k.source t o fs) (param_value k at t fs) low high (constant-stands k.source low high t o fs s) (λ e u. tt)

  written-in : (k : Context) (at : ℕ) (t : WrittenType) (o : Operand) (fs : List Function) (low high : ℕ) → OperandStands k.source.instance low high o
      → PlacedAs (λ v. Unit {0}) k.source.instance low high (written_value k at t o fs)
  written-in k at (OfValue None) o fs low high s = value-in k at None o fs low high s
  written-in k at (OfValue (Some g)) o fs low high s =
      as-then k.source.instance (Stands low high) (λ v. Unit {0}) (is_constant_value k.source o) (λ v. constant_value k at (Some (vector (width v) (is_signed_by g))) (Plain v) fs) low high
      (constant-value k.source low high o s) (λ v x. value-in k at (Some (vector (width v) (is_signed_by g))) (Plain v) fs low high x)
  written-in k at (OfType t) o fs low high s = value-in k at (Some t) o fs low high s

  constant-in : (k : Context) (at : ℕ) (t : WrittenType) (o : Option Initializer) (low between high : ℕ) → RoutinesInOrder k → low ≤ at → at < between → between ≤ high
      → Ascend between high (initial_tokens o) → InText k low high (constant k at t o)
  constant-in k at t None low between high rs h m n a = λ fs. place k.source at low high h (omega arith)
  constant-in k at t (Some i) low between high rs h m n a =
      as-checked k.source.instance (OperandStands k.source.instance low high) (λ d. Unit {0}) (operand k i.value)
      (λ o. checked (by_functions (written_value k at t o)) (λ v. rule (not_too_long k.source at (width_of v.of) (Ok (record nothing { values = v ∷ [] }))))) low high
      (operand-from k i.value low between high rs (omega arith) n a)
      (λ o s. as-checked k.source.instance (λ v. Unit {0}) (λ d. Unit {0}) (by_functions (written_value k at t o))
      (λ v. rule (not_too_long k.source at (width_of v.of) (Ok (record nothing { values = v ∷ [] })))) low high (λ fs. written-in k at t o fs low high s)
      (λ v u fs. long-in k at (width_of v.of) low high (record nothing { values = v ∷ [] }) h (omega arith)))

  -- the type that is written
  sign-or-type : (k : Context) (of : TypeText) (o : Option Signing) (low high : ℕ) → RoutinesInOrder k → low ≤ high → Ascend low high (type_tokens of) → InText k low high (sign_or_type k of o)
  sign-or-type k of (Some g) low high rs h a = λ fs. tt
  sign-or-type k of None low high rs h a =
      as-checked k.source.instance (λ f. Unit {0}) (λ t. Unit {0}) (typed_text of k) (λ f. whole (OfType f.of)) low high (text-in k of low high rs h a) (λ f u fs. tt)

  written-type : (k : Context) (before : WrittenType) (of : TypeText) (low high : ℕ) → RoutinesInOrder k → low ≤ high → Ascend low high (type_tokens of) → InText k low high (written_type k before of)
  written-type k before of low high rs h a = by (is_unwritten of)
    where
      by : (b : Bool) → InText k low high (cond b (whole before) (sign_or_type k of (sign_alone of)))
      by true = λ fs. tt
      by false = sign-or-type k of (sign_alone of) low high rs h a

  with-dimensions : (k : Context) (t : WrittenType) (ds : List Dimension) (low high : ℕ) → RoutinesInOrder k → low ≤ high → Ascend low high (dims_tokens ds) → InText k low high (with_dimensions k t ds)
  with-dimensions k t [] low high rs h a = λ fs. tt
  with-dimensions k t (d ∷ ds) low high rs h a =
      as-checked k.source.instance (λ d. Unit {0}) (λ t. Unit {0}) (dims k (d ∷ ds)) (λ e. whole (OfType (unpacked e (type_or_bit t)))) low high (dims-in k (d ∷ ds) low high rs h a) (λ e u fs. tt)

  -- what follows a type: a constant, or what is looked at by itself
  abbrev no_type_value : Context → Option Initializer → Typing Declared
  no_type_value k None = broken Quiet
  no_type_value k (Some i) = checked (operand k i.value) (λ o. broken Quiet)

  abbrev value_by_type : Context → Declarator → Option WrittenType → Typing Declared
  value_by_type k d None = no_type_value k d.initial
  value_by_type k d (Some u) = constant k d.name u d.initial

  no-type-value : (k : Context) (o : Option Initializer) (low high : ℕ) → RoutinesInOrder k → low ≤ high → Ascend low high (initial_tokens o) → InText k low high (no_type_value k o)
  no-type-value k None low high rs h a = λ fs. tt
  no-type-value k (Some i) low high rs h a =
      as-checked k.source.instance (OperandStands k.source.instance low high) (λ d. Unit {0}) (operand k i.value) (λ o. broken Quiet) low high (operand-in k i.value low high rs h a) (λ o s fs. tt)

  by-dimensions : (k : Context) (d : Declarator) (t : WrittenType) (low high : ℕ) → RoutinesInOrder k → low ≤ high → Ascend low high (declarator_tokens d) → InText k low high (by_dimensions k d t)
  by-dimensions k d t low high rs h a =
      let before = a.0 in
      let s = split (dims_tokens d.unpacked) (initial_tokens d.initial) (suc d.name) high (let b = a.1 in omega arith) a.2 in
      let from = s.from in
      as-both-by k.source.instance (λ u. Unit {0}) (λ v. Unit {0}) (λ v. Unit {0}) (with_dimensions k t d.unpacked) (λ o. value_by_type k d o) (λ u v. whole v) low s.between high (omega arith) s.to
      (any-from k.source.instance (λ u. Unit {0}) (with_dimensions k t d.unpacked) (suc d.name) s.between low s.between (omega arith) (omega arith)
      (with-dimensions k t d.unpacked (suc d.name) s.between rs from s.before))
      (no-type-value k d.initial s.between high rs s.to s.behind)
      (λ u v. constant-in k d.name u d.initial low s.between high rs before (omega arith) s.to s.behind) (λ u v x y fs. tt)

  abbrev by_written : Context → Declarator → Option WrittenType → Typing Declared
  by_written k d None = broken Quiet
  by_written k d (Some t) = by_dimensions k d t

  value-parameter : (k : Context) (before : WrittenType) (of : TypeText) (d : Declarator) (low between high : ℕ) → RoutinesInOrder k → low ≤ between → between ≤ high
      → Ascend low between (type_tokens of) → Ascend between high (declarator_tokens d) → InText k low high (value_parameter k before of d)
  value-parameter k before of d low between high rs h m a b =
      as-both-any k.source.instance (λ t. Unit {0}) (λ v. Unit {0}) (λ p. Unit {0}) (written_type k before of) (λ o. by_written k d o) (λ t v. whole (record { kind = IsValue t; declared = v }))
      low between high h m (written-type k before of low between rs h a) (λ o u. next o) (λ t v x y fs. tt)
    where
      next : (o : Option WrittenType) → InText k between high (by_written k d o)
      next None = λ fs. tt
      next (Some t) = by-dimensions k d t between high rs m b

  -- parameters that are types
  type-parameter : (k : Context) (at : ℕ) (o : Option Initializer) (low between high : ℕ) → RoutinesInOrder k → low ≤ at → at < between → between ≤ high → Ascend between high (initial_tokens o)
      → InText k low high (type_parameter k at o)
  type-parameter k at None low between high rs h m n a = λ fs. place k.source at low high h (omega arith)
  type-parameter k at (Some i) low between high rs h m n a = by ((meaning i.value).as_type k) ((parts.expr i.value between high n a).as_type k rs)
    where
      by : (o : Option (Typing SvType)) → TypeIf k.source.instance between high o
          → InText k low high (elim o as (λ x. Typing Parameter) [
            | None ↦ broken Quiet
            | Some t ↦ checked t (λ u. whole (record { kind = IsType; declared = record nothing { types = record { decl = k.declared at; of = u } ∷ [] } }))
          ])
      by None p = λ fs. tt
      by (Some t) p =
          as-checked k.source.instance (λ t. Unit {0}) (λ q. Unit {0}) t (λ u. whole (record { kind = IsType; declared = record nothing { types = record { decl = k.declared at; of = u } ∷ [] } })) low high
          (any-from k.source.instance (λ t. Unit {0}) t between high low high (omega arith) (omega arith) (any-typing k.source.instance t between high p)) (λ u v fs. tt)

  either-parameter : (k : Context) (b : Bool) (of : TypeText) (d : Declarator) (low between high : ℕ) → RoutinesInOrder k → low ≤ between → between ≤ high
      → Ascend low between (type_tokens of) → Ascend between high (declarator_tokens d) → InText k low high (cond b (type_parameter k d.name d.initial) (value_parameter k (OfValue None) of d))
  either-parameter k true of d low between high rs h m a b =
      let before = b.0 in
      let s = split (dims_tokens d.unpacked) (initial_tokens d.initial) (suc d.name) high (let c = b.1 in omega arith) b.2 in
      let from = s.from in
      type-parameter k d.name d.initial low s.between high rs (omega arith) (omega arith) s.to s.behind
  either-parameter k false of d low between high rs h m a b = value-parameter k (OfValue None) of d low between high rs h m a b

  parameter-in : (k : Context) (before : Kind) (b : ParameterBody) (low high : ℕ) → RoutinesInOrder k → low ≤ high → Ascend low high (parameter_tokens b) → InText k low high (parameter k before b)
  parameter-in k before (P.Type keyword name initial) low high rs h a = type-parameter k name initial low (suc name) high rs a.0 (omega arith) (let b = a.1 in omega arith) a.2
  parameter-in k IsType (P.Value of d) low high rs h a =
      let s = split (type_tokens of) (declarator_tokens d) low high h a in
      either-parameter k (is_unwritten of) of d low s.between high rs s.from s.to s.before s.behind
  parameter-in k (IsValue t) (P.Value of d) low high rs h a =
      let s = split (type_tokens of) (declarator_tokens d) low high h a in
      value-parameter k t of d low s.between high rs s.from s.to s.before s.behind

  parameters-behind : (k : Context) (bs : List ParameterBody) (low high : ℕ) → RoutinesInOrder k → ((j : Context) (kind : Kind) → RoutinesInOrder j → InText j low high (parameters j kind bs))
      → (o : Option Parameter) → InText k low high (parameters (declared_if k o) (kind_if o) bs)
  parameters-behind k bs low high rs rest None = rest k (IsValue (OfValue None)) rs
  parameters-behind k bs low high rs rest (Some p) = rest (behind k p.declared) p.kind rs

  pub parameters-in : (k : Context) (before : Kind) (bs : List ParameterBody) (low high : ℕ) → RoutinesInOrder k → low ≤ high → Ascend low high (parameters_tokens bs)
      → InText k low high (parameters k before bs)
  parameters-in k before [] low high rs h a = λ fs. tt
  parameters-in k before (b ∷ bs) low high rs h a =
      let s = split (parameter_tokens b) (parameters_tokens bs) low high h a in
      as-both-any k.source.instance (λ p. Unit {0}) (λ d. Unit {0}) (λ d. Unit {0}) (parameter k before b) (λ o. parameters (declared_if k o) (kind_if o) bs) (λ p d. whole (and_then p.declared d))
      low s.between high s.from s.to (parameter-in k before b low s.between rs s.from s.before)
      (λ o u. parameters-behind k bs s.between high rs (λ j kind js. parameters-in j kind bs s.between high js s.to s.behind) o) (λ p d u v fs. tt)
