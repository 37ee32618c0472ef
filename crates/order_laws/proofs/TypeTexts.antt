-- Types as they are written keep the order of the text: words, structs and unions, enums, and names.
use Rattle.std.proofs.Common.{ℕ, suc, ◌≤◌, ◌<◌, ◌++◌, ◌&&◌, Bool, true, false, ℤ, List, [], ◌∷◌, map, Option, Some, None, cond, sym, subst, arith}
use Rattle.std.specs.Prelude.{int_le, is_some, not, ◌==◌, Ok, Err}
use Rattle.sv_tree.specs.Extents.{qualified_first}
use Rattle.sv_tree.specs.declared.declarations.Initializer.{Initializer}
use Rattle.sv_tree.specs.declared.expressions.Dimension.{Dimension}
use Rattle.sv_tree.specs.declared.expressions.Expr.{Expr}
use Rattle.sv_tree.specs.declared.names.QualifiedName.{QualifiedName}
use Rattle.sv_tree.specs.declared.types.Aggregate.{Aggregate}
use Rattle.sv_tree.specs.declared.types.Aggregate.TheVariants as A
use Rattle.sv_tree.specs.declared.types.DimensionedName.{DimensionedName}
use Rattle.sv_tree.specs.declared.types.EnumBase.{EnumBase}
use Rattle.sv_tree.specs.declared.types.EnumBase.TheVariants as B
use Rattle.sv_tree.specs.declared.types.EnumName as W
use Rattle.sv_tree.specs.declared.types.Member.{Member, Member-F, fold-Member, roll-Member, map-Member, fold-roll-Member}
use Rattle.sv_tree.specs.declared.types.Packing.{Packing}
use Rattle.sv_tree.specs.declared.types.TypeText.{TypeText, TypeText-F, roll-TypeText, map-TypeText, ind-TypeText, fold-roll-TypeText}
use Rattle.sv_types.specs.declared.statement.Function.{Function}
use Rattle.sv_types.specs.declared.types.SvType.{SvType}
use Rattle.sv_types.specs.Layouts.{width_of}
use Rattle.expr_type.specs.declared.operand.Valued.{Valued}
use Rattle.expr_type.specs.Breaks.{Quiet}
use Rattle.expr_type.specs.Typings.{Checked, Typing, all, both_by, broken, by_functions, checked, refused, rule, whole}
use Rattle.expr_type.specs.Shapes.{is_unpacked}
use Rattle.expr_type.specs.Uses.{names_any}
use Rattle.expr_type.specs.Names.{Context, Source, position, thing, with_values}
use Rattle.expr_type.specs.Operands.{constant_in, has_bits, in_range, is_constant, is_constant_value, is_number_in, number_of, number_or}
use Rattle.expr_type.specs.Operators.{not_too_long}
use Rattle.expr_type.specs.KeywordTypes.{Dim, implicit_type, keyword_type, unpacked}
use Rattle.expr_type.specs.Forms.{dimensioned, type_of_thing, under}
use Rattle.expr_type.specs.Expressions.{meaning, operand}
use Rattle.expr_type.specs.Types as T
use Rattle.expr_type.specs.Types.{TypeFound, only, dims, found_type, named_with, base_type, NameValue, is_packed_value, is_name_number, least_value, most_value, next_value, written_value, is_taken, name_value, goes_on_from, name_behind, unwritten, last_number, name_values, enum_found, Field, Fields, field, FieldsMeaning, TypeMeaning, names_behind, all_fields, first_width, same_widths, aggregate, typed_text}
use Rattle.expr_type.specs.Placed.{Ascend, OperandStands, RoutinesInOrder, Stands}
use Rattle.expr_type.proofs.Ordering.{place}
use Rattle.order_laws.specs.Meanings.{DimsIf, DimsStand, DimsTyping, ExprInOrder}
use Rattle.order_laws.specs.Ordered as O
use Rattle.order_laws.specs.Ordered.{Tokens, in_row, base_tokens, dims_tokens, enum_name_tokens, enum_names_tokens, expr_tokens, field_tokens, fields_tokens, initial_tokens, member_tokens, name_tokens, type_tokens}
use Rattle.order_laws.proofs.Tokens.{split}
use Rattle.order_laws.proofs.Typings.{PlacedAs, TypedAs, Each, any-from, as-all, as-both-any, as-both, as-checked, as-refused, as-then, as-wider}
use Rattle.order_laws.proofs.Parts.{Ordered, each-in-row, each-known, each-of, named}
use Rattle.order_laws.proofs.Given.{constant-as, constant-value, operand-typing}
use Rattle.order_laws.proofs.Declared.{InText, KeepsOrder, long-in}

-- dimensions
dims-wider : (ds : List Dim) (low high low' high' : ℕ) → low' ≤ low → high ≤ high' → DimsStand low high ds → DimsStand low' high' ds
dims-wider [] low high low' high' h m s = tt
dims-wider (d ∷ ds) low high low' high' h m s = let a = s.0 in let b = s.1 in (omega arith, omega arith)

under-in : (k : Source) (t : SvType) (ds : List Dim) (low high : ℕ) → DimsStand low high ds → PlacedAs (λ t. Unit {0}) k.instance low high (under k t ds)
under-in k t [] low high s = tt
under-in k t (d ∷ ds) low high s = as-refused k.instance (λ t. Unit {0}) (is_unpacked t) (position k d.opening) 404 _ low high (place k d.opening low high s.0 s.1) tt

dimensioned-in : (k : Context) (t : SvType) (ds : List Dim) (low high : ℕ) → DimsStand low high ds → InText k low high (dimensioned k.source t (whole ds))
dimensioned-in k t ds low high s = λ fs. under-in k.source t ds low high s

-- fields by their names
abbrev FieldAt : ℕ → ℕ → Field → Type 0
FieldAt low high f = (low ≤ f.at) × (f.at < high)

abbrev FieldsStand : ℕ → ℕ → List Field → Type 0
FieldsStand low high [] = Unit {0}
FieldsStand low high (f ∷ fs) = FieldAt low high f × FieldsStand low high fs

fields-wider : (fs : List Field) (low high low' high' : ℕ) → low' ≤ low → high ≤ high' → FieldsStand low high fs → FieldsStand low' high' fs
fields-wider [] low high low' high' h m s = tt
fields-wider (f ∷ fs) low high low' high' h m s = let a = s.0.0 in let b = s.0.1 in ((omega arith, omega arith), fields-wider fs low high low' high' h m s.1)

fields-joined : (fs gs : List Field) (low high : ℕ) → FieldsStand low high fs → FieldsStand low high gs → FieldsStand low high (fs ++ gs)
fields-joined [] gs low high s t = t
fields-joined (f ∷ fs) gs low high s t = (s.0, fields-joined fs gs low high s.1 t)

all-stand : (fs : List Field) (low high : ℕ) → Each FieldAt low high fs → FieldsStand low high fs
all-stand [] low high p = tt
all-stand (f ∷ fs) low high p =
    let h = p.1 in let m = p.2 in let a = p.3.0 in let b = p.3.1 in
    ((a, omega arith), fields-wider fs p.0 high low high h (omega arith) (all-stand fs p.0 high p.4))

widths-in : (k : Source) (w : ℕ) (fs : List Field) (other : Checked SvType) (low high : ℕ) → FieldsStand low high fs → PlacedAs (λ t. Unit {0}) k.instance low high other
    → PlacedAs (λ t. Unit {0}) k.instance low high (same_widths k w fs other)
widths-in k w [] other low high s p = p
widths-in k w (f ∷ fs) other low high s p =
    as-refused k.instance (λ t. Unit {0}) (not (width_of f.of == w)) (position k f.at) 506 (same_widths k w fs other) low high (place k f.at low high s.0.0 s.0.1) (widths-in k w fs other low high s.1 p)

aggregate-in : (k : Source) (a : Aggregate) (p : Option Packing) (fs : List Field) (low high : ℕ) → FieldsStand low high fs → PlacedAs (λ t. Unit {0}) k.instance low high (aggregate k a p fs)
aggregate-in k (A.Struct at) p fs low high s = tt
aggregate-in k (A.Union at) p fs low high s = widths-in k (first_width fs) fs (Ok _) low high s tt

abbrev pub FieldsInOrder : ℕ → ℕ → FieldsMeaning → Type 0
FieldsInOrder low high m = (k : Context) → RoutinesInOrder k → (inside : Bool) → TypedAs (λ f. FieldsStand low high f.fields) k.source.instance low high (m k inside)

fields-behind : (k : Context) (inside : Bool) (ms : List FieldsMeaning) (low high : ℕ) → RoutinesInOrder k
    → ((j : Context) → RoutinesInOrder j → TypedAs (λ f. FieldsStand low high f.fields) j.source.instance low high (all_fields j inside ms)) → (o : Option Fields)
    → TypedAs (λ f. FieldsStand low high f.fields) k.source.instance low high (all_fields (names_behind k o) inside ms)
fields-behind k inside ms low high rs rest None = rest k rs
fields-behind k inside ms low high rs rest (Some f) = rest (with_values f.names k) rs

all-fields : (k : Context) (inside : Bool) (ms : List FieldsMeaning) (low high : ℕ) → RoutinesInOrder k → Each FieldsInOrder low high ms
    → TypedAs (λ f. FieldsStand low high f.fields) k.source.instance low high (all_fields k inside ms)
all-fields k inside [] low high rs p = λ fs. tt
all-fields k inside (m ∷ ms) low high rs p =
    let h = p.1 in let n = p.2 in
    as-both-any k.source.instance (λ f. FieldsStand low p.0 f.fields) (λ g. FieldsStand p.0 high g.fields) (λ f. FieldsStand low high f.fields) (m k inside)
    (λ o. all_fields (names_behind k o) inside ms) (λ f g. whole (record { fields = f.fields ++ g.fields; names = g.names ++ f.names })) low p.0 high h n (p.3 k rs inside)
    (λ o u. fields-behind k inside ms p.0 high rs (λ j js. all-fields j inside ms p.0 high js p.4) o)
    (λ f g s t fs. fields-joined f.fields g.fields low high (fields-wider f.fields low p.0 low high (omega arith) n s) (fields-wider g.fields p.0 high low high h (omega arith) t))

-- the definitions' own names for what stands behind a part
abbrev behind_of : Context → Option TypeFound → Context
behind_of k None = k
behind_of k (Some f) = with_values f.names k

abbrev values_by : Context → Option SvType → List W.EnumName → Typing (List NameValue)
values_by k None ns = broken Quiet
values_by k (Some b) ns = name_values k b false [] None ns

abbrev field_by : Context → Bool → Option TypeFound → DimensionedName → Typing Field
field_by k inside None n = checked (dims k n.unpacked) (λ ds. broken Quiet)
field_by k inside (Some f) n = field (with_values f.names k) inside f.of n

-- values of enum names
number-in : (k : Source) (first : ℕ) (o : Option ℤ) (low high : ℕ) → low ≤ first → first < high → PlacedAs (λ n. Unit {0}) k.instance low high (number_or k first o)
number-in k first None low high h m = place k first low high h m
number-in k first (Some n) low high h m = tt

name-number : (k : Source) (from to : ℤ) (v : Valued) (fs : List Function) (low high : ℕ) → Stands low high v → PlacedAs (λ n. Unit {0}) k.instance low high (is_name_number k from to v fs)
name-number k from to v fs low high s =
    let at = place k v.first low high s.from s.before in
    as-then k.instance (Stands low high) (λ n. Unit {0}) (is_packed_value k v) (λ u. is_number_in k from to u fs) low high
    (as-refused k.instance (Stands low high) (is_unpacked v.expr.of && not (names_any v.expr)) (position k v.first) 501 (Ok v) low high at s)
    (λ u t. as-then k.instance (Stands low high) (λ n. Unit {0}) (is_constant k u.first fs u.expr (has_bits k u)) (λ w. number_or k w.first (in_range from to (number_of fs w.expr))) low high
    (constant-as k low high (Stands low high) u.first fs u.expr (has_bits k u) t.from t.before
    (as-refused k.instance (Stands low high) (is_unpacked u.expr.of) (position k u.first) 508 (Ok u) low high (place k u.first low high t.from t.before) t))
    (λ w x. number-in k w.first (in_range from to (number_of fs w.expr)) low high x.from x.before))

values-behind : (k : Context) (base : SvType) (before : List NameValue) (ns : List W.EnumName) (low high : ℕ) → RoutinesInOrder k
    → ((j : Context) (lost : Bool) (vs : List NameValue) (last : Option ℤ) → RoutinesInOrder j → InText j low high (name_values j base lost vs last ns)) → (o : Option NameValue)
    → InText k low high (name_values (name_behind k base o) base (not (is_some o)) (goes_on_from o before) (last_number o) ns)
values-behind k base before ns low high rs rest None = rest k true before None rs
values-behind k base before ns low high rs rest (Some v) = rest (name_behind k base (Some v)) false (before ++ v ∷ []) (Some v.number) rs

module _
    (exprs : (e : Expr) → Ordered expr_tokens (λ low high e. ExprInOrder low high (meaning e)) e)
    (dimensions : (ds : List Dimension) → Ordered dims_tokens (λ low high ds. (k : Context) → RoutinesInOrder k → DimsTyping k.source.instance low high (dims k ds)) ds) where
  dims-stand : (k : Context) (ds : List Dimension) (low high : ℕ) → RoutinesInOrder k → low ≤ high → Ascend low high (dims_tokens ds)
      → TypedAs (DimsStand low high) k.source.instance low high (dims k ds)
  dims-stand k ds low high rs h a fs = by (dims k ds fs).result (dimensions ds low high h a k rs fs)
    where
      by : (x : Checked (List Dim)) → DimsIf k.source.instance low high x → PlacedAs (DimsStand low high) k.source.instance low high x
      by (Ok d) s = s
      by (Err b) s = s

  behind-dims : (k : Context) (ds : List Dimension) (low high : ℕ) → RoutinesInOrder k → low ≤ high → Ascend low high (dims_tokens ds) → (o : Option TypeFound)
      → TypedAs (DimsStand low high) k.source.instance low high (dims (behind_of k o) ds)
  behind-dims k ds low high rs h a None = dims-stand k ds low high rs h a
  behind-dims k ds low high rs h a (Some f) = dims-stand (with_values f.names k) ds low high rs h a

  -- a type with dimensions behind it
  found-in : (k : Context) (x : Typing TypeFound) (ds : List Dimension) (low between high : ℕ) → RoutinesInOrder k → low ≤ between → between ≤ high → InText k low between x
      → Ascend between high (dims_tokens ds)
      → InText k low high (both_by x (λ o. dims (behind_of k o) ds) (λ f d. checked (dimensioned k.source f.of (whole d)) (λ t. whole (record f { of = t }))))
  found-in k x ds low between high rs h m p a =
      as-both-any k.source.instance (λ f. Unit {0}) (DimsStand between high) (λ f. Unit {0}) x (λ o. dims (behind_of k o) ds)
      (λ f d. checked (dimensioned k.source f.of (whole d)) (λ t. whole (record f { of = t }))) low between high h m p (λ o u. behind-dims k ds between high rs m a o)
      (λ f d u s. as-checked k.source.instance (λ t. Unit {0}) (λ f. Unit {0}) (dimensioned k.source f.of (whole d)) (λ t. whole (record f { of = t })) low high
      (dimensioned-in k f.of d low high (dims-wider d between high low high h (omega arith) s)) (λ t v fs. tt))

  named-in : (k : Context) (of : QualifiedName) (ds : List Dimension) (low high : ℕ) → RoutinesInOrder k → Ascend low high (name_tokens of ++ dims_tokens ds) → InText k low high (named_with k of ds)
  named-in k of ds low high rs a =
      let n = named of (dims_tokens ds) low high a in
      let from = n.from in let before = n.before in
      as-both k.source.instance (λ t. Unit {0}) (DimsStand (suc of.name) high) (λ t. Unit {0}) (found_type (type_of_thing (thing k of))) (dims k ds) (λ t d. dimensioned k.source t (whole d))
      low (suc of.name) high (omega arith) (omega arith) (λ fs. found (type_of_thing (thing k of)) fs) (dims-stand k ds (suc of.name) high rs (omega arith) n.behind)
      (λ t d u s. dimensioned-in k t d low high (dims-wider d (suc of.name) high low high (omega arith) (omega arith) s))
    where
      found : (o : Option SvType) → InText k low (suc of.name) (found_type o)
      found None = λ fs. tt
      found (Some t) = λ fs. tt

  -- members of structs and unions
  field-in : (k : Context) (inside : Bool) (o : Option TypeFound) → RoutinesInOrder k → (n : DimensionedName) → Ordered field_tokens (λ low high n. TypedAs (FieldAt low high) k.source.instance low high (field_by k inside o n)) n
  field-in k inside None rs n low high h a =
      let from = a.0 in let before = a.1 in
      as-checked k.source.instance (λ ds. Unit {0}) (FieldAt low high) (dims k n.unpacked) (λ ds. broken Quiet) low high
      (any-from k.source.instance (DimsStand (suc n.name) high) (dims k n.unpacked) (suc n.name) high low high (omega arith) (omega arith) (dims-stand k n.unpacked (suc n.name) high rs (omega arith) a.2))
      (λ ds u fs. tt)
  field-in k inside (Some f) rs n low high h a =
      let from = a.0 in let before = a.1 in
      let j = with_values f.names k in
      as-checked k.source.instance (λ ds. Unit {0}) (FieldAt low high) (dims j n.unpacked)
      (λ ds. rule (refused (inside && is_unpacked (unpacked ds f.of)) (position k.source n.name) 404 (Ok (record { at = n.name; of = unpacked ds f.of })))) low high
      (any-from k.source.instance (DimsStand (suc n.name) high) (dims j n.unpacked) (suc n.name) high low high (omega arith) (omega arith) (dims-stand j n.unpacked (suc n.name) high rs (omega arith) a.2))
      (λ ds u fs. as-refused k.source.instance (FieldAt low high) (inside && is_unpacked (unpacked ds f.of)) (position k.source n.name) 404 (Ok (record { at = n.name; of = unpacked ds f.of })) low high
      (place k.source n.name low high from before) (from, before))

  fields-in : (k : Context) (inside : Bool) (o : Option TypeFound) (ns : List DimensionedName) (low high : ℕ) → RoutinesInOrder k → low ≤ high → Ascend low high (fields_tokens ns)
      → TypedAs (Each FieldAt low high) k.source.instance low high (all (map (field_by k inside o) ns))
  fields-in k inside o ns low high rs h a =
      as-all k.source.instance FieldAt (map (field_by k inside o) ns) low high
      (each-of (field_by k inside o) (λ l h n. TypedAs (FieldAt l h) k.source.instance l h (field_by k inside o n)) (λ l h x. TypedAs (FieldAt l h) k.source.instance l h x) (λ l h n p. p) ns low high
      (each-in-row field_tokens (λ l h n. TypedAs (FieldAt l h) k.source.instance l h (field_by k inside o n)) (field-in k inside o rs) ns low high h a))

  member-in-order : (of : TypeMeaning) (ns : List DimensionedName) (semicolon low between high : ℕ) → low ≤ between → between ≤ high → KeepsOrder low between of → Ascend between high (fields_tokens ns)
      → FieldsInOrder low high (T.member_step (record { of = of; names = ns; semicolon = semicolon }))
  member-in-order of ns semicolon low between high h m p a k rs inside =
      as-both-any k.source.instance (λ f. Unit {0}) (Each FieldAt between high) (λ f. FieldsStand low high f.fields) (of k) (λ o. all (map (field_by k inside o) ns))
      (λ f fs. whole (record { fields = fs; names = f.names })) low between high h m (p k rs) (λ o u. fields-in k inside o ns between high rs m a)
      (λ f fs u s gs. fields-wider fs between high low high h (omega arith) (all-stand fs between high s))

  struct-in : (a : Aggregate) (packing : Option Packing) (opening : ℕ) (ms : List FieldsMeaning) (closing : ℕ) (ds : List Dimension) (low between high : ℕ) → low ≤ between → between ≤ high
      → Each FieldsInOrder low between ms → Ascend between high (dims_tokens ds) → KeepsOrder low high (T.type_step (TypeText-F.Structure a packing opening ms closing ds))
  struct-in a packing opening ms closing ds low between high h m p b k rs =
      found-in k (checked (all_fields k (is_some packing) ms) (λ f. checked (rule (aggregate k.source a packing f.fields)) (λ t. whole (record { of = t; names = f.names })))) ds low between high rs h m
      (as-checked k.source.instance (λ f. FieldsStand low between f.fields) (λ f. Unit {0}) (all_fields k (is_some packing) ms)
      (λ f. checked (rule (aggregate k.source a packing f.fields)) (λ t. whole (record { of = t; names = f.names }))) low between (all-fields k (is_some packing) ms low between rs p)
      (λ f s. as-checked k.source.instance (λ t. Unit {0}) (λ f. Unit {0}) (rule (aggregate k.source a packing f.fields)) (λ t. whole (record { of = t; names = f.names })) low between
      (λ fs. aggregate-in k.source a packing f.fields low between s) (λ t u fs. tt)))
      b

  -- enums
  base-in : (k : Context) (base : Option EnumBase) (low high : ℕ) → RoutinesInOrder k → low ≤ high → Ascend low high (base_tokens base) → InText k low high (base_type k base)
  base-in k None low high rs h a = λ fs. tt
  base-in k (Some (B.Keyword of ds)) low high rs h a =
      as-checked k.source.instance (DimsStand low high) (λ t. Unit {0}) (dims k ds) (λ d. whole (keyword_type of d)) low high (dims-stand k ds low high rs h a) (λ d s fs. tt)
  base-in k (Some (B.Named of ds)) low high rs h a =
      let n = named of (dims_tokens ds) low high a in
      as-checked k.source.instance (λ t. Unit {0}) (λ t. Unit {0}) (named_with k of ds) (λ t. rule (refused (is_unpacked t) (position k.source (qualified_first of)) 404 (Ok t))) low high
      (named-in k of ds low high rs a)
      (λ t u fs. as-refused k.source.instance (λ t. Unit {0}) (is_unpacked t) (position k.source (qualified_first of)) 404 (Ok t) low high
      (place k.source (qualified_first of) low high n.begins n.ends) tt)

  value-written : (k : Context) (base : SvType) (at : ℕ) (before : Option ℤ) (o : Option Initializer) (low high : ℕ) → RoutinesInOrder k → low ≤ at → at < high → Ascend (suc at) high (initial_tokens o)
      → InText k low high (written_value k base at before o)
  value-written k base at before None low high rs h m a =
      λ fs. as-refused k.source.instance (λ n. Unit {0}) (not (int_le (least_value base) (next_value before) && int_le (next_value before) (most_value base))) (position k.source at) 411 (Ok (next_value before)) low high
      (place k.source at low high h m) tt
  value-written k base at before (Some i) low high rs h m a =
      as-checked k.source.instance (Stands (suc at) high) (λ n. Unit {0}) (constant_in k.source (operand k i.value))
      (λ v. checked (by_functions (is_name_number k.source (least_value base) (most_value base) v)) (λ n. whole n.number)) low high
      (λ fs. as-wider k.source.instance (Stands (suc at) high) (Stands (suc at) high) (constant_in k.source (operand k i.value) fs).result (suc at) high low high (omega arith) (omega arith) (λ v s. s)
      (as-checked k.source.instance (OperandStands k.source.instance (suc at) high) (Stands (suc at) high) (operand k i.value) (λ o. rule (is_constant_value k.source o)) (suc at) high
      (operand-typing k.source (suc at) high (operand k i.value) ((exprs i.value (suc at) high (omega arith) a).typed k rs)) (λ o s gs. constant-value k.source (suc at) high o s) fs))
      (λ v s. as-checked k.source.instance (λ n. Unit {0}) (λ n. Unit {0}) (by_functions (is_name_number k.source (least_value base) (most_value base) v)) (λ n. whole n.number) low high
      (λ fs. as-wider k.source.instance (λ n. Unit {0}) (λ n. Unit {0}) (is_name_number k.source (least_value base) (most_value base) v fs) (suc at) high low high (omega arith) (omega arith) (λ n u. tt)
      (name-number k.source (least_value base) (most_value base) v fs (suc at) high s)) (λ n u fs. tt))

  value-of-name : (k : Context) (base : SvType) (before : List NameValue) (last : Option ℤ) (n : W.EnumName) (low high : ℕ) → RoutinesInOrder k → Ascend low high (enum_name_tokens n)
      → InText k low high (name_value k base before last n)
  value-of-name k base before last n low high rs a =
      as-checked k.source.instance (λ m. Unit {0}) (λ v. Unit {0}) (written_value k base n.name last n.value)
      (λ m. rule (refused (is_taken before m) (position k.source n.name) 509 (not_too_long k.source n.name (width_of base) (Ok (record { at = n.name; number = m }))))) low high
      (value-written k base n.name last n.value low high rs a.0 a.1 a.2)
      (λ m u fs. as-refused k.source.instance (λ v. Unit {0}) (is_taken before m) (position k.source n.name) 509 _ low high (place k.source n.name low high a.0 a.1)
      (long-in k n.name (width_of base) low high (record { at = n.name; number = m }) a.0 a.1))

  either-value : (k : Context) (b : Bool) (base : SvType) (before : List NameValue) (last : Option ℤ) (n : W.EnumName) (low high : ℕ) → RoutinesInOrder k → Ascend low high (enum_name_tokens n)
      → InText k low high (cond b (broken Quiet) (name_value k base before last n))
  either-value k true base before last n low high rs a = λ fs. tt
  either-value k false base before last n low high rs a = value-of-name k base before last n low high rs a

  names-in : (k : Context) (base : SvType) (lost : Bool) (before : List NameValue) (last : Option ℤ) (ns : List W.EnumName) (low high : ℕ) → RoutinesInOrder k → low ≤ high → Ascend low high (enum_names_tokens ns)
      → InText k low high (name_values k base lost before last ns)
  names-in k base lost before last [] low high rs h a = λ fs. tt
  names-in k base lost before last (n ∷ ns) low high rs h a =
      let s = split (enum_name_tokens n) (enum_names_tokens ns) low high h a in
      as-both-any k.source.instance (λ v. Unit {0}) (λ vs. Unit {0}) (λ vs. Unit {0}) (cond (lost && unwritten n.value) (broken Quiet) (name_value k base before last n))
      (λ o. name_values (name_behind k base o) base (not (is_some o)) (goes_on_from o before) (last_number o) ns) (λ v vs. whole (v ∷ vs)) low s.between high s.from s.to
      (either-value k (lost && unwritten n.value) base before last n low s.between rs s.before)
      (λ o u. values-behind k base before ns s.between high rs (λ j l vs z js. names-in j base l vs z ns s.between high js s.to s.behind) o) (λ v vs t u fs. tt)

  values-in : (k : Context) (o : Option SvType) (ns : List W.EnumName) (low high : ℕ) → RoutinesInOrder k → low ≤ high → Ascend low high (enum_names_tokens ns) → InText k low high (values_by k o ns)
  values-in k None ns low high rs h a = λ fs. tt
  values-in k (Some b) ns low high rs h a = names-in k b false [] None ns low high rs h a

  enum-in : (keyword : ℕ) (base : Option EnumBase) (opening : ℕ) (names : List W.EnumName) (closing : ℕ) (ds : List Dimension) (low high : ℕ) → low ≤ high
      → Ascend low high (base_tokens base ++ (enum_names_tokens names ++ dims_tokens ds)) → KeepsOrder low high (T.type_step (TypeText-F.Enumeration keyword base opening names closing ds))
  enum-in keyword base opening names closing ds low high h a k rs =
      let s = split (base_tokens base) (enum_names_tokens names ++ dims_tokens ds) low high h a in
      let r = split (enum_names_tokens names) (dims_tokens ds) s.between high s.to s.behind in
      let from = s.from in let more = r.from in
      found-in k (both_by (base_type k base) (λ o. values_by k o names) (λ b vs. whole (enum_found k keyword b vs))) ds low r.between high rs (omega arith) r.to
      (as-both-any k.source.instance (λ b. Unit {0}) (λ vs. Unit {0}) (λ f. Unit {0}) (base_type k base) (λ o. values_by k o names) (λ b vs. whole (enum_found k keyword b vs)) low s.between r.between from more
      (base-in k base low s.between rs from s.before) (λ o u. values-in k o names s.between r.between rs more r.before) (λ b vs t u fs. tt))
      r.behind

  -- every type
  abbrev OfType : TypeText → Type 0
  OfType x = Ordered type_tokens (λ low high x. KeepsOrder low high (typed_text x)) x

  abbrev fields_meaning : Member → FieldsMeaning
  fields_meaning = fold-Member TypeMeaning FieldsMeaning T.type_step T.member_step

  abbrev OfMember : Member → Type 0
  OfMember x = Ordered member_tokens (λ low high x. FieldsInOrder low high (fields_meaning x)) x

  abbrev AType : Type 0
  AType = (x : TypeText) × OfType x

  abbrev AMember : Type 0
  AMember = (x : Member) × OfMember x

  members : (ys : List AMember) (low high : ℕ) → low ≤ high → Ascend low high (in_row (map member_tokens (map (λ e. e.0) ys))) → Each FieldsInOrder low high (map fields_meaning (map (λ e. e.0) ys))
  members ys low high h a =
      each-of fields_meaning (λ l h x. FieldsInOrder l h (fields_meaning x)) FieldsInOrder (λ l h x p. p) (map (λ e. e.0) ys) low high
      (each-known member_tokens (λ l h x. FieldsInOrder l h (fields_meaning x)) ys low high h a)

  abbrev type_in : TypeText-F AType AMember → TypeText-F TypeText Member
  type_in = map-TypeText AType AMember TypeText Member (λ e. e.0) (λ e. e.0)

  type-case : (y : TypeText-F AType AMember) (low high : ℕ) → low ≤ high → Ascend low high (O.type_step (map-TypeText TypeText Member Tokens Tokens type_tokens member_tokens (type_in y)))
      → KeepsOrder low high (T.type_step (map-TypeText TypeText Member TypeMeaning FieldsMeaning typed_text fields_meaning (type_in y)))
  type-case (TypeText-F.Keyword of ds) low high h a = λ k rs.
      as-checked k.source.instance (DimsStand low high) (λ f. Unit {0}) (dims k ds) (λ d. whole (only (keyword_type of d))) low high (dims-stand k ds low high rs h a) (λ d s fs. tt)
  type-case (TypeText-F.Structure of packing opening ys closing ds) low high h a =
      let s = split (in_row (map member_tokens (map (λ e. e.0) ys))) (dims_tokens ds) low high h a in
      struct-in of packing opening (map fields_meaning (map (λ e. e.0) ys)) closing ds low s.between high s.from s.to (members ys low s.between s.from s.before) s.behind
  type-case (TypeText-F.Enumeration keyword base opening names closing ds) low high h a = enum-in keyword base opening names closing ds low high h a
  type-case (TypeText-F.Named of ds) low high h a = λ k rs.
      as-checked k.source.instance (λ t. Unit {0}) (λ f. Unit {0}) (named_with k of ds) (λ t. whole (only t)) low high (named-in k of ds low high rs a) (λ t u fs. tt)
  type-case (TypeText-F.Implicit signing ds) low high h a = λ k rs.
      as-checked k.source.instance (DimsStand low high) (λ f. Unit {0}) (dims k ds) (λ d. whole (only (implicit_type signing d))) low high (dims-stand k ds low high rs h a) (λ d s fs. tt)

  type-level : (y : TypeText-F AType AMember) → OfType (roll-TypeText (type_in y))
  type-level y low high h a =
      subst (λ m. KeepsOrder low high m) (sym (fold-roll-TypeText TypeMeaning FieldsMeaning T.type_step T.member_step (type_in y)))
      (type-case y low high h (subst (λ ts. Ascend low high ts) (fold-roll-TypeText Tokens Tokens O.type_step O.member_step (type_in y)) a))

  abbrev member_in : Member-F AType AMember → Member-F TypeText Member
  member_in = map-Member AType AMember TypeText Member (λ e. e.0) (λ e. e.0)

  member-by : (of : AType) (ns : List DimensionedName) (semicolon low high : ℕ) → low ≤ high → Ascend low high (type_tokens of.0 ++ fields_tokens ns)
      → FieldsInOrder low high (T.member_step (record { of = typed_text of.0; names = ns; semicolon = semicolon }))
  member-by of ns semicolon low high h a =
      let s = split (type_tokens of.0) (fields_tokens ns) low high h a in
      member-in-order (typed_text of.0) ns semicolon low s.between high s.from s.to (of.1 low s.between s.from s.before) s.behind

  member-level : (y : Member-F AType AMember) → OfMember (roll-Member (member_in y))
  member-level y low high h a =
      subst (λ m. FieldsInOrder low high m) (sym (fold-roll-Member TypeMeaning FieldsMeaning T.type_step T.member_step (member_in y)))
      (member-by y.of y.names y.semicolon low high h (subst (λ ts. Ascend low high ts) (fold-roll-Member Tokens Tokens O.type_step O.member_step (member_in y)) a))

  pub text-in-order : (t : TypeText) → OfType t
  text-in-order = ind-TypeText OfType OfMember (λ x y is. subst (λ z. OfType (roll-TypeText z)) is (type-level y)) (λ x y is. subst (λ z. OfMember (roll-Member z)) is (member-level y))
