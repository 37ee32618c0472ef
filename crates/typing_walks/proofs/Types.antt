-- Types of a sound text are full, and so are the names of enums that they declare sound constants.
use Rattle.std.proofs.Common.{◌≡◌, ℕ, ◌≤◌, ℤ, Bool, true, false, ◌&&◌, ◌==◌, cond, not, List, [], ◌∷◌, ◌++◌, length, map, Option, Some, None, refl, ap, sym, ◌∙◌, subst}
use Rattle.std.specs.Prelude.{pos, is_some, Ok}
use Rattle.std.specs.List.{list_all}
use Rattle.b4_core.specs.Vectors.{vec}
use Rattle.sv_tree.specs.Extents.{qualified_first}
use Rattle.sv_tree.specs.declared.declarations.Initializer.{Initializer}
use Rattle.sv_tree.specs.declared.expressions.Dimension.{Dimension}
use Rattle.sv_tree.specs.declared.names.QualifiedName.{QualifiedName}
use Rattle.sv_tree.specs.declared.names.Signing.{Signing}
use Rattle.sv_tree.specs.declared.types.Aggregate.{Aggregate}
use Rattle.sv_tree.specs.declared.types.Aggregate.TheVariants as A
use Rattle.sv_tree.specs.declared.types.EnumBase.{EnumBase}
use Rattle.sv_tree.specs.declared.types.EnumBase.TheVariants as B
use Rattle.sv_tree.specs.declared.types.EnumName as W
use Rattle.sv_tree.specs.declared.types.Packing.{Packing}
use Rattle.sv_types.specs.declared.frame.ParamValue.{ParamValue}
use Rattle.sv_types.specs.declared.statement.Function.{Function}
use Rattle.sv_types.specs.declared.types.EnumName.{EnumName}
use Rattle.sv_types.specs.declared.types.SvType.{SvType}
use Rattle.sv_types.specs.declared.types.SvType.TheVariants as V
use Rattle.sv_types.specs.Layouts.{Layout, width_of}
use Rattle.sv_types.proofs.Lengths.{layout-Enum}
use Rattle.sv_types.proofs.OperatorLengths.{length-vec}
use Rattle.expr_type.specs.Breaks.{Quiet}
use Rattle.expr_type.specs.Typings.{Checked, Typing, whole, broken, rule, by_functions, checked, refused}
use Rattle.expr_type.specs.Shapes.{is_unpacked}
use Rattle.expr_type.specs.Names.{Context, Source, position, thing, with_values}
use Rattle.expr_type.specs.Operands.{constant_in}
use Rattle.expr_type.specs.Operators.{not_too_long}
use Rattle.expr_type.specs.KeywordTypes as D
use Rattle.expr_type.specs.KeywordTypes.{Dim, keyword_type, implicit_type, unpacked}
use Rattle.expr_type.specs.Forms.{dimensioned, type_of_thing}
use Rattle.expr_type.specs.Expressions.{dimension_meaning, operand}
use Rattle.expr_type.specs.Types as T
use Rattle.expr_type.specs.Types.{latest_first, TypeFound, only, dims, found_type, named_with, int_type, base_type, NameValue, written_value, is_taken, name_value, value_in, goes_on_from, name_behind, unwritten, last_number, name_values, enum_name, enum_found, Field, Fields, field, names_behind, all_fields, member, first_width, same_widths, sign_by, aggregate}
use Rattle.typing_fits.specs.Types.{is_full, is_full_member}
use Rattle.typing_fits.specs.Sound.{Sound}
use Rattle.typing_fits.specs.Operands.{SoundConstant, AllValuesSound}
use Rattle.typing_fits.proofs.Contexts.{refused-then}
use Rattle.typing_fits.proofs.Full.{and-left, and-right, full-Scalar, full-PackedArray, full-UnpackedArray, full-Enum, full-Struct, full-Union, full-member, members_full}
use Rattle.typing_fits.proofs.Selects.{long-no}
use Rattle.typing_fits.proofs.Numbers.{value-long}
use Rattle.typing_fits.proofs.Names.{values-behind}
use Rattle.typing_walks.specs.Keeps.{Keeps, AllKeep, AllHold, Lasts, Anything, FullType, Surrounded}
use Rattle.typing_walks.specs.Written.{dimension_written}
use Rattle.typing_walks.specs.WrittenTypes.{dims_written, initial_written, base_written, names_written}
use Rattle.typing_walks.proofs.Keeping as K
use Rattle.typing_walks.proofs.Knowing as N
use Rattle.typing_walks.proofs.Knowing.{IfKnown}
use Rattle.typing_walks.proofs.Lasting.{any-lasts, full-lasts}
use Rattle.typing_walks.proofs.Operands as O
use Rattle.typing_walks.proofs.Casts as C
use Rattle.typing_walks.proofs.Casts.{TypeIf}
use Rattle.typing_walks.proofs.Walk.{expr-sound, dimension-sound}

-- a type with the values of the enum names in it
pub record SoundFound (f : TypeFound) (gs : List Function) : Type 0 where
  pub full : is_full f.of ≡ true
  pub names : AllValuesSound f.names

-- fields of full types
abbrev pub AllFull : List Field → Type 0
AllFull [] = Unit {0}
AllFull (f ∷ fs) = (is_full f.of ≡ true) × AllFull fs

pub record SoundFields (f : Fields) (gs : List Function) : Type 0 where
  pub fields : AllFull f.fields
  pub names : AllValuesSound f.names

-- and of which one is there
pub record SomeFields (f : Fields) (gs : List Function) : Type 0 where
  pub first : Field
  pub rest : List Field
  pub is : f.fields ≡ first ∷ rest
  pub sound : SoundFields f gs

pub full-unpacked : (ds : List Dim) (t : SvType) → is_full t ≡ true → is_full (unpacked ds t) ≡ true
full-unpacked [] t h = h
full-unpacked (d ∷ ds) t h = full-UnpackedArray d.left d.right (unpacked ds t) ∙ full-unpacked ds t h

pub full-implicit : (s : Option Signing) (ds : List Dim) → is_full (implicit_type s ds) ≡ true
full-implicit s ds = C.full-packed (D.signed_by false s) ds (D.plain true None) (λ b. full-Scalar true b)

full-int : is_full int_type ≡ true
full-int = full-PackedArray (pos 31) (pos 0) true (V.Scalar false false) ∙ full-Scalar false false

-- structs and unions
full-fields : (k : Source) (fs : List Field) → AllFull fs → list_all (λ b. b) (map is_full_member (map (member k) fs)) ≡ true
full-fields k [] s = refl
full-fields k (f ∷ fs) s = ap (λ b. b && list_all (λ c. c) (map is_full_member (map (member k) fs))) (full-member (member k f) ∙ s.0) ∙ full-fields k fs s.1

full-members : (k : Source) (f : Field) (fs : List Field) → AllFull (f ∷ fs) → members_full (map (member k) (f ∷ fs)) ≡ true
full-members k f fs s = full-fields k (f ∷ fs) s

abbrev type_ok : SvType → Checked SvType
type_ok t = Ok t

type-is : (a t : SvType) → type_ok a ≡ Ok t → is_full a ≡ true → is_full t ≡ true
type-is a t h full = let is : a ≡ t = cc in subst (λ x. is_full x ≡ true) is full

widths-then : (k : Source) (w : ℕ) (fs : List Field) (a t : SvType) → same_widths k w fs (type_ok a) ≡ Ok t → type_ok a ≡ Ok t
widths-then k w [] a t h = h
widths-then k w (f ∷ fs) a t h = widths-then k w fs a t (refused-then (not (width_of f.of == w)) (position k f.at) 506 (same_widths k w fs (type_ok a)) t h)

pub aggregate-full : (k : Source) (a : Aggregate) (p : Option Packing) (f : Field) (fs : List Field) (t : SvType) → aggregate k a p (f ∷ fs) ≡ Ok t → AllFull (f ∷ fs) → is_full t ≡ true
aggregate-full k (A.Struct at) p f fs t h s =
    type-is (V.Struct at (is_some p) (sign_by p) (map (member k) (f ∷ fs))) t h (full-Struct at (is_some p) (sign_by p) (map (member k) (f ∷ fs)) ∙ full-members k f fs s)
aggregate-full k (A.Union at) p f fs t h s =
    let u = V.Union at (sign_by p) (map (member k) (f ∷ fs)) in
    type-is u t (widths-then k (first_width (f ∷ fs)) (f ∷ fs) u t h) (full-Union at (sign_by p) (map (member k) (f ∷ fs)) ∙ full-members k f fs s)

-- values of enum names
pub more-values : (us vs : List ParamValue) → AllValuesSound us → AllValuesSound vs → AllValuesSound (us ++ vs)
more-values [] vs s r = r
more-values (u ∷ us) vs s r = (s.0, more-values us vs s.1 r)

abbrev pub Short : SvType → NameValue → List Function → Type 0
Short base v gs = width_of base ≤ 4194304

short-value : (k : Context) (t : SvType) (v : NameValue) → is_full t ≡ true → width_of t ≤ 4194304 → SoundConstant (value_in k t v).of (value_in k t v).value
short-value k t v full short = record { of = record { full = full; narrow = short }; long = value-long t (vec (width_of t) v.number) (length-vec (width_of t) v.number) }

enum-width : (id : ℕ) (base : SvType) (names : List EnumName) → width_of (V.Enum id base names) ≡ width_of base
enum-width id base names = ap (λ (l : Layout). length l.two_state) (layout-Enum id base names)

name-values-sound : (k : Context) (t base : SvType) (vs : List NameValue) (gs : List Function) → is_full t ≡ true → width_of t ≡ width_of base → AllHold (Short base) vs gs → AllValuesSound (map (value_in k t) vs)
name-values-sound k t base [] gs full w s = tt
name-values-sound k t base (v ∷ vs) gs full w s = (short-value k t v full (subst (λ n. n ≤ 4194304) (sym w) s.0), name-values-sound k t base vs gs full w s.1)

latest-sound : (vs : List ParamValue) → AllValuesSound vs → AllValuesSound (latest_first vs)
latest-sound [] s = tt
latest-sound (v ∷ vs) s = more-values (latest_first vs) (v ∷ []) (latest-sound vs s.1) (s.0, tt)

pub enum-sound : (k : Context) (at : ℕ) (base : SvType) (vs : List NameValue) (gs : List Function) → is_full base ≡ true → AllHold (Short base) vs gs → SoundFound (enum_found k at base vs) gs
enum-sound k at base vs gs full s =
    let ns = map (enum_name k.source base) vs in
    let whole_ = full-Enum at base ns ∙ full in
    record { full = whole_; names = latest-sound (map (value_in k (V.Enum at base ns)) vs) (name-values-sound k (V.Enum at base ns) base vs gs whole_ (enum-width at base ns) s) }

module _ (Q : List Function → Type 0) where
  abbrev pub TypesGive : T.TypeMeaning → Type 0
  TypesGive m = (k : Context) → Surrounded Q k → Keeps Q SoundFound (m k)

  abbrev pub FieldsGive : T.FieldsMeaning → Type 0
  FieldsGive m = (k : Context) (inside : Bool) → Surrounded Q k → Keeps Q SomeFields (m k inside)

  abbrev pub AllFieldsGive : List T.FieldsMeaning → Type 0
  AllFieldsGive [] = Unit {0}
  AllFieldsGive (m ∷ ms) = FieldsGive m × AllFieldsGive ms

  -- texts behind more names
  pub names-known : (k : Context) (vs : List ParamValue) → Surrounded Q k → AllValuesSound vs → Surrounded Q (with_values vs k)
  names-known k vs r s = record { context = values-behind vs k s r.context; routines = r.routines }

  forget : {A : Type 0} (P : A → List Function → Type 0) (x : Typing A) → Keeps Q P x → Keeps Q Anything x
  forget P x h gs q = let c = h gs q in record { extends = c.extends; kept = c.kept; sound = λ a e. tt }

  each-dim : (k : Context) (ds : List Dimension) → Surrounded Q k → dims_written ds ≡ true → AllKeep Q Anything (map (λ d. dimension_meaning d k) ds)
  each-dim k [] r w = tt
  each-dim k (d ∷ ds) r w =
      (dimension-sound Q d (and-left (dimension_written d) (dims_written ds) w) k r, each-dim k ds r (and-right (dimension_written d) (dims_written ds) w))

  pub dims-keep : (k : Context) (ds : List Dimension) → Surrounded Q k → dims_written ds ≡ true → Keeps Q Anything (dims k ds)
  dims-keep k ds r w = forget (λ as' gs. AllHold Anything as' gs) (dims k ds) (K.all-keeps Q Anything (map (λ d. dimension_meaning d k) ds) any-lasts (each-dim k ds r w))

  found-keeps : (o : Option SvType) → TypeIf o → Keeps Q FullType (found_type o)
  found-keeps None s = K.broken-keeps Q FullType Quiet
  found-keeps (Some t) s = K.whole-keeps Q FullType t (λ gs. s)

  pub named-keeps : (k : Context) (of : QualifiedName) (ds : List Dimension) → Surrounded Q k → dims_written ds ≡ true → Keeps Q FullType (named_with k of ds)
  named-keeps k of ds r w =
      K.both-keeps Q FullType Anything FullType (found_type (type_of_thing (thing k of))) (dims k ds) (λ t d. dimensioned k.source t (whole d)) full-lasts (found-keeps (type_of_thing (thing k of)) (C.type-named k of r.context)) (dims-keep k ds r w)
      (λ t d js q full a. C.dimensioned-keeps Q k.source t (whole d) full (K.whole-keeps Q Anything d (λ gs. tt)) js q)

  packed-full : (k : Source) (at : ℕ) (t u : SvType) → refused (is_unpacked t) (position k at) 404 (type_ok t) ≡ Ok u → is_full t ≡ true → is_full u ≡ true
  packed-full k at t u h full = type-is t u (refused-then (is_unpacked t) (position k at) 404 (type_ok t) u h) full

  pub base-keeps : (k : Context) (b : Option EnumBase) → Surrounded Q k → base_written b ≡ true → Keeps Q FullType (base_type k b)
  base-keeps k None r w = K.whole-keeps Q FullType int_type (λ gs. full-int)
  base-keeps k (Some (B.Keyword of ds)) r w = K.checked-keeps Q Anything FullType (dims k ds) (λ d. whole (keyword_type of d)) (dims-keep k ds r w) (λ d js q a. K.whole-kept Q FullType (keyword_type of d) js q (C.full-keyword of d))
  base-keeps k (Some (B.Named of ds)) r w =
      K.checked-keeps Q FullType FullType (named_with k of ds) (λ t. rule (refused (is_unpacked t) (position k.source (qualified_first of)) 404 (Ok t))) (named-keeps k of ds r w)
      (λ t js q full. K.rule-kept Q FullType (refused (is_unpacked t) (position k.source (qualified_first of)) 404 (Ok t)) js q (λ u h. packed-full k.source (qualified_first of) t u h full))

  -- names of enums
  value-keeps : (k : Context) (base : SvType) (at : ℕ) (before : Option ℤ) (i : Option Initializer) → Surrounded Q k → initial_written i ≡ true → Keeps Q Anything (written_value k base at before i)
  value-keeps k base at before None r w = K.rule-keeps Q Anything _ (λ gs n h. tt)
  value-keeps k base at before (Some i) r w =
      K.checked-keeps Q Sound Anything (constant_in k.source (operand k i.value))
      (λ v. checked (by_functions (T.is_name_number k.source (T.least_value base) (T.most_value base) v)) (λ n. whole n.number)) (O.constant-keeps Q k.source (operand k i.value) ((expr-sound Q i.value w).typed k r))
      (λ v js q s.
      K.checked-kept Q Anything Anything (by_functions (T.is_name_number k.source (T.least_value base) (T.most_value base) v)) (λ n. whole n.number) js
      (K.rule-kept Q Anything (T.is_name_number k.source (T.least_value base) (T.most_value base) v js) js q (λ n h. tt)) (λ n hs p a. K.whole-kept Q Anything n.number hs p tt))

  name-keeps : (k : Context) (base : SvType) (before : List NameValue) (last : Option ℤ) (n : W.EnumName) → Surrounded Q k → initial_written n.value ≡ true → Keeps Q (Short base) (name_value k base before last n)
  name-keeps k base before last n r w =
      let inner = λ (m : ℤ). not_too_long k.source n.name (width_of base) (Ok (record { at = n.name; number = m })) in
      K.checked-keeps Q Anything (Short base) (written_value k base n.name last n.value) (λ m. rule (refused (is_taken before m) (position k.source n.name) 509 (inner m))) (value-keeps k base n.name last n.value r w)
      (λ m js q a.
      K.rule-kept Q (Short base) (refused (is_taken before m) (position k.source n.name) 509 (inner m)) js q
      (λ v h. long-no k.source n.name (width_of base) (Ok (record { at = n.name; number = m })) v (refused-then (is_taken before m) (position k.source n.name) 509 (inner m) v h)))

  short-lasts : (base : SvType) → Lasts (Short base)
  short-lasts base v gs hs e s = s

  this-name : (k : Context) (base : SvType) (b : Bool) (before : List NameValue) (last : Option ℤ) (n : W.EnumName) → Surrounded Q k → initial_written n.value ≡ true
      → Keeps Q (Short base) (cond b (broken Quiet) (name_value k base before last n))
  this-name k base true before last n r w = K.broken-keeps Q (Short base) Quiet
  this-name k base false before last n r w = name-keeps k base before last n r w

  behind-name : (k : Context) (base : SvType) (o : Option NameValue) (gs : List Function) → Surrounded Q k → is_full base ≡ true → IfKnown (Short base) o gs → Surrounded Q (name_behind k base o)
  behind-name k base None gs r full s = r
  behind-name k base (Some v) gs r full s = names-known k (value_in k base v ∷ []) r (short-value k base v full s, tt)

  pub names-keep : (ns : List W.EnumName) (k : Context) (base : SvType) (lost : Bool) (before : List NameValue) (last : Option ℤ) → Surrounded Q k → is_full base ≡ true → names_written ns ≡ true
      → Keeps Q (λ vs gs. AllHold (Short base) vs gs) (name_values k base lost before last ns)
  names-keep [] k base lost before last r full w = K.whole-keeps Q (λ vs gs. AllHold (Short base) vs gs) [] (λ gs. tt)
  names-keep (n ∷ ns) k base lost before last r full w =
      N.by-keeps Q (Short base) (λ vs gs. AllHold (Short base) vs gs) (λ vs gs. AllHold (Short base) vs gs) (cond (lost && unwritten n.value) (broken Quiet) (name_value k base before last n))
      (λ o. name_values (name_behind k base o) base (not (is_some o)) (goes_on_from o before) (last_number o) ns) (λ v vs. whole (v ∷ vs)) (short-lasts base)
      (this-name k base (lost && unwritten n.value) before last n r (and-left (initial_written n.value) (names_written ns) w))
      (λ o gs q s.
      names-keep ns (name_behind k base o) base (not (is_some o)) (goes_on_from o before) (last_number o) (behind-name k base o gs r full s) full (and-right (initial_written n.value) (names_written ns) w) gs q)
      (λ v vs js q a b. K.whole-kept Q (λ us gs. AllHold (Short base) us gs) (v ∷ vs) js q (a, b))
