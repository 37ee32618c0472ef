-- Types as they are written, form by form.
use Rattle.std.proofs.Common.{◌≡◌, ℕ, Bool, true, false, ◌&&◌, List, [], ◌∷◌, ◌++◌, map, Option, Some, None, refl, ap, sym, ◌∙◌, subst}
use Rattle.std.specs.Prelude.{is_some, Ok}
use Rattle.sv_tree.specs.declared.expressions.Dimension.{Dimension}
use Rattle.sv_tree.specs.declared.names.QualifiedName.{QualifiedName}
use Rattle.sv_tree.specs.declared.names.Signing.{Signing}
use Rattle.sv_tree.specs.declared.types.Aggregate.{Aggregate}
use Rattle.sv_tree.specs.declared.types.DimensionedName.{DimensionedName}
use Rattle.sv_tree.specs.declared.types.EnumBase.{EnumBase}
use Rattle.sv_tree.specs.declared.types.EnumName as W
use Rattle.sv_tree.specs.declared.types.KeywordType.{KeywordType}
use Rattle.sv_tree.specs.declared.types.Member.{Member, Member-F, fold-Member, roll-Member, map-Member, fold-roll-Member}
use Rattle.sv_tree.specs.declared.types.Packing.{Packing}
use Rattle.sv_tree.specs.declared.types.TypeText.{TypeText, TypeText-F, roll-TypeText, map-TypeText, ind-TypeText, fold-roll-TypeText}
use Rattle.sv_types.specs.declared.statement.Function.{Function}
use Rattle.sv_types.specs.declared.types.SvType.{SvType}
use Rattle.expr_type.specs.Breaks.{Quiet}
use Rattle.expr_type.specs.Typings.{Checked, Typing, whole, broken, rule, checked, both_by, all, refused}
use Rattle.expr_type.specs.Shapes.{is_unpacked}
use Rattle.expr_type.specs.Names.{Context, Source, position, with_values}
use Rattle.expr_type.specs.KeywordTypes.{Dim, keyword_type, implicit_type, unpacked}
use Rattle.expr_type.specs.Forms.{dimensioned}
use Rattle.expr_type.specs.Types as T
use Rattle.expr_type.specs.Types.{TypeFound, only, dims, named_with, base_type, NameValue, name_values, enum_found, Field, Fields, field, FieldsMeaning, TypeMeaning, names_behind, all_fields, aggregate, typed_text}
use Rattle.typing_fits.specs.Types.{is_full}
use Rattle.typing_fits.proofs.Contexts.{refused-then}
use Rattle.typing_fits.proofs.Full.{and-left, and-right}
use Rattle.typing_walks.specs.Keeps.{Kept, Keeps, AllKeep, AllHold, Lasts, Anything, FullType, Surrounded}
use Rattle.typing_walks.specs.Written as Z
use Rattle.typing_walks.specs.WrittenTypes as R
use Rattle.typing_walks.specs.WrittenTypes.{dims_written, base_written, names_written, name_written, type_written}
use Rattle.typing_walks.proofs.Keeping as K
use Rattle.typing_walks.proofs.Knowing as N
use Rattle.typing_walks.proofs.Knowing.{IfKnown}
use Rattle.typing_walks.proofs.Lasting.{full-lasts}
use Rattle.typing_walks.proofs.Operands as O
use Rattle.typing_walks.proofs.Operands.{SomeHold}
use Rattle.typing_walks.proofs.Casts as C
use Rattle.typing_walks.proofs.Types as X
use Rattle.typing_walks.proofs.Types.{SoundFound, AllFull, SoundFields, SomeFields, TypesGive, FieldsGive, full-unpacked, full-implicit, aggregate-full, enum-sound, more-values, Short}

-- what stands behind a part of a type, as the definitions have it
abbrev behind_of : Context → Option TypeFound → Context
behind_of k None = k
behind_of k (Some f) = with_values f.names k

abbrev values_by : Context → Option SvType → List W.EnumName → Typing (List NameValue)
values_by k None ns = broken Quiet
values_by k (Some b) ns = name_values k b false [] None ns

abbrev field_by : Context → Bool → Option TypeFound → DimensionedName → Typing Field
field_by k inside None n = checked (dims k n.unpacked) (λ ds. broken Quiet)
field_by k inside (Some f) n = field (with_values f.names k) inside f.of n

found-lasts : Lasts SoundFound
found-lasts f gs hs e s = record { full = s.full; names = s.names }

some-lasts : Lasts SomeFields
some-lasts f gs hs e s = record { first = s.first; rest = s.rest; is = s.is; sound = record { fields = s.sound.fields; names = s.sound.names } }

abbrev FullField : Field → List Function → Type 0
FullField f gs = is_full f.of ≡ true

field-lasts : Lasts FullField
field-lasts f gs hs e s = s

all-fields : (fs : List Field) (gs : List Function) → AllHold FullField fs gs → AllFull fs
all-fields [] gs s = tt
all-fields (f ∷ fs) gs s = (s.0, all-fields fs gs s.1)

more-fields : (fs hs : List Field) → AllFull fs → AllFull hs → AllFull (fs ++ hs)
more-fields [] hs s t = t
more-fields (f ∷ fs) hs s t = (s.0, more-fields fs hs s.1 t)

abbrev field_ok : Field → Checked Field
field_ok f = Ok f

full-field : (k : Source) (b : Bool) (at : ℕ) (x f : Field) → refused b (position k at) 404 (field_ok x) ≡ Ok f → is_full x.of ≡ true → is_full f.of ≡ true
full-field k b at x f h full = let e = refused-then b (position k at) 404 (field_ok x) f h in let is : x ≡ f = cc in subst (λ y. is_full y.of ≡ true) is full

module _ (Q : List Function → Type 0) where
  -- dimensions behind the names that a type declares
  behind-dims : (b : Option TypeFound → Context) (k : Context) (ds : List Dimension) → b None ≡ k → ((f : TypeFound) → b (Some f) ≡ with_values f.names k) → Surrounded Q k → dims_written ds ≡ true
      → (o : Option TypeFound) (gs : List Function) → Q gs → IfKnown SoundFound o gs → Kept (List Dim) Q Anything gs (dims (b o) ds gs)
  behind-dims b k ds none some r w None gs q s = subst (λ j. Kept (List Dim) Q Anything gs (dims j ds gs)) (sym none) (X.dims-keep Q k ds r w gs q)
  behind-dims b k ds none some r w (Some f) gs q s = subst (λ j. Kept (List Dim) Q Anything gs (dims j ds gs)) (sym (some f)) (X.dims-keep Q (with_values f.names k) ds (X.names-known Q k f.names r s.names) w gs q)

  -- a type with dimensions
  with-dims : (k : Context) (f : TypeFound) (d : List Dim) (gs : List Function) → Q gs → SoundFound f gs → Kept TypeFound Q SoundFound gs (checked (dimensioned k.source f.of (whole d)) (λ t. whole (record f { of = t })) gs)
  with-dims k f d gs q s =
      K.checked-kept Q FullType SoundFound (dimensioned k.source f.of (whole d)) (λ t. whole (record f { of = t })) gs (C.dimensioned-keeps Q k.source f.of (whole d) s.full (K.whole-keeps Q Anything d (λ js. tt)) gs q)
      (λ t js p full. K.whole-kept Q SoundFound (record f { of = t }) js p (record { full = full; names = s.names }))

  found-with : (k : Context) (x : Typing TypeFound) (b : Option TypeFound → Context) (ds : List Dimension) → b None ≡ k → ((f : TypeFound) → b (Some f) ≡ with_values f.names k) → Surrounded Q k → dims_written ds ≡ true → Keeps Q SoundFound x
      → Keeps Q SoundFound (both_by x (λ o. dims (b o) ds) (λ f d. checked (dimensioned k.source f.of (whole d)) (λ t. whole (record f { of = t }))))
  found-with k x b ds none some r w h =
      N.by-keeps Q SoundFound Anything SoundFound x (λ o. dims (b o) ds) (λ f d. checked (dimensioned k.source f.of (whole d)) (λ t. whole (record f { of = t }))) found-lasts h (behind-dims b k ds none some r w)
      (λ f d js q s a. with-dims k f d js q s)

  -- fields
  field-keeps : (k : Context) (inside : Bool) (t : SvType) (n : DimensionedName) → Surrounded Q k → name_written n ≡ true → is_full t ≡ true → Keeps Q FullField (field k inside t n)
  field-keeps k inside t n r w full =
      K.checked-keeps Q Anything FullField (dims k n.unpacked) (λ ds. rule (refused (inside && is_unpacked (unpacked ds t)) (position k.source n.name) 404 (Ok (record { at = n.name; of = unpacked ds t })))) (X.dims-keep Q k n.unpacked r w)
      (λ ds js q a.
      K.rule-kept Q FullField (refused (inside && is_unpacked (unpacked ds t)) (position k.source n.name) 404 (Ok (record { at = n.name; of = unpacked ds t }))) js q
      (λ f h. full-field k.source (inside && is_unpacked (unpacked ds t)) n.name (record { at = n.name; of = unpacked ds t }) f h (full-unpacked ds t full)))

  known-fields : (k : Context) (o : Option Fields) (gs : List Function) → Surrounded Q k → IfKnown SomeFields o gs → Surrounded Q (names_behind k o)
  known-fields k None gs r s = r
  known-fields k (Some f) gs r s = X.names-known Q k f.names r s.sound.names

  all-somes : (k : Context) (inside : Bool) (ms : List FieldsMeaning) → Surrounded Q k → X.AllFieldsGive Q ms → Keeps Q SoundFields (all_fields k inside ms)
  all-somes k inside [] r s = K.whole-keeps Q SoundFields (record { fields = []; names = [] }) (λ gs. record { fields = tt; names = tt })
  all-somes k inside (m ∷ ms) r s =
      N.by-keeps Q SomeFields SoundFields SoundFields (m k inside) (λ o. all_fields (names_behind k o) inside ms) (λ f g. whole (record { fields = f.fields ++ g.fields; names = g.names ++ f.names })) some-lasts (s.0 k inside r)
      (λ o gs q a. all-somes (names_behind k o) inside ms (known-fields k o gs r a) s.1 gs q)
      (λ f g js q a b.
      K.whole-kept Q SoundFields (record { fields = f.fields ++ g.fields; names = g.names ++ f.names }) js q
      (record { fields = more-fields f.fields g.fields a.sound.fields b.fields; names = more-values g.names f.names b.names a.sound.names }))

  pub some-fields : (k : Context) (inside : Bool) (m : FieldsMeaning) (ms : List FieldsMeaning) → Surrounded Q k → X.AllFieldsGive Q (m ∷ ms) → Keeps Q SomeFields (all_fields k inside (m ∷ ms))
  some-fields k inside m ms r s =
      N.by-keeps Q SomeFields SoundFields SomeFields (m k inside) (λ o. all_fields (names_behind k o) inside ms) (λ f g. whole (record { fields = f.fields ++ g.fields; names = g.names ++ f.names })) some-lasts (s.0 k inside r)
      (λ o gs q a. all-somes (names_behind k o) inside ms (known-fields k o gs r a) s.1 gs q)
      (λ f g js q a b.
      K.whole-kept Q SomeFields (record { fields = f.fields ++ g.fields; names = g.names ++ f.names }) js q
      (record {
        first = a.first;
        rest = a.rest ++ g.fields;
        is = ap (λ fs. fs ++ g.fields) a.is;
        sound = record { fields = more-fields f.fields g.fields a.sound.fields b.fields; names = more-values g.names f.names b.names a.sound.names };
      }))

  -- the names of a member, of a type that is known or not
  each-field : (k : Context) (inside : Bool) (t : SvType) (ns : List DimensionedName) → Surrounded Q k → Z.all (map name_written ns) ≡ true → is_full t ≡ true → AllKeep Q FullField (map (field k inside t) ns)
  each-field k inside t [] r w full = tt
  each-field k inside t (n ∷ ns) r w full =
      (field-keeps k inside t n r (and-left (name_written n) (Z.all (map name_written ns)) w) full, each-field k inside t ns r (and-right (name_written n) (Z.all (map name_written ns)) w) full)

  no-field : (k : Context) (n : DimensionedName) → Surrounded Q k → name_written n ≡ true → Keeps Q FullField (checked (dims k n.unpacked) (λ ds. broken Quiet))
  no-field k n r w = K.checked-keeps Q Anything FullField (dims k n.unpacked) (λ ds. broken Quiet) (X.dims-keep Q k n.unpacked r w) (λ ds js q a. K.broken-keeps Q FullField Quiet js q)

  each-none : (k : Context) (ns : List DimensionedName) → Surrounded Q k → Z.all (map name_written ns) ≡ true → AllKeep Q FullField (map (λ (n : DimensionedName). checked (dims k n.unpacked) (λ ds. broken {A = Field} Quiet)) ns)
  each-none k [] r w = tt
  each-none k (n ∷ ns) r w = (no-field k n r (and-left (name_written n) (Z.all (map name_written ns)) w), each-none k ns r (and-right (name_written n) (Z.all (map name_written ns)) w))

  -- a member by what its names are of
  abbrev Nothing_of : Context → DimensionedName → Typing Field
  Nothing_of k m = checked (dims k m.unpacked) (λ ds. broken Quiet)

  each-given : (g : DimensionedName → Typing Field) (h : DimensionedName → Typing Field) (ns : List DimensionedName) → ((m : DimensionedName) → g m ≡ h m) → AllKeep Q FullField (map h ns) → AllKeep Q FullField (map g ns)
  each-given g h [] is s = tt
  each-given g h (n ∷ ns) is s = (subst (λ x. Keeps Q FullField x) (sym (is n)) s.0, each-given g h ns is s.1)

  some-given : (g : DimensionedName → Typing Field) (n : DimensionedName) (ns : List DimensionedName) → AllKeep Q FullField (map g (n ∷ ns)) → Keeps Q (SomeHold Field FullField) (all (map g (n ∷ ns)))
  some-given g n ns s = O.some-keeps Q FullField (g n) (map g ns) field-lasts s.0 s.1

  names-of : (g : Option TypeFound → DimensionedName → Typing Field) (k : Context) (inside : Bool) (n : DimensionedName) (ns : List DimensionedName) → ((m : DimensionedName) → g None m ≡ Nothing_of k m)
      → ((f : TypeFound) (m : DimensionedName) → g (Some f) m ≡ field (with_values f.names k) inside f.of m) → Surrounded Q k → Z.all (map name_written (n ∷ ns)) ≡ true → (o : Option TypeFound) (gs : List Function) → Q gs → IfKnown SoundFound o gs
      → Kept (List Field) Q (SomeHold Field FullField) gs (all (map (g o) (n ∷ ns)) gs)
  names-of g k inside n ns none some r w None gs q s = some-given (g None) n ns (each-given (g None) (Nothing_of k) (n ∷ ns) none (each-none k (n ∷ ns) r w)) gs q
  names-of g k inside n ns none some r w (Some f) gs q s =
      let j = with_values f.names k in
      some-given (g (Some f)) n ns (each-given (g (Some f)) (field j inside f.of) (n ∷ ns) (some f) (each-field j inside f.of (n ∷ ns) (X.names-known Q k f.names r s.names) w s.full)) gs q

  fields-of : (k : Context) (inside : Bool) (x : Typing TypeFound) (g : Option TypeFound → DimensionedName → Typing Field) (n : DimensionedName) (ns : List DimensionedName) → ((m : DimensionedName) → g None m ≡ Nothing_of k m)
      → ((f : TypeFound) (m : DimensionedName) → g (Some f) m ≡ field (with_values f.names k) inside f.of m) → Surrounded Q k → Z.all (map name_written (n ∷ ns)) ≡ true → Keeps Q SoundFound x
      → Keeps Q SomeFields (both_by x (λ o. all (map (g o) (n ∷ ns))) (λ f fs. whole (record { fields = fs; names = f.names })))
  fields-of k inside x g n ns none some r w h =
      N.by-keeps Q SoundFound (SomeHold Field FullField) SomeFields x (λ o. all (map (g o) (n ∷ ns))) (λ f fs. whole (record { fields = fs; names = f.names })) found-lasts h (names-of g k inside n ns none some r w)
      (λ f fs js q s a.
      K.whole-kept Q SomeFields (record { fields = fs; names = f.names }) js q
      (record { first = a.first; rest = a.rest; is = a.is; sound = record { fields = subst AllFull (sym a.is) (a.here, all-fields a.rest js a.behind); names = s.names } }))

  pub member-form : (of : TypeMeaning) (n : DimensionedName) (ns : List DimensionedName) (semicolon : ℕ) → TypesGive Q of → Z.all (map name_written (n ∷ ns)) ≡ true → FieldsGive Q (T.member_step (record { of = of; names = n ∷ ns; semicolon = semicolon }))
  member-form of n ns semicolon s w k inside r = fields-of k inside (of k) (field_by k inside) n ns (λ m. refl) (λ f m. refl) r w (s k r)

  -- types
  pub keyword-form : (of : KeywordType) (ds : List Dimension) → dims_written ds ≡ true → TypesGive Q (T.type_step (TypeText-F.Keyword of ds))
  keyword-form of ds w k r =
      K.checked-keeps Q Anything SoundFound (dims k ds) (λ d. whole (only (keyword_type of d))) (X.dims-keep Q k ds r w) (λ d js q a. K.whole-kept Q SoundFound (only (keyword_type of d)) js q (record { full = C.full-keyword of d; names = tt }))

  pub named-form : (of : QualifiedName) (ds : List Dimension) → dims_written ds ≡ true → TypesGive Q (T.type_step (TypeText-F.Named of ds))
  named-form of ds w k r =
      K.checked-keeps Q FullType SoundFound (named_with k of ds) (λ t. whole (only t)) (X.named-keeps Q k of ds r w) (λ t js q full. K.whole-kept Q SoundFound (only t) js q (record { full = full; names = tt }))

  pub implicit-form : (signing : Option Signing) (ds : List Dimension) → dims_written ds ≡ true → TypesGive Q (T.type_step (TypeText-F.Implicit signing ds))
  implicit-form signing ds w k r =
      K.checked-keeps Q Anything SoundFound (dims k ds) (λ d. whole (only (implicit_type signing d))) (X.dims-keep Q k ds r w)
      (λ d js q a. K.whole-kept Q SoundFound (only (implicit_type signing d)) js q (record { full = full-implicit signing d; names = tt }))

  abbrev struct_in : Context → Aggregate → Option Packing → Fields → Typing TypeFound
  struct_in k a p f = checked (rule (aggregate k.source a p f.fields)) (λ t. whole (record { of = t; names = f.names }))

  full-struct : (k : Context) (a : Aggregate) (p : Option Packing) (f : Fields) (t : SvType) (gs : List Function) → aggregate k.source a p f.fields ≡ Ok t → SomeFields f gs → is_full t ≡ true
  full-struct k a p f t gs h s =
      aggregate-full k.source a p s.first s.rest t (ap (λ fs. aggregate k.source a p fs) (sym s.is) ∙ h) (subst AllFull s.is s.sound.fields)

  pub struct-form : (of : Aggregate) (packing : Option Packing) (opening : ℕ) (m : FieldsMeaning) (ms : List FieldsMeaning) (closing : ℕ) (ds : List Dimension) → X.AllFieldsGive Q (m ∷ ms) → dims_written ds ≡ true
      → TypesGive Q (T.type_step (TypeText-F.Structure of packing opening (m ∷ ms) closing ds))
  struct-form of packing opening m ms closing ds s w k r =
      found-with k (checked (all_fields k (is_some packing) (m ∷ ms)) (struct_in k of packing)) (behind_of k) ds refl (λ f. refl) r w
      (K.checked-keeps Q SomeFields SoundFound (all_fields k (is_some packing) (m ∷ ms)) (struct_in k of packing) (some-fields k (is_some packing) m ms r s)
      (λ f js q a.
      K.checked-kept Q FullType SoundFound (rule (aggregate k.source of packing f.fields)) (λ t. whole (record { of = t; names = f.names })) js
      (K.rule-kept Q FullType (aggregate k.source of packing f.fields) js q (λ t h. full-struct k of packing f t js h a))
      (λ t hs p full. K.whole-kept Q SoundFound (record { of = t; names = f.names }) hs p (record { full = full; names = a.sound.names }))))

  -- enums
  abbrev AllShort : SvType → List NameValue → List Function → Type 0
  AllShort b vs gs = AllHold (Short b) vs gs

  values-of : (g : Option SvType → List W.EnumName → Typing (List NameValue)) (k : Context) (ns : List W.EnumName) → ((xs : List W.EnumName) → g None xs ≡ broken Quiet) → ((b : SvType) (xs : List W.EnumName) → g (Some b) xs ≡ name_values k b false [] None xs)
      → Surrounded Q k → names_written ns ≡ true → (o : Option SvType) (gs : List Function) → Q gs → IfKnown FullType o gs → Kept (List NameValue) Q (N.KnownWith Q AllShort o) gs (g o ns gs)
  values-of g k ns none some r w None gs q s = subst (λ x. Kept (List NameValue) Q (N.KnownWith Q AllShort None) gs (x gs)) (sym (none ns)) (K.broken-keeps Q (N.KnownWith Q AllShort None) Quiet gs q)
  values-of g k ns none some r w (Some b) gs q s = subst (λ x. Kept (List NameValue) Q (N.KnownWith Q AllShort (Some b)) gs (x gs)) (sym (some b ns)) (X.names-keep Q ns k b false [] None r s w gs q)

  enum-of : (g : Option SvType → List W.EnumName → Typing (List NameValue)) (k : Context) (keyword : ℕ) (base : Option EnumBase) (ns : List W.EnumName) → ((xs : List W.EnumName) → g None xs ≡ broken Quiet)
      → ((b : SvType) (xs : List W.EnumName) → g (Some b) xs ≡ name_values k b false [] None xs) → Surrounded Q k → base_written base ≡ true → names_written ns ≡ true
      → Keeps Q SoundFound (both_by (base_type k base) (λ o. g o ns) (λ b vs. whole (enum_found k keyword b vs)))
  enum-of g k keyword base ns none some r v w =
      N.with-keeps Q FullType AllShort SoundFound (base_type k base) (λ o. g o ns) (λ b vs. whole (enum_found k keyword b vs)) full-lasts (X.base-keeps Q k base r v) (values-of g k ns none some r w)
      (λ b vs js q full a. K.whole-kept Q SoundFound (enum_found k keyword b vs) js q (enum-sound k keyword b vs js full a))

  pub enum-form : (keyword : ℕ) (base : Option EnumBase) (opening : ℕ) (names : List W.EnumName) (closing : ℕ) (ds : List Dimension) → base_written base ≡ true → names_written names ≡ true → dims_written ds ≡ true
      → TypesGive Q (T.type_step (TypeText-F.Enumeration keyword base opening names closing ds))
  enum-form keyword base opening names closing ds u v w k r =
      found-with k (both_by (base_type k base) (λ o. values_by k o names) (λ b vs. whole (enum_found k keyword b vs))) (behind_of k) ds refl (λ f. refl) r w
      (enum-of (values_by k) k keyword base names (λ xs. refl) (λ b xs. refl) r u v)

  -- every type
  abbrev OfType : TypeText → Type 0
  OfType x = type_written x ≡ true → TypesGive Q (typed_text x)

  abbrev fields_meaning : Member → FieldsMeaning
  fields_meaning = fold-Member TypeMeaning FieldsMeaning T.type_step T.member_step

  abbrev member_written : Member → Bool
  member_written = fold-Member Bool Bool R.type_step R.member_step

  abbrev OfMember : Member → Type 0
  OfMember x = member_written x ≡ true → FieldsGive Q (fields_meaning x)

  abbrev AType : Type 0
  AType = (x : TypeText) × OfType x

  abbrev AMember : Type 0
  AMember = (x : Member) × OfMember x

  members : (ys : List AMember) → Z.all (map member_written (map (λ e. e.0) ys)) ≡ true → X.AllFieldsGive Q (map fields_meaning (map (λ e. e.0) ys))
  members [] w = tt
  members (y ∷ ys) w = (y.1 (and-left (member_written y.0) (Z.all (map member_written (map (λ e. e.0) ys))) w), members ys (and-right (member_written y.0) (Z.all (map member_written (map (λ e. e.0) ys))) w))

  abbrev type_in : TypeText-F AType AMember → TypeText-F TypeText Member
  type_in = map-TypeText AType AMember TypeText Member (λ e. e.0) (λ e. e.0)

  type-case : (y : TypeText-F AType AMember) → R.type_step (map-TypeText TypeText Member Bool Bool type_written member_written (type_in y)) ≡ true
      → TypesGive Q (T.type_step (map-TypeText TypeText Member TypeMeaning FieldsMeaning typed_text fields_meaning (type_in y)))
  type-case (TypeText-F.Keyword of ds) w = keyword-form of ds w
  type-case (TypeText-F.Structure of packing opening [] closing ds) w = absurd (cc)
  type-case (TypeText-F.Structure of packing opening (y ∷ ys) closing ds) w =
      let these = member_written y.0 && Z.all (map member_written (map (λ e. e.0) ys)) in
      struct-form of packing opening (fields_meaning y.0) (map fields_meaning (map (λ e. e.0) ys)) closing ds (members (y ∷ ys) (and-left these (dims_written ds) w)) (and-right these (dims_written ds) w)
  type-case (TypeText-F.Enumeration keyword base opening names closing ds) w =
      let rest = and-right (base_written base) (names_written names && dims_written ds) w in
      enum-form keyword base opening names closing ds (and-left (base_written base) (names_written names && dims_written ds) w) (and-left (names_written names) (dims_written ds) rest) (and-right (names_written names) (dims_written ds) rest)
  type-case (TypeText-F.Named of ds) w = named-form of ds w
  type-case (TypeText-F.Implicit signing ds) w = implicit-form signing ds w

  type-level : (y : TypeText-F AType AMember) → OfType (roll-TypeText (type_in y))
  type-level y w =
      subst (λ m. TypesGive Q m) (sym (fold-roll-TypeText TypeMeaning FieldsMeaning T.type_step T.member_step (type_in y))) (type-case y (sym (fold-roll-TypeText Bool Bool R.type_step R.member_step (type_in y)) ∙ w))

  abbrev member_in : Member-F AType AMember → Member-F TypeText Member
  member_in = map-Member AType AMember TypeText Member (λ e. e.0) (λ e. e.0)

  member-by : (of : AType) (ns : List DimensionedName) (semicolon : ℕ) → R.member_step (record { of = type_written of.0; names = ns; semicolon = semicolon }) ≡ true
      → FieldsGive Q (T.member_step (record { of = typed_text of.0; names = ns; semicolon = semicolon }))
  member-by of [] semicolon w = absurd (let e = and-right (type_written of.0) false w in cc)
  member-by of (n ∷ ns) semicolon w =
      let these = Z.all (map name_written (n ∷ ns)) in
      member-form (typed_text of.0) n ns semicolon (of.1 (and-left (type_written of.0) these w)) (and-right (type_written of.0) these w)

  member-level : (y : Member-F AType AMember) → OfMember (roll-Member (member_in y))
  member-level y w =
      subst (λ m. FieldsGive Q m) (sym (fold-roll-Member TypeMeaning FieldsMeaning T.type_step T.member_step (member_in y)))
      (member-by y.of y.names y.semicolon (sym (fold-roll-Member Bool Bool R.type_step R.member_step (member_in y)) ∙ w))

  pub type-sound : (x : TypeText) → type_written x ≡ true → TypesGive Q (typed_text x)
  type-sound = ind-TypeText OfType OfMember (λ x y is. subst (λ z. OfType (roll-TypeText z)) is (type-level y)) (λ x y is. subst (λ z. OfMember (roll-Member z)) is (member-level y))
