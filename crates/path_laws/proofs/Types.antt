-- No enum has an unpacked base in a type of a text.
use Rattle.std.proofs.Common.{◌≡◌, ℕ, Bool, true, false, ◌&&◌, ◌==◌, cond, not, List, [], ◌∷◌, ◌++◌, map, Option, Some, None, refl, ap, sym, ◌∙◌, subst}
use Rattle.std.specs.Prelude.{pos, is_some, Ok}
use Rattle.sv_tree.specs.Extents.{qualified_first}
use Rattle.sv_tree.specs.declared.expressions.Dimension.{Dimension}
use Rattle.sv_tree.specs.declared.names.QualifiedName.{QualifiedName}
use Rattle.sv_tree.specs.declared.names.Signing.{Signing}
use Rattle.sv_tree.specs.declared.types.Aggregate.{Aggregate}
use Rattle.sv_tree.specs.declared.types.Aggregate.TheVariants as A
use Rattle.sv_tree.specs.declared.types.DimensionedName.{DimensionedName}
use Rattle.sv_tree.specs.declared.types.EnumBase.{EnumBase}
use Rattle.sv_tree.specs.declared.types.EnumBase.TheVariants as B
use Rattle.sv_tree.specs.declared.types.EnumName as W
use Rattle.sv_tree.specs.declared.types.KeywordType.{KeywordType}
use Rattle.sv_tree.specs.declared.types.Member.{Member, Member-F, fold-Member, roll-Member, map-Member, fold-roll-Member}
use Rattle.sv_tree.specs.declared.types.Packing.{Packing}
use Rattle.sv_tree.specs.declared.types.TypeText.{TypeText, TypeText-F, roll-TypeText, map-TypeText, ind-TypeText, fold-roll-TypeText}
use Rattle.sv_types.specs.declared.frame.ParamType.{ParamType}
use Rattle.sv_types.specs.declared.frame.ParamValue.{ParamValue}
use Rattle.sv_types.specs.declared.frame.SignalId.{SignalId}
use Rattle.sv_types.specs.declared.types.SvType.{SvType}
use Rattle.sv_types.specs.declared.types.SvType.TheVariants as V
use Rattle.sv_types.specs.Layouts.{width_of}
use Rattle.expr_type.specs.Breaks.{Quiet}
use Rattle.expr_type.specs.Typings.{Checked, Typing, whole, broken, rule, checked, both_by, all, refused}
use Rattle.expr_type.specs.Shapes.{is_unpacked}
use Rattle.expr_type.specs.Names.{Context, LocalId, Source, Thing, Signal, Local, Constant, TypeName, Interface, Other, position, thing, thing_of, found, or_thing, local_in, value_in, type_in, signal_in, is_whole, with_values}
use Rattle.expr_type.specs.KeywordTypes as D
use Rattle.expr_type.specs.KeywordTypes.{Dim, keyword_type, named_type, implicit_type, unpacked}
use Rattle.expr_type.specs.Forms.{under, dimensioned, type_of_thing}
use Rattle.expr_type.specs.Types as T
use Rattle.expr_type.specs.Types.{TypeFound, only, dims, found_type, named_with, int_type, base_type, NameValue, name_values, enum_name, enum_found, Field, Fields, field, FieldsMeaning, TypeMeaning, names_behind, all_fields, member, first_width, same_widths, sign_by, aggregate, typed_text, declared_type}
use Rattle.typing_fits.proofs.Contexts.{refused-no, refused-then}
use Rattle.path_laws.specs.Bases.{Kind, kind, member_kind, all_plain, has_plain_bases}
use Rattle.path_laws.specs.Names.{AllTypesPlain}
use Rattle.path_laws.proofs.Bases.{kind-Scalar, kind-UnpackedArray, kind-Struct, kind-Union, kind-Enum, kind-member, plain-of, plain-PackedArray, unpacked-is, unpacked-PackedArray, unpacked-Scalar}
use Rattle.path_laws.proofs.Typings.{Gives, AllGive, Each, IfKnown, Anything, anything, whole-gives, broken-gives, rule-gives, checked-gives, both-gives, all-gives, by-gives}

abbrev pub Plain : SvType → Type 0
Plain t = has_plain_bases t ≡ true

-- one that a word names, and dimensions
plain-Scalar : (four s : Bool) → Plain (V.Scalar four s)
plain-Scalar four s = plain-of (V.Scalar four s) _ (kind-Scalar four s)

plain-packed : (s : Bool) (ds : List Dim) (of : Bool → SvType) → ((b : Bool) → Plain (of b)) → Plain (D.packed s ds of)
plain-packed s [] of h = h s
plain-packed s (d ∷ ds) of h = plain-PackedArray d.left d.right s (D.packed false ds of) (plain-packed false ds of h)

pub plain-unpacked : (ds : List Dim) (t : SvType) → Plain t → Plain (unpacked ds t)
plain-unpacked [] t h = h
plain-unpacked (d ∷ ds) t h = plain-of (V.UnpackedArray d.left d.right (unpacked ds t)) _ (kind-UnpackedArray d.left d.right (unpacked ds t)) ∙ plain-unpacked ds t h

plain-word : (four : Bool) (bits : Option ℕ) (s : Bool) → Plain (D.plain four bits s)
plain-word four None s = plain-Scalar four s
plain-word four (Some w) s = plain-PackedArray _ (pos 0) s (V.Scalar four false) (plain-Scalar four false)

pub plain-keyword : (w : KeywordType) (ds : List Dim) → Plain (keyword_type w ds)
plain-keyword w ds = (let of = D.word_of w.keyword in plain-packed (D.signed_by of.signed w.signing) ds (D.plain of.four of.bits) (plain-word of.four of.bits))

pub plain-implicit : (s : Option Signing) (ds : List Dim) → Plain (implicit_type s ds)
plain-implicit s ds = plain-packed (D.signed_by false s) ds (D.plain true None) (plain-word true None)

plain-named : (t : SvType) (ds : List Dim) → Plain t → Plain (named_type t ds)
plain-named t ds h = plain-packed false ds (λ s. t) (λ b. h)

abbrev pub a_type : SvType → Checked SvType
a_type t = Ok t

pub as-type : (P : SvType → Type 0) (t u : SvType) → a_type t ≡ Ok u → P t → P u
as-type P t u h p = let is : t ≡ u = cc in subst P is p

under-plain : (k : Source) (t u : SvType) (ds : List Dim) → under k t ds ≡ Ok u → Plain t → Plain u
under-plain k t u [] h p = as-type Plain t u h p
under-plain k t u (d ∷ ds) h p =
    as-type Plain (named_type t (d ∷ ds)) u (refused-then (is_unpacked t) (position k d.opening) 404 (a_type (named_type t (d ∷ ds))) u h) (plain-named t (d ∷ ds) p)

pub dimensioned-plain : (k : Source) (t : SvType) (ds : Typing (List Dim)) → Plain t → Gives Plain (dimensioned k t ds)
dimensioned-plain k t ds p = checked-gives Anything Plain ds (λ d. rule (under k t d)) (anything ds) (λ d q. rule-gives Plain (under k t d) (λ u h. under-plain k t u d h p))

-- what names stand for
abbrev pub TypeIf : Option SvType → Type 0
TypeIf None = Unit {0}
TypeIf (Some t) = Plain t

abbrev pub PlainType : Thing → Type 0
PlainType t = TypeIf (type_of_thing t)

abbrev ThingIf : Option Thing → Type 0
ThingIf None = Unit {0}
ThingIf (Some t) = PlainType t

chosen : (b : Bool) (t : Thing) (o : Option Thing) → PlainType t → ThingIf o → ThingIf (cond b (Some t) o)
chosen true t o p r = p
chosen false t o p r = r

local-found : (n : ℕ) (ls : List LocalId) → ThingIf (local_in n ls)
local-found n [] = tt
local-found n (l ∷ ls) = chosen (l.decl == n) (Local l.number l.of) (local_in n ls) tt (local-found n ls)

value-found : (n : ℕ) (vs : List ParamValue) → ThingIf (value_in n vs)
value-found n [] = tt
value-found n (v ∷ vs) = chosen (v.decl == n) (Constant v.of v.value) (value_in n vs) tt (value-found n vs)

type-found : (n : ℕ) (ts : List ParamType) → AllTypesPlain ts → ThingIf (type_in n ts)
type-found n [] p = tt
type-found n (t ∷ ts) p = chosen (t.decl == n) (TypeName t.of) (type_in n ts) p.0 (type-found n ts p.1)

signal-found : (n : ℕ) (ss : List SignalId) → ThingIf (signal_in n ss)
signal-found n [] = tt
signal-found n (s ∷ ss) = chosen ((s.decl == n) && is_whole s.member) (Signal s.signal s.of) (signal_in n ss) tt (signal-found n ss)

or-plain : (o : Option Thing) (t : Thing) → ThingIf o → PlainType t → PlainType (or_thing o t)
or-plain None t p r = r
or-plain (Some u) t p r = p

last-plain : (b : Bool) (n : ℕ) → PlainType (cond b (Interface n) (Other n))
last-plain true n = tt
last-plain false n = tt

of-plain : (k : Context) (n : ℕ) → AllTypesPlain k.types → PlainType (thing_of k n)
of-plain k n p =
    let last = cond (k.is_interface n) (Interface n) (Other n) in
    let by_signal = or_thing (signal_in n k.signals) last in
    let by_type = or_thing (type_in n k.types) by_signal in
    or-plain (local_in n k.locals) (or_thing (value_in n k.values) by_type) (local-found n k.locals)
    (or-plain (value_in n k.values) by_type (value-found n k.values)
    (or-plain (type_in n k.types) by_signal (type-found n k.types p)
    (or-plain (signal_in n k.signals) last (signal-found n k.signals) (last-plain (k.is_interface n) n))))

pub found-plain : (k : Context) (o : Option ℕ) → AllTypesPlain k.types → PlainType (found k o)
found-plain k None p = tt
found-plain k (Some n) p = of-plain k n p

type-gives : (o : Option SvType) → TypeIf o → Gives Plain (found_type o)
type-gives None p = broken-gives Plain Quiet
type-gives (Some t) p = whole-gives Plain t p

named-gives : (k : Context) (of : QualifiedName) (ds : List Dimension) → AllTypesPlain k.types → Gives Plain (named_with k of ds)
named-gives k of ds p =
    both-gives Plain Anything Plain (found_type (type_of_thing (thing k of))) (dims k ds) (λ t d. dimensioned k.source t (whole d)) (type-gives (type_of_thing (thing k of)) (found-plain k (k.finds of) p)) (anything (dims k ds))
    (λ t d q r. dimensioned-plain k.source t (whole d) q)

-- enums
pub record IsBase (t : SvType) : Type 0 where
  pub plain : has_plain_bases t ≡ true
  pub packed : is_unpacked t ≡ false

packed-packed : (s : Bool) (ds : List Dim) (of : Bool → SvType) → ((b : Bool) → is_unpacked (of b) ≡ false) → is_unpacked (D.packed s ds of) ≡ false
packed-packed s [] of h = h s
packed-packed s (d ∷ ds) of h = unpacked-PackedArray d.left d.right s (D.packed false ds of)

packed-word : (four : Bool) (bits : Option ℕ) (s : Bool) → is_unpacked (D.plain four bits s) ≡ false
packed-word four None s = unpacked-Scalar four s
packed-word four (Some w) s = unpacked-PackedArray _ (pos 0) s (V.Scalar four false)

keyword-base : (w : KeywordType) (ds : List Dim) → IsBase (keyword_type w ds)
keyword-base w ds = (let of = D.word_of w.keyword in record { plain = plain-keyword w ds; packed = packed-packed (D.signed_by of.signed w.signing) ds (D.plain of.four of.bits) (packed-word of.four of.bits) })

int-base : IsBase int_type
int-base = record { plain = plain-PackedArray (pos 31) (pos 0) true (V.Scalar false false) (plain-Scalar false false); packed = unpacked-PackedArray (pos 31) (pos 0) true (V.Scalar false false) }

named-base : (k : Context) (of : QualifiedName) (t u : SvType) → refused (is_unpacked t) (position k.source (qualified_first of)) 404 (a_type t) ≡ Ok u → Plain t → IsBase u
named-base k of t u h p =
    as-type IsBase t u (refused-then (is_unpacked t) (position k.source (qualified_first of)) 404 (a_type t) u h)
    (record { plain = p; packed = refused-no (is_unpacked t) (position k.source (qualified_first of)) 404 (a_type t) u h })

base-gives : (k : Context) (base : Option EnumBase) → AllTypesPlain k.types → Gives IsBase (base_type k base)
base-gives k None p = whole-gives IsBase int_type int-base
base-gives k (Some (B.Keyword of ds)) p = checked-gives Anything IsBase (dims k ds) (λ d. whole (keyword_type of d)) (anything (dims k ds)) (λ d q. whole-gives IsBase (keyword_type of d) (keyword-base of d))
base-gives k (Some (B.Named of ds)) p =
    checked-gives Plain IsBase (named_with k of ds) (λ t. rule (refused (is_unpacked t) (position k.source (qualified_first of)) 404 (a_type t))) (named-gives k of ds p)
    (λ t q. rule-gives IsBase (refused (is_unpacked t) (position k.source (qualified_first of)) 404 (a_type t)) (λ u h. named-base k of t u h q))

and-true : (a b : Bool) → a ≡ false → b ≡ true → (not a && b) ≡ true
and-true a b h g = ap (λ x. not x && b) h ∙ g

abbrev pub PlainFound : TypeFound → Type 0
PlainFound f = Plain f.of

enum-plain : (k : Context) (at : ℕ) (base : SvType) (vs : List NameValue) → IsBase base → PlainFound (enum_found k at base vs)
enum-plain k at base vs b =
    let names = map (enum_name k.source base) vs in
    plain-of (V.Enum at base names) _ (kind-Enum at base names) ∙ and-true (kind base).unpacked (kind base).plain (unpacked-is base ∙ b.packed) b.plain

-- structs and unions
abbrev PlainField : Field → Type 0
PlainField f = Plain f.of

abbrev PlainFields : Fields → Type 0
PlainFields f = Each PlainField f.fields

members-plain : (k : Source) (fs : List Field) → Each PlainField fs → all_plain (map member_kind (map (member k) fs)) ≡ true
members-plain k [] h = refl
members-plain k (f ∷ fs) h = ap (λ (x : Kind). x.plain && all_plain (map member_kind (map (member k) fs))) (kind-member (member k f)) ∙ ap (λ b. b && all_plain (map member_kind (map (member k) fs))) h.0 ∙ members-plain k fs h.1

widths-plain : (k : Source) (w : ℕ) (fs : List Field) (t u : SvType) → same_widths k w fs (a_type t) ≡ Ok u → Plain t → Plain u
widths-plain k w [] t u h p = as-type Plain t u h p
widths-plain k w (f ∷ fs) t u h p = widths-plain k w fs t u (refused-then (not (width_of f.of == w)) (position k f.at) 506 (same_widths k w fs (a_type t)) u h) p

aggregate-plain : (k : Source) (a : Aggregate) (p : Option Packing) (fs : List Field) (t : SvType) → aggregate k a p fs ≡ Ok t → Each PlainField fs → Plain t
aggregate-plain k (A.Struct at) p fs t h plain =
    let u = V.Struct at (is_some p) (sign_by p) (map (member k) fs) in
    as-type Plain u t h (plain-of u _ (kind-Struct at (is_some p) (sign_by p) (map (member k) fs)) ∙ members-plain k fs plain)
aggregate-plain k (A.Union at) p fs t h plain =
    let u = V.Union at (sign_by p) (map (member k) fs) in
    widths-plain k (first_width fs) fs u t h (plain-of u _ (kind-Union at (sign_by p) (map (member k) fs)) ∙ members-plain k fs plain)

abbrev a_field : Field → Checked Field
a_field f = Ok f

as-field : (f g : Field) → a_field f ≡ Ok g → PlainField f → PlainField g
as-field f g h p = let is : f ≡ g = cc in subst PlainField is p

field-gives : (k : Context) (inside : Bool) (t : SvType) (n : DimensionedName) → Plain t → Gives PlainField (field k inside t n)
field-gives k inside t n p =
    checked-gives Anything PlainField (dims k n.unpacked) (λ ds. let u = unpacked ds t in rule (refused (inside && is_unpacked u) (position k.source n.name) 404 (a_field (record { at = n.name; of = u })))) (anything (dims k n.unpacked))
    (λ ds q.
    let u = unpacked ds t in
    let f : Field = record { at = n.name; of = u } in
    rule-gives PlainField (refused (inside && is_unpacked u) (position k.source n.name) 404 (a_field f))
    (λ g h. as-field f g (refused-then (inside && is_unpacked u) (position k.source n.name) 404 (a_field f) g h) (plain-unpacked ds t p)))

abbrev field_by : Context → Bool → Option TypeFound → DimensionedName → Typing Field
field_by k inside None n = checked (dims k n.unpacked) (λ ds. broken Quiet)
field_by k inside (Some f) n = field (with_values f.names k) inside f.of n

by-field : (k : Context) (inside : Bool) (o : Option TypeFound) (n : DimensionedName) → IfKnown PlainFound o → Gives PlainField (field_by k inside o n)
by-field k inside None n p = checked-gives Anything PlainField (dims k n.unpacked) (λ ds. broken Quiet) (anything (dims k n.unpacked)) (λ ds q. broken-gives PlainField Quiet)
by-field k inside (Some f) n p = field-gives (with_values f.names k) inside f.of n p

each-field : (k : Context) (inside : Bool) (o : Option TypeFound) (ns : List DimensionedName) → IfKnown PlainFound o → AllGive PlainField (map (field_by k inside o) ns)
each-field k inside o [] p = tt
each-field k inside o (n ∷ ns) p = (by-field k inside o n p, each-field k inside o ns p)

-- types as they are written
abbrev OfType : TypeMeaning → Type 0
OfType m = (k : Context) → AllTypesPlain k.types → Gives PlainFound (m k)

abbrev OfFields : FieldsMeaning → Type 0
OfFields m = (k : Context) (inside : Bool) → AllTypesPlain k.types → Gives PlainFields (m k inside)

abbrev AllFields : List FieldsMeaning → Type 0
AllFields [] = Unit {0}
AllFields (m ∷ ms) = OfFields m × AllFields ms

member-form : (of : TypeMeaning) (ns : List DimensionedName) (semicolon : ℕ) → OfType of → OfFields (T.member_step (record { of = of; names = ns; semicolon = semicolon }))
member-form of ns semicolon h k inside p =
    by-gives PlainFound (Each PlainField) PlainFields (of k) (λ o. all (map (field_by k inside o) ns)) (λ f fs. whole (record { fields = fs; names = f.names })) (h k p)
    (λ o q. all-gives PlainField (map (field_by k inside o) ns) (each-field k inside o ns q)) (λ f fs q r. whole-gives PlainFields (record { fields = fs; names = f.names }) r)

pub both-plain : (fs gs : List Field) → Each PlainField fs → Each PlainField gs → Each PlainField (fs ++ gs)
both-plain [] gs h g = g
both-plain (f ∷ fs) gs h g = (h.0, both-plain fs gs h.1 g)

same-types : (k : Context) (o : Option Fields) → AllTypesPlain k.types → AllTypesPlain (names_behind k o).types
same-types k None p = p
same-types k (Some f) p = p

fields-give : (k : Context) (inside : Bool) (ms : List FieldsMeaning) → AllTypesPlain k.types → AllFields ms → Gives PlainFields (all_fields k inside ms)
fields-give k inside [] p h = whole-gives PlainFields (record { fields = []; names = [] }) tt
fields-give k inside (m ∷ ms) p h =
    by-gives PlainFields PlainFields PlainFields (m k inside) (λ o. all_fields (names_behind k o) inside ms) (λ f g. whole (record { fields = f.fields ++ g.fields; names = g.names ++ f.names })) (h.0 k inside p)
    (λ o q. fields-give (names_behind k o) inside ms (same-types k o p) h.1)
    (λ f g q r. whole-gives PlainFields (record { fields = f.fields ++ g.fields; names = g.names ++ f.names }) (both-plain f.fields g.fields q r))

abbrev behind_of : Context → Option TypeFound → Context
behind_of k None = k
behind_of k (Some f) = with_values f.names k

with-dims : (k : Context) (x : Typing TypeFound) (ds : List Dimension) → Gives PlainFound x
    → Gives PlainFound (both_by x (λ o. dims (behind_of k o) ds) (λ f d. checked (dimensioned k.source f.of (whole d)) (λ t. whole (record f { of = t }))))
with-dims k x ds h =
    by-gives PlainFound Anything PlainFound x (λ o. dims (behind_of k o) ds) (λ f d. checked (dimensioned k.source f.of (whole d)) (λ t. whole (record f { of = t }))) h (λ o q. anything (dims (behind_of k o) ds))
    (λ f d q r. checked-gives Plain PlainFound (dimensioned k.source f.of (whole d)) (λ t. whole (record f { of = t })) (dimensioned-plain k.source f.of (whole d) q) (λ t s. whole-gives PlainFound (record f { of = t }) s))

abbrev struct_in : Context → Aggregate → Option Packing → Fields → Typing TypeFound
struct_in k a p f = checked (rule (aggregate k.source a p f.fields)) (λ t. whole (record { of = t; names = f.names }))

struct-form : (of : Aggregate) (packing : Option Packing) (opening : ℕ) (ms : List FieldsMeaning) (closing : ℕ) (ds : List Dimension) → AllFields ms → OfType (T.type_step (TypeText-F.Structure of packing opening ms closing ds))
struct-form of packing opening ms closing ds h k p =
    with-dims k (checked (all_fields k (is_some packing) ms) (struct_in k of packing)) ds
    (checked-gives PlainFields PlainFound (all_fields k (is_some packing) ms) (struct_in k of packing) (fields-give k (is_some packing) ms p h)
    (λ f q.
    checked-gives Plain PlainFound (rule (aggregate k.source of packing f.fields)) (λ t. whole (record { of = t; names = f.names }))
    (rule-gives Plain (aggregate k.source of packing f.fields) (λ t e. aggregate-plain k.source of packing f.fields t e q)) (λ t s. whole-gives PlainFound (record { of = t; names = f.names }) s)))

abbrev values_by : Context → Option SvType → List W.EnumName → Typing (List NameValue)
values_by k None ns = broken Quiet
values_by k (Some b) ns = name_values k b false [] None ns

enum-form : (keyword : ℕ) (base : Option EnumBase) (opening : ℕ) (names : List W.EnumName) (closing : ℕ) (ds : List Dimension) → OfType (T.type_step (TypeText-F.Enumeration keyword base opening names closing ds))
enum-form keyword base opening names closing ds k p =
    with-dims k (both_by (base_type k base) (λ o. values_by k o names) (λ b vs. whole (enum_found k keyword b vs))) ds
    (by-gives IsBase Anything PlainFound (base_type k base) (λ o. values_by k o names) (λ b vs. whole (enum_found k keyword b vs)) (base-gives k base p) (λ o q. anything (values_by k o names))
    (λ b vs q r. whole-gives PlainFound (enum_found k keyword b vs) (enum-plain k keyword b vs q)))

keyword-form : (of : KeywordType) (ds : List Dimension) → OfType (T.type_step (TypeText-F.Keyword of ds))
keyword-form of ds k p = checked-gives Anything PlainFound (dims k ds) (λ d. whole (only (keyword_type of d))) (anything (dims k ds)) (λ d q. whole-gives PlainFound (only (keyword_type of d)) (plain-keyword of d))

named-form : (of : QualifiedName) (ds : List Dimension) → OfType (T.type_step (TypeText-F.Named of ds))
named-form of ds k p = checked-gives Plain PlainFound (named_with k of ds) (λ t. whole (only t)) (named-gives k of ds p) (λ t q. whole-gives PlainFound (only t) q)

implicit-form : (s : Option Signing) (ds : List Dimension) → OfType (T.type_step (TypeText-F.Implicit s ds))
implicit-form s ds k p = checked-gives Anything PlainFound (dims k ds) (λ d. whole (only (implicit_type s d))) (anything (dims k ds)) (λ d q. whole-gives PlainFound (only (implicit_type s d)) (plain-implicit s d))

-- each type of a text
abbrev fields_meaning : Member → FieldsMeaning
fields_meaning = fold-Member TypeMeaning FieldsMeaning T.type_step T.member_step

abbrev OfText : TypeText → Type 0
OfText x = OfType (typed_text x)

abbrev OfMember : Member → Type 0
OfMember x = OfFields (fields_meaning x)

abbrev AType : Type 0
AType = (x : TypeText) × OfText x

abbrev AMember : Type 0
AMember = (x : Member) × OfMember x

each-member : (ys : List AMember) → AllFields (map fields_meaning (map (λ e. e.0) ys))
each-member [] = tt
each-member (y ∷ ys) = (y.1, each-member ys)

abbrev type_within : TypeText-F AType AMember → TypeText-F TypeText Member
type_within = map-TypeText AType AMember TypeText Member (λ e. e.0) (λ e. e.0)

type-case : (y : TypeText-F AType AMember) → OfType (T.type_step (map-TypeText TypeText Member TypeMeaning FieldsMeaning typed_text fields_meaning (type_within y)))
type-case (TypeText-F.Keyword of ds) = keyword-form of ds
type-case (TypeText-F.Structure of packing opening ys closing ds) = struct-form of packing opening (map fields_meaning (map (λ e. e.0) ys)) closing ds (each-member ys)
type-case (TypeText-F.Enumeration keyword base opening names closing ds) = enum-form keyword base opening names closing ds
type-case (TypeText-F.Named of ds) = named-form of ds
type-case (TypeText-F.Implicit signing ds) = implicit-form signing ds

type-level : (y : TypeText-F AType AMember) → OfText (roll-TypeText (type_within y))
type-level y = subst OfType (sym (fold-roll-TypeText TypeMeaning FieldsMeaning T.type_step T.member_step (type_within y))) (type-case y)

abbrev member_within : Member-F AType AMember → Member-F TypeText Member
member_within = map-Member AType AMember TypeText Member (λ e. e.0) (λ e. e.0)

member-level : (y : Member-F AType AMember) → OfMember (roll-Member (member_within y))
member-level y = subst OfFields (sym (fold-roll-Member TypeMeaning FieldsMeaning T.type_step T.member_step (member_within y))) (member-form (typed_text y.of.0) y.names y.semicolon y.of.1)

pub text-plain : (x : TypeText) (k : Context) → AllTypesPlain k.types → Gives PlainFound (typed_text x k)
text-plain = ind-TypeText OfText OfMember (λ x y is. subst (λ z. OfText (roll-TypeText z)) is (type-level y)) (λ x y is. subst (λ z. OfMember (roll-Member z)) is (member-level y))

-- dimensions behind a name
pub declared-plain : (k : Context) (t : SvType) (ds : List Dimension) → Plain t → Gives Plain (declared_type k (Some t) ds)
declared-plain k t ds p = checked-gives Anything Plain (dims k ds) (λ d. whole (unpacked d t)) (anything (dims k ds)) (λ d q. whole-gives Plain (unpacked d t) (plain-unpacked d t p))
