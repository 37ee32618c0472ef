-- Types without unpacked bases, their elements and their members.
use Rattle.std.proofs.Common.{◌≡◌, ℕ, suc, ℤ, Bool, true, false, ◌&&◌, ◌||◌, cond, not, List, [], ◌∷◌, map, Some, None, refl, ap, sym, ◌∙◌, rules, true≢false}
use Rattle.std.specs.Str.{bytes_eq}
use Rattle.sv_types.specs.declared.types.EnumName.{EnumName}
use Rattle.sv_types.specs.declared.types.Member.{Member}
use Rattle.sv_types.specs.declared.types.SvType.{SvType, the_lemmas}
use Rattle.sv_types.specs.declared.types.SvType.TheVariants as V
use Rattle.sv_types.proofs.TypeShapes.{Kinds, by-type}
use Rattle.expr_type.specs.Shapes.{is_unpacked, is_array, is_indexed, bit_of_type, element_of, members_of}
use Rattle.expr_type.specs.Selects.{Place, named}
use Rattle.typing_fits.proofs.Full.{and-left, and-right}
use Rattle.typed_paths.specs.Typed.{has_elements}
use Rattle.typed_paths.proofs.Typing.{elements-Scalar, elements-PackedArray, elements-Struct, elements-Union, elements-Enum, elements-UnpackedArray}
use Rattle.path_laws.specs.Bases.{Kind, kind, member_kind, all_plain, has_plain_bases}

-- kinds of types
pub kind-Scalar : (four s : Bool) → kind (V.Scalar four s) ≡ record { unpacked = false; plain = true }
kind-Scalar four s = search (rules, the_lemmas)

pub kind-PackedArray : (l r : ℤ) (s : Bool) (item : SvType) → kind (V.PackedArray l r s item) ≡ record { unpacked = false; plain = (kind item).plain }
kind-PackedArray l r s item = search (rules, the_lemmas)

pub kind-Struct : (id : ℕ) (packed s : Bool) (ms : List Member) → kind (V.Struct id packed s ms) ≡ record { unpacked = not packed; plain = all_plain (map member_kind ms) }
kind-Struct id packed s ms = search (rules, the_lemmas)

pub kind-Union : (id : ℕ) (s : Bool) (ms : List Member) → kind (V.Union id s ms) ≡ record { unpacked = false; plain = all_plain (map member_kind ms) }
kind-Union id s ms = search (rules, the_lemmas)

pub kind-Enum : (id : ℕ) (base : SvType) (names : List EnumName) → kind (V.Enum id base names) ≡ record { unpacked = false; plain = not (kind base).unpacked && (kind base).plain }
kind-Enum id base names = search (rules, the_lemmas)

pub kind-UnpackedArray : (l r : ℤ) (item : SvType) → kind (V.UnpackedArray l r item) ≡ record { unpacked = true; plain = (kind item).plain }
kind-UnpackedArray l r item = search (rules, the_lemmas)

pub kind-member : (m : Member) → member_kind m ≡ kind m.of
kind-member m = search (rules, the_lemmas)

pub plain-of : (t : SvType) (k : Kind) → kind t ≡ k → has_plain_bases t ≡ k.plain
plain-of t k is = ap (λ (x : Kind). x.plain) is

-- unpacked types by the rules
pub unpacked-Scalar : (four s : Bool) → is_unpacked (V.Scalar four s) ≡ false
unpacked-Scalar four s = search (rules, the_lemmas)

pub unpacked-PackedArray : (l r : ℤ) (s : Bool) (item : SvType) → is_unpacked (V.PackedArray l r s item) ≡ false
unpacked-PackedArray l r s item = search (rules, the_lemmas)

unpacked-Struct : (id : ℕ) (packed s : Bool) (ms : List Member) → is_unpacked (V.Struct id packed s ms) ≡ not packed
unpacked-Struct id packed s ms = search (rules, the_lemmas)

unpacked-Union : (id : ℕ) (s : Bool) (ms : List Member) → is_unpacked (V.Union id s ms) ≡ false
unpacked-Union id s ms = search (rules, the_lemmas)

unpacked-Enum : (id : ℕ) (base : SvType) (names : List EnumName) → is_unpacked (V.Enum id base names) ≡ false
unpacked-Enum id base names = search (rules, the_lemmas)

unpacked-UnpackedArray : (l r : ℤ) (item : SvType) → is_unpacked (V.UnpackedArray l r item) ≡ true
unpacked-UnpackedArray l r item = search (rules, the_lemmas)

abbrev AnyMember : Member → Type 0
AnyMember m = Unit {0}

abbrev SameUnpacked : SvType → Type 0
SameUnpacked t = (kind t).unpacked ≡ is_unpacked t

same-by : (t : SvType) (k : Kind) → kind t ≡ k → is_unpacked t ≡ k.unpacked → SameUnpacked t
same-by t k is also = ap (λ (x : Kind). x.unpacked) is ∙ sym also

same-kinds : Kinds SameUnpacked AnyMember
same-kinds = record {
  member = λ m h. tt;
  scalar = λ four s. same-by _ _ (kind-Scalar four s) (unpacked-Scalar four s);
  packed = λ l r s item h. same-by _ _ (kind-PackedArray l r s item) (unpacked-PackedArray l r s item);
  structure = λ id packed s ms h. same-by _ _ (kind-Struct id packed s ms) (unpacked-Struct id packed s ms);
  union = λ id s ms h. same-by _ _ (kind-Union id s ms) (unpacked-Union id s ms);
  enumeration = λ id base names h. same-by _ _ (kind-Enum id base names) (unpacked-Enum id base names);
  unpacked = λ l r item h. same-by _ _ (kind-UnpackedArray l r item) (unpacked-UnpackedArray l r item);
}

pub unpacked-is : (t : SvType) → (kind t).unpacked ≡ is_unpacked t
unpacked-is = by-type SameUnpacked AnyMember same-kinds

-- what is packed has elements, and so has an array
not-true : (b : Bool) → not b ≡ true → b ≡ false
not-true true h = absurd (true≢false (sym h))
not-true false h = refl

not-false : (b : Bool) → not b ≡ false → b ≡ true
not-false true h = refl
not-false false h = absurd (true≢false h)

abbrev ElementsIf : SvType → Type 0
ElementsIf t = has_plain_bases t ≡ true → is_unpacked t ≡ false → has_elements t ≡ true

elements-kinds : Kinds ElementsIf AnyMember
elements-kinds = record {
  member = λ m h. tt;
  scalar = λ four s plain not_unpacked. elements-Scalar four s;
  packed = λ l r s item h plain not_unpacked. elements-PackedArray l r s item;
  structure = λ id packed s ms h plain not_unpacked. elements-Struct id packed s ms ∙ not-false packed (sym (unpacked-Struct id packed s ms) ∙ not_unpacked);
  union = λ id s ms h plain not_unpacked. elements-Union id s ms;
  enumeration = λ id base names h plain not_unpacked.
      let both = sym (plain-of (V.Enum id base names) _ (kind-Enum id base names)) ∙ plain in
      elements-Enum id base names
      ∙ h (and-right (not (kind base).unpacked) (kind base).plain both) (sym (unpacked-is base) ∙ not-true (kind base).unpacked (and-left (not (kind base).unpacked) (kind base).plain both));
  unpacked = λ l r item h plain not_unpacked. elements-UnpackedArray l r item;
}

pub packed-elements : (t : SvType) → has_plain_bases t ≡ true → is_unpacked t ≡ false → has_elements t ≡ true
packed-elements = by-type ElementsIf AnyMember elements-kinds

abbrev ArrayElements : SvType → Type 0
ArrayElements t = is_array t ≡ true → has_elements t ≡ true

array-Struct : (id : ℕ) (packed s : Bool) (ms : List Member) → is_array (V.Struct id packed s ms) ≡ false
array-Struct id packed s ms = search (rules, the_lemmas)

array-Enum : (id : ℕ) (base : SvType) (names : List EnumName) → is_array (V.Enum id base names) ≡ false
array-Enum id base names = search (rules, the_lemmas)

array-kinds : Kinds ArrayElements AnyMember
array-kinds = record {
  member = λ m h. tt;
  scalar = λ four s is. elements-Scalar four s;
  packed = λ l r s item h is. elements-PackedArray l r s item;
  structure = λ id packed s ms h is. absurd (true≢false (sym is ∙ array-Struct id packed s ms));
  union = λ id s ms h is. elements-Union id s ms;
  enumeration = λ id base names h is. absurd (true≢false (sym is ∙ array-Enum id base names));
  unpacked = λ l r item h is. elements-UnpackedArray l r item;
}

array-elements : (t : SvType) → is_array t ≡ true → has_elements t ≡ true
array-elements = by-type ArrayElements AnyMember array-kinds

indexed-by : (t : SvType) (array : Bool) → is_array t ≡ array → has_plain_bases t ≡ true → (array || not (is_unpacked t)) ≡ true → has_elements t ≡ true
indexed-by t true is plain h = array-elements t is
indexed-by t false is plain h = packed-elements t plain (not-true (is_unpacked t) h)

-- what an index selects from has elements
pub indexed-elements : (t : SvType) → has_plain_bases t ≡ true → is_indexed t ≡ true → has_elements t ≡ true
indexed-elements t plain h = indexed-by t (is_array t) refl plain h

-- elements
pub element-Scalar : (four s : Bool) → element_of (V.Scalar four s) ≡ V.Scalar four false
element-Scalar four s = search (rules, the_lemmas)

pub element-PackedArray : (l r : ℤ) (s : Bool) (item : SvType) → element_of (V.PackedArray l r s item) ≡ item
element-PackedArray l r s item = search (rules, the_lemmas)

pub element-UnpackedArray : (l r : ℤ) (item : SvType) → element_of (V.UnpackedArray l r item) ≡ item
element-UnpackedArray l r item = search (rules, the_lemmas)

pub element-Struct : (id : ℕ) (packed s : Bool) (ms : List Member) → element_of (V.Struct id packed s ms) ≡ bit_of_type (V.Struct id packed s ms)
element-Struct id packed s ms = search (rules, the_lemmas)

pub element-Union : (id : ℕ) (s : Bool) (ms : List Member) → element_of (V.Union id s ms) ≡ bit_of_type (V.Union id s ms)
element-Union id s ms = search (rules, the_lemmas)

pub element-Enum : (id : ℕ) (base : SvType) (names : List EnumName) → element_of (V.Enum id base names) ≡ element_of base
element-Enum id base names = search (rules, the_lemmas)

abbrev ElementPlain : SvType → Type 0
ElementPlain t = has_plain_bases t ≡ true → has_plain_bases (element_of t) ≡ true

plain-is : (t u : SvType) → t ≡ u → has_plain_bases u ≡ true → has_plain_bases t ≡ true
plain-is t u is h = ap has_plain_bases is ∙ h

plain-bit : (four : Bool) → has_plain_bases (V.Scalar four false) ≡ true
plain-bit four = plain-of (V.Scalar four false) _ (kind-Scalar four false)

element-kinds : Kinds ElementPlain AnyMember
element-kinds = record {
  member = λ m h. tt;
  scalar = λ four s plain. plain-is _ _ (element-Scalar four s) (plain-bit four);
  packed = λ l r s item h plain. plain-is _ _ (element-PackedArray l r s item) (sym (plain-of (V.PackedArray l r s item) _ (kind-PackedArray l r s item)) ∙ plain);
  structure = λ id packed s ms h plain. plain-is _ _ (element-Struct id packed s ms) (plain-bit _);
  union = λ id s ms h plain. plain-is _ _ (element-Union id s ms) (plain-bit _);
  enumeration = λ id base names h plain. plain-is _ _ (element-Enum id base names)
      (h (and-right (not (kind base).unpacked) (kind base).plain (sym (plain-of (V.Enum id base names) _ (kind-Enum id base names)) ∙ plain)));
  unpacked = λ l r item h plain. plain-is _ _ (element-UnpackedArray l r item) (sym (plain-of (V.UnpackedArray l r item) _ (kind-UnpackedArray l r item)) ∙ plain);
}

pub element-plain : (t : SvType) → has_plain_bases t ≡ true → has_plain_bases (element_of t) ≡ true
element-plain = by-type ElementPlain AnyMember element-kinds

-- members
named-plain : (ms : List Member) (n : ℕ) (name : List ℕ) (p : Place) → all_plain (map member_kind ms) ≡ true → named n ms name ≡ Some p → has_plain_bases p.of ≡ true
named-plain [] n name p plain h = absurd (cc)
named-plain (m ∷ ms) n name p plain h =
    by (bytes_eq m.name name) h (named-plain ms (suc n) name p (and-right (member_kind m).plain (all_plain (map member_kind ms)) plain))
  where
    by : (b : Bool) → cond b (Some (record { number = n; of = m.of })) (named (suc n) ms name) ≡ Some p → (named (suc n) ms name ≡ Some p → has_plain_bases p.of ≡ true) → has_plain_bases p.of ≡ true
    by true e rest =
        let here : record { number = n; of = m.of } ≡ p = cc in
        ap (λ (q : Place). has_plain_bases q.of) (sym here) ∙ sym (ap (λ (x : Kind). x.plain) (kind-member m)) ∙ and-left (member_kind m).plain (all_plain (map member_kind ms)) plain
    by false e rest = rest e

abbrev MemberPlain : SvType → Type 0
MemberPlain t = has_plain_bases t ≡ true → (name : List ℕ) (p : Place) → named 0 (members_of t) name ≡ Some p → has_plain_bases p.of ≡ true

pub none-named : (t : SvType) (name : List ℕ) (p : Place) → members_of t ≡ [] → named 0 (members_of t) name ≡ Some p → ⊥
none-named t name p is h = (let e : None ≡ Some p = sym (ap (λ ms. named 0 ms name) is) ∙ h in cc)

members-Scalar : (four s : Bool) → members_of (V.Scalar four s) ≡ []
members-Scalar four s = search (rules, the_lemmas)

pub members-PackedArray : (l r : ℤ) (s : Bool) (item : SvType) → members_of (V.PackedArray l r s item) ≡ []
members-PackedArray l r s item = search (rules, the_lemmas)

members-UnpackedArray : (l r : ℤ) (item : SvType) → members_of (V.UnpackedArray l r item) ≡ []
members-UnpackedArray l r item = search (rules, the_lemmas)

members-Enum : (id : ℕ) (base : SvType) (names : List EnumName) → members_of (V.Enum id base names) ≡ []
members-Enum id base names = search (rules, the_lemmas)

members-Struct : (id : ℕ) (packed s : Bool) (ms : List Member) → members_of (V.Struct id packed s ms) ≡ ms
members-Struct id packed s ms = search (rules, the_lemmas)

members-Union : (id : ℕ) (s : Bool) (ms : List Member) → members_of (V.Union id s ms) ≡ ms
members-Union id s ms = search (rules, the_lemmas)

member-kinds : Kinds MemberPlain AnyMember
member-kinds = record {
  member = λ m h. tt;
  scalar = λ four s plain name p is. absurd (none-named _ name p (members-Scalar four s) is);
  packed = λ l r s item h plain name p is. absurd (none-named _ name p (members-PackedArray l r s item) is);
  structure = λ id packed s ms h plain name p is.
      named-plain ms 0 name p (sym (plain-of (V.Struct id packed s ms) _ (kind-Struct id packed s ms)) ∙ plain) (ap (λ xs. named 0 xs name) (sym (members-Struct id packed s ms)) ∙ is);
  union = λ id s ms h plain name p is.
      named-plain ms 0 name p (sym (plain-of (V.Union id s ms) _ (kind-Union id s ms)) ∙ plain) (ap (λ xs. named 0 xs name) (sym (members-Union id s ms)) ∙ is);
  enumeration = λ id base names h plain name p is. absurd (none-named _ name p (members-Enum id base names) is);
  unpacked = λ l r item h plain name p is. absurd (none-named _ name p (members-UnpackedArray l r item) is);
}

pub member-plain : (t : SvType) → has_plain_bases t ≡ true → (name : List ℕ) (p : Place) → named 0 (members_of t) name ≡ Some p → has_plain_bases p.of ≡ true
member-plain = by-type MemberPlain AnyMember member-kinds

pub plain-PackedArray : (l r : ℤ) (s : Bool) (item : SvType) → has_plain_bases item ≡ true → has_plain_bases (V.PackedArray l r s item) ≡ true
plain-PackedArray l r s item h = plain-of (V.PackedArray l r s item) _ (kind-PackedArray l r s item) ∙ h
