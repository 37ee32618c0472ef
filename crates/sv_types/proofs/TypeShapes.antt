-- Induction over types, and what a type makes of a vector has the vector's bits.
use Rattle.std.proofs.Common.{◌≡◌, ℕ, zero, suc, ◌+◌, ◌*◌, Bool, ℤ, List, [], ◌∷◌, ◌++◌, length, map, take, drop, arith, ap, sym, ◌∙◌, subst, rules}
use Rattle.std.proofs.Math.Nat.{suc-mul}
use Rattle.std.proofs.lemmas.List.{length-take, length-drop, take-append-drop}
use Rattle.b4_core.specs.declared.bit.Bit4.{Bit4}
use Rattle.sv_types.specs.declared.types.EnumName.{EnumName}
use Rattle.sv_types.specs.declared.types.SvType.{SvType, SvType-F, roll-SvType, map-SvType, ind-SvType, the_lemmas}
use Rattle.sv_types.specs.declared.types.SvType.TheVariants as V
use Rattle.sv_types.specs.declared.types.Member.{Member, Member-F, roll-Member, map-Member}
use Rattle.sv_types.specs.declared.types.Value.TheVariants.{Bits}
use Rattle.sv_types.specs.Layouts.{count_of, stacked}
use Rattle.sv_types.specs.Values.{Shape, bits, shape, member_shape, shape_step, total, most, cut, cut_evenly, flat, even}
use Rattle.sv_types.proofs.Terms.{Each}
use Rattle.sv_types.specs.declared.types.Value.{Value-F, fold-roll-Value}
use Rattle.sv_types.specs.declared.types.Value.TheVariants.{rolls-Bits}
use Rattle.sv_types.specs.Values.{value_step}
use Rattle.sv_types.proofs.Cuts.{bits-Items, none-left, member-shape}

-- what each kind of type needs
pub record Kinds (P : SvType → Type 0) (Q : Member → Type 0) : Type 0 where
  pub member : (m : Member) → P m.of → Q m
  pub scalar : (four s : Bool) → P (V.Scalar four s)
  pub packed : (left right : ℤ) (s : Bool) (item : SvType) → P item → P (V.PackedArray left right s item)
  pub structure : (id : ℕ) (packed s : Bool) (ms : List Member) → Each Q ms → P (V.Struct id packed s ms)
  pub union : (id : ℕ) (s : Bool) (ms : List Member) → Each Q ms → P (V.Union id s ms)
  pub enumeration : (id : ℕ) (base : SvType) (names : List EnumName) → P base → P (V.Enum id base names)
  pub unpacked : (left right : ℤ) (item : SvType) → P item → P (V.UnpackedArray left right item)

module _ (P : SvType → Type 0) (Q : Member → Type 0) (kinds : Kinds P Q) where
  abbrev AType : Type 0
  AType = (x : SvType) × P x

  abbrev AMember : Type 0
  AMember = (x : Member) × Q x

  each-member : (ys : List AMember) → Each Q (map (λ e. e.0) ys)
  each-member [] = tt
  each-member (y ∷ ys) = (y.1, each-member ys)

  type-level : (y : SvType-F AType AMember) → P (roll-SvType (map-SvType AType AMember SvType Member (λ e. e.0) (λ e. e.0) y))
  type-level (SvType-F.Scalar four s) = subst P (sym (V.rolls-Scalar four s)) (kinds.scalar four s)
  type-level (SvType-F.PackedArray left right s item) = subst P (sym (V.rolls-PackedArray left right s item.0)) (kinds.packed left right s item.0 item.1)
  type-level (SvType-F.Struct id packed s ms) =
      subst P (sym (V.rolls-Struct id packed s (map (λ e. e.0) ms))) (kinds.structure id packed s (map (λ e. e.0) ms) (each-member ms))
  type-level (SvType-F.Union id s ms) =
      subst P (sym (V.rolls-Union id s (map (λ e. e.0) ms))) (kinds.union id s (map (λ e. e.0) ms) (each-member ms))
  type-level (SvType-F.Enum id base names) = subst P (sym (V.rolls-Enum id base.0 names)) (kinds.enumeration id base.0 names base.1)
  type-level (SvType-F.UnpackedArray left right item) = subst P (sym (V.rolls-UnpackedArray left right item.0)) (kinds.unpacked left right item.0 item.1)

  member-level : (y : Member-F AType AMember) → Q (roll-Member (map-Member AType AMember SvType Member (λ e. e.0) (λ e. e.0) y))
  member-level y = kinds.member (roll-Member (map-Member AType AMember SvType Member (λ e. e.0) (λ e. e.0) y)) y.of.1

  pub by-type : (x : SvType) → P x
  by-type =
      ind-SvType P Q (λ x y is. subst (λ z. P (roll-SvType z)) is (type-level y)) (λ x y is. subst (λ z. Q (roll-Member z)) is (member-level y))

shape-Scalar : (four s : Bool) → shape (V.Scalar four s) ≡ shape_step (SvType-F.Scalar four s)
shape-Scalar four s = search (rules, the_lemmas)

shape-PackedArray : (left right : ℤ) (s : Bool) (item : SvType) → shape (V.PackedArray left right s item) ≡ even (count_of left right) (shape item)
shape-PackedArray left right s item = search (rules, the_lemmas)

shape-UnpackedArray : (left right : ℤ) (item : SvType) → shape (V.UnpackedArray left right item) ≡ even (count_of left right) (shape item)
shape-UnpackedArray left right item = search (rules, the_lemmas)

shape-Struct : (id : ℕ) (packed s : Bool) (ms : List Member) → shape (V.Struct id packed s ms) ≡ shape_step (SvType-F.Struct id packed s (map member_shape ms))
shape-Struct id packed s ms = search (rules, the_lemmas)

shape-Union : (id : ℕ) (s : Bool) (ms : List Member) → shape (V.Union id s ms) ≡ flat (most (map member_shape ms))
shape-Union id s ms = search (rules, the_lemmas)

shape-Enum : (id : ℕ) (base : SvType) (names : List EnumName) → shape (V.Enum id base names) ≡ flat (shape base).width
shape-Enum id base names = search (rules, the_lemmas)

bits-Bits : (v : List Bit4) → bits (Bits v) ≡ v
bits-Bits v = ap bits (sym (rolls-Bits v)) ∙ fold-roll-Value (List Bit4) value_step (Value-F.Bits v)

-- a shape that gives values back their bits
abbrev pub Back : Shape → Type 0
Back t = (v : List Bit4) → length v ≡ t.width → bits (t.value v) ≡ v

back-flat : (n : ℕ) → Back (flat n)
back-flat n v h = bits-Bits v

back-cut_evenly : (item : Shape) → Back item → (n : ℕ) (v : List Bit4) → length v ≡ n * item.width → stacked (map bits (cut_evenly n item v)) ≡ v
back-cut_evenly item back zero v h = sym (none-left v (omega arith))
back-cut_evenly item back (suc n) v h =
    let k = n * item.width in
    let whole : length v ≡ item.width + k = omega (arith, suc-mul n item.width) in
    ap (λ b. stacked (map bits (cut_evenly n item (take k v))) ++ b) (back (drop k v) (length-drop k v ∙ omega arith))
    ∙ ap (λ b. b ++ drop k v) (back-cut_evenly item back n (take k v) (length-take k v ∙ omega arith)) ∙ take-append-drop k v

back-even : (n : ℕ) (item : Shape) → Back item → Back (even n item)
back-even n item back v h = bits-Items (cut_evenly n item v) ∙ back-cut_evenly item back n v h

abbrev BackMember : Member → Type 0
BackMember m = Back (member_shape m)

back-cut : (ms : List Member) → Each BackMember ms → (v : List Bit4) → length v ≡ total (map member_shape ms) → stacked (map bits (cut (map member_shape ms) v)) ≡ v
back-cut [] backs v h = sym (none-left v h)
back-cut (m ∷ ms) backs v h =
    let k = total (map member_shape ms) in
    ap (λ b. stacked (map bits (cut (map member_shape ms) (take k v))) ++ b) (backs.0 (drop k v) (length-drop k v ∙ omega arith))
    ∙ ap (λ b. b ++ drop k v) (back-cut ms backs.1 (take k v) (length-take k v ∙ omega arith)) ∙ take-append-drop k v

abbrev BackType : SvType → Type 0
BackType t = Back (shape t)

by-shape : (t : SvType) (s : Shape) → shape t ≡ s → Back s → BackType t
by-shape t s is back = subst Back (sym is) back

back-kinds : Kinds BackType BackMember
back-kinds = record {
  member = λ m h. subst Back (sym (member-shape m)) h;
  scalar = λ four s. by-shape _ _ (shape-Scalar four s) (back-flat 1);
  packed = λ left right s item h. by-shape _ _ (shape-PackedArray left right s item) (back-even (count_of left right) (shape item) h);
  structure = λ id packed s ms h. by-shape _ _ (shape-Struct id packed s ms) (λ v is. bits-Items (cut (map member_shape ms) v) ∙ back-cut ms h v is);
  union = λ id s ms h. by-shape _ _ (shape-Union id s ms) (back-flat (most (map member_shape ms)));
  enumeration = λ id base names h. by-shape _ _ (shape-Enum id base names) (back-flat (shape base).width);
  unpacked = λ left right item h. by-shape _ _ (shape-UnpackedArray left right item) (back-even (count_of left right) (shape item) h);
}

-- the value that a type makes of a vector of its width has the vector's bits
pub bits-shape : (t : SvType) (v : List Bit4) → length v ≡ (shape t).width → bits ((shape t).value v) ≡ v
bits-shape = by-type BackType BackMember back-kinds
