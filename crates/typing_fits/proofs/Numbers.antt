-- Numbers, constants, casts and system functions.
use Rattle.std.proofs.Common.{◌≡◌, ℕ, ◌-◌, ◌*◌, ◌<◌, ◌≤◌, max, ℤ, Bool, true, false, ◌&&◌, ◌==◌, cond, not, List, [], ◌∷◌, length, map, take, replicate, refl, arith, ap, sym, ◌∙◌, rules, length-append, length-take}
use Rattle.std.specs.Prelude.{nat_lt, nat_le, pos, Ok, ◌^◌}
use Rattle.std.proofs.lemmas.Bool.Decides.{nat_tests}
use Rattle.std.proofs.lemmas.List.{length-replicate}
use Rattle.b4_core.specs.declared.bit.Bit4.{Bit4}
use Rattle.b4_core.specs.Bits.{known4}
use Rattle.b4_core.specs.Vectors.{vec}
use Rattle.sv_types.specs.declared.expression.Form.TheVariants as F
use Rattle.sv_types.specs.declared.statement.Function.{Function}
use Rattle.sv_types.specs.declared.types.SvType.{SvType, the_lemmas}
use Rattle.sv_types.specs.declared.types.EnumName.{EnumName}
use Rattle.sv_types.specs.declared.types.SvType.TheVariants as V
use Rattle.sv_types.specs.declared.types.Member.{Member}
use Rattle.sv_types.specs.declared.types.Value.{Value}
use Rattle.sv_types.specs.Layouts.{Layout, layout, member_layout, width_of, count_of, stored, stacked_marks, widest_marks}
use Rattle.sv_types.specs.Values as W
use Rattle.sv_types.specs.Values.{bits, shape, member_shape, value_of_bits}
use Rattle.sv_types.specs.Meanings.{wide}
use Rattle.sv_types.specs.Expressions.{meaning}
use Rattle.sv_types.proofs.Terms.{Each}
use Rattle.sv_types.proofs.TypeShapes.{Kinds, by-type, bits-shape}
use Rattle.sv_types.proofs.Components.{member-layout}
use Rattle.sv_types.proofs.Cuts.{member-shape}
use Rattle.sv_types.proofs.Stored.{length-stored}
use Rattle.sv_types.proofs.Lengths.{layout-Scalar, layout-Enum, width-PackedArray, width-UnpackedArray, width-Struct, width-Union}
use Rattle.sv_types.proofs.OperatorLengths.{length-vec}
use Rattle.sv_types.proofs.Levels as L
use Rattle.expr_type.specs.declared.operand.Valued.{Valued}
use Rattle.expr_type.specs.Typings.{refused}
use Rattle.expr_type.specs.Shapes.{one_bit, vector, integer, is_assignable}
use Rattle.expr_type.specs.Names.{Source, position, word}
use Rattle.expr_type.specs.Literals as D
use Rattle.expr_type.specs.Operands.{Operand, Plain, Pattern, Stream, width}
use Rattle.expr_type.specs.Operators.{by_itself, is_signed, not_too_long}
use Rattle.expr_type.specs.Forms as R
use Rattle.typing_fits.specs.Types.{is_full}
use Rattle.typing_fits.specs.Sound.{IsNarrowType, Sound}
use Rattle.typing_fits.specs.Operands.{SoundOperand, SoundConstant}
use Rattle.typing_fits.proofs.Contexts.{refused-no, refused-then, whole-part}
use Rattle.typing_fits.proofs.Vectors.{vector-of, one_bit-of, narrow-vector, narrow-one_bit, width-vector, result-of}
use Rattle.typing_fits.proofs.Limits as M
use Rattle.typing_fits.proofs.Limits.{at-width}
use Rattle.typing_fits.proofs.Operators.{bits-of, alone-of, made-alone, as-is, ok-is, cast-sound}
use Rattle.typing_fits.proofs.Selects.{long-no, long-then}

-- literals
pub literal-sound : (k : Source) (first w : ℕ) (s : Bool) (v : List Bit4) (goes_on : Bool) (gs : List Function) → length v ≡ w → 0 < w → w ≤ 4194304 → Sound (by_itself k first (vector w s) (F.Literal v goes_on)) gs
literal-sound k first w s v goes_on gs long some short =
    let t = vector w s in
    let narrow = narrow-vector w s some short in
    made-alone k first t (F.Literal v goes_on) gs _ (L.form-Literal v goes_on) narrow
    (M.literal-limits (layout t) first goes_on v gs (result-of t (length v) (layout t).signed narrow (width-vector w s some ∙ sym long) refl))

pub decimal-sound : (k : Source) (at : ℕ) (v : Valued) (gs : List Function) → R.decimal k at ≡ Ok v → Sound v gs
decimal-sound k at v gs h =
    let n = D.decimal (word k at) in
    let a = R.unsized (by_itself k at (vector 32 true) (F.Literal (vec 32 (pos n)) false)) in
    as-is a v gs (ok-is a v (refused-then (nat_le (2 ^ 32) n) (position k at) 411 (Ok a) v h))
    (literal-sound k at 32 true (vec 32 (pos n)) false gs (length-vec 32 (pos n)) (omega arith) (omega arith))

length-filled : (w : ℕ) (b : Bit4) (v : List Bit4) → length (D.filled w b v) ≡ w
length-filled w b v = length-append (take w v) (replicate (w - length v) b) ∙ omega (arith, length-take w v, length-replicate (w - length v) b)

bits-by : (c : Bool) (w : ℕ) (n : ℤ) (b : Bit4) (v : List Bit4) → length (cond c (vec w n) (D.filled w b v)) ≡ w
bits-by true w n b v = length-vec w n
bits-by false w n b v = length-filled w b v

length-bits_in : (w : ℕ) (b : D.Based) → length (D.bits_in w b) ≡ w
length-bits_in w b = bits-by (D.is_decimal b && known4 (D.above b)) w (pos (D.number_from 0 b.digits)) (D.above b) (D.all_bits b)

pub based-sound : (k : Source) (at : ℕ) (v : Valued) (gs : List Function) → R.based k at ≡ Ok v → Sound v gs
based-sound k at v gs h =
    let b = D.based (word k at) in
    let goes_on = not b.signed && not (known4 (D.above b)) in
    let a = R.unsized (by_itself k at (vector 32 b.signed) (F.Literal (D.bits_in 32 b) goes_on)) in
    as-is a v gs (ok-is a v (refused-then (not (D.fits_unsized b)) (position k at) 411 (Ok a) v h))
    (literal-sound k at 32 b.signed (D.bits_in 32 b) goes_on gs (length-bits_in 32 b) (omega arith) (omega arith))

some-by : (n : ℕ) (b : Bool) → (n == 0) ≡ b → b ≡ false → 0 < n
some-by n true is h = absurd (cc)
some-by n false is h = grind (arith, nat_tests, is)

short-by : (n : ℕ) (b : Bool) → nat_lt 128 n ≡ b → b ≡ false → n ≤ 128
short-by n true is h = absurd (cc)
short-by n false is h = grind (arith, nat_tests, is)

pub sized-sound : (k : Source) (size at : ℕ) (v : Valued) (gs : List Function) → R.sized_number k size at ≡ Ok v → Sound v gs
sized-sound k size at v gs h =
    let n = D.decimal (word k size) in
    let b = D.based (word k at) in
    let a = by_itself k size (vector n b.signed) (F.Literal (D.bits_in n b) false) in
    let inner = refused (nat_lt 128 n) (position k size) 502 (Ok a) in
    let rest = refused-then (n == 0) (position k size) 411 inner v h in
    let some = some-by n (n == 0) refl (refused-no (n == 0) (position k size) 411 inner v h) in
    let short = short-by n (nat_lt 128 n) refl (refused-no (nat_lt 128 n) (position k size) 502 (Ok a) v rest) in
    as-is a v gs (ok-is a v (refused-then (nat_lt 128 n) (position k size) 502 (Ok a) v rest))
    (literal-sound k size n b.signed (D.bits_in n b) false gs (length-bits_in n b) some (omega (arith, short)))

pub fill-sound : (k : Source) (at : ℕ) (v : Valued) (gs : List Function) → R.fill k at ≡ Ok v → Sound v gs
fill-sound k at v gs h =
    let b = D.fill_digit (word k at) in
    let a = by_itself k at one_bit (F.Fill b) in
    as-is a v gs (ok-is a v h) (made-alone k at one_bit (F.Fill b) gs _ (L.form-Fill b) narrow-one_bit (M.fill-limits (layout one_bit) at b gs one_bit-of.result))

-- constants
pub constant-value : (k : Source) (first : ℕ) (t : SvType) (v : Value) (gs : List Function) → SoundConstant t v → Sound (by_itself k first t (F.Constant v)) gs
constant-value k first t v gs s =
    made-alone k first t (F.Constant v) gs _ (L.form-Constant v) s.of (M.constant-limits (layout t) first v gs (result-of t (length (bits v)) (layout t).signed s.of (sym s.long) refl))

-- a shape is as wide as its type
shape-Scalar : (four s : Bool) → (shape (V.Scalar four s)).width ≡ 1
shape-Scalar four s = search (rules, the_lemmas)

shape-PackedArray : (l r : ℤ) (s : Bool) (item : SvType) → (shape (V.PackedArray l r s item)).width ≡ count_of l r * (shape item).width
shape-PackedArray l r s item = search (rules, the_lemmas)

shape-UnpackedArray : (l r : ℤ) (item : SvType) → (shape (V.UnpackedArray l r item)).width ≡ count_of l r * (shape item).width
shape-UnpackedArray l r item = search (rules, the_lemmas)

shape-Struct : (id : ℕ) (packed s : Bool) (ms : List Member) → (shape (V.Struct id packed s ms)).width ≡ W.total (map member_shape ms)
shape-Struct id packed s ms = search (rules, the_lemmas)

shape-Union : (id : ℕ) (s : Bool) (ms : List Member) → (shape (V.Union id s ms)).width ≡ W.most (map member_shape ms)
shape-Union id s ms = search (rules, the_lemmas)

shape-Enum : (id : ℕ) (base : SvType) (names : List EnumName) → (shape (V.Enum id base names)).width ≡ (shape base).width
shape-Enum id base names = search (rules, the_lemmas)

abbrev Wide : SvType → Type 0
Wide t = (shape t).width ≡ width_of t

abbrev MemberWide : Member → Type 0
MemberWide m = Wide m.of

one-wide : (m : Member) → MemberWide m → (member_shape m).width ≡ length (member_layout m).two_state
one-wide m h = ap (λ (s : W.Shape). s.width) (member-shape m) ∙ h ∙ ap (λ (l : Layout). length l.two_state) (sym (member-layout m))

total-wide : (ms : List Member) → Each MemberWide ms → W.total (map member_shape ms) ≡ length (stacked_marks (map member_layout ms))
total-wide [] h = refl
total-wide (m ∷ ms) h = omega (arith, one-wide m h.0, total-wide ms h.1, length-append (stacked_marks (map member_layout ms)) (member_layout m).two_state)

widest-by : (b : Bool) (m : Layout) (ls : List Layout) → nat_lt (length m.two_state) (length (widest_marks ls)) ≡ b → length (cond b (widest_marks ls) m.two_state) ≡ max (length m.two_state) (length (widest_marks ls))
widest-by true m ls is = let h : length m.two_state < length (widest_marks ls) = grind (arith, nat_tests, is) in omega (arith, h)
widest-by false m ls is = let h : length (widest_marks ls) ≤ length m.two_state = grind (arith, nat_tests, is) in omega (arith, h)

most-wide : (ms : List Member) → Each MemberWide ms → W.most (map member_shape ms) ≡ length (widest_marks (map member_layout ms))
most-wide [] h = refl
most-wide (m ∷ ms) h =
    let l = member_layout m in
    let ls = map member_layout ms in
    let w = widest-by (nat_lt (length l.two_state) (length (widest_marks ls))) l ls refl in
    omega (arith, one-wide m h.0, most-wide ms h.1, w)

wides : Kinds Wide MemberWide
wides = record {
  member = λ m h. h;
  scalar = λ four s. shape-Scalar four s ∙ sym (ap (λ (l : Layout). length l.two_state) (layout-Scalar four s));
  packed = λ l r s item h. shape-PackedArray l r s item ∙ ap (λ n. count_of l r * n) h ∙ sym (width-PackedArray l r s item);
  structure = λ id packed s ms h. shape-Struct id packed s ms ∙ total-wide ms h ∙ sym (width-Struct id packed s ms);
  union = λ id s ms h. shape-Union id s ms ∙ most-wide ms h ∙ sym (width-Union id s ms);
  enumeration = λ id base names h. shape-Enum id base names ∙ h ∙ sym (ap (λ (l : Layout). length l.two_state) (layout-Enum id base names));
  unpacked = λ l r item h. shape-UnpackedArray l r item ∙ ap (λ n. count_of l r * n) h ∙ sym (width-UnpackedArray l r item);
}

pub shape-wide : (t : SvType) → (shape t).width ≡ width_of t
shape-wide = by-type Wide MemberWide wides

-- the value that a type makes of as many bits as it has
pub value-long : (t : SvType) (v : List Bit4) → length v ≡ width_of t → length (bits (value_of_bits t v)) ≡ width_of t
value-long t v h =
    let s = stored (layout t).two_state v in
    let e : length s ≡ width_of t = length-stored (layout t).two_state v h in
    ap length (bits-shape t s (e ∙ sym (shape-wide t))) ∙ e

-- casts
pub signed-sound : (k : Source) (first : ℕ) (s : Bool) (v : Valued) (gs : List Function) → Sound v gs → Sound (R.with_sign k first s v) gs
signed-sound k first s v gs x = cast-sound k first (vector (width v) s) v.expr gs (narrow-vector (width v) s (bits-of v gs x) x.of.narrow) (alone-of v gs x)

pub size-sound : (k : Source) (first n : ℕ) (i : ℕ × Valued) (v : Valued) (gs : List Function) → R.size_cast k first n i ≡ Ok v → 0 < n → Sound i.1 gs → Sound v gs
size-sound k first n i v gs h some s =
    let t = vector n (is_signed i.1) in
    let a = by_itself k first t (F.Cast i.1.expr) in
    as-is a v gs (ok-is a v (long-then k i.0 n (Ok a) v h)) (cast-sound k first t i.1.expr gs (narrow-vector n (is_signed i.1) some (long-no k i.0 n (Ok a) v h)) (alone-of i.1 gs s))

pub converted-sound : (k : Source) (first tick : ℕ) (t : SvType) (o : Operand) (v : Valued) (gs : List Function) → R.converted k first tick t o ≡ Ok v → is_full t ≡ true → SoundOperand o gs → Sound v gs
converted-sound k first tick t (Plain u) v gs h full s =
    let a = R.cast_expr k first t u.expr in
    let inner = refused (not (is_assignable t u.expr.of)) (position k u.first) 501 (Ok a) in
    let narrow : IsNarrowType t = record { full = full; narrow = long-no k tick (width_of t) inner v h } in
    as-is a v gs (ok-is a v (refused-then (not (is_assignable t u.expr.of)) (position k u.first) 501 (Ok a) v (long-then k tick (width_of t) inner v h)))
    (cast-sound k first t u.expr gs narrow (alone-of u gs s))
converted-sound k first tick t (Pattern other of) v gs h full s =
    let p = whole-part (of other t) (λ e. not_too_long k tick (width_of t) (Ok (R.cast_expr k first t e))) v h in
    let a = R.cast_expr k first t p.part in
    let narrow : IsNarrowType t = record { full = full; narrow = long-no k tick (width_of t) (Ok a) v p.made } in
    let x = s other t p.part full p.is in
    as-is a v gs (ok-is a v (long-then k tick (width_of t) (Ok a) v p.made))
    (cast-sound k first t p.part gs narrow (at-width (meaning p.part) [] gs (wide (meaning p.part)) x.sound.limits refl))
converted-sound k first tick t (Stream u) v gs h full s = absurd (cc)

pub pattern-cast-sound : (k : Source) (first : ℕ) (t : SvType) (o : Operand) (v : Valued) (gs : List Function) → R.pattern_of_type k first t o ≡ Ok v → is_full t ≡ true → SoundOperand o gs → Sound v gs
pattern-cast-sound k first t (Plain u) v gs h full s = absurd (cc)
pattern-cast-sound k first t (Pattern tick of) v gs h full s =
    let p = whole-part (of first t) (λ e. Ok (record { first = first; begins = first; is_unsized = false; expr = e; arithmetic = [] })) v h in
    let a : Valued = record { first = first; begins = first; is_unsized = false; expr = p.part; arithmetic = [] } in
    as-is a v gs (ok-is a v p.made) (s first t p.part full p.is).sound
pattern-cast-sound k first t (Stream u) v gs h full s = absurd (cc)

type-by : (k : Source) (first : ℕ) (t : SvType) (i : R.Inside) (v : Valued) (gs : List Function) (b : Bool) → cond b (R.pattern_of_type k first t i.of) (R.converted k first i.tick t i.of) ≡ Ok v → is_full t ≡ true → SoundOperand i.of gs → Sound v gs
type-by k first t i v gs true h full s = pattern-cast-sound k first t i.of v gs h full s
type-by k first t i v gs false h full s = converted-sound k first i.tick t i.of v gs h full s

pub type-sound : (k : Source) (first : ℕ) (t : SvType) (i : R.Inside) (v : Valued) (gs : List Function) → R.type_cast k first t i ≡ Ok v → is_full t ≡ true → SoundOperand i.of gs → Sound v gs
type-sound k first t i v gs h full s = type-by k first t i v gs i.is_pattern h full s

-- system functions
pub bits-number-sound : (k : Source) (name w : ℕ) (gs : List Function) → Sound (R.bits_number k name w) gs
bits-number-sound k name w gs =
    let v = vec 32 (pos w) in
    let long : length v ≡ width_of integer = length-vec 32 (pos w) ∙ sym (width-vector 32 true (omega arith)) in
    constant-value k name integer (value_of_bits integer v) gs
    (record { of = narrow-vector 32 true (omega arith) (omega arith); long = value-long integer v long })

pub clog2-sound : (k : Source) (name : ℕ) (v : Valued) (gs : List Function) → Sound v gs → Sound (by_itself k name integer (F.Clog2 v.expr)) gs
clog2-sound k name v gs s =
    made-alone k name integer (F.Clog2 v.expr) gs _ (L.form-Clog2 v.expr) (narrow-vector 32 true (omega arith) (omega arith))
    (M.clog2-limits (layout integer) name (meaning v.expr) gs (vector-of 32 true (omega arith) (omega arith)) (alone-of v gs s))
