-- Numbers of fewer bits than a base has.
use Rattle.std.proofs.Common.{◌≡◌, ℕ, ◌-◌, ◌^◌, ◌<◌, ◌≤◌, ℤ, pos, negsuc, ◌-ℤ◌, Bool, true, false, ◌&&◌, cond, not, List, length, Option, Some, None, refl, sym, ap, ◌∙◌, arith}
use Rattle.std.specs.Prelude.{◌||◌, is_some, ◌≤ℤ◌}
use Rattle.std.proofs.lemmas.Int.{ints}
use Rattle.std.proofs.Math.Nat.{pow-le-pow_right}
use Rattle.b4_core.specs.declared.bit.Bit4.{Bit4}
use Rattle.b4_core.specs.Bits.{is_one}
use Rattle.b4_core.specs.Vectors.{known, num, snum, number, top_bit}
use Rattle.b4_core.proofs.Numbers.{num_lt}
use Rattle.sv_types.specs.declared.types.SvType.{SvType}
use Rattle.sv_types.specs.Layouts.{width_of}
use Rattle.lowering_laws.proofs.SignedNumbers.{snum-of}
use Rattle.expr_type.specs.Operands.{in_range}
use Rattle.expr_type.specs.Shapes.{sign_of}
use Rattle.expr_type.specs.Types.{least_value, most_value}
use Rattle.enum_types.specs.Bits.{value_in, BitsOf}
use Rattle.enum_types.proofs.Ranges.{Within, known-value, least, largest, there, within}

more-bits : (i j : ℕ) → i ≤ j → 2 ^ i ≤ 2 ^ j
more-bits i j h = pow-le-pow_right (omega arith) h

-- a number that isn't negative, and a negative one
holds-by : (low high n : ℤ) → low ≤ℤ n → n ≤ℤ high → is_some (in_range low high (Some n)) ≡ true
holds-by low high n f g = ap is_some (there low high n f g)

below-none : (high : ℤ) (m : ℕ) → is_some (in_range (pos 0) high (Some (negsuc m))) ≡ false
below-none high m = refl

negative-none : (high n : ℤ) → n ≤ℤ negsuc 0 → is_some (in_range (pos 0) high (Some n)) ≡ false
negative-none high (negsuc m) h = below-none high m
negative-none high (pos m) h = absurd (omega (arith, ints, h))

module _ (w wide : ℕ) (v : List Bit4) (long : length v ≡ w) (some : 0 < w) (far : w < wide) (k : known v ≡ true) where
  far-signed : (s : Bool) → is_some (in_range (least true wide) (largest true wide) (Some (number s v))) ≡ true
  far-signed true =
      let i : Within true w (number true v) = within true w v long some k in
      let p : 2 ^ (w - 1) ≤ 2 ^ (wide - 1) = more-bits (w - 1) (wide - 1) (omega arith) in
      holds-by (least true wide) (largest true wide) (number true v) (omega (arith, ints, i.low, p)) (omega (arith, ints, i.high, p))
  far-signed false =
      let i : Within false w (number false v) = within false w v long some k in
      let p : 2 ^ w ≤ 2 ^ (wide - 1) = more-bits w (wide - 1) (omega arith) in
      holds-by (least true wide) (largest true wide) (number false v) (omega (arith, ints, i.low)) (omega (arith, ints, i.high, p))

  far-plain : is_some (in_range (least false wide) (largest false wide) (Some (pos (num v)))) ≡ true
  far-plain =
      let i : Within false w (number false v) = within false w v long some k in
      let p : 2 ^ w ≤ 2 ^ wide = more-bits w wide (omega arith) in
      holds-by (least false wide) (largest false wide) (pos (num v)) (omega (arith, ints)) (omega (arith, ints, i.high, p))

  far-unsigned : (t : Bool) → is_one (top_bit v) ≡ t → is_some (in_range (least false wide) (largest false wide) (Some (snum v))) ≡ not t
  far-unsigned true e =
      let less : num v < 2 ^ length v = num_lt v in
      let is : snum v ≡ pos (num v) -ℤ pos (2 ^ length v) = snum-of v true e in
      negative-none (largest false wide) (snum v) (omega (arith, ints, is, less))
  far-unsigned false e = ap (λ (n : ℤ). is_some (in_range (least false wide) (largest false wide) (Some n))) (snum-of v false e) ∙ far-plain

  far-by : (t s : Bool) → is_some (in_range (least t wide) (largest t wide) (Some (number s v))) ≡ t || (not s || not (is_one (top_bit v)))
  far-by true s = far-signed s
  far-by false false = far-plain
  far-by false true = far-unsigned (is_one (top_bit v)) refl

unknown-none : (t : SvType) (s : Bool) (v : List Bit4) (b : Bool) → known v ≡ b → b ≡ false → is_some (value_in t s v) ≡ false
unknown-none t s v b k e = ap (λ c. is_some (in_range (least_value t) (most_value t) (cond c (Some (number s v)) None))) (k ∙ e)

-- whether the base holds a number of fewer bits
pub far-holds : (t : SvType) (s : Bool) (v : List Bit4) → 0 < length v → length v < width_of t
    → (known v && (sign_of t || (not s || not (is_one (top_bit v))))) ≡ is_some (value_in t s v)
far-holds t s v some far = by (known v) refl
  where
    by : (b : Bool) → known v ≡ b → (known v && (sign_of t || (not s || not (is_one (top_bit v))))) ≡ is_some (value_in t s v)
    by true k =
        ap (λ b. b && (sign_of t || (not s || not (is_one (top_bit v))))) k
        ∙ sym (ap is_some (known-value t s v k) ∙ far-by (length v) (width_of t) v refl some far k (sign_of t) s)
    by false k = ap (λ b. b && (sign_of t || (not s || not (is_one (top_bit v))))) k ∙ sym (unknown-none t s v false k refl)

-- as the tests tell it
module _ (t : SvType) (s : Bool) (v : List Bit4) (some : 0 < length v) (far : length v < width_of t) where
  pub far-unknown : (k : Bool) → k ≡ known v → k ≡ false → false ≡ is_some (value_in t s v)
  far-unknown k e f = ap (λ b. b && (sign_of t || (not s || not (is_one (top_bit v))))) (sym f ∙ e) ∙ far-holds t s v some far

  pub far-base : (k b : Bool) → k ≡ known v → k ≡ true → b ≡ sign_of t → b ≡ true → true ≡ is_some (value_in t s v)
  far-base k b e f g h =
      ap (λ x. true && (x || (not s || not (is_one (top_bit v))))) (sym h)
      ∙ ap (λ x. x && (b || (not s || not (is_one (top_bit v))))) (sym f ∙ e)
      ∙ ap (λ x. known v && (x || (not s || not (is_one (top_bit v))))) g ∙ far-holds t s v some far

  either : (b : Bool) → true ≡ (b || true)
  either true = refl
  either false = refl

  pub far-plainly : (k : Bool) → k ≡ known v → k ≡ true → s ≡ false → true ≡ is_some (value_in t s v)
  far-plainly k e f g =
      either (sign_of t)
      ∙ ap (λ x. sign_of t || (not x || not (is_one (top_bit v)))) (sym g)
      ∙ ap (λ x. x && (sign_of t || (not s || not (is_one (top_bit v))))) (sym f ∙ e) ∙ far-holds t s v some far

  pub far-top : (k b o : Bool) → k ≡ known v → k ≡ true → b ≡ sign_of t → b ≡ false → s ≡ true → o ≡ is_one (top_bit v) → not o ≡ is_some (value_in t s v)
  far-top k b o e f g h i j =
      ap (λ x. not x) j
      ∙ ap (λ x. not x || not (is_one (top_bit v))) (sym i)
      ∙ ap (λ x. x || (not s || not (is_one (top_bit v)))) (sym h ∙ g)
      ∙ ap (λ x. x && (sign_of t || (not s || not (is_one (top_bit v))))) (sym f ∙ e) ∙ far-holds t s v some far

pub ruleset far = (far-unknown, far-base, far-plainly, far-top)

-- whether there are bits of it
pub some-bits : (t : SvType) (o : Option (List Bit4)) (p : Option ℤ) → BitsOf t o p → is_some o ≡ is_some p
some-bits t None None b = refl
some-bits t None (Some n) b = absurd b
some-bits t (Some v) None b = absurd b
some-bits t (Some v) (Some n) b = refl

pub ruleset holding = (some-bits)
