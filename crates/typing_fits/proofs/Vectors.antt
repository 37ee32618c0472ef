-- Types that operators give.
use Rattle.std.proofs.Common.{◌≡◌, ℕ, zero, suc, ◌*◌, ◌<◌, ◌≤◌, Bool, true, false, ◌&&◌, ◌==◌, cond, List, [], ◌∷◌, ◌++◌, length, replicate, refl, arith, ap, sym, ◌∙◌, subst}
use Rattle.std.specs.Prelude.{nat_lt, pos, ◌-ℤ◌}
use Rattle.std.specs.List.{list_any}
use Rattle.std.proofs.lemmas.Bool.Decides.{nat_tests}
use Rattle.std.proofs.lemmas.Int.{ints}
use Rattle.sv_types.specs.declared.types.SvType.{SvType}
use Rattle.sv_types.specs.declared.types.SvType.TheVariants as V
use Rattle.sv_types.specs.Layouts.{Layout, layout, width_of, count_of, stacked, repeated}
use Rattle.sv_types.specs.Meanings.{misfit, without_bits, same_sign}
use Rattle.sv_types.proofs.Lengths.{layout-Scalar, layout-PackedArray, width-PackedArray}
use Rattle.expr_type.specs.Shapes.{one_bit, vector}
use Rattle.typing_fits.specs.Types.{is_full}
use Rattle.typing_fits.specs.Sound.{IsNarrowType}
use Rattle.typing_fits.proofs.Full.{full-bits, full-Scalar, full-PackedArray}

-- a type of a width and a sign
pub record IsResult (of : Layout) (n : ℕ) (s : Bool) : Type 0 where
  pub some : without_bits of ≡ 0
  pub narrow : length of.two_state ≤ 4194304
  pub same : misfit of n s ≡ 0

-- without a two-state bit
pub record IsVector (of : Layout) (n : ℕ) (s : Bool) : Type 0 where
  pub result : IsResult of n s
  pub four : cond {A = ℕ} (list_any (λ b. b) of.two_state) 1 0 ≡ 0

some-bits : (b : Bool) (n : ℕ) → nat_lt 0 n ≡ b → 0 < n → cond {A = ℕ} b 0 1 ≡ 0
some-bits true n is h = refl
some-bits false n is h = absurd (grind (arith, nat_tests))

pub has-bits : (t : SvType) → is_full t ≡ true → without_bits (layout t) ≡ 0
has-bits t full = some-bits (nat_lt 0 (width_of t)) (width_of t) refl (full-bits t full)

sign-same : (s : Bool) → same_sign s s ≡ true
sign-same true = refl
sign-same false = refl

fit-by : (b : Bool) (n m : ℕ) → (n == m) ≡ b → n ≡ m → cond {A = ℕ} (b && true) 0 1 ≡ 0
fit-by true n m is h = refl
fit-by false n m is h = absurd (grind (arith, nat_tests))

pub fitting : (of : Layout) (n : ℕ) (s : Bool) → length of.two_state ≡ n → of.signed ≡ s → misfit of n s ≡ 0
fitting of n s h e =
    ap (λ t. misfit of n t) (sym e)
    ∙ ap (λ b. cond {A = ℕ} ((length of.two_state == n) && b) 0 1) (sign-same of.signed)
    ∙ fit-by (length of.two_state == n) (length of.two_state) n refl h

pub result-of : (t : SvType) (n : ℕ) (s : Bool) → IsNarrowType t → width_of t ≡ n → (layout t).signed ≡ s → IsResult (layout t) n s
result-of t n s h is sign = record { some = has-bits t h.full; narrow = h.narrow; same = fitting (layout t) n s is sign }

pub result-as : (of : Layout) (n m : ℕ) (s u : Bool) → IsResult of n s → n ≡ m → s ≡ u → IsResult of m u
result-as of n m s u v is sign = subst (λ k. IsResult of m k) sign (subst (λ k. IsResult of k s) is v)

pub vector-as : (of : Layout) (n m : ℕ) (s u : Bool) → IsVector of n s → n ≡ m → s ≡ u → IsVector of m u
vector-as of n m s u v is sign = subst (λ k. IsVector of m k) sign (subst (λ k. IsVector of k s) is v)

-- vectors
any-append : (xs ys : List Bool) → list_any (λ b. b) xs ≡ false → list_any (λ b. b) ys ≡ false → list_any (λ b. b) (xs ++ ys) ≡ false
any-append [] ys h k = k
any-append (true ∷ xs) ys h k = h
any-append (false ∷ xs) ys h k = any-append xs ys h k

any-stacked : (n : ℕ) (xs : List Bool) → list_any (λ b. b) xs ≡ false → list_any (λ b. b) (stacked (replicate n xs)) ≡ false
any-stacked zero xs h = refl
any-stacked (suc n) xs h = any-append (stacked (replicate n xs)) xs (any-stacked n xs h) h

any-repeated : (n : ℕ) (xs : List Bool) → list_any (λ b. b) xs ≡ false → list_any (λ b. b) (repeated n xs) ≡ false
unfolding repeated
any-repeated n xs h = any-stacked n xs h

pub width-one_bit : width_of one_bit ≡ 1
width-one_bit = ap (λ (l : Layout). length l.two_state) (layout-Scalar true false)

pub count-down : (w : ℕ) → 0 < w → count_of (pos w -ℤ pos 1) (pos 0) ≡ w
count-down w h = omega (arith, ints)

pub width-vector : (w : ℕ) (s : Bool) → 0 < w → width_of (vector w s) ≡ w
width-vector w s h =
    width-PackedArray (pos w -ℤ pos 1) (pos 0) s (V.Scalar true false)
    ∙ ap (λ n. n * width_of one_bit) (count-down w h) ∙ ap (λ n. w * n) width-one_bit ∙ omega arith

pub sign-vector : (w : ℕ) (s : Bool) → (layout (vector w s)).signed ≡ s
sign-vector w s = ap (λ (l : Layout). l.signed) (layout-PackedArray (pos w -ℤ pos 1) (pos 0) s (V.Scalar true false))

pub narrow-vector : (w : ℕ) (s : Bool) → 0 < w → w ≤ 4194304 → IsNarrowType (vector w s)
narrow-vector w s h n = record {
  full = full-PackedArray (pos w -ℤ pos 1) (pos 0) s (V.Scalar true false) ∙ full-Scalar true false;
  narrow = omega (arith, width-vector w s h);
}

pub narrow-one_bit : IsNarrowType one_bit
narrow-one_bit = record { full = full-Scalar true false; narrow = omega (arith, width-one_bit) }

four-of : (of : Layout) → list_any (λ b. b) of.two_state ≡ false → cond {A = ℕ} (list_any (λ b. b) of.two_state) 1 0 ≡ 0
four-of of h = ap (λ b. cond {A = ℕ} b 1 0) h

four-one_bit : list_any (λ b. b) (layout one_bit).two_state ≡ false
four-one_bit = ap (λ (l : Layout). list_any (λ b. b) l.two_state) (layout-Scalar true false)

four-vector : (w : ℕ) (s : Bool) → list_any (λ b. b) (layout (vector w s)).two_state ≡ false
four-vector w s =
    ap (λ (l : Layout). list_any (λ b. b) l.two_state) (layout-PackedArray (pos w -ℤ pos 1) (pos 0) s (V.Scalar true false))
    ∙ any-repeated (count_of (pos w -ℤ pos 1) (pos 0)) (layout one_bit).two_state four-one_bit

pub vector-of : (w : ℕ) (s : Bool) → 0 < w → w ≤ 4194304 → IsVector (layout (vector w s)) w s
vector-of w s h n = record {
  result = result-of (vector w s) w s (narrow-vector w s h n) (width-vector w s h) (sign-vector w s);
  four = four-of (layout (vector w s)) (four-vector w s);
}

pub one_bit-of : IsVector (layout one_bit) 1 false
one_bit-of = record {
  result = result-of one_bit 1 false narrow-one_bit width-one_bit (ap (λ (l : Layout). l.signed) (layout-Scalar true false));
  four = four-of (layout one_bit) four-one_bit;
}
