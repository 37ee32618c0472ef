-- The results of operators have the length of their operands.
use Rattle.std.proofs.Common.{◌≡◌, ℕ, zero, suc, ◌-◌, ◌/◌, ◌==◌, min, Bool, true, false, ◌&&◌, if◌then◌else◌, ℤ, pos, negsuc, List, [], ◌∷◌, length, take, drop, replicate, refl, arith, ap, ◌∙◌, length-append}
use Rattle.std.specs.Int.{int_pow}
use Rattle.std.proofs.lemmas.List.{length-take, length-drop, length-map, length-replicate}
use Rattle.b4_core.specs.declared.bit.Bit4.{Bit4}
use Rattle.b4_core.specs.declared.bit.Bit4.TheVariants.{Zero, One, X, Z}
use Rattle.b4_core.specs.declared.operators.UnOp.{UnOp}
use Rattle.b4_core.specs.declared.operators.UnOp.TheVariants as U
use Rattle.b4_core.specs.declared.operators.BinOp.{BinOp}
use Rattle.b4_core.specs.declared.operators.BinOp.TheVariants as B
use Rattle.b4_core.specs.declared.operators.ShiftOp.{ShiftOp}
use Rattle.b4_core.specs.declared.operators.ShiftOp.TheVariants as S
use Rattle.b4_core.specs.Bits.{not4, merge4, and4, or4, xor4, xnor4}
use Rattle.b4_core.specs.Vectors.{known, unknown, num, number, vec, digits, ext, bitwise, top_bit}
use Rattle.b4_core.specs.Unary.{unary_value}
use Rattle.b4_core.specs.Binary.{binary_value, arithmetic, division}
use Rattle.b4_core.specs.Shift.{shift_value, shift_by, shift_up, shift_down}
use Rattle.b4_core.specs.Power.{power_value, power_of, inverse_power}
use Rattle.std.specs.Prelude.{int_div, int_rem, ◌+ℤ◌, ◌-ℤ◌, ◌*ℤ◌}
use Rattle.sv_types.specs.Operators.{chosen}

pub length-ext : (w : ℕ) (s : Bool) (v : List Bit4) → length (ext w s v) ≡ w
length-ext w true v =
    length-append (take w v) (replicate (w - length v) (top_bit v)) ∙ omega (arith, length-take w v, length-replicate (w - length v) (top_bit v))
length-ext w false v =
    length-append (take w v) (replicate (w - length v) Zero) ∙ omega (arith, length-take w v, length-replicate (w - length v) Zero)

length-digits : (w n : ℕ) → length (digits w n) ≡ w
length-digits zero n = refl
length-digits (suc w) n = ap suc (length-digits w (n / 2))

pub length-vec : (w : ℕ) (n : ℤ) → length (vec w n) ≡ w
length-vec w n = length-digits w _

pub length-unknown : (w : ℕ) → length (unknown w) ≡ w
length-unknown w = length-replicate w X

length-if : (b : Bool) (x y : List Bit4) (n : ℕ) → length x ≡ n → length y ≡ n → length (if b then x else y) ≡ n
length-if true x y n h g = h
length-if false x y n h g = g

pub length-bitwise : (f : Bit4 → Bit4 → Bit4) (a b : List Bit4) (w : ℕ) → length a ≡ w → length b ≡ w → length (bitwise f a b) ≡ w
length-bitwise f [] b w h g = h
length-bitwise f (x ∷ a) [] w h g = g
length-bitwise f (x ∷ a) (y ∷ b) zero h g = absurd (omega arith)
length-bitwise f (x ∷ a) (y ∷ b) (suc w) h g = ap suc (length-bitwise f a b w (omega arith) (omega arith))

pub length-unary : (op : UnOp) (v : List Bit4) → length (unary_value op v) ≡ length v
length-unary U.Not v = length-map v not4
length-unary U.Neg v = length-if (known v) _ _ (length v) (length-vec (length v) _) (length-unknown (length v))

length-arithmetic : (f : ℤ → ℤ → ℤ) (s : Bool) (a b : List Bit4) → length (arithmetic f s a b) ≡ length a
length-arithmetic f s a b =
    length-if (known a && known b) _ _ (length a) (length-vec (length a) (f (number s a) (number s b))) (length-unknown (length a))

length-division : (f : ℤ → ℤ → ℤ) (s : Bool) (a b : List Bit4) → length (division f s a b) ≡ length a
length-division f s a b = length-if (num b == 0) _ _ (length a) (length-unknown (length a)) (length-arithmetic f s a b)

pub length-binary : (op : BinOp) (s : Bool) (a b : List Bit4) (w : ℕ) → length a ≡ w → length b ≡ w → length (binary_value op s a b) ≡ w
length-binary B.And s a b w h g = length-bitwise and4 a b w h g
length-binary B.Or s a b w h g = length-bitwise or4 a b w h g
length-binary B.Xor s a b w h g = length-bitwise xor4 a b w h g
length-binary B.Xnor s a b w h g = length-bitwise xnor4 a b w h g
length-binary B.Add s a b w h g = length-arithmetic (λ x y. x +ℤ y) s a b ∙ h
length-binary B.Sub s a b w h g = length-arithmetic (λ x y. x -ℤ y) s a b ∙ h
length-binary B.Mul s a b w h g = length-arithmetic (λ x y. x *ℤ y) s a b ∙ h
length-binary B.Div s a b w h g = length-division int_div s a b ∙ h
length-binary B.Rem s a b w h g = length-division int_rem s a b ∙ h

length-up : (n : ℕ) (v : List Bit4) → length (shift_up n v) ≡ length v
length-up n v =
    let k = min n (length v) in
    length-append (replicate k Zero) (take (length v - k) v) ∙ omega (arith, length-replicate k Zero, length-take (length v - k) v)

length-down : (fill : Bit4) (n : ℕ) (v : List Bit4) → length (shift_down fill n v) ≡ length v
length-down fill n v =
    let k = min n (length v) in
    length-append (drop k v) (replicate k fill) ∙ omega (arith, length-replicate k fill, length-drop k v)

length-shift_by : (op : ShiftOp) (s : Bool) (n : ℕ) (v : List Bit4) → length (shift_by op s n v) ≡ length v
length-shift_by S.Left s n v = length-up n v
length-shift_by S.Right s n v = length-down Zero n v
length-shift_by S.Arith true n v = length-down (top_bit v) n v
length-shift_by S.Arith false n v = length-down Zero n v

pub length-shift : (op : ShiftOp) (s : Bool) (v by : List Bit4) → length (shift_value op s v by) ≡ length v
length-shift op s v by = length-if (known by) _ _ (length v) (length-shift_by op s (num by) v) (length-unknown (length v))

length-inverse : (w : ℕ) (x : ℤ) (n : ℕ) → length (inverse_power w x n) ≡ w
length-inverse w (pos zero) n = length-unknown w
length-inverse w (pos (suc zero)) n = length-vec w (pos 1)
length-inverse w (pos (suc (suc x))) n = length-vec w (pos 0)
length-inverse w (negsuc zero) n = length-vec w (int_pow (negsuc 0) n)
length-inverse w (negsuc (suc x)) n = length-vec w (pos 0)

length-power_of : (w : ℕ) (x y : ℤ) → length (power_of w x y) ≡ w
length-power_of w x (pos n) = length-vec w (int_pow x n)
length-power_of w x (negsuc n) = length-inverse w x (suc n)

pub length-power : (s t : Bool) (a b : List Bit4) → length (power_value s t a b) ≡ length a
length-power s t a b =
    length-if (known a && known b) _ _ (length a) (length-power_of (length a) (number s a) (number t b)) (length-unknown (length a))

pub length-chosen : (on : Bit4) (l r : List Bit4) (w : ℕ) → length l ≡ w → length r ≡ w → length (chosen on l r) ≡ w
length-chosen Zero l r w h g = g
length-chosen One l r w h g = h
length-chosen X l r w h g = length-bitwise merge4 l r w h g
length-chosen Z l r w h g = length-bitwise merge4 l r w h g
