-- Operators on vectors without a bit.
use Rattle.std.proofs.Common.{◌≡◌, ℕ, ◌-◌, Bool, true, false, List, [], ◌∷◌, ◌++◌, length, take, replicate, refl, arith, ap, sym, ◌∙◌}
use Rattle.b4_core.specs.declared.bit.Bit4.{Bit4}
use Rattle.b4_core.specs.declared.bit.Bit4.TheVariants.{Zero}
use Rattle.b4_core.specs.declared.operators.UnOp.{UnOp}
use Rattle.b4_core.specs.declared.operators.BinOp.{BinOp}
use Rattle.b4_core.specs.declared.operators.RedOp.{RedOp}
use Rattle.b4_core.specs.declared.operators.RedOp.TheVariants as R
use Rattle.b4_core.specs.declared.operators.OrdOp.{OrdOp}
use Rattle.b4_core.specs.declared.operators.OrdOp.TheVariants as O
use Rattle.b4_core.specs.declared.operators.ShiftOp.{ShiftOp}
use Rattle.b4_core.specs.Vectors.{ext, top_bit}
use Rattle.b4_core.specs.Unary.{unary_value}
use Rattle.b4_core.specs.Binary.{binary_value}
use Rattle.b4_core.specs.Shift.{shift_value}
use Rattle.b4_core.specs.Power.{power_value}
use Rattle.b4_core.specs.Reduce.{reduction}
use Rattle.b4_core.specs.Compare.{order_value}
use Rattle.sv_types.proofs.OperatorLengths.{length-unary, length-binary, length-shift, length-power}
use Rattle.v_eval.specs.Vectors.{fill_bit, none_ordered, none_reduced}

pub none-there : {A : Type 0} (v : List A) → length v ≡ 0 → v ≡ []
none-there [] h = refl
none-there (x ∷ v) h = absurd (omega (arith, h))

pub no-unary : (r : List Bit4) (op : UnOp) (v : List Bit4) → r ≡ [] → length v ≡ 0 → r ≡ unary_value op v
no-unary r op v e h = e ∙ sym (none-there (unary_value op v) (length-unary op v ∙ h))

pub no-binary : (r : List Bit4) (op : BinOp) (s : Bool) (a b : List Bit4) → r ≡ [] → length a ≡ 0 → length a ≡ length b → r ≡ binary_value op s a b
no-binary r op s a b f h e = f ∙ sym (none-there (binary_value op s a b) (length-binary op s a b 0 h (sym e ∙ h)))

pub no-shift : (r : List Bit4) (op : ShiftOp) (s : Bool) (v by : List Bit4) → r ≡ [] → length v ≡ 0 → r ≡ shift_value op s v by
no-shift r op s v by e h = e ∙ sym (none-there (shift_value op s v by) (length-shift op s v by ∙ h))

pub no-power : (r : List Bit4) (s t : Bool) (a b : List Bit4) → r ≡ [] → length a ≡ 0 → r ≡ power_value s t a b
no-power r s t a b e h = e ∙ sym (none-there (power_value s t a b) (length-power s t a b ∙ h))

-- a number without a bit is 0
pub by-nothing : (r : List Bit4) (op : ShiftOp) (s : Bool) (v w by : List Bit4) → r ≡ shift_value op s v w → w ≡ Zero ∷ [] → length by ≡ 0 → r ≡ shift_value op s v by
by-nothing r op s v w by is e h =
    let same : shift_value op s v (Zero ∷ []) ≡ shift_value op s v [] = refl in
    is ∙ ap (shift_value op s v) e ∙ same ∙ ap (shift_value op s v) (sym (none-there by h))

pub to-nothing : (r : List Bit4) (s t : Bool) (a w b : List Bit4) → r ≡ power_value s t a w → w ≡ Zero ∷ [] → length b ≡ 0 → r ≡ power_value s t a b
to-nothing r s t a w b is e h = is ∙ ap (power_value s t a) e ∙ same t ∙ ap (power_value s t a) (sym (none-there b h))
  where
    same : (u : Bool) → power_value s u a (Zero ∷ []) ≡ power_value s u a []
    same true = refl
    same false = refl

nothing-ordered : (op : OrdOp) (s : Bool) → none_ordered op ≡ order_value op s [] []
nothing-ordered O.Less true = refl
nothing-ordered O.Less false = refl
nothing-ordered O.LessEqual true = refl
nothing-ordered O.LessEqual false = refl
nothing-ordered O.Greater true = refl
nothing-ordered O.Greater false = refl
nothing-ordered O.GreaterEqual true = refl
nothing-ordered O.GreaterEqual false = refl

pub no-order : (r : Bit4) (op : OrdOp) (s : Bool) (a b : List Bit4) → r ≡ none_ordered op → length a ≡ 0 → length a ≡ length b → r ≡ order_value op s a b
no-order r op s a b is h e = is ∙ nothing-ordered op s ∙ ap (λ v. order_value op s v []) (sym (none-there a h)) ∙ ap (order_value op s a) (sym (none-there b (sym e ∙ h)))

nothing-reduced : (op : RedOp) → none_reduced op ≡ reduction op []
nothing-reduced R.And = refl
nothing-reduced R.Or = refl
nothing-reduced R.Xor = refl
nothing-reduced R.Nand = refl
nothing-reduced R.Nor = refl
nothing-reduced R.Xnor = refl

pub no-reduction : (r : Bit4) (op : RedOp) (v : List Bit4) → r ≡ none_reduced op → length v ≡ 0 → r ≡ reduction op v
no-reduction r op v is h = is ∙ nothing-reduced op ∙ ap (reduction op) (sym (none-there v h))

pub no-top : (v : List Bit4) → length v ≡ 0 → Zero ≡ top_bit v
no-top v h = sym (ap top_bit (none-there v h))

pub filled : (w : ℕ) (s : Bool) (v : List Bit4) → take w v ++ replicate (w - length v) (fill_bit s v) ≡ ext w s v
filled w true v = refl
filled w false v = refl

pub ruleset empties = (no-unary, no-binary, no-shift, no-power, by-nothing, to-nothing, no-order, no-reduction, no-top, filled)
