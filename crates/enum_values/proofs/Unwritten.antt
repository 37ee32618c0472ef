-- Values of names that aren't written.
use Rattle.std.proofs.Common.{◌≡◌, ℕ, ◌-◌, ◌^◌, ℤ, pos, ◌<◌, Bool, true, false, ◌&&◌, cond, not, List, [], length, Option, Some, None, refl, sym, ap, ◌∙◌, subst, arith}
use Rattle.std.specs.Prelude.{Result, Ok, Err, int_le, nat_lt}
use Rattle.std.proofs.lemmas.Bool.Decides.{nat_tests}
use Rattle.std.proofs.lemmas.Int.{ints}
use Rattle.std.proofs.lemmas.Nat.{pow_pos}
use Rattle.b4_core.specs.declared.bit.Bit4.{Bit4}
use Rattle.b4_core.specs.Vectors.{known, number}
use Rattle.sv_types.specs.declared.types.SvType.{SvType}
use Rattle.sv_types.specs.Layouts.{width_of}
use Rattle.sv_types.proofs.OperatorLengths.{length-vec}
use Rattle.lowering_laws.proofs.SignedNumbers.{known-vec}
use Rattle.expr_type.specs.declared.halt.Halt.{Halt}
use Rattle.expr_type.specs.declared.halt.Halt.TheVariants as H
use Rattle.expr_type.specs.Answers.{reason}
use Rattle.expr_type.specs.Names.{Source, position}
use Rattle.expr_type.specs.Operands.{in_range}
use Rattle.expr_type.specs.Shapes.{sign_of}
use Rattle.expr_type.specs.Types.{NameValue, least_value, most_value, next_value}
use Rattle.expr_type.specs.Typings.{Checked, refused, where_whole}
use Rattle.enum_types.specs.Bits.{BitsOf}
use Rattle.enum_types.specs.Naming as N
use Rattle.enum_types.specs.Naming.{IsInside, named}
use Rattle.enum_types.specs.Taken.{Holds, IsValue}
use Rattle.enum_types.specs.declared.taken.Taken.{Taken}
use Rattle.enum_types.proofs.Ranges.{least, largest, le-true, there, within}
use Rattle.enum_values.specs.Values.{AreInBase, IsInBase, Names, distinct, last_number, unwritten}
use Rattle.enum_values.proofs.Written.{is-inside, named-is}

-- the bits of the last value
pub last-long : (t : SvType) (v : List Bit4) → IsInBase t v → length v ≡ width_of t
last-long t v b = ap length b.bits ∙ length-vec (width_of t) (number (sign_of t) v)

pub last-known : (t : SvType) (v : List Bit4) → IsInBase t v → known v ≡ true
last-known t v b = ap known b.bits ∙ known-vec (width_of t) (number (sign_of t) v)

-- it is one that the base holds
pub value-inside : (t : SvType) (v : List Bit4) → 0 < width_of t → IsInBase t v → IsValue t (number (sign_of t) v)
value-inside t v h b =
    let i = within (sign_of t) (width_of t) v (last-long t v b) h (last-known t v b) in
    there (least_value t) (most_value t) (number (sign_of t) v) i.low i.high

pub last-of : (t : SvType) (o : Option (List Bit4)) (v : List Bit4) → o ≡ Some v → AreInBase t o → IsInBase t v
last-of t o v e b = subst (λ (x : Option (List Bit4)). AreInBase t x) e b

pub ruleset afters = (last-long, last-known, last-of)

-- a number in order is one that the base holds
order-by : (k : Source) (t : SvType) (at : ℕ) (before : List NameValue) (n : ℤ) (b : Bool)
    → where_whole (refused (not b) (position k at) 411 (Ok n)) (distinct k t at before) ≡ named k at at t before (cond b (Some n) None)
order-by k t at before n true = refl
order-by k t at before n false = refl

pub unwritten-is : (k : Source) (t : SvType) (at : ℕ) (before : List NameValue) (last : Option ℤ)
    → unwritten k t at before last ≡ named k at at t before (in_range (least_value t) (most_value t) (Some (next_value last)))
unwritten-is k t at before last = order-by k t at before (next_value last) (int_le (least_value t) (next_value last) && int_le (next_value last) (most_value t))

-- 0 is in each base
low-zero : (s : Bool) (w : ℕ) → int_le (least s w) (pos 0) ≡ true
low-zero true w = le-true (least true w) (pos 0) (omega (arith, ints))
low-zero false w = refl

high-zero : (s : Bool) (w : ℕ) → int_le (pos 0) (largest s w) ≡ true
high-zero true w = (let p : 0 < 2 ^ (w - 1) = pow_pos (w - 1) in le-true (pos 0) (largest true w) (omega (arith, ints, p)))
high-zero false w = (let p : 0 < 2 ^ w = pow_pos w in le-true (pos 0) (largest false w) (omega (arith, ints, p)))

zero-there : (s : Bool) (w : ℕ) → in_range (least s w) (largest s w) (Some (pos 0)) ≡ Some (pos 0)
zero-there s w =
    ap (λ (b : Bool). cond (b && int_le (pos 0) (largest s w)) (Some (pos 0)) None) (low-zero s w)
    ∙ ap (λ (b : Bool). cond b (Some (pos 0)) None) (high-zero s w)

long-zero : (k : Source) (t : SvType) (at : ℕ) → nat_lt 65536 (width_of t) ≡ true → reason (unwritten k t at [] None) ≡ Some (Some (record { at = at; rule = 701 }))
long-zero k t at e =
    ap reason (unwritten-is k t at [] None)
    ∙ ap (λ (o : Option ℤ). reason (named k at at t [] o)) (zero-there (sign_of t) (width_of t))
    ∙ ap (λ (b : Bool). reason (refused b (position k at) 701 the_name)) e
  where
    the_name : Checked NameValue
    the_name = Ok (record { at = at; number = pos 0 })

pub long-breaks : (k : Source) (t : SvType) (at : ℕ) (before : List NameValue) (o : Option (List Bit4)) (long : Bool) → long ≡ nat_lt 65536 (width_of t) → long ≡ true
    → (65536 < width_of t → o ≡ None) → (65536 < width_of t → before ≡ []) → Names t at (Err (H.Breaks at 701)) (unwritten k t at before (last_number t o))
long-breaks k t at before o long l m none empty =
    let wide : nat_lt 65536 (width_of t) ≡ true = sym l ∙ m in
    let less : 65536 < width_of t = grind (arith, nat_tests) in
    ap (λ (vs : List NameValue). reason (unwritten k t at vs (last_number t o))) (empty less)
    ∙ ap (λ (p : Option (List Bit4)). reason (unwritten k t at [] (last_number t p))) (none less)
    ∙ long-zero k t at wide

abbrev Told : SvType → ℕ → ℕ → Taken → Option (List Bit4) → Result (List Bit4) Halt → Type 0
Told t first at x o r = (k : Source) (before : List NameValue) (p : Option ℤ) → BitsOf t o p → IsInside t p → Holds t x before → N.Names t at r (named k first at t before p)

pub behind-named : (k : Source) (t : SvType) (at : ℕ) (x : Taken) (before : List NameValue) (last : Option (List Bit4)) (long : Bool) (o : Option (List Bit4)) (r : Result (List Bit4) Halt)
    → long ≡ nat_lt 65536 (width_of t) → long ≡ false → BitsOf t o (in_range (least_value t) (most_value t) (Some (next_value (last_number t last)))) → Told t at at x o r → Holds t x before
    → Names t at r (unwritten k t at before (last_number t last))
behind-named k t at x before last long o r l m bits told holds =
    let n = next_value (last_number t last) in
    let p = in_range (least_value t) (most_value t) (Some n) in
    subst (λ (c : Checked NameValue). Names t at r c) (sym (unwritten-is k t at before (last_number t last)))
    (named-is t at r (named k at at t before p) (sym l ∙ m) (told k before p bits (is-inside t (Some n) p refl) holds))

pub ruleset unwritings = (long-breaks, behind-named)
