-- Values of names that are written.
use Rattle.std.proofs.Common.{◌≡◌, ℕ, ℤ, ◌<◌, ◌≤◌, Bool, true, false, ◌&&◌, cond, List, [], Option, Some, None, refl, sym, ap, ◌∙◌, subst, arith}
use Rattle.std.specs.Prelude.{Result, Ok, Err, int_le, nat_lt, is_some}
use Rattle.std.proofs.lemmas.Bool.Decides.{nat_tests}
use Rattle.b4_core.specs.declared.bit.Bit4.{Bit4}
use Rattle.sv_types.specs.declared.statement.Function.{Function}
use Rattle.sv_types.specs.declared.types.SvType.{SvType}
use Rattle.sv_types.specs.Expressions.{meaning}
use Rattle.sv_types.specs.Layouts.{width_of}
use Rattle.sv_types.specs.Meanings.{signed}
use Rattle.const_eval.specs.Numbers.{number_if_known}
use Rattle.expr_type.specs.declared.halt.Halt.{Halt}
use Rattle.expr_type.specs.declared.operand.Number.{Number}
use Rattle.expr_type.specs.declared.operand.Valued.{Valued}
use Rattle.expr_type.specs.Answers.{HaltsBy, reason}
use Rattle.expr_type.specs.Names.{Source, position}
use Rattle.expr_type.specs.Operands.{in_range}
use Rattle.expr_type.specs.Types.{NameValue, is_name_number, least_value, most_value}
use Rattle.expr_type.specs.Typings.{Checked, refused, where_whole}
use Rattle.constant_types.proofs.Sizes.{none-stops}
use Rattle.enum_types.specs.Bits.{BitsOf, HasBits, value_in}
use Rattle.enum_types.specs.Naming as N
use Rattle.enum_types.specs.Naming.{IsInside, named}
use Rattle.enum_types.specs.Taken.{Holds, IsValue}
use Rattle.enum_types.specs.declared.taken.Taken.{Taken}
use Rattle.enum_values.specs.Constants as C
use Rattle.enum_values.specs.Values.{Names, distinct, long_halt, written}

-- what a part breaks, the whole does
pub halts-on : {A B : Type 0} (h : Halt) (x : Checked A) (f : A → Checked B) → HaltsBy h (reason x) → HaltsBy h (reason (where_whole x f))
halts-on h (Ok a) f s = none-stops h (reason (f a)) s
halts-on h (Err b) f s = s

-- a number in a range is one
inside-by : (low high n : ℤ) (b : Bool) → (int_le low n && int_le n high) ≡ b → (m : ℤ) → cond b (Some n) None ≡ Some m → in_range low high (Some m) ≡ Some m
inside-by low high n true e m is =
    let same : n ≡ m = cc in
    subst (λ (x : ℤ). in_range low high (Some x) ≡ Some x) same (ap (λ (b : Bool). cond b (Some n) None) e)
inside-by low high n false e m is = absurd (cc)

inside-some : (t : SvType) (x : Option ℤ) (m : ℤ) → in_range (least_value t) (most_value t) x ≡ Some m → IsValue t m
inside-some t None m e = absurd (cc)
inside-some t (Some n) m e = inside-by (least_value t) (most_value t) n (int_le (least_value t) n && int_le n (most_value t)) refl m e

pub is-inside : (t : SvType) (x o : Option ℤ) → in_range (least_value t) (most_value t) x ≡ o → IsInside t o
is-inside t x None e = tt
is-inside t x (Some m) e = inside-some t x m e

-- the bits of a name, where the base isn't long
short-base : (w : ℕ) → nat_lt 65536 w ≡ false → w ≤ 65536
short-base w e = grind (arith, nat_tests)

pub named-is : (t : SvType) (at : ℕ) (r : Result (List Bit4) Halt) (m : Checked NameValue) → nat_lt 65536 (width_of t) ≡ false → N.Names t at r m → Names t at r m
named-is t at (Ok v) m e (n, is, b) = record {
  value = is ∙ ap (λ (x : ℤ). Ok (record { at = at; number = x })) (sym b.number);
  bits = subst (λ (x : ℤ). HasBits t v x) (sym b.number) b;
  short = short-base (width_of t) e;
}
named-is t at (Err h) m e s = s

-- a constant whose bits are known
abbrev value_of : SvType → Valued → List Bit4 → Option ℤ
value_of t v b = value_in t (signed (meaning v.expr)) b

given-is : (k : Source) (t : SvType) (at : ℕ) (before : List NameValue) (v : Valued) (fs : List Function) (b : List Bit4) → C.HasBits (Ok b) k v fs
    → written k t at before v fs ≡ named k v.first at t before (value_of t v b)
given-is k t at before v fs b g = ap (λ (x : Checked Number). where_whole x (λ n. distinct k t at before n.number)) (g (least_value t) (most_value t))

pub constant-stops : (k : Source) (t : SvType) (at : ℕ) (before : List NameValue) (v : Valued) (fs : List Function) (h : Halt) → C.HasBits (Err h) k v fs → Names t at (Err h) (written k t at before v fs)
constant-stops k t at before v fs h g = halts-on h (is_name_number k (least_value t) (most_value t) v fs) (λ n. distinct k t at before n.number) (g (least_value t) (most_value t))

long-by : (k : Source) (t : SvType) (first at : ℕ) (o : Option ℤ) → nat_lt 65536 (width_of t) ≡ true → HaltsBy (long_halt at first (is_some o)) (reason (named k first at t [] o))
long-by k t first at None e = refl
long-by k t first at (Some n) e = ap (λ (b : Bool). reason (refused b (position k at) 701 (the_name n))) e
  where
    the_name : ℤ → Checked NameValue
    the_name n = Ok (record { at = at; number = n })

pub long-stops : (k : Source) (t : SvType) (at : ℕ) (before : List NameValue) (v : Valued) (fs : List Function) (b : List Bit4) (s held long : Bool) (h : Halt) → C.HasBits (Ok b) k v fs
    → s ≡ signed (meaning v.expr) → held ≡ is_some (value_in t s b) → long ≡ nat_lt 65536 (width_of t) → long ≡ true → h ≡ long_halt at v.first held → (65536 < width_of t → before ≡ [])
    → Names t at (Err h) (written k t at before v fs)
long-stops k t at before v fs b s held long h g sign has l m is none =
    let wide : nat_lt 65536 (width_of t) ≡ true = sym l ∙ m in
    let empty : before ≡ [] = none (grind (arith, nat_tests)) in
    let told : held ≡ is_some (value_of t v b) = has ∙ ap (λ (x : Bool). is_some (value_in t x b)) sign in
    subst (λ (x : Halt). HaltsBy x (reason (written k t at before v fs))) (sym (is ∙ ap (long_halt at v.first) told))
    (subst (λ (m : Checked NameValue). HaltsBy (long_halt at v.first (is_some (value_of t v b))) (reason m))
    (sym (given-is k t at before v fs b g ∙ ap (λ (vs : List NameValue). named k v.first at t vs (value_of t v b)) empty)) (long-by k t v.first at (value_of t v b) wide))

abbrev Told : SvType → ℕ → ℕ → Taken → Option (List Bit4) → Result (List Bit4) Halt → Type 0
Told t first at x o r = (k : Source) (before : List NameValue) (p : Option ℤ) → BitsOf t o p → IsInside t p → Holds t x before → N.Names t at r (named k first at t before p)

pub short-named : (k : Source) (t : SvType) (at : ℕ) (x : Taken) (before : List NameValue) (v : Valued) (fs : List Function) (b : List Bit4) (s long : Bool) (o : Option (List Bit4)) (r : Result (List Bit4) Halt)
    → C.HasBits (Ok b) k v fs → s ≡ signed (meaning v.expr) → long ≡ nat_lt 65536 (width_of t) → long ≡ false → BitsOf t o (value_in t s b) → Told t v.first at x o r → Holds t x before
    → Names t at r (written k t at before v fs)
short-named k t at x before v fs b s long o r g sign l m bits told holds =
    let same : value_in t s b ≡ value_of t v b = ap (λ (y : Bool). value_in t y b) sign in
    subst (λ (c : Checked NameValue). Names t at r c) (sym (given-is k t at before v fs b g ∙ ap (λ (p : Option ℤ). named k v.first at t before p) (sym same)))
    (named-is t at r (named k v.first at t before (value_in t s b)) (sym l ∙ m)
    (told k before (value_in t s b) bits (is-inside t (number_if_known s b) (value_in t s b) refl) holds))

pub ruleset writing = (constant-stops, long-stops, short-named)
