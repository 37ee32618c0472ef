-- The value of a name where it breaks a rule, and where it doesn't.
use Rattle.std.proofs.Common.{◌≡◌, ℕ, ℤ, Bool, true, false, List, Option, Some, None, refl, sym, ap, ◌∙◌}
use Rattle.std.specs.Prelude.{nat_lt, Ok}
use Rattle.b4_core.specs.declared.bit.Bit4.{Bit4}
use Rattle.sv_types.specs.declared.types.SvType.{SvType}
use Rattle.sv_types.specs.Layouts.{width_of}
use Rattle.expr_type.specs.Answers.{reason}
use Rattle.expr_type.specs.Names.{Source, position}
use Rattle.expr_type.specs.Types.{NameValue, is_taken}
use Rattle.expr_type.specs.Typings.{Checked, refused}
use Rattle.enum_types.specs.declared.taken.Taken.{Taken}
use Rattle.enum_types.specs.Bits.{BitsOf, HasBits}
use Rattle.enum_types.specs.Naming.{IsInside, named}
use Rattle.enum_types.specs.Taken.{Holds, IsValue}

-- what is told of a value by the table
abbrev Told : Taken → List Bit4 → Bool → Type 0
Told x v b = (t : SvType) (vs : List NameValue) (n : ℤ) → Holds t x vs → IsValue t n → HasBits t v n → b ≡ is_taken vs n

abbrev name_value : ℕ → ℤ → Checked NameValue
name_value at n = Ok (record { at = at; number = n })

by-tests : (k : Source) (at : ℕ) (n : ℤ) (first second a b : Bool) → first ≡ a → second ≡ b
    → refused first (position k at) 509 (refused second (position k at) 701 (name_value at n)) ≡ refused a (position k at) 509 (refused b (position k at) 701 (name_value at n))
by-tests k at n first second a b e f =
    ap (λ (x : Bool). refused x (position k at) 509 (refused second (position k at) 701 (name_value at n))) e
    ∙ ap (λ (x : Bool). refused a (position k at) 509 (refused x (position k at) 701 (name_value at n))) f

pub none-said : (t : SvType) (first at : ℕ) (k : Source) (vs : List NameValue) (o : Option ℤ) → BitsOf t None o
    → reason (named k first at t vs o) ≡ Some (Some (record { at = first; rule = 411 }))
none-said t first at k vs None b = refl
none-said t first at k vs (Some n) b = absurd b

pub taken-said : (t : SvType) (x : Taken) (v : List Bit4) (b : Bool) (first at : ℕ) (k : Source) (vs : List NameValue) (o : Option ℤ) → Told x v b → b ≡ true
    → BitsOf t (Some v) o → IsInside t o → Holds t x vs → reason (named k first at t vs o) ≡ Some (Some (record { at = at; rule = 509 }))
taken-said t x v b first at k vs None told e s i h = absurd s
taken-said t x v b first at k vs (Some n) told e s i h =
    ap reason (by-tests k at n (is_taken vs n) (nat_lt 65536 (width_of t)) true (nat_lt 65536 (width_of t)) (sym (told t vs n h i s) ∙ e) refl)

pub long-said : (t : SvType) (x : Taken) (v : List Bit4) (b c : Bool) (first at : ℕ) (k : Source) (vs : List NameValue) (o : Option ℤ) → Told x v b → b ≡ false
    → c ≡ nat_lt 65536 (width_of t) → c ≡ true → BitsOf t (Some v) o → IsInside t o → Holds t x vs → reason (named k first at t vs o) ≡ Some (Some (record { at = at; rule = 701 }))
long-said t x v b c first at k vs None told e l m s i h = absurd s
long-said t x v b c first at k vs (Some n) told e l m s i h =
    ap reason (by-tests k at n (is_taken vs n) (nat_lt 65536 (width_of t)) false true (sym (told t vs n h i s) ∙ e) (sym l ∙ m))

pub name-said : (t : SvType) (x : Taken) (v : List Bit4) (b c : Bool) (first at : ℕ) (k : Source) (vs : List NameValue) (o : Option ℤ) → Told x v b → b ≡ false
    → c ≡ nat_lt 65536 (width_of t) → c ≡ false → BitsOf t (Some v) o → IsInside t o → Holds t x vs → (n : ℤ) × (named k first at t vs o ≡ Ok (record { at = at; number = n })) × HasBits t v n
name-said t x v b c first at k vs None told e l m s i h = absurd s
name-said t x v b c first at k vs (Some n) told e l m s i h =
    (n, by-tests k at n (is_taken vs n) (nat_lt 65536 (width_of t)) false false (sym (told t vs n h i s) ∙ e) (sym l ∙ m), s)

pub ruleset naming = (none-said, taken-said, long-said, name-said)
