-- Members of interfaces: one with more bits than all signals may have together isn't whole.
use Rattle.std.proofs.Common.{◌≡◌, ◌≤◌, ◌<◌, ℕ, Bool, true, false, cond, arith, ap, refl}
use Rattle.std.specs.Prelude.{nat_lt, Ok, Err}
use Rattle.std.proofs.lemmas.Bool.Decides.{nat_tests}
use Rattle.sv_types.specs.declared.types.SvType.{SvType}
use Rattle.sv_types.specs.Layouts.{width_of}
use Rattle.expr_type.specs.Breaks.{Quiet}
use Rattle.expr_type.specs.Typings.{Checked}
use Rattle.expr_type.specs.Forms.{where_narrow}

few-by : (n : ℕ) (b : Bool) → nat_lt 4194304 n ≡ b → b ≡ false → n ≤ 4194304
few-by n true is h = absurd (cc)
few-by n false is h = grind (arith, nat_tests, is)

none-by : {A : Type 0} (b : Bool) (x : Checked A) (a : A) → cond b (Err Quiet) x ≡ Ok a → b ≡ false
none-by true x a h = absurd (cc)
none-by false x a h = refl

same-by : {A : Type 0} (b : Bool) (x : Checked A) (a : A) → cond b (Err Quiet) x ≡ Ok a → x ≡ Ok a
same-by true x a h = absurd (cc)
same-by false x a h = h

pub narrow-if-whole : {A : Type 0} (t : SvType) (x : Checked A) (a : A) → where_narrow t x ≡ Ok a → width_of t ≤ 4194304
narrow-if-whole t x a h = few-by (width_of t) (nat_lt 4194304 (width_of t)) refl (none-by (nat_lt 4194304 (width_of t)) x a h)

pub whole-if-narrow : {A : Type 0} (t : SvType) (x : Checked A) (a : A) → where_narrow t x ≡ Ok a → x ≡ Ok a
whole-if-narrow t x a h = same-by (nat_lt 4194304 (width_of t)) x a h

-- one with no more is, and one with more isn't
few-no : (n : ℕ) (b : Bool) → nat_lt 4194304 n ≡ b → n ≤ 4194304 → b ≡ false
few-no n true is h = let more : 4194304 < n = grind (arith, nat_tests, is) in absurd (omega arith)
few-no n false is h = refl

many-yes : (n : ℕ) (b : Bool) → nat_lt 4194304 n ≡ b → (n ≤ 4194304 → ⊥) → b ≡ true
many-yes n true is h = refl
many-yes n false is h = absurd (h (few-by n false is refl))

pub narrow-is-whole : {A : Type 0} (t : SvType) (x : Checked A) → width_of t ≤ 4194304 → where_narrow t x ≡ x
narrow-is-whole {A = A} t x h = ap (λ (b : Bool). cond {A = Checked A} b (Err Quiet) x) (few-no (width_of t) (nat_lt 4194304 (width_of t)) refl h)

pub wide-is-quiet : {A : Type 0} (t : SvType) (x : Checked A) → (width_of t ≤ 4194304 → ⊥) → where_narrow t x ≡ Err Quiet
wide-is-quiet {A = A} t x h = ap (λ (b : Bool). cond {A = Checked A} b (Err Quiet) x) (many-yes (width_of t) (nat_lt 4194304 (width_of t)) refl h)
