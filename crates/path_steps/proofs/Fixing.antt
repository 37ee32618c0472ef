-- Expressions that read nothing have the same bits alone in all surroundings.
use Rattle.std.proofs.Common.{◌≡◌, ℕ, ℤ, Bool, cond, List, length, Option, Some, None, Result, Ok, Err, ap, sym, ◌∙◌, subst}
use Rattle.std.specs.Prelude.{IfOk, IfSome}
use Rattle.b4_core.specs.declared.bit.Bit4.{Bit4}
use Rattle.b4_core.specs.Vectors.{known, number}
use Rattle.sv_types.specs.declared.expression.Expr.{Expr}
use Rattle.sv_types.specs.Surroundings.{Around}
use Rattle.sv_types.specs.Meanings as S
use Rattle.sv_types.specs.Expressions.{meaning}
use Rattle.sv_types.proofs.ValueLengths.{length-value}
use Rattle.eval_parts.specs.declared.halt.Halt.{Halt}
use Rattle.eval_parts.specs.Answers.{Gives}
use Rattle.eval_parts.proofs.PathLimits.{index-is}
use Rattle.path_steps.specs.Free.{IsFree}
use Rattle.path_steps.specs.Known.{ValuedGives, HasFixedBits, IsKnown}

fixed : (e : Expr) (v : List Bit4) (a : Around) → IsFree e → v ≡ S.alone (meaning e) a → HasFixedBits e v
fixed e v a free is = record {
  alone = λ b. (free.same b a).value (S.wide (meaning e)) (S.signed (meaning e)) ∙ sym is;
  long = ap length is ∙ length-value e (S.wide (meaning e)) (S.signed (meaning e)) a;
  none = free.none;
}

-- so what valuing one gives are its bits
pub valued : {E : Type 0} → (e : Expr) (w : ℕ) (s : Bool) (a : Around) (old new : Option ℕ) (r : Result (List Bit4) Halt) (o : Result (Option (List Bit4)) E)
    → IsFree e → w ≡ S.wide (meaning e) → s ≡ S.signed (meaning e) → Gives r (meaning e) w s a old new → ValuedGives o r → IfOk o (λ x. IfSome x (HasFixedBits e))
valued e w s a old new r (Ok (Some v)) free width sign gives is =
    fixed e v a free ((subst (λ x. Gives x (meaning e) w s a old new) is gives).0 ∙ (λ i. (meaning e).value (width i) (sign i) a))
valued e w s a old new r (Ok None) free width sign gives is = tt
valued e w s a old new r (Err x) free width sign gives is = tt

-- and its number is known
pub known-by : (e : Expr) (v : List Bit4) (b : Bool) (z : Option ℤ) → HasFixedBits e v → b ≡ S.signed (meaning e) → z ≡ cond (known v) (Some (number b v)) None → IsKnown e z
known-by e v b z fixed sign is = record { number = λ a. sym (index-is (meaning e) a v b z (sym (fixed.alone a)) sign is); none = fixed.none }
