-- The rules of `?:` come before what is made of its parts.
use Rattle.std.proofs.Common.{◌≡◌, ◌||◌, ℕ, Bool, true, false, [], ◌∷◌, Option, None, refl}
use Rattle.std.specs.Prelude.{Ok}
use Rattle.std.specs.List.{list_any}
use Rattle.expr_type.specs.declared.halt.Halt.{Halt}
use Rattle.expr_type.specs.declared.halt.Halt.TheVariants as H
use Rattle.expr_type.specs.declared.operand.Valued.{Valued}
use Rattle.expr_type.specs.Answers.{Break, HaltsBy, reason}
use Rattle.expr_type.specs.Breaks.{Position}
use Rattle.expr_type.specs.Names.{Source, position}
use Rattle.expr_type.specs.Operators.{choice_of}
use Rattle.expr_type.specs.Shapes.{is_unpacked}
use Rattle.expr_type.specs.Typings.{Checked, refused}
use Rattle.choice_types.specs.Choices.{choice_rule, made}

-- two rules, one behind the other, and what is made where neither is broken
abbrev two_rules : {A : Type 0} → Bool → Bool → Position → Checked A → Checked A
two_rules a b p x = refused a p 504 (refused b p 508 x)

abbrev fine : Checked (Unit {0})
fine = Ok tt

-- what stops for no reason wants memory
none-stops : (h : Halt) (r : Option (Option Break)) → HaltsBy h None → HaltsBy h r
none-stops H.Memory r s = tt
none-stops (H.Breaks at rule) r s = cc
none-stops H.Quiet r s = cc

whole-behind : {A : Type 0} (a b : Bool) (p : Position) (x : Checked A) → two_rules a b p fine ≡ fine → two_rules a b p x ≡ x
whole-behind true b p x e = cc
whole-behind false true p x e = cc
whole-behind false false p x e = refl

halts-behind : {A : Type 0} (h : Halt) (a b : Bool) (p : Position) (x : Checked A) → HaltsBy h (reason (two_rules a b p fine)) → HaltsBy h (reason (two_rules a b p x))
halts-behind h true b p x s = s
halts-behind h false true p x s = s
halts-behind h false false p x s = none-stops h (reason x) s

pub choice-whole : (k : Source) (at : ℕ) (on l r : Valued) → choice_rule k at on l r ≡ fine → choice_of k at on l r ≡ made k on l r
choice-whole k at on l r e =
    whole-behind (is_unpacked l.expr.of || is_unpacked r.expr.of) (list_any (λ (v : Valued). is_unpacked v.expr.of) (on ∷ [])) (position k at) (made k on l r) e

pub choice-halts : (h : Halt) (k : Source) (at : ℕ) (on l r : Valued) → HaltsBy h (reason (choice_rule k at on l r)) → HaltsBy h (reason (choice_of k at on l r))
choice-halts h k at on l r s =
    halts-behind h (is_unpacked l.expr.of || is_unpacked r.expr.of) (list_any (λ (v : Valued). is_unpacked v.expr.of) (on ∷ [])) (position k at) (made k on l r) s
