-- What is made of two things in the order of the text.
use Rattle.std.proofs.Common.{◌≡◌, List, Option, Some, refl, ap, ◌∙◌, sym, subst}
use Rattle.std.specs.Prelude.{Result, Ok, Err}
use Rattle.sv_types.specs.declared.statement.Function.{Function}
use Rattle.sv_types.specs.declared.statement.Stmt as R
use Rattle.sv_types.specs.declared.statement.Stmt.TheVariants as S
use Rattle.expr_type.specs.declared.halt.Halt.{Halt}
use Rattle.expr_type.specs.declared.operand.Valued.{Valued}
use Rattle.expr_type.specs.Statements as D
use Rattle.expr_type.specs.Typings.{Typing, both, whole}
use Rattle.typing_steps.specs.Steps.{TypesTo}
use Rattle.typing_calls.specs.Lists.{as_meant}
use Rattle.typing_sides.specs.Sides.{Besides, first_stop, stop}
use Rattle.typing_sides.proofs.Together.{both-fine, both-stops}
use Rattle.typing_declarations.specs.Branches.{chosen}

-- what a thing means stops by the same
pub same-stop : {A C : Type 0} (m : A → C) (a : Result A Halt) → stop (as_meant m a) ≡ stop a
same-stop m (Ok a) = refl
same-stop m (Err h) = refl

-- two things that have been looked at, as what they are together
pub together : {A C D E : Type 0} (m : A → C) (x : Typing C) (y : Typing D) (f : C → D → E) (fs gs hs : List Function) (a : Result A Halt) (b : Result D Halt) (r : Result (A × D) Halt) → Besides a b r
    → TypesTo (as_meant m a) (x fs) gs → TypesTo b (y gs) hs → TypesTo (as_meant (λ (p : A × D). f (m p.0) p.1) r) (both x y (λ c d. whole (f c d)) fs) hs
together {A = A} {D = D} m x y f fs gs hs a b (Ok p) s t u =
    both-fine x y (λ c d. whole (f c d)) fs gs hs (m p.0) p.1 (Ok (f (m p.0) p.1)) (subst (λ (z : Result A Halt). TypesTo (as_meant m z) (x fs) gs) s.0 t) (subst (λ (z : Result D Halt). TypesTo z (y gs) hs) s.1 u) refl
together m x y f fs gs hs a b (Err h) s t u =
    both-stops x y (λ c d. whole (f c d)) fs gs hs (as_meant m a) b h (ap (λ (o : Option Halt). first_stop o (stop b)) (same-stop m a) ∙ s) t u

-- choices
abbrev itself : R.Stmt → R.Stmt
itself s = s

abbrev branches_of : R.Stmt × Option R.Stmt → D.Branches
branches_of p = record { body = p.0; other = p.1 }

branches-are : (y : Typing R.Stmt) (z : Typing (Option R.Stmt)) (fs gs hs : List Function) (body : Result R.Stmt Halt) (other : Result (Option R.Stmt) Halt) (r : Result (R.Stmt × Option R.Stmt) Halt) → Besides body other r
    → TypesTo body (y fs) gs → TypesTo other (z gs) hs → TypesTo (as_meant branches_of r) (both y z D.branches fs) hs
branches-are y z fs gs hs body other r s p q =
    together itself y z (λ b o. record { body = b; other = o }) fs gs hs body other r s (itself-types body p) q
  where
    itself-types : (body : Result R.Stmt Halt) → TypesTo body (y fs) gs → TypesTo (as_meant itself body) (y fs) gs
    itself-types (Ok s) p = p
    itself-types (Err h) p = p

abbrev as_if : Valued → D.Branches → Typing R.Stmt
as_if v b = whole (S.If v.expr b.body b.other)

pub choice-stops : (x : Typing Valued) (y : Typing R.Stmt) (z : Typing (Option R.Stmt)) (fs gs hs js : List Function) (test : Result Valued Halt) (body : Result R.Stmt Halt) (other : Result (Option R.Stmt) Halt)
    (r : Result (R.Stmt × Option R.Stmt) Halt) (h : Halt) → Besides body other r → first_stop (stop test) (stop r) ≡ Some h → TypesTo test (x fs) gs → TypesTo body (y gs) hs → TypesTo other (z hs) js
    → TypesTo {A = R.Stmt} (Err h) (chosen x y z fs) js
choice-stops x y z fs gs hs js test body other r h b s p q t =
    both-stops x (both y z D.branches) as_if fs gs js test (as_meant branches_of r) h (ap (first_stop (stop test)) (same-stop branches_of r) ∙ s) p (branches-are y z gs hs js body other r b q t)

pub choice-fine : (x : Typing Valued) (y : Typing R.Stmt) (z : Typing (Option R.Stmt)) (fs gs hs js : List Function) (test : Result Valued Halt) (body : Result R.Stmt Halt) (other : Result (Option R.Stmt) Halt)
    (r : Result (R.Stmt × Option R.Stmt) Halt) (v : Valued) (two : R.Stmt × Option R.Stmt) (s : R.Stmt) → Besides body other r → test ≡ Ok v → r ≡ Ok two → s ≡ S.If v.expr two.0 two.1
    → TypesTo test (x fs) gs → TypesTo body (y gs) hs → TypesTo other (z hs) js → TypesTo (Ok s) (chosen x y z fs) js
choice-fine x y z fs gs hs js test body other r v two s b e f is p q t =
    both-fine x (both y z D.branches) as_if fs gs js v (branches_of two) (Ok s) (subst (λ (a : Result Valued Halt). TypesTo a (x fs) gs) e p)
    (subst (λ (a : Result (R.Stmt × Option R.Stmt) Halt). TypesTo (as_meant branches_of a) (both y z D.branches gs) js) f (branches-are y z gs hs js body other r b q t))
    (subst (λ (u : R.Stmt). TypesTo (Ok u) (as_if v (branches_of two) js) js) (sym is) refl)

pub ruleset choices = (choice-stops, choice-fine)
