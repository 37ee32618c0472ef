-- Select paths, from what was found and valued.
use Rattle.std.proofs.Common.{◌≡◌, ℕ, ◌≤◌, Bool, true, List, length, Option, Result, Ok, Err, refl, arith, ap, subst}
use Rattle.std.specs.Prelude.{IfOk}
use Rattle.b4_core.specs.declared.bit.Bit4.{Bit4}
use Rattle.eval_parts.specs.Picks.{picked, tabulated}
use Rattle.sv_types.specs.declared.expression.Expr.{Expr}
use Rattle.sv_types.specs.Layouts.{width_of}
use Rattle.sv_types.specs.Surroundings.{Around}
use Rattle.sv_types.specs.Meanings.{wide, signed}
use Rattle.sv_types.specs.Expressions.{meaning}
use Rattle.sv_types.proofs.ValueLengths.{length-value}
use Rattle.eval_parts.specs.declared.halt.Halt.{Halt}
use Rattle.eval_parts.specs.declared.paths.Found.{Found}
use Rattle.eval_parts.specs.declared.path_steps.Step.{Step}
use Rattle.eval_parts.specs.Answers.{Gives}
use Rattle.eval_parts.specs.Places.{FindGives, window_of, bit_of, bit_or_x}
use Rattle.eval_parts.specs.Steps.{IsStep, is_held, can_read}
use Rattle.eval_parts.specs.Surroundings.{now_of}
use Rattle.eval_parts.proofs.Selecting as S
use Rattle.eval_exprs.specs.declared.held.Held.{Held}
use Rattle.eval_exprs.specs.Held.{around, bits_of_path}

pub path-done : (h : Held) (e : Expr) (s : Step) (f : Found) (r : List Bit4) (w : ℕ) (b : Bool) (old new : Option ℕ) → IsStep s e → can_read (meaning e).root (is_held h.signals.now) ≡ true → FindGives (Ok f) (meaning e) (around h) old new
    → r ≡ bits_of_path h e f w b → Gives (Ok r) (meaning e) w b (around h) old new
path-done h e s f r w b old new step held g is =
    S.read-done e s f (tabulated (width_of e.of) (λ j. bit_or_x (bit_of f.root (now_of h.signals.now h.locals.now)) (picked (window_of f.window) j))) r w b (around h) old new step held g refl is

-- what an index answers at its own width and sign
pub own-gives : (r : Result (List Bit4) Halt) (y : Expr) (w : ℕ) (b : Bool) (a : Around) (old new : Option ℕ) → w ≡ wide (meaning y) → b ≡ signed (meaning y) → Gives r (meaning y) w b a old new
    → Gives r (meaning y) (wide (meaning y)) (signed (meaning y)) a old new
own-gives r y w b a old new width sign g = subst (λ n. Gives r (meaning y) n (signed (meaning y)) a old new) width (subst (λ c. Gives r (meaning y) w c a old new) sign g)

pub short-answer : (r : Result (List Bit4) Halt) (y : Expr) (w : ℕ) (b : Bool) (a : Around) (old new : Option ℕ) → w ≤ 64 → Gives r (meaning y) w b a old new → IfOk r (λ v. length v ≤ 64)
short-answer (Ok v) y w b a old new short g = omega (arith, ap length g.0, length-value y w b a)
short-answer (Err h) y w b a old new short g = tt
