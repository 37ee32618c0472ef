-- Loops that end, turn by turn.
use Rattle.std.proofs.Common.{◌≡◌, ℕ, suc, ◌+◌, ◌-◌, ◌<◌, ◌≤◌, List, Option, Some, None, arith, ap, sym, ◌∙◌}
use Rattle.b4_core.specs.declared.bit.Bit4.{Bit4}
use Rattle.sv_types.specs.declared.statement.Function.{Function}
use Rattle.sv_types.specs.Surroundings.{Sight}
use Rattle.eval_stmts.specs.declared.controls.Control.{Control}
use Rattle.expr_flows.specs.declared.known.Variable.{Variable}
use Rattle.expr_flows.specs.Known.{sight_in}
use Rattle.bound_values.specs.declared.bounds.Test.TheVariants as T
use Rattle.design_breaks.specs.declared.Unrolled.{Unrolled}
use Rattle.design_breaks.specs.Unrolling as U
use Rattle.loop_laws.proofs.Turns as L
use Rattle.loop_rules.specs.Counted.{control_at}
use Rattle.loop_rules.specs.Turns.{StepIs, TestGoesAs}

-- so many turns were made before
pub record BodyLeft (t : ℕ) (c : U.Control) (F : U.Unrolls) (h : Sight) (u all : Unrolled) : Type 0 where
  pub ends : (n : ℕ) → t + n ≡ 65536 → U.lasting n c h ≡ None
  pub same : (n : ℕ) → t + n ≡ 65536 → U.turns n c F h u ≡ all

pub body-first : (c : U.Control) (F : U.Unrolls) (fs : List Function) (vs : List Variable) (xs ys : List (Option (List Bit4))) (u : Unrolled) → xs ≡ ys → U.lasting 65536 c (sight_in fs ys vs) ≡ None
    → BodyLeft 0 c F (sight_in fs xs vs) u (U.turns 65536 c F (sight_in fs ys vs) u)
body-first c F fs vs xs ys u same ends = record {
  ends = λ n is. ap (λ m. U.lasting m c (sight_in fs xs vs)) (all n is) ∙ ap (λ zs. U.lasting 65536 c (sight_in fs zs vs)) same ∙ ends;
  same = λ n is. ap (λ m. U.turns m c F (sight_in fs xs vs) u) (all n is) ∙ ap (λ zs. U.turns 65536 c F (sight_in fs zs vs) u) same;
}
  where
    all : (n : ℕ) → 0 + n ≡ 65536 → n ≡ 65536
    all n is = omega (arith, is)

pub body-full : (c : U.Control) (t : ℕ) (F : U.Unrolls) (h : Sight) (u all : Unrolled) → BodyLeft t c F h u all → t ≤ 65536 → u.left ≡ None → u ≡ all
body-full c t F h u all left low is = sym (L.turns-full (65536 - t) c F h u is) ∙ left.same (65536 - t) (omega (arith, low))

pub body-stops : (c : Control) (at t : ℕ) (F : U.Unrolls) (h : Sight) (u all : Unrolled) → BodyLeft t (control_at at c) F h u all → t < 65536 → TestGoesAs T.Stops c h → u ≡ all
body-stops c at t F h u all left low is = sym (L.turn-stops (65535 - t) (control_at at c) F h u is.1) ∙ left.same (suc (65535 - t)) (omega (arith, low))

some-none : {A : Type 0} (o : Option ℕ) (x : ℕ) → o ≡ Some x → o ≡ None → A
some-none o x some none = absurd (differ (sym some ∙ none))
  where
    differ : Some x ≡ None → ⊥
    differ e = cc

pub body-long : (c : Control) (at t x : ℕ) (F : U.Unrolls) (h : Sight) (u all : Unrolled) → BodyLeft t (control_at at c) F h u all → t < 65536 → TestGoesAs (T.Long x) c h → u ≡ all
body-long c at t x F h u all left low is =
    some-none (U.lasting (suc (65535 - t)) (control_at at c) h) x (L.test-long (suc (65535 - t)) (control_at at c) h x is) (left.ends (suc (65535 - t)) (omega (arith, low)))

pub body-last : (c : U.Control) (t : ℕ) (F : U.Unrolls) (h : Sight) (u all : Unrolled) → BodyLeft t c F h u all → t ≡ 65536 → u ≡ all
body-last c t F h u all left is = sym (L.turns-zero c F h u) ∙ left.same 0 (omega (arith, is))

pub body-next : (c : Control) (at t : ℕ) (F : U.Unrolls) (h j : Sight) (u v all : Unrolled) (o : Option ℕ) → BodyLeft t (control_at at c) F h u all → TestGoesAs T.Goes c h → v ≡ U.onward F h u → StepIs o c h j
    → BodyLeft (t + 1) (control_at at c) F j v all
body-next c at t F h j u v all (Some x) left goes is step = record {
  ends = λ n less. some-none (U.lasting (suc n) (control_at at c) h) x (L.step-long n (control_at at c) h x goes.0 goes.1 step) (left.ends (suc n) (omega (arith, less)));
  same = λ n less. some-none (U.lasting (suc n) (control_at at c) h) x (L.step-long n (control_at at c) h x goes.0 goes.1 step) (left.ends (suc n) (omega (arith, less)));
}
body-next c at t F h j u v all None left goes is step = record {
  ends = λ n less. ap (U.lasting n (control_at at c)) (step.1 at) ∙ sym (L.step-on n (control_at at c) h goes.0 goes.1 step.0) ∙ left.ends (suc n) (omega (arith, less));
  same = λ n less. ap (λ g. U.turns n (control_at at c) F g v) (step.1 at) ∙ ap (U.turns n (control_at at c) F (U.given (control_at at c) c.step.now h)) is ∙ sym (L.turn-goes n (control_at at c) F h u goes.1) ∙ left.same (suc n) (omega (arith, less));
}
