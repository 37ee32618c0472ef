-- Whether the turns of a loop end, turn by turn.
use Rattle.std.proofs.Common.{◌≡◌, ℕ, suc, ◌+◌, ◌-◌, ◌<◌, List, Option, Some, None, Result, Ok, Err, refl, arith, ap, sym, ◌∙◌, subst}
use Rattle.b4_core.specs.declared.bit.Bit4.{Bit4}
use Rattle.sv_types.specs.declared.statement.Function.{Function}
use Rattle.sv_types.specs.Surroundings.{Sight}
use Rattle.eval_stmts.specs.declared.controls.Control.{Control}
use Rattle.expr_flows.specs.declared.known.Variable.{Variable}
use Rattle.expr_flows.specs.Known.{sight_in}
use Rattle.design_breaks.specs.Unrolling as U
use Rattle.design_breaks.specs.Unrolling.{lasting}
use Rattle.loop_rules.specs.Counted.{control_at}
use Rattle.loop_rules.specs.declared.turns.Turn.TheVariants as R
use Rattle.loop_rules.specs.Turns.{TurnIs, LastingGives}

-- so many turns were made before
abbrev pub TurnsLeft : ℕ → U.Control → Sight → Option ℕ → Type 0
TurnsLeft t c h all = (n : ℕ) → t + n ≡ 65536 → lasting n c h ≡ all

pub left-first : (c : U.Control) (fs : List Function) (vs : List Variable) (xs ys : List (Option (List Bit4))) → xs ≡ ys → TurnsLeft 0 c (sight_in fs xs vs) (lasting 65536 c (sight_in fs ys vs))
left-first c fs vs xs ys same n is = ap (λ m. lasting m c (sight_in fs xs vs)) all ∙ ap (λ zs. lasting 65536 c (sight_in fs zs vs)) same
  where
    all : n ≡ 65536
    all = omega (arith, is)

pub left-next : (c : Control) (at t : ℕ) (h j : Sight) (all : Option ℕ) → TurnsLeft t (control_at at c) h all → TurnIs R.Goes c h j → TurnsLeft (t + 1) (control_at at c) j all
left-next c at t h j all left goes n is = sym (goes at n) ∙ left (suc n) (omega (arith, is))

left-ends : (c : U.Control) (t : ℕ) (h : Sight) (o all : Option ℕ) → TurnsLeft t c h all → t < 65536 → ((n : ℕ) → lasting (suc n) c h ≡ o) → o ≡ all
left-ends c t h o all left low ends = sym (ends (65535 - t)) ∙ left (suc (65535 - t)) (omega (arith, low))

pub left-long : (c : Control) (at t long : ℕ) (h j : Sight) (all : Option ℕ) → TurnsLeft t (control_at at c) h all → t < 65536 → TurnIs (R.Long long) c h j → Some long ≡ all
left-long c at t long h j all left low is = left-ends (control_at at c) t h (Some long) all left low (is at)

pub left-stops : (c : Control) (at t : ℕ) (h j : Sight) (all : Option ℕ) → TurnsLeft t (control_at at c) h all → t < 65536 → TurnIs R.Stops c h j → None ≡ all
left-stops c at t h j all left low is = left-ends (control_at at c) t h None all left low (is at)

pub left-last : {E : Type 0} (r : Result (Option ℕ) E) (c : U.Control) (t : ℕ) (h k : Sight) → TurnsLeft t c h (lasting 65536 c k) → t ≡ 65536 → LastingGives r c 0 h → LastingGives r c 65536 k
left-last (Ok o) c t h k left is gives = gives ∙ left 0 (omega (arith, is))
left-last (Err x) c t h k left is gives = tt
