-- Values that are compared with several others.
use Rattle.std.proofs.Common.{◌≡◌, ℕ, ◌+◌, ◌<◌, ◌≤◌, max, Bool, true, false, List, [], ◌∷◌, length, map, drop, get_or, arith, ap, sym, ◌∙◌, subst}
use Rattle.sv_types.specs.declared.expression.Expr.{Expr}
use Rattle.sv_types.specs.declared.expression.Choice.{Choice}
use Rattle.sv_types.specs.declared.expression.Choice.TheVariants as C
use Rattle.sv_types.specs.Surroundings.{Parameter}
use Rattle.sv_types.specs.Meanings.{wide, most}
use Rattle.sv_types.specs.Operators.{Alternative}
use Rattle.sv_types.specs.Expressions.{meaning}
use Rattle.sv_types.proofs.Levels.{only, from-to}
use Rattle.eval_parts.specs.Insides.{alternative}
use Rattle.eval_parts.specs.Limits.{Fits}
use Rattle.eval_forms.specs.Narrow.{IsNarrowAlternative, AllChoicesNarrow, ChoiceIsNarrow}
use Rattle.expr_fits.specs.Needs.{FitsIf, ChoiceIf, SideIf, AlternativeFits, AllChoicesFit, width_beside, width_inside}
use Rattle.expr_fits.specs.Results.{own_of}
use Rattle.expr_fits.proofs.OwnTypes.{fits-own}
use Rattle.expr_fits.proofs.Walks.{at-front, drop-none}

pub beside-value : (n : ℕ) (v : Expr) → max n (wide (meaning v)) ≡ width_beside n (alternative (C.Value v))
beside-value n v = ap (width_beside n) (sym (only v))

pub beside-range : (n : ℕ) (low high : Expr) → max (max n (wide (meaning low))) (max n (wide (meaning high))) ≡ width_beside n (alternative (C.Range low high))
beside-range n low high = ap (width_beside n) (sym (from-to low high))

pub narrow-value : (v : Expr) → ChoiceIsNarrow (C.Value v) → (meaning v).widest ≤ 4194304
narrow-value v h = subst IsNarrowAlternative (only v) h

pub narrow-range : (low high : Expr) → ChoiceIsNarrow (C.Range low high) → ((meaning low).widest ≤ 4194304) × ((meaning high).widest ≤ 4194304)
narrow-range low high h = subst IsNarrowAlternative (from-to low high) h

pub ruleset beside = (beside-value, beside-range, narrow-value)

narrow-by : (n : ℕ) (fs : ℕ → List Parameter) (a : Alternative) → AlternativeFits n fs a → IsNarrowAlternative a
narrow-by n fs (Alternative.Only v) f = f.narrow
narrow-by n fs (Alternative.From low high) f = (f.0.side.narrow, f.1.side.narrow)

pub all-narrow : (n : ℕ) (fs : ℕ → List Parameter) (cs : List Choice) → AllChoicesFit n fs cs → AllChoicesNarrow cs
all-narrow n fs [] f = tt
all-narrow n fs (c ∷ cs) f = (narrow-by n fs (alternative c) f.0, all-narrow n fs cs f.1)

-- from one to the next
pub narrow-next : (cs : List Choice) (i : ℕ) (c : Choice) → i < length cs → c ≡ get_or cs i c → AllChoicesNarrow (drop i cs) → ChoiceIsNarrow c × AllChoicesNarrow (drop (i + 1) cs)
narrow-next cs i c h is f = subst AllChoicesNarrow (at-front cs i c h is) f

pub width-next : (n w v b : ℕ) (cs : List Choice) (i : ℕ) (c : Choice) → i < length cs → c ≡ get_or cs i c → v ≡ max w b → b ≡ width_beside n (alternative c)
    → max w (most (map (λ d. width_beside n (alternative d)) (drop i cs))) ≡ width_inside n cs → max v (most (map (λ d. width_beside n (alternative d)) (drop (i + 1) cs))) ≡ width_inside n cs
width-next n w v b cs i c h is larger beside all =
    let here = ap (λ ds. most (map (λ d. width_beside n (alternative d)) ds)) (at-front cs i c h is) in
    omega (arith, here, all, larger, beside)

pub width-done : (n w : ℕ) (cs : List Choice) (i : ℕ) → length cs ≤ i → max w (most (map (λ d. width_beside n (alternative d)) (drop i cs))) ≡ width_inside n cs → w ≡ width_inside n cs
width-done n w cs i h all = let none = ap (λ ds. most (map (λ d. width_beside n (alternative d)) ds)) (drop-none cs i h) in omega (arith, none, all)

-- what fits
pub value-fits : (r : Bool) (n : ℕ) (v : Expr) (fs : ℕ → List Parameter) (w : ℕ) → w ≡ max n (own_of v) → FitsIf r (meaning v) fs w → ChoiceIf r n fs (C.Value v)
value-fits false n v fs w at f = tt
value-fits true n v fs w at f = subst (AlternativeFits n fs) (sym (only v)) (subst (λ k. Fits (meaning v) fs k) (at ∙ ap (λ k. max n k) (fits-own v fs w f)) f)

pub range-fits : (r : Bool) (n : ℕ) (low high : Expr) (fs : ℕ → List Parameter) → SideIf true n (meaning low) fs → SideIf r n (meaning high) fs → ChoiceIf r n fs (C.Range low high)
range-fits false n low high fs f g = tt
range-fits true n low high fs f g = subst (AlternativeFits n fs) (sym (from-to low high)) (f, g)

pub side-fits : (r : Bool) (n : ℕ) (v : Expr) (fs : ℕ → List Parameter) (w : ℕ) → w ≡ max n (own_of v) → w ≤ 128 → FitsIf r (meaning v) fs w → SideIf r n (meaning v) fs
side-fits false n v fs w at word f = tt
side-fits true n v fs w at word f =
    let same = at ∙ ap (λ k. max n k) (fits-own v fs w f) in
    record { side = subst (λ k. Fits (meaning v) fs k) same f; word = subst (λ k. k ≤ 128) same word }

pub alone-fits : (r : Bool) (e : Expr) (fs : ℕ → List Parameter) (w : ℕ) → w ≡ own_of e → FitsIf r (meaning e) fs w → FitsIf r (meaning e) fs (wide (meaning e))
alone-fits false e fs w at f = tt
alone-fits true e fs w at f = subst (λ k. Fits (meaning e) fs k) (at ∙ fits-own e fs w f) f
