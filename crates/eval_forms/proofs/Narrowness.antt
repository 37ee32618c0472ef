-- Operands are no wider than the whole.
use Rattle.std.proofs.Common.{◌≡◌, ℕ, suc, ◌+◌, ◌<◌, ◌≤◌, Bool, List, [], ◌∷◌, ◌++◌, map, flat_map, zip, drop, length, get_or, Some, arith, ap, sym, ◌∙◌, subst}
use Rattle.std.specs.Prelude.{slice_get}
use Rattle.std.proofs.lemmas.Option.{slice_get_within, get_or_from_slice_get}
use Rattle.std.proofs.Math.Seq.{drop-cons}
use Rattle.std.proofs.Math.Numerals.{add-one}
use Rattle.b4_core.specs.declared.operators.UnOp.{UnOp}
use Rattle.b4_core.specs.declared.operators.RedOp.{RedOp}
use Rattle.b4_core.specs.declared.operators.ShiftOp.{ShiftOp}
use Rattle.b4_core.specs.declared.operators.OrdOp.{OrdOp}
use Rattle.b4_core.specs.declared.operators.EqOp.{EqOp}
use Rattle.sv_types.specs.declared.expression.Expr.{Expr}
use Rattle.sv_types.specs.declared.expression.Form.TheVariants as V
use Rattle.sv_types.specs.declared.expression.Choice.{Choice}
use Rattle.sv_types.specs.declared.expression.Choice.TheVariants as C
use Rattle.sv_types.specs.Layouts.{Layout, Part, layout}
use Rattle.sv_types.specs.Meanings.{Meaning, Operand, by_itself, at_width, most}
use Rattle.sv_types.specs.Operators as O
use Rattle.sv_types.specs.Operators.{Alternative, inside_operands}
use Rattle.sv_types.proofs.Levels.{only, from-to}
use Rattle.sv_types.specs.Paths as P
use Rattle.sv_types.specs.Expressions.{meaning}
use Rattle.eval_parts.specs.Insides.{alternative}
use Rattle.eval_parts.specs.Targets.{marks_of_parts}
use Rattle.eval_parts.proofs.Insides as I
use Rattle.eval_parts.proofs.Steps as S
use Rattle.eval_parts.proofs.Lists as Q
use Rattle.eval_parts.proofs.Assigned as A
use Rattle.eval_parts.proofs.Selecting as F
use Rattle.eval_parts.proofs.Streaming as T
use Rattle.eval_forms.specs.Narrow.{AllNarrowOperands, AllNarrowAt, IsNarrowAlternative, ChoiceIsNarrow, AllChoicesNarrow}

abbrev Narrow : Meaning → Type 0
Narrow m = m.widest ≤ 4194304

at-front : {A : Type 0} (xs : List A) (i : ℕ) (x : A) → i < length xs → x ≡ get_or xs i x → drop i xs ≡ x ∷ drop (i + 1) xs
at-front xs i x h is = drop-cons xs i x h ∙ ap (λ y. y ∷ drop (suc i) xs) (sym is) ∙ ap (λ k. x ∷ drop k xs) (sym (add-one i))

pub narrow-at : (ps : List (List Bool)) (i : ℕ) (es : List Expr) (e : Expr) (p : List Bool) → i < length es → e ≡ get_or es i e → slice_get ps i ≡ Some p → AllNarrowAt (drop i ps) (drop i es)
    → ((meaning e).widest ≤ 4194304) × AllNarrowAt (drop (i + 1) ps) (drop (i + 1) es)
narrow-at ps i es e p h is there f =
    subst (λ ys. AllNarrowAt (p ∷ drop (i + 1) ps) ys) (at-front es i e h is)
    (subst (λ qs. AllNarrowAt qs (drop i es)) (at-front ps i p (slice_get_within ps i p there) (sym (get_or_from_slice_get ps i p p there))) f)

pub at-places : (ps : List (List Bool)) (es : List Expr) → AllNarrowOperands es → AllNarrowAt ps es
at-places [] es f = tt
at-places (p ∷ ps) [] f = tt
at-places (p ∷ ps) (e ∷ es) f = (f.0, at-places ps es f.1)

in-Unary-x : (of : Layout) (at : ℕ) (op : UnOp) (mx : Meaning) → Narrow (O.unary of at op mx) → Narrow mx
unfolding O.unary
in-Unary-x of at op mx h = omega arith

pub narrow-Unary-x : (e x : Expr) (op : UnOp) → e.form ≡ V.Unary op x → (meaning e).widest ≤ 4194304 → (meaning x).widest ≤ 4194304
narrow-Unary-x e x op is h = in-Unary-x (layout e.of) e.spot.at op (meaning x) (subst Narrow (S.same-Unary e x op is) h)

in-Reduce-x : (of : Layout) (at : ℕ) (op : RedOp) (mx : Meaning) → Narrow (O.reduce of at op mx) → Narrow mx
unfolding O.reduce
in-Reduce-x of at op mx h = omega arith

pub narrow-Reduce-x : (e x : Expr) (op : RedOp) → e.form ≡ V.Reduce op x → (meaning e).widest ≤ 4194304 → (meaning x).widest ≤ 4194304
narrow-Reduce-x e x op is h = in-Reduce-x (layout e.of) e.spot.at op (meaning x) (subst Narrow (S.same-Reduce e x op is) h)

in-Negate-x : (of : Layout) (at : ℕ) (mx : Meaning) → Narrow (O.negate of at mx) → Narrow mx
unfolding O.negate
in-Negate-x of at mx h = omega arith

pub narrow-Negate-x : (e x : Expr) → e.form ≡ V.Negate x → (meaning e).widest ≤ 4194304 → (meaning x).widest ≤ 4194304
narrow-Negate-x e x is h = in-Negate-x (layout e.of) e.spot.at (meaning x) (subst Narrow (S.same-Negate e x is) h)

in-Shift-x : (of : Layout) (at : ℕ) (op : ShiftOp) (mx my : Meaning) → Narrow (O.shift of at op mx my) → Narrow mx
unfolding O.shift
in-Shift-x of at op mx my h = omega arith

pub narrow-Shift-x : (e x y : Expr) (op : ShiftOp) → e.form ≡ V.Shift op x y → (meaning e).widest ≤ 4194304 → (meaning x).widest ≤ 4194304
narrow-Shift-x e x y op is h = in-Shift-x (layout e.of) e.spot.at op (meaning x) (meaning y) (subst Narrow (S.same-Shift e x y op is) h)

in-Shift-y : (of : Layout) (at : ℕ) (op : ShiftOp) (mx my : Meaning) → Narrow (O.shift of at op mx my) → Narrow my
unfolding O.shift
in-Shift-y of at op mx my h = omega arith

pub narrow-Shift-y : (e x y : Expr) (op : ShiftOp) → e.form ≡ V.Shift op x y → (meaning e).widest ≤ 4194304 → (meaning y).widest ≤ 4194304
narrow-Shift-y e x y op is h = in-Shift-y (layout e.of) e.spot.at op (meaning x) (meaning y) (subst Narrow (S.same-Shift e x y op is) h)

in-Power-x : (of : Layout) (at : ℕ) (mx my : Meaning) → Narrow (O.power of at mx my) → Narrow mx
unfolding O.power
in-Power-x of at mx my h = omega arith

pub narrow-Power-x : (e x y : Expr) → e.form ≡ V.Power x y → (meaning e).widest ≤ 4194304 → (meaning x).widest ≤ 4194304
narrow-Power-x e x y is h = in-Power-x (layout e.of) e.spot.at (meaning x) (meaning y) (subst Narrow (S.same-Power e x y is) h)

in-Power-y : (of : Layout) (at : ℕ) (mx my : Meaning) → Narrow (O.power of at mx my) → Narrow my
unfolding O.power
in-Power-y of at mx my h = omega arith

pub narrow-Power-y : (e x y : Expr) → e.form ≡ V.Power x y → (meaning e).widest ≤ 4194304 → (meaning y).widest ≤ 4194304
narrow-Power-y e x y is h = in-Power-y (layout e.of) e.spot.at (meaning x) (meaning y) (subst Narrow (S.same-Power e x y is) h)

in-Order-x : (of : Layout) (at : ℕ) (op : OrdOp) (mx my : Meaning) → Narrow (O.order of at op mx my) → Narrow mx
unfolding O.order
in-Order-x of at op mx my h = omega arith

pub narrow-Order-x : (e x y : Expr) (op : OrdOp) → e.form ≡ V.Order op x y → (meaning e).widest ≤ 4194304 → (meaning x).widest ≤ 4194304
narrow-Order-x e x y op is h = in-Order-x (layout e.of) e.spot.at op (meaning x) (meaning y) (subst Narrow (S.same-Order e x y op is) h)

in-Order-y : (of : Layout) (at : ℕ) (op : OrdOp) (mx my : Meaning) → Narrow (O.order of at op mx my) → Narrow my
unfolding O.order
in-Order-y of at op mx my h = omega arith

pub narrow-Order-y : (e x y : Expr) (op : OrdOp) → e.form ≡ V.Order op x y → (meaning e).widest ≤ 4194304 → (meaning y).widest ≤ 4194304
narrow-Order-y e x y op is h = in-Order-y (layout e.of) e.spot.at op (meaning x) (meaning y) (subst Narrow (S.same-Order e x y op is) h)

in-Equal-x : (of : Layout) (at : ℕ) (op : EqOp) (negated : Bool) (mx my : Meaning) → Narrow (O.equal of at op negated mx my) → Narrow mx
unfolding O.equal
in-Equal-x of at op negated mx my h = omega arith

pub narrow-Equal-x : (e x y : Expr) (op : EqOp) (negated : Bool) → e.form ≡ V.Equal op negated x y → (meaning e).widest ≤ 4194304 → (meaning x).widest ≤ 4194304
narrow-Equal-x e x y op negated is h = in-Equal-x (layout e.of) e.spot.at op negated (meaning x) (meaning y) (subst Narrow (S.same-Equal e x y op negated is) h)

in-Equal-y : (of : Layout) (at : ℕ) (op : EqOp) (negated : Bool) (mx my : Meaning) → Narrow (O.equal of at op negated mx my) → Narrow my
unfolding O.equal
in-Equal-y of at op negated mx my h = omega arith

pub narrow-Equal-y : (e x y : Expr) (op : EqOp) (negated : Bool) → e.form ≡ V.Equal op negated x y → (meaning e).widest ≤ 4194304 → (meaning y).widest ≤ 4194304
narrow-Equal-y e x y op negated is h = in-Equal-y (layout e.of) e.spot.at op negated (meaning x) (meaning y) (subst Narrow (S.same-Equal e x y op negated is) h)

in-Both-x : (of : Layout) (at : ℕ) (mx my : Meaning) → Narrow (O.both of at mx my) → Narrow mx
unfolding O.both
in-Both-x of at mx my h = omega arith

pub narrow-Both-x : (e x y : Expr) → e.form ≡ V.Both x y → (meaning e).widest ≤ 4194304 → (meaning x).widest ≤ 4194304
narrow-Both-x e x y is h = in-Both-x (layout e.of) e.spot.at (meaning x) (meaning y) (subst Narrow (S.same-Both e x y is) h)

in-Both-y : (of : Layout) (at : ℕ) (mx my : Meaning) → Narrow (O.both of at mx my) → Narrow my
unfolding O.both
in-Both-y of at mx my h = omega arith

pub narrow-Both-y : (e x y : Expr) → e.form ≡ V.Both x y → (meaning e).widest ≤ 4194304 → (meaning y).widest ≤ 4194304
narrow-Both-y e x y is h = in-Both-y (layout e.of) e.spot.at (meaning x) (meaning y) (subst Narrow (S.same-Both e x y is) h)

in-Either-x : (of : Layout) (at : ℕ) (mx my : Meaning) → Narrow (O.either of at mx my) → Narrow mx
unfolding O.either
in-Either-x of at mx my h = omega arith

pub narrow-Either-x : (e x y : Expr) → e.form ≡ V.Either x y → (meaning e).widest ≤ 4194304 → (meaning x).widest ≤ 4194304
narrow-Either-x e x y is h = in-Either-x (layout e.of) e.spot.at (meaning x) (meaning y) (subst Narrow (S.same-Either e x y is) h)

in-Either-y : (of : Layout) (at : ℕ) (mx my : Meaning) → Narrow (O.either of at mx my) → Narrow my
unfolding O.either
in-Either-y of at mx my h = omega arith

pub narrow-Either-y : (e x y : Expr) → e.form ≡ V.Either x y → (meaning e).widest ≤ 4194304 → (meaning y).widest ≤ 4194304
narrow-Either-y e x y is h = in-Either-y (layout e.of) e.spot.at (meaning x) (meaning y) (subst Narrow (S.same-Either e x y is) h)

in-Choose-z : (of : Layout) (at : ℕ) (mz mx my : Meaning) → Narrow (O.choose of at mz mx my) → Narrow mz
unfolding O.choose
in-Choose-z of at mz mx my h = omega arith

pub narrow-Choose-z : (e z x y : Expr) → e.form ≡ V.Choose z x y → (meaning e).widest ≤ 4194304 → (meaning z).widest ≤ 4194304
narrow-Choose-z e z x y is h = in-Choose-z (layout e.of) e.spot.at (meaning z) (meaning x) (meaning y) (subst Narrow (S.same-Choose e z x y is) h)

in-Choose-x : (of : Layout) (at : ℕ) (mz mx my : Meaning) → Narrow (O.choose of at mz mx my) → Narrow mx
unfolding O.choose
in-Choose-x of at mz mx my h = omega arith

pub narrow-Choose-x : (e z x y : Expr) → e.form ≡ V.Choose z x y → (meaning e).widest ≤ 4194304 → (meaning x).widest ≤ 4194304
narrow-Choose-x e z x y is h = in-Choose-x (layout e.of) e.spot.at (meaning z) (meaning x) (meaning y) (subst Narrow (S.same-Choose e z x y is) h)

in-Choose-y : (of : Layout) (at : ℕ) (mz mx my : Meaning) → Narrow (O.choose of at mz mx my) → Narrow my
unfolding O.choose
in-Choose-y of at mz mx my h = omega arith

pub narrow-Choose-y : (e z x y : Expr) → e.form ≡ V.Choose z x y → (meaning e).widest ≤ 4194304 → (meaning y).widest ≤ 4194304
narrow-Choose-y e z x y is h = in-Choose-y (layout e.of) e.spot.at (meaning z) (meaning x) (meaning y) (subst Narrow (S.same-Choose e z x y is) h)

in-Cast-x : (of : Layout) (at : ℕ) (mx : Meaning) → Narrow (O.cast of at mx) → Narrow mx
unfolding O.cast
in-Cast-x of at mx h = omega arith

pub narrow-Cast-x : (e x : Expr) → e.form ≡ V.Cast x → (meaning e).widest ≤ 4194304 → (meaning x).widest ≤ 4194304
narrow-Cast-x e x is h = in-Cast-x (layout e.of) e.spot.at (meaning x) (subst Narrow (S.same-Cast e x is) h)

in-Clog2-x : (of : Layout) (at : ℕ) (mx : Meaning) → Narrow (O.clog2 of at mx) → Narrow mx
unfolding O.clog2
in-Clog2-x of at mx h = omega arith

pub narrow-Clog2-x : (e x : Expr) → e.form ≡ V.Clog2 x → (meaning e).widest ≤ 4194304 → (meaning x).widest ≤ 4194304
narrow-Clog2-x e x is h = in-Clog2-x (layout e.of) e.spot.at (meaning x) (subst Narrow (S.same-Clog2 e x is) h)

in-Index-x : (of : Layout) (at : ℕ) (mx my : Meaning) → Narrow (P.index of at mx my) → Narrow mx
unfolding P.index
in-Index-x of at mx my h = omega arith

pub narrow-Index-x : (e x y : Expr) → e.form ≡ V.Index x y → (meaning e).widest ≤ 4194304 → (meaning x).widest ≤ 4194304
narrow-Index-x e x y is h = in-Index-x (layout e.of) e.spot.at (meaning x) (meaning y) (subst Narrow (F.same-Index e x y is) h)

in-Index-y : (of : Layout) (at : ℕ) (mx my : Meaning) → Narrow (P.index of at mx my) → Narrow my
unfolding P.index
in-Index-y of at mx my h = omega arith

pub narrow-Index-y : (e x y : Expr) → e.form ≡ V.Index x y → (meaning e).widest ≤ 4194304 → (meaning y).widest ≤ 4194304
narrow-Index-y e x y is h = in-Index-y (layout e.of) e.spot.at (meaning x) (meaning y) (subst Narrow (F.same-Index e x y is) h)

in-Slide-x : (of : Layout) (at : ℕ) (n : ℕ) (up : Bool) (mx my : Meaning) → Narrow (P.sliding of at mx my n up) → Narrow mx
unfolding P.sliding
in-Slide-x of at n up mx my h = omega arith

pub narrow-Slide-x : (e x y : Expr) (n : ℕ) (up : Bool) → e.form ≡ V.Slide x y n up → (meaning e).widest ≤ 4194304 → (meaning x).widest ≤ 4194304
narrow-Slide-x e x y n up is h = in-Slide-x (layout e.of) e.spot.at n up (meaning x) (meaning y) (subst Narrow (F.same-Slide e x y n up is) h)

in-Slide-y : (of : Layout) (at : ℕ) (n : ℕ) (up : Bool) (mx my : Meaning) → Narrow (P.sliding of at mx my n up) → Narrow my
unfolding P.sliding
in-Slide-y of at n up mx my h = omega arith

pub narrow-Slide-y : (e x y : Expr) (n : ℕ) (up : Bool) → e.form ≡ V.Slide x y n up → (meaning e).widest ≤ 4194304 → (meaning y).widest ≤ 4194304
narrow-Slide-y e x y n up is h = in-Slide-y (layout e.of) e.spot.at n up (meaning x) (meaning y) (subst Narrow (F.same-Slide e x y n up is) h)

all-narrow : (es : List Expr) → most (map (λ (p : Operand). p.of.widest) (map by_itself (map meaning es))) ≤ 4194304 → AllNarrowOperands es
all-narrow [] h = tt
all-narrow (e ∷ es) h = (omega arith, all-narrow es (omega arith))

in-Concat : (of : Layout) (at : ℕ) (es : List Expr) → Narrow (O.concat of at (map meaning es)) → AllNarrowOperands es
unfolding O.concat
in-Concat of at es h = all-narrow es (omega arith)

pub narrow-Concat : (e : Expr) (es : List Expr) → e.form ≡ V.Concat es → (meaning e).widest ≤ 4194304 → AllNarrowOperands es
narrow-Concat e es is h = in-Concat (layout e.of) e.spot.at es (subst Narrow (Q.same-Concat e es is) h)

in-Repeat : (of : Layout) (at : ℕ) (n : ℕ) (es : List Expr) → Narrow (O.repeat of at n (map meaning es)) → AllNarrowOperands es
unfolding O.repeat
in-Repeat of at n es h = all-narrow es (omega arith)

pub narrow-Repeat : (e : Expr) (n : ℕ) (es : List Expr) → e.form ≡ V.Repeat n es → (meaning e).widest ≤ 4194304 → AllNarrowOperands es
narrow-Repeat e n es is h = in-Repeat (layout e.of) e.spot.at n es (subst Narrow (Q.same-Repeat e n es is) h)

in-Stream : (of : Layout) (at : ℕ) (reversed : Bool) (n : ℕ) (es : List Expr) → Narrow (O.stream of at reversed n (map meaning es)) → AllNarrowOperands es
unfolding O.stream
in-Stream of at reversed n es h = all-narrow es (omega arith)

pub narrow-Stream : (e : Expr) (reversed : Bool) (n : ℕ) (es : List Expr) → e.form ≡ V.Stream reversed n es → (meaning e).widest ≤ 4194304 → AllNarrowOperands es
narrow-Stream e reversed n es is h = in-Stream (layout e.of) e.spot.at reversed n es (subst Narrow (T.same-Stream e reversed n es is) h)

in-Call : (of : Layout) (at : ℕ) (n : ℕ) (es : List Expr) → Narrow (O.call of at n (map meaning es)) → AllNarrowOperands es
unfolding O.call
in-Call of at n es h = all-narrow es (omega arith)

pub narrow-Call : (e : Expr) (n : ℕ) (es : List Expr) → e.form ≡ V.Call n es → (meaning e).widest ≤ 4194304 → AllNarrowOperands es
narrow-Call e n es is h = in-Call (layout e.of) e.spot.at n es (subst Narrow (A.same-Call e n es is) h)

items-narrow : (ps : List Part) (es : List Expr) → most (map (λ (p : Operand). p.of.widest) (map (λ p. at_width (O.assigned_width p.0.two_state p.1) p.1) (zip ps (map meaning es)))) ≤ 4194304 → AllNarrowAt (marks_of_parts ps) es
items-narrow [] es h = tt
items-narrow (p ∷ ps) [] h = tt
items-narrow (p ∷ ps) (e ∷ es) h = (omega arith, items-narrow ps es (omega arith))

in-Pattern : (of : Layout) (at : ℕ) (es : List Expr) → Narrow (O.pattern of at (map meaning es)) → AllNarrowAt (marks_of_parts (O.parts_of of)) es
unfolding O.pattern
in-Pattern of at es h = items-narrow (O.parts_of of) es (omega arith)

pub narrow-Pattern : (e : Expr) (es : List Expr) → e.form ≡ V.Pattern es → (meaning e).widest ≤ 4194304 → AllNarrowAt (marks_of_parts (O.parts_of (layout e.of))) es
narrow-Pattern e es is h = in-Pattern (layout e.of) e.spot.at es (subst Narrow (A.same-Pattern e es is) h)

-- alternatives
one-narrow : (m : Meaning) (a : Alternative) (rest : List Operand) → most (map (λ (p : Operand). p.of.widest) (inside_operands m a ++ rest)) ≤ 4194304
    → IsNarrowAlternative a × (most (map (λ (p : Operand). p.of.widest) rest) ≤ 4194304)
one-narrow m (Alternative.Only v) rest h = (omega arith, omega arith)
one-narrow m (Alternative.From low high) rest h = ((omega arith, omega arith), omega arith)

choices-narrow : (m : Meaning) (cs : List Choice) → most (map (λ (p : Operand). p.of.widest) (flat_map (inside_operands m) (map alternative cs))) ≤ 4194304 → AllChoicesNarrow cs
choices-narrow m [] h = tt
choices-narrow m (c ∷ cs) h = let k = one-narrow m (alternative c) (flat_map (inside_operands m) (map alternative cs)) h in (k.0, choices-narrow m cs k.1)

in-Inside : (of : Layout) (at : ℕ) (m : Meaning) (cs : List Choice) → Narrow (O.inside of at m (map alternative cs)) → Narrow m × AllChoicesNarrow cs
unfolding O.inside
in-Inside of at m cs h = (omega arith, choices-narrow m cs (omega arith))

pub narrow-Inside : (e x : Expr) (cs : List Choice) → e.form ≡ V.Inside x cs → (meaning e).widest ≤ 4194304 → ((meaning x).widest ≤ 4194304) × AllChoicesNarrow cs
narrow-Inside e x cs is h = in-Inside (layout e.of) e.spot.at (meaning x) cs (subst Narrow (I.same-Inside e x cs is) h)

pub narrow-value : (c : Choice) (v : Expr) → c ≡ C.Value v → ChoiceIsNarrow c → (meaning v).widest ≤ 4194304
narrow-value c v is h = subst IsNarrowAlternative (ap alternative is ∙ only v) h

pub narrow-range : (c : Choice) (low high : Expr) → c ≡ C.Range low high → ChoiceIsNarrow c → ((meaning low).widest ≤ 4194304) × ((meaning high).widest ≤ 4194304)
narrow-range c low high is h = subst IsNarrowAlternative (ap alternative is ∙ from-to low high) h
