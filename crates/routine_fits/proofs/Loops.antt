-- The bounds of loops.
use Rattle.std.proofs.Common.{◌≡◌, ℕ, ◌<◌, ◌≤◌, max, Bool, true, false, ◌&&◌, cond, List, [], ◌∷◌, refl, arith, ap, sym, ◌∙◌, subst}
use Rattle.std.specs.Prelude.{nat_lt, pos, Ok}
use Rattle.std.proofs.lemmas.Bool.Decides.{nat_tests}
use Rattle.b4_core.specs.declared.bit.Bit4.TheVariants.{One}
use Rattle.b4_core.specs.Vectors.{vec}
use Rattle.sv_tree.specs.declared.operators.AssignmentOperator.{AssignmentOperator}
use Rattle.sv_types.specs.declared.expression.Expr.{Expr}
use Rattle.sv_types.specs.declared.expression.Form.TheVariants as F
use Rattle.sv_types.specs.declared.statement.Function.{Function}
use Rattle.sv_types.specs.declared.types.SvType.{SvType}
use Rattle.sv_types.specs.Layouts.{Layout, layout, width_of}
use Rattle.sv_types.specs.Meanings.{Meaning, wide, signed}
use Rattle.sv_types.specs.Operators as O
use Rattle.sv_types.specs.Expressions.{meaning}
use Rattle.sv_types.proofs.Levels as L
use Rattle.sv_types.proofs.OperatorLengths.{length-vec}
use Rattle.eval_parts.proofs.Steps.{at-form}
use Rattle.eval_parts.proofs.TypeKinds.{wide-is, signed-is}
use Rattle.expr_type.specs.declared.operand.Valued.{Valued}
use Rattle.expr_type.specs.Typings.{Checked, where_whole}
use Rattle.expr_type.specs.Names.{Context, Source}
use Rattle.expr_type.specs.Shapes.{one_bit, vector, sign_of}
use Rattle.expr_type.specs.Operands as X
use Rattle.expr_type.specs.Operands.{Operand, passed, no_stream}
use Rattle.expr_type.specs.Operators.{expr_at, by_itself}
use Rattle.expr_type.specs.Forms.{cast_expr}
use Rattle.expr_type.specs.Targets.{ToPath, assigned}
use Rattle.expr_type.specs.Statements.{always, widened, loop_first, operator_of, combined, step_value}
use Rattle.typing_fits.specs.Sound.{IsNarrowType, LimitedAt, Sound, SoundFor}
use Rattle.typing_fits.specs.Operands.{SoundFixed, SoundOperand}
use Rattle.typing_fits.proofs.Contexts.{whole-part}
use Rattle.typing_fits.proofs.Vectors.{IsResult, vector-of, narrow-one_bit, width-one_bit, width-vector, sign-vector, result-as, result-of}
use Rattle.typing_fits.proofs.Limits as M
use Rattle.typing_fits.proofs.Limits.{at-width}
use Rattle.typing_fits.proofs.Operators.{made-alone, cast-sound}
use Rattle.typing_fits.proofs.Numbers.{literal-sound}
use Rattle.typing_fits.proofs.Given.{passed-sound, given-sound, pattern-for, unstreamed-sound}
use Rattle.routine_fits.proofs.Targets.{combined-sound}

-- a `?:` at one width
choose-at : (of : Layout) (at : ℕ) (on l r : Meaning) (w : ℕ) (gs : List Function) → IsResult of (O.both_wide l r) (O.both_signed l r) → LimitedAt on (wide on) gs → LimitedAt l w gs → LimitedAt r w gs → LimitedAt (O.choose of at on l r) w gs
unfolding O.choose
choose-at of at on l r w gs v z x y = record {
  typed = omega (arith, v.some, v.same, z.typed, x.typed, y.typed);
  narrow = omega (arith, v.narrow, z.narrow, x.narrow, y.narrow);
  indexing = omega (arith, z.indexing, x.indexing, y.indexing);
  arithmetic = λ fs k. omega (arith, z.arithmetic fs k, x.arithmetic fs k, y.arithmetic fs k);
}

always-sound : (k : Source) (at : ℕ) (gs : List Function) → Sound (by_itself k at one_bit (F.Literal (One ∷ []) false)) gs
always-sound k at gs =
    made-alone k at one_bit (F.Literal (One ∷ []) false) gs _ (L.form-Literal (One ∷ []) false) narrow-one_bit
    (M.literal-limits (layout one_bit) at false (One ∷ []) gs (result-of one_bit 1 (layout one_bit).signed narrow-one_bit width-one_bit refl))

-- what is given to a wider variable, at its width
same-sign : (b : Bool) → (b && b) ≡ b
same-sign true = refl
same-sign false = refl

wider : (k : Source) (at w : ℕ) (e : Expr) (gs : List Function) → width_of e.of < w → w ≤ 4194304 → IsNarrowType e.of → LimitedAt (meaning e) w gs
    → LimitedAt (meaning (expr_at k at (vector w (sign_of e.of)) (F.Choose (expr_at k at one_bit (F.Literal (One ∷ []) false)) e (expr_at k at (vector w (sign_of e.of)) (F.Literal (vec w (pos 0)) false)))))
    (wide (meaning (expr_at k at (vector w (sign_of e.of)) (F.Choose (expr_at k at one_bit (F.Literal (One ∷ []) false)) e (expr_at k at (vector w (sign_of e.of)) (F.Literal (vec w (pos 0)) false)))))) gs
wider k at w e gs less short of l =
    let s = sign_of e.of in
    let t = vector w s in
    let on = expr_at k at one_bit (F.Literal (One ∷ []) false) in
    let zero = expr_at k at t (F.Literal (vec w (pos 0)) false) in
    let x = expr_at k at t (F.Choose on e zero) in
    let some : 0 < w = omega arith in
    let long : wide (meaning x) ≡ w = wide-is x ∙ width-vector w s some in
    let z = literal-sound k at w s (vec w (pos 0)) false gs (length-vec w (pos 0)) some short in
    let a = always-sound k at gs in
    let both : w ≡ O.both_wide (meaning e) (meaning zero) = let p = wide-is e in let q = wide-is zero in let r = width-vector w s some in omega arith in
    let sign : s ≡ O.both_signed (meaning e) (meaning zero) =
    sym (ap (λ b. b && signed (meaning zero)) (signed-is e) ∙ ap (λ b. s && b) (signed-is zero ∙ sign-vector w s) ∙ same-sign s) in
    subst (λ n. LimitedAt (meaning x) n gs) (sym long)
    (subst (λ m. LimitedAt m w gs) (sym (at-form x (F.Choose on e zero) _ refl (L.form-Choose on e zero)))
    (choose-at (layout t) at (meaning on) (meaning e) (meaning zero) w gs (result-as (layout t) w (O.both_wide (meaning e) (meaning zero)) s (O.both_signed (meaning e) (meaning zero)) (vector-of w s some short).result both sign)
    (at-width (meaning on) [] gs (wide (meaning on)) a.limits refl) l (at-width (meaning zero) [] gs w z.limits refl)))

widened-by : (k : Context) (at w : ℕ) (e : Expr) (gs : List Function) (b : Bool) → nat_lt (width_of e.of) w ≡ b → w ≤ 4194304 → IsNarrowType e.of → LimitedAt (meaning e) (max w (width_of e.of)) gs
    → LimitedAt (meaning (cond b (expr_at k.source at (vector w (sign_of e.of)) (F.Choose (always k at) e (expr_at k.source at (vector w (sign_of e.of)) (F.Literal (vec w (pos 0)) false)))) e))
    (wide (meaning (cond b (expr_at k.source at (vector w (sign_of e.of)) (F.Choose (always k at) e (expr_at k.source at (vector w (sign_of e.of)) (F.Literal (vec w (pos 0)) false)))) e))) gs
widened-by k at w e gs true is short of l =
    let less : width_of e.of < w = grind (arith, nat_tests, is) in
    let same : max w (width_of e.of) ≡ w = omega arith in
    wider k.source at w e gs less short of (subst (λ n. LimitedAt (meaning e) n gs) same l)
widened-by k at w e gs false is short of l =
    let more : w ≤ width_of e.of = grind (arith, nat_tests, is) in
    let same : max w (width_of e.of) ≡ wide (meaning e) = let p = wide-is e in omega arith in
    subst (λ n. LimitedAt (meaning e) n gs) same l

-- a first value has the type of the variable
pub record FirstSound (e : Expr) (t : SvType) (gs : List Function) : Type 0 where
  pub is : e.of ≡ t
  pub sound : SoundFor e t gs

abbrev expr_ok : Expr → Checked Expr
expr_ok e = Ok e

cast-first : (k : Source) (at : ℕ) (t : SvType) (x e : Expr) (gs : List Function) → expr_ok (cast_expr k at t x).expr ≡ Ok e → Sound (cast_expr k at t x) gs → FirstSound e t gs
cast-first k at t x e gs h s =
    let is : (cast_expr k at t x).expr ≡ e = cc in
    subst (λ y. FirstSound y t gs) is (record { is = refl; sound = pattern-for (cast_expr k at t x).expr t gs (record { is = refl; sound = s }) })

pub first-sound : (k : Context) (t : SvType) (o : Operand) (e : Expr) (gs : List Function) → loop_first k t o ≡ Ok e → IsNarrowType t → SoundOperand o gs → FirstSound e t gs
first-sound k t (X.Plain v) e gs h narrow s =
    let p = whole-part (passed k.source t (X.Plain v)) (λ x. Ok (cast_expr k.source v.first t (widened k v.first (width_of t) x)).expr) e h in
    let r = passed-sound k.source t (X.Plain v) p.part gs p.is narrow.full s in
    let x = widened k v.first (width_of t) p.part in
    cast-first k.source v.first t x e gs p.made
    (cast-sound k.source v.first t x gs narrow (widened-by k v.first (width_of t) p.part gs (nat_lt (width_of p.part.of) (width_of t)) refl narrow.narrow r.of r.limits))
first-sound k t (X.Pattern tick of) e gs h narrow s =
    let p = whole-part (of tick t) (λ x. Ok (cast_expr k.source tick t x).expr) e h in
    let r = s tick t p.part narrow.full p.is in
    cast-first k.source tick t p.part e gs p.made (cast-sound k.source tick t p.part gs narrow (at-width (meaning p.part) [] gs (wide (meaning p.part)) r.sound.limits refl))
first-sound k t (X.Stream v) e gs h narrow s = absurd (cc)

-- what the variable is given behind each turn
pub step-sound : (k : Context) (at : ℕ) (op : AssignmentOperator) (v : Valued) (o : Operand) (e : Expr) (gs : List Function) → step_value k at op (ToPath v) o ≡ Ok e → SoundFixed v gs → SoundOperand o gs → SoundFor e v.expr.of gs
step-sound k at op v o e gs h t s =
    let a = whole-part (no_stream k.source o) (λ p. where_whole (combined k at (operator_of op) (ToPath v) p) (assigned k (ToPath v))) e h in
    let b = whole-part (combined k at (operator_of op) (ToPath v) a.part) (assigned k (ToPath v)) e a.made in
    given-sound k.source v.expr.of b.part e gs b.made t.sound.of.full (combined-sound k at (operator_of op) (ToPath v) a.part b.part gs b.is t (unstreamed-sound k.source o a.part gs a.is s))
