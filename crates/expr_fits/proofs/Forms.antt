-- Each form fits if its parts do.
use Rattle.std.proofs.Common.{◌≡◌, ℕ, zero, suc, ◌+◌, ◌*◌, ◌<◌, ◌≤◌, max, min, Bool, true, false, ◌&&◌, cond, ℤ, List, [], ◌∷◌, length, map, flat_map, zip, get_or, Option, Some, None, refl, arith, ap, sym, ◌∙◌, subst}
use Rattle.std.specs.Prelude.{slice_get, ◌==◌}
use Rattle.std.proofs.lemmas.Option.{slice_get_past}
use Rattle.std.proofs.lemmas.Bool.Decides.{nat_tests}
use Rattle.std.proofs.Math.Nat.{suc-mul}
use Rattle.b4_core.specs.declared.bit.Bit4.{Bit4}
use Rattle.b4_core.specs.declared.operators.UnOp.{UnOp}
use Rattle.b4_core.specs.declared.operators.BinOp.{BinOp}
use Rattle.b4_core.specs.declared.operators.RedOp.{RedOp}
use Rattle.b4_core.specs.declared.operators.ShiftOp.{ShiftOp}
use Rattle.b4_core.specs.declared.operators.OrdOp.{OrdOp}
use Rattle.b4_core.specs.declared.operators.EqOp.{EqOp}
use Rattle.sv_types.specs.declared.expression.Expr.{Expr}
use Rattle.sv_types.specs.declared.expression.Choice.{Choice}
use Rattle.sv_types.specs.declared.expression.Form.TheVariants as V
use Rattle.sv_types.specs.declared.types.SvType.{SvType}
use Rattle.sv_types.specs.declared.types.Value.{Value}
use Rattle.sv_types.specs.declared.statement.Function.{Function}
use Rattle.sv_types.specs.declared.statement.Formal.{Formal}
use Rattle.sv_types.specs.Layouts.{Layout, Part, layout, count_of}
use Rattle.sv_types.specs.Surroundings.{Parameter}
use Rattle.sv_types.specs.Meanings.{Meaning, Operand, wide, signed, misfit, same_sign, by_itself, at_width, most, total}
use Rattle.sv_types.specs.Operators as O
use Rattle.sv_types.specs.Operators.{Alternative, assigned_width, parts_of, width_of_all}
use Rattle.sv_types.specs.Paths as P
use Rattle.sv_types.specs.Expressions.{meaning}
use Rattle.sv_types.specs.Values.{bits}
use Rattle.sv_types.specs.Functions.{parameter, parameters}
use Rattle.sv_types.proofs.Levels as L
use Rattle.sv_types.proofs.Heads.{heads}
use Rattle.eval_parts.specs.Insides.{alternative}
use Rattle.eval_parts.specs.Limits.{Fits, AllFit, AllFitAt}
use Rattle.eval_parts.specs.Targets.{marks_of_parts, marks_of_formals, AllNarrow}
use Rattle.eval_parts.proofs.Nodes as N
use Rattle.eval_parts.proofs.Steps as S
use Rattle.eval_parts.proofs.Steps.{at-form}
use Rattle.eval_parts.proofs.Lists as Q
use Rattle.eval_parts.proofs.Selecting as K
use Rattle.eval_parts.proofs.Assigned as A
use Rattle.eval_parts.proofs.Streaming as T
use Rattle.eval_parts.proofs.Insides as I
use Rattle.eval_forms.specs.Callees.{formals_in, formals_or_none}
use Rattle.expr_fits.specs.declared.needs.Part.{Part as Given}
use Rattle.expr_fits.specs.Needs.{PartFits, One, Two, Three, Each, Placed, Inside, AlternativeFits, AllChoicesFit, width_beside, width_inside}
use Rattle.expr_fits.specs.Results.{own_of, HasBits, IsResult, IsVector}
use Rattle.expr_fits.proofs.OwnTypes.{fits-own, fitting, has-some}

-- the width at which a part was found to fit
given : (p : Given) (fs : ℕ → List Parameter) (n : ℕ) → p.width ≡ n → PartFits p fs → Fits (meaning p.of.now) fs n
given p fs n is f = subst (λ k. Fits (meaning p.of.now) fs k) is f

itself : (p : Given) (fs : ℕ → List Parameter) → p.width ≡ own_of p.of.now → PartFits p fs → Fits (meaning p.of.now) fs (wide (meaning p.of.now))
itself p fs is f = given p fs (wide (meaning p.of.now)) (is ∙ fits-own p.of.now fs p.width f) f

own : (p : Given) (fs : ℕ → List Parameter) → PartFits p fs → own_of p.of.now ≡ wide (meaning p.of.now)
own p fs f = fits-own p.of.now fs p.width f

wider : (p q : Given) (fs : ℕ → List Parameter) → PartFits p fs → PartFits q fs → max (own_of p.of.now) (own_of q.of.now) ≡ O.both_wide (meaning p.of.now) (meaning q.of.now)
wider p q fs f g = ap (λ n. max n (own_of q.of.now)) (own p fs f) ∙ ap (λ n. max (wide (meaning p.of.now)) n) (own q fs g)

pub vector : (of : Layout) (n m : ℕ) (s u : Bool) → IsVector of n s → n ≡ m → s ≡ u → IsVector of m u
vector of n m s u v is sign = subst (λ k. IsVector of m k) sign (subst (λ k. IsVector of k s) is v)

pub result : (of : Layout) (n m : ℕ) (s u : Bool) → IsResult of n s → n ≡ m → s ≡ u → IsResult of m u
result of n m s u v is sign = subst (λ k. IsResult of m k) sign (subst (λ k. IsResult of k s) is v)

pub counted : (t u : SvType) (n m : ℕ) → n ≡ m → P.unlike (layout t) (P.elements_marks (layout u) n) false ≡ 0 → P.unlike (layout t) (P.elements_marks (layout u) m) false ≡ 0
counted t u n m is h = subst (λ k. P.unlike (layout t) (P.elements_marks (layout u) k) false ≡ 0) is h

as-wide : (of : Layout) (n m : ℕ) (s : Bool) → n ≡ m → IsVector of n s → IsVector of m s
as-wide of n m s is v = subst (λ k. IsVector of k s) is v

by-Unary-in : (of : Layout) (at : ℕ) (op : UnOp) (mx : Meaning) (fs : ℕ → List Parameter) (w : ℕ) → 0 < w → IsVector of (wide mx) (signed mx) → O.unary_arithmetic op w ≤ 128 → Fits mx fs w → Fits (O.unary of at op mx) fs w
unfolding O.unary
by-Unary-in of at op mx fs w some v word fx = record { some = some; typed = omega arith; narrow = omega arith; arithmetic = omega arith; indexing = omega arith }

pub by-Unary : (e : Expr) (op : UnOp) (x : Given) (w : ℕ) (fs : ℕ → List Parameter) → e.form ≡ V.Unary op x.of.now → 0 < w → IsVector (layout e.of) (own_of x.of.now) (signed (meaning x.of.now)) → O.unary_arithmetic op w ≤ 128 → x.width ≡ w → One x e fs w
by-Unary e op x w fs is some v word ix = record {
  fits = λ fx. subst (λ m. Fits m fs w) (sym (S.same-Unary e x.of.now op is)) (by-Unary-in (layout e.of) e.spot.at op (meaning x.of.now) fs w some (as-wide (layout e.of) (own_of x.of.now) (wide (meaning x.of.now)) (signed (meaning x.of.now)) (own x fs fx) v) word (given x fs w ix fx));
  less = omega (arith, N.nodes-Unary e x.of.now op is);
}

by-Reduce-in : (of : Layout) (at : ℕ) (op : RedOp) (mx : Meaning) (fs : ℕ → List Parameter) (w : ℕ) → 0 < w → IsVector of 1 false → Fits mx fs (wide mx) → Fits (O.reduce of at op mx) fs w
unfolding O.reduce
by-Reduce-in of at op mx fs w some v fx = record { some = some; typed = omega arith; narrow = omega arith; arithmetic = omega arith; indexing = omega arith }

pub by-Reduce : (e : Expr) (op : RedOp) (x : Given) (w : ℕ) (fs : ℕ → List Parameter) → e.form ≡ V.Reduce op x.of.now → 0 < w → IsVector (layout e.of) 1 false → x.width ≡ own_of x.of.now → One x e fs w
by-Reduce e op x w fs is some v ix = record {
  fits = λ fx. subst (λ m. Fits m fs w) (sym (S.same-Reduce e x.of.now op is)) (by-Reduce-in (layout e.of) e.spot.at op (meaning x.of.now) fs w some v (itself x fs ix fx));
  less = omega (arith, N.nodes-Reduce e x.of.now op is);
}

by-Negate-in : (of : Layout) (at : ℕ) (mx : Meaning) (fs : ℕ → List Parameter) (w : ℕ) → 0 < w → IsVector of 1 false → Fits mx fs (wide mx) → Fits (O.negate of at mx) fs w
unfolding O.negate
by-Negate-in of at mx fs w some v fx = record { some = some; typed = omega arith; narrow = omega arith; arithmetic = omega arith; indexing = omega arith }

pub by-Negate : (e : Expr) (x : Given) (w : ℕ) (fs : ℕ → List Parameter) → e.form ≡ V.Negate x.of.now → 0 < w → IsVector (layout e.of) 1 false → x.width ≡ own_of x.of.now → One x e fs w
by-Negate e x w fs is some v ix = record {
  fits = λ fx. subst (λ m. Fits m fs w) (sym (S.same-Negate e x.of.now is)) (by-Negate-in (layout e.of) e.spot.at (meaning x.of.now) fs w some v (itself x fs ix fx));
  less = omega (arith, N.nodes-Negate e x.of.now is);
}

by-Binary-in : (of : Layout) (at : ℕ) (op : BinOp) (mx my : Meaning) (fs : ℕ → List Parameter) (w : ℕ) → 0 < w → IsVector of (O.both_wide mx my) (signed mx && signed my) → O.binary_arithmetic op w ≤ 128 → Fits mx fs w → Fits my fs w → Fits (O.binary of at op mx my) fs w
unfolding O.binary
by-Binary-in of at op mx my fs w some v word fx fy = record { some = some; typed = omega arith; narrow = omega arith; arithmetic = omega arith; indexing = omega arith }

pub by-Binary : (e : Expr) (op : BinOp) (x y : Given) (w : ℕ) (fs : ℕ → List Parameter) → e.form ≡ V.Binary op x.of.now y.of.now → 0 < w → IsVector (layout e.of) (max (own_of x.of.now) (own_of y.of.now)) (signed (meaning x.of.now) && signed (meaning y.of.now)) → O.binary_arithmetic op w ≤ 128 → x.width ≡ w → y.width ≡ w → Two x y e fs w
by-Binary e op x y w fs is some v word ix iy = record {
  fits = λ fx fy. subst (λ m. Fits m fs w) (sym (S.same-Binary e x.of.now y.of.now op is)) (by-Binary-in (layout e.of) e.spot.at op (meaning x.of.now) (meaning y.of.now) fs w some (as-wide (layout e.of) (max (own_of x.of.now) (own_of y.of.now)) (O.both_wide (meaning x.of.now) (meaning y.of.now)) (signed (meaning x.of.now) && signed (meaning y.of.now)) (wider x y fs fx fy) v) word (given x fs w ix fx) (given y fs w iy fy));
  left = omega (arith, N.nodes-Binary e x.of.now y.of.now op is);
  right = omega (arith, N.nodes-Binary e x.of.now y.of.now op is);
}

by-Shift-in : (of : Layout) (at : ℕ) (op : ShiftOp) (mx my : Meaning) (fs : ℕ → List Parameter) (w : ℕ) → 0 < w → IsVector of (wide mx) (signed mx) → Fits mx fs w → Fits my fs (wide my) → Fits (O.shift of at op mx my) fs w
unfolding O.shift
by-Shift-in of at op mx my fs w some v fx fy = record { some = some; typed = omega arith; narrow = omega arith; arithmetic = omega arith; indexing = omega arith }

pub by-Shift : (e : Expr) (op : ShiftOp) (x y : Given) (w : ℕ) (fs : ℕ → List Parameter) → e.form ≡ V.Shift op x.of.now y.of.now → 0 < w → IsVector (layout e.of) (own_of x.of.now) (signed (meaning x.of.now)) → x.width ≡ w → y.width ≡ own_of y.of.now → Two x y e fs w
by-Shift e op x y w fs is some v ix iy = record {
  fits = λ fx fy. subst (λ m. Fits m fs w) (sym (S.same-Shift e x.of.now y.of.now op is)) (by-Shift-in (layout e.of) e.spot.at op (meaning x.of.now) (meaning y.of.now) fs w some (as-wide (layout e.of) (own_of x.of.now) (wide (meaning x.of.now)) (signed (meaning x.of.now)) (own x fs fx) v) (given x fs w ix fx) (itself y fs iy fy));
  left = omega (arith, N.nodes-Shift e x.of.now y.of.now op is);
  right = omega (arith, N.nodes-Shift e x.of.now y.of.now op is);
}

by-Power-in : (of : Layout) (at : ℕ) (mx my : Meaning) (fs : ℕ → List Parameter) (w : ℕ) → 0 < w → IsVector of (wide mx) (signed mx) → max w (wide my) ≤ 128 → Fits mx fs w → Fits my fs (wide my) → Fits (O.power of at mx my) fs w
unfolding O.power
by-Power-in of at mx my fs w some v word fx fy = record { some = some; typed = omega arith; narrow = omega arith; arithmetic = omega arith; indexing = omega arith }

pub by-Power : (e : Expr) (x y : Given) (w : ℕ) (fs : ℕ → List Parameter) → e.form ≡ V.Power x.of.now y.of.now → 0 < w → IsVector (layout e.of) (own_of x.of.now) (signed (meaning x.of.now)) → max w (own_of y.of.now) ≤ 128 → x.width ≡ w → y.width ≡ own_of y.of.now → Two x y e fs w
by-Power e x y w fs is some v word ix iy = record {
  fits = λ fx fy. subst (λ m. Fits m fs w) (sym (S.same-Power e x.of.now y.of.now is)) (by-Power-in (layout e.of) e.spot.at (meaning x.of.now) (meaning y.of.now) fs w some (as-wide (layout e.of) (own_of x.of.now) (wide (meaning x.of.now)) (signed (meaning x.of.now)) (own x fs fx) v) (subst (λ n. max w n ≤ 128) (own y fs fy) word) (given x fs w ix fx) (itself y fs iy fy));
  left = omega (arith, N.nodes-Power e x.of.now y.of.now is);
  right = omega (arith, N.nodes-Power e x.of.now y.of.now is);
}

by-Order-in : (of : Layout) (at : ℕ) (op : OrdOp) (mx my : Meaning) (fs : ℕ → List Parameter) (w : ℕ) → 0 < w → IsVector of 1 false → O.both_wide mx my ≤ 128 → Fits mx fs (O.both_wide mx my) → Fits my fs (O.both_wide mx my) → Fits (O.order of at op mx my) fs w
unfolding O.order
by-Order-in of at op mx my fs w some v word fx fy = record { some = some; typed = omega arith; narrow = omega arith; arithmetic = omega arith; indexing = omega arith }

pub by-Order : (e : Expr) (op : OrdOp) (x y : Given) (w : ℕ) (fs : ℕ → List Parameter) → e.form ≡ V.Order op x.of.now y.of.now → 0 < w → IsVector (layout e.of) 1 false → max (own_of x.of.now) (own_of y.of.now) ≤ 128 → x.width ≡ max (own_of x.of.now) (own_of y.of.now) → y.width ≡ max (own_of x.of.now) (own_of y.of.now) → Two x y e fs w
by-Order e op x y w fs is some v word ix iy = record {
  fits = λ fx fy. subst (λ m. Fits m fs w) (sym (S.same-Order e x.of.now y.of.now op is)) (by-Order-in (layout e.of) e.spot.at op (meaning x.of.now) (meaning y.of.now) fs w some v (subst (λ n. n ≤ 128) (wider x y fs fx fy) word) (given x fs (O.both_wide (meaning x.of.now) (meaning y.of.now)) (ix ∙ wider x y fs fx fy) fx) (given y fs (O.both_wide (meaning x.of.now) (meaning y.of.now)) (iy ∙ wider x y fs fx fy) fy));
  left = omega (arith, N.nodes-Order e x.of.now y.of.now op is);
  right = omega (arith, N.nodes-Order e x.of.now y.of.now op is);
}

by-Equal-in : (of : Layout) (at : ℕ) (op : EqOp) (negated : Bool) (mx my : Meaning) (fs : ℕ → List Parameter) (w : ℕ) → 0 < w → IsVector of 1 false → Fits mx fs (O.both_wide mx my) → Fits my fs (O.both_wide mx my) → Fits (O.equal of at op negated mx my) fs w
unfolding O.equal
by-Equal-in of at op negated mx my fs w some v fx fy = record { some = some; typed = omega arith; narrow = omega arith; arithmetic = omega arith; indexing = omega arith }

pub by-Equal : (e : Expr) (op : EqOp) (negated : Bool) (x y : Given) (w : ℕ) (fs : ℕ → List Parameter) → e.form ≡ V.Equal op negated x.of.now y.of.now → 0 < w → IsVector (layout e.of) 1 false → x.width ≡ max (own_of x.of.now) (own_of y.of.now) → y.width ≡ max (own_of x.of.now) (own_of y.of.now) → Two x y e fs w
by-Equal e op negated x y w fs is some v ix iy = record {
  fits = λ fx fy. subst (λ m. Fits m fs w) (sym (S.same-Equal e x.of.now y.of.now op negated is)) (by-Equal-in (layout e.of) e.spot.at op negated (meaning x.of.now) (meaning y.of.now) fs w some v (given x fs (O.both_wide (meaning x.of.now) (meaning y.of.now)) (ix ∙ wider x y fs fx fy) fx) (given y fs (O.both_wide (meaning x.of.now) (meaning y.of.now)) (iy ∙ wider x y fs fx fy) fy));
  left = omega (arith, N.nodes-Equal e x.of.now y.of.now op negated is);
  right = omega (arith, N.nodes-Equal e x.of.now y.of.now op negated is);
}

by-Both-in : (of : Layout) (at : ℕ) (mx my : Meaning) (fs : ℕ → List Parameter) (w : ℕ) → 0 < w → IsVector of 1 false → Fits mx fs (wide mx) → Fits my fs (wide my) → Fits (O.both of at mx my) fs w
unfolding O.both
by-Both-in of at mx my fs w some v fx fy = record { some = some; typed = omega arith; narrow = omega arith; arithmetic = omega arith; indexing = omega arith }

pub by-Both : (e : Expr) (x y : Given) (w : ℕ) (fs : ℕ → List Parameter) → e.form ≡ V.Both x.of.now y.of.now → 0 < w → IsVector (layout e.of) 1 false → x.width ≡ own_of x.of.now → y.width ≡ own_of y.of.now → Two x y e fs w
by-Both e x y w fs is some v ix iy = record {
  fits = λ fx fy. subst (λ m. Fits m fs w) (sym (S.same-Both e x.of.now y.of.now is)) (by-Both-in (layout e.of) e.spot.at (meaning x.of.now) (meaning y.of.now) fs w some v (itself x fs ix fx) (itself y fs iy fy));
  left = omega (arith, N.nodes-Both e x.of.now y.of.now is);
  right = omega (arith, N.nodes-Both e x.of.now y.of.now is);
}

by-Either-in : (of : Layout) (at : ℕ) (mx my : Meaning) (fs : ℕ → List Parameter) (w : ℕ) → 0 < w → IsVector of 1 false → Fits mx fs (wide mx) → Fits my fs (wide my) → Fits (O.either of at mx my) fs w
unfolding O.either
by-Either-in of at mx my fs w some v fx fy = record { some = some; typed = omega arith; narrow = omega arith; arithmetic = omega arith; indexing = omega arith }

pub by-Either : (e : Expr) (x y : Given) (w : ℕ) (fs : ℕ → List Parameter) → e.form ≡ V.Either x.of.now y.of.now → 0 < w → IsVector (layout e.of) 1 false → x.width ≡ own_of x.of.now → y.width ≡ own_of y.of.now → Two x y e fs w
by-Either e x y w fs is some v ix iy = record {
  fits = λ fx fy. subst (λ m. Fits m fs w) (sym (S.same-Either e x.of.now y.of.now is)) (by-Either-in (layout e.of) e.spot.at (meaning x.of.now) (meaning y.of.now) fs w some v (itself x fs ix fx) (itself y fs iy fy));
  left = omega (arith, N.nodes-Either e x.of.now y.of.now is);
  right = omega (arith, N.nodes-Either e x.of.now y.of.now is);
}

by-Choose-in : (of : Layout) (at : ℕ) (mz mx my : Meaning) (fs : ℕ → List Parameter) (w : ℕ) → 0 < w → IsResult of (O.both_wide mx my) (signed mx && signed my) → Fits mz fs (wide mz) → Fits mx fs w → Fits my fs w → Fits (O.choose of at mz mx my) fs w
unfolding O.choose
by-Choose-in of at mz mx my fs w some v fz fx fy = record { some = some; typed = omega arith; narrow = omega arith; arithmetic = omega arith; indexing = omega arith }

pub by-Choose : (e : Expr) (z x y : Given) (w : ℕ) (fs : ℕ → List Parameter) → e.form ≡ V.Choose z.of.now x.of.now y.of.now → 0 < w → IsResult (layout e.of) (max (own_of x.of.now) (own_of y.of.now)) (signed (meaning x.of.now) && signed (meaning y.of.now)) → z.width ≡ own_of z.of.now → x.width ≡ w → y.width ≡ w → Three z x y e fs w
by-Choose e z x y w fs is some v iz ix iy = record {
  fits = λ fz fx fy. subst (λ m. Fits m fs w) (sym (S.same-Choose e z.of.now x.of.now y.of.now is)) (by-Choose-in (layout e.of) e.spot.at (meaning z.of.now) (meaning x.of.now) (meaning y.of.now) fs w some (subst (λ n. IsResult (layout e.of) n (signed (meaning x.of.now) && signed (meaning y.of.now))) (wider x y fs fx fy) v) (itself z fs iz fz) (given x fs w ix fx) (given y fs w iy fy));
  first = omega (arith, N.nodes-Choose e z.of.now x.of.now y.of.now is);
  left = omega (arith, N.nodes-Choose e z.of.now x.of.now y.of.now is);
  right = omega (arith, N.nodes-Choose e z.of.now x.of.now y.of.now is);
}

by-Clog2-in : (of : Layout) (at : ℕ) (mx : Meaning) (fs : ℕ → List Parameter) (w : ℕ) → 0 < w → IsVector of 32 true → Fits mx fs (wide mx) → Fits (O.clog2 of at mx) fs w
unfolding O.clog2
by-Clog2-in of at mx fs w some v fx = record { some = some; typed = omega arith; narrow = omega arith; arithmetic = omega arith; indexing = omega arith }

pub by-Clog2 : (e : Expr) (x : Given) (w : ℕ) (fs : ℕ → List Parameter) → e.form ≡ V.Clog2 x.of.now → 0 < w → IsVector (layout e.of) 32 true → x.width ≡ own_of x.of.now → One x e fs w
by-Clog2 e x w fs is some v ix = record {
  fits = λ fx. subst (λ m. Fits m fs w) (sym (S.same-Clog2 e x.of.now is)) (by-Clog2-in (layout e.of) e.spot.at (meaning x.of.now) fs w some v (itself x fs ix fx));
  less = omega (arith, N.nodes-Clog2 e x.of.now is);
}

-- casts
cast-in : (of : Layout) (at : ℕ) (m : Meaning) (fs : ℕ → List Parameter) (w : ℕ) → 0 < w → HasBits of → misfit of (length of.two_state) of.signed ≡ 0 → Fits m fs (wide m) → Fits (O.cast of at m) fs w
unfolding O.cast
cast-in of at m fs w some b s f = record { some = some; typed = omega arith; narrow = omega arith; arithmetic = omega arith; indexing = omega arith }

pub by-Cast : (e : Expr) (x : Given) (w : ℕ) (fs : ℕ → List Parameter) → e.form ≡ V.Cast x.of.now → 0 < w → HasBits (layout e.of) → x.width ≡ own_of x.of.now → One x e fs w
by-Cast e x w fs is some b ix = record {
  fits = λ fx. subst (λ m. Fits m fs w) (sym (S.same-Cast e x.of.now is)) (cast-in (layout e.of) e.spot.at (meaning x.of.now) fs w some b (fitting (layout e.of) (length (layout e.of).two_state) refl) (itself x fs ix fx));
  less = omega (arith, N.nodes-Cast e x.of.now is);
}

-- values without parts
literal-in : (of : Layout) (at : ℕ) (goes_on : Bool) (v : List Bit4) (fs : ℕ → List Parameter) (w : ℕ) → 0 < w → IsResult of (length v) of.signed → Fits (O.literal of at goes_on v) fs w
unfolding O.literal
literal-in of at goes_on v fs w some r = record { some = some; typed = omega arith; narrow = omega arith; arithmetic = omega arith; indexing = omega arith }

pub by-Literal : (e : Expr) (v : List Bit4) (goes_on : Bool) (w : ℕ) (fs : ℕ → List Parameter) → e.form ≡ V.Literal v goes_on → 0 < w → IsResult (layout e.of) (length v) (layout e.of).signed → Fits (meaning e) fs w
by-Literal e v goes_on w fs is some r = subst (λ m. Fits m fs w) (sym (S.same-Literal e v goes_on is)) (literal-in (layout e.of) e.spot.at goes_on v fs w some r)

fill-in : (of : Layout) (at : ℕ) (b : Bit4) (fs : ℕ → List Parameter) (w : ℕ) → 0 < w → IsResult of 1 false → Fits (O.fill of at b) fs w
unfolding O.fill
fill-in of at b fs w some r = record { some = some; typed = omega arith; narrow = omega arith; arithmetic = omega arith; indexing = omega arith }

pub by-Fill : (e : Expr) (b : Bit4) (w : ℕ) (fs : ℕ → List Parameter) → e.form ≡ V.Fill b → 0 < w → IsResult (layout e.of) 1 false → Fits (meaning e) fs w
by-Fill e b w fs is some r = subst (λ m. Fits m fs w) (sym (at-form e (V.Fill b) _ is (L.form-Fill b))) (fill-in (layout e.of) e.spot.at b fs w some r)

constant-in : (of : Layout) (at : ℕ) (v : Value) (fs : ℕ → List Parameter) (w : ℕ) → 0 < w → IsResult of (length (bits v)) of.signed → Fits (O.constant of at v) fs w
unfolding O.constant
constant-in of at v fs w some r = record { some = some; typed = omega arith; narrow = omega arith; arithmetic = omega arith; indexing = omega arith }

-- where a count is no larger than a type can have
misfits-by : (b c : Bool) → cond {A = ℕ} (b && c) 0 1 ≡ 0 → b ≡ true
misfits-by true c h = refl
misfits-by false c h = absurd (omega arith)

eq-true : (n m : ℕ) (b : Bool) → (n == m) ≡ b → b ≡ true → n ≡ m
eq-true n m true is h = grind (arith, nat_tests)
eq-true n m false is h = absurd (cc)

result-wide : (of : Layout) (n : ℕ) (s : Bool) → misfit of n s ≡ 0 → length of.two_state ≡ n
result-wide of n s h = eq-true (length of.two_state) n (length of.two_state == n) refl (misfits-by (length of.two_state == n) (same_sign of.signed s) h)

uncapped : (of : Layout) (n : ℕ) (s : Bool) → IsResult of (min n 4194305) s → IsResult of n s
uncapped of n s r =
    let is = result-wide of (min n 4194305) s r.same in
    let same : min n 4194305 ≡ n = omega (arith, r.bits.narrow) in
    subst (λ k. IsResult of k s) same r

pub by-Constant : (e : Expr) (v : Value) (w : ℕ) (fs : ℕ → List Parameter) → e.form ≡ V.Constant v → 0 < w → IsResult (layout e.of) (min (length (bits v)) 4194305) (layout e.of).signed → Fits (meaning e) fs w
by-Constant e v w fs is some r =
    subst (λ m. Fits m fs w) (sym (at-form e (V.Constant v) _ is (L.form-Constant v))) (constant-in (layout e.of) e.spot.at v fs w some (uncapped (layout e.of) (length (bits v)) (layout e.of).signed r))

-- select paths
signal-in : (of : Layout) (at n : ℕ) (fs : ℕ → List Parameter) (w : ℕ) → 0 < w → HasBits of → Fits (P.signal of at n) fs w
unfolding P.signal
signal-in of at n fs w some b = record { some = some; typed = omega arith; narrow = omega arith; arithmetic = omega arith; indexing = omega arith }

pub by-Signal : (e : Expr) (n w : ℕ) (fs : ℕ → List Parameter) → e.form ≡ V.Signal n → 0 < w → HasBits (layout e.of) → Fits (meaning e) fs w
by-Signal e n w fs is some b = subst (λ m. Fits m fs w) (sym (K.same-Signal e n is)) (signal-in (layout e.of) e.spot.at n fs w some b)

local-in : (of : Layout) (at n : ℕ) (fs : ℕ → List Parameter) (w : ℕ) → 0 < w → HasBits of → Fits (P.local of at n) fs w
unfolding P.local
local-in of at n fs w some b = record { some = some; typed = omega arith; narrow = omega arith; arithmetic = omega arith; indexing = omega arith }

pub by-Local : (e : Expr) (n w : ℕ) (fs : ℕ → List Parameter) → e.form ≡ V.Local n → 0 < w → HasBits (layout e.of) → Fits (meaning e) fs w
by-Local e n w fs is some b = subst (λ m. Fits m fs w) (sym (K.same-Local e n is)) (local-in (layout e.of) e.spot.at n fs w some b)

member-in : (of : Layout) (at : ℕ) (m : Meaning) (k : ℕ) (fs : ℕ → List Parameter) (w : ℕ) → 0 < w → HasBits of → P.unlike_part of (slice_get m.of.members k) ≡ 0 → Fits m fs (wide m) → Fits (P.member of at m k) fs w
unfolding P.member
member-in of at m k fs w some b u f = record { some = some; typed = omega arith; narrow = omega arith; arithmetic = omega arith; indexing = omega arith }

pub by-Member : (e : Expr) (x : Given) (k w : ℕ) (fs : ℕ → List Parameter) → e.form ≡ V.Member x.of.now k → 0 < w → HasBits (layout e.of) → P.unlike_part (layout e.of) (slice_get (layout x.of.now.of).members k) ≡ 0 → x.width ≡ own_of x.of.now → One x e fs w
by-Member e x k w fs is some b u ix = record {
  fits = λ fx. subst (λ m. Fits m fs w) (sym (K.same-Member e x.of.now k is))
      (member-in (layout e.of) e.spot.at (meaning x.of.now) k fs w some b (subst (λ (l : Layout). P.unlike_part (layout e.of) (slice_get l.members k) ≡ 0) (sym (heads x.of.now).kind) u) (itself x fs ix fx));
  less = omega (arith, N.nodes-Member e x.of.now k is);
}

index-in : (of : Layout) (at : ℕ) (m i : Meaning) (fs : ℕ → List Parameter) (w : ℕ) → 0 < w → HasBits of → P.unlike of m.of.element.two_state m.of.element.signed ≡ 0 → wide i ≤ 64 → Fits m fs (wide m) → Fits i fs (wide i) → Fits (P.index of at m i) fs w
unfolding P.index
index-in of at m i fs w some b u short f g = record { some = some; typed = omega arith; narrow = omega arith; arithmetic = omega arith; indexing = omega arith }

pub by-Index : (e : Expr) (x y : Given) (w : ℕ) (fs : ℕ → List Parameter) → e.form ≡ V.Index x.of.now y.of.now → 0 < w → HasBits (layout e.of)
    → P.unlike (layout e.of) (layout x.of.now.of).element.two_state (layout x.of.now.of).element.signed ≡ 0 → own_of y.of.now ≤ 64 → x.width ≡ own_of x.of.now → y.width ≡ own_of y.of.now → Two x y e fs w
by-Index e x y w fs is some b u short ix iy = record {
  fits = λ fx fy. subst (λ m. Fits m fs w) (sym (K.same-Index e x.of.now y.of.now is))
      (index-in (layout e.of) e.spot.at (meaning x.of.now) (meaning y.of.now) fs w some b (subst (λ (l : Layout). P.unlike (layout e.of) l.element.two_state l.element.signed ≡ 0) (sym (heads x.of.now).kind) u)
      (subst (λ n. n ≤ 64) (own y fs fy) short) (itself x fs ix fx) (itself y fs iy fy));
  left = omega (arith, N.nodes-Index e x.of.now y.of.now is);
  right = omega (arith, N.nodes-Index e x.of.now y.of.now is);
}

part-in : (of : Layout) (at : ℕ) (m : Meaning) (left right : ℤ) (fs : ℕ → List Parameter) (w : ℕ) → 0 < w → HasBits of → P.unlike of (P.elements_marks m.of (count_of left right)) false ≡ 0 → Fits m fs (wide m) → Fits (P.part_select of at m left right) fs w
unfolding P.part_select
part-in of at m left right fs w some b u f = record { some = some; typed = omega arith; narrow = omega arith; arithmetic = omega arith; indexing = omega arith }

pub by-Part : (e : Expr) (x : Given) (left right : ℤ) (n w : ℕ) (fs : ℕ → List Parameter) → e.form ≡ V.Part x.of.now left right → 0 < w → HasBits (layout e.of) → P.unlike (layout e.of) (P.elements_marks (layout x.of.now.of) n) false ≡ 0
    → n ≡ count_of left right → x.width ≡ own_of x.of.now → One x e fs w
by-Part e x left right n w fs is some b u count ix = record {
  fits = λ fx. subst (λ m. Fits m fs w) (sym (K.same-Part e x.of.now left right is))
      (part-in (layout e.of) e.spot.at (meaning x.of.now) left right fs w some b
      (subst (λ (l : Layout). P.unlike (layout e.of) (P.elements_marks l (count_of left right)) false ≡ 0) (sym (heads x.of.now).kind) (subst (λ k. P.unlike (layout e.of) (P.elements_marks (layout x.of.now.of) k) false ≡ 0) count u))
      (itself x fs ix fx));
  less = omega (arith, N.nodes-Part e x.of.now left right is);
}

slide-in : (of : Layout) (at : ℕ) (m i : Meaning) (n : ℕ) (up : Bool) (fs : ℕ → List Parameter) (w : ℕ) → 0 < w → HasBits of → P.unlike of (P.elements_marks m.of n) false ≡ 0 → wide i ≤ 64 → Fits m fs (wide m) → Fits i fs (wide i) → Fits (P.sliding of at m i n up) fs w
unfolding P.sliding
slide-in of at m i n up fs w some b u short f g = record { some = some; typed = omega arith; narrow = omega arith; arithmetic = omega arith; indexing = omega arith }

pub by-Slide : (e : Expr) (x y : Given) (n : ℕ) (up : Bool) (w : ℕ) (fs : ℕ → List Parameter) → e.form ≡ V.Slide x.of.now y.of.now n up → 0 < w → HasBits (layout e.of) → P.unlike (layout e.of) (P.elements_marks (layout x.of.now.of) n) false ≡ 0
    → own_of y.of.now ≤ 64 → x.width ≡ own_of x.of.now → y.width ≡ own_of y.of.now → Two x y e fs w
by-Slide e x y n up w fs is some b u short ix iy = record {
  fits = λ fx fy. subst (λ m. Fits m fs w) (sym (K.same-Slide e x.of.now y.of.now n up is))
      (slide-in (layout e.of) e.spot.at (meaning x.of.now) (meaning y.of.now) n up fs w some b (subst (λ (l : Layout). P.unlike (layout e.of) (P.elements_marks l n) false ≡ 0) (sym (heads x.of.now).kind) u)
      (subst (λ k. k ≤ 64) (own y fs fy) short) (itself x fs ix fx) (itself y fs iy fy));
  left = omega (arith, N.nodes-Slide e x.of.now y.of.now n up is);
  right = omega (arith, N.nodes-Slide e x.of.now y.of.now n up is);
}

-- lists of parts
record Sums (es : List Expr) (fs : ℕ → List Parameter) (w : ℕ) : Type 0 where
  pub typed : total (map (λ (p : Operand). p.of.misfits) (map by_itself (map meaning es))) ≡ 0
  pub narrow : most (map (λ (p : Operand). p.of.widest) (map by_itself (map meaning es))) ≤ 4194304
  pub arithmetic : most (map (λ (p : Operand). p.of.arithmetic fs (p.at w)) (map by_itself (map meaning es))) ≤ 128
  pub indexing : most (map (λ (p : Operand). p.of.indexing) (map by_itself (map meaning es))) ≤ 64
  pub widths : total (map own_of es) ≡ width_of_all (map meaning es)

sums : (es : List Expr) (fs : ℕ → List Parameter) (w : ℕ) → AllFit es fs → Sums es fs w
sums [] fs w f = record { typed = refl; narrow = omega arith; arithmetic = omega arith; indexing = omega arith; widths = refl }
sums (e ∷ es) fs w f =
    let r = sums es fs w f.1 in
    let here = fits-own e fs (wide (meaning e)) f.0 in
    record { typed = omega (arith, f.0.typed); narrow = omega (arith, f.0.narrow); arithmetic = omega (arith, f.0.arithmetic); indexing = omega (arith, f.0.indexing); widths = omega (arith, r.widths) }

concat-in : (of : Layout) (at : ℕ) (es : List Expr) (fs : ℕ → List Parameter) (w : ℕ) → 0 < w → IsVector of (width_of_all (map meaning es)) false → Sums es fs w → Fits (O.concat of at (map meaning es)) fs w
unfolding O.concat
concat-in of at es fs w some v s = record { some = some; typed = omega arith; narrow = omega arith; arithmetic = omega arith; indexing = omega arith }

pub by-Concat : (e : Expr) (es : List Expr) (w : ℕ) (fs : ℕ → List Parameter) → e.form ≡ V.Concat es → 0 < w → IsVector (layout e.of) (min (total (map own_of es)) 4194305) false → Each es e fs w
by-Concat e es w fs is some v = record {
  fits = λ f. let s = sums es fs w f in
      subst (λ m. Fits m fs w) (sym (Q.same-Concat e es is))
      (concat-in (layout e.of) e.spot.at es fs w some (record { result = subst (λ n. IsResult (layout e.of) n false) s.widths (uncapped (layout e.of) (total (map own_of es)) false v.result); four = v.four }) s);
  less = omega (arith, N.nodes-Concat e es is);
}

repeat-in : (of : Layout) (at n : ℕ) (es : List Expr) (fs : ℕ → List Parameter) (w : ℕ) → 0 < w → IsVector of (n * width_of_all (map meaning es)) false → Sums es fs w → Fits (O.repeat of at n (map meaning es)) fs w
unfolding O.repeat
repeat-in of at n es fs w some v s = record { some = some; typed = omega arith; narrow = omega arith; arithmetic = omega arith; indexing = omega arith }

one-at-most : (n t m : ℕ) → n * min t m < m → 0 < n * min t m → min t m ≡ t
one-at-most zero t m h some = absurd (omega arith)
one-at-most (suc n) t m h some = omega (arith, suc-mul n (min t m))

pub by-Repeat : (e : Expr) (n : ℕ) (es : List Expr) (w : ℕ) (fs : ℕ → List Parameter) → e.form ≡ V.Repeat n es → 0 < w → IsVector (layout e.of) (n * min (total (map own_of es)) 4194305) false → Each es e fs w
by-Repeat e n es w fs is some v = record {
  fits = λ f.
      let s = sums es fs w f in
      let long = result-wide (layout e.of) (n * min (total (map own_of es)) 4194305) false v.result.same in
      let all : min (total (map own_of es)) 4194305 ≡ total (map own_of es) = one-at-most n (total (map own_of es)) 4194305 (omega (arith, v.result.bits.narrow)) (subst (λ k. 0 < k) long (has-some (layout e.of) v.result.bits)) in
      subst (λ m. Fits m fs w) (sym (Q.same-Repeat e n es is))
      (repeat-in (layout e.of) e.spot.at n es fs w some (record { result = subst (λ k. IsResult (layout e.of) (n * k) false) (all ∙ s.widths) v.result; four = v.four }) s);
  less = omega (arith, N.nodes-Repeat e n es is);
}

stream-in : (of : Layout) (at : ℕ) (reversed : Bool) (n : ℕ) (es : List Expr) (fs : ℕ → List Parameter) (w : ℕ) → 0 < w → IsResult of (width_of_all (map meaning es)) false → Sums es fs w → Fits (O.stream of at reversed n (map meaning es)) fs w
unfolding O.stream
stream-in of at reversed n es fs w some v s = record { some = some; typed = omega arith; narrow = omega arith; arithmetic = omega arith; indexing = omega arith }

pub by-Stream : (e : Expr) (reversed : Bool) (n : ℕ) (es : List Expr) (w : ℕ) (fs : ℕ → List Parameter) → e.form ≡ V.Stream reversed n es → 0 < w → IsResult (layout e.of) (min (total (map own_of es)) 4194305) false → Each es e fs w
by-Stream e reversed n es w fs is some v = record {
  fits = λ f. let s = sums es fs w f in
      subst (λ m. Fits m fs w) (sym (T.same-Stream e reversed n es is))
      (stream-in (layout e.of) e.spot.at reversed n es fs w some (subst (λ k. IsResult (layout e.of) k false) s.widths (uncapped (layout e.of) (total (map own_of es)) false v)) s);
  less = omega (arith, N.nodes-Stream e reversed n es is);
}

-- what is assigned to places
record PlacedSums (ps : List Part) (es : List Expr) (fs : ℕ → List Parameter) (w : ℕ) : Type 0 where
  pub typed : total (map (λ (p : Operand). p.of.misfits) (map (λ p. at_width (assigned_width p.0.two_state p.1) p.1) (zip ps (map meaning es)))) ≡ 0
  pub narrow : most (map (λ (p : Operand). p.of.widest) (map (λ p. at_width (assigned_width p.0.two_state p.1) p.1) (zip ps (map meaning es)))) ≤ 4194304
  pub arithmetic : most (map (λ (p : Operand). p.of.arithmetic fs (p.at w)) (map (λ p. at_width (assigned_width p.0.two_state p.1) p.1) (zip ps (map meaning es)))) ≤ 128
  pub indexing : most (map (λ (p : Operand). p.of.indexing) (map (λ p. at_width (assigned_width p.0.two_state p.1) p.1) (zip ps (map meaning es)))) ≤ 64

placed-sums : (ps : List Part) (es : List Expr) (fs : ℕ → List Parameter) (w : ℕ) → AllFitAt (marks_of_parts ps) es fs → PlacedSums ps es fs w
placed-sums [] es fs w f = record { typed = refl; narrow = omega arith; arithmetic = omega arith; indexing = omega arith }
placed-sums (p ∷ ps) [] fs w f = record { typed = refl; narrow = omega arith; arithmetic = omega arith; indexing = omega arith }
placed-sums (p ∷ ps) (e ∷ es) fs w f =
    let r = placed-sums ps es fs w f.1 in
    record { typed = omega (arith, f.0.typed, r.typed); narrow = omega (arith, f.0.narrow, r.narrow); arithmetic = omega (arith, f.0.arithmetic, r.arithmetic); indexing = omega (arith, f.0.indexing, r.indexing) }

pattern-in : (of : Layout) (at : ℕ) (es : List Expr) (fs : ℕ → List Parameter) (w : ℕ) → 0 < w → HasBits of → misfit of (length of.two_state) of.signed ≡ 0 → PlacedSums (parts_of of) es fs w → Fits (O.pattern of at (map meaning es)) fs w
unfolding O.pattern
pattern-in of at es fs w some b s r = record { some = some; typed = omega (arith, b.some, s, r.typed); narrow = omega (arith, b.narrow, r.narrow); arithmetic = omega (arith, r.arithmetic); indexing = omega (arith, r.indexing) }

pub by-Pattern : (e : Expr) (es : List Expr) (w : ℕ) (fs : ℕ → List Parameter) → e.form ≡ V.Pattern es → 0 < w → HasBits (layout e.of) → Placed (marks_of_parts (parts_of (layout e.of))) es e fs w
by-Pattern e es w fs is some b = record {
  fits = λ f. subst (λ m. Fits m fs w) (sym (A.same-Pattern e es is))
      (pattern-in (layout e.of) e.spot.at es fs w some b (fitting (layout e.of) (length (layout e.of).two_state) refl) (placed-sums (parts_of (layout e.of)) es fs w f));
  less = omega (arith, N.nodes-Pattern e es is);
}

record CallSums (ps : List Parameter) (es : List Expr) (fs : ℕ → List Parameter) : Type 0 where
  pub typed : total (map (λ (p : Operand). p.of.misfits) (map by_itself (map meaning es))) ≡ 0
  pub narrow : most (map (λ (p : Operand). p.of.widest) (map by_itself (map meaning es))) ≤ 4194304
  pub arithmetic : most (map (λ p. p.1.arithmetic fs (assigned_width p.0.two_state p.1)) (zip ps (map meaning es))) ≤ 128
  pub indexing : most (map (λ (p : Operand). p.of.indexing) (map by_itself (map meaning es))) ≤ 64

call-sums : (ps : List Parameter) (es : List Expr) (fs : ℕ → List Parameter) → length es ≤ length ps → AllFitAt (marks_of_formals ps) es fs → CallSums ps es fs
call-sums [] [] fs few f = record { typed = refl; narrow = omega arith; arithmetic = omega arith; indexing = omega arith }
call-sums [] (e ∷ es) fs few f = absurd (omega arith)
call-sums (p ∷ ps) [] fs few f = record { typed = refl; narrow = omega arith; arithmetic = omega arith; indexing = omega arith }
call-sums (p ∷ ps) (e ∷ es) fs few f =
    let r = call-sums ps es fs (omega arith) f.1 in
    record { typed = omega (arith, f.0.typed, r.typed); narrow = omega (arith, f.0.narrow, r.narrow); arithmetic = omega (arith, f.0.arithmetic, r.arithmetic); indexing = omega (arith, f.0.indexing, r.indexing) }

call-in : (of : Layout) (at n : ℕ) (es : List Expr) (fs : ℕ → List Parameter) (w : ℕ) → 0 < w → HasBits of → misfit of (length of.two_state) of.signed ≡ 0 → CallSums (fs n) es fs → Fits (O.call of at n (map meaning es)) fs w
unfolding O.call
call-in of at n es fs w some b s r = record { some = some; typed = omega (arith, b.some, s, r.typed); narrow = omega (arith, b.narrow, r.narrow); arithmetic = omega (arith, r.arithmetic); indexing = omega (arith, r.indexing) }

length-parameters : (fs : List Formal) → length (map parameter fs) ≡ length fs
length-parameters [] = refl
length-parameters (f ∷ fs) = ap suc (length-parameters fs)

pub by-Call : (e : Expr) (n : ℕ) (es : List Expr) (formals : List Formal) (w : ℕ) (fs : ℕ → List Parameter) → e.form ≡ V.Call n es → 0 < w → HasBits (layout e.of) → map parameter formals ≡ fs n → length es ≤ length formals
    → Placed (marks_of_formals (map parameter formals)) es e fs w
by-Call e n es formals w fs is some b same few = record {
  fits = λ f. subst (λ m. Fits m fs w) (sym (A.same-Call e n es is))
      (call-in (layout e.of) e.spot.at n es fs w some b (fitting (layout e.of) (length (layout e.of).two_state) refl)
      (call-sums (fs n) es fs (subst (λ ps. length es ≤ length ps) same (omega (arith, length-parameters formals))) (subst (λ ps. AllFitAt (marks_of_formals ps) es fs) same f)));
  less = omega (arith, N.nodes-Call e n es is);
}

-- the formals of a function
pub formals-at : (fs : List Function) (n : ℕ) (f : Function) → n < length fs → f ≡ get_or fs n f → map parameter f.formals ≡ formals_in fs n
formals-at [] n f h is = absurd (omega arith)
formals-at (g ∷ fs) zero f h is = ap parameters is
formals-at (g ∷ fs) (suc n) f h is = formals-at fs n f (omega arith) is

pub formals-past : (fs : List Function) (n : ℕ) → length fs ≤ n → [] ≡ formals_in fs n
formals-past fs n h = sym (ap formals_or_none (slice_get_past fs n h))

pub ruleset formals = (formals-at, formals-past)

-- `inside`
abbrev AllFitBeside : ℕ → (ℕ → List Parameter) → List Alternative → Type 0
AllFitBeside n fs [] = Unit {0}
AllFitBeside n fs (a ∷ as_) = AlternativeFits n fs a × AllFitBeside n fs as_

record Compared (m : Meaning) (as_ : List Alternative) (fs : ℕ → List Parameter) (w : ℕ) : Type 0 where
  pub word : most (map (O.inside_arithmetic m) as_) ≤ 128
  pub width : most (map (O.inside_width m) as_) ≡ most (map (width_beside (wide m)) as_)
  pub typed : total (map (λ (p : Operand). p.of.misfits) (flat_map (O.inside_operands m) as_)) ≡ 0
  pub narrow : most (map (λ (p : Operand). p.of.widest) (flat_map (O.inside_operands m) as_)) ≤ 4194304
  pub arithmetic : most (map (λ (p : Operand). p.of.arithmetic fs (p.at w)) (flat_map (O.inside_operands m) as_)) ≤ 128
  pub indexing : most (map (λ (p : Operand). p.of.indexing) (flat_map (O.inside_operands m) as_)) ≤ 64

compared : (m : Meaning) (as_ : List Alternative) (fs : ℕ → List Parameter) (w : ℕ) → AllFitBeside (wide m) fs as_ → Compared m as_ fs w
compared m [] fs w f = record { word = omega arith; width = refl; typed = refl; narrow = omega arith; arithmetic = omega arith; indexing = omega arith }
compared m (Alternative.Only v ∷ as_) fs w f =
    let r = compared m as_ fs w f.1 in
    let g = f.0 in
    record { word = omega (arith, r.word); width = omega (arith, r.width); typed = omega (arith, g.typed, r.typed); narrow = omega (arith, g.narrow, r.narrow); arithmetic = omega (arith, g.arithmetic, r.arithmetic); indexing = omega (arith, g.indexing, r.indexing) }
compared m (Alternative.From low high ∷ as_) fs w f =
    let r = compared m as_ fs w f.1 in
    let g = f.0.0 in
    let h = f.0.1 in
    record {
      word = omega (arith, r.word, g.word, h.word);
      width = omega (arith, r.width);
      typed = omega (arith, g.side.typed, h.side.typed, r.typed);
      narrow = omega (arith, g.side.narrow, h.side.narrow, r.narrow);
      arithmetic = omega (arith, g.side.arithmetic, h.side.arithmetic, r.arithmetic);
      indexing = omega (arith, g.side.indexing, h.side.indexing, r.indexing);
    }

inside-in : (of : Layout) (at : ℕ) (m : Meaning) (as_ : List Alternative) (fs : ℕ → List Parameter) (w : ℕ) → 0 < w → IsVector of 1 false → Compared m as_ fs w → Fits m fs (max (wide m) (most (map (O.inside_width m) as_))) → Fits (O.inside of at m as_) fs w
unfolding O.inside
inside-in of at m as_ fs w some v r f = record { some = some; typed = omega (arith, v.result.bits.some, v.result.same, v.four, r.typed, f.typed); narrow = omega (arith, v.result.bits.narrow, r.narrow, f.narrow); arithmetic = omega (arith, r.word, r.arithmetic, f.arithmetic); indexing = omega (arith, r.indexing, f.indexing) }

all-beside : (n : ℕ) (cs : List Choice) (fs : ℕ → List Parameter) → AllChoicesFit n fs cs → AllFitBeside n fs (map alternative cs)
all-beside n [] fs f = tt
all-beside n (c ∷ cs) fs f = (f.0, all-beside n cs fs f.1)

most-beside : (n : ℕ) (cs : List Choice) → most (map (width_beside n) (map alternative cs)) ≡ most (map (λ c. width_beside n (alternative c)) cs)
most-beside n [] = refl
most-beside n (c ∷ cs) = ap (λ k. max (width_beside n (alternative c)) k) (most-beside n cs)

inside-at : (of : Layout) (at n : ℕ) (m : Meaning) (cs : List Choice) (fs : ℕ → List Parameter) (w : ℕ) → n ≡ wide m → 0 < w → IsVector of 1 false → AllChoicesFit n fs cs → Fits m fs (width_inside n cs) → Fits (O.inside of at m (map alternative cs)) fs w
inside-at of at n m cs fs w is some v all f =
    let r = compared m (map alternative cs) fs w (subst (λ k. AllFitBeside k fs (map alternative cs)) is (all-beside n cs fs all)) in
    let same : width_inside n cs ≡ max (wide m) (most (map (O.inside_width m) (map alternative cs))) =
    ap (λ k. width_inside k cs) is ∙ ap (λ k. max (wide m) k) (sym (r.width ∙ most-beside (wide m) cs)) in
    inside-in of at m (map alternative cs) fs w some v r (subst (λ k. Fits m fs k) same f)

pub by-Inside : (e x : Expr) (cs : List Choice) (w : ℕ) (fs : ℕ → List Parameter) → e.form ≡ V.Inside x cs → 0 < w → IsVector (layout e.of) 1 false → Inside x cs e fs w
by-Inside e x cs w fs is some v = record {
  fits = λ all f. subst (λ m. Fits m fs w) (sym (I.same-Inside e x cs is)) (inside-at (layout e.of) e.spot.at (own_of x) (meaning x) cs fs w (fits-own x fs (width_inside (own_of x) cs) f) some v all f);
  less = omega (arith, N.nodes-Inside e x cs is);
}
