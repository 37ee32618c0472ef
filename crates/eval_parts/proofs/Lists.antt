-- Several expressions, valued alone from left to right.
use Rattle.std.proofs.Common.{◌≡◌, ℕ, zero, suc, ◌≤◌, Bool, List, [], ◌∷◌, ◌++◌, map, drop, replicate, Option, Ok, Err, refl, arith, ap, sym, ◌∙◌, subst, append_assoc}
use Rattle.b4_core.specs.declared.bit.Bit4.{Bit4}
use Rattle.sv_types.specs.declared.expression.Expr.{Expr}
use Rattle.sv_types.specs.declared.expression.Form.TheVariants as V
use Rattle.sv_types.specs.Layouts.{Layout, layout, width_of, stacked, repeated}
use Rattle.sv_types.specs.Surroundings.{Around, Tally, Parameter}
use Rattle.sv_types.specs.Meanings.{Meaning, Operand, wide, alone, by_itself, values_all, most, total}
use Rattle.sv_types.specs.Operators as O
use Rattle.sv_types.specs.Expressions.{meaning}
use Rattle.sv_types.proofs.Levels as L
use Rattle.sv_types.proofs.Widths.{has-bits, wide-widest}
use Rattle.eval_parts.proofs.TypeKinds.{wide-is}
use Rattle.sv_types.specs.declared.types.Value.{Value}
use Rattle.sv_types.specs.Values.{bits}
use Rattle.b4_core.specs.Vectors.{ext}
use Rattle.eval_parts.specs.declared.halt.Halt.{Halt}
use Rattle.eval_parts.specs.Surroundings.{running}
use Rattle.eval_parts.specs.Answers.{Gives, Halts, alones}
use Rattle.eval_parts.specs.Limits.{Fits, AllFit}
use Rattle.eval_parts.proofs.Efforts.{first-on, first-halts}
use Rattle.eval_parts.proofs.Nodes.{nodes}
use Rattle.eval_parts.proofs.Steps.{at-form}

abbrev operands : List Expr → List Operand
operands es = map by_itself (map meaning es)

pub all-fit : (es : List Expr) (fs : ℕ → List Parameter) (w : ℕ) → total (map (λ (p : Operand). p.of.misfits) (operands es)) ≡ 0 → most (map (λ (p : Operand). p.of.widest) (operands es)) ≤ 4194304
    → most (map (λ (p : Operand). p.of.arithmetic fs (p.at w)) (operands es)) ≤ 128 → most (map (λ (p : Operand). p.of.indexing) (operands es)) ≤ 64 → AllFit es fs
all-fit [] fs w typed narrow arithmetic indexing = tt
all-fit (e ∷ es) fs w typed narrow arithmetic indexing =
    let one : (meaning e).misfits ≡ 0 = omega arith in (
      record { some = has-bits e one; typed = one; narrow = omega arith; arithmetic = omega arith; indexing = omega arith },
      all-fit es fs w (omega arith) (omega arith) (omega arith) (omega arith),
    )

pub next-fits : (es : List Expr) (i : ℕ) (x : Expr) (later : List Expr) (fs : ℕ → List Parameter) → drop i es ≡ x ∷ later → AllFit (drop i es) fs → Fits (meaning x) fs (wide (meaning x)) × AllFit later fs
next-fits es i x later fs here f = subst (λ ys. AllFit ys fs) here f

pub next-made : (es : List Expr) (i : ℕ) (x : Expr) (later : List Expr) (a : Around) (made new all : List (List Bit4)) (v : List Bit4) → drop i es ≡ x ∷ later → new ≡ made ++ v ∷ []
    → v ≡ alone (meaning x) a → made ++ alones (map meaning (drop i es)) a ≡ all → new ++ alones (map meaning later) a ≡ all
next-made es i x later a made new all v here more is before =
    ap (λ q. q ++ alones (map meaning later) a) more ∙ append_assoc made (v ∷ []) (alones (map meaning later) a)
    ∙ ap (λ b. made ++ (b ∷ alones (map meaning later) a)) is ∙ ap (λ ys. made ++ alones (map meaning ys) a) (sym here) ∙ before

pub next-runs : (es : List Expr) (i : ℕ) (x : Expr) (later : List Expr) (a : Around) (all : Tally) (old new : Option ℕ) → drop i es ≡ x ∷ later
    → (meaning x).values a (running old) ≡ running new → values_all (operands (drop i es)) a (running old) ≡ all → values_all (operands later) a (running new) ≡ all
next-runs es i x later a all old new here ran before =
    sym (first-on (by_itself (meaning x)) (operands later) a (running old) new ran) ∙ ap (λ ys. values_all (operands ys) a (running old)) (sym here) ∙ before

pub next-halts : (h : Halt) (es : List Expr) (i : ℕ) (x : Expr) (later : List Expr) (a : Around) (all : Tally) (old : Option ℕ) → drop i es ≡ x ∷ later
    → Halts h ((meaning x).values a (running old)) → values_all (operands (drop i es)) a (running old) ≡ all → Halts h all
next-halts h es i x later a all old here halts before =
    subst (Halts h) (ap (λ ys. values_all (operands ys) a (running old)) (sym here) ∙ before) (first-halts h (by_itself (meaning x)) (operands later) a (running old) halts)

pub nodes-next : (es : List Expr) (i : ℕ) (x : Expr) (later : List Expr) → drop i es ≡ x ∷ later → nodes x ≤ total (map nodes (drop i es))
nodes-next es i x later here = subst (λ ys. nodes x ≤ total (map nodes ys)) (sym here) (omega arith)

nodes-drop : (es : List Expr) (i : ℕ) → total (map nodes (drop i es)) ≤ total (map nodes es)
nodes-drop es zero = omega arith
nodes-drop [] (suc i) = omega arith
nodes-drop (e ∷ es) (suc i) = let h = nodes-drop es i in omega arith

pub nodes-at : (es : List Expr) (i : ℕ) (x : Expr) (later : List Expr) → drop i es ≡ x ∷ later → nodes x ≤ total (map nodes es)
nodes-at es i x later here = let h = nodes-next es i x later here in let g = nodes-drop es i in omega arith

-- concatenations
pub same-Concat : (e : Expr) (es : List Expr) → e.form ≡ V.Concat es → meaning e ≡ O.concat (layout e.of) e.spot.at (map meaning es)
same-Concat e es is = at-form e (V.Concat es) _ is (L.form-Concat es)

concat-fits-in : (of : Layout) (at : ℕ) (es : List Expr) (fs : ℕ → List Parameter) (w : ℕ) → Fits (O.concat of at (map meaning es)) fs w → AllFit es fs
unfolding O.concat
concat-fits-in of at es fs w f = all-fit es fs w (omega arith) (omega arith) (omega arith) (omega arith)

pub concat-fits : (e : Expr) (es : List Expr) (fs : ℕ → List Parameter) (w : ℕ) → e.form ≡ V.Concat es → Fits (meaning e) fs w → AllFit es fs
concat-fits e es fs w is f = concat-fits-in (layout e.of) e.spot.at es fs w (subst (λ m. Fits m fs w) (same-Concat e es is) f)

concat-halts-in : (h : Halt) (of : Layout) (at : ℕ) (ms : List Meaning) (w : ℕ) (s : Bool) (a : Around) (old new : Option ℕ) → Halts h (values_all (map by_itself ms) a (running old)) → Gives (Err h) (O.concat of at ms) w s a old new
unfolding O.concat
concat-halts-in h of at ms w s a old new halts = halts

pub concat-halts : (h : Halt) (e : Expr) (es : List Expr) (w : ℕ) (s : Bool) (a : Around) (old new : Option ℕ) → e.form ≡ V.Concat es → Halts h (values_all (map by_itself (map meaning es)) a (running old)) → Gives (Err h) (meaning e) w s a old new
concat-halts h e es w s a old new is halts = subst (λ m. Gives (Err h) m w s a old new) (sym (same-Concat e es is)) (concat-halts-in h (layout e.of) e.spot.at (map meaning es) w s a old new halts)

concat-done-in : (of : Layout) (at : ℕ) (ms : List Meaning) (vs : List (List Bit4)) (r : List Bit4) (w : ℕ) (s : Bool) (a : Around) (old new : Option ℕ) → vs ≡ alones ms a → values_all (map by_itself ms) a (running old) ≡ running new
    → r ≡ ext w s (stacked vs) → Gives (Ok r) (O.concat of at ms) w s a old new
unfolding O.concat
concat-done-in of at ms vs r w s a old new values runs is = (is ∙ ap (λ q. ext w s (stacked q)) values, runs)

pub concat-done : (e : Expr) (es : List Expr) (vs : List (List Bit4)) (r : List Bit4) (w : ℕ) (s : Bool) (a : Around) (old new : Option ℕ) → e.form ≡ V.Concat es → vs ≡ alones (map meaning es) a
    → values_all (map by_itself (map meaning es)) a (running old) ≡ running new → r ≡ ext w s (stacked vs) → Gives (Ok r) (meaning e) w s a old new
concat-done e es vs r w s a old new at values runs is =
    subst (λ m. Gives (Ok r) m w s a old new) (sym (same-Concat e es at)) (concat-done-in (layout e.of) e.spot.at (map meaning es) vs r w s a old new values runs is)

-- and repeated ones
pub same-Repeat : (e : Expr) (n : ℕ) (es : List Expr) → e.form ≡ V.Repeat n es → meaning e ≡ O.repeat (layout e.of) e.spot.at n (map meaning es)
same-Repeat e n es is = at-form e (V.Repeat n es) _ is (L.form-Repeat n es)

repeat-fits-in : (of : Layout) (at n : ℕ) (es : List Expr) (fs : ℕ → List Parameter) (w : ℕ) → Fits (O.repeat of at n (map meaning es)) fs w → AllFit es fs
unfolding O.repeat
repeat-fits-in of at n es fs w f = all-fit es fs w (omega arith) (omega arith) (omega arith) (omega arith)

pub repeat-fits : (e : Expr) (n : ℕ) (es : List Expr) (fs : ℕ → List Parameter) (w : ℕ) → e.form ≡ V.Repeat n es → Fits (meaning e) fs w → AllFit es fs
repeat-fits e n es fs w is f = repeat-fits-in (layout e.of) e.spot.at n es fs w (subst (λ m. Fits m fs w) (same-Repeat e n es is) f)

repeat-halts-in : (h : Halt) (of : Layout) (at n : ℕ) (ms : List Meaning) (w : ℕ) (s : Bool) (a : Around) (old new : Option ℕ) → Halts h (values_all (map by_itself ms) a (running old)) → Gives (Err h) (O.repeat of at n ms) w s a old new
unfolding O.repeat
repeat-halts-in h of at n ms w s a old new halts = halts

pub repeat-halts : (h : Halt) (e : Expr) (n : ℕ) (es : List Expr) (w : ℕ) (s : Bool) (a : Around) (old new : Option ℕ) → e.form ≡ V.Repeat n es → Halts h (values_all (map by_itself (map meaning es)) a (running old)) → Gives (Err h) (meaning e) w s a old new
repeat-halts h e n es w s a old new is halts = subst (λ m. Gives (Err h) m w s a old new) (sym (same-Repeat e n es is)) (repeat-halts-in h (layout e.of) e.spot.at n (map meaning es) w s a old new halts)

repeat-done-in : (of : Layout) (at n : ℕ) (ms : List Meaning) (vs : List (List Bit4)) (r : List Bit4) (w : ℕ) (s : Bool) (a : Around) (old new : Option ℕ) → vs ≡ alones ms a → values_all (map by_itself ms) a (running old) ≡ running new
    → r ≡ ext w s (repeated n (stacked vs)) → Gives (Ok r) (O.repeat of at n ms) w s a old new
unfolding O.repeat
repeat-done-in of at n ms vs r w s a old new values runs is = (is ∙ ap (λ q. ext w s (repeated n (stacked q))) values, runs)

pub repeat-done : (e : Expr) (n : ℕ) (es : List Expr) (vs : List (List Bit4)) (r : List Bit4) (w : ℕ) (s : Bool) (a : Around) (old new : Option ℕ) → e.form ≡ V.Repeat n es → vs ≡ alones (map meaning es) a
    → values_all (map by_itself (map meaning es)) a (running old) ≡ running new → r ≡ ext w s (repeated n (stacked vs)) → Gives (Ok r) (meaning e) w s a old new
repeat-done e n es vs r w s a old new at values runs is =
    subst (λ m. Gives (Ok r) m w s a old new) (sym (same-Repeat e n es at)) (repeat-done-in (layout e.of) e.spot.at n (map meaning es) vs r w s a old new values runs is)

-- values without parts
fill-in : (of : Layout) (at : ℕ) (b : Bit4) (r : List Bit4) (w : ℕ) (s : Bool) (a : Around) (old : Option ℕ) → r ≡ replicate w b → Gives (Ok r) (O.fill of at b) w s a old old
unfolding O.fill
fill-in of at b r w s a old is = (is, refl)

pub fill-done : (e : Expr) (b : Bit4) (r : List Bit4) (w : ℕ) (s : Bool) (a : Around) (old : Option ℕ) → e.form ≡ V.Fill b → r ≡ replicate w b → Gives (Ok r) (meaning e) w s a old old
fill-done e b r w s a old is value =
    subst (λ m. Gives (Ok r) m w s a old old) (sym (at-form e (V.Fill b) _ is (L.form-Fill b))) (fill-in (layout e.of) e.spot.at b r w s a old value)

constant-in : (of : Layout) (at : ℕ) (v : Value) (r : List Bit4) (w : ℕ) (s : Bool) (a : Around) (old : Option ℕ) → r ≡ ext w s (bits v) → Gives (Ok r) (O.constant of at v) w s a old old
unfolding O.constant
constant-in of at v r w s a old is = (is, refl)

pub constant-done : (e : Expr) (v : Value) (r : List Bit4) (w : ℕ) (s : Bool) (a : Around) (old : Option ℕ) → e.form ≡ V.Constant v → r ≡ ext w s (bits v) → Gives (Ok r) (meaning e) w s a old old
constant-done e v r w s a old is value =
    subst (λ m. Gives (Ok r) m w s a old old) (sym (at-form e (V.Constant v) _ is (L.form-Constant v))) (constant-in (layout e.of) e.spot.at v r w s a old value)

-- the type of an expression that fits isn't too wide
pub own-narrow : (e : Expr) (fs : ℕ → List Parameter) (w : ℕ) → Fits (meaning e) fs w → width_of e.of ≤ 4194304
own-narrow e fs w f = let h = wide-widest e in let g = wide-is e in let k = f.narrow in omega arith
