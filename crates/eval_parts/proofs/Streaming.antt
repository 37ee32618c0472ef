-- Streams, and what is given to a target.
use Rattle.std.proofs.Common.{◌≡◌, ℕ, ◌-◌, max, Bool, false, List, [], ◌∷◌, ◌++◌, map, length, take, drop, replicate, Option, Ok, Err, refl, arith, length-append, ap, sym, ◌∙◌, subst}
use Rattle.b4_core.specs.declared.bit.Bit4.{Bit4}
use Rattle.b4_core.specs.declared.bit.Bit4.TheVariants.{Zero}
use Rattle.b4_core.specs.Vectors.{ext}
use Rattle.sv_types.specs.declared.expression.Expr.{Expr}
use Rattle.sv_types.specs.declared.expression.Form.TheVariants as V
use Rattle.sv_types.specs.Layouts.{Layout, layout, stacked}
use Rattle.sv_types.specs.Surroundings.{Around, Parameter}
use Rattle.sv_types.specs.Meanings.{Meaning, wide, signed, alone, by_itself, values_all}
use Rattle.sv_types.specs.Operators as O
use Rattle.sv_types.specs.Operators.{streamed, width_of_all}
use Rattle.sv_types.specs.Expressions.{meaning}
use Rattle.sv_types.proofs.Levels as L
use Rattle.sv_types.proofs.ValueLengths.{length-value}
use Rattle.eval_parts.specs.declared.halt.Halt.{Halt}
use Rattle.eval_parts.specs.Surroundings.{running}
use Rattle.eval_parts.specs.Answers.{Gives, GivesTo, Halts, alones}
use Rattle.eval_parts.specs.Limits.{Fits, AllFit}
use Rattle.eval_parts.specs.Streams.{IsCut}
use Rattle.eval_parts.proofs.Lists.{all-fit}
use Rattle.eval_parts.proofs.Steps.{at-form}

pub same-Stream : (e : Expr) (reversed : Bool) (n : ℕ) (es : List Expr) → e.form ≡ V.Stream reversed n es → meaning e ≡ O.stream (layout e.of) e.spot.at reversed n (map meaning es)
same-Stream e reversed n es is = at-form e (V.Stream reversed n es) _ is (L.form-Stream reversed n es)

stream-fits-in : (of : Layout) (at : ℕ) (reversed : Bool) (n : ℕ) (es : List Expr) (fs : ℕ → List Parameter) (w : ℕ) → Fits (O.stream of at reversed n (map meaning es)) fs w → AllFit es fs
unfolding O.stream
stream-fits-in of at reversed n es fs w f = all-fit es fs w (omega arith) (omega arith) (omega arith) (omega arith)

pub stream-fits : (e : Expr) (reversed : Bool) (n : ℕ) (es : List Expr) (fs : ℕ → List Parameter) (w : ℕ) → e.form ≡ V.Stream reversed n es → Fits (meaning e) fs w → AllFit es fs
stream-fits e reversed n es fs w is f = stream-fits-in (layout e.of) e.spot.at reversed n es fs w (subst (λ m. Fits m fs w) (same-Stream e reversed n es is) f)

stream-halts-in : (h : Halt) (of : Layout) (at : ℕ) (reversed : Bool) (n : ℕ) (ms : List Meaning) (w : ℕ) (s : Bool) (a : Around) (old new : Option ℕ) → Halts h (values_all (map by_itself ms) a (running old))
    → Gives (Err h) (O.stream of at reversed n ms) w s a old new
unfolding O.stream
stream-halts-in h of at reversed n ms w s a old new halts = halts

pub stream-halts : (h : Halt) (e : Expr) (reversed : Bool) (n : ℕ) (es : List Expr) (w : ℕ) (s : Bool) (a : Around) (old new : Option ℕ) → e.form ≡ V.Stream reversed n es
    → Halts h (values_all (map by_itself (map meaning es)) a (running old)) → Gives (Err h) (meaning e) w s a old new
stream-halts h e reversed n es w s a old new is halts =
    subst (λ m. Gives (Err h) m w s a old new) (sym (same-Stream e reversed n es is)) (stream-halts-in h (layout e.of) e.spot.at reversed n (map meaning es) w s a old new halts)

stream-done-in : (of : Layout) (at : ℕ) (reversed : Bool) (n : ℕ) (ms : List Meaning) (vs : List (List Bit4)) (r : List Bit4) (w : ℕ) (s : Bool) (a : Around) (old new : Option ℕ) → vs ≡ alones ms a
    → values_all (map by_itself ms) a (running old) ≡ running new → r ≡ ext w false (streamed reversed n (stacked vs)) → Gives (Ok r) (O.stream of at reversed n ms) w s a old new
unfolding O.stream
stream-done-in of at reversed n ms vs r w s a old new values runs is = (is ∙ ap (λ q. ext w false (streamed reversed n (stacked q))) values, runs)

pub stream-done : (e : Expr) (reversed : Bool) (n : ℕ) (es : List Expr) (vs : List (List Bit4)) (r : List Bit4) (w : ℕ) (s : Bool) (a : Around) (old new : Option ℕ) → e.form ≡ V.Stream reversed n es → vs ≡ alones (map meaning es) a
    → values_all (map by_itself (map meaning es)) a (running old) ≡ running new → r ≡ ext w false (streamed reversed n (stacked vs)) → Gives (Ok r) (meaning e) w s a old new
stream-done e reversed n es vs r w s a old new at values runs is =
    subst (λ m. Gives (Ok r) m w s a old new) (sym (same-Stream e reversed n es at)) (stream-done-in (layout e.of) e.spot.at reversed n (map meaning es) vs r w s a old new values runs is)

-- what is given of a stream
given-halts-in : (h : Halt) (of : Layout) (at : ℕ) (reversed : Bool) (n : ℕ) (ms : List Meaning) (k : ℕ) (a : Around) (old new : Option ℕ) → Halts h (values_all (map by_itself ms) a (running old))
    → GivesTo (Err h) (O.stream of at reversed n ms) k a old new
unfolding O.stream
given-halts-in h of at reversed n ms k a old new halts = halts

pub given-halts : (h : Halt) (e : Expr) (reversed : Bool) (n : ℕ) (es : List Expr) (k : ℕ) (a : Around) (old new : Option ℕ) → e.form ≡ V.Stream reversed n es
    → Halts h (values_all (map by_itself (map meaning es)) a (running old)) → GivesTo (Err h) (meaning e) k a old new
given-halts h e reversed n es k a old new is halts =
    subst (λ m. GivesTo (Err h) m k a old new) (sym (same-Stream e reversed n es is)) (given-halts-in h (layout e.of) e.spot.at reversed n (map meaning es) k a old new halts)

length-all : (es : List Expr) (a : Around) → length (stacked (alones (map meaning es) a)) ≡ width_of_all (map meaning es)
length-all [] a = refl
length-all (e ∷ es) a =
    omega (arith, length-append (stacked (alones (map meaning es) a)) (alone (meaning e) a), length-all es a, length-value e (wide (meaning e)) (signed (meaning e)) a)

given-done-in : (of : Layout) (at : ℕ) (reversed : Bool) (n : ℕ) (ms : List Meaning) (vs : List (List Bit4)) (r : List Bit4) (total k : ℕ) (a : Around) (old new : Option ℕ) → vs ≡ alones ms a → total ≡ width_of_all ms
    → values_all (map by_itself ms) a (running old) ≡ running new → r ≡ replicate (k - total) Zero ++ drop (total - k) (streamed reversed n (stacked vs)) → GivesTo (Ok r) (O.stream of at reversed n ms) k a old new
unfolding O.stream
given-done-in of at reversed n ms vs r total k a old new values wide runs is = (
  is ∙ ap (λ t. replicate (k - t) Zero ++ drop (t - k) (streamed reversed n (stacked vs))) wide
      ∙ ap (λ q. replicate (k - width_of_all ms) Zero ++ drop (width_of_all ms - k) (streamed reversed n (stacked q))) values,
  runs,
)

pub given-done : (e : Expr) (reversed : Bool) (n : ℕ) (es : List Expr) (vs : List (List Bit4)) (r : List Bit4) (k : ℕ) (a : Around) (old new : Option ℕ) → e.form ≡ V.Stream reversed n es → vs ≡ alones (map meaning es) a
    → values_all (map by_itself (map meaning es)) a (running old) ≡ running new
    → r ≡ replicate (k - length (stacked vs)) Zero ++ drop (length (stacked vs) - k) (streamed reversed n (stacked vs)) → GivesTo (Ok r) (meaning e) k a old new
given-done e reversed n es vs r k a old new at values runs is =
    subst (λ m. GivesTo (Ok r) m k a old new) (sym (same-Stream e reversed n es at))
    (given-done-in (layout e.of) e.spot.at reversed n (map meaning es) vs r (length (stacked vs)) k a old new values (ap (λ q. length (stacked q)) values ∙ length-all es a) runs is)

-- what is given of anything else
pub cut-done : (m : Meaning) (v r : List Bit4) (n : ℕ) (a : Around) (old new : Option ℕ) → IsCut m → Gives (Ok v) m (max n (wide m)) (signed m) a old new → r ≡ take n v → GivesTo (Ok r) m n a old new
cut-done m v r n a old new cut g is = (is ∙ ap (take n) g.0 ∙ sym (cut.given n a), g.1)
