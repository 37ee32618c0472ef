-- Updates that are collected for a target.
use Rattle.std.proofs.Common.{◌≡◌, ℕ, Bool, true, false, cond, ◌==◌, ◌&&◌, List, [], ◌∷◌, ◌++◌, map, take, drop, length, Option, Some, None, Result, Ok, Err, refl, arith, ap, sym, ◌∙◌, subst}
use Rattle.std.proofs.lemmas.Bool.Decides.{nat_tests}
use Rattle.b4_core.specs.declared.bit.Bit4.{Bit4}
use Rattle.row_machine.specs.Valuation.{Changes}
use Rattle.row_machine.specs.Steps.{then_changes}
use Rattle.sv_types.specs.declared.expression.Expr.{Expr}
use Rattle.sv_types.specs.declared.expression.Form.TheVariants as V
use Rattle.sv_types.specs.Layouts.{Layout, layout, stored}
use Rattle.sv_types.specs.Surroundings.{Around, Parameter}
use Rattle.sv_types.specs.Meanings.{Meaning, wide, written_at, roots_of, misfit, same_sign}
use Rattle.sv_types.specs.Operators as O
use Rattle.sv_types.specs.Operators.{puts_all, places_all, width_of_all, streamed}
use Rattle.sv_types.specs.Paths.{places_from}
use Rattle.sv_types.specs.Expressions.{meaning}
use Rattle.sv_types.proofs.Widths.{wide-widest}
use Rattle.eval_parts.specs.declared.halt.Halt.{Halt}
use Rattle.eval_parts.specs.declared.paths.Found.{Found}
use Rattle.eval_parts.specs.declared.path_steps.Step.{Step}
use Rattle.eval_parts.specs.Answers.{Gives, Halts}
use Rattle.eval_parts.specs.Limits.{FitsAlone, AllFit}
use Rattle.eval_parts.specs.Places.{FindGives, window_of, number_of}
use Rattle.eval_parts.specs.Steps.{IsStep, can_read}
use Rattle.eval_parts.specs.Surroundings.{running}
use Rattle.eval_parts.proofs.Lists as Q
use Rattle.eval_parts.proofs.Streaming as S
use Rattle.eval_parts.proofs.Selecting.{Selects, selects, places-are}
use Rattle.eval_stmts.specs.declared.env.Update.{Update}
use Rattle.eval_stmts.specs.Environments.{updates, AllHeld, IsReady, AllReady}
use Rattle.eval_stmts.specs.Parts.{IsUnwritten, Adds, TargetGives, TargetsGive, PartsFit}
use Rattle.eval_stmts.specs.Targets.{roots_of_all, AllNarrow}
use Rattle.eval_stmts.proofs.Assigning.{updates-append, then-assoc}
use Rattle.eval_stmts.proofs.Fitting.{held-left, held-right}

-- paths
path-places : (m : Meaning) (of : Layout) (at : ℕ) (a : Around) (left : Option ℕ) → Selects m of at → places_from m.root m a (running left) ≡ m.places a (running left)
path-places m of at a left s = subst (λ (n : Meaning). places_from n.root n a (running left) ≡ n.places a (running left)) (sym s.is) (places-are of at s.path a left)

pub path-halts : (h : Halt) (e : Expr) (st : Step) (v : List Bit4) (a : Around) (us vs : List Update) (old new : Option ℕ) → IsStep st e → FindGives (Err h) (meaning e) a old new → TargetGives {T = Unit {0}} (Err h) (meaning e) v a us vs old new
path-halts h e st v a us vs old new is gives = subst (Halts h) (path-places (meaning e) (layout e.of) e.spot.at a old (selects st e is)) gives

path-puts : (m : Meaning) (of : Layout) (at : ℕ) (a : Around) (v : List Bit4) → Selects m of at → m.puts a v ≡ written_at m.root (m.window a) (stored of.two_state v)
path-puts m of at a v s = subst (λ (n : Meaning). n.puts a v ≡ written_at n.root (n.window a) (stored of.two_state v)) (sym s.is) refl

root-held : (root : Option ℕ) (holds : ℕ → Bool) (roots : List ℕ) → roots ≡ (elim root as (λ x. List ℕ) [ None ↦ [] | Some n ↦ n ∷ [] ]) → AllHeld roots holds → can_read root holds ≡ true
root-held None holds roots is h = refl
root-held (Some n) holds roots is h = (subst (λ ns. AllHeld ns holds) is h).0

by-root : (root : Option ℕ) → roots_of root ≡ (elim root as (λ x. List ℕ) [ None ↦ [] | Some n ↦ n ∷ [] ])
by-root None = refl
by-root (Some n) = refl

path-roots : (m : Meaning) (of : Layout) (at : ℕ) → Selects m of at → m.roots ≡ (elim m.root as (λ x. List ℕ) [ None ↦ [] | Some n ↦ n ∷ [] ])
path-roots m of at s = subst (λ (n : Meaning). n.roots ≡ (elim n.root as (λ x. List ℕ) [ None ↦ [] | Some k ↦ k ∷ [] ])) (sym s.is) (by-root s.path.root)

ready-more : (us : List Update) (u : Update) (holds : ℕ → Bool) → IsReady u holds → AllReady us holds → AllReady (us ++ u ∷ []) holds
ready-more [] u holds r h = (r, tt)
ready-more (x ∷ us) u holds r h = (h.0, ready-more us u holds r h.1)

pub path-adds : (e : Expr) (st : Step) (f : Found) (v b : List Bit4) (a : Around) (us vs : List Update) (old new : Option ℕ) → IsStep st e → FindGives (Ok f) (meaning e) a old new → AllHeld (meaning e).roots a.holds → b ≡ stored (layout e.of).two_state v
    → vs ≡ us ++ (record { to = f; bits = b }) ∷ [] → TargetGives {T = Unit {0}} (Ok tt) (meaning e) v a us vs old new
path-adds e st f v b a us vs old new is gives held bits more =
    let m = meaning e in
    let s = selects st e is in
    let u : Update = record { to = f; bits = b } in
    let found = gives.0 in (
      record {
        changes = ap updates more ∙ updates-append us (u ∷ []) ∙ ap (then_changes (updates us))
            (ap (λ x. written_at (number_of f.root) (window_of f.window) x) bits ∙ ap (λ w. written_at (number_of f.root) w (stored (layout e.of).two_state v)) (sym found.window)
            ∙ ap (λ r. written_at r (m.window a) (stored (layout e.of).two_state v)) (sym found.root) ∙ sym (path-puts m (layout e.of) e.spot.at a v s));
        ready = λ h. subst (λ xs. AllReady xs a.holds) (sym more)
            (ready-more us u a.holds (record { near = found.near; held = subst (λ r. can_read r a.holds ≡ true) found.root (root-held m.root a.holds m.roots (path-roots m (layout e.of) e.spot.at s) held) }) h);
      },
      sym (path-places m (layout e.of) e.spot.at a old s) ∙ gives.1,
    )

-- what isn't written
pub value-halts : (h : Halt) (m : Meaning) (w : ℕ) (b : Bool) (v : List Bit4) (a : Around) (us vs : List Update) (old new : Option ℕ) → IsUnwritten m → Gives (Err h) m w b a old new → TargetGives {T = Unit {0}} (Err h) m v a us vs old new
value-halts h m w b v a us vs old new un gives = subst (Halts h) (sym (un.places a (running old))) gives

pub value-adds : (m : Meaning) (w : ℕ) (b : Bool) (x v : List Bit4) (a : Around) (us : List Update) (old new : Option ℕ) → IsUnwritten m → Gives (Ok x) m w b a old new → TargetGives {T = Unit {0}} (Ok tt) m v a us us old new
value-adds m w b x v a us old new un gives = (record { changes = sym (ap (then_changes (updates us)) (un.puts a v)); ready = λ h. h }, un.places a (running old) ∙ gives.1)

-- concatenations
concat-in : {T : Type 0} (r : Result T Halt) (of : Layout) (at : ℕ) (ms : List Meaning) (v : List Bit4) (a : Around) (us vs : List Update) (old new : Option ℕ) → TargetsGive r ms v a us vs old new → TargetGives r (O.concat of at ms) v a us vs old new
unfolding O.concat
concat-in (Ok x) of at ms v a us vs old new g = g
concat-in (Err h) of at ms v a us vs old new g = g

pub concat-gives : {T : Type 0} (r : Result T Halt) (e : Expr) (es : List Expr) (v : List Bit4) (a : Around) (us vs : List Update) (old new : Option ℕ) → e.form ≡ V.Concat es → TargetsGive r (map meaning es) v a us vs old new
    → TargetGives r (meaning e) v a us vs old new
concat-gives r e es v a us vs old new is g = subst (λ m. TargetGives r m v a us vs old new) (sym (Q.same-Concat e es is)) (concat-in r (layout e.of) e.spot.at (map meaning es) v a us vs old new g)

width-by : (b c : Bool) (n w : ℕ) → (n == w) ≡ b → cond {A = ℕ} (b && c) 0 1 ≡ 0 → n ≡ w
width-by true c n w is h = grind (arith, nat_tests)
width-by false c n w is h = absurd (omega arith)

misfit-width : (of : Layout) (w : ℕ) (s : Bool) → misfit of w s ≡ 0 → length of.two_state ≡ w
misfit-width of w s h = width-by (length of.two_state == w) (same_sign of.signed s) (length of.two_state) w refl h

concat-wide : (of : Layout) (at : ℕ) (ms : List Meaning) → (O.concat of at ms).misfits ≡ 0 → wide (O.concat of at ms) ≡ width_of_all ms
unfolding O.concat
concat-wide of at ms h = misfit-width of (width_of_all ms) false (omega arith)

concat-roots : (of : Layout) (at : ℕ) (ms : List Meaning) → (O.concat of at ms).roots ≡ roots_of_all ms
unfolding O.concat
concat-roots of at ms = refl

pub concat-parts : (e : Expr) (es : List Expr) (fs : ℕ → List Parameter) (holds : ℕ → Bool) → e.form ≡ V.Concat es → FitsAlone (meaning e) fs → AllHeld (meaning e).roots holds → PartsFit es fs holds
concat-parts e es fs holds is f held =
    let same = Q.same-Concat e es is in
    let wide-is : wide (meaning e) ≡ width_of_all (map meaning es) = ap wide same ∙ concat-wide (layout e.of) e.spot.at (map meaning es) (ap (λ (m : Meaning). m.misfits) (sym same) ∙ f.typed) in
    record {
      fit = Q.concat-fits e es fs (wide (meaning e)) is f;
      narrow = omega (arith, wide-is, wide-widest e, f.narrow);
      held = subst (λ ns. AllHeld ns holds) (ap (λ (m : Meaning). m.roots) same ∙ concat-roots (layout e.of) e.spot.at (map meaning es)) held;
    }

-- streams
stream-in : {T : Type 0} (r : Result T Halt) (of : Layout) (at : ℕ) (reversed : Bool) (n : ℕ) (ms : List Meaning) (v : List Bit4) (a : Around) (us vs : List Update) (old new : Option ℕ) → TargetsGive r ms (streamed reversed n v) a us vs old new
    → TargetGives r (O.stream of at reversed n ms) v a us vs old new
unfolding O.stream
stream-in (Ok x) of at reversed n ms v a us vs old new g = g
stream-in (Err h) of at reversed n ms v a us vs old new g = g

pub stream-gives : {T : Type 0} (r : Result T Halt) (e : Expr) (reversed : Bool) (n : ℕ) (es : List Expr) (v w : List Bit4) (a : Around) (us vs : List Update) (old new : Option ℕ) → e.form ≡ V.Stream reversed n es → w ≡ streamed reversed n v
    → TargetsGive r (map meaning es) w a us vs old new → TargetGives r (meaning e) v a us vs old new
stream-gives r e reversed n es v w a us vs old new is order g =
    subst (λ m. TargetGives r m v a us vs old new) (sym (S.same-Stream e reversed n es is))
    (stream-in r (layout e.of) e.spot.at reversed n (map meaning es) v a us vs old new (subst (λ x. TargetsGive r (map meaning es) x a us vs old new) order g))

stream-wide : (of : Layout) (at : ℕ) (reversed : Bool) (n : ℕ) (ms : List Meaning) → (O.stream of at reversed n ms).misfits ≡ 0 → wide (O.stream of at reversed n ms) ≡ width_of_all ms
unfolding O.stream
stream-wide of at reversed n ms h = misfit-width of (width_of_all ms) false (omega arith)

stream-roots : (of : Layout) (at : ℕ) (reversed : Bool) (n : ℕ) (ms : List Meaning) → (O.stream of at reversed n ms).roots ≡ roots_of_all ms
unfolding O.stream
stream-roots of at reversed n ms = refl

pub stream-parts : (e : Expr) (reversed : Bool) (n : ℕ) (es : List Expr) (fs : ℕ → List Parameter) (holds : ℕ → Bool) → e.form ≡ V.Stream reversed n es → FitsAlone (meaning e) fs → AllHeld (meaning e).roots holds → PartsFit es fs holds
stream-parts e reversed n es fs holds is f held =
    let same = S.same-Stream e reversed n es is in
    let wide-is : wide (meaning e) ≡ width_of_all (map meaning es) = ap wide same ∙ stream-wide (layout e.of) e.spot.at reversed n (map meaning es) (ap (λ (m : Meaning). m.misfits) (sym same) ∙ f.typed) in
    record {
      fit = S.stream-fits e reversed n es fs (wide (meaning e)) is f;
      narrow = omega (arith, wide-is, wide-widest e, f.narrow);
      held = subst (λ ns. AllHeld ns holds) (ap (λ (m : Meaning). m.roots) same ∙ stream-roots (layout e.of) e.spot.at reversed n (map meaning es)) held;
    }

-- parts in order
pub parts-narrow : (es : List Expr) (fs : ℕ → List Parameter) → AllFit es fs → AllNarrow es
parts-narrow [] fs f = tt
parts-narrow (e ∷ es) fs f = (f.0.narrow, parts-narrow es fs f.1)

pub first-part : (e : Expr) (es : List Expr) (fs : ℕ → List Parameter) (holds : ℕ → Bool) → PartsFit (e ∷ es) fs holds → AllHeld (meaning e).roots holds
first-part e es fs holds f = held-left (meaning e).roots (roots_of_all (map meaning es)) holds f.held

pub later-parts : (e : Expr) (es : List Expr) (fs : ℕ → List Parameter) (holds : ℕ → Bool) → PartsFit (e ∷ es) fs holds → PartsFit es fs holds
later-parts e es fs holds f = record { fit = f.fit.1; narrow = omega (arith, f.narrow); held = held-right (meaning e).roots (roots_of_all (map meaning es)) holds f.held }

pub adds-next : (m : Meaning) (ms : List Meaning) (piece v : List Bit4) (a : Around) (us vs : List Update) (all : Changes) → piece ≡ take (wide m) (drop (width_of_all ms) v) → Adds (m.puts a piece) a.holds us vs
    → then_changes (updates us) (puts_all (m ∷ ms) a v) ≡ all → then_changes (updates vs) (puts_all ms a v) ≡ all
adds-next m ms piece v a us vs all is adds before =
    ap (λ c. then_changes c (puts_all ms a v)) (adds.changes ∙ ap (λ p. then_changes (updates us) (m.puts a p)) is)
    ∙ sym (then-assoc (updates us) (m.puts a (take (wide m) (drop (width_of_all ms) v))) (puts_all ms a v)) ∙ before

pub all-added : (us : List Update) (a : Around) (v : List Bit4) (all : Changes) → then_changes (updates us) (puts_all [] a v) ≡ all → updates us ≡ all
all-added us a v all is = is

-- which targets are streams
pub path-streams : (e : Expr) (st : Step) → IsStep st e → (meaning e).streams ≡ false
path-streams e st is = ap (λ (m : Meaning). m.streams) (selects st e is).is

concat-in-streams : (of : Layout) (at : ℕ) (ms : List Meaning) → (O.concat of at ms).streams ≡ false
unfolding O.concat
concat-in-streams of at ms = refl

pub concat-streams : (e : Expr) (es : List Expr) → e.form ≡ V.Concat es → (meaning e).streams ≡ false
concat-streams e es is = ap (λ (m : Meaning). m.streams) (Q.same-Concat e es is) ∙ concat-in-streams (layout e.of) e.spot.at (map meaning es)

stream-in-streams : (of : Layout) (at : ℕ) (reversed : Bool) (n : ℕ) (ms : List Meaning) → (O.stream of at reversed n ms).streams ≡ true
unfolding O.stream
stream-in-streams of at reversed n ms = refl

pub stream-streams : (e : Expr) (reversed : Bool) (n : ℕ) (es : List Expr) → e.form ≡ V.Stream reversed n es → (meaning e).streams ≡ true
stream-streams e reversed n es is = ap (λ (m : Meaning). m.streams) (S.same-Stream e reversed n es is) ∙ stream-in-streams (layout e.of) e.spot.at reversed n (map meaning es)
