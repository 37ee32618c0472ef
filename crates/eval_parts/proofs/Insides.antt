-- `inside`: a value is compared with each alternative.
use Rattle.std.proofs.Common.{◌≡◌, ℕ, suc, ◌+◌, ◌≤◌, ◌<◌, max, Bool, List, [], ◌∷◌, ◌++◌, map, flat_map, drop, length, get_or, Option, Some, None, Ok, Err, arith, ap, sym, ◌∙◌, subst, append_assoc}
use Rattle.std.proofs.Math.Seq.{drop-cons}
use Rattle.std.proofs.Math.Numerals.{add-one}
use Rattle.b4_core.specs.declared.bit.Bit4.{Bit4}
use Rattle.b4_core.specs.declared.operators.EqOp.TheVariants.{Wild}
use Rattle.b4_core.specs.declared.operators.OrdOp.TheVariants.{LessEqual, GreaterEqual}
use Rattle.b4_core.specs.Bits.{and4}
use Rattle.b4_core.specs.Bitwise.{any4}
use Rattle.b4_core.specs.Compare.{equality, order_value}
use Rattle.b4_core.specs.Vectors.{ext}
use Rattle.sv_types.specs.declared.expression.Expr.{Expr}
use Rattle.sv_types.specs.declared.expression.Choice.{Choice}
use Rattle.sv_types.specs.declared.expression.Choice.TheVariants as C
use Rattle.sv_types.specs.declared.expression.Form.TheVariants as V
use Rattle.sv_types.specs.Layouts.{Layout, layout}
use Rattle.sv_types.specs.Surroundings.{Around, Tally, Stop, Parameter}
use Rattle.sv_types.specs.Meanings.{Meaning, Operand, wide, by_itself, at_width, values_all, most, total}
use Rattle.sv_types.specs.Operators as O
use Rattle.sv_types.specs.Operators.{Alternative, both_wide, both_signed, is_inside, inside_operands, inside_width, inside_arithmetic}
use Rattle.sv_types.specs.Expressions.{meaning}
use Rattle.sv_types.proofs.Levels as L
use Rattle.sv_types.proofs.Levels.{only, from-to}
use Rattle.sv_types.proofs.Widths.{has-bits}
use Rattle.eval_parts.specs.declared.halt.Halt.{Halt}
use Rattle.eval_parts.specs.declared.halt.Halt.TheVariants as H
use Rattle.eval_parts.specs.Surroundings.{running}
use Rattle.eval_parts.specs.Answers.{Gives, Halts}
use Rattle.eval_parts.specs.Insides.{alternative, Runs, PairFits, RangeFits, AlternativeFits, AllAlternativesFit, GoesOn, StopsIn, AlternativeGives, InsideGives}
use Rattle.eval_parts.specs.Limits.{Fits}
use Rattle.eval_parts.proofs.Efforts.{first-on, first-halts, second-halts}
use Rattle.eval_parts.proofs.Narrower.{grows}
use Rattle.eval_parts.proofs.Steps.{at-form}

-- an expression that runs to its end on a budget does so again, or wants memory
pub only-memory : (h : Halt) (m : Meaning) (a : Around) (start : Option ℕ) (t : Tally) → Runs m a start → Halts h (m.values a (running start)) → Halts h t
only-memory H.Memory m a start t runs halts = tt
only-memory (H.NotHeld n) m a start t runs halts = absurd (let e : None ≡ Some (Stop.NotHeld n) = ap (λ (u : Tally). u.stop) (sym runs.is) ∙ halts in cc)
only-memory H.Turns m a start t runs halts = absurd (let e : None ≡ Some Stop.Turns = ap (λ (u : Tally). u.stop) (sym runs.is) ∙ halts in cc)

-- a single value
pub only-done : (c : Choice) (x v : Expr) (p q : List Bit4) (b : Bit4) (a : Around) (start again old new : Option ℕ) → c ≡ C.Value v
    → Gives (Ok p) (meaning x) (both_wide (meaning x) (meaning v)) (both_signed (meaning x) (meaning v)) a start again
    → Gives (Ok q) (meaning v) (both_wide (meaning x) (meaning v)) (both_signed (meaning x) (meaning v)) a old new → b ≡ equality Wild p q → AlternativeGives (Ok b) (meaning x) (alternative c) a old new
only-done c x v p q b a start again old new is g h value =
    subst (λ k. AlternativeGives (Ok b) (meaning x) k a old new) (sym (ap alternative is ∙ only v)) (
      value ∙ ap (λ (u : List Bit4). equality Wild u q) g.0 ∙ ap (λ (u : List Bit4). equality Wild ((meaning x).value (both_wide (meaning x) (meaning v)) (both_signed (meaning x) (meaning v)) a) u) h.0,
      record { on = λ rest. first-on (at_width (both_wide (meaning x) (meaning v)) (meaning v)) rest a (running old) new h.1 },
    )

pub only-halts : (h : Halt) (c : Choice) (x v : Expr) (w : ℕ) (s : Bool) (a : Around) (old new : Option ℕ) → c ≡ C.Value v → Gives (Err h) (meaning v) w s a old new → AlternativeGives (Err h) (meaning x) (alternative c) a old new
only-halts h c x v w s a old new is g =
    subst (λ k. AlternativeGives (Err h) (meaning x) k a old new) (sym (ap alternative is ∙ only v))
    (record { halts = λ rest. first-halts h (at_width (both_wide (meaning x) (meaning v)) (meaning v)) rest a (running old) g })

-- a value that stops when it is valued again
pub again-halts : (h : Halt) (c : Alternative) (x : Expr) (w : ℕ) (s : Bool) (a : Around) (start old new : Option ℕ) → Runs (meaning x) a start → Gives (Err h) (meaning x) w s a start new → AlternativeGives (Err h) (meaning x) c a old new
again-halts h c x w s a start old new runs g = record { halts = λ rest. only-memory h (meaning x) a start _ runs g }

-- a range
pub range-done : (c : Choice) (x low high : Expr) (p q r u : List Bit4) (b : Bit4) (a : Around) (start again other old one new : Option ℕ) → c ≡ C.Range low high
    → Gives (Ok p) (meaning x) (both_wide (meaning x) (meaning low)) (both_signed (meaning x) (meaning low)) a start again
    → Gives (Ok q) (meaning low) (both_wide (meaning x) (meaning low)) (both_signed (meaning x) (meaning low)) a old one
    → Gives (Ok r) (meaning x) (both_wide (meaning x) (meaning high)) (both_signed (meaning x) (meaning high)) a start other
    → Gives (Ok u) (meaning high) (both_wide (meaning x) (meaning high)) (both_signed (meaning x) (meaning high)) a one new
    → b ≡ and4 (order_value GreaterEqual (both_signed (meaning x) (meaning low)) p q) (order_value LessEqual (both_signed (meaning x) (meaning high)) r u)
    → AlternativeGives (Ok b) (meaning x) (alternative c) a old new
range-done c x low high p q r u b a start again other old one new is g0 g1 g2 g3 value =
    let mx = meaning x in
    let ml = meaning low in
    let mh = meaning high in
    let first = λ (y z : List Bit4). order_value GreaterEqual (both_signed mx ml) y z in
    let second = λ (y z : List Bit4). order_value LessEqual (both_signed mx mh) y z in
    subst (λ k. AlternativeGives (Ok b) mx k a old new) (sym (ap alternative is ∙ from-to low high)) (
      value ∙ ap (λ (y : List Bit4). and4 (first y q) (second r u)) g0.0
          ∙ ap (λ (y : List Bit4). and4 (first (mx.value (both_wide mx ml) (both_signed mx ml) a) y) (second r u)) g1.0
          ∙ ap (λ (y : List Bit4). and4 (O.in_order GreaterEqual mx ml a) (second y u)) g2.0
          ∙ ap (λ (y : List Bit4). and4 (O.in_order GreaterEqual mx ml a) (second (mx.value (both_wide mx mh) (both_signed mx mh) a) y)) g3.0,
      record {
        on = λ rest. first-on (at_width (both_wide mx ml) ml) (at_width (both_wide mx mh) mh ∷ rest) a (running old) one g1.1
            ∙ first-on (at_width (both_wide mx mh) mh) rest a (running one) new g3.1;
      },
    )

pub low-halts : (h : Halt) (c : Choice) (x low high : Expr) (w : ℕ) (s : Bool) (a : Around) (old new : Option ℕ) → c ≡ C.Range low high → Gives (Err h) (meaning low) w s a old new → AlternativeGives (Err h) (meaning x) (alternative c) a old new
low-halts h c x low high w s a old new is g =
    subst (λ k. AlternativeGives (Err h) (meaning x) k a old new) (sym (ap alternative is ∙ from-to low high))
    (record { halts = λ rest. first-halts h (at_width (both_wide (meaning x) (meaning low)) (meaning low)) (at_width (both_wide (meaning x) (meaning high)) (meaning high) ∷ rest) a (running old) g })

pub high-halts : (h : Halt) (c : Choice) (x low high : Expr) (w : ℕ) (s : Bool) (a : Around) (old one new : Option ℕ) → c ≡ C.Range low high → (meaning low).values a (running old) ≡ running one
    → Gives (Err h) (meaning high) w s a one new → AlternativeGives (Err h) (meaning x) (alternative c) a old new
high-halts h c x low high w s a old one new is ran g =
    subst (λ k. AlternativeGives (Err h) (meaning x) k a old new) (sym (ap alternative is ∙ from-to low high)) (record {
      halts = λ rest. second-halts h (at_width (both_wide (meaning x) (meaning low)) (meaning low)) (at_width (both_wide (meaning x) (meaning high)) (meaning high)) rest a (running old) one ran g;
    })

-- limits of choices
pub value-fits : (c : Choice) (x v : Expr) (fs : ℕ → List Parameter) → c ≡ C.Value v → AlternativeFits (meaning x) fs (alternative c) → PairFits (meaning x) (meaning v) fs
value-fits c x v fs is f = subst (AlternativeFits (meaning x) fs) (ap alternative is ∙ only v) f

pub range-fits : (c : Choice) (x low high : Expr) (fs : ℕ → List Parameter) → c ≡ C.Range low high → AlternativeFits (meaning x) fs (alternative c) → RangeFits (meaning x) (meaning low) (meaning high) fs
range-fits c x low high fs is f = subst (AlternativeFits (meaning x) fs) (ap alternative is ∙ from-to low high) f

-- from choice to choice
at-front : {A : Type 0} (xs : List A) (i : ℕ) (x : A) → i < length xs → x ≡ get_or xs i x → drop i xs ≡ x ∷ drop (i + 1) xs
at-front xs i x h is = drop-cons xs i x h ∙ ap (λ y. y ∷ drop (suc i) xs) (sym is) ∙ ap (λ k. x ∷ drop k xs) (sym (add-one i))

pub choice-fits : (cs : List Choice) (i : ℕ) (c : Choice) (m : Meaning) (fs : ℕ → List Parameter) → i < length cs → c ≡ get_or cs i c → AllAlternativesFit m fs (map alternative (drop i cs))
    → AlternativeFits m fs (alternative c) × AllAlternativesFit m fs (map alternative (drop (i + 1) cs))
choice-fits cs i c m fs h is f = subst (λ ds. AllAlternativesFit m fs (map alternative ds)) (at-front cs i c h is) f

pub choice-made : (cs : List Choice) (i : ℕ) (c : Choice) (m : Meaning) (a : Around) (made new all : List Bit4) (b : Bit4) → i < length cs → c ≡ get_or cs i c → new ≡ made ++ b ∷ [] → b ≡ is_inside m a (alternative c)
    → made ++ map (is_inside m a) (map alternative (drop i cs)) ≡ all → new ++ map (is_inside m a) (map alternative (drop (i + 1) cs)) ≡ all
choice-made cs i c m a made new all b h is more value before =
    let later = map (is_inside m a) (map alternative (drop (i + 1) cs)) in
    ap (λ q. q ++ later) more ∙ append_assoc made (b ∷ []) later ∙ ap (λ y. made ++ (y ∷ later)) value
    ∙ ap (λ ds. made ++ map (is_inside m a) (map alternative ds)) (sym (at-front cs i c h is)) ∙ before

pub choice-runs : (cs : List Choice) (i : ℕ) (c : Choice) (m : Meaning) (a : Around) (all : Tally) (old new : Option ℕ) → i < length cs → c ≡ get_or cs i c → GoesOn (inside_operands m (alternative c)) a old new
    → values_all (flat_map (inside_operands m) (map alternative (drop i cs))) a (running old) ≡ all → values_all (flat_map (inside_operands m) (map alternative (drop (i + 1) cs))) a (running new) ≡ all
choice-runs cs i c m a all old new h is ran before =
    sym (ran.on (flat_map (inside_operands m) (map alternative (drop (i + 1) cs)))) ∙ ap (λ ds. values_all (flat_map (inside_operands m) (map alternative ds)) a (running old)) (sym (at-front cs i c h is)) ∙ before

pub choice-halts : (h : Halt) (cs : List Choice) (i : ℕ) (c : Choice) (m : Meaning) (a : Around) (all : Tally) (old : Option ℕ) → i < length cs → c ≡ get_or cs i c → StopsIn h (inside_operands m (alternative c)) a old
    → values_all (flat_map (inside_operands m) (map alternative (drop i cs))) a (running old) ≡ all → Halts h all
choice-halts h cs i c m a all old within is stops before =
    subst (Halts h) (ap (λ ds. values_all (flat_map (inside_operands m) (map alternative ds)) a (running old)) (sym (at-front cs i c within is)) ∙ before)
    (stops.halts (flat_map (inside_operands m) (map alternative (drop (i + 1) cs))))

-- the form itself
pub same-Inside : (e x : Expr) (cs : List Choice) → e.form ≡ V.Inside x cs → meaning e ≡ O.inside (layout e.of) e.spot.at (meaning x) (map alternative cs)
same-Inside e x cs is = at-form e (V.Inside x cs) _ is (L.form-Inside x cs)

inside-halts-in : (h : Halt) (of : Layout) (at : ℕ) (m : Meaning) (cs : List Alternative) (w : ℕ) (s : Bool) (a : Around) (old new : Option ℕ) → InsideGives (Err h) m cs a old new → Gives (Err h) (O.inside of at m cs) w s a old new
unfolding O.inside
inside-halts-in h of at m cs w s a old new halts = halts

pub inside-halts : (h : Halt) (e x : Expr) (cs : List Choice) (w : ℕ) (s : Bool) (a : Around) (old new : Option ℕ) → e.form ≡ V.Inside x cs → InsideGives (Err h) (meaning x) (map alternative cs) a old new → Gives (Err h) (meaning e) w s a old new
inside-halts h e x cs w s a old new is halts =
    subst (λ m. Gives (Err h) m w s a old new) (sym (same-Inside e x cs is)) (inside-halts-in h (layout e.of) e.spot.at (meaning x) (map alternative cs) w s a old new halts)

inside-done-in : (of : Layout) (at : ℕ) (m : Meaning) (cs : List Alternative) (b : Bit4) (r : List Bit4) (w : ℕ) (s : Bool) (a : Around) (old new : Option ℕ) → InsideGives (Ok b) m cs a old new → r ≡ ext w s (b ∷ []) → Gives (Ok r) (O.inside of at m cs) w s a old new
unfolding O.inside
inside-done-in of at m cs b r w s a old new g is = (is ∙ ap (λ q. ext w s (q ∷ [])) g.0, g.1)

pub inside-done : (e x : Expr) (cs : List Choice) (b : Bit4) (r : List Bit4) (w : ℕ) (s : Bool) (a : Around) (old new : Option ℕ) → e.form ≡ V.Inside x cs → InsideGives (Ok b) (meaning x) (map alternative cs) a old new → r ≡ ext w s (b ∷ [])
    → Gives (Ok r) (meaning e) w s a old new
inside-done e x cs b r w s a old new at g is =
    subst (λ m. Gives (Ok r) m w s a old new) (sym (same-Inside e x cs at)) (inside-done-in (layout e.of) e.spot.at (meaning x) (map alternative cs) b r w s a old new g is)

-- all alternatives, from what they gave one by one
pub all-inside : (m : Meaning) (cs : List Alternative) (bs : List Bit4) (b : Bit4) (a : Around) (old one new : Option ℕ) → m.values a (running old) ≡ running one → bs ≡ map (is_inside m a) cs
    → values_all (flat_map (inside_operands m) cs) a (running one) ≡ running new → b ≡ any4 bs → InsideGives (Ok b) m cs a old new
all-inside m cs bs b a old one new ran values runs is = (is ∙ ap any4 values, first-on (by_itself m) (flat_map (inside_operands m) cs) a (running old) one ran ∙ runs)

pub inside-first-halts : (h : Halt) (m : Meaning) (cs : List Alternative) (w : ℕ) (s : Bool) (a : Around) (old new : Option ℕ) → Gives (Err h) m w s a old new → InsideGives (Err h) m cs a old new
inside-first-halts h m cs w s a old new halts = first-halts h (by_itself m) (flat_map (inside_operands m) cs) a (running old) halts

pub inside-next-halts : (h : Halt) (m : Meaning) (cs : List Alternative) (a : Around) (old one new : Option ℕ) → m.values a (running old) ≡ running one → Halts h (values_all (flat_map (inside_operands m) cs) a (running one)) → InsideGives (Err h) m cs a old new
inside-next-halts h m cs a old one new ran halts = subst (Halts h) (sym (first-on (by_itself m) (flat_map (inside_operands m) cs) a (running old) one ran)) halts

-- its limits
pair-fits : (x : Expr) (v : Meaning) (fs : ℕ → List Parameter) (w : ℕ) → both_wide (meaning x) v ≤ w → (meaning x).misfits ≡ 0 → (meaning x).widest ≤ 4194304 → (meaning x).arithmetic fs w ≤ 128 → (meaning x).indexing ≤ 64
    → v.misfits ≡ 0 → v.widest ≤ 4194304 → v.arithmetic fs (both_wide (meaning x) v) ≤ 128 → v.indexing ≤ 64 → PairFits (meaning x) v fs
pair-fits x v fs w low typed narrow arithmetic indexing vtyped vnarrow varithmetic vindexing =
    let some = has-bits x typed in
    record {
      left = record { some = omega arith; typed = typed; narrow = narrow; arithmetic = omega (arith, grows x fs (both_wide (meaning x) v) w low); indexing = indexing };
      right = record { some = omega arith; typed = vtyped; narrow = vnarrow; arithmetic = varithmetic; indexing = vindexing };
    }

abbrev misfits_of : List Operand → ℕ
misfits_of ps = total (map (λ (p : Operand). p.of.misfits) ps)

abbrev widest_of : List Operand → ℕ
widest_of ps = most (map (λ (p : Operand). p.of.widest) ps)

abbrev arithmetic_of : (ℕ → List Parameter) → ℕ → List Operand → ℕ
arithmetic_of fs w ps = most (map (λ (p : Operand). p.of.arithmetic fs (p.at w)) ps)

abbrev indexing_of : List Operand → ℕ
indexing_of ps = most (map (λ (p : Operand). p.of.indexing) ps)

choices-fit : (x : Expr) (cs : List Alternative) (fs : ℕ → List Parameter) (c w : ℕ) → most (map (inside_width (meaning x)) cs) ≤ w → (meaning x).misfits ≡ 0 → (meaning x).widest ≤ 4194304 → (meaning x).arithmetic fs w ≤ 128
    → (meaning x).indexing ≤ 64 → most (map (inside_arithmetic (meaning x)) cs) ≤ 128 → misfits_of (flat_map (inside_operands (meaning x)) cs) ≡ 0 → widest_of (flat_map (inside_operands (meaning x)) cs) ≤ 4194304
    → arithmetic_of fs c (flat_map (inside_operands (meaning x)) cs) ≤ 128 → indexing_of (flat_map (inside_operands (meaning x)) cs) ≤ 64 → AllAlternativesFit (meaning x) fs cs
choices-fit x [] fs c w low typed narrow arithmetic indexing word typeds narrows arithmetics indexings = tt
choices-fit x (Alternative.Only v ∷ cs) fs c w low typed narrow arithmetic indexing word typeds narrows arithmetics indexings = (
  pair-fits x v fs w (omega arith) typed narrow arithmetic indexing (omega arith) (omega arith) (omega arith) (omega arith),
  choices-fit x cs fs c w (omega arith) typed narrow arithmetic indexing (omega arith) (omega arith) (omega arith) (omega arith) (omega arith),
)
choices-fit x (Alternative.From v u ∷ cs) fs c w low typed narrow arithmetic indexing word typeds narrows arithmetics indexings = (
  record {
    below = pair-fits x v fs w (omega arith) typed narrow arithmetic indexing (omega arith) (omega arith) (omega arith) (omega arith);
    above = pair-fits x u fs w (omega arith) typed narrow arithmetic indexing (omega arith) (omega arith) (omega arith) (omega arith);
    low_word = omega arith;
    high_word = omega arith;
  },
  choices-fit x cs fs c w (omega arith) typed narrow arithmetic indexing (omega arith) (omega arith) (omega arith) (omega arith) (omega arith),
)

-- a value by which alternatives are compared, valued alone, and its alternatives
pub record InsideFits (x : Expr) (cs : List Choice) (fs : ℕ → List Parameter) : Type 0 where
  pub one : Fits (meaning x) fs (wide (meaning x))
  pub choices : AllAlternativesFit (meaning x) fs (map alternative cs)

inside-fits-in : (of : Layout) (at : ℕ) (x : Expr) (cs : List Choice) (fs : ℕ → List Parameter) (w : ℕ) → Fits (O.inside of at (meaning x) (map alternative cs)) fs w → InsideFits x cs fs
unfolding O.inside
inside-fits-in of at x cs fs w f =
    let m = meaning x in
    let n = max (wide m) (most (map (inside_width m) (map alternative cs))) in
    let typed : m.misfits ≡ 0 = omega arith in
    let arithmetic : m.arithmetic fs n ≤ 128 = omega arith in
    record {
      one = record { some = has-bits x typed; typed = typed; narrow = omega arith; arithmetic = omega (arith, grows x fs (wide m) n (omega arith)); indexing = omega arith };
      choices = choices-fit x (map alternative cs) fs w n (omega arith) typed (omega arith) arithmetic (omega arith) (omega arith) (omega arith) (omega arith) (omega arith) (omega arith);
    }

pub inside-fits : (e x : Expr) (cs : List Choice) (fs : ℕ → List Parameter) (w : ℕ) → e.form ≡ V.Inside x cs → Fits (meaning e) fs w → InsideFits x cs fs
inside-fits e x cs fs w is f = inside-fits-in (layout e.of) e.spot.at x cs fs w (subst (λ m. Fits m fs w) (same-Inside e x cs is) f)
