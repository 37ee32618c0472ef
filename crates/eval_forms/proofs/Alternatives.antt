-- `inside`: what its alternatives ask, and what they give.
use Rattle.std.proofs.Common.{◌≡◌, ℕ, ◌+◌, ◌<◌, ◌≤◌, suc, ◌-◌, Bool, List, [], ◌∷◌, ◌++◌, map, flat_map, take, drop, length, get_or, Option, Some, None, refl, arith, ap, sym, ◌∙◌, subst, rules}
use Rattle.std.proofs.lemmas.List.{map-append, length-map, length-append, length-drop, drop-map, take_all}
use Rattle.std.proofs.Math.Seq.{drop-append_seam, drop-cons}
use Rattle.std.proofs.Math.Numerals.{add-one}
use Rattle.b4_core.specs.declared.bit.Bit4.{Bit4}
use Rattle.b4_core.specs.declared.operators.EqOp.TheVariants.{Wild}
use Rattle.b4_core.specs.declared.operators.OrdOp.TheVariants.{LessEqual, GreaterEqual}
use Rattle.b4_core.specs.Bits.{and4}
use Rattle.b4_core.specs.Bitwise.{any4}
use Rattle.b4_core.specs.Compare.{equality, order_value}
use Rattle.b4_core.specs.Vectors.{ext}
use Rattle.sv_types.specs.declared.expression.Expr.{Expr}
use Rattle.sv_types.specs.declared.expression.Form.{Form, Form-F, out-Form, the_lemmas as form_lemmas}
use Rattle.sv_types.specs.declared.expression.Form.TheVariants as V
use Rattle.sv_types.specs.declared.expression.Choice.{Choice, Choice-F, out-Choice, roll-Choice, map-Choice, ind-Choice, the_lemmas}
use Rattle.sv_types.specs.declared.expression.Choice.TheVariants as C
use Rattle.sv_types.specs.Layouts.{Layout, layout}
use Rattle.sv_types.specs.Surroundings.{Around, Tally, Stop, Parameter, onward}
use Rattle.sv_types.specs.Meanings.{Meaning, Operand, values_all, wide}
use Rattle.sv_types.specs.Operators as O
use Rattle.sv_types.specs.Operators.{Alternative, both_wide, both_signed, is_inside, inside_operands}
use Rattle.sv_types.specs.Expressions.{meaning}
use Rattle.sv_types.proofs.Levels as L
use Rattle.sv_types.proofs.Levels.{only, from-to}
use Rattle.eval_parts.specs.Insides.{alternative, AlternativeFits, AllAlternativesFit, PairFits, RangeFits}
use Rattle.eval_parts.specs.Limits.{Fits}
use Rattle.eval_parts.proofs.Insides as I
use Rattle.eval_parts.proofs.Steps.{at-form}
use Rattle.eval_forms.specs.Asked.{Asked, alone_asked, choice_asked, form_asked, values_asked, all_bits, width_asked, widths_asked, AllFitAsked, Operands, Combines}
use Rattle.eval_forms.specs.Tests.{wild_test, range_test, test_of, tests_of, TestFits, TestsFit}
use Rattle.eval_forms.proofs.Strict as S

-- what holds of single values and of ranges holds of all choices
module _ (P : Choice → Type 0) (value : (v : Expr) → P (C.Value v)) (range : (low high : Expr) → P (C.Range low high)) where
  abbrev AChoice : Type 0
  AChoice = (x : Choice) × P x

  abbrev AForm : Type 0
  AForm = (x : Form) × Unit {0}

  abbrev AnExpr : Type 0
  AnExpr = (x : Expr) × Unit {0}

  level : (y : Choice-F AChoice AForm AnExpr) → P (roll-Choice (map-Choice AChoice AForm AnExpr Choice Form Expr (λ e. e.0) (λ e. e.0) (λ e. e.0) y))
  level (Choice-F.Value e) = subst P (sym (C.rolls-Value e.0)) (value e.0)
  level (Choice-F.Range low high) = subst P (sym (C.rolls-Range low.0 high.0)) (range low.0 high.0)

  pub by-choice : (c : Choice) → P c
  by-choice =
      ind-Choice P (λ f. Unit {0}) (λ e. Unit {0}) (λ x y is. subst (λ z. P (roll-Choice z)) is (level y)) (λ x y is. tt) (λ x y is. tt)

pub out-Value : (v : Expr) → out-Choice (C.Value v) ≡ Choice-F.Value v
out-Value v = search (rules, the_lemmas)

pub out-Range : (low high : Expr) → out-Choice (C.Range low high) ≡ Choice-F.Range low high
out-Range low high = search (rules, the_lemmas)

abbrev asks : Expr → Choice → List Asked
asks x c = choice_asked x (out-Choice c)

abbrev all_asks : Expr → List Choice → List Asked
all_asks x cs = flat_map (λ c. choice_asked x (out-Choice c)) cs

-- each test is whether the value is the alternative
abbrev TestsIt : Choice → Type 0
TestsIt c = (x : Expr) (a : Around) (later : List (List Bit4)) → test_of x (out-Choice c) (all_bits (asks x c) a ++ later) ≡ is_inside (meaning x) a (alternative c)

tests-value : (v : Expr) → TestsIt (C.Value v)
tests-value v x a later = ap (λ o. test_of x o (all_bits (choice_asked x o) a ++ later)) (out-Value v) ∙ ap (is_inside (meaning x) a) (sym (only v))

tests-range : (low high : Expr) → TestsIt (C.Range low high)
tests-range low high x a later = ap (λ o. test_of x o (all_bits (choice_asked x o) a ++ later)) (out-Range low high) ∙ ap (is_inside (meaning x) a) (sym (from-to low high))

pub tests-it : (c : Choice) → TestsIt c
tests-it = by-choice TestsIt tests-value tests-range

behind : (x : Expr) (c : Choice) (cs : List Choice) (a : Around) → drop (length (asks x c)) (all_bits (asks x c ++ all_asks x cs) a) ≡ all_bits (all_asks x cs) a
behind x c cs a =
    let one = all_bits (asks x c) a in
    let rest = all_bits (all_asks x cs) a in
    ap (λ n. drop n (all_bits (asks x c ++ all_asks x cs) a)) (sym (length-map (asks x c) _)) ∙ ap (λ vs. drop (length one) vs) (map-append _ (asks x c) (all_asks x cs)) ∙ drop-append_seam one rest

pub all-tests : (x : Expr) (cs : List Choice) (a : Around) → tests_of x cs (all_bits (all_asks x cs) a) ≡ map (is_inside (meaning x) a) (map alternative cs)
all-tests x [] a = refl
all-tests x (c ∷ cs) a =
    let one = all_bits (asks x c) a in
    let rest = all_bits (all_asks x cs) a in
    ap (λ vs. test_of x (out-Choice c) vs ∷ tests_of x cs (drop (length (asks x c)) (all_bits (asks x c ++ all_asks x cs) a))) (map-append _ (asks x c) (all_asks x cs))
    ∙ ap (λ vs. test_of x (out-Choice c) (one ++ rest) ∷ tests_of x cs vs) (behind x c cs a)
    ∙ ap (λ b. b ∷ tests_of x cs rest) (tests-it c x a rest)
    ∙ ap (λ bs. is_inside (meaning x) a (alternative c) ∷ bs) (all-tests x cs a)

-- a run that didn't stop goes on
onward-running : (f : Tally → Tally) (t : Tally) → t.stop ≡ None → onward f t ≡ f t
onward-running f t is = ap (λ (o : Option Stop). elim o [ None ↦ f t | Some s ↦ t ]) is

abbrev onward-by : Option Stop → (Tally → Tally) → Tally → Tally
onward-by o f t = elim o [ None ↦ f t | Some s ↦ t ]

same-by : (o : Option Stop) (t : Tally) (f g : Tally → Tally) → t.stop ≡ o → ((u : Tally) → u.stop ≡ None → f u ≡ g u) → onward-by o f t ≡ onward-by o g t
same-by None t f g is same = same t is
same-by (Some x) t f g is same = refl

same-running : (f g : Tally → Tally) (t : Tally) → ((u : Tally) → u.stop ≡ None → f u ≡ g u) → onward f t ≡ onward g t
same-running f g t same = same-by t.stop t f g refl same

abbrev values : Meaning → Around → Tally → Tally
values m a t = m.values a t

-- what is asked again takes nothing
abbrev TakesIt : Choice → Type 0
TakesIt c = (x : Expr) (a : Around) (rest : List Operand) (later : List Asked) (t : Tally) → ((u : Tally) → u.stop ≡ None → values_all rest a u ≡ values_asked later a u) → t.stop ≡ None
    → values_all (inside_operands (meaning x) (alternative c) ++ rest) a t ≡ values_asked (asks x c ++ later) a t

takes-value : (v : Expr) → TakesIt (C.Value v)
takes-value v x a rest later t same is =
    ap (λ k. values_all (inside_operands (meaning x) k ++ rest) a t) (only v)
    ∙ same-running (values_all rest a) (values_asked later a) (values (meaning v) a t) same
    ∙ sym (onward-running (λ u. onward (values_asked later a) (values (meaning v) a u)) t is)
    ∙ ap (λ o. values_asked (choice_asked x o ++ later) a t) (sym (out-Value v))

takes-range : (low high : Expr) → TakesIt (C.Range low high)
takes-range low high x a rest later t same is =
    let last = λ (u : Tally). onward (values_asked later a) (values (meaning high) a u) in
    ap (λ k. values_all (inside_operands (meaning x) k ++ rest) a t) (from-to low high)
    ∙ same-running (λ u. onward (values_all rest a) (values (meaning high) a u)) (λ u. onward last u) (values (meaning low) a t)
    (λ u running. same-running (values_all rest a) (values_asked later a) (values (meaning high) a u) same ∙ sym (onward-running last u running))
    ∙ sym (onward-running (λ u. onward (λ w. onward last w) (values (meaning low) a u)) t is)
    ∙ ap (λ o. values_asked (choice_asked x o ++ later) a t) (sym (out-Range low high))

pub takes-it : (c : Choice) → TakesIt c
takes-it = by-choice TakesIt takes-value takes-range

pub all-take : (x : Expr) (cs : List Choice) (a : Around) (t : Tally) → t.stop ≡ None → values_all (flat_map (inside_operands (meaning x)) (map alternative cs)) a t ≡ values_asked (all_asks x cs) a t
all-take x [] a t is = refl
all-take x (c ∷ cs) a t is = takes-it c x a (flat_map (inside_operands (meaning x)) (map alternative cs)) (all_asks x cs) t (λ u running. all-take x cs a u running) is

pub out-Inside : (x : Expr) (cs : List Choice) → out-Form (V.Inside x cs) ≡ Form-F.Inside x cs
out-Inside x cs = search (rules, form_lemmas)

in-Inside : (of : Layout) (at : ℕ) (x : Expr) (cs : List Choice) (a : Around) (t : Tally) → values (O.inside of at (meaning x) (map alternative cs)) a t ≡ values_asked (alone_asked x ∷ all_asks x cs) a t
unfolding O.inside
in-Inside of at x cs a t =
    same-running (values_all (flat_map (inside_operands (meaning x)) (map alternative cs)) a) (values_asked (all_asks x cs) a) (values (meaning x) a t) (λ u is. all-take x cs a u is)

pub strict-Inside : (e x : Expr) (cs : List Choice) (fs : ℕ → List Parameter) (w : ℕ) (s : Bool) (a : Around) (t : Tally) → e.form ≡ V.Inside x cs
    → values (meaning e) a t ≡ values_asked (form_asked (layout e.of) fs w s (out-Form e.form)) a t
strict-Inside e x cs fs w s a t is =
    ap (λ m. values m a t) (I.same-Inside e x cs is) ∙ in-Inside (layout e.of) e.spot.at x cs a t
    ∙ ap (λ qs. values_asked qs a t) (S.asked-by e (V.Inside x cs) (Form-F.Inside x cs) fs w s is (out-Inside x cs))

-- the value
any-Inside : (of : Layout) (at : ℕ) (x : Expr) (cs : List Choice) (w : ℕ) (s : Bool) (a : Around)
    → ext w s (any4 (map (is_inside (meaning x) a) (map alternative cs)) ∷ []) ≡ (O.inside of at (meaning x) (map alternative cs)).value w s a
unfolding O.inside
any-Inside of at x cs w s a = refl

pub combines-Inside : (e x : Expr) (cs : List Choice) (w : ℕ) (s : Bool) (vs : List (List Bit4)) (bs r : List Bit4) → e.form ≡ V.Inside x cs → bs ≡ tests_of x cs (drop 1 vs) → r ≡ ext w s (any4 bs ∷ []) → Combines e w s vs r
combines-Inside e x cs w s vs bs r is tested made = record {
  value = λ fs a h.
      let asked = S.asked-by e (V.Inside x cs) (Form-F.Inside x cs) fs w s is (out-Inside x cs) in
      made ∙ ap (λ ts. ext w s (any4 ts ∷ []))
      (tested ∙ ap (λ us. tests_of x cs (drop 1 us)) (h ∙ ap (λ qs. all_bits qs a) (sym asked)) ∙ all-tests x cs a)
      ∙ any-Inside (layout e.of) e.spot.at x cs w s a ∙ sym (ap (λ (m : Meaning). m.value w s a) (I.same-Inside e x cs is));
}

-- its limits
abbrev FitsIt : Choice → Type 0
FitsIt c = (x : Expr) (fs : ℕ → List Parameter) (later : List Asked) → AlternativeFits (meaning x) fs (alternative c) → AllFitAsked fs later → AllFitAsked fs (asks x c ++ later)

fits-value : (v : Expr) → FitsIt (C.Value v)
fits-value v x fs later f rest =
    let p = subst (λ k. AlternativeFits (meaning x) fs k) (only v) f in
    subst (λ o. AllFitAsked fs (choice_asked x o ++ later)) (sym (out-Value v)) (p.left, (p.right, rest))

fits-range : (low high : Expr) → FitsIt (C.Range low high)
fits-range low high x fs later f rest =
    let p = subst (λ k. AlternativeFits (meaning x) fs k) (from-to low high) f in
    subst (λ o. AllFitAsked fs (choice_asked x o ++ later)) (sym (out-Range low high)) (p.below.left, (p.below.right, (p.above.left, (p.above.right, rest))))

fits-it : (c : Choice) → FitsIt c
fits-it = by-choice FitsIt fits-value fits-range

all-fit : (x : Expr) (cs : List Choice) (fs : ℕ → List Parameter) → AllAlternativesFit (meaning x) fs (map alternative cs) → AllFitAsked fs (all_asks x cs)
all-fit x [] fs f = tt
all-fit x (c ∷ cs) fs f = fits-it c x fs (all_asks x cs) f.0 (all-fit x cs fs f.1)

pub fits-Inside : (e x : Expr) (cs : List Choice) (fs : ℕ → List Parameter) (w : ℕ) (s : Bool) → e.form ≡ V.Inside x cs → Fits (meaning e) fs w → AllFitAsked fs (form_asked (layout e.of) fs w s (out-Form e.form))
fits-Inside e x cs fs w s is f =
    let g = I.inside-fits e x cs fs w is f in
    subst (AllFitAsked fs) (S.asked-by e (V.Inside x cs) (Form-F.Inside x cs) fs w s is (out-Inside x cs)) (g.one, all-fit x cs fs g.choices)

-- the values that belong to an alternative, and those behind them
at-front : {A : Type 0} (xs : List A) (i : ℕ) (x : A) → i < length xs → x ≡ get_or xs i x → drop i xs ≡ x ∷ drop (i + 1) xs
at-front xs i x h is = drop-cons xs i x h ∙ ap (λ y. y ∷ drop (suc i) xs) (sym is) ∙ ap (λ k. x ∷ drop k xs) (sym (add-one i))

pub first-tests : (x : Expr) (c : Choice) (cs : List Choice) (vs : List (List Bit4)) → TestsFit x (c ∷ cs) vs → TestFits x c vs
first-tests x c cs vs t = record { formals = t.formals; fits = t.fits.0; later = widths_asked (all_asks x cs); lengths = t.lengths ∙ map-append _ (asks x c) (all_asks x cs) }

pub later-tests : (x : Expr) (c : Choice) (cs : List Choice) (vs : List (List Bit4)) → TestsFit x (c ∷ cs) vs → TestsFit x cs (drop (length (asks x c)) vs)
later-tests x c cs vs t =
    let n = length (asks x c) in
    let one = widths_asked (asks x c) in
    record {
      formals = t.formals;
      fits = t.fits.1;
      lengths = sym (drop-map length n vs) ∙ ap (drop n) (t.lengths ∙ map-append _ (asks x c) (all_asks x cs))
          ∙ ap (λ k. drop k (one ++ widths_asked (all_asks x cs))) (sym (length-map (asks x c) _)) ∙ drop-append_seam one (widths_asked (all_asks x cs));
    }

pub enough-tests : (x : Expr) (c : Choice) (vs : List (List Bit4)) → TestFits x c vs → length (asks x c) ≤ length vs
enough-tests x c vs t =
    omega (arith, sym (length-map vs length), ap length t.lengths, length-append (widths_asked (asks x c)) t.later, length-map (asks x c) (λ (q : Asked). width_asked q.ask (meaning q.of)))

-- a single value, and a range, by what was asked
two : (vs : List (List Bit4)) (p q : List Bit4) (m n : ℕ) (ns : List ℕ) → map length vs ≡ m ∷ n ∷ ns → p ≡ get_or vs 0 p → q ≡ get_or vs 1 q → equality Wild p q ≡ wild_test vs
two [] p q m n ns all isp isq = absurd (cc)
two (u ∷ []) p q m n ns all isp isq = absurd (let e : [] ≡ n ∷ ns = cc in cc)
two (u ∷ v ∷ vs) p q m n ns all isp isq = ap (λ (b : List Bit4). equality Wild b q) isp ∙ ap (λ (b : List Bit4). equality Wild u b) isq

four : (l h : Bool) (vs : List (List Bit4)) (p q r u : List Bit4) (m n k j : ℕ) (ns : List ℕ) → map length vs ≡ m ∷ n ∷ k ∷ j ∷ ns → p ≡ get_or vs 0 p → q ≡ get_or vs 1 q → r ≡ get_or vs 2 r → u ≡ get_or vs 3 u
    → and4 (order_value GreaterEqual l p q) (order_value LessEqual h r u) ≡ range_test l h vs
four l h [] p q r u m n k j ns all isp isq isr isu = absurd (cc)
four l h (a ∷ []) p q r u m n k j ns all isp isq isr isu = absurd (let e : [] ≡ n ∷ k ∷ j ∷ ns = cc in cc)
four l h (a ∷ b ∷ []) p q r u m n k j ns all isp isq isr isu = absurd (let e : length b ∷ [] ≡ n ∷ k ∷ j ∷ ns = cc in let g : [] ≡ k ∷ j ∷ ns = cc in cc)
four l h (a ∷ b ∷ c ∷ []) p q r u m n k j ns all isp isq isr isu =
    absurd (let e : length b ∷ length c ∷ [] ≡ n ∷ k ∷ j ∷ ns = cc in let g : length c ∷ [] ≡ k ∷ j ∷ ns = cc in let f : [] ≡ j ∷ ns = cc in cc)
four l h (a ∷ b ∷ c ∷ d ∷ vs) p q r u m n k j ns all isp isq isr isu =
    ap (λ (y : List Bit4). and4 (order_value GreaterEqual l y q) (order_value LessEqual h r u)) isp
    ∙ ap (λ (y : List Bit4). and4 (order_value GreaterEqual l a y) (order_value LessEqual h r u)) isq
    ∙ ap (λ (y : List Bit4). and4 (order_value GreaterEqual l a b) (order_value LessEqual h y u)) isr
    ∙ ap (λ (y : List Bit4). and4 (order_value GreaterEqual l a b) (order_value LessEqual h c y)) isu

lens-range : (x low high : Expr) (c : Choice) (vs : List (List Bit4)) → c ≡ C.Range low high → (t : TestFits x c vs)
    → map length vs ≡ both_wide (meaning x) (meaning low) ∷ both_wide (meaning x) (meaning low) ∷ both_wide (meaning x) (meaning high) ∷ both_wide (meaning x) (meaning high) ∷ t.later
lens-range x low high c vs is t = t.lengths ∙ ap (λ o. widths_asked (choice_asked x o) ++ t.later) (ap out-Choice is ∙ out-Range low high)

pub test-range : (x low high : Expr) (c : Choice) (vs : List (List Bit4)) (p q r u : List Bit4) (b : Bit4) → c ≡ C.Range low high → TestFits x c vs
    → p ≡ get_or vs 0 p → q ≡ get_or vs 1 q → r ≡ get_or vs 2 r → u ≡ get_or vs 3 u
    → b ≡ and4 (order_value GreaterEqual (both_signed (meaning x) (meaning low)) p q) (order_value LessEqual (both_signed (meaning x) (meaning high)) r u) → b ≡ test_of x (out-Choice c) vs
test-range x low high c vs p q r u b is t isp isq isr isu made =
    made ∙ four (both_signed (meaning x) (meaning low)) (both_signed (meaning x) (meaning high)) vs p q r u _ _ _ _ t.later (lens-range x low high c vs is t) isp isq isr isu
    ∙ ap (λ o. test_of x o vs) (sym (ap out-Choice is ∙ out-Range low high))

-- all but the first of what was asked
all-but-first : (vs : List (List Bit4)) → take (length vs - 1) (drop 1 vs) ≡ drop 1 vs
all-but-first vs = take_all (length vs - 1) (drop 1 vs) (omega (arith, length-drop 1 vs))

pub inside-ready : (e x : Expr) (cs : List Choice) (w : ℕ) (s : Bool) (vs : List (List Bit4)) (y : Expr) (ds : List Choice) → e.form ≡ V.Inside x cs → y ≡ x → ds ≡ cs → Operands e w s vs → TestsFit y ds (take (length vs - 1) (drop 1 vs))
inside-ready e x cs w s vs y ds is isx iscs o =
    subst (λ z. TestsFit z ds (take (length vs - 1) (drop 1 vs))) (sym isx)
    (subst (λ bs. TestsFit x bs (take (length vs - 1) (drop 1 vs))) (sym iscs) (subst (TestsFit x cs) (sym (all-but-first vs)) (record {
      formals = o.formals;
      fits = (I.inside-fits e x cs o.formals w is o.fits).choices;
      lengths = sym (drop-map length 1 vs)
          ∙ ap (drop 1) (o.lengths ∙ ap widths_asked (sym (S.asked-by e (V.Inside x cs) (Form-F.Inside x cs) o.formals w s is (out-Inside x cs))));
    })))

pub tested-by : (x y : Expr) (cs ds : List Choice) (vs : List (List Bit4)) (bs : List Bit4) → y ≡ x → ds ≡ cs → bs ≡ tests_of y ds (take (length vs - 1) (drop 1 vs)) → bs ≡ tests_of x cs (drop 1 vs)
tested-by x y cs ds vs bs isx iscs is = is ∙ ap (λ z. tests_of z ds (take (length vs - 1) (drop 1 vs))) isx ∙ ap (λ es. tests_of x es (take (length vs - 1) (drop 1 vs))) iscs ∙ ap (tests_of x cs) (all-but-first vs)
