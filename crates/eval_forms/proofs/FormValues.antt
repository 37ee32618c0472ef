-- The value of each form, from the values of its operands.
use Rattle.std.proofs.Common.{◌≡◌, ℕ, Bool, false, cond, length, List, [], ◌∷◌, map, get_or, refl, ap, sym, ◌∙◌}
use Rattle.b4_core.specs.declared.bit.Bit4.{Bit4}
use Rattle.b4_core.specs.declared.operators.UnOp.{UnOp}
use Rattle.b4_core.specs.declared.operators.BinOp.{BinOp}
use Rattle.b4_core.specs.declared.operators.RedOp.{RedOp}
use Rattle.b4_core.specs.declared.operators.ShiftOp.{ShiftOp}
use Rattle.b4_core.specs.declared.operators.OrdOp.{OrdOp}
use Rattle.b4_core.specs.declared.operators.EqOp.{EqOp}
use Rattle.b4_core.specs.Bits.{and4, or4, not4}
use Rattle.b4_core.specs.Bitwise.{truth_of}
use Rattle.b4_core.specs.Vectors.{ext}
use Rattle.b4_core.specs.Unary.{unary_value}
use Rattle.b4_core.specs.Binary.{binary_value}
use Rattle.b4_core.specs.Shift.{shift_value}
use Rattle.b4_core.specs.Power.{power_value}
use Rattle.b4_core.specs.Reduce.{reduction}
use Rattle.b4_core.specs.Compare.{order_value, equality}
use Rattle.sv_types.specs.declared.expression.Expr.{Expr}
use Rattle.sv_types.specs.declared.expression.Form.{Form-F, out-Form}
use Rattle.sv_types.specs.declared.expression.Form.TheVariants as V
use Rattle.sv_types.specs.Layouts.{Layout, layout, stored, stacked, repeated}
use Rattle.sv_types.specs.Surroundings.{Around, Parameter}
use Rattle.sv_types.specs.Meanings.{Meaning, wide, signed}
use Rattle.sv_types.specs.Operators as O
use Rattle.sv_types.specs.Operators.{both_wide, both_signed}
use Rattle.sv_types.specs.Expressions.{meaning}
use Rattle.sv_types.proofs.Levels as L
use Rattle.eval_parts.proofs.Steps.{at-form}
use Rattle.eval_forms.specs.Asked.{alone_asked, form_asked, all_bits}
use Rattle.eval_forms.proofs.Strict as S

in-Unary : (of : Layout) (at : ℕ) (op : UnOp) (x : Expr) (w : ℕ) (s : Bool) (a : Around) → unary_value op ((meaning x).value w s a) ≡ (O.unary of at op (meaning x)).value w s a
unfolding O.unary
in-Unary of at op x w s a = refl

pub value-Unary : (e : Expr) (op : UnOp) (x : Expr) (fs : ℕ → List Parameter) (vs : List (List Bit4)) (d0 r : List Bit4) (w : ℕ) (s : Bool) (a : Around) → e.form ≡ V.Unary op x → vs ≡ all_bits (form_asked (layout e.of) fs w s (out-Form e.form)) a
    → r ≡ unary_value op (get_or vs 0 d0) → r ≡ (meaning e).value w s a
value-Unary e op x fs vs d0 r w s a is values made =
    let asks = S.asked-by e (V.Unary op x) (Form-F.Unary op x) fs w s is (S.out-Unary op x) in
    made ∙ ap (λ (us : List (List Bit4)). unary_value op (get_or us 0 d0)) (values ∙ ap (λ qs. all_bits qs a) (sym asks))
    ∙ in-Unary (layout e.of) e.spot.at op x w s a ∙ sym (ap (λ (m : Meaning). m.value w s a) (at-form e (V.Unary op x) _ is (L.form-Unary op x)))

in-Reduce : (of : Layout) (at : ℕ) (op : RedOp) (x : Expr) (w : ℕ) (s : Bool) (a : Around) → ext w s (reduction op ((meaning x).value (wide (meaning x)) (signed (meaning x)) a) ∷ []) ≡ (O.reduce of at op (meaning x)).value w s a
unfolding O.reduce
in-Reduce of at op x w s a = refl

pub value-Reduce : (e : Expr) (op : RedOp) (x : Expr) (fs : ℕ → List Parameter) (vs : List (List Bit4)) (d0 r : List Bit4) (w : ℕ) (s : Bool) (a : Around) → e.form ≡ V.Reduce op x → vs ≡ all_bits (form_asked (layout e.of) fs w s (out-Form e.form)) a
    → r ≡ ext w s (reduction op (get_or vs 0 d0) ∷ []) → r ≡ (meaning e).value w s a
value-Reduce e op x fs vs d0 r w s a is values made =
    let asks = S.asked-by e (V.Reduce op x) (Form-F.Reduce op x) fs w s is (S.out-Reduce op x) in
    made ∙ ap (λ (us : List (List Bit4)). ext w s (reduction op (get_or us 0 d0) ∷ [])) (values ∙ ap (λ qs. all_bits qs a) (sym asks))
    ∙ in-Reduce (layout e.of) e.spot.at op x w s a ∙ sym (ap (λ (m : Meaning). m.value w s a) (at-form e (V.Reduce op x) _ is (L.form-Reduce op x)))

in-Negate : (of : Layout) (at : ℕ) (x : Expr) (w : ℕ) (s : Bool) (a : Around) → ext w s (not4 (truth_of ((meaning x).value (wide (meaning x)) (signed (meaning x)) a)) ∷ []) ≡ (O.negate of at (meaning x)).value w s a
unfolding O.negate
in-Negate of at x w s a = refl

pub value-Negate : (e : Expr) (x : Expr) (fs : ℕ → List Parameter) (vs : List (List Bit4)) (d0 r : List Bit4) (w : ℕ) (s : Bool) (a : Around) → e.form ≡ V.Negate x → vs ≡ all_bits (form_asked (layout e.of) fs w s (out-Form e.form)) a
    → r ≡ ext w s (not4 (truth_of (get_or vs 0 d0)) ∷ []) → r ≡ (meaning e).value w s a
value-Negate e x fs vs d0 r w s a is values made =
    let asks = S.asked-by e (V.Negate x) (Form-F.Negate x) fs w s is (S.out-Negate x) in
    made ∙ ap (λ (us : List (List Bit4)). ext w s (not4 (truth_of (get_or us 0 d0)) ∷ [])) (values ∙ ap (λ qs. all_bits qs a) (sym asks))
    ∙ in-Negate (layout e.of) e.spot.at x w s a ∙ sym (ap (λ (m : Meaning). m.value w s a) (at-form e (V.Negate x) _ is (L.form-Negate x)))

in-Binary : (of : Layout) (at : ℕ) (op : BinOp) (x : Expr) (y : Expr) (w : ℕ) (s : Bool) (a : Around) → binary_value op s ((meaning x).value w s a) ((meaning y).value w s a) ≡ (O.binary of at op (meaning x) (meaning y)).value w s a
unfolding O.binary
in-Binary of at op x y w s a = refl

pub value-Binary : (e : Expr) (op : BinOp) (x : Expr) (y : Expr) (fs : ℕ → List Parameter) (vs : List (List Bit4)) (d0 d1 r : List Bit4) (w : ℕ) (s : Bool) (a : Around) → e.form ≡ V.Binary op x y → vs ≡ all_bits (form_asked (layout e.of) fs w s (out-Form e.form)) a
    → r ≡ binary_value op s (get_or vs 0 d0) (get_or vs 1 d1) → r ≡ (meaning e).value w s a
value-Binary e op x y fs vs d0 d1 r w s a is values made =
    let asks = S.asked-by e (V.Binary op x y) (Form-F.Binary op x y) fs w s is (S.out-Binary op x y) in
    made ∙ ap (λ (us : List (List Bit4)). binary_value op s (get_or us 0 d0) (get_or us 1 d1)) (values ∙ ap (λ qs. all_bits qs a) (sym asks))
    ∙ in-Binary (layout e.of) e.spot.at op x y w s a ∙ sym (ap (λ (m : Meaning). m.value w s a) (at-form e (V.Binary op x y) _ is (L.form-Binary op x y)))

in-Shift : (of : Layout) (at : ℕ) (op : ShiftOp) (x : Expr) (y : Expr) (w : ℕ) (s : Bool) (a : Around) → shift_value op s ((meaning x).value w s a) ((meaning y).value (wide (meaning y)) (signed (meaning y)) a) ≡ (O.shift of at op (meaning x) (meaning y)).value w s a
unfolding O.shift
in-Shift of at op x y w s a = refl

pub value-Shift : (e : Expr) (op : ShiftOp) (x : Expr) (y : Expr) (fs : ℕ → List Parameter) (vs : List (List Bit4)) (d0 d1 r : List Bit4) (w : ℕ) (s : Bool) (a : Around) → e.form ≡ V.Shift op x y → vs ≡ all_bits (form_asked (layout e.of) fs w s (out-Form e.form)) a
    → r ≡ shift_value op s (get_or vs 0 d0) (get_or vs 1 d1) → r ≡ (meaning e).value w s a
value-Shift e op x y fs vs d0 d1 r w s a is values made =
    let asks = S.asked-by e (V.Shift op x y) (Form-F.Shift op x y) fs w s is (S.out-Shift op x y) in
    made ∙ ap (λ (us : List (List Bit4)). shift_value op s (get_or us 0 d0) (get_or us 1 d1)) (values ∙ ap (λ qs. all_bits qs a) (sym asks))
    ∙ in-Shift (layout e.of) e.spot.at op x y w s a ∙ sym (ap (λ (m : Meaning). m.value w s a) (at-form e (V.Shift op x y) _ is (L.form-Shift op x y)))

in-Power : (of : Layout) (at : ℕ) (x : Expr) (y : Expr) (w : ℕ) (s : Bool) (a : Around) → power_value s (signed (meaning y)) ((meaning x).value w s a) ((meaning y).value (wide (meaning y)) (signed (meaning y)) a) ≡ (O.power of at (meaning x) (meaning y)).value w s a
unfolding O.power
in-Power of at x y w s a = refl

pub value-Power : (e : Expr) (x : Expr) (y : Expr) (fs : ℕ → List Parameter) (vs : List (List Bit4)) (d0 d1 r : List Bit4) (w : ℕ) (s : Bool) (a : Around) → e.form ≡ V.Power x y → vs ≡ all_bits (form_asked (layout e.of) fs w s (out-Form e.form)) a
    → r ≡ power_value s (signed (meaning y)) (get_or vs 0 d0) (get_or vs 1 d1) → r ≡ (meaning e).value w s a
value-Power e x y fs vs d0 d1 r w s a is values made =
    let asks = S.asked-by e (V.Power x y) (Form-F.Power x y) fs w s is (S.out-Power x y) in
    made ∙ ap (λ (us : List (List Bit4)). power_value s (signed (meaning y)) (get_or us 0 d0) (get_or us 1 d1)) (values ∙ ap (λ qs. all_bits qs a) (sym asks))
    ∙ in-Power (layout e.of) e.spot.at x y w s a ∙ sym (ap (λ (m : Meaning). m.value w s a) (at-form e (V.Power x y) _ is (L.form-Power x y)))

in-Order : (of : Layout) (at : ℕ) (op : OrdOp) (x : Expr) (y : Expr) (w : ℕ) (s : Bool) (a : Around) → ext w s (order_value op (both_signed (meaning x) (meaning y)) ((meaning x).value (both_wide (meaning x) (meaning y)) (both_signed (meaning x) (meaning y)) a) ((meaning y).value (both_wide (meaning x) (meaning y)) (both_signed (meaning x) (meaning y)) a) ∷ []) ≡ (O.order of at op (meaning x) (meaning y)).value w s a
unfolding O.order
in-Order of at op x y w s a = refl

pub value-Order : (e : Expr) (op : OrdOp) (x : Expr) (y : Expr) (fs : ℕ → List Parameter) (vs : List (List Bit4)) (d0 d1 r : List Bit4) (w : ℕ) (s : Bool) (a : Around) → e.form ≡ V.Order op x y → vs ≡ all_bits (form_asked (layout e.of) fs w s (out-Form e.form)) a
    → r ≡ ext w s (order_value op (both_signed (meaning x) (meaning y)) (get_or vs 0 d0) (get_or vs 1 d1) ∷ []) → r ≡ (meaning e).value w s a
value-Order e op x y fs vs d0 d1 r w s a is values made =
    let asks = S.asked-by e (V.Order op x y) (Form-F.Order op x y) fs w s is (S.out-Order op x y) in
    made ∙ ap (λ (us : List (List Bit4)). ext w s (order_value op (both_signed (meaning x) (meaning y)) (get_or us 0 d0) (get_or us 1 d1) ∷ [])) (values ∙ ap (λ qs. all_bits qs a) (sym asks))
    ∙ in-Order (layout e.of) e.spot.at op x y w s a ∙ sym (ap (λ (m : Meaning). m.value w s a) (at-form e (V.Order op x y) _ is (L.form-Order op x y)))

in-Equal : (of : Layout) (at : ℕ) (op : EqOp) (negated : Bool) (x : Expr) (y : Expr) (w : ℕ) (s : Bool) (a : Around) → ext w s (cond negated (not4 (equality op ((meaning x).value (both_wide (meaning x) (meaning y)) (both_signed (meaning x) (meaning y)) a) ((meaning y).value (both_wide (meaning x) (meaning y)) (both_signed (meaning x) (meaning y)) a))) (equality op ((meaning x).value (both_wide (meaning x) (meaning y)) (both_signed (meaning x) (meaning y)) a) ((meaning y).value (both_wide (meaning x) (meaning y)) (both_signed (meaning x) (meaning y)) a)) ∷ []) ≡ (O.equal of at op negated (meaning x) (meaning y)).value w s a
unfolding O.equal
in-Equal of at op negated x y w s a = refl

pub value-Equal : (e : Expr) (op : EqOp) (negated : Bool) (x : Expr) (y : Expr) (fs : ℕ → List Parameter) (vs : List (List Bit4)) (d0 d1 r : List Bit4) (w : ℕ) (s : Bool) (a : Around) → e.form ≡ V.Equal op negated x y → vs ≡ all_bits (form_asked (layout e.of) fs w s (out-Form e.form)) a
    → r ≡ ext w s (cond negated (not4 (equality op (get_or vs 0 d0) (get_or vs 1 d1))) (equality op (get_or vs 0 d0) (get_or vs 1 d1)) ∷ []) → r ≡ (meaning e).value w s a
value-Equal e op negated x y fs vs d0 d1 r w s a is values made =
    let asks = S.asked-by e (V.Equal op negated x y) (Form-F.Equal op negated x y) fs w s is (S.out-Equal op negated x y) in
    made ∙ ap (λ (us : List (List Bit4)). ext w s (cond negated (not4 (equality op (get_or us 0 d0) (get_or us 1 d1))) (equality op (get_or us 0 d0) (get_or us 1 d1)) ∷ [])) (values ∙ ap (λ qs. all_bits qs a) (sym asks))
    ∙ in-Equal (layout e.of) e.spot.at op negated x y w s a ∙ sym (ap (λ (m : Meaning). m.value w s a) (at-form e (V.Equal op negated x y) _ is (L.form-Equal op negated x y)))

in-Both : (of : Layout) (at : ℕ) (x : Expr) (y : Expr) (w : ℕ) (s : Bool) (a : Around) → ext w s (and4 (truth_of ((meaning x).value (wide (meaning x)) (signed (meaning x)) a)) (truth_of ((meaning y).value (wide (meaning y)) (signed (meaning y)) a)) ∷ []) ≡ (O.both of at (meaning x) (meaning y)).value w s a
unfolding O.both
in-Both of at x y w s a = refl

pub value-Both : (e : Expr) (x : Expr) (y : Expr) (fs : ℕ → List Parameter) (vs : List (List Bit4)) (d0 d1 r : List Bit4) (w : ℕ) (s : Bool) (a : Around) → e.form ≡ V.Both x y → vs ≡ all_bits (form_asked (layout e.of) fs w s (out-Form e.form)) a
    → r ≡ ext w s (and4 (truth_of (get_or vs 0 d0)) (truth_of (get_or vs 1 d1)) ∷ []) → r ≡ (meaning e).value w s a
value-Both e x y fs vs d0 d1 r w s a is values made =
    let asks = S.asked-by e (V.Both x y) (Form-F.Both x y) fs w s is (S.out-Both x y) in
    made ∙ ap (λ (us : List (List Bit4)). ext w s (and4 (truth_of (get_or us 0 d0)) (truth_of (get_or us 1 d1)) ∷ [])) (values ∙ ap (λ qs. all_bits qs a) (sym asks))
    ∙ in-Both (layout e.of) e.spot.at x y w s a ∙ sym (ap (λ (m : Meaning). m.value w s a) (at-form e (V.Both x y) _ is (L.form-Both x y)))

in-Either : (of : Layout) (at : ℕ) (x : Expr) (y : Expr) (w : ℕ) (s : Bool) (a : Around) → ext w s (or4 (truth_of ((meaning x).value (wide (meaning x)) (signed (meaning x)) a)) (truth_of ((meaning y).value (wide (meaning y)) (signed (meaning y)) a)) ∷ []) ≡ (O.either of at (meaning x) (meaning y)).value w s a
unfolding O.either
in-Either of at x y w s a = refl

pub value-Either : (e : Expr) (x : Expr) (y : Expr) (fs : ℕ → List Parameter) (vs : List (List Bit4)) (d0 d1 r : List Bit4) (w : ℕ) (s : Bool) (a : Around) → e.form ≡ V.Either x y → vs ≡ all_bits (form_asked (layout e.of) fs w s (out-Form e.form)) a
    → r ≡ ext w s (or4 (truth_of (get_or vs 0 d0)) (truth_of (get_or vs 1 d1)) ∷ []) → r ≡ (meaning e).value w s a
value-Either e x y fs vs d0 d1 r w s a is values made =
    let asks = S.asked-by e (V.Either x y) (Form-F.Either x y) fs w s is (S.out-Either x y) in
    made ∙ ap (λ (us : List (List Bit4)). ext w s (or4 (truth_of (get_or us 0 d0)) (truth_of (get_or us 1 d1)) ∷ [])) (values ∙ ap (λ qs. all_bits qs a) (sym asks))
    ∙ in-Either (layout e.of) e.spot.at x y w s a ∙ sym (ap (λ (m : Meaning). m.value w s a) (at-form e (V.Either x y) _ is (L.form-Either x y)))

in-Choose : (of : Layout) (at : ℕ) (z : Expr) (x : Expr) (y : Expr) (w : ℕ) (s : Bool) (a : Around) → O.chosen (truth_of ((meaning z).value (wide (meaning z)) (signed (meaning z)) a)) ((meaning x).value w s a) ((meaning y).value w s a) ≡ (O.choose of at (meaning z) (meaning x) (meaning y)).value w s a
unfolding O.choose
in-Choose of at z x y w s a = refl

pub value-Choose : (e : Expr) (z : Expr) (x : Expr) (y : Expr) (fs : ℕ → List Parameter) (vs : List (List Bit4)) (d0 d1 d2 r : List Bit4) (w : ℕ) (s : Bool) (a : Around) → e.form ≡ V.Choose z x y → vs ≡ all_bits (form_asked (layout e.of) fs w s (out-Form e.form)) a
    → r ≡ O.chosen (truth_of (get_or vs 0 d0)) (get_or vs 1 d1) (get_or vs 2 d2) → r ≡ (meaning e).value w s a
value-Choose e z x y fs vs d0 d1 d2 r w s a is values made =
    let asks = S.asked-by e (V.Choose z x y) (Form-F.Choose z x y) fs w s is (S.out-Choose z x y) in
    made ∙ ap (λ (us : List (List Bit4)). O.chosen (truth_of (get_or us 0 d0)) (get_or us 1 d1) (get_or us 2 d2)) (values ∙ ap (λ qs. all_bits qs a) (sym asks))
    ∙ in-Choose (layout e.of) e.spot.at z x y w s a ∙ sym (ap (λ (m : Meaning). m.value w s a) (at-form e (V.Choose z x y) _ is (L.form-Choose z x y)))

in-Cast : (of : Layout) (at : ℕ) (x : Expr) (w : ℕ) (s : Bool) (a : Around) → ext w s (stored of.two_state (ext (length of.two_state) (signed (meaning x)) ((meaning x).value (wide (meaning x)) (signed (meaning x)) a))) ≡ (O.cast of at (meaning x)).value w s a
unfolding O.cast
in-Cast of at x w s a = refl

pub value-Cast : (e : Expr) (x : Expr) (fs : ℕ → List Parameter) (vs : List (List Bit4)) (d0 r : List Bit4) (w : ℕ) (s : Bool) (a : Around) → e.form ≡ V.Cast x → vs ≡ all_bits (form_asked (layout e.of) fs w s (out-Form e.form)) a
    → r ≡ ext w s (stored (layout e.of).two_state (ext (length (layout e.of).two_state) (signed (meaning x)) (get_or vs 0 d0))) → r ≡ (meaning e).value w s a
value-Cast e x fs vs d0 r w s a is values made =
    let asks = S.asked-by e (V.Cast x) (Form-F.Cast x) fs w s is (S.out-Cast x) in
    made ∙ ap (λ (us : List (List Bit4)). ext w s (stored (layout e.of).two_state (ext (length (layout e.of).two_state) (signed (meaning x)) (get_or us 0 d0)))) (values ∙ ap (λ qs. all_bits qs a) (sym asks))
    ∙ in-Cast (layout e.of) e.spot.at x w s a ∙ sym (ap (λ (m : Meaning). m.value w s a) (at-form e (V.Cast x) _ is (L.form-Cast x)))

in-Clog2 : (of : Layout) (at : ℕ) (x : Expr) (w : ℕ) (s : Bool) (a : Around) → ext w s (O.clog2_of ((meaning x).value (wide (meaning x)) (signed (meaning x)) a)) ≡ (O.clog2 of at (meaning x)).value w s a
unfolding O.clog2
in-Clog2 of at x w s a = refl

pub value-Clog2 : (e : Expr) (x : Expr) (fs : ℕ → List Parameter) (vs : List (List Bit4)) (d0 r : List Bit4) (w : ℕ) (s : Bool) (a : Around) → e.form ≡ V.Clog2 x → vs ≡ all_bits (form_asked (layout e.of) fs w s (out-Form e.form)) a
    → r ≡ ext w s (O.clog2_of (get_or vs 0 d0)) → r ≡ (meaning e).value w s a
value-Clog2 e x fs vs d0 r w s a is values made =
    let asks = S.asked-by e (V.Clog2 x) (Form-F.Clog2 x) fs w s is (S.out-Clog2 x) in
    made ∙ ap (λ (us : List (List Bit4)). ext w s (O.clog2_of (get_or us 0 d0))) (values ∙ ap (λ qs. all_bits qs a) (sym asks))
    ∙ in-Clog2 (layout e.of) e.spot.at x w s a ∙ sym (ap (λ (m : Meaning). m.value w s a) (at-form e (V.Clog2 x) _ is (L.form-Clog2 x)))

alone-bits : (es : List Expr) (a : Around) → all_bits (map alone_asked es) a ≡ map (λ (m : Meaning). m.value (wide m) (signed m) a) (map meaning es)
alone-bits [] a = refl
alone-bits (e ∷ es) a = ap (λ vs. (meaning e).value (wide (meaning e)) (signed (meaning e)) a ∷ vs) (alone-bits es a)

in-Concat : (of : Layout) (at : ℕ) (es : List Expr) (w : ℕ) (s : Bool) (a : Around) → ext w s (stacked (map (λ (m : Meaning). m.value (wide m) (signed m) a) (map meaning es))) ≡ (O.concat of at (map meaning es)).value w s a
unfolding O.concat
in-Concat of at es w s a = refl

pub value-Concat : (e : Expr) (es : List Expr) (fs : ℕ → List Parameter) (vs : List (List Bit4)) (r : List Bit4) (w : ℕ) (s : Bool) (a : Around) → e.form ≡ V.Concat es → vs ≡ all_bits (form_asked (layout e.of) fs w s (out-Form e.form)) a
    → r ≡ ext w s (stacked vs) → r ≡ (meaning e).value w s a
value-Concat e es fs vs r w s a is values made =
    let asks = S.asked-by e (V.Concat es) (Form-F.Concat es) fs w s is (S.out-Concat es) in
    made ∙ ap (λ (us : List (List Bit4)). ext w s (stacked us)) (values ∙ ap (λ qs. all_bits qs a) (sym asks) ∙ alone-bits es a)
    ∙ in-Concat (layout e.of) e.spot.at es w s a ∙ sym (ap (λ (m : Meaning). m.value w s a) (at-form e (V.Concat es) _ is (L.form-Concat es)))

in-Repeat : (of : Layout) (at : ℕ) (n : ℕ) (es : List Expr) (w : ℕ) (s : Bool) (a : Around) → ext w s (repeated n (stacked (map (λ (m : Meaning). m.value (wide m) (signed m) a) (map meaning es)))) ≡ (O.repeat of at n (map meaning es)).value w s a
unfolding O.repeat
in-Repeat of at n es w s a = refl

pub value-Repeat : (e : Expr) (n : ℕ) (es : List Expr) (fs : ℕ → List Parameter) (vs : List (List Bit4)) (r : List Bit4) (w : ℕ) (s : Bool) (a : Around) → e.form ≡ V.Repeat n es → vs ≡ all_bits (form_asked (layout e.of) fs w s (out-Form e.form)) a
    → r ≡ ext w s (repeated n (stacked vs)) → r ≡ (meaning e).value w s a
value-Repeat e n es fs vs r w s a is values made =
    let asks = S.asked-by e (V.Repeat n es) (Form-F.Repeat n es) fs w s is (S.out-Repeat n es) in
    made ∙ ap (λ (us : List (List Bit4)). ext w s (repeated n (stacked us))) (values ∙ ap (λ qs. all_bits qs a) (sym asks) ∙ alone-bits es a)
    ∙ in-Repeat (layout e.of) e.spot.at n es w s a ∙ sym (ap (λ (m : Meaning). m.value w s a) (at-form e (V.Repeat n es) _ is (L.form-Repeat n es)))

in-Stream : (of : Layout) (at : ℕ) (reversed : Bool) (n : ℕ) (es : List Expr) (w : ℕ) (s : Bool) (a : Around) → ext w false (O.streamed reversed n (stacked (map (λ (m : Meaning). m.value (wide m) (signed m) a) (map meaning es)))) ≡ (O.stream of at reversed n (map meaning es)).value w s a
unfolding O.stream
in-Stream of at reversed n es w s a = refl

pub value-Stream : (e : Expr) (reversed : Bool) (n : ℕ) (es : List Expr) (fs : ℕ → List Parameter) (vs : List (List Bit4)) (r : List Bit4) (w : ℕ) (s : Bool) (a : Around) → e.form ≡ V.Stream reversed n es → vs ≡ all_bits (form_asked (layout e.of) fs w s (out-Form e.form)) a
    → r ≡ ext w false (O.streamed reversed n (stacked vs)) → r ≡ (meaning e).value w s a
value-Stream e reversed n es fs vs r w s a is values made =
    let asks = S.asked-by e (V.Stream reversed n es) (Form-F.Stream reversed n es) fs w s is (S.out-Stream reversed n es) in
    made ∙ ap (λ (us : List (List Bit4)). ext w false (O.streamed reversed n (stacked us))) (values ∙ ap (λ qs. all_bits qs a) (sym asks) ∙ alone-bits es a)
    ∙ in-Stream (layout e.of) e.spot.at reversed n es w s a ∙ sym (ap (λ (m : Meaning). m.value w s a) (at-form e (V.Stream reversed n es) _ is (L.form-Stream reversed n es)))
