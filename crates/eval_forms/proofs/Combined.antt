-- Operators are made of the values of their operands.
use Rattle.std.proofs.Common.{◌≡◌, ℕ, ◌<◌, ◌≤◌, Bool, false, cond, length, List, [], ◌∷◌, map, get_or, arith, ap, sym, ◌∙◌, ◌||◌, replicate, None}
use Rattle.b4_core.specs.declared.bit.Bit4.{Bit4}
use Rattle.b4_core.specs.declared.operators.UnOp.{UnOp}
use Rattle.b4_core.specs.declared.operators.BinOp.{BinOp}
use Rattle.b4_core.specs.declared.operators.RedOp.{RedOp}
use Rattle.b4_core.specs.declared.operators.ShiftOp.{ShiftOp}
use Rattle.b4_core.specs.declared.operators.OrdOp.{OrdOp}
use Rattle.b4_core.specs.declared.operators.EqOp.{EqOp}
use Rattle.b4_core.specs.Bits.{and4, or4, not4}
use Rattle.b4_core.specs.Bitwise.{truth_of}
use Rattle.b4_core.specs.Vectors.{ext}
use Rattle.b4_core.specs.Unary.{unary_value, UnaryFitsWord}
use Rattle.b4_core.specs.Binary.{binary_value, BinaryFitsWord}
use Rattle.b4_core.specs.Shift.{shift_value}
use Rattle.b4_core.specs.Power.{power_value}
use Rattle.b4_core.specs.Reduce.{reduction}
use Rattle.b4_core.specs.Compare.{order_value, equality}
use Rattle.sv_types.specs.declared.types.Value.{Value}
use Rattle.sv_types.specs.Values.{bits}
use Rattle.sv_types.specs.declared.expression.Expr.{Expr}
use Rattle.sv_types.specs.declared.expression.Form.{Form-F}
use Rattle.sv_types.specs.declared.expression.Form.TheVariants as V
use Rattle.sv_types.specs.Layouts.{layout, width_of, stored, stacked, repeated}
use Rattle.sv_types.specs.Meanings.{wide, signed}
use Rattle.sv_types.specs.Operators as O
use Rattle.sv_types.specs.Operators.{both_wide, both_signed}
use Rattle.sv_types.specs.Expressions.{meaning}
use Rattle.sv_types.proofs.Widths.{wide-widest}
use Rattle.eval_parts.proofs.Steps as T
use Rattle.eval_parts.proofs.Lists.{own-narrow, fill-done, constant-done}
use Rattle.eval_forms.specs.Asked.{Operands, Combines, widths_asked}
use Rattle.eval_forms.proofs.FormValues as F
use Rattle.eval_forms.proofs.Strict as S

-- the lengths of vectors in a list
length-first : (vs : List (List Bit4)) (v : List Bit4) (n : ℕ) (ns : List ℕ) → map length vs ≡ n ∷ ns → v ≡ get_or vs 0 v → length v ≡ n
length-first [] v n ns all is = absurd (cc)
length-first (u ∷ vs) v n ns all is = let e : length u ≡ n = cc in ap length is ∙ e

length-second : (vs : List (List Bit4)) (v : List Bit4) (m n : ℕ) (ns : List ℕ) → map length vs ≡ m ∷ n ∷ ns → v ≡ get_or vs 1 v → length v ≡ n
length-second [] v m n ns all is = absurd (cc)
length-second (u ∷ vs) v m n ns all is = let e : map length vs ≡ n ∷ ns = cc in length-first vs v n ns e is

length-third : (vs : List (List Bit4)) (v : List Bit4) (l m n : ℕ) (ns : List ℕ) → map length vs ≡ l ∷ m ∷ n ∷ ns → v ≡ get_or vs 2 v → length v ≡ n
length-third [] v l m n ns all is = absurd (cc)
length-third (u ∷ vs) v l m n ns all is = let e : map length vs ≡ m ∷ n ∷ ns = cc in length-second vs v m n ns e is

lens-Unary : (e : Expr) (op : UnOp) (x : Expr) (w : ℕ) (s : Bool) (vs : List (List Bit4)) → e.form ≡ V.Unary op x → Operands e w s vs → map length vs ≡ w ∷ []
lens-Unary e op x w s vs is o = o.lengths ∙ ap widths_asked (sym (S.asked-by e (V.Unary op x) (Form-F.Unary op x) o.formals w s is (S.out-Unary op x)))

pub combines-Unary : (e : Expr) (op : UnOp) (x : Expr) (w : ℕ) (s : Bool) (vs : List (List Bit4)) (o0 r : List Bit4) → e.form ≡ V.Unary op x → o0 ≡ get_or vs 0 o0 → r ≡ unary_value op o0 → Combines e w s vs r
combines-Unary e op x w s vs o0 r is is0 made = record { value = λ fs a h. F.value-Unary e op x fs vs o0 r w s a is h (made ∙ ap (λ (q : List Bit4). unary_value op q) is0) }

lens-Reduce : (e : Expr) (op : RedOp) (x : Expr) (w : ℕ) (s : Bool) (vs : List (List Bit4)) → e.form ≡ V.Reduce op x → Operands e w s vs → map length vs ≡ (wide (meaning x)) ∷ []
lens-Reduce e op x w s vs is o = o.lengths ∙ ap widths_asked (sym (S.asked-by e (V.Reduce op x) (Form-F.Reduce op x) o.formals w s is (S.out-Reduce op x)))

pub combines-Reduce : (e : Expr) (op : RedOp) (x : Expr) (w : ℕ) (s : Bool) (vs : List (List Bit4)) (o0 r : List Bit4) → e.form ≡ V.Reduce op x → o0 ≡ get_or vs 0 o0 → r ≡ ext w s (reduction op o0 ∷ []) → Combines e w s vs r
combines-Reduce e op x w s vs o0 r is is0 made = record { value = λ fs a h. F.value-Reduce e op x fs vs o0 r w s a is h (made ∙ ap (λ (q : List Bit4). ext w s (reduction op q ∷ [])) is0) }

lens-Negate : (e : Expr) (x : Expr) (w : ℕ) (s : Bool) (vs : List (List Bit4)) → e.form ≡ V.Negate x → Operands e w s vs → map length vs ≡ (wide (meaning x)) ∷ []
lens-Negate e x w s vs is o = o.lengths ∙ ap widths_asked (sym (S.asked-by e (V.Negate x) (Form-F.Negate x) o.formals w s is (S.out-Negate x)))

pub combines-Negate : (e : Expr) (x : Expr) (w : ℕ) (s : Bool) (vs : List (List Bit4)) (o0 r : List Bit4) → e.form ≡ V.Negate x → o0 ≡ get_or vs 0 o0 → r ≡ ext w s (not4 (truth_of o0) ∷ []) → Combines e w s vs r
combines-Negate e x w s vs o0 r is is0 made = record { value = λ fs a h. F.value-Negate e x fs vs o0 r w s a is h (made ∙ ap (λ (q : List Bit4). ext w s (not4 (truth_of q) ∷ [])) is0) }

lens-Binary : (e : Expr) (op : BinOp) (x : Expr) (y : Expr) (w : ℕ) (s : Bool) (vs : List (List Bit4)) → e.form ≡ V.Binary op x y → Operands e w s vs → map length vs ≡ w ∷ w ∷ []
lens-Binary e op x y w s vs is o = o.lengths ∙ ap widths_asked (sym (S.asked-by e (V.Binary op x y) (Form-F.Binary op x y) o.formals w s is (S.out-Binary op x y)))

pub combines-Binary : (e : Expr) (op : BinOp) (x : Expr) (y : Expr) (w : ℕ) (s : Bool) (vs : List (List Bit4)) (o0 o1 r : List Bit4) → e.form ≡ V.Binary op x y → o0 ≡ get_or vs 0 o0 → o1 ≡ get_or vs 1 o1 → r ≡ binary_value op s o0 o1 → Combines e w s vs r
combines-Binary e op x y w s vs o0 o1 r is is0 is1 made = record { value = λ fs a h. F.value-Binary e op x y fs vs o0 o1 r w s a is h (made ∙ ap (λ (q : List Bit4). binary_value op s q o1) is0 ∙ ap (λ (q : List Bit4). binary_value op s (get_or vs 0 o0) q) is1) }

lens-Shift : (e : Expr) (op : ShiftOp) (x : Expr) (y : Expr) (w : ℕ) (s : Bool) (vs : List (List Bit4)) → e.form ≡ V.Shift op x y → Operands e w s vs → map length vs ≡ w ∷ (wide (meaning y)) ∷ []
lens-Shift e op x y w s vs is o = o.lengths ∙ ap widths_asked (sym (S.asked-by e (V.Shift op x y) (Form-F.Shift op x y) o.formals w s is (S.out-Shift op x y)))

pub combines-Shift : (e : Expr) (op : ShiftOp) (x : Expr) (y : Expr) (w : ℕ) (s : Bool) (vs : List (List Bit4)) (o0 o1 r : List Bit4) → e.form ≡ V.Shift op x y → o0 ≡ get_or vs 0 o0 → o1 ≡ get_or vs 1 o1 → r ≡ shift_value op s o0 o1 → Combines e w s vs r
combines-Shift e op x y w s vs o0 o1 r is is0 is1 made = record { value = λ fs a h. F.value-Shift e op x y fs vs o0 o1 r w s a is h (made ∙ ap (λ (q : List Bit4). shift_value op s q o1) is0 ∙ ap (λ (q : List Bit4). shift_value op s (get_or vs 0 o0) q) is1) }

lens-Power : (e : Expr) (x : Expr) (y : Expr) (w : ℕ) (s : Bool) (vs : List (List Bit4)) → e.form ≡ V.Power x y → Operands e w s vs → map length vs ≡ w ∷ (wide (meaning y)) ∷ []
lens-Power e x y w s vs is o = o.lengths ∙ ap widths_asked (sym (S.asked-by e (V.Power x y) (Form-F.Power x y) o.formals w s is (S.out-Power x y)))

pub combines-Power : (e : Expr) (x : Expr) (y : Expr) (w : ℕ) (s : Bool) (vs : List (List Bit4)) (o0 o1 r : List Bit4) → e.form ≡ V.Power x y → o0 ≡ get_or vs 0 o0 → o1 ≡ get_or vs 1 o1 → r ≡ power_value s (signed (meaning y)) o0 o1 → Combines e w s vs r
combines-Power e x y w s vs o0 o1 r is is0 is1 made = record { value = λ fs a h. F.value-Power e x y fs vs o0 o1 r w s a is h (made ∙ ap (λ (q : List Bit4). power_value s (signed (meaning y)) q o1) is0 ∙ ap (λ (q : List Bit4). power_value s (signed (meaning y)) (get_or vs 0 o0) q) is1) }

lens-Order : (e : Expr) (op : OrdOp) (x : Expr) (y : Expr) (w : ℕ) (s : Bool) (vs : List (List Bit4)) → e.form ≡ V.Order op x y → Operands e w s vs → map length vs ≡ (both_wide (meaning x) (meaning y)) ∷ (both_wide (meaning x) (meaning y)) ∷ []
lens-Order e op x y w s vs is o = o.lengths ∙ ap widths_asked (sym (S.asked-by e (V.Order op x y) (Form-F.Order op x y) o.formals w s is (S.out-Order op x y)))

pub combines-Order : (e : Expr) (op : OrdOp) (x : Expr) (y : Expr) (w : ℕ) (s : Bool) (vs : List (List Bit4)) (o0 o1 r : List Bit4) → e.form ≡ V.Order op x y → o0 ≡ get_or vs 0 o0 → o1 ≡ get_or vs 1 o1 → r ≡ ext w s (order_value op (both_signed (meaning x) (meaning y)) o0 o1 ∷ []) → Combines e w s vs r
combines-Order e op x y w s vs o0 o1 r is is0 is1 made = record { value = λ fs a h. F.value-Order e op x y fs vs o0 o1 r w s a is h (made ∙ ap (λ (q : List Bit4). ext w s (order_value op (both_signed (meaning x) (meaning y)) q o1 ∷ [])) is0 ∙ ap (λ (q : List Bit4). ext w s (order_value op (both_signed (meaning x) (meaning y)) (get_or vs 0 o0) q ∷ [])) is1) }

lens-Equal : (e : Expr) (op : EqOp) (negated : Bool) (x : Expr) (y : Expr) (w : ℕ) (s : Bool) (vs : List (List Bit4)) → e.form ≡ V.Equal op negated x y → Operands e w s vs → map length vs ≡ (both_wide (meaning x) (meaning y)) ∷ (both_wide (meaning x) (meaning y)) ∷ []
lens-Equal e op negated x y w s vs is o = o.lengths ∙ ap widths_asked (sym (S.asked-by e (V.Equal op negated x y) (Form-F.Equal op negated x y) o.formals w s is (S.out-Equal op negated x y)))

pub combines-Equal : (e : Expr) (op : EqOp) (negated : Bool) (x : Expr) (y : Expr) (w : ℕ) (s : Bool) (vs : List (List Bit4)) (o0 o1 r : List Bit4) → e.form ≡ V.Equal op negated x y → o0 ≡ get_or vs 0 o0 → o1 ≡ get_or vs 1 o1 → r ≡ ext w s (cond negated (not4 (equality op o0 o1)) (equality op o0 o1) ∷ []) → Combines e w s vs r
combines-Equal e op negated x y w s vs o0 o1 r is is0 is1 made = record { value = λ fs a h. F.value-Equal e op negated x y fs vs o0 o1 r w s a is h (made ∙ ap (λ (q : List Bit4). ext w s (cond negated (not4 (equality op q o1)) (equality op q o1) ∷ [])) is0 ∙ ap (λ (q : List Bit4). ext w s (cond negated (not4 (equality op (get_or vs 0 o0) q)) (equality op (get_or vs 0 o0) q) ∷ [])) is1) }

lens-Both : (e : Expr) (x : Expr) (y : Expr) (w : ℕ) (s : Bool) (vs : List (List Bit4)) → e.form ≡ V.Both x y → Operands e w s vs → map length vs ≡ (wide (meaning x)) ∷ (wide (meaning y)) ∷ []
lens-Both e x y w s vs is o = o.lengths ∙ ap widths_asked (sym (S.asked-by e (V.Both x y) (Form-F.Both x y) o.formals w s is (S.out-Both x y)))

pub combines-Both : (e : Expr) (x : Expr) (y : Expr) (w : ℕ) (s : Bool) (vs : List (List Bit4)) (o0 o1 r : List Bit4) → e.form ≡ V.Both x y → o0 ≡ get_or vs 0 o0 → o1 ≡ get_or vs 1 o1 → r ≡ ext w s (and4 (truth_of o0) (truth_of o1) ∷ []) → Combines e w s vs r
combines-Both e x y w s vs o0 o1 r is is0 is1 made = record { value = λ fs a h. F.value-Both e x y fs vs o0 o1 r w s a is h (made ∙ ap (λ (q : List Bit4). ext w s (and4 (truth_of q) (truth_of o1) ∷ [])) is0 ∙ ap (λ (q : List Bit4). ext w s (and4 (truth_of (get_or vs 0 o0)) (truth_of q) ∷ [])) is1) }

lens-Either : (e : Expr) (x : Expr) (y : Expr) (w : ℕ) (s : Bool) (vs : List (List Bit4)) → e.form ≡ V.Either x y → Operands e w s vs → map length vs ≡ (wide (meaning x)) ∷ (wide (meaning y)) ∷ []
lens-Either e x y w s vs is o = o.lengths ∙ ap widths_asked (sym (S.asked-by e (V.Either x y) (Form-F.Either x y) o.formals w s is (S.out-Either x y)))

pub combines-Either : (e : Expr) (x : Expr) (y : Expr) (w : ℕ) (s : Bool) (vs : List (List Bit4)) (o0 o1 r : List Bit4) → e.form ≡ V.Either x y → o0 ≡ get_or vs 0 o0 → o1 ≡ get_or vs 1 o1 → r ≡ ext w s (or4 (truth_of o0) (truth_of o1) ∷ []) → Combines e w s vs r
combines-Either e x y w s vs o0 o1 r is is0 is1 made = record { value = λ fs a h. F.value-Either e x y fs vs o0 o1 r w s a is h (made ∙ ap (λ (q : List Bit4). ext w s (or4 (truth_of q) (truth_of o1) ∷ [])) is0 ∙ ap (λ (q : List Bit4). ext w s (or4 (truth_of (get_or vs 0 o0)) (truth_of q) ∷ [])) is1) }

lens-Choose : (e : Expr) (z : Expr) (x : Expr) (y : Expr) (w : ℕ) (s : Bool) (vs : List (List Bit4)) → e.form ≡ V.Choose z x y → Operands e w s vs → map length vs ≡ (wide (meaning z)) ∷ w ∷ w ∷ []
lens-Choose e z x y w s vs is o = o.lengths ∙ ap widths_asked (sym (S.asked-by e (V.Choose z x y) (Form-F.Choose z x y) o.formals w s is (S.out-Choose z x y)))

pub combines-Choose : (e : Expr) (z : Expr) (x : Expr) (y : Expr) (w : ℕ) (s : Bool) (vs : List (List Bit4)) (o0 o1 o2 r : List Bit4) → e.form ≡ V.Choose z x y → o0 ≡ get_or vs 0 o0 → o1 ≡ get_or vs 1 o1 → o2 ≡ get_or vs 2 o2 → r ≡ O.chosen (truth_of o0) o1 o2 → Combines e w s vs r
combines-Choose e z x y w s vs o0 o1 o2 r is is0 is1 is2 made = record { value = λ fs a h. F.value-Choose e z x y fs vs o0 o1 o2 r w s a is h (made ∙ ap (λ (q : List Bit4). O.chosen (truth_of q) o1 o2) is0 ∙ ap (λ (q : List Bit4). O.chosen (truth_of (get_or vs 0 o0)) q o2) is1 ∙ ap (λ (q : List Bit4). O.chosen (truth_of (get_or vs 0 o0)) (get_or vs 1 o1) q) is2) }

lens-Cast : (e : Expr) (x : Expr) (w : ℕ) (s : Bool) (vs : List (List Bit4)) → e.form ≡ V.Cast x → Operands e w s vs → map length vs ≡ (wide (meaning x)) ∷ []
lens-Cast e x w s vs is o = o.lengths ∙ ap widths_asked (sym (S.asked-by e (V.Cast x) (Form-F.Cast x) o.formals w s is (S.out-Cast x)))

pub combines-Cast : (e : Expr) (x : Expr) (w : ℕ) (s : Bool) (vs : List (List Bit4)) (o0 r : List Bit4) → e.form ≡ V.Cast x → o0 ≡ get_or vs 0 o0 → r ≡ ext w s (stored (layout e.of).two_state (ext (length (layout e.of).two_state) (signed (meaning x)) o0)) → Combines e w s vs r
combines-Cast e x w s vs o0 r is is0 made = record { value = λ fs a h. F.value-Cast e x fs vs o0 r w s a is h (made ∙ ap (λ (q : List Bit4). ext w s (stored (layout e.of).two_state (ext (length (layout e.of).two_state) (signed (meaning x)) q))) is0) }

lens-Clog2 : (e : Expr) (x : Expr) (w : ℕ) (s : Bool) (vs : List (List Bit4)) → e.form ≡ V.Clog2 x → Operands e w s vs → map length vs ≡ (wide (meaning x)) ∷ []
lens-Clog2 e x w s vs is o = o.lengths ∙ ap widths_asked (sym (S.asked-by e (V.Clog2 x) (Form-F.Clog2 x) o.formals w s is (S.out-Clog2 x)))

pub combines-Clog2 : (e : Expr) (x : Expr) (w : ℕ) (s : Bool) (vs : List (List Bit4)) (o0 r : List Bit4) → e.form ≡ V.Clog2 x → o0 ≡ get_or vs 0 o0 → r ≡ ext w s (O.clog2_of o0) → Combines e w s vs r
combines-Clog2 e x w s vs o0 r is is0 made = record { value = λ fs a h. F.value-Clog2 e x fs vs o0 r w s a is h (made ∙ ap (λ (q : List Bit4). ext w s (O.clog2_of q)) is0) }

pub combines-Concat : (e : Expr) (es : List Expr) (w : ℕ) (s : Bool) (vs : List (List Bit4)) (r : List Bit4) → e.form ≡ V.Concat es → r ≡ ext w s (stacked vs) → Combines e w s vs r
combines-Concat e es w s vs r is made = record { value = λ fs a h. F.value-Concat e es fs vs r w s a is h made }

pub combines-Repeat : (e : Expr) (n : ℕ) (es : List Expr) (w : ℕ) (s : Bool) (vs : List (List Bit4)) (r : List Bit4) → e.form ≡ V.Repeat n es → r ≡ ext w s (repeated n (stacked vs)) → Combines e w s vs r
combines-Repeat e n es w s vs r is made = record { value = λ fs a h. F.value-Repeat e n es fs vs r w s a is h made }

pub combines-Stream : (e : Expr) (reversed : Bool) (n : ℕ) (es : List Expr) (w : ℕ) (s : Bool) (vs : List (List Bit4)) (r : List Bit4) → e.form ≡ V.Stream reversed n es → r ≡ ext w false (O.streamed reversed n (stacked vs)) → Combines e w s vs r
combines-Stream e reversed n es w s vs r is made = record { value = λ fs a h. F.value-Stream e reversed n es fs vs r w s a is h made }

-- what the operators ask of their operands
pub ready-Unary : (e : Expr) (op : UnOp) (x : Expr) (w : ℕ) (s : Bool) (vs : List (List Bit4)) (v : List Bit4) → e.form ≡ V.Unary op x → Operands e w s vs → v ≡ get_or vs 0 v → UnaryFitsWord op (length v)
ready-Unary e op x w s vs v is o is0 = T.unary-word e x op o.formals w (length v) is (length-first vs v w [] (lens-Unary e op x w s vs is o) is0) o.fits

pub ready-Reduce : (e : Expr) (op : RedOp) (x : Expr) (w : ℕ) (s : Bool) (vs : List (List Bit4)) (v : List Bit4) → e.form ≡ V.Reduce op x → Operands e w s vs → v ≡ get_or vs 0 v → 0 < length v
ready-Reduce e op x w s vs v is o is0 = let some = (T.reduce-fits-x e x op o.formals w is o.fits).some in omega (arith, length-first vs v (wide (meaning x)) [] (lens-Reduce e op x w s vs is o) is0)

pub same-Binary : (e : Expr) (op : BinOp) (x y : Expr) (w : ℕ) (s : Bool) (vs : List (List Bit4)) (u v : List Bit4) → e.form ≡ V.Binary op x y → Operands e w s vs → u ≡ get_or vs 0 u → v ≡ get_or vs 1 v → length u ≡ length v
same-Binary e op x y w s vs u v is o is0 is1 =
    length-first vs u w (w ∷ []) (lens-Binary e op x y w s vs is o) is0 ∙ sym (length-second vs v w w [] (lens-Binary e op x y w s vs is o) is1)

pub word-Binary : (e : Expr) (op : BinOp) (x y : Expr) (w : ℕ) (s : Bool) (vs : List (List Bit4)) (u : List Bit4) → e.form ≡ V.Binary op x y → Operands e w s vs → u ≡ get_or vs 0 u → BinaryFitsWord op (length u)
word-Binary e op x y w s vs u is o is0 = T.binary-word e x y op o.formals w (length u) is (length-first vs u w (w ∷ []) (lens-Binary e op x y w s vs is o) is0) o.fits

pub ready-Shift : (e : Expr) (op : ShiftOp) (x y : Expr) (w : ℕ) (s : Bool) (vs : List (List Bit4)) (v : List Bit4) → e.form ≡ V.Shift op x y → Operands e w s vs → v ≡ get_or vs 1 v → 0 < length v
ready-Shift e op x y w s vs v is o is1 =
    let some = (T.shift-fits-y e x y op o.formals w is o.fits).some in
    omega (arith, length-second vs v w (wide (meaning y)) [] (lens-Shift e op x y w s vs is o) is1)

pub base-Power : (e x y : Expr) (w : ℕ) (s : Bool) (vs : List (List Bit4)) (u : List Bit4) → e.form ≡ V.Power x y → Operands e w s vs → u ≡ get_or vs 0 u → length u ≤ 128
base-Power e x y w s vs u is o is0 =
    let word = T.power-word e x y o.formals w is o.fits in
    omega (arith, length-first vs u w (wide (meaning y) ∷ []) (lens-Power e x y w s vs is o) is0, word.0)

pub exponent-Power : (e x y : Expr) (w : ℕ) (s : Bool) (vs : List (List Bit4)) (v : List Bit4) → e.form ≡ V.Power x y → Operands e w s vs → v ≡ get_or vs 1 v → (0 < length v) × (length v ≤ 128)
exponent-Power e x y w s vs v is o is1 =
    let word = T.power-word e x y o.formals w is o.fits in
    let some = (T.power-fits-y e x y o.formals w is o.fits).some in
    let long = length-second vs v w (wide (meaning y)) [] (lens-Power e x y w s vs is o) is1 in
    (omega (arith, long), omega (arith, long, word.1))

pub ready-Order : (e : Expr) (op : OrdOp) (x y : Expr) (w : ℕ) (s : Bool) (vs : List (List Bit4)) (u v : List Bit4) → e.form ≡ V.Order op x y → Operands e w s vs → u ≡ get_or vs 0 u → v ≡ get_or vs 1 v → (0 < length u) × (length u ≡ length v) × (length u ≤ 128)
ready-Order e op x y w s vs u v is o is0 is1 =
    let word = T.order-word e x y op o.formals w is o.fits in
    let some = (T.order-fits-x e x y op o.formals w is o.fits).some in
    let lens = lens-Order e op x y w s vs is o in
    let long = length-first vs u (both_wide (meaning x) (meaning y)) ((both_wide (meaning x) (meaning y)) ∷ []) lens is0 in
    (omega (arith, long), long ∙ sym (length-second vs v (both_wide (meaning x) (meaning y)) (both_wide (meaning x) (meaning y)) [] lens is1), omega (arith, long))

pub ready-Equal : (e : Expr) (op : EqOp) (negated : Bool) (x y : Expr) (w : ℕ) (s : Bool) (vs : List (List Bit4)) (u v : List Bit4) → e.form ≡ V.Equal op negated x y → Operands e w s vs → u ≡ get_or vs 0 u → v ≡ get_or vs 1 v → length u ≡ length v
ready-Equal e op negated x y w s vs u v is o is0 is1 =
    let lens = lens-Equal e op negated x y w s vs is o in
    length-first vs u (both_wide (meaning x) (meaning y)) ((both_wide (meaning x) (meaning y)) ∷ []) lens is0 ∙ sym (length-second vs v (both_wide (meaning x) (meaning y)) (both_wide (meaning x) (meaning y)) [] lens is1)

pub ready-Choose : (e z x y : Expr) (w : ℕ) (s : Bool) (vs : List (List Bit4)) (u v : List Bit4) → e.form ≡ V.Choose z x y → Operands e w s vs → u ≡ get_or vs 1 u → v ≡ get_or vs 2 v → length u ≡ length v
ready-Choose e z x y w s vs u v is o is1 is2 =
    let lens = lens-Choose e z x y w s vs is o in
    length-second vs u (wide (meaning z)) w (w ∷ []) lens is1 ∙ sym (length-third vs v (wide (meaning z)) w w [] lens is2)

pub ready-Cast : (e : Expr) (w : ℕ) (s : Bool) (vs : List (List Bit4)) → Operands e w s vs → width_of e.of ≤ 4194304
ready-Cast e w s vs o = own-narrow e o.formals w o.fits

pub ready-Clog2 : (e x : Expr) (w : ℕ) (s : Bool) (vs : List (List Bit4)) (v : List Bit4) → e.form ≡ V.Clog2 x → Operands e w s vs → v ≡ get_or vs 0 v → length v ≤ 4194304
ready-Clog2 e x w s vs v is o is0 =
    let narrow = (T.clog2-fits-x e x o.formals w is o.fits).narrow in
    let wide = wide-widest x in
    omega (arith, length-first vs v (length (meaning x).of.two_state) [] (lens-Clog2 e x w s vs is o) is0)

-- numbers and constants have no operands
pub combines-Literal : (e : Expr) (v : List Bit4) (goes_on : Bool) (w : ℕ) (s : Bool) (vs : List (List Bit4)) (r : List Bit4) → e.form ≡ V.Literal v goes_on → r ≡ ext w (goes_on || s) v → Combines e w s vs r
combines-Literal e v goes_on w s vs r is made = record { value = λ fs a h. (T.literal-done e v r goes_on w s a None is made).0 }

pub combines-Fill : (e : Expr) (b : Bit4) (w : ℕ) (s : Bool) (vs : List (List Bit4)) (r : List Bit4) → e.form ≡ V.Fill b → r ≡ replicate w b → Combines e w s vs r
combines-Fill e b w s vs r is made = record { value = λ fs a h. (fill-done e b r w s a None is made).0 }

pub combines-Constant : (e : Expr) (v : Value) (w : ℕ) (s : Bool) (vs : List (List Bit4)) (r : List Bit4) → e.form ≡ V.Constant v → r ≡ ext w s (bits v) → Combines e w s vs r
combines-Constant e v w s vs r is made = record { value = λ fs a h. (constant-done e v r w s a None is made).0 }
