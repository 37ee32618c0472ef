-- What an expression asks of its direct operands, in the order in which they are valued.
use Rattle.std.specs.Prelude.{◌≡◌, ⊤, ℕ, Bool, List, [], ◌∷◌, ◌++◌, map, flat_map, zip, length}
use Rattle.b4_core.specs.declared.bit.Bit4.{Bit4}
use Rattle.sv_types.specs.declared.expression.Expr.{Expr}
use Rattle.sv_types.specs.declared.expression.Form.{Form, Form-F, out-Form}
use Rattle.sv_types.specs.declared.expression.Choice.{Choice, Choice-F, out-Choice}
use Rattle.sv_types.specs.Layouts.{Layout, layout}
use Rattle.sv_types.specs.Surroundings.{Around, Tally, Parameter, onward}
use Rattle.sv_types.specs.Meanings.{Meaning, wide, signed}
use Rattle.sv_types.specs.Operators.{both_wide, both_signed, assigned_width, parts_of}
use Rattle.sv_types.specs.Paths.{places_from}
use Rattle.sv_types.specs.Expressions.{meaning}
use Rattle.eval_parts.specs.Limits.{Fits}
use Rattle.eval_parts.specs.Targets.{marks_of_parts, marks_of_formals}
use Rattle.eval_forms.specs.declared.asked.Ask.{Ask}
use Rattle.eval_forms.specs.declared.asked.Ask.TheVariants as A
use Rattle.eval_forms.specs.declared.asked.Operand.{Operand}

-- an operand, and what is asked of it
pub record Asked : Type 0 where
  pub of : Expr
  pub ask : Ask

abbrev pub asked : Operand → Asked
asked o = record { of = o.of.now; ask = o.ask }

abbrev pub bits_asked : Expr → ℕ → Bool → Asked
bits_asked e w s = record { of = e; ask = A.Bits w s }

abbrev pub alone_asked : Expr → Asked
alone_asked e = bits_asked e (wide (meaning e)) (signed (meaning e))

abbrev pub again_asked : Expr → ℕ → Bool → Asked
again_asked e w s = record { of = e; ask = A.Again w s }

abbrev pub place_asked : Expr → Asked
place_asked e = record { of = e; ask = A.Place }

-- both sides of a comparison
abbrev pub compared_asked : Expr → Expr → List Asked
compared_asked x y =
    let w = both_wide (meaning x) (meaning y) in
    let s = both_signed (meaning x) (meaning y) in
    bits_asked x w s ∷ bits_asked y w s ∷ []

-- an alternative of `inside`: the value on the left is asked again for each bound
abbrev pub again_compared : Expr → Expr → List Asked
again_compared x y =
    let w = both_wide (meaning x) (meaning y) in
    let s = both_signed (meaning x) (meaning y) in
    again_asked x w s ∷ bits_asked y w s ∷ []

abbrev pub choice_asked : Expr → Choice-F Choice Form Expr → List Asked
choice_asked x (Choice-F.Value v) = again_compared x v
choice_asked x (Choice-F.Range low high) = again_compared x low ++ again_compared x high

-- what is assigned to places with these marks
abbrev pub assigned_asked : List (List Bool) → List Expr → List Asked
assigned_asked places es = map (λ p. bits_asked p.1 (assigned_width p.0 (meaning p.1)) (signed (meaning p.1))) (zip places es)

-- the operands of a form at a width and a sign, for its type and the formals of functions
abbrev pub form_asked : Layout → (ℕ → List Parameter) → ℕ → Bool → Form-F Choice Form Expr → List Asked
form_asked of fs w s (Form-F.Literal v goes_on) = []
form_asked of fs w s (Form-F.Fill b) = []
form_asked of fs w s (Form-F.Constant v) = []
form_asked of fs w s (Form-F.Signal n) = []
form_asked of fs w s (Form-F.Local n) = []
form_asked of fs w s (Form-F.Member x k) = place_asked x ∷ []
form_asked of fs w s (Form-F.Index x i) = place_asked x ∷ alone_asked i ∷ []
form_asked of fs w s (Form-F.Part x left right) = place_asked x ∷ []
form_asked of fs w s (Form-F.Slide x i n up) = place_asked x ∷ alone_asked i ∷ []
form_asked of fs w s (Form-F.Unary op x) = bits_asked x w s ∷ []
form_asked of fs w s (Form-F.Reduce op x) = alone_asked x ∷ []
form_asked of fs w s (Form-F.Negate x) = alone_asked x ∷ []
form_asked of fs w s (Form-F.Binary op x y) = bits_asked x w s ∷ bits_asked y w s ∷ []
form_asked of fs w s (Form-F.Shift op x y) = bits_asked x w s ∷ alone_asked y ∷ []
form_asked of fs w s (Form-F.Power x y) = bits_asked x w s ∷ alone_asked y ∷ []
form_asked of fs w s (Form-F.Order op x y) = compared_asked x y
form_asked of fs w s (Form-F.Equal op negated x y) = compared_asked x y
form_asked of fs w s (Form-F.Both x y) = alone_asked x ∷ alone_asked y ∷ []
form_asked of fs w s (Form-F.Either x y) = alone_asked x ∷ alone_asked y ∷ []
form_asked of fs w s (Form-F.Choose z x y) = alone_asked z ∷ bits_asked x w s ∷ bits_asked y w s ∷ []
form_asked of fs w s (Form-F.Concat es) = map alone_asked es
form_asked of fs w s (Form-F.Repeat n es) = map alone_asked es
form_asked of fs w s (Form-F.Inside x cs) = alone_asked x ∷ flat_map (λ c. choice_asked x (out-Choice c)) cs
form_asked of fs w s (Form-F.Cast x) = alone_asked x ∷ []
form_asked of fs w s (Form-F.Clog2 x) = alone_asked x ∷ []
form_asked of fs w s (Form-F.Pattern es) = assigned_asked (marks_of_parts (parts_of of)) es
form_asked of fs w s (Form-F.Call f es) = assigned_asked (marks_of_formals (fs f)) es
form_asked of fs w s (Form-F.Stream reversed n es) = map alone_asked es

-- the width and sign at which the operands of an expression are asked
abbrev pub width_asked : Ask → Meaning → ℕ
width_asked (A.Bits w s) m = w
width_asked (A.Again w s) m = w
width_asked A.Place m = wide m

abbrev pub sign_asked : Ask → Meaning → Bool
sign_asked (A.Bits w s) m = s
sign_asked (A.Again w s) m = s
sign_asked A.Place m = signed m

-- the operands of an expression of which this is asked
abbrev pub operands_asked : (ℕ → List Parameter) → Expr → Ask → List Asked
operands_asked fs e ask = form_asked (layout e.of) fs (width_asked ask (meaning e)) (sign_asked ask (meaning e)) (out-Form e.form)

-- what it takes to value what is asked: nothing where it was valued before, and of a path its indices
abbrev pub effort_asked : Expr → Ask → Around → Tally → Tally
effort_asked e (A.Bits w s) a t = (meaning e).values a t
effort_asked e (A.Again w s) a t = t
effort_asked e A.Place a t = places_from (meaning e).root (meaning e) a t

abbrev pub values_asked : List Asked → Around → Tally → Tally
values_asked [] a t = t
values_asked (q ∷ qs) a t = onward (values_asked qs a) (effort_asked q.of q.ask a t)

-- the bits that are asked, and how many they are
abbrev pub bits_of : Asked → Around → List Bit4
bits_of q a = (meaning q.of).value (width_asked q.ask (meaning q.of)) (sign_asked q.ask (meaning q.of)) a

abbrev pub all_bits : List Asked → Around → List (List Bit4)
all_bits qs a = map (λ q. bits_of q a) qs

abbrev pub widths_asked : List Asked → List ℕ
widths_asked qs = map (λ q. width_asked q.ask (meaning q.of)) qs

-- each operand fits at its width
abbrev pub AllFitAsked : (ℕ → List Parameter) → List Asked → Type 0
AllFitAsked fs [] = ⊤
AllFitAsked fs (q ∷ qs) = Fits (meaning q.of) fs (width_asked q.ask (meaning q.of)) × AllFitAsked fs qs

-- bits of this many places for the operands of an expression that fits at a width
pub record Operands (e : Expr) (w : ℕ) (s : Bool) (vs : List (List Bit4)) : Type 0 where
  pub formals : ℕ → List Parameter
  pub fits : Fits (meaning e) formals w
  pub lengths : map length vs ≡ widths_asked (form_asked (layout e.of) formals w s (out-Form e.form))

-- the value of an expression, by the values of its operands
pub record Combines (e : Expr) (w : ℕ) (s : Bool) (vs : List (List Bit4)) (r : List Bit4) : Type 0 where
  pub value : (fs : ℕ → List Parameter) (a : Around) → vs ≡ all_bits (form_asked (layout e.of) fs w s (out-Form e.form)) a → r ≡ (meaning e).value w s a
