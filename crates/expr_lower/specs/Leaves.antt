-- What an expression reads, and which of its forms aren't lowered.
use Rattle.std.specs.Prelude.{ℕ, List, [], ◌∷◌, ◌++◌, length}
use Rattle.sv_types.specs.declared.expression.Expr.{Expr, Expr-F, fold-Expr}
use Rattle.sv_types.specs.declared.expression.Form.{Form-F}
use Rattle.sv_types.specs.declared.expression.Choice.{Choice-F}
use Rattle.sv_types.specs.Layouts.{Layout, layout}

-- A whole signal by its number, with the type that the expression has there; one from which an index selects; one from which a
-- member or a part is selected; a local by its number, with the type; a call of a function by its number, with the type that the
-- expression has and the number of its arguments; the value of any other form; a concatenation; or a form that isn't lowered.
pub data Leaf : Type 0 where
  Signals : ℕ → Layout → Leaf
  Elements : ℕ → Layout → Leaf
  Inside : ℕ → Layout → Leaf
  Locals : ℕ → Layout → Leaf
  Calls : ℕ → Layout → ℕ → Leaf
  Valued : Leaf
  Joined : Leaf
  Unlowered : Leaf

-- all lists, one behind the other
abbrev pub together : List (List Leaf) → List Leaf
together [] = []
together (l ∷ ls) = l ++ together ls

-- what a select of a member or a part stands on, which always has leaves: one of a concatenation isn't lowered
abbrev pub onto : List Leaf → List Leaf
onto [] = Unlowered ∷ []
onto (Signals n of ∷ ls) = Inside n of ∷ ls
onto (Elements n of ∷ ls) = Elements n of ∷ ls
onto (Inside n of ∷ ls) = Inside n of ∷ ls
onto (Locals n of ∷ ls) = Locals n of ∷ ls
onto (Calls f of n ∷ ls) = Calls f of n ∷ ls
onto (Valued ∷ ls) = Valued ∷ ls
onto (Joined ∷ ls) = Unlowered ∷ Joined ∷ ls
onto (Unlowered ∷ ls) = Unlowered ∷ ls

-- what an index selects from: elements of a signal, if it is a whole one
abbrev pub indexed : List Leaf → List Leaf
indexed [] = Unlowered ∷ []
indexed (Signals n of ∷ []) = Elements n of ∷ []
indexed (Signals n of ∷ l ∷ ls) = Inside n of ∷ l ∷ ls
indexed (Elements n of ∷ ls) = Elements n of ∷ ls
indexed (Inside n of ∷ ls) = Inside n of ∷ ls
indexed (Locals n of ∷ ls) = Locals n of ∷ ls
indexed (Calls f of n ∷ ls) = Calls f of n ∷ ls
indexed (Valued ∷ ls) = Valued ∷ ls
indexed (Joined ∷ ls) = Unlowered ∷ Joined ∷ ls
indexed (Unlowered ∷ ls) = Unlowered ∷ ls

abbrev pub choice_step : Choice-F (List Leaf) (Layout → List Leaf) (List Leaf) → List Leaf
choice_step (Choice-F.Value v) = v
choice_step (Choice-F.Range low high) = low ++ high

abbrev pub form_step : Form-F (List Leaf) (Layout → List Leaf) (List Leaf) → Layout → List Leaf
form_step (Form-F.Literal v goes_on) of = Valued ∷ []
form_step (Form-F.Fill b) of = Valued ∷ []
form_step (Form-F.Constant v) of = Valued ∷ []
form_step (Form-F.Signal n) of = Signals n of ∷ []
form_step (Form-F.Local n) of = Locals n of ∷ []
form_step (Form-F.Member x k) of = onto x
form_step (Form-F.Index x i) of = indexed x ++ i
form_step (Form-F.Part x left right) of = onto x
form_step (Form-F.Slide x i n up) of = onto x ++ i
form_step (Form-F.Unary op x) of = Valued ∷ x
form_step (Form-F.Reduce op x) of = Valued ∷ x
form_step (Form-F.Negate x) of = Valued ∷ x
form_step (Form-F.Binary op x y) of = Valued ∷ (x ++ y)
form_step (Form-F.Shift op x y) of = Valued ∷ (x ++ y)
form_step (Form-F.Power x y) of = Valued ∷ (x ++ y)
form_step (Form-F.Order op x y) of = Valued ∷ (x ++ y)
form_step (Form-F.Equal op negated x y) of = Valued ∷ (x ++ y)
form_step (Form-F.Both x y) of = Valued ∷ (x ++ y)
form_step (Form-F.Either x y) of = Valued ∷ (x ++ y)
form_step (Form-F.Choose z x y) of = Valued ∷ (z ++ (x ++ y))
form_step (Form-F.Concat xs) of = Joined ∷ together xs
form_step (Form-F.Repeat n xs) of = Valued ∷ together xs
form_step (Form-F.Inside x cs) of = Valued ∷ (x ++ together cs)
form_step (Form-F.Cast x) of = Valued ∷ x
form_step (Form-F.Clog2 x) of = Valued ∷ x
form_step (Form-F.Pattern xs) of = Valued ∷ together xs
form_step (Form-F.Call f xs) of = Calls f of (length xs) ∷ together xs
form_step (Form-F.Stream reversed n xs) of = Unlowered ∷ together xs

abbrev pub expr_step : Expr-F (List Leaf) (Layout → List Leaf) (List Leaf) → List Leaf
expr_step e = e.form (layout e.of)

abbrev pub leaves : Expr → List Leaf
leaves = fold-Expr (List Leaf) (Layout → List Leaf) (List Leaf) choice_step form_step expr_step

-- each of them has a property
abbrev pub Each : (Leaf → Type 0) → List Leaf → Type 0
Each P [] = Unit {0}
Each P (l ∷ ls) = P l × Each P ls

-- all forms are lowered
abbrev pub IsLowered : Leaf → Type 0
IsLowered (Signals n of) = Unit {0}
IsLowered (Elements n of) = Unit {0}
IsLowered (Inside n of) = Unit {0}
IsLowered (Locals n of) = Unit {0}
IsLowered (Calls f of n) = Unit {0}
IsLowered Valued = Unit {0}
IsLowered Joined = Unit {0}
IsLowered Unlowered = ⊥
