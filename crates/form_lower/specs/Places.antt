-- Assignment patterns, and calls of functions (IEEE 1800-2017 clauses 10.9 and 13.4).
use Rattle.std.specs.Prelude.{◌≡◌, ◌≤◌, ⊤, ℕ, Bool, true, false, List, [], ◌∷◌, length, map, take}
use Rattle.b4_core.specs.declared.bit.Bit4.{Bit4}
use Rattle.b4_core.specs.declared.bit.Bit4.TheVariants.{Zero}
use Rattle.row_machine.specs.Valuation.{Valuation}
use Rattle.sv_types.specs.declared.types.SvType.{SvType}
use Rattle.sv_types.specs.declared.expression.Expr.{Expr}
use Rattle.sv_types.specs.Layouts.{layout, width_of}
use Rattle.sv_types.specs.Surroundings.{Around, Callee, Parameter}
use Rattle.sv_types.specs.Meanings as S
use Rattle.sv_types.specs.Meanings.{total}
use Rattle.sv_types.specs.Operators as O
use Rattle.sv_types.specs.Operators.{assigned_to, parts_of}
use Rattle.v_tree.specs.Names.{Name}
use Rattle.v_tree.specs.declared.names.Helper.{Helper}
use Rattle.v_meaning.specs.Scopes as Scopes
use Rattle.v_meaning.specs.Scopes.{Scope}
use Rattle.v_meaning.specs.Values as T
use Rattle.eval_parts.specs.declared.targets.Places.{Places}
use Rattle.eval_parts.specs.declared.targets.Places.TheVariants as P
use Rattle.eval_parts.specs.Targets.{marks_of_parts, marks_of_formals}
use Rattle.eval_forms.specs.Narrow.{AllNarrowAt}
use Rattle.lowering_laws.specs.Helpers.{StandsFor}
use Rattle.lowering_laws.specs.Same.{Same}
use Rattle.path_flatten.specs.Helping.{EachHelps}
use Rattle.form_lower.specs.Calls.{NamesOf}

-- an item of a concatenation, which is valued alone: these are its bits
pub record IsItem (m : T.Meaning) (c : List Bit4) (sc : Scope) (v : Valuation) : Type 0 where
  pub width : m.width sc ≡ length c
  pub value : T.alone m sc v ≡ c

-- an argument of a function, which is given as many bits as its formal has: these are the bits
abbrev pub IsArgument : T.Meaning → List Bit4 → Scope → Valuation → Type 0
IsArgument m c sc v = T.given m (length c) sc v ≡ c

abbrev pub IsPut : Bool → T.Meaning → List Bit4 → Scope → Valuation → Type 0
IsPut true m c sc v = IsItem m c sc v
IsPut false m c sc v = IsArgument m c sc v

-- An expression gives so many bits what another one gives them. If that has as many bits alone, the expression has these bits alone.
pub record Gives (n : ℕ) (e : S.Meaning) (a : Around) (m : T.Meaning) (sc : Scope) (v : Valuation) : Type 0 where
  pub value : T.given m n sc v ≡ e.given n a
  pub long : length (e.given n a) ≡ n
  pub alone : S.wide e ≡ n → IsItem m (e.given n a) sc v

-- so for each place, as far as there are expressions
abbrev pub AllGive : List (List Bool) → List S.Meaning → Around → List T.Meaning → Scope → Valuation → Type 0
AllGive [] es a [] sc v = ⊤
AllGive [] es a (m ∷ ms) sc v = ⊥
AllGive (b ∷ bs) [] a [] sc v = ⊤
AllGive (b ∷ bs) [] a (m ∷ ms) sc v = ⊥
AllGive (b ∷ bs) (e ∷ es) a [] sc v = ⊥
AllGive (b ∷ bs) (e ∷ es) a (m ∷ ms) sc v = Gives (length b) e a m sc v × AllGive bs es a ms sc v

-- what stands at a place with these marks for an expression: in a concatenation, or as an argument
pub record Puts (joined : Bool) (two_state : List Bool) (e : S.Meaning) (m : T.Meaning) (hs : List Helper) (r : T.Meaning) : Type 0 where
  pub bits : (a : Around) (sc : Scope) (v : Valuation) → EachHelps hs sc → Gives (length two_state) e a m sc v → IsPut joined r (assigned_to two_state e a) sc v
  pub names : NamesOf (m ∷ []) r

-- so for each of some expressions, which are at most as many as the places
abbrev pub AllPut : Bool → List (List Bool) → List S.Meaning → List T.Meaning → List Helper → List T.Meaning → Type 0
AllPut joined bs es [] hs [] = ⊤
AllPut joined bs es [] hs (r ∷ rs) = ⊥
AllPut joined bs es (m ∷ ms) hs [] = ⊥
AllPut joined [] es (m ∷ ms) hs (r ∷ rs) = ⊥
AllPut joined (b ∷ bs) [] (m ∷ ms) hs (r ∷ rs) = ⊥
AllPut joined (b ∷ bs) (e ∷ es) (m ∷ ms) hs (r ∷ rs) = Puts joined b e m hs r × AllPut joined bs es ms hs rs

-- whether what stands at the places is concatenated
abbrev pub are_joined : Places → Bool
are_joined (P.Parts t) = true
are_joined (P.Formals fs) = false

-- so many of these expressions are assigned to places with these marks, and have types of at most 2^22 bits
pub record AreItems (bs : List (List Bool)) (es : List Expr) (n : ℕ) : Type 0 where
  pub there : n ≤ length bs
  pub few : n ≤ length es
  pub narrow : AllNarrowAt bs es

-- how many bits the first so many places have
abbrev pub bits_of_first : ℕ → List (List Bool) → ℕ
bits_of_first n bs = total (map (λ (b : List Bool). length b) (take n bs))

-- what stands for a pattern of these items at a width and a sign, wherever the text has its helpers
pub record Patterns (t : SvType) (w : ℕ) (s : Bool) (es : List S.Meaning) (ms : List T.Meaning) (hs : List Helper) (r : T.Meaning) : Type 0 where
  pub same : (at : ℕ) (a : Around) (sc : Scope) (v : Valuation) → EachHelps hs sc → AllGive (marks_of_parts (parts_of (layout t))) es a ms sc v → Same (O.pattern (layout t) at es) w s a r sc v
  pub names : NamesOf ms r

-- A function of the target stands for one of the source without formals: as each one of the target has an input, it has one of one
-- bit, which is given 0 (IEEE 1364-2005 clause 10.4.1).
pub record StandsWithout (f : Callee) (wide : ℕ) (g : Scopes.Callee) : Type 0 where
  pub width : g.width ≡ wide
  pub inputs : g.inputs ≡ 1 ∷ []
  pub run : (v : Valuation) → g.run v ((Zero ∷ []) ∷ []) ≡ (f.run []).result
  pub long : length (f.run []).result ≡ wide

-- one stands for a function with these formals
abbrev pub StandsForCallee : List Parameter → Callee → ℕ → Scopes.Callee → Type 0
StandsForCallee [] f wide g = StandsWithout f wide g
StandsForCallee (p ∷ ps) f wide g = StandsFor f wide g

-- what is passed where there are no formals
abbrev pub passed_beside : List Parameter → List T.Meaning
passed_beside [] = T.literal (Zero ∷ []) ∷ []
passed_beside (p ∷ ps) = []

-- What stands for a call of a function with these formals and actuals, wherever the text has its helpers and the name stands for
-- the function.
pub record CallsNamed (t : SvType) (name : Name) (formals : List Parameter) (es : List S.Meaning) (ms : List T.Meaning) (hs : List Helper) (r : T.Meaning) : Type 0 where
  pub same : (at f w : ℕ) (s : Bool) (a : Around) (sc : Scope) (v : Valuation) → EachHelps hs sc → (a.callee f).formals ≡ formals → length es ≡ length formals
      → StandsForCallee formals (a.callee f) (width_of t) (sc.callee name) → AllGive (marks_of_formals formals) es a ms sc v → Same (O.call (layout t) at f es) w s a r sc v
  pub names : NamesOf ms r
