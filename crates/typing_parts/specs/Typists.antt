-- What types an expression, and what makes a function known, as they are given to a step of typing.
use Rattle.std.specs.Prelude.{◌≡◌, ◌≤◌, ⊤, ℕ, List, [], ◌∷◌, Result, Ok, Err, slice_get, Some}
use Rattle.sv_types.specs.declared.statement.Function.{Function}
use Rattle.sv_types.specs.Layouts.{width_of}
use Rattle.sv_types.specs.Expressions as T
use Rattle.sv_tree.specs.declared.expressions.Expr.{Expr}
use Rattle.routine_fits.specs.EvalParts.{FitsAlone}
use Rattle.eval_forms.specs.Callees.{formals_in}
use Rattle.expr_type.specs.declared.halt.Halt.{Halt}
use Rattle.expr_type.specs.Expressions.{meaning}
use Rattle.expr_type.specs.Names.{Called, Context}
use Rattle.expr_type.specs.Typings.{Typed}
use Rattle.expr_type.specs.Uses.{stream_marks}
use Rattle.function_places.specs.Places.{Declared, places_in, first_place}
use Rattle.pattern_types.specs.declared.operand.Operand as O
use Rattle.pattern_types.specs.declared.operand.Operand.{out-Operand, Operand-F}
use Rattle.typing_parts.specs.declared.known.Known.{Known}
use Rattle.typing_parts.specs.Operands.{as_operand}
use Rattle.routine_fits.specs.Sound.{AllSoundFunctions}
use Rattle.routine_fits.specs.TypingFits.{Extends}
use Rattle.typing_steps.specs.Steps.{StopsBy, TypesTo}

-- each mark says whether its function holds a stream, each function is found by where it is declared, and each can be run where these
-- are known
pub record IsReady (k : Known) : Type 0 where
  pub marked : k.marks ≡ stream_marks k.functions
  pub placed : (d : Declared) → places_in k.places d ≡ first_place d k.functions
  pub sound : AllSoundFunctions k.functions

-- a value has at most 2^22 bits, as many as a signal may have, and a stream at most 65,536
abbrev pub IsNarrowOperand : O.Operand → Type 0
IsNarrowOperand o = elim (out-Operand o) [
  | Operand-F.Plain v ↦ width_of v.expr.of ≤ 4194304
  | Operand-F.Pattern tick times items ↦ ⊤
  | Operand-F.Stream v ↦ width_of v.expr.of ≤ 65536
]

abbrev pub NarrowIfOk : Result O.Operand Halt → Type 0
NarrowIfOk (Ok o) = IsNarrowOperand o
NarrowIfOk (Err h) = ⊤

-- a value keeps the limits of typed trees, where these functions are known
abbrev pub FitsOperand : O.Operand → List Function → Type 0
FitsOperand o fs = elim (out-Operand o) [
  | Operand-F.Plain v ↦ FitsAlone (T.meaning v.expr) (formals_in fs)
  | Operand-F.Pattern tick times items ↦ ⊤
  | Operand-F.Stream v ↦ ⊤
]

abbrev pub FitsIfOk : Result O.Operand Halt → List Function → Type 0
FitsIfOk (Ok o) fs = FitsOperand o fs
FitsIfOk (Err h) fs = ⊤

-- An expression that can be typed: `R` is a reference to an expression, `S` one to the functions that are known. These stay known,
-- whatever the answer is.
pub record CanType (R S : Type 0) (tree : R → Expr) (held : S → Known) (pre : R → S → Type 0) (post : R → S → Result O.Operand Halt → S → Type 0) (k : Context) (e : Expr) : Type 0 where
  pub can : (x : R) (s : S) → tree x ≡ e → IsReady (held s) → pre x s
  pub gives : (x : R) (s : S) (r : Result O.Operand Halt) (t : S) → tree x ≡ e → post x s r t
      → TypesTo (as_operand k.source r) ((meaning e).typed k (held s).functions) (held t).functions
  pub narrow : (x : R) (s : S) (r : Result O.Operand Halt) (t : S) → tree x ≡ e → post x s r t → NarrowIfOk r
  pub fits : (x : R) (s : S) (r : Result O.Operand Halt) (t : S) → tree x ≡ e → post x s r t → FitsIfOk r (held t).functions
  pub ready : (x : R) (s : S) (r : Result O.Operand Halt) (t : S) → tree x ≡ e → post x s r t → IsReady (held t)
  pub keeps : (x : R) (s : S) (r : Result O.Operand Halt) (t : S) → tree x ≡ e → post x s r t → Extends (held s).functions (held t).functions

abbrev pub AllCanType : (R S : Type 0) (tree : R → Expr) (held : S → Known) (pre : R → S → Type 0) (post : R → S → Result O.Operand Halt → S → Type 0) (k : Context) (es : List Expr) → Type 0
AllCanType R S tree held pre post k [] = ⊤
AllCanType R S tree held pre post k (e ∷ es) = CanType R S tree held pre post k e × AllCanType R S tree held pre post k es

-- the place of a function that is known then, or where its text stops
pub record IsCalled (n : ℕ) (t : Typed Called) (fs : List Function) : Type 0 where
  pub of : Function
  pub known : slice_get fs n ≡ Some of
  pub gives : t ≡ record { result = Ok (record { place = n; of = of }); functions = fs }

abbrev pub CalledTo : Result ℕ Halt → Typed Called → List Function → Type 0
CalledTo (Ok n) t fs = IsCalled n t fs
CalledTo (Err h) t fs = StopsBy h t fs

-- What makes functions known: it may always be called. Those that were known before stay known, whatever the answer is.
pub record MakesKnown (S : Type 0) (callable : Type 0) (held : S → Known) (post : ℕ → S → Result ℕ Halt → S → Type 0) (k : Context) : Type 0 where
  pub always : callable
  pub gives : (n : ℕ) (s : S) (r : Result ℕ Halt) (t : S) → IsReady (held s) → post n s r t → CalledTo r (k.routine n (held s).functions) (held t).functions
  pub ready : (n : ℕ) (s : S) (r : Result ℕ Halt) (t : S) → IsReady (held s) → post n s r t → IsReady (held t)
  pub keeps : (n : ℕ) (s : S) (r : Result ℕ Halt) (t : S) → IsReady (held s) → post n s r t → Extends (held s).functions (held t).functions
