-- What the alternatives of `inside` give.
use Rattle.std.specs.Prelude.{◌≡◌, ⊤, ℕ, ◌≤◌, Option, List, [], ◌∷◌, ◌++◌, map, flat_map, Result, Ok, Err}
use Rattle.b4_core.specs.declared.bit.Bit4.{Bit4}
use Rattle.b4_core.specs.Bitwise.{any4}
use Rattle.sv_types.specs.declared.expression.Choice.{Choice, fold-Choice}
use Rattle.sv_types.specs.Layouts.{Layout}
use Rattle.sv_types.specs.Surroundings.{Around, Tally, Parameter}
use Rattle.sv_types.specs.Meanings.{Meaning, Operand, by_itself, values_all}
use Rattle.sv_types.specs.Operators.{Alternative, both_wide, is_inside, inside_operands}
use Rattle.sv_types.specs.Expressions.{choice_step, form_step, expr_step}
use Rattle.eval_parts.specs.declared.halt.Halt.{Halt}
use Rattle.eval_parts.specs.Surroundings.{running}
use Rattle.eval_parts.specs.Answers.{Halts}
use Rattle.eval_parts.specs.Limits.{Fits}

abbrev pub alternative : Choice → Alternative
alternative = fold-Choice Alternative (Layout → ℕ → Meaning) Meaning choice_step form_step expr_step

-- valuing an expression goes on to its end
pub record Runs (m : Meaning) (a : Around) (start : Option ℕ) : Type 0 where
  pub left : Option ℕ
  pub is : m.values a (running start) ≡ running left

-- two expressions that are compared
pub record PairFits (m v : Meaning) (fs : ℕ → List Parameter) : Type 0 where
  pub left : Fits m fs (both_wide m v)
  pub right : Fits v fs (both_wide m v)

pub record RangeFits (m low high : Meaning) (fs : ℕ → List Parameter) : Type 0 where
  pub below : PairFits m low fs
  pub above : PairFits m high fs
  pub low_word : both_wide m low ≤ 128
  pub high_word : both_wide m high ≤ 128

-- a value and an alternative at the widths at which they are compared
abbrev pub AlternativeFits : Meaning → (ℕ → List Parameter) → Alternative → Type 0
AlternativeFits m fs (Alternative.Only v) = PairFits m v fs
AlternativeFits m fs (Alternative.From low high) = RangeFits m low high fs

abbrev pub AllAlternativesFit : Meaning → (ℕ → List Parameter) → List Alternative → Type 0
AllAlternativesFit m fs [] = ⊤
AllAlternativesFit m fs (c ∷ cs) = AlternativeFits m fs c × AllAlternativesFit m fs cs

-- valuing the operands of an alternative goes on to those behind them, or stops before
pub record GoesOn (ps : List Operand) (a : Around) (old new : Option ℕ) : Type 0 where
  pub on : (rest : List Operand) → values_all (ps ++ rest) a (running old) ≡ values_all rest a (running new)

pub record StopsIn (halt : Halt) (ps : List Operand) (a : Around) (old : Option ℕ) : Type 0 where
  pub halts : (rest : List Operand) → Halts halt (values_all (ps ++ rest) a (running old))

abbrev pub AlternativeGives : Result Bit4 Halt → Meaning → Alternative → Around → Option ℕ → Option ℕ → Type 0
AlternativeGives (Ok b) m c a old new = (b ≡ is_inside m a c) × GoesOn (inside_operands m c) a old new
AlternativeGives (Err halt) m c a old new = StopsIn halt (inside_operands m c) a old

-- whether an expression is one of some alternatives, and what valuing all of them takes
abbrev pub values_inside : Meaning → List Alternative → Around → Tally → Tally
values_inside m cs = values_all (by_itself m ∷ flat_map (inside_operands m) cs)

abbrev pub InsideGives : Result Bit4 Halt → Meaning → List Alternative → Around → Option ℕ → Option ℕ → Type 0
InsideGives (Ok b) m cs a old new = (b ≡ any4 (map (is_inside m a) cs)) × (values_inside m cs a (running old) ≡ running new)
InsideGives (Err halt) m cs a old new = Halts halt (values_inside m cs a (running old))
