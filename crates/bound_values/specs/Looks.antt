-- What is seen of expressions before a run.
use Rattle.std.specs.Prelude.{◌≡◌, ⊤, ℕ, Bool, ◌&&◌, cond, List, Option, Some, None, Result, Ok, Err}
use Rattle.row_machine.specs.Valuation.{Place}
use Rattle.sv_types.specs.declared.expression.Expr.{Expr}
use Rattle.sv_types.specs.Surroundings.{Sight}
use Rattle.sv_types.specs.Expressions.{meaning}
use Rattle.eval_forms.specs.Asked.{Asked}
use Rattle.expr_flows.specs.declared.known.Known.{Known}
use Rattle.expr_flows.specs.declared.known.Variable.{Variable}
use Rattle.expr_flows.specs.Known.{sight, sure_of}
use Rattle.expr_flows.specs.Reads.{constant_asked}
use Rattle.design_breaks.specs.Indices.{lesser, said, index, takes_too_long}
use Rattle.loop_laws.specs.Operands.{long_asked}
use Rattle.bound_values.specs.declared.looks.Look.{Look}

-- a sight for which the bits of these variables are sure, and no others
abbrev pub SureAs : List Variable → Sight → Type 0
SureAs vs h = (q : Place) → h.sure q ≡ sure_of vs q

abbrev pub both_looks : Look → Look → Look
both_looks a b = record { constant = a.constant && b.constant; long = lesser a.long b.long }

-- Whether the value is known hangs on nothing but what is sure.
pub record Looks (l : Look) (k : Known) (constant : Sight → Bool) (long : Option ℕ) : Type 0 where
  pub known : (h : Sight) → SureAs k.variables.now h → l.constant ≡ constant h
  pub longest : l.long ≡ long

abbrev pub LooksAt : Look → Known → Expr → Type 0
LooksAt l k e = Looks l k (meaning e).constant ((said e).long (sight k))

abbrev pub LookGives : {E : Type 0} → Result Look E → Known → Expr → Type 0
LookGives (Ok l) k e = LooksAt l k e
LookGives (Err x) k e = ⊤

abbrev pub LookAskedGives : {E : Type 0} → Result Look E → Known → Asked → Type 0
LookAskedGives (Ok l) k q = Looks l k (λ h. constant_asked h q) (long_asked (sight k) q)
LookAskedGives (Err x) k q = ⊤

-- what a step selects from, and its index
abbrev pub LookBothGives : {E : Type 0} → Result Look E → Known → Expr → Expr → Type 0
LookBothGives (Ok l) k from i = Looks l k (λ h. (meaning from).constant h && (meaning i).constant h) (lesser ((said from).long (sight k)) (index (said i) (sight k)))
LookBothGives (Err x) k from i = ⊤

abbrev pub IndexLongGives : {E : Type 0} → Result (Option ℕ) E → Known → Expr → Look → Type 0
IndexLongGives (Ok o) k i l = LooksAt l k i → o ≡ index (said i) (sight k)
IndexLongGives (Err x) k i l = ⊤

abbrev pub OwnLongGives : {E : Type 0} → Result (Option ℕ) E → Known → Expr → Type 0
OwnLongGives (Ok o) k e = o ≡ cond (takes_too_long (meaning e) (sight k)) (Some e.spot.at) None
OwnLongGives (Err x) k e = ⊤
