-- The heads of loops.
use Rattle.std.proofs.Common.{◌≡◌, true, List, Option, Some, None, refl, sym, ap, subst}
use Rattle.std.specs.Prelude.{IfOk, Result, Ok, Err}
use Rattle.sv_tree.specs.declared.expressions.Expr as X
use Rattle.sv_tree.specs.declared.statements.LoopStep.{LoopStep}
use Rattle.sv_tree.specs.declared.statements.LoopStep.TheVariants as L
use Rattle.sv_types.specs.declared.expression.Expr.{Expr}
use Rattle.sv_types.specs.declared.statement.Function.{Function}
use Rattle.expr_type.specs.declared.halt.Halt.{Halt}
use Rattle.expr_type.specs.declared.operand.Valued.{Valued}
use Rattle.expr_type.specs.Names.{Context, LocalId}
use Rattle.expr_type.specs.Statements as D
use Rattle.frame_things.specs.Finding.{local_id}
use Rattle.frame_things.specs.declared.things.NamedLocal.{NamedLocal}
use Rattle.stmt_laws.specs.Written as W
use Rattle.typing_calls.specs.Lists.{as_meant}
use Rattle.typing_fits.specs.Sound.{IsNarrowType}
use Rattle.typing_declarations.specs.declared.turns.LoopVariable.{LoopVariable}
use Rattle.typing_declarations.specs.Loops.{variable_of}
use Rattle.typing_actions.specs.Loops as V
use Rattle.typing_sides.specs.Sides.{first_stop, known_of, stop}
use Rattle.typing_sides.proofs.Together.{both-fine, both-stops}
use Rattle.typing_steps.specs.Steps.{TypesTo}
use Rattle.typing_stmts.specs.Controls.{controlled}

-- steps in which each concatenation, replication and stream has a part
pub same-written : (s : LoopStep) → W.step_written s ≡ true → V.step_written s ≡ true
same-written (L.Assign name op at e) w = w
same-written (L.Postfix name op at) w = w
same-written (L.Prefix op at name) w = w

-- the variable of a loop, where it is whole
abbrev narrow_local : NamedLocal → Type 0
narrow_local l = IsNarrowType l.of

abbrev narrow_variable : LoopVariable → Type 0
narrow_variable v = narrow_local v.local

pub whole-id : (r : Result LoopVariable Halt) (v : LoopVariable) → r ≡ Ok v → Some (local_id v.local) ≡ D.id_of (known_of (as_meant variable_of r))
whole-id r v is = sym (ap (λ (q : Result LoopVariable Halt). D.id_of (known_of (as_meant variable_of q))) is)

pub none-id : (r : Result LoopVariable Halt) (h : Halt) → r ≡ Err h → None ≡ D.id_of (known_of (as_meant variable_of r))
none-id r h is = sym (ap (λ (q : Result LoopVariable Halt). D.id_of (known_of (as_meant variable_of q))) is)

pub whole-narrow : (r : Result LoopVariable Halt) (v : LoopVariable) → r ≡ Ok v → IfOk r narrow_variable → IsNarrowType v.local.of
whole-narrow r v is n = subst (λ (q : Result LoopVariable Halt). IfOk q narrow_variable) is n

pub ruleset variables = (whole-id, none-id, whole-narrow)

-- a test and a step that have been looked at
pub control-stops : (k : Context) (o : Option D.LoopVariable) (i : Option LocalId) (test : X.Expr) (step : LoopStep) (fs gs hs : List Function) (v : Result Valued Halt) (e : Result Expr Halt) (h : Halt) → i ≡ D.id_of o
    → first_stop (stop v) (stop e) ≡ Some h → TypesTo v (D.condition k test fs) gs → TypesTo e (D.loop_step k i step gs) hs → TypesTo {A = D.Control} (Err h) (controlled k o test step fs) hs
control-stops k o i test step fs gs hs v e h is s p q =
    both-stops (D.condition k test) (D.loop_step k (D.id_of o) step) D.control fs gs hs v e h s p (subst (λ (j : Option LocalId). TypesTo e (D.loop_step k j step gs) hs) is q)

pub control-fine : (k : Context) (o : Option D.LoopVariable) (i : Option LocalId) (test : X.Expr) (step : LoopStep) (fs gs hs : List Function) (v : Result Valued Halt) (e : Result Expr Halt) (a : Valued) (b : Expr) → i ≡ D.id_of o
    → v ≡ Ok a → e ≡ Ok b → TypesTo v (D.condition k test fs) gs → TypesTo e (D.loop_step k i step gs) hs → TypesTo {A = D.Control} (Ok (record { test = a; step = b })) (controlled k o test step fs) hs
control-fine k o i test step fs gs hs v e a b is f g p q =
    both-fine (D.condition k test) (D.loop_step k (D.id_of o) step) D.control fs gs hs a b (Ok (record { test = a; step = b })) (subst (λ (r : Result Valued Halt). TypesTo r (D.condition k test fs) gs) f p)
    (subst (λ (r : Result Expr Halt). TypesTo r (D.loop_step k (D.id_of o) step gs) hs) g (subst (λ (j : Option LocalId). TypesTo e (D.loop_step k j step gs) hs) is q)) refl

pub ruleset controls = (control-stops, control-fine)
