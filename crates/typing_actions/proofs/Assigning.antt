-- Assignments, and counting.
use Rattle.std.proofs.Common.{◌≡◌, ℕ, List, [], Option, Some, refl, subst, sym}
use Rattle.std.specs.Prelude.{Result, Ok, Err, true}
use Rattle.sv_tree.specs.declared.expressions.Select.{Select}
use Rattle.sv_tree.specs.declared.operators.AssignmentOperator.{AssignmentOperator}
use Rattle.sv_tree.specs.declared.operators.StepOperator.{StepOperator}
use Rattle.sv_types.specs.declared.expression.Expr.{Expr}
use Rattle.sv_types.specs.declared.statement.Function.{Function}
use Rattle.sv_types.specs.declared.statement.Stmt.{Stmt}
use Rattle.expr_type.specs.declared.halt.Halt.{Halt}
use Rattle.expr_type.specs.Answers.{Gives, HaltsBy, reason}
use Rattle.expr_type.specs.Names.{Context, LocalId}
use Rattle.expr_type.specs.Operands.{Operand, no_stream}
use Rattle.expr_type.specs.Statements as S
use Rattle.expr_type.specs.Statements.{assignment, one, step_operator, step_value}
use Rattle.expr_type.specs.Targets as D
use Rattle.expr_type.specs.Targets.{ToPath, simple_name}
use Rattle.expr_type.specs.Typings.{Checked, Typed, Typing, applied, beside, checked, joined, rule, where_whole, whole}
use Rattle.pattern_types.specs.Meaning.{operand_of}
use Rattle.pattern_types.specs.declared.operand.Operand as O
use Rattle.typing_steps.specs.Steps.{TypesTo}
use Rattle.typing_parts.specs.Operands.{as_operand}
use Rattle.typing_paths.specs.Names.{named_target_of}
use Rattle.typing_assigns.specs.Assigning.{assigned_by}
use Rattle.typing_assigns.specs.Targets.{StandsFor, TargetsTo}
use Rattle.typing_assigns.specs.declared.target.Target.{Target}
use Rattle.typing_assigns.proofs.Joining.{where-stops}
use Rattle.typing_exprs.proofs.TypingOperators.{then-types}
use Rattle.typing_actions.specs.Loops as Y
use Rattle.typing_sides.specs.Sides.{first_stop, stop}
use Rattle.typing_actions.specs.Walks as W
use Rattle.typing_actions.proofs.Together.{narrow-operand, narrow-target, sides-fine, sides-stop}

-- something beside what needs no functions
alone : {A B C : Type 0} (r : Checked A) (b : B) (f : A → B → Typing C) (fs : List Function) → applied (joined r (Ok b)) (λ p. f p.0 p.1) fs ≡ applied r (λ a. f a b) fs
alone (Ok a) b f fs = refl
alone (Err e) b f fs = refl

beside-whole : {A B C : Type 0} (x : Typing A) (b : B) (f : A → B → Typing C) (fs gs : List Function) (r : Result C Halt) → TypesTo r (checked (beside x (whole b)) (λ p. f p.0 p.1) fs) gs → TypesTo r (checked x (λ a. f a b) fs) gs
beside-whole {C = C} x b f fs gs r h = subst (λ (t : Typed C). TypesTo r t gs) (alone (x fs).result b f (x fs).functions) h

-- an assignment of what has been looked at
pub assigned-stops : (k : Context) (at : ℕ) (op : AssignmentOperator) (x : Typing D.Target) (y : Typing Operand) (fs gs hs : List Function) (a : Result Target Halt) (b : Result O.Operand Halt) (h : Halt)
    → first_stop (stop a) (stop b) ≡ Some h → TargetsTo a (x fs) gs → TypesTo (as_operand k.source b) (y gs) hs → TypesTo {A = Stmt} (Err h) (W.assigned k at op x y fs) hs
assigned-stops k at op x y fs gs hs a b h s p q = sides-stop k.source x y (λ t o. rule (assignment k at op t o)) fs gs hs a b h s p q

pub assigned-types : (k : Context) (at : ℕ) (op : AssignmentOperator) (x : Typing D.Target) (y : Typing Operand) (fs gs hs : List Function) (a : Result Target Halt) (b : Result O.Operand Halt) (c : Target) (o : O.Operand) (r : Result Stmt Halt)
    → a ≡ Ok c → b ≡ Ok o → TargetsTo a (x fs) gs → TypesTo (as_operand k.source b) (y gs) hs → ((d : D.Target) → StandsFor c d → Gives r (assignment k at op d (operand_of k.source o))) → TypesTo r (W.assigned k at op x y fs) hs
assigned-types k at op x y fs gs hs a b c o r e f p q g = sides-fine k.source x y (assignment k at op) fs gs hs a b c o r e f p q g

pub ruleset assigns = (assigned-stops, assigned-types, narrow-target, narrow-operand)

-- the same as a step of a loop
pub stepped-stops : (k : Context) (at : ℕ) (op : AssignmentOperator) (x : Typing D.Target) (y : Typing Operand) (fs gs hs : List Function) (a : Result Target Halt) (b : Result O.Operand Halt) (h : Halt)
    → first_stop (stop a) (stop b) ≡ Some h → TargetsTo a (x fs) gs → TypesTo (as_operand k.source b) (y gs) hs → TypesTo {A = Expr} (Err h) (Y.stepped k at op x y fs) hs
stepped-stops k at op x y fs gs hs a b h s p q = sides-stop k.source x y (λ t o. rule (step_value k at op t o)) fs gs hs a b h s p q

pub stepped-types : (k : Context) (at : ℕ) (op : AssignmentOperator) (x : Typing D.Target) (y : Typing Operand) (fs gs hs : List Function) (a : Result Target Halt) (b : Result O.Operand Halt) (c : Target) (o : O.Operand) (r : Result Expr Halt)
    → a ≡ Ok c → b ≡ Ok o → TargetsTo a (x fs) gs → TypesTo (as_operand k.source b) (y gs) hs → ((d : D.Target) → StandsFor c d → Gives r (step_value k at op d (operand_of k.source o))) → TypesTo r (Y.stepped k at op x y fs) hs
stepped-types k at op x y fs gs hs a b c o r e f p q g = sides-fine k.source x y (step_value k at op) fs gs hs a b c o r e f p q g

pub ruleset stepping = (stepped-stops, stepped-types, narrow-target, narrow-operand)

-- what is given to a loop's variable
pub step-stops : (k : Context) (at : ℕ) (op : AssignmentOperator) (d : D.Target) (o : Operand) (h : Halt) → HaltsBy h (reason (no_stream k.source o)) → Gives {A = Expr} (Err h) (step_value k at op d o)
step-stops k at op d o h p = where-stops (no_stream k.source o) (λ q. assigned_by k at op d q) h p

pub step-gives : (k : Context) (at : ℕ) (op : AssignmentOperator) (d : D.Target) (o q : Operand) (r : Result Expr Halt) → Gives (Ok q) (no_stream k.source o) → Gives r (assigned_by k at op d q) → Gives r (step_value k at op d o)
step-gives k at op d o q r p g = subst (λ (c : Checked Operand). Gives r (where_whole c (λ p. assigned_by k at op d p))) (sym p) g

pub ruleset valuing = (step-stops, step-gives)

-- a name that is counted
pub counted-types : (k : Context) (name : ℕ) (op : StepOperator) (at : ℕ) (ss : List Select) (fs gs : List Function) (r : Result Stmt Halt)
    → TypesTo r (W.assigned k at (step_operator op) (W.path_of_name k true name ss) (whole (one k at)) fs) gs → TypesTo r (S.counted k name op at ss fs) gs
counted-types k name op at ss fs gs r h =
    let f : D.Target → Operand → Typing Stmt = λ t o. rule (assignment k at (step_operator op) t o) in
    then-types (named_target_of k true (simple_name name) ss) ToPath (λ t. f t (one k at)) fs gs r (beside-whole (W.path_of_name k true name ss) (one k at) f fs gs r h)

-- a loop's variable that is counted
pub step-counts : (k : Context) (o : Option LocalId) (name : ℕ) (op : StepOperator) (at : ℕ) (fs gs : List Function) (r : Result Expr Halt) → TypesTo r (Y.stepped k at (step_operator op) (S.loop_target k o name) (whole (one k at)) fs) gs
    → TypesTo r (Y.counted_of k o name op at fs) gs
step-counts k o name op at fs gs r h =
    let f : D.Target → Operand → Typing Expr = λ t o. rule (step_value k at (step_operator op) t o) in
    beside-whole (S.loop_target k o name) (one k at) f fs gs r h
