-- Two things in the order of the text, as steps of typing.
use Rattle.std.proofs.Common.{◌≡◌, List, Option, Some, refl, ap, ◌∙◌, subst}
use Rattle.std.specs.Prelude.{Result, Ok, Err, Vec}
use Rattle.std.specs.declared.alloc.Global.{Global}
use Rattle.sv_types.specs.declared.statement.Function.{Function}
use Rattle.expr_type.specs.declared.halt.Halt.{Halt}
use Rattle.expr_type.specs.Answers.{Gives}
use Rattle.expr_type.specs.Names.{Source}
use Rattle.expr_type.specs.Operands.{Operand}
use Rattle.expr_type.specs.Targets as D
use Rattle.expr_type.specs.Typings.{Checked, Typed, Typing, beside, both, rule}
use Rattle.pattern_types.specs.Meaning.{operand_of}
use Rattle.pattern_types.specs.declared.operand.Operand as O
use Rattle.typing_steps.specs.Steps.{TypesTo}
use Rattle.typing_steps.proofs.Combining.{beside-fine, checked-fine, checked-stops, rule-types}
use Rattle.typing_parts.specs.Operands.{as_operand}
use Rattle.typing_parts.specs.Typists.{IsNarrowOperand, NarrowIfOk}
use Rattle.typing_assigns.specs.declared.target.Target.{Target}
use Rattle.typing_assigns.specs.Parts.{IsNarrowTarget, NarrowTarget}
use Rattle.typing_assigns.specs.Targets.{StandsFor, TargetsTo}
use Rattle.typing_calls.specs.Lists.{all_meant}
use Rattle.typing_sides.specs.Sides.{first_stop, stop}
use Rattle.typing_sides.proofs.Together.{beside-stops}

-- what a thing means stops by the same
pub operand-stop : (k : Source) (b : Result O.Operand Halt) → stop (as_operand k b) ≡ stop b
operand-stop k (Ok o) = refl
operand-stop k (Err h) = refl

pub meant-stop : {A B : Type 0} (f : A → B) (b : Result (Vec A Global) Halt) → stop (all_meant f b) ≡ stop b
meant-stop f (Ok v) = refl
meant-stop f (Err h) = refl

-- a target that stands for one of the definitions
abbrev for_one : (a : Result Target Halt) (t : Typed D.Target) (fs : List Function) → TargetsTo a t fs → Result D.Target Halt
for_one (Ok c) t fs p = Ok p.target
for_one (Err h) t fs p = Err h

for-type : (a : Result Target Halt) (t : Typed D.Target) (fs : List Function) (p : TargetsTo a t fs) → TypesTo (for_one a t fs p) t fs
for-type (Ok c) t fs p = p.gives
for-type (Err h) t fs p = p

for-stop : (a : Result Target Halt) (t : Typed D.Target) (fs : List Function) (p : TargetsTo a t fs) → stop (for_one a t fs p) ≡ stop a
for-stop (Ok c) t fs p = refl
for-stop (Err h) t fs p = refl

pub sides-stop : {B : Type 0} (k : Source) (x : Typing D.Target) (y : Typing Operand) (f : D.Target → Operand → Typing B) (fs gs hs : List Function) (a : Result Target Halt) (b : Result O.Operand Halt) (h : Halt)
    → first_stop (stop a) (stop b) ≡ Some h → TargetsTo a (x fs) gs → TypesTo (as_operand k b) (y gs) hs → TypesTo {A = B} (Err h) (both x y f fs) hs
sides-stop k x y f fs gs hs a b h s p q =
    let t = x fs in
    let e = ap (λ (o : Option Halt). first_stop o (stop (as_operand k b))) (for-stop a t gs p) ∙ ap (first_stop (stop a)) (operand-stop k b) ∙ s in
    checked-stops (beside x y) (λ z. f z.0 z.1) fs hs h (beside-stops x y fs gs hs (for_one a t gs p) (as_operand k b) h e (for-type a t gs p) q)

pub sides-fine : {B : Type 0} (k : Source) (x : Typing D.Target) (y : Typing Operand) (f : D.Target → Operand → Checked B) (fs gs hs : List Function) (a : Result Target Halt) (b : Result O.Operand Halt) (c : Target) (o : O.Operand) (r : Result B Halt)
    → a ≡ Ok c → b ≡ Ok o → TargetsTo a (x fs) gs → TypesTo (as_operand k b) (y gs) hs → ((d : D.Target) → StandsFor c d → Gives r (f d (operand_of k o))) → TypesTo r (both x y (λ t v. rule (f t v)) fs) hs
sides-fine k x y f fs gs hs a b c o r e g p q h =
    let it : TargetsTo (Ok c) (x fs) gs = subst (λ (z : Result Target Halt). TargetsTo z (x fs) gs) e p in
    let v : TypesTo (Ok (operand_of k o)) (y gs) hs = subst (λ (z : Result O.Operand Halt). TypesTo (as_operand k z) (y gs) hs) g q in
    checked-fine (beside x y) (λ z. rule (f z.0 z.1)) fs hs hs (it.target, operand_of k o) r (beside-fine x y fs gs hs it.target (operand_of k o) it.gives v)
    (rule-types r (f it.target (operand_of k o)) hs (h it.target it.stands))

pub narrow-target : (a : Result Target Halt) (c : Target) → a ≡ Ok c → NarrowTarget a → IsNarrowTarget c
narrow-target a c e n = subst NarrowTarget e n

pub narrow-operand : (b : Result O.Operand Halt) (o : O.Operand) → b ≡ Ok o → NarrowIfOk b → IsNarrowOperand o
narrow-operand b o e n = subst NarrowIfOk e n

pub ruleset narrows = (narrow-target, narrow-operand)
