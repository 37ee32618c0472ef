-- Variables of loops.
use Rattle.std.proofs.Common.{◌≡◌, ◌≤◌, List, Option, Some, None, refl, sym, subst}
use Rattle.std.specs.Prelude.{Result, Ok, Err, IfOk}
use Rattle.sv_tree.specs.declared.statements.LoopStart.{LoopStart}
use Rattle.sv_types.specs.declared.expression.Expr.{Expr}
use Rattle.sv_types.specs.declared.statement.Function.{Function}
use Rattle.sv_types.specs.declared.types.SvType.{SvType}
use Rattle.expr_type.specs.declared.halt.Halt.{Halt}
use Rattle.expr_type.specs.declared.halt.Halt.TheVariants as H
use Rattle.expr_type.specs.Answers.{Gives}
use Rattle.expr_type.specs.Breaks.{Quiet}
use Rattle.expr_type.specs.Expressions.{operand}
use Rattle.expr_type.specs.Names as N
use Rattle.expr_type.specs.Names.{Context, LocalId}
use Rattle.expr_type.specs.Operands.{Operand}
use Rattle.expr_type.specs.Statements as D
use Rattle.expr_type.specs.Types.{TypeFound}
use Rattle.expr_type.specs.Typings.{Typing, broken, rule, whole}
use Rattle.pattern_types.specs.declared.operand.Operand as O
use Rattle.pattern_types.specs.declared.operand.Item as J
use Rattle.stmt_forms.specs.Loops.{NarrowPlain}
use Rattle.sv_types.specs.Layouts.{width_of}
use Rattle.typing_parts.specs.Typists.{IsNarrowOperand}
use Rattle.typing_steps.specs.Steps.{TypesTo}
use Rattle.typing_steps.proofs.Combining.{checked-fine, checked-stops, rule-types}
use Rattle.typing_calls.specs.Lists.{as_meant}
use Rattle.typing_declarations.specs.declared.turns.LoopVariable.{LoopVariable}
use Rattle.typing_declarations.specs.Loops.{variable_of}
use Rattle.typing_declarations.specs.Variables.{GivenFirst, VariableAt}
use Rattle.typing_sides.specs.Sides.{known_of}
use Rattle.typing_sides.proofs.Together.{by-both-fine, by-both-stops}

-- a value of at most 2^22 bits
abbrev narrow_by : O.Operand-F O.Operand J.Item → Type 0
narrow_by (O.Operand-F.Plain v) = width_of v.expr.of ≤ 4194304
narrow_by (O.Operand-F.Pattern tick times items) = Unit {0}
narrow_by (O.Operand-F.Stream v) = width_of v.expr.of ≤ 65536

abbrev plain_by : O.Operand-F O.Operand J.Item → Type 0
plain_by (O.Operand-F.Plain v) = width_of v.expr.of ≤ 4194304
plain_by (O.Operand-F.Pattern tick times items) = Unit {0}
plain_by (O.Operand-F.Stream v) = Unit {0}

by-form : (w : O.Operand-F O.Operand J.Item) → narrow_by w → plain_by w
by-form (O.Operand-F.Plain v) n = n
by-form (O.Operand-F.Pattern tick times items) n = tt
by-form (O.Operand-F.Stream v) n = tt

pub narrow-plain : (o : O.Operand) → IsNarrowOperand o → NarrowPlain o
narrow-plain o n = by-form (O.out-Operand o) n

-- a type that is whole
pub short-found : (of : Result TypeFound Halt) (f : TypeFound) (t : SvType) → of ≡ Ok f → f.of ≡ t → IfOk of (λ (g : TypeFound). width_of g.of ≤ 65536) → width_of t ≤ 65536
short-found of f t is same n = subst (λ (u : SvType). width_of u ≤ 65536) same (subst (λ (r : Result TypeFound Halt). IfOk r (λ (g : TypeFound). width_of g.of ≤ 65536)) is n)

pub given-found : (k : Context) (of : Result TypeFound Halt) (f : TypeFound) (t : SvType) (o : Operand) (r : Result Expr Halt) → of ≡ Ok f → f.of ≡ t → Gives r (D.loop_first k t o) → GivenFirst k of o r
given-found k of f t o r is same g = subst (λ (x : Result TypeFound Halt). GivenFirst k x o r) (sym is) (subst (λ (u : SvType). Gives r (D.loop_first k u o)) (sym same) g)

-- the first value
pub first-stops : (k : Context) (l : LoopStart) (o : Option TypeFound) (fs gs : List Function) (h : Halt) → TypesTo {A = Operand} (Err h) (operand k l.value fs) gs → TypesTo {A = Expr} (Err h) (D.first_by k l o fs) gs
first-stops k l None fs gs h p = checked-stops (operand k l.value) (λ o. broken Quiet) fs gs h p
first-stops k l (Some f) fs gs h p = checked-stops (operand k l.value) (λ o. rule (D.loop_first k f.of o)) fs gs h p

pub first-types : (k : Context) (l : LoopStart) (of : Result TypeFound Halt) (fs gs : List Function) (o : Operand) (r : Result Expr Halt) → TypesTo (Ok o) (operand k l.value fs) gs → GivenFirst k of o r
    → TypesTo r (D.first_by k l (known_of of) fs) gs
first-types k l (Ok f) fs gs o r p g = checked-fine (operand k l.value) (λ u. rule (D.loop_first k f.of u)) fs gs gs o r p (rule-types r (D.loop_first k f.of o) gs g)
first-types k l (Err h) fs gs o r p g =
    subst (λ (z : Result Expr Halt). TypesTo z (D.first_by k l None fs) gs) (sym g) (checked-fine (operand k l.value) (λ u. broken Quiet) fs gs gs o (Err H.Quiet) p (record { quiet = refl; functions = refl }))

pub ruleset firsts = (first-stops, first-types)

-- the variable
abbrev made_variable : Context → LoopStart → TypeFound → Expr → Typing D.LoopVariable
made_variable k l f e = whole (record { id = N.local_id k l.name f.of; first = e })

pub variable-types : (k : Context) (l : LoopStart) (fs gs hs : List Function) (of : Result TypeFound Halt) (first : Result Expr Halt) (r : Result LoopVariable Halt) → VariableAt k l.name of first r
    → TypesTo of (D.loop_type k l fs) gs → TypesTo first (D.first_by k l (known_of of) gs) hs → TypesTo (as_meant variable_of r) (D.loop_variable k l fs) hs
variable-types k l fs gs hs of first (Err h) s p q = by-both-stops (D.loop_type k l) (D.first_by k l) (made_variable k l) fs gs hs of first h s p q
variable-types k l fs gs hs of first (Ok v) s p q =
    let f = s.0 in
    let it : TypesTo (Ok f) (D.loop_type k l fs) gs = subst (λ (z : Result TypeFound Halt). TypesTo z (D.loop_type k l fs) gs) s.1 p in
    let e : TypesTo (Ok v.first) (D.first_by k l (Some f) gs) hs =
    subst (λ (z : Result Expr Halt). TypesTo z (D.first_by k l (Some f) gs) hs) s.2 (subst (λ (z : Result TypeFound Halt). TypesTo first (D.first_by k l (known_of z) gs) hs) s.1 q) in
    by-both-fine (D.loop_type k l) (D.first_by k l) (made_variable k l) fs gs hs f v.first (Ok (variable_of v)) it e
    (subst (λ (i : LocalId). TypesTo (Ok (variable_of v)) (whole (variable i) hs) hs) s.3 refl)
  where
    variable : LocalId → D.LoopVariable
    variable i = record { id = i; first = v.first }
