use Rattle.std.proofs.Common.{◌≤◌, arith, sym, subst}
use Rattle.sv_types.specs.Layouts.{layout}
use Rattle.sv_types.specs.Operators.{parts_of}
use Rattle.sv_types.specs.Expressions.{meaning}
use Rattle.sv_types.proofs.Widths.{wide-widest}
use Rattle.eval_parts.specs.Targets.{marks_of_parts}
use Rattle.eval_parts.proofs.TypeKinds.{wide-is}
use Rattle.eval_forms.specs.Narrow.{AllNarrowOperands, AllNarrowAt, AllChoicesNarrow}
use Rattle.eval_forms.proofs.Narrowness as N
use Rattle.eval_forms.proofs.asking.operands.Goals as goal

pub alone-requires : goal.alone-requires
alone-requires c = subst (λ q. (meaning q).widest ≤ 4194304) (sym c.get-in-Index-2.ensures) (N.narrow-Index-y c.args.e.now _ _ c.in-Index.is c.requires.narrow)

pub alone-requires-in-Slide : goal.alone-requires-in-Slide
alone-requires-in-Slide c = subst (λ q. (meaning q).widest ≤ 4194304) (sym c.get-in-Slide-2.ensures) (N.narrow-Slide-y c.args.e.now _ _ _ _ c.in-Slide.is c.requires.narrow)

pub alone-requires-in-Reduce : goal.alone-requires-in-Reduce
alone-requires-in-Reduce c = subst (λ q. (meaning q).widest ≤ 4194304) (sym c.get-in-Reduce.ensures) (N.narrow-Reduce-x c.args.e.now _ _ c.in-Reduce.is c.requires.narrow)

pub alone-requires-in-Negate : goal.alone-requires-in-Negate
alone-requires-in-Negate c = subst (λ q. (meaning q).widest ≤ 4194304) (sym c.get-in-Negate.ensures) (N.narrow-Negate-x c.args.e.now _ c.in-Negate.is c.requires.narrow)

pub alone-requires-in-Shift : goal.alone-requires-in-Shift
alone-requires-in-Shift c = subst (λ q. (meaning q).widest ≤ 4194304) (sym c.get-in-Shift-2.ensures) (N.narrow-Shift-y c.args.e.now _ _ _ c.in-Shift.is c.requires.narrow)

pub alone-requires-in-Power : goal.alone-requires-in-Power
alone-requires-in-Power c = subst (λ q. (meaning q).widest ≤ 4194304) (sym c.get-in-Power-2.ensures) (N.narrow-Power-y c.args.e.now _ _ c.in-Power.is c.requires.narrow)

pub compared-requires-clause-left : goal.compared-requires-clause-left
compared-requires-clause-left c = subst (λ q. (meaning q).widest ≤ 4194304) (sym c.get-in-Order.ensures) (N.narrow-Order-x c.args.e.now _ _ _ c.in-Order.is c.requires.narrow)

pub compared-requires-clause-right : goal.compared-requires-clause-right
compared-requires-clause-right c = subst (λ q. (meaning q).widest ≤ 4194304) (sym c.get-in-Order-2.ensures) (N.narrow-Order-y c.args.e.now _ _ _ c.in-Order.is c.requires.narrow)

pub compared-requires-in-Equal-clause-left : goal.compared-requires-in-Equal-clause-left
compared-requires-in-Equal-clause-left c = subst (λ q. (meaning q).widest ≤ 4194304) (sym c.get-in-Equal.ensures) (N.narrow-Equal-x c.args.e.now _ _ _ _ c.in-Equal.is c.requires.narrow)

pub compared-requires-in-Equal-clause-right : goal.compared-requires-in-Equal-clause-right
compared-requires-in-Equal-clause-right c = subst (λ q. (meaning q).widest ≤ 4194304) (sym c.get-in-Equal-2.ensures) (N.narrow-Equal-y c.args.e.now _ _ _ _ c.in-Equal.is c.requires.narrow)

pub alone-requires-in-Both : goal.alone-requires-in-Both
alone-requires-in-Both c = subst (λ q. (meaning q).widest ≤ 4194304) (sym c.get-in-Both.ensures) (N.narrow-Both-x c.args.e.now _ _ c.in-Both.is c.requires.narrow)

pub alone-requires-in-Both-2 : goal.alone-requires-in-Both-2
alone-requires-in-Both-2 c = subst (λ q. (meaning q).widest ≤ 4194304) (sym c.get-in-Both-2.ensures) (N.narrow-Both-y c.args.e.now _ _ c.in-Both.is c.requires.narrow)

pub alone-requires-in-Either : goal.alone-requires-in-Either
alone-requires-in-Either c = subst (λ q. (meaning q).widest ≤ 4194304) (sym c.get-in-Either.ensures) (N.narrow-Either-x c.args.e.now _ _ c.in-Either.is c.requires.narrow)

pub alone-requires-in-Either-2 : goal.alone-requires-in-Either-2
alone-requires-in-Either-2 c = subst (λ q. (meaning q).widest ≤ 4194304) (sym c.get-in-Either-2.ensures) (N.narrow-Either-y c.args.e.now _ _ c.in-Either.is c.requires.narrow)

pub alone-requires-in-Choose : goal.alone-requires-in-Choose
alone-requires-in-Choose c = subst (λ q. (meaning q).widest ≤ 4194304) (sym c.get-in-Choose.ensures) (N.narrow-Choose-z c.args.e.now _ _ _ c.in-Choose.is c.requires.narrow)

pub alone-requires-in-Cast : goal.alone-requires-in-Cast
alone-requires-in-Cast c = subst (λ q. (meaning q).widest ≤ 4194304) (sym c.get-in-Cast.ensures) (N.narrow-Cast-x c.args.e.now _ c.in-Cast.is c.requires.narrow)

pub alone-requires-in-Clog2 : goal.alone-requires-in-Clog2
alone-requires-in-Clog2 c = subst (λ q. (meaning q).widest ≤ 4194304) (sym c.get-in-Clog2.ensures) (N.narrow-Clog2-x c.args.e.now _ c.in-Clog2.is c.requires.narrow)

pub all_alone-requires : goal.all_alone-requires
all_alone-requires c = subst (AllNarrowOperands) (sym c.as_slice.ensures) (N.narrow-Concat c.args.e.now _ c.in-Concat.is c.requires.narrow)

pub all_alone-requires-in-Repeat : goal.all_alone-requires-in-Repeat
all_alone-requires-in-Repeat c = subst (AllNarrowOperands) (sym c.as_slice-in-Repeat.ensures) (N.narrow-Repeat c.args.e.now _ _ c.in-Repeat.is c.requires.narrow)

pub inside-requires-clause-left : goal.inside-requires-clause-left
inside-requires-clause-left c = subst (λ q. (meaning q).widest ≤ 4194304) (sym c.get-in-Inside.ensures) ((N.narrow-Inside c.args.e.now _ _ c.in-Inside.is c.requires.narrow).0)

pub inside-requires-clause-right : goal.inside-requires-clause-right
inside-requires-clause-right c = subst (AllChoicesNarrow) (sym c.as_slice-in-Inside.ensures) ((N.narrow-Inside c.args.e.now _ _ c.in-Inside.is c.requires.narrow).1)

pub all_assigned-requires-clause-places : goal.all_assigned-requires-clause-places
all_assigned-requires-clause-places c = let h = wide-widest c.args.e.now in let g = wide-is c.args.e.now in (c.requires.some, omega (arith, c.requires.narrow))

pub all_assigned-requires-clause-narrow : goal.all_assigned-requires-clause-narrow
all_assigned-requires-clause-narrow c = subst (AllNarrowAt (marks_of_parts (parts_of (layout c.args.e.now.of)))) (sym c.as_slice-in-Pattern.ensures) (N.narrow-Pattern c.args.e.now _ c.in-Pattern.is c.requires.narrow)

pub called-requires-clause-narrow : goal.called-requires-clause-narrow
called-requires-clause-narrow c = subst (AllNarrowOperands) (sym c.as_slice-in-Call.ensures) (N.narrow-Call c.args.e.now _ _ c.in-Call.is c.requires.narrow)

pub all_alone-requires-in-Stream : goal.all_alone-requires-in-Stream
all_alone-requires-in-Stream c = subst (AllNarrowOperands) (sym c.as_slice-in-Stream.ensures) (N.narrow-Stream c.args.e.now _ _ _ c.in-Stream.is c.requires.narrow)
