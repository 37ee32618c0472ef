use Rattle.std.proofs.Common.{ap, subst}
use Rattle.v_meaning.specs.Values as T
use Rattle.v_build.specs.Trees.{meanings}
use Rattle.expr_lower.specs.Numbers.{IsNumber}
use Rattle.expr_lower.proofs.Built as B
use Rattle.expr_lower.proofs.Forms as F
use Rattle.expr_lower.proofs.Values as N
use Rattle.expr_lower.proofs.combining.combine.Goals as goal

pub returns-in_ok-unary-in-Unary : goal.returns-in_ok-unary-in-Unary
returns-in_ok-unary-in-Unary c = λ names fs hs.
    F.combines-Unary c.args.e.now _ _ names fs hs c.args.width c.args.signed (meanings c.args.parts) _ _ c.in-Unary.is (ap meanings c.one.ensures) c.in_ok-unary-in-Unary.ensures

pub returns-in_ok-reduced-in-Reduce : goal.returns-in_ok-reduced-in-Reduce
returns-in_ok-reduced-in-Reduce c = λ names fs hs.
    F.combines-Reduce c.args.e.now _ _ names fs hs c.args.width c.args.signed (meanings c.args.parts) _ _ c.in-Reduce.is (ap meanings c.one-in-Reduce.ensures) c.in_ok-reduced-in-Reduce.ensures

pub returns-in_ok-negated-in-Negate : goal.returns-in_ok-negated-in-Negate
returns-in_ok-negated-in-Negate c = λ names fs hs.
    F.combines-Negate c.args.e.now _ names fs hs c.args.width c.args.signed (meanings c.args.parts) _ _ c.in-Negate.is (ap meanings c.one-in-Negate.ensures) c.in_ok-negated-in-Negate.ensures

pub returns-in_ok-binary-in-Binary : goal.returns-in_ok-binary-in-Binary
returns-in_ok-binary-in-Binary c = λ names fs hs.
    F.combines-Binary c.args.e.now _ _ _ names fs hs c.args.width c.args.signed (meanings c.args.parts) _ _ _ c.in-Binary.is (ap meanings c.two-both.ensures) c.in_ok-binary-in-Binary.ensures

pub returns-in_ok-shifted-in-Shift : goal.returns-in_ok-shifted-in-Shift
returns-in_ok-shifted-in-Shift c = λ names fs hs.
    F.combines-Shift c.args.e.now _ _ _ names fs hs c.args.width c.args.signed (meanings c.args.parts) _ _ _ c.in-Shift.is (ap meanings c.two-both-in-Shift.ensures) c.in_ok-shifted-in-Shift.ensures

pub returns-in_ok-power-in-Power : goal.returns-in_ok-power-in-Power
returns-in_ok-power-in-Power c = λ names fs hs.
    F.combines-Power c.args.e.now _ _ names fs hs c.args.width c.args.signed (meanings c.args.parts) _ _ _ c.in-Power.is (ap meanings c.two-both-in-Power.ensures) c.in_ok-power-in-Power.ensures

pub returns-in_ok-ordered-in-Order : goal.returns-in_ok-ordered-in-Order
returns-in_ok-ordered-in-Order c = λ names fs hs.
    F.combines-Order c.args.e.now _ _ _ names fs hs c.args.width c.args.signed (meanings c.args.parts) _ _ _ c.in-Order.is (ap meanings c.two-both-in-Order.ensures) c.in_ok-ordered-in-Order.ensures

pub is_exact-exact-requires : goal.is_exact-exact-requires
is_exact-exact-requires c = λ wild. B.special-Wild c.args.e.now _ _ _ _ c.in-Equal.is wild c.requires.plain

pub returns-in_ok-equal-in-Equal : goal.returns-in_ok-equal-in-Equal
returns-in_ok-equal-in-Equal c = λ names fs hs.
    F.combines-Equal c.args.e.now _ _ _ _ _ names fs hs c.args.width c.args.signed (meanings c.args.parts) _ _ _ c.in-Equal.is (ap meanings c.two-both-in-Equal.ensures) c.is_exact-exact.ensures c.in_ok-equal-in-Equal.ensures (λ wild. B.special-Wild c.args.e.now _ _ _ _ c.in-Equal.is wild c.requires.plain)

pub returns-in_ok-conjunction-in-Both : goal.returns-in_ok-conjunction-in-Both
returns-in_ok-conjunction-in-Both c = λ names fs hs.
    F.combines-Both c.args.e.now _ _ names fs hs c.args.width c.args.signed (meanings c.args.parts) _ _ _ c.in-Both.is (ap meanings c.two-both-in-Both.ensures) c.in_ok-conjunction-in-Both.ensures

pub returns-in_ok-disjunction-in-Either : goal.returns-in_ok-disjunction-in-Either
returns-in_ok-disjunction-in-Either c = λ names fs hs.
    F.combines-Either c.args.e.now _ _ names fs hs c.args.width c.args.signed (meanings c.args.parts) _ _ _ c.in-Either.is (ap meanings c.two-both-in-Either.ensures) c.in_ok-disjunction-in-Either.ensures

pub returns-in_ok-chosen-in-Choose : goal.returns-in_ok-chosen-in-Choose
returns-in_ok-chosen-in-Choose c = λ names fs hs.
    F.combines-Choose c.args.e.now _ _ _ names fs hs c.args.width c.args.signed (meanings c.args.parts) _ _ _ _ c.in-Choose.is (ap meanings c.three-all.ensures) c.in_ok-chosen-in-Choose.ensures

pub returns-in-Concat : goal.returns-in-Concat
returns-in-Concat c = λ names fs hs. F.combines-Concat c.args.e.now _ names fs hs c.args.width c.args.signed (meanings c.args.parts) _ c.in-Concat.is c.concatenation.ensures

pub returns-in-Repeat : goal.returns-in-Repeat
returns-in-Repeat c = λ names fs hs. F.combines-Repeat c.args.e.now _ _ names fs hs c.args.width c.args.signed (meanings c.args.parts) _ c.in-Repeat.is c.repetition.ensures

pub returns-in_ok-literal-in-Literal : goal.returns-in_ok-literal-in-Literal
returns-in_ok-literal-in-Literal c = λ names fs hs.
    N.combines-number c.args.e.now _ _ names fs hs c.args.width c.args.signed (meanings c.args.parts) _ _ _ c.in-Literal.is
    (subst (IsNumber (T.meaning c.in_ok-plain-in-Literal.plain)) c.in_ok-value-in-Literal.ensures c.in_ok-plain-in-Literal.ensures) c.in_ok-literal-in-Literal.ensures c.own_sign.ensures

pub returns-in_ok-fill-in-Fill : goal.returns-in_ok-fill-in-Fill
returns-in_ok-fill-in-Fill c = λ names fs hs.
    N.combines-Fill c.args.e.now _ names fs hs c.args.width c.args.signed (meanings c.args.parts) _ c.in-Fill.is
    (subst (IsNumber (T.meaning c.in_ok-fill-in-Fill.fill)) c.in_ok-bits-in-Fill.ensures c.in_ok-fill-in-Fill.ensures)

pub returns-in_ok-constant-in-Constant : goal.returns-in_ok-constant-in-Constant
returns-in_ok-constant-in-Constant c = λ names fs hs.
    N.combines-Constant c.args.e.now _ names fs hs c.args.width c.args.signed (meanings c.args.parts) _ _ _ c.in-Constant.is
    (subst (IsNumber (T.meaning c.in_ok-plain-in-Constant.plain)) c.in_ok-bits-in-Constant.ensures c.in_ok-plain-in-Constant.ensures) c.in_ok-constant-in-Constant.ensures c.own_sign-in-Constant.ensures
