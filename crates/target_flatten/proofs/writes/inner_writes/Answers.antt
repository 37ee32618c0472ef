use Rattle.std.proofs.Common.{◌≡◌, ◌-◌, [], ap, arith, refl, rules, sym, subst}
use Rattle.target_flatten.specs.Owning.{AllOwn, AllPlain}
use Rattle.target_flatten.specs.Writing.{pieces}
use Rattle.target_flatten.proofs.Naming.{no-writes, made-writes}
use Rattle.target_flatten.proofs.Owning.{made-own, made-plain}
use Rattle.target_flatten.proofs.Writing.{inner-none, inner-made}
use Rattle.target_flatten.proofs.writes.inner_writes.Goals as goal

pub returns-then-inner-clause-writes : goal.returns-then-inner-clause-writes
returns-then-inner-clause-writes c =
    let none : c.from_vec.result ≡ [] = search rules in
    inner-none c.args.image.now.bits c.args.spot c.args.inner c.args.image.now.room c.from_vec.result (omega arith) none

pub returns-clause-writes : goal.returns-clause-writes
returns-clause-writes c =
    inner-made c.args.image.now.bits c.args.spot c.inside.result c.args.inner c.args.image.now.room c.first_bit.result (c.args.inner.high - c.args.inner.low) c.in_ok-aim.aim c.in_ok-made.made (omega arith) refl
    c.first_bit.ensures c.inside.ensures.stands c.in_ok-aim.ensures.aims c.in_ok-made.ensures.is

pub returns-then-inner-clause-names : goal.returns-then-inner-clause-names
returns-then-inner-clause-names c =
    let none : c.from_vec.result ≡ [] = search rules in
    no-writes c.args.spot c.from_vec.result (ap pieces none)

pub returns-clause-names : goal.returns-clause-names
returns-clause-names c =
    made-writes c.args.spot c.inside.result c.first_bit.result (c.args.inner.high - c.args.inner.low) c.in_ok-aim.aim c.in_ok-made.made c.inside.ensures.names c.in_ok-aim.ensures.names c.in_ok-made.ensures.makes

pub returns-then-inner-clause-own : goal.returns-then-inner-clause-own
returns-then-inner-clause-own c =
    let none : c.from_vec.result ≡ [] = search rules in
    subst (AllOwn c.args.image.now.name c.args.image.now.bits) (sym none) tt

pub returns-then-inner-clause-plain : goal.returns-then-inner-clause-plain
returns-then-inner-clause-plain c =
    let none : c.from_vec.result ≡ [] = search rules in
    λ h. subst (AllPlain c.args.image.now.name) (sym none) tt

pub returns-clause-own : goal.returns-clause-own
returns-clause-own c =
    made-own c.args.image.now.name c.args.image.now.bits c.first_bit.result (c.args.inner.high - c.args.inner.low) c.in_ok-aim.aim c.in_ok-made.made c.in_ok-made.ensures.is c.in_ok-aim.ensures.own

pub returns-clause-plain : goal.returns-clause-plain
returns-clause-plain c =
    made-plain c.args.image.now.name c.args.spot c.inside.result c.first_bit.result (c.args.inner.high - c.args.inner.low) c.in_ok-aim.aim c.in_ok-made.made c.in_ok-made.ensures.is c.inside.ensures.steady
    c.in_ok-aim.ensures.plain
