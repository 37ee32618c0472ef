use Rattle.std.proofs.Common.{length, refl, arith, sym, ap, subst, ◌≡◌, ◌<◌, slice_set, ◌∙◌}
use Rattle.round_runner.specs.Stores.{Changed}
use Rattle.round_runner_tests.specs.Netlists.{assigned}
use Rattle.round_runner_tests.proofs.Assigned.{one_bit, bit_assigned}
use Rattle.round_runner_tests.proofs.netlist.assign.Goals as goal

pub put-requires : goal.put-requires
put-requires c =
    let one = one_bit c.args.store.now (length c.args.store.now) c.args.to c.index-store-to.result c.requires.shape c.requires.there refl c.index-store-to.is in
    let same : length c.index-store-to.result ≡ 1 = one in
    subst (λ v. 0 < length v) c.index-store-to.is (omega (arith, same))

pub returns-then-on : goal.returns-then-on
returns-then-on c =
    subst (λ on. Changed (assigned c.args.to on c.args.bit) c.args.store.now (slice_set c.args.store.now c.args.to c.put.new.self)) (sym c.if-on.true)
    (bit_assigned c.args.store.now c.args.to c.args.bit c.index-store-to.result c.put.new.self c.requires.there c.requires.shape c.index-store-to.is (c.put.ensures ∙ ap (λ v. slice_set v 0 c.args.bit) (sym c.index-store-to.is)))
