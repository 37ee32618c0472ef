use Rattle.std.proofs.Common.{◌≡◌, List, Result, Ok, IfOk, sym, ◌∙◌, subst}
use Rattle.std.specs.declared.alloc.AllocError.{AllocError}
use Rattle.target_flatten.specs.declared.writes.Write.{Write}
use Rattle.target_flatten.specs.Owning.{AllOwn}
use Rattle.target_walk.specs.declared.given.Given.{Given}
use Rattle.target_walk.specs.Naming.{NamesFrom}
use Rattle.case_targets.specs.Naming.{givens_for, NamesEach, PlainOf, SpreadsTo, BareOf}
use Rattle.case_targets.specs.Spreading.{Spreads}
use Rattle.case_targets.proofs.Making.{if-ok}
use Rattle.case_targets.proofs.Naming.{spread-named, spread-bare}
use Rattle.case_targets.proofs.spread.spread_target.Goals as goal

pub returns-clause-writes : goal.returns-clause-writes
returns-clause-writes c =
    let bits = c.args.bits in
    let e = c.args.e.now in
    let ps = c.args.indices.now in
    let gs = c.as_slice.result.now in
    let xs : List Write = c.in_ok-givens.writes in
    let spreads = subst (λ (r : Result (List Write) AllocError). IfOk r (Spreads bits e ps)) c.in_ok-givens.ensures.1 c.spread-writes.ensures.writes in
    let names = subst (λ (r : Result (List Write) AllocError). IfOk r (NamesEach bits e ps)) c.in_ok-givens.ensures.1 c.spread-writes.ensures.names in
    let same : gs ≡ givens_for ps = c.as_slice.ensures ∙ subst (λ (r : Result (List Given) AllocError). IfOk r (λ l. l ≡ givens_for ps)) c.in_ok-givens.ensures.0 c.givens_of.ensures in
    if-ok (NamesFrom gs (Ok xs)) (SpreadsTo bits e ps) c.with_names.result c.with_names.ensures.names (λ r from. spread-named bits e ps gs xs r spreads names same from)

pub returns-clause-own : goal.returns-clause-own
returns-clause-own c =
    let bits = c.args.bits in
    let name = c.args.name.now in
    let gs = c.as_slice.result.now in
    let xs : List Write = c.in_ok-givens.writes in
    let own = subst (λ (r : Result (List Write) AllocError). IfOk r (AllOwn name bits)) c.in_ok-givens.ensures.1 c.spread-writes.ensures.own in
    if-ok (NamesFrom gs (Ok xs)) (λ r. AllOwn name bits r.writes) c.with_names.result c.with_names.ensures.names (λ r from. subst (AllOwn name bits) (sym from.0) own)

pub returns-clause-plain : goal.returns-clause-plain
returns-clause-plain c =
    let name = c.args.name.now in
    let ps = c.args.indices.now in
    let gs = c.as_slice.result.now in
    let xs : List Write = c.in_ok-givens.writes in
    let plain = subst (λ (r : Result (List Write) AllocError). IfOk r (PlainOf name ps)) c.in_ok-givens.ensures.1 c.spread-writes.ensures.plain in
    let same : gs ≡ givens_for ps = c.as_slice.ensures ∙ subst (λ (r : Result (List Given) AllocError). IfOk r (λ l. l ≡ givens_for ps)) c.in_ok-givens.ensures.0 c.givens_of.ensures in
    spread-bare name ps gs xs c.with_names.result plain same c.with_names.ensures.names c.with_names.ensures.bare
