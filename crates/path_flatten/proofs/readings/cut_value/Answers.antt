use Rattle.std.proofs.Common.{◌≡◌, pos, arith, rules, refl}
use Rattle.v_meaning.specs.Values.{meaning}
use Rattle.v_tree.specs.Printing.{helper_text}
use Rattle.lowering_laws.specs.Terms as terms
use Rattle.path_flatten.specs.declared.readings.Slice.{Slice}
use Rattle.path_flatten.specs.Selecting.{slicer}
use Rattle.path_flatten.proofs.Selecting.{cut-all, cut-call, call-like}
use Rattle.path_flatten.proofs.Naming.{like-bound-call}
use Rattle.path_flatten.proofs.readings.cut_value.Goals as goal

pub returns-then-n-width-clause-cuts : goal.returns-then-n-width-clause-cuts
returns-then-n-width-clause-cuts c = cut-all (meaning c.args.of) c.args.width c.args.low c.args.n c.args.helpers.now (omega arith) (omega arith)

pub returns-clause-cuts : goal.returns-clause-cuts
returns-clause-cuts c =
    let s : Slice = record { part = c.args.n; of = c.args.width; index = 33 } in
    let m = meaning c.in_ok-made.made in
    let offset : meaning c.in_ok-offset.offset ≡ terms.bound 33 (pos c.args.low) = search rules in
    let call = call-like s (meaning c.args.of) (meaning c.in_ok-offset.offset) (terms.bound 33 (pos c.args.low)) c.select_call.new.helpers m offset c.in_ok-made.ensures.selects in
    cut-call s (meaning c.args.of) c.select_call.new.helpers m c.args.width c.args.low c.args.n refl refl refl (omega arith) call

pub returns-clause-names : goal.returns-clause-names
returns-clause-names c =
    let s : Slice = record { part = c.args.n; of = c.args.width; index = 33 } in
    let m = meaning c.in_ok-made.made in
    let offset : meaning c.in_ok-offset.offset ≡ terms.bound 33 (pos c.args.low) = search rules in
    let call = call-like s (meaning c.args.of) (meaning c.in_ok-offset.offset) (terms.bound 33 (pos c.args.low)) c.select_call.new.helpers m offset c.in_ok-made.ensures.selects in
    like-bound-call (helper_text (slicer s)) (meaning c.args.of) 33 (pos c.args.low) m call.is
