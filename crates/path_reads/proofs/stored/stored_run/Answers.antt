use Rattle.v_tree.specs.declared.names.Helper.{Helper}
use Rattle.v_tree.specs.declared.names.HelperKind.TheVariants.{TwoState}
use Rattle.v_tree.specs.Printing.{helper_text}
use Rattle.v_meaning.specs.Values.{meaning}
use Rattle.path_flatten.proofs.Naming.{like-call, like-then}
use Rattle.path_reads.proofs.Running.{one-four, one-two}
use Rattle.path_reads.proofs.stored.stored_run.Goals as goal

pub returns-in_ok-made-clause-stores : goal.returns-in_ok-made-clause-stores
returns-in_ok-made-clause-stores c =
    one-two (meaning c.args.of.now) c.args.run c.cut_run.new.helpers c.two_state_bits.new.helpers (meaning c.in_ok-bits.bits) (meaning c.in_ok-made.made) c.if-run.true
    c.in_ok-bits.ensures.cuts c.in_ok-made.ensures.grows c.in_ok-made.ensures.calls

pub returns-in_ok-made-clause-names : goal.returns-in_ok-made-clause-names
returns-in_ok-made-clause-names c =
    let bits = meaning c.in_ok-bits.bits in
    let h : Helper = record { kind = TwoState; width = c.args.run.bits } in
    like-then (meaning c.args.of.now) bits (meaning c.in_ok-made.made) c.in_ok-bits.ensures.names (like-call (helper_text h) bits (meaning c.in_ok-made.made) c.in_ok-made.ensures.calls.is)

pub returns-else-run-clause-stores : goal.returns-else-run-clause-stores
returns-else-run-clause-stores c = one-four (meaning c.args.of.now) c.args.run c.cut_run.new.helpers (meaning c.in_ok-bits.bits) c.if-run.false c.in_ok-bits.ensures.cuts
