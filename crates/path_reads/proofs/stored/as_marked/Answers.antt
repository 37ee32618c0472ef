use Rattle.std.proofs.Common.{arith}
use Rattle.v_meaning.specs.Values.{meaning}
use Rattle.path_flatten.proofs.Naming.{like-itself, like-call}
use Rattle.path_reads.proofs.Running.{marked-four, marked-two}
use Rattle.path_reads.proofs.stored.as_marked.Goals as goal

pub returns-then-are_all-clause-stores : goal.returns-then-are_all-clause-stores
returns-then-are_all-clause-stores c = marked-four (meaning c.args.of) c.args.marks.now c.args.helpers.now (c.are_all.ensures.all c.if-are_all.true)

pub returns-then-are_all-clause-names : goal.returns-then-are_all-clause-names
returns-then-are_all-clause-names c = like-itself (meaning c.args.of)

pub returns-in_ok-made-clause-stores : goal.returns-in_ok-made-clause-stores
returns-in_ok-made-clause-stores c =
    marked-two (meaning c.args.of) c.args.marks.now _ c.two_state_bits.new.helpers (meaning c.in_ok-made.made) (c.are_all-else-are_all.ensures.all c.if-are_all-2.true) (omega arith) c.in_ok-made.ensures.calls

pub returns-in_ok-made-clause-names : goal.returns-in_ok-made-clause-names
returns-in_ok-made-clause-names c = like-call _ (meaning c.args.of) (meaning c.in_ok-made.made) c.in_ok-made.ensures.calls.is
