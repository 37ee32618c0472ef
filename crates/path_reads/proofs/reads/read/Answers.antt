use Rattle.std.proofs.Common.{ap, ◌∙◌, subst}
use Rattle.v_meaning.specs.Values.{meaning}
use Rattle.path_flatten.specs.Selecting.{ReadsAll}
use Rattle.path_flatten.specs.Storing.{signed_as}
use Rattle.path_flatten.proofs.Naming.{root-like}
use Rattle.path_flatten.proofs.Storing.{path-read}
use Rattle.path_reads.proofs.Keeping.{like-signed}
use Rattle.path_reads.proofs.reads.read.Goals as goal

pub returns-clause-reads : goal.returns-clause-reads
returns-clause-reads c =
    let bits = meaning c.in_ok-bits.bits in
    let kept = meaning c.in_ok-kept.kept in
    path-read c.args.reading c.args.of.now c.all_bits.new.helpers c.stored_bits.new.helpers bits kept (meaning c.in_ok-made.made) c.requires.narrow
    (subst (λ n. ReadsAll c.args.reading n c.all_bits.new.helpers bits) c.width.ensures.bits c.in_ok-bits.ensures.reads) c.in_ok-kept.ensures.grows c.in_ok-kept.ensures.stores
    (c.in_ok-made.ensures ∙ ap (λ b. signed_as b kept) c.is_signed.ensures)

pub returns-clause-names : goal.returns-clause-names
returns-clause-names c =
    let root = c.args.reading.root in
    let bits = meaning c.in_ok-bits.bits in
    let kept = meaning c.in_ok-kept.kept in
    root-like root kept (meaning c.in_ok-made.made) (root-like root bits kept c.in_ok-bits.ensures.names c.in_ok-kept.ensures.names)
    (like-signed c.is_signed.result kept (meaning c.in_ok-made.made) c.in_ok-made.ensures)
