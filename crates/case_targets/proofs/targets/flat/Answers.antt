use Rattle.std.proofs.Common.{arith, subst}
use Rattle.target_flatten.specs.declared.writes.Image.{Image}
use Rattle.target_flatten.specs.Owning.{AllPlain}
use Rattle.case_targets.proofs.Naming.{names-flat, plain-flat}
use Rattle.case_targets.proofs.Standing.{spreads-flat}
use Rattle.case_targets.proofs.targets.flat.Goals as goal

pub returns-clause-writes : goal.returns-clause-writes
returns-clause-writes c =
    let im : Image = record { name = c.in_ok-name.name; bits = c.args.bits; room = c.room_of.result } in
    spreads-flat im c.args.e.now c.args.done.now c.in_ok-made.made (omega arith) c.room_of.ensures.some c.room_of.ensures.image c.room_of.ensures.room c.in_ok-made.ensures.inside

pub returns-clause-names : goal.returns-clause-names
returns-clause-names c =
    let im : Image = record { name = c.in_ok-name.name; bits = c.args.bits; room = c.room_of.result } in
    names-flat im c.args.e.now c.args.done.now c.in_ok-made.made (omega arith) c.room_of.ensures.some c.room_of.ensures.image c.room_of.ensures.room c.in_ok-made.ensures.inside

pub returns-clause-plain : goal.returns-clause-plain
returns-clause-plain c =
    plain-flat c.args.name.now c.args.done.now c.in_ok-made.made.writes
    (λ fixed. subst (λ n. AllPlain n c.in_ok-made.made.writes) c.in_ok-name.ensures (c.in_ok-made.ensures.plain fixed).plain)
