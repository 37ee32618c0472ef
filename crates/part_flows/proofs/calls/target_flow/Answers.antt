use Rattle.part_flows.proofs.Parts as A
use Rattle.part_flows.proofs.calls.target_flow.Goals as goal

pub returns : goal.returns
returns c =
    let t = c.in_ok-add_target.ensures in (
      c.in_ok-and_then.ensures.known,
      c.in_ok-and_then.ensures.flow _ _ (c.in_ok-first.ensures.flow _ (A.gathered c.new-reads.result c.add_target.new.reads _ c.new-reads.ensures t.reads))
          (c.in_ok-then.ensures.flow _ (A.all-written c.new-writes.result c.add_target.new.writes _ c.new-writes.ensures t.writes)),
    )
