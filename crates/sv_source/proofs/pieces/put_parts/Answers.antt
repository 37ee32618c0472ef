use Rattle.sv_source.proofs.Sending.{sent_more, sent_cut, flat_map-drop}
use Rattle.sv_source.proofs.pieces.put_parts.Goals as goal

pub loop-part-preserved : goal.loop-part-preserved
loop-part-preserved g c =
    sent_more _ _ _ _ _ _ _ _ _ _ c.loop-part.invariant (flat_map-drop (λ part. part.now) c.args.parts.now c.loop-part.part-index _ c.loop-part-test.true)
    _ _ _ c.in-Ok.ensures.bytes c.in-Ok.ensures.cause (λ fits. (c.in-Ok.ensures.room fits).left)

pub returns-in-Failed-clause-bytes : goal.returns-in-Failed-clause-bytes
returns-in-Failed-clause-bytes g c =
    sent_cut _ _ _ _ _ _ _ _ _ _ c.loop-part.invariant (flat_map-drop (λ part. part.now) c.args.parts.now c.loop-part.part-index _ c.loop-part-test.true)
    _ c.in-Failed.ensures.bytes
