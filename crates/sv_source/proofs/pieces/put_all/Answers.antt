use Rattle.std.proofs.Common.{◌≡◌, ◌++◌, arith}
use Rattle.std.proofs.lemmas.Grind.{common_steps}
use Rattle.sv_source.proofs.Sending.{sent_more, sent_cut}
use Rattle.sv_source.proofs.pieces.put_all.Goals as goal

pub loop-rest-preserved : goal.loop-rest-preserved
loop-rest-preserved g c =
    let next : c.loop-rest.rest.now ≡ c.split_at.result.0.now ++ c.split_at.result.1.now = grind (arith, common_steps) in
    sent_more _ _ _ _ _ _ _ _ _ _ c.loop-rest.invariant next _ _ _ c.in-Ok.ensures.bytes c.in-Ok.ensures.cause (λ fits. (c.in-Ok.ensures.room fits).left)

pub returns-in-Failed-clause-bytes : goal.returns-in-Failed-clause-bytes
returns-in-Failed-clause-bytes g c =
    let next : c.loop-rest.rest.now ≡ c.split_at.result.0.now ++ c.split_at.result.1.now = grind (arith, common_steps) in
    sent_cut _ _ _ _ _ _ _ _ _ _ c.loop-rest.invariant next _ c.in-Failed.ensures.bytes
