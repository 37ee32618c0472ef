use Rattle.std.proofs.Common.{◌+◌, ◌≤◌, length, arith}
use Rattle.b4_planes.proofs.Swept.{same_chunk}
use Rattle.b4_planes.proofs.sweep.same_words.Goals as goal

pub chunks-preserved : goal.chunks-preserved
chunks-preserved c =
    let room : c.chunks.at + 8 ≤ length c.args.a.now = omega arith in record {
      within = room;
      same = same_chunk c.chunks.at 8 _ _ _ _ c.chunks.invariant.same c.requires room c.load.ensures.value c.load-in-chunks.ensures.value c.if-load-ne0.false;
    }
