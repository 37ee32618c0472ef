use Rattle.std.proofs.Common.{◌+◌, ◌<◌, ◌≤◌, length, refl, arith}
use Rattle.b4_planes.proofs.Aligned.{aligned, length_pairs}
use Rattle.b4_planes.proofs.Swept.{swept_chunk, swept_word, swept_end, lanes_of_pair, word_of_pair}
use Rattle.b4_planes.proofs.sweep.sweep_value.Goals as goal

pub chunks-preserved : goal.chunks-preserved
chunks-preserved g c =
    let h = aligned c.args.a.now c.args.u.now c.args.a.now c.args.u.now c.requires refl c.requires in
    let i = c.chunks.invariant in
    let room : c.chunks.at + 8 ≤ length c.args.a.now = omega arith in record {
      within = room;
      values =
          rw c.store.ensures
          (swept_chunk c.chunks.at 8 _ _ _ _ i.values (length_pairs g.K.ValueKernel.value h) room
          (lanes_of_pair g.K.ValueKernel.value c.chunks.at 8 _ _ _ _ _ _ h i.values.rest c.load.ensures.value c.load-in-chunks.ensures.value c.lanes-value.ensures));
    }

pub rest-preserved : goal.rest-preserved
rest-preserved g c =
    let h = aligned c.args.a.now c.args.u.now c.args.a.now c.args.u.now c.requires refl c.requires in
    let i = c.rest.invariant in
    let room : c.rest.at < length c.args.a.now = omega (arith, i.values.long) in record {
      within = omega arith;
      values =
          swept_word c.rest.at _ _ _ _ i.values (length_pairs g.K.ValueKernel.value h) room
          (word_of_pair g.K.ValueKernel.value c.rest.at _ _ _ _ h room i.values.rest c.word.ensures);
    }

pub returns : goal.returns
returns g c =
    let h = aligned c.args.a.now c.args.u.now c.args.a.now c.args.u.now c.requires refl c.requires in
    let i = c.rest.invariant in
    swept_end c.rest.at _ c.args.a.now _ (omega (arith, i.values.long)) (length_pairs g.K.ValueKernel.value h) i.values
