use Rattle.std.proofs.Common.{◌+◌, ◌<◌, ◌≤◌, length, ◌∙◌, sym, arith}
use Rattle.b4_planes.proofs.Aligned.{aligned, length-words4}
use Rattle.b4_planes.proofs.Swept.{swept_chunk, swept_word, swept_end, lanes_of, word_of}
use Rattle.b4_planes.proofs.sweep.sweep.Goals as goal

pub chunks-preserved : goal.chunks-preserved
chunks-preserved g c =
    let h = aligned c.args.a.now c.args.u.now c.args.b.now c.args.v.now c.requires.u c.requires.b c.requires.v in
    let i = c.chunks.invariant in
    let room : c.chunks.at + 8 ≤ length c.args.a.now = omega arith in
    let other : c.chunks.at + 8 ≤ length c.args.u.now = omega arith in record {
      within = room;
      values =
          rw c.store.ensures
          (swept_chunk c.chunks.at 8 _ _ _ _ i.values (length-words4 g.K.Kernel.value h) room
          (lanes_of g.K.Kernel.value c.chunks.at 8 _ _ _ _ _ _ _ _ _ _ _ h i.values.rest i.unknowns.rest c.load.ensures.value c.load-in-chunks.ensures.value c.load-in-chunks-2.ensures.value c.load-in-chunks-3.ensures.value c.lanes.ensures.value));
      unknowns =
          rw c.store-in-chunks.ensures
          (swept_chunk c.chunks.at 8 _ _ _ _ i.unknowns (length-words4 g.K.Kernel.unknown h ∙ sym c.requires.u) other
          (lanes_of g.K.Kernel.unknown c.chunks.at 8 _ _ _ _ _ _ _ _ _ _ _ h i.values.rest i.unknowns.rest c.load.ensures.value c.load-in-chunks.ensures.value c.load-in-chunks-2.ensures.value c.load-in-chunks-3.ensures.value c.lanes.ensures.unknown));
    }

pub rest-preserved : goal.rest-preserved
rest-preserved g c =
    let h = aligned c.args.a.now c.args.u.now c.args.b.now c.args.v.now c.requires.u c.requires.b c.requires.v in
    let i = c.rest.invariant in
    let room : c.rest.at < length c.args.a.now = omega (arith, i.values.long) in
    let other : c.rest.at < length c.args.u.now = omega arith in record {
      within = omega arith;
      values =
          swept_word c.rest.at _ _ _ _ i.values (length-words4 g.K.Kernel.value h) room
          (word_of g.K.Kernel.value c.rest.at _ _ _ _ _ _ _ h room i.values.rest i.unknowns.rest c.word-value.ensures.value);
      unknowns =
          swept_word c.rest.at _ _ _ _ i.unknowns (length-words4 g.K.Kernel.unknown h ∙ sym c.requires.u) other
          (word_of g.K.Kernel.unknown c.rest.at _ _ _ _ _ _ _ h room i.values.rest i.unknowns.rest c.word-value.ensures.unknown);
    }

pub returns-clause-value : goal.returns-clause-value
returns-clause-value g c =
    let h = aligned c.args.a.now c.args.u.now c.args.b.now c.args.v.now c.requires.u c.requires.b c.requires.v in
    let i = c.rest.invariant in
    swept_end c.rest.at _ c.args.a.now _ (omega (arith, i.values.long)) (length-words4 g.K.Kernel.value h) i.values

pub returns-clause-unknown : goal.returns-clause-unknown
returns-clause-unknown g c =
    let h = aligned c.args.a.now c.args.u.now c.args.b.now c.args.v.now c.requires.u c.requires.b c.requires.v in
    let i = c.rest.invariant in
    swept_end c.rest.at _ c.args.u.now _ (omega (arith, i.values.long)) (length-words4 g.K.Kernel.unknown h ∙ sym c.requires.u) i.unknowns
