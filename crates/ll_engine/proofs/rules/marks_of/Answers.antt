use Rattle.std.proofs.Common.{◌≡◌, length, sym, ◌∙◌, ap, subst, arith}
use Rattle.std.proofs.lemmas.List.{with_items_is}
use Rattle.ll_engine.specs.Marks.{AreMarks, AreSound}
use Rattle.ll_engine.proofs.Closing.{marks_exact, are_within}
use Rattle.ll_engine.proofs.rules.marks_of.Goals as goal

pub returns : goal.returns
returns c =
    let rules = c.args.rules.now in
    let s = c.pass.ensures.sound (subst (λ q. AreSound rules q) (sym c.as_mut_slice.ensures.value) c.loop.invariant.sound) in
    let same = c.pass.ensures.same in
    let value = ap length c.as_mut_slice.ensures.value in
    let ok = c.loop.marks.ok.0 in
    let long : length c.pass.new.marks ≡ c.loop.marks.len = omega (arith, same, value, ok) in
    subst (λ q. AreMarks rules q) (sym (c.from_vec.ensures ∙ with_items_is c.loop.marks c.pass.new.marks long))
    (marks_exact rules c.pass.new.marks s (c.pass.ensures.closed c.loop-test.false))

pub pass-requires : goal.pass-requires
pass-requires c = λ r h.
    let b = are_within c.args.rules.now r h in
    let n = c.bound_of-count.ensures in
    let m = c.loop.invariant.long in
    let v = ap length c.as_mut_slice.ensures.value in
    omega (arith, b, n, m, v)
