use Rattle.std.proofs.Common.{◌≡◌, ◌≢◌, ◌+◌, ◌&&◌, true, false, map, drop, length, ap, sym, ◌∙◌, arith}
use Rattle.std.proofs.lemmas.List.{length-map}
use Rattle.pattern_fit.specs.Same.{same_members, same_type, of_member}
use Rattle.pattern_fit.proofs.Members.{other-length, step}
use Rattle.pattern_fit.proofs.same.+same.Goals as goal

pub same_members-returns-then-a-b : goal.same_members-returns-then-a-b
same_members-returns-then-a-b t c =
    let h : length (map of_member c.args.a.now) ≢ length c.args.b.now = λ e. c.if-a-b.true (sym (length-map c.args.a.now of_member) ∙ e) in
    sym (other-length (map of_member c.args.a.now) c.args.b.now h)

pub same_members-returns-then-not-is_same : goal.same_members-returns-then-not-is_same
same_members-returns-then-not-is_same t c =
    let s = step c.args.a.now c.args.b.now c.loop-n.n c.index-a-n.result c.index-b-n.result (omega arith) c.loop-n.invariant.lengths c.index-a-n.is c.index-b-n.is in
    let e : same_type c.index-a-n.result.of c.index-b-n.result.of ≡ false = cc in
    sym (sym c.loop-n.invariant.same ∙ s ∙ ap (λ b. b && same_members (map of_member (drop (c.loop-n.n + 1) c.args.a.now)) (drop (c.loop-n.n + 1) c.args.b.now)) e)

pub same_members-loop-n-preserved : goal.same_members-loop-n-preserved
same_members-loop-n-preserved t c =
    let s = step c.args.a.now c.args.b.now c.loop-n.n c.index-a-n.result c.index-b-n.result (omega arith) c.loop-n.invariant.lengths c.index-a-n.is c.index-b-n.is in
    let e : same_type c.index-a-n.result.of c.index-b-n.result.of ≡ true = cc in
    record {
      lengths = c.loop-n.invariant.lengths;
      same = sym (s ∙ ap (λ b. b && same_members (map of_member (drop (c.loop-n.n + 1) c.args.a.now)) (drop (c.loop-n.n + 1) c.args.b.now)) e) ∙ c.loop-n.invariant.same;
    }
