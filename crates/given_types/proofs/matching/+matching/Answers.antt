use Rattle.std.proofs.Common.{◌≡◌, ◌≢◌, ◌+◌, ◌&&◌, true, false, map, drop, length, ap, sym, ◌∙◌, arith}
use Rattle.std.proofs.lemmas.List.{length-map}
use Rattle.pattern_fit.specs.Same.{same_members}
use Rattle.expr_type.specs.Shapes.{matches}
use Rattle.given_types.specs.Matching.{matching_member}
use Rattle.pattern_fit.proofs.Members.{other-length}
use Rattle.given_types.proofs.Members.{step}
use Rattle.given_types.proofs.matching.+matching.Goals as goal

pub matching_members-returns-then-a-b : goal.matching_members-returns-then-a-b
matching_members-returns-then-a-b t c =
    let h : length (map matching_member c.args.a.now) ≢ length c.args.b.now = λ e. c.if-a-b.true (sym (length-map c.args.a.now matching_member) ∙ e) in
    sym (other-length (map matching_member c.args.a.now) c.args.b.now h)

pub matching_members-returns-then-not-matches_type : goal.matching_members-returns-then-not-matches_type
matching_members-returns-then-not-matches_type t c =
    let s = step c.args.a.now c.args.b.now c.loop-n.n c.index-a-n.result c.index-b-n.result (omega arith) c.loop-n.invariant.lengths c.index-a-n.is c.index-b-n.is in
    let e : matches c.index-a-n.result.of c.index-b-n.result.of ≡ false = cc in
    sym (sym c.loop-n.invariant.same ∙ s ∙ ap (λ b. b && same_members (map matching_member (drop (c.loop-n.n + 1) c.args.a.now)) (drop (c.loop-n.n + 1) c.args.b.now)) e)

pub matching_members-loop-n-preserved : goal.matching_members-loop-n-preserved
matching_members-loop-n-preserved t c =
    let s = step c.args.a.now c.args.b.now c.loop-n.n c.index-a-n.result c.index-b-n.result (omega arith) c.loop-n.invariant.lengths c.index-a-n.is c.index-b-n.is in
    let e : matches c.index-a-n.result.of c.index-b-n.result.of ≡ true = cc in
    record {
      lengths = c.loop-n.invariant.lengths;
      same = sym (s ∙ ap (λ b. b && same_members (map matching_member (drop (c.loop-n.n + 1) c.args.a.now)) (drop (c.loop-n.n + 1) c.args.b.now)) e) ∙ c.loop-n.invariant.same;
    }
