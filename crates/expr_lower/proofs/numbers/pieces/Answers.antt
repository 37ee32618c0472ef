use Rattle.std.proofs.Common.{◌≡◌, ◌-◌, ◌*◌, ◌/◌, [], ◌∷◌, ◌++◌, length, take, drop, arith, ap, sym, ◌∙◌, subst}
use Rattle.v_build.specs.Trees.{meanings}
use Rattle.expr_lower.specs.Numbers.{ArePieces}
use Rattle.expr_lower.proofs.Values.{pieces-none, pieces-next, drop-end, drop-parts, meanings-next}
use Rattle.expr_lower.proofs.numbers.pieces.Goals as goal

pub loop-end-init : goal.loop-end-init
loop-end-init c = record {
  few = omega arith;
  made = subst (λ ms. ArePieces (meanings ms) (drop (length c.args.bits.now) c.args.bits.now)) (sym c.new-made.ensures) (pieces-none _ (drop-end c.args.bits.now));
}

pub loop-end-preserved : goal.loop-end-preserved
loop-end-preserved c =
    let bits = c.args.bits.now in
    let start = (c.loop-end.end - 1) / 128 * 128 in
    let piece : c.in_ok-piece.piece ≡ take (c.loop-end.end - start) (drop start bits) = c.in_ok-piece.ensures in
    let push : c.push.new.self ≡ c.loop-end.made ++ c.literal.result ∷ [] = c.in_ok-push.ensures.ok in
    record {
      few = omega arith;
      made = subst (λ ms. ArePieces ms (drop start bits)) (sym (ap meanings push ∙ meanings-next c.loop-end.made c.literal.result ∙ ap (λ m. meanings c.loop-end.made ++ m ∷ []) c.literal.ensures))
          (pieces-next (meanings c.loop-end.made) c.in_ok-piece.piece (drop c.loop-end.end bits) (drop start bits) c.loop-end.invariant.made
          (ap (λ x. x ++ drop c.loop-end.end bits) piece ∙ drop-parts bits start c.loop-end.end (omega arith)));
    }
