use Rattle.std.proofs.Common.{◌≡◌, Some, length, slice_get, sym, subst, ap, arith}
use Rattle.std.proofs.lemmas.List.{length_push}
use Rattle.ll_engine.specs.Facts.{AreSymbolFacts}
use Rattle.ll_engine.proofs.Closing.{each_push}
use Rattle.ll_engine.proofs.facts.all_symbol_facts.Goals as goal

pub loop-symbol-preserved : goal.loop-symbol-preserved
loop-symbol-preserved c =
    let all = c.loop-symbol.all in
    let new = c.in_ok-push.ensures.ok in
    let m = c.loop-symbol.invariant.long in
    let k = ap length new in
    let j = length_push all c.in_ok-facts.facts in
    let p = subst (λ q. AreSymbolFacts c.args.rows.now c.args.blank.now q c.in_ok-facts.facts) (sym m) c.in_ok-facts.ensures in
    record {
      long = omega (arith, m, k, j);
      each = λ a s e. each_push (λ n q. AreSymbolFacts c.args.rows.now c.args.blank.now n q) all c.in_ok-facts.facts
          c.loop-symbol.invariant.each p a s (subst (λ q. slice_get q a ≡ Some s) new e);
    }
