use Rattle.std.proofs.Common.{◌≡◌, ◌≢◌, ℕ, true, arith}
use Rattle.std.specs.Prelude.{get_or}
use Rattle.row_machine.specs.Settle.{differs}
use Rattle.round_runner.specs.Stores.{holding, widths}
use Rattle.v_stores.specs.Waits.{place, named_places}
use Rattle.v_stores.proofs.Waiting.{some-differs, none-differs, named-at, none-named, one-by-one}
use Rattle.v_stores.proofs.waits.differ_in.Goals as goal

pub returns-then-is_changed : goal.returns-then-is_changed
returns-then-is_changed c = by (c.is_changed.ensures.apart c.if-is_changed.true)
  where
    by : (k : ℕ) × (holding c.args.now.now (place (get_or c.args.signals.now c.loop-n.n-index 0) k) ≢ holding c.args.was.now (place (get_or c.args.signals.now c.loop-n.n-index 0) k)) → true ≡ differs (named_places c.args.signals.now (widths c.args.was.now)) (holding c.args.now.now) (holding c.args.was.now)
    by (k, h) = some-differs c.args.signals.now c.args.now.now c.args.was.now (get_or c.args.signals.now c.loop-n.n-index 0) k c.requires (named-at c.args.signals.now c.loop-n.n-index 0 c.loop-n-test.true) h

pub loop-n-preserved : goal.loop-n-preserved
loop-n-preserved c rest =
    c.loop-n.invariant (λ m k h. one-by-one (λ m. (k : ℕ) → holding c.args.now.now (place m k) ≡ holding c.args.was.now (place m k)) c.args.signals.now c.loop-n.n-index 0 c.loop-n-test.true (c.is_changed.ensures.same c.if-is_changed.false) (λ m h k. rest m k h) m h k)

pub returns : goal.returns
returns c = none-differs c.args.signals.now (widths c.args.was.now) (holding c.args.now.now) (holding c.args.was.now) (c.loop-n.invariant (λ m k h. absurd (none-named c.loop-n.n-index c.args.signals.now m (omega (arith, c.loop-n-test.false)) h)))
