use Rattle.std.proofs.Common.{◌≡◌, ℕ, true, drop}
use Rattle.round_runner.specs.Stores.{holding}
use Rattle.v_stores.specs.Waits.{place, is_named}
use Rattle.v_stores.proofs.waits.differ_in.Given as goal

abbrev pub invariant-loop-n : goal.invariant-loop-n
invariant-loop-n l =
    ((m k : ℕ) → is_named (drop l.n-index l.signals) m ≡ true → holding l.now (place m k) ≡ holding l.was (place m k))
    → (m k : ℕ) → is_named l.fn.signals m ≡ true → holding l.now (place m k) ≡ holding l.was (place m k)
