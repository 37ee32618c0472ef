use Rattle.std.proofs.Common.{◌≡◌, ℕ, length, get_or, None}
use Rattle.eval_store.proofs.slots.write_local.Given as goal

abbrev pub invariant-loop-i : goal.invariant-loop-i
invariant-loop-i l = record {
  long : length l.locals.items ≡ l._i;
  same : (k : ℕ) → get_or l.locals.items k None ≡ get_or l.fn.locals.items k None;
}
