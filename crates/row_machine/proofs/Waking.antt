-- Waking starts processes that weren't started.
use Rattle.std.proofs.Common.{◌≡◌, ℕ, ◌<◌, true, not, ◌&&◌, arith}
use Rattle.std.proofs.lemmas.Bool.{and_parts, not-true, or_left, or_right}
use Rattle.row_machine.specs.Valuation.{Valuation}
use Rattle.row_machine.specs.Machine.{Machine, Started}
use Rattle.row_machine.specs.Settle.{differs, woken, adds}
use Rattle.row_machine.proofs.Basics.{any-member}
use Rattle.row_machine.proofs.Open.{open_weight, open_weight-falls}

module _ (d : Machine) where
  -- how many processes aren't started
  abbrev pub unstarted : Started → ℕ
  unstarted s = open_weight (λ p. 1) s d.combs

  pub fewer_unstarted : (v : Valuation) (s : Started) → adds d v s ≡ true → unstarted (woken d v s) < unstarted s
  fewer_unstarted v s e =
      let r = any-member (λ p. not (s p) && differs p.waits_for v d.initial) d.combs e in
      let both = and_parts (not (s r.0)) (differs r.0.waits_for v d.initial) r.2 in
      open_weight-falls (λ p. 1) s (woken d v s) d.combs (λ p m h. or_left (s p) (differs p.waits_for v d.initial) h) r.0 r.1 (not-true (s r.0) both.0)
      (or_right (s r.0) (differs r.0.waits_for v d.initial) both.1) (omega arith)
