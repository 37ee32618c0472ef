-- Settling from a started set ends.
use Rattle.std.proofs.Common.{ℕ, zero, suc, ◌≤◌, inl, inr, arith}
use Rattle.row_machine.specs.Valuation.{Valuation}
use Rattle.row_machine.specs.Machine.{Machine, Started}
use Rattle.row_machine.specs.Settle.{Settled, Settles, ends, goes_on, woken, adds}
use Rattle.row_machine.specs.Order.{Sound}
use Rattle.row_machine.specs.Rounds.{after_rounds}
use Rattle.row_machine.proofs.Basics.{true_or_false}
use Rattle.row_machine.proofs.Waking.{unstarted, fewer_unstarted}
use Rattle.row_machine.proofs.Rounds.{rounds_end}

module _ (d : Machine) (sound : Sound d) (base : Valuation) where
  pub settled_at : (s : Started) → (v : Valuation) × Settled d s base v
  settled_at s = let r = rounds_end d sound s base in (after_rounds d s base r.0 base, r.2)

  settles_within : (n : ℕ) (s : Started) → unstarted d s ≤ n → (t : Started) × (v : Valuation) × Settles d base s t v
  settles_within n s le = turn n s le (settled_at s)
    where
      turn : (n : ℕ) (s : Started) → unstarted d s ≤ n → ((v : Valuation) × Settled d s base v) → (t : Started) × (v : Valuation) × Settles d base s t v
      turn zero s le r =
          elim (true_or_false (adds d r.0 s)) [
            | inl more ↦ absurd (omega (arith, fewer_unstarted d r.0 s more, le))
            | inr over ↦ (s, r.0, ends r.1 over)
          ]
      turn (suc n) s le r =
          elim (true_or_false (adds d r.0 s)) [
            | inl more ↦ (let rest = turn n (woken d r.0 s) (omega (arith, fewer_unstarted d r.0 s more, le)) (settled_at (woken d r.0 s)) in
                (rest.0, rest.1, goes_on r.1 more rest.2))
            | inr over ↦ (s, r.0, ends r.1 over)
          ]

  pub settles : (s : Started) → (t : Started) × (v : Valuation) × Settles d base s t v
  settles s = settles_within (unstarted d s) s (omega arith)
