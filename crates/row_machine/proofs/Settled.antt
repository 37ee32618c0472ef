-- A sound machine has at most one settled valuation over a base and a started set.
use Rattle.std.proofs.Common.{◌≡◌, true, sym, ap, ◌∙◌, inl, inr}
use Rattle.row_machine.specs.Valuation.{Place, Valuation, Member, has, changed, NoneWrites}
use Rattle.row_machine.specs.Machine.{Process, Machine, Started}
use Rattle.row_machine.specs.Settle.{Settled}
use Rattle.row_machine.specs.Order.{Sound, Free, free}
use Rattle.row_machine.proofs.Writes.{writer}
use Rattle.row_machine.proofs.Told.{of_process, at_rest, at_writer, same_told}

module _ (d : Machine) (sound : Sound d) (s : Started) (base v u : Valuation) (settled_v : Settled d s base v) (settled_u : Settled d s base u) where
  same_rest : (q : Place) → NoneWrites of_process d.combs q → v q ≡ u q
  same_rest q n =
      ap (λ f. f q) settled_v ∙ at_rest d sound.well_written s v base q n ∙ sym (at_rest d sound.well_written s u base q n) ∙ sym (ap (λ f. f q) settled_u)

  same_written : (p : Process) → Free d.combs p → Member d.combs p → (q : Place) → has p.writes q ≡ true → v q ≡ u q
  same_written p (free h) m q e =
      ap (λ f. f q) settled_v
      ∙ at_writer d sound.well_written s v base p m q e
      ∙ ap (λ o. changed o (base q)) (same_told d sound.well_written s v u p m same_rest (λ p2 m2 f. same_written p2 (h p2 m2 f) m2) q)
      ∙ sym (at_writer d sound.well_written s u base p m q e)
      ∙ sym (ap (λ f. f q) settled_u)

  pub settled_once : v ≡ u
  settled_once = λ i q. at q i
    where
      at : (q : Place) → v q ≡ u q
      at q = elim (writer of_process d.combs q) [ inl w ↦ same_written w.0 (sound.all_free w.0 w.1) w.1 q w.2 | inr n ↦ same_rest q n ]
