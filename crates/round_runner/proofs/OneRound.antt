-- A round, process by process.
use Rattle.std.proofs.Common.{◌≡◌, ℕ, ◌+◌, ◌<◌, ◌≤◌, Bool, true, false, List, length, slice_index_or, sym, ap, ◌∙◌}
use Rattle.b4_core.specs.declared.bit.Bit4.{Bit4}
use Rattle.row_machine.specs.Valuation.{Valuation, changed, put, put_each, only_if}
use Rattle.row_machine.specs.Machine.{Process, Machine, Started, told}
use Rattle.round_runner.specs.Stores.{holding, widths}
use Rattle.round_runner.specs.Parts.{Marks, Runs}
use Rattle.round_runner.specs.Rounds.{IsRound}
use Rattle.round_runner.proofs.Elements.{element, mapped_at}
use Rattle.round_runner.proofs.Sequences.{Going, going_on, gone}

pub record Rounding (d : Machine) (flags : List Bool) (base held made : List (List Bit4)) (i : ℕ) : Type 0 where
  pub values : (s : Started) → Marks d.combs s flags → Going (told s (holding held)) d.combs i (holding base) (holding made)
  pub shape : widths made ≡ widths base

pub rounding_at_start : (d : Machine) (flags : List Bool) (base held made : List (List Bit4)) → made ≡ base → Rounding d flags base held made 0
rounding_at_start d flags base held made e = record {
  values = λ s m. record { rest = ap (λ vs. put_each (told s (holding held)) d.combs (holding vs)) e };
  shape = ap widths e;
}

-- the changes of a process that is started, and of one that isn't
pub told_started : (s : Started) (v : Valuation) (p : Process) → s p ≡ true → told s v p ≡ p.assigns v
told_started s v p e = λ k q. only_if (e k) (p.assigns v) q

pub untold : (s : Started) (v now : Valuation) (p : Process) → s p ≡ false → put (told s v p) now ≡ now
untold s v now p e = λ k q. changed (only_if (e k) (p.assigns v) q) (now q)

pub rounding_told : (d : Machine) (flags : List Bool) (base held made next : List (List Bit4)) (i : ℕ) (b : Bool) → i < length d.combs
    → slice_index_or flags i b ≡ true → Runs d.combs i held made next → Rounding d flags base held made i → Rounding d flags base held next (i + 1)
rounding_told d flags base held made next i b h flag runs going =
    let p = element d.combs i h in
    let change = runs.done p.0 p.1 in record {
      values = λ s m.
          let on : s p.0 ≡ true = sym (mapped_at s d.combs flags i p.0 b m.all p.1) ∙ flag in
          going_on (told s (holding held)) d.combs i p.0 (holding base) (holding made) (holding next) p.1
          (change.values ∙ ap (λ c. put c (holding made)) (sym (told_started s (holding held) p.0 on)))
          (going.values s m);
      shape = change.shape ∙ going.shape;
    }

pub rounding_untold : (d : Machine) (flags : List Bool) (base held made : List (List Bit4)) (i : ℕ) (b : Bool) → i < length d.combs
    → slice_index_or flags i b ≡ false → Rounding d flags base held made i → Rounding d flags base held made (i + 1)
rounding_untold d flags base held made i b h flag going =
    let p = element d.combs i h in record {
      values = λ s m.
          let off : s p.0 ≡ false = sym (mapped_at s d.combs flags i p.0 b m.all p.1) ∙ flag in
          going_on (told s (holding held)) d.combs i p.0 (holding base) (holding made) (holding made) p.1
          (sym (untold s (holding held) (holding made) p.0 off))
          (going.values s m);
      shape = going.shape;
    }

pub rounded : (d : Machine) (flags : List Bool) (base held made : List (List Bit4)) (i : ℕ) → length d.combs ≤ i → Rounding d flags base held made i → IsRound d flags base held made
rounded d flags base held made i h going = record {
  values = λ s m. gone (told s (holding held)) d.combs i (holding base) (holding made) h (going.values s m);
  shape = going.shape;
}
