-- One row, from its settlings.
use Rattle.std.proofs.Common.{◌≡◌, ℕ, zero, Bool, List, ◌∷◌, sym, ◌∙◌, subst}
use Rattle.b4_core.specs.declared.bit.Bit4.{Bit4}
use Rattle.row_machine.specs.Valuation.{Valuation}
use Rattle.row_machine.specs.Machine.{Machine}
use Rattle.row_machine.specs.Settle.{SettlesBy}
use Rattle.row_machine.specs.Rounds.{Reaches}
use Rattle.row_machine.specs.Unsettled.{SettlingFails, UnsettledFrom, by_inputs, by_updates}
use Rattle.round_runner.specs.declared.rounds.Change.{Change}
use Rattle.round_runner.specs.declared.rounds.Ended.{Ended}
use Rattle.round_runner.specs.declared.rounds.Ended.TheVariants.{Rests, Changes}
use Rattle.round_runner.specs.Stores.{holding, widths}
use Rattle.round_runner.specs.Rounds.{LastChange}
use Rattle.round_runner.specs.Settling.{Settles, Fails, SettlingEnds}
use Rattle.round_runner.specs.Rows.{row_of, WithRow, WithUpdates, Steps, StepFails, StepEnds}

abbrev Store : Type 0
Store = List (List Bit4)

module _ (d : Machine) (ns : List ℕ) (row last held base : Store) (before : List Bool) (with_row : WithRow d ns row held base) where
  pub inputs_fail : (c : Change) → Fails d base before c → StepFails d ns row last held before c
  inputs_fail c failing = record {
    fails = λ s m rows.
        let f = failing.fails s m in (
          f.0,
          holding base,
          subst (λ (b : Valuation). UnsettledFrom d (holding last) (holding held) s (row_of ns row ∷ rows) zero f.0 b) (sym with_row.values)
              (by_inputs (subst (λ (b : Valuation). SettlingFails d b s f.0) with_row.values f.1)),
          subst (λ ws. LastChange d f.0 (holding base) ws c) with_row.shape f.2,
        );
  }

  module _ (middle after : List Bool) (quiet second : Store) (settled : Settles d base before middle quiet) (with_updates : WithUpdates d ns row last quiet second) where
    shape : widths second ≡ widths held
    shape = with_updates.shape ∙ settled.shape ∙ with_row.shape

    updates_settle : (now : Store) → Settles d second middle after now → Steps d ns row last held before after now
    updates_settle now again = record {
      steps = λ s m.
          let first = settled.ends s m in
          let then = again.ends first.0 first.1 in (
            then.0,
            then.1,
            record {
              quiet = holding quiet;
              started = first.0;
              inputs_settle = subst (λ (b : Valuation). SettlesBy (Reaches d) d b s first.0 (holding quiet)) with_row.values first.2;
              updates_settle = subst (λ (b : Valuation). SettlesBy (Reaches d) d b first.0 then.0 (holding now)) with_updates.values then.2;
            },
          );
      shape = again.shape ∙ shape;
    }

    updates_fail : (c : Change) → Fails d second middle c → StepFails d ns row last held before c
    updates_fail c failing = record {
      fails = λ s m rows.
          let first = settled.ends s m in
          let f = failing.fails first.0 first.1 in (
            f.0,
            holding second,
            subst (λ (b : Valuation). UnsettledFrom d (holding last) (holding held) s (row_of ns row ∷ rows) zero f.0 b) (sym with_updates.values)
                (by_updates (subst (λ (b : Valuation). SettlesBy (Reaches d) d b s first.0 (holding quiet)) with_row.values first.2)
                (subst (λ (b : Valuation). SettlingFails d b first.0 f.0) with_updates.values f.1)),
            subst (λ ws. LastChange d f.0 (holding second) ws c) shape f.2,
          );
    }

    pub step_ends : (ended : Ended) → SettlingEnds d second middle after ended → StepEnds d ns row last held before after ended
    step_ends (Rests now) e = updates_settle now e
    step_ends (Changes c) e = updates_fail c e
