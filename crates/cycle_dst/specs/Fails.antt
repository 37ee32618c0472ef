-- Why a run of a design has no trace, by the failure of its machine.
use Rattle.std.specs.Prelude.{◌≡◌, ℕ, List, []}
use Rattle.round_runner.specs.declared.rounds.Change.{Change}
use Rattle.round_runner.specs.declared.rows.RunFail as R
use Rattle.round_runner.specs.declared.rows.RunFail.TheVariants as V
use Rattle.v_tree.specs.Names.{Name}
use Rattle.v_meaning.specs.Machine.{of_signal}
use Rattle.v_meaning.specs.Modules.{Signal}
use Rattle.cycle_dst.specs.declared.fails.RunFail.{RunFail}
use Rattle.cycle_dst.specs.declared.fails.RunFail.TheVariants.{Memory, Unsettled}

-- the name of the signal with a number
abbrev pub name_in : List Signal → ℕ → Name
name_in ss n = of_signal ss [] (λ (s : Signal). s.name) n

-- a row, the name of the signal that changed, and what it held
abbrev pub is_failure : List Signal → ℕ → Change → RunFail → Type 0
is_failure ss row c fail = fail ≡ Unsettled row (name_in ss c.signal) c.before c.after

-- or want of memory
abbrev pub Tells : List Signal → R.RunFail → RunFail → Type 0
Tells ss f Memory = Unit {0}
Tells ss V.Memory (Unsettled row name before after) = ⊥
Tells ss (V.Unsettled k c) (Unsettled row name before after) = (row ≡ k) × (name ≡ name_in ss c.signal) × (before ≡ c.before) × (after ≡ c.after)
