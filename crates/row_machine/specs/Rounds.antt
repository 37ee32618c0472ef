-- Rounds: how a target design is run. Each round puts over the base what each started process assigns
-- when it is run on the valuation at the round's start.
use Rattle.std.specs.Prelude.{◌≡◌, ◌≢◌, ℕ, zero, suc, ◌+◌, ◌<◌, List, [], ◌∷◌, length}
use Rattle.row_machine.specs.Valuation.{Place, Valuation, put_each}
use Rattle.row_machine.specs.Machine.{Process, Machine, Started, at_zero, told}
use Rattle.row_machine.specs.Trace.{TraceBy}

-- one round
abbrev pub round : Machine → Started → Valuation → Valuation → Valuation
round d s base v = put_each (told s v) d.combs base

-- n rounds from a valuation
abbrev pub after_rounds : Machine → Started → Valuation → ℕ → Valuation → Valuation
after_rounds d s base zero v = v
after_rounds d s base (suc n) v = after_rounds d s base n (round d s base v)

-- how many bits the processes may write
abbrev pub written_bits : List Process → ℕ
written_bits [] = 0
written_bits (p ∷ ps) = length p.writes + written_bits ps

-- how many rounds a settling may take, the last of which changes nothing
abbrev pub round_limit : Machine → ℕ
round_limit d = written_bits d.combs + 1

-- from the base, one of the first `round_limit` rounds leaves the valuation as it is
pub record Reaches (d : Machine) (s : Started) (base v : Valuation) : Type 0 where
  pub rounds : ℕ
  pub within : rounds < round_limit d
  pub reached : after_rounds d s base rounds base ≡ v
  pub stays : round d s base v ≡ v

-- the trace of a machine that is run by rounds
abbrev pub HasRoundTrace : Machine → List Valuation → List Valuation → Type 0
HasRoundTrace d rows vs = TraceBy (Reaches d) d d.initial d.start at_zero rows vs

-- the round after n rounds from the base changes a bit
abbrev pub ChangesABit : Machine → Started → Valuation → ℕ → Type 0
ChangesABit d s base n = (q : Place) × (round d s base (after_rounds d s base n base) q ≢ after_rounds d s base n base q)
