-- Settling: the valuation that the started processes agree on, and the processes that it starts.
use Rattle.std.specs.Prelude.{◌≡◌, Bool, true, false, not, ◌&&◌, ◌||◌, List}
use Rattle.b4_core.specs.declared.bit.Bit4.{Bit4}
use Rattle.b4_core.specs.declared.bit.Bit4.TheVariants.{Zero, One, X, Z}
use Rattle.std.specs.List.{list_any}
use Rattle.row_machine.specs.Valuation.{Place, Valuation, put_each}
use Rattle.row_machine.specs.Machine.{Machine, Started, told}

-- a valuation is settled if it is the base, overwritten by what the started processes assign when run on it
abbrev pub Settled : Machine → Started → Valuation → Valuation → Type 0
Settled d s base v = v ≡ put_each (told s v) d.combs base

-- whether two bits are one, x and z told apart
abbrev pub same_bit : Bit4 → Bit4 → Bool
same_bit Zero Zero = true
same_bit One One = true
same_bit X X = true
same_bit Z Z = true
same_bit _ _ = false

-- whether one of the bits differs between the valuations
abbrev pub differs : List Place → Valuation → Valuation → Bool
differs qs v u = list_any (λ q. not (same_bit (v q) (u q))) qs

-- the processes that are started once a valuation is settled: a plain `always @*` starts
-- when a signal that it reads differs from its initial value
abbrev pub woken : Machine → Valuation → Started → Started
woken d v s p = s p || differs p.waits_for v d.initial

-- whether that starts a process of the machine
abbrev pub adds : Machine → Valuation → Started → Bool
adds d v s = list_any (λ p. not (s p) && differs p.waits_for v d.initial) d.combs

-- Settling from one set of started processes ends with another one and a valuation.
-- `IsSettled` says which valuation is settled over a started set and a base.
pub data SettlesBy (IsSettled : Started → Valuation → Valuation → Type 0) (d : Machine) (base : Valuation) : Started → Started → Valuation → Type 0 where
  ends : {s : Started} {v : Valuation} → IsSettled s base v → adds d v s ≡ false → SettlesBy IsSettled d base s s v
  goes_on : {s t : Started} {v w : Valuation} → IsSettled s base v → adds d v s ≡ true → SettlesBy IsSettled d base (woken d v s) t w → SettlesBy IsSettled d base s t w

-- with the settled valuations of above
abbrev pub Settles : Machine → Valuation → Started → Started → Valuation → Type 0
Settles d = SettlesBy (Settled d) d
