-- The bits of signals that are waited for.
use Rattle.std.specs.Prelude.{ℕ, suc, ◌==◌, Bool, List, [], ◌∷◌, ◌++◌, map, filter, ◌≡◌}
use Rattle.std.specs.List.{list_any}
use Rattle.row_machine.specs.Valuation.{Place}
use Rattle.row_machine.specs.Places.{places_of}
use Rattle.v_meaning.specs.Modules.{Signal}
use Rattle.v_meaning.specs.Machine.{size, places_from}

abbrev pub place : ℕ → ℕ → Place
place n k = record { signal = n; bit = k }

-- all bits of signals that have so many, numbered from n on
abbrev pub all_places : ℕ → List ℕ → List Place
all_places n [] = []
all_places n (w ∷ ws) = places_of n w ++ all_places (suc n) ws

abbrev pub is_named : List ℕ → ℕ → Bool
is_named ns m = list_any (λ n. n == m) ns

-- those of these signals
abbrev pub named_places : List ℕ → List ℕ → List Place
named_places ns ws = filter (λ q. is_named ns q.signal) (all_places 0 ws)

-- what a process waits for, as v_meaning has it, are all bits of the signals that it names, listed in any order and any number of times
abbrev pub WaitsOfNames : Type 0
WaitsOfNames = (ss : List Signal) (listed named : List ℕ) → ((m : ℕ) → is_named listed m ≡ is_named named m)
    → filter (λ q. list_any (λ n. n == q.signal) named) (places_from 0 ss) ≡ named_places listed (map size ss)
