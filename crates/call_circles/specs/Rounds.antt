-- The calls that lead to a routine, found in rounds.
use Rattle.std.specs.Prelude.{ℕ, zero, suc, Bool, ◌||◌, ◌==◌, List, [], filter}
use Rattle.std.specs.List.{list_any}
use Rattle.call_circles.specs.declared.calls.Call.{Call}
use Rattle.call_circles.specs.Calls.{is_from}

-- whether one of the calls stands in a routine
abbrev pub stands_in : ℕ → Call → Bool
stands_in r c = is_from c.from r

abbrev pub arrives : List Call → ℕ → Call → Bool
arrives found goal c = (c.to == goal) || list_any (stands_in c.to) found

-- the calls that lead to the goal, if those that lead to it in one call less are found
abbrev pub round : List Call → List Call → ℕ → List Call
round cs found goal = filter (arrives found goal) cs

abbrev pub rounds : List Call → ℕ → ℕ → List Call
rounds cs zero goal = []
rounds cs (suc more) goal = round cs (rounds cs more goal) goal
