-- Ways by calls, each the first call of a shorter one.
use Rattle.std.specs.Prelude.{◌≡◌, ℕ, Bool, true, false, ◌&&◌, ◌||◌, ◌==◌, nat_lt, nat_le, List, length, Option, Some, None, slice_get}
use Rattle.call_circles.specs.declared.calls.Call.{Call}
use Rattle.call_circles.specs.declared.ways.Way.{Way}
use Rattle.call_circles.specs.Calls.{is_from}

-- a call turned round; one outside routines stays as it is
abbrev pub turned_from : Call → Option ℕ → Call
turned_from c None = c
turned_from c (Some r) = record { from = Some c.to; to = r; at = c.at }

abbrev pub turned : Call → Call
turned c = turned_from c c.from

-- the way from a routine
abbrev pub way_in : Option (Option Way) → Option Way
way_in None = None
way_in (Some w) = w

abbrev pub way_from : List (Option Way) → ℕ → Option Way
way_from ways r = way_in (slice_get ways r)

-- A way is one if it ends where it begins, or its first call is followed by a shorter way to its goal.
abbrev pub goes_on : Way → Option Way → Bool
goes_on w None = false
goes_on w (Some next) = (next.goal == w.goal) && nat_lt next.steps w.steps

abbrev pub begins_with : List (Option Way) → ℕ → Way → Option Call → Bool
begins_with ways r w None = false
begins_with ways r w (Some c) = is_from c.from r && goes_on w (way_from ways c.to)

abbrev pub begins : List Call → List (Option Way) → ℕ → Way → Bool
begins cs ways r w = begins_with ways r w (slice_get cs w.by)

abbrev pub is_way : List Call → List (Option Way) → ℕ → Way → Bool
is_way cs ways r w = nat_le w.steps (length cs) && ((w.goal == r) || begins cs ways r w)

abbrev pub is_way_if : List Call → List (Option Way) → ℕ → Option Way → Bool
is_way_if cs ways r None = true
is_way_if cs ways r (Some w) = is_way cs ways r w

abbrev pub AreWays : List Call → List (Option Way) → Type 0
AreWays cs ways = (r : ℕ) → is_way_if cs ways r (way_from ways r) ≡ true
