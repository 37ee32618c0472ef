-- What fits calls and needs, and which calls are broken by it.
use Rattle.std.specs.Prelude.{◌≡◌, ℕ, Bool, true, false, ◌&&◌, ◌==◌, nat_lt, nat_le, cond, List, map, Option, Some, None, slice_get}
use Rattle.std.specs.List.{list_all}
use Rattle.call_circles.specs.declared.calls.Call.{Call}
use Rattle.call_circles.specs.declared.calls.Need.{Need}
use Rattle.call_circles.specs.declared.known.Known.{Known}
use Rattle.call_circles.specs.declared.ways.Way.{Way}
use Rattle.call_circles.specs.Ways.{turned, way_from, AreWays}

abbrev pub number_or : Option ℕ → ℕ
number_or None = 0
number_or (Some n) = n

abbrev pub number_of : List ℕ → ℕ → ℕ
number_of ns r = number_or (slice_get ns r)

-- nothing is at most anything
abbrev pub at_most : Option ℕ → Option ℕ → Bool
at_most None b = true
at_most (Some a) None = false
at_most (Some a) (Some b) = nat_le a b

-- the end of the latest need that a routine leads to
abbrev pub last_of : ℕ → Option Need → Option ℕ
last_of r None = None
last_of r (Some n) = cond (n.routine == r) (Some n.last) None

abbrev pub last_if : ℕ → List Need → ℕ → Option ℕ
last_if r ns n = last_of r (slice_get ns n)

abbrev pub last_by : List Need → Known → Option Way → Option ℕ
last_by ns k None = None
last_by ns k (Some w) = last_if w.goal ns (number_of k.latest w.goal)

abbrev pub latest : List Need → Known → ℕ → Option ℕ
latest ns k r = last_by ns k (way_from k.late r)

-- a way down to a routine begins where a way up ends
abbrev pub leads_back : ℕ → Option Way → Bool
leads_back goal None = false
leads_back goal (Some w) = w.goal == goal

-- A call leads to where its own routine leads, and then there is a way back, or to what stands higher.
abbrev pub is_placed : Known → ℕ → Option Way → Option Way → Bool
is_placed k r None b = false
is_placed k r (Some a) None = false
is_placed k r (Some a) (Some b) = cond (a.goal == b.goal) (leads_back a.goal (way_from k.down r)) (nat_lt (number_of k.ranks a.goal) (number_of k.ranks b.goal))

abbrev pub fits_call_from : List Need → Known → ℕ → Option ℕ → Bool
fits_call_from ns k to None = true
fits_call_from ns k to (Some r) = is_placed k r (way_from k.up r) (way_from k.up to) && at_most (latest ns k to) (latest ns k r)

abbrev pub fits_call : List Need → Known → Call → Bool
fits_call ns k c = fits_call_from ns k c.to c.from

abbrev pub fits_need : List Need → Known → Need → Bool
fits_need ns k n = at_most (Some n.last) (latest ns k n.routine)

pub record Fits (cs : List Call) (ns : List Need) (k : Known) : Type 0 where
  pub up : AreWays cs k.up
  pub down : AreWays (map turned cs) k.down
  pub late : AreWays cs k.late
  pub calls : list_all (fits_call ns k) cs ≡ true
  pub needs : list_all (fits_need ns k) ns ≡ true

-- whether a call is broken, by what is known
abbrev pub same_goal : Option Way → Option Way → Bool
same_goal None b = false
same_goal (Some a) None = false
same_goal (Some a) (Some b) = a.goal == b.goal

abbrev pub is_broken_from : List Need → Known → Call → Option ℕ → Bool
is_broken_from ns k c None = at_most (Some c.at) (latest ns k c.to)
is_broken_from ns k c (Some r) = same_goal (way_from k.up r) (way_from k.up c.to)

abbrev pub is_broken : List Need → Known → Call → Bool
is_broken ns k c = is_broken_from ns k c c.from
