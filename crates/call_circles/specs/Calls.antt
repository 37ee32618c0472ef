-- Calls that are broken: in a circle, or before what the called routine needs is declared.
use Rattle.std.specs.Prelude.{ℕ, zero, suc, ◌*◌, Bool, true, false, ◌&&◌, ◌||◌, ◌==◌, nat_lt, nat_le, cond, List, [], ◌∷◌, length, Option, Some, None}
use Rattle.std.specs.List.{list_any}
use Rattle.call_circles.specs.declared.calls.Call.{Call}
use Rattle.call_circles.specs.declared.calls.Need.{Need}

-- Whether one routine is another or reaches it by at most so many calls.
abbrev pub is_from : Option ℕ → ℕ → Bool
is_from None r = false
is_from (Some s) r = s == r

abbrev pub goes_to : (ℕ → Bool) → ℕ → Call → Bool
goes_to reached r c = is_from c.from r && reached c.to

abbrev pub reaches : List Call → ℕ → ℕ → ℕ → Bool
reaches cs zero r goal = r == goal
reaches cs (suc more) r goal = (r == goal) || list_any (goes_to (λ next. reaches cs more next goal) r) cs

-- More calls than a way has that passes none of them twice.
abbrev pub enough : List Call → ℕ
enough cs = 2 * length cs

abbrev pub leads_to : List Call → ℕ → ℕ → Bool
leads_to cs r goal = reaches cs (enough cs) r goal

-- A call in a routine is broken if it leads back to the routine. A call outside routines is broken if it leads to one
-- that needs a declaration that doesn't end before the call.
abbrev pub is_early : List Call → Call → Need → Bool
is_early cs c n = nat_le c.at n.last && leads_to cs c.to n.routine

abbrev pub is_broken_in : List Call → List Need → Call → Option ℕ → Bool
is_broken_in cs ns c None = list_any (is_early cs c) ns
is_broken_in cs ns c (Some r) = leads_to cs c.to r

abbrev pub is_broken : List Call → List Need → Call → Bool
is_broken cs ns c = is_broken_in cs ns c c.from

-- The least token of the calls that pass a test.
abbrev pub lesser : ℕ → Option ℕ → Option ℕ
lesser a None = Some a
lesser a (Some b) = Some (cond (nat_lt b a) b a)

abbrev pub lesser_if : Bool → ℕ → Option ℕ → Option ℕ
lesser_if false a b = b
lesser_if true a b = lesser a b

abbrev pub first_of : (Call → Bool) → List Call → Option ℕ
first_of test [] = None
first_of test (c ∷ cs) = lesser_if (test c) c.at (first_of test cs)

abbrev pub first_broken : List Call → List Need → Option ℕ
first_broken cs ns = first_of (is_broken cs ns) cs
