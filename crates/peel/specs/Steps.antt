-- What holds while the numbers are put in order.
use Rattle.std.specs.Prelude.{◌≡◌, ◌⊎◌, ℕ, ◌+◌, ◌-◌, ◌*◌, ◌<◌, ◌≤◌, Bool, true, false, List, [], ◌∷◌, ◌++◌, length, take, slice_index_or, slice_set, cond}
use Rattle.row_machine.specs.Valuation.{Member}
use Rattle.row_machine.specs.Stuck.{Distinct}
use Rattle.peel.specs.Peeled.{needed, Ascending}
use Rattle.peel.specs.declared.peeling.Mark.{Mark}
use Rattle.peel.specs.declared.peeling.Mark.TheVariants.{Fresh, Held, Done}
use Rattle.peel.specs.declared.peeling.Peeling.{Peeling}

abbrev pub mark_in : List Mark → ℕ → Mark
mark_in marks p = slice_index_or marks p Fresh

abbrev pub is_fresh : Mark → Bool
is_fresh Fresh = true
is_fresh Held = false
is_fresh Done = false

abbrev pub is_held : Mark → Bool
is_held Fresh = false
is_held Held = true
is_held Done = false

-- the first numbers of a list are done, or past the count
abbrev pub NoneOpen : List Mark → List ℕ → ℕ → Type 0
NoneOpen marks list n = (k : ℕ) → k < n → slice_index_or list k 0 < length marks → mark_in marks (slice_index_or list k 0) ≡ Done

-- this one is neither
abbrev pub OpenAt : List Mark → List ℕ → ℕ → Type 0
OpenAt marks list k = (slice_index_or list k 0 < length marks) × (mark_in marks (slice_index_or list k 0) ≡ Done → ⊥)

-- something asked for the number
abbrev pub Met : Peeling → ℕ → Type 0
Met s p = mark_in s.marks p ≡ Fresh → ⊥

-- p needs one that is held and isn't on the path
abbrev pub NeedsHeld : List (List ℕ) → Peeling → ℕ → Type 0
NeedsHeld needs s p = (q : ℕ) × Member (needed needs p) q × (mark_in s.marks q ≡ Held) × (Member s.path q → ⊥)

-- done are those in the order, and held those on the path, where each needs the next, and those that need one that is
-- held for good
pub record Going (needs : List (List ℕ)) (s : Peeling) : Type 0 where
  pub marked : length s.marks ≡ length needs
  pub tracked : length s.seen ≡ length needs
  pub seen_within : (p : ℕ) → slice_index_or s.seen p 0 ≤ length (needed needs p)
  pub behind : (p : ℕ) → NoneOpen s.marks (needed needs p) (slice_index_or s.seen p 0)
  pub done_in_order : (p : ℕ) → mark_in s.marks p ≡ Done → Member s.order p
  pub order_done : (p : ℕ) → Member s.order p → mark_in s.marks p ≡ Done
  pub order_distinct : Distinct s.order
  pub earlier : (i q : ℕ) → i < length s.order → q < length needs → Member (needed needs (slice_index_or s.order i 0)) q → Member (take i s.order) q
  pub path_held : (p : ℕ) → Member s.path p → mark_in s.marks p ≡ Held
  pub path_distinct : Distinct s.path
  pub chain : (i : ℕ) → i + 1 < length s.path → Member (needed needs (slice_index_or s.path i 0)) (slice_index_or s.path (i + 1) 0)
  pub held : (p : ℕ) → mark_in s.marks p ≡ Held → Member s.path p ⊎ NeedsHeld needs s p

-- p comes to the end of the path
abbrev pub held_too : Peeling → ℕ → Peeling
held_too s p = record { marks = slice_set s.marks p Held; seen = s.seen; path = s.path ++ p ∷ []; order = s.order }

-- the last one of the path goes to the order
abbrev pub finished : Peeling → ℕ → Peeling
finished s p = record { marks = slice_set s.marks p Done; seen = s.seen; path = take (length s.path - 1) s.path; order = s.order ++ p ∷ [] }

-- those on the path are held for good
abbrev pub given_up : Peeling → Peeling
given_up s = record { marks = s.marks; seen = s.seen; path = []; order = s.order }

-- the first n that p needs were seen
abbrev pub looked : Peeling → ℕ → ℕ → Peeling
looked s p n = record { marks = s.marks; seen = slice_set s.seen p n; path = s.path; order = s.order }

-- how many are fresh
abbrev pub fresh_in : List Mark → ℕ
fresh_in [] = 0
fresh_in (m ∷ ms) = cond (is_fresh m) 1 0 + fresh_in ms

-- what is left to do at most
abbrev pub work : Peeling → ℕ
work s = 2 * fresh_in s.marks + length s.path

-- a step keeps what holds, asks for no less, and leaves less to do
pub record StepsTo (needs : List (List ℕ)) (s t : Peeling) : Type 0 where
  pub going : Going needs t
  pub met : (p : ℕ) → Met s p → Met t p
  pub falls : work t < work s

-- the last number of the path
abbrev pub last_of : List ℕ → ℕ
last_of path = slice_index_or path (length path - 1) 0

-- these are all that are held, in ascending order
pub record AreHeld (marks : List Mark) (left : List ℕ) : Type 0 where
  pub sound : (p : ℕ) → Member left p → mark_in marks p ≡ Held
  pub complete : (p : ℕ) → mark_in marks p ≡ Held → Member left p
  pub ascending : Ascending left
