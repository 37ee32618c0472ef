-- What things write, and in which order it stands.
use Rattle.std.specs.Prelude.{◌≡◌, ℕ, suc, ◌≤◌, ◌<◌, Bool, false, ◌&&◌, ◌==◌, List, [], ◌∷◌, ◌++◌, length, map, slice_index_or, slice_get, Option, Some, None}
use Rattle.std.specs.List.{list_any}
use Rattle.std.specs.List.Sorted.{IsNonDecreasing, IsNonDecreasingBy}
use Rattle.bit_sets.specs.declared.span.Span.{Span}
use Rattle.bit_sets.specs.Sets.{covers, in_spans}
use Rattle.bit_needs.specs.declared.footprints.Footprint.{Footprint}
use Rattle.bit_needs.specs.declared.writers.Written.{Written}
use Rattle.bit_needs.specs.declared.writers.Writers.{Writers}

abbrev pub piece : ℕ → Span → Written
piece by s = record { span = s; by = by }

-- what things write that are numbered from k on
abbrev pub pieces_from : ℕ → List Footprint → List Written
pieces_from k [] = []
pieces_from k (f ∷ fs) = map (piece k) f.writes ++ pieces_from (suc k) fs

-- whether one of the pieces is of a thing, and of a number
abbrev pub tells : List Written → ℕ → ℕ → Bool
tells ws q n = list_any (λ (w : Written). (w.by == q) && covers w.span n) ws

-- whether the thing at a place writes a number
abbrev pub writes_it : Option Footprint → ℕ → Bool
writes_it None n = false
writes_it (Some f) n = in_spans f.writes n

abbrev pub low_of : Written → ℕ
low_of w = w.span.low

abbrev pub no_piece : Written
no_piece = record { span = record { low = 0; high = 0 }; by = 0 }

-- these are the greatest ends up to each piece
pub record AreReached (ws : List Written) (ends : List ℕ) : Type 0 where
  pub count : length ends ≡ length ws
  pub reached : (k : ℕ) → k < length ws → (slice_index_or ws k no_piece).span.high ≤ slice_index_or ends k 0
  pub ordered : IsNonDecreasing ends

-- the pieces stand in the order of their first numbers
pub record AreOrdered (w : Writers) : Type 0 where
  pub ordered : IsNonDecreasingBy low_of w.written
  pub ends : AreReached w.written w.ends

-- and are what the things write
pub record AreWriters (fs : List Footprint) (w : Writers) : Type 0 where
  pub in_order : AreOrdered w
  pub tells_writes : (q n : ℕ) → tells w.written q n ≡ writes_it (slice_get fs q) n
