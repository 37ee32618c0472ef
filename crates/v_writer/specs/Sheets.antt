-- What a text is written on: the length of all that was written, and the bytes up to a limit.
use Rattle.std.specs.Prelude.{ℕ, ◌+◌, ◌-◌, ◌^◌, min, Bool, List, [], ◌∷◌, ◌++◌, length, take}
use Rattle.v_writer.specs.Layout.{Piece, piece_bytes, leaves_escaped}

pub record Sheet : Type 0 where
  -- at most 2^64 - 1
  pub length_so_far : ℕ
  pub bytes : List ℕ
  pub limit : ℕ
  -- whether the last token was written as an escaped identifier
  pub escaped : Bool

-- a length that stays at its last value
unfoldable pub count : ℕ → ℕ → ℕ
count a b = min (a + b) (2 ^ 64 - 1)

-- as many of the further bytes as the limit leaves room for
unfoldable pub upto : ℕ → List ℕ → List ℕ → List ℕ
upto limit a b = a ++ take (limit - length a) b

-- the sheet with these further bytes
unfoldable pub appended : Sheet → List ℕ → Sheet
appended s bytes = record s { length_so_far = count s.length_so_far (length bytes); bytes = upto s.limit s.bytes bytes }

-- the sheet with one more piece
unfoldable pub step : Sheet → Piece → Sheet
step s p = record (appended s (piece_bytes s.escaped p)) { escaped = leaves_escaped p }

-- the sheet with these further pieces
abbrev pub set : Sheet → List Piece → Sheet
set s [] = s
set s (p ∷ ps) = set (step s p) ps
