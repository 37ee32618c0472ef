-- Where a token stands in a text: its line and its column, both from 1, columns counting bytes, and its text. The end stands
-- behind the last byte, and its text is `<end>`.
use Rattle.std.specs.Prelude.{ℕ, ◌+◌, ◌==◌, List, [], ◌∷◌, take, drop, Option, Some, None, if◌then◌else◌, codes}
use Rattle.v_lexer.specs.declared.token.VToken.{VToken}
use Rattle.v_parse.specs.declared.spot.Place.{Place}
use Rattle.v_parse.specs.declared.spot.Spot.{Spot}

-- the place behind a text that begins in this one
abbrev pub behind : ℕ → ℕ → List ℕ → Place
behind line col [] = record { line = line; col = col }
behind line col (c ∷ text) = if c == 10 then behind (line + 1) 1 text else behind line (col + 1) text

abbrev pub spot_of : List ℕ → Option VToken → Spot
spot_of bytes (Some t) = record { place = behind 1 1 (take t.at bytes); word = take t.size (drop t.at bytes) }
spot_of bytes None = record { place = behind 1 1 bytes; word = codes "<end>" }
