-- The tokens with their places are the tokens of the text.
use Rattle.std.specs.Prelude.{ℕ, ◌≡◌, List, map}
use Rattle.v_tree.specs.Tokens.{tokens}
use Rattle.v_lexer.specs.Places.{Placed, placed}

abbrev pub LexesTokens : Type 0
LexesTokens = (text : List ℕ) → map (λ (p : Placed). p.token) (placed text) ≡ tokens text
