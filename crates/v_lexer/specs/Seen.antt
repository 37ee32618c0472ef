-- What the reader of a text keeps of its tokens: the symbol by which the grammar reads each, and what it says.
use Rattle.std.specs.Prelude.{◌≡◌, length, ℕ, ◌+◌, Bool, ◌&&◌, nat_le, List, [], ◌∷◌, map, drop, codes, find, Option}
use Rattle.std.specs.List.{prefix_len}
use Rattle.v_tree.specs.Tokens.{Token, Cut, gap, cut, is_bit, begins, marks, mark_cut, first_cut}
use Rattle.v_tree.specs.Names.{position}
use Rattle.v_tree.specs.Symbols.{symbol, spelled}
use Rattle.v_lexer.specs.declared.token.Says.{Says}
use Rattle.v_lexer.specs.declared.token.Says.TheVariants.{Nothing, Name, Number, Decimal}
use Rattle.v_lexer.specs.declared.token.VToken.{VToken}
use Rattle.v_lexer.specs.declared.piece.Piece.{Piece}
use Rattle.v_lexer.specs.declared.piece.Piece.TheVariants as P
use Rattle.v_lexer.specs.Places.{Placed, placed}

-- what a token says beside its symbol
abbrev pub says : Token → Says
says (Token.name bytes) = Name bytes
says (Token.number bits) = Number bits
says (Token.decimal value) = Decimal value
says (Token.word bytes) = Nothing
says (Token.mark bytes) = Nothing
says Token.stray = Nothing

abbrev pub seen : Placed → VToken
seen p = record { symbol = symbol p.token; says = says p.token; at = p.at; size = p.size }

-- the tokens of a text as the reader keeps them
abbrev pub tokens_of : List ℕ → List VToken
tokens_of text = map seen (placed text)

-- what a text begins with, as the reader keeps it
abbrev pub piece_of : Cut → Piece
piece_of (gap further) = P.Gap further
piece_of (cut token further) = P.Token (symbol token) (says token) further

-- how many bytes a piece has behind the first one
abbrev pub length_behind : Piece → ℕ
length_behind (P.Gap further) = further
length_behind (P.Token symbol says further) = further

-- the token of a piece that begins at this byte; a gap has none
abbrev pub token_of : Piece → ℕ → List VToken
token_of (P.Gap further) at = []
token_of (P.Token symbol says further) at = record { symbol = symbol; says = says; at = at; size = further + 1 } ∷ []

abbrev pub first_piece : List ℕ → Piece
first_piece [] = P.Gap 0
first_piece (c ∷ text) = piece_of (first_cut c text)

-- so many bits stand behind `'b`
abbrev pub sized : ℕ → List ℕ → Bool
sized size text = begins (codes "'b") text && nat_le 1 size && nat_le size 128 && nat_le size (prefix_len is_bit (drop 2 text))

-- the symbol of a word or a mark
unfoldable pub spelled_symbol : List ℕ → ℕ
spelled_symbol text = 5 + position spelled text

-- the longest mark at the front of a text
unfoldable pub longest_mark : List ℕ → Option (List ℕ)
longest_mark text = find (λ m. begins m text) marks

-- the symbol of a mark, and how many bytes it has
abbrev pub seen_mark : List ℕ → ℕ × ℕ
seen_mark m = (spelled_symbol m, length m)

-- a mark that no longer one begins with, with its symbol
abbrev pub IsSingle : ℕ → ℕ → Type 0
IsSingle byte symbol = (text : List ℕ) → piece_of (mark_cut (byte ∷ text)) ≡ P.Token symbol Nothing 0
