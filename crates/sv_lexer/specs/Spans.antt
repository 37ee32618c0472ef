-- How many bytes of each kind begin a text, and 0 where the text begins with none of the kind.
use Rattle.std.specs.Prelude.{ℕ, ◌+◌, Bool, not, ◌==◌, ◌&&◌, ◌||◌, nat_lt, if◌then◌else◌, List, [], ◌∷◌, length, drop, take_while, codes}
use Rattle.std.specs.List.{starts_with}
use Rattle.std.specs.Prelude.{nat_eq}
use Rattle.sv_lexer.specs.Bytes.{is_white, is_digit, is_letter, is_word, is_decimal}

-- how many bytes at the front pass the test
abbrev pub run : (ℕ → Bool) → List ℕ → ℕ
run test bytes = length (take_while test bytes)

-- how many bytes stand before the first place where the test passes, or before the end
abbrev pub until : (List ℕ → Bool) → List ℕ → ℕ
until stop [] = 0
until stop (c ∷ cs) = if stop (c ∷ cs) then 0 else until stop cs + 1

-- one byte more, where there are some
abbrev pub one_more : ℕ → ℕ
one_more n = if n == 0 then 0 else n + 1

-- the byte, and then this many
abbrev pub behind : ℕ → (List ℕ → ℕ) → List ℕ → ℕ
behind byte span [] = 0
behind byte span (c ∷ cs) = if c == byte then one_more (span cs) else 0

abbrev pub begins : List ℕ → List ℕ → Bool
begins bytes text = starts_with nat_eq bytes text

-- the text itself
abbrev pub fixed : List ℕ → List ℕ → ℕ
fixed text bytes = if begins bytes text then length text else 0

abbrev pub white_span : List ℕ → ℕ
white_span bytes = run is_white bytes

abbrev pub line_span : List ℕ → ℕ
line_span bytes = fixed (codes "\n") bytes

-- a backslash and a newline, with or without a carriage return between them
abbrev pub continued_span : List ℕ → ℕ
continued_span bytes = if begins bytes (codes "\\\n") then 2 else fixed (codes "\\\r\n") bytes

-- a newline begins here, or a backslash that takes one away
abbrev pub ends_line : List ℕ → Bool
ends_line bytes = begins bytes (codes "\n") || begins bytes (codes "\\\n") || begins bytes (codes "\\\r\n")

-- `//` to the end of the line
abbrev pub line_comment_span : List ℕ → ℕ
line_comment_span bytes = if begins bytes (codes "//") then until ends_line bytes else 0

-- `*/` begins here
abbrev pub closes_comment : List ℕ → Bool
closes_comment bytes = begins bytes (codes "*/")

-- the bytes of a comment behind its `/*`, up to the first `*/`
abbrev pub comment_body : List ℕ → ℕ
comment_body bytes = until closes_comment (drop 2 bytes)

-- `/*` to the first `*/`, where there is one
abbrev pub block_comment_span : List ℕ → ℕ
block_comment_span bytes = if begins bytes (codes "/*") && nat_lt (comment_body bytes + 2) (length bytes) then comment_body bytes + 4 else 0

-- `/*` to the end of the file, where no `*/` comes
abbrev pub cut_span : List ℕ → ℕ
cut_span bytes = if begins bytes (codes "/*") && not (nat_lt (comment_body bytes + 2) (length bytes)) then length bytes else 0

-- a letter or underscore, and what goes on a name
abbrev pub name_span : List ℕ → ℕ
name_span [] = 0
name_span (c ∷ cs) = if is_letter c then run is_word cs + 1 else 0

-- `$` and a name
abbrev pub system_span : List ℕ → ℕ
system_span bytes = behind 36 name_span bytes

-- a backquote and a name
abbrev pub directive_span : List ℕ → ℕ
directive_span bytes = behind 96 name_span bytes

-- two backquotes
abbrev pub paste_span : List ℕ → ℕ
paste_span bytes = fixed (codes "``") bytes

-- a backquote and a quote, or a backquote, backslash, backquote and quote
abbrev pub quote_span : List ℕ → ℕ
quote_span bytes = if begins bytes (codes "`\"") then 2 else fixed (codes "`\\`\"") bytes

-- a digit, and then digits and underscores
abbrev pub decimal_span : List ℕ → ℕ
decimal_span [] = 0
decimal_span (c ∷ cs) = if is_digit c then run is_decimal cs + 1 else 0
