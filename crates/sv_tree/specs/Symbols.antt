-- The terminal symbols of the grammar. Those of marks and of reserved words go by the place of the text in the code's lists.
use Rattle.std.specs.Prelude.{ℕ, ◌+◌, ◌==◌, List, Option, Some, None, if◌then◌else◌, codes}
use Rattle.std.specs.List.{position, slice_split}
use Rattle.std.specs.Str.{bytes_eq}
use Rattle.sv_source.specs.declared.token.Kind.{Kind}
use Rattle.sv_source.specs.declared.token.Kind.TheVariants as Kinds
use Rattle.sv_source.specs.declared.token.Token.{Token}
use Rattle.sv_tree.specs.declared.symbols.TheConstants.{OTHER, IDENTIFIER, SYSTEM, DECIMAL, BASED, FILL, END, FIRST_MARK, FIRST_WORD, MARKS, WORDS}

-- the words of a list, which spaces separate
abbrev pub words_of : List ℕ → List (List ℕ)
words_of text = slice_split (λ c. c == 32) text

abbrev pub numbered : ℕ → Option ℕ → ℕ
numbered first None = OTHER
numbered first (Some place) = first + place

abbrev pub place_among : List (List ℕ) → List ℕ → Option ℕ
place_among words text = position (λ word. bytes_eq word text) words

-- the place of the text among the words, counted from `first`
abbrev pub symbol_among : ℕ → List (List ℕ) → List ℕ → ℕ
symbol_among first words text = numbered first (place_among words text)

unfoldable pub mark_symbol : List ℕ → ℕ
mark_symbol text = symbol_among FIRST_MARK (words_of MARKS.now) text

unfoldable pub word_symbol : List ℕ → ℕ
word_symbol text = symbol_among FIRST_WORD (words_of WORDS.now) text

-- a system function of the grammar
abbrev pub system_symbol : List ℕ → ℕ
system_symbol text =
    if bytes_eq text (codes "$bits") then SYSTEM
    else (if bytes_eq text (codes "$clog2") then SYSTEM
    else (if bytes_eq text (codes "$signed") then SYSTEM
    else (if bytes_eq text (codes "$unsigned") then SYSTEM
    else OTHER)))

-- the symbol of a token by its kind
abbrev pub symbol_by : Kind → List ℕ → ℕ
symbol_by Kinds.Name text = IDENTIFIER
symbol_by Kinds.Reserved text = word_symbol text
symbol_by Kinds.Decimal text = DECIMAL
symbol_by Kinds.Based text = BASED
symbol_by Kinds.Fill text = FILL
symbol_by Kinds.Mark text = mark_symbol text
symbol_by Kinds.System text = system_symbol text
symbol_by Kinds.Str text = OTHER
symbol_by Kinds.Directive text = OTHER
symbol_by Kinds.Paste text = OTHER
symbol_by Kinds.Quote text = OTHER
symbol_by Kinds.Line text = OTHER
symbol_by Kinds.Continued text = OTHER
symbol_by Kinds.Cut text = OTHER
symbol_by Kinds.Bad text = OTHER
symbol_by Kinds.End text = END

abbrev pub symbol_of : Token → ℕ
symbol_of token = symbol_by token.kind token.text
