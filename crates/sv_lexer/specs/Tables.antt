-- The reserved words and the marks, as the code's tables list them.
use Rattle.std.specs.Prelude.{ℕ, Bool, ◌==◌, ◌&&◌, nat_lt, if◌then◌else◌, List, [], ◌∷◌, length}
use Rattle.std.specs.List.{slice_split, list_any}
use Rattle.std.specs.Str.{bytes_eq}
use Rattle.sv_lexer.specs.declared.tables.TheConstants as table
use Rattle.sv_lexer.specs.Spans.{begins}

-- the words of a table, which spaces separate
abbrev pub words_of : List ℕ → List (List ℕ)
words_of text = slice_split (λ c. c == 32) text

unfoldable pub reserved_words : List (List ℕ)
reserved_words = words_of table.RESERVED.now

unfoldable pub marks : List (List ℕ)
marks = words_of table.MARKS.now

abbrev pub is_reserved : List ℕ → Bool
is_reserved name = list_any (λ word. bytes_eq word name) reserved_words

-- the length of the longest of these that begins the text, or the least length given
abbrev pub longest_of : List ℕ → ℕ → List (List ℕ) → ℕ
longest_of bytes least [] = least
longest_of bytes least (m ∷ ms) = longest_of bytes (if nat_lt least (length m) && begins bytes m then length m else least) ms

abbrev pub mark_span : List ℕ → ℕ
mark_span bytes = longest_of bytes 0 marks
