-- How the rows of the grammar stand in the code's text.
use Rattle.std.specs.Prelude.{ℕ, ◌+◌, List, [], ◌∷◌, ◌==◌, map, false, Option, Some, None, if◌then◌else◌, codes}
use Rattle.std.specs.List.{position, slice_split}
use Rattle.std.specs.Str.{bytes_eq}
use Rattle.ll_engine.specs.declared.table.Part.{Part}
use Rattle.ll_engine.specs.declared.table.Part.TheVariants.{Term, Non, Maybe, Many}
use Rattle.ll_engine.specs.declared.table.Row.{Row}
use Rattle.v_tree.specs.declared.grammar_text.TheConstants.{HEADS, CLASSES, SPELLED}
use Rattle.v_tree.specs.Reserved.{words_of}

abbrev pub numbered : ℕ → Option ℕ → ℕ
numbered first None = 0
numbered first (Some place) = first + place

abbrev pub place_among : List (List ℕ) → List ℕ → Option ℕ
place_among words text = position (λ word. bytes_eq word text) words

-- the place of the text among the words, counted from `first`
abbrev pub symbol_among : ℕ → List (List ℕ) → List ℕ → ℕ
symbol_among first words text = numbered first (place_among words text)

unfoldable pub head_number : List ℕ → ℕ
head_number name = symbol_among 0 (words_of HEADS.now) name

unfoldable pub class_symbol : List ℕ → ℕ
class_symbol name = symbol_among 1 (words_of CLASSES.now) name

-- the symbol of a word or a mark
unfoldable pub token_symbol : List ℕ → ℕ
token_symbol text = symbol_among 5 (words_of SPELLED.now) text

-- the part that a letter before a name says
abbrev pub part_by : ℕ → List ℕ → Part
part_by c name =
    if c == 39 then Term (token_symbol name)
    else (if c == 35 then Term (class_symbol name)
    else (if c == 63 then Maybe (head_number name)
    else (if c == 42 then Many (head_number name)
    else Non (head_number (c ∷ name)))))

abbrev pub part_of : List ℕ → Part
part_of [] = Term 0
part_of (c ∷ name) = part_by c name

abbrev pub row_from : List (List ℕ) → Row
row_from [] = record { head = 0; parts = []; deep = false }
row_from (head ∷ []) = record { head = 0; parts = []; deep = false }
row_from (head ∷ sign ∷ parts) = record { head = head_number head; parts = map part_of parts; deep = bytes_eq sign (codes ">") }

abbrev pub row_of : List ℕ → Row
row_of line = row_from (words_of line)

-- the rows of a text, a line for each
abbrev pub rows_of : List ℕ → List Row
rows_of text = map row_of (slice_split (λ c. c == 10) text)
