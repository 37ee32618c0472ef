-- How the rows of the grammar stand in the code's text.
use Rattle.std.specs.Prelude.{ℕ, List, [], ◌∷◌, ◌==◌, map, false, if◌then◌else◌, codes}
use Rattle.std.specs.List.{slice_split}
use Rattle.std.specs.Str.{bytes_eq}
use Rattle.ll_engine.specs.declared.table.Part.{Part}
use Rattle.ll_engine.specs.declared.table.Part.TheVariants.{Term, Non, Maybe, Many, Chain}
use Rattle.ll_engine.specs.declared.table.Row.{Row}
use Rattle.sv_tree.specs.declared.symbols.TheConstants.{OTHER, IDENTIFIER}
use Rattle.sv_tree.specs.declared.rows.TheConstants.{HEADS, CLASSES}
use Rattle.sv_tree.specs.Symbols.{words_of, symbol_among, mark_symbol, word_symbol}

unfoldable pub head_number : List ℕ → ℕ
head_number name = symbol_among 0 (words_of HEADS.now) name

unfoldable pub class_symbol : List ℕ → ℕ
class_symbol name = symbol_among IDENTIFIER (words_of CLASSES.now) name

-- the symbol of a mark, or else of a reserved word
abbrev pub token_symbol : List ℕ → ℕ
token_symbol text = if mark_symbol text == OTHER then word_symbol text else mark_symbol text

-- the part that a letter before a name says
abbrev pub part_by : ℕ → List ℕ → Part
part_by c name =
    if c == 39 then Term (token_symbol name)
    else (if c == 35 then Term (class_symbol name)
    else (if c == 63 then Maybe (head_number name)
    else (if c == 42 then Many (head_number name)
    else (if c == 43 then Chain (head_number name)
    else Non (head_number (c ∷ name))))))

abbrev pub part_of : List ℕ → Part
part_of [] = Term OTHER
part_of (c ∷ name) = part_by c name

abbrev pub row_from : List (List ℕ) → Row
row_from [] = record { head = 0; parts = []; deep = false }
row_from (head ∷ []) = record { head = 0; parts = []; deep = false }
row_from (head ∷ sign ∷ parts) = record { head = head_number head; parts = map part_of parts; deep = bytes_eq sign (codes ">") }

abbrev pub row_of : List ℕ → Row
row_of line = row_from (words_of line)

-- the rows of a text, a line for each
abbrev pub rows_of : List ℕ → List Row
rows_of text = map row_of (slice_split (λ c. c == 10) text)
