-- The code's text is the table of the grammar.
use Rattle.std.proofs.Common.{◌≡◌, ◌∙◌, ◌==◌, ℕ, Bor, List, map, Result, Ok, Err, IfOk, refl, ap}
use Rattle.std.specs.List.{slice_split}
use Rattle.ll_engine.specs.declared.table.Row.{Row}
use Rattle.v_tree.specs.declared.grammar_text.TheConstants.{ROWS}
use Rattle.v_tree.specs.Rows.{row_of, rows_of, head_number, class_symbol, token_symbol}
use Rattle.v_tree.specs.Table.{table}
use Rattle.v_tree.proofs.Lines.{each-now}

pub rows_are : rows_of ROWS.now ≡ table
unfolding head_number class_symbol token_symbol
rows_are = refl

-- so are the rows that are read of its lines
pub rows-read : {E : Type 0} (lines : List (Bor (List ℕ))) (r : Result (List Row) E) → IfOk r (λ rows. rows ≡ map (λ line. row_of line.now) lines)
    → map (λ line. line.now) lines ≡ slice_split (λ c. c == 10) ROWS.now → IfOk r (λ rows. rows ≡ table)
rows-read lines (Ok rows) e s = e ∙ each-now row_of lines ∙ ap (map row_of) s ∙ rows_are
rows-read lines (Err x) e s = tt
