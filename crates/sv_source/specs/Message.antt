-- The lines that the programs print on their error stream.
use Rattle.std.specs.Prelude.{ℕ, ◌==◌, not, List, [], ◌∷◌, codes, decimal}
use Rattle.std.specs.List.{concat, take_while}
use Rattle.sv_source.specs.declared.refusal.Refusal.{Refusal}

-- the bytes before the first newline
abbrev pub first_line : List ℕ → List ℕ
first_line text = take_while (λ c. not (c == 10)) text

-- FILE:LINE:COL: Ennn WORD, where a word of several lines is cut behind its first one
abbrev pub refusal_line : List ℕ → Refusal → List ℕ
refusal_line file r =
    concat (file ∷ codes ":" ∷ decimal r.place.line ∷ codes ":" ∷ decimal r.place.col ∷ codes ": E" ∷ decimal r.rule ∷ codes " " ∷ first_line r.word ∷ codes "\n" ∷ [])

-- how sv2v is called
abbrev pub usage_line : List ℕ
usage_line = codes "usage: sv2v [-I DIR] [-D NAME[=TEXT]] --top=NAME FILE...\n"

-- how sv2v_eval is called
abbrev pub eval_usage_line : List ℕ
eval_usage_line = codes "usage: sv2v_eval --lang sv|v --top NAME ROWS FILE... | --gen N\n"

abbrev pub memory_line : List ℕ
memory_line = codes "out of memory\n"

-- read fault: PATH
abbrev pub read_fault_line : List ℕ → List ℕ
read_fault_line path = concat (codes "read fault: " ∷ path ∷ codes "\n" ∷ [])

abbrev pub write_fault_line : List ℕ
write_fault_line = codes "write fault\n"

-- row K: NAME unsettled
abbrev pub unsettled_line : ℕ → List ℕ → List ℕ
unsettled_line row name = concat (codes "row " ∷ decimal row ∷ codes ": " ∷ name ∷ codes " unsettled\n" ∷ [])
