-- The rows from one line on are the row in this line and those in the lines behind it.
use Rattle.std.proofs.Common.{◌≡◌, sym, ◌∙◌, ℕ, suc, ◌+◌, ◌-◌, ◌<◌, List, [], ◌∷◌, ◌++◌, length, drop, ap, arith}
use Rattle.std.proofs.lemmas.List.{append_assoc, length-append}
use Rattle.b4_core.specs.declared.bit.Bit4.{Bit4}
use Rattle.stim_rows.specs.declared.shape.Port.{Port}
use Rattle.stim_rows.specs.Reading.{row_in, rows_in}

rows-from : (n k : ℕ) (inputs : List Port) (size : ℕ) (bytes : List ℕ) → k < n
    → rows_in (n - k) inputs size bytes ≡ row_in inputs bytes ∷ rows_in (n - suc k) inputs size (drop size bytes)
rows-from n k inputs size bytes below = ap (λ m. rows_in m inputs size bytes) same
  where
    same : n - k ≡ suc (n - suc k)
    same = omega arith

pub rows-step : (rows : List (List (List Bit4))) (n : ℕ) (inputs : List Port) (size : ℕ) (bytes : List ℕ) → length rows < n
    → (rows ++ row_in inputs bytes ∷ []) ++ rows_in (n - length (rows ++ row_in inputs bytes ∷ [])) inputs size (drop size bytes) ≡ rows ++ rows_in (n - length rows) inputs size bytes
rows-step rows n inputs size bytes below =
    ap (λ k. (rows ++ row_in inputs bytes ∷ []) ++ rows_in (n - k) inputs size (drop size bytes)) (length-append rows (row_in inputs bytes ∷ []) ∙ one (length rows))
    ∙ append_assoc rows (row_in inputs bytes ∷ []) (rows_in (n - suc (length rows)) inputs size (drop size bytes))
    ∙ ap (λ l. rows ++ l) (sym (rows-from n (length rows) inputs size bytes below))
  where
    one : (k : ℕ) → k + 1 ≡ suc k
    one k = omega arith
