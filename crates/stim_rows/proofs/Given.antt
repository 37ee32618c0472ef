-- What a row file gives: its departure, too many rows, or its rows.
use Rattle.std.proofs.Common.{◌≡◌, sym, ◌∙◌, ap, subst, ℕ, ◌*◌, ◌-◌, ◌^◌, ◌≤◌, ◌<◌, min, List, length, Err, arith}
use Rattle.b4_core.specs.declared.bit.Bit4.{Bit4}
use Rattle.sv_source.specs.declared.refusal.Fail.{Fail}
use Rattle.sv_source.specs.declared.refusal.Fail.TheVariants.{Refused}
use Rattle.sv_source.specs.declared.refusal.Refusal.{Refusal}
use Rattle.stim_rows.specs.declared.shape.Shape.{Shape}
use Rattle.stim_rows.specs.declared.slots.Slot.{Slot}
use Rattle.stim_rows.specs.RowFiles.{RowsText}
use Rattle.stim_rows.specs.Slots.{slots_of}
use Rattle.stim_rows.specs.Departures.{Keeps, DepartsAt, departure, too_many, row_limit, RowsBreak, departs, many, RowsGive}
use Rattle.stim_rows.specs.Reading.{rows_in, count_of}
use Rattle.stim_rows.proofs.Whole.{whole, length-rows}

module _ (shape : Shape) (file : ℕ) (bytes : List ℕ) where
  refused : (f : Fail) (r b : Refusal) → f ≡ Refused r → r ≡ b → RowsBreak shape file bytes b → RowsGive shape file bytes (Err f)
  refused f r b e d broken = subst (λ g. RowsGive shape file bytes (Err g)) (sym e) (subst (RowsBreak shape file bytes) (sym d) broken)

  pub departs-there : (slots : List Slot) (at : ℕ) (f : Fail) (r : Refusal) → slots ≡ slots_of shape.inputs → DepartsAt slots bytes at
      → f ≡ Refused r → r ≡ departure shape file at → RowsGive shape file bytes (Err f)
  departs-there slots at f r e there is of = refused f r (departure shape file at) is of (departs at (subst (λ s. DepartsAt s bytes at) e there))

  module _ (slots : List Slot) (same : slots ≡ slots_of shape.inputs) (kept : Keeps slots bytes)
      (n : ℕ) (counted : n ≡ count_of (length slots) (length bytes)) where
    in-file : RowsText shape.inputs bytes (rows_in n shape.inputs (length (slots_of shape.inputs)) bytes)
    in-file = whole shape.inputs n bytes (counted ∙ ap (λ s. count_of (length s) (length bytes)) same) (subst (λ s. Keeps s bytes) same kept)

    -- a product that stops at the greatest number of 64 bits passes the limit where the product does
    pub too-many : (product : ℕ) (f : Fail) (r : Refusal) → product ≡ min (n * shape.bits) (2 ^ 64 - 1) → 268435456 < product
        → f ≡ Refused r → r ≡ too_many file → RowsGive shape file bytes (Err f)
    too-many product f r e above is of =
        refused f r (too_many file) is of
        (many (rows_in n shape.inputs (length (slots_of shape.inputs)) bytes) in-file
        (subst (λ k. row_limit < k * shape.bits) (sym (length-rows n shape.inputs (length (slots_of shape.inputs)) bytes)) (omega arith)))

    pub rows-given : (rows : List (List (List Bit4))) (product : ℕ) → product ≡ min (n * shape.bits) (2 ^ 64 - 1) → product ≤ 268435456
        → rows ≡ rows_in n shape.inputs (length slots) bytes → RowsText shape.inputs bytes rows × (length rows * shape.bits ≤ row_limit)
    rows-given rows product e below is =
        subst (λ l. RowsText shape.inputs bytes l × (length l * shape.bits ≤ row_limit)) (sym (is ∙ ap (λ s. rows_in n shape.inputs (length s) bytes) same))
        (in-file, subst (λ k. k * shape.bits ≤ row_limit) (sym (length-rows n shape.inputs (length (slots_of shape.inputs)) bytes)) (omega arith))
