-- What row files are, said twice: the texts of rows are the texts that depart nowhere, and a text has one reading.
use Rattle.std.specs.Prelude.{◌≡◌, ℕ, List}
use Rattle.b4_core.specs.declared.bit.Bit4.{Bit4}
use Rattle.stim_rows.specs.declared.shape.Port.{Port}
use Rattle.stim_rows.specs.Slots.{slots_of}
use Rattle.stim_rows.specs.RowFiles.{RowsText}
use Rattle.stim_rows.specs.Departures.{Keeps, DepartsAt}

-- a text of rows departs nowhere
abbrev pub RowsKeep : Type 0
RowsKeep = (inputs : List Port) (bytes : List ℕ) (rows : List (List (List Bit4))) → RowsText inputs bytes rows → Keeps (slots_of inputs) bytes

-- so one that departs is the text of no rows
abbrev pub NoneDeparts : Type 0
NoneDeparts = (inputs : List Port) (bytes : List ℕ) (rows : List (List (List Bit4))) (k : ℕ) → RowsText inputs bytes rows → DepartsAt (slots_of inputs) bytes k → ⊥

-- a text is that of one list of rows
abbrev pub OneReading : Type 0
OneReading = (inputs : List Port) (bytes : List ℕ) (rows others : List (List (List Bit4))) → RowsText inputs bytes rows → RowsText inputs bytes others → rows ≡ others
