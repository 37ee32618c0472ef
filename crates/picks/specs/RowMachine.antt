-- What crates above use of row_machine.
unfoldable pub use Rattle.row_machine.specs.Valuation.{has}
pub use Rattle.row_machine.specs.Valuation.{Place, put, Changes, Valuation, changed}
pub use Rattle.row_machine.specs.Places.{places_of, vector_at, bits_from}
pub use Rattle.row_machine.specs.Steps.{unchanged, then_changes, is_edge}
pub use Rattle.row_machine.specs.Runs.{trace_of}
