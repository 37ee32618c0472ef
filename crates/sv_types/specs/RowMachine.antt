-- What crates above use of row_machine.
pub use Rattle.picks.specs.RowMachine.{Valuation}
pub use Rattle.picks.specs.RowMachine.{bits_from}
