-- What crates above use of row_machine.
pub use Rattle.row_machine.specs.Machine.{Process, EdgeProcess, Machine}
