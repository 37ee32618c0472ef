-- What crates above use of sv_types.
pub use Rattle.sv_types.specs.declared.statement.Function.{Function}
