-- What crates above use of sv_types.
pub use Rattle.sv_types.specs.Surroundings.{local_number, is_signal}
