-- What crates above use of b4_core.
pub use Rattle.b4_core.specs.declared.bit.Bit4.{Bit4}
pub use Rattle.b4_core.specs.declared.bit.Bit4.TheVariants.{X}
