-- What crates above use of sv_source.
pub use Rattle.sv_source.specs.declared.token.Place.{Place}
pub use Rattle.sv_source.specs.declared.token.Spot.{Spot}
pub use Rattle.sv_source.specs.declared.token.Token.{Token}
pub use Rattle.sv_source.specs.declared.token.Kind.TheVariants.{Name}
