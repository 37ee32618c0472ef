-- What crates above use of pattern_fit.
pub use Rattle.pattern_fit.specs.declared.pattern.PatternItem.TheVariants.{Item, Default, Spread}
