-- What crates above use of pattern_fit.
pub use Rattle.pattern_fit.specs.declared.pattern.PatternItem.{PatternItem}
pub use Rattle.pattern_fit.specs.declared.pattern.Rest.{Rest}
pub use Rattle.pattern_fit.specs.Same.{same_type, of_member, same_bool, of_scalar, is_packed_array, same_members, of_struct, of_union, of_enum, is_unpacked_array}
