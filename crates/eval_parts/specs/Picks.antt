-- What crates above use of picks.
pub use Rattle.picks.specs.Windows.{picked, tabulated, Window, whole, written}
