-- What crates above cite of routine_fits.
pub use Rattle.routine_fits.proofs.Functions.{all-run}
