-- What crates above cite of eval_stmts.
pub use Rattle.eval_stmts.proofs.Places.{perhaps_place, place-Block, place-If, item_place, item-place, place-Case, place-Loop, place-Assign}
