-- Two lists of one length whose elements stand in a relation, pair by pair.
use Rattle.std.specs.Prelude.{◌≡◌, ℕ, List, length, Some, slice_get}

pub record Pairs {A B : Type 0} (R : A → B → Type 0) (xs : List A) (ys : List B) : Type 0 where
  pub long : length xs ≡ length ys
  pub each : (i : ℕ) (x : A) (y : B) → slice_get xs i ≡ Some x → slice_get ys i ≡ Some y → R x y
