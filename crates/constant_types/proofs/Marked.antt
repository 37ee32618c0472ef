-- Marks of functions.
use Rattle.std.proofs.Common.{◌≡◌, ℕ, Bool, false, List, Some, None}
use Rattle.std.specs.Prelude.{slice_get, slice_index_or}
use Rattle.std.proofs.lemmas.Option.{unwrap_or-slice_get}

pub marked-some : (marks : List Bool) (n : ℕ) (b : Bool) → Some b ≡ slice_get marks n → b ≡ slice_index_or marks n false
marked-some marks n b e = let h = unwrap_or-slice_get marks n false in cc

pub marked-none : (marks : List Bool) (n : ℕ) → None ≡ slice_get marks n → false ≡ slice_index_or marks n false
marked-none marks n e = let h = unwrap_or-slice_get marks n false in cc

pub ruleset marked = (marked-some, marked-none)
