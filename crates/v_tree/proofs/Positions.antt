-- A place that is found is within its list.
use Rattle.std.proofs.Common.{◌≡◌, ◌<◌, ℕ, Bool, true, false, cond, nat_lt, ltb-true, List, length, Some, None, refl, subst}
use Rattle.std.specs.List.{position, position_or_len}
use Rattle.std.specs.Str.{bytes_eq}
use Rattle.v_tree.specs.Rows.{place_among}

abbrev pub found : Bool → ℕ → ℕ → ℕ → Type 0
found b p n i = nat_lt p n ≡ b → cond b (Some p) None ≡ Some i → i < n

found-within : (b : Bool) (p n i : ℕ) → found b p n i
found-within true p n i l e = let same : p ≡ i = cc in subst (λ k. k < n) same (ltb-true p n l)
found-within false p n i l e = cc

pub position-within : {A : Type 0} (test : A → Bool) (xs : List A) (i : ℕ) → position test xs ≡ Some i → i < length xs
position-within test xs i e = found-within (nat_lt (position_or_len test xs) (length xs)) (position_or_len test xs) (length xs) i refl e

pub place_within : (words : List (List ℕ)) (text : List ℕ) (i : ℕ) → place_among words text ≡ Some i → i < length words
place_within words text i e = position-within (λ word. bytes_eq word text) words i e
