-- The parts of a row that are left.
use Rattle.std.proofs.Common.{◌≡◌, ◌+◌, ◌++◌, ℕ, zero, suc, List, [], ◌∷◌, refl, ap, drop, slice_get, map, reverse, add-one}
use Rattle.std.proofs.lemmas.List.{reverse-append}
use Rattle.ll_engine.specs.declared.table.Part.{Part}
use Rattle.ll_engine.specs.declared.table.Row.{Row}
use Rattle.ll_engine.specs.declared.machine.Frame.{Frame}
use Rattle.ll_engine.specs.Machine.{level_of}
use Rattle.ll_engine.specs.Steps.{first_of}

pub first_drop : (n : ℕ) (xs : List Part) → first_of (drop n xs) ≡ slice_get xs n
first_drop zero [] = refl
first_drop zero (x ∷ xs) = refl
first_drop (suc n) [] = refl
first_drop (suc n) (x ∷ xs) = first_drop n xs

drop_suc : (n : ℕ) (xs : List Part) → drop (suc n) xs ≡ drop 1 (drop n xs)
drop_suc zero xs = refl
drop_suc (suc n) [] = refl
drop_suc (suc n) (x ∷ xs) = drop_suc n xs

pub drop_one : (n : ℕ) (xs : List Part) → drop (n + 1) xs ≡ drop 1 (drop n xs)
drop_one n xs = rw add-one (drop_suc n xs)

pub below_push : (t : List Row) (fs : List Frame) (f : Frame)
    → map (level_of t) (reverse (fs ++ f ∷ [])) ≡ level_of t f ∷ map (level_of t) (reverse fs)
below_push t fs f = ap (map (level_of t)) (reverse-append fs (f ∷ []))
