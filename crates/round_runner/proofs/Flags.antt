-- Flags of the processes that are started at time zero.
use Rattle.std.proofs.Common.{◌≡◌, ℕ, zero, suc, ◌+◌, ◌<◌, ◌≤◌, Bool, List, [], ◌∷◌, ◌++◌, length, map, take, Some, slice_get, sym, ap, ◌∙◌, arith}
use Rattle.std.proofs.lemmas.List.{take_all}
use Rattle.row_machine.specs.Machine.{Machine, at_zero}
use Rattle.round_runner.specs.Parts.{StartsAtZero, StartsWith}
use Rattle.round_runner.proofs.Elements.{element}

mapped_more : {A B : Type 0} (f : A → B) (xs : List A) (i : ℕ) (x : A) → slice_get xs i ≡ Some x → map f (take (i + 1) xs) ≡ map f (take i xs) ++ f x ∷ []
mapped_more f [] i x e = cc
mapped_more f (y ∷ xs) zero x e = let same : y ≡ x = cc in ap (λ z. f z ∷ []) same
mapped_more f (y ∷ xs) (suc i) x e =
    (let n : suc i + 1 ≡ suc (i + 1) = omega arith in ap (λ k. map f (take k (y ∷ xs))) n) ∙ ap (λ ys. f y ∷ ys) (mapped_more f xs i x e)

pub flag_more : (d : Machine) (flags next : List Bool) (b : Bool) (i : ℕ) → i < length d.combs → StartsAtZero d.combs i b → next ≡ flags ++ b ∷ []
    → flags ≡ map at_zero (take i d.combs) → next ≡ map at_zero (take (i + 1) d.combs)
flag_more d flags next b i h starts e before =
    let p = element d.combs i h in
    e ∙ ap (λ fs. fs ++ b ∷ []) before ∙ ap (λ c. map at_zero (take i d.combs) ++ c ∷ []) (starts.told p.0 p.1) ∙ sym (mapped_more at_zero d.combs i p.0 p.1)

pub flags_all : (d : Machine) (flags : List Bool) (i : ℕ) → length d.combs ≤ i → flags ≡ map at_zero (take i d.combs) → StartsWith d flags
flags_all d flags i h e = record { marks = record { all = e ∙ ap (map at_zero) (take_all i d.combs h) } }
