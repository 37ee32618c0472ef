-- Stores that hold the same bits in signals of the same widths are the same.
use Rattle.std.proofs.Common.{◌≡◌, ℕ, suc, List, [], ◌∷◌, length, slice_index_or, refl, ap, arith}
use Rattle.b4_core.specs.declared.bit.Bit4.{Bit4}
use Rattle.b4_core.specs.declared.bit.Bit4.TheVariants.{X}
use Rattle.row_machine.specs.Valuation.{Place, Valuation}
use Rattle.round_runner.specs.Stores.{holding, widths}

cons-same : {A : Type 0} (x y : A) (xs ys : List A) → x ≡ y → xs ≡ ys → x ∷ xs ≡ y ∷ ys
cons-same x y xs ys a b = cc

vector-same : (v u : List Bit4) → length v ≡ length u → ((i : ℕ) → slice_index_or v i X ≡ slice_index_or u i X) → v ≡ u
vector-same [] [] long same = refl
vector-same [] (y ∷ ys) long same = absurd (omega arith)
vector-same (x ∷ xs) [] long same = absurd (omega arith)
vector-same (x ∷ xs) (y ∷ ys) long same = cons-same x y xs ys (same 0) (vector-same xs ys (omega arith) (λ i. same (suc i)))

store-same : (vs us : List (List Bit4)) → widths vs ≡ widths us
    → ((n i : ℕ) → slice_index_or (slice_index_or vs n []) i X ≡ slice_index_or (slice_index_or us n []) i X) → vs ≡ us
store-same [] [] shape same = refl
store-same [] (u ∷ us) shape same = cc
store-same (v ∷ vs) [] shape same = cc
store-same (v ∷ vs) (u ∷ us) shape same =
    let long : length v ≡ length u = cc in
    let rest : widths vs ≡ widths us = cc in
    cons-same v u vs us (vector-same v u long (same 0)) (store-same vs us rest (λ n. same (suc n)))

pub same-store : (vs us : List (List Bit4)) → widths vs ≡ widths us → holding vs ≡ holding us → vs ≡ us
same-store vs us shape values =
    store-same vs us shape (λ n i. let q : Place = record { signal = n; bit = i } in ap (λ (v : Valuation). v q) values)
