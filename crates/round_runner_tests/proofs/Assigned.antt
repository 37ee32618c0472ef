-- A bit of a store is assigned.
use Rattle.std.proofs.Common.{◌≡◌, ℕ, ◌<◌, ◌==◌, ◌&&◌, Bool, true, cond, List, [], length, slice_index_or, slice_set, Some, None, refl, sym, ap, ◌∙◌, inl, inr, arith}
use Rattle.std.proofs.Math.Seq.{map-set_same}
use Rattle.std.proofs.lemmas.Bool.{cases_Bool, eqb-true, eqb-false}
use Rattle.std.proofs.lemmas.Grind.{get_or-set_at}
use Rattle.std.proofs.lemmas.List.{get_or-set_other, get_or-replicate, length-set}
use Rattle.b4_core.specs.declared.bit.Bit4.{Bit4}
use Rattle.b4_core.specs.declared.bit.Bit4.TheVariants.{X}
use Rattle.row_machine.specs.Valuation.{Place, changed, put}
use Rattle.round_runner.specs.Stores.{holding, widths, vector_of, Changed}
use Rattle.round_runner.proofs.Compared.{width_at, read}
use Rattle.round_runner_tests.specs.Netlists.{assigned, ones}

pub one_bit : (store : List (List Bit4)) (n to : ℕ) (v : List Bit4) → widths store ≡ ones n → to < n → n ≡ length store → v ≡ slice_index_or store to v → length v ≡ 1
one_bit store n to v shape there size is_v =
    ap length (read store to v (omega arith) is_v) ∙ sym (width_at store to) ∙ ap (λ ws. slice_index_or ws to 0) shape ∙ get_or-replicate n to 1 0 there

pub bit_assigned : (store : List (List Bit4)) (to : ℕ) (b : Bit4) (v w : List Bit4) → to < length store → widths store ≡ ones (length store) → v ≡ slice_index_or store to v → w ≡ slice_set v 0 b
    → Changed (assigned to true b) store (slice_set store to w)
bit_assigned store to b v w there shape is_v is_w = record {
  values = λ k q. at q k;
  shape = map-set_same (λ (u : List Bit4). length u) store to w [] (ap length is_w ∙ length-set v 0 b ∙ ap length (read store to v there is_v));
}
  where
    some_bit : length v ≡ 1
    some_bit = one_bit store (length store) to v shape there refl is_v

    at : (q : Place) → holding (slice_set store to w) q ≡ put (assigned to true b) (holding store) q
    at q =
        let right : Bool → Bool → Bit4 = λ s k. changed (cond (s && k && true) (Some b) None) (holding store q) in
        elim (cases_Bool (q.signal == to)) [
          | inr other ↦
              ap (λ (u : List Bit4). slice_index_or u q.bit X) (get_or-set_other store to q.signal w [] (eqb-false q.signal to other))
              ∙ ap (λ s. right s (q.bit == 0)) (sym other)
          | inl same ↦
              ap (λ (u : List Bit4). slice_index_or u q.bit X) (get_or-set_at store to q.signal w [] (eqb-true q.signal to same) there ∙ is_w)
              ∙ elim (cases_Bool (q.bit == 0)) [
                | inl zeroth ↦ get_or-set_at v 0 q.bit b X (eqb-true q.bit 0 zeroth) (omega (arith, some_bit)) ∙ ap (λ k. right true k) (sym zeroth)
                | inr other ↦
                    get_or-set_other v 0 q.bit b X (eqb-false q.bit 0 other)
                    ∙ ap (λ (u : List Bit4). slice_index_or u q.bit X) (read store to v there is_v ∙ ap (λ n. vector_of store n) (sym (eqb-true q.signal to same)))
                    ∙ ap (λ k. right true k) (sym other)
              ]
              ∙ ap (λ s. right s (q.bit == 0)) (sym same)
        ]
