-- Stores, compared.
use Rattle.std.proofs.Common.{◌≡◌, ◌≢◌, ℕ, ◌<◌, List, [], length, slice_index_or, sym, ap, ◌∙◌, arith}
use Rattle.std.proofs.Math.ListN.{get_or-map}
use Rattle.std.proofs.lemmas.List.{length-map, get_or_default}
use Rattle.b4_core.specs.declared.bit.Bit4.{Bit4}
use Rattle.b4_core.specs.declared.bit.Bit4.TheVariants.{X}
use Rattle.round_runner.specs.Stores.{widths, vector_of, FirstChange}
use Rattle.round_runner.specs.Plans.{DiffersAt}

abbrev Store : Type 0
Store = List (List Bit4)

widths-length : (vs : Store) → length (widths vs) ≡ length vs
widths-length vs = length-map vs (λ (v : List Bit4). length v)

pub same_size : (vs us : Store) → widths vs ≡ widths us → length vs ≡ length us
same_size vs us e = sym (widths-length vs) ∙ ap length e ∙ widths-length us

pub width_at : (vs : Store) (n : ℕ) → slice_index_or (widths vs) n 0 ≡ length (vector_of vs n)
width_at vs n = get_or-map (λ (v : List Bit4). length v) vs n []

-- a vector that was read
pub read : (vs : Store) (n : ℕ) (v : List Bit4) → n < length vs → v ≡ slice_index_or vs n v → v ≡ vector_of vs n
read vs n v h e = e ∙ get_or_default vs n v [] h

pub same_width : (vs us : Store) (n : ℕ) (v u a b : List Bit4) → widths vs ≡ widths us → n < length vs → v ≡ slice_index_or vs n v → u ≡ slice_index_or us n u
    → a ≡ v → b ≡ u → length a ≡ length b
same_width vs us n v u a b e h is_v is_u to_v to_u =
    let there : n < length us = omega (arith, same_size vs us e) in
    ap length (to_v ∙ read vs n v h is_v) ∙ sym (width_at vs n) ∙ ap (λ ws. slice_index_or ws n 0) e ∙ width_at us n ∙ sym (ap length (to_u ∙ read us n u there is_u))

pub first : (vs us : Store) (n k : ℕ) (v u a b : List Bit4) → widths vs ≡ widths us → n < length vs → v ≡ slice_index_or vs n v → u ≡ slice_index_or us n u
    → a ≡ v → b ≡ u → slice_index_or a k X ≢ slice_index_or b k X → ((j : ℕ) → j < n → vector_of vs j ≡ vector_of us j) → FirstChange vs us n
first vs us n k v u a b e h is_v is_u to_v to_u apart before =
    let there : n < length us = omega (arith, same_size vs us e) in record {
      here = h;
      bit = k;
      differs = λ same. apart
          (ap (λ w. slice_index_or w k X) (to_v ∙ read vs n v h is_v) ∙ same ∙ sym (ap (λ w. slice_index_or w k X) (to_u ∙ read us n u there is_u)));
      before = before;
    }

pub differs_at : (vs us : Store) (n : ℕ) (v u : List Bit4) → v ≡ vector_of vs n → u ≡ vector_of us n → ((k : ℕ) × (slice_index_or v k X ≢ slice_index_or u k X)) → DiffersAt vs us n
differs_at vs us n v u is_v is_u apart = record {
  bit = apart.0;
  differs = λ same. apart.1 (ap (λ w. slice_index_or w apart.0 X) is_v ∙ same ∙ sym (ap (λ w. slice_index_or w apart.0 X) is_u));
}
