-- A row in the inputs.
use Rattle.std.proofs.Common.{◌≡◌, ◌≢◌, ℕ, ◌<◌, ◌==◌, ◌&&◌, ◌||◌, nat_lt, Bool, true, false, cond, List, [], ◌∷◌, length, slice_index_or, refl, sym, ap, ◌∙◌, subst, inl, inr, arith}
use Rattle.std.specs.List.{list_any}
use Rattle.std.proofs.Math.Seq.{map-set_same}
use Rattle.std.proofs.lemmas.Slice.Zip.{AllZip-long}
use Rattle.std.proofs.lemmas.Grind.{get_or-set_at}
use Rattle.std.proofs.lemmas.Bool.{cases_Bool, eqb-true, eqb-false, ltb-false}
use Rattle.std.proofs.lemmas.List.{get_or-set_other, get_or_past, length-map}
use Rattle.b4_core.specs.declared.bit.Bit4.{Bit4}
use Rattle.b4_core.specs.declared.bit.Bit4.TheVariants.{X}
use Rattle.row_machine.specs.Valuation.{Place, Member}
use Rattle.row_machine.specs.Machine.{Machine, base_of}
use Rattle.row_machine.proofs.Basics.{member_at}
use Rattle.round_runner.specs.Stores.{holding, widths, vector_of}
use Rattle.round_runner.specs.Parts.{InputsAre}
use Rattle.round_runner.specs.Rows.{row_of, FitsRow, with_vectors, WithRow}
use Rattle.round_runner.proofs.Compared.{width_at, same_size}

abbrev Store : Type 0
Store = List (List Bit4)

abbrev There : List ℕ → ℕ → Type 0
There ns size = (n : ℕ) → Member ns n → n < size

module _ (s : Store) where
  keeps_widths : (ns : List ℕ) (vs : Store) → FitsRow (widths s) ns vs → widths (with_vectors ns vs s) ≡ widths s
  keeps_widths [] [] fits = refl
  keeps_widths [] (v ∷ vs) fits = absurd fits
  keeps_widths (n ∷ ns) [] fits = absurd fits
  keeps_widths (n ∷ ns) (v ∷ vs) fits =
      let before = keeps_widths ns vs fits.1 in
      let same : length v ≡ length (vector_of (with_vectors ns vs s) n) = fits.0 ∙ ap (λ ws. slice_index_or ws n 0) (sym before) ∙ width_at (with_vectors ns vs s) n in
      map-set_same (λ (u : List Bit4). length u) (with_vectors ns vs s) n v [] same ∙ before

  -- a bit that isn't there
  past : (v : List Bit4) (q : Place) → length v ≡ slice_index_or (widths s) q.signal 0 → nat_lt q.bit (slice_index_or (widths s) q.signal 0) ≡ false → slice_index_or v q.bit X ≡ X
  past v q e h = get_or_past v q.bit X (omega (arith, ltb-false q.bit (slice_index_or (widths s) q.signal 0) h))

  in_range : Place → Bool
  in_range q = nat_lt q.bit (slice_index_or (widths s) q.signal 0)

  at_signal : (v : List Bit4) (q : Place) (rest : Bit4) (any : Bool) → length v ≡ slice_index_or (widths s) q.signal 0
      → slice_index_or v q.bit X ≡ cond ((true || any) && in_range q) (cond true (slice_index_or v q.bit X) rest) (holding s q)
  unfolding in_range
  at_signal v q rest any e =
      elim (cases_Bool (nat_lt q.bit (slice_index_or (widths s) q.signal 0))) [
        | inl within ↦ ap (λ b. cond b (slice_index_or v q.bit X) (holding s q)) (sym within)
        | inr outside ↦
            past v q e outside ∙ sym (past (vector_of s q.signal) q (sym (width_at s q.signal)) outside)
            ∙ ap (λ b. cond b (slice_index_or v q.bit X) (holding s q)) (sym outside)
      ]

  holds_vectors : (ns : List ℕ) (vs : Store) → FitsRow (widths s) ns vs → There ns (length s) → (q : Place)
      → holding (with_vectors ns vs s) q ≡ cond (list_any (λ n. n == q.signal) ns && in_range q) (row_of ns vs q) (holding s q)
  holds_vectors [] [] fits there q = refl
  holds_vectors [] (v ∷ vs) fits there q = absurd fits
  holds_vectors (n ∷ ns) [] fits there q = absurd fits
  holds_vectors (n ∷ ns) (v ∷ vs) fits there q =
      let rest = holds_vectors ns vs fits.1 (λ m h. there m (inr h)) q in
      let kept = keeps_widths ns vs fits.1 in
      let made : Store = with_vectors ns vs s in
      let right : Bool → Bit4 = λ b. cond ((b || list_any (λ n. n == q.signal) ns) && in_range q) (cond b (slice_index_or v q.bit X) (row_of ns vs q)) (holding s q) in
      let room : n < length made = omega (arith, same_size made s kept, there n (inl refl)) in
      elim (cases_Bool (n == q.signal)) [
        | inl same ↦
            let is_n : q.signal ≡ n = sym (eqb-true n q.signal same) in
            ap (λ (u : List Bit4). slice_index_or u q.bit X) (get_or-set_at made n q.signal v [] is_n room)
            ∙ at_signal v q (row_of ns vs q) (list_any (λ n. n == q.signal) ns) (fits.0 ∙ ap (λ k. slice_index_or (widths s) k 0) (sym is_n))
            ∙ ap right (sym same)
        | inr other ↦
            let apart : q.signal ≢ n = λ e. eqb-false n q.signal other (sym e) in
            ap (λ (u : List Bit4). slice_index_or u q.bit X) (get_or-set_other made n q.signal v [] apart)
            ∙ rest
            ∙ ap right (sym other)
      ]

pub row_is_put : (d : Machine) (ws ns : List ℕ) (vs s made : Store) → widths s ≡ ws → InputsAre d ws ns → FitsRow ws ns vs → made ≡ with_vectors ns vs s → WithRow d ns vs s made
unfolding in_range
row_is_put d ws ns vs s made shape inputs fits e =
    let fits' : FitsRow (widths s) ns vs = subst (λ us. FitsRow us ns vs) (sym shape) fits in record {
      values = ap holding e ∙ (λ k q. at_place fits' q k);
      shape = ap widths e ∙ keeps_widths s ns vs fits';
    }
  where
    at_place : FitsRow (widths s) ns vs → (q : Place) → holding (with_vectors ns vs s) q ≡ base_of d (row_of ns vs) (holding s) q
    at_place fits' q =
        holds_vectors s ns vs fits' (λ n h. omega (arith, inputs.there n h, ap length shape, length-map s (λ (v : List Bit4). length v))) q
        ∙ ap (λ us. cond (list_any (λ n. n == q.signal) ns && nat_lt q.bit (slice_index_or us q.signal 0)) (row_of ns vs q) (holding s q)) shape
        ∙ ap (λ b. cond b (row_of ns vs q) (holding s q)) (sym (inputs.whole q))

-- all inputs are signals of the store
pub all_there : (d : Machine) (ws ns : List ℕ) (s : Store) → widths s ≡ ws → InputsAre d ws ns → (k e : ℕ) → k < length ns → slice_index_or ns k e < length s
all_there d ws ns s shape inputs k e h =
    omega (arith, inputs.there (slice_index_or ns k e) (member_at ns k e h), ap length shape, length-map s (λ (v : List Bit4). length v))

pub long_row : (ws ns : List ℕ) (vs : Store) → FitsRow ws ns vs → length vs ≡ length ns
long_row ws ns vs fits = AllZip-long (λ n (v : List Bit4). length v ≡ slice_index_or ws n 0) ns vs fits
