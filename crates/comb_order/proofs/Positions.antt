-- Numbers as bits of signals, and spans that are cut at the last bit.
use Rattle.std.proofs.Common.{◌≡◌, ℕ, ◌/◌, ◌%◌, ◌^◌, ◌<◌, min, Bool, true, false, ◌&&◌, ◌||◌, ◌==◌, List, [], ◌∷◌, map, slice_index_or, refl, ap, sym, ◌∙◌, arith}
use Rattle.std.specs.Prelude.{nat_le, nat_lt}
use Rattle.std.specs.Cmp.{both_ways}
use Rattle.std.proofs.lemmas.Bool.{and_parts, and_from, eqb-true, ltb-true, lt-ltb, leb-true, le-leb}
use Rattle.std.proofs.lemmas.Nat.{div-mul-add, div-add-mod'}
use Rattle.row_machine.specs.Valuation.{Place}
use Rattle.bit_sets.specs.Sets.{covers, in_spans}
use Rattle.bit_sets.proofs.Laws as L
use Rattle.bit_needs.specs.Uses.{spans_in}
use Rattle.sv_types.specs.Surroundings as S
use Rattle.sv_types.specs.Flows as F
use Rattle.flow_sets.specs.declared.uses.Write.{Write}
use Rattle.flow_sets.specs.Bits.{position, number_of, span_of, use_of, write_of, AllShort}
use Rattle.flow_sets.proofs.Positions as P
use Rattle.comb_order.specs.Bits.{place_of, end_at, kept, kept_use}

pub bit-small : (n : ℕ) → (place_of n).bit < 2 ^ 32
bit-small n = omega arith

pub number-place : (n : ℕ) → number_of (place_of n) ≡ n
number-place n = div-add-mod' n (2 ^ 32)

pub place-number : (q : Place) → q.bit < 2 ^ 32 → place_of (number_of q) ≡ q
place-number q small =
    let s : number_of q / 2 ^ 32 ≡ q.signal = div-mul-add q.signal (2 ^ 32) q.bit small in
    let b : number_of q % 2 ^ 32 ≡ q.bit = (let parts = div-add-mod' (number_of q) (2 ^ 32) in omega (arith, parts, s)) in
    λ i. record { signal = s i; bit = b i }

-- whether a bit is there
abbrev pub is_there : List ℕ → Place → Bool
is_there widths q = nat_lt q.bit (slice_index_or widths q.signal 0)

module _ (widths : List ℕ) where
  -- a cut span has what the span has of bits that are there
  kept-there : (u : S.Use) (n : ℕ) → u.high < 2 ^ 32 → covers (kept widths (span_of u)) n ≡ true → (F.covers u (place_of n) && is_there widths (place_of n)) ≡ true
  kept-there u n short h =
      let s = span_of u in
      let q = place_of n in
      let low = L.covers-low (kept widths s) n h in
      let high = L.covers-high (kept widths s) n h in
      let inside : covers s n ≡ true = and_from (nat_le s.low n) (nat_lt n s.high) (le-leb s.low n low) (lt-ltb n s.high (omega (arith, high))) in
      let used : F.covers u q ≡ true = sym (P.covers-is u q short (bit-small n)) ∙ ap (covers s) (number-place n) ∙ inside in
      let parts = and_parts (u.number == q.signal) (nat_le u.low q.bit && nat_lt q.bit u.high) used in
      let signal = eqb-true u.number q.signal parts.0 in
      let least = leb-true u.low q.bit (and_parts (nat_le u.low q.bit) (nat_lt q.bit u.high) parts.1).0 in
      let begins : s.low / 2 ^ 32 ≡ u.number = div-mul-add u.number (2 ^ 32) u.low (let small = bit-small n in omega (arith, small, least)) in
      let end : end_at widths s.low ≡ position q.signal (slice_index_or widths q.signal 0) = ap (λ k. position k (slice_index_or widths k 0)) (begins ∙ signal) in
      let number = number-place n in
      and_from (F.covers u q) (is_there widths q) used (lt-ltb q.bit (slice_index_or widths q.signal 0) (omega (arith, high, end, number)))

  there-kept : (u : S.Use) (n : ℕ) → u.high < 2 ^ 32 → (F.covers u (place_of n) && is_there widths (place_of n)) ≡ true → covers (kept widths (span_of u)) n ≡ true
  there-kept u n short h =
      let s = span_of u in
      let q = place_of n in
      let both = and_parts (F.covers u q) (is_there widths q) h in
      let inside : covers s n ≡ true = sym (ap (covers s) (number-place n)) ∙ P.covers-is u q short (bit-small n) ∙ both.0 in
      let low = L.covers-low s n inside in
      let high = L.covers-high s n inside in
      let parts = and_parts (u.number == q.signal) (nat_le u.low q.bit && nat_lt q.bit u.high) both.0 in
      let signal = eqb-true u.number q.signal parts.0 in
      let least = leb-true u.low q.bit (and_parts (nat_le u.low q.bit) (nat_lt q.bit u.high) parts.1).0 in
      let begins : s.low / 2 ^ 32 ≡ u.number = div-mul-add u.number (2 ^ 32) u.low (let small = bit-small n in omega (arith, small, least)) in
      let end : end_at widths s.low ≡ position q.signal (slice_index_or widths q.signal 0) = ap (λ k. position k (slice_index_or widths k 0)) (begins ∙ signal) in
      let below = ltb-true q.bit (slice_index_or widths q.signal 0) both.1 in
      let number = number-place n in
      and_from (nat_le s.low n) (nat_lt n (min s.high (end_at widths s.low))) (le-leb s.low n low) (lt-ltb n (min s.high (end_at widths s.low)) (omega (arith, high, end, below, number)))

  pub kept-is : (u : S.Use) (n : ℕ) → u.high < 2 ^ 32 → covers (kept widths (span_of u)) n ≡ (F.covers u (place_of n) && is_there widths (place_of n))
  kept-is u n short = both_ways _ _ (kept-there u n short) (there-kept u n short)

  with-there : (a b t : Bool) → ((a && t) || (b && t)) ≡ ((a || b) && t)
  with-there true true true = refl
  with-there true true false = refl
  with-there true false true = refl
  with-there true false false = refl
  with-there false true true = refl
  with-there false true false = refl
  with-there false false true = refl
  with-there false false false = refl

  pub reads-are : (us : List S.Use) (n : ℕ) → AllShort us → in_spans (spans_in (map (kept_use widths) (map use_of us))) n ≡ (F.covered us (place_of n) && is_there widths (place_of n))
  reads-are [] n short = L.in-none n
  reads-are (u ∷ us) n short =
      let h = P.short-more u us short in
      L.in-more (kept widths (span_of u)) (spans_in (map (kept_use widths) (map use_of us))) n
      ∙ ap (λ b. b || in_spans (spans_in (map (kept_use widths) (map use_of us))) n) (kept-is u n h.0)
      ∙ ap (λ b. (F.covers u (place_of n) && is_there widths (place_of n)) || b) (reads-are us n h.1)
      ∙ with-there (F.covers u (place_of n)) (F.covered us (place_of n)) (is_there widths (place_of n))

  pub writes-are : (ws : List S.Write) (n : ℕ) → AllShort (F.uses_of ws)
      → in_spans (map (λ (w : Write). kept widths w.of.span) (map write_of ws)) n ≡ (F.covered (F.uses_of ws) (place_of n) && is_there widths (place_of n))
  writes-are [] n short = L.in-none n
  writes-are (w ∷ ws) n short =
      let h = P.short-more w.of (F.uses_of ws) short in
      L.in-more (kept widths (span_of w.of)) (map (λ (v : Write). kept widths v.of.span) (map write_of ws)) n
      ∙ ap (λ b. b || in_spans (map (λ (v : Write). kept widths v.of.span) (map write_of ws)) n) (kept-is w.of n h.0)
      ∙ ap (λ b. (F.covers w.of (place_of n) && is_there widths (place_of n)) || b) (writes-are ws n h.1)
      ∙ with-there (F.covers w.of (place_of n)) (F.covered (F.uses_of ws) (place_of n)) (is_there widths (place_of n))
