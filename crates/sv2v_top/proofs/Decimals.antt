-- Decimal numbers grow with their digits.
use Rattle.std.proofs.Common.{◌≡◌, ℕ, ◌+◌, ◌-◌, ◌*◌, ◌==◌, ◌<◌, ◌≤◌, List, [], ◌∷◌, drop, length, slice_index_or, ap, inl, inr, arith, suc, drop-cons}
use Rattle.sv2v_top.specs.source.Literals.{with_digit, decimal_from}
use Rattle.sv2v_top.proofs.Names.{true_or_false, pick_true, pick_false}

pub digit_grows : (n c : ℕ) → n ≤ with_digit n c
digit_grows n c =
    elim (true_or_false (c == 95)) [
      | inl e ↦ (let same = pick_true (c == 95) n (10 * n + (c - 48)) e in omega arith)
      | inr e ↦ (let same = pick_false (c == 95) n (10 * n + (c - 48)) e in omega arith)
    ]

pub decimal_grows : (text : List ℕ) (n : ℕ) → n ≤ decimal_from n text
decimal_grows [] n = omega arith
decimal_grows (c ∷ text) n = (let more = decimal_grows text (with_digit n c) in let one = digit_grows n c in omega arith)

-- once the digits up to some place give more than the limit, all of them do
pub decimal_past : (limit number : ℕ) (text : List ℕ) (i whole : ℕ) → i < length text → limit < with_digit number (slice_index_or text i 0)
    → decimal_from number (drop i text) ≡ whole → limit < whole
decimal_past limit number text i whole h more e =
    let step : decimal_from number (drop i text) ≡ decimal_from (with_digit number (slice_index_or text i 0)) (drop (suc i) text) = ap (decimal_from number) (drop-cons text i 0 h) in
    let grows = decimal_grows (drop (suc i) text) (with_digit number (slice_index_or text i 0)) in
    omega arith
