-- Words whose lowest digits are those of a signed number.
use Rattle.std.proofs.Common.{◌≡◌, ℕ, suc, ◌+◌, ◌%◌, ◌^◌, ◌≤◌, ℤ, pos, negsuc, ◌<ℤ◌, ◌≤ℤ◌, arith, sym}
use Rattle.std.specs.Prelude.{unsigned_abs}
use Rattle.std.proofs.lemmas.Int.{ints}
use Rattle.b4_core.specs.Vectors.{digits, vec}
use Rattle.b4_core.proofs.TwosComplement.{vec_pos, vec_neg}

pub negative_word : (w r : ℕ) (n : ℤ) → n <ℤ pos 0 → (r + unsigned_abs n) % 2 ^ 128 ≡ 0 → w ≤ 128 → digits w r ≡ vec w n
negative_word w r (pos m) less h small = absurd (omega (arith, ints))
negative_word w r (negsuc m) less h small = sym (vec_neg w (suc m) r small h)

pub other_word : (w : ℕ) (n : ℤ) → pos 0 ≤ℤ n → digits w (unsigned_abs n) ≡ vec w n
other_word w (pos m) less = sym (vec_pos w m)
other_word w (negsuc m) less = absurd (omega (arith, ints))

pub ruleset words = (negative_word, other_word)
