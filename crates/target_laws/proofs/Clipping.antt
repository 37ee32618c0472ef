-- A path some of whose bits are out of range: what is written is written of the others.
use Rattle.std.proofs.Common.{◌≡◌, inl, inr, ℕ, zero, suc, ◌+◌, ◌-◌, ◌<◌, ◌≤◌, pos, ◌+ℤ◌, length, take, drop, List, [], ◌∷◌, Option, Some, None, refl, arith, ap, sym, ◌∙◌, subst}
use Rattle.std.proofs.lemmas.Int.{ints}
use Rattle.b4_core.specs.declared.bit.Bit4.{Bit4}
use Rattle.row_machine.specs.Valuation.{Place, Valuation}
use Rattle.row_machine.specs.Steps.{later_or}
use Rattle.picks.specs.Windows.{Window, part, picked, written}
use Rattle.sv_types.proofs.Picks.{picked-part}
use Rattle.v_meaning.specs.Scopes.{Scope}
use Rattle.lowering_laws.specs.Reached.{Piece, AreBelow, IsWritten}
use Rattle.lowering_laws.proofs.Changes.{raised, raised-wide, raised-put, below-put, length-take-of}
use Rattle.lowering_laws.proofs.Splits.{IsSplit, split-written, part-split}
use Rattle.lowering_laws.proofs.WriteAt.{IsTight, part-tight, none-written-at}
use Rattle.target_laws.specs.Seeing.{IsCut}

or-none : (x : Option Bit4) → later_or x None ≡ x
or-none None = refl
or-none (Some b) = refl

-- a path in two
in-two : (path : Window) (m r : ℕ) → IsTight path (m + r) → IsSplit path (part (pos 0) m path) (part (pos m) r path) m r
in-two path m r tight = record {
  tight = tight;
  low_tight = part-tight (pos 0) m path;
  high_tight = part-tight (pos m) r path;
  lower = λ j less. sym (picked-part 0 m path j less ∙ ap (picked path) (omega arith));
  upper = λ j less. sym (picked-part m r path j less);
}

module _ (path from : Window) (n k low m : ℕ) (tight : IsTight path n) (cut : IsCut path from n k low m) (image : ℕ) where
  abbrev rest : ℕ
  rest = n - (k + m)

  sizes : k + (m + rest) ≡ n
  sizes = (let w = cut.within in omega arith)

  low-none : (bits : List Bit4) (q : Place) → written image (part (pos 0) k path) bits q ≡ None
  low-none bits q =
      none-written-at image (part (pos 0) k path) k (part-tight (pos 0) k path)
      (λ j less. (let w = cut.within in picked-part 0 k path j less ∙ ap (picked path) (omega arith) ∙ cut.outside j (omega arith) (inl less))) bits q

  high-none : (bits : List Bit4) (q : Place) → written image (part (pos k +ℤ pos m) rest path) bits q ≡ None
  high-none bits q =
      none-written-at image (part (pos k +ℤ pos m) rest path) rest (part-tight (pos k +ℤ pos m) rest path)
      (λ j less. (let w = cut.within in let sum : pos k +ℤ pos m ≡ pos (k + m) = omega (arith, ints) in
      ap (λ z. picked (part z rest path) j) sum ∙ picked-part (k + m) rest path j less ∙ cut.outside ((k + m) + j) (omega arith) (inr (omega arith)))) bits q

  -- a write to it is one to its bits in range
  middle-written : (bits : List Bit4) (q : Place) → written image path bits q ≡ written image (part (pos k) m path) (take m (drop k bits)) q
  middle-written bits q =
      split-written path (part (pos 0) k path) (part (pos k) (m + rest) path) k (m + rest) image (in-two path k (m + rest) (subst (IsTight path) (sym sizes) tight)) bits q
      ∙ ap (later_or (written image (part (pos k) (m + rest) path) (drop k bits) q)) (low-none (take k bits) q)
      ∙ or-none (written image (part (pos k) (m + rest) path) (drop k bits) q)
      ∙ split-written (part (pos k) (m + rest) path) (part (pos k) m path) (part (pos k +ℤ pos m) rest path) m rest image (part-split (pos k) m rest path) (drop k bits) q
      ∙ ap (λ o. later_or o (written image (part (pos k) m path) (take m (drop k bits)) q)) (high-none (drop m (drop k bits)) q)

  below-raised : (xs : List Piece) → AreBelow m xs → AreBelow n (raised k xs)
  below-raised [] h = tt
  below-raised (x ∷ xs) h = ((let b = h.0 in let w = cut.within in omega arith), below-raised xs h.1)

  long-middle : (bits : List Bit4) → length bits ≡ n → length (take m (drop k bits)) ≡ m
  long-middle bits long = length-take-of m (drop k bits) (enough k bits (let w = cut.within in omega arith))
    where
      enough : (x : ℕ) (v : List Bit4) → x + m ≤ length v → m ≤ length (drop x v)
      enough zero v h = omega arith
      enough (suc x) [] h = absurd (omega arith)
      enough (suc x) (b ∷ v) h = enough x v (omega arith)

  pub clipped : (ps : List Piece) (sc : Scope) (v : Valuation) → IsWritten (part (pos k) m path) m image ps sc v → IsWritten path n image (raised k ps) sc v
  clipped ps sc v h = record {
    wide = raised-wide k ps sc h.wide;
    below = below-raised ps h.below;
    puts = λ bits long q.
        raised-put k ps sc v bits q ∙ sym (below-put m ps sc v (drop k bits) q h.below) ∙ h.puts (take m (drop k bits)) (long-middle bits long) q ∙ sym (middle-written bits q);
  }

-- a path whose bits are all out of range is written by no piece
pub none-clipped : (path : Window) (n image : ℕ) (sc : Scope) (v : Valuation) → IsTight path n → ((j : ℕ) → j < n → picked path j ≡ None) → IsWritten path n image [] sc v
none-clipped path n image sc v tight none = record {
  wide = tt;
  below = tt;
  puts = λ bits long q. sym (none-written-at image path n tight none bits q);
}
