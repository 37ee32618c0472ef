-- Memories that hold what arrays do, and keep doing so.
use Rattle.std.proofs.Common.{◌≡◌, ℕ, zero, suc, ◌+◌, ◌*◌, ◌<◌, ◌≤◌, true, ◌&&◌, cond, ℤ, pos, ◌+ℤ◌, ◌-ℤ◌, ◌*ℤ◌, length, List, Option, Some, None, arith, ap, sym, ◌∙◌, subst}
use Rattle.std.specs.Prelude.{int_le, int_lt, slice_index_or}
use Rattle.std.proofs.lemmas.Int.{ints}
use Rattle.std.proofs.lemmas.Bool.Decides.{nat_tests}
use Rattle.b4_core.specs.declared.bit.Bit4.{Bit4}
use Rattle.b4_core.specs.declared.bit.Bit4.TheVariants.{X}
use Rattle.row_machine.specs.Valuation.{Valuation, Changes, changed, put}
use Rattle.row_machine.specs.Places.{bits_from, vector_at}
use Rattle.row_machine.specs.Steps.{later_or, then_changes}
use Rattle.picks.specs.Windows.{Window, whole, part, picked, bit_at, seen, written}
use Rattle.sv_types.specs.Layouts.{Layout, count_of}
use Rattle.sv_types.specs.Windows.{rank, elements}
use Rattle.sv_types.specs.Surroundings.{Around}
use Rattle.sv_types.specs.Meanings as S
use Rattle.sv_types.proofs.Picks.{pick, picked-part, tabulated-same}
use Rattle.v_tree.specs.Names.{Name}
use Rattle.v_meaning.specs.Scopes.{Named, Scope, named, all_bits}
use Rattle.lowering_laws.specs.Reached.{Piece, pieces_put}
use Rattle.lowering_laws.specs.Words.{lower, IsMemory}
use Rattle.memory_laws.specs.InWords.{IsMemoryOf, IsWrittenInWords, HoldWords, ChangeWords}
use Rattle.memory_laws.proofs.Ranking.{rank-below, row-inside}

-- pieces change it as the write through the path changes the array
pub written-changes : (of : Layout) (path : Window) (n image r : ℕ) (ps : List Piece) (sc : Scope) (v : Valuation) → IsWrittenInWords of path n image ps sc v → (bits : List Bit4) → length bits ≡ n
    → ChangeWords of image r (pieces_put ps sc v bits) (written r path bits)
written-changes of path n image r ps sc v h bits long x q j k word few ranked less = h.puts bits long r x q j k word few ranked less

-- one change after the other, and what is held then
pub then-words : (of : Layout) (image r : ℕ) (d e c f : Changes) → ChangeWords of image r d c → ChangeWords of image r e f → ChangeWords of image r (then_changes d e) (then_changes c f)
then-words of image r d e c f h g x q j k word few ranked less = λ i. later_or (g x q j k word few ranked less i) (h x q j k word few ranked less i)

pub put-words : (of : Layout) (image r : ℕ) (d c : Changes) (v now : Valuation) → ChangeWords of image r d c → HoldWords of image r v now → HoldWords of image r (put d v) (put c now)
put-words of image r d c v now h held x q j k word few ranked less = λ i. changed (h x q j k word few ranked less i) (held x q j k word few ranked less i)

-- what a signal holds at a bit
index-from : (v : Valuation) (n k w q : ℕ) → q < w → slice_index_or (bits_from v n k w) q X ≡ v (record { signal = n; bit = k + q })
index-from v n k zero q h = absurd (omega arith)
index-from v n k (suc w) zero h = ap (λ b. v (record { signal = n; bit = b })) (let same : k ≡ k + 0 = omega arith in same)
index-from v n k (suc w) (suc q) h =
    index-from v n (suc k) w q (omega arith) ∙ ap (λ b. v (record { signal = n; bit = b })) (let same : suc k + q ≡ k + suc q = omega arith in same)

whole-there : (all b : ℕ) → b < all → picked (whole all) b ≡ Some b
whole-there all b less =
    let zero_more : pos b +ℤ pos 0 ≡ pos b = omega (arith, ints) in
    let test : (int_le (pos 0) (pos b) && int_lt (pos b) (pos all)) ≡ true = grind (arith, nat_tests) in
    ap (pick 0 all) zero_more ∙ ap (λ c. cond c (Some b) None) test

-- w bits of a signal from bit o on
seen-bit : (v : Valuation) (n all o w j : ℕ) → o + w ≤ all → j < w → bit_at (vector_at v n all) (picked (part (pos o) w (whole all)) j) ≡ v (record { signal = n; bit = o + j })
seen-bit v n all o w j fits less =
    ap (bit_at (vector_at v n all)) (picked-part o w (whole all) j less ∙ whole-there all (o + j) (omega arith)) ∙ index-from v n 0 all (o + j) (omega arith)
    ∙ ap (λ b. v (record { signal = n; bit = b })) (let same : 0 + (o + j) ≡ o + j = omega arith in same)

-- A memory that does is read as the array.
module _ (of : Layout) (r : ℕ) (e : S.Meaning) (a : Around) (name : Name) (sc : Scope) (v now : Valuation) (kind : e.of ≡ of)
    (window : e.window a ≡ whole (count_of of.left of.right * length of.element.two_state)) (base : e.base a ≡ vector_at now r (count_of of.left of.right * length of.element.two_state))
    (memory : IsMemoryOf name (count_of of.left of.right) (length of.element.two_state) sc) (held : HoldWords of (named sc.names name).number r v now) where
  abbrev n : Named
  n = named sc.names name

  abbrev w : ℕ
  w = length of.element.two_state

  abbrev count : ℕ
  count = count_of of.left of.right

  row : (x m : ℕ) → pos x *ℤ pos m ≡ pos (x * m)
  row x m = grind (arith, ints)

  one : (m : ℕ) → 1 * m ≡ m
  one m = omega arith

  all : all_bits n ≡ count * w
  all = ap (λ (ws : Option ℕ). elim ws [ None ↦ n.width | Some c ↦ c * n.width ]) memory.words ∙ ap (λ m. count * m) memory.bits

  abbrev own : ℕ → ℕ → Bit4
  own o j = bit_at (vector_at v n.number (count * w)) (picked (part (pos o) w (whole (count * w))) j)

  abbrev source : ℕ → ℕ → Bit4
  source o j = bit_at (vector_at now r (count * w)) (picked (part (pos o) w (whole (count * w))) j)

  same-word : (k : ℤ) (x q : ℕ) → k -ℤ lower of ≡ pos x → x < count → rank of k ≡ pos q → q < count
      → seen (vector_at v n.number (count * w)) (part (pos (x * w)) w (whole (count * w))) w ≡ seen (vector_at now r (count * w)) (part (pos (q * w)) w (whole (count * w))) w
  same-word k x q word few ranked below =
      tabulated-same w (own (x * w)) (source (q * w))
      (λ j less.
      seen-bit v n.number (count * w) (x * w) w j (row-inside x count w few) less
      ∙ held x q j k word few ranked less
      ∙ sym (seen-bit now r (count * w) (q * w) w j (row-inside q count w below) less))

  word-seen : (x : ℕ) → seen (vector_at v n.number (all_bits n)) (part (pos x *ℤ pos n.width) n.width (whole (all_bits n))) n.width ≡ seen (vector_at v n.number (count * w)) (part (pos (x * w)) w (whole (count * w))) w
  word-seen x =
      (λ i. seen (vector_at v n.number (all i)) (part (pos x *ℤ pos (memory.bits i)) (memory.bits i) (whole (all i))) (memory.bits i))
      ∙ ap (λ z. seen (vector_at v n.number (count * w)) (part z w (whole (count * w))) w) (row x w)

  element-seen : (k : ℤ) (q : ℕ) → rank of k ≡ pos q → seen (e.base a) (elements e.of (rank e.of k) 1 (e.window a)) n.width ≡ seen (vector_at now r (count * w)) (part (pos (q * w)) w (whole (count * w))) w
  element-seen k q is =
      (λ i. seen (e.base a) (elements (kind i) (rank (kind i) k) 1 (e.window a)) (memory.bits i))
      ∙ (λ i. seen (base i) (part (is i *ℤ pos w) (one w i) (window i)) w)
      ∙ ap (λ z. seen (vector_at now r (count * w)) (part z w (whole (count * w))) w) (row q w)

  by-rank : (k : ℤ) (x : ℕ) → k -ℤ lower of ≡ pos x → x < count
      → seen (vector_at v n.number (all_bits n)) (part (pos x *ℤ pos n.width) n.width (whole (all_bits n))) n.width ≡ seen (e.base a) (elements e.of (rank e.of k) 1 (e.window a)) n.width
  by-rank k x word few = (let at = rank-below of k x word few in word-seen x ∙ same-word k x at.q word few at.is at.below ∙ sym (element-seen k at.q at.is))

  pub memory-held : IsMemory e a n v
  memory-held = record {
    words = memory.words ∙ ap (λ (l : Layout). Some (count_of l.left l.right)) (sym kind);
    width = memory.bits ∙ ap (λ (l : Layout). length l.element.two_state) (sym kind);
    holds = λ k x word few. by-rank k x (ap (λ (l : Layout). k -ℤ lower l) (sym kind) ∙ word) (subst (λ (l : Layout). x < count_of l.left l.right) kind few);
  }
