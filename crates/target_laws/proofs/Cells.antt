-- A path is written element by element, the lowest one first.
use Rattle.std.proofs.Common.{◌≡◌, ℕ, suc, ◌+◌, ◌*◌, true, ◌&&◌, cond, ℤ, pos, ◌+ℤ◌, ◌*ℤ◌, length, List, [], ◌++◌, Some, arith, ap, sym, ◌∙◌, subst}
use Rattle.std.specs.Prelude.{int_le, int_lt}
use Rattle.std.proofs.lemmas.Int.{ints}
use Rattle.row_machine.specs.Valuation.{Valuation}
use Rattle.picks.specs.Windows.{Window, nowhere, part, picked}
use Rattle.sv_types.specs.Layouts.{Layout, count_of}
use Rattle.sv_types.specs.Windows.{rank, elements, element_of}
use Rattle.sv_types.proofs.Picks.{picked-part}
use Rattle.v_meaning.specs.Scopes.{Scope}
use Rattle.lowering_laws.specs.Reached.{Piece, IsWritten}
use Rattle.lowering_laws.proofs.Changes.{raised}
use Rattle.lowering_laws.proofs.Splits.{split-pieces, part-split}
use Rattle.lowering_laws.proofs.WriteAt.{IsTight, part-tight}
use Rattle.target_laws.proofs.Clipping.{none-clipped}
use Rattle.target_laws.proofs.Entire.{same-path}

-- the lowest n bits of a path
abbrev pub lowest_bits : ℕ → Window → Window
lowest_bits n path = part (pos 0) n path

-- no elements
pub no-cells : (w : ℕ) (path : Window) (image : ℕ) (sc : Scope) (v : Valuation) → IsWritten (lowest_bits (0 * w) path) (0 * w) image [] sc v
no-cells w path image sc v = none-clipped (lowest_bits (0 * w) path) (0 * w) image sc v (part-tight (pos 0) (0 * w) path) (λ j less. absurd (omega arith))

-- one more
pub next-cell : (of : Layout) (t : ℕ) (k : ℤ) (path : Window) (image : ℕ) (ps qs : List Piece) (sc : Scope) (v : Valuation) → rank of k ≡ pos t
    → (int_le (pos 0) (rank of k) && int_lt (rank of k) (pos (count_of of.left of.right))) ≡ true
    → IsWritten (lowest_bits (t * length of.element.two_state) path) (t * length of.element.two_state) image ps sc v
    → IsWritten (element_of of (Some k) path) (length of.element.two_state) image qs sc v
    → IsWritten (lowest_bits (suc t * length of.element.two_state) path) (suc t * length of.element.two_state) image (ps ++ raised (t * length of.element.two_state) qs) sc v
next-cell of t k path image ps qs sc v is test below above =
    let w = length of.element.two_state in
    let one : 1 * length of.element.two_state ≡ length of.element.two_state = omega arith in
    let all : t * length of.element.two_state + length of.element.two_state ≡ suc t * length of.element.two_state = grind arith in
    let row : pos t *ℤ pos (length of.element.two_state) ≡ pos 0 +ℤ pos (t * length of.element.two_state) = grind (arith, ints) in
    let here : element_of of (Some k) path ≡ part (pos 0 +ℤ pos (t * length of.element.two_state)) (length of.element.two_state) path =
    ap (λ b. cond b (elements of (rank of k) 1 path) nowhere) test
    ∙ (λ i. part (is i *ℤ pos (length of.element.two_state)) (one i) path)
    ∙ ap (λ z. part z (length of.element.two_state) path) row in
    subst (λ n. IsWritten (lowest_bits n path) n image (ps ++ raised (t * length of.element.two_state) qs) sc v) all
    (split-pieces (lowest_bits (t * length of.element.two_state + length of.element.two_state) path) (lowest_bits (t * length of.element.two_state) path)
    (part (pos 0 +ℤ pos (t * length of.element.two_state)) (length of.element.two_state) path) (t * length of.element.two_state) (length of.element.two_state) image ps qs sc v
    (part-split (pos 0) (t * length of.element.two_state) (length of.element.two_state) path) below
    (subst (λ p. IsWritten p (length of.element.two_state) image qs sc v) here above))

-- all of them
pub all-cells : (n : ℕ) (path : Window) (image : ℕ) (ps : List Piece) (sc : Scope) (v : Valuation) → IsTight path n → IsWritten (lowest_bits n path) n image ps sc v → IsWritten path n image ps sc v
all-cells n path image ps sc v tight h =
    same-path path (lowest_bits n path) n image ps sc v tight (part-tight (pos 0) n path)
    (λ j less. (let none : 0 + j ≡ j = omega arith in ap (picked path) (sym none) ∙ sym (picked-part 0 n path j less))) h
