-- Images change as signals do where one of these is an array that the words of a memory hold.
use Rattle.std.proofs.Common.{◌≡◌, ℕ, zero, suc, ◌+◌, ◌-◌, ◌*◌, ◌<◌, ◌≤◌, ◌==◌, Bool, true, false, cond, ℤ, pos, negsuc, ◌-ℤ◌, ◌<ℤ◌, length, List, [], ◌∷◌, None, refl, arith, ap, sym, ◌∙◌, subst}
use Rattle.std.specs.Prelude.{nat_lt, unsigned_abs}
use Rattle.std.proofs.Math.Nat.{suc-mul}
use Rattle.std.proofs.lemmas.Int.{ints}
use Rattle.std.proofs.lemmas.Bool.Decides.{nat_tests}
use Rattle.b4_core.specs.declared.bit.Bit4.{Bit4}
use Rattle.row_machine.specs.Valuation.{Valuation}
use Rattle.picks.specs.Windows.{written}
use Rattle.sv_types.specs.Layouts.{Layout, count_of, stored}
use Rattle.sv_types.specs.Windows.{falls, rank}
use Rattle.sv_types.specs.Surroundings.{Around}
use Rattle.sv_types.specs.Meanings as M
use Rattle.sv_types.proofs.Stored.{length-stored}
use Rattle.v_meaning.specs.Scopes.{Scope}
use Rattle.v_meaning.specs.Statements.{Target}
use Rattle.lowering_laws.specs.Agreeing.{Images, AreDistinct, SameChanges}
use Rattle.lowering_laws.specs.Held.{IsConverted}
use Rattle.lowering_laws.specs.Reached.{Piece, pieces_put, IsWritten}
use Rattle.lowering_laws.specs.Words.{lower}
use Rattle.lowering_laws.proofs.AnyRank.{le-no}
use Rattle.lowering_laws.proofs.Changes.{HasPieces, path-changes}
use Rattle.lowering_laws.proofs.Extensions.{take-whole}
use Rattle.lowering_laws.proofs.WriteAt.{IsTight, written-other}
use Rattle.memory_laws.specs.InWords.{IsWrittenInWords}

-- each rank below the count is that of an element, which has a word
pub record ElementAt (of : Layout) (q : ℕ) : Type 0 where
  pub index : ℤ
  pub word : ℕ
  pub word_is : index -ℤ lower of ≡ pos word
  pub below : word < count_of of.left of.right
  pub rank_is : rank of index ≡ pos q

falling-at : (right : ℤ) (q : ℕ) → (right -ℤ (pos 0 -ℤ pos q)) -ℤ right ≡ pos q
falling-at right q = omega (arith, ints)

rising-at : (left right d : ℤ) (q : ℕ) → left -ℤ right ≡ d → left <ℤ right → q < unsigned_abs d + 1 → (right -ℤ pos q) -ℤ left ≡ pos (unsigned_abs d - q)
rising-at left right (pos d) q e less few = absurd (omega (arith, ints))
rising-at left right (negsuc d) q e less few =
    let abs : unsigned_abs (negsuc d) ≡ suc d = refl in
    omega (arith, ints)

back-at : (right : ℤ) (q : ℕ) → right -ℤ (right -ℤ pos q) ≡ pos q
back-at right q = omega (arith, ints)

pub element-at : (of : Layout) (q : ℕ) → q < count_of of.left of.right → ElementAt of q
element-at of q few = by (falls of) refl
  where
    by : (down : Bool) → falls of ≡ down → ElementAt of q
    by true h = record {
      index = of.right -ℤ (pos 0 -ℤ pos q);
      word = q;
      word_is = ap (λ b. (of.right -ℤ (pos 0 -ℤ pos q)) -ℤ cond b of.right of.left) h ∙ falling-at of.right q;
      below = few;
      rank_is = ap (λ b. cond b ((of.right -ℤ (pos 0 -ℤ pos q)) -ℤ of.right) (of.right -ℤ (of.right -ℤ (pos 0 -ℤ pos q)))) h ∙ falling-at of.right q;
    }
    by false h =
        let d = unsigned_abs (of.left -ℤ of.right) in
        record {
          index = of.right -ℤ pos q;
          word = d - q;
          word_is = ap (λ b. (of.right -ℤ pos q) -ℤ cond b of.right of.left) h ∙ rising-at of.left of.right (of.left -ℤ of.right) q refl (le-no of.right of.left h) few;
          below = omega arith;
          rank_is = ap (λ b. cond b ((of.right -ℤ pos q) -ℤ of.right) (of.right -ℤ (of.right -ℤ pos q))) h ∙ back-at of.right q;
        }

-- each bit of an array is one of an element
pub record RowOf (count w b : ℕ) : Type 0 where
  pub row : ℕ
  pub bit : ℕ
  pub is : row * w + bit ≡ b
  pub row_below : row < count
  pub bit_below : bit < w

no-rows : (w : ℕ) → 0 * w ≡ 0
no-rows w = grind arith

pub row-of : (count w b : ℕ) → b < count * w → RowOf count w b
row-of zero w b h = absurd (let e = no-rows w in omega arith)
row-of (suc n) w b h = by (nat_lt b (n * w)) refl (row-of n w b)
  where
    by : (c : Bool) → nat_lt b (n * w) ≡ c → (b < n * w → RowOf n w b) → RowOf (suc n) w b
    by true is before =
        let less : b < n * w = grind (arith, nat_tests) in
        let r = before less in
        let below = r.row_below in
        record { row = r.row; bit = r.bit; is = r.is; row_below = omega arith; bit_below = r.bit_below }
    by false is before =
        let more : n * w ≤ b = grind (arith, nat_tests) in
        record { row = n; bit = b - n * w; is = omega arith; row_below = omega arith; bit_below = omega (arith, suc-mul n w) }

-- A bit of an array stands in a word.
abbrev pub InWords : Images → ℕ → Layout → Type 0
InWords im r of = (x q j : ℕ) (k : ℤ) → k -ℤ lower of ≡ pos x → x < count_of of.left of.right → rank of k ≡ pos q → j < length of.element.two_state
    → im.place r (q * length of.element.two_state + j) ≡ x * length of.element.two_state + j

module _ (im : Images) (distinct : AreDistinct im) (to : M.Meaning) (a : Around) (r : ℕ) (of : Layout) (there : 0 < im.width r) (wide : im.width r ≡ count_of of.left of.right * length of.element.two_state)
    (in_words : InWords im r of) (ps : List Piece) (sc : Scope) (v : Valuation) (tight : IsTight (to.window a) (M.wide to)) (converted : IsConverted (im.two_state r) to a)
    (words_written : IsWrittenInWords of (to.window a) (M.wide to) (im.number r) ps sc v) where
  -- what is written is converted, wherever it stands
  abbrev in_place : Images
  in_place = record { number = λ n. n; place = λ n b. b; width = im.width; two_state = im.two_state }

  abbrev all_of_it : Target
  all_of_it = record { width = λ s. M.wide to; puts = λ s u bits. written r (to.window a) bits; writes = λ s. []; names = λ s. []; reads = λ s. [] }

  abbrev one_piece : Piece
  one_piece = record { guard = None; to = all_of_it; low = 0; width = M.wide to }

  plainly : IsWritten (to.window a) (M.wide to) r (one_piece ∷ []) sc v
  plainly = record {
    wide = (refl, tt);
    below = (omega arith, tt);
    puts = λ bits long q. ap (λ u. written r (to.window a) u q) (take-whole (M.wide to) bits (omega arith));
  }

  kept-stored : (bits : List Bit4) → length bits ≡ M.wide to → SameChanges in_place (written r (to.window a) (stored to.of.two_state bits)) (pieces_put (one_piece ∷ []) sc v (stored to.of.two_state bits))
  kept-stored bits long = path-changes in_place (λ n m h g e. e) to a r there (λ b. refl) (one_piece ∷ []) sc v tight converted plainly bits long

  module _ (kept : List Bit4) (long : length kept ≡ M.wide to) where
    in-array : (b : ℕ) → RowOf (count_of of.left of.right) (length of.element.two_state) b → pieces_put ps sc v kept (record { signal = im.number r; bit = im.place r b }) ≡ written r (to.window a) kept (record { signal = r; bit = b })
    in-array b row =
        let e = element-at of row.row row.row_below in
        ap (λ c. pieces_put ps sc v kept (record { signal = im.number r; bit = im.place r c })) (sym row.is)
        ∙ ap (λ c. pieces_put ps sc v kept (record { signal = im.number r; bit = c })) (in_words e.word row.row row.bit e.index e.word_is e.below e.rank_is row.bit_below)
        ∙ words_written.puts kept long r e.word row.row row.bit e.index e.word_is e.below e.rank_is row.bit_below
        ∙ ap (λ c. written r (to.window a) kept (record { signal = r; bit = c })) row.is

    same-bit : (n b : ℕ) → b < im.width n → pieces_put ps sc v kept (record { signal = im.number n; bit = im.place n b }) ≡ written r (to.window a) kept (record { signal = n; bit = b })
    same-bit n b h = by (n == r) refl
      where
        by : (c : Bool) → (n == r) ≡ c → pieces_put ps sc v kept (record { signal = im.number n; bit = im.place n b }) ≡ written r (to.window a) kept (record { signal = n; bit = b })
        by true e =
            let same : n ≡ r = grind (arith, nat_tests) in
            let less : b < im.width r = subst (λ k. b < im.width k) same h in
            let row = row-of (count_of of.left of.right) (length of.element.two_state) b (omega arith) in
            ap (λ k. pieces_put ps sc v kept (record { signal = im.number k; bit = im.place k b })) same ∙ in-array b row ∙ ap (λ k. written r (to.window a) kept (record { signal = k; bit = b })) (sym same)
        by false e =
            words_written.other kept (record { signal = im.number n; bit = im.place n b }) (λ f. apart e (distinct n r (omega arith) there f)) ∙ sym (written-other r (to.window a) kept n b (apart e))
          where
            apart : (n == r) ≡ false → n ≡ r → ⊥
            apart g f = grind (arith, nat_tests)

  -- the pieces change the images as a write through the path changes the array
  pub words-change : (bits : List Bit4) → length bits ≡ M.wide to → SameChanges im (written r (to.window a) (stored to.of.two_state bits)) (pieces_put ps sc v (stored to.of.two_state bits))
  words-change bits long = record { same = same-bit (stored to.of.two_state bits) (length-stored to.of.two_state bits long); stored = (kept-stored bits long).stored }

  -- so they do for a path on the array
  pub words-pieces : ((bits : List Bit4) → to.puts a bits ≡ written r (to.window a) (stored to.of.two_state bits)) → HasPieces im to ps a sc v
  words-pieces puts = record {
    wide = words_written.wide;
    below = words_written.below;
    changes = λ bits long. subst (λ c. SameChanges im c (pieces_put ps sc v (stored to.of.two_state bits))) (sym (puts bits)) (words-change bits long);
  }
