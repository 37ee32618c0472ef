-- Writes to words of a memory.
use Rattle.std.proofs.Common.{◌≡◌, ◌⊎◌, ℕ, ◌+◌, ◌*◌, ◌<◌, ◌≤◌, ◌==◌, Bool, true, false, ◌&&◌, cond, ℤ, pos, ◌+ℤ◌, ◌-ℤ◌, ◌*ℤ◌, length, take, drop, List, [], ◌∷◌, Option, Some, None, refl, arith, ap, sym, ◌∙◌, subst}
use Rattle.std.specs.Prelude.{int_le, int_lt}
use Rattle.std.proofs.lemmas.Int.{ints}
use Rattle.std.proofs.lemmas.Bool.Decides.{nat_tests}
use Rattle.b4_core.specs.declared.bit.Bit4.{Bit4}
use Rattle.row_machine.specs.Valuation.{Place, Valuation, Changes}
use Rattle.row_machine.specs.Steps.{unchanged, later_or}
use Rattle.picks.specs.Windows.{Window, whole, nowhere, part, picked, written}
use Rattle.sv_types.specs.Layouts.{Layout, count_of}
use Rattle.sv_types.specs.Windows.{rank, element_of}
use Rattle.sv_types.proofs.Picks.{nothing-there}
use Rattle.v_tree.specs.Names.{Name}
use Rattle.v_meaning.specs.Scopes.{Named, Scope, named}
use Rattle.v_meaning.specs.Selects.{SelMeaning, path_from, width_from}
use Rattle.v_meaning.specs.Statements.{name_target}
use Rattle.v_meaning.specs.Values as T
use Rattle.lowering_laws.specs.Placed.{holds, NoRank}
use Rattle.lowering_laws.specs.Reached.{piece_puts, pieces_put, AreWide, AreBelow, IsWritten}
use Rattle.lowering_laws.specs.Words.{lower, HasWord}
use Rattle.lowering_laws.proofs.Offsets.{holds-both}
use Rattle.lowering_laws.proofs.WriteAt.{IsTight, nowhere-tight, whole-tight, part-tight, bit-written, none-written, written-bit, written-other}
use Rattle.target_laws.specs.Seeing.{through, IsSeen}
use Rattle.target_laws.proofs.Seeing.{seen-nowhere, seen-itself}
use Rattle.memory_laws.specs.InWords.{IsMemoryOf, Inner, word_alone, alone_piece, alone_pieces, word_piece, word_pieces, NamesWord, there, behind, lost, SelectsWord, IsWrittenInWords}
use Rattle.memory_laws.proofs.Ranking.{rank-below, one-rank, one-word, element-here, no-element, rows-apart, row-inside}
use Rattle.memory_laws.proofs.Selecting.{of-bits, selects-seen, selects-tight, word-window, word-path, word-wide}
use Rattle.memory_laws.proofs.Shifting.{run-written, beside-written}

-- a name with selects as a target
target-width : (name : Name) (sels : List SelMeaning) (sc : Scope) → (name_target name sels).width sc ≡ T.width_of (named sc.names name) sels
unfolding name_target
target-width name sels sc = refl

target-puts : (name : Name) (sels : List SelMeaning) (sc : Scope) (v : Valuation) (bits : List Bit4)
    → (name_target name sels).puts sc v bits ≡ written (named sc.names name).number (T.path_of (named sc.names name) sels sc v).window bits
unfolding name_target
target-puts name sels sc v bits = refl

-- what is changed at one bit
changed-at : (b : Bool) (c : Changes) (q : Place) → cond b c unchanged q ≡ cond b (c q) None
changed-at true c q = refl
changed-at false c q = refl

unchanged-at : (b : Bool) (x : Option Bit4) → x ≡ None → cond b x None ≡ None
unchanged-at true x h = h
unchanged-at false x h = refl

-- a path of what is nowhere picks nothing
none-from : (path inner : Window) → IsSeen path nowhere inner → (j : ℕ) → picked path j ≡ None
none-from path inner seen j = seen (pos j) ∙ by (picked inner j)
  where
    by : (o : Option ℕ) → through nowhere o ≡ None
    by None = refl
    by (Some b) = nothing-there (pos b +ℤ pos 0)

module _ (of : Layout) (i : Option ℤ) (name : Name) (g : Option T.Meaning) (s : SelMeaning) (sc : Scope) (v : Valuation)
    (memory : IsMemoryOf name (count_of of.left of.right) (length of.element.two_state) sc) (selects : SelectsWord of i g s sc v) where
  abbrev count : ℕ
  count = count_of of.left of.right

  abbrev w : ℕ
  w = length of.element.two_state

  abbrev n : Named
  n = named sc.names name

  -- how wide targets are
  wide : (xs : List Inner) → AreWide (alone_pieces w xs) sc → AreWide (word_pieces name g s xs) sc
  wide [] h = tt
  wide (x ∷ xs) h = (target-width name (s ∷ x.sels) sc ∙ word-wide n s x.sels count memory.words ∙ ap (λ k. T.width_of (word_alone k) x.sels) memory.bits ∙ h.0, wide xs h.1)

  below : (m : ℕ) (xs : List Inner) → AreBelow m (alone_pieces w xs) → AreBelow m (word_pieces name g s xs)
  below m [] h = tt
  below m (x ∷ xs) h = (h.0, below m xs h.1)

  -- which bits they write
  window-is : (ss : List SelMeaning) (base : Option ℤ) → s.base sc v ≡ base
      → (T.path_of n (s ∷ ss) sc v).window ≡ (path_from sc v ss (of-bits (word-window count w base (whole (count * w))) w)).window
  window-is ss base is =
      word-path n s ss count sc v memory.words
      ∙ (λ d. (path_from sc v ss (of-bits (word-window count (memory.bits d) (is d) (whole (count * memory.bits d))) (memory.bits d))).window)

  -- a piece by its guard
  piece-off : (x : Inner) (bits : List Bit4) (q : Place) → holds g sc v ≡ false → piece_puts (word_piece name g s x) sc v bits q ≡ None
  piece-off x bits q off =
      ap (λ b. cond b ((name_target name (s ∷ x.sels)).puts sc v (take x.width (drop x.low bits))) unchanged q) (holds-both g x.guard sc v ∙ ap (λ b. b && holds x.guard sc v) off)

  piece-on : (x : Inner) (bits : List Bit4) (q : Place) → holds g sc v ≡ true
      → piece_puts (word_piece name g s x) sc v bits q ≡ cond (holds x.guard sc v) (written n.number (T.path_of n (s ∷ x.sels) sc v).window (take x.width (drop x.low bits)) q) None
  piece-on x bits q on =
      ap (λ b. cond b ((name_target name (s ∷ x.sels)).puts sc v (take x.width (drop x.low bits))) unchanged q) (holds-both g x.guard sc v ∙ ap (λ b. b && holds x.guard sc v) on)
      ∙ changed-at (holds x.guard sc v) ((name_target name (s ∷ x.sels)).puts sc v (take x.width (drop x.low bits))) q
      ∙ ap (λ (c : Changes). cond (holds x.guard sc v) (c q) None) (target-puts name (s ∷ x.sels) sc v (take x.width (drop x.low bits)))

  -- nothing, piece by piece
  all-none : (xs : List Inner) (bits : List Bit4) (q : Place) → ((x : Inner) → piece_puts (word_piece name g s x) sc v bits q ≡ None) → pieces_put (word_pieces name g s xs) sc v bits q ≡ None
  all-none [] bits q none = refl
  all-none (x ∷ xs) bits q none = λ d. later_or (all-none xs bits q none d) (none x d)

  -- no word is named
  module _ (base : Option ℤ) (is : s.base sc v ≡ base) (nowhere_is : word-window count w base (whole (count * w)) ≡ nowhere) (bits : List Bit4) (b : ℕ) where
    lost-window : (ss : List SelMeaning) → (T.path_of n (s ∷ ss) sc v).window ≡ (path_from sc v ss (of-bits nowhere w)).window
    lost-window ss = window-is ss base is ∙ ap (λ p. (path_from sc v ss (of-bits p w)).window) nowhere_is

    lost-bit : (ss : List SelMeaning) (kept : List Bit4) → bit-written (path_from sc v ss (of-bits nowhere w)).window kept b ≡ None
    lost-bit ss kept =
        none-written (path_from sc v ss (of-bits nowhere w)).window (width_from ss (of-bits nowhere w)).width (selects-tight ss sc v w nowhere nowhere (nowhere-tight w))
        (λ j less. none-from (path_from sc v ss (of-bits nowhere w)).window (path_from sc v ss (of-bits nowhere w)).window (selects-seen ss sc v w nowhere nowhere nowhere (seen-nowhere nowhere)) j) kept b

    pub lost-piece : holds g sc v ≡ true → (x : Inner) → piece_puts (word_piece name g s x) sc v bits (record { signal = n.number; bit = b }) ≡ None
    lost-piece on x =
        piece-on x bits (record { signal = n.number; bit = b }) on
        ∙ unchanged-at (holds x.guard sc v) (written n.number (T.path_of n (s ∷ x.sels) sc v).window (take x.width (drop x.low bits)) (record { signal = n.number; bit = b }))
        (written-bit n.number (T.path_of n (s ∷ x.sels) sc v).window (take x.width (drop x.low bits)) b
        ∙ ap (λ p. bit-written p (take x.width (drop x.low bits)) b) (lost-window x.sels) ∙ lost-bit x.sels (take x.width (drop x.low bits)))

  -- one is named
  module _ (y : ℕ) (few : y < count) (is : s.base sc v ≡ Some (pos y)) (on : holds g sc v ≡ true) where
    abbrev run : Window
    run = part (pos (y * w)) w (whole (count * w))

    word-here : word-window count w (Some (pos y)) (whole (count * w)) ≡ run
    word-here = ap (λ b. cond b (part (pos y *ℤ pos w) w (whole (count * w))) nowhere) (inside y count few) ∙ ap (λ z. part z w (whole (count * w))) (row y w)
      where
        inside : (x m : ℕ) → x < m → (int_le (pos 0) (pos x) && int_lt (pos x) (pos m)) ≡ true
        inside x m less = grind (arith, nat_tests)

        row : (x m : ℕ) → pos x *ℤ pos m ≡ pos (x * m)
        row x m = grind (arith, ints)

    there-window : (ss : List SelMeaning) → (T.path_of n (s ∷ ss) sc v).window ≡ (path_from sc v ss (of-bits run w)).window
    there-window ss = window-is ss (Some (pos y)) is ∙ ap (λ p. (path_from sc v ss (of-bits p w)).window) word-here

    run-seen : (ss : List SelMeaning) → IsSeen (path_from sc v ss (of-bits run w)).window run (path_from sc v ss (of-bits (whole w) w)).window
    run-seen ss = selects-seen ss sc v w run run (whole w) (seen-itself run w (part-tight (pos (y * w)) w (whole (count * w))))

    run-bits : (ss : List SelMeaning) → IsTight (path_from sc v ss (of-bits run w)).window (width_from ss (of-bits nowhere w)).width
    run-bits ss = selects-tight ss sc v w run nowhere (part-tight (pos (y * w)) w (whole (count * w)))

    alone-bits : (ss : List SelMeaning) → IsTight (path_from sc v ss (of-bits (whole w) w)).window (width_from ss (of-bits nowhere w)).width
    alone-bits ss = selects-tight ss sc v w (whole w) nowhere (whole-tight w)

    -- in that word the piece writes what it writes in a word alone
    same-piece : (x : Inner) (bits : List Bit4) (j : ℕ) → j < w
        → piece_puts (word_piece name g s x) sc v bits (record { signal = n.number; bit = y * w + j }) ≡ piece_puts (alone_piece w x) sc v bits (record { signal = 0; bit = j })
    same-piece x bits j less =
        let kept = take x.width (drop x.low bits) in
        piece-on x bits (record { signal = n.number; bit = y * w + j }) on
        ∙ ap (λ o. cond (holds x.guard sc v) o None)
        (written-bit n.number (T.path_of n (s ∷ x.sels) sc v).window kept (y * w + j)
        ∙ ap (λ p. bit-written p kept (y * w + j)) (there-window x.sels)
        ∙ run-written run (y * w) w (count * w) refl (row-inside y count w few) (path_from sc v x.sels (of-bits run w)).window (path_from sc v x.sels (of-bits (whole w) w)).window
        (width_from x.sels (of-bits nowhere w)).width (run-seen x.sels) (run-bits x.sels) (alone-bits x.sels) kept j less
        ∙ sym (written-bit 0 (path_from sc v x.sels (of-bits (whole w) w)).window kept j))
        ∙ sym (changed-at (holds x.guard sc v) (written 0 (path_from sc v x.sels (of-bits (whole w) w)).window kept) (record { signal = 0; bit = j }))

    same-pieces : (xs : List Inner) (bits : List Bit4) (j : ℕ) → j < w
        → pieces_put (word_pieces name g s xs) sc v bits (record { signal = n.number; bit = y * w + j }) ≡ pieces_put (alone_pieces w xs) sc v bits (record { signal = 0; bit = j })
    same-pieces [] bits j less = refl
    same-pieces (x ∷ xs) bits j less = λ d. later_or (same-pieces xs bits j less d) (same-piece x bits j less d)

    -- in no other word it writes anything
    other-piece : (bits : List Bit4) (b : ℕ) → (b < y * w) ⊎ (y * w + w ≤ b) → (x : Inner) → piece_puts (word_piece name g s x) sc v bits (record { signal = n.number; bit = b }) ≡ None
    other-piece bits b out x =
        let kept = take x.width (drop x.low bits) in
        piece-on x bits (record { signal = n.number; bit = b }) on
        ∙ unchanged-at (holds x.guard sc v) (written n.number (T.path_of n (s ∷ x.sels) sc v).window kept (record { signal = n.number; bit = b }))
        (written-bit n.number (T.path_of n (s ∷ x.sels) sc v).window kept b
        ∙ ap (λ p. bit-written p kept b) (there-window x.sels)
        ∙ beside-written run (y * w) w (count * w) refl (row-inside y count w few) (path_from sc v x.sels (of-bits run w)).window (path_from sc v x.sels (of-bits (whole w) w)).window
        (width_from x.sels (of-bits nowhere w)).width (run-seen x.sels) (run-bits x.sels) (alone-bits x.sels) kept b out)

  -- what a path in the element writes
  module _ (path inner : Window) (m : ℕ) (tight : IsTight path m) (inner_tight : IsTight inner m) (seen : IsSeen path (element_of of i (whole (count * w))) inner)
      (xs : List Inner) (alone_written : IsWritten inner m 0 (alone_pieces w xs) sc v) where
    -- of no element
    nothing : NoRank of i → (bits : List Bit4) (b : ℕ) → bit-written path bits b ≡ None
    nothing none bits b = none-written path m tight (λ j less. none-from path inner (subst (λ p. IsSeen path p inner) (no-element of i (whole (count * w)) none) seen) j) bits b

    -- of one
    module _ (y : ℕ) (has : HasWord of i y) (is : s.base sc v ≡ Some (pos y)) (on : holds g sc v ≡ true) (bits : List Bit4) (long : length bits ≡ m) where
      abbrev place : ℕ
      place = (rank-below of has.index y has.word_is has.below).q

      rank-is : rank of has.index ≡ pos place
      rank-is = (rank-below of has.index y has.word_is has.below).is

      rank-few : place < count
      rank-few = (rank-below of has.index y has.word_is has.below).below

      element-seen : IsSeen path (part (pos (place * w)) w (whole (count * w))) inner
      element-seen =
          subst (λ p. IsSeen path p inner) (element-here of has.index place (whole (count * w)) rank-is rank-few)
          (subst (λ z. IsSeen path (element_of of z (whole (count * w))) inner) has.known_there seen)

      in-it : (j : ℕ) → j < w → pieces_put (word_pieces name g s xs) sc v bits (record { signal = n.number; bit = y * w + j }) ≡ bit-written path bits (place * w + j)
      in-it j less =
          same-pieces y has.below is on xs bits j less
          ∙ alone_written.puts bits long (record { signal = 0; bit = j })
          ∙ written-bit 0 inner bits j
          ∙ sym (run-written (part (pos (place * w)) w (whole (count * w))) (place * w) w (count * w) refl (row-inside place count w rank-few) path inner m element-seen tight inner_tight bits j less)

      beside-it : (x q j : ℕ) → (x ≡ y → ⊥) → (q ≡ place → ⊥) → j < w → pieces_put (word_pieces name g s xs) sc v bits (record { signal = n.number; bit = x * w + j }) ≡ bit-written path bits (q * w + j)
      beside-it x q j apart elsewhere less =
          all-none xs bits (record { signal = n.number; bit = x * w + j }) (other-piece y has.below is on bits (x * w + j) (rows-apart x y w j apart less))
          ∙ sym (beside-written (part (pos (place * w)) w (whole (count * w))) (place * w) w (count * w) refl (row-inside place count w rank-few) path inner m element-seen tight inner_tight bits (q * w + j) (rows-apart q place w j elsewhere less))

      at-word : (x q j : ℕ) (k : ℤ) → k -ℤ lower of ≡ pos x → rank of k ≡ pos q → j < w
          → pieces_put (word_pieces name g s xs) sc v bits (record { signal = n.number; bit = x * w + j }) ≡ bit-written path bits (q * w + j)
      at-word x q j k word ranked less = by (x == y) refl
        where
          there-too : x ≡ y → q ≡ place
          there-too e =
              let same = one-word (lower of) k has.index (word ∙ ap pos e ∙ sym has.word_is) in
              pos-same q place (sym ranked ∙ ap (rank of) same ∙ rank-is)
            where
              pos-same : (a b : ℕ) → pos a ≡ pos b → a ≡ b
              pos-same a b f = cc

          back : q ≡ place → x ≡ y
          back e =
              let same = one-rank of k has.index (ranked ∙ ap pos e ∙ sym rank-is) in
              pos-same x y (sym word ∙ ap (λ z. z -ℤ lower of) same ∙ has.word_is)
            where
              pos-same : (a b : ℕ) → pos a ≡ pos b → a ≡ b
              pos-same a b f = cc

          by : (b : Bool) → (x == y) ≡ b → pieces_put (word_pieces name g s xs) sc v bits (record { signal = n.number; bit = x * w + j }) ≡ bit-written path bits (q * w + j)
          by true h =
              let e : x ≡ y = grind (arith, nat_tests) in
              ap (λ z. pieces_put (word_pieces name g s xs) sc v bits (record { signal = n.number; bit = z * w + j })) e ∙ in-it j less ∙ ap (λ z. bit-written path bits (z * w + j)) (sym (there-too e))
          by false h = beside-it x q j (differ h) (λ e. differ h (back e)) less
            where
              differ : (x == y) ≡ false → x ≡ y → ⊥
              differ f e = grind (arith, nat_tests)

    -- at any word
    by-word : (bits : List Bit4) → length bits ≡ m → holds g sc v ≡ true → NamesWord of i (s.base sc v) → (x q j : ℕ) (k : ℤ) → k -ℤ lower of ≡ pos x → rank of k ≡ pos q → j < w
        → pieces_put (word_pieces name g s xs) sc v bits (record { signal = n.number; bit = x * w + j }) ≡ bit-written path bits (q * w + j)
    by-word bits long on (there y has is) x q j k word ranked less = at-word y has is on bits long x q j k word ranked less
    by-word bits long on (behind y far is) x q j k word ranked less =
        all-none xs bits (record { signal = n.number; bit = x * w + j }) (lost-piece (Some (pos y)) is (ap (λ b. cond b (part (pos y *ℤ pos w) w (whole (count * w))) nowhere) (outside-it y count far.behind)) bits (x * w + j) on)
        ∙ sym (nothing far.none bits (q * w + j))
      where
        outside-it : (a b : ℕ) → b ≤ a → (int_le (pos 0) (pos a) && int_lt (pos a) (pos b)) ≡ false
        outside-it a b many = grind (arith, nat_tests)
    by-word bits long on (lost none is) x q j k word ranked less =
        all-none xs bits (record { signal = n.number; bit = x * w + j }) (lost-piece None is refl bits (x * w + j) on)
        ∙ sym (nothing none bits (q * w + j))

    by-guard : (bits : List Bit4) → length bits ≡ m → (b : Bool) → holds g sc v ≡ b → (x q j : ℕ) (k : ℤ) → k -ℤ lower of ≡ pos x → rank of k ≡ pos q → j < w
        → pieces_put (word_pieces name g s xs) sc v bits (record { signal = n.number; bit = x * w + j }) ≡ bit-written path bits (q * w + j)
    by-guard bits long true on x q j k word ranked less = by-word bits long on (selects.yes on) x q j k word ranked less
    by-guard bits long false off x q j k word ranked less =
        all-none xs bits (record { signal = n.number; bit = x * w + j }) (λ y. piece-off y bits (record { signal = n.number; bit = x * w + j }) off) ∙ sym (nothing (selects.no off) bits (q * w + j))

    -- of another signal or local
    elsewhere : (bits : List Bit4) (q : Place) → (q.signal ≡ n.number → ⊥) → pieces_put (word_pieces name g s xs) sc v bits q ≡ None
    elsewhere bits q apart = all-none xs bits q (λ x. by x (holds g sc v) refl)
      where
        by : (x : Inner) (b : Bool) → holds g sc v ≡ b → piece_puts (word_piece name g s x) sc v bits q ≡ None
        by x true on =
            piece-on x bits q on
            ∙ unchanged-at (holds x.guard sc v) (written n.number (T.path_of n (s ∷ x.sels) sc v).window (take x.width (drop x.low bits)) q)
            (written-other n.number (T.path_of n (s ∷ x.sels) sc v).window (take x.width (drop x.low bits)) q.signal q.bit apart)
        by x false off = piece-off x bits q off

    -- What writes a path in a word alone writes a path in an element of an array to the element's word.
    pub words-written : IsWrittenInWords of path m n.number (word_pieces name g s xs) sc v
    words-written = record {
      wide = wide xs alone_written.wide;
      below = below m xs alone_written.below;
      puts = λ bits long r x q j k word few ranked less. by-guard bits long (holds g sc v) refl x q j k word ranked less ∙ sym (written-bit r path bits (q * w + j));
      other = elsewhere;
    }
