-- Elements of an array in the words of a memory.
use Rattle.std.proofs.Common.{◌≡◌, ◌⊎◌, inl, inr, ℕ, zero, suc, ◌+◌, ◌^◌, ◌<◌, ◌≤◌, Bool, true, false, ◌&&◌, cond, ℤ, pos, negsuc, ◌-ℤ◌, ◌+ℤ◌, ◌*ℤ◌, ◌<ℤ◌, length, List, [], ◌∷◌, Option, Some, None, refl, arith, sym, ◌∙◌, subst, ap, true≢false}
use Rattle.std.specs.Prelude.{int_le, int_lt, nat_lt, unsigned_abs}
use Rattle.std.proofs.lemmas.Int.{ints}
use Rattle.std.proofs.lemmas.Bool.Decides.{nat_tests}
use Rattle.b4_core.specs.declared.bit.Bit4.{Bit4}
use Rattle.b4_core.specs.Bits.{is_one}
use Rattle.b4_core.specs.Vectors.{known, num, snum, number, vec, ext, unknown as unknown_bits}
use Rattle.b4_core.specs.Binary.{arithmetic}
use Rattle.row_machine.specs.Valuation.{Valuation}
use Rattle.row_machine.specs.Places.{vector_at}
use Rattle.picks.specs.Windows.{Window, whole, nowhere, part, picked, bit_at, seen}
use Rattle.sv_types.specs.Layouts.{Layout, count_of}
use Rattle.sv_types.specs.Windows.{falls, rank, element_of, elements}
use Rattle.sv_types.specs.Surroundings.{Around}
use Rattle.sv_types.specs.Meanings as S
use Rattle.sv_types.specs.Paths as P
use Rattle.sv_types.proofs.OperatorLengths.{length-ext}
use Rattle.sv_types.proofs.Picks.{tabulated-same, nothing-there}
use Rattle.v_tree.specs.Names.{Name}
use Rattle.v_meaning.specs.Scopes.{Scope, Named, named, all_bits}
use Rattle.v_meaning.specs.Selects.{select, bits_named}
use Rattle.v_meaning.specs.Values as T
use Rattle.v_meaning.specs.Values.{expression_base, number_of}
use Rattle.lowering_laws.specs.Images.{raw}
use Rattle.lowering_laws.specs.Placed.{holds, HasRank, NoRank, unknown, outside, IsRank}
use Rattle.lowering_laws.specs.Reached.{IsRead}
use Rattle.lowering_laws.specs.Same.{SameAlone}
use Rattle.lowering_laws.specs.Terms.{above}
use Rattle.lowering_laws.specs.Terms as terms
use Rattle.lowering_laws.specs.Words.{lower, HasWord, BehindAll, IsWord, IsMemory}
use Rattle.lowering_laws.proofs.AnyRank.{IsIndex, le-yes, le-no, offset, vec-offset, between-is, difference-above, above-known, above-unknown, braced-bits, up-rank}
use Rattle.lowering_laws.proofs.Contexts.{alone-value}
use Rattle.lowering_laws.proofs.Indices.{index-there, index-lost}
use Rattle.lowering_laws.proofs.Offsets.{and-cases, unknown-bits}
use Rattle.lowering_laws.proofs.SignedNumbers.{FitsSigned, literal-signed, known-vec, length-vec}
use Rattle.lowering_laws.proofs.Extensions.{ext-at}
use Rattle.lowering_laws.proofs.Paths.{length-raw}
use Rattle.lowering_laws.proofs.PathSteps.{IsElement, element-names-none}

-- Where bounds fall, the word is the rank.
lower-falls : (of : Layout) → falls of ≡ true → lower of ≡ of.right
lower-falls of down = ap (λ b. cond b of.right of.left) down

lower-rises : (of : Layout) → falls of ≡ false → lower of ≡ of.left
lower-rises of rise = ap (λ b. cond b of.right of.left) rise

rank-falls : (of : Layout) (k : ℤ) → falls of ≡ true → rank of k ≡ k -ℤ lower of
rank-falls of k down = ap (λ b. cond b (k -ℤ of.right) (of.right -ℤ k)) down ∙ sym (ap (λ x. k -ℤ x) (lower-falls of down))

rank-has-word : (of : Layout) (i : Option ℤ) (q : ℕ) → falls of ≡ true → HasRank of i q → HasWord of i q
rank-has-word of i q down has = record {
  index = has.index;
  known_there = has.known_there;
  word_is = sym (rank-falls of has.index down) ∙ has.rank_is;
  below = has.below;
}

pub rank-is-word : (of : Layout) (i : Option ℤ) (g : Option T.Meaning) (r : T.Meaning) (w : ℕ) (sc : Scope) (v : Valuation)
    → falls of ≡ true → r.width sc ≡ w → IsRank of i g r w sc v → IsWord of i g r sc v
rank-is-word of i g r w sc v down width is =
    let alone : T.alone r sc v ≡ r.value w false sc v = λ d. r.value (width d) (is.unsigned d) sc v in
    record {
      unsigned = is.unsigned;
      yes = λ h k. inl (subst (HasWord of i) (sym (ap num alone)) (rank-has-word of i _ down (is.yes h (sym (ap known alone) ∙ k))));
      no = is.no;
      lost = λ h k. is.lost h (sym (ap known alone) ∙ k);
    }

-- An element that has a word has a rank.
record IsBelow (z : ℤ) (count : ℕ) : Type 0 where
  q : ℕ
  is : z ≡ pos q
  below : q < count

rising-below : (left right k d z : ℤ) (x : ℕ) → left -ℤ right ≡ d → right -ℤ k ≡ z → left <ℤ right → k -ℤ left ≡ pos x
    → x < unsigned_abs d + 1 → IsBelow z (unsigned_abs d + 1)
rising-below left right k (pos d) z x e f less is few = absurd (omega (arith, ints))
rising-below left right k (negsuc d) (pos z) x e f less is few = record { q = z; is = refl; below = omega (arith, ints) }
rising-below left right k (negsuc d) (negsuc z) x e f less is few =
    let abs : unsigned_abs (negsuc d) ≡ suc d = refl in
    absurd (omega (arith, ints))

word-below-by : (of : Layout) (k : ℤ) (x : ℕ) (down : Bool) → falls of ≡ down → k -ℤ lower of ≡ pos x → x < count_of of.left of.right → IsBelow (rank of k) (count_of of.left of.right)
word-below-by of k x true down is few = record { q = x; is = rank-falls of k down ∙ is; below = few }
word-below-by of k x false rise is few =
    let rank_is : rank of k ≡ of.right -ℤ k = ap (λ b. cond b (k -ℤ of.right) (of.right -ℤ k)) rise in
    let from_left : k -ℤ of.left ≡ pos x = ap (λ l. k -ℤ l) (sym (lower-rises of rise)) ∙ is in
    subst (λ z. IsBelow z (count_of of.left of.right)) (sym rank_is)
    (rising-below of.left of.right k (of.left -ℤ of.right) (of.right -ℤ k) x refl refl (le-no of.right of.left rise) from_left few)

element-there : (of : Layout) (k : ℤ) (path : Window) → IsBelow (rank of k) (count_of of.left of.right) → element_of of (Some k) path ≡ elements of (rank of k) 1 path
element-there of k path h =
    ap (λ b. cond b (elements of (rank of k) 1 path) nowhere)
    (ap (λ z. int_le (pos 0) z && int_lt z (pos (count_of of.left of.right))) h.is ∙ inside h.q (count_of of.left of.right) h.below)
  where
    inside : (q n : ℕ) → q < n → (int_le (pos 0) (pos q) && int_lt (pos q) (pos n)) ≡ true
    inside q n less = grind (arith, nat_tests)

-- A memory with an index.
word-window : (n : Named) (r : T.Meaning) (count : ℕ) (sc : Scope) (v : Valuation) (base : Option ℤ) → n.words ≡ Some count → number_of r.signed (T.alone r sc v) ≡ base
    → (T.path_of n (expression_base r None ∷ []) sc v).window
    ≡ elim base [ None ↦ nowhere | Some k ↦ cond (int_le (pos 0) k && int_lt k (pos count)) (part (k *ℤ pos n.width) n.width (whole (all_bits n))) nowhere ]
word-window n r count sc v base is number =
    ap (λ (ws : Option ℕ). (select (expression_base r None) (number_of r.signed (T.alone r sc v)) (record { window = whole (all_bits n); width = n.width; words = ws })).window) is
    ∙ ap (λ (b : Option ℤ). elim b [ None ↦ nowhere | Some k ↦ cond (int_le (pos 0) k && int_lt k (pos count)) (part (k *ℤ pos n.width) n.width (whole (all_bits n))) nowhere ]) number

word-width : (n : Named) (r : T.Meaning) (count : ℕ) → n.words ≡ Some count → T.width_of n (expression_base r None ∷ []) ≡ n.width
word-width n r count is =
    ap (λ (ws : Option ℕ). bits_named (select (expression_base r None) None (record { window = whole (all_bits n); width = n.width; words = ws })) (all_bits n)) is

number-there : (r : T.Meaning) (sc : Scope) (v : Valuation) → r.signed ≡ false → known (T.alone r sc v) ≡ true → number_of r.signed (T.alone r sc v) ≡ Some (pos (num (T.alone r sc v)))
number-there r sc v unsigned k =
    ap (λ s. number_of s (T.alone r sc v)) unsigned ∙ ap (λ b. cond b (Some (number false (T.alone r sc v))) None) k

number-lost : (r : T.Meaning) (sc : Scope) (v : Valuation) → known (T.alone r sc v) ≡ false → number_of r.signed (T.alone r sc v) ≡ None
number-lost r sc v k = ap (λ b. cond b (Some (number r.signed (T.alone r sc v))) None) k

nothing-read : (x y : List Bit4) (n : ℕ) (path : Window) → ((j : ℕ) → j < n → picked path j ≡ None) → seen x nowhere n ≡ seen y path n
nothing-read x y n path none = tabulated-same n _ _ (λ j h. ap (bit_at x) (nothing-there (pos j +ℤ pos 0)) ∙ sym (ap (bit_at y) (none j h)))

-- Reading it is reading the element.
module _ (e from : S.Meaning) (a : Around) (i : Option ℤ) (g : Option T.Meaning) (r : T.Meaning) (name : Name) (sc : Scope) (v : Valuation)
    (base : e.base a ≡ from.base a) (is_element : IsElement e from a i) (memory : IsMemory from a (named sc.names name) v) (is_word : IsWord from.of i g r sc v) where
  abbrev n : Named
  n = named sc.names name

  abbrev count : ℕ
  count = count_of from.of.left from.of.right

  abbrev held : List Bit4
  held = vector_at v n.number (all_bits n)

  abbrev target : Window
  target = (T.path_of n (expression_base r None ∷ []) sc v).window

  wide-is : S.wide e ≡ n.width
  wide-is = is_element.wide ∙ sym memory.width

  raw-is : raw e a ≡ seen (from.base a) (element_of from.of i (from.window a)) n.width
  raw-is = λ d. seen (base d) (is_element.window d) (wide-is d)

  none-read : target ≡ nowhere → NoRank from.of i → seen held target n.width ≡ raw e a
  none-read is none =
      ap (λ x. seen held x n.width) is ∙ ap (λ k. seen held nowhere k) (sym wide-is)
      ∙ nothing-read held (e.base a) (S.wide e) (e.window a) (element-names-none e from a i is_element none)

  there : known (T.alone r sc v) ≡ true → HasWord from.of i (num (T.alone r sc v)) ⊎ BehindAll from.of i (num (T.alone r sc v)) → seen held target n.width ≡ raw e a
  there k (inl has) =
      let x = num (T.alone r sc v) in
      let window = word-window n r count sc v (Some (pos x)) memory.words (number-there r sc v is_word.unsigned k) in
      ap (λ y. seen held y n.width) (window ∙ ap (λ b. cond b (part (pos x *ℤ pos n.width) n.width (whole (all_bits n))) nowhere) (inside x count has.below))
      ∙ memory.holds has.index x has.word_is has.below
      ∙ ap (λ y. seen (from.base a) y n.width) (sym (element-there from.of has.index (from.window a) (word-below-by from.of has.index x (falls from.of) refl has.word_is has.below)))
      ∙ ap (λ z. seen (from.base a) (element_of from.of z (from.window a)) n.width) (sym has.known_there)
      ∙ sym raw-is
    where
      inside : (q m : ℕ) → q < m → (int_le (pos 0) (pos q) && int_lt (pos q) (pos m)) ≡ true
      inside q m less = grind (arith, nat_tests)
  there k (inr far) =
      let x = num (T.alone r sc v) in
      let window = word-window n r count sc v (Some (pos x)) memory.words (number-there r sc v is_word.unsigned k) in
      none-read (window ∙ ap (λ b. cond b (part (pos x *ℤ pos n.width) n.width (whole (all_bits n))) nowhere) (outside x count far.behind)) far.none
    where
      outside : (q m : ℕ) → m ≤ q → (int_le (pos 0) (pos q) && int_lt (pos q) (pos m)) ≡ false
      outside q m more = grind (arith, nat_tests)

  by-known : holds g sc v ≡ true → (b : Bool) → known (T.alone r sc v) ≡ b → seen held target n.width ≡ raw e a
  by-known h true k = there k (is_word.yes h k)
  by-known h false k = none-read (word-window n r count sc v None memory.words (number-lost r sc v k)) (is_word.lost h k)

  abbrev m : T.Meaning
  m = T.reference name (expression_base r None ∷ [])

  width-is : m.width sc ≡ S.wide e
  unfolding T.reference
  width-is = word-width n r count memory.words ∙ sym wide-is

  alone-is : T.alone m sc v ≡ ext (S.wide e) false (seen held target n.width)
  unfolding T.reference
  alone-is = λ d. ext (width-is d) false (seen held target (word-width n r count memory.words d))

  read-is : holds g sc v ≡ true → T.alone m sc v ≡ raw e a
  read-is h = alone-is ∙ ap (ext (S.wide e) false) (by-known h (known (T.alone r sc v)) refl) ∙ ext-at (S.wide e) false (raw e a) (length-raw e a)

  unsigned-is : m.signed ≡ false
  unfolding T.reference
  unsigned-is = refl

  long-is : length (T.alone m sc v) ≡ S.wide e
  long-is = ap length alone-is ∙ length-ext (S.wide e) false (seen held target n.width)

  pub word-read : IsRead e a g m sc v
  word-read = record {
    width = width-is;
    unsigned = unsigned-is;
    long = long-is;
    yes = read-is;
    no = λ h. element-names-none e from a i is_element (is_word.no h);
  }

-- A number at or behind the number of elements is the word of none.
rising-far : (left right k d z : ℤ) (x : ℕ) → left -ℤ right ≡ d → right -ℤ k ≡ z → left <ℤ right → k -ℤ left ≡ pos x
    → unsigned_abs d + 1 ≤ x → (int_le (pos 0) z && int_lt z (pos (unsigned_abs d + 1))) ≡ false
rising-far left right k d (negsuc z) x e f less is many = refl
rising-far left right k (pos d) (pos z) x e f less is many = absurd (omega (arith, ints))
rising-far left right k (negsuc d) (pos z) x e f less is many =
    let abs : unsigned_abs (negsuc d) ≡ suc d = refl in
    absurd (omega (arith, ints))

falling-far : (x n : ℕ) → n ≤ x → (int_le (pos 0) (pos x) && int_lt (pos x) (pos n)) ≡ false
falling-far x n many = grind (arith, nat_tests)

word-far : (of : Layout) (k : ℤ) (x : ℕ) (down : Bool) → falls of ≡ down → k -ℤ lower of ≡ pos x → count_of of.left of.right ≤ x
    → (int_le (pos 0) (rank of k) && int_lt (rank of k) (pos (count_of of.left of.right))) ≡ false
word-far of k x true down is many =
    ap (λ z. int_le (pos 0) z && int_lt z (pos (count_of of.left of.right))) (rank-falls of k down ∙ is) ∙ falling-far x (count_of of.left of.right) many
word-far of k x false rise is many =
    let rank_is : rank of k ≡ of.right -ℤ k = ap (λ b. cond b (k -ℤ of.right) (of.right -ℤ k)) rise in
    let from_left : k -ℤ of.left ≡ pos x = ap (λ l. k -ℤ l) (sym (lower-rises of rise)) ∙ is in
    ap (λ z. int_le (pos 0) z && int_lt z (pos (count_of of.left of.right))) rank_is
    ∙ rising-far of.left of.right k (of.left -ℤ of.right) (of.right -ℤ k) x refl refl (le-no of.right of.left rise) from_left many

-- An unsigned index of an array whose smaller bound is 0 is the word as it is.
module _ (of : Layout) (i : S.Meaning) (a : Around) (y : T.Meaning) (sc : Scope) (v : Valuation)
    (zero_based : lower of ≡ pos 0) (plain : S.signed i ≡ false) (same : SameAlone i a y sc v) where
  bits : T.alone y sc v ≡ S.alone i a
  bits = alone-value i a y sc v same

  index-is : known (T.alone y sc v) ≡ true → P.index_of i a ≡ Some (pos (num (T.alone y sc v)))
  index-is k = index-there i a false plain (sym (ap known bits) ∙ k) ∙ ap (λ u. Some (pos (num u))) (sym bits)

  word-number : (x : ℕ) → pos x -ℤ lower of ≡ pos x
  word-number x = ap (λ l. pos x -ℤ l) zero_based ∙ nothing_off x
    where
      nothing_off : (n : ℕ) → pos n -ℤ pos 0 ≡ pos n
      nothing_off n = omega (arith, ints)

  by-count : (x : ℕ) (b : Bool) → nat_lt x (count_of of.left of.right) ≡ b → P.index_of i a ≡ Some (pos x) → HasWord of (P.index_of i a) x ⊎ BehindAll of (P.index_of i a) x
  by-count x true h is = inl (record { index = pos x; known_there = is; word_is = word-number x; below = grind (arith, nat_tests) })
  by-count x false h is =
      let many : count_of of.left of.right ≤ x = grind (arith, nat_tests) in
      inr (record { behind = many; none = subst (NoRank of) (sym is) (outside (pos x) (word-far of (pos x) x (falls of) refl (word-number x) many)) })

  pub plain-word : IsWord of (P.index_of i a) None y sc v
  plain-word = record {
    unsigned = same.sign ∙ plain;
    yes = λ h k. by-count (num (T.alone y sc v)) _ refl (index-is k);
    no = λ h. absurd (true≢false h);
    lost = λ h k. subst (NoRank of) (sym (index-lost i a (sym (ap known bits) ∙ k))) unknown;
  }

-- Any index of an array whose bounds rise, by signed numbers.
abs-turn : (x y d e : ℤ) → x -ℤ y ≡ d → y -ℤ x ≡ e → unsigned_abs d ≡ unsigned_abs e
abs-turn x y (pos d) (pos e) f g = omega (arith, ints)
abs-turn x y (pos d) (negsuc e) f g = (let same : unsigned_abs (negsuc e) ≡ suc e = refl in omega (arith, ints))
abs-turn x y (negsuc d) (pos e) f g = (let same : unsigned_abs (negsuc d) ≡ suc d = refl in omega (arith, ints))
abs-turn x y (negsuc d) (negsuc e) f g = absurd (omega (arith, ints))

module _ (of : Layout) (p : ℕ) (i : Option ℤ) (m : T.Meaning) (sc : Scope) (v : Valuation) (index : IsIndex i m (suc p) sc v)
    (left_fits : FitsSigned p of.left) (right_fits : FitsSigned p of.right) (few : count_of of.left of.right < 2 ^ suc p) (rise : falls of ≡ false) where
  abbrev index_bits : List Bit4
  index_bits = T.alone m sc v

  abbrev r : T.Meaning
  r = above (T.signing true m) (suc p) of.left

  abbrev guard : T.Meaning
  guard = terms.between (T.signing true m) (suc p) of.left of.right

  abbrev u : List Bit4
  u = arithmetic (λ x y. x -ℤ y) true (ext (suc p) true index_bits) (vec (suc p) of.left)

  length-unknown : (n : ℕ) → length (unknown_bits n) ≡ n
  length-unknown zero = refl
  length-unknown (suc n) = ap suc (length-unknown n)

  bits-known : (b : Bool) → known index_bits ≡ b → (length u ≡ suc p) × (known u ≡ b)
  bits-known true k =
      let is = above-known i m (suc p) sc v index of.left k (literal-signed p of.left left_fits) in
      (ap length is ∙ length-vec (suc p) _, ap known is ∙ known-vec (suc p) _)
  bits-known false k =
      let is = above-unknown i m (suc p) sc v index of.left k in
      (ap length is ∙ length-unknown (suc p), ap known is ∙ unknown-bits (suc p) (omega arith))

  shape : (r.width sc ≡ suc p) × (r.signed ≡ false) × (r.value (suc p) false sc v ≡ u)
  shape =
      let d = difference-above i m (suc p) sc v index of.left in
      braced-bits _ (suc p) u sc v d.0 d.1 (bits-known (known index_bits) refl).0

  alone-u : T.alone r sc v ≡ u
  alone-u = (λ d. r.value (shape.0 d) (shape.1 d) sc v) ∙ shape.2

  guard-is : is_one (T.truth guard sc v) ≡ (known index_bits && (int_le of.left (snum index_bits) && int_le (snum index_bits) of.right))
  guard-is = between-is i m (suc p) sc v index of.left of.right (literal-signed p of.left left_fits) (literal-signed p of.right right_fits)

  word-there : known index_bits ≡ true → (int_le of.left (snum index_bits) ≡ true) × (int_le (snum index_bits) of.right ≡ true) → HasWord of i (num (T.alone r sc v))
  word-there k inside =
      let o = offset of.left of.right (snum index_bits) (le-yes of.left (snum index_bits) inside.0) (le-yes (snum index_bits) of.right inside.1) in
      let below = (o.1).below in
      let turned = abs-turn of.left of.right (of.left -ℤ of.right) (of.right -ℤ of.left) refl refl in
      let number = ap num alone-u ∙ ap num (above-known i m (suc p) sc v index of.left k (literal-signed p of.left left_fits)) ∙ vec-offset (suc p) o.0 _ (o.1).is (omega arith) in
      subst (HasWord of i) (sym number) (record {
        index = snum index_bits;
        known_there = index.there k;
        word_is = ap (λ l. snum index_bits -ℤ l) (lower-rises of rise) ∙ (o.1).is;
        below = omega arith;
      })

  pub rising-word : IsWord of i (Some guard) r sc v
  rising-word = record {
    unsigned = shape.1;
    yes = λ h k.
        let parts = and-cases (known index_bits) _ (sym guard-is ∙ h) in
        inl (word-there parts.0 (and-cases (int_le of.left (snum index_bits)) (int_le (snum index_bits) of.right) parts.1));
    no = (up-rank of p i m sc v index left_fits right_fits few rise).no;
    lost = λ h k. subst (NoRank of) (sym (index.lost (sym (bits-known (known index_bits) refl).1 ∙ sym (ap known alone-u) ∙ k))) unknown;
  }
