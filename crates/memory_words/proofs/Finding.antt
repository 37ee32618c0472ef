-- In which word an index has its element.
use Rattle.std.proofs.Common.{◌≡◌, ◌⊎◌, inl, inr, ℕ, zero, suc, ◌+◌, ◌*◌, ◌^◌, ◌<◌, ◌≤◌, Bool, true, false, ◌&&◌, cond, ℤ, pos, negsuc, neg_ℤ, ◌+ℤ◌, ◌-ℤ◌, ◌≤ℤ◌, ◌<ℤ◌, length, [], ◌∷◌, Option, Some, None, refl, arith, ap, sym, ◌∙◌, subst, true≢false}
use Rattle.std.specs.Prelude.{int_le, int_lt, unsigned_abs}
use Rattle.std.proofs.lemmas.Int.{ints}
use Rattle.std.proofs.lemmas.Bool.Decides.{nat_tests}
use Rattle.b4_core.specs.declared.operators.BinOp.TheVariants.{Sub}
use Rattle.b4_core.specs.Vectors.{known, num, snum}
use Rattle.b4_core.proofs.Numbers.{num_lt}
use Rattle.row_machine.specs.Valuation.{Valuation}
use Rattle.sv_types.specs.declared.types.SvType.{SvType}
use Rattle.sv_types.specs.Layouts.{Layout, layout, width_of, count_of}
use Rattle.sv_types.specs.Windows.{falls, rank}
use Rattle.sv_types.specs.Surroundings.{Around}
use Rattle.sv_types.specs.Meanings as S
use Rattle.sv_types.specs.Paths as P
use Rattle.v_meaning.specs.Scopes.{Scope}
use Rattle.v_meaning.specs.Values as T
use Rattle.v_meaning.specs.Values.{meaning}
use Rattle.eval_parts.specs.declared.layouts.Bounds.{Bounds}
use Rattle.lowering_laws.specs.Placed.{holds, HasRank, NoRank, unknown, outside, IsRank}
use Rattle.lowering_laws.specs.Signed.{IsIndex, FitsSigned}
use Rattle.lowering_laws.specs.Terms.{above, between, bound, braced}
use Rattle.lowering_laws.specs.Words.{lower, HasWord, BehindAll, IsWord}
use Rattle.lowering_laws.proofs.AnyRank.{between-is, difference-above, le-yes, le-no, offset}
use Rattle.lowering_laws.proofs.Contexts.{alone-value, alone-width}
use Rattle.lowering_laws.proofs.Offsets.{and-cases}
use Rattle.lowering_laws.proofs.SignedNumbers.{literal-signed}
use Rattle.lowering_laws.proofs.Wholes.{type-whole}
use Rattle.lowering_laws.proofs.Words.{plain-word, rank-is-word, rising-word}
use Rattle.memory_laws.proofs.Ranking.{rank-below}
use Rattle.path_flatten.specs.declared.offsets.Index.{Index}
use Rattle.path_flatten.specs.declared.ranks.Rank.{Rank}
use Rattle.path_flatten.specs.Guards.{guard_meaning}
use Rattle.path_flatten.specs.Placing.{RanksGuarded, RanksSigned}
use Rattle.path_flatten.specs.Sliding.{IsIndexOf, IsSignedIndex}
use Rattle.memory_words.specs.Words.{lowest, highest, IsExactWord, FindsWordBetween, FindsWordUpTo, NumbersWord}

pub lower-is : (of : Layout) (b : Bounds) → of.left ≡ b.left → of.right ≡ b.right → lower of ≡ lowest b
lower-is of b left right = λ i. cond (int_le (right i) (left i)) (right i) (left i)

braced-width : (e : T.Meaning) (w : ℕ) (sc : Scope) → e.width sc ≡ w → (T.concatenation (e ∷ [])).width sc ≡ w
unfolding T.concatenation
braced-width e w sc is = omega arith

-- a word is exact where the guard and the bits leave out numbers behind all words
exact-by : (of : Layout) (i : Option ℤ) (g : Option T.Meaning) (r : T.Meaning) (sc : Scope) (v : Valuation) → IsWord of i g r sc v
    → (holds g sc v ≡ true → known (T.alone r sc v) ≡ true → BehindAll of i (num (T.alone r sc v)) → ⊥) → IsExactWord of i g r sc v
exact-by of i g r sc v h never = record {
  unsigned = h.unsigned;
  yes = λ on k. elim (h.yes on k) [ inl has ↦ has | inr far ↦ absurd (never on k far) ];
  no = h.no;
  lost = h.lost;
}

-- an element that has a word isn't out of range
none-out : (of : Layout) (k : ℤ) → NoRank of (Some k) → (int_le (pos 0) (rank of k) && int_lt (rank of k) (pos (count_of of.left of.right))) ≡ false
none-out of k (outside _ e) = e

pub not-none : (of : Layout) (i : Option ℤ) (x : ℕ) → HasWord of i x → NoRank of i → ⊥
not-none of i x has none =
    let at = rank-below of has.index x has.word_is has.below in
    let out = none-out of has.index (subst (NoRank of) has.known_there none) in
    let in_range = ap (λ z. int_le (pos 0) z && int_lt z (pos (count_of of.left of.right))) at.is ∙ inside at.q (count_of of.left of.right) at.below in
    true≢false (sym in_range ∙ out)
  where
    inside : (q n : ℕ) → q < n → (int_le (pos 0) (pos q) && int_lt (pos q) (pos n)) ≡ true
    inside q n less = grind (arith, nat_tests)

-- An unsigned index where the words have the numbers of the indices: each of its numbers is that of a word.
pub free-finds : (x : Index) (last : ℕ) (r : Rank) → x.signed ≡ false → 2 ^ x.width ≤ suc last → guard_meaning r.guard ≡ None → meaning r.rank ≡ meaning x.expr → FindsWordUpTo x last r
free-finds x last r unsigned few guard rank of i a sc v zero_based count is =
    subst (λ g. IsExactWord of (P.index_of i a) g (meaning r.rank) sc v) (sym guard)
    (subst (λ m. IsExactWord of (P.index_of i a) None m sc v) (sym rank)
    (exact-by of (P.index_of i a) None (meaning x.expr) sc v (plain-word of i a (meaning x.expr) sc v zero_based (is.sign ∙ unsigned) is.same)
    (λ on k far. never (num_lt (T.alone (meaning x.expr) sc v)) far.behind)))
  where
    long : length (T.alone (meaning x.expr) sc v) ≡ x.width
    long = ap length (alone-value i a (meaning x.expr) sc v is.same) ∙ is.long ∙ sym is.width

    never : num (T.alone (meaning x.expr) sc v) < 2 ^ length (T.alone (meaning x.expr) sc v) → count_of of.left of.right ≤ num (T.alone (meaning x.expr) sc v) → ⊥
    never less many = (let same : 2 ^ length (T.alone (meaning x.expr) sc v) ≡ 2 ^ x.width = ap (λ n. 2 ^ n) long in omega arith)

-- The same where some of its numbers aren't, under a guard. What has the words in falling order has the same ones.
abbrev falls_from : Layout → ℕ → Layout
falls_from of last = record of { left = pos last; right = pos 0 }

falls-is : (of : Layout) (last : ℕ) → falls (falls_from of last) ≡ true
falls-is of last = is last
  where
    is : (n : ℕ) → int_le (pos 0) (pos n) ≡ true
    is n = grind (arith, nat_tests)

rank-from : (of : Layout) (last : ℕ) (k : ℤ) → rank (falls_from of last) k ≡ k
rank-from of last k = ap (λ b. cond b (k -ℤ pos 0) (pos 0 -ℤ k)) (falls-is of last) ∙ nothing_off k
  where
    nothing_off : (z : ℤ) → z -ℤ pos 0 ≡ z
    nothing_off z = omega (arith, ints)

count-from : (last : ℕ) → count_of (pos last) (pos 0) ≡ suc last
count-from last = by last
  where
    by : (n : ℕ) → unsigned_abs (pos n -ℤ pos 0) + 1 ≡ suc n
    by n = omega (arith, ints)

module _ (of : Layout) (last : ℕ) (zero_based : lower of ≡ pos 0) (count : count_of of.left of.right ≡ suc last) where
  word-from : (i : Option ℤ) (q : ℕ) → HasRank (falls_from of last) i q → HasWord of i q
  word-from i q has = record {
    index = has.index;
    known_there = has.known_there;
    word_is = ap (λ l. has.index -ℤ l) zero_based ∙ nothing_off has.index ∙ sym (rank-from of last has.index) ∙ has.rank_is;
    below = (let below = has.below in let from_last = count-from last in omega arith);
  }
    where
      nothing_off : (z : ℤ) → z -ℤ pos 0 ≡ z
      nothing_off z = omega (arith, ints)

  rank-of-word : (i : Option ℤ) (x : ℕ) → HasWord of i x → NoRank (falls_from of last) i → ⊥
  rank-of-word i x has none =
      not-none (falls_from of last) i x (record {
        index = has.index;
        known_there = has.known_there;
        word_is = ap (λ b. has.index -ℤ cond b (pos 0) (pos last)) (falls-is of last) ∙ sym (ap (λ l. has.index -ℤ l) zero_based) ∙ has.word_is;
        below = (let below = has.below in let from_last = count-from last in omega arith);
      }) none

  none-from : (i : Option ℤ) (y : T.Meaning) (sc : Scope) (v : Valuation) → IsWord of i None y sc v → NoRank (falls_from of last) i → NoRank of i
  none-from i y sc v word none = by (known (T.alone y sc v)) refl
    where
      by : (b : Bool) → known (T.alone y sc v) ≡ b → NoRank of i
      by true k = elim (word.yes refl k) [ inl has ↦ absurd (rank-of-word i (num (T.alone y sc v)) has none) | inr far ↦ far.none ]
      by false k = word.lost refl k

  guarded-word : (i : Option ℤ) (y : T.Meaning) (g : Option T.Meaning) (r : T.Meaning) (w : ℕ) (sc : Scope) (v : Valuation) → IsWord of i None y sc v → r.width sc ≡ w
      → IsRank (falls_from of last) i g r w sc v → IsExactWord of i g r sc v
  guarded-word i y g r w sc v word width ranked =
      let alone : T.alone r sc v ≡ r.value w false sc v = λ d. r.value (width d) (ranked.unsigned d) sc v in
      record {
        unsigned = ranked.unsigned;
        yes = λ on k. subst (HasWord of i) (sym (ap num alone)) (word-from i _ (ranked.yes on (sym (ap known alone) ∙ k)));
        no = λ off. none-from i y sc v word (ranked.no off);
        lost = λ on k. none-from i y sc v word (ranked.lost on (sym (ap known alone) ∙ k));
      }

pub guarded-finds : (x : Index) (last : ℕ) (r : Rank) → x.signed ≡ false → last < 2 ^ x.width → meaning r.rank ≡ braced (meaning x.expr) → RanksGuarded (meaning x.expr) x.width last r
    → FindsWordUpTo x last r
guarded-finds x last r unsigned many rank ranked of i a sc v zero_based count is =
    let y = meaning x.expr in
    let plain : S.signed i ≡ false = is.sign ∙ unsigned in
    let wide : S.wide i ≡ S.wide i = refl in
    let size : last < 2 ^ S.wide i = subst (λ n. last < 2 ^ n) is.width many in
    let have = ranked (falls_from of last) i a (S.wide i) sc v (record { left_is = refl; right_is = refl }) (record { unsigned = plain; narrow = omega arith; long = is.long; same = is.same }) is.width size in
    guarded-word of last zero_based count (P.index_of i a) (meaning x.expr) (guard_meaning r.guard) (meaning r.rank) (S.wide i) sc v (plain-word of i a (meaning x.expr) sc v zero_based plain is.same)
    (ap (λ (m : T.Meaning). m.width sc) rank ∙ braced-width (meaning x.expr) (S.wide i) sc (alone-width i a (meaning x.expr) sc v is.same)) have.0

-- bounds of 64 bits
pub record IsNear (n : ℤ) : Type 0 where
  pub above : neg_ℤ (pos (2 ^ 63)) ≤ℤ n
  pub below : n <ℤ pos (2 ^ 63)

pub near-fits : (n : ℤ) → IsNear n → FitsSigned 65 n
near-fits n h = (let l = h.above in let u = h.below in record { above = omega (arith, ints); below = omega (arith, ints) })

near-few : (left right : ℤ) → IsNear left → IsNear right → count_of left right < 2 ^ 66
near-few left right l r = by (left -ℤ right) (omega (arith, ints)) (omega (arith, ints))
  where
    by : (d : ℤ) → neg_ℤ (pos (2 ^ 64)) ≤ℤ d → d ≤ℤ pos (2 ^ 64) → unsigned_abs d + 1 < 2 ^ 66
    by (pos m) low high = omega (arith, ints)
    by (negsuc m) low high = omega (arith, ints)

-- the smaller and the larger one
lowest-fits : (b : Bounds) → IsNear b.left → IsNear b.right → FitsSigned 65 (lowest b)
lowest-fits b left right = by (int_le b.right b.left)
  where
    by : (c : Bool) → FitsSigned 65 (cond c b.right b.left)
    by true = near-fits b.right right
    by false = near-fits b.left left

highest-fits : (b : Bounds) → IsNear b.left → IsNear b.right → FitsSigned 65 (highest b)
highest-fits b left right = by (int_le b.right b.left)
  where
    by : (c : Bool) → FitsSigned 65 (cond c b.left b.right)
    by true = near-fits b.left left
    by false = near-fits b.right right

abs-turn : (x y d e : ℤ) → x -ℤ y ≡ d → y -ℤ x ≡ e → unsigned_abs d ≡ unsigned_abs e
abs-turn x y (pos d) (pos e) f g = omega (arith, ints)
abs-turn x y (pos d) (negsuc e) f g = (let same : unsigned_abs (negsuc e) ≡ suc e = refl in omega (arith, ints))
abs-turn x y (negsuc d) (pos e) f g = (let same : unsigned_abs (negsuc d) ≡ suc d = refl in omega (arith, ints))
abs-turn x y (negsuc d) (negsuc e) f g = absurd (omega (arith, ints))

count-between : (of : Layout) (b : Bounds) → of.left ≡ b.left → of.right ≡ b.right → unsigned_abs (highest b -ℤ lowest b) + 1 ≡ count_of of.left of.right
count-between of b left right = by (int_le b.right b.left) ∙ sym (λ i. count_of (left i) (right i))
  where
    by : (c : Bool) → unsigned_abs (cond c b.left b.right -ℤ cond c b.right b.left) + 1 ≡ count_of b.left b.right
    by true = refl
    by false = ap (λ n. n + 1) (abs-turn b.right b.left _ _ refl refl)

-- an index in more bits
pub wider : (i : Option ℤ) (m : T.Meaning) (n w : ℕ) (sc : Scope) (v : Valuation) → n ≤ w → IsIndex i m n sc v → IsIndex i m w sc v
wider i m n w sc v more h = (let a = h.width in let b = h.long in record { width = omega arith; long = omega arith; there = h.there; lost = h.lost })

above-width : (i : Option ℤ) (m : T.Meaning) (w : ℕ) (n : ℤ) (sc : Scope) (v : Valuation) → IsIndex i m w sc v → (above (T.signing true m) w n).width sc ≡ w
above-width i m w n sc v index = braced-width (T.binary Sub (T.signing true m) (bound w n)) w sc (difference-above i m w sc v index n).0

-- any index, by numbers of 66 bits
module _ (x : Index) (b : Bounds) (m : T.Meaning) (bits : ℕ) (r : Rank) (number : IsSignedIndex x m bits) (few : bits ≤ 65) (left_near : IsNear b.left) (right_near : IsNear b.right)
    (guard : guard_meaning r.guard ≡ Some (between (T.signing true m) 66 (lowest b) (highest b))) (rank : meaning r.rank ≡ above (T.signing true m) 66 (lowest b))
    (ranked : RanksSigned m 66 (highest b) (lowest b) true r) where
  -- where the guard holds there is an element
  there : (of : Layout) (i : S.Meaning) (a : Around) (sc : Scope) (v : Valuation) → of.left ≡ b.left → of.right ≡ b.right → IsIndexOf x i a sc v
      → holds (Some (between (T.signing true m) 66 (lowest b) (highest b))) sc v ≡ true → (q : ℕ) × HasWord of (P.index_of i a) q
  there of i a sc v left right is on =
      let z = P.index_of i a in
      let index = wider (P.index_of i a) m bits 66 sc v (omega arith) (number i a sc v is) in
      let low_fits = lowest-fits b left_near right_near in
      let high_fits = highest-fits b left_near right_near in
      let all = sym (between-is (P.index_of i a) m 66 sc v index (lowest b) (highest b) (literal-signed 65 (lowest b) low_fits) (literal-signed 65 (highest b) high_fits)) ∙ on in
      let known_there = and-cases (known (T.alone m sc v)) _ all in
      let inside = and-cases (int_le (lowest b) (snum (T.alone m sc v))) (int_le (snum (T.alone m sc v)) (highest b)) known_there.1 in
      let o = offset (lowest b) (highest b) (snum (T.alone m sc v)) (le-yes (lowest b) (snum (T.alone m sc v)) inside.0) (le-yes (snum (T.alone m sc v)) (highest b) inside.1) in (
        o.0,
        record {
          index = snum (T.alone m sc v);
          known_there = index.there known_there.0;
          word_is = ap (λ l. snum (T.alone m sc v) -ℤ l) (lower-is of b left right) ∙ (o.1).is;
          below = subst (λ n. o.0 < n) (count-between of b left right) (o.1).below;
        },
      )

  exact : (of : Layout) (i : S.Meaning) (a : Around) (sc : Scope) (v : Valuation) → of.left ≡ b.left → of.right ≡ b.right → IsIndexOf x i a sc v
      → IsWord of (P.index_of i a) (guard_meaning r.guard) (meaning r.rank) sc v → IsExactWord of (P.index_of i a) (guard_meaning r.guard) (meaning r.rank) sc v
  exact of i a sc v left right is word =
      exact-by of (P.index_of i a) (guard_meaning r.guard) (meaning r.rank) sc v word
      (λ on k far. (let has = there of i a sc v left right is (sym (ap (λ g. holds g sc v) guard) ∙ on) in not-none of (P.index_of i a) has.0 has.1 far.none))

  falling : (of : Layout) (i : S.Meaning) (a : Around) (sc : Scope) (v : Valuation) → of.left ≡ b.left → of.right ≡ b.right → IsIndexOf x i a sc v → int_le b.right b.left ≡ true
      → IsWord of (P.index_of i a) (guard_meaning r.guard) (meaning r.rank) sc v
  falling of i a sc v left right is down =
      let index = wider (P.index_of i a) m bits 66 sc v (omega arith) (number i a sc v is) in
      let high : highest b ≡ b.left = ap (λ c. cond c b.left b.right) down in
      let low : lowest b ≡ b.right = ap (λ c. cond c b.right b.left) down in
      let fall : falls of ≡ true = (λ j. int_le (right j) (left j)) ∙ down in
      let high_fits = subst (FitsSigned 65) (sym high) (near-fits b.left left_near) in
      let low_fits = subst (FitsSigned 65) (sym low) (near-fits b.right right_near) in
      let count = subst (λ y. count_of y (lowest b) < 2 ^ 66) (sym high) (subst (λ y. count_of b.left y < 2 ^ 66) (sym low) (near-few b.left b.right left_near right_near)) in
      let have = ranked of 65 (P.index_of i a) sc v refl (left ∙ sym high) (right ∙ sym low) fall index high_fits low_fits count in
      rank-is-word of (P.index_of i a) (guard_meaning r.guard) (meaning r.rank) 66 sc v fall
      (ap (λ (y : T.Meaning). y.width sc) rank ∙ above-width (P.index_of i a) m 66 (lowest b) sc v index) have.0

  rising : (of : Layout) (i : S.Meaning) (a : Around) (sc : Scope) (v : Valuation) → of.left ≡ b.left → of.right ≡ b.right → IsIndexOf x i a sc v → int_le b.right b.left ≡ false
      → IsWord of (P.index_of i a) (guard_meaning r.guard) (meaning r.rank) sc v
  rising of i a sc v left right is up =
      let index = wider (P.index_of i a) m bits 66 sc v (omega arith) (number i a sc v is) in
      let high : highest b ≡ of.right = ap (λ c. cond c b.left b.right) up ∙ sym right in
      let low : lowest b ≡ of.left = ap (λ c. cond c b.right b.left) up ∙ sym left in
      let rise : falls of ≡ false = (λ j. int_le (right j) (left j)) ∙ up in
      let left_fits = subst (FitsSigned 65) (sym left) (near-fits b.left left_near) in
      let right_fits = subst (FitsSigned 65) (sym right) (near-fits b.right right_near) in
      let count = subst (λ y. count_of y of.right < 2 ^ 66) (sym left) (subst (λ y. count_of b.left y < 2 ^ 66) (sym right) (near-few b.left b.right left_near right_near)) in
      let guard_is : guard_meaning r.guard ≡ Some (between (T.signing true m) 66 of.left of.right) = guard ∙ (λ j. Some (between (T.signing true m) 66 (low j) (high j))) in
      let rank_is : meaning r.rank ≡ above (T.signing true m) 66 of.left = rank ∙ ap (above (T.signing true m) 66) low in
      subst (λ g. IsWord of (P.index_of i a) g (meaning r.rank) sc v) (sym guard_is)
      (subst (λ y. IsWord of (P.index_of i a) (Some (between (T.signing true m) 66 of.left of.right)) y sc v) (sym rank_is)
      (rising-word of 65 (P.index_of i a) m sc v index left_fits right_fits count rise))

  pub finds-between : FindsWordBetween x b r
  finds-between of i a sc v left right is = by (int_le b.right b.left) refl
    where
      by : (c : Bool) → int_le b.right b.left ≡ c → IsExactWord of (P.index_of i a) (guard_meaning r.guard) (meaning r.rank) sc v
      by true h = exact of i a sc v left right is (falling of i a sc v left right is h)
      by false h = exact of i a sc v left right is (rising of i a sc v left right is h)

-- a known index
pub above-has : (of : Layout) (k : ℤ) (last x : ℕ) → count_of of.left of.right ≡ suc last → k -ℤ lower of ≡ pos x → x ≤ last → NumbersWord of (Some k) x
above-has of k last x count is few = inl (record { index = k; known_there = refl; word_is = is; below = omega arith })

behind-all : (of : Layout) (z : Option ℤ) (last x : ℕ) → count_of of.left of.right ≡ suc last → x ≡ last + 1 → NoRank of z → NumbersWord of z x
behind-all of z last x count is none = inr (record { behind = omega arith; none = none })

pub lost-word : (of : Layout) (last x : ℕ) → count_of of.left of.right ≡ suc last → x ≡ last + 1 → NumbersWord of None x
lost-word of last x count is = behind-all of None last x count is unknown

-- what lies behind one of the bounds has no rank
falling-out : (left right k d z : ℤ) (last : ℕ) → left -ℤ right ≡ d → k -ℤ right ≡ z → unsigned_abs d + 1 ≡ suc last → right ≤ℤ left → (k <ℤ right) ⊎ ((right +ℤ pos last) <ℤ k)
    → (int_le (pos 0) z && int_lt z (pos (unsigned_abs d + 1))) ≡ false
falling-out left right k d (negsuc q) last e f count down far = refl
falling-out left right k d (pos q) last e f count down (inl far) = absurd (omega (arith, ints))
falling-out left right k d (pos q) last e f count down (inr far) = (let beyond : last < q = omega (arith, ints) in test q (unsigned_abs d + 1) (omega arith))
  where
    test : (m n : ℕ) → n ≤ m → (int_le (pos 0) (pos m) && int_lt (pos m) (pos n)) ≡ false
    test m n many = grind (arith, nat_tests)

rising-out : (left right k d z : ℤ) (last : ℕ) → left -ℤ right ≡ d → right -ℤ k ≡ z → unsigned_abs d + 1 ≡ suc last → left <ℤ right → (k <ℤ left) ⊎ ((left +ℤ pos last) <ℤ k)
    → (int_le (pos 0) z && int_lt z (pos (unsigned_abs d + 1))) ≡ false
rising-out left right k d (negsuc q) last e f count up far = refl
rising-out left right k (pos d) (pos q) last e f count up far = absurd (omega (arith, ints))
rising-out left right k (negsuc d) (pos q) last e f count up (inl far) =
    let abs : unsigned_abs (negsuc d) ≡ suc d = refl in
    let beyond : suc d < q = omega (arith, ints) in
    test q (unsigned_abs (negsuc d) + 1) (omega arith)
  where
    test : (m n : ℕ) → n ≤ m → (int_le (pos 0) (pos m) && int_lt (pos m) (pos n)) ≡ false
    test m n many = grind (arith, nat_tests)
rising-out left right k (negsuc d) (pos q) last e f count up (inr far) = (let abs : unsigned_abs (negsuc d) ≡ suc d = refl in absurd (omega (arith, ints)))

pub none-beyond : (of : Layout) (k : ℤ) (last : ℕ) → count_of of.left of.right ≡ suc last → (k <ℤ lower of) ⊎ ((lower of +ℤ pos last) <ℤ k) → NoRank of (Some k)
none-beyond of k last count far = outside k (by (falls of) refl)
  where
    by : (down : Bool) → falls of ≡ down → (int_le (pos 0) (rank of k) && int_lt (rank of k) (pos (count_of of.left of.right))) ≡ false
    by true h =
        ap (λ c. int_le (pos 0) (cond c (k -ℤ of.right) (of.right -ℤ k)) && int_lt (cond c (k -ℤ of.right) (of.right -ℤ k)) (pos (count_of of.left of.right))) h
        ∙ falling-out of.left of.right k (of.left -ℤ of.right) (k -ℤ of.right) last refl refl count (le-yes of.right of.left h)
        (subst (λ c. (k <ℤ cond c of.right of.left) ⊎ ((cond c of.right of.left +ℤ pos last) <ℤ k)) h far)
    by false h =
        ap (λ c. int_le (pos 0) (cond c (k -ℤ of.right) (of.right -ℤ k)) && int_lt (cond c (k -ℤ of.right) (of.right -ℤ k)) (pos (count_of of.left of.right))) h
        ∙ rising-out of.left of.right k (of.left -ℤ of.right) (of.right -ℤ k) last refl refl count (le-no of.right of.left h)
        (subst (λ c. (k <ℤ cond c of.right of.left) ⊎ ((cond c of.right of.left +ℤ pos last) <ℤ k)) h far)

pub beyond-word : (of : Layout) (k : ℤ) (last x : ℕ) → count_of of.left of.right ≡ suc last → x ≡ last + 1 → (k <ℤ lower of) ⊎ ((lower of +ℤ pos last) <ℤ k) → NumbersWord of (Some k) x
beyond-word of k last x count is far = behind-all of (Some k) last x count is (none-beyond of k last count far)

-- an array of few bits has few elements
pub few-elements : (t : SvType) → 1 ≤ width_of t → count_of (layout t).left (layout t).right ≤ width_of t
few-elements t some = (let whole = (type-whole t some).elements in by (count_of (layout t).left (layout t).right) (length (layout t).element.two_state) whole)
  where
    by : (n m : ℕ) → n * m ≡ width_of t → n ≤ width_of t
    by n zero e = absurd (omega arith)
    by n (suc m) e = (let more : n * suc m ≡ n + n * m = grind arith in omega arith)
