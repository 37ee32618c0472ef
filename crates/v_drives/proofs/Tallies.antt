-- How many bits uses cover.
use Rattle.std.proofs.Common.{◌≡◌, ◌<◌, ◌≤◌, ℕ, zero, suc, ◌+◌, Bool, true, false, List, [], ◌∷◌, map, length, slice_index_or, refl, ap, sym, ◌∙◌, subst, arith}
use Rattle.std.specs.Prelude.{cond, filter, Some, slice_get}
use Rattle.std.proofs.lemmas.List.{length-append, length-map}
use Rattle.std.proofs.lemmas.List.Elements.{filter-append}
use Rattle.bit_sets.specs.declared.span.Span.{Span}
use Rattle.bit_sets.specs.Sets.{in_spans, count_from, tests_from}
use Rattle.bit_sets.specs.Growing.{end_of}
use Rattle.bit_sets.proofs.Counts as K
use Rattle.bit_sets.proofs.Marks.{test-at, tests-length}
use Rattle.row_machine.specs.Valuation.{Place}
use Rattle.row_machine.specs.Places as R
use Rattle.v_meaning.specs.Machine.{size, places_from}
use Rattle.v_meaning.specs.Modules.{Signal}
use Rattle.v_meaning.specs.Scopes.{Use}
use Rattle.v_meaning.specs.Statements.{covered}
use Rattle.v_drives.specs.Rows.{bits_before, all_bits, AreCovered, AreMarks}

abbrev place : ℕ → ℕ → Place
place n k = record { signal = n; bit = k }

kept : {A : Type 0} (b : Bool) (x : A) (xs : List A) → cond b (suc (length xs)) (length xs) ≡ length (cond b (x ∷ xs) xs)
kept true x xs = refl
kept false x xs = refl

-- the bits of a signal from one on
some-places : (g : ℕ → Bool) (f : Place → Bool) (n k m w : ℕ) → ((j : ℕ) → j < w → g (m + j) ≡ f (place n (k + j))) → count_from g m w ≡ length (filter f (R.places_from n k w))
some-places g f n k m zero h = K.count-zero g m
some-places g f n k m (suc w) h =
    let rest = some-places g f n (suc k) (suc m) w (λ j near. ap g (omega arith) ∙ h (suc j) (omega (arith, near)) ∙ ap (λ b. f (place n b)) (omega arith)) in
    let own : g m ≡ f (place n k) = ap g (omega arith) ∙ h 0 (omega arith) ∙ ap (λ b. f (place n b)) (omega arith) in
    K.count-more g m w ∙ ap (λ b. cond b (suc (count_from g (suc m) w)) (count_from g (suc m) w)) own ∙ ap (λ c. cond (f (place n k)) (suc c) c) rest
    ∙ kept (f (place n k)) (place n k) (filter f (R.places_from n (suc k) w))

-- the bits of signals from one on
all-places : (g : ℕ → Bool) (f : Place → Bool) (n m : ℕ) (ss : List Signal) → ((j k : ℕ) → j < length ss → k < slice_index_or (map size ss) j 0 → g (m + (bits_before (map size ss) j + k)) ≡ f (place (n + j) k))
    → count_from g m (bits_before (map size ss) (length ss)) ≡ length (filter f (places_from n ss))
all-places g f n m [] h = K.count-zero g m
all-places g f n m (s ∷ ss) h =
    let w = size s in
    let ws = map size ss in
    let first = some-places g f n 0 m w (λ j near. ap g (omega arith) ∙ h 0 j (omega arith) near ∙ ap (λ a. f (place a j)) (omega arith) ∙ ap (λ b. f (place n b)) (omega arith)) in
    let rest =
    all-places g f (suc n) (m + w) ss
    (λ j k near short. ap g (omega arith) ∙ h (suc j) k (omega (arith, near)) short ∙ ap (λ a. f (place a k)) (omega arith)) in
    K.count-split g m w (bits_before ws (length ss)) ∙ ap (λ c. c + count_from g (m + w) (bits_before ws (length ss))) first ∙ ap (λ c. length (filter f (R.places_of n w)) + c) rest
    ∙ sym (ap length (filter-append f (R.places_of n w) (places_from (suc n) ss)) ∙ length-append (filter f (R.places_of n w)) (filter f (places_from (suc n) ss)))

-- there are no more bits in a set than in the row
one-more : (b : Bool) (c n w : ℕ) → c ≤ w → n ≡ cond b (suc c) c → n ≤ suc w
one-more true c n w h is = omega (arith, h, is)
one-more false c n w h is = omega (arith, h, is)

count-most : (f : ℕ → Bool) (k w : ℕ) → count_from f k w ≤ w
count-most f k zero = let e = K.count-zero f k in omega (arith, e)
count-most f k (suc w) = one-more (f k) (count_from f (suc k) w) (count_from f k (suc w)) w (count-most f (suc k) w) (K.count-more f k w)

count-all : (set : List Span) (us : List Use) (ws : List ℕ) (c : ℕ) → AreCovered ws us set → ((n : ℕ) → end_of 0 set ≤ n → c ≡ count_from (in_spans set) 0 n) → c ≡ count_from (in_spans set) 0 (all_bits ws)
count-all set us ws c are counts =
    let all = all_bits ws in
    let end = end_of 0 set in
    let f = in_spans set in
    let past : count_from f (0 + all) end ≡ 0 = K.count-none f (0 + all) end (λ j low high. are.within j (omega (arith, low))) in
    counts (all + end) (omega arith) ∙ K.count-split f 0 all end ∙ ap (λ x. count_from f 0 all + x) past ∙ omega arith

pub most-in : (set : List Span) (us : List Use) (ws : List ℕ) (c : ℕ) → AreCovered ws us set → ((n : ℕ) → end_of 0 set ≤ n → c ≡ count_from (in_spans set) 0 n) → c ≤ all_bits ws
most-in set us ws c are counts =
    let same = count-all set us ws c are counts in
    let most = count-most (in_spans set) 0 (all_bits ws) in omega (arith, same, most)

-- what a set of bits holds is what uses cover
pub counted-in : (set : List Span) (us : List Use) (ws : List ℕ) (ss : List Signal) (c : ℕ) → AreCovered ws us set → map size ss ≡ ws → ((n : ℕ) → end_of 0 set ≤ n → c ≡ count_from (in_spans set) 0 n)
    → c ≡ length (filter (covered us) (places_from 0 ss))
counted-in set us ws ss c are wide counts =
    let all = all_bits ws in
    let f = in_spans set in
    let many : length ss ≡ length ws = sym (length-map ss size) ∙ ap length wide in
    let own : count_from f 0 (bits_before (map size ss) (length ss)) ≡ length (filter (covered us) (places_from 0 ss)) =
    all-places f (covered us) 0 0 ss
    (λ j k near short. ap f (omega arith) ∙ ap (λ (xs : List ℕ). f (bits_before xs j + k)) wide
    ∙ are.value (place j k) (omega (arith, near, many), subst (λ (xs : List ℕ). k < slice_index_or xs j 0) wide short) ∙ ap (λ a. covered us (place a k)) (omega arith)) in
    let same : count_from f 0 (bits_before (map size ss) (length ss)) ≡ count_from f 0 all = ap (λ (xs : List ℕ). count_from f 0 (bits_before xs (length ss))) wide ∙ ap (λ n. count_from f 0 (bits_before ws n)) many in
    count-all set us ws c are counts ∙ sym same ∙ own

-- the marks of a signal's bits
pub marked : (set : List Span) (us : List Use) (ws : List ℕ) (signal start width : ℕ) (marks : List Bool) → signal < length ws → start ≡ bits_before ws signal → width ≡ slice_index_or ws signal 0 → marks ≡ tests_from (in_spans set) start width
    → AreCovered ws us set → AreMarks us signal (slice_index_or ws signal 0) marks
marked set us ws signal start width marks there at wide is are = record {
  length_is = ap length is ∙ tests-length (in_spans set) start width ∙ wide;
  value = λ k near.
      ap (λ ms. slice_get ms k) is ∙ test-at (in_spans set) start width k (omega (arith, near, wide)) ∙ ap (λ o. Some (in_spans set (o + k))) at ∙ ap Some (are.value (place signal k) (there, near));
}
