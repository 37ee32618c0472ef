-- A list whose first words are already those of the result, and whose others are still as they were.
use Rattle.std.proofs.Common.{◌≡◌, ℕ, zero, suc, ◌+◌, ◌<◌, ◌≤◌, List, [], ◌∷◌, ◌++◌, length, take, drop, get_or, set, refl, sym, ap, ◌∙◌, arith, length-set, length-append, append_assoc}
use Rattle.std.proofs.lemmas.List.{drop_at, drop-drop, take_all, get_or-drop, take_more_set, take_more, drop-set-lt, length-take-le}
use Rattle.std.proofs.lemmas.Simd.{length-put_chunk, put_chunk_is, take_more_put_chunk, length-chunk}
use Rattle.std.specs.Simd.Lanes.{chunk, put_chunk, zip2, fold_l}
use Rattle.std.specs.Int.Bits.{bit_or, bit_xor, xor_self, xor_assoc, xor_zero_l, xor_zero_r}
use Rattle.std.proofs.lemmas.Nat.{le_or_l, le_or_r}
use Rattle.b4_planes.specs.Words.{words4}
use Rattle.b4_planes.proofs.Aligned.{Aligned, chunk-words4, get_or-words4, chunk_pairs, get_or_pairs}

pub record Swept (i : ℕ) (result before now : List ℕ) : Type 0 where
  pub done : take i now ≡ take i result
  pub rest : drop i now ≡ drop i before
  pub long : length now ≡ length before

pub swept_start : (result before : List ℕ) → Swept 0 result before before
swept_start result before = record { done = refl; rest = refl; long = refl }

pub swept_end : (i : ℕ) (result before now : List ℕ) → length before ≤ i → length result ≡ length before → Swept i result before now → now ≡ result
swept_end i result before now past same s =
    sym (take_all i now (omega (arith, s.long))) ∙ s.done ∙ take_all i result (omega arith)

take_chunk : (i n : ℕ) (xs : List ℕ) → take (i + n) xs ≡ take i xs ++ chunk i n xs
take_chunk zero n xs = let e : 0 + n ≡ n = omega arith in rw e refl
take_chunk (suc i) n [] = let e : suc i + n ≡ suc (i + n) = omega arith in rw e (sym (nothing n))
  where
    nothing : (n : ℕ) → take {A = ℕ} n [] ≡ []
    nothing zero = refl
    nothing (suc n) = refl
take_chunk (suc i) n (x ∷ xs) = let e : suc i + n ≡ suc (i + n) = omega arith in rw e (ap (λ l. x ∷ l) (take_chunk i n xs))

drop_put_chunk : (i n : ℕ) (xs ys : List ℕ) → length ys ≡ n → i + n ≤ length xs → drop (i + n) (put_chunk i xs ys) ≡ drop (i + n) xs
drop_put_chunk i n xs ys long room =
    let front : length (take i xs) ≡ i = length-take-le i xs (omega arith) in
    let e : put_chunk i xs ys ≡ (take i xs ++ ys) ++ drop (i + n) xs =
    put_chunk_is i xs ys (omega arith) ∙ ap (λ k. take i xs ++ (ys ++ drop k (drop i xs))) long ∙ ap (λ l. take i xs ++ (ys ++ l)) (drop-drop n i xs) ∙ sym (append_assoc (take i xs) ys (drop (i + n) xs)) in
    ap (drop (i + n)) e ∙ drop_at (take i xs ++ ys) (drop (i + n) xs) (i + n) (omega (arith, length-append (take i xs) ys))

-- n words more
pub swept_chunk : (i n : ℕ) (result before now lanes : List ℕ) → Swept i result before now → length result ≡ length before → i + n ≤ length before → lanes ≡ chunk i n result → Swept (i + n) result before (put_chunk i now lanes)
swept_chunk i n result before now lanes s same room e =
    let long : length lanes ≡ n = ap length e ∙ length-chunk i n result (omega arith) in
    record {
      done = take_more_put_chunk i now lanes (i + n) (omega arith) (omega (arith, s.long)) ∙ ap (λ l. l ++ lanes) s.done ∙ ap (λ l. take i result ++ l) e ∙ sym (take_chunk i n result);
      rest = drop_put_chunk i n now lanes long (omega (arith, s.long)) ∙ sym (drop-drop n i now) ∙ ap (drop n) s.rest ∙ drop-drop n i before;
      long = length-put_chunk i now lanes ∙ s.long;
    }

-- one word more
pub swept_word : (i : ℕ) (result before now : List ℕ) (y : ℕ) → Swept i result before now → length result ≡ length before → i < length before → y ≡ get_or result i 0 → Swept (i + 1) result before (set now i y)
swept_word i result before now y s same room e = record {
  done = take_more_set now i y (omega (arith, s.long)) ∙ ap (λ l. l ++ y ∷ []) s.done ∙ ap (λ z. take i result ++ z ∷ []) e ∙ sym (take_more result i 0 (omega arith));
  rest = drop-set-lt (i + 1) now i y (omega arith) ∙ sym (drop-drop 1 i now) ∙ ap (drop 1) s.rest ∙ drop-drop 1 i before;
  long = length-set now i y ∙ s.long;
}

same_rest : (i : ℕ) (before now : List ℕ) → drop i now ≡ drop i before → get_or now i 0 ≡ get_or before i 0
same_rest i before now e =
    let z : i + 0 ≡ i = omega arith in
    ap (λ k. get_or now k 0) (sym z) ∙ sym (get_or-drop i now 0 0) ∙ ap (λ l. get_or l 0 0) e ∙ get_or-drop i before 0 0 ∙ ap (λ k. get_or before k 0) z

-- what a kernel makes of n words that are still as they were
pub lanes_of : (f : ℕ → ℕ → ℕ → ℕ → ℕ) (i n : ℕ) (la lu lb lv na nu x y z w r : List ℕ) → Aligned la lu lb lv → drop i na ≡ drop i la → drop i nu ≡ drop i lu → x ≡ chunk i n na → y ≡ chunk i n nu → z ≡ chunk i n lb → w ≡ chunk i n lv → r ≡ words4 f x y z w → r ≡ chunk i n (words4 f la lu lb lv)
lanes_of f i n la lu lb lv na nu x y z w r h p q ex ey ez ew e =
    let kx : x ≡ chunk i n la = ex ∙ ap (take n) p in
    let ky : y ≡ chunk i n lu = ey ∙ ap (take n) q in
    e ∙ rw (kx, ky, ez, ew) (sym (chunk-words4 f i n h))

-- and of one
pub word_of : (f : ℕ → ℕ → ℕ → ℕ → ℕ) (i : ℕ) (la lu lb lv na nu : List ℕ) (r : ℕ) → Aligned la lu lb lv → i < length la → drop i na ≡ drop i la → drop i nu ≡ drop i lu → r ≡ f (get_or na i 0) (get_or nu i 0) (get_or lb i 0) (get_or lv i 0) → r ≡ get_or (words4 f la lu lb lv) i 0
word_of f i la lu lb lv na nu r h lt p q e =
    e ∙ rw (same_rest i la na p, same_rest i lu nu q) (sym (get_or-words4 f i h lt))

-- ---- the same for kernels of two planes

pub lanes_of_pair : (f : ℕ → ℕ → ℕ) (i n : ℕ) (la lu na x y r : List ℕ) → Aligned la lu la lu → drop i na ≡ drop i la → x ≡ chunk i n na → y ≡ chunk i n lu → r ≡ zip2 f x y → r ≡ chunk i n (zip2 f la lu)
lanes_of_pair f i n la lu na x y r h p ex ey e =
    let kx : x ≡ chunk i n la = ex ∙ ap (take n) p in
    e ∙ rw (kx, ey) (sym (chunk_pairs f i n h))

pub word_of_pair : (f : ℕ → ℕ → ℕ) (i : ℕ) (la lu na : List ℕ) (r : ℕ) → Aligned la lu la lu → i < length la → drop i na ≡ drop i la → r ≡ f (get_or na i 0) (get_or lu i 0) → r ≡ get_or (zip2 f la lu) i 0
word_of_pair f i la lu na r h lt p e = e ∙ rw (same_rest i la na p) (sym (get_or_pairs f i h lt))

-- ---- lists of words that are the same

same_from_xor : (x y : ℕ) → bit_xor x y ≡ 0 → x ≡ y
same_from_xor x y e =
    sym (xor_zero_r x) ∙ ap (bit_xor x) (sym (xor_self y)) ∙ sym (xor_assoc x y y) ∙ ap (λ z. bit_xor z y) e ∙ xor_zero_l y

same_lanes : (xs ys : List ℕ) (s : ℕ) → length xs ≡ length ys → fold_l bit_or s (zip2 bit_xor xs ys) ≡ 0 → (s ≡ 0) × (xs ≡ ys)
same_lanes [] [] s long e = (e, refl)
same_lanes [] (y ∷ ys) s long e = absurd (omega arith)
same_lanes (x ∷ xs) [] s long e = absurd (omega arith)
same_lanes (x ∷ xs) (y ∷ ys) s long e =
    let rest = same_lanes xs ys (bit_or s (bit_xor x y)) (omega arith) e in
    let here : s ≡ 0 = omega (arith, le_or_l s (bit_xor x y), rest.0) in
    let there : bit_xor x y ≡ 0 = omega (arith, le_or_r s (bit_xor x y), rest.0) in
    (here, rw (same_from_xor x y there, rest.1) refl)

pub same_chunk : (i n : ℕ) (la lb x y : List ℕ) → take i la ≡ take i lb → length la ≡ length lb → i + n ≤ length la → x ≡ chunk i n la → y ≡ chunk i n lb → fold_l bit_or 0 (zip2 bit_xor x y) ≡ 0 → take (i + n) la ≡ take (i + n) lb
same_chunk i n la lb x y front long room ex ey e =
    let lx : length x ≡ n = ap length ex ∙ length-chunk i n la room in
    let ly : length y ≡ n = ap length ey ∙ length-chunk i n lb (omega arith) in
    let lanes = same_lanes x y 0 (omega arith) e in
    take_chunk i n la ∙ ap (λ l. l ++ chunk i n la) front ∙ ap (λ l. take i lb ++ l) (sym ex ∙ lanes.1 ∙ ey) ∙ sym (take_chunk i n lb)
