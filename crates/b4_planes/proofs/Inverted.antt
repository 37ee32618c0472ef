-- Vectors inverted, made two-state and compared by their planes.
use Rattle.std.proofs.Common.{◌≡◌, ℕ, zero, suc, ◌+◌, ◌-◌, ◌*◌, ◌/◌, ◌%◌, ◌^◌, ◌≤◌, Bool, true, false, ◌||◌, List, [], ◌∷◌, ◌++◌, map, length, take, drop, get_or, set, replicate, refl, sym, ap, ◌∙◌, subst, arith, append_assoc, length-take}
use Rattle.std.specs.Prelude.{Vec}
use Rattle.std.specs.Vec.{with_items}
use Rattle.std.proofs.lemmas.List.{with_items_is, take_all, drop_all, take_at, drop_at, take-map, drop-map}
use Rattle.std.proofs.Math.Seq.{take-append-add, drop-append-add}
use Rattle.std.proofs.lemmas.List.{map-append, length-map, length-replicate, take_more}
use Rattle.std.specs.Simd.Lanes.{zip2}
use Rattle.std.specs.Int.Bits.{bit_or, bit_xor, xor_zero_r}
use Rattle.std.proofs.Math.Nat.{pow-suc}
use Rattle.std.proofs.lemmas.Nat.{pow_pos}
use Rattle.b4_core.specs.declared.bit.Bit4.{Bit4}
use Rattle.b4_core.specs.declared.bit.Bit4.TheVariants.{Zero}
use Rattle.b4_core.specs.Bits.{not4, two_state4}
use Rattle.b4_core.specs.Bitwise.{two_state_of}
use Rattle.b4_planes.specs.Planes.{plane_bit, odd, word_bits, plane_bits, words_for, IsPlanes, x_for_z}
use Rattle.b4_planes.specs.Words.{not_low, not_value, one_of}
use Rattle.b4_planes.proofs.Aligned.{Aligned, aligned, ends, goes, length_pairs}
use Rattle.b4_planes.proofs.Places.{differ, one_bit, odd-or, odd-xor, half-or, half-xor}
use Rattle.b4_planes.proofs.PlaneBits.{vector_of, length-word_bits, length-plane_bits, length-vector}
use Rattle.b4_planes.proofs.Packed.{plane_bits-append, append-nil}

-- ---- ~

-- z becomes x where nothing is inverted
kept_bit : (p q : Bool) → plane_bit (p || q) q ≡ x_for_z (plane_bit p q)
kept_bit false false = refl
kept_bit false true = refl
kept_bit true false = refl
kept_bit true true = refl

kept_word : (k a u : ℕ) → word_bits k (bit_or a u) u ≡ map x_for_z (word_bits k a u)
unfolding word_bits
kept_word zero a u = refl
kept_word (suc k) a u =
    rw (odd-or a u, half-or a u, kept_bit (odd a) (odd u)) (ap (λ l. x_for_z (plane_bit (odd a) (odd u)) ∷ l) (kept_word k (a / 2) (u / 2)))

turned_bit : (p q : Bool) → plane_bit (differ p true || q) q ≡ not4 (plane_bit p q)
turned_bit false false = refl
turned_bit false true = refl
turned_bit true false = refl
turned_bit true true = refl

ones_odd : (r : ℕ) → odd (2 ^ suc r - 1) ≡ true
unfolding odd
ones_odd r = let e : (2 ^ suc r - 1) % 2 ≡ 1 = omega (arith, pow-suc 2 r, pow_pos r) in rw e refl

ones_half : (r : ℕ) → (2 ^ suc r - 1) / 2 ≡ 2 ^ r - 1
ones_half r = omega (arith, pow-suc 2 r, pow_pos r)

-- ~ of the r lowest bits of a word
turned_word : (r k a u : ℕ) → r ≤ k → word_bits k (not_low r a u) u ≡ map not4 (take r (word_bits k a u)) ++ map x_for_z (drop r (word_bits k a u))
unfolding word_bits
turned_word zero k a u h = ap (λ x. word_bits k (bit_or x u) u) (xor_zero_r a) ∙ kept_word k a u
turned_word (suc r) zero a u h = absurd (omega arith)
turned_word (suc r) (suc k) a u h =
    let low : odd (not_low (suc r) a u) ≡ differ (odd a) true || odd u =
    odd-or (bit_xor a (2 ^ suc r - 1)) u ∙ ap (λ b. b || odd u) (odd-xor a (2 ^ suc r - 1) ∙ ap (differ (odd a)) (ones_odd r)) in
    let high : not_low (suc r) a u / 2 ≡ not_low r (a / 2) (u / 2) =
    half-or (bit_xor a (2 ^ suc r - 1)) u ∙ ap (λ x. bit_or x (u / 2)) (half-xor a (2 ^ suc r - 1) ∙ ap (bit_xor (a / 2)) (ones_half r)) in
    rw (low, high, turned_bit (odd a) (odd u)) (ap (λ l. not4 (plane_bit (odd a) (odd u)) ∷ l) (turned_word r k (a / 2) (u / 2) (omega arith)))

turned_whole : (a u : ℕ) → word_bits 64 (not_value a u) u ≡ map not4 (word_bits 64 a u)
turned_whole a u =
    turned_word 64 64 a u (omega arith)
    ∙ ap (λ l. map not4 l ++ map x_for_z (drop 64 (word_bits 64 a u))) (take_all 64 (word_bits 64 a u) (omega (arith, length-word_bits 64 a u)))
    ∙ ap (λ l. map not4 (word_bits 64 a u) ++ map x_for_z l) (drop_all 64 (word_bits 64 a u) (omega (arith, length-word_bits 64 a u)))
    ∙ append-nil (map not4 (word_bits 64 a u))

turned_words : {la lu lb lv : List ℕ} → Aligned la lu lb lv → plane_bits (zip2 not_value la lu) lu ≡ map not4 (plane_bits la lu)
turned_words ends = refl
turned_words (goes a u b v la lu lb lv h) =
    ap (λ l. l ++ plane_bits (zip2 not_value la lu) lu) (turned_whole a u)
    ∙ ap (λ l. map not4 (word_bits 64 a u) ++ l) (turned_words h)
    ∙ sym (map-append not4 (word_bits 64 a u) (plane_bits la lu))

-- the planes of a vector whose words all count
pub inverted_whole : (len full : ℕ) (la lu na : List ℕ) → len ≡ 64 * full → length la ≡ full → length lu ≡ full → na ≡ zip2 not_value (take full la) (take full lu) → plane_bits (na ++ drop full la) lu ≡ map not4 (take len (plane_bits la lu)) ++ map x_for_z (drop len (plane_bits la lu))
inverted_whole len full la lu na size ka ku e =
    let bits : length (plane_bits la lu) ≡ len = length-plane_bits la lu (ku ∙ sym ka) ∙ omega arith in
    let h = aligned la lu la lu (ku ∙ sym ka) refl (ku ∙ sym ka) in
    ap (λ l. plane_bits (l ++ drop full la) lu) (e ∙ rw (take_all full la (omega arith), take_all full lu (omega arith)) refl)
    ∙ ap (λ l. plane_bits (zip2 not_value la lu ++ l) lu) (drop_all full la (omega arith))
    ∙ ap (λ l. plane_bits l lu) (words_nil (zip2 not_value la lu))
    ∙ turned_words h
    ∙ sym (append-nil (map not4 (plane_bits la lu)))
    ∙ ap (λ l. map not4 l ++ []) (sym (take_all len (plane_bits la lu) (omega arith)))
    ∙ ap (λ l. map not4 (take len (plane_bits la lu)) ++ map x_for_z l) (sym (drop_all len (plane_bits la lu) (omega arith)))
  where
    words_nil : (xs : List ℕ) → xs ++ [] ≡ xs
    words_nil [] = refl
    words_nil (x ∷ xs) = ap (λ l. x ∷ l) (words_nil xs)

-- the parts of a vector of words and one word more
parts : (len full r : ℕ) (p w : List Bit4) → len ≡ 64 * full + r → length p ≡ 64 * full → (take len (p ++ w) ≡ p ++ take r w) × (drop len (p ++ w) ≡ drop r w)
parts len full r p w size long =
    let e : len ≡ length p + r = omega arith in
    (ap (λ k. take k (p ++ w)) e ∙ take-append-add p w r, ap (λ k. drop k (p ++ w)) e ∙ drop-append-add p w r)

-- and of one whose last word counts in part, split before that word
pub inverted_parts : (len full r : ℕ) (fa fu na : List ℕ) (a u : ℕ) → len ≡ 64 * full + r → r ≤ 64 → length fa ≡ full → length fu ≡ full → na ≡ zip2 not_value fa fu → plane_bits (na ++ not_low r a u ∷ []) (fu ++ u ∷ []) ≡ map not4 (take len (plane_bits (fa ++ a ∷ []) (fu ++ u ∷ []))) ++ map x_for_z (drop len (plane_bits (fa ++ a ∷ []) (fu ++ u ∷ [])))
inverted_parts len full r fa fu na a u size small ka ku e =
    let h = aligned fa fu fa fu (ku ∙ sym ka) refl (ku ∙ sym ka) in
    let ln : length na ≡ full = ap length e ∙ length_pairs not_value h ∙ ka in
    let p : List Bit4 = plane_bits fa fu in
    let long : length (plane_bits fa fu) ≡ 64 * full = length-plane_bits fa fu (ku ∙ sym ka) ∙ omega arith in
    let old : plane_bits (fa ++ a ∷ []) (fu ++ u ∷ []) ≡ plane_bits fa fu ++ word_bits 64 a u =
    plane_bits-append fa fu (a ∷ []) (u ∷ []) (ku ∙ sym ka) ∙ ap (λ l. plane_bits fa fu ++ l) (append-nil (word_bits 64 a u)) in
    let cut = parts len full r (plane_bits fa fu) (word_bits 64 a u) size long in
    plane_bits-append na fu (not_low r a u ∷ []) (u ∷ []) (ku ∙ sym ln)
    ∙ ap (λ l. plane_bits na fu ++ l) (append-nil (word_bits 64 (not_low r a u) u) ∙ turned_word r 64 a u small)
    ∙ ap (λ l. plane_bits l fu ++ (map not4 (take r (word_bits 64 a u)) ++ map x_for_z (drop r (word_bits 64 a u)))) e
    ∙ ap (λ l. l ++ (map not4 (take r (word_bits 64 a u)) ++ map x_for_z (drop r (word_bits 64 a u)))) (turned_words h)
    ∙ sym (append_assoc (map not4 (plane_bits fa fu)) (map not4 (take r (word_bits 64 a u))) (map x_for_z (drop r (word_bits 64 a u))))
    ∙ ap (λ l. l ++ map x_for_z (drop r (word_bits 64 a u))) (sym (map-append not4 (plane_bits fa fu) (take r (word_bits 64 a u))))
    ∙ ap (λ l. map not4 l ++ map x_for_z (drop r (word_bits 64 a u))) (sym cut.0)
    ∙ ap (λ l. map not4 (take len (plane_bits fa fu ++ word_bits 64 a u)) ++ map x_for_z l) (sym cut.1)
    ∙ ap (λ l. map not4 (take len l) ++ map x_for_z (drop len l)) (sym old)

-- the parts of a list whose last word is at n
last_word : (n : ℕ) (xs : List ℕ) → length xs ≡ n + 1 → xs ≡ take n xs ++ get_or xs n 0 ∷ []
last_word n xs long =
    sym (take_all (n + 1) xs (omega arith)) ∙ take_more xs n 0 (omega arith)

pub inverted_last : (len full r w m : ℕ) (la lu na : List ℕ) → len ≡ 64 * full + r → r ≤ 64 → length la ≡ full + 1 → length lu ≡ full + 1 → na ≡ zip2 not_value (take full la) (take full lu) → m ≡ 2 ^ r → w ≡ bit_or (bit_xor (get_or (na ++ drop full la) full 0) (m - 1)) (get_or lu full 0) → (plane_bits (set (na ++ drop full la) full w) lu ≡ map not4 (take len (plane_bits la lu)) ++ map x_for_z (drop len (plane_bits la lu)))
inverted_last len full r w m la lu na size small ka ku e em ew =
    let fa : length (take full la) ≡ full = length-take full la ∙ omega arith in
    let fu : length (take full lu) ≡ full = length-take full lu ∙ omega arith in
    let h = aligned (take full la) (take full lu) (take full la) (take full lu) (fu ∙ sym fa) refl (fu ∙ sym fa) in
    let ln : length na ≡ full = ap length e ∙ length_pairs not_value h ∙ fa in
    let da : drop full la ≡ get_or la full 0 ∷ [] = ap (drop full) (last_word full la ka) ∙ drop_at (take full la) (get_or la full 0 ∷ []) full fa in
    let before : na ++ drop full la ≡ na ++ get_or la full 0 ∷ [] = ap (λ l. na ++ l) da in
    let here : get_or (na ++ drop full la) full 0 ≡ get_or la full 0 = ap (λ l. get_or l full 0) before ∙ get_or_push na (get_or la full 0) full 0 ln in
    let word : w ≡ not_low r (get_or la full 0) (get_or lu full 0) = ew ∙ ap (λ k. bit_or (bit_xor (get_or (na ++ drop full la) full 0) (k - 1)) (get_or lu full 0)) em ∙ ap (λ x. not_low r x (get_or lu full 0)) here in
    let after : set (na ++ drop full la) full w ≡ na ++ not_low r (get_or la full 0) (get_or lu full 0) ∷ [] =
    ap (λ l. set l full w) before ∙ set_push na (get_or la full 0) w full ln ∙ ap (λ x. na ++ x ∷ []) word in
    ap (λ l. plane_bits l lu) after
    ∙ ap (plane_bits (na ++ not_low r (get_or la full 0) (get_or lu full 0) ∷ [])) (last_word full lu ku)
    ∙ inverted_parts len full r (take full la) (take full lu) na (get_or la full 0) (get_or lu full 0) size small fa fu e
    ∙ ap (λ l. map not4 (take len (plane_bits l (take full lu ++ get_or lu full 0 ∷ []))) ++ map x_for_z (drop len (plane_bits l (take full lu ++ get_or lu full 0 ∷ [])))) (sym (last_word full la ka))
    ∙ ap (λ l. map not4 (take len (plane_bits la l)) ++ map x_for_z (drop len (plane_bits la l))) (sym (last_word full lu ku))
  where
    get_or_push : (xs : List ℕ) (y n d : ℕ) → length xs ≡ n → get_or (xs ++ y ∷ []) n d ≡ y
    get_or_push [] y zero d h = refl
    get_or_push [] y (suc n) d h = absurd (omega arith)
    get_or_push (x ∷ xs) y zero d h = absurd (omega arith)
    get_or_push (x ∷ xs) y (suc n) d h = get_or_push xs y n d (omega arith)

    set_push : (xs : List ℕ) (y z n : ℕ) → length xs ≡ n → set (xs ++ y ∷ []) n z ≡ xs ++ z ∷ []
    set_push [] y z zero h = refl
    set_push [] y z (suc n) h = absurd (omega arith)
    set_push (x ∷ xs) y z zero h = absurd (omega arith)
    set_push (x ∷ xs) y z (suc n) h = ap (λ l. x ∷ l) (set_push xs y z n (omega arith))

-- ---- what is left of a vector in its planes

map-replicate : (f : Bit4 → Bit4) (n : ℕ) (b : Bit4) → map f (replicate n b) ≡ replicate n (f b)
map-replicate f zero b = refl
map-replicate f (suc n) b = ap (λ l. f b ∷ l) (map-replicate f n b)

pub inverted_result : {Y : Type 0} (len : ℕ) (v : Vec ℕ Y) (lu na : List ℕ) (x : List Bit4) → IsPlanes len v.items lu → vector_of len v.items lu ≡ x → length na ≡ words_for len → plane_bits na lu ≡ map not4 (take len (plane_bits v.items lu)) ++ map x_for_z (drop len (plane_bits v.items lu)) → IsPlanes len (with_items v na).items lu × (vector_of len (with_items v na).items lu ≡ map not4 x)
inverted_result len v lu na x i e size bits =
    let same : (with_items v na).items ≡ na = with_items_is v na (size ∙ sym i.value_words ∙ sym v.ok.0) in
    let front : length (map not4 (take len (plane_bits v.items lu))) ≡ len = length-map (take len (plane_bits v.items lu)) not4 ∙ length-vector len v.items lu i in
    let P : List ℕ → Type 0 = λ l. IsPlanes len l lu × (vector_of len l lu ≡ map not4 x) in
    subst P (sym same) (
      record {
        value_words = size;
        unknown_words = i.unknown_words;
        rest =
            ap (drop len) bits
            ∙ drop_at (map not4 (take len (plane_bits v.items lu))) (map x_for_z (drop len (plane_bits v.items lu))) len front
            ∙ ap (map x_for_z) i.rest ∙ map-replicate x_for_z (64 * words_for len - len) Zero;
      },
      ap (take len) bits
          ∙ take_at (map not4 (take len (plane_bits v.items lu))) (map x_for_z (drop len (plane_bits v.items lu))) len front
          ∙ ap (map not4) e,
    )

-- ---- two-state

stored_bit : (p q : Bool) → plane_bit (one_bit p q) false ≡ two_state4 (plane_bit p q)
stored_bit false false = refl
stored_bit false true = refl
stored_bit true false = refl
stored_bit true true = refl

stored_word : (k a u : ℕ) → word_bits k (one_of a u) 0 ≡ map two_state4 (word_bits k a u)
unfolding word_bits odd
stored_word zero a u = refl
stored_word (suc k) a u =
    let low : odd (one_of a u) ≡ one_bit (odd a) (odd u) = odd-xor (bit_or a u) u ∙ ap (λ b. differ b (odd u)) (odd-or a u) in
    let high : one_of a u / 2 ≡ one_of (a / 2) (u / 2) = half-xor (bit_or a u) u ∙ ap (λ b. bit_xor b (u / 2)) (half-or a u) in
    rw (low, high, stored_bit (odd a) (odd u)) (ap (λ l. two_state4 (plane_bit (odd a) (odd u)) ∷ l) (stored_word k (a / 2) (u / 2)))

stored_words : {la lu lb lv : List ℕ} → Aligned la lu lb lv → plane_bits (zip2 one_of la lu) (replicate (length lu) 0) ≡ map two_state4 (plane_bits la lu)
stored_words ends = refl
stored_words (goes a u b v la lu lb lv h) =
    ap (λ l. l ++ plane_bits (zip2 one_of la lu) (replicate (length lu) 0)) (stored_word 64 a u)
    ∙ ap (λ l. map two_state4 (word_bits 64 a u) ++ l) (stored_words h)
    ∙ sym (map-append two_state4 (word_bits 64 a u) (plane_bits la lu))

pub stored_result : {Y : Type 0} (len : ℕ) (v : Vec ℕ Y) (lu na nu : List ℕ) (x : List Bit4) → IsPlanes len v.items lu → vector_of len v.items lu ≡ x → na ≡ zip2 one_of v.items lu → nu ≡ replicate (length lu) 0 → IsPlanes len (with_items v na).items nu × (vector_of len (with_items v na).items nu ≡ two_state_of x)
stored_result len v lu na nu x i e en eu =
    let h = aligned v.items lu v.items lu (i.unknown_words ∙ sym i.value_words) refl (i.unknown_words ∙ sym i.value_words) in
    let size : length na ≡ words_for len = ap length en ∙ length_pairs one_of h ∙ i.value_words in
    let same : (with_items v na).items ≡ na = with_items_is v na (size ∙ sym i.value_words ∙ sym v.ok.0) in
    let bits : plane_bits na nu ≡ map two_state4 (plane_bits v.items lu) = rw (en, eu) (stored_words h) in
    let P : List ℕ → Type 0 = λ l. IsPlanes len l nu × (vector_of len l nu ≡ two_state_of x) in
    subst P (sym same) (
      record {
        value_words = size;
        unknown_words = ap length eu ∙ length-replicate (length lu) 0 ∙ i.unknown_words;
        rest = ap (drop len) bits ∙ drop-map two_state4 len (plane_bits v.items lu) ∙ ap (map two_state4) i.rest ∙ map-replicate two_state4 (64 * words_for len - len) Zero;
      },
      ap (take len) bits ∙ take-map two_state4 len (plane_bits v.items lu) ∙ ap (map two_state4) e,
    )

-- the same, of lists that are equal to those
pub inverted_from : (len : ℕ) (vs us na a u : List ℕ) → a ≡ vs → u ≡ us → plane_bits na u ≡ map not4 (take len (plane_bits a u)) ++ map x_for_z (drop len (plane_bits a u)) → plane_bits na us ≡ map not4 (take len (plane_bits vs us)) ++ map x_for_z (drop len (plane_bits vs us))
inverted_from len vs us na a u ea eu e =
    let P : List ℕ → List ℕ → Type 0 = λ x y. plane_bits na y ≡ map not4 (take len (plane_bits x y)) ++ map x_for_z (drop len (plane_bits x y)) in
    subst (λ y. P vs y) eu (subst (λ x. P x u) ea e)
