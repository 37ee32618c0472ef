-- Four lists of one length.
use Rattle.std.proofs.Common.{◌≡◌, ℕ, zero, suc, ◌<◌, List, [], ◌∷◌, length, take, drop, get_or, refl, ap, ◌∙◌, arith}
use Rattle.std.specs.Simd.Lanes.{zip2, chunk}
use Rattle.b4_planes.specs.Words.{words4}

pub data Aligned : List ℕ → List ℕ → List ℕ → List ℕ → Type 0 where
  ends : Aligned [] [] [] []
  goes : (a u b v : ℕ) (la lu lb lv : List ℕ) → Aligned la lu lb lv → Aligned (a ∷ la) (u ∷ lu) (b ∷ lb) (v ∷ lv)

pub aligned : (la lu lb lv : List ℕ) → length lu ≡ length la → length lb ≡ length la → length lv ≡ length la → Aligned la lu lb lv
aligned [] [] [] [] p q r = ends
aligned [] [] [] (v ∷ lv) p q r = absurd (omega arith)
aligned [] [] (b ∷ lb) lv p q r = absurd (omega arith)
aligned [] (u ∷ lu) lb lv p q r = absurd (omega arith)
aligned (a ∷ la) [] lb lv p q r = absurd (omega arith)
aligned (a ∷ la) (u ∷ lu) [] lv p q r = absurd (omega arith)
aligned (a ∷ la) (u ∷ lu) (b ∷ lb) [] p q r = absurd (omega arith)
aligned (a ∷ la) (u ∷ lu) (b ∷ lb) (v ∷ lv) p q r = goes a u b v la lu lb lv (aligned la lu lb lv (omega arith) (omega arith) (omega arith))

-- a function of lists that goes place by place
pub by_places : (f : ℕ → ℕ → ℕ → ℕ → ℕ) (F : List ℕ → List ℕ → List ℕ → List ℕ → List ℕ) → F [] [] [] [] ≡ [] → ((a u b v : ℕ) (la lu lb lv : List ℕ) → F (a ∷ la) (u ∷ lu) (b ∷ lb) (v ∷ lv) ≡ f a u b v ∷ F la lu lb lv) → {la lu lb lv : List ℕ} → Aligned la lu lb lv → F la lu lb lv ≡ words4 f la lu lb lv
by_places f F e s ends = e
by_places f F e s (goes a u b v la lu lb lv h) =
    s a u b v la lu lb lv ∙ ap (λ l. f a u b v ∷ l) (by_places f F e s h)

pub length-words4 : (f : ℕ → ℕ → ℕ → ℕ → ℕ) {la lu lb lv : List ℕ} → Aligned la lu lb lv → length (words4 f la lu lb lv) ≡ length la
length-words4 f ends = refl
length-words4 f (goes a u b v la lu lb lv h) = ap suc (length-words4 f h)

pub take-words4 : (f : ℕ → ℕ → ℕ → ℕ → ℕ) (n : ℕ) {la lu lb lv : List ℕ} → Aligned la lu lb lv → take n (words4 f la lu lb lv) ≡ words4 f (take n la) (take n lu) (take n lb) (take n lv)
take-words4 f zero h = refl
take-words4 f (suc n) ends = refl
take-words4 f (suc n) (goes a u b v la lu lb lv h) = ap (λ l. f a u b v ∷ l) (take-words4 f n h)

pub drop-words4 : (f : ℕ → ℕ → ℕ → ℕ → ℕ) (n : ℕ) {la lu lb lv : List ℕ} → Aligned la lu lb lv → drop n (words4 f la lu lb lv) ≡ words4 f (drop n la) (drop n lu) (drop n lb) (drop n lv)
drop-words4 f zero h = refl
drop-words4 f (suc n) ends = refl
drop-words4 f (suc n) (goes a u b v la lu lb lv h) = drop-words4 f n h

pub aligned_drop : (n : ℕ) {la lu lb lv : List ℕ} → Aligned la lu lb lv → Aligned (drop n la) (drop n lu) (drop n lb) (drop n lv)
aligned_drop zero h = h
aligned_drop (suc n) ends = ends
aligned_drop (suc n) (goes a u b v la lu lb lv h) = aligned_drop n h

pub chunk-words4 : (f : ℕ → ℕ → ℕ → ℕ → ℕ) (i n : ℕ) {la lu lb lv : List ℕ} → Aligned la lu lb lv → chunk i n (words4 f la lu lb lv) ≡ words4 f (chunk i n la) (chunk i n lu) (chunk i n lb) (chunk i n lv)
chunk-words4 f i n h = ap (take n) (drop-words4 f i h) ∙ take-words4 f n (aligned_drop i h)

pub get_or-words4 : (f : ℕ → ℕ → ℕ → ℕ → ℕ) (i : ℕ) {la lu lb lv : List ℕ} → Aligned la lu lb lv → i < length la → get_or (words4 f la lu lb lv) i 0 ≡ f (get_or la i 0) (get_or lu i 0) (get_or lb i 0) (get_or lv i 0)
get_or-words4 f i ends lt = absurd (omega arith)
get_or-words4 f zero (goes a u b v la lu lb lv h) lt = refl
get_or-words4 f (suc i) (goes a u b v la lu lb lv h) lt = get_or-words4 f i h (omega arith)

-- ---- the first two of them

pub length_pairs : (f : ℕ → ℕ → ℕ) {la lu lb lv : List ℕ} → Aligned la lu lb lv → length (zip2 f la lu) ≡ length la
length_pairs f ends = refl
length_pairs f (goes a u b v la lu lb lv h) = ap suc (length_pairs f h)

take_pairs : (f : ℕ → ℕ → ℕ) (n : ℕ) {la lu lb lv : List ℕ} → Aligned la lu lb lv → take n (zip2 f la lu) ≡ zip2 f (take n la) (take n lu)
take_pairs f zero h = refl
take_pairs f (suc n) ends = refl
take_pairs f (suc n) (goes a u b v la lu lb lv h) = ap (λ l. f a u ∷ l) (take_pairs f n h)

drop_pairs : (f : ℕ → ℕ → ℕ) (n : ℕ) {la lu lb lv : List ℕ} → Aligned la lu lb lv → drop n (zip2 f la lu) ≡ zip2 f (drop n la) (drop n lu)
drop_pairs f zero h = refl
drop_pairs f (suc n) ends = refl
drop_pairs f (suc n) (goes a u b v la lu lb lv h) = drop_pairs f n h

pub chunk_pairs : (f : ℕ → ℕ → ℕ) (i n : ℕ) {la lu lb lv : List ℕ} → Aligned la lu lb lv → chunk i n (zip2 f la lu) ≡ zip2 f (chunk i n la) (chunk i n lu)
chunk_pairs f i n h = ap (take n) (drop_pairs f i h) ∙ take_pairs f n (aligned_drop i h)

pub get_or_pairs : (f : ℕ → ℕ → ℕ) (i : ℕ) {la lu lb lv : List ℕ} → Aligned la lu lb lv → i < length la → get_or (zip2 f la lu) i 0 ≡ f (get_or la i 0) (get_or lu i 0)
get_or_pairs f i ends lt = absurd (omega arith)
get_or_pairs f zero (goes a u b v la lu lb lv h) lt = refl
get_or_pairs f (suc i) (goes a u b v la lu lb lv h) lt = get_or_pairs f i h (omega arith)

-- ---- lengths

pub length_of_third : {la lu lb lv : List ℕ} → Aligned la lu lb lv → length lb ≡ length la
length_of_third ends = refl
length_of_third (goes a u b v la lu lb lv h) = ap suc (length_of_third h)

pub length_of_fourth : {la lu lb lv : List ℕ} → Aligned la lu lb lv → length lv ≡ length la
length_of_fourth ends = refl
length_of_fourth (goes a u b v la lu lb lv h) = ap suc (length_of_fourth h)

-- a function of two lists that goes place by place
pub by_pairs : (f : ℕ → ℕ → ℕ) (F : List ℕ → List ℕ → List ℕ) → F [] [] ≡ [] → ((a u : ℕ) (la lu : List ℕ) → F (a ∷ la) (u ∷ lu) ≡ f a u ∷ F la lu) → {la lu lb lv : List ℕ} → Aligned la lu lb lv → F la lu ≡ zip2 f la lu
by_pairs f F e s ends = e
by_pairs f F e s (goes a u b v la lu lb lv h) = s a u la lu ∙ ap (λ l. f a u ∷ l) (by_pairs f F e s h)
