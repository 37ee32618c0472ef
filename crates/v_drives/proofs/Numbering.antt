-- The numbers of bits in the row of all bits.
use Rattle.std.proofs.Common.{◌≡◌, ◌<◌, ◌≤◌, ℕ, zero, suc, ◌+◌, List, [], ◌∷◌, ◌++◌, length, drop, slice_index_or, refl, ap, sym, ◌∙◌, append_assoc, append-nil, arith}
use Rattle.std.proofs.Math.Seq.{drop-cons}
use Rattle.std.proofs.Math.Numerals.{add-one}
use Rattle.v_drives.specs.Rows.{starts_from, bits_before, all_bits}

pub at-front : {A : Type 0} (xs : List A) (i : ℕ) (d : A) → i < length xs → drop i xs ≡ slice_index_or xs i d ∷ drop (i + 1) xs
at-front xs i d h = drop-cons xs i d h ∙ ap (λ k. slice_index_or xs i d ∷ drop k xs) (sym (add-one i))

pub none-left : {A : Type 0} (xs : List A) (i : ℕ) → length xs ≤ i → drop i xs ≡ []
none-left [] zero h = refl
none-left [] (suc i) h = refl
none-left (x ∷ xs) zero h = absurd (omega (arith, h))
none-left (x ∷ xs) (suc i) h = none-left xs i (omega (arith, h))

starts-length : (m : ℕ) (ws : List ℕ) → length (starts_from m ws) ≡ length ws
starts-length m [] = refl
starts-length m (w ∷ ws) = ap suc (starts-length (m + w) ws)

pub as-many : (os ws : List ℕ) → os ≡ starts_from 0 ws → length os ≡ length ws
as-many os ws is = ap length is ∙ starts-length 0 ws

start-from : (m n : ℕ) (ws : List ℕ) → n < length ws → slice_index_or (starts_from m ws) n 0 ≡ m + bits_before ws n
start-from m n [] h = absurd (omega (arith, h))
start-from m zero (w ∷ ws) h = omega arith
start-from m (suc n) (w ∷ ws) h = let go = start-from (m + w) n ws (omega (arith, h)) in omega (arith, go)

pub start-at : (os ws : List ℕ) (n : ℕ) → os ≡ starts_from 0 ws → n < length ws → slice_index_or os n 0 ≡ bits_before ws n
start-at os ws n is h = let at = start-from 0 n ws h in ap (λ xs. slice_index_or xs n 0) is ∙ omega (arith, at)

-- behind a signal stand its own bits too
pub before-next : (ws : List ℕ) (n : ℕ) → n < length ws → bits_before ws (n + 1) ≡ bits_before ws n + slice_index_or ws n 0
before-next [] n h = absurd (omega (arith, h))
before-next (w ∷ ws) zero h = ap (bits_before (w ∷ ws)) (add-one zero) ∙ omega arith
before-next (w ∷ ws) (suc n) h =
    let go = before-next ws n (omega (arith, h)) in
    let next : bits_before ws (suc n) ≡ bits_before ws (n + 1) = ap (bits_before ws) (sym (add-one n)) in
    ap (bits_before (w ∷ ws)) (add-one (suc n)) ∙ omega (arith, go, next)

-- what stands further behind has more before it
pub before-more : (ws : List ℕ) (n m : ℕ) → n ≤ m → bits_before ws n ≤ bits_before ws m
before-more ws zero m h = omega arith
before-more [] (suc n) m h = omega arith
before-more (w ∷ ws) (suc n) zero h = absurd (omega (arith, h))
before-more (w ∷ ws) (suc n) (suc m) h = let go = before-more ws n m (omega (arith, h)) in omega (arith, go)

-- the bits of a signal end before all bits do
pub ends-inside : (ws : List ℕ) (n : ℕ) → n < length ws → bits_before ws n + slice_index_or ws n 0 ≤ all_bits ws
ends-inside ws n h =
    let next = before-next ws n h in
    let more = before-more ws (n + 1) (length ws) (omega (arith, h)) in omega (arith, next, more)

-- a start more
pub starts-on : (m i : ℕ) (os all ws : List ℕ) (d : ℕ) → i < length ws → os ++ starts_from m (drop i ws) ≡ all → (os ++ m ∷ []) ++ starts_from (m + slice_index_or ws i d) (drop (i + 1) ws) ≡ all
starts-on m i os all ws d h before =
    append_assoc os (m ∷ []) (starts_from (m + slice_index_or ws i d) (drop (i + 1) ws)) ∙ ap (λ xs. os ++ starts_from m xs) (sym (at-front ws i d h)) ∙ before

pub starts-all : (m i : ℕ) (os all ws : List ℕ) → length ws ≤ i → os ++ starts_from m (drop i ws) ≡ all → os ≡ all
starts-all m i os all ws h before = sym (append-nil os) ∙ ap (λ xs. os ++ starts_from m xs) (sym (none-left ws i h)) ∙ before
