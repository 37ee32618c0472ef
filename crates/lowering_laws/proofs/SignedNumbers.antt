-- Signed numbers of vectors: extended, and of literals.
use Rattle.std.proofs.Common.{◌≡◌, ℕ, zero, suc, ◌+◌, ◌-◌, ◌*◌, ◌^◌, ◌<◌, ◌≤◌, ℤ, pos, negsuc, ◌-ℤ◌, Bool, true, false, if◌then◌else◌, length, replicate, List, [], ◌∷◌, ◌++◌, refl, arith, sym, ◌∙◌, ap, append-nil, true≢false}
use Rattle.std.specs.Prelude.{nat_le, slice_index_or}
use Rattle.std.proofs.Math.Nat.{pow-suc, mul_assoc, mul-add}
use Rattle.std.proofs.lemmas.Int.{ints}
use Rattle.std.proofs.lemmas.Nat.{pow-add}
use Rattle.std.proofs.lemmas.Bool.Decides.{nat_tests}
use Rattle.b4_core.specs.declared.bit.Bit4.{Bit4}
use Rattle.b4_core.specs.declared.bit.Bit4.TheVariants.{Zero, One, X, Z}
use Rattle.b4_core.specs.Bits.{is_one}
use Rattle.b4_core.specs.Vectors.{known, num, snum, digits, vec, ext, top_bit}
use Rattle.b4_core.proofs.TwosComplement.{vec_is, vec_pos}
pub use Rattle.lowering_laws.specs.Signed.{FitsSigned}
use Rattle.lowering_laws.proofs.Extensions.{take-whole}
use Rattle.lowering_laws.proofs.Numbers.{num-digits, known-digits, length-digits}

-- the top bit, and behind the first bit
top-behind : (x y : Bit4) (v : List Bit4) → top_bit (x ∷ y ∷ v) ≡ top_bit (y ∷ v)
top-behind x y v = (let same : length (x ∷ y ∷ v) - 1 ≡ suc (length (y ∷ v) - 1) = omega arith in ap (λ k. slice_index_or (x ∷ y ∷ v) k Zero) same)

top-fill : (c : ℕ) (b : Bit4) → top_bit (replicate (suc c) b) ≡ b
top-fill zero b = refl
top-fill (suc c) b = top-behind b b (replicate c b) ∙ top-fill c b

top-filled : (v : List Bit4) (c : ℕ) (b : Bit4) → top_bit (v ++ replicate (suc c) b) ≡ b
top-filled [] c b = top-fill c b
top-filled (x ∷ []) c b = top-behind x b (replicate c b) ∙ top-fill c b
top-filled (x ∷ y ∷ v) c b = top-behind x y (v ++ replicate (suc c) b) ∙ top-filled (y ∷ v) c b

num-append : (v u : List Bit4) → num (v ++ u) ≡ num v + 2 ^ length v * num u
num-append [] u = omega arith
num-append (b ∷ v) u =
    let rest = num-append v u in
    let power : 2 ^ suc (length v) ≡ 2 * 2 ^ length v = omega (arith, pow-suc 2 (length v)) in
    let step : 2 ^ suc (length v) * num u ≡ 2 * (2 ^ length v * num u) = ap (λ x. x * num u) power ∙ mul_assoc 2 (2 ^ length v) (num u) in
    omega arith

num-ones : (c : ℕ) → num (replicate c One) + 1 ≡ 2 ^ c
num-ones zero = refl
num-ones (suc c) = (let rest = num-ones c in let power = pow-suc 2 c in omega arith)

num-none : (c : ℕ) (b : Bit4) → is_one b ≡ false → num (replicate c b) ≡ 0
num-none zero b h = refl
num-none (suc c) Zero h = (let rest = num-none c Zero h in omega arith)
num-none (suc c) One h = absurd (true≢false h)
num-none (suc c) X h = (let rest = num-none c X h in omega arith)
num-none (suc c) Z h = (let rest = num-none c Z h in omega arith)

length-filled : (v : List Bit4) (c : ℕ) (b : Bit4) → length (v ++ replicate c b) ≡ length v + c
length-filled [] zero b = refl
length-filled [] (suc c) b = (let rest = length-filled [] c b in omega arith)
length-filled (x ∷ v) c b = (let rest = length-filled v c b in omega arith)

-- filling up with the top bit keeps the signed number
pub snum-of : (v : List Bit4) (t : Bool) → is_one (top_bit v) ≡ t → snum v ≡ (if t then pos (num v) -ℤ pos (2 ^ length v) else pos (num v))
snum-of v t e = ap (λ b. if b then pos (num v) -ℤ pos (2 ^ length v) else pos (num v)) e

filled-number : (v : List Bit4) (c : ℕ) (b : Bit4) → is_one b ≡ true → num (v ++ replicate c b) + 2 ^ length v ≡ num v + 2 ^ (length v + c)
filled-number v c Zero h = absurd (true≢false (sym h))
filled-number v c One h =
    let ones = num-ones c in
    let all = num-append v (replicate c One) in
    let power = pow-add 2 (length v) c in
    let spread : 2 ^ length v * (num (replicate c One) + 1) ≡ 2 ^ length v * num (replicate c One) + 2 ^ length v * 1 = mul-add (2 ^ length v) (num (replicate c One)) 1 in
    let same : 2 ^ length v * (num (replicate c One) + 1) ≡ 2 ^ length v * 2 ^ c = ap (λ x. 2 ^ length v * x) ones in
    omega arith
filled-number v c X h = absurd (true≢false (sym h))
filled-number v c Z h = absurd (true≢false (sym h))

filled-same : (v : List Bit4) (c : ℕ) (b : Bit4) → is_one b ≡ false → num (v ++ replicate c b) ≡ num v
filled-same v c b h =
    let none = num-none c b h in
    let all = num-append v (replicate c b) in
    let nothing : 2 ^ length v * num (replicate c b) ≡ 2 ^ length v * 0 = ap (λ x. 2 ^ length v * x) none in
    omega arith

snum-by : (v : List Bit4) (c : ℕ) (b : Bit4) (t : Bool) → top_bit v ≡ b → is_one b ≡ t → snum (v ++ replicate (suc c) b) ≡ snum v
snum-by v c b true top e =
    let number = filled-number v (suc c) b e in
    let long : 2 ^ length (v ++ replicate (suc c) b) ≡ 2 ^ (length v + suc c) = ap (λ k. 2 ^ k) (length-filled v (suc c) b) in
    snum-of (v ++ replicate (suc c) b) true (ap is_one (top-filled v c b) ∙ e) ∙ omega (arith, ints) ∙ sym (snum-of v true (ap is_one top ∙ e))
snum-by v c b false top e =
    snum-of (v ++ replicate (suc c) b) false (ap is_one (top-filled v c b) ∙ e) ∙ ap pos (filled-same v (suc c) b e) ∙ sym (snum-of v false (ap is_one top ∙ e))

snum-filled : (v : List Bit4) (c : ℕ) → snum (v ++ replicate c (top_bit v)) ≡ snum v
snum-filled v zero = ap snum (append-nil v)
snum-filled v (suc c) = snum-by v c (top_bit v) (is_one (top_bit v)) refl refl

-- so an extension by the sign does
pub snum-ext : (w : ℕ) (v : List Bit4) → length v ≤ w → snum (ext w true v) ≡ snum v
snum-ext w v h = ap (λ x. snum (x ++ replicate (w - length v) (top_bit v))) (take-whole w v h) ∙ snum-filled v (w - length v)

-- a vector with a bit has a top bit, which is known where all are
known-top : (v : List Bit4) → known v ≡ true → known (top_bit v ∷ []) ≡ true
known-top [] h = refl
known-top (b ∷ []) h = h
known-top (Zero ∷ y ∷ v) h = ap (λ x. known (x ∷ [])) (top-behind Zero y v) ∙ known-top (y ∷ v) h
known-top (One ∷ y ∷ v) h = ap (λ x. known (x ∷ [])) (top-behind One y v) ∙ known-top (y ∷ v) h
known-top (X ∷ y ∷ v) h = absurd (true≢false (sym h))
known-top (Z ∷ y ∷ v) h = absurd (true≢false (sym h))

known-fill : (c : ℕ) (b : Bit4) → known (b ∷ []) ≡ true → known (replicate c b) ≡ true
known-fill zero b h = refl
known-fill (suc c) Zero h = known-fill c Zero h
known-fill (suc c) One h = known-fill c One h
known-fill (suc c) X h = absurd (true≢false (sym h))
known-fill (suc c) Z h = absurd (true≢false (sym h))

known-filled : (v u : List Bit4) → known u ≡ true → known (v ++ u) ≡ known v
known-filled [] u h = h
known-filled (Zero ∷ v) u h = known-filled v u h
known-filled (One ∷ v) u h = known-filled v u h
known-filled (X ∷ v) u h = refl
known-filled (Z ∷ v) u h = refl

pub known-ext-signed : (w : ℕ) (v : List Bit4) → length v ≤ w → known v ≡ true → known (ext w true v) ≡ true
known-ext-signed w v h k =
    ap (λ x. known (x ++ replicate (w - length v) (top_bit v))) (take-whole w v h)
    ∙ known-filled v (replicate (w - length v) (top_bit v)) (known-fill (w - length v) (top_bit v) (known-top v k)) ∙ k

unknown-filled : (v u : List Bit4) → known v ≡ false → known (v ++ u) ≡ false
unknown-filled [] u h = absurd (true≢false h)
unknown-filled (Zero ∷ v) u h = unknown-filled v u h
unknown-filled (One ∷ v) u h = unknown-filled v u h
unknown-filled (X ∷ v) u h = refl
unknown-filled (Z ∷ v) u h = refl

pub unknown-ext-signed : (w : ℕ) (v : List Bit4) → length v ≤ w → known v ≡ false → known (ext w true v) ≡ false
unknown-ext-signed w v h k =
    ap (λ x. known (x ++ replicate (w - length v) (top_bit v))) (take-whole w v h) ∙ unknown-filled v (replicate (w - length v) (top_bit v)) k

-- the top bit is 1 where the number is in the upper half
pub top-half : (w : ℕ) (v : List Bit4) → known v ≡ true → length v ≡ suc w → is_one (top_bit v) ≡ nat_le (2 ^ w) (num v)
top-half w [] k h = absurd (omega arith)
top-half zero (Zero ∷ []) k h = refl
top-half zero (One ∷ []) k h = refl
top-half w (X ∷ v) k h = absurd (true≢false (sym k))
top-half w (Z ∷ v) k h = absurd (true≢false (sym k))
top-half (suc w) (b ∷ []) k h = absurd (omega arith)
top-half zero (b ∷ y ∷ v) k h = absurd (omega arith)
top-half (suc w) (Zero ∷ y ∷ v) k h = ap is_one (top-behind Zero y v) ∙ top-half w (y ∷ v) k (omega arith) ∙ halves (num (y ∷ v)) w 0 (omega arith)
  where
    halves : (n k d : ℕ) → d ≤ 1 → nat_le (2 ^ k) n ≡ nat_le (2 ^ suc k) (d + 2 * n)
    halves n k d h = (let power = pow-suc 2 k in grind (arith, nat_tests))
top-half (suc w) (One ∷ y ∷ v) k h = ap is_one (top-behind One y v) ∙ top-half w (y ∷ v) k (omega arith) ∙ halves (num (y ∷ v)) w 1 (omega arith)
  where
    halves : (n k d : ℕ) → d ≤ 1 → nat_le (2 ^ k) n ≡ nat_le (2 ^ suc k) (d + 2 * n)
    halves n k d h = (let power = pow-suc 2 k in grind (arith, nat_tests))

literal-low : (w m : ℕ) → m < 2 ^ w → snum (digits (suc w) m) ≡ pos m
literal-low w m h =
    let power = pow-suc 2 w in
    let number = num-digits (suc w) m (omega arith) in
    snum-of (digits (suc w) m) false (top-half w (digits (suc w) m) (known-digits (suc w) m) (length-digits (suc w) m) ∙ low (num (digits (suc w) m)) (omega arith)) ∙ ap pos number
  where
    low : (k : ℕ) → k < 2 ^ w → nat_le (2 ^ w) k ≡ false
    low k g = grind (arith, nat_tests)

literal-high : (w m : ℕ) → m < 2 ^ suc w → 2 ^ w ≤ m → snum (digits (suc w) m) ≡ pos m -ℤ pos (2 ^ suc w)
literal-high w m h g =
    let number = num-digits (suc w) m h in
    let long : 2 ^ length (digits (suc w) m) ≡ 2 ^ suc w = ap (λ k. 2 ^ k) (length-digits (suc w) m) in
    snum-of (digits (suc w) m) true (top-half w (digits (suc w) m) (known-digits (suc w) m) (length-digits (suc w) m) ∙ high (num (digits (suc w) m)) (omega arith)) ∙ omega (arith, ints)
  where
    high : (k : ℕ) → 2 ^ w ≤ k → nat_le (2 ^ w) k ≡ true
    high k g = grind (arith, nat_tests)

-- the bits of a literal have its number
pub literal-signed : (w : ℕ) (n : ℤ) → FitsSigned w n → snum (vec (suc w) n) ≡ n
literal-signed w (pos m) h = ap snum (vec_pos (suc w) m) ∙ literal-low w m (omega (arith, ints, h.below))
literal-signed w (negsuc m) h =
    let power = pow-suc 2 w in
    let small : suc m ≤ 2 ^ w = omega (arith, ints, h.above) in
    let rest : ℕ = 2 ^ suc w - suc m in
    ap snum (vec_is (suc w) 1 (2 ^ suc w - suc m) (negsuc m) (omega (arith, ints))) ∙ literal-high w (2 ^ suc w - suc m) (omega arith) (omega arith) ∙ omega (arith, ints)

pub known-vec : (w : ℕ) (n : ℤ) → known (vec w n) ≡ true
known-vec w n = known-digits w _

pub length-vec : (w : ℕ) (n : ℤ) → length (vec w n) ≡ w
length-vec w n = length-digits w _

-- a 0 above a vector makes its number that of a signed one
pub known-zero-above : (v : List Bit4) → known (v ++ Zero ∷ []) ≡ known v
known-zero-above v = known-filled v (Zero ∷ []) refl

pub snum-by-zero : (v : List Bit4) → snum (v ++ Zero ∷ []) ≡ pos (num v)
snum-by-zero v = snum-of (v ++ Zero ∷ []) false (ap is_one (top-filled v 0 Zero)) ∙ ap pos (filled-same v 1 Zero refl)
