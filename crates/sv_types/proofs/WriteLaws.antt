-- What select paths write: the laws of the crate's contracts.
use Rattle.std.proofs.Common.{◌≡◌, inl, inr, ℕ, zero, suc, ◌+◌, ◌-◌, ◌*◌, ◌<◌, ◌≤◌, ◌==◌, max, min, Bool, true, false, ◌&&◌, cond, ℤ, pos, negsuc, ◌+ℤ◌, ◌-ℤ◌, List, [], ◌∷◌, ◌++◌, length, map, take, drop, set, Some, None, refl, arith, ap, sym, ◌∙◌, subst, append_assoc, append-nil, length-append, length-take-le}
use Rattle.std.specs.Prelude.{slice_get, slice_index_or, unsigned_abs, int_le, int_lt, nat_le, nat_lt, leb, ltb}
use Rattle.std.proofs.lemmas.Int.{ints}
use Rattle.std.proofs.lemmas.Bool.{cases_lt}
use Rattle.std.proofs.lemmas.Bool.Decides.{nat_tests}
use Rattle.std.proofs.lemmas.List.{get_or_append_left, get_or-take, get_or-drop, length-drop, take-append-le, drop-append-le}
use Rattle.std.proofs.Math.Seq.{get_or-append_right, take-append_seam, drop-length}
use Rattle.b4_core.specs.declared.bit.Bit4.{Bit4}
use Rattle.b4_core.specs.declared.bit.Bit4.TheVariants.{X}
use Rattle.picks.specs.RowMachine.{Place, Valuation, put, changed}
use Rattle.picks.specs.RowMachine.{vector_at, bits_from}
use Rattle.sv_types.specs.declared.types.SvType.TheVariants.{Struct}
use Rattle.sv_types.specs.declared.types.Value.{Value}
use Rattle.sv_types.specs.declared.types.Value.TheVariants.{Items}
use Rattle.sv_types.specs.Layouts.{Layout, layout, stacked, count_of}
use Rattle.sv_types.specs.Values.{bits}
use Rattle.sv_types.specs.Windows.{Window, nowhere, part, picked, within, written, bit_at, tabulated, seen, member_of, elements, falls, at_least_0}
use Rattle.sv_types.specs.Laws.{Reads, InRange, held_after, MemberIsWritten, ElementIsWritten, OthersAreKept}
use Rattle.sv_types.proofs.Lengths.{layout-Struct}
use Rattle.sv_types.proofs.Cuts.{bits-Items}
use Rattle.sv_types.proofs.Picks.{tabulated-same}
use Rattle.sv_types.proofs.ReadLaws.{tabulated-list, ranked-by, outside-nowhere}
use Rattle.sv_types.proofs.Components.{under, member-there, element-there}

-- bits of a signal, by index
index-from : (v : Valuation) (n k w q : ℕ) → q < w → slice_index_or (bits_from v n k w) q X ≡ v (record { signal = n; bit = k + q })
index-from v n k zero q h = absurd (omega arith)
index-from v n k (suc w) zero h = let e : k ≡ k + 0 = omega arith in ap (λ b. v (record { signal = n; bit = b })) e
index-from v n k (suc w) (suc q) h =
    let e : suc k + q ≡ k + suc q = omega arith in index-from v n (suc k) w q (omega arith) ∙ ap (λ b. v (record { signal = n; bit = b })) e

index-vector : (v : Valuation) (n w q : ℕ) → q < w → slice_index_or (vector_at v n w) q X ≡ v (record { signal = n; bit = q })
index-vector v n w q h = let e : 0 + q ≡ q = omega arith in index-from v n 0 w q h ∙ ap (λ b. v (record { signal = n; bit = b })) e

same-number : (n : ℕ) → (n == n) ≡ true
same-number n = grind (arith, nat_tests)

index-tabulated : {A : Type 0} (n : ℕ) (f : ℕ → A) (j : ℕ) (d : A) → j < n → slice_index_or (tabulated n f) j d ≡ f j
index-tabulated zero f j d h = absurd (omega arith)
index-tabulated (suc n) f zero d h = refl
index-tabulated (suc n) f (suc j) d h = index-tabulated n (λ k. f (suc k)) j d (omega arith)

-- what a write leaves at a bit
after-write : (v : Valuation) (n : ℕ) (path : Window) (b : List Bit4) (q : ℕ)
    → put (written n path b) v (record { signal = n; bit = q }) ≡ cond (within path q) (slice_index_or b (at_least_0 (pos q -ℤ path.shift)) X) (v (record { signal = n; bit = q }))
after-write v n path b q =
    ap (λ t. changed (cond (t && within path q) (Some (slice_index_or b (at_least_0 (pos q -ℤ path.shift)) X)) None) (v (record { signal = n; bit = q }))) (same-number n)
    ∙ after-by (within path q)
  where
    after-by : (t : Bool) → changed (cond (true && t) (Some (slice_index_or b (at_least_0 (pos q -ℤ path.shift)) X)) None) (v (record { signal = n; bit = q })) ≡ cond t (slice_index_or b (at_least_0 (pos q -ℤ path.shift)) X) (v (record { signal = n; bit = q }))
    after-by true = refl
    after-by false = refl

-- the bits of a part, by the bits of its path
within-empty : (r : Window) (q : ℕ) → nat_lt r.low r.high ≡ false → within r q ≡ false
within-empty r q h = grind (arith, nat_tests)

trimmed-within : (t : Bool) (r : Window) (q : ℕ) (f : ℤ → Bit4) (d : Bit4) → nat_lt r.low r.high ≡ t → cond (within (cond t r nowhere) q) (f (cond t r nowhere).shift) d ≡ cond (within r q) (f r.shift) d
trimmed-within true r q f d is = refl
trimmed-within false r q f d is =
    let none : within nowhere q ≡ false = grind (arith, nat_tests) in
    ap (λ b. cond b (f (pos 0)) d) none ∙ sym (ap (λ b. cond b (f r.shift) d) (within-empty r q is))

-- a picked bit
pub record Picked (path : Window) (j q : ℕ) : Type 0 where
  pub low : path.low ≤ q
  pub high : q < path.high
  pub is : pos q ≡ pos j +ℤ path.shift

picked-some : (t : Bool) (m low high q : ℕ) → (leb low m && ltb m high) ≡ t → cond t (Some m) None ≡ Some q → (low ≤ q) × (q < high) × (pos q ≡ pos m)
picked-some true m low high q test is =
    let e : m ≡ q = cc in
    let f : m < high = grind (arith, nat_tests) in
    let g : low ≤ m = grind (arith, nat_tests) in
    (omega arith, omega arith, ap pos (sym e))
picked-some false m low high q test is = absurd (cc)

picked-by : (k : ℤ) (low high q : ℕ) → cond (int_le (pos low) k && int_lt k (pos high)) (Some (at_least_0 k)) None ≡ Some q → (low ≤ q) × (q < high) × (pos q ≡ k)
picked-by (negsuc m) low high q is = absurd (cc)
picked-by (pos m) low high q is = picked-some (leb low m && ltb m high) m low high q refl is

picked-there : (path : Window) (j q : ℕ) → picked path j ≡ Some q → Picked path j q
picked-there path j q is = let p = picked-by (pos j +ℤ path.shift) path.low path.high q is in record { low = p.0; high = p.1; is = p.2 }

start-same : (low : ℕ) (s : ℤ) (o j q : ℕ) → pos q +ℤ pos o ≡ pos j +ℤ s → low ≤ q → leb (max low (at_least_0 s)) q ≡ leb o j
start-same low (pos s) o j q e h = let f : q + o ≡ j + s = omega (arith, ints) in grind (arith, nat_tests)
start-same low (negsuc s) o j q e h = let f : q + o + suc s ≡ j = omega (arith, ints) in grind (arith, nat_tests)

end-same : (high : ℕ) (e : ℤ) (o w j q : ℕ) → pos q +ℤ pos (o + w) ≡ pos j +ℤ e → q < high → ltb q (min high (at_least_0 e)) ≡ ltb j (o + w)
end-same high (pos e) o w j q h g = let f : q + (o + w) ≡ j + e = omega (arith, ints) in grind (arith, nat_tests)
end-same high (negsuc e) o w j q h g = let f : q + (o + w) + suc e ≡ j = omega (arith, ints) in grind (arith, nat_tests)

within-part : (o w : ℕ) (path : Window) (j q : ℕ) → Picked path j q
    → within (record { shift = path.shift +ℤ pos o; low = max path.low (at_least_0 (path.shift +ℤ pos o)); high = min path.high (at_least_0 (path.shift +ℤ pos o +ℤ pos w)) }) q ≡ (nat_le o j && nat_lt j (o + w))
within-part o w path j q p =
    let s = path.shift +ℤ pos o in
    let is = p.is in
    ap (λ b. b && ltb q (min path.high (at_least_0 (s +ℤ pos w)))) (start-same path.low s o j q (omega (arith, ints)) p.low)
    ∙ ap (λ b. leb o j && b) (end-same path.high (s +ℤ pos w) o w j q (omega (arith, ints)) p.high)

offset-by : (k : ℤ) (o j : ℕ) → k ≡ pos j -ℤ pos o → at_least_0 k ≡ j - o
offset-by (pos k) o j h = omega (arith, ints)
offset-by (negsuc k) o j h = omega (arith, ints)

part-offset : (o : ℕ) (path : Window) (j q : ℕ) → Picked path j q → at_least_0 (pos q -ℤ (path.shift +ℤ pos o)) ≡ j - o
part-offset o path j q p = let is = p.is in offset-by (pos q -ℤ (path.shift +ℤ pos o)) o j (omega (arith, ints))

-- what a path reads at its bit j, once a part of it is written
read-after : (v : Valuation) (n w o width : ℕ) (path : Window) (b : List Bit4) (j q : ℕ) → picked path j ≡ Some q → q < w
    → bit_at (held_after v n w (part (pos o) width path) b) (picked path j) ≡ cond (nat_le o j && nat_lt j (o + width)) (slice_index_or b (j - o) X) (bit_at (vector_at v n w) (picked path j))
read-after v n w o width path b j q is inside =
    let p = picked-there path j q is in
    let r : Window = record { shift = path.shift +ℤ pos o; low = max path.low (at_least_0 (path.shift +ℤ pos o)); high = min path.high (at_least_0 (path.shift +ℤ pos o +ℤ pos width)) } in
    let old = v (record { signal = n; bit = q }) in
    ap (bit_at (held_after v n w (part (pos o) width path) b)) is
    ∙ index-vector (put (written n (part (pos o) width path) b) v) n w q inside
    ∙ after-write v n (part (pos o) width path) b q
    ∙ trimmed-within (nat_lt r.low r.high) r q (λ s. slice_index_or b (at_least_0 (pos q -ℤ s)) X) old refl
    ∙ ap (λ t. cond t (slice_index_or b (at_least_0 (pos q -ℤ r.shift)) X) old) (within-part o width path j q p)
    ∙ ap (λ k. cond (nat_le o j && nat_lt j (o + width)) (slice_index_or b k X) old) (part-offset o path j q p)
    ∙ ap (cond (nat_le o j && nat_lt j (o + width)) (slice_index_or b (j - o) X)) (sym (index-vector v n w q inside) ∙ ap (bit_at (vector_at v n w)) (sym is))

-- a list with a part exchanged, by index
abbrev spliced : List Bit4 → List Bit4 → ℕ → List Bit4
spliced s b o = take o s ++ (b ++ drop (o + length b) s)

spliced-inside : (s b : List Bit4) (o j : ℕ) → o ≤ j → j < o + length b → slice_index_or (b ++ drop (o + length b) s) (j - o) X ≡ cond (leb o j && ltb j (o + length b)) (slice_index_or b (j - o) X) (slice_index_or s j X)
spliced-inside s b o j h g =
    let test : (leb o j && ltb j (o + length b)) ≡ true = grind (arith, nat_tests) in
    get_or_append_left b (drop (o + length b) s) X (j - o) (omega arith) ∙ sym (ap (λ t. cond t (slice_index_or b (j - o) X) (slice_index_or s j X)) test)

spliced-behind : (s b : List Bit4) (o j : ℕ) → o ≤ j → o + length b ≤ j → slice_index_or (b ++ drop (o + length b) s) (j - o) X ≡ cond (leb o j && ltb j (o + length b)) (slice_index_or b (j - o) X) (slice_index_or s j X)
spliced-behind s b o j h g =
    let test : (leb o j && ltb j (o + length b)) ≡ false = grind (arith, nat_tests) in
    let e : o + length b + (j - o - length b) ≡ j = omega arith in
    get_or-append_right b (drop (o + length b) s) (j - o) X (omega arith) ∙ get_or-drop (o + length b) s (j - o - length b) X ∙ ap (λ k. slice_index_or s k X) e
    ∙ sym (ap (λ t. cond t (slice_index_or b (j - o) X) (slice_index_or s j X)) test)

spliced-lower : (s b : List Bit4) (o j : ℕ) → o ≤ length s → j < o → slice_index_or (spliced s b o) j X ≡ cond (leb o j && ltb j (o + length b)) (slice_index_or b (j - o) X) (slice_index_or s j X)
spliced-lower s b o j h g =
    let long : length (take o s) ≡ o = length-take-le o s h in
    let test : (leb o j && ltb j (o + length b)) ≡ false = grind (arith, nat_tests) in
    get_or_append_left (take o s) (b ++ drop (o + length b) s) X j (omega arith) ∙ get_or-take o s j X g ∙ sym (ap (λ t. cond t (slice_index_or b (j - o) X) (slice_index_or s j X)) test)

spliced-upper : (s b : List Bit4) (o j : ℕ) → o ≤ length s → o ≤ j → slice_index_or (spliced s b o) j X ≡ cond (leb o j && ltb j (o + length b)) (slice_index_or b (j - o) X) (slice_index_or s j X)
spliced-upper s b o j h g =
    let long : length (take o s) ≡ o = length-take-le o s h in
    get_or-append_right (take o s) (b ++ drop (o + length b) s) j X (omega arith) ∙ ap (λ k. slice_index_or (b ++ drop (o + length b) s) (j - k) X) long
    ∙ elim (cases_lt j (o + length b)) [ inl inside ↦ spliced-inside s b o j g inside | inr behind ↦ spliced-behind s b o j g behind ]

spliced-at : (s b : List Bit4) (o j : ℕ) → o ≤ length s → slice_index_or (spliced s b o) j X ≡ cond (leb o j && ltb j (o + length b)) (slice_index_or b (j - o) X) (slice_index_or s j X)
spliced-at s b o j h = elim (cases_lt j o) [ inl lower ↦ spliced-lower s b o j h lower | inr upper ↦ spliced-upper s b o j h upper ]

length-spliced : (s b : List Bit4) (o : ℕ) → o + length b ≤ length s → length (spliced s b o) ≡ length s
length-spliced s b o h =
    omega (arith, length-append (take o s) (b ++ drop (o + length b) s), length-append b (drop (o + length b) s), length-take-le o s (omega arith), length-drop (o + length b) s)

-- what a path reads once a part of it is written
seen-after : (v : Valuation) (n w o : ℕ) (path : Window) (b s : List Bit4) → seen (vector_at v n w) path (length s) ≡ s → InRange path (length s) w → o + length b ≤ length s
    → seen (held_after v n w (part (pos o) (length b) path) b) path (length s) ≡ spliced s b o
seen-after v n w o path b s reads range inside =
    let held = vector_at v n w in
    let after = held_after v n w (part (pos o) (length b) path) b in
    let old : (j : ℕ) → j < length s → bit_at held (picked path j) ≡ slice_index_or s j X =
    λ j h. sym (index-tabulated (length s) (λ k. bit_at held (picked path k)) j X h) ∙ ap (λ t. slice_index_or t j X) reads in
    let bit : (j : ℕ) → j < length s → bit_at after (picked path j) ≡ slice_index_or (spliced s b o) j X =
    λ j h. read-after v n w o (length b) path b j (range j h).0 (range j h).1 (range j h).2
    ∙ ap (cond (leb o j && ltb j (o + length b)) (slice_index_or b (j - o) X)) (old j h) ∙ sym (spliced-at s b o j (omega arith)) in
    tabulated-same (length s) (λ j. bit_at after (picked path j)) (λ j. slice_index_or (spliced s b o) j X) bit
    ∙ ap (λ k. tabulated k (λ j. slice_index_or (spliced s b o) j X)) (sym (length-spliced s b o inside)) ∙ tabulated-list (spliced s b o)

spliced-below : (s x b : List Bit4) (o : ℕ) → o + length b ≤ length s → spliced s b o ++ x ≡ spliced (s ++ x) b o
spliced-below s x b o h =
    append_assoc (take o s) (b ++ drop (o + length b) s) x ∙ ap (λ t. take o s ++ t) (append_assoc b (drop (o + length b) s) x)
    ∙ ap (λ t. t ++ (b ++ (drop (o + length b) s ++ x))) (sym (take-append-le o s x (omega arith)))
    ∙ ap (λ t. take o (s ++ x) ++ (b ++ t)) (sym (drop-append-le (o + length b) s x h))

spliced-top : (s x b : List Bit4) → length b ≡ length x → s ++ b ≡ spliced (s ++ x) b (length s)
spliced-top s x b same =
    let none : drop (length s + length b) (s ++ x) ≡ [] = ap (λ k. drop k (s ++ x)) (omega (arith, length-append s x)) ∙ drop-length (s ++ x) in
    ap (λ t. t ++ b) (sym (take-append_seam s x)) ∙ ap (λ t. take (length s) (s ++ x) ++ t) (sym (append-nil b)) ∙ ap (λ t. take (length s) (s ++ x) ++ (b ++ t)) (sym none)

inside-there : (vs : List Value) (k : ℕ) (old : Value) → slice_get vs k ≡ Some old → under vs k + length (bits old) ≤ length (stacked (map bits vs))
inside-there [] k old is = absurd (cc)
inside-there (u ∷ vs) zero old is =
    let same : u ≡ old = cc in
    let long = ap (λ (x : Value). length (bits x)) same in
    omega (arith, length-append (stacked (map bits vs)) (bits u), long)
inside-there (u ∷ vs) (suc k) old is = omega (arith, inside-there vs k old is, length-append (stacked (map bits vs)) (bits u))

-- a value with one component exchanged
set-there : (vs : List Value) (k : ℕ) (old new : Value) → slice_get vs k ≡ Some old → length (bits new) ≡ length (bits old)
    → stacked (map bits (set vs k new)) ≡ spliced (stacked (map bits vs)) (bits new) (under vs k)
set-there [] k old new is same = absurd (cc)
set-there (u ∷ vs) zero old new is same =
    let e : u ≡ old = cc in
    spliced-top (stacked (map bits vs)) (bits u) (bits new) (same ∙ ap (λ (x : Value). length (bits x)) (sym e))
set-there (u ∷ vs) (suc k) old new is same =
    ap (λ t. t ++ bits u) (set-there vs k old new is same)
    ∙ spliced-below (stacked (map bits vs)) (bits u) (bits new) (under vs k) (omega (arith, inside-there vs k old is, same))

written-there : (v : Valuation) (n w : ℕ) (path : Window) (vs : List Value) (k o : ℕ) (old new : Value) → slice_get vs k ≡ Some old → length (bits new) ≡ length (bits old)
    → o ≡ under vs k → o + length (bits old) ≤ length (stacked (map bits vs)) → Reads (vector_at v n w) path (Items vs) → InRange path (length (bits (Items vs))) w
    → Reads (held_after v n w (part (pos o) (length (bits new)) path) (bits new)) path (Items (set vs k new))
written-there v n w path vs k o old new is same lies inside reads range =
    let s = stacked (map bits vs) in
    let e = bits-Items vs in
    let after = held_after v n w (part (pos o) (length (bits new)) path) (bits new) in
    let value : bits (Items (set vs k new)) ≡ spliced s (bits new) o = bits-Items (set vs k new) ∙ set-there vs k old new is same ∙ ap (spliced s (bits new)) (sym lies) in
    let long : length (bits (Items (set vs k new))) ≡ length s = ap length value ∙ length-spliced s (bits new) o (omega arith) in
    let before : seen (vector_at v n w) path (length s) ≡ s = ap (λ t. seen (vector_at v n w) path (length t)) (sym e) ∙ reads ∙ e in
    let inside-range : InRange path (length s) w = subst (λ t. InRange path (length t) w) e range in
    ap (seen after path) long ∙ seen-after v n w o path (bits new) s before inside-range (omega arith) ∙ sym value

pub member_is_written : MemberIsWritten
member_is_written id packed s ms vs v n w path k old new fits reads range is same =
    let found = member-there ms vs k old fits is in
    let p = found.0 in
    let c = found.2 in
    let members : slice_get (layout (Struct id packed s ms)).members k ≡ Some p = ap (λ (l : Layout). slice_get l.members k) (layout-Struct id packed s ms) ∙ found.1 in
    let value = Items (set vs k new) in
    subst (λ m. Reads (held_after v n w (member_of m path) (bits new)) path value) (sym members)
    (subst (λ j. Reads (held_after v n w (part (pos p.below) j path) (bits new)) path value) (same ∙ sym c.width)
    (written-there v n w path vs k p.below old new is same c.lies c.inside reads range))

pub element_is_written : ElementIsWritten
element_is_written of vs v n w path i old new each count between reads range is same =
    let k = unsigned_abs (of.left -ℤ i) in
    let r = ranked-by (falls of) of i refl between in
    let width = length of.element.two_state in
    let e = element-there width vs k r.below old each is (r.count ∙ count) in
    let test : (int_le (pos 0) (pos r.below) && int_lt (pos r.below) (pos (count_of of.left of.right))) ≡ true = grind (arith, nat_tests, r.count) in
    let one : 1 * width ≡ length (bits new) = omega (arith, e.width, same) in
    let value = Items (set vs k new) in
    subst (λ z. Reads (held_after v n w (cond (int_le (pos 0) z && int_lt z (pos (count_of of.left of.right))) (elements of z 1 path) nowhere) (bits new)) path value) (sym r.is)
    (subst (λ t. Reads (held_after v n w (cond t (elements of (pos r.below) 1 path) nowhere) (bits new)) path value) (sym test)
    (subst (λ j. Reads (held_after v n w (part (pos (r.below * width)) j path) (bits new)) path value) (sym one)
    (written-there v n w path vs k (r.below * width) old new is same e.lies (omega (arith, e.inside, e.width)) reads range)))

put-none : (v : Valuation) (n : ℕ) (b : List Bit4) (q : Place) → put (written n nowhere b) v q ≡ v q
put-none v n b q =
    let none : ((q.signal == n) && within nowhere q.bit) ≡ false = grind (arith, nat_tests) in
    ap (λ t. changed (cond t (Some (slice_index_or b (at_least_0 (pos q.bit -ℤ pos 0)) X)) None) (v q)) none

others-by : (t : Bool) (v : Valuation) (n : ℕ) (path : Window) (b : List Bit4) (q : Place) → (q.signal == n) ≡ t → (q.signal ≡ n → ⊥) → put (written n path b) v q ≡ v q
others-by true v n path b q is other = absurd (other (grind (arith, nat_tests)))
others-by false v n path b q is other = ap (λ t. changed (cond (t && within path q.bit) (Some (slice_index_or b (at_least_0 (pos q.bit -ℤ path.shift)) X)) None) (v q)) is

pub others_are_kept : OthersAreKept
others_are_kept v n path b = (
  λ q other. others-by (q.signal == n) v n path b q refl other,
  λ of q. put-none v n b q,
  λ of i out q. ap (λ (p : Window). put (written n p b) v q) (outside-nowhere of path i out) ∙ put-none v n b q,
)
