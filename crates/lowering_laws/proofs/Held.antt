-- Two-state bits that a path reads, which hold 0 or 1, and that it writes.
use Rattle.std.proofs.Common.{◌≡◌, ℕ, zero, suc, ◌+◌, ◌*◌, ◌<◌, ◌≤◌, Bool, true, false, ◌&&◌, cond, pos, int_le, int_lt, length, map, replicate, List, [], ◌∷◌, ◌++◌, Some, None, refl, arith, sym, ◌∙◌, subst, ap, true≢false, length-append}
use Rattle.std.specs.Prelude.{slice_get, nat_lt}
use Rattle.std.specs.List.{list_all}
use Rattle.std.proofs.lemmas.Bool.Decides.{nat_tests}
use Rattle.b4_core.specs.declared.bit.Bit4.{Bit4}
use Rattle.b4_core.specs.declared.bit.Bit4.TheVariants.{Zero, One, X, Z}
use Rattle.picks.specs.Windows.{whole, picked, bit_at, tabulated}
use Rattle.sv_types.specs.Layouts.{Layout, Part, stored_bit, stored, default_bits, stacked, repeated, as_a_whole, stacked_marks, above_the_next}
use Rattle.sv_types.specs.Surroundings.{Around}
use Rattle.sv_types.specs.Meanings as S
use Rattle.sv_types.proofs.Picks.{tabulated-same}
use Rattle.lowering_laws.specs.Held.{marked, IsHeld, IsConverted}
use Rattle.lowering_laws.specs.Images.{Names, NamesNone, raw}
use Rattle.lowering_laws.proofs.PathSteps.{rows-fit}

-- stored bit by bit
pub stored-tabulated : (marks : List Bool) (f : ℕ → Bit4) → stored marks (tabulated (length marks) f) ≡ tabulated (length marks) (λ j. stored_bit (marked marks j) (f j))
stored-tabulated [] f = refl
stored-tabulated (m ∷ marks) f = ap (λ v. stored_bit m (f 0) ∷ v) (stored-tabulated marks (λ k. f (suc k)))

default-tabulated : (marks : List Bool) → default_bits marks ≡ tabulated (length marks) (λ j. stored_bit (marked marks j) X)
default-tabulated [] = refl
default-tabulated (m ∷ marks) = ap (λ v. stored_bit m X ∷ v) (default-tabulated marks)

pub stored-twice-bit : (m : Bool) (b : Bit4) → stored_bit m (stored_bit m b) ≡ stored_bit m b
stored-twice-bit true Zero = refl
stored-twice-bit true One = refl
stored-twice-bit true X = refl
stored-twice-bit true Z = refl
stored-twice-bit false b = refl

pub stored-twice : (marks : List Bool) (v : List Bit4) → stored marks (stored marks v) ≡ stored marks v
stored-twice [] v = refl
stored-twice (m ∷ marks) [] = refl
stored-twice (m ∷ marks) (b ∷ v) = λ i. stored-twice-bit m b i ∷ stored-twice marks v i

-- the bit of a whole
pub picked-in : (low w j : ℕ) → low + j < w → picked (whole w) (low + j) ≡ Some (low + j)
picked-in low w j h = (let e : (low + j) + 0 ≡ low + j = omega arith in ap (λ c. cond c (Some ((low + j) + 0)) None) (test (low + j) w h) ∙ ap Some e)
  where
    test : (k n : ℕ) → k < n → (int_le (pos 0) (pos (k + 0)) && int_lt (pos (k + 0)) (pos n)) ≡ true
    test k n less = (let e : k + 0 < n = omega arith in grind (arith, nat_tests))

-- a path whose bits are all in range reads what is stored already
pub held-there : (e : S.Meaning) (a : Around) (low w : ℕ) → IsHeld e a → Names e a low w → low + S.wide e ≤ w → stored e.of.two_state (raw e a) ≡ raw e a
held-there e a low w held names fits =
    stored-tabulated e.of.two_state (λ j. bit_at (e.base a) (picked (e.window a) j))
    ∙ tabulated-same (S.wide e) _ _ (λ j h. let is = names j h ∙ picked-in low w j (omega arith) in
    ap (λ o. stored_bit (marked e.of.two_state j) (bit_at (e.base a) o)) is ∙ held j (low + j) h is ∙ sym (ap (bit_at (e.base a)) is))

-- and one of which no bit is in range reads the default
pub held-none : (e : S.Meaning) (a : Around) → NamesNone e a → stored e.of.two_state (raw e a) ≡ default_bits e.of.two_state
held-none e a none =
    stored-tabulated e.of.two_state (λ j. bit_at (e.base a) (picked (e.window a) j))
    ∙ tabulated-same (S.wide e) _ _ (λ j h. ap (λ o. stored_bit (marked e.of.two_state j) (bit_at (e.base a) o)) (none j h))
    ∙ sym (default-tabulated e.of.two_state)

-- A step by a known number of bits, to bits of the same marks.
module _ (e from : S.Meaning) (a : Around) (below : ℕ) (base : e.base a ≡ from.base a)
    (window : (j : ℕ) → j < S.wide e → picked (e.window a) j ≡ picked (from.window a) (below + j)) (fits : below + S.wide e ≤ S.wide from) where
  pub held-step : ((j : ℕ) → j < S.wide e → marked from.of.two_state (below + j) ≡ marked e.of.two_state j) → IsHeld from a → IsHeld e a
  held-step same held j k h is =
      let from_held = held (below + j) k (omega arith) (sym (window j h) ∙ is) in
      subst (λ m. stored_bit m (bit_at (e.base a) (Some k)) ≡ bit_at (e.base a) (Some k)) (same j h)
      (subst (λ (b : List Bit4). stored_bit (marked from.of.two_state (below + j)) (bit_at b (Some k)) ≡ bit_at b (Some k)) (sym base) from_held)

  -- marks of the whole are marks of the part
  pub converted-step : (two_state : ℕ → Bool) → ((j : ℕ) → j < S.wide e → marked from.of.two_state (below + j) ≡ true → marked e.of.two_state j ≡ true)
      → IsConverted two_state from a → IsConverted two_state e a
  converted-step two_state same converted j k h is mark =
      same j h (converted (below + j) k (omega arith) (sym (window j h) ∙ is) mark)

-- The marks of parts.
marked-left : (xs ys : List Bool) (j : ℕ) → j < length xs → marked (xs ++ ys) j ≡ marked xs j
marked-left [] ys j h = absurd (omega arith)
marked-left (x ∷ xs) ys zero h = refl
marked-left (x ∷ xs) ys (suc j) h = marked-left xs ys j (omega arith)

marked-right : (xs ys : List Bool) (j : ℕ) → marked (xs ++ ys) (length xs + j) ≡ marked ys j
marked-right [] ys j = ap (marked ys) (omega arith)
marked-right (x ∷ xs) ys j = (let e : length (x ∷ xs) + j ≡ suc (length xs + j) = omega arith in ap (marked ((x ∷ xs) ++ ys)) e ∙ marked-right xs ys j)

length-repeated : (n : ℕ) (x : List Bool) → length (repeated n x) ≡ n * length x
unfolding repeated
length-repeated zero x = omega arith
length-repeated (suc n) x = length-append (stacked (replicate n x)) x ∙ omega (arith, length-repeated n x)

-- an element of an array
pub element-marks : (n : ℕ) (x : List Bool) (q j : ℕ) → q < n → j < length x → marked (repeated n x) (q * length x + j) ≡ marked x j
unfolding repeated
element-marks zero x q j h g = absurd (omega arith)
element-marks (suc n) x q j h g = by (nat_lt q n) refl (λ less. element-marks n x q j less g)
  where
    long : length (stacked (replicate n x)) ≡ n * length x
    long = length-repeated n x

    by : (b : Bool) → nat_lt q n ≡ b → (q < n → marked (stacked (replicate n x)) (q * length x + j) ≡ marked x j)
        → marked (stacked (replicate n x) ++ x) (q * length x + j) ≡ marked x j
    by true is before =
        let less : q < n = grind (arith, nat_tests) in
        let fits = rows-fit q n (length x) (n * length x) less refl in
        marked-left (stacked (replicate n x)) x (q * length x + j) (omega (arith, long)) ∙ before less
    by false is before =
        let same : q ≡ n = grind (arith, nat_tests) in
        let place : q * length x + j ≡ length (stacked (replicate n x)) + j = omega (arith, long, ap (λ k. k * length x) same) in
        ap (marked (stacked (replicate n x) ++ x)) place ∙ marked-right (stacked (replicate n x)) x j

-- a member of a struct whose bits keep their own marks
pub member-marks : (ms : List Layout) (k : ℕ) (p : Part) (j : ℕ) → slice_get (above_the_next ms) k ≡ Some p → j < length p.two_state
    → marked (stacked_marks ms) (p.below + j) ≡ marked p.two_state j
member-marks [] k p j is h = absurd (cc)
member-marks (m ∷ ms) zero p j is h =
    let same : record { below = length (stacked_marks ms); two_state = m.two_state; signed = m.signed } ≡ p = some-same _ p is in
    ap (λ (q : Part). marked (stacked_marks ms ++ m.two_state) (q.below + j)) (sym same) ∙ marked-right (stacked_marks ms) m.two_state j ∙ ap (λ (q : Part). marked q.two_state j) same
  where
    some-same : (x y : Part) → Some x ≡ Some y → x ≡ y
    some-same x y e = cc
member-marks (m ∷ ms) (suc k) p j is h =
    marked-left (stacked_marks ms) m.two_state (p.below + j) (member-below ms k p j is h) ∙ member-marks ms k p j is h
  where
    member-below : (ls : List Layout) (i : ℕ) (q : Part) (x : ℕ) → slice_get (above_the_next ls) i ≡ Some q → x < length q.two_state → q.below + x < length (stacked_marks ls)
    member-below [] i q x e less = absurd (cc)
    member-below (l ∷ ls) zero q x e less =
        let same : record { below = length (stacked_marks ls); two_state = l.two_state; signed = l.signed } ≡ q = some-same _ q e in
        let below : q.below ≡ length (stacked_marks ls) = sym (ap (λ (r : Part). r.below) same) in
        let wide : length q.two_state ≡ length l.two_state = sym (ap (λ (r : Part). length r.two_state) same) in
        (let all = length-append (stacked_marks ls) l.two_state in omega arith)
      where
        some-same : (u v : Part) → Some u ≡ Some v → u ≡ v
        some-same u v f = cc
    member-below (l ∷ ls) (suc i) q x e less = (let rest = member-below ls i q x e less in let all = length-append (stacked_marks ls) l.two_state in omega arith)

-- types whose bits are all two-state or none: what is marked anywhere is marked everywhere
pub whole-marks : (bits : List Bool) (j i : ℕ) → i < length bits → marked (as_a_whole bits) j ≡ true → marked bits i ≡ true
unfolding as_a_whole
whole-marks bits j i h mark = by (list_all (λ b. b) bits) refl mark
  where
    none : (bs : List Bool) (k : ℕ) → marked (map (λ b. false) bs) k ≡ false
    none [] k = refl
    none (b ∷ bs) zero = refl
    none (b ∷ bs) (suc k) = none bs k

    every : (bs : List Bool) (k : ℕ) → list_all (λ b. b) bs ≡ true → k < length bs → marked bs k ≡ true
    every [] k all less = absurd (omega arith)
    every (true ∷ bs) zero all less = refl
    every (false ∷ bs) zero all less = absurd (true≢false (sym all))
    every (true ∷ bs) (suc k) all less = every bs k all (omega arith)
    every (false ∷ bs) (suc k) all less = absurd (true≢false (sym all))

    by : (b : Bool) → list_all (λ b. b) bits ≡ b → marked (cond b bits (map (λ b. false) bits)) j ≡ true → marked bits i ≡ true
    by true all m = every bits i all h
    by false all m = absurd (true≢false (sym m ∙ none bits j))
