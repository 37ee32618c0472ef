-- Writes into vectors and slots.
use Rattle.std.proofs.Common.{◌≡◌, ℕ, zero, suc, ◌+◌, ◌-◌, ◌<◌, ◌≤◌, ◌==◌, ◌&&◌, Bool, true, false, cond, List, [], ◌∷◌, ◌++◌, length, replicate, get_or, set, Option, Some, None, max, refl, arith, ap, sym, ◌∙◌, subst}
use Rattle.std.specs.Prelude.{nat_le, nat_lt, slice_index_or, is_some}
use Rattle.std.proofs.lemmas.List.{length-append, length-replicate, get_or-set_other}
use Rattle.std.proofs.lemmas.Grind.{get_or-set_at}
use Rattle.std.proofs.lemmas.Bool.Decides.{nat_tests}
use Rattle.b4_core.specs.declared.bit.Bit4.{Bit4}
use Rattle.b4_core.specs.declared.bit.Bit4.TheVariants.{X}
use Rattle.eval_parts.specs.Surroundings.{held_bit}
use Rattle.eval_store.specs.Writes.{Longer}

only-x : (n k : ℕ) → get_or (replicate n X) k X ≡ X
only-x zero k = refl
only-x (suc n) zero = refl
only-x (suc n) (suc k) = only-x n k

-- x behind a vector changes no bit
pub same-grown : (v : List Bit4) (n k : ℕ) → get_or (v ++ replicate n X) k X ≡ get_or v k X
same-grown [] n k = only-x n k
same-grown (b ∷ v) n zero = refl
same-grown (b ∷ v) n (suc k) = same-grown v n k

pub longer-none : (count : ℕ) (u v : List Bit4) → u ≡ [] → v ≡ u ++ replicate (count - length u) X → Longer None count v
longer-none count u v none is = record {
  long = omega (arith, ap length is, length-append u (replicate (count - length u) X), length-replicate (count - length u) X);
  same = λ k. ap (λ xs. get_or xs k X) (is ∙ ap (λ w. w ++ replicate (count - length w) X) none) ∙ same-grown [] (count - length {A = Bit4} []) k;
}

pub longer-some : (count : ℕ) (u v : List Bit4) → v ≡ u ++ replicate (count - length u) X → Longer (Some u) count v
longer-some count u v is = record {
  long = omega (arith, ap length is, length-append u (replicate (count - length u) X), length-replicate (count - length u) X);
  same = λ k. ap (λ xs. get_or xs k X) is ∙ same-grown u (count - length u) k;
}

-- bit by bit
abbrev between : ℕ → ℕ → ℕ → Bool
between low k j = nat_le low j && nat_lt j k

nothing-yet : (low j : ℕ) → between low low j ≡ false
nothing-yet low j = by (nat_le low j) refl
  where
    by : (b : Bool) → nat_le low j ≡ b → between low low j ≡ false
    by true is = ap (λ c. c && nat_lt j low) is ∙ grind (arith, nat_tests)
    by false is = ap (λ c. c && nat_lt j low) is

pub bits-first : (low j : ℕ) (new old : Bit4) → old ≡ cond (between low low j) new old
bits-first low j new old = sym (ap (λ c. cond c new old) (nothing-yet low j))

bit-here : (low k j : ℕ) → j ≡ k → low ≤ k → between low (k + 1) j ≡ true
bit-here low k j is h =
    let below : nat_le low j ≡ true = grind (arith, nat_tests) in
    let above : nat_lt j (k + 1) ≡ true = grind (arith, nat_tests) in
    ap (λ c. c && nat_lt j (k + 1)) below ∙ above

lt-next : (j k : ℕ) → (j == k) ≡ false → nat_lt j k ≡ nat_lt j (k + 1)
lt-next j k other = by (nat_lt j k) refl
  where
    by : (b : Bool) → nat_lt j k ≡ b → nat_lt j k ≡ nat_lt j (k + 1)
    by true is = let g : nat_lt j (k + 1) ≡ true = grind (arith, nat_tests) in is ∙ sym g
    by false is = let g : nat_lt j (k + 1) ≡ false = grind (arith, nat_tests) in is ∙ sym g

pub bits-next : (low k j : ℕ) (held : List Bit4) (b : Bit4) (new : ℕ → Bit4) (old : Bit4) → low ≤ k → k < length held → b ≡ new k → get_or held j X ≡ cond (between low k j) (new j) old
    → get_or (set held k b) j X ≡ cond (between low (k + 1) j) (new j) old
bits-next low k j held b new old h inside is before = by (j == k) refl
  where
    by : (c : Bool) → (j == k) ≡ c → get_or (set held k b) j X ≡ cond (between low (k + 1) j) (new j) old
    by true same =
        let e : j ≡ k = grind (arith, nat_tests) in
        get_or-set_at held k j b X e inside ∙ is ∙ ap new (sym e) ∙ sym (ap (λ q. cond q (new j) old) (bit-here low k j e h))
    by false other =
        let e : (j ≡ k → ⊥) = λ same. (let g : (j == k) ≡ true = grind (arith, nat_tests) in let f : true ≡ false = sym g ∙ other in absurd (cc)) in
        get_or-set_other held k j b X e ∙ before ∙ ap (λ q. cond (nat_le low j && q) (new j) old) (lt-next j k other)

-- the bits up to the end
pub bits-last : (low k high j : ℕ) → high ≤ k → k ≤ max low high → between low k j ≡ between low high j
bits-last low k high j h most = by (nat_le low j) (nat_lt j high) refl refl
  where
    by : (b c : Bool) → nat_le low j ≡ b → nat_lt j high ≡ c → between low k j ≡ between low high j
    by false c is also = ap (λ q. q && nat_lt j k) is ∙ sym (ap (λ q. q && nat_lt j high) is)
    by true true is also = let g : nat_lt j k ≡ true = grind (arith, nat_tests) in ap (λ q. nat_le low j && q) (g ∙ sym also)
    by true false is also =
        let above : high ≤ j = grind (arith, nat_tests) in
        let from : low ≤ j = grind (arith, nat_tests) in
        let past : k ≤ j = omega (arith, most) in
        let g : nat_lt j k ≡ false = grind (arith, nat_tests) in
        ap (λ q. nat_le low j && q) (g ∙ sym also)
