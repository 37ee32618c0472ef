-- Numbers of scopes are written at tokens.
use Rattle.std.proofs.Common.{◌≡◌, ◌≢◌, ℕ, zero, suc, ◌+◌, ◌-◌, ◌<◌, ◌≤◌, ◌⊎◌, inl, inr, Bool, true, false, ◌&&◌, nat_eq, nat_le, nat_lt, cond, min, List, [], ◌∷◌, ◌++◌, length, get_or, refl, sym, ap, ◌∙◌, arith}
use Rattle.std.proofs.Math.ListN.{set}
use Rattle.std.proofs.lemmas.Bool.Decides.{nat_tests}
use Rattle.std.proofs.lemmas.Grind.{get_or-set_at}
use Rattle.std.proofs.lemmas.List.{get_or-set_other}

pub zeros-push : (xs : List ℕ) → ((q : ℕ) → get_or xs q 0 ≡ 0) → (q : ℕ) → get_or (xs ++ 0 ∷ []) q 0 ≡ 0
zeros-push [] z zero = refl
zeros-push [] z (suc q) = refl
zeros-push (x ∷ xs) z zero = z 0
zeros-push (x ∷ xs) z (suc q) = zeros-push xs (λ n. z (suc n)) q

-- the tokens from one to before another have a number, the others what they had
abbrev pub Painted : ℕ → ℕ → ℕ → List ℕ → List ℕ → Type 0
Painted first to number before after = (q : ℕ) → q < length before → get_or after q 0 ≡ cond (nat_le first q && nat_lt q to) number (get_or before q 0)

true_or_false : (b : Bool) → (b ≡ true) ⊎ (b ≡ false)
true_or_false true = inl refl
true_or_false false = inr refl

pub paint-step : (first at number : ℕ) (before after : List ℕ) → first ≤ at → at < length after → Painted first at number before after → Painted first (at + 1) number before (set after at number)
paint-step first at number before after behind within so_far q inside = elim (true_or_false (nat_eq q at)) [
  | inl h ↦ (let same : q ≡ at = grind (arith, nat_tests, h) in
      let test : (nat_le first q && nat_lt q (at + 1)) ≡ true = grind (arith, nat_tests, same, behind) in
      get_or-set_at after at q number 0 same within ∙ sym (ap (λ b. cond b number (get_or before q 0)) test))
  | inr h ↦ (let other : q ≢ at = λ e. (let b : nat_eq q at ≡ true = grind (arith, nat_tests, e) in cc) in
      let test : nat_lt q at ≡ nat_lt q (at + 1) = grind (arith, nat_tests, other) in
      get_or-set_other after at q number 0 other ∙ so_far q inside ∙ ap (λ b. cond (nat_le first q && b) number (get_or before q 0)) test)
]

-- nothing is written at first
pub paint-none : (first number : ℕ) (xs : List ℕ) → Painted first first number xs xs
paint-none first number xs q inside =
    let test : (nat_le first q && nat_lt q first) ≡ false = grind (arith, nat_tests) in
    sym (ap (λ b. cond b number (get_or xs q 0)) test)

-- all tokens of a scope are written at the end
pub paint-end : (first last token end number : ℕ) (before after : List ℕ) → end ≡ min (last + 1) (length before) → first ≤ token → token ≤ first + (end - first) → end ≤ token
    → Painted first token number before after → (q : ℕ) → q < length before → get_or after q 0 ≡ cond (nat_le first q && nat_le q last) number (get_or before q 0)
paint-end first last token end number before after is_end behind most ended painted q inside =
    painted q inside ∙ ap (λ b. cond b number (get_or before q 0)) (by_first (true_or_false (nat_le first q)))
  where
    within : first ≤ q → nat_lt q token ≡ nat_le q last
    within h = grind (arith, nat_tests, h, is_end, behind, most, ended, inside)

    by_first : (nat_le first q ≡ true) ⊎ (nat_le first q ≡ false) → (nat_le first q && nat_lt q token) ≡ (nat_le first q && nat_le q last)
    by_first (inl h) = (let from : first ≤ q = grind (arith, nat_tests, h) in ap (λ b. nat_le first q && b) (within from))
    by_first (inr h) = ap (λ b. b && nat_lt q token) h ∙ sym (ap (λ b. b && nat_le q last) h)
