-- Vectors that are there often.
use Rattle.std.proofs.Common.{◌≡◌, ℕ, zero, suc, ◌+◌, List, ◌++◌, arith, ap, sym, ◌∙◌}
use Rattle.std.proofs.Common.{append_assoc}
use Rattle.std.proofs.lemmas.List.{append-nil}
use Rattle.v_meaning.specs.Values.{often}

often-behind : {A : Type 0} (n : ℕ) (xs : List A) → often n xs ++ xs ≡ xs ++ often n xs
often-behind zero xs = sym (append-nil xs)
often-behind (suc n) xs = append_assoc xs (often n xs) xs ∙ ap (λ ys. xs ++ ys) (often-behind n xs)

pub often-more : {A : Type 0} (n : ℕ) (xs : List A) → often (n + 1) xs ≡ often n xs ++ xs
often-more n xs = let e : n + 1 ≡ suc n = omega arith in ap (λ k. often k xs) e ∙ sym (often-behind n xs)

pub ruleset pieces = (often-more)
