-- What select paths read.
use Rattle.std.proofs.Common.{◌≡◌, ℕ, zero, suc, ◌+◌, ◌∷◌, [], ◌++◌, refl, arith, ap, ◌∙◌}
use Rattle.picks.specs.Windows.{tabulated}

pub tabulated-more : {A : Type 0} (n : ℕ) (f : ℕ → A) → tabulated (n + 1) f ≡ tabulated n f ++ f n ∷ []
tabulated-more zero f = refl
tabulated-more (suc n) f =
    let e : suc n + 1 ≡ suc (n + 1) = omega arith in
    ap (λ k. tabulated k f) e ∙ ap (λ xs. f 0 ∷ xs) (tabulated-more n (λ k. f (suc k)))

pub ruleset reading = (tabulated-more)
