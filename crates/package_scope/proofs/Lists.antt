-- One more import of all names behind those of its scope.
use Rattle.std.proofs.Common.{◌≡◌, ℕ, ◌+◌, ◌<◌, ◌⊎◌, inl, inr, Bool, true, false, nat_eq, if◌then◌else◌, List, [], ◌∷◌, ◌++◌, length, drop, get_or, refl, sym, ap, ◌∙◌, append_assoc, arith}
use Rattle.std.specs.Prelude.{filter}
use Rattle.std.proofs.lemmas.Bool.Decides.{nat_tests}
use Rattle.std.proofs.lemmas.List.{drop_more}
use Rattle.package_scope.specs.Index.{with_wildcard}
use Rattle.package_scope.specs.Lookup.{stands_in}
use Rattle.package_scope.specs.declared.table.WildcardImport.{WildcardImport}

true_or_false : (b : Bool) → (b ≡ true) ⊎ (b ≡ false)
true_or_false true = inl refl
true_or_false false = inr refl

pub wildcard-push : (before after : ℕ → List WildcardImport) (is : List WildcardImport) (k : ℕ) (i : WildcardImport) → k < length is → i ≡ get_or is k i → after ≡ with_wildcard before i
    → ((s : ℕ) → before s ++ filter (stands_in s) (drop k is) ≡ filter (stands_in s) is) → (s : ℕ) → after s ++ filter (stands_in s) (drop (k + 1) is) ≡ filter (stands_in s) is
wildcard-push before after is k i within at_k put so_far s =
    let rest : drop k is ≡ i ∷ drop (k + 1) is = drop_more is k i within ∙ ap (λ x. x ∷ drop (k + 1) is) (sym at_k) in
    ap (λ (f : ℕ → List WildcardImport). f s ++ filter (stands_in s) (drop (k + 1) is)) put
    ∙ by_scope (true_or_false (nat_eq i.scope s))
    ∙ ap (λ xs. before s ++ filter (stands_in s) xs) (sym rest)
    ∙ so_far s
  where
    by_scope : (nat_eq i.scope s ≡ true) ⊎ (nat_eq i.scope s ≡ false)
        → with_wildcard before i s ++ filter (stands_in s) (drop (k + 1) is) ≡ before s ++ filter (stands_in s) (i ∷ drop (k + 1) is)
    by_scope (inl h) =
        let same : i.scope ≡ s = grind (arith, nat_tests, h) in
        ap (λ b. (if b then before i.scope ++ i ∷ [] else before s) ++ filter (stands_in s) (drop (k + 1) is)) h
        ∙ ap (λ n. (before n ++ i ∷ []) ++ filter (stands_in s) (drop (k + 1) is)) same
        ∙ append_assoc (before s) (i ∷ []) (filter (stands_in s) (drop (k + 1) is))
        ∙ sym (ap (λ b. before s ++ (if b then i ∷ filter (stands_in s) (drop (k + 1) is) else filter (stands_in s) (drop (k + 1) is))) h)
    by_scope (inr h) =
        ap (λ b. (if b then before i.scope ++ i ∷ [] else before s) ++ filter (stands_in s) (drop (k + 1) is)) h
        ∙ sym (ap (λ b. before s ++ (if b then i ∷ filter (stands_in s) (drop (k + 1) is) else filter (stands_in s) (drop (k + 1) is))) h)
