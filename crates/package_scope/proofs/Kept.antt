-- What is kept beside a table, one more thing at a time.
use Rattle.std.proofs.Common.{◌≡◌, ℕ, suc, ◌+◌, ◌<◌, ◌≤◌, ◌⊎◌, inl, inr, Bool, true, false, nat_eq, if◌then◌else◌, List, [], ◌∷◌, ◌++◌, length, drop, get_or, Option, Some, None, refl, sym, ap, ◌∙◌, append_assoc, arith}
use Rattle.std.specs.Prelude.{filter, flat_map}
use Rattle.std.proofs.lemmas.Bool.Decides.{nat_tests}
use Rattle.std.proofs.lemmas.List.{drop_more, drop_all}
use Rattle.sv_source.specs.declared.token.Token.{Token}
use Rattle.package_scope.specs.Finding.{use_found, found_at, put_found, declared_at, numbered_at, is_loop_of, with_loop}
use Rattle.package_scope.specs.Rules.{finds, use_or, use_at, declaration_of, number_at}
use Rattle.package_scope.specs.declared.table.Declaration.{Declaration}
use Rattle.package_scope.specs.declared.table.Found.{Found}
use Rattle.package_scope.specs.declared.table.LoopRun.{LoopRun}
use Rattle.package_scope.specs.declared.table.Table.{Table}
use Rattle.package_scope.specs.declared.table.Use.{Use}

true_or_false : (b : Bool) → (b ≡ true) ⊎ (b ≡ false)
true_or_false true = inl refl
true_or_false false = inr refl

-- one more use before others
put-one : (ts : List Token) (t : Table) (o : Option Use) (u : Use) (b : Bool)
    → (if b then Some (finds ts t u) else use_found ts t o) ≡ use_found ts t (use_or b u o)
put-one ts t o u true = refl
put-one ts t o u false = refl

pub found-put : (ts : List Token) (t : Table) (before after : ℕ → Option Found) (us : List Use) (at k : ℕ) (d : Use) (f : Found) → k + 1 ≡ at → k < length us
    → f ≡ finds ts t (get_or us k d) → after ≡ put_found before (get_or us k d).at f → ((q : ℕ) → before q ≡ found_at ts t (drop at us) q) → (q : ℕ) → after q ≡ found_at ts t (drop k us) q
found-put ts t before after us at k d f next within finds_it put so_far q =
    let rest : drop k us ≡ get_or us k d ∷ drop (k + 1) us = drop_more us k d within in
    ap (λ (g : ℕ → Option Found). g q) put
    ∙ ap (λ x. if nat_eq (get_or us k d).at q then Some x else before q) finds_it
    ∙ ap (λ o. if nat_eq (get_or us k d).at q then Some (finds ts t (get_or us k d)) else o) (so_far q ∙ ap (λ n. found_at ts t (drop n us) q) (sym next))
    ∙ put-one ts t (use_at q (drop (k + 1) us)) (get_or us k d) (nat_eq (get_or us k d).at q)
    ∙ ap (λ xs. found_at ts t xs q) (sym rest)

pub found-none : (ts : List Token) (t : Table) (us : List Use) (q : ℕ) → None ≡ found_at ts t (drop (length us) us) q
found-none ts t us q = ap (λ xs. found_at ts t xs q) (sym (drop_all (length us) us (omega arith)))

-- what is found is what the use at the token finds
pub declared-found : (ts : List Token) (t : Table) (o : Option Use) → declared_at t (use_found ts t o) ≡ declaration_of ts t o
declared-found ts t None = refl
declared-found ts t (Some u) = refl

pub numbered-found : (ts : List Token) (t : Table) (o : Option Use) → numbered_at (use_found ts t o) ≡ number_at ts t o
numbered-found ts t None = refl
numbered-found ts t (Some u) = refl

-- one more loop behind those of its scope
loop-by : (before : ℕ → List LoopRun) (rest : List LoopRun) (l : LoopRun) (s : ℕ) → (nat_eq l.scope s ≡ true) ⊎ (nat_eq l.scope s ≡ false)
    → with_loop before l s ++ filter (is_loop_of s) rest ≡ before s ++ filter (is_loop_of s) (l ∷ rest)
loop-by before rest l s (inl h) =
    let same : l.scope ≡ s = grind (arith, nat_tests, h) in
    ap (λ b. (if b then before l.scope ++ l ∷ [] else before s) ++ filter (is_loop_of s) rest) h
    ∙ ap (λ n. (before n ++ l ∷ []) ++ filter (is_loop_of s) rest) same
    ∙ append_assoc (before s) (l ∷ []) (filter (is_loop_of s) rest)
    ∙ sym (ap (λ b. before s ++ (if b then l ∷ filter (is_loop_of s) rest else filter (is_loop_of s) rest)) h)
loop-by before rest l s (inr h) =
    ap (λ b. (if b then before l.scope ++ l ∷ [] else before s) ++ filter (is_loop_of s) rest) h
    ∙ sym (ap (λ b. before s ++ (if b then l ∷ filter (is_loop_of s) rest else filter (is_loop_of s) rest)) h)

pub loop-push : (before after : ℕ → List LoopRun) (ls : List LoopRun) (k : ℕ) (d : LoopRun) → k < length ls → after ≡ with_loop before (get_or ls k d)
    → ((s : ℕ) → before s ++ filter (is_loop_of s) (drop k ls) ≡ filter (is_loop_of s) ls) → (s : ℕ) → after s ++ filter (is_loop_of s) (drop (k + 1) ls) ≡ filter (is_loop_of s) ls
loop-push before after ls k d within put so_far s =
    ap (λ (f : ℕ → List LoopRun). f s ++ filter (is_loop_of s) (drop (k + 1) ls)) put
    ∙ loop-by before (drop (k + 1) ls) (get_or ls k d) s (true_or_false (nat_eq (get_or ls k d).scope s))
    ∙ ap (λ xs. before s ++ filter (is_loop_of s) xs) (sym (drop_more ls k d within))
    ∙ so_far s

-- one more thing of each use
pub add-more : {A B : Type 0} (f : A → List B) (xs : List A) (k : ℕ) (d : A) (before after : List B) → k < length xs → after ≡ before ++ f (get_or xs k d)
    → after ++ flat_map f (drop (k + 1) xs) ≡ before ++ flat_map f (drop k xs)
add-more f xs k d before after within added =
    ap (λ ys. ys ++ flat_map f (drop (k + 1) xs)) added
    ∙ append_assoc before (f (get_or xs k d)) (flat_map f (drop (k + 1) xs))
    ∙ ap (λ ys. before ++ flat_map f ys) (sym (drop_more xs k d within))

pub ruleset finding = (declared-found)

pub ruleset numbering = (numbered-found)
