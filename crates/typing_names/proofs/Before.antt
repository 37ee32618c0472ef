-- How many declarations stand before a token, by how many stand at each.
use Rattle.std.proofs.Common.{◌≡◌, ◌≢◌, ℕ, zero, suc, ◌+◌, ◌<◌, ◌≤◌, ◌⊎◌, inl, inr, Bool, true, false, nat_eq, nat_lt, if◌then◌else◌, cond, List, [], ◌∷◌, ◌++◌, length, drop, get_or, drop-cons, refl, sym, ap, ◌∙◌, arith}
use Rattle.std.specs.Prelude.{filter}
use Rattle.std.proofs.Math.ListN.{set}
use Rattle.std.proofs.Math.Numerals.{add-one}
use Rattle.std.proofs.lemmas.Bool.Decides.{nat_tests}
use Rattle.std.proofs.lemmas.Grind.{get_or-set_at}
use Rattle.std.proofs.lemmas.List.{get_or-set_other}
use Rattle.package_scope.specs.declared.table.Declaration.{Declaration}
use Rattle.package_scope.specs.declared.table.Table.{Table}
use Rattle.sv_tree.specs.declared.units.SourceTree.{SourceTree}
use Rattle.frame_texts.specs.Frames.{number_from}
use Rattle.typing_names.specs.Counts.{CountsMore, at_token, before_token}

-- a list with one more that passes a test
abbrev pub one_if : Bool → ℕ
one_if b = cond b 1 0

filter-step : {T : Type 0} (x : T) (b : Bool) (xs : List T) → length (if b then x ∷ xs else xs) ≡ one_if b + length xs
filter-step x true xs = omega arith
filter-step x false xs = omega arith

true_or_false : (b : Bool) → (b ≡ true) ⊎ (b ≡ false)
true_or_false true = inl refl
true_or_false false = inr refl

-- a declaration stands before the next token where it stands before this one or at it
before-or-at : (at q : ℕ) → one_if (nat_lt at (suc q)) ≡ one_if (nat_lt at q) + one_if (nat_eq at q)
before-or-at at q = by_test (true_or_false (nat_lt at q)) (true_or_false (nat_eq at q))
  where
    by_test : (nat_lt at q ≡ true) ⊎ (nat_lt at q ≡ false) → (nat_eq at q ≡ true) ⊎ (nat_eq at q ≡ false) → one_if (nat_lt at (suc q)) ≡ one_if (nat_lt at q) + one_if (nat_eq at q)
    by_test (inl h) (inl e) = (let no : ⊥ = grind (arith, nat_tests, h, e) in absurd no)
    by_test (inl h) (inr e) = (let next : nat_lt at (suc q) ≡ true = grind (arith, nat_tests, h) in ap one_if next ∙ sym (ap (λ b. one_if b + one_if (nat_eq at q)) h ∙ ap (λ b. 1 + one_if b) e))
    by_test (inr h) (inl e) = (let next : nat_lt at (suc q) ≡ true = grind (arith, nat_tests, e) in ap one_if next ∙ sym (ap (λ b. one_if b + one_if (nat_eq at q)) h ∙ ap (λ b. 0 + one_if b) e))
    by_test (inr h) (inr e) = (let next : nat_lt at (suc q) ≡ false = grind (arith, nat_tests, h, e) in ap one_if next ∙ sym (ap (λ b. one_if b + one_if (nat_eq at q)) h ∙ ap (λ b. 0 + one_if b) e))

pub before-next : (q : ℕ) (ds : List Declaration) → before_token (suc q) ds ≡ before_token q ds + at_token q ds
before-next q [] = refl
before-next q (d ∷ ds) =
    let later = before-next q ds in
    let one = before-or-at d.at q in
    let next = filter-step d (nat_lt d.at (suc q)) (filter (λ (d : Declaration). nat_lt d.at (suc q)) ds) in
    let here = filter-step d (nat_lt d.at q) (filter (λ (d : Declaration). nat_lt d.at q) ds) in
    let at = filter-step d (nat_eq d.at q) (filter (λ (d : Declaration). nat_eq d.at q) ds) in
    omega (arith, later, one, next, here, at)

-- the declarations from a place on
pub at-from : (q i : ℕ) (ds : List Declaration) (d : Declaration) → i < length ds → d ≡ get_or ds i d
    → at_token q (drop i ds) ≡ one_if (nat_eq d.at q) + at_token q (drop (i + 1) ds)
at-from q i ds d h e =
    let item = get_or ds i d in
    ap (λ (xs : List Declaration). at_token q xs) (drop-cons ds i d h)
    ∙ filter-step item (nat_eq item.at q) (filter (λ (x : Declaration). nat_eq x.at q) (drop (suc i) ds))
    ∙ ap (λ (x : Declaration). one_if (nat_eq x.at q) + at_token q (drop (suc i) ds)) (sym e)
    ∙ ap (λ (n : ℕ). one_if (nat_eq d.at q) + at_token q (drop n ds)) (sym (add-one i))

pub before-from : (q i : ℕ) (ds : List Declaration) (d : Declaration) → i < length ds → d ≡ get_or ds i d
    → before_token q (drop i ds) ≡ one_if (nat_lt d.at q) + before_token q (drop (i + 1) ds)
before-from q i ds d h e =
    let item = get_or ds i d in
    ap (λ (xs : List Declaration). before_token q xs) (drop-cons ds i d h)
    ∙ filter-step item (nat_lt item.at q) (filter (λ (x : Declaration). nat_lt x.at q) (drop (suc i) ds))
    ∙ ap (λ (x : Declaration). one_if (nat_lt x.at q) + before_token q (drop (suc i) ds)) (sym e)
    ∙ ap (λ (n : ℕ). one_if (nat_lt d.at q) + before_token q (drop n ds)) (sym (add-one i))

-- one more at a token
pub counts-same : (token : ℕ) (xs : List ℕ) → length xs ≤ token → CountsMore token xs xs
counts-same token xs h q inside =
    let test : nat_eq token q ≡ false = grind (arith, nat_tests, h, inside) in
    let same : get_or xs q 0 + one_if (nat_eq token q) ≡ get_or xs q 0 + 0 = ap (λ b. get_or xs q 0 + one_if b) test in
    omega (arith, same)

pub counts-more : (token : ℕ) (xs : List ℕ) → token < length xs → CountsMore token xs (set xs token (get_or xs token 0 + 1))
counts-more token xs h q inside = elim (true_or_false (nat_eq q token)) [
  | inl e ↦ (let same : q ≡ token = grind (arith, nat_tests, e) in
      let test : nat_eq token q ≡ true = grind (arith, nat_tests, same) in
      get_or-set_at xs token q (get_or xs token 0 + 1) 0 same h ∙ ap (λ n. get_or xs n 0 + 1) (sym same) ∙ sym (ap (λ b. get_or xs q 0 + one_if b) test))
  | inr e ↦ (let other : q ≢ token = λ is. (let b : nat_eq q token ≡ true = grind (arith, nat_tests, is) in cc) in
      let test : nat_eq token q ≡ false = grind (arith, nat_tests, other) in
      let more : get_or xs q 0 + one_if (nat_eq token q) ≡ get_or xs q 0 + 0 = ap (λ b. get_or xs q 0 + one_if b) test in
      get_or-set_other xs token q (get_or xs token 0 + 1) 0 other ∙ omega (arith, more))
]

pub before-first : (ds : List Declaration) → before_token 0 ds ≡ 0
before-first [] = refl
before-first (d ∷ ds) =
    let here = filter-step d (nat_lt d.at 0) (filter (λ (x : Declaration). nat_lt x.at 0) ds) in
    let no : nat_lt d.at 0 ≡ false = grind (arith, nat_tests) in
    let none : one_if (nat_lt d.at 0) ≡ 0 = ap one_if no in
    omega (arith, here, none, before-first ds)

pub before-more : (q : ℕ) (ds : List Declaration) → before_token (q + 1) ds ≡ before_token q ds + at_token q ds
before-more q ds = ap (λ (n : ℕ). before_token n ds) (add-one q) ∙ before-next q ds

-- one more count in a row
at-end : (xs : List ℕ) (n q : ℕ) → q ≡ length xs → get_or (xs ++ n ∷ []) q 0 ≡ n
at-end [] n zero h = refl
at-end [] n (suc q) h = absurd (omega arith)
at-end (x ∷ xs) n zero h = absurd (omega arith)
at-end (x ∷ xs) n (suc q) h = at-end xs n q (omega arith)

before-end : (xs : List ℕ) (n q : ℕ) → q < length xs → get_or (xs ++ n ∷ []) q 0 ≡ get_or xs q 0
before-end [] n q h = absurd (omega arith)
before-end (x ∷ xs) n zero h = refl
before-end (x ∷ xs) n (suc q) h = before-end xs n q (omega arith)

pub row-more : (xs : List ℕ) (n t : ℕ) (ds : List Declaration) → length xs ≡ t → n ≡ before_token t ds → ((q : ℕ) → q < t → get_or xs q 0 ≡ before_token q ds)
    → (q : ℕ) → q < t + 1 → get_or (xs ++ n ∷ []) q 0 ≡ before_token q ds
row-more xs n t ds long is so_far q h = elim (true_or_false (nat_eq q t)) [
  | inl e ↦ (let same : q ≡ t = grind (arith, nat_tests, e) in at-end xs n q (omega arith) ∙ is ∙ ap (λ (m : ℕ). before_token m ds) (sym same))
  | inr e ↦ (let other : q ≢ t = λ is'. (let b : nat_eq q t ≡ true = grind (arith, nat_tests, is') in cc) in
      let less : q < t = omega arith in before-end xs n q (omega arith) ∙ so_far q less)
]

-- a declaration's number is none past the last one
cond-most : (b : Bool) (m n p : ℕ) → m ≤ p → n ≤ p → cond b m n ≤ p
cond-most true m n p l r = l
cond-most false m n p l r = r

number-most-from : (tree : SourceTree) (t : Table) (k q : ℕ) (ds : List Declaration) → number_from tree t k q ds ≤ k + length ds
number-most-from tree t k q [] = omega arith
number-most-from tree t k q (d ∷ ds) =
    cond-most (nat_eq d.at q) k (number_from tree t (suc k) q ds) (k + suc (length ds)) (omega arith) (omega (arith, number-most-from tree t (suc k) q ds))

pub number-most : (tree : SourceTree) (t : Table) (q : ℕ) (ds : List Declaration) → number_from tree t 0 q ds ≤ length ds
number-most tree t q ds = omega (arith, number-most-from tree t 0 q ds)

pub before-most : (q : ℕ) (ds : List Declaration) → before_token q ds ≤ length ds
before-most q [] = omega arith
before-most q (d ∷ ds) =
    omega (arith, before-most q ds, filter-step d (nat_lt d.at q) (filter (λ (d : Declaration). nat_lt d.at q) ds), cond-most (nat_lt d.at q) 1 0 1 (omega arith) (omega arith))
