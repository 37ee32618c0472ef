-- The directory of a path, byte by byte from its end.
use Rattle.std.proofs.Common.{◌≡◌, ℕ, ◌+◌, ◌-◌, ◌≤◌, ◌==◌, Bool, true, false, cond, ◌||◌, List, [], ◌∷◌, ◌++◌, length, take, get_or, refl, sym, ap, ◌∙◌, arith}
use Rattle.std.proofs.lemmas.List.{take_more, take_all}
use Rattle.std.specs.List.{list_any}
use Rattle.std.proofs.lemmas.Bool.Decides.{nat_tests}
use Rattle.sv_macro.specs.Including.{directory_of}

any_more : (test : ℕ → Bool) (xs : List ℕ) (c : ℕ) → list_any test (xs ++ c ∷ []) ≡ (list_any test xs || test c)
any_more test [] c = or_false (test c)
  where
    or_false : (b : Bool) → (b || false) ≡ b
    or_false true = refl
    or_false false = refl
any_more test (x ∷ xs) c = ap (λ b. test x || b) (any_more test xs c) ∙ or_assoc (test x) (list_any test xs) (test c)
  where
    or_assoc : (a b c : Bool) → (a || (b || c)) ≡ ((a || b) || c)
    or_assoc true b c = refl
    or_assoc false b c = refl

or_no : (a b : Bool) → b ≡ false → (a || b) ≡ a
or_no true b e = refl
or_no false b e = e

or_yes : (a b : Bool) → b ≡ true → (a || b) ≡ true
or_yes true b e = refl
or_yes false b e = e

picked : (a b : Bool) (x y z : List ℕ) → a ≡ b → y ≡ z → (cond a (x ++ y) []) ≡ (cond b (x ++ z) [])
picked a b x y z e f = rw (e, f) refl

picked_true : (a : Bool) (x : List ℕ) → a ≡ true → (cond a x []) ≡ x
picked_true a x e = rw e refl

-- a last byte that is no slash belongs to no directory
pub directory_more : (path front : List ℕ) (c : ℕ) → path ≡ front ++ c ∷ [] → c == 47 ≡ false → directory_of path ≡ directory_of front
directory_more path front c split other = ap directory_of split ∙ at_front front
  where
    at_front : (front : List ℕ) → directory_of (front ++ c ∷ []) ≡ directory_of front
    at_front [] = rw other refl
    at_front (x ∷ xs) = picked _ _ (x ∷ []) _ _ (any_more (λ b. b == 47) (x ∷ xs) c ∙ or_no _ _ other) (at_front xs)

-- a path that ends in a slash is a directory
pub directory_whole : (path front : List ℕ) (c : ℕ) → path ≡ front ++ c ∷ [] → c == 47 ≡ true → directory_of path ≡ path
directory_whole path front c split slash = ap directory_of split ∙ at_front front ∙ sym split
  where
    at_front : (front : List ℕ) → directory_of (front ++ c ∷ []) ≡ front ++ c ∷ []
    at_front [] = rw slash refl
    at_front (x ∷ xs) = picked_true _ _ (any_more (λ b. b == 47) (x ∷ xs) c ∙ or_yes _ _ slash) ∙ ap (λ ys. x ∷ ys) (at_front xs)

-- a path is all but its last byte, and that byte
last_apart : (path : List ℕ) → 1 ≤ length path → path ≡ take (length path - 1) path ++ get_or path (length path - 1) 0 ∷ []
last_apart path some =
    let n : length path - 1 + 1 ≡ length path = omega arith in
    let whole : take (length path) path ≡ path = take_all (length path) path (omega arith) in
    sym whole ∙ ap (λ k. take k path) (sym n) ∙ take_more path (length path - 1) 0 (omega arith)

-- the same by the last byte of the path
pub shorter_directory : (path : List ℕ) → 1 ≤ length path → (get_or path (length path - 1) 0 ≡ 47 → ⊥) → directory_of (take (length path - 1) path) ≡ directory_of path
shorter_directory path some other =
    let test : get_or path (length path - 1) 0 == 47 ≡ false = grind (arith, nat_tests) in
    sym (directory_more path _ _ (last_apart path some) test)

pub whole_directory : (path : List ℕ) → 1 ≤ length path → get_or path (length path - 1) 0 ≡ 47 → directory_of path ≡ path
whole_directory path some slash =
    let test : get_or path (length path - 1) 0 == 47 ≡ true = grind (arith, nat_tests) in
    directory_whole path _ _ (last_apart path some) test
