-- What a text begins with, as the code asks for it.
use Rattle.std.proofs.Common.{◌≡◌, ◌≤◌, ◌<◌, ◌+◌, Bor, map, drop, get_or, drop-cons, add-one, Option, Some, None, length, sym, arith, ℕ, suc, Bool, true, false, cond, nat_eq, ◌==◌, ◌&&◌, List, [], ◌∷◌, find, refl, ap, ◌∙◌}
use Rattle.std.proofs.lemmas.List.{get_or-map}
use Rattle.std.specs.List.{starts_with, list_all}
use Rattle.std.specs.Str.{bytes_eq}
use Rattle.v_tree.specs.Names.{position}
use Rattle.v_tree.specs.Tokens.{begins}

pub starts_begins : (text bytes : List ℕ) → starts_with nat_eq text bytes ≡ begins bytes text
starts_begins [] [] = refl
starts_begins (c ∷ text) [] = refl
starts_begins [] (b ∷ bytes) = refl
starts_begins (c ∷ text) (b ∷ bytes) = λ i. (b == c) && starts_begins text bytes i

second : (a b : Bool) → (a && b) ≡ true → b ≡ true
second true b e = e
second false b e = absurd (apart e)
  where
    apart : false ≡ true → ⊥
    apart e = cc

-- a text that begins with another one isn't shorter
pub begun-within : (bytes text : List ℕ) → begins bytes text ≡ true → length bytes ≤ length text
begun-within [] text e = omega arith
begun-within (b ∷ bytes) [] e = absurd (apart e)
  where
    apart : false ≡ true → ⊥
    apart e = cc
begun-within (b ∷ bytes) (c ∷ text) e = let less = begun-within bytes text (second (b == c) (begins bytes text) e) in omega (arith, less)

found-step : (text m n : List ℕ) (b : Bool) (o : Option (List ℕ)) → begins m text ≡ b → (o ≡ Some n → begins n text ≡ true) → cond b (Some m) o ≡ Some n → begins n text ≡ true
found-step text m n true o e h same = ap (λ k. begins k text) (sym (some_same same)) ∙ e
  where
    some_same : {x y : List ℕ} → Some x ≡ Some y → x ≡ y
    some_same e = cc
found-step text m n false o e h same = h same

passes-step : (p : List ℕ → Bool) (m n : List ℕ) (b : Bool) (o : Option (List ℕ)) → p m ≡ true → (o ≡ Some n → p n ≡ true) → cond b (Some m) o ≡ Some n → p n ≡ true
passes-step p m n true o h k e = ap p (sym (same e)) ∙ h
  where
    same : {x y : List ℕ} → Some x ≡ Some y → x ≡ y
    same e = cc
passes-step p m n false o h k e = k e

first : (a b : Bool) → (a && b) ≡ true → a ≡ true
first true b e = refl
first false b e = e

-- what is found passes each test that all pass
pub found-passes : (test p : List ℕ → Bool) (n : List ℕ) (ws : List (List ℕ)) → list_all p ws ≡ true → find test ws ≡ Some n → p n ≡ true
found-passes test p n [] all e = absurd (apart e)
  where
    apart : {x : List ℕ} → None ≡ Some x → ⊥
    apart e = cc
found-passes test p n (m ∷ ws) all e = passes-step p m n (test m) (find test ws) (first (p m) (list_all p ws) all) (found-passes test p n ws (second (p m) (list_all p ws) all)) e

-- the text begins with what is found
pub found-begins : (text n : List ℕ) (ws : List (List ℕ)) → find (λ m. begins m text) ws ≡ Some n → begins n text ≡ true
found-begins text n [] e = absurd (apart e)
  where
    apart : {x : List ℕ} → None ≡ Some x → ⊥
    apart e = cc
found-begins text n (m ∷ ws) e = found-step text m n (begins m text) (find (λ m. begins m text) ws) refl (found-begins text n ws) e

-- a step of a loop over words: this one isn't the text
pub position-goes : (ws : List (Bor (List ℕ))) (text : List ℕ) (at whole : ℕ) (d : Bor (List ℕ)) → at < length ws → bytes_eq (get_or ws at d).now text ≡ false
    → at + position (map (λ w. w.now) (drop at ws)) text ≡ whole → at + 1 + position (map (λ w. w.now) (drop (at + 1) ws)) text ≡ whole
position-goes ws text at whole d within other so_far =
    let next : drop at ws ≡ get_or ws at d ∷ drop (at + 1) ws = rw (add-one, drop-cons ws at d within) in
    let here : position (map (λ w. w.now) (drop at ws)) text ≡ suc (position (map (λ w. w.now) (drop (at + 1) ws)) text) =
    ap (λ xs. position (map (λ w. w.now) xs) text) next ∙ ap (λ b. cond b 0 (suc (position (map (λ w. w.now) (drop (at + 1) ws)) text))) other in
    omega (arith, here, so_far)

-- this one is
pub position-stops : (ws : List (Bor (List ℕ))) (text : List ℕ) (at whole : ℕ) (d : Bor (List ℕ)) → at < length ws → bytes_eq (get_or ws at d).now text ≡ true
    → at + position (map (λ w. w.now) (drop at ws)) text ≡ whole → at ≡ whole
position-stops ws text at whole d within same so_far =
    let next : drop at ws ≡ get_or ws at d ∷ drop (at + 1) ws = rw (add-one, drop-cons ws at d within) in
    let here : position (map (λ w. w.now) (drop at ws)) text ≡ 0 =
    ap (λ xs. position (map (λ w. w.now) xs) text) next ∙ ap (λ b. cond b 0 (suc (position (map (λ w. w.now) (drop (at + 1) ws)) text))) same in
    omega (arith, here, so_far)

-- a step of a loop that looks for a word
pub find-goes : (ws : List (Bor (List ℕ))) (test : List ℕ → Bool) (at : ℕ) (whole : Option (List ℕ)) (d : Bor (List ℕ)) → at < length ws → test (get_or ws at d).now ≡ false
    → find test (map (λ w. w.now) (drop at ws)) ≡ whole → find test (map (λ w. w.now) (drop (at + 1) ws)) ≡ whole
find-goes ws test at whole d within other so_far =
    let next : drop at ws ≡ get_or ws at d ∷ drop (at + 1) ws = rw (add-one, drop-cons ws at d within) in
    sym (ap (λ xs. find test (map (λ w. w.now) xs)) next ∙ ap (λ b. cond b (Some (get_or ws at d).now) (find test (map (λ w. w.now) (drop (at + 1) ws)))) other) ∙ so_far

pub find-stops : (ws : List (Bor (List ℕ))) (test : List ℕ → Bool) (at : ℕ) (whole : Option (List ℕ)) (d : Bor (List ℕ)) → at < length ws → test (get_or ws at d).now ≡ true
    → find test (map (λ w. w.now) (drop at ws)) ≡ whole → whole ≡ Some (get_or ws at d).now
find-stops ws test at whole d within passes so_far =
    let next : drop at ws ≡ get_or ws at d ∷ drop (at + 1) ws = rw (add-one, drop-cons ws at d within) in
    sym so_far ∙ ap (λ xs. find test (map (λ w. w.now) xs)) next ∙ ap (λ b. cond b (Some (get_or ws at d).now) (find test (map (λ w. w.now) (drop (at + 1) ws)))) passes

some_same : {x y : ℕ} → Some x ≡ Some y → x ≡ y
some_same e = cc

-- so the word at the place where the loop stops is found
pub find-at : (ws : List (Bor (List ℕ))) (test : List ℕ → Bool) (at : ℕ) (whole : Option (List ℕ)) (d : Bor (List ℕ)) → at < length ws → test (get_or ws at d).now ≡ true
    → find test (map (λ w. w.now) (drop at ws)) ≡ whole → (k : ℕ) → Some at ≡ Some k → whole ≡ Some (get_or (map (λ w. w.now) ws) k [])
find-at ws test at whole d within passes so_far k e =
    find-stops ws test at whole d within passes so_far ∙ ap Some (sym (get_or-map (λ (w : Bor (List ℕ)). w.now) ws at d [] within)) ∙ ap (λ j. Some (get_or (map (λ w. w.now) ws) j [])) (some_same e)
