-- What the loops of `print_names` have still to do.
use Rattle.std.proofs.Common.{◌≡◌, ℕ, zero, suc, ◌+◌, ◌-◌, ◌<◌, Bool, true, false, if◌then◌else◌, List, [], ◌∷◌, ◌++◌, drop, length, slice_index_or, Result, Ok, Err, OnOk, sym, ap, ◌∙◌, append_assoc, add-one, arith}
use Rattle.std.specs.Option.{is_some}
use Rattle.v_tree.specs.Names.{Name}
use Rattle.v_tree.specs.Tokens.{is_simple}
use Rattle.v_tree.specs.Printing.{Taken, given_to, plain_form, numbered, free_from, free_name, simple_taken, plain_names}

pub drop-item : {A : Type 0} (xs : List A) (i : ℕ) (x : A) → i < length xs → x ≡ slice_index_or xs i x → drop i xs ≡ x ∷ drop (i + 1) xs
drop-item [] i x h e = absurd (omega arith)
drop-item (y ∷ ys) zero x h e = ap (λ z. z ∷ ys) (sym e)
drop-item (y ∷ ys) (suc i) x h e =
    drop-item ys i x (omega arith) e ∙ ap (λ k. x ∷ drop k ys) (add-one i) ∙ ap (λ k. x ∷ drop k (y ∷ ys)) (sym (add-one (suc i)))

pub chosen : {A : Type 0} (b : Bool) (x y : A) → b ≡ true → (if b then x else y) ≡ x
chosen b x y e = ap (λ c. if c then x else y) e

pub passed : {A : Type 0} (b : Bool) (x y : A) → b ≡ false → (if b then x else y) ≡ y
passed b x y e = ap (λ c. if c then x else y) e

same-start : (tried : ℕ) → tried + 1 + 2 ≡ suc (tried + 2)
same-start tried = omega arith

one-less : (count tried : ℕ) → tried < count → suc (count - (tried + 1)) ≡ count - tried
one-less count tried h = omega arith

-- a numbered form that is taken
pub free-step : (count tried : ℕ) (taken : Taken) (name candidate : Name)
    → tried < count → candidate ≡ numbered name (tried + 2) → is_some (taken candidate) ≡ true
    → free_from (count - (tried + 1)) taken name (tried + 1 + 2) ≡ free_from (count - tried) taken name (tried + 2)
free-step count tried taken name candidate h e t =
    let this = numbered name (tried + 2) in
    let next = free_from (count - (tried + 1)) taken name (suc (tried + 2)) in
    ap (free_from (count - (tried + 1)) taken name) (same-start tried)
    ∙ sym (chosen (is_some (taken this)) next this (ap (λ q. is_some (taken q)) (sym e) ∙ t))
    ∙ ap (λ m. free_from m taken name (tried + 2)) (one-less count tried h)

-- one path more
pub simple-step : (place : ℕ) (taken : Taken) (paths : List Name) (i : ℕ) (path : Name) (after : Taken)
    → i < length paths → path ≡ slice_index_or paths i path
    → after ≡ (if is_simple path then given_to taken path place else taken)
    → simple_taken (place + 1) after (drop (i + 1) paths) ≡ simple_taken place taken (drop i paths)
simple-step place taken paths i path after h e a =
    ap (λ p. simple_taken p after (drop (i + 1) paths)) (add-one place)
    ∙ ap (λ t. simple_taken (suc place) t (drop (i + 1) paths)) a
    ∙ ap (simple_taken place taken) (sym (drop-item paths i path h e))

pub on_ok : {A E P Q : Type 0} (r : Result A E) → (P → Q) → OnOk r P → OnOk r Q
on_ok (Ok x) f p = f p
on_ok (Err e) f p = p

-- a path that isn't simple takes a free name
pub plain-step : (count place : ℕ) (taken after : Taken) (path name : Name) (names rest : List Name)
    → is_simple path ≡ false
    → name ≡ free_name count taken (plain_form path)
    → after ≡ given_to taken name place
    → (names ++ name ∷ []) ++ plain_names count (suc place) after rest ≡ names ++ plain_names count place taken (path ∷ rest)
plain-step count place taken after path name names rest s n a =
    append_assoc names (name ∷ []) (plain_names count (suc place) after rest)
    ∙ ap (λ t. names ++ (name ∷ plain_names count (suc place) t rest)) a
    ∙ ap (λ q. names ++ (q ∷ plain_names count (suc place) (given_to taken q place) rest)) n
    ∙ ap (λ w. names ++ w) (sym (passed (is_simple path) (path ∷ plain_names count (suc place) taken rest) (free_name count taken (plain_form path) ∷ plain_names count (suc place) (given_to taken (free_name count taken (plain_form path)) place) rest) s))
