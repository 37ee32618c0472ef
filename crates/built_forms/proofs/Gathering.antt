-- Lists that are built from left to right.
use Rattle.std.proofs.Common.{◌≡◌, ℕ, suc, ◌+◌, ◌<◌, Bool, List, [], ◌∷◌, ◌++◌, drop, length, slice_index_or, Option, Some, None, refl, sym, ap, ◌∙◌, add-one, append_assoc, drop-cons}
use Rattle.sv_source.specs.declared.token.Token.{Token}
use Rattle.sv_tree.specs.declared.statements.Stmt.{Stmt as Written}
use Rattle.built_forms.specs.Built.{then_one, then_two, each, put_before, only, gathered, stmt_around, stmt_within}

-- What is made so far, and what is still to come.
abbrev pub behind : {B : Type 0} → List B → Option (List B) → Option (List B)
behind made rest = then_one (λ r. made ++ r) rest

pub one-built : {A B : Type 0} (f : A → Option B) (made : List B) (x : A) (y : B) (rest : List A) → f x ≡ Some y
    → behind (made ++ y ∷ []) (each f rest) ≡ behind made (each f (x ∷ rest))
one-built {B = B} f made x y rest e = by_rest (each f rest) ∙ sym (ap (λ o. behind made (then_two (λ z zs. z ∷ zs) o (each f rest))) e)
  where
    by_rest : (o : Option (List B)) → then_one (λ r. (made ++ y ∷ []) ++ r) o ≡ then_one (λ r. made ++ r) (then_two (λ z zs. z ∷ zs) (Some y) o)
    by_rest None = refl
    by_rest (Some r) = ap Some (append_assoc made (y ∷ []) r)

pub step-built : {A B : Type 0} (f : A → Option B) (made made' : List B) (xs : List A) (i : ℕ) (x : A) (y : B) → i < length xs → x ≡ slice_index_or xs i x → f x ≡ Some y → made' ≡ made ++ y ∷ []
    → behind made' (each f (drop (i + 1) xs)) ≡ behind made (each f (drop i xs))
step-built f made made' xs i x y h is e grown =
    let next : drop i xs ≡ x ∷ drop (suc i) xs = drop-cons xs i x h ∙ ap (λ z. z ∷ drop (suc i) xs) (sym is) in
    (λ j. behind (grown j) (each f (drop (add-one i j) xs)))
    ∙ one-built f made x y (drop (suc i) xs) e
    ∙ ap (λ zs. behind made (each f zs)) (sym next)

-- the same where some give nothing
pub one-gathered : {A B : Type 0} (f : A → Option (Option B)) (made : List B) (x : A) (y : Option B) (rest : List A) → f x ≡ Some y
    → behind (made ++ only y) (gathered f rest) ≡ behind made (gathered f (x ∷ rest))
one-gathered {B = B} f made x y rest e = by_rest y (gathered f rest) ∙ sym (ap (λ o. behind made (then_two put_before o (gathered f rest))) e)
  where
    by_rest : (y : Option B) (o : Option (List B)) → then_one (λ r. (made ++ only y) ++ r) o ≡ then_one (λ r. made ++ r) (then_two put_before (Some y) o)
    by_rest y None = refl
    by_rest None (Some r) = ap Some (append_assoc made [] r)
    by_rest (Some x) (Some r) = ap Some (append_assoc made (x ∷ []) r)

pub step-gathered : {A B : Type 0} (f : A → Option (Option B)) (made made' : List B) (xs : List A) (i : ℕ) (x : A) (y : Option B) → i < length xs → x ≡ slice_index_or xs i x → f x ≡ Some y → made' ≡ made ++ only y
    → behind made' (gathered f (drop (i + 1) xs)) ≡ behind made (gathered f (drop i xs))
step-gathered f made made' xs i x y h is e grown =
    let next : drop i xs ≡ x ∷ drop (suc i) xs = drop-cons xs i x h ∙ ap (λ z. z ∷ drop (suc i) xs) (sym is) in
    (λ j. behind (grown j) (gathered f (drop (add-one i j) xs)))
    ∙ one-gathered f made x y (drop (suc i) xs) e
    ∙ ap (λ zs. behind made (gathered f zs)) (sym next)

-- statements one level deeper
pub one-deeper : (tokens : List Token) (later : Bool) (depth inner : ℕ) (s : Written) → depth ≡ inner + 1 → stmt_within tokens later depth s ≡ stmt_around tokens later (stmt_within tokens later inner) s
one-deeper tokens later depth inner s e = ap (λ d. stmt_within tokens later d s) (e ∙ add-one inner)
