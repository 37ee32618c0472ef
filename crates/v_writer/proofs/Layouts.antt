-- What the functions of the writer use.
use Rattle.std.proofs.Common.{◌≡◌, ℕ, zero, suc, ◌+◌, ◌<◌, List, [], ◌∷◌, ◌++◌, map, drop, length, slice_index_or, refl, sym, ap, ◌∙◌, append_assoc, add-one, arith}
use Rattle.std.proofs.lemmas.List.{append-nil}
use Rattle.v_writer.specs.Layout.{Piece}
use Rattle.v_writer.specs.Sheets.{Sheet, step, set}
use Rattle.v_writer.proofs.Margins.{edge-levels, within-levels}
use Rattle.v_writer.proofs.Levels.{expr-prim-layout, expr-unary-layout, expr-binary-layout, expr-choose-layout, prim-number-layout, prim-paren-layout, prim-name-layout, prim-call-layout, prim-repeat-layout, prim-concat-layout, prim-sign-layout, sel-decimal-layout, sel-expr-layout, lval-name-layout, lval-concat-layout, branch-statement-layout, branch-empty-layout, case-item-layout, case-default-layout, stmt-block-layout, stmt-case-layout, stmt-assign-layout, stmt-if-layout}

pub set-append : (s : Sheet) (xs ys : List Piece) → set s (xs ++ ys) ≡ set (set s xs) ys
set-append s [] ys = refl
set-append s (x ∷ xs) ys = set-append (step s x) xs ys

-- what a loop over a list has still to do
pub drop-item : {A : Type 0} (xs : List A) (i : ℕ) (x : A) → i < length xs → x ≡ slice_index_or xs i x → drop i xs ≡ x ∷ drop (i + 1) xs
drop-item [] i x h e = absurd (omega arith)
drop-item (y ∷ ys) zero x h e = ap (λ z. z ∷ ys) (sym e)
drop-item (y ∷ ys) (suc i) x h e =
    drop-item ys i x (omega arith) e ∙ ap (λ k. x ∷ drop k ys) (add-one i) ∙ ap (λ k. x ∷ drop k (y ∷ ys)) (sym (add-one (suc i)))

-- a list with an element is its first one and the others
pub whole : {A : Type 0} (xs : List A) (x : A) → 0 < length xs → x ≡ slice_index_or xs 0 x → x ∷ drop 1 xs ≡ xs
whole [] x h e = absurd (omega arith)
whole (y ∷ ys) x h e = ap (λ z. z ∷ ys) e

pub ruleset writing = (edge-levels, within-levels, set-append, append_assoc, append-nil, expr-prim-layout, expr-unary-layout, expr-binary-layout, expr-choose-layout, prim-number-layout, prim-paren-layout, prim-name-layout, prim-call-layout, prim-repeat-layout, prim-concat-layout, prim-sign-layout, sel-decimal-layout, sel-expr-layout, lval-name-layout, lval-concat-layout, branch-statement-layout, branch-empty-layout, case-item-layout, case-default-layout, stmt-block-layout, stmt-case-layout, stmt-assign-layout, stmt-if-layout)
