-- Where all expressions in a row of parts can be typed, those in one part can.
use Rattle.std.proofs.Common.{◌≡◌, ℕ, zero, suc, ◌<◌, List, [], ◌∷◌, ◌++◌, length, get_or, flat_map, sym, subst, arith}
use Rattle.std.specs.Prelude.{Result}
use Rattle.sv_tree.specs.declared.expressions.Expr.{Expr}
use Rattle.expr_type.specs.declared.halt.Halt.{Halt}
use Rattle.expr_type.specs.Names.{Context}
use Rattle.pattern_types.specs.declared.operand.Operand as O
use Rattle.typing_parts.specs.declared.known.Known.{Known}
use Rattle.typing_parts.specs.Typists.{AllCanType}

pub can-first : (R S : Type 0) (tree : R → Expr) (held : S → Known) (pre : R → S → Type 0) (post : R → S → Result O.Operand Halt → S → Type 0) (k : Context) (xs ys : List Expr)
    → AllCanType R S tree held pre post k (xs ++ ys) → AllCanType R S tree held pre post k xs
can-first R S tree held pre post k [] ys h = tt
can-first R S tree held pre post k (x ∷ xs) ys h = (h.0, can-first R S tree held pre post k xs ys h.1)

pub can-rest : (R S : Type 0) (tree : R → Expr) (held : S → Known) (pre : R → S → Type 0) (post : R → S → Result O.Operand Halt → S → Type 0) (k : Context) (xs ys : List Expr)
    → AllCanType R S tree held pre post k (xs ++ ys) → AllCanType R S tree held pre post k ys
can-rest R S tree held pre post k [] ys h = h
can-rest R S tree held pre post k (x ∷ xs) ys h = can-rest R S tree held pre post k xs ys h.1

can-at : (R S : Type 0) (tree : R → Expr) (held : S → Known) (pre : R → S → Type 0) (post : R → S → Result O.Operand Halt → S → Type 0) (k : Context)
    {D : Type 0} (f : D → List Expr) (ds : List D) (i : ℕ) (d : D) → i < length ds
    → AllCanType R S tree held pre post k (flat_map f ds) → AllCanType R S tree held pre post k (f (get_or ds i d))
can-at R S tree held pre post k f [] i d l h = absurd (omega arith)
can-at R S tree held pre post k f (x ∷ ds) zero d l h = can-first R S tree held pre post k (f x) (flat_map f ds) h
can-at R S tree held pre post k f (x ∷ ds) (suc i) d l h =
    can-at R S tree held pre post k f ds i d (omega arith) (can-rest R S tree held pre post k (f x) (flat_map f ds) h)

pub can-in : (R S : Type 0) (tree : R → Expr) (held : S → Known) (pre : R → S → Type 0) (post : R → S → Result O.Operand Halt → S → Type 0) (k : Context)
    {D : Type 0} (f : D → List Expr) (ds : List D) (i : ℕ) (d : D) → i < length ds → d ≡ get_or ds i d
    → AllCanType R S tree held pre post k (flat_map f ds) → AllCanType R S tree held pre post k (f d)
can-in R S tree held pre post k {D = D} f ds i d l e h =
    subst (λ (x : D). AllCanType R S tree held pre post k (f x)) (sym e) (can-at R S tree held pre post k f ds i d l h)
