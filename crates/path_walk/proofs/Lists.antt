-- Lists of indices by their last one, and of selects by the first one of all.
use Rattle.std.proofs.Common.{◌≡◌, ℕ, Bool, ℤ, List, [], ◌∷◌, ◌++◌, length, append-nil, append_assoc, length-append, refl, arith, ap, sym, ◌∙◌}
use Rattle.sv_types.specs.declared.expression.Expr.{Expr}
use Rattle.v_meaning.specs.Scopes.{Scope}
use Rattle.path_walk.specs.declared.indices.StepIndex.{StepIndex}
use Rattle.path_walk.specs.Indices.{Pairwise, index_names, all_names, IsShort, AllShort}
use Rattle.path_walk.specs.Selects.{Select, Member, Part, Slide, BeginsAtElement}

-- a last one more
pub count-last : {A : Type 0} {B : Type 0} (xs : List A) (x : A) (ys : List B) (y : B) → length (xs ++ x ∷ []) ≡ length (ys ++ y ∷ []) → length xs ≡ length ys
count-last xs x ys y h = (let left = length-append xs (x ∷ []) in let right = length-append ys (y ∷ []) in omega arith)

pub none-last : {A : Type 0} {B : Type 0} (ys : List B) (y : B) (xs : List A) → xs ≡ [] → length xs ≡ length (ys ++ y ∷ []) → ⊥
none-last ys y xs none h = (let right = length-append ys (y ∷ []) in let left : length xs ≡ 0 = ap length none in omega arith)

pub no-items : {A : Type 0} (xs : List A) → length xs ≡ 0 → xs ≡ []
no-items [] h = refl
no-items (x ∷ xs) h = absurd (omega arith)

pub names-last : (xs : List StepIndex) (x : StepIndex) (sc : Scope) → all_names (xs ++ x ∷ []) sc ≡ all_names xs sc ++ index_names x sc
names-last [] x sc = append-nil (index_names x sc)
names-last (y ∷ xs) x sc = ap (λ l. index_names y sc ++ l) (names-last xs x sc) ∙ sym (append_assoc (index_names y sc) (all_names xs sc) (index_names x sc))

pub short-last : (xs : List StepIndex) (x : StepIndex) → AllShort (xs ++ x ∷ []) → AllShort xs × IsShort x
short-last [] x h = (tt, h.0)
short-last (y ∷ xs) x h = (let rest = short-last xs x h.1 in ((h.0, rest.0), rest.1))

module _ (F : Expr → StepIndex → Type 0) where
  none-left : (xs : List StepIndex) (x : StepIndex) → Pairwise F [] (xs ++ x ∷ []) → ⊥
  none-left [] x h = h
  none-left (y ∷ xs) x h = h

  none-right : (is : List Expr) (i : Expr) → Pairwise F (is ++ i ∷ []) [] → ⊥
  none-right [] i h = h
  none-right (j ∷ is) i h = h

  pub pairs-last : (is : List Expr) (i : Expr) (xs : List StepIndex) (x : StepIndex) → Pairwise F (is ++ i ∷ []) (xs ++ x ∷ []) → Pairwise F is xs × F i x
  pairs-last [] i [] x h = (tt, h.0)
  pairs-last [] i (y ∷ xs) x h = absurd (none-left xs x h.1)
  pairs-last (j ∷ is) i [] x h = absurd (none-right is i h.1)
  pairs-last (j ∷ is) i (y ∷ xs) x h = (let rest = pairs-last is i xs x h.1 in ((h.0, rest.0), rest.1))

-- the first select of all stays so above others
pub begins-Member : (k : ℕ) (ss : List Select) → BeginsAtElement (Member k ∷ ss) → BeginsAtElement ss
begins-Member k [] h = h
begins-Member k (t ∷ ss) h = h

pub begins-Part : (left right : ℤ) (ss : List Select) → BeginsAtElement (Part left right ∷ ss) → BeginsAtElement ss
begins-Part left right [] h = h
begins-Part left right (t ∷ ss) h = h

pub begins-Slide : (i : Expr) (n : ℕ) (up : Bool) (ss : List Select) → BeginsAtElement (Slide i n up ∷ ss) → BeginsAtElement ss
begins-Slide i n up [] h = h
begins-Slide i n up (t ∷ ss) h = h
