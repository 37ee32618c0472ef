-- Parts as expressions: what is made of values by their expressions alone.
use Rattle.std.proofs.Common.{◌≡◌, List, [], ◌∷◌, map, refl, sym, ap, ◌∙◌, subst}
use Rattle.std.specs.Prelude.{Result, Ok, Err}
use Rattle.sv_types.specs.declared.expression.Expr as T
use Rattle.sv_types.specs.declared.statement.Function.{Function}
use Rattle.expr_type.specs.declared.halt.Halt.{Halt}
use Rattle.expr_type.specs.declared.operand.Valued.{Valued}
use Rattle.expr_type.specs.Operators.{exprs}
use Rattle.expr_type.specs.Typings.{Checked, Typed, Typing, all, applied, beside, checked, joined, whole}
use Rattle.typing_steps.specs.Steps.{TypesTo}
use Rattle.typing_operators.specs.Lists.{expr_of}

abbrev whole_exprs : List Valued → Typing (List T.Expr)
whole_exprs vs = whole (exprs vs)

abbrev whole_expr : Valued → Typing T.Expr
whole_expr v = whole v.expr

abbrev put : {A : Type 0} → A × List A → Typing (List A)
put p = whole (p.0 ∷ p.1)

-- a value and those behind it
behind-value : (v : Valued) (c : Checked (List Valued)) (hs : List Function)
    → applied (applied (joined (Ok v) c) put hs).result whole_exprs (applied (joined (Ok v) c) put hs).functions
    ≡ applied (joined (Ok v.expr) (applied c whole_exprs hs).result) put (applied c whole_exprs hs).functions
behind-value v (Ok vs) hs = refl
behind-value v (Err b) hs = refl

abbrev row : Checked T.Expr → Typed (List T.Expr) → Typed (List T.Expr)
row r s = applied (joined r s.result) put s.functions

behind-broken : (b : _) (c : Checked (List Valued)) (hs : List Function)
    → applied (applied (joined {A = Valued} (Err b) c) put hs).result whole_exprs (applied (joined {A = Valued} (Err b) c) put hs).functions
    ≡ row (Err b) (applied c whole_exprs hs)
behind-broken b (Ok vs) hs = refl
behind-broken b (Err d) hs = refl

row-by : (r : Checked Valued) (gs : List Function) (xs : List (Typing Valued)) → ((hs : List Function) → checked (all xs) whole_exprs hs ≡ all (map expr_of xs) hs)
    → applied (applied (joined r (all xs gs).result) put (all xs gs).functions).result whole_exprs (applied (joined r (all xs gs).result) put (all xs gs).functions).functions
    ≡ row (applied r whole_expr gs).result (all (map expr_of xs) (applied r whole_expr gs).functions)
row-by (Ok v) gs xs h = behind-value v (all xs gs).result (all xs gs).functions ∙ ap (row (Ok v.expr)) (h gs)
row-by (Err b) gs xs h = behind-broken b (all xs gs).result (all xs gs).functions ∙ ap (row (Err b)) (h gs)

exprs-all : (xs : List (Typing Valued)) (fs : List Function) → checked (all xs) whole_exprs fs ≡ all (map expr_of xs) fs
exprs-all [] fs = refl
exprs-all (x ∷ xs) fs = row-by (x fs).result (x fs).functions xs (exprs-all xs)

-- so a walk that keeps expressions gives what one that keeps values would
pub exprs-type : (xs : List (Typing Valued)) (fs gs : List Function) (r : Result (List T.Expr) Halt) → TypesTo r (all (map expr_of xs) fs) gs → TypesTo r (checked (all xs) whole_exprs fs) gs
exprs-type xs fs gs r h = subst (λ (t : Typed (List T.Expr)). TypesTo r t gs) (sym (exprs-all xs fs)) h

-- a rule on parts as expressions
then-by : {A B C : Type 0} (r : Checked A) (m : A → B) (f : B → Typing C) (fs : List Function)
    → applied (applied r (λ a. whole (m a)) fs).result f (applied r (λ a. whole (m a)) fs).functions ≡ applied r (λ a. f (m a)) fs
then-by (Ok a) m f fs = refl
then-by (Err b) m f fs = refl

pub then-types : {A B C : Type 0} (x : Typing A) (m : A → B) (f : B → Typing C) (fs gs : List Function) (r : Result C Halt)
    → TypesTo r (checked (checked x (λ a. whole (m a))) f fs) gs → TypesTo r (checked x (λ a. f (m a)) fs) gs
then-types {C = C} x m f fs gs r h = subst (λ (t : Typed C). TypesTo r t gs) (then-by (x fs).result m f (x fs).functions) h

-- a rule on something and on parts as expressions
both-by : {D A B C : Type 0} (d : Checked D) (r : Checked A) (m : A → B) (f : D → B → Typing C) (fs : List Function)
    → applied (joined d (applied r (λ a. whole (m a)) fs).result) (λ p. f p.0 p.1) (applied r (λ a. whole (m a)) fs).functions
    ≡ applied (joined d r) (λ p. f p.0 (m p.1)) fs
both-by (Ok d) (Ok a) m f fs = refl
both-by (Ok d) (Err b) m f fs = refl
both-by (Err c) (Ok a) m f fs = refl
both-by (Err c) (Err b) m f fs = refl

pub both-types : {D A B C : Type 0} (y : Typing D) (x : Typing A) (m : A → B) (f : D → B → Typing C) (fs gs : List Function) (r : Result C Halt)
    → TypesTo r (checked (beside y (checked x (λ a. whole (m a)))) (λ p. f p.0 p.1) fs) gs → TypesTo r (checked (beside y x) (λ p. f p.0 (m p.1)) fs) gs
both-types {C = C} y x m f fs gs r h = subst (λ (t : Typed C). TypesTo r t gs) (both-by (y fs).result (x (y fs).functions).result m f (x (y fs).functions).functions) h
