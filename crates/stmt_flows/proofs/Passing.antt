-- What is known, and what fails, as the statement around has it.
use Rattle.std.proofs.Common.{◌≡◌, ◌<◌, ◌≤◌, ℕ, zero, suc, Bool, false, List, [], ◌∷◌, ◌++◌, Result, Ok, Err, inl, inr, length, take, drop, get_or, refl, arith, ap, sym, ◌∙◌, subst}
use Rattle.std.proofs.lemmas.List.{take-append-drop}
use Rattle.row_machine.proofs.Members.{member-front, member-back}
use Rattle.sv_types.specs.declared.expression.Expr.{Expr}
use Rattle.sv_types.specs.declared.statement.Stmt.{Stmt}
use Rattle.sv_types.specs.Surroundings.{Sight}
use Rattle.sv_types.specs.Flows.{Flow}
use Rattle.flow_sets.specs.declared.found.Found.{Found}
use Rattle.flow_sets.specs.Flows.{IsFlow}
use Rattle.expr_flows.specs.declared.fails.FlowFail.{FlowFail}
use Rattle.expr_flows.specs.declared.fails.FlowFail.TheVariants as F
use Rattle.expr_flows.specs.declared.known.Known.{Known}
use Rattle.expr_flows.specs.Known.{sight}
use Rattle.expr_flows.specs.Reads.{IndexFails}
use Rattle.expr_flows.specs.Targets.{TargetsFail}
use Rattle.stmt_flows.specs.declared.fails.StmtFail.{StmtFail}
use Rattle.stmt_flows.specs.declared.fails.StmtFail.TheVariants as S
use Rattle.stmt_flows.specs.Fails.{Fails, fail_of}
use Rattle.stmt_flows.specs.Gives.{FoundGives, most_statements}
use Rattle.stmt_flows.specs.Long.{LongIn, LongInOne, SomeHoldLong, TakesLong}
use Rattle.stmt_flows.specs.Scopes.{OwnGives}

-- a failure of a part
pub pass-on : (r : Result Found StmtFail) (x : StmtFail) (counting : Bool) (inner long : ℕ → Type 0) (f g : Flow) → r ≡ Err x → ((at : ℕ) → inner at → long at) → f.statements ≤ g.statements
    → FoundGives (Err x) counting inner f → FoundGives r counting long g
pass-on r S.Memory counting inner long f g is wide more h = subst (λ q. FoundGives q counting long g) (sym is) tt
pass-on r (S.TooLong at) counting inner long f g is wide more h = subst (λ q. FoundGives q counting long g) (sym is) (wide at h)
pass-on r S.TooMany counting inner long f g is wide more h = subst (λ q. FoundGives q counting long g) (sym is) (h.0, omega (arith, h.1))

-- of one that isn't counted
pub pass-uncounted : (r : Result Found StmtFail) (x : StmtFail) (counting : Bool) (inner long : ℕ → Type 0) (f g : Flow) → r ≡ Err x → ((at : ℕ) → inner at → long at)
    → FoundGives (Err x) false inner f → FoundGives r counting long g
pass-uncounted r S.Memory counting inner long f g is wide h = subst (λ q. FoundGives q counting long g) (sym is) tt
pass-uncounted r (S.TooLong at) counting inner long f g is wide h = subst (λ q. FoundGives q counting long g) (sym is) (wide at h)
pass-uncounted r S.TooMany counting inner long f g is wide h = absurd (cc (h.0))

-- what a part gives is what the whole does
pub relabel : (r : Result Found StmtFail) (counting : Bool) (inner long : ℕ → Type 0) (f g : Flow) → f ≡ g → ((at : ℕ) → inner at → long at) → FoundGives r counting inner f → FoundGives r counting long g
relabel (Ok r) counting inner long f g is wide h = (h.0, subst (IsFlow r) is h.1)
relabel (Err S.Memory) counting inner long f g is wide h = tt
relabel (Err (S.TooLong at)) counting inner long f g is wide h = wide at h
relabel (Err S.TooMany) counting inner long f g is wide h = (h.0, subst (λ (x : Flow). most_statements < x.statements) is h.1)

-- a part that doesn't count
pub own-gives : (r : Result Found StmtFail) (k : Known) (es : List Expr) (counting : Bool) (long : ℕ → Type 0) (f g : Flow) → f ≡ g → ((at : ℕ) → SomeHoldLong (sight k) es at → long at) → OwnGives r k es f → FoundGives r counting long g
own-gives (Ok r) k es counting long f g is wide h = (h.0, subst (IsFlow r) is h.1)
own-gives (Err S.Memory) k es counting long f g is wide h = tt
own-gives (Err (S.TooLong at)) k es counting long f g is wide h = wide at h
own-gives (Err S.TooMany) k es counting long f g is wide h = absurd h

-- what fails in expressions
pub some-hold : (x : FlowFail) (y : StmtFail) (k : Known) (es : List Expr) → y ≡ fail_of x → TargetsFail x k es → Fails y (SomeHoldLong (sight k) es)
some-hold F.Memory y k es is h = subst (λ z. Fails z (SomeHoldLong (sight k) es)) (sym is) tt
some-hold (F.TooLong at) y k es is h = subst (λ z. Fails z (SomeHoldLong (sight k) es)) (sym is) (record { known = k; sees = refl; some = h })

pub takes-long : (x : FlowFail) (y : StmtFail) (k : Known) (e : Expr) → y ≡ fail_of x → IndexFails x k e → Fails y (TakesLong (sight k) e)
takes-long F.Memory y k e is h = subst (λ z. Fails z (TakesLong (sight k) e)) (sym is) tt
takes-long (F.TooLong at) y k e is h = subst (λ z. Fails z (TakesLong (sight k) e)) (sym is) (record { known = k; sees = refl; long = h })

pub own-fails : (r : Result Found StmtFail) (x : FlowFail) (y : StmtFail) (k : Known) (es : List Expr) (f : Flow) → r ≡ Err y → y ≡ fail_of x → TargetsFail x k es → OwnGives r k es f
own-fails r x y k es f is from h = subst (λ q. OwnGives q k es f) (sym is) (some-hold x y k es from h)

pub found-fails : (r : Result Found StmtFail) (x : StmtFail) (counting : Bool) (inner long : ℕ → Type 0) (f : Flow) → r ≡ Err x → ((at : ℕ) → inner at → long at) → Fails x inner → FoundGives r counting long f
found-fails r S.Memory counting inner long f is wide h = subst (λ q. FoundGives q counting long f) (sym is) tt
found-fails r (S.TooLong at) counting inner long f is wide h = subst (λ q. FoundGives q counting long f) (sym is) (wide at h)
found-fails r S.TooMany counting inner long f is wide h = absurd h

pub fails-wider : (x : StmtFail) (inner long : ℕ → Type 0) → ((at : ℕ) → inner at → long at) → Fails x inner → Fails x long
fails-wider S.Memory inner long wide h = tt
fails-wider (S.TooLong at) inner long wide h = wide at h
fails-wider S.TooMany inner long wide h = h

-- statements among others
pub this-one : (h : Sight) (s : Stmt) (ss : List Stmt) (at : ℕ) → LongIn h s at → LongInOne h (s ∷ ss) at
this-one h s ss at l = record { stmt = s; stands = inl refl; long = l }

pub other-one : (h : Sight) (s : Stmt) (ss : List Stmt) (at : ℕ) → LongInOne h ss at → LongInOne h (s ∷ ss) at
other-one h s ss at l = record { stmt = l.stmt; stands = inr l.stands; long = l.long }

pub front-one : (h : Sight) (xs ys : List Stmt) (at : ℕ) → LongInOne h xs at → LongInOne h (xs ++ ys) at
front-one h xs ys at l = record { stmt = l.stmt; stands = member-front xs ys l.stmt l.stands; long = l.long }

pub back-one : (h : Sight) (xs ys : List Stmt) (at : ℕ) → LongInOne h ys at → LongInOne h (xs ++ ys) at
back-one h xs ys at l = record { stmt = l.stmt; stands = member-back xs ys l.stmt l.stands; long = l.long }

pub one-there : {A : Type 0} (xs : List A) (x : A) → length xs ≡ 1 → x ≡ get_or xs 0 x → x ∷ [] ≡ xs
one-there [] x one is = absurd (omega arith)
one-there (y ∷ []) x one is = ap (λ z. z ∷ []) is
one-there (y ∷ (z ∷ zs)) x one is = absurd (omega arith)

pub none-there : {A : Type 0} (xs : List A) → length xs ≡ 0 → [] ≡ xs
none-there [] none = refl
none-there (y ∷ ys) none = absurd (omega arith)

-- two halves of a list
pub parted : {A : Type 0} (k : ℕ) (xs front back : List A) → front ≡ take k xs → back ≡ drop k xs → front ++ back ≡ xs
parted k xs front back first rest = ap (λ ys. ys ++ back) first ∙ ap (λ ys. take k xs ++ ys) rest ∙ take-append-drop k xs

pub front-some : {A : Type 0} (k : ℕ) (xs front : List A) → front ≡ take k xs → 1 ≤ k → 1 ≤ length xs → 1 ≤ length front
front-some zero xs front is some_ there = absurd (omega arith)
front-some (suc k) [] front is some_ there = absurd (omega arith)
front-some (suc k) (x ∷ xs) front is some_ there = subst (λ ys. 1 ≤ length ys) (sym is) (omega arith)

dropped-some : {A : Type 0} (k : ℕ) (xs : List A) → k < length xs → 1 ≤ length (drop k xs)
dropped-some zero [] below = absurd (omega arith)
dropped-some zero (x ∷ xs) below = omega arith
dropped-some (suc k) [] below = absurd (omega arith)
dropped-some (suc k) (x ∷ xs) below = dropped-some k xs (omega arith)

pub back-some : {A : Type 0} (k : ℕ) (xs back : List A) → back ≡ drop k xs → k < length xs → 1 ≤ length back
back-some k xs back is below = subst (λ ys. 1 ≤ length ys) (sym is) (dropped-some k xs below)
