-- Two parts of which the second is looked at by the first, and rules over what is whole.
use Rattle.std.proofs.Common.{◌≡◌, List, Option, Some, None, Bool, true, false, ℕ, refl, sym, ap, ◌∙◌, subst}
use Rattle.std.specs.Prelude.{Result, Ok, Err}
use Rattle.sv_types.specs.declared.statement.Function.{Function}
use Rattle.expr_type.specs.declared.halt.Halt.{Halt}
use Rattle.expr_type.specs.declared.halt.Halt.TheVariants as H
use Rattle.expr_type.specs.Answers.{Gives}
use Rattle.expr_type.specs.Breaks.{Position}
use Rattle.expr_type.specs.Typings.{Checked, Typed, Typing, applied, beside_by, both_by, checked, joined, known, refused}
use Rattle.typing_scopes.specs.Ahead.{halted, mapped}
use Rattle.typing_steps.specs.Steps.{TypesTo}
use Rattle.typing_steps.proofs.Combining.{checked-stops}
use Rattle.typing_steps.proofs.Following.{by-breaks, by-quiet, by-behind-quiet}

-- what is made of what is whole
refused-ok : {A B : Type 0} (f : A → B) (b : Bool) (p : Position) (n : ℕ) (t u : A) → refused b p n (Ok t) ≡ Ok u → refused b p n (Ok (f t)) ≡ Ok (f u)
refused-ok f true p n t u e = absurd (cc)
refused-ok {A = A} {B = B} f false p n t u e =
    let same : t ≡ u = cc in
    ap (λ (x : A). let c : Checked B = Ok (f x) in c) same

refused-err : {A B : Type 0} (f : A → B) (h : Halt) (b : Bool) (p : Position) (n : ℕ) (t : A) → Gives {A = A} (Err h) (refused b p n (Ok t)) → Gives {A = B} (Err h) (refused b p n (Ok (f t)))
refused-err f H.Memory b p n t g = tt
refused-err f (H.Breaks at m) true p n t g = g
refused-err f (H.Breaks at m) false p n t g = g
refused-err f H.Quiet true p n t g = g
refused-err f H.Quiet false p n t g = g

pub kept-by : {A B : Type 0} (f : A → B) (b : Bool) (p : Position) (n : ℕ) (t : A) (r : Result A Halt) → Gives r (refused b p n (Ok t)) → Gives (mapped f r) (refused b p n (Ok (f t)))
kept-by f b p n t (Ok u) g = refused-ok f b p n t u g
kept-by f b p n t (Err h) g = refused-err f h b p n t g

-- The first part is whole: the second is looked at by it, and what is made of both by what is made of the second.
applied-both : {A D E : Type 0} (f : A → D → Typing E) (a : A) (c : Checked D) (hs : List Function) → applied (joined (Ok a) c) (λ p. f p.0 p.1) hs ≡ applied c (f a) hs
applied-both f a (Ok d) hs = refl
applied-both f a (Err b) hs = refl

pub both-is : {A D E : Type 0} (x : Typing A) (y : Option A → Typing D) (f : A → D → Typing E) (fs gs : List Function) (a : A) → TypesTo (Ok a) (x fs) gs → both_by x y f fs ≡ checked (y (Some a)) (f a) gs
both-is {A = A} x y f fs gs a p =
    ap (λ (r : Typed A). let s = y (known r.result) r.functions in applied (joined r.result s.result) (λ q. f q.0 q.1) s.functions) p
    ∙ applied-both f a (y (Some a) gs).result (y (Some a) gs).functions

pub both-whole : {A D E : Type 0} (x : Typing A) (y : Option A → Typing D) (f : A → D → Typing E) (fs gs hs : List Function) (a : A) (r : Result E Halt) → TypesTo (Ok a) (x fs) gs
    → TypesTo r (checked (y (Some a)) (f a) gs) hs → TypesTo r (both_by x y f fs) hs
both-whole {E = E} x y f fs gs hs a r p q = subst (λ (t : Typed E). TypesTo r t hs) (sym (both-is x y f fs gs a p)) q

-- it breaks nothing and isn't whole: the second part is looked at for its breaks
pub beside-quiet : {A D : Type 0} (x : Typing A) (y : Option A → Typing D) (fs gs hs : List Function) (r : Result D Halt) → TypesTo {A = A} (Err H.Quiet) (x fs) gs → TypesTo r (y None gs) hs
    → TypesTo {A = A × D} (Err (halted r)) (beside_by x y fs) hs
beside-quiet x y fs gs hs (Ok d) p q = by-quiet x y fs gs hs d p q
beside-quiet x y fs gs hs (Err h) p q = by-behind-quiet x y fs gs hs h p q

pub both-quiet : {A D E : Type 0} (x : Typing A) (y : Option A → Typing D) (f : A → D → Typing E) (fs gs hs : List Function) (r : Result D Halt) → TypesTo {A = A} (Err H.Quiet) (x fs) gs → TypesTo r (y None gs) hs
    → TypesTo {A = E} (Err (halted r)) (both_by x y f fs) hs
both-quiet x y f fs gs hs r p q = checked-stops (beside_by x y) (λ z. f z.0 z.1) fs hs (halted r) (beside-quiet x y fs gs hs r p q)

-- it breaks a rule
pub both-breaks : {A D E : Type 0} (x : Typing A) (y : Option A → Typing D) (f : A → D → Typing E) (fs gs hs : List Function) (at n : ℕ) → TypesTo {A = A} (Err (H.Breaks at n)) (x fs) gs
    → TypesTo {A = E} (Err (H.Breaks at n)) (both_by x y f fs) hs
both-breaks x y f fs gs hs at n p = checked-stops (beside_by x y) (λ z. f z.0 z.1) fs hs (H.Breaks at n) (by-breaks x y fs gs hs at n p)

pub ruleset parts = (both-whole, beside-quiet, both-quiet, both-breaks)
