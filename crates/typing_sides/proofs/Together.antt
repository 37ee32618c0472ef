-- Two parts in the order of the text, as steps of typing, and what is made of both.
use Rattle.std.proofs.Common.{◌≡◌, List, Option, Some, subst}
use Rattle.std.specs.Prelude.{Result, Ok, Err}
use Rattle.sv_types.specs.declared.statement.Function.{Function}
use Rattle.expr_type.specs.declared.halt.Halt.{Halt}
use Rattle.expr_type.specs.declared.halt.Halt.TheVariants as H
use Rattle.expr_type.specs.Typings.{Typing, beside, beside_by, both, both_by}
use Rattle.typing_steps.specs.Steps.{TypesTo}
use Rattle.typing_steps.proofs.Combining.{beside-behind-quiet, beside-breaks, beside-fine, beside-quiet, beside-second, checked-fine, checked-stops}
use Rattle.typing_steps.proofs.Following.{by-fine, by-breaks, by-second, by-quiet, by-behind-quiet}
use Rattle.typing_sides.specs.Sides.{first_stop, known_of, stop}

same : (g h : Halt) → Some g ≡ Some h → g ≡ h
same g h s = cc

-- both of them
pub beside-stops : {A B : Type 0} (x : Typing A) (y : Typing B) (fs gs hs : List Function) (a : Result A Halt) (b : Result B Halt) (h : Halt) → first_stop (stop a) (stop b) ≡ Some h
    → TypesTo a (x fs) gs → TypesTo b (y gs) hs → TypesTo {A = A × B} (Err h) (beside x y fs) hs
beside-stops x y fs gs hs (Ok a) (Ok b) h s p q = absurd (cc)
beside-stops {A = A} {B = B} x y fs gs hs (Ok a) (Err g) h s p q = subst (λ (e : Halt). TypesTo {A = A × B} (Err e) (beside x y fs) hs) (same g h s) (beside-second x y fs gs hs a g p q)
beside-stops {A = A} {B = B} x y fs gs hs (Err H.Quiet) (Ok b) h s p q = subst (λ (e : Halt). TypesTo {A = A × B} (Err e) (beside x y fs) hs) (same H.Quiet h s) (beside-quiet x y fs gs hs b p q)
beside-stops {A = A} {B = B} x y fs gs hs (Err H.Quiet) (Err g) h s p q = subst (λ (e : Halt). TypesTo {A = A × B} (Err e) (beside x y fs) hs) (same g h s) (beside-behind-quiet x y fs gs hs g p q)
beside-stops {A = A} {B = B} x y fs gs hs (Err H.Memory) b h s p q = subst (λ (e : Halt). TypesTo {A = A × B} (Err e) (beside x y fs) hs) (same H.Memory h s) tt
beside-stops {A = A} {B = B} x y fs gs hs (Err (H.Breaks at n)) b h s p q =
    subst (λ (e : Halt). TypesTo {A = A × B} (Err e) (beside x y fs) hs) (same (H.Breaks at n) h s) (beside-breaks x y fs gs hs at n p)

pub both-stops : {A B C : Type 0} (x : Typing A) (y : Typing B) (f : A → B → Typing C) (fs gs hs : List Function) (a : Result A Halt) (b : Result B Halt) (h : Halt) → first_stop (stop a) (stop b) ≡ Some h
    → TypesTo a (x fs) gs → TypesTo b (y gs) hs → TypesTo {A = C} (Err h) (both x y f fs) hs
both-stops x y f fs gs hs a b h s p q = checked-stops (beside x y) (λ z. f z.0 z.1) fs hs h (beside-stops x y fs gs hs a b h s p q)

pub both-fine : {A B C : Type 0} (x : Typing A) (y : Typing B) (f : A → B → Typing C) (fs gs hs : List Function) (a : A) (b : B) (r : Result C Halt) → TypesTo (Ok a) (x fs) gs → TypesTo (Ok b) (y gs) hs
    → TypesTo r (f a b hs) hs → TypesTo r (both x y f fs) hs
both-fine x y f fs gs hs a b r p q g = checked-fine (beside x y) (λ z. f z.0 z.1) fs hs hs (a, b) r (beside-fine x y fs gs hs a b p q) g

-- the second by what the first is
by-stops : {A B : Type 0} (x : Typing A) (y : Option A → Typing B) (fs gs hs : List Function) (a : Result A Halt) (b : Result B Halt) (h : Halt) → first_stop (stop a) (stop b) ≡ Some h
    → TypesTo a (x fs) gs → TypesTo b (y (known_of a) gs) hs → TypesTo {A = A × B} (Err h) (beside_by x y fs) hs
by-stops x y fs gs hs (Ok a) (Ok b) h s p q = absurd (cc)
by-stops {A = A} {B = B} x y fs gs hs (Ok a) (Err g) h s p q = subst (λ (e : Halt). TypesTo {A = A × B} (Err e) (beside_by x y fs) hs) (same g h s) (by-second x y fs gs hs a g p q)
by-stops {A = A} {B = B} x y fs gs hs (Err H.Quiet) (Ok b) h s p q = subst (λ (e : Halt). TypesTo {A = A × B} (Err e) (beside_by x y fs) hs) (same H.Quiet h s) (by-quiet x y fs gs hs b p q)
by-stops {A = A} {B = B} x y fs gs hs (Err H.Quiet) (Err g) h s p q = subst (λ (e : Halt). TypesTo {A = A × B} (Err e) (beside_by x y fs) hs) (same g h s) (by-behind-quiet x y fs gs hs g p q)
by-stops {A = A} {B = B} x y fs gs hs (Err H.Memory) b h s p q = subst (λ (e : Halt). TypesTo {A = A × B} (Err e) (beside_by x y fs) hs) (same H.Memory h s) tt
by-stops {A = A} {B = B} x y fs gs hs (Err (H.Breaks at n)) b h s p q =
    subst (λ (e : Halt). TypesTo {A = A × B} (Err e) (beside_by x y fs) hs) (same (H.Breaks at n) h s) (by-breaks x y fs gs hs at n p)

pub by-both-stops : {A B C : Type 0} (x : Typing A) (y : Option A → Typing B) (f : A → B → Typing C) (fs gs hs : List Function) (a : Result A Halt) (b : Result B Halt) (h : Halt) → first_stop (stop a) (stop b) ≡ Some h
    → TypesTo a (x fs) gs → TypesTo b (y (known_of a) gs) hs → TypesTo {A = C} (Err h) (both_by x y f fs) hs
by-both-stops x y f fs gs hs a b h s p q = checked-stops (beside_by x y) (λ z. f z.0 z.1) fs hs h (by-stops x y fs gs hs a b h s p q)

pub by-both-fine : {A B C : Type 0} (x : Typing A) (y : Option A → Typing B) (f : A → B → Typing C) (fs gs hs : List Function) (a : A) (b : B) (r : Result C Halt) → TypesTo (Ok a) (x fs) gs → TypesTo (Ok b) (y (Some a) gs) hs
    → TypesTo r (f a b hs) hs → TypesTo r (both_by x y f fs) hs
by-both-fine x y f fs gs hs a b r p q g = checked-fine (beside_by x y) (λ z. f z.0 z.1) fs hs hs (a, b) r (by-fine x y fs gs hs a b p q) g
