-- What is looked at from a token on, and parts that are looked at by what stands before them.
use Rattle.std.proofs.Common.{◌≡◌, List, Option, Some, None, ℕ, refl, sym, ap, ◌∙◌, subst}
use Rattle.std.specs.Prelude.{Result, Ok, Err}
use Rattle.sv_types.specs.declared.statement.Function.{Function}
use Rattle.expr_type.specs.declared.halt.Halt.{Halt}
use Rattle.expr_type.specs.declared.halt.Halt.TheVariants as H
use Rattle.expr_type.specs.Answers.{reason}
use Rattle.expr_type.specs.Breaks.{Position}
use Rattle.expr_type.specs.Typings.{Checked, Typed, Typing, joined, put_behind, from_token, known, beside_by}
use Rattle.typing_steps.specs.Steps.{IsQuiet, StopsBy, TypesTo}
use Rattle.typing_steps.proofs.Combining.{joined-loud, joined-fine, joined-quiet, joined-quiet-fine}

-- a function's breaks stand behind its call, and the first of them stays the first
same-reason : {A : Type 0} (p : Position) (c : Checked A) → reason (put_behind p c) ≡ reason c
same-reason p (Ok a) = refl
same-reason p (Err b) = refl

pub from-types : {A : Type 0} (p : Position) (x : Typing A) (r : Result A Halt) (fs gs : List Function) → TypesTo r (x fs) gs → TypesTo r (from_token p x fs) gs
from-types {A = A} p x (Ok a) fs gs h = ap (λ (t : Typed A). record { result = put_behind p t.result; functions = t.functions }) h
from-types p x (Err H.Memory) fs gs h = tt
from-types p x (Err (H.Breaks at n)) fs gs h = same-reason p (x fs).result ∙ h
from-types p x (Err H.Quiet) fs gs h = record { quiet = same-reason p (x fs).result ∙ h.quiet; functions = h.functions }

-- behind what isn't whole nothing of it is known
none-known : {A : Type 0} (c : Checked A) → reason c ≡ Some None → known c ≡ None
none-known (Ok a) e = absurd (cc)
none-known (Err b) e = refl

pub by-fine : {A B : Type 0} (x : Typing A) (y : Option A → Typing B) (fs gs hs : List Function) (a : A) (b : B) → TypesTo (Ok a) (x fs) gs → TypesTo (Ok b) (y (Some a) gs) hs
    → TypesTo (Ok (a, b)) (beside_by x y fs) hs
by-fine {A = A} {B = B} x y fs gs hs a b p q =
    ap (λ (r : Typed A). let s = y (known r.result) r.functions in record { result = joined r.result s.result; functions = s.functions }) p
    ∙ ap (λ (s : Typed B). record { result = joined (Ok a) s.result; functions = s.functions }) q

pub by-breaks : {A B : Type 0} (x : Typing A) (y : Option A → Typing B) (fs gs hs : List Function) (at n : ℕ) → TypesTo (Err (H.Breaks at n)) (x fs) gs
    → TypesTo (Err (H.Breaks at n)) (beside_by x y fs) hs
by-breaks x y fs gs hs at n p = joined-loud (x fs).result (y (known (x fs).result) (x fs).functions).result (record { at = at; rule = n }) p

pub by-second : {A B : Type 0} (x : Typing A) (y : Option A → Typing B) (fs gs hs : List Function) (a : A) (h : Halt) → TypesTo (Ok a) (x fs) gs
    → TypesTo {A = B} (Err h) (y (Some a) gs) hs → TypesTo (Err h) (beside_by x y fs) hs
by-second {A = A} {B = B} x y fs gs hs a h p q =
    subst (λ (r : Typed A). let s = y (known r.result) r.functions in StopsBy {A = A × B} h (record { result = joined r.result s.result; functions = s.functions }) hs) (sym p) (by h q)
  where
    by : (h : Halt) → StopsBy h (y (Some a) gs) hs → StopsBy {A = A × B} h (record { result = joined (Ok a) (y (Some a) gs).result; functions = (y (Some a) gs).functions }) hs
    by H.Memory s = tt
    by (H.Breaks at n) s = joined-fine a (y (Some a) gs).result ∙ s
    by H.Quiet s = record { quiet = joined-fine a (y (Some a) gs).result ∙ s.quiet; functions = s.functions }

behind-none : {A B : Type 0} (x : Typing A) (y : Option A → Typing B) (fs gs : List Function) → IsQuiet (x fs) gs → y (known (x fs).result) (x fs).functions ≡ y None gs
behind-none x y fs gs p = ap (λ o. y o (x fs).functions) (none-known (x fs).result p.quiet) ∙ ap (y None) p.functions

pub by-quiet : {A B : Type 0} (x : Typing A) (y : Option A → Typing B) (fs gs hs : List Function) (b : B) → TypesTo {A = A} (Err H.Quiet) (x fs) gs
    → TypesTo (Ok b) (y None gs) hs → TypesTo {A = A × B} (Err H.Quiet) (beside_by x y fs) hs
by-quiet {A = A} {B = B} x y fs gs hs b p q =
    let second : y (known (x fs).result) (x fs).functions ≡ record { result = Ok b; functions = hs } = behind-none x y fs gs p ∙ q in
    record {
      quiet = ap (λ (s : Typed B). reason (joined (x fs).result s.result)) second ∙ joined-quiet-fine (x fs).result b p.quiet;
      functions = ap (λ (s : Typed B). s.functions) second;
    }

pub by-behind-quiet : {A B : Type 0} (x : Typing A) (y : Option A → Typing B) (fs gs hs : List Function) (h : Halt) → TypesTo {A = A} (Err H.Quiet) (x fs) gs
    → TypesTo {A = B} (Err h) (y None gs) hs → TypesTo {A = A × B} (Err h) (beside_by x y fs) hs
by-behind-quiet {A = A} {B = B} x y fs gs hs h p q = by h (subst (λ (t : Typed B). StopsBy h t hs) (sym (behind-none x y fs gs p)) q)
  where
    by : (h : Halt) → StopsBy h (y (known (x fs).result) (x fs).functions) hs → StopsBy {A = A × B} h (beside_by x y fs) hs
    by H.Memory s = tt
    by (H.Breaks at n) s = joined-quiet (x fs).result (y (known (x fs).result) (x fs).functions).result (Some (record { at = at; rule = n })) p.quiet s
    by H.Quiet s = record { quiet = joined-quiet (x fs).result (y (known (x fs).result) (x fs).functions).result None p.quiet s.quiet; functions = s.functions }

pub ruleset followings = (from-types, by-fine, by-breaks, by-second, by-quiet, by-behind-quiet)
