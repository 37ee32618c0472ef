-- Steps of typing that are put together.
use Rattle.std.proofs.Common.{◌≡◌, List, Option, Some, None, refl, sym, ap, ◌∙◌, subst, ℕ}
use Rattle.std.specs.Prelude.{Result, Ok, Err}
use Rattle.sv_types.specs.declared.statement.Function.{Function}
use Rattle.expr_type.specs.declared.halt.Halt.{Halt}
use Rattle.expr_type.specs.declared.halt.Halt.TheVariants as H
use Rattle.expr_type.specs.Answers.{Break, first_break, or_next, reason, Gives}
use Rattle.expr_type.specs.Typings.{Checked, Typed, Typing, joined, applied, checked, beside, rule}
use Rattle.typing_steps.specs.Steps.{StopsBy, TypesTo}

-- two parts: the first break of the first one counts, else that of the second
loud-by : (o : Option Break) (p : Option Break) (b : Break) → Some o ≡ Some (Some b) → Some (or_next o p) ≡ Some (Some b)
loud-by None p b e = absurd (cc)
loud-by (Some a) p b e = e

pub joined-loud : {A B : Type 0} (r : Checked A) (s : Checked B) (b : Break) → reason r ≡ Some (Some b) → reason (joined r s) ≡ Some (Some b)
joined-loud (Ok a) s b e = absurd (cc)
joined-loud (Err x) (Ok c) b e = e
joined-loud (Err x) (Err y) b e = loud-by (first_break x) (first_break y) b e

pub joined-fine : {A B : Type 0} (a : A) (s : Checked B) → reason (joined (Ok a) s) ≡ reason s
joined-fine a (Ok b) = refl
joined-fine a (Err y) = refl

quiet-by : (o p : Option Break) → Some o ≡ Some None → Some (or_next o p) ≡ Some p
quiet-by None p e = refl
quiet-by (Some a) p e = absurd (cc)

pub joined-quiet : {A B : Type 0} (r : Checked A) (s : Checked B) (q : Option Break) → reason r ≡ Some None → reason s ≡ Some q → reason (joined r s) ≡ Some q
joined-quiet (Ok a) s q e f = absurd (cc)
joined-quiet (Err x) (Ok c) q e f = absurd (cc)
joined-quiet (Err x) (Err y) q e f = quiet-by (first_break x) (first_break y) e ∙ f

pub joined-quiet-fine : {A B : Type 0} (r : Checked A) (b : B) → reason r ≡ Some None → reason (joined r (Ok b)) ≡ Some None
joined-quiet-fine (Ok a) b e = absurd (cc)
joined-quiet-fine (Err x) b e = e

pub beside-fine : {A B : Type 0} (x : Typing A) (y : Typing B) (fs gs hs : List Function) (a : A) (b : B) → TypesTo (Ok a) (x fs) gs → TypesTo (Ok b) (y gs) hs
    → TypesTo (Ok (a, b)) (beside x y fs) hs
beside-fine {A = A} {B = B} x y fs gs hs a b p q =
    ap (λ (r : Typed A). let s = y r.functions in record { result = joined r.result s.result; functions = s.functions }) p
    ∙ ap (λ (s : Typed B). record { result = joined (Ok a) s.result; functions = s.functions }) q

pub beside-breaks : {A B : Type 0} (x : Typing A) (y : Typing B) (fs gs hs : List Function) (at n : ℕ) → TypesTo (Err (H.Breaks at n)) (x fs) gs
    → TypesTo (Err (H.Breaks at n)) (beside x y fs) hs
beside-breaks x y fs gs hs at n p = joined-loud (x fs).result (y (x fs).functions).result (record { at = at; rule = n }) p

pub beside-second : {A B : Type 0} (x : Typing A) (y : Typing B) (fs gs hs : List Function) (a : A) (h : Halt) → TypesTo (Ok a) (x fs) gs → TypesTo {A = B} (Err h) (y gs) hs
    → TypesTo (Err h) (beside x y fs) hs
beside-second {A = A} {B = B} x y fs gs hs a h p q =
    subst (λ (r : Typed A). let s = y r.functions in StopsBy {A = A × B} h (record { result = joined r.result s.result; functions = s.functions }) hs) (sym p) (by h q)
  where
    by : (h : Halt) → StopsBy h (y gs) hs → StopsBy {A = A × B} h (record { result = joined (Ok a) (y gs).result; functions = (y gs).functions }) hs
    by H.Memory s = tt
    by (H.Breaks at n) s = joined-fine a (y gs).result ∙ s
    by H.Quiet s = record { quiet = joined-fine a (y gs).result ∙ s.quiet; functions = s.functions }

pub beside-quiet : {A B : Type 0} (x : Typing A) (y : Typing B) (fs gs hs : List Function) (b : B) → TypesTo {A = A} (Err H.Quiet) (x fs) gs → TypesTo (Ok b) (y gs) hs
    → TypesTo {A = A × B} (Err H.Quiet) (beside x y fs) hs
beside-quiet {A = A} {B = B} x y fs gs hs b p q =
    let second : y (x fs).functions ≡ record { result = Ok b; functions = hs } = ap y p.functions ∙ q in
    record {
      quiet = ap (λ (s : Typed B). reason (joined (x fs).result s.result)) second ∙ joined-quiet-fine (x fs).result b p.quiet;
      functions = ap (λ (s : Typed B). s.functions) second;
    }

pub beside-behind-quiet : {A B : Type 0} (x : Typing A) (y : Typing B) (fs gs hs : List Function) (h : Halt) → TypesTo {A = A} (Err H.Quiet) (x fs) gs
    → TypesTo {A = B} (Err h) (y gs) hs → TypesTo {A = A × B} (Err h) (beside x y fs) hs
beside-behind-quiet {A = A} {B = B} x y fs gs hs h p q = by h (subst (λ (z : List Function). StopsBy h (y z) hs) (sym p.functions) q)
  where
    by : (h : Halt) → StopsBy h (y (x fs).functions) hs → StopsBy {A = A × B} h (beside x y fs) hs
    by H.Memory s = tt
    by (H.Breaks at n) s = joined-quiet (x fs).result (y (x fs).functions).result (Some (record { at = at; rule = n })) p.quiet s
    by H.Quiet s = record { quiet = joined-quiet (x fs).result (y (x fs).functions).result None p.quiet s.quiet; functions = s.functions }

pub ruleset besides = (beside-fine, beside-breaks, beside-second, beside-quiet, beside-behind-quiet)

-- what is made of a part
pub checked-is : {A B : Type 0} (x : Typing A) (f : A → Typing B) (fs gs : List Function) (a : A) → TypesTo (Ok a) (x fs) gs → checked x f fs ≡ f a gs
checked-is {A = A} x f fs gs a p = ap (λ (r : Typed A). applied r.result f r.functions) p

pub checked-fine : {A B : Type 0} (x : Typing A) (f : A → Typing B) (fs gs hs : List Function) (a : A) (r : Result B Halt) → TypesTo (Ok a) (x fs) gs → TypesTo r (f a gs) hs
    → TypesTo r (checked x f fs) hs
checked-fine {B = B} x f fs gs hs a r p q = subst (λ (t : Typed B). TypesTo r t hs) (sym (checked-is x f fs gs a p)) q

applied-stops : {A B : Type 0} (h : Halt) (r : Checked A) (f : A → Typing B) (fs gs : List Function) → StopsBy h (record { result = r; functions = fs }) gs → StopsBy h (applied r f fs) gs
applied-stops H.Memory r f fs gs s = tt
applied-stops (H.Breaks at n) (Ok a) f fs gs s = absurd (cc)
applied-stops (H.Breaks at n) (Err b) f fs gs s = s
applied-stops H.Quiet (Ok a) f fs gs s = let q = s.quiet in absurd (cc)
applied-stops H.Quiet (Err b) f fs gs s = record { quiet = s.quiet; functions = s.functions }

pub checked-stops : {A B : Type 0} (x : Typing A) (f : A → Typing B) (fs gs : List Function) (h : Halt) → TypesTo {A = A} (Err h) (x fs) gs → TypesTo {A = B} (Err h) (checked x f fs) gs
checked-stops x f fs gs h p = applied-stops h (x fs).result f (x fs).functions gs p

-- a rule
pub rule-types : {A : Type 0} (r : Result A Halt) (c : Checked A) (fs : List Function) → Gives r c → TypesTo r (rule c fs) fs
rule-types {A = A} (Ok a) c fs g = ap (λ (d : Checked A). record { result = d; functions = fs }) g
rule-types (Err H.Memory) c fs g = tt
rule-types (Err (H.Breaks at n)) c fs g = g
rule-types (Err H.Quiet) c fs g = record { quiet = g; functions = refl }

pub ruleset steps = (checked-fine, checked-stops, rule-types)
