-- Calls with another number of actuals than their functions have formals.
use Rattle.std.proofs.Common.{◌≡◌, ℕ, List, Option, Some, None, sym, ap, ◌∙◌, subst}
use Rattle.std.specs.Prelude.{Result, Ok, Err}
use Rattle.sv_tree.specs.declared.names.QualifiedName.{QualifiedName}
use Rattle.sv_types.specs.declared.statement.Function.{Function}
use Rattle.expr_type.specs.declared.halt.Halt.{Halt}
use Rattle.expr_type.specs.declared.halt.Halt.TheVariants as H
use Rattle.expr_type.specs.Answers.{Break, first_break, or_next, reason}
use Rattle.expr_type.specs.Breaks.{Breaks, Position}
use Rattle.expr_type.specs.Forms.{miscounted}
use Rattle.expr_type.specs.Names.{Called, Context, position}
use Rattle.expr_type.specs.Typings.{Checked, Typed, Typing}
use Rattle.typing_steps.specs.Steps.{StopsBy}
use Rattle.typing_parts.specs.Typists.{CalledTo}
use Rattle.typing_calls.specs.Calls.{first_halt, needed_of, other_count_of}

inner : (a b : Option Break) → Some a ≡ Some b → a ≡ b
inner a b h = cc

abbrev of_break : Breaks → Option (Option Break)
of_break b = Some (first_break b)

-- whole actuals leave the count
pub count-alone : {A : Type 0} (B : Type 0) (p : Position) (x : Checked Called) (y : Checked A) (a : A) → y ≡ Ok a → reason {A = B} (miscounted p x y) ≡ Some (Some (record { at = p.at; rule = 405 }))
count-alone B p x y a is = ap (λ z. reason {A = B} (miscounted p x z)) is

-- those that aren't leave the first break of the function, or else their own
behind-whole : {A : Type 0} (B : Type 0) (p : Position) (c : Called) (y : Checked A) (o : Option Break) → reason y ≡ Some o → reason {A = B} (miscounted p (Ok c) y) ≡ Some o
behind-whole B p c (Ok a) o h = absurd (cc)
behind-whole B p c (Err b) o h = h

behind-quiet : {A : Type 0} (B : Type 0) (p : Position) (x : Checked Called) (y : Checked A) (o : Option Break) → reason x ≡ Some None → reason y ≡ Some o → reason {A = B} (miscounted p x y) ≡ Some o
behind-quiet B p (Ok c) y o q h = absurd (cc)
behind-quiet B p (Err f) (Ok a) o q h = absurd (cc)
behind-quiet B p (Err f) (Err b) o q h = ap (λ n. Some (or_next n (first_break b))) (inner (first_break f) None q) ∙ h

before-actuals : {A : Type 0} (B : Type 0) (p : Position) (x : Checked Called) (y : Checked A) (k : Break) (o : Option Break) → reason x ≡ Some (Some k) → reason y ≡ Some o → reason {A = B} (miscounted p x y) ≡ Some (Some k)
before-actuals B p (Ok c) y k o q h = absurd (cc)
before-actuals B p (Err f) (Ok a) k o q h = absurd (cc)
before-actuals B p (Err f) (Err b) k o q h = ap (λ n. Some (or_next n (first_break b))) (inner (first_break f) (Some k) q)

pub count-stops : {A : Type 0} (B : Type 0) (k : Context) (of : QualifiedName) (y : Typing A) (fs gs hs : List Function) (r : Result ℕ Halt) (h g : Halt) → CalledTo r (needed_of k of fs) hs → StopsBy h (y fs) gs → g ≡ first_halt r h
    → StopsBy {A = B} g (other_count_of k of y fs) hs
count-stops B k of y fs gs hs r h g c s e = subst (λ z. StopsBy {A = B} z (other_count_of k of y fs) hs) (sym e) (by r h c s)
  where
    p : Position
    p = position k.source of.name

    at-place : (n : ℕ) (o : Option Break) → CalledTo (Ok n) (needed_of k of fs) hs → reason (y fs).result ≡ Some o → reason {A = B} (other_count_of k of y fs).result ≡ Some o
    at-place n o c s = ap (λ (t : Typed Called). reason {A = B} (miscounted p t.result (y fs).result)) c.gives ∙ behind-whole B p (record { place = n; of = c.of }) (y fs).result o s

    by : (r : Result ℕ Halt) (h : Halt) → CalledTo r (needed_of k of fs) hs → StopsBy h (y fs) gs → StopsBy {A = B} (first_halt r h) (other_count_of k of y fs) hs
    by r H.Memory c s = tt
    by (Ok n) (H.Breaks at rule) c s = at-place n (Some (record { at = at; rule = rule })) c s
    by (Err H.Memory) (H.Breaks at rule) c s = tt
    by (Err H.Quiet) (H.Breaks at rule) c s = behind-quiet B p (needed_of k of fs).result (y fs).result (Some (record { at = at; rule = rule })) c.quiet s
    by (Err (H.Breaks a n)) (H.Breaks at rule) c s = before-actuals B p (needed_of k of fs).result (y fs).result (record { at = a; rule = n }) (Some (record { at = at; rule = rule })) c s
    by (Ok n) H.Quiet c s = record { quiet = at-place n None c s.quiet; functions = ap (λ (t : Typed Called). t.functions) c.gives }
    by (Err H.Memory) H.Quiet c s = tt
    by (Err H.Quiet) H.Quiet c s = record { quiet = behind-quiet B p (needed_of k of fs).result (y fs).result None c.quiet s.quiet; functions = c.functions }
    by (Err (H.Breaks a n)) H.Quiet c s = before-actuals B p (needed_of k of fs).result (y fs).result (record { at = a; rule = n }) None c s.quiet
