-- What paths stand on, step by step.
use Rattle.std.proofs.Common.{◌≡◌, ℕ, ◌^◌, ◌<◌, Bool, true, false, cond, ℤ, Option, Some, None, refl, arith, ap, sym, ◌∙◌}
use Rattle.std.proofs.lemmas.Bool.Decides.{nat_tests}
use Rattle.sv_types.specs.declared.expression.Expr.{Expr}
use Rattle.sv_types.specs.declared.expression.Form.TheVariants as V
use Rattle.sv_types.specs.Layouts.{Layout}
use Rattle.sv_types.specs.Surroundings.{is_signal, local_number}
use Rattle.sv_types.specs.Meanings.{Meaning}
use Rattle.sv_types.specs.Paths as P
use Rattle.sv_types.specs.Expressions.{meaning}
use Rattle.eval_parts.specs.Steps.{IsValued, can_read}
use Rattle.eval_parts.proofs.Nodes.{nodes, nodes-Member, nodes-Index, nodes-Part, nodes-Slide}
use Rattle.eval_parts.proofs.Selecting as S

in-signal : (of : Layout) (at n : ℕ) → (P.signal of at n).root ≡ Some n
unfolding P.signal
in-signal of at n = refl

in-local : (of : Layout) (at n : ℕ) → (P.local of at n).root ≡ Some (local_number n)
unfolding P.local
in-local of at n = refl

in-member : (of : Layout) (at : ℕ) (m : Meaning) (k : ℕ) → (P.member of at m k).root ≡ m.root
unfolding P.member
in-member of at m k = refl

in-index : (of : Layout) (at : ℕ) (m i : Meaning) → (P.index of at m i).root ≡ m.root
unfolding P.index
in-index of at m i = refl

in-part : (of : Layout) (at : ℕ) (m : Meaning) (left right : ℤ) → (P.part_select of at m left right).root ≡ m.root
unfolding P.part_select
in-part of at m left right = refl

in-slide : (of : Layout) (at : ℕ) (m i : Meaning) (n : ℕ) (up : Bool) → (P.sliding of at m i n up).root ≡ m.root
unfolding P.sliding
in-slide of at m i n up = refl

abbrev root : Meaning → Option ℕ
root m = m.root

read-as : (x y : Option ℕ) (holds : ℕ → Bool) (r : Bool) → y ≡ x → r ≡ can_read x holds → r ≡ can_read y holds
read-as x y holds r is h = h ∙ ap (λ q. can_read q holds) (sym is)

pub can-none : (e : Expr) (holds : ℕ → Bool) → IsValued (meaning e) → true ≡ can_read (meaning e).root holds
can-none e holds valued = read-as None (meaning e).root holds true valued.root refl

pub can-Signal : (e : Expr) (n : ℕ) (holds : ℕ → Bool) (r : Bool) → e.form ≡ V.Signal n → n < 2 ^ 32 → r ≡ holds n → r ≡ can_read (meaning e).root holds
can-Signal e n holds r is low h =
    let test : is_signal n ≡ true = grind (arith, nat_tests) in
    read-as (Some n) (meaning e).root holds r (ap root (S.same-Signal e n is) ∙ in-signal _ _ n) (h ∙ ap (λ b. cond b (holds n) true) (sym test))

pub can-Local : (e : Expr) (n : ℕ) (holds : ℕ → Bool) → e.form ≡ V.Local n → true ≡ can_read (meaning e).root holds
can-Local e n holds is =
    let test : is_signal (local_number n) ≡ false = grind (arith, nat_tests) in
    read-as (Some (local_number n)) (meaning e).root holds true (ap root (S.same-Local e n is) ∙ in-local _ _ n) (ap (λ b. cond b (holds (local_number n)) true) (sym test))

pub can-Member : (e x : Expr) (k : ℕ) (holds : ℕ → Bool) (r : Bool) → e.form ≡ V.Member x k → r ≡ can_read (meaning x).root holds → r ≡ can_read (meaning e).root holds
can-Member e x k holds r is h = read-as (meaning x).root (meaning e).root holds r (ap root (S.same-Member e x k is) ∙ in-member _ _ (meaning x) k) h

pub can-Index : (e x i : Expr) (holds : ℕ → Bool) (r : Bool) → e.form ≡ V.Index x i → r ≡ can_read (meaning x).root holds → r ≡ can_read (meaning e).root holds
can-Index e x i holds r is h = read-as (meaning x).root (meaning e).root holds r (ap root (S.same-Index e x i is) ∙ in-index _ _ (meaning x) (meaning i)) h

pub can-Part : (e x : Expr) (left right : ℤ) (holds : ℕ → Bool) (r : Bool) → e.form ≡ V.Part x left right → r ≡ can_read (meaning x).root holds → r ≡ can_read (meaning e).root holds
can-Part e x left right holds r is h = read-as (meaning x).root (meaning e).root holds r (ap root (S.same-Part e x left right is) ∙ in-part _ _ (meaning x) left right) h

pub can-Slide : (e x i : Expr) (n : ℕ) (up : Bool) (holds : ℕ → Bool) (r : Bool) → e.form ≡ V.Slide x i n up → r ≡ can_read (meaning x).root holds → r ≡ can_read (meaning e).root holds
can-Slide e x i n up holds r is h = read-as (meaning x).root (meaning e).root holds r (ap root (S.same-Slide e x i n up is) ∙ in-slide _ _ (meaning x) (meaning i) n up) h

-- a step goes down
pub below-Member : (e x : Expr) (k : ℕ) → e.form ≡ V.Member x k → nodes x < nodes e
below-Member e x k is = omega (arith, nodes-Member e x k is)

pub below-Index : (e x i : Expr) → e.form ≡ V.Index x i → nodes x < nodes e
below-Index e x i is = omega (arith, nodes-Index e x i is)

pub below-Part : (e x : Expr) (left right : ℤ) → e.form ≡ V.Part x left right → nodes x < nodes e
below-Part e x left right is = omega (arith, nodes-Part e x left right is)

pub below-Slide : (e x i : Expr) (n : ℕ) (up : Bool) → e.form ≡ V.Slide x i n up → nodes x < nodes e
below-Slide e x i n up is = omega (arith, nodes-Slide e x i n up is)
