-- What a step of a typed path takes, and that a path has bits of its own.
use Rattle.std.proofs.Common.{◌≡◌, ℕ, ◌*◌, ◌≤◌, Bool, true, ℤ, length, List, Option, Some, None, refl, arith, ap, sym, ◌∙◌, subst}
use Rattle.std.specs.Prelude.{slice_get}
use Rattle.row_machine.specs.Valuation.{Valuation}
use Rattle.picks.specs.Windows.{Window}
use Rattle.sv_types.specs.declared.expression.Expr.{Expr}
use Rattle.sv_types.specs.declared.expression.Form.TheVariants as V
use Rattle.sv_types.specs.Layouts.{Layout, Part, layout, width_of, count_of}
use Rattle.sv_types.specs.Windows.{member_of, element_of, between, slide}
use Rattle.sv_types.specs.Surroundings.{Around}
use Rattle.sv_types.specs.Meanings as S
use Rattle.sv_types.specs.Paths as P
use Rattle.sv_types.specs.Expressions.{meaning}
use Rattle.sv_types.proofs.Heads.{heads}
use Rattle.sv_types.proofs.Widths.{has-bits}
use Rattle.eval_parts.proofs.Selecting.{same-Signal, same-Local, same-Member, same-Index, same-Part, same-Slide}
use Rattle.v_meaning.specs.Scopes.{Scope}
use Rattle.lowering_laws.specs.Images.{Names}
use Rattle.lowering_laws.proofs.PathSteps.{signal-names, local-names}
use Rattle.lowering_laws.proofs.Wholes.{IsWhole, type-whole, member-typed, index-typed, sliding-typed}
use Rattle.lowering_laws.proofs.WriteAt.{IsTight, whole-tight, nowhere-tight, part-tight}
use Rattle.path_flatten.specs.Stepping.{IsStep, HasPart}
use Rattle.target_laws.proofs.Filling.{member-tight, element-stays}
use Rattle.target_walk.specs.declared.given.Given.{Given}
use Rattle.target_walk.specs.Walking.{Indexed, of_signal, of_local, of_member, of_index, of_part, of_slide}

-- a typed step to so many bits of a typed path
pub record Takes (e from : S.Meaning) (a : Around) (way : Window → Window) (n : ℕ) : Type 0 where
  pub step : IsStep e from a way
  pub wide : S.wide e ≡ n
  pub typed : from.misfits ≡ 0
  pub tight : IsTight (e.window a) (S.wide e)

-- members
pub record TakesMember (e from : S.Meaning) (a : Around) (k : ℕ) : Type 0 where
  pub step : IsStep e from a (member_of (slice_get from.of.members k))
  pub part : HasPart (S.wide e) (slice_get from.of.members k)
  pub typed : from.misfits ≡ 0
  pub tight : IsTight (e.window a) (S.wide e)

member-takes : (of : Layout) (at : ℕ) (from : S.Meaning) (k : ℕ) (a : Around) → (P.member of at from k).misfits ≡ 0 → TakesMember (P.member of at from k) from a k
unfolding P.member
member-takes of at from k a typed =
    let m = member-typed of at from k typed in
    record {
      step = record { base = refl; window = refl };
      part = subst (HasPart (length of.two_state)) (sym m.there) m.step.wide;
      typed = m.step.typed_from;
      tight = subst (λ p. IsTight (member_of p (from.window a)) (length of.two_state)) (sym m.there)
          (member-tight (Some m.part) (length of.two_state) (from.window a) (λ p is. m.step.wide ∙ ap (λ (x : Part). length x.two_state) (some-part m.part p is)));
    }
  where
    some-part : (x y : Part) → Some x ≡ Some y → x ≡ y
    some-part x y f = cc

pub takes-Member : (e from : Expr) (k : ℕ) (a : Around) → e.form ≡ V.Member from k → (meaning e).misfits ≡ 0 → TakesMember (meaning e) (meaning from) a k
takes-Member e from k a is typed =
    let same = same-Member e from k is in
    subst (λ m. TakesMember m (meaning from) a k) (sym same) (member-takes (layout e.of) e.spot.at (meaning from) k a (ap (λ (m : S.Meaning). m.misfits) (sym same) ∙ typed))

-- elements
index-takes : (of : Layout) (at : ℕ) (from i : S.Meaning) (a : Around) → (P.index of at from i).misfits ≡ 0
    → Takes (P.index of at from i) from a (element_of from.of (P.index_of i a)) (length from.of.element.two_state)
unfolding P.index
index-takes of at from i a typed =
    let t = (index-typed of at from i typed).0 in
    record {
      step = record { base = refl; window = refl };
      wide = t.wide;
      typed = t.typed_from;
      tight = subst (IsTight (element_of from.of (P.index_of i a) (from.window a))) (sym t.wide) (element-stays from.of (P.index_of i a) (from.window a));
    }

pub takes-Index : (e from i : Expr) (a : Around) → e.form ≡ V.Index from i → (meaning e).misfits ≡ 0
    → Takes (meaning e) (meaning from) a (element_of (meaning from).of (P.index_of (meaning i) a)) (length (meaning from).of.element.two_state)
takes-Index e from i a is typed =
    let same = same-Index e from i is in
    subst (λ m. Takes m (meaning from) a (element_of (meaning from).of (P.index_of (meaning i) a)) (length (meaning from).of.element.two_state)) (sym same)
    (index-takes (layout e.of) e.spot.at (meaning from) (meaning i) a (ap (λ (m : S.Meaning). m.misfits) (sym same) ∙ typed))

-- part-selects
part-takes : (of : Layout) (at : ℕ) (from : S.Meaning) (left right : ℤ) (a : Around) → (P.part_select of at from left right).misfits ≡ 0
    → Takes (P.part_select of at from left right) from a (between from.of left right) (count_of left right * length from.of.element.two_state)
unfolding P.part_select P.sliding
part-takes of at from left right a typed =
    let t = (sliding-typed of at from from (count_of left right) true (omega arith)).0 in
    record {
      step = record { base = refl; window = refl };
      wide = t.wide;
      typed = t.typed_from;
      tight = subst (IsTight (between from.of left right (from.window a))) (sym t.wide) (part-tight _ (count_of left right * length from.of.element.two_state) (from.window a));
    }

pub takes-Part : (e from : Expr) (left right : ℤ) (a : Around) → e.form ≡ V.Part from left right → (meaning e).misfits ≡ 0
    → Takes (meaning e) (meaning from) a (between (meaning from).of left right) (count_of left right * length (meaning from).of.element.two_state)
takes-Part e from left right a is typed =
    let same = same-Part e from left right is in
    subst (λ m. Takes m (meaning from) a (between (meaning from).of left right) (count_of left right * length (meaning from).of.element.two_state)) (sym same)
    (part-takes (layout e.of) e.spot.at (meaning from) left right a (ap (λ (m : S.Meaning). m.misfits) (sym same) ∙ typed))

slide-tight : (of : Layout) (up : Bool) (n : ℕ) (z : Option ℤ) (path : Window) → IsTight (slide of up n z path) (n * length of.element.two_state)
slide-tight of up n None path = nowhere-tight (n * length of.element.two_state)
slide-tight of up n (Some k) path = part-tight _ (n * length of.element.two_state) path

slide-takes : (of : Layout) (at : ℕ) (from i : S.Meaning) (n : ℕ) (up : Bool) (a : Around) → (P.sliding of at from i n up).misfits ≡ 0
    → Takes (P.sliding of at from i n up) from a (slide from.of up n (P.index_of i a)) (n * length from.of.element.two_state)
unfolding P.sliding
slide-takes of at from i n up a typed =
    let t = (sliding-typed of at from i n up typed).0 in
    record {
      step = record { base = refl; window = refl };
      wide = t.wide;
      typed = t.typed_from;
      tight = subst (IsTight (slide from.of up n (P.index_of i a) (from.window a))) (sym t.wide) (slide-tight from.of up n (P.index_of i a) (from.window a));
    }

pub takes-Slide : (e from i : Expr) (n : ℕ) (up : Bool) (a : Around) → e.form ≡ V.Slide from i n up → (meaning e).misfits ≡ 0
    → Takes (meaning e) (meaning from) a (slide (meaning from).of up n (P.index_of (meaning i) a)) (n * length (meaning from).of.element.two_state)
takes-Slide e from i n up a is typed =
    let same = same-Slide e from i n up is in
    subst (λ m. Takes m (meaning from) a (slide (meaning from).of up n (P.index_of (meaning i) a)) (n * length (meaning from).of.element.two_state)) (sym same)
    (slide-takes (layout e.of) e.spot.at (meaning from) (meaning i) n up a (ap (λ (m : S.Meaning). m.misfits) (sym same) ∙ typed))

-- signals and locals
pub record TakesAll (e : S.Meaning) (a : Around) (n : ℕ) : Type 0 where
  pub names : Names e a 0 n
  pub wide : S.wide e ≡ n
  pub tight : IsTight (e.window a) (S.wide e)

signal-takes : (of : Layout) (at n : ℕ) (a : Around) → TakesAll (P.signal of at n) a (length of.two_state)
unfolding P.signal
signal-takes of at n a = record { names = signal-names of at n a; wide = refl; tight = whole-tight (length of.two_state) }

local-takes : (of : Layout) (at n : ℕ) (a : Around) → TakesAll (P.local of at n) a (length of.two_state)
unfolding P.local
local-takes of at n a = record { names = local-names of at n a; wide = refl; tight = whole-tight (length of.two_state) }

pub takes-Signal : (e : Expr) (n : ℕ) (a : Around) → e.form ≡ V.Signal n → TakesAll (meaning e) a (width_of e.of)
takes-Signal e n a is = subst (λ m. TakesAll m a (width_of e.of)) (sym (same-Signal e n is)) (signal-takes (layout e.of) e.spot.at n a)

pub takes-Local : (e : Expr) (n : ℕ) (a : Around) → e.form ≡ V.Local n → TakesAll (meaning e) a (width_of e.of)
takes-Local e n a is = subst (λ m. TakesAll m a (width_of e.of)) (sym (same-Local e n is)) (local-takes (layout e.of) e.spot.at n a)

-- a path has bits, and no others are its own
pub record Steady (m : S.Meaning) (a : Around) : Type 0 where
  pub some : 1 ≤ S.wide m
  pub tight : IsTight (m.window a) (S.wide m)

steady-by : (e : Expr) (a : Around) → (meaning e).misfits ≡ 0 → IsTight ((meaning e).window a) (S.wide (meaning e)) → Steady (meaning e) a
steady-by e a typed tight = (let some = has-bits e typed in record { some = omega arith; tight = tight })

pub steady : (w bits : ℕ) (a : Around) (sc : Scope) (v : Valuation) (e : Expr) (gs : List Given) (part : Bool) → Indexed w bits a sc v e gs part → (meaning e).misfits ≡ 0 → Steady (meaning e) a
steady w bits a sc v e gs part (of_signal x n is wide) typed = steady-by x a typed (takes-Signal x n a is).tight
steady w bits a sc v e gs part (of_local x n is wide) typed = steady-by x a typed (takes-Local x n a is).tight
steady w bits a sc v e gs part (of_member x from k hs is rest) typed = steady-by x a typed (takes-Member x from k a is typed).tight
steady w bits a sc v e gs part (of_index x from i g hs b is number fits rest) typed = steady-by x a typed (takes-Index x from i a is typed).tight
steady w bits a sc v e gs part (of_part x from l r hs b is of rest) typed = steady-by x a typed (takes-Part x from l r a is typed).tight
steady w bits a sc v e gs part (of_slide x from i n up g hs b is number of fits rest) typed = steady-by x a typed (takes-Slide x from i n up a is typed).tight

-- all elements of a path are all of its bits
pub whole-of : (e : Expr) → 1 ≤ S.wide (meaning e) → IsWhole (meaning e).of
whole-of e some =
    let kind = (heads e).kind in
    subst IsWhole (sym kind) (type-whole e.of (subst (λ (l : Layout). 1 ≤ length l.two_state) kind some))
