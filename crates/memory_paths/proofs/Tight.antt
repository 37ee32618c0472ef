-- A typed path names no more bits than it has.
use Rattle.std.proofs.Common.{◌≡◌, ℕ, ◌*◌, Bool, true, false, ◌&&◌, cond, ℤ, pos, ◌*ℤ◌, length, Option, Some, None, arith, ap, sym, ◌∙◌, subst}
use Rattle.std.specs.Prelude.{int_le, int_lt}
use Rattle.picks.specs.Windows.{Window, nowhere, part}
use Rattle.sv_types.specs.declared.expression.Expr.{Expr}
use Rattle.sv_types.specs.declared.expression.Form.TheVariants as V
use Rattle.sv_types.specs.declared.types.SvType.{SvType}
use Rattle.sv_types.specs.Layouts.{Layout, Part, count_of}
use Rattle.sv_types.specs.Windows.{member_of, element_of, elements, between, slide, rank}
use Rattle.sv_types.specs.Surroundings.{Around}
use Rattle.sv_types.specs.Meanings as S
use Rattle.sv_types.specs.Paths as P
use Rattle.sv_types.specs.Expressions.{meaning}
use Rattle.eval_parts.proofs.Selecting.{same-Local, same-Member, same-Index, same-Part, same-Slide}
use Rattle.lowering_laws.proofs.WriteAt.{IsTight, nowhere-tight, whole-tight, part-tight}
use Rattle.target_laws.proofs.Filling.{member-tight}
use Rattle.typed_paths.proofs.Marking.{member-marks, index-marks, part-marks, sliding-marks}
use Rattle.memory_paths.specs.Inner.{IsInner, of_element, of_member, of_index, of_part, of_slide}

cond-tight : (b : Bool) (p : Window) (n : ℕ) → IsTight p n → IsTight (cond b p nowhere) n
cond-tight true p n h = h
cond-tight false p n h = nowhere-tight n

one-tight : (o : ℤ) (w : ℕ) (p : Window) → IsTight (part o (1 * w) p) w
one-tight o w p = let e : 1 * w ≡ w = omega arith in subst (IsTight (part o (1 * w) p)) e (part-tight o (1 * w) p)

pub element-tight : (of : Layout) (z : Option ℤ) (p : Window) → IsTight (element_of of z p) (length of.element.two_state)
element-tight of None p = nowhere-tight (length of.element.two_state)
element-tight of (Some k) p =
    let w = length of.element.two_state in
    cond-tight (int_le (pos 0) (rank of k) && int_lt (rank of k) (pos (count_of of.left of.right))) (elements of (rank of k) 1 p) w (one-tight (rank of k *ℤ pos w) w p)

slide-tight : (of : Layout) (up : Bool) (n : ℕ) (z : Option ℤ) (p : Window) → IsTight (slide of up n z p) (n * length of.element.two_state)
slide-tight of up n None p = nowhere-tight (n * length of.element.two_state)
slide-tight of up n (Some k) p = part-tight _ (n * length of.element.two_state) p

abbrev pub Tight : S.Meaning → Around → Type 0
Tight m a = IsTight (m.window a) (S.wide m)

local-step : (of : Layout) (at n : ℕ) (a : Around) → Tight (P.local of at n) a
unfolding P.local
local-step of at n a = whole-tight (length of.two_state)

member-step : (of : Layout) (at : ℕ) (m : S.Meaning) (k : ℕ) (a : Around) → (P.member of at m k).misfits ≡ 0 → Tight (P.member of at m k) a
unfolding P.member
member-step of at m k a typed =
    let r = member-marks of at m k typed in
    subst (λ p. IsTight (member_of p (m.window a)) (length of.two_state)) (sym r.there)
    (member-tight (Some r.part) (length of.two_state) (m.window a) (λ p is. ap length r.marks ∙ ap (λ (x : Part). length x.two_state) (some-part r.part p is)))
  where
    some-part : (x y : Part) → Some x ≡ Some y → x ≡ y
    some-part x y f = cc

index-step : (of : Layout) (at : ℕ) (m i : S.Meaning) (a : Around) → (P.index of at m i).misfits ≡ 0 → Tight (P.index of at m i) a
unfolding P.index
index-step of at m i a typed = subst (IsTight (element_of m.of (P.index_of i a) (m.window a))) (sym (ap length (index-marks of at m i typed).marks)) (element-tight m.of (P.index_of i a) (m.window a))

part-step : (of : Layout) (at : ℕ) (m : S.Meaning) (left right : ℤ) (a : Around) → (P.part_select of at m left right).misfits ≡ 0 → Tight (P.part_select of at m left right) a
unfolding P.part_select
part-step of at m left right a typed = subst (IsTight (between m.of left right (m.window a))) (sym (part-marks of at m left right typed).wide) (part-tight _ _ (m.window a))

slide-step : (of : Layout) (at : ℕ) (m i : S.Meaning) (n : ℕ) (up : Bool) (a : Around) → (P.sliding of at m i n up).misfits ≡ 0 → Tight (P.sliding of at m i n up) a
unfolding P.sliding
slide-step of at m i n up a typed = subst (IsTight (slide m.of up n (P.index_of i a) (m.window a))) (sym (sliding-marks of at m i n up typed).wide) (slide-tight m.of up n (P.index_of i a) (m.window a))

by-meaning : (e : Expr) (m : S.Meaning) (a : Around) → meaning e ≡ m → ((m.misfits ≡ 0) → Tight m a) → (meaning e).misfits ≡ 0 → Tight (meaning e) a
by-meaning e m a is h typed = subst (λ x. Tight x a) (sym is) (h (ap (λ (x : S.Meaning). x.misfits) (sym is) ∙ typed))

pub local-tight : (e : Expr) (n : ℕ) (a : Around) → e.form ≡ V.Local n → Tight (meaning e) a
local-tight e n a is = subst (λ x. Tight x a) (sym (same-Local e n is)) (local-step _ _ n a)

pub member-path : (e from : Expr) (k : ℕ) (a : Around) → e.form ≡ V.Member from k → (meaning e).misfits ≡ 0 → Tight (meaning e) a
member-path e from k a is = by-meaning e _ a (same-Member e from k is) (member-step _ _ (meaning from) k a)

pub index-path : (e from i : Expr) (a : Around) → e.form ≡ V.Index from i → (meaning e).misfits ≡ 0 → Tight (meaning e) a
index-path e from i a is = by-meaning e _ a (same-Index e from i is) (index-step _ _ (meaning from) (meaning i) a)

pub part-path : (e from : Expr) (left right : ℤ) (a : Around) → e.form ≡ V.Part from left right → (meaning e).misfits ≡ 0 → Tight (meaning e) a
part-path e from left right a is = by-meaning e _ a (same-Part e from left right is) (part-step _ _ (meaning from) left right a)

pub slide-path : (e from i : Expr) (n : ℕ) (up : Bool) (a : Around) → e.form ≡ V.Slide from i n up → (meaning e).misfits ≡ 0 → Tight (meaning e) a
slide-path e from i n up a is = by-meaning e _ a (same-Slide e from i n up is) (slide-step _ _ (meaning from) (meaning i) n up a)

module _ (n : ℕ) (t : SvType) (i : Expr) (a : Around) where
  pub outer-tight : (e d : Expr) → IsInner n t i e d → (meaning e).misfits ≡ 0 → Tight (meaning e) a
  outer-tight e d (of_element x from y is on of alone same) typed = index-path x from i a is typed
  outer-tight e d (of_member x from y inner k is alone same rest) typed = member-path x from k a is typed
  outer-tight e d (of_index x from y inner j is alone same rest) typed = index-path x from j a is typed
  outer-tight e d (of_part x from y inner left right is alone same rest) typed = part-path x from left right a is typed
  outer-tight e d (of_slide x from y inner j m up is alone same rest) typed = slide-path x from j m up a is typed

  pub inner-tight : (e d : Expr) → IsInner n t i e d → (meaning d).misfits ≡ 0 → Tight (meaning d) a
  inner-tight e d (of_element x from y is on of alone same) typed = local-tight y 0 a alone
  inner-tight e d (of_member x from y inner k is alone same rest) typed = member-path y inner k a alone typed
  inner-tight e d (of_index x from y inner j is alone same rest) typed = index-path y inner j a alone typed
  inner-tight e d (of_part x from y inner left right is alone same rest) typed = part-path y inner left right a alone typed
  inner-tight e d (of_slide x from y inner j m up is alone same rest) typed = slide-path y inner j m up a alone typed
