-- How wide types are along a path.
use Rattle.std.proofs.Common.{◌≡◌, ℕ, ◌≤◌, Bool, ℤ, length, arith, ap, subst}
use Rattle.sv_types.specs.declared.expression.Expr.{Expr}
use Rattle.sv_types.specs.declared.expression.Form.TheVariants as V
use Rattle.sv_types.specs.Layouts.{Layout, layout, width_of}
use Rattle.sv_types.specs.Meanings as S
use Rattle.sv_types.specs.Paths as P
use Rattle.sv_types.specs.Expressions.{meaning}
use Rattle.sv_types.proofs.Heads.{heads}
use Rattle.sv_types.proofs.Widths.{wide-widest}
use Rattle.eval_parts.proofs.Selecting.{same-Member, same-Index, same-Part, same-Slide}

own-wide : (e : Expr) → S.wide (meaning e) ≡ width_of e.of
own-wide e = ap (λ (l : Layout). length l.two_state) (heads e).kind

pub own-narrow : (e : Expr) (n : ℕ) → (meaning e).widest ≤ n → width_of e.of ≤ n
own-narrow e n h = (let wide = wide-widest e in let same = own-wide e in omega arith)

member-by : (of : Layout) (at : ℕ) (m : S.Meaning) (k n : ℕ) → (P.member of at m k).widest ≤ n → m.widest ≤ n
unfolding P.member
member-by of at m k n h = omega arith

pub member-narrow : (e from : Expr) (k n : ℕ) → e.form ≡ V.Member from k → (meaning e).widest ≤ n → (meaning from).widest ≤ n
member-narrow e from k n is h = member-by (layout e.of) e.spot.at (meaning from) k n (subst (λ (m : S.Meaning). m.widest ≤ n) (same-Member e from k is) h)

index-by : (of : Layout) (at : ℕ) (m i : S.Meaning) (n : ℕ) → (P.index of at m i).widest ≤ n → m.widest ≤ n
unfolding P.index
index-by of at m i n h = omega arith

pub index-narrow : (e from i : Expr) (n : ℕ) → e.form ≡ V.Index from i → (meaning e).widest ≤ n → (meaning from).widest ≤ n
index-narrow e from i n is h = index-by (layout e.of) e.spot.at (meaning from) (meaning i) n (subst (λ (m : S.Meaning). m.widest ≤ n) (same-Index e from i is) h)

part-by : (of : Layout) (at : ℕ) (m : S.Meaning) (left right : ℤ) (n : ℕ) → (P.part_select of at m left right).widest ≤ n → m.widest ≤ n
unfolding P.part_select
part-by of at m left right n h = omega arith

pub part-narrow : (e from : Expr) (left right : ℤ) (n : ℕ) → e.form ≡ V.Part from left right → (meaning e).widest ≤ n → (meaning from).widest ≤ n
part-narrow e from left right n is h = part-by (layout e.of) e.spot.at (meaning from) left right n (subst (λ (m : S.Meaning). m.widest ≤ n) (same-Part e from left right is) h)

slide-by : (of : Layout) (at : ℕ) (m i : S.Meaning) (c : ℕ) (up : Bool) (n : ℕ) → (P.sliding of at m i c up).widest ≤ n → m.widest ≤ n
unfolding P.sliding
slide-by of at m i c up n h = omega arith

pub slide-narrow : (e from i : Expr) (c : ℕ) (up : Bool) (n : ℕ) → e.form ≡ V.Slide from i c up → (meaning e).widest ≤ n → (meaning from).widest ≤ n
slide-narrow e from i c up n is h = slide-by (layout e.of) e.spot.at (meaning from) (meaning i) c up n (subst (λ (m : S.Meaning). m.widest ≤ n) (same-Slide e from i c up is) h)
