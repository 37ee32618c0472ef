-- How wide types are and how far indices lie along a path.
use Rattle.std.proofs.Common.{◌≡◌, ℕ, ◌<◌, ◌≤◌, ◌^◌, Bool, true, false, ◌&&◌, cond, ℤ, pos, length, List, ◌∷◌, Some, None, refl, arith, ap, subst}
use Rattle.std.specs.Prelude.{int_le, int_lt, unsigned_abs}
use Rattle.sv_types.specs.declared.expression.Expr.{Expr}
use Rattle.sv_types.specs.declared.expression.Form.TheVariants as V
use Rattle.sv_types.specs.Layouts.{Layout, layout, width_of}
use Rattle.sv_types.specs.Meanings as S
use Rattle.sv_types.specs.Paths as P
use Rattle.sv_types.specs.Expressions.{meaning}
use Rattle.sv_types.proofs.Heads.{heads}
use Rattle.sv_types.proofs.Widths.{wide-widest}
use Rattle.eval_parts.proofs.Selecting.{same-Member, same-Index, same-Part, same-Slide}
use Rattle.target_laws.specs.Elements.{lies_between, far_from}
use Rattle.target_walk.specs.declared.given.Given.{Given}
use Rattle.target_walk.specs.declared.given.Given.TheVariants as G
use Rattle.target_walk.specs.Giving.{IsSmall, AllSmall, IsClose, moved_given, kept_given, given_on}
use Rattle.target_walk.proofs.Rooming.{far-small, abs-plus}

-- types
pub own-wide : (e : Expr) → S.wide (meaning e) ≡ width_of e.of
own-wide e = ap (λ (l : Layout). length l.two_state) (heads e).kind

pub own-narrow : (e : Expr) (n : ℕ) → (meaning e).widest ≤ n → width_of e.of ≤ n
own-narrow e n h = (let wide = wide-widest e in let same = own-wide e in omega arith)

member-by : (of : Layout) (at : ℕ) (m : S.Meaning) (k n : ℕ) → (P.member of at m k).widest ≤ n → m.widest ≤ n
unfolding P.member
member-by of at m k n h = omega arith

pub member-narrow : (e from : Expr) (k n : ℕ) → e.form ≡ V.Member from k → (meaning e).widest ≤ n → (meaning from).widest ≤ n
member-narrow e from k n is h = member-by (layout e.of) e.spot.at (meaning from) k n (subst (λ (m : S.Meaning). m.widest ≤ n) (same-Member e from k is) h)

index-by : (of : Layout) (at : ℕ) (m i : S.Meaning) (n : ℕ) → (P.index of at m i).widest ≤ n → m.widest ≤ n
unfolding P.index
index-by of at m i n h = omega arith

pub index-narrow : (e from i : Expr) (n : ℕ) → e.form ≡ V.Index from i → (meaning e).widest ≤ n → (meaning from).widest ≤ n
index-narrow e from i n is h = index-by (layout e.of) e.spot.at (meaning from) (meaning i) n (subst (λ (m : S.Meaning). m.widest ≤ n) (same-Index e from i is) h)

part-by : (of : Layout) (at : ℕ) (m : S.Meaning) (left right : ℤ) (n : ℕ) → (P.part_select of at m left right).widest ≤ n → m.widest ≤ n
unfolding P.part_select
part-by of at m left right n h = omega arith

pub part-narrow : (e from : Expr) (left right : ℤ) (n : ℕ) → e.form ≡ V.Part from left right → (meaning e).widest ≤ n → (meaning from).widest ≤ n
part-narrow e from left right n is h = part-by (layout e.of) e.spot.at (meaning from) left right n (subst (λ (m : S.Meaning). m.widest ≤ n) (same-Part e from left right is) h)

slide-by : (of : Layout) (at : ℕ) (m i : S.Meaning) (c : ℕ) (up : Bool) (n : ℕ) → (P.sliding of at m i c up).widest ≤ n → m.widest ≤ n
unfolding P.sliding
slide-by of at m i c up n h = omega arith

pub slide-narrow : (e from i : Expr) (c : ℕ) (up : Bool) (n : ℕ) → e.form ≡ V.Slide from i c up → (meaning e).widest ≤ n → (meaning from).widest ≤ n
slide-narrow e from i c up n is h = slide-by (layout e.of) e.spot.at (meaning from) (meaning i) c up n (subst (λ (m : S.Meaning). m.widest ≤ n) (same-Slide e from i c up is) h)

-- indices
pub small-close : (g : Given) → IsSmall g → IsClose g
small-close (G.Known None) h = tt
small-close (G.Known (Some k)) h = omega arith
small-close (G.Lowered x d) h = (h.0, (let far = h.1 in omega arith))

close-some : (b : Bool) (k : ℤ) → IsClose (G.Known (Some k)) → IsClose (G.Known (cond b (Some k) None))
close-some true k h = h
close-some false k h = tt

pub kept-close : (g : Given) (left right : ℤ) → IsClose g → IsClose (kept_given left right g)
kept-close (G.Known None) left right h = tt
kept-close (G.Known (Some k)) left right h = close-some (lies_between left right k) k h
kept-close (G.Lowered x d) left right h = tt

moved-close : (g : Given) (f : ℤ) → IsSmall g → unsigned_abs f ≤ 2 ^ 32 → IsClose (moved_given g f)
moved-close (G.Known None) f h near = tt
moved-close (G.Known (Some k)) f h near = (let sum = abs-plus k f (2 ^ 64) (2 ^ 32) h near in omega arith)
moved-close (G.Lowered x d) f h near = (h.0, (let sum = abs-plus d f (2 ^ 36) (2 ^ 32) h.1 near in omega arith))

element-close : (falls up : Bool) (n : ℕ) (base : Given) (j : ℤ) (b : Bool) → (int_le (pos 0) j && int_lt j (pos n)) ≡ b → n < 2 ^ 32 → IsSmall base
    → IsClose (cond b (moved_given base (far_from falls up n j)) (G.Known None))
element-close falls up n base j true test few h = (let far = far-small falls up n j test in moved-close base (far_from falls up n j) h (omega arith))
element-close falls up n base j false test few h = tt

pub on-close : (falls up : Bool) (n : ℕ) (base g : Given) → n < 2 ^ 32 → IsSmall base → IsClose (given_on falls up n base g)
on-close falls up n base (G.Known None) few h = tt
on-close falls up n base (G.Known (Some j)) few h = element-close falls up n base j (int_le (pos 0) j && int_lt j (pos n)) refl few h
on-close falls up n base (G.Lowered x d) few h = tt

-- of a first index and others
pub small-first : (gs : List Given) (g : Given) (rest : List Given) → gs ≡ g ∷ rest → AllSmall gs → IsSmall g × AllSmall rest
small-first gs g rest is h = subst AllSmall is h
