-- What a select path that fits asks of its parts.
use Rattle.std.proofs.Common.{◌≡◌, ℕ, ◌≤◌, ◌<◌, Bool, ℤ, List, Option, Some, None, cond, arith, ap, sym, ◌∙◌, subst}
use Rattle.b4_core.specs.declared.bit.Bit4.{Bit4}
use Rattle.b4_core.specs.Vectors.{known, number}
use Rattle.sv_types.specs.declared.expression.Expr.{Expr}
use Rattle.sv_types.specs.declared.expression.Form.TheVariants as V
use Rattle.sv_types.specs.Layouts.{Layout, layout}
use Rattle.sv_types.specs.Surroundings.{Around, Parameter}
use Rattle.sv_types.specs.Meanings.{Meaning, Path, wide, signed, alone, selected}
use Rattle.sv_types.specs.Paths as P
use Rattle.sv_types.specs.Expressions.{meaning}
use Rattle.sv_types.proofs.Widths.{has-bits}
use Rattle.eval_parts.specs.declared.path_steps.Step.{Step}
use Rattle.eval_parts.specs.Limits.{Fits}
use Rattle.eval_parts.specs.Steps.{IsStep}
use Rattle.eval_parts.proofs.Fitting.{Keeps, fits}
use Rattle.eval_parts.proofs.Selecting as S

alone-fits : (x : Expr) (fs : ℕ → List Parameter) → Keeps (meaning x) fs (wide (meaning x)) → Fits (meaning x) fs (wide (meaning x))
alone-fits x fs k = fits (meaning x) fs (wide (meaning x)) (has-bits x k.typed) k

member-x : (of : Layout) (at : ℕ) (m : Meaning) (k : ℕ) (fs : ℕ → List Parameter) (w : ℕ) → Fits (P.member of at m k) fs w → Keeps m fs (wide m)
unfolding P.member
member-x of at m k fs w f = record { typed = omega arith; narrow = omega arith; arithmetic = omega arith; indexing = omega arith }

pub member-fits : (e x : Expr) (k : ℕ) (fs : ℕ → List Parameter) (w : ℕ) → e.form ≡ V.Member x k → Fits (meaning e) fs w → Fits (meaning x) fs (wide (meaning x))
member-fits e x k fs w is f = alone-fits x fs (member-x (layout e.of) e.spot.at (meaning x) k fs w (subst (λ m. Fits m fs w) (S.same-Member e x k is) f))

part-x : (of : Layout) (at : ℕ) (m : Meaning) (left right : ℤ) (fs : ℕ → List Parameter) (w : ℕ) → Fits (P.part_select of at m left right) fs w → Keeps m fs (wide m)
unfolding P.part_select
part-x of at m left right fs w f = record { typed = omega arith; narrow = omega arith; arithmetic = omega arith; indexing = omega arith }

pub part-fits : (e x : Expr) (left right : ℤ) (fs : ℕ → List Parameter) (w : ℕ) → e.form ≡ V.Part x left right → Fits (meaning e) fs w → Fits (meaning x) fs (wide (meaning x))
part-fits e x left right fs w is f = alone-fits x fs (part-x (layout e.of) e.spot.at (meaning x) left right fs w (subst (λ m. Fits m fs w) (S.same-Part e x left right is) f))

index-x : (of : Layout) (at : ℕ) (m i : Meaning) (fs : ℕ → List Parameter) (w : ℕ) → Fits (P.index of at m i) fs w → Keeps m fs (wide m)
unfolding P.index
index-x of at m i fs w f = record { typed = omega arith; narrow = omega arith; arithmetic = omega arith; indexing = omega arith }

index-y : (of : Layout) (at : ℕ) (m i : Meaning) (fs : ℕ → List Parameter) (w : ℕ) → Fits (P.index of at m i) fs w → Keeps i fs (wide i) × (wide i ≤ 64)
unfolding P.index
index-y of at m i fs w f = (record { typed = omega arith; narrow = omega arith; arithmetic = omega arith; indexing = omega arith }, omega arith)

pub index-fits-x : (e x y : Expr) (fs : ℕ → List Parameter) (w : ℕ) → e.form ≡ V.Index x y → Fits (meaning e) fs w → Fits (meaning x) fs (wide (meaning x))
index-fits-x e x y fs w is f = alone-fits x fs (index-x (layout e.of) e.spot.at (meaning x) (meaning y) fs w (subst (λ m. Fits m fs w) (S.same-Index e x y is) f))

pub index-fits-y : (e x y : Expr) (fs : ℕ → List Parameter) (w : ℕ) → e.form ≡ V.Index x y → Fits (meaning e) fs w → Fits (meaning y) fs (wide (meaning y))
index-fits-y e x y fs w is f = alone-fits y fs (index-y (layout e.of) e.spot.at (meaning x) (meaning y) fs w (subst (λ m. Fits m fs w) (S.same-Index e x y is) f)).0

pub index-short : (e x y : Expr) (fs : ℕ → List Parameter) (w : ℕ) → e.form ≡ V.Index x y → Fits (meaning e) fs w → wide (meaning y) ≤ 64
index-short e x y fs w is f = (index-y (layout e.of) e.spot.at (meaning x) (meaning y) fs w (subst (λ m. Fits m fs w) (S.same-Index e x y is) f)).1

slide-x : (of : Layout) (at : ℕ) (m i : Meaning) (n : ℕ) (up : Bool) (fs : ℕ → List Parameter) (w : ℕ) → Fits (P.sliding of at m i n up) fs w → Keeps m fs (wide m)
unfolding P.sliding
slide-x of at m i n up fs w f = record { typed = omega arith; narrow = omega arith; arithmetic = omega arith; indexing = omega arith }

slide-y : (of : Layout) (at : ℕ) (m i : Meaning) (n : ℕ) (up : Bool) (fs : ℕ → List Parameter) (w : ℕ) → Fits (P.sliding of at m i n up) fs w → Keeps i fs (wide i) × (wide i ≤ 64)
unfolding P.sliding
slide-y of at m i n up fs w f = (record { typed = omega arith; narrow = omega arith; arithmetic = omega arith; indexing = omega arith }, omega arith)

pub slide-fits-x : (e x y : Expr) (n : ℕ) (up : Bool) (fs : ℕ → List Parameter) (w : ℕ) → e.form ≡ V.Slide x y n up → Fits (meaning e) fs w → Fits (meaning x) fs (wide (meaning x))
slide-fits-x e x y n up fs w is f = alone-fits x fs (slide-x (layout e.of) e.spot.at (meaning x) (meaning y) n up fs w (subst (λ m. Fits m fs w) (S.same-Slide e x y n up is) f))

pub slide-fits-y : (e x y : Expr) (n : ℕ) (up : Bool) (fs : ℕ → List Parameter) (w : ℕ) → e.form ≡ V.Slide x y n up → Fits (meaning e) fs w → Fits (meaning y) fs (wide (meaning y))
slide-fits-y e x y n up fs w is f = alone-fits y fs (slide-y (layout e.of) e.spot.at (meaning x) (meaning y) n up fs w (subst (λ m. Fits m fs w) (S.same-Slide e x y n up is) f)).0

pub slide-short : (e x y : Expr) (n : ℕ) (up : Bool) (fs : ℕ → List Parameter) (w : ℕ) → e.form ≡ V.Slide x y n up → Fits (meaning e) fs w → wide (meaning y) ≤ 64
slide-short e x y n up fs w is f = (slide-y (layout e.of) e.spot.at (meaning x) (meaning y) n up fs w (subst (λ m. Fits m fs w) (S.same-Slide e x y n up is) f)).1

-- the limits of a path don't hang on its context
selected-alone : (of : Layout) (at : ℕ) (p : Path) (fs : ℕ → List Parameter) (w : ℕ) → 0 < wide (selected of at p) → Fits (selected of at p) fs w → Fits (selected of at p) fs (wide (selected of at p))
selected-alone of at p fs w some f = record { some = some; typed = f.typed; narrow = f.narrow; arithmetic = f.arithmetic; indexing = f.indexing }

pub path-fits : (e : Expr) (s : Step) (fs : ℕ → List Parameter) (w : ℕ) → IsStep s e → Fits (meaning e) fs w → Fits (meaning e) fs (wide (meaning e))
path-fits e s fs w step f =
    let p = S.selects s e step in
    subst (λ m. Fits m fs (wide m)) (sym p.is)
    (selected-alone (layout e.of) e.spot.at p.path fs w (subst (λ (m : Meaning). 0 < wide m) p.is (has-bits e f.typed)) (subst (λ m. Fits m fs w) p.is f))

-- the number of an index
pub index-is : (m : Meaning) (a : Around) (v : List Bit4) (b : Bool) (r : Option ℤ) → v ≡ alone m a → b ≡ signed m → r ≡ cond (known v) (Some (number b v)) None → r ≡ P.index_of m a
index-is m a v b r values sign is =
    is ∙ ap (λ (u : List Bit4). cond (known u) (Some (number b u)) None) values ∙ ap (λ c. cond (known (alone m a)) (Some (number c (alone m a))) None) sign
