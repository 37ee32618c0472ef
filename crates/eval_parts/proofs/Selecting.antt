-- Paths by their last steps: what finding them takes, and what they read.
use Rattle.std.proofs.Common.{◌≡◌, ℕ, Bool, true, false, cond, ℤ, List, length, Option, Some, None, Ok, Err, refl, ap, sym, ◌∙◌, subst}
use Rattle.std.specs.Prelude.{slice_index_or, slice_get}
use Rattle.b4_core.specs.declared.bit.Bit4.{Bit4}
use Rattle.b4_core.specs.declared.bit.Bit4.TheVariants.{X}
use Rattle.b4_core.specs.Vectors.{ext}
use Rattle.sv_types.specs.declared.expression.Expr.{Expr}
use Rattle.sv_types.specs.declared.expression.Form.TheVariants as V
use Rattle.sv_types.specs.Layouts.{Layout, layout, stored, width_of, count_of}
use Rattle.sv_types.specs.Windows.{whole, picked, tabulated, seen, member_of, element_of, between, slide}
use Rattle.sv_types.specs.Surroundings.{Around, Tally, Stop, stopped, onward, is_signal, local_number}
use Rattle.sv_types.specs.Meanings.{Meaning, Path, wide, signed, selected, reads_root}
use Rattle.sv_types.specs.Paths as P
use Rattle.sv_types.specs.Paths.{places_from}
use Rattle.sv_types.specs.Expressions.{meaning}
use Rattle.sv_types.proofs.Levels as L
use Rattle.eval_parts.specs.declared.halt.Halt.{Halt}
use Rattle.eval_parts.specs.declared.halt.Halt.TheVariants as H
use Rattle.eval_parts.specs.declared.paths.Found.{Found}
use Rattle.eval_parts.specs.declared.paths.Root.TheVariants as R
use Rattle.eval_parts.specs.declared.path_steps.Step.{Step}
use Rattle.eval_parts.specs.declared.path_steps.Step.TheVariants as S
use Rattle.eval_parts.specs.Surroundings.{running}
use Rattle.eval_parts.specs.Answers.{Gives, Halts}
use Rattle.eval_parts.specs.Places.{FindGives, IsNear, window_of, number_of, bit_of, bit_or_x}
use Rattle.eval_parts.specs.Steps.{IsStep, IsValued, can_read}
use Rattle.eval_parts.proofs.Efforts.{halts-onward, goes-on}
use Rattle.eval_parts.proofs.Seen.{seen-below}
use Rattle.eval_parts.proofs.Steps.{at-form}
use Rattle.eval_parts.proofs.Finding as F

-- a select path of a type at a token
pub record Selects (m : Meaning) (of : Layout) (at : ℕ) : Type 0 where
  pub path : Path
  pub is : m ≡ selected of at path

pub same-Signal : (e : Expr) (n : ℕ) → e.form ≡ V.Signal n → meaning e ≡ P.signal (layout e.of) e.spot.at n
same-Signal e n is = at-form e (V.Signal n) _ is (L.form-Signal n)

pub same-Local : (e : Expr) (n : ℕ) → e.form ≡ V.Local n → meaning e ≡ P.local (layout e.of) e.spot.at n
same-Local e n is = at-form e (V.Local n) _ is (L.form-Local n)

pub same-Member : (e x : Expr) (k : ℕ) → e.form ≡ V.Member x k → meaning e ≡ P.member (layout e.of) e.spot.at (meaning x) k
same-Member e x k is = at-form e (V.Member x k) _ is (L.form-Member x k)

pub same-Index : (e x i : Expr) → e.form ≡ V.Index x i → meaning e ≡ P.index (layout e.of) e.spot.at (meaning x) (meaning i)
same-Index e x i is = at-form e (V.Index x i) _ is (L.form-Index x i)

pub same-Part : (e x : Expr) (left right : ℤ) → e.form ≡ V.Part x left right → meaning e ≡ P.part_select (layout e.of) e.spot.at (meaning x) left right
same-Part e x left right is = at-form e (V.Part x left right) _ is (L.form-Part x left right)

pub same-Slide : (e x i : Expr) (n : ℕ) (up : Bool) → e.form ≡ V.Slide x i n up → meaning e ≡ P.sliding (layout e.of) e.spot.at (meaning x) (meaning i) n up
same-Slide e x i n up is = at-form e (V.Slide x i n up) _ is (L.form-Slide x i n up)

in-signal : (of : Layout) (at n : ℕ) → Selects (P.signal of at n) of at
unfolding P.signal
in-signal of at n = record { path = P.root_path n of; is = refl }

in-local : (of : Layout) (at n : ℕ) → Selects (P.local of at n) of at
unfolding P.local
in-local of at n = record { path = P.root_path (local_number n) of; is = refl }

in-member : (of : Layout) (at : ℕ) (m : Meaning) (k : ℕ) → Selects (P.member of at m k) of at
unfolding P.member
in-member of at m k = record { path = P.fixed_step (member_of (slice_get m.of.members k)) (P.unlike_part of (slice_get m.of.members k)) m; is = refl }

in-index : (of : Layout) (at : ℕ) (m i : Meaning) → Selects (P.index of at m i) of at
unfolding P.index
in-index of at m i = record { path = P.indexed_step (element_of m.of) (P.unlike of m.of.element.two_state m.of.element.signed) m i; is = refl }

in-part : (of : Layout) (at : ℕ) (m : Meaning) (left right : ℤ) → Selects (P.part_select of at m left right) of at
unfolding P.part_select
in-part of at m left right = record { path = P.fixed_step (between m.of left right) _ m; is = refl }

in-slide : (of : Layout) (at : ℕ) (m i : Meaning) (n : ℕ) (up : Bool) → Selects (P.sliding of at m i n up) of at
unfolding P.sliding
in-slide of at m i n up = record { path = P.indexed_step (slide m.of up n) _ m i; is = refl }

onto : (m y : Meaning) (of : Layout) (at : ℕ) → m ≡ y → Selects y of at → Selects m of at
onto m y of at is s = record { path = s.path; is = is ∙ s.is }

pub selects : (s : Step) (e : Expr) → IsStep s e → Selects (meaning e) (layout e.of) e.spot.at
selects (S.Signal n) e is = onto (meaning e) _ (layout e.of) e.spot.at (same-Signal e n is) (in-signal (layout e.of) e.spot.at n)
selects (S.Local n) e is = onto (meaning e) _ (layout e.of) e.spot.at (same-Local e n is) (in-local (layout e.of) e.spot.at n)
selects (S.Member x k) e is = onto (meaning e) _ (layout e.of) e.spot.at (same-Member e x.now k is) (in-member (layout e.of) e.spot.at (meaning x.now) k)
selects (S.Index x i) e is = onto (meaning e) _ (layout e.of) e.spot.at (same-Index e x.now i.now is) (in-index (layout e.of) e.spot.at (meaning x.now) (meaning i.now))
selects (S.Part x left right) e is =
    onto (meaning e) _ (layout e.of) e.spot.at (same-Part e x.now left right is) (in-part (layout e.of) e.spot.at (meaning x.now) left right)
selects (S.Slide x i n up) e is =
    onto (meaning e) _ (layout e.of) e.spot.at (same-Slide e x.now i.now n up is) (in-slide (layout e.of) e.spot.at (meaning x.now) (meaning i.now) n up)

-- what finding a path takes: what its last step takes
places-by : (of : Layout) (at : ℕ) (p : Path) (root : Option ℕ) (a : Around) (left : Option ℕ) → p.root ≡ root
    → places_from root (selected of at p) a (running left) ≡ p.places a (running left)
places-by of at p None a left is = ap (λ r. onward (p.places a) (reads_root r at a (running left))) is
places-by of at p (Some n) a left is = refl

pub places-are : (of : Layout) (at : ℕ) (p : Path) (a : Around) (left : Option ℕ) → places_from p.root (selected of at p) a (running left) ≡ p.places a (running left)
places-are of at p a left = places-by of at p p.root a left refl

-- whole signals and locals
find-signal-in : (of : Layout) (at n : ℕ) (f : Found) (a : Around) (old : Option ℕ) → f.root ≡ R.Signal n → window_of f.window ≡ whole (length of.two_state) → IsNear f.window.shift → FindGives (Ok f) (P.signal of at n) a old old
unfolding P.signal
find-signal-in of at n f a old root window near = (F.found-signal of at n a f root window near, refl)

pub find-signal : (e : Expr) (n : ℕ) (f : Found) (a : Around) (old : Option ℕ) → e.form ≡ V.Signal n → f.root ≡ R.Signal n → window_of f.window ≡ whole (width_of e.of) → IsNear f.window.shift → FindGives (Ok f) (meaning e) a old old
find-signal e n f a old is root window near = subst (λ m. FindGives (Ok f) m a old old) (sym (same-Signal e n is)) (find-signal-in (layout e.of) e.spot.at n f a old root window near)

find-local-in : (of : Layout) (at n : ℕ) (f : Found) (a : Around) (old : Option ℕ) → f.root ≡ R.Local n → window_of f.window ≡ whole (length of.two_state) → IsNear f.window.shift → FindGives (Ok f) (P.local of at n) a old old
unfolding P.local
find-local-in of at n f a old root window near = (F.found-local of at n a f root window near, refl)

pub find-local : (e : Expr) (n : ℕ) (f : Found) (a : Around) (old : Option ℕ) → e.form ≡ V.Local n → f.root ≡ R.Local n → window_of f.window ≡ whole (width_of e.of) → IsNear f.window.shift → FindGives (Ok f) (meaning e) a old old
find-local e n f a old is root window near = subst (λ m. FindGives (Ok f) m a old old) (sym (same-Local e n is)) (find-local-in (layout e.of) e.spot.at n f a old root window near)

-- members
find-member-in : (of : Layout) (at : ℕ) (m : Meaning) (k : ℕ) (fm f : Found) (a : Around) (old new : Option ℕ) → FindGives (Ok fm) m a old new → f.root ≡ fm.root
    → window_of f.window ≡ member_of (slice_get m.of.members k) (window_of fm.window) → IsNear f.window.shift → FindGives (Ok f) (P.member of at m k) a old new
unfolding P.member
find-member-in of at m k fm f a old new g same next near =
    (F.found-member of at m k a fm f g.0 same next near, places-are of at (P.fixed_step (member_of (slice_get m.of.members k)) (P.unlike_part of (slice_get m.of.members k)) m) a old ∙ g.1)

pub find-member : (e x : Expr) (k : ℕ) (fm f : Found) (a : Around) (old new : Option ℕ) → e.form ≡ V.Member x k → FindGives (Ok fm) (meaning x) a old new → f.root ≡ fm.root
    → window_of f.window ≡ member_of (slice_get (meaning x).of.members k) (window_of fm.window) → IsNear f.window.shift → FindGives (Ok f) (meaning e) a old new
find-member e x k fm f a old new is g same next near =
    subst (λ m. FindGives (Ok f) m a old new) (sym (same-Member e x k is)) (find-member-in (layout e.of) e.spot.at (meaning x) k fm f a old new g same next near)

member-halts-in : (h : Halt) (of : Layout) (at : ℕ) (m : Meaning) (k : ℕ) (a : Around) (old new : Option ℕ) → FindGives (Err h) m a old new → FindGives (Err h) (P.member of at m k) a old new
unfolding P.member
member-halts-in h of at m k a old new g =
    subst (Halts h) (sym (places-are of at (P.fixed_step (member_of (slice_get m.of.members k)) (P.unlike_part of (slice_get m.of.members k)) m) a old)) g

pub member-halts : (h : Halt) (e x : Expr) (k : ℕ) (a : Around) (old new : Option ℕ) → e.form ≡ V.Member x k → FindGives (Err h) (meaning x) a old new → FindGives (Err h) (meaning e) a old new
member-halts h e x k a old new is g = subst (λ m. FindGives (Err h) m a old new) (sym (same-Member e x k is)) (member-halts-in h (layout e.of) e.spot.at (meaning x) k a old new g)

-- part-selects
find-part-in : (of : Layout) (at : ℕ) (m : Meaning) (left right : ℤ) (fm f : Found) (a : Around) (old new : Option ℕ) → FindGives (Ok fm) m a old new → f.root ≡ fm.root
    → window_of f.window ≡ between m.of left right (window_of fm.window) → IsNear f.window.shift → FindGives (Ok f) (P.part_select of at m left right) a old new
unfolding P.part_select
find-part-in of at m left right fm f a old new g same next near =
    (F.found-part_select of at m left right a fm f g.0 same next near, places-are of at (P.fixed_step (between m.of left right) (P.unlike of (P.elements_marks m.of (count_of left right)) false) m) a old ∙ g.1)

pub find-part : (e x : Expr) (left right : ℤ) (fm f : Found) (a : Around) (old new : Option ℕ) → e.form ≡ V.Part x left right → FindGives (Ok fm) (meaning x) a old new → f.root ≡ fm.root
    → window_of f.window ≡ between (meaning x).of left right (window_of fm.window) → IsNear f.window.shift → FindGives (Ok f) (meaning e) a old new
find-part e x left right fm f a old new is g same next near =
    subst (λ m. FindGives (Ok f) m a old new) (sym (same-Part e x left right is)) (find-part-in (layout e.of) e.spot.at (meaning x) left right fm f a old new g same next near)

part-halts-in : (h : Halt) (of : Layout) (at : ℕ) (m : Meaning) (left right : ℤ) (a : Around) (old new : Option ℕ) → FindGives (Err h) m a old new → FindGives (Err h) (P.part_select of at m left right) a old new
unfolding P.part_select
part-halts-in h of at m left right a old new g = subst (Halts h) (sym (places-are of at (P.fixed_step (between m.of left right) (P.unlike of (P.elements_marks m.of (count_of left right)) false) m) a old)) g

pub part-halts : (h : Halt) (e x : Expr) (left right : ℤ) (a : Around) (old new : Option ℕ) → e.form ≡ V.Part x left right → FindGives (Err h) (meaning x) a old new → FindGives (Err h) (meaning e) a old new
part-halts h e x left right a old new is g =
    subst (λ m. FindGives (Err h) m a old new) (sym (same-Part e x left right is)) (part-halts-in h (layout e.of) e.spot.at (meaning x) left right a old new g)

-- a step by an index goes on from what it selects from
index-goes : (m i : Meaning) (a : Around) (old one new : Option ℕ) → places_from m.root m a (running old) ≡ running one → i.values a (running one) ≡ running new
    → onward (i.values a) (places_from m.root m a (running old)) ≡ running new
index-goes m i a old one new is also = goes-on (i.values a) _ one is ∙ also

index-stops : (h : Halt) (m i : Meaning) (a : Around) (old one : Option ℕ) → places_from m.root m a (running old) ≡ running one → Halts h (i.values a (running one))
    → Halts h (onward (i.values a) (places_from m.root m a (running old)))
index-stops h m i a old one is halts = subst (Halts h) (sym (goes-on (i.values a) _ one is)) halts

-- elements
find-index-in : (of : Layout) (at : ℕ) (m i : Meaning) (fm f : Found) (a : Around) (old one new : Option ℕ) → FindGives (Ok fm) m a old one → i.values a (running one) ≡ running new → f.root ≡ fm.root
    → window_of f.window ≡ element_of m.of (P.index_of i a) (window_of fm.window) → IsNear f.window.shift → FindGives (Ok f) (P.index of at m i) a old new
unfolding P.index
find-index-in of at m i fm f a old one new g also same next near =
    (F.found-index of at m i a fm f g.0 same next near, places-are of at (P.indexed_step (element_of m.of) (P.unlike of m.of.element.two_state m.of.element.signed) m i) a old ∙ index-goes m i a old one new g.1 also)

pub find-index : (e x y : Expr) (fm f : Found) (a : Around) (old one new : Option ℕ) → e.form ≡ V.Index x y → FindGives (Ok fm) (meaning x) a old one → (meaning y).values a (running one) ≡ running new → f.root ≡ fm.root
    → window_of f.window ≡ element_of (meaning x).of (P.index_of (meaning y) a) (window_of fm.window) → IsNear f.window.shift → FindGives (Ok f) (meaning e) a old new
find-index e x y fm f a old one new is g also same next near =
    subst (λ m. FindGives (Ok f) m a old new) (sym (same-Index e x y is)) (find-index-in (layout e.of) e.spot.at (meaning x) (meaning y) fm f a old one new g also same next near)

index-halts-x-in : (h : Halt) (of : Layout) (at : ℕ) (m i : Meaning) (a : Around) (old new : Option ℕ) → FindGives (Err h) m a old new → FindGives (Err h) (P.index of at m i) a old new
unfolding P.index
index-halts-x-in h of at m i a old new g =
    subst (Halts h) (sym (places-are of at (P.indexed_step (element_of m.of) (P.unlike of m.of.element.two_state m.of.element.signed) m i) a old)) (halts-onward h (i.values a) (places_from m.root m a (running old)) g)

pub index-halts-x : (h : Halt) (e x y : Expr) (a : Around) (old new : Option ℕ) → e.form ≡ V.Index x y → FindGives (Err h) (meaning x) a old new → FindGives (Err h) (meaning e) a old new
index-halts-x h e x y a old new is g = subst (λ m. FindGives (Err h) m a old new) (sym (same-Index e x y is)) (index-halts-x-in h (layout e.of) e.spot.at (meaning x) (meaning y) a old new g)

index-halts-y-in : (h : Halt) (of : Layout) (at : ℕ) (m i : Meaning) (a : Around) (old one new : Option ℕ) → places_from m.root m a (running old) ≡ running one → Halts h (i.values a (running one)) → FindGives (Err h) (P.index of at m i) a old new
unfolding P.index
index-halts-y-in h of at m i a old one new is halts = subst (Halts h) (sym (places-are of at (P.indexed_step (element_of m.of) (P.unlike of m.of.element.two_state m.of.element.signed) m i) a old)) (index-stops h m i a old one is halts)

pub index-halts-y : (h : Halt) (e x y : Expr) (fm : Found) (a : Around) (old one new : Option ℕ) → e.form ≡ V.Index x y → FindGives (Ok fm) (meaning x) a old one → Halts h ((meaning y).values a (running one)) → FindGives (Err h) (meaning e) a old new
index-halts-y h e x y fm a old one new is g halts =
    subst (λ m. FindGives (Err h) m a old new) (sym (same-Index e x y is)) (index-halts-y-in h (layout e.of) e.spot.at (meaning x) (meaning y) a old one new g.1 halts)

-- indexed part-selects
find-slide-in : (of : Layout) (at : ℕ) (m i : Meaning) (n : ℕ) (up : Bool) (fm f : Found) (a : Around) (old one new : Option ℕ) → FindGives (Ok fm) m a old one → i.values a (running one) ≡ running new → f.root ≡ fm.root
    → window_of f.window ≡ slide m.of up n (P.index_of i a) (window_of fm.window) → IsNear f.window.shift → FindGives (Ok f) (P.sliding of at m i n up) a old new
unfolding P.sliding
find-slide-in of at m i n up fm f a old one new g also same next near =
    (F.found-sliding of at m i n up a fm f g.0 same next near, places-are of at (P.indexed_step (slide m.of up n) (P.unlike of (P.elements_marks m.of n) false) m i) a old ∙ index-goes m i a old one new g.1 also)

pub find-slide : (e x y : Expr) (n : ℕ) (up : Bool) (fm f : Found) (a : Around) (old one new : Option ℕ) → e.form ≡ V.Slide x y n up → FindGives (Ok fm) (meaning x) a old one → (meaning y).values a (running one) ≡ running new → f.root ≡ fm.root
    → window_of f.window ≡ slide (meaning x).of up n (P.index_of (meaning y) a) (window_of fm.window) → IsNear f.window.shift → FindGives (Ok f) (meaning e) a old new
find-slide e x y n up fm f a old one new is g also same next near =
    subst (λ m. FindGives (Ok f) m a old new) (sym (same-Slide e x y n up is)) (find-slide-in (layout e.of) e.spot.at (meaning x) (meaning y) n up fm f a old one new g also same next near)

slide-halts-x-in : (h : Halt) (of : Layout) (at : ℕ) (m i : Meaning) (n : ℕ) (up : Bool) (a : Around) (old new : Option ℕ) → FindGives (Err h) m a old new → FindGives (Err h) (P.sliding of at m i n up) a old new
unfolding P.sliding
slide-halts-x-in h of at m i n up a old new g =
    subst (Halts h) (sym (places-are of at (P.indexed_step (slide m.of up n) (P.unlike of (P.elements_marks m.of n) false) m i) a old)) (halts-onward h (i.values a) (places_from m.root m a (running old)) g)

pub slide-halts-x : (h : Halt) (e x y : Expr) (n : ℕ) (up : Bool) (a : Around) (old new : Option ℕ) → e.form ≡ V.Slide x y n up → FindGives (Err h) (meaning x) a old new → FindGives (Err h) (meaning e) a old new
slide-halts-x h e x y n up a old new is g =
    subst (λ m. FindGives (Err h) m a old new) (sym (same-Slide e x y n up is)) (slide-halts-x-in h (layout e.of) e.spot.at (meaning x) (meaning y) n up a old new g)

slide-halts-y-in : (h : Halt) (of : Layout) (at : ℕ) (m i : Meaning) (n : ℕ) (up : Bool) (a : Around) (old one new : Option ℕ) → places_from m.root m a (running old) ≡ running one → Halts h (i.values a (running one))
    → FindGives (Err h) (P.sliding of at m i n up) a old new
unfolding P.sliding
slide-halts-y-in h of at m i n up a old one new is halts = subst (Halts h) (sym (places-are of at (P.indexed_step (slide m.of up n) (P.unlike of (P.elements_marks m.of n) false) m i) a old)) (index-stops h m i a old one is halts)

pub slide-halts-y : (h : Halt) (e x y : Expr) (n : ℕ) (up : Bool) (fm : Found) (a : Around) (old one new : Option ℕ) → e.form ≡ V.Slide x y n up → FindGives (Ok fm) (meaning x) a old one → Halts h ((meaning y).values a (running one))
    → FindGives (Err h) (meaning e) a old new
slide-halts-y h e x y n up fm a old one new is g halts =
    subst (λ m. FindGives (Err h) m a old new) (sym (same-Slide e x y n up is)) (slide-halts-y-in h (layout e.of) e.spot.at (meaning x) (meaning y) n up a old one new g.1 halts)

-- what is no path
pub find-valued : (m : Meaning) (v : List Bit4) (f : Found) (a : Around) (old new : Option ℕ) → IsValued m → Gives (Ok v) m (wide m) (signed m) a old new → f.root ≡ R.Value v → window_of f.window ≡ whole (wide m) → IsNear f.window.shift
    → FindGives (Ok f) m a old new
find-valued m v f a old new valued g root window near = (
  record {
    root = valued.root ∙ ap number_of (sym root);
    window = valued.window a ∙ sym window;
    bits = λ k h. ap (λ b. slice_index_or b k X) (valued.base a ∙ sym g.0) ∙ ap (λ r. bit_of r a.now k) (sym root);
    near = near;
  },
  ap (λ r. places_from r m a (running old)) valued.root ∙ g.1,
)

pub valued-halts : (h : Halt) (m : Meaning) (w : ℕ) (s : Bool) (a : Around) (old new : Option ℕ) → IsValued m → Gives (Err h) m w s a old new → FindGives (Err h) m a old new
valued-halts h m w s a old new valued g = subst (Halts h) (sym (ap (λ r. places_from r m a (running old)) valued.root)) g

-- reading what a path stands on
reads-by : (b : Bool) (n at : ℕ) (a : Around) (t : Tally) → is_signal n ≡ b → reads_root (Some n) at a t ≡ cond (can_read (Some n) a.holds) t (stopped (Stop.NotHeld at) t)
reads-by true n at a t is =
    ap (λ c. cond c (cond (a.holds n) t (stopped (Stop.NotHeld at) t)) t) is ∙ ap (λ c. cond (cond c (a.holds n) true) t (stopped (Stop.NotHeld at) t)) (sym is)
reads-by false n at a t is =
    ap (λ c. cond c (cond (a.holds n) t (stopped (Stop.NotHeld at) t)) t) is ∙ ap (λ c. cond (cond c (a.holds n) true) t (stopped (Stop.NotHeld at) t)) (sym is)

reads-root : (r : Option ℕ) (at : ℕ) (a : Around) (t : Tally) → reads_root r at a t ≡ cond (can_read r a.holds) t (stopped (Stop.NotHeld at) t)
reads-root None at a t = refl
reads-root (Some n) at a t = reads-by (is_signal n) n at a t refl

values-by : (b : Bool) (of : Layout) (at : ℕ) (p : Path) (a : Around) (old : Option ℕ) → can_read p.root a.holds ≡ b
    → (selected of at p).values a (running old) ≡ onward (p.places a) (cond b (running old) (stopped (Stop.NotHeld at) (running old)))
values-by b of at p a old is = ap (onward (p.places a)) (reads-root p.root at a (running old) ∙ ap (λ c. cond c (running old) (stopped (Stop.NotHeld at) (running old))) is)

read-in : (of : Layout) (at : ℕ) (p : Path) (f : Found) (bits r : List Bit4) (w : ℕ) (s : Bool) (a : Around) (old new : Option ℕ) → can_read p.root a.holds ≡ true → FindGives (Ok f) (selected of at p) a old new
    → bits ≡ tabulated (length of.two_state) (λ j. bit_or_x (bit_of f.root a.now) (picked (window_of f.window) j)) → r ≡ ext w s (stored of.two_state bits) → Gives (Ok r) (selected of at p) w s a old new
read-in of at p f bits r w s a old new held g seen-is is =
    let n = length of.two_state in
    let reads : seen (p.base a) (p.window a) n ≡ bits =
    ap (λ q. seen (p.base a) q n) g.0.window ∙ seen-below (p.base a) (bit_of f.root a.now) (window_of f.window) n g.0.bits ∙ sym seen-is in (
      is ∙ ap (λ q. ext w s (stored of.two_state q)) (sym reads),
      values-by true of at p a old held ∙ sym (places-are of at p a old) ∙ g.1,
    )

-- what a path reads, from the bits that were read through its window
pub read-done : (e : Expr) (s : Step) (f : Found) (bits r : List Bit4) (w : ℕ) (b : Bool) (a : Around) (old new : Option ℕ) → IsStep s e → can_read (meaning e).root a.holds ≡ true → FindGives (Ok f) (meaning e) a old new
    → bits ≡ tabulated (width_of e.of) (λ j. bit_or_x (bit_of f.root a.now) (picked (window_of f.window) j)) → r ≡ ext w b (stored (layout e.of).two_state bits) → Gives (Ok r) (meaning e) w b a old new
read-done e s f bits r w b a old new step held g seen-is is =
    let p = selects s e step in
    subst (λ m. Gives (Ok r) m w b a old new) (sym p.is)
    (read-in (layout e.of) e.spot.at p.path f bits r w b a old new (subst (λ (m : Meaning). can_read m.root a.holds ≡ true) p.is held) (subst (λ m. FindGives (Ok f) m a old new) p.is g) seen-is is)

halts-in : (h : Halt) (of : Layout) (at : ℕ) (p : Path) (w : ℕ) (s : Bool) (a : Around) (old new : Option ℕ) → can_read p.root a.holds ≡ true → FindGives (Err h) (selected of at p) a old new → Gives (Err h) (selected of at p) w s a old new
halts-in h of at p w s a old new held g = subst (Halts h) (places-are of at p a old ∙ sym (values-by true of at p a old held)) g

-- a path of which an index stops
pub read-halts : (h : Halt) (e : Expr) (s : Step) (w : ℕ) (b : Bool) (a : Around) (old new : Option ℕ) → IsStep s e → can_read (meaning e).root a.holds ≡ true → FindGives (Err h) (meaning e) a old new → Gives (Err h) (meaning e) w b a old new
read-halts h e s w b a old new step held g =
    let p = selects s e step in
    subst (λ m. Gives (Err h) m w b a old new) (sym p.is)
    (halts-in h (layout e.of) e.spot.at p.path w b a old new (subst (λ (m : Meaning). can_read m.root a.holds ≡ true) p.is held) (subst (λ m. FindGives (Err h) m a old new) p.is g))

unheld-in : (of : Layout) (at : ℕ) (p : Path) (w : ℕ) (s : Bool) (a : Around) (old new : Option ℕ) → can_read p.root a.holds ≡ false → Gives (Err (H.NotHeld at)) (selected of at p) w s a old new
unheld-in of at p w s a old new unheld = ap (λ (t : Tally). t.stop) (values-by false of at p a old unheld)

-- and one whose signal isn't held
pub read-unheld : (e : Expr) (s : Step) (w : ℕ) (b : Bool) (a : Around) (old new : Option ℕ) → IsStep s e → can_read (meaning e).root a.holds ≡ false → Gives (Err (H.NotHeld e.spot.at)) (meaning e) w b a old new
read-unheld e s w b a old new step unheld =
    let p = selects s e step in
    subst (λ m. Gives (Err (H.NotHeld e.spot.at)) m w b a old new) (sym p.is)
    (unheld-in (layout e.of) e.spot.at p.path w b a old new (subst (λ (m : Meaning). can_read m.root a.holds ≡ false) p.is unheld))
