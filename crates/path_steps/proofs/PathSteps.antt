-- Steps of select paths: where their bits are, how many they have, and what they name.
use Rattle.std.proofs.Common.{◌≡◌, ℕ, ◌*◌, Bool, true, ℤ, [], ◌∷◌, append-nil, length, refl, arith, sym, subst}
use Rattle.std.specs.Prelude.{slice_get}
use Rattle.row_machine.specs.Places.{vector_at}
use Rattle.picks.specs.Windows.{whole}
use Rattle.sv_types.specs.Layouts.{Layout, layout, count_of}
use Rattle.sv_types.specs.Windows.{member_of, element_of, between, slide}
use Rattle.sv_types.specs.Surroundings.{Around, local_number}
use Rattle.sv_types.specs.Meanings as S
use Rattle.sv_types.specs.Paths as P
use Rattle.sv_types.specs.declared.expression.Expr.{Expr}
use Rattle.sv_types.specs.Expressions.{meaning}
use Rattle.eval_parts.specs.declared.path_steps.Step.{Step}
use Rattle.eval_parts.specs.declared.path_steps.Step.TheVariants as Q
use Rattle.eval_parts.specs.Steps.{IsStep}
use Rattle.eval_parts.proofs.Selecting.{selects, same-Signal, same-Local, same-Member, same-Index, same-Part, same-Slide}
use Rattle.lowering_laws.specs.Steps.{IsPath}
use Rattle.lowering_laws.proofs.Paths.{selected-is-path}
use Rattle.lowering_laws.proofs.Wholes.{member-typed, index-typed, sliding-typed}
use Rattle.path_flatten.specs.Stepping as F
use Rattle.path_flatten.specs.Stepping.{HasPart}
use Rattle.path_steps.specs.Stands.{stand_names}
use Rattle.path_steps.proofs.PathNames.{IsNamed, NamedStep, step-named}

-- all of what is held under a number
pub record IsRootPath (e : S.Meaning) (of : Layout) (n : ℕ) (a : Around) : Type 0 where
  pub base : e.base a ≡ vector_at a.now n (length of.two_state)
  pub window : e.window a ≡ whole (length of.two_state)
  pub wide : S.wide e ≡ length of.two_state
  pub stands : stand_names e ≡ record { number = n; of = of } ∷ []

-- members
pub member-step : (of : Layout) (at : ℕ) (from : S.Meaning) (k : ℕ) (a : Around) → F.IsStep (P.member of at from k) from a (member_of (slice_get from.of.members k))
unfolding P.member
member-step of at from k a = record { base = refl; window = refl }

pub member-part : (of : Layout) (at : ℕ) (from : S.Meaning) (k : ℕ) → (P.member of at from k).misfits ≡ 0 → HasPart (S.wide (P.member of at from k)) (slice_get from.of.members k)
unfolding P.member
member-part of at from k typed =
    let m = member-typed of at from k typed in
    subst (HasPart (length of.two_state)) (sym m.there) m.step.wide

pub member-named : (of : Layout) (at : ℕ) (from : S.Meaning) (k : ℕ) → NamedStep (P.member of at from k) from []
unfolding P.member
member-named of at from k = record { root = refl; index = sym (append-nil from.index_names); names = refl }

-- part-selects
pub part-step : (of : Layout) (at : ℕ) (from : S.Meaning) (left right : ℤ) (a : Around) → F.IsStep (P.part_select of at from left right) from a (between from.of left right)
unfolding P.part_select
part-step of at from left right a = record { base = refl; window = refl }

pub part-wide : (of : Layout) (at : ℕ) (from : S.Meaning) (left right : ℤ) → (P.part_select of at from left right).misfits ≡ 0
    → S.wide (P.part_select of at from left right) ≡ count_of left right * length from.of.element.two_state
unfolding P.part_select P.sliding
part-wide of at from left right typed = (sliding-typed of at from from (count_of left right) true (omega arith)).0.wide

pub part-named : (of : Layout) (at : ℕ) (from : S.Meaning) (left right : ℤ) → NamedStep (P.part_select of at from left right) from []
unfolding P.part_select
part-named of at from left right = record { root = refl; index = sym (append-nil from.index_names); names = refl }

-- elements
pub index-step : (of : Layout) (at : ℕ) (from i : S.Meaning) (a : Around) → F.IsStep (P.index of at from i) from a (element_of from.of (P.index_of i a))
unfolding P.index
index-step of at from i a = record { base = refl; window = refl }

pub index-wide : (of : Layout) (at : ℕ) (from i : S.Meaning) → (P.index of at from i).misfits ≡ 0 → S.wide (P.index of at from i) ≡ length from.of.element.two_state
unfolding P.index
index-wide of at from i typed = (index-typed of at from i typed).0.wide

pub index-named : (of : Layout) (at : ℕ) (from i : S.Meaning) → NamedStep (P.index of at from i) from i.names
unfolding P.index
index-named of at from i = record { root = refl; index = refl; names = refl }

-- indexed part-selects
pub slide-step : (of : Layout) (at : ℕ) (from i : S.Meaning) (n : ℕ) (up : Bool) (a : Around) → F.IsStep (P.sliding of at from i n up) from a (slide from.of up n (P.index_of i a))
unfolding P.sliding
slide-step of at from i n up a = record { base = refl; window = refl }

pub slide-wide : (of : Layout) (at : ℕ) (from i : S.Meaning) (n : ℕ) (up : Bool) → (P.sliding of at from i n up).misfits ≡ 0 → S.wide (P.sliding of at from i n up) ≡ n * length from.of.element.two_state
unfolding P.sliding
slide-wide of at from i n up typed = (sliding-typed of at from i n up typed).0.wide

pub slide-named : (of : Layout) (at : ℕ) (from i : S.Meaning) (n : ℕ) (up : Bool) → NamedStep (P.sliding of at from i n up) from i.names
unfolding P.sliding
slide-named of at from i n up = record { root = refl; index = refl; names = refl }

-- whole signals and locals
pub signal-path : (of : Layout) (at n : ℕ) (a : Around) → IsRootPath (P.signal of at n) of n a
unfolding P.signal
signal-path of at n a = record { base = refl; window = refl; wide = refl; stands = refl }

pub local-path : (of : Layout) (at n : ℕ) (a : Around) → IsRootPath (P.local of at n) of (local_number n) a
unfolding P.local
local-path of at n a = record { base = refl; window = refl; wide = refl; stands = refl }

-- each of them is a path
pub step-path : (e : Expr) (s : Step) (a : Around) → IsStep s e → IsPath (meaning e) a
step-path e s a is =
    let p = selects s e is in
    subst (λ (m : S.Meaning). IsPath m a) (sym p.is) (selected-is-path (layout e.of) e.spot.at p.path a)

signal-named : (of : Layout) (at n : ℕ) → IsNamed (P.signal of at n)
unfolding P.signal
signal-named of at n = record { root_names = record { number = n; of = of } ∷ []; is = refl }

local-named : (of : Layout) (at n : ℕ) → IsNamed (P.local of at n)
unfolding P.local
local-named of at n = record { root_names = record { number = local_number n; of = of } ∷ []; is = refl }

named-at : (e : Expr) (m : S.Meaning) → meaning e ≡ m → IsNamed m → IsNamed (meaning e)
named-at e m is h = subst IsNamed (sym is) h

-- its names are those of what it stands on and of its indices
pub path-named : (e : Expr) (s : Step) → IsStep s e → IsNamed (meaning e)
path-named e (Q.Signal n) is = named-at e _ (same-Signal e n is) (signal-named (layout e.of) e.spot.at n)
path-named e (Q.Local n) is = named-at e _ (same-Local e n is) (local-named (layout e.of) e.spot.at n)
path-named e (Q.Member x k) is = named-at e _ (same-Member e x.now k is) (step-named _ (meaning x.now) [] (member-named (layout e.of) e.spot.at (meaning x.now) k))
path-named e (Q.Index x i) is = named-at e _ (same-Index e x.now i.now is) (step-named _ (meaning x.now) _ (index-named (layout e.of) e.spot.at (meaning x.now) (meaning i.now)))
path-named e (Q.Part x left right) is = named-at e _ (same-Part e x.now left right is) (step-named _ (meaning x.now) [] (part-named (layout e.of) e.spot.at (meaning x.now) left right))
path-named e (Q.Slide x i n up) is = named-at e _ (same-Slide e x.now i.now n up is) (step-named _ (meaning x.now) _ (slide-named (layout e.of) e.spot.at (meaning x.now) (meaning i.now) n up))
