-- Steps of paths that are written.
use Rattle.std.proofs.Common.{◌≡◌, inl, inr, ℕ, ◌+◌, ◌-◌, ◌*◌, ◌<◌, ◌≤◌, ◌^◌, min, ℤ, length, Option, Some, None, arith, ap, sym, ◌∙◌, subst}
use Rattle.std.specs.Prelude.{slice_get}
use Rattle.std.proofs.lemmas.Nat.{mul-le}
use Rattle.row_machine.specs.Valuation.{Valuation}
use Rattle.picks.specs.Windows.{Window, whole}
use Rattle.sv_types.specs.declared.types.SvType.{SvType}
use Rattle.sv_types.specs.Layouts.{Layout, Part, layout, width_of, count_of}
use Rattle.sv_types.specs.Windows.{member_of, element_of}
use Rattle.sv_types.specs.Surroundings.{Around}
use Rattle.sv_types.specs.Meanings as S
use Rattle.sv_types.specs.Paths as P
use Rattle.v_meaning.specs.Scopes.{Scope}
use Rattle.v_meaning.specs.Values as T
use Rattle.v_meaning.specs.Values.{meaning}
use Rattle.eval_parts.specs.Places.{window_of}
use Rattle.eval_parts.specs.declared.paths.Window.{Window as Span}
use Rattle.lowering_laws.specs.Placed.{IsPlaced}
use Rattle.lowering_laws.specs.Terms.{number_of_bits, advanced, moved, and_guard}
use Rattle.lowering_laws.proofs.Offsets.{index-placed}
use Rattle.lowering_laws.proofs.PathSteps.{step-from-none}
use Rattle.lowering_laws.proofs.Wholes.{IsWhole, type-whole}
use Rattle.lowering_laws.proofs.WriteAt.{IsTight}
use Rattle.path_flatten.specs.declared.offsets.Index.{Index}
use Rattle.path_flatten.specs.declared.places.Place.{Place}
use Rattle.path_flatten.specs.declared.ranks.Rank.{Rank}
use Rattle.path_flatten.specs.Guards.{guard_meaning}
use Rattle.path_flatten.specs.Placing.{IsRankOf}
use Rattle.path_flatten.specs.Reading.{StaysIn}
use Rattle.path_flatten.specs.Stepping.{HasPart}
use Rattle.path_flatten.proofs.Sees.{tight-of, stays-of}
use Rattle.target_flatten.specs.declared.spots.Spot.{Spot}
use Rattle.target_flatten.specs.declared.spots.Spot.TheVariants as V
use Rattle.target_laws.specs.Distances.{moved_by}
use Rattle.target_laws.specs.Seeing.{IsSeen, IsFull}
use Rattle.target_laws.specs.Standing.{IsKnown, IsInside, IsMoved}
use Rattle.target_flatten.specs.Spots.{IsSpot, StandsWhole, StandsInside, Narrows, SpotsMember, SpotsElement, IsPlaceIn, SpotsIndex, SpotsPlaced, PlacedAt, RanksMoved}
use Rattle.target_laws.proofs.Filling.{full-inside, member-full, member-end, member-tight, element-full, element-end, element-stays}
use Rattle.target_laws.proofs.Seeing.{nothing-seen, seen-itself, seen-member, seen-element}
use Rattle.target_laws.proofs.Standing.{inside-none, inside-known, inside-moved, known-placed, moved-placed, first-placed, placed-moved}

pub whole-stands : StandsWhole (V.Known 0)
whole-stands e a w bits sc v names wide = record { names = names; fits = omega arith }

-- a narrower path
pub narrow-none : (old : Spot) (inner : Span) → inner.high ≤ inner.low → Narrows old inner V.Nowhere
narrow-none old inner none e from a w bits sc v small seen stays end full spot j less = nothing-seen (e.window a) (from.window a) (window_of inner) seen none j

module _ (e from : S.Meaning) (a : Around) (inner : Span) (some : inner.low < inner.high) (seen : IsSeen (e.window a) (from.window a) (window_of inner))
    (stays : StaysIn (window_of inner) (S.wide e)) (end : inner.high ≤ S.wide from) where
  cut-by : IsFull (window_of inner) (S.wide e) → IsInside e from a inner.low
  cut-by (inl none) = absurd (omega arith)
  cut-by (inr (shift, high)) = full-inside e from a (window_of inner) seen (tight-of (window_of inner) (S.wide e) stays) some shift high end

pub narrow-inside : (old s : Spot) (inner : Span) → inner.low < inner.high → StandsInside old inner.low s → Narrows old inner s
narrow-inside old s inner some stands e from a w bits sc v small seen stays end full spot = stands e from a w bits sc v small (cut-by e from a inner some seen stays end full) spot

-- some bits of a path
pub nowhere-inside : (low : ℕ) → StandsInside V.Nowhere low V.Nowhere
nowhere-inside low e from a w bits sc v small inside spot = inside-none e from a low inside spot

pub known-inside : (below low new : ℕ) → new ≡ min (below + low) (2 ^ 32 - 1) → StandsInside (V.Known below) low (V.Known new)
known-inside below low new is e from a w bits sc v small inside spot =
    let known = inside-known e from a low below bits inside spot in
    let fits = known.fits in
    let same : below + low ≡ new = omega arith in
    subst (λ k. IsKnown e a k bits) same known

pub moved-inside : (place : Place) (below low new : ℕ) → new ≡ min (below + low) (2 ^ 32 - 1) → StandsInside (V.Moved place below) low (V.Moved place new)
moved-inside place below low new is e from a w bits sc v small inside spot =
    let moved = inside-moved e from a low below (guard_meaning place.guard) (meaning place.offset) w bits sc v inside spot in
    let fits = moved.inside.fits in
    let few = moved.few in
    let same : below + low ≡ new = omega arith in
    subst (λ k. IsMoved e a k (guard_meaning place.guard) (meaning place.offset) w bits sc v) same moved

-- a member
part-wide : (n : ℕ) (m : Option Part) → HasPart n m → (p : Part) → m ≡ Some p → n ≡ length p.two_state
part-wide n None h p is = absurd (cc)
part-wide n (Some q) h p is = h ∙ ap (λ (x : Part). length x.two_state) (some-part q p is)
  where
    some-part : (x y : Part) → Some x ≡ Some y → x ≡ y
    some-part x y f = cc

module _ (old s : Spot) (t : SvType) (inner : Span) (narrows : Narrows old inner s) (e from : S.Meaning) (a : Around) (w bits : ℕ) (sc : Scope) (v : Valuation) (small : bits < 2 ^ 32)
    (of : from.of ≡ layout t) (some : 1 ≤ S.wide from) (stays : StaysIn (from.window a) (S.wide from)) (spot : IsSpot old from a w bits sc v) where
  from-wide : S.wide from ≡ width_of t
  from-wide = ap (λ (l : Layout). length l.two_state) of

  whole-type : IsWhole from.of
  whole-type = subst IsWhole (sym of) (type-whole t (let same = from-wide in omega arith))

  itself : IsSeen (from.window a) (from.window a) (whole (S.wide from))
  itself = seen-itself (from.window a) (S.wide from) (tight-of (from.window a) (S.wide from) stays)

  by-window : (p : Window) → window_of inner ≡ p → IsSeen (e.window a) (from.window a) p → StaysIn p (S.wide e) → p.high ≤ S.wide from → IsFull p (S.wide e) → IsSpot s e a w bits sc v
  by-window p is seen tight end full =
      narrows e from a w bits sc v small (subst (IsSeen (e.window a) (from.window a)) (sym is) seen) (subst (λ q. StaysIn q (S.wide e)) (sym is) tight)
      (subst (λ (q : Window). q.high ≤ S.wide from) (sym is) end) (subst (λ q. IsFull q (S.wide e)) (sym is) full) spot

pub member-spots : (old s : Spot) (t : SvType) (k : ℕ) (inner : Span) → window_of inner ≡ member_of (slice_get (layout t).members k) (whole (width_of t)) → Narrows old inner s → SpotsMember old t k s
member-spots old s t k inner window narrows e from a w bits sc v small of is part some stays spot =
    let m = slice_get from.of.members k in
    let same : window_of inner ≡ member_of (slice_get from.of.members k) (whole (S.wide from)) =
    window ∙ sym (λ i. member_of (slice_get (of i).members k) (whole (length (of i).two_state))) in
    let wide = part-wide (S.wide e) (slice_get from.of.members k) part in
    let all = whole-type old s t inner narrows e from a w bits sc v small of some stays spot in
    by-window old s t inner narrows e from a w bits sc v small of some stays spot (member_of m (whole (S.wide from))) same
    (subst (λ p. IsSeen p (from.window a) (member_of m (whole (S.wide from)))) (sym is.window)
    (seen-member (from.window a) (from.window a) (whole (S.wide from)) m (itself old s t inner narrows e from a w bits sc v small of some stays spot)))
    (stays-of (member_of m (whole (S.wide from))) (S.wide e) (member-tight m (S.wide e) (whole (S.wide from)) wide))
    (member-end m (S.wide from))
    (member-full m (S.wide e) (S.wide from) (all.members k) wide)

pub element-spots : (old s : Spot) (t : SvType) (z : Option ℤ) (inner : Span) → window_of inner ≡ element_of (layout t) z (whole (width_of t)) → Narrows old inner s → SpotsElement old t z s
element-spots old s t z inner window narrows e from a w bits sc v small of is wide some stays spot =
    let same : window_of inner ≡ element_of from.of z (whole (S.wide from)) = window ∙ sym (λ i. element_of (of i) z (whole (length (of i).two_state))) in
    let all = whole-type old s t inner narrows e from a w bits sc v small of some stays spot in
    by-window old s t inner narrows e from a w bits sc v small of some stays spot (element_of from.of z (whole (S.wide from))) same
    (subst (λ p. IsSeen p (from.window a) (element_of from.of z (whole (S.wide from)))) (sym is.window)
    (seen-element (from.window a) (from.window a) (whole (S.wide from)) from.of z (itself old s t inner narrows e from a w bits sc v small of some stays spot)))
    (stays-of (element_of from.of z (whole (S.wide from))) (S.wide e) (subst (IsTight (element_of from.of z (whole (S.wide from)))) (sym wide) (element-stays from.of z (whole (S.wide from)))))
    (element-end from.of z (S.wide from))
    (subst (IsFull (element_of from.of z (whole (S.wide from)))) (sym wide) (element-full from.of z (S.wide from) all.elements))

-- the place of a path
place-by : (e : S.Meaning) (a : Around) (g h : Option T.Meaning) (o p : T.Meaning) (w bits : ℕ) (sc : Scope) (v : Valuation)
    → g ≡ h → o ≡ p → IsPlaced e a h p w bits sc v → IsPlaced e a g o w bits sc v
place-by e a g h o p w bits sc v guard offset placed =
    subst (λ x. IsPlaced e a x o w bits sc v) (sym guard) (subst (λ x. IsPlaced e a h x w bits sc v) (sym offset) placed)

pub place-nowhere : (w : ℕ) → IsPlaceIn V.Nowhere w None
place-nowhere w e a bits sc v spot = spot

pub place-known : (below w : ℕ) (p : Place) → guard_meaning p.guard ≡ None → meaning p.offset ≡ number_of_bits w below → IsPlaceIn (V.Known below) w (Some p)
place-known below w p guard offset e a bits sc v some small spot =
    (place-by e a (guard_meaning p.guard) None (meaning p.offset) (number_of_bits w below) w bits sc v guard offset (known-placed e a below w bits sc v small spot), (let fits = spot.fits in omega arith))

pub place-first : (place : Place) (below w : ℕ) → below ≡ 0 → IsPlaceIn (V.Moved place below) w (Some place)
place-first place below w none e a bits sc v some small spot =
    (first-placed e a below (guard_meaning place.guard) (meaning place.offset) w bits sc v none spot, (let fits = spot.inside.fits in let few = spot.few in omega arith))

pub place-moved : (place : Place) (below w : ℕ) (p : Place) → w ≤ 128 → guard_meaning p.guard ≡ guard_meaning place.guard → meaning p.offset ≡ advanced (meaning place.offset) below w
    → IsPlaceIn (V.Moved place below) w (Some p)
place-moved place below w p narrow guard offset e a bits sc v some small spot = (
  place-by e a (guard_meaning p.guard) (guard_meaning place.guard) (meaning p.offset) (advanced (meaning place.offset) below w) w bits sc v guard offset
      (moved-placed e a below (guard_meaning place.guard) (meaning place.offset) w bits sc v some narrow small spot),
  (let fits = spot.inside.fits in let few = spot.few in omega arith),
)

-- an element
element-few : (of : Layout) (n : ℕ) → count_of of.left of.right * length of.element.two_state ≡ n → length of.element.two_state ≤ n
element-few of n all = (let k = mul-le 1 (length of.element.two_state) (count_of of.left of.right) (length of.element.two_state) (omega arith) (omega arith) in omega arith)

placed-spot : (p : Place) (r : Rank) (item w : ℕ) (s : Spot) → PlacedAt p r item w s → (e : S.Meaning) (a : Around) (bits : ℕ) (sc : Scope) (v : Valuation) → S.wide e ≤ bits
    → IsPlaced e a (and_guard (guard_meaning p.guard) (guard_meaning r.guard)) (moved (meaning p.offset) (meaning r.rank) item w) w bits sc v → IsSpot s e a w bits sc v
placed-spot p r item w V.Nowhere h e a bits sc v few placed = absurd h
placed-spot p r item w (V.Known below) h e a bits sc v few placed = absurd h
placed-spot p r item w (V.Moved q below) (none, guard, offset) e a bits sc v few placed =
    subst (λ k. IsMoved e a k (guard_meaning q.guard) (meaning q.offset) w bits sc v) (sym none)
    (placed-moved e a (guard_meaning q.guard) (meaning q.offset) w bits sc v few
    (place-by e a (guard_meaning q.guard) (and_guard (guard_meaning p.guard) (guard_meaning r.guard)) (meaning q.offset) (moved (meaning p.offset) (meaning r.rank) item w) w bits sc v guard offset placed))

pub index-spots : (old : Spot) (x : Index) (t : SvType) (d : ℤ) (w item : ℕ) (place : Option Place) (r : Rank) (s : Spot) → w ≤ 128 → item ≡ length (layout t).element.two_state
    → IsPlaceIn old w place → RanksMoved x t d w r → SpotsPlaced place r item w s → SpotsIndex old x t d w s
index-spots old x t d w item None r s narrow size there ranks is e from i a bits sc v small room of step wide some index spot =
    let from_wide : S.wide from ≡ width_of t = ap (λ (l : Layout). length l.two_state) of in
    let all = subst IsWhole (sym of) (type-whole t (omega arith)) in
    subst (λ (y : Spot). IsSpot y e a w bits sc v) (sym is)
    (step-from-none e from a (moved_by (P.index_of i a) d) (record { window = step.window; wide = wide; all = all.elements }) (there from a bits sc v spot))
index-spots old x t d w item (Some p) r s narrow size there ranks is e from i a bits sc v small room of step wide some index spot =
    let from_wide : S.wide from ≡ width_of t = ap (λ (l : Layout). length l.two_state) of in
    let all = subst IsWhole (sym of) (type-whole t (omega arith)) in
    let z = moved_by (P.index_of i a) d in
    let one : 1 ≤ w = (let more = room.index in omega arith) in
    let placed = there from a bits sc v one small spot in
    let ranked : IsRankOf r from.of (moved_by (P.index_of i a) d) w sc v = subst (λ l. IsRankOf r l (moved_by (P.index_of i a) d) w sc v) (sym of) (ranks i a sc v index room) in
    let same : item ≡ length from.of.element.two_state = size ∙ sym (ap (λ (l : Layout). length l.element.two_state) of) in
    let few = element-few from.of (S.wide from) all.elements in
    let less = placed.1 in
    placed-spot p r item w s is e a bits sc v (omega arith)
    (subst (λ k. IsPlaced e a (and_guard (guard_meaning p.guard) (guard_meaning r.guard)) (moved (meaning p.offset) (meaning r.rank) k w) w bits sc v) (sym same)
    (index-placed e from a (moved_by (P.index_of i a) d) (guard_meaning p.guard) (guard_meaning r.guard) (meaning p.offset) (meaning r.rank) w bits sc v one narrow small
    (record { window = step.window; wide = wide; all = all.elements }) ranked.1 placed.0 ranked.0))
