-- What is written of paths.
use Rattle.std.proofs.Common.{◌≡◌, ◌⊎◌, inl, inr, ℕ, zero, suc, ◌+◌, ◌-◌, ◌*◌, ◌<◌, ◌≤◌, ◌^◌, ◌==◌, max, min, Bool, true, false, ◌&&◌, cond, if◌then◌else◌, ℤ, pos, ◌-ℤ◌, ◌*ℤ◌, List, [], ◌∷◌, length, Option, Some, None, refl, arith, ap, sym, ◌∙◌, subst, true≢false}
use Rattle.std.specs.Prelude.{nat_le, nat_lt, int_le, replicate}
use Rattle.std.proofs.lemmas.List.{length-replicate}
use Rattle.std.proofs.lemmas.Bool.Decides.{nat_tests}
use Rattle.b4_core.specs.declared.bit.Bit4.{Bit4}
use Rattle.b4_core.specs.declared.bit.Bit4.TheVariants.{X}
use Rattle.b4_core.specs.declared.operators.OrdOp.TheVariants.{LessEqual}
use Rattle.b4_core.specs.Bits.{is_one, bit_of}
use Rattle.b4_core.specs.Vectors.{known, num, digits, ext}
use Rattle.b4_core.specs.Compare.{order_value}
use Rattle.row_machine.specs.Valuation.{Valuation}
use Rattle.picks.specs.Windows.{Window, whole, part, picked, at_least_0}
use Rattle.sv_types.specs.declared.types.SvType.{SvType}
use Rattle.sv_types.specs.Layouts.{layout, width_of, count_of}
use Rattle.sv_types.specs.Windows.{between, rank}
use Rattle.sv_types.specs.Surroundings.{Around}
use Rattle.sv_types.specs.Meanings as S
use Rattle.sv_types.proofs.Picks.{picked-part}
use Rattle.v_tree.specs.declared.expressions.VExtent.TheVariants.{Down}
use Rattle.v_tree.specs.declared.statements.VLval.{VLval}
use Rattle.v_meaning.specs.Scopes.{Scope, Named}
use Rattle.v_meaning.specs.Selects.{SelMeaning}
use Rattle.v_meaning.specs.Statements.{Target}
use Rattle.v_meaning.specs.Values as T
use Rattle.v_meaning.specs.Values.{meaning}
use Rattle.eval_parts.specs.Places.{window_of}
use Rattle.eval_parts.specs.declared.paths.Window.{Window as Span}
use Rattle.lowering_laws.specs.Images.{NamesNone}
use Rattle.lowering_laws.specs.Placed.{holds, IsPlaced, IsSure}
use Rattle.lowering_laws.specs.Reached.{IsWritten}
use Rattle.lowering_laws.specs.Terms as terms
use Rattle.lowering_laws.specs.Terms.{and_guard, at_most}
use Rattle.lowering_laws.proofs.Extensions.{ext-at}
use Rattle.lowering_laws.proofs.Numbers.{num-digits, known-digits, length-digits}
use Rattle.lowering_laws.proofs.Offsets.{truth-one, and-cases, and-false, holds-both}
use Rattle.lowering_laws.proofs.WriteAt.{IsTight, whole-tight, part-tight}
use Rattle.path_flatten.specs.declared.places.Place.{Place}
use Rattle.path_flatten.specs.Guards.{guard_meaning}
use Rattle.path_flatten.specs.Reading.{StaysIn}
use Rattle.path_flatten.proofs.Sees.{tight-of, stays-of}
use Rattle.target_flatten.specs.declared.aims.Aim.{Aim}
use Rattle.target_flatten.specs.declared.spots.Spot.{Spot}
use Rattle.target_flatten.specs.declared.spots.Spot.TheVariants as V
use Rattle.target_flatten.specs.declared.writes.Write.{Write}
use Rattle.target_laws.specs.Seeing.{IsSeen, IsCut}
use Rattle.target_flatten.specs.Spots.{IsSpot, IsPlaceIn, StandsInside}
use Rattle.target_laws.specs.Standing.{IsInside}
use Rattle.target_laws.specs.Vectors.{IsVector, vector_target}
use Rattle.target_flatten.specs.Owning.{writes_made}
use Rattle.target_flatten.specs.Writing.{in_vector, aimed_in, pieces_in, Selects, WritesPath, IsAimed, AimsKnown, AimsPlaced, AimsAt, WritesInner, WritesWhole, WritesBetween, select_at}
use Rattle.target_laws.proofs.Clipping.{clipped, none-clipped}
use Rattle.target_laws.proofs.Vectors.{whole-in, bit-in, range-in, offset-in, bit-offset-in, only-in}
use Rattle.target_laws.proofs.Seeing.{cut-out, nothing-seen, seen-itself, seen-between}
use Rattle.target_laws.proofs.Filling.{part-end}

-- a target by its parts
piece-by : (e : S.Meaning) (a : Around) (vec : Named) (sc : Scope) (v : Valuation) (g h : Option T.Meaning) (to of : Target) (n m : ℕ) → g ≡ h → to ≡ of → n ≡ m
    → WritesPath vec e a (record { guard = h; to = of; low = 0; width = m } ∷ []) sc v → WritesPath vec e a (record { guard = g; to = to; low = 0; width = n } ∷ []) sc v
piece-by e a vec sc v g h to of n m guard same size w =
    subst (λ x. WritesPath vec e a (record { guard = x; to = to; low = 0; width = n } ∷ []) sc v) (sym guard)
    (subst (λ (x : Target). WritesPath vec e a (record { guard = h; to = x; low = 0; width = n } ∷ []) sc v) (sym same)
    (subst (λ x. WritesPath vec e a (record { guard = h; to = of; low = 0; width = x } ∷ []) sc v) (sym size) w))

tight-path : (vec : Named) (bits n : ℕ) (e : S.Meaning) (a : Around) → IsAimed vec bits n e a → IsTight (e.window a) (S.wide e)
tight-path vec bits n e a h = subst (IsTight (e.window a)) (sym h.wide) (tight-of (e.window a) n h.stays)

-- a known place
known-all : (bits low n : ℕ) (to : VLval) → n ≡ bits → Selects to [] → AimsKnown bits low n to
known-all bits low n to all is vec e a sc v aim known =
    let fits = known.fits in
    let wide = aim.wide in
    let some = aim.some in
    piece-by e a vec sc v None None (in_vector vec to) (vector_target vec []) n (S.wide e) refl (is vec) (sym aim.wide)
    (whole-in e a vec bits sc v aim.vector (tight-path vec bits n e a aim) low known (omega arith) (omega arith))

pub known-whole : (bits low n : ℕ) (to : VLval) → (1 ≤ n → n ≤ bits → n ≡ bits) → Selects to [] → AimsKnown bits low n to
known-whole bits low n to all is vec e a sc v aim known =
    let fits = known.fits in
    let wide = aim.wide in
    let some = aim.some in
    known-all bits low n to (all some (omega arith)) is vec e a sc v aim known

pub known-bit : (bits low n : ℕ) (to : VLval) → n ≡ 1 → Selects to (terms.bit_at_number low ∷ []) → AimsKnown bits low n to
known-bit bits low n to one is vec e a sc v aim known =
    piece-by e a vec sc v None None (in_vector vec to) (vector_target vec (terms.bit_at_number low ∷ [])) n (S.wide e) refl (is vec) (sym aim.wide)
    (bit-in e a vec bits sc v aim.vector (tight-path vec bits n e a aim) low known (aim.wide ∙ one))

pub known-range : (bits low n left : ℕ) (to : VLval) → left ≡ min (low + (n - 1)) (2 ^ 32 - 1)
    → Selects to (T.decimal_base left (Some (Down low)) ∷ []) → AimsKnown bits low n to
known-range bits low n left to end is vec e a sc v aim known =
    let fits = known.fits in
    let wide = aim.wide in
    let some = aim.some in
    let small = aim.small in
    let same : left ≡ low + S.wide e - 1 = omega arith in
    piece-by e a vec sc v None None (in_vector vec to) (vector_target vec (terms.range low (S.wide e) ∷ [])) n (S.wide e) refl
    (is vec ∙ ap (λ k. vector_target vec (T.decimal_base k (Some (Down low)) ∷ [])) same) (sym aim.wide)
    (range-in e a vec bits sc v aim.vector (tight-path vec bits n e a aim) low known (omega arith))

-- an offset
pub placed-select : (bits : ℕ) (p : Place) (n w : ℕ) (x : Aim) → guard_meaning x.guard ≡ guard_meaning p.guard → Selects x.to (select_at (meaning p.offset) n ∷ [])
    → AimsPlaced bits p n w x
placed-select bits p n w x guard is vec e a sc v aim few placed = by (n == 1) refl
  where
    tight : IsTight (e.window a) (S.wide e)
    tight = tight-path vec bits n e a aim

    by : (b : Bool) → (n == 1) ≡ b → WritesPath vec e a (aimed_in vec x n ∷ []) sc v
    by true one =
        let is_one_bit : n ≡ 1 = grind (arith, nat_tests) in
        piece-by e a vec sc v (guard_meaning x.guard) (guard_meaning p.guard) (in_vector vec x.to) (vector_target vec (terms.bit_at_offset (meaning p.offset) ∷ [])) n (S.wide e) guard
        (is vec ∙ ap (λ c. vector_target vec (cond c (terms.bit_at_offset (meaning p.offset)) (terms.slide (meaning p.offset) n) ∷ [])) one) (sym aim.wide)
        (bit-offset-in e a vec bits sc v aim.vector tight (guard_meaning p.guard) (meaning p.offset) w placed (aim.wide ∙ is_one_bit))
    by false more =
        piece-by e a vec sc v (guard_meaning x.guard) (guard_meaning p.guard) (in_vector vec x.to) (vector_target vec (terms.slide (meaning p.offset) (S.wide e) ∷ [])) n (S.wide e) guard
        (is vec ∙ ap (λ c. vector_target vec (cond c (terms.bit_at_offset (meaning p.offset)) (terms.slide (meaning p.offset) n) ∷ [])) more
        ∙ ap (λ k. vector_target vec (terms.slide (meaning p.offset) k ∷ [])) (sym aim.wide)) (sym aim.wide)
        (offset-in e a vec bits sc v aim.vector tight (guard_meaning p.guard) (meaning p.offset) w placed)

-- the select of an offset
pub select-bit : (o : T.Meaning) (n : ℕ) (s : SelMeaning) → n ≡ 1 → s ≡ terms.bit_at_offset o → s ≡ select_at o n
select-bit o n s one is = is ∙ sym (ap (λ b. cond b (terms.bit_at_offset o) (terms.slide o n)) test)
  where
    test : (n == 1) ≡ true
    test = grind (arith, nat_tests)

pub select-bits : (o : T.Meaning) (n : ℕ) (s : SelMeaning) → (n ≡ 1 → ⊥) → s ≡ terms.slide o n → s ≡ select_at o n
select-bits o n s more is = is ∙ sym (ap (λ b. cond b (terms.bit_at_offset o) (terms.slide o n)) (by (n == 1) refl))
  where
    by : (b : Bool) → (n == 1) ≡ b → (n == 1) ≡ false
    by false h = h
    by true h = absurd (more (grind (arith, nat_tests)))

-- A name of one bit: the guard says that the offset is 0.
order-truth : (y : T.Meaning) (w last : ℕ) (sc : Scope) (v : Valuation) → y.width sc ≡ w → y.signed ≡ false
    → is_one (T.truth (at_most y w last) sc v) ≡ is_one (order_value LessEqual false (T.alone y sc v) (digits w last))
unfolding T.order T.literal
order-truth y w last sc v width unsigned =
    let long = length-digits w last in
    let larger : max (y.width sc) (length (digits w last)) ≡ w = omega arith in
    let sign : (y.signed && false) ≡ false = ap (λ b. b && false) unsigned in
    truth-one _
    ∙ (λ i. is_one (order_value LessEqual (sign i) (y.value (larger i) (sign i) sc v) (ext (larger i) (sign i) (digits w last))))
    ∙ ap (λ u. is_one (order_value LessEqual false (y.value w false sc v) u)) (ext-at w false (digits w last) long)
    ∙ sym (λ i. is_one (order_value LessEqual false (y.value (width i) (unsigned i) sc v) (digits w last)))

order-known : (last : ℕ) (u d : List Bit4) (b : Bool) → known d ≡ true → num d ≡ last → known u ≡ b
    → is_one (order_value LessEqual false u d) ≡ (b && nat_le (num u) last)
order-known last u d true known_d number is =
    (λ i. is_one (if is i && known_d i then bit_of (int_le (pos (num u)) (pos (number i))) else X)) ∙ test (num u) last
  where
    test : (k n : ℕ) → is_one (bit_of (int_le (pos k) (pos n))) ≡ nat_le k n
    test k n = by (nat_le k n) refl
      where
        by : (c : Bool) → nat_le k n ≡ c → is_one (bit_of (int_le (pos k) (pos n))) ≡ nat_le k n
        by true h = grind (arith, nat_tests)
        by false h = grind (arith, nat_tests)
order-known last u d false known_d number is =
    (λ i. is_one (if is i && known_d i then bit_of (int_le (pos (num u)) (pos (number i))) else X))

module _ (e : S.Meaning) (a : Around) (g : Option T.Meaning) (o : T.Meaning) (w : ℕ) (sc : Scope) (v : Valuation) (some : 1 ≤ S.wide e) (placed : IsPlaced e a g o w 1 sc v) where
  abbrev u : List Bit4
  u = T.alone o sc v

  first-is : holds (Some (at_most o w 0)) sc v ≡ (known u && nat_le (num u) 0)
  first-is = order-truth o w 0 sc v placed.width placed.unsigned ∙ order-known 0 u (digits w 0) (known u) (known-digits w 0) (num-digits w 0 (pow-some w)) refl
    where
      pow-some : (k : ℕ) → 0 < 2 ^ k
      pow-some zero = omega arith
      pow-some (suc k) = (let h = pow-some k in let d : 2 ^ suc k ≡ 2 * 2 ^ k = grind arith in omega arith)

  abbrev guard : Option T.Meaning
  guard = and_guard g (Some (at_most o w 0))

  both-are : holds guard sc v ≡ true → (holds g sc v ≡ true) × (known u ≡ true)
  both-are h =
      let parts = and-cases (holds g sc v) (holds (Some (at_most o w 0)) sc v) (sym (holds-both g (Some (at_most o w 0)) sc v) ∙ h) in
      (parts.0, (and-cases (known u) (nat_le (num u) 0) (sym first-is ∙ parts.1)).0)

  not-first : holds g sc v ≡ true → (known u ≡ false) ⊎ ((known u ≡ true) × (nat_le (num u) 0 ≡ false)) → NamesNone e a
  not-first h (inl k) = placed.lost h k
  not-first h (inr k) =
      let fits = (placed.yes h k.0).1 in
      let zero_is : num u ≡ 0 = omega arith in
      absurd (true≢false (sym (ap (λ x. nat_le x 0) zero_is) ∙ k.1))

  either-not : (holds g sc v ≡ false) ⊎ ((holds g sc v ≡ true) × (holds (Some (at_most o w 0)) sc v ≡ false)) → NamesNone e a
  either-not (inl h) = placed.no h
  either-not (inr h) = not-first h.0 (and-false (known u) (nat_le (num u) 0) (sym first-is ∙ h.1))

  pub first-placed : IsPlaced e a guard o w 1 sc v
  first-placed = record {
    width = placed.width;
    unsigned = placed.unsigned;
    long = placed.long;
    yes = λ h k. placed.yes (both-are h).0 k;
    no = λ h. either-not (and-false (holds g sc v) (holds (Some (at_most o w 0)) sc v) (sym (holds-both g (Some (at_most o w 0)) sc v) ∙ h));
    lost = λ h k. placed.lost (both-are h).0 k;
  }

  pub first-sure : IsSure guard o sc v
  first-sure h = (both-are h).1

pub placed-only : (bits : ℕ) (p : Place) (n w : ℕ) (x : Aim) → bits ≡ 1 → guard_meaning x.guard ≡ and_guard (guard_meaning p.guard) (Some (at_most (meaning p.offset) w 0))
    → Selects x.to [] → AimsPlaced bits p n w x
placed-only bits p n w x one guard is vec e a sc v aim few placed =
    let wide = aim.wide in
    let some = aim.some in
    let one_bit : S.wide e ≡ bits = omega arith in
    let there : IsPlaced e a (guard_meaning p.guard) (meaning p.offset) w 1 sc v = subst (λ b. IsPlaced e a (guard_meaning p.guard) (meaning p.offset) w b sc v) one placed in
    let g = guard_meaning p.guard in
    let o = meaning p.offset in
    let here = first-placed e a (guard_meaning p.guard) (meaning p.offset) w sc v (omega arith) there in
    piece-by e a vec sc v (guard_meaning x.guard) (and_guard (guard_meaning p.guard) (Some (at_most (meaning p.offset) w 0))) (in_vector vec x.to) (vector_target vec []) n (S.wide e) guard (is vec) (sym aim.wide)
    (only-in e a vec bits sc v aim.vector (tight-path vec bits n e a aim) (and_guard (guard_meaning p.guard) (Some (at_most (meaning p.offset) w 0))) (meaning p.offset) w
    (subst (λ b. IsPlaced e a (and_guard (guard_meaning p.guard) (Some (at_most (meaning p.offset) w 0))) (meaning p.offset) w b sc v) (sym one) here)
    one_bit (first-sure e a (guard_meaning p.guard) (meaning p.offset) w sc v (omega arith) there))

-- one that stands somewhere
pub at-known : (bits below n w : ℕ) (x : Aim) → guard_meaning x.guard ≡ None → AimsKnown bits below n x.to → AimsAt bits (V.Known below) n w (Some x)
at-known bits below n w x guard aims vec e a sc v aim some small spot =
    subst (λ g. WritesPath vec e a (record { guard = g; to = in_vector vec x.to; low = 0; width = n } ∷ []) sc v) (sym guard) (aims vec e a sc v aim spot)

pub at-place : (bits n w : ℕ) (s : Spot) (p : Place) (x : Aim) → IsPlaceIn s w (Some p) → AimsPlaced bits p n w x → AimsAt bits s n w (Some x)
at-place bits n w s p x there aims vec e a sc v aim some small spot =
    let placed = there e a bits sc v some small spot in
    let less = placed.1 in
    let wide = aim.wide in
    aims vec e a sc v aim (omega arith) placed.0

pub at-none : (bits n w : ℕ) (s : Spot) → IsPlaceIn s w None → AimsAt bits s n w None
at-none bits n w s there e a sc v spot = there e a bits sc v spot

-- The bits in range of a path that goes on from another one.
module _ (vec : Named) (bits : ℕ) (s t : Spot) (inner : Span) (w : ℕ) (some : inner.low < inner.high) (stands : StandsInside s inner.low t)
    (e from : S.Meaning) (a : Around) (sc : Scope) (v : Valuation) (vector : IsVector vec bits) (small : bits < 2 ^ 32) (one : 1 ≤ w) (room : bits < 2 ^ w)
    (seen : IsSeen (e.window a) (from.window a) (window_of inner)) (stays : StaysIn (window_of inner) (S.wide e)) (path_stays : StaysIn (e.window a) (S.wide e))
    (end : inner.high ≤ S.wide from) (spot : IsSpot s from a w bits sc v) where
  abbrev k : ℕ
  k = at_least_0 (pos inner.low -ℤ inner.shift)

  abbrev m : ℕ
  m = inner.high - inner.low

  cut : IsCut (e.window a) (from.window a) (S.wide e) k inner.low m
  cut = cut-out (e.window a) (from.window a) (window_of inner) (S.wide e) seen (tight-of (window_of inner) (S.wide e) stays) some

  path-tight : IsTight (e.window a) (S.wide e)
  path-tight = tight-of (e.window a) (S.wide e) path_stays

  -- the bits in range as a path of their own
  abbrev middle : S.Meaning
  middle = record e { of = record e.of { two_state = replicate m false }; window = λ (b : Around). part (pos k) m (e.window b) }

  middle-wide : S.wide middle ≡ m
  middle-wide = length-replicate m false

  middle-inside : IsInside middle from a inner.low
  middle-inside = record {
    picks = λ j less. (let same = middle-wide in picked-part k m (e.window a) j (omega arith) ∙ cut.picks j (omega arith));
    fits = (let same = middle-wide in omega arith);
  }

  middle-spot : IsSpot t middle a w bits sc v
  middle-spot = stands middle from a w bits sc v small middle-inside spot

  pub inner-some : (x : Aim) (low : ℕ) → low ≡ k → AimsAt bits t m w (Some x) → WritesPath vec e a (record (aimed_in vec x m) { low = low } ∷ []) sc v
  inner-some x low first aims =
      let aim : IsAimed vec bits m middle a = record {
        wide = middle-wide;
        some = omega arith;
        stays = stays-of (part (pos k) m (e.window a)) m (part-tight (pos k) m (e.window a));
        vector = vector;
        small = small;
      } in
      let written = aims vec middle a sc v aim one room middle-spot in
      let sum : k + 0 ≡ low = omega arith in
      subst (λ l. WritesPath vec e a (record (aimed_in vec x m) { low = l } ∷ []) sc v) sum
      (clipped (e.window a) (from.window a) (S.wide e) k inner.low m path-tight cut vec.number (aimed_in vec x m ∷ []) sc v
      (subst (λ n. IsWritten (part (pos k) m (e.window a)) n vec.number (aimed_in vec x m ∷ []) sc v) middle-wide written))

  pub inner-nowhere : AimsAt bits t m w None → WritesPath vec e a [] sc v
  inner-nowhere aims =
      none-clipped (e.window a) (S.wide e) vec.number sc v path-tight
      (λ j less. by j less (nat_lt j k) (nat_lt j (k + m)) refl refl)
    where
      by : (j : ℕ) → j < S.wide e → (b c : Bool) → nat_lt j k ≡ b → nat_lt j (k + m) ≡ c → picked (e.window a) j ≡ None
      by j less true c f g = cut.outside j less (inl (grind (arith, nat_tests)))
      by j less false false f g = cut.outside j less (inr (grind (arith, nat_tests)))
      by j less false true f g =
          let more : k ≤ j = grind (arith, nat_tests) in
          let below : j < k + m = grind (arith, nat_tests) in
          let at : j ≡ k + (j - k) = omega arith in
          let same = middle-wide in
          ap (picked (e.window a)) at ∙ sym (picked-part k m (e.window a) (j - k) (omega arith)) ∙ aims middle a sc v middle-spot (j - k) (omega arith)

-- no bit in range
pub inner-none : (bits : ℕ) (s : Spot) (inner : Span) (w : ℕ) (xs : List Write) → inner.high ≤ inner.low → xs ≡ [] → WritesInner bits s inner w xs
inner-none bits s inner w xs none is vec e from a sc v vector small one room seen stays path_stays end short spot =
    subst (λ ys. WritesPath vec e a (pieces_in vec ys) sc v) (sym is)
    (none-clipped (e.window a) (S.wide e) vec.number sc v (tight-of (e.window a) (S.wide e) path_stays)
    (λ j less. nothing-seen (e.window a) (from.window a) (window_of inner) seen none j))

pub inner-made : (bits : ℕ) (s t : Spot) (inner : Span) (w low n : ℕ) (x : Option Aim) (xs : List Write) → inner.low < inner.high → n ≡ inner.high - inner.low
    → low ≡ min (at_least_0 (pos inner.low -ℤ inner.shift)) (2 ^ 32 - 1) → StandsInside s inner.low t → AimsAt bits t n w x → xs ≡ writes_made x low n → WritesInner bits s inner w xs
inner-made bits s t inner w low n None xs some size first stands aims made vec e from a sc v vector small one room seen stays path_stays end short spot =
    subst (λ ys. WritesPath vec e a (pieces_in vec ys) sc v) (sym made)
    (inner-nowhere vec bits s t inner w some stands e from a sc v vector small one room seen stays path_stays end spot (subst (λ k. AimsAt bits t k w None) size aims))
inner-made bits s t inner w low n (Some x) xs some size first stands aims made vec e from a sc v vector small one room seen stays path_stays end short spot =
    let k = at_least_0 (pos inner.low -ℤ inner.shift) in
    let inside = (cut-out (e.window a) (from.window a) (window_of inner) (S.wide e) seen (tight-of (window_of inner) (S.wide e) stays) some).within in
    let same : low ≡ at_least_0 (pos inner.low -ℤ inner.shift) = omega arith in
    subst (λ ys. WritesPath vec e a (pieces_in vec ys) sc v) (sym made)
    (subst (λ k. WritesPath vec e a (record (aimed_in vec x k) { low = low } ∷ []) sc v) (sym size)
    (inner-some vec bits s t inner w some stands e from a sc v vector small one room seen stays path_stays end spot x low same (subst (λ k. AimsAt bits t k w (Some x)) size aims)))

-- all of a path, and the elements between two bounds
pub whole-inner : (bits : ℕ) (s : Spot) (n w : ℕ) (inner : Span) (xs : List Write) → window_of inner ≡ whole n → n < 2 ^ 32 → WritesInner bits s inner w xs → WritesWhole bits s n w xs
whole-inner bits s n w inner xs window few writes vec e a sc v vector small one room wide stays spot =
    let same : window_of inner ≡ whole (S.wide e) = window ∙ ap whole (sym wide) in
    let end : inner.high ≡ S.wide e = ap (λ (p : Window). p.high) same in
    writes vec e e a sc v vector small one room
    (subst (IsSeen (e.window a) (e.window a)) (sym same) (seen-itself (e.window a) (S.wide e) (tight-of (e.window a) (S.wide e) stays)))
    (subst (λ p. StaysIn p (S.wide e)) (sym same) (stays-of (whole (S.wide e)) (S.wide e) (whole-tight (S.wide e))))
    stays (omega arith) (omega arith) spot

pub between-inner : (bits : ℕ) (s : Spot) (t : SvType) (left right : ℤ) (w : ℕ) (inner : Span) (xs : List Write) → window_of inner ≡ between (layout t) left right (whole (width_of t))
    → WritesInner bits s inner w xs → WritesBetween bits s t left right w xs
between-inner bits s t left right w inner xs window writes vec e from a sc v vector small one room of is wide short some stays spot =
    let same : window_of inner ≡ between from.of left right (whole (S.wide from)) = window ∙ sym (λ i. between (of i) left right (whole (length (of i).two_state))) in
    let item = length from.of.element.two_state in
    let tight : (p : Window) → IsTight (between from.of left right p) (S.wide e) = λ p.
    subst (IsTight (between from.of left right p)) (sym wide) (part-tight (rank from.of right *ℤ pos (length from.of.element.two_state)) (count_of left right * length from.of.element.two_state) p) in
    writes vec e from a sc v vector small one room
    (subst (IsSeen (e.window a) (from.window a)) (sym same)
    (subst (λ p. IsSeen p (from.window a) (between from.of left right (whole (S.wide from)))) (sym is.window)
    (seen-between (from.window a) (from.window a) (whole (S.wide from)) from.of left right (seen-itself (from.window a) (S.wide from) (tight-of (from.window a) (S.wide from) stays)))))
    (subst (λ p. StaysIn p (S.wide e)) (sym same) (stays-of (between from.of left right (whole (S.wide from))) (S.wide e) (tight (whole (S.wide from)))))
    (subst (λ p. StaysIn p (S.wide e)) (sym is.window) (stays-of (between from.of left right (from.window a)) (S.wide e) (tight (from.window a))))
    (subst (λ (p : Window). p.high ≤ S.wide from) (sym same) (part-end (rank from.of right *ℤ pos (length from.of.element.two_state)) (count_of left right * length from.of.element.two_state) (S.wide from)))
    short spot
