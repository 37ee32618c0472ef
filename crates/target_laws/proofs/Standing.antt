-- Where paths stand that go on from others.
use Rattle.std.proofs.Common.{◌≡◌, ℕ, ◌+◌, ◌<◌, ◌≤◌, ◌^◌, pos, Option, None, refl, arith, ap, sym, ◌∙◌}
use Rattle.b4_core.specs.Vectors.{known}
use Rattle.row_machine.specs.Valuation.{Valuation}
use Rattle.picks.specs.Windows.{part, picked, whole}
use Rattle.sv_types.specs.Surroundings.{Around}
use Rattle.sv_types.specs.Meanings as S
use Rattle.sv_types.proofs.Picks.{picked-part}
use Rattle.v_meaning.specs.Scopes.{Scope}
use Rattle.v_meaning.specs.Values as T
use Rattle.lowering_laws.specs.Images.{NamesNone}
use Rattle.lowering_laws.specs.Placed.{IsPlaced}
use Rattle.lowering_laws.specs.Terms.{number_of_bits, advanced}
use Rattle.lowering_laws.proofs.Placements.{literal-placed, part-placed}
use Rattle.target_laws.specs.Standing.{IsKnown, IsInside, IsMoved}

pub inside-itself : (e : S.Meaning) (a : Around) → IsInside e e a 0
inside-itself e a = record { picks = λ j less. ap (picked (e.window a)) (omega arith); fits = omega arith }

inside-inside : (e from anchor : S.Meaning) (a : Around) (low below : ℕ) → IsInside e from a low → IsInside from anchor a below → IsInside e anchor a (below + low)
inside-inside e from anchor a low below h g =
    let fits = h.fits in
    let more = g.fits in
    record {
      picks = λ j less. h.picks j less ∙ g.picks (low + j) (omega arith) ∙ ap (picked (anchor.window a)) (omega arith);
      fits = omega arith;
    }

-- a part of a path
pub inside-none : (e from : S.Meaning) (a : Around) (low : ℕ) → IsInside e from a low → NamesNone from a → NamesNone e a
inside-none e from a low h none j less = (let fits = h.fits in h.picks j less ∙ none (low + j) (omega arith))

pub inside-known : (e from : S.Meaning) (a : Around) (low below bits : ℕ) → IsInside e from a low → IsKnown from a below bits → IsKnown e a (below + low) bits
inside-known e from a low below bits h known =
    let fits = h.fits in
    let more = known.fits in
    record {
      names = λ j less. h.picks j less ∙ known.names (low + j) (omega arith) ∙ ap (picked (whole bits)) (omega arith);
      fits = omega arith;
    }

pub inside-moved : (e from : S.Meaning) (a : Around) (low below : ℕ) (g : Option T.Meaning) (o : T.Meaning) (w bits : ℕ) (sc : Scope) (v : Valuation)
    → IsInside e from a low → IsMoved from a below g o w bits sc v → IsMoved e a (below + low) g o w bits sc v
inside-moved e from a low below g o w bits sc v h is = record { anchor = is.anchor; placed = is.placed; inside = inside-inside e from is.anchor a low below h is.inside; few = is.few }

-- paths that name the same bits stand at one place
placed-same : (e f : S.Meaning) (a : Around) (g : Option T.Meaning) (o : T.Meaning) (w bits : ℕ) (sc : Scope) (v : Valuation) → S.wide e ≡ S.wide f
    → ((j : ℕ) → j < S.wide e → picked (e.window a) j ≡ picked (f.window a) j) → IsPlaced f a g o w bits sc v → IsPlaced e a g o w bits sc v
placed-same e f a g o w bits sc v wide same h = record {
  width = h.width;
  unsigned = h.unsigned;
  long = h.long;
  yes = λ x k. (λ j less. same j less ∙ (h.yes x k).0 j (omega arith), (let fits = (h.yes x k).1 in omega arith));
  no = λ x j less. same j less ∙ h.no x j (omega arith);
  lost = λ x k j less. same j less ∙ h.lost x k j (omega arith);
}

-- the place of a path that stands at a known bit
pub known-placed : (e : S.Meaning) (a : Around) (below w bits : ℕ) (sc : Scope) (v : Valuation) → bits < 2 ^ w → IsKnown e a below bits
    → IsPlaced e a None (number_of_bits w below) w bits sc v
known-placed e a below w bits sc v small h = literal-placed e a below w bits sc v h.names h.fits small

-- of one that another place is moved for
pub moved-placed : (e : S.Meaning) (a : Around) (below : ℕ) (g : Option T.Meaning) (o : T.Meaning) (w bits : ℕ) (sc : Scope) (v : Valuation)
    → 1 ≤ w → w ≤ 128 → bits < 2 ^ w → IsMoved e a below g o w bits sc v → IsPlaced e a g (advanced o below w) w bits sc v
moved-placed e a below g o w bits sc v some narrow small h =
    let f : S.Meaning = record h.anchor { of = e.of; window = λ (b : Around). part (pos below) (S.wide e) (h.anchor.window b) } in
    placed-same e f a g (advanced o below w) w bits sc v refl
    (λ j less. h.inside.picks j less ∙ sym (picked-part below (S.wide e) (h.anchor.window a) j less))
    (part-placed f h.anchor a below g o w bits sc v some narrow small (record { window = refl; within = h.inside.fits }) h.placed)

-- and of one for which it isn't
pub first-placed : (e : S.Meaning) (a : Around) (below : ℕ) (g : Option T.Meaning) (o : T.Meaning) (w bits : ℕ) (sc : Scope) (v : Valuation)
    → below ≡ 0 → IsMoved e a below g o w bits sc v → IsPlaced e a g o w bits sc v
first-placed e a below g o w bits sc v none h =
    let inside = h.inside in
    let fits = inside.fits in
    let before = h.placed in
    record {
      width = before.width;
      unsigned = before.unsigned;
      long = before.long;
      yes = λ x k. (λ j less. at j less ∙ (before.yes x k).0 j (omega arith), (let within = (before.yes x k).1 in omega arith));
      no = λ x j less. at j less ∙ before.no x j (omega arith);
      lost = λ x k j less. at j less ∙ before.lost x k j (omega arith);
    }
  where
    at : (j : ℕ) → j < S.wide e → picked (e.window a) j ≡ picked (h.anchor.window a) j
    at j less = h.inside.picks j less ∙ ap (picked (h.anchor.window a)) (omega arith)

-- a path is a place of its own
pub placed-moved : (e : S.Meaning) (a : Around) (g : Option T.Meaning) (o : T.Meaning) (w bits : ℕ) (sc : Scope) (v : Valuation) → S.wide e ≤ bits → IsPlaced e a g o w bits sc v → IsMoved e a 0 g o w bits sc v
placed-moved e a g o w bits sc v few h = record { anchor = e; placed = h; inside = inside-itself e a; few = few }
