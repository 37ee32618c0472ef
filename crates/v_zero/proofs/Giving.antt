-- Values of `initial` put into a store, one after the other.
use Rattle.std.proofs.Common.{◌≡◌, ◌≢◌, ℕ, zero, suc, ◌==◌, Bool, true, false, cond, List, [], ◌∷◌, length, Option, Some, None, refl, sym, ap, ◌∙◌, arith, get_or-set_other, get_or-set_same, ◌<◌}
use Rattle.std.specs.Prelude.{slice_get, slice_set, slice_index_or}
use Rattle.std.proofs.Math.Path.{fun_ext}
use Rattle.std.proofs.lemmas.Bool.Decides.{nat_tests}
use Rattle.b4_core.specs.declared.bit.Bit4.{Bit4}
use Rattle.b4_core.specs.declared.bit.Bit4.TheVariants.{X}
use Rattle.row_machine.specs.Valuation.{Place, Valuation}
use Rattle.round_runner.specs.Stores.{holding, widths}
use Rattle.v_meaning.specs.Machine.{last_initial}
use Rattle.v_meaning.specs.Modules.{InitialValue}
use Rattle.v_zero.specs.Zero.{given_over}
use Rattle.v_zero.specs.Laws.{GivenHeld}

-- one value more
over-one : (i : InitialValue) (is : List InitialValue) (v : Valuation) → given_over (i ∷ is) v ≡ given_over is (given_over (i ∷ []) v)
over-one i is v = fun_ext (λ (q : Place). by q (last_initial is q.signal) (cond (i.number == q.signal) (Some i.value) None))
  where
    by : (q : Place) (o p : Option (List Bit4))
        → (elim (elim o as (λ x. Option (List Bit4)) [ None ↦ p | Some x ↦ Some x ]) as (λ x. Bit4) [ None ↦ v q | Some bits ↦ slice_index_or bits q.bit X ])
        ≡ (elim o as (λ x. Bit4) [ None ↦ elim p as (λ x. Bit4) [ None ↦ v q | Some bits ↦ slice_index_or bits q.bit X ] | Some bits ↦ slice_index_or bits q.bit X ])
    by q None p = refl
    by q (Some x) p = refl

-- a signal that is given a value
pub there : (vs : List (List Bit4)) (n w : ℕ) → slice_get (widths vs) n ≡ Some w → n < length vs
there [] n w h = absurd (cc)
there (v ∷ vs) zero w h = omega arith
there (v ∷ vs) (suc n) w h = let l = there vs n w h in omega (arith, l)

pub shape-set : (vs : List (List Bit4)) (n : ℕ) (x : List Bit4) → slice_get (widths vs) n ≡ Some (length x) → widths (slice_set vs n x) ≡ widths vs
shape-set [] n x h = refl
shape-set (v ∷ vs) zero x h = let e : length v ≡ length x = cc in ap (λ w. w ∷ widths vs) (sym e)
shape-set (v ∷ vs) (suc n) x h = ap (λ ws. length v ∷ ws) (shape-set vs n x h)

same-number : (a b : ℕ) → (a == b) ≡ true → a ≡ b
same-number a b h = grind (arith, nat_tests)

other-number : (a b : ℕ) → (a == b) ≡ false → b ≢ a
other-number a b h = grind (arith, nat_tests)

values-at : (vs : List (List Bit4)) (i : InitialValue) (q : Place) → i.number < length vs → holding (slice_set vs i.number i.value) q ≡ given_over (i ∷ []) (holding vs) q
values-at vs i q l = by (i.number == q.signal) refl
  where
    same : i.number ≡ q.signal → slice_index_or (slice_set vs i.number i.value) q.signal [] ≡ i.value
    same e = ap (λ n. slice_index_or (slice_set vs i.number i.value) n []) (sym e) ∙ get_or-set_same vs i.number i.value [] l

    by : (b : Bool) → (i.number == q.signal) ≡ b → holding (slice_set vs i.number i.value) q ≡ (elim (cond b (Some i.value) None) as (λ x. Bit4) [ None ↦ holding vs q | Some bits ↦ slice_index_or bits q.bit X ])
    by true e = ap (λ (v : List Bit4). slice_index_or v q.bit X) (same (same-number i.number q.signal e))
    by false e =
        let other : q.signal ≢ i.number = other-number i.number q.signal e in
        ap (λ (v : List Bit4). slice_index_or v q.bit X) (get_or-set_other vs i.number q.signal i.value [] other)

values-set : (vs : List (List Bit4)) (i : InitialValue) → slice_get (widths vs) i.number ≡ Some (length i.value) → holding (slice_set vs i.number i.value) ≡ given_over (i ∷ []) (holding vs)
values-set vs i h = fun_ext (λ (q : Place). values-at vs i q (there vs i.number (length i.value) h))

pub given-held : GivenHeld
given-held own d was vs first held = record {
  values = held.values ∙ ap (given_over d.initials) first.values;
  shape = held.shape ∙ first.shape;
}

-- a value is given, and the others are still to come
pub give-next : (i : InitialValue) (rest : List InitialValue) (now new : List (List Bit4)) (all : Valuation) → slice_get (widths now) i.number ≡ Some (length i.value) → new ≡ slice_set now i.number i.value → given_over (i ∷ rest) (holding now) ≡ all
    → given_over rest (holding new) ≡ all
give-next i rest now new all fits e h =
    ap (λ vs. given_over rest (holding vs)) e ∙ ap (given_over rest) (values-set now i fits) ∙ sym (over-one i rest (holding now)) ∙ h

pub give-none : (v : Valuation) → given_over [] v ≡ v
give-none v = fun_ext (λ (q : Place). refl)
