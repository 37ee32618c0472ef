-- The rounds of one settling.
use Rattle.std.proofs.Common.{◌≡◌, ◌≢◌, ℕ, zero, suc, ◌+◌, ◌-◌, ◌<◌, ◌≤◌, Bool, List, [], ◌∷◌, length, slice_index_or, refl, sym, ap, ◌∙◌, subst, inl, inr, arith}
use Rattle.std.proofs.lemmas.Bool.{cases_order}
use Rattle.b4_core.specs.declared.bit.Bit4.{Bit4}
use Rattle.b4_core.specs.declared.bit.Bit4.TheVariants.{X}
use Rattle.row_machine.specs.Valuation.{Place, Valuation}
use Rattle.row_machine.specs.Machine.{Machine, Started}
use Rattle.row_machine.specs.Places.{bits_from, vector_at}
use Rattle.row_machine.specs.Rounds.{round, after_rounds, written_bits, Reaches, ChangesABit}
use Rattle.row_machine.specs.Unsettled.{NeverRests}
use Rattle.round_runner.specs.declared.rounds.Change.{Change}
use Rattle.round_runner.specs.Stores.{holding, widths, vector_of, FirstChange}
use Rattle.round_runner.specs.Parts.{Marks}
use Rattle.round_runner.specs.Rounds.{IsRound, ComeToRest, GoOn}
use Rattle.round_runner.proofs.Compared.{width_at}

module _ (d : Machine) (s : Started) (base : Valuation) where
  after_more : (k : ℕ) (v : Valuation) → after_rounds d s base (suc k) v ≡ round d s base (after_rounds d s base k v)
  after_more zero v = refl
  after_more (suc k) v = after_more k (round d s base v)

  -- k rounds, each of which changed a bit
  pub record RanOn (k : ℕ) (v : Valuation) : Type 0 where
    pub reached : after_rounds d s base k base ≡ v
    pub changes : (n : ℕ) → n < k → ChangesABit d s base n

  ran_none : RanOn 0 base
  ran_none = record { reached = refl; changes = λ n h. absurd (omega arith) }

  changes_here : (k : ℕ) (v u : Valuation) (q : Place) → RanOn k v → u ≡ round d s base v → v q ≢ u q → ChangesABit d s base k
  changes_here k v u q ran is_round apart =
      let next : round d s base (after_rounds d s base k base) ≡ u = ap (round d s base) ran.reached ∙ sym is_round in
      (q, λ same. apart (ap (λ (w : Valuation). w q) (sym ran.reached) ∙ sym same ∙ ap (λ (w : Valuation). w q) next))

  up_to : (k : ℕ) → ((n : ℕ) → n < k → ChangesABit d s base n) → ChangesABit d s base k → (n : ℕ) → n < suc k → ChangesABit d s base n
  up_to k before here n h =
      elim (cases_order n k) [
        | inl e ↦ subst (ChangesABit d s base) (sym e) here
        | inr other ↦ elim other [ inl l ↦ before n l | inr l ↦ absurd (omega arith) ]
      ]

  ran_more : (k : ℕ) (v u : Valuation) (q : Place) → RanOn k v → u ≡ round d s base v → v q ≢ u q → RanOn (suc k) u
  ran_more k v u q ran is_round apart = record {
    reached = after_more k base ∙ ap (round d s base) ran.reached ∙ sym is_round;
    changes = up_to k ran.changes (changes_here k v u q ran is_round apart);
  }

  rests : (k : ℕ) (v u : Valuation) → k < written_bits d.combs + 1 → RanOn k v → u ≡ round d s base v → v ≡ u → Reaches d s base v
  rests k v u h ran is_round same = record { rounds = k; within = h; reached = ran.reached; stays = sym is_round ∙ sym same }

  never_rests : (v u : Valuation) (q : Place) → RanOn (written_bits d.combs) v → u ≡ round d s base v → v q ≢ u q → NeverRests d s base
  never_rests v u q ran is_round apart n h =
      up_to (written_bits d.combs) ran.changes (changes_here (written_bits d.combs) v u q ran is_round apart) n (omega arith)

-- The rounds so far, of which there may be `left` more.
pub record Running (d : Machine) (flags : List Bool) (base now : List (List Bit4)) (left : ℕ) : Type 0 where
  pub within : left ≤ written_bits d.combs
  pub ran : (s : Started) → Marks d.combs s flags → RanOn d s (holding base) (written_bits d.combs - left) (holding now)
  pub shape : widths now ≡ widths base

pub running_at_start : (d : Machine) (flags : List Bool) (base now : List (List Bit4)) (left : ℕ) → now ≡ base → left ≡ written_bits d.combs → Running d flags base now left
running_at_start d flags base now left e all =
    let none : 0 ≡ written_bits d.combs - left = omega arith in record {
      within = omega arith;
      ran = λ s m.
          subst (λ k. RanOn d s (holding base) k (holding now)) none
          (subst (λ vs. RanOn d s (holding base) 0 (holding vs)) (sym e) (ran_none d s (holding base)));
      shape = ap widths e;
    }

pub running_on : (d : Machine) (flags : List Bool) (base now next : List (List Bit4)) (left : ℕ) (q : Place) → left ≢ 0 → IsRound d flags base now next → holding now q ≢ holding next q
    → Running d flags base now left → Running d flags base next (left - 1)
running_on d flags base now next left q some made apart running =
    let within = running.within in
    let count : suc (written_bits d.combs - left) ≡ written_bits d.combs - (left - 1) = omega arith in record {
      within = omega arith;
      ran = λ s m.
          subst (λ k. RanOn d s (holding base) k (holding next)) count
          (ran_more d s (holding base) (written_bits d.combs - left) (holding now) (holding next) q (running.ran s m) (made.values s m) apart);
      shape = made.shape;
    }

pub come_to_rest : (d : Machine) (flags : List Bool) (base now next : List (List Bit4)) (left : ℕ) → IsRound d flags base now next → ((s : Started) → Marks d.combs s flags → holding now ≡ holding next)
    → Running d flags base now left → ComeToRest d flags base now
come_to_rest d flags base now next left made same running = record {
  reached = λ s m.
      rests d s (holding base) (written_bits d.combs - left) (holding now) (holding next) (omega arith) (running.ran s m) (made.values s m) (same s m);
  shape = running.shape;
}

-- the bits of a vector
bits_are : (w : Valuation) (n k : ℕ) (v : List Bit4) → ((j : ℕ) → w (record { signal = n; bit = k + j }) ≡ slice_index_or v j X) → bits_from w n k (length v) ≡ v
bits_are w n k [] h = refl
bits_are w n k (b ∷ v) h =
    let here : k ≡ k + 0 = omega arith in
    let rest = bits_are w n (suc k) v (λ j. let e : suc k + j ≡ k + suc j = omega arith in ap (λ m. w (record { signal = n; bit = m })) e ∙ h (suc j)) in
    λ i. (ap (λ m. w (record { signal = n; bit = m })) here ∙ h 0) i ∷ rest i

vector_is : (vs : List (List Bit4)) (n w : ℕ) → w ≡ length (vector_of vs n) → vector_of vs n ≡ vector_at (holding vs) n w
vector_is vs n w e =
    sym (bits_are (holding vs) n 0 (vector_of vs n) (λ j. let z : 0 + j ≡ j = omega arith in ap (λ k. slice_index_or (vector_of vs n) k X) z))
    ∙ ap (vector_at (holding vs) n) (sym e)

pub go_on : (d : Machine) (flags : List Bool) (base now next : List (List Bit4)) (left n : ℕ) (c : Change) → left ≡ 0 → IsRound d flags base now next → FirstChange now next n
    → c.signal ≡ n → c.before ≡ vector_of now n → c.after ≡ vector_of next n → Running d flags base now left → GoOn d flags base c
go_on d flags base now next left n c over made change signal before after running = record {
  never = λ s m. never_rests d s (holding base) (holding now) (holding next) place (at_end s m) (made.values s m) change.differs;
  last = λ s m.
      let is_before = (at_end s m).reached in
      let is_after : round d s (holding base) (after_rounds d s (holding base) (written_bits d.combs) (holding base)) ≡ holding next = ap (round d s (holding base)) is_before ∙ sym (made.values s m) in record {
        before_is =
            before ∙ vector_is now n (width n) (now_width n)
            ∙ (λ i. vector_at (sym is_before i) (sym signal i) (width (sym signal i)));
        after_is =
            after ∙ vector_is next n (width n) (next_width n)
            ∙ (λ i. vector_at (sym is_after i) (sym signal i) (width (sym signal i)));
        apart = λ same. change.differs (ap (λ v. slice_index_or v change.bit X) (sym before ∙ same ∙ after));
        first = λ q h.
            ap (λ (v : Valuation). v q) is_after
            ∙ sym (ap (λ v. slice_index_or v q.bit X) (change.before q.signal (omega (arith, signal))))
            ∙ sym (ap (λ (v : Valuation). v q) is_before);
      };
}
  where
    place : Place
    place = record { signal = n; bit = change.bit }

    at_end : (s : Started) → Marks d.combs s flags → RanOn d s (holding base) (written_bits d.combs) (holding now)
    at_end s m = subst (λ k. RanOn d s (holding base) k (holding now)) (let z : written_bits d.combs - left ≡ written_bits d.combs = omega arith in z) (running.ran s m)

    width : ℕ → ℕ
    width k = slice_index_or (widths base) k 0

    now_width : (k : ℕ) → width k ≡ length (vector_of now k)
    now_width k = ap (λ ws. slice_index_or ws k 0) (sym running.shape) ∙ width_at now k

    next_width : (k : ℕ) → width k ≡ length (vector_of next k)
    next_width k = ap (λ ws. slice_index_or ws k 0) (sym made.shape) ∙ width_at next k
