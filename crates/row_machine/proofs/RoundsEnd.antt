-- The rounds of a machine reach a valuation, or each of the first `round_limit` rounds changes a bit.
use Rattle.std.proofs.Common.{◌≡◌, ◌≢◌, ℕ, zero, suc, ◌<◌, ◌⊎◌, Bool, true, false, not, refl, sym, ap, ◌∙◌, subst, inl, inr, arith}
use Rattle.std.proofs.lemmas.Bool.{not-true, not_from_false, cases_order}
use Rattle.std.specs.List.{list_any}
use Rattle.b4_core.specs.declared.bit.Bit4.{Bit4}
use Rattle.b4_core.specs.declared.bit.Bit4.TheVariants.{Zero, One, X, Z}
use Rattle.row_machine.specs.Valuation.{Place, Valuation, Member, has, NoneWrites}
use Rattle.row_machine.specs.Machine.{Process, Machine, Started}
use Rattle.row_machine.specs.Settle.{same_bit, differs}
use Rattle.row_machine.specs.Order.{WritesOwn}
use Rattle.row_machine.specs.Rounds.{round, after_rounds, round_limit, Reaches, ChangesABit}
use Rattle.row_machine.proofs.Basics.{true_or_false, clash, has-member, member-any, any-member}
use Rattle.row_machine.proofs.Writes.{writer}
use Rattle.row_machine.proofs.Told.{of_process, nobody_writes}

same_bit-itself : (b : Bit4) → same_bit b b ≡ true
same_bit-itself Zero = refl
same_bit-itself One = refl
same_bit-itself X = refl
same_bit-itself Z = refl

same_bit-true : (a b : Bit4) → same_bit a b ≡ true → a ≡ b
same_bit-true Zero Zero e = refl
same_bit-true One One e = refl
same_bit-true X X e = refl
same_bit-true Z Z e = refl
same_bit-true Zero One e = clash false e refl
same_bit-true Zero X e = clash false e refl
same_bit-true Zero Z e = clash false e refl
same_bit-true One Zero e = clash false e refl
same_bit-true One X e = clash false e refl
same_bit-true One Z e = clash false e refl
same_bit-true X Zero e = clash false e refl
same_bit-true X One e = clash false e refl
same_bit-true X Z e = clash false e refl
same_bit-true Z Zero e = clash false e refl
same_bit-true Z One e = clash false e refl
same_bit-true Z X e = clash false e refl

pub same_bit-false : (a b : Bit4) → same_bit a b ≡ false → a ≢ b
same_bit-false a b e same = clash (same_bit a b) (ap (same_bit a) (sym same) ∙ same_bit-itself a) e

module _ (d : Machine) (own : (p : Process) → Member d.combs p → WritesOwn p) (s : Started) (base : Valuation) where
  rest_stays : (n : ℕ) (v : Valuation) (q : Place) → NoneWrites of_process d.combs q → v q ≡ base q → after_rounds d s base n v q ≡ base q
  rest_stays zero v q none e = e
  rest_stays (suc n) v q none e = rest_stays n (round d s base v) q none (nobody_writes d own s v base q none)

  abbrev after : ℕ → Valuation
  after n = after_rounds d s base n base

  changes : ℕ → Process → Bool
  changes n p = differs p.writes (round d s base (after n)) (after n)

  same_where_written : (n : ℕ) → list_any (changes n) d.combs ≡ false → (p : Process) → Member d.combs p → (q : Place) → has p.writes q ≡ true → round d s base (after n) q ≡ after n q
  unfolding changes
  same_where_written n none p m q h =
      elim (true_or_false (same_bit (round d s base (after n) q) (after n q))) [
        | inl t ↦ same_bit-true (round d s base (after n) q) (after n q) t
        | inr f ↦ clash (list_any (changes n) d.combs)
            (member-any (changes n) d.combs p m
            (member-any (λ r. not (same_bit (round d s base (after n) r) (after n r))) p.writes q (has-member p.writes q h)
            (not_from_false (same_bit (round d s base (after n) q) (after n q)) f)))
            none
      ]

  stays : (n : ℕ) → list_any (changes n) d.combs ≡ false → round d s base (after n) ≡ after n
  stays n none = λ i q. at q i
    where
      at : (q : Place) → round d s base (after n) q ≡ after n q
      at q =
          elim (writer of_process d.combs q) [
            | inl w ↦ same_where_written n none w.0 w.1 q w.2
            | inr r ↦ nobody_writes d own s (after n) base q r ∙ sym (rest_stays n base q r refl)
          ]

  changed_bit : (n : ℕ) → list_any (changes n) d.combs ≡ true → ChangesABit d s base n
  unfolding changes
  changed_bit n more =
      let p = any-member (changes n) d.combs more in
      let q = any-member (λ r. not (same_bit (round d s base (after n) r) (after n r))) p.0.writes p.2 in
      (q.0, same_bit-false (round d s base (after n) q.0) (after n q.0) (not-true (same_bit (round d s base (after n) q.0) (after n q.0)) q.2))

  abbrev Still : ℕ → Type 0
  Still n = (k : ℕ) × (k < n) × (round d s base (after k) ≡ after k)

  abbrev AllChange : ℕ → Type 0
  AllChange n = (k : ℕ) → k < n → ChangesABit d s base k

  one_more : (n : ℕ) → ChangesABit d s base n → AllChange n → AllChange (suc n)
  one_more n here before k h =
      elim (cases_order k n) [
        | inl e ↦ subst (ChangesABit d s base) (sym e) here
        | inr other ↦ elim other [ inl l ↦ before k l | inr l ↦ absurd (omega arith) ]
      ]

  still_or_changing : (n : ℕ) → Still n ⊎ AllChange n
  still_or_changing zero = inr (λ k h. absurd (omega arith))
  still_or_changing (suc n) =
      elim (still_or_changing n) [
        | inl k ↦ inl (k.0, omega (arith, k.1), k.2)
        | inr before ↦ elim (true_or_false (list_any (changes n) d.combs)) [
          | inl more ↦ inr (one_more n (changed_bit n more) before)
          | inr none ↦ inl (n, omega arith, stays n none)
        ]
      ]

  pub reached_or_changing : ((v : Valuation) × Reaches d s base v) ⊎ AllChange (round_limit d)
  reached_or_changing =
      elim (still_or_changing (round_limit d)) [
        | inl k ↦ inl (after k.0, record { rounds = k.0; within = k.1; reached = refl; stays = k.2 })
        | inr all ↦ inr all
      ]

pub not_both : (d : Machine) (s : Started) (base v : Valuation) → Reaches d s base v → ((n : ℕ) → n < round_limit d → ChangesABit d s base n) → ⊥
not_both d s base v r all =
    let c = all r.rounds r.within in
    c.1 (λ i. (ap (round d s base) r.reached ∙ r.stays ∙ sym r.reached) i c.0)
