-- The bits of a signal, and processes that assign all of theirs.
use Rattle.std.proofs.Common.{◌≡◌, ℕ, zero, suc, ◌<◌, ◌⊎◌, true, false, nat_lt, length, List, Some, None, refl, sym, ap, ◌∙◌, subst, inl, inr, arith}
use Rattle.std.proofs.lemmas.Bool.{ltb-true, ltb-false}
use Rattle.b4_core.specs.declared.bit.Bit4.{Bit4}
use Rattle.row_machine.specs.Valuation.{Place, Valuation, Member, has, only_if, each_bit, signal_bits}
use Rattle.row_machine.specs.Machine.{assignment}
use Rattle.row_machine.specs.Order.{Honest}
use Rattle.row_machine.proofs.Basics.{member-has, true_or_false}

pub length-signal_bits : (s w : ℕ) → length (signal_bits s w) ≡ w
length-signal_bits s zero = refl
length-signal_bits s (suc w) = ap suc (length-signal_bits s w)

-- a place is among a signal's bits if it is of this signal, and its bit lies below the width
pub signal_bits-member : (s w : ℕ) (q : Place) → Member (signal_bits s w) q → (q.signal ≡ s) × (q.bit < w)
signal_bits-member s zero q m = elim m [ ]
signal_bits-member s (suc w) q (inl e) = (ap (λ (p : Place). p.signal) e, omega (arith, ap (λ (p : Place). p.bit) e))
signal_bits-member s (suc w) q (inr m) = let r = signal_bits-member s w q m in (r.0, omega (arith, r.1))

pub member-signal_bits : (s w b : ℕ) → b < w → Member (signal_bits s w) (record { signal = s; bit = b })
member-signal_bits s zero b h = absurd (omega arith)
member-signal_bits s (suc w) b h = here (true_or_false (nat_lt b w)) (member-signal_bits s w b)
  where
    here : (nat_lt b w ≡ true) ⊎ (nat_lt b w ≡ false) → (b < w → Member (signal_bits s w) (record { signal = s; bit = b })) → Member (signal_bits s (suc w)) (record { signal = s; bit = b })
    here (inl t) rest = inr (rest (ltb-true b w t))
    here (inr f) rest = let e : b ≡ w = omega (arith, ltb-false b w f, h) in inl (λ i. record { signal = s; bit = e i })

pub has-signal_bits : (s w : ℕ) (q : Place) → q.signal ≡ s → q.bit < w → has (signal_bits s w) q ≡ true
has-signal_bits s w q same below =
    member-has (signal_bits s w) q (subst (λ n. Member (signal_bits s w) (record { signal = n; bit = q.bit })) (sym same) (member-signal_bits s w q.bit below))

-- the process assigns its bits in each run
pub assigned : (qs : List Place) (value : Place → Bit4) (q : Place) → has qs q ≡ true → each_bit qs value q ≡ Some (value q)
assigned qs value q h = ap (λ b. only_if b (λ p. Some (value p)) q) h

pub not_assigned : (qs : List Place) (value : Place → Bit4) (q : Place) → has qs q ≡ false → each_bit qs value q ≡ None
not_assigned qs value q h = ap (λ b. only_if b (λ p. Some (value p)) q) h

pub same_bits : (qs : List Place) (f g : Place → Bit4) → ((q : Place) → has qs q ≡ true → f q ≡ g q) → (q : Place) → each_bit qs f q ≡ each_bit qs g q
same_bits qs f g h q =
    elim (true_or_false (has qs q)) [
      | inl t ↦ assigned qs f q t ∙ ap Some (h q t) ∙ sym (assigned qs g q t)
      | inr n ↦ not_assigned qs f q n ∙ sym (not_assigned qs g q n)
    ]

pub assignment_honest : (reads writes : List Place) (value : Valuation → Place → Bit4)
    → ((v u : Valuation) → ((q : Place) → has reads q ≡ true → v q ≡ u q) → (q : Place) → has writes q ≡ true → value v q ≡ value u q)
    → Honest (assignment reads writes value)
assignment_honest reads writes value h = record {
  by_reads = λ v u alike. same_bits writes (value v) (value u) (h v u alike);
  within = λ v q n. not_assigned writes (value v) q n;
}
