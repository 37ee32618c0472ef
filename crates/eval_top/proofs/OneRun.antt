-- A run over rows comes to one trace, or fails in one way, and not both.
use Rattle.std.proofs.Common.{◌≡◌, ◌⊎◌, ℕ, zero, suc, ◌<◌, List, [], ◌∷◌, map, slice_index_or, refl, sym, ap, subst, ◌∙◌, inl, inr, arith}
use Rattle.std.specs.List.{All}
use Rattle.std.proofs.lemmas.List.Elements.{All-head, All-tail}
use Rattle.b4_core.specs.declared.bit.Bit4.{Bit4}
use Rattle.row_machine.specs.Valuation.{Place, Valuation}
use Rattle.row_machine.specs.Machine.{Machine, Started}
use Rattle.row_machine.specs.Places.{bits_from}
use Rattle.row_machine.proofs.Laws.{one_round_trace, trace_is_settled, one_unsettled}
use Rattle.round_runner.specs.Stores.{holding, widths}
use Rattle.round_runner.specs.Rounds.{LastChange, before_last, after_last}
use Rattle.round_runner.specs.Rows.{row_of, IsTrace, IsUnsettled}
use Rattle.round_runner.specs.declared.rounds.Change.{Change}
use Rattle.eval_top.proofs.Stores.{same-store}

traces-same : (ws : List ℕ) (ts us : List (List (List Bit4))) → All (λ vs. widths vs ≡ ws) ts → All (λ vs. widths vs ≡ ws) us
    → map holding ts ≡ map holding us → ts ≡ us
traces-same ws [] [] a b e = refl
traces-same ws [] (u ∷ us) a b e = cc
traces-same ws (t ∷ ts) [] a b e = cc
traces-same ws (t ∷ ts) (u ∷ us) a b e =
    let first : holding t ≡ holding u = cc in
    let rest : map holding ts ≡ map holding us = cc in
    let head : t ≡ u = same-store t u (All-head (λ vs. widths vs ≡ ws) t ts a ∙ sym (All-head (λ vs. widths vs ≡ ws) u us b)) first in
    let tail : ts ≡ us = traces-same ws ts us (All-tail (λ vs. widths vs ≡ ws) t ts a) (All-tail (λ vs. widths vs ≡ ws) u us b) rest in
    cc

-- bits of a signal that two valuations agree on
bits-same : (v u : Valuation) (signal k w : ℕ) → ((q : Place) → q.signal ≡ signal → v q ≡ u q) → bits_from v signal k w ≡ bits_from u signal k w
bits-same v u signal k zero same = refl
bits-same v u signal k (suc w) same =
    let here = same (record { signal = signal; bit = k }) refl in
    let rest = bits-same v u signal (suc k) w same in
    cc

-- two numbers
pub order : (i j : ℕ) → (i ≡ j) ⊎ (i < j) ⊎ (j < i)
order zero zero = inl refl
order zero (suc j) = inr (inl (omega arith))
order (suc i) zero = inr (inr (omega arith))
order (suc i) (suc j) = elim (order i j) [ inl e ↦ inl (ap suc e) | inr r ↦ elim r [ inl l ↦ inr (inl (omega arith)) | inr l ↦ inr (inr (omega arith)) ] ]

module _ (d : Machine) (ws ns : List ℕ) (rows : List (List (List Bit4))) where
  pub one-trace : (ts us : List (List (List Bit4))) → IsTrace d ws ns rows ts → IsTrace d ws ns rows us → ts ≡ us
  one-trace ts us a b = traces-same ws ts us a.shape b.shape (one_round_trace d (map (row_of ns) rows) (map holding us) (map holding ts) b.values a.values)

  pub trace-settles : (ts : List (List (List Bit4))) (row : ℕ) (c : Change) → IsTrace d ws ns rows ts → IsUnsettled d ws ns rows row c → ⊥
  trace-settles ts row c a b = trace_is_settled d (map (row_of ns) rows) (map holding ts) row b.started b.base a.values b.unsettled

  -- the first signal that a round changes is one
  earlier : (s : Started) (base : Valuation) (c e : Change) → LastChange d s base ws c → LastChange d s base ws e → c.signal < e.signal → ⊥
  earlier s base c e x y less =
      x.apart (x.before_is
      ∙ bits-same (before_last d s base) (after_last d s base) c.signal 0 (slice_index_or ws c.signal 0)
      (λ q at. sym (y.first q (omega (arith, at))))
      ∙ sym x.after_is)

  same-signal : (s : Started) (base : Valuation) (c e : Change) → LastChange d s base ws c → LastChange d s base ws e → c.signal ≡ e.signal
  same-signal s base c e x y = by (order c.signal e.signal)
    where
      by : (c.signal ≡ e.signal) ⊎ (c.signal < e.signal) ⊎ (e.signal < c.signal) → c.signal ≡ e.signal
      by (inl same) = same
      by (inr (inl less)) = absurd (earlier s base c e x y less)
      by (inr (inr more)) = absurd (earlier s base e c y x more)

  pub one-failure : (row other : ℕ) (c e : Change) → IsUnsettled d ws ns rows row c → IsUnsettled d ws ns rows other e → (row ≡ other) × (c.signal ≡ e.signal)
  one-failure row other c e a b =
      let one = one_unsettled d (map (row_of ns) rows) other row b.started a.started b.base a.base b.unsettled a.unsettled in
      let last : LastChange d a.started a.base ws e =
      subst (λ (s : Started). LastChange d s a.base ws e) (sym one.1)
      (subst (λ (base : Valuation). LastChange d b.started base ws e) (sym one.2) b.last) in
      (one.0, same-signal a.started a.base c e a.last last)
