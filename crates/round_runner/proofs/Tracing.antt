-- The trace, row by row.
use Rattle.std.proofs.Common.{◌≡◌, ℕ, suc, ◌+◌, ◌≤◌, Bool, List, [], ◌∷◌, ◌++◌, length, map, drop, All, Some, slice_get, sym, ap, ◌∙◌, subst, arith}
use Rattle.std.proofs.lemmas.List.{map-append, append-nil, append_assoc, drop_all, length-append}
use Rattle.std.proofs.lemmas.List.Elements.{All-nil, All-push}
use Rattle.b4_core.specs.declared.bit.Bit4.{Bit4}
use Rattle.row_machine.specs.Valuation.{Valuation}
use Rattle.row_machine.specs.Machine.{Machine, Started, at_zero}
use Rattle.row_machine.specs.Trace.{TraceBy, done, row}
use Rattle.row_machine.specs.Rounds.{Reaches, HasRoundTrace}
use Rattle.row_machine.specs.Unsettled.{Unsettled, UnsettledFrom, in_later_row}
use Rattle.round_runner.specs.declared.rounds.Change.{Change}
use Rattle.round_runner.specs.declared.rounds.Ended.{Ended}
use Rattle.round_runner.specs.Stores.{holding, widths, Holds}
use Rattle.round_runner.specs.Parts.{Marks, StartsWith}
use Rattle.round_runner.specs.Rounds.{LastChange}
use Rattle.round_runner.specs.Rows.{row_of, Steps, StepFails, StepEnds, IsTrace, IsUnsettled}
use Rattle.round_runner.proofs.Elements.{rest_at}

abbrev Store : Type 0
Store = List (List Bit4)

-- from a started set, the rest of the rows goes on what was run
pub record GoesOn (d : Machine) (ns : List ℕ) (rows trace : List Store) (last held : Valuation) (s : Started) (i : ℕ) : Type 0 where
  pub traces : (vs : List Valuation) → TraceBy (Reaches d) d last held s (map (row_of ns) (drop i rows)) vs → HasRoundTrace d (map (row_of ns) rows) (map holding trace ++ vs)
  pub fails : (k : ℕ) (t : Started) (base : Valuation) → UnsettledFrom d last held s (map (row_of ns) (drop i rows)) k t base → Unsettled d (map (row_of ns) rows) (i + k) t base

pub record Tracing (d : Machine) (ws ns : List ℕ) (rows trace : List Store) (last held : Store) (flags : List Bool) (i : ℕ) : Type 0 where
  pub started : Started
  pub marks : Marks d.combs started flags
  pub goes_on : GoesOn d ns rows trace (holding last) (holding held) started i
  pub count : length trace ≡ i
  pub shapes : All (λ vs. widths vs ≡ ws) trace
  pub last_shape : widths last ≡ ws
  pub held_shape : widths held ≡ ws

pub tracing_at_start : (d : Machine) (ws ns : List ℕ) (rows trace : List Store) (last held : Store) (flags : List Bool) → Holds ws d.initial last → Holds ws d.start held → StartsWith d flags
    → trace ≡ [] → Tracing d ws ns rows trace last held flags 0
tracing_at_start d ws ns rows trace last held flags initial start zero_flags none = record {
  started = at_zero;
  marks = zero_flags.marks;
  goes_on = record {
    traces = λ vs t.
        subst (λ ts. HasRoundTrace d (map (row_of ns) rows) (map holding ts ++ vs)) (sym none)
        (subst (λ (v : Valuation). TraceBy (Reaches d) d v d.start at_zero (map (row_of ns) rows) vs) initial.values
        (subst (λ (v : Valuation). TraceBy (Reaches d) d (holding last) v at_zero (map (row_of ns) rows) vs) start.values t));
    fails = λ k t base f.
        let same : k ≡ 0 + k = omega arith in
        subst (λ j. Unsettled d (map (row_of ns) rows) j t base) same
        (subst (λ (v : Valuation). UnsettledFrom d v d.start at_zero (map (row_of ns) rows) k t base) initial.values
        (subst (λ (v : Valuation). UnsettledFrom d (holding last) v at_zero (map (row_of ns) rows) k t base) start.values f));
  };
  count = ap length none;
  shapes = subst (All (λ vs. widths vs ≡ ws)) (sym none) (All-nil (λ vs. widths vs ≡ ws));
  last_shape = initial.shape;
  held_shape = start.shape;
}

pub traced_row : (d : Machine) (ws ns : List ℕ) (rows trace next : List Store) (one last held now : Store) (before after : List Bool) (i : ℕ) → slice_get rows i ≡ Some one
    → Steps d ns one last held before after now → next ≡ trace ++ now ∷ [] → Tracing d ws ns rows trace last held before i → Tracing d ws ns rows next now now after (i + 1)
traced_row d ws ns rows trace next one last held now before after i at steps more tracing =
    let step = steps.steps tracing.started tracing.marks in
    let rest : map (row_of ns) (drop i rows) ≡ row_of ns one ∷ map (row_of ns) (drop (i + 1) rows) = ap (map (row_of ns)) (rest_at rows i one at) in
    let shape : widths now ≡ ws = steps.shape ∙ tracing.held_shape in record {
      started = step.0;
      marks = step.1;
      goes_on = record {
        traces = λ vs t.
            subst (HasRoundTrace d (map (row_of ns) rows))
            (sym (ap (λ ts. ts ++ vs) (ap (map holding) more ∙ map-append holding trace (now ∷ [])) ∙ append_assoc (map holding trace) (holding now ∷ []) vs))
            (tracing.goes_on.traces (holding now ∷ vs)
            (subst (λ rs. TraceBy (Reaches d) d (holding last) (holding held) tracing.started rs (holding now ∷ vs)) (sym rest) (row step.2 t)));
        fails = λ k t base f.
            let same : i + suc k ≡ i + 1 + k = omega arith in
            subst (λ j. Unsettled d (map (row_of ns) rows) j t base) same
            (tracing.goes_on.fails (suc k) t base
            (subst (λ rs. UnsettledFrom d (holding last) (holding held) tracing.started rs (suc k) t base) (sym rest) (in_later_row step.2 f)));
      };
      count = ap length more ∙ length-append trace (now ∷ []) ∙ ap (λ k. k + 1) tracing.count;
      shapes = subst (All (λ vs. widths vs ≡ ws)) (sym more) (All-push (λ vs. widths vs ≡ ws) trace now tracing.shapes shape);
      last_shape = shape;
      held_shape = shape;
    }

pub failed_row : (d : Machine) (ws ns : List ℕ) (rows trace : List Store) (one last held : Store) (before : List Bool) (i : ℕ) (c : Change) → slice_get rows i ≡ Some one
    → StepFails d ns one last held before c → Tracing d ws ns rows trace last held before i → IsUnsettled d ws ns rows (length trace) c
failed_row d ws ns rows trace one last held before i c at failing tracing =
    let f = failing.fails tracing.started tracing.marks (map (row_of ns) (drop (i + 1) rows)) in
    let rest : map (row_of ns) (drop i rows) ≡ row_of ns one ∷ map (row_of ns) (drop (i + 1) rows) = ap (map (row_of ns)) (rest_at rows i one at) in
    let same : i + 0 ≡ length trace = omega (arith, tracing.count) in record {
      started = f.0;
      base = f.1;
      unsettled =
          subst (λ j. Unsettled d (map (row_of ns) rows) j f.0 f.1) same
          (tracing.goes_on.fails 0 f.0 f.1
          (subst (λ rs. UnsettledFrom d (holding last) (holding held) tracing.started rs 0 f.0 f.1) (sym rest) f.2));
      last = subst (λ us. LastChange d f.0 f.1 us c) tracing.held_shape f.3;
    }

pub all_traced : (d : Machine) (ws ns : List ℕ) (rows trace : List Store) (last held : Store) (flags : List Bool) (i : ℕ) → length rows ≤ i
    → Tracing d ws ns rows trace last held flags i → IsTrace d ws ns rows trace
all_traced d ws ns rows trace last held flags i h tracing = record {
  values =
      subst (HasRoundTrace d (map (row_of ns) rows)) (append-nil (map holding trace))
      (tracing.goes_on.traces []
      (subst (λ rs. TraceBy (Reaches d) d (holding last) (holding held) tracing.started (map (row_of ns) rs) []) (sym (drop_all i rows h)) done));
  shape = tracing.shapes;
}

-- what a step said, of the values that stand behind its references
pub step_read : (d : Machine) (ns : List ℕ) (ended : Ended) (one last held one' last' held' : Store) (before before' after : List Bool) → one' ≡ one → last' ≡ last → held' ≡ held → before' ≡ before
    → StepEnds d ns one' last' held' before' after ended → StepEnds d ns one last held before after ended
step_read d ns ended one last held one' last' held' before before' after a b e f ends =
    subst (λ fs. StepEnds d ns one last held fs after ended) f
    (subst (λ vs. StepEnds d ns one last vs before' after ended) e
    (subst (λ vs. StepEnds d ns one vs held' before' after ended) b
    (subst (λ vs. StepEnds d ns vs last' held' before' after ended) a ends)))
