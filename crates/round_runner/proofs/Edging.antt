-- The updates of edge processes, process by process.
use Rattle.std.proofs.Common.{◌≡◌, ℕ, ◌+◌, ◌<◌, ◌≤◌, Bool, true, false, List, length, sym, ap, ◌∙◌}
use Rattle.b4_core.specs.declared.bit.Bit4.{Bit4}
use Rattle.row_machine.specs.Valuation.{Valuation, changed, put, put_each, only_if}
use Rattle.row_machine.specs.Machine.{EdgeProcess, Machine}
use Rattle.round_runner.specs.Stores.{holding, widths}
use Rattle.round_runner.specs.Parts.{HasEdge, Updates}
use Rattle.round_runner.specs.Rows.{AfterEdges}
use Rattle.round_runner.proofs.Elements.{element}
use Rattle.round_runner.proofs.Sequences.{Going, going_on, gone}

pub record Edging (d : Machine) (last held made : List (List Bit4)) (i : ℕ) : Type 0 where
  pub values : Going (λ (e : EdgeProcess). only_if (e.runs (holding last) (holding held)) (e.updates (holding held))) d.edges i (holding held) (holding made)
  pub shape : widths made ≡ widths held

pub edging_at_start : (d : Machine) (last held made : List (List Bit4)) → made ≡ held → Edging d last held made 0
edging_at_start d last held made e = record {
  values = record { rest = ap (λ vs. put_each (λ (e : EdgeProcess). only_if (e.runs (holding last) (holding held)) (e.updates (holding held))) d.edges (holding vs)) e };
  shape = ap widths e;
}

runs_now : (e : EdgeProcess) (last w : Valuation) (b : Bool) → b ≡ e.runs last w → b ≡ true → only_if (e.runs last w) (e.updates w) ≡ e.updates w
runs_now e last w b is on = λ k q. only_if ((sym is ∙ on) k) (e.updates w) q

runs_not : (e : EdgeProcess) (last w now : Valuation) (b : Bool) → b ≡ e.runs last w → b ≡ false → put (only_if (e.runs last w) (e.updates w)) now ≡ now
runs_not e last w now b is off = λ k q. changed (only_if ((sym is ∙ off) k) (e.updates w) q) (now q)

pub edging_updated : (d : Machine) (last held made next : List (List Bit4)) (i : ℕ) (b : Bool) → i < length d.edges → HasEdge d.edges i last held b → b ≡ true → Updates d.edges i held made next
    → Edging d last held made i → Edging d last held next (i + 1)
edging_updated d last held made next i b h has on updates going =
    let e = element d.edges i h in
    let change = updates.done e.0 e.1 in record {
      values =
          going_on (λ (e : EdgeProcess). only_if (e.runs (holding last) (holding held)) (e.updates (holding held))) d.edges i e.0 (holding held) (holding made) (holding next) e.1
          (change.values ∙ ap (λ c. put c (holding made)) (sym (runs_now e.0 (holding last) (holding held) b (has.told e.0 e.1) on)))
          going.values;
      shape = change.shape ∙ going.shape;
    }

pub edging_passed : (d : Machine) (last held made : List (List Bit4)) (i : ℕ) (b : Bool) → i < length d.edges → HasEdge d.edges i last held b → b ≡ false
    → Edging d last held made i → Edging d last held made (i + 1)
edging_passed d last held made i b h has off going =
    let e = element d.edges i h in record {
      values =
          going_on (λ (e : EdgeProcess). only_if (e.runs (holding last) (holding held)) (e.updates (holding held))) d.edges i e.0 (holding held) (holding made) (holding made) e.1
          (sym (runs_not e.0 (holding last) (holding held) (holding made) b (has.told e.0 e.1) off))
          going.values;
      shape = going.shape;
    }

pub edged : (d : Machine) (last held made : List (List Bit4)) (i : ℕ) → length d.edges ≤ i → Edging d last held made i → AfterEdges d last held made
edged d last held made i h going = record {
  values = gone (λ (e : EdgeProcess). only_if (e.runs (holding last) (holding held)) (e.updates (holding held))) d.edges i (holding held) (holding made) h going.values;
  shape = going.shape;
}
