-- Processes of a circuit are run as those of its machine.
use Rattle.std.proofs.Common.{◌≡◌, ℕ, ◌<◌, Bool, List, length, map, Some, slice_get, get_or, sym, ap, ◌∙◌, subst, arith}
use Rattle.std.specs.List.{list_any}
use Rattle.std.specs.Prelude.{Result, Ok, Err, IfOk, OnOk}
use Rattle.std.proofs.lemmas.Option.{slice_get_within, get_or_from_slice_get}
use Rattle.b4_core.specs.declared.bit.Bit4.{Bit4}
use Rattle.row_machine.specs.Machine as M
use Rattle.row_machine.specs.Settle.{differs}
use Rattle.row_machine.specs.Valuation.{Valuation, Changes}
use Rattle.round_runner.specs.Stores.{holding, widths, Changed, Holds}
use Rattle.round_runner.specs.Parts.{StartsAtZero, Wakes, Runs, HasEdge, Updates}
use Rattle.round_runner.proofs.Elements.{element}
use Rattle.v_tree.specs.Names.{Name}
use Rattle.v_tree.specs.declared.items.VDesign.{VDesign}
use Rattle.v_meaning.specs.Machine.{to_signals, has_edge}
use Rattle.v_meaning.specs.Modules.{Process}
use Rattle.v_modules.specs.Tables.{items_of, items_in}
use Rattle.v_modules.specs.declared.table.Table.{Table}
use Rattle.v_processes.specs.declared.process.Proc.{Proc}
use Rattle.v_processes.specs.Processes.{process_at, edge_of}
use Rattle.v_steps.specs.Steps.{ran}
use Rattle.v_steps.proofs.Instances.{process-by-table}
use Rattle.v_stores.specs.Waits.{named_places}
use Rattle.cycle_dst.specs.declared.combs.Comb.{Comb}
use Rattle.cycle_dst.specs.Circuits.{EdgeCame, CombIs, CombOf, EdgeIs, EdgeOf, Runnable, RanOver, UpdatedOver, edges_in}
use Rattle.cycle_dst.specs.Designs.{widths_of}
use Rattle.cycle_dst.specs.Pairs.{Pairs}

-- an element by its place
pub at-place : {A : Type 0} (xs : List A) (i : ℕ) (x : A) → i < length xs → x ≡ get_or xs i x → slice_get xs i ≡ Some x
at-place xs i x h e = let f = element xs i h in f.1 ∙ ap Some (sym (e ∙ get_or_from_slice_get xs i f.0 x f.1))

-- a pair by its place
module _ {A B : Type 0} (R : A → B → Type 0) (xs : List A) (ys : List B) (pairs : Pairs R xs ys) where
  pub pair-below : (i : ℕ) → i < length ys → i < length xs
  pair-below i h = let long = pairs.long in omega (arith, h, long)

module _ (d : M.Machine) (ws : List ℕ) (ts : List Table) (ps : List Proc) (cs : List Comb) (are : Pairs (CombOf ws ts ps) cs d.combs) (i : ℕ) (c : Comb) (at : slice_get cs i ≡ Some c) where
  pub comb-zero : StartsAtZero d.combs i c.from_zero
  comb-zero = record { told = λ m there. (are.each i c m at there).from_zero }

  pub comb-wakes : (now initial : List (List Bit4)) (answer : Bool) → Holds ws d.initial initial → answer ≡ differs (named_places c.waits (widths initial)) (holding now) (holding initial)
      → Wakes d i now answer
  comb-wakes now initial answer held is = record {
    told = λ m there.
        is ∙ ap (λ l. differs (named_places c.waits l) (holding now) (holding initial)) held.shape
        ∙ ap (λ (v : Valuation). differs (named_places c.waits ws) (holding now) v) held.values
        ∙ ap (λ qs. differs qs (holding now) d.initial) (sym (are.each i c m at there).waits);
  }

  -- the process that it is, which is there
  pub comb-there : i < length d.combs → c.process < length ps
  comb-there h = let m = element d.combs i h in (are.each i c m.0 at m.1).there

  pub comb-runs : (held before after : List (List Bit4)) → Runnable ws ts ps → RanOver ts ps c.process held before after → Runs d.combs i held before after
  comb-runs held before after runnable over = record {
    done = λ m there.
        let of = are.each i c m at there in
        let p = element ps c.process of.there in
        let t = element ts p.0.of (runnable.each c.process p.0 p.1).there in
        subst (λ (x : Changes). Changed x before after) (sym (of.assigns p.0 t.0 p.1 t.1 (holding held))) (over.done p.0 t.0 p.1 t.1);
  }

module _ (d : M.Machine) (ts : List Table) (ps : List Proc) (ks : List ℕ) (are : Pairs (EdgeOf ts ps) ks d.edges) (i k : ℕ) (at : slice_get ks i ≡ Some k) where
  pub edge-there : i < length d.edges → k < length ps
  edge-there h = let m = element d.edges i h in (are.each i k m.0 at m.1).there

  pub edge-told : (last now : List (List Bit4)) (answer : Bool) → EdgeCame ps k last now answer → HasEdge d.edges i last now answer
  edge-told last now answer came = record {
    told = λ m there.
        let of = are.each i k m at there in
        let p = element ps k of.there in
        came.told p.0 p.1 ∙ sym (of.runs p.0 p.1 (holding last) (holding now));
  }

  pub edge-updates : (ws : List ℕ) (held before after : List (List Bit4)) → Runnable ws ts ps → UpdatedOver ts ps k held before after → Updates d.edges i held before after
  edge-updates ws held before after runnable over = record {
    done = λ m there.
        let of = are.each i k m at there in
        let p = element ps k of.there in
        let t = element ts p.0.of (runnable.each k p.0 p.1).there in
        subst (λ (x : Changes). Changed x before after) (sym (of.updates p.0 t.0 p.1 t.1 (holding held))) (over.done p.0 t.0 p.1 t.1);
  }

-- the process at a place
pub came-at : (ps : List Proc) (k : ℕ) (p : Proc) (last now : List (List Bit4)) (answer : Bool) → k < length ps → p ≡ get_or ps k p
    → answer ≡ list_any (has_edge (holding last) (holding now)) (map edge_of (edges_in p.does)) → EdgeCame ps k last now answer
came-at ps k p last now answer below here is = record {
  told = λ q there.
      let same : p ≡ q = let at = at-place ps k p below here in cc in
      is ∙ ap (λ (x : Proc). list_any (has_edge (holding last) (holding now)) (map edge_of (edges_in x.does))) same;
}

pub ruleset comes = (came-at)

-- a fact behind a call that wants memory
pub where-ok : {A E : Type 0} (r : Result A E) {P Q : Type 0} → (P → Q) → OnOk r P → OnOk r Q
where-ok (Ok a) f h = f h
where-ok (Err e) f h = tt

pub where-if : {A E : Type 0} (r : Result A E) {P Q : A → Type 0} → ((x : A) → P x → Q x) → IfOk r P → IfOk r Q
where-if (Ok a) f h = f a h
where-if (Err e) f h = tt

-- what is kept of a process is kept of it among others
pub comb-of : (e : VDesign) (top : Name) (ws : List ℕ) (ts : List Table) (ps : List Proc) (p : Proc) (c : Comb) (m : M.Process) → map items_of ts ≡ map items_in e.modules → ws ≡ widths_of e top
    → slice_get ps c.process ≡ Some p → CombIs e top p c m → CombOf ws ts ps c m
comb-of e top ws ts ps p c m tabled wide at is = record {
  there = slice_get_within ps c.process p at;
  from_zero = is.from_zero;
  waits = is.waits ∙ ap (named_places c.waits) (sym wide);
  assigns = λ q t here table v.
      let same : p ≡ q = let both = sym at ∙ here in cc in
      is.assigns v
      ∙ ap (λ (x : Proc). to_signals (ran (process_at e.modules x) v).written) same
      ∙ ap (λ (x : Process). to_signals (ran x v).written) (sym (process-by-table ts e.modules q t tabled table));
}

pub edge-of : (e : VDesign) (ts : List Table) (ps : List Proc) (p : Proc) (k : ℕ) (m : M.EdgeProcess) → map items_of ts ≡ map items_in e.modules → slice_get ps k ≡ Some p → EdgeIs e p m → EdgeOf ts ps k m
edge-of e ts ps p k m tabled at is = record {
  there = slice_get_within ps k p at;
  runs = λ q here v w.
      let same : p ≡ q = let both = sym at ∙ here in cc in
      is.runs v w ∙ ap (λ (x : Proc). list_any (has_edge v w) (map edge_of (edges_in x.does))) same;
  updates = λ q t here table v.
      let same : p ≡ q = let both = sym at ∙ here in cc in
      is.updates v
      ∙ ap (λ (x : Proc). to_signals (ran (process_at e.modules x) v).pending) same
      ∙ ap (λ (x : Process). to_signals (ran x v).pending) (sym (process-by-table ts e.modules q t tabled table));
}
