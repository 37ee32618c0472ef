-- What is kept of single processes.
use Rattle.std.proofs.Common.{◌≡◌, ℕ, Bool, true, false, cond, filter, List, [], ◌∷◌, length, map, Some, None, refl, sym, ap, ◌∙◌}
use Rattle.std.specs.List.{list_any}
use Rattle.row_machine.specs.Valuation.{Place}
use Rattle.row_machine.specs.Machine as M
use Rattle.v_tree.specs.Names.{Name}
use Rattle.v_tree.specs.declared.items.VDesign.{VDesign}
use Rattle.v_meaning.specs.Modules.{EdgeOn, always_on, on_change, on_edges, signals, items_of, parts}
use Rattle.v_meaning.specs.Machine.{comb, comb_of, star, edge, edge_of_process, has_edge, is_triggered, names_of}
use Rattle.v_stores.specs.Waits.{all_places, is_named, named_places}
use Rattle.v_processes.specs.declared.process.Proc.{Proc}
use Rattle.v_processes.specs.Processes.{process_at, edge_of}
use Rattle.cycle_dst.specs.Designs.{widths_of}
use Rattle.cycle_dst.specs.declared.combs.Comb.{Comb}
use Rattle.cycle_dst.specs.Circuits.{CombIs, CombMade, EdgeIs, comb_at, edge_at, edges_in}

none-kept : (qs : List Place) → filter (λ q. is_named [] q.signal) qs ≡ []
none-kept [] = refl
none-kept (q ∷ qs) = none-kept qs

none-waited : (ws : List ℕ) → named_places [] ws ≡ []
none-waited ws = none-kept (all_places 0 ws)

-- what always runs
always : (e : VDesign) (top : Name) (p : Proc) (c : Comb) → c.from_zero ≡ true → c.waits ≡ []
    → CombIs e top p c (comb (length (signals (items_of e.modules top))) (parts e.modules top) true [] (process_at e.modules p))
always e top p c zero none = record {
  from_zero = zero;
  waits = sym (ap (λ ns. named_places ns (widths_of e top)) none ∙ none-waited (widths_of e top));
  assigns = λ v. refl;
}

pub always-made : (e : VDesign) (top : Name) (p : Proc) (k : ℕ) (c : Comb) → (process_at e.modules p).starts ≡ always_on → c.process ≡ k → c.from_zero ≡ true → c.waits ≡ [] → CombMade e top p k (Some c) (comb_at e top p)
always-made e top p k c starts at zero none =
    let own = length (signals (items_of e.modules top)) in
    let q = process_at e.modules p in
    (at, (comb own (parts e.modules top) true [] q, ap (λ s. comb_of own (parts e.modules top) s q) starts, always e top p c zero none))

-- what runs at edges is none
pub no-comb : (e : VDesign) (top : Name) (p : Proc) (k : ℕ) (es : List EdgeOn) → (process_at e.modules p).starts ≡ on_edges es → CombMade e top p k None (comb_at e top p)
no-comb e top p k es starts = ap (λ s. comb_of (length (signals (items_of e.modules top))) (parts e.modules top) s (process_at e.modules p)) starts

-- what runs on changes
pub star-made : (e : VDesign) (top : Name) (p : Proc) (k : ℕ) (c : Comb) (named : List ℕ) → (process_at e.modules p).starts ≡ on_change → c.process ≡ k
    → c.from_zero ≡ is_triggered (length (signals (items_of e.modules top))) (parts e.modules top) (process_at e.modules p)
    → c.waits ≡ cond c.from_zero [] named
    → names_of (length (signals (items_of e.modules top))) (parts e.modules top) (process_at e.modules p) ≡ named_places named (widths_of e top)
    → CombMade e top p k (Some c) (comb_at e top p)
star-made e top p k c named starts at zero waits names =
    let own = length (signals (items_of e.modules top)) in
    let q = process_at e.modules p in (
      at,
      (
        star own (parts e.modules top) q,
        ap (λ s. comb_of own (parts e.modules top) s q) starts,
        record {
          from_zero = zero;
          waits = by (is_triggered own (parts e.modules top) q) c.waits (names_of own (parts e.modules top) q) (waits ∙ ap (λ b. cond b [] named) zero) names;
          assigns = λ v. refl;
        },
      ),
    )
  where
    by : (b : Bool) (ns : List ℕ) (qs : List Place) → ns ≡ cond b [] named → qs ≡ named_places named (widths_of e top) → cond b [] qs ≡ named_places ns (widths_of e top)
    by true ns qs e1 f = sym (ap (λ l. named_places l (widths_of e top)) e1 ∙ none-waited (widths_of e top))
    by false ns qs e1 f = f ∙ ap (λ l. named_places l (widths_of e top)) (sym e1)

-- an edge process
pub edge-made : (e : VDesign) (top : Name) (p : Proc) (es : List EdgeOn) → (process_at e.modules p).starts ≡ on_edges es → es ≡ map edge_of (edges_in p.does)
    → (m : M.EdgeProcess) × (edge_at e top p ≡ m ∷ []) × EdgeIs e p m
edge-made e top p es starts is =
    let own = length (signals (items_of e.modules top)) in
    let q = process_at e.modules p in (
      edge own (parts e.modules top) es q,
      ap (λ s. edge_of_process own (parts e.modules top) s q) starts,
      record {
        runs = λ v w. ap (λ l. list_any (has_edge v w) l) is;
        updates = λ v. refl;
      },
    )
