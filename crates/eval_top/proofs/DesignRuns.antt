-- What runs a design takes the rows that are read, and answers their trace.
use Rattle.std.proofs.Common.{◌≡◌, ℕ, cond, List, [], ◌∷◌, map, Option, Some, None, Ok, Err, refl, sym, ap, subst, ◌∙◌}
use Rattle.std.specs.List.{filter}
use Rattle.b4_core.specs.declared.bit.Bit4.{Bit4}
use Rattle.round_runner.specs.Rows.{FitRows, IsTrace, IsUnsettled}
use Rattle.v_tree.specs.Names.{Name}
use Rattle.v_tree.specs.Rules.{module_named}
use Rattle.v_tree.specs.declared.items.VDesign.{VDesign}
use Rattle.v_tree.specs.declared.items.VItem.{VItem}
use Rattle.v_tree.specs.declared.items.VModule.{VModule}
use Rattle.v_meaning.specs.Scopes.{named}
use Rattle.v_meaning.specs.Modules.{Signal, Kind, input_net, net, variable, signals, numbered, kind_of, items_of}
use Rattle.v_meaning.specs.Machine.{machine, is_input}
use Rattle.stim_rows.specs.declared.shape.Port.{Port}
use Rattle.text_shape.specs.Shapes as shapes
use Rattle.cycle_dst.specs.Designs as designs
use Rattle.cycle_dst.specs.Designs.{widths_of}
use Rattle.cycle_dst.specs.declared.fails.RunFail.{RunFail}
use Rattle.cycle_dst.specs.declared.fails.RunFail.TheVariants.{Memory, Unsettled}
use Rattle.eval_top.specs.Running.{inputs_of, HasTrace, shown}
use Rattle.eval_top.specs.Parts.{stop_of, TraceGives}
use Rattle.eval_top.proofs.Fitting.{items-same}

module _ (ss : List Signal) where
  abbrev number : Name → ℕ
  number name = (named (numbered 0 ss) name).number

  abbrev ports : List Name → List ℕ
  ports names = map (λ (p : Port). p.signal) (map (shapes.port_named ss) (filter (λ n. shapes.is_input (kind_of ss n)) names))

  abbrev inputs : List Name → List ℕ
  inputs names = map number (filter (λ n. is_input (kind_of ss n)) names)

  by-kind : (name : Name) (names some others : List Name) (kind : Kind) → map (λ (p : Port). p.signal) (map (shapes.port_named ss) some) ≡ map number others
      → map (λ (p : Port). p.signal) (map (shapes.port_named ss) (cond (shapes.is_input kind) (name ∷ some) some)) ≡ map number (cond (is_input kind) (name ∷ others) others)
  by-kind name names some others input_net e = ap (λ (ns : List ℕ). number name ∷ ns) e
  by-kind name names some others net e = e
  by-kind name names some others variable e = e

  same-numbers : (names : List Name) → ports names ≡ inputs names
  same-numbers [] = refl
  same-numbers (name ∷ names) =
      by-kind name names (filter (λ n. shapes.is_input (kind_of ss n)) names) (filter (λ n. is_input (kind_of ss n)) names) (kind_of ss name) (same-numbers names)

same-ports : (m : Option VModule) → shapes.top_ports m ≡ designs.top_ports m
same-ports None = refl
same-ports (Some m) = refl

same-inputs : (e : VDesign) (top : Name) → inputs_of e top ≡ designs.top_inputs e top
same-inputs e top =
    ap (λ (items : List VItem). map (λ (p : Port). p.signal) (shapes.inputs items (shapes.top_ports (module_named e.modules top)))) (items-same e.modules top)
    ∙ same-numbers (signals (items_of e.modules top)) (shapes.top_ports (module_named e.modules top))
    ∙ ap (inputs (signals (items_of e.modules top))) (same-ports (module_named e.modules top))

pub takes-rows : (e : VDesign) (top : Name) (rows : List (List (List Bit4))) → FitRows (widths_of e top) (inputs_of e top) rows → designs.RowsFit e top rows
takes-rows e top rows fit = subst (λ (ns : List ℕ). FitRows (widths_of e top) ns rows) (same-inputs e top) fit

pub gives-trace : (e : VDesign) (top : Name) (rows trace : List (List (List Bit4))) → designs.RunGives e top rows (Ok trace) → HasTrace e top rows trace
gives-trace e top rows trace g = subst (λ (ns : List ℕ). IsTrace (machine e top) (widths_of e top) ns rows trace) (sym (same-inputs e top)) g

pub fails-at : (e : VDesign) (top : Name) (rows : List (List (List Bit4))) (fail : RunFail) → designs.RunGives e top rows (Err fail)
    → TraceGives e top rows (Err (stop_of fail))
fails-at e top rows Memory g = g
fails-at e top rows (Unsettled row name old new) g = record {
  before = row;
  behind = refl;
  change = g.change;
  unsettled = subst (λ (ns : List ℕ). IsUnsettled (machine e top) (widths_of e top) ns rows row g.change) (sym (same-inputs e top)) g.unsettled;
  is_name = ap shown g.is_name;
}
