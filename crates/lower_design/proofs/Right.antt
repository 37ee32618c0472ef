-- The lowered design is right for its source.
use Rattle.std.proofs.Common.{◌≡◌, ◌<◌, true, List, [], ◌∷◌, map, length, sym, ap, subst, ◌∙◌, arith}
use Rattle.row_machine.specs.Valuation.{Place, Valuation, has}
use Rattle.row_machine.specs.Places.{places_of, vector_at}
use Rattle.row_machine.specs.Agreement.{lifted, TracesAgree as MachinesAgree}
use Rattle.row_machine.specs.Translation.{Translates}
use Rattle.sv_core.specs.declared.design.Design.{Design}
use Rattle.sv_core.specs.Machine as Source
use Rattle.sv_core.specs.Statements.{width_of, width_or_zero}
use Rattle.v_tree.specs.declared.items.VDesign.{VDesign}
use Rattle.v_meaning.specs.Scopes.{named}
use Rattle.v_meaning.specs.Modules.{signals, numbered}
use Rattle.v_meaning.specs.Machine as Target
use Rattle.lower_design.specs.Translatable.{Translatable}
use Rattle.lower_design.specs.Agreement.{Agree, TracesAgree, held, of_top}
use Rattle.lower_design.specs.Shape.{path_or_nothing}
use Rattle.lower_design.specs.Lowering.{Lowers}
use Rattle.lower_design.specs.Lowered.{lowered}
use Rattle.lower_design.proofs.Places.{has-signal, vectors-same}
use Rattle.lower_design.proofs.Refinement.{under_own, lifted_below, same_rows}
use Rattle.lower_design.proofs.Items.{all-signals, top-items, sc, found-at, below-get}
use Rattle.lower_design.proofs.Machines.{is_own, place-own}
use Rattle.lower_design.proofs.Meanings.{image}
use Rattle.lower_design.proofs.Extension.{extra, translated}
use Rattle.lower_design.proofs.Grammar.{of-grammar}
use Rattle.lower_design.proofs.Keeping.{keeps, fits-top}
use Rattle.lower_design.proofs.Shapes.{shape}

module _ (d : Design) (t : Translatable d) where
  -- the target's valuation for a source's
  abbrev shown : Valuation → Valuation
  shown v = lifted (under_own (is_own d.signals) (extra d t)) v

  abbrev both : Translates (under_own (is_own d.signals) (extra d t)) (Source.machine d) (Target.machine (lowered d) d.top)
  both = translated d t

  agrees : (v : Valuation) → Agree d (lowered d) v (shown v)
  agrees v n s is =
      let top : of_top (lowered d) d.top s.path ≡ named (sc d t).names s.path = ap (λ us. named (numbered 0 us) s.path) (ap signals (top-items d) ∙ all-signals d.signals d.processes) in
      let one : of_top (lowered d) d.top s.path ≡ image d.signals (sc d t) n = top ∙ ap (named (sc d t).names) (sym (ap path_or_nothing is)) ∙ found-at d t n s is in
      let wide : width_of d.signals n ≡ s.width = ap width_or_zero is in
      vectors-same v (shown v) n 0 s.width (λ q h. sym (lifted_below (is_own d.signals) (extra d t) v q (low q h)))
      ∙ sym (ap (held (shown v)) one ∙ ap (vector_at (shown v) n) wide)
    where
      low : (q : Place) → has (places_of n s.width) q ≡ true → is_own d.signals q ≡ true
      low q h = place-own d.signals n q (ap (λ w. has (places_of n w) q) (ap width_or_zero is) ∙ h)

  traces-agree : (vs : List Valuation) → TracesAgree d (lowered d) vs (map shown vs)
  traces-agree [] = tt
  traces-agree (v ∷ vs) = (agrees v, traces-agree vs)

  machines-agree : (rows : List Valuation) → MachinesAgree (under_own (is_own d.signals) (extra d t)) (Source.machine d) (Target.machine (lowered d) d.top) rows rows
  machines-agree rows = both.agree rows rows (same_rows (is_own d.signals) (extra d t) (Source.machine d) rows)

  pub right : Lowers d (lowered d)
  right = record {
    of_grammar = of-grammar d t;
    keeps = keeps d t;
    fits_top = fits-top d t;
    shape = shape d t;
    source_trace = both.source_trace;
    target_trace = both.target_trace;
    forward = λ rows vs h. (map shown vs, (machines-agree rows).forward vs h, traces-agree vs);
    back = λ rows us h.
        let r = (machines-agree rows).back us h in
        (r.0, r.1, subst (λ xs. TracesAgree d (lowered d) r.0 xs) (sym r.2) (traces-agree r.0));
    rounds = both.reach;
  }

pub lowers : (d : Design) → Translatable d → (e : VDesign) → e ≡ lowered d → Lowers d e
lowers d t e is = subst (Lowers d) (sym is) (right d t)
