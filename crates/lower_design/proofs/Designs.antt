-- What is lowered of a design's core form is right for the design.
use Rattle.std.proofs.Common.{◌≡◌, ◌⊎◌, ℕ, zero, suc, ◌≤◌, ◌^◌, Bool, true, false, List, [], ◌∷◌, length, Option, Some, None, refl, sym, ap, subst, ◌∙◌, inl, inr, arith}
use Rattle.std.specs.Prelude.{nat_le, if◌then◌else◌}
use Rattle.std.specs.List.{slice_get, AllZip}
use Rattle.std.proofs.lemmas.Bool.{false≢true}
use Rattle.row_machine.specs.Valuation.{Valuation, Member}
use Rattle.row_machine.specs.Places.{vector_at}
use Rattle.row_machine.specs.Trace.{HasTrace, OneTrace}
use Rattle.row_machine.specs.Settle.{Settled}
use Rattle.row_machine.specs.Rounds.{Reaches}
use Rattle.sv_types.specs.declared.design.Signal.{Signal as TypedSignal}
use Rattle.sv_types.specs.declared.design.Design as Final
use Rattle.sv_types.specs.Machine as Source
use Rattle.sv_types.specs.Layouts.{width_of}
use Rattle.core_forms.specs.Forms.{then_one, each, signal_kind_of, signal_with, signal_of, process_of, top_of, design_with, core_of}
use Rattle.core_forms.specs.Laws.{IsModest}
use Rattle.core_forms.proofs.Expressions.{one-some, two-some, none-some}
use Rattle.core_forms.proofs.Machines.{cores_have_the_traces}
use Rattle.sv_core.specs.declared.design.SignalKind.{SignalKind}
use Rattle.sv_core.specs.declared.design.SignalKind.TheVariants.{InputNet}
use Rattle.sv_core.specs.declared.design.Signal.{Signal}
use Rattle.sv_core.specs.declared.design.ProcessKind.{ProcessKind}
use Rattle.sv_core.specs.declared.design.ProcessKind.TheVariants.{Continuous, Comb, Edges}
use Rattle.sv_core.specs.declared.design.Process.{Process}
use Rattle.sv_core.specs.declared.design.Stmt.{Stmt}
use Rattle.sv_core.specs.declared.design.Design.{Design}
use Rattle.sv_core.specs.Statements.{Doing, doing, stmt_doing}
use Rattle.sv_core.specs.Machine as Core
use Rattle.v_tree.specs.declared.items.VDesign.{VDesign}
use Rattle.v_tree.specs.Rules.{FitsTop}
use Rattle.v_meaning.specs.Machine as Target
use Rattle.lower_design.specs.Translatable.{is_input, KindFits, targets_by, targets_of, Translatable}
use Rattle.lower_design.specs.Agreement.{Agree, TracesAgree, held, of_top}
use Rattle.lower_design.specs.Lowering.{Lowers}
use Rattle.lower_design.specs.Designs.{IsTranslatable, DesignsAgree, DesignTracesAgree, LowersDesign}
use Rattle.lower_design.specs.Lowered.{lowered}
use Rattle.lower_design.proofs.Levels.{assign-level}
use Rattle.lower_design.proofs.Machines.{few}
use Rattle.lower_design.proofs.Right.{lowers}

-- the core form of a signal has its path and its width
pub record FormOf (s : TypedSignal) (t : Signal) : Type 0 where
  pub width : t.width ≡ width_of s.of
  pub path : t.path ≡ s.path

form-of : (s : TypedSignal) (t : Signal) → signal_of s ≡ Some t → FormOf s t
form-of s t e = by_width (nat_le (width_of s.of) 4194304) e
  where
    by_width : (b : Bool) → (if b then then_one (signal_with s) (signal_kind_of s.kind) else None) ≡ Some t → FormOf s t
    by_width false h = absurd (none-some t h)
    by_width true h =
        let r = one-some (signal_with s) (signal_kind_of s.kind) t h in
        record { width = ap (λ (x : Signal). x.width) (sym r.2); path = ap (λ (x : Signal). x.path) (sym r.2) }

form-at : (xs : List TypedSignal) (ys : List Signal) → each signal_of xs ≡ Some ys → (n : ℕ) (s : TypedSignal) → slice_get xs n ≡ Some s
    → (t : Signal) × (slice_get ys n ≡ Some t) × FormOf s t
form-at [] ys e n s g = cc
form-at (x ∷ xs) ys e zero s g =
    let r = two-some (λ y zs. y ∷ zs) (signal_of x) (each signal_of xs) ys e in
    let same : x ≡ s = cc in
    (r.first, ap (λ zs. slice_get zs 0) (sym r.made), form-of s r.first (ap signal_of (sym same) ∙ r.first_is))
form-at (x ∷ xs) ys e (suc n) s g =
    let r = two-some (λ y zs. y ∷ zs) (signal_of x) (each signal_of xs) ys e in
    let more = form-at xs r.second r.second_is n s g in
    (more.0, ap (λ zs. slice_get zs (suc n)) (sym r.made) ∙ more.1, more.2)

-- what is written of either list of targets is a target
module _ (c : Design) (t : Translatable c) where
  target : (p : Process) → (kind : ProcessKind) → KindFits c.signals kind p.body → (n : ℕ) → Member (doing p.body).targets n ⊎ Member (doing p.body).later_targets n → Member (targets_by kind p.body) n
  target p Continuous fits n (inl m) = m
  target p Continuous fits n (inr m) =
      let none : (doing p.body).later_targets ≡ [] = ap (λ s. (doing s).later_targets) fits.2 ∙ ap (λ (x : Doing). x.later_targets) (assign-level Doing stmt_doing fits.0 fits.1 false) in
      elim (subst (λ ns. Member ns n) none m) [ ]
  target p Comb fits n (inl m) = m
  target p Comb fits n (inr m) = elim (subst (λ ns. Member ns n) fits m) [ ]
  target p (Edges es) fits n (inl m) = elim (subst (λ ns. Member ns n) fits.0 m) [ ]
  target p (Edges es) fits n (inr m) = m

  pub modest : IsModest c
  modest = record {
    few = (let low = few c t in omega (arith, low));
    inputs = λ p m n k s there input.
        let v = t.targets p m n (target p p.kind (t.kinds p m) n k) in
        let same : v.signal ≡ s = one v.signal s (sym v.is_there ∙ there) in
        false≢true (sym v.no_input ∙ ap (λ (x : Signal). is_input x.kind) same ∙ ap is_input input);
  }
    where
      one : (x y : Signal) → Some x ≡ Some y → x ≡ y
      one x y e = cc

module _ (d : Final.Design) (t : IsTranslatable d) (e : VDesign) (is : e ≡ lowered t.core) where
  core : Lowers t.core e
  core = lowers t.core t.fits e is

  parts : (top_of d.instances ≡ (t.core).top) × (each signal_of d.signals ≡ Some (t.core).signals)
  parts =
      let r = two-some (design_with (top_of d.instances)) (each signal_of d.signals) (each process_of d.processes) t.core t.is_core in
      (ap (λ (x : Design). x.top) r.made, r.first_is ∙ ap (λ (x : Design). Some x.signals) r.made)

  traces : (rows vs : List Valuation) → (HasTrace (Source.machine d) rows vs → HasTrace (Core.machine t.core) rows vs) × (HasTrace (Core.machine t.core) rows vs → HasTrace (Source.machine d) rows vs)
  traces = cores_have_the_traces d t.core t.plain t.is_core (modest t.core t.fits)

  agrees : (v u : Valuation) → Agree t.core e v u → DesignsAgree d e v u
  agrees v u a n s there =
      let r = form-at d.signals (t.core).signals parts.1 n s there in
      ap (vector_at v n) (sym (r.2).width)
      ∙ a n r.0 r.1
      ∙ (λ i. held u (of_top e (sym parts.0 i) ((r.2).path i)))

  all-agree : (vs us : List Valuation) → TracesAgree t.core e vs us → DesignTracesAgree d e vs us
  all-agree [] [] h = tt
  all-agree [] (u ∷ us) h = absurd h
  all-agree (v ∷ vs) [] h = absurd h
  all-agree (v ∷ vs) (u ∷ us) h = (agrees v u h.0, all-agree vs us h.1)

  pub right : LowersDesign d e
  right = record {
    of_grammar = core.of_grammar;
    keeps = core.keeps;
    fits_top = subst (FitsTop e) (sym parts.0) core.fits_top;
    core = t.core;
    is_core = t.is_core;
    shape = core.shape;
    source_trace = λ rows.
        let o = core.source_trace rows in
        record { trace = o.trace; is_trace = (traces rows o.trace).1 o.is_trace; only = λ vs h. o.only vs ((traces rows vs).0 h) };
    target_trace = λ rows. subst (λ top. OneTrace (Target.machine e top) rows) (sym parts.0) (core.target_trace rows);
    forward = λ rows vs h.
        let f = core.forward rows vs ((traces rows vs).0 h) in
        (f.0, subst (λ top. HasTrace (Target.machine e top) rows f.0) (sym parts.0) f.1, all-agree vs f.0 f.2);
    back = λ rows us h.
        let b = core.back rows us (subst (λ top. HasTrace (Target.machine e top) rows us) parts.0 h) in
        (b.0, (traces rows b.0).1 b.1, all-agree b.0 us b.2);
    rounds = λ s base v h. subst (λ top. Reaches (Target.machine e top) s base v) (sym parts.0) (core.rounds s base v (subst (λ top. Settled (Target.machine e top) s base v) parts.0 h));
  }

-- of a design that is translated, whatever core form it is said to have
pub lowered-right : (d : Final.Design) → IsTranslatable d → (c : Design) → core_of d ≡ Some c → (e : VDesign) → e ≡ lowered c → LowersDesign d e
lowered-right d t c is e made = right d t e (made ∙ ap lowered (one c t.core (sym is ∙ t.is_core)))
  where
    one : (x y : Design) → Some x ≡ Some y → x ≡ y
    one x y e = cc
