-- The lowered design has the shape of its source.
use Rattle.std.proofs.Common.{◌≡◌, ℕ, suc, ◌≤◌, Bool, true, false, List, [], ◌∷◌, map, replicate, Some, refl, sym, ap, subst, ◌∙◌, inl, inr}
use Rattle.std.specs.List.{slice_get, AllZip}
use Rattle.b4_core.specs.declared.bit.Bit4.TheVariants.{X}
use Rattle.row_machine.specs.Valuation.{Member}
use Rattle.sv_core.specs.declared.design.SignalKind.{SignalKind}
use Rattle.sv_core.specs.declared.design.SignalKind.TheVariants.{InputNet, OutputVar, Variable}
use Rattle.sv_core.specs.declared.design.Signal.{Signal}
use Rattle.sv_core.specs.declared.design.Expr.{Expr}
use Rattle.sv_core.specs.declared.design.EdgeOn.{EdgeOn}
use Rattle.sv_core.specs.declared.design.ProcessKind.{ProcessKind}
use Rattle.sv_core.specs.declared.design.ProcessKind.TheVariants.{Continuous, Comb, Edges}
use Rattle.sv_core.specs.declared.design.Process.{Process}
use Rattle.sv_core.specs.declared.design.Stmt.TheVariants as S
use Rattle.sv_core.specs.declared.design.Design.{Design}
use Rattle.sv_core.specs.Statements as SD
use Rattle.sv_core.specs.Statements.{doing, stmt_doing}
use Rattle.v_tree.specs.declared.items.VProcess.TheVariants.{Assign as Drive}
use Rattle.v_meaning.specs.Scopes.{Scope, Named}
use Rattle.v_meaning.specs.Modules as T
use Rattle.v_meaning.specs.Modules.{InitialValue, process_of, edge_on}
use Rattle.lower_design.specs.Translatable.{Translatable, KindFits, is_helper_name}
use Rattle.lower_design.specs.Shape.{name_of, kind_fits, IsImage, IsEdge, IsProcess, HasProcess, Shape}
use Rattle.lower_design.specs.Lowered.{lowered_expr, lowered_edge, process_by, whole_target, is_driven, lowered_module, lowered}
use Rattle.lower_design.proofs.Levels.{assign-level}
use Rattle.lower_design.proofs.Runs.{Same, same-assignment, body-same, triggered-same}
use Rattle.lower_design.proofs.Items.{kind_of, images, trigger_signal, helpers, values, target, has_comb, all-signals, all-functions, all-instances, all-ports, top-parts, us, sc, trigger-there, trigger-found, range_keeps}
use Rattle.lower_design.proofs.Extension.{target-driver}

kind-kept : (kind : SignalKind) (driven : Bool) → kind_fits kind (kind_of kind driven)
kind-kept InputNet driven = refl
kind-kept OutputVar true = inl refl
kind-kept OutputVar false = inr refl
kind-kept Variable true = inl refl
kind-kept Variable false = inr refl

are-images : (driven : ℕ → Bool) (k : ℕ) (ss : List Signal) → ((s : Signal) → Member ss s → 1 ≤ s.width) → AllZip IsImage ss (images driven k ss)
are-images driven k [] wide = tt
are-images driven k (s ∷ ss) wide = (
  record {
    name = refl;
    width = range_keeps s.width (wide s (inl refl));
    words = refl;
    initial = ap (λ w. replicate w X) (range_keeps s.width (wide s (inl refl)));
    kind = kind-kept s.kind (driven k);
  },
  are-images driven (suc k) ss (λ x m. wide x (inr m)),
)

helper-name : (b : Bool) (h : T.Signal) → Member (helpers b) h → is_helper_name h.name ≡ true
helper-name true h (inl e) = ap (λ (x : T.Signal). is_helper_name x.name) e
helper-name true h (inr m) = elim m [ ]
helper-name false h m = elim m [ ]

edges-are : (all : List Signal) (sc : Scope) (es : List EdgeOn) → AllZip (IsEdge all sc) es (map (edge_on sc) (map (lowered_edge all) es))
edges-are all sc [] = tt
edges-are all sc (e ∷ es) = (record { signal = refl; rising = refl }, edges-are all sc es)

module _ (d : Design) (t : Translatable d) where
  abbrev ss : List Signal
  ss = d.signals

  abbrev own_scope : Scope
  own_scope = sc d t

  process-is : (p : Process) → Member d.processes p → HasProcess ss p (target own_scope ss p)
  process-is p m = by_kind p.kind refl (t.kinds p m)
    where
      driver : (to : ℕ) (value : Expr) → p.body ≡ S.Assign to value false
          → (let x = process_of own_scope (Drive (whole_target (name_of ss to)) (lowered_expr ss value)) in IsProcess ss Continuous p.body x.starts x)
      driver to value e =
          let is : doing p.body ≡ SD.assignment to value false = ap doing e ∙ assign-level SD.Doing stmt_doing to value false in
          let s = subst (λ x. Same ss own_scope x (process_of own_scope (Drive (whole_target (name_of ss to)) (lowered_expr ss value))).does) (sym is) (same-assignment ss own_scope to value false) in
          (s.writes, s.reads)

      by_kind : (kind : ProcessKind) → p.kind ≡ kind → KindFits ss kind p.body
          → (let x = process_of own_scope (process_by ss kind p.body) in IsProcess ss kind p.body x.starts x)
      by_kind Continuous k fits =
          subst (λ (x : T.Process). IsProcess ss Continuous p.body x.starts x)
          (sym (target-driver own_scope ss p fits.0 fits.1 k fits.2) ∙ ap (λ kind. process_of own_scope (process_by ss kind p.body)) k) (driver fits.0 fits.1 fits.2)
      by_kind Comb k fits = let s = triggered-same ss own_scope p.body in (s.writes, inr s.reads)
      by_kind (Edges es) k fits = let s = body-same ss own_scope p.body in (edges-are ss own_scope es, s.later, s.reads)

  each-process : (ps : List Process) → ((p : Process) → Member ps p → Member d.processes p) → AllZip (HasProcess ss) ps (map (target own_scope ss) ps)
  each-process [] among = tt
  each-process (p ∷ ps) among = (process-is p (among p (inl refl)), each-process ps (λ x m. among x (inr m)))

  initial-of-helper : (b : Bool) → has_comb d.processes ≡ b → (i : InitialValue) → Member (values own_scope b) i
      → (h : T.Signal) × (slice_get (us d t) i.number ≡ Some h) × Member (helpers (has_comb d.processes)) h
  initial-of-helper true e i (inl same) = (
    trigger_signal,
    ap (slice_get (us d t)) (ap (λ (x : InitialValue). x.number) same ∙ ap (λ (x : Named). x.number) (trigger-found d t e)) ∙ trigger-there d t e,
    subst (λ b. Member (helpers b) trigger_signal) (sym e) (inl refl),
  )
  initial-of-helper true e i (inr m) = elim m [ ]
  initial-of-helper false e i m = elim m [ ]

  pub shape : Shape d (lowered d)
  shape = record {
    top = lowered_module d;
    one_module = refl;
    name = refl;
    ports = refl;
    declared_ports = all-ports ss d.processes 0;
    images = images (is_driven d.processes) 0 ss;
    helpers = helpers (has_comb d.processes);
    all_signals = all-signals ss d.processes;
    are_images = are-images (is_driven d.processes) 0 ss t.some_bits;
    are_helpers = helper-name (has_comb d.processes);
    no_functions = all-functions ss d.processes;
    no_instances = all-instances ss d.processes;
    are_processes = subst (λ (x : T.Parts). AllZip (HasProcess ss) d.processes x.processes) (sym (top-parts d)) (each-process d.processes (λ p m. m));
    of_helpers = λ i m.
        let r = initial-of-helper (has_comb d.processes) refl i (subst (λ (x : T.Parts). Member x.initials i) (top-parts d) m) in
        (r.0, ap (λ xs. slice_get xs i.number) (all-signals ss d.processes) ∙ r.1, r.2);
  }
