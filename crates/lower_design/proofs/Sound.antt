-- The machine of a source design is sound: it has one trace for any rows.
use Rattle.std.proofs.Common.{◌≡◌, ◌⊎◌, ℕ, ◌==◌, Bool, true, false, ◌||◌, List, [], ◌∷◌, None, refl, sym, ap, subst, ◌∙◌, inl, inr, if◌then◌else◌}
use Rattle.std.proofs.lemmas.Bool.{or_cases, or_left, or_right, false≢true, eqb-true}
use Rattle.row_machine.specs.Valuation.{Member, Place, Valuation, has, NoneWrites, OneWriter}
use Rattle.row_machine.specs.Machine as M
use Rattle.row_machine.specs.Order.{Honest, Sound, follows}
use Rattle.row_machine.specs.Places.{places_of}
use Rattle.row_machine.specs.Steps.{begun}
use Rattle.row_machine.proofs.Basics.{followed_bit}
use Rattle.row_machine.proofs.Laws as Laws
use Rattle.sv_core.specs.declared.design.Signal.{Signal}
use Rattle.sv_core.specs.declared.design.EdgeOn.{EdgeOn}
use Rattle.sv_core.specs.declared.design.ProcessKind.{ProcessKind}
use Rattle.sv_core.specs.declared.design.ProcessKind.TheVariants.{Continuous, Comb, Edges}
use Rattle.sv_core.specs.declared.design.Process.{Process}
use Rattle.sv_core.specs.declared.design.Stmt.{Stmt}
use Rattle.sv_core.specs.declared.design.Design.{Design}
use Rattle.sv_core.specs.Numbers.{holds, each_once}
use Rattle.sv_core.specs.Statements.{width_of, doing}
use Rattle.sv_core.specs.Machine as Source
use Rattle.sv_core.specs.Machine.{places_of_signals, comb_process, combs_of, edge_process, edges_of}
use Rattle.lower_design.specs.Translatable.{Translatable, OneDriver, targets_by, targets_of, is_comb}
use Rattle.lower_design.proofs.Names.{true_or_false}
use Rattle.lower_design.proofs.Places.{has-append, has-signal, has-without, has-without-only}
use Rattle.lower_design.proofs.Hangs.{stmt-tame}

-- numbers, each once, are the same numbers
pub holds-member : (ks : List ℕ) (n : ℕ) → holds ks n ≡ true → Member ks n
holds-member [] n e = absurd (false≢true e)
holds-member (k ∷ ks) n e = elim (or_cases (k == n) (holds ks n) e) [ inl h ↦ inl (sym (eqb-true k n h)) | inr h ↦ inr (holds-member ks n h) ]

pub once-member : (ks : List ℕ) (n : ℕ) → Member (each_once ks) n → Member ks n
once-member [] n m = elim m [ ]
once-member (k ∷ ks) n m = pick (once-member ks n) (holds ks k) m
  where
    pick : (Member (each_once ks) n → Member ks n) → (b : Bool) → Member (if b then each_once ks else k ∷ each_once ks) n → Member (k ∷ ks) n
    pick rest true h = inr (rest h)
    pick rest false (inl e) = inl e
    pick rest false (inr h) = inr (rest h)

pub member-once : (ks : List ℕ) (n : ℕ) → Member ks n → Member (each_once ks) n
member-once [] n m = elim m [ ]
member-once (k ∷ ks) n m = pick (member-once ks n) (true_or_false (holds ks k)) m
  where
    pick : (Member ks n → Member (each_once ks) n) → (holds ks k ≡ true) ⊎ (holds ks k ≡ false) → Member (k ∷ ks) n → Member (if holds ks k then each_once ks else k ∷ each_once ks) n
    pick rest (inl e) (inl h) = subst (λ b. Member (if b then each_once ks else k ∷ each_once ks) n) (sym e) (rest (subst (λ x. Member ks x) (sym h) (holds-member ks k e)))
    pick rest (inl e) (inr h) = subst (λ b. Member (if b then each_once ks else k ∷ each_once ks) n) (sym e) (rest h)
    pick rest (inr e) (inl h) = subst (λ b. Member (if b then each_once ks else k ∷ each_once ks) n) (sym e) (inl h)
    pick rest (inr e) (inr h) = subst (λ b. Member (if b then each_once ks else k ∷ each_once ks) n) (sym e) (inr (rest h))

module _ (ss : List Signal) where
  -- a place of some signals is a place of one of them
  pub in-signals : (ns : List ℕ) (q : Place) → has (places_of_signals ss ns) q ≡ true → (n : ℕ) × Member ns n × (has (places_of n (width_of ss n)) q ≡ true)
  unfolding has
  in-signals [] q e = absurd (false≢true e)
  in-signals (n ∷ ns) q e =
      elim (or_cases _ _ (sym (has-append (places_of n (width_of ss n)) (places_of_signals ss ns) q) ∙ e)) [
        | inl h ↦ (n, inl refl, h)
        | inr h ↦ (let r = in-signals ns q h in (r.0, inr r.1, r.2))
      ]

  pub signals-in : (ns : List ℕ) (n : ℕ) (q : Place) → Member ns n → has (places_of n (width_of ss n)) q ≡ true → has (places_of_signals ss ns) q ≡ true
  signals-in [] n q m h = elim m [ ]
  signals-in (k ∷ ns) n q m h = has-append (places_of k (width_of ss k)) (places_of_signals ss ns) q ∙ either (λ l. signals-in ns n q l h) m
    where
      either : (Member ns n → has (places_of_signals ss ns) q ≡ true) → Member (k ∷ ns) n → (has (places_of k (width_of ss k)) q || has (places_of_signals ss ns) q) ≡ true
      either rest (inl e) = or_left _ _ (subst (λ x. has (places_of x (width_of ss x)) q ≡ true) e h)
      either rest (inr l) = or_right (has (places_of k (width_of ss k)) q) _ (rest l)

  -- so its number is one of theirs
  pub at-number : (ns : List ℕ) (q : Place) → has (places_of_signals ss ns) q ≡ true → Member ns q.signal
  at-number ns q h = let r = in-signals ns q h in subst (λ n. Member ns n) (sym (has-signal r.0 0 (width_of ss r.0) q r.2)) r.1

  pub at-once : (ns : List ℕ) (q : Place) → has (places_of_signals ss (each_once ns)) q ≡ true → Member ns q.signal
  at-once ns q h = once-member ns q.signal (at-number (each_once ns) q h)

  -- and what isn't written is apart
  apart-once : (ns : List ℕ) (q : Place) → has (places_of_signals ss (each_once ns)) q ≡ false → (n : ℕ) → Member ns n → has (places_of n (width_of ss n)) q ≡ false
  apart-once ns q e n m =
      elim (true_or_false (has (places_of n (width_of ss n)) q)) [
        | inr f ↦ f
        | inl h ↦ absurd (false≢true (sym e ∙ signals-in (each_once ns) n q (member-once ns n m) h))
      ]

  pub record IsComb (ps : List Process) (m : M.Process) : Type 0 where
    pub process : Process
    pub member : Member ps process
    pub kind : is_comb process.kind ≡ true
    pub is : m ≡ comb_process ss process.body

  pub comb-member : (ps : List Process) (m : M.Process) → Member (combs_of ss ps) m → IsComb ps m
  comb-member [] m k = elim k [ ]
  comb-member (p ∷ ps) m k = by_kind (comb-member ps m) p.kind refl k
    where
      later : IsComb ps m → IsComb (p ∷ ps) m
      later c = record { process = c.process; member = inr c.member; kind = c.kind; is = c.is }

      here : (Member (combs_of ss ps) m → IsComb ps m) → is_comb p.kind ≡ true → Member (comb_process ss p.body ∷ combs_of ss ps) m → IsComb (p ∷ ps) m
      here rest c (inl e) = record { process = p; member = inl refl; kind = c; is = e }
      here rest c (inr l) = later (rest l)

      by_kind : (Member (combs_of ss ps) m → IsComb ps m) → (kind : ProcessKind) → p.kind ≡ kind → Member (Source.comb_of ss kind p.body (combs_of ss ps)) m → IsComb (p ∷ ps) m
      by_kind rest Continuous e l = here rest (ap is_comb e) l
      by_kind rest Comb e l = here rest (ap is_comb e) l
      by_kind rest (Edges es) e l = later (rest l)

  pub record IsEdges (ps : List Process) (m : M.EdgeProcess) : Type 0 where
    pub process : Process
    pub member : Member ps process
    pub edges : List EdgeOn
    pub kind : process.kind ≡ Edges edges
    pub is : m ≡ edge_process ss edges process.body

  pub edge-member : (ps : List Process) (m : M.EdgeProcess) → Member (edges_of ss ps) m → IsEdges ps m
  edge-member [] m k = elim k [ ]
  edge-member (p ∷ ps) m k = by_kind (edge-member ps m) p.kind refl k
    where
      later : IsEdges ps m → IsEdges (p ∷ ps) m
      later c = record { process = c.process; member = inr c.member; edges = c.edges; kind = c.kind; is = c.is }

      by_kind : (Member (edges_of ss ps) m → IsEdges ps m) → (kind : ProcessKind) → p.kind ≡ kind → Member (Source.edge_process_of ss kind p.body (edges_of ss ps)) m → IsEdges (p ∷ ps) m
      by_kind rest Continuous e l = later (rest l)
      by_kind rest Comb e l = later (rest l)
      by_kind rest (Edges es) e (inl h) = record { process = p; member = inl refl; edges = es; kind = e; is = h }
      by_kind rest (Edges es) e (inr l) = later (rest l)

  pub comb-targets : (kind : ProcessKind) (body : Stmt) → is_comb kind ≡ true → targets_by kind body ≡ (doing body).targets
  comb-targets Continuous body e = refl
  comb-targets Comb body e = refl
  comb-targets (Edges es) body e = absurd (false≢true e)

  -- a bit that a process writes is of one of its targets
  pub comb-writes : (p : Process) → is_comb p.kind ≡ true → (q : Place) → has (comb_process ss p.body).writes q ≡ true → Member (targets_of p) q.signal
  comb-writes p c q h = subst (λ ns. Member ns q.signal) (sym (comb-targets p.kind p.body c)) (at-once (doing p.body).targets q h)

  pub edge-writes : (p : Process) (es : List EdgeOn) → p.kind ≡ Edges es → (q : Place) → has (edge_process ss es p.body).writes q ≡ true → Member (targets_of p) q.signal
  edge-writes p es e q h = subst (λ k. Member (targets_by k p.body) q.signal) (sym e) (at-once (doing p.body).later_targets q h)

  -- no bit has two writers
  combs-apart : (ps : List Process) → OneDriver ps → OneWriter (λ (p : M.Process). p.writes) (combs_of ss ps)
  combs-apart [] h = tt
  combs-apart (p ∷ ps) h = by_kind (combs-apart ps h.1) p.kind refl
    where
      others : is_comb p.kind ≡ true → (q : Place) → has (comb_process ss p.body).writes q ≡ true → NoneWrites (λ (x : M.Process). x.writes) (combs_of ss ps) q
      others c q e x m =
          let y = comb-member ps x m in
          elim (true_or_false (has (comb_process ss y.process.body).writes q)) [
            | inr f ↦ ap (λ (z : M.Process). has z.writes q) y.is ∙ f
            | inl t ↦ absurd (h.0 q.signal (comb-writes p c q e) y.process y.member (comb-writes y.process y.kind q t))
          ]

      by_kind : OneWriter (λ (x : M.Process). x.writes) (combs_of ss ps) → (kind : ProcessKind) → p.kind ≡ kind → OneWriter (λ (x : M.Process). x.writes) (Source.comb_of ss kind p.body (combs_of ss ps))
      by_kind rest Continuous e = (others (ap is_comb e), rest)
      by_kind rest Comb e = (others (ap is_comb e), rest)
      by_kind rest (Edges es) e = rest

  edges-apart : (ps : List Process) → OneDriver ps → OneWriter (λ (p : M.EdgeProcess). p.writes) (edges_of ss ps)
  edges-apart [] h = tt
  edges-apart (p ∷ ps) h = by_kind (edges-apart ps h.1) p.kind refl
    where
      others : (es : List EdgeOn) → p.kind ≡ Edges es → (q : Place) → has (edge_process ss es p.body).writes q ≡ true → NoneWrites (λ (x : M.EdgeProcess). x.writes) (edges_of ss ps) q
      others es k q e x m =
          let y = edge-member ps x m in
          elim (true_or_false (has (edge_process ss y.edges y.process.body).writes q)) [
            | inr f ↦ ap (λ (z : M.EdgeProcess). has z.writes q) y.is ∙ f
            | inl t ↦ absurd (h.0 q.signal (edge-writes p es k q e) y.process y.member (edge-writes y.process y.edges y.kind q t))
          ]

      by_kind : OneWriter (λ (x : M.EdgeProcess). x.writes) (edges_of ss ps) → (kind : ProcessKind) → p.kind ≡ kind → OneWriter (λ (x : M.EdgeProcess). x.writes) (Source.edge_process_of ss kind p.body (edges_of ss ps))
      by_kind rest Continuous e = rest
      by_kind rest Comb e = rest
      by_kind rest (Edges es) e = (others es e, rest)

module _ (d : Design) (t : Translatable d) where
  abbrev ss : List Signal
  ss = d.signals

  -- no combinational process reads a bit that one writes
  reads-apart : (p y : Process) → Member d.processes p → Member d.processes y → is_comb p.kind ≡ true → is_comb y.kind ≡ true → (q : Place)
      → Member (doing p.body).reads q.signal → has (comb_process ss y.body).writes q ≡ true → ⊥
  reads-apart p y mp my cp cy q m h = t.independent p y mp my cp cy q.signal m (comb-writes ss y cy q h)

  comb-honest : (p : Process) → Member d.processes p → is_comb p.kind ≡ true → Honest (comb_process ss p.body)
  comb-honest p m c = record {
    by_reads = λ v u same q.
        ((stmt-tame ss p.body).hangs (doing p.body).reads (λ n k. k) (begun v) (begun u)
        (record { now = λ n k r h. same r (kept n k r h); written = λ r. refl; pending = λ r. refl })).written q;
    within = λ v q h. (stmt-tame ss p.body).written (begun v) q (apart-once ss (doing p.body).targets q h);
  }
    where
      kept : (n : ℕ) → Member (doing p.body).reads n → (r : Place) → has (places_of n (width_of ss n)) r ≡ true → has (comb_process ss p.body).reads r ≡ true
      kept n k r h =
          has-without (comb_process ss p.body).writes (places_of_signals ss (doing p.body).reads) r (signals-in ss (doing p.body).reads n r k h) (elim (true_or_false (has (comb_process ss p.body).writes r)) [
            | inr f ↦ f
            | inl w ↦ absurd (reads-apart p p m m c c r (subst (λ x. Member (doing p.body).reads x) (sym (has-signal n 0 (width_of ss n) r h)) k) w)
          ])

  never-follows : (p y : Process) → Member d.processes p → Member d.processes y → is_comb p.kind ≡ true → is_comb y.kind ≡ true
      → follows (comb_process ss p.body) (comb_process ss y.body) ≡ true → ⊥
  never-follows p y mp my cp cy e =
      let r = followed_bit (comb_process ss p.body) (comb_process ss y.body) e in
      reads-apart p y mp my cp cy r.0 (at-number ss (doing p.body).reads r.0 (has-without-only (comb_process ss p.body).writes (places_of_signals ss (doing p.body).reads) r.0 r.1)) r.2

  none-follows : (p q : M.Process) → Member (combs_of ss d.processes) p → Member (combs_of ss d.processes) q → follows p q ≡ false
  none-follows p q mp mq =
      let a = comb-member ss d.processes p mp in
      let b = comb-member ss d.processes q mq in
      (λ i. follows (a.is i) (b.is i))
      ∙ elim (true_or_false (follows (comb_process ss a.process.body) (comb_process ss b.process.body))) [
        | inr f ↦ f
        | inl h ↦ absurd (never-follows a.process b.process a.member b.member a.kind b.kind h)
      ]

  pub sound : Sound (Source.machine d)
  sound = record {
    well_written = record {
      honest = λ p m. (let a = comb-member ss d.processes p m in subst Honest (sym a.is) (comb-honest a.process a.member a.kind));
      one_writer = combs-apart ss d.processes t.one_driver;
      edges_within = λ p m v q h. within p (edge-member ss d.processes p m) v q h;
      edges_one_writer = edges-apart ss d.processes t.one_driver;
    };
    all_free = Laws.independent_are_free (combs_of ss d.processes) none-follows;
  }
    where
      within : (p : M.EdgeProcess) → IsEdges d.signals d.processes p → (v : Valuation) (q : Place) → has p.writes q ≡ false → p.updates v q ≡ None
      within p a v q h =
          ap (λ (x : M.EdgeProcess). x.updates v q) a.is
          ∙ (stmt-tame d.signals a.process.body).pending (begun v) q
          (apart-once d.signals (doing a.process.body).later_targets q (ap (λ (x : M.EdgeProcess). has x.writes q) (sym a.is) ∙ h))
