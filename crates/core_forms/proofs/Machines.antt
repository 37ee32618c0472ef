-- A design is, as a machine, its core form.
use Rattle.std.proofs.Common.{◌≡◌, ◌↔◌, ◌⊎◌, ℕ, zero, suc, ◌+◌, ◌==◌, ◌≤◌, ◌^◌, Bool, true, false, not, ◌&&◌, ◌||◌, cond, filter, List, [], ◌∷◌, ◌++◌, map, flat_map, length, replicate, slice_index_or, Option, Some, None, refl, sym, ap, subst, ◌∙◌, inl, inr, arith}
use Rattle.std.specs.Prelude.{slice_get, nat_le, if◌then◌else◌}
use Rattle.std.specs.List.{AllZip, list_any}
use Rattle.std.proofs.lemmas.Bool.{and_parts, eqb-true, eq-eqb, or_cases, false≢true}
use Rattle.b4_core.specs.declared.bit.Bit4.TheVariants.{X, Z}
use Rattle.b4_core.specs.Bitwise as Bitwise
use Rattle.row_machine.specs.Valuation.{Member, Place, Valuation, Changes, has}
use Rattle.row_machine.specs.Machine as M
use Rattle.row_machine.specs.Places.{places_from, places_of}
use Rattle.row_machine.specs.Steps as Steps
use Rattle.row_machine.specs.Footprints.{RunAlike, UpdateAlike, SameRuns}
use Rattle.row_machine.proofs.Basics.{any-member, true_or_false}
use Rattle.row_machine.proofs.Members.{member-map}
use Rattle.row_machine.proofs.Laws as RowLaws
use Rattle.sv_types.specs.declared.design.SignalKind as K
use Rattle.sv_types.specs.declared.design.SignalKind.TheVariants as KV
use Rattle.sv_types.specs.declared.design.Signal as G
use Rattle.sv_types.specs.declared.design.EdgeOn as E
use Rattle.sv_types.specs.declared.design.ProcessKind as Q
use Rattle.sv_types.specs.declared.design.ProcessKind.TheVariants as QV
use Rattle.sv_types.specs.declared.design.Process as R
use Rattle.sv_types.specs.declared.design.Design as Final
use Rattle.sv_types.specs.declared.expression.Expr as X
use Rattle.sv_types.specs.declared.statement.Outcome.TheVariants.{Normal}
use Rattle.sv_types.specs.Layouts.{layout, default_bits, stored_bit}
use Rattle.sv_types.specs.Layouts as Layouts
use Rattle.sv_types.specs.Values.{bits}
use Rattle.sv_types.specs.Surroundings.{Use, is_signal}
use Rattle.sv_types.specs.Runs.{State}
use Rattle.sv_types.specs.Flows.{covers, covered, uses_of}
use Rattle.sv_types.specs.Statements as D
use Rattle.sv_types.specs.Machine as F
use Rattle.sv_types.specs.Machine.{SignalMeaning, ProcessMeaning, signal_meaning, process_meaning, parts}
use Rattle.sv_core.specs.declared.design.SignalKind.{SignalKind}
use Rattle.sv_core.specs.declared.design.SignalKind.TheVariants.{InputNet, OutputVar, Variable}
use Rattle.sv_core.specs.declared.design.Signal.{Signal}
use Rattle.sv_core.specs.declared.design.EdgeOn.{EdgeOn}
use Rattle.sv_core.specs.declared.design.ProcessKind.{ProcessKind}
use Rattle.sv_core.specs.declared.design.ProcessKind.TheVariants.{Continuous, Comb, Edges}
use Rattle.sv_core.specs.declared.design.Process.{Process}
use Rattle.sv_core.specs.declared.design.Design.{Design}
use Rattle.sv_core.specs.declared.design.Stmt.{Stmt}
use Rattle.sv_core.specs.Statements as S
use Rattle.sv_core.specs.Statements.{width_of}
use Rattle.sv_core.specs.Machine as C
use Rattle.core_forms.specs.Forms.{then_one, then_two, each, edge_of, kind_of, process_with, process_of, signal_kind_of, signal_with, signal_of, top_of, design_with, stmt_of, core_of}
use Rattle.core_forms.specs.Typing.{IsVector, width_or_zero, width_in, ExprTyped, exprs_in, IsPlain}
use Rattle.core_forms.specs.Laws.{IsModest, CoresRunAlike, CoresHaveTheTraces}
use Rattle.core_forms.proofs.Expressions.{one-some, two-some, none-some, Unsure, numbers_of}
use Rattle.core_forms.proofs.Statements.{AreLow, Same, Runs, stmt-same, progress, around}

-- lists of which each element has a core form
each-get : {A B : Type 0} (f : A → Option B) (xs : List A) (ys : List B) → each f xs ≡ Some ys → (n : ℕ) (x : A) → slice_get xs n ≡ Some x → (y : B) × (slice_get ys n ≡ Some y) × (f x ≡ Some y)
each-get f [] ys e n x g = cc
each-get f (z ∷ xs) ys e zero x g =
    let r = two-some (λ y zs. y ∷ zs) (f z) (each f xs) ys e in
    let same : z ≡ x = cc in
    (r.first, ap (λ zs. slice_get zs 0) (sym r.made), ap f (sym same) ∙ r.first_is)
each-get f (z ∷ xs) ys e (suc n) x g =
    let r = two-some (λ y zs. y ∷ zs) (f z) (each f xs) ys e in
    let more = each-get f xs r.second r.second_is n x g in
    (more.0, ap (λ zs. slice_get zs (suc n)) (sym r.made) ∙ more.1, more.2)

each-none : {A B : Type 0} (f : A → Option B) (xs : List A) (ys : List B) → each f xs ≡ Some ys → (n : ℕ) → slice_get xs n ≡ None → slice_get ys n ≡ None
each-none f [] ys e n g = (let none : [] ≡ ys = cc in ap (λ zs. slice_get zs n) (sym none))
each-none f (z ∷ xs) ys e zero g = cc
each-none f (z ∷ xs) ys e (suc n) g =
    let r = two-some (λ y zs. y ∷ zs) (f z) (each f xs) ys e in
    ap (λ zs. slice_get zs (suc n)) (sym r.made) ∙ each-none f xs r.second r.second_is n g

each-member : {A B : Type 0} (f : A → Option B) (xs : List A) (ys : List B) → each f xs ≡ Some ys → (x : A) → Member xs x → (y : B) × Member ys y × (f x ≡ Some y)
each-member f [] ys e x m = elim m [ ]
each-member f (z ∷ xs) ys e x (inl same) =
    let r = two-some (λ y zs. y ∷ zs) (f z) (each f xs) ys e in
    (r.first, subst (λ zs. Member zs r.first) r.made (inl refl), ap f same ∙ r.first_is)
each-member f (z ∷ xs) ys e x (inr m) =
    let r = two-some (λ y zs. y ∷ zs) (f z) (each f xs) ys e in
    let more = each-member f xs r.second r.second_is x m in
    (more.0, subst (λ zs. Member zs more.0) r.made (inr more.1), more.2)

map-get : {A B : Type 0} (f : A → B) (xs : List A) (n : ℕ) (x : A) → slice_get xs n ≡ Some x → slice_get (map f xs) n ≡ Some (f x)
map-get f [] n x e = cc
map-get f (y ∷ xs) zero x e = (let same : y ≡ x = cc in ap (λ z. Some (f z)) same)
map-get f (y ∷ xs) (suc n) x e = map-get f xs n x e

map-none : {A B : Type 0} (f : A → B) (xs : List A) (n : ℕ) → slice_get xs n ≡ None → slice_get (map f xs) n ≡ None
map-none f [] n e = refl
map-none f (y ∷ xs) zero e = cc
map-none f (y ∷ xs) (suc n) e = map-none f xs n e

member-at : {A : Type 0} (xs : List A) (n : ℕ) (x : A) → slice_get xs n ≡ Some x → Member xs x
member-at [] n x e = cc
member-at (y ∷ xs) zero x e = (let same : y ≡ x = cc in inl (sym same))
member-at (y ∷ xs) (suc n) x e = inr (member-at xs n x e)

-- the core form of a signal
pub record IsSignalOf (s : G.Signal) (t : Signal) : Type 0 where
  pub kind : SignalKind
  pub kind_is : signal_kind_of s.kind ≡ Some kind
  pub is : signal_with s kind ≡ t

signal-core : (s : G.Signal) (t : Signal) → signal_of s ≡ Some t → IsSignalOf s t
signal-core s t e = by_width (nat_le (Layouts.width_of s.of) 4194304) e
  where
    by_width : (b : Bool) → (if b then then_one (signal_with s) (signal_kind_of s.kind) else None) ≡ Some t → IsSignalOf s t
    by_width false h = absurd (none-some t h)
    by_width true h = (let r = one-some (signal_with s) (signal_kind_of s.kind) t h in record { kind = r.0; kind_is = r.1; is = r.2 })

-- filtered places
filter-append : {A : Type 0} (t : A → Bool) (xs ys : List A) → filter t (xs ++ ys) ≡ filter t xs ++ filter t ys
filter-append t [] ys = refl
filter-append t (x ∷ xs) ys = by_test (t x) (filter-append t xs ys)
  where
    by_test : (b : Bool) → filter t (xs ++ ys) ≡ filter t xs ++ filter t ys → cond b (x ∷ filter t (xs ++ ys)) (filter t (xs ++ ys)) ≡ cond b (x ∷ filter t xs) (filter t xs) ++ filter t ys
    by_test true rest = ap (λ zs. x ∷ zs) rest
    by_test false rest = rest

filter-places : (t : Place → Bool) (n k w : ℕ) (b : Bool) → ((q : Place) → q.signal ≡ n → t q ≡ b) → filter t (places_from n k w) ≡ cond b (places_from n k w) []
filter-places t n k zero true h = refl
filter-places t n k zero false h = refl
filter-places t n k (suc w) true h =
    ap (λ b. cond b (record { signal = n; bit = k } ∷ filter t (places_from n (suc k) w)) (filter t (places_from n (suc k) w))) (h (record { signal = n; bit = k }) refl)
    ∙ ap (λ zs. record { signal = n; bit = k } ∷ zs) (filter-places t n (suc k) w true h)
filter-places t n k (suc w) false h =
    ap (λ b. cond b (record { signal = n; bit = k } ∷ filter t (places_from n (suc k) w)) (filter t (places_from n (suc k) w))) (h (record { signal = n; bit = k }) refl)
    ∙ filter-places t n (suc k) w false h

-- x or nothing in each place
x-everywhere : (w b : ℕ) → slice_index_or (default_bits (replicate w false)) b X ≡ X
x-everywhere zero b = refl
x-everywhere (suc w) zero = refl
x-everywhere (suc w) (suc b) = x-everywhere w b

no-mark : (w b : ℕ) → slice_index_or (replicate w false) b false ≡ false
no-mark zero b = refl
no-mark (suc w) zero = refl
no-mark (suc w) (suc b) = no-mark w b

-- a use of a bit has its signal's number
covered-number : (us : List Use) (q : Place) → covered us q ≡ true → Member (numbers_of us) q.signal
covered-number us q e =
    let r = any-member (λ u. covers u q) us e in
    let same : (r.0).number ≡ q.signal = eqb-true (r.0).number q.signal (and_parts _ _ r.2).0 in
    subst (λ n. Member (numbers_of us) n) same (member-map (λ (u : Use). u.number) us r.0 r.1)

list-any-map : {A B : Type 0} (t : B → Bool) (f : A → B) (xs : List A) → list_any t (map f xs) ≡ list_any (λ x. t (f x)) xs
list-any-map t f [] = refl
list-any-map t f (x ∷ xs) = ap (λ b. t (f x) || b) (list-any-map t f xs)

none-any : {A : Type 0} (t : A → Bool) (xs : List A) → ((x : A) → Member xs x → t x ≡ false) → list_any t xs ≡ false
none-any t [] h = refl
none-any t (x ∷ xs) h = λ i. h x (inl refl) i || none-any t xs (λ y m. h y (inr m)) i

module _ (d : Final.Design) (c : Design) (plain : IsPlain d) (is_core : core_of d ≡ Some c) (modest : IsModest c) where
  record Cores : Type 0 where
    signals : each signal_of d.signals ≡ Some c.signals
    processes : each process_of d.processes ≡ Some c.processes

  cores : Cores
  cores =
      let r = two-some (design_with (top_of d.instances)) (each signal_of d.signals) (each process_of d.processes) c is_core in
      record { signals = r.first_is ∙ ap (λ (x : Design). Some x.signals) r.made; processes = r.second_is ∙ ap (λ (x : Design). Some x.processes) r.made }

  -- both have the same widths
  same-width : (n : ℕ) → width_in d.signals n ≡ width_of c.signals n
  same-width n = by_signal (slice_get d.signals n) refl
    where
      by_signal : (o : Option G.Signal) → slice_get d.signals n ≡ o → width_or_zero o ≡ width_of c.signals n
      by_signal None e = ap S.width_or_zero (sym (each-none signal_of d.signals c.signals cores.signals n e))
      by_signal (Some s) e =
          let r = each-get signal_of d.signals c.signals cores.signals n s e in
          let t = signal-core s r.0 r.2 in
          ap (λ (x : Signal). x.width) t.is ∙ sym (ap S.width_or_zero r.1)

  typed : (p : R.Process) → Member d.processes p → (e : X.Expr) → Member (exprs_in p.body) e → ExprTyped (width_of c.signals) e
  typed p m e k = subst (λ ws. ExprTyped ws e) (λ i n. same-width n i) (plain.typed p m e k)

  -- what a process runs
  process-same : (p : R.Process) → Member d.processes p → (k : Stmt) → stmt_of p.body ≡ Some k → Runs c.signals modest.few (parts d).callee (S.doing k) (D.doing p.body)
  process-same p m k e = stmt-same c.signals modest.few (parts d).callee p.body k e (typed p m)

  -- what a run assigns, in signals
  shown : (b : Bool) (c e : Changes) (q : Place) → is_signal q.signal ≡ b → (is_signal q.signal ≡ false → e q ≡ None) → c q ≡ e q → F.to_signals c q ≡ e q
  shown true c e q h low same = ap (λ b. cond b (c q) None) h ∙ same
  shown false c e q h low same = ap (λ b. cond b (c q) None) h ∙ sym (low h)

  nothing-low : AreLow (record { written = Steps.unchanged; pending = Steps.unchanged; outcome = Normal })
  nothing-low = record { written = λ q h. refl; pending = λ q h. refl }

  module _ (x : S.Doing) (e : D.Doing) (same : Runs c.signals modest.few (parts d).callee x e) where
    ran-is : (v : Valuation) → progress v (F.ran (parts d) e v) ≡ x.run c.signals (Steps.begun v)
    ran-is v = same.run_is v (record { written = Steps.unchanged; pending = Steps.unchanged; outcome = Normal }) refl

    ran-low : (v : Valuation) → AreLow (F.ran (parts d) e v)
    ran-low v = same.stays_low v (record { written = Steps.unchanged; pending = Steps.unchanged; outcome = Normal }) refl nothing-low

    assigns-same : (v : Valuation) (q : Place) → F.to_signals (F.ran (parts d) e v).written q ≡ (x.run c.signals (Steps.begun v)).written q
    assigns-same v q =
        let is = ap (λ (p : Steps.Progress). p.written q) (ran-is v) in
        shown (is_signal q.signal) (F.ran (parts d) e v).written (x.run c.signals (Steps.begun v)).written q refl (λ h. sym is ∙ (ran-low v).written q h) is

    updates-same : (v : Valuation) (q : Place) → F.to_signals (F.ran (parts d) e v).pending q ≡ (x.run c.signals (Steps.begun v)).pending q
    updates-same v q =
        let is = ap (λ (p : Steps.Progress). p.pending q) (ran-is v) in
        shown (is_signal q.signal) (F.ran (parts d) e v).pending (x.run c.signals (Steps.begun v)).pending q refl (λ h. sym is ∙ (ran-low v).pending q h) is

  comb-alike : (p : R.Process) → Member d.processes p → (k : Stmt) → stmt_of p.body ≡ Some k → RunAlike (F.comb (parts d) true [] (D.doing p.body)) (C.comb_process c.signals k)
  comb-alike p m k e = record { from_zero = refl; waits_for = refl; assigns = assigns-same (S.doing k) (D.doing p.body) (process-same p m k e) }

  combs-alike : (ps : List R.Process) → ((p : R.Process) → Member ps p → Member d.processes p) → (ks : List Process) → each process_of ps ≡ Some ks
      → AllZip RunAlike (flat_map (λ (p : ProcessMeaning). F.comb_of (parts d) p.does p.kind) (map process_meaning ps)) (C.combs_of c.signals ks)
  combs-alike [] among ks e =
      let none : [] ≡ ks = cc in
      subst (λ zs. AllZip RunAlike [] (C.combs_of c.signals zs)) none tt
  combs-alike (p ∷ ps) among ks e =
      let r = two-some (λ y ys. y ∷ ys) (process_of p) (each process_of ps) ks e in
      let k = two-some process_with (kind_of p.kind) (stmt_of p.body) r.first r.first_is in
      let rest = combs-alike ps (λ x m. among x (inr m)) r.second r.second_is in
      let here = comb-alike p (among p (inl refl)) k.second k.second_is in
      subst (λ zs. AllZip RunAlike (F.comb_of (parts d) (D.doing p.body) p.kind ++ flat_map (λ (p : ProcessMeaning). F.comb_of (parts d) p.does p.kind) (map process_meaning ps)) (C.combs_of c.signals zs)) r.made
      (subst (λ z. AllZip RunAlike (F.comb_of (parts d) (D.doing p.body) p.kind ++ flat_map (λ (p : ProcessMeaning). F.comb_of (parts d) p.does p.kind) (map process_meaning ps)) (C.combs_of c.signals (z ∷ r.second))) k.made
      (by_kind p.kind k.first k.first_is (D.doing p.body) k.second _ _ here rest))
    where
      by_kind : (kind : Q.ProcessKind) (form : ProcessKind) → kind_of kind ≡ Some form → (e : D.Doing) (body : Stmt) (more : List M.Process) (cores : List M.Process)
          → RunAlike (F.comb (parts d) true [] e) (C.comb_process c.signals body) → AllZip RunAlike more cores
          → AllZip RunAlike (F.comb_of (parts d) e kind ++ more) (C.comb_of c.signals form body cores)
      by_kind QV.Continuous form is e body more cores here rest =
          (let same : Continuous ≡ form = cc in subst (λ f. AllZip RunAlike (F.comb (parts d) true [] e ∷ more) (C.comb_of c.signals f body cores)) same (here, rest))
      by_kind QV.Comb form is e body more cores here rest =
          (let same : Comb ≡ form = cc in subst (λ f. AllZip RunAlike (F.comb (parts d) true [] e ∷ more) (C.comb_of c.signals f body cores)) same (here, rest))
      by_kind (QV.Edges es) form is e body more cores here rest =
          (let same : Edges (map edge_of es) ≡ form = cc in subst (λ f. AllZip RunAlike more (C.comb_of c.signals f body cores)) same rest)
      by_kind (QV.Link port) form is e body more cores here rest = absurd (none-some form is)
      by_kind QV.Latch form is e body more cores here rest = absurd (none-some form is)
      by_kind QV.Star form is e body more cores here rest = absurd (none-some form is)

  edge-alike : (p : R.Process) → Member d.processes p → (k : Stmt) → stmt_of p.body ≡ Some k → (es : List E.EdgeOn)
      → UpdateAlike (F.edge (parts d) es (D.doing p.body)) (C.edge_process c.signals (map edge_of es) k)
  edge-alike p m k e es = record {
    runs = λ v w. sym (list-any-map (C.has_edge v w) edge_of es);
    updates = updates-same (S.doing k) (D.doing p.body) (process-same p m k e);
  }

  edges-alike : (ps : List R.Process) → ((p : R.Process) → Member ps p → Member d.processes p) → (ks : List Process) → each process_of ps ≡ Some ks
      → AllZip UpdateAlike (flat_map (λ (p : ProcessMeaning). F.edge_of_kind (parts d) p.does p.kind) (map process_meaning ps)) (C.edges_of c.signals ks)
  edges-alike [] among ks e =
      let none : [] ≡ ks = cc in
      subst (λ zs. AllZip UpdateAlike [] (C.edges_of c.signals zs)) none tt
  edges-alike (p ∷ ps) among ks e =
      let r = two-some (λ y ys. y ∷ ys) (process_of p) (each process_of ps) ks e in
      let k = two-some process_with (kind_of p.kind) (stmt_of p.body) r.first r.first_is in
      let rest = edges-alike ps (λ x m. among x (inr m)) r.second r.second_is in
      subst (λ zs. AllZip UpdateAlike (F.edge_of_kind (parts d) (D.doing p.body) p.kind ++ flat_map (λ (p : ProcessMeaning). F.edge_of_kind (parts d) p.does p.kind) (map process_meaning ps)) (C.edges_of c.signals zs)) r.made
      (subst (λ z. AllZip UpdateAlike (F.edge_of_kind (parts d) (D.doing p.body) p.kind ++ flat_map (λ (p : ProcessMeaning). F.edge_of_kind (parts d) p.does p.kind) (map process_meaning ps)) (C.edges_of c.signals (z ∷ r.second))) k.made
      (by_kind p.kind k.first k.first_is (D.doing p.body) k.second _ _ (edge-alike p (among p (inl refl)) k.second k.second_is) rest))
    where
      by_kind : (kind : Q.ProcessKind) (form : ProcessKind) → kind_of kind ≡ Some form → (e : D.Doing) (body : Stmt) (more : List M.EdgeProcess) (cores : List M.EdgeProcess)
          → ((es : List E.EdgeOn) → UpdateAlike (F.edge (parts d) es e) (C.edge_process c.signals (map edge_of es) body)) → AllZip UpdateAlike more cores
          → AllZip UpdateAlike (F.edge_of_kind (parts d) e kind ++ more) (C.edge_process_of c.signals form body cores)
      by_kind QV.Continuous form is e body more cores here rest =
          (let same : Continuous ≡ form = cc in subst (λ f. AllZip UpdateAlike more (C.edge_process_of c.signals f body cores)) same rest)
      by_kind QV.Comb form is e body more cores here rest =
          (let same : Comb ≡ form = cc in subst (λ f. AllZip UpdateAlike more (C.edge_process_of c.signals f body cores)) same rest)
      by_kind (QV.Edges es) form is e body more cores here rest =
          (let same : Edges (map edge_of es) ≡ form = cc in
          subst (λ f. AllZip UpdateAlike (F.edge (parts d) es e ∷ more) (C.edge_process_of c.signals f body cores)) same (here es, rest))
      by_kind (QV.Link port) form is e body more cores here rest = absurd (none-some form is)
      by_kind QV.Latch form is e body more cores here rest = absurd (none-some form is)
      by_kind QV.Star form is e body more cores here rest = absurd (none-some form is)

  -- the inputs stand in one order
  top-input : (s : G.Signal) → s.instance ≡ 1 → (signal_meaning s).is_top_input ≡ F.is_input s.kind
  top-input s one = ap (λ b. b && F.is_input s.kind) (eq-eqb s.instance 1 one)

  inputs-from : (t : Place → Bool) (k : ℕ) (ds : List G.Signal) (ss : List Signal) → each signal_of ds ≡ Some ss
      → ((i : ℕ) (s : G.Signal) → slice_get ds i ≡ Some s → (q : Place) → q.signal ≡ k + i → t q ≡ F.is_input s.kind)
      → filter t (F.places_from k (map signal_meaning ds)) ≡ C.inputs_from k ss
  inputs-from t k [] ss e h = (let none : [] ≡ ss = cc in ap (C.inputs_from k) none)
  inputs-from t k (s ∷ ds) ss e h =
      let r = two-some (λ y ys. y ∷ ys) (signal_of s) (each signal_of ds) ss e in
      let g = signal-core s r.first r.first_is in
      let w = Layouts.width_of s.of in
      filter-append t (places_of k w) (F.places_from (suc k) (map signal_meaning ds))
      ∙ (λ i. (filter-places t k 0 w (F.is_input s.kind) (λ q same. h 0 s refl q (let start : k + 0 ≡ k = omega arith in same ∙ sym start)) ∙ by_kind s.kind g.kind g.kind_is w s.path) i
      ++ inputs-from t (suc k) ds r.second r.second_is (λ j x there q same. h (suc j) x there q (let next : suc k + j ≡ k + suc j = omega arith in same ∙ next)) i)
      ∙ ap (λ x. C.input_places k x ++ C.inputs_from (suc k) r.second) g.is
      ∙ ap (C.inputs_from k) r.made
    where
      by_kind : (kind : K.SignalKind) (form : SignalKind) → signal_kind_of kind ≡ Some form → (w : ℕ) (path : List ℕ)
          → cond (F.is_input kind) (places_of k w) [] ≡ C.input_places k (record { path = path; width = w; kind = form })
      by_kind KV.InputNet form is w path = (let same : InputNet ≡ form = cc in ap (λ f. C.input_places k (record { path = path; width = w; kind = f })) same)
      by_kind KV.OutputVar form is w path = (let same : OutputVar ≡ form = cc in ap (λ f. C.input_places k (record { path = path; width = w; kind = f })) same)
      by_kind KV.Variable form is w path = (let same : Variable ≡ form = cc in ap (λ f. C.input_places k (record { path = path; width = w; kind = f })) same)
      by_kind KV.InputVar form is w path = absurd (none-some form is)
      by_kind KV.OutputNet form is w path = absurd (none-some form is)
      by_kind KV.Net form is w path = absurd (none-some form is)

  of-signal : {A : Type 0} (otherwise : A) (f : SignalMeaning → A) (n : ℕ) (s : G.Signal) → slice_get d.signals n ≡ Some s → F.of_signal (map signal_meaning d.signals) otherwise f n ≡ f (signal_meaning s)
  of-signal otherwise f n s e = ap (λ o. elim o [ None ↦ otherwise | Some x ↦ f x ]) (map-get signal_meaning d.signals n s e)

  of-none : {A : Type 0} (otherwise : A) (f : SignalMeaning → A) (n : ℕ) → slice_get d.signals n ≡ None → F.of_signal (map signal_meaning d.signals) otherwise f n ≡ otherwise
  of-none otherwise f n e = ap (λ o. elim o [ None ↦ otherwise | Some x ↦ f x ]) (map-none signal_meaning d.signals n e)

  inputs-same : filter (λ q. F.of_signal (map signal_meaning d.signals) false (λ s. s.is_top_input) q.signal) (F.places_from 0 (map signal_meaning d.signals)) ≡ C.inputs_from 0 c.signals
  inputs-same = inputs-from _ 0 d.signals c.signals cores.signals
      (λ i s there q same.
      let start : 0 + i ≡ i = omega arith in
      ap (F.of_signal (map signal_meaning d.signals) false (λ s. s.is_top_input)) (same ∙ start)
      ∙ of-signal false (λ s. s.is_top_input) i s there
      ∙ top-input s (plain.of_top s (member-at d.signals i s there)))

  -- what a signal holds before the first row
  holds-x : (s : G.Signal) → Member d.signals s → (b : ℕ) → slice_index_or (signal_meaning s).initial b X ≡ X
  holds-x s m b =
      ap (λ v. slice_index_or (cond v (bits s.initial) (default_bits (layout s.of).two_state)) b X) (plain.undeclared s m)
      ∙ ap (λ marks. slice_index_or (default_bits marks) b X) (plain.vectors s m).four_state
      ∙ x-everywhere (Layouts.width_of s.of) b

  initial-same : (q : Place) → F.initial (parts d) q ≡ X
  initial-same q = by_signal (slice_get d.signals q.signal) refl
    where
      by_signal : (o : Option G.Signal) → slice_get d.signals q.signal ≡ o → F.initial (parts d) q ≡ X
      by_signal None e = of-none X _ q.signal e
      by_signal (Some s) e = of-signal X _ q.signal s e ∙ holds-x s (member-at d.signals q.signal s e) q.bit

  -- no process writes an input
  unwritten-input : (q : Place) (t : Signal) → slice_get c.signals q.signal ≡ Some t → t.kind ≡ InputNet → F.is_written (parts d) q ≡ false
  unwritten-input q t there input = none-any (λ (p : ProcessMeaning). let f = p.does.flow (F.unseen (parts d)) in covered (uses_of f.writes) q || covered (uses_of f.later) q) (map process_meaning d.processes) (λ x m. let r = from-map d.processes x m in ap (λ (p : ProcessMeaning). let f = p.does.flow (F.unseen (parts d)) in covered (uses_of f.writes) q || covered (uses_of f.later) q) r.2 ∙ one r.0 r.1)
    where
      from-map : (ps : List R.Process) (x : ProcessMeaning) → Member (map process_meaning ps) x → (p : R.Process) × Member ps p × (x ≡ process_meaning p)
      from-map [] x m = elim m [ ]
      from-map (p ∷ ps) x (inl e) = (p, inl refl, e)
      from-map (p ∷ ps) x (inr m) = (let r = from-map ps x m in (r.0, inr r.1, r.2))

      one : (p : R.Process) → Member d.processes p → (covered (uses_of ((D.doing p.body).flow (F.unseen (parts d))).writes) q || covered (uses_of ((D.doing p.body).flow (F.unseen (parts d))).later) q) ≡ false
      one p m =
          let r = each-member process_of d.processes c.processes cores.processes p m in
          let k = two-some process_with (kind_of p.kind) (stmt_of p.body) r.0 r.2 in
          let same = process-same p m k.second k.second_is in
          let body : k.second ≡ (r.0).body = ap (λ (x : Process). x.body) k.made in
          let never = modest.inputs r.0 r.1 q.signal in
          (λ i. not-covered (uses_of ((D.doing p.body).flow (F.unseen (parts d))).writes)
          (λ l. never (inl (subst (λ b. Member (S.doing b).targets q.signal) body (subst (λ ns. Member ns q.signal) (same.writes_are (F.unseen (parts d)) (λ z. refl)) l))) t there input) i
          || not-covered (uses_of ((D.doing p.body).flow (F.unseen (parts d))).later)
          (λ l. never (inr (subst (λ b. Member (S.doing b).later_targets q.signal) body (subst (λ ns. Member ns q.signal) (same.later_are (F.unseen (parts d)) (λ z. refl)) l))) t there input) i)
        where
          not-covered : (us : List Use) → (Member (numbers_of us) q.signal → ⊥) → covered us q ≡ false
          not-covered us h = elim (true_or_false (covered us q)) [
            | inr f ↦ f
            | inl e ↦ absurd (h (covered-number us q e))
          ]

  start-same : (q : Place) → F.start (parts d) q ≡ C.rest_or_x (slice_get c.signals q.signal)
  start-same q = by_signal (slice_get d.signals q.signal) refl
    where
      by_signal : (o : Option G.Signal) → slice_get d.signals q.signal ≡ o → F.start (parts d) q ≡ C.rest_or_x (slice_get c.signals q.signal)
      by_signal None e = of-none X _ q.signal e ∙ sym (ap C.rest_or_x (each-none signal_of d.signals c.signals cores.signals q.signal e))
      by_signal (Some s) e =
          let m = member-at d.signals q.signal s e in
          let r = each-get signal_of d.signals c.signals cores.signals q.signal s e in
          let g = signal-core s r.0 r.2 in
          let kind : (r.0).kind ≡ g.kind = ap (λ (x : Signal). x.kind) (sym g.is) in
          of-signal X _ q.signal s e
          ∙ by_kind s m s.kind g.kind g.kind_is (λ f. unwritten-input q r.0 r.1 (kind ∙ f))
          ∙ sym (ap C.rest_or_x r.1 ∙ ap C.rest_of kind)
        where
          by_kind : (s : G.Signal) → Member d.signals s → (kind : K.SignalKind) (form : SignalKind) → signal_kind_of kind ≡ Some form → (form ≡ InputNet → F.is_written (parts d) q ≡ false)
              → cond (F.holds_value kind || F.is_written (parts d) q) (slice_index_or (signal_meaning s).initial q.bit X) (F.undriven (slice_index_or (layout s.of).two_state q.bit false)) ≡ C.rest_of form
          by_kind s m KV.InputNet form is unwritten =
              let same : InputNet ≡ form = cc in
              ap (λ b. cond b (slice_index_or (signal_meaning s).initial q.bit X) (F.undriven (slice_index_or (layout s.of).two_state q.bit false))) (unwritten (sym same))
              ∙ ap (λ marks. F.undriven (slice_index_or marks q.bit false)) (plain.vectors s m).four_state
              ∙ ap F.undriven (no-mark (Layouts.width_of s.of) q.bit)
              ∙ ap C.rest_of same
          by_kind s m KV.OutputVar form is unwritten = (let same : OutputVar ≡ form = cc in holds-x s m q.bit ∙ ap C.rest_of same)
          by_kind s m KV.Variable form is unwritten = (let same : Variable ≡ form = cc in holds-x s m q.bit ∙ ap C.rest_of same)
          by_kind s m KV.InputVar form is unwritten = absurd (none-some form is)
          by_kind s m KV.OutputNet form is unwritten = absurd (none-some form is)
          by_kind s m KV.Net form is unwritten = absurd (none-some form is)

  same-runs : SameRuns (F.machine d) (C.machine c)
  same-runs = record {
    combs = combs-alike d.processes (λ p m. m) c.processes cores.processes;
    edges = edges-alike d.processes (λ p m. m) c.processes cores.processes;
    inputs = λ q. ap (λ ps. has ps q) inputs-same;
    initial = initial-same;
    start = start-same;
  }

pub cores_run_alike : CoresRunAlike
cores_run_alike d c plain is modest = same-runs d c plain is modest

pub cores_have_the_traces : CoresHaveTheTraces
cores_have_the_traces d c plain is modest = (RowLaws.footprints_are_unseen (F.machine d) (C.machine c) (same-runs d c plain is modest)).traces
