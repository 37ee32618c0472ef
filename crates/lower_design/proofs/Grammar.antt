-- The lowered design is a tree of the target grammar.
use Rattle.std.proofs.Common.{◌≡◌, ℕ, suc, ◌+◌, ◌-◌, ◌*◌, ◌==◌, ◌<◌, ◌≤◌, nat_le, Bool, true, false, ◌&&◌, List, [], ◌∷◌, ◌++◌, map, filter, length, refl, ap, subst, ◌∙◌, inl, inr, arith}
use Rattle.std.specs.List.{list_all}
use Rattle.std.proofs.lemmas.Bool.{le-leb, lt-ltb, and_parts}
use Rattle.row_machine.specs.Valuation.{Member}
use Rattle.row_machine.proofs.Members.{map-member, filter-member}
use Rattle.sv_core.specs.declared.design.SignalKind.{SignalKind}
use Rattle.sv_core.specs.declared.design.SignalKind.TheVariants.{InputNet, OutputVar, Variable}
use Rattle.sv_core.specs.declared.design.Signal.{Signal}
use Rattle.sv_core.specs.declared.design.Expr.{Expr}
use Rattle.sv_core.specs.declared.design.EdgeOn.{EdgeOn}
use Rattle.sv_core.specs.declared.design.ProcessKind.{ProcessKind}
use Rattle.sv_core.specs.declared.design.ProcessKind.TheVariants.{Continuous, Comb, Edges}
use Rattle.sv_core.specs.declared.design.Process.{Process}
use Rattle.sv_core.specs.declared.design.Stmt.TheVariants as S
use Rattle.sv_core.specs.declared.design.Design.{Design}
use Rattle.sv_core.specs.Statements as SD
use Rattle.sv_core.specs.Statements.{doing, stmt_doing, expr_signals}
use Rattle.v_tree.specs.Reading.{nesting_limit}
use Rattle.v_tree.specs.Tokens.{is_name}
use Rattle.v_tree.specs.Grammatical.{fit, fit_of_lval, form_of_branch, is_decimal, is_perhaps, is_branch, is_process, is_signal, has_some, is_item, is_of_grammar}
use Rattle.v_tree.specs.declared.items.VEdge.{VEdge}
use Rattle.v_tree.specs.declared.items.VProcess.TheVariants.{Assign as Drive}
use Rattle.v_tree.specs.declared.statements.VBranch.{VBranch}
use Rattle.lower_design.specs.Translatable.{Translatable, KindFits, EdgeFits, path_of, inside, stmt_inside, Inside}
use Rattle.lower_design.specs.Shape.{name_of, path_or_nothing, is_port}
use Rattle.lower_design.specs.Lowered.{lowered_expr, driver_in, process_by, lowered_process, process_items, lowered_edge, range_of, declaration_of, declarations, trigger_items, is_driven, lowered_items, lowered, whole_target}
use Rattle.lower_design.proofs.Names.{true_or_false, pick_true, pick_false, member-at}
use Rattle.lower_design.proofs.Levels.{assign-level, assign-out}
use Rattle.lower_design.proofs.Forms.{FineBlock, Ready, simple-name, expr-fine, target-fine, body-fine, triggered-fine}
use Rattle.lower_design.proofs.Items.{has_comb, get-below}
use Rattle.lower_design.proofs.Extension.{uses-signals}

all-append : {A : Type 0} (test : A → Bool) (xs ys : List A) → list_all test xs ≡ true → list_all test ys ≡ true → list_all test (xs ++ ys) ≡ true
all-append test [] ys e f = f
all-append test (x ∷ xs) ys e f = let p = and_parts _ _ e in (λ i. p.0 i && all-append test xs ys p.1 f i)

all-of : {A : Type 0} (test : A → Bool) (xs : List A) → ((x : A) → Member xs x → test x ≡ true) → list_all test xs ≡ true
all-of test [] h = refl
all-of test (x ∷ xs) h = λ i. h x (inl refl) i && all-of test xs (λ y m. h y (inr m)) i

within : (fits : Bool) (depth limit : ℕ) → fits ≡ true → depth ≤ limit → limit ≤ nesting_limit → (fits && nat_le depth nesting_limit) ≡ true
within fits depth limit is deep low = λ i. is i && le-leb depth nesting_limit (omega (arith, deep, low)) i

-- a declared range is a decimal number
range-is : (w : ℕ) → w ≤ 65536 → is_perhaps is_decimal (range_of w) ≡ true
range-is w few = elim (true_or_false (w == 1)) [
  | inl e ↦ ap (is_perhaps is_decimal) (pick_true (w == 1) _ _ e)
  | inr e ↦ ap (is_perhaps is_decimal) (pick_false (w == 1) _ _ e) ∙ lt-ltb (w - 1) 4294967296 (omega arith)
]

declaration-is : (s : Signal) (driven : Bool) → is_name s.path ≡ true → s.width ≤ 65536 → is_signal (declaration_of driven s) ≡ true
declaration-is s driven e few = by_kind s.kind driven
  where
    both : (is_perhaps is_decimal (range_of s.width) && is_name s.path) ≡ true
    both = λ i. range-is s.width few i && e i

    by_kind : (kind : SignalKind) (driven : Bool) → is_signal (declaration_of driven (record { path = s.path; width = s.width; kind = kind })) ≡ true
    by_kind InputNet driven = both
    by_kind OutputVar true = both
    by_kind OutputVar false = λ i. both i && true
    by_kind Variable true = both
    by_kind Variable false = λ i. both i && true

declarations-are : (driven : ℕ → Bool) (k : ℕ) (ss : List Signal) → ((s : Signal) → Member ss s → is_name s.path ≡ true) → ((s : Signal) → Member ss s → s.width ≤ 65536)
    → list_all is_item (declarations driven k ss) ≡ true
declarations-are driven k [] h few = refl
declarations-are driven k (s ∷ ss) h few =
    λ i. declaration-is s (driven k) (h s (inl refl)) (few s (inl refl)) i && declarations-are driven (suc k) ss (λ x m. h x (inr m)) (λ x m. few x (inr m)) i

trigger-is : (b : Bool) → list_all is_item (trigger_items b) ≡ true
trigger-is false = refl
trigger-is true = refl

module _ (d : Design) (t : Translatable d) where
  abbrev ss : List Signal
  ss = d.signals

  all-names : (s : Signal) → Member ss s → is_name s.path ≡ true
  all-names s m = simple-name s.path (t.simple s m)

  name-is : (n : ℕ) → n < length ss → is_name (name_of ss n) ≡ true
  name-is n h = let r = get-below ss n h in ap is_name (ap path_or_nothing r.1) ∙ all-names r.0 (member-at ss n r.0 r.1)

  ready : (p : Process) → Member d.processes p → Ready ss (doing p.body) (inside p.body).exprs
  ready p m =
      let u = uses-signals d t p m in record {
        exprs = t.exprs p m;
        reads = λ n k. name-is n (u.reads n k);
        targets = λ n k. name-is n (u.targets n k);
        later_targets = λ n k. name-is n (u.later_targets n k);
      }

  deep-enough : (depth : ℕ) → depth ≤ 256 → suc (2 * depth + 2) ≤ 4096
  deep-enough depth h = omega arith

  block-is : (p : Process) → Member d.processes p → (b : VBranch) → FineBlock ss (suc (2 * (inside p.body).depth + 2)) (form_of_branch b) → is_branch b ≡ true
  block-is p m b f = within (form_of_branch b).fits (form_of_branch b).depth (suc (2 * (inside p.body).depth + 2)) f.fits f.depth (deep-enough (inside p.body).depth (t.nesting p m))

  edge-simple : (es : List EdgeOn) → ((e : EdgeOn) → Member es e → EdgeFits ss e) → list_all (λ (e : VEdge). is_name e.name) (map (lowered_edge ss) es) ≡ true
  edge-simple [] h = refl
  edge-simple (e ∷ es) h = let f = h e (inl refl) in
      (λ i. (ap is_name (ap path_or_nothing f.1) ∙ all-names f.0 (member-at ss e.signal f.0 f.1)) i && edge-simple es (λ x m. h x (inr m)) i)

  some-edges : (es : List EdgeOn) → (es ≡ [] → ⊥) → has_some (map (lowered_edge ss) es) ≡ true
  some-edges [] h = absurd (h refl)
  some-edges (e ∷ es) h = refl

  process-is : (p : Process) → Member d.processes p → is_process (lowered_process ss p) ≡ true
  process-is p m = by_kind p.kind (t.kinds p m)
    where
      assignment-is : (to : ℕ) (value : Expr) → p.body ≡ S.Assign to value false → is_process (Drive (whole_target (name_of ss to)) (lowered_expr ss value)) ≡ true
      assignment-is to value e =
          let is : doing p.body ≡ SD.assignment to value false = ap doing e ∙ assign-level SD.Doing stmt_doing to value false in
          let holds : (inside p.body).exprs ≡ value ∷ [] = ap (λ s. (inside s).exprs) e ∙ ap (λ (x : Inside). x.exprs) (assign-level Inside stmt_inside to value false) in
          let r : Ready ss (SD.assignment to value false) (value ∷ []) = subst (Ready ss (SD.assignment to value false)) holds (subst (λ x. Ready ss x (inside p.body).exprs) is (ready p m)) in
          let f = expr-fine ss value (r.exprs value (inl refl)) r.reads in
          let g = target-fine ss to (r.targets to (inl refl)) in
          (λ i. within (fit_of_lval (whole_target (name_of ss to))).fits (fit_of_lval (whole_target (name_of ss to))).depth 0 g.fits g.depth (omega arith) i
          && within (fit (lowered_expr ss value)).fits (fit (lowered_expr ss value)).depth 2 f.fits f.depth (omega arith) i)

      by_kind : (kind : ProcessKind) → KindFits ss kind p.body → is_process (process_by ss kind p.body) ≡ true
      by_kind Continuous fits =
          ap is_process (ap (λ b. process_by ss Continuous b) fits.2 ∙ ap (driver_in ss) (assign-out fits.0 fits.1 false)) ∙ assignment-is fits.0 fits.1 fits.2
      by_kind Comb fits = block-is p m _ (triggered-fine ss p.body (ready p m))
      by_kind (Edges es) fits = λ i. (some-edges es fits.1 i && edge-simple es fits.2 i) && block-is p m _ (body-fine ss p.body (ready p m)) i

  processes-are : (ps : List Process) → ((p : Process) → Member ps p → Member d.processes p) → list_all is_item (process_items ss ps) ≡ true
  processes-are [] among = refl
  processes-are (p ∷ ps) among = λ i. process-is p (among p (inl refl)) i && processes-are ps (λ x m. among x (inr m)) i

  pub of-grammar : is_of_grammar (lowered d) ≡ true
  of-grammar = λ i. ((simple-name d.top t.top i && ports i) && items i) && true
    where
      ports : list_all is_name (map path_of (filter (λ (s : Signal). is_port s.kind) ss)) ≡ true
      ports = all-of is_name (map path_of (filter (λ (s : Signal). is_port s.kind) ss)) (λ n m.
          let r = map-member path_of (filter (λ (s : Signal). is_port s.kind) ss) n m in
          ap is_name r.2 ∙ all-names r.0 (filter-member (λ (s : Signal). is_port s.kind) ss r.0 r.1).0)

      items : list_all is_item (lowered_items ss d.processes) ≡ true
      items =
          all-append is_item (declarations (is_driven d.processes) 0 ss ++ trigger_items (has_comb d.processes)) (process_items ss d.processes)
          (all-append is_item (declarations (is_driven d.processes) 0 ss) (trigger_items (has_comb d.processes)) (declarations-are (is_driven d.processes) 0 ss all-names t.few_bits) (trigger-is (has_comb d.processes)))
          (processes-are d.processes (λ p m. m))
