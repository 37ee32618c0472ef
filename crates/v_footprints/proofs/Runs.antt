-- Targets and runs hang on the signals that they read.
use Rattle.std.proofs.Common.{◌≡◌, Bool, true, false, List, [], ◌∷◌, ◌++◌, ◌||◌, take, drop, map, Option, Some, None, refl, sym, ap, ◌∙◌, subst, append_assoc}
use Rattle.std.specs.Prelude.{flat_map}
use Rattle.std.specs.List.{list_any}
use Rattle.b4_core.specs.declared.bit.Bit4.{Bit4}
use Rattle.b4_core.specs.Bits.{is_one}
use Rattle.row_machine.specs.Valuation.{Valuation, Changes}
use Rattle.row_machine.specs.Steps.{then_changes}
use Rattle.picks.specs.Windows.{written}
use Rattle.v_tree.specs.Names.{Name}
use Rattle.v_tree.specs.declared.expressions.VExpr.{VExpr}
use Rattle.v_tree.specs.declared.items.VLocal.{VLocal}
use Rattle.v_tree.specs.declared.statements.VBranch.{VBranch}
use Rattle.v_tree.specs.declared.statements.VCaseItem.{VCaseItem, fold-VCaseItem}
use Rattle.v_tree.specs.declared.statements.VCaseKind.{VCaseKind}
use Rattle.v_tree.specs.declared.statements.VLval.{VLval}
use Rattle.v_tree.specs.declared.statements.VStmt.{VStmt}
use Rattle.v_tree.specs.declared.statements.VStmt.TheVariants as T
use Rattle.v_tree.proofs.Induction.{Each, Perhaps, LvalSteps, StmtSteps, ind-lval, ind-branch, ind-stmt}
use Rattle.v_meaning.specs.Scopes.{Scope, Use, named}
use Rattle.v_meaning.specs.Selects.{Path, SelMeaning, start}
use Rattle.v_meaning.specs.Values.{Meaning, meaning, sel_meaning, all_reads, given, truth}
use Rattle.v_meaning.specs.Runs as R
use Rattle.v_meaning.specs.Runs.{State, Run, current, one_of, assign_as, ItemRun, Selector, selector, first_match, matches}
use Rattle.v_meaning.specs.Statements as D
use Rattle.v_meaning.specs.Statements.{Target, target, lval_step, Doing, Item, doing, doing_of, branch_step, item_step, stmt_step}
use Rattle.v_footprints.specs.Footprints.{Alike, ValueHangs, TargetHangs, FunctionsHang, RunHangs}
use Rattle.v_footprints.specs.Laws.{TargetsHang, StatementsHang}
use Rattle.v_footprints.proofs.Levels as L
use Rattle.v_footprints.proofs.Uses.{alike-left, alike-right, alike-now}
use Rattle.v_footprints.proofs.Values.{AllHang, AllBases, of-one, of-rest, truth-same, given-same, path-same, expressions_hang, bases_hang, all_hang}

-- targets
name-hangs : (name : Name) (sels : List SelMeaning) (sc : Scope) → AllBases sels sc → TargetHangs (D.name_target name sels) sc
unfolding D.name_target
name-hangs name sels sc h = record {
  same = λ v w a bits. ap (λ (p : Path). written (named sc.names name).number p.window bits) (path-same sels sc h v w a (start (named sc.names name)));
}

abbrev pub AllTargets : List Target → Scope → Type 0
AllTargets ts sc = Each (λ t. TargetHangs t sc) ts

parts-same : (ts : List Target) (sc : Scope) → AllTargets ts sc → (v w : Valuation) → Alike (flat_map (λ (t : Target). t.reads sc) ts) v w → (bits : List Bit4)
    → D.puts_parts ts sc v bits ≡ D.puts_parts ts sc w bits
parts-same [] sc h v w a bits = refl
parts-same (t ∷ ts) sc h v w a bits =
    let low = D.parts_width ts sc in
    let rest = flat_map (λ (u : Target). u.reads sc) ts in
    let x = h.0.same v w (alike-left (t.reads sc) rest v w a) (drop low bits) in
    let y = parts-same ts sc h.1 v w (alike-right (t.reads sc) rest v w a) (take low bits) in
    (λ i. then_changes (x i) (y i))

joined-hangs : (ts : List Target) (sc : Scope) → AllTargets ts sc → TargetHangs (D.joined_target ts) sc
unfolding D.joined_target
joined-hangs ts sc h = record { same = λ v w a bits. parts-same ts sc h v w a bits }

abbrev LvalHangs : VLval → Type 0
LvalHangs t = (sc : Scope) → FunctionsHang sc → TargetHangs (target t) sc

each-lval : (ts : List VLval) → Each LvalHangs ts → (sc : Scope) → FunctionsHang sc → AllTargets (map target ts) sc
each-lval [] h sc f = tt
each-lval (t ∷ ts) h sc f = (h.0 sc f, each-lval ts h.1 sc f)

lval-steps : LvalSteps LvalHangs
lval-steps = record {
  lval-name = λ n ss sc f. subst (λ (t : Target). TargetHangs t sc) (sym (L.at-name lval_step n ss)) (name-hangs n (map sel_meaning ss) sc (bases_hang ss sc f));
  lval-concat = λ ls h sc f. subst (λ (t : Target). TargetHangs t sc) (sym (L.at-concat lval_step ls)) (joined-hangs (map target ls) sc (each-lval ls h sc f));
}

pub targets_hang : TargetsHang
targets_hang = ind-lval LvalHangs lval-steps

-- at some point of a run
now-alike : (us : List Use) (v w : Valuation) (s : State) → Alike us v w → Alike us (current v s) (current w s)
now-alike us v w s a = alike-now us s.written v w a

pub nothing-hangs : (sc : Scope) → RunHangs D.nothing sc
nothing-hangs sc = record { same = λ v w a s. refl }

pub assignment-hangs : (later : Bool) (to : Target) (value : Meaning) (sc : Scope) → TargetHangs to sc → ValueHangs value sc → RunHangs (D.assignment later to value) sc
unfolding D.assignment
assignment-hangs later to value sc h g = record {
  same = λ v w a s.
      let vs = current v s in
      let ws = current w s in
      let n = now-alike (value.reads sc ++ to.reads sc) v w s a in
      let x = given-same value (to.width sc) sc g vs ws (alike-left (value.reads sc) (to.reads sc) vs ws n) in
      let y = ap (λ bits. to.puts sc vs bits) x ∙ h.same vs ws (alike-right (value.reads sc) (to.reads sc) vs ws n) (given value (to.width sc) sc ws) in
      ap (λ (c : Changes). assign_as later c s) y;
}

pair-hangs : (d : Doing) (ds : List Doing) (sc : Scope) → RunHangs d sc → RunHangs (D.sequence ds) sc → RunHangs (D.sequence (d ∷ ds)) sc
pair-hangs d ds sc h g = record {
  same = λ v w a s.
      let e = D.sequence ds in
      g.same v w (alike-right (d.reads sc) (e.reads sc) v w a) (d.run sc v s) ∙ ap (e.run sc w) (h.same v w (alike-left (d.reads sc) (e.reads sc) v w a) s);
}

abbrev pub AllRuns : List Doing → Scope → Type 0
AllRuns ds sc = Each (λ d. RunHangs d sc) ds

sequence-hangs : (ds : List Doing) (sc : Scope) → AllRuns ds sc → RunHangs (D.sequence ds) sc
sequence-hangs [] sc h = nothing-hangs sc
sequence-hangs (d ∷ ds) sc h = pair-hangs d ds sc h.0 (sequence-hangs ds sc h.1)

one-same : (b : Bool) (d e : Doing) (sc : Scope) → RunHangs d sc → RunHangs e sc → (v w : Valuation) → Alike (d.reads sc) v w → Alike (e.reads sc) v w → (s : State)
    → one_of b d.run e.run sc v s ≡ one_of b d.run e.run sc w s
one-same true d e sc h g v w a b s = h.same v w a s
one-same false d e sc h g v w a b s = g.same v w b s

conditional-hangs : (on : Meaning) (d e : Doing) (sc : Scope) → ValueHangs on sc → RunHangs d sc → RunHangs e sc → RunHangs (D.conditional on d e) sc
unfolding D.conditional
conditional-hangs on d e sc o h g = record {
  same = λ v w a s.
      let tests = all_reads (on ∷ []) sc in
      let rest = alike-right tests (d.reads sc ++ e.reads sc) v w a in
      let test = alike-left tests (d.reads sc ++ e.reads sc) v w a in
      let t = truth-same on sc o (current v s) (current w s) (now-alike (on.reads sc) v w s (of-one on [] sc v w test)) in
      ap (λ b. one_of (is_one b) d.run e.run sc v s) t
      ∙ one-same (is_one (truth on sc (current w s))) d e sc h g v w (alike-left (d.reads sc) (e.reads sc) v w rest) (alike-right (d.reads sc) (e.reads sc) v w rest) s;
}

-- `case`
abbrev ValuesOf : Option (List Meaning) → (List Meaning → Type 0) → Type 0
ValuesOf None P = Unit {0}
ValuesOf (Some ms) P = P ms

record ItemHangs (i : Item) (sc : Scope) : Type 0 where
  runs : RunHangs i.body sc
  values : ValuesOf i.values (λ ms. AllHang ms sc)

abbrev AllItems : List Item → Scope → Type 0
AllItems is sc = Each (λ i. ItemHangs i sc) is

otherwise-hangs : (is : List Item) (sc : Scope) → AllItems is sc → RunHangs (D.otherwise is) sc
otherwise-hangs [] sc h = nothing-hangs sc
otherwise-hangs (i ∷ is) sc h = by (otherwise-hangs is sc h.1) i.values
  where
    by : RunHangs (D.otherwise is) sc → (o : Option (List Meaning)) → RunHangs (elim o [ None ↦ i.body | Some ms ↦ D.otherwise is ]) sc
    by g None = h.0.runs
    by g (Some ms) = g

any-match : (sel : Selector) (sc : Scope) (ms : List Meaning) → AllHang ms sc → (v w : Valuation) → Alike (all_reads ms sc) v w → list_any (matches sel sc v) ms ≡ list_any (matches sel sc w) ms
any-match sel sc [] h v w a = refl
any-match sel sc (m ∷ ms) h v w a =
    let x = h.0.same v w (of-one m ms sc v w a) sel.width sel.signed in
    let y = any-match sel sc ms h.1 v w (of-rest m ms sc v w a) in
    (λ i. R.agree sel.kind sel.value (x i) || y i)

-- valuations that are alike for the values and the bodies of items
record ItemAlike (i : Item) (sc : Scope) (v w : Valuation) : Type 0 where
  values : ValuesOf i.values (λ ms. Alike (all_reads ms sc) v w)
  body : ValuesOf i.values (λ ms. Alike (i.body.reads sc) v w)

abbrev ItemsAlike : List Item → Scope → Valuation → Valuation → Type 0
ItemsAlike is sc v w = Each (λ i. ItemAlike i sc v w) is

step-same : (c : Bool) (r t : Run) (sc : Scope) (v w : Valuation) (s : State) → r sc v s ≡ r sc w s → t sc v s ≡ t sc w s → one_of c r t sc v s ≡ one_of c r t sc w s
step-same true r t sc v w s e f = e
step-same false r t sc v w s e f = f

match-same : (sel : Selector) (is : List Item) (other : Doing) (sc : Scope) → AllItems is sc → RunHangs other sc → (v w : Valuation) → ItemsAlike is sc v w → Alike (other.reads sc) v w → (s : State)
    → first_match sel (D.item_runs is) other.run sc v s ≡ first_match sel (D.item_runs is) other.run sc w s
match-same sel [] other sc h o v w a b s = o.same v w b s
match-same sel (i ∷ is) other sc h o v w a b s = by (match-same sel is other sc h.1 o v w a.1 b s) i.values h.0.values a.0.values a.0.body
  where
    rest : List ItemRun
    rest = D.item_runs is

    by : first_match sel rest other.run sc v s ≡ first_match sel rest other.run sc w s → (vs : Option (List Meaning)) → ValuesOf vs (λ ms. AllHang ms sc)
        → ValuesOf vs (λ ms. Alike (all_reads ms sc) v w) → ValuesOf vs (λ ms. Alike (i.body.reads sc) v w)
        → first_match sel (elim vs [ None ↦ rest | Some ms ↦ record { values = ms; run = i.body.run } ∷ rest ]) other.run sc v s
        ≡ first_match sel (elim vs [ None ↦ rest | Some ms ↦ record { values = ms; run = i.body.run } ∷ rest ]) other.run sc w s
    by go None g x y = go
    by go (Some ms) g x y =
        let test = any-match sel sc ms g (current v s) (current w s) (now-alike (all_reads ms sc) v w s x) in
        ap (λ c. one_of c i.body.run (first_match sel rest other.run) sc v s) test
        ∙ step-same (list_any (matches sel sc (current w s)) ms) i.body.run (first_match sel rest other.run) sc v w s (h.0.runs.same v w y s) go

-- the reads of all values, and of all bodies
reads-append : (xs ys : List Meaning) (sc : Scope) → all_reads (xs ++ ys) sc ≡ all_reads xs sc ++ all_reads ys sc
reads-append [] ys sc = refl
reads-append (x ∷ xs) ys sc = ap (λ l. x.reads sc ++ l) (reads-append xs ys sc) ∙ sym (append_assoc (x.reads sc) (all_reads xs sc) (all_reads ys sc))

abbrev ValuesAlike : List Item → Scope → Valuation → Valuation → Type 0
ValuesAlike is sc v w = Each (λ (i : Item). ValuesOf i.values (λ ms. Alike (all_reads ms sc) v w)) is

values-alike : (is : List Item) (sc : Scope) (v w : Valuation) → Alike (all_reads (D.item_values is) sc) v w → ValuesAlike is sc v w
values-alike [] sc v w a = tt
values-alike (i ∷ is) sc v w a = by (λ b. values-alike is sc v w b) i.values a
  where
    rest : List Meaning
    rest = D.item_values is

    by : (Alike (all_reads rest sc) v w → ValuesAlike is sc v w) → (vs : Option (List Meaning)) → Alike (all_reads (elim vs [ None ↦ rest | Some ms ↦ ms ++ rest ]) sc) v w
        → ValuesOf vs (λ ms. Alike (all_reads ms sc) v w) × ValuesAlike is sc v w
    by go None b = (tt, go b)
    by go (Some ms) b =
        let c = subst (λ us. Alike us v w) (reads-append ms rest sc) b in
        (alike-left (all_reads ms sc) (all_reads rest sc) v w c, go (alike-right (all_reads ms sc) (all_reads rest sc) v w c))

record BodiesAlike (is : List Item) (other : Doing) (sc : Scope) (v w : Valuation) : Type 0 where
  bodies : Each (λ (i : Item). ValuesOf i.values (λ ms. Alike (i.body.reads sc) v w)) is
  last : Alike (other.reads sc) v w

bodies-alike : (run : Run) (is : List Item) (other : Doing) (sc : Scope) (v w : Valuation) → Alike ((D.any_item run is other).reads sc) v w → BodiesAlike is other sc v w
bodies-alike run [] other sc v w a = record { bodies = tt; last = a }
bodies-alike run (i ∷ is) other sc v w a = let r = by (λ b. bodies-alike run is other sc v w b) i.values a in record { bodies = (r.0, r.1.bodies); last = r.1.last }
  where
    rest : Doing
    rest = D.any_item run is other

    by : (Alike (rest.reads sc) v w → BodiesAlike is other sc v w) → (vs : Option (List Meaning))
        → Alike ((elim vs as (λ x. Doing) [ None ↦ rest | Some ms ↦ D.either_of run i.body rest ]).reads sc) v w
        → (ValuesOf vs (λ ms. Alike (i.body.reads sc) v w)) × BodiesAlike is other sc v w
    by go None b = (tt, go b)
    by go (Some ms) b = (alike-left (i.body.reads sc) (rest.reads sc) v w b, go (alike-right (i.body.reads sc) (rest.reads sc) v w b))

items-alike : (is : List Item) (sc : Scope) (v w : Valuation) → ValuesAlike is sc v w → Each (λ (i : Item). ValuesOf i.values (λ ms. Alike (i.body.reads sc) v w)) is → ItemsAlike is sc v w
items-alike [] sc v w a b = tt
items-alike (i ∷ is) sc v w a b = (record { values = a.0; body = b.0 }, items-alike is sc v w a.1 b.1)

pub any-run : (run : Run) (is : List Item) (other : Doing) → (D.any_item run is other).run ≡ run
any-run run [] other = refl
any-run run (i ∷ is) other = by (any-run run is other) i.values
  where
    by : (D.any_item run is other).run ≡ run → (vs : Option (List Meaning)) → (elim vs as (λ x. Doing) [ None ↦ D.any_item run is other | Some ms ↦ D.either_of run i.body (D.any_item run is other) ]).run ≡ run
    by e None = e
    by e (Some ms) = refl

cases-hangs : (kind : VCaseKind) (on : Meaning) (is : List Item) (sc : Scope) → ValueHangs on sc → AllItems is sc → RunHangs (D.cases kind on is) sc
unfolding D.cases
cases-hangs kind on is sc o h = record {
  same = λ v w a s.
      let values = D.item_values is in
      let other = D.otherwise is in
      let run : Run = λ sc' v' s'. first_match (selector kind on values sc' (current v' s')) (D.item_runs is) other.run sc' v' s' in
      let body = D.any_item run is other in
      let tests = alike-left (all_reads (on ∷ values) sc) (body.reads sc) v w a in
      let bodies = bodies-alike run is other sc v w (alike-right (all_reads (on ∷ values) sc) (body.reads sc) v w a) in
      let wide = R.widest (on ∷ values) sc in
      let sign = R.all_signed (on ∷ values) in
      let test = o.same (current v s) (current w s) (now-alike (on.reads sc) v w s (of-one on values sc v w tests)) wide sign in
      let chosen : selector kind on values sc (current v s) ≡ selector kind on values sc (current w s) = λ i. record { kind = kind; width = wide; signed = sign; value = test i } in
      ap (λ (r : Run). r sc v s) (any-run run is other)
      ∙ ap (λ (x : Selector). first_match x (D.item_runs is) other.run sc v s) chosen
      ∙ match-same (selector kind on values sc (current w s)) is other sc h (otherwise-hangs is sc h) v w
      (items-alike is sc v w (values-alike is sc v w (of-rest on values sc v w tests)) bodies.bodies) bodies.last s
      ∙ sym (ap (λ (r : Run). r sc w s) (any-run run is other));
}

block-hangs : (ls : List VLocal) (d : Doing) (sc : Scope) → RunHangs d (D.inside ls sc) → RunHangs (D.block_with ls d) sc
unfolding D.block_with
block-hangs ls d sc h = record { same = λ v w a s. h.same v w a (R.assign_now (R.cleared (D.declared sc.next ls)) s) }

-- statements
abbrev item_of : VCaseItem → Item
item_of = fold-VCaseItem Doing Item Doing branch_step item_step stmt_step

abbrev BranchHangs : VBranch → Type 0
BranchHangs b = (sc : Scope) → FunctionsHang sc → RunHangs (doing_of b) sc

abbrev CaseHangs : VCaseItem → Type 0
CaseHangs c = (sc : Scope) → FunctionsHang sc → ItemHangs (item_of c) sc

abbrev StmtHangs : VStmt → Type 0
StmtHangs s = (sc : Scope) → FunctionsHang sc → RunHangs (doing s) sc

each-stmt : (ss : List VStmt) → Each StmtHangs ss → (sc : Scope) → FunctionsHang sc → AllRuns (map doing ss) sc
each-stmt [] h sc f = tt
each-stmt (s ∷ ss) h sc f = (h.0 sc f, each-stmt ss h.1 sc f)

each-case : (cs : List VCaseItem) → Each CaseHangs cs → (sc : Scope) → FunctionsHang sc → AllItems (map item_of cs) sc
each-case [] h sc f = tt
each-case (c ∷ cs) h sc f = (h.0 sc f, each-case cs h.1 sc f)

by-run : (d e : Doing) (sc : Scope) → d ≡ e → RunHangs e sc → RunHangs d sc
by-run d e sc f h = subst (λ (x : Doing). RunHangs x sc) (sym f) h

by-item : (i j : Item) (sc : Scope) → i ≡ j → ItemHangs j sc → ItemHangs i sc
by-item i j sc f h = subst (λ (x : Item). ItemHangs x sc) (sym f) h

-- functions are called alike in a block
inside-functions : (ls : List VLocal) (sc : Scope) → FunctionsHang sc → FunctionsHang (D.inside ls sc)
inside-functions ls sc f = record { same = f.same }

if-hangs : (on : VExpr) (b : VBranch) (other : Option VBranch) → BranchHangs b → Perhaps BranchHangs other → StmtHangs (T.If on b other)
if-hangs on b None h g sc f =
    by-run _ _ sc (L.at-if branch_step item_step stmt_step on b) (conditional-hangs (meaning on) (doing_of b) D.nothing sc (expressions_hang on sc f) (h sc f) (nothing-hangs sc))
if-hangs on b (Some x) h g sc f =
    by-run _ _ sc (L.at-else branch_step item_step stmt_step on b x) (conditional-hangs (meaning on) (doing_of b) (doing_of x) sc (expressions_hang on sc f) (h sc f) (g sc f))

steps : StmtSteps BranchHangs CaseHangs StmtHangs
steps = record {
  branch-statement = λ s h sc f. by-run _ _ sc (L.at-statement branch_step item_step stmt_step s) (h sc f);
  branch-empty = λ sc f. by-run _ _ sc (L.at-empty branch_step item_step stmt_step) (nothing-hangs sc);
  case-item = λ values b h sc f. by-item _ _ sc (L.at-item branch_step item_step stmt_step values b) (record { runs = h sc f; values = all_hang values sc f });
  case-default = λ b h sc f. by-item _ _ sc (L.at-default branch_step item_step stmt_step b) (record { runs = h sc f; values = tt });
  stmt-block = λ label ss h sc f.
      let ls = D.locals_of label in
      by-run _ _ sc (L.at-block branch_step item_step stmt_step label ss)
      (block-hangs ls (D.sequence (map doing ss)) sc (sequence-hangs (map doing ss) (D.inside ls sc) (each-stmt ss h (D.inside ls sc) (inside-functions ls sc f))));
  stmt-if = if-hangs;
  stmt-case = λ kind on cs h sc f. by-run _ _ sc (L.at-case branch_step item_step stmt_step kind on cs) (cases-hangs kind (meaning on) (map item_of cs) sc (expressions_hang on sc f) (each-case cs h sc f));
  stmt-assign = λ to value later sc f.
      by-run _ _ sc (L.at-assign branch_step item_step stmt_step to value later) (assignment-hangs later (target to) (meaning value) sc (targets_hang to sc f) (expressions_hang value sc f));
}

pub statements_hang : StatementsHang
statements_hang = ind-branch BranchHangs CaseHangs StmtHangs steps

pub body_hangs : (s : VStmt) (sc : Scope) → FunctionsHang sc → RunHangs (doing s) sc
body_hangs = ind-stmt BranchHangs CaseHangs StmtHangs steps
