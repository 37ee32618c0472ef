-- Targets and runs hang on nothing that isn't a signal or a bit of a name.
use Rattle.std.proofs.Common.{◌≡◌, ℕ, ◌<◌, ◌==◌, Bool, true, false, ◌&&◌, ◌||◌, pos, ◌-ℤ◌, replicate, List, [], ◌∷◌, ◌++◌, take, drop, map, Option, Some, None, refl, sym, ap, ◌∙◌, subst, arith}
use Rattle.std.specs.Prelude.{cond, slice_index_or}
use Rattle.std.specs.List.{list_any}
use Rattle.std.specs.Str.{bytes_eq}
use Rattle.std.proofs.lemmas.Bool.Decides.{nat_tests}
use Rattle.b4_core.specs.declared.bit.Bit4.{Bit4}
use Rattle.b4_core.specs.declared.bit.Bit4.TheVariants.{X}
use Rattle.b4_core.specs.Bits.{is_one}
use Rattle.row_machine.specs.Valuation.{Place, Valuation, Changes, put, changed}
use Rattle.row_machine.specs.Steps.{later_or, then_changes}
use Rattle.picks.specs.Windows.{written, whole, within, at_least_0}
use Rattle.v_tree.specs.Names.{Name}
use Rattle.v_tree.specs.declared.expressions.VExpr.{VExpr}
use Rattle.v_tree.specs.declared.items.VLocal.{VLocal}
use Rattle.v_tree.specs.declared.statements.VBranch.{VBranch}
use Rattle.v_tree.specs.declared.statements.VCaseItem.{VCaseItem, fold-VCaseItem}
use Rattle.v_tree.specs.declared.statements.VCaseKind.{VCaseKind}
use Rattle.v_tree.specs.declared.statements.VLval.{VLval}
use Rattle.v_tree.specs.declared.statements.VStmt.{VStmt}
use Rattle.v_tree.specs.declared.statements.VStmt.TheVariants as T
use Rattle.v_tree.proofs.Induction.{Each, Perhaps, LvalSteps, StmtSteps, ind-lval, ind-branch, ind-stmt}
use Rattle.v_meaning.specs.Scopes.{Named, Scope, named, all_bits}
use Rattle.v_meaning.specs.Selects.{Path, SelMeaning, start}
use Rattle.v_meaning.specs.Values as V
use Rattle.v_meaning.specs.Values.{Meaning, meaning, sel_meaning, truth}
use Rattle.v_meaning.specs.Runs as R
use Rattle.v_meaning.specs.Runs.{State, Run, current, one_of, assign_as, assign_now, cleared, ItemRun, Selector, selector, first_match, matches}
use Rattle.v_meaning.specs.Statements as D
use Rattle.v_meaning.specs.Statements.{Target, target, lval_step, Doing, Item, doing, doing_of, branch_step, item_step, stmt_step}
use Rattle.v_footprints.proofs.Levels as L
use Rattle.v_footprints.proofs.Runs.{any-run}
use Rattle.v_stores.specs.Waits.{place}
use Rattle.v_hangs.proofs.Same.{Same, ValueSame, TargetSame, FunctionsSame, RunSame, more-stays, as-stays, after-run}
use Rattle.v_hangs.proofs.Values.{AllSame, AllBases, truth-same, given-same, path-same, expressions-same, bases-same, all-same}

-- targets
name-same : (name : Name) (sels : List SelMeaning) (sc : Scope) → AllBases sels sc → TargetSame (D.name_target name sels) sc
unfolding D.name_target
name-same name sels sc h = record {
  same = λ v w a bits. ap (λ (p : Path). written (named sc.names name).number p.window bits) (path-same sels sc h v w a (start (named sc.names name)));
}

abbrev AllTargets : List Target → Scope → Type 0
AllTargets ts sc = Each (λ t. TargetSame t sc) ts

parts-same : (ts : List Target) (sc : Scope) → AllTargets ts sc → (v w : Valuation) → Same sc v w → (bits : List Bit4) → D.puts_parts ts sc v bits ≡ D.puts_parts ts sc w bits
parts-same [] sc h v w a bits = refl
parts-same (t ∷ ts) sc h v w a bits =
    let low = D.parts_width ts sc in
    let x = h.0.same v w a (drop low bits) in
    let y = parts-same ts sc h.1 v w a (take low bits) in
    (λ i. then_changes (x i) (y i))

joined-same : (ts : List Target) (sc : Scope) → AllTargets ts sc → TargetSame (D.joined_target ts) sc
unfolding D.joined_target
joined-same ts sc h = record { same = λ v w a bits. parts-same ts sc h v w a bits }

abbrev LvalSame : VLval → Type 0
LvalSame t = (sc : Scope) → FunctionsSame sc → TargetSame (target t) sc

each-lval : (ts : List VLval) → Each LvalSame ts → (sc : Scope) → FunctionsSame sc → AllTargets (map target ts) sc
each-lval [] h sc f = tt
each-lval (t ∷ ts) h sc f = (h.0 sc f, each-lval ts h.1 sc f)

lval-steps : LvalSteps LvalSame
lval-steps = record {
  lval-name = λ n ss sc f. subst (λ (t : Target). TargetSame t sc) (sym (L.at-name lval_step n ss)) (name-same n (map sel_meaning ss) sc (bases-same ss sc f));
  lval-concat = λ ls h sc f. subst (λ (t : Target). TargetSame t sc) (sym (L.at-concat lval_step ls)) (joined-same (map target ls) sc (each-lval ls h sc f));
}

pub targets-same : (t : VLval) (sc : Scope) → FunctionsSame sc → TargetSame (target t) sc
targets-same = ind-lval LvalSame lval-steps

-- statements
nothing-same : (sc : Scope) → RunSame D.nothing sc
nothing-same sc = record { same = λ v w s a. refl; stays = λ u v w s q e. e }

pub assignment-same : (later : Bool) (to : Target) (value : Meaning) (sc : Scope) → TargetSame to sc → ValueSame value sc → RunSame (D.assignment later to value) sc
unfolding D.assignment
assignment-same later to value sc h g = record {
  same = λ v w s a.
      let vs = current v s in
      let ws = current w s in
      let x = given-same value (to.width sc) sc g vs ws a in
      let y = ap (λ bits. to.puts sc vs bits) x ∙ h.same vs ws a (V.given value (to.width sc) sc ws) in
      ap (λ (c : Changes). assign_as later c s) y;
  stays = λ u v w s q e. as-stays later (D.changes_of to value sc (current u s)) v w s q e;
}

pair-same : (d : Doing) (ds : List Doing) (sc : Scope) → RunSame d sc → RunSame (D.sequence ds) sc → RunSame (D.sequence (d ∷ ds)) sc
pair-same d ds sc h g = record {
  same = λ v w s a. (let e = D.sequence ds in g.same v w (d.run sc v s) (after-run d sc h v v w s a) ∙ ap (e.run sc w) (h.same v w s a));
  stays = λ u v w s q e. g.stays u v w (d.run sc u s) q (h.stays u v w s q e);
}

abbrev AllRuns : List Doing → Scope → Type 0
AllRuns ds sc = Each (λ d. RunSame d sc) ds

sequence-same : (ds : List Doing) (sc : Scope) → AllRuns ds sc → RunSame (D.sequence ds) sc
sequence-same [] sc h = nothing-same sc
sequence-same (d ∷ ds) sc h = pair-same d ds sc h.0 (sequence-same ds sc h.1)

-- one of two
one-same : (c : Bool) (r t : Run) (sc : Scope) (v w : Valuation) (s : State) → r sc v s ≡ r sc w s → t sc v s ≡ t sc w s → one_of c r t sc v s ≡ one_of c r t sc w s
one-same true r t sc v w s e f = e
one-same false r t sc v w s e f = f

one-stays : (c : Bool) (r t : Run) (sc : Scope) (u v w : Valuation) (s : State) (q : Place) → current v (r sc u s) q ≡ current w (r sc u s) q → current v (t sc u s) q ≡ current w (t sc u s) q
    → current v (one_of c r t sc u s) q ≡ current w (one_of c r t sc u s) q
one-stays true r t sc u v w s q e f = e
one-stays false r t sc u v w s q e f = f

conditional-same : (on : Meaning) (d e : Doing) (sc : Scope) → ValueSame on sc → RunSame d sc → RunSame e sc → RunSame (D.conditional on d e) sc
unfolding D.conditional
conditional-same on d e sc o h g = record {
  same = λ v w s a.
      let t = truth-same on sc o (current v s) (current w s) a in
      ap (λ b. one_of (is_one b) d.run e.run sc v s) t ∙ one-same (is_one (truth on sc (current w s))) d.run e.run sc v w s (h.same v w s a) (g.same v w s a);
  stays = λ u v w s q is. one-stays (is_one (truth on sc (current u s))) d.run e.run sc u v w s q (h.stays u v w s q is) (g.stays u v w s q is);
}

-- `case`
abbrev ValuesOf : Option (List Meaning) → (List Meaning → Type 0) → Type 0
ValuesOf None P = Unit {0}
ValuesOf (Some ms) P = P ms

record ItemSame (i : Item) (sc : Scope) : Type 0 where
  runs : RunSame i.body sc
  values : ValuesOf i.values (λ ms. AllSame ms sc)

abbrev AllItems : List Item → Scope → Type 0
AllItems is sc = Each (λ i. ItemSame i sc) is

otherwise-same : (is : List Item) (sc : Scope) → AllItems is sc → RunSame (D.otherwise is) sc
otherwise-same [] sc h = nothing-same sc
otherwise-same (i ∷ is) sc h = by (otherwise-same is sc h.1) i.values
  where
    by : RunSame (D.otherwise is) sc → (o : Option (List Meaning)) → RunSame (elim o [ None ↦ i.body | Some ms ↦ D.otherwise is ]) sc
    by g None = h.0.runs
    by g (Some ms) = g

any-match : (sel : Selector) (sc : Scope) (ms : List Meaning) → AllSame ms sc → (v w : Valuation) → Same sc v w → list_any (matches sel sc v) ms ≡ list_any (matches sel sc w) ms
any-match sel sc [] h v w a = refl
any-match sel sc (m ∷ ms) h v w a =
    let x = h.0.same v w a sel.width sel.signed in
    let y = any-match sel sc ms h.1 v w a in
    (λ i. R.agree sel.kind sel.value (x i) || y i)

match-same : (sel : Selector) (is : List Item) (other : Doing) (sc : Scope) → AllItems is sc → RunSame other sc → (v w : Valuation) (s : State) → Same sc (current v s) (current w s)
    → first_match sel (D.item_runs is) other.run sc v s ≡ first_match sel (D.item_runs is) other.run sc w s
match-same sel [] other sc h o v w s a = o.same v w s a
match-same sel (i ∷ is) other sc h o v w s a = by (match-same sel is other sc h.1 o v w s a) i.values h.0.values
  where
    rest : List ItemRun
    rest = D.item_runs is

    by : first_match sel rest other.run sc v s ≡ first_match sel rest other.run sc w s → (vs : Option (List Meaning)) → ValuesOf vs (λ ms. AllSame ms sc)
        → first_match sel (elim vs [ None ↦ rest | Some ms ↦ record { values = ms; run = i.body.run } ∷ rest ]) other.run sc v s
        ≡ first_match sel (elim vs [ None ↦ rest | Some ms ↦ record { values = ms; run = i.body.run } ∷ rest ]) other.run sc w s
    by go None g = go
    by go (Some ms) g =
        let test = any-match sel sc ms g (current v s) (current w s) a in
        ap (λ c. one_of c i.body.run (first_match sel rest other.run) sc v s) test
        ∙ one-same (list_any (matches sel sc (current w s)) ms) i.body.run (first_match sel rest other.run) sc v w s (h.0.runs.same v w s a) go

match-stays : (sel : Selector) (is : List Item) (other : Doing) (sc : Scope) → AllItems is sc → RunSame other sc → (u v w : Valuation) (s : State) (q : Place) → current v s q ≡ current w s q
    → current v (first_match sel (D.item_runs is) other.run sc u s) q ≡ current w (first_match sel (D.item_runs is) other.run sc u s) q
match-stays sel [] other sc h o u v w s q e = o.stays u v w s q e
match-stays sel (i ∷ is) other sc h o u v w s q e = by (match-stays sel is other sc h.1 o u v w s q e) i.values
  where
    rest : List ItemRun
    rest = D.item_runs is

    by : current v (first_match sel rest other.run sc u s) q ≡ current w (first_match sel rest other.run sc u s) q → (vs : Option (List Meaning))
        → current v (first_match sel (elim vs [ None ↦ rest | Some ms ↦ record { values = ms; run = i.body.run } ∷ rest ]) other.run sc u s) q
        ≡ current w (first_match sel (elim vs [ None ↦ rest | Some ms ↦ record { values = ms; run = i.body.run } ∷ rest ]) other.run sc u s) q
    by go None = go
    by go (Some ms) = one-stays (list_any (matches sel sc (current u s)) ms) i.body.run (first_match sel rest other.run) sc u v w s q (h.0.runs.stays u v w s q e) go

cases-same : (kind : VCaseKind) (on : Meaning) (is : List Item) (sc : Scope) → ValueSame on sc → AllItems is sc → RunSame (D.cases kind on is) sc
unfolding D.cases
cases-same kind on is sc o h = record {
  same = λ v w s a.
      let wide = R.widest (on ∷ values) sc in
      let sign = R.all_signed (on ∷ values) in
      let test = o.same (current v s) (current w s) a wide sign in
      let chosen : selector kind on values sc (current v s) ≡ selector kind on values sc (current w s) = λ i. record { kind = kind; width = wide; signed = sign; value = test i } in
      ap (λ (r : Run). r sc v s) (any-run run is other)
      ∙ ap (λ (x : Selector). first_match x (D.item_runs is) other.run sc v s) chosen
      ∙ match-same (selector kind on values sc (current w s)) is other sc h (otherwise-same is sc h) v w s a
      ∙ sym (ap (λ (r : Run). r sc w s) (any-run run is other));
  stays = λ u v w s q e.
      ap (λ (r : Run). current v (r sc u s) q) (any-run run is other)
      ∙ match-stays (selector kind on values sc (current u s)) is other sc h (otherwise-same is sc h) u v w s q e
      ∙ sym (ap (λ (r : Run). current w (r sc u s) q) (any-run run is other));
}
  where
    values : List Meaning
    values = D.item_values is

    other : Doing
    other = D.otherwise is

    run : Run
    run sc' v' s' = first_match (selector kind on values sc' (current v' s')) (D.item_runs is) other.run sc' v' s'

-- a local that is made x
there : (n k width : ℕ) → k < width → ((n == n) && within (whole width) k) ≡ true
there n k width h = grind (arith, nat_tests)

written-there : (n : Named) (bits : List Bit4) (k : ℕ) → k < all_bits n → (x y : Bit4) (o e : Option Bit4)
    → changed (later_or (later_or o (written n.number (whole (all_bits n)) bits (place n.number k))) e) x ≡ changed (later_or (later_or o (written n.number (whole (all_bits n)) bits (place n.number k))) e) y
written-there n bits k h x y o e = by ((n.number == n.number) && within (whole (all_bits n)) k) (there n.number k (all_bits n) h) o
  where
    given : Bit4
    given = slice_index_or bits (at_least_0 (pos k -ℤ pos 0)) X

    by : (b : Bool) → b ≡ true → (p : Option Bit4) → changed (later_or (later_or p (cond b (Some given) None)) e) x ≡ changed (later_or (later_or p (cond b (Some given) None)) e) y
    by true is None = refl
    by true is (Some c) = refl
    by false is p = absurd (cc)

pub first-cleared : (n : Named) (ns : List Named) (c : Changes) (v w : Valuation) (k : ℕ) → k < all_bits n
    → put (then_changes c (cleared (n ∷ ns))) v (place n.number k) ≡ put (then_changes c (cleared (n ∷ ns))) w (place n.number k)
first-cleared n ns c v w k h =
    let q = place n.number k in
    written-there n (replicate (all_bits n) X) k h (v q) (w q) (cleared ns q) (c q)

wider : (o p e : Option Bit4) (x y : Bit4) → changed (later_or o e) x ≡ changed (later_or o e) y → changed (later_or (later_or o p) e) x ≡ changed (later_or (later_or o p) e) y
wider (Some b) p e x y h = h
wider None (Some b) e x y h = refl
wider None None e x y h = h

pub names-cleared : (ns rest : List Named) (c : Changes) (v w : Valuation) (name : Name) (k : ℕ)
    → (k < all_bits (named rest name) → put c v (place (named rest name).number k) ≡ put c w (place (named rest name).number k))
    → k < all_bits (named (ns ++ rest) name)
    → put (then_changes c (cleared ns)) v (place (named (ns ++ rest) name).number k) ≡ put (then_changes c (cleared ns)) w (place (named (ns ++ rest) name).number k)
names-cleared [] rest c v w name k h l = h l
names-cleared (n ∷ ns) rest c v w name k h l = by (bytes_eq n.name name) (λ m. names-cleared ns rest c v w name k h m) l
  where
    found : Named
    found = named (ns ++ rest) name

    by : (b : Bool) → (k < all_bits found → put (then_changes c (cleared ns)) v (place found.number k) ≡ put (then_changes c (cleared ns)) w (place found.number k))
        → k < all_bits (cond b n found)
        → put (then_changes c (cleared (n ∷ ns))) v (place (cond b n found).number k) ≡ put (then_changes c (cleared (n ∷ ns))) w (place (cond b n found).number k)
    by true go m = first-cleared n ns c v w k m
    by false go m =
        let q = place found.number k in
        wider (cleared ns q) (written n.number (whole (all_bits n)) (replicate (all_bits n) X) q) (c q) (v q) (w q) (go m)

block-same : (ls : List VLocal) (d : Doing) (sc : Scope) → RunSame d (D.inside ls sc) → RunSame (D.block_with ls d) sc
unfolding D.block_with
block-same ls d sc h = record {
  same = λ v w s a.
      h.same v w (assign_now (cleared own) s)
      (record {
        signals = record { same = λ q e. more-stays s.written (cleared own) v w q (a.signals.same q e) };
        names = λ name k l. names-cleared own sc.names s.written v w name k (λ m. a.names name k m) l;
      });
  stays = λ u v w s q e. h.stays u v w (assign_now (cleared own) s) q (more-stays s.written (cleared own) v w q e);
}
  where
    own : List Named
    own = D.declared sc.next ls

-- statements
abbrev item_of : VCaseItem → Item
item_of = fold-VCaseItem Doing Item Doing branch_step item_step stmt_step

abbrev BranchSame : VBranch → Type 0
BranchSame b = (sc : Scope) → FunctionsSame sc → RunSame (doing_of b) sc

abbrev CaseSame : VCaseItem → Type 0
CaseSame c = (sc : Scope) → FunctionsSame sc → ItemSame (item_of c) sc

abbrev StmtSame : VStmt → Type 0
StmtSame s = (sc : Scope) → FunctionsSame sc → RunSame (doing s) sc

each-stmt : (ss : List VStmt) → Each StmtSame ss → (sc : Scope) → FunctionsSame sc → AllRuns (map doing ss) sc
each-stmt [] h sc f = tt
each-stmt (s ∷ ss) h sc f = (h.0 sc f, each-stmt ss h.1 sc f)

each-case : (cs : List VCaseItem) → Each CaseSame cs → (sc : Scope) → FunctionsSame sc → AllItems (map item_of cs) sc
each-case [] h sc f = tt
each-case (c ∷ cs) h sc f = (h.0 sc f, each-case cs h.1 sc f)

by-run : (d e : Doing) (sc : Scope) → d ≡ e → RunSame e sc → RunSame d sc
by-run d e sc f h = subst (λ (x : Doing). RunSame x sc) (sym f) h

by-item : (i j : Item) (sc : Scope) → i ≡ j → ItemSame j sc → ItemSame i sc
by-item i j sc f h = subst (λ (x : Item). ItemSame x sc) (sym f) h

-- functions are called alike in a block
inside-functions : (ls : List VLocal) (sc : Scope) → FunctionsSame sc → FunctionsSame (D.inside ls sc)
inside-functions ls sc f = record { same = f.same }

if-same : (on : VExpr) (b : VBranch) (other : Option VBranch) → BranchSame b → Perhaps BranchSame other → StmtSame (T.If on b other)
if-same on b None h g sc f =
    by-run _ _ sc (L.at-if branch_step item_step stmt_step on b) (conditional-same (meaning on) (doing_of b) D.nothing sc (expressions-same on sc f) (h sc f) (nothing-same sc))
if-same on b (Some x) h g sc f =
    by-run _ _ sc (L.at-else branch_step item_step stmt_step on b x) (conditional-same (meaning on) (doing_of b) (doing_of x) sc (expressions-same on sc f) (h sc f) (g sc f))

steps : StmtSteps BranchSame CaseSame StmtSame
steps = record {
  branch-statement = λ s h sc f. by-run _ _ sc (L.at-statement branch_step item_step stmt_step s) (h sc f);
  branch-empty = λ sc f. by-run _ _ sc (L.at-empty branch_step item_step stmt_step) (nothing-same sc);
  case-item = λ values b h sc f. by-item _ _ sc (L.at-item branch_step item_step stmt_step values b) (record { runs = h sc f; values = all-same values sc f });
  case-default = λ b h sc f. by-item _ _ sc (L.at-default branch_step item_step stmt_step b) (record { runs = h sc f; values = tt });
  stmt-block = λ label ss h sc f.
      let ls = D.locals_of label in
      by-run _ _ sc (L.at-block branch_step item_step stmt_step label ss)
      (block-same ls (D.sequence (map doing ss)) sc (sequence-same (map doing ss) (D.inside ls sc) (each-stmt ss h (D.inside ls sc) (inside-functions ls sc f))));
  stmt-if = if-same;
  stmt-case = λ kind on cs h sc f. by-run _ _ sc (L.at-case branch_step item_step stmt_step kind on cs) (cases-same kind (meaning on) (map item_of cs) sc (expressions-same on sc f) (each-case cs h sc f));
  stmt-assign = λ to value later sc f.
      by-run _ _ sc (L.at-assign branch_step item_step stmt_step to value later) (assignment-same later (target to) (meaning value) sc (targets-same to sc f) (expressions-same value sc f));
}

pub branch-same : (b : VBranch) (sc : Scope) → FunctionsSame sc → RunSame (doing_of b) sc
branch-same = ind-branch BranchSame CaseSame StmtSame steps

pub body-same : (s : VStmt) (sc : Scope) → FunctionsSame sc → RunSame (doing s) sc
body-same = ind-stmt BranchSame CaseSame StmtSame steps
