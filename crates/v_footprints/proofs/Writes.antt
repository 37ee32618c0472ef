-- Runs write no bit of a signal but of those that they may write.
use Rattle.std.proofs.Common.{◌≡◌, ℕ, suc, ◌≤◌, ◌==◌, max, min, Bool, true, false, ◌&&◌, ◌||◌, ℤ, pos, ◌-ℤ◌, ◌+ℤ◌, take, drop, replicate, List, [], ◌∷◌, ◌++◌, map, Option, Some, None, refl, sym, ap, ◌∙◌, subst, true≢false, arith}
use Rattle.std.specs.Prelude.{cond, slice_index_or, nat_le, nat_lt, flat_map}
use Rattle.std.proofs.lemmas.Bool.Decides.{nat_tests}
use Rattle.b4_core.specs.declared.bit.Bit4.{Bit4}
use Rattle.b4_core.specs.declared.bit.Bit4.TheVariants.{X}
use Rattle.row_machine.specs.Valuation.{Place, Valuation}
use Rattle.row_machine.specs.Steps.{later_or}
use Rattle.picks.specs.Windows.{Window, whole, nowhere, part, within, at_least_0}
use Rattle.v_tree.specs.Names.{Name}
use Rattle.v_tree.specs.declared.expressions.VExpr.{VExpr}
use Rattle.v_tree.specs.declared.items.VLocal.{VLocal}
use Rattle.v_tree.specs.declared.statements.VBranch.{VBranch}
use Rattle.v_tree.specs.declared.statements.VCaseItem.{VCaseItem, fold-VCaseItem}
use Rattle.v_tree.specs.declared.statements.VLval.{VLval}
use Rattle.v_tree.specs.declared.statements.VStmt.{VStmt}
use Rattle.v_tree.specs.declared.statements.VStmt.TheVariants as T
use Rattle.v_tree.specs.declared.statements.VCaseKind.{VCaseKind}
use Rattle.v_tree.proofs.Induction.{Each, Perhaps, LvalSteps, StmtSteps, ind-lval, ind-branch}
use Rattle.v_meaning.specs.Scopes.{Named, Scope, Use, named, is_signal, local_number, bits_of_range, all_bits}
use Rattle.v_meaning.specs.Selects.{SelMeaning, Path, select, path_from, start, lowest, taken}
use Rattle.v_meaning.specs.Values.{Meaning, meaning, sel_meaning, given, use_of}
use Rattle.v_meaning.specs.Runs as R
use Rattle.v_meaning.specs.Runs.{State, Run, current, one_of, Selector, selector, first_match, matches}
use Rattle.std.specs.List.{list_any}
use Rattle.std.specs.Str.{bytes_eq}
use Rattle.v_meaning.specs.Statements as D
use Rattle.v_meaning.specs.Statements.{Target, target, lval_step, Doing, Item, doing, doing_of, branch_step, item_step, stmt_step}
use Rattle.v_footprints.specs.Footprints.{uses, reached, Sized, TargetWrites, RunWrites}
use Rattle.v_footprints.specs.Laws.{TargetsWrite, StatementsWrite}
use Rattle.v_footprints.proofs.Levels as L
use Rattle.v_footprints.proofs.Uses.{uses-both}
use Rattle.v_footprints.proofs.Runs.{any-run}

-- selects narrow what is named
part-high : (o : ℤ) (n : ℕ) (path : Window) → (part o n path).high ≤ path.high
part-high o n path = by (nat_lt low high)
  where
    low : ℕ
    low = max path.low (at_least_0 (path.shift +ℤ o))

    high : ℕ
    high = min path.high (at_least_0 (path.shift +ℤ o +ℤ pos n))

    least : (a b : ℕ) → min a b ≤ a
    least a b = omega arith

    by : (c : Bool) → (cond c (record { shift = path.shift +ℤ o; low = low; high = high }) nowhere).high ≤ path.high
    by true = least path.high (at_least_0 (path.shift +ℤ o +ℤ pos n))
    by false = omega arith

select-high : (s : SelMeaning) (base : Option ℤ) (p : Path) → (select s base p).window.high ≤ p.window.high
select-high s base p = by p.words base
  where
    either : (c : Bool) (w : Window) (n : ℕ) → w.high ≤ n → (cond c w nowhere).high ≤ n
    either true w n h = h
    either false w n h = omega arith

    by : (ws : Option ℕ) (z : Option ℤ) → (select s z (record p { words = ws })).window.high ≤ p.window.high
    by None None = omega arith
    by None (Some k) = part-high (lowest s.extent k) (taken s.decimal s.extent) p.window
    by (Some count) None = omega arith
    by (Some count) (Some k) = either _ (part _ p.width p.window) p.window.high (part-high _ p.width p.window)

path-high : (sc : Scope) (v : Valuation) (sels : List SelMeaning) (p : Path) → (path_from sc v sels p).window.high ≤ p.window.high
path-high sc v [] p = omega arith
path-high sc v (s ∷ ss) p = le-trans (path-high sc v ss (select s (s.base sc v) p)) (select-high s (s.base sc v) p)
  where
    le-trans : {a b c : ℕ} → a ≤ b → b ≤ c → a ≤ c
    le-trans h g = omega arith

-- uses of two lists
neither : (size : ℕ → ℕ) (xs ys : List Use) (q : Place) → reached size (xs ++ ys) q ≡ false → (reached size xs q ≡ false) × (reached size ys q ≡ false)
neither size xs ys q h = by (uses xs q.signal) (uses ys q.signal) (nat_lt q.bit (size q.signal)) (ap (λ b. b && nat_lt q.bit (size q.signal)) (sym (uses-both xs ys q.signal)) ∙ h)
  where
    by : (a b c : Bool) → ((a || b) && c) ≡ false → ((a && c) ≡ false) × ((b && c) ≡ false)
    by true b true h = absurd (true≢false h)
    by true true false h = (refl, refl)
    by true false false h = (refl, refl)
    by false b c h = (refl, h)

-- targets
name-writes : (size : ℕ → ℕ) (name : Name) (sels : List SelMeaning) (sc : Scope) → Sized size sc → TargetWrites size (D.name_target name sels) sc
unfolding D.name_target
name-writes size name sels sc h = record { none = λ v bits q s r. by v bits q s r ((q.signal == (named sc.names name).number)) (within (window v) q.bit) refl refl }
  where
    n : Named
    n = named sc.names name

    window : Valuation → Window
    window v = (path_from sc v sels (start n)).window

    there : (a b k high size : ℕ) → (a == b) ≡ true → nat_lt k high ≡ true → high ≤ size → (((b == a) || false) && nat_lt k size) ≡ true
    there a b k high size e g f = grind (arith, nat_tests)

    same-size : (a b : ℕ) → (a == b) ≡ true → a ≡ b
    same-size a b e = grind (arith, nat_tests)

    below : (low high k : ℕ) → (nat_le low k && nat_lt k high) ≡ true → nat_lt k high ≡ true
    below low high k e = grind (arith, nat_tests)

    le-trans : {a b c : ℕ} → a ≤ b → b ≤ c → a ≤ c
    le-trans f g = omega arith

    by : (v : Valuation) (bits : List Bit4) (q : Place) → is_signal q.signal ≡ true → reached size (use_of n sels sc ∷ []) q ≡ false → (c w : Bool) → (q.signal == n.number) ≡ c → within (window v) q.bit ≡ w
        → cond (c && w) (Some (slice_index_or bits (at_least_0 (pos q.bit -ℤ (window v).shift)) X)) None ≡ None
    by v bits q s r false w e f = refl
    by v bits q s r true false e f = refl
    by v bits q s r true true e f =
        let same : q.signal ≡ n.number = same-size q.signal n.number e in
        let fits = h.sized name (ap is_signal (sym same) ∙ s) in
        let wide = le-trans (path-high sc v sels (start n)) fits in
        absurd (true≢false (sym (there q.signal n.number q.bit (window v).high (size q.signal) e (below (window v).low (window v).high q.bit f)
        (subst (λ k. (window v).high ≤ size k) (sym same) wide)) ∙ r))

abbrev AllTargets : (ℕ → ℕ) → List Target → Scope → Type 0
AllTargets size ts sc = Each (λ t. TargetWrites size t sc) ts

parts-none : (size : ℕ → ℕ) (ts : List Target) (sc : Scope) → AllTargets size ts sc → (v : Valuation) (bits : List Bit4) (q : Place) → is_signal q.signal ≡ true
    → reached size (flat_map (λ (t : Target). t.writes sc) ts) q ≡ false → D.puts_parts ts sc v bits q ≡ None
parts-none size [] sc h v bits q s r = refl
parts-none size (t ∷ ts) sc h v bits q s r =
    let two = neither size (t.writes sc) (flat_map (λ (u : Target). u.writes sc) ts) q r in
    let x = h.0.none v (drop (D.parts_width ts sc) bits) q s two.0 in
    let y = parts-none size ts sc h.1 v (take (D.parts_width ts sc) bits) q s two.1 in
    (λ i. later_or (y i) (x i))

joined-writes : (size : ℕ → ℕ) (ts : List Target) (sc : Scope) → AllTargets size ts sc → TargetWrites size (D.joined_target ts) sc
unfolding D.joined_target
joined-writes size ts sc h = record { none = λ v bits q s r. parts-none size ts sc h v bits q s r }

abbrev LvalWrites : VLval → Type 0
LvalWrites t = (size : ℕ → ℕ) (sc : Scope) → Sized size sc → TargetWrites size (target t) sc

each-lval : (ts : List VLval) → Each LvalWrites ts → (size : ℕ → ℕ) (sc : Scope) → Sized size sc → AllTargets size (map target ts) sc
each-lval [] h size sc f = tt
each-lval (t ∷ ts) h size sc f = (h.0 size sc f, each-lval ts h.1 size sc f)

lval-steps : LvalSteps LvalWrites
lval-steps = record {
  lval-name = λ n ss size sc f. subst (λ (t : Target). TargetWrites size t sc) (sym (L.at-name lval_step n ss)) (name-writes size n (map sel_meaning ss) sc f);
  lval-concat = λ ls h size sc f. subst (λ (t : Target). TargetWrites size t sc) (sym (L.at-concat lval_step ls)) (joined-writes size (map target ls) sc (each-lval ls h size sc f));
}

pub targets_write : TargetsWrite
targets_write size t sc f = ind-lval LvalWrites lval-steps t size sc f

-- runs
nothing-writes : (size : ℕ → ℕ) (sc : Scope) → RunWrites size D.nothing sc
nothing-writes size sc = record { now = λ v s q g r. refl; later = λ v s q g r. refl }

pub assignment-writes : (size : ℕ → ℕ) (later : Bool) (to : Target) (value : Meaning) (sc : Scope) → TargetWrites size to sc → RunWrites size (D.assignment later to value) sc
unfolding D.assignment
assignment-writes size true to value sc h = record {
  now = λ v s q g r. refl;
  later = λ v s q g r. ap (λ o. later_or o (s.pending q)) (h.none (current v s) (given value (to.width sc) sc (current v s)) q g r);
}
assignment-writes size false to value sc h = record {
  now = λ v s q g r. ap (λ o. later_or o (s.written q)) (h.none (current v s) (given value (to.width sc) sc (current v s)) q g r);
  later = λ v s q g r. refl;
}

pair-writes : (size : ℕ → ℕ) (d : Doing) (ds : List Doing) (sc : Scope) → RunWrites size d sc → RunWrites size (D.sequence ds) sc → RunWrites size (D.sequence (d ∷ ds)) sc
pair-writes size d ds sc h g = record {
  now = λ v s q i r. (let n = neither size (d.writes sc) ((D.sequence ds).writes sc) q r in g.now v (d.run sc v s) q i n.1 ∙ h.now v s q i n.0);
  later = λ v s q i r. (let n = neither size (d.later sc) ((D.sequence ds).later sc) q r in g.later v (d.run sc v s) q i n.1 ∙ h.later v s q i n.0);
}

abbrev AllRuns : (ℕ → ℕ) → List Doing → Scope → Type 0
AllRuns size ds sc = Each (λ d. RunWrites size d sc) ds

sequence-writes : (size : ℕ → ℕ) (ds : List Doing) (sc : Scope) → AllRuns size ds sc → RunWrites size (D.sequence ds) sc
sequence-writes size [] sc h = nothing-writes size sc
sequence-writes size (d ∷ ds) sc h = pair-writes size d ds sc h.0 (sequence-writes size ds sc h.1)

-- what a run keeps of a state, one of two runs
record Keeps (r : Run) (sc : Scope) (q : Place) : Type 0 where
  now : (v : Valuation) (s : State) → (r sc v s).written q ≡ s.written q

record Leaves (r : Run) (sc : Scope) (q : Place) : Type 0 where
  later : (v : Valuation) (s : State) → (r sc v s).pending q ≡ s.pending q

one-keeps : (c : Bool) (r t : Run) (sc : Scope) (q : Place) → Keeps r sc q → Keeps t sc q → Keeps (one_of c r t) sc q
one-keeps true r t sc q h g = h
one-keeps false r t sc q h g = g

one-leaves : (c : Bool) (r t : Run) (sc : Scope) (q : Place) → Leaves r sc q → Leaves t sc q → Leaves (one_of c r t) sc q
one-leaves true r t sc q h g = h
one-leaves false r t sc q h g = g

keeps : (size : ℕ → ℕ) (d : Doing) (sc : Scope) (q : Place) → RunWrites size d sc → is_signal q.signal ≡ true → reached size (d.writes sc) q ≡ false → Keeps d.run sc q
keeps size d sc q h g r = record { now = λ v s. h.now v s q g r }

leaves : (size : ℕ → ℕ) (d : Doing) (sc : Scope) (q : Place) → RunWrites size d sc → is_signal q.signal ≡ true → reached size (d.later sc) q ≡ false → Leaves d.run sc q
leaves size d sc q h g r = record { later = λ v s. h.later v s q g r }

conditional-writes : (size : ℕ → ℕ) (on : Meaning) (d e : Doing) (sc : Scope) → RunWrites size d sc → RunWrites size e sc → RunWrites size (D.conditional on d e) sc
unfolding D.conditional
conditional-writes size on d e sc h g = record {
  now = λ v s q i r.
      let n = neither size (d.writes sc) (e.writes sc) q r in
      (one-keeps (R.is_true on sc (current v s)) d.run e.run sc q (keeps size d sc q h i n.0) (keeps size e sc q g i n.1)).now v s;
  later = λ v s q i r.
      let n = neither size (d.later sc) (e.later sc) q r in
      (one-leaves (R.is_true on sc (current v s)) d.run e.run sc q (leaves size d sc q h i n.0) (leaves size e sc q g i n.1)).later v s;
}

-- `case`
abbrev AllItems : (ℕ → ℕ) → List Item → Scope → Type 0
AllItems size is sc = Each (λ (i : Item). RunWrites size i.body sc) is

otherwise-writes : (size : ℕ → ℕ) (is : List Item) (sc : Scope) → AllItems size is sc → RunWrites size (D.otherwise is) sc
otherwise-writes size [] sc h = nothing-writes size sc
otherwise-writes size (i ∷ is) sc h = by (otherwise-writes size is sc h.1) i.values
  where
    by : RunWrites size (D.otherwise is) sc → (o : Option (List Meaning)) → RunWrites size (elim o [ None ↦ i.body | Some ms ↦ D.otherwise is ]) sc
    by g None = h.0
    by g (Some ms) = g

match-keeps : (size : ℕ → ℕ) (run : Run) (sel : Selector) (is : List Item) (other : Doing) (sc : Scope) (q : Place) → AllItems size is sc → Keeps other.run sc q → is_signal q.signal ≡ true
    → reached size ((D.any_item run is other).writes sc) q ≡ false → Keeps (first_match sel (D.item_runs is) other.run) sc q
match-keeps size run sel [] other sc q h o g r = record { now = o.now }
match-keeps size run sel (i ∷ is) other sc q h o g r = by (λ x. match-keeps size run sel is other sc q h.1 o g x) i.values r
  where
    rest : Doing
    rest = D.any_item run is other

    by : (reached size (rest.writes sc) q ≡ false → Keeps (first_match sel (D.item_runs is) other.run) sc q) → (vs : Option (List Meaning))
        → reached size ((elim vs as (λ x. Doing) [ None ↦ rest | Some ms ↦ D.either_of run i.body rest ]).writes sc) q ≡ false
        → Keeps (first_match sel (elim vs [ None ↦ D.item_runs is | Some ms ↦ record { values = ms; run = i.body.run } ∷ D.item_runs is ]) other.run) sc q
    by go None x = go x
    by go (Some ms) x =
        let two = neither size (i.body.writes sc) (rest.writes sc) q x in
        record { now = λ v s. (one-keeps (list_any (matches sel sc (current v s)) ms) i.body.run (first_match sel (D.item_runs is) other.run) sc q (keeps size i.body sc q h.0 g two.0) (go two.1)).now v s }

match-leaves : (size : ℕ → ℕ) (run : Run) (sel : Selector) (is : List Item) (other : Doing) (sc : Scope) (q : Place) → AllItems size is sc → Leaves other.run sc q → is_signal q.signal ≡ true
    → reached size ((D.any_item run is other).later sc) q ≡ false → Leaves (first_match sel (D.item_runs is) other.run) sc q
match-leaves size run sel [] other sc q h o g r = record { later = o.later }
match-leaves size run sel (i ∷ is) other sc q h o g r = by (λ x. match-leaves size run sel is other sc q h.1 o g x) i.values r
  where
    rest : Doing
    rest = D.any_item run is other

    by : (reached size (rest.later sc) q ≡ false → Leaves (first_match sel (D.item_runs is) other.run) sc q) → (vs : Option (List Meaning))
        → reached size ((elim vs as (λ x. Doing) [ None ↦ rest | Some ms ↦ D.either_of run i.body rest ]).later sc) q ≡ false
        → Leaves (first_match sel (elim vs [ None ↦ D.item_runs is | Some ms ↦ record { values = ms; run = i.body.run } ∷ D.item_runs is ]) other.run) sc q
    by go None x = go x
    by go (Some ms) x =
        let two = neither size (i.body.later sc) (rest.later sc) q x in
        record { later = λ v s. (one-leaves (list_any (matches sel sc (current v s)) ms) i.body.run (first_match sel (D.item_runs is) other.run) sc q (leaves size i.body sc q h.0 g two.0) (go two.1)).later v s }

-- what the last one may write, all together may write
last-writes : (size : ℕ → ℕ) (run : Run) (is : List Item) (other : Doing) (sc : Scope) (q : Place) → reached size ((D.any_item run is other).writes sc) q ≡ false → reached size (other.writes sc) q ≡ false
last-writes size run [] other sc q r = r
last-writes size run (i ∷ is) other sc q r = by (λ x. last-writes size run is other sc q x) i.values r
  where
    rest : Doing
    rest = D.any_item run is other

    by : (reached size (rest.writes sc) q ≡ false → reached size (other.writes sc) q ≡ false) → (vs : Option (List Meaning))
        → reached size ((elim vs as (λ x. Doing) [ None ↦ rest | Some ms ↦ D.either_of run i.body rest ]).writes sc) q ≡ false → reached size (other.writes sc) q ≡ false
    by go None x = go x
    by go (Some ms) x = go (neither size (i.body.writes sc) (rest.writes sc) q x).1

last-later : (size : ℕ → ℕ) (run : Run) (is : List Item) (other : Doing) (sc : Scope) (q : Place) → reached size ((D.any_item run is other).later sc) q ≡ false → reached size (other.later sc) q ≡ false
last-later size run [] other sc q r = r
last-later size run (i ∷ is) other sc q r = by (λ x. last-later size run is other sc q x) i.values r
  where
    rest : Doing
    rest = D.any_item run is other

    by : (reached size (rest.later sc) q ≡ false → reached size (other.later sc) q ≡ false) → (vs : Option (List Meaning))
        → reached size ((elim vs as (λ x. Doing) [ None ↦ rest | Some ms ↦ D.either_of run i.body rest ]).later sc) q ≡ false → reached size (other.later sc) q ≡ false
    by go None x = go x
    by go (Some ms) x = go (neither size (i.body.later sc) (rest.later sc) q x).1

cases-writes : (size : ℕ → ℕ) (kind : VCaseKind) (on : Meaning) (is : List Item) (sc : Scope) → AllItems size is sc → RunWrites size (D.cases kind on is) sc
unfolding D.cases
cases-writes size kind on is sc h = record {
  now = λ v s q i r.
      ap (λ (t : Run). (t sc v s).written q) (any-run run is other)
      ∙ (match-keeps size run (selector kind on values sc (current v s)) is other sc q h (keeps size other sc q o i (last-writes size run is other sc q r)) i r).now v s;
  later = λ v s q i r.
      ap (λ (t : Run). (t sc v s).pending q) (any-run run is other)
      ∙ (match-leaves size run (selector kind on values sc (current v s)) is other sc q h (leaves size other sc q o i (last-later size run is other sc q r)) i r).later v s;
}
  where
    values : List Meaning
    values = D.item_values is

    other : Doing
    other = D.otherwise is

    run : Run
    run sc' v' s' = first_match (selector kind on values sc' (current v' s')) (D.item_runs is) other.run sc' v' s'

    o : RunWrites size other sc
    o = otherwise-writes size is sc h

-- Locals of a block aren't signals, so what clears them is of no account.
local-apart : (n k : ℕ) → is_signal n ≡ true → (n == local_number k) ≡ false
local-apart n k h = grind (arith, nat_tests)

cleared-none : (ls : List VLocal) (k : ℕ) (q : Place) → is_signal q.signal ≡ true → R.cleared (D.declared k ls) q ≡ None
cleared-none [] k q h = refl
cleared-none (l ∷ ls) k q h =
    let w = bits_of_range l.range in
    let none = ap (λ b. cond (b && within (whole w) q.bit) (Some (slice_index_or (replicate w X) (at_least_0 (pos q.bit -ℤ pos 0)) X)) None) (local-apart q.signal k h) in
    (λ i. later_or (cleared-none ls (suc k) q h i) (none i))

block-writes : (size : ℕ → ℕ) (ls : List VLocal) (d : Doing) (sc : Scope) → RunWrites size d (D.inside ls sc) → RunWrites size (D.block_with ls d) sc
unfolding D.block_with
block-writes size ls d sc h = record {
  now = λ v s q i r. h.now v (R.assign_now (R.cleared (D.declared sc.next ls)) s) q i r ∙ ap (λ o. later_or o (s.written q)) (cleared-none ls sc.next q i);
  later = λ v s q i r. h.later v (R.assign_now (R.cleared (D.declared sc.next ls)) s) q i r;
}

-- the names of a block
local-large : (n : ℕ) → is_signal (local_number n) ≡ false
local-large n = grind (arith, nat_tests)

sized-behind : (size : ℕ → ℕ) (k : ℕ) (ls : List VLocal) (names : List Named) (name : Name)
    → (is_signal (named names name).number ≡ true → all_bits (named names name) ≤ size (named names name).number)
    → is_signal (named (D.declared k ls ++ names) name).number ≡ true → all_bits (named (D.declared k ls ++ names) name) ≤ size (named (D.declared k ls ++ names) name).number
sized-behind size k [] names name h e = h e
sized-behind size k (l ∷ ls) names name h e = by (bytes_eq l.name name) (λ f. sized-behind size (suc k) ls names name h f) e
  where
    rest : Named
    rest = named (D.declared (suc k) ls ++ names) name

    own : Named
    own = record { name = l.name; number = local_number k; width = bits_of_range l.range; words = None }

    by : (b : Bool) → (is_signal rest.number ≡ true → all_bits rest ≤ size rest.number) → is_signal (cond b own rest).number ≡ true → all_bits (cond b own rest) ≤ size (cond b own rest).number
    by true go f = absurd (true≢false (sym f ∙ local-large k))
    by false go f = go f

inside-sized : (size : ℕ → ℕ) (ls : List VLocal) (sc : Scope) → Sized size sc → Sized size (D.inside ls sc)
inside-sized size ls sc h = record { sized = λ name e. sized-behind size sc.next ls sc.names name (h.sized name) e }

-- statements
abbrev item_of : VCaseItem → Item
item_of = fold-VCaseItem Doing Item Doing branch_step item_step stmt_step

abbrev BranchWrites : VBranch → Type 0
BranchWrites b = (size : ℕ → ℕ) (sc : Scope) → Sized size sc → RunWrites size (doing_of b) sc

abbrev CaseWrites : VCaseItem → Type 0
CaseWrites c = (size : ℕ → ℕ) (sc : Scope) → Sized size sc → RunWrites size (item_of c).body sc

abbrev StmtWrites : VStmt → Type 0
StmtWrites s = (size : ℕ → ℕ) (sc : Scope) → Sized size sc → RunWrites size (doing s) sc

each-stmt : (ss : List VStmt) → Each StmtWrites ss → (size : ℕ → ℕ) (sc : Scope) → Sized size sc → AllRuns size (map doing ss) sc
each-stmt [] h size sc f = tt
each-stmt (s ∷ ss) h size sc f = (h.0 size sc f, each-stmt ss h.1 size sc f)

each-case : (cs : List VCaseItem) → Each CaseWrites cs → (size : ℕ → ℕ) (sc : Scope) → Sized size sc → AllItems size (map item_of cs) sc
each-case [] h size sc f = tt
each-case (c ∷ cs) h size sc f = (h.0 size sc f, each-case cs h.1 size sc f)

by-run : (size : ℕ → ℕ) (d e : Doing) (sc : Scope) → d ≡ e → RunWrites size e sc → RunWrites size d sc
by-run size d e sc f h = subst (λ (x : Doing). RunWrites size x sc) (sym f) h

by-item : (size : ℕ → ℕ) (i j : Item) (sc : Scope) → i ≡ j → RunWrites size j.body sc → RunWrites size i.body sc
by-item size i j sc f h = subst (λ (x : Item). RunWrites size x.body sc) (sym f) h

if-writes : (on : VExpr) (b : VBranch) (other : Option VBranch) → BranchWrites b → Perhaps BranchWrites other → StmtWrites (T.If on b other)
if-writes on b None h g size sc f =
    by-run size _ _ sc (L.at-if branch_step item_step stmt_step on b) (conditional-writes size (meaning on) (doing_of b) D.nothing sc (h size sc f) (nothing-writes size sc))
if-writes on b (Some x) h g size sc f =
    by-run size _ _ sc (L.at-else branch_step item_step stmt_step on b x) (conditional-writes size (meaning on) (doing_of b) (doing_of x) sc (h size sc f) (g size sc f))

steps : StmtSteps BranchWrites CaseWrites StmtWrites
steps = record {
  branch-statement = λ s h size sc f. by-run size _ _ sc (L.at-statement branch_step item_step stmt_step s) (h size sc f);
  branch-empty = λ size sc f. by-run size _ _ sc (L.at-empty branch_step item_step stmt_step) (nothing-writes size sc);
  case-item = λ values b h size sc f. by-item size _ _ sc (L.at-item branch_step item_step stmt_step values b) (h size sc f);
  case-default = λ b h size sc f. by-item size _ _ sc (L.at-default branch_step item_step stmt_step b) (h size sc f);
  stmt-block = λ label ss h size sc f.
      let ls = D.locals_of label in
      by-run size _ _ sc (L.at-block branch_step item_step stmt_step label ss)
      (block-writes size ls (D.sequence (map doing ss)) sc (sequence-writes size (map doing ss) (D.inside ls sc) (each-stmt ss h size (D.inside ls sc) (inside-sized size ls sc f))));
  stmt-if = if-writes;
  stmt-case = λ kind on cs h size sc f. by-run size _ _ sc (L.at-case branch_step item_step stmt_step kind on cs) (cases-writes size kind (meaning on) (map item_of cs) sc (each-case cs h size sc f));
  stmt-assign = λ to value later size sc f.
      by-run size _ _ sc (L.at-assign branch_step item_step stmt_step to value later) (assignment-writes size later (target to) (meaning value) sc (targets_write size to sc f));
}

pub statements_write : StatementsWrite
statements_write size b sc f = ind-branch BranchWrites CaseWrites StmtWrites steps b size sc f
