-- Runs stay inside signals.
use Rattle.std.proofs.Common.{◌≡◌, ℕ, suc, ◌≤◌, ◌==◌, ◌&&◌, min, max, Bool, true, false, cond, List, [], ◌∷◌, ◌++◌, map, take, drop, get_or, Option, Some, None, refl, arith, ap, sym, ◌∙◌, subst}
use Rattle.std.specs.Prelude.{ℤ, pos, ◌+ℤ◌, ◌-ℤ◌, ◌*ℤ◌, int_le, int_lt, nat_le, nat_lt, replicate}
use Rattle.std.proofs.Math.Nat.{min-le_left}
use Rattle.std.specs.List.{list_any}
use Rattle.std.specs.Str.{bytes_eq}
use Rattle.std.proofs.lemmas.Bool.Decides.{nat_tests}
use Rattle.b4_core.specs.declared.bit.Bit4.{Bit4}
use Rattle.b4_core.specs.declared.bit.Bit4.TheVariants.{X}
use Rattle.row_machine.specs.Valuation.{Place, Valuation, Changes}
use Rattle.row_machine.specs.Steps.{unchanged, later_or, then_changes}
use Rattle.picks.specs.Windows.{Window, whole, nowhere, part, within, written, at_least_0}
use Rattle.v_tree.specs.Names.{Name}
use Rattle.v_tree.specs.declared.expressions.VExpr.{VExpr}
use Rattle.v_tree.specs.declared.items.VLocal.{VLocal}
use Rattle.v_tree.specs.declared.statements.VBranch.{VBranch}
use Rattle.v_tree.specs.declared.statements.VCaseItem.{VCaseItem}
use Rattle.v_tree.specs.declared.statements.VCaseKind.{VCaseKind}
use Rattle.v_tree.specs.declared.statements.VLval.{VLval}
use Rattle.v_tree.specs.declared.statements.VLval.TheVariants as L
use Rattle.v_tree.specs.declared.statements.VStmt.{VStmt}
use Rattle.v_tree.specs.declared.statements.VStmt.TheVariants as T
use Rattle.v_tree.proofs.Induction as I
use Rattle.v_tree.proofs.Induction.{Each, Perhaps}
use Rattle.v_meaning.specs.Scopes as S
use Rattle.v_meaning.specs.Scopes.{Named, named, all_bits, is_signal, local_number}
use Rattle.v_meaning.specs.Selects.{Path, SelMeaning, start, select, taken, lowest, path_from}
use Rattle.v_meaning.specs.Values.{Meaning, meaning, sel_meaning, given}
use Rattle.v_meaning.specs.Runs.{Run, State, Selector, begun, current, one_of, is_true, matches, first_match, assign_as, assign_now, cleared}
use Rattle.v_meaning.specs.Statements.{Target, Doing, Item, nothing, target, name_target, joined_target, parts_width, puts_parts, changes_of, assignment, sequence, conditional, item_runs, otherwise, cases, inside, block_with, declared, locals_of, branch_step, item_step, stmt_step, doing, doing_of}
use Rattle.v_run.specs.Changes.{Within}
use Rattle.v_run.proofs.Targeted.{is-name, is-concat}
use Rattle.v_exec.specs.Choices.{item_of}
use Rattle.v_exec.specs.Inside.{NamesFit, Inside}
use Rattle.v_exec.proofs.Forms as F
use Rattle.v_exec.proofs.Choosing.{case-runs}

-- a name
fits-by : (b : Bool) (ws : List ℕ) (n m : Named) → (is_signal n.number ≡ true → all_bits n ≤ get_or ws n.number 0) → (is_signal m.number ≡ true → all_bits m ≤ get_or ws m.number 0)
    → is_signal (cond b n m).number ≡ true → all_bits (cond b n m) ≤ get_or ws (cond b n m).number 0
fits-by true ws n m h g = h
fits-by false ws n m h g = g

named-fits : (ws : List ℕ) (ns : List Named) (name : Name) → NamesFit ws ns → is_signal (named ns name).number ≡ true → all_bits (named ns name) ≤ get_or ws (named ns name).number 0
named-fits ws [] name fit = λ is. omega arith
named-fits ws (n ∷ ns) name fit = fits-by (bytes_eq n.name name) ws n (named ns name) fit.0 (named-fits ws ns name fit.1)

-- its path
cond-high : (b : Bool) (x y : Window) (n : ℕ) → x.high ≤ n → y.high ≤ n → (cond b x y).high ≤ n
cond-high true x y n h g = h
cond-high false x y n h g = g

part-high : (o : ℤ) (w : ℕ) (p : Window) → (part o w p).high ≤ p.high
part-high o w p =
    let low = max p.low (at_least_0 (p.shift +ℤ o)) in
    let high = min p.high (at_least_0 (p.shift +ℤ o +ℤ pos w)) in
    let h : high ≤ p.high = min-le_left p.high (at_least_0 (p.shift +ℤ o +ℤ pos w)) in
    let none : 0 ≤ p.high = omega arith in
    cond-high (nat_lt low high) (record { shift = p.shift +ℤ o; low = low; high = high }) nowhere p.high h none

select-high : (s : SelMeaning) (base : Option ℤ) (window : Window) (width : ℕ) (words : Option ℕ) → (select s base (record { window = window; width = width; words = words })).window.high ≤ window.high
select-high s None window width None = omega arith
select-high s (Some k) window width None = part-high (lowest s.extent k) (taken s.decimal s.extent) window
select-high s None window width (Some count) = omega arith
select-high s (Some k) window width (Some count) =
    let none : 0 ≤ window.high = omega arith in
    cond-high (int_le (pos 0) k && int_lt k (pos count)) (part (k *ℤ pos width) width window) nowhere window.high (part-high (k *ℤ pos width) width window) none

path-high : (sc : S.Scope) (v : Valuation) (ss : List SelMeaning) (p : Path) → (path_from sc v ss p).window.high ≤ p.window.high
path-high sc v [] p = omega arith
path-high sc v (s ∷ ss) p =
    let rest = path-high sc v ss (select s (s.base sc v) p) in
    let here = select-high s (s.base sc v) p.window p.width p.words in
    omega (arith, rest, here)

-- writes
out-of : (a b c : Bool) → c ≡ false → (a && (b && c)) ≡ false
out-of true true c h = h
out-of true false c h = refl
out-of false b c h = refl

written-none : (n : ℕ) (p : Window) (bits : List Bit4) (q : Place) → ((q.signal == n) && within p q.bit) ≡ false → written n p bits q ≡ None
written-none n p bits q is = ap (λ b. cond b (Some (get_or bits (at_least_0 (pos q.bit -ℤ p.shift)) X)) None) is

pub written-inside : (ws : List ℕ) (n : ℕ) (p : Window) (bits : List Bit4) → (is_signal n ≡ true → p.high ≤ get_or ws n 0) → Within ws (written n p bits)
written-inside ws n p bits fit q is behind = by (q.signal == n) refl
  where
    by : (c : Bool) → (q.signal == n) ≡ c → written n p bits q ≡ None
    by true same =
        let e : q.signal ≡ n = grind (arith, nat_tests) in
        let s : is_signal n ≡ true = ap is_signal (sym e) ∙ is in
        let h = fit s in
        let w : get_or ws q.signal 0 ≡ get_or ws n 0 = ap (λ k. get_or ws k 0) e in
        let high : p.high ≤ q.bit = omega (arith, h, w, behind) in
        let f : nat_lt q.bit p.high ≡ false = grind (arith, nat_tests) in
        written-none n p bits q (out-of (q.signal == n) (nat_le p.low q.bit) (nat_lt q.bit p.high) f)
    by false apart = written-none n p bits q (ap (λ c. c && within p q.bit) apart)

both-none : (a b : Option Bit4) → a ≡ None → b ≡ None → later_or b a ≡ None
both-none a b h g = ap (λ x. later_or x a) g ∙ h

pub then-inside : (ws : List ℕ) (a b : Changes) → Within ws a → Within ws b → Within ws (then_changes a b)
then-inside ws a b h g q is behind = both-none (a q) (b q) (h q is behind) (g q is behind)

pub none-inside : (ws : List ℕ) → Within ws unchanged
none-inside ws q is behind = refl

-- targets
abbrev pub TargetInside : List ℕ → Target → Type 0
TargetInside ws t = (sc : S.Scope) (v : Valuation) (bits : List Bit4) → NamesFit ws sc.names → Within ws (t.puts sc v bits)

abbrev pub AllTargets : List ℕ → List Target → Type 0
AllTargets ws [] = Unit {0}
AllTargets ws (t ∷ ts) = TargetInside ws t × AllTargets ws ts

name-inside : (ws : List ℕ) (name : Name) (ss : List SelMeaning) → TargetInside ws (name_target name ss)
unfolding name_target
name-inside ws name ss sc v bits fit =
    let n = named sc.names name in
    let high = path-high sc v ss (start n) in
    written-inside ws n.number (path_from sc v ss (start n)).window bits (λ is. let h = named-fits ws sc.names name fit is in omega (arith, h, high))

parts-inside : (ws : List ℕ) (ts : List Target) (sc : S.Scope) (v : Valuation) (bits : List Bit4) → AllTargets ws ts → NamesFit ws sc.names → Within ws (puts_parts ts sc v bits)
parts-inside ws [] sc v bits all fit = none-inside ws
parts-inside ws (t ∷ ts) sc v bits all fit =
    then-inside ws (t.puts sc v (drop (parts_width ts sc) bits)) (puts_parts ts sc v (take (parts_width ts sc) bits)) (all.0 sc v (drop (parts_width ts sc) bits) fit) (parts-inside ws ts sc v (take (parts_width ts sc) bits) all.1 fit)

joined-inside : (ws : List ℕ) (ts : List Target) → AllTargets ws ts → TargetInside ws (joined_target ts)
unfolding joined_target
joined-inside ws ts all sc v bits fit = parts-inside ws ts sc v bits all fit

all-targets : (ws : List ℕ) (xs : List VLval) → Each (λ x. TargetInside ws (target x)) xs → AllTargets ws (map target xs)
all-targets ws [] h = tt
all-targets ws (x ∷ xs) h = (h.0, all-targets ws xs h.1)

pub target-inside : (ws : List ℕ) (x : VLval) → TargetInside ws (target x)
target-inside ws =
    I.ind-lval (λ x. TargetInside ws (target x))
    (record {
      lval-name = λ n ss. subst (TargetInside ws) (sym (is-name (L.Name n ss) n ss refl)) (name-inside ws n (map sel_meaning ss));
      lval-concat = λ ls h. subst (TargetInside ws) (sym (is-concat (L.Concat ls) ls refl)) (joined-inside ws (map target ls) (all-targets ws ls h));
    })

-- statements
abbrev pub DoingInside : List ℕ → Doing → Type 0
DoingInside ws d = (sc : S.Scope) (v : Valuation) (s : State) → NamesFit ws sc.names → Inside ws s → Inside ws (d.run sc v s)

nothing-inside : (ws : List ℕ) → DoingInside ws nothing
nothing-inside ws sc v s fit h = h

now-or-later : (ws : List ℕ) (later : Bool) (c : Changes) (s : State) → Within ws c → Inside ws s → Inside ws (assign_as later c s)
now-or-later ws true c s g h = record { written = h.written; pending = then-inside ws s.pending c h.pending g }
now-or-later ws false c s g h = record { written = then-inside ws s.written c h.written g; pending = h.pending }

assignment-inside : (ws : List ℕ) (later : Bool) (to : VLval) (e : Meaning) → DoingInside ws (assignment later (target to) e)
unfolding assignment
assignment-inside ws later to e sc v s fit h =
    now-or-later ws later (changes_of (target to) e sc (current v s)) s (target-inside ws to sc (current v s) (given e ((target to).width sc) sc (current v s)) fit) h

abbrev pub AllDoings : List ℕ → List Doing → Type 0
AllDoings ws [] = Unit {0}
AllDoings ws (d ∷ ds) = DoingInside ws d × AllDoings ws ds

sequence-inside : (ws : List ℕ) (ds : List Doing) → AllDoings ws ds → DoingInside ws (sequence ds)
sequence-inside ws [] all sc v s fit h = h
sequence-inside ws (d ∷ ds) all sc v s fit h = sequence-inside ws ds all.1 sc v (d.run sc v s) fit (all.0 sc v s fit h)

either-inside : (ws : List ℕ) (b : Bool) (d e : Run) (sc : S.Scope) (v : Valuation) (s : State) → Inside ws (d sc v s) → Inside ws (e sc v s) → Inside ws (one_of b d e sc v s)
either-inside ws true d e sc v s h g = h
either-inside ws false d e sc v s h g = g

conditional-inside : (ws : List ℕ) (on : Meaning) (d e : Doing) → DoingInside ws d → DoingInside ws e → DoingInside ws (conditional on d e)
unfolding conditional
conditional-inside ws on d e h g sc v s fit i = either-inside ws (is_true on sc (current v s)) d.run e.run sc v s (h sc v s fit i) (g sc v s fit i)

-- the items of a `case`
abbrev pub AllItems : List ℕ → List Item → Type 0
AllItems ws [] = Unit {0}
AllItems ws (i ∷ is) = DoingInside ws i.body × AllItems ws is

otherwise-next : (ws : List ℕ) (o : Option (List Meaning)) (b : Doing) (is : List Item) → DoingInside ws b → DoingInside ws (otherwise is) → DoingInside ws (otherwise (record { values = o; body = b } ∷ is))
otherwise-next ws None b is h g = h
otherwise-next ws (Some ms) b is h g = g

otherwise-inside : (ws : List ℕ) (is : List Item) → AllItems ws is → DoingInside ws (otherwise is)
otherwise-inside ws [] all = nothing-inside ws
otherwise-inside ws (i ∷ is) all = otherwise-next ws i.values i.body is all.0 (otherwise-inside ws is all.1)

first-next : (ws : List ℕ) (on : Selector) (o : Option (List Meaning)) (b : Doing) (is : List Item) (other : Run) (sc : S.Scope) (v : Valuation) (s : State) → Inside ws (b.run sc v s) → Inside ws (first_match on (item_runs is) other sc v s)
    → Inside ws (first_match on (item_runs (record { values = o; body = b } ∷ is)) other sc v s)
first-next ws on None b is other sc v s h g = g
first-next ws on (Some ms) b is other sc v s h g = either-inside ws (list_any (matches on sc (current v s)) ms) b.run (first_match on (item_runs is) other) sc v s h g

first-inside : (ws : List ℕ) (on : Selector) (is : List Item) (other : Run) (sc : S.Scope) (v : Valuation) (s : State) → NamesFit ws sc.names → AllItems ws is → Inside ws s → Inside ws (other sc v s) → Inside ws (first_match on (item_runs is) other sc v s)
first-inside ws on [] other sc v s fit all h g = g
first-inside ws on (i ∷ is) other sc v s fit all h g = first-next ws on i.values i.body is other sc v s (all.0 sc v s fit h) (first-inside ws on is other sc v s fit all.1 h g)

cases-inside : (ws : List ℕ) (kind : VCaseKind) (on : Meaning) (is : List Item) → AllItems ws is → DoingInside ws (cases kind on is)
cases-inside ws kind on is all sc v s fit h =
    subst (Inside ws) (sym (case-runs kind on is sc v s)) (first-inside ws _ is (otherwise is).run sc v s fit all h (otherwise-inside ws is all sc v s fit h))

-- blocks
no-signal : (n : ℕ) → is_signal (local_number n) ≡ false
no-signal n = grind (arith, nat_tests)

locals-fit : (ws : List ℕ) (n : ℕ) (ls : List VLocal) (ns : List Named) → NamesFit ws ns → NamesFit ws (declared n ls ++ ns)
locals-fit ws n [] ns fit = fit
locals-fit ws n (l ∷ ls) ns fit = ((λ is. let f : true ≡ false = sym is ∙ no-signal n in absurd (cc)), locals-fit ws (suc n) ls ns fit)

cleared-inside : (ws : List ℕ) (n : ℕ) (ls : List VLocal) → Within ws (cleared (declared n ls))
cleared-inside ws n [] = none-inside ws
cleared-inside ws n (l ∷ ls) =
    let w = S.bits_of_range l.range in
    then-inside ws (written (local_number n) (whole w) (replicate w X)) (cleared (declared (suc n) ls))
    (written-inside ws (local_number n) (whole w) (replicate w X) (λ is. let f : true ≡ false = sym is ∙ no-signal n in absurd (cc))) (cleared-inside ws (suc n) ls)

block-inside : (ws : List ℕ) (ls : List VLocal) (d : Doing) → DoingInside ws d → DoingInside ws (block_with ls d)
unfolding block_with
block-inside ws ls d h sc v s fit i =
    h (inside ls sc) v (assign_now (cleared (declared sc.next ls)) s) (locals-fit ws sc.next ls sc.names fit)
    (record { written = then-inside ws s.written (cleared (declared sc.next ls)) i.written (cleared-inside ws sc.next ls); pending = i.pending })

all-doings : (ws : List ℕ) (xs : List VStmt) → Each (λ x. DoingInside ws (doing x)) xs → AllDoings ws (map doing xs)
all-doings ws [] h = tt
all-doings ws (x ∷ xs) h = (h.0, all-doings ws xs h.1)

all-items : (ws : List ℕ) (xs : List VCaseItem) → Each (λ x. DoingInside ws (item_of x).body) xs → AllItems ws (map item_of xs)
all-items ws [] h = tt
all-items ws (x ∷ xs) h = (h.0, all-items ws xs h.1)

if-inside : (ws : List ℕ) (on : VExpr) (b : VBranch) (o : Option VBranch) → DoingInside ws (doing_of b) → Perhaps (λ x. DoingInside ws (doing_of x)) o → DoingInside ws (doing (T.If on b o))
if-inside ws on b None h g = subst (DoingInside ws) (sym (F.at-if branch_step item_step stmt_step on b)) (conditional-inside ws (meaning on) (doing_of b) nothing h (nothing-inside ws))
if-inside ws on b (Some x) h g = subst (DoingInside ws) (sym (F.at-else branch_step item_step stmt_step on b x)) (conditional-inside ws (meaning on) (doing_of b) (doing_of x) h g)

steps : (ws : List ℕ) → I.StmtSteps (λ b. DoingInside ws (doing_of b)) (λ i. DoingInside ws (item_of i).body) (λ s. DoingInside ws (doing s))
steps ws = record {
  branch-statement = λ s h. subst (DoingInside ws) (sym (F.at-statement branch_step item_step stmt_step s)) h;
  branch-empty = subst (DoingInside ws) (sym (F.at-empty branch_step item_step stmt_step)) (nothing-inside ws);
  case-item = λ vs b h. subst (λ (i : Item). DoingInside ws i.body) (sym (F.at-item branch_step item_step stmt_step vs b)) h;
  case-default = λ b h. subst (λ (i : Item). DoingInside ws i.body) (sym (F.at-default branch_step item_step stmt_step b)) h;
  stmt-block = λ l ss h. subst (DoingInside ws) (sym (F.at-block branch_step item_step stmt_step l ss)) (block-inside ws (locals_of l) (sequence (map doing ss)) (sequence-inside ws (map doing ss) (all-doings ws ss h)));
  stmt-if = λ on b o h g. if-inside ws on b o h g;
  stmt-case = λ kind on is h. subst (DoingInside ws) (sym (F.at-case branch_step item_step stmt_step kind on is)) (cases-inside ws kind (meaning on) (map item_of is) (all-items ws is h));
  stmt-assign = λ to e later. subst (DoingInside ws) (sym (F.at-assign branch_step item_step stmt_step to e later)) (assignment-inside ws later to (meaning e));
}

-- a process
pub process-inside : (ws : List ℕ) (b : VBranch) (sc : S.Scope) (v : Valuation) → NamesFit ws sc.names → Inside ws ((doing_of b).run sc v begun)
process-inside ws b sc v fit =
    I.ind-branch (λ x. DoingInside ws (doing_of x)) (λ i. DoingInside ws (item_of i).body) (λ s. DoingInside ws (doing s)) (steps ws) b sc v begun fit (record { written = none-inside ws; pending = none-inside ws })

-- a continuous assignment
pub assign-inside : (ws : List ℕ) (to : VLval) (e : Meaning) (sc : S.Scope) (v : Valuation) → NamesFit ws sc.names → Within ws ((assignment false (target to) e).run sc v begun).written
assign-inside ws to e sc v fit = (assignment-inside ws false to e sc v begun fit (record { written = none-inside ws; pending = none-inside ws })).written
