-- Runs of statements, form by form.
use Rattle.std.proofs.Common.{◌≡◌, ℕ, zero, suc, ◌+◌, ◌<◌, ◌≤◌, Bool, true, false, List, [], ◌∷◌, ◌++◌, append_assoc, length, map, get_or, Option, Some, None, refl, arith, ap, sym, ◌∙◌, subst}
use Rattle.std.specs.Prelude.{take, Result, Ok, Err, IfOk}
use Rattle.std.proofs.lemmas.List.{length-map}
use Rattle.row_machine.specs.Valuation.{Valuation}
use Rattle.v_tree.specs.declared.expressions.VExpr.{VExpr}
use Rattle.v_tree.specs.declared.items.VLocal.{VLocal}
use Rattle.v_tree.specs.declared.statements.VBranch.{VBranch}
use Rattle.v_tree.specs.declared.statements.VBranch.TheVariants as G
use Rattle.v_tree.specs.declared.statements.VCaseItem.{VCaseItem}
use Rattle.v_tree.specs.declared.statements.VCaseKind.{VCaseKind}
use Rattle.v_tree.specs.declared.statements.VLabel.{VLabel}
use Rattle.v_tree.specs.declared.statements.VLval.{VLval}
use Rattle.v_tree.specs.declared.statements.VStmt.{VStmt}
use Rattle.v_tree.specs.declared.statements.VStmt.TheVariants as T
use Rattle.v_meaning.specs.Scopes as S
use Rattle.v_meaning.specs.Values.{Meaning, meaning}
use Rattle.v_meaning.specs.Runs as R
use Rattle.v_meaning.specs.Runs.{Run, State, current, one_of, is_true, assign_as, assign_now, cleared}
use Rattle.v_meaning.specs.Statements.{Doing, nothing, target, changes_of, assignment, sequence, conditional, cases, inside, block_with, declared, locals_of, branch_step, item_step, stmt_step, doing, doing_of}
use Rattle.v_tree.specs.Names.{Name}
use Rattle.v_eval.specs.declared.modules.Local.{Local}
use Rattle.v_eval.specs.Names.{local_named}
use Rattle.v_run.proofs.Changed.{none-first}
use Rattle.v_exec.specs.Choices.{item_of, run_at, ChoosesIn}
use Rattle.v_exec.specs.Limits.{limits_of_item, bodies_in, most_in_turn}
use Rattle.v_exec.proofs.Forms as F

-- blocks
is-block : (x : VStmt) (l : Option VLabel) (xs : List VStmt) → x ≡ T.Block l xs → doing x ≡ block_with (locals_of l) (sequence (map doing xs))
is-block x l xs is = ap doing is ∙ F.at-block branch_step item_step stmt_step l xs

plain-run : (d : Doing) (sc : S.Scope) (v : Valuation) (r : State) → (block_with [] d).run sc v r ≡ d.run sc v r
unfolding block_with
plain-run d sc v r =
    ap (λ (n : ℕ). d.run (record sc { next = n }) v r) (let e : sc.next + 0 ≡ sc.next = omega arith in e)

pub block-runs : (x : VStmt) (xs : List VStmt) (sc : S.Scope) (v : Valuation) (r : State) → x ≡ T.Block None xs → (sequence (map doing xs)).run sc v r ≡ (doing x).run sc v r
block-runs x xs sc v r is = sym (plain-run (sequence (map doing xs)) sc v r) ∙ sym (ap (λ (d : Doing). d.run sc v r) (is-block x None xs is))

pub named-block-runs : (x : VStmt) (l : VLabel) (xs : List VStmt) (sc : S.Scope) (v : Valuation) (r : State) → x ≡ T.Block (Some l) xs → (block_with l.locals (sequence (map doing xs))).run sc v r ≡ (doing x).run sc v r
named-block-runs x l xs sc v r is = sym (ap (λ (d : Doing). d.run sc v r) (is-block x (Some l) xs is))

-- conditions
is-if : (x : VStmt) (on : VExpr) (then : VBranch) → x ≡ T.If on then None → doing x ≡ conditional (meaning on) (doing_of then) nothing
is-if x on then is = ap doing is ∙ F.at-if branch_step item_step stmt_step on then

is-else : (x : VStmt) (on : VExpr) (then other : VBranch) → x ≡ T.If on then (Some other) → doing x ≡ conditional (meaning on) (doing_of then) (doing_of other)
is-else x on then other is = ap doing is ∙ F.at-else branch_step item_step stmt_step on then other

conditional-run : (on : Meaning) (d e : Doing) (b : Bool) (sc : S.Scope) (held v : Valuation) (r : State) → b ≡ is_true on sc held → held ≡ current v r → one_of b d.run e.run sc v r ≡ (conditional on d e).run sc v r
unfolding conditional
conditional-run on d e b sc held v r is now = ap (λ c. one_of c d.run e.run sc v r) (is ∙ ap (is_true on sc) now)

pub then-runs : (x : VStmt) (on : VExpr) (then : VBranch) (other : Option VBranch) (b : Bool) (sc : S.Scope) (held v : Valuation) (r : State) → x ≡ T.If on then other → b ≡ is_true (meaning on) sc held → b ≡ true → held ≡ current v r
    → (doing_of then).run sc v r ≡ (doing x).run sc v r
then-runs x on then None b sc held v r is is_b yes_b now =
    sym (ap (λ c. one_of c (doing_of then).run nothing.run sc v r) yes_b) ∙ conditional-run (meaning on) (doing_of then) nothing b sc held v r is_b now ∙ sym (ap (λ (d : Doing). d.run sc v r) (is-if x on then is))
then-runs x on then (Some other) b sc held v r is is_b yes_b now =
    sym (ap (λ c. one_of c (doing_of then).run (doing_of other).run sc v r) yes_b) ∙ conditional-run (meaning on) (doing_of then) (doing_of other) b sc held v r is_b now
    ∙ sym (ap (λ (d : Doing). d.run sc v r) (is-else x on then other is))

pub none-runs : (x : VStmt) (on : VExpr) (then : VBranch) (b : Bool) (sc : S.Scope) (held v : Valuation) (r : State) → x ≡ T.If on then None → b ≡ is_true (meaning on) sc held → b ≡ false → held ≡ current v r → r ≡ (doing x).run sc v r
none-runs x on then b sc held v r is is_b not_b now =
    sym (ap (λ c. one_of c (doing_of then).run nothing.run sc v r) not_b) ∙ conditional-run (meaning on) (doing_of then) nothing b sc held v r is_b now ∙ sym (ap (λ (d : Doing). d.run sc v r) (is-if x on then is))

pub else-runs : (x : VStmt) (on : VExpr) (then other : VBranch) (b : Bool) (sc : S.Scope) (held v : Valuation) (r : State) → x ≡ T.If on then (Some other) → b ≡ is_true (meaning on) sc held → b ≡ false → held ≡ current v r
    → (doing_of other).run sc v r ≡ (doing x).run sc v r
else-runs x on then other b sc held v r is is_b not_b now =
    sym (ap (λ c. one_of c (doing_of then).run (doing_of other).run sc v r) not_b) ∙ conditional-run (meaning on) (doing_of then) (doing_of other) b sc held v r is_b now
    ∙ sym (ap (λ (d : Doing). d.run sc v r) (is-else x on then other is))

-- `case`
is-case : (x : VStmt) (kind : VCaseKind) (on : VExpr) (xs : List VCaseItem) → x ≡ T.Case kind on xs → doing x ≡ cases kind (meaning on) (map item_of xs)
is-case x kind on xs is = ap doing is ∙ F.at-case branch_step item_step stmt_step kind on xs

pub item-runs : (x : VStmt) (kind : VCaseKind) (on : VExpr) (xs : List VCaseItem) (o p : Option ℕ) (sc : S.Scope) (held v : Valuation) (r : State) → x ≡ T.Case kind on xs → ChoosesIn kind (meaning on) (map item_of xs) sc held o → o ≡ p → held ≡ current v r
    → run_at (map item_of xs) p sc v r ≡ (doing x).run sc v r
item-runs x kind on xs o p sc held v r is c same now =
    sym (c.runs v r now ∙ ap (λ q. run_at (map item_of xs) q sc v r) same) ∙ sym (ap (λ (d : Doing). d.run sc v r) (is-case x kind on xs is))

-- assignments
is-assign : (x : VStmt) (to : VLval) (e : VExpr) (later : Bool) → x ≡ T.Assign to e later → doing x ≡ assignment later (target to) (meaning e)
is-assign x to e later is = ap doing is ∙ F.at-assign branch_step item_step stmt_step to e later

assignment-run : (later : Bool) (to : VLval) (e : VExpr) (sc : S.Scope) (v : Valuation) (r : State) → assign_as later (changes_of (target to) (meaning e) sc (current v r)) r ≡ (assignment later (target to) (meaning e)).run sc v r
unfolding assignment
assignment-run later to e sc v r = refl

pub assign-runs : (x : VStmt) (to : VLval) (e : VExpr) (later : Bool) (sc : S.Scope) (v : Valuation) (r : State) → x ≡ T.Assign to e later → assign_as later (changes_of (target to) (meaning e) sc (current v r)) r ≡ (doing x).run sc v r
assign-runs x to e later sc v r is = assignment-run later to e sc v r ∙ sym (ap (λ (d : Doing). d.run sc v r) (is-assign x to e later is))

pub written-alone : (to : VLval) (e : VExpr) (sc : S.Scope) (v : Valuation) → changes_of (target to) (meaning e) sc v ≡ ((assignment false (target to) (meaning e)).run sc v R.begun).written
unfolding assignment
written-alone to e sc v = sym (none-first (changes_of (target to) (meaning e) sc v))

-- locals
pub declared-long : (n : ℕ) (ls : List VLocal) → length (declared n ls) ≡ length ls
declared-long n [] = refl
declared-long n (l ∷ ls) = ap suc (declared-long (suc n) ls)

map-take : (n : ℕ) (xs : List Local) → map local_named (take n xs) ≡ take n (map local_named xs)
map-take zero xs = refl
map-take (suc n) [] = refl
map-take (suc n) (x ∷ xs) = ap (λ ys. local_named x ∷ ys) (map-take n xs)

take-front : (xs ys : List S.Named) → take (length xs) (xs ++ ys) ≡ xs
take-front [] ys = refl
take-front (x ∷ xs) ys = ap (λ zs. x ∷ zs) (take-front xs ys)

pub own-names : (all : List Local) (outer : List S.Named) (n : ℕ) (ls : List VLocal) → map local_named all ≡ declared n ls ++ outer → map local_named (take (length ls) all) ≡ declared n ls
own-names all outer n ls is =
    map-take (length ls) all ∙ ap (take (length ls)) is ∙ ap (λ k. take k (declared n ls ++ outer)) (sym (declared-long n ls)) ∙ take-front (declared n ls) outer

pub own-long : (all : List Local) (outer : List S.Named) (n : ℕ) (ls : List VLocal) → map local_named all ≡ declared n ls ++ outer → length ls ≡ length (take (length ls) all)
own-long all outer n ls is = sym (sym (length-map (take (length ls) all) local_named) ∙ ap length (own-names all outer n ls is) ∙ declared-long n ls)

-- the scope in a block
pub inner-scope : (all outer : List Local) (ls : List VLocal) (m n : ℕ) (signals : List S.Named) (callee : Name → S.Callee) → map local_named all ≡ declared m ls ++ map local_named outer → n ≡ m + length ls
    → ◌≡◌ {A = S.Scope} (record { names = map local_named all ++ signals; next = n; callee = callee }) (inside ls (record { names = map local_named outer ++ signals; next = m; callee = callee }))
inner-scope all outer ls m n signals callee names next =
    ap (λ (ns : List S.Named). record { names = ns ++ signals; next = n; callee = callee }) names
    ∙ ap (λ (ns : List S.Named). record { names = ns; next = n; callee = callee }) (append_assoc (declared m ls) (map local_named outer) signals)
    ∙ ap (λ (k : ℕ). record { names = declared m ls ++ (map local_named outer ++ signals); next = k; callee = callee }) next

pub block-enters : (ls : List VLocal) (d : Doing) (sc inner : S.Scope) (v : Valuation) (r : State) → inner ≡ inside ls sc → d.run inner v (assign_now (cleared (declared sc.next ls)) r) ≡ (block_with ls d).run sc v r
unfolding block_with
block-enters ls d sc inner v r is = ap (λ c. d.run c v (assign_now (cleared (declared sc.next ls)) r)) is

-- branches
pub branch-runs : (x : VBranch) (s : VStmt) (sc : S.Scope) (v : Valuation) (r : State) → x ≡ G.Statement s → (doing s).run sc v r ≡ (doing_of x).run sc v r
branch-runs x s sc v r is = sym (ap (λ (d : Doing). d.run sc v r) (ap doing_of is ∙ F.at-statement branch_step item_step stmt_step s))

-- answers that are there
pub if-ok : {T E : Type 0} {P Q : T → Type 0} → ((x : T) → P x → Q x) → (r : Result T E) → IfOk r P → IfOk r Q
if-ok f (Ok x) h = f x h
if-ok f (Err e) h = h

-- the items behind
pub body-narrow : (items : List VCaseItem) (k : ℕ) (x : VCaseItem) (sc : S.Scope) → k < length items → x ≡ get_or items k x → most_in_turn (bodies_in (map limits_of_item items)) sc ≤ 128 → (limits_of_item x).body sc ≤ 128
body-narrow [] k x sc h is narrow = absurd (omega (arith, h))
body-narrow (i ∷ is) zero x sc h e narrow = subst (λ y. (limits_of_item y).body sc ≤ 128) (sym e) (omega (arith, narrow))
body-narrow (i ∷ is) (suc k) x sc h e narrow = body-narrow is k x sc (omega (arith, h)) e (omega (arith, narrow))

pub ruleset bodies = (body-narrow)
