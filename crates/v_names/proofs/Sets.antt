-- Names as sets, statement by statement.
use Rattle.std.proofs.Common.{◌≡◌, ℕ, suc, ◌+◌, ◌<◌, ◌==◌, Bool, true, false, ◌||◌, List, [], ◌∷◌, ◌++◌, length, drop, get_or, map, Option, Some, None, Result, Ok, Err, OnOk, refl, sym, ap, ◌∙◌, arith}
use Rattle.std.proofs.Math.Seq.{drop-cons}
use Rattle.v_tree.specs.declared.expressions.VExpr.{VExpr}
use Rattle.v_tree.specs.declared.items.VLocal.{VLocal}
use Rattle.v_tree.specs.declared.statements.VBranch.{VBranch}
use Rattle.v_tree.specs.declared.statements.VBranch.TheVariants as G
use Rattle.v_tree.specs.declared.statements.VCaseItem.{VCaseItem}
use Rattle.v_tree.specs.declared.statements.VCaseItem.TheVariants as C
use Rattle.v_tree.specs.declared.statements.VCaseKind.{VCaseKind}
use Rattle.v_tree.specs.declared.statements.VLabel.{VLabel}
use Rattle.v_tree.specs.declared.statements.VLval.{VLval}
use Rattle.v_tree.specs.declared.statements.VStmt.{VStmt}
use Rattle.v_tree.specs.declared.statements.VStmt.TheVariants as T
use Rattle.v_footprints.proofs.Levels as K
use Rattle.v_meaning.specs.Scopes.{Scope}
use Rattle.v_meaning.specs.Values.{Meaning, meaning, all_names}
use Rattle.v_meaning.specs.Runs.{Run, first_match, selector, current}
use Rattle.v_meaning.specs.Statements as M
use Rattle.v_meaning.specs.Statements.{Doing, Item, Target, target, doing, doing_of, sequence, assignment, conditional, cases, block_with, inside, locals_of, nothing, otherwise, any_item, item_values, branch_step, item_step, stmt_step}
use Rattle.v_names.specs.Names.{is_among, Adds, item_of, item_named, items_named, else_doing}

among-both : (xs ys : List ℕ) (n : ℕ) → is_among (xs ++ ys) n ≡ (is_among xs n || is_among ys n)
among-both [] ys n = refl
among-both (x ∷ xs) ys n = ap (λ b. (x == n) || b) (among-both xs ys n) ∙ assoc (x == n) (is_among xs n) (is_among ys n)
  where
    assoc : (a b c : Bool) → (a || (b || c)) ≡ ((a || b) || c)
    assoc true b c = refl
    assoc false b c = refl

or-assoc : (a b c : Bool) → ((a || b) || c) ≡ (a || (b || c))
or-assoc true b c = refl
or-assoc false b c = refl

or-none : (a : Bool) → a ≡ (a || false)
or-none true = refl
or-none false = refl

pub adds-list : (old new ns : List ℕ) → new ≡ old ++ ns → Adds old new ns
adds-list old new ns e = record { same = λ n. ap (λ l. is_among l n) e ∙ among-both old ns n }

pub adds-none : (old ns : List ℕ) → ns ≡ [] → Adds old old ns
adds-none old ns e = record { same = λ n. or-none (is_among old n) ∙ ap (λ l. is_among old n || is_among l n) (sym e) }

pub adds-then : (old mid new xs ys : List ℕ) → Adds old mid xs → Adds mid new ys → Adds old new (xs ++ ys)
adds-then old mid new xs ys h g = record {
  same = λ n. g.same n ∙ ap (λ b. b || is_among ys n) (h.same n) ∙ or-assoc (is_among old n) (is_among xs n) (is_among ys n) ∙ ap (λ b. is_among old n || b) (sym (among-both xs ys n));
}

pub adds-same : (old new xs ys : List ℕ) → Adds old new xs → ((n : ℕ) → is_among xs n ≡ is_among ys n) → Adds old new ys
adds-same old new xs ys h e = record { same = λ n. h.same n ∙ ap (λ b. is_among old n || b) (e n) }

pub adds-equal : (old new xs ys : List ℕ) → Adds old new xs → xs ≡ ys → Adds old new ys
adds-equal old new xs ys h e = adds-same old new xs ys h (λ n. ap (λ l. is_among l n) e)

-- what is added so far, and what is left, are the whole
pub record Left (old now rest whole : List ℕ) : Type 0 where
  pub same : (n : ℕ) → (is_among now n || is_among rest n) ≡ (is_among old n || is_among whole n)

pub left-first : (old rest whole : List ℕ) → rest ≡ whole → Left old old rest whole
left-first old rest whole e = record { same = λ n. ap (λ l. is_among old n || is_among l n) e }

pub left-turn : (old now new one rest more whole : List ℕ) → Left old now more whole → Adds now new one → more ≡ one ++ rest → Left old new rest whole
left-turn old now new one rest more whole h g e = record {
  same = λ n. ap (λ b. b || is_among rest n) (g.same n) ∙ or-assoc (is_among now n) (is_among one n) (is_among rest n)
      ∙ ap (λ b. is_among now n || b) (sym (among-both one rest n) ∙ ap (λ l. is_among l n) (sym e)) ∙ h.same n;
}

pub left-done : (old now rest whole : List ℕ) → Left old now rest whole → rest ≡ [] → Adds old now whole
left-done old now rest whole h e = record { same = λ n. or-none (is_among now n) ∙ ap (λ l. is_among now n || is_among l n) (sym e) ∙ h.same n }

pub left-last : (old now new rest whole : List ℕ) → Left old now rest whole → Adds now new rest → Adds old new whole
left-last old now new rest whole h g = record { same = λ n. g.same n ∙ h.same n }

pub drop-here : {A : Type 0} (xs : List A) (i : ℕ) (x : A) → i < length xs → x ≡ get_or xs i x → drop i xs ≡ x ∷ drop (i + 1) xs
drop-here xs i x h e = drop-cons xs i x h ∙ ap (λ y. y ∷ drop (suc i) xs) (sym e) ∙ ap (λ k. x ∷ drop k xs) (next i)
  where
    next : (i : ℕ) → suc i ≡ i + 1
    next i = omega arith

pub where-ok : {A E : Type 0} (r : Result A E) {P Q : Type 0} → (P → Q) → OnOk r P → OnOk r Q
where-ok (Ok a) f h = f h
where-ok (Err e) f h = tt

-- forms
block-with-names : (ls : List VLocal) (d : Doing) (sc : Scope) → (block_with ls d).names sc ≡ d.names (inside ls sc)
unfolding block_with
block-with-names ls d sc = refl

pub block-names : (label : Option VLabel) (ss : List VStmt) (sc : Scope) → (doing (T.Block label ss)).names sc ≡ (sequence (map doing ss)).names (inside (locals_of label) sc)
block-names label ss sc = ap (λ (d : Doing). d.names sc) (K.at-block branch_step item_step stmt_step label ss) ∙ block-with-names (locals_of label) (sequence (map doing ss)) sc

assignment-names : (later : Bool) (to : Target) (value : Meaning) (sc : Scope) → (assignment later to value).names sc ≡ value.names sc ++ to.names sc
unfolding assignment
assignment-names later to value sc = refl

pub assign-names : (to : VLval) (value : VExpr) (later : Bool) (sc : Scope) → (meaning value).names sc ++ (target to).names sc ≡ (doing (T.Assign to value later)).names sc
assign-names to value later sc =
    sym (ap (λ (d : Doing). d.names sc) (K.at-assign branch_step item_step stmt_step to value later) ∙ assignment-names later (target to) (meaning value) sc)

conditional-names : (on : Meaning) (d e : Doing) (sc : Scope) → (conditional on d e).names sc ≡ (on.names sc ++ []) ++ (d.names sc ++ e.names sc)
unfolding conditional
conditional-names on d e sc = refl

unit-among : (xs ys : List ℕ) (n : ℕ) → is_among (xs ++ ys) n ≡ is_among ((xs ++ []) ++ ys) n
unit-among xs ys n =
    among-both xs ys n ∙ ap (λ b. b || is_among ys n) (or-none (is_among xs n) ∙ sym (among-both xs [] n)) ∙ sym (among-both (xs ++ []) ys n)

pub if-names : (on : VExpr) (b : VBranch) (other : Option VBranch) (sc : Scope) (n : ℕ)
    → is_among ((meaning on).names sc ++ ((doing_of b).names sc ++ (else_doing other).names sc)) n ≡ is_among ((doing (T.If on b other)).names sc) n
if-names on b None sc n =
    unit-among ((meaning on).names sc) ((doing_of b).names sc ++ nothing.names sc) n
    ∙ sym (ap (λ (d : Doing). is_among (d.names sc) n) (K.at-if branch_step item_step stmt_step on b) ∙ ap (λ l. is_among l n) (conditional-names (meaning on) (doing_of b) nothing sc))
if-names on b (Some x) sc n =
    unit-among ((meaning on).names sc) ((doing_of b).names sc ++ (doing_of x).names sc) n
    ∙ sym (ap (λ (d : Doing). is_among (d.names sc) n) (K.at-else branch_step item_step stmt_step on b x) ∙ ap (λ l. is_among l n) (conditional-names (meaning on) (doing_of b) (doing_of x) sc))

-- `case`
all-append : (xs ys : List Meaning) (sc : Scope) (n : ℕ) → is_among (all_names (xs ++ ys) sc) n ≡ (is_among (all_names xs sc) n || is_among (all_names ys sc) n)
all-append [] ys sc n = refl
all-append (x ∷ xs) ys sc n =
    among-both (x.names sc) (all_names (xs ++ ys) sc) n ∙ ap (λ b. is_among (x.names sc) n || b) (all-append xs ys sc n)
    ∙ sym (or-assoc (is_among (x.names sc) n) (is_among (all_names xs sc) n) (is_among (all_names ys sc) n)) ∙ ap (λ b. b || is_among (all_names ys sc) n) (sym (among-both (x.names sc) (all_names xs sc) n))

mixed : (v b w c o : Bool) → ((v || w) || (b || (c || o))) ≡ ((v || b) || ((w || c) || o))
mixed true b w c o = refl
mixed false true true c o = refl
mixed false true false c o = refl
mixed false false true c o = refl
mixed false false false c o = refl

-- values and bodies of items, as the meaning has them and item by item
items-among : (run : Run) (is : List Item) (other : Doing) (sc : Scope) (n : ℕ)
    → (is_among (all_names (item_values is) sc) n || is_among ((any_item run is other).names sc) n) ≡ (is_among (items_named is sc) n || is_among (other.names sc) n)
items-among run [] other sc n = refl
items-among run (i ∷ is) other sc n = by (items-among run is other sc n) i.values
  where
    rest : Doing
    rest = any_item run is other

    by : (is_among (all_names (item_values is) sc) n || is_among (rest.names sc) n) ≡ (is_among (items_named is sc) n || is_among (other.names sc) n) → (vs : Option (List Meaning))
        → (is_among (all_names (elim vs [ None ↦ item_values is | Some ms ↦ ms ++ item_values is ]) sc) n || is_among ((elim vs as (λ x. Doing) [ None ↦ rest | Some ms ↦ M.either_of run i.body rest ]).names sc) n)
        ≡ (is_among ((elim vs [ None ↦ [] | Some ms ↦ all_names ms sc ++ i.body.names sc ]) ++ items_named is sc) n || is_among (other.names sc) n)
    by go None = go
    by go (Some ms) =
        let v = is_among (all_names ms sc) n in
        let b = is_among (i.body.names sc) n in
        let w = is_among (all_names (item_values is) sc) n in
        let r = is_among (rest.names sc) n in
        let c = is_among (items_named is sc) n in
        let o = is_among (other.names sc) n in
        (λ j. all-append ms (item_values is) sc n j || among-both (i.body.names sc) (rest.names sc) n j)
        ∙ shuffle v w b r ∙ ap (λ x. (v || b) || x) go ∙ sym (or-assoc (v || b) c o)
        ∙ ap (λ x. x || o) (ap (λ x. x || c) (sym (among-both (all_names ms sc) (i.body.names sc) n)) ∙ sym (among-both (all_names ms sc ++ i.body.names sc) (items_named is sc) n))
      where
        shuffle : (v w b r : Bool) → ((v || w) || (b || r)) ≡ ((v || b) || (w || r))
        shuffle true w b r = refl
        shuffle false true true r = refl
        shuffle false true false r = refl
        shuffle false false true r = refl
        shuffle false false false r = refl

cases-among : (kind : VCaseKind) (on : Meaning) (is : List Item) (sc : Scope) (n : ℕ) → is_among (on.names sc ++ (items_named is sc ++ (otherwise is).names sc)) n ≡ is_among ((cases kind on is).names sc) n
unfolding cases
cases-among kind on is sc n =
    let run : Run = λ sc' v s. first_match (selector kind on (item_values is) sc' (current v s)) (M.item_runs is) (otherwise is).run sc' v s in
    among-both (on.names sc) (items_named is sc ++ (otherwise is).names sc) n
    ∙ ap (λ b. is_among (on.names sc) n || b) (among-both (items_named is sc) ((otherwise is).names sc) n ∙ sym (items-among run is (otherwise is) sc n))
    ∙ sym (or-assoc (is_among (on.names sc) n) (is_among (all_names (item_values is) sc) n) (is_among ((any_item run is (otherwise is)).names sc) n))
    ∙ ap (λ b. b || is_among ((any_item run is (otherwise is)).names sc) n) (sym (among-both (on.names sc) (all_names (item_values is) sc) n))
    ∙ sym (among-both (on.names sc ++ all_names (item_values is) sc) ((any_item run is (otherwise is)).names sc) n)

pub case-names : (kind : VCaseKind) (on : VExpr) (cs : List VCaseItem) (sc : Scope) (n : ℕ)
    → is_among ((meaning on).names sc ++ (items_named (map item_of cs) sc ++ (otherwise (map item_of cs)).names sc)) n ≡ is_among ((doing (T.Case kind on cs)).names sc) n
case-names kind on cs sc n =
    cases-among kind (meaning on) (map item_of cs) sc n ∙ sym (ap (λ (d : Doing). is_among (d.names sc) n) (K.at-case branch_step item_step stmt_step kind on cs))

pub item-names : (values : List VExpr) (b : VBranch) (sc : Scope) → all_names (map meaning values) sc ++ (doing_of b).names sc ≡ item_named (item_of (C.Item values b)) sc
item-names values b sc = sym (ap (λ (i : Item). item_named i sc) (K.at-item branch_step item_step stmt_step values b))

pub default-names : (b : VBranch) (sc : Scope) → item_named (item_of (C.Default b)) sc ≡ []
default-names b sc = ap (λ (i : Item). item_named i sc) (K.at-default branch_step item_step stmt_step b)

pub otherwise-here : (b : VBranch) (cs : List VCaseItem) → otherwise (map item_of (C.Default b ∷ cs)) ≡ doing_of b
otherwise-here b cs = ap (λ (i : Item). elim i.values [ None ↦ i.body | Some ms ↦ otherwise (map item_of cs) ]) (K.at-default branch_step item_step stmt_step b)

pub otherwise-later : (values : List VExpr) (b : VBranch) (cs : List VCaseItem) → otherwise (map item_of (C.Item values b ∷ cs)) ≡ otherwise (map item_of cs)
otherwise-later values b cs = ap (λ (i : Item). elim i.values [ None ↦ i.body | Some ms ↦ otherwise (map item_of cs) ]) (K.at-item branch_step item_step stmt_step values b)

pub statement-names : (s : VStmt) (sc : Scope) → (doing s).names sc ≡ (doing_of (G.Statement s)).names sc
statement-names s sc = sym (ap (λ (d : Doing). d.names sc) (K.at-statement branch_step item_step stmt_step s))

pub empty-names : (sc : Scope) → (doing_of G.Empty).names sc ≡ []
empty-names sc = ap (λ (d : Doing). d.names sc) (K.at-empty branch_step item_step stmt_step)
