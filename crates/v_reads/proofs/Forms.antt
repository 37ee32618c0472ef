-- What statements read, form by form.
use Rattle.std.proofs.Common.{◌≡◌, ℕ, Bool, true, false, ◌||◌, List, [], ◌∷◌, ◌++◌, map, Option, Some, None, refl, sym, ap, ◌∙◌}
use Rattle.v_tree.specs.declared.expressions.VExpr.{VExpr}
use Rattle.v_tree.specs.declared.items.VLocal.{VLocal}
use Rattle.v_tree.specs.declared.statements.VBranch.{VBranch}
use Rattle.v_tree.specs.declared.statements.VCaseItem.{VCaseItem}
use Rattle.v_tree.specs.declared.statements.VCaseKind.{VCaseKind}
use Rattle.v_tree.specs.declared.statements.VLabel.{VLabel}
use Rattle.v_tree.specs.declared.statements.VLval.{VLval}
use Rattle.v_tree.specs.declared.statements.VStmt.{VStmt}
use Rattle.v_tree.specs.declared.statements.VStmt.TheVariants as T
use Rattle.v_footprints.specs.Footprints.{uses}
use Rattle.v_footprints.proofs.Levels as K
use Rattle.v_footprints.proofs.Uses.{uses-both}
use Rattle.v_meaning.specs.Scopes.{Scope, Use}
use Rattle.v_meaning.specs.Values.{Meaning, meaning, all_reads}
use Rattle.v_meaning.specs.Runs.{Run, first_match, selector, current}
use Rattle.v_meaning.specs.Statements as M
use Rattle.v_meaning.specs.Statements.{Doing, Item, Target, target, doing, doing_of, sequence, assignment, conditional, cases, block_with, inside, locals_of, nothing, otherwise, any_item, item_values, branch_step, item_step, stmt_step}
use Rattle.v_reads.specs.Reads.{item_of, items_read, else_doing}
use Rattle.v_reads.proofs.Sets.{or-assoc, or-none}

pub block-with-reads : (ls : List VLocal) (d : Doing) (sc : Scope) → (block_with ls d).reads sc ≡ d.reads (inside ls sc)
unfolding block_with
block-with-reads ls d sc = refl

pub block-reads : (label : Option VLabel) (ss : List VStmt) (sc : Scope) → (doing (T.Block label ss)).reads sc ≡ (sequence (map doing ss)).reads (inside (locals_of label) sc)
block-reads label ss sc = ap (λ (d : Doing). d.reads sc) (K.at-block branch_step item_step stmt_step label ss) ∙ block-with-reads (locals_of label) (sequence (map doing ss)) sc

pub assignment-reads : (later : Bool) (to : Target) (value : Meaning) (sc : Scope) → (assignment later to value).reads sc ≡ value.reads sc ++ to.reads sc
unfolding assignment
assignment-reads later to value sc = refl

pub assign-reads : (to : VLval) (value : VExpr) (later : Bool) (sc : Scope) → (meaning value).reads sc ++ (target to).reads sc ≡ (doing (T.Assign to value later)).reads sc
assign-reads to value later sc =
    sym (ap (λ (d : Doing). d.reads sc) (K.at-assign branch_step item_step stmt_step to value later) ∙ assignment-reads later (target to) (meaning value) sc)

conditional-reads : (on : Meaning) (d e : Doing) (sc : Scope) → (conditional on d e).reads sc ≡ (on.reads sc ++ []) ++ (d.reads sc ++ e.reads sc)
unfolding conditional
conditional-reads on d e sc = refl

unit-used : (xs ys : List Use) (n : ℕ) → uses (xs ++ ys) n ≡ uses ((xs ++ []) ++ ys) n
unit-used xs ys n =
    uses-both xs ys n ∙ ap (λ b. b || uses ys n) (or-none (uses xs n) ∙ sym (uses-both xs [] n)) ∙ sym (uses-both (xs ++ []) ys n)

-- what a conditional reads, as a set
pub conditional-used : (on : Meaning) (d e : Doing) (sc : Scope) (n : ℕ) → uses (on.reads sc ++ (d.reads sc ++ e.reads sc)) n ≡ uses ((conditional on d e).reads sc) n
conditional-used on d e sc n = unit-used (on.reads sc) (d.reads sc ++ e.reads sc) n ∙ sym (ap (λ l. uses l n) (conditional-reads on d e sc))

pub if-doing : (on : VExpr) (b : VBranch) (other : Option VBranch) → doing (T.If on b other) ≡ conditional (meaning on) (doing_of b) (else_doing other)
if-doing on b None = K.at-if branch_step item_step stmt_step on b
if-doing on b (Some x) = K.at-else branch_step item_step stmt_step on b x

pub if-reads : (on : VExpr) (b : VBranch) (other : Option VBranch) (sc : Scope) (n : ℕ)
    → uses ((meaning on).reads sc ++ ((doing_of b).reads sc ++ (else_doing other).reads sc)) n ≡ uses ((doing (T.If on b other)).reads sc) n
if-reads on b other sc n = conditional-used (meaning on) (doing_of b) (else_doing other) sc n ∙ sym (ap (λ (d : Doing). uses (d.reads sc) n) (if-doing on b other))

-- `case`
all-append : (xs ys : List Meaning) (sc : Scope) (n : ℕ) → uses (all_reads (xs ++ ys) sc) n ≡ (uses (all_reads xs sc) n || uses (all_reads ys sc) n)
all-append [] ys sc n = refl
all-append (x ∷ xs) ys sc n =
    uses-both (x.reads sc) (all_reads (xs ++ ys) sc) n ∙ ap (λ b. uses (x.reads sc) n || b) (all-append xs ys sc n)
    ∙ sym (or-assoc (uses (x.reads sc) n) (uses (all_reads xs sc) n) (uses (all_reads ys sc) n)) ∙ ap (λ b. b || uses (all_reads ys sc) n) (sym (uses-both (x.reads sc) (all_reads xs sc) n))

-- values and bodies of items, as the meaning has them and item by item
items-used : (run : Run) (is : List Item) (other : Doing) (sc : Scope) (n : ℕ)
    → (uses (all_reads (item_values is) sc) n || uses ((any_item run is other).reads sc) n) ≡ (uses (items_read is sc) n || uses (other.reads sc) n)
items-used run [] other sc n = refl
items-used run (i ∷ is) other sc n = by (items-used run is other sc n) i.values
  where
    rest : Doing
    rest = any_item run is other

    by : (uses (all_reads (item_values is) sc) n || uses (rest.reads sc) n) ≡ (uses (items_read is sc) n || uses (other.reads sc) n) → (vs : Option (List Meaning))
        → (uses (all_reads (elim vs [ None ↦ item_values is | Some ms ↦ ms ++ item_values is ]) sc) n || uses ((elim vs as (λ x. Doing) [ None ↦ rest | Some ms ↦ M.either_of run i.body rest ]).reads sc) n)
        ≡ (uses ((elim vs [ None ↦ [] | Some ms ↦ all_reads ms sc ++ i.body.reads sc ]) ++ items_read is sc) n || uses (other.reads sc) n)
    by go None = go
    by go (Some ms) =
        let v = uses (all_reads ms sc) n in
        let b = uses (i.body.reads sc) n in
        let w = uses (all_reads (item_values is) sc) n in
        let r = uses (rest.reads sc) n in
        let c = uses (items_read is sc) n in
        let o = uses (other.reads sc) n in
        (λ j. all-append ms (item_values is) sc n j || uses-both (i.body.reads sc) (rest.reads sc) n j)
        ∙ shuffle v w b r ∙ ap (λ x. (v || b) || x) go ∙ sym (or-assoc (v || b) c o)
        ∙ ap (λ x. x || o) (ap (λ x. x || c) (sym (uses-both (all_reads ms sc) (i.body.reads sc) n)) ∙ sym (uses-both (all_reads ms sc ++ i.body.reads sc) (items_read is sc) n))
      where
        shuffle : (v w b r : Bool) → ((v || w) || (b || r)) ≡ ((v || b) || (w || r))
        shuffle true w b r = refl
        shuffle false true true r = refl
        shuffle false true false r = refl
        shuffle false false true r = refl
        shuffle false false false r = refl

pub cases-used : (kind : VCaseKind) (on : Meaning) (is : List Item) (sc : Scope) (n : ℕ) → uses (on.reads sc ++ (items_read is sc ++ (otherwise is).reads sc)) n ≡ uses ((cases kind on is).reads sc) n
unfolding cases
cases-used kind on is sc n =
    let run : Run = λ sc' v s. first_match (selector kind on (item_values is) sc' (current v s)) (M.item_runs is) (otherwise is).run sc' v s in
    uses-both (on.reads sc) (items_read is sc ++ (otherwise is).reads sc) n
    ∙ ap (λ b. uses (on.reads sc) n || b) (uses-both (items_read is sc) ((otherwise is).reads sc) n ∙ sym (items-used run is (otherwise is) sc n))
    ∙ sym (or-assoc (uses (on.reads sc) n) (uses (all_reads (item_values is) sc) n) (uses ((any_item run is (otherwise is)).reads sc) n))
    ∙ ap (λ b. b || uses ((any_item run is (otherwise is)).reads sc) n) (sym (uses-both (on.reads sc) (all_reads (item_values is) sc) n))
    ∙ sym (uses-both (on.reads sc ++ all_reads (item_values is) sc) ((any_item run is (otherwise is)).reads sc) n)

pub case-reads : (kind : VCaseKind) (on : VExpr) (cs : List VCaseItem) (sc : Scope) (n : ℕ)
    → uses ((meaning on).reads sc ++ (items_read (map item_of cs) sc ++ (otherwise (map item_of cs)).reads sc)) n ≡ uses ((doing (T.Case kind on cs)).reads sc) n
case-reads kind on cs sc n =
    cases-used kind (meaning on) (map item_of cs) sc n ∙ sym (ap (λ (d : Doing). uses (d.reads sc) n) (K.at-case branch_step item_step stmt_step kind on cs))
