-- What statements write, form by form.
use Rattle.std.proofs.Common.{◌≡◌, Bool, true, false, List, [], ◌∷◌, ◌++◌, map, Option, Some, None, sym, ap, ◌∙◌, refl, append_assoc, not, true≢false}
use Rattle.std.specs.Prelude.{cond}
use Rattle.std.proofs.lemmas.List.{append-nil}
use Rattle.v_tree.specs.declared.expressions.VExpr.{VExpr}
use Rattle.v_tree.specs.declared.items.VLocal.{VLocal}
use Rattle.v_tree.specs.declared.statements.VBranch.{VBranch}
use Rattle.v_tree.specs.declared.statements.VCaseItem.{VCaseItem}
use Rattle.v_tree.specs.declared.statements.VCaseItem.TheVariants as C
use Rattle.v_tree.specs.declared.statements.VCaseKind.{VCaseKind}
use Rattle.v_tree.specs.declared.statements.VLabel.{VLabel}
use Rattle.v_tree.specs.declared.statements.VLval.{VLval}
use Rattle.v_tree.specs.declared.statements.VStmt.{VStmt}
use Rattle.v_tree.specs.declared.statements.VStmt.TheVariants as T
use Rattle.v_footprints.proofs.Levels as K
use Rattle.v_meaning.specs.Scopes.{Scope, Use}
use Rattle.v_meaning.specs.Values.{Meaning, meaning}
use Rattle.v_meaning.specs.Runs.{Run}
use Rattle.v_meaning.specs.Statements as M
use Rattle.v_meaning.specs.Statements.{Doing, Item, Target, target, doing, doing_of, sequence, assignment, conditional, cases, block_with, inside, locals_of, nothing, otherwise, any_item, branch_step, item_step, stmt_step}
use Rattle.v_exec.specs.Choices.{item_of}
use Rattle.v_writes.specs.Writes.{made, items_made}

block-with-made : (later : Bool) (ls : List VLocal) (d : Doing) (sc : Scope) → made later (block_with ls d) sc ≡ made later d (inside ls sc)
unfolding block_with
block-with-made true ls d sc = refl
block-with-made false ls d sc = refl

pub block-made : (later : Bool) (label : Option VLabel) (ss : List VStmt) (sc : Scope) → made later (doing (T.Block label ss)) sc ≡ made later (sequence (map doing ss)) (inside (locals_of label) sc)
block-made later label ss sc = ap (λ (d : Doing). made later d sc) (K.at-block branch_step item_step stmt_step label ss) ∙ block-with-made later (locals_of label) (sequence (map doing ss)) sc

pub sequence-made : (later : Bool) (d : Doing) (ds : List Doing) (sc : Scope) → made later (sequence (d ∷ ds)) sc ≡ made later d sc ++ made later (sequence ds) sc
sequence-made true d ds sc = refl
sequence-made false d ds sc = refl

conditional-made : (later : Bool) (on : Meaning) (d e : Doing) (sc : Scope) → made later (conditional on d e) sc ≡ made later d sc ++ made later e sc
unfolding conditional
conditional-made true on d e sc = refl
conditional-made false on d e sc = refl

pub if-made : (later : Bool) (on : VExpr) (b : VBranch) (sc : Scope) → made later (doing (T.If on b None)) sc ≡ made later (doing_of b) sc ++ made later nothing sc
if-made later on b sc = ap (λ (d : Doing). made later d sc) (K.at-if branch_step item_step stmt_step on b) ∙ conditional-made later (meaning on) (doing_of b) nothing sc

pub else-made : (later : Bool) (on : VExpr) (b x : VBranch) (sc : Scope) → made later (doing (T.If on b (Some x))) sc ≡ made later (doing_of b) sc ++ made later (doing_of x) sc
else-made later on b x sc = ap (λ (d : Doing). made later d sc) (K.at-else branch_step item_step stmt_step on b x) ∙ conditional-made later (meaning on) (doing_of b) (doing_of x) sc

assignment-made : (later own : Bool) (to : Target) (value : Meaning) (sc : Scope) → made later (assignment own to value) sc ≡ made later (record nothing { later = M.later_writes own to; writes = M.now_writes own to }) sc
unfolding assignment
assignment-made true own to value sc = refl
assignment-made false own to value sc = refl

both-made : (later : Bool) (run : Run) (d e : Doing) (sc : Scope) → made later (M.either_of run d e) sc ≡ made later d sc ++ made later e sc
both-made true run d e sc = refl
both-made false run d e sc = refl

items-any : (later : Bool) (run : Run) (is : List Item) (other : Doing) (sc : Scope) → made later (any_item run is other) sc ≡ items_made later is sc ++ made later other sc
items-any true run [] other sc = refl
items-any false run [] other sc = refl
items-any later run (i ∷ is) other sc = by (items-any later run is other sc) i.values
  where
    rest : Doing
    rest = any_item run is other

    by : made later rest sc ≡ items_made later is sc ++ made later other sc → (vs : Option (List Meaning))
        → made later (elim vs as (λ x. Doing) [ None ↦ rest | Some ms ↦ M.either_of run i.body rest ]) sc ≡ ((elim vs [ None ↦ [] | Some ms ↦ made later i.body sc ]) ++ items_made later is sc) ++ made later other sc
    by go None = go
    by go (Some ms) = both-made later run i.body rest sc ∙ ap (λ l. made later i.body sc ++ l) go ∙ sym (append_assoc (made later i.body sc) (items_made later is sc) (made later other sc))

cases-made : (later : Bool) (kind : VCaseKind) (on : Meaning) (is : List Item) (sc : Scope) → made later (cases kind on is) sc ≡ items_made later is sc ++ made later (otherwise is) sc
unfolding cases
cases-made true kind on is sc = items-any true _ is (otherwise is) sc
cases-made false kind on is sc = items-any false _ is (otherwise is) sc

pub case-made : (later : Bool) (kind : VCaseKind) (on : VExpr) (cs : List VCaseItem) (sc : Scope) → made later (doing (T.Case kind on cs)) sc ≡ items_made later (map item_of cs) sc ++ made later (otherwise (map item_of cs)) sc
case-made later kind on cs sc = ap (λ (d : Doing). made later d sc) (K.at-case branch_step item_step stmt_step kind on cs) ∙ cases-made later kind (meaning on) (map item_of cs) sc

none : (later : Bool) (xs : List Use) (sc : Scope) → xs ≡ xs ++ made later nothing sc
none true xs sc = sym (append-nil xs)
none false xs sc = sym (append-nil xs)

pub none-made : (later : Bool) (on : VExpr) (b : VBranch) (sc : Scope) → made later (doing_of b) sc ≡ made later (doing (T.If on b None)) sc
none-made later on b sc = none later (made later (doing_of b) sc) sc ∙ sym (if-made later on b sc)

assigned : (later own : Bool) (to : VLval) (value : VExpr) (sc : Scope) → made later (doing (T.Assign to value own)) sc ≡ made later (record nothing { later = M.later_writes own (target to); writes = M.now_writes own (target to) }) sc
assigned later own to value sc = ap (λ (d : Doing). made later d sc) (K.at-assign branch_step item_step stmt_step to value own) ∙ assignment-made later own (target to) (meaning value) sc

pub assign-made : (later own : Bool) (to : VLval) (value : VExpr) (sc : Scope) → cond own later (not later) ≡ true → (target to).writes sc ≡ made later (doing (T.Assign to value own)) sc
assign-made true true to value sc h = sym (assigned true true to value sc)
assign-made true false to value sc h = absurd (true≢false (sym h))
assign-made false true to value sc h = absurd (true≢false (sym h))
assign-made false false to value sc h = sym (assigned false false to value sc)

pub other-made : (later own : Bool) (to : VLval) (value : VExpr) (sc : Scope) (xs : List Use) → cond own later (not later) ≡ false → xs ≡ xs ++ made later (doing (T.Assign to value own)) sc
other-made true true to value sc xs h = absurd (true≢false h)
other-made true false to value sc xs h = sym (append-nil xs) ∙ ap (λ l. xs ++ l) (sym (assigned true false to value sc))
other-made false true to value sc xs h = sym (append-nil xs) ∙ ap (λ l. xs ++ l) (sym (assigned false true to value sc))
other-made false false to value sc xs h = absurd (true≢false h)

pub otherwise-here : (b : VBranch) (cs : List VCaseItem) → otherwise (map item_of (C.Default b ∷ cs)) ≡ doing_of b
otherwise-here b cs = ap (λ (i : Item). elim i.values [ None ↦ i.body | Some ms ↦ otherwise (map item_of cs) ]) (K.at-default branch_step item_step stmt_step b)

pub otherwise-later : (values : List VExpr) (b : VBranch) (cs : List VCaseItem) → otherwise (map item_of (C.Item values b ∷ cs)) ≡ otherwise (map item_of cs)
otherwise-later values b cs = ap (λ (i : Item). elim i.values [ None ↦ i.body | Some ms ↦ otherwise (map item_of cs) ]) (K.at-item branch_step item_step stmt_step values b)
