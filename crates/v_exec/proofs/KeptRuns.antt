-- A statement that breaks no rule of the grammar does no arithmetic on over 128 bits.
use Rattle.std.proofs.Common.{◌≡◌, ℕ, suc, ◌+◌, ◌≤◌, max, Bool, true, false, ◌&&◌, cond, List, [], ◌∷◌, ◌++◌, map, Option, Some, None, refl, arith, ap, sym, ◌∙◌, subst}
use Rattle.std.specs.Prelude.{if◌then◌else◌}
use Rattle.std.specs.Str.{bytes_eq}
use Rattle.v_tree.specs.Names.{Name}
use Rattle.std.specs.List.{list_all}
use Rattle.v_tree.specs.Scopes as D
use Rattle.v_tree.specs.Scopes.{local, Thing, value, part, Declared, bits_of, has_range, repeated}
use Rattle.v_tree.specs.ExprRules.{Around, Rules, only_if, alone, listed_size, rules_of}
use Rattle.v_tree.specs.StmtRules as Q
use Rattle.v_tree.specs.StmtRules.{target_of, Procedure, mark_breaks, StmtRules, ItemRules, locals_from, locals_size, blocks_in, stmts_broken, branch_rules, values_at, widest, widest_item, item_rules, bodies, item_values, else_rules, block_rules, stmt_rules, rules_of_stmt, rules_of_branch}
use Rattle.v_tree.specs.declared.expressions.VExpr.{VExpr}
use Rattle.v_tree.specs.declared.items.VLocal.{VLocal}
use Rattle.v_tree.specs.declared.statements.VBranch.{VBranch, VBranch-F}
use Rattle.v_tree.specs.declared.statements.VBranch.TheVariants as G
use Rattle.v_tree.specs.declared.statements.VCaseItem.{VCaseItem, VCaseItem-F, fold-VCaseItem}
use Rattle.v_tree.specs.declared.statements.VCaseItem.TheVariants as C
use Rattle.v_tree.specs.declared.statements.VCaseKind.{VCaseKind}
use Rattle.v_tree.specs.declared.statements.VLabel.{VLabel}
use Rattle.v_tree.specs.declared.statements.VLval.{VLval}
use Rattle.v_tree.specs.declared.statements.VStmt.{VStmt, VStmt-F}
use Rattle.v_tree.specs.declared.statements.VStmt.TheVariants as T
use Rattle.v_tree.proofs.Induction as I
use Rattle.v_tree.proofs.Induction.{Each, Perhaps}
use Rattle.v_meaning.specs.Scopes as M
use Rattle.v_meaning.specs.Statements.{target, declared, inside}
use Rattle.v_eval.specs.Limits.{Limits, limits, most_alone, most_given}
use Rattle.v_exec.specs.Agreeing.{ThingAgrees, Agrees}
use Rattle.v_exec.specs.Limits.{ItemLimits, branch_limits, item_limits, stmt_limits, stmt_most, branch_most, limits_of_item, widest_of, most_at, most_compared, most_in_turn, values_in, bodies_in}
use Rattle.v_exec.proofs.Choosing.{widest-both, most-both}
use Rattle.v_exec.proofs.Forms as F
use Rattle.v_selects.specs.Few.{few_of_expr, few_of_lval, few_of_stmt, few_of_branch, few_of_case_item}
use Rattle.v_selects.proofs.Levels as Few
use Rattle.v_exec.proofs.KeptExprs.{AllKept, left-none, right-none, both-yes}
use Rattle.v_exec.proofs.KeptStmts.{three-yes, expr-kept, target-kept}

-- names of blocks
abbrev pub AllParts : List Declared → Type 0
AllParts [] = Unit {0}
AllParts (d ∷ ds) = (d.thing ≡ part) × AllParts ds

parts-both : (xs ys : List Declared) → AllParts xs → AllParts ys → AllParts (xs ++ ys)
parts-both [] ys h g = g
parts-both (x ∷ xs) ys h g = (h.0, parts-both xs ys h.1 g)

abbrev pub BlocksAre : StmtRules → Type 0
BlocksAre r = (at : ℕ) → AllParts (r.blocks at)

abbrev pub AllBlocks : List StmtRules → Type 0
AllBlocks [] = Unit {0}
AllBlocks (r ∷ rs) = BlocksAre r × AllBlocks rs

blocks-in : (rs : List StmtRules) (at : ℕ) → AllBlocks rs → AllParts (blocks_in rs at)
blocks-in [] at h = tt
blocks-in (r ∷ rs) at h = parts-both (r.blocks at) (blocks_in rs (at + r.size)) (h.0 at) (blocks-in rs (at + r.size) h.1)

-- what names stand for in a block
pub agrees-if : (b : Bool) (t u : Option Thing) (n m : M.Named) (c : M.Callee) → ThingAgrees t n c → ThingAgrees u m c → ThingAgrees (if b then t else u) (cond b n m) c
agrees-if true t u n m c h g = h
agrees-if false t u n m c h g = g

pub part-agrees : (t : Thing) (n : M.Named) (c : M.Callee) → t ≡ part → ThingAgrees (Some t) n c
part-agrees t n c is = subst (λ x. ThingAgrees (Some x) n c) (sym is) tt

pub parts-agree : (ds : List Declared) (outer : D.Scope) (name : Name) (n : M.Named) (c : M.Callee) → AllParts ds → ThingAgrees (outer name) n c → ThingAgrees (D.inside ds outer name) n c
parts-agree [] outer name n c h g = g
parts-agree (d ∷ ds) outer name n c h g = by (bytes_eq d.name name)
    (parts-agree ds outer name n c h.1 g)
  where
    by : (b : Bool) → ThingAgrees (D.inside ds outer name) n c → ThingAgrees (if b then Some d.thing else D.inside ds outer name) n c
    by true rest = part-agrees d.thing n c h.0
    by false rest = rest

pub range-bits : (r : Option ℕ) → M.bits_of_range r ≡ bits_of r
range-bits None = refl
range-bits (Some left) = refl

pub locals-agree : (ls : List VLocal) (at n : ℕ) (ds : List Declared) (outer : D.Scope) (names : List M.Named) (name : Name) (c : M.Callee) → ThingAgrees (D.inside ds outer name) (M.named names name) c
    → ThingAgrees (D.inside (locals_from ls at ++ ds) outer name) (M.named (declared n ls ++ names) name) c
locals-agree [] at n ds outer names name c h = h
locals-agree (l ∷ ls) at n ds outer names name c h =
    agrees-if (bytes_eq l.name name) (Some (value local (bits_of l.range) (has_range l.range))) (D.inside (locals_from ls (at + Q.local_size l) ++ ds) outer name)
    (record { name = l.name; number = M.local_number n; width = M.bits_of_range l.range; words = None }) (M.named (declared (suc n) ls ++ names) name) c (range-bits l.range, refl)
    (locals-agree ls (at + Q.local_size l) (suc n) ds outer names name c h)

block-agrees : (ls : List VLocal) (at : ℕ) (ds : List Declared) (around : Around) (sc : M.Scope) → AllParts ds → Agrees around sc → Agrees (record around { scope = D.inside (locals_from ls at ++ ds) around.scope }) (inside ls sc)
block-agrees ls at ds around sc parts agree name =
    locals-agree ls at sc.next ds around.scope sc.names name (sc.callee name) (parts-agree ds around.scope name (M.named sc.names name) (sc.callee name) parts (agree name))

-- statements
abbrev pub StmtKept : StmtRules → (M.Scope → ℕ) → Type 0
StmtKept r m = (around : Around) (sc : M.Scope) (p : Procedure) (at : ℕ) → Agrees around sc → r.broken p around at ≡ [] → m sc ≤ 128

abbrev pub AllStmts : List StmtRules → List (M.Scope → ℕ) → Type 0
AllStmts [] [] = Unit {0}
AllStmts [] (m ∷ ms) = ⊥
AllStmts (r ∷ rs) [] = ⊥
AllStmts (r ∷ rs) (m ∷ ms) = StmtKept r m × AllStmts rs ms

stmts-kept : (rs : List StmtRules) (ms : List (M.Scope → ℕ)) (around : Around) (sc : M.Scope) (p : Procedure) (at : ℕ) → AllStmts rs ms → Agrees around sc → stmts_broken rs p around at ≡ [] → most_in_turn ms sc ≤ 128
stmts-kept [] [] around sc p at h agree none = omega arith
stmts-kept [] (m ∷ ms) around sc p at h agree none = absurd h
stmts-kept (r ∷ rs) [] around sc p at h agree none = absurd h
stmts-kept (r ∷ rs) (m ∷ ms) around sc p at h agree none =
    let a = h.0 around sc p at agree (left-none (r.broken p around at) (stmts_broken rs p around (at + r.size)) none) in
    let b = stmts-kept rs ms around sc p (at + r.size) h.1 agree (right-none (r.broken p around at) (stmts_broken rs p around (at + r.size)) none) in
    omega (arith, a, b)

block-kept : (label : Option VLabel) (rs : List StmtRules) (ms : List (M.Scope → ℕ)) → AllBlocks rs → AllStmts rs ms → StmtKept (block_rules label rs) (stmt_limits (VStmt-F.Block label ms))
block-kept None rs ms parts h around sc p at agree none = stmts-kept rs ms around (inside [] sc) p (suc at) h agree none
block-kept (Some l) rs ms parts h around sc p at agree none =
    let first = at + (3 + locals_size l.locals) in
    let own = locals_from l.locals (at + 3) ++ blocks_in rs first in
    let outer : Around = record around { scope = D.inside own around.scope } in
    stmts-kept rs ms outer (inside l.locals sc) p first h (block-agrees l.locals (at + 3) (blocks_in rs first) around sc (blocks-in rs first parts) agree) (right-none (repeated [] own) (stmts_broken rs p outer first) none)

expr-alone : (around : Around) (sc : M.Scope) (x : VExpr) (at : ℕ) → Agrees around sc → few_of_expr x ≡ true → alone (rules_of x) around at ≡ [] → most_alone (limits x) sc ≤ 128
expr-alone around sc x at agree fits none =
    let k = expr-kept around sc agree x fits ((rules_of x).width around) at none in
    subst (λ n. (limits x).most n sc ≤ 128) (sym k.0) k.1

if-kept : (on : VExpr) (r : StmtRules) (m : M.Scope → ℕ) → few_of_expr on ≡ true → StmtKept r m → StmtKept (stmt_rules (VStmt-F.If on r None)) (stmt_limits (VStmt-F.If on m None))
if-kept on r m fits h around sc p at agree none =
    let test = rules_of on in
    let first = alone test around (at + 2) in
    let second = r.broken p around (at + (3 + test.size)) in
    let rest = second ++ [] in
    let a = expr-alone around sc on (at + 2) agree fits (left-none first rest none) in
    let b = h around sc p (at + (3 + test.size)) agree (left-none second [] (right-none first rest none)) in
    omega (arith, a, b)

else-kept : (on : VExpr) (r s : StmtRules) (m k : M.Scope → ℕ) → few_of_expr on ≡ true → StmtKept r m → StmtKept s k → StmtKept (stmt_rules (VStmt-F.If on r (Some s))) (stmt_limits (VStmt-F.If on m (Some k)))
else-kept on r s m k fits h g around sc p at agree none =
    let test = rules_of on in
    let first = alone test around (at + 2) in
    let second = r.broken p around (at + (3 + test.size)) in
    let third = s.broken p around (suc (at + (3 + (test.size + r.size)))) in
    let rest = right-none first (second ++ third) none in
    let a = expr-alone around sc on (at + 2) agree fits (left-none first (second ++ third) none) in
    let b = h around sc p (at + (3 + test.size)) agree (left-none second third rest) in
    let c = g around sc p (suc (at + (3 + (test.size + r.size)))) agree (right-none second third rest) in
    omega (arith, a, b, c)

-- `case`
abbrev pub ValuesKept : List Rules → List Limits → Type 0
ValuesKept rs ls = (around : Around) (sc : M.Scope) → Agrees around sc → AllKept around sc rs ls

abbrev pub ItemKept : ItemRules → ItemLimits → Type 0
ItemKept r l = StmtKept r.stmt l.body × ValuesKept r.values l.values

abbrev pub AllItems : List ItemRules → List ItemLimits → Type 0
AllItems [] [] = Unit {0}
AllItems [] (l ∷ ls) = ⊥
AllItems (r ∷ rs) [] = ⊥
AllItems (r ∷ rs) (l ∷ ls) = ItemKept r l × AllItems rs ls

values-kept : (around : Around) (sc : M.Scope) (w : ℕ) (rs : List Rules) (ls : List Limits) (at : ℕ) → AllKept around sc rs ls → values_at w rs around at ≡ [] → (widest_of ls sc ≡ widest rs around) × (most_at w ls sc ≤ 128)
values-kept around sc w [] [] at h none = (refl, omega arith)
values-kept around sc w [] (l ∷ ls) at h none = absurd h
values-kept around sc w (r ∷ rs) [] at h none = absurd h
values-kept around sc w (r ∷ rs) (l ∷ ls) at h none =
    let first = r.broken around w at in
    let rest = values_at w rs around (at + suc r.size) in
    let a = h.0 w at (left-none first rest none) in
    let b = values-kept around sc w rs ls (at + suc r.size) h.1 (right-none first rest none) in
    (let x = a.0 in let y = b.0 in omega (arith, x, y), let x = a.1 in let y = b.1 in omega (arith, x, y))

items-kept : (around : Around) (sc : M.Scope) (w : ℕ) (rs : List ItemRules) (ls : List ItemLimits) (at : ℕ) → Agrees around sc → AllItems rs ls → item_values w rs around at ≡ []
    → (widest_of (values_in ls) sc ≡ widest_item rs around) × (most_at w (values_in ls) sc ≤ 128)
items-kept around sc w [] [] at agree h none = (refl, omega arith)
items-kept around sc w [] (l ∷ ls) at agree h none = absurd h
items-kept around sc w (r ∷ rs) [] at agree h none = absurd h
items-kept around sc w (r ∷ rs) (l ∷ ls) at agree h none =
    let first = values_at w r.values around at in
    let rest = item_values w rs around (at + r.stmt.size) in
    let a = values-kept around sc w r.values l.values at (h.0.1 around sc agree) (left-none first rest none) in
    let b = items-kept around sc w rs ls (at + r.stmt.size) agree h.1 (right-none first rest none) in
    let wide = widest-both l.values (values_in ls) sc in
    let most = most-both w l.values (values_in ls) sc in
    (let x = a.0 in let y = b.0 in omega (arith, wide, x, y), let x = a.1 in let y = b.1 in omega (arith, most, x, y))

bodies-kept : (rs : List ItemRules) (ls : List ItemLimits) → AllItems rs ls → AllStmts (bodies rs) (bodies_in ls)
bodies-kept [] [] h = tt
bodies-kept [] (l ∷ ls) h = absurd h
bodies-kept (r ∷ rs) [] h = absurd h
bodies-kept (r ∷ rs) (l ∷ ls) h = (h.0.0, bodies-kept rs ls h.1)

case-kept : (kind : VCaseKind) (on : VExpr) (rs : List ItemRules) (ls : List ItemLimits) → few_of_expr on ≡ true → AllItems rs ls → StmtKept (stmt_rules (VStmt-F.Case kind on rs)) (stmt_limits (VStmt-F.Case kind on ls))
case-kept kind on rs ls fits h around sc p at agree none =
    let test = rules_of on in
    let w = max (test.width around) (widest_item rs around) in
    let first = test.broken around w (at + 2) in
    let second = item_values w rs around (at + (3 + test.size)) in
    let third = stmts_broken (bodies rs) p around (at + (3 + test.size)) in
    let rest = right-none first (second ++ third) none in
    let a = expr-kept around sc agree on fits w (at + 2) (left-none first (second ++ third) none) in
    let b = items-kept around sc w rs ls (at + (3 + test.size)) agree h (left-none second third rest) in
    let c = stmts-kept (bodies rs) (bodies_in ls) around sc p (at + (3 + test.size)) (bodies-kept rs ls h) agree (right-none second third rest) in
    let wide : widest_of (limits on ∷ values_in ls) sc ≡ w = ap (λ n. max n (widest_of (values_in ls) sc)) a.0 ∙ ap (max (test.width around)) b.0 in
    let most : most_at w (limits on ∷ values_in ls) sc ≤ 128 = (let x = a.1 in let y = b.1 in omega (arith, x, y)) in
    let compared : most_compared (limits on ∷ values_in ls) sc ≤ 128 = subst (λ n. most_at n (limits on ∷ values_in ls) sc ≤ 128) (sym wide) most in
    omega (arith, compared, c)

-- assignments
assign-kept : (to : VLval) (x : VExpr) (later : Bool) → few_of_lval to ≡ true → few_of_expr x ≡ true → StmtKept (stmt_rules (VStmt-F.Assign to x later)) (stmt_limits (VStmt-F.Assign to x later))
assign-kept to x later fits good around sc p at agree none =
    let t = target_of to in
    let r = rules_of x in
    let first = t.broken around at in
    let second = t.by_procedure around at in
    let third = only_if (mark_breaks p later (t.has_signal around)) (at + t.size) in
    let fourth = r.broken around (max (t.width around) (r.width around)) (at + suc t.size) in
    let behind = right-none first (second ++ (third ++ fourth)) none in
    let last = right-none third fourth (right-none second (third ++ fourth) behind) in
    let a = target-kept around sc agree to fits at (left-none first (second ++ (third ++ fourth)) none) in
    let b = expr-kept around sc agree x good (max (t.width around) (r.width around)) (at + suc t.size) last in
    let same : max ((target to).width sc) ((limits x).wide sc) ≡ max (t.width around) (r.width around) = ap (λ n. max n ((limits x).wide sc)) a.0 ∙ ap (max (t.width around)) b.0 in
    let given : most_given ((target to).width sc) (limits x) sc ≤ 128 = subst (λ n. (limits x).most n sc ≤ 128) (sym same) b.1 in
    let indices = a.1 in
    omega (arith, indices, given)

-- all forms
abbrev pub item_rules_of : VCaseItem → ItemRules
item_rules_of = fold-VCaseItem StmtRules ItemRules StmtRules branch_rules item_rules stmt_rules

abbrev pub BranchGood : VBranch → Type 0
BranchGood b = BlocksAre (rules_of_branch b) × (few_of_branch b ≡ true → StmtKept (rules_of_branch b) (branch_most b))

abbrev pub ItemGood : VCaseItem → Type 0
ItemGood i = BlocksAre (item_rules_of i).stmt × (few_of_case_item i ≡ true → ItemKept (item_rules_of i) (limits_of_item i))

abbrev pub StmtGood : VStmt → Type 0
StmtGood s = BlocksAre (rules_of_stmt s) × (few_of_stmt s ≡ true → StmtKept (rules_of_stmt s) (stmt_most s))

good-as : (r q : StmtRules) (m k : M.Scope → ℕ) (f g : Bool) → r ≡ q → m ≡ k → f ≡ g → BlocksAre q × (g ≡ true → StmtKept q k) → BlocksAre r × (f ≡ true → StmtKept r m)
good-as r q m k f g e d c h =
    (subst BlocksAre (sym e) h.0, λ fits. subst (λ x. StmtKept x m) (sym e) (subst (StmtKept q) (sym d) (h.1 (sym c ∙ fits))))

item-as : (r q : ItemRules) (m k : ItemLimits) (f g : Bool) → r ≡ q → m ≡ k → f ≡ g → BlocksAre q.stmt × (g ≡ true → ItemKept q k) → BlocksAre r.stmt × (f ≡ true → ItemKept r m)
item-as r q m k f g e d c h =
    (subst (λ (x : ItemRules). BlocksAre x.stmt) (sym e) h.0, λ fits. subst (λ x. ItemKept x m) (sym e) (subst (ItemKept q) (sym d) (h.1 (sym c ∙ fits))))

values-good : (xs : List VExpr) → list_all few_of_expr xs ≡ true → ValuesKept (map rules_of xs) (map limits xs)
values-good [] f around sc agree = tt
values-good (x ∷ xs) f around sc agree =
    let b = both-yes (few_of_expr x) (list_all few_of_expr xs) f in
    (expr-kept around sc agree x b.0, values-good xs b.1 around sc agree)

all-blocks : (ss : List VStmt) → Each StmtGood ss → AllBlocks (map rules_of_stmt ss)
all-blocks [] h = tt
all-blocks (s ∷ ss) h = (h.0.0, all-blocks ss h.1)

all-stmts : (ss : List VStmt) → Each StmtGood ss → list_all few_of_stmt ss ≡ true → AllStmts (map rules_of_stmt ss) (map stmt_most ss)
all-stmts [] h f = tt
all-stmts (s ∷ ss) h f = let b = both-yes (few_of_stmt s) (list_all few_of_stmt ss) f in (h.0.1 b.0, all-stmts ss h.1 b.1)

item-blocks : (is : List VCaseItem) → Each ItemGood is → AllBlocks (bodies (map item_rules_of is))
item-blocks [] h = tt
item-blocks (i ∷ is) h = (h.0.0, item-blocks is h.1)

all-items : (is : List VCaseItem) → Each ItemGood is → list_all few_of_case_item is ≡ true → AllItems (map item_rules_of is) (map limits_of_item is)
all-items [] h f = tt
all-items (i ∷ is) h f = let b = both-yes (few_of_case_item i) (list_all few_of_case_item is) f in (h.0.1 b.0, all-items is h.1 b.1)

block-parts : (label : Option VLabel) (rs : List StmtRules) → AllBlocks rs → BlocksAre (block_rules label rs)
block-parts None rs h at = blocks-in rs (suc at) h
block-parts (Some l) rs h at = (refl, tt)

if-good : (on : VExpr) (b : VBranch) (o : Option VBranch) → BranchGood b → Perhaps BranchGood o → StmtGood (T.If on b o)
if-good on b None h g =
    good-as (rules_of_stmt (T.If on b None)) (stmt_rules (VStmt-F.If on (rules_of_branch b) None)) (stmt_most (T.If on b None)) (stmt_limits (VStmt-F.If on (branch_most b) None)) (few_of_stmt (T.If on b None))
    (few_of_expr on && few_of_branch b && true) (F.at-if branch_rules item_rules stmt_rules on b) (F.at-if branch_limits item_limits stmt_limits on b) (Few.at-if on b None) (
      (λ at. parts-both ((rules_of_branch b).blocks (at + (3 + (rules_of on).size))) [] (h.0 (at + (3 + (rules_of on).size))) tt),
      λ f. (let x = three-yes (few_of_expr on) (few_of_branch b) true f in if-kept on (rules_of_branch b) (branch_most b) x.0 (h.1 x.1.0)),
    )
if-good on b (Some c) h g =
    good-as (rules_of_stmt (T.If on b (Some c))) (stmt_rules (VStmt-F.If on (rules_of_branch b) (Some (rules_of_branch c)))) (stmt_most (T.If on b (Some c))) (stmt_limits (VStmt-F.If on (branch_most b) (Some (branch_most c))))
    (few_of_stmt (T.If on b (Some c))) (few_of_expr on && few_of_branch b && few_of_branch c) (F.at-else branch_rules item_rules stmt_rules on b c) (F.at-else branch_limits item_limits stmt_limits on b c)
    (Few.at-if on b (Some c)) (
      (λ at. parts-both ((rules_of_branch b).blocks (at + (3 + (rules_of on).size))) ((rules_of_branch c).blocks (suc (at + (3 + ((rules_of on).size + (rules_of_branch b).size))))) (h.0 (at + (3 + (rules_of on).size)))
          (g.0 (suc (at + (3 + ((rules_of on).size + (rules_of_branch b).size)))))),
      λ f.
          (
          let x = three-yes (few_of_expr on) (few_of_branch b) (few_of_branch c) f in
          else-kept on (rules_of_branch b) (rules_of_branch c) (branch_most b) (branch_most c) x.0 (h.1 x.1.0) (g.1 x.1.1)
          ),
    )

stmt-steps : I.StmtSteps BranchGood ItemGood StmtGood
stmt-steps = record {
  branch-statement = λ s h. good-as (rules_of_branch (G.Statement s)) (rules_of_stmt s) (branch_most (G.Statement s)) (stmt_most s) (few_of_branch (G.Statement s)) (few_of_stmt s) (F.at-statement branch_rules item_rules stmt_rules s)
      (F.at-statement branch_limits item_limits stmt_limits s) (Few.at-statement s) h;
  branch-empty = good-as (rules_of_branch G.Empty) (branch_rules VBranch-F.Empty) (branch_most G.Empty) (λ sc. 0) (few_of_branch G.Empty) true (F.at-empty branch_rules item_rules stmt_rules)
      (F.at-empty branch_limits item_limits stmt_limits) Few.at-empty ((λ at. tt), λ f around sc p at agree none. omega arith);
  case-item = λ vs b h. item-as (item_rules_of (C.Item vs b)) (item_rules (VCaseItem-F.Item vs (rules_of_branch b))) (limits_of_item (C.Item vs b)) (item_limits (VCaseItem-F.Item vs (branch_most b))) (few_of_case_item (C.Item vs b))
      (list_all few_of_expr vs && few_of_branch b) (F.at-item branch_rules item_rules stmt_rules vs b) (F.at-item branch_limits item_limits stmt_limits vs b) (Few.at-item vs b) (
        (λ at. h.0 (at + suc (listed_size (map rules_of vs)))),
        λ f.
            (
            let x = both-yes (list_all few_of_expr vs) (few_of_branch b) f in
            ((λ around sc p at agree none. h.1 x.1 around sc p (at + suc (listed_size (map rules_of vs))) agree none), values-good vs x.0)
            ),
      );
  case-default = λ b h. item-as (item_rules_of (C.Default b)) (item_rules (VCaseItem-F.Default (rules_of_branch b))) (limits_of_item (C.Default b)) (item_limits (VCaseItem-F.Default (branch_most b))) (few_of_case_item (C.Default b))
      (few_of_branch b) (F.at-default branch_rules item_rules stmt_rules b) (F.at-default branch_limits item_limits stmt_limits b) (Few.at-default b)
      ((λ at. h.0 (at + 2)), λ f. ((λ around sc p at agree none. h.1 f around sc p (at + 2) agree none), λ around sc agree. tt));
  stmt-block = λ label ss h. good-as (rules_of_stmt (T.Block label ss)) (block_rules label (map rules_of_stmt ss)) (stmt_most (T.Block label ss)) (stmt_limits (VStmt-F.Block label (map stmt_most ss))) (few_of_stmt (T.Block label ss))
      (list_all few_of_stmt ss) (F.at-block branch_rules item_rules stmt_rules label ss) (F.at-block branch_limits item_limits stmt_limits label ss) (Few.at-block label ss) (
        block-parts label (map rules_of_stmt ss) (all-blocks ss h),
        λ f. block-kept label (map rules_of_stmt ss) (map stmt_most ss) (all-blocks ss h) (all-stmts ss h f),
      );
  stmt-if = λ on b o h g. if-good on b o h g;
  stmt-case = λ kind on is h. good-as (rules_of_stmt (T.Case kind on is)) (stmt_rules (VStmt-F.Case kind on (map item_rules_of is))) (stmt_most (T.Case kind on is)) (stmt_limits (VStmt-F.Case kind on (map limits_of_item is)))
      (few_of_stmt (T.Case kind on is)) (few_of_expr on && list_all few_of_case_item is) (F.at-case branch_rules item_rules stmt_rules kind on is) (F.at-case branch_limits item_limits stmt_limits kind on is)
      (Few.at-case kind on is) (
        (λ at. blocks-in (bodies (map item_rules_of is)) (at + (3 + (rules_of on).size)) (item-blocks is h)),
        λ f.
            (
            let x = both-yes (few_of_expr on) (list_all few_of_case_item is) f in
            case-kept kind on (map item_rules_of is) (map limits_of_item is) x.0 (all-items is h x.1)
            ),
      );
  stmt-assign = λ to x later. good-as (rules_of_stmt (T.Assign to x later)) (stmt_rules (VStmt-F.Assign to x later)) (stmt_most (T.Assign to x later)) (stmt_limits (VStmt-F.Assign to x later)) (few_of_stmt (T.Assign to x later))
      (few_of_lval to && few_of_expr x) (F.at-assign branch_rules item_rules stmt_rules to x later) (F.at-assign branch_limits item_limits stmt_limits to x later) (Few.at-store to x later)
      ((λ at. tt), λ f. (let y = both-yes (few_of_lval to) (few_of_expr x) f in assign-kept to x later y.0 y.1));
}

pub branch-good : (b : VBranch) → BranchGood b
branch-good = I.ind-branch BranchGood ItemGood StmtGood stmt-steps

pub stmt-good : (s : VStmt) → StmtGood s
stmt-good = I.ind-stmt BranchGood ItemGood StmtGood stmt-steps
