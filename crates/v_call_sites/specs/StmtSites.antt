-- The calls of functions in targets and statements, with their tokens, where names stand for these things.
use Rattle.std.specs.Prelude.{ℕ, suc, ◌+◌, List, [], ◌∷◌, ◌++◌, map, Option, Some, None}
use Rattle.v_tree.specs.Scopes.{Scope, inside}
use Rattle.v_tree.specs.ExprRules.{rules_of, listed_size}
use Rattle.v_tree.specs.StmtRules.{StmtRules, ItemRules, target_of, branch_rules, item_rules, stmt_rules, locals_from, locals_size, blocks_in}
use Rattle.v_tree.specs.declared.statements.VBranch.{VBranch, VBranch-F, fold-VBranch}
use Rattle.v_tree.specs.declared.statements.VCaseItem.{VCaseItem, VCaseItem-F, fold-VCaseItem}
use Rattle.v_tree.specs.declared.statements.VLabel.{VLabel}
use Rattle.v_tree.specs.declared.statements.VLval.{VLval, VLval-F, fold-VLval}
use Rattle.v_tree.specs.declared.statements.VStmt.{VStmt, VStmt-F, fold-VStmt}
use Rattle.v_call_sites.specs.Sites.{Site, Sites, listed_sites, calls_from, sels_sites, calls_along, sites_of, sel_sites_of}

abbrev pub lval_sites : VLval-F Sites → Sites
lval_sites (VLval-F.Name name sels) = record { size = suc (sels_sites (map sel_sites_of sels)); calls = λ scope at. calls_along (map sel_sites_of sels) scope (suc at) }
lval_sites (VLval-F.Concat parts) = record { size = 2 + listed_sites parts; calls = λ scope at. calls_from parts scope (suc at) }

abbrev pub target_sites : VLval → Sites
target_sites = fold-VLval Sites lval_sites

-- a statement with its calls, and an item of a `case` with those of its values and of its statement
pub record StmtSites : Type 0 where
  pub rules : StmtRules
  pub calls : Scope → ℕ → List Site

pub record ItemSites : Type 0 where
  pub rules : ItemRules
  pub values : Scope → ℕ → List Site
  pub calls : Scope → ℕ → List Site

abbrev pub stmts_of : List StmtSites → List StmtRules
stmts_of ss = map (λ (s : StmtSites). s.rules) ss

abbrev pub items_of : List ItemSites → List ItemRules
items_of is = map (λ (i : ItemSites). i.rules) is

-- statements one behind the other
abbrev pub stmts_calls : List StmtSites → Scope → ℕ → List Site
stmts_calls [] scope at = []
stmts_calls (s ∷ ss) scope at = s.calls scope at ++ stmts_calls ss scope (at + s.rules.size)

-- all values of a `case`, and then all its statements
abbrev pub values_calls : List ItemSites → Scope → ℕ → List Site
values_calls [] scope at = []
values_calls (i ∷ is) scope at = i.values scope at ++ values_calls is scope (at + i.rules.stmt.size)

abbrev pub bodies_calls : List ItemSites → Scope → ℕ → List Site
bodies_calls [] scope at = []
bodies_calls (i ∷ is) scope at = i.calls scope at ++ bodies_calls is scope (at + i.rules.stmt.size)

abbrev pub branch_sites : VBranch-F StmtSites ItemSites StmtSites → StmtSites
branch_sites (VBranch-F.Statement s) = s
branch_sites VBranch-F.Empty = record { rules = branch_rules VBranch-F.Empty; calls = λ scope at. [] }

abbrev pub item_sites : VCaseItem-F StmtSites ItemSites StmtSites → ItemSites
item_sites (VCaseItem-F.Item values body) = record {
  rules = item_rules (VCaseItem-F.Item values body.rules);
  values = λ scope at. calls_from (map sites_of values) scope at;
  calls = λ scope at. body.calls scope (at + suc (listed_size (map rules_of values)));
}
item_sites (VCaseItem-F.Default body) = record {
  rules = item_rules (VCaseItem-F.Default body.rules);
  values = λ scope at. [];
  calls = λ scope at. body.calls scope (at + 2);
}

abbrev pub else_of : Option StmtSites → Option StmtRules
else_of None = None
else_of (Some s) = Some s.rules

abbrev pub else_calls : Option StmtSites → Scope → ℕ → List Site
else_calls None scope at = []
else_calls (Some s) scope at = s.calls scope (suc at)

abbrev pub block_calls : Option VLabel → List StmtSites → Scope → ℕ → List Site
block_calls None ss scope at = stmts_calls ss scope (suc at)
block_calls (Some l) ss scope at =
    let first = at + (3 + locals_size l.locals) in
    stmts_calls ss (inside (locals_from l.locals (at + 3) ++ blocks_in (stmts_of ss) first) scope) first

abbrev pub stmt_sites : VStmt-F StmtSites ItemSites StmtSites → StmtSites
stmt_sites (VStmt-F.Block label ss) = record { rules = stmt_rules (VStmt-F.Block label (stmts_of ss)); calls = block_calls label ss }
stmt_sites (VStmt-F.If on taken other) =
    let size = (rules_of on).size in
    record {
      rules = stmt_rules (VStmt-F.If on taken.rules (else_of other));
      calls = λ scope at.
          (sites_of on).calls scope (at + 2)
          ++ (taken.calls scope (at + (3 + size)) ++ else_calls other scope (at + (3 + (size + taken.rules.size))));
    }
stmt_sites (VStmt-F.Case kind on items) =
    let size = (rules_of on).size in
    record {
      rules = stmt_rules (VStmt-F.Case kind on (items_of items));
      calls = λ scope at.
          (sites_of on).calls scope (at + 2)
          ++ (values_calls items scope (at + (3 + size)) ++ bodies_calls items scope (at + (3 + size)));
    }
stmt_sites (VStmt-F.Assign target right later) = record {
  rules = stmt_rules (VStmt-F.Assign target right later);
  calls = λ scope at. (target_sites target).calls scope at ++ (sites_of right).calls scope (at + suc (target_of target).size);
}

abbrev pub stmt_sites_of : VStmt → StmtSites
stmt_sites_of = fold-VStmt StmtSites ItemSites StmtSites branch_sites item_sites stmt_sites

abbrev pub branch_sites_of : VBranch → StmtSites
branch_sites_of = fold-VBranch StmtSites ItemSites StmtSites branch_sites item_sites stmt_sites

abbrev pub case_sites_of : VCaseItem → ItemSites
case_sites_of = fold-VCaseItem StmtSites ItemSites StmtSites branch_sites item_sites stmt_sites
