-- The rules that targets and statements keep, as the tokens at which they break one.
use Rattle.std.specs.Prelude.{ℕ, suc, ◌+◌, max, Bool, true, false, not, ◌&&◌, List, [], ◌∷◌, ◌++◌, map, flat_map, Option, Some, None, if◌then◌else◌}
use Rattle.v_tree.specs.Names.{Name}
use Rattle.v_tree.specs.Scopes.{input, net, variable, local, Thing, value, memory, function, result, part, Declared, inside, repeated, bits_of, has_range, named_bits}
use Rattle.v_tree.specs.ExprRules.{Around, Rules, rules_of, alone, only_if, total, listed_size, each_from, sel_rules_of, sels_size, selected_of, sels_broken, name_broken, moving, is_net, calls_in, calls_in_sels}
use Rattle.v_tree.specs.declared.items.VLocal.{VLocal}
use Rattle.v_tree.specs.declared.statements.VBranch.{VBranch, VBranch-F, fold-VBranch}
use Rattle.v_tree.specs.declared.statements.VCaseItem.{VCaseItem-F}
use Rattle.v_tree.specs.declared.statements.VLabel.{VLabel}
use Rattle.v_tree.specs.declared.statements.VLval.{VLval, VLval-F, fold-VLval}
use Rattle.v_tree.specs.declared.statements.VStmt.{VStmt, VStmt-F, fold-VStmt}

-- What a target is: its number of tokens, its width, the tokens that break a rule on what it names and selects, those that
-- break one where a procedure or a continuous assignment writes it, and whether a part of it is no variable of a function or block.
pub record Target : Type 0 where
  pub size : ℕ
  pub width : Around → ℕ
  pub broken : Around → ℕ → List ℕ
  pub by_procedure : Around → ℕ → List ℕ
  pub by_assign : Around → ℕ → List ℕ
  pub has_signal : Around → Bool
  -- the functions that it calls
  pub calls : Around → List Name

-- a procedure writes variables (clause 9.2)
abbrev pub is_written : Option Thing → Bool
is_written (Some (value input width ranged)) = false
is_written (Some (value net width ranged)) = false
is_written (Some (value variable width ranged)) = true
is_written (Some (value local width ranged)) = true
is_written (Some (memory width ranged)) = true
is_written (Some (function width inputs)) = true
is_written (Some (result width ranged inputs)) = true
is_written (Some part) = true
is_written None = true

-- a variable of a function or block, or a function's result
abbrev pub is_local : Option Thing → Bool
is_local (Some (value input width ranged)) = false
is_local (Some (value net width ranged)) = false
is_local (Some (value variable width ranged)) = false
is_local (Some (value local width ranged)) = true
is_local (Some (memory width ranged)) = false
is_local (Some (function width inputs)) = false
is_local (Some (result width ranged inputs)) = true
is_local (Some part) = false
is_local None = false

abbrev pub targets_size : List Target → ℕ
targets_size [] = 0
targets_size (t ∷ []) = t.size
targets_size (t ∷ u ∷ ts) = t.size + suc (targets_size (u ∷ ts))

abbrev pub each_target : (Target → ℕ → List ℕ) → List Target → ℕ → List ℕ
each_target f [] at = []
each_target f (t ∷ ts) at = f t at ++ each_target f ts (at + suc t.size)

abbrev pub any_signal : List Target → Around → Bool
any_signal [] around = false
any_signal (t ∷ ts) around = if t.has_signal around then true else any_signal ts around

abbrev pub lval_target : VLval-F Target → Target
lval_target (VLval-F.Name name sels) =
    let ss = map sel_rules_of sels in
    record {
      size = suc (sels_size ss);
      width = λ around. named_bits (around.scope name) (selected_of ss);
      broken = λ around at. name_broken (around.scope name) ss at ++ sels_broken ss around (suc at);
      by_procedure = λ around at. only_if (not (is_written (around.scope name))) at;
      by_assign = λ around at. only_if (not (is_net (around.scope name))) at ++ moving ss (suc at);
      has_signal = λ around. not (is_local (around.scope name));
      calls = calls_in_sels ss;
    }
lval_target (VLval-F.Concat parts) = record {
  size = 2 + targets_size parts;
  width = λ around. total (map (λ (t : Target). t.width around) parts);
  broken = λ around at. each_target (λ t from. t.broken around from) parts (suc at);
  by_procedure = λ around at. each_target (λ t from. t.by_procedure around from) parts (suc at);
  by_assign = λ around at. each_target (λ t from. t.by_assign around from) parts (suc at);
  has_signal = any_signal parts;
  calls = λ around. flat_map (λ (t : Target). t.calls around) parts;
}

abbrev pub target_of : VLval → Target
target_of = fold-VLval Target lval_target

-- where a statement stands: in a function, under `@*`, or under edges
pub data Procedure : Type 0 where
  in_function : Procedure
  at_star : Procedure
  at_edges : Procedure

-- A function and `@*` assign at once; an `always` with edges assigns to signals later (clauses 9.2.2 and 10.4.4).
abbrev pub mark_breaks : Procedure → Bool → Bool → Bool
mark_breaks in_function later signal = later
mark_breaks at_star later signal = later
mark_breaks at_edges later signal = not later && signal

-- What a statement is: its number of tokens, the names of blocks that it declares in the scope around it, and the tokens that
-- break a rule.
pub record StmtRules : Type 0 where
  pub size : ℕ
  pub blocks : ℕ → List Declared
  pub broken : Procedure → Around → ℕ → List ℕ
  -- the functions that it calls
  pub calls : Around → List Name

-- `reg [left:0] name;`
abbrev pub range_size : Option ℕ → ℕ
range_size None = 0
range_size (Some left) = 5

abbrev pub local_size : VLocal → ℕ
local_size l = 3 + range_size l.range

abbrev pub locals_size : List VLocal → ℕ
locals_size ls = total (map local_size ls)

abbrev pub locals_from : List VLocal → ℕ → List Declared
locals_from [] at = []
locals_from (l ∷ ls) at =
    record { name = l.name; token = suc (at + range_size l.range); thing = value local (bits_of l.range) (has_range l.range) } ∷ locals_from ls (at + local_size l)

-- statements one behind the other
abbrev pub stmts_size : List StmtRules → ℕ
stmts_size ss = total (map (λ (s : StmtRules). s.size) ss)

abbrev pub calls_in_stmts : List StmtRules → Around → List Name
calls_in_stmts ss around = flat_map (λ (s : StmtRules). s.calls around) ss

abbrev pub blocks_in : List StmtRules → ℕ → List Declared
blocks_in [] at = []
blocks_in (s ∷ ss) at = s.blocks at ++ blocks_in ss (at + s.size)

abbrev pub stmts_broken : List StmtRules → Procedure → Around → ℕ → List ℕ
stmts_broken [] procedure around at = []
stmts_broken (s ∷ ss) procedure around at = s.broken procedure around at ++ stmts_broken ss procedure around (at + s.size)

-- The selector and all values of a `case` are valued at the greatest of their widths, so an item says its values too.
pub record ItemRules : Type 0 where
  pub stmt : StmtRules
  pub values : List Rules

abbrev pub branch_rules : VBranch-F StmtRules ItemRules StmtRules → StmtRules
branch_rules (VBranch-F.Statement s) = s
branch_rules VBranch-F.Empty = record { size = 1; blocks = λ at. []; broken = λ procedure around at. []; calls = λ around. [] }

abbrev pub values_at : ℕ → List Rules → Around → ℕ → List ℕ
values_at w rs around at = each_from (λ r from. r.broken around w from) rs at

abbrev pub widest : List Rules → Around → ℕ
widest [] around = 0
widest (r ∷ rs) around = max (r.width around) (widest rs around)

abbrev pub widest_item : List ItemRules → Around → ℕ
widest_item [] around = 0
widest_item (i ∷ is) around = max (widest i.values around) (widest_item is around)

-- `values: body` and `default: body`
abbrev pub item_rules : VCaseItem-F StmtRules ItemRules StmtRules → ItemRules
item_rules (VCaseItem-F.Item values body) =
    let rs = map rules_of values in
    record { stmt = record body { size = listed_size rs + suc body.size; blocks = λ at. body.blocks (at + suc (listed_size rs)); broken = λ p around at. body.broken p around (at + suc (listed_size rs)); calls = λ around. calls_in rs around ++ body.calls around }; values = rs }
item_rules (VCaseItem-F.Default body) =
    record { stmt = record body { size = 2 + body.size; blocks = λ at. body.blocks (at + 2); broken = λ p around at. body.broken p around (at + 2) }; values = [] }

abbrev pub bodies : List ItemRules → List StmtRules
bodies is = map (λ (i : ItemRules). i.stmt) is

abbrev pub item_values : ℕ → List ItemRules → Around → ℕ → List ℕ
item_values w [] around at = []
item_values w (i ∷ is) around at = values_at w i.values around at ++ item_values w is around (at + i.stmt.size)

-- `else other`
abbrev pub else_rules : Option StmtRules → StmtRules
else_rules None = record { size = 0; blocks = λ at. []; broken = λ procedure around at. []; calls = λ around. [] }
else_rules (Some s) = record { size = suc s.size; blocks = λ at. s.blocks (suc at); broken = λ p around at. s.broken p around (suc at); calls = s.calls }

abbrev pub block_rules : Option VLabel → List StmtRules → StmtRules
block_rules None ss = record {
  size = 2 + stmts_size ss;
  blocks = λ at. blocks_in ss (suc at);
  broken = λ p around at. stmts_broken ss p around (suc at);
  calls = calls_in_stmts ss;
}
block_rules (Some l) ss = record {
  size = 4 + (locals_size l.locals + stmts_size ss);
  blocks = λ at. record { name = l.name; token = at + 2; thing = part } ∷ [];
  broken = λ p around at.
      let first = at + (3 + locals_size l.locals) in
      let own = locals_from l.locals (at + 3) ++ blocks_in ss first in
      repeated [] own ++ stmts_broken ss p (record around { scope = inside own around.scope }) first;
  calls = λ around. calls_in_stmts ss (record around { scope = inside (locals_from l.locals 0 ++ blocks_in ss 0) around.scope });
}

abbrev pub stmt_rules : VStmt-F StmtRules ItemRules StmtRules → StmtRules
stmt_rules (VStmt-F.Block label ss) = block_rules label ss
stmt_rules (VStmt-F.If on taken other) =
    let test = rules_of on in
    let behind = else_rules other in
    record {
      size = 3 + (test.size + (taken.size + behind.size));
      blocks = λ at. taken.blocks (at + (3 + test.size)) ++ behind.blocks (at + (3 + (test.size + taken.size)));
      broken = λ p around at.
          alone test around (at + 2)
          ++ (taken.broken p around (at + (3 + test.size)) ++ behind.broken p around (at + (3 + (test.size + taken.size))));
      calls = λ around. test.calls around ++ (taken.calls around ++ behind.calls around);
    }
stmt_rules (VStmt-F.Case kind on items) =
    let test = rules_of on in
    record {
      size = 4 + (test.size + stmts_size (bodies items));
      blocks = λ at. blocks_in (bodies items) (at + (3 + test.size));
      broken = λ p around at.
          let w = max (test.width around) (widest_item items around) in
          test.broken around w (at + 2)
          ++ (item_values w items around (at + (3 + test.size)) ++ stmts_broken (bodies items) p around (at + (3 + test.size)));
      calls = λ around. test.calls around ++ calls_in_stmts (bodies items) around;
    }
stmt_rules (VStmt-F.Assign target right later) =
    let to = target_of target in
    let given = rules_of right in
    record {
      size = to.size + (2 + given.size);
      blocks = λ at. [];
      broken = λ p around at.
          to.broken around at
          ++ (to.by_procedure around at
          ++ (only_if (mark_breaks p later (to.has_signal around)) (at + to.size)
          ++ given.broken around (max (to.width around) (given.width around)) (at + suc to.size)));
      calls = λ around. to.calls around ++ given.calls around;
    }

abbrev pub rules_of_stmt : VStmt → StmtRules
rules_of_stmt = fold-VStmt StmtRules ItemRules StmtRules branch_rules item_rules stmt_rules

abbrev pub rules_of_branch : VBranch → StmtRules
rules_of_branch = fold-VBranch StmtRules ItemRules StmtRules branch_rules item_rules stmt_rules
