-- What is kept of an expression tells what the rules tell.
use Rattle.std.specs.Prelude.{◌≡◌, ℕ, List}
use Rattle.v_tree.specs.ExprRules.{Around, Rules}
use Rattle.v_tree.specs.declared.items.VItem.{VItem}
use Rattle.v_scopes.specs.Env.{Env}
use Rattle.v_expr_rules.specs.declared.seen.Seen.{Seen}
use Rattle.v_expr_rules.specs.Seen.{bits_capped, is_wide, in_context}
use Rattle.v_expr_rules.specs.Least.{cap, first}
use Rattle.v_expr_rules.specs.Walks.{Walk}
use Rattle.v_expr_rules.specs.Things.{around}

pub record Fits (s : Seen) (r : Rules) (a : Around) (at : ℕ) : Type 0 where
  pub size : s.size ≡ cap r.size
  pub width : s.width ≡ bits_capped (r.width a)
  pub broken : (w : ℕ) → in_context s (is_wide w) ≡ first (r.broken a w at)
  pub target : s.is_target ≡ r.is_target
  pub driven : s.driven ≡ first (r.driven a at)

-- wherever it begins
abbrev pub Exact : Walk → Rules → Type 0
Exact w r = (env : Env) (items : List VItem) (at : ℕ) → Fits (w env items (cap at)) r (around env items) at
