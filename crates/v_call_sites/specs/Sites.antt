-- The calls of functions in an expression, with their tokens, where names stand for these things.
use Rattle.std.specs.Prelude.{ℕ, suc, ◌+◌, Bool, List, [], ◌∷◌, ◌++◌, map}
use Rattle.v_tree.specs.Names.{Name}
use Rattle.v_tree.specs.Scopes.{Scope}
use Rattle.v_tree.specs.ExprRules.{only_if, total, called, extent_size}
use Rattle.v_tree.specs.declared.expressions.VExpr.{VExpr, VExpr-F, fold-VExpr}
use Rattle.v_tree.specs.declared.expressions.VPrim.{VPrim, VPrim-F, fold-VPrim}
use Rattle.v_tree.specs.declared.expressions.VSel.{VSel, VSel-F, fold-VSel}

pub record Site : Type 0 where
  pub name : Name
  pub token : ℕ

-- how many tokens an expression has, and the calls in it, from its first token on
pub record Sites : Type 0 where
  pub size : ℕ
  pub calls : Scope → ℕ → List Site

-- the tokens of those that lead back
abbrev pub back : (Name → Bool) → List Site → List ℕ
back leads_back [] = []
back leads_back (s ∷ ss) = only_if (leads_back s.name) s.token ++ back leads_back ss

abbrev pub named_at : ℕ → List Name → List Site
named_at at names = map (λ (n : Name). record { name = n; token = at }) names

-- the tokens of a list with commas, and its calls
abbrev pub listed_sites : List Sites → ℕ
listed_sites [] = 0
listed_sites (s ∷ []) = s.size
listed_sites (s ∷ t ∷ ss) = s.size + suc (listed_sites (t ∷ ss))

abbrev pub calls_from : List Sites → Scope → ℕ → List Site
calls_from [] scope at = []
calls_from (s ∷ ss) scope at = s.calls scope at ++ calls_from ss scope (at + suc s.size)

-- selects one behind the other
abbrev pub sels_sites : List Sites → ℕ
sels_sites ss = total (map (λ (s : Sites). s.size) ss)

abbrev pub calls_along : List Sites → Scope → ℕ → List Site
calls_along [] scope at = []
calls_along (s ∷ ss) scope at = s.calls scope at ++ calls_along ss scope (at + s.size)

abbrev pub sel_sites : VSel-F Sites Sites Sites → Sites
sel_sites (VSel-F.Decimal base extent) = record { size = 3 + extent_size extent; calls = λ scope at. [] }
sel_sites (VSel-F.Expr base extent) = record { size = 2 + (base.size + extent_size extent); calls = λ scope at. base.calls scope (suc at) }

abbrev pub prim_sites : VPrim-F Sites Sites Sites → Sites
prim_sites (VPrim-F.Number bits) = record { size = 1; calls = λ scope at. [] }
prim_sites (VPrim-F.Paren inner) = record { size = 2 + inner.size; calls = λ scope at. inner.calls scope (suc at) }
prim_sites (VPrim-F.Name name sels) = record { size = suc (sels_sites sels); calls = λ scope at. calls_along sels scope (suc at) }
prim_sites (VPrim-F.Call name args) = record {
  size = 3 + listed_sites args;
  calls = λ scope at. named_at at (called (scope name) name) ++ calls_from args scope (at + 2);
}
prim_sites (VPrim-F.Repeat count items) = record { size = 5 + listed_sites items; calls = λ scope at. calls_from items scope (at + 3) }
prim_sites (VPrim-F.Concat items) = record { size = 2 + listed_sites items; calls = λ scope at. calls_from items scope (suc at) }
prim_sites (VPrim-F.Sign signed of) = record { size = 3 + of.size; calls = λ scope at. of.calls scope (at + 2) }

abbrev pub expr_sites : VExpr-F Sites Sites Sites → Sites
expr_sites (VExpr-F.Prim a) = a
expr_sites (VExpr-F.Unary op a) = record { size = suc a.size; calls = λ scope at. a.calls scope (suc at) }
expr_sites (VExpr-F.Binary op a b) = record {
  size = a.size + suc b.size;
  calls = λ scope at. a.calls scope at ++ b.calls scope (at + suc a.size);
}
expr_sites (VExpr-F.Choose on a b) = record {
  size = on.size + suc (a.size + suc b.size);
  calls = λ scope at. on.calls scope at ++ (a.calls scope (at + suc on.size) ++ b.calls scope (at + (suc on.size + suc a.size)));
}

abbrev pub sites_of : VExpr → Sites
sites_of = fold-VExpr Sites Sites Sites expr_sites prim_sites sel_sites

abbrev pub prim_sites_of : VPrim → Sites
prim_sites_of = fold-VPrim Sites Sites Sites expr_sites prim_sites sel_sites

abbrev pub sel_sites_of : VSel → Sites
sel_sites_of = fold-VSel Sites Sites Sites expr_sites prim_sites sel_sites
