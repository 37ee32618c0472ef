-- The same of targets: what a target breaks where some functions lead back.
use Rattle.std.proofs.Common.{◌≡◌, ℕ, suc, ◌+◌, Bool, true, List, [], ◌∷◌, ◌++◌, map, refl, sym, ap, ◌∙◌, subst, if◌then◌else◌}
use Rattle.v_tree.specs.Names.{Name}
use Rattle.v_tree.specs.Scopes.{Scope}
use Rattle.v_tree.specs.ExprRules.{total, name_broken, sels_broken, sel_rules_of}
use Rattle.v_tree.specs.StmtRules.{Target, targets_size, each_target, any_signal, lval_target, target_of}
use Rattle.v_tree.specs.declared.expressions.VSel.{VSel}
use Rattle.v_tree.specs.declared.statements.VLval.{VLval, VLval-F}
use Rattle.v_tree.proofs.Induction as T
use Rattle.v_expr_rules.specs.Seen.{earlier}
use Rattle.v_expr_rules.specs.Least.{first}
use Rattle.v_expr_rules.proofs.Listed.{Each}
use Rattle.v_expr_rules.proofs.Listed.Each.{none, more}
use Rattle.v_call_sites.specs.Sites.{Sites, back, listed_sites, calls_from, calls_along, sel_sites_of}
use Rattle.v_call_sites.proofs.Levels.{at-name, at-concat}
use Rattle.v_call_sites.specs.StmtSites.{lval_sites, target_sites}
use Rattle.v_call_sites.proofs.Expressions.{with, plain, SelSplits, sel-splits, sels-same, sels-split, two-parts, before, no-parts}

pub record TargetSplits (s : Sites) (r : Target) : Type 0 where
  pub size : s.size ≡ r.size
  pub width : (a : Scope) (b : Name → Bool) → r.width (with a b) ≡ r.width (plain a)
  pub broken : (a : Scope) (b : Name → Bool) (at : ℕ) → first (r.broken (with a b) at) ≡ earlier (first (r.broken (plain a) at)) (first (back b (s.calls a at)))
  pub written : (a : Scope) (b : Name → Bool) (at : ℕ) → r.by_procedure (with a b) at ≡ r.by_procedure (plain a) at
  pub signal : (a : Scope) (b : Name → Bool) → r.has_signal (with a b) ≡ r.has_signal (plain a)

each-sel : (sels : List VSel) → Each SelSplits (map sel_sites_of sels) (map sel_rules_of sels)
each-sel [] = none
each-sel (s ∷ ss) = more (sel-splits s) (each-sel ss)

name-splits : (name : Name) (sels : List VSel) → TargetSplits (lval_sites (VLval-F.Name name sels)) (lval_target (VLval-F.Name name sels))
name-splits name sels =
    let ss = map sel_sites_of sels in
    let rs = map sel_rules_of sels in
    record {
      size = ap suc (sels-same ss rs (each-sel sels));
      width = λ a b. refl;
      broken = λ a b at.
          before (name_broken (a name) rs at) (sels_broken rs (with a b) (suc at)) (sels_broken rs (plain a) (suc at)) (first (back b (calls_along ss a (suc at)))) (sels-split ss rs a b (suc at) (each-sel sels));
      written = λ a b at. refl;
      signal = λ a b. refl;
    }

sizes-same : (ss : List Sites) (rs : List Target) → Each TargetSplits ss rs → listed_sites ss ≡ targets_size rs
sizes-same _ _ none = refl
sizes-same _ _ (more h none) = h.size
sizes-same _ _ (more h (more {x = t} {y = q} {xs = ss} {ys = rs} k hs)) = λ i. h.size i + suc (sizes-same (t ∷ ss) (q ∷ rs) (more k hs) i)

widths-same : (ss : List Sites) (rs : List Target) (a : Scope) (b : Name → Bool) → Each TargetSplits ss rs
    → map (λ (t : Target). t.width (with a b)) rs ≡ map (λ (t : Target). t.width (plain a)) rs
widths-same _ _ a b none = refl
widths-same _ _ a b (more {xs = ss} {ys = rs} h hs) = λ i. h.width a b i ∷ widths-same ss rs a b hs i

parts-split : (ss : List Sites) (rs : List Target) (a : Scope) (b : Name → Bool) (at : ℕ) → Each TargetSplits ss rs
    → first (each_target (λ t from. t.broken (with a b) from) rs at) ≡ earlier (first (each_target (λ t from. t.broken (plain a) from) rs at)) (first (back b (calls_from ss a at)))
parts-split _ _ a b at none = no-parts []
parts-split _ _ a b at (more {x = s} {y = r} {xs = ss} {ys = rs} h hs) =
    two-parts (r.broken (with a b) at) (each_target (λ t from. t.broken (with a b) from) rs (at + suc r.size)) (r.broken (plain a) at) (each_target (λ t from. t.broken (plain a) from) rs (at + suc r.size)) b
    (s.calls a at) (calls_from ss a (at + suc s.size)) (h.broken a b at)
    (parts-split ss rs a b (at + suc r.size) hs
    ∙ ap (λ n. earlier (first (each_target (λ t from. t.broken (plain a) from) rs (at + suc r.size))) (first (back b (calls_from ss a (at + suc n))))) (sym h.size))

parts-written : (ss : List Sites) (rs : List Target) (a : Scope) (b : Name → Bool) (at : ℕ) → Each TargetSplits ss rs
    → each_target (λ t from. t.by_procedure (with a b) from) rs at ≡ each_target (λ t from. t.by_procedure (plain a) from) rs at
parts-written _ _ a b at none = refl
parts-written _ _ a b at (more {y = r} {xs = ss} {ys = rs} h hs) = λ i. h.written a b at i ++ parts-written ss rs a b (at + suc r.size) hs i

parts-signal : (ss : List Sites) (rs : List Target) (a : Scope) (b : Name → Bool) → Each TargetSplits ss rs → any_signal rs (with a b) ≡ any_signal rs (plain a)
parts-signal _ _ a b none = refl
parts-signal _ _ a b (more {xs = ss} {ys = rs} h hs) = λ i. if h.signal a b i then true else parts-signal ss rs a b hs i

concat-splits : (ss : List Sites) (rs : List Target) → Each TargetSplits ss rs → TargetSplits (lval_sites (VLval-F.Concat ss)) (lval_target (VLval-F.Concat rs))
concat-splits ss rs hs = record {
  size = ap (λ n. 2 + n) (sizes-same ss rs hs);
  width = λ a b. ap total (widths-same ss rs a b hs);
  broken = λ a b at. parts-split ss rs a b (suc at) hs;
  written = λ a b at. parts-written ss rs a b (suc at) hs;
  signal = λ a b. parts-signal ss rs a b hs;
}

-- induction
abbrev P : VLval → Type 0
P x = TargetSplits (target_sites x) (target_of x)

each-lval : (xs : List VLval) → T.Each P xs → Each TargetSplits (map target_sites xs) (map target_of xs)
each-lval [] hs = none
each-lval (x ∷ xs) hs = more hs.0 (each-lval xs hs.1)

both : {s t : Sites} {r q : Target} → s ≡ t → r ≡ q → TargetSplits t q → TargetSplits s r
both {s} {t} {r} {q} e f h = subst (λ (x : Sites). TargetSplits x r) (sym e) (subst (λ (y : Target). TargetSplits t y) (sym f) h)

pub target-splits : (x : VLval) → TargetSplits (target_sites x) (target_of x)
target-splits = T.ind-lval P (record {
  lval-name = λ n ss. both (at-name lval_sites n ss) (at-name lval_target n ss) (name-splits n ss);
  lval-concat = λ ls hs. both (at-concat lval_sites ls) (at-concat lval_target ls) (concat-splits (map target_sites ls) (map target_of ls) (each-lval ls hs));
})
