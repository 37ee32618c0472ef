-- What the values of a `case` keep and read.
use Rattle.std.proofs.Common.{◌≡◌, ◌≤◌, ◌∷◌, ◌++◌, ℕ, zero, suc, List, [], map, drop, refl, arith, ap, ◌∙◌, append_assoc}
use Rattle.row_machine.specs.Valuation.{Member}
use Rattle.row_machine.proofs.Members.{member-front, member-back}
use Rattle.sv_types.specs.declared.expression.Expr.{Expr}
use Rattle.sv_types.specs.declared.statement.CaseItem.{CaseItem}
use Rattle.sv_types.specs.Surroundings.{Parameter, Sight}
use Rattle.sv_types.specs.Meanings.{Meaning}
use Rattle.sv_types.specs.Expressions.{meaning}
use Rattle.sv_types.specs.Runs.{widest_of}
use Rattle.sv_types.specs.Flows as F
use Rattle.eval_parts.specs.Limits.{AllFit, FitsAlone}
use Rattle.eval_stmts.specs.Targets.{CaseFits, AllFitWide, ItemsFitWide, values_of}
use Rattle.eval_stmts.proofs.Given.{fits-alone}
use Rattle.expr_flows.specs.declared.fails.FlowFail.{FlowFail}
use Rattle.expr_flows.specs.declared.fails.FlowFail.TheVariants as X
use Rattle.expr_flows.specs.declared.known.Known.{Known}
use Rattle.expr_flows.specs.Targets.{TargetsFail}
use Rattle.stmt_flows.specs.Branches.{ItemsFitAlone}
use Rattle.stmt_flows.specs.Long.{item_values}

values-fit : (es : List Expr) (ms : List Meaning) (fs : ℕ → List Parameter) (w : ℕ) → widest_of (map meaning es ++ ms) ≤ w → AllFitWide es fs w → AllFit es fs
values-fit [] ms fs w wider f = tt
values-fit (e ∷ es) ms fs w wider f = (fits-alone e fs w (omega (arith, wider)) f.0, values-fit es ms fs w (omega (arith, wider)) f.1)

behind : (es : List Expr) (ms : List Meaning) (w : ℕ) → widest_of (map meaning es ++ ms) ≤ w → widest_of ms ≤ w
behind [] ms w h = h
behind (e ∷ es) ms w h = behind es ms w (omega (arith, h))

pub items-fit : (is : List CaseItem) (fs : ℕ → List Parameter) (w : ℕ) → widest_of (values_of is) ≤ w → ItemsFitWide is fs w → ItemsFitAlone is fs
items-fit [] fs w wider f = tt
items-fit (i ∷ is) fs w wider f = (values-fit i.values (values_of is) fs w wider f.0, items-fit is fs w (behind i.values (values_of is) w wider) f.1)

pub selector-fits : (on : Expr) (is : List CaseItem) (fs : ℕ → List Parameter) → CaseFits on is fs → FitsAlone (meaning on) fs
selector-fits on is fs f = fits-alone on fs (widest_of (meaning on ∷ values_of is)) (omega arith) f.selector

pub case-items-fit : (on : Expr) (is : List CaseItem) (fs : ℕ → List Parameter) → CaseFits on is fs → ItemsFitAlone is fs
case-items-fit on is fs f = items-fit is fs (widest_of (meaning on ∷ values_of is)) (omega arith) f.values

-- one behind some
pub item-fails : (f : FlowFail) (k : Known) (i : CaseItem) (is : List CaseItem) → TargetsFail f k i.values → TargetsFail f k (item_values (i ∷ is))
item-fails X.Memory k i is h = tt
item-fails (X.TooLong at) k i is h = record { expr = h.expr; stands = member-front i.values (item_values is) h.expr h.stands; long = h.long }

from-drop : (is : List CaseItem) (n : ℕ) (e : Expr) → Member (item_values (drop n is)) e → Member (item_values is) e
from-drop is zero e m = m
from-drop [] (suc n) e m = m
from-drop (i ∷ is) (suc n) e m = member-back i.values (item_values is) e (from-drop is n e m)

pub drop-fails : (f : FlowFail) (k : Known) (is : List CaseItem) (n : ℕ) → TargetsFail f k (item_values (drop n is)) → TargetsFail f k (item_values is)
drop-fails X.Memory k is n h = tt
drop-fails (X.TooLong at) k is n h = record { expr = h.expr; stands = from-drop is n h.expr h.stands; long = h.long }

pub reads-both : (xs ys : List Meaning) (k : Sight) → F.all_reads xs k ++ F.all_reads ys k ≡ F.all_reads (xs ++ ys) k
reads-both [] ys k = refl
reads-both (x ∷ xs) ys k = append_assoc (x.reads k) (F.all_reads xs k) (F.all_reads ys k) ∙ ap (λ us. x.reads k ++ us) (reads-both xs ys k)
