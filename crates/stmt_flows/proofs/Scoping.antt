-- Locals that start anew.
use Rattle.std.proofs.Common.{◌≡◌, ◌<◌, ◌≤◌, ◌+◌, ◌∷◌, ℕ, zero, suc, true, List, [], drop, length, get_or, Option, Some, None, refl, arith, ap, sym, ◌∙◌, subst}
use Rattle.std.proofs.lemmas.Bool.{and_parts}
use Rattle.std.proofs.lemmas.List.Folds.{list_all-append}
use Rattle.row_machine.specs.Valuation.{Member}
use Rattle.row_machine.proofs.Members.{member-front, member-back}
use Rattle.sv_types.specs.declared.expression.Expr.{Expr}
use Rattle.sv_types.specs.declared.statement.Local.{Local}
use Rattle.sv_types.specs.Surroundings.{Parameter, Sight}
use Rattle.sv_types.specs.Meanings.{Meaning}
use Rattle.sv_types.specs.Operators.{assigned_width}
use Rattle.sv_types.specs.Expressions.{meaning}
use Rattle.sv_types.specs.Flows as F
use Rattle.sv_types.specs.Flows.{Flow, Flows}
use Rattle.sv_types.specs.Statements.{scope_flow, marks_of, initial_of}
use Rattle.eval_parts.specs.Limits.{FitsAlone}
use Rattle.eval_stmts.specs.Limits.{StartFits, LocalFits, AllLocalsFit}
use Rattle.eval_stmts.proofs.Given.{fits-alone}
use Rattle.eval_exprs.proofs.Turns.{at-front}
use Rattle.expr_flows.specs.declared.fails.FlowFail.{FlowFail}
use Rattle.expr_flows.specs.declared.fails.FlowFail.TheVariants as X
use Rattle.expr_flows.specs.declared.known.Known.{Known}
use Rattle.expr_flows.specs.Full.{is_full, all_full}
use Rattle.expr_flows.specs.Targets.{TargetsFail}
use Rattle.stmt_flows.specs.Full.{written_start, written_starts}

abbrev initial_in : Option Expr → Option Meaning
initial_in o = elim o [ None ↦ None | Some e ↦ Some (meaning e) ]

abbrev written_in : Option Expr → List Expr
written_in o = elim o [ None ↦ [] | Some e ↦ e ∷ [] ]

-- what a local that starts anew does, by how it starts
pub starting-none : (l : Local) (k : Sight) (f : Flow) → l.initial ≡ None
    → F.and_then (F.setting l.number (marks_of l)) (F.unset_in l.number (marks_of l) None f) ≡ F.and_then (F.starting l.number (marks_of l) (initial_of l) k) (F.unset_in l.number (marks_of l) (initial_of l) f)
starting-none l k f is = ap (λ (o : Option Expr). F.and_then (F.starting l.number (marks_of l) (initial_in o) k) (F.unset_in l.number (marks_of l) (initial_in o) f)) (sym is)

pub starting-some : (l : Local) (e : Expr) (k : Sight) (f : Flow) → l.initial ≡ Some e
    → F.and_then (F.starting l.number (marks_of l) (Some (meaning e)) k) f ≡ F.and_then (F.starting l.number (marks_of l) (initial_of l) k) (F.unset_in l.number (marks_of l) (initial_of l) f)
starting-some l e k f is = ap (λ (o : Option Expr). F.and_then (F.starting l.number (marks_of l) (initial_in o) k) (F.unset_in l.number (marks_of l) (initial_in o) f)) (sym is)

pub written-some : (l : Local) (e : Expr) → l.initial ≡ Some e → e ∷ [] ≡ written_start l
written-some l e is = ap written_in (sym is)

pub start-fits : (l : Local) (e : Expr) (fs : ℕ → List Parameter) → l.initial ≡ Some e → LocalFits l fs → FitsAlone (meaning e) fs
start-fits l e fs is f =
    fits-alone e fs (assigned_width (marks_of l) (meaning e)) (omega arith) (subst (λ (o : Option Expr). StartFits (initial_in o) (marks_of l) fs) is f.start)

pub start-full : (l : Local) (e : Expr) (fs : ℕ → List Parameter) → l.initial ≡ Some e → all_full fs (written_start l) ≡ true → is_full fs e ≡ true
start-full l e fs is h = (and_parts (is_full fs e) true (subst (λ es. all_full fs es ≡ true) (sym (written-some l e is)) h)).0

-- one of some locals
pub local-fits : (ls : List Local) (i : ℕ) (l : Local) (fs : ℕ → List Parameter) → i < length ls → l ≡ get_or ls i l → AllLocalsFit ls fs → LocalFits l fs
local-fits [] i l fs below is f = absurd (omega arith)
local-fits (x ∷ ls) zero l fs below is f = subst (λ y. LocalFits y fs) (sym is) f.0
local-fits (x ∷ ls) (suc i) l fs below is f = local-fits ls i l fs (omega arith) is f.1

pub local-full : (ls : List Local) (i : ℕ) (l : Local) (fs : ℕ → List Parameter) → i < length ls → l ≡ get_or ls i l → all_full fs (written_starts ls) ≡ true → all_full fs (written_start l) ≡ true
local-full [] i l fs below is h = absurd (omega arith)
local-full (x ∷ ls) zero l fs below is h =
    subst (λ y. all_full fs (written_start y) ≡ true) (sym is) (and_parts (all_full fs (written_start x)) (all_full fs (written_starts ls)) (sym (list_all-append (is_full fs) (written_start x) (written_starts ls)) ∙ h)).0
local-full (x ∷ ls) (suc i) l fs below is h =
    local-full ls i l fs (omega arith) is (and_parts (all_full fs (written_start x)) (all_full fs (written_starts ls)) (sym (list_all-append (is_full fs) (written_start x) (written_starts ls)) ∙ h)).1

starts-member : (ls : List Local) (i : ℕ) (l : Local) (e : Expr) → i < length ls → l ≡ get_or ls i l → Member (written_start l) e → Member (written_starts ls) e
starts-member [] i l e below is m = absurd (omega arith)
starts-member (x ∷ ls) zero l e below is m = member-front (written_start x) (written_starts ls) e (subst (λ y. Member (written_start y) e) is m)
starts-member (x ∷ ls) (suc i) l e below is m = member-back (written_start x) (written_starts ls) e (starts-member ls i l e (omega arith) is m)

pub start-fails : (f : FlowFail) (k : Known) (ls : List Local) (i : ℕ) (l : Local) → i < length ls → l ≡ get_or ls i l → TargetsFail f k (written_start l) → TargetsFail f k (written_starts ls)
start-fails X.Memory k ls i l below is h = tt
start-fails (X.TooLong at) k ls i l below is h = record { expr = h.expr; stands = starts-member ls i l h.expr below is h.stands; long = h.long }

-- a scope does as many statements as its body
pub scope-counts : (ls : List Local) (f : Flows) (k : Sight) → (scope_flow ls f k).statements ≡ (f k).statements
scope-counts [] f k = refl
scope-counts (l ∷ ls) f k = by (initial_of l) (scope-counts ls f k)
  where
    by : (o : Option Meaning) → (scope_flow ls f k).statements ≡ (f k).statements
        → (F.and_then (F.starting l.number (marks_of l) o k) (F.unset_in l.number (marks_of l) o (scope_flow ls f k))).statements ≡ (f k).statements
    by None e = omega (arith, e)
    by (Some m) e = omega (arith, e)

pub block-counts : (ls : List Local) (f : Flows) (k : Sight) → (f k).statements ≤ (F.counted (scope_flow ls f k)).statements
block-counts ls f k = omega (arith, scope-counts ls f k)

-- all locals, and one in front of others
pub all-dropped : (ls : List Local) (n : ℕ) (f : Flows) (k : Sight) → length ls ≤ n → f k ≡ scope_flow (drop n ls) f k
all-dropped [] zero f k h = refl
all-dropped [] (suc n) f k h = refl
all-dropped (l ∷ ls) zero f k h = absurd (omega arith)
all-dropped (l ∷ ls) (suc n) f k h = all-dropped ls n f k (omega arith)

pub one-started : (ls : List Local) (i j : ℕ) (l : Local) (f : Flows) (k : Sight) → j ≡ i + 1 → i < length ls → l ≡ get_or ls i l
    → F.and_then (F.starting l.number (marks_of l) (initial_of l) k) (F.unset_in l.number (marks_of l) (initial_of l) (scope_flow (drop j ls) f k)) ≡ scope_flow (drop i ls) f k
one-started ls i j l f k next below is =
    ap (λ n. F.and_then (F.starting l.number (marks_of l) (initial_of l) k) (F.unset_in l.number (marks_of l) (initial_of l) (scope_flow (drop n ls) f k))) next
    ∙ sym (ap (λ xs. scope_flow xs f k) (at-front ls i l below is))

pub none-left : (n : ℕ) → n ≤ 0 → n ≡ 0
none-left n h = omega arith
