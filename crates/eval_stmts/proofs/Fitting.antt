-- The parts of a statement that fits, fit.
use Rattle.std.proofs.Common.{◌≡◌, ℕ, ◌≤◌, max, Bool, List, [], ◌∷◌, ◌++◌, map, flat_map, Option, Some, None, refl, arith, ap, sym, ◌∙◌, subst}
use Rattle.sv_types.specs.declared.expression.Expr.{Expr}
use Rattle.sv_types.specs.declared.statement.Local.{Local}
use Rattle.sv_types.specs.declared.statement.Stmt.{Stmt}
use Rattle.sv_types.specs.declared.statement.Stmt.TheVariants as V
use Rattle.sv_types.specs.Surroundings.{Parameter}
use Rattle.sv_types.specs.Meanings.{Meaning, most, total, wide}
use Rattle.sv_types.specs.Operators.{assigned_width}
use Rattle.sv_types.specs.Expressions.{meaning}
use Rattle.sv_types.specs.Statements.{Doing, Limits, doing, counted, scope, initial_of, marks_of, no_limits, limits_at, local_limits, all_limits}
use Rattle.sv_types.proofs.DoingLevels.{doing-Block}
use Rattle.sv_types.proofs.Widths.{has-bits}
use Rattle.eval_parts.specs.Limits.{Fits}
use Rattle.eval_stmts.specs.Environments.{AllHeld}
use Rattle.eval_stmts.specs.Limits.{Keeps, StmtFits, AllStmtsFit, StartFits, AllLocalsFit, ScopeFits, widest_place, width_of_locals}
use Rattle.eval_stmts.proofs.Places as P

pub held-left : (xs ys : List ℕ) (h : ℕ → Bool) → AllHeld (xs ++ ys) h → AllHeld xs h
held-left [] ys h a = tt
held-left (x ∷ xs) ys h a = (a.0, held-left xs ys h a.1)

pub held-right : (xs ys : List ℕ) (h : ℕ → Bool) → AllHeld (xs ++ ys) h → AllHeld ys h
held-right [] ys h a = a
held-right (x ∷ xs) ys h a = held-right xs ys h a.1

-- an expression by its limits at a width that isn't less than its own
pub fits-at : (e : Expr) (fs : ℕ → List Parameter) (w : ℕ) → wide (meaning e) ≤ w → (meaning e).misfits ≡ 0 → (meaning e).widest ≤ 4194304 → (meaning e).arithmetic fs w ≤ 128 → (meaning e).indexing ≤ 64 → Fits (meaning e) fs w
fits-at e fs w wider typed narrow arithmetic indexing = let h = has-bits e typed in record { some = omega arith; typed = typed; narrow = narrow; arithmetic = arithmetic; indexing = indexing }

-- statements in order
pub stmts-fit : (ss : List Stmt) (fs : ℕ → List Parameter) (h : ℕ → Bool) → total (map (λ (d : Doing). d.misfits) (map doing ss)) ≡ 0 → most (map (λ (d : Doing). d.widest) (map doing ss)) ≤ 4194304
    → most (map (λ (d : Doing). d.arithmetic fs) (map doing ss)) ≤ 128 → most (map (λ (d : Doing). d.indexing) (map doing ss)) ≤ 64 → most (map widest_place ss) ≤ 4194304
    → AllHeld (flat_map (λ (d : Doing). d.targets fs) (map doing ss)) h → AllStmtsFit ss fs h
stmts-fit [] fs h t n a i p held = tt
stmts-fit (s ∷ ss) fs h t n a i p held = (
  record {
    keeps = record { typed = omega arith; narrow = omega arith; arithmetic = omega arith; indexing = omega arith };
    places = omega arith;
    held = held-left ((doing s).targets fs) (flat_map (λ (d : Doing). d.targets fs) (map doing ss)) h held;
  },
  stmts-fit ss fs h (omega arith) (omega arith) (omega arith) (omega arith) (omega arith) (held-right ((doing s).targets fs) (flat_map (λ (d : Doing). d.targets fs) (map doing ss)) h held),
)

-- locals
start-fits : (marks : List Bool) (o : Option Expr) (m : Option Meaning) (fs : ℕ → List Parameter) (l : Limits) → m ≡ (elim o as (λ x. Option Meaning) [ None ↦ None | Some e ↦ Some (meaning e) ])
    → l ≡ (elim m as (λ x. Limits) [ None ↦ no_limits | Some n ↦ limits_at (assigned_width marks n) n ]) → l.misfits ≡ 0 → l.widest ≤ 4194304 → l.arithmetic fs ≤ 128 → l.indexing ≤ 64 → StartFits m marks fs
start-fits marks None m fs l is limits t n a i = subst (λ x. StartFits x marks fs) (sym is) tt
start-fits marks (Some e) m fs l is limits t n a i =
    let at : l ≡ limits_at (assigned_width marks (meaning e)) (meaning e) = limits ∙ ap (λ x. elim x as (λ y. Limits) [ None ↦ no_limits | Some k ↦ limits_at (assigned_width marks k) k ]) is in
    subst (λ x. StartFits x marks fs) (sym is)
    (fits-at e fs (assigned_width marks (meaning e)) (omega arith) (ap (λ (x : Limits). x.misfits) (sym at) ∙ t) (subst (λ (x : Limits). x.widest ≤ 4194304) at n) (subst (λ (x : Limits). x.arithmetic fs ≤ 128) at a) (subst (λ (x : Limits). x.indexing ≤ 64) at i))

pub locals-fit : (ls : List Local) (fs : ℕ → List Parameter) → (all_limits (map local_limits ls)).misfits ≡ 0 → (all_limits (map local_limits ls)).widest ≤ 4194304 → (all_limits (map local_limits ls)).arithmetic fs ≤ 128
    → (all_limits (map local_limits ls)).indexing ≤ 64 → width_of_locals ls ≤ 4194304 → AllLocalsFit ls fs
locals-fit [] fs t n a i p = tt
locals-fit (l ∷ ls) fs t n a i p = (
  record { narrow = omega arith; start = start-fits (marks_of l) l.initial (initial_of l) fs (local_limits l) refl refl (omega arith) (omega arith) (omega arith) (omega arith) },
  locals-fit ls fs (omega arith) (omega arith) (omega arith) (omega arith) (omega arith),
)

-- a scope
pub scope-fits : (ls : List Local) (ss : List Stmt) (fs : ℕ → List Parameter) (h : ℕ → Bool) → Keeps (scope ls (map doing ss)) fs → max (width_of_locals ls) (most (map widest_place ss)) ≤ 4194304
    → AllHeld ((scope ls (map doing ss)).targets fs) h → ScopeFits ls ss fs h
scope-fits ls ss fs h k p held = record {
  locals = locals-fit ls fs (omega (arith, k.typed)) (omega (arith, k.narrow)) (omega (arith, k.arithmetic)) (omega (arith, k.indexing)) (omega arith);
  body = stmts-fit ss fs h (omega (arith, k.typed)) (omega (arith, k.narrow)) (omega (arith, k.arithmetic)) (omega (arith, k.indexing)) (omega arith) held;
}

counted-keeps : (d : Doing) (fs : ℕ → List Parameter) → Keeps (counted d) fs → Keeps d fs
counted-keeps d fs k = record { typed = k.typed; narrow = k.narrow; arithmetic = k.arithmetic; indexing = k.indexing }

pub block-fits : (s : Stmt) (ls : List Local) (ss : List Stmt) (fs : ℕ → List Parameter) (h : ℕ → Bool) → s ≡ V.Block ls ss → StmtFits s fs h → ScopeFits ls ss fs h
block-fits s ls ss fs h is f =
    let level = ap doing is ∙ doing-Block ls ss in
    scope-fits ls ss fs h (counted-keeps (scope ls (map doing ss)) fs (subst (λ (d : Doing). Keeps d fs) level f.keeps)) (subst (λ n. n ≤ 4194304) (ap widest_place is ∙ P.place-Block ls ss) f.places)
    (subst (λ (d : Doing). AllHeld (d.targets fs) h) level f.held)
