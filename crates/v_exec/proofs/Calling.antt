-- Functions that are called.
use Rattle.std.proofs.Common.{◌≡◌, ℕ, zero, suc, ◌≤◌, List, [], ◌∷◌, ◌++◌, length, map, Option, Some, arith, ap, sym, ◌∙◌, subst}
use Rattle.std.proofs.lemmas.List.{length-map}
use Rattle.v_tree.specs.Names.{Name}
use Rattle.v_tree.specs.declared.items.VFunction.{VFunction}
use Rattle.v_tree.specs.declared.items.VItem.{VItem}
use Rattle.v_tree.specs.declared.items.VItem.TheVariants as I
use Rattle.v_meaning.specs.Scopes as S
use Rattle.v_meaning.specs.Functions.{locals_of, scope_in}
use Rattle.v_eval.specs.declared.modules.Local.{Local}
use Rattle.v_eval.specs.Functions.{function_at}
use Rattle.v_eval.specs.Names.{local_named}
use Rattle.b4_core.specs.declared.bit.Bit4.{Bit4}
use Rattle.row_machine.specs.Valuation.{Valuation}
use Rattle.v_meaning.specs.Functions.{called, callee_or_absent}
use Rattle.v_meaning.specs.Modules.{functions as functions_in}
use Rattle.v_meaning.specs.Statements.{doing}
use Rattle.v_eval.specs.declared.modules.Module.{Module}
use Rattle.v_eval.specs.Scopes.{callee_within}
use Rattle.v_exec.specs.Limits.{stmt_most, functions_most}
use Rattle.v_exec.specs.Modules as M
use Rattle.v_exec.specs.Modules.{signals_in, callee_in}

pub function-scope : (all : List Local) (f : VFunction) (n : ℕ) (signals : List S.Named) (callee : Name → S.Callee) → map local_named all ≡ locals_of f → n ≡ length all
    → ◌≡◌ {A = S.Scope} (record { names = map local_named all ++ signals; next = n; callee = callee }) (scope_in f (record { names = signals; next = 0; callee = callee }))
function-scope all f n signals callee names next =
    let long : n ≡ length (locals_of f) = next ∙ sym (length-map all local_named) ∙ ap length names in
    ap (λ (ns : List S.Named). record { names = ns ++ signals; next = n; callee = callee }) names ∙ ap (λ (k : ℕ). record { names = locals_of f ++ signals; next = k; callee = callee }) long

-- each function of the module
pub function-narrow : (items : List VItem) (i : ℕ) (f : VFunction) (sc : S.Scope) → Some f ≡ function_at items (Some i) → functions_most items sc ≤ 128 → stmt_most f.body (scope_in f sc) ≤ 128
function-narrow [] i f sc is h = absurd (cc)
function-narrow (I.Signal s ∷ is) zero f sc at h = absurd (cc)
function-narrow (I.Initial s ∷ is) zero f sc at h = absurd (cc)
function-narrow (I.Process s ∷ is) zero f sc at h = absurd (cc)
function-narrow (I.Function g ∷ is) zero f sc at h = by at
  where
    first : stmt_most g.body (scope_in g sc) ≤ 128
    first = omega (arith, h)

    by : ◌≡◌ {A = Option VFunction} (Some f) (Some g) → stmt_most f.body (scope_in f sc) ≤ 128
    by e = let same : f ≡ g = cc in subst (λ (x : VFunction). stmt_most x.body (scope_in x sc) ≤ 128) (sym same) first
function-narrow (I.Instance s ∷ is) zero f sc at h = absurd (cc)
function-narrow (I.Signal s ∷ is) (suc i) f sc at h = function-narrow is i f sc at h
function-narrow (I.Initial s ∷ is) (suc i) f sc at h = function-narrow is i f sc at h
function-narrow (I.Process s ∷ is) (suc i) f sc at h = function-narrow is i f sc at h
function-narrow (I.Function g ∷ is) (suc i) f sc at h = function-narrow is i f sc at (omega (arith, h))
function-narrow (I.Instance s ∷ is) (suc i) f sc at h = function-narrow is i f sc at h

-- what a call gives where calls may go one deeper
pub callee-called : (first d k : ℕ) (m : Module) (i : ℕ) (f : VFunction) (v : Valuation) (args : List (List Bit4)) → k ≡ suc d → Some f ≡ function_at m.items.now (Some i)
    → called f (doing f.body) (M.scope_in first d m) v args ≡ (callee_in first k m i).run v args
callee-called first d k m i f v args deep is =
    ap (λ (o : Option VFunction). (callee_or_absent (callee_within (suc d) (signals_in first m) (functions_in m.items.now)) o).run v args) is ∙ sym (ap (λ (n : ℕ). (callee_in first n m i).run v args) deep)
