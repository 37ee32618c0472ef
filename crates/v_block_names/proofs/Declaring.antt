-- One declaration more, from the last to the first.
use Rattle.std.proofs.Common.{◌≡◌, ◌≤◌, ◌<◌, ◌-◌, ℕ, suc, List, [], ◌∷◌, ◌++◌, length, drop, get_or, Option, Some, refl, sym, ap, ◌∙◌, arith}
use Rattle.std.proofs.Math.Seq.{drop-cons}
use Rattle.v_tree.specs.Names.{Name}
use Rattle.v_tree.specs.declared.items.VLocal.{VLocal}
use Rattle.v_scopes.specs.declared.entry.Entry.{Entry}
use Rattle.v_scopes.specs.declared.entry.Entry.TheVariants.{Value, Part}
use Rattle.v_scopes.specs.declared.entry.Kind.TheVariants.{Local}
use Rattle.v_scopes.specs.declared.scope.Scope.{Scope}
use Rattle.v_scopes.specs.Env.{Env, found, hidden_in, given, before, Within}
use Rattle.v_scopes.proofs.Undoing.{within-more}
use Rattle.v_block_names.specs.Blocks.{parts_given, locals_given}

drop-at : {A : Type 0} (xs : List A) (at : ℕ) (x : A) → 0 < at → at ≤ length xs → x ≡ get_or xs (at - 1) x → drop (at - 1) xs ≡ x ∷ drop at xs
drop-at xs at x more within is =
    let low : at - 1 < length xs = omega (arith, more, within) in
    let next : suc (at - 1) ≡ at = omega (arith, more) in
    drop-cons xs (at - 1) x low ∙ (λ i. sym is i ∷ drop (next i) xs)

pub part-step : (xs : List Name) (at : ℕ) (x : Name) (outer old new : Scope) → 0 < at → at ≤ length xs → x ≡ get_or xs (at - 1) x
    → found old ≡ parts_given (drop at xs) (found outer) → Within outer old → found new ≡ given (found old) x (Some Part) → hidden_in new ≡ hidden_in old ++ (before (found old) x ∷ [])
    → (at - 1 ≤ length xs) × (found new ≡ parts_given (drop (at - 1) xs) (found outer)) × Within outer new
part-step xs at x outer old new more low is so_far within declares hides = (
  omega (arith, low),
  declares ∙ ap (λ (env : Env). given env x (Some Part)) so_far ∙ ap (λ (ys : List Name). parts_given ys (found outer)) (sym (drop-at xs at x more low is)),
  within-more outer old new x (Some Part) within declares hides,
)

pub local-step : (xs : List VLocal) (at : ℕ) (x : VLocal) (outer old new : Scope) → 0 < at → at ≤ length xs → x ≡ get_or xs (at - 1) x
    → found old ≡ locals_given (drop at xs) (found outer) → Within outer old → found new ≡ given (found old) x.name (Some (Value Local x.range))
    → hidden_in new ≡ hidden_in old ++ (before (found old) x.name ∷ [])
    → (at - 1 ≤ length xs) × (found new ≡ locals_given (drop (at - 1) xs) (found outer)) × Within outer new
local-step xs at x outer old new more low is so_far within declares hides = (
  omega (arith, low),
  declares ∙ ap (λ (env : Env). given env x.name (Some (Value Local x.range))) so_far ∙ ap (λ (ys : List VLocal). locals_given ys (found outer)) (sym (drop-at xs at x more low is)),
  within-more outer old new x.name (Some (Value Local x.range)) within declares hides,
)
