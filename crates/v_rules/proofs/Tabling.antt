-- The ports of one module more.
use Rattle.std.proofs.Common.{◌≡◌, ◌<◌, ◌+◌, ℕ, suc, List, [], ◌∷◌, ◌++◌, map, length, drop, get_or, sym, ap, ◌∙◌, arith}
use Rattle.std.proofs.Math.Seq.{drop-cons}
use Rattle.std.proofs.lemmas.List.{map_push}
use Rattle.v_tree.specs.declared.items.VModule.{VModule}
use Rattle.v_scopes.specs.Env.{Env, found}
use Rattle.v_scopes.specs.declared.scope.Scope.{Scope}
use Rattle.v_stmt_rules.specs.Stmts.{nothing}
use Rattle.v_rules.specs.ModuleNames.{ports_given}
use Rattle.v_rules.specs.Tables.{ports_added}

pub add-step : (ms : List VModule) (i : ℕ) (m : VModule) (old new : List Scope) (p : Scope) (whole : List Env) → i < length ms → m ≡ get_or ms i m
    → found p ≡ ports_given m.items nothing → new ≡ old ++ (p ∷ []) → ports_added (drop i ms) (map found old) ≡ whole → ports_added (drop (i + 1) ms) (map found new) ≡ whole
add-step ms i m old new p whole low is ports pushed so_far =
    let next : suc i ≡ i + 1 = omega arith in
    let rest : drop i ms ≡ m ∷ drop (i + 1) ms = drop-cons ms i m low ∙ (λ j. sym is j ∷ drop (next j) ms) in
    let added : map found new ≡ map found old ++ (ports_given m.items nothing ∷ []) =
    ap (map found) pushed ∙ map_push found old p ∙ ap (λ (e : Env). map found old ++ (e ∷ [])) ports in
    ap (ports_added (drop (i + 1) ms)) added ∙ sym (ap (λ (xs : List VModule). ports_added xs (map found old)) rest) ∙ so_far
