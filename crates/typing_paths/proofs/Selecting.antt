-- Selects one after the other behind what stands before them.
use Rattle.std.proofs.Common.{◌≡◌, ◌≤◌, ℕ, ◌+◌, ◌<◌, List, [], ◌∷◌, ◌++◌, length, get_or, map, take, sym, ap, ◌∙◌, subst, refl}
use Rattle.std.proofs.lemmas.List.{take_all}
use Rattle.std.specs.Prelude.{Result}
use Rattle.sv_types.specs.declared.statement.Function.{Function}
use Rattle.sv_tree.specs.declared.expressions.Select.{Select}
use Rattle.expr_type.specs.declared.halt.Halt.{Halt}
use Rattle.expr_type.specs.declared.operand.Valued.{Valued}
use Rattle.expr_type.specs.declared.step.Step.{Step}
use Rattle.expr_type.specs.Expressions.{select_meaning}
use Rattle.expr_type.specs.Forms.{SelectMeaning, steps}
use Rattle.expr_type.specs.Names.{Context, Source}
use Rattle.expr_type.specs.Selects.{path, stepped}
use Rattle.expr_type.specs.Typings.{Typing, both, rule}
use Rattle.typing_steps.specs.Steps.{TypesTo}
use Rattle.typing_paths.proofs.Rows.{map-of-map, more}
use Rattle.typing_paths.specs.Paths.{path_of, selected_of, step_of}

path-behind : (k : Source) (x : Typing Valued) (ss : List (Typing Step)) (s : Typing Step)
    → path k x (ss ++ s ∷ []) ≡ both (path k x ss) s (λ v t. rule (stepped k v t))
path-behind k x [] s = refl
path-behind k x (t ∷ ss) s = path-behind k (both x t (λ v u. rule (stepped k v u))) ss s

steps-are : (k : Context) (ss : List Select) → map (step_of k) ss ≡ steps k (map select_meaning ss)
steps-are k ss = map-of-map (λ (s : SelectMeaning). s.step k) select_meaning ss

path-more : (k : Context) (x : Typing Valued) (ss : List Select) (i : ℕ) (s : Select) → i < length ss → s ≡ get_or ss i s
    → selected_of k (path_of k x (take i ss)) s ≡ path_of k x (take (i + 1) ss)
path-more k x ss i s l e =
    sym (path-behind k.source x (steps k (map select_meaning (take i ss))) (step_of k s))
    ∙ ap (λ (ts : List (Typing Step)). path k.source x (ts ++ step_of k s ∷ [])) (sym (steps-are k (take i ss)))
    ∙ ap (path k.source x) (more (step_of k) ss i s l e)
    ∙ ap (path k.source x) (steps-are k (take (i + 1) ss))

-- one select more
pub path-turn : (k : Context) (x : Typing Valued) (ss : List Select) (i : ℕ) (s : Select) (fs gs : List Function) (r : Result Valued Halt) → i < length ss → s ≡ get_or ss i s
    → TypesTo r (selected_of k (path_of k x (take i ss)) s fs) gs → TypesTo r (path_of k x (take (i + 1) ss) fs) gs
path-turn k x ss i s fs gs r l e h = subst (λ (y : Typing Valued). TypesTo r (y fs) gs) (path-more k x ss i s l e) h

-- all selects
pub path-walked : (k : Context) (x : Typing Valued) (ss : List Select) (n : ℕ) (fs gs : List Function) (r : Result Valued Halt) → length ss ≤ n
    → TypesTo r (path_of k x (take n ss) fs) gs → TypesTo r (path_of k x ss fs) gs
path-walked k x ss n fs gs r over h = subst (λ (ts : List Select). TypesTo r (path_of k x ts fs) gs) (take_all n ss over) h
