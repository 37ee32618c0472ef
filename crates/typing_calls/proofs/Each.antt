-- Each of some expressions.
use Rattle.std.proofs.Common.{◌≡◌, ◌<◌, ◌+◌, ℕ, List, [], ◌∷◌, ◌++◌, length, get_or, map, take, refl, sym, ap, ◌∙◌, subst}
use Rattle.std.specs.Prelude.{Result, Ok, Err, Vec}
use Rattle.std.specs.declared.alloc.Global.{Global}
use Rattle.std.proofs.lemmas.List.{map-append, take_all, take_more}
use Rattle.std.specs.Prelude.{◌≤◌}
use Rattle.sv_types.specs.declared.statement.Function.{Function}
use Rattle.expr_type.specs.declared.halt.Halt.{Halt}
use Rattle.expr_type.specs.Names.{Source}
use Rattle.expr_type.specs.Typings.{Typing, all}
use Rattle.pattern_types.specs.Meaning.{operand_of}
use Rattle.pattern_types.specs.declared.operand.Operand as O
use Rattle.typing_steps.specs.Steps.{TypesTo}
use Rattle.typing_parts.specs.Operands.{as_operand}
use Rattle.typing_calls.specs.Lists.{Follows, all_meant, as_meant}
use Rattle.typing_calls.proofs.InTurn.{follow-types}

-- operands as they are meant
pub operand-meant : (k : Source) (r : Result O.Operand Halt) → as_operand k r ≡ as_meant (operand_of k) r
operand-meant k (Ok o) = refl
operand-meant k (Err h) = refl

-- one more of them, and all
more : {E B : Type 0} (step : E → B) (es : List E) (i : ℕ) (e : E) → i < length es → e ≡ get_or es i e → map step (take (i + 1) es) ≡ map step (take i es) ++ step e ∷ []
more {E = E} step es i e within is =
    ap (map step) (take_more es i e within) ∙ map-append step (take i es) (get_or es i e ∷ []) ∙ ap (λ (x : E). map step (take i es) ++ step x ∷ []) (sym is)

pub turn-types : {A B E : Type 0} (f : A → B) (step : E → Typing B) (es : List E) (i : ℕ) (e : E) (fs gs hs : List Function) (made : Result (Vec A Global) Halt) (next : Result A Halt) (r : Result (Vec A Global) Halt)
    → i < length es → e ≡ get_or es i e → Follows made next r → TypesTo (all_meant f made) (all (map step (take i es)) fs) gs → TypesTo (as_meant f next) (step e gs) hs
    → TypesTo (all_meant f r) (all (map step (take (i + 1) es)) fs) hs
turn-types {B = B} f step es i e fs gs hs made next r within is s p q =
    subst (λ (xs : List (Typing B)). TypesTo (all_meant f r) (all xs fs) hs) (sym (more step es i e within is)) (follow-types f (map step (take i es)) (step e) fs gs hs made next r s p q)

pub all-types : {B E : Type 0} (step : E → Typing B) (es : List E) (n : ℕ) (fs gs : List Function) (r : Result (List B) Halt) → length es ≤ n
    → TypesTo r (all (map step (take n es)) fs) gs → TypesTo r (all (map step es) fs) gs
all-types {E = E} step es n fs gs r over p = subst (λ (xs : List E). TypesTo r (all (map step xs) fs) gs) (take_all n es over) p
