-- Rules in a row, which make no function known, as what is passed in a call.
use Rattle.std.proofs.Common.{◌≡◌, List, [], ◌∷◌, map, refl, ap, ◌∙◌, subst}
use Rattle.std.specs.Prelude.{Result, Ok, Err}
use Rattle.sv_types.specs.declared.statement.Function.{Function}
use Rattle.expr_type.specs.declared.halt.Halt.{Halt}
use Rattle.expr_type.specs.declared.halt.Halt.TheVariants as H
use Rattle.expr_type.specs.Answers.{Gives}
use Rattle.expr_type.specs.Typings.{Checked, Typed, Typing, joined, applied, all, all_of, rule, whole, where_whole}
use Rattle.typing_steps.specs.Steps.{TypesTo}

abbrev put_first : {A : Type 0} → A × List A → Typing (List A)
put_first p = whole (p.0 ∷ p.1)

by-first : {A : Type 0} (j : Checked (A × List A)) (fs : List Function) → applied j put_first fs ≡ record { result = where_whole j (λ p. Ok (p.0 ∷ p.1)); functions = fs }
by-first (Ok p) fs = refl
by-first (Err x) fs = refl

pub rules-are : {A : Type 0} (cs : List (Checked A)) (fs : List Function) → all (map rule cs) fs ≡ record { result = all_of cs; functions = fs }
rules-are [] fs = refl
rules-are {A = A} (c ∷ cs) fs =
    ap (λ (t : Typed (List A)). applied (joined c t.result) put_first t.functions) (rules-are cs fs) ∙ by-first (joined c (all_of cs)) fs

gives-by : {A : Type 0} (r : Result A Halt) (c : Checked A) (fs : List Function) → TypesTo r (record { result = c; functions = fs }) fs → Gives r c
gives-by {A = A} (Ok a) c fs h = ap (λ (t : Typed A). t.result) h
gives-by (Err H.Memory) c fs h = tt
gives-by (Err (H.Breaks at n)) c fs h = h
gives-by (Err H.Quiet) c fs h = h.quiet

-- a walk over rules gives what all of them give
pub gives-all : {A : Type 0} (r : Result (List A) Halt) (cs : List (Checked A)) (fs : List Function) → TypesTo r (all (map rule cs) fs) fs → Gives r (all_of cs)
gives-all {A = A} r cs fs h = gives-by r (all_of cs) fs (subst (λ (t : Typed (List A)). TypesTo r t fs) (rules-are cs fs) h)
