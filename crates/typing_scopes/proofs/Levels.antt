-- What is found in scopes that stand in one another.
use Rattle.std.proofs.Common.{◌≡◌, Bool, true, false, if◌then◌else◌, List, [], ◌∷◌, ◌++◌, Option, Some, None, refl, sym, ap, ◌∙◌}
use Rattle.std.specs.Borrow.{Bor}
use Rattle.sv_types.specs.declared.frame.ParamType.{ParamType}
use Rattle.sv_types.specs.declared.frame.ParamValue.{ParamValue}
use Rattle.frame_things.specs.Places.{first_by}
use Rattle.frame_things.specs.declared.things.NamedLocal.{NamedLocal}
use Rattle.typing_scopes.specs.declared.level.Level.{Level, fold_out-Level, map-Level, out-Level}
use Rattle.typing_scopes.specs.Scopes.{Lists, level_step, lists}

abbrev pub or_else : {T : Type 0} → Option T → Option T → Option T
or_else None o = o
or_else (Some x) o = Some x

-- what stands in front hides the rest
first-step : {T : Type 0} (x : T) (b : Bool) (t r s : Option T) → t ≡ or_else r s → (if b then Some x else t) ≡ or_else (if b then Some x else r) s
first-step x true t r s e = refl
first-step x false t r s e = e

pub first-append : {T : Type 0} (test : T → Bool) (xs ys : List T) → first_by test (xs ++ ys) ≡ or_else (first_by test xs) (first_by test ys)
first-append test [] ys = refl
first-append test (x ∷ xs) ys = first-step x (test x) (first_by test (xs ++ ys)) (first_by test xs) (first_by test ys) (first-append test xs ys)

pub found-here : {T : Type 0} (test : T → Bool) (own rest whole : List T) (x : T) → whole ≡ own ++ rest → Some x ≡ first_by test own → Some x ≡ first_by test whole
found-here {T = T} test own rest whole x is e =
    sym (ap (λ (ys : List T). first_by test ys) is ∙ first-append test own rest ∙ ap (λ (o : Option T). or_else o (first_by test rest)) (sym e))

pub found-around : {T : Type 0} (test : T → Bool) (own rest whole : List T) (r : Option T) → whole ≡ own ++ rest → None ≡ first_by test own → r ≡ first_by test rest → r ≡ first_by test whole
found-around {T = T} test own rest whole r is n e =
    e ∙ sym (ap (λ (ys : List T). first_by test ys) is ∙ first-append test own rest ∙ ap (λ (o : Option T). or_else o (first_by test rest)) (sym n))

-- what is declared in the scopes around a scope
abbrev pub outer_lists : Option (Bor Level) → Lists
outer_lists None = record { values = []; types = []; locals = [] }
outer_lists (Some r) = lists r.now

abbrev in_front : List ParamValue → List ParamType → List NamedLocal → Lists → Lists
in_front vs ts ls a = record { values = vs ++ a.values; types = ts ++ a.types; locals = ls ++ a.locals }

layer-is : (vs : List ParamValue) (ts : List ParamType) (ls : List NamedLocal) (o : Option (Bor Level))
    → level_step (map-Level Level Lists lists (record { values = vs; types = ts; locals = ls; outer = o })) ≡ in_front vs ts ls (outer_lists o)
layer-is vs ts ls None = refl
layer-is vs ts ls (Some r) = refl

level-is : (l : Level) → lists l ≡ in_front (out-Level l).values (out-Level l).types (out-Level l).locals (outer_lists (out-Level l).outer)
level-is l = fold_out-Level Lists level_step l ∙ layer-is (out-Level l).values (out-Level l).types (out-Level l).locals (out-Level l).outer

module _ (l : Level) where
  pub level-values : (lists l).values ≡ (out-Level l).values ++ (outer_lists (out-Level l).outer).values
  level-values = ap (λ (x : Lists). x.values) (level-is l)

  pub level-types : (lists l).types ≡ (out-Level l).types ++ (outer_lists (out-Level l).outer).types
  level-types = ap (λ (x : Lists). x.types) (level-is l)

  pub level-locals : (lists l).locals ≡ (out-Level l).locals ++ (outer_lists (out-Level l).outer).locals
  level-locals = ap (λ (x : Lists). x.locals) (level-is l)
