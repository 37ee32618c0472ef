-- A list that begins behind a use, and a file that is opened.
use Rattle.std.proofs.Common.{◌≡◌, ◌≤◌, ℕ, Bool, true, false, List, [], ◌∷◌, length, drop, Option, Some, Result, Ok, Err, IfOk, refl, ap, ◌∙◌}
use Rattle.sv_source.specs.declared.token.Token.{Token}
use Rattle.sv_macro.specs.Lines.{behind_lines, any_token, first_by}
use Rattle.sv_macro.specs.Brackets.{is_parenthesis}
use Rattle.sv_macro.specs.Lists.{taken}
use Rattle.sv_macro.specs.declared.coming.Coming.{Coming}
use Rattle.sv_preproc.specs.States.{State, Step, broken, with_coming, behind_next, next_any}
use Rattle.sv_preproc.specs.Uses.{with_list, list_from}
use Rattle.sv_preproc.specs.Searches.{room_left, opened}
use Rattle.sv_preproc.specs.Answers.{Opens}
use Rattle.sv_preproc.specs.declared.settings.ExpandFail.{ExpandFail}

chosen : (b : Bool) (x y : Step) → b ≡ true → (elim b as (λ _. Step) [ true ↦ x | false ↦ y ]) ≡ x
chosen true x y e = refl
chosen false x y e = absurd (let no : false ≡ true = e in cc)

-- the parenthesis was taken off behind newlines
pub list_at : (s : State) (used : Token) (busy : Bool) (arity : ℕ) (item : Coming) (rest : List Coming) (t : Token) → behind_lines s.coming ≡ item ∷ rest → any_token item ≡ Some t → is_parenthesis t ≡ true →
    list_from (behind_next s) used busy arity (next_any s) ≡ with_list (with_coming s rest) used busy arity (taken [] rest)
list_at s used busy arity item rest t e f p =
    ap (λ (lines : List Coming). list_from (with_coming s (drop 1 lines)) used busy arity (first_by any_token lines)) e ∙
    ap (λ (o : Option Token). list_from (with_coming s rest) used busy arity o) f ∙
    chosen (is_parenthesis t) (with_list (with_coming s rest) used busy arity (taken [] rest)) (broken (with_coming s rest) 203 used) p

pub opens_at : (top : Bool) (before now : State) (path bytes : List ℕ) (result : Result Bool ExpandFail) → length bytes ≤ room_left before → IfOk result (λ b. b ≡ true) →
    IfOk result (λ b. now ≡ opened top before (record { path = path; bytes = bytes })) → IfOk result (λ b. Opens b top before now)
opens_at top before now path bytes (Ok b) within is e = (is, (record { path = path; bytes = bytes }, within, e))
opens_at top before now path bytes (Err fail) within is e = tt

pub all_true : (result : Result Bool ExpandFail) (P : Type 0) → IfOk result (λ b. (b ≡ true) × P) → IfOk result (λ b. b ≡ true)
all_true (Ok b) P k = k.0
all_true (Err fail) P k = tt
