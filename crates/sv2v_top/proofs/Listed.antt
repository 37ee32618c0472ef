-- A refusal stands in a file that was loaded or looked for.
use Rattle.std.proofs.Common.{ℕ, ◌<◌, ◌≤◌, List, [], ◌∷◌, ◌++◌, length, Option, subst, arith}
use Rattle.std.specs.List.{All}
use Rattle.std.proofs.lemmas.List.Elements.{All-head, All-tail}
use Rattle.sv_source.specs.declared.token.Token.{Token}
use Rattle.sv_preproc.specs.Runs.{end_token}
use Rattle.sv_preproc.proofs.Ending.{ends-with-end}
use Rattle.sv_source.specs.Loading.{Contents}
use Rattle.sv_source.specs.declared.refusal.Refusal.{Refusal}
use Rattle.sv_preproc.proofs.Placed.{refusal-placed, tokens-placed}
use Rattle.command_line.specs.declared.words.Asked.{Asked}
use Rattle.sv2v_top.specs.Headline.{Cause, in_expansion, in_tokens}
use Rattle.sv2v_top.proofs.Places.{break-placed}

-- what holds of all holds of the last one
pub last-of : {A : Type 0} (P : A → Type 0) (xs : List A) (y : A) → All P (xs ++ y ∷ []) → P y
last-of P [] y a = All-head P y [] a
last-of P (x ∷ xs) y a = last-of P xs y (All-tail P x (xs ++ y ∷ []) a)

pub cause-listed : (request : Asked) (told : Option Contents) (names : List (List ℕ)) (r : Refusal) → 1 ≤ length request.settings.files
    → Cause request told names r → r.place.file < length names
cause-listed request told names r some (in_expansion x) = refusal-placed request.settings told r names x
cause-listed request told names r some (in_tokens tokens x b) =
    let placed = tokens-placed request.settings told tokens names some x in
    let ends = ends-with-end request.settings told tokens names x in
    let last : ends.1.file < length names =
    last-of (λ (t : Token). t.place.file < length names) ends.0 (end_token ends.1) (subst (All (λ (t : Token). t.place.file < length names)) ends.2 placed) in
    break-placed (length names) request.top tokens r (omega arith) placed b
