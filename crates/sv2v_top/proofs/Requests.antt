-- A request names a file at least.
use Rattle.std.proofs.Common.{◌≡◌, ℕ, ◌≤◌, Bool, true, false, cond, ◌&&◌, List, [], ◌∷◌, length, Option, Some, None, refl, subst, arith}
use Rattle.std.specs.List.{flat_map, list_all}
use Rattle.std.proofs.lemmas.Bool.{and_parts, false≢true}
use Rattle.sv_preproc.specs.declared.settings.Define.{Define}
use Rattle.command_line.specs.declared.part.Part.{Part}
use Rattle.command_line.specs.declared.words.Asked.{Asked}
use Rattle.command_line.specs.Words.{define_of, each, only_top, with_parts, asked_by, asked, are_few, part_of, joined, macro_in, directory_in, file_in, top_in, isnt_empty}

-- what isn't empty has an element
pub some-length : {A : Type 0} (xs : List A) → isnt_empty xs ≡ true → 1 ≤ length xs
some-length [] e = absurd (false≢true e)
some-length (x ∷ xs) e = omega arith

pub parts-files : (top : Option (List ℕ)) (defines : Option (List Define)) (dirs files : List (List ℕ)) (request : Asked)
    → with_parts top defines dirs files ≡ Some request → 1 ≤ length request.settings.files
parts-files None defines dirs files request e = cc
parts-files (Some top) None dirs files request e = cc
parts-files (Some top) (Some defines) dirs files request e =
    pick (list_all isnt_empty dirs && isnt_empty files) e (λ (h : (list_all isnt_empty dirs && isnt_empty files) ≡ true). some-length files (and_parts (list_all isnt_empty dirs) (isnt_empty files) h).1)
  where
    pick : (holds : Bool) → cond holds (Some (record { top = top; settings = record { files = files; dirs = dirs; defines = defines } })) None ≡ Some request
        → (holds ≡ true → 1 ≤ length files) → 1 ≤ length request.settings.files
    pick true e h =
        let same : record { top = top; settings = record { files = files; dirs = dirs; defines = defines } } ≡ request = cc in
        subst (λ (x : Asked). 1 ≤ length x.settings.files) same (h refl)
    pick false e h = cc

pub request-files : (words : List (List ℕ)) (request : Asked) → asked words ≡ Some request → 1 ≤ length request.settings.files
request-files words request e = few (are_few words) e
  where
    of_parts : (parts : Option (List Part)) → asked_by parts ≡ Some request → 1 ≤ length request.settings.files
    of_parts None e = cc
    of_parts (Some parts) e =
        parts-files (only_top (flat_map top_in parts)) (each define_of (flat_map macro_in parts)) (flat_map directory_in parts) (flat_map file_in parts) request e

    few : (holds : Bool) → cond holds (asked_by (each part_of (joined words))) None ≡ Some request → 1 ≤ length request.settings.files
    few true e = of_parts (each part_of (joined words)) e
    few false e = cc
