-- Words that are read one by one ask for what they ask for together.
use Rattle.std.proofs.Common.{◌≡◌, ℕ, List, [], ◌∷◌, ◌++◌, Bool, true, false, ◌&&◌, if◌then◌else◌, Some, None, refl, ap, sym, ◌∙◌, append_assoc, append-nil}
use Rattle.std.specs.Prelude.{Option}
use Rattle.std.specs.List.{list_all, flat_map}
use Rattle.std.specs.Option.{option_map, option_and_then}
use Rattle.sv_preproc.specs.declared.settings.Define.{Define}
use Rattle.sv_preproc.specs.declared.settings.Settings.{Settings}
use Rattle.command_line.specs.declared.part.Part.{Part}
use Rattle.command_line.specs.declared.part.Part.TheVariants.{Top, Directory, Macro, File}
use Rattle.command_line.specs.declared.words.Asked.{Asked}
use Rattle.command_line.specs.declared.draft.Draft.{Draft}
use Rattle.command_line.specs.Words.{are_few, asked, joined, asked_by, is_simple_name, define_of, isnt_empty, part_of, each, prepended, top_in, directory_in, macro_in, file_in, only_top, with_parts}
use Rattle.command_line.specs.Drafts.{start, first_top, with_top, with_directory, with_macro, with_file, with_part, with_word, with_words, defining, finished, asked_with}

-- the top of a draft that some tops follow
abbrev top_with : Option (List ℕ) → List (List ℕ) → Option (List ℕ)
top_with None names = only_top names
top_with (Some top) [] = Some top
top_with (Some top) (name ∷ names) = None

-- what a draft asks for when parts of each kind follow
abbrev followed : Settings → Option (List ℕ) → Option (List Define) → List (List ℕ) → List (List ℕ) → Option Asked
followed s None defines dirs files = None
followed s (Some top) None dirs files = None
followed s (Some top) (Some defines) dirs files =
    if list_all isnt_empty dirs && isnt_empty (s.files ++ files)
    then Some (record { top = top; settings = record { files = s.files ++ files; dirs = s.dirs ++ dirs; defines = s.defines ++ defines } })
    else None

abbrev asked_from : Draft → Option (List Part) → Option Asked
asked_from d None = None
asked_from d (Some parts) =
    followed d.settings (top_with d.top (flat_map top_in parts)) (each define_of (flat_map macro_in parts)) (flat_map directory_in parts) (flat_map file_in parts)

abbrev from_all : Option Draft → Option (List Part) → Option Asked
from_all None parts = None
from_all (Some d) parts = asked_from d parts

-- tops
top_step : (top : Option (List ℕ)) (name : List ℕ) (names : List (List ℕ)) → top_with top (name ∷ names) ≡ option_and_then (λ t. top_with (Some t) names) (first_top top name)
top_step (Some top) name names = refl
top_step None name [] = only (is_simple_name name)
  where
    only : (b : Bool) → (if b then Some name else None) ≡ option_and_then (λ t. top_with (Some t) []) (if b then Some name else None)
    only true = refl
    only false = refl
top_step None name (other ∷ names) = none (is_simple_name name)
  where
    none : (b : Bool) → None ≡ option_and_then (λ t. top_with (Some t) (other ∷ names)) (if b then Some name else None)
    none true = refl
    none false = refl

step_top : (d : Draft) (name : List ℕ) (parts : List Part) → asked_from d (Some (Top name ∷ parts)) ≡ from_all (with_top d name) (Some parts)
step_top d name parts =
    ap (λ top. followed d.settings top (each define_of (flat_map macro_in parts)) (flat_map directory_in parts) (flat_map file_in parts)) (top_step d.top name (flat_map top_in parts))
    ∙ none_or (first_top d.top name)
  where
    none_or : (o : Option (List ℕ)) → followed d.settings (option_and_then (λ t. top_with (Some t) (flat_map top_in parts)) o) (each define_of (flat_map macro_in parts)) (flat_map directory_in parts) (flat_map file_in parts) ≡ from_all (option_map (λ top. record { top = Some top; settings = d.settings }) o) (Some parts)
    none_or None = refl
    none_or (Some top) = refl

-- directories
step_directory : (d : Draft) (path : List ℕ) (parts : List Part) → asked_from d (Some (Directory path ∷ parts)) ≡ from_all (with_directory d path) (Some parts)
step_directory d [] parts = none (top_with d.top (flat_map top_in parts)) (each define_of (flat_map macro_in parts))
  where
    none : (top : Option (List ℕ)) (defines : Option (List Define)) → followed d.settings top defines ([] ∷ flat_map directory_in parts) (flat_map file_in parts) ≡ None
    none None defines = refl
    none (Some top) None = refl
    none (Some top) (Some defines) = refl
step_directory d (c ∷ path) parts = same (top_with d.top (flat_map top_in parts)) (each define_of (flat_map macro_in parts))
  where
    same : (top : Option (List ℕ)) (defines : Option (List Define)) → followed d.settings top defines ((c ∷ path) ∷ flat_map directory_in parts) (flat_map file_in parts) ≡ followed (record { files = d.settings.files; dirs = d.settings.dirs ++ (c ∷ path) ∷ []; defines = d.settings.defines }) top defines (flat_map directory_in parts) (flat_map file_in parts)
    same None defines = refl
    same (Some top) None = refl
    same (Some top) (Some defines) = rw (append_assoc d.settings.dirs ((c ∷ path) ∷ []) (flat_map directory_in parts))

-- macros
step_macro : (d : Draft) (text : List ℕ) (parts : List Part) → asked_from d (Some (Macro text ∷ parts)) ≡ from_all (with_macro d text) (Some parts)
step_macro d text parts = same (define_of text)
  where
    none : (top : Option (List ℕ)) → followed d.settings top None (flat_map directory_in parts) (flat_map file_in parts) ≡ None
    none None = refl
    none (Some top) = refl

    placed : (define : Define) (top : Option (List ℕ)) (defines : Option (List Define)) → followed d.settings top (prepended (Some define) defines) (flat_map directory_in parts) (flat_map file_in parts) ≡ followed (defining d define).settings top defines (flat_map directory_in parts) (flat_map file_in parts)
    placed define None defines = refl
    placed define (Some top) None = refl
    placed define (Some top) (Some defines) = rw (append_assoc d.settings.defines (define ∷ []) defines)

    same : (define : Option Define) → followed d.settings (top_with d.top (flat_map top_in parts)) (prepended define (each define_of (flat_map macro_in parts))) (flat_map directory_in parts) (flat_map file_in parts) ≡ from_all (option_map (defining d) define) (Some parts)
    same None = none (top_with d.top (flat_map top_in parts))
    same (Some define) = placed define (top_with d.top (flat_map top_in parts)) (each define_of (flat_map macro_in parts))

-- files
step_file : (d : Draft) (path : List ℕ) (parts : List Part) → asked_from d (Some (File path ∷ parts)) ≡ from_all (with_file d path) (Some parts)
step_file d path parts = same (top_with d.top (flat_map top_in parts)) (each define_of (flat_map macro_in parts))
  where
    same : (top : Option (List ℕ)) (defines : Option (List Define)) → followed d.settings top defines (flat_map directory_in parts) (path ∷ flat_map file_in parts) ≡ followed (record { files = d.settings.files ++ path ∷ []; dirs = d.settings.dirs; defines = d.settings.defines }) top defines (flat_map directory_in parts) (flat_map file_in parts)
    same None defines = refl
    same (Some top) None = refl
    same (Some top) (Some defines) = rw (append_assoc d.settings.files (path ∷ []) (flat_map file_in parts))

step : (d : Draft) (part : Part) (parts : List Part) → asked_from d (Some (part ∷ parts)) ≡ from_all (with_part d part) (Some parts)
step d (Top name) parts = step_top d name parts
step d (Directory path) parts = step_directory d path parts
step d (Macro text) parts = step_macro d text parts
step d (File path) parts = step_file d path parts

-- no draft and no parts ask for nothing
from_none : (d : Option Draft) → from_all d None ≡ None
from_none None = refl
from_none (Some d) = refl

from_word : (d : Draft) (part : Option Part) (parts : Option (List Part)) → asked_from d (prepended part parts) ≡ from_all (option_and_then (with_part d) part) parts
from_word d None parts = refl
from_word d (Some part) None = sym (from_none (with_part d part))
from_word d (Some part) (Some parts) = step d part parts

-- a draft that nothing follows
ends : (d : Draft) → finished d ≡ asked_from d (Some [])
ends d = same d.top
  where
    same : (top : Option (List ℕ)) → asked_with top d.settings ≡ followed d.settings (top_with top []) (Some []) [] []
    same None = refl
    same (Some top) = simp append-nil

reads : (d : Option Draft) (words : List (List ℕ)) → option_and_then finished (with_words d words) ≡ from_all d (each part_of words)
reads None words = refl
reads (Some d) [] = ends d
reads (Some d) (word ∷ words) = reads (with_word d word) words ∙ sym (from_word d (part_of word) (each part_of words))

from_start : (parts : Option (List Part)) → asked_from start parts ≡ asked_by parts
from_start None = refl
from_start (Some parts) = same (only_top (flat_map top_in parts)) (each define_of (flat_map macro_in parts))
  where
    same : (top : Option (List ℕ)) (defines : Option (List Define)) → followed start.settings top defines (flat_map directory_in parts) (flat_map file_in parts) ≡ with_parts top defines (flat_map directory_in parts) (flat_map file_in parts)
    same None defines = refl
    same (Some top) None = refl
    same (Some top) (Some defines) = refl

read_together : (words : List (List ℕ)) → option_and_then finished (with_words (Some start) words) ≡ asked_by (each part_of words)
read_together words = reads (Some start) words ∙ from_start (each part_of words)

asked_few : (words : List (List ℕ)) → are_few words ≡ true → asked words ≡ asked_by (each part_of (joined words))
asked_few words few = ap (λ b. if b then asked_by (each part_of (joined words)) else None) few

-- few words ask for what they ask for one by one
pub asked_one_by_one : (words : List (List ℕ)) (d : Option Draft) → are_few words ≡ true → d ≡ with_words (Some start) (joined words) → option_and_then finished d ≡ asked words
asked_one_by_one words d few e = ap (option_and_then finished) e ∙ read_together (joined words) ∙ sym (asked_few words few)
