-- What the words ask for when they are read one by one.
use Rattle.std.specs.Prelude.{ℕ, ◌≤◌, List, [], ◌∷◌, ◌++◌, Option, Some, None, if◌then◌else◌, length}
use Rattle.std.specs.Option.{option_map, option_and_then}
use Rattle.sv_preproc.specs.declared.settings.Define.{Define}
use Rattle.sv_preproc.specs.declared.settings.Settings.{Settings}
use Rattle.command_line.specs.declared.part.Part.{Part}
use Rattle.command_line.specs.declared.part.Part.TheVariants.{Top, Directory, Macro, File}
use Rattle.command_line.specs.declared.words.Asked.{Asked}
use Rattle.command_line.specs.declared.draft.Draft.{Draft}
use Rattle.command_line.specs.Words.{is_simple_name, define_of, isnt_empty, part_of}

abbrev pub text_in : Part → List ℕ
text_in (Top name) = name
text_in (Directory path) = path
text_in (Macro text) = text
text_in (File path) = path

-- a word's part is no longer than the word
abbrev pub NoLonger : List ℕ → Option Part → Type 0
NoLonger word None = Unit {0}
NoLonger word (Some part) = length (text_in part) ≤ length word

-- nothing is asked for
abbrev pub start : Draft
start = record { top = None; settings = record { files = []; dirs = []; defines = [] } }

-- the only top, which is a simple name
abbrev pub first_top : Option (List ℕ) → List ℕ → Option (List ℕ)
first_top None name = if is_simple_name name then Some name else None
first_top (Some other) name = None

abbrev pub with_top : Draft → List ℕ → Option Draft
with_top d name = option_map (λ top. record { top = Some top; settings = d.settings }) (first_top d.top name)

-- a directory, which isn't empty
abbrev pub with_directory : Draft → List ℕ → Option Draft
with_directory d path =
    if isnt_empty path
    then Some (record { top = d.top; settings = record { files = d.settings.files; dirs = d.settings.dirs ++ path ∷ []; defines = d.settings.defines } })
    else None

-- a macro, which is well formed
abbrev pub defining : Draft → Define → Draft
defining d define =
    record { top = d.top; settings = record { files = d.settings.files; dirs = d.settings.dirs; defines = d.settings.defines ++ define ∷ [] } }

abbrev pub with_macro : Draft → List ℕ → Option Draft
with_macro d text = option_map (defining d) (define_of text)

-- a file
abbrev pub with_file : Draft → List ℕ → Option Draft
with_file d path =
    Some (record { top = d.top; settings = record { files = d.settings.files ++ path ∷ []; dirs = d.settings.dirs; defines = d.settings.defines } })

-- one more part, if it is well formed
abbrev pub with_part : Draft → Part → Option Draft
with_part d (Top name) = with_top d name
with_part d (Directory path) = with_directory d path
with_part d (Macro text) = with_macro d text
with_part d (File path) = with_file d path

-- one more word, if it is well formed
abbrev pub with_word : Draft → List ℕ → Option Draft
with_word d word = option_and_then (with_part d) (part_of word)

-- all of some words
abbrev pub with_words : Option Draft → List (List ℕ) → Option Draft
with_words None words = None
with_words (Some d) [] = Some d
with_words (Some d) (word ∷ words) = with_words (with_word d word) words

-- what a draft asks for, if it has a top and a file
abbrev pub asked_with : Option (List ℕ) → Settings → Option Asked
asked_with None settings = None
asked_with (Some top) settings = if isnt_empty settings.files then Some (record { top = top; settings = settings }) else None

abbrev pub finished : Draft → Option Asked
finished d = asked_with d.top d.settings
