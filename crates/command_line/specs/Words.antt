-- The words of the command line: `[-I DIR].. [-D NAME[=TEXT]].. --top=NAME FILE..`, in any order.
use Rattle.std.specs.Prelude.{ℕ, ◌+◌, ◌≤◌, ◌^◌, ◌==◌, nat_le, Bool, true, false, not, ◌&&◌, ◌||◌, List, [], ◌∷◌, ◌++◌, Option, Some, None, if◌then◌else◌, map, sum, take, drop, length, codes}
use Rattle.std.specs.List.{list_all, list_any, flat_map, take_while}
use Rattle.std.specs.Option.{is_some}
use Rattle.std.specs.Str.{bytes_eq}
use Rattle.sv_source.specs.declared.token.Token.{Token}
use Rattle.sv_lexer.specs.Lexing.{tokens_of}
use Rattle.sv_macro.specs.Tokens.{is_name}
use Rattle.sv_macro.specs.Definitions.{first_barred}
use Rattle.sv_preproc.specs.declared.settings.Define.{Define}
use Rattle.command_line.specs.declared.part.Part.{Part}
use Rattle.command_line.specs.declared.part.Part.TheVariants.{Top, Directory, Macro, File}
use Rattle.command_line.specs.declared.words.Asked.{Asked}

-- An option that stands alone takes the next word as its value, as if both were one word.
abbrev pub is_alone : List ℕ → Bool
is_alone word = bytes_eq word (codes "-I") || bytes_eq word (codes "-D")

abbrev pub joined_behind : Option (List ℕ) → List (List ℕ) → List (List ℕ)
joined_behind None [] = []
joined_behind (Some option) [] = option ∷ []
joined_behind None (word ∷ words) = if is_alone word then joined_behind (Some word) words else word ∷ joined_behind None words
joined_behind (Some option) (word ∷ words) = (option ++ word) ∷ joined_behind None words

abbrev pub joined : List (List ℕ) → List (List ℕ)
joined words = joined_behind None words

-- what a word says; one that is empty, or begins with `-` and is no option, says nothing
abbrev pub begins : List ℕ → List ℕ → Bool
begins front word = bytes_eq (take (length front) word) front

abbrev pub is_path : List ℕ → Bool
is_path [] = false
is_path (c ∷ word) = not (c == 45)

abbrev pub part_of : List ℕ → Option Part
part_of word =
    if begins (codes "--top=") word then Some (Top (drop 6 word))
    else if begins (codes "-I") word then Some (Directory (drop 2 word))
    else if begins (codes "-D") word then Some (Macro (drop 2 word))
    else if is_path word then Some (File word)
    else None

-- what they say of each kind, in order
abbrev pub top_in : Part → List (List ℕ)
top_in (Top name) = name ∷ []
top_in _ = []

abbrev pub directory_in : Part → List (List ℕ)
directory_in (Directory path) = path ∷ []
directory_in _ = []

abbrev pub macro_in : Part → List (List ℕ)
macro_in (Macro text) = text ∷ []
macro_in _ = []

abbrev pub file_in : Part → List (List ℕ)
file_in (File path) = path ∷ []
file_in _ = []

-- a simple name is the text of one name token
abbrev pub is_one_name : List ℕ → List Token → Bool
is_one_name text [] = false
is_one_name text (t ∷ []) = is_name t && bytes_eq t.text text
is_one_name text (t ∷ u ∷ rest) = false

abbrev pub is_simple_name : List ℕ → Bool
is_simple_name text = is_one_name text (tokens_of 0 text)

abbrev pub has_newline : List ℕ → Bool
has_newline text = list_any (λ c. c == 10) text

-- a macro's body is one line, without a comment that isn't closed and a directive other than the use of a macro
abbrev pub is_body : List ℕ → Bool
is_body text = not (has_newline text) && not (is_some (first_barred (tokens_of 0 text)))

-- `NAME` or `NAME=TEXT`
abbrev pub name_before : List ℕ → List ℕ
name_before text = take_while (λ c. not (c == 61)) text

abbrev pub body_behind : List ℕ → List ℕ
body_behind text = drop (length (name_before text) + 1) text

abbrev pub define_of : List ℕ → Option Define
define_of text =
    if is_simple_name (name_before text) && is_body (body_behind text)
    then Some (record { name = name_before text; body = tokens_of 0 (body_behind text) })
    else None

-- each of them, if all are there
abbrev pub prepended : {A : Type 0} → Option A → Option (List A) → Option (List A)
prepended None xs = None
prepended (Some x) None = None
prepended (Some x) (Some xs) = Some (x ∷ xs)

abbrev pub each : {A B : Type 0} → (A → Option B) → List A → Option (List B)
each f [] = Some []
each f (x ∷ xs) = prepended (f x) (each f xs)

-- the one top
abbrev pub only_top : List (List ℕ) → Option (List ℕ)
only_top [] = None
only_top (name ∷ []) = if is_simple_name name then Some name else None
only_top (name ∷ other ∷ names) = None

abbrev pub isnt_empty : {A : Type 0} → List A → Bool
isnt_empty [] = false
isnt_empty (x ∷ xs) = true

abbrev pub with_parts : Option (List ℕ) → Option (List Define) → List (List ℕ) → List (List ℕ) → Option Asked
with_parts None defines dirs files = None
with_parts (Some top) None dirs files = None
with_parts (Some top) (Some defines) dirs files =
    if list_all isnt_empty dirs && isnt_empty files
    then Some (record { top = top; settings = record { files = files; dirs = dirs; defines = defines } })
    else None

-- what parts ask for: one top, directories with names, definitions that are well formed, and a file at least
abbrev pub asked_by : Option (List Part) → Option Asked
asked_by None = None
asked_by (Some parts) =
    with_parts (only_top (flat_map top_in parts)) (each define_of (flat_map macro_in parts)) (flat_map directory_in parts) (flat_map file_in parts)

-- at most 2^30 words, of at most 2^30 bytes together
abbrev pub are_few : List (List ℕ) → Bool
are_few words = nat_le (length words) (2 ^ 30) && nat_le (sum (map length words)) (2 ^ 30)

-- what the words ask for, if they have the form
abbrev pub asked : List (List ℕ) → Option Asked
asked words = if are_few words then asked_by (each part_of (joined words)) else None

-- a request names few files
abbrev pub Few : Option Asked → Type 0
Few None = Unit {0}
Few (Some request) = length request.settings.files ≤ 2 ^ 30
