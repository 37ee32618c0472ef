-- The words of the evaluator: `--lang sv|v --top NAME ROWS FILE...`, or `--gen N`.
use Rattle.std.specs.Prelude.{ℕ, ◌+◌, ◌*◌, ◌-◌, ◌^◌, ◌==◌, nat_le, nat_lt, Bool, true, false, not, ◌&&◌, ◌||◌, List, [], ◌∷◌, Option, Some, None, if◌then◌else◌, codes, length, map, sum, option_map, option_and_then}
use Rattle.std.specs.List.{list_all}
use Rattle.std.specs.Str.{bytes_eq}
use Rattle.clap.specs.Words.{Row, first_of, all_of, matches_of, fault_of}
use Rattle.clap.specs.Walk.{is_empty}
use Rattle.eval_words.specs.declared.words.Language.{Language}
use Rattle.eval_words.specs.declared.words.Language.TheVariants.{Source, Target}
use Rattle.eval_words.specs.declared.words.EvalRun.{EvalRun}
use Rattle.eval_words.specs.declared.words.EvalWords.{EvalWords}
use Rattle.eval_words.specs.declared.words.EvalWords.TheVariants.{Generate, Run}
use Rattle.eval_words.specs.Command.{eval_app}

abbrev pub are_few : List (List ℕ) → Bool
are_few words = nat_le (length words) (2 ^ 30) && nat_le (sum (map length words)) (2 ^ 30)

abbrev pub language_of : List ℕ → Option Language
language_of word = if bytes_eq word (codes "sv") then Some Source else if bytes_eq word (codes "v") then Some Target else None

-- a target text is one file
abbrev pub fits : Language → List (List ℕ) → Bool
fits Source files = true
fits Target files = length files == 1

abbrev pub run_of : Option Language → Option (List ℕ) → Option (List ℕ) → Option (List (List ℕ)) → Option EvalWords
run_of (Some language) (Some top) (Some rows) (Some files) =
    if fits language files then Some (Run (record { language = language; top = top; rows = rows; files = files })) else None
run_of (Some language) (Some top) (Some rows) None = None
run_of (Some language) (Some top) None files = None
run_of (Some language) None rows files = None
run_of None top rows files = None

abbrev pub run_in : List Row → Option EvalWords
run_in rows =
    run_of (option_and_then language_of (first_of (codes "lang") rows)) (first_of (codes "top") rows) (first_of (codes "ROWS") rows) (all_of (codes "FILE") rows)

-- a run, where the command takes the words
abbrev pub run_asked : List (List ℕ) → Option EvalWords
run_asked words = if is_empty (fault_of eval_app words) then run_in (matches_of eval_app words) else None

-- a decimal from 1 to 500 without a leading zero
abbrev pub is_digit : ℕ → Bool
is_digit c = nat_le 48 c && nat_le c 57

abbrev pub value_of : ℕ → List ℕ → ℕ
value_of n [] = n
value_of n (c ∷ cs) = value_of (10 * n + (c - 48)) cs

abbrev pub begins_with_zero : List ℕ → Bool
begins_with_zero [] = true
begins_with_zero (c ∷ cs) = c == 48

abbrev pub count_of : List ℕ → Option ℕ
count_of word =
    if begins_with_zero word || nat_lt 3 (length word) || not (list_all is_digit word) || nat_lt 500 (value_of 0 word) then None
    else Some (value_of 0 word)

abbrev pub generation_asked : List (List ℕ) → Option EvalWords
generation_asked [] = None
generation_asked (count ∷ []) = option_map Generate (count_of count)
generation_asked (count ∷ word ∷ words) = None

abbrev pub asked_by : List (List ℕ) → Option EvalWords
asked_by [] = run_asked []
asked_by (word ∷ words) = if bytes_eq word (codes "--gen") then generation_asked words else run_asked (word ∷ words)

-- what the words ask for, if they are of the form
abbrev pub asked : List (List ℕ) → Option EvalWords
asked words = if are_few words then asked_by words else None
