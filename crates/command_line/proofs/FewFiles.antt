-- Few words ask for few files.
use Rattle.std.proofs.Common.{◌≡◌, ℕ, suc, ◌+◌, ◌≤◌, ◌^◌, nat_le, List, [], ◌∷◌, map, sum, length, Bool, true, false, ◌&&◌, if◌then◌else◌, Some, None, refl, arith, length-append}
use Rattle.std.specs.Prelude.{Option}
use Rattle.std.specs.List.{list_all, flat_map}
use Rattle.std.proofs.lemmas.Bool.Decides.{nat_tests}
use Rattle.sv_preproc.specs.declared.settings.Define.{Define}
use Rattle.command_line.specs.declared.part.Part.{Part}
use Rattle.command_line.specs.declared.part.Part.TheVariants.{Top, Directory, Macro, File}
use Rattle.command_line.specs.Words.{Few, are_few, asked, asked_by, each, prepended, part_of, is_alone, joined, joined_behind, top_in, directory_in, macro_in, file_in, only_top, define_of, with_parts, isnt_empty}

abbrev open_count : Option (List ℕ) → ℕ
open_count None = 0
open_count (Some option) = 1

either : (b : Bool) (xs ys : List (List ℕ)) (n : ℕ) → length xs ≤ n → length ys ≤ n → length (if b then xs else ys) ≤ n
either true xs ys n h k = h
either false xs ys n h k = k

joined_fewer : (option : Option (List ℕ)) (words : List (List ℕ)) → length (joined_behind option words) ≤ open_count option + length words
joined_fewer None [] = omega arith
joined_fewer (Some option) [] = omega arith
joined_fewer None (word ∷ words) =
    either (is_alone word) (joined_behind (Some word) words) (word ∷ joined_behind None words) (0 + length (word ∷ words))
    (omega (arith, joined_fewer (Some word) words)) (omega (arith, joined_fewer None words))
joined_fewer (Some option) (word ∷ words) = omega (arith, joined_fewer None words)

abbrev AtMost : ℕ → Option (List Part) → Type 0
AtMost n None = Unit {0}
AtMost n (Some parts) = length parts ≤ n

prepended_fewer : (part : Option Part) (parts : Option (List Part)) (n : ℕ) → AtMost n parts → AtMost (suc n) (prepended part parts)
prepended_fewer None parts n h = tt
prepended_fewer (Some part) None n h = tt
prepended_fewer (Some part) (Some parts) n h = omega arith

parts_fewer : (words : List (List ℕ)) → AtMost (length words) (each part_of words)
parts_fewer [] = omega arith
parts_fewer (word ∷ words) = prepended_fewer (part_of word) (each part_of words) (length words) (parts_fewer words)

fewer : (parts : Option (List Part)) (m n : ℕ) → m ≤ n → AtMost m parts → AtMost n parts
fewer None m n h k = tt
fewer (Some parts) m n h k = omega arith

file_fewer : (part : Part) → length (file_in part) ≤ 1
file_fewer (Top name) = omega arith
file_fewer (Directory path) = omega arith
file_fewer (Macro text) = omega arith
file_fewer (File path) = omega arith

files_fewer : (parts : List Part) → length (flat_map file_in parts) ≤ length parts
files_fewer [] = omega arith
files_fewer (part ∷ parts) = simp length-append (omega (arith, file_fewer part, files_fewer parts))

few_with : (top : Option (List ℕ)) (defines : Option (List Define)) (dirs files : List (List ℕ)) → length files ≤ 2 ^ 30 → Few (with_parts top defines dirs files)
few_with None defines dirs files h = tt
few_with (Some top) None dirs files h = tt
few_with (Some top) (Some defines) dirs files h = when (list_all isnt_empty dirs && isnt_empty files)
  where
    when : (b : Bool) → Few (if b then Some (record { top = top; settings = record { files = files; dirs = dirs; defines = defines } }) else None)
    when true = h
    when false = tt

few_by : (parts : Option (List Part)) → AtMost (2 ^ 30) parts → Few (asked_by parts)
few_by None h = tt
few_by (Some parts) h =
    few_with (only_top (flat_map top_in parts)) (each define_of (flat_map macro_in parts)) (flat_map directory_in parts) (flat_map file_in parts)
    (omega (arith, files_fewer parts))

first_holds : (a b : Bool) → (a && b) ≡ true → a ≡ true
first_holds true b h = refl
first_holds false b h = h

few_words : (words : List (List ℕ)) → are_few words ≡ true → length words ≤ 2 ^ 30
few_words words h =
    let first : nat_le (length words) (2 ^ 30) ≡ true = first_holds (nat_le (length words) (2 ^ 30)) (nat_le (sum (map length words)) (2 ^ 30)) h in
    grind (arith, nat_tests, first)

pub few_asked : (words : List (List ℕ)) → Few (asked words)
few_asked words = when (are_few words) refl
  where
    when : (b : Bool) → are_few words ≡ b → Few (if b then asked_by (each part_of (joined words)) else None)
    when true h = few_by (each part_of (joined words)) (fewer (each part_of (joined words)) (length (joined words)) (2 ^ 30) (omega (arith, few_words words h, joined_fewer None words)) (parts_fewer (joined words)))
    when false h = tt
