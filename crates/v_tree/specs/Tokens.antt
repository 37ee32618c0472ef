-- The tokens of a target text (IEEE 1364-2005 clauses 3.1 to 3.7): the longest one at each place, from left to right.
use Rattle.std.specs.Prelude.{ℕ, zero, suc, ◌+◌, ◌-◌, ◌==◌, Bool, true, false, not, ◌&&◌, ◌||◌, nat_le, nat_lt, if◌then◌else◌, List, [], ◌∷◌, map, take, drop, length, reverse, codes, Option, Some, None, find}
use Rattle.std.specs.List.{prefix_len, list_all}
use Rattle.std.specs.Str.Parse.{digits_value}
use Rattle.b4_core.specs.declared.bit.Bit4.{Bit4}
use Rattle.b4_core.specs.declared.bit.Bit4.TheVariants.{Zero, One, X, Z}
use Rattle.v_tree.specs.Reserved.{words_of, is_reserved}

pub data Token : Type 0 where
  -- the bytes of a simple name, or those of an escaped identifier without its backslash and its space
  name : (bytes : List ℕ) → Token
  -- a reserved word, `$signed` or `$unsigned`
  word : (bytes : List ℕ) → Token
  -- a sized binary number, its bits least first
  number : (bits : List Bit4) → Token
  -- a decimal number
  decimal : (value : ℕ) → Token
  -- an operator or a punctuation mark
  mark : (bytes : List ℕ) → Token
  -- bytes that are no token
  stray : Token

-- what a text begins with, and how many bytes it has behind the first one
pub data Cut : Type 0 where
  -- white space or a comment
  gap : (further : ℕ) → Cut
  cut : (token : Token) (further : ℕ) → Cut

abbrev pub is_digit : ℕ → Bool
is_digit c = nat_le 48 c && nat_le c 57

-- a letter or the underscore, which begin a simple name
abbrev pub is_letter : ℕ → Bool
is_letter c = nat_le 97 c && nat_le c 122 || nat_le 65 c && nat_le c 90 || c == 95

-- what goes on a simple name
abbrev pub is_word : ℕ → Bool
is_word c = is_letter c || is_digit c || c == 36

abbrev pub is_white : ℕ → Bool
is_white c = c == 32 || c == 10 || c == 9 || c == 13 || c == 12

-- printable, and no space
abbrev pub is_printable : ℕ → Bool
is_printable c = nat_le 33 c && nat_le c 126

-- 0, 1, x or z
abbrev pub is_bit : ℕ → Bool
is_bit c = c == 48 || c == 49 || c == 120 || c == 122

abbrev pub bit_of : ℕ → Bit4
bit_of c = if c == 48 then Zero else (if c == 49 then One else (if c == 120 then X else Z))

-- whether the text begins with these bytes
abbrev pub begins : List ℕ → List ℕ → Bool
begins [] text = true
begins (b ∷ bs) [] = false
begins (b ∷ bs) (c ∷ text) = b == c && begins bs text

-- how many bytes stand before the first place where the test passes, or before the end
abbrev pub until : (List ℕ → Bool) → List ℕ → ℕ
until stop [] = 0
until stop (c ∷ text) = if stop (c ∷ text) then 0 else suc (until stop text)

-- a reserved word, or a simple name
abbrev pub named : List ℕ → Token
named bytes = if is_reserved bytes then word bytes else name bytes

abbrev pub word_cut : ℕ → List ℕ → Cut
word_cut c text = let n = prefix_len is_word text in cut (named (c ∷ take n text)) n

-- A decimal number is below 2^32: digits that write a greater one are no token.
abbrev pub decimal_token : ℕ → Token
decimal_token value = if nat_lt value 4294967296 then decimal value else stray

-- behind n digits that give `size`: a size from 1 to 128, `'b` and exactly so many bits, or else a decimal number
abbrev pub sized_cut : ℕ → ℕ → List ℕ → Cut
sized_cut n size text =
    if begins (codes "'b") text && nat_le 1 size && nat_le size 128 && nat_le size (prefix_len is_bit (drop 2 text))
    then cut (number (reverse (map bit_of (take size (drop 2 text))))) (n + (2 + size))
    else cut (decimal_token size) n

-- a decimal number has no leading zero
abbrev pub digit_cut : ℕ → List ℕ → Cut
digit_cut c text =
    let n = prefix_len is_digit text in
    if c == 48 then cut (decimal 0) 0 else sized_cut n (digits_value 10 (c ∷ take n text)) (drop n text)

-- a backslash, printable bytes other than space, and a space
abbrev pub escaped_cut : List ℕ → Cut
escaped_cut text =
    let n = prefix_len is_printable text in
    if nat_lt 0 n && begins (codes " ") (drop n text) then cut (name (take n text)) (suc n) else cut stray 0

abbrev pub system_cut : List ℕ → Cut
system_cut text =
    if begins (codes "unsigned") text then cut (word (codes "$unsigned")) 8
    else (if begins (codes "signed") text then cut (word (codes "$signed")) 6 else cut stray 0)

-- the operators and punctuation marks, longer ones first
abbrev pub marks : List (List ℕ)
marks = words_of (codes "<<< >>> === !== <= >= == != << >> ** && || ~^ ~& ~| +: ( ) [ ] { } ; , . : ? @ = + - * / % & | ^ ~ ! < >")

abbrev pub mark_or_stray : Option (List ℕ) → Cut
mark_or_stray (Some bytes) = cut (mark bytes) (length bytes - 1)
mark_or_stray None = cut stray 0

abbrev pub mark_cut : List ℕ → Cut
mark_cut text = mark_or_stray (find (λ m. begins m text) marks)

-- behind `/*`: the bytes up to the first `*/`, where there is one
abbrev pub block_cut : List ℕ → Cut
block_cut text =
    let n = until (begins (codes "*/")) text in
    if nat_lt n (length text) then gap (n + 3) else cut stray (n + 1)

abbrev pub comment_or_mark : ℕ → List ℕ → Cut
comment_or_mark c text =
    if begins (codes "//") (c ∷ text) then gap (prefix_len (λ b. not (b == 10)) text)
    else (if begins (codes "/*") (c ∷ text) then block_cut (drop 1 text) else mark_cut (c ∷ text))

abbrev pub first_cut : ℕ → List ℕ → Cut
first_cut c text =
    if is_letter c then word_cut c text
    else (if is_digit c then digit_cut c text
    else (if is_white c then gap 0
    else (if c == 92 then escaped_cut text
    else (if c == 36 then system_cut text
    else comment_or_mark c text))))

-- the tokens of a text whose first bytes may still belong to what stands before them
abbrev pub tokens_from : ℕ → List ℕ → List Token
tokens_from further [] = []
tokens_from (suc further) (c ∷ text) = tokens_from further text
tokens_from zero (c ∷ text) = elim (first_cut c text) [
  | gap further ↦ tokens_from further text
  | cut token further ↦ token ∷ tokens_from further text
]

-- the tokens of a text
abbrev pub tokens : List ℕ → List Token
tokens text = tokens_from 0 text

-- a name: printable bytes, at least one
abbrev pub is_name : List ℕ → Bool
is_name [] = false
is_name (c ∷ text) = list_all is_printable (c ∷ text)

-- a simple name that is no reserved word
abbrev pub is_simple : List ℕ → Bool
is_simple [] = false
is_simple (c ∷ text) = is_letter c && list_all is_word text && not (is_reserved (c ∷ text))
