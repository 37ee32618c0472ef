-- Based literals, fills and strings: how many bytes of each begin a text.
use Rattle.std.specs.Prelude.{ℕ, ◌+◌, Bool, false, not, ◌==◌, ◌&&◌, ◌||◌, if◌then◌else◌, List, [], ◌∷◌, drop}
use Rattle.sv_lexer.specs.Bytes.{is_blank, is_digit, is_unknown, is_binary, is_octal, is_hex}
use Rattle.sv_lexer.specs.Spans.{run, one_more, behind}

-- a digit of the base with this letter: b, o, d or h in either case
abbrev pub is_digit_of : ℕ → ℕ → Bool
is_digit_of base c =
    if base == 98 || base == 66 then is_binary c
    else (if base == 111 || base == 79 then is_octal c
    else (if base == 100 || base == 68 then is_digit c
    else (if base == 104 || base == 72 then is_hex c
    else false)))

-- a decimal base, and x or z as its only digit
abbrev pub is_lone : ℕ → ℕ → Bool
is_lone base c = (base == 100 || base == 68) && is_unknown c

abbrev pub is_digit_or_underscore : ℕ → ℕ → Bool
is_digit_or_underscore base c = is_digit_of base c || c == 95

-- the digits behind a base letter: a digit and then digits and underscores, or a lone digit and underscores
abbrev pub base_digits_span : ℕ → List ℕ → ℕ
base_digits_span base [] = 0
base_digits_span base (c ∷ cs) =
    if is_lone base c then run (λ d. d == 95) cs + 1
    else (if is_digit_of base c then run (is_digit_or_underscore base) cs + 1
    else 0)

-- a base letter, spaces or tabs, and digits of the base
abbrev pub base_span : List ℕ → ℕ
base_span [] = 0
base_span (base ∷ rest) =
    let blanks = run is_blank rest in
    let digits = base_digits_span base (drop blanks rest) in
    if digits == 0 then 0 else blanks + digits + 1

-- an `s` or `S` that may be left out, and then a base with its digits
abbrev pub signed_base_span : List ℕ → ℕ
signed_base_span [] = 0
signed_base_span (c ∷ cs) = if c == 115 || c == 83 then one_more (base_span cs) else base_span (c ∷ cs)

-- a tick, an `s` that may be left out, a base and digits
abbrev pub based_span : List ℕ → ℕ
based_span bytes = behind 39 signed_base_span bytes

-- one of 0 1 x X z Z
abbrev pub fill_digit_span : List ℕ → ℕ
fill_digit_span [] = 0
fill_digit_span (c ∷ cs) = if c == 48 || c == 49 || c == 120 || c == 88 || c == 122 || c == 90 then 1 else 0

-- a tick and the value of every bit
abbrev pub fill_span : List ℕ → ℕ
fill_span bytes = behind 39 fill_digit_span bytes

-- the rest of a string behind its quote, with the quote that closes it on the same line; the flag says that the byte
-- before was a backslash that takes this one with it
abbrev pub string_rest : Bool → List ℕ → ℕ
string_rest escaped [] = 0
string_rest escaped (c ∷ cs) =
    if c == 10 then 0
    else (if c == 34 && not escaped then 1
    else one_more (string_rest (c == 92 && not escaped) cs))

-- a quote to the next quote on the line
abbrev pub string_span : List ℕ → ℕ
string_span bytes = behind 34 (string_rest false) bytes
