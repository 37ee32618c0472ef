-- Classes of bytes, by their ASCII codes.
use Rattle.std.specs.Prelude.{ℕ, Bool, ◌==◌, ◌&&◌, ◌||◌, nat_le}

-- space, tab, form feed and carriage return; a newline is a token
abbrev pub is_white : ℕ → Bool
is_white c = c == 32 || c == 9 || c == 12 || c == 13

-- space and tab
abbrev pub is_blank : ℕ → Bool
is_blank c = c == 32 || c == 9

abbrev pub is_digit : ℕ → Bool
is_digit c = nat_le 48 c && nat_le c 57

-- a letter or the underscore, which begin a name
abbrev pub is_letter : ℕ → Bool
is_letter c = nat_le 97 c && nat_le c 122 || nat_le 65 c && nat_le c 90 || c == 95

-- what goes on a name: letters, digits, underscore and dollar
abbrev pub is_word : ℕ → Bool
is_word c = is_letter c || is_digit c || c == 36

-- a decimal digit or the underscore
abbrev pub is_decimal : ℕ → Bool
is_decimal c = is_digit c || c == 95

-- the digits of an unknown or high impedance value: x X z Z ?
abbrev pub is_unknown : ℕ → Bool
is_unknown c = c == 120 || c == 88 || c == 122 || c == 90 || c == 63

abbrev pub is_binary : ℕ → Bool
is_binary c = c == 48 || c == 49 || is_unknown c

abbrev pub is_octal : ℕ → Bool
is_octal c = nat_le 48 c && nat_le c 55 || is_unknown c

abbrev pub is_hex : ℕ → Bool
is_hex c = is_digit c || nat_le 97 c && nat_le c 102 || nat_le 65 c && nat_le c 70 || is_unknown c

-- a byte with which tokens of several kinds or comments begin: / \ $ ' " `
abbrev pub opens_many : ℕ → Bool
opens_many c = c == 47 || c == 92 || c == 36 || c == 39 || c == 34 || c == 96
