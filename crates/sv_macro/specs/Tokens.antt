-- Tests on tokens.
use Rattle.std.specs.Prelude.{ℕ, Bool, true, false, List, drop}
use Rattle.std.specs.Str.{bytes_eq}
use Rattle.sv_source.specs.declared.token.Kind.{Kind}
use Rattle.sv_source.specs.declared.token.Kind.TheVariants.{Name, Reserved, Decimal, Str, Line, Continued}
use Rattle.sv_source.specs.declared.token.Place.{Place}
use Rattle.sv_source.specs.declared.token.Token.{Token}
use Rattle.sv_macro.specs.Words.{word_of}
use Rattle.sv_macro.specs.declared.words.Word.{Word}

-- the token has this text
abbrev pub is : Token → List ℕ → Bool
is t text = bytes_eq t.text text

-- a simple name
abbrev pub is_name_kind : Kind → Bool
is_name_kind Name = true
is_name_kind _ = false

abbrev pub is_name : Token → Bool
is_name t = is_name_kind t.kind

-- a simple name or a reserved word
abbrev pub is_word_kind : Kind → Bool
is_word_kind Name = true
is_word_kind Reserved = true
is_word_kind _ = false

abbrev pub is_word : Token → Bool
is_word t = is_word_kind t.kind

abbrev pub is_decimal_kind : Kind → Bool
is_decimal_kind Decimal = true
is_decimal_kind _ = false

abbrev pub is_decimal : Token → Bool
is_decimal t = is_decimal_kind t.kind

abbrev pub is_string_kind : Kind → Bool
is_string_kind Str = true
is_string_kind _ = false

abbrev pub is_string : Token → Bool
is_string t = is_string_kind t.kind

-- a newline
abbrev pub is_line_kind : Kind → Bool
is_line_kind Line = true
is_line_kind _ = false

abbrev pub is_line : Token → Bool
is_line t = is_line_kind t.kind

-- a newline behind a backslash
abbrev pub is_continued_kind : Kind → Bool
is_continued_kind Continued = true
is_continued_kind _ = false

abbrev pub is_continued : Token → Bool
is_continued t = is_continued_kind t.kind

-- the name behind a directive's backquote
abbrev pub name_of : Token → List ℕ
name_of t = drop 1 t.text

-- what a directive says
abbrev pub said_by : Token → Word
said_by t = word_of (name_of t)

-- the token at another place
abbrev pub moved : Place → Token → Token
moved place t = record t { place = place }
