-- Brackets and commas, and which brackets are open behind a token.
use Rattle.std.specs.Prelude.{Bool, true, false, List, [], ◌∷◌, if◌then◌else◌, codes}
use Rattle.sv_source.specs.declared.token.Kind.{Kind}
use Rattle.sv_source.specs.declared.token.Kind.TheVariants.{Mark}
use Rattle.sv_source.specs.declared.token.Token.{Token}
use Rattle.sv_macro.specs.Tokens.{is}
use Rattle.sv_macro.specs.declared.brackets.Bracket.{Bracket}
use Rattle.sv_macro.specs.declared.brackets.Bracket.TheVariants.{Round, Square, Curly}
use Rattle.sv_macro.specs.declared.brackets.Sign.{Sign}
use Rattle.sv_macro.specs.declared.brackets.Sign.TheVariants.{Opens, Closes, ClosesStar, Comma, Other}

-- what a mark is to brackets and lists
abbrev pub opening : Token → Sign → Sign
opening t other =
    if is t (codes "(") then Opens Round
    else if is t (codes "(*") then Opens Round
    else if is t (codes "[") then Opens Square
    else if is t (codes "{") then Opens Curly
    else other

abbrev pub closing : Token → Sign → Sign
closing t other =
    if is t (codes ")") then Closes Round
    else if is t (codes "*)") then ClosesStar
    else if is t (codes "]") then Closes Square
    else if is t (codes "}") then Closes Curly
    else other

abbrev pub comma : Token → Sign
comma t = if is t (codes ",") then Comma else Other

abbrev pub sign_by : Kind → Token → Sign
sign_by Mark t = opening t (closing t (comma t))
sign_by _ t = Other

-- what a token is to brackets and lists
unfoldable pub sign_of : Token → Sign
sign_of t = sign_by t.kind t

abbrev pub same_bracket : Bracket → Bracket → Bool
same_bracket Round Round = true
same_bracket Square Square = true
same_bracket Curly Curly = true
same_bracket _ _ = false

-- a bracket closes the innermost open one if that is of its kind
abbrev pub closing_one : Bracket → List Bracket → List Bracket
closing_one b [] = []
closing_one b (c ∷ cs) = if same_bracket b c then cs else c ∷ cs

-- the brackets that are open behind a token, the innermost first
abbrev pub brackets_behind : Sign → List Bracket → List Bracket
brackets_behind (Opens b) open_brackets = b ∷ open_brackets
brackets_behind (Closes b) open_brackets = closing_one b open_brackets
brackets_behind ClosesStar open_brackets = closing_one Round open_brackets
brackets_behind Comma open_brackets = open_brackets
brackets_behind Other open_brackets = open_brackets

-- the parenthesis that begins a list of arguments
abbrev pub is_parenthesis_kind : Kind → Token → Bool
is_parenthesis_kind Mark t = is t (codes "(")
is_parenthesis_kind _ t = false

abbrev pub is_parenthesis : Token → Bool
is_parenthesis t = is_parenthesis_kind t.kind t
