-- The list of arguments of a macro's use (IEEE 1800-2017 clause 22.5.1): it is taken whole from the text that holds the
-- use, that is from its file, or from the body or argument that it stands in.
use Rattle.std.specs.Prelude.{ℕ, ◌==◌, ◌&&◌, Bool, true, false, List, [], ◌∷◌, length, Option, Some, None, if◌then◌else◌}
use Rattle.sv_source.specs.declared.token.Kind.{Kind}
use Rattle.sv_source.specs.declared.token.Kind.TheVariants.{Cut, Directive, Quote}
use Rattle.sv_source.specs.declared.token.Token.{Token}
use Rattle.sv_macro.specs.Tokens.{said_by}
use Rattle.sv_macro.specs.Definitions.{is_use}
use Rattle.sv_macro.specs.Brackets.{sign_of, brackets_behind}
use Rattle.sv_macro.specs.Lines.{is_newline}
use Rattle.sv_macro.specs.declared.brackets.Bracket.{Bracket}
use Rattle.sv_macro.specs.declared.brackets.Bracket.TheVariants.{Round, Square, Curly}
use Rattle.sv_macro.specs.declared.brackets.Sign.{Sign}
use Rattle.sv_macro.specs.declared.brackets.Sign.TheVariants.{Opens, Closes, ClosesStar, Comma, Other}
use Rattle.sv_macro.specs.declared.lists.Survey.{Survey}
use Rattle.sv_macro.specs.declared.coming.Coming.{Coming}
use Rattle.sv_macro.specs.declared.coming.Coming.TheVariants.{Raw, Kept, FileEnd, UseEnd}

-- a list behind its parenthesis: the arguments, the last as far as it goes where the list isn't closed, and what comes
-- behind the list
pub record Taken : Type 0 where
  pub arguments : List (List Coming)
  pub closed : Bool
  pub behind : List Coming

-- what an item is to a list: the end of the text that holds it, its parenthesis, a comma, or anything else with the
-- brackets that are open behind it. A comma outside brackets splits, and a parenthesis outside brackets closes the list;
-- `*)` outside brackets closes no list, and nothing behind it does.
pub data Place_in_list : Type 0 where
  at_end : Place_in_list
  closing : Place_in_list
  splitting : Place_in_list
  belonging : List Bracket → Place_in_list

abbrev pub outside_brackets : Sign → Place_in_list
outside_brackets (Opens b) = belonging (b ∷ [])
outside_brackets (Closes Round) = closing
outside_brackets (Closes Square) = belonging []
outside_brackets (Closes Curly) = belonging []
outside_brackets ClosesStar = at_end
outside_brackets Comma = splitting
outside_brackets Other = belonging []

abbrev pub sign_in : List Bracket → Sign → Place_in_list
sign_in [] sign = outside_brackets sign
sign_in (b ∷ bs) sign = belonging (brackets_behind sign (b ∷ bs))

abbrev pub place_in : List Bracket → Coming → Place_in_list
place_in open_brackets (Raw t) = sign_in open_brackets (sign_of t)
place_in open_brackets (Kept t) = sign_in open_brackets (sign_of t)
place_in open_brackets FileEnd = at_end
place_in open_brackets (UseEnd name) = at_end

abbrev pub ended : Bool → List Coming → Taken
ended closed behind = record { arguments = [] ∷ []; closed = closed; behind = behind }

abbrev pub first_longer : Coming → List (List Coming) → List (List Coming)
first_longer item [] = (item ∷ []) ∷ []
first_longer item (argument ∷ arguments) = (item ∷ argument) ∷ arguments

abbrev pub with_item : Coming → Taken → Taken
with_item item k = record k { arguments = first_longer item k.arguments }

abbrev pub with_split : Taken → Taken
with_split k = record k { arguments = [] ∷ k.arguments }

-- the list, in which these brackets are open
abbrev pub taken : List Bracket → List Coming → Taken
taken open_brackets [] = ended false []
taken open_brackets (item ∷ rest) = elim (place_in open_brackets item) [
  | at_end ↦ ended false (item ∷ rest)
  | closing ↦ ended true rest
  | splitting ↦ with_split (taken [] rest)
  | belonging more ↦ with_item item (taken more rest)
]

-- what no argument may have: a directive that isn't a use, and a quote that makes a string
abbrev pub barred_kind : Kind → Token → Bool
barred_kind Directive t = if is_use (said_by t) then false else true
barred_kind Quote t = true
barred_kind _ t = false

abbrev pub is_barred : Token → Bool
is_barred t = barred_kind t.kind t

-- a comment that isn't closed
abbrev pub is_cut_kind : Kind → Bool
is_cut_kind Cut = true
is_cut_kind _ = false

abbrev pub is_cut : Token → Bool
is_cut t = is_cut_kind t.kind

-- the first token that is looked at of which the test holds
abbrev pub if_found : (Token → Bool) → Coming → Option Token → Option Token
if_found test (Raw t) rest = if test t then Some t else rest
if_found test (Kept t) rest = rest
if_found test FileEnd rest = rest
if_found test (UseEnd name) rest = rest

abbrev pub first_in : (Token → Bool) → List Coming → Option Token
first_in test [] = None
first_in test (item ∷ items) = if_found test item (first_in test items)

abbrev pub or_else : Option Token → Option Token → Option Token
or_else None other = other
or_else (Some t) other = Some t

abbrev pub first_of : (Token → Bool) → List (List Coming) → Option Token
first_of test [] = None
first_of test (argument ∷ arguments) = or_else (first_in test argument) (first_of test arguments)

-- one argument without tokens
abbrev pub all_newlines : List Coming → Bool
all_newlines [] = true
all_newlines (item ∷ items) = is_newline item && all_newlines items

abbrev pub is_bare : List (List Coming) → Bool
is_bare (argument ∷ []) = all_newlines argument
is_bare _ = false

-- what a macro's use has to know of a list
abbrev pub survey : Taken → Survey
survey k = record {
  barred = first_of is_barred k.arguments;
  cut = first_of is_cut k.arguments;
  closed = k.closed;
  count = length k.arguments;
  bare = is_bare k.arguments;
}

-- an empty list of formals takes a list without tokens, and any other as many arguments as it has formals
abbrev pub fits : ℕ → Survey → Bool
fits arity list = if arity == 0 then list.bare else list.count == arity
