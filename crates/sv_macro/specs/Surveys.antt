-- A list of arguments, looked through token by token.
use Rattle.std.specs.Prelude.{◌+◌, ◌&&◌, Bool, true, false, List, [], ◌∷◌, Option, Some, None, if◌then◌else◌}
use Rattle.sv_source.specs.declared.token.Token.{Token}
use Rattle.sv_macro.specs.Lines.{is_newline}
use Rattle.sv_macro.specs.Lists.{Place_in_list, at_end, closing, splitting, belonging, place_in, is_barred, is_cut, or_else}
use Rattle.sv_macro.specs.declared.brackets.Bracket.{Bracket}
use Rattle.sv_macro.specs.declared.coming.Coming.{Coming}
use Rattle.sv_macro.specs.declared.coming.Coming.TheVariants.{Raw, Kept, FileEnd, UseEnd}
use Rattle.sv_macro.specs.declared.lists.Role.{Role}
use Rattle.sv_macro.specs.declared.lists.Role.TheVariants.{Ends, Closes, Splits, Belongs}
use Rattle.sv_macro.specs.declared.lists.Survey.{Survey}
use Rattle.sv_macro.specs.declared.pending.ListSize.{ListSize}

abbrev pub place_of : Role → List Bracket → Place_in_list
place_of Ends open_brackets = at_end
place_of Closes open_brackets = closing
place_of Splits open_brackets = splitting
place_of Belongs open_brackets = belonging open_brackets

abbrev pub nothing : Survey
nothing = record { barred = None; cut = None; closed = false; count = 0; bare = true }

abbrev pub one_more : Survey → Bool → Bool → Survey
one_more list closed bare = record list { closed = closed; count = list.count + 1; bare = bare }

abbrev pub noted_token : Token → Survey → Bool → Survey
noted_token t list bare =
    if is_barred t then record list { barred = or_else list.barred (Some t); bare = bare }
    else if is_cut t then record list { cut = or_else list.cut (Some t); bare = bare }
    else record list { bare = bare }

abbrev pub noted : Coming → Survey → Survey
noted (Raw t) list = noted_token t list (list.bare && is_newline (Raw t))
noted (Kept t) list = record list { bare = list.bare && is_newline (Kept t) }
noted FileEnd list = record list { bare = list.bare && is_newline FileEnd }
noted (UseEnd name) list = record list { bare = list.bare && is_newline (UseEnd name) }

-- the list goes on, with what is known of its front
abbrev pub looked : List Bracket → Survey → List Coming → Survey
looked open_brackets list [] = one_more list false list.bare
looked open_brackets list (item ∷ rest) = elim (place_in open_brackets item) [
  | at_end ↦ one_more list false list.bare
  | closing ↦ one_more list true list.bare
  | splitting ↦ looked [] (one_more list false false) rest
  | belonging more ↦ looked more (noted item list) rest
]

-- what a list has that is so long and in which nothing is barred
abbrev pub clean : ListSize → Survey
clean size = record { barred = None; cut = None; closed = true; count = size.commas + 1; bare = size.bare }

abbrev pub no_token : Option Token → Bool
no_token None = true
no_token (Some t) = false

-- nothing is in the way of the list
abbrev pub is_sound : Survey → Bool
is_sound list = list.closed && (no_token list.barred && no_token list.cut)
