-- Lists of arguments that nothing in them bars, seen from their opening parenthesis, and how they are found in one pass
-- from the end of a text to its beginning.
use Rattle.std.specs.Prelude.{◌≡◌, ◌+◌, ◌||◌, Bool, true, false, List, [], ◌∷◌, drop, map, Option, Some, None, if◌then◌else◌}
use Rattle.std.specs.Option.{option_map}
use Rattle.sv_macro.specs.Lines.{is_newline}
use Rattle.sv_macro.specs.Brackets.{sign_of, same_bracket}
use Rattle.sv_macro.specs.Lists.{at_end, closing, splitting, belonging, place_in, is_barred, is_cut}
use Rattle.sv_macro.specs.declared.brackets.Bracket.{Bracket}
use Rattle.sv_macro.specs.declared.brackets.Bracket.TheVariants.{Round, Square, Curly}
use Rattle.sv_macro.specs.declared.brackets.Sign.{Sign}
use Rattle.sv_macro.specs.declared.brackets.Sign.TheVariants.{Opens, Closes, ClosesStar, Comma, Other}
use Rattle.sv_macro.specs.declared.coming.Coming.{Coming}
use Rattle.sv_macro.specs.declared.coming.Coming.TheVariants.{Raw, Kept, FileEnd, UseEnd}
use Rattle.sv_macro.specs.declared.pending.ListSize.{ListSize}
use Rattle.sv_macro.specs.declared.pending.Waiting.{Waiting}
use Rattle.sv_macro.specs.declared.pending.Item.{Item}

-- nothing before it is in a list that goes on behind it
abbrev pub stops : Coming → Bool
stops (Raw t) = is_barred t || is_cut t
stops (Kept t) = false
stops FileEnd = true
stops (UseEnd name) = true

abbrev pub one_comma : ListSize → ListSize
one_comma size = record { commas = size.commas + 1; bare = false }

-- a token outside brackets
abbrev pub one_item : Coming → ListSize → ListSize
one_item item size = if is_newline item then size else record size { bare = false }

abbrev pub in_brackets : List Bracket → Coming → Option ListSize → Option ListSize
in_brackets [] item size = option_map (one_item item) size
in_brackets (b ∷ bs) item size = size

-- how many commas outside brackets the list has, and whether it has no token; nothing where it isn't closed, or where a
-- token in it is barred
abbrev pub whole : List Bracket → List Coming → Option ListSize
whole open_brackets [] = None
whole open_brackets (item ∷ rest) = elim (stops item) [
  | true ↦ None
  | false ↦ elim (place_in open_brackets item) [
    | at_end ↦ None
    | closing ↦ Some (record { commas = 0; bare = true })
    | splitting ↦ option_map one_comma (whole [] rest)
    | belonging more ↦ in_brackets open_brackets item (whole more rest)
  ]
]

-- the brackets that close behind an item and open before it, the innermost first
abbrev pub behind_kind : Bracket → List Waiting → List Waiting
behind_kind b [] = []
behind_kind b (w ∷ ws) = if same_bracket b w.kind then ws else behind_kind b ws

-- what is outside the brackets of the innermost
abbrev pub with_first : (ListSize → ListSize) → List Waiting → List Waiting
with_first f [] = []
with_first f (w ∷ ws) = (record w { size = f w.size }) ∷ ws

-- a closing bracket that isn't a parenthesis is an ordinary token where its bracket isn't opened before
abbrev pub closed_other : Bracket → Coming → List Waiting → List Waiting
closed_other b item [] = []
closed_other b item (w ∷ ws) = (record { kind = b; is_list = w.is_list; size = one_item item w.size }) ∷ w ∷ ws

abbrev pub round : Bool → Waiting
round is_list = record { kind = Round; is_list = is_list; size = record { commas = 0; bare = true } }

abbrev pub with_sign : Sign → Coming → List Waiting → List Waiting
with_sign (Opens b) item ws = with_first (one_item item) (behind_kind b ws)
with_sign (Closes Round) item ws = round true ∷ ws
with_sign (Closes Square) item ws = closed_other Square item ws
with_sign (Closes Curly) item ws = closed_other Curly item ws
with_sign ClosesStar item ws = round false ∷ ws
with_sign Comma item ws = with_first one_comma ws
with_sign Other item ws = with_first (one_item item) ws

abbrev pub passed : Coming → List Waiting → List Waiting
passed (Raw t) ws = if is_barred t || is_cut t then [] else with_sign (sign_of t) (Raw t) ws
passed (Kept t) ws = with_sign (sign_of t) (Kept t) ws
passed FileEnd ws = []
passed (UseEnd name) ws = []

abbrev pub waiting : List Coming → List Waiting
waiting [] = []
waiting (item ∷ rest) = passed item (waiting rest)

-- the list that the innermost parenthesis closes
abbrev pub first_list : List Waiting → Option ListSize
first_list [] = None
first_list (w ∷ ws) = if w.is_list then Some w.size else None

-- the items, each with the list that it would begin behind it, unless no list goes on behind it
abbrev pub comings : List Item → List Coming
comings items = map (λ (i : Item). i.what) items

abbrev pub Marked : List Item → Type 0
Marked [] = Unit {0}
Marked (item ∷ items) = (stops item.what ≡ false → item.list ≡ first_list (waiting (comings items))) × Marked items

-- the item comes next
pub record Tops (top : Item) (coming : List Coming) : Type 0 where
  pub is : coming ≡ top.what ∷ drop 1 coming
  pub list : stops top.what ≡ false → top.list ≡ first_list (waiting (drop 1 coming))

-- the lists behind these brackets
abbrev pub unwound : List Bracket → List Waiting → List Waiting
unwound [] ws = ws
unwound (b ∷ bs) ws = unwound bs (behind_kind b ws)

-- how long the list is that begins behind what comes next, unless no list goes on behind that
abbrev pub NextList : Option ListSize → List Coming → Type 0
NextList size [] = Unit {0}
NextList size (item ∷ rest) = stops item ≡ false → size ≡ first_list (waiting rest)
