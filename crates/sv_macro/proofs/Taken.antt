-- What the list of arguments that is taken has to do with how long it is, and with what is found token by token.
use Rattle.std.proofs.Common.{◌≡◌, ℕ, ◌+◌, ◌&&◌, ◌||◌, Bool, true, false, cond, List, [], ◌∷◌, length, drop, Option, Some, None, refl, sym, ap, ◌∙◌, arith, subst}
use Rattle.std.specs.Option.{option_map}
use Rattle.sv_source.specs.declared.token.Kind.{Kind}
use Rattle.sv_source.specs.declared.token.Kind.TheVariants as K
use Rattle.sv_source.specs.declared.token.Token.{Token}
use Rattle.sv_macro.specs.Tokens.{is_line, is_line_kind, is_continued, is_continued_kind}
use Rattle.sv_macro.specs.Lines.{is_newline, behind_lines}
use Rattle.sv_macro.proofs.Whole.{whole_waits}
use Rattle.sv_macro.specs.Brackets.{sign_of, sign_by}
use Rattle.sv_macro.specs.Waiting.{stops, one_comma, one_item, in_brackets, whole, waiting, first_list}
use Rattle.sv_macro.specs.Lists.{Taken, Place_in_list, at_end, closing, splitting, belonging, outside_brackets, sign_in, place_in, ended, first_longer, with_item, with_split, taken, is_barred, is_cut, is_cut_kind, barred_kind, first_in, first_of, or_else, is_bare, survey}
use Rattle.sv_macro.specs.Surveys.{nothing, one_more, noted, looked, clean, no_token, is_sound}
use Rattle.sv_macro.specs.declared.lists.Survey.{Survey}
use Rattle.sv_macro.specs.declared.brackets.Bracket.{Bracket}
use Rattle.sv_macro.specs.declared.brackets.Sign.TheVariants.{Other}
use Rattle.sv_macro.specs.declared.pending.ListSize.{ListSize}
use Rattle.sv_macro.specs.declared.coming.Coming.{Coming}
use Rattle.sv_macro.specs.declared.coming.Coming.TheVariants.{Raw, Kept, FileEnd, UseEnd}

-- a list has an argument at least
pub record Some_arguments (arguments : List (List Coming)) : Type 0 where
  pub first : List Coming
  pub rest : List (List Coming)
  pub are : arguments ≡ first ∷ rest

longer : (item : Coming) (arguments : List (List Coming)) → Some_arguments (first_longer item arguments)
longer item [] = record { first = item ∷ []; rest = []; are = refl }
longer item (a ∷ rest) = record { first = item ∷ a; rest = rest; are = refl }

pub some_arguments : (open_brackets : List Bracket) (coming : List Coming) → Some_arguments (taken open_brackets coming).arguments
some_arguments open_brackets [] = record { first = []; rest = []; are = refl }
some_arguments open_brackets (item ∷ rest) = by_place (place_in open_brackets item)
  where
    by_place : (p : Place_in_list) → Some_arguments (elim p as (λ _. Taken) [
      | at_end ↦ ended false (item ∷ rest)
      | closing ↦ ended true rest
      | splitting ↦ with_split (taken [] rest)
      | belonging more ↦ with_item item (taken more rest)
    ]).arguments
    by_place at_end = record { first = []; rest = []; are = refl }
    by_place closing = record { first = []; rest = []; are = refl }
    by_place splitting = record { first = []; rest = (taken [] rest).arguments; are = refl }
    by_place (belonging more) = longer item (taken more rest).arguments

-- what is known of a list of which the front is known
abbrev added : Survey → Survey → Survey
added list rest = record { barred = or_else list.barred rest.barred; cut = or_else list.cut rest.cut; closed = rest.closed; count = list.count + rest.count; bare = list.bare && rest.bare }

or_none : (o : Option Token) → or_else o None ≡ o
or_none None = refl
or_none (Some t) = refl

or_again : (o p q : Option Token) → or_else (or_else o p) q ≡ or_else o (or_else p q)
or_again None p q = refl
or_again (Some t) p q = refl

and_true : (b : Bool) → b && true ≡ b
and_true true = refl
and_true false = refl

and_false : (b : Bool) → b && false ≡ false
and_false true = refl
and_false false = refl

and_again : (a b c : Bool) → (a && b) && c ≡ a && (b && c)
and_again true b c = refl
and_again false b c = refl

same_survey : (a b : Survey) → a.barred ≡ b.barred → a.cut ≡ b.cut → a.closed ≡ b.closed → a.count ≡ b.count → a.bare ≡ b.bare → a ≡ b
same_survey a b p q r s t = λ i. record { barred = p i; cut = q i; closed = r i; count = s i; bare = t i }

added_end : (list : Survey) (closed : Bool) (behind : List Coming) → one_more list closed list.bare ≡ added list (survey (ended closed behind))
added_end list closed behind = same_survey _ _ (sym (or_none list.barred)) (sym (or_none list.cut)) refl refl (sym (and_true list.bare))

-- a comma
split_bare : (arguments : List (List Coming)) → Some_arguments arguments → is_bare ([] ∷ arguments) ≡ false
split_bare arguments some = rw some.are refl

added_split : (list : Survey) (k : Taken) → Some_arguments k.arguments → added (one_more list false false) (survey k) ≡ added list (survey (with_split k))
added_split list k some =
    same_survey _ _ refl refl refl (omega arith) (sym (ap (λ (b : Bool). list.bare && b) (split_bare k.arguments some) ∙ and_false list.bare))

-- a token
by_first : (test : Token → Bool) (item : Coming) (k : Taken) → Some_arguments k.arguments → first_of test (first_longer item k.arguments) ≡ or_else (first_in test (item ∷ [])) (first_of test k.arguments)
by_first test item k some = rw some.are (front item some.first some.rest)
  where
    found : (b : Bool) (t : Token) (o : Option Token) → cond {A = Option Token} b (Some t) o ≡ or_else (cond {A = Option Token} b (Some t) None) o
    found true t o = refl
    found false t o = refl

    front : (item : Coming) (a : List Coming) (rest : List (List Coming)) → or_else (first_in test (item ∷ a)) (first_of test rest) ≡ or_else (first_in test (item ∷ [])) (or_else (first_in test a) (first_of test rest))
    front (Raw t) a rest = ap (λ (o : Option Token). or_else o (first_of test rest)) (found (test t) t (first_in test a)) ∙ or_again (cond {A = Option Token} (test t) (Some t) None) (first_in test a) (first_of test rest)
    front (Kept t) a rest = refl
    front FileEnd a rest = refl
    front (UseEnd name) a rest = refl

longer_count : (item : Coming) (k : Taken) → Some_arguments k.arguments → length (first_longer item k.arguments) ≡ length k.arguments
longer_count item k some = rw some.are refl

longer_bare : (item : Coming) (k : Taken) → Some_arguments k.arguments → is_bare (first_longer item k.arguments) ≡ is_newline item && is_bare k.arguments
longer_bare item k some = rw some.are (by_rest some.rest)
  where
    by_rest : (rest : List (List Coming)) → is_bare ((item ∷ some.first) ∷ rest) ≡ is_newline item && is_bare (some.first ∷ rest)
    by_rest [] = refl
    by_rest (a ∷ more) = sym (and_false (is_newline item))

-- a token is barred, or cut, and not both
record Noted (test other : Token → Bool) (t : Token) : Type 0 where
  here : test t ≡ true → other t ≡ false

barred_or_cut : (t : Token) → is_barred t ≡ true → is_cut t ≡ false
barred_or_cut t = by_kind t.kind
  where
    by_kind : (kind : Kind) → barred_kind kind t ≡ true → is_cut_kind kind ≡ false
    by_kind K.Cut e = absurd (let no : false ≡ true = e in cc)
    by_kind K.Name e = refl
    by_kind K.Reserved e = refl
    by_kind K.Decimal e = refl
    by_kind K.Based e = refl
    by_kind K.Fill e = refl
    by_kind K.Mark e = refl
    by_kind K.System e = refl
    by_kind K.Str e = refl
    by_kind K.Directive e = refl
    by_kind K.Paste e = refl
    by_kind K.Quote e = refl
    by_kind K.Line e = refl
    by_kind K.Continued e = refl
    by_kind K.Bad e = refl
    by_kind K.End e = refl

noted_is : (item : Coming) (list : Survey) → noted item list ≡ record list { barred = or_else list.barred (first_in is_barred (item ∷ [])); cut = or_else list.cut (first_in is_cut (item ∷ [])); bare = list.bare && is_newline item }
noted_is (Raw t) list = by_tests (is_barred t) (is_cut t) (barred_or_cut t)
  where
    by_tests : (b c : Bool) → (b ≡ true → c ≡ false) →
        cond {A = Survey} b (record list { barred = or_else list.barred (Some t); bare = list.bare && is_newline (Raw t) })
        (cond {A = Survey} c (record list { cut = or_else list.cut (Some t); bare = list.bare && is_newline (Raw t) }) (record list { bare = list.bare && is_newline (Raw t) })) ≡
        record list { barred = or_else list.barred (cond {A = Option Token} b (Some t) None); cut = or_else list.cut (cond {A = Option Token} c (Some t) None); bare = list.bare && is_newline (Raw t) }
    by_tests true true e = absurd (let no : true ≡ false = e refl in cc)
    by_tests true false e = same_survey _ _ refl (sym (or_none list.cut)) refl refl refl
    by_tests false true e = same_survey _ _ (sym (or_none list.barred)) refl refl refl refl
    by_tests false false e = same_survey _ _ (sym (or_none list.barred)) (sym (or_none list.cut)) refl refl refl
noted_is (Kept t) list = same_survey _ _ (sym (or_none list.barred)) (sym (or_none list.cut)) refl refl refl
noted_is FileEnd list = same_survey _ _ (sym (or_none list.barred)) (sym (or_none list.cut)) refl refl refl
noted_is (UseEnd name) list = same_survey _ _ (sym (or_none list.barred)) (sym (or_none list.cut)) refl refl refl

added_item : (item : Coming) (list : Survey) (k : Taken) → Some_arguments k.arguments → added (noted item list) (survey k) ≡ added list (survey (with_item item k))
added_item item list k some = ap (λ (l : Survey). added l (survey k)) (noted_is item list) ∙ same_survey _ _
    (or_again list.barred (first_in is_barred (item ∷ [])) (first_of is_barred k.arguments) ∙ ap (λ (o : Option Token). or_else list.barred o) (sym (by_first is_barred item k some)))
    (or_again list.cut (first_in is_cut (item ∷ [])) (first_of is_cut k.arguments) ∙ ap (λ (o : Option Token). or_else list.cut o) (sym (by_first is_cut item k some)))
    refl
    (ap (λ (n : ℕ). list.count + n) (sym (longer_count item k some)))
    (and_again list.bare (is_newline item) (is_bare k.arguments) ∙ ap (λ (b : Bool). list.bare && b) (sym (longer_bare item k some)))

looked_added : (open_brackets : List Bracket) (list : Survey) (coming : List Coming) → looked open_brackets list coming ≡ added list (survey (taken open_brackets coming))
looked_added open_brackets list [] = added_end list false []
looked_added open_brackets list (item ∷ rest) = by_place (place_in open_brackets item) (looked_added [] (one_more list false false) rest) (λ more. looked_added more (noted item list) rest)
  where
    by_place : (p : Place_in_list) → looked [] (one_more list false false) rest ≡ added (one_more list false false) (survey (taken [] rest)) →
        ((more : List Bracket) → looked more (noted item list) rest ≡ added (noted item list) (survey (taken more rest))) → (elim p as (λ _. Survey) [
          | at_end ↦ one_more list false list.bare
          | closing ↦ one_more list true list.bare
          | splitting ↦ looked [] (one_more list false false) rest
          | belonging more ↦ looked more (noted item list) rest
        ]) ≡ added list (survey (elim p as (λ _. Taken) [
          | at_end ↦ ended false (item ∷ rest)
          | closing ↦ ended true rest
          | splitting ↦ with_split (taken [] rest)
          | belonging more ↦ with_item item (taken more rest)
        ]))
    by_place at_end split item_again = added_end list false (item ∷ rest)
    by_place closing split item_again = added_end list true rest
    by_place splitting split item_again = split ∙ added_split list (taken [] rest) (some_arguments [] rest)
    by_place (belonging more) split item_again = item_again more ∙ added_item item list (taken more rest) (some_arguments more rest)

-- what is found token by token is what is to be known of the list
pub looked_is : (coming : List Coming) → looked [] nothing coming ≡ survey (taken [] coming)
looked_is coming = looked_added [] nothing coming ∙ same_survey _ _ refl refl refl (omega arith) refl

record Sound_list (size : ListSize) (list : Survey) : Type 0 where
  barred : list.barred ≡ None
  cut : list.cut ≡ None
  closed : list.closed ≡ true
  count : list.count ≡ size.commas + 1

abbrev Told : Option ListSize → Survey → Type 0
Told None list = is_sound list ≡ false
Told (Some size) list = Sound_list size list

-- a token that is barred or cut is no bracket and no comma
other_kind : (t : Token) → (is_barred t || is_cut t) ≡ true → sign_of t ≡ Other
unfolding sign_of
other_kind t = by_kind t.kind
  where
    by_kind : (kind : Kind) → (barred_kind kind t || is_cut_kind kind) ≡ true → sign_by kind t ≡ Other
    by_kind K.Mark e = absurd (let no : false ≡ true = e in cc)
    by_kind K.Cut e = refl
    by_kind K.Name e = refl
    by_kind K.Reserved e = refl
    by_kind K.Decimal e = refl
    by_kind K.Based e = refl
    by_kind K.Fill e = refl
    by_kind K.System e = refl
    by_kind K.Str e = refl
    by_kind K.Directive e = refl
    by_kind K.Paste e = refl
    by_kind K.Quote e = refl
    by_kind K.Line e = refl
    by_kind K.Continued e = refl
    by_kind K.Bad e = refl
    by_kind K.End e = refl

sign_other : (open_brackets : List Bracket) → sign_in open_brackets Other ≡ belonging open_brackets
sign_other [] = refl
sign_other (b ∷ bs) = refl

-- the tokens of an argument and one more
barred_first : (item : Coming) (k : Taken) → Some_arguments k.arguments → (survey (with_item item k)).barred ≡ or_else (first_in is_barred (item ∷ [])) (survey k).barred
barred_first item k some = by_first is_barred item k some

cut_first : (item : Coming) (k : Taken) → Some_arguments k.arguments → (survey (with_item item k)).cut ≡ or_else (first_in is_cut (item ∷ [])) (survey k).cut
cut_first item k some = by_first is_cut item k some

and_out : (a b : Bool) → b ≡ false → a && b ≡ false
and_out a b e = rw e (and_false a)

-- an item that stops
stopped_by : (t : Token) (b c : Bool) → is_barred t ≡ b → is_cut t ≡ c → (b || c) ≡ true → (k : Taken) → Some_arguments k.arguments → is_sound (survey (with_item (Raw t) k)) ≡ false
stopped_by t true c e f g k some =
    let found : (survey (with_item (Raw t) k)).barred ≡ Some t = barred_first (Raw t) k some ∙ ap (λ (b : Bool). or_else (cond {A = Option Token} b (Some t) None) (survey k).barred) e in
    let no : no_token (survey (with_item (Raw t) k)).barred ≡ false = ap no_token found in
    and_out k.closed _ (ap (λ (b : Bool). b && no_token (survey (with_item (Raw t) k)).cut) no)
stopped_by t false true e f g k some =
    let found : (survey (with_item (Raw t) k)).cut ≡ Some t = cut_first (Raw t) k some ∙ ap (λ (b : Bool). or_else (cond {A = Option Token} b (Some t) None) (survey k).cut) f in
    and_out k.closed _ (and_out (no_token (survey (with_item (Raw t) k)).barred) _ (ap no_token found))
stopped_by t false false e f g k some = absurd (let no : false ≡ true = g in cc)

stop_told : (open_brackets : List Bracket) (item : Coming) (rest : List Coming) → stops item ≡ true → is_sound (survey (taken open_brackets (item ∷ rest))) ≡ false
stop_told open_brackets (Raw t) rest e =
    let place : place_in open_brackets (Raw t) ≡ belonging open_brackets = ap (sign_in open_brackets) (other_kind t e) ∙ sign_other open_brackets in
    ap (λ (p : Place_in_list). is_sound (survey (elim p as (λ _. Taken) [
      | at_end ↦ ended false (Raw t ∷ rest)
      | closing ↦ ended true rest
      | splitting ↦ with_split (taken [] rest)
      | belonging more ↦ with_item (Raw t) (taken more rest)
    ]))) place ∙ stopped_by t (is_barred t) (is_cut t) refl refl e (taken open_brackets rest) (some_arguments open_brackets rest)
stop_told open_brackets (Kept t) rest e = absurd (let no : false ≡ true = e in cc)
stop_told open_brackets FileEnd rest e = refl
stop_told open_brackets (UseEnd name) rest e = refl

-- an item that doesn't
or_no : (b c : Bool) → (b || c) ≡ false → (b ≡ false) × (c ≡ false)
or_no true c e = absurd (let no : true ≡ false = e in cc)
or_no false c e = (refl, e)

no_barred : (item : Coming) → stops item ≡ false → first_in is_barred (item ∷ []) ≡ None
no_barred (Raw t) e = ap (λ (b : Bool). cond {A = Option Token} b (Some t) None) (or_no (is_barred t) (is_cut t) e).0
no_barred (Kept t) e = refl
no_barred FileEnd e = refl
no_barred (UseEnd name) e = refl

no_cut : (item : Coming) → stops item ≡ false → first_in is_cut (item ∷ []) ≡ None
no_cut (Raw t) e = ap (λ (b : Bool). cond {A = Option Token} b (Some t) None) (or_no (is_barred t) (is_cut t) e).1
no_cut (Kept t) e = refl
no_cut FileEnd e = refl
no_cut (UseEnd name) e = refl

item_sound : (item : Coming) (k : Taken) → Some_arguments k.arguments → stops item ≡ false → is_sound (survey (with_item item k)) ≡ is_sound (survey k)
item_sound item k some e =
    ap (λ (o : Option Token). k.closed && (no_token o && no_token (survey (with_item item k)).cut)) (barred_first item k some ∙ ap (λ (o : Option Token). or_else o (survey k).barred) (no_barred item e)) ∙
    ap (λ (o : Option Token). k.closed && (no_token (survey k).barred && no_token o)) (cut_first item k some ∙ ap (λ (o : Option Token). or_else o (survey k).cut) (no_cut item e))

one_item_commas : (b : Bool) (size : ListSize) → (cond {A = ListSize} b size (record size { bare = false })).commas ≡ size.commas
one_item_commas true size = refl
one_item_commas false size = refl

item_sized : (item : Coming) (k : Taken) (size more : ListSize) → Some_arguments k.arguments → stops item ≡ false → more.commas ≡ size.commas → Sound_list size (survey k) → Sound_list more (survey (with_item item k))
item_sized item k size more some e same l = record {
  barred = barred_first item k some ∙ ap (λ (o : Option Token). or_else o (survey k).barred) (no_barred item e) ∙ l.barred;
  cut = cut_first item k some ∙ ap (λ (o : Option Token). or_else o (survey k).cut) (no_cut item e) ∙ l.cut;
  closed = l.closed;
  count = longer_count item k some ∙ l.count ∙ ap (λ (n : ℕ). n + 1) (sym same);
}

item_told : (open_brackets : List Bracket) (item : Coming) (k : Taken) (size : Option ListSize) → Some_arguments k.arguments → stops item ≡ false → Told size (survey k) → Told (in_brackets open_brackets item size) (survey (with_item item k))
item_told [] item k None some e l = item_sound item k some e ∙ l
item_told (b ∷ bs) item k None some e l = item_sound item k some e ∙ l
item_told [] item k (Some size) some e l = item_sized item k size (one_item item size) some e (one_item_commas (is_newline item) size) l
item_told (b ∷ bs) item k (Some size) some e l = item_sized item k size size some e refl l

split_told : (k : Taken) (size : Option ListSize) → Told size (survey k) → Told (option_map one_comma size) (survey (with_split k))
split_told k None l = l
split_told k (Some size) l = record { barred = l.barred; cut = l.cut; closed = l.closed; count = omega (arith, l.count) }

told : (open_brackets : List Bracket) (coming : List Coming) → Told (whole open_brackets coming) (survey (taken open_brackets coming))
told open_brackets [] = refl
told open_brackets (item ∷ rest) = by_stop (stops item) refl (told [] rest) (λ more. told more rest)
  where
    by_place : (p : Place_in_list) → stops item ≡ false → Told (whole [] rest) (survey (taken [] rest)) → ((more : List Bracket) → Told (whole more rest) (survey (taken more rest))) →
        Told (elim p as (λ _. Option ListSize) [
          | at_end ↦ None
          | closing ↦ Some (record { commas = 0; bare = true })
          | splitting ↦ option_map one_comma (whole [] rest)
          | belonging more ↦ in_brackets open_brackets item (whole more rest)
        ]) (survey (elim p as (λ _. Taken) [
          | at_end ↦ ended false (item ∷ rest)
          | closing ↦ ended true rest
          | splitting ↦ with_split (taken [] rest)
          | belonging more ↦ with_item item (taken more rest)
        ]))
    by_place at_end e split again = refl
    by_place closing e split again = record { barred = refl; cut = refl; closed = refl; count = refl }
    by_place splitting e split again = split_told (taken [] rest) (whole [] rest) split
    by_place (belonging more) e split again = item_told open_brackets item (taken more rest) (whole more rest) (some_arguments more rest) e (again more)

    by_stop : (stop : Bool) → stops item ≡ stop → Told (whole [] rest) (survey (taken [] rest)) → ((more : List Bracket) → Told (whole more rest) (survey (taken more rest))) →
        Told (elim stop as (λ _. Option ListSize) [
          | true ↦ None
          | false ↦ elim (place_in open_brackets item) as (λ _. Option ListSize) [
            | at_end ↦ None
            | closing ↦ Some (record { commas = 0; bare = true })
            | splitting ↦ option_map one_comma (whole [] rest)
            | belonging more ↦ in_brackets open_brackets item (whole more rest)
          ]
        ]) (survey (taken open_brackets (item ∷ rest)))
    by_stop true e split again = stop_told open_brackets item rest e
    by_stop false e split again = by_place (place_in open_brackets item) e split again

-- whether a list has a token
abbrev Bare : Option ListSize → Survey → Type 0
Bare None list = Unit {0}
Bare (Some size) list = size.bare ≡ list.bare

newline_kind : (t : Token) → (is_line t || is_continued t) ≡ true → sign_of t ≡ Other
unfolding sign_of
newline_kind t = by_kind t.kind
  where
    by_kind : (kind : Kind) → (is_line_kind kind || is_continued_kind kind) ≡ true → sign_by kind t ≡ Other
    by_kind K.Mark e = absurd (let no : false ≡ true = e in cc)
    by_kind K.Cut e = refl
    by_kind K.Name e = refl
    by_kind K.Reserved e = refl
    by_kind K.Decimal e = refl
    by_kind K.Based e = refl
    by_kind K.Fill e = refl
    by_kind K.System e = refl
    by_kind K.Str e = refl
    by_kind K.Directive e = refl
    by_kind K.Paste e = refl
    by_kind K.Quote e = refl
    by_kind K.Line e = refl
    by_kind K.Continued e = refl
    by_kind K.Bad e = refl
    by_kind K.End e = refl

newline_place : (item : Coming) → is_newline item ≡ true → place_in [] item ≡ belonging []
newline_place (Raw t) e = ap outside_brackets (newline_kind t e)
newline_place (Kept t) e = absurd (let no : false ≡ true = e in cc)
newline_place FileEnd e = absurd (let no : false ≡ true = e in cc)
newline_place (UseEnd name) e = absurd (let no : false ≡ true = e in cc)

newline_bare : (b : Bool) (item : Coming) (k : Taken) (size : Option ListSize) → Some_arguments k.arguments → is_newline item ≡ b → (b ≡ true → Bare size (survey k)) →
    Bare (option_map (one_item item) size) (survey (with_item item k))
newline_bare b item k None some e l = tt
newline_bare true item k (Some size) some e l =
    ap (λ (n : Bool). (cond {A = ListSize} n size (record size { bare = false })).bare) e ∙ l refl ∙ sym (longer_bare item k some ∙ ap (λ (n : Bool). n && is_bare k.arguments) e)
newline_bare false item k (Some size) some e l =
    ap (λ (n : Bool). (cond {A = ListSize} n size (record size { bare = false })).bare) e ∙ sym (longer_bare item k some ∙ ap (λ (n : Bool). n && is_bare k.arguments) e)

split_bared : (k : Taken) (size : Option ListSize) → Some_arguments k.arguments → Bare (option_map one_comma size) (survey (with_split k))
split_bared k None some = tt
split_bared k (Some size) some = sym (split_bare k.arguments some)

abbrev BareAt : Coming → List Coming → Place_in_list → Type 0
BareAt item rest p = Bare (elim p as (λ _. Option ListSize) [
  | at_end ↦ None
  | closing ↦ Some (record { commas = 0; bare = true })
  | splitting ↦ option_map one_comma (whole [] rest)
  | belonging more ↦ in_brackets [] item (whole more rest)
]) (survey (elim p as (λ _. Taken) [
  | at_end ↦ ended false (item ∷ rest)
  | closing ↦ ended true rest
  | splitting ↦ with_split (taken [] rest)
  | belonging more ↦ with_item item (taken more rest)
]))

bare_token : (item : Coming) (rest : List Coming) (p : Place_in_list) → is_newline item ≡ false → BareAt item rest p
bare_token item rest at_end e = tt
bare_token item rest closing e = refl
bare_token item rest splitting e = split_bared (taken [] rest) (whole [] rest) (some_arguments [] rest)
bare_token item rest (belonging more) e = newline_bare false item (taken more rest) (whole more rest) (some_arguments more rest) e (λ no. absurd (let f : false ≡ true = no in cc))

bare_item : (b : Bool) (item : Coming) (rest : List Coming) → is_newline item ≡ b → Bare (whole [] rest) (survey (taken [] rest)) → BareAt item rest (place_in [] item)
bare_item false item rest e l = bare_token item rest (place_in [] item) e
bare_item true item rest e l =
    subst (BareAt item rest) (sym (newline_place item e)) (newline_bare true item (taken [] rest) (whole [] rest) (some_arguments [] rest) e (λ _. l))

bare_stop : (stop : Bool) (item : Coming) (rest : List Coming) → BareAt item rest (place_in [] item) →
    Bare (elim stop as (λ _. Option ListSize) [
      | true ↦ None
      | false ↦ elim (place_in [] item) as (λ _. Option ListSize) [
        | at_end ↦ None
        | closing ↦ Some (record { commas = 0; bare = true })
        | splitting ↦ option_map one_comma (whole [] rest)
        | belonging more ↦ in_brackets [] item (whole more rest)
      ]
    ]) (survey (taken [] (item ∷ rest)))
bare_stop true item rest l = tt
bare_stop false item rest l = l

bares : (coming : List Coming) → Bare (whole [] coming) (survey (taken [] coming))
bares [] = tt
bares (item ∷ rest) = bare_stop (stops item) item rest (bare_item (is_newline item) item rest refl (bares rest))

-- a list that was found in the pass is sound, and has these arguments
pub listed : (coming : List Coming) (size : ListSize) → first_list (waiting coming) ≡ Some size → survey (taken [] coming) ≡ clean size
listed coming size e =
    let is : whole [] coming ≡ Some size = whole_waits [] coming ∙ e in
    let l : Sound_list size (survey (taken [] coming)) = subst (λ (o : Option ListSize). Told o (survey (taken [] coming))) is (told [] coming) in
    let b : size.bare ≡ is_bare (taken [] coming).arguments = subst (λ (o : Option ListSize). Bare o (survey (taken [] coming))) is (bares coming) in
    same_survey _ _ l.barred l.cut l.closed l.count (sym b)

-- and no other is
pub unlisted : (coming : List Coming) → first_list (waiting coming) ≡ None → is_sound (survey (taken [] coming)) ≡ false
unlisted coming e = subst (λ (o : Option ListSize). Told o (survey (taken [] coming))) (whole_waits [] coming ∙ e) (told [] coming)

-- what comes behind a list without tokens
bare_token_behind : (item : Coming) (rest : List Coming) (p : Place_in_list) → is_newline item ≡ false →
    is_bare (elim p as (λ _. Taken) [
      | at_end ↦ ended false (item ∷ rest)
      | closing ↦ ended true rest
      | splitting ↦ with_split (taken [] rest)
      | belonging more ↦ with_item item (taken more rest)
    ]).arguments ≡ true →
    (elim p as (λ _. Taken) [
      | at_end ↦ ended false (item ∷ rest)
      | closing ↦ ended true rest
      | splitting ↦ with_split (taken [] rest)
      | belonging more ↦ with_item item (taken more rest)
    ]).closed ≡ true →
    (elim p as (λ _. Taken) [
      | at_end ↦ ended false (item ∷ rest)
      | closing ↦ ended true rest
      | splitting ↦ with_split (taken [] rest)
      | belonging more ↦ with_item item (taken more rest)
    ]).behind ≡ rest
bare_token_behind item rest at_end e b c = absurd (let no : false ≡ true = c in cc)
bare_token_behind item rest closing e b c = refl
bare_token_behind item rest splitting e b c = absurd (let no : is_bare ([] ∷ (taken [] rest).arguments) ≡ false = split_bare (taken [] rest).arguments (some_arguments [] rest) in cc)
bare_token_behind item rest (belonging more) e b c =
    absurd (let no : is_bare (first_longer item (taken more rest).arguments) ≡ false = longer_bare item (taken more rest) (some_arguments more rest) ∙ ap (λ (n : Bool). n && is_bare (taken more rest).arguments) e in cc)

pub bare_behind : (coming : List Coming) → (survey (taken [] coming)).bare ≡ true → (survey (taken [] coming)).closed ≡ true → (taken [] coming).behind ≡ drop 1 (behind_lines coming)
bare_behind [] b c = absurd (let no : false ≡ true = c in cc)
bare_behind (item ∷ rest) b c = by_newline (is_newline item) refl (bare_behind rest)
  where
    by_newline : (n : Bool) → is_newline item ≡ n → ((survey (taken [] rest)).bare ≡ true → (survey (taken [] rest)).closed ≡ true → (taken [] rest).behind ≡ drop 1 (behind_lines rest)) →
        (taken [] (item ∷ rest)).behind ≡ drop 1 (elim n as (λ _. List Coming) [ true ↦ behind_lines rest | false ↦ item ∷ rest ])
    by_newline false e again = bare_token_behind item rest (place_in [] item) e b c
    by_newline true e again =
        let P : Place_in_list → Taken = λ p. elim p as (λ _. Taken) [
          | at_end ↦ ended false (item ∷ rest)
          | closing ↦ ended true rest
          | splitting ↦ with_split (taken [] rest)
          | belonging more ↦ with_item item (taken more rest)
        ] in
        let is : taken [] (item ∷ rest) ≡ with_item item (taken [] rest) = ap P (newline_place item e) in
        let bare : is_newline item && is_bare (taken [] rest).arguments ≡ true = sym (longer_bare item (taken [] rest) (some_arguments [] rest)) ∙ sym (ap (λ (k : Taken). is_bare k.arguments) is) ∙ b in
        let mine : is_bare (taken [] rest).arguments ≡ true = sym (ap (λ (n : Bool). n && is_bare (taken [] rest).arguments) e) ∙ bare in
        ap (λ (k : Taken). k.behind) is ∙ again mine (sym (ap (λ (k : Taken). k.closed) is) ∙ c)
