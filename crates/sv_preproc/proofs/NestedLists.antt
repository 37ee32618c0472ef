-- A list that stands in an argument or in a body is the same list, seen from there alone or with all that comes.
use Rattle.std.proofs.Common.{◌≡◌, ℕ, zero, suc, ◌||◌, Bool, true, false, cond, List, [], ◌∷◌, ◌++◌, drop, Option, Some, None, All, codes, refl, sym, ap, ◌∙◌, subst}
use Rattle.std.proofs.lemmas.List.Elements.{All-head, All-tail}
use Rattle.sv_source.specs.declared.token.Kind.{Kind}
use Rattle.sv_source.specs.declared.token.Kind.TheVariants as K
use Rattle.sv_source.specs.declared.token.Token.{Token}
use Rattle.sv_macro.specs.Tokens.{is, is_line, is_line_kind, is_continued, is_continued_kind}
use Rattle.sv_macro.specs.Lines.{is_newline, behind_lines, any_token, first_by}
use Rattle.sv_macro.specs.Brackets.{sign_of, sign_by, same_bracket, closing_one, brackets_behind, is_parenthesis, is_parenthesis_kind, closing, comma}
use Rattle.sv_macro.specs.Lists as lists
use Rattle.sv_macro.specs.Lists.{Taken, Place_in_list, at_end, splitting, belonging, sign_in, place_in, ended, first_longer, with_item, with_split, taken}
use Rattle.sv_macro.specs.declared.brackets.Bracket.{Bracket}
use Rattle.sv_macro.specs.declared.brackets.Bracket.TheVariants.{Round, Square, Curly}
use Rattle.sv_macro.specs.declared.brackets.Sign.{Sign}
use Rattle.sv_macro.specs.declared.brackets.Sign.TheVariants.{Opens, Closes, ClosesStar, Comma, Other}
use Rattle.sv_macro.specs.declared.coming.Coming.{Coming}
use Rattle.sv_macro.specs.declared.coming.Coming.TheVariants.{Raw, Kept, FileEnd, UseEnd}
use Rattle.sv_macro.proofs.Taken.{some_arguments}

-- a list that is closed
abbrev pub listed : List Coming → List (List Coming) → List Coming → Taken
listed first others behind = record { arguments = first ∷ others; closed = true; behind = behind }

abbrev pub by_place : Coming → List Coming → Place_in_list → Taken
by_place item rest p = elim p as (λ _. Taken) [
  | at_end ↦ ended false (item ∷ rest)
  | lists.closing ↦ ended true rest
  | splitting ↦ with_split (taken [] rest)
  | belonging more ↦ with_item item (taken more rest)
]

-- what the first item is to a closed list
pub data Head (brackets : List Bracket) (item : Coming) (rest first : List Coming) (others : List (List Coming)) (behind : List Coming) : Type 0 where
  closes : place_in brackets item ≡ lists.closing → first ≡ [] → others ≡ [] → rest ≡ behind → Head brackets item rest first others behind
  splits : (next : List Coming) (more : List (List Coming)) → place_in brackets item ≡ splitting → first ≡ [] → others ≡ next ∷ more → taken [] rest ≡ listed next more behind
      → Head brackets item rest first others behind
  belongs : (more : List Bracket) (left : List Coming) → place_in brackets item ≡ belonging more → first ≡ item ∷ left → taken more rest ≡ listed left others behind
      → Head brackets item rest first others behind

module _ (brackets : List Bracket) (item : Coming) (rest first : List Coming) (others : List (List Coming)) (behind : List Coming) where
  head_by : (p : Place_in_list) → place_in brackets item ≡ p → by_place item rest p ≡ listed first others behind → Head brackets item rest first others behind
  head_by at_end e k = absurd (let no : false ≡ true = ap (λ (k : Taken). k.closed) k in cc)
  head_by lists.closing e k =
      let arguments : [] ∷ [] ≡ first ∷ others = ap (λ (k : Taken). k.arguments) k in
      let a : first ≡ [] = cc in
      let b : others ≡ [] = cc in
      closes e a b (ap (λ (k : Taken). k.behind) k)
  head_by splitting e k =
      let some = some_arguments [] rest in
      let arguments : [] ∷ some.first ∷ some.rest ≡ first ∷ others = ap (λ (l : List (List Coming)). [] ∷ l) (sym some.are) ∙ ap (λ (k : Taken). k.arguments) k in
      let a : first ≡ [] = cc in
      let b : others ≡ some.first ∷ some.rest = cc in
      splits some.first some.rest e a b (λ i. record { arguments = some.are i; closed = ap (λ (k : Taken). k.closed) k i; behind = ap (λ (k : Taken). k.behind) k i })
  head_by (belonging more) e k =
      let some = some_arguments more rest in
      let arguments : (item ∷ some.first) ∷ some.rest ≡ first ∷ others = ap (first_longer item) (sym some.are) ∙ ap (λ (k : Taken). k.arguments) k in
      let a : first ≡ item ∷ some.first = cc in
      let b : some.rest ≡ others = cc in
      let same : (taken more rest).arguments ≡ some.first ∷ others = some.are ∙ ap (λ (l : List (List Coming)). some.first ∷ l) b in
      belongs more some.first e a (λ i. record { arguments = same i; closed = ap (λ (k : Taken). k.closed) k i; behind = ap (λ (k : Taken). k.behind) k i })

  pub head_of : taken brackets (item ∷ rest) ≡ listed first others behind → Head brackets item rest first others behind
  head_of k = head_by (place_in brackets item) refl k

-- two lists of the same arguments, and what is said of what is behind them where they are closed
pub record Same_list (P : List Coming → List Coming → Type 0) (inner outer : Taken) : Type 0 where
  pub arguments : inner.arguments ≡ outer.arguments
  pub closed : inner.closed ≡ outer.closed
  pub behind : outer.closed ≡ true → P inner.behind outer.behind

module _ (P : List Coming → List Coming → Type 0) where
  same_item : (item : Coming) (inner outer : Taken) → Same_list P inner outer → Same_list P (with_item item inner) (with_item item outer)
  same_item item inner outer s = record { arguments = ap (first_longer item) s.arguments; closed = s.closed; behind = s.behind }

  same_split : (inner outer : Taken) → Same_list P inner outer → Same_list P (with_split inner) (with_split outer)
  same_split inner outer s = record { arguments = ap (λ (l : List (List Coming)). [] ∷ l) s.arguments; closed = s.closed; behind = s.behind }

  same_end : (inner outer : List Coming) → Same_list P (ended false inner) (ended false outer)
  same_end inner outer = record { arguments = refl; closed = refl; behind = λ no. absurd (let x : false ≡ true = no in cc) }

  same_close : (inner outer : List Coming) → P inner outer → Same_list P (ended true inner) (ended true outer)
  same_close inner outer p = record { arguments = refl; closed = refl; behind = λ _. p }

-- what comes, of an argument with these brackets open and of so many bodies in it, and with all behind it
abbrev pub Inside : List Bracket → List (List Coming) → List Coming → ℕ → List Coming → List Coming → Type 0
Inside brackets others behind zero inner outer = taken brackets outer ≡ listed inner others behind
Inside brackets others behind (suc depth) inner [] = ⊥
Inside brackets others behind (suc depth) inner (Raw t ∷ outer) = (rest : List Coming) × (inner ≡ Raw t ∷ rest) × Inside brackets others behind (suc depth) rest outer
Inside brackets others behind (suc depth) inner (Kept t ∷ outer) = (rest : List Coming) × (inner ≡ Kept t ∷ rest) × Inside brackets others behind (suc depth) rest outer
Inside brackets others behind (suc depth) inner (FileEnd ∷ outer) = ⊥
Inside brackets others behind (suc depth) inner (UseEnd name ∷ outer) = (rest : List Coming) × (inner ≡ UseEnd name ∷ rest) × Inside brackets others behind depth rest outer

-- the same behind a parenthesis
abbrev pub Opened : List Bracket → List (List Coming) → List Coming → ℕ → List Coming → List Coming → Type 0
Opened brackets others behind zero inner outer = Inside (Round ∷ brackets) others behind zero inner outer
Opened brackets others behind (suc depth) inner outer = Inside brackets others behind (suc depth) inner outer

-- a mark that ends an argument
abbrev pub IsOutside : Place_in_list → Type 0
IsOutside at_end = ⊥
IsOutside lists.closing = Unit {0}
IsOutside splitting = Unit {0}
IsOutside (belonging more) = ⊥

never_outside : (b : Bracket) (bs : List Bracket) (item : Coming) (p : Place_in_list) → place_in (b ∷ bs) item ≡ p → IsOutside p → ⊥
never_outside b bs (Raw t) p e o = subst IsOutside (sym e) o
never_outside b bs (Kept t) p e o = subst IsOutside (sym e) o
never_outside b bs FileEnd p e o = subst IsOutside (sym e) o
never_outside b bs (UseEnd name) p e o = subst IsOutside (sym e) o

pub sign_other : (brackets : List Bracket) → sign_in brackets Other ≡ belonging brackets
sign_other [] = refl
sign_other (b ∷ bs) = refl

pub not_other : (brackets : List Bracket) (sign : Sign) (p : Place_in_list) → sign_in brackets sign ≡ p → IsOutside p → sign ≡ Other → ⊥
not_other brackets sign p e o other =
    let is : belonging brackets ≡ p = sym (sign_other brackets) ∙ sym (ap (sign_in brackets) other) ∙ e in
    subst IsOutside (sym is) o

-- a newline is no bracket, and a parenthesis opens one
newline_other : (t : Token) → (is_line t || is_continued t) ≡ true → sign_of t ≡ Other
unfolding sign_of
newline_other t = by_kind t.kind
  where
    by_kind : (kind : Kind) → (is_line_kind kind || is_continued_kind kind) ≡ true → sign_by kind t ≡ Other
    by_kind K.Mark e = absurd (let no : false ≡ true = e in cc)
    by_kind _ e = refl

parenthesis_opens : (t : Token) → is_parenthesis t ≡ true → sign_of t ≡ Opens Round
unfolding sign_of
parenthesis_opens t = by_kind t.kind
  where
    by_kind : (kind : Kind) → is_parenthesis_kind kind t ≡ true → sign_by kind t ≡ Opens Round
    by_kind K.Mark e = ap (λ (b : Bool). cond {A = Sign} b (Opens Round) (cond {A = Sign} (is t (codes "(*")) (Opens Round) (cond {A = Sign} (is t (codes "[")) (Opens Square) (cond {A = Sign} (is t (codes "{")) (Opens Curly) (closing t (comma t)))))) e
    by_kind _ e = absurd (let no : false ≡ true = e in cc)

-- brackets that are open in brackets
closing_more : (c b : Bracket) (bs more : List Bracket) → closing_one c (b ∷ bs ++ more) ≡ closing_one c (b ∷ bs) ++ more
closing_more c b bs more = by_same (same_bracket c b)
  where
    by_same : (s : Bool) → cond {A = List Bracket} s (bs ++ more) (b ∷ bs ++ more) ≡ cond {A = List Bracket} s bs (b ∷ bs) ++ more
    by_same true = refl
    by_same false = refl

behind_more : (sign : Sign) (b : Bracket) (bs more : List Bracket) → brackets_behind sign (b ∷ bs ++ more) ≡ brackets_behind sign (b ∷ bs) ++ more
behind_more (Opens c) b bs more = refl
behind_more (Closes c) b bs more = closing_more c b bs more
behind_more ClosesStar b bs more = closing_more Round b bs more
behind_more Comma b bs more = refl
behind_more Other b bs more = refl

nested_place : (bs : List Bracket) (brackets : List Bracket) (sign : Sign) → sign_in (bs ++ Round ∷ brackets) sign ≡ belonging (brackets_behind sign (bs ++ Round ∷ brackets))
nested_place [] brackets sign = refl
nested_place (b ∷ bs) brackets sign = refl

never_nested : (bs brackets : List Bracket) (item : Coming) (p : Place_in_list) → place_in (bs ++ Round ∷ brackets) item ≡ p → IsOutside p → ⊥
never_nested [] brackets item p e o = never_outside Round brackets item p e o
never_nested (b ∷ bs) brackets item p e o = never_outside b (bs ++ Round ∷ brackets) item p e o

-- in an argument
module _ (brackets : List Bracket) (others : List (List Coming)) (behind : List Coming) where
  abbrev Behind : List Coming → List Coming → Type 0
  Behind inner outer = taken brackets outer ≡ listed inner others behind

  nested_sign : (bs : List Bracket) (sign : Sign) (item : Coming) (inner outer : List Coming) → taken (brackets_behind sign (bs ++ Round ∷ brackets)) outer ≡ listed inner others behind →
      ((more : List Bracket) → taken (more ++ Round ∷ brackets) outer ≡ listed inner others behind → Same_list Behind (taken more inner) (taken more outer)) →
      Same_list Behind (by_place item inner (sign_in bs sign)) (by_place item outer (sign_in bs sign))
  nested_sign [] (Opens b) item inner outer e again = same_item Behind item _ _ (again (b ∷ []) e)
  nested_sign [] (Closes Round) item inner outer e again = same_close Behind inner outer e
  nested_sign [] (Closes Square) item inner outer e again = same_item Behind item _ _ (again [] e)
  nested_sign [] (Closes Curly) item inner outer e again = same_item Behind item _ _ (again [] e)
  nested_sign [] ClosesStar item inner outer e again = same_end Behind (item ∷ inner) (item ∷ outer)
  nested_sign [] Comma item inner outer e again = same_split Behind _ _ (again [] e)
  nested_sign [] Other item inner outer e again = same_item Behind item _ _ (again [] e)
  nested_sign (b ∷ bs) sign item inner outer e again =
      let P : List Bracket → Type 0 = λ l. taken l outer ≡ listed inner others behind in
      same_item Behind item _ _ (again (brackets_behind sign (b ∷ bs)) (subst P (behind_more sign b bs (Round ∷ brackets)) e))

  nested_belongs : (bs : List Bracket) (item : Coming) (left outer : List Coming) (more : List Bracket) → place_in (bs ++ Round ∷ brackets) item ≡ belonging more → taken more outer ≡ listed left others behind →
      ((l : List Bracket) → taken (l ++ Round ∷ brackets) outer ≡ listed left others behind → Same_list Behind (taken l left) (taken l outer)) →
      Same_list Behind (taken bs (item ∷ left)) (taken bs (item ∷ outer))
  nested_belongs bs (Raw t) left outer more p e again =
      let same : belonging more ≡ belonging (brackets_behind (sign_of t) (bs ++ Round ∷ brackets)) = sym p ∙ nested_place bs brackets (sign_of t) in
      let is : more ≡ brackets_behind (sign_of t) (bs ++ Round ∷ brackets) = cc in
      let P : List Bracket → Type 0 = λ l. taken l outer ≡ listed left others behind in
      nested_sign bs (sign_of t) (Raw t) left outer (subst P is e) again
  nested_belongs bs (Kept t) left outer more p e again =
      let same : belonging more ≡ belonging (brackets_behind (sign_of t) (bs ++ Round ∷ brackets)) = sym p ∙ nested_place bs brackets (sign_of t) in
      let is : more ≡ brackets_behind (sign_of t) (bs ++ Round ∷ brackets) = cc in
      let P : List Bracket → Type 0 = λ l. taken l outer ≡ listed left others behind in
      nested_sign bs (sign_of t) (Kept t) left outer (subst P is e) again
  nested_belongs bs FileEnd left outer more p e again = absurd (let no : at_end ≡ belonging more = p in cc)
  nested_belongs bs (UseEnd name) left outer more p e again = absurd (let no : at_end ≡ belonging more = p in cc)

  nested_head : (bs : List Bracket) (item : Coming) (inner outer : List Coming) → Head (bs ++ Round ∷ brackets) item outer inner others behind →
      ((l : List Bracket) (left : List Coming) → taken (l ++ Round ∷ brackets) outer ≡ listed left others behind → Same_list Behind (taken l left) (taken l outer)) →
      Same_list Behind (taken bs inner) (taken bs (item ∷ outer))
  nested_head bs item inner outer (closes p a b c) again = absurd (never_nested bs brackets item lists.closing p tt)
  nested_head bs item inner outer (splits next more p a b c) again = absurd (never_nested bs brackets item splitting p tt)
  nested_head bs item inner outer (belongs more left p a c) again =
      let P : List Coming → Type 0 = λ l. Same_list Behind (taken bs l) (taken bs (item ∷ outer)) in
      subst P (sym a) (nested_belongs bs item left outer more p c (λ l e. again l left e))

  nested : (outer inner : List Coming) (bs : List Bracket) → taken (bs ++ Round ∷ brackets) outer ≡ listed inner others behind → Same_list Behind (taken bs inner) (taken bs outer)
  nested [] inner bs e = absurd (let no : false ≡ true = ap (λ (k : Taken). k.closed) e in cc)
  nested (item ∷ outer) inner bs e =
      nested_head bs item inner outer (head_of (bs ++ Round ∷ brackets) item outer inner others behind e) (λ l left f. nested outer left l f)

  -- in a body
  body_place : (depth : ℕ) (item : Coming) (inner outer : List Coming) (p : Place_in_list) → Inside brackets others behind (suc depth) inner outer →
      Same_list (Inside brackets others behind (suc depth)) (taken [] inner) (taken [] outer) → ((more : List Bracket) → Same_list (Inside brackets others behind (suc depth)) (taken more inner) (taken more outer)) →
      Same_list (Inside brackets others behind (suc depth)) (by_place item inner p) (by_place item outer p)
  body_place depth item inner outer at_end i split again = same_end (Inside brackets others behind (suc depth)) (item ∷ inner) (item ∷ outer)
  body_place depth item inner outer lists.closing i split again = same_close (Inside brackets others behind (suc depth)) inner outer i
  body_place depth item inner outer splitting i split again = same_split (Inside brackets others behind (suc depth)) _ _ split
  body_place depth item inner outer (belonging more) i split again = same_item (Inside brackets others behind (suc depth)) item _ _ (again more)

  in_body : (depth : ℕ) (outer inner : List Coming) (bs : List Bracket) → Inside brackets others behind (suc depth) inner outer → Same_list (Inside brackets others behind (suc depth)) (taken bs inner) (taken bs outer)
  in_body depth [] inner bs i = absurd i
  in_body depth (Raw t ∷ outer) inner bs i =
      let P : List Coming → Type 0 = λ l. Same_list (Inside brackets others behind (suc depth)) (taken bs l) (taken bs (Raw t ∷ outer)) in
      subst P (sym i.1) (body_place depth (Raw t) i.0 outer (place_in bs (Raw t)) i.2 (in_body depth outer i.0 [] i.2) (λ more. in_body depth outer i.0 more i.2))
  in_body depth (Kept t ∷ outer) inner bs i =
      let P : List Coming → Type 0 = λ l. Same_list (Inside brackets others behind (suc depth)) (taken bs l) (taken bs (Kept t ∷ outer)) in
      subst P (sym i.1) (body_place depth (Kept t) i.0 outer (place_in bs (Kept t)) i.2 (in_body depth outer i.0 [] i.2) (λ more. in_body depth outer i.0 more i.2))
  in_body depth (FileEnd ∷ outer) inner bs i = absurd i
  in_body depth (UseEnd name ∷ outer) inner bs i =
      let P : List Coming → Type 0 = λ l. Same_list (Inside brackets others behind (suc depth)) (taken bs l) (taken bs (UseEnd name ∷ outer)) in
      subst P (sym i.1) (same_end (Inside brackets others behind (suc depth)) (UseEnd name ∷ i.0) (UseEnd name ∷ outer))

  pub list_inside : (depth : ℕ) (inner outer : List Coming) → Opened brackets others behind depth inner outer → Same_list (Inside brackets others behind depth) (taken [] inner) (taken [] outer)
  list_inside zero inner outer i = (let s = nested outer inner [] i in record { arguments = s.arguments; closed = s.closed; behind = s.behind })
  list_inside (suc depth) inner outer i = in_body depth outer inner [] i

  -- newlines
  not_newline : (item : Coming) (p : Place_in_list) → place_in brackets item ≡ p → IsOutside p → is_newline item ≡ false
  not_newline (Raw t) p e o = by_line (is_newline (Raw t)) refl
    where
      by_line : (n : Bool) → is_newline (Raw t) ≡ n → n ≡ false
      by_line true f = absurd (not_other brackets (sign_of t) p e o (newline_other t f))
      by_line false f = refl
  not_newline (Kept t) p e o = refl
  not_newline FileEnd p e o = refl
  not_newline (UseEnd name) p e o = refl

  line_stays : (item : Coming) (rest : List Coming) → is_newline item ≡ false → behind_lines (item ∷ rest) ≡ item ∷ rest
  line_stays item rest e = ap (λ (b : Bool). elim b as (λ _. List Coming) [ true ↦ behind_lines rest | false ↦ item ∷ rest ]) e

  line_goes : (item : Coming) (rest : List Coming) → is_newline item ≡ true → behind_lines (item ∷ rest) ≡ behind_lines rest
  line_goes item rest e = ap (λ (b : Bool). elim b as (λ _. List Coming) [ true ↦ behind_lines rest | false ↦ item ∷ rest ]) e

  newline_belongs : (item : Coming) (more : List Bracket) → is_newline item ≡ true → place_in brackets item ≡ belonging more → more ≡ brackets
  newline_belongs (Raw t) more n p = (let same : belonging more ≡ belonging brackets = sym p ∙ ap (sign_in brackets) (newline_other t n) ∙ sign_other brackets in cc)
  newline_belongs (Kept t) more n p = absurd (let no : false ≡ true = n in cc)
  newline_belongs FileEnd more n p = absurd (let no : false ≡ true = n in cc)
  newline_belongs (UseEnd name) more n p = absurd (let no : false ≡ true = n in cc)

  both_lines : (inner outer inner' outer' : List Coming) → inner ≡ inner' → outer ≡ outer' → taken brackets outer' ≡ listed inner' others behind → taken brackets outer ≡ listed inner others behind
  both_lines inner outer inner' outer' a b e = ap (taken brackets) b ∙ e ∙ ap (λ (l : List Coming). listed l others behind) (sym a)

  lines_head : (item : Coming) (inner outer : List Coming) → taken brackets (item ∷ outer) ≡ listed inner others behind → Head brackets item outer inner others behind →
      ((left : List Coming) → taken brackets outer ≡ listed left others behind → taken brackets (behind_lines outer) ≡ listed (behind_lines left) others behind) →
      taken brackets (behind_lines (item ∷ outer)) ≡ listed (behind_lines inner) others behind
  lines_head item inner outer e (closes p a b c) again = both_lines _ _ inner (item ∷ outer) (ap behind_lines a ∙ sym a) (line_stays item outer (not_newline item lists.closing p tt)) e
  lines_head item inner outer e (splits next more p a b c) again = both_lines _ _ inner (item ∷ outer) (ap behind_lines a ∙ sym a) (line_stays item outer (not_newline item splitting p tt)) e
  lines_head item inner outer e (belongs more left p a c) again = by_line (is_newline item) refl
    where
      by_line : (n : Bool) → is_newline item ≡ n → taken brackets (behind_lines (item ∷ outer)) ≡ listed (behind_lines inner) others behind
      by_line false n = both_lines _ _ inner (item ∷ outer) (ap behind_lines a ∙ line_stays item left n ∙ sym a) (line_stays item outer n) e
      by_line true n =
          let P : List Bracket → Type 0 = λ l. taken l outer ≡ listed left others behind in
          both_lines _ _ (behind_lines left) (behind_lines outer) (ap behind_lines a ∙ line_goes item left n) (line_goes item outer n) (again left (subst P (newline_belongs item more n p) c))

  lines_argument : (outer inner : List Coming) → taken brackets outer ≡ listed inner others behind → taken brackets (behind_lines outer) ≡ listed (behind_lines inner) others behind
  lines_argument [] inner e = absurd (let no : false ≡ true = ap (λ (k : Taken). k.closed) e in cc)
  lines_argument (item ∷ outer) inner e = lines_head item inner outer e (head_of brackets item outer inner others behind e) (λ left f. lines_argument outer left f)

  lines_body : (depth : ℕ) (outer inner : List Coming) → Inside brackets others behind (suc depth) inner outer → Inside brackets others behind (suc depth) (behind_lines inner) (behind_lines outer)
  lines_body depth [] inner i = absurd i
  lines_body depth (Raw t ∷ outer) inner i =
      let P : List Coming → Type 0 = λ l. Inside brackets others behind (suc depth) (behind_lines l) (behind_lines (Raw t ∷ outer)) in
      subst P (sym i.1) (by_line (is_newline (Raw t)) (lines_body depth outer i.0 i.2))
    where
      by_line : (n : Bool) → Inside brackets others behind (suc depth) (behind_lines i.0) (behind_lines outer) →
          Inside brackets others behind (suc depth) (elim n as (λ _. List Coming) [ true ↦ behind_lines i.0 | false ↦ Raw t ∷ i.0 ]) (elim n as (λ _. List Coming) [ true ↦ behind_lines outer | false ↦ Raw t ∷ outer ])
      by_line true again = again
      by_line false again = (i.0, refl, i.2)
  lines_body depth (Kept t ∷ outer) inner i = (i.0, ap behind_lines i.1, i.2)
  lines_body depth (FileEnd ∷ outer) inner i = absurd i
  lines_body depth (UseEnd name ∷ outer) inner i = (i.0, ap behind_lines i.1, i.2)

  pub lines_inside : (depth : ℕ) (inner outer : List Coming) → Inside brackets others behind depth inner outer → Inside brackets others behind depth (behind_lines inner) (behind_lines outer)
  lines_inside zero inner outer i = lines_argument outer inner i
  lines_inside (suc depth) inner outer i = lines_body depth outer inner i

-- tokens of a body
abbrev pub IsToken : Coming → Type 0
IsToken (Raw t) = Unit {0}
IsToken (Kept t) = Unit {0}
IsToken FileEnd = ⊥
IsToken (UseEnd name) = ⊥

-- the parenthesis that would begin a list
abbrev pub NoList : Option Token → Type 0
NoList None = Unit {0}
NoList (Some t) = is_parenthesis t ≡ false

pub data Next (Rest : List Coming → List Coming → Type 0) (inner outer : List Coming) : Type 0 where
  neither : first_by any_token inner ≡ None → NoList (first_by any_token outer) → Next Rest inner outer
  both : first_by any_token inner ≡ first_by any_token outer → ((t : Token) → first_by any_token outer ≡ Some t → is_parenthesis t ≡ true → Rest (drop 1 inner) (drop 1 outer)) → Next Rest inner outer

module _ (brackets : List Bracket) (others : List (List Coming)) (behind : List Coming) where
  no_parenthesis : (t : Token) (p : Place_in_list) → sign_in brackets (sign_of t) ≡ p → IsOutside p → is_parenthesis t ≡ false
  no_parenthesis t p e o = by_test (is_parenthesis t) refl
    where
      opens : (l : List Bracket) → IsOutside (sign_in l (Opens Round)) → ⊥
      opens [] i = i
      opens (b ∷ bs) i = i

      by_test : (b : Bool) → is_parenthesis t ≡ b → b ≡ false
      by_test true f =
          let is : sign_in brackets (Opens Round) ≡ p = sym (ap (sign_in brackets) (parenthesis_opens t f)) ∙ e in
          absurd (opens brackets (subst IsOutside (sym is) o))
      by_test false f = refl

  ends_without : (item : Coming) (p : Place_in_list) → place_in brackets item ≡ p → IsOutside p → NoList (any_token item)
  ends_without (Raw t) p e o = no_parenthesis t p e o
  ends_without (Kept t) p e o = no_parenthesis t p e o
  ends_without FileEnd p e o = tt
  ends_without (UseEnd name) p e o = tt

  opens_round : (l : List Bracket) → sign_in l (Opens Round) ≡ belonging (Round ∷ l)
  opens_round [] = refl
  opens_round (b ∷ bs) = refl

  opened_by : (t : Token) (more : List Bracket) → is_parenthesis t ≡ true → sign_in brackets (sign_of t) ≡ belonging more → more ≡ Round ∷ brackets
  opened_by t more f p = (let same : belonging more ≡ belonging (Round ∷ brackets) = sym p ∙ ap (sign_in brackets) (parenthesis_opens t f) ∙ opens_round brackets in cc)

  rest_opened : (item : Coming) (t : Token) (inner outer left : List Coming) (more : List Bracket) → any_token item ≡ Some t → is_parenthesis t ≡ true → place_in brackets item ≡ belonging more →
      inner ≡ item ∷ left → taken more outer ≡ listed left others behind → Opened brackets others behind zero (drop 1 inner) outer
  rest_opened (Raw u) t inner outer left more found f p a c =
      let same : Some u ≡ Some t = found in
      let is : u ≡ t = cc in
      let l : more ≡ Round ∷ brackets = opened_by u more (ap is_parenthesis is ∙ f) p in
      let P : List Bracket → Type 0 = λ l. taken l outer ≡ listed left others behind in
      subst P l c ∙ ap (λ (x : List Coming). listed x others behind) (sym (ap (drop 1) a))
  rest_opened (Kept u) t inner outer left more found f p a c =
      let same : Some u ≡ Some t = found in
      let is : u ≡ t = cc in
      let l : more ≡ Round ∷ brackets = opened_by u more (ap is_parenthesis is ∙ f) p in
      let P : List Bracket → Type 0 = λ l. taken l outer ≡ listed left others behind in
      subst P l c ∙ ap (λ (x : List Coming). listed x others behind) (sym (ap (drop 1) a))
  rest_opened FileEnd t inner outer left more found f p a c = absurd (let no : at_end ≡ belonging more = p in cc)
  rest_opened (UseEnd name) t inner outer left more found f p a c = absurd (let no : at_end ≡ belonging more = p in cc)

  next_argument : (item : Coming) (inner outer : List Coming) → Head brackets item outer inner others behind → Next (Opened brackets others behind zero) inner (item ∷ outer)
  next_argument item inner outer (closes p a b c) = neither (ap (first_by any_token) a) (ends_without item lists.closing p tt)
  next_argument item inner outer (splits next more p a b c) = neither (ap (first_by any_token) a) (ends_without item splitting p tt)
  next_argument item inner outer (belongs more left p a c) = both (ap (first_by any_token) a) (λ t found f. rest_opened item t inner outer left more found f p a c)

  pub next_inside : (depth : ℕ) (inner outer : List Coming) → Inside brackets others behind depth inner outer → Next (Opened brackets others behind depth) inner outer
  next_inside zero inner [] i = absurd (let no : false ≡ true = ap (λ (k : Taken). k.closed) i in cc)
  next_inside zero inner (item ∷ outer) i = next_argument item inner outer (head_of brackets item outer inner others behind i)
  next_inside (suc depth) inner [] i = absurd i
  next_inside (suc depth) inner (Raw t ∷ outer) i =
      let P : List Coming → Type 0 = λ l. Inside brackets others behind (suc depth) l outer in
      both (ap (first_by any_token) i.1) (λ u found f. subst P (sym (ap (drop 1) i.1)) i.2)
  next_inside (suc depth) inner (Kept t ∷ outer) i =
      let P : List Coming → Type 0 = λ l. Inside brackets others behind (suc depth) l outer in
      both (ap (first_by any_token) i.1) (λ u found f. subst P (sym (ap (drop 1) i.1)) i.2)
  next_inside (suc depth) inner (FileEnd ∷ outer) i = absurd i
  next_inside (suc depth) inner (UseEnd name ∷ outer) i = neither (ap (first_by any_token) i.1) tt

  pub tokens_inside : (depth : ℕ) (items inner outer : List Coming) → All IsToken items → Inside brackets others behind (suc depth) inner outer → Inside brackets others behind (suc depth) (items ++ inner) (items ++ outer)
  tokens_inside depth [] inner outer all i = i
  tokens_inside depth (Raw t ∷ items) inner outer all i = (items ++ inner, refl, tokens_inside depth items inner outer (All-tail IsToken (Raw t) items all) i)
  tokens_inside depth (Kept t ∷ items) inner outer all i = (items ++ inner, refl, tokens_inside depth items inner outer (All-tail IsToken (Kept t) items all) i)
  tokens_inside depth (FileEnd ∷ items) inner outer all i = absurd (All-head IsToken FileEnd items all)
  tokens_inside depth (UseEnd name ∷ items) inner outer all i = absurd (All-head IsToken (UseEnd name) items all)
