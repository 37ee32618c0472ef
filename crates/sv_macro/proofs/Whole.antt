-- The pass from the end of a text finds how long each list is.
use Rattle.std.proofs.Common.{◌≡◌, Bool, true, false, cond, List, [], ◌∷◌, Option, Some, None, refl, sym, ap, ◌∙◌, ◌||◌}
use Rattle.std.specs.Option.{option_map}
use Rattle.sv_macro.specs.Brackets.{sign_of, same_bracket}
use Rattle.sv_macro.specs.Lists.{at_end, closing, splitting, belonging, sign_in, is_barred, is_cut}
use Rattle.sv_macro.specs.Waiting.{one_comma, one_item, in_brackets, whole, behind_kind, with_first, closed_other, round, with_sign, waiting, first_list, unwound}
use Rattle.sv_macro.specs.declared.brackets.Bracket.{Bracket}
use Rattle.sv_macro.specs.declared.brackets.Bracket.TheVariants.{Round, Square, Curly}
use Rattle.sv_macro.specs.declared.brackets.Sign.{Sign}
use Rattle.sv_macro.specs.declared.brackets.Sign.TheVariants.{Opens, Closes, ClosesStar, Comma, Other}
use Rattle.sv_macro.specs.declared.coming.Coming.{Coming}
use Rattle.sv_macro.specs.declared.coming.Coming.TheVariants.{Raw, Kept, FileEnd, UseEnd}
use Rattle.sv_macro.specs.declared.pending.ListSize.{ListSize}
use Rattle.sv_macro.specs.declared.pending.Waiting.{Waiting}

unwound-nil : (open_brackets : List Bracket) → unwound open_brackets [] ≡ []
unwound-nil [] = refl
unwound-nil (b ∷ bs) = unwound-nil bs

none_behind : (open_brackets : List Bracket) → None ≡ first_list (unwound open_brackets [])
none_behind open_brackets = rw (unwound-nil open_brackets) refl

-- the first list with another size
by_list : (f : ListSize → ListSize) (is_list : Bool) (size : ListSize) → option_map f (cond {A = Option ListSize} is_list (Some size) None) ≡ cond {A = Option ListSize} is_list (Some (f size)) None
by_list f true size = refl
by_list f false size = refl

first_mapped : (f : ListSize → ListSize) (ws : List Waiting) → option_map f (first_list ws) ≡ first_list (with_first f ws)
first_mapped f [] = refl
first_mapped f (w ∷ ws) = by_list f w.is_list w.size

-- the size of the first is of no account behind a bracket
behind_first : (f : ListSize → ListSize) (b : Bracket) (ws : List Waiting) → behind_kind b (with_first f ws) ≡ behind_kind b ws
behind_first f b [] = refl
behind_first f b (w ∷ ws) = refl

first_behind : (f : ListSize → ListSize) (b : Bracket) (bs : List Bracket) (ws : List Waiting) → first_list (unwound (b ∷ bs) ws) ≡ first_list (unwound (b ∷ bs) (with_first f ws))
first_behind f b bs ws = ap (λ xs. first_list (unwound bs xs)) (sym (behind_first f b ws))

other_mapped : (b : Bracket) (item : Coming) (ws : List Waiting) → option_map (one_item item) (first_list ws) ≡ first_list (closed_other b item ws)
other_mapped b item [] = refl
other_mapped b item (w ∷ ws) = by_list (one_item item) w.is_list w.size

module _ (item : Coming) (rest : List Coming) (ws : List Waiting) (later : (open_brackets : List Bracket) → whole open_brackets rest ≡ first_list (unwound open_brackets ws)) where
  abbrev Found : List Bracket → Sign → Type 0
  Found open_brackets sign =
      (elim (sign_in open_brackets sign) as (λ _. Option ListSize) [
        | at_end ↦ None
        | closing ↦ Some (record { commas = 0; bare = true })
        | splitting ↦ option_map one_comma (whole [] rest)
        | belonging more ↦ in_brackets open_brackets item (whole more rest)
      ]) ≡ first_list (unwound open_brackets (with_sign sign item ws))

  closes_round : (is_list : Bool) (b : Bracket) (bs : List Bracket) → whole (cond {A = List Bracket} (same_bracket Round b) bs (b ∷ bs)) rest ≡ first_list (unwound (b ∷ bs) (round is_list ∷ ws))
  closes_round is_list Round bs = later bs
  closes_round is_list Square bs = later (Square ∷ bs)
  closes_round is_list Curly bs = later (Curly ∷ bs)

  closes_square : (b : Bracket) (bs : List Bracket) (xs : List Waiting) → xs ≡ ws → whole (cond {A = List Bracket} (same_bracket Square b) bs (b ∷ bs)) rest ≡ first_list (unwound (b ∷ bs) (closed_other Square item xs))
  closes_square Square bs [] e = later bs ∙ ap (λ ys. first_list (unwound bs ys)) (sym e)
  closes_square Square bs (x ∷ xs) e = later bs ∙ ap (λ ys. first_list (unwound bs ys)) (sym e)
  closes_square Round bs [] e = later (Round ∷ bs) ∙ ap (λ ys. first_list (unwound (Round ∷ bs) ys)) (sym e)
  closes_square Round bs (x ∷ xs) e = later (Round ∷ bs) ∙ ap (λ ys. first_list (unwound (Round ∷ bs) ys)) (sym e)
  closes_square Curly bs [] e = later (Curly ∷ bs) ∙ ap (λ ys. first_list (unwound (Curly ∷ bs) ys)) (sym e)
  closes_square Curly bs (x ∷ xs) e = later (Curly ∷ bs) ∙ ap (λ ys. first_list (unwound (Curly ∷ bs) ys)) (sym e)

  closes_curly : (b : Bracket) (bs : List Bracket) (xs : List Waiting) → xs ≡ ws → whole (cond {A = List Bracket} (same_bracket Curly b) bs (b ∷ bs)) rest ≡ first_list (unwound (b ∷ bs) (closed_other Curly item xs))
  closes_curly Curly bs [] e = later bs ∙ ap (λ ys. first_list (unwound bs ys)) (sym e)
  closes_curly Curly bs (x ∷ xs) e = later bs ∙ ap (λ ys. first_list (unwound bs ys)) (sym e)
  closes_curly Round bs [] e = later (Round ∷ bs) ∙ ap (λ ys. first_list (unwound (Round ∷ bs) ys)) (sym e)
  closes_curly Round bs (x ∷ xs) e = later (Round ∷ bs) ∙ ap (λ ys. first_list (unwound (Round ∷ bs) ys)) (sym e)
  closes_curly Square bs [] e = later (Square ∷ bs) ∙ ap (λ ys. first_list (unwound (Square ∷ bs) ys)) (sym e)
  closes_curly Square bs (x ∷ xs) e = later (Square ∷ bs) ∙ ap (λ ys. first_list (unwound (Square ∷ bs) ys)) (sym e)

  by_sign : (open_brackets : List Bracket) (sign : Sign) → Found open_brackets sign
  by_sign [] (Opens b) = ap (option_map (one_item item)) (later (b ∷ [])) ∙ first_mapped (one_item item) (behind_kind b ws)
  by_sign (c ∷ cs) (Opens b) = later (b ∷ c ∷ cs) ∙ first_behind (one_item item) c cs (behind_kind b ws)
  by_sign [] (Closes Round) = refl
  by_sign (c ∷ cs) (Closes Round) = closes_round true c cs
  by_sign [] (Closes Square) = ap (option_map (one_item item)) (later []) ∙ other_mapped Square item ws
  by_sign (c ∷ cs) (Closes Square) = closes_square c cs ws refl
  by_sign [] (Closes Curly) = ap (option_map (one_item item)) (later []) ∙ other_mapped Curly item ws
  by_sign (c ∷ cs) (Closes Curly) = closes_curly c cs ws refl
  by_sign [] ClosesStar = refl
  by_sign (c ∷ cs) ClosesStar = closes_round false c cs
  by_sign [] Comma = ap (option_map one_comma) (later []) ∙ first_mapped one_comma ws
  by_sign (c ∷ cs) Comma = later (c ∷ cs) ∙ first_behind one_comma c cs ws
  by_sign [] Other = ap (option_map (one_item item)) (later []) ∙ first_mapped (one_item item) ws
  by_sign (c ∷ cs) Other = later (c ∷ cs) ∙ first_behind (one_item item) c cs ws

  by_stop : (stop : Bool) (open_brackets : List Bracket) (sign : Sign) →
      (elim stop as (λ _. Option ListSize) [
        | true ↦ None
        | false ↦ elim (sign_in open_brackets sign) as (λ _. Option ListSize) [
          | at_end ↦ None
          | closing ↦ Some (record { commas = 0; bare = true })
          | splitting ↦ option_map one_comma (whole [] rest)
          | belonging more ↦ in_brackets open_brackets item (whole more rest)
        ]
      ]) ≡ first_list (unwound open_brackets (cond {A = List Waiting} stop [] (with_sign sign item ws)))
  by_stop true open_brackets sign = none_behind open_brackets
  by_stop false open_brackets sign = by_sign open_brackets sign

pub whole_waits : (open_brackets : List Bracket) (coming : List Coming) → whole open_brackets coming ≡ first_list (unwound open_brackets (waiting coming))
whole_waits open_brackets [] = none_behind open_brackets
whole_waits open_brackets (Raw t ∷ rest) = by_stop (Raw t) rest (waiting rest) (λ bs. whole_waits bs rest) (is_barred t || is_cut t) open_brackets (sign_of t)
whole_waits open_brackets (Kept t ∷ rest) = by_sign (Kept t) rest (waiting rest) (λ bs. whole_waits bs rest) open_brackets (sign_of t)
whole_waits open_brackets (FileEnd ∷ rest) = none_behind open_brackets
whole_waits open_brackets (UseEnd name ∷ rest) = none_behind open_brackets
