-- Once a quote on a line isn't closed, no later quote on the line is.
use Rattle.std.proofs.Common.{◌≡◌, ℕ, ◌+◌, ◌≤◌, Bool, true, false, not, ◌==◌, ◌&&◌, ◌||◌, IsTrue, List, [], ◌∷◌, ◌++◌, refl, sym, ap, subst, ◌∙◌, ◌⊎◌, inl, inr, cond, arith, codes}
use Rattle.std.proofs.lemmas.Bool.Decides.{nat_tests}
use Rattle.sv_source.specs.declared.token.Place.{Place}
use Rattle.sv_lexer.specs.Spans.{begins, one_more}
use Rattle.sv_lexer.specs.Literals.{string_rest, string_span}
use Rattle.sv_lexer.specs.Lexing.{behind_byte, behind_bytes}

-- no quote up to the end of the line begins a string
abbrev pub NoString : List ℕ → Type 0
NoString [] = Unit {0}
NoString (c ∷ cs) = c == 10 ≡ false → (c == 34 ≡ true → string_rest false cs ≡ 0) × NoString cs

-- so the text begins with none
pub no_string-span : (bytes : List ℕ) → NoString bytes → string_span bytes ≡ 0
no_string-span [] none = refl
no_string-span (c ∷ cs) none = by_quote (c == 34) refl
  where
    by_quote : (quote : Bool) → c == 34 ≡ quote → string_span (c ∷ cs) ≡ 0
    by_quote false e = rw e
    by_quote true e =
        let goes : c == 10 ≡ false = grind (arith, nat_tests) in
        rw (e, (none goes).0 e)

one_more-zero : (n : ℕ) → one_more n ≡ 0 → n ≡ 0
one_more-zero n e = grind (arith, nat_tests)

-- a byte of a string that isn't closed, by the tests for a quote and for a backslash
no_string-step : (quote escaped slash : Bool) (cs : List ℕ) → ((flag : Bool) → string_rest flag cs ≡ 0 → NoString cs) →
    cond (quote && not escaped) 1 (one_more (string_rest (slash && not escaped) cs)) ≡ 0 → (quote ≡ true → string_rest false cs ≡ 0) × NoString cs
no_string-step false escaped slash cs none e = ((λ q. absurd (let no : false ≡ true = q in cc)), none (slash && not escaped) (one_more-zero _ e))
no_string-step true false slash cs none e = absurd (omega (arith, e))
no_string-step true true true cs none e = ((λ q. one_more-zero _ e), none false (one_more-zero _ e))
no_string-step true true false cs none e = ((λ q. one_more-zero _ e), none false (one_more-zero _ e))

-- what isn't closed has no string in it
pub no_string-from_rest : (escaped : Bool) (bytes : List ℕ) → string_rest escaped bytes ≡ 0 → NoString bytes
no_string-from_rest escaped [] e = tt
no_string-from_rest escaped (c ∷ cs) e = λ goes. no_string-step (c == 34) escaped (c == 92) cs (λ flag r. no_string-from_rest flag cs r) (rw goes at e)

-- a quote that begins no string
pub no_string-quote : (bytes : List ℕ) → string_span bytes ≡ 0 → begins bytes (codes "\"") ≡ true → NoString bytes
no_string-quote [] span quote = tt
no_string-quote (c ∷ cs) span quote =
    let is : c == 34 ≡ true = grind (arith, nat_tests) in
    let rest : string_rest false cs ≡ 0 = one_more-zero _ (rw is at span) in
    λ goes. ((λ _. rest), no_string-from_rest false cs rest)

line-step : (newline : Bool) (place : Place) → place.line ≤ (cond {A = Place} newline (record place { line = place.line + 1; col = 1 }) (record place { col = place.col + 1 })).line
line-step true place = omega arith
line-step false place = omega arith

line-grows : (place : Place) (bytes : List ℕ) → place.line ≤ (behind_bytes place bytes).line
line-grows place [] = omega arith
line-grows place (c ∷ cs) = omega (arith, line-step (c == 10) place, line-grows (behind_byte place c) cs)

no_string-over : (newline : Bool) (place : Place) (c : ℕ) (cs after : List ℕ) → c == 10 ≡ newline →
    ((behind_bytes (behind_byte place c) cs).line ≡ (behind_byte place c).line → NoString (cs ++ after) → NoString after) →
    (behind_bytes (behind_byte place c) cs).line ≡ place.line → NoString (c ∷ cs ++ after) → NoString after
no_string-over true place c cs after e more same none =
    let next : (behind_byte place c).line ≡ place.line + 1 = rw e in
    absurd (omega (arith, line-grows (behind_byte place c) cs, next, same))
no_string-over false place c cs after e more same none =
    let next : (behind_byte place c).line ≡ place.line = rw e in
    more (same ∙ sym next) (none e).1

-- nor is one behind a piece on the same line
pub no_string-behind : (place : Place) (text after : List ℕ) → (behind_bytes place text).line ≡ place.line → NoString (text ++ after) → NoString after
no_string-behind place [] after same none = none
no_string-behind place (c ∷ cs) after same none =
    no_string-over (c == 10) place c cs after refl (λ level rest. no_string-behind (behind_byte place c) cs after level rest) same none

open-cases : (same no_string opens : Bool) → (same && (no_string || opens)) ≡ true → (same ≡ true) × ((no_string ≡ true) ⊎ (opens ≡ true))
open-cases false no_string opens h = absurd (let no : false ≡ true = h in cc)
open-cases true true opens h = (refl, inl refl)
open-cases true false true h = (refl, inr refl)
open-cases true false false h = absurd (let no : false ≡ true = h in cc)

and-right : (a b : Bool) → (a && b) ≡ true → b ≡ true
and-right true b e = e
and-right false b e = absurd (let no : false ≡ true = e in cc)

-- what is known behind a piece
pub no_string-next : (place next : Place) (rest text after : List ℕ) (no_string result : Bool) (string : ℕ) → rest ≡ text ++ after → next ≡ behind_bytes place text →
    string ≡ string_span rest → (IsTrue no_string → NoString rest) → result ≡ ((next.line == place.line) && (no_string || (string == 0 && begins rest (codes "\"")))) →
    IsTrue result → NoString after
no_string-next place next rest text after no_string result string split is span known e h =
    let cases = open-cases (next.line == place.line) no_string (string == 0 && begins rest (codes "\"")) (sym e ∙ h) in
    let same : next.line ≡ place.line = grind (arith, nat_tests, cases.0) in
    let here : NoString rest = elim cases.1 [
      | inl known_before ↦ known known_before
      | inr opens ↦ no_string-quote rest (sym span ∙ grind (arith, nat_tests, opens)) (and-right _ _ opens)
    ] in
    no_string-behind place text after (ap (λ p. p.line) (sym is) ∙ same) (let P : List ℕ → Type 0 = NoString in subst P split here)
