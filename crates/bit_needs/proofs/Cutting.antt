-- Uses outside of a set, as spans.
use Rattle.std.proofs.Common.{◌≡◌, ℕ, Bool, true, false, ◌&&◌, ◌||◌, not, cond, List, [], ◌∷◌, ◌++◌, refl, ap, sym, ◌∙◌}
use Rattle.bit_sets.specs.declared.span.Span.{Span}
use Rattle.bit_sets.specs.declared.span.Use.{Use}
use Rattle.bit_sets.specs.Sets.{covers, in_spans, tokens_at}
use Rattle.bit_sets.proofs.Laws as L
use Rattle.bit_needs.specs.Uses.{spans_in}

abbrev is_some_token : List ℕ → Bool
is_some_token [] = false
is_some_token (t ∷ ts) = true

covered-some : (b : Bool) (t : ℕ) (ts : List ℕ) → is_some_token (cond b (t ∷ ts) ts) ≡ (b || is_some_token ts)
covered-some true t ts = refl
covered-some false t ts = refl

-- a number lies in a use exactly where a token stands
pub spans-tokens : (us : List Use) (n : ℕ) → in_spans (spans_in us) n ≡ is_some_token (tokens_at us n)
spans-tokens [] n = L.in-none n ∙ sym (ap is_some_token (L.tokens-none n))
spans-tokens (u ∷ us) n =
    L.in-more u.span (spans_in us) n ∙ ap (λ b. covers u.span n || b) (spans-tokens us n)
    ∙ sym (ap is_some_token (L.tokens-more u us n) ∙ covered-some (covers u.span n) u.at (tokens_at us n))

outside : (b : Bool) (ts : List ℕ) → is_some_token (cond b [] ts) ≡ (is_some_token ts && not b)
outside true [] = refl
outside true (t ∷ ts) = refl
outside false [] = refl
outside false (t ∷ ts) = refl

-- what of uses lies outside of a set
pub spans-cut : (set : List Span) (uses cut : List Use) (n : ℕ) → tokens_at cut n ≡ tokens_at [] n ++ cond (in_spans set n) [] (tokens_at uses n)
    → in_spans (spans_in cut) n ≡ (in_spans (spans_in uses) n && not (in_spans set n))
spans-cut set uses cut n is =
    spans-tokens cut n ∙ ap is_some_token (is ∙ ap (λ ts. ts ++ cond (in_spans set n) [] (tokens_at uses n)) (L.tokens-none n)) ∙ outside (in_spans set n) (tokens_at uses n)
    ∙ ap (λ b. b && not (in_spans set n)) (sym (spans-tokens uses n))

pub ruleset cut_laws = (spans-cut)
