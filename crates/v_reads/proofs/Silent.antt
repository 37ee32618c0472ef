-- Functions that read no signal.
use Rattle.std.proofs.Common.{◌≡◌, ℕ, ◌==◌, Bool, true, false, ◌||◌, List, [], ◌∷◌, map, Option, Some, None, refl, sym, ap, ◌∙◌, true≢false, arith}
use Rattle.std.specs.Prelude.{slice_get}
use Rattle.std.specs.Option.{option_map}
use Rattle.std.proofs.lemmas.Bool.Decides.{nat_tests}
use Rattle.std.proofs.lemmas.Option.{slice_get-map}
use Rattle.v_meaning.specs.Scopes.{Use}
use Rattle.v_meaning.specs.Values.{is_empty}
use Rattle.v_footprints.specs.Footprints.{uses}
use Rattle.v_constants.specs.Constants.{or_true, AreQuiet}
use Rattle.v_eval.specs.declared.scopes.Scope.{Scope}
use Rattle.v_eval.specs.Scopes.{callee_at}
use Rattle.v_reads.specs.Reads.{is_among, or_none, FunctionsRead}

itself : (n : ℕ) (b : Bool) → ((n == n) || b) ≡ true
itself n true = or-true (n == n)
  where
    or-true : (a : Bool) → (a || true) ≡ true
    or-true true = refl
    or-true false = refl
itself n false = grind (arith, nat_tests)

-- lists with the same signals are empty alike
empty-alike : (ns : List ℕ) (us : List Use) → ((n : ℕ) → is_among ns n ≡ uses us n) → is_empty ns ≡ is_empty us
empty-alike [] [] h = refl
empty-alike [] (u ∷ us) h = absurd (true≢false (sym (h u.number ∙ itself u.number (uses us u.number))))
empty-alike (m ∷ ns) [] h = absurd (true≢false (sym (itself m (is_among ns m)) ∙ h m))
empty-alike (m ∷ ns) (u ∷ us) h = refl

pub quiet-right : (s : Scope) (lists : List (List ℕ)) (quiet : List Bool) → FunctionsRead s lists → quiet ≡ map is_empty lists → AreQuiet s quiet
quiet-right s lists quiet h is = record {
  right = λ i. ap (λ (l : List Bool). or_true (slice_get l i)) is ∙ ap or_true (slice_get-map is_empty lists i) ∙ by i (slice_get lists i) (λ n. h.right i n);
}
  where
    by : (i : ℕ) (o : Option (List ℕ)) → ((n : ℕ) → is_among (or_none o) n ≡ uses (callee_at s (Some i)).reads n) → or_true (option_map is_empty o) ≡ is_empty (callee_at s (Some i)).reads
    by i None g = empty-alike [] (callee_at s (Some i)).reads g
    by i (Some ns) g = empty-alike ns (callee_at s (Some i)).reads g
