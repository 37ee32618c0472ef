-- The number that is kept of a token is as good as its own, since no text has so many tokens.
use Rattle.std.proofs.Common.{◌≡◌, ℕ, ◌-◌, ◌^◌, ◌≤◌, ◌<◌, min, nat_lt, Bool, true, false, List, [], ◌∷◌, length, Option, Some, None, slice_get, Result, Ok, Err, refl, sym, ap, ◌∙◌, subst, arith}
use Rattle.std.proofs.lemmas.Bool.{ltb-true, ltb-false}
use Rattle.std.proofs.lemmas.Option.{slice_get_past}
use Rattle.v_tree.specs.declared.items.VDesign.{VDesign}
use Rattle.v_tree.specs.Reading.{Spells, VReads}
use Rattle.v_tree.specs.Rules.{broken_tokens}
use Rattle.v_expr_rules.specs.Seen.{last_token, earlier}
use Rattle.v_expr_rules.specs.Least.{least, cap, capped, first}
use Rattle.v_lexer.specs.Seen.{tokens_of}
use Rattle.v_lexer.specs.declared.token.VToken.{VToken}
use Rattle.v_parse.specs.Spots.{spot_of}
use Rattle.v_parse.proofs.Parsing.{text-length}
use Rattle.ll_engine.specs.declared.fails.ParseFail.{ParseFail}
use Rattle.ll_engine.specs.declared.fails.ParseFail.TheVariants as P
use Rattle.v_parse.specs.Parsing.{TextGives}
use Rattle.v_reader.specs.declared.reading.Break.{Break}
use Rattle.v_reader.specs.declared.reading.Stop.{Stop}
use Rattle.v_reader.specs.declared.reading.Stop.TheVariants as S
use Rattle.v_reader.specs.Refusing.{StopsAt, Keeping, TextRead, ReadGives, stop_of, refusal_at}
use Rattle.v_reader.specs.Refusing.Broken.{fails, nests, breaks}

-- no token, and so none that is broken
earlier-some : (n : ℕ) (o : Option ℕ) → (m : ℕ) × (earlier (Some n) o ≡ Some m)
unfolding earlier
earlier-some n None = (n, refl)
earlier-some n (Some m) = (min n m, refl)

none-kept : (o : Option ℕ) → capped o ≡ None → o ≡ None
none-kept None e = refl
none-kept (Some n) e = cc

nothing-least : (ns : List ℕ) → least ns ≡ None → ns ≡ []
nothing-least [] e = refl
nothing-least (n ∷ ns) e = let h = earlier-some n (least ns) in let both : Some h.0 ≡ None = sym h.1 ∙ e in cc

pub reads : (bytes : List ℕ) (e : VDesign) → Spells bytes e → first (broken_tokens e) ≡ None → VReads bytes e
reads bytes e spells none = record { spells = spells; keeps = nothing-least (broken_tokens e) (none-kept (least (broken_tokens e)) none) }

-- the least token of which a number is kept
least-of : (o : Option ℕ) (k : ℕ) → capped o ≡ Some k → (n : ℕ) × ((o ≡ Some n) × (cap n ≡ k))
least-of None k e = cc
least-of (Some n) k e = (n, (refl, some-one (cap n) k e))
  where
    some-one : (a b : ℕ) → Some a ≡ Some b → a ≡ b
    some-one a b e = cc

-- a token and the number that is kept of it
none-there : (ts : List VToken) (n : ℕ) → length ts ≤ n → slice_get ts n ≡ None
none-there ts n h = slice_get_past ts n h

by-size : (ts : List VToken) (n : ℕ) (b : Bool) → length ts < last_token → nat_lt n last_token ≡ b → slice_get ts n ≡ slice_get ts (cap n)
by-size ts n true few e = let low = ltb-true n last_token e in let same : n ≡ cap n = omega (arith, low) in ap (slice_get ts) same
by-size ts n false few e =
    let high = ltb-false n last_token e in
    none-there ts n (omega (arith, few, high)) ∙ sym (none-there ts (cap n) (omega (arith, few, high)))

breaks-at : (bytes : List ℕ) (e : VDesign) (k : ℕ) → length bytes < 2 ^ 32 - 1 → Spells bytes e → first (broken_tokens e) ≡ Some k → StopsAt bytes 902 k
breaks-at bytes e k few spells is =
    let n = least-of (least (broken_tokens e)) k is in
    let many = text-length bytes in
    record {
      token = n.0;
      broken = breaks (record { design = e; spells = spells; first = n.1.0 });
      number = refl;
      same = by-size (tokens_of bytes) n.0 (nat_lt n.0 last_token) (omega (arith, few, many)) refl ∙ ap (slice_get (tokens_of bytes)) n.1.1;
    }

stops-as : (bytes : List ℕ) (why : Break) → (why.rule ≡ 902) → StopsAt bytes 902 why.token → StopsAt bytes why.rule why.token
stops-as bytes why is h = record { token = h.token; broken = h.broken; number = h.number ∙ sym is; same = h.same }

-- a design that a text spells, and a text that spells none
pub kept_read : (bytes : List ℕ) (e : VDesign) (r : Result VDesign Stop) → length bytes < 2 ^ 32 - 1 → Spells bytes e → Keeping e r → TextRead bytes r
kept_read bytes e (Ok f) few spells h = subst (λ (d : VDesign). VReads bytes d) h.0 (reads bytes e spells h.1)
kept_read bytes e (Err S.Memory) few spells h = tt
kept_read bytes e (Err (S.Breaks why)) few spells h = stops-as bytes why h.0 (breaks-at bytes e why.token few spells h.1)

pub failed_read : (bytes : List ℕ) (f : ParseFail) → TextGives bytes (Err f) → TextRead bytes (Err (stop_of f))
failed_read bytes P.Memory h = tt
failed_read bytes (P.NoText at) h = record { token = at; broken = fails h; number = refl; same = refl }
failed_read bytes (P.Deep at) h = record { token = at; broken = nests h; number = refl; same = refl }

-- a text that is refused
pub refused : (bytes : List ℕ) (rule kept : ℕ) → StopsAt bytes rule kept → ReadGives bytes (Err (refusal_at (spot_of bytes (slice_get (tokens_of bytes) kept)) rule))
refused bytes rule kept h = record { token = h.token; broken = h.broken; number = h.number; stands = ap (spot_of bytes) h.same }
