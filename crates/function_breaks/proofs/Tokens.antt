-- Least tokens of the bits that a function is to write.
use Rattle.std.proofs.Common.{◌≡◌, inl, inr, ℕ, ◌<◌, ◌^◌, Bool, true, false, ◌&&◌, ◌||◌, not, List, [], ◌∷◌, map, flat_map, filter, Option, Some, None, refl, ap, sym, ◌∙◌, subst, arith}
use Rattle.std.proofs.lemmas.Bool.{or_cases, or_left, or_right, false≢true}
use Rattle.row_machine.specs.Valuation.{Place, Member}
use Rattle.row_machine.proofs.Members.{append-member, member-front, member-back, member-map, map-member, member-filter, filter-member}
use Rattle.bit_sets.specs.declared.span.Span.{Span}
use Rattle.bit_sets.specs.declared.span.Use.{Use}
use Rattle.bit_sets.specs.Sets.{covers, in_spans, tokens_at}
use Rattle.bit_sets.proofs.Laws as L
use Rattle.bit_tokens.specs.Tokens.{UseOf, IsLeast, Inside, Outside}
use Rattle.bit_tokens.proofs.Least.{token-of, of-token}
use Rattle.sv_types.specs.declared.statement.Function.{Function}
use Rattle.sv_types.specs.declared.statement.Outcome.TheVariants as O
use Rattle.sv_types.specs.declared.design.Design.{Design}
use Rattle.sv_types.specs.Flows.{Flow}
use Rattle.flow_sets.specs.declared.found.Found.{Found}
use Rattle.flow_sets.specs.Bits.{number_of}
use Rattle.flow_sets.specs.Ends.{leaves_out}
use Rattle.flow_sets.specs.Flows.{IsFlow, SameTokens}
use Rattle.eval_forms.specs.Callees.{FunctionFits}
use Rattle.design_breaks.specs.Breaks as B
use Rattle.least_breaks.specs.Least.{IsLeastToken}
use Rattle.function_breaks.specs.Owed.{owed_uses}
use Rattle.function_breaks.specs.Early as E
use Rattle.function_breaks.specs.Early.{spans_of}
use Rattle.function_breaks.proofs.Places.{Owes, owes-all}

-- tokens that are exactly those of the uses of some kind
exact-least : (P : Use → Type 0) (vs : List Use) (ts : List ℕ) (r : Option ℕ) → ((v : Use) → Member vs v → P v → Member ts v.at) → ((t : ℕ) → Member ts t → UseOf P vs t)
    → IsLeast P vs r → IsLeastToken ts r
exact-least P vs ts None into back h = λ t m. let v = back t m in h v.use_of v.stands v.is_one
exact-least P vs ts (Some at) into back h = record {
  there = subst (Member ts) h.there.token (into h.there.use_of h.there.stands h.there.is_one);
  least = λ u m. let w = back u m in let bound = h.least w.use_of w.stands w.is_one in let token = w.token in omega (arith, bound, token);
}

member-flat : {A B : Type 0} (f : A → List B) (xs : List A) (y : B) → Member (flat_map f xs) y → (x : A) × Member xs x × Member (f x) y
member-flat f [] y m = elim m [ ]
member-flat f (x ∷ xs) y m = elim (append-member (f x) (flat_map f xs) y m) [
  | inl h ↦ (x, inl refl, h)
  | inr h ↦ (let r = member-flat f xs y h in (r.0, inr r.1, r.2))
]

flat-member : {A B : Type 0} (f : A → List B) (xs : List A) (x : A) (y : B) → Member xs x → Member (f x) y → Member (flat_map f xs) y
flat-member f [] x y m h = elim m [ ]
flat-member f (z ∷ xs) x y (inl is) h = member-front (f z) (flat_map f xs) y (subst (λ a. Member (f a) y) is h)
flat-member f (z ∷ xs) x y (inr m) h = member-back (f z) (flat_map f xs) y (flat-member f xs x y m h)

spans-use : (us : List Use) (n : ℕ) → in_spans (spans_of us) n ≡ true → (u : Use) × Member us u × (covers u.span n ≡ true)
spans-use [] n h = absurd (false≢true (sym (L.in-none n) ∙ h))
spans-use (u ∷ us) n h = elim (or_cases (covers u.span n) (in_spans (spans_of us) n) (sym (L.in-more u.span (spans_of us) n) ∙ h)) [
  | inl here ↦ (u, inl refl, here)
  | inr more ↦ (let r = spans-use us n more in (r.0, inr r.1, r.2))
]

use-spans : (us : List Use) (u : Use) (n : ℕ) → Member us u → covers u.span n ≡ true → in_spans (spans_of us) n ≡ true
use-spans [] u n m h = elim m [ ]
use-spans (v ∷ us) u n (inl is) h = L.in-more v.span (spans_of us) n ∙ or_left (covers v.span n) (in_spans (spans_of us) n) (subst (λ (x : Use). covers x.span n ≡ true) is h)
use-spans (v ∷ us) u n (inr m) h = L.in-more v.span (spans_of us) n ∙ or_right (covers v.span n) (in_spans (spans_of us) n) (use-spans us u n m h)

module _ (us : List Use) (os : List (Place × ℕ)) (owes : Owes us os) (found : Found) (g : Flow) (is : IsFlow found g) where
  abbrev slips_out : Place → Bool
  slips_out q = g.slips O.Normal q || g.slips O.Return q

  -- tokens of bits that a path leaves unwritten
  abbrev left : List ℕ
  left = map (λ (o : Place × ℕ). o.1) (filter (λ (o : Place × ℕ). slips_out o.0) os)

  slips-at : (q : Place) → q.bit < 2 ^ 32 → (leaves_out found.ends.normal (number_of q) || leaves_out found.ends.returns (number_of q)) ≡ slips_out q
  slips-at q small = ap (λ b. b || leaves_out found.ends.returns (number_of q)) (is.slips O.Normal q small) ∙ ap (λ b. g.slips O.Normal q || b) (is.slips O.Return q small)

  abbrev Leaves : List Span → Type 0
  Leaves set = (n : ℕ) → not (in_spans set n) ≡ (leaves_out found.ends.normal n || leaves_out found.ends.returns n)

  out-into : (set : List Span) → Leaves set → (v : Use) → Member us v → Outside set v → Member left v.at
  out-into set leaves v m out =
      let r = owes.into v m out.number out.covered in
      let slips : slips_out r.place ≡ true = sym (slips-at r.place r.small) ∙ ap (λ n. leaves_out found.ends.normal n || leaves_out found.ends.returns n) r.number ∙ sym (leaves out.number) ∙ ap not out.without in
      member-map (λ (o : Place × ℕ). o.1) (filter (λ (o : Place × ℕ). slips_out o.0) os) (r.place, v.at) (member-filter (λ (o : Place × ℕ). slips_out o.0) os (r.place, v.at) r.stands slips)

  not-true : (b : Bool) → not b ≡ true → b ≡ false
  not-true true h = absurd (false≢true h)
  not-true false h = refl

  out-back : (set : List Span) → Leaves set → (t : ℕ) → Member left t → UseOf (Outside set) us t
  out-back set leaves t m =
      let a = map-member (λ (o : Place × ℕ). o.1) (filter (λ (o : Place × ℕ). slips_out o.0) os) t m in
      let b = filter-member (λ (o : Place × ℕ). slips_out o.0) os a.0 a.1 in
      let u = owes.back a.0 b.0 in
      record {
        use_of = u.use_in;
        stands = u.stands;
        is_one = record { number = number_of a.0.0; covered = u.covered; without = not-true (in_spans set (number_of a.0.0)) (leaves (number_of a.0.0) ∙ slips-at a.0.0 u.small ∙ b.1) };
        token = u.token ∙ sym a.2;
      }

  left-least : (set : List Span) (r : Option ℕ) → Leaves set → IsLeast (Outside set) us r → IsLeastToken left r
  left-least set r leaves h = exact-least (Outside set) us left r (out-into set leaves) (out-back set leaves) h

  left-none : found.ends.normal ≡ None → found.ends.returns ≡ None → IsLeastToken left None
  left-none normal returns = λ t m.
      let a = map-member (λ (o : Place × ℕ). o.1) (filter (λ (o : Place × ℕ). slips_out o.0) os) t m in
      let b = filter-member (λ (o : Place × ℕ). slips_out o.0) os a.0 a.1 in
      let u = owes.back a.0 b.0 in
      false≢true
      (sym (ap (λ o. leaves_out o (number_of a.0.0) || leaves_out found.ends.returns (number_of a.0.0)) normal ∙ ap (λ o. leaves_out o (number_of a.0.0)) returns)
      ∙ slips-at a.0.0 u.small ∙ b.1)

  -- early reads of bits
  abbrev early : List ℕ
  early = flat_map (λ (o : Place × ℕ). g.early o.0) os

  early-into : (bits : List Span) → ((n : ℕ) → in_spans bits n ≡ in_spans (spans_of us) n) → (v : Use) → Member found.early v → Inside bits v → Member early v.at
  early-into bits same v m inside =
      let u = spans-use us inside.number (sym (same inside.number) ∙ inside.within) in
      let r = owes.into u.0 u.1 inside.number u.2 in
      flat-member (λ (o : Place × ℕ). g.early o.0) os (r.place, u.0.at) v.at r.stands
      (subst (λ ts. Member ts v.at) (ap (tokens_at found.early) (sym r.number) ∙ is.early r.place r.small) (of-token found.early inside.number v m inside.covered))

  early-back : (bits : List Span) → ((n : ℕ) → in_spans bits n ≡ in_spans (spans_of us) n) → (t : ℕ) → Member early t → UseOf (Inside bits) found.early t
  early-back bits same t m =
      let r = member-flat (λ (o : Place × ℕ). g.early o.0) os t m in
      let u = owes.back r.0 r.1 in
      let v = token-of found.early (number_of r.0.0) t (subst (λ ts. Member ts t) (sym (is.early r.0.0 u.small)) r.2) in
      record {
        use_of = v.use_of;
        stands = v.stands;
        is_one = record { number = number_of r.0.0; covered = v.is_one; within = same (number_of r.0.0) ∙ use-spans us u.use_in (number_of r.0.0) u.stands u.covered };
        token = v.token;
      }

  early-least : (bits : List Span) (r : Option ℕ) → ((n : ℕ) → in_spans bits n ≡ in_spans (spans_of us) n) → IsLeast (Inside bits) found.early r → IsLeastToken early r
  early-least bits r same h = exact-least (Inside bits) found.early early r (early-into bits same) (early-back bits same) h

only-then : (b : Bool) (ts : List ℕ) (r : Option ℕ) → b ≡ true → IsLeastToken ts r → IsLeastToken (B.only_if b ts) r
only-then b ts r can h = subst (λ c. IsLeastToken (B.only_if c ts) r) (sym can) h

-- whatever function it is of
pub left-law : (owed : List Use) (found : Found) (set : List Span) (r : Option ℕ) → ((n : ℕ) → not (in_spans set n) ≡ (leaves_out found.ends.normal n || leaves_out found.ends.returns n)) → IsLeast (Outside set) owed r
    → (d : Design) (f : Function) → FunctionFits f → owed ≡ owed_uses f → IsFlow found (B.function_flow d f) → B.unrolls d f.body ≡ true → IsLeastToken (B.result_left_out d f) r
left-law owed found set r leaves h d f fits same is can =
    only-then (B.unrolls d f.body) (left owed (B.owed d f) (owes) found (B.function_flow d f) is) r can (left-least owed (B.owed d f) (owes) found (B.function_flow d f) is set r leaves h)
  where
    owes : Owes owed (B.owed d f)
    owes = subst (λ us. Owes us (B.owed d f)) (sym same) (owes-all d f fits)

pub left-none-law : (owed : List Use) (found : Found) → found.ends.normal ≡ None → found.ends.returns ≡ None
    → (d : Design) (f : Function) → FunctionFits f → owed ≡ owed_uses f → IsFlow found (B.function_flow d f) → B.unrolls d f.body ≡ true → IsLeastToken (B.result_left_out d f) None
left-none-law owed found normal returns d f fits same is can =
    only-then (B.unrolls d f.body) (left owed (B.owed d f) (owes) found (B.function_flow d f) is) None can (left-none owed (B.owed d f) (owes) found (B.function_flow d f) is normal returns)
  where
    owes : Owes owed (B.owed d f)
    owes = subst (λ us. Owes us (B.owed d f)) (sym same) (owes-all d f fits)

pub early-law : (owed : List Use) (found : Found) (bits : List Span) (r : Option ℕ) → ((n : ℕ) → in_spans bits n ≡ in_spans (spans_of owed) n) → IsLeast (Inside bits) found.early r
    → (d : Design) (f : Function) → FunctionFits f → owed ≡ owed_uses f → IsFlow found (B.function_flow d f) → B.unrolls d f.body ≡ true → IsLeastToken (E.result_early d f) r
early-law owed found bits r all h d f fits same is can =
    only-then (B.unrolls d f.body) (early owed (B.owed d f) (owes) found (B.function_flow d f) is) r can (early-least owed (B.owed d f) (owes) found (B.function_flow d f) is bits r all h)
  where
    owes : Owes owed (B.owed d f)
    owes = subst (λ us. Owes us (B.owed d f)) (sym same) (owes-all d f fits)

pub local-law : (found : Found) (r : Option ℕ) → IsLeastToken found.unset r → (d : Design) (f : Function) → IsFlow found (B.function_flow d f) → B.unrolls d f.body ≡ true → IsLeastToken (E.local_early d f) r
local-law found r h d f is can = only-then (B.unrolls d f.body) (B.function_flow d f).unset r can (same found.unset (B.function_flow d f).unset r is.unset h)
  where
    same : (ts vs : List ℕ) (o : Option ℕ) → SameTokens ts vs → IsLeastToken ts o → IsLeastToken vs o
    same ts vs None e x = λ t m. x t ((e t).1 m)
    same ts vs (Some a) e x = record { there = (e a).0 x.there; least = λ u m. x.least u ((e u).1 m) }

-- which sets leave out what one or the other leaves out
pub leaves-one : (a b : Option (List Span)) (set : List Span) → a ≡ Some set → b ≡ None → (n : ℕ) → not (in_spans set n) ≡ (leaves_out a n || leaves_out b n)
leaves-one a b set some none n = sym (L.or-false (not (in_spans set n))) ∙ sym (ap (λ o. leaves_out o n || leaves_out b n) some ∙ ap (λ o. not (in_spans set n) || leaves_out o n) none)

pub leaves-other : (a b : Option (List Span)) (set : List Span) → a ≡ None → b ≡ Some set → (n : ℕ) → not (in_spans set n) ≡ (leaves_out a n || leaves_out b n)
leaves-other a b set none some n = sym (ap (λ o. leaves_out o n || leaves_out b n) none ∙ ap (λ o. leaves_out o n) some)

not-both : (a b c : Bool) → c ≡ (a && b) → not c ≡ (not a || not b)
not-both true b c is = ap not is
not-both false b c is = ap not is

pub leaves-both : (a b : Option (List Span)) (s t u : List Span) → a ≡ Some s → b ≡ Some t → ((n : ℕ) → in_spans u n ≡ (in_spans s n && in_spans t n)) → (n : ℕ) → not (in_spans u n) ≡ (leaves_out a n || leaves_out b n)
leaves-both a b s t u first second is n =
    not-both (in_spans s n) (in_spans t n) (in_spans u n) (is n) ∙ sym (ap (λ o. leaves_out o n || leaves_out b n) first ∙ ap (λ o. not (in_spans s n) || leaves_out o n) second)
