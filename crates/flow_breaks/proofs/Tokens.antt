-- What is found of a process, and its own breaks.
use Rattle.std.proofs.Common.{◌≡◌, ◌⊎◌, inl, inr, ℕ, ◌<◌, ◌≤◌, ◌^◌, min, Bool, true, false, ◌&&◌, not, List, [], ◌∷◌, map, flat_map, filter, Option, Some, None, refl, ap, sym, ◌∙◌, subst, arith}
use Rattle.std.proofs.lemmas.Bool.{and_parts, and_from, false≢true, cases_lt, not_from_false}
use Rattle.row_machine.specs.Valuation.{Place, Member}
use Rattle.row_machine.proofs.Basics.{has-member, member-has}
use Rattle.row_machine.proofs.Members.{member-map, map-member, member-filter, filter-member}
use Rattle.bit_sets.specs.declared.span.Span.{Span}
use Rattle.bit_sets.specs.declared.span.Use.{Use}
use Rattle.bit_sets.specs.Sets.{covers, in_spans, tokens_at}
use Rattle.bit_tokens.specs.Tokens.{UseOf, IsLeast, Inside, Outside}
use Rattle.bit_tokens.proofs.Least.{token-of, of-token}
use Rattle.sv_types.specs.declared.statement.Outcome.TheVariants as O
use Rattle.sv_types.specs.declared.design.Design.{Design}
use Rattle.sv_types.specs.declared.design.Process.{Process}
use Rattle.sv_types.specs.Surroundings as S
use Rattle.sv_types.specs.Flows as F
use Rattle.sv_types.specs.Flows.{Flow}
use Rattle.sv_types.specs.Machine.{parts, places}
use Rattle.flow_sets.specs.declared.found.Found.{Found}
use Rattle.flow_sets.specs.declared.uses.Write.{Write}
use Rattle.flow_sets.specs.Bits.{number_of, use_of}
use Rattle.flow_sets.specs.Ends.{leaves_out}
use Rattle.flow_sets.specs.Flows.{IsFlow, SameTokens}
use Rattle.design_breaks.specs.Memories.{flow, is_edged}
use Rattle.design_breaks.specs.Breaks as B
use Rattle.comb_order.specs.Bits.{KeepsLimits, place_of, widths_of, kept, kept_use}
use Rattle.comb_order.proofs.Positions.{is_there, number-place, place-number, bit-small, writes-are}
use Rattle.comb_order.proofs.Places.{has-there}
use Rattle.comb_order.proofs.Orders.{narrow-bit}
use Rattle.least_breaks.specs.Least.{IsLeastToken}
use Rattle.flow_breaks.proofs.Lists.{member-flat, flat-member, member-if, if-member, keeps, kept-in, in-kept, covers-kept, short-of, kept-writes}

-- the least of some tokens, as the definition has it
pub record IsMin (ns : List ℕ) (m : ℕ) : Type 0 where
  pub there : Member ns m
  pub below : (k : ℕ) → Member ns k → m ≤ k

abbrev step : ℕ → List ℕ → List ℕ
step n ms = elim ms [ [] ↦ n ∷ [] | m ∷ rest ↦ min n m ∷ [] ]

lower : (ns : List ℕ) (n m : ℕ) → IsMin ns m → IsMin (n ∷ ns) (min n m)
lower ns n m h = elim (cases_lt m n) [
  | inl low ↦ (let e : m ≡ min n m = omega (arith, low) in subst (IsMin (n ∷ ns)) e (record {
    there = inr h.there;
    below = λ k x. elim x [ inl is ↦ omega (arith, is, low) | inr more ↦ h.below k more ];
  }))
  | inr high ↦ (let e : n ≡ min n m = omega (arith, high) in subst (IsMin (n ∷ ns)) e (record {
    there = inl refl;
    below = λ k x. elim x [ inl is ↦ omega (arith, is) | inr more ↦ (let le = h.below k more in omega (arith, le, high)) ];
  }))
]

least-form : (d : Design) (ns : List ℕ) → ((B.least d ns ≡ []) × (ns ≡ [])) ⊎ ((m : ℕ) × (B.least d ns ≡ m ∷ []) × IsMin ns m)
least-form d [] = inl (refl, refl)
least-form d (n ∷ ns) = elim (least-form d ns) [
  | inl none ↦ inr (n, ap (step n) none.0, record { there = inl refl; below = λ k x. elim x [ inl is ↦ omega (arith, is) | inr more ↦ elim (subst (λ xs. Member xs k) none.1 more) [ ] ] })
  | inr some ↦ inr (min n some.0, ap (step n) some.1, lower ns n some.0 some.2)
]

least-is : (d : Design) (ns : List ℕ) (m : ℕ) → Member (B.least d ns) m → IsMin ns m
least-is d ns m h = elim (least-form d ns) [
  | inl none ↦ elim (subst (λ xs. Member xs m) none.0 h) [ ]
  | inr some ↦ elim (subst (λ xs. Member xs m) some.1 h) [ inl same ↦ subst (IsMin ns) (sym same) some.2 | inr none ↦ elim none [ ] ]
]

some-least : (d : Design) (ns : List ℕ) (n : ℕ) → Member ns n → (m : ℕ) × Member (B.least d ns) m × IsMin ns m
some-least d ns n h = elim (least-form d ns) [
  | inl none ↦ elim (subst (λ xs. Member xs n) none.1 h) [ ]
  | inr some ↦ (some.0, subst (λ xs. Member xs some.0) (sym some.1) (inl refl), some.2)
]

-- a token of a list by another test: each of one is one of the other, or has one of the other before it
least-by : (P : Use → Type 0) (vs : List Use) (ts : List ℕ) (r : Option ℕ) → ((v : Use) → Member vs v → P v → (t : ℕ) × Member ts t × (t ≤ v.at)) → ((t : ℕ) → Member ts t → UseOf P vs t)
    → IsLeast P vs r → IsLeastToken ts r
least-by P vs ts None into back h = λ t m. let v = back t m in h v.use_of v.stands v.is_one
least-by P vs ts (Some at) into back h =
    let first = into h.there.use_of h.there.stands h.there.is_one in
    let v = back first.0 first.1 in
    let le = h.least v.use_of v.stands v.is_one in
    let same = v.token in
    let its = h.there.token in
    let low = first.2 in
    let equal : first.0 ≡ at = omega (arith, le, same, its, low) in
    record {
      there = subst (Member ts) equal first.1;
      least = λ u m. let w = back u m in let bound = h.least w.use_of w.stands w.is_one in let token = w.token in omega (arith, bound, token);
    }

module _ (d : Design) (limits : KeepsLimits d) (p : Process) (found : Found) (is : IsFlow found (flow d p)) where
  abbrev its : Flow
  its = flow d p

  abbrev us : List S.Use
  us = F.uses_of its.writes

  abbrev ws : List ℕ
  ws = widths_of d.signals

  abbrev bits : List Place
  bits = places (parts d)

  small : (q : Place) → Member bits q → q.bit < 2 ^ 32
  small q m = narrow-bit d limits q (member-has bits q m)

  -- the first writes of bits that are left out
  abbrev left : List ℕ
  left = flat_map (λ q. B.only_if (its.slips O.Normal q) (B.first_write d its q)) bits

  slips-at : (q : Place) → q.bit < 2 ^ 32 → leaves_out found.ends.normal (number_of q) ≡ its.slips O.Normal q
  slips-at q low = is.slips O.Normal q low

  abbrev covering : Place → List ℕ
  covering q = map (λ (u : S.Use). u.at) (filter (λ u. F.covers u q) us)

  out-into : (set : List Span) → found.ends.normal ≡ Some set → (v : Use) → Member (keeps ws us) v → Outside set v → (t : ℕ) × Member left t × (t ≤ v.at)
  out-into set ends v m out =
      let k = kept-in ws us v is.writes.short m in
      let q = place_of out.number in
      let both = and_parts (F.covers k.use_in q) (is_there ws q) (sym (covers-kept ws k.use_in out.number k.short) ∙ ap (λ (x : Use). covers x.span out.number) (sym k.same) ∙ out.covered) in
      let here : Member bits q = has-member bits q (has-there d q ∙ both.1) in
      let slips : its.slips O.Normal q ≡ true =
      sym (slips-at q (bit-small out.number)) ∙ ap (leaves_out found.ends.normal) (number-place out.number) ∙ ap (λ o. leaves_out o out.number) ends ∙ ap not out.without in
      let token = member-map (λ (u : S.Use). u.at) (filter (λ u. F.covers u q) us) k.use_in (member-filter (λ u. F.covers u q) us k.use_in k.stands both.0) in
      let low = some-least d (covering q) k.use_in.at token in
      let bound = low.2.below k.use_in.at token in
      let same = ap (λ (x : Use). x.at) k.same in
      (low.0, flat-member (λ x. B.only_if (its.slips O.Normal x) (B.first_write d its x)) bits q low.0 here (if-member (its.slips O.Normal q) (B.first_write d its q) low.0 slips low.1), omega (arith, bound, same))

  out-back : (set : List Span) → found.ends.normal ≡ Some set → (t : ℕ) → Member left t → UseOf (Outside set) (keeps ws us) t
  out-back set ends t m =
      let r = member-flat (λ x. B.only_if (its.slips O.Normal x) (B.first_write d its x)) bits t m in
      let q = r.0 in
      let two = member-if (its.slips O.Normal q) (B.first_write d its q) t r.2 in
      let least = least-is d (covering q) t two.1 in
      let a = map-member (λ (u : S.Use). u.at) (filter (λ u. F.covers u q) us) t least.there in
      let b = filter-member (λ u. F.covers u q) us a.0 a.1 in
      let low = small q r.1 in
      let there = sym (has-there d q) ∙ member-has bits q r.1 in
      record {
        use_of = kept_use ws (use_of a.0);
        stands = in-kept ws us a.0 b.0;
        is_one = record {
          number = number_of q;
          covered = covers-kept ws a.0 (number_of q) (short-of ws us a.0 is.writes.short b.0) ∙ ap (λ x. F.covers a.0 x && is_there ws x) (place-number q low) ∙ and_from (F.covers a.0 q) (is_there ws q) b.1 there;
          without = not-true (in_spans set (number_of q)) (sym (ap (λ o. leaves_out o (number_of q)) ends) ∙ slips-at q low ∙ two.0);
        };
        token = sym a.2;
      }
    where
      not-true : (b : Bool) → not b ≡ true → b ≡ false
      not-true true h = absurd (false≢true h)
      not-true false h = refl

  pub left-least : (set : List Span) (r : Option ℕ) → found.ends.normal ≡ Some set → IsLeast (Outside set) (map (λ (w : Write). kept_use ws w.of) found.writes) r → IsLeastToken left r
  left-least set r ends h =
      least-by (Outside set) (keeps ws us) left r (out-into set ends) (out-back set ends)
      (subst (λ vs. IsLeast (Outside set) vs r) (ap (map (λ (w : Write). kept_use ws w.of)) is.writes.same ∙ kept-writes ws its.writes) h)

  pub left-none : found.ends.normal ≡ None → IsLeastToken left None
  left-none ends = λ t m.
      let r = member-flat (λ x. B.only_if (its.slips O.Normal x) (B.first_write d its x)) bits t m in
      let two = member-if (its.slips O.Normal r.0) (B.first_write d its r.0) t r.2 in
      false≢true (sym (ap (λ o. leaves_out o (number_of r.0)) ends) ∙ slips-at r.0 (small r.0 r.1) ∙ two.0)

  pub left-is : B.unrolls d p.body ≡ true → B.is_complete d p.kind ≡ false → left ≡ B.left_out d p
  left-is can part = sym (ap (λ b. B.only_if b left) (and_from (B.unrolls d p.body) (not (B.is_complete d p.kind)) can (not_from_false (B.is_complete d p.kind) part)))

  -- reads of own bits before they are written
  abbrev early : List ℕ
  early = flat_map (λ q. B.only_if (F.covered us q) (its.early q)) bits

  early-into : (written : List Span) → ((n : ℕ) → in_spans written n ≡ (F.covered us (place_of n) && is_there ws (place_of n))) → (v : Use) → Member found.early v → Inside written v
      → (t : ℕ) × Member early t × (t ≤ v.at)
  early-into written its_bits v m inside =
      let q = place_of inside.number in
      let both = and_parts (F.covered us q) (is_there ws q) (sym (its_bits inside.number) ∙ inside.within) in
      let token = subst (λ ts. Member ts v.at) (ap (tokens_at found.early) (sym (number-place inside.number)) ∙ is.early q (bit-small inside.number)) (of-token found.early inside.number v m inside.covered) in
      (v.at, flat-member (λ x. B.only_if (F.covered us x) (its.early x)) bits q v.at (has-member bits q (has-there d q ∙ both.1)) (if-member (F.covered us q) (its.early q) v.at both.0 token), omega arith)

  early-back : (written : List Span) → ((n : ℕ) → in_spans written n ≡ (F.covered us (place_of n) && is_there ws (place_of n))) → (t : ℕ) → Member early t → UseOf (Inside written) found.early t
  early-back written its_bits t m =
      let r = member-flat (λ x. B.only_if (F.covered us x) (its.early x)) bits t m in
      let q = r.0 in
      let two = member-if (F.covered us q) (its.early q) t r.2 in
      let low = small q r.1 in
      let u = token-of found.early (number_of q) t (subst (λ ts. Member ts t) (sym (is.early q low)) two.1) in
      record {
        use_of = u.use_of;
        stands = u.stands;
        is_one = record {
          number = number_of q;
          covered = u.is_one;
          within = its_bits (number_of q) ∙ ap (λ x. F.covered us x && is_there ws x) (place-number q low) ∙ and_from (F.covered us q) (is_there ws q) two.0 (sym (has-there d q) ∙ member-has bits q r.1);
        };
        token = u.token;
      }

  pub early-least : (written : List Span) (r : Option ℕ) → ((n : ℕ) → in_spans written n ≡ in_spans (map (λ (w : Write). kept ws w.of.span) found.writes) n) → IsLeast (Inside written) found.early r → IsLeastToken early r
  early-least written r same h = least-by (Inside written) found.early early r (early-into written its_bits) (early-back written its_bits) h
    where
      its_bits : (n : ℕ) → in_spans written n ≡ (F.covered us (place_of n) && is_there ws (place_of n))
      its_bits n = same n ∙ ap (λ vs. in_spans (map (λ (w : Write). kept ws w.of.span) vs) n) is.writes.same ∙ writes-are ws its.writes n is.writes.short

  pub early-is : B.unrolls d p.body ≡ true → is_edged p.kind ≡ false → early ≡ B.read_early d p
  early-is can part = sym (ap (λ b. B.only_if b early) (and_from (B.unrolls d p.body) (not (is_edged p.kind)) can (not_from_false (is_edged p.kind) part)))

  -- locals that are read before they are written
  pub unset-least : (r : Option ℕ) → B.unrolls d p.body ≡ true → IsLeastToken found.unset r → IsLeastToken (B.local_early d p) r
  unset-least r can h = subst (λ ts. IsLeastToken ts r) (sym (ap (λ b. B.only_if b its.unset) can)) (same found.unset its.unset r is.unset h)
    where
      same : (ts vs : List ℕ) (o : Option ℕ) → SameTokens ts vs → IsLeastToken ts o → IsLeastToken vs o
      same ts vs None e x = λ t m. x t ((e t).1 m)
      same ts vs (Some a) e x = record { there = (e a).0 x.there; least = λ u m. x.least u ((e u).1 m) }

-- by what is found of a process, whatever design it stands in
pub left-out-law : (found : Found) (widths : List ℕ) (set : List Span) (r : Option ℕ) → found.ends.normal ≡ Some set → IsLeast (Outside set) (map (λ (w : Write). kept_use widths w.of) found.writes) r
    → (d : Design) (p : Process) → KeepsLimits d → widths ≡ widths_of d.signals → IsFlow found (flow d p) → B.unrolls d p.body ≡ true → B.is_complete d p.kind ≡ false → IsLeastToken (B.left_out d p) r
left-out-law found widths set r ends h d p limits same is can part =
    subst (λ ts. IsLeastToken ts r) (left-is d limits p found is can part)
    (left-least d limits p found is set r ends (subst (λ ws. IsLeast (Outside set) (map (λ (w : Write). kept_use ws w.of) found.writes) r) same h))

pub left-none-law : (found : Found) → found.ends.normal ≡ None
    → (d : Design) (p : Process) → KeepsLimits d → IsFlow found (flow d p) → B.unrolls d p.body ≡ true → B.is_complete d p.kind ≡ false → IsLeastToken (B.left_out d p) None
left-none-law found ends d p limits is can part = subst (λ ts. IsLeastToken ts None) (left-is d limits p found is can part) (left-none d limits p found is ends)

pub read-early-law : (found : Found) (widths : List ℕ) (written : List Span) (r : Option ℕ) → ((n : ℕ) → in_spans written n ≡ in_spans (map (λ (w : Write). kept widths w.of.span) found.writes) n)
    → IsLeast (Inside written) found.early r
    → (d : Design) (p : Process) → KeepsLimits d → widths ≡ widths_of d.signals → IsFlow found (flow d p) → B.unrolls d p.body ≡ true → is_edged p.kind ≡ false → IsLeastToken (B.read_early d p) r
read-early-law found widths written r bits h d p limits same is can part =
    subst (λ ts. IsLeastToken ts r) (early-is d limits p found is can part)
    (early-least d limits p found is written r (subst (λ ws. (n : ℕ) → in_spans written n ≡ in_spans (map (λ (w : Write). kept ws w.of.span) found.writes) n) same bits) h)

pub unset-law : (found : Found) (r : Option ℕ) → IsLeastToken found.unset r
    → (d : Design) (p : Process) → KeepsLimits d → IsFlow found (flow d p) → B.unrolls d p.body ≡ true → IsLeastToken (B.local_early d p) r
unset-law found r h d p limits is can = unset-least d limits p found is r can h

pub ruleset own_laws = (unset-law)
