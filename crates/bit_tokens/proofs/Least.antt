-- The least tokens of some uses.
use Rattle.std.proofs.Common.{◌≡◌, inl, inr, ℕ, zero, suc, ◌+◌, ◌<◌, ◌≤◌, min, max, Bool, true, false, ◌||◌, cond, List, [], ◌∷◌, ◌++◌, length, drop, slice_index_or, Option, Some, None, refl, ap, sym, ◌∙◌, subst, arith}
use Rattle.std.specs.Prelude.{nat_le, nat_lt}
use Rattle.std.proofs.lemmas.Bool.{cases_eq, cases_lt, and_from, le-leb, lt-ltb, leb-true, false≢true}
use Rattle.std.proofs.lemmas.List.{get_or_default, drop_all}
use Rattle.std.proofs.Math.Seq.{drop-cons}
use Rattle.row_machine.specs.Valuation.{Member}
use Rattle.row_machine.proofs.Basics.{member_at}
use Rattle.row_machine.proofs.Members.{member-place}
use Rattle.bit_sets.specs.declared.span.Span.{Span}
use Rattle.bit_sets.specs.declared.span.Use.{Use}
use Rattle.bit_sets.specs.Sets.{covers, in_spans, tokens_at, IsSet, Ascending}
use Rattle.bit_sets.proofs.Laws as L
use Rattle.bit_tokens.specs.Tokens.{with_token, UseOf, IsLeast, HasSome, Meets, Outside}

abbrev no_use : Use
no_use = record { span = record { low = 0; high = 0 }; at = 0 }

abbrev use_at : List Use → ℕ → Use
use_at us k = slice_index_or us k no_use

-- the least token of the first k uses
pub record Place (P : Use → Type 0) (us : List Use) (k at : ℕ) : Type 0 where
  pub place : ℕ
  pub before : place < k
  pub within : place < length us
  pub is_one : P (use_at us place)
  pub token : (use_at us place).at ≡ at

pub record LeastAt (P : Use → Type 0) (us : List Use) (k at : ℕ) : Type 0 where
  pub there : Place P us k at
  pub least : (j : ℕ) → j < k → P (use_at us j) → at ≤ (use_at us j).at

abbrev pub LeastUpTo : (Use → Type 0) → List Use → ℕ → Option ℕ → Type 0
LeastUpTo P us k None = (j : ℕ) → j < k → P (use_at us j) → ⊥
LeastUpTo P us k (Some at) = LeastAt P us k at

pub least-start : (P : Use → Type 0) (us : List Use) → LeastUpTo P us 0 None
least-start P us j low = absurd (omega (arith, low))

pub least-skip : (P : Use → Type 0) (us : List Use) (k : ℕ) (r : Option ℕ) → (P (use_at us k) → ⊥) → LeastUpTo P us k r → LeastUpTo P us (k + 1) r
least-skip P us k None out h = λ j low is. elim (cases_eq j k) [
  | inl same ↦ out (subst (λ i. P (use_at us i)) same is)
  | inr other ↦ h j (omega (arith, low, other)) is
]
least-skip P us k (Some at) out h = record {
  there = record { place = h.there.place; before = (let b = h.there.before in omega (arith, b)); within = h.there.within; is_one = h.there.is_one; token = h.there.token };
  least = λ j low is. elim (cases_eq j k) [
    | inl same ↦ absurd (out (subst (λ i. P (use_at us i)) same is))
    | inr other ↦ h.least j (omega (arith, low, other)) is
  ];
}

lower : (P : Use → Type 0) (us : List Use) (k at : ℕ) → k < length us → P (use_at us k) → (b : Bool) → nat_le at (use_at us k).at ≡ b → LeastAt P us k at → LeastAt P us (k + 1) (min at (use_at us k).at)
lower P us k at within is true order h =
    let le = leb-true at (use_at us k).at order in
    let same : min at (use_at us k).at ≡ at = omega (arith, le) in
    subst (LeastAt P us (k + 1)) (sym same) (record {
      there = record { place = h.there.place; before = (let b = h.there.before in omega (arith, b)); within = h.there.within; is_one = h.there.is_one; token = h.there.token };
      least = λ j low is'. elim (cases_eq j k) [
        | inl equal ↦ subst (λ i. at ≤ (use_at us i).at) (sym equal) le
        | inr other ↦ h.least j (omega (arith, low, other)) is'
      ];
    })
lower P us k at within is false order h =
    let gt : (use_at us k).at < at = more at (use_at us k).at order in
    let same : min at (use_at us k).at ≡ (use_at us k).at = omega (arith, gt) in
    subst (LeastAt P us (k + 1)) (sym same) (record {
      there = record { place = k; before = omega arith; within = within; is_one = is; token = refl };
      least = λ j low is'. elim (cases_eq j k) [
        | inl equal ↦ subst (λ i. (use_at us k).at ≤ (use_at us i).at) (sym equal) (omega arith)
        | inr other ↦ (let le = h.least j (omega (arith, low, other)) is' in omega (arith, le, gt))
      ];
    })
  where
    more : (a b : ℕ) → nat_le a b ≡ false → b < a
    more a b e = elim (cases_lt b a) [ inl lt ↦ lt | inr ge ↦ absurd (false≢true (sym e ∙ le-leb a b ge)) ]

pub least-add : (P : Use → Type 0) (us : List Use) (k : ℕ) (r : Option ℕ) → k < length us → P (use_at us k) → LeastUpTo P us k r → LeastUpTo P us (k + 1) (with_token r (use_at us k).at)
least-add P us k None within is h = record {
  there = record { place = k; before = omega arith; within = within; is_one = is; token = refl };
  least = λ j low is'. elim (cases_eq j k) [
    | inl equal ↦ subst (λ i. (use_at us k).at ≤ (use_at us i).at) (sym equal) (omega arith)
    | inr other ↦ absurd (h j (omega (arith, low, other)) is')
  ];
}
least-add P us k (Some at) within is h = lower P us k at within is (nat_le at (use_at us k).at) refl h

at-member : (us : List Use) (u : Use) (m : Member us u) → (j : ℕ) × (j < length us) × (use_at us j ≡ u)
at-member us u m = let r = member-place us u m in (r.0, r.1, get_or_default us r.0 no_use u r.1 ∙ r.2)

pub least-end : (P : Use → Type 0) (us : List Use) (k : ℕ) (r : Option ℕ) → length us ≤ k → LeastUpTo P us k r → IsLeast P us r
least-end P us k None all h = λ u m is. let j = at-member us u m in h j.0 (let low = j.1 in omega (arith, low, all)) (subst P (sym j.2) is)
least-end P us k (Some at) all h = record {
  there = record { use_of = use_at us h.there.place; stands = member_at us h.there.place no_use h.there.within; is_one = h.there.is_one; token = h.there.token };
  least = λ u m is.
      let j = at-member us u m in
      let le = h.least j.0 (let low = j.1 in omega (arith, low, all)) (subst P (sym j.2) is) in
      subst (λ (x : Use). at ≤ x.at) j.2 le;
}

-- what is left of uses once a set is cut out of them
pub token-of : (us : List Use) (n t : ℕ) → Member (tokens_at us n) t → UseOf (λ u. covers u.span n ≡ true) us t
token-of [] n t m = elim (subst (λ ts. Member ts t) (L.tokens-none n) m) [ ]
token-of (u ∷ us) n t m = by (λ x. token-of us n t x) (covers u.span n) refl (subst (λ ts. Member ts t) (L.tokens-more u us n) m)
  where
    further : UseOf (λ v. covers v.span n ≡ true) us t → UseOf (λ v. covers v.span n ≡ true) (u ∷ us) t
    further r = record { use_of = r.use_of; stands = inr r.stands; is_one = r.is_one; token = r.token }

    by : (Member (tokens_at us n) t → UseOf (λ v. covers v.span n ≡ true) us t) → (b : Bool) → covers u.span n ≡ b → Member (cond b (u.at ∷ tokens_at us n) (tokens_at us n)) t → UseOf (λ v. covers v.span n ≡ true) (u ∷ us) t
    by rest true is m' = elim m' [ inl here ↦ record { use_of = u; stands = inl refl; is_one = is; token = sym here } | inr more ↦ further (rest more) ]
    by rest false is more = further (rest more)

pub of-token : (us : List Use) (n : ℕ) (u : Use) → Member us u → covers u.span n ≡ true → Member (tokens_at us n) u.at
of-token [] n u m is = elim m [ ]
of-token (v ∷ us) n u m is = subst (λ ts. Member ts u.at) (sym (L.tokens-more v us n)) (by (λ x. of-token us n u x is) (covers v.span n) refl m)
  where
    by : (Member us u → Member (tokens_at us n) u.at) → (b : Bool) → covers v.span n ≡ b → Member (v ∷ us) u → Member (cond b (v.at ∷ tokens_at us n) (tokens_at us n)) u.at
    by rest true it (inl here) = inl (ap (λ (x : Use). x.at) here)
    by rest true it (inr more) = inr (rest more)
    by rest false it (inl here) = absurd (false≢true (sym it ∙ ap (λ (x : Use). covers x.span n) (sym here) ∙ is))
    by rest false it (inr more) = rest more

-- the uses of the rest are parts of uses that lie outside the set
abbrev IsCut : List Span → List Use → List Use → Type 0
IsCut set us rest = (n : ℕ) → tokens_at rest n ≡ tokens_at [] n ++ cond (in_spans set n) [] (tokens_at us n)

cut-at : (set : List Span) (us rest : List Use) (n : ℕ) → IsCut set us rest → tokens_at rest n ≡ cond (in_spans set n) [] (tokens_at us n)
cut-at set us rest n cut = cut n ∙ ap (λ ts. ts ++ cond (in_spans set n) [] (tokens_at us n)) (L.tokens-none n)

back-out : (set : List Span) (us rest : List Use) → IsCut set us rest → (v : Use) → Member rest v → HasSome v → UseOf (Outside set) us v.at
back-out set us rest cut v m some =
    by (in_spans set v.span.low) refl (subst (λ ts. Member ts v.at) (cut-at set us rest v.span.low cut) (of-token rest v.span.low v m (and_from (nat_le v.span.low v.span.low) (nat_lt v.span.low v.span.high) (le-leb v.span.low v.span.low (omega arith)) (lt-ltb v.span.low v.span.high some))))
  where
    by : (b : Bool) → in_spans set v.span.low ≡ b → Member (cond b [] (tokens_at us v.span.low)) v.at → UseOf (Outside set) us v.at
    by true is x = elim x [ ]
    by false is x =
        let r = token-of us v.span.low v.at x in
        record { use_of = r.use_of; stands = r.stands; is_one = record { number = v.span.low; covered = r.is_one; without = is }; token = r.token }

to-rest : (set : List Span) (us rest : List Use) → IsCut set us rest → (u : Use) → Member us u → Outside set u → UseOf HasSome rest u.at
to-rest set us rest cut u m out =
    let here = subst (λ b. Member (cond b [] (tokens_at us out.number)) u.at) (sym out.without) (of-token us out.number u m out.covered) in
    let r = token-of rest out.number u.at (subst (λ ts. Member ts u.at) (sym (cut-at set us rest out.number cut)) here) in
    let low = L.covers-low r.use_of.span out.number r.is_one in
    let high = L.covers-high r.use_of.span out.number r.is_one in
    record { use_of = r.use_of; stands = r.stands; is_one = omega (arith, low, high); token = r.token }

pub least-cut : (set : List Span) (us rest : List Use) (r : Option ℕ) → IsCut set us rest → IsLeast HasSome rest r → IsLeast (Outside set) us r
least-cut set us rest None cut h = λ u m out. let v = to-rest set us rest cut u m out in h v.use_of v.stands v.is_one
least-cut set us rest (Some at) cut h = record {
  there = (let t = h.there in subst (UseOf (Outside set) us) t.token (back-out set us rest cut t.use_of t.stands t.is_one));
  least = λ u m out.
      let v = to-rest set us rest cut u m out in
      let le = h.least v.use_of v.stands v.is_one in
      let same = v.token in
      omega (arith, le, same);
}

-- the first span that ends behind the beginning of another one
pub meets-first : (set rest : List Span) (s t : Span) (bound : ℕ) → Ascending bound (t ∷ rest) → s.low < t.high → ((k : ℕ) → s.low ≤ k → in_spans set k ≡ in_spans (t ∷ rest) k)
    → s.low < s.high → t.low < s.high → Meets set s
meets-first set rest s t bound a past value some low = record {
  number = max s.low t.low;
  covered = and_from (nat_le s.low (max s.low t.low)) (nat_lt (max s.low t.low) s.high) (le-leb s.low (max s.low t.low) (omega arith)) (lt-ltb (max s.low t.low) s.high (omega (arith, some, low)));
  within = value (max s.low t.low) (omega arith) ∙ L.in-more t rest (max s.low t.low)
      ∙ ap (λ b. b || in_spans rest (max s.low t.low)) (and_from (nat_le t.low (max s.low t.low)) (nat_lt (max s.low t.low) t.high) (le-leb t.low (max s.low t.low) (omega arith))
      (lt-ltb (max s.low t.low) t.high (let own = L.ascending-some bound t rest a in omega (arith, past, own))));
}

pub first-meets : (set rest : List Span) (s t : Span) (bound : ℕ) → Ascending bound (t ∷ rest) → ((k : ℕ) → s.low ≤ k → in_spans set k ≡ in_spans (t ∷ rest) k) → Meets set s → (s.low < s.high) × (t.low < s.high)
first-meets set rest s t bound a value m =
    let low = L.covers-low s m.number m.covered in
    let high = L.covers-high s m.number m.covered in
    let here = sym (value m.number low) ∙ m.within in
    let above = at-least m.number here in
    (omega (arith, low, high), omega (arith, above, high))
  where
    at-least : (n : ℕ) → in_spans (t ∷ rest) n ≡ true → t.low ≤ n
    at-least n is = elim (cases_lt n t.low) [
      | inl lt ↦ absurd (false≢true (sym (L.below-none t.low n (t ∷ rest) (L.ascending-head-lower t.low bound t rest (omega arith) a) lt) ∙ is))
      | inr ge ↦ ge
    ]

-- a set from a place on
pub rest-ascending : (bound : ℕ) (set : List Span) (k : ℕ) → Ascending bound set → (low : ℕ) × Ascending low (drop k set)
rest-ascending bound set k a = by bound set k a
  where
    by : (n : ℕ) (ss : List Span) (j : ℕ) → Ascending n ss → (low : ℕ) × Ascending low (drop j ss)
    by n [] j h = (n, subst (Ascending n) (sym (drop_all j [] (omega arith))) h)
    by n (s ∷ ss) zero h = (n, h)
    by n (s ∷ ss) (suc j) h = by s.high ss j (L.ascending-rest n s ss h)

-- a set from the place of the first span that ends behind a span's beginning
abbrev span_at : List Span → ℕ → Span
span_at set k = slice_index_or set k (record { low = 0; high = 0 })

rest-at : (set : List Span) (k : ℕ) → k < length set → drop k set ≡ span_at set k ∷ drop (suc k) set
rest-at set k within = drop-cons set k (record { low = 0; high = 0 }) within

pub behind-meets : (set : List Span) (s : Span) (k : ℕ) → IsSet set → k < length set → ((n : ℕ) → s.low ≤ n → in_spans set n ≡ in_spans (drop k set) n) → s.low < (span_at set k).high
    → s.low < s.high → (span_at set k).low < s.high → Meets set s
behind-meets set s k is within value past some low =
    let a = rest-ascending 0 set k is in
    meets-first set (drop (suc k) set) s (span_at set k) a.0 (subst (Ascending a.0) (rest-at set k within) a.1) past
    (λ n at. value n at ∙ ap (λ ss. in_spans ss n) (rest-at set k within)) some low

pub meets-behind : (set : List Span) (s : Span) (k : ℕ) → IsSet set → k < length set → ((n : ℕ) → s.low ≤ n → in_spans set n ≡ in_spans (drop k set) n) → Meets set s
    → (s.low < s.high) × ((span_at set k).low < s.high)
meets-behind set s k is within value m =
    let a = rest-ascending 0 set k is in
    first-meets set (drop (suc k) set) s (span_at set k) a.0 (subst (Ascending a.0) (rest-at set k within) a.1)
    (λ n at. value n at ∙ ap (λ ss. in_spans ss n) (rest-at set k within)) m

pub none-behind : (set : List Span) (s : Span) (k : ℕ) → length set ≤ k → ((n : ℕ) → s.low ≤ n → in_spans set n ≡ in_spans (drop k set) n) → Meets set s → ⊥
none-behind set s k past value m =
    let low = L.covers-low s m.number m.covered in
    false≢true (sym (value m.number low ∙ ap (λ ss. in_spans ss m.number) (drop_all k set past) ∙ L.in-none m.number) ∙ m.within)

pub ruleset least_laws = (least-start)

pub ruleset meet_laws = (behind-meets)
