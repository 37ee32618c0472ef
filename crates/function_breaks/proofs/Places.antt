-- The bits that a function is to write, as the definition lists them and as uses.
use Rattle.std.proofs.Common.{◌≡◌, inl, inr, ℕ, zero, suc, ◌+◌, ◌-◌, ◌<◌, ◌≤◌, ◌^◌, min, Bool, true, false, cond, List, [], ◌∷◌, ◌++◌, map, flat_map, filter, take, drop, reverse, refl, ap, sym, ◌∙◌, subst, arith}
use Rattle.std.specs.Prelude.{nat_le, nat_lt}
use Rattle.std.proofs.lemmas.Bool.{cases_eq, cases_lt, and_from, le-leb, lt-ltb}
use Rattle.row_machine.specs.Valuation.{Place, Member}
use Rattle.row_machine.specs.Places.{places_from}
use Rattle.row_machine.proofs.Members.{append-member, member-front, member-back, member-map, map-member}
use Rattle.bit_sets.specs.declared.span.Use.{Use}
use Rattle.bit_sets.specs.Sets.{covers}
use Rattle.bit_sets.proofs.Laws as L
use Rattle.flow_sets.specs.Bits.{position, number_of}
use Rattle.sv_source.specs.declared.token.Spot.{Spot}
use Rattle.sv_types.specs.declared.design.Design.{Design}
use Rattle.sv_types.specs.declared.statement.Formal.{Formal}
use Rattle.sv_types.specs.declared.statement.Function.{Function}
use Rattle.sv_types.specs.declared.statement.FunctionKind.{FunctionKind}
use Rattle.sv_types.specs.declared.statement.FunctionKind.TheVariants.{Plain, Routine, Made}
use Rattle.sv_types.specs.declared.statement.Way.{Way}
use Rattle.sv_types.specs.declared.statement.Way.TheVariants as W
use Rattle.sv_types.specs.Layouts.{width_of}
use Rattle.sv_types.specs.Surroundings.{local_number}
use Rattle.eval_parts.specs.Targets.{AllNarrow}
use Rattle.eval_forms.specs.Callees.{FunctionFits}
use Rattle.design_breaks.specs.Breaks as B
use Rattle.function_breaks.specs.Owed.{local_use, is_output, formal_uses, member_uses, uses_by, owed_uses}

-- the bits of a local
places-in : (n k w : ℕ) (q : Place) → Member (places_from n k w) q → (q.signal ≡ n) × (k ≤ q.bit) × (q.bit < k + w)
places-in n k zero q m = elim m [ ]
places-in n k (suc w) q (inl is) = let bit = ap (λ (p : Place). p.bit) is in (ap (λ (p : Place). p.signal) is, omega (arith, bit), omega (arith, bit))
places-in n k (suc w) q (inr m) = let r = places-in n (suc k) w q m in let low = r.1 in let high = r.2 in (r.0, omega (arith, low), omega (arith, high))

in-places : (n k w b : ℕ) → k ≤ b → b < k + w → Member (places_from n k w) (record { signal = n; bit = b })
in-places n k zero b low high = absurd (omega (arith, low, high))
in-places n k (suc w) b low high = elim (cases_eq b k) [
  | inl is ↦ inl (λ i. record { signal = n; bit = is i })
  | inr other ↦ inr (in-places n (suc k) w b (omega (arith, low, other)) (omega (arith, high)))
]

take-less : (n k w r t : ℕ) → t ≡ w + r → take w (places_from n k t) ≡ places_from n k w
take-less n k zero r t is = refl
take-less n k (suc w) r zero is = absurd (omega (arith, is))
take-less n k (suc w) r (suc t) is = ap (λ qs. record { signal = n; bit = k } ∷ qs) (take-less n (suc k) w r t (omega (arith, is)))

drop-less : (n k w r t : ℕ) → t ≡ w + r → drop w (places_from n k t) ≡ places_from n (k + w) r
drop-less n k zero r t is =
    let same : t ≡ r = omega (arith, is) in
    let at : k ≡ k + 0 = omega arith in
    ap (places_from n k) same ∙ ap (λ j. places_from n j r) at
drop-less n k (suc w) r zero is = absurd (omega (arith, is))
drop-less n k (suc w) r (suc t) is = let at : suc k + w ≡ k + suc w = omega arith in drop-less n (suc k) w r t (omega (arith, is)) ∙ ap (λ j. places_from n j r) at

take-more : (n k w t : ℕ) → t ≤ w → take w (places_from n k t) ≡ places_from n k t
take-more n k zero zero is = refl
take-more n k zero (suc t) is = absurd (omega (arith, is))
take-more n k (suc w) zero is = refl
take-more n k (suc w) (suc t) is = ap (λ qs. record { signal = n; bit = k } ∷ qs) (take-more n (suc k) w t (omega (arith, is)))

drop-more : (n k w t : ℕ) → t ≤ w → drop w (places_from n k t) ≡ []
drop-more n k zero zero is = refl
drop-more n k zero (suc t) is = absurd (omega (arith, is))
drop-more n k (suc w) zero is = refl
drop-more n k (suc w) (suc t) is = drop-more n (suc k) w t (omega (arith, is))

-- a bit that is to be written, by its number and token
pub record OwedBit (os : List (Place × ℕ)) (n at : ℕ) : Type 0 where
  pub place : Place
  pub stands : Member os (place, at)
  pub number : number_of place ≡ n
  pub small : place.bit < 2 ^ 32

-- the use that it lies in
pub record UseOfBit (us : List Use) (o : Place × ℕ) : Type 0 where
  pub use_in : Use
  pub stands : Member us use_in
  pub covered : covers use_in.span (number_of o.0) ≡ true
  pub token : use_in.at ≡ o.1
  pub small : o.0.bit < 2 ^ 32

-- the uses are of these bits
pub record Owes (us : List Use) (os : List (Place × ℕ)) : Type 0 where
  pub into : (u : Use) → Member us u → (n : ℕ) → covers u.span n ≡ true → OwedBit os n u.at
  pub back : (o : Place × ℕ) → Member os o → UseOfBit us o

owes-none : Owes [] []
owes-none = record { into = λ u m. elim m [ ]; back = λ o m. elim m [ ] }

owes-append : (us vs : List Use) (os ps : List (Place × ℕ)) → Owes us os → Owes vs ps → Owes (us ++ vs) (os ++ ps)
owes-append us vs os ps a b = record {
  into = λ u m n h. elim (append-member us vs u m) [
    | inl x ↦ (let r = a.into u x n h in record { place = r.place; stands = member-front os ps (r.place, u.at) r.stands; number = r.number; small = r.small })
    | inr x ↦ (let r = b.into u x n h in record { place = r.place; stands = member-back os ps (r.place, u.at) r.stands; number = r.number; small = r.small })
  ];
  back = λ o m. elim (append-member os ps o m) [
    | inl x ↦ (let r = a.back o x in record { use_in = r.use_in; stands = member-front us vs r.use_in r.stands; covered = r.covered; token = r.token; small = r.small })
    | inr x ↦ (let r = b.back o x in record { use_in = r.use_in; stands = member-back us vs r.use_in r.stands; covered = r.covered; token = r.token; small = r.small })
  ];
}

abbrev at_token : ℕ → Place → Place × ℕ
at_token at q = (q, at)

-- some bits of one local
owes-one : (n low w high at : ℕ) → high ≡ low + w → high ≤ 4194304 → Owes (local_use n low high at ∷ []) (map (λ (q : Place). (q, at)) (places_from (local_number n) low w))
owes-one n low w high at is narrow = record {
  into = λ u m k h. elim m [ inl same ↦ one u k same h | inr none ↦ elim none [ ] ];
  back = λ o m.
      let r = map-member (at_token at) (places_from (local_number n) low w) o m in
      its o r.0 r.2 (places-in (local_number n) low w r.0 r.1);
}
  where
    one : (u : Use) (k : ℕ) → u ≡ local_use n low high at → covers u.span k ≡ true → OwedBit (map (λ (q : Place). (q, at)) (places_from (local_number n) low w)) k u.at
    one u k same h =
        let its = subst (λ (v : Use). covers v.span k ≡ true) same h in
        let first = L.covers-low (local_use n low high at).span k its in
        let last = L.covers-high (local_use n low high at).span k its in
        let token = ap (λ (v : Use). v.at) same in
        let bit = k - position (local_number n) 0 in
        let back : position (local_number n) bit ≡ k = omega (arith, first) in
        record {
          place = record { signal = local_number n; bit = bit };
          stands = subst (λ t. Member {A = Place × ℕ} (map (λ (q : Place). (q, at)) (places_from (local_number n) low w)) (record { signal = local_number n; bit = bit }, t)) (sym token)
              (member-map (at_token at) (places_from (local_number n) low w) (record { signal = local_number n; bit = bit }) (in-places (local_number n) low w bit (omega (arith, first, back)) (omega (arith, last, back, is))));
          number = back;
          small = omega (arith, last, back, narrow);
        }

    its : (o : Place × ℕ) (q : Place) → o ≡ (q, at) → (q.signal ≡ local_number n) × (low ≤ q.bit) × (q.bit < low + w) → UseOfBit (local_use n low high at ∷ []) o
    its o q same r =
        let signal = r.0 in
        let first = r.1 in
        let last = r.2 in
        let place = ap (λ (x : Place × ℕ). x.0) same in
        let s = ap (λ (x : Place). x.signal) place in
        let b = ap (λ (x : Place). x.bit) place in
        record {
          use_in = local_use n low high at;
          stands = inl refl;
          covered = and_from (nat_le (position (local_number n) low) (number_of o.0)) (nat_lt (number_of o.0) (position (local_number n) high))
              (le-leb (position (local_number n) low) (number_of o.0) (omega (arith, signal, first, s, b)))
              (lt-ltb (number_of o.0) (position (local_number n) high) (omega (arith, signal, last, s, b, is)));
          token = sym (ap (λ (x : Place × ℕ). x.1) same);
          small = omega (arith, last, b, is, narrow);
        }

-- the bits of all outputs
abbrev tokens_of : Design → Formal → List (Place × ℕ)
tokens_of d p = map (λ q. (q, p.spot.at)) (B.formal_places d p)

way-same : (d : Design) (p : Formal) (w : Way) → is_output w ≡ elim w [ W.Input ↦ false | W.Output ↦ true | W.Inout ↦ false ]
way-same d p W.Input = refl
way-same d p W.Output = refl
way-same d p W.Inout = refl

owes-formals : (d : Design) (fs : List Formal) → AllNarrow fs → Owes (formal_uses fs) (flat_map (tokens_of d) (filter (B.is_output d) fs))
owes-formals d [] narrow = owes-none
owes-formals d (p ∷ fs) narrow =
    subst (λ b. Owes (cond b (its ∷ formal_uses fs) (formal_uses fs)) (flat_map (tokens_of d) (cond (B.is_output d p) (p ∷ filter (B.is_output d) fs) (filter (B.is_output d) fs)))) (sym (way-same d p p.way))
    (by (B.is_output d p) (owes-formals d fs narrow.1))
  where
    its : Use
    its = local_use p.local.number 0 (width_of p.local.of) p.spot.at

    by : (b : Bool) → Owes (formal_uses fs) (flat_map (tokens_of d) (filter (B.is_output d) fs))
        → Owes (cond b (its ∷ formal_uses fs) (formal_uses fs)) (flat_map (tokens_of d) (cond b (p ∷ filter (B.is_output d) fs) (filter (B.is_output d) fs)))
    by true rest =
        let wide : width_of p.local.of ≡ 0 + width_of p.local.of = omega arith in
        owes-append (its ∷ []) (formal_uses fs) (tokens_of d p) (flat_map (tokens_of d) (filter (B.is_output d) fs)) (owes-one p.local.number 0 (width_of p.local.of) (width_of p.local.of) p.spot.at wide narrow.0) rest
    by false rest = rest

-- the bits of all members
abbrev result_from : ℕ → ℕ → List Place
result_from low w = places_from (local_number 0) low w

owes-members : (d : Design) (ws : List ℕ) (ss : List Spot) (end low rest : ℕ) → end ≤ 4194304 → low + rest ≡ end → Owes (member_uses end low ws ss) (B.tokens_of_members d ws ss (result_from low rest))
owes-members d ws [] end low rest narrow is = owes-none
owes-members d [] (s ∷ ss) end low rest narrow is = owes-none
owes-members d (w ∷ ws) (s ∷ ss) end low rest narrow is = elim (cases_lt rest w) [
  | inl more ↦
      (let stop : end ≡ min (low + w) end = omega (arith, more, is) in
      let last : end ≡ low + rest = sym is in
      let zero_left : end + 0 ≡ end = omega arith in
      subst (λ h. Owes (local_use 0 low h s.at ∷ member_uses end h ws ss) (map (λ q. (q, s.at)) (take w (result_from low rest)) ++ B.tokens_of_members d ws ss (drop w (result_from low rest)))) stop
      (subst (λ qs. Owes (local_use 0 low end s.at ∷ member_uses end end ws ss) (map (λ q. (q, s.at)) qs ++ B.tokens_of_members d ws ss (drop w (result_from low rest)))) (sym (take-more (local_number 0) low w rest (omega (arith, more))))
      (subst (λ qs. Owes (local_use 0 low end s.at ∷ member_uses end end ws ss) (map (λ q. (q, s.at)) (result_from low rest) ++ B.tokens_of_members d ws ss qs)) (sym (drop-more (local_number 0) low w rest (omega (arith, more))))
      (owes-append (local_use 0 low end s.at ∷ []) (member_uses end end ws ss) (map (λ (q : Place). (q, s.at)) (result_from low rest)) (B.tokens_of_members d ws ss [])
      (owes-one 0 low rest end s.at last narrow) (owes-members d ws ss end end 0 narrow zero_left)))))
  | inr less ↦
      (let left = rest - w in
      let both : rest ≡ w + left = omega (arith, less) in
      let stop : low + w ≡ min (low + w) end = omega (arith, both, is) in
      let next : (low + w) + left ≡ end = omega (arith, both, is) in
      subst (λ h. Owes (local_use 0 low h s.at ∷ member_uses end h ws ss) (map (λ q. (q, s.at)) (take w (result_from low rest)) ++ B.tokens_of_members d ws ss (drop w (result_from low rest)))) stop
      (subst (λ qs. Owes (local_use 0 low (low + w) s.at ∷ member_uses end (low + w) ws ss) (map (λ q. (q, s.at)) qs ++ B.tokens_of_members d ws ss (drop w (result_from low rest)))) (sym (take-less (local_number 0) low w left rest both))
      (subst (λ qs. Owes (local_use 0 low (low + w) s.at ∷ member_uses end (low + w) ws ss) (map (λ q. (q, s.at)) (result_from low w) ++ B.tokens_of_members d ws ss qs)) (sym (drop-less (local_number 0) low w left rest both))
      (owes-append (local_use 0 low (low + w) s.at ∷ []) (member_uses end (low + w) ws ss) (map (λ (q : Place). (q, s.at)) (result_from low w)) (B.tokens_of_members d ws ss (result_from (low + w) left))
      (owes-one 0 low w (low + w) s.at refl (omega (arith, next, narrow))) (owes-members d ws ss end (low + w) left narrow next)))))
]

-- all bits that a function is to write
owes-by : (d : Design) (f : Function) → FunctionFits f → (k : FunctionKind) → Owes (uses_by k f) (elim k [
  | Plain ↦ map (λ q. (q, f.spot.at)) (B.result_places d f)
  | Routine ↦ flat_map (λ (p : Formal). map (λ q. (q, p.spot.at)) (B.formal_places d p)) (filter (B.is_output d) f.formals)
  | Made spots ↦ B.tokens_of_members d (B.member_widths d f.of) (reverse spots) (B.result_places d f)
])
owes-by d f fits Plain = let wide : width_of f.of ≡ 0 + width_of f.of = omega arith in owes-one 0 0 (width_of f.of) (width_of f.of) f.spot.at wide fits.result
owes-by d f fits Routine = owes-formals d f.formals fits.formals
owes-by d f fits (Made spots) = let all : 0 + width_of f.of ≡ width_of f.of = omega arith in owes-members d (B.member_widths d f.of) (reverse spots) (width_of f.of) 0 (width_of f.of) fits.result all

pub owes-all : (d : Design) (f : Function) → FunctionFits f → Owes (owed_uses f) (B.owed d f)
owes-all d f fits = owes-by d f fits f.kind
