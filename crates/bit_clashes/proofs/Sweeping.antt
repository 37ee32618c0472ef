-- What the sweep over pieces finds.
use Rattle.std.proofs.Common.{◌≡◌, ◌⊎◌, inl, inr, ℕ, suc, ◌+◌, ◌<◌, ◌≤◌, max, min, Bool, true, false, ◌&&◌, ◌==◌, cond, List, [], ◌∷◌, length, drop, slice_index_or, add-one, refl, ap, sym, ◌∙◌, subst, arith}
use Rattle.std.specs.Prelude.{nat_le, nat_lt}
use Rattle.std.specs.List.Sorted.{IsNonDecreasingBy}
use Rattle.std.proofs.lemmas.Bool.{and_parts, false≢true, ltb-true}
use Rattle.std.proofs.lemmas.Bool.Decides.{nat_tests}
use Rattle.std.proofs.lemmas.List.{get_or_default, drop_all}
use Rattle.std.proofs.Math.Seq.{drop-cons}
use Rattle.row_machine.specs.Valuation.{Member}
use Rattle.row_machine.proofs.Basics.{true_or_false}
use Rattle.row_machine.proofs.Members.{member-place}
use Rattle.bit_sets.specs.declared.span.Span.{Span}
use Rattle.bit_clashes.specs.declared.Piece.{Piece}
use Rattle.bit_clashes.specs.declared.Reach.{Reach}
use Rattle.bit_clashes.specs.Clashes.{low_of, place_of, counts, touches, Clash, start, end_of_others, grown, sweep}

-- in the order of their first numbers
abbrev InOrder : List Piece → Type 0
InOrder [] = Unit {0}
InOrder (p ∷ ps) = ((q : Piece) → Member ps q → p.span.low ≤ q.span.low) × InOrder ps

to-order : (ps : List Piece) → IsNonDecreasingBy low_of ps → InOrder ps
to-order [] h = tt
to-order (p ∷ ps) h = (
  λ q m. let r = member-place ps q m in
      let same = get_or_default ps r.0 p q r.1 ∙ r.2 in
      let low = h 0 (suc r.0) p (omega arith) (let k = r.1 in omega (arith, k)) in
      let at = ap low_of same in
      omega (arith, low, at),
  to-order ps (λ i j d below within. h (suc i) (suc j) d (omega (arith, below)) (omega (arith, within))),
)

-- the end of the pieces of other things
record Witness (limit : ℕ) (seen : List Piece) (same : Bool) (by end : ℕ) : Type 0 where
  pub piece : Piece
  pub stands : Member seen piece
  pub counted : counts limit piece ≡ true
  pub is_its : (piece.by == by) ≡ same
  pub ends : piece.span.high ≡ end

record Covers (limit : ℕ) (r : Reach) (seen : List Piece) : Type 0 where
  pub below : (q : Piece) → Member seen q → counts limit q ≡ true → q.span.high ≤ cond (q.by == r.by) r.end r.other
  pub order : r.other ≤ r.end
  pub top : 0 < r.end → Witness limit seen true r.by r.end
  pub next : 0 < r.other → Witness limit seen false r.by r.other

covers-start : (limit : ℕ) → Covers limit start []
covers-start limit = record { below = λ q m. elim m [ ]; order = omega arith; top = λ h. absurd (omega (arith, h)); next = λ h. absurd (omega (arith, h)) }

more-seen : (limit : ℕ) (p : Piece) (seen : List Piece) (same : Bool) (by end : ℕ) → Witness limit seen same by end → Witness limit (p ∷ seen) same by end
more-seen limit p seen same by end w = record { piece = w.piece; stands = inr w.stands; counted = w.counted; is_its = w.is_its; ends = w.ends }

covers-skip : (limit : ℕ) (r : Reach) (p : Piece) (seen : List Piece) → counts limit p ≡ false → Covers limit r seen → Covers limit r (p ∷ seen)
covers-skip limit r p seen out c = record {
  below = λ q m counted. elim m [
    | inl is ↦ absurd (false≢true (sym out ∙ ap (counts limit) (sym is) ∙ counted))
    | inr in_it ↦ c.below q in_it counted
  ];
  order = c.order;
  top = λ h. more-seen limit p seen true r.by r.end (c.top h);
  next = λ h. more-seen limit p seen false r.by r.other (c.next h);
}

-- the ends of one thing and of the others, with one more piece
end-same : (a b c end other high : ℕ) → (a == b) ≡ true → other ≤ end → c ≤ high → c ≤ cond {A = ℕ} true (max end high) other
end-same a b c end other high is order low = omega (arith, order, low)

high-in : (limit : ℕ) (p : Piece) → counts limit p ≡ true → p.span.low < p.span.high
high-in limit p h = ltb-true p.span.low p.span.high (and_parts (nat_le (place_of p) limit) (nat_lt p.span.low p.span.high) h).1

grows-same : (limit : ℕ) (r : Reach) (p : Piece) (seen : List Piece) → counts limit p ≡ true → (p.by == r.by) ≡ true → Covers limit r seen
    → Covers limit (record r { end = max r.end p.span.high }) (p ∷ seen)
grows-same limit r p seen counted its c = record {
  below = λ q m here. elim m [
    | inl is ↦ new q is
    | inr in_it ↦ old (q.by == r.by) q.span.high (c.below q in_it here)
  ];
  order = (let o = c.order in omega (arith, o));
  top = λ h. elim (either r.end p.span.high) [
    | inl is ↦ subst (λ e. Witness limit (p ∷ seen) true r.by e) (sym is) (more-seen limit p seen true r.by r.end (c.top (let two = is in omega (arith, two, h))))
    | inr is ↦ record { piece = p; stands = inl refl; counted = counted; is_its = its; ends = sym is }
  ];
  next = λ h. more-seen limit p seen false r.by r.other (c.next h);
}
  where
    either : (a b : ℕ) → (max a b ≡ a) ⊎ (max a b ≡ b)
    either a b = elim (true_or_false (nat_le b a)) [ inl h ↦ inl (grind (arith, nat_tests)) | inr h ↦ inr (grind (arith, nat_tests)) ]

    new : (q : Piece) → q ≡ p → q.span.high ≤ cond (q.by == r.by) (max r.end p.span.high) r.other
    new q is =
        let same = ap (λ (x : Piece). x.by == r.by) is ∙ its in
        let high = ap (λ (x : Piece). x.span.high) is in
        subst (λ b. q.span.high ≤ cond b (max r.end p.span.high) r.other) (sym same) (omega (arith, high))

    old : (b : Bool) (n : ℕ) → n ≤ cond b r.end r.other → n ≤ cond b (max r.end p.span.high) r.other
    old true n h = omega (arith, h)
    old false n h = h

grows-other : (limit : ℕ) (r : Reach) (p : Piece) (seen : List Piece) → counts limit p ≡ true → (p.by == r.by) ≡ false → (nat_lt r.end p.span.high) ≡ true → Covers limit r seen
    → Covers limit (record { end = p.span.high; by = p.by; other = r.end }) (p ∷ seen)
grows-other limit r p seen counted its further c =
    let more = ltb-true r.end p.span.high further in record {
      below = λ q m here. elim m [
        | inl is ↦ new q is
        | inr in_it ↦ old (q.by == p.by) q.span.high (highest (q.by == r.by) q.span.high (c.below q in_it here))
      ];
      order = omega (arith, more);
      top = λ h. record { piece = p; stands = inl refl; counted = counted; is_its = itself p.by; ends = refl };
      next = λ h. let w = c.top h in record { piece = w.piece; stands = inr w.stands; counted = w.counted; is_its = apart w.piece.by r.by p.by w.is_its its; ends = w.ends };
    }
  where
    itself : (n : ℕ) → (n == n) ≡ true
    itself n = grind (arith, nat_tests)

    apart : (a b d : ℕ) → (a == b) ≡ true → (d == b) ≡ false → (a == d) ≡ false
    apart a b d h g = grind (arith, nat_tests)

    new : (q : Piece) → q ≡ p → q.span.high ≤ cond (q.by == p.by) p.span.high r.end
    new q is =
        let same = ap (λ (x : Piece). x.by == p.by) is ∙ itself p.by in
        let high = ap (λ (x : Piece). x.span.high) is in
        subst (λ b. q.span.high ≤ cond b p.span.high r.end) (sym same) (omega (arith, high))

    highest : (b : Bool) (n : ℕ) → n ≤ cond b r.end r.other → n ≤ r.end
    highest true n h = h
    highest false n h = let o = c.order in omega (arith, h, o)

    old : (b : Bool) (n : ℕ) → n ≤ r.end → n ≤ cond b p.span.high r.end
    old true n h = let more = ltb-true r.end p.span.high further in omega (arith, h, more)
    old false n h = h

grows-below : (limit : ℕ) (r : Reach) (p : Piece) (seen : List Piece) → counts limit p ≡ true → (p.by == r.by) ≡ false → (nat_lt r.end p.span.high) ≡ false → Covers limit r seen
    → Covers limit (record r { other = max r.other p.span.high }) (p ∷ seen)
grows-below limit r p seen counted its within c = record {
  below = λ q m here. elim m [
    | inl is ↦ new q is
    | inr in_it ↦ old (q.by == r.by) q.span.high (c.below q in_it here)
  ];
  order = (let o = c.order in let low = not-more r.end p.span.high within in omega (arith, o, low));
  top = λ h. more-seen limit p seen true r.by r.end (c.top h);
  next = λ h. elim (either r.other p.span.high) [
    | inl is ↦ subst (λ e. Witness limit (p ∷ seen) false r.by e) (sym is) (more-seen limit p seen false r.by r.other (c.next (let two = is in omega (arith, two, h))))
    | inr is ↦ record { piece = p; stands = inl refl; counted = counted; is_its = its; ends = sym is }
  ];
}
  where
    either : (a b : ℕ) → (max a b ≡ a) ⊎ (max a b ≡ b)
    either a b = elim (true_or_false (nat_le b a)) [ inl h ↦ inl (grind (arith, nat_tests)) | inr h ↦ inr (grind (arith, nat_tests)) ]

    not-more : (a b : ℕ) → nat_lt a b ≡ false → b ≤ a
    not-more a b h = grind (arith, nat_tests)

    new : (q : Piece) → q ≡ p → q.span.high ≤ cond (q.by == r.by) r.end (max r.other p.span.high)
    new q is =
        let same = ap (λ (x : Piece). x.by == r.by) is ∙ its in
        let high = ap (λ (x : Piece). x.span.high) is in
        subst (λ b. q.span.high ≤ cond b r.end (max r.other p.span.high)) (sym same) (omega (arith, high))

    old : (b : Bool) (n : ℕ) → n ≤ cond b r.end r.other → n ≤ cond b r.end (max r.other p.span.high)
    old true n h = h
    old false n h = omega (arith, h)

covers-grown : (limit : ℕ) (r : Reach) (p : Piece) (seen : List Piece) → counts limit p ≡ true → Covers limit r seen → Covers limit (grown r p) (p ∷ seen)
covers-grown limit r p seen counted c = elim (true_or_false (p.by == r.by)) [
  | inl its ↦ subst (λ b. Covers limit (cond b (record r { end = max r.end p.span.high }) (cond (nat_lt r.end p.span.high) (record { end = p.span.high; by = p.by; other = r.end }) (record r { other = max r.other p.span.high }))) (p ∷ seen)) (sym its) (grows-same limit r p seen counted its c)
  | inr its ↦ subst (λ b. Covers limit (cond b (record r { end = max r.end p.span.high }) (cond (nat_lt r.end p.span.high) (record { end = p.span.high; by = p.by; other = r.end }) (record r { other = max r.other p.span.high }))) (p ∷ seen)) (sym its)
      (elim (true_or_false (nat_lt r.end p.span.high)) [
        | inl more ↦ subst (λ b. Covers limit (cond b (record { end = p.span.high; by = p.by; other = r.end }) (record r { other = max r.other p.span.high })) (p ∷ seen)) (sym more) (grows-other limit r p seen counted its more c)
        | inr more ↦ subst (λ b. Covers limit (cond b (record { end = p.span.high; by = p.by; other = r.end }) (record r { other = max r.other p.span.high })) (p ∷ seen)) (sym more) (grows-below limit r p seen counted its more c)
      ])
]

-- a piece of another thing that reaches past the beginning of a piece that is not before it
meets-at : (a b : Span) → a.low ≤ b.low → b.low < a.high → b.low < b.high → touches a b ≡ true
meets-at a b order past some = by a.low a.high b.low b.high order past some
  where
    by : (la ha lb hb : ℕ) → la ≤ lb → lb < ha → lb < hb → nat_lt (max la lb) (min ha hb) ≡ true
    by la ha lb hb x y z = grind (arith, nat_tests)

meets-past : (a b : Span) → touches a b ≡ true → b.low < a.high
meets-past a b h = let lt = ltb-true (max a.low b.low) (min a.high b.high) h in omega (arith, lt)

turned : (a b : Span) → touches a b ≡ true → touches b a ≡ true
turned a b h = by a.low a.high b.low b.high h
  where
    by : (la ha lb hb : ℕ) → nat_lt (max la lb) (min ha hb) ≡ true → nat_lt (max lb la) (min hb ha) ≡ true
    by la ha lb hb x = grind (arith, nat_tests)

eq-turned : (a b : ℕ) → (a == b) ≡ false → (b == a) ≡ false
eq-turned a b h = grind (arith, nat_tests)

-- a piece of another thing ends where the ends of others do
found-other : (limit : ℕ) (r : Reach) (p : Piece) (seen : List Piece) → Covers limit r seen → p.span.low < end_of_others r p.by
    → (q : Piece) × Member seen q × (counts limit q ≡ true) × ((q.by == p.by) ≡ false) × (p.span.low < q.span.high)
found-other limit r p seen c past = elim (true_or_false (p.by == r.by)) [
  | inl its ↦ (let low = subst (λ b. p.span.low < cond b r.other r.end) its past in
      let w = c.next (omega (arith, low)) in
      (w.piece, w.stands, w.counted, apart w.piece.by r.by p.by w.is_its its, (let e = w.ends in omega (arith, low, e))))
  | inr its ↦ (let low = subst (λ b. p.span.low < cond b r.other r.end) its past in
      let w = c.top (omega (arith, low)) in
      (w.piece, w.stands, w.counted, apart' w.piece.by r.by p.by w.is_its its, (let e = w.ends in omega (arith, low, e))))
]
  where
    apart : (a b d : ℕ) → (a == b) ≡ false → (d == b) ≡ true → (a == d) ≡ false
    apart a b d h g = grind (arith, nat_tests)

    apart' : (a b d : ℕ) → (a == b) ≡ true → (d == b) ≡ false → (a == d) ≡ false
    apart' a b d h g = grind (arith, nat_tests)

abbrev AllIn : List Piece → List Piece → Type 0
AllIn all ps = (q : Piece) → Member ps q → Member all q

-- what the sweep finds is a clash
sweep-finds : (limit : ℕ) (all : List Piece) (r : Reach) (seen ps : List Piece) → Covers limit r seen → AllIn all seen → AllIn all ps → InOrder ps
    → ((q p : Piece) → Member seen q → Member ps p → q.span.low ≤ p.span.low) → sweep limit r ps ≡ true → Clash all limit
unfolding sweep
sweep-finds limit all r seen [] c in_seen in_ps o before h = absurd (false≢true h)
sweep-finds limit all r seen (p ∷ ps) c in_seen in_ps o before h = elim (true_or_false (counts limit p)) [
  | inr out ↦ sweep-finds limit all r (p ∷ seen) ps (covers-skip limit r p seen out c) (both in_seen in_ps) (λ q m. in_ps q (inr m)) o.1 (later before)
      (sym (ap (λ b. cond b (cond (nat_lt p.span.low (end_of_others r p.by)) true (sweep limit (grown r p) ps)) (sweep limit r ps)) out) ∙ h)
  | inl counted ↦ (let hit = sym (ap (λ b. cond b (cond (nat_lt p.span.low (end_of_others r p.by)) true (sweep limit (grown r p) ps)) (sweep limit r ps)) counted) ∙ h in
      elim (true_or_false (nat_lt p.span.low (end_of_others r p.by))) [
        | inl past ↦ (let other = found-other limit r p seen c (ltb-true p.span.low (end_of_others r p.by) past) in
            record {
              one = other.0;
              two = p;
              one_in = in_seen other.0 other.1;
              two_in = in_ps p (inl refl);
              apart = other.3;
              one_counts = other.2;
              two_counts = counted;
              meets = meets-at other.0.span p.span (before other.0 p other.1 (inl refl)) other.4 (high-in limit p counted);
            })
        | inr not_past ↦ sweep-finds limit all (grown r p) (p ∷ seen) ps (covers-grown limit r p seen counted c) (both in_seen in_ps) (λ q m. in_ps q (inr m)) o.1 (later before)
            (sym (ap (λ b. cond b true (sweep limit (grown r p) ps)) not_past) ∙ hit)
      ])
]
  where
    both : AllIn all seen → AllIn all (p ∷ ps) → AllIn all (p ∷ seen)
    both s t q m = elim m [ inl is ↦ t q (inl is) | inr in_it ↦ s q in_it ]

    later : ((q t : Piece) → Member seen q → Member (p ∷ ps) t → q.span.low ≤ t.span.low) → (q t : Piece) → Member (p ∷ seen) q → Member ps t → q.span.low ≤ t.span.low
    later b q t m n = elim m [
      | inl is ↦ (let low = o.0 t n in let same = ap low_of is in omega (arith, low, same))
      | inr in_it ↦ b q t in_it (inr n)
    ]

-- and where it finds none there is none
record Apart (limit : ℕ) (a b : Piece) : Type 0 where
  pub differ : (a.by == b.by) ≡ false
  pub a_counts : counts limit a ≡ true
  pub b_counts : counts limit b ≡ true
  pub meets : touches a.span b.span ≡ true

swapped : (limit : ℕ) (a b : Piece) → Apart limit a b → Apart limit b a
swapped limit a b x = record { differ = eq-turned a.by b.by x.differ; a_counts = x.b_counts; b_counts = x.a_counts; meets = turned a.span b.span x.meets }

none-past : (limit : ℕ) (r : Reach) (p a : Piece) (seen : List Piece) → Covers limit r seen → (nat_lt p.span.low (end_of_others r p.by)) ≡ false → Member seen a → Apart limit a p → ⊥
none-past limit r p a seen c within m x =
    let high = c.below a m x.a_counts in
    let past = meets-past a.span p.span x.meets in
    by a.by p.by r.by a.span.high p.span.low r.end r.other x.differ high c.order past within
  where
    by : (a p b high low end other : ℕ) → (a == p) ≡ false → high ≤ cond (a == b) end other → other ≤ end → low < high → (nat_lt low (cond (p == b) other end)) ≡ false → ⊥
    by a p b high low end other differ h order past not_past = elim (true_or_false (p == b)) [
      | inl is ↦ (let no = eq-off a p b differ is in
          let h' = subst (λ t. high ≤ cond t end other) no h in
          let n = not-more low other (sym (ap (λ t. nat_lt low (cond t other end)) is) ∙ not_past) in
          absurd (omega (arith, h', n, past)))
      | inr isnt ↦ (let n = not-more low end (sym (ap (λ t. nat_lt low (cond t other end)) isnt) ∙ not_past) in
          let h' = highest (a == b) h in
          absurd (omega (arith, h', n, past)))
    ]
      where
        eq-off : (x y z : ℕ) → (x == y) ≡ false → (y == z) ≡ true → (x == z) ≡ false
        eq-off x y z u v = grind (arith, nat_tests)

        not-more : (x y : ℕ) → nat_lt x y ≡ false → y ≤ x
        not-more x y u = grind (arith, nat_tests)

        highest : (t : Bool) → high ≤ cond t end other → high ≤ end
        highest true u = u
        highest false u = omega (arith, u, order)

abbrev NoneSeen : ℕ → List Piece → List Piece → Type 0
NoneSeen limit seen ps = (a b : Piece) → Member seen a → Member ps b → Apart limit a b → ⊥

abbrev NoneIn : ℕ → List Piece → Type 0
NoneIn limit ps = (a b : Piece) → Member ps a → Member ps b → Apart limit a b → ⊥

same-apart : (limit : ℕ) (a b p : Piece) → a ≡ p → b ≡ p → Apart limit a b → ⊥
same-apart limit a b p h g x = false≢true (sym x.differ ∙ same a.by b.by (ap (λ (q : Piece). q.by) (h ∙ sym g)))
  where
    same : (n m : ℕ) → n ≡ m → (n == m) ≡ true
    same n m is = grind (arith, nat_tests)

sweep-none : (limit : ℕ) (r : Reach) (seen ps : List Piece) → Covers limit r seen → sweep limit r ps ≡ false → NoneSeen limit seen ps × NoneIn limit ps
unfolding sweep
sweep-none limit r seen [] c h = (λ a b m n. elim n [ ], λ a b m. elim m [ ])
sweep-none limit r seen (p ∷ ps) c h = elim (true_or_false (counts limit p)) [
  | inr out ↦ (let rest = sweep-none limit r (p ∷ seen) ps (covers-skip limit r p seen out c) (sym (ap (λ b. cond b (cond (nat_lt p.span.low (end_of_others r p.by)) true (sweep limit (grown r p) ps)) (sweep limit r ps)) out) ∙ h) in
      with-rest rest (λ a m x. false≢true (sym out ∙ x.b_counts)))
  | inl counted ↦ (let go = sym (ap (λ b. cond b (cond (nat_lt p.span.low (end_of_others r p.by)) true (sweep limit (grown r p) ps)) (sweep limit r ps)) counted) ∙ h in
      let parts = both-false (nat_lt p.span.low (end_of_others r p.by)) (sweep limit (grown r p) ps) go in
      let rest = sweep-none limit (grown r p) (p ∷ seen) ps (covers-grown limit r p seen counted c) parts.1 in
      with-rest rest (λ a m x. none-past limit r p a seen c parts.0 m x))
]
  where
    both-false : (b c : Bool) → cond b true c ≡ false → (b ≡ false) × (c ≡ false)
    both-false true c h = absurd (false≢true (sym h))
    both-false false c h = (refl, h)

    with-rest : NoneSeen limit (p ∷ seen) ps × NoneIn limit ps → ((a : Piece) → Member seen a → Apart limit a p → ⊥) → NoneSeen limit seen (p ∷ ps) × NoneIn limit (p ∷ ps)
    with-rest rest here = (
      λ a b m n x. elim n [
        | inl is ↦ here a m (subst (λ q. Apart limit a q) is x)
        | inr in_it ↦ rest.0 a b (inr m) in_it x
      ],
      λ a b m n x. elim m [
        | inl is ↦ elim n [ inl it ↦ same-apart limit a b p is it x | inr in_it ↦ rest.0 a b (inl is) in_it x ]
        | inr in_a ↦ elim n [ inl it ↦ rest.0 b a (inl it) in_a (swapped limit a b x) | inr in_b ↦ rest.1 a b in_a in_b x ]
      ],
    )

pub sweep-clash : (limit : ℕ) (ps : List Piece) → IsNonDecreasingBy low_of ps → sweep limit start ps ≡ true → Clash ps limit
sweep-clash limit ps o h = sweep-finds limit ps start [] ps (covers-start limit) (λ q m. elim m [ ]) (λ q m. m) (to-order ps o) (λ q p m. elim m [ ]) h

pub sweep-no-clash : (limit : ℕ) (ps : List Piece) → sweep limit start ps ≡ false → Clash ps limit → ⊥
sweep-no-clash limit ps h c =
    (sweep-none limit start [] ps (covers-start limit) h).1 c.one c.two c.one_in c.two_in (record { differ = c.apart; a_counts = c.one_counts; b_counts = c.two_counts; meets = c.meets })

-- a clash up to a place is one up to any later place
counts-later : (limit more : ℕ) (p : Piece) → limit ≤ more → counts limit p ≡ true → counts more p ≡ true
counts-later limit more p low h = by (place_of p) p.span.low p.span.high h
  where
    by : (at l u : ℕ) → (nat_le at limit && nat_lt l u) ≡ true → (nat_le at more && nat_lt l u) ≡ true
    by at l u x = grind (arith, nat_tests)

pub clash-later : (ps : List Piece) (limit more : ℕ) → limit ≤ more → Clash ps limit → Clash ps more
clash-later ps limit more low c = record {
  one = c.one;
  two = c.two;
  one_in = c.one_in;
  two_in = c.two_in;
  apart = c.apart;
  one_counts = counts-later limit more c.one low c.one_counts;
  two_counts = counts-later limit more c.two low c.two_counts;
  meets = c.meets;
}

-- the rest of the pieces from a place on
abbrev pub no_piece : Piece
no_piece = record { span = record { low = 0; high = 0 }; by = 0; instance = 0; at = 0 }

pub sweep-end : (limit : ℕ) (r : Reach) (ps : List Piece) (k : ℕ) → length ps ≤ k → sweep limit r (drop k ps) ≡ false
unfolding sweep
sweep-end limit r ps k past = ap (sweep limit r) (drop_all k ps past)

rest-at : (ps : List Piece) (k : ℕ) → k < length ps → drop k ps ≡ slice_index_or ps k no_piece ∷ drop (k + 1) ps
rest-at ps k within = drop-cons ps k no_piece within ∙ ap (λ n. slice_index_or ps k no_piece ∷ drop n ps) (sym (add-one k))

sweep-step : (limit : ℕ) (r : Reach) (ps : List Piece) (k : ℕ) (b c : Bool) → k < length ps → counts limit (slice_index_or ps k no_piece) ≡ b
    → nat_lt (slice_index_or ps k no_piece).span.low (end_of_others r (slice_index_or ps k no_piece).by) ≡ c
    → sweep limit r (drop k ps) ≡ cond b (cond c true (sweep limit (grown r (slice_index_or ps k no_piece)) (drop (k + 1) ps))) (sweep limit r (drop (k + 1) ps))
unfolding sweep
sweep-step limit r ps k b c within counted past =
    let p = slice_index_or ps k no_piece in
    ap (sweep limit r) (rest-at ps k within)
    ∙ ap (λ t. cond t (cond (nat_lt p.span.low (end_of_others r p.by)) true (sweep limit (grown r p) (drop (k + 1) ps))) (sweep limit r (drop (k + 1) ps))) counted
    ∙ ap (λ t. cond b (cond t true (sweep limit (grown r p) (drop (k + 1) ps))) (sweep limit r (drop (k + 1) ps))) past

pub sweep-out : (limit : ℕ) (r : Reach) (ps : List Piece) (k : ℕ) → k < length ps → counts limit (slice_index_or ps k no_piece) ≡ false
    → sweep limit r (drop (k + 1) ps) ≡ sweep limit r (drop k ps)
sweep-out limit r ps k within out = sym (sweep-step limit r ps k false (nat_lt (slice_index_or ps k no_piece).span.low (end_of_others r (slice_index_or ps k no_piece).by)) within out refl)

pub sweep-hit : (limit : ℕ) (r : Reach) (ps : List Piece) (k : ℕ) → k < length ps → counts limit (slice_index_or ps k no_piece) ≡ true
    → nat_lt (slice_index_or ps k no_piece).span.low (end_of_others r (slice_index_or ps k no_piece).by) ≡ true → sweep limit r (drop k ps) ≡ true
sweep-hit limit r ps k within counted past = sweep-step limit r ps k true true within counted past

pub sweep-on : (limit : ℕ) (r : Reach) (ps : List Piece) (k : ℕ) → k < length ps → counts limit (slice_index_or ps k no_piece) ≡ true
    → nat_lt (slice_index_or ps k no_piece).span.low (end_of_others r (slice_index_or ps k no_piece).by) ≡ false
    → sweep limit (grown r (slice_index_or ps k no_piece)) (drop (k + 1) ps) ≡ sweep limit r (drop k ps)
sweep-on limit r ps k within counted past = sym (sweep-step limit r ps k true false within counted past)

pub ruleset sweeps = (sweep-clash, sweep-no-clash)
