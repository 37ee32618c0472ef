-- The pieces that processes write, and the breaks of the rule on two writers.
use Rattle.std.proofs.Common.{◌≡◌, inl, inr, ℕ, zero, suc, ◌+◌, ◌*◌, ◌/◌, ◌%◌, ◌-◌, ◌<◌, ◌≤◌, ◌^◌, max, min, Bool, true, false, ◌&&◌, ◌||◌, ◌==◌, not, cond, List, [], ◌∷◌, ◌++◌, map, filter, length, slice_index_or, drop, add-one, Option, Some, None, refl, ap, sym, ◌∙◌, subst, arith}
use Rattle.std.specs.Prelude.{slice_get, nat_le, nat_lt}
use Rattle.std.specs.List.{list_any}
use Rattle.std.specs.List.Sorted.{IsPermutation}
use Rattle.std.proofs.lemmas.List.Sorted.{All-permutation, IsPermutation-sym}
use Rattle.std.proofs.lemmas.Bool.{and_parts, and_from, false≢true, cases_lt, eqb-true, eq-eqb, ltb-true, lt-ltb, leb-true, le-leb}
use Rattle.std.proofs.lemmas.Bool.Decides.{nat_tests}
use Rattle.std.proofs.lemmas.List.{drop_all}
use Rattle.std.proofs.Math.Seq.{drop-cons}
use Rattle.std.proofs.lemmas.Nat.{div-mul-add, div-add-mod'}
use Rattle.row_machine.specs.Valuation.{Member}
use Rattle.row_machine.proofs.Basics.{member_at, true_or_false, any-member, member-any}
use Rattle.row_machine.proofs.Members.{all-member, append-member, member-front, member-back, member-map, map-member, member-filter, filter-member}
use Rattle.bit_sets.specs.declared.span.Span.{Span}
use Rattle.bit_sets.specs.declared.span.Use.{Use}
use Rattle.bit_clashes.specs.declared.Piece.{Piece}
use Rattle.bit_clashes.specs.Clashes.{place_of, ArePlaced, counts, touches, Clash, IsLeastAt, IsLeastClash}
use Rattle.flow_sets.specs.declared.found.Found.{Found}
use Rattle.flow_sets.specs.declared.uses.Write.{Write}
use Rattle.flow_sets.specs.Bits.{position, span_of, use_of, write_of, AllShort}
use Rattle.flow_sets.specs.Flows.{IsFlow}
use Rattle.flow_sets.proofs.Positions.{short-more}
use Rattle.sv_types.specs.declared.design.Design.{Design}
use Rattle.sv_types.specs.declared.design.Process.{Process}
use Rattle.sv_types.specs.Surroundings as S
use Rattle.sv_types.specs.Surroundings.{is_signal}
use Rattle.sv_types.specs.Flows as F
use Rattle.design_breaks.specs.declared.Break.{Break}
use Rattle.design_breaks.specs.Memories.{is_edged, flow, writes_of}
use Rattle.design_breaks.specs.Breaks as B
use Rattle.least_breaks.specs.Least as L
use Rattle.flow_breaks.specs.Pieces.{is_of_signal, piece, pieces, writes_in, pieces_of, pieces_from, break_of, AreFound, second_of, second_breaks}
use Rattle.flow_breaks.proofs.Lists.{member-flat, flat-member, member-if, if-member}

-- a list in another order has the same members
pub permuted : {A : Type 0} (xs ys : List A) (x : A) → IsPermutation xs ys → Member ys x → Member xs x
permuted xs ys x same m = all-member (Member xs) ys (All-permutation (Member xs) xs ys same (λ i d low. member_at xs i d low)) x m

-- a piece of what is found of a process
pub record PieceIn (ps : List Process) (fs : List (Option Found)) (n : ℕ) (x : Piece) : Type 0 where
  pub at : ℕ
  pub process : Process
  pub found : Found
  pub stands : slice_get ps at ≡ Some process
  pub finds : slice_get fs at ≡ Some (Some found)
  pub write : Write
  pub written : Member (writes_in process found) write
  pub of_signal : is_of_signal write ≡ true
  pub is : x ≡ piece (n + at) process.instance write

in-pieces : (by i : ℕ) (ws : List Write) (x : Piece) → Member (pieces by i ws) x → (w : Write) × Member ws w × (is_of_signal w ≡ true) × (x ≡ piece by i w)
in-pieces by i ws x m =
    let a = map-member (piece by i) (filter is_of_signal ws) x m in
    let b = filter-member is_of_signal ws a.0 a.1 in
    (a.0, b.0, b.1, a.2)

piece-at : (ps : List Process) (fs : List (Option Found)) (n : ℕ) (x : Piece) → Member (pieces_from n ps fs) x → PieceIn ps fs n x
unfolding pieces_from
piece-at [] fs n x m = elim m [ ]
piece-at (p ∷ ps) [] n x m = elim m [ ]
piece-at (p ∷ ps) (f ∷ fs) n x m = elim (append-member (pieces_of n p f) (pieces_from (suc n) ps fs) x m) [
  | inl here ↦ own f refl here
  | inr more ↦ (let r = piece-at ps fs (suc n) x more in
      let at : suc n + r.at ≡ n + suc r.at = omega arith in
      record {
        at = suc r.at;
        process = r.process;
        found = r.found;
        stands = r.stands;
        finds = r.finds;
        write = r.write;
        written = r.written;
        of_signal = r.of_signal;
        is = r.is ∙ ap (λ k. piece k r.process.instance r.write) at;
      })
]
  where
    own : (o : Option Found) → f ≡ o → Member (pieces_of n p o) x → PieceIn (p ∷ ps) (f ∷ fs) n x
    own None is here = elim here [ ]
    own (Some g) is here =
        let r = in-pieces n p.instance (writes_in p g) x here in
        let at : n ≡ n + 0 = omega arith in
        record {
          at = 0;
          process = p;
          found = g;
          stands = refl;
          finds = ap Some is;
          write = r.0;
          written = r.1;
          of_signal = r.2;
          is = r.3 ∙ ap (λ k. piece k p.instance r.0) at;
        }

at-piece : (ps : List Process) (fs : List (Option Found)) (n k : ℕ) (p : Process) (f : Found) (w : Write) → slice_get ps k ≡ Some p → slice_get fs k ≡ Some (Some f) → Member (writes_in p f) w → is_of_signal w ≡ true
    → Member (pieces_from n ps fs) (piece (n + k) p.instance w)
unfolding pieces_from
at-piece [] fs n k p f w h g m s = cc
at-piece (q ∷ ps) [] n k p f w h g m s = cc
at-piece (q ∷ ps) (o ∷ fs) n zero p f w h g m s =
    let same : q ≡ p = cc in
    let its : o ≡ Some f = cc in
    let at : n + 0 ≡ n = omega arith in
    let here = member-map (piece n p.instance) (filter is_of_signal (writes_in p f)) w (member-filter is_of_signal (writes_in p f) w m s) in
    member-front (pieces_of n q o) (pieces_from (suc n) ps fs) (piece (n + 0) p.instance w)
    (subst (λ (r : Process). Member (pieces_of n r o) (piece (n + 0) p.instance w)) (sym same)
    (subst (λ (r : Option Found). Member (pieces_of n p r) (piece (n + 0) p.instance w)) (sym its) (subst (λ j. Member (pieces n p.instance (writes_in p f)) (piece j p.instance w)) (sym at) here)))
at-piece (q ∷ ps) (o ∷ fs) n (suc k) p f w h g m s =
    let at : suc n + k ≡ n + suc k = omega arith in
    member-back (pieces_of n q o) (pieces_from (suc n) ps fs) (piece (n + suc k) p.instance w)
    (subst (λ j. Member (pieces_from (suc n) ps fs) (piece j p.instance w)) at (at-piece ps fs (suc n) k p f w h g m s))

-- writes as they are found
pub record FoundWrite (us : List S.Use) (w : Write) : Type 0 where
  pub use_in : S.Use
  pub stands : Member us use_in
  pub short : use_in.high < 2 ^ 32
  pub same : w.of ≡ use_of use_in

short-in : (us : List S.Use) (u : S.Use) → AllShort us → Member us u → u.high < 2 ^ 32
short-in [] u short m = elim m [ ]
short-in (w ∷ us) u short m = elim m [
  | inl is ↦ (let high = (short-more w us short).0 in let same = ap (λ (x : S.Use). x.high) is in omega (arith, high, same))
  | inr more ↦ short-in us u (short-more w us short).1 more
]

uses-member : (ws : List S.Write) (v : S.Write) → Member ws v → Member (F.uses_of ws) v.of
uses-member ws v m = member-map (λ (x : S.Write). x.of) ws v m

module _ (d : Design) (p : Process) (f : Found) (is : IsFlow f (flow d p)) where
  found-write : (w : Write) → Member (writes_in p f) w → FoundWrite (writes_of d p) w
  found-write w m = elim (true_or_false (is_edged p.kind)) [
    | inl edged ↦ subst (λ b. FoundWrite (cond b (F.uses_of (flow d p).later) (F.uses_of (flow d p).writes)) w) (sym edged)
        (of-list (flow d p).later is.later.short (subst (λ ws. Member ws w) is.later.same (subst (λ b. Member (cond b f.later f.writes) w) edged m)))
    | inr comb ↦ subst (λ b. FoundWrite (cond b (F.uses_of (flow d p).later) (F.uses_of (flow d p).writes)) w) (sym comb)
        (of-list (flow d p).writes is.writes.short (subst (λ ws. Member ws w) is.writes.same (subst (λ b. Member (cond b f.later f.writes) w) comb m)))
  ]
    where
      of-list : (ws : List S.Write) → AllShort (F.uses_of ws) → Member (map write_of ws) w → FoundWrite (F.uses_of ws) w
      of-list ws short m' =
          let r = map-member write_of ws w m' in
          let stands = uses-member ws r.0 r.1 in
          record { use_in = r.0.of; stands = stands; short = short-in (F.uses_of ws) r.0.of short stands; same = ap (λ (x : Write). x.of) r.2 }

  write-found : (u : S.Use) → Member (writes_of d p) u → (w : Write) × Member (writes_in p f) w × (w.of ≡ use_of u) × (u.high < 2 ^ 32)
  write-found u m = elim (true_or_false (is_edged p.kind)) [
    | inl edged ↦ (let r = in-list (flow d p).later is.later.short (subst (λ b. Member (cond b (F.uses_of (flow d p).later) (F.uses_of (flow d p).writes)) u) edged m) in
        (r.0, subst (λ b. Member (cond b f.later f.writes) r.0) (sym edged) (subst (λ ws. Member ws r.0) (sym is.later.same) r.1), r.2, r.3))
    | inr comb ↦ (let r = in-list (flow d p).writes is.writes.short (subst (λ b. Member (cond b (F.uses_of (flow d p).later) (F.uses_of (flow d p).writes)) u) comb m) in
        (r.0, subst (λ b. Member (cond b f.later f.writes) r.0) (sym comb) (subst (λ ws. Member ws r.0) (sym is.writes.same) r.1), r.2, r.3))
  ]
    where
      in-list : (ws : List S.Write) → AllShort (F.uses_of ws) → Member (F.uses_of ws) u → (w : Write) × Member (map write_of ws) w × (w.of ≡ use_of u) × (u.high < 2 ^ 32)
      in-list ws short m' =
          let r = map-member (λ (x : S.Write). x.of) ws u m' in
          (write_of r.0, member-map write_of ws r.0 r.1, ap use_of (sym r.2), short-in (F.uses_of ws) u short m')

-- spans of numbers meet where uses of bits do
meet-forth : (u v : S.Use) → u.high < 2 ^ 32 → v.high < 2 ^ 32 → touches (span_of u) (span_of v) ≡ true → u.low < u.high → v.low < v.high → B.meet u v ≡ true
meet-forth u v su sv h pu pv = by u.number v.number u.low u.high v.low v.high su sv pu pv (ltb-true (max (position u.number u.low) (position v.number v.low)) (min (position u.number u.high) (position v.number v.high)) h)
  where
    by : (a b la ha lb hb : ℕ) → ha < 2 ^ 32 → hb < 2 ^ 32 → la < ha → lb < hb → max (a * 2 ^ 32 + la) (b * 2 ^ 32 + lb) < min (a * 2 ^ 32 + ha) (b * 2 ^ 32 + hb) → ((a == b) && nat_lt (max la lb) (min ha hb)) ≡ true
    by a b la ha lb hb sa sb pa pb lt =
        let low : a * 2 ^ 32 < b * 2 ^ 32 + 2 ^ 32 = omega (arith, lt, sa, sb) in
        let high : b * 2 ^ 32 < a * 2 ^ 32 + 2 ^ 32 = omega (arith, lt, sa, sb) in
        let same : a ≡ b = omega (arith, low, high) in
        and_from (a == b) (nat_lt (max la lb) (min ha hb)) (eq-eqb a b same) (lt-ltb (max la lb) (min ha hb) (inner a b same lt))
      where
        inner : (x y : ℕ) → x ≡ y → max (x * 2 ^ 32 + la) (y * 2 ^ 32 + lb) < min (x * 2 ^ 32 + ha) (y * 2 ^ 32 + hb) → max la lb < min ha hb
        inner x y e l = let e' = ap (λ n. n * 2 ^ 32) e in omega (arith, l, e')

meet-back : (u v : S.Use) → B.meet u v ≡ true → touches (span_of u) (span_of v) ≡ true
meet-back u v h = by u.number v.number u.low u.high v.low v.high h
  where
    by : (a b la ha lb hb : ℕ) → ((a == b) && nat_lt (max la lb) (min ha hb)) ≡ true → nat_lt (max (a * 2 ^ 32 + la) (b * 2 ^ 32 + lb)) (min (a * 2 ^ 32 + ha) (b * 2 ^ 32 + hb)) ≡ true
    by a b la ha lb hb x =
        let two = and_parts (a == b) (nat_lt (max la lb) (min ha hb)) x in
        let same = ap (λ n. n * 2 ^ 32) (eqb-true a b two.0) in
        let lt = ltb-true (max la lb) (min ha hb) two.1 in
        lt-ltb (max (a * 2 ^ 32 + la) (b * 2 ^ 32 + lb)) (min (a * 2 ^ 32 + ha) (b * 2 ^ 32 + hb)) (omega (arith, same, lt))

meet-some : (u v : S.Use) → B.meet u v ≡ true → (u.low < u.high) × (v.low < v.high)
meet-some u v h =
    let two = and_parts (u.number == v.number) (nat_lt (max u.low v.low) (min u.high v.high)) h in
    let lt = ltb-true (max u.low v.low) (min u.high v.high) two.1 in
    (omega (arith, lt), omega (arith, lt))

meet-turned : (u v : S.Use) → B.meet u v ≡ true → B.meet v u ≡ true
meet-turned u v h = by u.number v.number u.low u.high v.low v.high h
  where
    by : (a b la ha lb hb : ℕ) → ((a == b) && nat_lt (max la lb) (min ha hb)) ≡ true → ((b == a) && nat_lt (max lb la) (min hb ha)) ≡ true
    by a b la ha lb hb x = grind (arith, nat_tests)

some-in : (u : S.Use) → (span_of u).low < (span_of u).high → u.low < u.high
some-in u h = omega (arith, h)

in-some : (u : S.Use) → u.low < u.high → (span_of u).low < (span_of u).high
in-some u h = omega (arith, h)

signal-in : (u : S.Use) → (span_of u).low < 2 ^ 64 → is_signal u.number ≡ true
signal-in u h = lt-ltb u.number (2 ^ 32) (omega (arith, h))

in-signal : (u : S.Use) → is_signal u.number ≡ true → u.low < u.high → u.high < 2 ^ 32 → (span_of u).low < 2 ^ 64
in-signal u h some short = let n = ltb-true u.number (2 ^ 32) h in omega (arith, n, some, short)

-- places are in the order of instances and tokens
in-order : (i a j b : ℕ) → a < 2 ^ 32 → b < 2 ^ 32 → j * 2 ^ 32 + b ≤ i * 2 ^ 32 + a → B.not_before i a j b ≡ true
in-order i a j b sa sb le = elim (cases_lt j i) [
  | inl lower ↦ first (nat_lt j i) _ (lt-ltb j i lower)
  | inr other ↦ (let same : j ≡ i = omega (arith, le, sa, sb, other) in
      let e = ap (λ n. n * 2 ^ 32) same in
      second (nat_lt j i) (i == j) (nat_le b a) (eq-eqb i j (sym same)) (le-leb b a (omega (arith, le, e))))
]
  where
    first : (s t : Bool) → s ≡ true → (s || t) ≡ true
    first s t h = ap (λ b. b || t) h

    second : (s t r : Bool) → t ≡ true → r ≡ true → (s || (t && r)) ≡ true
    second true t r h g = refl
    second false t r h g = and_from t r h g

order-in : (i a j b : ℕ) → a < 2 ^ 32 → b < 2 ^ 32 → B.not_before i a j b ≡ true → j * 2 ^ 32 + b ≤ i * 2 ^ 32 + a
order-in i a j b sa sb h = elim (true_or_false (nat_lt j i)) [
  | inl lower ↦ (let lt = ltb-true j i lower in omega (arith, lt, sa, sb))
  | inr other ↦ (let rest = sym (ap (λ t. t || ((i == j) && nat_le b a)) other) ∙ h in
      let two = and_parts (i == j) (nat_le b a) rest in
      let same = ap (λ n. n * 2 ^ 32) (eqb-true i j two.0) in
      let le = leb-true b a two.1 in
      omega (arith, same, le))
]

less-place : (i a j b r : ℕ) → a < 2 ^ 32 → b < 2 ^ 32 → j * 2 ^ 32 + b ≤ i * 2 ^ 32 + a → (nat_lt i j || ((i == j) && (nat_lt a b || ((a == b) && nat_lt r r)))) ≡ false
less-place i a j b r sa sb le = elim (true_or_false (nat_lt i j || ((i == j) && (nat_lt a b || ((a == b) && nat_lt r r))))) [
  | inr isnt ↦ isnt
  | inl is_so ↦ absurd (both (nat_lt i j) is_so refl)
]
  where
    both : (s : Bool) → (s || ((i == j) && (nat_lt a b || ((a == b) && nat_lt r r)))) ≡ true → nat_lt i j ≡ s → ⊥
    both true h lower = let lt = ltb-true i j lower in absurd (omega (arith, lt, le, sa, sb))
    both false h other =
        let two = and_parts (i == j) (nat_lt a b || ((a == b) && nat_lt r r)) h in
        let same = ap (λ n. n * 2 ^ 32) (eqb-true i j two.0) in
        let lt = under a b r two.1 in
        absurd (omega (arith, lt, same, le))
      where
        under : (x y z : ℕ) → (nat_lt x y || ((x == y) && nat_lt z z)) ≡ true → x < y
        under x y z e = grind (arith, nat_tests)

eq-off : (n m : ℕ) → (n == m) ≡ false → (m == n) ≡ false
eq-off n m h = grind (arith, nat_tests)

-- all processes but one
but-one : (d : Design) (n k : ℕ) (ps : List Process) (q : Process) → Member (B.other_than d n k ps) q → (m : ℕ) × (slice_get ps m ≡ Some q) × ((n == k + m) ≡ false)
but-one d n k [] q m = elim m [ ]
but-one d n k (p ∷ ps) q m = elim (append-member (B.only_if (not (n == k)) (p ∷ [])) (B.other_than d n (suc k) ps) q m) [
  | inl here ↦ (let r = member-if (not (n == k)) (p ∷ []) q here in
      let at : k + 0 ≡ k = omega arith in
      (0, elim r.1 [ inl is ↦ ap Some (sym is) | inr none ↦ elim none [ ] ], ap (λ j. n == j) at ∙ off (n == k) r.0))
  | inr more ↦ (let r = but-one d n (suc k) ps q more in
      let at : k + suc r.0 ≡ suc k + r.0 = omega arith in
      (suc r.0, r.1, ap (λ j. n == j) at ∙ r.2))
]
  where
    off : (b : Bool) → not b ≡ true → b ≡ false
    off true h = absurd (false≢true h)
    off false h = refl

one-but : (d : Design) (n k j : ℕ) (ps : List Process) (r : Process) → slice_get ps j ≡ Some r → (n == k + j) ≡ false → Member (B.other_than d n k ps) r
one-but d n k j [] r h is = cc
one-but d n k zero (p ∷ ps) r h is =
    let same : r ≡ p = cc in
    let at : k + 0 ≡ k = omega arith in
    let not_it : (n == k) ≡ false = sym (ap (λ m. n == m) at) ∙ is in
    subst (λ b. Member (cond (not b) (p ∷ []) [] ++ B.other_than d n (suc k) ps) r) (sym not_it) (inl same)
one-but d n k (suc j) (p ∷ ps) r h is =
    let at : k + suc j ≡ suc k + j = omega arith in
    member-back (B.only_if (not (n == k)) (p ∷ [])) (B.other_than d n (suc k) ps) r (one-but d n (suc k) j ps r h (sym (ap (λ m. n == m) at) ∙ is))

in-numbers : (d : Design) (k : ℕ) (xs : List Process) (n : ℕ) (x : Process) → slice_get xs n ≡ Some x → Member (B.numbered d k xs) (k + n, x)
in-numbers d k [] n x h = cc
in-numbers d k (y ∷ xs) zero x h =
    let same : x ≡ y = cc in
    let at : k + 0 ≡ k = omega arith in
    inl (λ i. (at i, same i))
in-numbers d k (y ∷ xs) (suc n) x h =
    let at : k + suc n ≡ suc k + n = omega arith in
    inr (subst (λ m. Member (B.numbered d (suc k) xs) (m, x)) (sym at) (in-numbers d (suc k) xs n x h))

of-numbers : (d : Design) (k : ℕ) (xs : List Process) (x : ℕ × Process) → Member (B.numbered d k xs) x → (n : ℕ) × (slice_get xs n ≡ Some x.1) × (x.0 ≡ k + n)
of-numbers d k [] x m = elim m [ ]
of-numbers d k (y ∷ xs) x (inl is) = (0, ap (λ (z : ℕ × Process). Some z.1) (sym is), (let same = ap (λ (z : ℕ × Process). z.0) is in omega (arith, same)))
of-numbers d k (y ∷ xs) x (inr m) = let r = of-numbers d (suc k) xs x m in (suc r.0, r.1, (let same = r.2 in omega (arith, same)))

module _ (d : Design) (fs : List (Option Found)) (are : AreFound d fs) (all : List Piece) (placed : ArePlaced all) (same : IsPermutation (pieces_from 0 d.processes fs) all) where
  -- a write of a process, and its piece
  pub record WriteAt (n : ℕ) (p : Process) (u : S.Use) (x : Piece) : Type 0 where
    pub stands : slice_get d.processes n ≡ Some p
    pub listed : Member (B.all_writes d p) u
    pub there : Member all x
    pub span : x.span ≡ span_of u
    pub short : u.high < 2 ^ 32
    pub by : x.by ≡ n
    pub instance : x.instance ≡ p.instance
    pub token : x.at ≡ u.at

  -- each piece that has a number is a write of a process
  piece-write : (x : Piece) → Member all x → x.span.low < x.span.high → (n : ℕ) × (p : Process) × (u : S.Use) × WriteAt n p u x
  piece-write x m some =
      let r = piece-at d.processes fs 0 x (permuted (pieces_from 0 d.processes fs) all x same m) in
      let found = are.each r.at r.process (Some r.found) r.stands r.finds in
      let w = found-write d r.process r.found found.1 r.write r.written in
      let at : 0 + r.at ≡ r.at = omega arith in
      let span = ap (λ (y : Piece). y.span) r.is ∙ ap (λ (y : Use). y.span) w.same in
      let low = ltb-true r.write.of.span.low (2 ^ 64) r.of_signal in
      let span' = ap (λ (y : Use). y.span.low) w.same in
      let signal = signal-in w.use_in (omega (arith, low, span')) in (
        r.at,
        r.process,
        w.use_in,
        record {
          stands = r.stands;
          listed = if-member (B.unrolls d r.process.body) (filter (λ (u : S.Use). is_signal u.number) (writes_of d r.process)) w.use_in found.0
              (member-filter (λ (u : S.Use). is_signal u.number) (writes_of d r.process) w.use_in w.stands signal);
          there = m;
          span = span;
          short = w.short;
          by = ap (λ (y : Piece). y.by) r.is ∙ at;
          instance = ap (λ (y : Piece). y.instance) r.is;
          token = ap (λ (y : Piece). y.at) r.is ∙ ap (λ (y : Use). y.at) w.same;
        },
      )

  -- and each write that has a bit has its piece
  write-piece : (n : ℕ) (p : Process) (u : S.Use) → slice_get d.processes n ≡ Some p → Member (B.all_writes d p) u → u.low < u.high → (x : Piece) × WriteAt n p u x
  write-piece n p u stands m some =
      let two = member-if (B.unrolls d p.body) (filter (λ (v : S.Use). is_signal v.number) (writes_of d p)) u m in
      let kept = filter-member (λ (v : S.Use). is_signal v.number) (writes_of d p) u two.1 in
      by (slice_get fs n) refl two.0 kept.0 kept.1
    where
      by : (o : Option (Option Found)) → slice_get fs n ≡ o → B.unrolls d p.body ≡ true → Member (writes_of d p) u → is_signal u.number ≡ true → (x : Piece) × WriteAt n p u x
      by None is can w signal = absurd (within fs d.processes n are.count is stands)
        where
          within : (xs : List (Option Found)) (ps : List Process) (k : ℕ) → length xs ≡ length ps → slice_get xs k ≡ None → slice_get ps k ≡ Some p → ⊥
          within [] [] k e h g = cc
          within [] (q ∷ ps) k e h g = absurd (omega (arith, e))
          within (x ∷ xs) [] k e h g = cc
          within (x ∷ xs) (q ∷ ps) zero e h g = cc
          within (x ∷ xs) (q ∷ ps) (suc k) e h g = within xs ps k (omega (arith, e)) h g
      by (Some None) is can w signal = absurd (false≢true (sym (are.each n p None stands is) ∙ can))
      by (Some (Some f)) is can w signal =
          let found = are.each n p (Some f) stands is in
          let r = write-found d p f found.1 u w in
          let low = in-signal u signal some r.3 in
          let same_low = ap (λ (y : Use). y.span.low) r.2 in
          let of_signal = lt-ltb r.0.of.span.low (2 ^ 64) (omega (arith, low, same_low)) in
          let at : 0 + n ≡ n = omega arith in
          let x = piece (0 + n) p.instance r.0 in (
            x,
            record {
              stands = stands;
              listed = m;
              there = permuted all (pieces_from 0 d.processes fs) x (IsPermutation-sym (pieces_from 0 d.processes fs) all same) (at-piece d.processes fs 0 n p f r.0 stands is r.1 of_signal);
              span = ap (λ (y : Use). y.span) r.2;
              short = r.3;
              by = at;
              instance = refl;
              token = ap (λ (y : Use). y.at) r.2;
            },
          )

  -- a write at whose token or before which another process writes one of its bits
  pub record Second (b : Break) : Type 0 where
    pub number : ℕ
    pub process : Process
    pub use_of : S.Use
    pub stands : slice_get d.processes number ≡ Some process
    pub listed : Member (B.all_writes d process) use_of
    pub other_number : ℕ
    pub other : Process
    pub other_use : S.Use
    pub other_stands : slice_get d.processes other_number ≡ Some other
    pub apart : (number == other_number) ≡ false
    pub other_listed : Member (B.all_writes d other) other_use
    pub meets : B.meet other_use use_of ≡ true
    pub late : B.not_before process.instance use_of.at other.instance other_use.at ≡ true
    pub is : b ≡ record { instance = process.instance; at = use_of.at; rule = 601 }

  listed-second : (b : Break) → Member (second_breaks d) b → Second b
  listed-second b m =
      let r = member-flat (second_of d) (B.numbered d 0 d.processes) b m in
      let n = of-numbers d 0 d.processes r.0 r.1 in
      let a = map-member (λ at. record { instance = r.0.1.instance; at = at; rule = 601 }) (B.written_twice d r.0.0 r.0.1) b r.2 in
      let w = map-member (λ (u : S.Use). u.at) (filter (λ u. list_any (B.is_second d r.0.1 u) (B.other_than d r.0.0 0 d.processes)) (B.all_writes d r.0.1)) a.0 a.1 in
      let f = filter-member (λ u. list_any (B.is_second d r.0.1 u) (B.other_than d r.0.0 0 d.processes)) (B.all_writes d r.0.1) w.0 w.1 in
      let q = any-member (B.is_second d r.0.1 w.0) (B.other_than d r.0.0 0 d.processes) f.1 in
      let o = but-one d r.0.0 0 d.processes q.0 q.1 in
      let u = any-member (λ (v : S.Use). B.meet v w.0 && B.not_before r.0.1.instance w.0.at q.0.instance v.at) (B.all_writes d q.0) q.2 in
      let two = and_parts (B.meet u.0 w.0) (B.not_before r.0.1.instance w.0.at q.0.instance u.0.at) u.2 in
      let at : 0 + o.0 ≡ o.0 = omega arith in
      let own : r.0.0 ≡ n.0 = (let e = n.2 in omega (arith, e)) in
      record {
        number = n.0;
        process = r.0.1;
        use_of = w.0;
        stands = n.1;
        listed = f.0;
        other_number = o.0;
        other = q.0;
        other_use = u.0;
        other_stands = o.1;
        apart = ap (λ k. k == o.0) (sym own) ∙ ap (λ k. r.0.0 == k) (sym at) ∙ o.2;
        other_listed = u.1;
        meets = two.0;
        late = two.1;
        is = a.2 ∙ ap (λ t. record { instance = r.0.1.instance; at = t; rule = 601 }) w.2;
      }

  second-listed : (b : Break) → Second b → Member (second_breaks d) b
  second-listed b s =
      let at : 0 + s.other_number ≡ s.other_number = omega arith in
      let own : 0 + s.number ≡ s.number = omega arith in
      let is_late = member-any (λ (v : S.Use). B.meet v s.use_of && B.not_before s.process.instance s.use_of.at s.other.instance v.at) (B.all_writes d s.other) s.other_use s.other_listed
      (and_from (B.meet s.other_use s.use_of) (B.not_before s.process.instance s.use_of.at s.other.instance s.other_use.at) s.meets s.late) in
      let some = member-any (B.is_second d s.process s.use_of) (B.other_than d s.number 0 d.processes) s.other (one-but d s.number 0 s.other_number d.processes s.other s.other_stands (ap (λ k. s.number == k) at ∙ s.apart)) is_late in
      let test = λ (u : S.Use). list_any (B.is_second d s.process u) (B.other_than d s.number 0 d.processes) in
      let token = member-map (λ (u : S.Use). u.at) (filter test (B.all_writes d s.process)) s.use_of (member-filter test (B.all_writes d s.process) s.use_of s.listed some) in
      let here = member-map (λ t. record { instance = s.process.instance; at = t; rule = 601 }) (B.written_twice d s.number s.process) s.use_of.at token in
      flat-member (second_of d) (B.numbered d 0 d.processes) (s.number, s.process) b
      (subst (λ k. Member (B.numbered d 0 d.processes) (k, s.process)) own (in-numbers d 0 d.processes s.number s.process s.stands))
      (subst (Member (second_of d (s.number, s.process))) (sym s.is) here)

  counts-some : (limit : ℕ) (x : Piece) → counts limit x ≡ true → (place_of x ≤ limit) × (x.span.low < x.span.high)
  counts-some limit x h =
      let two = and_parts (nat_le (place_of x) limit) (nat_lt x.span.low x.span.high) h in
      (leb-true (place_of x) limit two.0, ltb-true x.span.low x.span.high two.1)

  -- of two pieces that clash the later one is a second write
  later-second : (x y : Piece) → Member all x → Member all y → (x.by == y.by) ≡ false → x.span.low < x.span.high → y.span.low < y.span.high → touches x.span y.span ≡ true → place_of y ≤ place_of x
      → Second (record { instance = x.instance; at = x.at; rule = 601 })
  later-second x y mx my apart sx sy meets order =
      let a = piece-write x mx sx in
      let b = piece-write y my sy in
      let wa = a.3 in
      let wb = b.3 in
      let pa = some-in a.2 (let e = ap (λ (s : Span). s.low) wa.span in let g = ap (λ (s : Span). s.high) wa.span in omega (arith, sx, e, g)) in
      let pb = some-in b.2 (let e = ap (λ (s : Span). s.low) wb.span in let g = ap (λ (s : Span). s.high) wb.span in omega (arith, sy, e, g)) in
      let m = meet-forth a.2 b.2 wa.short wb.short (sym (ap (λ s. touches s (span_of b.2)) wa.span) ∙ sym (ap (λ s. touches x.span s) wb.span) ∙ meets) pa pb in
      record {
        number = a.0;
        process = a.1;
        use_of = a.2;
        stands = wa.stands;
        listed = wa.listed;
        other_number = b.0;
        other = b.1;
        other_use = b.2;
        other_stands = wb.stands;
        apart = sym (ap (λ k. k == b.0) wa.by) ∙ sym (ap (λ k. x.by == k) wb.by) ∙ apart;
        other_listed = wb.listed;
        meets = meet-turned a.2 b.2 m;
        late = subst (λ i. B.not_before i a.2.at b.1.instance b.2.at ≡ true) wa.instance
            (subst (λ t. B.not_before x.instance t b.1.instance b.2.at ≡ true) wa.token
            (subst (λ i. B.not_before x.instance x.at i b.2.at ≡ true) wb.instance
            (subst (λ t. B.not_before x.instance x.at y.instance t ≡ true) wb.token (in-order x.instance x.at y.instance y.at (placed x mx).1 (placed y my).1 order))));
        is = λ i. record { instance = wa.instance i; at = wa.token i; rule = 601 };
      }

  touches-turned : (a b : Span) → touches a b ≡ true → touches b a ≡ true
  touches-turned a b h = by a.low a.high b.low b.high h
    where
      by : (la ha lb hb : ℕ) → nat_lt (max la lb) (min ha hb) ≡ true → nat_lt (max lb la) (min hb ha) ≡ true
      by la ha lb hb x = grind (arith, nat_tests)

  counts-at : (x : Piece) (limit : ℕ) → place_of x ≤ limit → x.span.low < x.span.high → counts limit x ≡ true
  counts-at x limit le some = and_from (nat_le (place_of x) limit) (nat_lt x.span.low x.span.high) (le-leb (place_of x) limit le) (lt-ltb x.span.low x.span.high some)

  abbrev at_token : ℕ → ℕ → Break
  at_token i a = record { instance = i; at = a; rule = 601 }

  at-place : (x : Piece) (n : ℕ) → Member all x → place_of x ≡ n → at_token x.instance x.at ≡ at_token (n / 2 ^ 32) (n % 2 ^ 32)
  at-place x n m is =
      let small = (placed x m).1 in
      let i : n / 2 ^ 32 ≡ x.instance = ap (λ k. k / 2 ^ 32) (sym is) ∙ div-mul-add x.instance (2 ^ 32) x.at small in
      let parts = div-add-mod' n (2 ^ 32) in
      let t : n % 2 ^ 32 ≡ x.at = omega (arith, parts, i, is) in
      λ j. at_token (sym i j) (sym t j)

  found-second : (n : ℕ) → IsLeastAt all n → Second (record { instance = n / 2 ^ 32; at = n % 2 ^ 32; rule = 601 })
  found-second n h =
      let c = h.clashes in
      let one = counts-some n c.one c.one_counts in
      let two = counts-some n c.two c.two_counts in
      elim (cases_lt (place_of c.one) (place_of c.two)) [
        | inl lt ↦ (let at = top (place_of c.two) two.0 (λ less. h.least (place_of c.two) less (record {
          one = c.one;
          two = c.two;
          one_in = c.one_in;
          two_in = c.two_in;
          apart = c.apart;
          one_counts = counts-at c.one (place_of c.two) (omega (arith, lt)) one.1;
          two_counts = counts-at c.two (place_of c.two) (omega arith) two.1;
          meets = c.meets;
        })) in
            subst Second (at-place c.two n c.two_in at) (later-second c.two c.one c.two_in c.one_in (eq-off c.one.by c.two.by c.apart) two.1 one.1 (touches-turned c.one.span c.two.span c.meets) (omega (arith, lt))))
        | inr ge ↦ (let at = top (place_of c.one) one.0 (λ less. h.least (place_of c.one) less (record {
          one = c.one;
          two = c.two;
          one_in = c.one_in;
          two_in = c.two_in;
          apart = c.apart;
          one_counts = counts-at c.one (place_of c.one) (omega arith) one.1;
          two_counts = counts-at c.two (place_of c.one) ge two.1;
          meets = c.meets;
        })) in
            subst Second (at-place c.one n c.one_in at) (later-second c.one c.two c.one_in c.two_in c.apart one.1 two.1 c.meets ge))
      ]
    where
      top : (k : ℕ) → k ≤ n → (k < n → ⊥) → k ≡ n
      top k le never = elim (cases_lt k n) [ inl lt ↦ absurd (never lt) | inr ge ↦ omega (arith, le, ge) ]

  -- and each second write is one of two pieces that clash
  pub record ClashAt (b : Break) : Type 0 where
    pub place : ℕ
    pub clash : Clash all place
    pub piece_of : Piece
    pub there : Member all piece_of
    pub its : place_of piece_of ≡ place
    pub is : b ≡ record { instance = piece_of.instance; at = piece_of.at; rule = 601 }

  second-clash : (b : Break) → Second b → ClashAt b
  second-clash b s =
      let some = meet-some s.other_use s.use_of s.meets in
      let a = write-piece s.number s.process s.use_of s.stands s.listed some.1 in
      let o = write-piece s.other_number s.other s.other_use s.other_stands s.other_listed some.0 in
      let x = a.0 in
      let y = o.0 in
      let wa = a.1 in
      let wo = o.1 in
      let order = order-in x.instance x.at y.instance y.at (placed x wa.there).1 (placed y wo.there).1
      (subst (λ i. B.not_before i x.at y.instance y.at ≡ true) (sym wa.instance)
      (subst (λ t. B.not_before s.process.instance t y.instance y.at ≡ true) (sym wa.token)
      (subst (λ i. B.not_before s.process.instance s.use_of.at i y.at ≡ true) (sym wo.instance)
      (subst (λ t. B.not_before s.process.instance s.use_of.at s.other.instance t ≡ true) (sym wo.token) s.late)))) in
      record {
        place = place_of x;
        clash = record {
          one = x;
          two = y;
          one_in = wa.there;
          two_in = wo.there;
          apart = ap (λ k. k == y.by) wa.by ∙ ap (λ k. s.number == k) wo.by ∙ s.apart;
          one_counts = counts-at x (place_of x) (omega arith) (subst (λ (t : Span). t.low < t.high) (sym wa.span) (in-some s.use_of some.1));
          two_counts = counts-at y (place_of x) order (subst (λ (t : Span). t.low < t.high) (sym wo.span) (in-some s.other_use some.0));
          meets = ap (λ t. touches t y.span) wa.span ∙ ap (λ t. touches (span_of s.use_of) t) wo.span ∙ meet-back s.use_of s.other_use (meet-turned s.other_use s.use_of s.meets);
        };
        piece_of = x;
        there = wa.there;
        its = refl;
        is = s.is ∙ (λ i. record { instance = sym wa.instance i; at = sym wa.token i; rule = 601 });
      }

  pub least-second : (r : Option ℕ) → IsLeastClash all r → L.IsLeast (second_breaks d) (break_of r)
  least-second None h = λ b m.
      let c = second-clash b (listed-second b m) in
      h (grown c.place (2 ^ 64 - 1) (let i = (placed c.piece_of c.there).0 in let t = (placed c.piece_of c.there).1 in let e = c.its in omega (arith, i, t, e)) c.clash)
    where
      grown : (limit more : ℕ) → limit ≤ more → Clash all limit → Clash all more
      grown limit more le c = record {
        one = c.one;
        two = c.two;
        one_in = c.one_in;
        two_in = c.two_in;
        apart = c.apart;
        one_counts = (let s = counts-some limit c.one c.one_counts in counts-at c.one more (let low = s.0 in omega (arith, low, le)) s.1);
        two_counts = (let s = counts-some limit c.two c.two_counts in counts-at c.two more (let low = s.0 in omega (arith, low, le)) s.1);
        meets = c.meets;
      }
  least-second (Some n) h = record {
    there = second-listed (record { instance = n / 2 ^ 32; at = n % 2 ^ 32; rule = 601 }) (found-second n h);
    least = λ b m.
        let c = second-clash b (listed-second b m) in
        let le = not-before n c.place (λ less. h.least c.place less c.clash) in
        subst (λ (x : Break). B.is_less x (record { instance = n / 2 ^ 32; at = n % 2 ^ 32; rule = 601 }) ≡ false) (sym c.is)
        (less-place c.piece_of.instance c.piece_of.at (n / 2 ^ 32) (n % 2 ^ 32) 601 (placed c.piece_of c.there).1 (omega arith) (let e = c.its in omega (arith, le, e)));
  }
    where
      not-before : (a b : ℕ) → (b < a → ⊥) → a ≤ b
      not-before a b never = elim (cases_lt b a) [ inl lt ↦ absurd (never lt) | inr ge ↦ ge ]

-- by what is found of processes, whatever design they are
pub twice-law : (ps : List Process) (fs : List (Option Found)) (all : List Piece) (r : Option ℕ) → IsPermutation (pieces_from 0 ps fs) all → ArePlaced all → IsLeastClash all r
    → (d : Design) → ps ≡ d.processes → AreFound d fs → L.IsLeast (second_breaks d) (break_of r)
twice-law ps fs all r same placed h d is are = least-second d fs are all placed (subst (λ qs. IsPermutation (pieces_from 0 qs fs) all) is same) r h

-- the pieces of processes from a place on
pub pieces-step : (ps : List Process) (fs : List (Option Found)) (k : ℕ) (p : Process) (f : Option Found) → k < length ps → length fs ≡ length ps → p ≡ slice_index_or ps k p → f ≡ slice_index_or fs k f
    → pieces_of k p f ++ pieces_from (k + 1) (drop (k + 1) ps) (drop (k + 1) fs) ≡ pieces_from k (drop k ps) (drop k fs)
unfolding pieces_from
pieces-step ps fs k p f within long is it =
    let of_ps : drop k ps ≡ p ∷ drop (suc k) ps = drop-cons ps k p within ∙ ap (λ (q : Process). q ∷ drop (suc k) ps) (sym is) in
    let of_fs : drop k fs ≡ f ∷ drop (suc k) fs = drop-cons fs k f (omega (arith, within, long)) ∙ ap (λ (q : Option Found). q ∷ drop (suc k) fs) (sym it) in
    ap (λ n. pieces_of k p f ++ pieces_from n (drop n ps) (drop n fs)) (add-one k) ∙ sym (λ i. pieces_from k (of_ps i) (of_fs i))

pub pieces-end : (ps : List Process) (fs : List (Option Found)) (k : ℕ) (xs : List Piece) → length ps ≤ k → xs ++ pieces_from k (drop k ps) (drop k fs) ≡ xs
unfolding pieces_from
pieces-end ps fs k xs past = ap (λ qs. xs ++ pieces_from k qs (drop k fs)) (drop_all k ps past) ∙ none xs
  where
    none : (ys : List Piece) → ys ++ [] ≡ ys
    none [] = refl
    none (y ∷ ys) = ap (λ zs. y ∷ zs) (none ys)
