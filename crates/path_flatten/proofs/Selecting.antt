-- What selects of names and calls of select helpers read.
use Rattle.std.proofs.Common.{◌≡◌, ℕ, zero, suc, ◌+◌, ◌-◌, ◌*◌, ◌^◌, ◌<◌, ◌≤◌, max, min, true, false, ◌&&◌, cond, ℤ, pos, negsuc, ◌+ℤ◌, ◌-ℤ◌, ◌≤ℤ◌, ◌<ℤ◌, List, [], ◌∷◌, ◌⊎◌, inl, inr, length, Option, Some, None, replicate, refl, arith, ap, sym, ◌∙◌, subst}
use Rattle.std.specs.Prelude.{nat_lt, int_le, int_lt, slice_index_or}
use Rattle.std.proofs.lemmas.Int.{ints}
use Rattle.std.proofs.lemmas.Bool.Decides.{nat_tests}
use Rattle.b4_core.specs.declared.bit.Bit4.{Bit4}
use Rattle.b4_core.specs.declared.bit.Bit4.TheVariants.{X}
use Rattle.b4_core.specs.Vectors.{known, snum, vec, ext}
use Rattle.row_machine.specs.Valuation.{Valuation}
use Rattle.row_machine.specs.Places.{vector_at}
use Rattle.picks.specs.Windows.{Window, whole, nowhere, part, trimmed, within, picked, bit_at, seen, tabulated, at_least_0}
use Rattle.sv_types.proofs.Picks.{pick, picked-part, tabulated-same, length-tabulated}
use Rattle.v_tree.specs.Names.{Name}
use Rattle.v_tree.specs.Printing.{helper_text}
use Rattle.v_tree.specs.declared.names.Helper.{Helper}
use Rattle.v_tree.specs.declared.expressions.VExpr.{VExpr}
use Rattle.v_tree.specs.declared.expressions.VExtent.TheVariants.{Down}
use Rattle.v_meaning.specs.Scopes.{Scope, Named, named, all_bits}
use Rattle.v_meaning.specs.Selects.{SelMeaning}
use Rattle.v_meaning.specs.Values as T
use Rattle.eval_parts.specs.declared.paths.Window.{Window as Span}
use Rattle.eval_parts.specs.Places.{window_of}
use Rattle.lowering_laws.specs.Helpers.{Slices, from_offset}
use Rattle.lowering_laws.specs.Same.{HasBits}
use Rattle.lowering_laws.specs.Signed.{FitsSigned}
use Rattle.lowering_laws.specs.Terms as terms
use Rattle.lowering_laws.proofs.Assigned.{given-alone}
use Rattle.lowering_laws.proofs.Constants.{bits-alone}
use Rattle.lowering_laws.proofs.Extensions.{ext-at}
use Rattle.lowering_laws.proofs.Paths.{one-window, one-width, no-window, no-width}
use Rattle.lowering_laws.proofs.SignedNumbers.{literal-signed, known-vec, length-vec}
use Rattle.lowering_laws.proofs.Slides.{picked-slide, slide-read}
use Rattle.lowering_laws.proofs.WriteAt.{part-tight}
use Rattle.path_flatten.specs.declared.readings.Root.{Root}
use Rattle.path_flatten.specs.declared.readings.Root.TheVariants as R
use Rattle.path_flatten.specs.declared.readings.Reading.{Reading}
use Rattle.path_flatten.specs.declared.readings.Slice.{Slice}
use Rattle.path_flatten.specs.Helping.{EachHelps, IsSized, Grows}
use Rattle.path_flatten.specs.Reading.{IsVector, StaysIn, slice_of}
use Rattle.path_flatten.specs.Selecting.{slicer, IsSelectCall, CutsName, CutsValue, Cuts, ReadsPartly, ReadsAll}
use Rattle.path_flatten.proofs.Helping.{helped, helps-before}

-- names with selects
vector-bits : (n : Named) → n.words ≡ None → all_bits n ≡ n.width
vector-bits n is = ap (λ (ws : Option ℕ). elim ws [ None ↦ n.width | Some count ↦ count * n.width ]) is

module _ (name : Name) (w : ℕ) (c : List Bit4) (sc : Scope) (v : Valuation) (h : IsVector (named sc.names name) w c v) where
  abbrev kept : Named
  kept = named sc.names name

  pub name-bits : (sels : List SelMeaning) (path : Window) (n : ℕ) → T.width_of kept sels ≡ n → (T.path_of kept sels sc v).window ≡ path → HasBits (T.reference name sels) (seen c path n) sc v
  unfolding T.reference
  name-bits sels path n width window =
      let value : T.value_of kept sels sc v ≡ seen c path n =
      ap (λ k. seen (vector_at v kept.number k) (T.path_of kept sels sc v).window (T.width_of kept sels)) (vector-bits kept h.vector ∙ h.width)
      ∙ (λ i. seen (h.holds i) (window i) (width i)) in
      record { width = width ∙ sym (length-tabulated n _); unsigned = refl; value = λ x s. ap (ext x s) value }

  pub bare-bits : HasBits (T.reference name []) (seen c (whole w) w) sc v
  bare-bits = name-bits [] (whole w) w (no-width kept h.vector ∙ h.width) (no-window kept sc v h.vector ∙ ap whole h.width)

  pub range-bits : (low n : ℕ) → 1 ≤ n → HasBits (T.reference name (T.decimal_base (low + n - 1) (Some (Down low)) ∷ [])) (slice_of c w low n) sc v
  range-bits low n some =
      let s = T.decimal_base (low + n - 1) (Some (Down low)) in
      let size : suc (low + n - 1) - low ≡ n = omega arith in
      name-bits (s ∷ []) (part (pos low) n (whole w)) n (one-width kept s h.vector ∙ size) (one-window kept s sc v h.vector ∙ (λ i. part (pos low) (size i) (whole (h.width i))))

  pub bit-bits : (low : ℕ) → HasBits (T.reference name (T.decimal_base low None ∷ [])) (slice_of c w low 1) sc v
  bit-bits low =
      let s = T.decimal_base low None in
      name-bits (s ∷ []) (part (pos low) 1 (whole w)) 1 (one-width kept s h.vector) (one-window kept s sc v h.vector ∙ ap (λ k. part (pos low) 1 (whole k)) h.width)

-- all bits
pub whole-slice : (c : List Bit4) (w : ℕ) → seen c (whole w) w ≡ slice_of c w 0 w
whole-slice c w = tabulated-same w _ _ (λ j less. ap (bit_at c) (sym (picked-part 0 w (whole w) j less ∙ ap (picked (whole w)) (omega arith))))

pub seen-whole : (c : List Bit4) (w : ℕ) → length c ≡ w → seen c (whole w) w ≡ c
seen-whole c w long = tabulated-same w _ _ (λ j less. at j less) ∙ all c w long
  where
    at : (j : ℕ) → j < w → bit_at c (picked (whole w) j) ≡ slice_index_or c j X
    at j less =
        let same : j + 0 ≡ j = omega arith in
        let test : (int_le (pos 0) (pos (j + 0)) && int_lt (pos (j + 0)) (pos w)) ≡ true = (let few : j + 0 < w = omega arith in grind (arith, nat_tests)) in
        ap (λ b. bit_at c (cond b (Some (j + 0)) None)) test ∙ ap (λ k. slice_index_or c k X) same

    all : (x : List Bit4) (n : ℕ) → length x ≡ n → tabulated n (λ j. slice_index_or x j X) ≡ x
    all [] zero is = refl
    all [] (suc n) is = absurd (omega arith)
    all (b ∷ x) zero is = absurd (omega arith)
    all (b ∷ x) (suc n) is = ap (λ y. b ∷ y) (all x n (omega arith))

pub cut-whole : (name : Name) (w low n : ℕ) → low ≡ 0 → n ≡ w → CutsName name w low n (T.reference name [])
cut-whole name w low n bottom all c sc v h long fits =
    subst (λ x. HasBits (T.reference name []) x sc v) (whole-slice c w ∙ (λ i. slice_of c w (sym bottom i) (sym all i))) (bare-bits name w c sc v h)

pub cut-bit : (name : Name) (w low n : ℕ) → n ≡ 1 → CutsName name w low n (T.reference name (T.decimal_base low None ∷ []))
cut-bit name w low n one c sc v h long fits =
    subst (λ k. HasBits (T.reference name (T.decimal_base low None ∷ [])) (slice_of c w low k) sc v) (sym one) (bit-bits name w c sc v h low)

pub cut-range : (name : Name) (w low n : ℕ) → 1 ≤ n → CutsName name w low n (T.reference name (T.decimal_base (low + n - 1) (Some (Down low)) ∷ []))
cut-range name w low n some c sc v h long fits = range-bits name w c sc v h low n some

-- signed numbers as offsets
bound-width : (w : ℕ) (n : ℤ) (sc : Scope) → (terms.bound w n).width sc ≡ w
unfolding T.signing T.literal
bound-width w n sc = length-vec w n

bound-alone : (w : ℕ) (n : ℤ) (sc : Scope) (v : Valuation) → T.alone (terms.bound w n) sc v ≡ vec w n
unfolding T.signing T.literal
bound-alone w n sc v =
    let c = vec w n in
    ap (ext (length c) true) (ext-at (length c) false c refl) ∙ ext-at (length c) true c refl

pub bound-given : (w : ℕ) (n : ℤ) (sc : Scope) (v : Valuation) → T.given (terms.bound w n) w sc v ≡ vec w n
bound-given w n sc v = given-alone (terms.bound w n) w (vec w n) sc v (bound-width w n sc) (bound-alone w n sc v) (length-vec w n)

pub bound-number : (w : ℕ) (n : ℤ) → FitsSigned w n → cond (known (vec (suc w) n)) (Some (snum (vec (suc w) n))) None ≡ Some n
bound-number w n fits = ap (λ b. cond b (Some (snum (vec (suc w) n))) None) (known-vec (suc w) n) ∙ ap Some (literal-signed w n fits)

-- calls of select helpers
call-bits : (name : Name) (m o : T.Meaning) (n w k : ℕ) (c x : List Bit4) (sc : Scope) (v : Valuation) → Slices n w k (sc.callee name)
    → length c ≡ w → length x ≡ k → T.given m w sc v ≡ c → T.given o k sc v ≡ x → HasBits (T.call name (m ∷ o ∷ [])) (from_offset n w c x) sc v
unfolding T.call
call-bits name m o n w k c x sc v helps whole_long offset_long first second =
    let f = sc.callee name in
    record {
      width = helps.width ∙ sym (length-tabulated n _);
      unsigned = refl;
      value = λ y s.
          ap (λ is. ext y s (f.run v (T.arguments is (m ∷ o ∷ []) sc v))) helps.inputs
          ∙ (λ i. ext y s (f.run v (first i ∷ second i ∷ [])))
          ∙ ap (ext y s) (helps.run v c x whole_long offset_long);
    }

pub given-bits : (m : T.Meaning) (c : List Bit4) (n : ℕ) (sc : Scope) (v : Valuation) → HasBits m c sc v → length c ≡ n → T.given m n sc v ≡ c
given-bits m c n sc v h long = given-alone m n c sc v (h.width ∙ long) (bits-alone m c sc v h) long

pub select-bits : (s : Slice) (m o : T.Meaning) (hs : List Helper) (r : T.Meaning) (c x : List Bit4) (sc : Scope) (v : Valuation) → IsSelectCall s m o hs r
    → EachHelps hs sc → HasBits m c sc v → length c ≡ s.of → 1 ≤ s.of → 1 ≤ s.part → 1 ≤ s.index → T.given o s.index sc v ≡ x → length x ≡ s.index
    → HasBits r (from_offset s.part s.of c x) sc v
select-bits s m o hs r c x sc v call all has long some part_some index_some given offset_long =
    let sized : IsSized (slicer s) = (some, (part_some, index_some)) in
    subst (λ (y : T.Meaning). HasBits y (from_offset s.part s.of c x) sc v) (sym call.is)
    (call-bits (helper_text (slicer s)) m o s.part s.of s.index c x sc v (helped hs sc (slicer s) all (call.there sized)) long offset_long (given-bits m c s.of sc v has long) given)

-- one with a number as its offset
pub select-at : (s : Slice) (m : T.Meaning) (n : ℤ) (p : ℕ) (hs : List Helper) (r : T.Meaning) (c : List Bit4) (sc : Scope) (v : Valuation) → s.index ≡ suc p
    → IsSelectCall s m (terms.bound (suc p) n) hs r → EachHelps hs sc → HasBits m c sc v → length c ≡ s.of → 1 ≤ s.of → 1 ≤ s.part → FitsSigned p n
    → HasBits r (seen c (part n s.part (whole s.of)) s.part) sc v
select-at s m n p hs r c sc v index call all has long some part_some fits =
    let given = ap (λ k. T.given (terms.bound (suc p) n) k sc v) index ∙ bound-given (suc p) n sc v in
    subst (λ x. HasBits r x sc v)
    (ap (λ (z : Option ℤ). seen c (elim z [ None ↦ nowhere | Some k ↦ part k s.part (whole s.of) ]) s.part) (bound-number p n fits))
    (select-bits s m (terms.bound (suc p) n) hs r c (vec (suc p) n) sc v call all has long some part_some (omega arith) given (length-vec (suc p) n ∙ sym index))

-- bits of an expression
pub cut-all : (m : T.Meaning) (w low n : ℕ) (hs : List Helper) → low ≡ 0 → n ≡ w → CutsValue m w low n hs m
cut-all m w low n hs bottom all c sc v has long fits some helps =
    subst (λ x. HasBits m x sc v) (sym (seen-whole c w long) ∙ whole-slice c w ∙ (λ i. slice_of c w (sym bottom i) (sym all i))) has

small-fits : (n : ℕ) → n < 2 ^ 32 → FitsSigned 32 (pos n)
small-fits n few = record { above = omega (arith, ints); below = omega (arith, ints) }

pub cut-call : (s : Slice) (m : T.Meaning) (hs : List Helper) (r : T.Meaning) (w low n : ℕ) → s.of ≡ w → s.part ≡ n → s.index ≡ 33 → low < 2 ^ 32
    → IsSelectCall s m (terms.bound 33 (pos low)) hs r → CutsValue m w low n hs r
cut-call s m hs r w low n of_is part_is index few call c sc v has long fits some helps =
    subst (λ k. HasBits r (slice_of c w low k) sc v) part_is
    (subst (λ k. HasBits r (seen c (part (pos low) s.part (whole k)) s.part) sc v) of_is
    (select-at s m (pos low) 32 hs r c sc v index call helps has (long ∙ sym of_is) (omega arith) (omega arith) (small-fits low few)))

-- x in each bit
all-x : (n : ℕ) → tabulated n (λ j. X) ≡ replicate n X
all-x zero = refl
all-x (suc n) = ap (λ x. X ∷ x) (all-x n)

pub seen-none : (c : List Bit4) (path : Window) (n : ℕ) → ((j : ℕ) → j < n → picked path j ≡ None) → seen c path n ≡ replicate n X
seen-none c path n none = tabulated-same n _ (λ j. X) (λ j less. ap (bit_at c) (none j less)) ∙ all-x n

pub empty-picks : (path : Window) (j : ℕ) → path.high ≤ path.low → picked path j ≡ None
empty-picks path j empty = by (pos j +ℤ path.shift)
  where
    by : (k : ℤ) → pick path.low path.high k ≡ None
    by (pos n) = (let out : (int_le (pos path.low) (pos n) && int_lt (pos n) (pos path.high)) ≡ false = grind (arith, nat_tests) in ap (λ b. cond b (Some n) None) out)
    by (negsuc n) = refl

-- where the bits in range begin above the first bit of a path
record IsAbove (path : Window) (n : ℕ) (below : ℤ) : Type 0 where
  above : pos 0 ≤ℤ below
  few : below <ℤ pos n

is-above : (path : Window) (n : ℕ) → path.low < path.high → StaysIn path n → IsAbove path n (pos path.low -ℤ path.shift)
is-above path n some stays =
    let inside : within path path.low ≡ true = grind (arith, nat_tests) in
    let less = stays.below path.low inside in
    let back = stays.at_it path.low inside in
    let same : pos (at_least_0 (pos path.low -ℤ path.shift)) ≡ pos path.low -ℤ path.shift = turn (pos (at_least_0 (pos path.low -ℤ path.shift))) (pos path.low) path.shift back in
    record { above = at-least (at_least_0 (pos path.low -ℤ path.shift)) _ same; few = at-most (at_least_0 (pos path.low -ℤ path.shift)) _ same less }
  where
    turn : (x y s : ℤ) → x +ℤ s ≡ y → x ≡ y -ℤ s
    turn x y s e = omega (arith, ints)

    at-least : (k : ℕ) (d : ℤ) → pos k ≡ d → pos 0 ≤ℤ d
    at-least k d e = omega (arith, ints)

    at-most : (k : ℕ) (d : ℤ) → pos k ≡ d → k < n → d <ℤ pos n
    at-most k d e less = omega (arith, ints)

-- a window that isn't where its bits in range say so
pub not-partly : (m : T.Meaning) (path : Span) (n : ℕ) (hs : List Helper) (r : T.Meaning) → (((pos path.low -ℤ path.shift) <ℤ pos 0) ⊎ (pos n ≤ℤ (pos path.low -ℤ path.shift))) → ReadsPartly m path n hs r
not-partly m path n hs r (inl low) c w sc v has some inside one few stays helps = (let a = is-above (window_of path) n some stays in let x = a.above in absurd (omega (arith, ints)))
not-partly m path n hs r (inr high) c w sc v has some inside one few stays helps = (let a = is-above (window_of path) n some stays in let x = a.few in absurd (omega (arith, ints)))

-- the bits of a window, by those from its low end up to its high end
partly-bits : (c : List Bit4) (path : Window) (w n : ℕ) (z : ℤ) → path.low < path.high → path.high ≤ w → z ≡ path.shift -ℤ pos path.low
    → seen c path n ≡ seen (slice_of c w path.low (path.high - path.low)) (part z n (whole (path.high - path.low))) n
partly-bits c path w n z some inside is =
    let h = path.high - path.low in
    let p = part (pos path.low) h (whole w) in
    tabulated-same n _ _ (λ j less. ap (bit_at c) (same j less)) ∙ slide-read c p h (part-tight (pos path.low) h (whole w)) z n
  where
    inner : Window
    inner = part (pos path.low) (path.high - path.low) (whole w)

    inner-is : inner ≡ record { shift = pos path.low; low = path.low; high = path.high }
    inner-is =
        let h = path.high - path.low in
        let a : pos 0 +ℤ pos path.low ≡ pos path.low = omega (arith, ints) in
        let b : (pos 0 +ℤ pos path.low) +ℤ pos h ≡ pos (path.low + h) = omega (arith, ints) in
        let low : max 0 path.low ≡ path.low = omega arith in
        let high : min w (path.low + h) ≡ path.high = omega arith in
        let test : nat_lt path.low path.high ≡ true = grind (arith, nat_tests) in
        (λ i. trimmed (record { shift = a i; low = max 0 (at_least_0 (a i)); high = min w (at_least_0 (b i)) }))
        ∙ (λ i. trimmed (record { shift = pos path.low; low = low i; high = high i }))
        ∙ ap (λ t. cond t (record { shift = pos path.low; low = path.low; high = path.high }) nowhere) test

    same : (j : ℕ) → j < n → picked path j ≡ picked (part z n inner) j
    same j less =
        let moved : pos j +ℤ path.shift ≡ pos j +ℤ (pos path.low +ℤ z) = omega (arith, ints) in
        ap (pick path.low path.high) moved ∙ sym (ap (λ (q : Window). pick q.low q.high (pos j +ℤ (q.shift +ℤ z))) inner-is) ∙ sym (picked-slide z n inner j less)

pub partly-call : (s : Slice) (m : T.Meaning) (path : Span) (n : ℕ) (z : ℤ) (hs : List Helper) (r : T.Meaning) → s.of ≡ path.high - path.low → s.part ≡ n → s.index ≡ 33 → z ≡ path.shift -ℤ pos path.low
    → IsSelectCall s m (terms.bound 33 z) hs r → ReadsPartly m path n hs r
partly-call s m path n z hs r of_is part_is index is call c w sc v has some inside one few stays helps =
    let h = path.high - path.low in
    let a = is-above (window_of path) n some stays in
    let x = a.above in
    let y = a.few in
    let fits : FitsSigned 32 z = record { above = omega (arith, ints); below = omega (arith, ints) } in
    let long : length (slice_of c w path.low h) ≡ s.of = length-tabulated h _ ∙ sym of_is in
    subst (λ u. HasBits r u sc v) (sym (partly-bits c (window_of path) w n z some inside is))
    (subst (λ k. HasBits r (seen (slice_of c w path.low h) (part z k (whole h)) k) sc v) part_is
    (subst (λ k. HasBits r (seen (slice_of c w path.low h) (part z s.part (whole k)) s.part) sc v) of_is
    (select-at s m z 32 hs r (slice_of c w path.low h) sc v index call helps has long (omega arith) (omega arith) fits)))

-- a window whose bits are all in range
pub exactly-bits : (c : List Bit4) (path : Window) (w n : ℕ) → path.low < path.high → path.high ≤ w → path.shift ≡ pos path.low → path.high - path.low ≡ n → slice_of c w path.low (path.high - path.low) ≡ seen c path n
exactly-bits c path w n some inside at size =
    ap (λ k. slice_of c w path.low k) size
    ∙ tabulated-same n _ _ (λ j less. ap (bit_at c) (same j less))
  where
    same : (j : ℕ) → j < n → picked (part (pos path.low) n (whole w)) j ≡ picked path j
    same j less =
        let moved : pos j +ℤ path.shift ≡ pos (path.low + j) = (let e = at in omega (arith, ints)) in
        let zero_more : (path.low + j) + 0 ≡ path.low + j = omega arith in
        let here : (int_le (pos path.low) (pos (path.low + j)) && int_lt (pos (path.low + j)) (pos path.high)) ≡ true = (let t : path.low + j < path.high = omega arith in let u : path.low ≤ path.low + j = omega arith in grind (arith, nat_tests)) in
        let there : (int_le (pos 0) (pos (path.low + j)) && int_lt (pos (path.low + j)) (pos w)) ≡ true = (let t : path.low + j < w = omega arith in grind (arith, nat_tests)) in
        picked-part path.low n (whole w) j less ∙ ap (λ k. pick 0 w (pos k)) zero_more ∙ ap (λ b. cond b (Some (path.low + j)) None) there
        ∙ sym (ap (pick path.low path.high) moved ∙ ap (λ b. cond b (Some (path.low + j)) None) here)

-- what a reading stands on
pub cuts-name : (root : Root) (name : Name) (w low n : ℕ) (hs : List Helper) (m : T.Meaning) → root ≡ R.Name name → CutsName name w low n m → Cuts root w low n hs m
cuts-name root name w low n hs m is cuts = subst (λ r. Cuts r w low n hs m) (sym is) (λ c sc v h long fits some helps. cuts c sc v h long fits)

pub cuts-value : (root : Root) (x : VExpr) (w low n : ℕ) (hs : List Helper) (m : T.Meaning) → root ≡ R.Value x → CutsValue (T.meaning x) w low n hs m → Cuts root w low n hs m
cuts-value root x w low n hs m is cuts = subst (λ r. Cuts r w low n hs m) (sym is) cuts

-- all bits of a reading
pub reads-exactly : (r : Reading) (n : ℕ) (hs : List Helper) (m : T.Meaning) → r.window.low < r.window.high → r.window.shift ≡ pos r.window.low → r.window.high - r.window.low ≡ n
    → Cuts r.root r.width r.window.low (r.window.high - r.window.low) hs m → ReadsAll r n hs m
reads-exactly r n hs m some at size cuts c sc v root long inside one few stays helps =
    subst (λ x. HasBits m x sc v) (exactly-bits c (window_of r.window) r.width n some inside at size) (cuts c sc v root long (omega arith) (omega arith) helps)

pub reads-partly : (r : Reading) (n : ℕ) (old hs : List Helper) (there m : T.Meaning) → r.window.low < r.window.high → Grows old hs
    → Cuts r.root r.width r.window.low (r.window.high - r.window.low) old there → ReadsPartly there r.window n hs m → ReadsAll r n hs m
reads-partly r n old hs there m some grows cuts partly c sc v root long inside one few stays helps =
    partly c r.width sc v (cuts c sc v root long (omega arith) (omega arith) (helps-before old hs sc grows helps)) some inside one few stays helps

-- a call by what its offset means
pub call-like : (s : Slice) (m o p : T.Meaning) (hs : List Helper) (r : T.Meaning) → o ≡ p → IsSelectCall s m o hs r → IsSelectCall s m p hs r
call-like s m o p hs r is call = subst (λ y. IsSelectCall s m y hs r) is call
