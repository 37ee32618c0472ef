-- Names with selects that read the bits of a path.
use Rattle.std.proofs.Common.{◌≡◌, ℕ, suc, ◌+◌, ◌-◌, ◌<◌, ◌≤◌, Bool, true, false, cond, ℤ, pos, negsuc, ◌+ℤ◌, length, List, [], ◌∷◌, Option, Some, None, refl, arith, sym, ◌∙◌, ap, true≢false}
use Rattle.std.specs.Prelude.{nat_lt}
use Rattle.std.proofs.lemmas.Int.{ints}
use Rattle.std.proofs.lemmas.Bool.Decides.{nat_tests}
use Rattle.b4_core.specs.Vectors.{known, num, number}
use Rattle.row_machine.specs.Valuation.{Valuation}
use Rattle.picks.specs.Windows.{Window, whole, nowhere, part, picked}
use Rattle.sv_types.specs.Surroundings.{Around}
use Rattle.sv_types.specs.Meanings as S
use Rattle.sv_types.proofs.OperatorLengths.{length-ext}
use Rattle.sv_types.proofs.Picks.{pick, picked-part, nothing-there}
use Rattle.v_tree.specs.Names.{Name}
use Rattle.v_meaning.specs.Scopes.{Scope, Named, named}
use Rattle.v_meaning.specs.Selects.{SelMeaning}
use Rattle.v_meaning.specs.Values as T
use Rattle.v_meaning.specs.Values.{decimal_base, expression_base, number_of}
use Rattle.lowering_laws.specs.Images.{IsImage, IsSlide, Names, NamesNone}
use Rattle.lowering_laws.specs.Placed.{holds, IsPlaced, IsSure}
use Rattle.lowering_laws.specs.Reached.{IsRead}
use Rattle.lowering_laws.specs.Terms.{slide, bit_at_offset, range, bit_at_number}
use Rattle.lowering_laws.proofs.Slides.{picked-slide, far}
use Rattle.lowering_laws.proofs.WriteAt.{IsTight, whole-tight}
use Rattle.lowering_laws.proofs.Paths.{one-window, one-width, no-window, no-width, reference-alone}

-- A name with selects that names the bits of the path where the guard holds.
pub record NamesSame (e : S.Meaning) (a : Around) (g : Option T.Meaning) (name : Name) (sels : List SelMeaning) (sc : Scope) (v : Valuation) : Type 0 where
  pub width : T.width_of (named sc.names name) sels ≡ S.wide e
  pub yes : holds g sc v ≡ true → (j : ℕ) → j < S.wide e → picked (e.window a) j ≡ picked (T.path_of (named sc.names name) sels sc v).window j
  pub no : holds g sc v ≡ false → NamesNone e a

reference-width : (name : Name) (sels : List SelMeaning) (sc : Scope) → (T.reference name sels).width sc ≡ T.width_of (named sc.names name) sels
unfolding T.reference
reference-width name sels sc = refl

reference-unsigned : (name : Name) (sels : List SelMeaning) → (T.reference name sels).signed ≡ false
unfolding T.reference
reference-unsigned name sels = refl

reference-long : (name : Name) (sels : List SelMeaning) (sc : Scope) (v : Valuation) → length (T.alone (T.reference name sels) sc v) ≡ T.width_of (named sc.names name) sels
unfolding T.reference
reference-long name sels sc v = length-ext _ false _

-- reads them
pub names-read : (e : S.Meaning) (a : Around) (g : Option T.Meaning) (name : Name) (sels : List SelMeaning) (sc : Scope) (v : Valuation)
    → IsImage e a (named sc.names name) v → NamesSame e a g name sels sc v → IsRead e a g (T.reference name sels) sc v
names-read e a g name sels sc v image same = record {
  width = reference-width name sels sc ∙ same.width;
  unsigned = reference-unsigned name sels;
  long = reference-long name sels sc v ∙ same.width;
  yes = λ h. (reference-alone e a name sels sc v (record { image = image; width = same.width; bits = same.yes h })).1;
  no = same.no;
}

-- An offset in the image.
module _ (e : S.Meaning) (a : Around) (g : Option T.Meaning) (o : T.Meaning) (w : ℕ) (name : Name) (sc : Scope) (v : Valuation)
    (vector : (named sc.names name).words ≡ None) (placed : IsPlaced e a g o w (named sc.names name).width sc v) where
  abbrev n : ℕ
  n = S.wide e

  abbrev held : Named
  held = named sc.names name

  -- the window of a base with this number
  base-known : known (T.alone o sc v) ≡ true → number_of o.signed (T.alone o sc v) ≡ Some (pos (num (T.alone o sc v)))
  base-known h =
      ap (λ b. number_of b (T.alone o sc v)) placed.unsigned ∙ ap (λ b. cond b (Some (number false (T.alone o sc v))) None) h

  base-unknown : known (T.alone o sc v) ≡ false → number_of o.signed (T.alone o sc v) ≡ None
  base-unknown h = ap (λ b. cond b (Some (number o.signed (T.alone o sc v))) None) h

  pub window-by : (base : Option ℤ) → number_of o.signed (T.alone o sc v) ≡ base
      → (T.path_of held (slide o n ∷ []) sc v).window ≡ elim base [ None ↦ nowhere | Some k ↦ part k n (whole held.width) ]
  window-by base is =
      one-window held (slide o n) sc v vector
      ∙ ap (λ (b : Option ℤ). elim b [ None ↦ nowhere | Some k ↦ part k n (whole held.width) ]) is

  -- where the guard holds, the same bits are named
  bits-by : holds g sc v ≡ true → (k : Bool) → known (T.alone o sc v) ≡ k → (j : ℕ) → j < n
      → picked (e.window a) j ≡ picked (T.path_of held (slide o n ∷ []) sc v).window j
  bits-by yes_holds true is j h =
      let names = placed.yes yes_holds is in
      names.0 j h ∙ sym (picked-part (num (T.alone o sc v)) n (whole held.width) j h)
      ∙ ap (λ x. picked x j) (sym (window-by (Some (pos (num (T.alone o sc v)))) (base-known is)))
  bits-by yes_holds false is j h =
      placed.lost yes_holds is j h ∙ sym (nothing-there (pos j +ℤ pos 0)) ∙ ap (λ x. picked x j) (sym (window-by None (base-unknown is)))

  pub offset-names : NamesSame e a g name (slide o n ∷ []) sc v
  offset-names = record {
    width = one-width held (slide o n) vector;
    yes = λ h. bits-by h (known (T.alone o sc v)) refl;
    no = placed.no;
  }

  -- one bit
  bit-window : n ≡ 1 → (T.path_of held (slide o n ∷ []) sc v).window ≡ (T.path_of held (bit_at_offset o ∷ []) sc v).window
  bit-window one =
      one-window held (slide o n) sc v vector
      ∙ ap (λ k. elim (number_of o.signed (T.alone o sc v)) [ None ↦ nowhere | Some z ↦ part z k (whole held.width) ]) one
      ∙ sym (one-window held (bit_at_offset o) sc v vector)

  pub bit-names : n ≡ 1 → NamesSame e a g name (bit_at_offset o ∷ []) sc v
  bit-names one = record {
    width = one-width held (bit_at_offset o) vector ∙ sym one;
    yes = λ h j less. bits-by h (known (T.alone o sc v)) refl j less ∙ ap (λ x. picked x j) (bit-window one);
    no = placed.no;
  }

  -- all of an image that has no more bits, once the offset is known where the guard holds
  pub all-names : n ≡ held.width → IsSure g o sc v → NamesSame e a g name [] sc v
  all-names all sure = record {
    width = no-width held vector ∙ sym all;
    yes = λ h j less.
        let there = placed.yes h (sure h) in
        let fits = there.1 in
        let same : num (T.alone o sc v) + j ≡ j = omega arith in
        there.0 j less ∙ ap (picked (whole held.width)) same ∙ sym (ap (λ x. picked x j) (no-window held sc v vector));
    no = placed.no;
  }

-- A known place.
module _ (e : S.Meaning) (a : Around) (low : ℕ) (name : Name) (sc : Scope) (v : Valuation)
    (vector : (named sc.names name).words ≡ None) (names : Names e a low (named sc.names name).width) where
  abbrev kept : Named
  kept = named sc.names name

  never : holds None sc v ≡ false → NamesNone e a
  never h = absurd (true≢false h)

  -- all of the image
  pub whole-names : low ≡ 0 → S.wide e ≡ kept.width → NamesSame e a None name [] sc v
  whole-names from all = record {
    width = no-width kept vector ∙ sym all;
    yes = λ h j less. (let same : low + j ≡ j = omega arith in names j less ∙ ap (picked (whole kept.width)) same) ∙ sym (ap (λ x. picked x j) (no-window kept sc v vector));
    no = never;
  }

  -- `[left:right]`
  range-taken : 1 ≤ S.wide e → suc (low + S.wide e - 1) - low ≡ S.wide e
  range-taken some = omega arith

  range-window : 1 ≤ S.wide e → (T.path_of kept (range low (S.wide e) ∷ []) sc v).window ≡ part (pos low) (S.wide e) (whole kept.width)
  range-window some =
      one-window kept (range low (S.wide e)) sc v vector ∙ ap (λ k. part (pos low) k (whole kept.width)) (range-taken some)

  pub range-names : 1 ≤ S.wide e → NamesSame e a None name (range low (S.wide e) ∷ []) sc v
  range-names some = record {
    width = one-width kept (range low (S.wide e)) vector ∙ range-taken some;
    yes = λ h j less.
        names j less ∙ sym (picked-part low (S.wide e) (whole kept.width) j less) ∙ ap (λ x. picked x j) (sym (range-window some));
    no = never;
  }

  -- `[low]`
  pub decimal-names : S.wide e ≡ 1 → NamesSame e a None name (bit_at_number low ∷ []) sc v
  decimal-names one = record {
    width = one-width kept (bit_at_number low) vector ∙ sym one;
    yes = λ h j less.
        names j less ∙ sym (picked-part low 1 (whole kept.width) j (omega arith)) ∙ ap (λ x. picked x j) (sym (one-window kept (bit_at_number low) sc v vector));
    no = never;
  }

-- Part-selects that begin anywhere, of a path that is its whole image: bits out of range are out of range in the image too.
pub slide-picks : (path : Window) (w : ℕ) → IsTight path w → ((j : ℕ) → j < w → picked path j ≡ picked (whole w) j)
    → (k : ℤ) (n j : ℕ) → j < n → picked (part k n path) j ≡ picked (part k n (whole w)) j
slide-picks path w tight same k n j h =
    picked-slide k n path j h ∙ ap (pick path.low path.high) (moved path.shift) ∙ at (pos j +ℤ k) ∙ sym (ap (pick 0 w) (moved (pos 0))) ∙ sym (picked-slide k n (whole w) j h)
  where
    moved : (s : ℤ) → pos j +ℤ (s +ℤ k) ≡ (pos j +ℤ k) +ℤ s
    moved s = omega (arith, ints)

    none : (d : ℤ) → ((m : ℕ) → d ≡ pos m → m < w → ⊥) → pick path.low path.high (d +ℤ path.shift) ≡ pick 0 w (d +ℤ pos 0)
    none d out = far path w d tight out ∙ sym (far (whole w) w d (whole-tight w) out)

    at : (d : ℤ) → pick path.low path.high (d +ℤ path.shift) ≡ pick 0 w (d +ℤ pos 0)
    at (negsuc m) = none (negsuc m) (λ x e less. cc)
    at (pos m) = by (nat_lt m w) refl
      where
        by : (b : Bool) → nat_lt m w ≡ b → pick path.low path.high (pos m +ℤ path.shift) ≡ pick 0 w (pos m +ℤ pos 0)
        by true is = (let less : m < w = grind (arith, nat_tests) in same m less)
        by false is = (let many : w ≤ m = grind (arith, nat_tests) in none (pos m) (λ x e less. outside x e less many))
          where
            outside : (x : ℕ) → pos m ≡ pos x → x < w → w ≤ m → ⊥
            outside x e less many = omega (arith, ints)

pub slide-names : (e from : S.Meaning) (a : Around) (z : Option ℤ) (o : T.Meaning) (name : Name) (sc : Scope) (v : Valuation) → (named sc.names name).words ≡ None
    → IsSlide e from a z → number_of o.signed (T.alone o sc v) ≡ z → S.wide from ≡ (named sc.names name).width → IsTight (from.window a) (S.wide from) → Names from a 0 (S.wide from)
    → NamesSame e a None name (slide o (S.wide e) ∷ []) sc v
slide-names e from a z o name sc v vector is base all tight names = record {
  width = one-width (named sc.names name) (slide o (S.wide e)) vector;
  yes = λ h j less.
      ap (λ x. picked x j) is.window ∙ at z j less
      ∙ ap (λ w. picked (elim z [ None ↦ nowhere | Some k ↦ part k (S.wide e) (whole w) ]) j) all
      ∙ sym (ap (λ x. picked x j) (one-window (named sc.names name) (slide o (S.wide e)) sc v vector
      ∙ ap (λ (b : Option ℤ). elim b [ None ↦ nowhere | Some k ↦ part k (S.wide e) (whole (named sc.names name).width) ]) base));
  no = λ h. absurd (true≢false h);
}
  where
    at : (b : Option ℤ) (j : ℕ) → j < S.wide e → picked (elim b [ None ↦ nowhere | Some k ↦ part k (S.wide e) (from.window a) ]) j
        ≡ picked (elim b [ None ↦ nowhere | Some k ↦ part k (S.wide e) (whole (S.wide from)) ]) j
    at None j h = refl
    at (Some k) j h = slide-picks (from.window a) (S.wide from) tight (λ i less. names i less ∙ ap (picked (whole (S.wide from))) (zero-more i)) k (S.wide e) j h
      where
        zero-more : (i : ℕ) → 0 + i ≡ i
        zero-more i = omega arith
