-- An element is read from its word.
use Rattle.std.proofs.Common.{◌≡◌, inl, inr, ℕ, zero, suc, ◌*◌, ◌<◌, ◌≤◌, Bool, true, false, ◌&&◌, cond, ℤ, pos, negsuc, ◌+ℤ◌, ◌*ℤ◌, length, List, [], ◌∷◌, Option, Some, None, refl, arith, ap, sym, ◌∙◌, subst}
use Rattle.std.specs.Prelude.{nat_lt, int_le, int_lt, slice_index_or}
use Rattle.std.proofs.lemmas.Int.{ints}
use Rattle.std.proofs.lemmas.Bool.Decides.{nat_tests}
use Rattle.b4_core.specs.declared.bit.Bit4.{Bit4}
use Rattle.b4_core.specs.declared.bit.Bit4.TheVariants.{X}
use Rattle.b4_core.specs.Vectors.{ext}
use Rattle.row_machine.specs.Valuation.{Valuation}
use Rattle.row_machine.specs.Places.{vector_at}
use Rattle.picks.specs.Windows.{Window, whole, nowhere, part, picked, bit_at, seen, tabulated}
use Rattle.sv_types.specs.declared.types.SvType.{SvType}
use Rattle.sv_types.specs.Layouts.{Layout, layout, count_of}
use Rattle.sv_types.specs.Windows.{rank, element_of, elements}
use Rattle.sv_types.specs.Surroundings.{Around}
use Rattle.sv_types.specs.Meanings as S
use Rattle.sv_types.proofs.Picks.{pick, length-tabulated, tabulated-same, nothing-there}
use Rattle.v_tree.specs.Names.{Name}
use Rattle.v_tree.specs.declared.expressions.VExpr.{VExpr}
use Rattle.v_meaning.specs.Scopes.{Scope, Named, named, all_bits}
use Rattle.v_meaning.specs.Selects.{SelMeaning, select, bits_named}
use Rattle.v_meaning.specs.Values as T
use Rattle.v_meaning.specs.Values.{meaning, expression_base}
use Rattle.eval_parts.specs.Places.{window_of}
use Rattle.lowering_laws.specs.Images.{raw}
use Rattle.lowering_laws.specs.Same.{HasBits}
use Rattle.lowering_laws.specs.Steps.{IsElement}
use Rattle.lowering_laws.specs.Words.{IsMemory}
use Rattle.lowering_laws.proofs.Extensions.{ext-at}
use Rattle.lowering_laws.proofs.Paths.{length-raw}
use Rattle.lowering_laws.proofs.PathSteps.{element-names-none}
use Rattle.lowering_laws.proofs.Slides.{far}
use Rattle.lowering_laws.proofs.Words.{word-read}
use Rattle.lowering_laws.proofs.WriteAt.{IsTight, whole-tight}
use Rattle.memory_laws.proofs.Ranking.{rank-below}
use Rattle.path_flatten.specs.declared.readings.Reading.{Reading}
use Rattle.path_flatten.specs.declared.readings.Root.{Root}
use Rattle.path_flatten.specs.declared.readings.Root.TheVariants as R
use Rattle.path_flatten.specs.Reading.{HasRoot, Sees, StaysIn, Reads}
use Rattle.path_flatten.specs.Stepping.{IsStep}
use Rattle.path_flatten.proofs.Sees.{stays-of}
use Rattle.path_flatten.proofs.Stepping.{element-stays}
use Rattle.memory_words.specs.Readings.{ReadsWord, ReadsKnownWord}
use Rattle.memory_words.specs.Words.{NumbersWord}

-- the bits that a path reads, by their places
index-tabulated : (n m : ℕ) (f : ℕ → Bit4) → m < n → slice_index_or (tabulated n f) m X ≡ f m
index-tabulated zero m f h = absurd (omega arith)
index-tabulated (suc n) zero f h = refl
index-tabulated (suc n) (suc m) f h = index-tabulated n m (λ k. f (suc k)) (omega arith)

whole-pick : (n m : ℕ) (k : ℤ) (b : Bool) → k ≡ pos m → nat_lt m n ≡ b → pick 0 n k ≡ cond b (Some m) None
whole-pick n m k true e less = (let test : (int_le (pos 0) (pos m) && int_lt (pos m) (pos n)) ≡ true = grind (arith, nat_tests) in ap (pick 0 n) e ∙ ap (λ c. cond c (Some m) None) test)
whole-pick n m k false e less = (let test : (int_le (pos 0) (pos m) && int_lt (pos m) (pos n)) ≡ false = grind (arith, nat_tests) in ap (pick 0 n) e ∙ ap (λ c. cond c (Some m) None) test)

pub sees-raw : (held : List Bit4) (path : Window) (n : ℕ) → IsTight path n → Sees held path (seen held path n) (whole n)
sees-raw held path n tight (negsuc m) =
    ap (bit_at held) (far path n (negsuc m) tight (λ k e less. cc)) ∙ sym (ap (bit_at (seen held path n)) (far (whole n) n (negsuc m) (whole-tight n) (λ k e less. cc)))
sees-raw held path n tight (pos m) = by (nat_lt m n) refl
  where
    same_place : pos m +ℤ pos 0 ≡ pos m
    same_place = omega (arith, ints)

    by : (b : Bool) → nat_lt m n ≡ b → bit_at held (pick path.low path.high (pos m +ℤ path.shift)) ≡ bit_at (seen held path n) (pick 0 n (pos m +ℤ pos 0))
    by true h =
        let less : m < n = grind (arith, nat_tests) in
        sym (index-tabulated n m (λ j. bit_at held (picked path j)) less) ∙ sym (ap (bit_at (seen held path n)) (whole-pick n m (pos m +ℤ pos 0) true same_place h))
    by false h =
        ap (bit_at held) (far path n (pos m) tight (λ k e less. apart m n k e less (grind (arith, nat_tests)))) ∙ sym (ap (bit_at (seen held path n)) (whole-pick n m (pos m +ℤ pos 0) false same_place h))
      where
        apart : (j l k : ℕ) → pos j ≡ pos k → k < l → l ≤ j → ⊥
        apart j l k e less many = omega (arith, ints)

-- a reference has its bits wherever it stands
reference-has : (memory : Name) (sels : List SelMeaning) (c : List Bit4) (sc : Scope) (v : Valuation) → (T.reference memory sels).width sc ≡ length c → T.alone (T.reference memory sels) sc v ≡ c
    → HasBits (T.reference memory sels) c sc v
unfolding T.reference
reference-has memory sels c sc v width bits =
    let n = named sc.names memory in
    let own : T.value_of n sels sc v ≡ c = sym (ext-at (T.width_of n sels) false (T.value_of n sels sc v) (length-tabulated (T.width_of n sels) _)) ∙ bits in
    record {
      width = width;
      unsigned = refl;
      value = λ w s. ap (ext w s) own;
    }

-- What has the bits that the path reads, whole, reads the path.
reads-by : (e from : S.Meaning) (t : SvType) (a : Around) (z : Option ℤ) (r : Reading) (x : VExpr) (n : ℕ) (sc : Scope) (v : Valuation) → r.root ≡ R.Value x → n ≡ length (layout t).element.two_state
    → r.width ≡ n → window_of r.window ≡ whole n → from.of ≡ layout t → IsStep e from a (element_of from.of z) → S.wide e ≡ length from.of.element.two_state → HasBits (meaning x) (raw e a) sc v
    → Reads r e a sc v
reads-by e from t a z r x n sc v root size width window of step wide has =
    let own : S.wide e ≡ n = wide ∙ ap (λ (l : Layout). length l.element.two_state) of ∙ sym size in
    let long = length-raw e a in
    let tight : IsTight (e.window a) (S.wide e) = subst (λ y. IsTight y (S.wide e)) (sym step.window) (subst (IsTight (element_of from.of z (from.window a))) (sym wide) (element-stays from.of z (from.window a))) in
    let entire : window_of r.window ≡ whole (S.wide e) = window ∙ ap whole (sym own) in
    record {
      bits = raw e a;
      root = subst (λ (y : Root). HasRoot y r.width (raw e a) sc v) (sym root) has;
      long = long ∙ own ∙ sym width;
      sees = subst (Sees (e.base a) (e.window a) (raw e a)) (sym entire) (sees-raw (e.base a) (e.window a) (S.wide e) tight);
      stays = subst (λ y. StaysIn y (S.wide e)) (sym entire) (stays-of (whole (S.wide e)) (S.wide e) (whole-tight (S.wide e)));
      inside = (let high = ap (λ (y : Window). y.high) window in omega arith);
    }

-- so an expression that reads the word reads the element
pub reads-word : (memory : Name) (t : SvType) (word : VExpr) (r : Reading) (x : VExpr) (n : ℕ) → r.root ≡ R.Value x → n ≡ length (layout t).element.two_state → r.width ≡ n → window_of r.window ≡ whole n
    → meaning x ≡ T.reference memory (expression_base (meaning word) None ∷ []) → ReadsWord memory t word r
reads-word memory t word r x n root size width window value e from z a sc v of path step wide all holds is_word =
    let is_element : IsElement e from a z = record { window = step.window; wide = wide; all = all } in
    let read = word-read e from a z None (meaning word) memory sc v step.base is_element holds is_word in
    let has = reference-has memory (expression_base (meaning word) None ∷ []) (raw e a) sc v (read.width ∙ sym (length-raw e a)) (read.yes refl) in
    reads-by e from t a z r x n sc v root size width window of step wide (subst (λ y. HasBits y (raw e a) sc v) (sym value) has)

-- A word by its number.
module _ (e from : S.Meaning) (a : Around) (z : Option ℤ) (k : ℕ) (memory : Name) (sc : Scope) (v : Valuation) (base : e.base a ≡ from.base a) (is_element : IsElement e from a z)
    (holds : IsMemory from a (named sc.names memory) v) (number : NumbersWord from.of z k) where
  abbrev n : Named
  n = named sc.names memory

  abbrev count : ℕ
  count = count_of from.of.left from.of.right

  abbrev held : List Bit4
  held = vector_at v n.number (all_bits n)

  abbrev sels : List SelMeaning
  sels = T.decimal_base k None ∷ []

  wide-is : S.wide e ≡ n.width
  wide-is = is_element.wide ∙ sym holds.width

  path-is : (b : Bool) → (int_le (pos 0) (pos k) && int_lt (pos k) (pos count)) ≡ b → (T.path_of n sels sc v).window ≡ cond b (part (pos k *ℤ pos n.width) n.width (whole (all_bits n))) nowhere
  path-is b test =
      ap (λ (ws : Option ℕ). (select (T.decimal_base k None) (Some (pos k)) (record { window = whole (all_bits n); width = n.width; words = ws })).window) holds.words
      ∙ ap (λ c. cond c (part (pos k *ℤ pos n.width) n.width (whole (all_bits n))) nowhere) test

  width-is : T.width_of n sels ≡ n.width
  width-is = ap (λ (ws : Option ℕ). bits_named (select (T.decimal_base k None) None (record { window = whole (all_bits n); width = n.width; words = ws })) (all_bits n)) holds.words

  raw-is : raw e a ≡ seen (from.base a) (element_of from.of z (from.window a)) n.width
  raw-is = λ d. seen (base d) (is_element.window d) (wide-is d)

  nothing-read : (x y : List Bit4) (m : ℕ) (path : Window) → ((j : ℕ) → j < m → picked path j ≡ None) → seen x nowhere m ≡ seen y path m
  nothing-read x y m path none = tabulated-same m _ _ (λ j h. ap (bit_at x) (nothing-there (pos j +ℤ pos 0)) ∙ sym (ap (bit_at y) (none j h)))

  word-seen : NumbersWord from.of z k → seen held (T.path_of n sels sc v).window n.width ≡ raw e a
  word-seen (inl has) =
      let at = rank-below from.of has.index k has.word_is has.below in
      let one : 1 * length from.of.element.two_state ≡ length from.of.element.two_state = omega arith in
      ap (λ y. seen held y n.width) (path-is true (inside k count has.below))
      ∙ holds.holds has.index k has.word_is has.below
      ∙ ap (λ y. seen (from.base a) y n.width) (sym (there from.of has.index at.q (from.window a) at.is at.below))
      ∙ ap (λ i. seen (from.base a) (element_of from.of i (from.window a)) n.width) (sym has.known_there)
      ∙ sym raw-is
    where
      inside : (q m : ℕ) → q < m → (int_le (pos 0) (pos q) && int_lt (pos q) (pos m)) ≡ true
      inside q m less = grind (arith, nat_tests)

      there : (of : Layout) (i : ℤ) (q : ℕ) (path : Window) → rank of i ≡ pos q → q < count_of of.left of.right → element_of of (Some i) path ≡ elements of (rank of i) 1 path
      there of i q path is below =
          ap (λ b. cond b (elements of (rank of i) 1 path) nowhere) (ap (λ y. int_le (pos 0) y && int_lt y (pos (count_of of.left of.right))) is ∙ inside q (count_of of.left of.right) below)
  word-seen (inr far) =
      ap (λ y. seen held y n.width) (path-is false (outside k count far.behind))
      ∙ ap (λ m. seen held nowhere m) (sym wide-is)
      ∙ nothing-read held (e.base a) (S.wide e) (e.window a) (element-names-none e from a z is_element far.none)
    where
      outside : (q m : ℕ) → m ≤ q → (int_le (pos 0) (pos q) && int_lt (pos q) (pos m)) ≡ false
      outside q m more = grind (arith, nat_tests)

  numbered-has : HasBits (T.reference memory sels) (raw e a) sc v
  unfolding T.reference
  numbered-has =
      let own : T.value_of n sels sc v ≡ raw e a = ap (seen held (T.path_of n sels sc v).window) width-is ∙ word-seen number in
      record {
        width = width-is ∙ sym wide-is ∙ sym (length-raw e a);
        unsigned = refl;
        value = λ w s. ap (ext w s) own;
      }

pub reads-known : (memory : Name) (t : SvType) (z : Option ℤ) (k : ℕ) (r : Reading) (x : VExpr) (n : ℕ) → r.root ≡ R.Value x → n ≡ length (layout t).element.two_state → r.width ≡ n → window_of r.window ≡ whole n
    → NumbersWord (layout t) z k → meaning x ≡ T.reference memory (T.decimal_base k None ∷ []) → ReadsKnownWord memory t z r
reads-known memory t z k r x n root size width window number value e from a sc v of path step wide all holds =
    let is_element : IsElement e from a z = record { window = step.window; wide = wide; all = all } in
    let has = numbered-has e from a z k memory sc v step.base is_element holds (subst (λ (l : Layout). NumbersWord l z k) (sym of) number) in
    reads-by e from t a z r x n sc v root size width window of step wide (subst (λ y. HasBits y (raw e a) sc v) (sym value) has)
