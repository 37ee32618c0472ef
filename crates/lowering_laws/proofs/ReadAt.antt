-- What is read where a guard holds, for a path.
use Rattle.std.proofs.Common.{◌≡◌, ℕ, zero, suc, max, Bool, true, false, ◌&&◌, length, replicate, List, [], ◌∷◌, Option, Some, None, refl, arith, sym, ◌∙◌, ap, true≢false}
use Rattle.b4_core.specs.declared.bit.Bit4.{Bit4}
use Rattle.b4_core.specs.declared.bit.Bit4.TheVariants.{Zero, One, X, Z}
use Rattle.b4_core.specs.Bits.{is_one, merge4}
use Rattle.b4_core.specs.Vectors.{bitwise}
use Rattle.row_machine.specs.Valuation.{Valuation}
use Rattle.picks.specs.Windows.{bit_at, tabulated}
use Rattle.sv_types.specs.Surroundings.{Around}
use Rattle.sv_types.specs.Meanings as S
use Rattle.sv_types.proofs.Picks.{tabulated-same}
use Rattle.v_tree.specs.Names.{Name}
use Rattle.v_meaning.specs.Scopes.{Scope}
use Rattle.v_meaning.specs.Values as T
use Rattle.lowering_laws.specs.Same.{Same, HasBits}
use Rattle.lowering_laws.specs.Helpers.{Stores}
use Rattle.lowering_laws.specs.Images.{NamesNone, raw}
use Rattle.lowering_laws.specs.Reached.{IsRead}
use Rattle.lowering_laws.specs.Terms.{guarded}
use Rattle.lowering_laws.proofs.Assigned.{helper-alone, call-width, given-alone}
use Rattle.lowering_laws.proofs.Constants.{resigned-same, length-fill, bits-alone}
use Rattle.lowering_laws.proofs.Paths.{length-raw, IsPath, path-alone, path-itself, AllFour, stored-four-bits}

-- where nothing is named, x is read
fill-tabulated : (n : ℕ) → tabulated n (λ j. X) ≡ replicate n X
fill-tabulated zero = refl
fill-tabulated (suc n) = ap (λ v. X ∷ v) (fill-tabulated n)

pub raw-none : (e : S.Meaning) (a : Around) → NamesNone e a → raw e a ≡ replicate (S.wide e) X
raw-none e a none = tabulated-same (S.wide e) _ (λ j. X) (λ j h. ap (bit_at (e.base a)) (none j h)) ∙ fill-tabulated (S.wide e)

-- an x merged with any bit is x
merge-x : (b : Bit4) → merge4 b X ≡ X
merge-x Zero = refl
merge-x One = refl
merge-x X = refl
merge-x Z = refl

merge-fill : (n : ℕ) (u : List Bit4) → length u ≡ n → bitwise merge4 u (replicate n X) ≡ replicate n X
merge-fill zero [] h = refl
merge-fill zero (b ∷ u) h = absurd (omega arith)
merge-fill (suc n) [] h = absurd (omega arith)
merge-fill (suc n) (b ∷ u) h = (λ i. merge-x b i ∷ merge-fill n u (omega arith) i)

chosen-not : (n : ℕ) (g : Bit4) (u : List Bit4) → length u ≡ n → is_one g ≡ false → T.chosen g u (replicate n X) ≡ replicate n X
chosen-not n Zero u long isnt = refl
chosen-not n One u long isnt = absurd (true≢false isnt)
chosen-not n X u long isnt = merge-fill n u long
chosen-not n Z u long isnt = merge-fill n u long

pub chosen-yes : (g : Bit4) (u d : List Bit4) → is_one g ≡ true → T.chosen g u d ≡ u
chosen-yes Zero u d yes_one = absurd (true≢false (sym yes_one))
chosen-yes One u d yes_one = refl
chosen-yes X u d yes_one = absurd (true≢false (sym yes_one))
chosen-yes Z u d yes_one = absurd (true≢false (sym yes_one))

-- a choice of two unsigned things of one width, alone
pub choice-alone : (g m d : T.Meaning) (c : List Bit4) (n : ℕ) (sc : Scope) (v : Valuation) → m.width sc ≡ n → m.signed ≡ false → HasBits d c sc v → length c ≡ n
    → ((T.choose g m d).width sc ≡ n) × (T.alone (T.choose g m d) sc v ≡ T.chosen (T.truth g sc v) (T.alone m sc v) c)
unfolding T.choose
choice-alone g m d c n sc v width unsigned has is =
    let d_width = has.width in
    let same : max (m.width sc) (d.width sc) ≡ n = omega arith in
    let sign : (m.signed && d.signed) ≡ false = ap (λ b. b && d.signed) unsigned in
    let other : d.value n false sc v ≡ c = sym (λ i. d.value ((has.width ∙ is) i) (has.unsigned i) sc v) ∙ bits-alone d c sc v has in (
      same,
      (λ i. T.chosen (T.truth g sc v) (m.value (same i) (sign i) sc v) (d.value (same i) (sign i) sc v))
          ∙ ap (λ x. T.chosen (T.truth g sc v) (m.value n false sc v) x) other
          ∙ sym (λ i. T.chosen (T.truth g sc v) (m.value (width i) (unsigned i) sc v) c),
    )

-- what the path reads, whatever reads it where the guard holds
module _ (e : S.Meaning) (a : Around) (m d : T.Meaning) (sc : Scope) (v : Valuation) (path : IsPath e a) (x : HasBits d (replicate (S.wide e) X) sc v) where
  abbrev all : ℕ
  all = S.wide e

  by-guard : (g : T.Meaning) → IsRead e a (Some g) m sc v → (b : Bool) → is_one (T.truth g sc v) ≡ b
      → T.chosen (T.truth g sc v) (T.alone m sc v) (replicate all X) ≡ raw e a
  by-guard g read true is = chosen-yes (T.truth g sc v) (T.alone m sc v) (replicate all X) is ∙ read.yes is
  by-guard g read false is = chosen-not all (T.truth g sc v) (T.alone m sc v) read.long is ∙ sym (raw-none e a (read.no is))

  pub read-raw : (g : Option T.Meaning) → IsRead e a g m sc v → ((guarded g m d).width sc ≡ all) × (T.alone (guarded g m d) sc v ≡ raw e a)
  read-raw None read = (read.width, read.yes refl)
  read-raw (Some g) read =
      let choice = choice-alone g m d (replicate all X) all sc v read.width read.unsigned x (length-fill all X) in
      (choice.0, choice.1 ∙ by-guard g read (is_one (T.truth g sc v)) refl)

  -- of four-state bits
  pub read-same : (g : Option T.Meaning) → IsRead e a g m sc v → AllFour e.of.two_state
      → (context : ℕ) (s : Bool) → Same e context s a (T.signing (S.signed e) (guarded g m d)) sc v
  read-same g read four context s =
      let r = read-raw g read in
      resigned-same e context s a (guarded g m d) sc v (path-itself e a path) r.0
      (r.1 ∙ sym (stored-four-bits e.of.two_state (raw e a) four (length-raw e a)) ∙ sym (path-alone e a path))

  -- and with two-state bits among them, by a helper
  pub stored-same : (g : Option T.Meaning) (helper : Name) → IsRead e a g m sc v → Stores e.of.two_state (sc.callee helper)
      → (context : ℕ) (s : Bool) → Same e context s a (T.signing (S.signed e) (T.call helper (guarded g m d ∷ []))) sc v
  stored-same g helper read helps context s =
      let r = read-raw g read in
      resigned-same e context s a (T.call helper (guarded g m d ∷ [])) sc v (path-itself e a path)
      (call-width helper (guarded g m d ∷ []) sc ∙ helps.width)
      (helper-alone e.of.two_state helper (guarded g m d) (raw e a) sc v helps (given-alone (guarded g m d) all (raw e a) sc v r.0 r.1 (length-raw e a)) (length-raw e a) ∙ sym (path-alone e a path))
