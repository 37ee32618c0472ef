-- A part-select by an index is a call of a helper.
use Rattle.std.proofs.Common.{◌≡◌, ℕ, Bool, false, cond, ℤ, pos, ◌+ℤ◌, length, List, [], ◌∷◌, Option, Some, None, sym, ◌∙◌, ap}
use Rattle.b4_core.specs.declared.bit.Bit4.{Bit4}
use Rattle.b4_core.specs.Vectors.{known, snum, ext}
use Rattle.row_machine.specs.Valuation.{Valuation}
use Rattle.picks.specs.Windows.{whole, nowhere, part, bit_at, seen}
use Rattle.sv_types.specs.Surroundings.{Around}
use Rattle.sv_types.specs.Meanings as S
use Rattle.sv_types.proofs.Picks.{tabulated-same, length-tabulated, nothing-there}
use Rattle.v_tree.specs.Names.{Name}
use Rattle.v_meaning.specs.Scopes.{Scope}
use Rattle.v_meaning.specs.Values as T
use Rattle.lowering_laws.specs.Same.{Same}
use Rattle.lowering_laws.specs.Helpers.{Slices, from_offset}
use Rattle.lowering_laws.specs.Images.{raw, IsSlide}
use Rattle.lowering_laws.proofs.Extensions.{ext-at}
use Rattle.lowering_laws.proofs.Constants.{resigned-same}
use Rattle.lowering_laws.proofs.Paths.{length-raw, IsPath, path-alone, path-itself, AllFour, stored-four-bits}
use Rattle.lowering_laws.proofs.Slides.{slide-read}
use Rattle.lowering_laws.proofs.WriteAt.{IsTight}

nothing-read : (x y : List Bit4) (n : ℕ) → seen x nowhere n ≡ seen y nowhere n
nothing-read x y n = tabulated-same n _ _ (λ j h. ap (bit_at x) (nothing-there (pos j +ℤ pos 0)) ∙ sym (ap (bit_at y) (nothing-there (pos j +ℤ pos 0))))

slide-by : (e from : S.Meaning) (a : Around) (z : Option ℤ) → IsTight (from.window a) (S.wide from)
    → seen (from.base a) (elim z [ None ↦ nowhere | Some k ↦ part k (S.wide e) (from.window a) ]) (S.wide e)
    ≡ seen (raw from a) (elim z [ None ↦ nowhere | Some k ↦ part k (S.wide e) (whole (S.wide from)) ]) (S.wide e)
slide-by e from a None tight = nothing-read (from.base a) (raw from a) (S.wide e)
slide-by e from a (Some k) tight = slide-read (from.base a) (from.window a) (S.wide from) tight k (S.wide e)

pub slide-raw : (e from : S.Meaning) (a : Around) (z : Option ℤ) → IsSlide e from a z → IsTight (from.window a) (S.wide from)
    → raw e a ≡ seen (raw from a) (elim z [ None ↦ nowhere | Some k ↦ part k (S.wide e) (whole (S.wide from)) ]) (S.wide e)
slide-raw e from a z is tight = (λ i. seen (is.base i) (is.window i) (S.wide e)) ∙ slide-by e from a z tight

-- a call with two arguments
two-arguments : (helper : Name) (m k : T.Meaning) (n w d : ℕ) (x o : List Bit4) (sc : Scope) (v : Valuation) → Slices n w d (sc.callee helper)
    → length x ≡ w → length o ≡ d → T.given m w sc v ≡ x → T.given k d sc v ≡ o → ((T.call helper (m ∷ k ∷ [])).width sc ≡ n) × (T.alone (T.call helper (m ∷ k ∷ [])) sc v ≡ from_offset n w x o)
unfolding T.call
two-arguments helper m k n w d x o sc v helps whole_long offset_long first second =
    let f = sc.callee helper in (
      helps.width,
      ap (λ is. ext f.width false (f.run v (T.arguments is (m ∷ k ∷ []) sc v))) helps.inputs
          ∙ (λ i. ext f.width false (f.run v (first i ∷ second i ∷ [])))
          ∙ ap (ext f.width false) (helps.run v x o whole_long offset_long)
          ∙ ext-at f.width false (from_offset n w x o) (length-tabulated n _ ∙ sym helps.width),
    )

-- so a part-select of four-state bits is a call with the whole and the offset
pub slide-same : (e from : S.Meaning) (a : Around) (context : ℕ) (s : Bool) (helper : Name) (m k : T.Meaning) (d : ℕ) (o : List Bit4) (sc : Scope) (v : Valuation)
    → IsPath e a → IsSlide e from a (cond (known o) (Some (snum o)) None) → IsTight (from.window a) (S.wide from)
    → Slices (S.wide e) (S.wide from) d (sc.callee helper) → length o ≡ d → T.given m (S.wide from) sc v ≡ raw from a → T.given k d sc v ≡ o → AllFour e.of.two_state
    → Same e context s a (T.signing (S.signed e) (T.call helper (m ∷ k ∷ []))) sc v
slide-same e from a context s helper m k d o sc v path is tight helps offset_long whole_given offset_given four =
    let call = two-arguments helper m k (S.wide e) (S.wide from) d (raw from a) o sc v helps (length-raw from a) offset_long whole_given offset_given in
    resigned-same e context s a (T.call helper (m ∷ k ∷ [])) sc v (path-itself e a path) call.0
    (call.1 ∙ sym (slide-raw e from a _ is tight) ∙ sym (stored-four-bits e.of.two_state (raw e a) four (length-raw e a)) ∙ sym (path-alone e a path))
