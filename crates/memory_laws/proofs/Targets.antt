-- Targets in a word: the selects of a path whose place in the word is known, and of one that is placed by an offset.
use Rattle.std.proofs.Common.{◌≡◌, ℕ, suc, ◌+◌, ◌-◌, ◌<◌, ◌≤◌, Bool, true, false, cond, ℤ, pos, ◌+ℤ◌, length, take, List, [], ◌∷◌, Option, Some, None, refl, arith, ap, sym, ◌∙◌, subst, true≢false}
use Rattle.b4_core.specs.declared.bit.Bit4.{Bit4}
use Rattle.b4_core.specs.Vectors.{known, num, number}
use Rattle.row_machine.specs.Valuation.{Place, Valuation}
use Rattle.row_machine.specs.Steps.{unchanged}
use Rattle.picks.specs.Windows.{Window, whole, nowhere, part, picked, written}
use Rattle.sv_types.specs.Surroundings.{Around}
use Rattle.sv_types.specs.Meanings as S
use Rattle.sv_types.proofs.Picks.{picked-part, nothing-there}
use Rattle.v_meaning.specs.Scopes.{Scope}
use Rattle.v_meaning.specs.Selects.{SelMeaning}
use Rattle.v_meaning.specs.Values as T
use Rattle.v_meaning.specs.Values.{number_of}
use Rattle.lowering_laws.specs.Images.{NamesNone}
use Rattle.lowering_laws.specs.Placed.{holds, IsPlaced, IsSure}
use Rattle.lowering_laws.specs.Reached.{IsWritten}
use Rattle.lowering_laws.specs.Terms.{slide, bit_at_offset, range, bit_at_number}
use Rattle.lowering_laws.proofs.Extensions.{take-whole}
use Rattle.lowering_laws.proofs.WriteAt.{IsTight, whole-tight, same-written-at, none-written-at}
use Rattle.target_laws.specs.Standing.{IsKnown}
use Rattle.memory_laws.specs.InWords.{word_alone, alone_target, alone_pieces, NamesInWord}
use Rattle.memory_laws.proofs.Selecting.{selects-tight, selects-width}

-- what names a path's bits where its guard holds writes them
module _ (e : S.Meaning) (a : Around) (w : ℕ) (g : Option T.Meaning) (sels : List SelMeaning) (sc : Scope) (v : Valuation) (names : NamesInWord e a w g sels sc v) (tight : IsTight (e.window a) (S.wide e)) where
  abbrev window : Window
  window = (T.path_of (word_alone w) sels sc v).window

  window-tight : IsTight window (S.wide e)
  window-tight =
      subst (IsTight window) (sym (selects-width sels w w (whole w) nowhere) ∙ names.width) (selects-tight sels sc v w (whole w) nowhere (whole-tight w))

  by-guard : (b : Bool) → holds g sc v ≡ b → (bits : List Bit4) → length bits ≡ S.wide e → (q : Place)
      → cond b ((alone_target w sels).puts sc v (take (S.wide e) bits)) unchanged q ≡ written 0 (e.window a) bits q
  by-guard true h bits long q =
      ap (λ x. written 0 window x q) (take-whole (S.wide e) bits (omega arith)) ∙ same-written-at 0 (e.window a) window (S.wide e) tight window-tight (names.yes h) bits q
  by-guard false h bits long q = sym (none-written-at 0 (e.window a) (S.wide e) tight (names.no h) bits q)

  pub in-word-written : IsWritten (e.window a) (S.wide e) 0 (alone_pieces w (record { guard = g; sels = sels; low = 0; width = S.wide e } ∷ [])) sc v
  in-word-written = record { wide = (names.width, tt); below = (omega arith, tt); puts = by-guard (holds g sc v) refl }

-- a known place
module _ (e : S.Meaning) (a : Around) (w low : ℕ) (at : IsKnown e a low w) (sc : Scope) (v : Valuation) where
  never : holds None sc v ≡ false → NamesNone e a
  never h = absurd (true≢false h)

  pub whole-in-word : low ≡ 0 → S.wide e ≡ w → NamesInWord e a w None [] sc v
  whole-in-word from all = record {
    width = sym all;
    yes = λ h j less. at.names j less ∙ ap (picked (whole w)) (let same : low + j ≡ j = omega arith in same);
    no = never;
  }

  pub bit-in-word : S.wide e ≡ 1 → NamesInWord e a w None (bit_at_number low ∷ []) sc v
  bit-in-word one = record {
    width = sym one;
    yes = λ h j less. at.names j less ∙ sym (picked-part low 1 (whole w) j (omega arith));
    no = never;
  }

  range-taken : 1 ≤ S.wide e → suc (low + S.wide e - 1) - low ≡ S.wide e
  range-taken some = omega arith

  pub range-in-word : 1 ≤ S.wide e → NamesInWord e a w None (range low (S.wide e) ∷ []) sc v
  range-in-word some = record {
    width = range-taken some;
    yes = λ h j less. at.names j less ∙ sym (picked-part low (S.wide e) (whole w) j less) ∙ ap (λ n. picked (part (pos low) n (whole w)) j) (sym (range-taken some));
    no = never;
  }

-- an offset
module _ (e : S.Meaning) (a : Around) (w : ℕ) (g : Option T.Meaning) (o : T.Meaning) (room : ℕ) (sc : Scope) (v : Valuation) (placed : IsPlaced e a g o room w sc v) where
  base-known : known (T.alone o sc v) ≡ true → number_of o.signed (T.alone o sc v) ≡ Some (pos (num (T.alone o sc v)))
  base-known h = ap (λ b. number_of b (T.alone o sc v)) placed.unsigned ∙ ap (λ b. cond b (Some (number false (T.alone o sc v))) None) h

  base-lost : known (T.alone o sc v) ≡ false → number_of o.signed (T.alone o sc v) ≡ None
  base-lost h = ap (λ b. cond b (Some (number o.signed (T.alone o sc v))) None) h

  abbrev window-of : ℕ → Option ℤ → Window
  window-of n base = elim base [ None ↦ nowhere | Some k ↦ part k n (whole w) ]

  bits-by : holds g sc v ≡ true → (k : Bool) → known (T.alone o sc v) ≡ k → (j : ℕ) → j < S.wide e → picked (e.window a) j ≡ picked (window-of (S.wide e) (number_of o.signed (T.alone o sc v))) j
  bits-by h true is j less =
      (placed.yes h is).0 j less ∙ sym (picked-part (num (T.alone o sc v)) (S.wide e) (whole w) j less) ∙ ap (λ b. picked (window-of (S.wide e) b) j) (sym (base-known is))
  bits-by h false is j less =
      placed.lost h is j less ∙ sym (nothing-there (pos j +ℤ pos 0)) ∙ ap (λ b. picked (window-of (S.wide e) b) j) (sym (base-lost is))

  pub offset-in-word : NamesInWord e a w g (slide o (S.wide e) ∷ []) sc v
  offset-in-word = record { width = refl; yes = λ h. bits-by h (known (T.alone o sc v)) refl; no = placed.no }

  pub bit-offset-in-word : S.wide e ≡ 1 → NamesInWord e a w g (bit_at_offset o ∷ []) sc v
  bit-offset-in-word one = record {
    width = sym one;
    yes = λ h j less. bits-by h (known (T.alone o sc v)) refl j less ∙ ap (λ n. picked (window-of n (number_of o.signed (T.alone o sc v))) j) one;
    no = placed.no;
  }

  -- a word of one bit has no selects: the offset is tested in the guard
  pub only-in-word : S.wide e ≡ w → IsSure g o sc v → NamesInWord e a w g [] sc v
  only-in-word all sure = record {
    width = sym all;
    yes = λ h j less.
        let at = placed.yes h (sure h) in
        let fits = at.1 in
        at.0 j less ∙ ap (picked (whole w)) (let same : num (T.alone o sc v) + j ≡ j = omega arith in same);
    no = placed.no;
  }
