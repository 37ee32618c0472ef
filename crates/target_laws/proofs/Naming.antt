-- Names with selects that write a path whose place is known, and one that is placed by an offset.
use Rattle.std.proofs.Common.{◌≡◌, ℕ, ◌≤◌, [], ◌∷◌, Option, None, sym, ◌∙◌, subst}
use Rattle.row_machine.specs.Valuation.{Valuation}
use Rattle.sv_types.specs.Surroundings.{Around}
use Rattle.sv_types.specs.Meanings as S
use Rattle.v_tree.specs.Names.{Name}
use Rattle.v_meaning.specs.Scopes.{Scope, named}
use Rattle.v_meaning.specs.Selects.{SelMeaning}
use Rattle.v_meaning.specs.Values as T
use Rattle.lowering_laws.specs.Images.{Names}
use Rattle.lowering_laws.specs.Placed.{IsPlaced, IsSure}
use Rattle.lowering_laws.specs.Reached.{IsWritten}
use Rattle.lowering_laws.specs.Terms.{slide, bit_at_offset, range, bit_at_number}
use Rattle.lowering_laws.proofs.Paths.{one-width, no-width}
use Rattle.lowering_laws.proofs.References.{NamesSame, whole-names, range-names, decimal-names, offset-names, bit-names, all-names}
use Rattle.lowering_laws.proofs.Targets.{all-of, select-tight, name-tight, names-written}
use Rattle.lowering_laws.proofs.WriteAt.{IsTight}
use Rattle.target_laws.specs.Standing.{IsKnown, IsVectorOf}

module _ (e : S.Meaning) (a : Around) (name : Name) (bits : ℕ) (sc : Scope) (v : Valuation) (vector : IsVectorOf name bits sc) (tight : IsTight (e.window a) (S.wide e)) where
  abbrev image : ℕ
  image = (named sc.names name).number

  one-select : (g : Option T.Meaning) (s : SelMeaning) → NamesSame e a g name (s ∷ []) sc v → IsWritten (e.window a) (S.wide e) image (all-of g name (s ∷ []) (S.wide e) ∷ []) sc v
  one-select g s same =
      names-written e a g name (s ∷ []) sc v same tight
      (subst (IsTight (T.path_of (named sc.names name) (s ∷ []) sc v).window) (sym (one-width (named sc.names name) s vector.vector)) (select-tight (named sc.names name) s sc v vector.vector))

  no-select : (g : Option T.Meaning) → NamesSame e a g name [] sc v → IsWritten (e.window a) (S.wide e) image (all-of g name [] (S.wide e) ∷ []) sc v
  no-select g same =
      names-written e a g name [] sc v same tight
      (subst (IsTight (T.path_of (named sc.names name) [] sc v).window) (sym (no-width (named sc.names name) vector.vector)) (name-tight (named sc.names name) sc v vector.vector))

  -- a known place
  module _ (low : ℕ) (known : IsKnown e a low bits) where
    names : Names e a low (named sc.names name).width
    names = subst (λ b. Names e a low b) (sym vector.width) known.names

    pub whole-written : low ≡ 0 → S.wide e ≡ bits → IsWritten (e.window a) (S.wide e) image (all-of None name [] (S.wide e) ∷ []) sc v
    whole-written from all = no-select None (whole-names e a low name sc v vector.vector names from (all ∙ sym vector.width))

    pub bit-written : S.wide e ≡ 1 → IsWritten (e.window a) (S.wide e) image (all-of None name (bit_at_number low ∷ []) (S.wide e) ∷ []) sc v
    bit-written one = one-select None (bit_at_number low) (decimal-names e a low name sc v vector.vector names one)

    pub range-written : 1 ≤ S.wide e → IsWritten (e.window a) (S.wide e) image (all-of None name (range low (S.wide e) ∷ []) (S.wide e) ∷ []) sc v
    range-written some = one-select None (range low (S.wide e)) (range-names e a low name sc v vector.vector names some)

  -- an offset
  module _ (g : Option T.Meaning) (o : T.Meaning) (w : ℕ) (placed : IsPlaced e a g o w bits sc v) where
    here : IsPlaced e a g o w (named sc.names name).width sc v
    here = subst (λ b. IsPlaced e a g o w b sc v) (sym vector.width) placed

    pub offset-written : IsWritten (e.window a) (S.wide e) image (all-of g name (slide o (S.wide e) ∷ []) (S.wide e) ∷ []) sc v
    offset-written = one-select g (slide o (S.wide e)) (offset-names e a g o w name sc v vector.vector here)

    pub bit-offset-written : S.wide e ≡ 1 → IsWritten (e.window a) (S.wide e) image (all-of g name (bit_at_offset o ∷ []) (S.wide e) ∷ []) sc v
    bit-offset-written one = one-select g (bit_at_offset o) (bit-names e a g o w name sc v vector.vector here one)

    -- a name of one bit has no selects: the offset is tested in the guard
    pub only-written : S.wide e ≡ bits → IsSure g o sc v → IsWritten (e.window a) (S.wide e) image (all-of g name [] (S.wide e) ∷ []) sc v
    only-written all sure = no-select g (all-names e a g o w name sc v vector.vector here (all ∙ sym vector.width) sure)
