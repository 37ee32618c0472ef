-- Names with selects as targets: they write the bits of the image that a path writes.
use Rattle.std.proofs.Common.{◌≡◌, ℕ, Bool, true, false, cond, ℤ, length, take, List, [], ◌∷◌, Option, Some, None, refl, arith, sym, ◌∙◌, subst, ap}
use Rattle.b4_core.specs.declared.bit.Bit4.{Bit4}
use Rattle.row_machine.specs.Valuation.{Place, Valuation, Changes}
use Rattle.row_machine.specs.Steps.{unchanged}
use Rattle.picks.specs.Windows.{Window, whole, nowhere, part, written}
use Rattle.sv_types.specs.Surroundings.{Around}
use Rattle.sv_types.specs.Meanings as S
use Rattle.v_tree.specs.Names.{Name}
use Rattle.v_meaning.specs.Scopes.{Scope, Named, named}
use Rattle.v_meaning.specs.Selects.{SelMeaning, lowest, taken}
use Rattle.v_meaning.specs.Statements as T
use Rattle.v_meaning.specs.Values as V
use Rattle.lowering_laws.specs.Placed.{holds}
use Rattle.lowering_laws.specs.Reached.{Piece, IsWritten}
use Rattle.lowering_laws.proofs.Extensions.{take-whole}
use Rattle.lowering_laws.proofs.Paths.{one-window, no-window}
use Rattle.lowering_laws.proofs.References.{NamesSame}
use Rattle.lowering_laws.proofs.WriteAt.{IsTight, nowhere-tight, whole-tight, part-tight, same-written-at, none-written-at}

-- a name with selects for all bits of a value
abbrev pub all-of : Option V.Meaning → Name → List SelMeaning → ℕ → Piece
all-of g name sels n = record { guard = g; to = T.name_target name sels; low = 0; width = n }

name-width : (name : Name) (sels : List SelMeaning) (sc : Scope) → (T.name_target name sels).width sc ≡ V.width_of (named sc.names name) sels
unfolding T.name_target
name-width name sels sc = refl

name-puts : (name : Name) (sels : List SelMeaning) (sc : Scope) (v : Valuation) (bits : List Bit4)
    → (T.name_target name sels).puts sc v bits ≡ written (named sc.names name).number (V.path_of (named sc.names name) sels sc v).window bits
unfolding T.name_target
name-puts name sels sc v bits = refl

-- the windows of selects
base-tight : (base : Option ℤ) (s : SelMeaning) (w : ℕ) → IsTight (elim base [ None ↦ nowhere | Some k ↦ part (lowest s.extent k) (taken s.decimal s.extent) (whole w) ]) (taken s.decimal s.extent)
base-tight None s w = nowhere-tight (taken s.decimal s.extent)
base-tight (Some k) s w = part-tight (lowest s.extent k) (taken s.decimal s.extent) (whole w)

pub select-tight : (n : Named) (s : SelMeaning) (sc : Scope) (v : Valuation) → n.words ≡ None → IsTight (V.path_of n (s ∷ []) sc v).window (taken s.decimal s.extent)
select-tight n s sc v vector =
    subst (λ x. IsTight x (taken s.decimal s.extent)) (sym (one-window n s sc v vector)) (base-tight (s.base sc v) s n.width)

pub name-tight : (n : Named) (sc : Scope) (v : Valuation) → n.words ≡ None → IsTight (V.path_of n [] sc v).window n.width
name-tight n sc v vector = subst (λ x. IsTight x n.width) (sym (no-window n sc v vector)) (whole-tight n.width)

-- What names the same bits where the guard holds writes them.
module _ (e : S.Meaning) (a : Around) (g : Option V.Meaning) (name : Name) (sels : List SelMeaning) (sc : Scope) (v : Valuation)
    (same : NamesSame e a g name sels sc v) (tight : IsTight (e.window a) (S.wide e))
    (target_tight : IsTight (V.path_of (named sc.names name) sels sc v).window (V.width_of (named sc.names name) sels)) where
  abbrev n : ℕ
  n = S.wide e

  abbrev image : ℕ
  image = (named sc.names name).number

  abbrev window : Window
  window = (V.path_of (named sc.names name) sels sc v).window

  is-tight : IsTight window n
  is-tight = subst (λ k. IsTight window k) same.width target_tight

  by-guard : (b : Bool) → holds g sc v ≡ b → (bits : List Bit4) → length bits ≡ n → (q : Place)
      → cond b ((T.name_target name sels).puts sc v (take n bits)) unchanged q ≡ written image (e.window a) bits q
  by-guard true h bits long q =
      ap (λ (c : Changes). c q) (name-puts name sels sc v (take n bits))
      ∙ ap (λ x. written image window x q) (take-whole n bits (omega arith))
      ∙ same-written-at image (e.window a) window n tight is-tight (same.yes h) bits q
  by-guard false h bits long q = sym (none-written-at image (e.window a) n tight (same.no h) bits q)

  pub names-written : IsWritten (e.window a) n image (all-of g name sels n ∷ []) sc v
  names-written = record {
    wide = (name-width name sels sc ∙ same.width, tt);
    below = (omega arith, tt);
    puts = by-guard (holds g sc v) refl;
  }
