-- What reads a path as its type stores it.
use Rattle.std.specs.Prelude.{◌≡◌, ⊤, ℕ, ◌+◌, ◌-◌, ◌≤◌, ◌<◌, Bool, true, false, List, [], ◌∷◌, length, slice_index_or}
use Rattle.b4_core.specs.declared.bit.Bit4.{Bit4}
use Rattle.b4_core.specs.declared.bit.Bit4.TheVariants.{X}
use Rattle.row_machine.specs.Valuation.{Valuation, Member}
use Rattle.picks.specs.Windows.{tabulated}
use Rattle.sv_types.specs.declared.types.SvType.{SvType}
use Rattle.sv_types.specs.Layouts.{layout, width_of, stored, stored_bit, stacked}
use Rattle.sv_types.specs.Surroundings.{Around}
use Rattle.sv_types.specs.Meanings as S
use Rattle.v_tree.specs.Printing.{helper_text}
use Rattle.v_tree.specs.declared.names.Helper.{Helper}
use Rattle.v_meaning.specs.Scopes.{Scope}
use Rattle.v_meaning.specs.Values as T
use Rattle.lowering_laws.specs.Same.{Same, HasBits, AllHaveBits}
use Rattle.lowering_laws.specs.Steps.{IsPath}
use Rattle.path_flatten.specs.declared.readings.Reading.{Reading}
use Rattle.path_flatten.specs.Helping.{EachHelps, IsSized}
use Rattle.path_flatten.specs.Reading.{Reads}

-- signed, or as it is
abbrev pub signed_as : Bool → T.Meaning → T.Meaning
signed_as true m = T.signing true m
signed_as false m = m

-- each of these bits is b
abbrev pub AllAre : Bit4 → List Bit4 → Type 0
AllAre b [] = ⊤
AllAre b (x ∷ xs) = (x ≡ b) × AllAre b xs

-- a call of a helper with one argument, which the text declares if it has bits
pub record IsHelperCall (h : Helper) (m : T.Meaning) (hs : List Helper) (r : T.Meaning) : Type 0 where
  pub is : r ≡ T.call (helper_text h) (m ∷ [])
  pub there : IsSized h → Member hs h

-- the bits of a type as it stores them
abbrev pub StoresBits : SvType → T.Meaning → List Helper → T.Meaning → Type 0
StoresBits t m hs r = (c : List Bit4) (sc : Scope) (v : Valuation) → HasBits m c sc v → length c ≡ width_of t → 1 ≤ width_of t → EachHelps hs sc
    → HasBits r (stored (layout t).two_state c) sc v

-- bit j as it is stored
abbrev pub stored_at : List Bool → List Bit4 → ℕ → Bit4
stored_at bs c j = stored_bit (slice_index_or bs j false) (slice_index_or c j X)

-- so many stored bits from one on, and all from one on in pieces, the most significant first
abbrev pub StoresRun : T.Meaning → List Bool → ℕ → ℕ → ℕ → List Helper → T.Meaning → Type 0
StoresRun m bs n low k hs p = (c : List Bit4) (sc : Scope) (v : Valuation) → HasBits m c sc v → length c ≡ n → EachHelps hs sc
    → HasBits p (tabulated k (λ j. stored_at bs c (low + j))) sc v

abbrev pub StoresFrom : T.Meaning → List Bool → ℕ → ℕ → List Helper → List T.Meaning → Type 0
StoresFrom m bs n high hs ms = (c : List Bit4) (sc : Scope) (v : Valuation) → HasBits m c sc v → length c ≡ n → EachHelps hs sc
    → (cs : List (List Bit4)) × AllHaveBits ms cs sc v × (stacked cs ≡ tabulated (n - high) (λ j. stored_at bs c (high + j)))

-- Wherever the text has its helpers, an expression stands for each path that the reading reads, in each context.
abbrev pub ReadsPath : Reading → SvType → List Helper → T.Meaning → Type 0
ReadsPath r t hs m = (e : S.Meaning) (a : Around) (sc : Scope) (v : Valuation) → e.of ≡ layout t → IsPath e a → 1 ≤ S.wide e → Reads r e a sc v → EachHelps hs sc
    → (w : ℕ) (s : Bool) → Same e w s a m sc v

-- the bits from low up to, but not including, high are like the one below high
abbrev pub IsSteady : List Bit4 → ℕ → ℕ → Type 0
IsSteady bits low high = (j : ℕ) → low ≤ j → j < high → slice_index_or bits j X ≡ slice_index_or bits (high - 1) X
