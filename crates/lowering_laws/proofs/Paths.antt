-- Select paths without a guard: a name of the target with a select of the same bits.
use Rattle.std.proofs.Common.{◌≡◌, ℕ, ◌*◌, ◌<◌, Bool, true, false, length, List, [], ◌∷◌, Option, Some, None, refl, arith, sym, ◌∙◌, ap, true≢false}
use Rattle.b4_core.specs.declared.bit.Bit4.{Bit4}
use Rattle.b4_core.specs.Vectors.{ext}
use Rattle.row_machine.specs.Valuation.{Valuation}
use Rattle.row_machine.specs.Places.{vector_at}
use Rattle.picks.specs.Windows.{Window, whole, nowhere, part, picked, bit_at, seen}
use Rattle.sv_types.specs.Layouts.{Layout, stored}
use Rattle.sv_types.specs.Surroundings.{Around}
use Rattle.sv_types.specs.Meanings as S
use Rattle.sv_types.specs.Meanings.{Path}
use Rattle.sv_types.proofs.Picks.{tabulated-same, length-tabulated}
use Rattle.sv_types.proofs.Stored.{length-stored}
use Rattle.v_tree.specs.Names.{Name}
use Rattle.v_meaning.specs.Scopes.{Scope, Named, named, all_bits}
use Rattle.v_meaning.specs.Selects.{SelMeaning, select, taken, lowest, bits_named}
use Rattle.v_meaning.specs.Values as T
use Rattle.v_meaning.specs.Values.{decimal_base, expression_base}
use Rattle.lowering_laws.specs.Images.{IsImage, raw}
pub use Rattle.lowering_laws.specs.Steps.{IsPath, AllFour}
use Rattle.lowering_laws.proofs.Extensions.{ext-at}
use Rattle.lowering_laws.proofs.Constants.{IsItself}

pub selected-is-path : (of : Layout) (at : ℕ) (p : Path) (a : Around) → IsPath (S.selected of at p) a
selected-is-path of at p a = record { value = λ w s. refl }

pub length-raw : (e : S.Meaning) (a : Around) → length (raw e a) ≡ S.wide e
length-raw e a = length-tabulated (S.wide e) _

pub path-alone : (e : S.Meaning) (a : Around) → IsPath e a → S.alone e a ≡ stored e.of.two_state (raw e a)
path-alone e a p = p.value (S.wide e) (S.signed e) ∙ ext-at (S.wide e) (S.signed e) _ (length-stored e.of.two_state (raw e a) (length-raw e a))

pub path-itself : (e : S.Meaning) (a : Around) → IsPath e a → IsItself e a
path-itself e a p w s = p.value w s ∙ sym (ap (ext w s) (path-alone e a p))

-- the types of four-state bits store what they are given
pub stored-four-bits : (bs : List Bool) (v : List Bit4) → AllFour bs → length v ≡ length bs → stored bs v ≡ v
stored-four-bits [] [] h long = refl
stored-four-bits [] (x ∷ v) h long = absurd (omega arith)
stored-four-bits (true ∷ bs) v h long = absurd (true≢false h.0)
stored-four-bits (false ∷ bs) [] h long = absurd (omega arith)
stored-four-bits (false ∷ bs) (x ∷ v) h long = ap (λ y. x ∷ y) (stored-four-bits bs v h.1 (omega arith))

-- One select of a vector.
abbrev pub selected-window : SelMeaning → Scope → Valuation → ℕ → Window
selected-window s sc v w = elim (s.base sc v) [ None ↦ nowhere | Some k ↦ part (lowest s.extent k) (taken s.decimal s.extent) (whole w) ]

all-bits : (n : Named) → n.words ≡ None → all_bits n ≡ n.width
all-bits n is = ap (λ (ws : Option ℕ). elim ws [ None ↦ n.width | Some count ↦ count * n.width ]) is

pub one-window : (n : Named) (s : SelMeaning) (sc : Scope) (v : Valuation) → n.words ≡ None → (T.path_of n (s ∷ []) sc v).window ≡ selected-window s sc v n.width
one-window n s sc v is =
    ap (λ (ws : Option ℕ). (select s (s.base sc v) (record { window = whole (elim ws [ None ↦ n.width | Some count ↦ count * n.width ]); width = n.width; words = ws })).window) is

pub one-width : (n : Named) (s : SelMeaning) → n.words ≡ None → T.width_of n (s ∷ []) ≡ taken s.decimal s.extent
one-width n s is =
    ap (λ (ws : Option ℕ). bits_named (select s None (record { window = whole (elim ws [ None ↦ n.width | Some count ↦ count * n.width ]); width = n.width; words = ws })) (elim ws [ None ↦ n.width | Some count ↦ count * n.width ])) is

pub no-window : (n : Named) (sc : Scope) (v : Valuation) → n.words ≡ None → (T.path_of n [] sc v).window ≡ whole n.width
no-window n sc v is = ap whole (all-bits n is)

pub no-width : (n : Named) → n.words ≡ None → T.width_of n [] ≡ n.width
no-width n is = ap (λ (ws : Option ℕ). bits_named (record { window = whole 0; width = n.width; words = ws }) (elim ws [ None ↦ n.width | Some c ↦ c * n.width ])) is

-- A name with selects that names the same bits reads what the path reads.
pub record SameBits (e : S.Meaning) (a : Around) (name : Name) (sels : List SelMeaning) (sc : Scope) (v : Valuation) : Type 0 where
  pub image : IsImage e a (named sc.names name) v
  pub width : T.width_of (named sc.names name) sels ≡ S.wide e
  pub bits : (j : ℕ) → j < S.wide e → picked (e.window a) j ≡ picked (T.path_of (named sc.names name) sels sc v).window j

value-same : (e : S.Meaning) (a : Around) (name : Name) (sels : List SelMeaning) (sc : Scope) (v : Valuation)
    → SameBits e a name sels sc v → T.value_of (named sc.names name) sels sc v ≡ raw e a
value-same e a name sels sc v h =
    let n = named sc.names name in
    let window = (T.path_of n sels sc v).window in
    ap (λ k. seen (vector_at v n.number k) window (T.width_of n sels)) (all-bits n h.image.vector)
    ∙ (λ i. seen (h.image.holds i) window (h.width i))
    ∙ tabulated-same (S.wide e) _ _ (λ j k. ap (bit_at (e.base a)) (sym (h.bits j k)))

pub reference-alone : (e : S.Meaning) (a : Around) (name : Name) (sels : List SelMeaning) (sc : Scope) (v : Valuation)
    → SameBits e a name sels sc v → ((T.reference name sels).width sc ≡ S.wide e) × (T.alone (T.reference name sels) sc v ≡ raw e a)
unfolding T.reference
reference-alone e a name sels sc v h =
    (h.width, (λ i. ext (h.width i) false (value-same e a name sels sc v h i)) ∙ ext-at (S.wide e) false (raw e a) (length-raw e a))
