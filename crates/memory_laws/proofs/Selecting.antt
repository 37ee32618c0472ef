-- Selects of a word of a memory.
use Rattle.std.proofs.Common.{◌≡◌, ℕ, ◌*◌, ◌&&◌, cond, ℤ, pos, ◌*ℤ◌, List, [], ◌∷◌, Option, Some, None, refl, ap, sym, ◌∙◌}
use Rattle.std.specs.Prelude.{int_le, int_lt}
use Rattle.row_machine.specs.Valuation.{Valuation}
use Rattle.picks.specs.Windows.{Window, whole, nowhere, part}
use Rattle.v_meaning.specs.Scopes.{Named, Scope}
use Rattle.v_meaning.specs.Selects.{Path, SelMeaning, select, bits_named, lowest, taken, path_from, width_from}
use Rattle.v_meaning.specs.Values as T
use Rattle.lowering_laws.proofs.WriteAt.{IsTight, nowhere-tight, part-tight}
use Rattle.target_laws.specs.Seeing.{IsSeen}
use Rattle.target_laws.proofs.Seeing.{seen-nowhere}
use Rattle.memory_laws.specs.InWords.{word_alone}
use Rattle.memory_laws.proofs.Shifting.{seen-part}

-- a path of w bits that is no memory
abbrev pub of-bits : Window → ℕ → Path
of-bits p w = record { window = p; width = w; words = None }

-- one select
abbrev one : SelMeaning → Option ℤ → Window → Window
one s base p = elim base [ None ↦ nowhere | Some k ↦ part (lowest s.extent k) (taken s.decimal s.extent) p ]

one-seen : (s : SelMeaning) (base : Option ℤ) (p from q : Window) → IsSeen p from q → IsSeen (one s base p) from (one s base q)
one-seen s None p from q h = seen-nowhere from
one-seen s (Some k) p from q h = seen-part p from q (lowest s.extent k) (taken s.decimal s.extent) h

one-tight : (s : SelMeaning) (base : Option ℤ) (p : Window) → IsTight (one s base p) (taken s.decimal s.extent)
one-tight s None p = nowhere-tight (taken s.decimal s.extent)
one-tight s (Some k) p = part-tight (lowest s.extent k) (taken s.decimal s.extent) p

-- all of them
pub selects-seen : (ss : List SelMeaning) (sc : Scope) (v : Valuation) (w : ℕ) (p from q : Window) → IsSeen p from q → IsSeen (path_from sc v ss (of-bits p w)).window from (path_from sc v ss (of-bits q w)).window
selects-seen [] sc v w p from q h = h
selects-seen (s ∷ ss) sc v w p from q h = selects-seen ss sc v (taken s.decimal s.extent) (one s (s.base sc v) p) from (one s (s.base sc v) q) (one-seen s (s.base sc v) p from q h)

pub selects-tight : (ss : List SelMeaning) (sc : Scope) (v : Valuation) (w : ℕ) (p q : Window) → IsTight p w → IsTight (path_from sc v ss (of-bits p w)).window (width_from ss (of-bits q w)).width
selects-tight [] sc v w p q h = h
selects-tight (s ∷ ss) sc v w p q h = selects-tight ss sc v (taken s.decimal s.extent) (one s (s.base sc v) p) nowhere (one-tight s (s.base sc v) p)

-- how many bits they name hangs on no window
pub selects-width : (ss : List SelMeaning) (w all : ℕ) (p q : Window) → bits_named (width_from ss (of-bits p w)) all ≡ (width_from ss (of-bits q w)).width
selects-width [] w all p q = refl
selects-width (s ∷ ss) w all p q = selects-width ss (taken s.decimal s.extent) all nowhere nowhere

-- The word that a base names.
abbrev pub word-window : ℕ → ℕ → Option ℤ → Window → Window
word-window count w base p = elim base [ None ↦ nowhere | Some k ↦ cond (int_le (pos 0) k && int_lt k (pos count)) (part (k *ℤ pos w) w p) nowhere ]

pub word-path : (n : Named) (s : SelMeaning) (ss : List SelMeaning) (count : ℕ) (sc : Scope) (v : Valuation) → n.words ≡ Some count
    → (T.path_of n (s ∷ ss) sc v).window ≡ (path_from sc v ss (of-bits (word-window count n.width (s.base sc v) (whole (count * n.width))) n.width)).window
word-path n s ss count sc v is =
    ap (λ (ws : Option ℕ). (path_from sc v ss (select s (s.base sc v) (record { window = whole (elim ws [ None ↦ n.width | Some c ↦ c * n.width ]); width = n.width; words = ws }))).window) is

pub word-wide : (n : Named) (s : SelMeaning) (ss : List SelMeaning) (count : ℕ) → n.words ≡ Some count → T.width_of n (s ∷ ss) ≡ T.width_of (word_alone n.width) ss
word-wide n s ss count is =
    ap (λ (ws : Option ℕ). bits_named (width_from ss (select s None (record { window = whole (elim ws [ None ↦ n.width | Some c ↦ c * n.width ]); width = n.width; words = ws }))) (elim ws [ None ↦ n.width | Some c ↦ c * n.width ])) is
    ∙ selects-width ss n.width (count * n.width) nowhere nowhere
    ∙ sym (selects-width ss n.width n.width (whole n.width) nowhere)
