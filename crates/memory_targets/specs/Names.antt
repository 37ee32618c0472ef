-- Which signals and locals targets in words name (IEEE 1800-2017 clause 9.4.2.2).
use Rattle.std.specs.Prelude.{◌≡◌, ℕ, List, [], ◌∷◌, ◌++◌}
use Rattle.v_tree.specs.Names.{Name}
use Rattle.v_meaning.specs.Scopes.{Scope}
use Rattle.lowering_laws.specs.Reached.{Piece}
use Rattle.path_flatten.specs.Naming.{SameNumbers}
use Rattle.target_flatten.specs.declared.writes.Write.{Write}
use Rattle.target_flatten.specs.Naming.{guard_names, piece_names}
use Rattle.target_flatten.specs.Owning.{AllOwn}
use Rattle.target_flatten.specs.Writing.{pieces}
use Rattle.memory_targets.specs.declared.words.Word.{Word}
use Rattle.memory_targets.specs.Words.{word_sel, word_guard}

-- a word, by its guard and its number
abbrev pub word_names : Word → Scope → List ℕ
word_names w sc = guard_names (word_guard w) sc ++ (word_sel w).names sc

-- targets, one behind the other
abbrev pub pieces_names : List Piece → Scope → List ℕ
pieces_names [] sc = []
pieces_names (p ∷ ps) sc = piece_names p sc ++ pieces_names ps sc

-- If there is a target, they name what those in the word alone do, and what the word does.
abbrev pub AllNamed : Word → List Write → List Write → Scope → Type 0
AllNamed w [] made sc = made ≡ []
AllNamed w (x ∷ xs) made sc = SameNumbers (word_names w sc ++ pieces_names (pieces (x ∷ xs)) sc) (pieces_names (pieces made) sc)

abbrev pub NamedInWord : Word → List Write → List Write → Type 0
NamedInWord w alone made = (name : Name) (bits : ℕ) → AllOwn name bits alone → (sc : Scope) → AllNamed w alone made sc
