-- What targets in words of a memory are made of: its name with the select of a word, and with one more at most (IEEE 1364-2005
-- clauses 4.9 and 9.2).
use Rattle.std.specs.Prelude.{◌≡◌, ⊤, ℕ, ◌≤◌, List, [], ◌∷◌, length}
use Rattle.v_tree.specs.Names.{Name}
use Rattle.v_tree.specs.declared.expressions.VSel.{VSel}
use Rattle.v_tree.specs.declared.statements.VLval.{VLval}
use Rattle.v_tree.specs.declared.statements.VLval.TheVariants as L
use Rattle.v_meaning.specs.Values.{sel_meaning}
use Rattle.target_flatten.specs.declared.writes.Write.{Write}
use Rattle.target_flatten.specs.Owning.{AllOwn}
use Rattle.memory_targets.specs.declared.words.Word.{Word}
use Rattle.memory_targets.specs.Words.{word_sel}

-- this name with the select of the word, and one behind it at most; none where a word has one bit
pub record IsOwnInWord (name : Name) (bits : ℕ) (w : Word) (to : VLval) : Type 0 where
  pub sel : VSel
  pub word : sel_meaning sel ≡ word_sel w
  pub behind : List VSel
  pub is : to ≡ L.Name name (sel ∷ behind)
  pub few : length behind ≤ 1
  pub bare : bits ≡ 1 → behind ≡ []

abbrev pub AllOwnInWord : Name → ℕ → Word → List Write → Type 0
AllOwnInWord name bits w [] = ⊤
AllOwnInWord name bits w (x ∷ xs) = IsOwnInWord name bits w x.to × AllOwnInWord name bits w xs

-- Targets in a word are such, where those in the word alone are its name with a select at most.
abbrev pub OwnInWord : Word → List Write → List Write → Type 0
OwnInWord w alone made = (name : Name) (bits : ℕ) → AllOwn name bits alone → AllOwnInWord name bits w made
