-- What a text reads as can be written again.
use Rattle.std.specs.Prelude.{◌≡◌, ℕ, true, List}
use Rattle.v_tree.specs.declared.items.VDesign.{VDesign}
use Rattle.v_tree.specs.Grammatical.{is_of_grammar}
use Rattle.v_tree.specs.Reading.{Spells}

-- A design that a text spells is one of the grammar.
abbrev pub ReadsAreOfGrammar : Type 0
ReadsAreOfGrammar = (bytes : List ℕ) (e : VDesign) → Spells bytes e → is_of_grammar e ≡ true
