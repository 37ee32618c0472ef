-- Targets of a path in a word alone, and in the word of a memory (IEEE 1364-2005 clauses 4.9 and 9.2).
use Rattle.std.specs.Prelude.{◌≡◌, ⊤, List, [], ◌∷◌, map}
use Rattle.v_tree.specs.Names.{Name}
use Rattle.v_tree.specs.declared.expressions.VSel.{VSel}
use Rattle.v_tree.specs.declared.statements.VLval.{VLval, VLval-F, out-VLval}
use Rattle.v_tree.specs.declared.statements.VLval.TheVariants as L
use Rattle.v_meaning.specs.Selects.{SelMeaning}
use Rattle.v_meaning.specs.Values.{sel_meaning}
use Rattle.path_flatten.specs.Guards.{guard_meaning}
use Rattle.lowering_laws.specs.Terms.{and_guard}
use Rattle.memory_laws.specs.InWords.{Inner}
use Rattle.target_flatten.specs.declared.writes.Write.{Write}
use Rattle.memory_targets.specs.declared.words.Word.{Word}
use Rattle.memory_targets.specs.Words.{word_sel, word_guard}

-- the selects of a target, and a target by them
abbrev pub selects_in : VLval → List SelMeaning
selects_in to = elim (out-VLval to) [ VLval-F.Name name sels ↦ map sel_meaning sels | VLval-F.Concat parts ↦ [] ]

abbrev pub inner_of : Write → Inner
inner_of x = record { guard = guard_meaning x.guard; sels = selects_in x.to; low = x.low; width = x.width }

abbrev pub inners : List Write → List Inner
inners xs = map inner_of xs

-- a select of the word, and these behind it
pub record IsBehindWord (w : Word) (sels news : List VSel) : Type 0 where
  pub sel : VSel
  pub word : sel_meaning sel ≡ word_sel w
  pub is : news ≡ sel ∷ sels

-- A name with selects is the same name with them behind the select of the word.
pub record HasWordAhead (w : Word) (name : Name) (sels : List VSel) (new : VLval) : Type 0 where
  pub news : List VSel
  pub is : new ≡ L.Name name news
  pub behind : IsBehindWord w sels news

abbrev pub TargetInWord : Word → VLval → VLval → Type 0
TargetInWord w to new = (name : Name) (sels : List VSel) → to ≡ L.Name name sels → HasWordAhead w name sels new

-- and a target for some bits of a value is one for the same bits in the word
pub record InWord (w : Word) (x new : Write) : Type 0 where
  pub to : TargetInWord w x.to new.to
  pub guard : guard_meaning new.guard ≡ and_guard (word_guard w) (guard_meaning x.guard)
  pub low : new.low ≡ x.low
  pub width : new.width ≡ x.width

-- one by one
abbrev pub AllInWord : Word → List Write → List Write → Type 0
AllInWord w [] [] = ⊤
AllInWord w [] (y ∷ ys) = ⊥
AllInWord w (x ∷ xs) [] = ⊥
AllInWord w (x ∷ xs) (y ∷ ys) = InWord w x y × AllInWord w xs ys
