-- What targets in a word write, by what they write in the word alone.
use Rattle.std.proofs.Common.{◌≡◌, ℕ, Bool, cond, List, [], ◌∷◌, length, take, drop, refl, ap, sym, ◌∙◌, subst}
use Rattle.b4_core.specs.declared.bit.Bit4.{Bit4}
use Rattle.picks.specs.Windows.{Window}
use Rattle.row_machine.specs.Steps.{unchanged, later_or}
use Rattle.row_machine.specs.Valuation.{Place, Valuation}
use Rattle.sv_types.specs.declared.expression.Expr.{Expr}
use Rattle.sv_types.specs.declared.types.SvType.{SvType}
use Rattle.sv_types.specs.Layouts.{layout, width_of, count_of}
use Rattle.sv_types.specs.Surroundings.{Around}
use Rattle.sv_types.specs.Meanings as S
use Rattle.sv_types.specs.Paths as P
use Rattle.sv_types.specs.Expressions.{meaning}
use Rattle.v_tree.specs.Names.{Name}
use Rattle.v_meaning.specs.Scopes.{Scope, named}
use Rattle.v_meaning.specs.Statements.{Target}
use Rattle.lowering_laws.specs.Agreeing.{Images, AreDistinct}
use Rattle.lowering_laws.specs.Held.{marked}
use Rattle.lowering_laws.specs.Placed.{holds}
use Rattle.lowering_laws.specs.Reached.{pieces_put, AreWide, AreBelow, IsWritten}
use Rattle.lowering_laws.proofs.Changes.{HasPieces}
use Rattle.path_flatten.specs.Guards.{guard_meaning}
use Rattle.target_laws.specs.Vectors.{vector_target}
use Rattle.typed_paths.specs.Typed.{Indexing, IsTypedPath}
use Rattle.memory_laws.specs.InWords.{IsMemoryOf, word_alone, alone_pieces, word_pieces, SelectsWord, IsWrittenInWords}
use Rattle.memory_paths.proofs.Changing.{InWords}
use Rattle.memory_paths.specs.Inner.{IsInner}
use Rattle.memory_paths.proofs.InWords.{path-in-words, path-changes-words}
use Rattle.target_flatten.specs.declared.writes.Write.{Write}
use Rattle.target_flatten.specs.Owning.{IsOwn, AllOwn}
use Rattle.target_flatten.specs.Writing.{pieces, in_vector, pieces_in, WritesPath}
use Rattle.memory_targets.specs.declared.words.Word.{Word}
use Rattle.memory_targets.specs.Words.{word_sel, word_guard}
use Rattle.memory_targets.specs.Pieces.{selects_in, inners, AllInWord}
use Rattle.memory_targets.proofs.Naming.{selects-are, vector-are, piece-in}

-- in the word alone
module _ (w : ℕ) (name : Name) (bits : ℕ) (sc : Scope) (v : Valuation) where
  alone-is : (x : Write) → IsOwn name bits x.to → in_vector (word_alone w) x.to ≡ vector_target (word_alone w) (selects_in x.to)
  alone-is x own =
      ap (in_vector (word_alone w)) own.is ∙ vector-are name own.sels (word_alone w) ∙ ap (vector_target (word_alone w)) (sym (ap selects_in own.is ∙ selects-are name own.sels))

  alone-wide : (xs : List Write) → AllOwn name bits xs → AreWide (pieces_in (word_alone w) xs) sc → AreWide (alone_pieces w (inners xs)) sc
  alone-wide [] own h = tt
  alone-wide (x ∷ xs) own h = (ap (λ (t : Target). t.width sc) (sym (alone-is x own.0)) ∙ h.0, alone-wide xs own.1 h.1)

  alone-below : (n : ℕ) (xs : List Write) → AreBelow n (pieces_in (word_alone w) xs) → AreBelow n (alone_pieces w (inners xs))
  alone-below n [] h = tt
  alone-below n (x ∷ xs) h = (h.0, alone-below n xs h.1)

  alone-puts : (xs : List Write) → AllOwn name bits xs → (kept : List Bit4) (q : Place) → pieces_put (alone_pieces w (inners xs)) sc v kept q ≡ pieces_put (pieces_in (word_alone w) xs) sc v kept q
  alone-puts [] own kept q = refl
  alone-puts (x ∷ xs) own kept q =
      let there = alone-is x own.0 in
      λ d. later_or (alone-puts xs own.1 kept q d) (cond (holds (guard_meaning x.guard) sc v) ((sym there d).puts sc v (take x.width (drop x.low kept))) unchanged q)

  pub alone-written : (path : Window) (n : ℕ) (xs : List Write) → AllOwn name bits xs → IsWritten path n 0 (pieces_in (word_alone w) xs) sc v → IsWritten path n 0 (alone_pieces w (inners xs)) sc v
  alone-written path n xs own h = record { wide = alone-wide xs own h.wide; below = alone-below n xs h.below; puts = λ kept long q. alone-puts xs own kept q ∙ h.puts kept long q }

-- in the word of a memory
pub words-are : (w : Word) (name : Name) (bits : ℕ) (xs ys : List Write) → AllOwn name bits xs → AllInWord w xs ys → pieces ys ≡ word_pieces name (word_guard w) (word_sel w) (inners xs)
words-are w name bits [] [] own h = refl
words-are w name bits [] (y ∷ ys) own h = absurd h
words-are w name bits (x ∷ xs) [] own h = absurd h
words-are w name bits (x ∷ xs) (y ∷ ys) own h = λ d. piece-in w x y name own.0.sels own.0.is h.0 d ∷ words-are w name bits xs ys own.1 h.1 d

-- Targets of the path in the element, whose selects write it in a word alone, write the path on the element to the memory's words.
module _ (n : ℕ) (t : SvType) (i e inner : Expr) (in_element : IsInner n t i e inner) (typed : (meaning e).misfits ≡ 0) (xs : List Indexing) (part : Bool) (path : IsTypedPath n t e xs part)
    (word : Word) (name : Name) (bits : ℕ) (alone made : List Write) (own : AllOwn name bits alone) (all : AllInWord word alone made) (a : Around) (sc : Scope) (v : Valuation)
    (memory : IsMemoryOf name (count_of (layout t).left (layout t).right) (length (layout t).element.two_state) sc)
    (selects : SelectsWord (layout t) (P.index_of (meaning i) a) (word_guard word) (word_sel word) sc v)
    (written : WritesPath (word_alone (length (layout t).element.two_state)) (meaning inner) a (pieces_in (word_alone (length (layout t).element.two_state)) alone) sc v) where
  abbrev w : ℕ
  w = length (layout t).element.two_state

  pub targets-written : IsWrittenInWords (layout t) ((meaning e).window a) (S.wide (meaning e)) (named sc.names name).number (pieces made) sc v
  targets-written =
      subst (λ ps. IsWrittenInWords (layout t) ((meaning e).window a) (S.wide (meaning e)) (named sc.names name).number ps sc v) (sym (words-are word name bits alone made own all))
      (path-in-words n t i e inner in_element typed xs part path a name (word_guard word) (word_sel word) sc v memory selects (inners alone)
      (alone-written w name bits sc v ((meaning inner).window a) (S.wide (meaning inner)) alone own written))

  module _ (im : Images) (distinct : AreDistinct im) (number : im.number n ≡ (named sc.names name).number) (width : im.width n ≡ width_of t) (marks : (j : ℕ) → im.two_state n j ≡ marked (layout t).two_state j)
      (in_words : InWords im n (layout t)) where
    pub targets-change : HasPieces im (meaning e) (pieces made) a sc v
    targets-change =
        subst (λ ps. HasPieces im (meaning e) ps a sc v) (sym (words-are word name bits alone made own all))
        (path-changes-words n t i e inner in_element typed xs part path a name (word_guard word) (word_sel word) sc v memory selects (inners alone)
        (alone-written w name bits sc v ((meaning inner).window a) (S.wide (meaning inner)) alone own written) im distinct number width marks in_words)
