-- What writes a path in a word alone writes the path on the element to the element's word.
use Rattle.std.proofs.Common.{◌≡◌, ℕ, ◌*◌, Bool, List, length, Option, arith, ap, sym, ◌∙◌, subst}
use Rattle.row_machine.specs.Valuation.{Valuation}
use Rattle.picks.specs.Windows.{whole}
use Rattle.sv_types.specs.declared.expression.Expr.{Expr}
use Rattle.sv_types.specs.declared.types.SvType.{SvType}
use Rattle.sv_types.specs.Layouts.{layout, width_of, count_of, stored}
use Rattle.sv_types.specs.Windows.{element_of}
use Rattle.sv_types.specs.Surroundings.{Around}
use Rattle.sv_types.specs.Meanings as S
use Rattle.sv_types.specs.Meanings.{written_at}
use Rattle.sv_types.specs.Paths as P
use Rattle.sv_types.specs.Expressions.{meaning}
use Rattle.v_tree.specs.Names.{Name}
use Rattle.v_meaning.specs.Scopes.{Scope, named}
use Rattle.v_meaning.specs.Selects.{SelMeaning}
use Rattle.v_meaning.specs.Values as T
use Rattle.lowering_laws.specs.Agreeing.{Images, AreDistinct}
use Rattle.lowering_laws.specs.Held.{marked}
use Rattle.lowering_laws.specs.Reached.{IsWritten}
use Rattle.lowering_laws.proofs.Changes.{HasPieces}
use Rattle.lowering_laws.proofs.Wholes.{type-whole}
use Rattle.lowering_laws.proofs.WriteAt.{IsTight}
use Rattle.target_laws.specs.Seeing.{IsSeen}
use Rattle.typed_paths.specs.Typed.{Indexing, IsTypedPath}
use Rattle.typed_paths.proofs.Converting.{converted, holds-bits}
use Rattle.typed_paths.proofs.Opening.{stands-on}
use Rattle.memory_laws.specs.InWords.{IsMemoryOf, Inner, alone_pieces, word_pieces, SelectsWord, IsWrittenInWords}
use Rattle.memory_paths.proofs.Changing.{InWords, words-pieces}
use Rattle.memory_laws.proofs.Writing.{words-written}
use Rattle.memory_paths.specs.Inner.{IsInner}
use Rattle.memory_paths.proofs.Tight.{outer-tight, inner-tight}
use Rattle.memory_paths.proofs.Inner.{same-wide, inner-typed, inner-seen, outer-puts}

module _ (n : ℕ) (t : SvType) (i e d : Expr) (inner : IsInner n t i e d) (typed : (meaning e).misfits ≡ 0) (xs : List Indexing) (part : Bool) (path : IsTypedPath n t e xs part) where
  abbrev w : ℕ
  w = length (layout t).element.two_state

  -- the array is all of its elements
  array-whole : count_of (layout t).left (layout t).right * w ≡ width_of t
  array-whole = (type-whole t (holds-bits n t e xs part path typed)).elements

  module _ (a : Around) (name : Name) (g : Option T.Meaning) (s : SelMeaning) (sc : Scope) (v : Valuation) (memory : IsMemoryOf name (count_of (layout t).left (layout t).right) w sc)
      (selects : SelectsWord (layout t) (P.index_of (meaning i) a) g s sc v) (ys : List Inner) (alone : IsWritten ((meaning d).window a) (S.wide (meaning d)) 0 (alone_pieces w ys) sc v) where
    pub path-in-words : IsWrittenInWords (layout t) ((meaning e).window a) (S.wide (meaning e)) (named sc.names name).number (word_pieces name g s ys) sc v
    path-in-words =
        let same = same-wide n t i e d inner in
        words-written (layout t) (P.index_of (meaning i) a) name g s sc v memory selects ((meaning e).window a) ((meaning d).window a) (S.wide (meaning e)) (outer-tight n t i a e d inner typed)
        (subst (IsTight ((meaning d).window a)) same (inner-tight n t i a e d inner (inner-typed n t i e d inner typed)))
        (subst (λ k. IsSeen ((meaning e).window a) (element_of (layout t) (P.index_of (meaning i) a) (whole k)) ((meaning d).window a)) (sym array-whole) (inner-seen n t i a e d inner typed)) ys
        (subst (λ k. IsWritten ((meaning d).window a) k 0 (alone_pieces w ys) sc v) same alone)

    -- and the images change as by a write through the path
    module _ (im : Images) (distinct : AreDistinct im) (number : im.number n ≡ (named sc.names name).number) (width : im.width n ≡ width_of t) (marks : (j : ℕ) → im.two_state n j ≡ marked (layout t).two_state j)
        (in_words : InWords im n (layout t)) where
      pub path-changes-words : HasPieces im (meaning e) (word_pieces name g s ys) a sc v
      path-changes-words =
          let some = holds-bits n t e xs part path typed in
          words-pieces im distinct (meaning e) a n (layout t) (omega arith) (width ∙ sym array-whole) in_words (word_pieces name g s ys) sc v (outer-tight n t i a e d inner typed)
          (converted (im.two_state n) n t e xs part a path typed marks)
          (subst (λ k. IsWrittenInWords (layout t) ((meaning e).window a) (S.wide (meaning e)) k (word_pieces name g s ys) sc v) (sym number) path-in-words)
          (λ bits. outer-puts n t i e d inner a bits ∙ ap (λ o. written_at o ((meaning e).window a) (stored (meaning e).of.two_state bits)) (stands-on n t e xs part path))
