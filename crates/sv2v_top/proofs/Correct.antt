-- Source tokens that read and are refused nothing elaborate to a design that can be translated.
use Rattle.std.proofs.Common.{◌≡◌, ℕ, true, not, ◌||◌, List, Some, Err, inl, inr, sym, ap, subst, ◌∙◌}
use Rattle.std.specs.List.{All}
use Rattle.sv_source.specs.declared.token.Token.{Token}
use Rattle.sv_source.specs.declared.refusal.Fail.{Fail}
use Rattle.sv_source.specs.declared.refusal.Fail.TheVariants.{Memory, Refused}
use Rattle.sv_source.specs.declared.refusal.Refusal.{Refusal}
use Rattle.sv_macro.specs.Tokens.{is_name_kind}
use Rattle.core_forms.specs.Typed.{typed}
use Rattle.lower_design.specs.Designs.{IsTranslatable}
use Rattle.lower_design.proofs.TypedDesigns.{typed-translatable}
use Rattle.v_tree.specs.Tokens.{is_simple}
use Rattle.sv_types.specs.declared.design.Design.{Design}
use Rattle.sv_tree.specs.declared.units.SourceTree.{SourceTree}
use Rattle.sv_build.specs.Reading.{Reads, ReadingGives}
use Rattle.sv2v_top.specs.source.Elaboration.{design_of}
use Rattle.sv2v_top.specs.source.Answers.{Elaborated, TreeGives}
use Rattle.sv2v_top.specs.Tokens.{is_simply_named, NamesAreSimple}
use Rattle.sv2v_top.specs.Translation.{TranslationGives}
use Rattle.sv2v_top.proofs.Readable.{IsName, names-built}
use Rattle.sv2v_top.proofs.Built.{translatable}
use Rattle.sv2v_top.proofs.Kept.{all-left, all-at}

abbrev Simply : Token → Type 0
Simply t = is_simply_named t ≡ true

-- a token that is a name and simply named has a simple text
pub simple-name : (t : Token) → is_name_kind t.kind ≡ true → is_simply_named t ≡ true → is_simple t.text ≡ true
simple-name t e holds = ap (λ b. not b || is_simple t.text) (sym e) ∙ holds

module _ (top : List ℕ) (tokens : List Token) (tree : SourceTree) (reads : Reads tokens tree) (d : Design) (e : Elaborated tree top d)
    (names : NamesAreSimple tokens) where
  simple : (w : List ℕ) → IsName tree.tokens w → is_simple w ≡ true
  simple w n =
      let left : All Simply tree.tokens = subst (All Simply) (sym reads.keeps) (all-left Simply tokens names) in
      subst (λ v. is_simple v ≡ true) n.is_word (simple-name n.token n.is_name (all-at Simply tree.tokens n.index n.token left n.is_there))

  pub correct : IsTranslatable d
  correct =
      subst IsTranslatable (sym e.is)
      (typed-translatable (design_of e.source) (translatable top tree.tokens e.source (names-built tree e.source e.builds) e.unbroken simple))

-- tokens that don't read have a break
pub unread-breaks : (top : List ℕ) (tokens : List Token) (e : Fail) → ReadingGives tokens (Err e) → TranslationGives top tokens (Err e)
unread-breaks top tokens Memory g = tt
unread-breaks top tokens (Refused r) g = record { cause = inl g }

-- and so have those whose tree is refused
pub refused-breaks : (top : List ℕ) (tokens : List Token) (tree : SourceTree) (e : Fail) → Reads tokens tree → TreeGives tree top (Err e) → TranslationGives top tokens (Err e)
refused-breaks top tokens tree Memory x g = tt
refused-breaks top tokens tree (Refused r) x g = record { cause = inr (tree, x, g) }
