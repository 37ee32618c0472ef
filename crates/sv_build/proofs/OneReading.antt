-- Tokens have one reading at most.
use Rattle.std.proofs.Common.{◌≡◌, ℕ, List, Option, Some, refl, sym, ap, ◌∙◌}
use Rattle.std.specs.List.{slice_get}
use Rattle.ll_engine.specs.declared.tree.Tree.{Tree}
use Rattle.ll_engine.proofs.Laws.{one_answer}
use Rattle.sv_source.specs.declared.refusal.Refusal.{Refusal}
use Rattle.sv_source.specs.declared.token.Token.{Token}
use Rattle.sv_tree.proofs.Fit.{table_fits}
use Rattle.sv_tree.specs.Table.{table}
use Rattle.sv_tree.specs.declared.units.SourceTree.{SourceTree}
use Rattle.sv_tree.specs.declared.units.Unit.{Unit as Description}
use Rattle.expr_build.specs.Expressions.{nesting_limit}
use Rattle.sv_build.specs.Items.{units_of}
use Rattle.sv_build.specs.Attributes.{without_attributes}
use Rattle.sv_build.specs.Reading.{symbols, at_token, fails_at, nests_at, ReadsBy, BreakBy, fails, nests, OneReading}

a-tree : List Description → List Token → SourceTree
a-tree units tokens = record { units = units; tokens = tokens }

module _ (tokens : List Token) (by : List ℕ) where
  same-tree : (a b : SourceTree) → ReadsBy tokens by a → ReadsBy tokens by b → a ≡ b
  unfolding a-tree
  same-tree a b x y =
      let answers = one_answer table table_fits by nesting_limit in
      let same : x.derivation ≡ y.derivation = answers.reading x.derivation y.derivation x.is_reading y.is_reading in
      let units : a.units ≡ b.units = x.means ∙ ap units_of same ∙ sym y.means in
      let kept : a.tokens ≡ b.tokens = x.keeps ∙ sym y.keeps in
      λ i. a-tree (units i) (kept i)

  apart : (a : SourceTree) (r : Refusal) → ReadsBy tokens by a → BreakBy tokens by r → ⊥
  apart a r x (fails at f e) = (one_answer table table_fits by nesting_limit).reads_or_fails x.derivation at x.is_reading f
  apart a r x (nests at p e) = (one_answer table table_fits by nesting_limit).reads_or_passes x.derivation at x.is_reading p

  one-refusal : (o : Option Refusal) (r s : Refusal) → o ≡ Some r → o ≡ Some s → r ≡ s
  one-refusal o r s e f = (let both : Some r ≡ Some s = sym e ∙ f in cc)

  same-break : (r s : Refusal) → BreakBy tokens by r → BreakBy tokens by s → r ≡ s
  same-break r s (fails i f e) (fails j g h) =
      let at : i ≡ j = (one_answer table table_fits by nesting_limit).fails i j f g in
      one-refusal (at_token fails_at (slice_get tokens j)) r s (sym (ap (λ n. at_token fails_at (slice_get tokens n)) at) ∙ e) h
  same-break r s (nests i p e) (nests j q h) =
      let at : i ≡ j = (one_answer table table_fits by nesting_limit).passes i j p q in
      one-refusal (at_token nests_at (slice_get tokens j)) r s (sym (ap (λ n. at_token nests_at (slice_get tokens n)) at) ∙ e) h
  same-break r s (fails i f e) (nests j q h) = absurd ((one_answer table table_fits by nesting_limit).fails_or_passes i j f q)
  same-break r s (nests i p e) (fails j g h) = absurd ((one_answer table table_fits by nesting_limit).fails_or_passes j i g p)

pub one_reading : (tokens : List Token) → OneReading tokens
one_reading tokens = record {
  one_tree = same-tree (without_attributes tokens) (symbols (without_attributes tokens));
  not_both = apart (without_attributes tokens) (symbols (without_attributes tokens));
  one_break = same-break (without_attributes tokens) (symbols (without_attributes tokens));
}
