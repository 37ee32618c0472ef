-- Files have one expansion, and so one first break at most.
use Rattle.std.proofs.Common.{◌≡◌, ◌⊎◌, ℕ, List, Some, None, sym, ap, subst, ◌∙◌, inl, inr}
use Rattle.std.specs.Option.{option_or}
use Rattle.sv_source.specs.Loading.{Contents}
use Rattle.sv_source.specs.declared.refusal.Refusal.{Refusal}
use Rattle.sv_source.specs.declared.token.Token.{Token}
use Rattle.sv_preproc.specs.Runs.{Outcome, expands, refused, Comes}
use Rattle.sv_preproc.proofs.OneOutcome.{only_outcome}
use Rattle.command_line.specs.declared.words.Asked.{Asked}
use Rattle.sv_tree.specs.declared.units.SourceTree.{SourceTree}
use Rattle.sv_build.specs.Reading.{Reads, SyntaxBreak}
use Rattle.sv_build.proofs.OneReading.{one_reading}
use Rattle.sv_types.specs.declared.design.Design.{Design}
use Rattle.built_forms.specs.Built.{built}
use Rattle.sv2v_top.specs.source.Answers.{refusal_by, tree_refusal}
use Rattle.sv2v_top.specs.Translation.{Accepted, Breaks}
use Rattle.sv2v_top.specs.Headline.{ExpandsTo, Cause, in_expansion, in_tokens}
use Rattle.sv2v_top.specs.Promises.{Accepts}

-- tokens that are accepted have no break
pub no-break : (top : List ℕ) (tokens : List Token) (d : Design) (r : Refusal) → Accepted top tokens d → Breaks top tokens r → ⊥
no-break top tokens d r a b = go b.cause
  where
    go : SyntaxBreak tokens r ⊎ ((tree : SourceTree) × Reads tokens tree × (tree_refusal tree top ≡ Some r)) → ⊥
    go (inl s) = (one_reading tokens).not_both a.tree r a.reads s
    go (inr n) =
        let same : a.tree ≡ n.0 = (one_reading tokens).one_tree a.tree n.0 a.reads n.1 in
        let none : tree_refusal a.tree top ≡ None =
        ap (λ o. option_or o (refusal_by (built a.tree) top)) a.elaborated.names ∙ ap (λ o. refusal_by o top) a.elaborated.builds ∙ a.elaborated.unbroken in
        let some : tree_refusal n.0 top ≡ Some r = n.2 in
        let both : tree_refusal a.tree top ≡ tree_refusal n.0 top = ap (λ (tree : SourceTree). tree_refusal tree top) same in
        let all : Some r ≡ None = sym some ∙ sym both ∙ none in
        cc

-- tokens have one first break
pub one-break : (top : List ℕ) (tokens : List Token) (r s : Refusal) → Breaks top tokens r → Breaks top tokens s → r ≡ s
one-break top tokens r s a b = go a.cause b.cause
  where
    go : SyntaxBreak tokens r ⊎ ((tree : SourceTree) × Reads tokens tree × (tree_refusal tree top ≡ Some r))
        → SyntaxBreak tokens s ⊎ ((tree : SourceTree) × Reads tokens tree × (tree_refusal tree top ≡ Some s)) → r ≡ s
    go (inl x) (inl y) = (one_reading tokens).one_break r s x y
    go (inl x) (inr y) = absurd ((one_reading tokens).not_both y.0 r y.1 x)
    go (inr x) (inl y) = absurd ((one_reading tokens).not_both x.0 s x.1 y)
    go (inr x) (inr y) =
        let same : x.0 ≡ y.0 = (one_reading tokens).one_tree x.0 y.0 x.1 y.1 in
        let both : tree_refusal x.0 top ≡ tree_refusal y.0 top = ap (λ (tree : SourceTree). tree_refusal tree top) same in
        let all : Some r ≡ Some s = sym x.2 ∙ both ∙ y.2 in
        cc

module _ (request : Asked) (contents : Contents) where
  -- files with these contents expand in one way
  one-expansion : (a b : Outcome) → Comes request.settings (Some contents) a → Comes request.settings (Some contents) b → a ≡ b
  one-expansion a b x y =
      only_outcome request.settings contents a b x y

  -- what an expansion gives
  pub data OneText (tokens other_tokens : List Token) (names other_names : List (List ℕ)) : Type 0 where
    one_text : tokens ≡ other_tokens → names ≡ other_names → OneText tokens other_tokens names other_names

  one-text : (tokens other_tokens : List Token) (names other_names : List (List ℕ))
      → ExpandsTo request (Some contents) tokens names → ExpandsTo request (Some contents) other_tokens other_names
      → OneText tokens other_tokens names other_names
  one-text tokens other_tokens names other_names x y =
      let same = one-expansion (expands tokens names) (expands other_tokens other_names) x y in
      let same_tokens : tokens ≡ other_tokens = cc in
      let same_names : names ≡ other_names = cc in
      one_text same_tokens same_names

  unlike : (ts : List Token) (names others : List (List ℕ)) (r : Refusal) → Comes request.settings (Some contents) (expands ts names) → Comes request.settings (Some contents) (refused r others) → ⊥
  unlike ts names others r x y = (let same = one-expansion (expands ts names) (refused r others) x y in cc)

  -- files that are accepted have no break
  pub no-cause : (names : List (List ℕ)) (r : Refusal) → Accepts request contents → Cause request (Some contents) names r → ⊥
  no-cause names r a (in_expansion x) = unlike _ a.names names r a.expansion x
  no-cause names r a (in_tokens tokens x b) = go (one-text tokens a.tokens names a.names x a.expansion)
    where
      go : OneText tokens a.tokens names a.names → ⊥
      go (one_text e g) = no-break request.top a.tokens a.design r a.accepted (subst (λ (ts : List Token). Breaks request.top ts r) e b)

  -- what is said of a refusal
  abbrev pub Same : List (List ℕ) → List (List ℕ) → Refusal → Refusal → Type 0
  Same names others r s = (names ≡ others) × (r ≡ s)

  -- files have one first break
  pub one-cause : (names others : List (List ℕ)) (r s : Refusal) → Cause request (Some contents) names r → Cause request (Some contents) others s → Same names others r s
  one-cause names others r s (in_expansion x) (in_expansion y) =
      let same = one-expansion (refused r names) (refused s others) x y in
      (cc, cc)
  one-cause names others r s (in_expansion x) (in_tokens tokens y b) = absurd (unlike _ others names r y x)
  one-cause names others r s (in_tokens tokens x b) (in_expansion y) = absurd (unlike _ names others s x y)
  one-cause names others r s (in_tokens tokens x b) (in_tokens other_tokens y d) =
      go (one-text tokens other_tokens names others x y)
    where
      go : OneText tokens other_tokens names others → Same names others r s
      go (one_text e g) = (
        g,
        one-break request.top other_tokens r s (subst (λ (ts : List Token). Breaks request.top ts r) e b) d,
      )
