-- Lists and optional parts that are read from the parts of a node.
use Rattle.std.proofs.Common.{◌≡◌, Bool, true, false, List, [], ◌∷◌, ◌++◌, map, Option, Some, None, refl}
use Rattle.std.specs.Option.{option_map}
use Rattle.ll_engine.specs.declared.tree.Tree.{Tree}
use Rattle.typing_walks.specs.Written.{all, some_and_all, if_there}
use Rattle.expr_build.specs.Nodes.{kids_of, kid, optional, is_none, is_blank, separated, behind_marks}
use Rattle.written_laws.proofs.Tests.{both, left-of, right-of, by-test}
use Rattle.written_laws.proofs.Nodes.{Good, AllGood, kid-good, kids-good}

-- what is read from each node of a derivation is written
abbrev pub Written : {A : Type 0} → (A → Bool) → (Tree → A) → Type 0
Written w read = (t : Tree) → Good t → w (read t) ≡ true

module _ {A : Type 0} (w : A → Bool) (read : Tree → A) (ok : Written w read) where
  pub all-map : (ts : List Tree) → AllGood ts → all (map w (map read ts)) ≡ true
  all-map [] g = refl
  all-map (t ∷ ts) g = both (ok t g.0) (all-map ts g.1)

  pub all-kids : (t : Tree) → Good t → all (map w (map read (kids_of t))) ≡ true
  all-kids t g = all-map (kids_of t) (kids-good t g)

  pub all-behind : (ts : List Tree) → AllGood ts → all (map w (behind_marks read ts)) ≡ true
  all-behind [] g = refl
  all-behind (t ∷ ts) g = both (ok (kid 1 t) (kid-good 1 t g.0)) (all-behind ts g.1)

  pub all-separated : (ts : List Tree) → AllGood ts → all (map w (separated read ts)) ≡ true
  all-separated [] g = refl
  all-separated (t ∷ ts) g = both (ok t g.0) (all-behind ts g.1)

  pub all-items : (t : Tree) → Good t → all (map w (separated read (kids_of t))) ≡ true
  all-items t g = all-separated (kids_of t) (kids-good t g)

  pub some-separated : (ts : List Tree) → is_none ts ≡ false → AllGood ts → some_and_all (map w (separated read ts)) ≡ true
  some-separated [] n g = absurd (cc)
  some-separated (t ∷ ts) n g = both (ok t g.0) (all-behind ts g.1)

  pub some-items : (t : Tree) → is_blank t ≡ false → Good t → some_and_all (map w (separated read (kids_of t))) ≡ true
  some-items t n g = some-separated (kids_of t) n (kids-good t g)

  pub if-read : (t : Tree) → Good t → if_there (option_map w (optional read t)) ≡ true
  if-read t g = by-test (λ (o : Option A). if_there (option_map w o)) (is_blank t) None (Some (read t)) (λ e. refl) (λ e. ok t g)

module _ {A : Type 0} (w : A → Bool) where
  pub all-joined : (xs ys : List A) → all (map w xs) ≡ true → all (map w ys) ≡ true → all (map w (xs ++ ys)) ≡ true
  all-joined [] ys v e = e
  all-joined (x ∷ xs) ys v e = both (left-of (w x) (all (map w xs)) v) (all-joined xs ys (right-of (w x) (all (map w xs)) v) e)
