-- Paths without their last words, and homes one scope further out.
use Rattle.std.proofs.Common.{◌≡◌, ◌<◌, ℕ, suc, nat_eq, Bool, true, false, cond, List, [], ◌∷◌, ◌++◌, length, take, reverse, get_or, refl, sym, ap, ◌∙◌}
use Rattle.std.proofs.Math.Seq.{take-suc}
use Rattle.std.proofs.lemmas.List.{reverse-append, reverse-reverse}
use Rattle.sv_tree.specs.declared.units.SourceTree.{SourceTree}
use Rattle.package_scope.specs.declared.table.Table.{Table}
use Rattle.package_scope.specs.Tables.{outer}
use Rattle.expr_type.specs.Names.{Home}
use Rattle.frame_texts.specs.Frames.{before_stop, shorter, is_generate_scope, home_from}

abbrev pub nowhere : Home
nowhere = record { instance = 0; path = [] }

module _ (tree : SourceTree) (t : Table) where
  turned : (b : Bool) (xs : List ℕ) → reverse (cond b (reverse xs) (before_stop tree t (reverse xs))) ≡ cond b xs (shorter tree t xs)
  turned true xs = reverse-reverse xs
  turned false xs = refl

  shorter-end : (xs : List ℕ) (c : ℕ) → shorter tree t (xs ++ c ∷ []) ≡ cond (nat_eq c 46) xs (shorter tree t xs)
  shorter-end xs c = ap (λ (l : List ℕ). reverse (before_stop tree t l)) (reverse-append xs (c ∷ [])) ∙ turned (nat_eq c 46) xs

  one-more : (path : List ℕ) (n : ℕ) → n < length path → shorter tree t (take (suc n) path) ≡ cond (nat_eq (get_or path n 0) 46) (take n path) (shorter tree t (take n path))
  one-more path n h = ap (shorter tree t) (take-suc path n 0 h) ∙ shorter-end (take n path) (get_or path n 0)

  -- at a full stop, and behind one
  pub at-stop : (path : List ℕ) (n : ℕ) → n < length path → nat_eq (get_or path n 0) 46 ≡ true → take n path ≡ shorter tree t (take (suc n) path)
  at-stop path n h e = sym (one-more path n h ∙ ap (λ b. cond b (take n path) (shorter tree t (take n path))) e)

  pub past-stop : (path : List ℕ) (n : ℕ) → n < length path → nat_eq (get_or path n 0) 46 ≡ false → shorter tree t (take n path) ≡ shorter tree t (take (suc n) path)
  past-stop path n h e = sym (one-more path n h ∙ ap (λ b. cond b (take n path) (shorter tree t (take n path))) e)

  -- a home from a scope: there, no further out, and one scope further out
  module _ (h : Home) (more s to : ℕ) where
    abbrev pub further : Home
    further = home_from tree t more (record h { path = shorter tree t h.path }) (outer t.scopes s) to

    pub home-here : nat_eq s to ≡ true → home_from tree t (suc more) h s to ≡ h
    home-here e = ap (λ b. cond b h (cond (is_generate_scope tree t s) further nowhere)) e

    pub home-nowhere : nat_eq s to ≡ false → is_generate_scope tree t s ≡ false → home_from tree t (suc more) h s to ≡ nowhere
    home-nowhere e g = ap (λ b. cond b h (cond (is_generate_scope tree t s) further nowhere)) e ∙ ap (λ b. cond b further nowhere) g

    pub home-out : nat_eq s to ≡ false → is_generate_scope tree t s ≡ true → home_from tree t (suc more) h s to ≡ further
    home-out e g = ap (λ b. cond b h (cond (is_generate_scope tree t s) further nowhere)) e ∙ ap (λ b. cond b further nowhere) g
