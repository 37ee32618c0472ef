-- What holds of each token holds of those that stand in no attribute.
use Rattle.std.proofs.Common.{◌≡◌, ℕ, zero, suc, Bool, true, false, not, List, [], ◌∷◌, Some, subst, if◌then◌else◌}
use Rattle.std.specs.List.{All, slice_get}
use Rattle.std.proofs.lemmas.List.Elements.{All-nil, All-cons, All-head, All-tail}
use Rattle.sv_source.specs.declared.token.Token.{Token}
use Rattle.sv_build.specs.Attributes.{closes, opens, kept, without_attributes}

module _ (P : Token → Type 0) where
  all-kept : (inside : Bool) (ts : List Token) → All P ts → All P (kept inside ts)
  all-kept inside [] a = All-nil P
  all-kept true (t ∷ ts) a = all-kept (not (closes t)) ts (All-tail P t ts a)
  all-kept false (t ∷ ts) a =
      by_test (opens t ts) (all-kept true ts (All-tail P t ts a)) (All-cons P t (kept false ts) (All-head P t ts a) (all-kept false ts (All-tail P t ts a)))
    where
      by_test : (b : Bool) → All P (kept true ts) → All P (t ∷ kept false ts) → All P (if b then kept true ts else t ∷ kept false ts)
      by_test true inside outside = inside
      by_test false inside outside = outside

  pub all-left : (ts : List Token) → All P ts → All P (without_attributes ts)
  all-left ts a = all-kept false ts a

  pub all-at : (ts : List Token) (i : ℕ) (t : Token) → All P ts → slice_get ts i ≡ Some t → P t
  all-at [] i t a e = cc
  all-at (u ∷ ts) zero t a e = (let same : u ≡ t = cc in subst P same (All-head P u ts a))
  all-at (u ∷ ts) (suc i) t a e = all-at ts i t (All-tail P u ts a) e
