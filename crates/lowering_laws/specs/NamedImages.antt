-- Which names a lowered expression has: the images of those that its source names, all of them and no other.
use Rattle.std.specs.Prelude.{◌≡◌, ℕ, ⊤, List, [], ◌∷◌, map}
use Rattle.row_machine.specs.Valuation.{Member}
use Rattle.sv_types.specs.Meanings as S
use Rattle.v_meaning.specs.Scopes.{Scope}
use Rattle.v_meaning.specs.Values as T

-- the numbers of the signals and locals that are named
abbrev pub numbers : List S.Named → List ℕ
numbers ns = map (λ (n : S.Named). n.number) ns

-- these numbers of the target are the images of the names
pub record AreImages (image : ℕ → ℕ) (named : List S.Named) (targets : List ℕ) : Type 0 where
  pub all : (n : ℕ) → Member (numbers named) n → Member targets (image n)
  pub only : (q : ℕ) → Member targets q → (n : ℕ) × Member (numbers named) n × (q ≡ image n)

-- a lowered expression names the images of what its source names
abbrev pub SameNames : (ℕ → ℕ) → S.Meaning → T.Meaning → Scope → Type 0
SameNames image e m sc = AreImages image e.names (m.names sc)

-- one by one
abbrev pub EachNames : (ℕ → ℕ) → List S.Meaning → List T.Meaning → Scope → Type 0
EachNames image [] [] sc = ⊤
EachNames image [] (m ∷ ms) sc = ⊥
EachNames image (e ∷ es) [] sc = ⊥
EachNames image (e ∷ es) (m ∷ ms) sc = SameNames image e m sc × EachNames image es ms sc
