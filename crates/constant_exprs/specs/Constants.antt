-- Expressions that are constant where nothing is known of signals and locals (IEEE 1800-2017 clause 11.2.1).
use Rattle.std.specs.Prelude.{◌≡◌, ◌⊎◌, ◌<◌, ℕ, Bool, true, false, List, [], ◌∷◌, ◌++◌, map, Some, None}
use Rattle.row_machine.specs.Valuation.{Place}
use Rattle.sv_types.specs.declared.expression.Expr.{Expr}
use Rattle.sv_types.specs.declared.expression.Choice.{Choice}
use Rattle.sv_types.specs.Surroundings.{Sight}
use Rattle.sv_types.specs.Meanings.{Meaning, total}
use Rattle.sv_types.specs.Operators.{Alternative}
use Rattle.sv_types.specs.Expressions.{meaning}
use Rattle.sv_types.proofs.Levels.{alternative}
use Rattle.eval_parts.proofs.Nodes.{nodes, choice_nodes}
use Rattle.constant_exprs.specs.declared.parts.Parts.{Parts}
use Rattle.constant_exprs.specs.declared.parts.Parts.TheVariants as P

-- nothing is sure of what signals and locals hold
abbrev pub IsBlind : Sight → Type 0
IsBlind k = (q : Place) → k.sure q ≡ false

-- It is constant in each such sight, or in none; it stands on no signal or local and names none where it is. A path that stands on
-- none is exact where it is constant.
pub record ConstantIf (b : Bool) (m : Meaning) : Type 0 where
  pub constant : (k : Sight) → IsBlind k → m.constant k ≡ b
  pub exact : (k : Sight) → IsBlind k → m.root ≡ None → (m.prefix k).exact ≡ b
  pub rooted : (n : ℕ) → m.root ≡ Some n → b ≡ false
  pub none : b ≡ true → m.names ≡ []
  pub index_none : b ≡ true → m.index_names ≡ []

-- all of them are, or one isn't and those before it are
abbrev pub AllConstantIf : Bool → List Meaning → Type 0
AllConstantIf b [] = b ≡ true
AllConstantIf b (m ∷ ms) = (ConstantIf true m × AllConstantIf b ms) ⊎ (ConstantIf false m × (b ≡ false))

abbrev pub meanings : List Expr → List Meaning
meanings es = map meaning es

-- what a value may be on the right of `inside`
abbrev pub meanings_in : Alternative → List Meaning
meanings_in (Alternative.Only m) = m ∷ []
meanings_in (Alternative.From low high) = low ∷ high ∷ []

abbrev pub choice_meanings : Choice → List Meaning
choice_meanings c = meanings_in (alternative c)

abbrev pub alternatives : List Choice → List Meaning
alternatives [] = []
alternatives (c ∷ cs) = choice_meanings c ++ alternatives cs

-- an expression is constant where all that stands in it is
abbrev pub ConstantBy : List Meaning → Expr → Type 0
ConstantBy ms e = (b : Bool) → AllConstantIf b ms → ConstantIf b (meaning e)

abbrev pub IsParts : Parts → Expr → Type 0
IsParts P.Nothing e = ConstantIf true (meaning e)
IsParts P.Held e = ConstantIf false (meaning e)
IsParts (P.One x) e = ConstantBy (meaning x.now ∷ []) e × (nodes x.now < nodes e)
IsParts (P.Two x y) e = ConstantBy (meaning x.now ∷ meaning y.now ∷ []) e × (nodes x.now < nodes e) × (nodes y.now < nodes e)
IsParts (P.Three z x y) e = ConstantBy (meaning z.now ∷ meaning x.now ∷ meaning y.now ∷ []) e × (nodes z.now < nodes e) × (nodes x.now < nodes e) × (nodes y.now < nodes e)
IsParts (P.All es) e = ConstantBy (meanings es.now) e × (total (map nodes es.now) < nodes e)
IsParts (P.Choices x cs) e = ConstantBy (meaning x.now ∷ alternatives cs.now) e × (nodes x.now < nodes e) × (total (map choice_nodes cs.now) < nodes e)
