-- What selects of a vector write, by what those of a name do.
use Rattle.std.proofs.Common.{◌≡◌, ℕ, ◌≤◌, List, [], ◌∷◌, Option, Some, None}
use Rattle.row_machine.specs.Valuation.{Valuation}
use Rattle.sv_types.specs.Surroundings.{Around}
use Rattle.sv_types.specs.Meanings as S
use Rattle.v_meaning.specs.Scopes.{Scope, Named}
use Rattle.v_meaning.specs.Selects.{SelMeaning}
use Rattle.v_meaning.specs.Statements.{name_target}
use Rattle.v_meaning.specs.Values as T
use Rattle.lowering_laws.specs.Placed.{IsPlaced, IsSure}
use Rattle.lowering_laws.specs.Reached.{Piece, IsWritten}
use Rattle.lowering_laws.specs.Terms.{slide, bit_at_offset, range, bit_at_number}
use Rattle.lowering_laws.proofs.WriteAt.{IsTight}
use Rattle.target_laws.specs.Standing.{IsKnown, IsVectorOf}
use Rattle.target_laws.specs.Vectors.{IsVector, vector_target}
use Rattle.target_laws.proofs.Naming as N

-- selects of a vector for all bits of a value
abbrev pub all-in : Option T.Meaning → Named → List SelMeaning → ℕ → Piece
all-in g n sels w = record { guard = g; to = vector_target n sels; low = 0; width = w }

-- an expression with the value that it has at one place, in all scopes
abbrev frozen : T.Meaning → Scope → Valuation → T.Meaning
frozen m sc v = record {
  width = λ s. m.width sc;
  signed = m.signed;
  value = λ w b s u. m.value w b sc v;
  constant = λ s. m.constant sc;
  names = λ s. m.names sc;
  reads = λ s. m.reads sc;
}

abbrev frozen-guard : Option T.Meaning → Scope → Valuation → Option T.Meaning
frozen-guard None sc v = None
frozen-guard (Some g) sc v = Some (frozen g sc v)

-- a scope in which the empty name stands for a vector
abbrev alone-in : Named → Scope → Scope
alone-in n sc = record sc { names = record n { name = [] } ∷ [] }

module _ (e : S.Meaning) (a : Around) (n : Named) (bits : ℕ) (sc : Scope) (v : Valuation) (vector : IsVector n bits) (tight : IsTight (e.window a) (S.wide e)) where
  stands : IsVectorOf [] bits (alone-in n sc)
  stands = record { vector = vector.vector; width = vector.width }

  -- a known place
  module _ (low : ℕ) (known : IsKnown e a low bits) where
    pub whole-in : low ≡ 0 → S.wide e ≡ bits → IsWritten (e.window a) (S.wide e) n.number (all-in None n [] (S.wide e) ∷ []) sc v
    unfolding name_target
    whole-in from all =
        let w = N.whole-written e a [] bits (alone-in n sc) v stands tight low known from all in
        record { wide = w.wide; below = w.below; puts = w.puts }

    pub bit-in : S.wide e ≡ 1 → IsWritten (e.window a) (S.wide e) n.number (all-in None n (bit_at_number low ∷ []) (S.wide e) ∷ []) sc v
    unfolding name_target
    bit-in one =
        let w = N.bit-written e a [] bits (alone-in n sc) v stands tight low known one in
        record { wide = w.wide; below = w.below; puts = w.puts }

    pub range-in : 1 ≤ S.wide e → IsWritten (e.window a) (S.wide e) n.number (all-in None n (range low (S.wide e) ∷ []) (S.wide e) ∷ []) sc v
    unfolding name_target
    range-in some =
        let w = N.range-written e a [] bits (alone-in n sc) v stands tight low known some in
        record { wide = w.wide; below = w.below; puts = w.puts }

  -- an offset
  module _ (g : Option T.Meaning) (o : T.Meaning) (w : ℕ) (placed : IsPlaced e a g o w bits sc v) where
    placed-by : (h : Option T.Meaning) → IsPlaced e a h o w bits sc v → IsPlaced e a (frozen-guard h sc v) (frozen o sc v) w bits (alone-in n sc) v
    placed-by None p = record { width = p.width; unsigned = p.unsigned; long = p.long; yes = p.yes; no = p.no; lost = p.lost }
    placed-by (Some h) p = record { width = p.width; unsigned = p.unsigned; long = p.long; yes = p.yes; no = p.no; lost = p.lost }

    offset-by : (h : Option T.Meaning) → IsPlaced e a h o w bits sc v → IsWritten (e.window a) (S.wide e) n.number (all-in h n (slide o (S.wide e) ∷ []) (S.wide e) ∷ []) sc v
    unfolding name_target
    offset-by None p =
        let x = N.offset-written e a [] bits (alone-in n sc) v stands tight None (frozen o sc v) w (placed-by None p) in
        record { wide = x.wide; below = x.below; puts = x.puts }
    offset-by (Some h) p =
        let x = N.offset-written e a [] bits (alone-in n sc) v stands tight (Some (frozen h sc v)) (frozen o sc v) w (placed-by (Some h) p) in
        record { wide = x.wide; below = x.below; puts = x.puts }

    pub offset-in : IsWritten (e.window a) (S.wide e) n.number (all-in g n (slide o (S.wide e) ∷ []) (S.wide e) ∷ []) sc v
    offset-in = offset-by g placed

    bit-by : S.wide e ≡ 1 → (h : Option T.Meaning) → IsPlaced e a h o w bits sc v → IsWritten (e.window a) (S.wide e) n.number (all-in h n (bit_at_offset o ∷ []) (S.wide e) ∷ []) sc v
    unfolding name_target
    bit-by one None p =
        let x = N.bit-offset-written e a [] bits (alone-in n sc) v stands tight None (frozen o sc v) w (placed-by None p) one in
        record { wide = x.wide; below = x.below; puts = x.puts }
    bit-by one (Some h) p =
        let x = N.bit-offset-written e a [] bits (alone-in n sc) v stands tight (Some (frozen h sc v)) (frozen o sc v) w (placed-by (Some h) p) one in
        record { wide = x.wide; below = x.below; puts = x.puts }

    pub bit-offset-in : S.wide e ≡ 1 → IsWritten (e.window a) (S.wide e) n.number (all-in g n (bit_at_offset o ∷ []) (S.wide e) ∷ []) sc v
    bit-offset-in one = bit-by one g placed

    only-by : S.wide e ≡ bits → (h : Option T.Meaning) → IsPlaced e a h o w bits sc v → IsSure h o sc v → IsWritten (e.window a) (S.wide e) n.number (all-in h n [] (S.wide e) ∷ []) sc v
    unfolding name_target
    only-by all None p sure =
        let x = N.only-written e a [] bits (alone-in n sc) v stands tight None (frozen o sc v) w (placed-by None p) all sure in
        record { wide = x.wide; below = x.below; puts = x.puts }
    only-by all (Some h) p sure =
        let x = N.only-written e a [] bits (alone-in n sc) v stands tight (Some (frozen h sc v)) (frozen o sc v) w (placed-by (Some h) p) all sure in
        record { wide = x.wide; below = x.below; puts = x.puts }

    pub only-in : S.wide e ≡ bits → IsSure g o sc v → IsWritten (e.window a) (S.wide e) n.number (all-in g n [] (S.wide e) ∷ []) sc v
    only-in all sure = only-by all g placed sure
