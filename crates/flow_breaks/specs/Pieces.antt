-- The pieces of signals that processes write.
use Rattle.std.specs.Prelude.{◌≡◌, ℕ, suc, ◌/◌, ◌%◌, ◌^◌, Bool, true, false, nat_lt, cond, List, [], ◌∷◌, ◌++◌, length, map, filter, flat_map, Option, Some, None, slice_get}
use Rattle.bit_clashes.specs.declared.Piece.{Piece}
use Rattle.flow_sets.specs.declared.found.Found.{Found}
use Rattle.flow_sets.specs.declared.uses.Write.{Write}
use Rattle.flow_sets.specs.Flows.{IsFlow}
use Rattle.sv_types.specs.declared.design.Design.{Design}
use Rattle.sv_types.specs.declared.design.Process.{Process}
use Rattle.design_breaks.specs.declared.Break.{Break}
use Rattle.design_breaks.specs.Memories.{is_edged, flow}
use Rattle.design_breaks.specs.Breaks.{unrolls, numbered, at_each, written_twice}

abbrev pub is_of_signal : Write → Bool
is_of_signal w = nat_lt w.of.span.low (2 ^ 64)

abbrev pub piece : ℕ → ℕ → Write → Piece
piece by instance w = record { span = w.of.span; by = by; instance = instance; at = w.of.at }

abbrev pub pieces : ℕ → ℕ → List Write → List Piece
pieces by instance ws = map (piece by instance) (filter is_of_signal ws)

abbrev pub writes_in : Process → Found → List Write
writes_in p f = cond (is_edged p.kind) f.later f.writes

abbrev pub pieces_of : ℕ → Process → Option Found → List Piece
pieces_of by p None = []
pieces_of by p (Some f) = pieces by p.instance (writes_in p f)

-- of processes that are numbered from n on
unfoldable pub pieces_from : ℕ → List Process → List (Option Found) → List Piece
pieces_from n [] fs = []
pieces_from n (p ∷ ps) [] = []
pieces_from n (p ∷ ps) (f ∷ fs) = pieces_of n p f ++ pieces_from (suc n) ps fs

abbrev pub break_of : Option ℕ → Option Break
break_of None = None
break_of (Some n) = Some (record { instance = n / 2 ^ 32; at = n % 2 ^ 32; rule = 601 })

module _ (d : Design) where
  -- what is found of a process, if it can be unrolled
  abbrev pub IsFoundOf : Process → Option Found → Type 0
  IsFoundOf p None = unrolls d p.body ≡ false
  IsFoundOf p (Some f) = (unrolls d p.body ≡ true) × IsFlow f (flow d p)

  pub record AreFound (found : List (Option Found)) : Type 0 where
    pub count : length found ≡ length d.processes
    pub each : (n : ℕ) (p : Process) (f : Option Found) → slice_get d.processes n ≡ Some p → slice_get found n ≡ Some f → IsFoundOf p f

  -- the breaks of the rule on two writers
  abbrev pub second_of : ℕ × Process → List Break
  second_of p = at_each p.1.instance 601 (written_twice d p.0 p.1)

  abbrev pub second_breaks : List Break
  second_breaks = flat_map second_of (numbered d 0 d.processes)
