-- What is known of statements before they run, as the code has it.
use Rattle.std.specs.Prelude.{◌≡◌, ◌↔◌, ℕ, ◌+◌, ◌^◌, ◌<◌, min, List, is_some}
use Rattle.row_machine.specs.Valuation.{Place, Member}
use Rattle.bit_sets.specs.Sets.{tokens_at}
use Rattle.sv_types.specs.declared.statement.Outcome.{Outcome}
use Rattle.sv_types.specs.Flows.{Flow}
use Rattle.flow_sets.specs.declared.found.Found.{Found}
use Rattle.flow_sets.specs.Bits.{number_of, AreUses, AreWrites}
use Rattle.flow_sets.specs.Ends.{IsKnown, leaves_out, end_in}

-- no more statements are counted
abbrev pub most_counted : ℕ
most_counted = 2 ^ 20 + 1

-- the same tokens, however often
abbrev pub SameTokens : List ℕ → List ℕ → Type 0
SameTokens ts us = (t : ℕ) → Member ts t ↔ Member us t

pub record IsFlow (r : Found) (f : Flow) : Type 0 where
  pub reads : AreUses r.reads f.reads
  pub writes : AreWrites r.writes f.writes
  pub later : AreWrites r.later f.later
  pub sets : (o : Outcome) → IsKnown (end_in r.ends o)
  pub ends : (o : Outcome) → is_some (end_in r.ends o) ≡ f.ends o
  pub slips : (o : Outcome) (q : Place) → q.bit < 2 ^ 32 → leaves_out (end_in r.ends o) (number_of q) ≡ f.slips o q
  pub early : (q : Place) → q.bit < 2 ^ 32 → tokens_at r.early (number_of q) ≡ f.early q
  pub unset : SameTokens r.unset f.unset
  pub unrolls : r.unrolls ≡ f.unrolls
  pub statements : r.statements ≡ min f.statements most_counted
