-- Statements without parts.
use Rattle.std.proofs.Common.{◌≡◌, ℕ, ◌^◌, ◌<◌, Bool, true, ◌&&◌, not, List, [], refl, ap, ◌∙◌}
use Rattle.std.specs.Prelude.{is_some}
use Rattle.row_machine.specs.Valuation.{Place}
use Rattle.bit_sets.specs.declared.span.Span.{Span}
use Rattle.bit_sets.specs.declared.span.Use.{Use}
use Rattle.bit_sets.specs.Sets.{in_spans, tokens_at, IsSet}
use Rattle.bit_sets.proofs.Laws as L
use Rattle.sv_types.specs.declared.statement.Outcome.{Outcome}
use Rattle.sv_types.specs.declared.statement.Outcome.TheVariants as O
use Rattle.sv_types.specs.Surroundings as S
use Rattle.sv_types.specs.Runs.{is_normal}
use Rattle.sv_types.specs.Flows as F
use Rattle.flow_sets.specs.declared.found.Found.{Found}
use Rattle.flow_sets.specs.declared.ends.Ends.{Ends}
use Rattle.flow_sets.specs.declared.uses.Write.{Write}
use Rattle.flow_sets.specs.Bits.{number_of, AreUses, AreWrites}
use Rattle.flow_sets.specs.Ends.{IsKnown, AreKnown, leaves_out, end_in, ending}
use Rattle.flow_sets.specs.Flows.{IsFlow, SameTokens}
use Rattle.flow_sets.specs.Uses.{surely}
use Rattle.flow_sets.proofs.Positions as P

pub same-tokens : (ts : List ℕ) → SameTokens ts ts
same-tokens ts t = (λ m. m, λ m. m)

pub ending-known : (o : Outcome) (s : List Span) → IsSet s → AreKnown (ending o s)
ending-known O.Normal s h = record { normal = h; breaks = tt; continues = tt; returns = tt }
ending-known O.Break s h = record { normal = tt; breaks = h; continues = tt; returns = tt }
ending-known O.Continue s h = record { normal = tt; breaks = tt; continues = h; returns = tt }
ending-known O.Return s h = record { normal = tt; breaks = tt; continues = tt; returns = h }

pub known-in : (e : Ends) (o : Outcome) → AreKnown e → IsKnown (end_in e o)
known-in e O.Normal h = h.normal
known-in e O.Break h = h.breaks
known-in e O.Continue h = h.continues
known-in e O.Return h = h.returns

ending-ends : (o j : Outcome) (s : List Span) → is_some (end_in (ending o s) j) ≡ F.same_outcome j o
ending-ends O.Normal O.Normal s = refl
ending-ends O.Normal O.Break s = refl
ending-ends O.Normal O.Continue s = refl
ending-ends O.Normal O.Return s = refl
ending-ends O.Break O.Normal s = refl
ending-ends O.Break O.Break s = refl
ending-ends O.Break O.Continue s = refl
ending-ends O.Break O.Return s = refl
ending-ends O.Continue O.Normal s = refl
ending-ends O.Continue O.Break s = refl
ending-ends O.Continue O.Continue s = refl
ending-ends O.Continue O.Return s = refl
ending-ends O.Return O.Normal s = refl
ending-ends O.Return O.Break s = refl
ending-ends O.Return O.Continue s = refl
ending-ends O.Return O.Return s = refl

ending-slips : (o j : Outcome) (n : ℕ) → leaves_out (end_in (ending o []) j) n ≡ F.same_outcome j o
ending-slips O.Normal O.Normal n = ap not (L.in-none n)
ending-slips O.Normal O.Break n = refl
ending-slips O.Normal O.Continue n = refl
ending-slips O.Normal O.Return n = refl
ending-slips O.Break O.Normal n = refl
ending-slips O.Break O.Break n = ap not (L.in-none n)
ending-slips O.Break O.Continue n = refl
ending-slips O.Break O.Return n = refl
ending-slips O.Continue O.Normal n = refl
ending-slips O.Continue O.Break n = refl
ending-slips O.Continue O.Continue n = ap not (L.in-none n)
ending-slips O.Continue O.Return n = refl
ending-slips O.Return O.Normal n = refl
ending-slips O.Return O.Break n = refl
ending-slips O.Return O.Continue n = refl
ending-slips O.Return O.Return n = ap not (L.in-none n)

normal-is : (o : Outcome) → F.same_outcome o O.Normal ≡ is_normal o
normal-is O.Normal = refl
normal-is O.Break = refl
normal-is O.Continue = refl
normal-is O.Return = refl

abbrev pub plain : Ends → Bool → Found
plain e unrolls = record { reads = []; writes = []; later = []; ends = e; early = []; unset = []; unrolls = unrolls; statements = 0 }

pub idle-is : (unrolls : Bool) → IsFlow (plain (ending O.Normal []) unrolls) (record F.nothing { unrolls = unrolls })
idle-is unrolls = record {
  reads = P.no-uses;
  writes = P.no-writes;
  later = P.no-writes;
  sets = λ o. known-in (ending O.Normal []) o (ending-known O.Normal [] (L.ascending-none 0));
  ends = λ o. ending-ends O.Normal o [] ∙ normal-is o;
  slips = λ o q small. ending-slips O.Normal o (number_of q) ∙ normal-is o;
  early = λ q small. L.tokens-none (number_of q);
  unset = same-tokens [];
  unrolls = refl;
  statements = refl;
}

pub jumping-is : (j : Outcome) → IsFlow (plain (ending j []) true) (F.jumping j)
jumping-is j = record {
  reads = P.no-uses;
  writes = P.no-writes;
  later = P.no-writes;
  sets = λ o. known-in (ending j []) o (ending-known j [] (L.ascending-none 0));
  ends = λ o. ending-ends j o [];
  slips = λ o q small. ending-slips j o (number_of q);
  early = λ q small. L.tokens-none (number_of q);
  unset = same-tokens [];
  unrolls = refl;
  statements = refl;
}

pub reading-is : (uses : List Use) (us : List S.Use) (r : Found) → IsFlow r (record F.nothing { unrolls = true }) → AreUses uses us → IsFlow (record r { reads = uses; early = uses }) (F.reading us)
reading-is uses us r h g = record {
  reads = g;
  writes = h.writes;
  later = h.later;
  sets = h.sets;
  ends = h.ends;
  slips = h.slips;
  early = λ q small. ap (λ x. tokens_at x (number_of q)) g.same ∙ P.tokens-are us q g.short small;
  unset = h.unset;
  unrolls = h.unrolls;
  statements = h.statements;
}

pub later-is : (writes : List Write) (ws : List S.Write) (r : Found) → IsFlow r (record F.nothing { unrolls = true }) → AreWrites writes ws → IsFlow (record r { later = writes }) (F.writing_later ws)
later-is writes ws r h g = record {
  reads = h.reads;
  writes = h.writes;
  later = g;
  sets = h.sets;
  ends = h.ends;
  slips = h.slips;
  early = h.early;
  unset = h.unset;
  unrolls = h.unrolls;
  statements = h.statements;
}

pub writing-is : (writes : List Write) (set : List Span) → IsSet set → ((n : ℕ) → in_spans set n ≡ surely writes n) → (ws : List S.Write) → AreWrites writes ws
    → IsFlow (record (plain (ending O.Normal set) true) { writes = writes }) (F.writing ws)
writing-is writes set known is ws g = record {
  reads = P.no-uses;
  writes = g;
  later = P.no-writes;
  sets = λ o. known-in (ending O.Normal set) o (ending-known O.Normal set known);
  ends = λ o. ending-ends O.Normal o set ∙ normal-is o;
  slips = slips;
  early = λ q small. L.tokens-none (number_of q);
  unset = same-tokens [];
  unrolls = refl;
  statements = refl;
}
  where
    slips : (o : Outcome) (q : Place) → q.bit < 2 ^ 32 → leaves_out (end_in (ending O.Normal set) o) (number_of q) ≡ (is_normal o && not (F.surely_written ws q))
    slips O.Normal q small = ap not (is (number_of q) ∙ ap (λ x. surely x (number_of q)) g.same ∙ P.surely-are ws q g.short small)
    slips O.Break q small = refl
    slips O.Continue q small = refl
    slips O.Return q small = refl

pub ruleset plain_laws = (idle-is, jumping-is, reading-is, later-is, writing-is, ending-known, L.ascending-none)
