-- Statements with parts.
use Rattle.std.proofs.Common.{◌≡◌, inl, inr, ℕ, ◌+◌, ◌^◌, ◌<◌, Bool, true, false, ◌&&◌, ◌||◌, not, cond, List, [], ◌++◌, min, ap, sym, ◌∙◌, subst, arith}
use Rattle.std.specs.Prelude.{is_some}
use Rattle.std.proofs.lemmas.Bool.{true≢false, false≢true}
use Rattle.row_machine.specs.Valuation.{Place, Member}
use Rattle.row_machine.proofs.Members.{append-member, member-front, member-back}
use Rattle.bit_sets.specs.Sets.{tokens_at}
use Rattle.bit_sets.proofs.Laws as L
use Rattle.sv_types.specs.declared.statement.Outcome.{Outcome}
use Rattle.sv_types.specs.declared.statement.Outcome.TheVariants as O
use Rattle.sv_types.specs.Runs.{is_normal}
use Rattle.sv_types.specs.Flows as F
use Rattle.sv_types.specs.Flows.{Flow}
use Rattle.flow_sets.specs.declared.found.Found.{Found}
use Rattle.flow_sets.specs.declared.ends.Ends.{Ends}
use Rattle.flow_sets.specs.Bits.{number_of}
use Rattle.flow_sets.specs.Ends.{IsKnown, AreKnown, AreThen, AreEither, leaves_out, end_in}
use Rattle.flow_sets.specs.Flows.{IsFlow, SameTokens, most_counted}
use Rattle.flow_sets.proofs.Positions as P

pub same-append : (a b f g : List ℕ) → SameTokens a f → SameTokens b g → SameTokens (a ++ b) (f ++ g)
same-append a b f g h k t = (
  λ m. elim (append-member a b t m) [ inl x ↦ member-front f g t ((h t).0 x) | inr y ↦ member-back f g t ((k t).0 y) ],
  λ m. elim (append-member f g t m) [ inl x ↦ member-front a b t ((h t).1 x) | inr y ↦ member-back a b t ((k t).1 y) ],
)

same-cond : (c d : Bool) (b g : List ℕ) → c ≡ d → SameTokens b g → SameTokens (cond c b []) (cond d g [])
same-cond true true b g e k t = k t
same-cond true false b g e k t = absurd (true≢false e)
same-cond false true b g e k t = absurd (false≢true e)
same-cond false false b g e k t = (λ m. m, λ m. m)

sum : (x y a b : ℕ) → a ≡ min x most_counted → b ≡ min y most_counted → min (a + b) most_counted ≡ min (x + y) most_counted
sum x y a b h g = omega (arith, h, g)

pub and-true : (a b : Bool) → a ≡ true → b ≡ true → (a && b) ≡ true
and-true a b h g = ap (λ x. x && b) h ∙ g

and-bools : (a b c d : Bool) → a ≡ c → b ≡ d → (a && b) ≡ (c && d)
and-bools a b c d h g = ap (λ x. x && b) h ∙ ap (λ x. c && x) g

or-bools : (a b c d : Bool) → a ≡ c → b ≡ d → (a || b) ≡ (c || d)
or-bools a b c d h g = ap (λ x. x || b) h ∙ ap (λ x. c || x) g

pub then-known : (r a b : Ends) → AreThen r a b → AreKnown r
then-known r a b h = record { normal = h.normal.set; breaks = h.breaks.set; continues = h.continues.set; returns = h.returns.set }

pub either-known : (r a b : Ends) → AreEither r a b → AreKnown r
either-known r a b h = record { normal = h.normal.set; breaks = h.breaks.set; continues = h.continues.set; returns = h.returns.set }

known-in : (e : Ends) (o : Outcome) → AreKnown e → IsKnown (end_in e o)
known-in e O.Normal h = h.normal
known-in e O.Break h = h.breaks
known-in e O.Continue h = h.continues
known-in e O.Return h = h.returns

pub then-is : (r a b : Found) (f g : Flow) → r.reads ≡ a.reads ++ b.reads → r.writes ≡ a.writes ++ b.writes → r.later ≡ a.later ++ b.later → AreThen r.ends a.ends b.ends
    → ((n : ℕ) → tokens_at r.early n ≡ tokens_at a.early n ++ cond (leaves_out a.ends.normal n) (tokens_at b.early n) []) → r.unset ≡ a.unset ++ cond (is_some a.ends.normal) b.unset []
    → r.unrolls ≡ (a.unrolls && b.unrolls) → r.statements ≡ min (a.statements + b.statements) most_counted → IsFlow a f → IsFlow b g → IsFlow r (F.and_then f g)
then-is r a b f g reads writes later ends early unset unrolls statements h k = record {
  reads = P.uses-append r.reads a.reads b.reads f.reads g.reads reads h.reads k.reads;
  writes = P.writes-append r.writes a.writes b.writes f.writes g.writes writes h.writes k.writes;
  later = P.writes-append r.later a.later b.later f.later g.later later h.later k.later;
  sets = λ o. known-in r.ends o (then-known r.ends a.ends b.ends ends);
  ends = reached;
  slips = slipped;
  early = λ q small. early (number_of q) ∙ ap (λ ts. ts ++ cond (leaves_out a.ends.normal (number_of q)) (tokens_at b.early (number_of q)) []) (h.early q small)
      ∙ ap (λ c. f.early q ++ cond c (tokens_at b.early (number_of q)) []) (h.slips O.Normal q small) ∙ ap (λ ts. f.early q ++ cond (f.slips O.Normal q) ts []) (k.early q small);
  unset = λ t. both t;
  unrolls = unrolls ∙ and-bools a.unrolls b.unrolls f.unrolls g.unrolls h.unrolls k.unrolls;
  statements = statements ∙ sum f.statements g.statements a.statements b.statements h.statements k.statements;
}
  where
    on : (o : Outcome) → (is_some a.ends.normal && is_some (end_in b.ends o)) ≡ (f.ends O.Normal && g.ends o)
    on o = and-bools (is_some a.ends.normal) (is_some (end_in b.ends o)) (f.ends O.Normal) (g.ends o) (h.ends O.Normal) (k.ends o)

    reached : (o : Outcome) → is_some (end_in r.ends o) ≡ ((f.ends O.Normal && g.ends o) || (not (is_normal o) && f.ends o))
    reached O.Normal = ends.normal.ends ∙ on O.Normal ∙ sym (L.or-false (f.ends O.Normal && g.ends O.Normal))
    reached O.Break = ends.breaks.ends ∙ or-bools (is_some a.ends.normal && is_some b.ends.breaks) (is_some a.ends.breaks) (f.ends O.Normal && g.ends O.Break) (f.ends O.Break) (on O.Break) (h.ends O.Break)
    reached O.Continue = ends.continues.ends ∙ or-bools (is_some a.ends.normal && is_some b.ends.continues) (is_some a.ends.continues) (f.ends O.Normal && g.ends O.Continue) (f.ends O.Continue) (on O.Continue) (h.ends O.Continue)
    reached O.Return = ends.returns.ends ∙ or-bools (is_some a.ends.normal && is_some b.ends.returns) (is_some a.ends.returns) (f.ends O.Normal && g.ends O.Return) (f.ends O.Return) (on O.Return) (h.ends O.Return)

    left : (o : Outcome) (q : Place) → q.bit < 2 ^ 32 → (leaves_out a.ends.normal (number_of q) && leaves_out (end_in b.ends o) (number_of q)) ≡ (f.slips O.Normal q && g.slips o q)
    left o q small =
        and-bools (leaves_out a.ends.normal (number_of q)) (leaves_out (end_in b.ends o) (number_of q)) (f.slips O.Normal q) (g.slips o q) (h.slips O.Normal q small) (k.slips o q small)

    slipped : (o : Outcome) (q : Place) → q.bit < 2 ^ 32 → leaves_out (end_in r.ends o) (number_of q) ≡ ((f.slips O.Normal q && g.slips o q) || (not (is_normal o) && f.slips o q))
    slipped O.Normal q small = ends.normal.slips (number_of q) ∙ left O.Normal q small ∙ sym (L.or-false (f.slips O.Normal q && g.slips O.Normal q))
    slipped O.Break q small =
        ends.breaks.slips (number_of q) ∙ or-bools (leaves_out a.ends.normal (number_of q) && leaves_out b.ends.breaks (number_of q)) (leaves_out a.ends.breaks (number_of q)) (f.slips O.Normal q && g.slips O.Break q) (f.slips O.Break q) (left O.Break q small) (h.slips O.Break q small)
    slipped O.Continue q small =
        ends.continues.slips (number_of q) ∙ or-bools (leaves_out a.ends.normal (number_of q) && leaves_out b.ends.continues (number_of q)) (leaves_out a.ends.continues (number_of q)) (f.slips O.Normal q && g.slips O.Continue q) (f.slips O.Continue q) (left O.Continue q small) (h.slips O.Continue q small)
    slipped O.Return q small =
        ends.returns.slips (number_of q) ∙ or-bools (leaves_out a.ends.normal (number_of q) && leaves_out b.ends.returns (number_of q)) (leaves_out a.ends.returns (number_of q)) (f.slips O.Normal q && g.slips O.Return q) (f.slips O.Return q) (left O.Return q small) (h.slips O.Return q small)

    both : (t : ℕ) → (Member r.unset t → Member (f.unset ++ cond (f.ends O.Normal) g.unset []) t) × (Member (f.unset ++ cond (f.ends O.Normal) g.unset []) t → Member r.unset t)
    both t =
        let s = same-append a.unset (cond (is_some a.ends.normal) b.unset []) f.unset (cond (f.ends O.Normal) g.unset []) h.unset (same-cond (is_some a.ends.normal) (f.ends O.Normal) b.unset g.unset (h.ends O.Normal) k.unset) t in
        (λ m. s.0 (subst (λ ts. Member ts t) unset m), λ m. subst (λ ts. Member ts t) (sym unset) (s.1 m))

pub either-is : (r a b : Found) (f g : Flow) → r.reads ≡ a.reads ++ b.reads → r.writes ≡ a.writes ++ b.writes → r.later ≡ a.later ++ b.later → AreEither r.ends a.ends b.ends
    → r.early ≡ a.early ++ b.early → r.unset ≡ a.unset ++ b.unset → r.unrolls ≡ (a.unrolls && b.unrolls) → r.statements ≡ min (a.statements + b.statements) most_counted
    → IsFlow a f → IsFlow b g → IsFlow r (F.or_else f g)
either-is r a b f g reads writes later ends early unset unrolls statements h k = record {
  reads = P.uses-append r.reads a.reads b.reads f.reads g.reads reads h.reads k.reads;
  writes = P.writes-append r.writes a.writes b.writes f.writes g.writes writes h.writes k.writes;
  later = P.writes-append r.later a.later b.later f.later g.later later h.later k.later;
  sets = λ o. known-in r.ends o (either-known r.ends a.ends b.ends ends);
  ends = reached;
  slips = slipped;
  early = λ q small. ap (λ us. tokens_at us (number_of q)) early ∙ L.tokens-append a.early b.early (number_of q) ∙ ap (λ ts. ts ++ tokens_at b.early (number_of q)) (h.early q small) ∙ ap (λ ts. f.early q ++ ts) (k.early q small);
  unset = λ t. both t;
  unrolls = unrolls ∙ and-bools a.unrolls b.unrolls f.unrolls g.unrolls h.unrolls k.unrolls;
  statements = statements ∙ sum f.statements g.statements a.statements b.statements h.statements k.statements;
}
  where
    on : (o : Outcome) → (is_some (end_in a.ends o) || is_some (end_in b.ends o)) ≡ (f.ends o || g.ends o)
    on o = or-bools (is_some (end_in a.ends o)) (is_some (end_in b.ends o)) (f.ends o) (g.ends o) (h.ends o) (k.ends o)

    reached : (o : Outcome) → is_some (end_in r.ends o) ≡ (f.ends o || g.ends o)
    reached O.Normal = ends.normal.ends ∙ on O.Normal
    reached O.Break = ends.breaks.ends ∙ on O.Break
    reached O.Continue = ends.continues.ends ∙ on O.Continue
    reached O.Return = ends.returns.ends ∙ on O.Return

    left : (o : Outcome) (q : Place) → q.bit < 2 ^ 32 → (leaves_out (end_in a.ends o) (number_of q) || leaves_out (end_in b.ends o) (number_of q)) ≡ (f.slips o q || g.slips o q)
    left o q small = or-bools (leaves_out (end_in a.ends o) (number_of q)) (leaves_out (end_in b.ends o) (number_of q)) (f.slips o q) (g.slips o q) (h.slips o q small) (k.slips o q small)

    slipped : (o : Outcome) (q : Place) → q.bit < 2 ^ 32 → leaves_out (end_in r.ends o) (number_of q) ≡ (f.slips o q || g.slips o q)
    slipped O.Normal q small = ends.normal.slips (number_of q) ∙ left O.Normal q small
    slipped O.Break q small = ends.breaks.slips (number_of q) ∙ left O.Break q small
    slipped O.Continue q small = ends.continues.slips (number_of q) ∙ left O.Continue q small
    slipped O.Return q small = ends.returns.slips (number_of q) ∙ left O.Return q small

    both : (t : ℕ) → (Member r.unset t → Member (f.unset ++ g.unset) t) × (Member (f.unset ++ g.unset) t → Member r.unset t)
    both t =
        let s = same-append a.unset b.unset f.unset g.unset h.unset k.unset t in
        (λ m. s.0 (subst (λ ts. Member ts t) unset m), λ m. subst (λ ts. Member ts t) (sym unset) (s.1 m))

pub ruleset sequence_laws = (then-is, either-is, then-known, either-known)
