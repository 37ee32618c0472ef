-- Runs of lists of statements, of blocks with locals, and of `case`.
use Rattle.std.proofs.Common.{◌≡◌, ℕ, Bool, true, false, ◌&&◌, ◌||◌, ◌==◌, List, [], ◌∷◌, ◌++◌, append_assoc, map, flat_map, length, Option, Some, None, refl, ap, sym, ◌∙◌, subst}
use Rattle.std.specs.Prelude.{is_some}
use Rattle.std.specs.List.{list_any}
use Rattle.std.proofs.lemmas.Bool.{true≢false, or_parts, and_parts}
use Rattle.b4_core.specs.declared.bit.Bit4.{Bit4}
use Rattle.row_machine.specs.Valuation.{Place}
use Rattle.sv_types.specs.declared.statement.CaseKind.{CaseKind}
use Rattle.sv_types.specs.Windows.{whole, within}
use Rattle.sv_types.specs.Surroundings.{Around, Sight, Use, local_number}
use Rattle.sv_types.specs.Meanings.{Meaning}
use Rattle.sv_types.specs.Operators.{assigned_to}
use Rattle.sv_types.specs.Layouts.{stored, default_bits}
use Rattle.sv_types.specs.Runs as R
use Rattle.sv_types.specs.Runs.{Run, State, ItemRun, Selector, current, is_normal, one_of, idle, matches, first_match, set_local, start_of}
use Rattle.sv_types.specs.Flows as F
use Rattle.sv_types.specs.Flows.{Flow, Flows, covers, covered, uses_of, surely_written, whole_local, all_reads}
use Rattle.flow_laws.specs.Hangs.{Seen, Agree, Same, Hangs}
use Rattle.flow_laws.specs.Runs.{Variables, Starts, Alike, ConformsBy, Conforms, Apart}
use Rattle.flow_laws.proofs.Agreeing as A
use Rattle.flow_laws.proofs.Plain.{AllHang, AllSame}
use Rattle.flow_laws.proofs.Placing as W
use Rattle.flow_laws.proofs.Running as U
use Rattle.flow_laws.proofs.Branching as B

-- a list of runs looks at how the state before it ended
pub guarded : (rs : List Run) (a : Around) (s : State) → one_of (is_normal s.outcome) (R.in_turn rs) idle a s ≡ R.in_turn rs a s
guarded [] a s = by (is_normal s.outcome)
  where
    by : (b : Bool) → one_of b (R.in_turn []) idle a s ≡ s
    by true = refl
    by false = refl
guarded (r ∷ rs) a s = by (is_normal s.outcome) refl
  where
    by : (b : Bool) → is_normal s.outcome ≡ b → one_of b (R.in_turn (r ∷ rs)) idle a s ≡ one_of b (λ c u. R.in_turn rs c (r c u)) idle a s
    by true is = ap (λ b. one_of b (λ c u. R.in_turn rs c (r c u)) idle a s) is
    by false is = refl

-- a local is written whole
set-within : (n : ℕ) (marks : List Bool) (v : List Bit4) (q : Place) → covered (uses_of (record { of = whole_local n marks; exact = true } ∷ [])) q ≡ false → set_local n marks v q ≡ None
set-within n marks v q is =
    W.none-there _ _ (W.outside (local_number n) q.signal (within (whole (length marks)) q.bit) (within (whole (length marks)) q.bit) (λ h. h) (or_parts (covers (whole_local n marks) q) false is).0)

set-sure : (n : ℕ) (marks : List Bool) (v : List Bit4) (q : Place) → surely_written (record { of = whole_local n marks; exact = true } ∷ []) q ≡ true → is_some (set_local n marks v q) ≡ true
set-sure n marks v q is = W.some-there _ _ (there (or-true (covers (whole_local n marks) q) is))
  where
    or-true : (b : Bool) → (b || false) ≡ true → b ≡ true
    or-true true g = refl
    or-true false g = g

    there : ((local_number n == q.signal) && within (whole (length marks)) q.bit) ≡ true → ((q.signal == local_number n) && within (whole (length marks)) q.bit) ≡ true
    there h = let p = and_parts (local_number n == q.signal) (within (whole (length marks)) q.bit) h in
        ap (λ b. b && within (whole (length marks)) q.bit) (W.same-number (local_number n) q.signal p.0) ∙ p.1

abbrev pub HangsOrNone : Option Meaning → Type 0
HangsOrNone None = Unit {0}
HangsOrNone (Some m) = Hangs m

pub assigned-alike : (marks : List Bool) (m : Meaning) (k : Sight) (a b : Around) → Hangs m → Seen k a → Seen k b → Agree (m.reads k) a b → assigned_to marks m a ≡ assigned_to marks m b
assigned-alike marks m k a b h sa sb agree = ap (stored marks) ((h.same k a b sa sb agree).given (length marks))

-- the values of the items of a `case`
matches-alike : (on : Selector) (ms : List Meaning) (a b : Around) → AllSame ms a b → list_any (matches on a) ms ≡ list_any (matches on b) ms
matches-alike on [] a b s = refl
matches-alike on (m ∷ ms) a b s =
    ap (λ v. R.agree on.kind on.value v || list_any (matches on a) ms) (s.0.value on.width on.signed) ∙ ap (λ c. matches on b m || c) (matches-alike on ms a b s.1)

all-alike : (ms : List Meaning) (k : Sight) (a b : Around) → AllHang ms → Seen k a → Seen k b → Agree (all_reads ms k) a b → AllSame ms a b
all-alike [] k a b h sa sb agree = tt
all-alike (m ∷ ms) k a b h sa sb agree = (h.0.same k a b sa sb (A.agree-left (m.reads k) (all_reads ms k) a b agree), all-alike ms k a b h.1 sa sb (A.agree-right (m.reads k) (all_reads ms k) a b agree))

reads-append : (xs ys : List Meaning) (k : Sight) → all_reads (xs ++ ys) k ≡ all_reads xs k ++ all_reads ys k
reads-append [] ys k = refl
reads-append (x ∷ xs) ys k = ap (λ us. x.reads k ++ us) (reads-append xs ys k) ∙ sym (append_assoc (x.reads k) (all_reads xs k) (all_reads ys k))

module _ (vars : Variables) where
  -- what keeps away from two statements keeps away from each
  pub apart-first : (k : Sight) (f g : Flow) → Apart vars k (F.and_then f g) → Apart vars k f
  apart-first k f g h q is = (or_parts (covered (uses_of f.writes) q) (covered (uses_of g.writes) q) (sym (W.covered-writes f.writes g.writes q) ∙ h q is)).0

  pub apart-second : (k : Sight) (f g : Flow) → Apart vars k (F.and_then f g) → Apart vars k g
  apart-second k f g h q is = (or_parts (covered (uses_of f.writes) q) (covered (uses_of g.writes) q) (sym (W.covered-writes f.writes g.writes q) ∙ h q is)).1

  -- a run with another spelling
  pub spelled : (us : List Use) (k : Sight) (r r' : Run) (f : Flow) → ((a : Around) (s : State) → r a s ≡ r' a s) → ConformsBy vars us k r f → ConformsBy vars us k r' f
  spelled us k r r' f is c = record {
    ends = λ a s st. subst (λ u. f.ends u.outcome ≡ true) (is a s) (c.ends a s st);
    within = λ a s st q h. subst (λ u. u.written q ≡ s.written q) (is a s) (c.within a s st q h);
    later = λ a s st q h. subst (λ u. u.pending q ≡ s.pending q) (is a s) (c.later a s st q h);
    grows = λ a s st q h. subst (λ u. is_some (u.written q) ≡ true) (is a s) (c.grows a s st q h);
    sure = λ a s st q h. subst (λ u. is_some (u.written q) ≡ true) (is a s) (c.sure a s st q (subst (λ u. f.slips u.outcome q ≡ false) (sym (is a s)) h));
    same = λ a b s t sa sb alike agree early. subst (λ u. Alike u (r' b t)) (is a s) (subst (λ u. Alike (r a s) u) (is b t) (c.same a b s t sa sb alike agree early));
  }

  -- one run and then another at the same sight
  pub pair-conforms : (k : Sight) (r r' : Run) (f g : Flow) → Conforms vars k r f → Conforms vars k r' g → Apart vars k f → Conforms vars k (U.then_run r r') (F.and_then f g)
  pair-conforms k r r' f g c d apart = U.then-conforms vars k k r r' f g c d (λ a s st n. U.still-starts vars [] k r f a s c apart st n)

  pub turn-is : (r : Run) (rs : List Run) (k : Sight) (a : Around) (s : State) → Starts vars k a s → U.then_run r (R.in_turn rs) a s ≡ R.in_turn (r ∷ rs) a s
  turn-is r rs k a s st = guarded rs a (r a s) ∙ ap (λ b. one_of b (λ c u. R.in_turn rs c (r c u)) idle a s) (sym (ap is_normal st.normal))

  -- the same where runs may start
  pub spelled-there : (us : List Use) (k : Sight) (r r' : Run) (f : Flow) → ((a : Around) (s : State) → Starts vars k a s → r a s ≡ r' a s) → ConformsBy vars us k r f → ConformsBy vars us k r' f
  spelled-there us k r r' f is c = record {
    ends = λ a s st. subst (λ u. f.ends u.outcome ≡ true) (is a s st) (c.ends a s st);
    within = λ a s st q h. subst (λ u. u.written q ≡ s.written q) (is a s st) (c.within a s st q h);
    later = λ a s st q h. subst (λ u. u.pending q ≡ s.pending q) (is a s st) (c.later a s st q h);
    grows = λ a s st q h. subst (λ u. is_some (u.written q) ≡ true) (is a s st) (c.grows a s st q h);
    sure = λ a s st q h. subst (λ u. is_some (u.written q) ≡ true) (is a s st) (c.sure a s st q (subst (λ u. f.slips u.outcome q ≡ false) (sym (is a s st)) h));
    same = λ a b s t sa sb alike agree early. subst (λ u. Alike u (r' b t)) (is a s sa) (subst (λ u. Alike (r a s) u) (is b t sb) (c.same a b s t sa sb alike agree early));
  }

  -- each run with its flow
  pub record Part (k : Sight) : Type 0 where
    pub run : Run
    pub flow : Flows
    pub conforms : Conforms vars k run (flow k)

  abbrev pub part_runs : (k : Sight) → List (Part k) → List Run
  part_runs k ps = map (λ (p : Part k). p.run) ps

  abbrev pub part_flows : (k : Sight) → List (Part k) → List Flows
  part_flows k ps = map (λ (p : Part k). p.flow) ps

  pub turns-conform : (k : Sight) (ps : List (Part k)) → Apart vars k (F.in_turn (part_flows k ps) k) → Conforms vars k (R.in_turn (part_runs k ps)) (F.in_turn (part_flows k ps) k)
  turns-conform k [] apart = record {
    ends = λ a s st. ap is_normal st.normal;
    within = λ a s st q h. refl;
    later = λ a s st q h. refl;
    grows = λ a s st q h. h;
    sure = λ a s st q h. absurd (true≢false (sym (ap is_normal st.normal) ∙ h));
    same = λ a b s t sa sb alike agree early. alike;
  }
  turns-conform k (p ∷ ps) apart =
      let rest = turns-conform k ps (apart-second k (p.flow k) (F.in_turn (part_flows k ps) k) apart) in
      spelled-there [] k (U.then_run p.run (R.in_turn (part_runs k ps))) (R.in_turn (p.run ∷ part_runs k ps)) (F.and_then (p.flow k) (F.in_turn (part_flows k ps) k)) (λ a s st. turn-is p.run (part_runs k ps) k a s st)
      (pair-conforms k p.run (R.in_turn (part_runs k ps)) (p.flow k) (F.in_turn (part_flows k ps) k) p.conforms rest (apart-first k (p.flow k) (F.in_turn (part_flows k ps) k) apart))

  -- a local is set to what hangs on reads
  pub set-conforms : (us : List Use) (k : Sight) (n : ℕ) (marks : List Bool) (v : Around → List Bit4) → ((a b : Around) → Seen k a → Seen k b → Agree us a b → v a ≡ v b)
      → ConformsBy vars us k (λ a s. R.assign_now (set_local n marks (v (current a s))) s) (F.setting n marks)
  set-conforms us k n marks v alike =
      B.now-conforms vars us k (record { of = whole_local n marks; exact = true } ∷ []) (λ a. set_local n marks (v a)) (λ a sa q is. set-within n marks (v a) q is) (λ a sa q is. set-sure n marks (v a) q is)
      (λ a b sa sb agree q. ap (λ (w : List Bit4). set_local n marks w q) (alike a b sa sb agree))

  pub start-conforms : (k : Sight) (n : ℕ) (marks : List Bool) (first : Option Meaning) → HangsOrNone first → Conforms vars k (R.start n marks first) (F.starting n marks first k)
  start-conforms k n marks None h =
      let c = set-conforms [] k n marks (λ a. default_bits marks) (λ a b sa sb agree. refl) in
      record { ends = c.ends; within = c.within; later = c.later; grows = c.grows; sure = c.sure; same = c.same }
  start-conforms k n marks (Some m) h =
      B.after-reading vars (m.reads k) k (R.start n marks (Some m)) (F.setting n marks) (set-conforms (m.reads k) k n marks (λ a. assigned_to marks m a) (λ a b sa sb agree. assigned-alike marks m k a b h sa sb agree))

  -- an item with its flow
  pub record ItemPart (k : Sight) : Type 0 where
    pub values : List Meaning
    pub run : Run
    pub flow : Flows
    pub hang : AllHang values
    pub conforms : Conforms vars k run (flow k)

  abbrev pub item_runs_of : (k : Sight) → List (ItemPart k) → List ItemRun
  item_runs_of k is = map (λ (i : ItemPart k). record { values = i.values; run = i.run }) is

  abbrev pub item_flows_of : (k : Sight) → List (ItemPart k) → List Flows
  item_flows_of k is = map (λ (i : ItemPart k). i.flow) is

  -- all values of these are read
  abbrev pub ReadAll : (k : Sight) → List Use → List (ItemPart k) → Type 0
  ReadAll k us [] = Unit {0}
  ReadAll k us (i ∷ is) = ((a b : Around) → Seen k a → Seen k b → Agree us a b → AllSame i.values a b) × ReadAll k us is

  pub items-conform : (k : Sight) (us : List Use) (on : Selector) (is : List (ItemPart k)) (other : Run) (g : Flow) → ReadAll k us is → Conforms vars k other g
      → ConformsBy vars us k (first_match on (item_runs_of k is) other) (F.any_of (item_flows_of k is) g k)
  items-conform k us on [] other g reads c = let l = B.lifted vars us k other g c in record { ends = l.ends; within = l.within; later = l.later; grows = l.grows; sure = l.sure; same = l.same }
  items-conform k us on (i ∷ is) other g reads c =
      B.chosen-conforms vars us k (λ a s. list_any (matches on (current a s)) i.values) (λ b. one_of b i.run (first_match on (item_runs_of k is) other)) (F.or_else (i.flow k) (F.any_of (item_flows_of k is) g k))
      (each (items-conform k us on is other g reads.1 c))
      (λ a b s t sa sb agree. matches-alike on i.values (current a s) (current b t) (reads.0 (current a s) (current b t) sa.seen sb.seen agree))
    where
      each : ConformsBy vars us k (first_match on (item_runs_of k is) other) (F.any_of (item_flows_of k is) g k) → (b : Bool)
          → ConformsBy vars us k (one_of b i.run (first_match on (item_runs_of k is) other)) (F.or_else (i.flow k) (F.any_of (item_flows_of k is) g k))
      each rest true = let l = B.left-conforms vars us k i.run (i.flow k) (F.any_of (item_flows_of k is) g k) (B.lifted vars us k i.run (i.flow k) i.conforms) in
          record { ends = l.ends; within = l.within; later = l.later; grows = l.grows; sure = l.sure; same = l.same }
      each rest false = let l = B.right-conforms vars us k (first_match on (item_runs_of k is) other) (i.flow k) (F.any_of (item_flows_of k is) g k) rest in
          record { ends = l.ends; within = l.within; later = l.later; grows = l.grows; sure = l.sure; same = l.same }

  abbrev pub values_of : (k : Sight) → List (ItemPart k) → List Meaning
  values_of k is = flat_map (λ (i : ItemPart k). i.values) is

  read-all : (k : Sight) (us : List Use) (is : List (ItemPart k)) → ((a b : Around) → Agree us a b → Agree (all_reads (values_of k is) k) a b) → ReadAll k us is
  read-all k us [] h = tt
  read-all k us (i ∷ is) h = (
    λ a b sa sb agree. all-alike i.values k a b i.hang sa sb (A.agree-left (all_reads i.values k) (all_reads (values_of k is) k) a b (both a b agree)),
    read-all k us is (λ a b agree. A.agree-right (all_reads i.values k) (all_reads (values_of k is) k) a b (both a b agree)),
  )
    where
      both : (a b : Around) → Agree us a b → Agree (all_reads i.values k ++ all_reads (values_of k is) k) a b
      both a b agree = subst (λ vs. Agree vs a b) (reads-append i.values (values_of k is) k) (h a b agree)

  -- a `case`: the selector and all values are read, and then one item runs
  pub select-conforms : (k : Sight) (kind : CaseKind) (on : Meaning) (is : List (ItemPart k)) (other : Run) (g : Flow) → Hangs on → Conforms vars k other g
      → Conforms vars k (R.select kind on (values_of k is) (item_runs_of k is) other) (F.and_then (F.reading (on.reads k ++ all_reads (values_of k is) k)) (F.any_of (item_flows_of k is) g k))
  select-conforms k kind on is other g h c =
      let us = on.reads k ++ all_reads (values_of k is) k in
      B.after-reading vars us k (R.select kind on (values_of k is) (item_runs_of k is) other) (F.any_of (item_flows_of k is) g k)
      (B.chosen-conforms vars us k (λ a s. R.selector kind on (values_of k is) (current a s)) (λ sel. first_match sel (item_runs_of k is) other) (F.any_of (item_flows_of k is) g k)
      (λ sel. items-conform k us sel is other g (read-all k us is (λ a b agree. A.agree-right (on.reads k) (all_reads (values_of k is) k) a b agree)) c)
      (λ a b s t sa sb agree. selector-alike (current a s) (current b t) (h.same k (current a s) (current b t) sa.seen sb.seen (A.agree-left (on.reads k) (all_reads (values_of k is) k) (current a s) (current b t) agree))))
    where
      selector-alike : (a b : Around) → Same on a b → R.selector kind on (values_of k is) a ≡ R.selector kind on (values_of k is) b
      selector-alike a b s = ap (λ (v : List Bit4). record { kind = kind; width = R.widest_of (on ∷ values_of k is); signed = R.all_signed (on ∷ values_of k is); value = v }) (s.value (R.widest_of (on ∷ values_of k is)) (R.all_signed (on ∷ values_of k is)))
