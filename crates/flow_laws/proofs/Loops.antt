-- Runs of counted loops.
use Rattle.std.proofs.Common.{◌≡◌, ◌⊎◌, inl, inr, ℕ, zero, suc, ◌==◌, Bool, true, false, ◌&&◌, ◌||◌, not, cond, List, [], length, Option, Some, None, refl, ap, sym, ◌∙◌, subst, arith}
use Rattle.std.specs.Prelude.{nat_le, nat_lt, is_some}
use Rattle.std.proofs.lemmas.Bool.{true≢false, false≢true, and_parts, or_cases, or_parts, or_left, or_right, eqb-true}
use Rattle.std.proofs.lemmas.Bool.Decides.{nat_tests}
use Rattle.b4_core.specs.declared.bit.Bit4.{Bit4}
use Rattle.row_machine.specs.Valuation.{Place, changed}
use Rattle.row_machine.specs.Steps.{later_or}
use Rattle.sv_types.specs.declared.statement.Outcome.{Outcome}
use Rattle.sv_types.specs.declared.statement.Outcome.TheVariants.{Normal, Break, Continue, Return}
use Rattle.sv_types.specs.Windows.{whole, within}
use Rattle.sv_types.specs.Surroundings.{Around, Sight, Use, local_number, is_signal}
use Rattle.sv_types.specs.Meanings.{Meaning}
use Rattle.sv_types.specs.Operators.{assigned_to}
use Rattle.sv_types.specs.Runs as R
use Rattle.sv_types.specs.Runs.{Run, State, current, is_normal, one_of, idle, is_true, set_local, set_variable, after_turn, most_turns}
use Rattle.sv_types.specs.Flows as F
use Rattle.sv_types.specs.Flows.{Flow, Flows, covers, covered, uses_of, same_outcome, whole_local, knowing}
use Rattle.flow_laws.specs.Hangs.{Hangs}
use Rattle.flow_laws.specs.Runs.{Variables, is_above, Starts, Conforms, Apart}
use Rattle.flow_laws.proofs.Agreeing as A
use Rattle.flow_laws.proofs.Selects.{sees-itself}
use Rattle.flow_laws.proofs.Placing.{same-number}
use Rattle.flow_laws.proofs.Running as U
use Rattle.flow_laws.proofs.Running.{then_run}
use Rattle.flow_laws.proofs.Branching as B
use Rattle.flow_laws.proofs.Scopes as C
use Rattle.flow_laws.proofs.Bounding.{SameSights}

-- a run in which a jump ends here
abbrev end_of : Outcome → Outcome → Outcome
end_of j o = cond (same_outcome o j) Normal o

abbrev pub caught : Outcome → Run → Run
caught j r a s = let u = r a s in record u { outcome = end_of j u.outcome }

same-is : (o j : Outcome) → same_outcome o j ≡ true → o ≡ j
same-is Normal Normal h = refl
same-is Normal Break h = absurd (false≢true h)
same-is Normal Continue h = absurd (false≢true h)
same-is Normal Return h = absurd (false≢true h)
same-is Break Normal h = absurd (false≢true h)
same-is Break Break h = refl
same-is Break Continue h = absurd (false≢true h)
same-is Break Return h = absurd (false≢true h)
same-is Continue Normal h = absurd (false≢true h)
same-is Continue Break h = absurd (false≢true h)
same-is Continue Continue h = refl
same-is Continue Return h = absurd (false≢true h)
same-is Return Normal h = absurd (false≢true h)
same-is Return Break h = absurd (false≢true h)
same-is Return Continue h = absurd (false≢true h)
same-is Return Return h = refl

caught-ends : (j o : Outcome) (f : Flow) → f.ends o ≡ true → (F.catching j f).ends (end_of j o) ≡ true
caught-ends j o f h = by (same_outcome o j) refl
  where
    by : (b : Bool) → same_outcome o j ≡ b → (F.catching j f).ends (cond b Normal o) ≡ true
    by true is = or_left (f.ends j) (not (same_outcome Normal j) && f.ends Normal) (ap f.ends (sym (same-is o j is)) ∙ h)
    by false is = or_right (is_normal o && f.ends j) (not (same_outcome o j) && f.ends o) (ap (λ b. not b && f.ends o) is ∙ h)

caught-slips : (j o : Outcome) (f : Flow) (q : Place) → (F.catching j f).slips (end_of j o) q ≡ false → f.slips o q ≡ false
caught-slips j o f q = by (same_outcome o j) refl
  where
    by : (b : Bool) → same_outcome o j ≡ b → (F.catching j f).slips (cond b Normal o) q ≡ false → f.slips o q ≡ false
    by true is h = ap (λ x. f.slips x q) (same-is o j is) ∙ (or_parts (f.slips j q) (not (same_outcome Normal j) && f.slips Normal q) h).0
    by false is h = sym (ap (λ b. not b && f.slips o q) is) ∙ (or_parts (is_normal o && f.slips j q) (not (same_outcome o j) && f.slips o q) h).1

-- the turns of a loop, without the end of a `break`
abbrev open_turns : ℕ → Meaning → Run → Run → Run
open_turns zero test body step a s = s
open_turns (suc m) test body step a s = one_of (is_true test (current a s)) (then_run (caught Continue body) (then_run step (open_turns m test body step))) idle a s

not-caught : (s : State) → s.outcome ≡ Normal → s ≡ record s { outcome = end_of Break s.outcome }
not-caught s n = ap (λ o. record s { outcome = o }) (n ∙ sym (ap (end_of Break) n))

turns-are : (m : ℕ) (test : Meaning) (body step : Run) → ((a : Around) (s : State) → s.outcome ≡ Normal → (step a s).outcome ≡ Normal) → (a : Around) (s : State) → s.outcome ≡ Normal
    → R.turns m test body step a s ≡ caught Break (open_turns m test body step) a s
unfolding R.turns
turns-are zero test body step keeps a s n = not-caught s n
turns-are (suc m) test body step keeps a s n = by (turns-are m test body step keeps a) (is_true test (current a s))
  where
    after : State
    after = body a s

    ended : State → State
    ended u = record u { outcome = end_of Break u.outcome }

    others : Run
    others = open_turns m test body step

    -- the next turns
    inner : ((v : State) → v.outcome ≡ Normal → R.turns m test body step a v ≡ ended (others a v)) → (v : State) → v.outcome ≡ Normal → R.turns m test body step a (step a v) ≡ ended (then_run step others a v)
    inner rest v is = rest (step a v) (keeps a v is) ∙ ap (λ b. ended (one_of b others idle a (step a v))) (sym (ap is_normal (keeps a v is)))

    turned : Outcome → State
    turned o = ended (one_of (is_normal (end_of Continue o)) (then_run step others) idle a (record after { outcome = end_of Continue o }))

    by-outcome : ((v : State) → v.outcome ≡ Normal → R.turns m test body step a v ≡ ended (others a v)) → (o : Outcome) → after.outcome ≡ o
        → after_turn o (λ c v. R.turns m test body step c (step c v)) a after ≡ turned o
    by-outcome rest Normal is = ap (λ o. R.turns m test body step a (step a (record after { outcome = o }))) is ∙ inner rest (record after { outcome = Normal }) refl
    by-outcome rest Continue is = inner rest (record after { outcome = Normal }) refl
    by-outcome rest Break is = refl
    by-outcome rest Return is = ap (λ o. record after { outcome = o }) is

    by : ((v : State) → v.outcome ≡ Normal → R.turns m test body step a v ≡ ended (others a v)) → (b : Bool)
        → one_of b (λ c u. let x = body c u in after_turn x.outcome (λ d v. R.turns m test body step d (step d v)) c x) idle a s ≡ ended (one_of b (then_run (caught Continue body) (then_run step others)) idle a s)
    by rest true = by-outcome rest after.outcome refl
    by rest false = not-caught s n

absorb : (x c : Bool) → (c ≡ true → x ≡ true) → (x || c) ≡ x
absorb true c h = refl
absorb false true h = sym (h refl)
absorb false false h = refl

-- a bit of a local that a write of all its bits leaves alone lies above them
above-all : (w i : ℕ) (b : Bool) (x : Bit4) → b ≡ true → cond (b && within (whole w) i) (Some x) None ≡ None → nat_le w i ≡ true
above-all w i b x is none = by (within (whole w) i) refl
  where
    outside : (nat_le 0 i && nat_lt i w) ≡ false → nat_le w i ≡ true
    outside h = grind (arith, nat_tests)

    by : (c : Bool) → within (whole w) i ≡ c → nat_le w i ≡ true
    by true h = absurd (true≢false (sym (ap (λ c. is_some (cond c (Some x) None)) (ap (λ c. c && within (whole w) i) is ∙ h)) ∙ ap (λ (o : Option Bit4). is_some o) none))
    by false h = outside h

no-signal : (n : ℕ) → is_signal (local_number n) ≡ false
no-signal n = grind (arith, nat_tests)

module _ (vars : Variables) where
  pub caught-conforms : (k : Sight) (j : Outcome) (r : Run) (f : Flow) → Conforms vars k r f → Conforms vars k (caught j r) (F.catching j f)
  caught-conforms k j r f c = record {
    ends = λ a s st. caught-ends j (r a s).outcome f (c.ends a s st);
    within = c.within;
    later = c.later;
    grows = c.grows;
    sure = λ a s st q h. c.sure a s st q (caught-slips j (r a s).outcome f q h);
    same = λ a b s t sa sb alike agree early.
        let u = c.same a b s t sa sb alike agree early in
        record { written = u.written; pending = u.pending; outcome = ap (end_of j) u.outcome };
  }

  -- the variable of a loop is set to a value that is known
  set-starts : (k : Sight) (n : ℕ) (marks : List Bool) (m : Meaning) → vars (local_number n) ≡ Some (length marks) → Hangs m → m.constant k ≡ true → (a : Around) (s : State) → Starts vars k a s
      → Starts vars (knowing n marks (assigned_to marks m k.around) k) a (set_variable n marks m a s)
  set-starts k n marks m wide hang known a s st = record {
    normal = st.normal;
    seen = record {
      sure = λ i j is. after (record { signal = i; bit = j }) (λ none. held i j none (or_cases (k.sure (record { signal = i; bit = 0 })) (covers (whole_local n marks) (record { signal = i; bit = 0 })) is));
      callee = st.seen.callee;
    };
    beyond = λ q is. after q (λ none. st.beyond q is);
  }
    where
      value : List Bit4
      value = assigned_to marks m k.around

      value-is : assigned_to marks m (current a s) ≡ value
      value-is = C.assigned-alike marks m k (current a s) k.around hang st.seen (sees-itself k) (A.agree-none (m.reads k) (current a s) k.around (hang.constant k known))

      by : (q : Place) (x : Option Bit4) → (x ≡ None → (current a s).now q ≡ k.around.now q) → changed (later_or x (s.written q)) (a.now q) ≡ changed x (k.around.now q)
      by q None h = h refl
      by q (Some b) h = refl

      after : (q : Place) → (set_local n marks value q ≡ None → (current a s).now q ≡ k.around.now q) → (current a (set_variable n marks m a s)).now q ≡ changed (set_local n marks value q) (k.around.now q)
      after q h = ap (λ (v : List Bit4). changed (later_or (set_local n marks v q) (s.written q)) (a.now q)) value-is ∙ by q (set_local n marks value q) h

      held : (i j : ℕ) → set_local n marks value (record { signal = i; bit = j }) ≡ None → (k.sure (record { signal = i; bit = 0 }) ≡ true) ⊎ (covers (whole_local n marks) (record { signal = i; bit = 0 }) ≡ true)
          → (current a s).now (record { signal = i; bit = j }) ≡ k.around.now (record { signal = i; bit = j })
      held i j none (inl sure) = st.seen.sure i j sure
      held i j none (inr own) =
          let is = (and_parts (local_number n == i) (nat_le 0 0 && nat_lt 0 (length marks)) own).0 in
          let above = above-all (length marks) j (i == local_number n) _ (same-number (local_number n) i is) none in
          let same = eqb-true (local_number n) i is in
          st.beyond (record { signal = i; bit = j })
          (subst (λ x. (not (is_signal x) && is_above (vars x) j) ≡ true) same
          (ap (λ b. not b && is_above (vars (local_number n)) j) (no-signal n) ∙ ap (λ o. is_above o j) wide ∙ above))

  -- nothing runs behind reads, or where it isn't known what runs
  idle-reads : (k : Sight) (us : List Use) → Conforms vars k idle (F.reading us)
  idle-reads k us = let c = B.idle-conforms vars k in record { ends = c.ends; within = c.within; later = c.later; grows = c.grows; sure = c.sure; same = λ a b s t sa sb alike agree early. alike }

  idle-endless : (k : Sight) → Conforms vars k idle F.endless
  idle-endless k = let c = B.idle-conforms vars k in record { ends = c.ends; within = c.within; later = c.later; grows = c.grows; sure = c.sure; same = λ a b s t sa sb alike agree early. alike }

  -- a loop whose bounds are known at each sight of its turns, with a body that conforms there
  pub record Loop (n : ℕ) (marks : List Bool) (test step : Meaning) (r : Run) (g : Flows) (outer k : Sight) : Type 0 where
    pub wide : vars (local_number n) ≡ Some (length marks)
    pub own : (q : Place) → covers (whole_local n marks) q ≡ true → k.sure q ≡ true
    pub test_hangs : Hangs test
    pub step_hangs : Hangs step
    pub test_known : (j : Sight) → SameSights j k → test.constant j ≡ true
    pub step_known : (j : Sight) → SameSights j k → step.constant j ≡ true
    pub apart : (j : Sight) → SameSights j k → Apart vars outer (g j) → Apart vars j (g j)
    pub body : (j : Sight) → SameSights j k → Apart vars j (g j) → Conforms vars j r (g j)

  step-sights : (n : ℕ) (marks : List Bool) (v : List Bit4) (j k : Sight) → ((q : Place) → covers (whole_local n marks) q ≡ true → k.sure q ≡ true) → SameSights j k → SameSights (knowing n marks v j) k
  step-sights n marks v j k own same = record {
    sure = λ q. absorb (j.sure q) (covers (whole_local n marks) q) (λ c. same.sure q ∙ own q c) ∙ same.sure q;
    callee = same.callee;
  }

  turns-conform : (n : ℕ) (marks : List Bool) (test step : Meaning) (r : Run) (g : Flows) (outer k : Sight) → Loop n marks test step r g outer k → (m : ℕ) (j : Sight) → SameSights j k
      → Apart vars outer (F.turns m n marks test step g j) → Conforms vars j (open_turns m test r (set_variable n marks step)) (F.turns m n marks test step g j)
  unfolding F.turns
  turns-conform n marks test step r g outer k l zero j same apart = by (test.constant j && not (is_true test j.around))
    where
      by : (b : Bool) → Conforms vars j idle (F.only_if b (λ i. F.reading (test.reads i)) F.endless j)
      by true = idle-reads j (test.reads j)
      by false = idle-endless j
  turns-conform n marks test step r g outer k l (suc m) j same apart =
      subst (λ b. Conforms vars j whole_run (F.only_if b (F.only_if (is_true test j.around) turn (F.reading (test.reads j))) F.endless j)) (sym (l.test_known j same))
      (by (λ apart'. turns-conform n marks test step r g outer k l m next (step-sights n marks value j k l.own same) apart') (is_true test j.around) refl
      (subst (λ b. Apart vars outer (F.only_if b (F.only_if (is_true test j.around) turn (F.reading (test.reads j))) F.endless j)) (l.test_known j same) apart))
    where
      value : List Bit4
      value = assigned_to marks step j.around

      next : Sight
      next = knowing n marks value j

      again : Flows
      again i = F.and_then (F.and_then (F.reading (step.reads i)) (F.setting n marks)) (F.turns m n marks test step g (knowing n marks (assigned_to marks step i.around) i))

      turn : Flows
      turn i = F.and_then (F.reading (test.reads i)) (F.and_then (F.catching Continue (g i)) (F.only_if (step.constant i) again F.endless i))

      set : Run
      set = set_variable n marks step

      others : Run
      others = open_turns m test r set

      whole_run : Run
      whole_run a s = one_of (is_true test (current a s)) (then_run (caught Continue r) (then_run set others)) idle a s

      test-is : (a : Around) (s : State) → Starts vars j a s → is_true test (current a s) ≡ is_true test j.around
      test-is a s st = B.true-alike test j (current a s) j.around l.test_hangs st.seen (sees-itself j) (A.agree-none (test.reads j) (current a s) j.around (l.test_hangs.constant j (l.test_known j same)))

      first : Flow
      first = F.catching Continue (g j)

      step-conforms : (Apart vars outer (F.turns m n marks test step g next) → Conforms vars next others (F.turns m n marks test step g next)) → Apart vars outer (again j) → Conforms vars j (then_run set others) (again j)
      step-conforms rest apart' =
          let c = C.start-conforms vars j n marks (Some step) l.step_hangs in
          let f = F.and_then (F.reading (step.reads j)) (F.setting n marks) in
          U.then-conforms vars j next set others f (F.turns m n marks test step g next)
          (record { ends = c.ends; within = c.within; later = c.later; grows = c.grows; sure = c.sure; same = c.same }) (rest (C.apart-second vars outer f (F.turns m n marks test step g next) apart'))
          (λ a s st is. set-starts j n marks step l.wide l.step_hangs (l.step_known j same) a s st)

      turn-conforms : (Apart vars outer (F.turns m n marks test step g next) → Conforms vars next others (F.turns m n marks test step g next)) → Apart vars outer (turn j) → Conforms vars j (then_run (caught Continue r) (then_run set others)) (turn j)
      turn-conforms rest apart' =
          let reads = F.reading (test.reads j) in
          let last = F.only_if (step.constant j) again F.endless j in
          let both = C.apart-second vars outer reads (F.and_then first last) apart' in
          let here = l.apart j same (C.apart-first vars outer first last both) in
          let known = l.step_known j same in
          let later = subst (λ b. Apart vars outer (F.only_if b again F.endless j)) known (C.apart-second vars outer first last both) in
          let c = caught-conforms j Continue r (g j) (l.body j same here) in
          let d = subst (λ b. Conforms vars j (then_run set others) (F.only_if b again F.endless j)) (sym known) (step-conforms rest later) in
          B.after-reading vars (test.reads j) j (then_run (caught Continue r) (then_run set others)) (F.and_then first last)
          (B.lifted vars (test.reads j) j (then_run (caught Continue r) (then_run set others)) (F.and_then first last)
          (U.then-conforms vars j j (caught Continue r) (then_run set others) first last c d (λ a s st is. U.still-starts vars [] j (caught Continue r) first a s c here st is)))

      by : (Apart vars outer (F.turns m n marks test step g next) → Conforms vars next others (F.turns m n marks test step g next)) → (b : Bool) → is_true test j.around ≡ b
          → Apart vars outer (F.only_if b turn (F.reading (test.reads j)) j) → Conforms vars j whole_run (F.only_if b turn (F.reading (test.reads j)) j)
      by rest true is apart' =
          C.spelled-there vars [] j (then_run (caught Continue r) (then_run set others)) whole_run (turn j)
          (λ a s st. sym (ap (λ b. one_of b (then_run (caught Continue r) (then_run set others)) idle a s) (test-is a s st ∙ is))) (turn-conforms rest apart')
      by rest false is apart' =
          C.spelled-there vars [] j idle whole_run (F.reading (test.reads j)) (λ a s st. sym (ap (λ b. one_of b (then_run (caught Continue r) (then_run set others)) idle a s) (test-is a s st ∙ is)))
          (idle-reads j (test.reads j))

  -- a counted loop
  pub loop-conforms : (k : Sight) (n : ℕ) (first test step : Meaning) (r : Run) (g : Flows) → Hangs first → first.constant k ≡ true
      → Loop n first.of.two_state test step r g k (knowing n first.of.two_state (assigned_to first.of.two_state first k.around) k)
      → Apart vars k (F.looping n first test step g k) → Conforms vars k (R.loop n first test step r) (F.looping n first test step g k)
  loop-conforms k n first test step r g hang known l apart =
      let inner = knowing n marks (assigned_to marks first k.around) k in
      let turns = F.turns most_turns n marks test step g inner in
      let c = C.start-conforms vars k n marks (Some first) hang in
      let near = subst (λ b. Apart vars k (F.only_if b all F.endless k)) known (C.apart-second vars k set_flow (F.only_if (first.constant k) all F.endless k) apart) in
      let d = turns-conform n marks test step r g k inner l most_turns inner (record { sure = λ q. refl; callee = refl }) near in
      subst (λ b. Conforms vars k (R.loop n first test step r) (F.and_then set_flow (F.only_if b all F.endless k))) (sym known)
      (C.spelled-there vars [] k (then_run set (caught Break (open_turns most_turns test r (set_variable n marks step)))) (R.loop n first test step r) (F.and_then set_flow (all k)) spelling
      (U.then-conforms vars k inner set (caught Break (open_turns most_turns test r (set_variable n marks step))) set_flow (all k)
      (record { ends = c.ends; within = c.within; later = c.later; grows = c.grows; sure = c.sure; same = c.same })
      (caught-conforms inner Break (open_turns most_turns test r (set_variable n marks step)) turns d)
      (λ a s st is. set-starts k n marks first l.wide hang known a s st)))
    where
      marks : List Bool
      marks = first.of.two_state

      set : Run
      set = set_variable n marks first

      set_flow : Flow
      set_flow = F.and_then (F.reading (first.reads k)) (F.setting n marks)

      all : Flows
      all j = F.catching Break (F.turns most_turns n marks test step g (knowing n marks (assigned_to marks first j.around) j))

      spelling : (a : Around) (s : State) → Starts vars k a s → then_run set (caught Break (open_turns most_turns test r (set_variable n marks step))) a s ≡ R.loop n first test step r a s
      spelling a s st =
          ap (λ b. one_of b (caught Break (open_turns most_turns test r (set_variable n marks step))) idle a (set a s)) (ap is_normal st.normal)
          ∙ sym (turns-are most_turns test r (set_variable n marks step) (λ b u is. is) a (set a s) st.normal)
