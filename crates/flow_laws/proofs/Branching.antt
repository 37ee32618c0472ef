-- Runs behind reads, runs of one of two statements, and writes.
use Rattle.std.proofs.Common.{◌≡◌, ℕ, ◌-◌, Bool, true, false, ◌&&◌, ◌||◌, not, cond, List, [], ◌∷◌, ◌++◌, map, filter, drop, None, refl, ap, sym, ◌∙◌, subst}
use Rattle.std.specs.Prelude.{is_some}
use Rattle.std.specs.List.{list_any}
use Rattle.std.proofs.lemmas.Bool.{true≢false, false≢true, or_parts, or_left, or_right, not-false}
use Rattle.b4_core.specs.Bits.{is_one}
use Rattle.row_machine.specs.Valuation.{Place, Changes}
use Rattle.row_machine.specs.Steps.{later_or}
use Rattle.sv_types.specs.declared.statement.Outcome.{Outcome}
use Rattle.sv_types.specs.declared.statement.Outcome.TheVariants.{Normal, Break, Continue, Return}
use Rattle.sv_types.specs.Surroundings.{Around, Sight, Use, Write}
use Rattle.sv_types.specs.Meanings.{Meaning, wide, alone}
use Rattle.sv_types.specs.Operators.{puts_all, width_of_all}
use Rattle.sv_types.specs.Runs as R
use Rattle.sv_types.specs.Runs.{Run, State, current, is_normal, one_of, idle, assign_now, assign_later, is_true}
use Rattle.sv_types.specs.Flows as F
use Rattle.sv_types.specs.Flows.{Flow, covers, covered, uses_of, surely_written, same_outcome, all_reads, all_indices, all_writes}
use Rattle.flow_laws.specs.Hangs.{Seen, Agree, Same, Hangs}
use Rattle.flow_laws.specs.Runs.{Variables, Starts, Alike, some_token, ConformsBy, Conforms}
use Rattle.flow_laws.proofs.Agreeing as A
use Rattle.flow_laws.proofs.Plain as P
use Rattle.flow_laws.proofs.Placing as W
use Rattle.flow_laws.proofs.Placing.{AllPlaces}
use Rattle.flow_laws.proofs.Running as U

-- a read stands at a token
some-at : (us : List Use) (q : Place) → covered us q ≡ true → some_token (map (λ (u : Use). u.at) (filter (λ u. covers u q) us)) ≡ true
some-at [] q h = absurd (false≢true h)
some-at (u ∷ us) q h = by (covers u q) h (some-at us q)
  where
    by : (b : Bool) → (b || covered us q) ≡ true → (covered us q ≡ true → some_token (map (λ (v : Use). v.at) (filter (λ v. covers v q) us)) ≡ true)
        → some_token (map (λ (v : Use). v.at) (cond b (u ∷ filter (λ v. covers v q) us) (filter (λ v. covers v q) us))) ≡ true
    by true g f = refl
    by false g f = f g

same-or : (x : Bool) (o : Outcome) → (x || (not (is_normal o) && is_normal o)) ≡ x
same-or true o = refl
same-or false Normal = refl
same-or false Break = refl
same-or false Continue = refl
same-or false Return = refl

-- a condition
pub true-alike : (on : Meaning) (k : Sight) (a b : Around) → Hangs on → Seen k a → Seen k b → Agree (on.reads k) a b → is_true on a ≡ is_true on b
true-alike on k a b h sa sb agree = ap is_one (P.truth-same on a b (h.same k a b sa sb agree))

jumps-so : (o : Outcome) → same_outcome o o ≡ true
jumps-so Normal = refl
jumps-so Break = refl
jumps-so Continue = refl
jumps-so Return = refl

-- an assignment: the indices of all parts and the value are read, and then all parts are written
given-alike : (to : List Meaning) (value : Meaning) (a b : Around) → Same value a b → R.value_given to value a ≡ R.value_given to value b
given-alike to value a b s = by (list_any (λ (m : Meaning). m.streams) to)
  where
    by : (c : Bool) → cond c (drop (wide value - width_of_all to) (alone value a)) (value.given (width_of_all to) a) ≡ cond c (drop (wide value - width_of_all to) (alone value b)) (value.given (width_of_all to) b)
    by true = ap (drop (wide value - width_of_all to)) (P.alone-same value a b s)
    by false = s.given (width_of_all to)

changes-alike : (to : List Meaning) (value : Meaning) (k : Sight) (a b : Around) → AllPlaces to → Hangs value → Seen k a → Seen k b → Agree (all_indices to k ++ value.reads k) a b → (q : Place)
    → R.changes_of to value a q ≡ R.changes_of to value b q
changes-alike to value k a b places h sa sb agree q =
    ap (λ v. puts_all to a v q) (given-alike to value a b (h.same k a b sa sb (A.agree-right (all_indices to k) (value.reads k) a b agree)))
    ∙ W.all-same to k a b places sa sb (A.agree-left (all_indices to k) (value.reads k) a b agree) (R.value_given to value b) q

module _ (vars : Variables) where
  pub lifted : (us : List Use) (k : Sight) (r : Run) (f : Flow) → Conforms vars k r f → ConformsBy vars us k r f
  lifted us k r f c = record {
    ends = c.ends;
    within = c.within;
    later = c.later;
    grows = c.grows;
    sure = c.sure;
    same = λ a b s t sa sb alike agree early. c.same a b s t sa sb alike (λ q h. absurd (false≢true h)) early;
  }

  -- a flow that differs only in what isn't said of runs
  pub also-unset : (us : List Use) (k : Sight) (r : Run) (f : Flow) (ts : List ℕ) → ConformsBy vars us k r f → ConformsBy vars us k r (record f { unset = ts })
  also-unset us k r f ts c = record { ends = c.ends; within = c.within; later = c.later; grows = c.grows; sure = c.sure; same = c.same }

  pub also-count : (us : List Use) (k : Sight) (r : Run) (f : Flow) (n : ℕ) → ConformsBy vars us k r f → ConformsBy vars us k r (record f { statements = n })
  also-count us k r f n c = record { ends = c.ends; within = c.within; later = c.later; grows = c.grows; sure = c.sure; same = c.same }

  -- a run that hangs on reads, behind these reads
  pub after-reading : (us : List Use) (k : Sight) (r : Run) (f : Flow) → ConformsBy vars us k r f → Conforms vars k r (F.and_then (F.reading us) f)
  after-reading us k r f c = record {
    ends = λ a s st. same-or (f.ends (r a s).outcome) (r a s).outcome ∙ c.ends a s st;
    within = c.within;
    later = c.later;
    grows = c.grows;
    sure = λ a s st q h. c.sure a s st q (sym (same-or (f.slips (r a s).outcome q) (r a s).outcome) ∙ h);
    same = λ a b s t sa sb alike agree early. c.same a b s t sa sb alike
        (λ q h. early q (U.some-left (map (λ (u : Use). u.at) (filter (λ u. covers u q) us)) (f.early q) (some-at us q h)))
        (λ q h. early q (U.some-right (map (λ (u : Use). u.at) (filter (λ u. covers u q) us)) (f.early q) h));
  }

  -- one of two
  pub left-conforms : (us : List Use) (k : Sight) (r : Run) (f g : Flow) → ConformsBy vars us k r f → ConformsBy vars us k r (F.or_else f g)
  left-conforms us k r f g c = record {
    ends = λ a s st. or_left (f.ends (r a s).outcome) (g.ends (r a s).outcome) (c.ends a s st);
    within = λ a s st q h. c.within a s st q (or_parts (covered (uses_of f.writes) q) (covered (uses_of g.writes) q) (sym (W.covered-writes f.writes g.writes q) ∙ h)).0;
    later = λ a s st q h. c.later a s st q (or_parts (covered (uses_of f.later) q) (covered (uses_of g.later) q) (sym (W.covered-writes f.later g.later q) ∙ h)).0;
    grows = c.grows;
    sure = λ a s st q h. c.sure a s st q (or_parts (f.slips (r a s).outcome q) (g.slips (r a s).outcome q) h).0;
    same = λ a b s t sa sb alike agree early. c.same a b s t sa sb alike agree (λ q h. early q (U.some-left (f.early q) (g.early q) h));
  }

  pub right-conforms : (us : List Use) (k : Sight) (r : Run) (f g : Flow) → ConformsBy vars us k r g → ConformsBy vars us k r (F.or_else f g)
  right-conforms us k r f g c = record {
    ends = λ a s st. or_right (f.ends (r a s).outcome) (g.ends (r a s).outcome) (c.ends a s st);
    within = λ a s st q h. c.within a s st q (or_parts (covered (uses_of f.writes) q) (covered (uses_of g.writes) q) (sym (W.covered-writes f.writes g.writes q) ∙ h)).1;
    later = λ a s st q h. c.later a s st q (or_parts (covered (uses_of f.later) q) (covered (uses_of g.later) q) (sym (W.covered-writes f.later g.later q) ∙ h)).1;
    grows = c.grows;
    sure = λ a s st q h. c.sure a s st q (or_parts (f.slips (r a s).outcome q) (g.slips (r a s).outcome q) h).1;
    same = λ a b s t sa sb alike agree early. c.same a b s t sa sb alike agree (λ q h. early q (U.some-right (f.early q) (g.early q) h));
  }

  -- a run that is chosen by what hangs on the reads
  pub chosen-conforms : {X : Type 0} (us : List Use) (k : Sight) (x : Around → State → X) (r : X → Run) (f : Flow) → ((v : X) → ConformsBy vars us k (r v) f)
      → ((a b : Around) (s t : State) → Starts vars k a s → Starts vars k b t → Agree us (current a s) (current b t) → x a s ≡ x b t) → ConformsBy vars us k (λ a s. r (x a s) a s) f
  chosen-conforms us k x r f c alike = record {
    ends = λ a s st. (c (x a s)).ends a s st;
    within = λ a s st. (c (x a s)).within a s st;
    later = λ a s st. (c (x a s)).later a s st;
    grows = λ a s st. (c (x a s)).grows a s st;
    sure = λ a s st. (c (x a s)).sure a s st;
    same = λ a b s t sa sb is agree early. subst (λ v. Alike (r (x a s) a s) (r v b t)) (alike a b s t sa sb agree) ((c (x a s)).same a b s t sa sb is agree early);
  }

  pub branch-conforms : (k : Sight) (on : Meaning) (r r' : Run) (f g : Flow) → Hangs on → Conforms vars k r f → Conforms vars k r' g → Conforms vars k (R.branch on r r') (F.and_then (F.reading (on.reads k)) (F.or_else f g))
  branch-conforms k on r r' f g h c d =
      after-reading (on.reads k) k (R.branch on r r') (F.or_else f g)
      (chosen-conforms (on.reads k) k (λ a s. is_true on (current a s)) (λ b. one_of b r r') (F.or_else f g) each (λ a b s t sa sb agree. true-alike on k (current a s) (current b t) h sa.seen sb.seen agree))
    where
      each : (b : Bool) → ConformsBy vars (on.reads k) k (one_of b r r') (F.or_else f g)
      each true = let l = left-conforms (on.reads k) k r f g (lifted (on.reads k) k r f c) in
          record { ends = l.ends; within = l.within; later = l.later; grows = l.grows; sure = l.sure; same = l.same }
      each false = let l = right-conforms (on.reads k) k r' f g (lifted (on.reads k) k r' g d) in
          record { ends = l.ends; within = l.within; later = l.later; grows = l.grows; sure = l.sure; same = l.same }

  -- nothing runs, or a jump
  pub idle-conforms : (k : Sight) → Conforms vars k idle F.nothing
  idle-conforms k = record {
    ends = λ a s st. ap is_normal st.normal;
    within = λ a s st q h. refl;
    later = λ a s st q h. refl;
    grows = λ a s st q h. h;
    sure = λ a s st q h. absurd (true≢false (sym (ap is_normal st.normal) ∙ h));
    same = λ a b s t sa sb alike agree early. alike;
  }

  pub jump-conforms : (k : Sight) (o : Outcome) → Conforms vars k (R.jump o) (F.jumping o)
  jump-conforms k o = record {
    ends = λ a s st. jumps-so o;
    within = λ a s st q h. refl;
    later = λ a s st q h. refl;
    grows = λ a s st q h. h;
    sure = λ a s st q h. absurd (true≢false (sym (jumps-so o) ∙ h));
    same = λ a b s t sa sb alike agree early. record { written = alike.written; pending = alike.pending; outcome = refl };
  }

  -- changes that hang on reads, made at once
  pub now-conforms : (us : List Use) (k : Sight) (ws : List Write) (c : Around → Changes)
      → ((a : Around) → Seen k a → (q : Place) → covered (uses_of ws) q ≡ false → c a q ≡ None)
      → ((a : Around) → Seen k a → (q : Place) → surely_written ws q ≡ true → is_some (c a q) ≡ true)
      → ((a b : Around) → Seen k a → Seen k b → Agree us a b → (q : Place) → c a q ≡ c b q) → ConformsBy vars us k (λ a s. assign_now (c (current a s)) s) (F.writing ws)
  now-conforms us k ws c within sure same = record {
    ends = λ a s st. ap is_normal st.normal;
    within = λ a s st q h. ap (λ x. later_or x (s.written q)) (within (current a s) st.seen q h);
    later = λ a s st q h. refl;
    grows = λ a s st q h. W.earlier-some (c (current a s) q) (s.written q) h;
    sure = λ a s st q h.
        W.later-some (c (current a s) q) (s.written q)
        (sure (current a s) st.seen q (not-false (surely_written ws q) (sym (ap (λ (o : Outcome). is_normal o && not (surely_written ws q)) st.normal) ∙ h)));
    same = λ a b s t sa sb alike agree early. record {
      written = λ q. W.later-same (c (current a s) q) (c (current b t) q) (s.written q) (t.written q) (same (current a s) (current b t) sa.seen sb.seen agree q) (alike.written q);
      pending = alike.pending;
      outcome = alike.outcome;
    };
  }

  -- and made later
  pub later-conforms : (us : List Use) (k : Sight) (ws : List Write) (c : Around → Changes)
      → ((a : Around) → Seen k a → (q : Place) → covered (uses_of ws) q ≡ false → c a q ≡ None)
      → ((a b : Around) → Seen k a → Seen k b → Agree us a b → (q : Place) → c a q ≡ c b q) → ConformsBy vars us k (λ a s. assign_later (c (current a s)) s) (F.writing_later ws)
  later-conforms us k ws c within same = record {
    ends = λ a s st. ap is_normal st.normal;
    within = λ a s st q h. refl;
    later = λ a s st q h. ap (λ x. later_or x (s.pending q)) (within (current a s) st.seen q h);
    grows = λ a s st q h. h;
    sure = λ a s st q h. absurd (true≢false (sym (ap is_normal st.normal) ∙ h));
    same = λ a b s t sa sb alike agree early. record {
      written = alike.written;
      pending = λ q. W.later-same (c (current a s) q) (c (current b t) q) (s.pending q) (t.pending q) (same (current a s) (current b t) sa.seen sb.seen agree q) (alike.pending q);
      outcome = alike.outcome;
    };
  }

  pub assign-conforms : (k : Sight) (later : Bool) (to : List Meaning) (value : Meaning) → AllPlaces to → Hangs value → Conforms vars k (R.assign later to value) (F.assigning later to value k)
  assign-conforms k false to value places h =
      let c = now-conforms (all_indices to k ++ value.reads k) k (all_writes to k) (R.changes_of to value)
      (λ a sa q is. W.all-within to k a places sa (R.value_given to value a) q is) (λ a sa q is. W.all-sure to k a places sa (R.value_given to value a) q is)
      (λ a b sa sb agree q. changes-alike to value k a b places h sa sb agree q) in
      after-reading (all_indices to k ++ value.reads k) k (R.assign false to value) (F.writing (all_writes to k))
      (record { ends = c.ends; within = c.within; later = c.later; grows = c.grows; sure = c.sure; same = c.same })
  assign-conforms k true to value places h =
      let c = later-conforms (all_indices to k ++ value.reads k) k (all_writes to k) (R.changes_of to value)
      (λ a sa q is. W.all-within to k a places sa (R.value_given to value a) q is)
      (λ a b sa sb agree q. changes-alike to value k a b places h sa sb agree q) in
      after-reading (all_indices to k ++ value.reads k) k (R.assign true to value) (F.writing_later (all_writes to k))
      (record { ends = c.ends; within = c.within; later = c.later; grows = c.grows; sure = c.sure; same = c.same })
