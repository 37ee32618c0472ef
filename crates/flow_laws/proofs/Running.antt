-- Runs of statements one after the other, side by side, and behind reads.
use Rattle.std.proofs.Common.{◌≡◌, ◌⊎◌, inl, inr, ℕ, Bool, true, false, ◌&&◌, ◌||◌, not, cond, List, [], ◌∷◌, ◌++◌, Option, Some, None, refl, ap, sym, ◌∙◌}
use Rattle.std.specs.Prelude.{is_some}
use Rattle.std.proofs.lemmas.Bool.{true≢false, false≢true, and_cases, or_parts, or_left, or_right}
use Rattle.b4_core.specs.declared.bit.Bit4.{Bit4}
use Rattle.row_machine.specs.Valuation.{Place, changed}
use Rattle.sv_types.specs.declared.statement.Outcome.{Outcome}
use Rattle.sv_types.specs.declared.statement.Outcome.TheVariants.{Normal, Break, Continue, Return}
use Rattle.sv_types.specs.Surroundings.{Around, Sight, Use}
use Rattle.sv_types.specs.Runs.{Run, State, current, is_normal, one_of, idle}
use Rattle.sv_types.specs.Flows as F
use Rattle.sv_types.specs.Flows.{Flow, covers, covered, uses_of, same_outcome}
use Rattle.flow_laws.specs.Hangs.{Agree}
use Rattle.flow_laws.specs.Runs.{Variables, is_beyond, Starts, Alike, some_token, AlikeEarly, ConformsBy, Conforms, Apart}
use Rattle.flow_laws.proofs.Placing.{covered-writes}

normal-is : (o : Outcome) → is_normal o ≡ true → o ≡ Normal
normal-is Normal h = refl
normal-is Break h = absurd (false≢true h)
normal-is Continue h = absurd (false≢true h)
normal-is Return h = absurd (false≢true h)

agree-nothing : (a b : Around) → Agree [] a b
agree-nothing a b q h = absurd (false≢true h)

pub some-left : (ts us : List ℕ) → some_token ts ≡ true → some_token (ts ++ us) ≡ true
some-left [] us h = absurd (false≢true h)
some-left (t ∷ ts) us h = refl

pub some-right : (ts us : List ℕ) → some_token us ≡ true → some_token (ts ++ us) ≡ true
some-right [] us h = h
some-right (t ∷ ts) us h = refl

-- what a bit holds once the same was written, if it held the same before
held-alike : (x y : Option Bit4) (v u : Bit4) → x ≡ y → (x ≡ None → v ≡ u) → changed x v ≡ changed y u
held-alike (Some c) y v u e h = ap (λ z. changed z u) e
held-alike None y v u e h = h refl ∙ ap (λ z. changed z u) e

none-before : (x y : Option Bit4) → (is_some x ≡ true → is_some y ≡ true) → y ≡ None → x ≡ None
none-before None y h e = refl
none-before (Some c) y h e = absurd (false≢true (sym (ap is_some e) ∙ h refl))

-- one run and then another, if the first one goes on
abbrev pub then_run : Run → Run → Run
then_run r r' a s = one_of (is_normal (r a s).outcome) r' idle a (r a s)

-- early reads of the second, as far as the first one wrote nothing there
early-then : (f g : Flow) (q : Place) → f.slips Normal q ≡ true → some_token (g.early q) ≡ true → some_token ((F.and_then f g).early q) ≡ true
early-then f g q slips early = ap (λ c. some_token (f.early q ++ cond c (g.early q) [])) slips ∙ some-right (f.early q) (g.early q) early

module _ (vars : Variables) where
  -- a sight goes on knowing while nothing is written of what it knows
  pub still-starts : (us : List Use) (k : Sight) (r : Run) (f : Flow) (a : Around) (s : State) → ConformsBy vars us k r f → Apart vars k f → Starts vars k a s → (r a s).outcome ≡ Normal → Starts vars k a (r a s)
  still-starts us k r f a s c apart st n = record {
    normal = n;
    seen = record {
      sure = λ m j is. kept (record { signal = m; bit = j }) (or_right (is_beyond vars (record { signal = m; bit = j })) (k.sure (record { signal = m; bit = 0 })) is) ∙ st.seen.sure m j is;
      callee = st.seen.callee;
    };
    beyond = λ q is. kept q (or_left (is_beyond vars q) (k.sure (record { signal = q.signal; bit = 0 })) is) ∙ st.beyond q is;
  }
    where
      kept : (q : Place) → (is_beyond vars q || k.sure (record { signal = q.signal; bit = 0 })) ≡ true → (current a (r a s)).now q ≡ (current a s).now q
      kept q is = ap (λ x. changed x (a.now q)) (c.within a s st q (apart q is))

  pub then-conforms : (k k' : Sight) (r r' : Run) (f g : Flow) → Conforms vars k r f → Conforms vars k' r' g
      → ((a : Around) (s : State) → Starts vars k a s → (r a s).outcome ≡ Normal → Starts vars k' a (r a s)) → Conforms vars k (then_run r r') (F.and_then f g)
  then-conforms k k' r r' f g c d next = record {
    ends = λ a s st. ends a s st (is_normal (r a s).outcome) refl;
    within = λ a s st q is. within a s st q (or_parts (covered (uses_of f.writes) q) (covered (uses_of g.writes) q) (sym (covered-writes f.writes g.writes q) ∙ is)) (is_normal (r a s).outcome) refl;
    later = λ a s st q is. later a s st q (or_parts (covered (uses_of f.later) q) (covered (uses_of g.later) q) (sym (covered-writes f.later g.later q) ∙ is)) (is_normal (r a s).outcome) refl;
    grows = λ a s st q is. grows a s st q is (is_normal (r a s).outcome) refl;
    sure = λ a s st q. sure a s st q (is_normal (r a s).outcome) refl;
    same = λ a b s t sa sb alike agree early. same a b s t sa sb alike early (is_normal (r a s).outcome) (is_normal (r b t).outcome) refl refl;
  }
    where
      begins : (a : Around) (s : State) → Starts vars k a s → is_normal (r a s).outcome ≡ true → Starts vars k' a (r a s)
      begins a s st is = next a s st (normal-is (r a s).outcome is)

      ends : (a : Around) (s : State) → Starts vars k a s → (b : Bool) → is_normal (r a s).outcome ≡ b → (F.and_then f g).ends (one_of b r' idle a (r a s)).outcome ≡ true
      ends a s st true is =
          or_left (f.ends Normal && g.ends (r' a (r a s)).outcome) (not (is_normal (r' a (r a s)).outcome) && f.ends (r' a (r a s)).outcome)
          (ap (λ x. x && g.ends (r' a (r a s)).outcome) (sym (ap f.ends (normal-is (r a s).outcome is)) ∙ c.ends a s st) ∙ d.ends a (r a s) (begins a s st is))
      ends a s st false is =
          or_right (f.ends Normal && g.ends (r a s).outcome) (not (is_normal (r a s).outcome) && f.ends (r a s).outcome) (ap (λ x. not x && f.ends (r a s).outcome) is ∙ c.ends a s st)

      within : (a : Around) (s : State) → Starts vars k a s → (q : Place) → (covered (uses_of f.writes) q ≡ false) × (covered (uses_of g.writes) q ≡ false) → (b : Bool) → is_normal (r a s).outcome ≡ b
          → (one_of b r' idle a (r a s)).written q ≡ s.written q
      within a s st q none true is = d.within a (r a s) (begins a s st is) q none.1 ∙ c.within a s st q none.0
      within a s st q none false is = c.within a s st q none.0

      later : (a : Around) (s : State) → Starts vars k a s → (q : Place) → (covered (uses_of f.later) q ≡ false) × (covered (uses_of g.later) q ≡ false) → (b : Bool) → is_normal (r a s).outcome ≡ b
          → (one_of b r' idle a (r a s)).pending q ≡ s.pending q
      later a s st q none true is = d.later a (r a s) (begins a s st is) q none.1 ∙ c.later a s st q none.0
      later a s st q none false is = c.later a s st q none.0

      grows : (a : Around) (s : State) → Starts vars k a s → (q : Place) → is_some (s.written q) ≡ true → (b : Bool) → is_normal (r a s).outcome ≡ b → is_some ((one_of b r' idle a (r a s)).written q) ≡ true
      grows a s st q h true is = d.grows a (r a s) (begins a s st is) q (c.grows a s st q h)
      grows a s st q h false is = c.grows a s st q h

      sure : (a : Around) (s : State) → Starts vars k a s → (q : Place) → (b : Bool) → is_normal (r a s).outcome ≡ b → (F.and_then f g).slips (one_of b r' idle a (r a s)).outcome q ≡ false
          → is_some ((one_of b r' idle a (r a s)).written q) ≡ true
      sure a s st q true is h =
          by (and_cases (f.slips Normal q) (g.slips (r' a (r a s)).outcome q) (or_parts (f.slips Normal q && g.slips (r' a (r a s)).outcome q) (not (is_normal (r' a (r a s)).outcome) && f.slips (r' a (r a s)).outcome q) h).0)
        where
          by : (f.slips Normal q ≡ false) ⊎ (g.slips (r' a (r a s)).outcome q ≡ false) → is_some ((r' a (r a s)).written q) ≡ true
          by (inl x) = d.grows a (r a s) (begins a s st is) q (c.sure a s st q (ap (λ o. f.slips o q) (normal-is (r a s).outcome is) ∙ x))
          by (inr y) = d.sure a (r a s) (begins a s st is) q y
      sure a s st q false is h =
          c.sure a s st q (sym (ap (λ x. not x && f.slips (r a s).outcome q) is) ∙ (or_parts (f.slips Normal q && g.slips (r a s).outcome q) (not (is_normal (r a s).outcome) && f.slips (r a s).outcome q) h).1)

      between : (a b : Around) (s t : State) → Starts vars k a s → Starts vars k b t → Alike s t → AlikeEarly (F.and_then f g) a b s t → Alike (r a s) (r b t)
      between a b s t sa sb alike early = c.same a b s t sa sb alike (agree-nothing (current a s) (current b t)) (λ q h. early q (some-left (f.early q) (cond (f.slips Normal q) (g.early q) []) h))

      -- what the second one reads early is the same in both
      onward : (a b : Around) (s t : State) → Starts vars k a s → Starts vars k b t → Alike s t → AlikeEarly (F.and_then f g) a b s t → (r a s).outcome ≡ Normal → AlikeEarly g a b (r a s) (r b t)
      onward a b s t sa sb alike early n q h = by (f.slips Normal q) refl
        where
          mid : Alike (r a s) (r b t)
          mid = between a b s t sa sb alike early

          before : (r a s).written q ≡ None → f.slips Normal q ≡ true → a.now q ≡ b.now q
          before none slips =
              let old = none-before (s.written q) ((r a s).written q) (c.grows a s sa q) none in
              sym (ap (λ x. changed x (a.now q)) old) ∙ early q (early-then f g q slips h) ∙ ap (λ x. changed x (b.now q)) (sym (alike.written q) ∙ old)

          by : (x : Bool) → f.slips Normal q ≡ x → (current a (r a s)).now q ≡ (current b (r b t)).now q
          by true slips = held-alike ((r a s).written q) ((r b t).written q) (a.now q) (b.now q) (mid.written q) (λ none. before none slips)
          by false slips =
              held-alike ((r a s).written q) ((r b t).written q) (a.now q) (b.now q) (mid.written q)
              (λ none. absurd (false≢true (sym (ap is_some none) ∙ c.sure a s sa q (ap (λ o. f.slips o q) n ∙ slips))))

      same : (a b : Around) (s t : State) → Starts vars k a s → Starts vars k b t → Alike s t → AlikeEarly (F.and_then f g) a b s t → (x y : Bool) → is_normal (r a s).outcome ≡ x → is_normal (r b t).outcome ≡ y
          → Alike (one_of x r' idle a (r a s)) (one_of y r' idle b (r b t))
      same a b s t sa sb alike early true true is is' =
          d.same a b (r a s) (r b t) (begins a s sa is) (begins b t sb is') (between a b s t sa sb alike early) (agree-nothing (current a (r a s)) (current b (r b t)))
          (onward a b s t sa sb alike early (normal-is (r a s).outcome is))
      same a b s t sa sb alike early true false is is' = absurd (true≢false (sym is ∙ ap is_normal (between a b s t sa sb alike early).outcome ∙ is'))
      same a b s t sa sb alike early false true is is' = absurd (false≢true (sym is ∙ ap is_normal (between a b s t sa sb alike early).outcome ∙ is'))
      same a b s t sa sb alike early false false is is' = between a b s t sa sb alike early
