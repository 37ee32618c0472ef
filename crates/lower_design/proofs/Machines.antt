-- The processes of the lowered design's machine do what the source's do, but for the trigger.
use Rattle.std.proofs.Common.{◌≡◌, ℕ, zero, suc, ◌+◌, ◌<◌, ◌≤◌, ◌^◌, Bool, true, false, not, ◌&&◌, ◌||◌, cond, List, [], ◌∷◌, map, filter, length, sum, Option, Some, None, refl, sym, ap, subst, ◌∙◌, inl, inr, arith}
use Rattle.std.specs.Prelude.{nat_lt}
use Rattle.std.specs.List.{slice_get, list_any}
use Rattle.std.proofs.lemmas.Bool.{or_cases, or_left, or_right, and_parts, false≢true, eqb-true, eq-eqb, le-leb, lt-ltb, ltb-true, ltb-false}
use Rattle.std.proofs.lemmas.List.Sums.{sum_by-cons}
use Rattle.b4_core.specs.Bitwise.{edge_of}
use Rattle.row_machine.specs.Valuation.{Member, Place, Valuation, Changes, has, is_place}
use Rattle.row_machine.specs.Places.{places_of, places_from, without}
use Rattle.row_machine.specs.Steps.{Progress, is_edge}
use Rattle.row_machine.specs.Steps as Steps
use Rattle.row_machine.proofs.Basics.{is_place-true}
use Rattle.sv_core.specs.declared.design.Signal.{Signal}
use Rattle.sv_core.specs.declared.design.EdgeOn.{EdgeOn}
use Rattle.sv_core.specs.declared.design.Stmt.{Stmt}
use Rattle.sv_core.specs.declared.design.Design.{Design}
use Rattle.sv_core.specs.Numbers.{each_once}
use Rattle.sv_core.specs.Statements as SD
use Rattle.sv_core.specs.Statements.{width_of, width_or_zero, doing}
use Rattle.sv_core.specs.Machine as Source
use Rattle.sv_core.specs.Machine.{places_of_signals, comb_process, edge_process}
use Rattle.v_meaning.specs.Scopes.{Use, all_bits}
use Rattle.v_meaning.specs.Runs.{State, begun}
use Rattle.v_meaning.specs.Statements.{covers, covered}
use Rattle.v_meaning.specs.Statements as TD
use Rattle.v_meaning.specs.Modules as T
use Rattle.v_meaning.specs.Machine as Target
use Rattle.v_meaning.specs.Machine.{size}
use Rattle.lower_design.specs.Translatable.{Translatable}
use Rattle.lower_design.specs.Lowered.{lowered_edge, is_driven}
use Rattle.lower_design.proofs.Names.{true_or_false, member-at}
use Rattle.lower_design.proofs.Places.{has-append, has-signal, has-place, has-without, has-without-only}
use Rattle.lower_design.proofs.Meanings.{Found, AllFound, use_named}
use Rattle.lower_design.proofs.Runs.{progress, Uses}
use Rattle.lower_design.proofs.Hangs.{stmt-tame}
use Rattle.lower_design.proofs.Sound.{in-signals, signals-in, at-number, once-member, member-once}
use Rattle.lower_design.proofs.Refinement.{ReadsMore, SameEdges}
use Rattle.lower_design.proofs.Items.{own, us, sc, get-below, below-get, found-below, image_of, image-there, range_keeps}

pub bool-same : (a b : Bool) → (a ≡ true → b ≡ true) → (b ≡ true → a ≡ true) → a ≡ b
bool-same true true f g = refl
bool-same true false f g = sym (f refl)
bool-same false true f g = g refl
bool-same false false f g = refl

-- what isn't in a list without some isn't among these
has-without-not : (avoided places : List Place) (q : Place) → has (without avoided places) q ≡ true → has avoided q ≡ false
unfolding has
has-without-not avoided [] q e = absurd (false≢true e)
has-without-not avoided (p ∷ ps) q e = pick (has-without-not avoided ps q) (has avoided p) refl e
  where
    pick : (has (without avoided ps) q ≡ true → has avoided q ≡ false) → (b : Bool) → has avoided p ≡ b → has (cond (not b) (p ∷ without avoided ps) (without avoided ps)) q ≡ true → has avoided q ≡ false
    pick more true h k = more k
    pick more false h k =
        elim (or_cases (is_place p q) (has (without avoided ps) q) k) [
          | inl l ↦ ap (has avoided) (sym (is_place-true p q l)) ∙ h
          | inr l ↦ more l
        ]

and-false : (b : Bool) → (b && false) ≡ false
and-false true = refl
and-false false = refl

-- what is in a list and passes the test is in what the test keeps
pub has-filter : (f : Place → Bool) (ps : List Place) (q : Place) → has (filter f ps) q ≡ (has ps q && f q)
unfolding has
has-filter f [] q = refl
has-filter f (p ∷ ps) q = pick (is_place p q) refl (f p) refl (has-filter f ps q)
  where
    pick : (b : Bool) → is_place p q ≡ b → (c : Bool) → f p ≡ c → has (filter f ps) q ≡ (has ps q && f q)
        → has (cond c (p ∷ filter f ps) (filter f ps)) q ≡ ((b || has ps q) && f q)
    pick true e true g more = ap (λ b. b || has (filter f ps) q) e ∙ sym g ∙ ap f (is_place-true p q e)
    pick true e false g more =
        let none : f q ≡ false = sym (ap f (is_place-true p q e)) ∙ g in
        more ∙ ap (λ b. has ps q && b) none ∙ and-false (has ps q) ∙ sym none
    pick false e true g more = ap (λ b. b || has (filter f ps) q) e ∙ more
    pick false e false g more = more

pub has-bit : (n k w : ℕ) (q : Place) → has (places_from n k w) q ≡ true → q.bit < k + w
unfolding has
has-bit n k zero q e = absurd (false≢true e)
has-bit n k (suc w) q e =
    elim (or_cases (is_place (record { signal = n; bit = k }) q) (has (places_from n (suc k) w) q) e) [
      | inl h ↦ (let same : k ≡ q.bit = eqb-true k q.bit (and_parts _ _ h).1 in omega (arith, same))
      | inr h ↦ (let below : q.bit < suc k + w = has-bit n (suc k) w q h in omega (arith, below))
    ]

-- whether a place is a bit of a signal
abbrev pub is_own : List Signal → Place → Bool
is_own ss q = nat_lt q.bit (width_of ss q.signal)

pub signal-below : (ss : List Signal) (q : Place) → is_own ss q ≡ true → q.signal < length ss
signal-below ss q own = by_signal (slice_get ss q.signal) refl
  where
    by_signal : (o : Option Signal) → slice_get ss q.signal ≡ o → q.signal < length ss
    by_signal (Some s) e = below-get ss q.signal s e
    by_signal None e = (let low = ltb-true q.bit 0 (ap (λ o. nat_lt q.bit (width_or_zero o)) (sym e) ∙ own) in absurd (omega (arith, low)))

pub place-own : (ss : List Signal) (n : ℕ) (q : Place) → has (places_of n (width_of ss n)) q ≡ true → is_own ss q ≡ true
place-own ss n q h = lt-ltb q.bit (width_of ss q.signal) (inside (ap (width_of ss) (has-signal n 0 (width_of ss n) q h)) (has-bit n 0 (width_of ss n) q h))
  where
    inside : width_of ss q.signal ≡ width_of ss n → q.bit < 0 + width_of ss n → q.bit < width_of ss q.signal
    inside same low = omega (arith, same, low)

pub places-own : (ss : List Signal) (ns : List ℕ) (q : Place) → has (places_of_signals ss ns) q ≡ true → is_own ss q ≡ true
places-own ss ns q h = let r = in-signals ss ns q h in place-own ss r.0 q r.2

-- a use of a whole signal covers its places
covers-whole : (n w : ℕ) (q : Place) → covers (record { number = n; low = 0; high = w }) q ≡ has (places_of n w) q
covers-whole n w q = bool-same _ _
    (λ h. let p = and_parts _ _ h in let r = and_parts _ _ p.1 in
    has-place n 0 w q (sym (eqb-true n q.signal p.0)) (omega arith) (inside (ltb-true q.bit w r.1)))
    (λ h. let below = has-bit n 0 w q h in
    (λ i. eq-eqb n q.signal (sym (has-signal n 0 w q h)) i && (le-leb 0 q.bit (omega arith) i && lt-ltb q.bit w (outside below) i)))
  where
    inside : q.bit < w → q.bit < 0 + w
    inside h = omega (arith, h)

    outside : q.bit < 0 + w → q.bit < w
    outside h = omega (arith, h)

-- each signal that has a bit adds to their sum
few-by : (ss : List Signal) → ((s : Signal) → Member ss s → 1 ≤ s.width) → length ss ≤ sum (map (λ (s : Signal). s.width) ss)
few-by [] wide = omega arith
few-by (s ∷ ss) wide =
    let more = few-by ss (λ x m. wide x (inr m)) in
    let total = sum_by-cons (λ (x : ℕ). x) s.width (map (λ (x : Signal). x.width) ss) in
    let own = wide s (inl refl) in
    omega (arith, more, total, own)

-- the places of signals
pub has-places : (k : ℕ) (all : List T.Signal) (n : ℕ) (u : T.Signal) (q : Place) → slice_get all n ≡ Some u → has (places_of (k + n) (size u)) q ≡ true → has (Target.places_from k all) q ≡ true
has-places k [] n u q e h = cc
has-places k (t ∷ rest) zero u q e h =
    let same : t ≡ u = cc in
    let index : k + 0 ≡ k = omega arith in
    has-append (places_of k (size t)) (Target.places_from (suc k) rest) q ∙ or_left _ _ (ap (λ (x : T.Signal). has (places_of k (size x)) q) same ∙ ap (λ j. has (places_of j (size u)) q) (sym index) ∙ h)
has-places k (t ∷ rest) (suc n) u q e h =
    let index : k + suc n ≡ suc k + n = omega arith in
    has-append (places_of k (size t)) (Target.places_from (suc k) rest) q
    ∙ or_right (has (places_of k (size t)) q) _ (has-places (suc k) rest n u q e (subst (λ j. has (places_of j (size u)) q ≡ true) index h))

module _ (d : Design) (t : Translatable d) where
  abbrev ss : List Signal
  ss = d.signals

  abbrev pub parts : T.Parts
  parts = own d.signals d.processes

  abbrev pub count : ℕ
  count = length (us d t)

  -- all that a process uses are signals
  abbrev pub AllBelow : List ℕ → Type 0
  AllBelow ns = (n : ℕ) → Member ns n → n < length ss

  pub record UsesSignals (x : SD.Doing) : Type 0 where
    pub reads : AllBelow x.reads
    pub targets : AllBelow x.targets
    pub later_targets : AllBelow x.later_targets

  all-found : (ns : List ℕ) → AllBelow ns → AllFound ss (sc d t) ns
  all-found ns low n m = found-below d t n (low n m)

  pub uses : (x : SD.Doing) → UsesSignals x → Uses ss (sc d t) x
  uses x u = record { reads = all-found x.reads u.reads; targets = all-found x.targets u.targets; later_targets = all-found x.later_targets u.later_targets }

  pub few : length ss ≤ 2 ^ 22
  few = let a = few-by ss t.some_bits in let b = t.all_bits in omega (arith, a, b)

  -- what the uses of names cover are the places of their signals
  pub covered-named : (ns : List ℕ) (q : Place) → AllBelow ns → covered (map (use_named ss (sc d t)) ns) q ≡ has (places_of_signals ss ns) q
  unfolding has
  covered-named [] q low = refl
  covered-named (n ∷ ns) q low =
      (λ i. (ap (λ x. covers (record { number = x.number; low = 0; high = all_bits x }) q) (found-below d t n (low n (inl refl))) ∙ covers-whole n (width_of ss n) q) i
      || covered-named ns q (λ k m. low k (inr m)) i)
      ∙ sym (has-append (places_of n (width_of ss n)) (places_of_signals ss ns) q)

  once-same : (ns : List ℕ) (q : Place) → has (places_of_signals ss ns) q ≡ has (places_of_signals ss (each_once ns)) q
  once-same ns q = bool-same _ _
      (λ h. let r = in-signals ss ns q h in signals-in ss (each_once ns) r.0 q (member-once ns r.0 r.1) r.2)
      (λ h. let r = in-signals ss (each_once ns) q h in signals-in ss ns r.0 q (once-member ns r.0 r.1) r.2)

  -- the places of the source's signals are places of the target
  pub there : (n : ℕ) (q : Place) → n < length ss → has (places_of n (width_of ss n)) q ≡ true → has (Target.places count parts) q ≡ true
  there n q low h =
      let r = get-below ss n low in
      let index : n ≡ 0 + n = omega arith in
      let wide : width_of ss n ≡ (image_of (is_driven d.processes n) r.0).width = ap width_or_zero r.1 ∙ sym (range_keeps r.0.width (t.some_bits r.0 (member-at ss n r.0 r.1))) in
      has-places 0 (us d t) n (image_of (is_driven d.processes n) r.0) q (image-there d t n r.0 r.1) (sym (λ i. has (places_of (index i) (wide i)) q) ∙ h)

  pub all-there : (ns : List ℕ) (q : Place) → AllBelow ns → has (places_of_signals ss ns) q ≡ true → has (Target.places count parts) q ≡ true
  all-there ns q low h = let r = in-signals ss ns q h in there r.0 q (low r.0 r.1) r.2

  -- a process writes the places of its targets
  pub writes-same : (ns : List ℕ) (uses : List Use) → AllBelow ns → uses ≡ map (use_named ss (sc d t)) ns → (q : Place)
      → has (filter (covered uses) (Target.places count parts)) q ≡ has (places_of_signals ss (each_once ns)) q
  writes-same ns uses low e q =
      has-filter (covered uses) (Target.places count parts) q
      ∙ ap (λ xs. has (Target.places count parts) q && covered xs q) e
      ∙ ap (λ b. has (Target.places count parts) q && b) (covered-named ns q low)
      ∙ within (has (Target.places count parts) q) (has (places_of_signals ss ns) q) (all-there ns q low)
      ∙ once-same ns q
    where
      within : (a b : Bool) → (b ≡ true → a ≡ true) → (a && b) ≡ b
      within true b f = refl
      within false true f = f refl
      within false false f = refl

  -- a run writes and updates signals alone
  signal-small : (ns : List ℕ) → AllBelow ns → (q : Place) → nat_lt q.signal (2 ^ 32) ≡ false → (n : ℕ) → Member ns n → has (places_of n (width_of ss n)) q ≡ false
  signal-small ns low q h n m =
      elim (true_or_false (has (places_of n (width_of ss n)) q)) [
        | inr f ↦ f
        | inl e ↦ absurd (high (has-signal n 0 (width_of ss n) q e) (low n m) (ltb-false q.signal (2 ^ 32) h))
      ]
    where
      high : q.signal ≡ n → n < length ss → 2 ^ 32 ≤ q.signal → ⊥
      high a b c = let f = few in omega (arith, a, b, c, f)

  to-signals : (c e : Changes) (q : Place) → (nat_lt q.signal (2 ^ 32) ≡ false → e q ≡ None) → c q ≡ e q → Target.to_signals c q ≡ e q
  to-signals c e q none same = pick (nat_lt q.signal (2 ^ 32)) refl
    where
      pick : (b : Bool) → nat_lt q.signal (2 ^ 32) ≡ b → cond b (c q) None ≡ e q
      pick true h = same
      pick false h = sym (none h)

  -- the run of a body, in the source and in the target
  abbrev Runs : SD.Doing → TD.Doing → Type 0
  Runs x e = (v : Valuation) (s : State) → progress v (e.run (sc d t) v s) ≡ x.run ss (progress v s)

  module _ (body : Stmt) (u : UsesSignals (doing body)) (p : T.Process) (in_scope : p.scope ≡ sc d t) (runs : Runs (doing body) p.does) where
    ran : (v : Valuation) → progress v (Target.ran count parts p v) ≡ (doing body).run ss (Steps.begun v)
    ran v = ap (λ s. progress v (p.does.run s v begun)) in_scope ∙ runs v begun

    pub assigns-same : (v : Valuation) (q : Place) → Target.to_signals (Target.ran count parts p v).written q ≡ (comb_process ss body).assigns v q
    assigns-same v q =
        to-signals (Target.ran count parts p v).written ((doing body).run ss (Steps.begun v)).written q
        (λ h. (stmt-tame ss body).written (Steps.begun v) q (signal-small (doing body).targets u.targets q h))
        (ap (λ (x : Progress). x.written q) (ran v))

    pub updates-same : (v : Valuation) (q : Place) → Target.to_signals (Target.ran count parts p v).pending q ≡ ((doing body).run ss (Steps.begun v)).pending q
    updates-same v q =
        to-signals (Target.ran count parts p v).pending ((doing body).run ss (Steps.begun v)).pending q
        (λ h. (stmt-tame ss body).pending (Steps.begun v) q (signal-small (doing body).later_targets u.later_targets q h))
        (ap (λ (x : Progress). x.pending q) (ran v))

    -- a combinational process that reads the source's signals, and perhaps others
    module _ (writes : p.does.writes p.scope ≡ map (use_named ss (sc d t)) (doing body).targets)
        (reads : (q : Place) → q.signal < length ss → covered (p.does.reads p.scope) q ≡ has (places_of_signals ss (doing body).reads) q) where
      writes-are : (q : Place) → has (Target.writes_of count parts p) q ≡ has (comb_process ss body).writes q
      writes-are = writes-same (doing body).targets (p.does.writes p.scope) u.targets writes

      covered-writes : (q : Place) → covered (p.does.writes p.scope) q ≡ has (comb_process ss body).writes q
      covered-writes q = ap (λ xs. covered xs q) writes ∙ covered-named (doing body).targets q u.targets ∙ once-same (doing body).targets q

      abbrev seen : List Place
      seen = places_of_signals ss (doing body).reads

      abbrev source_own : List Place
      source_own = (comb_process ss body).writes

      below : (q : Place) → has seen q ≡ true → q.signal < length ss
      below q h = u.reads q.signal (at-number ss (doing body).reads q h)

      pub comb-reads : ReadsMore (is_own ss) (comb_process ss body) (Target.comb count parts true [] p)
      comb-reads = record {
        from_zero = refl;
        source_waits = refl;
        target_waits = refl;
        writes = writes-are;
        assigns = assigns-same;
        reads = λ q h.
            let l = has-without-only source_own seen q h in
            has-filter _ (Target.places count parts) q
            ∙ (λ i. all-there (doing body).reads q u.reads l i
            && ((reads q (below q l) ∙ l) i && not ((covered-writes q ∙ has-without-not source_own seen q h) i)));
        no_more = λ q low h.
            let a = and_parts _ _ (and_parts _ _ (sym (has-filter _ (Target.places count parts) q) ∙ h)).1 in
            has-without source_own seen q (sym (reads q (signal-below ss q low)) ∙ a.0) (sym (covered-writes q) ∙ not-false _ a.1);
      }
        where
          not-false : (b : Bool) → not b ≡ true → b ≡ false
          not-false true e = absurd (false≢true e)
          not-false false e = refl

  -- edges are the same
  edge-found : (v w : Valuation) (e : EdgeOn) → Found ss (sc d t) e.signal → Target.has_edge v w (T.edge_on (sc d t) (lowered_edge ss e)) ≡ Source.has_edge v w e
  edge-found v w e f = ap (λ x. is_edge e.rising (edge_of (v (record { signal = x.number; bit = 0 })) (w (record { signal = x.number; bit = 0 })))) f

  edges-found : (v w : Valuation) (es : List EdgeOn) → ((e : EdgeOn) → Member es e → Found ss (sc d t) e.signal)
      → list_any (Target.has_edge v w) (map (T.edge_on (sc d t)) (map (lowered_edge ss) es)) ≡ list_any (Source.has_edge v w) es
  edges-found v w [] f = refl
  edges-found v w (e ∷ es) f = λ i. edge-found v w e (f e (inl refl)) i || edges-found v w es (λ x m. f x (inr m)) i

  pub edge-same : (es : List EdgeOn) (body : Stmt) (u : UsesSignals (doing body)) (p : T.Process) → p.scope ≡ sc d t → Runs (doing body) p.does
      → p.does.later p.scope ≡ map (use_named ss (sc d t)) (doing body).later_targets → ((e : EdgeOn) → Member es e → Found ss (sc d t) e.signal)
      → SameEdges (is_own ss) (edge_process ss es body) (Target.edge count parts (map (T.edge_on (sc d t)) (map (lowered_edge ss) es)) p)
  edge-same es body u p in_scope runs later found = record {
    writes = writes-same (doing body).later_targets (p.does.later p.scope) u.later_targets later;
    runs = λ v w. edges-found v w es found;
    updates = updates-same body u p in_scope runs;
  }
