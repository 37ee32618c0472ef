-- The machine of the lowered design extends the source's.
use Rattle.std.proofs.Common.{◌≡◌, ℕ, zero, suc, ◌+◌, ◌*◌, ◌==◌, ◌<◌, ◌≤◌, Bool, true, false, not, ◌&&◌, ◌||◌, cond, List, [], ◌∷◌, ◌++◌, map, flat_map, length, replicate, slice_index_or, Option, Some, None, refl, sym, ap, subst, ◌∙◌, inl, inr, arith}
use Rattle.std.specs.Prelude.{nat_lt}
use Rattle.std.specs.List.{slice_get, list_any, AllZip}
use Rattle.std.proofs.lemmas.Bool.{or_cases, or_left, or_right, and_parts, false≢true, eqb-true, eq-eqb, lt-ltb, ltb-true}
use Rattle.b4_core.specs.declared.bit.Bit4.TheVariants.{Zero, X, Z}
use Rattle.b4_core.specs.Bits.{same4}
use Rattle.b4_core.specs.Bitwise.{edge_of}
use Rattle.row_machine.specs.Valuation.{Member, Place, Valuation, has}
use Rattle.row_machine.specs.Machine as M
use Rattle.row_machine.specs.Places.{places_of}
use Rattle.row_machine.specs.Steps.{begun, is_edge}
use Rattle.row_machine.specs.Translation.{Translates}
use Rattle.row_machine.proofs.Basics.{member-any, any-member, has-member}
use Rattle.row_machine.proofs.Members.{member-map}
use Rattle.sv_core.specs.declared.design.SignalKind.{SignalKind}
use Rattle.sv_core.specs.declared.design.SignalKind.TheVariants.{InputNet, OutputVar, Variable}
use Rattle.sv_core.specs.declared.design.Signal.{Signal}
use Rattle.sv_core.specs.declared.design.Expr.{Expr}
use Rattle.sv_core.specs.declared.design.EdgeOn.{EdgeOn}
use Rattle.sv_core.specs.declared.design.ProcessKind.{ProcessKind}
use Rattle.sv_core.specs.declared.design.ProcessKind.TheVariants.{Continuous, Comb, Edges}
use Rattle.sv_core.specs.declared.design.Process.{Process}
use Rattle.sv_core.specs.declared.design.Stmt.{Stmt, Stmt-F, out-Stmt}
use Rattle.sv_core.specs.declared.design.Stmt.TheVariants as S
use Rattle.sv_core.specs.declared.design.Design.{Design}
use Rattle.sv_core.specs.Numbers.{each_once}
use Rattle.sv_core.specs.Statements as SD
use Rattle.sv_core.specs.Statements.{width_of, width_or_zero, doing, stmt_doing, expr_signals}
use Rattle.sv_core.specs.Machine as Source
use Rattle.sv_core.specs.Machine.{comb_process, edge_process}
use Rattle.v_tree.specs.declared.items.VProcess.TheVariants.{Assign as Drive}
use Rattle.v_meaning.specs.Scopes.{Named, Scope, Use, all_bits, named}
use Rattle.v_meaning.specs.Values.{meaning}
use Rattle.v_meaning.specs.Statements.{covered, covers, assignment, doing_of}
use Rattle.v_meaning.specs.Statements as TD
use Rattle.v_meaning.specs.Modules as T
use Rattle.v_meaning.specs.Modules.{always_on, on_change, on_edges}
use Rattle.v_meaning.specs.Machine as Target
use Rattle.v_meaning.specs.Machine.{size}
use Rattle.lower_design.specs.Translatable.{Translatable, KindFits, targets_by, targets_of}
use Rattle.lower_design.specs.Shape.{name_of, trigger, whole_of}
use Rattle.lower_design.specs.Lowered.{triggered, lowered_expr, lowered_stmt, process_by, driver_in, whole_target, is_driven, drives, drives_in, drives_by, is_triggered, lowered}
use Rattle.lower_design.proofs.Names.{true_or_false, member-at}
use Rattle.lower_design.proofs.Places.{has-append, has-signal, has-place, has-without-only}
use Rattle.lower_design.proofs.Levels.{assign-level, assign-out}
use Rattle.lower_design.proofs.Meanings.{use_named}
use Rattle.lower_design.proofs.Runs.{Same, Triggered, same-assignment, body-same, triggered-same}
use Rattle.lower_design.proofs.Hangs.{stmt-tame}
use Rattle.lower_design.proofs.Sound.{comb-member, edge-member, sound}
use Rattle.lower_design.proofs.Refinement.{ReadsMore, SameEdges, CombBelow, EdgeBelow, SameBelow, Extends, under_own, translates}
use Rattle.lower_design.proofs.Items.{kind_of, image_of, images, helpers, trigger_signal, values, target, has_comb, us, sc, top-items, top-parts, all-signals, range_keeps, get-below, below-get, found-at, image-there, trigger-there, trigger-found}
use Rattle.lower_design.proofs.Machines.{bool-same, has-filter, has-places, parts, count, AllBelow, UsesSignals, uses, covered-named, there, comb-reads, edge-same, is_own, signal-below, place-own, places-own}

-- an input's place is of a signal that is one, and the other way round
pub record InputAt (k : ℕ) (ss : List Signal) (q : Place) : Type 0 where
  pub number : ℕ
  pub signal : Signal
  pub is_there : slice_get ss number ≡ Some signal
  pub is_input : signal.kind ≡ InputNet
  pub is_at : has (places_of (k + number) signal.width) q ≡ true

input-at : (k : ℕ) (ss : List Signal) (q : Place) → has (Source.inputs_from k ss) q ≡ true → InputAt k ss q
unfolding has
input-at k [] q e = absurd (false≢true e)
input-at k (s ∷ ss) q e =
    elim (or_cases _ _ (sym (has-append (Source.input_places k s) (Source.inputs_from (suc k) ss) q) ∙ e)) [
      | inl h ↦ here s.path s.width s.kind h
      | inr h ↦ behind (input-at (suc k) ss q h)
    ]
  where
    here : (path : List ℕ) (width : ℕ) (kind : SignalKind) →
        (let s : Signal = record { path = path; width = width; kind = kind } in has (Source.input_places k s) q ≡ true → InputAt k (s ∷ ss) q)
    here path width InputNet h =
        let index : k ≡ k + 0 = omega arith in
        record { number = 0; signal = record { path = path; width = width; kind = InputNet }; is_there = refl; is_input = refl; is_at = subst (λ j. has (places_of j width) q ≡ true) index h }
    here path width OutputVar h = absurd (false≢true h)
    here path width Variable h = absurd (false≢true h)

    behind : InputAt (suc k) ss q → InputAt k (s ∷ ss) q
    behind o =
        let index : suc k + o.number ≡ k + suc o.number = omega arith in
        record { number = suc o.number; signal = o.signal; is_there = o.is_there; is_input = o.is_input; is_at = subst (λ j. has (places_of j o.signal.width) q ≡ true) index o.is_at }

at-input : (k : ℕ) (ss : List Signal) (n : ℕ) (s : Signal) (q : Place) → slice_get ss n ≡ Some s → s.kind ≡ InputNet → has (places_of (k + n) s.width) q ≡ true → has (Source.inputs_from k ss) q ≡ true
unfolding has
at-input k [] n s q e i h = cc
at-input k (r ∷ ss) zero s q e i h =
    let same : r ≡ s = cc in
    let index : k + 0 ≡ k = omega arith in
    has-append (Source.input_places k r) (Source.inputs_from (suc k) ss) q
    ∙ or_left _ _ (ap (λ (x : Signal). has (Source.input_places k x) q) same ∙ here s.path s.width s.kind i (subst (λ j. has (places_of j s.width) q ≡ true) index h))
  where
    here : (path : List ℕ) (width : ℕ) (kind : SignalKind) → kind ≡ InputNet → has (places_of k width) q ≡ true →
        (let x : Signal = record { path = path; width = width; kind = kind } in has (Source.input_places k x) q ≡ true)
    here path width InputNet e h = h
    here path width OutputVar e h = cc
    here path width Variable e h = cc
at-input k (r ∷ ss) (suc n) s q e i h =
    let index : k + suc n ≡ suc k + n = omega arith in
    has-append (Source.input_places k r) (Source.inputs_from (suc k) ss) q
    ∙ or_right (has (Source.input_places k r) q) _ (at-input (suc k) ss n s q e i (subst (λ j. has (places_of j s.width) q ≡ true) index h))

-- the continuous assignment that drives a signal
pub record Driver (ps : List Process) (n : ℕ) : Type 0 where
  pub process : Process
  pub member : Member ps process
  pub kind : process.kind ≡ Continuous
  pub value : Expr
  pub body : process.body ≡ S.Assign n value false

-- the target of a continuous assignment
pub target-driver : (sc : Scope) (ss : List Signal) (p : Process) (to : ℕ) (value : Expr) → p.kind ≡ Continuous → p.body ≡ S.Assign to value false
    → target sc ss p ≡ T.process_of sc (Drive (whole_target (name_of ss to)) (lowered_expr ss value))
target-driver sc ss p to value k b = (λ i. T.process_of sc (process_by ss (k i) (b i))) ∙ ap (λ x. T.process_of sc (driver_in ss x)) (assign-out to value false)

-- what a signal is declared as
image-input : (kind : SignalKind) (driven : Bool) → Target.is_input (kind_of kind driven) ≡ true → kind ≡ InputNet
image-input InputNet driven e = refl
image-input OutputVar true e = absurd (false≢true e)
image-input OutputVar false e = absurd (false≢true e)
image-input Variable true e = absurd (false≢true e)
image-input Variable false e = absurd (false≢true e)

-- x in each place
x-everywhere : (w k : ℕ) → slice_index_or (replicate w X) k X ≡ X
x-everywhere zero k = refl
x-everywhere (suc w) zero = refl
x-everywhere (suc w) (suc k) = x-everywhere w k

module _ (d : Design) (t : Translatable d) where
  abbrev ss : List Signal
  ss = d.signals

  abbrev ps : List Process
  ps = d.processes

  abbrev pub e : M.Machine
  e = Target.machine_of (count d t) (parts d t)

  none-below : (ns : List ℕ) → ns ≡ [] → AllBelow d t ns
  none-below ns e n k = elim (subst (λ ks. Member ks n) e k) [ ]

  pub uses-signals : (p : Process) → Member ps p → UsesSignals d t (doing p.body)
  uses-signals p m = by_kind p.kind (t.kinds p m) (λ n k. let v = t.targets p m n k in below-get ss n v.signal v.is_there)
    where
      by_kind : (kind : ProcessKind) → KindFits ss kind p.body → AllBelow d t (targets_by kind p.body) → UsesSignals d t (doing p.body)
      by_kind Continuous fits below = record {
        reads = t.reads p m;
        targets = below;
        later_targets = none-below _ (ap (λ s. (doing s).later_targets) fits.2 ∙ ap (λ (x : SD.Doing). x.later_targets) (assign-level SD.Doing stmt_doing fits.0 fits.1 false));
      }
      by_kind Comb fits below = record { reads = t.reads p m; targets = below; later_targets = none-below _ fits }
      by_kind (Edges es) fits below = record { reads = t.reads p m; targets = none-below _ fits.0; later_targets = below }

  -- the image of a signal at a place
  pub record At (q : Place) : Type 0 where
    pub signal : Signal
    pub is_there : slice_get ss q.signal ≡ Some signal

  at : (q : Place) → q.signal < length ss → At q
  at q low = let r = get-below ss q.signal low in record { signal = r.0; is_there = r.1 }

  image-at-place : (q : Place) (a : At q) → slice_get (us d t) q.signal ≡ Some (image_of (is_driven ps q.signal) a.signal)
  image-at-place q a = image-there d t q.signal a.signal a.is_there

  by_image : {A : Type 0} (q : Place) (a : At q) (otherwise : A) (f : T.Signal → A) → Target.of_signal (us d t) otherwise f q.signal ≡ f (image_of (is_driven ps q.signal) a.signal)
  by_image q a otherwise f = ap (λ o. elim o [ None ↦ otherwise | Some s ↦ f s ]) (image-at-place q a)

  wide : (q : Place) (a : At q) → (image_of (is_driven ps q.signal) a.signal).width ≡ a.signal.width
  wide q a = range_keeps a.signal.width (t.some_bits a.signal (member-at ss q.signal a.signal a.is_there))

  -- before the first row a source's signal holds x
  initial-below : (q : Place) → q.signal < length ss → Target.initial (count d t) (parts d t) q ≡ X
  initial-below q low = let a = at q low in by_image q a X (λ s. slice_index_or s.initial q.bit X) ∙ x-everywhere _ q.bit

  -- and also once the `initial` is made
  no-initial : (b : Bool) → has_comb ps ≡ b → (q : Place) → q.signal < length ss → Target.last_initial (values (sc d t) b) q.signal ≡ None
  no-initial false h q low = refl
  no-initial true h q low = ap (λ c. cond c (Some (Zero ∷ [])) None) (differs (named (sc d t).names trigger).number (ap (λ (x : Named). x.number) (trigger-found d t h)))
    where
      differs : (k : ℕ) → k ≡ length ss → (k == q.signal) ≡ false
      differs k same = elim (true_or_false (k == q.signal)) [
        | inr f ↦ f
        | inl g ↦ (let both : k ≡ q.signal = eqb-true k q.signal g in absurd (omega (arith, same, both, low)))
      ]

  given-below : (q : Place) → q.signal < length ss → Target.given (count d t) (parts d t) q ≡ X
  given-below q low =
      ap (λ o. elim o [ None ↦ Target.initial (count d t) (parts d t) q | Some v ↦ slice_index_or v q.bit X ]) (no-initial (has_comb ps) refl q low)
      ∙ initial-below q low

  pub driver-of : (n : ℕ) → is_driven ps n ≡ true → Driver ps n
  driver-of n e = let r = any-member (λ p. drives p n) ps e in by_kind r.0 r.1 r.0.kind refl (t.kinds r.0 r.1) r.2
    where
      by_kind : (p : Process) → Member ps p → (kind : ProcessKind) → p.kind ≡ kind → KindFits ss kind p.body → drives_by kind p.body n ≡ true → Driver ps n
      by_kind p m Continuous k fits h =
          let same : fits.0 ≡ n = eqb-true fits.0 n (ap (drives_in n) (sym (ap out-Stmt fits.2 ∙ assign-out fits.0 fits.1 false)) ∙ h) in
          record { process = p; member = m; kind = k; value = fits.1; body = fits.2 ∙ ap (λ j. S.Assign j fits.1 false) same }
      by_kind p m Comb k fits h = absurd (false≢true h)
      by_kind p m (Edges es) k fits h = absurd (false≢true h)

  -- what a continuous assignment does, in the target
  driver-same : (to : ℕ) (value : Expr) → Same ss (sc d t) (SD.assignment to value false) (assignment false (TD.target (whole_target (name_of ss to))) (meaning (lowered_expr ss value)))
  driver-same to value = same-assignment ss (sc d t) to value false

  -- so the bits of what it drives are written
  driven-written : (q : Place) (a : At q) → is_driven ps q.signal ≡ true → q.bit < a.signal.width → Target.is_written (count d t) (parts d t) q ≡ true
  driven-written q a e h =
      let r = driver-of q.signal e in
      let low : q.signal < length ss = below-get ss q.signal a.signal a.is_there in
      let one : AllBelow d t (q.signal ∷ []) = λ n m. elim m [ inl s ↦ subst (λ k. k < length ss) (sym s) low | inr z ↦ elim z [ ] ] in
      let place : has (places_of q.signal (width_of ss q.signal)) q ≡ true =
      has-place q.signal 0 (width_of ss q.signal) q refl (omega arith) (inside (ap width_or_zero a.is_there) h) in
      let listed : has (Source.places_of_signals ss (q.signal ∷ [])) q ≡ true = has-append (places_of q.signal (width_of ss q.signal)) [] q ∙ or_left _ _ place in
      let own-writes : covered ((assignment false (TD.target (whole_target (name_of ss q.signal))) (meaning (lowered_expr ss r.value))).writes (sc d t)) q ≡ true =
      ap (λ xs. covered xs q) (driver-same q.signal r.value).writes ∙ covered-named d t (q.signal ∷ []) q one ∙ listed in
      member-any (λ (p : T.Process). covered (p.does.writes p.scope) q || covered (p.does.later p.scope) q) (map (target (sc d t) ss) ps) (target (sc d t) ss r.process) (member-map (target (sc d t) ss) ps r.process r.member)
      (ap (λ (p : T.Process). covered (p.does.writes p.scope) q || covered (p.does.later p.scope) q) (target-driver (sc d t) ss r.process q.signal r.value r.kind r.body)
      ∙ or_left _ _ own-writes)
    where
      inside : {w : ℕ} → w ≡ a.signal.width → q.bit < a.signal.width → q.bit < 0 + w
      inside same h = omega (arith, same, h)

  -- an input's bits are the source's
  own-below : (q : Place) → q.signal < length ss → nat_lt q.signal (count d t) ≡ true
  own-below q low = lt-ltb q.signal (count d t) (let r = behind (is_driven ps) 0 ss (helpers (has_comb ps)) in omega (arith, r, low))
    where
      behind : (driven : ℕ → Bool) (k : ℕ) (xs : List Signal) (more : List T.Signal) → length xs ≤ length (images driven k xs ++ more)
      behind driven k [] more = omega arith
      behind driven k (x ∷ xs) more = let r = behind driven (suc k) xs more in omega (arith, r)

  -- a place of the target is of a signal
  pub record Of (all : List T.Signal) (k : ℕ) (q : Place) : Type 0 where
    pub number : ℕ
    pub signal : T.Signal
    pub is_there : slice_get all number ≡ Some signal
    pub is_at : has (places_of (k + number) (size signal)) q ≡ true

  of-places : (all : List T.Signal) (k : ℕ) (q : Place) → has (Target.places_from k all) q ≡ true → Of all k q
  unfolding has
  of-places [] k q h = absurd (false≢true h)
  of-places (s ∷ rest) k q h =
      elim (or_cases _ _ (sym (has-append (places_of k (size s)) (Target.places_from (suc k) rest) q) ∙ h)) [
        | inl l ↦ (let index : k ≡ k + 0 = omega arith in record { number = 0; signal = s; is_there = refl; is_at = subst (λ j. has (places_of j (size s)) q ≡ true) index l })
        | inr l ↦ (let o = of-places rest (suc k) q l in let index : suc k + o.number ≡ k + suc o.number = omega arith in
            record { number = suc o.number; signal = o.signal; is_there = o.is_there; is_at = subst (λ j. has (places_of j (size o.signal)) q ≡ true) index o.is_at })
      ]

  -- the trigger is no input
  helper-input : (b : Bool) (k : ℕ) (u : T.Signal) → slice_get (helpers b) k ≡ Some u → Target.is_input u.kind ≡ false
  helper-input true zero u h = (let same : trigger_signal ≡ u = cc in ap (λ (x : T.Signal). Target.is_input x.kind) (sym same))
  helper-input true (suc k) u h = cc
  helper-input false k u h = cc

  image-or-helper : (driven : ℕ → Bool) (k : ℕ) (xs : List Signal) (b : Bool) (n : ℕ) (u : T.Signal) → slice_get (images driven k xs ++ helpers b) n ≡ Some u → Target.is_input u.kind ≡ true
      → (s : Signal) × (slice_get xs n ≡ Some s) × (s.kind ≡ InputNet) × (u.width ≡ (image_of (driven (k + n)) s).width) × (u.words ≡ None)
  image-or-helper driven k [] b n u h i = absurd (false≢true (sym (helper-input b n u h) ∙ i))
  image-or-helper driven k (s ∷ xs) b zero u h i =
      let same : image_of (driven k) s ≡ u = cc in
      (s, refl, image-input s.kind (driven k) (ap (λ (x : T.Signal). Target.is_input x.kind) same ∙ i), ap (λ (x : T.Signal). x.width) (sym same), ap (λ (x : T.Signal). x.words) (sym same))
  image-or-helper driven k (s ∷ xs) b (suc n) u h i = let r = image-or-helper driven (suc k) xs b n u h i in (r.0, r.1, r.2, r.3, r.4)

  inputs-same : (q : Place) → has (Target.machine_of (count d t) (parts d t)).inputs q ≡ has (Source.inputs_from 0 ss) q
  inputs-same q =
      has-filter (Target.is_top_input (count d t) (parts d t)) (Target.places (count d t) (parts d t)) q
      ∙ bool-same _ _ forth back
    where
      forth : (has (Target.places (count d t) (parts d t)) q && Target.is_top_input (count d t) (parts d t) q) ≡ true → has (Source.inputs_from 0 ss) q ≡ true
      forth h =
          let a = and_parts (has (Target.places (count d t) (parts d t)) q) (Target.is_top_input (count d t) (parts d t) q) h in
          let o = of-places (us d t) 0 q a.0 in
          let same : q.signal ≡ 0 + o.number = has-signal (0 + o.number) 0 (size o.signal) q o.is_at in
          let number : q.signal ≡ o.number = omega (arith, same) in
          let i : Target.is_input o.signal.kind ≡ true =
          sym (ap (λ x. elim x [ None ↦ false | Some s ↦ Target.is_input s.kind ]) (ap (slice_get (us d t)) number ∙ o.is_there)) ∙ (and_parts (nat_lt q.signal (count d t)) (Target.of_signal (us d t) false (λ s. Target.is_input s.kind) q.signal) a.1).1 in
          let r = image-or-helper (is_driven ps) 0 ss (has_comb ps) o.number o.signal o.is_there i in
          let bits : size o.signal ≡ r.0.width =
          ap (λ (w : Option ℕ). elim w [ None ↦ o.signal.width | Some c ↦ c * o.signal.width ]) r.4 ∙ r.3 ∙ range_keeps r.0.width (t.some_bits r.0 (member-at ss o.number r.0 r.1)) in
          at-input 0 ss o.number r.0 q r.1 r.2 (ap (λ w. has (places_of (0 + o.number) w) q) (sym bits) ∙ o.is_at)

      back : has (Source.inputs_from 0 ss) q ≡ true → (has (Target.places (count d t) (parts d t)) q && Target.is_top_input (count d t) (parts d t) q) ≡ true
      back h =
          let o = input-at 0 ss q h in
          let same : q.signal ≡ 0 + o.number = has-signal (0 + o.number) 0 o.signal.width q o.is_at in
          let number : o.number ≡ q.signal = omega (arith, same) in
          let a : At q = record { signal = o.signal; is_there = ap (slice_get ss) (sym number) ∙ o.is_there } in
          let low = below-get ss o.number o.signal o.is_there in
          let low_q = below-get ss q.signal o.signal a.is_there in
          let listed : has (places_of o.number (width_of ss o.number)) q ≡ true =
          (let index : 0 + o.number ≡ o.number = omega arith in sym (λ i. has (places_of (index i) (sym (ap width_or_zero o.is_there) i)) q) ∙ o.is_at) in
          (λ i. there d t o.number q low listed i && (own-below q low_q i && (by_image q a false (λ s. Target.is_input s.kind) ∙ ap (λ kind. Target.is_input (kind_of kind (is_driven ps q.signal))) o.is_input) i))

  -- where the source has no input, a bit of a source's signal starts with x
  start-below : (q : Place) → q.signal < length ss → has (Source.inputs_from 0 ss) q ≡ false → Target.start (count d t) (parts d t) q ≡ X
  start-below q low none =
      let a = at q low in
      by_image q a X _
      ∙ by_bit a (nat_lt q.bit (size (image_of (is_driven ps q.signal) a.signal))) refl
    where
      never : (b : Bool) → b ≡ true → cond b (Target.given (count d t) (parts d t) q) Z ≡ X
      never b h = ap (λ c. cond c (Target.given (count d t) (parts d t) q) Z) h ∙ given-below q low

      inside : (a : At q) → nat_lt q.bit (size (image_of (is_driven ps q.signal) a.signal)) ≡ true → q.bit < a.signal.width
      inside a h = let l = ltb-true q.bit (image_of (is_driven ps q.signal) a.signal).width h in let w = wide q a in omega (arith, l, w)

      not-input : (a : At q) → q.bit < a.signal.width → a.signal.kind ≡ InputNet → ⊥
      not-input a h k =
          let index : q.signal ≡ 0 + q.signal = omega arith in
          false≢true (sym none ∙ at-input 0 ss q.signal a.signal q a.is_there k
          (subst (λ j. has (places_of j a.signal.width) q ≡ true) index (has-place q.signal 0 a.signal.width q refl (omega arith) (omega (arith, h)))))

      by_kind : (a : At q) → q.bit < a.signal.width → (kind : SignalKind) → a.signal.kind ≡ kind → (driven : Bool) → is_driven ps q.signal ≡ driven
          → (Target.holds_value (kind_of kind driven) || Target.is_written (count d t) (parts d t) q) ≡ true
      by_kind a h InputNet k driven e = absurd (not-input a h k)
      by_kind a h OutputVar k true e = driven-written q a e h
      by_kind a h OutputVar k false e = refl
      by_kind a h Variable k true e = driven-written q a e h
      by_kind a h Variable k false e = refl

      by_bit : (a : At q) → (b : Bool) → nat_lt q.bit (size (image_of (is_driven ps q.signal) a.signal)) ≡ b
          → cond b (cond (Target.holds_value (image_of (is_driven ps q.signal) a.signal).kind || Target.is_written (count d t) (parts d t) q) (Target.given (count d t) (parts d t) q) Z) X ≡ X
      by_bit a false h = refl
      by_bit a true h = never _ (by_kind a (inside a h) a.signal.kind refl (is_driven ps q.signal) refl)

  -- and so it does in the source
  rests-below : (q : Place) → is_own ss q ≡ true → has (Source.inputs_from 0 ss) q ≡ false → Source.rest_or_x (slice_get ss q.signal) ≡ X
  rests-below q own none = let a = at q (signal-below ss q own) in ap Source.rest_or_x a.is_there ∙ by_kind a a.signal.kind refl
    where
      inside : (w : ℕ) → width_of ss q.signal ≡ w → q.bit < width_of ss q.signal → q.bit < 0 + w
      inside w same low = omega (arith, same, low)

      by_kind : (a : At q) (kind : SignalKind) → a.signal.kind ≡ kind → Source.rest_of kind ≡ X
      by_kind a InputNet k =
          let index : q.signal ≡ 0 + q.signal = omega arith in
          absurd (false≢true (sym none ∙ at-input 0 ss q.signal a.signal q a.is_there k
          (subst (λ j. has (places_of j a.signal.width) q ≡ true) index
          (has-place q.signal 0 a.signal.width q refl (omega arith) (inside a.signal.width (ap width_or_zero a.is_there) (ltb-true q.bit (width_of ss q.signal) own))))))
      by_kind a OutputVar k = refl
      by_kind a Variable k = refl

  inputs-own : (q : Place) → has (Source.inputs_from 0 ss) q ≡ true → is_own ss q ≡ true
  inputs-own q h =
      let o = input-at 0 ss q h in
      let index : 0 + o.number ≡ o.number = omega arith in
      place-own ss o.number q (sym (λ i. has (places_of (index i) (sym (ap width_or_zero o.is_there) i)) q) ∙ o.is_at)

  -- the trigger starts what reads it
  first : has_comb ps ≡ true → (p : T.Process) → list_any (λ n. n == length ss) (p.does.names p.scope) ≡ true → Target.is_triggered (count d t) (parts d t) p ≡ true
  first h p reads =
      member-any (λ q. not (same4 (Target.given (count d t) (parts d t) q) (Target.initial (count d t) (parts d t) q))) (Target.names_of (count d t) (parts d t) p) bit listed
      (λ i. not (same4 (given-one i) (initial-one i)))
    where
      bit : Place
      bit = record { signal = length ss; bit = 0 }

      index : length ss ≡ 0 + length ss
      index = omega arith

      trigger-place : has (Target.places (count d t) (parts d t)) bit ≡ true
      trigger-place =
          has-places 0 (us d t) (length ss) trigger_signal bit (trigger-there d t h)
          (subst (λ j. has (places_of j 1) bit ≡ true) index (has-place (length ss) 0 1 bit refl (omega arith) (omega arith)))

      listed : Member (Target.names_of (count d t) (parts d t) p) bit
      listed = has-member (Target.names_of (count d t) (parts d t) p) bit
          (has-filter _ (Target.places (count d t) (parts d t)) bit ∙ (λ i. trigger-place i && reads i))

      number : (named (sc d t).names trigger).number ≡ length ss
      number = ap (λ (x : Named). x.number) (trigger-found d t h)

      given-one : Target.given (count d t) (parts d t) bit ≡ Zero
      given-one =
          ap (λ o. elim o [ None ↦ Target.initial (count d t) (parts d t) bit | Some v ↦ slice_index_or v 0 X ])
          ((λ i. Target.last_initial (values (sc d t) (h i)) (length ss)) ∙ ap (λ c. cond c (Some (Zero ∷ [])) None) (eq-eqb (named (sc d t).names trigger).number (length ss) number))

      initial-one : Target.initial (count d t) (parts d t) bit ≡ X
      initial-one = ap (λ o. elim o [ None ↦ X | Some s ↦ slice_index_or s.initial 0 X ]) (trigger-there d t h)

  combs-same : (qs : List Process) → ((p : Process) → Member qs p → Member ps p)
      → AllZip (ReadsMore (is_own ss)) (Source.combs_of ss qs) (flat_map (λ (p : T.Process). Target.comb_of (count d t) (parts d t) p.starts p) (map (target (sc d t) ss) qs))
  combs-same [] among = tt
  combs-same (p ∷ qs) among = by_kind (combs-same qs (λ x m. among x (inr m))) p.kind refl (t.kinds p (among p (inl refl)))
    where
      u : UsesSignals d t (doing p.body)
      u = uses-signals p (among p (inl refl))

      driver : (to : ℕ) (value : Expr) → p.body ≡ S.Assign to value false
          → ReadsMore (is_own ss) (comb_process ss (S.Assign to value false)) (Target.comb (count d t) (parts d t) true [] (T.process_of (sc d t) (Drive (whole_target (name_of ss to)) (lowered_expr ss value))))
      driver to value e =
          let is : doing (S.Assign to value false) ≡ SD.assignment to value false = assign-level SD.Doing stmt_doing to value false in
          let v : UsesSignals d t (doing (S.Assign to value false)) = subst (λ b. UsesSignals d t (doing b)) e u in
          let same : Same ss (sc d t) (doing (S.Assign to value false)) (assignment false (TD.target (whole_target (name_of ss to))) (meaning (lowered_expr ss value))) =
          subst (λ x. Same ss (sc d t) x (assignment false (TD.target (whole_target (name_of ss to))) (meaning (lowered_expr ss value)))) (sym is) (driver-same to value) in
          comb-reads d t (S.Assign to value false) v (T.process_of (sc d t) (Drive (whole_target (name_of ss to)) (lowered_expr ss value))) refl
          (same.run (uses d t _ v)) same.writes
          (λ q low. ap (λ xs. covered xs q) same.reads ∙ covered-named d t _ q v.reads)

      star : has_comb ps ≡ true → ReadsMore (is_own ss) (comb_process ss p.body) (Target.star (count d t) (parts d t) (T.process_of (sc d t) (process_by ss Comb p.body)))
      star h = subst (ReadsMore (is_own ss) (comb_process ss p.body)) (sym started) (comb-reads d t p.body u star-process refl (same.run (uses d t _ u)) same.writes reads)
        where
          star-process : T.Process
          star-process = T.process_of (sc d t) (process_by ss Comb p.body)

          same : Triggered ss (sc d t) (doing p.body) (doing_of (triggered (lowered_stmt ss p.body)))
          same = triggered-same ss (sc d t) p.body

          found : whole_of (sc d t) trigger ≡ record { number = length ss; low = 0; high = 1 }
          found = ap (λ (x : Named). record { number = x.number; low = 0; high = all_bits x }) (trigger-found d t h)

          names : list_any (λ n. n == length ss) (star-process.does.names star-process.scope) ≡ true
          names = ap (list_any (λ n. n == length ss)) same.names ∙ or_left _ _ (eq-eqb _ (length ss) (ap (λ (x : Use). x.number) found))

          started : Target.star (count d t) (parts d t) star-process ≡ Target.comb (count d t) (parts d t) true [] star-process
          started = ap (λ b. Target.comb (count d t) (parts d t) b (cond b [] (Target.names_of (count d t) (parts d t) star-process)) star-process) (first h star-process names)

          not-trigger : (q : Place) → q.signal < length ss → covers (whole_of (sc d t) trigger) q ≡ false
          not-trigger q low = ap (λ x. covers x q) found ∙ elim (true_or_false (covers (record { number = length ss; low = 0; high = 1 }) q)) [
            | inr f ↦ f
            | inl g ↦ (let both : length ss ≡ q.signal = eqb-true (length ss) q.signal (and_parts _ _ g).0 in absurd (omega (arith, both, low)))
          ]

          reads : (q : Place) → q.signal < length ss → covered (star-process.does.reads star-process.scope) q ≡ has (Source.places_of_signals ss (doing p.body).reads) q
          reads q low =
              ap (λ xs. covered xs q) same.reads
              ∙ ap (λ b. b || covered (map (use_named ss (sc d t)) (doing p.body).reads) q) (not-trigger q low)
              ∙ covered-named d t (doing p.body).reads q u.reads

      by_kind : AllZip (ReadsMore (is_own ss)) (Source.combs_of ss qs) (flat_map (λ (x : T.Process). Target.comb_of (count d t) (parts d t) x.starts x) (map (target (sc d t) ss) qs))
          → (kind : ProcessKind) → p.kind ≡ kind → KindFits ss kind p.body
          → AllZip (ReadsMore (is_own ss)) (Source.comb_of ss kind p.body (Source.combs_of ss qs))
          (flat_map (λ (x : T.Process). Target.comb_of (count d t) (parts d t) x.starts x) (T.process_of (sc d t) (process_by ss kind p.body) ∷ map (target (sc d t) ss) qs))
      by_kind rest Continuous e fits =
          subst (λ b. AllZip (ReadsMore (is_own ss)) (comb_process ss b ∷ Source.combs_of ss qs)
          (flat_map (λ (x : T.Process). Target.comb_of (count d t) (parts d t) x.starts x) (T.process_of (sc d t) (driver_in ss (out-Stmt b)) ∷ map (target (sc d t) ss) qs))) (sym fits.2)
          (subst (λ x. AllZip (ReadsMore (is_own ss)) (comb_process ss (S.Assign fits.0 fits.1 false) ∷ Source.combs_of ss qs)
          (flat_map (λ (x : T.Process). Target.comb_of (count d t) (parts d t) x.starts x) (T.process_of (sc d t) (driver_in ss x) ∷ map (target (sc d t) ss) qs)))
          (sym (assign-out fits.0 fits.1 false)) (driver fits.0 fits.1 fits.2, rest))
      by_kind rest Comb e fits =
          let has : has_comb ps ≡ true = member-any (λ (x : Process). is_triggered x.kind) ps p (among p (inl refl)) (ap is_triggered e) in
          (star has, rest)
      by_kind rest (Edges es) e fits = rest

  edges-same : (qs : List Process) → ((p : Process) → Member qs p → Member ps p)
      → AllZip (SameEdges (is_own ss)) (Source.edges_of ss qs) (flat_map (λ (p : T.Process). Target.edge_of_process (count d t) (parts d t) p.starts p) (map (target (sc d t) ss) qs))
  edges-same [] among = tt
  edges-same (p ∷ qs) among = by_kind (edges-same qs (λ x m. among x (inr m))) p.kind (t.kinds p (among p (inl refl)))
    where
      u : UsesSignals d t (doing p.body)
      u = uses-signals p (among p (inl refl))

      not_edges : AllZip (SameEdges (is_own ss)) (Source.edges_of ss qs) (flat_map (λ (p : T.Process). Target.edge_of_process (count d t) (parts d t) p.starts p) (map (target (sc d t) ss) qs))
          → (x : Stmt-F Stmt)
          → AllZip (SameEdges (is_own ss)) (Source.edges_of ss qs)
          (flat_map (λ (x : T.Process). Target.edge_of_process (count d t) (parts d t) x.starts x) (T.process_of (sc d t) (driver_in ss x) ∷ map (target (sc d t) ss) qs))
      not_edges rest (Stmt-F.Block xs) = rest
      not_edges rest (Stmt-F.If on b o) = rest
      not_edges rest (Stmt-F.Assign to value later) = rest

      by_kind : AllZip (SameEdges (is_own ss)) (Source.edges_of ss qs) (flat_map (λ (p : T.Process). Target.edge_of_process (count d t) (parts d t) p.starts p) (map (target (sc d t) ss) qs))
          → (kind : ProcessKind) → KindFits ss kind p.body
          → AllZip (SameEdges (is_own ss)) (Source.edge_process_of ss kind p.body (Source.edges_of ss qs))
          (flat_map (λ (x : T.Process). Target.edge_of_process (count d t) (parts d t) x.starts x) (T.process_of (sc d t) (process_by ss kind p.body) ∷ map (target (sc d t) ss) qs))
      by_kind rest Continuous fits = not_edges rest (out-Stmt p.body)
      by_kind rest Comb fits = rest
      by_kind rest (Edges es) fits =
          let same = body-same ss (sc d t) p.body in (
            edge-same d t es p.body u (T.process_of (sc d t) (process_by ss (Edges es) p.body)) refl (same.run (uses d t _ u)) same.later
                (λ e m. found-at d t e.signal (fits.2 e m).0 (fits.2 e m).1),
            rest,
          )

  -- processes use the source's signals alone
  combs-below : (p : M.Process) → Member (Source.combs_of ss ps) p → CombBelow (is_own ss) p
  combs-below p m =
      let a = comb-member ss ps p m in
      subst (CombBelow (is_own ss)) (sym a.is) (record {
        writes = places-own ss (each_once (doing a.process.body).targets);
        reads = λ q h.
            places-own ss (doing a.process.body).reads q (has-without-only (comb_process ss a.process.body).writes (Source.places_of_signals ss (doing a.process.body).reads) q h);
      })

  edges-alike : (es : List EdgeOn) → ((e : EdgeOn) → Member es e → is_own ss (record { signal = e.signal; bit = 0 }) ≡ true) → (v v' w w' : Valuation) → SameBelow (is_own ss) v v' → SameBelow (is_own ss) w w'
      → list_any (Source.has_edge v w) es ≡ list_any (Source.has_edge v' w') es
  edges-alike [] low v v' w w' a b = refl
  edges-alike (e ∷ es) low v v' w w' a b =
      λ i. is_edge e.rising (edge_of (a (record { signal = e.signal; bit = 0 }) (low e (inl refl)) i) (b (record { signal = e.signal; bit = 0 }) (low e (inl refl)) i))
      || edges-alike es (λ x m. low x (inr m)) v v' w w' a b i

  edge-below : (p : Process) → Member ps p → (es : List EdgeOn) → p.kind ≡ Edges es → EdgeBelow (is_own ss) (edge_process ss es p.body)
  edge-below p m es k = record {
    writes = places-own ss (each_once (doing p.body).later_targets);
    runs = edges-alike es (λ e l. let f = fits.2 e l in one-bit e.signal (ap width_or_zero f.1 ∙ f.2));
    updates = λ v v' a q.
        ((stmt-tame ss p.body).hangs (doing p.body).reads (λ n l. l) (begun v) (begun v')
        (record { now = λ n l r h. a r (low n l r h); written = λ r. refl; pending = λ r. refl })).pending q;
  }
    where
      fits : KindFits ss (Edges es) p.body
      fits = subst (λ kind. KindFits ss kind p.body) k (t.kinds p m)

      low : (n : ℕ) → Member (doing p.body).reads n → (r : Place) → has (places_of n (width_of ss n)) r ≡ true → is_own ss r ≡ true
      low n l r h = place-own ss n r h

      one-bit : (n : ℕ) → width_of ss n ≡ 1 → is_own ss (record { signal = n; bit = 0 }) ≡ true
      one-bit n one = lt-ltb 0 (width_of ss n) (omega (arith, one))

  edges-below : (p : M.EdgeProcess) → Member (Source.edges_of ss ps) p → EdgeBelow (is_own ss) p
  edges-below p m = let a = edge-member ss ps p m in subst (EdgeBelow (is_own ss)) (sym a.is) (edge-below a.process a.member a.edges a.kind)

  abbrev pub extra : Valuation
  extra = Target.start (count d t) (parts d t)

  extends : Extends (is_own ss) extra (Source.machine d) e
  extends = record {
    combs = combs-same ps (λ p m. m);
    edges = edges-same ps (λ p m. m);
    inputs = inputs-same;
    initial = λ q own. initial-below q (signal-below ss q own);
    start = λ q own none. start-below q (signal-below ss q own) none ∙ sym (rests-below q own none);
    beyond = λ q high. refl;
    combs_below = combs-below;
    edges_below = edges-below;
    inputs_below = inputs-own;
  }

  -- the machine of the target
  machine-is : Target.machine (lowered d) d.top ≡ e
  machine-is =
      (λ i. Target.machine_of (length (T.signals (top-items d i))) (top-parts d i))
      ∙ ap (λ xs. Target.machine_of (length xs) (parts d t)) (all-signals ss ps)

  pub translated : Translates (under_own (is_own d.signals) extra) (Source.machine d) (Target.machine (lowered d) d.top)
  translated =
      subst (Translates (under_own (is_own d.signals) extra) (Source.machine d)) (sym machine-is)
      (translates (is_own ss) extra (Source.machine d) e extends (sound d t))
