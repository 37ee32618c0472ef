-- A statement reads, writes and does what its core form does.
use Rattle.std.proofs.Common.{◌≡◌, ℕ, zero, suc, ◌+◌, ◌-◌, ◌<◌, ◌≤◌, ◌^◌, Bool, true, false, ◌&&◌, ◌||◌, cond, max, take, drop, slice_index_or, List, [], ◌∷◌, ◌++◌, map, length, Option, Some, None, refl, sym, ap, subst, ◌∙◌, inl, inr, arith, append-nil}
use Rattle.std.specs.Prelude.{nat_lt, ◌==◌, slice_get}
use Rattle.std.specs.Option.{option_map}
use Rattle.std.proofs.lemmas.Bool.{le-leb, ltb-true, ltb-false, eqb-true}
use Rattle.b4_core.specs.declared.bit.Bit4.{Bit4}
use Rattle.b4_core.specs.declared.bit.Bit4.TheVariants.{Zero, One, X, Z}
use Rattle.b4_core.specs.Bits as Bits
use Rattle.b4_core.specs.Bitwise.{truth_of}
use Rattle.b4_core.specs.Vectors.{ext}
use Rattle.row_machine.specs.Valuation.{Member, Place, Valuation, Changes, put, changed}
use Rattle.row_machine.specs.Places.{bits_from, vector_at, assigned}
use Rattle.row_machine.specs.Steps.{Progress, then_changes, later_or, is_one, in_order}
use Rattle.row_machine.specs.Steps as Steps
use Rattle.row_machine.proofs.Members.{member-front, member-back}
use Rattle.picks.specs.Windows.{whole, written}
use Rattle.sv_source.specs.declared.token.Spot.{Spot}
use Rattle.sv_types.specs.declared.expression.Expr as X
use Rattle.sv_types.specs.declared.expression.Form.{Form-F, out-Form}
use Rattle.sv_types.specs.declared.expression.Form.TheVariants as V
use Rattle.sv_types.specs.declared.statement.Local.{Local}
use Rattle.sv_types.specs.declared.statement.Outcome.TheVariants.{Normal}
use Rattle.sv_types.specs.declared.statement.Stmt as Y
use Rattle.sv_types.specs.declared.statement.Stmt.TheVariants as YV
use Rattle.sv_types.specs.Layouts.{Layout, layout, stored}
use Rattle.sv_types.specs.Layouts as Layouts
use Rattle.sv_types.specs.Surroundings.{Around, Callee, Sight, Use, is_signal}
use Rattle.sv_types.specs.Meanings.{Meaning, wide}
use Rattle.sv_types.specs.Expressions.{meaning}
use Rattle.sv_types.specs.Paths as P
use Rattle.sv_types.specs.Machine.{unwritten}
use Rattle.sv_types.specs.Runs as R
use Rattle.sv_types.specs.Runs.{State, Run, current, is_normal, one_of}
use Rattle.sv_types.specs.Flows as F
use Rattle.sv_types.specs.Flows.{Flows, uses_of}
use Rattle.sv_types.specs.Statements as D
use Rattle.sv_types.specs.Statements.{steps, runs, flows}
use Rattle.sv_types.proofs.Levels as L
use Rattle.sv_types.proofs.DoingLevels.{perhaps, doing-Block, doing-If, doing-Assign}
use Rattle.sv_core.specs.declared.design.Signal.{Signal}
use Rattle.sv_core.specs.declared.design.Expr.{Expr}
use Rattle.sv_core.specs.declared.design.Stmt.{Stmt, Stmt-F, fold-Stmt, fold-roll-Stmt}
use Rattle.sv_core.specs.declared.design.Stmt.TheVariants.{Block, If, Assign, rolls-Block, rolls-If, rolls-Assign}
use Rattle.sv_core.specs.Value.{width_alone, value_at}
use Rattle.sv_core.specs.Statements as S
use Rattle.sv_core.specs.Statements.{width_of, held_at, expr_signals}
use Rattle.core_forms.specs.Forms.{FormLayer, then_one, then_two, each, expr_of, target_in, target_of, block_of, applied, other_of, if_of, assign_with, stmt_of}
use Rattle.core_forms.specs.Typing.{IsVector, ExprIn, ExprTyped, all_of, none_or, exprs_in}
use Rattle.core_forms.proofs.Levels.{of-block, of-If, of-Assign, in-Block, in-If, in-Assign}
use Rattle.core_forms.proofs.Induction.{Each, OrNone, Steps as StmtSteps, by_statement}
use Rattle.core_forms.proofs.Expressions.{one-some, two-some, none-some, Unsure, numbers_of, numbers-append, IsFlat, flat, flat-width, length-alike, stored-plain, Looks, Means, ExprMeans, expr-means, by-form, length-value, take-long}

-- the core form, one level at a time
core-block : (ss : List Stmt) → S.doing (Block ss) ≡ S.sequence (map S.doing ss)
core-block ss = ap S.doing (sym (rolls-Block ss)) ∙ fold-roll-Stmt S.Doing S.stmt_doing (Stmt-F.Block ss)

core-alone : (on : Expr) (body : Stmt) → S.doing (If on body None) ≡ S.choice on (S.doing body) S.idle
core-alone on body = ap S.doing (sym (rolls-If on body None)) ∙ fold-roll-Stmt S.Doing S.stmt_doing (Stmt-F.If on body None)

core-either : (on : Expr) (body other : Stmt) → S.doing (If on body (Some other)) ≡ S.choice on (S.doing body) (S.doing other)
core-either on body other = ap S.doing (sym (rolls-If on body (Some other))) ∙ fold-roll-Stmt S.Doing S.stmt_doing (Stmt-F.If on body (Some other))

core-assign : (to : ℕ) (value : Expr) (later : Bool) → S.doing (Assign to value later) ≡ S.assignment to value later
core-assign to value later = ap S.doing (sym (rolls-Assign to value later)) ∙ fold-roll-Stmt S.Doing S.stmt_doing (Stmt-F.Assign to value later)

-- small facts
get-past : {A : Type 0} (xs : List A) (n : ℕ) → length xs ≤ n → slice_get xs n ≡ None
get-past [] n h = refl
get-past (x ∷ xs) zero h = absurd (omega arith)
get-past (x ∷ xs) (suc n) h = get-past xs n (omega arith)

one-same : (b : Bit4) → Bits.is_one b ≡ is_one b
one-same Zero = refl
one-same One = refl
one-same X = refl
one-same Z = refl

over : (x y : Option Bit4) (b : Bit4) → changed (later_or x y) b ≡ changed x (changed y b)
over None y b = refl
over (Some x) y b = refl

written-whole : (n w : ℕ) (bits : List Bit4) (q : Place) → written n (whole w) bits q ≡ assigned n w bits q
written-whole n w bits q =
    let low : q.bit + 0 ≡ q.bit = omega arith in
    λ i. cond ((q.signal == n) && (le-leb 0 q.bit (omega arith) i && nat_lt q.bit w)) (Some (slice_index_or bits (low i) X)) None

-- the progress of a core run, by the state of a run
abbrev pub progress : Valuation → State → Progress
progress v s = record { now = put s.written v; written = s.written; pending = s.pending }

-- nothing is written but signals
abbrev pub IsLow : Changes → Type 0
IsLow c = (q : Place) → is_signal q.signal ≡ false → c q ≡ None

pub record AreLow (s : State) : Type 0 where
  pub written : IsLow s.written
  pub pending : IsLow s.pending

both-low : (c e : Changes) → IsLow c → IsLow e → IsLow (then_changes c e)
both-low c e h g q high = (λ i. later_or (g q high i) (h q high i))

module _ (ss : List Signal) (few : length ss ≤ 2 ^ 32) (callee : ℕ → Callee) where
  -- a signal that is there has a number below 2^32
  width-past : (n : ℕ) → is_signal n ≡ false → width_of ss n ≡ 0
  width-past n h = (let high = ltb-false n (2 ^ 32) h in ap S.width_or_zero (get-past ss n (omega (arith, few, high))))

  abbrev pub around : Valuation → Around
  around v = record { now = unwritten v; holds = λ n. true; callee = callee }

  bits-seen : (v : Valuation) (c : Changes) (n k w : ℕ) → is_signal n ≡ true → bits_from (put c (unwritten v)) n k w ≡ bits_from (put c v) n k w
  bits-seen v c n k zero h = refl
  bits-seen v c n k (suc w) h =
      λ i. changed (c (record { signal = n; bit = k })) (cond (h i) (v (record { signal = n; bit = k })) X) ∷ bits-seen v c n (suc k) w h i

  looks : (v : Valuation) (s : State) → Looks ss (current (around v) s) (put s.written v)
  looks v s n = by_number (is_signal n) refl
    where
      by_number : (b : Bool) → is_signal n ≡ b → vector_at (put s.written (unwritten v)) n (width_of ss n) ≡ vector_at (put s.written v) n (width_of ss n)
      by_number true h = bits-seen v s.written n 0 (width_of ss n) h
      by_number false h =
          ap (λ w. vector_at (put s.written (unwritten v)) n w) (width-past n h) ∙ sym (ap (λ w. vector_at (put s.written v) n w) (width-past n h))

  assigned-low : (n : ℕ) (bits : List Bit4) → IsLow (assigned n (width_of ss n) bits)
  assigned-low n bits q high = by_number (q.signal == n) refl
    where
      by_bit : (b : Bool) → nat_lt q.bit 0 ≡ b → cond b (Some (slice_index_or bits q.bit X)) None ≡ None
      by_bit false e = refl
      by_bit true e = (let below = ltb-true q.bit 0 e in absurd (omega (arith, below)))

      by_number : (b : Bool) → (q.signal == n) ≡ b → (cond ((q.signal == n) && nat_lt q.bit (width_of ss n)) (Some (slice_index_or bits q.bit X)) None) ≡ None
      by_number false e = ap (λ b. cond (b && nat_lt q.bit (width_of ss n)) (Some (slice_index_or bits q.bit X)) None) e
      by_number true e =
          let same : q.signal ≡ n = eqb-true q.signal n e in
          let none : width_of ss n ≡ 0 = width-past n (ap is_signal (sym same) ∙ high) in
          (λ i. cond (e i && nat_lt q.bit (none i)) (Some (slice_index_or bits q.bit X)) None) ∙ by_bit (nat_lt q.bit 0) refl

  -- a run with its flow does what the core form does
  pub record Same (d : S.Doing) (run : Run) (flow : Flows) : Type 0 where
    pub reads_are : (k : Sight) → Unsure k → numbers_of (flow k).reads ≡ d.reads
    pub writes_are : (k : Sight) → Unsure k → numbers_of (uses_of (flow k).writes) ≡ d.targets
    pub later_are : (k : Sight) → Unsure k → numbers_of (uses_of (flow k).later) ≡ d.later_targets
    pub goes : (v : Valuation) (s : State) → s.outcome ≡ Normal → (run (around v) s).outcome ≡ Normal
    pub run_is : (v : Valuation) (s : State) → s.outcome ≡ Normal → progress v (run (around v) s) ≡ d.run ss (progress v s)
    pub stays_low : (v : Valuation) (s : State) → s.outcome ≡ Normal → AreLow s → AreLow (run (around v) s)

  uses-append : (us vs : List _) → numbers_of (uses_of (us ++ vs)) ≡ numbers_of (uses_of us) ++ numbers_of (uses_of vs)
  uses-append [] vs = refl
  uses-append (u ∷ us) vs = ap (λ ns. u.of.number ∷ ns) (uses-append us vs)

  same-idle : Same S.idle R.idle (λ k. F.nothing)
  same-idle = record {
    reads_are = λ k u. refl;
    writes_are = λ k u. refl;
    later_are = λ k u. refl;
    goes = λ v s h. h;
    run_is = λ v s h. refl;
    stays_low = λ v s h low. low;
  }

  -- a list of statements
  abbrev in_turn : List D.Doing → Run
  in_turn es = R.in_turn (runs (steps es))

  turn-step : (e : D.Doing) (es : List D.Doing) (a : Around) (s : State) → s.outcome ≡ Normal → in_turn (e ∷ es) a s ≡ in_turn es a (e.run a s)
  turn-step e es a s h = ap (λ o. one_of (is_normal o) (λ b u. in_turn es b (e.run b u)) R.idle a s) h

  same-more : (d : S.Doing) (e : D.Doing) (ds : List S.Doing) (es : List D.Doing) → Same d e.run e.flow → Same (S.sequence ds) (in_turn es) (F.in_turn (flows es))
      → Same (S.sequence (d ∷ ds)) (in_turn (e ∷ es)) (F.in_turn (flows (e ∷ es)))
  same-more d e ds es s more = record {
    reads_are = λ k u. numbers-append (e.flow k).reads (F.in_turn (flows es) k).reads ∙ (λ i. s.reads_are k u i ++ more.reads_are k u i);
    writes_are = λ k u. uses-append (e.flow k).writes (F.in_turn (flows es) k).writes ∙ (λ i. s.writes_are k u i ++ more.writes_are k u i);
    later_are = λ k u. uses-append (e.flow k).later (F.in_turn (flows es) k).later ∙ (λ i. s.later_are k u i ++ more.later_are k u i);
    goes = λ v x h. ap (λ (y : State). y.outcome) (turn-step e es (around v) x h) ∙ more.goes v (e.run (around v) x) (s.goes v x h);
    run_is = λ v x h.
        ap (progress v) (turn-step e es (around v) x h)
        ∙ more.run_is v (e.run (around v) x) (s.goes v x h)
        ∙ ap (λ p. (S.sequence ds).run ss p) (s.run_is v x h);
    stays_low = λ v x h low.
        subst AreLow (sym (turn-step e es (around v) x h)) (more.stays_low v (e.run (around v) x) (s.goes v x h) (s.stays_low v x h low));
  }

  -- a condition has the same truth
  truth-same : (m : Meaning) (x : Expr) → ExprMeans ss m x → (v : Valuation) (s : State) → R.is_true m (current (around v) s) ≡ S.is_true ss x (put s.written v)
  truth-same m x h v s =
      (λ i. Bits.is_one (truth_of (m.value (h.width i) (h.unsigned i) (current (around v) s))))
      ∙ ap (λ bits. Bits.is_one (truth_of bits)) (h.value_is (width_alone (width_of ss) x) (current (around v) s) (put s.written v) (looks v s))
      ∙ one-same _

  chosen : (a b : Bool) (r o : Run) (v : Valuation) (s : State) (x y : Progress) → a ≡ b → progress v (r (around v) s) ≡ x → progress v (o (around v) s) ≡ y
      → progress v (one_of a r o (around v) s) ≡ cond b x y
  chosen a true r o v s x y e f g = ap (λ c. progress v (one_of c r o (around v) s)) e ∙ f
  chosen a false r o v s x y e f g = ap (λ c. progress v (one_of c r o (around v) s)) e ∙ g

  either-way : (P : State → Type 0) (b : Bool) (r o : Run) (a : Around) (s : State) → P (r a s) → P (o a s) → P (one_of b r o a s)
  either-way P true r o a s f g = f
  either-way P false r o a s f g = g

  abbrev branched : Meaning → Flows → Flows → Flows
  branched m f g k = F.and_then (F.reading (m.reads k)) (F.or_else (f k) (g k))

  same-choice : (m : Meaning) (x : Expr) (d d' : S.Doing) (r r' : Run) (f f' : Flows) → ExprMeans ss m x → Same d r f → Same d' r' f'
      → Same (S.choice x d d') (R.branch m r r') (branched m f f')
  same-choice m x d d' r r' f f' h s s' = record {
    reads_are = λ k u. numbers-append (m.reads k) ((f k).reads ++ (f' k).reads)
        ∙ (λ i. h.reads_are k u i ++ (numbers-append (f k).reads (f' k).reads ∙ (λ j. s.reads_are k u j ++ s'.reads_are k u j)) i);
    writes_are = λ k u. uses-append (f k).writes (f' k).writes ∙ (λ i. s.writes_are k u i ++ s'.writes_are k u i);
    later_are = λ k u. uses-append (f k).later (f' k).later ∙ (λ i. s.later_are k u i ++ s'.later_are k u i);
    goes = λ v y o. either-way (λ (z : State). z.outcome ≡ Normal) (R.is_true m (current (around v) y)) r r' (around v) y (s.goes v y o) (s'.goes v y o);
    run_is = λ v y o. chosen _ _ r r' v y _ _ (truth-same m x h v y) (s.run_is v y o) (s'.run_is v y o);
    stays_low = λ v y o low. either-way AreLow (R.is_true m (current (around v) y)) r r' (around v) y (s.stays_low v y o low) (s'.stays_low v y o low);
  }

  -- a whole signal as a target
  pub record Target (m : Meaning) (n : ℕ) : Type 0 where
    pub width : wide m ≡ width_of ss n
    pub no_stream : m.streams ≡ false
    pub no_index : (k : Sight) → m.indices k ≡ []
    pub writes_are : (k : Sight) → numbers_of (uses_of (m.writes k)) ≡ n ∷ []
    pub puts_are : (a : Around) (b : List Bit4) → length b ≡ width_of ss n → (q : Place) → m.puts a b q ≡ assigned n (width_of ss n) b q

  signal-target : (of : Layout) (at n : ℕ) → IsFlat of (width_of ss n) → Target (P.signal of at n) n
  unfolding P.signal
  signal-target of at n f =
      let w = width_of ss n in
      let long : length of.two_state ≡ w = flat-width of w f in
      record {
        width = long;
        no_stream = refl;
        no_index = λ k. refl;
        writes_are = λ k. refl;
        puts_are = λ a b l q.
            (λ i. written n (whole (long i)) (stored (f.four_state i) b) q)
            ∙ ap (λ c. written n (whole w) c q) (stored-plain w b l)
            ∙ written-whole n w b q;
      }

  target-is : (t : X.Expr) (n : ℕ) → target_in (out-Form t.form) ≡ Some n → ExprTyped (width_of ss) t → Target (meaning t) n
  target-is t n is typed = by_layer (out-Form t.form) refl is typed
    where
      by_layer : (x : FormLayer) → out-Form t.form ≡ x → target_in x ≡ Some n → ExprIn (width_of ss) t.of x → Target (meaning t) n
      by_layer (Form-F.Signal k) out h y =
          let same : k ≡ n = cc in
          subst (Target (meaning t)) same
          (subst (λ m. Target m k) (sym (by-form ss t _ _ _ out (V.rolls-Signal k) (L.form-Signal k)))
          (signal-target (layout t.of) t.spot.at k (flat t.of (width_of ss k) y)))
      by_layer _ out h y = absurd (none-some n h)

  given-same : (w : ℕ) (m : Meaning) (x : Expr) → ExprMeans ss m x → (v : Valuation) (s : State)
      → m.given w (current (around v) s) ≡ take w (value_at (held_at ss (put s.written v)) (max w (width_alone (width_of ss) x)) x)
  given-same w m x h v s =
      h.given_is w (current (around v) s)
      ∙ (λ i. take w (m.value (max w (h.width i)) (h.unsigned i) (current (around v) s)))
      ∙ ap (take w) (h.value_is (max w (width_alone (width_of ss) x)) (current (around v) s) (put s.written v) (looks v s))

  changes-same : (t m : Meaning) (n : ℕ) (x : Expr) → Target t n → ExprMeans ss m x → (v : Valuation) (s : State) (q : Place)
      → R.changes_of (t ∷ []) m (current (around v) s) q ≡ S.changes_of ss n x (put s.written v) q
  changes-same t m n x g h v s q =
      let w = width_of ss n in
      let a = current (around v) s in
      let y = value_at (held_at ss (put s.written v)) (max w (width_alone (width_of ss) x)) x in
      let sum : wide t + 0 ≡ w = (let e : wide t + 0 ≡ wide t = omega arith in e ∙ g.width) in
      let long : w ≤ length y = (let l = length-value (held_at ss (put s.written v)) (max w (width_alone (width_of ss) x)) x in omega (arith, l)) in
      let cut = take-long w y long in
      let value : R.value_given (t ∷ []) m a ≡ take w y =
      ap (λ b. cond (b || false) (drop (wide m - (wide t + 0)) (m.value (wide m) m.of.signed a)) (m.given (wide t + 0) a)) g.no_stream
      ∙ ap (λ k. m.given k a) sum ∙ given-same w m x h v s in
      (λ i. t.puts a (take (g.width i) (drop 0 (value i))) q)
      ∙ ap (λ b. t.puts a b q) cut.1
      ∙ g.puts_are a (take w y) cut.0 q
      ∙ ap (λ b. assigned n w b q) (sym cut.2)

  now-made : (c : Changes) (v : Valuation) (s : State) → progress v (R.assign_now c s) ≡ Steps.assign_now c (progress v s)
  now-made c v s = λ i. record { now = λ q. over (c q) (s.written q) (v q) i; written = then_changes s.written c; pending = s.pending }

  changes-low : (t m : Meaning) (n : ℕ) (x : Expr) → Target t n → ExprMeans ss m x → (v : Valuation) (s : State) → IsLow (R.changes_of (t ∷ []) m (current (around v) s))
  changes-low t m n x g h v s q high = changes-same t m n x g h v s q ∙ assigned-low n _ q high

  reads-one : (t m : Meaning) (n : ℕ) (x : Expr) → Target t n → ExprMeans ss m x → (k : Sight) → Unsure k → numbers_of (((t.indices k ++ []) ++ m.reads k) ++ []) ≡ expr_signals x
  reads-one t m n x g h k u =
      ap (λ us. numbers_of (((us ++ []) ++ m.reads k) ++ [])) (g.no_index k) ∙ ap numbers_of (append-nil (m.reads k)) ∙ h.reads_are k u

  writes-one : (t : Meaning) (n : ℕ) → Target t n → (k : Sight) → numbers_of (uses_of (t.writes k ++ [])) ≡ n ∷ []
  writes-one t n g k = ap (λ ws. numbers_of (uses_of ws)) (append-nil (t.writes k)) ∙ g.writes_are k

  same-assignment : (t m : Meaning) (n : ℕ) (x : Expr) (later : Bool) → Target t n → ExprMeans ss m x
      → Same (S.assignment n x later) (R.assign later (t ∷ []) m) (F.assigning later (t ∷ []) m)
  same-assignment t m n x true g h = record {
    reads_are = reads-one t m n x g h;
    writes_are = λ k u. refl;
    later_are = λ k u. writes-one t n g k;
    goes = λ v s o. o;
    run_is = λ v s o. λ i. Steps.assign_later (λ q. changes-same t m n x g h v s q i) (progress v s);
    stays_low = λ v s o low. record { written = low.written; pending = both-low s.pending _ low.pending (changes-low t m n x g h v s) };
  }
  same-assignment t m n x false g h = record {
    reads_are = reads-one t m n x g h;
    writes_are = λ k u. writes-one t n g k;
    later_are = λ k u. refl;
    goes = λ v s o. o;
    run_is = λ v s o. now-made _ v s ∙ (λ i. Steps.assign_now (λ q. changes-same t m n x g h v s q i) (progress v s));
    stays_low = λ v s o low. record { written = both-low s.written _ low.written (changes-low t m n x g h v s); pending = low.pending };
  }

  abbrev AllTyped : List X.Expr → Type 0
  AllTyped es = (e : X.Expr) → Member es e → ExprTyped (width_of ss) e

  abbrev pub Runs : S.Doing → D.Doing → Type 0
  Runs d e = Same d e.run e.flow

  abbrev pub Done : Y.Stmt → Type 0
  Done s = (k : Stmt) → stmt_of s ≡ Some k → AllTyped (exprs_in s) → Runs (S.doing k) (D.doing s)

  same-each : (xs : List Y.Stmt) → Each Done xs → (ks : List Stmt) → each stmt_of xs ≡ Some ks → AllTyped (all_of (map exprs_in xs))
      → Same (S.sequence (map S.doing ks)) (in_turn (map D.doing xs)) (F.in_turn (flows (map D.doing xs)))
  same-each [] h ks is typed =
      let none : [] ≡ ks = cc in
      subst (λ zs. Same (S.sequence (map S.doing zs)) (in_turn []) (F.in_turn (flows []))) none same-idle
  same-each (x ∷ xs) h ks is typed =
      let r = two-some (λ y ys. y ∷ ys) (stmt_of x) (each stmt_of xs) ks is in
      subst (λ zs. Same (S.sequence (map S.doing zs)) (in_turn (map D.doing (x ∷ xs))) (F.in_turn (flows (map D.doing (x ∷ xs))))) r.made
      (same-more (S.doing r.first) (D.doing x) (map S.doing r.second) (map D.doing xs)
      (h.0 r.first r.first_is (λ e m. typed e (member-front (exprs_in x) (all_of (map exprs_in xs)) e m)))
      (same-each xs h.1 r.second r.second_is (λ e m. typed e (member-back (exprs_in x) (all_of (map exprs_in xs)) e m))))

  -- one statement more is counted
  counted-same : (d : S.Doing) (e : D.Doing) → Runs d e → Runs d (D.counted e)
  counted-same d e h = record { reads_are = h.reads_are; writes_are = h.writes_are; later_are = h.later_are; goes = h.goes; run_is = h.run_is; stays_low = h.stays_low }

  -- by what both sides are at this level
  at_level : (k : Stmt) (s : Y.Stmt) (d : S.Doing) (e : D.Doing) → S.doing k ≡ d → D.doing s ≡ D.counted e → Runs d e → Runs (S.doing k) (D.doing s)
  at_level k s d e f g h = subst (λ x. Runs x (D.doing s)) (sym f) (subst (Runs d) (sym g) (counted-same d e h))

  block-done : (ls : List Local) (xs : List Y.Stmt) → Each Done xs → Done (YV.Block ls xs)
  block-done [] xs h k is typed =
      let r = one-some Block (each stmt_of xs) k (sym (of-block [] xs) ∙ is) in
      subst (λ z. Runs (S.doing z) (D.doing (YV.Block [] xs))) r.2
      (at_level (Block r.0) (YV.Block [] xs) _ (D.scope [] (map D.doing xs)) (core-block r.0) (doing-Block [] xs)
      (same-each xs h r.0 r.1 (subst AllTyped (in-Block [] xs) typed)))
  block-done (l ∷ ls) xs h k is typed = absurd (none-some k (sym (of-block (l ∷ ls) xs) ∙ is))

  other-done : (on : X.Expr) (body : Y.Stmt) (other : Option Y.Stmt) → Done body → OrNone Done other → Done (YV.If on body other)
  other-done on body None h g k is typed =
      let r = two-some applied (then_two If (expr_of on) (stmt_of body)) (Some None) k (sym (of-If on body None) ∙ is) in
      let p = two-some If (expr_of on) (stmt_of body) r.first r.first_is in
      let none : r.second ≡ None = cc in
      let all = subst AllTyped (in-If on body None) typed in
      let made : If p.first p.second None ≡ k = (λ i. p.made i (sym none i)) ∙ r.made in
      subst (λ z. Runs (S.doing z) (D.doing (YV.If on body None))) made
      (at_level (If p.first p.second None) (YV.If on body None) _ (D.branching (meaning on) (D.doing body) None) (core-alone p.first p.second) (doing-If on body None)
      (same-choice (meaning on) p.first (S.doing p.second) S.idle (D.doing body).run R.idle (D.doing body).flow (λ k. F.nothing)
      (expr-means ss on p.first p.first_is (all on (inl refl)))
      (h p.second p.second_is (λ e m. all e (inr (member-front (exprs_in body) [] e m))))
      same-idle))
  other-done on body (Some other) h g k is typed =
      let r = two-some applied (then_two If (expr_of on) (stmt_of body)) (then_one Some (stmt_of other)) k (sym (of-If on body (Some other)) ∙ is) in
      let p = two-some If (expr_of on) (stmt_of body) r.first r.first_is in
      let o = one-some Some (stmt_of other) r.second r.second_is in
      let all = subst AllTyped (in-If on body (Some other)) typed in
      let made : If p.first p.second (Some o.0) ≡ k = (λ i. p.made i (o.2 i)) ∙ r.made in
      subst (λ z. Runs (S.doing z) (D.doing (YV.If on body (Some other)))) made
      (at_level (If p.first p.second (Some o.0)) (YV.If on body (Some other)) _ (D.branching (meaning on) (D.doing body) (Some (D.doing other))) (core-either p.first p.second o.0) (doing-If on body (Some other))
      (same-choice (meaning on) p.first (S.doing p.second) (S.doing o.0) (D.doing body).run (D.doing other).run (D.doing body).flow (D.doing other).flow
      (expr-means ss on p.first p.first_is (all on (inl refl)))
      (h p.second p.second_is (λ e m. all e (inr (member-front (exprs_in body) (exprs_in other) e m))))
      (g o.0 o.1 (λ e m. all e (inr (member-back (exprs_in body) (exprs_in other) e m))))))

  assign-done : (to : List X.Expr) (value : X.Expr) (later : Bool) (spot : Spot) → Done (YV.Assign to value later spot)
  assign-done to value later spot k is typed = by_target to (sym (of-Assign to value later spot) ∙ is) (subst AllTyped (in-Assign to value later spot) typed)
      (λ n x one t m. at_level (Assign n x later) (YV.Assign to value later spot) _ (D.assigning (map meaning to) (meaning value) later) (core-assign n x later) (doing-Assign to value later spot)
      (subst (λ zs. Runs (S.assignment n x later) (D.assigning (map meaning zs) (meaning value) later)) (sym one.1)
      (same-assignment (meaning one.0) (meaning value) n x later t m)))
    where
      by_target : (ts : List X.Expr) → then_two (assign_with later) (target_of ts) (expr_of value) ≡ Some k → AllTyped (value ∷ ts)
          → ((n : ℕ) (x : Expr) (one : (t : X.Expr) × (ts ≡ t ∷ [])) → Target (meaning one.0) n → ExprMeans ss (meaning value) x → Runs (S.doing (Assign n x later)) (D.doing (YV.Assign to value later spot)))
          → Runs (S.doing k) (D.doing (YV.Assign to value later spot))
      by_target [] e all go = absurd (none-some k e)
      by_target (t ∷ []) e all go =
          let r = two-some (assign_with later) (target_in (out-Form t.form)) (expr_of value) k e in
          subst (λ z. Runs (S.doing z) (D.doing (YV.Assign to value later spot))) r.made
          (go r.first r.second (t, refl) (target-is t r.first r.first_is (all t (inr (inl refl)))) (expr-means ss value r.second r.second_is (all value (inl refl))))
      by_target (t ∷ u ∷ ts) e all go = absurd (none-some k e)

  stmt-steps : StmtSteps Done
  stmt-steps = record {
    block = block-done;
    branch = other-done;
    assign = assign-done;
    other = λ s none k e typed. absurd (none-some k (sym none ∙ e));
  }

  pub stmt-same : (s : Y.Stmt) → Done s
  stmt-same = by_statement Done stmt-steps
