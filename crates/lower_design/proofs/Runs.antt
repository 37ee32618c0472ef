-- A lowered statement reads, writes and does what its source does.
use Rattle.std.proofs.Common.{◌≡◌, ℕ, ◌+◌, Bool, true, false, ◌&&◌, cond, max, take, slice_index_or, List, [], ◌∷◌, ◌++◌, map, Some, None, refl, sym, ap, subst, ◌∙◌, inl, inr, arith, append-nil}
use Rattle.std.specs.Prelude.{nat_lt, ◌==◌}
use Rattle.std.proofs.lemmas.Bool.{le-leb}
use Rattle.b4_core.specs.declared.bit.Bit4.{Bit4}
use Rattle.b4_core.specs.declared.bit.Bit4.TheVariants.{Zero, One, X, Z}
use Rattle.b4_core.specs.Bits as Bits
use Rattle.b4_core.specs.Bitwise.{truth_of}
use Rattle.b4_core.specs.Vectors.{ext}
use Rattle.row_machine.specs.Valuation.{Member, Place, Valuation, Changes, put}
use Rattle.row_machine.specs.Places.{assigned}
use Rattle.row_machine.specs.Steps.{Progress, then_changes, is_one}
use Rattle.row_machine.specs.Steps as Steps
use Rattle.picks.specs.Windows.{whole, written}
use Rattle.lowering_laws.proofs.Extensions.{ext-cut}
use Rattle.lowering_laws.proofs.Runs.{over}
use Rattle.sv_core.specs.declared.design.Signal.{Signal}
use Rattle.sv_core.specs.declared.design.Expr.{Expr}
use Rattle.sv_core.specs.declared.design.Stmt.{Stmt}
use Rattle.sv_core.specs.declared.design.Stmt.TheVariants as S
use Rattle.sv_core.specs.Value.{width_alone, value_at}
use Rattle.sv_core.specs.Statements as Source
use Rattle.sv_core.specs.Statements.{width_of, held_at, expr_signals}
use Rattle.v_tree.specs.declared.expressions.VExpr.{VExpr}
use Rattle.v_tree.specs.declared.expressions.VExpr.TheVariants.{Prim}
use Rattle.v_tree.specs.declared.statements.VBranch.TheVariants.{Statement, Empty}
use Rattle.v_tree.specs.declared.statements.VStmt.{VStmt}
use Rattle.v_tree.specs.declared.statements.VStmt.TheVariants as V
use Rattle.v_meaning.specs.Scopes.{Scope}
use Rattle.v_meaning.specs.Selects.{SelMeaning}
use Rattle.v_meaning.specs.Values as Values
use Rattle.v_meaning.specs.Values.{Meaning, meaning, expr_step, prim_step, sel_step}
use Rattle.v_meaning.specs.Runs.{State, Run, current, one_of, is_true, assign_now, assign_later}
use Rattle.v_meaning.specs.Statements as Target
use Rattle.v_meaning.specs.Statements.{doing_of, block_with, inside, name_target, conditional}
use Rattle.lower_design.specs.Shape.{trigger, whole_of}
use Rattle.lower_design.specs.Lowered.{lines, branch, lowered_expr, lowered_level, lowered_stmt, reads_trigger, triggered, whole_name, whole_target}
use Rattle.lower_design.proofs.Induction.{Steps as Each, by_statement}
use Rattle.lower_design.proofs.Levels.{block-level, alone-level, either-level, assign-level, statement-target, empty-target, block-target, alone-target, either-target, assign-target, target-level, name-level, prim-level, lines-are}
use Rattle.lower_design.proofs.Meanings.{name, AllFound, Found, found-front, found-back, number_named, use_named, map-append, length-value, lowered-means}

-- a block without a name and variables is its statements
inside-none : (sc : Scope) → inside [] sc ≡ sc
inside-none sc = let e : sc.next + 0 ≡ sc.next = omega arith in λ i. record sc { next = e i }

block-plain : (d : Target.Doing) → block_with [] d ≡ d
unfolding block_with
block-plain d = λ i. record {
  run = λ sc v s. d.run (inside-none sc i) v s;
  names = λ sc. d.names (inside-none sc i);
  reads = λ sc. d.reads (inside-none sc i);
  writes = λ sc. d.writes (inside-none sc i);
  later = λ sc. d.later (inside-none sc i);
}

-- the progress of a source's run, by the state of a target's
abbrev pub progress : Valuation → State → Progress
progress v s = record { now = put s.written v; written = s.written; pending = s.pending }

now-made : (c : Changes) (v : Valuation) (s : State) → progress v (assign_now c s) ≡ Steps.assign_now c (progress v s)
now-made c v s = λ i. record { now = λ q. over (c q) (s.written q) (v q) i; written = then_changes s.written c; pending = s.pending }

later-made : (c : Changes) (v : Valuation) (s : State) → progress v (assign_later c s) ≡ Steps.assign_later c (progress v s)
later-made c v s = refl

one-same : (b : Bit4) → Bits.is_one b ≡ is_one b
one-same Zero = refl
one-same One = refl
one-same X = refl
one-same Z = refl

-- a write of a whole signal is its assignment
written-whole : (n w : ℕ) (bits : List Bit4) (q : Place) → written n (whole w) bits q ≡ assigned n w bits q
written-whole n w bits q =
    let low : q.bit + 0 ≡ q.bit = omega arith in
    λ i. cond ((q.signal == n) && (le-leb 0 q.bit (omega arith) i && nat_lt q.bit w)) (Some (slice_index_or bits (low i) X)) None

-- the condition of `if (sv2v_t) ;`
abbrev pub trigger_on : VExpr
trigger_on = Prim (whole_name trigger)

trigger-means : meaning trigger_on ≡ Values.reference trigger []
trigger-means =
    prim-level Meaning Meaning SelMeaning expr_step prim_step sel_step (whole_name trigger) ∙ name-level Meaning Meaning SelMeaning expr_step prim_step sel_step trigger

module _ (ss : List Signal) (sc : Scope) where
  abbrev value_of : Expr → Meaning
  value_of x = meaning (lowered_expr ss x)

  -- an assignment makes the same changes, a condition has the same truth
  given-same : (w : ℕ) (value : Expr) (v : Valuation) → AllFound ss sc (expr_signals value)
      → Values.given (value_of value) w sc v ≡ ext w false (value_at (held_at ss v) (max w (width_alone (width_of ss) value)) value)
  given-same w value v f =
      let h = lowered-means ss sc value in
      let k = max w (width_alone (width_of ss) value) in
      let long = length-value (held_at ss v) k value in
      (λ i. take w ((value_of value).value (max w (h.width f i)) (h.signed i) sc v)) ∙ ap (take w) (h.value f k v)
      ∙ sym (ext-cut w false (value_at (held_at ss v) k value) (omega (arith, long)))

  pub changes-same : (to : ℕ) (value : Expr) (v : Valuation) → Found ss sc to → AllFound ss sc (expr_signals value)
      → (q : Place) → Target.changes_of (name_target (name ss sc to) []) (value_of value) sc v q ≡ Source.changes_of ss to value v q
  unfolding name_target
  changes-same to value v t f q =
      ap (λ x. written x.number (Values.path_of x [] sc v).window (Values.given (value_of value) (Values.width_of x []) sc v) q) t
      ∙ ap (λ bits. written to (whole (width_of ss to)) bits q) (given-same (width_of ss to) value v f)
      ∙ written-whole to (width_of ss to) _ q

  truth-same : (on : Expr) (v : Valuation) → AllFound ss sc (expr_signals on) → is_true (value_of on) sc v ≡ Source.is_true ss on v
  truth-same on v f =
      let h = lowered-means ss sc on in
      (λ i. Bits.is_one (truth_of ((value_of on).value (h.width f i) (h.signed i) sc v)))
      ∙ ap (λ bits. Bits.is_one (truth_of bits)) (h.value f (width_alone (width_of ss) on) v)
      ∙ one-same _

  -- all that a statement uses is found
  pub record Uses (d : Source.Doing) : Type 0 where
    pub reads : AllFound ss sc d.reads
    pub targets : AllFound ss sc d.targets
    pub later_targets : AllFound ss sc d.later_targets

  abbrev numbers : List ℕ → List ℕ
  numbers ns = map (number_named ss sc) ns

  -- the second does among the target's signals what the first does among the source's
  pub record Same (d : Source.Doing) (e : Target.Doing) : Type 0 where
    pub names : e.names sc ≡ map (number_named ss sc) d.reads
    pub reads : e.reads sc ≡ map (use_named ss sc) d.reads
    pub writes : e.writes sc ≡ map (use_named ss sc) d.targets
    pub later : e.later sc ≡ map (use_named ss sc) d.later_targets
    pub run : Uses d → (v : Valuation) (s : State) → progress v (e.run sc v s) ≡ d.run ss (progress v s)

  same-idle : Same Source.idle Target.nothing
  same-idle = record { names = refl; reads = refl; writes = refl; later = refl; run = λ u v s. refl }

  plain-assignment : (to : ℕ) (value : Expr) (later : Bool) → Same (Source.assignment to value later) (Target.assignment later (name_target (name ss sc to) []) (value_of value))
  unfolding Target.assignment name_target
  plain-assignment to value true =
      let h = lowered-means ss sc value in
      record {
        names = append-nil ((value_of value).names sc) ∙ h.names;
        reads = append-nil ((value_of value).reads sc) ∙ h.reads;
        writes = refl;
        later = refl;
        run = λ u v s. λ i. Steps.assign_later (λ q. changes-same to value (current v s) (u.later_targets to (inl refl)) u.reads q i) (progress v s);
      }
  plain-assignment to value false =
      let h = lowered-means ss sc value in
      record {
        names = append-nil ((value_of value).names sc) ∙ h.names;
        reads = append-nil ((value_of value).reads sc) ∙ h.reads;
        writes = refl;
        later = refl;
        run = λ u v s. now-made _ v s ∙ (λ i. Steps.assign_now (λ q. changes-same to value (current v s) (u.targets to (inl refl)) u.reads q i) (progress v s));
      }

  pub same-assignment : (to : ℕ) (value : Expr) (later : Bool) → Same (Source.assignment to value later) (Target.assignment later (Target.target (whole_target (name ss sc to))) (value_of value))
  same-assignment to value later =
      subst (λ t. Same (Source.assignment to value later) (Target.assignment later t (value_of value))) (sym (target-level Target.Target Target.lval_step (name ss sc to)))
      (plain-assignment to value later)

  joined : {A : Type 0} (f : ℕ → A) (xs ys : List ℕ) (ns ms : List A) → ns ≡ map f xs → ms ≡ map f ys → ns ++ ms ≡ map f (xs ++ ys)
  joined f xs ys ns ms e g = (λ i. e i ++ g i) ∙ sym (map-append f xs ys)

  chosen : (a b : Bool) (r o : Run) (v : Valuation) (s : State) (x y : Progress) → a ≡ b → progress v (r sc v s) ≡ x → progress v (o sc v s) ≡ y
      → progress v (one_of a r o sc v s) ≡ cond b x y
  chosen a true r o v s x y e f g = ap (λ c. progress v (one_of c r o sc v s)) e ∙ f
  chosen a false r o v s x y e f g = ap (λ c. progress v (one_of c r o sc v s)) e ∙ g

  same-choice : (on : Expr) (d d' : Source.Doing) (e e' : Target.Doing) → Same d e → Same d' e'
      → Same (Source.choice on d d') (conditional (value_of on) e e')
  unfolding conditional
  same-choice on d d' e e' s s' =
      let h = lowered-means ss sc on in
      record {
        names = joined (number_named ss sc) (expr_signals on) (d.reads ++ d'.reads) _ _ (append-nil ((value_of on).names sc) ∙ h.names) (joined (number_named ss sc) d.reads d'.reads _ _ s.names s'.names);
        reads = joined (use_named ss sc) (expr_signals on) (d.reads ++ d'.reads) _ _ (append-nil ((value_of on).reads sc) ∙ h.reads) (joined (use_named ss sc) d.reads d'.reads _ _ s.reads s'.reads);
        writes = joined (use_named ss sc) d.targets d'.targets _ _ s.writes s'.writes;
        later = joined (use_named ss sc) d.later_targets d'.later_targets _ _ s.later s'.later;
        run = λ u v x. chosen _ _ e.run e'.run v x _ _
            (truth-same on (current v x) (found-front ss sc (expr_signals on) _ u.reads))
            (s.run (record {
              reads = found-front ss sc d.reads _ (found-back ss sc (expr_signals on) _ u.reads);
              targets = found-front ss sc d.targets _ u.targets;
              later_targets = found-front ss sc d.later_targets _ u.later_targets;
            }) v x)
            (s'.run (record {
              reads = found-back ss sc d.reads _ (found-back ss sc (expr_signals on) _ u.reads);
              targets = found-back ss sc d.targets _ u.targets;
              later_targets = found-back ss sc d.later_targets _ u.later_targets;
            }) v x);
      }

  same-more : (d : Source.Doing) (e : Target.Doing) (ds : List Source.Doing) (es : List Target.Doing) → Same d e → Same (Source.sequence ds) (Target.sequence es)
      → Same (Source.sequence (d ∷ ds)) (Target.sequence (e ∷ es))
  same-more d e ds es s more = record {
    names = joined (number_named ss sc) d.reads _ _ _ s.names more.names;
    reads = joined (use_named ss sc) d.reads _ _ _ s.reads more.reads;
    writes = joined (use_named ss sc) d.targets _ _ _ s.writes more.writes;
    later = joined (use_named ss sc) d.later_targets _ _ _ s.later more.later;
    run = λ u v x.
        more.run (record {
          reads = found-back ss sc d.reads _ u.reads;
          targets = found-back ss sc d.targets _ u.targets;
          later_targets = found-back ss sc d.later_targets _ u.later_targets;
        }) v (e.run sc v x)
        ∙ ap (λ q. (Source.sequence ds).run ss q) (s.run (record {
          reads = found-front ss sc d.reads _ u.reads;
          targets = found-front ss sc d.targets _ u.targets;
          later_targets = found-front ss sc d.later_targets _ u.later_targets;
        }) v x);
  }

  -- a sequence of one
  same-one : (d : Source.Doing) (e : Target.Doing) → Same d e → Same d (Target.sequence (e ∷ []))
  same-one d e s = record {
    names = append-nil (e.names sc) ∙ s.names;
    reads = append-nil (e.reads sc) ∙ s.reads;
    writes = append-nil (e.writes sc) ∙ s.writes;
    later = append-nil (e.later sc) ∙ s.later;
    run = s.run;
  }

  -- a block without a name, and a branch that is one
  block-is : (xs : List VStmt) → Target.doing (V.Block None xs) ≡ Target.sequence (map Target.doing xs)
  block-is xs = block-target Target.Doing Target.Item Target.Doing Target.branch_step Target.item_step Target.stmt_step xs ∙ block-plain (Target.sequence (map Target.doing xs))

  branch-is : (xs : List VStmt) → doing_of (Statement (V.Block None xs)) ≡ Target.sequence (map Target.doing xs)
  branch-is xs = statement-target Target.Doing Target.Item Target.Doing Target.branch_step Target.item_step Target.stmt_step (V.Block None xs) ∙ block-is xs

  same-lines : (d : Source.Doing) (s : VStmt) → Same d (Target.doing s) → Same d (Target.sequence (map Target.doing (lines s)))
  same-lines d s h =
      elim (lines-are s) [
        | inl e ↦ subst (Same d) (ap Target.doing e ∙ block-is (lines s)) h
        | inr e ↦ subst (λ xs. Same d (Target.sequence (map Target.doing xs))) (sym e) (same-one d (Target.doing s) h)
      ]

  same-branch : (d : Source.Doing) (s : VStmt) → Same d (Target.doing s) → Same d (doing_of (branch s))
  same-branch d s h = subst (Same d) (sym (branch-is (lines s))) (same-lines d s h)

  abbrev lowers : Stmt → VStmt
  lowers = lowered_stmt ss

  abbrev pub Done : Stmt → Type 0
  Done s = Same (Source.doing s) (Target.doing (lowers s))

  same-each : (xs : List Stmt) → ((s : Stmt) → Member xs s → Done s)
      → Same (Source.sequence (map Source.doing xs)) (Target.sequence (map Target.doing (map lowers xs)))
  same-each [] h = same-idle
  same-each (x ∷ xs) h =
      same-more (Source.doing x) (Target.doing (lowers x)) (map Source.doing xs) (map Target.doing (map lowers xs)) (h x (inl refl)) (same-each xs (λ s m. h s (inr m)))

  -- by what the two sides are at this level
  at_level : (s : Stmt) (d : Source.Doing) (e : Target.Doing) → Source.doing s ≡ d → Target.doing (lowers s) ≡ e → Same d e → Done s
  at_level s d e f g h = subst (λ x. Same x (Target.doing (lowers s))) (sym f) (subst (Same d) (sym g) h)

  steps : Each Done
  steps = record {
    block = λ xs h. at_level (S.Block xs) _ _
        (block-level Source.Doing Source.stmt_doing xs)
        (ap Target.doing (block-level VStmt (lowered_level ss) xs) ∙ block-is (map lowers xs))
        (same-each xs h);
    alone = λ on body h. at_level (S.If on body None) _ _
        (alone-level Source.Doing Source.stmt_doing on body)
        (ap Target.doing (alone-level VStmt (lowered_level ss) on body) ∙ alone-target Target.Doing Target.Item Target.Doing Target.branch_step Target.item_step Target.stmt_step (lowered_expr ss on) (branch (lowers body)))
        (same-choice on _ _ _ _ (same-branch (Source.doing body) (lowers body) h) same-idle);
    either = λ on body other h k. at_level (S.If on body (Some other)) _ _
        (either-level Source.Doing Source.stmt_doing on body other)
        (ap Target.doing (either-level VStmt (lowered_level ss) on body other)
        ∙ either-target Target.Doing Target.Item Target.Doing Target.branch_step Target.item_step Target.stmt_step (lowered_expr ss on) (branch (lowers body)) (branch (lowers other)))
        (same-choice on _ _ _ _ (same-branch (Source.doing body) (lowers body) h) (same-branch (Source.doing other) (lowers other) k));
    assign = λ to value later. at_level (S.Assign to value later) _ _
        (assign-level Source.Doing Source.stmt_doing to value later)
        (ap Target.doing (assign-level VStmt (lowered_level ss) to value later)
        ∙ assign-target Target.Doing Target.Item Target.Doing Target.branch_step Target.item_step Target.stmt_step (whole_target (name ss sc to)) (lowered_expr ss value) later)
        (same-assignment to value later);
  }

  -- each statement
  pub stmt-same : (s : Stmt) → Done s
  stmt-same = by_statement Done steps

  -- the body of an `always`
  pub body-same : (s : Stmt) → Same (Source.doing s) (doing_of (branch (lowers s)))
  body-same s = same-branch (Source.doing s) (lowers s) (stmt-same s)

  -- the body that reads the trigger first
  pub record Triggered (d : Source.Doing) (e : Target.Doing) : Type 0 where
    pub names : e.names sc ≡ (whole_of sc trigger).number ∷ map (number_named ss sc) d.reads
    pub reads : e.reads sc ≡ whole_of sc trigger ∷ map (use_named ss sc) d.reads
    pub writes : e.writes sc ≡ map (use_named ss sc) d.targets
    pub later : e.later sc ≡ map (use_named ss sc) d.later_targets
    pub run : Uses d → (v : Valuation) (s : State) → progress v (e.run sc v s) ≡ d.run ss (progress v s)

  one-idle : (b : Bool) (v : Valuation) (s : State) → one_of b (Target.nothing).run (Target.nothing).run sc v s ≡ s
  one-idle true v s = refl
  one-idle false v s = refl

  behind-trigger : (d : Source.Doing) (es : List Target.Doing) → Same d (Target.sequence es)
      → Triggered d (Target.sequence (conditional (Values.reference trigger []) Target.nothing Target.nothing ∷ es))
  unfolding conditional Values.reference
  behind-trigger d es s = record {
    names = ap (λ ns. (whole_of sc trigger).number ∷ ns) s.names;
    reads = ap (λ us. whole_of sc trigger ∷ us) s.reads;
    writes = s.writes;
    later = s.later;
    run = λ u v x. ap (λ y. progress v ((Target.sequence es).run sc v y)) (one-idle _ v x) ∙ s.run u v x;
  }

  trigger-is : Target.doing reads_trigger ≡ conditional (Values.reference trigger []) Target.nothing Target.nothing
  trigger-is =
      alone-target Target.Doing Target.Item Target.Doing Target.branch_step Target.item_step Target.stmt_step trigger_on Empty
      ∙ (λ i. conditional (trigger-means i) (empty-target Target.Doing Target.Item Target.Doing Target.branch_step Target.item_step Target.stmt_step i) Target.nothing)

  pub triggered-same : (s : Stmt) → Triggered (Source.doing s) (doing_of (triggered (lowers s)))
  triggered-same s =
      subst (Triggered (Source.doing s))
      (sym (branch-is (reads_trigger ∷ lines (lowers s)) ∙ ap (λ d. Target.sequence (d ∷ map Target.doing (lines (lowers s)))) trigger-is))
      (behind-trigger (Source.doing s) (map Target.doing (lines (lowers s))) (same-lines (Source.doing s) (lowers s) (stmt-same s)))
