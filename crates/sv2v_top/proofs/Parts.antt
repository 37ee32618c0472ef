-- A statement of a design has the reads, targets, expressions and nesting of the source statement that it is made of.
use Rattle.std.proofs.Common.{◌≡◌, ℕ, suc, max, Bool, true, false, cond, List, [], ◌∷◌, ◌++◌, map, flat_map, Some, None, refl, sym, ap, subst, ◌∙◌, inl, inr, append_assoc}
use Rattle.row_machine.specs.Valuation.{Member}
use Rattle.sv_source.specs.declared.token.Spot.{Spot}
use Rattle.sv_core.specs.declared.design.Stmt.{Stmt as Typed}
use Rattle.sv_core.specs.Statements.{Doing, idle, primary_signals, expr_signals, stmt_doing, doing}
use Rattle.sv_core.specs.Statements as Meaning
use Rattle.lower_design.proofs.Levels.{block-level, alone-level, either-level, assign-level}
use Rattle.lower_design.specs.Translatable.{Inside, all_exprs, deepest, stmt_inside, inside}
use Rattle.sv2v_top.specs.declared.uses.Use.{Use}
use Rattle.sv2v_top.specs.declared.uses.Literal.{Literal}
use Rattle.sv2v_top.specs.declared.uses.Role.{Role}
use Rattle.sv2v_top.specs.declared.uses.Role.TheVariants.{Target, Read, Clock}
use Rattle.built_forms.specs.declared.forms.Primary.{Primary}
use Rattle.built_forms.specs.declared.forms.Primary.TheVariants as P
use Rattle.built_forms.specs.declared.forms.Expr.{Expr}
use Rattle.built_forms.specs.declared.forms.Expr.TheVariants.{Single, Binary}
use Rattle.built_forms.specs.declared.forms.Assign.{Assign}
use Rattle.built_forms.specs.declared.forms.Stmt.{Stmt, Stmt-F, ind-Stmt, roll-Stmt, map-Stmt}
use Rattle.built_forms.specs.declared.forms.Stmt.TheVariants.{Block, If, rolls-Block, rolls-If, rolls-Assign}
use Rattle.built_forms.specs.declared.forms.Stmt.TheVariants as T
use Rattle.sv2v_top.specs.source.Statements.{primary_uses, expr_uses, expr_literals, Parts, none, sequence, choice, assignment, parts, if_target, targets_in, if_read, reads_in}
use Rattle.v_tree.specs.Names.{position}
use Rattle.sv2v_top.specs.source.Elaboration.{primary_of, expr_of, assign_of, stmt_of}
use Rattle.sv2v_top.proofs.Names.{append-nil, member-unmap}
use Rattle.sv2v_top.proofs.Checks.{map-append}
use Rattle.sv2v_top.proofs.Levels.{block-parts, alone-parts, either-parts, assign-parts, block-typed, alone-typed, either-typed, assign-typed}

-- what is to be shown of each kind of statement, where it holds of the statements inside
pub record Steps (P : Stmt → Type 0) : Type 0 where
  pub block : (ss : List Stmt) → ((s : Stmt) → Member ss s → P s) → P (Block ss)
  pub alone : (on : Expr) (body : Stmt) → P body → P (If on body None)
  pub either : (on : Expr) (body other : Stmt) → P body → P other → P (If on body (Some other))
  pub assign : (a : Assign) → P (T.Assign a)

module _ (P : Stmt → Type 0) (steps : Steps P) where
  each : {A : Type 0} (f : A → Stmt) → ((a : A) → P (f a)) → (xs : List A) (s : Stmt) → Member (map f xs) s → P s
  each f h xs s m = let r = member-unmap f xs s m in subst P (sym r.2) (h r.0)

  level : (A : Type 0) (f : A → Stmt) → ((a : A) → P (f a)) → (y : Stmt-F A) → P (roll-Stmt (map-Stmt A Stmt f y))
  level A f h (Stmt-F.Block ys) = subst P (sym (rolls-Block (map f ys))) (steps.block (map f ys) (each f h ys))
  level A f h (Stmt-F.If on b None) = subst P (sym (rolls-If on (f b) None)) (steps.alone on (f b) (h b))
  level A f h (Stmt-F.If on b (Some o)) = subst P (sym (rolls-If on (f b) (Some (f o)))) (steps.either on (f b) (f o) (h b) (h o))
  level A f h (Stmt-F.Assign a) = subst P (sym (rolls-Assign a)) (steps.assign a)

  pub by_statement : (s : Stmt) → P s
  by_statement = ind-Stmt P (λ x y e. subst (λ z. P (roll-Stmt z)) e (level _ (λ a. a.0) (λ a. a.1) y))

-- uses one after the other
pub reads-append : (us vs : List Use) → reads_in (us ++ vs) ≡ reads_in us ++ reads_in vs
reads-append [] vs = refl
reads-append (u ∷ us) vs = ap (if_read u.role u.name) (reads-append us vs) ∙ pushed u.role (reads_in us) (reads_in vs)
  where
    pushed : (r : Role) (xs ys : List Spot) → if_read r u.name (xs ++ ys) ≡ if_read r u.name xs ++ ys
    pushed Target xs ys = refl
    pushed Read xs ys = refl
    pushed Clock xs ys = refl

pub targets-append : (us vs : List Use) → targets_in (us ++ vs) ≡ targets_in us ++ targets_in vs
targets-append [] vs = refl
targets-append (u ∷ us) vs = ap (if_target u.role u.name) (targets-append us vs) ∙ pushed u.role (targets_in us) (targets_in vs)
  where
    pushed : (r : Role) (xs ys : List Spot) → if_target r u.name (xs ++ ys) ≡ if_target r u.name xs ++ ys
    pushed Target xs ys = refl
    pushed Read xs ys = refl
    pushed Clock xs ys = refl

-- an expression assigns nothing
pub primary-targets : (p : Primary) → targets_in (primary_uses p) ≡ []
primary-targets (P.Name name) = refl
primary-targets (P.Literal size digits) = refl

pub expr-targets : (x : Expr) → targets_in (expr_uses x) ≡ []
expr-targets (Single a) = primary-targets a.primary
expr-targets (Binary op a b) = targets-append (primary_uses a.primary) (primary_uses b.primary) ∙ (λ i. primary-targets a.primary i ++ primary-targets b.primary i)

module _ (names : List (List ℕ)) where
  -- the number of the signal
  abbrev pub number : Spot → ℕ
  number s = position names s.word

  abbrev pub numbers : List Spot → List ℕ
  numbers spots = map number spots

  pub primary-reads : (p : Primary) → primary_signals (primary_of names p) ≡ numbers (reads_in (primary_uses p))
  primary-reads (P.Name name) = refl
  primary-reads (P.Literal size digits) = refl

  pub expr-reads : (x : Expr) → expr_signals (expr_of names x) ≡ numbers (reads_in (expr_uses x))
  expr-reads (Single a) = primary-reads a.primary
  expr-reads (Binary op a b) =
      (λ i. primary-reads a.primary i ++ primary-reads b.primary i)
      ∙ sym (map-append number (reads_in (primary_uses a.primary)) (reads_in (primary_uses b.primary)))
      ∙ ap numbers (sym (reads-append (primary_uses a.primary) (primary_uses b.primary)))

  -- What a typed statement does and has in it, beside the parts of its source; `later` says that assignments are nonblocking.
  pub record Matches (later : Bool) (p : Parts) (d : Doing) (i : Inside) : Type 0 where
    pub reads : d.reads ≡ numbers (reads_in p.names)
    pub targets : d.targets ≡ cond later [] (numbers (targets_in p.names))
    pub later_targets : d.later_targets ≡ cond later (numbers (targets_in p.names)) []
    pub exprs : i.exprs ≡ map (expr_of names) p.exprs
    pub depth : i.depth ≡ p.depth

  module _ (later : Bool) where
    matches-of : {p q : Parts} {d e : Doing} {i j : Inside} → p ≡ q → d ≡ e → i ≡ j → Matches later q e j → Matches later p d i
    matches-of {p = p} {q = q} {d = d} {e = e} {i = i} {j = j} a b c m =
        subst (λ x. Matches later x d i) (sym a) (subst (λ x. Matches later q x i) (sym b) (subst (λ x. Matches later q e x) (sym c) m))

    now-append : (b : Bool) (xs ys : List ℕ) → cond b [] xs ++ cond b [] ys ≡ cond b [] (xs ++ ys)
    now-append true xs ys = refl
    now-append false xs ys = refl

    behind-append : (b : Bool) (xs ys : List ℕ) → cond b xs [] ++ cond b ys [] ≡ cond b (xs ++ ys) []
    behind-append true xs ys = refl
    behind-append false xs ys = refl

    numbers-append : (xs ys : List Spot) → numbers xs ++ numbers ys ≡ numbers (xs ++ ys)
    numbers-append xs ys = sym (map-append number xs ys)

    reads-both : (us vs : List Use) → numbers (reads_in us) ++ numbers (reads_in vs) ≡ numbers (reads_in (us ++ vs))
    reads-both us vs = numbers-append (reads_in us) (reads_in vs) ∙ ap numbers (sym (reads-append us vs))

    targets-both : (us vs : List Use) → numbers (targets_in us) ++ numbers (targets_in vs) ≡ numbers (targets_in (us ++ vs))
    targets-both us vs = numbers-append (targets_in us) (targets_in vs) ∙ ap numbers (sym (targets-append us vs))

    -- two statements
    module _ {p q : Parts} {d e : Doing} {i j : Inside} (m : Matches later p d i) (n : Matches later q e j) where
      both-reads : d.reads ++ e.reads ≡ numbers (reads_in (p.names ++ q.names))
      both-reads = (λ k. m.reads k ++ n.reads k) ∙ reads-both p.names q.names

      both-targets : d.targets ++ e.targets ≡ cond later [] (numbers (targets_in (p.names ++ q.names)))
      both-targets =
          (λ k. m.targets k ++ n.targets k) ∙ now-append later (numbers (targets_in p.names)) (numbers (targets_in q.names))
          ∙ ap (λ ns. cond later [] ns) (targets-both p.names q.names)

      both-later : d.later_targets ++ e.later_targets ≡ cond later (numbers (targets_in (p.names ++ q.names))) []
      both-later =
          (λ k. m.later_targets k ++ n.later_targets k) ∙ behind-append later (numbers (targets_in p.names)) (numbers (targets_in q.names))
          ∙ ap (λ ns. cond later ns []) (targets-both p.names q.names)

      both-exprs : i.exprs ++ j.exprs ≡ map (expr_of names) (p.exprs ++ q.exprs)
      both-exprs = (λ k. m.exprs k ++ n.exprs k) ∙ sym (map-append (expr_of names) p.exprs q.exprs)

      -- the uses of a condition before them
      on-targets : (on : Expr) → targets_in (p.names ++ q.names) ≡ targets_in (expr_uses on ++ (p.names ++ q.names))
      on-targets on = sym (targets-append (expr_uses on) (p.names ++ q.names) ∙ ap (λ ts. ts ++ targets_in (p.names ++ q.names)) (expr-targets on))

      choice-matches : (on : Expr) → Matches later (choice on p q) (Meaning.choice (expr_of names on) d e)
          (record { exprs = expr_of names on ∷ (i.exprs ++ j.exprs); depth = suc (max i.depth j.depth) })
      choice-matches on = record {
        reads = (λ k. expr-reads on k ++ both-reads k) ∙ reads-both (expr_uses on) (p.names ++ q.names);
        targets = both-targets ∙ ap (λ ts. cond later [] (numbers ts)) (on-targets on);
        later_targets = both-later ∙ ap (λ ts. cond later (numbers ts) []) (on-targets on);
        exprs = ap (λ xs. expr_of names on ∷ xs) both-exprs;
        depth = λ k. suc (max (m.depth k) (n.depth k));
      }

    cond-none : (b : Bool) → ◌≡◌ {A = List ℕ} [] (cond b [] [])
    cond-none true = refl
    cond-none false = refl

    none-matches : Matches later none idle (record { exprs = []; depth = 0 })
    none-matches = record { reads = refl; targets = cond-none later; later_targets = cond-none later; exprs = refl; depth = refl }

    abbrev typed : Stmt → Typed
    typed s = stmt_of names later s

    -- a statement matches its source
    abbrev pub StatementMatches : Stmt → Type 0
    StatementMatches s = Matches later (parts s) (doing (typed s)) (inside (typed s))

    -- a list of statements
    list-matches : (ss : List Stmt) → ((s : Stmt) → Member ss s → StatementMatches s)
        → Matches later (sequence (map parts ss)) (Meaning.sequence (map doing (map typed ss)))
        (record { exprs = all_exprs (map inside (map typed ss)); depth = deepest (map inside (map typed ss)) })
    list-matches [] h = record { reads = refl; targets = cond-none later; later_targets = cond-none later; exprs = refl; depth = refl }
    list-matches (s ∷ ss) h =
        let m = h s (inl refl) in
        let n = list-matches ss (λ t k. h t (inr k)) in
        record {
          reads = both-reads m n;
          targets = both-targets m n;
          later_targets = both-later m n;
          exprs = both-exprs m n;
          depth = λ k. max (m.depth k) (n.depth k);
        }

    block-matches : (ss : List Stmt) → ((s : Stmt) → Member ss s → StatementMatches s) → StatementMatches (Block ss)
    block-matches ss h =
        let m = list-matches ss h in
        matches-of (block-parts ss) (ap doing (block-typed names later ss) ∙ block-level Doing stmt_doing (map typed ss)) (ap inside (block-typed names later ss) ∙ block-level Inside stmt_inside (map typed ss))
        (record { reads = m.reads; targets = m.targets; later_targets = m.later_targets; exprs = m.exprs; depth = ap suc m.depth })

    alone-matches : (on : Expr) (body : Stmt) → StatementMatches body → StatementMatches (If on body None)
    alone-matches on body m =
        matches-of (alone-parts on body) (ap doing (alone-typed names later on body) ∙ alone-level Doing stmt_doing (expr_of names on) (typed body))
        (ap inside (alone-typed names later on body) ∙ alone-level Inside stmt_inside (expr_of names on) (typed body)) (choice-matches m none-matches on)

    either-matches : (on : Expr) (body other : Stmt) → StatementMatches body → StatementMatches other → StatementMatches (If on body (Some other))
    either-matches on body other m n =
        matches-of (either-parts on body other) (ap doing (either-typed names later on body other) ∙ either-level Doing stmt_doing (expr_of names on) (typed body) (typed other))
        (ap inside (either-typed names later on body other) ∙ either-level Inside stmt_inside (expr_of names on) (typed body) (typed other)) (choice-matches m n on)

    -- an assignment by itself
    pub assignment-matches : (a : Assign) → Matches later (assignment a) (doing (assign_of names later a)) (inside (assign_of names later a))
    assignment-matches a =
        matches-of refl (assign-level Doing stmt_doing (number a.target) (expr_of names a.value) later) (assign-level Inside stmt_inside (number a.target) (expr_of names a.value) later) (by_time later)
      where
        alone : numbers (targets_in (assignment a).names) ≡ number a.target ∷ []
        alone = ap (λ ts. numbers (a.target ∷ ts)) (expr-targets a.value)

        by_time : (b : Bool) → Matches b (assignment a) (Meaning.assignment (number a.target) (expr_of names a.value) b) (record { exprs = expr_of names a.value ∷ []; depth = 1 })
        by_time true = record { reads = expr-reads a.value; targets = refl; later_targets = sym alone; exprs = refl; depth = refl }
        by_time false = record { reads = expr-reads a.value; targets = sym alone; later_targets = refl; exprs = refl; depth = refl }

    assign-matches : (a : Assign) → StatementMatches (T.Assign a)
    assign-matches a = matches-of (assign-parts a) (ap doing (assign-typed names later a)) (ap inside (assign-typed names later a)) (assignment-matches a)

    pub statement-matches : (s : Stmt) → StatementMatches s
    statement-matches = by_statement StatementMatches (record { block = block-matches; alone = alone-matches; either = either-matches; assign = assign-matches })

-- the literals of a statement are those of its expressions
abbrev pub literals_in : List Expr → List Literal
literals_in xs = flat_map expr_literals xs

pub literals-append : (xs ys : List Expr) → literals_in (xs ++ ys) ≡ literals_in xs ++ literals_in ys
literals-append [] ys = refl
literals-append (x ∷ xs) ys = ap (λ ls. expr_literals x ++ ls) (literals-append xs ys) ∙ sym (append_assoc (expr_literals x) (literals_in xs) (literals_in ys))

abbrev pub OwnLiterals : Parts → Type 0
OwnLiterals p = p.literals ≡ literals_in p.exprs

own-both : (p q : Parts) → OwnLiterals p → OwnLiterals q → p.literals ++ q.literals ≡ literals_in (p.exprs ++ q.exprs)
own-both p q a b = (λ i. a i ++ b i) ∙ sym (literals-append p.exprs q.exprs)

pub own-none : OwnLiterals none
own-none = refl

own-choice : (on : Expr) (p q : Parts) → OwnLiterals p → OwnLiterals q → OwnLiterals (choice on p q)
own-choice on p q a b = ap (λ ls. expr_literals on ++ ls) (own-both p q a b)

pub own-assignment : (a : Assign) → OwnLiterals (assignment a)
own-assignment a = sym (append-nil (expr_literals a.value))

own-list : (ss : List Stmt) → ((s : Stmt) → Member ss s → OwnLiterals (parts s)) → OwnLiterals (sequence (map parts ss))
own-list [] h = own-none
own-list (s ∷ ss) h = own-both (parts s) (sequence (map parts ss)) (h s (inl refl)) (own-list ss (λ t k. h t (inr k)))

own-of : (p q : Parts) → p ≡ q → OwnLiterals q → OwnLiterals p
own-of p q e o = subst OwnLiterals (sym e) o

pub own-literals : (s : Stmt) → OwnLiterals (parts s)
own-literals = by_statement (λ s. OwnLiterals (parts s)) (record {
  block = λ ss h. own-of _ _ (block-parts ss) (own-list ss h);
  alone = λ on body a. own-of _ _ (alone-parts on body) (own-choice on (parts body) none a own-none);
  either = λ on body other a b. own-of _ _ (either-parts on body other) (own-choice on (parts body) (parts other) a b);
  assign = λ a. own-of _ _ (assign-parts a) (own-assignment a);
})
