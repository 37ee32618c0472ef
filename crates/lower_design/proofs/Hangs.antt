-- What a statement does hangs on the signals that it reads, and it writes no other signals than its targets.
use Rattle.std.proofs.Common.{◌≡◌, ℕ, Bool, true, false, cond, max, List, [], ◌∷◌, ◌++◌, map, None, refl, sym, ap, subst, ◌∙◌, inl, inr}
use Rattle.b4_core.specs.declared.bit.Bit4.{Bit4}
use Rattle.b4_core.specs.Bitwise.{truth_of}
use Rattle.b4_core.specs.Vectors.{ext}
use Rattle.b4_core.specs.Binary.{binary_value}
use Rattle.row_machine.specs.Valuation.{Member, Valuation, Place, has, changed}
use Rattle.row_machine.specs.Places.{places_of, assigned}
use Rattle.row_machine.specs.Steps.{Progress, later_or, is_one}
use Rattle.row_machine.proofs.Members.{member-front, member-back}
use Rattle.sv_core.specs.declared.design.Signal.{Signal}
use Rattle.sv_core.specs.declared.design.Primary.{Primary}
use Rattle.sv_core.specs.declared.design.Primary.TheVariants as P
use Rattle.sv_core.specs.declared.design.Expr.{Expr}
use Rattle.sv_core.specs.declared.design.Expr.TheVariants.{Single, Binary}
use Rattle.sv_core.specs.declared.design.Stmt.{Stmt}
use Rattle.sv_core.specs.Value.{primary_value, inverted_if, width_alone, value_at}
use Rattle.sv_core.specs.Statements.{Doing, idle, sequence, choice, assignment, stmt_doing, doing, width_of, held_at, changes_of, is_true, primary_signals, expr_signals}
use Rattle.lower_design.proofs.Induction.{Steps, by_statement}
use Rattle.lower_design.proofs.Levels.{block-level, alone-level, either-level, assign-level}
use Rattle.lower_design.proofs.Places.{vectors-same, assigned-within}

-- the value of an expression hangs on the signals that it reads
primary-hangs : (held held' : ℕ → List Bit4) (w : ℕ) (p : Primary) → ((n : ℕ) → Member (primary_signals p) n → held n ≡ held' n) → primary_value held w p ≡ primary_value held' w p
primary-hangs held held' w (P.Signal n) same = ap (ext w false) (same n (inl refl))
primary-hangs held held' w (P.Literal bits) same = refl

value-hangs : (held held' : ℕ → List Bit4) (w : ℕ) (x : Expr) → ((n : ℕ) → Member (expr_signals x) n → held n ≡ held' n) → value_at held w x ≡ value_at held' w x
value-hangs held held' w (Single a) same = ap (inverted_if a.inverted) (primary-hangs held held' w a.primary same)
value-hangs held held' w (Binary op a b) same =
    λ i. binary_value op false
    (inverted_if a.inverted (primary-hangs held held' w a.primary (λ n m. same n (member-front (primary_signals a.primary) _ n m)) i))
    (inverted_if b.inverted (primary-hangs held held' w b.primary (λ n m. same n (member-back (primary_signals a.primary) _ n m)) i))

module _ (ss : List Signal) where
  abbrev pub bits : ℕ → List Place
  bits n = places_of n (width_of ss n)

  -- two runs are alike: in the signals with these numbers, and in all that was assigned
  pub record Alike (ns : List ℕ) (p u : Progress) : Type 0 where
    pub now : (n : ℕ) → Member ns n → (q : Place) → has (bits n) q ≡ true → p.now q ≡ u.now q
    pub written : (q : Place) → p.written q ≡ u.written q
    pub pending : (q : Place) → p.pending q ≡ u.pending q

  abbrev pub Among : List ℕ → List ℕ → Type 0
  Among xs ns = (n : ℕ) → Member xs n → Member ns n

  -- these bits aren't written
  abbrev pub Apart : List ℕ → Place → Type 0
  Apart ns q = (n : ℕ) → Member ns n → has (bits n) q ≡ false

  pub record Tame (d : Doing) : Type 0 where
    pub hangs : (ns : List ℕ) → Among d.reads ns → (p u : Progress) → Alike ns p u → Alike ns (d.run ss p) (d.run ss u)
    pub written : (p : Progress) (q : Place) → Apart d.targets q → (d.run ss p).written q ≡ p.written q
    pub pending : (p : Progress) (q : Place) → Apart d.later_targets q → (d.run ss p).pending q ≡ p.pending q

  held-hangs : (ns : List ℕ) (p u : Progress) → Alike ns p u → (n : ℕ) → Member ns n → held_at ss p.now n ≡ held_at ss u.now n
  held-hangs ns p u a n m = vectors-same p.now u.now n 0 (width_of ss n) (a.now n m)

  changes-hang : (ns : List ℕ) (to : ℕ) (value : Expr) → Among (expr_signals value) ns → (p u : Progress) → Alike ns p u → (q : Place)
      → changes_of ss to value p.now q ≡ changes_of ss to value u.now q
  changes-hang ns to value within p u a q =
      ap (λ x. assigned to (width_of ss to) (ext (width_of ss to) false x) q)
      (value-hangs (held_at ss p.now) (held_at ss u.now) (max (width_of ss to) (width_alone (width_of ss) value)) value (λ n m. held-hangs ns p u a n (within n m)))

  truth-hangs : (ns : List ℕ) (on : Expr) → Among (expr_signals on) ns → (p u : Progress) → Alike ns p u → is_true ss on p.now ≡ is_true ss on u.now
  truth-hangs ns on within p u a =
      ap (λ x. is_one (truth_of x)) (value-hangs (held_at ss p.now) (held_at ss u.now) (width_alone (width_of ss) on) on (λ n m. held-hangs ns p u a n (within n m)))

  not-changed : (to : ℕ) (value : Expr) (v : Valuation) (q : Place) → has (bits to) q ≡ false → changes_of ss to value v q ≡ None
  not-changed to value v q e = assigned-within to (width_of ss to) _ q e

  tame-assignment : (to : ℕ) (value : Expr) (later : Bool) → Tame (assignment to value later)
  tame-assignment to value true = record {
    hangs = λ ns within p u a. record {
      now = a.now;
      written = a.written;
      pending = λ q. (λ i. later_or (changes-hang ns to value within p u a q i) (a.pending q i));
    };
    written = λ p q h. refl;
    pending = λ p q h. ap (λ c. later_or c (p.pending q)) (not-changed to value p.now q (h to (inl refl)));
  }
  tame-assignment to value false = record {
    hangs = λ ns within p u a. record {
      now = λ n m q h. (λ i. changed (changes-hang ns to value within p u a q i) (a.now n m q h i));
      written = λ q. (λ i. later_or (changes-hang ns to value within p u a q i) (a.written q i));
      pending = a.pending;
    };
    written = λ p q h. ap (λ c. later_or c (p.written q)) (not-changed to value p.now q (h to (inl refl)));
    pending = λ p q h. refl;
  }

  tame-idle : Tame idle
  tame-idle = record { hangs = λ ns within p u a. a; written = λ p q h. refl; pending = λ p q h. refl }

  among-front : (xs ys ns : List ℕ) → Among (xs ++ ys) ns → Among xs ns
  among-front xs ys ns h n m = h n (member-front xs ys n m)

  among-back : (xs ys ns : List ℕ) → Among (xs ++ ys) ns → Among ys ns
  among-back xs ys ns h n m = h n (member-back xs ys n m)

  apart-front : (xs ys : List ℕ) (q : Place) → Apart (xs ++ ys) q → Apart xs q
  apart-front xs ys q h n m = h n (member-front xs ys n m)

  apart-back : (xs ys : List ℕ) (q : Place) → Apart (xs ++ ys) q → Apart ys q
  apart-back xs ys q h n m = h n (member-back xs ys n m)

  either-alike : (ns : List ℕ) (a b : Bool) (p p' u u' : Progress) → a ≡ b → Alike ns p u → Alike ns p' u' → Alike ns (cond a p p') (cond b u u')
  either-alike ns a b p p' u u' e h h' = subst (λ c. Alike ns (cond a p p') (cond c u u')) e (inner a)
    where
      inner : (a : Bool) → Alike ns (cond a p p') (cond a u u')
      inner true = h
      inner false = h'

  either-same : {A : Type 0} (f : Progress → A) (a : Bool) (p p' : Progress) (x : A) → f p ≡ x → f p' ≡ x → f (cond a p p') ≡ x
  either-same f true p p' x e e' = e
  either-same f false p p' x e e' = e'

  tame-choice : (on : Expr) (d e : Doing) → Tame d → Tame e → Tame (choice on d e)
  tame-choice on d e t u = record {
    hangs = λ ns within p v a.
        either-alike ns _ _ _ _ _ _ (truth-hangs ns on (among-front (expr_signals on) _ ns within) p v a)
        (t.hangs ns (among-front d.reads _ ns (among-back (expr_signals on) _ ns within)) p v a)
        (u.hangs ns (among-back d.reads _ ns (among-back (expr_signals on) _ ns within)) p v a);
    written = λ p q h. either-same (λ (x : Progress). x.written q) (is_true ss on p.now) (d.run ss p) (e.run ss p) _ (t.written p q (apart-front d.targets _ q h)) (u.written p q (apart-back d.targets _ q h));
    pending = λ p q h. either-same (λ (x : Progress). x.pending q) (is_true ss on p.now) (d.run ss p) (e.run ss p) _ (t.pending p q (apart-front d.later_targets _ q h)) (u.pending p q (apart-back d.later_targets _ q h));
  }

  tame-more : (d : Doing) (ds : List Doing) → Tame d → Tame (sequence ds) → Tame (sequence (d ∷ ds))
  tame-more d ds t more = record {
    hangs = λ ns within p u a. more.hangs ns (among-back d.reads _ ns within) (d.run ss p) (d.run ss u) (t.hangs ns (among-front d.reads _ ns within) p u a);
    written = λ p q h. more.written (d.run ss p) q (apart-back d.targets _ q h) ∙ t.written p q (apart-front d.targets _ q h);
    pending = λ p q h. more.pending (d.run ss p) q (apart-back d.later_targets _ q h) ∙ t.pending p q (apart-front d.later_targets _ q h);
  }

  tame-each : (xs : List Stmt) → ((s : Stmt) → Member xs s → Tame (doing s)) → Tame (sequence (map doing xs))
  tame-each [] h = record { hangs = λ ns within p u a. a; written = λ p q k. refl; pending = λ p q k. refl }
  tame-each (x ∷ xs) h = tame-more (doing x) (map doing xs) (h x (inl refl)) (tame-each xs (λ s m. h s (inr m)))

  abbrev IsTame : Stmt → Type 0
  IsTame s = Tame (doing s)

  steps : Steps IsTame
  steps = record {
    block = λ xs h. subst Tame (sym (block-level Doing stmt_doing xs)) (tame-each xs h);
    alone = λ on body h. subst Tame (sym (alone-level Doing stmt_doing on body)) (tame-choice on (doing body) idle h tame-idle);
    either = λ on body other h k. subst Tame (sym (either-level Doing stmt_doing on body other)) (tame-choice on (doing body) (doing other) h k);
    assign = λ to value later. subst Tame (sym (assign-level Doing stmt_doing to value later)) (tame-assignment to value later);
  }

  -- each statement is
  pub stmt-tame : (s : Stmt) → Tame (doing s)
  stmt-tame = by_statement IsTame steps
