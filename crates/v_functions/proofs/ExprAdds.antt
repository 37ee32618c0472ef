-- What expressions and targets add to a walk: their calls.
use Rattle.std.proofs.Common.{◌≡◌, ℕ, suc, ◌+◌, Bool, List, [], ◌∷◌, ◌++◌, map, Option, Some, None, refl, sym, ap, ◌∙◌, subst, arith}
use Rattle.v_tree.specs.Names.{Name}
use Rattle.v_tree.specs.ExprRules.{total, called, extent_size}
use Rattle.v_tree.specs.declared.expressions.VExpr.{VExpr, VExpr-F}
use Rattle.v_tree.specs.declared.expressions.VExtent.{VExtent}
use Rattle.v_tree.specs.declared.expressions.VPrim.{VPrim, VPrim-F}
use Rattle.v_tree.specs.declared.expressions.VSel.{VSel, VSel-F}
use Rattle.v_tree.specs.declared.items.VItem.{VItem}
use Rattle.v_tree.specs.declared.operators.VBinaryOp.{VBinaryOp}
use Rattle.v_tree.specs.declared.statements.VLval.{VLval}
use Rattle.v_tree.proofs.Induction as T
use Rattle.v_scopes.specs.Env.{Env}
use Rattle.v_expr_rules.specs.Seen.{extent_tokens}
use Rattle.v_expr_rules.proofs.Levels as L
use Rattle.v_expr_rules.proofs.Listed.{Each}
use Rattle.v_expr_rules.proofs.Listed.Each.{none, more}
use Rattle.v_stmt_rules.proofs.Declared.{things}
use Rattle.v_rules.specs.Tables.{Numbers}
use Rattle.v_call_sites.specs.Sites.{Sites, named_at, listed_sites, calls_from, sels_sites, calls_along, sel_sites, prim_sites, expr_sites, sites_of, prim_sites_of, sel_sites_of}
use Rattle.v_call_sites.specs.StmtSites.{lval_sites, target_sites}
use Rattle.v_call_sites.proofs.Levels.{at-name, at-concat}
use Rattle.v_functions.specs.Walks.{Step, skipped, each_walked, listed_walked, sel_step, prim_step, expr_step, expr_walked, prim_walked, sel_walked, target_step, target_walked}
use Rattle.v_functions.proofs.Walking.{Adds, Skips, skip, stay, one, skip-comma, nothing, then-adds, behind, ahead, as-listed, name-adds}

-- what names stand for is what they stand for by the rules
pub record Walks (ns : Numbers) (n : ℕ) (f : Step) (s : Sites) : Type 0 where
  pub each : (env : Env) (items : List VItem) → Adds ns n (f ns env) s.size (s.calls (things items env))

next : (k : ℕ) → k + 1 ≡ suc k
next k = omega arith

two-skip : Skips (skipped 2) 2
two-skip = skip 2 2 refl

three-skip : Skips (skipped 3) 3
three-skip = skip 3 3 refl

extent-skip : (e : Option VExtent) → Skips (skipped (1 + extent_tokens e)) (1 + extent_tokens e)
extent-skip None = skip 1 1 refl
extent-skip (Some e) = skip 3 3 refl

decimal-skip : (e : Option VExtent) → Skips (skipped (3 + extent_tokens e)) (3 + extent_tokens e)
decimal-skip None = skip 3 3 refl
decimal-skip (Some e) = skip 5 5 refl

extent-same : (e : Option VExtent) → extent_tokens e ≡ extent_size e
extent-same None = refl
extent-same (Some e) = refl

-- how many tokens the rest of a list has, each item with the comma before it
abbrev rest_sites : List Sites → ℕ
rest_sites ss = total (map (λ (s : Sites). suc s.size) ss)

rest-size : (s : Sites) (ss : List Sites) → s.size + rest_sites ss ≡ listed_sites (s ∷ ss)
rest-size s [] = omega arith
rest-size s (t ∷ ss) = let e : t.size + rest_sites ss ≡ listed_sites (t ∷ ss) = rest-size t ss in omega (arith, e)

module _ (ns : Numbers) (n : ℕ) where
  pub along-adds : (fs : List Step) (ss : List Sites) → Each (Walks ns n) fs ss → (env : Env) (items : List VItem)
      → Adds ns n (each_walked fs ns env) (sels_sites ss) (calls_along ss (things items env))
  along-adds _ _ none env items = nothing ns n stay
  along-adds _ _ (more {x = f} {y = s} {xs = fs} {ys = ss} h hs) env items = then-adds ns n (h.each env items) (along-adds fs ss hs env items)

  rest-adds : (i : ℕ) (fs : List Step) (ss : List Sites) → Each (Walks ns n) fs ss → (env : Env) (items : List VItem)
      → Adds ns n (listed_walked (suc i) fs ns env) (rest_sites ss) (λ k. calls_from ss (things items env) (k + 1))
  rest-adds i _ _ none env items = nothing ns n stay
  rest-adds i _ _ (more {x = f} {y = s} {xs = fs} {ys = ss} h hs) env items =
      as-listed ns n (then-adds ns n (behind ns n (skip-comma i) (h.each env items)) (rest-adds (suc i) fs ss hs env items)) (size s.size (rest_sites ss))
      (λ k. ap (λ m. s.calls (things items env) (k + 1) ++ calls_from ss (things items env) m) (place k s.size))
    where
      size : (a b : ℕ) → (1 + a) + b ≡ suc a + b
      size a b = omega arith

      place : (k a : ℕ) → (k + (1 + a)) + 1 ≡ (k + 1) + suc a
      place k a = omega arith

  -- a list with commas
  pub list-adds : (fs : List Step) (ss : List Sites) → Each (Walks ns n) fs ss → (env : Env) (items : List VItem)
      → Adds ns n (listed_walked 0 fs ns env) (listed_sites ss) (calls_from ss (things items env))
  list-adds _ _ none env items = nothing ns n stay
  list-adds _ _ (more {x = f} {y = s} {xs = fs} {ys = ss} h hs) env items =
      as-listed ns n (then-adds ns n (h.each env items) (rest-adds 0 fs ss hs env items)) (rest-size s ss)
      (λ k. ap (λ m. s.calls (things items env) k ++ calls_from ss (things items env) m) (place k s.size))
    where
      place : (k a : ℕ) → (k + a) + 1 ≡ k + suc a
      place k a = omega arith

  -- a part between tokens
  between : (f : Step) (s : Sites) → Walks ns n f s → (env : Env) (items : List VItem)
      → Adds ns n (λ w. skipped 1 (f ns env (skipped 1 w))) (2 + s.size) (λ k. s.calls (things items env) (suc k))
  between f s h env items =
      as-listed ns n (ahead ns n (behind ns n one (h.each env items)) one) (size s.size) (λ k. ap (s.calls (things items env)) (next k))
    where
      size : (a : ℕ) → (1 + a) + 1 ≡ 2 + a
      size a = omega arith

  first_token : (f : Step) (s : Sites) → Walks ns n f s → (env : Env) (items : List VItem) → Adds ns n (λ w. f ns env (skipped 1 w)) (suc s.size) (λ k. s.calls (things items env) (suc k))
  first_token f s h env items = as-listed ns n (behind ns n one (h.each env items)) (size s.size) (λ k. ap (s.calls (things items env)) (next k))
    where
      size : (a : ℕ) → 1 + a ≡ suc a
      size a = omega arith

  sign-walks : (signed : Bool) (f : Step) (s : Sites) → Walks ns n f s → Walks ns n (prim_step (VPrim-F.Sign signed f)) (prim_sites (VPrim-F.Sign signed s))
  sign-walks signed f s h = record {
    each = λ env items. as-listed ns n (ahead ns n (behind ns n two-skip (h.each env items)) one) (size s.size) (λ k. refl);
  }
    where
      size : (a : ℕ) → (2 + a) + 1 ≡ 3 + a
      size a = omega arith

  name-walks : (name : Name) (fs : List Step) (ss : List Sites) → Each (Walks ns n) fs ss → Walks ns n (prim_step (VPrim-F.Name name fs)) (prim_sites (VPrim-F.Name name ss))
  name-walks name fs ss hs = record {
    each = λ env items. as-listed ns n (behind ns n one (along-adds fs ss hs env items)) (size (sels_sites ss)) (λ k. ap (calls_along ss (things items env)) (next k));
  }
    where
      size : (a : ℕ) → 1 + a ≡ suc a
      size a = omega arith

  call-walks : (name : Name) (fs : List Step) (ss : List Sites) → Each (Walks ns n) fs ss → Walks ns n (prim_step (VPrim-F.Call name fs)) (prim_sites (VPrim-F.Call name ss))
  call-walks name fs ss hs = record {
    each = λ env items.
        as-listed ns n (ahead ns n (then-adds ns n (name-adds ns n name items (env name)) (behind ns n two-skip (list-adds fs ss hs env items))) one) (size (listed_sites ss))
        (λ k. ap (λ m. named_at k (called (things items env name) name) ++ calls_from ss (things items env) m) (place k));
  }
    where
      size : (a : ℕ) → (0 + (2 + a)) + 1 ≡ 3 + a
      size a = omega arith

      place : (k : ℕ) → (k + 0) + 2 ≡ k + 2
      place k = omega arith

  repeat-walks : (count : ℕ) (fs : List Step) (ss : List Sites) → Each (Walks ns n) fs ss → Walks ns n (prim_step (VPrim-F.Repeat count fs)) (prim_sites (VPrim-F.Repeat count ss))
  repeat-walks count fs ss hs = record {
    each = λ env items. as-listed ns n (ahead ns n (behind ns n three-skip (list-adds fs ss hs env items)) two-skip) (size (listed_sites ss)) (λ k. refl);
  }
    where
      size : (a : ℕ) → (3 + a) + 2 ≡ 5 + a
      size a = omega arith

  concat-adds : (fs : List Step) (ss : List Sites) → Each (Walks ns n) fs ss → (env : Env) (items : List VItem)
      → Adds ns n (λ w. skipped 1 (listed_walked 0 fs ns env (skipped 1 w))) (2 + listed_sites ss) (λ k. calls_from ss (things items env) (suc k))
  concat-adds fs ss hs env items =
      as-listed ns n (ahead ns n (behind ns n one (list-adds fs ss hs env items)) one) (size (listed_sites ss)) (λ k. ap (calls_from ss (things items env)) (next k))
    where
      size : (a : ℕ) → (1 + a) + 1 ≡ 2 + a
      size a = omega arith

  binary-walks : (op : VBinaryOp) (f g : Step) (s t : Sites) → Walks ns n f s → Walks ns n g t → Walks ns n (expr_step (VExpr-F.Binary op f g)) (expr_sites (VExpr-F.Binary op s t))
  binary-walks op f g s t h l = record {
    each = λ env items.
        as-listed ns n (then-adds ns n (h.each env items) (behind ns n one (l.each env items))) (size s.size t.size)
        (λ k. ap (λ m. s.calls (things items env) k ++ t.calls (things items env) m) (place k s.size));
  }
    where
      size : (a b : ℕ) → a + (1 + b) ≡ a + suc b
      size a b = omega arith

      place : (k a : ℕ) → (k + a) + 1 ≡ k + suc a
      place k a = omega arith

  choose-walks : (f g e : Step) (s t u : Sites) → Walks ns n f s → Walks ns n g t → Walks ns n e u → Walks ns n (expr_step (VExpr-F.Choose f g e)) (expr_sites (VExpr-F.Choose s t u))
  choose-walks f g e s t u h l m = record {
    each = λ env items.
        let o = things items env in
        as-listed ns n (then-adds ns n (h.each env items) (behind ns n one (then-adds ns n (l.each env items) (behind ns n one (m.each env items))))) (size s.size t.size u.size)
        (λ k i. s.calls o k ++ (t.calls o (second k s.size i) ++ u.calls o (third k s.size t.size i)));
  }
    where
      size : (a b c : ℕ) → a + (1 + (b + (1 + c))) ≡ a + suc (b + suc c)
      size a b c = omega arith

      second : (k a : ℕ) → (k + a) + 1 ≡ k + suc a
      second k a = omega arith

      third : (k a b : ℕ) → (((k + a) + 1) + b) + 1 ≡ k + (suc a + suc b)
      third k a b = omega arith

  decimal-walks : (base : ℕ) (extent : Option VExtent) → Walks ns n (sel_step (VSel-F.Decimal base extent)) (sel_sites (VSel-F.Decimal base extent))
  decimal-walks base extent = record { each = λ env items. as-listed ns n (nothing ns n (decimal-skip extent)) (ap (λ m. 3 + m) (extent-same extent)) (λ k. refl) }

  moving-walks : (f : Step) (s : Sites) (extent : Option VExtent) → Walks ns n f s → Walks ns n (sel_step (VSel-F.Expr f extent)) (sel_sites (VSel-F.Expr s extent))
  moving-walks f s extent h = record {
    each = λ env items.
        as-listed ns n (ahead ns n (behind ns n one (h.each env items)) (extent-skip extent))
        (size s.size (extent_tokens extent) ∙ ap (λ m. 2 + (s.size + m)) (extent-same extent)) (λ k. ap (s.calls (things items env)) (next k));
  }
    where
      size : (a b : ℕ) → (1 + a) + (1 + b) ≡ 2 + (a + b)
      size a b = omega arith

  -- induction
  both : {f g : Step} {s t : Sites} → f ≡ g → s ≡ t → Walks ns n g t → Walks ns n f s
  both {f} {g} {s} {t} e d h = subst (λ (x : Step). Walks ns n x s) (sym e) (subst (λ (y : Sites). Walks ns n g y) (sym d) h)

  abbrev P : VExpr → Type 0
  P x = Walks ns n (expr_walked x) (sites_of x)

  abbrev Q : VPrim → Type 0
  Q x = Walks ns n (prim_walked x) (prim_sites_of x)

  abbrev R : VSel → Type 0
  R x = Walks ns n (sel_walked x) (sel_sites_of x)

  each-expr : (xs : List VExpr) → T.Each P xs → Each (Walks ns n) (map expr_walked xs) (map sites_of xs)
  each-expr [] hs = none
  each-expr (x ∷ xs) hs = more hs.0 (each-expr xs hs.1)

  each-sel : (xs : List VSel) → T.Each R xs → Each (Walks ns n) (map sel_walked xs) (map sel_sites_of xs)
  each-sel [] hs = none
  each-sel (x ∷ xs) hs = more hs.0 (each-sel xs hs.1)

  steps : T.ExprSteps P Q R
  steps = record {
    expr-prim = λ x h. both (L.at-prim expr_step prim_step sel_step x) (L.at-prim expr_sites prim_sites sel_sites x) (record { each = h.each });
    expr-unary = λ op x h.
        both (L.at-unary expr_step prim_step sel_step op x) (L.at-unary expr_sites prim_sites sel_sites op x)
        (record { each = first_token (prim_walked x) (prim_sites_of x) h });
    expr-binary = λ op x y h k.
        both (L.at-binary expr_step prim_step sel_step op x y) (L.at-binary expr_sites prim_sites sel_sites op x y)
        (binary-walks op (prim_walked x) (prim_walked y) (prim_sites_of x) (prim_sites_of y) h k);
    expr-choose = λ on x y g h k.
        both (L.at-choose expr_step prim_step sel_step on x y) (L.at-choose expr_sites prim_sites sel_sites on x y)
        (choose-walks (prim_walked on) (prim_walked x) (prim_walked y) (prim_sites_of on) (prim_sites_of x) (prim_sites_of y) g h k);
    prim-number = λ bits. both (L.at-number expr_step prim_step sel_step bits) (L.at-number expr_sites prim_sites sel_sites bits) (record { each = λ env items. nothing ns n one });
    prim-paren = λ x h.
        both (L.at-paren expr_step prim_step sel_step x) (L.at-paren expr_sites prim_sites sel_sites x) (record { each = between (expr_walked x) (sites_of x) h });
    prim-name = λ name ss hs.
        both (L.at-name expr_step prim_step sel_step name ss) (L.at-name expr_sites prim_sites sel_sites name ss)
        (name-walks name (map sel_walked ss) (map sel_sites_of ss) (each-sel ss hs));
    prim-call = λ name xs hs.
        both (L.at-call expr_step prim_step sel_step name xs) (L.at-call expr_sites prim_sites sel_sites name xs)
        (call-walks name (map expr_walked xs) (map sites_of xs) (each-expr xs hs));
    prim-repeat = λ count xs hs.
        both (L.at-repeat expr_step prim_step sel_step count xs) (L.at-repeat expr_sites prim_sites sel_sites count xs)
        (repeat-walks count (map expr_walked xs) (map sites_of xs) (each-expr xs hs));
    prim-concat = λ xs hs.
        both (L.at-concat expr_step prim_step sel_step xs) (L.at-concat expr_sites prim_sites sel_sites xs)
        (record { each = concat-adds (map expr_walked xs) (map sites_of xs) (each-expr xs hs) });
    prim-sign = λ signed x h.
        both (L.at-sign expr_step prim_step sel_step signed x) (L.at-sign expr_sites prim_sites sel_sites signed x) (sign-walks signed (expr_walked x) (sites_of x) h);
    sel-decimal = λ base extent.
        both (L.at-decimal expr_step prim_step sel_step base extent) (L.at-decimal expr_sites prim_sites sel_sites base extent) (decimal-walks base extent);
    sel-expr = λ x extent h.
        both (L.at-moving expr_step prim_step sel_step x extent) (L.at-moving expr_sites prim_sites sel_sites x extent) (moving-walks (expr_walked x) (sites_of x) extent h);
  }

  pub expr-adds : (x : VExpr) → Walks ns n (expr_walked x) (sites_of x)
  expr-adds = T.ind-expr P Q R steps

  pub exprs-adds : (xs : List VExpr) → Each (Walks ns n) (map expr_walked xs) (map sites_of xs)
  exprs-adds [] = none
  exprs-adds (x ∷ xs) = more (expr-adds x) (exprs-adds xs)

  sel-adds : (x : VSel) → Walks ns n (sel_walked x) (sel_sites_of x)
  sel-adds = T.ind-sel P Q R steps

  sels-adds : (xs : List VSel) → Each (Walks ns n) (map sel_walked xs) (map sel_sites_of xs)
  sels-adds [] = none
  sels-adds (x ∷ xs) = more (sel-adds x) (sels-adds xs)

  -- targets
  abbrev Z : VLval → Type 0
  Z x = Walks ns n (target_walked x) (target_sites x)

  each-lval : (xs : List VLval) → T.Each Z xs → Each (Walks ns n) (map target_walked xs) (map target_sites xs)
  each-lval [] hs = none
  each-lval (x ∷ xs) hs = more hs.0 (each-lval xs hs.1)

  pub target-adds : (x : VLval) → Walks ns n (target_walked x) (target_sites x)
  target-adds = T.ind-lval Z (record {
    lval-name = λ name ss.
        both (at-name target_step name ss) (at-name lval_sites name ss)
        (record { each = (name-walks name (map sel_walked ss) (map sel_sites_of ss) (sels-adds ss)).each });
    lval-concat = λ ls hs.
        both (at-concat target_step ls) (at-concat lval_sites ls)
        (record { each = concat-adds (map target_walked ls) (map target_sites ls) (each-lval ls hs) });
  })
