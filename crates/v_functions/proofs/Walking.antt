-- What parts of a walk add: the calls of the part, wherever it stands.
use Rattle.std.proofs.Common.{◌≡◌, ℕ, suc, ◌+◌, Bool, false, ◌==◌, List, [], ◌∷◌, ◌++◌, Option, Some, None, refl, sym, ap, ◌∙◌, if◌then◌else◌, append_assoc, arith}
use Rattle.std.proofs.lemmas.Bool.Decides.{nat_tests}
use Rattle.call_circles.specs.declared.calls.Call.{Call}
use Rattle.call_circles.specs.Calls.{first_of}
use Rattle.v_tree.specs.Names.{Name}
use Rattle.v_tree.specs.ExprRules.{called}
use Rattle.v_tree.specs.StmtRules.{range_size, local_size, locals_size}
use Rattle.v_tree.specs.declared.items.VItem.{VItem}
use Rattle.v_tree.specs.declared.items.VLocal.{VLocal}
use Rattle.v_scopes.specs.declared.entry.Entry.{Entry}
use Rattle.v_scopes.specs.declared.entry.Entry.TheVariants as N
use Rattle.v_expr_rules.specs.Seen.{earlier, is_function}
use Rattle.v_expr_rules.specs.Least.{cap}
use Rattle.v_expr_rules.specs.Things.{thing_in}
use Rattle.v_expr_rules.proofs.Saturation.{earlier-none, earlier-assoc}
use Rattle.v_expr_rules.proofs.Operands.{sum-of}
use Rattle.v_item_rules.specs.Signals.{range_tokens}
use Rattle.v_rules.specs.Tables.{Numbers}
use Rattle.v_circles.specs.Calls.{call_between}
use Rattle.v_circles.proofs.Circles.{first_of-append}
use Rattle.v_call_sites.specs.Sites.{Site, named_at}
use Rattle.v_functions.specs.declared.walk.Walk.{Walk}
use Rattle.v_functions.specs.Walks.{skipped, comma, locals_skipped, call_to}

-- the calls from the function with a number, by the names of those called
abbrev pub calls_of : Numbers → ℕ → List Site → List Call
calls_of ns n [] = []
calls_of ns n (s ∷ ss) = call_between (Some n) (ns s.name) (cap s.token) ++ calls_of ns n ss

-- the first of them that passes a test
abbrev pub found_in : Numbers → ℕ → (Call → Bool) → List Site → Option ℕ
found_in ns n t ss = first_of t (calls_of ns n ss)

calls-append : (ns : Numbers) (n : ℕ) (ss ts : List Site) → calls_of ns n (ss ++ ts) ≡ calls_of ns n ss ++ calls_of ns n ts
calls-append ns n [] ts = refl
calls-append ns n (s ∷ ss) ts =
    ap (λ (cs : List Call). call_between (Some n) (ns s.name) (cap s.token) ++ cs) (calls-append ns n ss ts)
    ∙ sym (append_assoc (call_between (Some n) (ns s.name) (cap s.token)) (calls_of ns n ss) (calls_of ns n ts))

pub found-append : (ns : Numbers) (n : ℕ) (t : Call → Bool) (ss ts : List Site) → found_in ns n t (ss ++ ts) ≡ earlier (found_in ns n t ss) (found_in ns n t ts)
found-append ns n t ss ts = ap (first_of t) (calls-append ns n ss ts) ∙ first_of-append t (calls_of ns n ss) (calls_of ns n ts)

-- a walk by a function, and the walk behind some calls in it
pub record Passes (ns : Numbers) (n : ℕ) (w v : Walk) (k : ℕ) (ss : List Site) : Type 0 where
  pub from : v.from ≡ n
  pub at : v.at ≡ cap k
  pub calls : (t : Call → Bool) → first_of t v.calls ≡ earlier (first_of t w.calls) (found_in ns n t ss)

-- a part that adds its calls, and one that adds none
pub record Adds (ns : Numbers) (n : ℕ) (f : Walk → Walk) (size : ℕ) (sites : ℕ → List Site) : Type 0 where
  pub each : (w : Walk) (k : ℕ) → w.from ≡ n → w.at ≡ cap k → Passes ns n w (f w) (k + size) (sites k)

pub record Skips (f : Walk → Walk) (size : ℕ) : Type 0 where
  pub from : (w : Walk) → (f w).from ≡ w.from
  pub calls : (w : Walk) → (f w).calls ≡ w.calls
  pub at : (w : Walk) (k : ℕ) → w.at ≡ cap k → (f w).at ≡ cap (k + size)

pub skip : (m size : ℕ) → m ≡ cap size → Skips (skipped m) size
skip m size e = record { from = λ w. refl; calls = λ w. refl; at = λ w k h. sum-of w.at m k size h e }

pub stay : Skips (λ w. w) 0
stay = record { from = λ w. refl; calls = λ w. refl; at = λ w k h. h ∙ ap cap (same k) }
  where
    same : (k : ℕ) → k ≡ k + 0
    same k = omega arith

pub one : Skips (skipped 1) 1
one = skip 1 1 refl

further : (k a b : ℕ) → (k + a) + b ≡ k + (a + b)
further k a b = omega arith

pub skips-then : {f g : Walk → Walk} {a b : ℕ} → Skips f a → Skips g b → Skips (λ w. g (f w)) (a + b)
skips-then {f} {g} {a} {b} h k = record {
  from = λ w. k.from (f w) ∙ h.from w;
  calls = λ w. k.calls (f w) ∙ h.calls w;
  at = λ w m e. k.at (f w) (m + a) (h.at w m e) ∙ ap cap (further m a b);
}

local-tokens : (r : Option ℕ) → 3 + range_tokens r ≡ cap (3 + range_size r)
local-tokens None = refl
local-tokens (Some left) = refl

pub skip-locals : (ls : List VLocal) → Skips (locals_skipped ls) (locals_size ls)
skip-locals [] = stay
skip-locals (l ∷ ls) = skips-then (skip (3 + range_tokens l.range) (local_size l) (local-tokens l.range)) (skip-locals ls)

not-first : (i : ℕ) → (suc i == 0) ≡ false
not-first i = grind (arith, nat_tests)

pub skip-comma : (i : ℕ) → Skips (comma (suc i)) 1
skip-comma i = record {
  from = λ w. ap (λ (v : Walk). v.from) (is w);
  calls = λ w. ap (λ (v : Walk). v.calls) (is w);
  at = λ w k h. ap (λ (v : Walk). v.at) (is w) ∙ one.at w k h;
}
  where
    is : (w : Walk) → comma (suc i) w ≡ skipped 1 w
    is w = ap (λ b. if b then w else skipped 1 w) (not-first i)

module _ (ns : Numbers) (n : ℕ) where
  pub nothing : {f : Walk → Walk} {a : ℕ} → Skips f a → Adds ns n f a (λ k. [])
  nothing {f} {a} h = record {
    each = λ w k from at. record {
      from = h.from w ∙ from;
      at = h.at w k at;
      calls = λ t. ap (first_of t) (h.calls w) ∙ sym (earlier-none (first_of t w.calls));
    };
  }

  -- parts one behind the other
  pub then-adds : {f g : Walk → Walk} {a b : ℕ} {s t : ℕ → List Site} → Adds ns n f a s → Adds ns n g b t → Adds ns n (λ w. g (f w)) (a + b) (λ k. s k ++ t (k + a))
  then-adds {f} {g} {a} {b} {s} {t} h l = record {
    each = λ w k from at.
        let p = h.each w k from at in
        let q = l.each (f w) (k + a) p.from p.at in
        record {
          from = q.from;
          at = q.at ∙ ap cap (further k a b);
          calls = λ x.
              q.calls x
              ∙ ap (λ o. earlier o (found_in ns n x (t (k + a)))) (p.calls x)
              ∙ earlier-assoc (first_of x w.calls) (found_in ns n x (s k)) (found_in ns n x (t (k + a)))
              ∙ ap (earlier (first_of x w.calls)) (sym (found-append ns n x (s k) (t (k + a))));
        };
  }

  -- tokens before a part, and behind it
  pub behind : {f g : Walk → Walk} {a b : ℕ} {t : ℕ → List Site} → Skips f a → Adds ns n g b t → Adds ns n (λ w. g (f w)) (a + b) (λ k. t (k + a))
  behind {f} {g} {a} {b} {t} h l = record {
    each = λ w k from at.
        let q = l.each (f w) (k + a) (h.from w ∙ from) (h.at w k at) in
        record {
          from = q.from;
          at = q.at ∙ ap cap (further k a b);
          calls = λ x. q.calls x ∙ ap (λ (cs : List Call). earlier (first_of x cs) (found_in ns n x (t (k + a)))) (h.calls w);
        };
  }

  pub ahead : {f g : Walk → Walk} {a b : ℕ} {s : ℕ → List Site} → Adds ns n f a s → Skips g b → Adds ns n (λ w. g (f w)) (a + b) s
  ahead {f} {g} {a} {b} {s} h l = record {
    each = λ w k from at.
        let p = h.each w k from at in
        record {
          from = l.from (f w) ∙ p.from;
          at = l.at (f w) (k + a) p.at ∙ ap cap (further k a b);
          calls = λ x. ap (first_of x) (l.calls (f w)) ∙ p.calls x;
        };
  }

  -- the same part, counted and listed otherwise
  pub as-found : {f : Walk → Walk} {a b : ℕ} {s t : ℕ → List Site} → Adds ns n f a s → a ≡ b
      → ((x : Call → Bool) (k : ℕ) → found_in ns n x (s k) ≡ found_in ns n x (t k)) → Adds ns n f b t
  as-found {f} {a} {b} {s} {t} h e same = record {
    each = λ w k from at.
        let p = h.each w k from at in
        record {
          from = p.from;
          at = p.at ∙ ap (λ m. cap (k + m)) e;
          calls = λ x. p.calls x ∙ ap (earlier (first_of x w.calls)) (same x k);
        };
  }

  pub as-listed : {f : Walk → Walk} {a b : ℕ} {s t : ℕ → List Site} → Adds ns n f a s → a ≡ b → ((k : ℕ) → s k ≡ t k) → Adds ns n f b t
  as-listed h e same = as-found h e (λ x k. ap (found_in ns n x) (same k))

  -- a call
  one-call : (name : Name) (o : Option ℕ) → ns name ≡ o → Adds ns n (call_to o) 0 (λ k. record { name = name; token = k } ∷ [])
  one-call name None e = record {
    each = λ w k from at. record {
      from = from;
      at = stay.at w k at;
      calls = λ x. sym (ap (λ (p : Option ℕ). earlier (first_of x w.calls) (first_of x (call_between (Some n) p (cap k) ++ []))) e ∙ earlier-none (first_of x w.calls));
    };
  }
  one-call name (Some to) e = record {
    each = λ w k from at. record {
      from = from;
      at = stay.at w k at;
      calls = λ x.
          first_of-append x w.calls (record { from = Some w.from; to = to; at = w.at } ∷ [])
          ∙ (λ i. earlier (first_of x w.calls) (first_of x (record { from = Some (from i); to = to; at = at i } ∷ [])))
          ∙ ap (λ (p : Option ℕ). earlier (first_of x w.calls) (first_of x (call_between (Some n) p (cap k) ++ []))) (sym e);
    };
  }

  pub name-adds : (name : Name) (items : List VItem) (o : Option Entry)
      → Adds ns n (λ w. if is_function o then call_to (ns name) w else w) 0 (λ k. named_at k (called (thing_in items o) name))
  name-adds name items None = nothing stay
  name-adds name items (Some (N.Value kind left)) = nothing stay
  name-adds name items (Some (N.Memory left)) = nothing stay
  name-adds name items (Some (N.Function left item)) = one-call name (ns name) refl
  name-adds name items (Some (N.Result left item)) = one-call name (ns name) refl
  name-adds name items (Some N.Part) = nothing stay
