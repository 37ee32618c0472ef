-- Where the calls of the functions of a module lead, and the first one that leads back.
use Rattle.std.proofs.Common.{◌≡◌, ℕ, suc, ◌+◌, ◌≤◌, ◌<◌, ◌==◌, Bool, true, false, ◌||◌, ◌&&◌, List, [], ◌∷◌, ◌++◌, length, Option, Some, None, is_some, refl, sym, ap, ◌∙◌, if◌then◌else◌, arith}
use Rattle.std.specs.List.{list_any}
use Rattle.std.specs.Str.{bytes_eq}
use Rattle.std.proofs.Math.Bool.{and-false, or-false}
use Rattle.std.proofs.lemmas.Bool.{true≢false, eq-eqb, eqb-true, false_from_ne_true}
use Rattle.std.proofs.lemmas.List.Folds.{list_any-append}
use Rattle.call_circles.specs.declared.calls.Call.{Call}
use Rattle.call_circles.specs.Calls.{goes_to, leads_to, is_broken, lesser_if, first_of, first_broken}
use Rattle.v_tree.specs.Names.{Name}
use Rattle.v_tree.specs.Scopes.{Scope, Declared, is_declared, repeated, function, bits_of}
use Rattle.v_tree.specs.ExprRules.{only_if}
use Rattle.v_tree.specs.Rules.{Link, links_of, leads, item_size, items_size, function_size, function_token, input_bits, declared_by, declared_in, function_links}
use Rattle.v_tree.specs.declared.items.VFunction.{VFunction}
use Rattle.v_tree.specs.declared.items.VItem.{VItem}
use Rattle.v_tree.specs.declared.items.VItem.TheVariants as I
use Rattle.v_scopes.specs.Env.{Env}
use Rattle.v_expr_rules.specs.Seen.{plus, earlier, mark}
use Rattle.v_expr_rules.specs.Least.{cap, first}
use Rattle.v_expr_rules.proofs.Saturation.{earlier-none, none-earlier, earlier-assoc, first-append, first-if}
use Rattle.v_stmt_rules.proofs.Declared.{weave, things, afters, first-repeated, first-repeated-append}
use Rattle.v_rules.specs.Tables.{Numbers}
use Rattle.v_rules.proofs.NamesExact.{Rest, rest-first, rest-behind}
use Rattle.v_circles.specs.Calls.{call_between}
use Rattle.v_circles.proofs.Shortest.{same-name}
use Rattle.v_circles.proofs.Numbered.{number-low, number-one, since-new}
use Rattle.v_circles.proofs.Leading.{call-any, both-some}
use Rattle.v_circles.proofs.Circles.{first_of-append, lesser-if}
use Rattle.v_call_sites.specs.Sites.{Site, back}
use Rattle.v_call_sites.proofs.Named.{any_site}
use Rattle.v_call_sites.proofs.Functions.{function-calls}
use Rattle.v_call_sites.proofs.Later.{stmt-later}
use Rattle.v_call_sites.proofs.Linked.{known, call-leads, leads-nowhere}
use Rattle.v_tree.specs.Rules.{function_names}
use Rattle.v_tree.specs.Scopes.{inside}
use Rattle.v_functions.specs.declared.walk.Walk.{Walk}
use Rattle.v_functions.specs.Numbered.{functions_from}
use Rattle.v_functions.specs.Walks.{function_walked}
use Rattle.v_functions.specs.Modules.{items_walked}
use Rattle.v_functions.proofs.Walking.{calls_of, skip}
use Rattle.v_functions.proofs.StmtAdds.{body_at, function_sites, function-adds}

-- the numbers of functions
weaker : (n k : ℕ) → suc n ≤ k → n ≤ k
weaker n k h = omega (arith, h)

functions-low : (n k : ℕ) (is : List VItem) (a : Name) → functions_from n is a ≡ Some k → n ≤ k
functions-low n k [] a e = cc
functions-low n k (I.Signal s ∷ is) a e = weaker n k (functions-low (suc n) k is a e)
functions-low n k (I.Initial x ∷ is) a e = weaker n k (functions-low (suc n) k is a e)
functions-low n k (I.Process p ∷ is) a e = weaker n k (functions-low (suc n) k is a e)
functions-low n k (I.Function f ∷ is) a e = number-low n k (bytes_eq f.name a) (functions_from (suc n) is a) e (functions-low (suc n) k is a)
functions-low n k (I.Instance x ∷ is) a e = weaker n k (functions-low (suc n) k is a e)

functions-one : (n k : ℕ) (is : List VItem) (a b : Name) → functions_from n is a ≡ Some k → functions_from n is b ≡ Some k → a ≡ b
functions-one n k [] a b e f = cc
functions-one n k (I.Signal s ∷ is) a b e f = functions-one (suc n) k is a b e f
functions-one n k (I.Initial x ∷ is) a b e f = functions-one (suc n) k is a b e f
functions-one n k (I.Process p ∷ is) a b e f = functions-one (suc n) k is a b e f
functions-one n k (I.Function g ∷ is) a b e f =
    number-one n k g.name a b (bytes_eq g.name a) (bytes_eq g.name b) (functions_from (suc n) is a) (functions_from (suc n) is b) refl refl e f
    (functions-low (suc n) k is a) (functions-low (suc n) k is b) (functions-one (suc n) k is a b)
functions-one n k (I.Instance x ∷ is) a b e f = functions-one (suc n) k is a b e f

none-links : (n : ℕ) (to rest : List Name) (b : Bool) (o : Option ℕ) → (if b then Some n else o) ≡ None → (o ≡ None → rest ≡ []) → (if b then to else rest) ≡ []
none-links n to rest true o e h = cc
none-links n to rest false o e h = h e

functions-links : (scope : Scope) (n : ℕ) (is : List VItem) (a : Name) → functions_from n is a ≡ None → links_of (function_links scope is) a ≡ []
functions-links scope n [] a e = refl
functions-links scope n (I.Signal s ∷ is) a e = functions-links scope (suc n) is a e
functions-links scope n (I.Initial x ∷ is) a e = functions-links scope (suc n) is a e
functions-links scope n (I.Process p ∷ is) a e = functions-links scope (suc n) is a e
functions-links scope n (I.Function f ∷ is) a e =
    none-links n _ (links_of (function_links scope is) a) (bytes_eq f.name a) (functions_from (suc n) is a) e (functions-links scope (suc n) is a)
functions-links scope n (I.Instance x ∷ is) a e = functions-links scope (suc n) is a e

-- the calls in items, of which the first one begins at a token and has a number
abbrev pub calls_in : Numbers → Scope → ℕ → List VItem → ℕ → List Call
calls_in ns scope n [] at = []
calls_in ns scope n (I.Signal s ∷ is) at = calls_in ns scope (suc n) is (at + item_size (I.Signal s))
calls_in ns scope n (I.Initial x ∷ is) at = calls_in ns scope (suc n) is (at + item_size (I.Initial x))
calls_in ns scope n (I.Process p ∷ is) at = calls_in ns scope (suc n) is (at + item_size (I.Process p))
calls_in ns scope n (I.Function f ∷ is) at = calls_of ns n (function_sites scope f at) ++ calls_in ns scope (suc n) is (at + item_size (I.Function f))
calls_in ns scope n (I.Instance x ∷ is) at = calls_in ns scope (suc n) is (at + item_size (I.Instance x))

-- what the walk over them finds
pub record Found (w v : Walk) (end : ℕ) (cs : List Call) : Type 0 where
  pub at : v.at ≡ cap end
  pub calls : (t : Call → Bool) → first_of t v.calls ≡ earlier (first_of t w.calls) (first_of t cs)

further : (k a b : ℕ) → (k + a) + b ≡ k + (a + b)
further k a b = omega arith

no-more : (k : ℕ) → k ≡ k + 0
no-more k = omega arith

abbrev stepped : Walk → ℕ → Walk
stepped w s = record { from = w.from; at = plus w.at (cap s); calls = w.calls }

shifted : (w v : Walk) (k s m : ℕ) (cs : List Call) → Found (stepped w s) v ((k + s) + m) cs → Found w v (k + (s + m)) cs
shifted w v k s m cs q = record { at = q.at ∙ ap cap (further k s m); calls = q.calls }

step-at : (w : Walk) (k s : ℕ) → w.at ≡ cap k → (stepped w s).at ≡ cap (k + s)
step-at w k s at = (skip (cap s) s refl).at w k at

pub items-walk : (items : List VItem) (ns : Numbers) (env : Env) (n : ℕ) (is : List VItem) (w : Walk) (k : ℕ) → Rest items n is → w.at ≡ cap k
    → Found w (items_walked n is ns env w) (k + items_size is) (calls_in ns (things items env) n is k)
items-walk items ns env n [] w k rest at = record { at = at ∙ ap cap (no-more k); calls = λ t. sym (earlier-none (first_of t w.calls)) }
items-walk items ns env n (I.Signal s ∷ is) w k rest at =
    let i : VItem = I.Signal s in
    let s = item_size i in
    shifted w (items_walked (suc n) is ns env (stepped w s)) k s (items_size is) (calls_in ns (things items env) (suc n) is (k + s))
    (items-walk items ns env (suc n) is (stepped w s) (k + s) (rest-behind items n i is rest) (step-at w k s at))
items-walk items ns env n (I.Initial x ∷ is) w k rest at =
    let i : VItem = I.Initial x in
    let s = item_size i in
    shifted w (items_walked (suc n) is ns env (stepped w s)) k s (items_size is) (calls_in ns (things items env) (suc n) is (k + s))
    (items-walk items ns env (suc n) is (stepped w s) (k + s) (rest-behind items n i is rest) (step-at w k s at))
items-walk items ns env n (I.Process p ∷ is) w k rest at =
    let i : VItem = I.Process p in
    let s = item_size i in
    shifted w (items_walked (suc n) is ns env (stepped w s)) k s (items_size is) (calls_in ns (things items env) (suc n) is (k + s))
    (items-walk items ns env (suc n) is (stepped w s) (k + s) (rest-behind items n i is rest) (step-at w k s at))
items-walk items ns env n (I.Function f ∷ is) w k rest at =
    let scope = things items env in
    let here = calls_of ns n (function_sites scope f k) in
    let there = calls_in ns scope (suc n) is (k + function_size f) in
    let p = function-adds ns n f env items (rest-first items n (I.Function f) is rest) w k at in
    let q = items-walk items ns env (suc n) is (function_walked f n ns env w) (k + function_size f) (rest-behind items n (I.Function f) is rest) p.at in
    record {
      at = q.at ∙ ap cap (further k (function_size f) (items_size is));
      calls = λ t.
          q.calls t
          ∙ ap (λ o. earlier o (first_of t there)) (p.calls t)
          ∙ earlier-assoc (first_of t w.calls) (first_of t here) (first_of t there)
          ∙ ap (earlier (first_of t w.calls)) (sym (first_of-append t here there));
    }
items-walk items ns env n (I.Instance x ∷ is) w k rest at =
    let i : VItem = I.Instance x in
    let s = item_size i in
    shifted w (items_walked (suc n) is ns env (stepped w s)) k s (items_size is) (calls_in ns (things items env) (suc n) is (k + s))
    (items-walk items ns env (suc n) is (stepped w s) (k + s) (rest-behind items n i is rest) (step-at w k s at))

-- whether one of some calls passes a test
some-first : (b : Bool) (a : ℕ) (o : Option ℕ) (r : Bool) → r ≡ is_some o → (b || r) ≡ is_some (lesser_if b a o)
some-first true a None r e = refl
some-first true a (Some x) r e = refl
some-first false a o r e = e

any-first : (t : Call → Bool) (cs : List Call) → list_any t cs ≡ is_some (first_of t cs)
any-first t [] = refl
any-first t (c ∷ cs) = some-first (t c) c.at (first_of t cs) (list_any t cs) (any-first t cs)

-- the calls of one function that go to what passes a test
own-any : (ns : Numbers) (g : ℕ → Bool) (r n : ℕ) (ss : List Site) → list_any (goes_to g r) (calls_of ns n ss) ≡ ((n == r) && any_site (λ c. known g (ns c)) ss)
own-any ns g r n [] = sym (and-false (n == r))
own-any ns g r n (s ∷ ss) =
    call-any g r n (ns s.name) (cap s.token) (calls_of ns n ss)
    ∙ ap (λ b. ((n == r) && known g (ns s.name)) || b) (own-any ns g r n ss)
    ∙ both-some (n == r) (known g (ns s.name)) (any_site (λ c. known g (ns c)) ss)

other-any : (ns : Numbers) (g : ℕ → Bool) (r n : ℕ) (ss : List Site) → (n == r) ≡ false → list_any (goes_to g r) (calls_of ns n ss) ≡ false
other-any ns g r n ss e = own-any ns g r n ss ∙ ap (λ b. b && any_site (λ c. known g (ns c)) ss) e

differs : (n r : ℕ) → r < n → (n == r) ≡ false
differs n r low = false_from_ne_true (n == r) (λ e. absurd (omega (arith, low, eqb-true n r e)))

still : (n r : ℕ) → r < n → r < suc n
still n r low = omega (arith, low)

both-none : (t : Call → Bool) (xs ys : List Call) → list_any t xs ≡ false → list_any t ys ≡ false → list_any t (xs ++ ys) ≡ false
both-none t xs ys e f = list_any-append t xs ys ∙ (λ i. e i || f i)

later-any : (ns : Numbers) (scope : Scope) (g : ℕ → Bool) (r n : ℕ) (is : List VItem) (at : ℕ) → r < n → list_any (goes_to g r) (calls_in ns scope n is at) ≡ false
later-any ns scope g r n [] at low = refl
later-any ns scope g r n (I.Signal s ∷ is) at low = later-any ns scope g r (suc n) is (at + item_size (I.Signal s)) (still n r low)
later-any ns scope g r n (I.Initial x ∷ is) at low = later-any ns scope g r (suc n) is (at + item_size (I.Initial x)) (still n r low)
later-any ns scope g r n (I.Process p ∷ is) at low = later-any ns scope g r (suc n) is (at + item_size (I.Process p)) (still n r low)
later-any ns scope g r n (I.Function f ∷ is) at low =
    both-none (goes_to g r) (calls_of ns n (function_sites scope f at)) (calls_in ns scope (suc n) is (at + item_size (I.Function f)))
    (other-any ns g r n (function_sites scope f at) (differs n r low)) (later-any ns scope g r (suc n) is (at + item_size (I.Function f)) (still n r low))
later-any ns scope g r n (I.Instance x ∷ is) at low = later-any ns scope g r (suc n) is (at + item_size (I.Instance x)) (still n r low)

-- what goes from a function by its calls is what goes from it by links
any-choice : (n r : ℕ) (k : Name → Bool) (to rest : List Name) (b m x : Bool) (o : Option ℕ) → (if b then Some n else o) ≡ Some r → (n ≡ r → m ≡ list_any k to) → (n ≡ r → x ≡ false)
    → ((n ≡ r → ⊥) → m ≡ false) → (o ≡ Some r → suc n ≤ r) → (o ≡ Some r → x ≡ list_any k rest) → (m || x) ≡ list_any k (if b then to else rest)
any-choice n r k to rest true m x o e own none other low there = let same : n ≡ r = cc in (λ i. own same i || none same i) ∙ or-false (list_any k to)
any-choice n r k to rest false m x o e own none other low there = (λ i. other (λ same. omega (arith, same, low e)) i || there e i)

links-any : (ns : Numbers) (scope : Scope) (g : ℕ → Bool) (a : Name) (r n : ℕ) (is : List VItem) (at : ℕ) → functions_from n is a ≡ Some r
    → list_any (goes_to g r) (calls_in ns scope n is at) ≡ list_any (λ c. known g (ns c)) (links_of (function_links scope is) a)
links-any ns scope g a r n [] at e = cc
links-any ns scope g a r n (I.Signal s ∷ is) at e = links-any ns scope g a r (suc n) is (at + item_size (I.Signal s)) e
links-any ns scope g a r n (I.Initial x ∷ is) at e = links-any ns scope g a r (suc n) is (at + item_size (I.Initial x)) e
links-any ns scope g a r n (I.Process p ∷ is) at e = links-any ns scope g a r (suc n) is (at + item_size (I.Process p)) e
links-any ns scope g a r n (I.Function f ∷ is) at e =
    let here = calls_of ns n (function_sites scope f at) in
    let there = calls_in ns scope (suc n) is (at + item_size (I.Function f)) in
    let k : Name → Bool = λ c. known g (ns c) in
    list_any-append (goes_to g r) here there
    ∙ any-choice n r k _ (links_of (function_links scope is) a) (bytes_eq f.name a) (list_any (goes_to g r) here) (list_any (goes_to g r) there) (functions_from (suc n) is a) e
    (λ same. own-any ns g r n (function_sites scope f at) ∙ ap (λ b. b && any_site k (function_sites scope f at)) (eq-eqb n r same) ∙ function-calls k scope f at)
    (λ same. later-any ns scope g r (suc n) is (at + item_size (I.Function f)) (omega (arith, same)))
    (λ differ. other-any ns g r n (function_sites scope f at) (false_from_ne_true (n == r) (λ t. absurd (differ (eqb-true n r t)))))
    (functions-low (suc n) r is a)
    (links-any ns scope g a r (suc n) is (at + item_size (I.Function f)))
links-any ns scope g a r n (I.Instance x ∷ is) at e = links-any ns scope g a r (suc n) is (at + item_size (I.Instance x)) e

-- the calls of functions that lead back, by the rules
abbrev pub items_back : Scope → List Link → List VItem → ℕ → List ℕ
items_back scope ls [] at = []
items_back scope ls (I.Signal s ∷ is) at = items_back scope ls is (at + item_size (I.Signal s))
items_back scope ls (I.Initial x ∷ is) at = items_back scope ls is (at + item_size (I.Initial x))
items_back scope ls (I.Process p ∷ is) at = items_back scope ls is (at + item_size (I.Process p))
items_back scope ls (I.Function f ∷ is) at =
    back (λ g. leads (length ls) ls g f.name) (function_sites scope f at) ++ items_back scope ls is (at + item_size (I.Function f))
items_back scope ls (I.Instance x ∷ is) at = items_back scope ls is (at + item_size (I.Instance x))

-- of the functions from one on, where these names stand before it
record Since (ns : Numbers) (n : ℕ) (before : List Declared) (is : List VItem) : Type 0 where
  new : (a : Name) → is_declared before a ≡ false → ns a ≡ functions_from n is a

or-second : (b d : Bool) → (if b then true else d) ≡ false → d ≡ false
or-second true d e = absurd (true≢false e)
or-second false d e = e

before-declared : (ds before : List Declared) (a : Name) → is_declared (afters ds before) a ≡ false → is_declared before a ≡ false
before-declared [] before a e = e
before-declared (d ∷ ds) before a e = or-second (bytes_eq d.name a) (is_declared before a) (before-declared ds (d ∷ before) a e)

-- two lists of tokens that no name comes before, and more of them
pass : (b r c f x : Option ℕ) → x ≡ earlier b r → earlier r c ≡ earlier r f → earlier x c ≡ earlier x f
pass b r c f x e h =
    ap (λ o. earlier o c) e ∙ earlier-assoc b r c ∙ ap (earlier b) h ∙ sym (earlier-assoc b r f) ∙ ap (λ o. earlier o f) (sym e)

pass-two : (b r c cs f fs x y z : Option ℕ) → x ≡ earlier b r → y ≡ earlier c cs → z ≡ earlier f fs → earlier b c ≡ earlier b f → earlier r cs ≡ earlier r fs → earlier x y ≡ earlier x z
pass-two b r c cs f fs x y z e g h one more =
    (λ i. earlier (e i) (g i)) ∙ weave b r c cs ∙ (λ i. earlier (one i) (more i)) ∙ sym (weave b r f fs) ∙ (λ i. earlier (sym e i) (sym h i))

token-before : (f : VFunction) (at : ℕ) → function_token f at ≤ body_at f at
token-before f at = omega arith

module _ (items : List VItem) (scope : Scope) (begin : ℕ) (cs : List Call) (same : (t : Call → Bool) → first_of t cs ≡ first_of t (calls_in (functions_from 0 items) scope 0 items begin)) where
  abbrev ns : Numbers
  ns = functions_from 0 items

  abbrev ls : List Link
  ls = function_links scope items

  abbrev is_back : Call → Bool
  is_back = is_broken cs []

  calls-are : (g : ℕ → Bool) (a : Name) (r : ℕ) → ns a ≡ Some r → list_any (goes_to g r) cs ≡ list_any (λ c. known g (ns c)) (links_of ls a)
  calls-are g a r e =
      any-first (goes_to g r) cs
      ∙ ap is_some (same (goes_to g r))
      ∙ sym (any-first (goes_to g r) (calls_in ns scope 0 items begin))
      ∙ links-any ns scope g a r 0 items begin e

  one-name : (a b : Name) (k : ℕ) → ns a ≡ Some k → ns b ≡ Some k → a ≡ b
  one-name a b k e f = functions-one 0 k items a b e f

  known-back : (a b : Name) (y : ℕ) (o : Option ℕ) → ns a ≡ o → ns b ≡ Some y → known (λ to. leads_to cs to y) o ≡ leads (length ls) ls a b
  known-back a b y None e f = sym (leads-nowhere ls cs ns one-name calls-are (functions-links scope 0 items) (length ls) a b y e f)
  known-back a b y (Some x) e f = call-leads ls cs ns one-name calls-are (functions-links scope 0 items) a b x y e f

  -- the calls of a function that lead back to its number
  abbrev back_to : ℕ → Name → Bool
  back_to n g = known (λ to. leads_to cs to n) (ns g)

  site-first : (n t : ℕ) (o : Option ℕ) (rest : List Call) → first_of is_back (call_between (Some n) o t ++ rest) ≡ earlier (mark (known (λ to. leads_to cs to n) o) t) (first_of is_back rest)
  site-first n t None rest = sym (none-earlier (first_of is_back rest))
  site-first n t (Some to) rest = lesser-if (leads_to cs to n) t (first_of is_back rest)

  sites-first : (n : ℕ) (ss : List Site) → first_of is_back (calls_of ns n ss) ≡ first (back (back_to n) ss)
  sites-first n [] = refl
  sites-first n (s ∷ ss) =
      site-first n (cap s.token) (ns s.name) (calls_of ns n ss)
      ∙ (λ i. earlier (sym (first-if (back_to n s.name) s.token) i) (sites-first n ss i))
      ∙ sym (first-append (only_if (back_to n s.name) s.token) (back (back_to n) ss))

  function-first : (f : VFunction) (n at : ℕ) → ns f.name ≡ Some n
      → first_of is_back (calls_of ns n (function_sites scope f at)) ≡ first (back (λ g. leads (length ls) ls g f.name) (function_sites scope f at))
  function-first f n at e =
      sites-first n (function_sites scope f at) ∙ ap (λ (b : Name → Bool). first (back b (function_sites scope f at))) (λ i g. known-back g f.name n (ns g) refl e i)

  -- a function whose name stands before, and another one
  behind-name : (f : VFunction) (at : ℕ) (b : Name → Bool) → earlier (Some (cap (function_token f at))) (first (back b (function_sites scope f at))) ≡ Some (cap (function_token f at))
  behind-name f at b = stmt-later f.body (function_token f at) b (inside (function_names f at) scope) (body_at f at) (token-before f at)

  one-function : (f : VFunction) (n at : ℕ) (before : List Declared) (is : List VItem) (d : Bool) → Since ns n before (I.Function f ∷ is) → is_declared before f.name ≡ d
      → earlier (mark d (cap (function_token f at))) (first (back (λ g. leads (length ls) ls g f.name) (function_sites scope f at)))
      ≡ earlier (mark d (cap (function_token f at))) (first_of is_back (calls_of ns n (function_sites scope f at)))
  one-function f n at before is true h e =
      behind-name f at (λ g. leads (length ls) ls g f.name)
      ∙ sym (behind-name f at (back_to n))
      ∙ ap (earlier (Some (cap (function_token f at)))) (sym (sites-first n (function_sites scope f at)))
  one-function f n at before is false h e =
      ap (earlier None)
      (sym (function-first f n at (h.new f.name e ∙ ap (λ b. if b then Some n else functions_from (suc n) is f.name) (same-name f.name))))

  abbrev Same : ℕ → List Declared → List VItem → ℕ → Type 0
  Same n before is at =
      earlier (first (repeated before (declared_in is at))) (first (items_back scope ls is at))
      ≡ earlier (first (repeated before (declared_in is at))) (first_of is_back (calls_in ns scope n is at))

  -- one item more, which is no function
  other-same : (n at s : ℕ) (before ds : List Declared) (is : List VItem) → ((a : Name) → is_declared before a ≡ false → ns a ≡ functions_from (suc n) is a)
      → (Since ns (suc n) (afters ds before) is → Same (suc n) (afters ds before) is (at + s))
      → earlier (first (repeated before (ds ++ declared_in is (at + s)))) (first (items_back scope ls is (at + s)))
      ≡ earlier (first (repeated before (ds ++ declared_in is (at + s)))) (first_of is_back (calls_in ns scope (suc n) is (at + s)))
  other-same n at s before ds is new rest =
      pass (first (repeated before ds)) (first (repeated (afters ds before) (declared_in is (at + s)))) (first (items_back scope ls is (at + s)))
      (first_of is_back (calls_in ns scope (suc n) is (at + s))) (first (repeated before (ds ++ declared_in is (at + s)))) (first-repeated-append before ds (declared_in is (at + s)))
      (rest (record { new = λ a e. new a (before-declared ds before a e) }))

  items-same : (n : ℕ) (before : List Declared) (is : List VItem) (at : ℕ) → Since ns n before is → Same n before is at
  items-same n before [] at h = refl
  items-same n before (I.Signal s ∷ is) at h =
      other-same n at (item_size (I.Signal s)) before (declared_by (I.Signal s) at) is h.new
      (items-same (suc n) (afters (declared_by (I.Signal s) at) before) is (at + item_size (I.Signal s)))
  items-same n before (I.Initial x ∷ is) at h =
      other-same n at (item_size (I.Initial x)) before (declared_by (I.Initial x) at) is h.new
      (items-same (suc n) (afters (declared_by (I.Initial x) at) before) is (at + item_size (I.Initial x)))
  items-same n before (I.Process p ∷ is) at h =
      other-same n at (item_size (I.Process p)) before (declared_by (I.Process p) at) is h.new
      (items-same (suc n) (afters (declared_by (I.Process p) at) before) is (at + item_size (I.Process p)))
  items-same n before (I.Function f ∷ is) at h =
      let end = at + item_size (I.Function f) in
      let d : Declared = record { name = f.name; token = function_token f at; thing = function (bits_of f.range) (input_bits f) } in
      let b = mark (is_declared before f.name) (cap (function_token f at)) in
      let sites = function_sites scope f at in
      let tokens = back (λ g. leads (length ls) ls g f.name) sites in
      let next : Since ns (suc n) (d ∷ before) is = record {
        new = λ a e. since-new n (ns a) (functions_from (suc n) is a) (bytes_eq f.name a) (is_declared before a) e (h.new a);
      } in
      pass-two b (first (repeated (d ∷ before) (declared_in is end))) (first tokens) (first (items_back scope ls is end)) (first_of is_back (calls_of ns n sites))
      (first_of is_back (calls_in ns scope (suc n) is end)) (first (repeated before (d ∷ declared_in is end))) (first (tokens ++ items_back scope ls is end))
      (first_of is_back (calls_of ns n sites ++ calls_in ns scope (suc n) is end)) (first-repeated before d (declared_in is end)) (first-append tokens (items_back scope ls is end))
      (first_of-append is_back (calls_of ns n sites) (calls_in ns scope (suc n) is end)) (one-function f n at before is (is_declared before f.name) h refl)
      (items-same (suc n) (d ∷ before) is end next)
  items-same n before (I.Instance x ∷ is) at h =
      other-same n at (item_size (I.Instance x)) before (declared_by (I.Instance x) at) is h.new
      (items-same (suc n) (afters (declared_by (I.Instance x) at) before) is (at + item_size (I.Instance x)))

  -- the first call that leads back by the calls and by the rules, behind the names of the module
  pub circle-first : earlier (first (repeated [] (declared_in items begin))) (first (items_back scope ls items begin))
      ≡ earlier (first (repeated [] (declared_in items begin))) (first_broken cs [])
  circle-first =
      items-same 0 [] items begin (record { new = λ a e. refl }) ∙ ap (earlier (first (repeated [] (declared_in items begin)))) (sym (same is_back))
