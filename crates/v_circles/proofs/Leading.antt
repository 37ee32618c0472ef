-- Calls lead where instances do.
use Rattle.std.proofs.Common.{◌≡◌, ℕ, zero, suc, ◌+◌, ◌==◌, Bool, true, false, ◌||◌, ◌&&◌, List, [], ◌∷◌, ◌++◌, length, Option, Some, None, refl, sym, ap, ◌∙◌, if◌then◌else◌, arith}
use Rattle.std.specs.List.{list_any}
use Rattle.std.specs.Str.{bytes_eq}
use Rattle.std.proofs.Math.Bool.{and-false, or-false}
use Rattle.std.proofs.lemmas.Bool.{false≢true, eq-eqb, eqb-true, false_from_ne_true}
use Rattle.std.proofs.lemmas.List.{length-map}
use Rattle.std.proofs.lemmas.List.Folds.{list_any-append}
use Rattle.call_circles.specs.declared.calls.Call.{Call}
use Rattle.call_circles.specs.Calls.{goes_to, reaches, enough, leads_to}
use Rattle.call_circles.proofs.Reaching.{reaches-more}
use Rattle.v_tree.specs.Names.{Name}
use Rattle.v_tree.specs.Scopes.{Declared, is_declared, part}
use Rattle.v_tree.specs.Rules.{links_of, leads, instantiated, module_links, item_size, ports_size, module_size}
use Rattle.v_tree.specs.declared.items.VItem.{VItem}
use Rattle.v_tree.specs.declared.items.VItem.TheVariants as I
use Rattle.v_tree.specs.declared.items.VModule.{VModule}
use Rattle.v_expr_rules.specs.Least.{cap}
use Rattle.v_rules.specs.Tables.{Numbers, no_numbers, numbers_from}
use Rattle.v_circles.specs.Calls.{call_between, own_number}
use Rattle.v_circles.proofs.Shortest.{names-equal, same-name, leads-short, reaches-short}
use Rattle.v_circles.proofs.Numbered.{one-name, no-links, Since, since-begin, since-next, own-repeated, own-first, first-number}
use Rattle.v_circles.proofs.Walking.{calls_in, all_calls}

same_tests : (a b : Bool) → (a ≡ true → b ≡ true) → (b ≡ true → a ≡ true) → a ≡ b
same_tests true b f g = sym (f refl)
same_tests false b f g = sym (false_from_ne_true b (λ e. false≢true (g e)))

some-one : (o : Option ℕ) (x y : ℕ) → o ≡ Some x → o ≡ Some y → x ≡ y
some-one o x y e f = cc

pub both-some : (b c d : Bool) → ((b && c) || (b && d)) ≡ (b && (c || d))
both-some true c d = refl
both-some false c d = refl

if-false : (b : Bool) → false ≡ (if b then false else false)
if-false true = refl
if-false false = refl

-- what holds of a number, if there is one
abbrev known : (ℕ → Bool) → Option ℕ → Bool
known f None = false
known f (Some x) = f x

pub call-any : (f : ℕ → Bool) (r n : ℕ) (o : Option ℕ) (at : ℕ) (rest : List Call)
    → list_any (goes_to f r) (call_between (Some n) o at ++ rest) ≡ (((n == r) && known f o) || list_any (goes_to f r) rest)
call-any f r n None at rest = sym (ap (λ b. b || list_any (goes_to f r) rest) (and-false (n == r)))
call-any f r n (Some to) at rest = refl

pub no-calls : (ns : Numbers) (is : List VItem) (at : ℕ) → calls_in ns None is at ≡ []
no-calls ns [] at = refl
no-calls ns (I.Signal s ∷ is) at = no-calls ns is (at + item_size (I.Signal s))
no-calls ns (I.Initial x ∷ is) at = no-calls ns is (at + item_size (I.Initial x))
no-calls ns (I.Process p ∷ is) at = no-calls ns is (at + item_size (I.Process p))
no-calls ns (I.Function f ∷ is) at = no-calls ns is (at + item_size (I.Function f))
no-calls ns (I.Instance x ∷ is) at = no-calls ns is (at + item_size (I.Instance x))

items-any : (ns : Numbers) (f : ℕ → Bool) (r n : ℕ) (is : List VItem) (at : ℕ)
    → list_any (goes_to f r) (calls_in ns (Some n) is at) ≡ ((n == r) && list_any (λ c. known f (ns c)) (instantiated is))
items-any ns f r n [] at = sym (and-false (n == r))
items-any ns f r n (I.Signal s ∷ is) at = items-any ns f r n is (at + item_size (I.Signal s))
items-any ns f r n (I.Initial x ∷ is) at = items-any ns f r n is (at + item_size (I.Initial x))
items-any ns f r n (I.Process p ∷ is) at = items-any ns f r n is (at + item_size (I.Process p))
items-any ns f r n (I.Function g ∷ is) at = items-any ns f r n is (at + item_size (I.Function g))
items-any ns f r n (I.Instance x ∷ is) at =
    call-any f r n (ns x.of) (cap at) (calls_in ns (Some n) is (at + item_size (I.Instance x)))
    ∙ ap (λ b. ((n == r) && known f (ns x.of)) || b) (items-any ns f r n is (at + item_size (I.Instance x)))
    ∙ both-some (n == r) (known f (ns x.of)) (list_any (λ c. known f (ns c)) (instantiated is))

-- one module more, whose name is the one looked for or isn't
any-step : (k : Name → Bool) (to rest : List Name) (b d m x : Bool) → (b ≡ true → d ≡ true → m ≡ false) → (b ≡ true → d ≡ false → m ≡ list_any k to) → (b ≡ false → m ≡ false)
    → x ≡ (if (if b then true else d) then false else list_any k rest) → (m || x) ≡ (if d then false else list_any k (if b then to else rest))
any-step k to rest true true m x p q r e = λ i. p refl refl i || e i
any-step k to rest true false m x p q r e = (λ i. q refl refl i || e i) ∙ or-false (list_any k to)
any-step k to rest false d m x p q r e = λ i. r refl i || e i

module _ (all : List VModule) where
  abbrev ns : Numbers
  ns = numbers_from 0 all no_numbers

  abbrev pub calls : List Call
  calls = all_calls ns 0 all 0

  -- the calls of a module, which is the first one with its name or isn't
  repeated-any : (n : ℕ) (before : List Declared) (m : VModule) (ms : List VModule) (f : ℕ → Bool) (r at : ℕ) → Since all n before (m ∷ ms) → is_declared before m.name ≡ true
      → list_any (goes_to f r) (calls_in ns (own_number (ns m.name) n) m.items at) ≡ false
  repeated-any n before m ms f r at h e =
      ap (λ o. list_any (goes_to f r) (calls_in ns o m.items at)) (own-repeated all n before m ms h e) ∙ ap (list_any (goes_to f r)) (no-calls ns m.items at)

  first-any : (n : ℕ) (before : List Declared) (m : VModule) (ms : List VModule) (f : ℕ → Bool) (r at : ℕ) → Since all n before (m ∷ ms) → is_declared before m.name ≡ false
      → list_any (goes_to f r) (calls_in ns (own_number (ns m.name) n) m.items at) ≡ ((n == r) && list_any (λ c. known f (ns c)) (instantiated m.items))
  first-any n before m ms f r at h e =
      ap (λ o. list_any (goes_to f r) (calls_in ns o m.items at)) (own-first all n before m ms h e) ∙ items-any ns f r n m.items at

  -- a module with another name has no calls from this number
  other-number : (n : ℕ) (before : List Declared) (m : VModule) (ms : List VModule) (a : Name) (r : ℕ) → Since all n before (m ∷ ms) → is_declared before m.name ≡ false → ns a ≡ Some r
      → bytes_eq m.name a ≡ false → (n == r) ≡ false
  other-number n before m ms a r h e is differ = false_from_ne_true (n == r) (λ t.
      let one : m.name ≡ a = one-name all r m.name a (first-number all n before m ms h e ∙ ap Some (eqb-true n r t)) is in
      false≢true (sym differ ∙ ap (bytes_eq m.name) (sym one) ∙ same-name m.name))

  other-any : (n : ℕ) (before : List Declared) (m : VModule) (ms : List VModule) (f : ℕ → Bool) (a : Name) (r at : ℕ) (d : Bool) → Since all n before (m ∷ ms) → is_declared before m.name ≡ d
      → ns a ≡ Some r → bytes_eq m.name a ≡ false → list_any (goes_to f r) (calls_in ns (own_number (ns m.name) n) m.items at) ≡ false
  other-any n before m ms f a r at true h e is differ = repeated-any n before m ms f r at h e
  other-any n before m ms f a r at false h e is differ =
      first-any n before m ms f r at h e ∙ ap (λ b. b && list_any (λ c. known f (ns c)) (instantiated m.items)) (other-number n before m ms a r h e is differ)

  same-any : (n : ℕ) (before : List Declared) (m : VModule) (ms : List VModule) (f : ℕ → Bool) (a : Name) (r at : ℕ) → Since all n before (m ∷ ms) → ns a ≡ Some r
      → bytes_eq m.name a ≡ true → is_declared before a ≡ false
      → list_any (goes_to f r) (calls_in ns (own_number (ns m.name) n) m.items at) ≡ list_any (λ c. known f (ns c)) (instantiated m.items)
  same-any n before m ms f a r at h is e new =
      let one : m.name ≡ a = names-equal m.name a e in
      let fresh : is_declared before m.name ≡ false = ap (is_declared before) one ∙ new in
      let number : n ≡ r = some-one (ns m.name) n r (first-number all n before m ms h fresh) (ap ns one ∙ is) in
      first-any n before m ms f r at h fresh ∙ ap (λ b. b && list_any (λ c. known f (ns c)) (instantiated m.items)) (eq-eqb n r number)

  modules-any : (n : ℕ) (before : List Declared) (ms : List VModule) (f : ℕ → Bool) (a : Name) (r at : ℕ) → Since all n before ms → ns a ≡ Some r
      → list_any (goes_to f r) (all_calls ns n ms at) ≡ (if is_declared before a then false else list_any (λ c. known f (ns c)) (links_of (module_links ms) a))
  modules-any n before [] f a r at h is = if-false (is_declared before a)
  modules-any n before (m ∷ ms) f a r at h is =
      let here = calls_in ns (own_number (ns m.name) n) m.items (at + (3 + ports_size m.ports)) in
      let rest = all_calls ns (suc n) ms (at + module_size m) in
      let d : Declared = record { name = m.name; token = suc at; thing = part } in
      list_any-append (goes_to f r) here rest
      ∙ any-step (λ c. known f (ns c)) (instantiated m.items) (links_of (module_links ms) a) (bytes_eq m.name a) (is_declared before a)
      (list_any (goes_to f r) here) (list_any (goes_to f r) rest)
      (λ e g. repeated-any n before m ms f r (at + (3 + ports_size m.ports)) h (ap (is_declared before) (names-equal m.name a e) ∙ g))
      (λ e g. same-any n before m ms f a r (at + (3 + ports_size m.ports)) h is e g)
      (λ e. other-any n before m ms f a r (at + (3 + ports_size m.ports)) (is_declared before m.name) h refl is e)
      (modules-any (suc n) (d ∷ before) ms f a r (at + module_size m) (since-next all n before m ms (suc at) h) is)

  -- as many steps lead as far
  same-ends : (a b : Name) (x y : ℕ) → ns a ≡ Some x → ns b ≡ Some y → (x == y) ≡ bytes_eq a b
  same-ends a b x y e f =
      same_tests (x == y) (bytes_eq a b)
      (λ t. ap (bytes_eq a) (sym (one-name all y a b (e ∙ ap Some (eqb-true x y t)) f)) ∙ same-name a)
      (λ t. eq-eqb x y (some-one (ns a) x y e (ap ns (names-equal a b t) ∙ f)))

  differ-ends : (c b : Name) (y : ℕ) → ns c ≡ None → ns b ≡ Some y → bytes_eq c b ≡ false
  differ-ends c b y e f = false_from_ne_true (bytes_eq c b) (λ t. let none : None ≡ Some y = sym e ∙ ap ns (names-equal c b t) ∙ f in cc)

  pub leads-nowhere : (k : ℕ) (c b : Name) (y : ℕ) → ns c ≡ None → ns b ≡ Some y → leads k (module_links all) c b ≡ false
  leads-nowhere zero c b y e f = differ-ends c b y e f
  leads-nowhere (suc k) c b y e f =
      (λ i. differ-ends c b y e f i || list_any (λ d. leads k (module_links all) d b) (no-links all c e i))

  known-leads : (k : ℕ) (c b : Name) (y : ℕ) (o : Option ℕ) → ns c ≡ o → ns b ≡ Some y → ((x : ℕ) → ns c ≡ Some x → reaches calls k x y ≡ leads k (module_links all) c b)
      → known (λ next. reaches calls k next y) o ≡ leads k (module_links all) c b
  known-leads k c b y None e f h = sym (leads-nowhere k c b y e f)
  known-leads k c b y (Some x) e f h = h x e

  reaches-leads : (k : ℕ) (a b : Name) (x y : ℕ) → ns a ≡ Some x → ns b ≡ Some y → reaches calls k x y ≡ leads k (module_links all) a b
  reaches-leads zero a b x y e f = same-ends a b x y e f
  reaches-leads (suc k) a b x y e f =
      (λ i. same-ends a b x y e f i || modules-any 0 [] all (λ next. reaches calls k next y) a x 0 (since-begin all) e i)
      ∙ (λ i. bytes_eq a b || list_any (λ c. known-leads k c b y (ns c) refl f (λ z g. reaches-leads k c b z y g f) i) (links_of (module_links all) a))

  -- a call leads back where its instance does
  pub call-leads : (a b : Name) (x y : ℕ) → ns a ≡ Some x → ns b ≡ Some y → leads_to calls x y ≡ leads (length all) (module_links all) a b
  call-leads a b x y e f =
      let links = module_links all in
      let many : length links ≡ length all = length-map all (λ (m : VModule). record { from = m.name; to = instantiated m.items }) in
      same_tests (leads_to calls x y) (leads (length all) links a b)
      (λ t. ap (λ k. leads k links a b) (sym many) ∙ leads-short (enough calls) links a b (sym (reaches-leads (enough calls) a b x y e f) ∙ t))
      (λ t. reaches-more calls (length calls) (enough calls) x y (omega arith) (reaches-short calls (length all) x y (reaches-leads (length all) a b x y e f ∙ t)))
