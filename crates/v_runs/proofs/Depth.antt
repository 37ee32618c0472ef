-- Instances are no deeper than there are modules.
use Rattle.std.proofs.Common.{◌≡◌, ◌⊎◌, ℕ, zero, suc, ◌+◌, ◌≤◌, Bool, true, false, cond, ◌||◌, List, [], ◌∷◌, ◌++◌, length, map, Option, Some, None, refl, sym, ap, ◌∙◌, subst, inl, inr, if◌then◌else◌, arith}
use Rattle.std.proofs.lemmas.Bool.{or_cases, or_left, or_right, false≢true}
use Rattle.std.proofs.lemmas.List.{length-map}
use Rattle.std.proofs.lemmas.Slice.Eq.{bytes_eq-Decides}
use Rattle.std.specs.List.{list_any}
use Rattle.std.specs.Str.{bytes_eq}
use Rattle.v_tree.specs.Names.{Name, among}
use Rattle.v_tree.specs.ExprRules.{Around, only_if}
use Rattle.v_tree.specs.Rules.{Link, links_of, leads, instantiated, module_links, module_named, module_names, item_broken, items_broken, item_size, child_broken, module_broken, modules_broken, module_size, listed_ports, unlisted, undeclared, ports_size, declared_in, ports_of}
use Rattle.v_tree.specs.Scopes as D
use Rattle.v_tree.specs.Scopes.{repeated}
use Rattle.v_tree.specs.declared.items.VInstance.{VInstance}
use Rattle.v_tree.specs.declared.items.VItem.{VItem}
use Rattle.v_tree.specs.declared.items.VItem.TheVariants as I
use Rattle.v_tree.specs.declared.items.VModule.{VModule}
use Rattle.v_tree.proofs.Induction.{Each}
use Rattle.v_meaning.specs.Modules.{items_of}
use Rattle.v_exec.proofs.KeptExprs.{left-none, right-none, not-if}
use Rattle.v_runs.specs.Depths.{Shallow, NeverDeeper}

-- names
equal : (a b : Name) → bytes_eq a b ≡ true → a ≡ b
equal a b e = (bytes_eq-Decides a b).0 e

same : (a : Name) → bytes_eq a a ≡ true
same a = (bytes_eq-Decides a a).1 refl

-- a list without the first of a name
without-if : Bool → Name → List Name → List Name → List Name
without-if true x xs rest = xs
without-if false x xs rest = x ∷ rest

abbrev without : Name → List Name → List Name
without c [] = []
without c (x ∷ xs) = without-if (bytes_eq x c) x xs (without c xs)

one-if : (b : Bool) (x : Name) (xs rest : List Name) → (b ≡ false → length xs ≡ suc (length rest)) → suc (length xs) ≡ suc (length (without-if b x xs rest))
unfolding without-if
one-if true x xs rest h = refl
one-if false x xs rest h = ap suc (h refl)

one-less : (c : Name) (xs : List Name) → among xs c ≡ true → length xs ≡ suc (length (without c xs))
one-less c [] h = absurd (cc)
one-less c (x ∷ xs) h = one-if (bytes_eq x c) x xs (without c xs) (λ e. one-less c xs (ap (λ b. b || among xs c) (sym e) ∙ h))

kept-here : (c x y : Name) (b : Bool) (xs rest : List Name) → bytes_eq x c ≡ b → bytes_eq x y ≡ true → (c ≡ y) ⊎ (among (without-if b x xs rest) y ≡ true)
unfolding without-if
kept-here c x y true xs rest e h = inl (sym (equal x c e) ∙ equal x y h)
kept-here c x y false xs rest e h = inr (or_left (bytes_eq x y) (among rest y) h)

kept-behind : (c x y : Name) (b : Bool) (xs rest : List Name) → among xs y ≡ true → (c ≡ y) ⊎ (among rest y ≡ true) → (c ≡ y) ⊎ (among (without-if b x xs rest) y ≡ true)
unfolding without-if
kept-behind c x y true xs rest h k = inr h
kept-behind c x y false xs rest h (inl e) = inl e
kept-behind c x y false xs rest h (inr g) = inr (or_right (bytes_eq x y) (among rest y) g)

-- each but that one is left
others : (c y : Name) (xs : List Name) → among xs y ≡ true → (c ≡ y) ⊎ (among (without c xs) y ≡ true)
others c y [] h = absurd (cc)
others c y (x ∷ xs) h =
    elim (or_cases (bytes_eq x y) (among xs y) h) [
      | inl e ↦ kept-here c x y (bytes_eq x c) xs (without c xs) refl e
      | inr g ↦ kept-behind c x y (bytes_eq x c) xs (without c xs) g (others c y xs g)
    ]

-- ways
any-mono : (f g : Name → Bool) (xs : List Name) → ((c : Name) → f c ≡ true → g c ≡ true) → list_any f xs ≡ true → list_any g xs ≡ true
any-mono f g [] h k = absurd (cc)
any-mono f g (x ∷ xs) h k =
    elim (or_cases (f x) (list_any f xs) k) [
      | inl e ↦ or_left (g x) (list_any g xs) (h x e)
      | inr r ↦ or_right (g x) (list_any g xs) (any-mono f g xs h r)
    ]

any-at : (f : Name → Bool) (c : Name) (xs : List Name) → among xs c ≡ true → f c ≡ true → list_any f xs ≡ true
any-at f c [] h k = absurd (cc)
any-at f c (x ∷ xs) h k =
    elim (or_cases (bytes_eq x c) (among xs c) h) [
      | inl e ↦ or_left (f x) (list_any f xs) (ap f (equal x c e) ∙ k)
      | inr r ↦ or_right (f x) (list_any f xs) (any-at f c xs r k)
    ]

here : (k : ℕ) (ls : List Link) (a b : Name) → bytes_eq a b ≡ true → leads k ls a b ≡ true
here zero ls a b e = e
here (suc k) ls a b e = or_left (bytes_eq a b) (list_any (λ c. leads k ls c b) (links_of ls a)) e

leads-more : (k m : ℕ) (ls : List Link) (a b : Name) → k ≤ m → leads k ls a b ≡ true → leads m ls a b ≡ true
leads-more zero m ls a b le h = here m ls a b h
leads-more (suc k) zero ls a b le h = absurd (omega (arith, le))
leads-more (suc k) (suc m) ls a b le h =
    elim (or_cases (bytes_eq a b) (list_any (λ c. leads k ls c b) (links_of ls a)) h) [
      | inl e ↦ here (suc m) ls a b e
      | inr r ↦ or_right (bytes_eq a b) (list_any (λ c. leads m ls c b) (links_of ls a))
          (any-mono (λ c. leads k ls c b) (λ c. leads m ls c b) (links_of ls a) (λ c g. leads-more k m ls c b (omega (arith, le)) g) r)
    ]

-- one step more at the end
leads-on : (k : ℕ) (ls : List Link) (a b c : Name) → leads k ls a b ≡ true → among (links_of ls b) c ≡ true → leads (suc k) ls a c ≡ true
leads-on zero ls a b c h g =
    or_right (bytes_eq a c) (list_any (λ d. leads 0 ls d c) (links_of ls a)) (any-at (λ d. leads 0 ls d c) c (links_of ls a) (ap (λ n. among (links_of ls n) c) (equal a b h) ∙ g) (same c))
leads-on (suc k) ls a b c h g =
    elim (or_cases (bytes_eq a b) (list_any (λ d. leads k ls d b) (links_of ls a)) h) [
      | inl e ↦ or_right (bytes_eq a c) (list_any (λ d. leads (suc k) ls d c) (links_of ls a))
          (any-at (λ d. leads (suc k) ls d c) c (links_of ls a) (ap (λ n. among (links_of ls n) c) (equal a b e) ∙ g) (here (suc k) ls c c (same c)))
      | inr r ↦ or_right (bytes_eq a c) (list_any (λ d. leads (suc k) ls d c) (links_of ls a))
          (any-mono (λ d. leads k ls d b) (λ d. leads (suc k) ls d c) (links_of ls a) (λ d q. leads-on k ls d b c q g) r)
    ]

-- what is in a module's instances
links-if : (b : Bool) (m : VModule) (links : List Name) (is : List VItem) → links ≡ instantiated is → (if b then instantiated m.items else links) ≡ instantiated (cond b m.items is)
links-if true m links is e = refl
links-if false m links is e = e

links-are : (ms : List VModule) (name : Name) → links_of (module_links ms) name ≡ instantiated (items_of ms name)
links-are [] name = refl
links-are (m ∷ ms) name = links-if (bytes_eq m.name name) m (links_of (module_links ms) name) (items_of ms name) (links-are ms name)

abbrev names : List VModule → List Name
names ms = map (λ (m : VModule). m.name) ms

-- a child's module is there, and doesn't lead back
abbrev Led : List VModule → Name → Name → Type 0
Led ms p c = (leads (length ms) (module_links ms) c p ≡ false) × (among (names ms) c ≡ true)

present-if : (b : Bool) (m k : VModule) (rest : Option VModule) (others : Bool) → (if b then Some m else rest) ≡ Some k → (rest ≡ Some k → others ≡ true) → (b || others) ≡ true
present-if true m k rest others e h = refl
present-if false m k rest others e h = h e

present : (ms : List VModule) (c : Name) (k : VModule) → module_named ms c ≡ Some k → among (names ms) c ≡ true
present [] c k e = absurd (cc)
present (m ∷ ms) c k e = present-if (bytes_eq m.name c) m k (module_named ms c) (among (names ms) c) e (present ms c k)

child-present : (ms : List VModule) (around : Around) (i : VInstance) (o : Option VModule) (at : ℕ) → module_named ms i.of ≡ o → child_broken around o i at ≡ [] → among (names ms) i.of ≡ true
child-present ms around i None at is none = absurd (cc)
child-present ms around i (Some k) at is none = present ms i.of k is

items-led : (ms : List VModule) (m : VModule) (around : Around) (is : List VItem) (at : ℕ) → items_broken ms m around is at ≡ [] → Each (Led ms m.name) (instantiated is)
items-led ms m around [] at none = tt
items-led ms m around (I.Signal s ∷ is) at none = items-led ms m around is (at + item_size (I.Signal s)) (right-none (item_broken ms m around (I.Signal s) at) (items_broken ms m around is (at + item_size (I.Signal s))) none)
items-led ms m around (I.Initial s ∷ is) at none = items-led ms m around is (at + item_size (I.Initial s)) (right-none (item_broken ms m around (I.Initial s) at) (items_broken ms m around is (at + item_size (I.Initial s))) none)
items-led ms m around (I.Process s ∷ is) at none = items-led ms m around is (at + item_size (I.Process s)) (right-none (item_broken ms m around (I.Process s) at) (items_broken ms m around is (at + item_size (I.Process s))) none)
items-led ms m around (I.Function s ∷ is) at none = items-led ms m around is (at + item_size (I.Function s)) (right-none (item_broken ms m around (I.Function s) at) (items_broken ms m around is (at + item_size (I.Function s))) none)
items-led ms m around (I.Instance s ∷ is) at none =
    let back = leads (length ms) (module_links ms) s.of m.name in
    let own = left-none (item_broken ms m around (I.Instance s) at) (items_broken ms m around is (at + item_size (I.Instance s))) none in (
      (
        not-if back at (left-none (only_if back at) (child_broken around (module_named ms s.of) s at) own),
        child-present ms around s (module_named ms s.of) at refl (right-none (only_if back at) (child_broken around (module_named ms s.of) s at) own),
      ),
      items-led ms m around is (at + item_size (I.Instance s)) (right-none (item_broken ms m around (I.Instance s) at) (items_broken ms m around is (at + item_size (I.Instance s))) none),
    )

module-led : (ms : List VModule) (m : VModule) (at : ℕ) → module_broken ms m at ≡ [] → Each (Led ms m.name) (instantiated m.items)
module-led ms m at none =
    let first = at + (3 + ports_size m.ports) in
    let own = declared_in m.items first in
    let ports = ports_of m.items first in
    let list = listed_ports m.ports (at + 3) in
    let around : Around = record { scope = D.inside own D.nowhere; leads_back = λ f. false } in
    let last = repeated [] own ++ items_broken ms m around m.items first in
    let third = unlisted m.ports ports in
    let second = undeclared ports list in
    let rest = right-none third last (right-none second (third ++ last) (right-none (repeated [] list) (second ++ (third ++ last)) none)) in
    items-led ms m around m.items first (right-none (repeated [] own) (items_broken ms m around m.items first) rest)

led-if : (all : List VModule) (b : Bool) (m : VModule) (is : List VItem) (name : Name) → bytes_eq m.name name ≡ b → Each (Led all m.name) (instantiated m.items) → Each (Led all name) (instantiated is) → Each (Led all name) (instantiated (cond b m.items is))
led-if all true m is name e h g = subst (λ n. Each (Led all n) (instantiated m.items)) (equal m.name name e) h
led-if all false m is name e h g = g

modules-led : (all ms : List VModule) (at : ℕ) (name : Name) → modules_broken all ms at ≡ [] → Each (Led all name) (instantiated (items_of ms name))
modules-led all [] at name none = tt
modules-led all (m ∷ ms) at name none =
    led-if all (bytes_eq m.name name) m (items_of ms name) name refl (module-led all m at (left-none (module_broken all m at) (modules_broken all ms (at + module_size m)) none))
    (modules-led all ms (at + module_size m) name (right-none (module_broken all m at) (modules_broken all ms (at + module_size m)) none))

-- what holds of each name in a list
each-among : (P Q : Name → Type 0) (xs : List Name) → Each Q xs → ((c : Name) → among xs c ≡ true → Q c → P c) → Each P xs
each-among P Q [] h f = tt
each-among P Q (x ∷ xs) h f =
    (f x (or_left (bytes_eq x x) (among xs x) (same x)) h.0, each-among P Q xs h.1 (λ c g q. f c (or_right (bytes_eq x c) (among xs c) g) q))

no-names : (xs : List Name) (c : Name) → length xs ≤ 0 → among xs c ≡ true → ⊥
no-names [] c h g = false≢true g
no-names (x ∷ xs) c h g = omega (arith, h)

module _ (ms : List VModule) (led : (p : Name) → Each (Led ms p) (instantiated (items_of ms p))) where
  -- each module is left, or leads here in so many steps
  abbrev Left : List Name → ℕ → Name → Type 0
  Left left k p = (x : Name) → among (names ms) x ≡ true → (among left x ≡ true) ⊎ (leads k (module_links ms) x p ≡ true)

  child-left : (left : List Name) (k : ℕ) (p c : Name) → Left left k p → k ≤ length ms → Led ms p c → among left c ≡ true
  child-left left k p c h le q =
      elim (h c q.1) [
        | inl g ↦ g
        | inr r ↦ absurd (false≢true (sym q.0 ∙ leads-more k (length ms) (module_links ms) c p le r))
      ]

  next-left : (left : List Name) (k : ℕ) (p c : Name) → Left left k p → among (instantiated (items_of ms p)) c ≡ true → Left (without c left) (suc k) c
  next-left left k p c h inside x there =
      elim (h x there) [
        | inl g ↦ (elim (others c x left g) [
          | inl e ↦ inr (here (suc k) (module_links ms) x c (ap (λ y. bytes_eq y c) (sym e) ∙ same c))
          | inr r ↦ inl r
        ])
        | inr r ↦ inr (leads-on k (module_links ms) x p c r (ap (λ ns. among ns c) (links-are ms p) ∙ inside))
      ]

  levels : (d : ℕ) (left : List Name) (k : ℕ) (p : Name) → Left left k p → length left ≤ d → k + length left ≤ length ms → Shallow (suc d) ms p
  unfolding Shallow
  levels zero left k p h few long =
      each-among (Shallow zero ms) (Led ms p) (instantiated (items_of ms p)) (led p) (λ c inside q. no-names left c few (child-left left k p c h (omega (arith, long)) q))
  levels (suc d) left k p h few long =
      each-among (Shallow (suc d) ms) (Led ms p) (instantiated (items_of ms p)) (led p) (λ c inside q.
      let less = one-less c left (child-left left k p c h (omega (arith, long)) q) in
      levels d (without c left) (suc k) c (next-left left k p c h inside) (omega (arith, few, less)) (omega (arith, long, less)))

  all-levels : (top : Name) → among (names ms) top ≡ true → Shallow (length ms) ms top
  all-levels top there =
      let less = one-less top (names ms) there in
      let many = length-map ms (λ (m : VModule). m.name) in
      let start : Left (without top (names ms)) 0 top = λ x g. elim (others top x (names ms) g) [ inl e ↦ inr (ap (λ y. bytes_eq y top) (sym e) ∙ same top) | inr r ↦ inl r ] in
      subst (λ n. Shallow n ms top) (sym less ∙ many) (levels (length (without top (names ms))) (without top (names ms)) 0 top start (omega arith) (omega (arith, less, many)))

pub never-deeper : NeverDeeper
never-deeper e top keeps there =
    all-levels e.modules (λ p. modules-led e.modules e.modules 0 p (right-none (repeated [] (module_names e.modules 0)) (modules_broken e.modules e.modules 0) keeps)) top there

pub ruleset deep = (never-deeper)
