-- The least token of a call that leads back is the first instance that does, as long as no module is repeated before.
use Rattle.std.proofs.Common.{◌≡◌, ℕ, suc, ◌+◌, ◌≤◌, min, Bool, true, false, nat_lt, cond, List, [], ◌∷◌, ◌++◌, length, Option, Some, None, refl, sym, ap, ◌∙◌, arith}
use Rattle.std.proofs.lemmas.Bool.{ltb-true, ltb-false}
use Rattle.call_circles.specs.declared.calls.Call.{Call}
use Rattle.call_circles.specs.Calls.{leads_to, is_broken, lesser, lesser_if, first_of, first_broken}
use Rattle.v_tree.specs.Scopes.{Declared, is_declared, repeated, part}
use Rattle.v_tree.specs.ExprRules.{only_if}
use Rattle.v_tree.specs.Rules.{item_size, ports_size, module_size, leads, module_links, module_names}
use Rattle.v_tree.specs.declared.items.VItem.{VItem}
use Rattle.v_tree.specs.declared.items.VItem.TheVariants as I
use Rattle.v_tree.specs.declared.items.VModule.{VModule}
use Rattle.v_expr_rules.specs.Seen.{earlier, mark}
use Rattle.v_expr_rules.specs.Least.{cap, first}
use Rattle.v_expr_rules.proofs.Saturation.{earlier-none, none-earlier, earlier-assoc, first-append, first-if}
use Rattle.v_stmt_rules.proofs.Declared.{weave, first-repeated}
use Rattle.v_rules.specs.Tables.{Numbers, no_numbers, numbers_from}
use Rattle.v_circles.specs.Calls.{call_between, own_number}
use Rattle.v_circles.specs.Plain.{item_circle}
use Rattle.v_circles.proofs.Numbered.{Since, since-begin, since-next, own-repeated, own-first, first-number}
use Rattle.v_circles.proofs.Walking.{calls_in, all_calls}
use Rattle.v_circles.proofs.Leading.{calls, no-calls, leads-nowhere, call-leads}

-- the instances of a module that lead back to it, and those of all modules
abbrev pub items_circle : List VModule → VModule → List VItem → ℕ → List ℕ
items_circle all m [] at = []
items_circle all m (i ∷ is) at = item_circle all m i at ++ items_circle all m is (at + item_size i)

abbrev pub modules_circle : List VModule → List VModule → ℕ → List ℕ
modules_circle all [] at = []
modules_circle all (m ∷ ms) at = items_circle all m m.items (at + (3 + ports_size m.ports)) ++ modules_circle all ms (at + module_size m)

-- the lesser one of two tokens
lesser-is : (a b : ℕ) (t : Bool) → nat_lt b a ≡ t → cond t b a ≡ min a b
lesser-is a b true e = omega (arith, ltb-true b a e)
lesser-is a b false e = omega (arith, ltb-false b a e)

lesser-earlier : (a : ℕ) (o : Option ℕ) → lesser a o ≡ earlier (Some a) o
unfolding earlier
lesser-earlier a None = refl
lesser-earlier a (Some b) = ap Some (lesser-is a b (nat_lt b a) refl)

pub lesser-if : (b : Bool) (a : ℕ) (o : Option ℕ) → lesser_if b a o ≡ earlier (mark b a) o
lesser-if true a o = lesser-earlier a o
lesser-if false a o = sym (none-earlier o)

pub first_of-append : (t : Call → Bool) (xs ys : List Call) → first_of t (xs ++ ys) ≡ earlier (first_of t xs) (first_of t ys)
first_of-append t [] ys = sym (none-earlier (first_of t ys))
first_of-append t (x ∷ xs) ys =
    ap (lesser_if (t x) x.at) (first_of-append t xs ys)
    ∙ lesser-if (t x) x.at (earlier (first_of t xs) (first_of t ys))
    ∙ sym (earlier-assoc (mark (t x) x.at) (first_of t xs) (first_of t ys))
    ∙ ap (λ o. earlier o (first_of t ys)) (sym (lesser-if (t x) x.at (first_of t xs)))

-- a token that is no later than others
no-later : (k at : ℕ) → k ≤ at → cap k ≡ min (cap k) (cap at)
no-later k at le = omega (arith, le)

mark-later : (k at : ℕ) (b : Bool) → k ≤ at → earlier (Some (cap k)) (mark b (cap at)) ≡ Some (cap k)
unfolding earlier
mark-later k at true le = ap Some (sym (no-later k at le))
mark-later k at false le = refl

none-later : (x o : Option ℕ) → earlier x o ≡ x → earlier x (earlier None o) ≡ x
none-later x o h = ap (earlier x) (none-earlier o) ∙ h

circles-later : (all : List VModule) (m : VModule) (is : List VItem) (k at : ℕ) → k ≤ at → earlier (Some (cap k)) (first (items_circle all m is at)) ≡ Some (cap k)
circles-later all m [] k at le = earlier-none (Some (cap k))
circles-later all m (I.Signal s ∷ is) k at le = circles-later all m is k (at + item_size (I.Signal s)) (omega (arith, le))
circles-later all m (I.Initial x ∷ is) k at le = circles-later all m is k (at + item_size (I.Initial x)) (omega (arith, le))
circles-later all m (I.Process p ∷ is) k at le = circles-later all m is k (at + item_size (I.Process p)) (omega (arith, le))
circles-later all m (I.Function f ∷ is) k at le = circles-later all m is k (at + item_size (I.Function f)) (omega (arith, le))
circles-later all m (I.Instance i ∷ is) k at le =
    let b = leads (length all) (module_links all) i.of m.name in
    let rest = items_circle all m is (at + item_size (I.Instance i)) in
    ap (earlier (Some (cap k))) (first-append (only_if b at) rest ∙ ap (λ o. earlier o (first rest)) (first-if b at))
    ∙ sym (earlier-assoc (Some (cap k)) (mark b (cap at)) (first rest))
    ∙ ap (λ o. earlier o (first rest)) (mark-later k at b le)
    ∙ circles-later all m is k (at + item_size (I.Instance i)) (omega (arith, le))

module _ (all : List VModule) where
  abbrev ns : Numbers
  ns = numbers_from 0 all no_numbers

  abbrev is_back : Call → Bool
  is_back = is_broken (calls all) []

  -- an instance as a call
  call-first : (n : ℕ) (o : Option ℕ) (b : Bool) (at : ℕ) (rest : List Call) → (o ≡ None → b ≡ false) → ((to : ℕ) → o ≡ Some to → leads_to (calls all) to n ≡ b)
      → first_of is_back (call_between (Some n) o at ++ rest) ≡ earlier (mark b at) (first_of is_back rest)
  call-first n None b at rest none some = sym (ap (λ c. earlier (mark c at) (first_of is_back rest)) (none refl) ∙ none-earlier (first_of is_back rest))
  call-first n (Some to) b at rest none some =
      lesser-if (leads_to (calls all) to n) at (first_of is_back rest) ∙ ap (λ c. earlier (mark c at) (first_of is_back rest)) (some to refl)

  items-first : (n : ℕ) (m : VModule) (is : List VItem) (at : ℕ) → ns m.name ≡ Some n → first_of is_back (calls_in ns (Some n) is at) ≡ first (items_circle all m is at)
  items-first n m [] at e = refl
  items-first n m (I.Signal s ∷ is) at e = items-first n m is (at + item_size (I.Signal s)) e
  items-first n m (I.Initial x ∷ is) at e = items-first n m is (at + item_size (I.Initial x)) e
  items-first n m (I.Process p ∷ is) at e = items-first n m is (at + item_size (I.Process p)) e
  items-first n m (I.Function f ∷ is) at e = items-first n m is (at + item_size (I.Function f)) e
  items-first n m (I.Instance i ∷ is) at e =
      let b = leads (length all) (module_links all) i.of m.name in
      let rest = items_circle all m is (at + item_size (I.Instance i)) in
      call-first n (ns i.of) b (cap at) (calls_in ns (Some n) is (at + item_size (I.Instance i)))
      (λ none. leads-nowhere all (length all) i.of m.name n none e)
      (λ to some. call-leads all i.of m.name to n some e)
      ∙ (λ j. earlier (sym (first-if b at) j) (items-first n m is (at + item_size (I.Instance i)) e j))
      ∙ sym (first-append (only_if b at) rest)

  -- a module whose name stands before, and another one
  one-module : (n : ℕ) (before : List Declared) (m : VModule) (ms : List VModule) (at : ℕ) (d : Bool) → Since all n before (m ∷ ms) → is_declared before m.name ≡ d
      → earlier (mark d (cap (suc at))) (first (items_circle all m m.items (at + (3 + ports_size m.ports))))
      ≡ earlier (mark d (cap (suc at))) (first_of is_back (calls_in ns (own_number (ns m.name) n) m.items (at + (3 + ports_size m.ports))))
  one-module n before m ms at true h e =
      let begin = at + (3 + ports_size m.ports) in
      let none : calls_in ns (own_number (ns m.name) n) m.items begin ≡ [] = ap (λ o. calls_in ns o m.items begin) (own-repeated all n before m ms h e) ∙ no-calls ns m.items begin in
      circles-later all m m.items (suc at) begin (omega arith)
      ∙ sym (earlier-none (Some (cap (suc at))))
      ∙ ap (λ (cs : List Call). earlier (Some (cap (suc at))) (first_of is_back cs)) (sym none)
  one-module n before m ms at false h e =
      let begin = at + (3 + ports_size m.ports) in
      ap (earlier None)
      (sym (items-first n m m.items begin (first-number all n before m ms h e)) ∙ ap (λ o. first_of is_back (calls_in ns o m.items begin)) (sym (own-first all n before m ms h e)))

  modules-first : (n : ℕ) (before : List Declared) (ms : List VModule) (at : ℕ) → Since all n before ms
      → earlier (first (repeated before (module_names ms at))) (first (modules_circle all ms at))
      ≡ earlier (first (repeated before (module_names ms at))) (first_of is_back (all_calls ns n ms at))
  modules-first n before [] at h = refl
  modules-first n before (m ∷ ms) at h =
      let begin = at + (3 + ports_size m.ports) in
      let end = at + module_size m in
      let d : Declared = record { name = m.name; token = suc at; thing = part } in
      let b = mark (is_declared before m.name) (cap (suc at)) in
      let r = first (repeated (d ∷ before) (module_names ms end)) in
      let c = first (items_circle all m m.items begin) in
      let cs = first (modules_circle all ms end) in
      let here = calls_in ns (own_number (ns m.name) n) m.items begin in
      let rest = all_calls ns (suc n) ms end in
      let f = first_of is_back here in
      let fs = first_of is_back rest in
      let names = first-repeated before d (module_names ms end) in
      (λ i. earlier (names i) (first-append (items_circle all m m.items begin) (modules_circle all ms end) i))
      ∙ weave b r c cs
      ∙ (λ i. earlier (one-module n before m ms at (is_declared before m.name) h refl i) (modules-first (suc n) (d ∷ before) ms end (since-next all n before m ms (suc at) h) i))
      ∙ weave b f r fs
      ∙ (λ i. earlier (sym names i) (sym (first_of-append is_back here rest) i))

  pub circles-first : earlier (first (repeated [] (module_names all 0))) (first (modules_circle all all 0)) ≡ earlier (first (repeated [] (module_names all 0))) (first_broken (calls all) [])
  circles-first = modules-first 0 [] all 0 (since-begin all)
