-- The inputs of a design's machine.
use Rattle.std.proofs.Common.{◌≡◌, ℕ, zero, suc, ◌+◌, ◌<◌, ◌≤◌, ◌&&◌, ◌==◌, nat_lt, Bool, true, false, filter, List, [], ◌∷◌, ◌++◌, length, map, get_or, Option, None, Some, slice_get, refl, sym, ap, ◌∙◌, subst, inl, inr, arith}
use Rattle.std.specs.List.{list_any}
use Rattle.std.proofs.lemmas.Bool.{false≢true, and_parts, eqb-true, eq-eqb, ltb-true, lt-ltb}
use Rattle.std.proofs.lemmas.Bool.Decides.{nat_tests}
use Rattle.std.proofs.lemmas.List.{length-map}
use Rattle.std.proofs.lemmas.Option.{slice_get-map, slice_get_within, get_or_from_slice_get}
use Rattle.row_machine.specs.Valuation.{Place, Member, has}
use Rattle.row_machine.specs.Places as P
use Rattle.row_machine.proofs.Basics.{has-member, member-has, member-any, any-member, true_or_false}
use Rattle.row_machine.proofs.Members.{append-member, member-front, member-back, member-filter, filter-member, member-map, map-member}
use Rattle.v_tree.specs.Names.{Name}
use Rattle.v_tree.specs.Rules.{Keeps, module_named, module_names, modules_broken}
use Rattle.v_tree.specs.Scopes.{repeated}
use Rattle.v_tree.specs.declared.items.VDesign.{VDesign}
use Rattle.v_tree.specs.declared.items.VModule.{VModule}
use Rattle.v_meaning.specs.Scopes.{named}
use Rattle.v_meaning.specs.Modules.{Signal, signals, items_of, numbered, kind_of, parts, parts_from}
use Rattle.v_meaning.specs.Machine.{machine, size, is_input, places_from, is_top_input}
use Rattle.v_modules.proofs.Once.{once, right-empty}
use Rattle.cycle_dst.specs.Designs.{top_ports, top_inputs, widths_of}
use Rattle.cycle_dst.specs.Inputs.{InputsOfTops}
use Rattle.cycle_dst.proofs.Listed.{inputs-listed, items-once, as-named, input-at, among-member}

same-tests : (a b : Bool) → (a ≡ true → b ≡ true) → (b ≡ true → a ≡ true) → a ≡ b
same-tests true true f g = refl
same-tests true false f g = sym (f refl)
same-tests false true f g = g refl
same-tests false false f g = refl

both : (a b : Bool) → a ≡ true → b ≡ true → (a && b) ≡ true
both a b e f = ap (λ c. c && b) e ∙ f

-- the bits of one signal
bits-in : (n b w : ℕ) (q : Place) → Member (P.places_from n b w) q → (q.signal ≡ n) × (q.bit < b + w)
bits-in n b zero q m = elim m [ ]
bits-in n b (suc w) q (inl e) = (ap (λ (p : Place). p.signal) e, (let bit = ap (λ (p : Place). p.bit) e in omega (arith, bit)))
bits-in n b (suc w) q (inr m) = let rest = bits-in n (suc b) w q m in (rest.0, (let below = rest.1 in omega (arith, below)))

in-bits : (n b w : ℕ) (q : Place) → q.signal ≡ n → b ≤ q.bit → q.bit < b + w → Member (P.places_from n b w) q
in-bits n b zero q s low high = absurd (omega arith)
in-bits n b (suc w) q s low high =
    elim (true_or_false (b == q.bit)) [
      | inl h ↦ inl (λ i. record { signal = s i; bit = sym (eqb-true b q.bit h) i })
      | inr h ↦ inr (in-bits n (suc b) w q s (above b q.bit low h) (omega arith))
    ]
  where
    above : (b c : ℕ) → b ≤ c → (b == c) ≡ false → suc b ≤ c
    above b c low h = grind (arith, nat_tests)

-- a bit of signals that are numbered from n on
record BitAt (n : ℕ) (ss : List Signal) (q : Place) : Type 0 where
  k : ℕ
  s : Signal
  there : slice_get ss k ≡ Some s
  signal : q.signal ≡ n + k
  bit : q.bit < size s

bit-at : (n : ℕ) (ss : List Signal) (q : Place) → Member (places_from n ss) q → BitAt n ss q
bit-at n [] q m = elim m [ ]
bit-at n (x ∷ ss) q m =
    elim (append-member (P.places_of n (size x)) (places_from (suc n) ss) q m) [
      | inl h ↦ (let own = bits-in n 0 (size x) q h in
          record { k = 0; s = x; there = refl; signal = own.0 ∙ none-more n; bit = plain own.1 })
      | inr h ↦ (let rest = bit-at (suc n) ss q h in
          record { k = suc rest.k; s = rest.s; there = rest.there; signal = rest.signal ∙ next n rest.k; bit = rest.bit })
    ]
  where
    none-more : (n : ℕ) → n ≡ n + 0
    none-more n = omega arith

    next : (n k : ℕ) → suc n + k ≡ n + suc k
    next n k = omega arith

    plain : {b : ℕ} → b < 0 + size x → b < size x
    plain h = omega (arith, h)

bit-in : (n : ℕ) (ss : List Signal) (q : Place) (k : ℕ) (s : Signal) → slice_get ss k ≡ Some s → q.signal ≡ n + k → q.bit < size s → Member (places_from n ss) q
bit-in n [] q k s there at bit = absurd (cc)
bit-in n (x ∷ ss) q zero s there at bit =
    let e : x ≡ s = cc in
    member-front (P.places_of n (size x)) (places_from (suc n) ss) q (in-bits n 0 (size x) q (at ∙ omega arith) (omega arith) (let same = ap size e in omega (arith, same, bit)))
bit-in n (x ∷ ss) q (suc k) s there at bit =
    member-back (P.places_of n (size x)) (places_from (suc n) ss) q (bit-in (suc n) ss q k s there (at ∙ omega arith) bit)

-- the front of a list
front-at : {A : Type 0} (xs ys : List A) (k : ℕ) (x : A) → slice_get xs k ≡ Some x → slice_get (xs ++ ys) k ≡ Some x
front-at [] ys k x e = absurd (cc)
front-at (y ∷ xs) ys zero x e = e
front-at (y ∷ xs) ys (suc k) x e = front-at xs ys k x e

at-front : {A : Type 0} (xs ys : List A) (k : ℕ) (x : A) → k < length xs → slice_get (xs ++ ys) k ≡ Some x → slice_get xs k ≡ Some x
at-front [] ys k x h e = absurd (omega (arith, h))
at-front (y ∷ xs) ys zero x h e = e
at-front (y ∷ xs) ys (suc k) x h e = at-front xs ys k x (omega (arith, h)) e

-- the top's own signals stand in front
own-first : (ms : List VModule) (top : Name) → (rest : List Signal) × ((parts ms top).signals ≡ signals (items_of ms top) ++ rest)
unfolding parts_from
own-first [] top = ([], refl)
own-first (m ∷ ms) top = (_, refl)

-- an input's width
width-at : (ss : List Signal) (k : ℕ) (s : Signal) → slice_get ss k ≡ Some s → get_or (map size ss) k 0 ≡ size s
width-at ss k s e = get_or_from_slice_get (map size ss) k (size s) 0 (slice_get-map size ss k ∙ ap (λ (o : Option Signal). elim o [ None ↦ None | Some x ↦ Some (size x) ]) e)

input-kind : (o : Option Signal) → elim o [ None ↦ false | Some s ↦ is_input s.kind ] ≡ true → (s : Signal) × (o ≡ Some s) × (is_input s.kind ≡ true)
input-kind None h = absurd (false≢true h)
input-kind (Some s) h = (s, refl, h)

module _ (e : VDesign) (top : Name) (keeps : Keeps e) where
  abbrev own : List Signal
  own = signals (items_of e.modules top)

  abbrev all : List Signal
  all = (parts e.modules top).signals

  broken : modules_broken e.modules e.modules 0 ≡ []
  broken = right-empty (repeated [] (module_names e.modules 0)) (modules_broken e.modules e.modules 0) keeps

  -- an input of the top's own signals is listed
  listed : (k : ℕ) (s : Signal) → slice_get own k ≡ Some s → is_input s.kind ≡ true → Member (top_inputs e top) k
  listed k s there input =
      let names = top_ports (module_named e.modules top) in
      let known = as-named 0 own k s (items-once e.modules top (once e keeps)) there in
      let m = among-member names s.name (inputs-listed e.modules e.modules 0 top broken k s there input) in
      let f = member-filter (λ n. is_input (kind_of own n)) names s.name m (ap is_input known.kind ∙ input) in
      subst (Member (top_inputs e top)) (known.number ∙ omega arith) (member-map (λ n. (named (numbered 0 own) n).number) (filter (λ n. is_input (kind_of own n)) names) s.name f)

  -- and what is listed is one
  record OwnInput (k : ℕ) : Type 0 where
    s : Signal
    there : slice_get own k ≡ Some s
    input : is_input s.kind ≡ true

  unlisted-none : (k : ℕ) → Member (top_inputs e top) k → OwnInput k
  unlisted-none k m =
      let names = top_ports (module_named e.modules top) in
      let r = map-member (λ n. (named (numbered 0 own) n).number) (filter (λ n. is_input (kind_of own n)) names) k m in
      let f = filter-member (λ n. is_input (kind_of own n)) names r.0 r.1 in
      let at = input-at 0 own r.0 f.1 in
      let same : at.k ≡ k = sym (r.2 ∙ at.number ∙ omega arith) in
      subst OwnInput same (record { s = at.s; there = at.there; input = at.input })

  below-all : (k : ℕ) (s : Signal) → slice_get own k ≡ Some s → slice_get all k ≡ Some s
  below-all k s there =
      let first = own-first e.modules top in
      ap (λ ss. slice_get ss k) first.1 ∙ front-at own first.0 k s there

  forward : (q : Place) → has (machine e top).inputs q ≡ true → (list_any (λ n. n == q.signal) (top_inputs e top) && nat_lt q.bit (get_or (widths_of e top) q.signal 0)) ≡ true
  forward q h =
      let first = own-first e.modules top in
      let m = filter-member (is_top_input (length own) (parts e.modules top)) (places_from 0 all) q (has-member (machine e top).inputs q h) in
      let bit = bit-at 0 all q m.0 in
      let tests = and_parts _ _ m.1 in
      let kind = input-kind (slice_get all q.signal) tests.1 in
      let there = at-front own first.0 q.signal kind.0 (ltb-true q.signal (length own) tests.0) (ap (λ ss. slice_get ss q.signal) (sym first.1) ∙ kind.1) in
      let at : q.signal ≡ bit.k = bit.signal ∙ omega arith in
      both _ _ (member-any (λ n. n == q.signal) (top_inputs e top) q.signal (listed q.signal kind.0 there kind.2) (eq-eqb q.signal q.signal refl))
      (lt-ltb q.bit (get_or (widths_of e top) q.signal 0) (subst (λ w. q.bit < w) (sym (ap (λ n. get_or (widths_of e top) n 0) at ∙ width-at all bit.k bit.s bit.there)) bit.bit))

  backward : (q : Place) → (list_any (λ n. n == q.signal) (top_inputs e top) && nat_lt q.bit (get_or (widths_of e top) q.signal 0)) ≡ true → has (machine e top).inputs q ≡ true
  backward q h =
      let tests = and_parts _ _ h in
      let any = any-member (λ n. n == q.signal) (top_inputs e top) tests.0 in
      let same : any.0 ≡ q.signal = eqb-true any.0 q.signal any.2 in
      let one = subst OwnInput same (unlisted-none any.0 any.1) in
      let there = below-all q.signal one.s one.there in
      let bit = subst (λ w. q.bit < w) (width-at all q.signal one.s there) (ltb-true q.bit (get_or (widths_of e top) q.signal 0) tests.1) in
      member-has (machine e top).inputs q
      (member-filter (is_top_input (length own) (parts e.modules top)) (places_from 0 all) q (bit-in 0 all q q.signal one.s there (omega arith) bit)
      (both _ _ (lt-ltb q.signal (length own) (slice_get_within own q.signal one.s one.there))
      (ap (λ (o : Option Signal). elim o [ None ↦ false | Some s ↦ is_input s.kind ]) there ∙ one.input)))

  within : (n : ℕ) → Member (top_inputs e top) n → n < length (widths_of e top)
  within n m =
      let one = unlisted-none n m in
      let long = length-map all size in
      let below = slice_get_within all n one.s (below-all n one.s one.there) in
      omega (arith, long, below)

pub inputs : InputsOfTops
inputs e top keeps = record {
  whole = λ q. same-tests _ _ (forward e top keeps q) (backward e top keeps q);
  there = within e top keeps;
}
