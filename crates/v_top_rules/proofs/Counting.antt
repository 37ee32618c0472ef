-- The sums of rounds are the instances and bits below the modules with these names.
use Rattle.std.proofs.Common.{◌≡◌, ℕ, zero, suc, ◌+◌, ◌*◌, ◌^◌, ◌≤◌, nat_le, Bool, true, false, ◌||◌, ◌&&◌, List, [], ◌∷◌, ◌++◌, length, map, slice_get, Option, Some, None, refl, sym, ap, ◌∙◌, if◌then◌else◌, append_assoc, arith}
use Rattle.std.specs.Str.{bytes_eq}
use Rattle.std.proofs.lemmas.Bool.{false≢true, leb-true, le-leb}
use Rattle.std.proofs.lemmas.List.{append-nil}
use Rattle.v_tree.specs.Names.{Name, among}
use Rattle.v_tree.specs.Scopes.{bits_of}
use Rattle.v_tree.specs.ExprRules.{total}
use Rattle.v_tree.specs.Rules.{instantiated, items_named, module_named, signal_bits, instances_below, bits_below, FitsTop}
use Rattle.v_tree.specs.declared.items.VDesign.{VDesign}
use Rattle.v_tree.specs.declared.items.VItem.{VItem}
use Rattle.v_tree.specs.declared.items.VItem.TheVariants as I
use Rattle.v_tree.specs.declared.items.VModule.{VModule}
use Rattle.v_tree.specs.declared.items.VRegRest.TheVariants as R
use Rattle.v_tree.specs.declared.items.VSignal.TheVariants.{Input, Output, OutputReg, Wire, Reg}
use Rattle.v_rules.specs.Tables.{Numbers, no_numbers, numbers_from}
use Rattle.v_top_rules.proofs.Rounds.{and-first, and-second}
use Rattle.v_top_rules.specs.declared.nodes.Node.{Node}
use Rattle.v_top_rules.specs.declared.sums.Sum.{Sum}
use Rattle.v_top_rules.specs.Sums.{some_instances, some_bits, item_bits, bits_from, below_from, node_of, sum_or, sum_at, added, alone, sum_from, round, rounds, nothing, sum_below, top_sum, is_few, bits_or, at_module}

-- sums of what stands for more
bits-add : (a b : ℕ) → some_bits (some_bits a + some_bits b) ≡ some_bits (a + b)
unfolding some_bits
bits-add a b = omega arith

bits-some : (a b : ℕ) → some_bits (a + some_bits b) ≡ some_bits (a + b)
unfolding some_bits
bits-some a b = omega arith

instances-add : (a b : ℕ) → some_instances (some_instances a + (some_instances b + 1)) ≡ some_instances (a + suc b)
unfolding some_instances
instances-add a b = omega arith

no-bits : some_bits 0 ≡ 0
unfolding some_bits
no-bits = refl

no-instances : some_instances 0 ≡ 0
unfolding some_instances
no-instances = refl

-- the bits of items
signal-same : (i : VItem) → item_bits i ≡ signal_bits i
signal-same (I.Signal (Input range name)) = refl
signal-same (I.Signal (Output range name)) = refl
signal-same (I.Signal (OutputReg range name initial)) = refl
signal-same (I.Signal (Wire range name)) = refl
signal-same (I.Signal (Reg range name None)) = refl
signal-same (I.Signal (Reg range name (Some (R.Memory left)))) = ap (λ n. bits_of range * n) (next left)
  where
    next : (k : ℕ) → k + 1 ≡ suc k
    next k = omega arith
signal-same (I.Signal (Reg range name (Some (R.Initial v)))) = refl
signal-same (I.Initial i) = refl
signal-same (I.Process p) = refl
signal-same (I.Function f) = refl
signal-same (I.Instance i) = refl

items-bits : (is : List VItem) (n : ℕ) → bits_from is (some_bits n) ≡ some_bits (n + total (map signal_bits is))
items-bits [] n = ap some_bits (same n)
  where
    same : (k : ℕ) → k ≡ k + 0
    same k = omega arith
items-bits (i ∷ is) n =
    ap (bits_from is) (bits-add n (item_bits i) ∙ ap (λ k. some_bits (n + k)) (signal-same i))
    ∙ items-bits is (n + signal_bits i)
    ∙ ap some_bits (more n (signal_bits i) (total (map signal_bits is)))
  where
    more : (a b c : ℕ) → (a + b) + c ≡ a + (b + c)
    more a b c = omega arith

-- the modules of instances
items-below : (ns : Numbers) (is : List VItem) (below : List (Option ℕ)) → below_from ns is below ≡ below ++ map ns (instantiated is)
items-below ns [] below = sym (append-nil below)
items-below ns (I.Signal s ∷ is) below = ap (below_from ns is) (append-nil below) ∙ items-below ns is below
items-below ns (I.Initial s ∷ is) below = ap (below_from ns is) (append-nil below) ∙ items-below ns is below
items-below ns (I.Process s ∷ is) below = ap (below_from ns is) (append-nil below) ∙ items-below ns is below
items-below ns (I.Function s ∷ is) below = ap (below_from ns is) (append-nil below) ∙ items-below ns is below
items-below ns (I.Instance i ∷ is) below =
    items-below ns is (below ++ (ns i.of ∷ [])) ∙ append_assoc below (ns i.of ∷ []) (map ns (instantiated is))

-- the module with a number is the first one with its name
abbrev Rest : List VModule → ℕ → List VModule → Type 0
Rest all n ms = (k : ℕ) → slice_get all (n + k) ≡ slice_get ms k

record Found (all ms : List VModule) (name : Name) (k : ℕ) : Type 0 where
  entry : VModule
  stands : slice_get all k ≡ Some entry
  named : items_named ms name ≡ entry.items
  there : among (map (λ (m : VModule). m.name) ms) name ≡ true

next-rest : (all : List VModule) (n : ℕ) (m : VModule) (ms : List VModule) → Rest all n (m ∷ ms) → Rest all (suc n) ms
next-rest all n m ms h k = ap (slice_get all) (same n k) ∙ h (suc k)
  where
    same : (a b : ℕ) → suc a + b ≡ a + suc b
    same a b = omega arith

here : (all : List VModule) (n : ℕ) (m : VModule) (ms : List VModule) → Rest all n (m ∷ ms) → slice_get all n ≡ Some m
here all n m ms h = ap (slice_get all) (same n) ∙ h 0
  where
    same : (a : ℕ) → a ≡ a + 0
    same a = omega arith

some-one : (n k : ℕ) → Some n ≡ Some k → n ≡ k
some-one n k e = cc

found-step : (all : List VModule) (n : ℕ) (m : VModule) (ms : List VModule) (name : Name) (k : ℕ) (b : Bool) → Rest all n (m ∷ ms) → bytes_eq m.name name ≡ b
    → (if b then Some n else numbers_from (suc n) ms no_numbers name) ≡ Some k → (numbers_from (suc n) ms no_numbers name ≡ Some k → Found all ms name k) → Found all (m ∷ ms) name k
found-step all n m ms name k true rest e is more = record {
  entry = m;
  stands = ap (slice_get all) (sym (some-one n k is)) ∙ here all n m ms rest;
  named = ap (λ c. if c then m.items else items_named ms name) e;
  there = ap (λ c. c || among (map (λ (x : VModule). x.name) ms) name) e;
}
found-step all n m ms name k false rest e is more =
    let f = more is in
    record {
      entry = f.entry;
      stands = f.stands;
      named = ap (λ c. if c then m.items else items_named ms name) e ∙ f.named;
      there = ap (λ c. c || among (map (λ (x : VModule). x.name) ms) name) e ∙ f.there;
    }

found : (all : List VModule) (n : ℕ) (ms : List VModule) (name : Name) (k : ℕ) → Rest all n ms → numbers_from n ms no_numbers name ≡ Some k → Found all ms name k
found all n [] name k rest e = cc
found all n (m ∷ ms) name k rest e =
    found-step all n m ms name k (bytes_eq m.name name) rest refl e (found all (suc n) ms name k (next-rest all n m ms rest))

record Missing (ms : List VModule) (name : Name) : Type 0 where
  named : items_named ms name ≡ []
  there : among (map (λ (m : VModule). m.name) ms) name ≡ false

missing-step : (n : ℕ) (m : VModule) (ms : List VModule) (name : Name) (b : Bool) → bytes_eq m.name name ≡ b
    → (if b then Some n else numbers_from (suc n) ms no_numbers name) ≡ None → (numbers_from (suc n) ms no_numbers name ≡ None → Missing ms name) → Missing (m ∷ ms) name
missing-step n m ms name true e is more = cc
missing-step n m ms name false e is more =
    let f = more is in
    record {
      named = ap (λ c. if c then m.items else items_named ms name) e ∙ f.named;
      there = ap (λ c. c || among (map (λ (x : VModule). x.name) ms) name) e ∙ f.there;
    }

missing : (n : ℕ) (ms : List VModule) (name : Name) → numbers_from n ms no_numbers name ≡ None → Missing ms name
missing n [] name e = record { named = refl; there = refl }
missing n (m ∷ ms) name e = missing-step n m ms name (bytes_eq m.name name) refl e (missing (suc n) ms name)

get-map : {A B : Type 0} (f : A → B) (xs : List A) (k : ℕ) (x : A) → slice_get xs k ≡ Some x → slice_get (map f xs) k ≡ Some (f x)
get-map f [] k x e = cc
get-map f (y ∷ xs) zero x e = ap Some (ap f (some-item y x e))
  where
    some-item : {A : Type 0} (a b : A) → Some a ≡ Some b → a ≡ b
    some-item a b e = cc
get-map f (y ∷ xs) (suc k) x e = get-map f xs k x e

module _ (ms : List VModule) where
  abbrev ns : Numbers
  ns = numbers_from 0 ms no_numbers

  abbrev nodes : List Node
  nodes = map (node_of ns) ms

  all-rest : Rest ms 0 ms
  all-rest k = ap (slice_get ms) (same k)
    where
      same : (a : ℕ) → 0 + a ≡ a
      same a = omega arith

  -- what is told of a module with a name, to a depth
  abbrev told : ℕ → Name → Sum
  told d name = record { instances = some_instances (instances_below d ms name); bits = some_bits (bits_below d ms name) }

  abbrev instances_of : ℕ → List Name → ℕ
  instances_of d cs = total (map (λ k. suc (instances_below d ms k)) cs)

  abbrev bits_in : ℕ → List Name → ℕ
  bits_in d cs = total (map (bits_below d ms) cs)

  abbrev Tells : ℕ → List Sum → Type 0
  Tells d sums = (name : Name) → sum_at sums (ns name) ≡ told d name

  -- the sums of some modules
  sums-told : (d : ℕ) (sums : List Sum) (cs : List Name) (a b : ℕ) → Tells d sums
      → sum_from (map ns cs) sums (record { instances = some_instances a; bits = some_bits b })
      ≡ record { instances = some_instances (a + instances_of d cs); bits = some_bits (b + bits_in d cs) }
  sums-told d sums [] a b h = λ i. record { instances = some_instances (same a i); bits = some_bits (same b i) }
    where
      same : (k : ℕ) → k ≡ k + 0
      same k = omega arith
  sums-told d sums (c ∷ cs) a b h =
      let x = instances_below d ms c in
      let y = bits_below d ms c in
      ap (λ (s : Sum). sum_from (map ns cs) sums (added (record { instances = some_instances a; bits = some_bits b }) s)) (h c)
      ∙ (λ i. sum_from (map ns cs) sums (record { instances = instances-add a x i; bits = bits-add b y i }))
      ∙ sums-told d sums cs (a + suc x) (b + y) h
      ∙ (λ i. record { instances = some_instances (more a (suc x) (instances_of d cs) i); bits = some_bits (more b y (bits_in d cs) i) })
    where
      more : (k m n : ℕ) → (k + m) + n ≡ k + (m + n)
      more k m n = omega arith

  own-bits : (m : VModule) → bits_from m.items (some_bits 0) ≡ some_bits (total (map signal_bits m.items))
  own-bits m = items-bits m.items 0 ∙ ap some_bits (same (total (map signal_bits m.items)))
    where
      same : (k : ℕ) → 0 + k ≡ k
      same k = omega arith

  own : (m : VModule) → alone (node_of ns m) ≡ record { instances = some_instances 0; bits = some_bits (total (map signal_bits m.items)) }
  own m = λ i. record { instances = sym no-instances i; bits = own-bits m i }

  -- a module that isn't there, and one that is, alone and with what stands below it
  none-told : (d : ℕ) (name : Name) → items_named ms name ≡ [] → nothing ≡ told d name
  none-told zero name e = λ i. record { instances = sym no-instances i; bits = (sym no-bits ∙ ap (λ (is : List VItem). some_bits (total (map signal_bits is))) (sym e)) i }
  none-told (suc d) name e = λ i. record {
    instances = (sym no-instances ∙ ap (λ (is : List VItem). some_instances (instances_of d (instantiated is))) (sym e)) i;
    bits = (sym no-bits ∙ ap (λ (is : List VItem). some_bits (total (map signal_bits is) + bits_in d (instantiated is))) (sym e)) i;
  }

  module-told : (d : ℕ) (sums : List Sum) (m : VModule) → Tells d sums
      → sum_from (node_of ns m).below sums (alone (node_of ns m))
      ≡ record { instances = some_instances (instances_of d (instantiated m.items)); bits = some_bits (total (map signal_bits m.items) + bits_in d (instantiated m.items)) }
  module-told d sums m h =
      (λ i. sum_from (items-below ns m.items [] i) sums (own m i))
      ∙ sums-told d sums (instantiated m.items) 0 (total (map signal_bits m.items)) h
      ∙ (λ i. record { instances = some_instances (same (instances_of d (instantiated m.items)) i); bits = some_bits (total (map signal_bits m.items) + bits_in d (instantiated m.items)) })
    where
      same : (k : ℕ) → 0 + k ≡ k
      same k = omega arith

  first-told : (name : Name) (o : Option ℕ) → ns name ≡ o → sum_at (rounds 0 nodes) o ≡ told 0 name
  first-told name None e = none-told 0 name (missing 0 ms name e).named
  first-told name (Some k) e =
      let f = found ms 0 ms name k all-rest e in
      ap sum_or (get-map alone nodes k (node_of ns f.entry) (get-map (node_of ns) ms k f.entry f.stands))
      ∙ own f.entry
      ∙ (λ i. record { instances = some_instances 0; bits = some_bits (total (map signal_bits (sym f.named i))) })

  next-told : (d : ℕ) (sums : List Sum) (name : Name) (o : Option ℕ) → Tells d sums → ns name ≡ o → sum_at (round nodes sums) o ≡ told (suc d) name
  next-told d sums name None h e = none-told (suc d) name (missing 0 ms name e).named
  next-told d sums name (Some k) h e =
      let f = found ms 0 ms name k all-rest e in
      ap sum_or (get-map (λ (n : Node). sum_from n.below sums (alone n)) nodes k (node_of ns f.entry) (get-map (node_of ns) ms k f.entry f.stands))
      ∙ module-told d sums f.entry h
      ∙ (λ i. record {
        instances = some_instances (instances_of d (instantiated (sym f.named i)));
        bits = some_bits (total (map signal_bits (sym f.named i)) + bits_in d (instantiated (sym f.named i)));
      })

  rounds-told : (d : ℕ) → Tells d (rounds d nodes)
  rounds-told zero name = first-told name (ns name) refl
  rounds-told (suc d) name = next-told d (rounds d nodes) name (ns name) (rounds-told d) refl

  pub top-told : (name : Name) → sum_at (rounds (length nodes) nodes) (ns name) ≡ told (length ms) name
  top-told name = rounds-told (length nodes) name ∙ ap (λ n. told n name) (many ms)
    where
      many : (xs : List VModule) → length (map (node_of ns) xs) ≡ length xs
      many [] = refl
      many (x ∷ xs) = ap suc (many xs)

few-instances : (n : ℕ) → some_instances n ≤ 4096 → n ≤ 4096
unfolding some_instances
few-instances n h = omega (arith, h)

few-bits : (n : ℕ) → some_bits n ≤ 67108864 → n ≤ 2 ^ 26
unfolding some_bits
few-bits n h = omega (arith, h)

some-few-instances : (n : ℕ) → n ≤ 4096 → some_instances n ≤ 4096
unfolding some_instances
some-few-instances n h = omega (arith, h)

some-few-bits : (n : ℕ) → n ≤ 2 ^ 26 → some_bits n ≤ 67108864
unfolding some_bits
some-few-bits n h = omega (arith, h)

-- a top that is there, with what stands below it, and one that isn't
record Below (e : VDesign) (top : Name) (s : Sum) : Type 0 where
  instances : s.instances ≡ some_instances (instances_below (length e.modules) e.modules top)
  bits : s.bits ≡ some_bits (bits_below (length e.modules) e.modules top)

below : (e : VDesign) (top : Name) (k : ℕ) → numbers_from 0 e.modules no_numbers top ≡ Some k → Below e top (sum_at (rounds (length (nodes e.modules)) (nodes e.modules)) (Some k))
below e top k number =
    let told : sum_at (rounds (length (nodes e.modules)) (nodes e.modules)) (Some k) ≡ told e.modules (length e.modules) top =
    ap (sum_at (rounds (length (nodes e.modules)) (nodes e.modules))) (sym number) ∙ top-told e.modules top in
    record { instances = ap (λ (s : Sum). s.instances) told; bits = ap (λ (s : Sum). s.bits) told }

few-one : (e : VDesign) (top : Name) (o : Option ℕ) → numbers_from 0 e.modules no_numbers top ≡ o → is_few (sum_below (nodes e.modules) o) ≡ true → FitsTop e top
few-one e top None number few = absurd (false≢true few)
few-one e top (Some k) number few =
    let s = sum_at (rounds (length (nodes e.modules)) (nodes e.modules)) (Some k) in
    let b = below e top k number in
    let i : s.instances ≤ 4096 = leb-true s.instances 4096 (and-first (nat_le s.instances 4096) (nat_le s.bits 67108864) few) in
    let j : s.bits ≤ 67108864 = leb-true s.bits 67108864 (and-second (nat_le s.instances 4096) (nat_le s.bits 67108864) few) in
    record {
      present = (found e.modules 0 e.modules top k (all-rest e.modules) number).there;
      instances = few-instances (instances_below (length e.modules) e.modules top) (omega (arith, b.instances, i));
      bits = few-bits (bits_below (length e.modules) e.modules top) (omega (arith, b.bits, j));
    }

many-one : (e : VDesign) (top : Name) (o : Option ℕ) → numbers_from 0 e.modules no_numbers top ≡ o → is_few (sum_below (nodes e.modules) o) ≡ false → FitsTop e top → ⊥
many-one e top None number many fits = false≢true (sym (missing 0 e.modules top number).there ∙ fits.present)
many-one e top (Some k) number many fits =
    let s = sum_at (rounds (length (nodes e.modules)) (nodes e.modules)) (Some k) in
    let b = below e top k number in
    let i : s.instances ≤ 4096 = let h = some-few-instances (instances_below (length e.modules) e.modules top) fits.instances in omega (arith, b.instances, h) in
    let j : s.bits ≤ 67108864 = let h = some-few-bits (bits_below (length e.modules) e.modules top) fits.bits in omega (arith, b.bits, h) in
    false≢true (sym many ∙ (λ t. le-leb s.instances 4096 i t && le-leb s.bits 67108864 j t))

pub few_fits : (e : VDesign) (top : Name) → is_few (top_sum e.modules top) ≡ true → FitsTop e top
few_fits e top h = few-one e top (numbers_from 0 e.modules no_numbers top) refl h

pub many_unfit : (e : VDesign) (top : Name) → is_few (top_sum e.modules top) ≡ false → FitsTop e top → ⊥
many_unfit e top h = many-one e top (numbers_from 0 e.modules no_numbers top) refl h

few-exact : (n : ℕ) → n ≤ 2 ^ 26 → some_bits n ≡ n
unfolding some_bits
few-exact n h = omega (arith, h)

exact-one : (e : VDesign) (top : Name) (o : Option ℕ) → numbers_from 0 e.modules no_numbers top ≡ o → FitsTop e top
    → bits_or (sum_below (nodes e.modules) o) ≡ bits_below (length e.modules) e.modules top
exact-one e top None number fits = absurd (false≢true (sym (missing 0 e.modules top number).there ∙ fits.present))
exact-one e top (Some k) number fits = (below e top k number).bits ∙ few-exact (bits_below (length e.modules) e.modules top) fits.bits

pub exact_bits : (e : VDesign) (top : Name) → FitsTop e top → bits_or (top_sum e.modules top) ≡ bits_below (length e.modules) e.modules top
exact_bits e top fits = exact-one e top (numbers_from 0 e.modules no_numbers top) refl fits

-- the module with a name has the number of the name
numbered-one : (all ms : List VModule) (n : ℕ) (name : Name) (b : Bool) (m : VModule) → Rest all n (m ∷ ms) → bytes_eq m.name name ≡ b
    → at_module all (numbers_from (suc n) ms no_numbers name) ≡ module_named ms name
    → at_module all (if b then Some n else numbers_from (suc n) ms no_numbers name) ≡ (if b then Some m else module_named ms name)
numbered-one all ms n name true m rest e h = here all n m ms rest
numbered-one all ms n name false m rest e h = h

numbered-from : (all ms : List VModule) (n : ℕ) (name : Name) → Rest all n ms → at_module all (numbers_from n ms no_numbers name) ≡ module_named ms name
numbered-from all [] n name rest = refl
numbered-from all (m ∷ ms) n name rest =
    numbered-one all ms n name (bytes_eq m.name name) m rest refl (numbered-from all ms (suc n) name (next-rest all n m ms rest))

pub numbered_module : (ms : List VModule) (name : Name) → at_module ms (numbers_from 0 ms no_numbers name) ≡ module_named ms name
numbered_module ms name = numbered-from ms ms 0 name (all-rest ms)
