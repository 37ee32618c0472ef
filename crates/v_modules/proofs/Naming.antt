-- Signals of a table, item by item.
use Rattle.std.proofs.Math.Seq.{drop-cons}
use Rattle.std.proofs.Common.{◌≡◌, ℕ, zero, suc, ◌+◌, ◌<◌, ◌≤◌, drop, get_or, Bool, true, false, cond, not, ◌&&◌, ◌||◌, List, [], ◌∷◌, ◌++◌, length, map, None, Some, refl, sym, ap, ◌∙◌, subst, arith}
use Rattle.std.specs.Str.{bytes_eq}
use Rattle.std.specs.Map.{lookup, keys_of}
use Rattle.std.specs.Prelude.{Result, Ok, Err, OnOk}
use Rattle.std.proofs.lemmas.List.{length-append, length-map, append-nil, map_push}
use Rattle.std.proofs.Common.{append_assoc}
use Rattle.indexmap.specs.IndexMap.{IndexMap, keys, insert_entry}
use Rattle.indexmap.proofs.CallerLemmas.{insert_entry-new}
use Rattle.v_tree.specs.Names.{Name, among, distinct}
use Rattle.v_tree.specs.declared.items.VItem.{VItem}
use Rattle.v_tree.specs.declared.items.VItem.TheVariants as I
use Rattle.v_meaning.specs.Modules as M
use Rattle.v_meaning.specs.Modules.{signals, numbered}
use Rattle.v_eval.proofs.Naming.{either-way}
use Rattle.v_eval.specs.declared.modules.Signal.{Signal}
use Rattle.v_eval.specs.Names.{signal_named}
use Rattle.v_modules.specs.Named.{named_of, names_of_signals, AllNew}

left-false : (b c : Bool) → (b || c) ≡ false → b ≡ false
left-false true c e = e
left-false false c e = refl

right-false : (b c : Bool) → (b || c) ≡ false → c ≡ false
right-false true c e = absurd (cc)
right-false false c e = e

not-false : (b c : Bool) → (not b && c) ≡ true → b ≡ false
not-false true c e = absurd (cc)
not-false false c e = refl

and-right : (b c : Bool) → (b && c) ≡ true → c ≡ true
and-right true c e = e
and-right false c e = absurd (cc)

absent : (name : Name) (es : List (Name × Signal)) → among (keys_of es) name ≡ false → lookup (bytes_eq name) es ≡ None
absent name [] h = refl
absent name (e ∷ es) h =
    ap (λ b. cond b (Some e.1) (lookup (bytes_eq name) es)) (either-way name e.0 ∙ left-false (bytes_eq e.0 name) (among (keys_of es) name) h)
    ∙ absent name es (right-false (bytes_eq e.0 name) (among (keys_of es) name) h)

pub new-entry : {S : Type 0} (m : IndexMap Name Signal S) (name : Name) (s : Signal) → among (keys m) name ≡ false → insert_entry bytes_eq m.entries name s ≡ m.entries ++ (name, s) ∷ []
new-entry m name s h = insert_entry-new bytes_eq m name s (absent name m.entries h)

among-push : (ks : List Name) (k n : Name) → among ks n ≡ false → bytes_eq k n ≡ false → among (ks ++ k ∷ []) n ≡ false
among-push [] k n h e = ap (λ b. b || false) e
among-push (j ∷ ks) k n h e =
    ap (λ b. b || among (ks ++ k ∷ []) n) (left-false (bytes_eq j n) (among ks n) h) ∙ among-push ks k n (right-false (bytes_eq j n) (among ks n) h) e

stay-new : (ks : List Name) (k : Name) (ss : List M.Signal) → among (names_of_signals ss) k ≡ false → AllNew ks ss → AllNew (ks ++ k ∷ []) ss
stay-new ks k [] h new = tt
stay-new ks k (s ∷ ss) h new = (
  among-push ks k s.name new.0 (either-way k s.name ∙ left-false (bytes_eq s.name k) (among (names_of_signals ss) k) h),
  stay-new ks k ss (right-false (bytes_eq s.name k) (among (names_of_signals ss) k) h) new.1,
)

-- what is new stays so behind one item more
pub next-new : (ks : List Name) (i : VItem) (is : List VItem) → AllNew ks (signals (i ∷ is)) → distinct (names_of_signals (signals (i ∷ is))) ≡ true
    → AllNew (ks ++ names_of_signals (signals (i ∷ []))) (signals is)
next-new ks (I.Signal s) is new once =
    stay-new ks (M.signal s).name (signals is) (not-false (among (names_of_signals (signals is)) (M.signal s).name) (distinct (names_of_signals (signals is))) once) new.1
next-new ks (I.Initial x) is new once = subst (λ l. AllNew l (signals is)) (sym (append-nil ks)) new
next-new ks (I.Process p) is new once = subst (λ l. AllNew l (signals is)) (sym (append-nil ks)) new
next-new ks (I.Function f) is new once = subst (λ l. AllNew l (signals is)) (sym (append-nil ks)) new
next-new ks (I.Instance x) is new once = subst (λ l. AllNew l (signals is)) (sym (append-nil ks)) new

pub next-once : (i : VItem) (is : List VItem) → distinct (names_of_signals (signals (i ∷ is))) ≡ true → distinct (names_of_signals (signals is)) ≡ true
next-once (I.Signal s) is h = and-right (not (among (names_of_signals (signals is)) (M.signal s).name)) (distinct (names_of_signals (signals is))) h
next-once (I.Initial x) is h = h
next-once (I.Process p) is h = h
next-once (I.Function f) is h = h
next-once (I.Instance x) is h = h

-- the next one is new
pub here-new : (ks : List Name) (i : VItem) (is : List VItem) → AllNew ks (signals (i ∷ is)) → AllNew ks (signals (i ∷ []))
here-new ks (I.Signal s) is new = (new.0, tt)
here-new ks (I.Initial x) is new = tt
here-new ks (I.Process p) is new = tt
here-new ks (I.Function f) is new = tt
here-new ks (I.Instance x) is new = tt

-- nothing is there at first
pub none-there : (ss : List M.Signal) → AllNew [] ss
none-there [] = tt
none-there (s ∷ ss) = (refl, none-there ss)

pub signals-cons : (i : VItem) (is : List VItem) → signals (i ∷ is) ≡ signals (i ∷ []) ++ signals is
signals-cons (I.Signal s) is = refl
signals-cons (I.Initial x) is = refl
signals-cons (I.Process p) is = refl
signals-cons (I.Function f) is = refl
signals-cons (I.Instance x) is = refl

numbered-append : (n : ℕ) (xs ys : List M.Signal) → numbered n (xs ++ ys) ≡ numbered n xs ++ numbered (n + length xs) ys
numbered-append n [] ys = ap (λ k. numbered k ys) (plus-none n)
  where
    plus-none : (n : ℕ) → n ≡ n + 0
    plus-none n = omega arith
numbered-append n (x ∷ xs) ys =
    ap (λ l. named_of n x ∷ l) (numbered-append (suc n) xs ys ∙ ap (λ k. numbered (suc n) xs ++ numbered k ys) (plus-more n (length xs)))
  where
    plus-more : (n k : ℕ) → suc n + k ≡ n + suc k
    plus-more n k = omega arith

numbered-length : (n : ℕ) (ss : List M.Signal) → length (numbered n ss) ≡ length ss
numbered-length n [] = refl
numbered-length n (s ∷ ss) = ap suc (numbered-length (suc n) ss)

grown : (es fs : List (Name × Signal)) (ss : List M.Signal) → map (signal_named 0) fs ≡ map (signal_named 0) es ++ numbered (0 + length es) ss → length fs ≡ length es + length ss
grown es fs ss e =
    sym (length-map fs (signal_named 0)) ∙ ap length e ∙ length-append (map (signal_named 0) es) (numbered (0 + length es) ss)
    ∙ ap (λ n. n + length (numbered (0 + length es) ss)) (length-map es (signal_named 0)) ∙ ap (λ n. length es + n) (numbered-length (0 + length es) ss)

sums : (first a b : ℕ) → (first + a) + b ≡ first + (a + b)
sums first a b = omega arith

-- the signals of one item more
pub next-named : (es fs : List (Name × Signal)) (i : VItem) (is : List VItem) (all : List M.Signal)
    → ((first : ℕ) → map (signal_named first) fs ≡ map (signal_named first) es ++ numbered (first + length es) (signals (i ∷ [])))
    → ((first : ℕ) → map (signal_named first) es ++ numbered (first + length es) (signals (i ∷ is)) ≡ numbered first all) → (first : ℕ)
    → map (signal_named first) fs ++ numbered (first + length fs) (signals is) ≡ numbered first all
next-named es fs i is all new so_far first =
    let a = signals (i ∷ []) in
    let n = first + length es in
    ap (λ l. l ++ numbered (first + length fs) (signals is)) (new first)
    ∙ append_assoc (map (signal_named first) es) (numbered n a) (numbered (first + length fs) (signals is))
    ∙ ap (λ k. map (signal_named first) es ++ (numbered n a ++ numbered k (signals is))) (ap (λ k. first + k) (grown es fs a (new 0)) ∙ sym (sums first (length es) (length a)))
    ∙ ap (λ l. map (signal_named first) es ++ l) (sym (numbered-append n a (signals is)) ∙ ap (numbered n) (sym (signals-cons i is)))
    ∙ so_far first

where-ok : {A E : Type 0} (r : Result A E) {P Q : Type 0} → (P → Q) → OnOk r P → OnOk r Q
where-ok (Ok a) f h = f h
where-ok (Err e) f h = tt

-- one signal more
pub one-named : {A E : Type 0} (r : Result A E) (es fs : List (Name × Signal)) (name : Name) (k : Signal) (place : ℕ) (s : M.Signal) → name ≡ s.name → place ≡ length es
    → ((first : ℕ) → signal_named first (s.name, k) ≡ named_of (first + place) s) → OnOk r (fs ≡ es ++ (name, k) ∷ [])
    → OnOk r ((first : ℕ) → map (signal_named first) fs ≡ map (signal_named first) es ++ named_of (first + length es) s ∷ [])
one-named r es fs name k place s e n kept h =
    where-ok r
    (λ added first.
    ap (map (signal_named first)) added ∙ map_push (signal_named first) es (name, k)
    ∙ ap (λ x. map (signal_named first) es ++ x ∷ []) (ap (λ m. signal_named first (m, k)) e ∙ kept first ∙ ap (λ p. named_of (first + p) s) n))
    h

-- the rest of a list begins with the next item
pub drop-here : {A : Type 0} (xs : List A) (i : ℕ) (x : A) → i < length xs → x ≡ get_or xs i x → drop i xs ≡ x ∷ drop (i + 1) xs
drop-here xs i x h e = drop-cons xs i x h ∙ ap (λ y. y ∷ drop (suc i) xs) (sym e) ∙ ap (λ k. x ∷ drop k xs) (next i)
  where
    next : (i : ℕ) → suc i ≡ i + 1
    next i = omega arith

pub drop-done : {A : Type 0} (xs : List A) (i : ℕ) → length xs ≤ i → drop i xs ≡ []
drop-done [] zero h = refl
drop-done [] (suc i) h = refl
drop-done (x ∷ xs) zero h = absurd (omega (arith, h))
drop-done (x ∷ xs) (suc i) h = drop-done xs i (omega (arith, h))

pub drop-none : {A : Type 0} (xs : List A) → drop 0 xs ≡ xs
drop-none [] = refl
drop-none (x ∷ xs) = refl

-- nothing is there at first, and nothing left at the end
pub first-named : (es : List (Name × Signal)) (is : List VItem) → es ≡ [] → (first : ℕ) → map (signal_named first) es ++ numbered (first + length es) (signals (drop 0 is)) ≡ numbered first (signals is)
first-named es is none first =
    ap (λ fs. map (signal_named first) fs ++ numbered (first + length fs) (signals (drop 0 is))) none
    ∙ ap (λ n. numbered n (signals (drop 0 is))) (plus-none first) ∙ ap (λ l. numbered first (signals l)) (drop-none is)
  where
    plus-none : (n : ℕ) → n + 0 ≡ n
    plus-none n = omega arith

pub last-named : (es : List (Name × Signal)) (is : List VItem) (i : ℕ) → length is ≤ i
    → ((first : ℕ) → map (signal_named first) es ++ numbered (first + length es) (signals (drop i is)) ≡ numbered first (signals is)) → (first : ℕ) → map (signal_named first) es ≡ numbered first (signals is)
last-named es is i end h first =
    sym (append-nil (map (signal_named first) es))
    ∙ ap (λ l. map (signal_named first) es ++ numbered (first + length es) (signals l)) (sym (drop-done is i end)) ∙ h first

pub ruleset naming = (new-entry)

-- inputs of one item more
pub next-inputs : {A : Type 0} (f : M.Signal → A) (i : VItem) (is : List VItem) (old new all : List A) → new ≡ old ++ map f (signals (i ∷ [])) → old ++ map f (signals (i ∷ is)) ≡ all → new ++ map f (signals is) ≡ all
next-inputs f i is old new all e h =
    ap (λ l. l ++ map f (signals is)) e ∙ append_assoc old (map f (signals (i ∷ []))) (map f (signals is))
    ∙ ap (λ l. old ++ l) (sym (map-append f (signals (i ∷ [])) (signals is)) ∙ ap (map f) (sym (signals-cons i is))) ∙ h
  where
    map-append : {B C : Type 0} (g : B → C) (xs ys : List B) → map g (xs ++ ys) ≡ map g xs ++ map g ys
    map-append g [] ys = refl
    map-append g (x ∷ xs) ys = ap (λ l. g x ∷ l) (map-append g xs ys)

pub ruleset inputs = (signals-cons)
