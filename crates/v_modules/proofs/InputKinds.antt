-- How names are declared, by the table.
use Rattle.std.proofs.Common.{◌≡◌, ℕ, suc, ◌+◌, Bool, true, false, List, [], ◌∷◌, map, slice_get, Option, None, Some, refl, sym, ap, ◌∙◌, cond, arith}
use Rattle.std.specs.Str.{bytes_eq}
use Rattle.std.specs.Map.{lookup}
use Rattle.v_tree.specs.Names.{Name}
use Rattle.v_meaning.specs.Scopes.{Named}
use Rattle.v_meaning.specs.Machine.{is_input}
use Rattle.v_meaning.specs.Modules.{Signal, numbered, kind_of}
use Rattle.v_eval.proofs.Naming.{either-way}
use Rattle.v_eval.specs.declared.modules.Signal.{Signal as Kept}
use Rattle.v_eval.specs.Names.{signal_named}

-- whether the one at a place is an input
abbrev input_at : List Signal → Option Kept → Option Bool
input_at ss None = None
input_at ss (Some k) = slice_get (map (λ (s : Signal). is_input s.kind) ss) k.place

abbrev or_false : Option Bool → Bool
or_false None = false
or_false (Some b) = b

abbrev Inputs : List Signal → List Bool
Inputs ss = map (λ (s : Signal). is_input s.kind) ss

number-is : (m n : Named) (ms ns : List Named) → m ∷ ms ≡ n ∷ ns → m.number ≡ n.number
number-is m n ms ns e = let f : m ≡ n = cc in ap (λ (x : Named). x.number) f

name-is : (m n : Named) (ms ns : List Named) → m ∷ ms ≡ n ∷ ns → m.name ≡ n.name
name-is m n ms ns e = let f : m ≡ n = cc in ap (λ (x : Named). x.name) f

rest-is : (m n : Named) (ms ns : List Named) → m ∷ ms ≡ n ∷ ns → ms ≡ ns
rest-is m n ms ns e = cc

by-name : (all : List Signal) (b : Bool) (k : Kept) (o : Option Kept) (s : Signal) (rest : _) → or_false (slice_get (Inputs all) k.place) ≡ is_input s.kind → or_false (input_at all o) ≡ is_input rest
    → or_false (input_at all (cond b (Some k) o)) ≡ is_input (cond b s.kind rest)
by-name all true k o s rest e h = e
by-name all false k o s rest e h = h

found-kind : (all : List Signal) (n : ℕ) (es : List (Name × Kept)) (ss : List Signal) (name : Name) → map (signal_named 0) es ≡ numbered n ss → ((k : ℕ) → slice_get (Inputs all) (n + k) ≡ slice_get (Inputs ss) k)
    → or_false (input_at all (lookup (bytes_eq name) es)) ≡ is_input (kind_of ss name)
found-kind all n [] [] name e h = refl
found-kind all n [] (s ∷ ss) name e h = absurd (cc)
found-kind all n (x ∷ es) [] name e h = absurd (cc)
found-kind all n (x ∷ es) (s ∷ ss) name e h =
    let own : Named = record { name = s.name; number = n; width = s.width; words = s.words } in
    let names : x.0 ≡ s.name = name-is (signal_named 0 x) own (map (signal_named 0) es) (numbered (suc n) ss) e in
    let place : 0 + x.1.place ≡ n = number-is (signal_named 0 x) own (map (signal_named 0) es) (numbered (suc n) ss) e in
    let here : or_false (slice_get (Inputs all) x.1.place) ≡ is_input s.kind = ap (λ k. or_false (slice_get (Inputs all) k)) (at-first x.1.place n place) ∙ ap or_false (h 0) in
    by-name all (bytes_eq name x.0) x.1 (lookup (bytes_eq name) es) s (kind_of ss name) here
    (found-kind all (suc n) es ss name (rest-is (signal_named 0 x) own (map (signal_named 0) es) (numbered (suc n) ss) e) (λ k. ap (slice_get (Inputs all)) (suc-more n k) ∙ h (suc k)))
    ∙ ap (λ b. is_input (cond b s.kind (kind_of ss name))) (either-way name x.0 ∙ ap (λ m. bytes_eq m name) names)
  where
    at-first : (p n : ℕ) → 0 + p ≡ n → p ≡ n + 0
    at-first p n e = omega (arith, e)

    suc-more : (n k : ℕ) → suc n + k ≡ n + suc k
    suc-more n k = omega arith

kind-by : (es : List (Name × Kept)) (ss : List Signal) (name : Name) → ((first : ℕ) → map (signal_named first) es ≡ numbered first ss) → or_false (input_at ss (lookup (bytes_eq name) es)) ≡ is_input (kind_of ss name)
kind-by es ss name h = found-kind ss 0 es ss name (h 0) (λ k. ap (slice_get (Inputs ss)) (none-more k))
  where
    none-more : (k : ℕ) → 0 + k ≡ k
    none-more k = omega arith

pub no-signal : (es : List (Name × Kept)) (ss : List Signal) (name : Name) → ((first : ℕ) → map (signal_named first) es ≡ numbered first ss) → lookup (bytes_eq name) es ≡ None → false ≡ is_input (kind_of ss name)
no-signal es ss name h e = ap (λ o. or_false (input_at ss o)) (sym e) ∙ kind-by es ss name h

pub a-signal : (es : List (Name × Kept)) (ss : List Signal) (name : Name) (k : Kept) (o : Option Bool) → ((first : ℕ) → map (signal_named first) es ≡ numbered first ss) → lookup (bytes_eq name) es ≡ Some k
    → o ≡ slice_get (map (λ (s : Signal). is_input s.kind) ss) k.place → or_false o ≡ is_input (kind_of ss name)
a-signal es ss name k o h e f = ap or_false f ∙ ap (λ x. or_false (input_at ss x)) (sym e) ∙ kind-by es ss name h
