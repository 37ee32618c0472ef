-- Names are found as they are declared.
use Rattle.std.proofs.Common.{◌≡◌, ℕ, zero, suc, drop, Bool, true, false, cond, List, [], ◌∷◌, ◌++◌, map, Option, Some, None, refl, ap, sym, ◌∙◌}
use Rattle.std.specs.Prelude.{slice_get}
use Rattle.std.specs.Str.{bytes_eq}
use Rattle.std.specs.Map.{lookup}
use Rattle.std.proofs.lemmas.Slice.Eq.{bytes_eq-Decides}
use Rattle.v_tree.specs.Names.{Name}
use Rattle.v_tree.specs.declared.items.VFunction.{VFunction}
use Rattle.v_tree.specs.declared.items.VItem.{VItem}
use Rattle.v_tree.specs.declared.items.VItem.TheVariants as I
use Rattle.v_meaning.specs.Scopes as S
use Rattle.v_meaning.specs.Functions.{find}
use Rattle.v_meaning.specs.Modules.{functions as functions_in}
use Rattle.v_eval.specs.Functions.{function_in, function_at, place_of}
use Rattle.v_eval.specs.declared.paths.Named.{Named}
use Rattle.v_eval.specs.declared.modules.Local.{Local}
use Rattle.v_eval.specs.declared.modules.Signal.{Signal}
use Rattle.v_eval.specs.Paths.{named_or_not}
use Rattle.v_eval.specs.Names.{nameless, of_local, local_found, signal_found, local_named, signal_named}

next-drop : {A : Type 0} (k : ℕ) (xs : List A) (x : A) (ys : List A) → drop k xs ≡ x ∷ ys → drop (suc k) xs ≡ ys
next-drop zero [] x ys is = absurd (cc)
next-drop zero (y ∷ xs) x ys is = cc
next-drop (suc k) [] x ys is = absurd (cc)
next-drop (suc k) (y ∷ xs) x ys is = next-drop k xs x ys is

first-drop : {A : Type 0} (k : ℕ) (xs : List A) (x : A) (ys : List A) → drop k xs ≡ x ∷ ys → slice_get xs k ≡ Some x
first-drop zero [] x ys is = absurd (cc)
first-drop zero (y ∷ xs) x ys is = cc
first-drop (suc k) [] x ys is = absurd (cc)
first-drop (suc k) (y ∷ xs) x ys is = first-drop k xs x ys is

same-way : (a b : Name) (x y : Bool) → bytes_eq a b ≡ x → bytes_eq b a ≡ y → x ≡ y
same-way a b true true e f = refl
same-way a b false false e f = refl
same-way a b true false e f = let same : b ≡ a = sym ((bytes_eq-Decides a b).0 e) in let g = (bytes_eq-Decides b a).1 same in absurd (cc)
same-way a b false true e f = let same : a ≡ b = sym ((bytes_eq-Decides b a).0 f) in let g = (bytes_eq-Decides a b).1 same in absurd (cc)

pub either-way : (a b : Name) → bytes_eq a b ≡ bytes_eq b a
either-way a b = same-way a b (bytes_eq a b) (bytes_eq b a) refl refl

chosen : (b : Bool) (x y : S.Named) → nameless (cond b x y) ≡ cond b (nameless x) (nameless y)
chosen true x y = refl
chosen false x y = refl

chosen-signal : (b : Bool) (first : ℕ) (s : Signal) (o : Option Signal) → named_or_not (signal_found first (cond b (Some s) o)) ≡ cond b (named_or_not (signal_found first (Some s))) (named_or_not (signal_found first o))
chosen-signal true first s o = refl
chosen-signal false first s o = refl

signal-named : (first : ℕ) (es : List (Name × Signal)) (name : Name) → named_or_not (signal_found first (lookup (bytes_eq name) es)) ≡ nameless (S.named (map (signal_named first) es) name)
signal-named first [] name = refl
signal-named first (e ∷ es) name =
    chosen-signal (bytes_eq name e.0) first e.1 (lookup (bytes_eq name) es)
    ∙ ap (λ n. cond (bytes_eq name e.0) (nameless (signal_named first e)) n) (signal-named first es name)
    ∙ ap (λ b. cond b (nameless (signal_named first e)) (nameless (S.named (map (signal_named first) es) name))) (either-way name e.0)
    ∙ sym (chosen (bytes_eq e.0 name) (signal_named first e) (S.named (map (signal_named first) es) name))

-- a name that a local has
pub local-there : (ls : List Local) (rest : List S.Named) (name : Name) (n : Named) → local_found ls name ≡ Some n → named_or_not (Some n) ≡ nameless (S.named (map local_named ls ++ rest) name)
local-there [] rest name n is = absurd (cc)
local-there (l ∷ ls) rest name n is = by (local-there ls rest name n) (bytes_eq l.name name) refl
  where
    by : (local_found ls name ≡ Some n → named_or_not (Some n) ≡ nameless (S.named (map local_named ls ++ rest) name)) → (b : Bool) → bytes_eq l.name name ≡ b → named_or_not (Some n) ≡ nameless (S.named (map local_named (l ∷ ls) ++ rest) name)
    by h true e =
        ap named_or_not (sym is ∙ ap (λ b. cond b (Some (of_local l)) (local_found ls name)) e)
        ∙ sym (ap (λ b. nameless (cond b (local_named l) (S.named (map local_named ls ++ rest) name))) e)
    by h false e =
        h (sym (ap (λ b. cond b (Some (of_local l)) (local_found ls name)) e) ∙ is)
        ∙ sym (ap (λ b. nameless (cond b (local_named l) (S.named (map local_named ls ++ rest) name))) e)

-- a name that no local has
pub local-absent : (ls : List Local) (rest : List S.Named) (name : Name) → local_found ls name ≡ None → nameless (S.named rest name) ≡ nameless (S.named (map local_named ls ++ rest) name)
local-absent [] rest name is = refl
local-absent (l ∷ ls) rest name is = by (local-absent ls rest name) (bytes_eq l.name name) refl
  where
    by : (local_found ls name ≡ None → nameless (S.named rest name) ≡ nameless (S.named (map local_named ls ++ rest) name)) → (b : Bool) → bytes_eq l.name name ≡ b → nameless (S.named rest name) ≡ nameless (S.named (map local_named (l ∷ ls) ++ rest) name)
    by h true e = let f = sym is ∙ ap (λ b. cond b (Some (of_local l)) (local_found ls name)) e in absurd (cc)
    by h false e =
        h (sym (ap (λ b. cond b (Some (of_local l)) (local_found ls name)) e) ∙ is)
        ∙ sym (ap (λ b. nameless (cond b (local_named l) (S.named (map local_named ls ++ rest) name))) e)

-- a signal, where no local has the name
pub signal-there : (ls : List Local) (first : ℕ) (es : List (Name × Signal)) (name : Name) → local_found ls name ≡ None
    → named_or_not (signal_found first (lookup (bytes_eq name) es)) ≡ nameless (S.named (map local_named ls ++ map (signal_named first) es) name)
signal-there ls first es name is = signal-named first es name ∙ local-absent ls (map (signal_named first) es) name is

place-by : (b : Bool) (f : VFunction) (k : ℕ) (all : List VItem) (o : Option ℕ) (r : Option VFunction) → slice_get all k ≡ Some (I.Function f) → function_at all o ≡ r → function_at all (cond b (Some k) o) ≡ cond b (Some f) r
place-by true f k all o r is rest = ap function_in is
place-by false f k all o r is rest = rest

-- the function at the place of a name is the one that is found
place-from : (k : ℕ) (all is : List VItem) (name : Name) → drop k all ≡ is → function_at all (place_of k is name) ≡ find (functions_in is) name
place-from k all [] name at = refl
place-from k all (I.Signal s ∷ is) name at = place-from (suc k) all is name (next-drop k all (I.Signal s) is at)
place-from k all (I.Initial i ∷ is) name at = place-from (suc k) all is name (next-drop k all (I.Initial i) is at)
place-from k all (I.Process p ∷ is) name at = place-from (suc k) all is name (next-drop k all (I.Process p) is at)
place-from k all (I.Function f ∷ is) name at =
    place-by (bytes_eq f.name name) f k all (place_of (suc k) is name) (find (functions_in is) name) (first-drop k all (I.Function f) is at) (place-from (suc k) all is name (next-drop k all (I.Function f) is at))
place-from k all (I.Instance i ∷ is) name at = place-from (suc k) all is name (next-drop k all (I.Instance i) is at)

pub placed : (items : List VItem) (name : Name) (o : Option ℕ) → o ≡ place_of 0 items name → function_at items o ≡ find (functions_in items) name
placed items name o is = ap (function_at items) is ∙ place-from 0 items items name refl

pub ruleset naming = (local-there, signal-there, placed)
