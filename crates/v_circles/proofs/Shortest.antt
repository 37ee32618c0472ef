-- Neither links nor calls lead further by more steps than there are of them.
use Rattle.std.proofs.Common.{◌≡◌, ℕ, zero, suc, ◌<◌, ◌≤◌, Bool, true, false, ◌||◌, ◌&&◌, ◌==◌, List, [], ◌∷◌, length, Option, Some, slice_get, refl, sym, ap, ◌∙◌, if◌then◌else◌, arith}
use Rattle.std.proofs.lemmas.Bool.{eqb-true}
use Rattle.std.proofs.lemmas.Slice.Eq.{bytes_eq-Decides}
use Rattle.std.specs.List.{list_any}
use Rattle.std.specs.Str.{bytes_eq}
use Rattle.v_tree.specs.Names.{Name}
use Rattle.v_tree.specs.Rules.{Link, links_of, leads}
use Rattle.call_circles.specs.declared.calls.Call.{Call}
use Rattle.call_circles.specs.Calls.{is_from, goes_to, reaches}
use Rattle.call_circles.proofs.Reaching.{from_true}
use Rattle.v_circles.proofs.Paths.{path, path-short}

pub names-equal : (a b : Name) → bytes_eq a b ≡ true → a ≡ b
names-equal a b e = (bytes_eq-Decides a b).0 e

pub same-name : (a : Name) → bytes_eq a a ≡ true
same-name a = (bytes_eq-Decides a a).1 refl

-- links
abbrev links_without : Name → List Link → List Link
links_without a [] = []
links_without a (l ∷ ls) = if bytes_eq l.from a then links_without a ls else (l ∷ links_without a ls)

link-other : (a x : Name) (l : Link) (rest : List Link) (ns ms : List Name) (b : Bool) → bytes_eq l.from a ≡ b → bytes_eq a x ≡ false → links_of rest x ≡ ms → ms ≡ ns
    → links_of (if b then rest else (l ∷ rest)) x ≡ (if bytes_eq l.from x then l.to else ns)
link-other a x l rest ns ms true e other at is =
    at ∙ is ∙ sym (ap (λ c. if c then l.to else ns) (ap (λ (n : Name). bytes_eq n x) (names-equal l.from a e) ∙ other))
link-other a x l rest ns ms false e other at is = ap (λ (ks : List Name). if bytes_eq l.from x then l.to else ks) (at ∙ is)

links-same : (a x : Name) (ls : List Link) → bytes_eq a x ≡ false → links_of (links_without a ls) x ≡ links_of ls x
links-same a x [] e = refl
links-same a x (l ∷ ls) e =
    link-other a x l (links_without a ls) (links_of ls x) (links_of (links_without a ls) x) (bytes_eq l.from a) refl e refl (links-same a x ls e)

link-gone : (a : Name) (l : Link) (rest : List Link) (b : Bool) → bytes_eq l.from a ≡ b → links_of rest a ≡ [] → links_of (if b then rest else (l ∷ rest)) a ≡ []
link-gone a l rest true e h = h
link-gone a l rest false e h = ap (λ c. if c then l.to else links_of rest a) e ∙ h

links-gone : (a : Name) (ls : List Link) → links_of (links_without a ls) a ≡ []
links-gone a [] = refl
links-gone a (l ∷ ls) = link-gone a l (links_without a ls) (bytes_eq l.from a) refl (links-gone a ls)

link-most : (a : Name) (l : Link) (rest : List Link) (n : ℕ) (b : Bool) → length rest ≤ n → length (if b then rest else (l ∷ rest)) ≤ suc n
link-most a l rest n true h = omega (arith, h)
link-most a l rest n false h = omega (arith, h)

links-most : (a : Name) (ls : List Link) → length (links_without a ls) ≤ length ls
links-most a [] = omega arith
links-most a (l ∷ ls) = link-most a l (links_without a ls) (length ls) (bytes_eq l.from a) (links-most a ls)

link-fewer : (a : Name) (l : Link) (rest : List Link) (ns : List Name) (n : ℕ) (i : ℕ) (c : Name) (b : Bool) → length rest ≤ n → slice_get (if b then l.to else ns) i ≡ Some c
    → (slice_get ns i ≡ Some c → length rest < n) → length (if b then rest else (l ∷ rest)) < suc n
link-fewer a l rest ns n i c true most at h = omega (arith, most)
link-fewer a l rest ns n i c false most at h = omega (arith, h at)

links-fewer : (a : Name) (ls : List Link) (i : ℕ) (c : Name) → slice_get (links_of ls a) i ≡ Some c → length (links_without a ls) < length ls
links-fewer a [] i c at = cc
links-fewer a (l ∷ ls) i c at =
    link-fewer a l (links_without a ls) (links_of ls a) (length ls) i c (bytes_eq l.from a) (links-most a ls) at (links-fewer a ls i c)

abbrev by_links : ℕ → List Link → Name → Name → Bool
by_links = path bytes_eq names-equal links_of links_without links-same links-gone links-fewer

leads-path : (k : ℕ) (ls : List Link) (a b : Name) → leads k ls a b ≡ by_links k ls a b
leads-path zero ls a b = refl
leads-path (suc k) ls a b = λ i. bytes_eq a b || list_any (λ c. leads-path k ls c b i) (links_of ls a)

pub leads-short : (k : ℕ) (ls : List Link) (a b : Name) → leads k ls a b ≡ true → leads (length ls) ls a b ≡ true
leads-short k ls a b h =
    leads-path (length ls) ls a b ∙ path-short bytes_eq names-equal links_of links_without links-same links-gone links-fewer k ls a b (sym (leads-path k ls a b) ∙ h)

-- calls
abbrev called_from : List Call → ℕ → List ℕ
called_from [] r = []
called_from (c ∷ cs) r = if is_from c.from r then (c.to ∷ called_from cs r) else called_from cs r

abbrev calls_without : ℕ → List Call → List Call
calls_without r [] = []
calls_without r (c ∷ cs) = if is_from c.from r then calls_without r cs else (c ∷ calls_without r cs)

numbers-equal : (a b : ℕ) → (a == b) ≡ true → a ≡ b
numbers-equal a b e = eqb-true a b e

other-from : (f : Option ℕ) (r x : ℕ) → is_from f r ≡ true → (r == x) ≡ false → is_from f x ≡ false
other-from f r x e other = ap (λ g. is_from g x) (from_true f r e) ∙ other

call-other : (r x : ℕ) (c : Call) (rest : List Call) (ns : List ℕ) (b : Bool) → is_from c.from r ≡ b → (r == x) ≡ false → called_from rest x ≡ ns
    → called_from (if b then rest else (c ∷ rest)) x ≡ (if is_from c.from x then (c.to ∷ ns) else ns)
call-other r x c rest ns true e other at = at ∙ sym (ap (λ b. if b then (c.to ∷ ns) else ns) (other-from c.from r x e other))
call-other r x c rest ns false e other at = ap (λ (ks : List ℕ). if is_from c.from x then (c.to ∷ ks) else ks) at

calls-same : (r x : ℕ) (cs : List Call) → (r == x) ≡ false → called_from (calls_without r cs) x ≡ called_from cs x
calls-same r x [] e = refl
calls-same r x (c ∷ cs) e = call-other r x c (calls_without r cs) (called_from cs x) (is_from c.from r) refl e (calls-same r x cs e)

call-gone : (r : ℕ) (c : Call) (rest : List Call) (b : Bool) → is_from c.from r ≡ b → called_from rest r ≡ [] → called_from (if b then rest else (c ∷ rest)) r ≡ []
call-gone r c rest true e h = h
call-gone r c rest false e h = ap (λ b. if b then (c.to ∷ called_from rest r) else called_from rest r) e ∙ h

calls-gone : (r : ℕ) (cs : List Call) → called_from (calls_without r cs) r ≡ []
calls-gone r [] = refl
calls-gone r (c ∷ cs) = call-gone r c (calls_without r cs) (is_from c.from r) refl (calls-gone r cs)

call-most : (c : Call) (rest : List Call) (n : ℕ) (b : Bool) → length rest ≤ n → length (if b then rest else (c ∷ rest)) ≤ suc n
call-most c rest n true h = omega (arith, h)
call-most c rest n false h = omega (arith, h)

calls-most : (r : ℕ) (cs : List Call) → length (calls_without r cs) ≤ length cs
calls-most r [] = omega arith
calls-most r (c ∷ cs) = call-most c (calls_without r cs) (length cs) (is_from c.from r) (calls-most r cs)

call-fewer : (c : Call) (rest : List Call) (ns : List ℕ) (n : ℕ) (i x : ℕ) (b : Bool) → length rest ≤ n → slice_get (if b then (c.to ∷ ns) else ns) i ≡ Some x
    → (slice_get ns i ≡ Some x → length rest < n) → length (if b then rest else (c ∷ rest)) < suc n
call-fewer c rest ns n i x true most at h = omega (arith, most)
call-fewer c rest ns n i x false most at h = omega (arith, h at)

calls-fewer : (r : ℕ) (cs : List Call) (i x : ℕ) → slice_get (called_from cs r) i ≡ Some x → length (calls_without r cs) < length cs
calls-fewer r [] i x at = cc
calls-fewer r (c ∷ cs) i x at =
    call-fewer c (calls_without r cs) (called_from cs r) (length cs) i x (is_from c.from r) (calls-most r cs) at (calls-fewer r cs i x)

abbrev by_calls : ℕ → List Call → ℕ → ℕ → Bool
by_calls = path ◌==◌ numbers-equal called_from calls_without calls-same calls-gone calls-fewer

any-kept : (f : ℕ → Bool) (to : ℕ) (ns : List ℕ) (b : Bool) → ((b && f to) || list_any f ns) ≡ list_any f (if b then (to ∷ ns) else ns)
any-kept f to ns true = refl
any-kept f to ns false = refl

any-called : (f : ℕ → Bool) (r : ℕ) (cs : List Call) → list_any (goes_to f r) cs ≡ list_any f (called_from cs r)
any-called f r [] = refl
any-called f r (c ∷ cs) =
    ap (λ b. (is_from c.from r && f c.to) || b) (any-called f r cs) ∙ any-kept f c.to (called_from cs r) (is_from c.from r)

reaches-path : (k : ℕ) (cs : List Call) (r g : ℕ) → reaches cs k r g ≡ by_calls k cs r g
reaches-path zero cs r g = refl
reaches-path (suc k) cs r g =
    ap (λ b. (r == g) || b) (any-called (λ next. reaches cs k next g) r cs)
    ∙ (λ i. (r == g) || list_any (λ next. reaches-path k cs next g i) (called_from cs r))

pub reaches-short : (cs : List Call) (k r g : ℕ) → reaches cs k r g ≡ true → reaches cs (length cs) r g ≡ true
reaches-short cs k r g h =
    reaches-path (length cs) cs r g ∙ path-short ◌==◌ numbers-equal called_from calls_without calls-same calls-gone calls-fewer k cs r g (sym (reaches-path k cs r g) ∙ h)
