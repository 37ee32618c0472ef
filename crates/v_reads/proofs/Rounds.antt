-- What functions read, by rounds over the depth of calls.
use Rattle.std.proofs.Common.{◌≡◌, ℕ, zero, suc, ◌+◌, ◌-◌, ◌≤◌, ◌<◌, ◌==◌, Bool, true, false, ◌&&◌, ◌||◌, List, [], ◌∷◌, ◌++◌, length, map, Option, Some, None, refl, sym, ap, ◌∙◌, subst, true≢false, arith}
use Rattle.std.specs.Prelude.{filter, cond, slice_get}
use Rattle.std.specs.List.{list_any}
use Rattle.std.proofs.lemmas.Bool.Decides.{nat_tests}
use Rattle.std.proofs.lemmas.List.{length-map, length_push}
use Rattle.v_tree.specs.Names.{Name}
use Rattle.v_tree.specs.declared.items.VFunction.{VFunction}
use Rattle.v_meaning.specs.Scopes as M
use Rattle.v_meaning.specs.Scopes.{Use, is_signal}
use Rattle.v_meaning.specs.Statements.{doing}
use Rattle.v_meaning.specs.Functions.{callees_within, callee_of, callee_or_absent, locals_of, scope_in}
use Rattle.v_meaning.specs.Modules.{functions as functions_in}
use Rattle.v_footprints.specs.Footprints.{uses}
use Rattle.v_eval.specs.declared.modules.Local.{Local}
use Rattle.v_eval.specs.declared.scopes.Scope.{Scope}
use Rattle.v_eval.specs.Functions.{function_in, function_at, place_of}
use Rattle.v_eval.specs.Names.{local_named}
use Rattle.v_eval.specs.Scopes.{signals_of, callee_within, callee_at}
use Rattle.v_eval.proofs.Calls.{called}
use Rattle.v_eval.proofs.Naming.{placed}
use Rattle.v_reads.specs.Reads.{is_among, Adds, AreOf, or_none, FunctionsRead, at_depth, around}
use Rattle.v_reads.proofs.Alike.{SameCalls, body-agrees}

-- signals alone
and-false : (b : Bool) → (b && false) ≡ false
and-false true = refl
and-false false = refl

number-is : (a b : ℕ) → (a == b) ≡ true → a ≡ b
number-is a b h = grind (arith, nat_tests)

kept : {A : Type 0} (f : A → ℕ) (xs : List A) (n : ℕ) → list_any (λ a. f a == n) (filter (λ a. is_signal (f a)) xs) ≡ (is_signal n && list_any (λ a. f a == n) xs)
kept f [] n = sym (and-false (is_signal n))
kept {A} f (x ∷ xs) n = by (kept f xs n) (is_signal (f x)) refl (f x == n) refl (is_signal n) refl
  where
    rest : List A
    rest = filter (λ a. is_signal (f a)) xs

    any : List A → Bool
    any ys = list_any (λ a. f a == n) ys

    by : any rest ≡ (is_signal n && any xs) → (b : Bool) → is_signal (f x) ≡ b → (e : Bool) → (f x == n) ≡ e → (s : Bool) → is_signal n ≡ s
        → list_any (λ a. f a == n) (cond b (x ∷ rest) rest) ≡ (is_signal n && ((f x == n) || any xs))
    by go true is true at true sig = (λ j. at j || any rest) ∙ sym (λ j. sig j && (at j || any xs))
    by go true is true at false sig = absurd (true≢false (sym is ∙ ap is_signal (number-is (f x) n at) ∙ sig))
    by go true is false at s sig = (λ j. at j || any rest) ∙ go ∙ sym (ap (λ b. is_signal n && (b || any xs)) at)
    by go false is true at true sig = absurd (true≢false (sym sig ∙ ap is_signal (sym (number-is (f x) n at)) ∙ is))
    by go false is true at false sig = go ∙ (λ j. sig j && any xs) ∙ sym (λ j. sig j && ((f x == n) || any xs))
    by go false is false at s sig = go ∙ sym (ap (λ b. is_signal n && (b || any xs)) at)

pub signals-among : (ns : List ℕ) (n : ℕ) → is_among (filter is_signal ns) n ≡ (is_signal n && is_among ns n)
signals-among ns n = kept (λ (m : ℕ). m) ns n

pub signals-used : (us : List Use) (n : ℕ) → uses (filter (λ (u : Use). is_signal u.number) us) n ≡ (is_signal n && uses us n)
signals-used us n = kept (λ (u : Use). u.number) us n

-- the scope in a function
pub function-scope : (all : List Local) (f : VFunction) (n : ℕ) (signals : List M.Named) (callee : Name → M.Callee) → map local_named all ≡ locals_of f → n ≡ length all
    → ◌≡◌ {A = M.Scope} (record { names = map local_named all ++ signals; next = n; callee = callee }) (scope_in f (record { names = signals; next = 0; callee = callee }))
function-scope all f n signals callee names next =
    let long : n ≡ length (locals_of f) = next ∙ sym (length-map all local_named) ∙ ap length names in
    ap (λ (ns : List M.Named). record { names = ns ++ signals; next = n; callee = callee }) names ∙ ap (λ (k : ℕ). record { names = locals_of f ++ signals; next = k; callee = callee }) long

pub read-in : (s : Scope) (f : VFunction) (old ns : List ℕ) (sc : M.Scope) → Adds old ns ((doing f.body).reads sc) → old ≡ [] → sc ≡ scope_in f (around s) → AreOf ns ((doing f.body).reads (scope_in f (around s)))
read-in s f old ns sc h none same = record {
  same = λ n. h.same n ∙ ap (λ l. is_among l n || uses ((doing f.body).reads sc) n) none ∙ ap (λ (x : M.Scope). uses ((doing f.body).reads x) n) same;
}

-- the signals among what a body reads are what the function reads
pub body-read : (s : Scope) (f : VFunction) (ns kept_ns : List ℕ) → AreOf ns ((doing f.body).reads (scope_in f (around s))) → ((n : ℕ) → is_among kept_ns n ≡ (is_signal n && is_among ns n))
    → AreOf kept_ns (callee_of (around s) f).reads
body-read s f ns kept_ns h e = record {
  same = λ n. e n ∙ ap (λ b. is_signal n && b) (h.same n) ∙ sym (signals-used ((doing f.body).reads (scope_in f (around s))) n);
}

pub function-read : (s : Scope) (i : ℕ) (f : VFunction) (ns : List ℕ) → Some f ≡ function_at s.module.now.items.now (Some i) → AreOf ns (callee_of (around s) f).reads
    → AreOf ns (callee_at (at_depth (suc s.depth) s) (Some i)).reads
function-read s i f ns is h =
    let fs = functions_in s.module.now.items.now in
    record { same = λ n. h.same n ∙ ap (λ o. uses (callee_or_absent (callee_within (suc s.depth) (signals_of s) fs) o).reads n) is }

pub nothing-read : (s : Scope) (i : ℕ) (ns : List ℕ) → None ≡ function_at s.module.now.items.now (Some i) → ns ≡ [] → AreOf ns (callee_at s (Some i)).reads
nothing-read s i ns is none =
    let fs = functions_in s.module.now.items.now in
    record { same = λ n. ap (λ l. is_among l n) none ∙ ap (λ o. uses (callee_or_absent (callee_within s.depth (signals_of s) fs) o).reads n) is }

-- where calls go no deeper, no function reads anything
pub none-read : (s : Scope) (lists : List (List ℕ)) → lists ≡ [] → FunctionsRead (at_depth 0 s) lists
none-read s lists none = record { right = λ i n. ap (λ l. is_among (or_none (slice_get l i)) n) none ∙ by n (function_at s.module.now.items.now (Some i)) }
  where
    by : (n : ℕ) (o : Option VFunction) → false ≡ uses (callee_or_absent (callee_within 0 (signals_of s) (functions_in s.module.now.items.now)) o).reads n
    by n None = refl
    by n (Some f) = refl

-- lists for the items from k on
abbrev pub RowsFrom : Scope → ℕ → List (List ℕ) → Type 0
RowsFrom s k [] = Unit {0}
RowsFrom s k (ns ∷ rest) = AreOf ns (callee_at s (Some k)).reads × RowsFrom s (suc k) rest

pub row-more : (s : Scope) (k i : ℕ) (lists : List (List ℕ)) (ns : List ℕ) → RowsFrom s k lists → i ≡ k + length lists → AreOf ns (callee_at s (Some i)).reads → RowsFrom s k (lists ++ ns ∷ [])
row-more s k i [] ns h is row = let same : i ≡ k = omega (arith, is) in (subst (λ j. AreOf ns (callee_at s (Some j)).reads) same row, tt)
row-more s k i (l ∷ lists) ns h is row = (h.0, row-more s (suc k) i lists ns h.1 (omega (arith, is)) row)

pub rows-none : (s : Scope) (lists : List (List ℕ)) → lists ≡ [] → RowsFrom s 0 lists
rows-none s lists none = subst (λ l. RowsFrom s 0 l) (sym none) tt

pub row-pushed : (s : Scope) (i : ℕ) (lists new : List (List ℕ)) (ns : List ℕ) → RowsFrom s 0 lists → length lists ≡ i → AreOf ns (callee_at s (Some i)).reads → new ≡ lists ++ ns ∷ [] → RowsFrom s 0 new
row-pushed s i lists new ns h is row e = subst (λ l. RowsFrom s 0 l) (sym e) (row-more s 0 i lists ns h (omega (arith, is)) row)

pub count-pushed : {A : Type 0} (xs new : List A) (x : A) (i : ℕ) → new ≡ xs ++ x ∷ [] → length xs ≡ i → length new ≡ i + 1
count-pushed xs new x i e is = ap length e ∙ length_push xs x ∙ ap (λ k. k + 1) is

past : {A : Type 0} (xs : List A) (j : ℕ) → length xs ≤ j → slice_get xs j ≡ None
past [] j h = refl
past (x ∷ xs) zero h = absurd (omega (arith, h))
past (x ∷ xs) (suc j) h = past xs j (omega (arith, h))

behind-items : (s : Scope) (j n : ℕ) → length s.module.now.items.now ≤ j → false ≡ uses (callee_at s (Some j)).reads n
behind-items s j n h = (nothing-read s j [] (sym (ap function_in (past s.module.now.items.now j h))) refl).same n

row-at : (s : Scope) (k : ℕ) (lists : List (List ℕ)) → RowsFrom s k lists → length s.module.now.items.now ≤ k + length lists → (i j n : ℕ) → j ≡ k + i
    → is_among (or_none (slice_get lists i)) n ≡ uses (callee_at s (Some j)).reads n
row-at s k [] h long i j n is = behind-items s j n (omega (arith, long, is))
row-at s k (ns ∷ lists) h long zero j n is = let same : k ≡ j = omega (arith, is) in h.0.same n ∙ ap (λ x. uses (callee_at s (Some x)).reads n) same
row-at s k (ns ∷ lists) h long (suc i) j n is = row-at s (suc k) lists h.1 (omega (arith, long)) i j n (omega (arith, is))

pub rows-read : (s : Scope) (lists : List (List ℕ)) → RowsFrom s 0 lists → length s.module.now.items.now ≤ length lists → FunctionsRead s lists
rows-read s lists h long = record { right = λ i n. row-at s 0 lists h (omega (arith, long)) i i n (omega arith) }

-- Lists that are right for two depths in turn are right for all depths behind.
same-calls : (s : Scope) (d : ℕ) (lists : List (List ℕ)) → FunctionsRead (at_depth d s) lists → FunctionsRead (at_depth (suc d) s) lists
    → SameCalls (callees_within d (signals_of s) (functions_in s.module.now.items.now)) (callees_within (suc d) (signals_of s) (functions_in s.module.now.items.now))
same-calls s d lists h g = record { same = λ name n. by name n (place_of 0 s.module.now.items.now name) refl }
  where
    at : (n : ℕ) (o : Option ℕ) → uses (callee_at (at_depth d s) o).reads n ≡ uses (callee_at (at_depth (suc d) s) o).reads n
    at n None = refl
    at n (Some i) = sym (h.right i n) ∙ g.right i n

    by : (name : Name) (n : ℕ) (o : Option ℕ) → o ≡ place_of 0 s.module.now.items.now name
        → uses (callees_within d (signals_of s) (functions_in s.module.now.items.now) name).reads n ≡ uses (callees_within (suc d) (signals_of s) (functions_in s.module.now.items.now) name).reads n
    by name n o is =
        let found = placed s.module.now.items.now name o is in
        sym (ap (λ (c : M.Callee). uses c.reads n) (called (at_depth d s) name o found)) ∙ at n o ∙ ap (λ (c : M.Callee). uses c.reads n) (called (at_depth (suc d) s) name o found)

once-more : (s : Scope) (d : ℕ) (lists : List (List ℕ)) → FunctionsRead (at_depth d s) lists → FunctionsRead (at_depth (suc d) s) lists → FunctionsRead (at_depth (suc (suc d)) s) lists
once-more s d lists h g = record { right = λ i n. g.right i n ∙ by n (function_at s.module.now.items.now (Some i)) }
  where
    fs : List VFunction
    fs = functions_in s.module.now.items.now

    by : (n : ℕ) (o : Option VFunction) → uses (callee_or_absent (callee_within (suc d) (signals_of s) fs) o).reads n ≡ uses (callee_or_absent (callee_within (suc (suc d)) (signals_of s) fs) o).reads n
    by n None = refl
    by n (Some f) =
        let less = (doing f.body).reads (scope_in f (around (at_depth d s))) in
        let more = (doing f.body).reads (scope_in f (around (at_depth (suc d) s))) in
        let agree = body-agrees (callees_within d (signals_of s) fs) (callees_within (suc d) (signals_of s) fs) (same-calls s d lists h g) f.body in
        signals-used less n ∙ ap (λ b. is_signal n && b) (agree.same (locals_of f ++ signals_of s) (length (locals_of f)) n) ∙ sym (signals-used more n)

pub stays : (k : ℕ) (s : Scope) (d e : ℕ) (lists : List (List ℕ)) → e ≡ k + d → FunctionsRead (at_depth d s) lists → FunctionsRead (at_depth (suc d) s) lists → FunctionsRead (at_depth e s) lists
stays zero s d e lists is h g = let same : d ≡ e = omega (arith, is) in subst (λ x. FunctionsRead (at_depth x s) lists) same h
stays (suc k) s d e lists is h g = stays k s (suc d) e lists (omega (arith, is)) g (once-more s d lists h g)

-- a round that changes nothing is the last
pub settled : (s : Scope) (d : ℕ) (lists deeper : List (List ℕ)) → d < s.depth → FunctionsRead (at_depth d s) lists → FunctionsRead (at_depth (suc d) s) deeper → deeper ≡ lists → FunctionsRead s lists
settled s d lists deeper less h g same =
    let is : s.depth ≡ (s.depth - d) + d = omega (arith, less) in
    record { right = (stays (s.depth - d) s d s.depth lists is h (subst (λ l. FunctionsRead (at_depth (suc d) s) l) same g)).right }

pub one-more : (s : Scope) (d : ℕ) (lists : List (List ℕ)) → FunctionsRead (at_depth (suc d) s) lists → FunctionsRead (at_depth (d + 1) s) lists
one-more s d lists h = let same : suc d ≡ d + 1 = omega arith in subst (λ k. FunctionsRead (at_depth k s) lists) same h

pub all-rounds : (s : Scope) (d : ℕ) (lists : List (List ℕ)) → d ≡ s.depth → FunctionsRead (at_depth d s) lists → FunctionsRead s lists
all-rounds s d lists is h = record { right = (subst (λ k. FunctionsRead (at_depth k s) lists) is h).right }
