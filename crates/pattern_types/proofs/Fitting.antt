-- Patterns by what their types take of them.
use Rattle.std.proofs.Common.{◌≡◌, ◌≤◌, ℕ, zero, suc, ◌+◌, ◌*◌, Bool, true, false, not, cond, List, [], ◌∷◌, length, map, Option, Some, None, refl, arith, ap, sym, ◌∙◌, subst, length-append}
use Rattle.std.specs.Prelude.{IfOk, Result, Ok, Err, zip, nat_lt, ◌&&◌}
use Rattle.std.specs.declared.alloc.AllocError.{AllocError}
use Rattle.std.proofs.lemmas.Bool.Decides.{nat_tests}
use Rattle.std.proofs.Math.Nat.{suc-mul}
use Rattle.sv_types.specs.declared.expression.Expr.{Expr}
use Rattle.sv_types.specs.declared.expression.Form.TheVariants as F
use Rattle.sv_types.specs.declared.types.SvType.{SvType}
use Rattle.sv_types.specs.Layouts.{width_of}
use Rattle.pattern_fit.specs.declared.pattern.Key.{Key}
use Rattle.pattern_fit.specs.declared.pattern.PatternItem.{PatternItem}
use Rattle.pattern_fit.specs.Fits.{fits}
use Rattle.expr_type.specs.declared.halt.Halt.{Halt}
use Rattle.expr_type.specs.declared.halt.Halt.TheVariants as H
use Rattle.expr_type.specs.Answers.{Break, HaltsBy, reason}
use Rattle.expr_type.specs.Names.{Source, position}
use Rattle.expr_type.specs.Operators.{expr_at, not_too_long}
use Rattle.expr_type.specs.Patterns.{Item, Parts, all_keys, and_key, count_fits, defaults, fitted_by, keyed, made, rest_of, taken, taken_by, times_over, tries, types_in}
use Rattle.expr_type.specs.Typings.{Checked, all_of, joined, refused, where_whole}
use Rattle.pattern_types.specs.declared.looks.Look.{Look}
use Rattle.pattern_types.specs.Meaning as R
use Rattle.pattern_types.specs.declared.takes.Taking.{Taking}
use Rattle.pattern_types.specs.Leaves.{length_behind}
use Rattle.pattern_types.specs.Meaning.{Pattern, fitted_in, item_keys, items_in, key_of, keyed_keys, keys_of, filled, parts_of, pattern_of, tick_of, times_of, written_items}
use Rattle.pattern_laws.specs.Reasons.{IsWhole, Reason}
use Rattle.pattern_types.specs.Reasons.{Says, break_at, reason_of}
use Rattle.pattern_types.specs.Takes.{IsTaking, default_keys, or_unfit, takes_in}
use Rattle.pattern_types.specs.Filling.{Fills}
use Rattle.pattern_laws.proofs.Covering.{AllThere, fits-covered}
use Rattle.pattern_types.proofs.Numbers.{filled-keys, length-defaults, length-keyed}
use Rattle.pattern_laws.proofs.Whole.{made-whole}

-- what a halt says
pub says-is : (h : Halt) (l : Look) (r : Reason) → Says h l → HaltsBy h r → reason_of l ≡ r
says-is H.Memory l r s e = elim s [ ]
says-is (H.Breaks at rule) l r s e = s ∙ sym e
says-is H.Quiet l r s e = s ∙ sym e

pub says-if : (r : Result Look AllocError) (h : Halt) (x : Reason) → HaltsBy h x → IfOk r (λ l. Says h l) → IfOk r (λ l. reason_of l ≡ x)
says-if (Ok l) h x e s = says-is h l x s e
says-if (Err w) h x e s = tt

-- a pattern whose type takes nothing of it
broken-by : (k : Source) (tick at : ℕ) (t : SvType) (is : List Item) (m : Checked (List (Option Key))) (f : List (Option Key) → Option (List PatternItem)) (b : Option Break)
    → reason (where_whole m (λ ks. or_unfit k tick (f ks))) ≡ Some b → reason (where_whole m (λ ks. fitted_by k tick at t is (f ks))) ≡ Some b
broken-by k tick at t is (Ok ks) f b h = by (f ks) h
  where
    by : (o : Option (List PatternItem)) → reason (or_unfit k tick o) ≡ Some b → reason (fitted_by k tick at t is o) ≡ Some b
    by None e = e
    by (Some xs) e = absurd (cc)
broken-by k tick at t is (Err x) f b h = h

pub fitted-broken : (k : Source) (p : Pattern) (at : ℕ) (t : SvType) (b : Option Break) → reason (takes_in k p t) ≡ Some b → reason (fitted_in k p at t) ≡ Some b
fitted-broken k p at t b h =
    broken-by k p.tick at t (parts_of p).items (all_of (map (key_of k t) (keys_of p.items))) (λ ks. taken_by t (parts_of p) (all_keys ks)) b h

pub halts-so : (k : Source) (p : Pattern) (at : ℕ) (t : SvType) (h : Halt) → HaltsBy h (reason (takes_in k p t)) → HaltsBy h (reason (fitted_in k p at t))
halts-so k p at t H.Memory e = tt
halts-so k p at t (H.Breaks token rule) e = fitted-broken k p at t (Some (break_at token rule)) e
halts-so k p at t H.Quiet e = fitted-broken k p at t None e

-- and one whose type takes items of it
taken-by : (k : Source) (tick at : ℕ) (t : SvType) (is : List Item) (m : Checked (List (Option Key))) (f : List (Option Key) → Option (List PatternItem)) (xs : List PatternItem)
    → where_whole m (λ ks. or_unfit k tick (f ks)) ≡ Ok xs → where_whole m (λ ks. fitted_by k tick at t is (f ks)) ≡ fitted_by k tick at t is (Some xs)
taken-by k tick at t is (Ok ks) f xs h = by (f ks) h
  where
    by : (o : Option (List PatternItem)) → or_unfit k tick o ≡ Ok xs → fitted_by k tick at t is o ≡ fitted_by k tick at t is (Some xs)
    by None e = absurd (cc)
    by (Some ys) e = let same : ys ≡ xs = cc in ap (λ zs. fitted_by k tick at t is (Some zs)) same
taken-by k tick at t is (Err x) f xs h = absurd (cc)

pub fitted-taken : (k : Source) (p : Pattern) (at : ℕ) (t : SvType) (xs : List PatternItem) → takes_in k p t ≡ Ok xs → fitted_in k p at t ≡ fitted_by k p.tick at t (parts_of p).items (Some xs)
fitted-taken k p at t xs h =
    taken-by k p.tick at t (parts_of p).items (all_of (map (key_of k t) (keys_of p.items))) (λ ks. taken_by t (parts_of p) (all_keys ks)) xs h

-- how much is taken
record Known (t : SvType) (p : Parts) (keys : List (Option Key)) (xs : List PatternItem) : Type 0 where
  ks : List Key
  all : all_keys keys ≡ Some ks
  fit : fits t (record { keys = times_over p.times ks; rest = rest_of (defaults p.items) }) ≡ Some xs
  once : nat_lt 1 (length (defaults p.items)) ≡ false

fit-by : (t : SvType) (p : Parts) (ks : List Key) (xs : List PatternItem) (a b : Bool) (keys : List (Option Key)) → nat_lt 1 (length (defaults p.items)) ≡ b → all_keys keys ≡ Some ks
    → cond (a && not b) (fits t (record { keys = times_over p.times ks; rest = rest_of (defaults p.items) })) None ≡ Some xs → Known t p keys xs
fit-by t p ks xs true false keys e all h = record { ks = ks; all = all; fit = h; once = e }
fit-by t p ks xs true true keys e all h = absurd (cc)
fit-by t p ks xs false b keys e all h = absurd (cc)

known-by : (k : Source) (tick : ℕ) (t : SvType) (p : Parts) (keys : List (Option Key)) (o : Option (List Key)) (xs : List PatternItem) → all_keys keys ≡ o → or_unfit k tick (taken_by t p o) ≡ Ok xs → Known t p keys xs
known-by k tick t p keys None xs e h = absurd (cc)
known-by k tick t p keys (Some ks) xs e h = by (taken t p ks) refl h
  where
    by : (o : Option (List PatternItem)) → taken t p ks ≡ o → or_unfit k tick o ≡ Ok xs → Known t p keys xs
    by None f g = absurd (cc)
    by (Some ys) f g = let same : ys ≡ xs = cc in fit-by t p ks xs (count_fits t p) (nat_lt 1 (length (defaults p.items))) keys refl e (f ∙ ap (λ zs. Some zs) same)

length-over : {A : Type 0} (n : ℕ) (xs : List A) → length (times_over n xs) ≡ n * length xs
length-over zero xs = omega arith
length-over (suc n) xs = length-append xs (times_over n xs) ∙ ap (λ m. length xs + m) (length-over n xs) ∙ omega (arith, suc-mul n (length xs))

length-and : (key : Option Key) (o : Option (List Key)) (n : ℕ) (ks : List Key) → ((ls : List Key) → o ≡ Some ls → length ls ≡ n) → and_key key o ≡ Some ks → length ks ≡ suc n
length-and None o n ks h e = absurd (cc)
length-and (Some key) None n ks h e = absurd (cc)
length-and (Some key) (Some ls) n ks h e = let same : key ∷ ls ≡ ks = cc in sym (ap (λ (xs : List Key). length xs) same) ∙ ap suc (h ls refl)

length-keys : (keys : List (Option Key)) (ks : List Key) → all_keys keys ≡ Some ks → length ks ≡ length keys
length-keys [] ks e = let same : [] ≡ ks = cc in sym (ap (λ (xs : List Key). length xs) same)
length-keys (key ∷ keys) ks e = length-and key (all_keys keys) (length keys) ks (λ ls g. length-keys keys ls g) e

length-joined : {A : Type 0} (x : Checked A) (m : Checked (List A)) (n : ℕ) (as' : List A) → ((bs : List A) → m ≡ Ok bs → length bs ≡ n) → where_whole (joined x m) (λ p. Ok (p.0 ∷ p.1)) ≡ Ok as' → length as' ≡ suc n
length-joined (Ok a) (Ok bs) n as' h e = let same : a ∷ bs ≡ as' = cc in sym (ap length same) ∙ ap suc (h bs refl)
length-joined (Ok a) (Err y) n as' h e = absurd (cc)
length-joined (Err x) (Ok b) n as' h e = absurd (cc)
length-joined (Err x) (Err y) n as' h e = absurd (cc)

length-all : {A B : Type 0} (f : A → Checked B) (xs : List A) (ys : List B) → all_of (map f xs) ≡ Ok ys → length ys ≡ length xs
length-all f [] ys e = let same : [] ≡ ys = cc in sym (ap length same)
length-all f (x ∷ xs) ys e = length-joined (f x) (all_of (map f xs)) (length xs) ys (λ bs g. length-all f xs bs g) e

pub record Taken (k : Source) (p : R.Parts) (t : SvType) (xs : List PatternItem) : Type 0 where
  pub long : length xs ≡ length (types_in t)
  pub there : AllThere (times_of p * length (keyed (written_items k (items_in p)))) (rest_of (defaults (written_items k (items_in p)))) xs
  pub once : length (default_keys (item_keys (items_in p))) ≤ 1

taken-from : (k : Source) (p : R.Parts) (t : SvType) (keys : List (Option Key)) (xs : List PatternItem) → length keys ≡ length (keyed_keys (item_keys (items_in p))) → Known t (parts_of (pattern_of k p)) keys xs → Taken k p t xs
taken-from k p t keys xs many known =
    let items = written_items k (items_in p) in
    let c = fits-covered t (record { keys = times_over (times_of p) known.ks; rest = rest_of (defaults items) }) xs known.fit in
    let n : length known.ks ≡ length (keyed items) = length-keys keys known.ks known.all ∙ many ∙ sym (length-keyed k (items_in p)) in
    let few : length (defaults items) ≤ 1 = grind (arith, nat_tests, known.once) in
    record {
      long = c.length;
      there = subst (λ m. AllThere m (rest_of (defaults items)) xs) (length-over (times_of p) known.ks ∙ ap (λ m. (times_of p) * m) n) c.there;
      once = omega (arith, few, length-defaults k (items_in p));
    }

taken-in : (k : Source) (p : R.Parts) (t : SvType) (m : Checked (List (Option Key))) (xs : List PatternItem) → ((keys : List (Option Key)) → m ≡ Ok keys → length keys ≡ length (keyed_keys (item_keys (items_in p))))
    → where_whole m (λ ks. or_unfit k (tick_of p) (taken_by t (parts_of (pattern_of k p)) (all_keys ks))) ≡ Ok xs → Taken k p t xs
taken-in k p t (Ok keys) xs h e = taken-from k p t keys xs (h keys refl) (known-by k (tick_of p) t (parts_of (pattern_of k p)) keys (all_keys keys) xs refl e)
taken-in k p t (Err x) xs h e = absurd (cc)

pub taken-so : (k : Source) (p : R.Parts) (t : SvType) (xs : List PatternItem) → takes_in k (pattern_of k p) t ≡ Ok xs → Taken k p t xs
taken-so k p t xs h =
    let keys = keys_of (pattern_of k p).items in
    taken-in k p t (all_of (map (key_of k t) keys)) xs (λ ks e. length-all (key_of k t) keys ks e ∙ ap (λ (ls : List _). length ls) (filled-keys k (items_in p))) h

pub taking-length : (k : Source) (p : R.Parts) (t : SvType) (taking : Taking) → IsTaking k p t taking → length taking.takes ≡ length (types_in t)
taking-length k p t taking is = let r = taken-so k p t taking.takes is.takes in r.long

pub taking-fills : (k : Source) (p : R.Parts) (t : SvType) (taking : Taking) → IsTaking k p t taking → Fills k p taking
taking-fills k p t taking is = let r = taken-so k p t taking.takes is.takes in record { rest = is.rest; default = is.default; count = is.count; once = r.once }

-- what a pattern shows, and what it makes
abbrev pub tries_of : Source → R.Parts → SvType → List PatternItem → Checked (List (List Expr))
tries_of k p t xs =
    let items = written_items k (items_in p) in
    all_of (tries k (length (keyed items)) (rest_of (defaults items)) (zip xs (types_in t)) 0 items)

abbrev pub made_of : Source → R.Parts → SvType → List PatternItem → Checked (List Expr)
made_of k p t xs = all_of (map (made k (tick_of p) (written_items k (items_in p))) (zip xs (types_in t)))

abbrev end : Source → R.Parts → ℕ → SvType → List Expr → Checked Expr
end k p at t es = not_too_long k (tick_of p) (width_of t) (Ok (expr_at k at t (F.Pattern es)))

end-reason : (k : Source) (tick : ℕ) (e : Expr) (b : Bool) → reason (refused b (position k tick) 701 (Ok e)) ≡ cond b (Some (Some (break_at tick 701))) None
end-reason k tick e true = refl
end-reason k tick e false = refl

made-end : (k : Source) (p : R.Parts) (at : ℕ) (t : SvType) (m : Checked (List Expr)) → IsWhole m → reason (where_whole m (end k p at t)) ≡ length_behind None (tick_of p) t
made-end k p at t (Ok es) h = end-reason k (tick_of p) (expr_at k at t (F.Pattern es)) (nat_lt 65536 (width_of t))
made-end k p at t (Err x) h = absurd (cc)

looks-by : (k : Source) (p : R.Parts) (at : ℕ) (t : SvType) (a : Checked (List (List Expr))) (m : Checked (List Expr)) → (IsWhole a → IsWhole m)
    → reason (where_whole a (λ x. where_whole m (end k p at t))) ≡ length_behind (reason a) (tick_of p) t
looks-by k p at t (Ok x) m h = made-end k p at t m (h refl)
looks-by k p at t (Err b) m h = refl

pub fitted-looks : (k : Source) (p : R.Parts) (at : ℕ) (t : SvType) (xs : List PatternItem) → takes_in k (pattern_of k p) t ≡ Ok xs
    → reason (fitted_in k (pattern_of k p) at t) ≡ length_behind (reason (tries_of k p t xs)) (tick_of p) t
fitted-looks k p at t xs h =
    let r = taken-so k p t xs h in
    ap reason (fitted-taken k (pattern_of k p) at t xs h)
    ∙ looks-by k p at t (tries_of k p t xs) (made_of k p t xs) (λ w. made-whole k (tick_of p) (times_of p) (written_items k (items_in p)) xs (types_in t) r.there w)

pub taking-looks : (k : Source) (p : R.Parts) (at : ℕ) (t : SvType) (taking : Taking) (items : Reason) → IsTaking k p t taking
    → items ≡ reason (all_of (tries k taking.count taking.rest (zip taking.takes (types_in t)) 0 (written_items k (items_in p))))
    → length_behind items (tick_of p) t ≡ reason (fitted_in k (pattern_of k p) at t)
taking-looks k p at t taking items is h =
    ap (λ r. length_behind r (tick_of p) t)
    (h ∙ ap (λ n. reason (all_of (tries k n taking.rest (zip taking.takes (types_in t)) 0 (written_items k (items_in p))))) is.count
    ∙ ap (λ r. reason (all_of (tries k (length (keyed (written_items k (items_in p)))) r (zip taking.takes (types_in t)) 0 (written_items k (items_in p))))) is.rest)
    ∙ sym (fitted-looks k p at t taking.takes is.takes)

built-by : (k : Source) (p : R.Parts) (at : ℕ) (t : SvType) (es : List Expr) (b : Bool) → IsWhole (refused b (position k (tick_of p)) 701 (Ok (expr_at k at t (F.Pattern es)))) → refused b (position k (tick_of p)) 701 (Ok (expr_at k at t (F.Pattern es))) ≡ Ok (expr_at k at t (F.Pattern es))
built-by k p at t es true h = absurd (cc)
built-by k p at t es false h = refl

steps-by : (k : Source) (p : R.Parts) (at : ℕ) (t : SvType) (a : Checked (List (List Expr))) (m : Checked (List Expr)) → IsWhole (where_whole a (λ x. where_whole m (end k p at t)))
    → IsWhole m × ((es : List Expr) → m ≡ Ok es → where_whole a (λ x. where_whole m (end k p at t)) ≡ Ok (expr_at k at t (F.Pattern es)))
steps-by k p at t (Ok x) (Ok fs) h = (refl, λ es e. let same : fs ≡ es = cc in ap (end k p at t) same ∙ built-by k p at t es (nat_lt 65536 (width_of t)) (sym (ap (λ gs. reason (end k p at t gs)) same) ∙ h))
steps-by k p at t (Ok x) (Err y) h = absurd (cc)
steps-by k p at t (Err b) m h = absurd (cc)

pub record Building (k : Source) (p : R.Parts) (at : ℕ) (t : SvType) (xs : List PatternItem) : Type 0 where
  pub whole : IsWhole (made_of k p t xs)
  pub makes : (es : List Expr) → made_of k p t xs ≡ Ok es → fitted_in k (pattern_of k p) at t ≡ Ok (expr_at k at t (F.Pattern es))

pub taking-builds : (k : Source) (p : R.Parts) (at : ℕ) (t : SvType) (taking : Taking) → IsTaking k p t taking → IsWhole (fitted_in k (pattern_of k p) at t) → Building k p at t taking.takes
taking-builds k p at t taking is w =
    let e = fitted-taken k (pattern_of k p) at t taking.takes is.takes in
    let r = steps-by k p at t (tries_of k p t taking.takes) (made_of k p t taking.takes) (sym (ap reason e) ∙ w) in
    record { whole = r.0; makes = λ es m. e ∙ r.1 es m }

pub ruleset fitting = (taking-looks)
