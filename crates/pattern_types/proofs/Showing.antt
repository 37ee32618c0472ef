-- What items show, step by step.
use Rattle.std.proofs.Common.{◌≡◌, ℕ, zero, suc, ◌+◌, ◌%◌, Bool, true, false, cond, List, [], ◌∷◌, ◌++◌, length, replicate, Option, Some, None, refl, arith, ap, sym, ◌∙◌}
use Rattle.std.specs.Prelude.{flat_map, slice_get, zip, ◌||◌}
use Rattle.std.specs.List.{list_any}
use native.Mathlib.Nat.{mod-zero}
use Rattle.sv_types.specs.declared.types.SvType.{SvType}
use Rattle.pattern_fit.specs.declared.pattern.PatternItem.{PatternItem}
use Rattle.pattern_fit.specs.declared.pattern.PatternItem.TheVariants as I
use Rattle.pattern_fit.specs.declared.pattern.Rest.{Rest}
use Rattle.expr_type.specs.Answers.{reason}
use Rattle.expr_type.specs.Names.{Source}
use Rattle.expr_type.specs.Operands.{Operand, is_value}
use Rattle.expr_type.specs.Patterns.{Item, Taken, by_item, default_types, is_default, is_item, tried, tries}
use Rattle.expr_type.specs.Typings.{all_of}
use Rattle.pattern_types.specs.declared.wanted.Wanted.{Wanted}
use Rattle.pattern_types.specs.declared.wanted.Wanted.TheVariants as W
use Rattle.pattern_types.specs.Leaves.{number_behind, wanted_at, wanted_in, wanted_types, wants}
use Rattle.pattern_laws.specs.Reasons.{Reason, followed_by, lesser_tried, or_alone, tried_over}
use Rattle.pattern_laws.proofs.Order.{tried-assoc, tried-none}
use Rattle.pattern_laws.proofs.Reasons.{followed-assoc, reason-all}
use Rattle.pattern_laws.proofs.Tried.{HereGiven, over-append, over-again, tried-is}

pub by-zero : (m n : ℕ) → n ≡ 0 → m % n ≡ m
by-zero m n e = ap (λ k. m % k) e ∙ mod-zero m

pub ruleset remainders = (by-zero)

any-by : (f : PatternItem → Bool) (x y : PatternItem) (b : Bool) → x ≡ y → f y ≡ true → (f x || b) ≡ true
any-by f x y b e h = ap (λ z. f z || b) e ∙ ap (λ c. c || b) h

pub any-at : (w : Wanted) (count : ℕ) (xs : List PatternItem) (n : ℕ) (x : PatternItem) → slice_get xs n ≡ Some x → wants w count x ≡ true → list_any (wants w count) xs ≡ true
any-at w count [] n x at h = absurd (cc)
any-at w count (y ∷ ys) zero x at h = any-by (wants w count) y x (list_any (wants w count) ys) (cc) h
any-at w count (y ∷ ys) (suc n) x at h = ap (λ c. wants w count y || c) (any-at w count ys n x at h) ∙ or-true (wants w count y)
  where
    or-true : (c : Bool) → (c || true) ≡ true
    or-true true = refl
    or-true false = refl

pub ruleset somewhere = (any-at)

-- one member more
wanted-by : (k : Source) (v : Operand) (seen look : Option Reason) (ts us : List SvType) → look ≡ tried_over k v ts
    → lesser_tried (lesser_tried seen look) (tried_over k v us) ≡ lesser_tried seen (tried_over k v (ts ++ us))
wanted-by k v seen look ts us h =
    tried-assoc seen look (tried_over k v us) ∙ ap (λ r. lesser_tried seen (lesser_tried r (tried_over k v us))) h ∙ ap (λ r. lesser_tried seen r) (sym (over-append k v ts us))

pub is-wanted : (k : Source) (v : Operand) (w : Wanted) (count : ℕ) (rest : Rest) (seen look : Option Reason) (x : PatternItem) (t : SvType) (ps : List Taken) → wants w count x ≡ true
    → look ≡ tried_over k v (wanted_in w rest t)
    → lesser_tried (lesser_tried seen look) (tried_over k v (wanted_types w count rest ps)) ≡ lesser_tried seen (tried_over k v (wanted_types w count rest ((x, t) ∷ ps)))
is-wanted k v w count rest seen look x t ps is h =
    wanted-by k v seen look (wanted_in w rest t) (wanted_types w count rest ps) h
    ∙ sym (ap (λ b. lesser_tried seen (tried_over k v (cond b (wanted_in w rest t) [] ++ wanted_types w count rest ps))) is)

pub not-wanted : (k : Source) (v : Operand) (w : Wanted) (count : ℕ) (rest : Rest) (seen : Option Reason) (x : PatternItem) (t : SvType) (ps : List Taken) → wants w count x ≡ false
    → lesser_tried seen (tried_over k v (wanted_types w count rest ps)) ≡ lesser_tried seen (tried_over k v (wanted_types w count rest ((x, t) ∷ ps)))
not-wanted k v w count rest seen x t ps is =
    sym (ap (λ b. lesser_tried seen (tried_over k v (cond b (wanted_in w rest t) [] ++ wanted_types w count rest ps))) is)

pub one-leaf : (k : Source) (v : Operand) (seen look : Option Reason) (ts us : List SvType) → look ≡ tried_over k v ts
    → lesser_tried (lesser_tried seen look) (tried_over k v us) ≡ lesser_tried seen (tried_over k v (ts ++ us))
one-leaf = wanted-by

-- elements are of one type
abbrev copies : Wanted → ℕ → Rest → List PatternItem → SvType → List SvType
copies w count rest xs t = wanted_types w count rest (zip xs (replicate (length xs) t))

none-by : (w : Wanted) (count : ℕ) (rest : Rest) (x : PatternItem) (xs : List PatternItem) (t : SvType) (b : Bool) → (b || list_any (wants w count) xs) ≡ false
    → (list_any (wants w count) xs ≡ false → copies w count rest xs t ≡ []) → cond b (wanted_in w rest t) [] ++ copies w count rest xs t ≡ []
none-by w count rest x xs t true h more = absurd (cc)
none-by w count rest x xs t false h more = more h

none-wanted : (w : Wanted) (count : ℕ) (rest : Rest) (xs : List PatternItem) (t : SvType) → list_any (wants w count) xs ≡ false → copies w count rest xs t ≡ []
none-wanted w count rest [] t h = refl
none-wanted w count rest (x ∷ xs) t h = none-by w count rest x xs t (wants w count x) h (λ g. none-wanted w count rest xs t g)

pub none-tried : (k : Source) (v : Operand) (w : Wanted) (count : ℕ) (rest : Rest) (xs : List PatternItem) (t : SvType) → list_any (wants w count) xs ≡ false
    → tried_over k v (wanted_types w count rest (zip xs (replicate (length xs) t))) ≡ None
none-tried k v w count rest xs t h = ap (tried_over k v) (none-wanted w count rest xs t h)

again-by : (k : Source) (v : Operand) (ts us : List SvType) (c : Bool) → (c ≡ true → tried_over k v us ≡ tried_over k v ts) → (c ≡ false → us ≡ []) → tried_over k v (ts ++ us) ≡ tried_over k v ts
again-by k v ts us true h g =
    over-append k v ts us ∙ ap (λ r. lesser_tried (tried_over k v ts) r) (h refl) ∙ sym (over-append k v ts ts) ∙ over-again k v ts
again-by k v ts us false h g = over-append k v ts us ∙ ap (λ xs. lesser_tried (tried_over k v ts) (tried_over k v xs)) (g refl) ∙ tried-none (tried_over k v ts)

some-by : (k : Source) (v : Operand) (w : Wanted) (count : ℕ) (rest : Rest) (x : PatternItem) (xs : List PatternItem) (t : SvType) (b c : Bool) → list_any (wants w count) xs ≡ c → (b || c) ≡ true
    → (c ≡ true → tried_over k v (copies w count rest xs t) ≡ tried_over k v (wanted_in w rest t))
    → tried_over k v (cond b (wanted_in w rest t) [] ++ copies w count rest xs t) ≡ tried_over k v (wanted_in w rest t)
some-by k v w count rest x xs t true c is h more = again-by k v (wanted_in w rest t) (copies w count rest xs t) c more (λ e. none-wanted w count rest xs t (is ∙ e))
some-by k v w count rest x xs t false c is h more = more h

pub some-tried : (k : Source) (v : Operand) (w : Wanted) (count : ℕ) (rest : Rest) (xs : List PatternItem) (t : SvType) → list_any (wants w count) xs ≡ true
    → tried_over k v (wanted_types w count rest (zip xs (replicate (length xs) t))) ≡ tried_over k v (wanted_in w rest t)
some-tried k v w count rest [] t h = absurd (cc)
some-tried k v w count rest (x ∷ xs) t h =
    some-by k v w count rest x xs t (wants w count x) (list_any (wants w count) xs) refl h (λ e. some-tried k v w count rest xs t e)

-- the same types once and more often
pub leaves-again : (k : Source) (v : Operand) (f : SvType → List SvType) (n : ℕ) (t : SvType) → tried_over k v (flat_map f (replicate (n + 1) t)) ≡ tried_over k v (f t)
leaves-again k v f zero t = over-append k v (f t) [] ∙ tried-none (tried_over k v (f t))
leaves-again k v f (suc n) t =
    let e : suc n + 1 ≡ suc (n + 1) = omega arith in
    ap (λ m. tried_over k v (flat_map f (replicate m t))) e ∙ over-append k v (f t) (flat_map f (replicate (n + 1) t)) ∙ ap (λ r. lesser_tried (tried_over k v (f t)) r) (leaves-again k v f n t)
    ∙ sym (over-append k v (f t) (f t)) ∙ over-again k v (f t)

-- one item more
default-one : (rest : Rest) (count : ℕ) (x : PatternItem) (t : SvType) → default_types rest (x, t) ≡ cond (wants W.Default count x) (wanted_in W.Default rest t) []
default-one rest count (I.Item m) t = refl
default-one rest count I.Default t = refl
default-one rest count I.Spread t = refl

defaults-are : (rest : Rest) (count : ℕ) (ps : List Taken) → flat_map (default_types rest) ps ≡ wanted_types W.Default count rest ps
defaults-are rest count [] = refl
defaults-are rest count (p ∷ ps) =
    ap (λ ts. ts ++ flat_map (default_types rest) ps) (default-one rest count p.0 p.1) ∙ ap (λ us. cond (wants W.Default count p.0) (wanted_in W.Default rest p.1) [] ++ us) (defaults-are rest count ps)

item-one : (rest : Rest) (count n : ℕ) (x : PatternItem) (t : SvType) → cond (is_item count n x) (t ∷ []) [] ≡ cond (wants (W.Numbered n) count x) (wanted_in (W.Numbered n) rest t) []
item-one rest count n (I.Item m) t = refl
item-one rest count n I.Default t = refl
item-one rest count n I.Spread t = refl

items-are : (rest : Rest) (count n : ℕ) (ps : List Taken) → by_item count n ps ≡ wanted_types (W.Numbered n) count rest ps
items-are rest count n [] = refl
items-are rest count n (p ∷ ps) =
    ap (λ ts. ts ++ by_item count n ps) (item-one rest count n p.0 p.1) ∙ ap (λ us. cond (wants (W.Numbered n) count p.0) (wanted_in (W.Numbered n) rest p.1) [] ++ us) (items-are rest count n ps)

tries-by : (k : Source) (count : ℕ) (rest : Rest) (ps : List Taken) (n : ℕ) (i : Item) (is : List Item) (b : Bool)
    → cond b (tried k i.value (flat_map (default_types rest) ps) ∷ tries k count rest ps n is) (tried k i.value (by_item count n ps) ∷ tries k count rest ps (suc n) is)
    ≡ tried k i.value (wanted_types (cond b W.Default (W.Numbered n)) count rest ps) ∷ tries k count rest ps (number_behind (cond b W.Default (W.Numbered n)) n) is
tries-by k count rest ps n i is true = ap (λ ts. tried k i.value ts ∷ tries k count rest ps n is) (defaults-are rest count ps)
tries-by k count rest ps n i is false = ap (λ ts. tried k i.value ts ∷ tries k count rest ps (suc n) is) (items-are rest count n ps)

pub one-item : (k : Source) (count : ℕ) (rest : Rest) (ps : List Taken) (n : ℕ) (i : Item) (is : List Item) (seen look : Reason) (o : Option Reason) → HereGiven k i.value
    → look ≡ or_alone (reason (is_value k i.value)) o → o ≡ tried_over k i.value (wanted_types (wanted_at i.key n) count rest ps)
    → followed_by (followed_by seen look) (reason (all_of (tries k count rest ps (number_behind (wanted_at i.key n) n) is))) ≡ followed_by seen (reason (all_of (tries k count rest ps n (i ∷ is))))
one-item k count rest ps n i is seen look o here h g =
    let ts = wanted_types (wanted_at i.key n) count rest ps in
    let later = reason (all_of (tries k count rest ps (number_behind (wanted_at i.key n) n) is)) in
    followed-assoc seen look later
    ∙ ap (λ r. followed_by seen (followed_by r later)) (h ∙ ap (or_alone (reason (is_value k i.value))) g ∙ sym (tried-is k i.value ts here))
    ∙ ap (λ r. followed_by seen r) (sym (reason-all (tried k i.value ts) (tries k count rest ps (number_behind (wanted_at i.key n) n) is)))
    ∙ ap (λ xs. followed_by seen (reason (all_of xs))) (sym (tries-by k count rest ps n i is (is_default i.key)))

pub ruleset showing = (none-tried)
