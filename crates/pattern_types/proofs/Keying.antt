-- Keys of items, one by one and all of them.
use Rattle.std.proofs.Common.{◌≡◌, ℕ, suc, ◌+◌, ◌-◌, ◌<◌, ◌≤◌, ◌++◌, arith, append_assoc, append-nil, Bool, true, false, cond, ℤ, List, [], ◌∷◌, map, Option, Some, None, refl, ap, sym, ◌∙◌}
use Rattle.std.specs.Prelude.{Ok, ◌&&◌, ◌||◌, is_some}
use Rattle.sv_types.specs.declared.types.SvType.{SvType}
use Rattle.pattern_fit.specs.declared.pattern.Key.{Key}
use Rattle.expr_type.specs.Answers.{reason}
use Rattle.expr_type.specs.Names.{Source}
use Rattle.expr_type.specs.Patterns.{all_keys, and_key, has_members, key_of_number, times_over}
use Rattle.expr_type.specs.Typings.{Checked, all_of, joined, where_whole}
use Rattle.pattern_types.specs.declared.operand.NameKey.{NameKey}
use Rattle.pattern_types.specs.declared.operand.NameKey.TheVariants as N
use Rattle.pattern_types.specs.declared.operand.ItemKey.{ItemKey}
use Rattle.pattern_types.specs.declared.operand.ItemKey.TheVariants as I
use Rattle.pattern_types.specs.Keys.{all_stand, index_key, number_of_name, plain_key, reason_of_key, reason_of_keys, reason_of_name, stands}
use Rattle.pattern_types.specs.Meaning.{key_of, key_of_name}
use Rattle.pattern_laws.specs.Reasons.{followed_by}
use Rattle.pattern_laws.proofs.Reasons.{followed-left, followed-right, reason-all}

name-reason : (k : Source) (n : NameKey) → reason (key_of_name k n) ≡ reason_of_name n
name-reason k (N.Number n) = refl
name-reason k N.Nothing = refl
name-reason k (N.Breaks at rule) = refl
name-reason k N.Quiet = refl

named-reason : (k : Source) (b : Bool) (key : Key) (n : NameKey) → reason (cond {A = Checked (Option Key)} b (Ok (Some key)) (key_of_name k n)) ≡ cond b None (reason_of_name n)
named-reason k true key n = refl
named-reason k false key n = name-reason k n

key-reason : (k : Source) (t : SvType) (key : ItemKey) → reason (key_of k t key) ≡ reason_of_key (has_members t) key
key-reason k t I.InPlace = refl
key-reason k t I.ByDefault = refl
key-reason k t (I.Named of otherwise) = named-reason k (has_members t) _ otherwise
key-reason k t (I.Numbered n) = refl

pub keys-reason : (k : Source) (t : SvType) (keys : List ItemKey) → reason (all_of (map (key_of k t) keys)) ≡ reason_of_keys (has_members t) keys
keys-reason k t [] = refl
keys-reason k t (key ∷ keys) =
    reason-all (key_of k t key) (map (key_of k t) keys) ∙ ap (λ r. followed_by r (reason (all_of (map (key_of k t) keys)))) (key-reason k t key)
    ∙ ap (λ r. followed_by (reason_of_key (has_members t) key) r) (keys-reason k t keys)

-- what a key without breaks stands for
abbrev pub option_key : Source → Bool → ItemKey → Option Key
option_key k members key = cond (stands members key) (Some (plain_key k members key)) None

number-key : (n : Option ℤ) → key_of_number n ≡ cond (is_some n) (Some (index_key n)) None
number-key None = refl
number-key (Some i) = refl

name-key : (k : Source) (n : NameKey) → reason_of_name n ≡ None → key_of_name k n ≡ Ok (cond (is_some (number_of_name n)) (Some (index_key (number_of_name n))) None)
name-key k (N.Number n) h = ap (λ (o : Option Key). Ok o) (number-key n)
name-key k N.Nothing h = refl
name-key k (N.Breaks at rule) h = absurd (cc)
name-key k N.Quiet h = absurd (cc)

named-key : (k : Source) (b : Bool) (key : Key) (n : NameKey) → cond b None (reason_of_name n) ≡ None
    → cond {A = Checked (Option Key)} b (Ok (Some key)) (key_of_name k n) ≡ Ok (cond (b || is_some (number_of_name n)) (Some (cond b key (index_key (number_of_name n)))) None)
named-key k true key n h = refl
named-key k false key n h = name-key k n h

key-whole : (k : Source) (t : SvType) (key : ItemKey) → reason_of_key (has_members t) key ≡ None → key_of k t key ≡ Ok (option_key k (has_members t) key)
key-whole k t I.InPlace h = refl
key-whole k t I.ByDefault h = refl
key-whole k t (I.Named of otherwise) h = named-key k (has_members t) _ otherwise h
key-whole k t (I.Numbered n) h = ap (λ (o : Option Key). Ok o) (number-key n)

all-more : (x : Checked (Option Key)) (xs : List (Checked (Option Key))) (a : Option Key) (as' : List (Option Key)) → x ≡ Ok a → all_of xs ≡ Ok as' → all_of (x ∷ xs) ≡ Ok (a ∷ as')
all-more x xs a as' h g =
    ap (λ y. where_whole (joined y (all_of xs)) (λ p. Ok (p.0 ∷ p.1))) h ∙ ap (λ ys. where_whole (joined (Ok a) ys) (λ p. Ok (p.0 ∷ p.1))) g

pub keys-whole : (k : Source) (t : SvType) (keys : List ItemKey) → reason_of_keys (has_members t) keys ≡ None → all_of (map (key_of k t) keys) ≡ Ok (map (option_key k (has_members t)) keys)
keys-whole k t [] h = refl
keys-whole k t (key ∷ keys) h =
    let r = reason_of_keys (has_members t) keys in
    all-more (key_of k t key) (map (key_of k t) keys) (option_key k (has_members t) key) (map (option_key k (has_members t)) keys)
    (key-whole k t key (followed-left (reason_of_key (has_members t) key) r h)) (keys-whole k t keys (followed-right (reason_of_key (has_members t) key) r h))

and-by : (b c : Bool) (key : Key) (keys : List Key) → and_key (cond b (Some key) None) (cond c (Some keys) None) ≡ cond (b && c) (Some (key ∷ keys)) None
and-by true true key keys = refl
and-by true false key keys = refl
and-by false c key keys = refl

pub keys-all : (k : Source) (members : Bool) (keys : List ItemKey) → all_keys (map (option_key k members) keys) ≡ cond (all_stand members keys) (Some (map (plain_key k members) keys)) None
keys-all k members [] = refl
keys-all k members (key ∷ keys) =
    ap (λ o. and_key (option_key k members key) o) (keys-all k members keys)
    ∙ and-by (stands members key) (all_stand members keys) (plain_key k members key) (map (plain_key k members) keys)

-- keys so many times over
pub times-more : (n i : ℕ) (ks made : List Key) → i < n → (made ++ ks) ++ times_over (n - (i + 1)) ks ≡ made ++ times_over (n - i) ks
times-more n i ks made h =
    let e : n - i ≡ suc (n - (i + 1)) = omega arith in
    append_assoc made ks (times_over (n - (i + 1)) ks) ∙ sym (ap (λ m. made ++ times_over m ks) e)

pub times-end : (n i : ℕ) (ks made : List Key) → n ≤ i → made ++ times_over (n - i) ks ≡ made
times-end n i ks made h = let e : n - i ≡ 0 = omega arith in ap (λ m. made ++ times_over m ks) e ∙ append-nil made

pub times-all : (n i : ℕ) (ks : List Key) → i ≡ 0 → [] ++ times_over (n - i) ks ≡ times_over n ks
times-all n i ks h = let e : n - i ≡ n = omega arith in ap (λ m. times_over m ks) e

pub ruleset times = (times-more, times-end, times-all)
