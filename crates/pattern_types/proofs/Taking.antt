-- What the members or elements of a type take, by what was asked one after the other.
use Rattle.std.proofs.Common.{◌≡◌, ◌<◌, ℕ, ◌*◌, ◌+◌, zero, suc, Bool, true, false, not, cond, List, [], ◌∷◌, length, map, Option, Some, None, refl, arith, ap, sym, ◌∙◌, length-append, subst}
use Rattle.std.specs.Prelude.{Result, Ok, Err, ◌&&◌, ◌||◌, ◌==◌, nat_lt}
use Rattle.std.proofs.Math.Nat.{suc-mul}
use Rattle.sv_types.specs.declared.types.SvType.{SvType}
use Rattle.pattern_fit.specs.declared.pattern.Key.{Key}
use Rattle.pattern_fit.specs.declared.pattern.Pattern as F
use Rattle.pattern_fit.specs.declared.pattern.PatternItem.{PatternItem}
use Rattle.pattern_fit.specs.declared.pattern.Rest.{Rest}
use Rattle.pattern_fit.specs.declared.pattern.FitFail.{FitFail}
use Rattle.pattern_fit.specs.declared.pattern.FitFail.TheVariants as V
use Rattle.pattern_fit.specs.Fits.{fits, Gives as FitGives}
use Rattle.expr_type.specs.declared.halt.Halt.{Halt}
use Rattle.expr_type.specs.declared.halt.Halt.TheVariants as H
use Rattle.expr_type.specs.Answers.{HaltsBy, reason}
use Rattle.expr_type.specs.Names.{Source}
use Rattle.expr_type.specs.Patterns.{all_keys, count_fits, defaults, has_members, rest_of, taken_by, times_over, types_in}
use Rattle.expr_type.specs.Typings.{Checked, all_of, where_whole}
use Rattle.pattern_types.specs.declared.operand.ItemKey.{ItemKey}
use Rattle.pattern_types.specs.Meaning.{Parts}
use Rattle.pattern_types.specs.Keys.{all_near, all_stand, plain_key, reason_of_keys}
use Rattle.pattern_types.specs.Meaning.{item_keys, items_in, key_of, keyed_keys, parts_of, pattern_of, tick_of, times_of, values_of, written_items}
use Rattle.pattern_types.specs.Places.{default_from, rest_at}
use Rattle.pattern_types.specs.declared.takes.Taking.{Taking}
use Rattle.pattern_laws.specs.Reasons.{Reason}
use Rattle.pattern_types.specs.Reasons.{break_at}
use Rattle.pattern_types.specs.Takes.{TakesGive, counts_fit, or_unfit, taken_of, takes_in}
use Rattle.pattern_types.proofs.Numbers.{filled-keys, length-defaults, length-items, length-keyed, rest-is}
use Rattle.pattern_types.specs.Far.{IsTakenFar, near_bounds}
use Rattle.pattern_types.proofs.Far.{never-fits}
use Rattle.pattern_types.proofs.Keying.{keys-all, keys-reason, keys-whole}
use Rattle.pattern_laws.proofs.Reasons.{where-broken}

abbrev keys_in : Parts → List ItemKey
keys_in p = keyed_keys (item_keys (items_in p))

abbrev answer : Source → Parts → SvType → Checked (List (Option Key)) → Checked (List PatternItem)
answer k p t m = where_whole m (λ ks. or_unfit k (tick_of p) (taken_by t (parts_of (pattern_of k p)) (all_keys ks)))

takes-keys : (k : Source) (p : Parts) (t : SvType) → takes_in k (pattern_of k p) t ≡ answer k p t (all_of (map (key_of k t) (keys_in p)))
takes-keys k p t = ap (λ ks. answer k p t (all_of (map (key_of k t) ks))) (filled-keys k (items_in p))

-- keys that break rules
pub takes-broken : (k : Source) (p : Parts) (t : SvType) (h : Halt) → HaltsBy h (reason_of_keys (has_members t) (keyed_keys (item_keys (items_in p)))) → HaltsBy h (reason (takes_in k (pattern_of k p) t))
takes-broken k p t H.Memory e = tt
takes-broken k p t (H.Breaks at rule) e =
    ap reason (takes-keys k p t) ∙ where-broken (all_of (map (key_of k t) (keys_in p))) _ (Some (break_at at rule)) (keys-reason k t (keys_in p) ∙ e)
takes-broken k p t H.Quiet e =
    ap reason (takes-keys k p t) ∙ where-broken (all_of (map (key_of k t) (keys_in p))) _ None (keys-reason k t (keys_in p) ∙ e)

-- the others
abbrev plain_keys : Source → Parts → SvType → List Key
plain_keys k p t = map (plain_key k (has_members t)) (keys_in p)

abbrev stand : Parts → SvType → Bool
stand p t = all_stand (has_members t) (keys_in p)

takes-by : (k : Source) (p : Parts) (t : SvType) → reason_of_keys (has_members t) (keys_in p) ≡ None
    → takes_in k (pattern_of k p) t ≡ or_unfit k (tick_of p) (taken_by t (parts_of (pattern_of k p)) (cond (stand p t) (Some (plain_keys k p t)) None))
takes-by k p t fine =
    takes-keys k p t ∙ ap (answer k p t) (keys-whole k t (keys_in p) fine)
    ∙ ap (λ ks. or_unfit k (tick_of p) (taken_by t (parts_of (pattern_of k p)) ks)) (keys-all k (has_members t) (keys_in p))

counts-are : (k : Source) (p : Parts) (t : SvType) → (count_fits t (parts_of (pattern_of k p)) && not (nat_lt 1 (length (defaults (written_items k (items_in p)))))) ≡ counts_fit t (times_of p) (item_keys (items_in p))
counts-are k p t =
    ap (λ n. ((times_of p == 1) || (times_of p * n == length (types_in t))) && not (nat_lt 1 (length (defaults (written_items k (items_in p)))))) (length-items k (items_in p))
    ∙ ap (λ n. ((times_of p == 1) || (times_of p * length (item_keys (items_in p)) == length (types_in t))) && not (nat_lt 1 n)) (length-defaults k (items_in p))

abbrev counted : Source → Parts → SvType → Bool
counted k p t = count_fits t (parts_of (pattern_of k p)) && not (nat_lt 1 (length (defaults (written_items k (items_in p)))))

unfit-by : (k : Source) (p : Parts) (t : SvType) (b c : Bool) → (b && c) ≡ false → counted k p t ≡ c
    → reason (or_unfit k (tick_of p) (taken_by t (parts_of (pattern_of k p)) (cond b (Some (plain_keys k p t)) None))) ≡ Some (Some (break_at (tick_of p) 505))
unfit-by k p t true true h e = absurd (cc)
unfit-by k p t true false h e =
    ap (λ x. reason (or_unfit k (tick_of p) (cond x (fits t (record { keys = times_over (times_of p) (plain_keys k p t); rest = rest_of (defaults (written_items k (items_in p))) })) None))) e
unfit-by k p t false c h e = refl

pub takes-unfit : (k : Source) (p : Parts) (t : SvType) → reason_of_keys (has_members t) (keyed_keys (item_keys (items_in p))) ≡ None
    → (all_stand (has_members t) (keyed_keys (item_keys (items_in p))) && counts_fit t (times_of p) (item_keys (items_in p))) ≡ false
    → reason (takes_in k (pattern_of k p) t) ≡ Some (Some (break_at (tick_of p) 505))
takes-unfit k p t fine h = ap reason (takes-by k p t fine) ∙ unfit-by k p t (stand p t) (counts_fit t (times_of p) (item_keys (items_in p))) h (counts-are k p t)

fit-by : (k : Source) (p : Parts) (t : SvType) (b : Bool) → stand p t ≡ b → b ≡ true → counted k p t ≡ true
    → or_unfit k (tick_of p) (taken_by t (parts_of (pattern_of k p)) (cond b (Some (plain_keys k p t)) None))
    ≡ or_unfit k (tick_of p) (fits t (record { keys = times_over (times_of p) (plain_keys k p t); rest = rest_of (defaults (written_items k (items_in p))) }))
fit-by k p t true s is c =
    ap (λ x. or_unfit k (tick_of p) (cond x (fits t (record { keys = times_over (times_of p) (plain_keys k p t); rest = rest_of (defaults (written_items k (items_in p))) })) None)) c
fit-by k p t false s is c = absurd (cc)

pattern-is : (x : F.Pattern) (keys : List Key) (rest : Rest) → x.keys ≡ keys → x.rest ≡ rest → record { keys = keys; rest = rest } ≡ x
pattern-is x keys rest h g = sym (ap (λ ks. record { keys = ks; rest = x.rest }) h ∙ ap (λ r. record { keys = keys; rest = r }) g)

pub takes-fits : (k : Source) (p : Parts) (t : SvType) (x : F.Pattern) → reason_of_keys (has_members t) (keyed_keys (item_keys (items_in p))) ≡ None
    → all_stand (has_members t) (keyed_keys (item_keys (items_in p))) ≡ true → counts_fit t (times_of p) (item_keys (items_in p)) ≡ true
    → x.keys ≡ times_over (times_of p) (map (plain_key k (has_members t)) (keyed_keys (item_keys (items_in p))))
    → x.rest ≡ rest_at (values_of k (items_in p)) (default_from 0 (item_keys (items_in p)))
    → takes_in k (pattern_of k p) t ≡ or_unfit k (tick_of p) (fits t x)
takes-fits k p t x fine stands counts keys rest =
    takes-by k p t fine ∙ fit-by k p t (stand p t) refl stands (counts-are k p t ∙ counts)
    ∙ ap (λ y. or_unfit k (tick_of p) (fits t y)) (pattern-is x (times_over (times_of p) (plain_keys k p t)) (rest_of (defaults (written_items k (items_in p)))) keys (rest ∙ rest-is k (items_in p)))

-- the same as the code asks for it
pub keys-halt : (k : Source) (p : Parts) (t : SvType) (h : Halt) (b : Bool) (r : Reason) → b ≡ has_members t → r ≡ reason_of_keys b (keyed_keys (item_keys (items_in p))) → HaltsBy h r → HaltsBy h (reason (takes_in k (pattern_of k p) t))
keys-halt k p t h b r is of e =
    takes-broken k p t h (subst (λ x. HaltsBy h x) (of ∙ ap (λ c. reason_of_keys c (keyed_keys (item_keys (items_in p)))) is) e)

pub takings-so : (k : Source) (p : Parts) (t : SvType) (x : F.Pattern) (b : Bool) (r : Reason) → b ≡ has_members t → r ≡ reason_of_keys b (keyed_keys (item_keys (items_in p))) → r ≡ None
    → all_stand b (keyed_keys (item_keys (items_in p))) ≡ true → counts_fit t (times_of p) (item_keys (items_in p)) ≡ true
    → x.keys ≡ times_over (times_of p) (map (plain_key k b) (keyed_keys (item_keys (items_in p)))) → x.rest ≡ rest_at (values_of k (items_in p)) (default_from 0 (item_keys (items_in p)))
    → takes_in k (pattern_of k p) t ≡ or_unfit k (tick_of p) (fits t x)
takings-so k p t x b r is of fine stands counts keys rest =
    let all = keyed_keys (item_keys (items_in p)) in
    takes-fits k p t x (sym (of ∙ ap (λ c. reason_of_keys c all) is) ∙ fine) (sym (ap (λ c. all_stand c all) is) ∙ stands) counts
    (keys ∙ ap (λ c. times_over (times_of p) (map (plain_key k c) all)) is) rest

-- and what is then taken
pub takings-give : (k : Source) (p : Parts) (t : SvType) (x : F.Pattern) (default : Option ℕ) (count : ℕ) (takes : Result (List PatternItem) FitFail) (r : Result Taking Halt)
    → takes_in k (pattern_of k p) t ≡ or_unfit k (tick_of p) (fits t x) → x.rest ≡ rest_at (values_of k (items_in p)) default
    → default ≡ default_from 0 (item_keys (items_in p)) → count ≡ length (keyed_keys (item_keys (items_in p)))
    → FitGives takes (fits t x) → r ≡ taken_of (tick_of p) x default count takes → TakesGive k p t r
takings-give k p t x default count takes r e rest d c g is = subst (λ o. TakesGive k p t o) (sym is) (by takes g)
  where
    by : (o : Result (List PatternItem) FitFail) → FitGives o (fits t x) → TakesGive k p t (taken_of (tick_of p) x default count o)
    by (Ok xs) h = record {
      takes = e ∙ ap (or_unfit k (tick_of p)) h;
      rest = rest ∙ ap (rest_at (values_of k (items_in p))) d ∙ rest-is k (items_in p);
      default = d;
      count = c ∙ sym (length-keyed k (items_in p));
    }
    by (Err V.Memory) h = tt
    by (Err V.NoFit) h = ap reason (e ∙ ap (or_unfit k (tick_of p)) h)

-- the same as the code has it
both-true : (a b : Bool) → (a && b) ≡ true → (a ≡ true) × (b ≡ true)
both-true true b h = (refl, h)
both-true false b h = absurd (cc)

pub never-covers : (k : Source) (p : Parts) (t : SvType) (b : Bool) (r : Reason) (m : Bool) (h : Halt) → b ≡ has_members t → r ≡ reason_of_keys b (keyed_keys (item_keys (items_in p))) → r ≡ None
    → m ≡ (all_stand b (keyed_keys (item_keys (items_in p))) && counts_fit t (times_of p) (item_keys (items_in p))) → m ≡ false → h ≡ H.Breaks (tick_of p) 505 → HaltsBy h (reason (takes_in k (pattern_of k p) t))
never-covers k p t b r m h is of fine mis off e =
    let keys = keyed_keys (item_keys (items_in p)) in
    subst (λ x. HaltsBy x (reason (takes_in k (pattern_of k p) t))) (sym e)
    (takes-unfit k p t (sym (of ∙ ap (λ c. reason_of_keys c keys) is) ∙ fine)
    (sym (ap (λ c. all_stand c keys && counts_fit t (times_of p) (item_keys (items_in p))) is) ∙ sym mis ∙ off))

pub covers-give : (k : Source) (p : Parts) (t : SvType) (b : Bool) (r : Reason) (m : Bool) (x : F.Pattern) (default : Option ℕ) (count : ℕ) (takes : Result (List PatternItem) FitFail) (res : Result Taking Halt)
    → b ≡ has_members t → r ≡ reason_of_keys b (keyed_keys (item_keys (items_in p))) → r ≡ None
    → m ≡ (all_stand b (keyed_keys (item_keys (items_in p))) && counts_fit t (times_of p) (item_keys (items_in p))) → m ≡ true
    → x.keys ≡ times_over (times_of p) (map (plain_key k b) (keyed_keys (item_keys (items_in p)))) → x.rest ≡ rest_at (values_of k (items_in p)) default
    → default ≡ default_from 0 (item_keys (items_in p)) → count ≡ length (keyed_keys (item_keys (items_in p)))
    → FitGives takes (fits t x) → res ≡ taken_of (tick_of p) x default count takes → TakesGive k p t res
covers-give k p t b r m x default count takes res is of fine mis on keys rest d c g e =
    let both = both-true (all_stand b (keyed_keys (item_keys (items_in p)))) (counts_fit t (times_of p) (item_keys (items_in p))) (sym mis ∙ on) in
    takings-give k p t x default count takes res
    (takings-so k p t x b r is of fine both.0 both.1 keys (rest ∙ ap (rest_at (values_of k (items_in p))) d)) rest d c g e

pub beyond-halts : (k : Source) (p : Parts) (t : SvType) (b : Bool) (r : Reason) (m : Bool) (h : Halt)
    → b ≡ has_members t → r ≡ reason_of_keys b (keyed_keys (item_keys (items_in p))) → r ≡ None
    → m ≡ (all_stand b (keyed_keys (item_keys (items_in p))) && counts_fit t (times_of p) (item_keys (items_in p))) → m ≡ true
    → near_bounds t ≡ true → IsTakenFar (all_near b (keyed_keys (item_keys (items_in p)))) (times_of p) → h ≡ H.Breaks (tick_of p) 505 → HaltsBy h (reason (takes_in k (pattern_of k p) t))
beyond-halts k p t b r m h is of fine mis on near far e =
    let keys = keyed_keys (item_keys (items_in p)) in
    let both = both-true (all_stand b keys) (counts_fit t (times_of p) (item_keys (items_in p))) (sym mis ∙ on) in
    let rest = rest_at (values_of k (items_in p)) (default_from 0 (item_keys (items_in p))) in
    let x : F.Pattern = record { keys = times_over (times_of p) (map (plain_key k b) keys); rest = rest } in
    subst (λ y. HaltsBy y (reason (takes_in k (pattern_of k p) t))) (sym e)
    (ap reason (takings-so k p t x b r is of fine both.0 both.1 refl refl ∙ ap (or_unfit k (tick_of p)) (never-fits k b t (times_of p) keys rest near far.some far.far)))

times-length : (n : ℕ) (ks : List Key) → length (times_over n ks) ≡ n * length ks
times-length zero ks = omega arith
times-length (suc n) ks = length-append ks (times_over n ks) ∙ ap (λ m. length ks + m) (times-length n ks) ∙ omega (arith, suc-mul n (length ks))

map-length : {A B : Type 0} (f : A → B) (xs : List A) → length (map f xs) ≡ length xs
map-length f [] = refl
map-length f (x ∷ xs) = ap suc (map-length f xs)

pub keys-short : (k : Source) (n : ℕ) (b : Bool) (keys : List ItemKey) (x : List Key) → x ≡ times_over n (map (plain_key k b) keys) → n * length keys < 4294967296 → length x < 4294967296
keys-short k n b keys x is h =
    let e : length x ≡ n * length keys = ap (λ (ks : List Key). length ks) is ∙ times-length n (map (plain_key k b) keys) ∙ ap (λ m. n * m) (map-length (plain_key k b) keys) in
    subst (λ m. m < 4294967296) (sym e) h

pub ruleset takings = (takes-broken, takes-unfit)
