-- Selectors and items of a `case`.
use Rattle.std.proofs.Common.{◌≡◌, ℕ, zero, suc, ◌+◌, ◌<◌, ◌≤◌, max, Bool, true, false, ◌&&◌, List, [], ◌∷◌, ◌++◌, length, map, drop, get_or, Option, Some, None, refl, arith, ap, sym, ◌∙◌}
use Rattle.std.specs.List.{list_any}
use Rattle.std.proofs.Math.ListN.{drop_of_length-le}
use Rattle.std.proofs.lemmas.List.{length-map}
use Rattle.b4_core.specs.declared.bit.Bit4.{Bit4}
use Rattle.row_machine.specs.Valuation.{Valuation}
use Rattle.v_tree.specs.declared.statements.VCaseItem.{VCaseItem}
use Rattle.v_tree.specs.declared.statements.VCaseKind.{VCaseKind}
use Rattle.v_meaning.specs.Scopes.{Scope}
use Rattle.v_meaning.specs.Values.{Meaning}
use Rattle.v_meaning.specs.Runs as R
use Rattle.v_meaning.specs.Runs.{Run, State, current, one_of, widest, all_signed, matches, first_match}
use Rattle.v_meaning.specs.Statements.{Doing, Item, nothing, item_runs, item_values, otherwise, any_item, cases}
use Rattle.v_eval.specs.declared.operators.Context.{Context}
use Rattle.v_eval.specs.Limits.{Limits}
use Rattle.v_eval.specs.Scopes.{own}
use Rattle.v_eval.proofs.Loops.{at-front}
use Rattle.v_exec.specs.Choices.{item_of, values_of, widened, is_default_item, IsDefault, Chooses, ChoosesIn}
use Rattle.v_exec.specs.Limits.{ItemLimits, widest_of, values_in, most_at}

-- widths and signs
widened-both : (xs ys : List Meaning) (at : Context) (sc : Scope) → widened at (xs ++ ys) sc ≡ widened (widened at xs sc) ys sc
widened-both [] ys at sc = refl
widened-both (x ∷ xs) ys at sc = widened-both xs ys (record { width = max at.width (x.width sc); signed = at.signed && x.signed }) sc

values-next : (o : Option (List Meaning)) (b : Doing) (is : List Item) → item_values (record { values = o; body = b } ∷ is) ≡ values_of (record { values = o; body = b }) ++ item_values is
values-next None b is = refl
values-next (Some ms) b is = refl

pub widened-next : (i : Item) (is : List Item) (vs : List Meaning) (at new all : Context) (sc : Scope) → vs ≡ values_of i → new ≡ widened at vs sc → widened at (item_values (i ∷ is)) sc ≡ all → widened new (item_values is) sc ≡ all
widened-next i is vs at new all sc same is_new before =
    ap (λ c. widened c (item_values is) sc) (is_new ∙ ap (λ xs. widened at xs sc) same) ∙ sym (widened-both (values_of i) (item_values is) at sc)
    ∙ ap (λ xs. widened at xs sc) (sym (values-next i.values i.body is)) ∙ before

pub widest-both : (xs ys : List Limits) (sc : Scope) → widest_of (xs ++ ys) sc ≡ max (widest_of xs sc) (widest_of ys sc)
widest-both [] ys sc = omega arith
widest-both (x ∷ xs) ys sc = let h = widest-both xs ys sc in omega (arith, h)

pub widest-next : (i : ItemLimits) (is : List ItemLimits) (vs : List Limits) (w n all : ℕ) (sc : Scope) → vs ≡ i.values → n ≡ max w (widest_of vs sc) → max w (widest_of (values_in (i ∷ is)) sc) ≡ all → max n (widest_of (values_in is) sc) ≡ all
widest-next i is vs w n all sc same is_new before =
    let e : widest_of vs sc ≡ widest_of i.values sc = ap (λ xs. widest_of xs sc) same in
    let b = widest-both i.values (values_in is) sc in
    omega (arith, e, b, is_new, before)

and-assoc : (a b c : Bool) → ((a && b) && c) ≡ (a && (b && c))
and-assoc true b c = refl
and-assoc false b c = refl

and-true : (a : Bool) → (a && true) ≡ a
and-true true = refl
and-true false = refl

pub widened-all : (ms : List Meaning) (at : Context) (sc : Scope) → widened at ms sc ≡ record { width = max at.width (widest ms sc); signed = at.signed && all_signed ms }
widened-all [] at sc =
    ap (λ (n : ℕ). record { width = n; signed = at.signed }) (let e : at.width ≡ max at.width 0 = omega arith in e) ∙ ap (λ (b : Bool). record { width = max at.width 0; signed = b }) (sym (and-true at.signed))
widened-all (m ∷ ms) at sc =
    widened-all ms (record { width = max at.width (m.width sc); signed = at.signed && m.signed }) sc
    ∙ ap (λ (n : ℕ). record { width = n; signed = (at.signed && m.signed) && all_signed ms }) (let e : max (max at.width (m.width sc)) (widest ms sc) ≡ max at.width (max (m.width sc) (widest ms sc)) = omega arith in e)
    ∙ ap (λ (b : Bool). record { width = max at.width (max (m.width sc) (widest ms sc)); signed = b }) (and-assoc at.signed m.signed (all_signed ms))

pub selected : (kind : VCaseKind) (on : Meaning) (values : List Meaning) (at first : Context) (bits : List Bit4) (sc : Scope) (v : Valuation) → first ≡ own on sc → at ≡ widened first values sc → bits ≡ on.value at.width at.signed sc v
    → ◌≡◌ {A = R.Selector} (record { kind = kind; width = at.width; signed = at.signed; value = bits }) (R.selector kind on values sc v)
selected kind on values at first bits sc v of all is =
    ap (λ (b : List Bit4). record { kind = kind; width = at.width; signed = at.signed; value = b }) is
    ∙ ap (λ (c : Context). record { kind = kind; width = c.width; signed = c.signed; value = on.value c.width c.signed sc v }) (all ∙ ap (λ c. widened c values sc) of ∙ widened-all values (own on sc) sc)

-- items, one by one
first-next : (on : R.Selector) (o : Option (List Meaning)) (b : Doing) (is : List Item) (other : Run) (sc : Scope) (v : Valuation) (s : State)
    → first_match on (item_runs (record { values = o; body = b } ∷ is)) other sc v s ≡ one_of (list_any (matches on sc (current v s)) (values_of (record { values = o; body = b }))) b.run (first_match on (item_runs is) other) sc v s
first-next on None b is other sc v s = refl
first-next on (Some ms) b is other sc v s = refl

pub match-next : (on : R.Selector) (i : Item) (is : List Item) (vs : List Meaning) (b : Bool) (held : Valuation) (other : Run) (sc : Scope) (v : Valuation) (s : State) → b ≡ list_any (matches on sc held) vs → vs ≡ values_of i → held ≡ current v s
    → first_match on (item_runs (i ∷ is)) other sc v s ≡ one_of b i.body.run (first_match on (item_runs is) other) sc v s
match-next on i is vs b held other sc v s is_b same now =
    first-next on i.values i.body is other sc v s
    ∙ ap (λ c. one_of c i.body.run (first_match on (item_runs is) other) sc v s) (sym (is_b ∙ ap (λ h. list_any (matches on sc h) vs) now ∙ ap (list_any (matches on sc (current v s))) same))

pub item-at : (items : List VCaseItem) (k : ℕ) (x : VCaseItem) (d : Item) → k < length items → x ≡ get_or items k x → get_or (map item_of items) k d ≡ item_of x
item-at [] k x d h is = absurd (omega (arith, h))
item-at (i ∷ is) zero x d h e = ap item_of (sym e)
item-at (i ∷ is) (suc k) x d h e = item-at is k x d (omega (arith, h)) e

pub chose : (on : R.Selector) (items : List VCaseItem) (k : ℕ) (x : VCaseItem) (vs : List Meaning) (b : Bool) (held : Valuation) (sc : Scope) → k < length items → x ≡ get_or items k x → b ≡ list_any (matches on sc held) vs → vs ≡ values_of (item_of x)
    → b ≡ true
    → ((other : Run) (v : Valuation) (s : State) → held ≡ current v s → first_match on (item_runs (map item_of (drop k items))) other sc v s ≡ first_match on (item_runs (map item_of items)) other sc v s)
    → Chooses on (map item_of items) sc held (Some k)
chose on items k x vs b held sc inside is is_b same matched left = record {
  there = let e = length-map items item_of in omega (arith, e, inside);
  runs = λ v s now.
      (
      let other = (otherwise (map item_of items)).run in
      let rest = map item_of (drop (k + 1) items) in
      let d : Item = record { values = None; body = nothing } in
      sym (left other v s now) ∙ ap (λ xs. first_match on (item_runs (map item_of xs)) other sc v s) (at-front items k x inside is)
      ∙ match-next on (item_of x) rest vs b held other sc v s is_b same now ∙ ap (λ c. one_of c (item_of x).body.run (first_match on (item_runs rest) other) sc v s) matched
      ∙ ap (λ (i : Item). i.body.run sc v s) (sym (item-at items k x d inside is))
      );
}

pub chose-default : (on : R.Selector) (items : List VCaseItem) (k : ℕ) (o : Option ℕ) (held : Valuation) (sc : Scope) → length items ≤ k → IsDefault (map item_of items) o
    → ((other : Run) (v : Valuation) (s : State) → held ≡ current v s → first_match on (item_runs (map item_of (drop k items))) other sc v s ≡ first_match on (item_runs (map item_of items)) other sc v s)
    → Chooses on (map item_of items) sc held o
chose-default on items k o held sc behind default left = record {
  there = default.there;
  runs = λ v s now.
      (
      let other = (otherwise (map item_of items)).run in
      sym (left other v s now) ∙ ap (λ xs. first_match on (item_runs (map item_of xs)) other sc v s) (drop_of_length-le items behind) ∙ ap (λ (r : Run). r sc v s) default.runs
      );
}

-- the `default`
default-next : (o : Option (List Meaning)) (b : Doing) (is : List Item) → is_default_item (record { values = o; body = b }) ≡ false → otherwise (record { values = o; body = b } ∷ is) ≡ otherwise is
default-next None b is h = absurd (cc)
default-next (Some ms) b is h = refl

default-here : (o : Option (List Meaning)) (b : Doing) (is : List Item) → is_default_item (record { values = o; body = b }) ≡ true → otherwise (record { values = o; body = b } ∷ is) ≡ b
default-here None b is h = refl
default-here (Some ms) b is h = absurd (cc)

pub skip-item : (i : Item) (is : List Item) (c : Bool) (all : Doing) → c ≡ is_default_item i → c ≡ false → otherwise (i ∷ is) ≡ all → otherwise is ≡ all
skip-item i is c all is_c no_default before = sym (default-next i.values i.body is (sym is_c ∙ no_default)) ∙ before

pub is-default : (items : List VCaseItem) (k : ℕ) (x : VCaseItem) (c : Bool) → k < length items → x ≡ get_or items k x → c ≡ is_default_item (item_of x) → c ≡ true → otherwise (map item_of (drop k items)) ≡ otherwise (map item_of items)
    → IsDefault (map item_of items) (Some k)
is-default items k x c inside is is_c yes_default before = record {
  there = let e = length-map items item_of in omega (arith, e, inside);
  runs =
      let d : Item = record { values = None; body = nothing } in
      ap (λ (o : Doing). o.run)
      (sym before ∙ ap (λ xs. otherwise (map item_of xs)) (at-front items k x inside is) ∙ default-here (item_of x).values (item_of x).body (map item_of (drop (k + 1) items)) (sym is_c ∙ yes_default))
      ∙ ap (λ (i : Item). i.body.run) (sym (item-at items k x d inside is));
}

pub no-default : (items : List VCaseItem) (k : ℕ) → length items ≤ k → otherwise (map item_of (drop k items)) ≡ otherwise (map item_of items) → IsDefault (map item_of items) None
no-default items k behind before = record {
  there = tt;
  runs = ap (λ (o : Doing). o.run) (sym before ∙ ap (λ xs. otherwise (map item_of xs)) (drop_of_length-le items behind));
}

-- what a `case` runs
any-first : (run : Run) (o : Option (List Meaning)) (b : Doing) (is : List Item) (other : Doing) → (any_item run is other).run ≡ run → (any_item run (record { values = o; body = b } ∷ is) other).run ≡ run
any-first run None b is other rest = rest
any-first run (Some ms) b is other rest = refl

any-run : (run : Run) (items : List Item) (other : Doing) → (any_item run items other).run ≡ run
any-run run [] other = refl
any-run run (i ∷ is) other = any-first run i.values i.body is other (any-run run is other)

pub case-runs : (kind : VCaseKind) (on : Meaning) (items : List Item) (sc : Scope) (v : Valuation) (s : State) → (cases kind on items).run sc v s ≡ first_match (R.selector kind on (item_values items) sc (current v s)) (item_runs items) (otherwise items).run sc v s
unfolding cases
case-runs kind on items sc v s =
    let run : Run = λ c u t. first_match (R.selector kind on (item_values items) c (current u t)) (item_runs items) (otherwise items).run c u t in
    ap (λ (r : Run). r sc v s) (any-run run items (otherwise items))

pub chooses-in : (kind : VCaseKind) (on : Meaning) (items : List Item) (sc : Scope) (held : Valuation) (sel : R.Selector) (o : Option ℕ) → sel ≡ R.selector kind on (item_values items) sc held → Chooses sel items sc held o → ChoosesIn kind on items sc held o
chooses-in kind on items sc held sel o is c = record {
  there = c.there;
  runs = λ v s now.
      case-runs kind on items sc v s
      ∙ ap (λ x. first_match x (item_runs items) (otherwise items).run sc v s) (ap (R.selector kind on (item_values items) sc) (sym now) ∙ sym is) ∙ c.runs v s now;
}

-- the limits of the first item and of the rest
pub most-both : (w : ℕ) (xs ys : List Limits) (sc : Scope) → most_at w (xs ++ ys) sc ≡ max (most_at w xs sc) (most_at w ys sc)
most-both w [] ys sc = omega arith
most-both w (x ∷ xs) ys sc = let h = most-both w xs ys sc in omega (arith, h)

pub first-narrow : (w : ℕ) (i : ItemLimits) (is : List ItemLimits) (vs : List Limits) (sc : Scope) → vs ≡ i.values → most_at w (values_in (i ∷ is)) sc ≤ 128 → most_at w vs sc ≤ 128
first-narrow w i is vs sc same h =
    let e : most_at w vs sc ≡ most_at w i.values sc = ap (λ xs. most_at w xs sc) same in
    let b = most-both w i.values (values_in is) sc in
    omega (arith, e, b, h)

pub rest-narrow : (w : ℕ) (i : ItemLimits) (is : List ItemLimits) (sc : Scope) → most_at w (values_in (i ∷ is)) sc ≤ 128 → most_at w (values_in is) sc ≤ 128
rest-narrow w i is sc h = let b = most-both w i.values (values_in is) sc in omega (arith, b, h)
