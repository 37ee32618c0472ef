-- Names that a scope declares: which are met before, and what they stand for.
use Rattle.std.proofs.Common.{◌≡◌, ℕ, suc, ◌+◌, Bool, true, false, List, [], ◌∷◌, ◌++◌, map, Option, Some, None, refl, sym, ap, ◌∙◌, subst, is_some, if◌then◌else◌, append_assoc, arith}
use Rattle.std.specs.Str.{bytes_eq}
use Rattle.v_tree.specs.Names.{Name}
use Rattle.v_tree.specs.Scopes.{Thing, value, local, part, bits_of, has_range, Declared, Scope, inside, is_declared, repeated}
use Rattle.v_tree.specs.StmtRules as R
use Rattle.v_tree.specs.StmtRules.{range_size, local_size, locals_size}
use Rattle.v_tree.specs.declared.items.VItem.{VItem}
use Rattle.v_tree.specs.declared.items.VLocal.{VLocal}
use Rattle.v_scopes.specs.Env.{Env, given}
use Rattle.v_scopes.specs.declared.entry.Entry.{Entry}
use Rattle.v_scopes.specs.declared.entry.Entry.TheVariants.{Value, Part}
use Rattle.v_scopes.specs.declared.entry.Kind.TheVariants.{Local}
use Rattle.v_block_names.specs.Blocks.{parts_given, locals_given}
use Rattle.v_expr_rules.specs.Seen.{plus, earlier, mark}
use Rattle.v_expr_rules.specs.Least.{cap, first}
use Rattle.v_expr_rules.specs.Things.{thing_in}
use Rattle.v_expr_rules.proofs.Saturation.{plus-cap, earlier-assoc, earlier-comm, first-append, earlier-none, none-earlier, capped-earlier}
use Rattle.v_expr_rules.proofs.Operands.{sum-of}
use Rattle.v_stmt_rules.specs.declared.statements.StmtSeen.{StmtSeen}
use Rattle.v_stmt_rules.specs.Stmts.{Told, meets, range_tokens, local_added, locals_from}

-- two pairs in another order
pub weave : (a b c d : Option ℕ) → earlier (earlier a b) (earlier c d) ≡ earlier (earlier a c) (earlier b d)
weave a b c d =
    earlier-assoc a b (earlier c d)
    ∙ ap (earlier a) (sym (earlier-assoc b c d) ∙ ap (λ x. earlier x d) (earlier-comm b c) ∙ earlier-assoc c b d)
    ∙ sym (earlier-assoc a c (earlier b d))

-- which names are met
abbrev pub Meets : Env → List Declared → Type 0
Meets met ds = (n : Name) → is_some (met n) ≡ is_declared ds n

met-by : (met : Env) (ds : List Declared) (n : Name) (b : Bool) → is_some (met n) ≡ is_declared ds n
    → is_some (if b then Some Part else met n) ≡ (if b then true else is_declared ds n)
met-by met ds n true e = refl
met-by met ds n false e = e

pub meets-more : (met : Env) (ds : List Declared) (d : Declared) → Meets met ds → Meets (meets met d.name) (d ∷ ds)
meets-more met ds d h n = met-by met ds n (bytes_eq d.name n) (h n)

-- the names before, with these behind them, the last one first
abbrev pub afters : List Declared → List Declared → List Declared
afters [] before = before
afters (d ∷ ds) before = afters ds (d ∷ before)

pub afters-append : (xs ys before : List Declared) → afters (xs ++ ys) before ≡ afters ys (afters xs before)
afters-append [] ys before = refl
afters-append (x ∷ xs) ys before = afters-append xs ys (x ∷ before)

or-more : (b : Bool) (t : ℕ) (xs ys : List ℕ) → (if b then t ∷ (xs ++ ys) else (xs ++ ys)) ≡ (if b then t ∷ xs else xs) ++ ys
or-more true t xs ys = refl
or-more false t xs ys = refl

pub repeated-append : (before xs ys : List Declared) → repeated before (xs ++ ys) ≡ repeated before xs ++ repeated (afters xs before) ys
repeated-append before [] ys = refl
repeated-append before (x ∷ xs) ys =
    ap (λ (ts : List ℕ). if is_declared before x.name then x.token ∷ ts else ts) (repeated-append (x ∷ before) xs ys)
    ∙ or-more (is_declared before x.name) x.token (repeated (x ∷ before) xs) (repeated (afters xs (x ∷ before)) ys)

pub first-repeated-append : (before xs ys : List Declared) → first (repeated before (xs ++ ys)) ≡ earlier (first (repeated before xs)) (first (repeated (afters xs before) ys))
first-repeated-append before xs ys = ap first (repeated-append before xs ys) ∙ first-append (repeated before xs) (repeated (afters xs before) ys)

first-or : (b : Bool) (t : ℕ) (ts : List ℕ) → first (if b then t ∷ ts else ts) ≡ earlier (mark b (cap t)) (first ts)
first-or true t ts = capped-earlier (Some t) _
first-or false t ts = sym (none-earlier (first ts))

pub first-repeated : (before : List Declared) (d : Declared) (ds : List Declared)
    → first (repeated before (d ∷ ds)) ≡ earlier (mark (is_declared before d.name) (cap d.token)) (first (repeated (d ∷ before) ds))
first-repeated before d ds = first-or (is_declared before d.name) d.token (repeated (d ∷ before) ds)

-- variables
range-of : (r : Option ℕ) → range_tokens r ≡ cap (range_size r)
range-of None = refl
range-of (Some left) = refl

pub record LocalsFit (t : Told) (start : Option ℕ) (ds before : List Declared) (size : ℕ) : Type 0 where
  pub size_is : t.seen.size ≡ cap size
  pub first_is : t.seen.first ≡ earlier start (first (repeated before ds))
  pub met_is : Meets t.met (afters ds before)

abbrev one : VLocal → ℕ → Declared
one l at = record { name = l.name; token = suc (at + range_size l.range); thing = value local (bits_of l.range) (has_range l.range) }

pub locals-fit : (ls : List VLocal) (at k : ℕ) (t : Told) (before : List Declared) → t.seen.size ≡ cap k → Meets t.met before
    → LocalsFit (locals_from ls (cap at) t) t.seen.first (R.locals_from ls (at + k)) before (k + locals_size ls)
locals-fit [] at k t before size met = record { size_is = size ∙ ap cap (omega arith); first_is = sym (earlier-none t.seen.first); met_is = met }
locals-fit (l ∷ ls) at k t before size met =
    let from : plus (cap at) t.seen.size ≡ cap (at + k) = sum-of (cap at) t.seen.size at k refl size in
    let token : plus (plus (cap at) t.seen.size) (plus 1 (range_tokens l.range)) ≡ cap (suc ((at + k) + range_size l.range)) =
    sum-of (plus (cap at) t.seen.size) (plus 1 (range_tokens l.range)) (at + k) (1 + range_size l.range) from (sum-of 1 (range_tokens l.range) 1 (range_size l.range) refl (range-of l.range))
    ∙ ap cap (omega arith) in
    let wide : plus t.seen.size (plus 3 (range_tokens l.range)) ≡ cap (k + local_size l) =
    sum-of t.seen.size (plus 3 (range_tokens l.range)) k (3 + range_size l.range) size (sum-of 3 (range_tokens l.range) 3 (range_size l.range) refl (range-of l.range)) in
    let d : Declared = one l (at + k) in
    let next : Told = record { seen = local_added l (plus (cap at) t.seen.size) t.seen (is_some (t.met l.name)); met = meets t.met l.name } in
    let rest = locals-fit ls at (k + local_size l) next (d ∷ before) wide (meets-more t.met before d met) in
    let place : at + (k + local_size l) ≡ (at + k) + local_size l = omega arith in
    record {
      size_is = rest.size_is ∙ ap cap (omega arith);
      first_is =
          rest.first_is
          ∙ (λ i. earlier (earlier t.seen.first (mark (met l.name i) (token i))) (first (repeated (d ∷ before) (R.locals_from ls (place i)))))
          ∙ earlier-assoc t.seen.first (mark (is_declared before l.name) (cap (suc ((at + k) + range_size l.range)))) (first (repeated (d ∷ before) (R.locals_from ls ((at + k) + local_size l))))
          ∙ ap (earlier t.seen.first) (sym (first-repeated before d (R.locals_from ls ((at + k) + local_size l))));
      met_is = subst (λ n. Meets (locals_from ls (cap at) next).met (afters (R.locals_from ls n) (d ∷ before))) place rest.met_is;
    }

-- what names stand for
inside-at : (xs ys : List Declared) (o : Scope) (n : Name) → inside (xs ++ ys) o n ≡ inside xs (inside ys o) n
inside-at [] ys o n = refl
inside-at (x ∷ xs) ys o n = ap (λ t. if bytes_eq x.name n then Some x.thing else t) (inside-at xs ys o n)

pub inside-append : (xs ys : List Declared) (o : Scope) → inside (xs ++ ys) o ≡ inside xs (inside ys o)
inside-append xs ys o = λ i n. inside-at xs ys o n i

abbrev pub things : List VItem → Env → Scope
things items env = λ n. thing_in items (env n)

pub thing-if : (items : List VItem) (b : Bool) (e : Entry) (o : Option Entry) (t : Thing) (u : Option Thing) → thing_in items (Some e) ≡ Some t → thing_in items o ≡ u
    → thing_in items (if b then Some e else o) ≡ (if b then Some t else u)
thing-if items true e o t u is rest = is
thing-if items false e o t u is rest = rest

locals-at : (items : List VItem) (ls : List VLocal) (at : ℕ) (env : Env) (n : Name) → thing_in items (locals_given ls env n) ≡ inside (R.locals_from ls at) (things items env) n
locals-at items [] at env n = refl
locals-at items (l ∷ ls) at env n =
    thing-if items (bytes_eq l.name n) (Value Local l.range) (locals_given ls env n) (value local (bits_of l.range) (has_range l.range)) _ refl (locals-at items ls (at + local_size l) env n)

pub things-locals : (items : List VItem) (ls : List VLocal) (at : ℕ) (env : Env) → things items (locals_given ls env) ≡ inside (R.locals_from ls at) (things items env)
things-locals items ls at env = λ i n. locals-at items ls at env n i

abbrev pub AllParts : List Declared → Type 0
AllParts [] = Unit {0}
AllParts (d ∷ ds) = (d.thing ≡ part) × AllParts ds

pub parts-append : (xs ys : List Declared) → AllParts xs → AllParts ys → AllParts (xs ++ ys)
parts-append [] ys h k = k
parts-append (x ∷ xs) ys h k = (h.0, parts-append xs ys h.1 k)

abbrev pub names_of : List Declared → List Name
names_of ds = map (λ (d : Declared). d.name) ds

parts-at : (items : List VItem) (ds : List Declared) (env : Env) (n : Name) → AllParts ds → thing_in items (parts_given (names_of ds) env n) ≡ inside ds (things items env) n
parts-at items [] env n h = refl
parts-at items (d ∷ ds) env n h =
    thing-if items (bytes_eq d.name n) Part (parts_given (names_of ds) env n) d.thing _ (ap Some (sym h.0)) (parts-at items ds env n h.1)

pub things-parts : (items : List VItem) (ds : List Declared) (env : Env) → AllParts ds → things items (parts_given (names_of ds) env) ≡ inside ds (things items env)
things-parts items ds env h = λ i n. parts-at items ds env n h i

pub names-append : (xs ys : List Declared) → names_of (xs ++ ys) ≡ names_of xs ++ names_of ys
names-append [] ys = refl
names-append (x ∷ xs) ys = ap (λ (ns : List Name). x.name ∷ ns) (names-append xs ys)
