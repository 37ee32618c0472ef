-- What a node has by its row, or by its head and the rows that it wasn't read by.
use Rattle.std.proofs.Common.{◌≡◌, ℕ, zero, suc, ◌+◌, ◌<◌, ◌≤◌, Bool, true, false, ◌&&◌, ◌||◌, ◌==◌, List, [], ◌∷◌, Option, Some, None, refl, sym, ap, ◌∙◌, subst, arith}
use Rattle.std.specs.Prelude.{if◌then◌else◌, slice_get, nat_lt}
use Rattle.std.proofs.lemmas.Bool.{eq-eqb}
use Rattle.std.proofs.lemmas.Bool.Decides.{nat_tests}
use Rattle.ll_engine.specs.declared.table.Part.{Part}
use Rattle.ll_engine.specs.declared.table.Part.TheVariants.{Term, Non, Maybe, Many, Chain}
use Rattle.ll_engine.specs.declared.table.Row.{Row}
use Rattle.ll_engine.specs.declared.tree.Tree.{Tree}
use Rattle.ll_engine.specs.Grammar.{IsRowOf}
use Rattle.sv_tree.specs.Heads as head
use Rattle.sv_tree.specs.Table.{table}
use Rattle.expr_build.specs.Nodes.{kids_of, row_of, is_none, is_blank}
use Rattle.expr_build.specs.Expressions.{nesting_limit}
use Rattle.least_laws.proofs.Tests.{left-of, right-of}
use Rattle.least_laws.proofs.Spans.{Conforms, Spans, Shape, Facts, fits, is_end, facts, lower, inside-from, rises}

module _ {h n at to : ℕ} {t : Tree} (s : Spans h n at t to) where
  shaped : (ss : List Shape) → fits ss s.row.parts ≡ true → Facts ss 0 n t at to
  shaped ss f = facts t n to ss s.row.parts 0 at (kids_of t) f refl (lower n (inside-from s.row.deep n) s.fits)

  shaped-deep : (ss : List Shape) → s.row.deep ≡ true → fits ss s.row.parts ≡ true → Facts ss 0 (suc n) t at to
  shaped-deep ss d f =
      facts t (suc n) to ss s.row.parts 0 at (kids_of t) f refl (subst (λ (b : Bool). Conforms (if b then suc n else n) s.row.parts at (kids_of t) to) d s.fits)

-- by its row
abbrev pub fits_in : List Shape → Option Row → Bool
fits_in ss None = false
fits_in ss (Some row) = fits ss row.parts

abbrev pub deep_in : Option Row → Bool
deep_in None = false
deep_in (Some row) = row.deep

module _ {h n at to : ℕ} {t : Tree} (r : ℕ) (ss : List Shape) (f : fits_in ss (slice_get table r) ≡ true) (s : Spans h n at t to) (e : row_of t ≡ r) where
  has-row : slice_get table r ≡ Some s.row
  has-row = ap (slice_get table) (sym e) ∙ s.is_row.is_there

  pub of-row : Facts ss 0 n t at to
  of-row = shaped s ss (sym (ap (fits_in ss) has-row) ∙ f)

  pub of-deep-row : deep_in (slice_get table r) ≡ true → Facts ss 0 (suc n) t at to
  of-deep-row d = shaped-deep s ss (sym (ap deep_in has-row) ∙ d) (sym (ap (fits_in ss) has-row) ∙ f)

-- what holds of each row of a head
abbrev pub each_row : (ℕ → Row → Bool) → ℕ → List Row → Bool
each_row test n [] = true
each_row test n (row ∷ rows) = test n row && each_row test (suc n) rows

of-each : (test : ℕ → Row → Bool) (i n : ℕ) (rows : List Row) (row : Row) → each_row test n rows ≡ true → slice_get rows i ≡ Some row → test (i + n) row ≡ true
of-each test i n [] row f e = absurd (cc)
of-each test zero n (r ∷ rs) row f e =
    let same : r ≡ row = cc in
    let none : n ≡ 0 + n = omega arith in
    subst (λ m. test m row ≡ true) none (subst (λ q. test n q ≡ true) same (left-of (test n r) (each_row test (suc n) rs) f))
of-each test (suc i) n (r ∷ rs) row f e =
    let more : i + suc n ≡ suc i + n = omega arith in
    subst (λ m. test m row ≡ true) more (of-each test i (suc n) rs row (right-of (test n r) (each_row test (suc n) rs) f) e)

abbrev pub of_head : ℕ → (ℕ → Row → Bool) → ℕ → Row → Bool
of_head h test i row = if row.head == h then test i row else true

abbrev pub head_has : ℕ → (ℕ → Row → Bool) → Bool
head_has h test = each_row (of_head h test) 0 table

of-head : {h n at to : ℕ} {t : Tree} (test : ℕ → Row → Bool) (s : Spans h n at t to) → head_has h test ≡ true → test (row_of t) s.row ≡ true
of-head {h} {t = t} test s f =
    let all = of-each (of_head h test) (row_of t) 0 table s.row f s.is_row.is_there in
    let none : row_of t + 0 ≡ row_of t = omega arith in
    let at' = subst (λ m. of_head h test m s.row ≡ true) none all in
    subst (λ (b : Bool). (if b then test (row_of t) s.row else true) ≡ true) (eq-eqb s.row.head h s.is_row.is_of) at'

-- by its head, but for some rows
abbrev pub is_in : ℕ → List ℕ → Bool
is_in i [] = false
is_in i (r ∷ rs) = (i == r) || is_in i rs

abbrev pub NotIn : ℕ → List ℕ → Type 0
NotIn i [] = Unit {0}
NotIn i (r ∷ rs) = ((i == r) ≡ false) × NotIn i rs

not-in : (i : ℕ) (rs : List ℕ) → NotIn i rs → is_in i rs ≡ false
not-in i [] n = refl
not-in i (r ∷ rs) n = ap (λ (b : Bool). b || is_in i rs) n.0 ∙ not-in i rs n.1

or-else : (a b : Bool) → a ≡ false → (a || b) ≡ true → b ≡ true
or-else true b e f = absurd (cc)
or-else false b e f = f

abbrev pub but : List ℕ → List Shape → ℕ → Row → Bool
but rs ss i row = is_in i rs || fits ss row.parts

pub of-others : {h n at to : ℕ} {t : Tree} (rs : List ℕ) (ss : List Shape) → head_has h (but rs ss) ≡ true → Spans h n at t to → NotIn (row_of t) rs → Facts ss 0 n t at to
of-others {t = t} rs ss f s e =
    shaped s ss (or-else (is_in (row_of t) rs) (fits ss s.row.parts) (not-in (row_of t) rs e) (of-head (but rs ss) s f))

-- by its head alone
pub of-all : {h n at to : ℕ} {t : Tree} (ss : List Shape) → head_has h (but [] ss) ≡ true → Spans h n at t to → Facts ss 0 n t at to
of-all ss f s = of-others [] ss f s tt

-- a head that may be empty, where it isn't
abbrev pub filled_but : List ℕ → List Shape → ℕ → Row → Bool
filled_but rs ss i row = is_in i rs || (is_end row.parts || fits ss row.parts)

not-empty : {n at to : ℕ} {ps : List Part} {ts : List Tree} → Conforms n ps at ts to → is_none ts ≡ false → is_end ps ≡ false
not-empty (Conforms.ended e) f = absurd (cc)
not-empty (Conforms.symbol e l is c) f = refl
not-empty (Conforms.node e there is c d) f = refl
not-empty (Conforms.left_out o c) f = refl

pub of-filled : {h n at to : ℕ} {t : Tree} (rs : List ℕ) (ss : List Shape) → head_has h (filled_but rs ss) ≡ true → Spans h n at t to → NotIn (row_of t) rs → is_blank t ≡ false
    → Facts ss 0 n t at to
of-filled {t = t} rs ss f s e b =
    shaped s ss
    (or-else (is_end s.row.parts) (fits ss s.row.parts) (not-empty s.fits b)
    (or-else (is_in (row_of t) rs) (is_end s.row.parts || fits ss s.row.parts) (not-in (row_of t) rs e) (of-head (filled_but rs ss) s f)))

-- heads that are deep
abbrev pub deep_row : ℕ → Row → Bool
deep_row i row = row.deep

pub of-deep : {h n at to : ℕ} {t : Tree} (ss : List Shape) → head_has h (but [] ss) ≡ true → head_has h deep_row ≡ true → Spans h n at t to → Facts ss 0 (suc n) t at to
of-deep {t = t} ss f d s = shaped-deep s ss (of-head deep_row s d) (or-else false (fits ss s.row.parts) refl (of-head (but [] ss) s f))

pub of-deep-others : {h n at to : ℕ} {t : Tree} (rs : List ℕ) (ss : List Shape) → head_has h (but rs ss) ≡ true → head_has h deep_row ≡ true → Spans h n at t to → NotIn (row_of t) rs
    → Facts ss 0 (suc n) t at to
of-deep-others {t = t} rs ss f d s e =
    shaped-deep s ss (of-head deep_row s d)
    (or-else (is_in (row_of t) rs) (fits ss s.row.parts) (not-in (row_of t) rs e) (of-head (but rs ss) s f))

-- Heads of which each text has a token: the first part of each row is a token or such a head.
abbrev pub filled : List ℕ
filled =
    head.expression ∷ head.logical_or ∷ head.logical_and ∷ head.bitwise_or ∷ head.bitwise_xor ∷ head.bitwise_and ∷ head.equality ∷ head.relation ∷ head.shift
    ∷ head.sum ∷ head.product ∷ head.power ∷ head.unary ∷ head.unary_operator ∷ head.primary ∷ head.keyword_type ∷ head.type_keyword ∷ head.signing
    ∷ head.data_type ∷ head.aggregate_type ∷ head.struct_union ∷ head.lvalue_concatenation ∷ head.statement ∷ head.statement_item ∷ head.conditional_statement
    ∷ head.case_keyword ∷ head.unique_priority ∷ head.inc_or_dec_operator ∷ head.block_item ∷ head.parameter_declaration ∷ head.parameter_keyword ∷ []

abbrev pub starts : List Part → Bool
starts [] = false
starts (Term a ∷ ps) = true
starts (Non g ∷ ps) = is_in g filled
starts (Maybe g ∷ ps) = false
starts (Many g ∷ ps) = false
starts (Chain g ∷ ps) = false

abbrev pub starting : ℕ → Row → Bool
starting i row = if is_in row.head filled then starts row.parts else true

all-start : each_row starting 0 table ≡ true
unfolding table
all-start = refl

row-starts : (h i : ℕ) (row : Row) → IsRowOf table h i row → is_in h filled ≡ true → starts row.parts ≡ true
row-starts h i row there f =
    subst (λ (b : Bool). (if b then starts row.parts else true) ≡ true) (ap (λ g. is_in g filled) there.is_of ∙ f) (of-each starting i 0 table row all-start there.is_there)

fill : {n at to : ℕ} {ps : List Part} {ts : List Tree} → starts ps ≡ true → Conforms n ps at ts to → at < to
fill f (Conforms.ended e) = absurd (cc)
fill f (Conforms.symbol e l is c) = let h = rises c in omega arith
fill f (Conforms.node {h = h} {p = Non g} {row = row} e there is c d) =
    let same : g ≡ h = cc in
    let a = fill (row-starts h (row_of _) row there (subst (λ q. is_in q filled ≡ true) same f)) c in
    let b = rises d in
    omega arith
fill f (Conforms.node {p = Term a} e there is c d) = absurd (cc)
fill f (Conforms.node {p = Maybe a} e there is c d) = absurd (cc)
fill f (Conforms.node {p = Many a} e there is c d) = absurd (cc)
fill f (Conforms.node {p = Chain a} e there is c d) = absurd (cc)
fill f (Conforms.left_out {p = Term a} o c) = absurd (cc)
fill f (Conforms.left_out {p = Non a} o c) = absurd (cc)
fill f (Conforms.left_out {p = Maybe a} o c) = absurd (cc)
fill f (Conforms.left_out {p = Many a} o c) = absurd (cc)
fill f (Conforms.left_out {p = Chain a} o c) = absurd (cc)

pub fill-span : {h n at to : ℕ} {t : Tree} → is_in h filled ≡ true → Spans h n at t to → at < to
fill-span {h} {t = t} f s = fill (row-starts h (row_of t) s.row s.is_row f) s.fits

-- nesting is within the limit where there is a token
by-kind : {P : Type 0} {a b : ℕ} (c : Bool) → nat_lt a b ≡ c → (a < b → P) → (b ≤ a → P) → P
by-kind true e f g = f (grind (arith, nat_tests, e))
by-kind false e f g = g (grind (arith, nat_tests, e))

in-limit : {n at to : ℕ} {ps : List Part} {ts : List Tree} → Conforms n ps at ts to → at < to → n ≤ nesting_limit
in-limit (Conforms.ended e) h = absurd (omega (arith, e))
in-limit (Conforms.symbol e l is c) h = l
in-limit (Conforms.node {n = n} {at = at} {mid = mid} {row = row} e there is c d) h =
    by-kind (nat_lt at mid) refl (λ a. let i = in-limit c a in let k = inside-from row.deep n in omega arith) (λ a. in-limit d (omega arith))
in-limit (Conforms.left_out o c) h = in-limit c h

pub deep-limit : {h n at to : ℕ} {t : Tree} → is_in h filled ≡ true → head_has h deep_row ≡ true → Spans h n at t to → suc n ≤ nesting_limit
deep-limit {n = n} f d s = subst (λ (b : Bool). (if b then suc n else n) ≤ nesting_limit) (of-head deep_row s d) (in-limit s.fits (fill-span f s))

pub span-limit : {h n at to : ℕ} {t : Tree} → is_in h filled ≡ true → Spans h n at t to → n ≤ nesting_limit
span-limit {n = n} f s = let a = inside-from s.row.deep n in let b = in-limit s.fits (fill-span f s) in omega arith
