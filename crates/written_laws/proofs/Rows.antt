-- What rows of the source grammar have in any text.
use Rattle.std.proofs.Common.{◌≡◌, ℕ, zero, suc, ◌+◌, Bool, true, false, ◌&&◌, ◌==◌, List, [], ◌∷◌, Option, Some, None, refl, sym, ap, ◌∙◌, subst, arith}
use Rattle.std.specs.Prelude.{if◌then◌else◌, slice_get}
use Rattle.std.proofs.lemmas.Bool.{eq-eqb}
use Rattle.ll_engine.specs.declared.table.Part.{Part}
use Rattle.ll_engine.specs.declared.table.Row.{Row}
use Rattle.ll_engine.specs.declared.tree.Tree.{Tree}
use Rattle.sv_tree.specs.Heads as head
use Rattle.sv_tree.specs.Table.{table}
use Rattle.expr_build.specs.declared.rows.TheConstants as E
use Rattle.sv_build.specs.declared.rows.TheConstants as S
use Rattle.expr_build.specs.Nodes.{kids_of, kid, row_of, is_blank}
use Rattle.written_laws.proofs.Tests.{left-of, right-of}
use Rattle.written_laws.proofs.Nodes.{OfHead, Good, good, Listed, has_part, begins, is_list, kid-of, not-blank, listed}

-- a part of the head in the place of one row
abbrev pub has_in : Option Row → ℕ → ℕ → Bool
has_in None n h = false
has_in (Some row) n h = has_part row.parts n h

abbrev pub row_has : ℕ → ℕ → ℕ → Bool
row_has r n h = has_in (slice_get table r) n h

pub of-row : (r n h : ℕ) (t : Tree) → row_has r n h ≡ true → Good t → row_of t ≡ r → OfHead h (kid n t)
of-row r n h t f g e =
    kid-of n h t g.is.row (sym (ap (λ o. has_in o n h) (ap (slice_get table) (sym e) ∙ g.is.is_row.is_there)) ∙ f) g.is.fits

-- what holds of each row of a head
abbrev pub each_row : (ℕ → Row → Bool) → ℕ → List Row → Bool
each_row test n [] = true
each_row test n (row ∷ rows) = test n row && each_row test (suc n) rows

of-each : (test : ℕ → Row → Bool) (i n : ℕ) (rows : List Row) (row : Row) → each_row test n rows ≡ true → slice_get rows i ≡ Some row → test (i + n) row ≡ true
of-each test i n [] row f e = absurd (cc)
of-each test zero n (r ∷ rs) row f e =
    let same : r ≡ row = cc in
    let none : n ≡ 0 + n = omega arith in
    subst (λ m. test m row ≡ true) none (subst (λ q. test n q ≡ true) same (left-of (test n r) (each_row test (suc n) rs) f))
of-each test (suc i) n (r ∷ rs) row f e =
    let more : i + suc n ≡ suc i + n = omega arith in
    subst (λ m. test m row ≡ true) more (of-each test i (suc n) rs row (right-of (test n r) (each_row test (suc n) rs) f) e)

abbrev pub of_head : ℕ → (ℕ → List Part → Bool) → ℕ → Row → Bool
of_head h test i row = if row.head == h then test i row.parts else true

abbrev pub head_has : ℕ → (ℕ → List Part → Bool) → Bool
head_has h test = each_row (of_head h test) 0 table

of-head : (h : ℕ) (test : ℕ → List Part → Bool) (t : Tree) (o : OfHead h t) → head_has h test ≡ true → test (row_of t) o.row.parts ≡ true
of-head h test t o f =
    let all = of-each (of_head h test) (row_of t) 0 table o.row f o.is_row.is_there in
    let none : row_of t + 0 ≡ row_of t = omega arith in
    let at = subst (λ m. of_head h test m o.row ≡ true) none all in
    subst (λ (b : Bool). (if b then test (row_of t) o.row.parts else true) ≡ true) (eq-eqb o.row.head h o.is_row.is_of) at

-- the parts, the first part, and the list that each row of a head has
pub in-head : (h n g : ℕ) (t : Tree) → head_has h (λ i ps. has_part ps n g) ≡ true → OfHead h t → OfHead g (kid n t)
in-head h n g t f o = kid-of n g t o.row (of-head h (λ i ps. has_part ps n g) t o f) o.fits

pub begins-head : (h : ℕ) (t : Tree) → head_has h (λ i ps. begins ps) ≡ true → OfHead h t → is_blank t ≡ false
begins-head h t f o = not-blank t o.row (of-head h (λ i ps. begins ps) t o f) o.fits

pub lists-head : (h g m : ℕ) (t : Tree) → head_has h (λ i ps. is_list g m ps) ≡ true → OfHead h t → Listed g m (kids_of t)
lists-head h g m t f o = listed g m o.row.parts (kids_of t) (of-head h (λ i ps. is_list g m ps) t o f) o.fits

-- the part in a place, but in one row
abbrev pub but : ℕ → ℕ → ℕ → ℕ → List Part → Bool
but r n g i ps = if i == r then true else has_part ps n g

pub in-others : (h r n g : ℕ) (t : Tree) → head_has h (but r n g) ≡ true → (row_of t == r) ≡ false → OfHead h t → OfHead g (kid n t)
in-others h r n g t f e o =
    kid-of n g t o.row (subst (λ (b : Bool). (if b then true else has_part o.row.parts n g) ≡ true) e (of-head h (but r n g) t o f)) o.fits

-- expressions
pub stream-values : (t : Tree) → Good t → row_of t ≡ E.STREAM → is_blank (kid 3 t) ≡ false
unfolding table
stream-values t g e = begins-head head.expressions (kid 3 t) refl (of-row E.STREAM 3 head.expressions t refl g e)

pub replication-values : (t : Tree) → Good t → row_of t ≡ E.REPLICATION → is_blank (kid 1 t) ≡ false
unfolding table
replication-values t g e = begins-head head.expressions (kid 1 t) refl (of-row E.REPLICATION 1 head.expressions t refl g e)

-- structures and unions
pub members : (t : Tree) → Good t → row_of t ≡ E.STRUCTURE → Listed head.struct_union_member head.struct_union_member (kids_of (kid 3 t))
unfolding table
members t g e =
    lists-head head.struct_union_members head.struct_union_member head.struct_union_member (kid 3 t) refl (of-row E.STRUCTURE 3 head.struct_union_members t refl g e)

pub member-names : (t : Tree) → OfHead head.struct_union_member t → is_blank (kid 1 t) ≡ false
unfolding table
member-names t o = begins-head head.dimensioned_names (kid 1 t) refl (in-head head.struct_union_member 1 head.dimensioned_names t refl o)

-- what is assigned
pub assignments : (t : Tree) → Good t → row_of t ≡ S.ASSIGN_MODULE_ITEM → Listed head.net_assignment head.next_net_assignment (kids_of (kid 1 t))
unfolding table
assignments t g e =
    lists-head head.net_assignments head.net_assignment head.next_net_assignment (kid 1 t) refl (of-row S.ASSIGN_MODULE_ITEM 1 head.net_assignments t refl g e)

pub next-assignment : (t : Tree) → OfHead head.next_net_assignment t → OfHead head.net_assignment (kid 1 t)
unfolding table
next-assignment t o = in-head head.next_net_assignment 1 head.net_assignment t refl o

pub assigned-lvalue : (t : Tree) → OfHead head.net_assignment t → OfHead head.variable_lvalue (kid 0 t)
unfolding table
assigned-lvalue t o = in-head head.net_assignment 0 head.variable_lvalue t refl o

pub assigned-concatenation : (t : Tree) → Good t → row_of t ≡ S.CONCATENATION_ASSIGNMENT → OfHead head.lvalue_concatenation (kid 0 t)
unfolding table
assigned-concatenation t g e = of-row S.CONCATENATION_ASSIGNMENT 0 head.lvalue_concatenation t refl g e

pub lvalue-concatenation : (t : Tree) → OfHead head.variable_lvalue t → (row_of t == S.NAME_LVALUE) ≡ false → OfHead head.lvalue_concatenation (kid 0 t)
unfolding table
lvalue-concatenation t o e = in-others head.variable_lvalue S.NAME_LVALUE 0 head.lvalue_concatenation t refl e o

pub concatenation-rest : (t : Tree) → OfHead head.lvalue_concatenation t → OfHead head.lvalue_concatenation_rest (kid 1 t)
unfolding table
concatenation-rest t o = in-head head.lvalue_concatenation 1 head.lvalue_concatenation_rest t refl o

pub plain-lvalues : (t : Tree) → OfHead head.lvalue_concatenation_rest t → row_of t ≡ S.PLAIN_LVALUES → OfHead head.variable_lvalues (kid 0 t)
unfolding table
plain-lvalues t o e = of-row S.PLAIN_LVALUES 0 head.variable_lvalues t refl (good o) e

pub stream-lvalues : (t : Tree) → OfHead head.lvalue_concatenation_rest t → (row_of t == S.PLAIN_LVALUES) ≡ false → OfHead head.variable_lvalues (kid 3 t)
unfolding table
stream-lvalues t o e = in-others head.lvalue_concatenation_rest S.PLAIN_LVALUES 3 head.variable_lvalues t refl e o

pub lvalues : (t : Tree) → OfHead head.variable_lvalues t → Listed head.variable_lvalue head.next_lvalue (kids_of t)
unfolding table
lvalues t o = lists-head head.variable_lvalues head.variable_lvalue head.next_lvalue t refl o

pub next-lvalue : (t : Tree) → OfHead head.next_lvalue t → OfHead head.variable_lvalue (kid 1 t)
unfolding table
next-lvalue t o = in-head head.next_lvalue 1 head.variable_lvalue t refl o
