-- The widest of a selector and the values of items, and the statement that is made of what is whole.
use Rattle.std.proofs.Common.{◌≡◌, ◌<◌, ◌≤◌, ℕ, Bool, true, false, max, List, [], ◌∷◌, ◌++◌, flat_map, map, Option, Some, None, refl, sym, ap, ◌∙◌, subst, arith}
use Rattle.std.specs.Prelude.{Result, Ok, Err, Vec, nat_lt, ◌||◌}
use Rattle.std.specs.declared.alloc.Global.{Global}
use Rattle.std.proofs.lemmas.Bool.Decides.{nat_tests}
use Rattle.std.proofs.lemmas.List.{map-append}
use Rattle.sv_types.specs.declared.expression.Expr.{Expr}
use Rattle.sv_types.specs.declared.statement.CaseKind.{CaseKind}
use Rattle.sv_types.specs.declared.statement.Stmt.{Stmt}
use Rattle.sv_types.specs.declared.statement.Stmt.TheVariants as S
use Rattle.sv_types.specs.Meanings.{most}
use Rattle.expr_type.specs.declared.halt.Halt.{Halt}
use Rattle.expr_type.specs.declared.halt.Halt.TheVariants as H
use Rattle.expr_type.specs.declared.operand.Valued.{Valued}
use Rattle.expr_type.specs.Answers.{Gives}
use Rattle.expr_type.specs.Breaks.{Breaks}
use Rattle.expr_type.specs.Names.{Context, Source}
use Rattle.expr_type.specs.Operands.{width}
use Rattle.expr_type.specs.Statements as D
use Rattle.expr_type.specs.Typings.{Checked, all_of, joined, where_whole}
use Rattle.stmt_types.specs.declared.cases.CaseFound.{CaseFound}
use Rattle.stmt_types.specs.declared.cases.CaseItem.{CaseItem}
use Rattle.stmt_types.specs.Lists.{all_meant, as_meant, listed}
use Rattle.stmt_types.specs.Cases.{and_wide, found_by, if_wide, item_found, item_of, item_whole, joins, or_wide, wide_of, widest_found, wides}
use Rattle.stmt_types.proofs.Joins.{found-gives, joins-gives, where-fine, where-stops}

-- whether one of some numbers is over 128
pub wide-max : (m n : ℕ) → nat_lt 128 (max m n) ≡ (nat_lt 128 m || nat_lt 128 n)
wide-max m n = by (nat_lt 128 m) (nat_lt 128 n) refl refl
  where
    by : (b c : Bool) → nat_lt 128 m ≡ b → nat_lt 128 n ≡ c → nat_lt 128 (max m n) ≡ (b || c)
    by true c e f = let h : 128 < m = grind (arith, nat_tests) in let g : 128 < max m n = omega arith in grind (arith, nat_tests)
    by false true e f = let h : 128 < n = grind (arith, nat_tests) in let g : 128 < max m n = omega arith in grind (arith, nat_tests)
    by false false e f = let h : m ≤ 128 = grind (arith, nat_tests) in let j : n ≤ 128 = grind (arith, nat_tests) in let g : max m n ≤ 128 = omega arith in grind (arith, nat_tests)

most-append : (vs us : List Valued) → most (map width (vs ++ us)) ≡ max (most (map width vs)) (most (map width us))
most-append [] us = omega arith
most-append (v ∷ vs) us = let a = most-append vs us in omega arith

-- the values of items, one behind the other
abbrev values_of : Source → CaseFound → Checked (List Valued)
values_of k c = found_by k (listed c.values)

abbrev wide_all : Checked (List (List Valued)) → Option Bool
wide_all (Ok vss) = Some (nat_lt 128 (most (map width (flat_map (λ vs. vs) vss))))
wide_all (Err b) = None

wide-more : (c : Checked (List Valued)) (r : Result (List Valued) Halt) (cs : Checked (List (List Valued))) (k : Source) → c ≡ found_by k r
    → wide_all (where_whole (joined c cs) (λ p. Ok (p.0 ∷ p.1))) ≡ and_wide (wide_of r) (wide_all cs)
wide-more c (Ok vs) (Ok vss) k e =
    let us = flat_map (λ xs. xs) vss in
    ap (λ (x : Checked (List Valued)). wide_all (where_whole (joined x (Ok vss)) (λ p. Ok (p.0 ∷ p.1)))) e
    ∙ ap (λ (n : ℕ). some (nat_lt 128 n)) (most-append vs us) ∙ ap some (wide-max (most (map width vs)) (most (map width us)))
  where
    some : Bool → Option Bool
    some b = Some b
wide-more c (Ok vs) (Err b) k e = ap (λ (x : Checked (List Valued)). wide_all (where_whole (joined x (Err b)) (λ p. Ok (p.0 ∷ p.1)))) e
wide-more c (Err h) (Ok vss) k e = ap (λ (x : Checked (List Valued)). wide_all (where_whole (joined x (Ok vss)) (λ p. Ok (p.0 ∷ p.1)))) e
wide-more c (Err h) (Err b) k e = ap (λ (x : Checked (List Valued)). wide_all (where_whole (joined x (Err b)) (λ p. Ok (p.0 ∷ p.1)))) e

wide-items : (k : Source) (cs : List CaseFound) → wide_all (all_of (map (λ (c : D.CaseFound). c.values) (map (item_found k) cs))) ≡ wides cs
wide-items k [] = refl
wide-items k (c ∷ cs) =
    wide-more (values_of k c) (listed c.values) (all_of (map (λ (d : D.CaseFound). d.values) (map (item_found k) cs))) k refl
    ∙ ap (and_wide (wide_of (listed c.values))) (wide-items k cs)

-- the selector and all values
abbrev all_found : Source → Result Valued Halt → List CaseFound → Checked (Valued × List (List Valued))
all_found k on cs = joined (found_by k on) (all_of (map (λ (c : D.CaseFound). c.values) (map (item_found k) cs)))

widest-by : (v : Valued) (cs : Checked (List (List Valued))) → nat_lt 128 (D.widest (joined (Ok v) cs)) ≡ if_wide (nat_lt 128 (width v)) (wide_all cs)
widest-by v (Ok vss) = wide-max (width v) (most (map width (flat_map (λ vs. vs) vss)))
widest-by v (Err b) = refl

none-widest : (b : Breaks) (cs : Checked (List (List Valued))) → nat_lt 128 (D.widest (joined {A = Valued} (Err b) cs)) ≡ false
none-widest b (Ok vss) = refl
none-widest b (Err c) = refl

pub widest-is : (k : Source) (on : Result Valued Halt) (cs : List CaseFound) → widest_found on cs ≡ nat_lt 128 (D.widest (all_found k on cs))
widest-is k (Ok v) cs =
    sym (widest-by v (all_of (map (λ (c : D.CaseFound). c.values) (map (item_found k) cs))) ∙ ap (if_wide (nat_lt 128 (width v))) (wide-items k cs))
widest-is k (Err H.Memory) cs = sym (none-widest _ (all_of (map (λ (c : D.CaseFound). c.values) (map (item_found k) cs))))
widest-is k (Err (H.Breaks at rule)) cs = sym (none-widest _ (all_of (map (λ (c : D.CaseFound). c.values) (map (item_found k) cs))))
widest-is k (Err H.Quiet) cs = sym (none-widest _ (all_of (map (λ (c : D.CaseFound). c.values) (map (item_found k) cs))))

-- the selector and the items together
abbrev with_items : Valued × Vec CaseItem Global → Valued × List D.CaseItem
with_items p = (p.0, map item_of p.1.items)

meant-joins : (a : Result Valued Halt) (b : Result (Vec CaseItem Global) Halt) → as_meant with_items (joins a b) ≡ joins a (all_meant item_of b)
meant-joins (Ok v) (Ok b) = refl
meant-joins (Ok v) (Err h) = refl
meant-joins (Err H.Quiet) (Ok b) = refl
meant-joins (Err H.Quiet) (Err h) = refl
meant-joins (Err H.Memory) b = refl
meant-joins (Err (H.Breaks at rule)) b = refl

map-thrice : {A B C D : Type 0} (h : C → D) (g : B → C) (f : A → B) (as' : List A) → map (λ (a : A). h (g (f a))) as' ≡ map h (map g (map f as'))
map-thrice h g f [] = refl
map-thrice {D = D} h g f (a ∷ as') = ap (λ (ds : List D). h (g (f a)) ∷ ds) (map-thrice h g f as')

abbrev made_case : CaseKind → Valued × List D.CaseItem → Checked Stmt
made_case kind p = Ok (S.Case kind p.0.expr (D.case_items p.1) (D.default_body p.1))

-- what is known of both at the width of the widest
record Parts (k : Context) (on : Result Valued Halt) (cs : List CaseFound) (both : Result (Valued × Vec CaseItem Global) Halt) : Type 0 where
  gives : Gives (as_meant with_items both) (joined (D.selector_at k (D.widest (all_found k.source on cs)) (found_by k.source on)) (all_of (map D.whole_item (map (D.item_at k (D.widest (all_found k.source on cs))) (map (item_found k.source) cs)))))

parts-of : (k : Context) (on at : Result Valued Halt) (cs : List CaseFound) (wide : Bool) (items : Result (Vec CaseItem Global) Halt) (both : Result (Valued × Vec CaseItem Global) Halt)
    → wide ≡ widest_found on cs → ((l : Context) (w : ℕ) → wide ≡ nat_lt 128 w → Gives at (D.selector_at l w (found_by l.source on)))
    → ((l : Context) (w : ℕ) → wide ≡ nat_lt 128 w → Gives (all_meant item_of items) (all_of (map (item_whole l w) cs))) → both ≡ joins at items → Parts k on cs both
parts-of k on at cs wide items both is s t e =
    let w = D.widest (all_found k.source on cs) in
    let h : wide ≡ nat_lt 128 w = is ∙ widest-is k.source on cs in
    let c = D.selector_at k w (found_by k.source on) in
    let ds = map D.whole_item (map (D.item_at k w) (map (item_found k.source) cs)) in
    let same : map (item_whole k w) cs ≡ ds = map-thrice D.whole_item (D.item_at k w) (item_found k.source) cs in
    let whole : Gives (all_meant item_of items) (all_of ds) = subst (λ (xs : List (Checked D.CaseItem)). Gives (all_meant item_of items) (all_of xs)) same (t k w h) in
    let together = joins-gives at (all_meant item_of items) c (all_of ds) (s k w h) whole in
    record { gives = subst (λ (x : Result (Valued × List D.CaseItem) Halt). Gives x (joined c (all_of ds))) (sym (ap (as_meant with_items) e ∙ meant-joins at items)) together }

pub case-fine : (k : Context) (kind : CaseKind) (on at : Result Valued Halt) (cs : List CaseFound) (wide : Bool) (items : Result (Vec CaseItem Global) Halt) (p : Valued × Vec CaseItem Global) (s : Stmt)
    → wide ≡ widest_found on cs → ((l : Context) (w : ℕ) → wide ≡ nat_lt 128 w → Gives at (D.selector_at l w (found_by l.source on)))
    → ((l : Context) (w : ℕ) → wide ≡ nat_lt 128 w → Gives (all_meant item_of items) (all_of (map (item_whole l w) cs))) → Ok p ≡ joins at items
    → s ≡ S.Case kind p.0.expr (D.case_items (map item_of p.1.items)) (D.default_body (map item_of p.1.items)) → D.case_stmt k kind (found_by k.source on) (map (item_found k.source) cs) ≡ Ok s
case-fine k kind on at cs wide items p s is a t e made =
    let x = parts-of k on at cs wide items (Ok p) is a t e in
    ap (λ (c : Checked (Valued × List D.CaseItem)). where_whole c (made_case kind)) x.gives ∙ ap (λ (u : Stmt). ok u) (sym made)
  where
    ok : Stmt → Checked Stmt
    ok u = Ok u

pub case-stops : (k : Context) (kind : CaseKind) (on at : Result Valued Halt) (cs : List CaseFound) (wide : Bool) (items : Result (Vec CaseItem Global) Halt) (h : Halt)
    → wide ≡ widest_found on cs → ((l : Context) (w : ℕ) → wide ≡ nat_lt 128 w → Gives at (D.selector_at l w (found_by l.source on)))
    → ((l : Context) (w : ℕ) → wide ≡ nat_lt 128 w → Gives (all_meant item_of items) (all_of (map (item_whole l w) cs))) → Err h ≡ joins at items
    → Gives {A = Stmt} (Err h) (D.case_stmt k kind (found_by k.source on) (map (item_found k.source) cs))
case-stops k kind on at cs wide items h is a t e =
    let x = parts-of k on at cs wide items (Err h) is a t e in
    let w = D.widest (all_found k.source on cs) in
    where-stops (joined (D.selector_at k w (found_by k.source on)) (all_of (map D.whole_item (map (D.item_at k w) (map (item_found k.source) cs))))) (made_case kind) h x.gives

pub ruleset cases = (case-fine, case-stops)
