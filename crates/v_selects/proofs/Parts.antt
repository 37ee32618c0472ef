-- Parts with few selects, and what rows take of them.
use Rattle.std.proofs.Common.{◌≡◌, ◌≤◌, ℕ, suc, Bool, true, false, ◌&&◌, List, [], ◌∷◌, ◌++◌, length, Option, Some, None, refl, arith}
use Rattle.std.specs.List.{list_all}
use Rattle.v_tree.specs.declared.parts.VPart.{VPart}
use Rattle.v_tree.specs.declared.parts.VPart.TheVariants as P
use Rattle.v_tree.specs.Grammatical.{is_perhaps}
use Rattle.v_tree.specs.Meaning.{given}
use Rattle.v_tree.specs.Parts.{all_of, first_of, second_of, second_in, with_first, or_else, listed, as_connection, as_connections, as_stmt, as_branch, as_else, as_case_item, as_case_items, as_lval, as_sel, as_sels, as_expr, as_prim, as_right, as_arms, as_args, as_item, as_module, as_something}
use Rattle.v_tree.specs.declared.expressions.VPrim.{VPrim}
use Rattle.v_tree.specs.declared.operators.VBinaryOp.{VBinaryOp}
use Rattle.v_tree.proofs.Induction.{Each}
use Rattle.v_selects.specs.Few.{few_of_expr, few_of_prim, few_of_sel, few_of_sels, few_of_lval, few_of_stmt, few_of_branch, few_of_case_item, few_of_connection, few_of_item, few_of_module}

abbrev pub few_right : VBinaryOp × VPrim → Bool
few_right r = few_of_prim r.1

abbrev pub few_arms : VPrim × VPrim → Bool
few_arms arms = few_of_prim arms.0 && few_of_prim arms.1

abbrev pub few_of_part : VPart → Bool
few_of_part (P.Connection c) = few_of_connection c
few_of_part (P.Connections cs) = list_all few_of_connection cs
few_of_part (P.Stmt s) = few_of_stmt s
few_of_part (P.Branch b) = few_of_branch b
few_of_part (P.Else b) = few_of_branch b
few_of_part (P.CaseItem c) = few_of_case_item c
few_of_part (P.CaseItems cs) = list_all few_of_case_item cs
few_of_part (P.Lval l) = few_of_lval l
few_of_part (P.Sel s) = few_of_sel s
few_of_part (P.Sels ss) = few_of_sels ss
few_of_part (P.Expr x) = few_of_expr x
few_of_part (P.Prim a) = few_of_prim a
few_of_part (P.Right op a) = few_of_prim a
few_of_part (P.Arms a b) = few_of_prim a && few_of_prim b
few_of_part (P.Args xs) = list_all few_of_expr xs
few_of_part (P.Item i) = few_of_item i
few_of_part (P.Module m) = few_of_module m
few_of_part (P.Text ms) = list_all few_of_module ms
few_of_part p = true

abbrev pub IsFew : VPart → Type 0
IsFew p = few_of_part p ≡ true

pub both : (a b : Bool) → a ≡ true → b ≡ true → (a && b) ≡ true
both true b f g = g
both false b f g = f

-- a kind that keeps a test
abbrev pub Kept : {A : Type 0} → (VPart → Option A) → (A → Bool) → Type 0
Kept kind test = (p : VPart) → IsFew p → is_perhaps test (kind p) ≡ true

or-few : {A : Type 0} (test : A → Bool) (a b : Option A) → is_perhaps test a ≡ true → is_perhaps test b ≡ true → is_perhaps test (or_else a b) ≡ true
or-few test None b f g = g
or-few test (Some x) b f g = f

with-few : {A : Type 0} (test : A → Bool) (a : Option A) (xs : List A) → is_perhaps test a ≡ true → list_all test xs ≡ true → list_all test (with_first a xs) ≡ true
with-few test None xs f g = g
with-few test (Some x) xs f g = both (test x) (list_all test xs) f g

pub first-few : {A : Type 0} (kind : VPart → Option A) (test : A → Bool) → Kept kind test → (ps : List VPart) → Each IsFew ps → is_perhaps test (first_of kind ps) ≡ true
first-few kind test k [] h = refl
first-few kind test k (p ∷ ps) h = or-few test (kind p) (first_of kind ps) (k p h.0) (first-few kind test k ps h.1)

pub all-few : {A : Type 0} (kind : VPart → Option A) (test : A → Bool) → Kept kind test → (ps : List VPart) → Each IsFew ps → list_all test (all_of kind ps) ≡ true
all-few kind test k [] h = refl
all-few kind test k (p ∷ ps) h = with-few test (kind p) (all_of kind ps) (k p h.0) (all-few kind test k ps h.1)

rest-yes : (a b : Bool) → (a && b) ≡ true → b ≡ true
rest-yes true b h = h
rest-yes false b h = absurd (cc)

first-yes : (a b : Bool) → (a && b) ≡ true → a ≡ true
first-yes true b h = refl
first-yes false b h = h

second-in-few : {A : Type 0} (test : A → Bool) (xs : List A) → list_all test xs ≡ true → is_perhaps test (second_in xs) ≡ true
second-in-few test [] h = refl
second-in-few test (x ∷ []) h = refl
second-in-few test (x ∷ y ∷ xs) h = first-yes (test y) (list_all test xs) (rest-yes (test x) (test y && list_all test xs) h)

pub second-few : {A : Type 0} (kind : VPart → Option A) (test : A → Bool) → Kept kind test → (ps : List VPart) → Each IsFew ps → is_perhaps test (second_of kind ps) ≡ true
second-few kind test k ps h = second-in-few test (all_of kind ps) (all-few kind test k ps h)

-- of a list that may be there
pub listed-few : {A : Type 0} (test : List A → Bool) (o : Option (List A)) → test [] ≡ true → is_perhaps test o ≡ true → test (listed o) ≡ true
listed-few test None e h = e
listed-few test (Some xs) e h = h

pub append-few : {A : Type 0} (test : A → Bool) (xs ys : List A) → list_all test xs ≡ true → list_all test ys ≡ true → list_all test (xs ++ ys) ≡ true
append-few test [] ys f g = g
append-few test (x ∷ xs) ys f g =
    both (test x) (list_all test (xs ++ ys)) (first-yes (test x) (list_all test xs) f) (append-few test xs ys (rest-yes (test x) (list_all test xs) f) g)

-- what needs a part of a kind
pub given-few : {A : Type 0} (test : A → Bool) (o : Option A) (f : A → VPart) → is_perhaps test o ≡ true → ((x : A) → test x ≡ true → IsFew (f x)) → IsFew (given o f)
given-few test None f h g = refl
given-few test (Some x) f h g = g x h

pub given-any : {A : Type 0} (o : Option A) (f : A → VPart) → ((x : A) → IsFew (f x)) → IsFew (given o f)
given-any None f g = refl
given-any (Some x) f g = g x

-- no more of a kind than parts
with-long : {A : Type 0} (o : Option A) (xs : List A) (n : ℕ) → length xs ≤ n → length (with_first o xs) ≤ suc n
with-long None xs n h = omega (arith, h)
with-long (Some x) xs n h = omega (arith, h)

pub all-long : {A : Type 0} (kind : VPart → Option A) (ps : List VPart) → length (all_of kind ps) ≤ length ps
all-long kind [] = omega arith
all-long kind (p ∷ ps) = with-long (kind p) (all_of kind ps) (length ps) (all-long kind ps)

-- the kinds
pub kept-connection : Kept as_connection few_of_connection
kept-connection (P.Connection c) h = h
kept-connection p h = refl

pub kept-connections : Kept as_connections (λ cs. list_all few_of_connection cs)
kept-connections (P.Connections c) h = h
kept-connections p h = refl

pub kept-stmt : Kept as_stmt few_of_stmt
kept-stmt (P.Stmt s) h = h
kept-stmt p h = refl

pub kept-branch : Kept as_branch few_of_branch
kept-branch (P.Branch b) h = h
kept-branch p h = refl

pub kept-else : Kept as_else few_of_branch
kept-else (P.Else b) h = h
kept-else p h = refl

pub kept-case_item : Kept as_case_item few_of_case_item
kept-case_item (P.CaseItem c) h = h
kept-case_item p h = refl

pub kept-case_items : Kept as_case_items (λ cs. list_all few_of_case_item cs)
kept-case_items (P.CaseItems cs) h = h
kept-case_items p h = refl

pub kept-lval : Kept as_lval few_of_lval
kept-lval (P.Lval l) h = h
kept-lval p h = refl

pub kept-sel : Kept as_sel few_of_sel
kept-sel (P.Sel s) h = h
kept-sel p h = refl

pub kept-sels : Kept as_sels few_of_sels
kept-sels (P.Sels ss) h = h
kept-sels p h = refl

pub kept-expr : Kept as_expr few_of_expr
kept-expr (P.Expr x) h = h
kept-expr p h = refl

pub kept-prim : Kept as_prim few_of_prim
kept-prim (P.Prim a) h = h
kept-prim p h = refl

pub kept-right : Kept as_right few_right
kept-right (P.Right op a) h = h
kept-right p h = refl

pub kept-arms : Kept as_arms few_arms
kept-arms (P.Arms a b) h = h
kept-arms p h = refl

pub kept-args : Kept as_args (λ xs. list_all few_of_expr xs)
kept-args (P.Args xs) h = h
kept-args p h = refl

pub kept-item : Kept as_item few_of_item
kept-item (P.Item i) h = h
kept-item p h = refl

pub kept-module : Kept as_module few_of_module
kept-module (P.Module m) h = h
kept-module p h = refl

pub kept-something : Kept as_something few_of_part
kept-something P.Nothing h = refl
kept-something p h = h
