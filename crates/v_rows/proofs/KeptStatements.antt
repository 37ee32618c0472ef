-- Parts of one kind taken away leave those of another.
use Rattle.std.proofs.Common.{◌≡◌, List, refl}
use Rattle.std.proofs.lemmas.Bool.{false≢true}
use Rattle.v_tree.specs.declared.parts.VPart.{VPart}
use Rattle.v_tree.specs.declared.parts.VPart.TheVariants as P
use Rattle.v_tree.specs.Parts.{first_of, all_of, as_branch, as_case_item, as_case_items, as_case_kind, as_else, as_expr, as_label, as_later, as_local, as_lval, as_name, as_stmt}
use Rattle.v_parts.specs.Taking.{without}
use Rattle.v_parts.proofs.Apart.{Apart, kept-first, kept-all}

name-expr : Apart as_name as_expr
name-expr (P.Name x) e = refl
name-expr p e = absurd (false≢true e)

expr-branch : Apart as_expr as_branch
expr-branch (P.Expr x) e = refl
expr-branch p e = absurd (false≢true e)

expr-else : Apart as_expr as_else
expr-else (P.Expr x) e = refl
expr-else p e = absurd (false≢true e)

branch-else : Apart as_branch as_else
branch-else (P.Branch x) e = refl
branch-else p e = absurd (false≢true e)

case_kind-expr : Apart as_case_kind as_expr
case_kind-expr (P.CaseKind x) e = refl
case_kind-expr p e = absurd (false≢true e)

case_kind-case_items : Apart as_case_kind as_case_items
case_kind-case_items (P.CaseKind x) e = refl
case_kind-case_items p e = absurd (false≢true e)

expr-case_items : Apart as_expr as_case_items
expr-case_items (P.Expr x) e = refl
expr-case_items p e = absurd (false≢true e)

lval-later : Apart as_lval as_later
lval-later (P.Lval x) e = refl
lval-later p e = absurd (false≢true e)

lval-expr : Apart as_lval as_expr
lval-expr (P.Lval x) e = refl
lval-expr p e = absurd (false≢true e)

later-expr : Apart as_later as_expr
later-expr (P.Later x) e = refl
later-expr p e = absurd (false≢true e)

label-stmt : Apart as_label as_stmt
label-stmt (P.Label x) e = refl
label-stmt p e = absurd (false≢true e)

name-local : Apart as_name as_local
name-local (P.Name x) e = refl
name-local p e = absurd (false≢true e)

case_items-case_item : Apart as_case_items as_case_item
case_items-case_item (P.CaseItems x) e = refl
case_items-case_item p e = absurd (false≢true e)

branch-expr : Apart as_branch as_expr
branch-expr (P.Branch x) e = refl
branch-expr p e = absurd (false≢true e)

pub first-name-expr : (ps : List VPart) → first_of as_expr (without as_name ps) ≡ first_of as_expr ps
first-name-expr = kept-first as_name as_expr name-expr

pub first-expr-branch : (ps : List VPart) → first_of as_branch (without as_expr ps) ≡ first_of as_branch ps
first-expr-branch = kept-first as_expr as_branch expr-branch

pub first-expr-else : (ps : List VPart) → first_of as_else (without as_expr ps) ≡ first_of as_else ps
first-expr-else = kept-first as_expr as_else expr-else

pub first-branch-else : (ps : List VPart) → first_of as_else (without as_branch ps) ≡ first_of as_else ps
first-branch-else = kept-first as_branch as_else branch-else

pub first-case_kind-expr : (ps : List VPart) → first_of as_expr (without as_case_kind ps) ≡ first_of as_expr ps
first-case_kind-expr = kept-first as_case_kind as_expr case_kind-expr

pub first-case_kind-case_items : (ps : List VPart) → first_of as_case_items (without as_case_kind ps) ≡ first_of as_case_items ps
first-case_kind-case_items = kept-first as_case_kind as_case_items case_kind-case_items

pub first-expr-case_items : (ps : List VPart) → first_of as_case_items (without as_expr ps) ≡ first_of as_case_items ps
first-expr-case_items = kept-first as_expr as_case_items expr-case_items

pub first-lval-later : (ps : List VPart) → first_of as_later (without as_lval ps) ≡ first_of as_later ps
first-lval-later = kept-first as_lval as_later lval-later

pub first-lval-expr : (ps : List VPart) → first_of as_expr (without as_lval ps) ≡ first_of as_expr ps
first-lval-expr = kept-first as_lval as_expr lval-expr

pub first-later-expr : (ps : List VPart) → first_of as_expr (without as_later ps) ≡ first_of as_expr ps
first-later-expr = kept-first as_later as_expr later-expr

pub all-label-stmt : (ps : List VPart) → all_of as_stmt (without as_label ps) ≡ all_of as_stmt ps
all-label-stmt = kept-all as_label as_stmt label-stmt

pub all-name-local : (ps : List VPart) → all_of as_local (without as_name ps) ≡ all_of as_local ps
all-name-local = kept-all as_name as_local name-local

pub all-case_items-case_item : (ps : List VPart) → all_of as_case_item (without as_case_items ps) ≡ all_of as_case_item ps
all-case_items-case_item = kept-all as_case_items as_case_item case_items-case_item

pub all-branch-expr : (ps : List VPart) → all_of as_expr (without as_branch ps) ≡ all_of as_expr ps
all-branch-expr = kept-all as_branch as_expr branch-expr

pub ruleset kept = (first-name-expr, first-expr-branch, first-expr-else, first-branch-else, first-case_kind-expr, first-case_kind-case_items, first-expr-case_items, first-lval-later, first-lval-expr, first-later-expr, all-label-stmt, all-name-local, all-case_items-case_item, all-branch-expr)
