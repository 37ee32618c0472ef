-- The items of a `case` that have values, and its `default`.
use Rattle.std.proofs.Common.{◌≡◌, Bool, true, false, cond, List, [], ◌∷◌, ◌++◌, map, reverse, Option, Some, None, refl, sym, ap, ◌∙◌, append_assoc}
use Rattle.std.proofs.lemmas.List.{map-append, reverse-append, reverse-reverse}
use Rattle.sv_types.specs.declared.statement.CaseItem as T
use Rattle.sv_types.specs.declared.statement.Stmt.{Stmt}
use Rattle.expr_type.specs.declared.operand.Valued.{Valued}
use Rattle.expr_type.specs.Operators.{exprs}
use Rattle.expr_type.specs.Statements as D
use Rattle.stmt_types.specs.declared.cases.CaseItem.{CaseItem}
use Rattle.stmt_types.specs.Cases.{default_bodies, item_of}

pub exprs-more : (vs : List Valued) (v : Valued) → exprs (vs ++ v ∷ []) ≡ exprs vs ++ v.expr ∷ []
exprs-more vs v = map-append (λ (u : Valued). u.expr) vs (v ∷ [])

abbrev with_values : D.CaseItem → List T.CaseItem
with_values c = cond c.is_default [] (record { values = exprs c.values; body = c.body } ∷ [])

none-behind : (xs : List T.CaseItem) → xs ++ [] ≡ xs
none-behind [] = refl
none-behind (x ∷ xs) = ap (λ (ys : List T.CaseItem). x ∷ ys) (none-behind xs)

items-more : (cs : List D.CaseItem) (c : D.CaseItem) → D.case_items (cs ++ c ∷ []) ≡ D.case_items cs ++ with_values c
items-more [] c = none-behind (with_values c)
items-more (d ∷ cs) c = ap (λ (xs : List T.CaseItem). with_values d ++ xs) (items-more cs c) ∙ sym (append_assoc (with_values d) (D.case_items cs) (with_values c))

-- what stands at each `default`, the first of them in front
abbrev default_in : CaseItem → List Stmt
default_in c = cond c.is_default (c.body ∷ []) []

no-more : (xs : List Stmt) → xs ++ [] ≡ xs
no-more [] = refl
no-more (x ∷ xs) = ap (λ (ys : List Stmt). x ∷ ys) (no-more xs)

bodies-more : (cs : List CaseItem) (c : CaseItem) → default_bodies (cs ++ c ∷ []) ≡ default_bodies cs ++ default_in c
bodies-more [] c = no-more (default_in c)
bodies-more (d ∷ cs) c = ap (λ (xs : List Stmt). default_in d ++ xs) (bodies-more cs c) ∙ sym (append_assoc (default_in d) (default_bodies cs) (default_in c))

abbrev first_body : List Stmt → Option Stmt
first_body [] = None
first_body (s ∷ ss) = Some s

default-is : (cs : List CaseItem) → D.default_body (map item_of cs) ≡ first_body (default_bodies cs)
default-is [] = refl
default-is (c ∷ cs) = by c.is_default (default-is cs)
  where
    by : (b : Bool) → D.default_body (map item_of cs) ≡ first_body (default_bodies cs)
        → cond b (Some c.body) (D.default_body (map item_of cs)) ≡ first_body (cond b (c.body ∷ []) [] ++ default_bodies cs)
    by true e = refl
    by false e = e

-- the last one of a list that is reversed
pub none-first : (bodies : List Stmt) (cs : List CaseItem) → bodies ≡ default_bodies cs → reverse bodies ≡ [] → None ≡ D.default_body (map item_of cs)
none-first bodies cs h e = sym (default-is cs ∙ ap first_body (sym h ∙ sym (reverse-reverse bodies) ∙ ap reverse e))

pub one-first : (bodies rest : List Stmt) (s : Stmt) (cs : List CaseItem) → bodies ≡ default_bodies cs → reverse bodies ≡ rest ++ s ∷ [] → Some s ≡ D.default_body (map item_of cs)
one-first bodies rest s cs h e = sym (default-is cs ∙ ap first_body (sym h ∙ sym (reverse-reverse bodies) ∙ ap reverse e ∙ reverse-append rest (s ∷ [])))

pub ruleset defaults = (none-first, one-first)

more : (cs : List CaseItem) (c : CaseItem) → map item_of (cs ++ c ∷ []) ≡ map item_of cs ++ item_of c ∷ []
more cs c = map-append item_of cs (c ∷ [])

-- one more `default`
pub default-items : (cs : List CaseItem) (c : CaseItem) → c.is_default ≡ true → D.case_items (map item_of (cs ++ c ∷ [])) ≡ D.case_items (map item_of cs)
default-items cs c h =
    ap D.case_items (more cs c) ∙ items-more (map item_of cs) (item_of c)
    ∙ ap (λ (b : Bool). D.case_items (map item_of cs) ++ cond b [] (record { values = exprs c.values.items; body = c.body } ∷ [])) h ∙ none-behind (D.case_items (map item_of cs))

pub default-more : (cs : List CaseItem) (c : CaseItem) → c.is_default ≡ true → default_bodies (cs ++ c ∷ []) ≡ default_bodies cs ++ c.body ∷ []
default-more cs c h = bodies-more cs c ∙ ap (λ (b : Bool). default_bodies cs ++ cond b (c.body ∷ []) []) h

-- one more item with values
pub valued-items : (cs : List CaseItem) (c : CaseItem) → c.is_default ≡ false → D.case_items (map item_of (cs ++ c ∷ [])) ≡ D.case_items (map item_of cs) ++ record { values = exprs c.values.items; body = c.body } ∷ []
valued-items cs c h =
    ap D.case_items (more cs c) ∙ items-more (map item_of cs) (item_of c)
    ∙ ap (λ (b : Bool). D.case_items (map item_of cs) ++ cond b [] (record { values = exprs c.values.items; body = c.body } ∷ [])) h

pub valued-more : (cs : List CaseItem) (c : CaseItem) → c.is_default ≡ false → default_bodies (cs ++ c ∷ []) ≡ default_bodies cs
valued-more cs c h = bodies-more cs c ∙ ap (λ (b : Bool). default_bodies cs ++ cond b (c.body ∷ []) []) h ∙ no-more (default_bodies cs)

pub ruleset splits = (exprs-more, default-items, default-more, valued-items, valued-more)
