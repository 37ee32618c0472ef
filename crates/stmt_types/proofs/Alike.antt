-- A `case` of a text, by its items as they are found: the first break is the same.
use Rattle.std.proofs.Common.{◌≡◌, ℕ, Bool, List, [], ◌∷◌, map, Option, Some, None, refl, sym, ap, ◌∙◌, subst}
use Rattle.std.specs.Prelude.{Result, Ok, Err}
use Rattle.sv_types.specs.declared.statement.CaseKind.{CaseKind}
use Rattle.sv_types.specs.declared.statement.Stmt.{Stmt}
use Rattle.sv_types.specs.declared.statement.Stmt.TheVariants as S
use Rattle.expr_type.specs.declared.halt.Halt.{Halt}
use Rattle.expr_type.specs.declared.halt.Halt.TheVariants as H
use Rattle.expr_type.specs.declared.operand.Valued.{Valued}
use Rattle.expr_type.specs.Answers.{Break, Gives, first_break, or_next, reason}
use Rattle.expr_type.specs.Breaks.{Breaks, And}
use Rattle.expr_type.specs.Names.{Context, Source}
use Rattle.expr_type.specs.Statements as D
use Rattle.expr_type.specs.Typings.{Checked, all_of, joined, where_whole}
use Rattle.stmt_types.specs.declared.cases.CaseFound.{CaseFound}
use Rattle.stmt_types.specs.Lists.{listed}
use Rattle.stmt_types.specs.Cases.{AllFound, Found, Stops, found_by, item_found}

-- two things that are whole alike, or have the same first break
pub record Same {A : Type 0} (c d : Checked A) : Type 0 where
  pub stops : reason c ≡ reason d
  pub fine : (a : A) → c ≡ Ok a → d ≡ Ok a

same-ok : {A : Type 0} (a : A) → Same {A = A} (Ok a) (Ok a)
same-ok a = record { stops = refl; fine = λ b e. e }

same-err : {A : Type 0} (x y : Breaks) → Some (first_break x) ≡ Some (first_break y) → Same {A = A} (Err x) (Err y)
same-err x y e = record { stops = e; fine = λ a f. absurd (cc) }

-- what is found of a thing is as the thing
pub found-same : {A : Type 0} (k : Source) (r : Result A Halt) (m : Checked A) → Found r m → Same (found_by k r) m
found-same k (Ok a) m f = record { stops = sym (ap reason f); fine = λ b e. f ∙ e }
found-same k (Err H.Memory) m f = absurd f
found-same k (Err (H.Breaks at rule)) m f = record { stops = sym f; fine = λ a e. absurd (cc) }
found-same k (Err H.Quiet) m f = record { stops = sym f; fine = λ a e. absurd (cc) }

-- what is made of both, and of a thing that is whole
ok-is : {A : Type 0} (a b : A) → Same {A = A} (Ok a) (Ok b) → a ≡ b
ok-is a b s = let e = s.fine a refl in cc

next-same : (o p q s : Option Break) → Some o ≡ Some p → Some q ≡ Some s → Some (or_next o q) ≡ Some (or_next p s)
next-same o p q s e f = let g : o ≡ p = cc in let h : q ≡ s = cc in ap (λ (x : Option Break). Some (or_next x q)) g ∙ ap (λ (x : Option Break). Some (or_next p x)) h

pub joined-same : {A B : Type 0} (c d : Checked A) (e f : Checked B) → Same c d → Same e f → Same (joined c e) (joined d f)
joined-same {A = A} {B = B} (Ok a) (Ok b) (Ok u) (Ok v) s t =
    subst (λ (x : A). Same {A = A × B} (Ok (a, u)) (Ok (x, v))) (ok-is a b s) (subst (λ (x : B). Same {A = A × B} (Ok (a, u)) (Ok (a, x))) (ok-is u v t) (same-ok (a, u)))
joined-same (Ok a) (Ok b) (Ok u) (Err y) s t = let e = t.stops in absurd (cc)
joined-same (Ok a) (Ok b) (Err x) (Ok v) s t = let e = t.stops in absurd (cc)
joined-same (Ok a) (Ok b) (Err x) (Err y) s t = same-err x y t.stops
joined-same (Ok a) (Err z) e f s t = let g = s.stops in absurd (cc)
joined-same (Err w) (Ok b) e f s t = let g = s.stops in absurd (cc)
joined-same (Err w) (Err z) (Ok u) (Ok v) s t = same-err w z s.stops
joined-same (Err w) (Err z) (Ok u) (Err y) s t = let e = t.stops in absurd (cc)
joined-same (Err w) (Err z) (Err x) (Ok v) s t = let e = t.stops in absurd (cc)
joined-same (Err w) (Err z) (Err x) (Err y) s t = same-err (And w x) (And z y) (next-same (first_break w) (first_break z) (first_break x) (first_break y) s.stops t.stops)

pub where-same : {A B : Type 0} (c d : Checked A) (f : A → Checked B) → Same c d → Same (where_whole c f) (where_whole d f)
where-same {A = A} {B = B} (Ok a) (Ok b) f s = subst (λ (x : A). Same {A = B} (f a) (f x)) (ok-is a b s) (record { stops = refl; fine = λ u e. e })
where-same (Ok a) (Err y) f s = let e = s.stops in absurd (cc)
where-same (Err x) (Ok b) f s = let e = s.stops in absurd (cc)
where-same (Err x) (Err y) f s = same-err x y s.stops

-- a break counts whatever stands behind it
abbrev Loud : {A : Type 0} → Checked A → Type 0
Loud c = (b : Break) × (reason c ≡ Some (Some b))

loud-by : (o p : Option Break) (b : Break) → Some o ≡ Some (Some b) → Some (or_next o p) ≡ Some (Some b)
loud-by None p b e = absurd (cc)
loud-by (Some a) p b e = e

joined-loud : {A B : Type 0} (c : Checked A) (e : Checked B) (b : Break) → reason c ≡ Some (Some b) → reason (joined c e) ≡ Some (Some b)
joined-loud (Ok a) e b h = absurd (cc)
joined-loud (Err x) (Ok u) b h = h
joined-loud (Err x) (Err y) b h = loud-by (first_break x) (first_break y) b h

where-loud : {A B : Type 0} (c : Checked A) (f : A → Checked B) (b : Break) → reason c ≡ Some (Some b) → reason (where_whole c f) ≡ Some (Some b)
where-loud (Ok a) f b h = absurd (cc)
where-loud (Err x) f b h = h

loud-same : {A : Type 0} (c d : Checked A) (b : Break) → reason c ≡ Some (Some b) → reason d ≡ Some (Some b) → Same c d
loud-same (Ok a) d b h g = absurd (cc)
loud-same (Err x) d b h g = record { stops = h ∙ sym g; fine = λ a e. absurd (cc) }

-- one thing in front of others
abbrev cons : {A : Type 0} → A × List A → Checked (List A)
cons p = Ok (p.0 ∷ p.1)

cons-same : {A : Type 0} (x y : Checked A) (xs ys : List (Checked A)) → Same x y → Same (all_of xs) (all_of ys) → Same (all_of (x ∷ xs)) (all_of (y ∷ ys))
cons-same x y xs ys s t = where-same (joined x (all_of xs)) (joined y (all_of ys)) cons (joined-same x y (all_of xs) (all_of ys) s t)

all-loud : {A : Type 0} (x : Checked A) (xs : List (Checked A)) (b : Break) → reason x ≡ Some (Some b) → reason (all_of (x ∷ xs)) ≡ Some (Some b)
all-loud x xs b h = where-loud (joined x (all_of xs)) cons b (joined-loud x (all_of xs) b h)

-- the values of items
abbrev values_in : D.CaseFound → Checked (List Valued)
values_in d = d.values

behind-values : (k : Source) (r : Result (List Valued) Halt) (m : Checked (List Valued)) (xs ys : List (Checked (List Valued))) (T : Type 0) → Found r m → Stops r T
    → (T → Same (all_of xs) (all_of ys)) → Same (all_of (found_by k r ∷ xs)) (all_of (m ∷ ys))
behind-values k (Ok vs) m xs ys T f s rest = cons-same (Ok vs) m xs ys (found-same k (Ok vs) m f) (rest s)
behind-values k (Err H.Memory) m xs ys T f s rest = absurd f
behind-values k (Err (H.Breaks at rule)) m xs ys T f s rest =
    let b : Break = record { at = at; rule = rule } in
    let x = found_by k (Err (H.Breaks at rule)) in
    loud-same (all_of (x ∷ xs)) (all_of (m ∷ ys)) b (all-loud x xs b refl) (all-loud m ys b f)
behind-values k (Err H.Quiet) m xs ys T f s rest = cons-same (found_by k (Err H.Quiet)) m xs ys (found-same k (Err H.Quiet) m f) (rest s)

values-same : (k : Source) (cs : List CaseFound) (ds : List D.CaseFound) → AllFound cs ds → Same (all_of (map values_in (map (item_found k) cs))) (all_of (map values_in ds))
values-same k [] [] f = same-ok []
values-same k [] (d ∷ ds) f = absurd f
values-same k (c ∷ cs) [] f = absurd f
values-same k (c ∷ cs) (d ∷ ds) f =
    behind-values k (listed c.values) d.values (map values_in (map (item_found k) cs)) (map values_in ds) (AllFound cs ds) f.0.values f.1 (λ g. values-same k cs ds g)

-- items at a width
abbrev made_of : Bool → List Valued × Stmt → Checked D.CaseItem
made_of b p = Ok (record { is_default = b; values = p.0; body = p.1 })

abbrev values_fit : Context → ℕ → List Valued → Checked (List Valued)
values_fit k w vs = D.values_at k w (Ok vs)

abbrev item : Context → ℕ → Bool → Checked (List Valued) → Checked Stmt → Checked D.CaseItem
item k w b m n = where_whole (joined (D.values_at k w m) n) (made_of b)

values-at-same : (k : Context) (w : ℕ) (c d : Checked (List Valued)) → Same c d → Same (D.values_at k w c) (D.values_at k w d)
values-at-same k w c d s = where-same c d (values_fit k w) s

item-same : (k : Context) (w : ℕ) (b : Bool) (c d : Checked (List Valued)) (m n : Checked Stmt) → Same c d → Same m n → Same (item k w b c m) (item k w b d n)
item-same k w b c d m n s t =
    where-same (joined (D.values_at k w c) m) (joined (D.values_at k w d) n) (made_of b)
    (joined-same (D.values_at k w c) (D.values_at k w d) m n (values-at-same k w c d s) t)

item-loud : (k : Context) (w : ℕ) (b : Bool) (c : Checked (List Valued)) (m : Checked Stmt) (r : Break) → reason c ≡ Some (Some r) → reason (item k w b c m) ≡ Some (Some r)
item-loud k w b c m r h = where-loud (joined (D.values_at k w c) m) (made_of b) r (joined-loud (D.values_at k w c) m r (where-loud c (values_fit k w) r h))

behind-item : (k : Context) (w : ℕ) (b : Bool) (r : Result (List Valued) Halt) (q : Result Stmt Halt) (m : Checked (List Valued)) (n : Checked Stmt) (xs ys : List (Checked D.CaseItem)) (T : Type 0)
    → Found r m → Stops r (Found q n) → Stops r T → (T → Same (all_of xs) (all_of ys))
    → Same (all_of (item k w b (found_by k.source r) (found_by k.source q) ∷ xs)) (all_of (item k w b m n ∷ ys))
behind-item k w b (Ok vs) q m n xs ys T f g s rest =
    let c = found_by k.source q in
    cons-same (item k w b (Ok vs) c) (item k w b m n) xs ys (item-same k w b (Ok vs) m c n (found-same k.source (Ok vs) m f) (found-same k.source q n g)) (rest s)
behind-item k w b (Err H.Memory) q m n xs ys T f g s rest = absurd f
behind-item k w b (Err (H.Breaks at rule)) q m n xs ys T f g s rest =
    let e : Break = record { at = at; rule = rule } in
    let v = found_by k.source (Err (H.Breaks at rule)) in
    let c = found_by k.source q in
    loud-same (all_of (item k w b v c ∷ xs)) (all_of (item k w b m n ∷ ys)) e (all-loud (item k w b v c) xs e (item-loud k w b v c e refl))
    (all-loud (item k w b m n) ys e (item-loud k w b m n e f))
behind-item k w b (Err H.Quiet) q m n xs ys T f g s rest =
    let v = found_by k.source (Err H.Quiet) in
    let c = found_by k.source q in
    cons-same (item k w b v c) (item k w b m n) xs ys (item-same k w b v m c n (found-same k.source (Err H.Quiet) m f) (found-same k.source q n g)) (rest s)

abbrev items_at : Context → ℕ → List D.CaseFound → List (Checked D.CaseItem)
items_at k w ds = map D.whole_item (map (D.item_at k w) ds)

items-same : (k : Context) (w : ℕ) (cs : List CaseFound) (ds : List D.CaseFound) → AllFound cs ds → Same (all_of (items_at k w (map (item_found k.source) cs))) (all_of (items_at k w ds))
items-same k w [] [] f = same-ok []
items-same k w [] (d ∷ ds) f = absurd f
items-same k w (c ∷ cs) [] f = absurd f
items-same k w (c ∷ cs) (d ∷ ds) f =
    let xs = items_at k w (map (item_found k.source) cs) in
    let ys = items_at k w ds in
    let x = item k w c.is_default (found_by k.source (listed c.values)) (found_by k.source c.body) in
    subst (λ (b : Bool). Same (all_of (x ∷ xs)) (all_of (item k w b d.values d.body ∷ ys))) f.0.default
    (behind-item k w c.is_default (listed c.values) c.body d.values d.body xs ys (AllFound cs ds) f.0.values f.0.body f.1 (λ g. items-same k w cs ds g))

-- the whole
widest-same : (c d : Checked (Valued × List (List Valued))) → Same c d → D.widest c ≡ D.widest d
widest-same (Ok p) (Ok q) s = ap (λ (r : Valued × List (List Valued)). D.widest (Ok r)) (ok-is p q s)
widest-same (Ok p) (Err y) s = let e = s.stops in absurd (cc)
widest-same (Err x) (Ok q) s = let e = s.stops in absurd (cc)
widest-same (Err x) (Err y) s = refl

abbrev selector_fits : Context → ℕ → Valued → Checked Valued
selector_fits k w v = D.selector_at k w (Ok v)

abbrev made_case : CaseKind → Valued × List D.CaseItem → Checked Stmt
made_case kind p = Ok (S.Case kind p.0.expr (D.case_items p.1) (D.default_body p.1))

abbrev case_at : Context → CaseKind → Checked Valued → List D.CaseFound → ℕ → Checked Stmt
case_at k kind on ds w = where_whole (joined (D.selector_at k w on) (all_of (items_at k w ds))) (made_case kind)

case-same : (k : Context) (kind : CaseKind) (on : Result Valued Halt) (m : Checked Valued) (cs : List CaseFound) (ds : List D.CaseFound) → Found on m → AllFound cs ds
    → Same (D.case_stmt k kind (found_by k.source on) (map (item_found k.source) cs)) (D.case_stmt k kind m ds)
case-same k kind on m cs ds f g =
    let x = found_by k.source on in
    let es = map (item_found k.source) cs in
    let s = found-same k.source on m f in
    let widths = joined-same x m (all_of (map values_in es)) (all_of (map values_in ds)) s (values-same k.source cs ds g) in
    let w = D.widest (joined x (all_of (map values_in es))) in
    subst (λ (n : ℕ). Same (case_at k kind x es w) (case_at k kind m ds n)) (widest-same (joined x (all_of (map values_in es))) (joined m (all_of (map values_in ds))) widths)
    (where-same (joined (D.selector_at k w x) (all_of (items_at k w es))) (joined (D.selector_at k w m) (all_of (items_at k w ds))) (made_case kind)
    (joined-same (D.selector_at k w x) (D.selector_at k w m) (all_of (items_at k w es)) (all_of (items_at k w ds)) (where-same x m (selector_fits k w) s) (items-same k w cs ds g)))

gives-same : {A : Type 0} (r : Result A Halt) (c d : Checked A) → Same c d → Gives r c → Gives r d
gives-same (Ok a) c d s g = s.fine a g
gives-same (Err H.Memory) c d s g = tt
gives-same (Err (H.Breaks at rule)) c d s g = sym s.stops ∙ g
gives-same (Err H.Quiet) c d s g = sym s.stops ∙ g

-- what a `case` gives by its items as they are found, it gives by the items of the text
pub case-as-found : (k : Context) (kind : CaseKind) (on : Result Valued Halt) (m : Checked Valued) (cs : List CaseFound) (ds : List D.CaseFound) (r : Result Stmt Halt) → Found on m → AllFound cs ds
    → Gives r (D.case_stmt k kind (found_by k.source on) (map (item_found k.source) cs)) → Gives r (D.case_stmt k kind m ds)
case-as-found k kind on m cs ds r f g h =
    gives-same r (D.case_stmt k kind (found_by k.source on) (map (item_found k.source) cs)) (D.case_stmt k kind m ds) (case-same k kind on m cs ds f g) h
