-- `case` statements of items that have been found.
use Rattle.std.proofs.Common.{◌≡◌, ℕ, false, List, [], ◌∷◌, map, Option, Some, None, ◌⊎◌, inl, inr, refl, sym, ap, ◌∙◌, subst}
use Rattle.std.specs.Prelude.{Result, Ok, Err, Vec}
use Rattle.std.specs.declared.alloc.Global.{Global}
use Rattle.sv_tree.specs.declared.expressions.Expr.{Expr}
use Rattle.sv_tree.specs.declared.statements.CaseItem.{CaseItem}
use Rattle.sv_tree.specs.declared.statements.CaseKeyword.{CaseKeyword}
use Rattle.sv_types.specs.declared.statement.CaseKind.{CaseKind}
use Rattle.sv_types.specs.declared.statement.Function.{Function}
use Rattle.sv_types.specs.declared.statement.Stmt as R
use Rattle.sv_types.specs.declared.statement.Stmt.TheVariants as V
use Rattle.expr_type.specs.declared.halt.Halt.{Halt}
use Rattle.expr_type.specs.declared.halt.Halt.TheVariants as H
use Rattle.expr_type.specs.declared.operand.Valued.{Valued}
use Rattle.expr_type.specs.Answers.{Break, Gives, first_break, or_next, reason}
use Rattle.expr_type.specs.Breaks.{Breaks}
use Rattle.expr_type.specs.Names.{Context}
use Rattle.expr_type.specs.Statements as D
use Rattle.expr_type.specs.Statements.{CaseMeaning}
use Rattle.expr_type.specs.Typings.{Checked, Typed, Typing, all, all_of, beside, both, joined, looked_at, rule, where_whole}
use Rattle.stmt_types.specs.Cases.{AllFound, Found, Stops, found_by, item_found}
use Rattle.stmt_types.specs.Lists.{listed}
use Rattle.stmt_types.specs.declared.cases.CaseFound.{CaseFound}
use Rattle.stmt_types.proofs.Alike.{case-as-found}
use Rattle.typing_steps.specs.Steps.{TypesTo}
use Rattle.typing_steps.proofs.Combining.{beside-fine, checked-is, joined-loud, rule-types}
use Rattle.typing_stmt_parts.specs.Items.{AllFoundTo, AllGoOn, GoesOn, NotLacking, cases_of, halt_of, is_loud, item_of, items_of}
use Rattle.typing_stmt_parts.specs.Meanings.{case_meaning}
use Rattle.typing_stmt_parts.proofs.Finding.{found-by, known-by}
use Rattle.typing_stmt_parts.proofs.Rows.{items-whole}

-- it breaks a rule
abbrev Loud : {A : Type 0} → Checked A → Type 0
Loud c = (b : Break) × (reason c ≡ Some (Some b))

loud-first : {A B : Type 0} (c : Checked A) (d : Checked B) → Loud c → Loud (joined c d)
loud-first c d l = (l.0, joined-loud c d l.0 l.1)

loud-next : (o : Option Break) (p : Option Break) (b : Break) → Some p ≡ Some (Some b) → (c : Break) × (Some (or_next o p) ≡ Some (Some c))
loud-next (Some a) p b e = (a, refl)
loud-next None p b e = (b, e)

loud-second : {A B : Type 0} (c : Checked A) (d : Checked B) → Loud d → Loud (joined c d)
loud-second c (Ok b) l = let e = l.1 in absurd (cc)
loud-second (Ok a) (Err y) l = l
loud-second (Err x) (Err y) l = loud-next (first_break x) (first_break y) l.0 l.1

loud-where : {A B : Type 0} (c : Checked A) (f : A → Checked B) → Loud c → Loud (where_whole c f)
loud-where (Ok a) f l = let e = l.1 in absurd (cc)
loud-where (Err x) f l = l

-- where the values of an item break a rule, so does the `case`
abbrev items_at : Context → ℕ → List D.CaseFound → List (Checked D.CaseItem)
items_at k w ds = map D.whole_item (map (D.item_at k w) ds)

abbrev cons : D.CaseItem × List D.CaseItem → Checked (List D.CaseItem)
cons p = Ok (p.0 ∷ p.1)

loud-item : (k : Context) (w : ℕ) (d : D.CaseFound) → Loud d.values → Loud (D.whole_item (D.item_at k w d))
loud-item k w d l =
    loud-where (joined (D.values_at k w d.values) d.body) (λ p. Ok (record { is_default = d.is_default; values = p.0; body = p.1 }))
    (loud-first (D.values_at k w d.values) d.body (loud-where d.values (λ vs. D.values_at k w (as_whole vs)) l))
  where
    as_whole : List Valued → Checked (List Valued)
    as_whole vs = Ok vs

loud-here : (k : Context) (w : ℕ) (d : D.CaseFound) (ds : List D.CaseFound) → Loud d.values → Loud (all_of (items_at k w (d ∷ ds)))
loud-here k w d ds l =
    let x = D.whole_item (D.item_at k w d) in
    loud-where (joined x (all_of (items_at k w ds))) cons (loud-first x (all_of (items_at k w ds)) (loud-item k w d l))

loud-behind : (k : Context) (w : ℕ) (d : D.CaseFound) (ds : List D.CaseFound) → Loud (all_of (items_at k w ds)) → Loud (all_of (items_at k w (d ∷ ds)))
loud-behind k w d ds l =
    let x = D.whole_item (D.item_at k w d) in
    loud-where (joined x (all_of (items_at k w ds))) cons (loud-second x (all_of (items_at k w ds)) l)

either-by : (k : Context) (w : ℕ) (d : D.CaseFound) (ds : List D.CaseFound) (r : Result (List Valued) Halt) (F T G : Type 0) → Found r d.values → Stops r F → Stops r G
    → (F → G → T ⊎ Loud (all_of (items_at k w ds))) → T ⊎ Loud (all_of (items_at k w (d ∷ ds)))
either-by k w d ds (Ok vs) F T G f s g on = elim (on s g) [ inl t ↦ inl t | inr l ↦ inr (loud-behind k w d ds l) ]
either-by k w d ds (Err H.Memory) F T G f s g on = absurd f
either-by k w d ds (Err (H.Breaks at n)) F T G f s g on = inr (loud-here k w d ds (record { at = at; rule = n }, f))
either-by k w d ds (Err H.Quiet) F T G f s g on = elim (on s g) [ inl t ↦ inl t | inr l ↦ inr (loud-behind k w d ds l) ]

either : (k : Context) (w : ℕ) (cs : List CaseFound) (ds : List D.CaseFound) (T : Type 0) → AllFound cs ds → AllGoOn cs T → T ⊎ Loud (all_of (items_at k w ds))
either k w [] ds T f g = inl g
either k w (c ∷ cs) [] T f g = absurd f
either k w (c ∷ cs) (d ∷ ds) T f g = either-by k w d ds (listed c.values) (AllFound cs ds) T (AllGoOn cs T) f.0.values f.1 g (λ h t. either k w cs ds T h t)

abbrev width_of_all : Checked Valued → List D.CaseFound → ℕ
width_of_all m ds = D.widest (joined m (all_of (map (λ (c : D.CaseFound). c.values) ds)))

abbrev made_case : CaseKind → Valued × List D.CaseItem → Checked R.Stmt
made_case kind p = Ok (V.Case kind p.0.expr (D.case_items p.1) (D.default_body p.1))

case-loud : (k : Context) (kind : CaseKind) (m : Checked Valued) (ds : List D.CaseFound) → Loud (all_of (items_at k (width_of_all m ds) ds)) → Loud (D.case_stmt k kind m ds)
case-loud k kind m ds l =
    let w = width_of_all m ds in
    loud-where (joined (D.selector_at k w m) (all_of (items_at k w ds))) (made_case kind) (loud-second (D.selector_at k w m) (all_of (items_at k w ds)) l)

-- where the selector breaks a rule too
selector-loud : (k : Context) (kind : CaseKind) (m : Checked Valued) (ds : List D.CaseFound) (b : Break) → reason m ≡ Some (Some b) → reason (D.case_stmt k kind m ds) ≡ Some (Some b)
selector-loud k kind (Ok v) ds b e = absurd (cc)
selector-loud k kind (Err x) ds b e =
    let w = width_of_all (Err x) ds in
    where-reason (joined (broken x) (all_of (items_at k w ds))) (joined-loud (broken x) (all_of (items_at k w ds)) b e)
  where
    broken : Breaks → Checked Valued
    broken y = Err y

    where-reason : (c : Checked (Valued × List D.CaseItem)) → reason c ≡ Some (Some b) → reason (where_whole c (made_case kind)) ≡ Some (Some b)
    where-reason (Ok p) h = absurd (cc)
    where-reason (Err y) h = h

-- what is given where something breaks a rule
loud-types : {A : Type 0} (r : Result A Halt) (c : Checked A) (fs gs : List Function) → Loud c → Gives r c → TypesTo r (rule c fs) gs
loud-types (Ok a) c fs gs l g = let e = l.1 in let h = ap reason g in absurd (cc)
loud-types (Err H.Memory) c fs gs l g = tt
loud-types (Err (H.Breaks at n)) c fs gs l g = g
loud-types (Err H.Quiet) c fs gs l g = let e = l.1 in absurd (cc)

-- the statement of a selector and items
abbrev chosen : Context → CaseKeyword → Expr → List CaseItem → Typing R.Stmt
chosen k keyword sought items = both (looked_at (D.condition k sought)) (items_of k items) (λ v cs. rule (D.case_stmt k (D.case_kind keyword) v cs))

rows-same : (k : Context) (items : List CaseItem) → map (item_of k) items ≡ map (λ (c : CaseMeaning). c k) (map case_meaning items)
rows-same k [] = refl
rows-same k (x ∷ xs) = ap (λ (ts : List (Typing D.CaseFound)). item_of k x ∷ ts) (rows-same k xs)

as-cases : (k : Context) (keyword : CaseKeyword) (sought : Expr) (items : List CaseItem) (fs gs : List Function) (r : Result R.Stmt Halt) → TypesTo r (chosen k keyword sought items fs) gs → TypesTo r (cases_of k keyword sought items fs) gs
as-cases k keyword sought items fs gs r p =
    subst (λ (ts : List (Typing D.CaseFound)). TypesTo r (both (looked_at (D.condition k sought)) (all ts) (λ v cs. rule (D.case_stmt k (D.case_kind keyword) v cs)) fs) gs) (rows-same k items) p

goes-on-is : {A : Type 0} (s u : Result A Halt) → GoesOn s (Ok u) → u ≡ s
goes-on-is (Ok a) u g = cc
goes-on-is (Err H.Memory) u g = absurd (cc)
goes-on-is (Err (H.Breaks at n)) u g = absurd (cc)
goes-on-is (Err H.Quiet) u g = cc

goes-on-quiet : {A : Type 0} (s u : Result A Halt) → GoesOn s (Ok u) → is_loud s ≡ false
goes-on-quiet (Ok a) u g = refl
goes-on-quiet (Err H.Memory) u g = absurd (cc)
goes-on-quiet (Err (H.Breaks at n)) u g = absurd (cc)
goes-on-quiet (Err H.Quiet) u g = refl

not-lacking : {A : Type 0} (s : Result A Halt) → is_loud s ≡ false → NotLacking s (Ok tt)
not-lacking (Ok a) n = refl
not-lacking (Err H.Memory) n = absurd (cc)
not-lacking (Err (H.Breaks at rule)) n = absurd (cc)
not-lacking (Err H.Quiet) n = refl

row-is : (t : Typed (List D.CaseFound)) (ds : List D.CaseFound) → t.result ≡ Ok ds → TypesTo (Ok ds) t t.functions
row-is t ds e = ap (λ (c : Checked (List D.CaseFound)). record { result = c; functions = t.functions }) e

both-then : {A B C : Type 0} (x : Typing A) (y : Typing B) (f : A → B → Typing C) (fs gs js hs : List Function) (a : A) (b : B) (r : Result C Halt) → TypesTo (Ok a) (x fs) gs → TypesTo (Ok b) (y gs) js
    → TypesTo r (f a b js) hs → TypesTo r (both x y f fs) hs
both-then {C = C} x y f fs gs js hs a b r p q g = subst (λ (t : Typed C). TypesTo r t hs) (sym (checked-is (beside x y) (λ z. f z.0 z.1) fs js (a, b) (beside-fine x y fs gs js a b p q))) g

pub case-types : (k : Context) (keyword : CaseKeyword) (sought : Expr) (items : List CaseItem) (fs gs hs : List Function) (s u : Result Valued Halt) (v : Vec CaseFound Global) (r : Result R.Stmt Halt) → GoesOn s (Ok u)
    → TypesTo s (D.condition k sought fs) gs → AllFoundTo (Ok v) (items_of k items gs) hs → Gives r (D.case_stmt k (D.case_kind keyword) (found_by k.source u) (map (item_found k.source) v.items))
    → TypesTo r (cases_of k keyword sought items fs) hs
case-types k keyword sought items fs gs hs s u v r on p found g =
    let quiet = goes-on-quiet s u on in
    let m = (D.condition k sought fs).result in
    let kind = D.case_kind keyword in
    let known = known-by s (D.condition k sought fs) gs quiet p in
    let is-found : Found u m = subst (λ (q : Result Valued Halt). Found q m) (sym (goes-on-is s u on)) (found-by s (D.condition k sought fs) gs (not-lacking s quiet) p) in
    let selector : TypesTo (Ok m) (looked_at (D.condition k sought) fs) gs = ap (λ (ls : List Function). looked m ls) known in
    let row = items_of k items gs in
    let given : Gives r (D.case_stmt k kind m found.of) = case-as-found k kind u m v.items found.of r is-found found.found g in
    let made = D.case_stmt k kind m found.of in
    let js = row.functions in
    let ends : TypesTo r (rule made js) hs =
    elim (either k (width_of_all m found.of) v.items found.of (js ≡ hs) found.found found.functions) [
      | inl same ↦ subst (λ (ls : List Function). TypesTo r (rule made js) ls) same (rule-types r made js given)
      | inr loud ↦ loud-types r made js hs (case-loud k kind m found.of loud) given
    ] in
    as-cases k keyword sought items fs hs r
    (both-then (looked_at (D.condition k sought)) (items_of k items) (λ a cs. rule (D.case_stmt k kind a cs)) fs gs js hs m found.of r selector (row-is row found.of found.gives) ends)
  where
    looked : Checked Valued → List Function → Typed (Checked Valued)
    looked c ls = record { result = Ok c; functions = ls }

-- where the selector stops
abbrev stopping : Halt → Result (Result Valued Halt) Halt
stopping h = Err h

same-stop : (g h : Halt) → stopping g ≡ Err h → g ≡ h
same-stop g h e = cc

pub case-stops : (k : Context) (keyword : CaseKeyword) (sought : Expr) (items : List CaseItem) (fs gs hs : List Function) (s : Result Valued Halt) (h : Halt) → GoesOn s (Err h) → TypesTo s (D.condition k sought fs) gs
    → TypesTo {A = R.Stmt} (Err h) (cases_of k keyword sought items fs) hs
case-stops k keyword sought items fs gs hs (Ok v) h on p = absurd (cc)
case-stops k keyword sought items fs gs hs (Err H.Quiet) h on p = absurd (cc)
case-stops k keyword sought items fs gs hs (Err H.Memory) h on p = subst (λ (g : Halt). TypesTo {A = R.Stmt} (Err g) (cases_of k keyword sought items fs) hs) (sym (same-stop h H.Memory on)) tt
case-stops k keyword sought items fs gs hs (Err (H.Breaks at n)) h on p =
    let b : Break = record { at = at; rule = n } in
    let kind = D.case_kind keyword in
    let m = (D.condition k sought fs).result in
    let ls = (D.condition k sought fs).functions in
    let row = items-whole k items ls in
    let js = (items_of k items ls).functions in
    let made = D.case_stmt k kind m row.0 in
    let loud : Loud made = (b, selector-loud k kind m row.0 b p) in
    let ends : TypesTo {A = R.Stmt} (Err (H.Breaks at n)) (rule made js) hs = loud-types (Err (H.Breaks at n)) made js hs loud loud.1 in
    subst (λ (g : Halt). TypesTo {A = R.Stmt} (Err g) (cases_of k keyword sought items fs) hs) (sym (same-stop h (H.Breaks at n) on))
    (as-cases k keyword sought items fs hs (Err (H.Breaks at n))
    (both-then (looked_at (D.condition k sought)) (items_of k items) (λ a cs. rule (D.case_stmt k kind a cs)) fs ls js hs m row.0 (Err (H.Breaks at n)) refl (row-is (items_of k items ls) row.0 row.1) ends))

pub case-lacks : (k : Context) (keyword : CaseKeyword) (sought : Expr) (items : List CaseItem) (fs hs : List Function) (h : Halt) → h ≡ H.Memory → TypesTo {A = R.Stmt} (Err h) (cases_of k keyword sought items fs) hs
case-lacks k keyword sought items fs hs h e = subst (λ (g : Halt). TypesTo {A = R.Stmt} (Err g) (cases_of k keyword sought items fs) hs) (sym e) tt

-- where the selector or the items aren't there
abbrev a_halt : Halt → Option Halt
a_halt h = Some h

same-halt : (g h : Halt) → a_halt g ≡ Some h → h ≡ g
same-halt g h e = cc

pub case-halts : (k : Context) (keyword : CaseKeyword) (sought : Expr) (items : List CaseItem) (fs gs hs : List Function) (s : Result Valued Halt) (u : Result (Result Valued Halt) Halt) (f : Result (Vec CaseFound Global) Halt) (h : Halt)
    → GoesOn s u → halt_of u f ≡ Some h → TypesTo s (D.condition k sought fs) gs → AllFoundTo f (items_of k items gs) hs → TypesTo {A = R.Stmt} (Err h) (cases_of k keyword sought items fs) hs
case-halts k keyword sought items fs gs hs s (Ok v) (Ok w) h on e p q = absurd (cc)
case-halts k keyword sought items fs gs hs s (Ok v) (Err g) h on e p q = case-lacks k keyword sought items fs hs h (same-halt g h e ∙ q)
case-halts k keyword sought items fs gs hs s (Err g) f h on e p q =
    case-stops k keyword sought items fs gs hs s h (subst (λ (i : Halt). GoesOn s (Err i)) (sym (same-halt g h e)) on) p

-- where both are there
pub case-found : (k : Context) (keyword : CaseKeyword) (sought : Expr) (items : List CaseItem) (fs gs hs : List Function) (s u : Result Valued Halt) (g : Result (Result Valued Halt) Halt) (v : Vec CaseFound Global)
    (f : Result (Vec CaseFound Global) Halt) (kind : CaseKind) (r : Result R.Stmt Halt) → GoesOn s g → g ≡ Ok u → f ≡ Ok v → kind ≡ D.case_kind keyword
    → Gives r (D.case_stmt k kind (found_by k.source u) (map (item_found k.source) v.items)) → TypesTo s (D.condition k sought fs) gs → AllFoundTo f (items_of k items gs) hs → TypesTo r (cases_of k keyword sought items fs) hs
case-found k keyword sought items fs gs hs s u g v f kind r on e is same given p q =
    case-types k keyword sought items fs gs hs s u v r (subst (λ (x : Result (Result Valued Halt) Halt). GoesOn s x) e on) p (subst (λ (x : Result (Vec CaseFound Global) Halt). AllFoundTo x (items_of k items gs) hs) is q)
    (subst (λ (c : CaseKind). Gives r (D.case_stmt k c (found_by k.source u) (map (item_found k.source) v.items))) same given)
