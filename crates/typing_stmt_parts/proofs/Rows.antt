-- Items of `case` statements in a row.
use Rattle.std.proofs.Common.{◌≡◌, ◌<◌, ◌+◌, ℕ, true, false, List, [], ◌∷◌, ◌++◌, drop, length, get_or, map, take, refl, sym, ap, ◌∙◌, subst}
use Rattle.std.specs.Prelude.{◌≤◌, Result, Ok, Err}
use Rattle.std.proofs.lemmas.List.{drop_more, map-append, take-append-drop, take_all, take_more}
use Rattle.sv_tree.specs.declared.statements.CaseItem.{CaseItem, CaseItem-F, out-CaseItem, fold_out-CaseItem}
use Rattle.sv_types.specs.declared.statement.Function.{Function}
use Rattle.expr_type.specs.declared.halt.Halt.{Halt}
use Rattle.expr_type.specs.declared.halt.Halt.TheVariants as H
use Rattle.expr_type.specs.Names.{Context}
use Rattle.expr_type.specs.Statements as D
use Rattle.expr_type.specs.Statements.{CaseMeaning, PartMeaning, StmtMeaning}
use Rattle.expr_type.specs.Typings.{Checked, Typed, Typing, all, applied, joined, whole}
use Rattle.stmt_types.specs.Cases.{AllFound, Found, IsFound, Stops}
use Rattle.stmt_types.specs.Lists.{listed}
use Rattle.stmt_types.specs.declared.cases.CaseFound.{CaseFound}
use Rattle.typing_steps.specs.Steps.{TypesTo}
use Rattle.typing_steps.proofs.Lists.{all-append}
use Rattle.typing_steps.proofs.Turns.{next-fine}
use Rattle.typing_stmt_parts.specs.Items.{AllGoOn, AreFoundTo, IsFoundTo, is_loud, item_of, items_of, values_of}
use Rattle.typing_stmt_parts.proofs.Levels.{CaseLevel, case_level}

-- each item is found, whatever it breaks
level-whole : (z : CaseLevel) (k : Context) (fs : List Function) → (d : D.CaseFound) × ((case_level z k fs).result ≡ Ok d)
level-whole (CaseItem-F.Values es colon body) k fs =
    let r = values_of k es fs in
    (record { is_default = false; values = r.result; body = (D.stmt_meaning body k r.functions).result }, refl)
level-whole (CaseItem-F.Default keyword colon body) k fs = (record { is_default = true; values = Ok []; body = (D.stmt_meaning body k fs).result }, refl)

item-is : (k : Context) (x : CaseItem) (fs : List Function) → item_of k x fs ≡ case_level (out-CaseItem x) k fs
item-is k x fs = ap (λ (m : CaseMeaning). m k fs) (fold_out-CaseItem PartMeaning CaseMeaning StmtMeaning StmtMeaning D.item_step D.case_step D.stmt_step D.else_step x)

item-whole : (k : Context) (x : CaseItem) (fs : List Function) → (d : D.CaseFound) × ((item_of k x fs).result ≡ Ok d)
item-whole k x fs = let w = level-whole (out-CaseItem x) k fs in (w.0, ap (λ (t : Typed D.CaseFound). t.result) (item-is k x fs) ∙ w.1)

abbrev as_one : D.CaseFound → Checked D.CaseFound
as_one d = Ok d

abbrev put : D.CaseFound × List D.CaseFound → Typing (List D.CaseFound)
put p = whole (p.0 ∷ p.1)

pub items-whole : (k : Context) (xs : List CaseItem) (fs : List Function) → (ds : List D.CaseFound) × ((items_of k xs fs).result ≡ Ok ds)
items-whole k [] fs = ([], refl)
items-whole k (x ∷ xs) fs =
    let one = item-whole k x fs in
    let gs = (item_of k x fs).functions in
    let rest = items-whole k xs gs in
    let hs = (items_of k xs gs).functions in (
      one.0 ∷ rest.0,
      ap (λ (c : Checked D.CaseFound). (applied (joined c (items_of k xs gs).result) put hs).result) one.1 ∙ ap (λ (c : Checked (List D.CaseFound)). (applied (joined (as_one one.0) c) put hs).result) rest.1,
    )

-- what goes on, where nothing lacks memory
stops-by : {A : Type 0} (r : Result A Halt) (m : Checked A) (T : Type 0) → Found r m → T → Stops r T
stops-by (Ok a) m T f t = t
stops-by (Err H.Memory) m T f t = absurd f
stops-by (Err (H.Breaks at rule)) m T f t = tt
stops-by (Err H.Quiet) m T f t = t

stops-on : {A : Type 0} (r : Result A Halt) (T U : Type 0) → (T → U) → Stops r T → Stops r U
stops-on (Ok a) T U on s = on s
stops-on (Err H.Memory) T U on s = s
stops-on (Err (H.Breaks at rule)) T U on s = tt
stops-on (Err H.Quiet) T U on s = on s

-- one item behind others
go-on : (cs : List CaseFound) (ds : List D.CaseFound) (c : CaseFound) (T : Type 0) → AllFound cs ds → Stops (listed c.values) T → AllGoOn (cs ++ c ∷ []) T
go-on [] [] c T f s = s
go-on [] (d ∷ ds) c T f s = absurd f
go-on (b ∷ bs) [] c T f s = absurd f
go-on (b ∷ bs) (d ∷ ds) c T f s = stops-on (listed b.values) (AllFound bs ds) (AllGoOn (bs ++ c ∷ []) T) (λ g. go-on bs ds c T g s) f.1

pub all-go-on : (cs : List CaseFound) (ds : List D.CaseFound) (T : Type 0) → AllFound cs ds → T → AllGoOn cs T
all-go-on [] ds T f t = t
all-go-on (c ∷ cs) [] T f t = absurd f
all-go-on (c ∷ cs) (d ∷ ds) T f t = stops-on (listed c.values) (AllFound cs ds) (AllGoOn cs T) (λ g. all-go-on cs ds T g t) f.1

found-behind : (cs : List CaseFound) (ds es : List D.CaseFound) (c : CaseFound) (d : D.CaseFound) → AllFound cs ds → IsFound c d → Stops (listed c.values) (AllFound [] es) → AllFound (cs ++ c ∷ []) (ds ++ d ∷ es)
found-behind [] [] es c d f g s = (g, s)
found-behind [] (e ∷ ds) es c d f g s = absurd f
found-behind (b ∷ bs) [] es c d f g s = absurd f
found-behind (b ∷ bs) (e ∷ ds) es c d f g s = (f.0, stops-on (listed b.values) (AllFound bs ds) (AllFound (bs ++ c ∷ []) (ds ++ d ∷ es)) (λ h. found-behind bs ds es c d h g s) f.1)

-- how far a loop over items has come
pub record FoundSoFar (k : Context) (xs : List CaseItem) (cs : List CaseFound) (fs gs : List Function) : Type 0 where
  pub of : List D.CaseFound
  pub gives : TypesTo (Ok of) (items_of k xs fs) gs
  pub found : AllFound cs of

pub none-yet : (k : Context) (cs : List CaseFound) (fs : List Function) → cs ≡ [] → FoundSoFar k [] cs fs fs
none-yet k cs fs none = record { of = []; gives = refl; found = subst (λ (bs : List CaseFound). AllFound bs []) (sym none) tt }

more : (k : Context) (xs : List CaseItem) (i : ℕ) (x : CaseItem) → i < length xs → x ≡ get_or xs i x → map (item_of k) (take (i + 1) xs) ≡ map (item_of k) (take i xs) ++ item_of k x ∷ []
more k xs i x within is =
    ap (map (item_of k)) (take_more xs i x within) ∙ map-append (item_of k) (take i xs) (get_or xs i x ∷ []) ∙ ap (λ (y : CaseItem). map (item_of k) (take i xs) ++ item_of k y ∷ []) (sym is)

typed-as : {A : Type 0} (t : Typed A) (a : A) (gs : List Function) → t.result ≡ Ok a → t.functions ≡ gs → t ≡ record { result = Ok a; functions = gs }
typed-as {A = A} t a gs e f = ap (λ (c : Checked A). record { result = c; functions = t.functions }) e ∙ ap (λ (hs : List Function). made a hs) f
  where
    made : {A : Type 0} → A → List Function → Typed A
    made a hs = record { result = Ok a; functions = hs }

quiet-then : {A : Type 0} (r : Result A Halt) (T : Type 0) → is_loud r ≡ false → Stops r T → T
quiet-then (Ok a) T n s = s
quiet-then (Err H.Memory) T n s = absurd s
quiet-then (Err (H.Breaks at rule)) T n s = absurd (cc)
quiet-then (Err H.Quiet) T n s = s

-- one more item, whose values break nothing
pub item-more : (k : Context) (xs : List CaseItem) (i : ℕ) (x : CaseItem) (cs bs : List CaseFound) (c : CaseFound) (fs gs hs : List Function) → i < length xs → x ≡ get_or xs i x → bs ≡ cs ++ c ∷ [] → is_loud (listed c.values) ≡ false
    → FoundSoFar k (take i xs) cs fs gs → IsFoundTo c (item_of k x gs) hs → FoundSoFar k (take (i + 1) xs) bs fs hs
item-more k xs i x cs bs c fs gs hs within is pushed quiet s f =
    let known = quiet-then (listed c.values) ((item_of k x gs).functions ≡ hs) quiet f.functions in
    let here : TypesTo (Ok f.of) (item_of k x gs) hs = typed-as (item_of k x gs) f.of hs f.gives known in
    let row = next-fine (map (item_of k) (take i xs)) (item_of k x) fs gs hs s.of f.of s.gives here in
    record {
      of = s.of ++ f.of ∷ [];
      gives = subst (λ (ts : List (Typing D.CaseFound)). TypesTo (Ok (s.of ++ f.of ∷ [])) (all ts fs) hs) (sym (more k xs i x within is)) row;
      found = subst (λ (as' : List CaseFound). AllFound as' (s.of ++ f.of ∷ [])) (sym pushed) (found-behind cs s.of [] c f.of s.found f.found (stops-by (listed c.values) f.of.values (AllFound [] []) f.found.values tt));
    }

-- all items
pub all-found : (k : Context) (xs : List CaseItem) (n : ℕ) (cs : List CaseFound) (fs gs : List Function) → length xs ≤ n → FoundSoFar k (take n xs) cs fs gs → AreFoundTo cs (items_of k xs fs) gs
all-found k xs n cs fs gs over s =
    let all-typed : TypesTo (Ok s.of) (items_of k xs fs) gs = subst (λ (ys : List CaseItem). TypesTo (Ok s.of) (items_of k ys fs) gs) (take_all n xs over) s.gives in
    record {
      of = s.of;
      gives = ap (λ (t : Typed (List D.CaseFound)). t.result) all-typed;
      functions = all-go-on cs s.of ((items_of k xs fs).functions ≡ gs) s.found (ap (λ (t : Typed (List D.CaseFound)). t.functions) all-typed);
      found = s.found;
    }

-- an item whose values break a rule, with whatever stands behind it
abbrev together : List D.CaseFound × List D.CaseFound → Typing (List D.CaseFound)
together p = whole (p.0 ++ p.1)

split : (k : Context) (xs : List CaseItem) (i : ℕ) (x : CaseItem) → i < length xs → x ≡ get_or xs i x → map (item_of k) xs ≡ map (item_of k) (take i xs) ++ (item_of k x ∷ map (item_of k) (drop (i + 1) xs))
split k xs i x within is =
    ap (map (item_of k)) (sym (take-append-drop i xs)) ∙ map-append (item_of k) (take i xs) (drop i xs)
    ∙ ap (λ (ys : List CaseItem). map (item_of k) (take i xs) ++ map (item_of k) ys) (drop_more xs i x within ∙ ap (λ (y : CaseItem). y ∷ drop (i + 1) xs) (sym is))

row-whole : (xs ys : List (Typing D.CaseFound)) (fs gs : List Function) (as' bs : List D.CaseFound) → TypesTo (Ok as') (all xs fs) gs → (all ys gs).result ≡ Ok bs → (all (xs ++ ys) fs).result ≡ Ok (as' ++ bs)
row-whole xs ys fs gs as' bs p q =
    (all-append xs ys fs).fine (as' ++ bs)
    (ap (λ (t : Typed (List D.CaseFound)). let s = all ys t.functions in (applied (joined t.result s.result) together s.functions).result) p
    ∙ ap (λ (c : Checked (List D.CaseFound)). (applied (joined (as_row as') c) together (all ys gs).functions).result) q)
  where
    as_row : List D.CaseFound → Checked (List D.CaseFound)
    as_row ds = Ok ds

loud-then : {A : Type 0} (r : Result A Halt) (m : Checked A) (T : Type 0) → is_loud r ≡ true → Found r m → Stops r T
loud-then (Ok a) m T l f = absurd (cc)
loud-then (Err H.Memory) m T l f = absurd f
loud-then (Err (H.Breaks at rule)) m T l f = tt
loud-then (Err H.Quiet) m T l f = absurd (cc)

pub found-loud : (k : Context) (xs : List CaseItem) (i : ℕ) (x : CaseItem) (cs bs : List CaseFound) (c : CaseFound) (fs gs hs : List Function) → i < length xs → x ≡ get_or xs i x → bs ≡ cs ++ c ∷ [] → is_loud (listed c.values) ≡ true
    → FoundSoFar k (take i xs) cs fs gs → IsFoundTo c (item_of k x gs) hs → AreFoundTo bs (items_of k xs fs) hs
found-loud k xs i x cs bs c fs gs hs within is pushed loud s f =
    let ys = drop (i + 1) xs in
    let js = (item_of k x gs).functions in
    let rest = items-whole k ys js in
    let behind : (items_of k (x ∷ ys) gs).result ≡ Ok (f.of ∷ rest.0) =
    ap (λ (d : Checked D.CaseFound). (applied (joined d (items_of k ys js).result) put (items_of k ys js).functions).result) f.gives
    ∙ ap (λ (d : Checked (List D.CaseFound)). (applied (joined (as_one f.of) d) put (items_of k ys js).functions).result) rest.1 in
    let row = row-whole (map (item_of k) (take i xs)) (item_of k x ∷ map (item_of k) ys) fs gs s.of (f.of ∷ rest.0) s.gives behind in
    let of = s.of ++ (f.of ∷ rest.0) in
    let values = f.found.values in
    let known : Type 0 = (items_of k xs fs).functions ≡ hs in
    record {
      of = of;
      gives = ap (λ (ts : List (Typing D.CaseFound)). (all ts fs).result) (split k xs i x within is) ∙ row;
      functions = subst (λ (as' : List CaseFound). AllGoOn as' known) (sym pushed) (go-on cs s.of c known s.found (loud-then (listed c.values) f.of.values known loud values));
      found = subst (λ (as' : List CaseFound). AllFound as' of) (sym pushed)
          (found-behind cs s.of rest.0 c f.of s.found f.found (loud-then (listed c.values) f.of.values (AllFound [] rest.0) loud values));
    }
