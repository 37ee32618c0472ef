-- Loops that break no rule on bounds are bounded.
use Rattle.std.proofs.Common.{◌≡◌, ℕ, Bool, true, false, ◌&&◌, ◌==◌, not, cond, List, [], ◌∷◌, ◌++◌, map, flat_map, Option, Some, None, refl, ap, sym, ◌∙◌, subst}
use Rattle.std.specs.List.{list_any, list_all}
use Rattle.sv_types.specs.declared.expression.Expr.{Expr}
use Rattle.sv_types.specs.declared.statement.Local.{Local}
use Rattle.sv_types.specs.declared.statement.Stmt.{Stmt}
use Rattle.sv_types.specs.declared.statement.CaseItem.{CaseItem}
use Rattle.sv_types.specs.declared.statement.Way.{Way}
use Rattle.sv_types.specs.declared.statement.Way.TheVariants as Y
use Rattle.sv_types.specs.Surroundings.{Parameter, Sight, local_number}
use Rattle.sv_types.specs.Meanings.{Meaning}
use Rattle.sv_types.specs.Expressions.{meaning}
use Rattle.sv_types.specs.Statements as S
use Rattle.sv_types.specs.Statements.{Doing, Item, doing, in_loop, roots_by_way, actual_roots}
use Rattle.sv_types.proofs.DoingLevels as D
use Rattle.sv_types.proofs.DoingLevels.{item_of}
use Rattle.design_breaks.specs.Unrolling.{starts_of}
use Rattle.design_breaks.specs.Actions as A
use Rattle.design_breaks.specs.Actions.{Actions, Passed, actions, is_out, passed_out, roots_of, is_counted, together}
use Rattle.break_laws.specs.Laws.{formals_of, LoopsAreBounded}
use Rattle.break_laws.proofs.Lists.{is_none, none-append, none-is}
use Rattle.break_laws.proofs.ActionLevels as L
use Rattle.break_laws.proofs.ActionLevels.{item_actions, control_of}
use Rattle.flow_laws.proofs.Terms.{Each, OrNone, Steps, by-stmt}

and-again : (a b c : Bool) → ((a && b) && c) ≡ (a && (b && c))
and-again true b c = refl
and-again false b c = refl

-- both say the same of targets and of bounds
pub record Agree (a : Actions) (d : Doing) : Type 0 where
  pub targets : (fs : ℕ → List Parameter) → a.targets fs ≡ d.targets fs
  pub bounded : (k : Sight) → is_none (a.unbounded (formals_of k) k) ≡ d.bounded k

abbrev AllAgree : List Actions → List Doing → Type 0
AllAgree [] [] = Unit {0}
AllAgree [] (d ∷ ds) = ⊥
AllAgree (a ∷ as') [] = ⊥
AllAgree (a ∷ as') (d ∷ ds) = Agree a d × AllAgree as' ds

agree-append : (as' bs : List Actions) (ds es : List Doing) → AllAgree as' ds → AllAgree bs es → AllAgree (as' ++ bs) (ds ++ es)
agree-append [] bs [] es h g = g
agree-append [] bs (d ∷ ds) es h g = elim h [ ]
agree-append (a ∷ as') bs [] es h g = elim h [ ]
agree-append (a ∷ as') bs (d ∷ ds) es h g = (h.0, agree-append as' bs ds es h.1 g)

all-targets : (fs : ℕ → List Parameter) (as' : List Actions) (ds : List Doing) → AllAgree as' ds → flat_map (λ (a : Actions). a.targets fs) as' ≡ flat_map (λ (d : Doing). d.targets fs) ds
all-targets fs [] [] h = refl
all-targets fs [] (d ∷ ds) h = elim h [ ]
all-targets fs (a ∷ as') [] h = elim h [ ]
all-targets fs (a ∷ as') (d ∷ ds) h =
    ap (λ xs. xs ++ flat_map (λ (b : Actions). b.targets fs) as') (h.0.targets fs) ∙ ap (λ xs. d.targets fs ++ xs) (all-targets fs as' ds h.1)

all-bounded : (k : Sight) (as' : List Actions) (ds : List Doing) → AllAgree as' ds
    → is_none (flat_map (λ (a : Actions). a.unbounded (formals_of k) k) as') ≡ list_all (λ (d : Doing). d.bounded k) ds
all-bounded k [] [] h = refl
all-bounded k [] (d ∷ ds) h = elim h [ ]
all-bounded k (a ∷ as') [] h = elim h [ ]
all-bounded k (a ∷ as') (d ∷ ds) h =
    none-append (a.unbounded (formals_of k) k) (flat_map (λ (b : Actions). b.unbounded (formals_of k) k) as')
    ∙ ap (λ b. b && is_none (flat_map (λ (b : Actions). b.unbounded (formals_of k) k) as')) (h.0.bounded k)
    ∙ ap (λ b. d.bounded k && b) (all-bounded k as' ds h.1)

-- statements that are made of others
agree-together : (es : List Expr) (as' : List Actions) (ds : List Doing) (d : Doing) → AllAgree as' ds → ((fs : ℕ → List Parameter) → flat_map (λ (e : Doing). e.targets fs) ds ≡ d.targets fs)
    → ((k : Sight) → list_all (λ (e : Doing). e.bounded k) ds ≡ d.bounded k) → Agree (together es as') d
agree-together es as' ds d h targets bounded = record {
  targets = λ fs. all-targets fs as' ds h ∙ targets fs;
  bounded = λ k. all-bounded k as' ds h ∙ bounded k;
}

count-agrees : (a : Actions) (d : Doing) → Agree a d → Agree (A.counted a) d
count-agrees a d h = record { targets = h.targets; bounded = h.bounded }

abbrev Claim : Stmt → Type 0
Claim s = Agree (actions s) (doing s)

abbrev ItemClaim : CaseItem → Type 0
ItemClaim i = Claim i.body

stmts-agree : (ss : List Stmt) → Each Claim ss → AllAgree (map actions ss) (map doing ss)
stmts-agree [] h = tt
stmts-agree (s ∷ ss) h = (h.0, stmts-agree ss h.1)

other-agrees : (other : Option Stmt) → OrNone Claim other → AllAgree (A.none_or (L.perhaps other)) (S.none_or (D.perhaps other))
other-agrees None h = tt
other-agrees (Some s) h = (h, tt)

item-agrees : (i : CaseItem) → ItemClaim i → Agree (item_actions i).body (item_of i).does
item-agrees i h =
    subst (λ (a : A.Item). Agree a.body (item_of i).does) (sym (L.actions-of-item i)) (subst (λ (x : Item). Agree (actions i.body) x.does) (sym (D.item-of i)) h)

items-agree : (is : List CaseItem) → Each ItemClaim is → AllAgree (A.item_bodies (map item_actions is)) (map (λ (i : Item). i.does) (map item_of is))
items-agree [] h = tt
items-agree (i ∷ is) h = (item-agrees i h.0, items-agree is h.1)

-- a loop
loop-agrees : (n : ℕ) (first test step : Expr) (body : Stmt) (spot : _) → Claim body
    → Agree (A.looping (control_of n first test step spot) (actions body)) (S.looping n (meaning first) (meaning test) (meaning step) (doing body))
loop-agrees n first test step body spot h = record {
  targets = λ fs. ap (λ ns. local_number n ∷ ns) (h.targets fs);
  bounded = λ k.
      let j = in_loop n (meaning first) k in
      let c = control_of n first test step spot in
      let bounds = (meaning first).constant k && ((meaning test).constant j && (meaning step).constant j) in
      let spared = λ (ns : List ℕ). not (list_any (λ (x : ℕ). x == local_number n) ns) in
      none-append (cond (is_counted c (actions body) (formals_of k) k) [] (spot.at ∷ [])) ((actions body).unbounded (formals_of k) j)
      ∙ ap (λ b. b && is_none ((actions body).unbounded (formals_of k) j)) (none-unless (is_counted c (actions body) (formals_of k) k) spot.at)
      ∙ ap (λ b. is_counted c (actions body) (formals_of k) k && b) (h.bounded j)
      ∙ ap (λ ns. (bounds && spared ns) && (doing body).bounded j) (h.targets (formals_of k))
      ∙ and-again bounds (spared ((doing body).targets (formals_of k))) ((doing body).bounded j);
}
  where
    none-unless : (b : Bool) (at : ℕ) → is_none (cond b [] (at ∷ [])) ≡ b
    none-unless true at = refl
    none-unless false at = refl

-- targets
roots-same : (es : List Expr) → roots_of es ≡ flat_map (λ (m : Meaning). m.roots) (map meaning es)
roots-same [] = refl
roots-same (e ∷ es) = ap (λ ns. (meaning e).roots ++ ns) (roots-same es)

abbrev places_out : List Passed → List ℕ
places_out ps = flat_map (λ (p : Passed). p.to) ps

passed-same : (ps : List Parameter) (es : List Expr) → places_out (passed_out ps es) ≡ actual_roots ps (map meaning es)
passed-same [] es = refl
passed-same (p ∷ ps) [] = refl
passed-same (p ∷ ps) (e ∷ es) = by p.way ∙ ap (λ ns. roots_by_way p.way (meaning e) ++ ns) (passed-same ps es)
  where
    one : Passed
    one = record { at = e.spot.at; to = (meaning e).roots }

    by : (w : Way) → places_out (cond (is_out w) (one ∷ []) [] ++ passed_out ps es) ≡ roots_by_way w (meaning e) ++ places_out (passed_out ps es)
    by Y.Input = refl
    by Y.Output = refl
    by Y.Inout = refl

made-agrees : (ls : List Local) (ss : List Stmt) (body : Option Stmt) → Each Claim ss → OrNone Claim body
    → Agree (A.made ls (map actions ss) (L.perhaps body)) (S.made ls (map doing ss) (D.perhaps body))
made-agrees ls ss None h g =
    let all = agree-together (starts_of ls) (map actions ss) (map doing ss) (S.made ls (map doing ss) None) (stmts-agree ss h) (λ fs. refl) (λ k. refl) in
    record { targets = all.targets; bounded = all.bounded }
made-agrees ls ss (Some s) h g =
    let all = agree-together (starts_of ls) (map actions ss ++ actions s ∷ []) (map doing ss ++ doing s ∷ []) (S.made ls (map doing ss) (Some (doing s)))
    (agree-append (map actions ss) (actions s ∷ []) (map doing ss) (doing s ∷ []) (stmts-agree ss h) (g, tt)) (λ fs. refl) (λ k. refl) in
    record { targets = all.targets; bounded = all.bounded }

both : (a a' : Actions) (d d' : Doing) → a ≡ a' → d ≡ d' → Agree a' d' → Agree a d
both a a' d d' h g is = subst (λ x. Agree x d) (sym h) (subst (λ y. Agree a' y) (sym g) is)

claims : Steps Claim ItemClaim
claims = record {
  item = λ i h. h;
  block = λ ls ss h. both _ _ _ _ (L.actions-Block ls ss) (D.doing-Block ls ss)
      (count-agrees _ _ (agree-together (starts_of ls) (map actions ss) (map doing ss) (S.counted (S.scope ls (map doing ss))) (stmts-agree ss h) (λ fs. refl) (λ k. refl)));
  branch = λ on body other h g. both _ _ _ _ (L.actions-If on body other) (D.doing-If on body other)
      (count-agrees _ _ (agree-together (on ∷ []) (actions body ∷ A.none_or (L.perhaps other)) (doing body ∷ S.none_or (D.perhaps other)) (S.counted (S.branching (meaning on) (doing body) (D.perhaps other))) (h, other-agrees other g) (λ fs. refl) (λ k. refl)));
  select = λ kind on is other h g. both _ _ _ _ (L.actions-Case kind on is other) (D.doing-Case kind on is other)
      (count-agrees _ _ (agree-together (on ∷ A.item_values (map item_actions is)) (A.item_bodies (map item_actions is) ++ A.none_or (L.perhaps other)) (map (λ (i : Item). i.does) (map item_of is) ++ S.none_or (D.perhaps other)) (S.counted (S.selecting kind (meaning on) (map item_of is) (D.perhaps other)))
      (agree-append (A.item_bodies (map item_actions is)) (A.none_or (L.perhaps other)) (map (λ (i : Item). i.does) (map item_of is)) (S.none_or (D.perhaps other)) (items-agree is h) (other-agrees other g)) (λ fs. refl) (λ k. refl)));
  loop = λ n first test step body spot h. both _ _ _ _ (L.actions-Loop n first test step body spot) (D.doing-Loop n first test step body spot) (loop-agrees n first test step body spot h);
  assign = λ to value later spot. both _ _ _ _ (L.actions-Assign to value later spot) (D.doing-Assign to value later spot) (record { targets = λ fs. roots-same to; bounded = λ k. refl });
  call = λ f es spot. both _ _ _ _ (L.actions-Call f es spot) (D.doing-Call f es spot) (record { targets = λ fs. passed-same (fs f) es; bounded = λ k. refl });
  made = λ ls ss body h g. both _ _ _ _ (L.actions-Made ls ss body) (D.doing-Made ls ss body) (made-agrees ls ss body h g);
  breaks = both _ _ _ _ L.actions-Break D.doing-Break (record { targets = λ fs. refl; bounded = λ k. refl });
  continues = both _ _ _ _ L.actions-Continue D.doing-Continue (record { targets = λ fs. refl; bounded = λ k. refl });
  returns = both _ _ _ _ L.actions-Return D.doing-Return (record { targets = λ fs. refl; bounded = λ k. refl });
}

pub agrees : (s : Stmt) → Agree (actions s) (doing s)
agrees = by-stmt Claim ItemClaim claims

pub are-bounded : LoopsAreBounded
are-bounded s k = (λ none. sym ((agrees s).bounded k) ∙ ap is_none none, λ is. none-is ((actions s).unbounded (formals_of k) k) ((agrees s).bounded k ∙ is))
