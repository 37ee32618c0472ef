-- On what it hangs whether the loops of a statement are bounded: on which bits are sure, and not on what they hold.
use Rattle.std.proofs.Common.{◌≡◌, ℕ, ◌==◌, ◌&&◌, ◌||◌, not, List, [], ◌∷◌, ◌++◌, map, Option, Some, None, refl, ap, sym, subst}
use Rattle.std.specs.List.{list_any, list_all}
use Rattle.sv_types.specs.declared.expression.Expr.{Expr}
use Rattle.sv_types.specs.declared.statement.Local.{Local}
use Rattle.sv_types.specs.declared.statement.Stmt.{Stmt}
use Rattle.sv_types.specs.declared.statement.CaseItem.{CaseItem}
use Rattle.sv_types.specs.Surroundings.{Sight, Callee, local_number}
use Rattle.sv_types.specs.Meanings.{Meaning}
use Rattle.sv_types.specs.Expressions.{meaning}
use Rattle.sv_types.specs.Flows.{covers, whole_local}
use Rattle.sv_types.specs.Statements as S
use Rattle.sv_types.specs.Statements.{Doing, Item, doing, scope, scope_flow, flows, marks_of, initial_of, flow_or_nothing, none_or, in_loop, is_bounded, actual_roots, roots_by_way}
use Rattle.sv_types.proofs.DoingLevels as D
use Rattle.sv_types.proofs.DoingLevels.{item_of, perhaps}
use Rattle.flow_laws.proofs.Naming.{SameSure, tells, and-same}
use Rattle.flow_laws.proofs.Terms.{Each, OrNone, Steps, by-stmt}

-- the same bits are sure, and the functions are the same
pub record SameSights (j k : Sight) : Type 0 where
  pub sure : SameSure j k
  pub callee : j.around.callee ≡ k.around.callee

abbrev Every : (Doing → Type 0) → List Doing → Type 0
Every P [] = Unit {0}
Every P (d ∷ ds) = P d × Every P ds

every-append : (P : Doing → Type 0) (ds es : List Doing) → Every P ds → Every P es → Every P (ds ++ es)
every-append P [] es h g = g
every-append P (d ∷ ds) es h g = (h.0, every-append P ds es h.1 g)

-- a loop's sight of its turns
pub turn-sights : (n : ℕ) (first : Meaning) (j k : Sight) → SameSights j k → SameSights (in_loop n first j) (in_loop n first k)
turn-sights n first j k same = record {
  sure = λ q. ap (λ b. b || covers (whole_local n first.of.two_state) q) (same.sure q);
  callee = same.callee;
}

-- whether loops are bounded
abbrev BoundedSame : Doing → Type 0
BoundedSame d = (j k : Sight) → SameSights j k → d.bounded j ≡ d.bounded k

every-bounded : (ds : List Doing) → Every BoundedSame ds → (j k : Sight) → SameSights j k → list_all (λ (d : Doing). d.bounded j) ds ≡ list_all (λ (d : Doing). d.bounded k) ds
every-bounded [] h j k same = refl
every-bounded (d ∷ ds) h j k same =
    and-same (d.bounded j) (list_all (λ (e : Doing). e.bounded j) ds) (d.bounded k) (list_all (λ (e : Doing). e.bounded k) ds) (h.0 j k same) (every-bounded ds h.1 j k same)

bounded-stmts : (ss : List Stmt) → Each (λ s. BoundedSame (doing s)) ss → Every BoundedSame (map doing ss)
bounded-stmts [] h = tt
bounded-stmts (s ∷ ss) h = (h.0, bounded-stmts ss h.1)

bounded-items : (is : List CaseItem) → Each (λ (i : CaseItem). BoundedSame (doing i.body)) is → Every BoundedSame (map (λ (i : Item). i.does) (map item_of is))
bounded-items [] h = tt
bounded-items (i ∷ is) h = (subst BoundedSame (ap (λ (x : Item). x.does) (sym (D.item-of i))) h.0, bounded-items is h.1)

bounded-other : (other : Option Stmt) → OrNone (λ s. BoundedSame (doing s)) other → Every BoundedSame (none_or (perhaps other))
bounded-other None h = tt
bounded-other (Some s) h = (h, tt)

bounded-loop : (n : ℕ) (first test step : Expr) (d : Doing) → BoundedSame d → BoundedSame (S.looping n (meaning first) (meaning test) (meaning step) d)
bounded-loop n first test step d h j k same =
    let inner = turn-sights n (meaning first) j k same in
    let f = meaning first in
    let j' = in_loop n f j in
    let k' = in_loop n f k in
    let free = λ (c : ℕ → Callee). not (list_any (λ (m : ℕ). m == local_number n) (d.targets (λ g. (c g).formals))) in
    and-same (f.constant j && ((meaning test).constant j' && (meaning step).constant j')) (free j.around.callee && d.bounded j')
    (f.constant k && ((meaning test).constant k' && (meaning step).constant k')) (free k.around.callee && d.bounded k')
    (and-same (f.constant j) ((meaning test).constant j' && (meaning step).constant j') (f.constant k) ((meaning test).constant k' && (meaning step).constant k') ((tells first).constant j k same.sure)
    (and-same ((meaning test).constant j') ((meaning step).constant j') ((meaning test).constant k') ((meaning step).constant k') ((tells test).constant j' k' inner.sure) ((tells step).constant j' k' inner.sure)))
    (and-same (free j.around.callee) (d.bounded j') (free k.around.callee) (d.bounded k') (ap free same.callee) (h j' k' inner))

bounded-made : (ls : List Local) (ss : List Stmt) (body : Option Stmt) → Every BoundedSame (map doing ss) → OrNone (λ s. BoundedSame (doing s)) body → BoundedSame (S.made ls (map doing ss) (perhaps body))
bounded-made ls ss None h g j k same = every-bounded (map doing ss) h j k same
bounded-made ls ss (Some s) h g j k same = every-bounded (map doing ss ++ doing s ∷ []) (every-append BoundedSame (map doing ss) (doing s ∷ []) h (g, tt)) j k same

bounded-steps : Steps (λ s. BoundedSame (doing s)) (λ (i : CaseItem). BoundedSame (doing i.body))
bounded-steps = record {
  item = λ i h. h;
  block = λ ls ss h. subst BoundedSame (sym (D.doing-Block ls ss)) (λ j k same. every-bounded (map doing ss) (bounded-stmts ss h) j k same);
  branch = λ on body other h g. subst BoundedSame (sym (D.doing-If on body other)) (λ j k same. every-bounded (doing body ∷ none_or (perhaps other)) (h, bounded-other other g) j k same);
  select = λ kind on is other h g. subst BoundedSame (sym (D.doing-Case kind on is other)) (λ j k same.
      every-bounded (map (λ (i : Item). i.does) (map item_of is) ++ none_or (perhaps other)) (every-append BoundedSame (map (λ (i : Item). i.does) (map item_of is)) (none_or (perhaps other)) (bounded-items is h) (bounded-other other g)) j k same);
  loop = λ n first test step body spot h. subst BoundedSame (sym (D.doing-Loop n first test step body spot)) (bounded-loop n first test step (doing body) h);
  assign = λ to value later spot. subst BoundedSame (sym (D.doing-Assign to value later spot)) (λ j k same. refl);
  call = λ f es spot. subst BoundedSame (sym (D.doing-Call f es spot)) (λ j k same. refl);
  made = λ ls ss body h g. subst BoundedSame (sym (D.doing-Made ls ss body)) (bounded-made ls ss body (bounded-stmts ss h) g);
  breaks = subst BoundedSame (sym D.doing-Break) (λ j k same. refl);
  continues = subst BoundedSame (sym D.doing-Continue) (λ j k same. refl);
  returns = subst BoundedSame (sym D.doing-Return) (λ j k same. refl);
}

pub bounded-same : (s : Stmt) → BoundedSame (doing s)
bounded-same = by-stmt (λ s. BoundedSame (doing s)) (λ (i : CaseItem). BoundedSame (doing i.body)) bounded-steps
